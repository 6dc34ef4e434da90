-- Steps of a connection state: a request to its backend, a step, one step on, and the rounds of connections.
use Rattle.std.proofs.Common.{◌≡◌, ◌+◌, ◌%◌, ◌^◌, ◌∙◌, ℕ, Bool, false, List, length, Some, None, Result, Ok, Err, inl, inr, sym, refl, ap, subst}
use Rattle.std.proofs.lemmas.Bool.{cases_eq}
use Rattle.slab.specs.Slab.{Slab, get, with_value}
use Rattle.slab.proofs.SlabLemmas.{Updates-with_value}
use Rattle.craq_names.specs.declared.refusal.Refusal.{Refusal}
use Rattle.craq_seat.specs.Calls.{Called}
use Rattle.craq_seat.specs.declared.token.CallToken.{CallToken}
use Rattle.craq_event_loop.specs.SubmittedCalls.{Calling, Finishing, IsAsked, IsOutcome, IsRefusedAtOnce}
use Rattle.craq_event_loop.specs.ConnectionStates.{AnswersCall, Took, later_calls}
use Rattle.craq_event_loop.specs.Halves.{IsRefusable}
use Rattle.craq_event_loop.specs.Turns.{Refusing}
use Rattle.craq_event_loop.specs.declared.connection_state.UnsentCall.{UnsentCall}
use Rattle.craq_frames.specs.declared.protocol_codec.ProtocolCodec.{ProtocolCodec}
use Rattle.craq_event_loop.specs.declared.door_calls.DoorCalls.{DoorCalls}
use Rattle.craq_event_loop.specs.declared.connection_state.ConnectionState.{ConnectionState}
use Rattle.craq_event_loop.specs.declared.connection_state.Phase.{Phase}
use Rattle.craq_event_loop.specs.declared.connection_state.Phase.TheVariants as phases
use Rattle.craq_event_loop.specs.declared.connection_state.Stepped.TheVariants as steps
use Rattle.craq_event_loop.specs.declared.connection_state.CallRequest.{CallRequest}
use Rattle.craq_event_loop.specs.declared.connection.Connection.{Connection}
use Rattle.craq_event_loop.specs.Advancing.{AsksAhead, AsksAll, AsksBackend, AsksMore, ChangesSession, IsAsBefore, TakesSteps, none, step, call, asks_ahead, asked_none, asked_room, asked_one, TakesRound, rests, HasRound, HasRoundAt, next_call, under_key}
use Rattle.craq_event_loop.specs.Belonging.{ChangesState, GetsOutcome, GetsCompletion, GetsCompletions, came_none, came_one, IsFirst, TakesCompletion}
use Rattle.craq_event_loop.proofs.Completions.{receipt_refusable, refusal_refusable}

-- the state where an outcome came, before it is answered and after
came_back : {T : Type 0} → (old mid new : ConnectionState T) (outcome : Result Called Refusal) → ChangesSession old mid → GetsOutcome outcome mid new → GetsOutcome outcome old new
came_back old mid new outcome same came =
    subst (λ (p : Phase). AnswersCall p outcome new.phase old.codec new.codec old.calls new.calls) same.0
    (subst (λ (t : ProtocolCodec). AnswersCall mid.phase outcome new.phase t new.codec old.calls new.calls) same.1
    (subst (λ (c : DoorCalls). AnswersCall mid.phase outcome new.phase mid.codec new.codec c new.calls) same.2 came))

-- a completion came, and was answered
pub came_by_completion : {T R : Type 0} → (finishes : Finishing T R) (old mid new : ConnectionState T) (reply : R) (outcome : Result Called Refusal)
    → IsOutcome finishes old.phase reply old.session outcome mid.session → mid.phase ≡ old.phase → mid.codec ≡ old.codec → mid.calls ≡ old.calls
    → GetsOutcome outcome mid new → new.session ≡ mid.session → GetsCompletion finishes reply old new
came_by_completion {T} finishes old mid new reply outcome is phase codec calls came kept = (
  outcome,
  subst (λ (x : T). IsOutcome finishes old.phase reply old.session outcome x) (sym kept) is,
  came_back old mid new outcome (phase, codec, calls) came,
)

-- some completions, one after another
pub none_completed : {T R : Type 0} (finishes : Finishing T R) (old : ConnectionState T) → GetsCompletions finishes old old
none_completed finishes old = came_none

pub one_completed : {T R : Type 0} (finishes : Finishing T R) (old mid new : ConnectionState T) (reply : R) → GetsCompletions finishes old mid → GetsCompletion finishes reply mid new → GetsCompletions finishes old new
one_completed finishes old mid new reply before now = came_one mid new reply before now

pub then_completed : {T R : Type 0} (finishes : Finishing T R) (old mid new : ConnectionState T) → GetsCompletions finishes old mid → GetsCompletions finishes mid new → GetsCompletions finishes old new
then_completed finishes old mid _ before came_none = before
then_completed finishes old mid _ before (came_one last new reply between now) = came_one last new reply (then_completed finishes old mid last before between) now

-- of the connection nothing changes but its state, twice
pub changes_then : {S T : Type 0} (c d e : Connection S T) → ChangesState c d → ChangesState d e → ChangesState c e
changes_then {S} {T} c d e first second = second ∙ ap (λ (x : Connection S T). record x { state = e.state; more = e.more; unread = e.unread }) first

-- so it is where calls were asked
pub calls_then : {S T : Type 0} (c d e : Connection S T) → ChangesState (record c { calls = d.calls }) d → ChangesState (record d { calls = e.calls }) e → ChangesState (record c { calls = e.calls }) e
calls_then c d e first second = second ∙ ap (λ x. record (record x { calls = e.calls }) { state = e.state; more = e.more; unread = e.unread }) first

module _ {S T R : Type 0} (finishes : Finishing T R) (number : ℕ) (reply : R) where
  -- a completion of the first call that is under way
  pub takes_first : (c d e : Connection S T) → IsFirst number c → GetsCompletion finishes reply c.state d.state → GetsCompletions finishes d.state e.state → ChangesState c d → ChangesState d e
      → TakesCompletion finishes number reply c e
  takes_first c d e first completes later one two = record {
    own = λ _. (d.state, completes, later);
    another = λ other. absurd (other first);
    rest = changes_then c d e one two;
  }

  -- or of another one
  pub takes_another : (c d : Connection S T) → ¬ (IsFirst number c) → d.state ≡ c.state → ChangesState c d → TakesCompletion finishes number reply c d
  takes_another c d other same rest = record { own = λ first. absurd (other first); another = λ _. same; rest = rest }

-- of which some calls are completed, or none is
pub takes_completions : {S T R : Type 0} (finishes : Finishing T R) (number : ℕ) (reply : R) (c d : Connection S T) → TakesCompletion finishes number reply c d → GetsCompletions finishes c.state d.state
takes_completions {S} {T} {R} finishes number reply c d takes =
    elim (cases_eq ((number + length (later_calls c.state.phase)) % 2 ^ 64) c.calls) [
      | inl own ↦ (let so = takes.own own in then_completed finishes c.state so.0 d.state (came_one c.state so.0 reply came_none so.1) so.2)
      | inr another ↦ subst (λ (x : ConnectionState T). GetsCompletions finishes c.state x) (sym (takes.another another)) came_none
    ]

module _ {T : Type 0} (refuses : Refusing) (submits : ℕ → Calling T) (old : ConnectionState T) (before : ℕ) where
  -- some messages were asked ahead, one after another
  pub none_ahead : AsksMore refuses submits old before old before
  none_ahead = asked_none

  pub one_ahead : (mid new : ConnectionState T) (number after : ℕ) → AsksMore refuses submits old before mid number → after ≡ next_call number → AsksAhead refuses (submits (next_call number)) mid new
      → AsksMore refuses submits old before new after
  one_ahead mid new number after more is asked = subst (λ (x : ℕ). AsksMore refuses submits old before new x) (sym is) (asked_one mid new number more asked)

  pub no_more_ahead : (mid new : ConnectionState T) (number : ℕ) → AsksMore refuses submits old before mid number → IsAsBefore mid new → AsksMore refuses submits old before new number
  no_more_ahead mid new number more same = asked_room mid new number more same

module _ {T : Type 0} (refuses : Refusing) (calls : Calling T) where
  -- nothing came at once: a completion will come, or no call was under way
  pub nothing_came : (phase : Phase) (old new : ConnectionState T) → IsAsked refuses calls phase old.session None new.session
      → new.phase ≡ old.phase → new.codec ≡ old.codec → new.calls ≡ old.calls → AsksBackend refuses calls phase old new
  nothing_came phases.Idle old new is p t c = (is.1, (p, t, c))
  nothing_came (phases.Asks m) old new is p t c = (is.1, (p, t, c))
  nothing_came (phases.Waits q later) old new is p t c = inl (is.0, is.1, (p, t, c))
  nothing_came (phases.Over why) old new is p t c = (is.1, (p, t, c))

  -- an outcome that comes at once and may be a refusal at once may be a refusal of the call
  refusable : (q : CallRequest) (outcome : Result Called Refusal) → IsRefusedAtOnce refuses q (Some outcome) → IsRefusable refuses q outcome
  refusable q (Ok c) may = receipt_refusable refuses q c may
  refusable q (Err e) may = refusal_refusable refuses q e may

  -- this came at once
  pub came_at_once : (phase : Phase) (old mid new : ConnectionState T) (outcome : Result Called Refusal)
      → IsAsked refuses calls phase old.session (Some outcome) mid.session → mid.phase ≡ old.phase → mid.codec ≡ old.codec → mid.calls ≡ old.calls
      → GetsOutcome outcome mid new → new.session ≡ mid.session → AsksBackend refuses calls phase old new
  came_at_once phases.Idle old mid new outcome is p t c came kept = cc
  came_at_once (phases.Asks m) old mid new outcome is p t c came kept = cc
  came_at_once (phases.Waits q later) old mid new outcome is p t c came kept = inr (
    outcome,
    subst (λ (x : T). calls q old.session (Some outcome) x) (sym kept) is.0,
    refusable q outcome is.1,
    came_back old mid new outcome (p, t, c) came,
  )
  came_at_once (phases.Over why) old mid new outcome is p t c came kept = cc

module _ {T : Type 0} (tells : List ℕ → Type 0) (refuses : Refusing) (submits : ℕ → Calling T) (old : ConnectionState T) (before : ℕ) where
  pub none_taken : TakesSteps tells refuses submits old before 0 old before
  none_taken = none

  pub went : (count : ℕ) (mid new : ConnectionState T) (number : ℕ) → TakesSteps tells refuses submits old before count mid number
      → Took tells mid.phase steps.Goes new.phase mid.codec new.codec mid.calls new.calls → new.session ≡ mid.session
      → TakesSteps tells refuses submits old before (count + 1) new number
  went count mid new number taken took same = step count mid new number steps.Goes taken tt took same

  -- a call, and those behind it that were asked ahead
  pub called_all : (count : ℕ) (mid made new : ConnectionState T) (number last : ℕ) (unsent : UnsentCall) → TakesSteps tells refuses submits old before count mid number
      → Took tells mid.phase (steps.Calls unsent) made.phase mid.codec made.codec mid.calls made.calls → made.session ≡ mid.session
      → AsksAll refuses submits made number new last → TakesSteps tells refuses submits old before (count + 1) new last
  called_all count mid made new number last unsent taken took same (asked, backend, more) =
      asks_ahead (count + 1) asked new (next_call number) last (call count mid made asked number unsent taken took same backend) more

module _ {T : Type 0} (most : ℕ) (tells : List ℕ → Type 0) (refuses : Refusing) (submits : ℕ → Calling T) (old : ConnectionState T) (before : ℕ) where
  -- the turn of a connection that is not over
  round_of : (over : Bool) (new : ConnectionState T) (after : ℕ) → over ≡ false → TakesRound most tells refuses submits old before new after
      → HasRound most tells refuses submits over old before new after
  round_of over new after is round = subst (λ (x : Bool). HasRound most tells refuses submits x old before new after) (sym is) round

  pub starved : (over : Bool) (count : ℕ) (mid new : ConnectionState T) (after : ℕ) → over ≡ false → TakesSteps tells refuses submits old before count mid after
      → Took tells mid.phase steps.Starved new.phase mid.codec new.codec mid.calls new.calls → new.session ≡ mid.session
      → HasRound most tells refuses submits over old before new after
  starved over count mid new after is taken took same = round_of over new after is (rests count mid steps.Starved taken tt took same)

  pub stayed : (over : Bool) (count : ℕ) (mid new : ConnectionState T) (after : ℕ) → over ≡ false → TakesSteps tells refuses submits old before count mid after
      → Took tells mid.phase steps.Stays new.phase mid.codec new.codec mid.calls new.calls → new.session ≡ mid.session
      → HasRound most tells refuses submits over old before new after
  stayed over count mid new after is taken took same = round_of over new after is (rests count mid steps.Stays taken tt took same)

module _ {S T : Type 0} (most : ℕ) (tells : List ℕ → Type 0) (refuses : Refusing) where
  -- a connection has had its round in its slab, if its new value is stored under its key
  pub turned_at : (submits : CallToken → Calling T) (s : Slab (Connection S T)) (key : ℕ) (c d : Connection S T)
      → get s key ≡ Some c → HasRound most tells refuses (under_key submits key) c.over c.state c.calls d.state d.calls → ChangesState (record c { calls = d.calls }) d
      → HasRoundAt most tells refuses submits s (with_value s key d) key
  turned_at submits s key c d was took rest c' here =
      let e : c' ≡ c = cc in
      let is : get (with_value s key d) key ≡ Some d = (Updates-with_value s key d (rw was refl)).changed in
      rw e (d, is, took, rest)
