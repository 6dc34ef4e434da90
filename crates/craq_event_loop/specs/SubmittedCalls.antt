-- A call that a session submits, and its outcome, which comes at once or later.
use Rattle.std.specs.Prelude.{◌≡◌, Option, None, Some, Result, Ok, Err, IfErr}
use Rattle.craq_seat.specs.declared.token.CallToken.{CallToken}
use Rattle.craq_names.specs.declared.refusal.Refusal.{Refusal}
use Rattle.craq_seat.specs.RefusedCalls.{CanRefuse}
use Rattle.craq_frames.specs.Payload.{NamesNode}
use Rattle.craq_seat.specs.Calls.{Called}
use Rattle.craq_event_loop.specs.Turns.{Refusing}
use Rattle.craq_event_loop.specs.declared.connection_state.Phase.{Phase}
use Rattle.craq_event_loop.specs.declared.connection_state.Phase.TheVariants as phases
use Rattle.craq_event_loop.specs.declared.connection_state.CallRequest.{CallRequest}

-- a call may be refused with whatever an ask of its kind may be refused with
abbrev pub MayHaveAny : Refusing → CallRequest → Type 0
MayHaveAny refuses q = (e : Refusal) → CanRefuse q.ask e → refuses q.node q.pass q.ask e

-- the outcome of a call can be reported: it is an answer, or a refusal that has an encoding
abbrev pub IsReportable : Result Called Refusal → Type 0
IsReportable outcome = IfErr outcome (λ e. NamesNode e)

-- calls that were submitted in sessions: the session before, the request, its immediate reply, if there was one, or the refusal of a call
-- that was not made, and the session after
abbrev pub Submitting : Type 0 → Type 0 → Type 1
Submitting T R = T → CallRequest → Option (Result R Refusal) → T → Type 0

-- calls that were finished in sessions: the session before, the request, the reply, the outcome, and the session after
abbrev pub Finishing : Type 0 → Type 0 → Type 1
Finishing T R = T → CallRequest → R → Result Called Refusal → T → Type 0

-- the immediate reply to a call that was submitted: it, the refusal of a call that was not made, or nothing, where a completion will come
abbrev pub at_once : {R : Type 0} → Result (Option R) Refusal → Option (Result R Refusal)
at_once (Ok None) = None
at_once (Ok (Some reply)) = Some (Ok reply)
at_once (Err e) = Some (Err e)

-- the outcome of a call by its reply: the session finished the call, and a refusal is one that this request can produce
abbrev pub IsFinished : {T R : Type 0} → Finishing T R → CallRequest → R → T → Result Called Refusal → T → Type 0
IsFinished finishes q reply old outcome new = finishes old q reply outcome new × IfErr outcome (λ e. CanRefuse q.ask e)

-- the outcome of a call by its immediate reply: the session finished the call of the reply; or it is the refusal
abbrev pub IsFinishedAtOnce : {T R : Type 0} → Finishing T R → CallRequest → Result R Refusal → T → Result Called Refusal → T → Type 0
IsFinishedAtOnce finishes q (Ok reply) old outcome new = finishes old q reply outcome new
IsFinishedAtOnce finishes q (Err e) old outcome new = (outcome ≡ Err e) × (new ≡ old)

-- the call was submitted in the session; and it has this outcome at once, or a completion will come
abbrev pub IsSubmitted : {T R : Type 0} → Submitting T R → Finishing T R → CallRequest → T → Option (Result Called Refusal) → T → Type 0
IsSubmitted submits finishes q old None new = submits old q None new
IsSubmitted {T} {R} submits finishes q old (Some outcome) new =
    (came : Result R Refusal) × (mid : T) × submits old q (Some came) mid × IsFinishedAtOnce finishes q came mid outcome new

-- calls that were submitted in sessions: the request, the session before, the immediate outcome, if there was one, and the session after
abbrev pub Calling : Type 0 → Type 1
Calling T = CallRequest → T → Option (Result Called Refusal) → T → Type 0

-- the calls that a backend takes under a token
abbrev pub called_by : {T R : Type 0} → (CallToken → Submitting T R) → Finishing T R → CallToken → Calling T
called_by submits finishes token = IsSubmitted (submits token) finishes

-- a call with this immediate outcome: it is refused as it may be; or it may be refused with whatever an ask of its kind may be
abbrev pub IsRefusedAtOnce : Refusing → CallRequest → Option (Result Called Refusal) → Type 0
IsRefusedAtOnce refuses q (Some (Err e)) = refuses q.node q.pass q.ask e
IsRefusedAtOnce refuses q came = MayHaveAny refuses q

-- the call that is under way was submitted, and had this immediate outcome; where none is under way none was submitted, and nothing came
abbrev pub IsAsked : {T : Type 0} → Refusing → Calling T → Phase → T → Option (Result Called Refusal) → T → Type 0
IsAsked refuses calls (phases.Waits q later) old came new = calls q old came new × IsRefusedAtOnce refuses q came
IsAsked refuses calls phase old came new = (came ≡ None) × (new ≡ old)

-- the outcome of the call that is under way by its completion; where none is under way nothing happened in the session
abbrev pub IsOutcome : {T R : Type 0} → Finishing T R → Phase → R → T → Result Called Refusal → T → Type 0
IsOutcome finishes (phases.Waits q later) reply old outcome new = IsFinished finishes q reply old outcome new
IsOutcome finishes phase reply old outcome new = new ≡ old

-- the call of a request in a session, from its submission to its outcome, which came at once or by a completion
pub data HasCalled {T R : Type 0} (submits : Submitting T R) (finishes : Finishing T R) (q : CallRequest) (old : T) (outcome : Result Called Refusal) (new : T) : Type 0 where
  directly : IsSubmitted submits finishes q old (Some outcome) new → HasCalled submits finishes q old outcome new
  by_completion : (mid : T) (reply : R) → IsSubmitted submits finishes q old None mid → IsFinished finishes q reply mid outcome new
      → HasCalled submits finishes q old outcome new
