-- Laws of the bytes of a connection: where nothing was read or written, in a slab, and after events under one key after another.
use Rattle.std.proofs.Common.{◌≡◌, ◌≢◌, ◌≤◌, ◌<◌, ℕ, zero, suc, ◌+◌, length, take, get_or, arith, length-append, List, [], ◌∷◌, ◌++◌, Option, Some, None, Result, Ok, Err, OnOk, OnErr, ◌⊎◌, ◌↔◌, inl, inr, sym, refl, subst, ◌∙◌}
use Rattle.std.specs.Io.KnownBytes.{Appends, Consumes}
use Rattle.std.proofs.lemmas.List.{append-nil, append_assoc, take_more}
use Rattle.craq_event_loop.specs.SubmittedCalls.{Finishing}
use Rattle.craq_event_loop.specs.ConnectionStates.{Holds}
use Rattle.craq_event_loop.specs.declared.connection_state.ConnectionState.{ConnectionState}
use Rattle.craq_frames.specs.declared.ask.ClientMessage.{ClientMessage}
use Rattle.craq_event_loop.specs.declared.connection_state.CallRequest.{CallRequest}
use Rattle.craq_event_loop.specs.declared.connection_state.Ending.TheVariants as endings
use Rattle.craq_event_loop.specs.declared.connection_state.Phase.{Phase}
use Rattle.craq_event_loop.specs.declared.connection_state.Phase.TheVariants as phases
use Rattle.craq_seat.specs.declared.queue_state.Completion.{Completion}
use Rattle.craq_seat.specs.declared.token.CallToken.{CallToken}
use Rattle.std.specs.declared.alloc.Global.{Global}
use Rattle.std.specs.declared.collections.VecDeque.{VecDeque}
use Rattle.slab.specs.Slab.{Slab, get, with_value}
use Rattle.slab.proofs.SlabLemmas.{Updates-with_value}
use Rattle.craq_event_loop.specs.declared.connection.Connection.{Connection}
use Rattle.craq_event_loop.specs.declared.socket.Moved.TheVariants as moves
use Rattle.craq_event_loop.specs.Belonging.{Alone, Delivers, DeliversAll, DeliversCompletion, SendsBytes, SendsNow, ReceivesBytes, ReceivesNow, OneByOne, OthersStay, Reads, StaysVacant, TakesCompletion, Wakes, Writes}

-- bytes came where no call was under way
pub heard_waits : {E : Type 0} (p r : Phase) (heard : Result (Unit {0}) E) → p ≡ phases.Idle → OnOk heard ((r ≡ phases.Idle) ⊎ ((m : ClientMessage) × (r ≡ phases.Asks m)))
    → OnErr heard (r ≡ phases.Over endings.Memory) → (q : CallRequest) (later : VecDeque CallRequest Global) → r ≡ phases.Waits q later ↔ p ≡ phases.Waits q later
heard_waits p r (Ok u) idle (inl is) err q later = (λ here. (let no : phases.Idle ≡ phases.Waits q later = sym is ∙ here in cc), λ here. (let no : phases.Idle ≡ phases.Waits q later = sym idle ∙ here in cc))
heard_waits p r (Ok u) idle (inr is) err q later = (λ here. (let no : phases.Asks is.0 ≡ phases.Waits q later = sym is.1 ∙ here in cc), λ here. (let no : phases.Idle ≡ phases.Waits q later = sym idle ∙ here in cc))
heard_waits p r (Err e) idle ok is q later = (λ here. (let no : phases.Over endings.Memory ≡ phases.Waits q later = sym is ∙ here in cc), λ here. (let no : phases.Idle ≡ phases.Waits q later = sym idle ∙ here in cc))

none_came : (a b : Option (List ℕ)) → b ≡ a → Consumes a b []
none_came None b e = tt
none_came (Some xs) None e = cc
none_came (Some xs) (Some ys) e = cc

none_went : (a b : Option (List ℕ)) → b ≡ a → Appends a b []
none_went None b e = tt
none_went (Some xs) None e = cc
none_went (Some xs) (Some ys) e = let same : ys ≡ xs = cc in same ∙ sym (append-nil xs)

pub nothing_came : {T : Type 0} (a b : Option (List ℕ)) (d e : ConnectionState T) → Consumes a b [] → e ≡ d → Reads a b d e
nothing_came a b d e none is = rw is (
  [],
  none,
  record {
    heard = λ read written rounds h. subst (λ (x : List ℕ). Holds d.phase d.codec x written rounds) (sym (append-nil read)) h;
    waits = λ q later. (λ here. here, λ here. here);
    unsent = refl;
    calls = refl;
    session = refl;
  },
)

pub nothing_read : {T : Type 0} (a b : Option (List ℕ)) (d e : ConnectionState T) → b ≡ a → e ≡ d → Reads a b d e
nothing_read a b d e same is = nothing_came a b d e (none_came a b same) is

pub nothing_went : {T : Type 0} (a b : Option (List ℕ)) (d e : ConnectionState T) → Appends a b [] → e ≡ d → Writes a b d e
nothing_went a b d e none is = rw is (
  [],
  none,
  record {
    given = λ read written rounds h. subst (λ (x : List ℕ). Holds d.phase d.codec read x rounds) (sym (append-nil written)) h;
    unsent = refl;
    phase = refl;
    calls = refl;
    session = refl;
  },
)

pub nothing_written : {T : Type 0} (a b : Option (List ℕ)) (d e : ConnectionState T) → b ≡ a → e ≡ d → Writes a b d e
nothing_written a b d e same is = nothing_went a b d e (none_went a b same) is

some_taken : (count : ℕ) (bytes : List ℕ) → moves.Bytes count ≢ moves.Bytes 0 → count ≤ length bytes → take count bytes ≢ []
some_taken zero bytes some few none = some refl
some_taken (suc count) [] some few none = omega (arith, few)
some_taken (suc count) (byte ∷ bytes) some few none = cc

module _ {S T : Type 0} (now : ℕ) (old new : Connection S T) where
  pub not_heard : new.heard ≡ old.heard → new.state ≡ old.state → ReceivesNow now old new
  not_heard same is = inl (same, is)

  pub heard_now : (count : ℕ) (bytes : List ℕ) → moves.Bytes count ≢ moves.Bytes 0 → count ≤ length bytes → new.heard ≡ now
      → ReceivesBytes (take count bytes) old.state new.state → ReceivesNow now old new
  heard_now count bytes some few at receives = inr (at, take count bytes, some_taken count bytes some few, receives)

  pub not_gave : new.heard ≡ old.heard → new.state ≡ old.state → SendsNow now old new
  not_gave same is = inl (same, is)

  pub gave_now : (count : ℕ) (bytes : List ℕ) → moves.Bytes count ≢ moves.Bytes 0 → count ≤ length bytes → new.heard ≡ now
      → SendsBytes (take count bytes) old.state new.state → SendsNow now old new
  gave_now count bytes some few at sends = inr (at, take count bytes, some_taken count bytes some few, sends)

-- the connection under the token's key takes the completion, and then has something to do
pub delivered : {S T R : Type 0} (finishes : Finishing T R) (s t : Slab (Connection S T)) (token : CallToken) (c d : Connection S T) (reply : R)
    → get s token.connection ≡ Some c → TakesCompletion finishes token.call reply c d → Wakes (with_value s token.connection d) t token.connection → Delivers finishes s t token reply
delivered finishes s t token c d reply was takes wakes c' here =
    let e : c' ≡ c = cc in
    let is : get (with_value s token.connection d) token.connection ≡ Some d = (Updates-with_value s token.connection d (rw was refl)).changed in
    rw e (d, wakes d is, takes)

module _ {S T R : Type 0} (finishes : Finishing T R) where
  -- these completions are left, and those behind them are delivered
  abbrev pub AreLeft : List (Completion R) → List (Completion R) → Slab (Connection S T) → Slab (Connection S T) → Type 0
  AreLeft all left old new = (done : List (Completion R)) × (all ≡ left ++ done) × DeliversAll finishes done old new

  pub all_left : (all : List (Completion R)) (s : Slab (Connection S T)) → AreLeft all all s s
  all_left all s = ([], sym (append-nil all), refl)

  pub one_less : (all left rest : List (Completion R)) (completion : Completion R) (s t u : Slab (Connection S T))
      → AreLeft all left s t → left ≡ rest ++ completion ∷ [] → DeliversCompletion finishes completion t u → AreLeft all rest s u
  one_less all left rest completion s t u before last delivers = (
    completion ∷ before.0,
    before.1 ∙ subst (λ (x : List (Completion R)). left ++ before.0 ≡ x ++ before.0) last refl ∙ append_assoc rest (completion ∷ []) before.0,
    (t, before.2, delivers),
  )

  pub none_left : (all left : List (Completion R)) (s t : Slab (Connection S T)) → AreLeft all left s t → left ≡ [] → DeliversAll finishes all s t
  none_left all left s t before none =
      subst (λ (x : List (Completion R)). DeliversAll finishes x s t)
      (sym (before.1 ∙ subst (λ (x : List (Completion R)). left ++ before.0 ≡ x ++ before.0) none refl))
      before.2

-- as many completions as there were, one by one
pub one_shorter : {R : Type 0} (left rest : List (Completion R)) (completion : Completion R) (index all : ℕ) → left ≡ rest ++ completion ∷ [] → length left + index ≡ all → length rest + (index + 1) ≡ all
one_shorter {R = R} left rest completion index all last long =
    let is : length (rest ++ completion ∷ []) + index ≡ all = subst (λ (x : List (Completion R)). length x + index ≡ all) last long in
    omega (arith, length-append rest (completion ∷ []), is)

pub none_long : {R : Type 0} (left : List (Completion R)) (index all : ℕ) → length left + index ≡ all → all ≤ index → left ≡ []
none_long [] index all long reached = refl
none_long (completion ∷ rest) index all long reached = absurd (omega (arith, long, reached))

-- the last completion that was left, behind those that are left now
pub last_left : {R : Type 0} (left popped rest : List (Completion R)) (completion : Completion R) → left ≡ popped ++ completion ∷ [] → rest ≡ popped → left ≡ rest ++ completion ∷ []
last_left {R = R} left popped rest completion is same = is ∙ subst (λ (x : List (Completion R)). popped ++ completion ∷ [] ≡ x ++ completion ∷ []) (sym same) refl

module _ {S T : Type 0} (happens : Slab (Connection S T) → Slab (Connection S T) → ℕ → Type 0) where
  -- it happened under one key more, behind all before
  pub one_more : (keys : List ℕ) (one : ℕ) (s t u : Slab (Connection S T)) → OneByOne happens keys s t → Alone happens t u one → OneByOne happens (keys ++ one ∷ []) s u
  one_more [] one s t u before now = (u, subst (λ (x : Slab (Connection S T)). Alone happens x u one) before now, refl)
  one_more (key ∷ keys) one s t u before now = (before.0, before.1, one_more keys one before.0 t u before.2 now)

  pub one_more_at : (keys : List ℕ) (index : ℕ) (s t u : Slab (Connection S T)) → index < length keys → OneByOne happens (take index keys) s t
      → happens t u (get_or keys index 0) → StaysVacant t u (get_or keys index 0) → OthersStay t u (get_or keys index 0)
      → OneByOne happens (take (index + 1) keys) s u
  one_more_at keys index s t u there before now vacant others =
      subst (λ (x : List ℕ). OneByOne happens x s u)
      (sym (take_more keys index 0 there))
      (one_more (take index keys) (get_or keys index 0) s t u before (now, vacant, others))
