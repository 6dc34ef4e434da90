-- The session of a connection after a call was submitted or finished.
use Rattle.std.proofs.Common.{◌≡◌, ◌⊎◌, ◌∙◌, ◌+◌, ◌-◌, ◌<◌, ◌≤◌, ◌↔◌, Bool, false, IsTrue, ℕ, zero, suc, List, [], ◌∷◌, ◌++◌, drop, Option, None, Some, Result, Ok, Err, IfErr, IfOk, inl, inr, refl, subst, sym, ap, arith}
use Rattle.std.proofs.lemmas.List.{append-nil}
use Rattle.std.proofs.Math.Nat.{lt_of_not-le}
use Rattle.craq_commands.specs.declared.read_mode.ReadMode.TheVariants as modes
use Rattle.craq_names.specs.Limits.{greatest}
use Rattle.craq_names.specs.declared.name.NodeName.{NodeName}
use Rattle.craq_names.specs.declared.refusal.Refusal.{Refusal}
use Rattle.craq_names.specs.declared.refusal.Refusal.TheVariants as refusals
use Rattle.craq_names.specs.declared.refusal.Refusal.TheVariants.{Closed}
use Rattle.craq_model.specs.declared.ask.Ask.{Ask}
use Rattle.craq_model.specs.declared.ask.Ask.TheVariants as asks
use Rattle.craq_seat.specs.RefusedCalls.{CanRefuse}
use Rattle.craq_frames.specs.Payload.{NamesNode}
use Rattle.craq_event_loop.proofs.Reportable.{can_encode}
use Rattle.craq_event_loop.specs.declared.connection_state.CallRequest.{CallRequest}
use Rattle.craq_server.specs.Refusing.{Leaps, RefusesServed}
use Rattle.craq_seat.specs.Calls.{Called}
use Rattle.craq_store_history.specs.declared.entry.CallId.{CallId}
use Rattle.craq_store_history.specs.Chains.{IsHistory}
use Rattle.craq_store_parts.specs.Recorded.{HasAccepted, HasReplied}
use Rattle.craq_store_parts.specs.Sent.{IsMade}
use Rattle.craq_workers.specs.Untaken.{IsGivenUp, LeavesOpen}
use Rattle.craq_server.specs.Sessions.{CallsOnce, Connected, EndsFirst, Finishes, FinishesAnswered, GivesUp, MakesCall, SeesMore, Submits, IsUpTo, calls_from, first_with, next_call, numbered}

-- no call was under way
pub sees_as_much : (old new : Connected) → new.client ≡ old.client → new.made ≡ old.made → new.seen ≡ old.seen → SeesMore old new
sees_as_much old new client made seen = rw seen (client, made, ([], append-nil old.seen))

-- a call was made
pub makes_call : (old new : Connected) (node : NodeName) (ask : Ask) (call : CallId) → call ≡ next_call old → new.calls ≡ old.calls ++ call ∷ [] → IsMade old.seen call node ask new.seen → CallsOnce old new
    → MakesCall old node ask new
makes_call old new node ask call is under_way added once =
    (under_way ∙ ap (λ (x : CallId). old.calls ++ x ∷ []) is, subst (λ (x : CallId). IsMade old.seen x node ask new.seen) is added, once)

-- a call that the session could not make
pub refused_by_make : (leap : ℕ) (old new : Connected) (q : CallRequest) (e : Refusal) → (e ≡ refusals.UnknownChain) ⊎ (e ≡ refusals.Memory) ⊎ ((e ≡ refusals.Exhausted) × (old.made ≡ greatest)) → new ≡ old
    → Submits leap old q (Some (Err e)) new
refused_by_make leap old new q e (inl unknown) same = (inl unknown, same)
refused_by_make leap old new q e (inr (inl memory)) same = (inr (inl memory), same)
refused_by_make leap old new q e (inr (inr none)) same = (inr (inr (none.0, inl none.1)), same)

-- a call whose pass the server does not take
pub refused_for_pass : (leap : ℕ) (old new : Connected) (q : CallRequest) → Leaps leap q.pass → new ≡ old → Submits leap old q (Some (Err refusals.Exhausted)) new
refused_for_pass leap old new q leaps same = (inr (inr (refl, inr leaps)), same)

-- a pass that is not taken
pub leaps : (known leap pass : ℕ) (taken : Bool) → IsTrue taken ↔ ((leap ≡ 0) ⊎ (pass ≤ known + leap)) → taken ≡ false → Leaps leap pass
leaps known leap pass taken says untaken =
    let never : ¬ ((leap ≡ 0) ⊎ (pass ≤ known + leap)) = λ may. (let yes : IsTrue taken = says.1 may in cc) in
    let above : known + leap < pass = lt_of_not-le (λ within. never (inr within)) in
    (λ unset. never (inl unset), omega (arith, above))

-- ---- the calls that are under way, by their numbers

one_more_numbered : (client number count : ℕ) → numbered client number (count + 1) ≡ numbered client number count ++ record { client = client; number = number + count } ∷ []
one_more_numbered client number zero = ap (λ (x : ℕ). record { client = client; number = x } ∷ []) (omega arith)
one_more_numbered client number (suc count) =
    let more : suc count + 1 ≡ suc (count + 1) = omega arith in
    let on : number + 1 + count ≡ number + suc count = omega arith in
    ap (λ (x : ℕ). numbered client number x) more
    ∙ ap (λ (xs : List CallId). record { client = client; number = number } ∷ xs)
    (one_more_numbered client (number + 1) count ∙ ap (λ (x : ℕ). numbered client (number + 1) count ++ record { client = client; number = x } ∷ []) on)

first_numbered : (client number count : ℕ) → 1 ≤ count → numbered client number count ≡ record { client = client; number = number } ∷ numbered client (number + 1) (count - 1)
first_numbered client number zero some = absurd (omega (arith, some))
first_numbered client number (suc count) some =
    let less : count ≡ suc count - 1 = omega arith in
    ap (λ (x : ℕ). record { client = client; number = number } ∷ numbered client (number + 1) x) less

-- the first of several calls
pub first_of_more : (client first next : ℕ) (last : CallId) → IsUpTo client (Some first) last next → first < last.number
    → calls_from client (Some first) next ≡ record { client = last.client; number = first } ∷ calls_from client (Some (first + 1)) next
first_of_more client first next last is more =
    let number : last.number ≡ next - 1 = ap (λ (x : CallId). x.number) is.1 in
    let owner : client ≡ last.client = sym (ap (λ (x : CallId). x.client) is.1) in
    let some : 1 ≤ next - first = omega (arith, is.0) in
    let less : next - first - 1 ≡ next - (first + 1) = omega arith in
    first_numbered client first (next - first) some
    ∙ ap (λ (x : ℕ). record { client = client; number = first } ∷ numbered client (first + 1) x) less
    ∙ ap (λ (x : ℕ). record { client = x; number = first } ∷ numbered client (first + 1) (next - (first + 1))) owner

-- the only one
pub first_of_one : (client first next : ℕ) (last : CallId) → IsUpTo client (Some first) last next → last.number ≤ first → calls_from client (Some first) next ≡ record { client = last.client; number = first } ∷ calls_from client None next
first_of_one client first next last is one =
    let number : last.number ≡ next - 1 = ap (λ (x : CallId). x.number) is.1 in
    let owner : client ≡ last.client = sym (ap (λ (x : CallId). x.client) is.1) in
    let alone : next - first ≡ 1 = omega (arith, is.0, number, one) in
    ap (λ (x : ℕ). numbered client first x) alone ∙ ap (λ (x : ℕ). record { client = x; number = first } ∷ []) owner

pub up_to_more : (client first next : ℕ) (last : CallId) → IsUpTo client (Some first) last next → first < last.number → IsUpTo client (Some (first + 1)) last next
up_to_more client first next last is more =
    let number : last.number ≡ next - 1 = ap (λ (x : CallId). x.number) is.1 in
    (omega (arith, number, more), is.1)

-- one call more, behind others or alone
last_behind : (client first next : ℕ) (last : CallId) → IsUpTo client (Some first) last next → calls_from client (Some first) (next + 1) ≡ calls_from client (Some first) next ++ record { client = client; number = next } ∷ []
last_behind client first next last is =
    let from : next + 1 - first ≡ next - first + 1 = omega (arith, is.0) in
    let to : first + (next - first) ≡ next = omega (arith, is.0) in
    ap (λ (x : ℕ). numbered client first x) from ∙ one_more_numbered client first (next - first)
    ∙ ap (λ (x : ℕ). numbered client first (next - first) ++ record { client = client; number = x } ∷ []) to

last_alone : (client next : ℕ) → calls_from client (Some next) (next + 1) ≡ record { client = client; number = next } ∷ []
last_alone client next =
    let one : next + 1 - next ≡ 1 = omega arith in
    ap (λ (x : ℕ). numbered client next x) one

last_from : (client next : ℕ) (first : Option ℕ) (last call : CallId) → IsUpTo client first last next → call ≡ record { client = client; number = next } → calls_from client (Some (first_with first call.number)) (next + 1) ≡ calls_from client first next ++ call ∷ []
last_from client next None last call is made =
    ap (λ (x : ℕ). calls_from client (Some x) (next + 1)) (ap (λ (x : CallId). x.number) made) ∙ last_alone client next ∙ ap (λ (x : CallId). x ∷ []) (sym made)
last_from client next (Some first) last call is made = last_behind client first next last is ∙ ap (λ (x : CallId). calls_from client (Some first) next ++ x ∷ []) (sym made)

pub makes_first : (client next owner after : ℕ) (first : Option ℕ) (last call : CallId) (calls : List CallId) (start : ℕ) → IsUpTo client first last next → call ≡ record { client = client; number = next } → owner ≡ client → after ≡ next + 1
    → calls ≡ calls_from client first next → start ≡ first_with first call.number → calls_from owner (Some start) after ≡ calls ++ call ∷ []
makes_first client next owner after first last call calls start is made own more same begins =
    ap (λ (x : ℕ). calls_from owner (Some x) after) begins ∙ ap (λ (x : ℕ). calls_from x (Some (first_with first call.number)) after) own ∙ ap (λ (x : ℕ). calls_from client (Some (first_with first call.number)) x) more
    ∙ last_from client next first last call is made ∙ ap (λ (xs : List CallId). xs ++ call ∷ []) (sym same)

reaches_last : (client next : ℕ) (first : Option ℕ) (last call : CallId) → IsUpTo client first last next → call ≡ record { client = client; number = next } → first_with first call.number < next + 1
reaches_last client next None last call is made = (let number : call.number ≡ next = ap (λ (x : CallId). x.number) made in omega (arith, number))
reaches_last client next (Some first) last call is made = omega (arith, is.0)

pub up_to_first : (client next owner after : ℕ) (first : Option ℕ) (last call : CallId) → IsUpTo client first last next → call ≡ record { client = client; number = next } → owner ≡ client → after ≡ next + 1
    → IsUpTo owner (Some (first_with first call.number)) call after
up_to_first client next owner after first last call is made own more =
    let short : first_with first call.number < next + 1 = reaches_last client next first last call is made in
    let number : next ≡ after - 1 = omega (arith, more) in
    (omega (arith, short, more), made ∙ ap (λ (x : ℕ). record { client = x; number = next }) (sym own) ∙ ap (λ (x : ℕ). record { client = owner; number = x }) number)

-- the first call that was under way ended
ends_first : (old new : Connected) (call : CallId) → old.calls ≡ call ∷ new.calls → SeesMore old new → EndsFirst old new
ends_first old new call is more = (more, sym (ap (drop 1) is))

-- none was under way
pub ends_none : (old new : Connected) → old.calls ≡ [] → new.calls ≡ [] → SeesMore old new → EndsFirst old new
ends_none old new none still more = (more, still ∙ sym (ap (drop 1) none))

-- a call was finished by an answer
pub finishes_made : (old new : Connected) (node : NodeName) (reply : Called) (call : CallId) (r : Result Called Refusal) → old.calls ≡ call ∷ new.calls
    → IfOk r (λ c. c ≡ reply) → IfOk r (λ c. HasAccepted new.seen node call c.call) → IfOk r (λ c. HasReplied new.seen node c) → IfOk r (λ c. IsHistory new.seen)
    → IfErr r (λ e. e ≡ Closed) → SeesMore old new → FinishesAnswered old node reply r new
finishes_made old new node reply call (Ok c) is receipt accepted replied history closed more = (receipt, (call, (new.calls, is), accepted, replied), history, ends_first old new call is more)
finishes_made old new node reply call (Err e) is receipt accepted replied history closed more = (closed, ends_first old new call is more)

-- a call was given up
pub gives_up_made : (old new : Connected) (pass : ℕ) (came reported : Refusal) (call : CallId) → old.calls ≡ call ∷ new.calls → (reported ≡ came) ⊎ (reported ≡ Closed)
    → (LeavesOpen came → reported ≡ came) → LeavesOpen reported ⊎ IsGivenUp new.seen call pass reported → SeesMore old new → GivesUp old pass came reported new
gives_up_made old new pass came reported call is either kept (inl leaves) more = record { either = either; kept = λ _. kept; untaken = inl leaves; ends = ends_first old new call is more }
gives_up_made old new pass came reported call is either kept (inr up) more = record { either = either; kept = λ _. kept; untaken = inr (call, (new.calls, is), up); ends = ends_first old new call is more }

-- no call was under way, and none is given up
pub gives_none_up : (old new : Connected) (pass : ℕ) (came : Refusal) → old.calls ≡ [] → new.calls ≡ [] → new.client ≡ old.client → new.made ≡ old.made → new.seen ≡ old.seen → GivesUp old pass came Closed new
gives_none_up old new pass came none still client made seen = record {
  either = inr refl;
  kept = λ some. absurd (some none);
  untaken = inl tt;
  ends = ends_none old new none still (sees_as_much old new client made seen);
}

-- the refusal that a request can have, of one that it may not have
possible : (ask : Ask) (e reported : Refusal) → (CanRefuse ask e → reported ≡ e) → (¬ (CanRefuse ask e) → reported ≡ Closed) → (reported ≡ e) ⊎ (reported ≡ Closed)
possible ask refusals.TwoChains reported same closed = inl (same tt)
possible (asks.Update update) (refusals.NotHead zero) reported same closed = inr (closed (λ no. omega (arith, no.1)))
possible (asks.Update update) (refusals.NotHead (suc n)) reported same closed = inl (same (tt, omega arith))
possible (asks.Read mode object) (refusals.NotHead head) reported same closed = inr (closed (λ no. no.0))
possible ask refusals.NotReady reported same closed = inl (same tt)
possible ask refusals.Stopped reported same closed = inl (same tt)
possible (asks.Update update) refusals.PendingFull reported same closed = inl (same tt)
possible (asks.Read modes.Strong object) refusals.PendingFull reported same closed = inl (same tt)
possible (asks.Read modes.Eventual object) refusals.PendingFull reported same closed = inr (closed (λ no. no))
possible (asks.Read (modes.Bounded k) object) refusals.PendingFull reported same closed = inr (closed (λ no. no))
possible ask refusals.Exhausted reported same closed = inl (same tt)
possible ask refusals.Memory reported same closed = inl (same tt)
possible ask refusals.WrongNode reported same closed = inl (same tt)
possible ask refusals.Closed reported same closed = inl (same tt)
possible ask e reported same closed = inr (closed (λ no. no))

-- each request can have a refusal that leaves open whether a step was taken
can_open : (ask : Ask) (e : Refusal) → LeavesOpen e → CanRefuse ask e
can_open ask refusals.Stopped leaves = tt
can_open ask refusals.Memory leaves = tt
can_open ask refusals.Closed leaves = tt
can_open ask e leaves = absurd leaves

module _ (old new : Connected) (pass : ℕ) (ask : Ask) (came e : Refusal) (up : GivesUp old pass came e new) where
  as_itself : (reported : Refusal) → reported ≡ e → GivesUp old pass came reported new
  as_itself reported is = subst (λ (x : Refusal). GivesUp old pass came x new) (sym is) up

  as_closed : (reported : Refusal) → (CanRefuse ask e → reported ≡ e) → reported ≡ Closed → GivesUp old pass came reported new
  as_closed reported same closed = record {
    either = inr closed;
    kept = λ some leaves.
        let is : e ≡ came = up.kept some leaves in
        let can : CanRefuse ask e = subst (λ (x : Refusal). CanRefuse ask x) (sym is) (can_open ask came leaves) in
        same can ∙ is;
    untaken = inl (subst (λ (x : Refusal). LeavesOpen x) (sym closed) tt);
    ends = up.ends;
  }

  as_either : (reported : Refusal) → (CanRefuse ask e → reported ≡ e) → (reported ≡ e) ⊎ (reported ≡ Closed) → GivesUp old pass came reported new
  as_either reported same (inl is) = as_itself reported is
  as_either reported same (inr is) = as_closed reported same is

  -- so it is where a refusal that this request cannot have becomes Closed
  gives_up_possibly : (reported : Refusal) → (CanRefuse ask e → reported ≡ e) → (¬ (CanRefuse ask e) → reported ≡ Closed) → GivesUp old pass came reported new
  gives_up_possibly reported same closed = as_either reported same (possible ask e reported same closed)

-- the call of a request is finished, and a refusal that the request cannot have becomes Closed
pub finishes_possibly : (old new : Connected) (node : NodeName) (pass : ℕ) (ask : Ask) (reply : Result Called Refusal) (e reported : Refusal) → Finishes old node pass reply (Err e) new
    → (CanRefuse ask e → reported ≡ e) → (¬ (CanRefuse ask e) → reported ≡ Closed) → Finishes old node pass reply (Err reported) new
finishes_possibly old new node pass ask (Ok c) e reported f same closed =
    let can : CanRefuse ask e = subst (λ (x : Refusal). CanRefuse ask x) (sym f.0) tt in
    (same can ∙ f.0, f.1)
finishes_possibly old new node pass ask (Err came) e reported f same closed = gives_up_possibly old new pass ask came e f reported same closed

-- each refusal of a call that was not made has an encoding
refusal_encodable : (chains : ℕ) (node : NodeName) (ask : Ask) (e : Refusal) → RefusesServed chains node ask e → NamesNode e
refusal_encodable chains node ask e (inl exhausted) = subst (λ (x : Refusal). NamesNode x) (sym exhausted) tt
refusal_encodable chains node ask e (inr (inl memory)) = subst (λ (x : Refusal). NamesNode x) (sym memory) tt
refusal_encodable chains node ask e (inr (inr (inl unknown))) = subst (λ (x : Refusal). NamesNode x) (sym unknown.0) tt
refusal_encodable chains node ask e (inr (inr (inr known))) = can_encode ask e known.1

pub served_encodable : {T : Type 0} (chains : ℕ) (node : NodeName) (ask : Ask) (r : Result T Refusal) → IfErr r (λ e. RefusesServed chains node ask e) → IfErr r (λ e. NamesNode e)
served_encodable chains node ask (Ok x) h = tt
served_encodable chains node ask (Err e) h = refusal_encodable chains node ask e h
