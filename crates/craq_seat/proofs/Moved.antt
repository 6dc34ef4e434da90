-- Calls moved into their receipts: the calls that are left give the receipts of later outputs and
-- wait on.
use Rattle.std.proofs.Common.{◌≡◌, ◌∙◌, ◌==◌, ◌++◌, if◌then◌else◌, append_assoc, append-nil, Result, Ok, Err, ℕ, List, [], ◌∷◌, Bool, true, false, refl, ap, subst, arith, rules}
use Rattle.std.specs.Prelude.{Vec, IfOk}
use Rattle.std.specs.List.{list_any}
use Rattle.std.specs.declared.alloc.AllocError.{AllocError}
use Rattle.std.specs.declared.alloc.Global.{Global}
use Rattle.craq_model.specs.declared.step.Out.{Out}
use Rattle.craq_model.specs.declared.step.Out.TheVariants as outs
use Rattle.craq_seat.specs.declared.calls.Call.{Call}
use Rattle.craq_seat.specs.declared.journal.Receipt.{Receipt}
use Rattle.craq_seat.specs.Calls.{Called, Serves, answers_to, call_under, called_by, called_in, left_by, waiting_after, without_call}

-- under another ticket the same call is found
others_found : (calls : List Call) (ticket other : ℕ) → (other == ticket) ≡ false → call_under (without_call calls ticket) other ≡ call_under calls other
others_found [] ticket other differ = refl
others_found (call ∷ calls) ticket other differ = grind (arith, others_found calls ticket other)

-- so outputs that do not answer the ticket have the same receipts
others_called : (calls : List Call) (ticket : ℕ) (receipt : Receipt) (os : List Out) → list_any (answers_to ticket) os ≡ false → called_in (without_call calls ticket) receipt os ≡ called_in calls receipt os
others_called calls ticket receipt [] none = refl
others_called calls ticket receipt (outs.Send to m ∷ os) none = others_called calls ticket receipt os none
others_called calls ticket receipt (outs.Answer t a ∷ os) none = grind (arith, others_found calls ticket t, others_called calls ticket receipt os)

-- the call of an answered ticket never waits on
answered_goes : (calls : List Call) (ticket : ℕ) (os : List Out) → list_any (answers_to ticket) os ≡ true → waiting_after (without_call calls ticket) os ≡ waiting_after calls os
answered_goes [] ticket os answered = refl
answered_goes (call ∷ calls) ticket os answered = grind (arith, answered_goes calls ticket os)

left_called : (calls : List Call) (ticket : ℕ) (receipt : Receipt) (later : List Out) (is : Bool) → list_any (answers_to ticket) later ≡ is → called_in (if is then calls else without_call calls ticket) receipt later ≡ called_in calls receipt later
left_called calls ticket receipt later true h = refl
left_called calls ticket receipt later false h = others_called calls ticket receipt later h

-- later outputs keep their receipts
pub same_later : (calls : List Call) (receipt : Receipt) (out : Out) (later : List Out) → called_in (left_by calls out later) receipt later ≡ called_in calls receipt later
same_later calls receipt (outs.Send to m) later = refl
same_later calls receipt (outs.Answer ticket answer) later = left_called calls ticket receipt later (list_any (answers_to ticket) later) refl

left_waits : (calls : List Call) (ticket : ℕ) (os : List Out) (is : Bool) → list_any (answers_to ticket) os ≡ true → waiting_after (if is then calls else without_call calls ticket) os ≡ waiting_after calls os
left_waits calls ticket os true h = refl
left_waits calls ticket os false h = answered_goes calls ticket os h

-- one output more does not change which calls wait after all outputs
pub same_after : (calls : List Call) (out : Out) (later os : List Out) → ((ticket : ℕ) → list_any (answers_to ticket) (out ∷ later) ≡ true → list_any (answers_to ticket) os ≡ true) → waiting_after (left_by calls out later) os ≡ waiting_after calls os
same_after calls (outs.Send to m) later os among = refl
same_after calls (outs.Answer ticket answer) later os among = left_waits calls ticket os (list_any (answers_to ticket) later) (among ticket (search (arith, rules)))

-- each ticket that these outputs answer, those answer too
abbrev pub AreAmong : List Out → List Out → Type 0
AreAmong os all = (ticket : ℕ) → list_any (answers_to ticket) os ≡ true → list_any (answers_to ticket) all ≡ true

-- one more output has its receipt
pub one_called : (receipts more : List Called) (first now left : List Call) (receipt : Receipt) (rest later os : List Out) (out : Out) → rest ≡ out ∷ later → left ≡ left_by now out later → more ≡ receipts ++ called_by now receipt out → receipts ++ called_in now receipt rest ≡ called_in first receipt os → more ++ called_in left receipt later ≡ called_in first receipt os
one_called receipts more first now left receipt rest later os out is goes grows so_far =
    rw (goes, grows)
    (ap (λ (rs : List Called). (receipts ++ called_by now receipt out) ++ rs) (same_later now receipt out later)
    ∙ append_assoc receipts (called_by now receipt out) (called_in now receipt later)
    ∙ subst (λ (r : List Out). receipts ++ called_in now receipt r ≡ called_in first receipt os) is so_far)

-- the calls that wait after all outputs are unchanged by the output that is handled next
pub one_after : (first now left : List Call) (rest later os : List Out) (out : Out) → rest ≡ out ∷ later → left ≡ left_by now out later → waiting_after now os ≡ waiting_after first os → AreAmong rest os → waiting_after left os ≡ waiting_after first os
one_after first now left rest later os out is goes so_far among =
    rw goes (same_after now out later os (subst (λ (r : List Out). AreAmong r os) is among) ∙ so_far)

any_more : (ticket : ℕ) (out : Out) (later : List Out) → list_any (answers_to ticket) later ≡ true → list_any (answers_to ticket) (out ∷ later) ≡ true
any_more ticket out later any = grind arith

-- the outputs after it are still among all
pub rest_among : (rest later os : List Out) (out : Out) → rest ≡ out ∷ later → AreAmong rest os → AreAmong later os
rest_among rest later os out is among = λ ticket any. subst (λ (r : List Out). AreAmong r os) is among ticket (any_more ticket out later any)

-- so the calls of a step that accepts no request are answered
pub none_served : (calls left new : List Call) (receipt : Receipt) (os : List Out) (result : Result (Vec Called Global) AllocError) → IfOk result (λ receipts. receipts.items ≡ called_in calls receipt os) → waiting_after left os ≡ waiting_after calls os → new ≡ waiting_after left os → Serves calls new [] receipt os result
none_served calls left new receipt os (Ok receipts) called others after = rw (append-nil calls) (called, after ∙ others)
none_served calls left new receipt os (Err e) called others after = after ∙ others
