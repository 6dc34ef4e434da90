-- A step of a cell keeps its opening, and is its last.
use Rattle.std.proofs.Common.{◌≡◌, ℕ, Option, Some, None, Result, Ok, Err, refl, sym, ap, ◌∙◌}
use Rattle.std.specs.Option.{IsSome, option_map}
use Rattle.craq_names.specs.declared.refusal.Refusal.{Refusal}
use Rattle.craq_model.specs.declared.ask.Event.{Event}
use Rattle.craq_model.specs.declared.step.Step.{Step}
use Rattle.craq_model.specs.Plain.{Plain}
use Rattle.craq_seat.specs.declared.journal.Receipt.{Receipt}
use Rattle.craq_seat.specs.declared.journal.Opening.{Opening}
use Rattle.craq_seat.specs.declared.journal.Record.{Record}
use Rattle.craq_seat.specs.Cells.{Celled, cell_step, recorded, receipt_of, stamped, with_inside, with_record}
use Rattle.craq_epochs.specs.Mastered.{Mastered}
use Rattle.craq_seat.specs.declared.journal.BookEvent.{BookEvent}
use Rattle.craq_seat.specs.Books.{book_step}
use Rattle.craq_seat.specs.Journal.{Stepping}
use Rattle.craq_seat.specs.Kept.{IsKept}
use Rattle.craq_seat.specs.Stamps.{book_stamp, next_stamp}
use Rattle.craq_seat.specs.Taken.{TakesEvent}

by_record : {N E : Type 0} (c new : Celled N E) (stamp pass : ℕ) (event : E) (r : Result (N × Step) Refusal) → recorded c stamp event pass r ≡ Ok new → new.opening ≡ c.opening
by_record {N} {E} c new stamp pass event (Ok t) h =
    let r : Record E = record { stamp = stamp; event = event; pass = pass; step = t.1 } in
    let e : with_record c t.0 r ≡ new = cc in
    sym (ap (λ (x : Celled N E). x.opening) e)
by_record c new stamp pass event (Err e) h = absurd (cc)

by_stamp : {N E : Type 0} (step : Stepping N E) (c new : Celled N E) (event : E) (pass : ℕ) (s : Result ℕ Refusal) → stamped step c event pass s ≡ Ok new → new.opening ≡ c.opening
by_stamp step c new event pass (Ok stamp) h = by_record c new stamp pass event (step c.inside event) h
by_stamp step c new event pass (Err e) h = absurd (cc)

pub same_opening : {N E : Type 0} (step : Stepping N E) (c new : Celled N E) (event : E) (borne pass : ℕ) → cell_step step c event borne pass ≡ Ok new → new.opening ≡ c.opening
unfolding cell_step
same_opening step c new event borne pass h = by_stamp step c new event pass (next_stamp c.stamp pass borne) h

-- so the receipt of a step names the node of the cell
pub names_cell : {C : Type 0} (R : C → Plain → Type 0) (old new : Celled C Event) (event : Event) (pass : ℕ) (receipt : Receipt) → IsKept R old
    → ((p : Plain) → R old.inside p → TakesEvent R new (with_inside old p) event pass (Ok receipt)) → receipt.node ≡ old.opening.name.node
names_cell R old new event pass receipt kept takes =
    let t = takes kept.named.0 kept.named.1 in
    ap (λ (x : Receipt). x.node) t.1.1 ∙ ap (λ (o : Opening). o.name.node) (same_opening _ (with_inside old kept.named.0) (with_inside new t.0) event _ pass t.1.0)

-- the receipt of a master's step names the node of the cell
pub names_book : (old new : Celled Mastered BookEvent) (event : BookEvent) (pass : ℕ) (receipt : Receipt) → (cell_step book_step old event (book_stamp event) pass ≡ Ok new) × (receipt ≡ receipt_of new)
    → receipt.node ≡ old.opening.name.node
names_book old new event pass receipt takes =
    ap (λ (x : Receipt). x.node) takes.1 ∙ ap (λ (o : Opening). o.name.node) (same_opening book_step old new event (book_stamp event) pass takes.0)

last_by_record : {N E : Type 0} (c new : Celled N E) (stamp pass : ℕ) (event : E) (r : Result (N × Step) Refusal) → recorded c stamp event pass r ≡ Ok new → new.last ≡ None → ⊥
last_by_record {N} {E} c new stamp pass event (Ok t) h none =
    let r : Record E = record { stamp = stamp; event = event; pass = pass; step = t.1 } in
    let e : with_record c t.0 r ≡ new = cc in
    let last : Some t.1 ≡ new.last = ap (λ (x : Celled N E). x.last) e in
    absurd (cc)
last_by_record c new stamp pass event (Err e) h none = absurd (cc)

last_by_stamp : {N E : Type 0} (step : Stepping N E) (c new : Celled N E) (event : E) (pass : ℕ) (s : Result ℕ Refusal) → stamped step c event pass s ≡ Ok new → new.last ≡ None → ⊥
last_by_stamp step c new event pass (Ok stamp) h none = last_by_record c new stamp pass event (step c.inside event) h none
last_by_stamp step c new event pass (Err e) h none = absurd (cc)

has_last : {N E : Type 0} (step : Stepping N E) (c new : Celled N E) (event : E) (borne pass : ℕ) → cell_step step c event borne pass ≡ Ok new → new.last ≡ None → ⊥
unfolding cell_step
has_last step c new event borne pass h none = last_by_stamp step c new event pass (next_stamp c.stamp pass borne) h none

-- a node's cell has a last step after its step
pub cell_has_last : {C : Type 0} (R : C → Plain → Type 0) (old new : Celled C Event) (event : Event) (pass : ℕ) (receipt : Receipt) → IsKept R old
    → ((p : Plain) → R old.inside p → TakesEvent R new (with_inside old p) event pass (Ok receipt)) → new.last ≡ None → ⊥
cell_has_last R old new event pass receipt kept takes none =
    let t = takes kept.named.0 kept.named.1 in
    has_last _ (with_inside old kept.named.0) (with_inside new t.0) event _ pass t.1.0 none

-- and a master's after its step
pub book_has_last : (old new : Celled Mastered BookEvent) (event : BookEvent) (pass : ℕ) (receipt : Receipt) → (cell_step book_step old event (book_stamp event) pass ≡ Ok new) × (receipt ≡ receipt_of new) → new.last ≡ None → ⊥
book_has_last old new event pass receipt takes none = has_last book_step old new event (book_stamp event) pass takes.0 none

-- a borrowed value exists if the value does
pub some_lent : {S T : Type 0} (f : S → T) (lent : Option S) (o : Option T) → option_map f lent ≡ o → (o ≡ None → ⊥) → IsSome lent
some_lent f None o e some = absurd (some (sym e))
some_lent f (Some x) o e some = refl

-- so a node's cell lends its last step
pub cell_lends_last : {C S : Type 0} (R : C → Plain → Type 0) (old new lender : Celled C Event) (event : Event) (pass : ℕ) (receipt : Receipt) (f : S → Step) (lent : Option S) → IsKept R old
    → ((p : Plain) → R old.inside p → TakesEvent R new (with_inside old p) event pass (Ok receipt)) → lender ≡ new → option_map f lent ≡ lender.last → IsSome lent
cell_lends_last {C} R old new lender event pass receipt f lent kept takes same e =
    some_lent f lent new.last (e ∙ ap (λ (x : Celled C Event). x.last) same) (cell_has_last R old new event pass receipt kept takes)
