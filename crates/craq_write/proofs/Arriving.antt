-- Entries from the predecessor that a node takes.
use Rattle.std.proofs.Common.{◌≡◌, ◌<◌, ℕ, ◌+◌, Bool, true, false, List, [], ◌∷◌, Some, None, refl, arith}
use Rattle.std.proofs.lemmas.Bool.Decides.{nat_tests}
use Rattle.std.specs.Prelude.{nat_le, nat_lt, not, if◌then◌else◌}
use Rattle.craq_commands.specs.declared.entry.Entry.{Entry}
use Rattle.craq_model.specs.declared.step.Why.TheVariants.{NotNeighbour, AlreadyHave, OutOfOrder}
use Rattle.craq_model.specs.Deliveries.{are_applicable, entries_above, entries_transition, final_position, first_position, taken_entries_transition}
use Rattle.craq_model.specs.Members.{is_id}
use Rattle.craq_model.specs.Plain.{Plain, length_of, newest, predecessor, with_entries}
use Rattle.craq_write.specs.Rows.{why_ignored}
use Rattle.craq_write.proofs.Rows.{one_above}

-- there is no reason to ignore the entries
none_of : (a b c : Bool) → (if not a then Some NotNeighbour else if b then Some AlreadyHave else if c then Some OutOfOrder else None) ≡ None → (a ≡ true) × (b ≡ false) × (c ≡ false)
none_of true true c h = absurd cc
none_of true false true h = absurd cc
none_of true false false h = (refl, refl, refl)
none_of false b c h = absurd cc

-- the entries that the node lacks are taken, if they are applicable
pub lacking_taken : (p : Plain) (sender : ℕ) (es next : List Entry) → why_ignored p sender (first_position es) (final_position es) ≡ None → entries_above (length_of p) es ≡ next → are_applicable (newest p) next ≡ true → entries_transition p sender es ≡ taken_entries_transition (with_entries p next) next
unfolding entries_transition
lacking_taken p sender es next h e a =
    let none = none_of (is_id (predecessor p) sender) (nat_le (final_position es) (length_of p)) (nat_lt (length_of p + 1) (first_position es)) h in
    rw (none.0, none.1, none.2, e, a) refl

not_within : (m n : ℕ) → nat_le m n ≡ false → n < m
not_within m n h = grind (arith, nat_tests, h)

pub one_taken : (p : Plain) (sender : ℕ) (e : Entry) → why_ignored p sender e.position e.position ≡ None → are_applicable (newest p) (e ∷ []) ≡ true → entries_transition p sender (e ∷ []) ≡ taken_entries_transition (with_entries p (e ∷ [])) (e ∷ [])
one_taken p sender e h a =
    let none = none_of (is_id (predecessor p) sender) (nat_le e.position (length_of p)) (nat_lt (length_of p + 1) e.position) h in
    lacking_taken p sender (e ∷ []) (e ∷ []) h (one_above (length_of p) e (not_within e.position (length_of p) none.1)) a
