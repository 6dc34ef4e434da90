-- The tests of replies decide their rules.
use Rattle.std.proofs.Common.{ℕ, ◌≤◌, Bool, true, not, eqb, leb, List, [], ◌∷◌, length, refl, ap, inl, inr, le-leb}
use Rattle.std.specs.Bool.{Decides}
use Rattle.std.specs.List.{AllByRecursion, list_all}
use Rattle.std.proofs.lemmas.Bool.{leb-true, or_cases, or_left, or_right, cases_eq, eqb-true, eq-eqb, ne_eqb, not-true, not_from_false, eqb-false}
use Rattle.std.proofs.lemmas.Bool.Decides.{Decides-and, Decides-ltb}
use Rattle.std.proofs.lemmas.List.{nil_from_length}
use Rattle.craq_names.specs.Limits.{item_limit}
use Rattle.craq_commands.specs.declared.reply.Reply.{Reply}
use Rattle.craq_commands.specs.declared.reply.Reply.TheVariants.{Written, Mismatch, TooLong, NotANumber, Overflow, Underflow, Done, CompareFailed, Stale}
use Rattle.craq_model.specs.Encodable.{IsObjectRead, IsReply, IsNotStale}
use Rattle.craq_wire.specs.ReplyTests.{is_object_read, is_reply, is_not_stale}

pub decides_le : (a b : ℕ) → Decides (leb a b) (a ≤ b)
decides_le a b = (leb-true a b, le-leb a b)

-- the trivial rule
pub decides_sure : Decides true (Unit {0})
decides_sure = (λ _. tt, λ _. refl)

pub decides_all : {A : Type 0} (p : A → Bool) (P : A → Type 0) → ((x : A) → Decides (p x) (P x)) → (xs : List A) → Decides (list_all p xs) (AllByRecursion P xs)
decides_all p P each [] = decides_sure
decides_all p P each (x ∷ xs) = Decides-and (p x) (list_all p xs) (each x) (decides_all p P each xs)

pub decides_object : (o : ℕ × List ℕ) → Decides (is_object_read o) (IsObjectRead o)
decides_object o = (
  λ t z. elim (or_cases (not (eqb o.0 0)) (eqb (length o.1) 0) t) [
    | inl some ↦ absurd (eqb-false o.0 0 (not-true (eqb o.0 0) some) z)
    | inr none ↦ nil_from_length o.1 (eqb-true (length o.1) 0 none)
  ],
  λ h. elim (cases_eq o.0 0) [
    | inl z ↦ or_right (not (eqb o.0 0)) (eqb (length o.1) 0) (eq-eqb (length o.1) 0 (ap length (h z)))
    | inr some ↦ or_left (not (eqb o.0 0)) (eqb (length o.1) 0) (not_from_false (eqb o.0 0) (ne_eqb o.0 0 some))
  ],
)

pub decides_reply : (r : Reply) → Decides (is_reply r) (IsReply r)
decides_reply (Written version) = decides_le 1 version
decides_reply (Mismatch version) = decides_sure
decides_reply TooLong = decides_sure
decides_reply NotANumber = decides_sure
decides_reply Overflow = decides_sure
decides_reply Underflow = decides_sure
decides_reply (Done objects) = Decides-and _ _ (decides_le (length objects) item_limit) (decides_all is_object_read IsObjectRead decides_object objects)
decides_reply (CompareFailed place) = Decides-ltb place item_limit
decides_reply (Stale last) = decides_sure

pub decides_not_stale : (r : Reply) → Decides (is_not_stale r) (IsNotStale r)
decides_not_stale (Written version) = decides_sure
decides_not_stale (Mismatch version) = decides_sure
decides_not_stale TooLong = decides_sure
decides_not_stale NotANumber = decides_sure
decides_not_stale Overflow = decides_sure
decides_not_stale Underflow = decides_sure
decides_not_stale (Done objects) = decides_sure
decides_not_stale (CompareFailed place) = decides_sure
decides_not_stale (Stale last) = (λ t. absurd cc, λ h. elim h [ ])
