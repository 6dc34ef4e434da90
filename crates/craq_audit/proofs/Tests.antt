-- The results of tests.
use Rattle.std.proofs.Common.{◌≡◌, ◌<◌, ℕ, Bool, true, false, List, [], ◌∷◌, Option, Some, None, refl, arith, inl, inr}
use Rattle.std.specs.Prelude.{IsTrue, is_some, Contains}
use Rattle.std.specs.Ordering.{is_ge, nat_cmp}
use Rattle.craq_model.specs.declared.step.Out.{Out}
use Rattle.craq_model.specs.Members.{is_member}
use Rattle.craq_causality.proofs.Orders.{IsIn, from_contains, to_contains}
use Rattle.craq_merge.proofs.Seated.{member_in}
use Rattle.craq_audit.specs.Lookups.{Found, IsOut}

pub no_true : {A : Type 0} → IsTrue false → A
no_true h = cc

pub not_both : {A : Type 0} (b : Bool) → b ≡ true → b ≡ false → A
not_both b h k = cc

pub not_ge : (a b : ℕ) → is_ge (nat_cmp a b) ≡ false → a < b
not_ge a b h = grind (arith, h)

pub no_some : {A X : Type 0} (x : X) → None ≡ Some x → A
no_some x h = cc

pub some_same : {X : Type 0} (x y : X) → Some x ≡ Some y → x ≡ y
some_same x y h = cc

pub is_none : {X : Type 0} (o : Option X) → is_some o ≡ false → o ≡ None
is_none None h = refl
is_none (Some x) h = cc

in_member : (members : List ℕ) (id : ℕ) → is_member members id ≡ true → IsIn members id
unfolding is_member
in_member [] id h = cc
in_member (m ∷ members) id h = grind (arith, h, in_member members id)

pub member_contains : (members : List ℕ) (id : ℕ) → is_member members id ≡ true → Contains members id
member_contains members id h = to_contains members id (in_member members id h)

pub contains_member : (members : List ℕ) (id : ℕ) → Contains members id → is_member members id ≡ true
contains_member members id h = member_in members id (from_contains members id h)

out_in : (os : List Out) (o : Out) → Found (IsOut o) os → IsIn os o
out_in [] o f = absurd f
out_in (x ∷ os) o (inl e) = inl e
out_in (x ∷ os) o (inr f) = inr (out_in os o f)

in_out : (os : List Out) (o : Out) → IsIn os o → Found (IsOut o) os
in_out [] o f = absurd f
in_out (x ∷ os) o (inl e) = inl e
in_out (x ∷ os) o (inr f) = inr (in_out os o f)

pub out_contains : (os : List Out) (o : Out) → Found (IsOut o) os → Contains os o
out_contains os o f = to_contains os o (out_in os o f)

pub contains_out : (os : List Out) (o : Out) → Contains os o → Found (IsOut o) os
contains_out os o c = in_out os o (from_contains os o c)
