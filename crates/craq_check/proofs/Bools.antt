-- Steps over tests.
use Rattle.std.proofs.Common.{◌≡◌, Bool, true, false, refl, sym}
use Rattle.std.specs.Prelude.{◌&&◌, ◌||◌, not, if◌then◌else◌}

pub and_both : (a b : Bool) → (a && b) ≡ true → (a ≡ true) × (b ≡ true)
and_both true b h = (refl, h)
and_both false b h = (h, cc)

pub both_and : (a b : Bool) → a ≡ true → b ≡ true → (a && b) ≡ true
both_and true b p q = q
both_and false b p q = p

pub or_neither : (a b : Bool) → (a || b) ≡ false → (a ≡ false) × (b ≡ false)
or_neither true b h = (h, cc)
or_neither false b h = (refl, h)

pub neither_or : (a b : Bool) → a ≡ false → b ≡ false → (a || b) ≡ false
neither_or true b p q = p
neither_or false b p q = q

pub not_false : (b : Bool) → not b ≡ true → b ≡ false
not_false true h = sym h
not_false false h = refl

pub not_true : (b : Bool) → b ≡ false → not b ≡ true
not_true true h = sym h
not_true false h = refl

-- a test that is needed only if another passes
pub only_if : (b x : Bool) → (b ≡ true → x ≡ true) → (if b then x else true) ≡ true
only_if true x f = f refl
only_if false x f = refl

pub if_so : (b x : Bool) → (if b then x else true) ≡ true → b ≡ true → x ≡ true
if_so true x h e = h
if_so false x h e = cc

-- a test that passes adds nothing
pub first_met : (a b : Bool) → a ≡ true → b ≡ (a && b)
first_met true b h = refl
first_met false b h = cc
