-- The growth of versions.
use Rattle.std.proofs.Common.{◌≡◌, ℕ, ◌+◌, ◌<◌, ◌≤◌, Bool, true, false, cond, length, List, [], ◌∷◌, map, Option, Some, None, unwrap_or, refl, sym, ap, ◌∙◌, subst, arith}
use Rattle.std.specs.Prelude.{◌==◌}
use Rattle.std.specs.Ordering.{eq_by_cmp}
use Rattle.std.specs.Cmp.Lexicographic.{nat_list_cmp_total}
use Rattle.std.specs.FinMap.Entries.{find, find-put}
use Rattle.std.specs.List.{list_any}
use Rattle.craq_names.specs.Limits.{greatest}
use Rattle.craq_names.specs.Maps.{key_cmp}
use Rattle.craq_names.specs.declared.name.ObjectId.{ObjectId}
use Rattle.craq_commands.specs.Objects.{Objects, object_of, version_of, set_object, written}
use Rattle.craq_commands.specs.Evaluation.{eval, tested, joined, increased, decreased, number_at, transacted, first_difference, some_used_up}
use Rattle.craq_commands.specs.declared.command.Command.{Command}
use Rattle.craq_commands.specs.declared.command.Command.TheVariants.{Put, TestAndSet, Append, Prepend, Increment, Decrement, Mini}
use Rattle.craq_check.specs.Tests.{HasVersionsUpTo, HasFewWrites}

object_put : (m : Objects) (w : List ℕ × List ℕ) (key : List ℕ) → object_of (written m w) key ≡ cond (eq_by_cmp key_cmp key w.0) (version_of m w.0 + 1, w.1) (object_of m key)
unfolding object_of set_object
object_put m w key =
    let new : ℕ × List ℕ = (version_of m w.0 + 1, w.1) in
    let split : (b : Bool) → unwrap_or (cond b (Some new) (find key_cmp key m)) (0, []) ≡ cond b new (unwrap_or (find key_cmp key m) (0, [])) = elim [ true ↦ refl | false ↦ refl ] in
    ap (λ (o : Option (ℕ × List ℕ)). unwrap_or o (0, [])) (find-put key_cmp nat_list_cmp_total key w.0 new m)
    ∙ split (eq_by_cmp key_cmp key w.0)

-- before any write
pub none_yet : HasVersionsUpTo 0 []
unfolding HasVersionsUpTo object_of
none_yet key = omega arith

-- a higher bound
pub more_room : (m : Objects) (n k : ℕ) → HasVersionsUpTo n m → n ≤ k → HasVersionsUpTo k m
unfolding HasVersionsUpTo
more_room m n k h more key = let low : version_of m key ≤ n = h key in omega (arith, low, more)

-- a version is not above the bound
pub version_low : (m : Objects) (n : ℕ) (key : List ℕ) → HasVersionsUpTo n m → version_of m key ≤ n
unfolding HasVersionsUpTo
version_low m n key h = h key

-- a write raises versions by one at most
pub written_bound : (m : Objects) (w : List ℕ × List ℕ) (n : ℕ) → HasVersionsUpTo n m → HasVersionsUpTo (n + 1) (written m w)
unfolding HasVersionsUpTo
written_bound m w n h key =
    let at : version_of m w.0 ≤ n = h w.0 in
    let other : version_of m key ≤ n = h key in
    let split : (b : Bool) → (cond b (version_of m w.0 + 1, w.1) (object_of m key)).0 ≤ n + 1 = elim [ true ↦ omega (arith, at) | false ↦ omega (arith, other) ] in
    let P : ℕ → Type 0 = λ v. v ≤ n + 1 in
    subst P (ap (λ (o : ℕ × List ℕ). o.0) (sym (object_put m w key))) (split (eq_by_cmp key_cmp key w.0))

pub written_at : (m r : Objects) (w : List ℕ × List ℕ) (n : ℕ) → r ≡ written m w → HasVersionsUpTo n m → HasVersionsUpTo (n + 1) r
written_at m r w n e h = let P : Objects → Type 0 = HasVersionsUpTo (n + 1) in subst P (sym e) (written_bound m w n h)

-- no object is used up below the greatest version
pub none_used_up : (m : Objects) (n : ℕ) (os : List ObjectId) → HasVersionsUpTo n m → n < greatest → some_used_up m os ≡ false
unfolding some_used_up HasVersionsUpTo
none_used_up m n [] h small = refl
none_used_up m n (o ∷ os) h small =
    let low : version_of m o.key ≤ n = h o.key in
    let rest : list_any (λ (q : ObjectId). version_of m q.key == greatest) os ≡ false = none_used_up m n os h small in
    grind (arith, low, rest, small)

few_tested : (key : List ℕ) (expect : ℕ) (value : List ℕ) (version : ℕ) → length (tested key expect value version).0 ≤ 16
unfolding tested
few_tested key expect value version = grind arith

few_joined : (key value : List ℕ) (version : ℕ) → length (joined key value version).0 ≤ 16
unfolding joined
few_joined key value version = grind arith

few_increased : (key : List ℕ) (by version : ℕ) (n : Option ℕ) → length (increased key by version n).0 ≤ 16
unfolding increased
few_increased key by version None = grind arith
few_increased key by version (Some n) = grind arith

few_decreased : (key : List ℕ) (by version : ℕ) (n : Option ℕ) → length (decreased key by version n).0 ≤ 16
unfolding decreased
few_decreased key by version None = grind arith
few_decreased key by version (Some n) = grind arith

length_map : {A B : Type 0} (f : A → B) (xs : List A) → length (map f xs) ≡ length xs
length_map f [] = refl
length_map f (x ∷ xs) = grind (arith, length_map f xs)

few_transacted : (m : Objects) (compares : List (ObjectId × ℕ)) (reads : List ObjectId) (writes : List (ObjectId × List ℕ)) (failed : Option ℕ) → length writes ≤ 16 → length (transacted m (record { compares = compares; reads = reads; writes = writes }) failed).0 ≤ 16
unfolding transacted
few_transacted m compares reads writes (Some i) h = grind arith
few_transacted m compares reads writes None h =
    let pair : ObjectId × List ℕ → List ℕ × List ℕ = λ w. (w.0.key, w.1) in
    grind (arith, h, length_map pair writes)

-- a command writes 16 objects at most
pub few_written : (m : Objects) (c : Command) → HasFewWrites c → length (eval m c).0 ≤ 16
few_written m (Put object value) h = grind arith
few_written m (TestAndSet object expect value) h = few_tested object.key expect value (version_of m object.key)
few_written m (Append object value) h = few_joined object.key _ (version_of m object.key)
few_written m (Prepend object value) h = few_joined object.key _ (version_of m object.key)
few_written m (Increment object by) h = few_increased object.key by (version_of m object.key) (number_at m object.key)
few_written m (Decrement object by) h = few_decreased object.key by (version_of m object.key) (number_at m object.key)
few_written m (Mini t) h = few_transacted m t.compares t.reads t.writes (first_difference m 0 t.compares) h
