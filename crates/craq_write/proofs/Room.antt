-- Each write of a command has a next version, unless a named object is at the greatest.
use Rattle.std.proofs.Common.{◌≡◌, ◌≢◌, ℕ, Bool, false, List, [], ◌∷◌, ◌++◌, map, Option, Some, None, arith}
use Rattle.std.specs.Prelude.{◌==◌, All}
use Rattle.std.specs.List.{AllByRecursion, list_any}
use Rattle.std.proofs.lemmas.List.Folds.{list_any-append}
use Rattle.std.proofs.lemmas.List.Elements.{All-from_recursion}
use Rattle.craq_names.specs.Limits.{greatest}
use Rattle.craq_names.specs.declared.name.ObjectId.{ObjectId}
use Rattle.craq_commands.specs.declared.command.Command.{Command}
use Rattle.craq_commands.specs.declared.command.Command.TheVariants.{Put, TestAndSet, Append, Prepend, Increment, Decrement, Mini}
use Rattle.craq_commands.specs.Objects.{Objects, version_of, value_of}
use Rattle.craq_commands.specs.Transaction.{Transaction}
use Rattle.craq_commands.specs.Evaluation.{eval, tested, joined, number_at, increased, decreased, transacted, first_difference, objects_named, some_used_up}

-- the object at the key has a next version
abbrev pub HasNext : Objects → List ℕ × List ℕ → Type 0
HasNext m w = version_of m w.0 ≢ greatest

abbrev AllHaveNext : Objects → List (List ℕ × List ℕ) → Type 0
AllHaveNext m ws = AllByRecursion (HasNext m) ws

one_has : (m : Objects) (o : ObjectId) → some_used_up m (o ∷ []) ≡ false → version_of m o.key ≢ greatest
unfolding some_used_up
one_has m o h e = grind (arith, h, e)

tested_has : (m : Objects) (key : List ℕ) (expect : ℕ) (value : List ℕ) → version_of m key ≢ greatest → AllHaveNext m (tested key expect value (version_of m key)).0
unfolding tested
tested_has m key expect value h = grind (arith, h)

joined_has : (m : Objects) (key value : List ℕ) → version_of m key ≢ greatest → AllHaveNext m (joined key value (version_of m key)).0
unfolding joined
joined_has m key value h = grind (arith, h)

increased_has : (m : Objects) (key : List ℕ) (by : ℕ) (n : Option ℕ) → version_of m key ≢ greatest → AllHaveNext m (increased key by (version_of m key) n).0
unfolding increased
increased_has m key by None h = tt
increased_has m key by (Some n) h = grind (arith, h)

decreased_has : (m : Objects) (key : List ℕ) (by : ℕ) (n : Option ℕ) → version_of m key ≢ greatest → AllHaveNext m (decreased key by (version_of m key) n).0
unfolding decreased
decreased_has m key by None h = tt
decreased_has m key by (Some n) h = grind (arith, h)

used : Objects → ObjectId → Bool
used m o = version_of m o.key == greatest

writes_have : (m : Objects) (ws : List (ObjectId × List ℕ)) → list_any (λ (o : ObjectId). version_of m o.key == greatest) (map (λ w. w.0) ws) ≡ false → AllHaveNext m (map (λ w. (w.0.key, w.1)) ws)
writes_have m [] h = tt
writes_have m (w ∷ ws) h = grind (arith, h, writes_have m ws)

last_of_three : {A : Type 0} (p : A → Bool) (xs ys zs : List A) → list_any p (xs ++ ys ++ zs) ≡ false → list_any p zs ≡ false
last_of_three p xs ys zs h = grind (arith, h, list_any-append p (xs ++ ys) zs)

transaction_has : (m : Objects) (t : Transaction) (failed : Option ℕ) → some_used_up m (objects_named (Mini t)) ≡ false → AllHaveNext m (transacted m t failed).0
unfolding transacted some_used_up
transaction_has m t (Some i) h = tt
transaction_has m t None h =
    writes_have m t.writes (last_of_three (λ (o : ObjectId). version_of m o.key == greatest) (map (λ c. c.0) t.compares) t.reads (map (λ w. w.0) t.writes) h)

all_have : (m : Objects) (c : Command) → some_used_up m (objects_named c) ≡ false → AllHaveNext m (eval m c).0
all_have m (Put object value) h = (one_has m object h, tt)
all_have m (TestAndSet object expect value) h = tested_has m object.key expect value (one_has m object h)
all_have m (Append object value) h = joined_has m object.key (value_of m object.key ++ value) (one_has m object h)
all_have m (Prepend object value) h = joined_has m object.key (value ++ value_of m object.key) (one_has m object h)
all_have m (Increment object by) h = increased_has m object.key by (number_at m object.key) (one_has m object h)
all_have m (Decrement object by) h = decreased_has m object.key by (number_at m object.key) (one_has m object h)
all_have m (Mini t) h = transaction_has m t (first_difference m 0 t.compares) h

pub written_have_next : (m : Objects) (c : Command) → some_used_up m (objects_named c) ≡ false → All (HasNext m) (eval m c).0
written_have_next m c h = All-from_recursion (HasNext m) (eval m c).0 (all_have m c h)
