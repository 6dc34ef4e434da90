-- A command of one chain writes no key twice.
use Rattle.std.proofs.Common.{◌≡◌, ℕ, ◌+◌, ◌-◌, ◌==◌, nat_lt, Bool, true, false, cond, ◌&&◌, List, [], ◌∷◌, ◌++◌, map, length, Option, Some, None, refl, ap, sym, ◌∙◌}
use Rattle.std.specs.List.{AllByRecursion, IsDistinct, list_all}
use Rattle.std.proofs.lemmas.Bool.{cond_both, and_parts, eqb-true, eq-eqb}
use Rattle.craq_names.specs.Limits.{greatest, value_limit}
use Rattle.craq_names.specs.Maps.{same_bytes}
use Rattle.craq_names.specs.declared.name.ObjectId.{ObjectId}
use Rattle.craq_commands.specs.declared.command.Command.{Command}
use Rattle.craq_commands.specs.declared.command.Command.TheVariants.{Put, TestAndSet, Append, Prepend, Increment, Decrement, Mini}
use Rattle.craq_commands.specs.Transaction.{Transaction, same_object, IsWithinLimits}
use Rattle.std.specs.Int.{to_be_bytes, w64}
use Rattle.craq_commands.specs.declared.reply.Reply.TheVariants.{Mismatch, TooLong, NotANumber, Overflow, Underflow, CompareFailed}
use Rattle.craq_commands.specs.Objects.{Objects, version_of, value_of}
use Rattle.craq_commands.specs.Evaluation.{Outcome, writes_one, writes_none, writes_number, tested, joined, number_at, increased, decreased, first_difference, transacted, eval, objects_named, all_of_chain}
use Rattle.craq_runs.specs.Typed.{IsOfType}

-- the keys of the writes are distinct
abbrev pub WritesOnce : Outcome → Type 0
WritesOnce o = IsDistinct same_bytes (map (λ (w : List ℕ × List ℕ). w.0) o.0)

one_write : (key : List ℕ) (version : ℕ) (value : List ℕ) → WritesOnce (writes_one key version value)
unfolding IsDistinct
one_write key version value = (tt, tt)

all_parts : {A : Type 0} (test : A → Bool) (xs ys : List A) → list_all test (xs ++ ys) ≡ true → (list_all test xs ≡ true) × (list_all test ys ≡ true)
all_parts test [] ys h = (refl, h)
all_parts test (x ∷ xs) ys h =
    let p : (test x ≡ true) × (list_all test (xs ++ ys) ≡ true) = and_parts (test x) (list_all test (xs ++ ys)) h in
    let r : (list_all test xs ≡ true) × (list_all test ys ≡ true) = all_parts test xs ys p.1 in
    (ap (λ b. b && list_all test xs) p.0 ∙ r.0, r.1)

-- objects of one chain differ by their keys
apart : (chain : ℕ) (o : ObjectId) (ws : List (ObjectId × List ℕ)) → o.chain ≡ chain → list_all (λ (o : ObjectId). o.chain == chain) (map (λ (w : ObjectId × List ℕ). w.0) ws) ≡ true
    → AllByRecursion (λ (q : ObjectId). same_object o q ≡ false) (map (λ (w : ObjectId × List ℕ). w.0) ws)
    → AllByRecursion (λ (key : List ℕ). same_bytes o.key key ≡ false) (map (λ (w : List ℕ × List ℕ). w.0) (map (λ (w : ObjectId × List ℕ). (w.0.key, w.1)) ws))
apart chain o [] e h a = tt
apart chain o (w ∷ ws) e h a =
    let p : ((w.0.chain == chain) ≡ true) × (list_all (λ (o : ObjectId). o.chain == chain) (map (λ (w : ObjectId × List ℕ). w.0) ws) ≡ true) =
    and_parts (w.0.chain == chain) (list_all (λ (o : ObjectId). o.chain == chain) (map (λ (w : ObjectId × List ℕ). w.0) ws)) h in
    let same : (o.chain == w.0.chain) ≡ true = eq-eqb o.chain w.0.chain (e ∙ sym (eqb-true w.0.chain chain p.0)) in
    (sym (ap (λ b. b && same_bytes o.key w.0.key) same) ∙ a.0, apart chain o ws e p.1 a.1)

distinct_keys : (chain : ℕ) (ws : List (ObjectId × List ℕ)) → list_all (λ (o : ObjectId). o.chain == chain) (map (λ (w : ObjectId × List ℕ). w.0) ws) ≡ true
    → IsDistinct same_object (map (λ (w : ObjectId × List ℕ). w.0) ws) → IsDistinct same_bytes (map (λ (w : List ℕ × List ℕ). w.0) (map (λ (w : ObjectId × List ℕ). (w.0.key, w.1)) ws))
unfolding IsDistinct
distinct_keys chain [] h d = tt
distinct_keys chain (w ∷ ws) h d =
    let p : ((w.0.chain == chain) ≡ true) × (list_all (λ (o : ObjectId). o.chain == chain) (map (λ (w : ObjectId × List ℕ). w.0) ws) ≡ true) =
    and_parts (w.0.chain == chain) (list_all (λ (o : ObjectId). o.chain == chain) (map (λ (w : ObjectId × List ℕ). w.0) ws)) h in
    (apart chain w.0 ws (eqb-true w.0.chain chain p.0) p.1 d.0, distinct_keys chain ws p.1 d.1)

none_written : (reply : _) → WritesOnce (writes_none reply)
unfolding IsDistinct
none_written reply = tt

if_once : (b : Bool) (o q : Outcome) → WritesOnce o → WritesOnce q → WritesOnce (cond b o q)
if_once b o q x y = cond_both b o q (λ (o : Outcome). WritesOnce o) (λ e. x) (λ e. y)

joined_once : (key value : List ℕ) (version : ℕ) → WritesOnce (joined key value version)
unfolding joined
joined_once key value version = if_once (nat_lt value_limit (length value)) (writes_none TooLong) (writes_one key version value) (none_written TooLong) (one_write key version value)

increased_once : (key : List ℕ) (by version : ℕ) (o : Option ℕ) → WritesOnce (increased key by version o)
unfolding increased
increased_once key by version None = none_written NotANumber
increased_once key by version (Some n) = if_once (nat_lt greatest (n + by)) (writes_none Overflow) (writes_number key version (n + by)) (none_written Overflow) (one_write key version (to_be_bytes w64 (n + by)))

decreased_once : (key : List ℕ) (by version : ℕ) (o : Option ℕ) → WritesOnce (decreased key by version o)
unfolding decreased
decreased_once key by version None = none_written NotANumber
decreased_once key by version (Some n) = if_once (nat_lt n by) (writes_none Underflow) (writes_number key version (n - by)) (none_written Underflow) (one_write key version (to_be_bytes w64 (n - by)))

transacted_once : (chain : ℕ) (m : Objects) (t : Transaction) (o : Option ℕ) → IsWithinLimits t → all_of_chain chain (objects_named (Mini t)) ≡ true → WritesOnce (transacted m t o)
unfolding transacted all_of_chain
transacted_once chain m t (Some i) l h = none_written (CompareFailed i)
transacted_once chain m t None l h =
    let ofs : ObjectId → Bool = λ o. o.chain == chain in
    let a : _ = all_parts ofs (map (λ (c : ObjectId × ℕ). c.0) t.compares ++ t.reads) (map (λ (w : ObjectId × List ℕ). w.0) t.writes) h in
    distinct_keys chain t.writes a.1 l.written_once

tested_once : (key : List ℕ) (expect : ℕ) (value : List ℕ) (version : ℕ) → WritesOnce (tested key expect value version)
unfolding tested
tested_once key expect value version = if_once (version == expect) (writes_one key version value) (writes_none (Mismatch version)) (one_write key version value) (none_written (Mismatch version))

pub writes_once : (chain : ℕ) (m : Objects) (command : Command) → IsOfType command → all_of_chain chain (objects_named command) ≡ true → WritesOnce (eval m command)
writes_once chain m (Put object value) l h = one_write object.key (version_of m object.key) value
writes_once chain m (TestAndSet object expect value) l h = tested_once object.key expect value (version_of m object.key)
writes_once chain m (Append object value) l h = joined_once object.key (value_of m object.key ++ value) (version_of m object.key)
writes_once chain m (Prepend object value) l h = joined_once object.key (value ++ value_of m object.key) (version_of m object.key)
writes_once chain m (Increment object by) l h = increased_once object.key by (version_of m object.key) (number_at m object.key)
writes_once chain m (Decrement object by) l h = decreased_once object.key by (version_of m object.key) (number_at m object.key)
writes_once chain m (Mini t) l h = transacted_once chain m t (first_difference m 0 t.compares) l h
