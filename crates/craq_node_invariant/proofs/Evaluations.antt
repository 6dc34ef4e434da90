-- The outcome of a command: a reply other than `Stale`, and a few writes of different keys.
use Rattle.std.proofs.Common.{◌≡◌, ◌<◌, ◌≤◌, ℕ, ◌+◌, ◌-◌, ◌==◌, suc, nat_lt, Bool, true, false, ◌&&◌, List, [], ◌∷◌, ◌++◌, Option, Some, None, MatchOption, map, length, sym, subst, ap, ◌∙◌, arith}
use Rattle.std.proofs.lemmas.Bool.{cond_both, and_parts, eqb-true, eq-eqb}
use Rattle.std.proofs.lemmas.List.{length-map}
use Rattle.std.proofs.lemmas.List.Folds.{list_all-append}
use Rattle.std.specs.Prelude.{⊤}
use Rattle.std.specs.List.{AllByRecursion, IsDistinct, list_all}
use Rattle.std.specs.Int.{to_be_bytes, w64}
use Rattle.craq_names.specs.Limits.{greatest, value_limit, item_limit}
use Rattle.craq_names.specs.Maps.{same_bytes}
use Rattle.craq_names.specs.declared.name.ObjectId.{ObjectId}
use Rattle.craq_names.proofs.Lists.{all_map, all_each}
use Rattle.craq_commands.specs.declared.command.Command.{Command}
use Rattle.craq_commands.specs.declared.command.Command.TheVariants.{Put, TestAndSet, Append, Prepend, Increment, Decrement, Mini}
use Rattle.craq_commands.specs.declared.reply.Reply.{Reply}
use Rattle.craq_commands.specs.declared.reply.Reply.TheVariants.{Mismatch, TooLong, NotANumber, Overflow, Underflow, CompareFailed}
use Rattle.craq_commands.specs.Objects.{Objects, object_of, version_of, value_of}
use Rattle.craq_commands.specs.Transaction.{Transaction, IsWithinLimits, same_object}
use Rattle.craq_commands.specs.Evaluation.{Outcome, writes_one, writes_none, writes_number, tested, joined, number_at, increased, decreased, first_difference, transacted, eval, objects_named, all_of_chain}
use Rattle.craq_model.specs.Encodable.{IsObjectRead, IsReply, IsNotStale}
use Rattle.craq_node_invariant.specs.Sound.{IsEncodableCommand}
use Rattle.craq_node_invariant.proofs.States.{AreWritten, object_is_read}

pub record IsSoundOutcome (o : Outcome) : Type 0 where
  pub reply : IsReply o.1
  pub not_stale : IsNotStale o.1
  pub few : length o.0 ≤ item_limit
  pub once : IsDistinct same_bytes (map (λ w. w.0) o.0)

one_is : (key : List ℕ) (version : ℕ) (value : List ℕ) → IsSoundOutcome (writes_one key version value)
unfolding IsDistinct
one_is key version value = record { reply = omega arith; not_stale = tt; few = omega arith; once = (tt, tt) }

none_is : (reply : Reply) → IsReply reply → IsNotStale reply → IsSoundOutcome (writes_none reply)
unfolding IsDistinct
none_is reply r n = record { reply = r; not_stale = n; few = omega arith; once = tt }

tested_is : (key : List ℕ) (expect : ℕ) (value : List ℕ) (version : ℕ) → IsSoundOutcome (tested key expect value version)
unfolding tested
tested_is key expect value version =
    cond_both (version == expect) (writes_one key version value) (writes_none (Mismatch version)) (λ (o : Outcome). IsSoundOutcome o)
    (λ e. one_is key version value)
    (λ e. none_is (Mismatch version) tt tt)

joined_is : (key value : List ℕ) (version : ℕ) → IsSoundOutcome (joined key value version)
unfolding joined
joined_is key value version =
    cond_both (nat_lt value_limit (length value)) (writes_none TooLong) (writes_one key version value) (λ (o : Outcome). IsSoundOutcome o)
    (λ e. none_is TooLong tt tt)
    (λ e. one_is key version value)

increased_is : (key : List ℕ) (by version : ℕ) (o : Option ℕ) → IsSoundOutcome (increased key by version o)
unfolding increased
increased_is key by version None = none_is NotANumber tt tt
increased_is key by version (Some n) =
    cond_both (nat_lt greatest (n + by)) (writes_none Overflow) (writes_number key version (n + by)) (λ (o : Outcome). IsSoundOutcome o)
    (λ e. none_is Overflow tt tt)
    (λ e. one_is key version (to_be_bytes w64 (n + by)))

decreased_is : (key : List ℕ) (by version : ℕ) (o : Option ℕ) → IsSoundOutcome (decreased key by version o)
unfolding decreased
decreased_is key by version None = none_is NotANumber tt tt
decreased_is key by version (Some n) =
    cond_both (nat_lt n by) (writes_none Underflow) (writes_number key version (n - by)) (λ (o : Outcome). IsSoundOutcome o)
    (λ e. none_is Underflow tt tt)
    (λ e. one_is key version (to_be_bytes w64 (n - by)))

-- ---- transactions

-- the index of a difference is that of one of the compares
difference_within : (m : Objects) (i : ℕ) (cs : List (ObjectId × ℕ)) → MatchOption (first_difference m i cs) ⊤ (λ (k : ℕ). k < i + length cs)
unfolding first_difference
difference_within m i [] = tt
difference_within m i (c ∷ cs) =
    let Within : ℕ → Option ℕ → Type 0 = λ n o. MatchOption o ⊤ (λ (k : ℕ). k < n) in
    let more : (i + 1) + length cs ≡ i + suc (length cs) = omega arith in
    cond_both (version_of m c.0.key == c.1) (first_difference m (i + 1) cs) (Some i) (λ (o : Option ℕ). Within (i + suc (length cs)) o)
    (λ e. let P : ℕ → Type 0 = λ n. Within n (first_difference m (i + 1) cs) in subst P more (difference_within m (i + 1) cs))
    (λ e. omega arith)

-- different objects of one chain have different keys
keys_differ : (chain : ℕ) (o q : ObjectId) → (o.chain == chain) ≡ true → (q.chain == chain) ≡ true → same_object o q ≡ false → same_bytes o.key q.key ≡ false
keys_differ chain o q a b h =
    let c : o.chain ≡ q.chain = eqb-true o.chain chain a ∙ sym (eqb-true q.chain chain b) in
    ap (λ t. t && same_bytes o.key q.key) (sym (eq-eqb o.chain q.chain c)) ∙ h

-- the keys of these writes
abbrev keys_written : List (ObjectId × List ℕ) → List (List ℕ)
keys_written ws = map (λ (w : List ℕ × List ℕ). w.0) (map (λ (w : ObjectId × List ℕ). (w.0.key, w.1)) ws)

abbrev objects_written : List (ObjectId × List ℕ) → List ObjectId
objects_written ws = map (λ (w : ObjectId × List ℕ). w.0) ws

key_once : (chain : ℕ) (o : ObjectId) (ws : List (ObjectId × List ℕ)) → (o.chain == chain) ≡ true → list_all (λ (q : ObjectId). q.chain == chain) (objects_written ws) ≡ true
    → AllByRecursion (λ (q : ObjectId). same_object o q ≡ false) (objects_written ws) → AllByRecursion (λ (key : List ℕ). same_bytes o.key key ≡ false) (keys_written ws)
key_once chain o [] a h d = tt
key_once chain o (w ∷ ws) a h d =
    let parts : ((w.0.chain == chain) ≡ true) × (list_all (λ (q : ObjectId). q.chain == chain) (objects_written ws) ≡ true) =
    and_parts (w.0.chain == chain) (list_all (λ (q : ObjectId). q.chain == chain) (objects_written ws)) h
    in
    (keys_differ chain o w.0 a parts.0 d.0, key_once chain o ws a parts.1 d.1)

keys_once : (chain : ℕ) (ws : List (ObjectId × List ℕ)) → list_all (λ (q : ObjectId). q.chain == chain) (objects_written ws) ≡ true
    → IsDistinct same_object (objects_written ws) → IsDistinct same_bytes (keys_written ws)
unfolding IsDistinct
keys_once chain [] h d = tt
keys_once chain (w ∷ ws) h d =
    let parts : ((w.0.chain == chain) ≡ true) × (list_all (λ (q : ObjectId). q.chain == chain) (objects_written ws) ≡ true) =
    and_parts (w.0.chain == chain) (list_all (λ (q : ObjectId). q.chain == chain) (objects_written ws)) h
    in
    (key_once chain w.0 ws parts.0 parts.1 d.0, keys_once chain ws parts.1 d.1)

written_of_chain : (chain : ℕ) (t : Transaction) → all_of_chain chain (objects_named (Mini t)) ≡ true → list_all (λ (q : ObjectId). q.chain == chain) (objects_written t.writes) ≡ true
unfolding all_of_chain
written_of_chain chain t h =
    let test : ObjectId → Bool = λ q. q.chain == chain in
    let compared : List ObjectId = map (λ (c : ObjectId × ℕ). c.0) t.compares in
    let whole : list_all test ((compared ++ t.reads) ++ objects_written t.writes) ≡ true = h in
    let parts : (list_all test (compared ++ t.reads) ≡ true) × (list_all test (objects_written t.writes) ≡ true) =
    and_parts (list_all test (compared ++ t.reads)) (list_all test (objects_written t.writes)) (sym (list_all-append test (compared ++ t.reads) (objects_written t.writes)) ∙ whole)
    in
    parts.1

transacted_is : (m : Objects) (chain : ℕ) (t : Transaction) (o : Option ℕ) → AreWritten m → IsWithinLimits t → list_all (λ (q : ObjectId). q.chain == chain) (objects_written t.writes) ≡ true
    → MatchOption o ⊤ (λ (k : ℕ). k < 0 + length t.compares) → IsSoundOutcome (transacted m t o)
unfolding transacted
transacted_is m chain t (Some i) a l h d = none_is (CompareFailed i) (omega (arith, l.few_compares, d)) tt
transacted_is m chain t None a l h d =
    let reads : length (map (λ (o : ObjectId). object_of m o.key) t.reads) ≡ length t.reads = length-map t.reads (λ (o : ObjectId). object_of m o.key) in
    let reads_few : length (map (λ (o : ObjectId). object_of m o.key) t.reads) ≤ item_limit = omega (arith, l.few_reads, reads) in
    let keyed : ObjectId × List ℕ → List ℕ × List ℕ = λ w. (w.0.key, w.1) in
    let writes : length (map keyed t.writes) ≡ length t.writes = length-map t.writes keyed in
    record {
      reply = (
        reads_few,
        all_map IsObjectRead (λ (o : ObjectId). object_of m o.key) t.reads (all_each (λ (o : ObjectId). IsObjectRead (object_of m o.key)) t.reads (λ o. object_is_read m o.key a)),
      );
      not_stale = tt;
      few = omega (arith, l.few_writes, writes);
      once = keys_once chain t.writes h l.written_once;
    }

pub outcome_is : (m : Objects) (chain : ℕ) (c : Command) → AreWritten m → IsEncodableCommand c → all_of_chain chain (objects_named c) ≡ true → IsSoundOutcome (eval m c)
outcome_is m chain (Put object value) a l h = one_is object.key (version_of m object.key) value
outcome_is m chain (TestAndSet object expect value) a l h = tested_is object.key expect value (version_of m object.key)
outcome_is m chain (Append object value) a l h = joined_is object.key (value_of m object.key ++ value) (version_of m object.key)
outcome_is m chain (Prepend object value) a l h = joined_is object.key (value ++ value_of m object.key) (version_of m object.key)
outcome_is m chain (Increment object by) a l h = increased_is object.key by (version_of m object.key) (number_at m object.key)
outcome_is m chain (Decrement object by) a l h = decreased_is object.key by (version_of m object.key) (number_at m object.key)
outcome_is m chain (Mini t) a l h = transacted_is m chain t (first_difference m 0 t.compares) a l (written_of_chain chain t h) (difference_within m 0 t.compares)
