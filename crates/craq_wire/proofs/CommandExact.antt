-- Reading commands is the inverse of writing them.
use Rattle.std.proofs.Common.{◌≡◌, ℕ, ◌^◌, ◌<◌, ◌≤◌, ◌||◌, Bool, true, false, cond, eqb, List, [], ◌∷◌, ◌++◌, Option, Some, Result, Ok, Err, refl, sym, subst, arith}
use Rattle.std.specs.Prelude.{nat_lt}
use Rattle.std.specs.Int.{w8, w64}
use Rattle.std.specs.List.{AllByRecursion, IsDistinct, list_any}
use Rattle.std.proofs.lemmas.Bool.{or_from, or_parts, le-ltb, ltb-false, ne_eqb, eqb-false}
use Rattle.std.specs.Result.{result_ok}
use Rattle.craq_names.specs.Limits.{item_limit}
use Rattle.craq_names.specs.declared.name.ObjectId.{ObjectId}
use Rattle.craq_names.specs.declared.refusal.Refusal.TheVariants.{TooManyItems, EmptyTransaction, DuplicateKey}
use Rattle.craq_commands.specs.declared.command.Command.{Command}
use Rattle.craq_commands.specs.declared.command.Command.TheVariants.{Put, TestAndSet, Append, Prepend, Increment, Decrement, Mini}
use Rattle.craq_commands.specs.Transaction.{Transaction, IsWithinLimits, mini_of, most_items, has_doubles, stands_twice, same_object, compared, written}
use Rattle.craq_commands.proofs.Doubles.{distinct_unless_twice}
use Rattle.craq_wire.specs.NumberEncoding.{number}
use Rattle.craq_wire.specs.PartEncoding.{value, object, pair, counted, IsValue, IsObject, IsPair, AreCounted}
use Rattle.craq_wire.specs.CommandEncoding.{command_tag, command_body, command, transaction, TransactionFits, CommandFits}
use Rattle.craq_wire.specs.NumberReading.{◌>>=◌, number_at}
use Rattle.craq_wire.specs.PartReading.{value_at, object_at, pair_at, counted_at, mapped}
use Rattle.craq_wire.specs.CommandReading.{transaction_of, transaction_at, command_body_at, command_at}
use Rattle.craq_wire.proofs.NumberExact.{IsBytes, Takes, IsExact, bind_some, some_is, step, chosen, u64_exact, wide8}
use Rattle.craq_wire.proofs.PartExact.{value_exact, object_exact, pair_exact, counted_exact}
use Rattle.craq_wire.proofs.Tagged.{one_case, tagged_exact}
use Rattle.craq_wire.proofs.EntryExact.{version_value_fits, version_value_exact}

none_same : (p : ObjectId → Bool) (os : List ObjectId) → AllByRecursion (λ o. p o ≡ false) os → list_any p os ≡ false
none_same p [] h = refl
none_same p (o ∷ os) h = or_from (p o) (list_any p os) h.0 (none_same p os h.1)

never_twice : (os : List ObjectId) → IsDistinct same_object os → stands_twice os ≡ false
unfolding IsDistinct
never_twice [] h = refl
never_twice (o ∷ os) h = or_from (list_any (same_object o) os) (stands_twice os) (none_same (same_object o) os h.0) (never_twice os h.1)

accepted : (t : Transaction) → IsWithinLimits t → mini_of t ≡ Ok t
accepted t h =
    let short : nat_lt item_limit (most_items t) ≡ false = le-ltb _ _ (omega (arith, h.few_compares, h.few_reads, h.few_writes)) in
    let some : eqb (most_items t) 0 ≡ false = ne_eqb _ _ (λ z. omega (arith, h.some, z)) in
    let once : has_doubles t ≡ false = or_from (stands_twice (compared t) || stands_twice t.reads) (stands_twice (written t)) (or_from (stands_twice (compared t)) (stands_twice t.reads) (never_twice (compared t) h.compared_once) (never_twice t.reads h.read_once)) (never_twice (written t) h.written_once) in
    rw (short, some, once) refl

-- a test whose error is returned
refuses : {A : Type 0} {E : Type 0} (b : Bool) (e : E) (r : Result A E) (y : A) → result_ok (cond b (Err e) r) ≡ Some y → (b ≡ false) × (result_ok r ≡ Some y)
refuses true e r y h = absurd cc
refuses false e r y h = (refl, h)

limits_of : (t u : Transaction) → result_ok (mini_of t) ≡ Some u → IsWithinLimits u
limits_of t u e =
    let a = refuses (nat_lt item_limit (most_items t)) TooManyItems _ u e in
    let b = refuses (eqb (most_items t) 0) EmptyTransaction _ u a.1 in
    let c = refuses (has_doubles t) DuplicateKey (Ok t) u b.1 in
    let short : most_items t ≤ item_limit = ltb-false _ _ a.0 in
    let some : most_items t ≡ 0 → ⊥ = eqb-false _ _ b.0 in
    let outer = or_parts (stands_twice (compared t) || stands_twice t.reads) (stands_twice (written t)) c.0 in
    let inner = or_parts (stands_twice (compared t)) (stands_twice t.reads) outer.0 in
    subst IsWithinLimits (some_is t u c.1) (record {
      few_compares = omega (arith, short);
      few_reads = omega (arith, short);
      few_writes = omega (arith, short);
      some = omega (arith, some);
      compared_once = distinct_unless_twice (compared t) inner.0;
      read_once = distinct_unless_twice t.reads inner.1;
      written_once = distinct_unless_twice (written t) outer.1;
    })

same_lists : (t u : Transaction) → result_ok (mini_of t) ≡ Some u → t ≡ u
same_lists t u e =
    let a = refuses (nat_lt item_limit (most_items t)) TooManyItems _ u e in
    let b = refuses (eqb (most_items t) 0) EmptyTransaction _ u a.1 in
    let c = refuses (has_doubles t) DuplicateKey (Ok t) u b.1 in
    some_is t u c.1

abbrev compare_fits : ObjectId × ℕ → Type 0
compare_fits = IsPair IsObject (λ version. version < 2 ^ 64)

abbrev put_fits : ObjectId × List ℕ → Type 0
put_fits = IsPair IsObject IsValue

compare_exact : IsExact (pair object (number w64)) compare_fits (pair_at object_at (number_at w64))
compare_exact = pair_exact _ _ _ object_exact _ _ _ u64_exact

put_exact : IsExact (pair object value) put_fits (pair_at object_at value_at)
put_exact = pair_exact _ _ _ object_exact _ _ _ value_exact

abbrev Lists : Type 0
Lists = List (ObjectId × ℕ) × (List ObjectId × List (ObjectId × List ℕ))

abbrev lists_of : Transaction → Lists
lists_of t = (t.compares, (t.reads, t.writes))

abbrev lists : Lists → List ℕ
lists = pair (counted w8 (pair object (number w64))) (pair (counted w8 object) (counted w8 (pair object value)))

abbrev ListsFit : Lists → Type 0
ListsFit = IsPair (AreCounted w8 compare_fits) (IsPair (AreCounted w8 IsObject) (AreCounted w8 put_fits))

abbrev lists_at : List ℕ → Option (Lists × List ℕ)
lists_at = pair_at (counted_at w8 (pair_at object_at (number_at w64))) (pair_at (counted_at w8 object_at) (counted_at w8 (pair_at object_at value_at)))

lists_exact : IsExact lists ListsFit lists_at
lists_exact =
    pair_exact _ _ _ (counted_exact _ _ _ compare_exact w8 wide8) _ _ _ (pair_exact _ _ _ (counted_exact _ _ _ object_exact w8 wide8) _ _ _ (counted_exact _ _ _ put_exact w8 wide8))

transaction_takes : (bytes : List ℕ) (x : Transaction × List ℕ) → IsBytes bytes → transaction_at bytes ≡ Some x → Takes bytes (transaction x.0) x.1 × TransactionFits x.0
unfolding transaction_at
transaction_takes bytes x h e =
    let s = step lists ListsFit lists_at lists_exact bytes (λ y. result_ok (mini_of (transaction_of y.0)) >>= λ t. Some (t, y.1)) x h e in
    let m = bind_some (result_ok (mini_of (transaction_of s.0.0))) (λ t. Some (t, s.0.1)) x s.3 in
    let limits = limits_of (transaction_of s.0.0) m.0 m.1 in
    let same = same_lists (transaction_of s.0.0) m.0 m.1 in
    let made : Takes bytes (transaction (transaction_of s.0.0)) s.0.1 = s.1 in
    let fit : IsWithinLimits (transaction_of s.0.0) → TransactionFits (transaction_of s.0.0) = λ l. record { limits = l; compares = s.2.0.each; reads = s.2.1.0.each; writes = s.2.1.1.each } in
    subst (λ (y : Transaction × List ℕ). Takes bytes (transaction y.0) y.1 × TransactionFits y.0) (some_is (m.0, s.0.1) x m.2)
    (subst (λ (t : Transaction). Takes bytes (transaction t) s.0.1 × TransactionFits t) same (made, fit (subst IsWithinLimits (sym same) limits)))

transaction_again : (t : Transaction) (rest : List ℕ) → TransactionFits t → transaction_at (transaction t ++ rest) ≡ Some (t, rest)
unfolding transaction_at
transaction_again t rest h =
    let l = h.limits in
    let fit : ListsFit (lists_of t) = (
      record { few = omega (arith, l.few_compares); each = h.compares },
      (record { few = omega (arith, l.few_reads); each = h.reads }, record { few = omega (arith, l.few_writes); each = h.writes }),
    ) in
    rw (lists_exact.again (lists_of t) rest fit, accepted t l) refl

transaction_exact : IsExact transaction TransactionFits transaction_at
transaction_exact = record { takes = transaction_takes; again = transaction_again }

version_value_put : IsExact (pair object (pair (number w64) value)) (IsPair IsObject version_value_fits) (pair_at object_at (pair_at (number_at w64) value_at))
version_value_put = pair_exact _ _ _ object_exact _ _ _ version_value_exact

command_case : {A : Type 0} (encoding : A → List ℕ) (P : A → Type 0) (part : List ℕ → Option (A × List ℕ)) → IsExact encoding P part
    → (f : A → Command) → ((a : A) → command_body (f a) ≡ encoding a) → ((a : A) → P a → CommandFits (f a)) → (tag : ℕ) → ((a : A) → command_tag (f a) ≡ tag)
    → (bytes : List ℕ) (x : Command × List ℕ) → IsBytes bytes → mapped f (part bytes) ≡ Some x → (Takes bytes (command_body x.0) x.1 × CommandFits x.0) × (command_tag x.0 ≡ tag)
command_case = one_case command_tag command_body CommandFits

command_takes : (tag : ℕ) (bytes : List ℕ) (x : Command × List ℕ) → IsBytes bytes → command_body_at tag bytes ≡ Some x → (Takes bytes (command_body x.0) x.1 × CommandFits x.0) × (command_tag x.0 ≡ tag)
unfolding command_body_at
command_takes tag bytes x h e =
    let P = λ (k : ℕ). (Takes bytes (command_body x.0) x.1 × CommandFits x.0) × (command_tag x.0 ≡ k) in
    chosen tag 1 _ _ x e P (command_case _ _ _ put_exact (λ (y : ObjectId × List ℕ). Put y.0 y.1) (λ a. refl) (λ a q. q) 1 (λ a. refl) bytes x h) (λ e.
    chosen tag 2 _ _ x e P (command_case _ _ _ version_value_put (λ (y : ObjectId × (ℕ × List ℕ)). TestAndSet y.0 y.1.0 y.1.1) (λ a. refl) (λ a q. (q.0, q.1.0, q.1.1)) 2 (λ a. refl) bytes x h) (λ e.
    chosen tag 3 _ _ x e P (command_case _ _ _ put_exact (λ (y : ObjectId × List ℕ). Append y.0 y.1) (λ a. refl) (λ a q. q) 3 (λ a. refl) bytes x h) (λ e.
    chosen tag 4 _ _ x e P (command_case _ _ _ put_exact (λ (y : ObjectId × List ℕ). Prepend y.0 y.1) (λ a. refl) (λ a q. q) 4 (λ a. refl) bytes x h) (λ e.
    chosen tag 5 _ _ x e P (command_case _ _ _ compare_exact (λ (y : ObjectId × ℕ). Increment y.0 y.1) (λ a. refl) (λ a q. q) 5 (λ a. refl) bytes x h) (λ e.
    chosen tag 6 _ _ x e P (command_case _ _ _ compare_exact (λ (y : ObjectId × ℕ). Decrement y.0 y.1) (λ a. refl) (λ a q. q) 6 (λ a. refl) bytes x h) (λ e.
    chosen tag 7 _ _ x e P (command_case _ _ _ transaction_exact Mini (λ a. refl) (λ a q. q) 7 (λ a. refl) bytes x h) (λ e.
    absurd cc)))))))

command_again : (c : Command) (rest : List ℕ) → CommandFits c → command_body_at (command_tag c) (command_body c ++ rest) ≡ Some (c, rest)
unfolding command_body_at
command_again (Put o v) rest h = rw (put_exact.again (o, v) rest h) refl
command_again (TestAndSet o expect v) rest h = rw (version_value_put.again (o, (expect, v)) rest (h.0, (h.1, h.2))) refl
command_again (Append o v) rest h = rw (put_exact.again (o, v) rest h) refl
command_again (Prepend o v) rest h = rw (put_exact.again (o, v) rest h) refl
command_again (Increment o by) rest h = rw (compare_exact.again (o, by) rest h) refl
command_again (Decrement o by) rest h = rw (compare_exact.again (o, by) rest h) refl
command_again (Mini t) rest h = rw (transaction_exact.again t rest h) refl

command_small : (c : Command) → command_tag c < 2 ^ 8
command_small (Put o v) = omega arith
command_small (TestAndSet o expect v) = omega arith
command_small (Append o v) = omega arith
command_small (Prepend o v) = omega arith
command_small (Increment o by) = omega arith
command_small (Decrement o by) = omega arith
command_small (Mini t) = omega arith

pub command_exact : IsExact command CommandFits command_at
unfolding command command_at
command_exact = tagged_exact command_tag command_body CommandFits command_body_at (record { small = command_small; takes = command_takes; again = command_again })
