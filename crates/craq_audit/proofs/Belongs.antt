-- The ids of a chain's cells, and other properties of these cells.
use Rattle.std.proofs.Common.{◌≡◌, ◌≢◌, ◌≤◌, ◌⊎◌, ℕ, suc, List, [], ◌∷◌, ◌++◌, map, length, Option, Some, None, refl, sym, ap, subst, ◌∙◌, arith, inl, inr, length-append}
use Rattle.std.specs.Prelude.{IsPermutation, IsSome}
use Rattle.std.specs.List.{AllByRecursion}
use Rattle.std.specs.Borrow.{Bor}
use Rattle.std.proofs.lemmas.List.Sorted.{Contains-permutation, IsPermutation-cons, IsPermutation-middle, IsPermutation-refl, IsPermutation-sym, IsPermutation-trans, length_permutation}
use Rattle.craq_names.proofs.Lists.{all_like}
use Rattle.craq_model.specs.declared.ask.Event.{Event}
use Rattle.craq_epochs.specs.Mastered.{Mastered}
use Rattle.craq_seat.specs.declared.journal.BookEvent.{BookEvent}
use Rattle.craq_seat.specs.declared.journal.BookEvent.TheVariants as books
use Rattle.craq_seat.specs.declared.journal.Record.{Record}
use Rattle.craq_seat.specs.Audits.{AreOfChain, IsOpenedFirst, IsOpenedLater, NamesItsStop, id_of}
use Rattle.craq_seat.specs.Books.{IsBook, book_step, first_master, members_of}
use Rattle.craq_seat.specs.Cells.{Celled}
use Rattle.craq_seat.specs.Journal.{Stands}
use Rattle.craq_merge.proofs.Counts.{count, count_cons, distinct_once, is_counted, none_is_zero}
use Rattle.craq_causality.proofs.Orders.{IsIn, all_by, all_in, from_contains, in_either, in_left, in_right, to_contains}
use Rattle.craq_merge.proofs.Used.{AreUsed, are_used}
use Rattle.craq_audit.specs.Chained.{HasCell, HaveIds, IsOfChain}
use Rattle.craq_audit.specs.Journals.{journals_of, records_in}
use Rattle.craq_audit.specs.Lookups.{BearsStop, Found, HoldsStop, IsCellOf, cells_of}
use Rattle.craq_audit.proofs.Sendings.{stop_line, where_stopped}

-- ---- distinct ids, and a list of the same length that contains them all

record Split (xs : List ℕ) (x : ℕ) : Type 0 where
  pub front : List ℕ
  pub back : List ℕ
  pub is : xs ≡ front ++ x ∷ back

split_at : (xs : List ℕ) (x : ℕ) → IsIn xs x → Split xs x
split_at [] x i = absurd i
split_at (y ∷ xs) x (inl e) = record { front = []; back = xs; is = rw e refl }
split_at (y ∷ xs) x (inr i) =
    let s = split_at xs x i in record { front = y ∷ s.front; back = s.back; is = ap (λ zs. y ∷ zs) s.is }

without_it : (a b : List ℕ) (x z : ℕ) → x ≢ z → IsIn (a ++ x ∷ b) z → IsIn (a ++ b) z
without_it a b x z n i =
    elim (in_either a (x ∷ b) z i) [ inl k ↦ in_left a b z k | inr k ↦ by_place k ]
  where
    by_place : (x ≡ z) ⊎ IsIn b z → IsIn (a ++ b) z
    by_place (inl e) = absurd (n e)
    by_place (inr k) = in_right a b z k

empty : (xs : List ℕ) → length xs ≡ 0 → xs ≡ []
empty [] h = refl
empty (x ∷ xs) h = absurd (omega (arith, h))

pub permuted : (used ids : List ℕ) → ((id : ℕ) → count id used ≤ 1) → length ids ≡ length used → ((id : ℕ) → IsIn used id → IsIn ids id) → IsPermutation used ids
permuted [] ids once long there = subst (λ xs. IsPermutation [] xs) (sym (empty ids long)) (IsPermutation-refl [])
permuted (u ∷ us) ids once long there =
    let s = split_at ids u (there u (inl refl)) in
    let a : List ℕ = s.front in
    let b : List ℕ = s.back in
    let less : (id : ℕ) → count id us ≤ 1 = λ id. let h = once id in let e = count_cons id u us in omega (arith, h, e) in
    let other : (id : ℕ) → IsIn us id → u ≢ id = λ id i e. let h = once id in let d = count_cons id u us in let k = is_counted us id i in absurd (grind (arith, h, d, k, e)) in
    let len : length (a ++ b) ≡ length us = (let p = ap length s.is in let q = length-append a (u ∷ b) in let r = length-append a b in omega (arith, p, q, r, long)) in
    let rest : IsPermutation us (a ++ b) = permuted us (a ++ b) less len (λ id i. without_it a b u id (other id i) (subst (λ xs. IsIn xs id) s.is (there id (inr i)))) in
    subst (IsPermutation (u ∷ us)) (sym s.is) (IsPermutation-trans (u ∷ us) (u ∷ (a ++ b)) (a ++ u ∷ b) (IsPermutation-cons u us (a ++ b) rest) (IsPermutation-sym (a ++ u ∷ b) (u ∷ (a ++ b)) (IsPermutation-middle a u b)))

-- ---- the ids that a master used

book_used : (book : Celled Mastered BookEvent) (rs : List (Record BookEvent)) → IsBook book → book.journal ≡ Some rs → AreUsed book.inside.used
book_used book rs b e =
    let stands : Stands (λ (m n : Mastered). m ≡ n) book_step (first_master book.opening) book.inside (Some rs) = subst (Stands (λ (m n : Mastered). m ≡ n) book_step (first_master book.opening) book.inside) e b.stands in
    let ms : List ℕ = members_of book.opening.config in
    let first : AreUsed ms = record { some = none_is_zero ms _ b.first.ids; once = λ id. distinct_once ms id b.first.distinct } in
    subst (λ (m : Mastered). AreUsed m.used) (sym stands.2) (are_used (first_master book.opening) stands.0 rs stands.1 first)

abbrev Lent : Type 0 → Type 0
Lent C = Bor (Celled C Event)

as_many : {C : Type 0} (cs : List (Lent C)) → length (map id_of (cells_of cs)) ≡ length cs
as_many [] = refl
as_many (c ∷ cs) = ap suc (as_many cs)

in_ids : {C : Type 0} (cs : List (Lent C)) (id : ℕ) → Found (IsCellOf id) cs → IsIn (map id_of (cells_of cs)) id
in_ids [] id f = absurd f
in_ids (c ∷ cs) id (inl e) = inl e
in_ids (c ∷ cs) id (inr f) = inr (in_ids cs id f)

of_ids : {C : Type 0} (cs : List (Lent C)) (id : ℕ) → IsIn (map id_of (cells_of cs)) id → Found (IsCellOf id) cs
of_ids [] id i = absurd i
of_ids (c ∷ cs) id (inl e) = inl e
of_ids (c ∷ cs) id (inr i) = inr (of_ids cs id i)

have_permuted : {C : Type 0} (book : Celled Mastered BookEvent) (o : Option (List (Record BookEvent))) (cs : List (Lent C)) → IsBook book → book.journal ≡ o → IsSome o → HaveIds book.inside.used cs → IsPermutation book.inside.used (map id_of (cells_of cs))
have_permuted book None cs b e h i = cc
have_permuted book (Some rs) cs b e h i =
    permuted book.inside.used (map id_of (cells_of cs)) (book_used book rs b e).once (as_many cs ∙ i.0) (λ id k. in_ids cs id (all_in (HasCell cs) book.inside.used id i.1 k))

permuted_have : {C : Type 0} (used : List ℕ) (cs : List (Lent C)) → IsPermutation used (map id_of (cells_of cs)) → HaveIds used cs
permuted_have used cs p = (
  sym (as_many cs) ∙ length_permutation used (map id_of (cells_of cs)) p,
  all_by (HasCell cs) used (λ id i. of_ids cs id (from_contains (map id_of (cells_of cs)) id (Contains-permutation used (map id_of (cells_of cs)) id p (to_contains used id i)))),
)

-- ---- the cells of a chain

chains : {C : Type 0} (book : Celled Mastered BookEvent) (cs : List (Lent C)) → AllByRecursion (IsOfChain book) cs → AllByRecursion (λ (c : Celled C Event). c.opening.name.chain ≡ book.opening.name.chain) (cells_of cs)
chains book [] h = tt
chains book (c ∷ cs) h = (h.0.0, chains book cs h.1)

openings : {C : Type 0} (book : Celled Mastered BookEvent) (cs : List (Lent C)) → AllByRecursion (IsOfChain book) cs → AllByRecursion (λ (c : Celled C Event). IsOpenedFirst book c.opening ⊎ IsOpenedLater (records_in book.journal) c.opening) (cells_of cs)
openings book [] h = tt
openings book (c ∷ cs) h = (h.0.1, openings book cs h.1)

both : {C : Type 0} (book : Celled Mastered BookEvent) (cs : List (Lent C)) → AllByRecursion (λ (c : Celled C Event). c.opening.name.chain ≡ book.opening.name.chain) (cells_of cs) → AllByRecursion (λ (c : Celled C Event). IsOpenedFirst book c.opening ⊎ IsOpenedLater (records_in book.journal) c.opening) (cells_of cs) → AllByRecursion (IsOfChain book) cs
both book [] h k = tt
both book (c ∷ cs) h k = ((h.0, k.0), both book cs h.1 k.1)

stop_named : {C : Type 0} (book : Celled Mastered BookEvent) (cs : List (Lent C)) (e : BookEvent) → HoldsStop cs e → NamesItsStop (journals_of book (cells_of cs)) e
stop_named book cs (books.Join id) h = tt
stop_named book cs (books.Remove stopped stop) h = let t = stop_line book cs stop h.1 in (h.0, t.0, t.1, t.2, t.3, t.4)
stop_named book cs books.Tick h = tt

named_stop : {C : Type 0} (book : Celled Mastered BookEvent) (cs : List (Lent C)) (e : BookEvent) → NamesItsStop (journals_of book (cells_of cs)) e → HoldsStop cs e
named_stop book cs (books.Join id) h = tt
named_stop book cs (books.Remove stopped stop) h = (h.0, where_stopped book cs stop (h.1, h.2, h.3, h.4, h.5))
named_stop book cs books.Tick h = tt

pub of_chain : {C : Type 0} (book : Celled Mastered BookEvent) (cs : List (Lent C)) → IsBook book → IsSome book.journal → HaveIds book.inside.used cs → AllByRecursion (IsOfChain book) cs → AllByRecursion (BearsStop cs) (records_in book.journal) → AreOfChain book (cells_of cs) (journals_of book (cells_of cs))
of_chain book cs b on ids opened stops =
    record {
      ids = have_permuted book book.journal cs b refl on ids;
      chain = chains book cs opened;
      opened = openings book cs opened;
      stops = all_like (BearsStop cs) (λ (r : Record BookEvent). NamesItsStop (journals_of book (cells_of cs)) r.event) (records_in book.journal) (λ r h. stop_named book cs r.event h) stops;
    }

pub chain_ids : {C : Type 0} (book : Celled Mastered BookEvent) (cs : List (Lent C)) → AreOfChain book (cells_of cs) (journals_of book (cells_of cs)) → HaveIds book.inside.used cs
chain_ids book cs h = permuted_have book.inside.used cs h.ids

pub chain_opened : {C : Type 0} (book : Celled Mastered BookEvent) (cs : List (Lent C)) → AreOfChain book (cells_of cs) (journals_of book (cells_of cs)) → AllByRecursion (IsOfChain book) cs
chain_opened book cs h = both book cs h.chain h.opened

pub chain_stops : {C : Type 0} (book : Celled Mastered BookEvent) (cs : List (Lent C)) → AreOfChain book (cells_of cs) (journals_of book (cells_of cs)) → AllByRecursion (BearsStop cs) (records_in book.journal)
chain_stops book cs h = all_like (λ (r : Record BookEvent). NamesItsStop (journals_of book (cells_of cs)) r.event) (BearsStop cs) (records_in book.journal) (λ r k. named_stop book cs r.event k) h.stops
