-- The lines of a chain and its first members, as a history grows.
use Rattle.std.proofs.Common.{◌≡◌, ℕ, ◌==◌, ◌&&◌, Bool, true, false, if◌then◌else◌, List, [], ◌∷◌, ◌++◌, Option, Some, None, refl, sym, ap, subst, ◌∙◌, append_assoc, append-nil}
use Rattle.std.proofs.lemmas.List.Elements.{filter-append}
use mathlib.Core.List.{IsPrefix}
use Rattle.craq_seat.specs.Merge.{MergedStep, book_line, node_line}
use Rattle.craq_causality.specs.Authors.{lines_of}
use Rattle.craq_ghost_history.specs.declared.author.Author.TheVariants.{Node, Client}
use Rattle.craq_ghost_history.specs.Authors.{of, same}
use Rattle.craq_store_history.specs.declared.entry.HistoryEntry.{HistoryEntry}
use Rattle.craq_store_history.specs.declared.entry.HistoryEntry.TheVariants.{ChainOpened, ClientCall, NodeStep, MasterStep, CallTakenBack}
use Rattle.craq_store_history.specs.Entries.{author_of, first_some, line_in, lines_in, master_record, members_in, node_record, opened_by}

-- ---- the lines

pub lines_append : (c : ℕ) (xs ys : List HistoryEntry) → lines_in c (xs ++ ys) ≡ lines_in c xs ++ lines_in c ys
unfolding lines_in
lines_append c [] ys = refl
lines_append c (x ∷ xs) ys = ap (λ z. line_in c x ++ z) (lines_append c xs ys) ∙ sym (append_assoc (line_in c x) (lines_in c xs) (lines_in c ys))

lines_one : (c : ℕ) (e : HistoryEntry) → lines_in c (e ∷ []) ≡ line_in c e
unfolding lines_in
lines_one c e = append-nil (line_in c e)

pub lines_more : (c : ℕ) (log : List HistoryEntry) (e : HistoryEntry) → lines_in c (log ++ e ∷ []) ≡ lines_in c log ++ line_in c e
lines_more c log e = lines_append c log (e ∷ []) ∙ ap (λ z. lines_in c log ++ z) (lines_one c e)

pub lines_prefix : (c : ℕ) (xs ys : List HistoryEntry) → IsPrefix xs ys → IsPrefix (lines_in c xs) (lines_in c ys)
lines_prefix c xs ys p = (lines_in c p.0, sym (lines_append c xs p.0) ∙ ap (lines_in c) p.1)

-- ---- the first members

first_none : {A : Type 0} (o : Option A) → first_some o None ≡ o
first_none None = refl
first_none (Some x) = refl

first_again : {A : Type 0} (o m n : Option A) → first_some o (first_some m n) ≡ first_some (first_some o m) n
first_again None m n = refl
first_again (Some x) m n = refl

members_append : (c : ℕ) (xs ys : List HistoryEntry) → members_in c (xs ++ ys) ≡ first_some (members_in c xs) (members_in c ys)
unfolding members_in
members_append c [] ys = refl
members_append c (x ∷ xs) ys = ap (first_some (opened_by c x)) (members_append c xs ys) ∙ first_again (opened_by c x) (members_in c xs) (members_in c ys)

members_one : (c : ℕ) (e : HistoryEntry) → members_in c (e ∷ []) ≡ opened_by c e
unfolding members_in
members_one c e = first_none (opened_by c e)

pub members_more : (c : ℕ) (log : List HistoryEntry) (e : HistoryEntry) → members_in c (log ++ e ∷ []) ≡ first_some (members_in c log) (opened_by c e)
members_more c log e = members_append c log (e ∷ []) ∙ ap (first_some (members_in c log)) (members_one c e)

pub members_quiet : (c : ℕ) (log : List HistoryEntry) (e : HistoryEntry) → opened_by c e ≡ None → members_in c (log ++ e ∷ []) ≡ members_in c log
members_quiet c log e h = members_more c log e ∙ (ap (first_some (members_in c log)) h ∙ first_none (members_in c log))

pub members_prefix : (c : ℕ) (xs ys : List HistoryEntry) (members : List ℕ) → IsPrefix xs ys → members_in c xs ≡ Some members → members_in c ys ≡ Some members
members_prefix c xs ys members p h =
    subst (λ zs. members_in c zs ≡ Some members) p.1 (members_append c xs p.0 ∙ ap (λ o. first_some o (members_in c p.0)) h)

-- ---- an author's lines are of its entries

empty_both : (b : Bool) → ◌≡◌ {A = List MergedStep} [] (if b then [] else [])
empty_both true = refl
empty_both false = refl

own_once : (a b : Bool) (id : ℕ) (l : MergedStep) → (l.node == id) ≡ b → lines_of id (if a then l ∷ [] else []) ≡ (if a && b then (if a then l ∷ [] else []) else [])
own_once false b id l h = refl
own_once true true id l h = rw h refl
own_once true false id l h = rw h refl

line_own : (c id : ℕ) (e : HistoryEntry) → lines_of id (line_in c e) ≡ (if same (author_of e) (Node c id) then line_in c e else [])
line_own c id (ChainOpened chain members) = empty_both (same (Node chain 0) (Node c id))
line_own c id (ClientCall call name ask) = refl
line_own c id (NodeStep name stamp event pass step call) = own_once (name.chain == c) (name.node == id) id (node_line name.node (node_record stamp event pass step)) refl
line_own c id (MasterStep chain stamp event pass step) = own_once (chain == c) (0 == id) id (book_line (master_record stamp event pass step)) refl
line_own c id (CallTakenBack call) = refl

join : (b : Bool) (c : ℕ) (e : HistoryEntry) (es : List HistoryEntry) → (if b then line_in c e else []) ++ lines_in c es ≡ lines_in c (if b then e ∷ es else es)
unfolding lines_in
join true c e es = refl
join false c e es = refl

both : (xs ys us vs : List MergedStep) → xs ≡ us → ys ≡ vs → xs ++ ys ≡ us ++ vs
both xs ys us vs e f = rw (e, f) refl

own_lines : (c id : ℕ) (log : List HistoryEntry) → lines_of id (lines_in c log) ≡ lines_in c (of author_of (Node c id) log)
unfolding lines_in
own_lines c id [] = refl
own_lines c id (e ∷ es) =
    let mine : List HistoryEntry = of author_of (Node c id) es in
    let b : Bool = same (author_of e) (Node c id) in
    filter-append (λ (l : MergedStep). l.node == id) (line_in c e) (lines_in c es)
    ∙ (both (lines_of id (line_in c e)) (lines_of id (lines_in c es)) (if b then line_in c e else []) (lines_in c mine) (line_own c id e) (own_lines c id es)
    ∙ join b c e mine)

pub own_same : (c id : ℕ) (xs ys : List HistoryEntry) → of author_of (Node c id) xs ≡ of author_of (Node c id) ys → lines_of id (lines_in c xs) ≡ lines_of id (lines_in c ys)
own_same c id xs ys h = own_lines c id xs ∙ (ap (lines_in c) h ∙ sym (own_lines c id ys))

-- ---- a chain whose master added nothing is not opened

tail_nil : {X : Type 0} (b : Bool) (x : X) (xs : List X) → (if b then x ∷ xs else xs) ≡ [] → xs ≡ []
tail_nil true x xs h = absurd cc
tail_nil false x xs h = h

opened_here : (b : Bool) (e : HistoryEntry) (members : List ℕ) (o : Option (List ℕ)) (es : List HistoryEntry) → (if b && true then e ∷ es else es) ≡ [] → (es ≡ [] → o ≡ None) → first_some (if b then Some members else None) o ≡ None
opened_here true e members o es h f = absurd cc
opened_here false e members o es h f = f h

pub not_opened : (c : ℕ) (log : List HistoryEntry) → of author_of (Node c 0) log ≡ [] → members_in c log ≡ None
unfolding members_in
not_opened c [] h = refl
not_opened c (ChainOpened chain members ∷ es) h = opened_here (chain == c) (ChainOpened chain members) members.value (members_in c es) (of author_of (Node c 0) es) h (not_opened c es)
not_opened c (ClientCall call name ask ∷ es) h = not_opened c es h
not_opened c (NodeStep name stamp event pass step call ∷ es) h =
    not_opened c es (tail_nil (same (Node name.chain name.node) (Node c 0)) (NodeStep name stamp event pass step call) (of author_of (Node c 0) es) h)
not_opened c (MasterStep chain stamp event pass step ∷ es) h =
    not_opened c es (tail_nil (same (Node chain 0) (Node c 0)) (MasterStep chain stamp event pass step) (of author_of (Node c 0) es) h)
not_opened c (CallTakenBack call ∷ es) h = not_opened c es h
