-- A journal's lines in a history between two that have them.
use Rattle.std.proofs.Common.{◌≡◌, ◌∙◌, ℕ, ◌==◌, List, [], ◌∷◌, ◌++◌, map, length, Option, Some, None, refl, sym, ap, arith, append-nil}
use Rattle.std.proofs.lemmas.List.{length-append}
use Rattle.std.proofs.lemmas.List.Elements.{filter-append}
use mathlib.Core.List.{IsPrefix}
use Rattle.craq_model.specs.declared.ask.Event.{Event}
use Rattle.craq_epochs.specs.Mastered.{Mastered}
use Rattle.craq_seat.specs.declared.journal.BookEvent.{BookEvent}
use Rattle.craq_seat.specs.declared.journal.Record.{Record}
use Rattle.craq_seat.specs.Cells.{Celled}
use Rattle.craq_seat.specs.Merge.{MergedStep, book_line, node_line}
use Rattle.craq_causality.specs.Authors.{lines_of}
use Rattle.craq_store_history.specs.declared.entry.HistoryEntry.{HistoryEntry}
use Rattle.craq_store_history.specs.Entries.{lines_in}
use Rattle.craq_store_history.proofs.Lines.{lines_prefix}
use Rattle.craq_store_parts.specs.Recorded.{AreLinesOf, AreMasterLines, BookHadLinesIn, BookHasLinesIn, HadLinesIn, HasLinesIn}

no_more : {A : Type 0} (xs a b : List A) → (xs ++ a) ++ b ≡ xs → a ≡ []
no_more xs [] b is = refl
no_more xs (x ∷ a) b is =
    let n = ap length is in
    let l = length-append (xs ++ x ∷ a) b in
    let k = length-append xs (x ∷ a) in
    absurd (omega (arith, n, l, k))

-- lines that one author has at both ends are those between
between : (id : ℕ) (xs ys zs own : List MergedStep) → IsPrefix xs ys → IsPrefix ys zs → lines_of id xs ≡ own → lines_of id zs ≡ own → lines_of id ys ≡ own
between id xs ys zs own (a, p) (b, q) first last =
    let f : List MergedStep → List MergedStep = lines_of id in
    let y : f ys ≡ own ++ f a = ap f (sym p) ∙ (filter-append (λ (l : MergedStep). l.node == id) xs a ∙ ap (λ ls. ls ++ f a) first) in
    let z : f zs ≡ (own ++ f a) ++ f b = ap f (sym q) ∙ (filter-append (λ (l : MergedStep). l.node == id) ys b ∙ ap (λ ls. ls ++ f b) y) in
    let none : f a ≡ [] = no_more own (f a) (f b) (sym z ∙ last) in
    y ∙ (ap (λ ls. own ++ ls) none ∙ append-nil own)

lines_between : (id : ℕ) (xs ys zs : List MergedStep) (journal : Option (List (Record Event))) → IsPrefix xs ys → IsPrefix ys zs → AreLinesOf xs id journal → AreLinesOf zs id journal → AreLinesOf ys id journal
lines_between id xs ys zs None p q first last = tt
lines_between id xs ys zs (Some rs) p q first last = between id xs ys zs (map (node_line id) rs) p q first last

master_lines_between : (xs ys zs : List MergedStep) (journal : Option (List (Record BookEvent))) → IsPrefix xs ys → IsPrefix ys zs → AreMasterLines xs journal → AreMasterLines zs journal → AreMasterLines ys journal
master_lines_between xs ys zs None p q first last = tt
master_lines_between xs ys zs (Some rs) p q first last = between 0 xs ys zs (map book_line rs) p q first last

pub lines_seen : {C : Type 0} (log later : List HistoryEntry) (cell : Celled C Event) → HadLinesIn log cell → IsPrefix log later → HasLinesIn later cell → HasLinesIn log cell
lines_seen log later cell (before, p, first) q last =
    let c : ℕ = cell.opening.name.chain in
    lines_between cell.opening.name.node (lines_in c before) (lines_in c log) (lines_in c later) cell.journal (lines_prefix c before log p) (lines_prefix c log later q) first last

pub master_lines_seen : (log later : List HistoryEntry) (book : Celled Mastered BookEvent) → BookHadLinesIn log book → IsPrefix log later → BookHasLinesIn later book → BookHasLinesIn log book
master_lines_seen log later book (before, p, first) q last =
    let c : ℕ = book.opening.name.chain in
    master_lines_between (lines_in c before) (lines_in c log) (lines_in c later) book.journal (lines_prefix c before log p) (lines_prefix c log later q) first last
