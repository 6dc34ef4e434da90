use Rattle.std.proofs.Common.{◌≡◌, ℕ, ◌+◌, ◌-◌, ◌++◌, List, length, take, drop, min, sym, subst, arith}
use Rattle.craq_commands.specs.declared.entry.Entry.{Entry}
use Rattle.craq_client_index.specs.Indexed.{Indexed, Tells, positions_of, noted_of}
use Rattle.craq_client_index.proofs.Telling.{indexed, tells_less}
use Rattle.craq_client_index.proofs.index.ClientIndex.let_go.Goals as goal

pub returns-then-get-clause-tells : goal.returns-then-get-clause-tells
returns-then-get-clause-tells c = λ entries t few same.
    let x : Indexed = indexed c.self.inside.from c.self.inside.to c.self.inside.places.entries in
    let known : Tells x entries = subst (λ (y : Indexed). Tells y entries) (sym c.self.view_is) t in
    let first : List Entry = c.args.first.now in
    let n : ℕ = length first in
    let qs = c.let_entries_go.new.places.entries in
    let count : c.min-known.result ≡ min (x.to - x.from) n = omega (arith, c.min-known.ensures, c.get.ensures, c.get-2.ensures) in
    let less : (later : List Entry) (q : ℕ) → noted_of x.places q ≡ positions_of q x.from (take (min (x.to - x.from) n) first ++ later) → noted_of qs q ≡ positions_of q (x.from + length (take (min (x.to - x.from) n) first)) later =
    subst (λ (k : ℕ). (later : List Entry) (q : ℕ) → noted_of x.places q ≡ positions_of q x.from (take k first ++ later) → noted_of qs q ≡ positions_of q (x.from + length (take k first)) later) count (λ later q h. c.let_entries_go.ensures.noted x.from later q h) in
    let begin : c.new-self-inside.result ≡ x.from + n = omega (arith, c.new-self-inside.ensures, c.get-3.ensures) in
    let end : x.from + n ≡ (x.from + n) + (x.to - (x.from + n)) = omega (arith, c.if-get.true, c.get-4.ensures, c.get-5.ensures, begin) in
    subst (λ (k : ℕ). Tells (indexed k k qs) (drop n entries)) (sym begin) (tells_less x qs (x.from + n) first entries known few same end less)

pub returns-else-get-clause-tells : goal.returns-else-get-clause-tells
returns-else-get-clause-tells c = λ entries t few same.
    let x : Indexed = indexed c.self.inside.from c.self.inside.to c.self.inside.places.entries in
    let known : Tells x entries = subst (λ (y : Indexed). Tells y entries) (sym c.self.view_is) t in
    let first : List Entry = c.args.first.now in
    let n : ℕ = length first in
    let qs = c.let_entries_go.new.places.entries in
    let count : c.min-known.result ≡ min (x.to - x.from) n = omega (arith, c.min-known.ensures, c.get.ensures, c.get-2.ensures) in
    let less : (later : List Entry) (q : ℕ) → noted_of x.places q ≡ positions_of q x.from (take (min (x.to - x.from) n) first ++ later) → noted_of qs q ≡ positions_of q (x.from + length (take (min (x.to - x.from) n) first)) later =
    subst (λ (k : ℕ). (later : List Entry) (q : ℕ) → noted_of x.places q ≡ positions_of q x.from (take k first ++ later) → noted_of qs q ≡ positions_of q (x.from + length (take k first)) later) count (λ later q h. c.let_entries_go.ensures.noted x.from later q h) in
    let begin : c.new-self-inside.result ≡ x.from + n = omega (arith, c.new-self-inside.ensures, c.get-3.ensures) in
    let end : x.to ≡ (x.from + n) + (x.to - (x.from + n)) = omega (arith, c.if-get.false, c.get-4.ensures, c.get-5.ensures, begin) in
    subst (λ (k : ℕ). Tells (indexed k x.to qs) (drop n entries)) (sym begin) (tells_less x qs x.to first entries known few same end less)
