use Rattle.std.proofs.Common.{◌≡◌, ℕ, ◌+◌, ◌-◌, ◌++◌, take, drop, sym, subst, ap, ◌∙◌}
use Rattle.craq_client_index.specs.Indexed.{Indexed, Tells, positions_of, noted_of}
use Rattle.craq_client_index.proofs.Telling.{indexed, tells_more}
use Rattle.craq_client_index.proofs.index.ClientIndex.add.Goals as goal

pub returns-clause-tells : goal.returns-clause-tells
returns-clause-tells c = λ entries t rest.
    let x : Indexed = indexed c.self.inside.from c.self.inside.to c.self.inside.places.entries in
    let known : Tells x entries = subst (λ (y : Indexed). Tells y entries) (sym c.self.view_is) t in
    let left : c.args.later.now ≡ drop (x.to - x.from) entries = subst (λ (y : Indexed). c.args.later.now ≡ drop (y.to - y.from) entries) (sym c.self.view_is) rest in
    let qs = c.add_entries-added.new.places.entries in
    let n : ℕ = c.add_entries-added.result in
    let count : ℕ = c.more_to_tell-count.result in
    let more : (q : ℕ) → noted_of qs q ≡ noted_of x.places q ++ positions_of q x.to (take n (take count c.args.later.now)) = λ q.
    c.add_entries-added.ensures.noted q ∙ ap (λ (k : ℕ). noted_of x.places q ++ positions_of q k (take n (take count c.args.later.now))) c.get-after.ensures in
    let end : c.new-self-inside.result ≡ x.to + n = c.new-self-inside.ensures ∙ ap (λ (k : ℕ). k + n) c.get-after.ensures in
    subst (λ (k : ℕ). Tells (indexed x.from k qs) entries) (sym end) (tells_more x qs n count c.args.later.now entries known left c.add_entries-added.ensures.count more)
