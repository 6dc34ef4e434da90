use Rattle.std.proofs.Common.{◌≡◌, ◌==◌, true, false, ap, arith, sym, subst, ◌∙◌, [], drop, length}
use Rattle.craq_model.specs.Plain.{id_of}
use Rattle.craq_chain.proofs.Places.{node_here, none_left, place_goes_on, place_ends, place_none}
use Rattle.craq_chain.proofs.nodes.place_of.Goals as goal

pub loop-place-preserved : goal.loop-place-preserved
loop-place-preserved g c = λ ps h.
    let s = node_here g.C.Core.represents c.args.cores.now ps c.loop-place.place c.index-cores-place.result h (omega arith) c.index-cores-place.is in
    let own : c.name.result.node ≡ id_of s.node = ap (λ n. n.node) c.name.ensures ∙ ap (λ w. w.name.node) (c.switch.ensures s.node s.stands) in
    let other : (id_of s.node == c.args.id) ≡ false = subst (λ n. (n == c.args.id) ≡ false) own (sym c.eq.ensures ∙ c.if-eq.false) in
    c.loop-place.invariant ps h ∙ place_goes_on c.loop-place.place ps s.node c.args.id s.rest other

pub returns-then-eq-clause-place : goal.returns-then-eq-clause-place
returns-then-eq-clause-place g c = λ ps h.
    let s = node_here g.C.Core.represents c.args.cores.now ps c.loop-place.place c.index-cores-place.result h (omega arith) c.index-cores-place.is in
    let own : c.name.result.node ≡ id_of s.node = ap (λ n. n.node) c.name.ensures ∙ ap (λ w. w.name.node) (c.switch.ensures s.node s.stands) in
    let same : (id_of s.node == c.args.id) ≡ true = subst (λ n. (n == c.args.id) ≡ true) own (sym c.eq.ensures ∙ c.if-eq.true) in
    sym (c.loop-place.invariant ps h ∙ place_ends c.loop-place.place ps s.node c.args.id s.rest same)

pub returns-clause-place : goal.returns-clause-place
returns-clause-place g c = λ ps h.
    let at : c.loop-place.place ≡ length c.args.cores.now = omega arith in
    let none : drop c.loop-place.place ps ≡ [] = subst (λ n. drop n ps ≡ []) (sym at) (none_left g.C.Core.represents c.args.cores.now ps h) in
    sym (c.loop-place.invariant ps h ∙ place_none c.loop-place.place ps c.args.id none)
