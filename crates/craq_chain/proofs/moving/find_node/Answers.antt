use Rattle.std.proofs.Common.{refl, sym}
use Rattle.craq_chain.proofs.Places.{no_node, place_known}
use Rattle.craq_chain.proofs.moving.find_node.Goals as goal

pub returns-in-None : goal.returns-in-None
returns-in-None g c = λ m d h. (refl, no_node 0 d.nodes c.args.id (sym (c.in-None.ensures.place d.nodes h.nodes)))

pub returns-in-Some : goal.returns-in-Some
returns-in-Some g c = λ m d h. place_known 0 c.in-Some._place d.nodes c.args.id (sym (c.in-Some.ensures.place d.nodes h.nodes))
