use Rattle.std.proofs.Common.{◌≡◌, ◌≤◌, ◌<◌, length, get_or, sym, subst, arith, true}
use Rattle.std.proofs.lemmas.List.{get_or_read}
use Rattle.craq_model.specs.Members.{IsMembership, is_member}
use Rattle.craq_chain.proofs.Opening.{id_from_one, own_member}
use Rattle.craq_cell_chain.proofs.cell_chain.opening_seats.Goals as goal

pub seat_of-requires : goal.seat_of-requires
seat_of-requires g c =
    let xs = c.as_slice-node-items.result.now in
    let member : IsMembership xs = subst IsMembership (sym c.as_slice-node-items.ensures) c.requires.1 in
    let within : c.loop-node.node-index < length xs = omega arith in
    let at : c.node-item.result ≡ get_or xs c.loop-node.node-index 0 = get_or_read xs _ _ within c.node-item.is 0 in (
      subst (λ n. 1 ≤ n) (sym at) (id_from_one xs c.loop-node.node-index member.ids within),
      record {
        epoch = c.requires.0;
        members = c.requires.1;
        own = subst (λ ms. is_member ms c.node-item.result ≡ true) c.as_slice-node-items.ensures (subst (λ n. is_member xs n ≡ true) (sym at) (own_member xs c.loop-node.node-index within));
      },
    )
