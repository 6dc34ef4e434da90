use Rattle.std.proofs.Common.{◌≡◌, ◌∙◌, ◌≤◌, ◌<◌, ℕ, IsSome, Some, map, length, get_or, sym, ap, subst, arith, true}
use Rattle.std.specs.List.{AllByRecursion}
use Rattle.std.specs.Option.{option_map}
use Rattle.std.proofs.lemmas.List.{get_or_read}
use Rattle.craq_names.specs.declared.name.NodeName.{NodeName}
use Rattle.craq_model.specs.Members.{IsMembership, is_member}
use Rattle.craq_chain.proofs.Opening.{id_from_one, own_member}
use Rattle.craq_store_history.specs.Entries.{members_in}
use Rattle.craq_workers.specs.Posts.{post_of}
use Rattle.craq_workers.proofs.Posts.{next_posted}
use Rattle.craq_running_chain.proofs.Routes.{each_more, made_more}
use Rattle.craq_workers.proofs.opening.Opener.open_members.Goals as goal

pub open_member-requires-clause-can : goal.open_member-requires-clause-can
open_member-requires-clause-can g c =
    let xs = c.as_slice-node-items.result.now in
    let member : IsMembership xs = subst IsMembership (sym c.as_slice-node-items.ensures) c.requires.membership.1 in
    let within : c.loop-node.node-index < length xs = omega arith in
    let at : c.node-item.result ≡ get_or xs c.loop-node.node-index 0 = get_or_read xs _ _ within c.node-item.is 0 in (
      subst (λ n. 1 ≤ n) (sym at) (id_from_one xs c.loop-node.node-index member.ids within),
      record {
        epoch = c.requires.membership.0;
        members = c.requires.membership.1;
        own = subst (λ ms. is_member ms c.node-item.result ≡ true) c.as_slice-node-items.ensures (subst (λ n. is_member xs n ≡ true) (sym at) (own_member xs c.loop-node.node-index within));
      },
    )

pub loop-node-preserved : goal.loop-node-preserved
loop-node-preserved g c =
    let xs = c.as_slice-node-items.result.now in
    let i = c.loop-node.node-index in
    let within : i < length xs = omega (arith, c.loop-node-test.true) in
    let name : ℕ → NodeName = λ n. record { chain = c.args.chain; node = n } in
    let grown = c.in_ok-push.ensures.items in (
      made_more (λ w. w.name) name xs i c.node-item.result c.loop-node.nodes.items c.push.new.self.items c.in_ok-route.route within c.node-item.is c.in_ok-route.ensures.name grown c.loop-node.invariant.0,
      subst (AllByRecursion (λ w. (option_map (λ n. n.value.name) w.node ≡ Some w.name) × IsSome w.entrances)) (sym grown)
          (each_more (λ w. (option_map (λ n. n.value.name) w.node ≡ Some w.name) × IsSome w.entrances) c.loop-node.nodes.items c.in_ok-route.route c.loop-node.invariant.1
          (c.in_ok-route.ensures.node ∙ ap (λ (n : NodeName). Some n) (sym c.in_ok-route.ensures.name), c.in_ok-route.ensures.entrances)),
      next_posted c.args.self.now.form.chain_threads c.args.chain xs i c.node-item.result (map post_of c.args.workers.now.items) (map post_of c.loop-node.workers.items) (map post_of c.add_workers.new.workers.items) _
          within c.node-item.is c.in_ok-route.ensures.node c.loop-node.invariant.2 c.in_ok-add_workers.ensures,
      subst (λ t. members_in c.args.chain t ≡ Some c.args.config.now.members) (sym c.again-seen.ensures.same) c.loop-node.invariant.3,
    )
