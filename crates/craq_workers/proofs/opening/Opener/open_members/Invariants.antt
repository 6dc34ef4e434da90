use Rattle.std.proofs.Common.{◌≡◌, ◌++◌, ℕ, IsSome, Some, map, take}
use Rattle.std.specs.List.{AllByRecursion}
use Rattle.std.specs.Option.{option_map}
use Rattle.craq_names.specs.declared.name.NodeName.{NodeName}
use Rattle.craq_store_history.specs.Entries.{members_in}
use Rattle.craq_workers.specs.Posts.{member_posts, post_of}
use Rattle.craq_workers.proofs.opening.Opener.open_members.Given as goal

-- the ways are those to the members so far, and open; their workers are there; and the token has seen the opening
abbrev pub invariant-loop-node : goal.invariant-loop-node
invariant-loop-node g l =
    let name : ℕ → NodeName = λ n. record { chain = l.chain; node = n } in
    (map (λ w. w.name) l.nodes.items ≡ map name (take l.node-index l.node-items))
    × AllByRecursion (λ w. (option_map (λ n. n.value.name) w.node ≡ Some w.name) × IsSome w.entrances) l.nodes.items
    × (map post_of l.workers.items ≡ map post_of l.fn.workers.items ++ member_posts l.self.form.chain_threads l.chain (take l.node-index l.node-items))
    × (members_in l.chain l.token ≡ Some l.config.members)
