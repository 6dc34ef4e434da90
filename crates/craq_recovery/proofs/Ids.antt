-- No node has the master's id, 0.
use Rattle.std.proofs.Common.{◌≡◌, ℕ, ◌≤◌, List, [], ◌∷◌, map, Some, arith, ap}
use Rattle.std.specs.List.{AllByRecursion}
use Rattle.craq_names.specs.Limits.{greatest_count}
use Rattle.craq_model.specs.Plain.{Plain, id_of, opening_member}
use Rattle.craq_runs.specs.declared.run.Move.{Move}
use Rattle.craq_runs.specs.declared.run.Run.{Run}
use Rattle.craq_runs.specs.declared.run.Taken.{Taken}
use Rattle.craq_runs.specs.Chain.{Chain, node_at, opening_chain}
use Rattle.craq_runs.specs.Runs.{IsRunOf, after_move, after_moves}
use Rattle.craq_names.specs.declared.name.NodeName.{NodeName}
use Rattle.craq_laws.proofs.Nodes.{node_id}
use Rattle.craq_recovery.proofs.Each.{Each, each_at, each_moved}
use Rattle.craq_laws.proofs.Kept.{event_keeps_name}

abbrev IsNoMaster : Plain → Type 0
IsNoMaster p = 1 ≤ id_of p

abbrev pub NoneIsMaster : List Plain → Type 0
NoneIsMaster ps = Each IsNoMaster ps

pub not_master : (ps : List Plain) (id : ℕ) (p : Plain) → node_at ps id ≡ Some p → NoneIsMaster ps → 1 ≤ id
not_master ps id p at a = let some : 1 ≤ id_of p = each_at IsNoMaster ps id p a at in omega (arith, some, node_id ps id p at)

pub none_after : (c : Chain) (m : Move) → NoneIsMaster c.nodes → NoneIsMaster (after_move c m).nodes
none_after c m all =
    each_moved IsNoMaster c m all
    (λ x a h. let same : id_of a.transition.0 ≡ id_of a.was = ap (λ (n : NodeName). n.node) (event_keeps_name a.was a.event a.transition a.does) in omega (arith, h, same))
    (λ name some. omega (arith, some))

none_moves : (ts : List Taken) (c : Chain) → NoneIsMaster c.nodes → NoneIsMaster (after_moves c ts).nodes
none_moves [] c h = h
none_moves (t ∷ ts) c h = none_moves ts (after_move c t.chosen) (none_after c t.chosen h)

opening_none : (chain : ℕ) (members ids : List ℕ) → AllByRecursion (λ id. (1 ≤ id) × (id ≤ greatest_count)) ids → NoneIsMaster (map (λ id. opening_member (record { chain = chain; node = id }) members) ids)
opening_none chain members [] a = tt
opening_none chain members (id ∷ ids) a = (a.0.0, opening_none chain members ids a.1)

pub none_is_master : (chain : ℕ) (run : Run) → IsRunOf chain run → NoneIsMaster (after_moves (opening_chain chain run.members) run.moves).nodes
none_is_master chain run is = none_moves run.moves (opening_chain chain run.members) (opening_none chain run.members run.members is.members.ids)
