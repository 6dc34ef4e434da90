use Rattle.std.proofs.Common.{◌-◌, ℕ, List, take, ap, sym, ◌∙◌}
use Rattle.craq_commands.specs.Objects.{object_of}
use Rattle.craq_model.specs.Past.{values_after}
use Rattle.craq_full_history.specs.Scans.{last_value}
use Rattle.craq_compact_state.specs.Placed.{objects_of}
use Rattle.craq_compact_state.proofs.Placing.{absent_here, found_here, indexed_here, none_here}
use Rattle.craq_compact_state.proofs.Looked.{none_indexed_of, seen_indexed}
use Rattle.craq_compact_state.proofs.lookups.seen_indexed.Goals as goal

pub newest_of-requires : goal.newest_of-requires
newest_of-requires c =
    let t = c.args.table.now in
    (_, seen_indexed t c.args.entries.now c.args.indexed c.args.key.now c.in-Some.list.now.versions c.requires.indexed (found_here t c.args.key.now c.in-Some.list.now c.in-Some.ensures))

pub returns-in-None-clause-newest : goal.returns-in-None-clause-newest
unfolding last_value
returns-in-None-clause-newest c =
    let t = c.args.table.now in
    let o : ℕ × List ℕ = object_of (objects_of t) c.args.key.now in
    let none = none_indexed_of t c.args.entries.now c.args.indexed c.args.key.now c.requires.indexed (none_here t c.args.key.now c.in-None.ensures) in
    rw c.new-in-None.ensures (absent_here t c.args.key.now c.requires.placed.rising c.in-None.ensures ∙ ap (λ (vs : List (ℕ × List ℕ)). last_value o vs) (sym none))

pub returns-in-Some-clause-newest : goal.returns-in-Some-clause-newest
returns-in-Some-clause-newest c =
    let t = c.args.table.now in
    let key = c.args.key.now in
    let vs : List (ℕ × List ℕ) = values_after (take (c.args.indexed - c.args.entries.now.base) c.args.entries.now.entries) key in
    c.newest_of.ensures.object vs (seen_indexed t c.args.entries.now c.args.indexed key c.in-Some.list.now.versions c.requires.indexed (found_here t key c.in-Some.list.now c.in-Some.ensures))
    ∙ ap (λ (o : ℕ × List ℕ). last_value o vs) (indexed_here t key c.in-Some.list.now c.requires.placed.rising c.in-Some.ensures)

pub returns-in-None-clause-settled : goal.returns-in-None-clause-settled
returns-in-None-clause-settled c = rw c.new.ensures (absent_here c.args.table.now c.args.key.now c.requires.placed.rising c.in-None.ensures)

pub returns-in-Some-clause-settled : goal.returns-in-Some-clause-settled
returns-in-Some-clause-settled c = c.settled_object.ensures.object ∙ indexed_here c.args.table.now c.args.key.now c.in-Some.list.now c.requires.placed.rising c.in-Some.ensures
