use Rattle.std.proofs.Common.{◌-◌, ◌+◌, ℕ, List, [], ap, ◌∙◌}
use Rattle.craq_commands.specs.declared.entry.Entry.{Entry}
use Rattle.craq_model.specs.Past.{newest_within, values_after}
use Rattle.craq_compact_state.proofs.Found.{none_before}
use Rattle.craq_compact_state.proofs.Placing.{absent_here, found_here, indexed_here, none_here}
use Rattle.craq_compact_state.proofs.Looked.{none_indexed_of, seen_indexed}
use Rattle.craq_compact_state.proofs.lookups.within_in.Goals as goal

pub within_list-requires-clause-later : goal.within_list-requires-clause-later
within_list-requires-clause-later c =
    seen_indexed c.args.table.now c.args.entries.now c.args.indexed c.args.key.now c.in-Some.list.now.versions c.requires.indexed (found_here c.args.table.now c.args.key.now c.in-Some.list.now c.in-Some.ensures)

pub returns-in-None-clause-object : goal.returns-in-None-clause-object
returns-in-None-clause-object c =
    let bound : ℕ = c.args.version + c.args.above in
    let t = c.args.table.now in
    let key = c.args.key.now in
    let all = c.args.entries.now.entries in
    c.object_up_to.ensures.object
    ∙ ap (λ (n : ℕ). newest_within bound (n, []) (values_after c.from.result.now key)) c.new.ensures
    ∙ ap (λ (es : List Entry). newest_within bound (0, []) (values_after es key)) c.from.ensures.entries
    ∙ ap (λ (vs : List (ℕ × List ℕ)). newest_within bound (0, []) vs) (none_before (c.args.indexed - c.args.entries.now.base) all key (none_indexed_of t c.args.entries.now c.args.indexed key c.requires.indexed (none_here t key c.in-None.ensures)))
    ∙ ap (λ (o : ℕ × List ℕ). newest_within bound o (values_after all key)) (absent_here t key c.requires.placed.rising c.in-None.ensures)

pub returns-in-Some-clause-object : goal.returns-in-Some-clause-object
returns-in-Some-clause-object c =
    c.within_list.ensures.object
    ∙ ap (λ (o : ℕ × List ℕ). newest_within (c.args.version + c.args.above) o (values_after c.args.entries.now.entries c.args.key.now)) (indexed_here c.args.table.now c.args.key.now c.in-Some.list.now c.requires.placed.rising c.in-Some.ensures)
