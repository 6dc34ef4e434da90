use Rattle.std.proofs.Common.{List, ◌%◌, ◌^◌, refl, ap, ◌∙◌}
use Rattle.craq_commands.specs.declared.entry.Entry.{Entry}
use Rattle.craq_compact_state.specs.Bytes.{bytes_of_entries}
use Rattle.craq_compact_state.specs.Placed.{objects_of, state_at}
use Rattle.craq_compact_state.proofs.Bytes.{counted_same, entries_counted}
use Rattle.craq_compact_state.proofs.Entered.{indexed_before, indexed_same}
use Rattle.craq_compact_state.proofs.Following.{next_appended, next_of_same, next_same}
use Rattle.craq_compact_state.proofs.held.HeldPast.append.Goals as goal

pub list_entries-refused-requires-clause-indexed : goal.list_entries-refused-requires-clause-indexed
list_entries-refused-requires-clause-indexed c =
    indexed_before c.self.inside.counted.table c.self.inside.entries c.append_all.new.self c.args.entries c.self.inside.indexed c.append_all.ensures.base c.in_ok-append_all.ensures.ok c.self.invariant.1

pub list_entries-refused-requires-clause-next : goal.list_entries-refused-requires-clause-next
list_entries-refused-requires-clause-next c =
    let s = state_at (objects_of c.self.inside.counted.table) c.self.inside.replies.kept in
    let next = rw (← c.self.view_is) at c.requires.next in
    next_appended s c.self.inside.entries.entries c.args.entries c.append_all.new.self.entries c.in_ok-append_all.ensures.ok c.self.invariant.2 next

pub invariant_of-self : goal.invariant_of-self
invariant_of-self c =
    let s = state_at (objects_of c.self.inside.counted.table) c.self.inside.replies.kept in (
      c.self.invariant.0,
      indexed_same c.self.inside.counted.table c.self.inside.entries c.append_all.new.self c.self.inside.indexed c.append_all.ensures.base c.in_err-append_all.ensures.err c.self.invariant.1,
      next_same s c.self.inside.entries.entries c.append_all.new.self.entries c.in_err-append_all.ensures.err c.self.invariant.2,
      counted_same c.self.inside.counted.bytes (objects_of c.self.inside.counted.table) (objects_of c.self.inside.counted.table) (bytes_of_entries c.self.inside.entries.entries) (bytes_of_entries c.append_all.new.self.entries) refl (ap bytes_of_entries c.in_err-append_all.ensures.err) c.self.invariant.3,
    )

pub invariant_of-self-2 : goal.invariant_of-self-2
invariant_of-self-2 c =
    let s = state_at (objects_of c.self.inside.counted.table) c.self.inside.replies.kept in
    let next = rw (← c.self.view_is) at c.requires.next in
    let all = next_appended s c.self.inside.entries.entries c.args.entries c.append_all.new.self.entries c.in_ok-append_all.ensures.ok c.self.invariant.2 next in (
      c.list_entries-refused.ensures.placed,
      c.list_entries-refused.ensures.indexed,
      next_of_same (objects_of c.self.inside.counted.table) (objects_of c.list_entries-refused.new.table) c.append_all.new.self.entries c.list_entries-refused.ensures.objects all,
      entries_counted c.self.inside.counted.bytes c.bytes_of_entries-more.result _ (objects_of c.self.inside.counted.table) (objects_of c.list_entries-refused.new.table) c.self.inside.entries.entries c.args.entries c.append_all.new.self.entries c.self.invariant.3
          (c.bytes_of_entries-more.ensures ∙ ap (λ (es : List Entry). bytes_of_entries es % 2 ^ 64) c.as_slice.ensures) refl c.in_ok-append_all.ensures.ok c.list_entries-refused.ensures.objects,
    )
