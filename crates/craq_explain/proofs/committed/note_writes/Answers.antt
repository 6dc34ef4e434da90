use Rattle.std.proofs.Common.{◌≡◌, ◌<◌, ◌≤◌, length, get_or, ap, subst, ◌∙◌}
use Rattle.std.specs.Option.{option_or}
use Rattle.std.specs.BTreeMap.{get, is_at}
use Rattle.craq_explain.specs.Firsts.{number_if, write_cmp}
use Rattle.craq_explain.proofs.Noting.{write_noted, writes_noted}
use Rattle.craq_explain.proofs.committed.note_writes.Goals as goal

pub loop-write-preserved : goal.loop-write-preserved
loop-write-preserved c = λ q.
    let e = c.as_slice-write-items.ensures in
    let ws = c.args.entry.now.writes in
    let i = c.loop-write.write-index in
    let w = c.write-item.result in
    let h : i < length ws = subst (λ xs. i < length xs) e c.loop-write-test.true in
    let is : w ≡ get_or ws i w = subst (λ xs. w ≡ get_or xs i w) e c.write-item.is in
    let x = get write_cmp c.loop-write.written q in
    write_noted ws i w c.args.entry.now.position x (get write_cmp c.put_first.new.numbers q) _ q h is
    (c.in_ok-put_first.ensures q ∙ ap (λ k. option_or x (number_if (is_at (write_cmp (k, w.version)) q) c.get.result)) c.in_ok-key.ensures ∙ ap (λ n. option_or x (number_if (is_at (write_cmp (w.key, w.version)) q) n)) c.get.ensures)
    (c.loop-write.invariant q)

pub returns : goal.returns
returns c = λ q.
    let i = c.loop-write.write-index in
    let h : length c.args.entry.now.writes ≤ i = subst (λ xs. length xs ≤ i) c.as_slice-write-items.ensures c.loop-write-test.false in
    writes_noted c.args.entry.now.writes i c.args.entry.now.position (get write_cmp c.loop-write.written q) _ q h (c.loop-write.invariant q)
