use Rattle.std.proofs.Common.{rules, ◌≡◌, ◌≤◌, ◌+◌, length, take, ◌∙◌}
use Rattle.craq_frames.proofs.Known.{read_behind}
use Rattle.craq_front.proofs.buffers.fill.Goals as goal

pub returns-in-Ok-clause-ok : goal.returns-in-Ok-clause-ok
returns-in-Ok-clause-ok g c =
    let was = c.args.buffers.now.input.items in
    let at = c.len-length.result in
    let all = c.advance_mut.new.self.items in
    let now = c.as_mut_slice.result.now in
    let n = c.in-Ok.n in
    let got = c.read.new.buffer in
    let front : take at now ≡ was = search rules in
    let within : at + n ≤ length all = search rules in (
      take n got,
      search rules,
      c.truncate.ensures.items ∙ read_behind was now got _ at n _ (length all) c.len-length.ensures.value front within c.in-Ok.ensures.gave.0,
      c.in-Ok.ensures.gave.1,
      c.in-Ok.ensures.gave.2,
    )
