use Rattle.std.proofs.Common.{◌≡◌, ◌-◌, ◌+◌, length, arith}
use Rattle.craq_client_index.proofs.Through.{newest_is}
use Rattle.craq_client_index.proofs.positions.Positions.newest_or.Goals as goal

pub returns-else-count-eq0 : goal.returns-else-count-eq0
returns-else-count-eq0 c =
    let all = c.self.inside.positions.ok.0 in
    let some : c.len-count.result - 1 + 1 ≡ length c.self.inside.positions.items = omega (arith, all, c.len-count.ensures, c.if-count-eq0.false) in
    rw (← c.self.view_is) (newest_is c.self.inside.positions.items (c.len-count.result - 1) c.index.result.now c.args.none some c.index.ensures)
