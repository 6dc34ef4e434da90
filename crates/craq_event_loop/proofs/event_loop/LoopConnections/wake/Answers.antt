use Rattle.std.proofs.Common.{◌≡◌, ◌<◌, ◌++◌, [], ◌∷◌, false, is_ok, sym, ◌∙◌, vec_capacity, arith}
use Rattle.craq_event_loop.proofs.Marks.{key_comes, marked_by, more_listed, pushed, room_to_wake, same_listed, was_off, was_on}
use Rattle.craq_event_loop.proofs.event_loop.LoopConnections.wake.Goals as goal

pub returns-then-is_newly_busy-clause-listed : goal.returns-then-is_newly_busy-clause-listed
returns-then-is_newly_busy-clause-listed g c l =
    let off : c.in-Some.connection.now.busy ≡ false = was_off c.is_newly_busy.result c.in-Some.connection.now.busy c.is_newly_busy.ensures.was_not c.if-is_newly_busy.true in
    let room : c.args.self.now.busy.len < vec_capacity c.args.self.now.busy =
    omega (arith, room_to_wake c.args.self.now.connections c.args.self.now.busy c.args.self.now.behind c.args.key c.in-Some.connection.now l (sym c.in-Some.ensures.value) off, c.args.self.now.busy.ok.0) in
    more_listed c.args.self.now.connections c.args.self.now.busy c.push.new.self c.args.self.now.behind c.args.key c.in-Some.connection.now c.is_newly_busy.new.self l
    (sym c.in-Some.ensures.value) off (marked_by c.in-Some.connection.now c.is_newly_busy.new.self c.is_newly_busy.ensures.marked)
    (pushed (is_ok c.push.result) c.args.self.now.busy.items (c.args.self.now.busy.items ++ c.args.key ∷ []) c.push.new.self.items c.push.ensures.items (c.push.ensures.succeeds room))
    c.push.ensures.capacity

pub returns-then-is_newly_busy-clause-busy : goal.returns-then-is_newly_busy-clause-busy
returns-then-is_newly_busy-clause-busy g c l =
    let off : c.in-Some.connection.now.busy ≡ false = was_off c.is_newly_busy.result c.in-Some.connection.now.busy c.is_newly_busy.ensures.was_not c.if-is_newly_busy.true in
    let room : c.args.self.now.busy.len < vec_capacity c.args.self.now.busy =
    omega (arith, room_to_wake c.args.self.now.connections c.args.self.now.busy c.args.self.now.behind c.args.key c.in-Some.connection.now l (sym c.in-Some.ensures.value) off, c.args.self.now.busy.ok.0) in
    pushed (is_ok c.push.result) c.args.self.now.busy.items (c.args.self.now.busy.items ++ c.args.key ∷ []) c.push.new.self.items c.push.ensures.items (c.push.ensures.succeeds room)
    ∙ sym (key_comes c.args.self.now.busy.items c.args.key _ c.in-Some.connection.now (sym c.in-Some.ensures.value) off)

pub returns-else-is_newly_busy-clause-listed : goal.returns-else-is_newly_busy-clause-listed
returns-else-is_newly_busy-clause-listed g c l =
    same_listed c.args.self.now.connections c.args.self.now.busy c.args.self.now.behind c.args.key c.in-Some.connection.now c.is_newly_busy.new.self l
    (sym c.in-Some.ensures.value)
    (marked_by c.in-Some.connection.now c.is_newly_busy.new.self c.is_newly_busy.ensures.marked
    ∙ sym (was_on c.is_newly_busy.result c.in-Some.connection.now.busy c.is_newly_busy.ensures.was_not c.if-is_newly_busy.false))
