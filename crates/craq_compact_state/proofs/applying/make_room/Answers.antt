use Rattle.std.proofs.Common.{◌≡◌, ◌<◌, ◌≤◌, [], ◌∷◌, sym, subst, ◌∙◌, arith}
use Rattle.std.specs.List.{AllByRecursion}
use Rattle.craq_commands.specs.declared.entry.Entry.{Entry}
use Rattle.craq_commands.specs.declared.entry.Write.{Write}
use Rattle.craq_replies.specs.Replies.{room_at}
use Rattle.craq_compact_state.proofs.Following.{ready_indexed, ready_next}
use Rattle.craq_compact_state.proofs.Results.{always, ok_then}
use Rattle.craq_compact_state.proofs.applying.make_room.Goals as goal

same_first : (x y : Entry) → x ∷ [] ≡ y ∷ [] → x ≡ y
same_first x y e = cc

pub returns-then-get-clause-ready : goal.returns-then-get-clause-ready
returns-then-get-clause-ready c =
    let more : c.args.entries.now.base < c.args.indexed.now = omega arith in
    λ e is q. ready_indexed c.args.table.now c.args.entries.now c.args.indexed.now e c.requires.indexed more is q

pub returns-then-are_rewrites-clause-ready : goal.returns-then-are_rewrites-clause-ready
returns-then-are_rewrites-clause-ready c =
    let low : c.args.indexed.now ≤ c.args.entries.now.base = omega arith in
    let high = rw c.as_slice.ensures at (c.are_rewrites.ensures.0 c.if-are_rewrites.true) in
    λ e is q. ready_next c.args.table.now c.args.entries.now c.args.indexed.now e c.requires.placed.rising c.requires.indexed low c.requires.next is
    (subst (λ (x : Entry). AllByRecursion (λ (w : Write). 2 ≤ w.version) x.writes) (same_first c.first_of-first.result.now e (sym c.first_of-first.ensures ∙ is)) high) q

pub returns-clause-ready : goal.returns-clause-ready
returns-clause-ready c =
    let indexed = c.requires.indexed in
    let from = indexed.from in
    ok_then c.list_next.result (λ ok. let more : c.args.entries.now.base < c.list_next.new.indexed = omega (arith, ok, from) in λ e is q. ready_indexed c.list_next.new.table c.args.entries.now c.list_next.new.indexed e c.list_next.ensures.indexed more is q) c.list_next.ensures.ok

pub returns-clause-room : goal.returns-clause-room
returns-clause-room c = always c.list_next.result (λ e is. subst (λ (x : Entry). 0 < room_at c.reserve.new.self x.client) (same_first c.first_of-first.result.now e (sym c.first_of-first.ensures ∙ is)) c.in_ok-reserve.ensures.ok)
