use Rattle.std.proofs.Common.{◌≡◌}
use Rattle.craq_server.proofs.store_session.StoreSession.take_kept.Given as goal

abbrev pub invariant-loop-place : goal.invariant-loop-place
invariant-loop-place g l = l.self-inside ≡ l.initial.self-inside
