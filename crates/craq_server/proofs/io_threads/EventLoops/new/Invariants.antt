use Rattle.std.proofs.Common.{◌≡◌, length}
use Rattle.craq_server.proofs.io_threads.EventLoops.new.Given as goal

-- as many event loops as the loop has counted
abbrev pub invariant-loop : goal.invariant-loop
invariant-loop g l = length l.all.items ≡ l.counter
