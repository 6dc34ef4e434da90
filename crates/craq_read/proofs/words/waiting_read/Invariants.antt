use Rattle.std.proofs.Common.{◌≡◌, drop}
use Rattle.craq_model.specs.Deliveries.{read_with}
use Rattle.craq_read.proofs.words.waiting_read.Given as goal

-- no visited read has the ticket
abbrev pub invariant-loop-read : goal.invariant-loop-read
invariant-loop-read l = read_with l.ticket (drop l.read-index l.reads) ≡ read_with l.ticket l.reads
