use Rattle.std.proofs.Common.{◌≡◌, ◌++◌, map, take}
use Rattle.craq_seat.specs.Merge.{book_line}
use Rattle.craq_audit.proofs.lines.add_book.Given as goal

abbrev pub invariant-loop-record : goal.invariant-loop-record
invariant-loop-record l = l.lines.items ≡ l.initial.lines.items ++ map book_line (take l.record-index l.records)
