use Rattle.std.proofs.Common.{◌≡◌, ◌<◌, take}
use Rattle.std.specs.List.{AllByRecursion}
use Rattle.craq_versions.specs.Tables.{room_at, KeepsRoom}
use Rattle.craq_versions.proofs.table.ObjectTable.reserve.Given as goal

-- the visited keys have room, and the table's versions are unchanged
abbrev pub invariant-loop-key : goal.invariant-loop-key
invariant-loop-key g l =
    record {
      objects : l.self.objects ≡ l.initial.self.objects;
      room : KeepsRoom l.initial.self l.self;
      reserved : AllByRecursion (λ key. 0 < room_at l.self key) (take l.key-index l.keys);
    }
