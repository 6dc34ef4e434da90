use Rattle.std.proofs.Common.{◌↔◌, drop}
use Rattle.std.specs.List.{AllByRecursion}
use Rattle.craq_audit.specs.Lookups.{BearsStop}
use Rattle.craq_audit.proofs.belonging.name_their_stops.Given as goal

abbrev pub invariant-loop-record : goal.invariant-loop-record
invariant-loop-record g l = AllByRecursion (BearsStop l.cells) (drop l.record-index l.records) ↔ AllByRecursion (BearsStop l.cells) l.records
