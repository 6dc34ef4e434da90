-- With which status the server's program ends.
use Rattle.std.specs.Prelude.{ℕ, Option, Some, None}
use Rattle.craqd.specs.declared.fault.Fault.{Fault}
use Rattle.craqd.specs.declared.fault.Fault.TheVariants as faults

-- the status after a fault that is printed on standard error; a fault of the output has none here
abbrev pub status_of : Fault → Option ℕ
status_of faults.CannotRead = Some 2
status_of faults.BadPlan = Some 2
status_of faults.Memory = Some 3
status_of faults.CannotListen = Some 4
status_of (faults.AuditRefused refusal) = Some 5
status_of (faults.CannotPrint error) = None
