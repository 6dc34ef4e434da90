-- The lines that are printed of an audit and of a fault.
use Rattle.std.specs.Prelude.{ℕ, List, Option, Some, None, ◌++◌, codes}
use Rattle.std.specs.Fmt.{decimal}
use Rattle.craq_names.specs.Refused.{refusal_number}
use Rattle.craq_audit.specs.declared.finding.Audit.{Audit}
use Rattle.craq_audit.specs.declared.finding.Audit.TheVariants as audits
use Rattle.craqd.specs.declared.fault.Fault.{Fault}
use Rattle.craqd.specs.declared.fault.Fault.TheVariants as faults

-- the line of an audit's finding, with this number of receipts
unfoldable pub audit_text : Audit → ℕ → List ℕ
audit_text (audits.Merged run) receipts = codes "audit merged " ++ decimal receipts
audit_text (audits.NoSender node index) receipts = codes "audit nosender " ++ decimal node ++ codes " " ++ decimal index
audit_text (audits.NoReceipt index) receipts = codes "audit noreceipt " ++ decimal index

-- the line on standard error for a fault of a server whose plan file has this name; a fault of the output has no text here
unfoldable pub fault_text : Fault → List ℕ → Option (List ℕ)
fault_text faults.CannotRead plan = Some (codes "cannot read " ++ plan)
fault_text faults.BadPlan plan = Some (codes "plan refused")
fault_text faults.Memory plan = Some (codes "no memory")
fault_text faults.CannotListen plan = Some (codes "cannot listen")
fault_text (faults.AuditRefused refusal) plan = Some (codes "audit refused " ++ decimal (refusal_number refusal))
fault_text (faults.CannotPrint error) plan = None
