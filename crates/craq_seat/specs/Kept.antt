-- The invariants of a node's cell.
use Rattle.std.specs.Prelude.{◌≡◌, ◌-◌, List, Option, Some, None, IfSome, Vec, length, slice_get}
use Rattle.std.specs.Option.{option_map}
use Rattle.std.specs.declared.alloc.Global.{Global}
use Rattle.craq_model.specs.declared.ask.Event.{Event}
use Rattle.craq_model.specs.declared.step.Step.{Step}
use Rattle.craq_model.specs.Node.{node_step}
use Rattle.craq_model.specs.Plain.{Plain}
use Rattle.craq_node.specs.Represented.{opening_of}
use Rattle.craq_seat.specs.declared.journal.Record.{Record}
use Rattle.craq_seat.specs.Cells.{Celled, receipt_of}
use Rattle.craq_seat.specs.Journal.{IsStamped, Stands}
use Rattle.craq_seat.specs.Numbered.{CanBeSent}
use Rattle.craq_seat.specs.Stamps.{event_stamp}

-- the records of a journal, without their memory
abbrev pub records_of : {E : Type 0} → Option (Vec (Record E) Global) → Option (List (Record E))
records_of None = None
records_of (Some v) = Some v.items

-- the last step: of the journal, or without one the step that is kept instead
abbrev pub last_of : {E : Type 0} → Option (Vec (Record E) Global) → Option Step → Option Step
last_of None kept = kept
last_of (Some v) kept = option_map (λ r. r.step) (slice_get v.items (length v.items - 1))

-- the invariants of a node's cell
pub record IsKept {C : Type 0} (represents : C → Plain → Type 0) (c : Celled C Event) : Type 0 where
  pub stands : Stands represents node_step (opening_of c.opening.name c.opening.config) c.inside c.journal
  pub named : (p : Plain) × represents c.inside p × (p.name ≡ c.opening.name)  -- it is the node that was opened
  pub stamps : IsStamped event_stamp c.opening.stamp c.journal c.stamp
  pub sends : IfSome c.last (λ step. CanBeSent (receipt_of c) step.outs)  -- the last step's messages can be numbered and encoded
