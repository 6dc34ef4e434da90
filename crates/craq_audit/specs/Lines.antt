-- The steps of a chain as code borrows them, the number of messages sent before each, and the
-- sending of one that arrived.
use Rattle.std.specs.Prelude.{◌≡◌, ◌<◌, ℕ, ◌+◌, List, [], ◌∷◌, length, Contains}
use Rattle.craq_model.specs.declared.ask.Event.TheVariants as events
use Rattle.craq_model.specs.declared.message.LinkMessage.{LinkMessage}
use Rattle.craq_runs.specs.declared.run.Taken.{Taken}
use Rattle.craq_runs.specs.Chain.{sent_in}
use Rattle.craq_seat.specs.Merge.{AtMaster, AtNode, Happening, MergedStep, move_among}
use Rattle.craq_audit.specs.declared.lines.Happened.{Happened}
use Rattle.craq_audit.specs.declared.lines.Happened.TheVariants as lent

-- the event, without the reference
abbrev pub happening : Happened → Happening
happening (lent.AtNode event) = AtNode event.now
happening (lent.AtMaster event) = AtMaster event.now

-- the number of messages sent before each line, starting from the count before the first
abbrev pub sums_from : ℕ → List MergedStep → List ℕ
sums_from before [] = []
sums_from before (l ∷ ls) = before ∷ sums_from (before + length (sent_in l.step.outs)) ls

-- the message has its sending among the lines
pub record IsSentIn (lines : List MergedStep) (m : LinkMessage) : Type 0 where
  pub line : MergedStep
  pub there : Contains lines line
  pub node : line.node ≡ m.sender
  pub stamp : line.stamp ≡ m.stamp
  pub index : m.index < length (sent_in line.step.outs)

-- each message that arrives in a line has its sending among the lines
abbrev pub IsArrivalIn : List MergedStep → MergedStep → Type 0
IsArrivalIn lines l = (m : LinkMessage) → l.event ≡ AtNode (events.Deliver m) → IsSentIn lines m

-- a line as a move of the run of all lines
abbrev pub taken_among : List MergedStep → MergedStep → Taken
taken_among lines l = record { chosen = move_among lines l.node l.event; step = l.step }
