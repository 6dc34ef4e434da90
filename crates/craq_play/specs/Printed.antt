-- Defines the text printed for the steps of a chain. Texts are lists of character codes.
use Rattle.std.specs.Prelude.{ℕ, ◌+◌, List, [], ◌∷◌, ◌++◌, codes, Option, Some, None}
use Rattle.std.specs.Fmt.{decimal}
use Rattle.craq_commands.specs.declared.entry.Entry.{Entry}
use Rattle.craq_model.specs.declared.message.Body.{Body}
use Rattle.craq_model.specs.declared.message.Body.TheVariants as bodies
use Rattle.craq_model.specs.declared.message.StatePart.{StatePart}
use Rattle.craq_model.specs.Deliveries.{first_position, final_position}
use Rattle.craq_model.specs.declared.step.Out.{Out}
use Rattle.craq_model.specs.declared.step.Out.TheVariants as outs
use Rattle.craq_model.specs.declared.step.Step.{Step}
use Rattle.craq_model.specs.declared.step.Why.{Why}
use Rattle.craq_model.specs.declared.step.Why.TheVariants as whys
use Rattle.craq_script.specs.Printed.{answer_text}

-- entries in one message, by the positions of the first and the last entry
unfoldable pub batch_text : List Entry → List ℕ
batch_text entries = codes "batch " ++ decimal (first_position entries) ++ codes "-" ++ decimal (final_position entries)

-- a part of a state, by the state's position, the part's number and the number of parts
unfoldable pub part_text : StatePart → List ℕ
part_text part = codes "part " ++ decimal part.position ++ codes " " ++ decimal part.number ++ codes "/" ++ decimal part.count

-- a message, by its kind and its numbers
unfoldable pub message_text : ℕ → Body → List ℕ
message_text epoch (bodies.Config members) = codes "config " ++ decimal epoch
message_text epoch (bodies.Entry entry) = codes "entry " ++ decimal entry.position
message_text epoch (bodies.Batch entries) = batch_text entries
message_text epoch (bodies.Ack position) = codes "ack " ++ decimal position
message_text epoch (bodies.Query ticket key) = codes "query " ++ decimal ticket
message_text epoch (bodies.VersionIs ticket version) = codes "version " ++ decimal ticket ++ codes " " ++ decimal version
message_text epoch (bodies.Blank count) = codes "blank " ++ decimal count
message_text epoch (bodies.Copy position state) = codes "copy " ++ decimal position
message_text epoch (bodies.Part part) = part_text part
message_text epoch (bodies.Floor count) = codes "floor " ++ decimal count

-- an output of a node's step; a sent message has this number
unfoldable pub out_text : ℕ → ℕ → Out → List ℕ
out_text node number (outs.Send to message) =
    codes "m" ++ decimal number ++ codes " " ++ decimal message.sender ++ codes ">" ++ decimal to ++ codes " " ++ message_text message.epoch message.body
out_text node number (outs.Answer ticket answer) = codes "answer " ++ decimal node ++ codes " " ++ decimal ticket ++ codes " " ++ answer_text answer

-- the number of messages sent after an output, given the number sent before it
abbrev pub sent_after : ℕ → Out → ℕ
sent_after sent (outs.Send to message) = sent + 1
sent_after sent (outs.Answer ticket answer) = sent

-- a line for each output of a node's step, after `sent` messages were sent; messages are numbered
-- from 1 in the order sent
abbrev pub outs_text : ℕ → ℕ → List Out → List ℕ
outs_text node sent [] = []
outs_text node sent (out ∷ others) = out_text node (sent_after sent out) out ++ codes "\n" ++ outs_text node (sent_after sent out) others

-- the reason that a message was ignored
abbrev pub why_text : Why → List ℕ
why_text whys.OtherEpoch = codes "OtherEpoch"
why_text whys.NotNeighbour = codes "NotNeighbour"
why_text whys.OutOfOrder = codes "OutOfOrder"
why_text whys.AlreadyHave = codes "AlreadyHave"
why_text whys.NotReadyHere = codes "NotReadyHere"
why_text whys.UnknownTicket = codes "UnknownTicket"
why_text whys.TooFar = codes "TooFar"

abbrev pub done_text : ℕ → ℕ → Option Why → List Out → List ℕ
done_text node sent (Some why) others = codes "ignored " ++ why_text why ++ codes "\n"
done_text node sent None [] = codes "ok\n"
done_text node sent None (out ∷ others) = outs_text node sent (out ∷ others)

-- a node's step, after `sent` messages were sent
unfoldable pub step_text : ℕ → ℕ → Step → List ℕ
step_text node sent step = done_text node sent step.ignored step.outs
