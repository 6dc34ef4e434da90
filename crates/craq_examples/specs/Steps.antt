-- Steps and messages, field by field, and nodes where many requests wait.
use Rattle.std.specs.Prelude.{ℕ, List, [], ◌∷◌, map, replicate, Option, Some, None}
use Rattle.craq_commands.specs.declared.command.Update.{Update}
use Rattle.craq_commands.specs.declared.command.Command.TheVariants.{Put}
use Rattle.craq_commands.specs.declared.entry.Entry.{Entry}
use Rattle.craq_commands.specs.declared.reply.Reply.TheVariants.{Written}
use Rattle.craq_model.specs.declared.message.Body.{Body}
use Rattle.craq_model.specs.declared.message.Body.TheVariants as bodies
use Rattle.craq_model.specs.declared.message.LinkMessage.{LinkMessage}
use Rattle.craq_model.specs.declared.ask.Answer.TheVariants as answers
use Rattle.craq_model.specs.declared.step.Out.{Out}
use Rattle.craq_model.specs.declared.step.Out.TheVariants.{Send, Answer}
use Rattle.craq_model.specs.declared.step.Step.{Step}
use Rattle.craq_model.specs.Plain.{Plain, opening_member}
use Rattle.craq_runs.specs.declared.run.Move.{Move}
use Rattle.craq_runs.specs.declared.run.Taken.{Taken}
use Rattle.craq_runs.specs.Chain.{message_at, opening_chain}
use Rattle.craq_runs.specs.Runs.{after_moves}
use Rattle.craq_examples.specs.Printed.{taken}
use Rattle.craq_examples.specs.Rows.{object}

-- the steps of the accepted moves
abbrev pub steps_of : List ℕ → List Move → List Step
steps_of members ms = map (λ (t : Taken). t.step) (taken (opening_chain 0 members) ms)

-- the message of this number, after the moves
abbrev pub message_of : List ℕ → List Move → ℕ → Option LinkMessage
message_of members ms number =
    message_at (after_moves (opening_chain 0 members) (taken (opening_chain 0 members) ms)).messages number

abbrev pub message : ℕ → ℕ → ℕ → Body → LinkMessage
message sender receiver epoch body =
    record { chain = 0; sender = sender; receiver = receiver; stamp = 1; index = 0; epoch = epoch; body = body }

abbrev pub step : Option ℕ → Out → Step
step ticket out = record { ticket = ticket; outs = out ∷ []; ignored = None }

-- the entry of the first put of a on k, by client 1 at node 1
abbrev pub first_entry : Entry
first_entry =
    record {
      position = 1;
      origin_node = 1;
      origin_ticket = 1;
      client = 1;
      number = 1;
      reply = Written 1;
      writes = record { key = 107 ∷ []; version = 1; value = 97 ∷ [] } ∷ [];
    }

abbrev pub clean_and_dirty_reads_steps : List Step
clean_and_dirty_reads_steps =
    step (Some 1) (Send 2 (message 1 2 1 (bodies.Entry first_entry)))
    ∷ step (Some 2) (Send 3 (message 1 3 1 (bodies.Query 2 (107 ∷ []))))
    ∷ step (Some 3) (Answer 3 (answers.Read 1 (97 ∷ [])))
    ∷ step None (Send 1 (message 3 1 1 (bodies.VersionIs 2 0)))
    ∷ step None (Answer 2 (answers.Read 0 [])) ∷ []

-- the state that a joining node receives: c as third version of k, and the replies to client 1's
-- puts
abbrev pub third_copy : LinkMessage
third_copy = message 3 4 2 (bodies.Copy 3 (record { objects = (107 ∷ [], (3, 99 ∷ [])) ∷ []; kept = (1, (1, Written 1) ∷ (2, Written 2) ∷ (3, Written 3) ∷ []) ∷ [] }))

-- node 1 of two, where `count` reads wait
abbrev pub busy : ℕ → Plain
busy count =
    record (opening_member (record { chain = 0; node = 1 }) (1 ∷ 2 ∷ [])) { waiting_reads = replicate count (record { ticket = 1; key = 107 ∷ [] }) }

-- node 1 of two, after `ticket` tickets
abbrev pub late : ℕ → Plain
late ticket = record (opening_member (record { chain = 0; node = 1 }) (1 ∷ 2 ∷ [])) { last_ticket = ticket }

abbrev pub put : Update
put = record { client = 1; number = 1; command = Put (object 0 (107 ∷ [])) (97 ∷ []) }
