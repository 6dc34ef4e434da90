-- A node's step on a request.
use Rattle.std.specs.Prelude.{ℕ, ◌+◌, ◌==◌, nat_le, Bool, not, ◌||◌, if◌then◌else◌, List, [], ◌∷◌, ◌++◌, map, length, Option, Some, None, Result, Ok, Err}
use Rattle.craq_names.specs.Limits.{greatest, waiting_limit}
use Rattle.craq_names.specs.declared.name.ObjectId.{ObjectId}
use Rattle.craq_names.specs.declared.refusal.Refusal.{Refusal}
use Rattle.craq_names.specs.declared.refusal.Refusal.TheVariants as refusals
use Rattle.craq_commands.specs.declared.command.Update.{Update}
use Rattle.craq_commands.specs.declared.entry.Entry.{Entry}
use Rattle.craq_commands.specs.declared.entry.Write.{Write}
use Rattle.craq_commands.specs.declared.read_mode.ReadMode.{ReadMode}
use Rattle.craq_commands.specs.declared.read_mode.ReadMode.TheVariants.{Strong, Eventual, Bounded}
use Rattle.craq_commands.specs.declared.reply.Reply.{Reply}
use Rattle.craq_commands.specs.Objects.{Objects, version_of}
use Rattle.craq_commands.specs.Evaluation.{Outcome, eval, objects_named, all_of_chain, some_used_up}
use Rattle.craq_commands.specs.SingleCopy.{said}
use Rattle.craq_model.specs.declared.message.Body.TheVariants as bodies
use Rattle.craq_model.specs.declared.ask.Ask.{Ask}
use Rattle.craq_model.specs.declared.ask.Ask.TheVariants as asks
use Rattle.craq_model.specs.declared.ask.Answer.{Answer}
use Rattle.craq_model.specs.declared.ask.Answer.TheVariants as answers
use Rattle.craq_model.specs.declared.step.Out.{Out}
use Rattle.craq_model.specs.declared.step.Out.TheVariants as outs
use Rattle.craq_model.specs.Members.{first_of, last_of}
use Rattle.craq_model.specs.Plain.{Plain, id_of, successor, is_first, is_last, length_of, newest, newest_object, clean_object, object_within, position_of, with_entries, acknowledging}
use Rattle.craq_model.specs.Sends.{send, send_all, to_neighbour, entry_bodies}
use Rattle.craq_model.specs.Settle.{Transition, read_answer}

-- the request is accepted and takes the next ticket
abbrev pub accepted_transition : Plain → List Out → Transition
accepted_transition p outs = (record p { last_ticket = p.last_ticket + 1 }, record { ticket = Some (p.last_ticket + 1); outs = outs; ignored = None })

-- the request is accepted and gets its reply in this step
abbrev pub answered_transition : Plain → Answer → List Out → Transition
answered_transition p answer sends = accepted_transition p (outs.Answer (p.last_ticket + 1) answer ∷ sends)

-- no more requests can wait
unfoldable pub is_full : Plain → Bool
is_full p = nat_le waiting_limit (length p.waiting_updates + length p.waiting_reads)

-- the write with the object's next version
abbrev pub versioned_write : Objects → List ℕ × List ℕ → Write
versioned_write m w = record { key = w.0; version = version_of m w.0 + 1; value = w.1 }

-- the entry of a new update with its outcome
abbrev pub entry_of : Plain → Update → Outcome → Entry
entry_of p u outcome =
    record {
      position = length_of p + 1;
      origin_node = id_of p;
      origin_ticket = p.last_ticket + 1;
      client = u.client;
      number = u.number;
      reply = outcome.1;
      writes = map (versioned_write (newest p).objects) outcome.0;
    }

-- the node with one more entry
abbrev pub with_entry : Plain → Entry → Plain
with_entry p e = with_entries p (e ∷ [])

-- a node that is last in its membership commits all its entries
abbrev pub committed_if_last : Plain → Plain
committed_if_last p = if is_last p then acknowledging p (length_of p) else p

-- the reply is known, and is sent once the history is committed up to a position
unfoldable pub reply_transition : Plain → ℕ → Reply → List Out → Result Transition Refusal
reply_transition p position reply sends =
    if nat_le position p.past.acknowledged then Ok (answered_transition p (answers.Update reply) sends)
    else if is_full p then Err refusals.PendingFull
    else Ok (accepted_transition (record p { waiting_updates = p.waiting_updates ++ (record { ticket = p.last_ticket + 1; position = position; reply = reply }) ∷ [] }) sends)

-- a new update makes an entry, which goes to the successor
abbrev pub new_update_transition : Plain → Entry → Result Transition Refusal
new_update_transition p e =
    reply_transition (committed_if_last (with_entry p e)) e.position e.reply (to_neighbour (successor p) (λ to. send_all p to (entry_bodies (e ∷ []))))

-- an update at the head: a repeated one gets its reply, a new one makes an entry
unfoldable pub update_transition : Plain → Update → Option Reply → Result Transition Refusal
update_transition p u (Some reply) = reply_transition (committed_if_last p) (position_of p u.client) reply []
update_transition p u None =
    if length_of p == greatest || some_used_up (newest p).objects (objects_named u.command) then Err refusals.Exhausted
    else new_update_transition p (entry_of p u (eval (newest p).objects u.command))

-- a read of a dirty object waits for the tail's version
unfoldable pub waiting_read_transition : Plain → List ℕ → Result Transition Refusal
waiting_read_transition p key =
    if is_full p then Err refusals.PendingFull
    else Ok (accepted_transition (record p { waiting_reads = p.waiting_reads ++ (record { ticket = p.last_ticket + 1; key = key }) ∷ [] })
    (send p (last_of p.members) (bodies.Query (p.last_ticket + 1) key) ∷ []))

-- an object is clean if its newest version is the committed one
abbrev pub is_clean : Plain → List ℕ → Bool
is_clean p key = (newest_object p key).0 == (clean_object p key).0

-- a read at a ready node
unfoldable pub read_transition : Plain → ReadMode → List ℕ → Result Transition Refusal
read_transition p Eventual key = Ok (answered_transition p (read_answer (newest_object p key)) [])
read_transition p (Bounded k) key = Ok (answered_transition p (read_answer (object_within p key ((clean_object p key).0 + k))) [])
read_transition p Strong key = if is_clean p key then Ok (answered_transition p (read_answer (newest_object p key)) []) else waiting_read_transition p key

-- the objects that a request names
abbrev pub asked_objects : Ask → List ObjectId
asked_objects (asks.Update u) = objects_named u.command
asked_objects (asks.Read mode object) = object ∷ []

-- a request to this chain, while tickets are left
abbrev pub accepted_ask_transition : Plain → Ask → Result Transition Refusal
accepted_ask_transition p (asks.Update u) =
    if not (is_first p) then Err (refusals.NotHead (first_of p.members))
    else if p.last_ticket == greatest then Err refusals.Exhausted
    else update_transition p u (said (newest p) u.client u.number)
accepted_ask_transition p (asks.Read mode object) =
    if p.last_ticket == greatest then Err refusals.Exhausted
    else read_transition p mode object.key

-- a request to a running node
unfoldable pub ask_transition : Plain → Ask → Result Transition Refusal
ask_transition p ask =
    if not p.ready then Err refusals.NotReady
    else if not (all_of_chain p.name.chain (asked_objects ask)) then Err refusals.TwoChains
    else accepted_ask_transition p ask
