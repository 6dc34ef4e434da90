-- A node's sends.
use Rattle.std.specs.Prelude.{ℕ, ◌*◌, ◌==◌, nat_le, if◌then◌else◌, List, [], ◌∷◌, ◌++◌, map, length, take, drop, Option, Some, None}
use Rattle.std.specs.List.{range_with_len}
use Rattle.std.specs.Slice.Iter.{chunk_count}
use Rattle.craq_names.specs.Limits.{batch_limit, part_limit}
use Rattle.craq_model.specs.declared.message.Body.{Body}
use Rattle.craq_model.specs.declared.message.Body.TheVariants as bodies
use Rattle.craq_commands.specs.declared.entry.Entry.{Entry}
use Rattle.craq_commands.specs.declared.state.State.{State}
use Rattle.craq_model.specs.declared.step.Out.{Out}
use Rattle.craq_model.specs.declared.step.Out.TheVariants.{Send}
use Rattle.craq_model.specs.Members.{last_of}
use Rattle.craq_model.specs.declared.waiting.WaitingRead.{WaitingRead}
use Rattle.craq_model.specs.Parts.{item_count, parts_of}
use Rattle.craq_model.specs.Plain.{Plain, id_of, successor, predecessor, is_last, length_of, entries_after}

-- a message to a node, in the node's epoch; its stamp and index are set elsewhere
abbrev pub send : Plain → ℕ → Body → Out
send p to body =
    Send to (record { chain = p.name.chain; sender = id_of p; receiver = to; stamp = 1; index = 0; epoch = p.epoch; body = body })

abbrev pub send_all : Plain → ℕ → List Body → List Out
send_all p to bodies = map (send p to) bodies

-- the sends to a neighbour, none without a neighbour
abbrev pub to_neighbour : Option ℕ → (ℕ → List Out) → List Out
to_neighbour None sends = []
to_neighbour (Some to) sends = sends to

-- entries in runs of 16; the last run may be shorter
unfoldable pub runs_of : List Entry → List (List Entry)
runs_of entries = map (λ i. take batch_limit (drop (batch_limit * i) entries)) (range_with_len 0 (chunk_count (length entries) batch_limit))

-- a run of one entry is sent as `Entry`, a longer one as `Batch`
abbrev pub run_body : List Entry → Body
run_body (e ∷ []) = bodies.Entry e
run_body [] = bodies.Batch []
run_body (e ∷ f ∷ es) = bodies.Batch (e ∷ f ∷ es)

-- the messages that send consecutive entries
unfoldable pub entry_bodies : List Entry → List Body
entry_bodies entries = map run_body (runs_of entries)

-- the messages that send the state after a position: one copy if it has at most 64 items, else
-- parts
unfoldable pub copy_bodies : ℕ → State → List Body
copy_bodies position state =
    if nat_le (item_count state) part_limit
    then bodies.Copy position state ∷ []
    else map bodies.Part (parts_of position state)

-- the entries after a position, then their count
unfoldable pub catch_up : Plain → ℕ → List Body
catch_up p position = entry_bodies (entries_after p position) ++ bodies.Floor (length_of p) ∷ []

-- a query for each waiting read
abbrev pub queries : Plain → List Out
queries p = map (λ (r : WaitingRead). send p (last_of p.members) (bodies.Query r.ticket r.key)) p.waiting_reads

-- the sends that a ready node repeats
unfoldable pub ready_sends : Plain → List Out
ready_sends p =
    to_neighbour (successor p) (λ to. send_all p to (catch_up p p.past.acknowledged))
    ++ to_neighbour (predecessor p) (λ to. send p to (bodies.Ack p.past.acknowledged) ∷ [])
    ++ (if is_last p then [] else queries p)

-- the sends that an unready node repeats
unfoldable pub unready_sends : Plain → List Out
unready_sends p = to_neighbour (predecessor p) (λ to. send p to (bodies.Blank (length_of p)) ∷ [])

-- the sends of a tick; none without a membership
unfoldable pub tick_sends : Plain → List Out
tick_sends p = if p.epoch == 0 then [] else if p.ready then ready_sends p else unready_sends p
