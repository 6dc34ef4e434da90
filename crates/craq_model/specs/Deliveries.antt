-- A node's step on a message.
use Rattle.std.specs.Prelude.{ℕ, ◌+◌, ◌==◌, nat_le, nat_lt, max, Bool, true, not, ◌&&◌, ◌||◌, if◌then◌else◌, List, [], ◌∷◌, ◌++◌, map, filter, find, is_some, Option, Some, None}
use Rattle.std.specs.List.{list_all}
use Rattle.craq_commands.specs.declared.entry.Entry.{Entry}
use Rattle.craq_commands.specs.declared.entry.Write.{Write}
use Rattle.craq_commands.specs.Objects.{version_of}
use Rattle.craq_commands.specs.declared.state.State.{State}
use Rattle.craq_commands.specs.SingleCopy.{is_new_to, after_entry}
use Rattle.craq_names.specs.Maps.{at_number}
use Rattle.craq_model.specs.declared.message.StatePart.{StatePart}
use Rattle.craq_model.specs.declared.message.Body.{Body}
use Rattle.craq_model.specs.declared.message.Body.TheVariants as bodies
use Rattle.craq_model.specs.declared.message.LinkMessage.{LinkMessage}
use Rattle.craq_model.specs.declared.step.Out.TheVariants as outs
use Rattle.craq_model.specs.declared.step.Why.TheVariants.{OtherEpoch, NotNeighbour, OutOfOrder, AlreadyHave, NotReadyHere, UnknownTicket, TooFar}
use Rattle.craq_model.specs.Members.{is_member, is_id, last_of}
use Rattle.craq_model.specs.declared.waiting.WaitingUpdate.{WaitingUpdate}
use Rattle.craq_model.specs.declared.waiting.WaitingRead.{WaitingRead}
use Rattle.craq_model.specs.Past.{installed_in}
use Rattle.craq_model.specs.declared.gathering.Gathering.{Gathering}
use Rattle.craq_model.specs.Parts.{gathered_position, gathering_for, is_in_order, with_part, is_whole, joined_state}
use Rattle.craq_model.specs.Plain.{Plain, id_of, successor, predecessor, is_tail, length_of, newest, clean, newest_object, clean_object, object_within, with_entries, acknowledging}
use Rattle.craq_model.specs.Sends.{send, send_all, to_neighbour, entry_bodies, copy_bodies, catch_up}
use Rattle.craq_model.specs.Settle.{Transition, transition_with, transition_ignoring, read_answer, update_given, answer_outs, settling_transition, readiness_transition}

-- a membership of a later epoch
unfoldable pub config_transition : Plain → ℕ → List ℕ → Transition
config_transition p epoch members =
    if nat_le epoch p.epoch then transition_ignoring p OtherEpoch
    else if not (is_member members (id_of p)) then transition_ignoring p NotNeighbour
    else settling_transition (record p { epoch = epoch; members = members; floor = None; gathering = None })

-- each write has the object's next version, and the request number is new
unfoldable pub is_applicable : State → Entry → Bool
is_applicable s e = list_all (λ (w : Write). w.version == version_of s.objects w.key + 1) e.writes && is_new_to s e.client e.number

-- each entry is applicable after those before it
abbrev pub are_applicable : State → List Entry → Bool
are_applicable s [] = true
are_applicable s (e ∷ es) = is_applicable s e && are_applicable (after_entry s e) es

-- a ready tail commits the entries that it took; another node forwards them
unfoldable pub forwarding_transition : Plain → List Entry → Transition
forwarding_transition p es =
    if is_tail p
    then transition_with (acknowledging p (length_of p)) (to_neighbour (predecessor p) (λ to. send p to (bodies.Ack (length_of p)) ∷ []))
    else transition_with p (to_neighbour (successor p) (λ to. send_all p to (entry_bodies es)))

-- a node took entries: it forwards them if it is ready, or may become ready
abbrev pub taken_entries_transition : Plain → List Entry → Transition
taken_entries_transition p es = if p.ready then forwarding_transition p es else readiness_transition p

-- entries that follow the node's: it takes all of them or none
abbrev pub appending_transition : Plain → List Entry → Transition
appending_transition p es = if are_applicable (newest p) es then taken_entries_transition (with_entries p es) es else transition_ignoring p TooFar

-- the positions of the first and the last entry, 0 if there is none
abbrev pub first_position : List Entry → ℕ
first_position [] = 0
first_position (e ∷ es) = e.position

abbrev pub final_position : List Entry → ℕ
final_position [] = 0
final_position (e ∷ []) = e.position
final_position (e ∷ f ∷ es) = final_position (f ∷ es)

-- the entries above a position
unfoldable pub entries_above : ℕ → List Entry → List Entry
entries_above position es = filter (λ (e : Entry). nat_lt position e.position) es

-- consecutive entries: those that the node already holds are left out
unfoldable pub entries_transition : Plain → ℕ → List Entry → Transition
entries_transition p sender es =
    if not (is_id (predecessor p) sender) then transition_ignoring p NotNeighbour
    else if nat_le (final_position es) (length_of p) then transition_ignoring p AlreadyHave
    else if nat_lt (length_of p + 1) (first_position es) then transition_ignoring p OutOfOrder
    else appending_transition p (entries_above (length_of p) es)

-- the updates that wait for at most this position, and the others
unfoldable pub pending_updates : ℕ → List WaitingUpdate → List WaitingUpdate
pending_updates position us = filter (λ (u : WaitingUpdate). nat_le u.position position) us

unfoldable pub later_updates : ℕ → List WaitingUpdate → List WaitingUpdate
later_updates position us = filter (λ (u : WaitingUpdate). nat_lt position u.position) us

-- the history is committed up to a position
unfoldable pub acknowledgement_transition : Plain → ℕ → Transition
acknowledgement_transition p position =
    transition_with (record (acknowledging p position) { waiting_updates = later_updates position p.waiting_updates })
    (answer_outs (map update_given (pending_updates position p.waiting_updates)) ++ to_neighbour (predecessor p) (λ to. send p to (bodies.Ack position) ∷ []))

unfoldable pub ack_transition : Plain → ℕ → ℕ → Transition
ack_transition p sender position =
    if not (is_id (successor p) sender) then transition_ignoring p NotNeighbour
    else if not p.ready then transition_ignoring p NotReadyHere
    else if nat_le position p.past.acknowledged then transition_ignoring p AlreadyHave
    else if nat_lt (length_of p) position then transition_ignoring p TooFar
    else acknowledgement_transition p position

unfoldable pub query_transition : Plain → ℕ → ℕ → List ℕ → Transition
query_transition p sender ticket key =
    if (sender == id_of p) || not (is_member p.members sender) then transition_ignoring p NotNeighbour
    else if not (is_tail p) then transition_ignoring p NotReadyHere
    else transition_with p (send p sender (bodies.VersionIs ticket (newest_object p key).0) ∷ [])

-- the waiting read of a ticket
unfoldable pub read_with : ℕ → List WaitingRead → Option WaitingRead
read_with ticket rs = find (λ (r : WaitingRead). r.ticket == ticket) rs

unfoldable pub reads_without : ℕ → List WaitingRead → List WaitingRead
reads_without ticket rs = filter (λ (r : WaitingRead). not (r.ticket == ticket)) rs

-- the version that a read returns: the tail's, or a later one that is clean by now
abbrev pub answering_version : Plain → List ℕ → ℕ → ℕ
answering_version p key version = max version (clean_object p key).0

-- a waiting read learns a version that was committed
unfoldable pub reported_version_transition : Plain → ℕ → Option WaitingRead → Transition
reported_version_transition p version None = transition_ignoring p UnknownTicket
reported_version_transition p version (Some r) =
    if nat_lt (newest_object p r.key).0 version then transition_ignoring p TooFar
    else transition_with (record p { waiting_reads = reads_without r.ticket p.waiting_reads })
    (outs.Answer r.ticket (read_answer (object_within p r.key (answering_version p r.key version))) ∷ [])

unfoldable pub version_transition : Plain → ℕ → ℕ → ℕ → Transition
version_transition p sender ticket version =
    if not (sender == last_of p.members) then transition_ignoring p NotNeighbour
    else reported_version_transition p version (read_with ticket p.waiting_reads)

-- the messages that an unready successor with this many entries still needs
unfoldable pub fill_bodies : Plain → ℕ → List Body
fill_bodies p count =
    (if nat_lt count p.past.acknowledged then copy_bodies p.past.acknowledged (clean p) else [])
    ++ catch_up p (max count p.past.acknowledged)

unfoldable pub blank_transition : Plain → ℕ → ℕ → Transition
blank_transition p sender count =
    if not (is_id (successor p) sender) then transition_ignoring p NotNeighbour
    else if not p.ready then transition_ignoring p NotReadyHere
    else transition_with p (send_all p sender (fill_bodies p count))

-- the node with a state in place of its entries
abbrev pub with_copy : Plain → ℕ → State → Plain
with_copy p position state = record p { past = installed_in position state }

unfoldable pub copy_transition : Plain → ℕ → ℕ → State → Transition
copy_transition p sender position state =
    if not (is_id (predecessor p) sender) then transition_ignoring p NotNeighbour
    else if p.ready || nat_le position (length_of p) then transition_ignoring p AlreadyHave
    else readiness_transition (with_copy p position state)

-- a complete state is installed; otherwise the node goes on gathering
abbrev pub gathered_transition : Plain → Gathering → Transition
gathered_transition p g =
    if is_whole g then readiness_transition (with_copy p g.position (joined_state g.parts)) else transition_with (record p { gathering = Some g }) []

-- a part of the state that the node gathers
abbrev pub gathering_transition : Plain → Gathering → StatePart → Transition
gathering_transition p g part =
    if not (part.count == g.count) then transition_ignoring p TooFar
    else if is_some (at_number g.parts part.number) then transition_ignoring p AlreadyHave
    else if not (is_in_order g part) then transition_ignoring p TooFar
    else gathered_transition p (with_part g part)

-- the node's history, or the state that it gathers, is beyond the part
abbrev pub is_outdated : Plain → StatePart → Bool
is_outdated p part = nat_le part.position (length_of p) || nat_lt part.position (gathered_position p.gathering)

unfoldable pub part_transition : Plain → ℕ → StatePart → Transition
part_transition p sender part =
    if not (is_id (predecessor p) sender) then transition_ignoring p NotNeighbour
    else if p.ready || is_outdated p part then transition_ignoring p AlreadyHave
    else gathering_transition p (gathering_for part p.gathering) part

unfoldable pub floor_transition : Plain → ℕ → ℕ → Transition
floor_transition p sender count =
    if not (is_id (predecessor p) sender) then transition_ignoring p NotNeighbour
    else if p.ready then transition_ignoring p AlreadyHave
    else readiness_transition (record p { floor = Some count })

-- a message other than a membership must have the node's epoch
abbrev pub transition_in_epoch : Plain → LinkMessage → Transition → Transition
transition_in_epoch p m transition = if m.epoch == p.epoch then transition else transition_ignoring p OtherEpoch

-- the step on a message, by its kind
abbrev pub body_transition : Plain → LinkMessage → Body → Transition
body_transition p m (bodies.Config members) = config_transition p m.epoch members
body_transition p m (bodies.Entry e) = transition_in_epoch p m (entries_transition p m.sender (e ∷ []))
body_transition p m (bodies.Batch es) = transition_in_epoch p m (entries_transition p m.sender es)
body_transition p m (bodies.Ack position) = transition_in_epoch p m (ack_transition p m.sender position)
body_transition p m (bodies.Query ticket key) = transition_in_epoch p m (query_transition p m.sender ticket key)
body_transition p m (bodies.VersionIs ticket version) = transition_in_epoch p m (version_transition p m.sender ticket version)
body_transition p m (bodies.Blank count) = transition_in_epoch p m (blank_transition p m.sender count)
body_transition p m (bodies.Copy position state) = transition_in_epoch p m (copy_transition p m.sender position state)
body_transition p m (bodies.Part part) = transition_in_epoch p m (part_transition p m.sender part)
body_transition p m (bodies.Floor count) = transition_in_epoch p m (floor_transition p m.sender count)

-- the step on a message
abbrev pub delivery_transition : Plain → LinkMessage → Transition
delivery_transition p m = body_transition p m m.body
