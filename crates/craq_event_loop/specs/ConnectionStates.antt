-- The protocol state of one client whose calls come back later.
use Rattle.std.specs.Prelude.{◌≡◌, ◌<◌, ◌≤◌, ℕ, List, [], ◌∷◌, ◌++◌, length, Option, None, Some, Result, Err}
use Rattle.craq_names.specs.declared.refusal.Refusal.{Refusal}
use Rattle.craq_names.specs.declared.refusal.Refusal.TheVariants.{FrameTooLong, Memory}
use Rattle.craq_frames.specs.declared.ask.ClientMessage.{ClientMessage}
use Rattle.craq_frames.specs.declared.answer.ClientReply.{ClientReply}
use Rattle.craq_frames.specs.Frame.{frame, payload_limit, IsPartial}
use Rattle.std.specs.declared.alloc.Global.{Global}
use Rattle.std.specs.declared.collections.VecDeque.{VecDeque}
use Rattle.craq_frames.specs.declared.protocol_codec.Asking.{Asking}
use Rattle.craq_frames.specs.declared.protocol_codec.ProtocolCodec.{ProtocolCodec}
use Rattle.craq_frames.specs.Serving.{Conversation, RefusesLength, neither}
use Rattle.craq_frames.specs.Steps.{ahead}
use Rattle.craq_frames.specs.Talk.{Exchanges, next_turn, Stands}
use Rattle.craq_seat.specs.Calls.{Called}
use Rattle.craq_event_loop.specs.declared.door_calls.DoorCalls.{DoorCalls}
use Rattle.craq_event_loop.specs.declared.connection_state.Ending.{Ending}
use Rattle.craq_event_loop.specs.declared.connection_state.Ending.TheVariants as endings
use Rattle.craq_event_loop.specs.declared.connection_state.Phase.{Phase}
use Rattle.craq_event_loop.specs.declared.connection_state.Phase.TheVariants as phases
use Rattle.craq_event_loop.specs.declared.connection_state.Stepped.{Stepped}
use Rattle.craq_event_loop.specs.declared.connection_state.Stepped.TheVariants as steps
use Rattle.craq_event_loop.specs.declared.connection_state.CallRequest.{CallRequest}
use Rattle.craq_event_loop.specs.declared.connection_state.Begun.TheVariants.{Reported, Calls}
use Rattle.craq_event_loop.specs.Turns.{kept, name_of, for_memory, IsTurn}
use Rattle.craq_event_loop.specs.Halves.{asked_by, EndsTurn, HasRoomFor, MakesRoom}

-- the refusal with which `serve` ends for the same reason
abbrev pub refusal_for : Ending → Refusal
refusal_for endings.TooLong = FrameTooLong
refusal_for endings.Memory = Memory

-- the messages that ask for these calls
abbrev pub all_asked : List CallRequest → List ClientMessage
all_asked [] = []
all_asked (q ∷ qs) = asked_by q ∷ all_asked qs

-- the calls that were asked ahead, behind the one that is under way
abbrev pub later_calls : Phase → List CallRequest
later_calls (phases.Waits q later) = later.items
later_calls phase = []

-- the bytes that were read and encoded, and the turns so far, in a phase; where it is over, they are as where `serve` ends so
abbrev pub StandsIn : Phase → List ℕ → List ℕ → List ℕ → Option Asking → Exchanges → Type 0
StandsIn (phases.Over why) read made input asking turns = Conversation next_turn [] read made turns neither (Err (refusal_for why))
StandsIn phases.Idle read made input asking turns = Stands read made input asking None [] turns
StandsIn (phases.Asks m) read made input asking turns = Stands read made input asking (Some m) [] turns
StandsIn (phases.Waits q later) read made input asking turns = Stands read made input asking (Some (asked_by q)) (all_asked later.items) turns

-- the bytes `read` came and those `written` went, and these were the turns: with those that are unsent, the bytes that went are
-- the frames of the replies
abbrev pub Holds : Phase → ProtocolCodec → List ℕ → List ℕ → Exchanges → Type 0
Holds phase codec read written turns = StandsIn phase read (written ++ codec.buffers.output.items) codec.buffers.input.items codec.asking turns

-- no turn more, or one more, with this message and this reply
abbrev pub HasNoMore : Phase → ProtocolCodec → Phase → ProtocolCodec → Type 0
HasNoMore p t q u = (read written : List ℕ) (turns : Exchanges) → Holds p t read written turns → Holds q u read written turns

abbrev pub HasOneMore : Phase → ProtocolCodec → Phase → ProtocolCodec → ClientMessage → ClientReply → Type 0
HasOneMore p t q u m r = (read written : List ℕ) (turns : Exchanges) → Holds p t read written turns → Holds q u read written (turns ++ (m, r) ∷ [])

-- the message m, which was under way, has its reply; the calls `later` were asked ahead
abbrev pub HasReply : ClientMessage → List CallRequest → ProtocolCodec → Phase → ProtocolCodec → ClientReply → Type 0
HasReply m later t q u r =
    (read written : List ℕ) (turns : Exchanges) → Stands read (written ++ t.buffers.output.items) t.buffers.input.items t.asking (Some m) (all_asked later) turns
    → Holds q u read written (turns ++ (m, r) ∷ [])

-- the number of messages that were asked ahead, which does not matter where it is over
abbrev pub counted_in : Phase → ℕ → ℕ
counted_in (phases.Over why) count = 0
counted_in phase count = count

-- as many messages were asked ahead as there are calls behind the one that is under way
abbrev pub CountsAhead : Phase → Option Asking → Type 0
CountsAhead phase asking = counted_in phase (ahead asking) ≡ length (later_calls phase)

-- the number of unsent bytes from which on no more messages are asked before they are written
abbrev pub most_unsent : ℕ
most_unsent = 65536

-- it is over: a length above the limit stood in front, and the bytes of its refusal are unsent too; or it is out of memory, and no
-- more bytes are unsent
abbrev pub Ends : Ending → ProtocolCodec → ProtocolCodec → Type 0
Ends endings.TooLong old new =
    (unsent : List ℕ) × (new.buffers.output.items ≡ old.buffers.output.items ++ unsent) × RefusesLength old.buffers.input.items unsent
Ends endings.Memory old new = new.buffers.output.items ≡ old.buffers.output.items

-- fewer bytes were unsent than that, and a frame was cut off from those that came
abbrev pub CutsOff : ProtocolCodec → ProtocolCodec → Type 0
CutsOff old new =
    (length old.buffers.output.items < most_unsent) × (payload : List ℕ) × (old.buffers.input.items ≡ frame payload ++ new.buffers.input.items)
    × (length payload ≤ payload_limit)

-- the outcome of a look for the next frame, by the phase after it: a frame was cut off, or there is less than a frame; many bytes
-- are unsent, and nothing changed; or it is over
abbrev pub Found : Phase → Stepped → ProtocolCodec → ProtocolCodec → Type 0
Found (phases.Asks m) steps.Goes old new = CutsOff old new
Found phases.Idle steps.Goes old new = CutsOff old new
Found phases.Idle steps.Starved old new = IsPartial new.buffers.input.items
Found phases.Idle steps.Stays old new = (most_unsent ≤ length old.buffers.output.items) × (new ≡ old)
Found (phases.Over why) steps.Stays old new = Ends why old new
Found phase stepped old new = ⊥

-- the phase after a turn: the next call that was asked ahead is under way; or, where none was, the next message is to be asked, or the
-- next frame is looked for, or it is over when out of memory
abbrev pub Continues : List CallRequest → Phase → ProtocolCodec → ProtocolCodec → Type 0
Continues later (phases.Waits q rest) old new = later ≡ q ∷ rest.items
Continues later phases.Idle old new = later ≡ []
Continues later (phases.Asks m) old new = later ≡ []
Continues later (phases.Over endings.TooLong) old new = ⊥
Continues later (phases.Over endings.Memory) old new = (later ≡ []) × Ends endings.Memory old new

-- while calls are under way there is room for the receipt of each
abbrev pub KeepsRoom : Phase → DoorCalls → Type 0
KeepsRoom phase calls = (q : CallRequest) (later : VecDeque CallRequest Global) → phase ≡ phases.Waits q later → HasRoomFor (length later.items) calls

-- the reason for which it is over, if it is
abbrev pub ending_of : Phase → Option Ending
ending_of (phases.Over why) = Some why
ending_of phase = None

-- the call that is under way, if there is one
abbrev pub IsUnderWay : Phase → Option CallRequest → Type 0
IsUnderWay (phases.Waits q later) found = found ≡ Some q
IsUnderWay phase found = found ≡ None

-- the effect of a step, by the phase before it: a message had its turn without a call, or its call is to be made; the next frame was
-- looked for; or nothing is to be done
abbrev pub Took : (List ℕ → Type 0) → Phase → Stepped → Phase → ProtocolCodec → ProtocolCodec → DoorCalls → DoorCalls → Type 0
Took tells (phases.Asks m) steps.Goes q t u c d =
    (reply : ClientReply) × HasOneMore (phases.Asks m) t q u m reply × IsTurn tells for_memory c.policy c.receipts.items m reply d.receipts.items × MakesRoom c m (Reported reply) d × Continues [] q t u
    × (d.receipts.items ≡ kept c.policy c.receipts.items)
Took tells (phases.Asks m) (steps.Calls submit_token) (phases.Waits x later) t u c d =
    (later.items ≡ []) × (m ≡ asked_by x) × (x.node ≡ name_of x.node.node x.ask) × (d.receipts.items ≡ kept c.policy c.receipts.items) × MakesRoom c m (Calls x) d × (u ≡ t)
Took tells phases.Idle stepped q t u c d = Found q stepped t u × HasNoMore phases.Idle t q u × (d ≡ c)
Took tells (phases.Waits x later) steps.Stays q t u c d = (q ≡ phases.Waits x later) × (u ≡ t) × (d ≡ c)
Took tells (phases.Over why) steps.Stays q t u c d = (q ≡ phases.Over why) × (u ≡ t) × (d ≡ c)
Took tells phase stepped q t u c d = ⊥

-- the effect of an outcome: the call that was under way has it, and its turn ends; where no call was, nothing happened
abbrev pub AnswersCall : Phase → Result Called Refusal → Phase → ProtocolCodec → ProtocolCodec → DoorCalls → DoorCalls → Type 0
AnswersCall (phases.Waits x later) outcome q t u c d =
    (reply : ClientReply) × HasOneMore (phases.Waits x later) t q u (asked_by x) reply × EndsTurn x outcome c.receipts.items reply d.receipts.items × Continues later.items q t u
AnswersCall phase outcome q t u c d = (q ≡ phase) × (u ≡ t) × (d ≡ c)
