-- A message is asked ahead.
use Rattle.std.proofs.Common.{◌≡◌, ◌∙◌, ◌+◌, ◌++◌, ◌∷◌, [], ◌≤◌, ℕ, List, length, length-append, Option, Some, sym, refl, ap, subst, arith}
use Rattle.std.specs.declared.alloc.Global.{Global}
use Rattle.std.specs.declared.collections.VecDeque.{VecDeque}
use Rattle.craq_frames.specs.declared.protocol_codec.Asking.{Asking}
use Rattle.craq_frames.specs.Steps.{IsTakenAhead, ahead}
use Rattle.craq_event_loop.specs.SubmittedCalls.{Calling}
use Rattle.craq_event_loop.specs.Halves.{GrowsRoom, HasRoomFor, asked_by}
use Rattle.craq_event_loop.specs.Turns.{Refusing}
use Rattle.craq_frames.specs.declared.ask.ClientMessage.{ClientMessage}
use Rattle.craq_frames.specs.declared.buffers.Buffers.{Buffers}
use Rattle.craq_frames.specs.Talk.{Exchanges, Stands}
use Rattle.craq_frames.proofs.Talks.{stands_ahead}
use Rattle.craq_event_loop.specs.ConnectionStates.{CountsAhead, Holds, KeepsRoom, all_asked}
use Rattle.craq_event_loop.specs.Advancing.{AsksAhead}
use Rattle.craq_event_loop.specs.declared.door_calls.DoorCalls.{DoorCalls}
use Rattle.craq_event_loop.specs.declared.connection_state.CallRequest.{CallRequest}
use Rattle.craq_event_loop.specs.declared.connection_state.ConnectionState.{ConnectionState}
use Rattle.craq_event_loop.specs.declared.connection_state.Phase.{Phase}
use Rattle.craq_event_loop.specs.declared.connection_state.Phase.TheVariants as phases

-- the number of messages that were asked ahead, when one more was
more_ahead : (a b : Option Asking) (q : CallRequest) → IsTakenAhead a b (asked_by q) → ahead b ≡ ahead a + 1
more_ahead a b q (ws, rs, k, was, to) = ap ahead to ∙ ap (λ (x : ℕ). x + 1) (sym (ap ahead was))

pub counted_more : (a b : Option Asking) (first q : CallRequest) (before after : VecDeque CallRequest Global) → IsTakenAhead a b (asked_by q) → ahead a ≡ length before.items → after.items ≡ before.items ++ q ∷ []
    → CountsAhead (phases.Waits first after) b
counted_more a b first q before after taken counted behind =
    let more : ahead b ≡ ahead a + 1 = more_ahead a b q taken in
    omega (arith, more, counted, ap length behind, length-append before.items (q ∷ []))

-- there is room for the receipts of more calls
pub room_more : (first : CallRequest) (later : VecDeque CallRequest Global) (k : ℕ) (c : DoorCalls) → length later.items ≤ k → HasRoomFor k c → KeepsRoom (phases.Waits first later) c
room_more first later k c few room q rest is =
    let one : later ≡ rest = cc in
    let same : length rest.items ≡ length later.items = ap (λ (x : VecDeque CallRequest Global). length x.items) (sym one) in
    omega (arith, few, room, same)

-- the messages of one call more
all_asked_more : (qs : List CallRequest) (q : CallRequest) → all_asked (qs ++ q ∷ []) ≡ all_asked qs ++ asked_by q ∷ []
all_asked_more [] q = refl
all_asked_more (p ∷ qs) q = ap (λ (x : List ClientMessage). asked_by p ∷ x) (all_asked_more qs q)

-- where no message was asked ahead
pub room_kept : (first : CallRequest) (before after : VecDeque CallRequest Global) (c d : DoorCalls) → KeepsRoom (phases.Waits first before) c → after.items ≡ before.items → GrowsRoom c d
    → KeepsRoom (phases.Waits first after) d
room_kept first before after c d keeps same grows q rest is =
    let one : after ≡ rest = cc in
    let count : length rest.items ≡ length before.items = ap (λ (x : VecDeque CallRequest Global). length x.items) (sym one) ∙ ap length same in
    let room : HasRoomFor (length before.items) c = keeps first before refl in
    omega (arith, count, room, grows.2, grows.3)

pub counted_kept : (a : Option Asking) (first : CallRequest) (before after : VecDeque CallRequest Global) → CountsAhead (phases.Waits first before) a → after.items ≡ before.items → CountsAhead (phases.Waits first after) a
counted_kept a first before after counted same = counted ∙ sym (ap length same)

-- no turn more
pub ahead_holds : {T : Type 0} (refuses : Refusing) (submits : Calling T) (old new : ConnectionState T) → AsksAhead refuses submits old new → (read written : List ℕ) (turns : Exchanges)
    → Holds old.phase old.codec read written turns → Holds new.phase new.codec read written turns
ahead_holds refuses submits old new h read written turns holds =
    let was : Holds (phases.Waits h.first h.before) old.codec read written turns = subst (λ (x : Phase). Holds x old.codec read written turns) h.was holds in
    let more : Stands read (written ++ old.codec.buffers.output.items) old.codec.buffers.input.items new.codec.asking (Some (asked_by h.first)) (all_asked h.before.items ++ asked_by h.q ∷ []) turns =
    stands_ahead read (written ++ old.codec.buffers.output.items) old.codec.buffers.input.items old.codec.asking new.codec.asking (asked_by h.first) (asked_by h.q) (all_asked h.before.items) turns was h.taken in
    let asked : all_asked h.before.items ++ asked_by h.q ∷ [] ≡ all_asked h.after.items = sym (ap all_asked h.behind ∙ all_asked_more h.before.items h.q) in
    subst (λ (x : Phase). Holds x new.codec read written turns) (sym h.now)
    (subst (λ (x : List ClientMessage). Stands read (written ++ new.codec.buffers.output.items) new.codec.buffers.input.items new.codec.asking (Some (asked_by h.first)) x turns) asked
    (subst (λ (x : Buffers). Stands read (written ++ x.output.items) x.input.items new.codec.asking (Some (asked_by h.first)) (all_asked h.before.items ++ asked_by h.q ∷ []) turns) (sym h.buffers) more))
