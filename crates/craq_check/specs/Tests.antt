-- Tests of the parts of an explanation.
use Rattle.std.specs.Prelude.{ℕ, nat_eq, ◌+◌, ◌-◌, ◌≤◌, ◌==◌, nat_le, ⊤, Bool, true, false, ◌&&◌, not, if◌then◌else◌, List, [], ◌∷◌, length, take, filter, Option, Some, None, slice_index}
use Rattle.std.specs.List.{list_all, list_any}
use Rattle.std.specs.Option.{option_map}
use Rattle.std.specs.Borrow.{Bor}
use Rattle.std.specs.HashMap.{HashMap, get}
use Rattle.craq_names.specs.Limits.{item_limit}
use Rattle.craq_names.specs.Maps.{same_bytes}
use Rattle.craq_commands.specs.Objects.{Objects, object_of, version_of}
use Rattle.craq_commands.specs.declared.command.Command.{Command}
use Rattle.craq_commands.specs.declared.command.Command.TheVariants.{Put, TestAndSet, Append, Prepend, Increment, Decrement, Mini}
use Rattle.craq_commands.specs.declared.state.State.{State}
use Rattle.craq_commands.specs.SingleCopy.{opening_state, said, apply}
use Rattle.craq_commands.specs.declared.command.Update.{Update}
use Rattle.craq_commands.specs.declared.reply.Reply.{Reply}
use Rattle.craq_commands.specs.declared.reply.Reply.TheVariants.{Written, Mismatch, TooLong, NotANumber, Overflow, Underflow, Done, CompareFailed, Stale}
use Rattle.craq_model.specs.declared.ask.Ask.{Ask}
use Rattle.craq_model.specs.declared.ask.Ask.TheVariants as asks
use Rattle.craq_model.specs.declared.ask.Answer.{Answer}
use Rattle.craq_model.specs.declared.ask.Answer.TheVariants as answers
use Rattle.craq_runs.specs.declared.explanation.Explanation.{Explanation}
use Rattle.craq_runs.specs.declared.explanation.Place.{Place}
use Rattle.craq_runs.specs.declared.run.Move.{Move}
use Rattle.craq_runs.specs.declared.run.Move.TheVariants as moves
use Rattle.craq_runs.specs.Seen.{Seen, Asked, Answered, ask_with, update_of, is_strong_answer}
use Rattle.craq_runs.specs.Valid.{committed, same_request, same_name}

-- the update that a move requests
abbrev pub update_in : Move → Option Update
update_in (moves.Ask node ask) = update_of ask
update_in (moves.Deliver message) = None
update_in (moves.Tick node) = None
update_in (moves.Stop node) = None
update_in (moves.Remove node) = None
update_in (moves.Join node) = None

-- equal pairs of numbers
abbrev pub same_pair : ℕ × ℕ → ℕ × ℕ → Bool
same_pair x y = nat_eq x.0 y.0 && nat_eq x.1 y.1

-- no two items are equal by the test
unfoldable pub stand_once : {A : Type 0} → (A → A → Bool) → List A → Bool
stand_once same [] = true
stand_once same (x ∷ xs) = not (list_any (same x) xs) && stand_once same xs

-- the lists are equally long, and the items at each place pass
unfoldable pub all_pairs : {A B : Type 0} → (A → B → Bool) → List A → List B → Bool
all_pairs test [] [] = true
all_pairs test [] (y ∷ ys) = false
all_pairs test (x ∷ xs) [] = false
all_pairs test (x ∷ xs) (y ∷ ys) = test x y && all_pairs test xs ys

-- the place has the node and ticket of the reply
abbrev pub is_named : Answered → Place → Bool
is_named a p = (a.node == p.node) && (a.ticket == p.ticket)

-- no number is below the one before it
unfoldable pub never_fall : ℕ → List ℕ → Bool
never_fall before [] = true
never_fall before (n ∷ ns) = nat_le before n && never_fall n ns

-- the updates committed after each move, numbered from this number on, were requested by then
unfoldable pub asked_in_time : List ℕ → ℕ → List ℕ → Bool
asked_in_time asks number [] = true
asked_in_time asks number (n ∷ ns) = list_all (λ a. nat_le a number) (take n asks) && asked_in_time asks (number + 1) ns

-- the place was reached between the request and the reply
abbrev pub is_in_time : List ℕ → Answered → Place → Option Asked → Bool
is_in_time lens a p None = false
is_in_time lens a p (Some ask) =
    nat_le ask.move a.move
    && nat_le (slice_index (0 ∷ lens) (ask.move - 1)) p.position
    && nat_le p.position (slice_index (0 ∷ lens) a.move)

-- the kind of the reply
abbrev pub reply_kind : Reply → ℕ
reply_kind (Written version) = 0
reply_kind (Mismatch version) = 1
reply_kind TooLong = 2
reply_kind NotANumber = 3
reply_kind Overflow = 4
reply_kind Underflow = 5
reply_kind (Done found) = 6
reply_kind (CompareFailed place) = 7
reply_kind (Stale last) = 8

-- the number in a reply
abbrev pub reply_number : Reply → ℕ
reply_number (Written version) = version
reply_number (Mismatch version) = version
reply_number TooLong = 0
reply_number NotANumber = 0
reply_number Overflow = 0
reply_number Underflow = 0
reply_number (Done found) = 0
reply_number (CompareFailed place) = place
reply_number (Stale last) = last

-- the objects in a reply
abbrev pub found_of : Reply → List (ℕ × List ℕ)
found_of (Written version) = []
found_of (Mismatch version) = []
found_of TooLong = []
found_of NotANumber = []
found_of Overflow = []
found_of Underflow = []
found_of (Done found) = found
found_of (CompareFailed place) = []
found_of (Stale last) = []

-- returns true if version and value are equal
abbrev pub same_found : ℕ × List ℕ → ℕ × List ℕ → Bool
same_found x y = (x.0 == y.0) && same_bytes x.1 y.1

-- returns true if the replies are equal
unfoldable pub same_reply : Reply → Reply → Bool
same_reply x y = (reply_kind x == reply_kind y) && (reply_number x == reply_number y) && all_pairs same_found (found_of x) (found_of y)

-- the reply, if there is one, is this
unfoldable pub is_reply : Option Reply → Reply → Bool
is_reply None reply = false
is_reply (Some said) reply = same_reply said reply

-- the single copy in this state gives this reply
unfoldable pub is_said : State → Ask → Answer → Bool
is_said state (asks.Update u) (answers.Update reply) = is_reply (said state u.client u.number) reply
is_said state (asks.Read mode object) (answers.Read version value) = same_found (object_of state.objects object.key) (version, value)
is_said state (asks.Update u) (answers.Read version value) = false
is_said state (asks.Read mode object) (answers.Update reply) = false

-- the single copy in this state gives this reply to the request, if there is one
abbrev pub is_said_to : State → Answered → Option Asked → Bool
is_said_to state a None = false
is_said_to state a (Some ask) = is_said state ask.ask a.answer

-- a lookup of the request of a node and ticket
abbrev pub AskOf : Type 0
AskOf = ℕ → ℕ → Option Asked

-- the request that an index has for a node and ticket
abbrev pub found_in : {S : Type 0} → HashMap (ℕ × ℕ) (Bor Asked) S → AskOf
found_in index node ticket = option_map (λ (a : Bor Asked). a.now) (get same_pair index (node, ticket))

-- a reply with its place
abbrev pub Placed : Type 0
Placed = Answered × ℕ

-- the reply is the single copy's, if its place is after count updates
unfoldable pub is_said_here : AskOf → State → ℕ → Placed → Bool
is_said_here ask_at state count x = if x.1 == count then is_said_to state x.0 (ask_at x.0.node x.0.ticket) else true

-- the list from the first reply on that is not placed after count updates; none if one before it is
-- not the single copy's
unfoldable pub said_first : AskOf → State → ℕ → List Placed → Option (List Placed)
said_first ask_at state count [] = Some []
said_first ask_at state count (x ∷ xs) =
    if not (x.1 == count) then Some (x ∷ xs)
    else if is_said_to state x.0 (ask_at x.0.node x.0.ticket) then said_first ask_at state count xs
    else None

-- no object's version is above this
unfoldable pub HasVersionsUpTo : ℕ → Objects → Type 0
HasVersionsUpTo n m = (key : List ℕ) → version_of m key ≤ n

-- a command's transaction, if it is one, has at most 16 writes
abbrev pub HasFewWrites : Command → Type 0
HasFewWrites (Mini t) = length t.writes ≤ item_limit
HasFewWrites (Put object value) = ⊤
HasFewWrites (TestAndSet object expect value) = ⊤
HasFewWrites (Append object value) = ⊤
HasFewWrites (Prepend object value) = ⊤
HasFewWrites (Increment object by) = ⊤
HasFewWrites (Decrement object by) = ⊤

-- the places match the replies one to one, each reached in time
unfoldable pub are_in_time : AskOf → List ℕ → List Answered → List Place → Bool
are_in_time ask_at lens answers places = all_pairs (λ (a : Answered) (p : Place). is_in_time lens a p (ask_at a.node a.ticket)) answers places

-- each reply with its place
unfoldable pub placed : List Answered → List Place → List Placed
placed [] places = []
placed (a ∷ answers) [] = []
placed (a ∷ answers) (p ∷ places) = (a, p.position) ∷ placed answers places

-- each reply is the single copy's at its place, from this state on, which is after count updates
unfoldable pub are_said : AskOf → List Placed → State → ℕ → List Update → Bool
are_said ask_at xs state count [] = list_all (is_said_here ask_at state count) xs
are_said ask_at xs state count (u ∷ us) =
    list_all (is_said_here ask_at state count) xs && are_said ask_at xs (apply state u) (count + 1) us

-- ---- the parts of an explanation, over what is seen

-- the strong replies, in order
unfoldable pub strong_by : AskOf → List Answered → List Answered
strong_by ask_at answered = filter (λ (a : Answered). is_strong_answer (ask_at a.node a.ticket) a.answer) answered

-- each number names an update, each move has a length, and each strong reply has its place
unfoldable pub has_form : ℕ → List Answered → List Update → Explanation → Bool
has_form moves answered us e =
    (length us == length e.asks) && (length e.lens == moves) && all_pairs is_named answered e.places

-- the list only grows, by updates that were requested by then, no request twice
unfoldable pub only_grows : ℕ → List Update → Explanation → Bool
only_grows moves us e =
    never_fall 0 e.lens && (slice_index (0 ∷ e.lens) moves == length us) && asked_in_time e.asks 1 e.lens && stand_once same_request us

-- no request has two strong replies; each was reached in time, and is the single copy's at its
-- place
unfoldable pub strong_hold : AskOf → List Answered → List Update → Explanation → Bool
strong_hold ask_at answered us e =
    stand_once same_name answered && are_in_time ask_at e.lens answered e.places && are_said ask_at (placed answered e.places) opening_state 0 us

-- all tests
unfoldable pub is_checked_by : AskOf → Seen → Explanation → Bool
is_checked_by ask_at s e =
    has_form s.moves (strong_by ask_at s.answers) (committed s e) e
    && only_grows s.moves (committed s e) e
    && strong_hold ask_at (strong_by ask_at s.answers) (committed s e) e

-- all tests, with a request found by its node and ticket
unfoldable pub is_checked : Seen → Explanation → Bool
is_checked s e = is_checked_by (ask_with s.asks) s e
