-- The explanation of a run: the committed updates, the commit index after each move, and the
-- linearization points of strong replies.
use Rattle.std.specs.Prelude.{ℕ, ◌+◌, ◌-◌, ◌==◌, nat_le, max, Bool, ◌&&◌, if◌then◌else◌, List, [], ◌∷◌, ◌++◌, map, length, find, unwrap_or, option_map, Option, Some, None, slice_index}
use Rattle.std.specs.List.{list_any}
use Rattle.craq_names.specs.Maps.{same_bytes}
use Rattle.craq_commands.specs.declared.entry.Entry.{Entry}
use Rattle.craq_commands.specs.declared.entry.Write.{Write}
use Rattle.craq_model.specs.declared.message.Body.{Body}
use Rattle.craq_model.specs.declared.message.Body.TheVariants as bodies
use Rattle.craq_model.specs.declared.message.LinkMessage.{LinkMessage}
use Rattle.craq_commands.specs.declared.read_mode.ReadMode.TheVariants.{Strong, Eventual, Bounded}
use Rattle.craq_model.specs.declared.ask.Ask.{Ask}
use Rattle.craq_model.specs.declared.ask.Ask.TheVariants as asks
use Rattle.craq_model.specs.Plain.{Plain, is_tail, entries_after, clean_object, position_of}
use Rattle.craq_runs.specs.declared.explanation.Explanation.{Explanation}
use Rattle.craq_runs.specs.declared.explanation.Place.{Place}
use Rattle.craq_runs.specs.declared.run.Move.{Move}
use Rattle.craq_runs.specs.declared.run.Move.TheVariants as moves
use Rattle.craq_runs.specs.declared.run.Run.{Run}
use Rattle.craq_runs.specs.declared.run.Taken.{Taken}
use Rattle.craq_runs.specs.Chain.{Chain, opening_chain, node_at, message_at, sent_in}
use Rattle.craq_runs.specs.Runs.{after_move}
use Rattle.craq_runs.specs.Seen.{Asked, Answered, ask_in, node_of, answers_in, ask_with}

-- the bookkeeping of a replay after some of the moves
pub record Account : Type 0 where
  pub chain : Chain
  pub asks : List Asked
  pub committed : List Entry
  pub lens : List ℕ
  pub sent_at : List ℕ  -- for each message, the commit index after the step that sent it
  pub pending : List Place  -- for each requested update, the linearization point of its reply
  pub places : List Place

abbrev pub opening_account : ℕ → List ℕ → Account
opening_account chain members =
    record { chain = opening_chain chain members; asks = []; committed = []; lens = []; sent_at = []; pending = []; places = [] }

-- the committed entries after a step of this node: a tail commits all its entries
abbrev pub committed_by : List Entry → Option Plain → List Entry
committed_by entries None = entries
committed_by entries (Some p) = if is_tail p then entries ++ entries_after p (length entries) else entries

-- the linearization point of an update's reply: its client's newest entry, or after all that was
-- committed before
abbrev pub pending_at : ℕ → ℕ → Option ℕ → Option Plain → Ask → List Place
pending_at before node (Some ticket) (Some p) (asks.Update u) = record { node = node; ticket = ticket; position = max (position_of p u.client) before } ∷ []
pending_at before node ticket p ask = []

abbrev pub pending_in : ℕ → Option ℕ → Option Plain → Move → List Place
pending_in before ticket p (moves.Ask node ask) = pending_at before node ticket p ask
pending_in before ticket p move = []

-- the committed version in a message from the tail, with the commit index after the step that sent
-- it
abbrev pub word_of : ℕ → Body → Option (ℕ × ℕ)
word_of sent (bodies.VersionIs ticket version) = Some (version, sent)
word_of sent body = None

abbrev pub word_in : ℕ → Option LinkMessage → Option (ℕ × ℕ)
word_in sent None = None
word_in sent (Some m) = word_of sent m.body

-- the tail's version that a move delivers
abbrev pub tail_word : Account → Move → Option (ℕ × ℕ)
tail_word w (moves.Deliver number) = word_in (slice_index w.sent_at (number - 1)) (message_at w.chain.messages number)
tail_word w move = None

-- the entry wrote this version of the key
unfoldable pub wrote : List ℕ → ℕ → Entry → Bool
wrote key version e = list_any (λ (x : Write). same_bytes x.key key && (x.version == version)) e.writes

-- the position of the entry that wrote this version
unfoldable pub written_at : List Entry → List ℕ → ℕ → ℕ
written_at entries key version = unwrap_or (option_map (λ (e : Entry). e.position) (find (wrote key version) entries)) 0

-- the clean version of a key
abbrev pub clean_at : Option Plain → List ℕ → ℕ
clean_at None key = 0
clean_at (Some p) key = (clean_object p key).0

-- the linearization point of a strong read: by the tail's version if there is one, else after this
-- step
abbrev pub read_place : List Entry → Option Plain → Option (ℕ × ℕ) → List ℕ → ℕ
read_place committed p None key = length committed
read_place committed p (Some word) key =
    if nat_le (clean_at p key) word.0 then word.1 else written_at committed key (clean_at p key)

-- the linearization point of an update's reply
unfoldable pub pending_place : List Place → ℕ → ℕ → ℕ
pending_place pending node ticket =
    unwrap_or (option_map (λ (p : Place). p.position) (find (λ (p : Place). (p.node == node) && (p.ticket == ticket)) pending)) 0

abbrev pub place_at : Answered → ℕ → List Place
place_at a position = record { node = a.node; ticket = a.ticket; position = position } ∷ []

-- the linearization point of a reply, if its request is strong
abbrev pub place_by : List Place → List Entry → Option Plain → Option (ℕ × ℕ) → Answered → Ask → List Place
place_by pending committed p word a (asks.Update u) = place_at a (pending_place pending a.node a.ticket)
place_by pending committed p word a (asks.Read Strong object) = place_at a (read_place committed p word object.key)
place_by pending committed p word a (asks.Read Eventual object) = []
place_by pending committed p word a (asks.Read (Bounded k) object) = []

abbrev pub place_if_asked : List Place → List Entry → Option Plain → Option (ℕ × ℕ) → Answered → Option Asked → List Place
place_if_asked pending committed p word a None = []
place_if_asked pending committed p word a (Some ask) = place_by pending committed p word a ask.ask

-- the linearization points of replies
unfoldable pub places_of : List Asked → List Place → List Entry → Option Plain → Option (ℕ × ℕ) → List Answered → List Place
places_of asks pending committed p word [] = []
places_of asks pending committed p word (a ∷ later) =
    place_if_asked pending committed p word a (ask_with asks a.node a.ticket) ++ places_of asks pending committed p word later

-- the bookkeeping after one more move, which leads to this chain and this node
unfoldable pub account_with : Account → Taken → ℕ → Chain → Option Plain → Option Plain → Account
account_with w t node next old new =
    let number = w.chain.moves + 1 in
    let asks = w.asks ++ ask_in number t.step.ticket t.chosen in
    let entries = committed_by w.committed new in
    let pending = w.pending ++ pending_in (length w.committed) t.step.ticket new t.chosen in
    record {
      chain = next;
      asks = asks;
      committed = entries;
      lens = w.lens ++ length entries ∷ [];
      sent_at = w.sent_at ++ map (λ (m : LinkMessage). length entries) (sent_in t.step.outs);
      pending = pending;
      places = w.places ++ places_of asks pending entries old (tail_word w t.chosen) (answers_in number node t.step.outs);
    }

abbrev pub account_after : Account → Taken → Account
account_after w t =
    let node = node_of (map (λ (m : LinkMessage). m.receiver) w.chain.messages) t.chosen in
    let next = after_move w.chain t.chosen in
    account_with w t node next (node_at w.chain.nodes node) (node_at next.nodes node)

abbrev pub account_of : Account → List Taken → Account
account_of w [] = w
account_of w (t ∷ ts) = account_of (account_after w t) ts

-- the number of the move that requested an entry
unfoldable pub ask_number : List Asked → Entry → ℕ
ask_number asks e = unwrap_or (option_map (λ (a : Asked). a.move) (ask_with asks e.origin_node e.origin_ticket)) 0

abbrev pub explanation_in : Account → Explanation
explanation_in w = record { asks = map (ask_number w.asks) w.committed; lens = w.lens; places = w.places }

-- the explanation of a run of the chain with this id
abbrev pub explain : ℕ → Run → Explanation
explain chain run = explanation_in (account_of (opening_account chain run.members) run.moves)
