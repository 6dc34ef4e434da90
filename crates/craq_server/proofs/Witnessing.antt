-- The replies of a connection, in the store's history.
use Rattle.std.proofs.Common.{◌≡◌, ◌∙◌, List, [], ◌∷◌, ◌++◌, Result, Ok, Err, ◌⊎◌, ℕ, inl, inr, refl, sym, ap, subst}
use Rattle.std.proofs.lemmas.List.{append-nil, append_assoc, append_cancel_left}
use mathlib.Core.List.{IsPrefix}
use Rattle.craq_names.specs.declared.name.NodeName.{NodeName}
use Rattle.craq_names.specs.declared.refusal.Refusal.{Refusal}
use Rattle.craq_names.specs.declared.refusal.Refusal.TheVariants.{Memory}
use Rattle.craq_model.specs.declared.ask.Ask.{Ask}
use Rattle.craq_model.specs.declared.ask.Ask.TheVariants as asks
use Rattle.craq_frames.specs.declared.ask.ClientMessage.{ClientMessage}
use Rattle.craq_frames.specs.declared.ask.ClientMessage.TheVariants as messages
use Rattle.craq_frames.specs.declared.answer.ClientReply.{ClientReply}
use Rattle.craq_frames.specs.declared.answer.ClientReply.TheVariants as replies
use Rattle.craq_seat.specs.Calls.{Called}
use Rattle.craq_event_loop.specs.declared.connection_state.CallRequest.{CallRequest}
use Rattle.craq_event_loop.specs.Halves.{CanComeBack, EndsTurn, NeedsNoCall, RefusesCall, asked_by, tells_none}
use Rattle.craq_event_loop.specs.Turns.{Refusing, IsAnswered, IsCalled, MayReplyRefused, message_of, name_of}
use Rattle.craq_store_history.specs.declared.entry.CallId.{CallId}
use Rattle.craq_store_history.specs.declared.entry.HistoryEntry.{HistoryEntry}
use Rattle.craq_store_parts.specs.Recorded.{HasAccepted}
use Rattle.craq_workers.specs.Untaken.{IsGivenUp, LeavesOpen}
use Rattle.craq_workers.proofs.Refusing.{refused_after}
use Rattle.craq_server.specs.Sessions.{CallsOnce, Connected, EndsFirst, Finishes, HasMade, IsFirstCall, IsRefusedMessage, IsRefusedNext, IsRefusedRequest, IsWitnessedNext, IsWitnessedReply, IsWitnessedTurn, RefusesFirst, next_call}

pub prefix_on : (a b c : List HistoryEntry) → IsPrefix a b → IsPrefix b c → IsPrefix a c
prefix_on a b c first second =
    (first.0 ++ second.0, sym (append_assoc a first.0 second.0) ∙ (ap (λ (l : List HistoryEntry). l ++ second.0) first.1 ∙ second.1))

pub ended : (q : CallRequest) (now new : Connected) (reply outcome : Result Called Refusal) → Finishes now q.node q.pass reply outcome new → EndsFirst now new
ended q now new (Ok reply) (Ok c) f = f.3
ended q now new (Ok reply) (Err e) f = f.1
ended q now new (Err came) (Ok c) f = absurd f
ended q now new (Err came) (Err e) f = f.ends

first_is : (s : Connected) (a b : CallId) → IsFirstCall s a → IsFirstCall s b → b ≡ a
first_is s a b (xs, one) (ys, other) = (let same : b ∷ ys ≡ a ∷ xs = sym other ∙ one in cc)

came_back : (e : Refusal) → CanComeBack e → LeavesOpen e
came_back e (inl is) = subst (λ (x : Refusal). LeavesOpen x) (sym is) tt
came_back e (inr is) = subst (λ (x : Refusal). LeavesOpen x) (sym is) tt

-- the refusal of a message, by its request
message_refused : (leap : ℕ) (old new : Connected) (node pass : ℕ) (ask : Ask) (e : Refusal) → IsRefusedRequest leap old (name_of node ask) ask pass e new → IsRefusedMessage leap old (message_of node pass ask) e new
message_refused leap old new node pass (asks.Update update) e h = h
message_refused leap old new node pass (asks.Read mode object) e h = h

may_refuse : (r : Refusal → Type 0) (node pass : ℕ) (ask : Ask) (e : Refusal) → MayReplyRefused tells_none (λ node pass ask e. r e) (message_of node pass ask) e → r e
may_refuse r node pass (asks.Update update) e may = may
may_refuse r node pass (asks.Read mode object) e may = may

as_message : (leap : ℕ) (q : CallRequest) (old new : Connected) (e : Refusal) → q.node ≡ name_of q.node.node q.ask → IsRefusedRequest leap old q.node q.ask q.pass e new → IsRefusedMessage leap old (asked_by q) e new
as_message leap q old new e named h = message_refused leap old new q.node.node q.pass q.ask e (subst (λ (x : NodeName). IsRefusedRequest leap old x q.ask q.pass e new) named h)

-- the first call that is under way was made of this request after `old`; it is finished, and `number` calls were made until then
module _ (leap : ℕ) (q : CallRequest) (old now new : Connected) (number : ℕ) (made : HasMade old q.node q.ask now) (first : IsFirstCall now (next_call old)) where
  abbrev done : Connected
  done = record new { made = number }

  still_made : EndsFirst now new → HasMade old q.node q.ask done
  still_made ends = record { mid = made.mid; made = made.made; later = prefix_on made.mid now.seen new.seen made.later ends.0.2 }

  made_answered : (reply c : Called) → Finishes now q.node q.pass (Ok reply) (Ok c) new → IsWitnessedNext old q.node q.ask c done
  made_answered reply c f =
      let same : f.1.0 ≡ next_call old = first_is now (next_call old) f.1.0 first f.1.1 in (
        record {
          call = next_call old;
          caller = refl;
          mid = made.mid;
          made = made.made;
          later = prefix_on made.mid now.seen new.seen made.later f.3.0.2;
          accepted = subst (λ (x : CallId). HasAccepted new.seen q.node x c.call) same f.1.2;
          replied = f.1.3;
          answered = refl;
          history = f.2;
        },
        refl,
      )

  made_finished : (reply : Result Called Refusal) (c : Called) → Finishes now q.node q.pass reply (Ok c) new → IsWitnessedNext old q.node q.ask c done
  made_finished (Ok reply) c f = made_answered reply c f
  made_finished (Err came) c f = absurd f

  -- it is given up
  given_up : (e : Refusal) → EndsFirst now new → LeavesOpen e ⊎ ((call : CallId) × IsFirstCall now call × IsGivenUp new.seen call q.pass e) → IsRefusedNext old q.node q.ask q.pass e done
  given_up e ends (inl leaves) = inl (leaves, still_made ends)
  given_up e ends (inr up) =
      let same : up.0 ≡ next_call old = first_is now (next_call old) up.0 first up.1 in
      let given : IsGivenUp new.seen (next_call old) q.pass e = subst (λ (x : CallId). IsGivenUp new.seen x q.pass e) same up.2 in
      let later = prefix_on made.mid now.seen new.seen made.later ends.0.2 in
      inr (
        record {
          call = next_call old;
          caller = refl;
          mid = made.mid;
          made = made.made;
          later = later;
          never = given.0;
          history = given.1;
          refused = refused_after old.seen made.mid new.seen (next_call old) q.node q.ask q.pass e given.1 made.made later given.2;
        },
        refl,
      )

  made_refused : (reply : Result Called Refusal) (e : Refusal) → Finishes now q.node q.pass reply (Err e) new → IsRefusedNext old q.node q.ask q.pass e done
  made_refused (Ok reply) e f = inl (subst (λ (x : Refusal). LeavesOpen x) (sym f.0) tt, still_made f.1)
  made_refused (Err came) e f = given_up e f.ends f.untaken

  -- the refusal that it has
  outcome_refused : (reply outcome : Result Called Refusal) (e : Refusal) → Finishes now q.node q.pass reply outcome new → RefusesCall q outcome e → IsRefusedNext old q.node q.ask q.pass e done
  outcome_refused reply (Err came) e f is = subst (λ (x : Refusal). IsRefusedNext old q.node q.ask q.pass x done) (sym is) (made_refused reply came f)
  outcome_refused reply (Ok c) e f is = inl (came_back e is.0, still_made (ended q now new reply (Ok c) f))

  module _ (once : CallsOnce old done) (named : q.node ≡ name_of q.node.node q.ask) (came outcome : Result Called Refusal) (finished : Finishes now q.node q.pass came outcome new) (receipts after : List Called) where
    own_witnessed : (reply : ClientReply) → IsCalled receipts (asked_by q) reply after → ((c : Called) → after ≡ receipts ++ c ∷ [] → outcome ≡ Ok c)
        → CallsOnce old done × IsWitnessedReply old (asked_by q) reply done
    own_witnessed reply called own = (
      once,
      record {
        node = q.node;
        pass = q.pass;
        ask = q.ask;
        receipt = called.0;
        named = named;
        asks = refl;
        replies = called.1.0;
        witnessed = made_finished came called.0 (subst (λ (x : Result Called Refusal). Finishes now q.node q.pass came x new) (own called.0 called.1.1) finished);
      },
    )

    refusal_witnessed : (e : Refusal) → MayReplyRefused tells_none (λ node pass ask e. RefusesCall q outcome e) (asked_by q) e → IsRefusedMessage leap old (asked_by q) e done
    refusal_witnessed e may =
        as_message leap q old done e named (inr (once, outcome_refused came outcome e finished (may_refuse (λ (e : Refusal). RefusesCall q outcome e) q.node.node q.pass q.ask e may)))

    -- the reply to a call whose turn ends so
    pub ended_witnessed : (reply : ClientReply) → EndsTurn q outcome receipts reply after → IsWitnessedTurn leap old (asked_by q) reply done
    ended_witnessed (replies.Update pass reply) ends = own_witnessed (replies.Update pass reply) ends.answered ends.own
    ended_witnessed (replies.Read pass version value) ends = own_witnessed (replies.Read pass version value) ends.answered ends.own
    ended_witnessed (replies.Status text) ends = absurd ends.answered.1
    ended_witnessed (replies.Refused refusal) ends = refusal_witnessed refusal ends.answered.0

-- a call that was refused before it was made
module _ (leap : ℕ) (q : CallRequest) (old new : Connected) (came : Refusal) (refused : RefusesFirst leap old q.pass came) (same : new ≡ old) (named : q.node ≡ name_of q.node.node q.ask) (receipts after : List Called) where
  never_called : (reply : ClientReply) → IsCalled receipts (asked_by q) reply after → ((c : Called) → after ≡ receipts ++ c ∷ [] → Err came ≡ Ok c) → ⊥
  never_called reply called own = (let no : Err came ≡ Ok called.0 = own called.0 called.1.1 in cc)

  unmade_refused : (e : Refusal) → e ≡ came → IsRefusedMessage leap old (asked_by q) e new
  unmade_refused e is = as_message leap q old new e named (inl (subst (λ (x : Refusal). RefusesFirst leap old q.pass x) (sym is) refused, same))

  pub unmade_witnessed : (reply : ClientReply) → EndsTurn q (Err came) receipts reply after → IsWitnessedTurn leap old (asked_by q) reply new
  unmade_witnessed (replies.Update pass reply) ends = absurd (never_called (replies.Update pass reply) ends.answered ends.own)
  unmade_witnessed (replies.Read pass version value) ends = absurd (never_called (replies.Read pass version value) ends.answered ends.own)
  unmade_witnessed (replies.Status text) ends = absurd ends.answered.1
  unmade_witnessed (replies.Refused refusal) ends =
      unmade_refused refusal (may_refuse (λ (e : Refusal). RefusesCall q (Err came) e) q.node.node q.pass q.ask refusal ends.answered.0)

no_receipt : (receipts after : List Called) (c : Called) → after ≡ receipts → after ≡ receipts ++ c ∷ [] → ⊥
no_receipt receipts after c same more = (let empty : [] ≡ c ∷ [] = append_cancel_left receipts [] (c ∷ []) (append-nil receipts ∙ (sym same ∙ more)) in cc)

module _ (leap : ℕ) (tells : List ℕ → Type 0) (refuses : Refusing) (message : ClientMessage) (old new : Connected) (receipts after : List Called) where
  for_memory_refused : (m : ClientMessage) (e : Refusal) → new ≡ old → e ≡ Memory → IsRefusedMessage leap old m e new
  for_memory_refused (messages.Update node pass update) e same is = inl (inr (inl is), same)
  for_memory_refused (messages.Read node pass mode object) e same is = inl (inr (inl is), same)
  for_memory_refused messages.Status e same is = same

  nothing_refused : (e : Refusal) → new ≡ old → NeedsNoCall message (replies.Refused e) → IsRefusedMessage leap old message e new
  nothing_refused e same (inl is) = subst (λ (x : ClientMessage). IsRefusedMessage leap old x e new) (sym is) same
  nothing_refused e same (inr is) = for_memory_refused message e same cc

  pub nothing_witnessed : (reply : ClientReply) → after ≡ receipts → new ≡ old → NeedsNoCall message reply → IsAnswered tells refuses receipts message reply after → IsWitnessedTurn leap old message reply new
  nothing_witnessed (replies.Update pass reply) none same unneeded answered = absurd (no_receipt receipts after answered.0 none answered.1.1)
  nothing_witnessed (replies.Read pass version value) none same unneeded answered = absurd (no_receipt receipts after answered.0 none answered.1.1)
  nothing_witnessed (replies.Status text) none same unneeded answered = same
  nothing_witnessed (replies.Refused refusal) none same unneeded answered = nothing_refused refusal same unneeded
