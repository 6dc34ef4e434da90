-- The two halves of a turn: the call that a message asks for, and the reply to its outcome.
use Rattle.std.proofs.Common.{◌≡◌, ◌↔◌, ◌∙◌, ℕ, List, [], ◌∷◌, ◌++◌, Result, Ok, Err, IfErr, inl, inr, refl, sym, ap, subst}
use Rattle.std.proofs.lemmas.List.{append-nil, append_cancel_left}
use Rattle.craq_names.specs.declared.refusal.Refusal.{Refusal}
use Rattle.craq_names.specs.declared.refusal.Refusal.TheVariants.{Closed, Memory}
use Rattle.craq_model.specs.declared.ask.Answer.{Answer}
use Rattle.craq_model.specs.declared.ask.Answer.TheVariants as answers
use Rattle.craq_model.specs.declared.ask.Ask.{Ask}
use Rattle.craq_model.specs.declared.ask.Ask.TheVariants as asks
use Rattle.craq_frames.specs.declared.ask.ClientMessage.{ClientMessage}
use Rattle.craq_frames.specs.declared.ask.ClientMessage.TheVariants as messages
use Rattle.craq_frames.specs.declared.answer.ClientReply.{ClientReply}
use Rattle.craq_frames.specs.declared.answer.ClientReply.TheVariants as replies
use Rattle.craq_seat.specs.Calls.{Called}
use Rattle.craq_event_loop.specs.declared.connection_state.CallRequest.{CallRequest}
use Rattle.craq_event_loop.specs.Halves.{CanComeBack, EndsTurn, HasOwnReceipt, IsAnothers, IsClosed, IsStatusReply, NeedsNoCall, RefusesCall, asked_by, tells_none}
use Rattle.craq_event_loop.specs.Turns.{message_of, reply_of, name_of, for_memory, Refusing, MayReplyRefused, IsAnswered, IsCalled}

-- no answer is a status, or a refusal
no_status : (pass : ℕ) (a : Answer) (text : List ℕ) → replies.Status text ≡ reply_of pass a → ⊥
no_status pass (answers.Update reply) text e = cc
no_status pass (answers.Read version value) text e = cc

no_refusal : (pass : ℕ) (a : Answer) (refusal : Refusal) → replies.Refused refusal ≡ reply_of pass a → ⊥
no_refusal pass (answers.Update reply) refusal e = cc
no_refusal pass (answers.Read version value) refusal e = cc

-- a call that came back with an answer
called_answered : (tells : List ℕ → Type 0) (refuses : Refusing) (old : List Called) (m : ClientMessage) (r : ClientReply) (new : List Called) → IsCalled old m r new → IsAnswered tells refuses old m r new
called_answered tells refuses old m (replies.Update pass reply) new h = h
called_answered tells refuses old m (replies.Read pass version value) new h = h
called_answered tells refuses old m (replies.Status text) new h = absurd (no_status _ h.0.answer text h.1.0.answered)
called_answered tells refuses old m (replies.Refused refusal) new h = absurd (no_refusal _ h.0.answer refusal h.1.0.answered)

-- each message may be refused when out of memory, and a call with the refusal that it came back with
refuses_memory : (tells : List ℕ → Type 0) (m : ClientMessage) → MayReplyRefused tells for_memory m Memory
refuses_memory tells (messages.Update node pass update) = refl
refuses_memory tells (messages.Read node pass mode object) = refl
refuses_memory tells messages.Status = inl refl

refuses_call : (tells : List ℕ → Type 0) (node pass : ℕ) (ask : Ask) (refuses : Refusing) (e : Refusal) → refuses (name_of node ask) pass ask e → MayReplyRefused tells refuses (message_of node pass ask) e
refuses_call tells node pass (asks.Update update) refuses e is = is
refuses_call tells node pass (asks.Read mode object) refuses e is = is

-- a status, or its refusal
pub status_answered : (tells : List ℕ → Type 0) (old : List Called) (m : ClientMessage) (reply : ClientReply) (new : List Called)
    → m ≡ messages.Status → new ≡ old → IsStatusReply tells reply → IsAnswered tells for_memory old m reply new
status_answered tells old m (replies.Update pass reply) new asks same h = absurd h
status_answered tells old m (replies.Read pass version value) new asks same h = absurd h
status_answered tells old m (replies.Status text) new asks same h = (asks, h, same)
status_answered tells old m (replies.Refused refusal) new asks same h = (subst (λ (x : ClientMessage). MayReplyRefused tells for_memory x refusal) (sym asks) h, same)

-- no room for a receipt
pub memory_answered : (tells : List ℕ → Type 0) (old : List Called) (m : ClientMessage) (new : List Called) → new ≡ old → IsAnswered tells for_memory old m (replies.Refused Memory) new
memory_answered tells old m new same = (refuses_memory tells m, same)

-- Closed is not the reply of a call
called_closed : (old : List Called) (m : ClientMessage) (reply : ClientReply) (new : List Called) → IsCalled old m reply new → reply ≡ replies.Refused Closed → ⊥
called_closed old m reply new h is = no_refusal _ h.0.answer Closed (sym is ∙ h.1.0.answered)

ok_closed : (reply : ClientReply) (e : Refusal) → Ok reply ≡ Err e → ⊥
ok_closed reply e is = cc

pub err_closed : {T : Type 0} (r : Result T Refusal) (e : Refusal) → r ≡ Err e → r ≡ Err Closed → e ≡ Closed
err_closed r e is closed = cc

refused_closed : (e : Refusal) → replies.Refused e ≡ replies.Refused Closed → e ≡ Closed
refused_closed e is = cc

abbrev IsRefusedClosed : Result ClientReply Refusal → Type 0
IsRefusedClosed r = r ≡ Err Closed

module _ (q : CallRequest) (outcome : Result Called Refusal) (old new : List Called) where
  -- the turn of a call that came back with an answer
  pub answer_ends : (reply : ClientReply) → IsCalled old (asked_by q) reply new → IsRefusedClosed (Ok reply) ↔ IsClosed q outcome → HasOwnReceipt outcome old new → EndsTurn q outcome old reply new
  answer_ends reply called closed own =
      let refuses : Refusing = λ node pass ask e. RefusesCall q outcome e in
      record {
        answered = called_answered tells_none refuses old (asked_by q) reply new called;
        closed = (λ is. absurd (called_closed old (asked_by q) reply new called is), λ p. absurd (ok_closed reply Closed (closed.1 p)));
        own = own;
      }

  -- the turn of a call that came back refused
  pub refusal_ends : (e : Refusal) → RefusesCall q outcome e → new ≡ old → IsRefusedClosed (Err e) ↔ IsClosed q outcome → HasOwnReceipt outcome old new → EndsTurn q outcome old (replies.Refused e) new
  refusal_ends e is same closed own =
      let refuses : Refusing = λ node pass ask e. RefusesCall q outcome e in
      record {
        answered = (refuses_call tells_none q.node.node q.pass q.ask refuses e is, same);
        closed = (λ c. closed.0 (ap Err (refused_closed e c)), λ p. ap replies.Refused (err_closed (Err e) e refl (closed.1 p)));
        own = own;
      }

-- an answer that came back is refused as Closed exactly where it is another call's
pub answered_refused : (q : CallRequest) (c : Called) (outcome : Result Called Refusal) (e x : Refusal) (r : Result ClientReply Refusal)
    → outcome ≡ Ok c → CanComeBack e → (e ≡ Closed → IsAnothers q c) → (IsAnothers q c → e ≡ Closed) → r ≡ Err x → x ≡ e → IfErr r (λ y. RefusesCall q outcome y)
answered_refused q c outcome e x r came can only all is same =
    subst (λ (s : Result ClientReply Refusal). IfErr s (λ y. RefusesCall q outcome y)) (sym (is ∙ ap Err same))
    (subst (λ (o : Result Called Refusal). RefusesCall q o e) (sym came) (can, (only, all)))

no_receipt : (old new : List Called) (c : Called) → new ≡ old → new ≡ old ++ c ∷ [] → ⊥
no_receipt old new c same more = (let empty : [] ≡ c ∷ [] = append_cancel_left old [] (c ∷ []) (append-nil old ∙ (sym same ∙ more)) in cc)

-- a turn that is over before a call, without one
pub needs_no_call : (tells : List ℕ → Type 0) (old new : List Called) (m : ClientMessage) (reply : ClientReply) → new ≡ old → IsAnswered tells for_memory old m reply new → NeedsNoCall m reply
needs_no_call tells old new m (replies.Update pass reply) same h = absurd (no_receipt old new h.0 same h.1.1)
needs_no_call tells old new m (replies.Read pass version value) same h = absurd (no_receipt old new h.0 same h.1.1)
needs_no_call tells old new m (replies.Status text) same h = inl h.0
needs_no_call tells old new (messages.Update node pass update) (replies.Refused refusal) same h = inr (ap replies.Refused h.0)
needs_no_call tells old new (messages.Read node pass mode object) (replies.Refused refusal) same h = inr (ap replies.Refused h.0)
needs_no_call tells old new messages.Status (replies.Refused refusal) same h = inl refl
