-- Outcomes of calls that have an encoding, and their replies.
use Rattle.std.proofs.Common.{◌≡◌, ℕ, List, Result, Ok, Err, IfErr, inl, inr, refl, sym, subst}
use Rattle.craq_names.specs.declared.refusal.Refusal.{Refusal}
use Rattle.craq_names.specs.declared.refusal.Refusal.TheVariants as refusals
use Rattle.craq_commands.specs.declared.reply.Reply.{Reply}
use Rattle.craq_seat.specs.RefusedCalls.{CanRefuse}
use Rattle.craq_model.specs.declared.ask.Answer.TheVariants as answers
use Rattle.craq_model.specs.declared.ask.Ask.{Ask}
use Rattle.craq_frames.specs.declared.answer.ClientReply.TheVariants as replies
use Rattle.craq_frames.specs.Payload.{NamesNode}
use Rattle.craq_frames.specs.Allowed.{IsAllowed}
use Rattle.craq_node_invariant.specs.Sound.{IsEncodableAnswer}
use Rattle.craq_seat.specs.Calls.{Called}
use Rattle.craq_event_loop.specs.SubmittedCalls.{IsReportable}
use Rattle.craq_event_loop.specs.Halves.{CanComeBack, IsStatusReply}

-- each refusal that a request can have
pub can_encode : (ask : Ask) (e : Refusal) → CanRefuse ask e → NamesNode e
can_encode ask (refusals.NotHead head) can = can.1
can_encode ask e can = tt

-- a call that was finished
pub reportable_finished : (ask : Ask) (outcome : Result Called Refusal) → IfErr outcome (λ e. CanRefuse ask e) → IsReportable outcome
reportable_finished ask (Ok c) can = tt
reportable_finished ask (Err e) can = can_encode ask e can

-- a refusal after an answer that came back
pub came_back : (e : Refusal) → CanComeBack e → NamesNode e
came_back e (inl is) = subst (λ (x : Refusal). NamesNode x) (sym is) tt
came_back e (inr is) = subst (λ (x : Refusal). NamesNode x) (sym is) tt

-- the reply with an answer
pub update_allowed : (pass : ℕ) (reply : Reply) → IsEncodableAnswer (answers.Update reply) → IsAllowed (replies.Update pass reply)
update_allowed pass reply h = record { rules = h; short = tt }

pub read_allowed : (pass version : ℕ) (value : List ℕ) → IsEncodableAnswer (answers.Read version value) → IsAllowed (replies.Read pass version value)
read_allowed pass version value h = record { rules = h; short = tt }

-- a refusal as a reply
pub refusal_allowed : (e : Refusal) → NamesNode e → IsAllowed (replies.Refused e)
refusal_allowed e h = record { rules = h; short = tt }

pub memory_allowed : IsAllowed (replies.Refused refusals.Memory)
memory_allowed = refusal_allowed refusals.Memory tt

pub frame_allowed : IsAllowed (replies.Refused refusals.BadFrame)
frame_allowed = refusal_allowed refusals.BadFrame tt

-- the text of a status is too long for a reply
pub long_status : (tells : List ℕ → Type 0) (text : List ℕ) → tells text → (IsAllowed (replies.Status text) → ⊥) → IsStatusReply tells (replies.Refused refusals.BadFrame)
long_status tells text told long = inr (refl, (text, told, long))
