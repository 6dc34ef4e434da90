-- A call that was asked, by its outcome at once or by a completion.
use Rattle.std.proofs.Common.{◌≡◌, Option, Result, subst, sym}
use Rattle.std.specs.declared.alloc.Global.{Global}
use Rattle.std.specs.declared.collections.VecDeque.{VecDeque}
use Rattle.craq_seat.specs.declared.token.CallToken.{CallToken}
use Rattle.craq_names.specs.declared.refusal.Refusal.{Refusal}
use Rattle.craq_seat.specs.Calls.{Called}
use Rattle.craq_event_loop.specs.SubmittedCalls.{Finishing, IsAsked, IsFinished, IsOutcome, IsRefusedAtOnce, IsSubmitted, Submitting, called_by}
use Rattle.craq_event_loop.specs.Turns.{Refusing}
use Rattle.craq_event_loop.specs.declared.connection_state.Phase.{Phase}
use Rattle.craq_event_loop.specs.declared.connection_state.Phase.TheVariants.{Waits}
use Rattle.craq_event_loop.specs.declared.connection_state.CallRequest.{CallRequest}

module _ {T R : Type 0} (finishes : Finishing T R) (phase : Phase) (q : CallRequest) (later : VecDeque CallRequest Global) (is : phase ≡ Waits q later) (old new : T) where
  -- it was submitted, and came back at once or not
  pub asked : (refuses : Refusing) (submits : CallToken → Submitting T R) (token made : CallToken) (came : Option (Result Called Refusal)) → made ≡ token
      → IsSubmitted (submits made) finishes q old came new → IsRefusedAtOnce refuses q came → IsAsked refuses (called_by submits finishes token) phase old came new
  asked refuses submits token made came same submitted may =
      subst (λ (x : Phase). IsAsked refuses (called_by submits finishes token) x old came new) (sym is)
      (subst (λ (x : CallToken). IsSubmitted (submits x) finishes q old came new) same submitted, may)

  -- its completion came
  pub finished : (reply : R) (outcome : Result Called Refusal) → IsFinished finishes q reply old outcome new
      → IsOutcome finishes phase reply old outcome new
  finished reply outcome so = subst (λ (x : Phase). IsOutcome finishes x reply old outcome new) (sym is) so
