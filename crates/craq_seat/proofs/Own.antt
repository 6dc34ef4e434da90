-- Steps that answer no call, or only the request that they accept.
use Rattle.std.proofs.Common.{◌≡◌, ◌∙◌, ◌==◌, append-nil, ℕ, ◌++◌, List, [], ◌∷◌, Option, Some, None, Result, Ok, Err, false, refl, sym, ap, subst, arith, rules}
use Rattle.std.specs.Prelude.{Vec, IfOk, filter, not}
use Rattle.std.specs.List.{list_any}
use Rattle.std.specs.declared.alloc.AllocError.{AllocError}
use Rattle.std.specs.declared.alloc.Global.{Global}
use Rattle.craq_model.specs.declared.ask.Answer.{Answer}
use Rattle.craq_model.specs.declared.ask.Ask.{Ask}
use Rattle.craq_model.specs.declared.message.LinkMessage.{LinkMessage}
use Rattle.craq_model.specs.declared.step.Out.{Out}
use Rattle.craq_model.specs.declared.step.Out.TheVariants as outs
use Rattle.craq_seat.specs.declared.calls.Call.{Call}
use Rattle.craq_seat.specs.declared.journal.Receipt.{Receipt}
use Rattle.craq_seat.specs.Calls.{AnswersItself, Called, ServesAsked, accepted, all_answered, answered_call, answers_to, call_under, called_in, is_answer, waiting_after}

-- if no output is a reply, no ticket is answered
none_answers : (os : List Out) (ticket : ℕ) → list_any is_answer os ≡ false → list_any (answers_to ticket) os ≡ false
none_answers [] ticket none = refl
none_answers (outs.Send to m ∷ os) ticket none = none_answers os ticket none
none_answers (outs.Answer t a ∷ os) ticket none = search rules

-- then all calls wait on
pub all_wait : (calls : List Call) (os : List Out) → list_any is_answer os ≡ false → waiting_after calls os ≡ calls
all_wait [] os none = refl
all_wait (call ∷ calls) os none = rw (none_answers os call.ticket none) (ap (λ (rest : List Call). call ∷ rest) (all_wait calls os none))

-- the calls of the ticket that an output answers go
pub forgets : (calls : List Call) (ticket : ℕ) (answer : Answer) → filter (λ (call : Call). not (call.ticket == ticket)) calls ≡ waiting_after calls (outs.Answer ticket answer ∷ [])
forgets [] ticket answer = refl
forgets (call ∷ calls) ticket answer = grind (arith, forgets calls ticket answer)

-- a message answers no call
pub sends : (calls : List Call) (to : ℕ) (m : LinkMessage) → calls ≡ waiting_after calls (outs.Send to m ∷ [])
sends calls to m = sym (all_wait calls (outs.Send to m ∷ []) refl)

-- the outputs remove calls one after another
pub one_more : (calls : List Call) (o : Out) (os : List Out) → waiting_after (waiting_after calls (o ∷ [])) os ≡ waiting_after calls (o ∷ os)
one_more [] o os = refl
one_more (call ∷ calls) (outs.Send to m) os = grind (arith, one_more calls (outs.Send to m) os)
one_more (call ∷ calls) (outs.Answer t a) os = grind (arith, one_more calls (outs.Answer t a) os)

-- under a ticket that no call has, the search goes on in the calls after them
under_more : (calls more : List Call) (ticket : ℕ) → call_under calls ticket ≡ None → call_under (calls ++ more) ticket ≡ call_under more ticket
under_more [] more ticket free = refl
under_more (call ∷ calls) more ticket free = grind (arith, under_more calls more ticket)

-- calls without the ticket wait on
others_wait : (calls : List Call) (more : List Call) (ticket : ℕ) (answer : Answer) → call_under calls ticket ≡ None → waiting_after (calls ++ more) (outs.Answer ticket answer ∷ []) ≡ calls ++ waiting_after more (outs.Answer ticket answer ∷ [])
others_wait [] more ticket answer free = refl
others_wait (call ∷ calls) more ticket answer free = grind (arith, others_wait calls more ticket answer)

-- the accepted request does not wait
own_goes : (asked : Option Ask) (ticket : ℕ) (receipt : Receipt) (pass : ℕ) (answer : Answer) → waiting_after (accepted asked (Some ticket) receipt pass) (outs.Answer ticket answer ∷ []) ≡ []
own_goes None ticket receipt pass answer = refl
own_goes (Some ask) ticket receipt pass answer = grind arith

-- and it has the receipt
own_answered : (asked : Option Ask) (ticket : ℕ) (receipt : Receipt) (pass : ℕ) (answer : Answer) → answered_call (call_under (accepted asked (Some ticket) receipt pass) ticket) receipt answer ≡ all_answered (accepted asked (Some ticket) receipt pass) receipt answer
own_answered None ticket receipt pass answer = refl
own_answered (Some ask) ticket receipt pass answer = grind arith

own_called : (calls : List Call) (asked : Option Ask) (ticket : ℕ) (receipt : Receipt) (pass : ℕ) (answer : Answer) → call_under calls ticket ≡ None → called_in (calls ++ accepted asked (Some ticket) receipt pass) receipt (outs.Answer ticket answer ∷ []) ≡ all_answered (accepted asked (Some ticket) receipt pass) receipt answer
own_called calls asked ticket receipt pass answer free =
    rw (under_more calls (accepted asked (Some ticket) receipt pass) ticket free) (append-nil _ ∙ own_answered asked ticket receipt pass answer)

own_waits : (calls : List Call) (asked : Option Ask) (ticket : ℕ) (receipt : Receipt) (pass : ℕ) (answer : Answer) → call_under calls ticket ≡ None → calls ≡ waiting_after (calls ++ accepted asked (Some ticket) receipt pass) (outs.Answer ticket answer ∷ [])
own_waits calls asked ticket receipt pass answer free =
    sym (others_wait calls (accepted asked (Some ticket) receipt pass) ticket answer free ∙ ap (λ (rest : List Call). calls ++ rest) (own_goes asked ticket receipt pass answer) ∙ append-nil calls)

own_alone : (calls : List Call) (ticket : ℕ) (answer : Answer) → call_under calls ticket ≡ None → calls ≡ waiting_after calls (outs.Answer ticket answer ∷ [])
own_alone calls ticket answer free = sym (ap (λ (all : List Call). waiting_after all (outs.Answer ticket answer ∷ [])) (sym (append-nil calls)) ∙ others_wait calls [] ticket answer free ∙ append-nil calls)

served : (calls : List Call) (asked : Option Ask) (receipt : Receipt) (pass ticket : ℕ) (answer : Answer) (result : Result (Vec Called Global) AllocError) → call_under calls ticket ≡ None → IfOk result (λ receipts. receipts.items ≡ all_answered (accepted asked (Some ticket) receipt pass) receipt answer) → ServesAsked calls calls (Ok asked) (Some ticket) receipt pass (outs.Answer ticket answer ∷ []) result
served calls asked receipt pass ticket answer (Ok receipts) free is =
    (is ∙ sym (own_called calls asked ticket receipt pass answer free), own_waits calls asked ticket receipt pass answer free)
served calls asked receipt pass ticket answer (Err e) free is = own_alone calls ticket answer free

-- so the calls of such a step are answered
pub own_served : (calls : List Call) (asked : Option Ask) (its : Option ℕ) (os : List Out) (receipt : Receipt) (pass : ℕ) (answer : Answer) (result : Result (Vec Called Global) AllocError) → AnswersItself calls its os answer → IfOk result (λ receipts. receipts.items ≡ all_answered (accepted asked its receipt pass) receipt answer) → ServesAsked calls calls (Ok asked) its receipt pass os result
own_served calls asked its os receipt pass answer result own is =
    rw (own.its, own.alone) (served calls asked receipt pass own.own answer result own.free (subst (λ (t : Option ℕ). IfOk result (λ receipts. receipts.items ≡ all_answered (accepted asked t receipt pass) receipt answer)) own.its is))
