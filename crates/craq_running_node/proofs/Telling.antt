-- The replies of callers while outcomes go to them under their tickets, one after another.
use Rattle.std.proofs.Common.{◌≡◌, ◌≤◌, ◌+◌, ◌∙◌, ◌++◌, length, length-append, append_assoc, append-nil, true≢false, inl, inr, refl, sym, ap, subst, ℕ, Bool, true, false, List, [], ◌∷◌, Option, Some, None, option_map, Result, Ok, Err, IfSome, arith, filter}
use Rattle.std.proofs.lemmas.Bool.{eqb-true}
use Rattle.std.specs.Prelude.{IsSome, Vec}
use Rattle.std.specs.List.{last_or}
use Rattle.std.specs.declared.alloc.AllocError.{AllocError}
use Rattle.std.specs.declared.alloc.Global.{Global}
use Rattle.craq_names.specs.declared.name.NodeName.{NodeName}
use Rattle.craq_names.specs.declared.refusal.Refusal.{Refusal}
use Rattle.craq_names.specs.declared.refusal.Refusal.TheVariants as refusals
use Rattle.craq_seat.specs.declared.token.CallToken.{CallToken}
use Rattle.craq_model.specs.declared.ask.Event.{Event}
use Rattle.craq_model.specs.declared.step.Step.{Step}
use Rattle.craq_model.specs.Plain.{Plain}
use Rattle.craq_seat.specs.Calls.{Called, CallsOf, Desked}
use Rattle.craq_seat.specs.Cells.{receipt_of}
use Rattle.craq_seat.specs.declared.journal.Receipt.{Receipt}
use Rattle.craq_seat.specs.declared.seat.Caller.{Caller}
use Rattle.craq_store_history.specs.declared.entry.CallId.{CallId}
use Rattle.craq_store_parts.specs.Recorded.{Accepted, accepted_under}
use Rattle.craq_running_node.specs.declared.steps.SeatedNode.{SeatedNode}
use Rattle.craq_running_node.specs.Replies.{AreSomeOf, HasInHand, IsReplyTo, Keeps, PendingReplies, Reply, caller_under, is_own, others_of, own_receipt, recipient_of, replies_to, reply_to, said_by, said_to, Steps, TellsCallers, Waits, ticket_in, ticket_of, waiting_after, waits_as, without_caller}

abbrev pub Outcomes : Type 0
Outcomes = List (ℕ × Result Called Refusal)

-- the caller that is found under a ticket has it
pub found_under : (callers : List (Caller CallToken)) (ticket : ℕ) (c : Caller CallToken) → Some c ≡ caller_under callers ticket → c.ticket ≡ ticket
found_under [] ticket c is = absurd cc
found_under (d ∷ ds) ticket c is = grind (arith, found_under ds ticket c)

-- a reply that may be given under a ticket may be given to the caller that is found there
pub to_found : (callers : List (Caller CallToken)) (ticket : ℕ) (c : Caller CallToken) (o : Result Called Refusal) → Some c ≡ caller_under callers ticket → IsReplyTo (Some ticket) o → IsReplyTo (Some c.ticket) o
to_found callers ticket c o is may = subst (λ (n : ℕ). IsReplyTo (Some n) o) (sym (found_under callers ticket c is)) may

pub keeps_none : (old : PendingReplies) → Keeps old [] old
keeps_none old = ([], sym (append-nil old.replies), tt, λ room. (room, refl), λ all. refl)

none_all : (t : Reply) → [] ≡ t ∷ [] → ⊥
none_all t is = cc

-- a reply is kept, or given back and so sent at once
pub kept_or_reported : (old new : PendingReplies) (t : Reply) (left : Option Reply) → (left ≡ None → (new.replies ≡ old.replies ++ t ∷ []) × (new.short ≡ old.short)) → IfSome left (λ (u : Reply). (new.replies ≡ old.replies) × (new.short ≡ true)) → Keeps old (t ∷ []) new
kept_or_reported old new t None kept back = (t ∷ [], (kept refl).0, inl (refl, tt), λ room. (sym (kept refl).1 ∙ room, refl), λ all. (kept refl).1)
kept_or_reported old new t (Some u) kept back = ([], back.0 ∙ sym (append-nil old.replies), tt, λ room. absurd (true≢false (sym back.1 ∙ room)), λ all. absurd (none_all t all))

-- no caller is found, so none gets a reply
pub none_reported : (old : PendingReplies) (found : Option (Caller CallToken)) (o : Result Called Refusal) → None ≡ found → Keeps old (reply_to found o) old
none_reported old found o is = subst (λ (f : Option (Caller CallToken)). Keeps old (reply_to f o) old) is (keeps_none old)

some_behind : (xs before all : List Reply) → AreSomeOf xs all → AreSomeOf xs (before ++ all)
some_behind xs [] all h = h
some_behind [] (b ∷ bs) all h = tt
some_behind (x ∷ xs) (b ∷ bs) all h = inr (some_behind (x ∷ xs) bs all h)

some_both : (xs all ys more : List Reply) → AreSomeOf xs all → AreSomeOf ys more → AreSomeOf (xs ++ ys) (all ++ more)
some_both [] all ys more h k = some_behind ys all more k
some_both (x ∷ xs) [] ys more h k = absurd h
some_both (x ∷ xs) (a ∷ all) ys more (inl h) k = inl (h.0, some_both xs all ys more h.1 k)
some_both (x ∷ xs) (a ∷ all) ys more (inr h) k = inr (some_both (x ∷ xs) all ys more h k)

some_fewer : (xs all : List Reply) → AreSomeOf xs all → length xs ≤ length all
some_fewer [] all h = omega arith
some_fewer (x ∷ xs) [] h = absurd h
some_fewer (x ∷ xs) (a ∷ all) (inl h) = omega (arith, some_fewer xs all h.1)
some_fewer (x ∷ xs) (a ∷ all) (inr h) = omega (arith, some_fewer (x ∷ xs) all h)

-- some of a list that are as many as the list are all of it
all_of : (xs all : List Reply) → AreSomeOf xs all → length xs ≡ length all → xs ≡ all
all_of [] [] h same = refl
all_of [] (a ∷ all) h same = let no : ⊥ = omega (arith, same) in absurd no
all_of (x ∷ xs) [] h same = absurd h
all_of (x ∷ xs) (a ∷ all) (inl h) same = ap (λ (r : Reply). r ∷ xs) h.0 ∙ ap (λ (rs : List Reply). a ∷ rs) (all_of xs all h.1 (omega (arith, same)))
all_of (x ∷ xs) (a ∷ all) (inr h) same = let no : ⊥ = omega (arith, same, some_fewer (x ∷ xs) all h) in absurd no

-- if all of both are there, all of each are
both_all : (xs ys all more : List Reply) → AreSomeOf xs all → AreSomeOf ys more → xs ++ ys ≡ all ++ more → (xs ≡ all) × (ys ≡ more)
both_all xs ys all more some others is =
    let sizes : length xs + length ys ≡ length all + length more = sym (length-append xs ys) ∙ ap (λ (rs : List Reply). length rs) is ∙ length-append all more in
    let first : length xs ≡ length all = omega (arith, sizes, some_fewer xs all some, some_fewer ys more others) in
    let rest : length ys ≡ length more = omega (arith, sizes, first) in (all_of xs all some first, all_of ys more others rest)

pub keeps_both : (old : PendingReplies) (first more : List Reply) (mid new : PendingReplies) → Keeps old first mid → Keeps mid more new → Keeps old (first ++ more) new
keeps_both old first more mid new (xs, is, some, all, full) (ys, so, others, rest, filled) = (
  xs ++ ys,
  so ∙ ap (λ (r : List Reply). r ++ ys) is ∙ append_assoc old.replies xs ys,
  some_both xs first ys more some others,
  λ room. let left = rest room in let begun = all left.0 in (begun.0, ap (λ (r : List Reply). r ++ ys) begun.1 ∙ ap (λ (r : List Reply). first ++ r) left.1),
  λ both. let each = both_all xs ys first more some others both in filled each.1 ∙ full each.0,
)

-- these outcomes are left of all: the replies so far and those to come are all replies, and the callers that will wait are the same
abbrev pub Left : List (Caller CallToken) → List (Caller CallToken) → PendingReplies → PendingReplies → Outcomes → Outcomes → Type 0
Left first now before after all rest =
    (done : List Reply) × (done ++ replies_to now rest ≡ replies_to first all) × Keeps before done after × (waiting_after now rest ≡ waiting_after first all)

pub left_first : (callers : List (Caller CallToken)) (replies : PendingReplies) (all : Outcomes) → Left callers callers replies replies all all
left_first callers replies all = ([], refl, keeps_none replies, refl)

-- one goes to the caller under its ticket
pub left_next : (first now new : List (Caller CallToken)) (before mid after : PendingReplies) (all rest : Outcomes) (ticket : ℕ) (o : Result Called Refusal)
    → Left first now before mid all ((ticket, o) ∷ rest) → new ≡ without_caller now ticket → Keeps mid (reply_to (caller_under now ticket) o) after → Left first new before after all rest
left_next first now new before mid after all rest ticket o (done, replied, kept, waits) goes more =
    let one = reply_to (caller_under now ticket) o in (
      done ++ one,
      append_assoc done one (replies_to new rest) ∙ ap (λ (cs : List (Caller CallToken)). done ++ (one ++ replies_to cs rest)) goes ∙ replied,
      keeps_both before done one mid after kept more,
      ap (λ (cs : List (Caller CallToken)). waiting_after cs rest) goes ∙ waits,
    )

pub left_reported : (first now : List (Caller CallToken)) (before after : PendingReplies) (all : Outcomes) → Left first now before after all [] → Keeps before (replies_to first all) after
left_reported first now before after all (done, replied, kept, waits) = subst (λ (rs : List Reply). Keeps before rs after) (sym (append-nil done) ∙ replied) kept

pub left_waits : (first now : List (Caller CallToken)) (before after : PendingReplies) (all : Outcomes) → Left first now before after all [] → now ≡ waiting_after first all
left_waits first now before after all (done, replied, kept, waits) = waits

-- the own receipt is the last one of these, if any is, else the one before them
abbrev pub Owns : Option ℕ → Option Called → List Called → List Called → Type 0
Owns ticket own all rest = last_or own (filter (is_own ticket) rest) ≡ own_receipt ticket all

pub owns_first : (ticket : Option ℕ) (all : List Called) → Owns ticket None all all
owns_first ticket all = refl

-- of a receipt more: it is the own one, or another caller's
pub owns_this : (ticket : Option ℕ) (own : Option Called) (all rest : List Called) (r : Called) → is_own ticket r ≡ true → Owns ticket own all (r ∷ rest) → Owns ticket (Some r) all rest
owns_this ticket own all rest r mine last = grind (arith, mine, last)

pub owns_other : (ticket : Option ℕ) (own : Option Called) (all rest : List Called) (r : Called) → is_own ticket r ≡ false → Owns ticket own all (r ∷ rest) → Owns ticket own all rest
owns_other ticket own all rest r theirs last = grind (arith, theirs, last)

pub others_without : (ticket : Option ℕ) (rest : List Called) (r : Called) → is_own ticket r ≡ true → others_of ticket (r ∷ rest) ≡ others_of ticket rest
others_without ticket rest r mine = grind (arith, mine)

pub others_with : (ticket : Option ℕ) (rest : List Called) (r : Called) → is_own ticket r ≡ false → others_of ticket (r ∷ rest) ≡ (r.call.ticket, Ok r) ∷ others_of ticket rest
others_with ticket rest r theirs = grind (arith, theirs)

abbrev IsOwn : Option ℕ → Called → Type 0
IsOwn ticket r = is_own ticket r ≡ true

owned_step : (ticket : Option ℕ) (o : Option Called) (rs : List Called) (r : Called) (b : Bool) → is_own ticket r ≡ b → IfSome o (IsOwn ticket)
    → ((p : Option Called) → IfSome p (IsOwn ticket) → IfSome (last_or p (filter (is_own ticket) rs)) (IsOwn ticket))
    → IfSome (last_or o (filter (is_own ticket) (r ∷ rs))) (IsOwn ticket)
owned_step ticket o rs r true is h on = rw is (on (Some r) is)
owned_step ticket o rs r false is h on = rw is (on o h)

owned : (ticket : Option ℕ) (receipts : List Called) (o : Option Called) → IfSome o (IsOwn ticket) → IfSome (last_or o (filter (is_own ticket) receipts)) (IsOwn ticket)
owned ticket [] o h = h
owned ticket (r ∷ rs) o h = owned_step ticket o rs r (is_own ticket r) refl h (owned ticket rs)

its_ticket : (ticket : Option ℕ) (r : Called) → is_own ticket r ≡ true → ticket ≡ Some r.call.ticket
its_ticket None r is = absurd cc
its_ticket (Some t) r is = ap (λ (n : ℕ). Some n) (sym (eqb-true r.call.ticket t is))

may_be : (ticket : Option ℕ) (o : Option Called) → IfSome o (IsOwn ticket) → IfSome (option_map Ok o) (λ (reply : Result Called Refusal). IsReplyTo ticket reply)
may_be ticket None h = tt
may_be ticket (Some r) h = its_ticket ticket r h

-- the outcome of a step for the caller whose request it took is a reply to it
pub says_own : (ticket : Option ℕ) (calls : Result (Vec Called Global) AllocError) → IfSome (said_to ticket calls) (λ (reply : Result Called Refusal). IsReplyTo ticket reply)
says_own ticket (Ok receipts) = may_be ticket (own_receipt ticket receipts.items) (owned ticket receipts.items None tt)
says_own ticket (Err e) = tt

-- nobody gets a reply in between
pub left_same : (first now new : List (Caller CallToken)) (before mid after : PendingReplies) (all rest : Outcomes) → new ≡ now → after ≡ mid → Left first now before mid all rest → Left first new before after all rest
left_same first now new before mid after all rest callers replies left =
    subst (λ (cs : List (Caller CallToken)). Left first cs before after all rest) (sym callers) (subst (λ (rs : PendingReplies). Left first now before rs all rest) (sym replies) left)

-- a desk whose cell took a step did so under its receipt, with the pass that was shown
stepped : {C : Type 0} (represents : C → Plain → Type 0) (old took new : Desked C) (event : Event) (receipt : Receipt) (shown pass : ℕ)
    → new ≡ took → receipt ≡ receipt_of took.cell → shown ≡ pass → Steps represents old took event shown (Ok receipt) → Steps represents old new event pass (Ok (receipt_of new.cell))
stepped {C} represents old took new event receipt shown pass same is alike step =
    let by_pass = subst (λ (p : ℕ). Steps represents old took event p (Ok receipt)) alike step in
    let by_receipt = subst (λ (r : Receipt). Steps represents old took event pass (Ok r)) is by_pass in
    subst (λ (d : Desked C). Steps represents old d event pass (Ok (receipt_of d.cell))) (sym same) by_receipt

-- a refused step was refused with the pass that was shown
pub refused : {C : Type 0} (represents : C → Plain → Type 0) (old new : Desked C) (event : Event) (shown pass : ℕ) (e : Refusal) → shown ≡ pass → Steps represents old new event shown (Err e) → Steps represents old new event pass (Err e)
refused represents old new event shown pass e alike step = subst (λ (p : ℕ). Steps represents old new event p (Err e)) alike step

-- so the callers of a step got their replies
pub reported_callers : {C : Type 0} (represents : C → Plain → Type 0) (old : SeatedNode C) (took new : Desked C) (callers : List (Caller CallToken)) (event : Event) (receipt : Receipt) (shown pass : ℕ) (ticket : Option ℕ) (calls : Result (Vec Called Global) AllocError) (before after : PendingReplies)
    → new ≡ took → receipt ≡ receipt_of took.cell → shown ≡ pass → Steps represents old.desk took event shown (Ok receipt)
    → IfSome took.cell.last (λ (step : Step). CallsOf old.desk.waiting took.waiting event receipt shown step calls)
    → callers ≡ waiting_after old.callers.items (said_by calls took.cell.last ticket)
    → Keeps before (replies_to old.callers.items (said_by calls took.cell.last ticket)) after
    → TellsCallers represents old new callers event pass ticket calls before after
reported_callers {C} represents old took new callers event receipt shown pass ticket calls before after same is alike step served waits kept =
    let by_receipt = subst (λ (r : Receipt). IfSome took.cell.last (λ (step : Step). CallsOf old.desk.waiting took.waiting event r shown step calls)) is served in
    let by_pass = subst (λ (p : ℕ). IfSome took.cell.last (λ (step : Step). CallsOf old.desk.waiting took.waiting event (receipt_of took.cell) p step calls)) alike by_receipt in
    subst (λ (d : Desked C). TellsCallers represents old d callers event pass ticket calls before after) (sym same)
    (stepped represents old.desk took took event receipt shown pass refl is alike step, by_pass, waits, kept)

-- the caller whose request was taken may get the step's outcome for it
pub says_it : (own ticket : Option ℕ) (calls : Result (Vec Called Global) AllocError) (reply : Option (Result Called Refusal)) → own ≡ ticket → reply ≡ said_to own calls → IfSome reply (λ (o : Result Called Refusal). IsReplyTo ticket o)
says_it own ticket calls reply same says =
    subst (λ (t : Option ℕ). IfSome reply (λ (o : Result Called Refusal). IsReplyTo t o)) same
    (subst (λ (r : Option (Result Called Refusal)). IfSome r (λ (o : Result Called Refusal). IsReplyTo own o)) (sym says) (says_own own calls))

-- the outcome that a caller has in hand after the step of its request, under the ticket of the step
pub hand_after : (token : CallToken) (ticket now : Option ℕ) (calls : Result (Vec Called Global) AllocError) (reply hand : Option (Result Called Refusal)) (old new : List (Caller CallToken)) (before after : PendingReplies)
    → ticket ≡ now → reply ≡ said_to ticket calls → HasInHand token ticket reply hand old new before after → HasInHand token now (said_to now calls) hand old new before after
hand_after token ticket now calls reply hand old new before after same says has =
    subst (λ (t : Option ℕ). HasInHand token t (said_to t calls) hand old new before after) same
    (subst (λ (r : Option (Result Called Refusal)). HasInHand token ticket r hand old new before after) says has)

-- a caller waits behind the others
pub waits_behind : (token : CallToken) (accepted : Option Accepted) (a : Accepted) (old new : List (Caller CallToken)) (caller : Caller CallToken) (replies : PendingReplies)
    → accepted ≡ Some a → caller ≡ waits_as a.ticket token → new ≡ old ++ caller ∷ [] → Waits token (ticket_in accepted) old new replies replies
waits_behind token accepted a old new caller replies is made behind =
    subst (λ (o : Option Accepted). Waits token (ticket_in o) old new replies replies) (sym is) (inl (behind ∙ ap (λ (c : Caller CallToken). old ++ c ∷ []) made, refl))

abbrev pub without_room : Caller CallToken → Reply
without_room caller = record { to = recipient_of caller; outcome = Err refusals.Memory }

-- there is no room to wait, and it is refused
pub waits_nowhere : (token : CallToken) (accepted : Option Accepted) (a : Accepted) (old new : List (Caller CallToken)) (caller back : Caller CallToken) (reply : Reply) (before after : PendingReplies)
    → accepted ≡ Some a → caller ≡ waits_as a.ticket token → back ≡ caller → reply ≡ without_room back → new ≡ old → Keeps before (reply ∷ []) after → Waits token (ticket_in accepted) old new before after
waits_nowhere token accepted a old new caller back reply before after is made given so same kept =
    let to : reply ≡ without_room (waits_as a.ticket token) = so ∙ ap without_room (given ∙ made) in
    subst (λ (o : Option Accepted). Waits token (ticket_in o) old new before after) (sym is) (inr (same, subst (λ (r : Reply). Keeps before (r ∷ []) after) to kept))

under_ticket : (name : NodeName) (stamp pass : ℕ) (call : CallId) (ticket : Option ℕ) → ticket_in (accepted_under name stamp pass (Some call) ticket) ≡ ticket
under_ticket name stamp pass call None = refl
under_ticket name stamp pass call (Some ticket) = refl

-- the call that a step accepted has the step's ticket
pub ticket_accepted : (name : NodeName) (stamp pass : ℕ) (call : CallId) (last : Option Step) (accepted : Option Accepted) → IsSome last → IfSome last (λ (step : Step). accepted ≡ accepted_under name stamp pass (Some call) step.ticket) → ticket_in accepted ≡ ticket_of last
ticket_accepted name stamp pass call None accepted moved is = absurd cc
ticket_accepted name stamp pass call (Some step) accepted moved is = ap ticket_in is ∙ under_ticket name stamp pass call step.ticket
