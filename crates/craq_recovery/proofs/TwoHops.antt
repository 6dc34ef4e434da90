-- The messages of one member's tick arrive at another, and the other's messages arrive in the next
-- hop.
use Rattle.std.proofs.Common.{◌≡◌, ◌≢◌, ℕ, suc, ◌+◌, ◌≤◌, true, List, [], ◌∷◌, ◌++◌, length, drop, Some, Ok, sym, subst, arith, inl, inr}
use Rattle.std.proofs.lemmas.List.{drop-append-le, length-append}
use Rattle.std.specs.List.{AllByRecursion}
use Rattle.craq_model.specs.declared.message.LinkMessage.{LinkMessage}
use Rattle.craq_model.specs.Members.{is_member}
use Rattle.craq_model.specs.Plain.{Plain}
use Rattle.craq_model.specs.Sends.{tick_sends}
use Rattle.craq_refinement.specs.Lines.{IsFollowed}
use Rattle.craq_runs.specs.declared.run.Move.TheVariants.{Deliver}
use Rattle.craq_runs.specs.Chain.{Chain, Progress, chain_step, message_at, node_at, sent_in}
use Rattle.craq_runs.specs.Runs.{after_move}
use Rattle.craq_recovery.specs.Rounds.{after_moves_by, round, ticks}
use Rattle.craq_recovery.specs.Taken.{HaveNumbers}
use Rattle.craq_recovery.proofs.Arriving.{BringAll, Endures, Stays, bring_hop, bring_lasts, bring_more, bring_past, bring_with, news, ticked, ticks_onward, two_hops_bring}
use Rattle.craq_recovery.proofs.Onward.{IsTravel, Onward, onward_move, onward_on}
use Rattle.craq_recovery.proofs.Series.{Has, One, has_back, has_front, one_series, series_one}
use Rattle.craq_recovery.proofs.Sound.{Sound}
use Rattle.craq_recovery.proofs.Taking.{no_fewer, ticks_travel}
use Rattle.craq_recovery.proofs.Travels.{Either, Lasts, Leads, NodeIs, arrives, either_lasts, lasts_on, not_stopped, tick_sent}

-- the messages that such a message makes a node with property G send
abbrev pub Replies : (Chain → Type 0) → Chain → ℕ → (LinkMessage → Type 0) → (Plain → Type 0) → (LinkMessage → Type 0) → Type 0
Replies C c id Is G Out =
    (d : Chain) (number : ℕ) (m : LinkMessage) (x : Progress) → C d → Sound d → IsFollowed d → Onward c d → NodeIs d id G → message_at d.messages number ≡ Some m
    → chain_step d (Deliver number) ≡ Ok x → Is m → (new : List LinkMessage) × (x.0.messages ≡ d.messages ++ new) × Has Out new

-- such a message is among those sent after the first `since`
abbrev SentSince : ℕ → (LinkMessage → Type 0) → Chain → Type 0
SentSince since Out d = (since ≤ length d.messages) × Has Out (drop since d.messages)

sent_more : (since : ℕ) (Out : LinkMessage → Type 0) (ms new : List LinkMessage) → since ≤ length ms → Has Out (drop since ms ++ new) → Has Out (drop since (ms ++ new))
sent_more since Out ms new le has = let S : List LinkMessage → Type 0 = λ l. Has Out l in subst S (sym (drop-append-le since ms new le)) has

sent_lasts : (since : ℕ) (Out : LinkMessage → Type 0) → Endures (SentSince since Out)
sent_lasts since Out m d t f h =
    let on : Onward d (after_move d m) = onward_move d m t in
    let S : List LinkMessage → Type 0 = λ l. Has Out (drop since l) in
    (omega (arith, h.0, no_fewer on), subst S on.messages (sent_more since Out d.messages on.sent h.0 (has_front Out (drop since d.messages) on.sent h.1)))

-- at least `since` messages were sent, and the node has the property
abbrev AwaitsSince : ℕ → ℕ → (Plain → Type 0) → Chain → Type 0
AwaitsSince since id G d = (since ≤ length d.messages) × NodeIs d id G

awaits_lasts : (since id : ℕ) (G : Plain → Type 0) → Lasts G → Endures (AwaitsSince since id G)
awaits_lasts since id G lasts m d t f h = (omega (arith, h.0, no_fewer (onward_move d m t)), lasts m d id t f h.1)

arrives_sends : (c : Chain) (id since : ℕ) (C : Chain → Type 0) (Is : LinkMessage → Type 0) (G : Plain → Type 0) (Out : LinkMessage → Type 0) → Stays C → Lasts G
    → ((m : LinkMessage) → Is m → m.receiver ≡ id) → Replies C c id Is G Out
    → (ms : List LinkMessage) → Has Is ms → BringAll C c (AwaitsSince since id G) (SentSince since Out) ms
arrives_sends c id since C Is G Out stays lasts to replies [] has = absurd has
arrives_sends c id since C Is G Out stays lasts to replies (m ∷ ms) (inl now) =
    bring_more C stays c m ms (AwaitsSince since id G) (SentSince since Out) (SentSince since Out)
    (λ d number x s0 s f on g there e.
    let sent : (new : List LinkMessage) × (x.0.messages ≡ d.messages ++ new) × Has Out new = replies d number m x s0 s f on g.1 there e now in
    let S : List LinkMessage → Type 0 = λ l. (since ≤ length l) × Has Out (drop since l) in
    subst S (sym sent.1) (omega (arith, g.0, length-append d.messages sent.0), sent_more since Out d.messages sent.0 g.0 (has_back Out (drop since d.messages) sent.0 sent.2)))
    (λ d g stopped. absurd (not_stopped d id m G (to m now) g.1 stopped))
    (bring_lasts C stays c (SentSince since Out) ms (sent_lasts since Out))
arrives_sends c id since C Is G Out stays lasts to replies (m ∷ ms) (inr later) =
    bring_past C stays c m ms (AwaitsSince since id G) (SentSince since Out) (awaits_lasts since id G lasts) (arrives_sends c id since C Is G Out stays lasts to replies ms later)

-- a round of two hops: the message of one member's tick arrives at another, whose reply arrives at
-- the first
pub crosses_back : (count : ℕ) (c : Chain) (from to : ℕ) (p : Plain) (C : Chain → Type 0) (Is : LinkMessage → Type 0) (G : Plain → Type 0) (Out : LinkMessage → Type 0) (E F : Plain → Type 0)
    → Stays C → Lasts G → Lasts E → Lasts F → from ≢ 0 → is_member c.members from ≡ true → node_at c.nodes from ≡ Some p → p.running ≡ true
    → Has Is (sent_in (tick_sends p)) → ((m : LinkMessage) → Is m → m.receiver ≡ to) → Replies C c to Is G Out
    → ((m : LinkMessage) → Out m → m.receiver ≡ from) → Leads C c from (One Out) (Either E F)
    → C c → Sound c → IsFollowed c → NodeIs c to G → NodeIs c from E → HaveNumbers c (round after_move (suc (suc count)) c)
    → NodeIs (after_moves_by after_move c (round after_move (suc (suc count)) c)) from F
crosses_back count c from to p C Is G Out E F stays lastsG lastsE lastsF some member at runs asks goes_to replies goes_back leads s0 s f g e numbers =
    let c1 : Chain = ticked c in
    let since : ℕ = length c1.messages in
    let travel : AllByRecursion IsTravel (ticks c) = (tt, ticks_travel c.nodes c.members) in
    let Waits : Chain → Type 0 = λ d. NodeIs d from E in
    two_hops_bring C stays (λ d. NodeIs d from F) (λ m d t f i. lastsF m d from t f i) count c (λ d. AwaitsSince since to G d × Waits d) (λ d. SentSince since Out d × Waits d) s0 s f numbers
    ((omega arith, lasts_on G lastsG (ticks c) c to travel f g), lasts_on E lastsE (ticks c) c from travel f e)
    (λ n. bring_with C stays c1 (news c c1) (AwaitsSince since to G) (SentSince since Out) Waits (λ m d t f i. lastsE m d from t f i)
    (arrives_sends c1 to since C Is G Out stays lastsG goes_to (λ d number m x sc sd fd od gd at k is. replies d number m x sc sd fd (onward_on (ticks_onward c) od) gd at k is) (news c c1)
    (series_one Is (news c c1) (tick_sent c from p (One Is) 0 1 some runs (one_series Is (sent_in (tick_sends p)) asks) member at n))))
    (λ d s2 t2 f2 on h k.
    bring_hop C stays d since Waits (λ d. NodeIs d from F)
    (arrives d from C (One Out) (Either E F) stays (either_lasts E F lastsE lastsF) (λ a k m is. goes_back m is.2)
    (λ a k e number m x sc sd fd od gd at does is. leads a k e number m x sc sd fd (onward_on (ticks_onward c) (onward_on on od)) gd at does is) (news c1 d) 0 1 (one_series Out (news c1 d) h.0.1))
    s2 t2 f2 (no_fewer on) h.1 k)
