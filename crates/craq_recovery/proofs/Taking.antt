-- The moves of a round are taken.
use Rattle.std.proofs.Common.{◌≡◌, ℕ, zero, suc, ◌+◌, ◌≤◌, ◌==◌, true, List, [], ◌∷◌, ◌++◌, length, take, drop, append_assoc, slice_get, Option, Some, None, Result, Ok, Err, refl, ap, sym, subst, ◌∙◌, arith}
use Rattle.std.proofs.lemmas.Bool.{cond_both, and_from, both_ways, eq-eqb}
use Rattle.std.proofs.lemmas.List.{length-append, length-take, take-append-drop}
use Rattle.std.specs.List.{AllByRecursion}
use Rattle.craq_names.specs.declared.refusal.Refusal.{Refusal}
use Rattle.craq_names.specs.declared.refusal.Refusal.TheVariants as refusals
use Rattle.craq_names.proofs.Lists.{all_append}
use Rattle.craq_model.specs.declared.ask.Event.{Event}
use Rattle.craq_model.specs.declared.ask.Event.TheVariants as events
use Rattle.craq_model.specs.declared.message.LinkMessage.{LinkMessage}
use Rattle.craq_model.specs.Deliveries.{delivery_transition}
use Rattle.craq_model.specs.Node.{event_transition, is_for, node_step, outs_fit, within_counts}
use Rattle.craq_model.specs.Plain.{Plain, id_of}
use Rattle.craq_model.specs.Sends.{tick_sends}
use Rattle.craq_model.specs.Settle.{Transition, transition_with}
use Rattle.craq_refinement.proofs.Lists.{all_at}
use Rattle.craq_laws.proofs.Nodes.{node_id}
use Rattle.craq_runs.specs.declared.run.Move.{Move}
use Rattle.craq_runs.specs.declared.run.Move.TheVariants.{Deliver, Tick}
use Rattle.craq_runs.specs.declared.run.Run.{Run}
use Rattle.craq_runs.specs.Chain.{Chain, Progress, arrival_progress, chain_step, config_progress, counted_progress, is_running, message_at, node_at, node_progress, numbers_left, opening_chain, sent_in, tick_progress, transition_progress}
use Rattle.craq_runs.specs.Runs.{after_move, after_moves}
use Rattle.craq_recovery.specs.Rounds.{after_moves_by, arrivals, arrivals_of, hops, round, ticks, ticks_of}
use Rattle.craq_recovery.specs.Taken.{AreTakenInOrder, IsTaken}
use Rattle.craq_recovery.proofs.Onward.{IsTravel, Onward, onward_move, onward_moves, onward_on, onward_self, sound_moves}
use Rattle.craq_recovery.proofs.Sound.{Sound, own_chain, sound_after, sound_move}
use Rattle.craq_recovery.proofs.Lines.{by_test}

-- ---- one move

counted_taken : (c : Chain) (r : Result Progress Refusal) → IsTaken r → IsTaken (counted_progress c r)
counted_taken c (Ok x) h = by_test (numbers_left c x.1) IsTaken (Ok (record x.0 { messages = c.messages ++ sent_in x.1.outs; moves = c.moves + 1 }, x.1)) (Err refusals.Exhausted) tt refl
counted_taken c (Err e) h = h

within_taken : (c : Chain) (t : Transition) (r : Result Transition Refusal) → r ≡ Ok t → IsTaken (transition_progress c (within_counts r))
within_taken c t (Ok s) h = by_test (outs_fit s.1.outs) (λ (r : Result Transition Refusal). IsTaken (transition_progress c r)) (Ok s) (Err refusals.Exhausted) tt refl
within_taken c t (Err e) h = absurd (cc)

node_taken : (c : Chain) (p : Plain) (e : Event) (t : Transition) → p.running ≡ true → event_transition p e ≡ Ok t → IsTaken (transition_progress c (node_step p e))
unfolding node_step
node_taken c p e t runs does =
    cond_both p.running (within_counts (event_transition p e)) (Err refusals.Stopped) (λ (r : Result Transition Refusal). IsTaken (transition_progress c r))
    (λ u. within_taken c t (event_transition p e) does)
    (λ u. absurd (both_ways p.running u runs))

ticks_at : (c : Chain) (o : Option Plain) → is_running o ≡ true → IsTaken (node_progress c o events.Tick)
ticks_at c None h = absurd (cc)
ticks_at c (Some p) h = node_taken c p events.Tick (transition_with p (tick_sends p)) h refl

pub tick_taken : (c : Chain) (id : ℕ) → is_running (node_at c.nodes id) ≡ true → IsTaken (chain_step c (Tick id))
unfolding chain_step
tick_taken c id h =
    counted_taken c (tick_progress c id)
    (by_test (id == 0) IsTaken (Ok (config_progress c)) (node_progress c (node_at c.nodes id) events.Tick) tt (ticks_at c (node_at c.nodes id) h))

pub master_taken : (c : Chain) → IsTaken (chain_step c (Tick 0))
unfolding chain_step
master_taken c = counted_taken c (Ok (config_progress c)) tt

pub for_it : (p : Plain) (m : LinkMessage) → m.chain ≡ p.name.chain → m.receiver ≡ id_of p → event_transition p (events.Deliver m) ≡ Ok (delivery_transition p m)
for_it p m chain own =
    let is : is_for p m ≡ true = and_from (m.chain == p.name.chain) (m.receiver == id_of p) (eq-eqb m.chain p.name.chain chain) (eq-eqb m.receiver (id_of p) own) in
    cond_both (is_for p m) (Ok (delivery_transition p m)) (Err refusals.WrongNode) (λ (r : Result Transition Refusal). r ≡ Ok (delivery_transition p m))
    (λ e. refl)
    (λ e. absurd (both_ways (is_for p m) e is))

arrives_at : (c : Chain) (m : LinkMessage) (o : Option Plain) → Sound c → m.chain ≡ c.chain → node_at c.nodes m.receiver ≡ o → is_running o ≡ true → IsTaken (node_progress c o (events.Deliver m))
arrives_at c m None s own at h = absurd (cc)
arrives_at c m (Some p) s own at h =
    node_taken c p (events.Deliver m) (delivery_transition p m) h
    (for_it p m (own ∙ sym (own_chain c.chain m.receiver c.nodes p s.nodes at)) (sym (node_id c.nodes m.receiver p at)))

arrival_taken : (c : Chain) (m : LinkMessage) (o : Option LinkMessage) → Sound c → o ≡ Some m → m.chain ≡ c.chain → is_running (node_at c.nodes m.receiver) ≡ true → IsTaken (arrival_progress c o)
arrival_taken c m None s at own h = absurd (cc)
arrival_taken c m (Some n) s at own h =
    let same : m ≡ n = cc in
    let P : LinkMessage → Type 0 = λ n. IsTaken (arrival_progress c (Some n)) in
    subst P same (arrives_at c m (node_at c.nodes m.receiver) s own refl h)

pub deliver_taken : (c : Chain) (number : ℕ) (m : LinkMessage) → Sound c → message_at c.messages number ≡ Some m → m.chain ≡ c.chain → is_running (node_at c.nodes m.receiver) ≡ true
    → IsTaken (chain_step c (Deliver number))
unfolding chain_step
deliver_taken c number m s at own h = counted_taken c (arrival_progress c (message_at c.messages number)) (arrival_taken c m (message_at c.messages number) s at own h)

-- each message has the chain's id
pub bears : (c : Chain) (number : ℕ) (m : LinkMessage) → Sound c → message_at c.messages number ≡ Some m → m.chain ≡ c.chain
bears c zero m s at = absurd (cc)
bears c (suc i) m s at = all_at (λ (n : LinkMessage). n.chain ≡ c.chain) c.messages i m at s.messages

-- ---- moves one after the other

taken_both : (ms ns : List Move) (c : Chain) → AreTakenInOrder c ms → AreTakenInOrder (after_moves_by after_move c ms) ns → AreTakenInOrder c (ms ++ ns)
taken_both [] ns c a b = b
taken_both (m ∷ ms) ns c a b = (a.0, taken_both ms ns (after_move c m) a.1 b)

-- the nodes that ran before still run
pub runs_on : {c d : Chain} → Onward c d → (id : ℕ) → is_running (node_at c.nodes id) ≡ true → is_running (node_at d.nodes id) ≡ true
runs_on f id h = f.running id ∙ h

ticks_taken : (c : Chain) (ids : List ℕ) (d : Chain) → Onward c d → AreTakenInOrder d (ticks_of c.nodes ids)
ticks_taken c [] d f = tt
ticks_taken c (id ∷ ids) d f =
    cond_both (is_running (node_at c.nodes id)) (Tick id ∷ ticks_of c.nodes ids) (ticks_of c.nodes ids) (AreTakenInOrder d)
    (λ runs. (tick_taken d id (runs_on f id runs), ticks_taken c ids (after_move d (Tick id)) (onward_on f (onward_move d (Tick id) tt))))
    (λ stopped. ticks_taken c ids d f)

pub ticks_travel : (nodes : List Plain) (ids : List ℕ) → AllByRecursion IsTravel (ticks_of nodes ids)
ticks_travel nodes [] = tt
ticks_travel nodes (id ∷ ids) =
    by_test (is_running (node_at nodes id)) (AllByRecursion IsTravel) (Tick id ∷ ticks_of nodes ids) (ticks_of nodes ids) (tt, ticks_travel nodes ids) (ticks_travel nodes ids)

pub arrivals_travel : (nodes : List Plain) (ms : List LinkMessage) (number : ℕ) → AllByRecursion IsTravel (arrivals_of nodes number ms)
arrivals_travel nodes [] number = tt
arrivals_travel nodes (m ∷ ms) number =
    by_test (is_running (node_at nodes m.receiver)) (AllByRecursion IsTravel) (Deliver number ∷ arrivals_of nodes (number + 1) ms) (arrivals_of nodes (number + 1) ms)
    (tt, arrivals_travel nodes ms (number + 1)) (arrivals_travel nodes ms (number + 1))

-- the message at an index
at_middle : (before : List LinkMessage) (m : LinkMessage) (rest : List LinkMessage) → slice_get (before ++ m ∷ rest) (length before) ≡ Some m
at_middle [] m rest = refl
at_middle (b ∷ before) m rest = at_middle before m rest

pub stands_at : (c d : Chain) (before : List LinkMessage) (m : LinkMessage) (ms : List LinkMessage) (number : ℕ) → Onward c d → before ++ m ∷ ms ≡ c.messages → number ≡ suc (length before)
    → message_at d.messages number ≡ Some m
stands_at c d before m ms number f is at =
    let P : ℕ → Type 0 = λ n. message_at d.messages n ≡ Some m in
    let Q : List LinkMessage → Type 0 = λ l. slice_get l (length before) ≡ Some m in
    let whole : before ++ m ∷ (ms ++ f.sent) ≡ d.messages = sym (append_assoc before (m ∷ ms) f.sent) ∙ (ap (λ l. l ++ f.sent) is ∙ f.messages) in
    subst P (sym at) (subst Q whole (at_middle before m (ms ++ f.sent)))

arrivals_taken : (c : Chain) (ms : List LinkMessage) (before : List LinkMessage) (number : ℕ) (d : Chain) → Sound d → Onward c d → before ++ ms ≡ c.messages → number ≡ suc (length before)
    → AreTakenInOrder d (arrivals_of c.nodes number ms)
arrivals_taken c [] before number d s f is at = tt
arrivals_taken c (m ∷ ms) before number d s f is at =
    let more : (before ++ m ∷ []) ++ ms ≡ c.messages = append_assoc before (m ∷ []) ms ∙ is in
    let next : number + 1 ≡ suc (length (before ++ m ∷ [])) = omega (arith, at, length-append before (m ∷ [])) in
    cond_both (is_running (node_at c.nodes m.receiver)) (Deliver number ∷ arrivals_of c.nodes (number + 1) ms) (arrivals_of c.nodes (number + 1) ms) (AreTakenInOrder d)
    (λ runs.
    let there : message_at d.messages number ≡ Some m = stands_at c d before m ms number f is at in (
      deliver_taken d number m s there (bears d number m s there) (runs_on f m.receiver runs),
      arrivals_taken c ms (before ++ m ∷ []) (number + 1) (after_move d (Deliver number)) (sound_move d (Deliver number) s) (onward_on f (onward_move d (Deliver number) tt)) more next,
    ))
    (λ stopped. arrivals_taken c ms (before ++ m ∷ []) (number + 1) d s f more next)

-- ---- a round

pub sent_before : (l : List LinkMessage) (sent : ℕ) → sent ≤ length l → sent + 1 ≡ suc (length (take sent l))
sent_before l sent le = omega (arith, le, length-take sent l)

hop_taken : (c : Chain) (sent : ℕ) → Sound c → sent ≤ length c.messages → AreTakenInOrder c (arrivals c sent)
unfolding arrivals
hop_taken c sent s le = arrivals_taken c (drop sent c.messages) (take sent c.messages) (sent + 1) c s (onward_self c) (take-append-drop sent c.messages) (sent_before c.messages sent le)

pub hop_travels : (c : Chain) (sent : ℕ) → AllByRecursion IsTravel (arrivals c sent)
unfolding arrivals
hop_travels c sent = arrivals_travel c.nodes (drop sent c.messages) (sent + 1)

hop_onward : (c : Chain) (sent : ℕ) → Onward c (after_moves_by after_move c (arrivals c sent))
hop_onward c sent = onward_moves (arrivals c sent) c (hop_travels c sent)

pub no_fewer : {c d : Chain} → Onward c d → length c.messages ≤ length d.messages
no_fewer {c} {d} f = let e : length (c.messages ++ f.sent) ≡ length d.messages = ap length f.messages in omega (arith, e, length-append c.messages f.sent)

hops_taken : (count : ℕ) (sent : ℕ) (c : Chain) → Sound c → sent ≤ length c.messages → AreTakenInOrder c (hops after_move count sent c)
hops_taken zero sent c s le = tt
hops_taken (suc count) sent c s le =
    let ms : List Move = arrivals c sent in
    taken_both ms (hops after_move count (length c.messages) (after_moves_by after_move c ms)) c (hop_taken c sent s le)
    (hops_taken count (length c.messages) (after_moves_by after_move c ms) (sound_moves ms c s) (no_fewer (hop_onward c sent)))

pub hops_travel : (count sent : ℕ) (c : Chain) → AllByRecursion IsTravel (hops after_move count sent c)
hops_travel zero sent c = tt
hops_travel (suc count) sent c =
    let d : Chain = after_moves_by after_move c (arrivals c sent) in
    all_append IsTravel (arrivals c sent) (hops after_move count (length c.messages) d) (hop_travels c sent) (hops_travel count (length c.messages) d)

pub round_travels : (count : ℕ) (c : Chain) → AllByRecursion IsTravel (round after_move count c)
unfolding round
round_travels count c =
    let d : Chain = after_moves_by after_move c (ticks c) in
    all_append IsTravel (ticks c) (hops after_move count (length c.messages) d) (tt, ticks_travel c.nodes c.members) (hops_travel count (length c.messages) d)

pub round_taken : (count : ℕ) (c : Chain) → Sound c → AreTakenInOrder c (round after_move count c)
unfolding round
round_taken count c s =
    let ms : List Move = ticks c in
    let first : Chain = after_move c (Tick 0) in
    let ticked : AreTakenInOrder c ms = (master_taken c, ticks_taken c c.members first (onward_move c (Tick 0) tt)) in
    let on : Onward c (after_moves_by after_move c ms) = onward_moves ms c (tt, ticks_travel c.nodes c.members) in
    taken_both ms (hops after_move count (length c.messages) (after_moves_by after_move c ms)) c ticked
    (hops_taken count (length c.messages) (after_moves_by after_move c ms) (sound_moves ms c s) (no_fewer on))

pub rounds_taken : (chain : ℕ) (run : Run) (count : ℕ) → AreTakenInOrder (after_moves (opening_chain chain run.members) run.moves) (round after_move count (after_moves (opening_chain chain run.members) run.moves))
rounds_taken chain run count = round_taken count (after_moves (opening_chain chain run.members) run.moves) (sound_after chain run.members run.moves)
