-- Each request that waits is answered in the rounds.
use Rattle.std.proofs.Common.{◌≡◌, ◌≢◌, ◌⊎◌, ⊎_elim, inl, inr, ℕ, zero, suc, ◌==◌, Bool, true, false, ◌||◌, List, [], ◌∷◌, ◌++◌, map, Option, Some, None, Result, Ok, Err, refl, ap, sym, subst, ◌∙◌}
use Rattle.std.proofs.lemmas.Bool.{cases_eq, eqb-true}
use Rattle.std.specs.List.{AllByRecursion}
use Rattle.craq_names.specs.declared.name.NodeName.{NodeName}
use Rattle.craq_names.specs.declared.refusal.Refusal.{Refusal}
use Rattle.craq_model.specs.declared.ask.Event.TheVariants as events
use Rattle.craq_model.specs.declared.message.LinkMessage.{LinkMessage}
use Rattle.craq_model.specs.declared.waiting.WaitingRead.{WaitingRead}
use Rattle.craq_model.specs.declared.waiting.WaitingUpdate.{WaitingUpdate}
use Rattle.craq_model.specs.Deliveries.{delivery_transition}
use Rattle.craq_model.specs.Members.{is_member}
use Rattle.craq_model.specs.Plain.{Plain, id_of}
use Rattle.craq_model.specs.Settle.{Transition}
use Rattle.craq_laws.proofs.Nodes.{node_elsewhere}
use Rattle.craq_refinement.proofs.Stages.{Arrived, arrived}
use Rattle.craq_runs.specs.declared.run.Move.{Move}
use Rattle.craq_runs.specs.declared.run.Move.TheVariants as moves
use Rattle.craq_runs.specs.declared.run.Run.{Run}
use Rattle.craq_runs.specs.Chain.{Chain, Progress, arrival_progress, chain_step, counted_progress, message_at, node_at}
use Rattle.craq_runs.specs.Runs.{after_move, progressed}
use Rattle.craq_runs.specs.Typed.{IsTypedRunOf}
use Rattle.craq_recovery.specs.Answers.{AnsweredBy, AnsweredInRounds, AnswersAt, AskWaits, answered_tickets, receiver_of, waiting_tickets}
use Rattle.craq_recovery.specs.Recovered.{AllRun, HasRecovered, IsServing, ServesAt, SomeReady, chain_after_moves, rounds_to_recover}
use Rattle.craq_recovery.specs.Rounds.{after_moves_by, after_rounds, round}
use Rattle.craq_recovery.specs.Taken.{HaveNumbersFor}
use Rattle.craq_recovery.proofs.Answered.{onward_rounds}
use Rattle.craq_recovery.proofs.Fates.{StillWaits, delivery_fate}
use Rattle.craq_recovery.proofs.Heads.{Good, good_moves, good_run}
use Rattle.craq_recovery.proofs.Onward.{IsTravel, Onward}
use Rattle.craq_laws.proofs.Kept.{event_keeps_name}
use Rattle.craq_recovery.proofs.Sound.{Sound, own_chain, sound_move}
use Rattle.craq_recovery.proofs.Taking.{bears, for_it, round_travels}
use Rattle.craq_recovery.proofs.Ticking.{tick_keeps}
use Rattle.craq_recovery.proofs.Travels.{arrived_here}
use Rattle.craq_recovery.proofs.Whole.{recover_in_rounds}

unknown : (c : Chain) (number : ℕ) (x : Progress) → message_at c.messages number ≡ None → chain_step c (moves.Deliver number) ≡ Ok x → ⊥
unfolding chain_step
unknown c number x none e = let is : counted_progress c (arrival_progress c None) ≡ Ok x = sym (ap (λ o. counted_progress c (arrival_progress c o)) none) ∙ e in absurd (cc)

arrival_fate : (c : Chain) (number id k : ℕ) → Sound c → (o : Option LinkMessage) → message_at c.messages number ≡ o → (r : Result Progress Refusal) → chain_step c (moves.Deliver number) ≡ r → AskWaits c id k
    → AskWaits (progressed c r) id k ⊎ AnswersAt c (moves.Deliver number) id k
arrival_fate c number id k s o is (Err e) does w = inl w
arrival_fate c number id k s None is (Ok x) does w = absurd (unknown c number x is does)
arrival_fate c number id k s (Some m) is (Ok x) does w =
    let ar : Arrived c m x = arrived c number m x is does in
    let p : Plain = ar.node in
    let t : Transition = delivery_transition p m in
    ⊎_elim
    (λ (same : m.receiver ≡ id).
    let N : ℕ → Type 0 = λ i. node_at c.nodes i ≡ Some p in
    let at : node_at c.nodes id ≡ Some p = subst N (sym ar.own ∙ same) ar.at in
    let it : w.node ≡ p = let there : node_at c.nodes id ≡ Some w.node = w.at in cc in
    let W : Plain → Type 0 = λ y. StillWaits k y in
    ⊎_elim
    (λ (h : StillWaits k t.0). inl (record { node = t.0; at = arrived_here c number m x s is ar id same; waits = h }))
    (λ (h : is_member (answered_tickets t.1.outs) k ≡ true).
    let A : Progress → Type 0 = λ y. is_member (answered_tickets y.1.outs) k ≡ true in
    inr (record { progress = x; taken = does; here = ap receiver_of is ∙ same; answers = subst A (sym ar.is) h }))
    (delivery_fate k p m (subst W it w.waits)))
    (λ (other : m.receiver ≢ id).
    let of : p.name.chain ≡ c.chain = own_chain c.chain (id_of p) c.nodes p s.nodes ar.at in
    let named : t.0.name ≡ p.name = event_keeps_name p (events.Deliver m) t (for_it p m (bears c number m s is ∙ sym of) ar.own) in
    let far : id ≢ id_of t.0 = λ z. other (ar.own ∙ (sym (ap (λ (n : NodeName). n.node) named) ∙ sym z)) in
    let Q : Progress → Type 0 = λ y. node_at y.0.nodes id ≡ Some w.node in
    inl (record { node = w.node; at = subst Q (sym ar.is) (node_elsewhere c.nodes t.0 id far ∙ w.at); waits = w.waits }))
    (cases_eq m.receiver id)

move_fate : (c : Chain) (m : Move) (id k : ℕ) → IsTravel m → Sound c → AskWaits c id k → AskWaits (after_move c m) id k ⊎ AnswersAt c m id k
move_fate c (moves.Ask node ask) id k t s w = absurd t
move_fate c (moves.Deliver number) id k t s w = arrival_fate c number id k s (message_at c.messages number) refl (chain_step c (moves.Deliver number)) refl w
move_fate c (moves.Tick node) id k t s w = inl (record { node = w.node; at = tick_keeps c node id ∙ w.at; waits = w.waits })
move_fate c (moves.Stop node) id k t s w = absurd t
move_fate c (moves.Remove node) id k t s w = absurd t
move_fate c (moves.Join node) id k t s w = absurd t

moves_fate : (ms : List Move) (c : Chain) (id k : ℕ) → AllByRecursion IsTravel ms → Sound c → AskWaits c id k → AskWaits (after_moves_by after_move c ms) id k ⊎ AnsweredBy c ms id k
moves_fate [] c id k t s w = inl w
moves_fate (m ∷ ms) c id k t s w =
    ⊎_elim
    (λ (h : AskWaits (after_move c m) id k).
    ⊎_elim
    (λ (j : AskWaits (after_moves_by after_move (after_move c m) ms) id k). inl j)
    (λ (j : AnsweredBy (after_move c m) ms id k). inr (inr j))
    (moves_fate ms (after_move c m) id k t.1 (sound_move c m s) h))
    (λ (h : AnswersAt c m id k). inr (inl h))
    (move_fate c m id k t.0 s w)

rounds_fate : (h rounds : ℕ) (c : Chain) (id k : ℕ) → Good c → AskWaits c id k → AskWaits (after_rounds after_move h rounds c) id k ⊎ AnsweredInRounds h rounds c id k
rounds_fate h zero c id k g w = inl w
rounds_fate h (suc rounds) c id k g w =
    let d : Chain = after_moves_by after_move c (round after_move h c) in
    ⊎_elim
    (λ (i : AskWaits d id k).
    ⊎_elim
    (λ (j : AskWaits (after_rounds after_move h rounds d) id k). inl j)
    (λ (j : AnsweredInRounds h rounds d id k). inr (inr j))
    (rounds_fate h rounds d id k (good_moves (round after_move h c) c g) i))
    (λ (i : AnsweredBy c (round after_move h c) id k). inr (inl i))
    (moves_fate (round after_move h c) c id k (round_travels h c) g.sound w)

nobody : (k : ℕ) → is_member [] k ≡ true → ⊥
unfolding is_member
nobody k h = absurd (cc)

none_waits : (us : List WaitingUpdate) (rs : List WaitingRead) (k : ℕ) → us ≡ [] → rs ≡ [] → is_member (map (λ (u : WaitingUpdate). u.ticket) us ++ map (λ (r : WaitingRead). r.ticket) rs) k ≡ true → ⊥
none_waits us rs k u r h =
    let U : List WaitingUpdate → Type 0 = λ l. is_member (map (λ (u : WaitingUpdate). u.ticket) l ++ map (λ (r : WaitingRead). r.ticket) rs) k ≡ true in
    let R : List WaitingRead → Type 0 = λ l. is_member (map (λ (r : WaitingRead). r.ticket) l) k ≡ true in
    nobody k (subst R r (subst U u h))

either : (a b : Bool) → (a ≡ true → ⊥) → (a || b) ≡ true → b ≡ true
either true b differs h = absurd (differs refl)
either false b differs h = h

in_rest : (x id : ℕ) (ids : List ℕ) → x ≢ id → is_member (x ∷ ids) id ≡ true → is_member ids id ≡ true
unfolding is_member
in_rest x id ids ne m = either (x == id) (is_member ids id) (λ e. ne (eqb-true x id e)) m

-- in a recovered chain no request waits
nothing_waits : (c : Chain) (ids : List ℕ) (id k : ℕ) → AllByRecursion (ServesAt c) ids → is_member ids id ≡ true → AskWaits c id k → ⊥
unfolding is_member
nothing_waits c [] id k a m w = absurd (cc)
nothing_waits c (x ∷ ids) id k a m w =
    ⊎_elim
    (λ (e : x ≡ id).
    let v : ServesAt c x = a.0 in
    let serving : IsServing c v.0 = v.2 in
    let N : ℕ → Type 0 = λ i. node_at c.nodes i ≡ Some v.0 in
    let there : node_at c.nodes id ≡ Some v.0 = subst N e v.1 in
    let same : w.node ≡ v.0 = let here : node_at c.nodes id ≡ Some w.node = w.at in cc in
    let W : Plain → Type 0 = λ p. is_member (waiting_tickets p) k ≡ true in
    let now : is_member (waiting_tickets v.0) k ≡ true = subst W same w.waits in
    none_waits v.0.waiting_updates v.0.waiting_reads k serving.updates serving.reads now)
    (λ (ne : x ≢ id). nothing_waits c ids id k a.1 (in_rest x id ids ne m) w)
    (cases_eq x id)

pub asks_answered : (chain : ℕ) (run : Run) (count id ticket : ℕ) → IsTypedRunOf chain run → AllRun (chain_after_moves chain run) → SomeReady (chain_after_moves chain run)
    → HaveNumbersFor (suc (suc count)) (rounds_to_recover (chain_after_moves chain run)) (chain_after_moves chain run)
    → is_member (chain_after_moves chain run).members id ≡ true → AskWaits (chain_after_moves chain run) id ticket
    → AnsweredInRounds (suc (suc count)) (rounds_to_recover (chain_after_moves chain run)) (chain_after_moves chain run) id ticket
asks_answered chain run count id ticket typed all some numbers member w =
    let h : ℕ = suc (suc count) in
    let c : Chain = chain_after_moves chain run in
    let n : ℕ = rounds_to_recover c in
    let d : Chain = after_rounds after_move h n c in
    let on : Onward c d = onward_rounds h n c in
    let recovered : HasRecovered d = recover_in_rounds chain run count typed all some numbers in
    let M : List ℕ → Type 0 = λ l. is_member l id ≡ true in
    ⊎_elim
    (λ (v : AskWaits d id ticket). absurd (nothing_waits d d.members id ticket recovered (subst M (sym on.members) member) v))
    (λ (a : AnsweredInRounds h n c id ticket). a)
    (rounds_fate h n c id ticket (good_run chain run typed.run_of) w)
