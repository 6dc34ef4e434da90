-- A node may send the messages that it repeats at a tick.
use Rattle.std.proofs.Common.{◌≡◌, ℕ, ◌+◌, ◌-◌, ◌*◌, ◌==◌, true, cond, List, [], ◌∷◌, ◌++◌, map, take, drop, length, Option, Some, None, refl, sym, subst, ◌∙◌, arith}
use Rattle.std.proofs.lemmas.Bool.{cond_both}
use Rattle.std.specs.List.{AllByRecursion, range_with_len}
use Rattle.std.specs.Slice.Iter.{chunk_count}
use Rattle.craq_names.proofs.Lists.{all_append, all_map, all_drop, all_take, all_each}
use Rattle.craq_commands.specs.declared.entry.Entry.{Entry}
use Rattle.craq_model.specs.declared.message.Body.{Body}
use Rattle.craq_model.specs.declared.message.Body.TheVariants as bodies
use Rattle.craq_model.specs.declared.step.Out.{Out}
use Rattle.craq_model.specs.declared.step.Out.TheVariants as outs
use Rattle.craq_model.specs.Members.{last_of}
use Rattle.craq_model.specs.declared.waiting.WaitingRead.{WaitingRead}
use Rattle.craq_model.specs.Plain.{Plain, id_of, successor, predecessor, is_last, length_of, entries_after}
use Rattle.craq_model.specs.Sends.{send, send_all, to_neighbour, runs_of, run_body, entry_bodies, catch_up, queries, ready_sends, unready_sends, tick_sends}
use Rattle.craq_model.specs.Settle.{Given, answer_outs}
use Rattle.craq_protocol.specs.Members.{is_next}
use Rattle.craq_protocol.specs.Machine.{MachineState, known_membership}
use Rattle.craq_runs.specs.Chain.{sent_in}
use Rattle.craq_refinement.specs.Follows.{IsPlaced, seen_of, NodeFollows}
use Rattle.craq_refinement.proofs.Members.{next_from_successor, next_from_predecessor}
use Rattle.craq_refinement.proofs.Lists.{placed_take, placed_back, placed_entries}
use Rattle.craq_refinement.proofs.Rows.{placed_drop}
use Rattle.craq_refinement.proofs.Worlds.{history_length}
use Rattle.craq_refinement.proofs.Sends.{IsAt, BodySendable, Sendable}

-- each message among the outputs may be sent
abbrev pub AllSendable : MachineState Entry → ℕ → List Out → Type 0
AllSendable v id os = AllByRecursion (Sendable v id) (sent_in os)

pub sendable_both : (v : MachineState Entry) (id : ℕ) (os ps : List Out) → AllSendable v id os → AllSendable v id ps → AllSendable v id (os ++ ps)
unfolding sent_in
sendable_both v id [] ps a b = b
sendable_both v id (outs.Send to m ∷ os) ps a b = (a.0, sendable_both v id os ps a.1 b)
sendable_both v id (outs.Answer ticket answer ∷ os) ps a b = sendable_both v id os ps a b

pub sendable_answers : (v : MachineState Entry) (id : ℕ) (gs : List Given) → AllSendable v id (answer_outs gs)
unfolding sent_in
sendable_answers v id [] = tt
sendable_answers v id (g ∷ gs) = sendable_answers v id gs

pub sendable_one : {v : MachineState Entry} (q : Plain) → NodeFollows v (seen_of q) → (to : ℕ) (b : Body) → BodySendable v (id_of q) to b → AllSendable v (id_of q) (send q to b ∷ [])
unfolding sent_in
sendable_one q n to b a = ((refl, sym n.epoch, a), tt)

pub sendable_all : {v : MachineState Entry} (q : Plain) → NodeFollows v (seen_of q) → (to : ℕ) (bs : List Body) → AllByRecursion (BodySendable v (id_of q) to) bs → AllSendable v (id_of q) (send_all q to bs)
unfolding sent_in
sendable_all q n to [] a = tt
sendable_all q n to (b ∷ bs) a = ((refl, sym n.epoch, a.0), sendable_all q n to bs a.1)

pub sendable_neighbour : (v : MachineState Entry) (id : ℕ) (o : Option ℕ) (sends : ℕ → List Out) → ((to : ℕ) → o ≡ Some to → AllSendable v id (sends to)) → AllSendable v id (to_neighbour o sends)
unfolding sent_in
sendable_neighbour v id None sends f = tt
sendable_neighbour v id (Some to) sends f = f to refl

-- the neighbours in the world
pub next_after : {v : MachineState Entry} (q : Plain) → NodeFollows v (seen_of q) → (to : ℕ) → successor q ≡ Some to → is_next (known_membership v (id_of q)) (id_of q) to ≡ true
next_after {v} q n to h = let P : List ℕ → Type 0 = λ c. is_next c (id_of q) to ≡ true in subst P (sym n.members) (next_from_successor q.members (id_of q) to h)

pub next_before : {v : MachineState Entry} (q : Plain) → NodeFollows v (seen_of q) → (to : ℕ) → predecessor q ≡ Some to → is_next (known_membership v (id_of q)) to (id_of q) ≡ true
next_before {v} q n to h = let P : List ℕ → Type 0 = λ c. is_next c to (id_of q) ≡ true in subst P (sym n.members) (next_from_predecessor q.members (id_of q) to h)

-- the entries that a node holds are at their positions
pub held_placed : {v : MachineState Entry} (q : Plain) → NodeFollows v (seen_of q) → IsPlaced q.past.base q.past.entries
held_placed {v} q n =
    let P : List Entry → Type 0 = λ l. IsPlaced 0 l in
    let same : 0 + length n.history.front ≡ q.past.base = omega (arith, n.history.count) in
    let R : ℕ → Type 0 = λ k. IsPlaced k q.past.entries in
    subst R same (placed_back 0 n.history.front q.past.entries (subst P (sym n.history.whole) n.placed))

pub entries_at : {v : MachineState Entry} (q : Plain) → NodeFollows v (seen_of q) → AllByRecursion (IsAt (v.history (id_of q))) q.past.entries
entries_at {v} q n =
    let R : ℕ → Type 0 = λ k. IsPlaced k q.past.entries in
    let Q : List Entry → Type 0 = λ l. AllByRecursion (IsAt l) q.past.entries in
    subst Q n.history.whole (placed_entries n.history.front q.past.entries (subst R (sym n.history.count) (held_placed q n)))

-- consecutive entries may be sent in batches
run_sendable : (v : MachineState Entry) (id to : ℕ) → is_next (known_membership v id) id to ≡ true → (before : ℕ) (es : List Entry) → IsPlaced before es → AllByRecursion (IsAt (v.history id)) es
    → BodySendable v id to (run_body es)
run_sendable v id to nx before [] p a = (nx, (before, p), a)
run_sendable v id to nx before (e ∷ []) p a = (nx, a.0)
run_sendable v id to nx before (e ∷ f ∷ es) p a = (nx, (before, p), a)

pub runs_sendable : (v : MachineState Entry) (id to : ℕ) → is_next (known_membership v id) id to ≡ true → (before : ℕ) (es : List Entry) → IsPlaced before es → AllByRecursion (IsAt (v.history id)) es
    → AllByRecursion (BodySendable v id to) (entry_bodies es)
unfolding entry_bodies runs_of
runs_sendable v id to nx before es p a =
    let B : Body → Type 0 = BodySendable v id to in
    let run : ℕ → List Entry = λ i. take 16 (drop (16 * i) es) in
    let is : List ℕ = range_with_len 0 (chunk_count (length es) 16) in
    all_map B run_body (map run is)
    (all_map (λ (l : List Entry). B (run_body l)) run is
    (all_each (λ i. B (run_body (run i))) is
    (λ i. run_sendable v id to nx (before + 16 * i) (run i) (placed_take (before + 16 * i) 16 (drop (16 * i) es) (placed_drop before (16 * i) es p))
    (all_take (IsAt (v.history id)) 16 (drop (16 * i) es) (all_drop (IsAt (v.history id)) (16 * i) es a)))))

pub catch_up_sendable : {v : MachineState Entry} (q : Plain) → NodeFollows v (seen_of q) → q.ready ≡ true → (position to : ℕ) → is_next (known_membership v (id_of q)) (id_of q) to ≡ true
    → AllByRecursion (BodySendable v (id_of q) to) (catch_up q position)
unfolding catch_up entries_after
catch_up_sendable {v} q n r position to nx =
    let k : ℕ = position - q.past.base in
    let later : List Entry = drop k q.past.entries in
    all_append (BodySendable v (id_of q) to) (entry_bodies later) (bodies.Floor (length_of q) ∷ [])
    (runs_sendable v (id_of q) to nx (q.past.base + k) later (placed_drop q.past.base k q.past.entries (held_placed q n)) (all_drop (IsAt (v.history (id_of q))) k q.past.entries (entries_at q n)))
    ((nx, n.ready ∙ r, history_length n.history), tt)

queries_sendable : {v : MachineState Entry} (q : Plain) → NodeFollows v (seen_of q) → (rs : List WaitingRead)
    → AllSendable v (id_of q) (map (λ (r : WaitingRead). send q (last_of q.members) (bodies.Query r.ticket r.key)) rs)
unfolding sent_in
queries_sendable q n [] = tt
queries_sendable q n (r ∷ rs) = ((refl, sym n.epoch, tt), queries_sendable q n rs)

pub none_sendable : (v : MachineState Entry) (id : ℕ) → AllSendable v id []
unfolding sent_in
none_sendable v id = tt

ready_sendable : {v : MachineState Entry} (q : Plain) → NodeFollows v (seen_of q) → q.ready ≡ true → AllSendable v (id_of q) (ready_sends q)
unfolding ready_sends
ready_sendable {v} q n r =
    let id : ℕ = id_of q in
    let first : List Out = to_neighbour (successor q) (λ to. send_all q to (catch_up q q.past.acknowledged)) in
    let second : List Out = to_neighbour (predecessor q) (λ to. send q to (bodies.Ack q.past.acknowledged) ∷ []) in
    let third : List Out = cond (is_last q) [] (queries q) in
    sendable_both v id (first ++ second) third
    (sendable_both v id first second
    (sendable_neighbour v id (successor q) (λ to. send_all q to (catch_up q q.past.acknowledged))
    (λ to h. sendable_all q n to (catch_up q q.past.acknowledged) (catch_up_sendable q n r q.past.acknowledged to (next_after q n to h))))
    (sendable_neighbour v id (predecessor q) (λ to. send q to (bodies.Ack q.past.acknowledged) ∷ [])
    (λ to h. sendable_one q n to (bodies.Ack q.past.acknowledged) (next_before q n to h, n.acknowledged))))
    (cond_both (is_last q) [] (queries q) (λ (os : List Out). AllSendable v id os) (λ e. none_sendable v id) (λ e. queries_sendable q n q.waiting_reads))

unready_sendable : {v : MachineState Entry} (q : Plain) → NodeFollows v (seen_of q) → AllSendable v (id_of q) (unready_sends q)
unfolding unready_sends
unready_sendable {v} q n =
    sendable_neighbour v (id_of q) (predecessor q) (λ to. send q to (bodies.Blank (length_of q)) ∷ []) (λ to h. sendable_one q n to (bodies.Blank (length_of q)) tt)

pub tick_sendable : {v : MachineState Entry} (q : Plain) → NodeFollows v (seen_of q) → AllSendable v (id_of q) (tick_sends q)
unfolding tick_sends
tick_sendable {v} q n =
    cond_both (q.epoch == 0) [] (cond q.ready (ready_sends q) (unready_sends q)) (λ (os : List Out). AllSendable v (id_of q) os)
    (λ e. none_sendable v (id_of q))
    (λ e. cond_both q.ready (ready_sends q) (unready_sends q) (λ (os : List Out). AllSendable v (id_of q) os) (λ r. ready_sendable q n r) (λ r. unready_sendable q n))
