-- Each reply of a node's step has the properties that its request demands.
use Rattle.std.proofs.Common.{◌≡◌, ⊎_elim, ℕ, ◌-◌, ◌≤◌, true, List, length, Some, ap, sym, subst, ◌∙◌, arith}
use Rattle.std.proofs.Math.Seq.{take-length}
use Rattle.craq_commands.specs.declared.entry.Entry.{Entry}
use Rattle.craq_commands.specs.declared.read_mode.ReadMode.TheVariants.{Strong}
use Rattle.craq_commands.specs.Objects.{object_of}
use Rattle.craq_commands.specs.declared.state.State.{State}
use Rattle.craq_commands.specs.SingleCopy.{opening_state, said, after_entries}
use Rattle.craq_model.specs.declared.ask.Ask.{Ask}
use Rattle.craq_model.specs.declared.ask.Ask.TheVariants as asks
use Rattle.craq_model.specs.declared.ask.Answer.{Answer}
use Rattle.craq_model.specs.declared.ask.Answer.TheVariants as answers
use Rattle.craq_model.specs.declared.waiting.WaitingUpdate.{WaitingUpdate}
use Rattle.craq_model.specs.Plain.{Plain, id_of, is_tail, newest_object}
use Rattle.craq_model.specs.Settle.{read_answer}
use Rattle.craq_protocol.specs.Machine.{MachineState}
use Rattle.craq_protocol.specs.Promises.{IsPrefix, IsSafe}
use Rattle.craq_protocol.proofs.Prefix.{prefix_self}
use Rattle.craq_protocol.proofs.Reached.{reached_safe}
use Rattle.craq_runs.specs.Chain.{node_at}
use Rattle.craq_runs.specs.Seen.{Asked, ask_with}
use Rattle.craq_runs.specs.Explain.{Account}
use Rattle.craq_refinement.specs.Follows.{seen_of, NodeFollows}
use Rattle.craq_updates.proofs.Lens.{AreLens}
use Rattle.craq_updates.proofs.Updates.{numbers_of, numbers_length}
use Rattle.craq_updates.proofs.Commits.{tail_seen}
use Rattle.craq_updates.proofs.Known.{Known}
use Rattle.craq_strong_answers.proofs.Gives.{MayAnswer}
use Rattle.craq_strong_answers.proofs.Stands.{state_after, before, PendingUpdate, AskedRead, PendingRead, ReportedVersion, Owed, IsAnswer}
use Rattle.craq_strong_answers.proofs.Stays.{state_stays}
use Rattle.craq_strong_answers.proofs.Nodes.{holds_log, Holds, node_holds}

-- the predicates of a step at a node, in the account and the world after it
abbrev pub Answered : Account → MachineState Entry → (List ℕ → ℕ) → ℕ → ℕ → Answer → Type 0
Answered b v position id ticket answer = IsAnswer b v position id ticket answer

abbrev pub Questions : Account → ℕ → ℕ → List ℕ → Type 0
Questions b sender ticket key = AskedRead b sender ticket key

abbrev pub Versions : Account → MachineState Entry → ℕ → ℕ → ℕ → Type 0
Versions b v receiver ticket version = ReportedVersion b v receiver ticket version (length v.log)

-- an answer holds for the request of its ticket
pub owed_by : (b : Account) (v : MachineState Entry) (position : List ℕ → ℕ) (id ticket : ℕ) (answer : Answer) (ask : Asked) (kind : Ask) → ask_with b.asks id ticket ≡ Some ask → ask.ask ≡ kind → Owed b v position id ticket ask kind answer
    → IsAnswer b v position id ticket answer
owed_by b v position id ticket answer ask kind found is o =
    let P : Ask → Type 0 = λ k. Owed b v position id ticket ask k answer in record { ask = ask; is_ask = found; owed = subst P (sym is) o }

-- a pending update is answered, once its place is committed at a node that holds the log
update_answered : (b : Account) (v : MachineState Entry) (position : List ℕ → ℕ) (id : ℕ) (u : WaitingUpdate) → (d : PendingUpdate b v id u) → IsPrefix v.log (v.history id) → d.place.position ≤ length v.log → u.position ≤ v.acknowledged id
    → IsAnswer b v position id u.ticket (answers.Update u.reply)
update_answered b v position id u d l le known =
    owed_by b v position id u.ticket (answers.Update u.reply) d.ask (asks.Update d.update) d.is_ask d.is (record {
      place = d.place;
      pending = d.pending;
      not_before = d.not_before;
      not_beyond = le;
      is_said = ap (λ (s : State). said s d.update.client d.update.number) (sym (state_stays d.place.position v.log (v.history id) l le)) ∙ d.is_said;
      known = u.position;
      acknowledged = known;
      is_known = d.is_newest;
    })

-- the number committed before a request is at most the length of the log
pub before_log : (b : Account) (v : MachineState Entry) → Known b v → (ask : Asked) → before b ask ≤ length v.log
before_log b v k ask =
    let l : AreLens b.chain.moves b.lens (numbers_of b.asks b.committed) = k.lens in
    let count : length (numbers_of b.asks b.committed) ≡ length b.committed = numbers_length b.asks b.committed in
    let same : length b.committed ≡ length v.log = ap length k.committed in
    omega (arith, l.within (ask.move - 1), count, same)

-- a node of the chain after the step
pub record At (b : Account) (v : MachineState Entry) (id : ℕ) (q : Plain) : Type 0 where
  pub known : Known b v
  pub at : node_at b.chain.nodes id ≡ Some q
  pub same : id_of q ≡ id

pub at_node : (b : Account) (v : MachineState Entry) (id : ℕ) (q : Plain) → At b v id q → NodeFollows v (seen_of q)
at_node b v id q h = let k : Known b v = h.known in let f : _ = k.follows in f.nodes id q h.at

pub at_holds : (b : Account) (v : MachineState Entry) (id : ℕ) (q : Plain) → At b v id q → Holds b.asks v q (v.history id)
at_holds b v id q h =
    let k : Known b v = h.known in
    let P : ℕ → Type 0 = λ j. Holds b.asks v q (v.history j) in
    let held : _ = k.held in
    subst P h.same (node_holds b.asks v q k.reached k.numbered (held.histories (id_of q)) (at_node b v id q h))

pub at_running : (b : Account) (v : MachineState Entry) (id : ℕ) (q : Plain) → At b v id q → q.running ≡ true → v.running id ≡ true
at_running b v id q h u = let n : NodeFollows v (seen_of q) = at_node b v id q h in let P : ℕ → Type 0 = λ j. v.running j ≡ q.running in subst P h.same n.running ∙ u

-- a tail's history is the log
pub at_tail : (b : Account) (v : MachineState Entry) (id : ℕ) (q : Plain) → At b v id q → q.running ≡ true → is_tail q ≡ true → v.history id ≡ v.log
at_tail b v id q h u t =
    let k : Known b v = h.known in
    let s : IsSafe v = reached_safe k.reached in
    s.tail id (tail_seen k.follows k.reached id q h.same h.at u ∙ t)

-- the newest object of a tail is that of the log
pub tail_object : (b : Account) (v : MachineState Entry) (id : ℕ) (q : Plain) (key : List ℕ) → At b v id q → q.running ≡ true → is_tail q ≡ true → object_of (state_after (length v.log) v.log).objects key ≡ newest_object q key
tail_object b v id q key h u t =
    let o : Holds b.asks v q (v.history id) = at_holds b v id q h in
    ap (λ l. object_of (after_entries opening_state l).objects key) (take-length v.log ∙ sym (at_tail b v id q h u t)) ∙ sym (ap (λ (s : State). object_of s.objects key) o.newest_is)

-- without a report of a tail, a read is placed after all that is committed
pub may_answer : (b : Account) (v : MachineState Entry) (id : ℕ) (q : Plain) (position : List ℕ → ℕ) → At b v id q → q.running ≡ true → ((key : List ℕ) → position key ≡ length v.log)
    → MayAnswer (PendingUpdate b v id) (PendingRead b v id) (Answered b v position id) (Questions b) (Versions b v) q
may_answer b v id q position h u last =
    let k : Known b v = h.known in
    record {
      tail_updates = λ t x d.
          let same : v.history id ≡ v.log = at_tail b v id q h u t in
          let P : List Entry → Type 0 = λ l. IsPrefix v.log l in
          let long : length (v.history id) ≡ length v.log = ap length same in
          let s : IsSafe v = reached_safe k.reached in
          let knows : v.acknowledged id ≡ length (v.history id) = s.tail_knows id (tail_seen k.follows k.reached id q h.same h.at u ∙ t) in
          update_answered b v position id x d (subst P (sym same) (prefix_self v.log)) (omega (arith, d.held, long)) (omega (arith, d.newest, knows));
      tail_reads = λ t r d.
          let a : AskedRead b id r.ticket r.key = d.asked in
          let object : ℕ × List ℕ = newest_object q r.key in
          let place : position a.object.key ≡ length v.log = last a.object.key in
          let P : List ℕ → Type 0 = λ key. object_of (state_after (length v.log) v.log).objects key ≡ object in
          let here : object_of (state_after (length v.log) v.log).objects a.object.key ≡ object = subst P (sym a.key_is) (tail_object b v id q r.key h u t) in
          let Q : ℕ → Type 0 = λ n. object_of (state_after n v.log).objects a.object.key ≡ object in
          owed_by b v position id r.ticket (read_answer object) a.ask (asks.Read Strong a.object) a.is_ask a.is (record {
            not_before = omega (arith, before_log b v k a.ask, place);
            not_beyond = omega (arith, place);
            begins = let L : List Entry → Type 0 = λ l. IsPrefix v.log l in subst L (sym (at_tail b v id q h u t)) (prefix_self v.log);
            is_said = subst Q (sym place) here;
          });
      acknowledged = λ ready x d le.
          let o : Holds b.asks v q (v.history id) = at_holds b v id q h in
          let l : IsPrefix v.log (v.history id) = holds_log v id k.reached d.ready (at_running b v id q h u) in
          let f : NodeFollows v (seen_of q) = at_node b v id q h in
          let A : ℕ → Type 0 = λ j. v.acknowledged j ≡ q.past.acknowledged in
          let knows : v.acknowledged id ≡ q.past.acknowledged = subst A h.same f.acknowledged in
          update_answered b v position id x d l (⊎_elim (λ a. omega (arith, a, le, o.committed)) (λ a. a) d.reached) (omega (arith, le, knows));
    }
