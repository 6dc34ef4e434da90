-- The content of a step's outputs: replies, version queries, and versions.
use Rattle.std.proofs.Common.{◌≡◌, ℕ, ◌==◌, nat_le, cond, List, [], ◌∷◌, ◌++◌, map, Option, Some, None, refl}
use Rattle.std.specs.Prelude.{⊤}
use Rattle.std.specs.List.{AllByRecursion}
use Rattle.std.proofs.lemmas.Bool.{cond_both}
use Rattle.craq_commands.specs.declared.entry.Entry.{Entry}
use Rattle.craq_model.specs.declared.message.Body.{Body}
use Rattle.craq_model.specs.declared.message.Body.TheVariants as bodies
use Rattle.craq_model.specs.declared.message.StatePart.{StatePart}
use Rattle.craq_model.specs.Parts.{item_count, parts_of}
use Rattle.craq_names.specs.Limits.{part_limit}
use Rattle.craq_commands.specs.declared.state.State.{State}
use Rattle.craq_model.specs.declared.ask.Answer.{Answer}
use Rattle.craq_model.specs.declared.step.Out.{Out}
use Rattle.craq_model.specs.declared.step.Out.TheVariants as outs
use Rattle.craq_model.specs.declared.waiting.WaitingRead.{WaitingRead}
use Rattle.craq_model.specs.Members.{last_of}
use Rattle.craq_model.specs.Plain.{Plain, id_of, successor, predecessor, is_last, length_of, entries_after}
use Rattle.craq_model.specs.Sends.{send, send_all, to_neighbour, runs_of, run_body, entry_bodies, copy_bodies, catch_up, queries, ready_sends, unready_sends, tick_sends}
use Rattle.craq_model.specs.Settle.{Given, answer_outs}

-- the content of a message: Q of a query's sender, ticket and key; V of a version's receiver,
-- ticket and version
abbrev pub Says : (ℕ → ℕ → List ℕ → Type 0) → (ℕ → ℕ → ℕ → Type 0) → ℕ → ℕ → Body → Type 0
Says Q V sender receiver (bodies.Config members) = ⊤
Says Q V sender receiver (bodies.Entry e) = ⊤
Says Q V sender receiver (bodies.Ack position) = ⊤
Says Q V sender receiver (bodies.Query ticket key) = Q sender ticket key
Says Q V sender receiver (bodies.VersionIs ticket version) = V receiver ticket version
Says Q V sender receiver (bodies.Blank count) = ⊤
Says Q V sender receiver (bodies.Batch es) = ⊤
Says Q V sender receiver (bodies.Copy position state) = ⊤
Says Q V sender receiver (bodies.Part part) = ⊤
Says Q V sender receiver (bodies.Floor count) = ⊤

-- the content of outputs: each message goes to its receiver; G of a reply's ticket and the reply
abbrev pub AllReported : (ℕ → Answer → Type 0) → (ℕ → ℕ → List ℕ → Type 0) → (ℕ → ℕ → ℕ → Type 0) → List Out → Type 0
AllReported G Q V [] = ⊤
AllReported G Q V (outs.Send to m ∷ os) = ((to ≡ m.receiver) × Says Q V m.sender m.receiver m.body) × AllReported G Q V os
AllReported G Q V (outs.Answer ticket answer ∷ os) = G ticket answer × AllReported G Q V os

module _ (G : ℕ → Answer → Type 0) (Q : ℕ → ℕ → List ℕ → Type 0) (V : ℕ → ℕ → ℕ → Type 0) where
  pub reported_both : (os ps : List Out) → AllReported G Q V os → AllReported G Q V ps → AllReported G Q V (os ++ ps)
  reported_both [] ps a b = b
  reported_both (outs.Send to m ∷ os) ps a b = (a.0, reported_both os ps a.1 b)
  reported_both (outs.Answer ticket answer ∷ os) ps a b = (a.0, reported_both os ps a.1 b)

  pub reported_answers : (gs : List Given) → AllByRecursion (λ (g : Given). G g.0 g.1) gs → AllReported G Q V (answer_outs gs)
  reported_answers [] a = tt
  reported_answers (g ∷ gs) a = (a.0, reported_answers gs a.1)

  pub reported_sends : (p : Plain) (to : ℕ) (bs : List Body) → AllByRecursion (Says Q V (id_of p) to) bs → AllReported G Q V (send_all p to bs)
  reported_sends p to [] a = tt
  reported_sends p to (b ∷ bs) a = ((refl, a.0), reported_sends p to bs a.1)

  pub reported_neighbour : (o : Option ℕ) (sends : ℕ → List Out) → ((to : ℕ) → AllReported G Q V (sends to)) → AllReported G Q V (to_neighbour o sends)
  reported_neighbour None sends f = tt
  reported_neighbour (Some to) sends f = f to

  says_run : (id to : ℕ) (es : List Entry) → Says Q V id to (run_body es)
  says_run id to [] = tt
  says_run id to (e ∷ []) = tt
  says_run id to (e ∷ f ∷ es) = tt

  says_runs : (id to : ℕ) (runs : List (List Entry)) → AllByRecursion (Says Q V id to) (map run_body runs)
  says_runs id to [] = tt
  says_runs id to (es ∷ runs) = (says_run id to es, says_runs id to runs)

  pub says_entry_bodies : (id to : ℕ) (es : List Entry) → AllByRecursion (Says Q V id to) (entry_bodies es)
  unfolding entry_bodies
  says_entry_bodies id to es = says_runs id to (runs_of es)

  says_parts : (id to : ℕ) (parts : List StatePart) → AllByRecursion (Says Q V id to) (map bodies.Part parts)
  says_parts id to [] = tt
  says_parts id to (part ∷ parts) = (tt, says_parts id to parts)

  pub says_copy_bodies : (id to position : ℕ) (state : State) → AllByRecursion (Says Q V id to) (copy_bodies position state)
  unfolding copy_bodies
  says_copy_bodies id to position state =
      cond_both (nat_le (item_count state) part_limit) (bodies.Copy position state ∷ []) (map bodies.Part (parts_of position state)) (λ (bs : List Body). AllByRecursion (Says Q V id to) bs)
      (λ e. (tt, tt))
      (λ e. says_parts id to (parts_of position state))

  says_more : (id to : ℕ) (bs cs : List Body) → AllByRecursion (Says Q V id to) bs → AllByRecursion (Says Q V id to) cs → AllByRecursion (Says Q V id to) (bs ++ cs)
  says_more id to [] cs a b = b
  says_more id to (x ∷ bs) cs a b = (a.0, says_more id to bs cs a.1 b)

  pub says_catch_up : (p : Plain) (position id to : ℕ) → AllByRecursion (Says Q V id to) (catch_up p position)
  unfolding catch_up
  says_catch_up p position id to = says_more id to (entry_bodies (entries_after p position)) (bodies.Floor (length_of p) ∷ []) (says_entry_bodies id to (entries_after p position)) (tt, tt)

  reported_queries : (p : Plain) (rs : List WaitingRead) → AllByRecursion (λ (r : WaitingRead). Q (id_of p) r.ticket r.key) rs
      → AllReported G Q V (map (λ (r : WaitingRead). send p (last_of p.members) (bodies.Query r.ticket r.key)) rs)
  reported_queries p [] a = tt
  reported_queries p (r ∷ rs) a = ((refl, a.0), reported_queries p rs a.1)

  reported_ready : (p : Plain) → AllByRecursion (λ (r : WaitingRead). Q (id_of p) r.ticket r.key) p.waiting_reads → AllReported G Q V (ready_sends p)
  unfolding ready_sends
  reported_ready p a =
      let first : List Out = to_neighbour (successor p) (λ to. send_all p to (catch_up p p.past.acknowledged)) in
      let second : List Out = to_neighbour (predecessor p) (λ to. send p to (bodies.Ack p.past.acknowledged) ∷ []) in
      let third : List Out = cond (is_last p) [] (queries p) in
      reported_both (first ++ second) third
      (reported_both first second
      (reported_neighbour (successor p) (λ to. send_all p to (catch_up p p.past.acknowledged)) (λ to. reported_sends p to (catch_up p p.past.acknowledged) (says_catch_up p p.past.acknowledged (id_of p) to)))
      (reported_neighbour (predecessor p) (λ to. send p to (bodies.Ack p.past.acknowledged) ∷ []) (λ to. ((refl, tt), tt))))
      (cond_both (is_last p) [] (queries p) (λ (os : List Out). AllReported G Q V os) (λ e. tt) (λ e. reported_queries p p.waiting_reads a))

  reported_unready : (p : Plain) → AllReported G Q V (unready_sends p)
  unfolding unready_sends
  reported_unready p = reported_neighbour (predecessor p) (λ to. send p to (bodies.Blank (length_of p)) ∷ []) (λ to. ((refl, tt), tt))

  pub reported_tick : (p : Plain) → AllByRecursion (λ (r : WaitingRead). Q (id_of p) r.ticket r.key) p.waiting_reads → AllReported G Q V (tick_sends p)
  unfolding tick_sends
  reported_tick p a =
      cond_both (p.epoch == 0) [] (cond p.ready (ready_sends p) (unready_sends p)) (λ (os : List Out). AllReported G Q V os)
      (λ e. tt)
      (λ e. cond_both p.ready (ready_sends p) (unready_sends p) (λ (os : List Out). AllReported G Q V os) (λ r. reported_ready p a) (λ r. reported_unready p))
