-- Whatever an event loop does, the states of its connections stay reachable.
use Rattle.std.proofs.Common.{◌≡◌, ◌≢◌, ◌+◌, ◌%◌, ◌^◌, ◌++◌, ◌∙◌, ℕ, length, Bool, true, false, List, [], ◌∷◌, Option, Some, None, Result, Ok, Err, OnOk, OnErr, inl, inr, sym, refl, ap, subst, arith}
use Rattle.std.proofs.lemmas.Bool.{cases_eq}
use Rattle.slab.specs.Slab.{Slab, get, with_value}
use Rattle.slab.proofs.SlabLemmas.{Contains-entries, Updates-with_value, length-entries}
use Rattle.mio.specs.declared.event.event.Event.{Event}
use Rattle.craq_seat.specs.declared.queue_state.Completion.{Completion}
use Rattle.craq_seat.specs.declared.token.CallToken.{CallToken}
use Rattle.craq_event_loop.specs.SubmittedCalls.{Calling, Finishing}
use Rattle.craq_event_loop.specs.Turns.{Refusing}
use Rattle.craq_event_loop.specs.declared.connection_state.ConnectionState.{ConnectionState}
use Rattle.craq_event_loop.specs.declared.connection_state.Stepped.{Stepped}
use Rattle.craq_event_loop.specs.declared.connection_state.Stepped.TheVariants as steps
use Rattle.craq_event_loop.specs.declared.connection.Connection.{Connection}
use Rattle.craq_event_loop.specs.declared.event_loop.LoopConnections.{LoopConnections}
use Rattle.craq_event_loop.specs.Advancing.{HasRound, HasRoundAt, IsLast, IsNoCall, TakeRounds, TakesRound, TakesSteps, gives_way, most_steps, rests, step, under_key}
use Rattle.craq_event_loop.specs.ConnectionStates.{later_calls}
use Rattle.craq_event_loop.specs.Belonging.{DeliversAll, DeliversBrought, DeliversCompletion, GetsCompletions, came_none, came_one, IsNew, OneByOne, OthersStay, StaysVacant, TakesCompletion, Writes}
use Rattle.craq_event_loop.specs.Busy.{HasNone, NoneForgotten}
use Rattle.craq_event_loop.specs.Coming.{AllReported, ChangesRoom, ClosesIfIdle, EndsIdle, TakesIn, key_of}
use Rattle.craq_event_loop.specs.Reaching.{AreReachable, IsReachable, Reaches, begins, completes, sends, receives}
use Rattle.craq_event_loop.specs.Reaching as reaching
use Rattle.craq_event_loop.specs.Serving.{HasRead, HasWritten, ReadsAt, Serves, StaysUnlessDone, WritesAt}

-- a step that finds nothing to do is no call
last_no_call : (stepped : Stepped) → IsLast stepped → IsNoCall stepped
last_no_call steps.Goes last = absurd last
last_no_call (steps.Calls unsent) last = absurd last
last_no_call steps.Starved last = tt
last_no_call steps.Stays last = tt

module _ {S T : Type 0} (P : ConnectionState T → Type 0) where
  -- each of these connections' states has the property
  abbrev pub AllSo : Slab (Connection S T) → Type 0
  AllSo s = (key : ℕ) (c : Connection S T) → get s key ≡ Some c → P c.state

  -- it is kept under a key, and under the others nothing changes
  at_key : (s t : Slab (Connection S T)) (key : ℕ) → ((c d : Connection S T) → get s key ≡ Some c → get t key ≡ Some d → P c.state → P d.state)
      → StaysVacant s t key → AllSo s → (o : Option (Connection S T)) → get s key ≡ o → (d : Connection S T) → get t key ≡ Some d → P d.state
  at_key s t key keeps vacant all None was d here = (let none : get t key ≡ None = vacant was in cc)
  at_key s t key keeps vacant all (Some c) was d here = keeps c d was here (all key c was)

  so_alone : (s t : Slab (Connection S T)) (key : ℕ) → ((c d : Connection S T) → get s key ≡ Some c → get t key ≡ Some d → P c.state → P d.state)
      → StaysVacant s t key → OthersStay s t key → AllSo s → AllSo t
  so_alone s t key keeps vacant others all k d here =
      elim (cases_eq k key) [
        | inl same ↦ at_key s t key keeps vacant all (get s key) refl d (subst (λ (x : ℕ). get t x ≡ Some d) same here)
        | inr differs ↦ all k d (sym (others k differs) ∙ here)
      ]

  so_one_by_one : (happens : Slab (Connection S T) → Slab (Connection S T) → ℕ → Type 0)
      → ((s t : Slab (Connection S T)) (key : ℕ) → happens s t key → (c d : Connection S T) → get s key ≡ Some c → get t key ≡ Some d → P c.state → P d.state)
      → (keys : List ℕ) (s t : Slab (Connection S T)) → OneByOne happens keys s t → AllSo s → AllSo t
  so_one_by_one happens keeps [] s t same all = subst AllSo (sym same) all
  so_one_by_one happens keeps (key ∷ keys) s t (mid, now, later) all =
      so_one_by_one happens keeps keys mid t later (so_alone s mid key (keeps s mid key now.0) now.1 now.2 all)

  -- the state under a key is that of a connection
  so_state : (s t : Slab (Connection S T)) (key : ℕ) (c d : Connection S T) (o : Option (Connection S T)) → get s key ≡ Some c → get t key ≡ Some d → get t key ≡ o
      → (e : Connection S T) → o ≡ Some e → e.state ≡ c.state → P c.state → P d.state
  so_state s t key c d o was here at e is same holds =
      let one : d ≡ e = cc in
      subst P (sym (ap (λ (x : Connection S T). x.state) one ∙ same)) holds

  so_reported : (events : List Event) (s t : Slab (Connection S T)) → AllReported events s t → AllSo s → AllSo t
  so_reported [] s t same all = subst AllSo (sym same) all
  so_reported (event ∷ later) s t (mid, now, after) all =
      so_reported later mid t after (so_alone s mid (key_of event)
      (λ c d was here holds. (let is = now.reported c was in so_state s mid (key_of event) c d (get mid (key_of event)) was here refl _ is refl holds))
      now.vacant now.others all)

  idle_so : (now idle : ℕ) (o : Option (Connection S T)) (d : Connection S T) (n : Option (Connection S T)) → ClosesIfIdle now idle o n → n ≡ Some d
      → ((c : Connection S T) → o ≡ Some c → P c.state) → P d.state
  idle_so now idle None d n closes here all = cc
  idle_so now idle (Some c) d n (inl over) here all = (let one : d ≡ record c { over = true; busy = true } = cc in subst P (sym (ap (λ (x : Connection S T). x.state) one)) (all c refl))
  idle_so now idle (Some c) d n (inr same) here all = (let one : d ≡ c = cc in subst P (sym (ap (λ (x : Connection S T). x.state) one)) (all c refl))

  so_idle : (now idle : ℕ) (s t : Slab (Connection S T)) → EndsIdle now idle s t → AllSo s → AllSo t
  so_idle now idle s t ends all key d here = idle_so now idle (get s key) d (get t key) (ends key) here (all key)

module _ {T R : Type 0} (tells : List ℕ → Type 0) (refuses : Refusing) (submits : CallToken → Calling T) (finishes : Finishing T R) (first : ConnectionState T) (read written : List ℕ) where
  abbrev Reached : ConnectionState T → Type 0
  Reached state = Reaches tells refuses submits finishes first read written state

  steps_reach : (old new : ConnectionState T) (key before count after : ℕ) → TakesSteps tells refuses (under_key submits key) old before count new after → Reached old → Reached new
  steps_reach old new key before count after taken reached = reaching.steps read written old new key before count after reached taken

  round_reaches : (most : ℕ) (old new : ConnectionState T) (key before after : ℕ) → TakesRound most tells refuses (under_key submits key) old before new after → Reached old → Reached new
  round_reaches most old new key before after (rests count mid stepped taken last took same) r =
      steps_reach old new key before (count + 1) after (step count mid new after stepped taken (last_no_call stepped last) took same) r
  round_reaches most old new key before after (gives_way taken) r = steps_reach old new key before most after taken r

  pub has_round_reaches : (most : ℕ) (over : Bool) (old new : ConnectionState T) (key before after : ℕ) → HasRound most tells refuses (under_key submits key) over old before new after → Reached old → Reached new
  has_round_reaches most true old new key before after (same, none) r = subst Reached (sym same) r
  has_round_reaches most false old new key before after round r = round_reaches most old new key before after round r

-- so it is after some completions
pub completed_all : {T R : Type 0} (tells : List ℕ → Type 0) (refuses : Refusing) (submits : CallToken → Calling T) (finishes : Finishing T R) (first : ConnectionState T) (read written : List ℕ) (old new : ConnectionState T)
    → GetsCompletions finishes old new → Reaches tells refuses submits finishes first read written old → Reaches tells refuses submits finishes first read written new
completed_all tells refuses submits finishes first read written old _ came_none r = r
completed_all tells refuses submits finishes first read written old _ (came_one mid new reply before now) r =
    completes read written mid new reply (completed_all tells refuses submits finishes first read written old mid before r) now

module _ {T R : Type 0} (is_new : T → Type 0) (tells : List ℕ → Type 0) (refuses : Refusing) (submits : CallToken → Calling T) (finishes : Finishing T R) where
  abbrev Reachable : ConnectionState T → Type 0
  Reachable state = IsReachable is_new tells refuses submits finishes state

  same_reachable : (old new : ConnectionState T) → new ≡ old → Reachable old → Reachable new
  same_reachable old new same r = subst Reachable (sym same) r

  has_round_reachable : (most : ℕ) (over : Bool) (old new : ConnectionState T) (key before after : ℕ) → HasRound most tells refuses (under_key submits key) over old before new after → Reachable old → Reachable new
  has_round_reachable most over old new key before after round (first, fresh, read, written, reached) =
      (first, fresh, read, written, has_round_reaches tells refuses submits finishes first read written most over old new key before after round reached)

  module _ {S : Type 0} where
    completed_reachable : (number : ℕ) (reply : R) (c d : Connection S T) → TakesCompletion finishes number reply c d → Reachable c.state → Reachable d.state
    completed_reachable number reply c d takes (first, fresh, read, written, reached) =
        elim (cases_eq ((number + length (later_calls c.state.phase)) % 2 ^ 64) c.calls) [
          | inl own ↦ (
              let so = takes.own own in
              (first, fresh, read, written, completed_all tells refuses submits finishes first read written so.0 d.state so.2 (completes read written c.state so.0 reply reached so.1))
              )
          | inr another ↦ same_reachable c.state d.state (takes.another another) (first, fresh, read, written, reached)
        ]

    -- a connection that is under a key is the one that is said to be
    is_it : (s : Slab (Connection S T)) (key : ℕ) (d e : Connection S T) → get s key ≡ Some d → get s key ≡ Some e → e ≡ d
    is_it s key d e here there = cc

    delivered_reachable : (completion : Completion R) (s t : Slab (Connection S T)) → DeliversCompletion finishes completion s t
        → AreReachable is_new tells refuses submits finishes s → AreReachable is_new tells refuses submits finishes t
    delivered_reachable completion s t (delivers, vacant, others) =
        so_alone Reachable s t completion.token.connection (λ c d was here r.
        let took = delivers c was in
        subst (λ (x : Connection S T). Reachable x.state) (is_it t completion.token.connection d (record took.0 { busy = true }) here took.1) (completed_reachable completion.token.call completion.reply c took.0 took.2 r))
        vacant others

    all_reachable : (completions : List (Completion R)) (s t : Slab (Connection S T)) → DeliversAll finishes completions s t
        → AreReachable is_new tells refuses submits finishes s → AreReachable is_new tells refuses submits finishes t
    all_reachable [] s t same r = subst (λ (x : Slab (Connection S T)). AreReachable is_new tells refuses submits finishes x) (sym same) r
    all_reachable (completion ∷ later) s t (mid, before, now) r = delivered_reachable completion mid t now (all_reachable later s mid before r)

    pub brought_reachable : (brings : List (Completion R) → Type 0) (s t : Slab (Connection S T)) → DeliversBrought finishes brings s t
        → AreReachable is_new tells refuses submits finishes s → AreReachable is_new tells refuses submits finishes t
    brought_reachable brings s t (completions, brought, delivered) r = all_reachable _ s t delivered r

    pub rounds_reachable : (keys : List ℕ) (s t : Slab (Connection S T)) → TakeRounds tells refuses submits keys s t
        → AreReachable is_new tells refuses submits finishes s → AreReachable is_new tells refuses submits finishes t
    rounds_reachable keys s t rounds =
        so_one_by_one Reachable (λ mid next key. HasRoundAt most_steps tells refuses submits mid next key)
        (λ s t key has c d was here r.
        let took = has c was in
        subst (λ (x : Connection S T). Reachable x.state) (is_it t key d took.0 here took.1) (has_round_reachable most_steps c.over c.state took.0.state key c.calls took.0.calls took.2 r))
        keys s t rounds

    module _ (remaining contents : S → Option (List ℕ)) (is_over is_dry is_full : S → Type 0) where
      read_reachable : (c d : Connection S T) → HasRead remaining contents is_over is_dry is_full c d → Reachable c.state → Reachable d.state
      read_reachable c d has (first, fresh, read, written, reached) =
          (first, fresh, read ++ has.reads.0, written, receives read written has.reads.0 c.state d.state reached has.reads.2)

      written_reachable : (c d : Connection S T) → HasWritten remaining contents is_over is_dry is_full c d → Reachable c.state → Reachable d.state
      written_reachable c d has (first, fresh, read, written, reached) =
          (first, fresh, read, written ++ has.writes.0, sends read written has.writes.0 c.state d.state reached has.writes.2)

      pub reads_reachable : (keys : List ℕ) (s t : Slab (Connection S T)) → OneByOne (ReadsAt remaining contents is_over is_dry is_full) keys s t
          → AreReachable is_new tells refuses submits finishes s → AreReachable is_new tells refuses submits finishes t
      reads_reachable keys s t reads =
          so_one_by_one Reachable (ReadsAt remaining contents is_over is_dry is_full)
          (λ s t key has c d was here r.
          let took = has c was in
          subst (λ (x : Connection S T). Reachable x.state) (is_it t key d took.0 here took.1) (read_reachable c took.0 took.2 r))
          keys s t reads

      left_reachable : (d e : Connection S T) (o : Option (Connection S T)) → StaysUnlessDone d o → o ≡ Some e → Reachable d.state → Reachable e.state
      left_reachable d e o stays is r =
          let here : StaysUnlessDone d (Some e) = subst (λ (x : Option (Connection S T)). StaysUnlessDone d x) is stays in
          same_reachable d.state e.state (ap (λ (y : Connection S T). y.state) here.1) r

      written_at : (s t : Slab (Connection S T)) (key : ℕ) → WritesAt remaining contents is_over is_dry is_full s t key
          → (c d : Connection S T) → get s key ≡ Some c → get t key ≡ Some d → Reachable c.state → Reachable d.state
      written_at s t key has c d was here r =
          let took = has c was in
          left_reachable took.0 d (get t key) took.2 here (written_reachable c took.0 took.1 r)

      pub one_written_reachable : (s t : Slab (Connection S T)) (key : ℕ) → WritesAt remaining contents is_over is_dry is_full s t key → StaysVacant s t key → OthersStay s t key
          → AreReachable is_new tells refuses submits finishes s → AreReachable is_new tells refuses submits finishes t
      one_written_reachable s t key has vacant others = so_alone Reachable s t key (written_at s t key has) vacant others

      writes_reachable : (keys : List ℕ) (s t : Slab (Connection S T)) → OneByOne (WritesAt remaining contents is_over is_dry is_full) keys s t
          → AreReachable is_new tells refuses submits finishes s → AreReachable is_new tells refuses submits finishes t
      writes_reachable keys s t writes = so_one_by_one Reachable (WritesAt remaining contents is_over is_dry is_full) written_at keys s t writes

      pub served_reachable : (keys : List ℕ) (s t : Slab (Connection S T)) → Serves remaining contents is_over is_dry is_full tells refuses submits keys s t
          → AreReachable is_new tells refuses submits finishes s → AreReachable is_new tells refuses submits finishes t
      served_reachable keys s t (read, stepped, reads, rounds, writes) r =
          writes_reachable keys stepped t writes (rounds_reachable keys read stepped rounds (reads_reachable keys s read reads r))

    -- a connection that is dropped after its last bytes went
    pub ended_reachable : (s : Slab (Connection S T)) (key : ℕ) (c d e : Connection S T) (a b : Option (List ℕ)) → AreReachable is_new tells refuses submits finishes s → get s key ≡ Some c
        → Writes a b c.state d.state → get (with_value s key d) key ≡ Some e → Reachable e.state
    ended_reachable s key c d e a b all was writes here =
        let is : get (with_value s key d) key ≡ Some d = (Updates-with_value s key d (rw was refl)).changed in
        let one : d ≡ e = cc in
        let r = all key c was in
        subst (λ (x : Connection S T). Reachable x.state) one (r.0, r.1, r.2, r.3 ++ writes.0, sends r.2 r.3 writes.0 c.state d.state r.4 writes.2)

    -- a new connection
    new_reachable : (c : Connection S T) → IsNew c → is_new c.state.session → Reachable c.state
    new_reachable c new fresh = (c.state, fresh, [], [], begins new.nothing_came new.idle)

    module _ {P : Type 0} (m n : LoopConnections S T P) where
      taken_reachable : (stream : S) (session : T) (slot receipts : ℕ) → is_new session → TakesIn stream session slot receipts m n
          → AreReachable is_new tells refuses submits finishes m.connections → AreReachable is_new tells refuses submits finishes n.connections
      taken_reachable stream session slot receipts fresh taken r key d here =
          elim (cases_eq key taken.key) [
            | inl same ↦ (
                let there : get n.connections taken.key ≡ Some d = subst (λ (k : ℕ). get n.connections k ≡ Some d) same here in
                let one : record (taken.connection) { busy = true } ≡ d = is_it n.connections taken.key d _ there taken.here in
                subst (λ (x : Connection S T). Reachable x.state) one (new_reachable taken.connection taken.is_new (subst is_new (sym taken.came_as.same_session) fresh))
                )
            | inr differs ↦ r key d (sym (taken.others key differs) ∙ here)
          ]

      grown_reachable : ChangesRoom m n → AreReachable is_new tells refuses submits finishes m.connections → AreReachable is_new tells refuses submits finishes n.connections
      grown_reachable grown r key d here = r key d (sym (grown.connections key) ∙ here)

      pub either_reachable : {E : Type 0} (stream : S) (session : T) (slot receipts : ℕ) → is_new session → (came : Result (Unit {0}) E) → OnOk came (NoneForgotten m → TakesIn stream session slot receipts m n)
          → OnErr came (ChangesRoom m n) → NoneForgotten m → AreReachable is_new tells refuses submits finishes m.connections → AreReachable is_new tells refuses submits finishes n.connections
      either_reachable stream session slot receipts fresh (Ok u) taken grown k r = taken_reachable stream session slot receipts fresh (taken k) r
      either_reachable stream session slot receipts fresh (Err e) taken grown k r = grown_reachable grown r

    pub looked_reachable : {P : Type 0} (m n : LoopConnections S T P) (now : ℕ) → (now ≢ m.now → EndsIdle now m.idle m.connections n.connections) → (now ≡ m.now → n ≡ m)
        → AreReachable is_new tells refuses submits finishes m.connections → AreReachable is_new tells refuses submits finishes n.connections
    looked_reachable {P = P} m n now ends same r =
        elim (cases_eq now m.now) [
          | inl is ↦ subst (λ (x : LoopConnections S T P). AreReachable is_new tells refuses submits finishes x.connections) (sym (same is)) r
          | inr differs ↦ so_idle Reachable now m.idle m.connections n.connections (ends differs) r
        ]

    pub reported_reachable : (events : List Event) (s t : Slab (Connection S T)) → AllReported events s t
        → AreReachable is_new tells refuses submits finishes s → AreReachable is_new tells refuses submits finishes t
    reported_reachable events s t reported r = so_reported Reachable events s t reported r

    -- where there is no connection
    pub none_reachable : {P : Type 0} (m : LoopConnections S T P) → HasNone m → AreReachable is_new tells refuses submits finishes m.connections
    none_reachable m none key c here =
        let found = (Contains-entries m.connections key c).1 here in
        absurd (omega (arith, found.1, length-entries m.connections, none.0))
