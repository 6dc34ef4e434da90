-- The connections of a thread as some come, events tell of some, and some are left idle.
use Rattle.std.proofs.Common.{◌≡◌, ◌≢◌, ◌≤◌, ◌<◌, ◌+◌, ◌++◌, ℕ, Bool, true, false, List, [], ◌∷◌, length, map, get_or, count_by, Option, Some, None, is_some, Result, Ok, Err, OnErr, OnOk, Vec, vec_capacity, refl, sym, ap, ◌∙◌, subst, inl, inr, arith}
use Rattle.std.specs.VecDeque.{deque_capacity}
use Rattle.std.specs.declared.alloc.Global.{Global}
use Rattle.std.specs.declared.collections.VecDeque.{VecDeque}
use Rattle.std.proofs.lemmas.Bool.{cases_eq, cases_lt}
use Rattle.std.proofs.lemmas.List.{append_assoc, get_or_past, map-append}
use Rattle.slab.specs.Slab.{SameValues, Slab, get, slab_len}
use Rattle.mio.specs.declared.event.event.Event.{Event}
use Rattle.craq_event_loop.specs.declared.connection.Connection.{Connection}
use Rattle.craq_event_loop.specs.declared.event_loop.LoopConnections.{LoopConnections}
use Rattle.craq_event_loop.specs.Belonging.{OthersStay, StaysVacant, Wakes}
use Rattle.craq_event_loop.specs.Busy.{IsIdle, ListsMarked, MarksBehind, NoneForgotten}
use Rattle.craq_event_loop.specs.Coming.{AllReported, ChangesRoom, EndsIdle, ClosesIfIdle, LooksAt, NoticesAt, PresentStay, TakesIn, TellsOf, key_of}
use Rattle.craq_event_loop.specs.Readiness.{noticed}
use Rattle.craq_event_loop.proofs.Busy.{behind_same, listed_grown, listed_inserted, listed_still, marks_alone}
use Rattle.craq_event_loop.proofs.Marks.{behind_woken}

-- an iterator went on by one
pub gone_on : {X Y : Type 0} (f : X → Y) (before : List X) (x : X) (left rest all : List Y) → map f before ++ left ≡ all → left ≡ f x ∷ rest
    → map f (before ++ x ∷ []) ++ rest ≡ all
gone_on {X} {Y} f before x left rest all is next =
    ap (λ (ys : List Y). ys ++ rest) (map-append f before (x ∷ []))
    ∙ append_assoc (map f before) (f x ∷ []) rest
    ∙ sym (ap (λ (ys : List Y). map f before ++ ys) next) ∙ is

module _ {S T : Type 0} where
  -- the list stays right where an event tells of a connection
  pub listed_noticed : (s t : Slab (Connection S T)) (busy : Vec ℕ Global) (behind : VecDeque ℕ Global) (key : ℕ) (event : Event) → ListsMarked s busy behind
      → NoticesAt event s t key → StaysVacant s t key → OthersStay s t key → ListsMarked t busy behind
  listed_noticed s t busy behind key event l reported vacant others =
      listed_still s t busy behind
      (marks_alone s t key (λ c here. (record c { readiness = noticed c.readiness event }, reported c here, refl)) vacant others) l

  -- an event wakes its connection
  pub reported_and_woken : (s t u : Slab (Connection S T)) (key : ℕ) (event : Event) → key ≡ key_of event → NoticesAt event s t key → StaysVacant s t key
      → OthersStay s t key → Wakes t u key → StaysVacant t u key → OthersStay t u key → TellsOf event s u
  reported_and_woken s t u key event is reported vacant others wakes vacant_too others_too = record {
    reported = subst (λ (k : ℕ). (c : Connection S T) → get s k ≡ Some c → get u k ≡ Some (record c { readiness = noticed c.readiness event; busy = true }))
        is (λ c here. wakes (record c { readiness = noticed c.readiness event }) (reported c here));
    vacant = subst (λ (k : ℕ). StaysVacant s u k) is (λ none. vacant_too (vacant none));
    others = subst (λ (k : ℕ). OthersStay s u k) is (λ other differs. others_too other differs ∙ others other differs);
  }

  -- one event more tells, behind those before
  reported_on : (events : List Event) (event : Event) (s t u : Slab (Connection S T)) → AllReported events s t → TellsOf event t u → AllReported (events ++ event ∷ []) s u
  reported_on [] event s t u before now = (u, subst (λ (x : Slab (Connection S T)). TellsOf event x u) before now, refl)
  reported_on (one ∷ events) event s t u before now = (before.0, before.1, reported_on events event before.0 t u before.2 now)

  pub reported_next : {X : Type 0} (event_of : X → Event) (before : List X) (x : X) (s t u : Slab (Connection S T)) → AllReported (map event_of before) s t
      → TellsOf (event_of x) t u → AllReported (map event_of (before ++ x ∷ [])) s u
  reported_next event_of before x s t u reported now =
      subst (λ (events : List Event). AllReported events s u) (sym (map-append event_of before (x ∷ []))) (reported_on (map event_of before) (event_of x) s t u reported now)

  -- the list stays right where it is looked whether a connection was left idle
  pub listed_looked : (s t : Slab (Connection S T)) (busy : Vec ℕ Global) (behind : VecDeque ℕ Global) (key now idle : ℕ) (reported : Bool) → ListsMarked s busy behind
      → LooksAt now idle reported s t key → StaysVacant s t key → OthersStay s t key → ListsMarked t busy behind
  listed_looked s t busy behind key now idle reported l looks vacant others =
      listed_still s t busy behind
      (marks_alone s t key (λ c here. (record c { over = reported }, (looks c here).1, refl)) vacant others) l

  -- a connection that is not over is as it is said to be
  not_over : (c : Connection S T) (now idle : ℕ) → ¬ (IsIdle now idle c) → record c { over = false } ≡ c
  not_over c now idle stays = by_over c.over refl
    where
      by_over : (b : Bool) → c.over ≡ b → record c { over = false } ≡ c
      by_over true is = absurd (stays (inl is))
      by_over false is = ap (λ (b : Bool). record c { over = b }) (sym is)

  -- a connection that was not left idle is as it was
  pub looked_same : (s t : Slab (Connection S T)) (key now idle : ℕ) (reported : Bool) → reported ≡ false → LooksAt now idle reported s t key → StaysVacant s t key
      → (o : Option (Connection S T)) → get s key ≡ o → (get t key ≡ o) × ClosesIfIdle now idle o (get t key)
  looked_same s t key now idle reported off looks vacant None was = (vacant was, vacant was)
  looked_same s t key now idle reported off looks vacant (Some c) was =
      let not_left : ¬ (IsIdle now idle c) = λ left. (let on : reported ≡ true = (looks c was).0.1 left in let no : false ≡ true = sym off ∙ on in cc) in
      let here : get t key ≡ Some c =
      (looks c was).1 ∙ ap (λ (b : Bool). Some (record c { over = b })) off ∙ ap (λ (d : Connection S T). Some d) (not_over c now idle not_left) in
      (here, inr (not_left, here))

  pub same_where_none_left : (s t : Slab (Connection S T)) (key now idle : ℕ) (reported : Bool) → reported ≡ false → LooksAt now idle reported s t key → StaysVacant s t key
      → OthersStay s t key → SameValues s t
  same_where_none_left s t key now idle reported off looks vacant others other =
      elim (cases_eq other key) [
        | inl same ↦ subst (λ (k : ℕ). get t k ≡ get s k) (sym same) (looked_same s t key now idle reported off looks vacant (get s key) refl).0
        | inr differs ↦ others other differs
      ]

  pub behind_where_none_left : (s t : Slab (Connection S T)) (key now idle : ℕ) (reported : Bool) → reported ≡ false → LooksAt now idle reported s t key → StaysVacant s t key
      → OthersStay s t key → MarksBehind s → MarksBehind t
  behind_where_none_left s t key now idle reported off looks vacant others =
      behind_same s t (same_where_none_left s t key now idle reported off looks vacant others)

  -- the connections under the keys before this one were looked at
  pub record LookedBefore (now idle : ℕ) (s t : Slab (Connection S T)) (index : ℕ) : Type 0 where
    pub before : (key : ℕ) → key < index → ClosesIfIdle now idle (get s key) (get t key)
    pub after : (key : ℕ) → index ≤ key → get t key ≡ get s key

  pub none_looked : (now idle : ℕ) (s : Slab (Connection S T)) → LookedBefore now idle s s 0
  none_looked now idle s = record { before = λ key below. absurd (omega (arith, below)); after = λ key above. refl }

  pub looked_on : (now idle : ℕ) (s t u : Slab (Connection S T)) (index : ℕ) → LookedBefore now idle s t index → ClosesIfIdle now idle (get t index) (get u index)
      → OthersStay t u index → LookedBefore now idle s u (index + 1)
  looked_on now idle s t u index looked at others = record {
    before = λ key below. elim (cases_eq key index) [
      | inl same ↦ subst (λ (k : ℕ). ClosesIfIdle now idle (get s k) (get u k)) (sym same)
          (subst (λ (o : Option (Connection S T)). ClosesIfIdle now idle o (get u index)) (looked.after index (omega arith)) at)
      | inr differs ↦ subst (λ (o : Option (Connection S T)). ClosesIfIdle now idle (get s key) o) (sym (others key differs)) (looked.before key (omega (arith, below, differs)))
    ];
    after = λ key above. (let differs : key ≢ index = λ same. omega (arith, above, same) in others key differs ∙ looked.after key (omega (arith, above)));
  }

  pub ends_woken : (t u w : Slab (Connection S T)) (key now idle : ℕ) (reported : Bool) → reported ≡ true → LooksAt now idle reported t u key
      → StaysVacant t u key → Wakes u w key → StaysVacant u w key → (o : Option (Connection S T)) → get t key ≡ o → ClosesIfIdle now idle o (get w key)
  ends_woken t u w key now idle reported on looks vacant wakes vacant_too None was = vacant_too (vacant was)
  ends_woken t u w key now idle reported on looks vacant wakes vacant_too (Some c) was =
      inl ((looks c was).0.0 on, wakes (record c { over = reported }) (looks c was).1 ∙ ap (λ (b : Bool). Some (record c { over = b; busy = true })) on)

  pub all_looked : (now idle : ℕ) (s t : Slab (Connection S T)) (index : ℕ) → LookedBefore now idle s t index → length s.slots ≤ index → EndsIdle now idle s t
  all_looked now idle s t index looked past key =
      elim (cases_lt key index) [
        | inl below ↦ looked.before key below
        | inr above ↦ (
            let none : get s key ≡ None = get_or_past s.slots key None (omega (arith, above, past)) in
            subst (λ (o : Option (Connection S T)). ClosesIfIdle now idle o (get t key)) (sym none) (looked.after key above ∙ none)
            )
      ]

  -- a connection that is not marked came, and there is room for its key
  pub listed_more_room : (s t u : Slab (Connection S T)) (busy more_busy : Vec ℕ Global) (behind more_behind : VecDeque ℕ Global) (key : ℕ) (c : Connection S T) → ListsMarked s busy behind
      → t.slots ≡ s.slots → more_busy.items ≡ busy.items → more_behind.items ≡ behind.items → vec_capacity busy ≤ vec_capacity more_busy
      → deque_capacity behind ≤ deque_capacity more_behind → get t key ≡ None → get u key ≡ Some c → c.busy ≡ false → OthersStay t u key
      → slab_len u ≤ vec_capacity more_busy → slab_len u ≤ deque_capacity more_behind → ListsMarked u more_busy more_behind
  listed_more_room s t u busy more_busy behind more_behind key c l same is is_too grows grows_too was here unmarked others room room_too =
      listed_inserted t u more_busy more_behind key c (listed_grown s t busy more_busy behind more_behind l same is is_too grows grows_too)
      was here unmarked others room room_too

  -- where nothing but its room changed, a slab has the same slots, and as many connections
  pub same_slots : (s t : Slab (Connection S T)) → t ≡ record s { capacity = t.capacity } → t.slots ≡ s.slots
  same_slots s t same = ap (λ (x : Slab (Connection S T)). x.slots) same

  pub same_len : (s t : Slab (Connection S T)) → t.slots ≡ s.slots → slab_len t ≡ slab_len s
  same_len s t same = ap (λ (x : List (Option (Connection S T))). count_by is_some x) same

  pub same_values : (s t : Slab (Connection S T)) → t.slots ≡ s.slots → SameValues s t
  same_values s t same key = ap (λ (x : List (Option (Connection S T))). get_or x key None) same

  -- a connection that came and was woken leaves the marks right
  pub behind_taken : (s t u w : Slab (Connection S T)) (key : ℕ) → MarksBehind s → t.slots ≡ s.slots → OthersStay t u key
      → Wakes u w key → StaysVacant u w key → OthersStay u w key → MarksBehind w
  behind_taken s t u w key marks same others wakes vacant others_too =
      behind_woken t u w key (behind_same s t (same_values s t same) marks) others wakes vacant others_too

  -- where a connection was taken in, or nothing changed but room, those that were there are as they were
  stays_taken : {R : Type 0} (stream : S) (session : T) (slot receipts : ℕ) (m n : LoopConnections S T R) → TakesIn stream session slot receipts m n → PresentStay m.connections n.connections
  stays_taken stream session slot receipts m n taken key c was =
      let differs : key ≢ taken.key = λ same. (let none : get m.connections key ≡ None = ap (get m.connections) same ∙ taken.was_vacant in cc) in
      taken.others key differs ∙ was

  stays_grown : {R : Type 0} (m n : LoopConnections S T R) → ChangesRoom m n → PresentStay m.connections n.connections
  stays_grown m n grown key c was = grown.connections key ∙ was

  pub stays_either : {R E : Type 0} (stream : S) (session : T) (slot receipts : ℕ) (m n : LoopConnections S T R) (came : Result (Unit {0}) E) → OnOk came (NoneForgotten m → TakesIn stream session slot receipts m n)
      → OnErr came (ChangesRoom m n) → NoneForgotten m → PresentStay m.connections n.connections
  stays_either stream session slot receipts m n (Ok u) taken grown k = stays_taken stream session slot receipts m n (taken k)
  stays_either stream session slot receipts m n (Err e) taken grown k = stays_grown m n grown

  -- those with work left wait as they did, whether a connection was taken in or not
  pub waits_either : {R E : Type 0} (stream : S) (session : T) (slot receipts : ℕ) (m n : LoopConnections S T R) (came : Result (Unit {0}) E) → OnOk came (NoneForgotten m → TakesIn stream session slot receipts m n)
      → OnErr came (ChangesRoom m n) → NoneForgotten m → n.behind.items ≡ m.behind.items
  waits_either stream session slot receipts m n (Ok u) taken grown k = (taken k).behind
  waits_either stream session slot receipts m n (Err e) taken grown k = grown.behind
