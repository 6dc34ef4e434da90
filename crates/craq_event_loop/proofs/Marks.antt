-- The marks of connections that are served or woken, and the list of those that are.
use Rattle.std.proofs.Common.{◌≡◌, ◌≤◌, ◌<◌, ◌↔◌, ◌≢◌, ◌+◌, ◌==◌, ℕ, Bool, true, false, not, List, [], ◌∷◌, ◌++◌, length, get_or, take, Option, Some, None, if◌then◌else◌, filter, Contains, Vec, vec_capacity, refl, sym, ap, ◌∙◌, subst, arith}
use Rattle.std.specs.List.{AllPairs}
use Rattle.std.specs.VecDeque.{deque_capacity}
use Rattle.std.specs.declared.collections.VecDeque.{VecDeque}
use Rattle.std.specs.declared.alloc.Global.{Global}
use Rattle.std.proofs.lemmas.Bool.Decides.{nat_tests}
use Rattle.std.proofs.lemmas.List.{append-nil, append_assoc, take_all}
use Rattle.slab.specs.Slab.{Slab, get, with_value}
use Rattle.slab.proofs.SlabLemmas.{Updates-with_value}
use Rattle.craq_seat.specs.declared.token.CallToken.{CallToken}
use Rattle.craq_event_loop.specs.SubmittedCalls.{Calling}
use Rattle.craq_event_loop.specs.Turns.{Refusing}
use Rattle.craq_event_loop.specs.declared.connection.Connection.{Connection}
use Rattle.craq_event_loop.specs.Advancing.{HasRoundAt, TakeRounds, most_steps}
use Rattle.craq_event_loop.specs.Belonging.{Alone, OneByOne, OthersStay, StaysVacant, Wakes}
use Rattle.craq_event_loop.specs.Busy.{IsBehind, ListsMarked, MarksBehind, MarksJustBehind, NoneForgotten, Rests, is_marked, with_key}
use Rattle.craq_event_loop.specs.Serving.{ReadsAt, StaysUnlessDone, WritesAt}
use Rattle.craq_event_loop.specs.declared.event_loop.LoopConnections.{LoopConnections}
use Rattle.craq_event_loop.proofs.Busy.{IsRightAt, KeepsMarks, behind_everywhere, behind_still, has_room, listed_after, listed_more, listed_still, marks_alone, marks_kept, marks_then, once_last, one_kept, one_left_out, right_after, room_to_keep, untouched, waiting_kept}

pub was_off : (reported mark : Bool) → reported ≡ not mark → reported ≡ true → mark ≡ false
was_off reported true is on = cc
was_off reported false is on = refl

pub was_on : (reported mark : Bool) → reported ≡ not mark → reported ≡ false → mark ≡ true
was_on reported true is off = refl
was_on reported false is off = cc

pub pushed : (ok : Bool) (old more new : List ℕ) → new ≡ (if ok then more else old) → ok ≡ true → new ≡ more
pushed ok old more new is on = rw on at is

-- a key is kept exactly where this is reported
pub kept_if : (reported : Bool) (old more new : List ℕ) → reported ≡ true → new ≡ more → new ≡ (if reported then more else old)
kept_if reported old more new on is = rw on is

pub left_out_if : (reported : Bool) (old more new : List ℕ) → reported ≡ false → new ≡ old → new ≡ (if reported then more else old)
left_out_if reported old more new off is = rw off is

pub zero_if : (reported : Bool) (n : ℕ) → reported ≡ (n == 0) → reported ≡ true → n ≡ 0
zero_if reported n is on = let both : (n == 0) ≡ true = sym is ∙ on in grind (arith, nat_tests)

module _ {S T : Type 0} where
  others_with : (s : Slab (Connection S T)) (key : ℕ) (c d : Connection S T) → get s key ≡ Some c → OthersStay s (with_value s key d) key
  others_with s key c d was = (Updates-with_value s key d (rw was refl)).others

  found_with : (s : Slab (Connection S T)) (key : ℕ) (c d : Connection S T) → get s key ≡ Some c → get (with_value s key d) key ≡ Some d
  found_with s key c d was = (Updates-with_value s key d (rw was refl)).changed

  -- a connection that changes and keeps its mark
  pub same_listed : (s : Slab (Connection S T)) (busy : Vec ℕ Global) (behind : VecDeque ℕ Global) (key : ℕ) (c d : Connection S T) → ListsMarked s busy behind
      → get s key ≡ Some c → d.busy ≡ c.busy → ListsMarked (with_value s key d) busy behind
  same_listed s busy behind key c d l was same =
      let kept : (e : Connection S T) → get s key ≡ Some e → (f : Connection S T) × (get (with_value s key d) key ≡ Some f) × (f.busy ≡ e.busy) =
      λ e here. (let is : e ≡ c = cc in (d, found_with s key c d was, same ∙ sym (ap (λ (x : Connection S T). x.busy) is))) in
      let vacant : StaysVacant s (with_value s key d) key = λ none. cc in
      listed_still s (with_value s key d) busy behind (marks_alone s (with_value s key d) key kept vacant (others_with s key c d was)) l

  -- a connection that was not marked is, and its key is pushed
  pub more_listed : (s : Slab (Connection S T)) (busy more : Vec ℕ Global) (behind : VecDeque ℕ Global) (key : ℕ) (c d : Connection S T) → ListsMarked s busy behind
      → get s key ≡ Some c → c.busy ≡ false → d.busy ≡ true → more.items ≡ busy.items ++ key ∷ [] → vec_capacity busy ≤ vec_capacity more
      → ListsMarked (with_value s key d) more behind
  more_listed s busy more behind key c d l was unmarked marked is grows =
      listed_more s (with_value s key d) busy more behind key c l was unmarked (ap is_marked (found_with s key c d was) ∙ marked) (others_with s key c d was) is grows

  pub marked_by : (c d : Connection S T) → d ≡ record c { busy = true } → d.busy ≡ true
  marked_by c d is = ap (λ (x : Connection S T). x.busy) is

  -- a push for which there is room
  pub room_to_wake : (s : Slab (Connection S T)) (busy : Vec ℕ Global) (behind : VecDeque ℕ Global) (key : ℕ) (c : Connection S T) → ListsMarked s busy behind
      → get s key ≡ Some c → c.busy ≡ false → length busy.items < vec_capacity busy
  room_to_wake s busy behind key c l was unmarked = has_room s busy behind key l (rw was refl) (rw was unmarked)

  -- the list with the key of a connection that was not marked, and of one that was
  pub key_comes : (keys : List ℕ) (key : ℕ) (o : Option (Connection S T)) (c : Connection S T) → o ≡ Some c → c.busy ≡ false → with_key keys key o ≡ keys ++ key ∷ []
  key_comes keys key o c was unmarked = rw (was, unmarked) refl

  pub keys_stay : (keys : List ℕ) (key : ℕ) (o : Option (Connection S T)) (c : Connection S T) → o ≡ Some c → c.busy ≡ true → with_key keys key o ≡ keys
  keys_stay keys key o c was marked = rw (was, marked) refl

  -- where the lists name the connections that are marked, each that is behind is, and the lists name none, none is behind
  pub none_is_behind : {P : Type 0} (m : LoopConnections S T P) (key : ℕ) (c : Connection S T) → NoneForgotten m → Rests m → get m.connections key ≡ Some c → IsBehind c → ⊥
  none_is_behind m key c k rests here is =
      let on : is_marked (get m.connections key) ≡ true = ap is_marked here ∙ k.behind key c here is in
      let none : m.behind.items ++ m.busy.items ≡ [] = ap (λ (x : List ℕ). x ++ m.busy.items) rests.1 ∙ rests.0 in
      let listed : Contains [] key = subst (λ (x : List ℕ). Contains x key) none ((k.listed.marked key).1 on) in
      omega (arith, listed.1)

  -- one key more was gone through, and was kept or not
  pub kept_or_not : (first keys kept more : List ℕ) (index key : ℕ) (s t : Slab (Connection S T)) (reported : Bool) → AllPairs (λ x y. x ≢ y) keys → index < length keys
      → key ≡ get_or keys index 0 → kept ≡ first ++ filter (λ k. is_marked (get s k)) (take index keys) → OthersStay s t key → reported ≡ is_marked (get t key)
      → more ≡ (if reported then kept ++ key ∷ [] else kept) → more ≡ first ++ filter (λ k. is_marked (get t k)) (take (index + 1) keys)
  kept_or_not first keys kept more index key s t true once within at is others tells now =
      let some : List ℕ = filter (λ k. is_marked (get s k)) (take index keys) in
      let one : some ++ key ∷ [] ≡ filter (λ k. is_marked (get t k)) (take (index + 1) keys) =
      one_kept keys some (some ++ key ∷ []) index key s t once within at refl others (sym tells) refl in
      now ∙ ap (λ (x : List ℕ). x ++ key ∷ []) is ∙ append_assoc first some (key ∷ []) ∙ ap (λ (x : List ℕ). first ++ x) one
  kept_or_not first keys kept more index key s t false once within at is others tells now =
      let some : List ℕ = filter (λ k. is_marked (get s k)) (take index keys) in
      let same : some ≡ filter (λ k. is_marked (get t k)) (take (index + 1) keys) =
      one_left_out keys some index key s t once within at refl others (sym tells) in
      now ∙ is ∙ ap (λ (x : List ℕ). first ++ x) same

  -- behind those that waited come those of the busy list so far that are marked, and there is room for them
  pub record KeptSoFar (t : Slab (Connection S T)) (behind kept : VecDeque ℕ Global) (keys : List ℕ) (index : ℕ) : Type 0 where
    pub are : kept.items ≡ behind.items ++ filter (λ key. is_marked (get t key)) (take index keys)
    pub grows : deque_capacity behind ≤ deque_capacity kept

  pub none_kept : (s : Slab (Connection S T)) (behind : VecDeque ℕ Global) (keys : List ℕ) → KeptSoFar s behind behind keys 0
  none_kept s behind keys = record { are = sym (append-nil behind.items); grows = omega arith }

  pub kept_next : (s t u : Slab (Connection S T)) (busy : Vec ℕ Global) (behind kept more : VecDeque ℕ Global) (keys : List ℕ) (index : ℕ) (reported : Bool) → ListsMarked s busy behind
      → keys ≡ busy.items → index < length keys → KeptSoFar t behind kept keys index → OthersStay t u (get_or keys index 0)
      → reported ≡ is_marked (get u (get_or keys index 0))
      → (kept.len < deque_capacity kept → more.items ≡ (if reported then kept.items ++ get_or keys index 0 ∷ [] else kept.items)) → deque_capacity kept ≤ deque_capacity more
      → KeptSoFar u behind more keys (index + 1)
  kept_next s t u busy behind kept more keys index reported l is within k others tells now grows =
      let short : index < length busy.items = subst (λ (x : List ℕ). index < length x) is within in
      let are : kept.items ≡ behind.items ++ filter (λ key. is_marked (get t key)) (take index busy.items) =
      k.are ∙ ap (λ (x : List ℕ). behind.items ++ filter (λ key. is_marked (get t key)) (take index x)) is in
      let room : length kept.items < deque_capacity kept = room_to_keep s busy behind kept (λ key. is_marked (get t key)) index l short are k.grows in
      let long : kept.len ≡ length kept.items = kept.ok.0 in
      let once : AllPairs (λ x y. x ≢ y) keys = subst (λ (x : List ℕ). AllPairs (λ x y. x ≢ y) x) (sym is) (once_last behind.items busy.items l.once) in
      record {
        are = kept_or_not behind.items keys kept.items more.items index (get_or keys index 0) t u reported once within refl k.are others tells (now (omega (arith, room, long)));
        grows = omega (arith, k.grows, grows);
      }

  -- all of the busy list was gone through
  pub kept_all : (t : Slab (Connection S T)) (busy : Vec ℕ Global) (behind kept : VecDeque ℕ Global) (keys : List ℕ) (index : ℕ) → keys ≡ busy.items → length keys ≤ index
      → KeptSoFar t behind kept keys index → kept.items ≡ behind.items ++ filter (λ key. is_marked (get t key)) busy.items
  kept_all t busy behind kept keys index is past k =
      k.are ∙ ap (λ (x : List ℕ). behind.items ++ filter (λ key. is_marked (get t key)) x) (take_all index keys past ∙ is)

  -- all of the busy list was gone through, and what was kept of it waits
  pub all_listed : (happens : Slab (Connection S T) → Slab (Connection S T) → ℕ → Type 0) (s t : Slab (Connection S T)) (busy cleared : Vec ℕ Global) (behind kept : VecDeque ℕ Global)
      (keys : List ℕ) (index : ℕ) → ListsMarked s busy behind → keys ≡ busy.items → length keys ≤ index → OneByOne happens (take index keys) s t
      → KeptSoFar t behind kept keys index → cleared.items ≡ [] → vec_capacity cleared ≡ vec_capacity busy → ListsMarked t cleared kept
  all_listed happens s t busy cleared behind kept keys index l is past all k none capacity =
      let whole : OneByOne happens busy.items s t = subst (λ (x : List ℕ). OneByOne happens x s t) (take_all index keys past ∙ is) all in
      listed_after happens s t busy cleared behind kept l whole (kept_all t busy behind kept keys index is past k ∙ waiting_kept happens s t busy behind l whole)
      none k.grows (omega (arith, capacity))

  on_if_there : (mid t : Slab (Connection S T)) (key : ℕ) (o : Option (Connection S T)) → get mid key ≡ o → Wakes mid t key → StaysVacant mid t key
      → (c : Connection S T) → get t key ≡ Some c → c.busy ≡ true
  on_if_there mid t key None was wakes vacant c here = (let no : get t key ≡ None = vacant was in cc)
  on_if_there mid t key (Some d) was wakes vacant c here = (let is : get t key ≡ Some (record d { busy = true }) = wakes d was in let same : c ≡ record d { busy = true } = cc in (ap (λ (x : Connection S T). x.busy) same))

  -- a connection that changed is woken
  pub behind_woken : (s mid t : Slab (Connection S T)) (key : ℕ) → MarksBehind s → OthersStay s mid key
      → Wakes mid t key → StaysVacant mid t key → OthersStay mid t key → MarksBehind t
  behind_woken s mid t key marks before wakes vacant after =
      behind_still s t key marks (λ other differs. after other differs ∙ before other differs) (on_if_there mid t key (get mid key) refl wakes vacant)

  pub behind_changed : (s t : Slab (Connection S T)) (key : ℕ) (c d : Connection S T) → MarksBehind s → get s key ≡ Some c
      → Wakes (with_value s key d) t key → StaysVacant (with_value s key d) t key → OthersStay (with_value s key d) t key → MarksBehind t
  behind_changed s t key c d marks was = behind_woken s (with_value s key d) t key marks (others_with s key c d was)

module _ {S T : Type 0} (remaining contents : S → Option (List ℕ)) (is_over is_dry is_full : S → Type 0) (tells : List ℕ → Type 0) (refuses : Refusing) (submits : CallToken → Calling T) where
  keeps_read : KeepsMarks {S = S} {T = T} (ReadsAt remaining contents is_over is_dry is_full)
  keeps_read s t key reads c was = ((reads c was).0, (reads c was).1, ap (λ (x : Connection S T). x.busy) (reads c was).2.rest)

  keeps_turned : (most : ℕ) → KeepsMarks {S = S} {T = T} (λ s t key. HasRoundAt most tells refuses submits s t key)
  keeps_turned most s t key round c was = ((round c was).0, (round c was).1, ap (λ (x : Connection S T). x.busy) (round c was).3)

  -- a mark that is set after a write is right
  right_at : (s t : Slab (Connection S T)) (key : ℕ) (o : Option (Connection S T)) → get s key ≡ o → Alone (WritesAt remaining contents is_over is_dry is_full) s t key → IsRightAt t key
  right_at s t key None was alone d here = (let no : get t key ≡ None = alone.1 was in cc)
  right_at s t key (Some c) was alone d here =
      let stays : StaysUnlessDone (alone.0 c was).0 (Some d) = subst (λ (o : Option (Connection S T)). StaysUnlessDone (alone.0 c was).0 o) here (alone.0 c was).2 in
      subst (λ (x : Connection S T). d.busy ≡ true ↔ IsBehind x) (sym stays.1) stays.2

  -- the lists are right of the connections that have read and had their turns
  listed_stepped : (s r a : Slab (Connection S T)) (busy : Vec ℕ Global) (behind : VecDeque ℕ Global) → ListsMarked s busy behind
      → OneByOne (ReadsAt remaining contents is_over is_dry is_full) busy.items s r → TakeRounds tells refuses submits busy.items r a → ListsMarked a busy behind
  listed_stepped s r a busy behind l reads rounds =
      listed_still s a busy behind
      (marks_then s r a (marks_kept (ReadsAt remaining contents is_over is_dry is_full) keeps_read busy.items s r reads)
      (marks_kept (λ s t key. HasRoundAt most_steps tells refuses submits s t key) (keeps_turned most_steps) busy.items r a rounds))
      l

  -- a connection whose key is not in the list stays as it is while those of the list are served
  unserved : (s r a t : Slab (Connection S T)) (keys : List ℕ) → OneByOne (ReadsAt remaining contents is_over is_dry is_full) keys s r → TakeRounds tells refuses submits keys r a
      → OneByOne (WritesAt remaining contents is_over is_dry is_full) keys a t → (key : ℕ) → ¬ (Contains keys key) → get t key ≡ get s key
  unserved s r a t keys reads rounds writes key not =
      untouched (WritesAt remaining contents is_over is_dry is_full) keys a t key writes not
      ∙ (untouched (λ s t key. HasRoundAt most_steps tells refuses submits s t key) keys r a key rounds not
      ∙ untouched (ReadsAt remaining contents is_over is_dry is_full) keys s r key reads not)

  -- the marks of the connections that have written are right
  pub right_written : (a t : Slab (Connection S T)) (keys : List ℕ) → OneByOne (WritesAt remaining contents is_over is_dry is_full) keys a t → MarksJustBehind t keys
  right_written a t keys writes key listed = right_after (WritesAt remaining contents is_over is_dry is_full) (λ s t key. right_at s t key (get s key) refl) keys a t key writes listed

  -- lists of marked connections stay so after reads and rounds that return both lists unchanged
  pub listed_handed : (s r a : Slab (Connection S T)) (busy busy_read busy_stepped : Vec ℕ Global) (behind behind_read behind_stepped : VecDeque ℕ Global) → ListsMarked s busy behind
      → OneByOne (ReadsAt remaining contents is_over is_dry is_full) busy.items s r → busy_read ≡ busy → behind_read ≡ behind
      → TakeRounds tells refuses submits busy_read.items r a → busy_stepped ≡ busy_read → behind_stepped ≡ behind_read → ListsMarked a busy_stepped behind_stepped
  listed_handed s r a busy busy_read busy_stepped behind behind_read behind_stepped l reads is is_behind rounds is_too is_behind_too =
      let same : busy_stepped ≡ busy = is_too ∙ is in
      let same_behind : behind_stepped ≡ behind = is_behind_too ∙ is_behind in
      subst (λ (v : Vec ℕ Global). ListsMarked a v behind_stepped) (sym same)
      (subst (λ (v : VecDeque ℕ Global). ListsMarked a busy v) (sym same_behind)
      (listed_stepped s r a busy behind l reads (subst (λ (v : Vec ℕ Global). TakeRounds tells refuses submits v.items r a) is rounds)))

  -- each connection that is behind is marked once those of the list were served
  pub behind_handed : (s r a t : Slab (Connection S T)) (busy busy_read busy_stepped : Vec ℕ Global) (behind : VecDeque ℕ Global) → ListsMarked s busy behind → MarksBehind s
      → OneByOne (ReadsAt remaining contents is_over is_dry is_full) busy.items s r → busy_read ≡ busy
      → TakeRounds tells refuses submits busy_read.items r a → busy_stepped ≡ busy_read
      → OneByOne (WritesAt remaining contents is_over is_dry is_full) busy_stepped.items a t → MarksBehind t
  behind_handed s r a t busy busy_read busy_stepped behind l marks reads is rounds is_too writes =
      let same : busy_stepped ≡ busy = is_too ∙ is in
      let written : OneByOne (WritesAt remaining contents is_over is_dry is_full) busy.items a t =
      subst (λ (v : Vec ℕ Global). OneByOne (WritesAt remaining contents is_over is_dry is_full) v.items a t) same writes in
      behind_everywhere s t busy behind l marks
      (unserved s r a t busy.items reads (subst (λ (v : Vec ℕ Global). TakeRounds tells refuses submits v.items r a) is rounds) written)
      (right_written a t busy.items written)
