-- The list of the connections that have something to do, one step after another.
use Rattle.std.proofs.Common.{◌≡◌, ◌≢◌, ◌≤◌, ◌<◌, ◌+◌, ◌↔◌, ◌⊎◌, ℕ, zero, suc, Bool, true, false, cond, List, [], ◌∷◌, ◌++◌, length, get_or, set, count_by, Contains, filter, length-append, take, length-take, Option, Some, None, is_some, Vec, vec_capacity, vec_len, refl, sym, ap, ◌∙◌, subst, inl, inr, arith}
use Rattle.std.specs.List.{AllPairs}
use Rattle.std.specs.VecDeque.{deque_capacity, deque_len}
use Rattle.std.specs.declared.collections.VecDeque.{VecDeque}
use Rattle.std.specs.declared.alloc.Global.{Global}
use Rattle.std.proofs.lemmas.Bool.{cases_eq}
use Rattle.std.proofs.lemmas.List.{append-nil, append_assoc, get_or-set_other, get_or-take, get_or_past, take_all}
use Rattle.std.proofs.lemmas.List.Elements.{Contains-get_or, Contains-push, Contains-push_cases, Contains-append_cases, Contains-append_left, Contains-append_right, filter-append, filter_more}
use Rattle.std.proofs.lemmas.List.Kept.{AllPairs-filter}
use Rattle.std.proofs.lemmas.List.Quantifiers.{all_pairs_push}
use Rattle.std.proofs.lemmas.List.Sums.{count_by-le-length, length-filter, sum_by-cons, sum_by-set}
use Rattle.slab.specs.Slab.{Slab, get, slab_len}
use Rattle.slab.proofs.SlabLemmas.{Contains-cons, Contains-cons_cases}
use Rattle.craq_event_loop.specs.declared.connection.Connection.{Connection}
use Rattle.craq_event_loop.specs.Belonging.{Alone, OneByOne, OthersStay, StaysVacant}
use Rattle.craq_event_loop.specs.declared.event_loop.LoopConnections.{LoopConnections}
use Rattle.craq_event_loop.specs.Busy.{HasNone, IsBehind, ListsMarked, MarksBehind, NoneForgotten, is_marked}

-- slots that are vacant in one list and in another are no more there
module _ {T : Type 0} where
  abbrev full : List (Option T) → ℕ
  full slots = count_by is_some slots

  full-cons : (slot : Option T) (slots : List (Option T)) → full (slot ∷ slots) ≡ cond (is_some slot) 1 0 + full slots
  full-cons slot slots = sum_by-cons (λ o. cond (is_some o) 1 0) slot slots

  full-le : (xs ys : List (Option T)) → ((key : ℕ) → is_some (get_or ys key None) ≡ true → is_some (get_or xs key None) ≡ true) → full ys ≤ full xs
  full-le xs [] there = omega arith
  full-le [] (None ∷ ys) there = omega (arith, full-cons None ys, full-le [] ys (λ key is. (let no : is_some (get_or {A = Option T} [] (suc key) None) ≡ true = there (suc key) is in cc)))
  full-le [] (Some y ∷ ys) there = absurd (let no : false ≡ true = there 0 refl in cc)
  full-le (Some x ∷ xs) (Some y ∷ ys) there = omega (arith, full-cons (Some x) xs, full-cons (Some y) ys, full-le xs ys (λ key. there (suc key)))
  full-le (None ∷ xs) (Some y ∷ ys) there = absurd (let no : false ≡ true = there 0 refl in cc)
  full-le (x ∷ xs) (None ∷ ys) there = omega (arith, full-cons x xs, full-cons None ys, full-le xs ys (λ key. there (suc key)))

  -- one slot less is there
  full-emptied : (slots : List (Option T)) (key : ℕ) → is_some (get_or slots key None) ≡ true → full (set slots key None) + 1 ≡ full slots
  full-emptied slots key there =
      let within : key < length slots = grind (arith, get_or_past) in
      let is : cond {A = ℕ} (is_some (get_or slots key None)) 1 0 ≡ 1 = rw there refl in
      omega (arith, is, sum_by-set (λ o. cond (is_some o) 1 0) slots key None None within)

  -- where none is there each is vacant
  pub none_there : (slots : List (Option T)) → full slots ≡ 0 → (key : ℕ) → get_or slots key None ≡ None
  none_there [] none key = get_or_past [] key None (omega arith)
  none_there (Some x ∷ slots) none key = absurd (omega (arith, full-cons (Some x) slots, none))
  none_there (None ∷ slots) none zero = refl
  none_there (None ∷ slots) none (suc key) = none_there slots (omega (arith, full-cons None slots, none)) key

  -- as many slots are there as keys that are each found once
  pub keys-le : (keys : List ℕ) (slots : List (Option T)) → AllPairs (λ x y. x ≢ y) keys → ((key : ℕ) → Contains keys key → is_some (get_or slots key None) ≡ true) → length keys ≤ full slots
  keys-le [] slots once there = omega arith
  keys-le (key ∷ keys) slots once there =
      let others : (other : ℕ) → Contains keys other → is_some (get_or (set slots key None) other None) ≡ true =
      λ other listed. (
      let differs : other ≢ key = λ same. once 0 (suc listed.0) other (omega arith) (omega (arith, listed.1)) (sym same ∙ sym (listed.2)) in
      rw (get_or-set_other slots key other None None differs) (there other (Contains-cons key other keys listed))
      ) in
      let tail : AllPairs (λ x y. x ≢ y) keys = λ i j d before within. once (suc i) (suc j) d (omega arith) (omega arith) in
      let less : length keys ≤ full (set slots key None) = keys-le keys (set slots key None) tail others in
      let head : full (set slots key None) + 1 ≡ full slots = full-emptied slots key (there key (0, omega arith, refl)) in
      omega (arith, less, head)

-- a filter keeps just what passes
pub Contains-filter : {X : Type 0} (p : X → Bool) (xs : List X) (x : X) → Contains (filter p xs) x → Contains xs x × (p x ≡ true)
Contains-filter p [] x listed = absurd (omega (arith, listed.1))
Contains-filter {X} p (y ∷ xs) x listed = by_test (p y) refl (Contains-filter p xs x) listed
  where
    by_test : (b : Bool) → p y ≡ b → (Contains (filter p xs) x → Contains xs x × (p x ≡ true)) → Contains (cond b (y ∷ filter p xs) (filter p xs)) x → Contains (y ∷ xs) x × (p x ≡ true)
    by_test false is rest found = (Contains-cons y x xs (rest found).0, (rest found).1)
    by_test true is rest found =
        elim (Contains-cons_cases y x (filter p xs) found) [
          | inl same ↦ subst (λ (z : X). Contains (y ∷ xs) z × (p z ≡ true)) same ((0, omega arith, refl), is)
          | inr later ↦ (Contains-cons y x xs (rest later).0, (rest later).1)
        ]

pub Contains-to_filter : {X : Type 0} (p : X → Bool) (xs : List X) (x : X) → Contains xs x → p x ≡ true → Contains (filter p xs) x
Contains-to_filter p [] x listed is = absurd (omega (arith, listed.1))
Contains-to_filter {X} p (y ∷ xs) x listed is = by_test (p y) refl (Contains-cons_cases y x xs listed) (λ later. Contains-to_filter p xs x later is)
  where
    by_test : (b : Bool) → p y ≡ b → (y ≡ x) ⊎ Contains xs x → (Contains xs x → Contains (filter p xs) x) → Contains (cond b (y ∷ filter p xs) (filter p xs)) x
    by_test false off (inl same) rest = cc
    by_test false off (inr later) rest = rest later
    by_test true on (inl same) rest = (0, omega arith, same)
    by_test true on (inr later) rest = Contains-cons y x (filter p xs) (rest later)

-- a filter of all of a list
pub all_kept : (keys kept : List ℕ) (index : ℕ) (p : ℕ → Bool) → length keys ≤ index → kept ≡ filter p (take index keys) → kept ≡ filter p keys
all_kept keys kept index p past is = is ∙ ap (filter p) (take_all index keys past)

-- two tests that agree on a list keep the same of it
filter_same : {X : Type 0} (p q : X → Bool) (xs : List X) → ((x : X) → Contains xs x → p x ≡ q x) → filter p xs ≡ filter q xs
filter_same p q [] agree = refl
filter_same p q (x ∷ xs) agree =
    let rest : filter p xs ≡ filter q xs = filter_same p q xs (λ y listed. agree y (Contains-cons x y xs listed)) in
    let first : p x ≡ q x = agree x (0, omega arith, refl) in
    rw (first, rest) refl

-- a list of no items is empty
none_long : (xs : List ℕ) → length xs ≤ 0 → xs ≡ []
none_long [] short = refl
none_long (x ∷ xs) short = absurd (omega (arith, short))

no_items : (keys : Vec ℕ Global) → vec_len keys ≡ 0 → keys.items ≡ []
no_items keys none = none_long keys.items (let long : keys.len ≡ length keys.items = keys.ok.0 in omega (arith, long, none))

pub none_waiting : (keys : VecDeque ℕ Global) → deque_len keys ≡ 0 → keys.items ≡ []
none_waiting keys none = none_long keys.items (let long : keys.len ≡ length keys.items = keys.ok.0 in omega (arith, long, none))

-- an index within the list finds the same key, whatever the default past its end
found_at : (keys : List ℕ) (index key other : ℕ) → index < length keys → get_or keys index key ≡ key → get_or keys index other ≡ key
found_at [] index key other within is = absurd (omega (arith, within))
found_at (one ∷ keys) zero key other within is = is
found_at (one ∷ keys) (suc index) key other within is = found_at keys index key other (omega (arith, within)) is

-- a key before an index of a list that names each once differs from the key at the index
before_it : (keys : List ℕ) (index key : ℕ) → AllPairs (λ x y. x ≢ y) keys → index < length keys → Contains (take index keys) key → key ≢ get_or keys index 0
before_it keys index key once within listed same =
    let before : listed.0 < index = omega (arith, listed.1, length-take index keys) in
    once listed.0 index 0 before within (sym (get_or-take index keys listed.0 0 before) ∙ found_at (take index keys) listed.0 key 0 listed.1 listed.2 ∙ same)

-- of two lists that name each key once together, the second does so alone, and a key of one is not in the other
pub once_last : (xs ys : List ℕ) → AllPairs (λ x y. x ≢ y) (xs ++ ys) → AllPairs (λ x y. x ≢ y) ys
once_last [] ys once = once
once_last (x ∷ xs) ys once = once_last xs ys (λ i j d before within. once (suc i) (suc j) d (omega arith) (omega arith))

pub in_one : (xs ys : List ℕ) (key : ℕ) → AllPairs (λ x y. x ≢ y) (xs ++ ys) → Contains xs key → Contains ys key → ⊥
in_one [] ys key once listed listed_too = absurd (omega (arith, listed.1))
in_one (x ∷ xs) ys key once listed listed_too =
    elim (Contains-cons_cases x key xs listed) [
      | inl same ↦ (
          let there : Contains (xs ++ ys) key = Contains-append_right xs ys key listed_too in
          once 0 (suc there.0) key (omega arith) (omega (arith, there.1)) (same ∙ sym there.2)
          )
      | inr later ↦ in_one xs ys key (λ i j d before within. once (suc i) (suc j) d (omega arith) (omega arith)) later listed_too
    ]

-- a filter that keeps all
filter_all : {X : Type 0} (p : X → Bool) (xs : List X) → ((x : X) → Contains xs x → p x ≡ true) → filter p xs ≡ xs
filter_all p [] all = refl
filter_all p (x ∷ xs) all =
    let rest : filter p xs ≡ xs = filter_all p xs (λ y listed. all y (Contains-cons x y xs listed)) in
    let first : p x ≡ true = all x (0, omega arith, refl) in
    rw (first, rest) refl

module _ {S T : Type 0} where
  -- under each key a connection is there where one was, and is marked where it was
  abbrev pub MarksStay : Slab (Connection S T) → Slab (Connection S T) → Type 0
  MarksStay s t = (key : ℕ) → (is_marked (get t key) ≡ is_marked (get s key)) × (is_some (get t key) ≡ is_some (get s key))

  -- each event under one key leaves the marks
  abbrev pub KeepsMarks : (Slab (Connection S T) → Slab (Connection S T) → ℕ → Type 0) → Type 0
  KeepsMarks happens =
      (s t : Slab (Connection S T)) (key : ℕ) → happens s t key
      → (c : Connection S T) → get s key ≡ Some c → (d : Connection S T) × (get t key ≡ Some d) × (d.busy ≡ c.busy)

  pub len-le : (s t : Slab (Connection S T)) → ((key : ℕ) → is_some (get t key) ≡ true → is_some (get s key) ≡ true) → slab_len t ≤ slab_len s
  len-le s t there = full-le s.slots t.slots there

  marks_at : (s t : Slab (Connection S T)) (key : ℕ) (o : Option (Connection S T)) → get s key ≡ o
      → ((c : Connection S T) → get s key ≡ Some c → (d : Connection S T) × (get t key ≡ Some d) × (d.busy ≡ c.busy)) → (get s key ≡ None → get t key ≡ None)
      → (is_marked (get t key) ≡ is_marked (get s key)) × (is_some (get t key) ≡ is_some (get s key))
  marks_at s t key None was kept vacant = rw (was, vacant was) (refl, refl)
  marks_at s t key (Some c) was kept vacant =
      let k : (d : Connection S T) × (get t key ≡ Some d) × (d.busy ≡ c.busy) = kept c was in
      rw (was, k.1) (k.2, refl)

  pub marks_alone : (s t : Slab (Connection S T)) (key : ℕ) → ((c : Connection S T) → get s key ≡ Some c → (d : Connection S T) × (get t key ≡ Some d) × (d.busy ≡ c.busy))
      → StaysVacant s t key → OthersStay s t key → MarksStay s t
  marks_alone s t key kept vacant others other =
      elim (cases_eq other key) [
        | inl same ↦ subst (λ (k : ℕ). (is_marked (get t k) ≡ is_marked (get s k)) × (is_some (get t k) ≡ is_some (get s k))) (sym same) (marks_at s t key (get s key) refl kept vacant)
        | inr differs ↦ rw (others other differs) (refl, refl)
      ]

  pub marks_then : (s t u : Slab (Connection S T)) → MarksStay s t → MarksStay t u → MarksStay s u
  marks_then s t u first second key = ((second key).0 ∙ (first key).0, (second key).1 ∙ (first key).1)

  pub marks_kept : (happens : Slab (Connection S T) → Slab (Connection S T) → ℕ → Type 0) → KeepsMarks happens → (keys : List ℕ) (s t : Slab (Connection S T)) → OneByOne happens keys s t → MarksStay s t
  marks_kept happens keeps [] s t same = λ key. rw same (refl, refl)
  marks_kept happens keeps (one ∷ keys) s t h =
      marks_then s h.0 t (marks_alone s h.0 one (keeps s h.0 one h.1.0) h.1.1 h.1.2) (marks_kept happens keeps keys h.0 t h.2)

  -- where it happens under other keys alone, what is under a key stays
  pub untouched : (happens : Slab (Connection S T) → Slab (Connection S T) → ℕ → Type 0) (keys : List ℕ) (s t : Slab (Connection S T)) (key : ℕ) → OneByOne happens keys s t
      → ¬ Contains keys key → get t key ≡ get s key
  untouched happens [] s t key same not = rw same refl
  untouched happens (one ∷ keys) s t key h not =
      untouched happens keys h.0 t key h.2 (λ listed. not (Contains-cons one key keys listed)) ∙ h.1.2 key (λ same. not (0, omega arith, sym same))

  -- the list stays right where the marks stay
  pub listed_still : (s t : Slab (Connection S T)) (busy : Vec ℕ Global) (behind : VecDeque ℕ Global) → MarksStay s t → ListsMarked s busy behind → ListsMarked t busy behind
  listed_still s t busy behind stay l =
      let less : slab_len t ≤ slab_len s = len-le s t (λ key is. sym (stay key).1 ∙ is) in
      record {
        marked = λ key. (λ listed. (stay key).0 ∙ (l.marked key).0 listed, λ is. (l.marked key).1 (sym (stay key).0 ∙ is));
        once = l.once;
        room = omega (arith, l.room, less);
        room_behind = omega (arith, l.room_behind, less);
      }

  -- a connection that is marked is there
  marked_there : (o : Option (Connection S T)) → is_marked o ≡ true → is_some o ≡ true
  marked_there None is = cc
  marked_there (Some c) is = refl

  -- the list with a key that it does not name
  one_key_more : (s : Slab (Connection S T)) (busy : Vec ℕ Global) (behind : VecDeque ℕ Global) (key : ℕ) → ListsMarked s busy behind → is_marked (get s key) ≡ false
      → AllPairs (λ x y. x ≢ y) ((behind.items ++ busy.items) ++ key ∷ [])
  one_key_more s busy behind key l unmarked =
      all_pairs_push (λ x y. x ≢ y) (behind.items ++ busy.items) key l.once
      (λ k d within same. (let is : is_marked (get s key) ≡ true = (l.marked key).0 (subst (λ (x : ℕ). Contains (behind.items ++ busy.items) x) same (Contains-get_or (behind.items ++ busy.items) k d within)) in cc))

  -- there is room for the key of a connection that is not marked
  pub has_room : (s : Slab (Connection S T)) (busy : Vec ℕ Global) (behind : VecDeque ℕ Global) (key : ℕ) → ListsMarked s busy behind → is_some (get s key) ≡ true → is_marked (get s key) ≡ false
      → length busy.items < vec_capacity busy
  has_room s busy behind key l here unmarked =
      let found : (other : ℕ) → Contains ((behind.items ++ busy.items) ++ key ∷ []) other → is_some (get s other) ≡ true =
      λ other listed. elim (Contains-push_cases (behind.items ++ busy.items) key other listed) [
        | inl before ↦ marked_there (get s other) ((l.marked other).0 before)
        | inr same ↦ subst (λ (x : ℕ). is_some (get s x) ≡ true) same here
      ] in
      let long : length ((behind.items ++ busy.items) ++ key ∷ []) ≤ slab_len s = keys-le ((behind.items ++ busy.items) ++ key ∷ []) s.slots (one_key_more s busy behind key l unmarked) found in
      omega (arith, length-append (behind.items ++ busy.items) (key ∷ []), length-append behind.items busy.items, long, l.room)

  -- a connection that was not marked is, and its key comes to the list
  pub listed_more : (s t : Slab (Connection S T)) (busy more : Vec ℕ Global) (behind : VecDeque ℕ Global) (key : ℕ) (c : Connection S T) → ListsMarked s busy behind
      → get s key ≡ Some c → c.busy ≡ false → is_marked (get t key) ≡ true → OthersStay s t key
      → more.items ≡ busy.items ++ key ∷ [] → vec_capacity busy ≤ vec_capacity more → ListsMarked t more behind
  listed_more s t busy more behind key c l was unmarked now others is_more grows =
      let is : behind.items ++ more.items ≡ (behind.items ++ busy.items) ++ key ∷ [] =
      ap (λ (x : List ℕ). behind.items ++ x) is_more ∙ sym (append_assoc behind.items busy.items (key ∷ [])) in
      let off : is_marked (get s key) ≡ false = rw was unmarked in
      let less : slab_len t ≤ slab_len s =
      len-le s t (λ other is. elim (cases_eq other key) [
        | inl same ↦ subst (λ (k : ℕ). is_some (get s k) ≡ true) (sym same) (rw was refl)
        | inr differs ↦ sym (ap is_some (others other differs)) ∙ is
      ]) in
      record {
        marked = λ other. (
          λ listed. elim (Contains-push_cases (behind.items ++ busy.items) key other (subst (λ (x : List ℕ). Contains x other) is listed)) [
            | inl before ↦ elim (cases_eq other key) [
              | inl same ↦ subst (λ (k : ℕ). is_marked (get t k) ≡ true) (sym same) now
              | inr differs ↦ ap is_marked (others other differs) ∙ (l.marked other).0 before
            ]
            | inr same ↦ subst (λ (k : ℕ). is_marked (get t k) ≡ true) same now
          ],
          λ on. subst (λ (x : List ℕ). Contains x other) (sym is) (elim (cases_eq other key) [
            | inl same ↦ subst (λ (k : ℕ). Contains ((behind.items ++ busy.items) ++ key ∷ []) k) (sym same) (Contains-push (behind.items ++ busy.items) key)
            | inr differs ↦ Contains-append_left (behind.items ++ busy.items) (key ∷ []) other ((l.marked other).1 (sym (ap is_marked (others other differs)) ∙ on))
          ]),
        );
        once = subst (λ (x : List ℕ). AllPairs (λ x y. x ≢ y) x) (sym is) (one_key_more s busy behind key l off);
        room = omega (arith, l.room, less, grows);
        room_behind = omega (arith, l.room_behind, less);
      }

  -- a slab of marked connections behind stays one after an event, if a connection that changed is marked
  pub behind_still : (s t : Slab (Connection S T)) (key : ℕ) → MarksBehind s → OthersStay s t key → ((c : Connection S T) → get t key ≡ Some c → c.busy ≡ true) → MarksBehind t
  behind_still s t key marks others on other c here is =
      elim (cases_eq other key) [
        | inl same ↦ on c (ap (get t) (sym same) ∙ here)
        | inr differs ↦ marks other c (sym (others other differs) ∙ here) is
      ]

  -- under this key the mark is right
  abbrev pub IsRightAt : Slab (Connection S T) → ℕ → Type 0
  IsRightAt t key = (d : Connection S T) → get t key ≡ Some d → d.busy ≡ true ↔ IsBehind d

  was_listed : (s t : Slab (Connection S T)) (busy : Vec ℕ Global) (behind : VecDeque ℕ Global) (key : ℕ) (b : Bool) → is_marked (get s key) ≡ b → ListsMarked s busy behind
      → (¬ (Contains busy.items key) → get t key ≡ get s key) → is_marked (get t key) ≡ true → Contains (behind.items ++ busy.items) key
  was_listed s t busy behind key true is l same on = (l.marked key).1 is
  was_listed s t busy behind key false is l same on =
      let stays : get t key ≡ get s key =
      same (λ listed. (let no : is_marked (get s key) ≡ true = (l.marked key).0 (Contains-append_right behind.items busy.items key listed) in cc)) in
      cc

  module _ (happens : Slab (Connection S T) → Slab (Connection S T) → ℕ → Type 0) where
    -- where a mark is right it stays so, since each mark that is set is right
    right_still : ((s t : Slab (Connection S T)) (key : ℕ) → Alone happens s t key → IsRightAt t key)
        → (keys : List ℕ) (s t : Slab (Connection S T)) (key : ℕ) → OneByOne happens keys s t → IsRightAt s key → IsRightAt t key
    right_still sets [] s t key same right = subst (λ (x : Slab (Connection S T)). IsRightAt x key) (sym same) right
    right_still sets (one ∷ keys) s t key h right =
        right_still sets keys h.0 t key h.2 (elim (cases_eq key one) [
          | inl same ↦ subst (λ (k : ℕ). IsRightAt h.0 k) (sym same) (sets s h.0 one h.1)
          | inr differs ↦ λ d here. right d (sym (h.1.2 key differs) ∙ here)
        ])

    -- the marks under these keys are right afterwards
    pub right_after : ((s t : Slab (Connection S T)) (key : ℕ) → Alone happens s t key → IsRightAt t key)
        → (keys : List ℕ) (s t : Slab (Connection S T)) (key : ℕ) → OneByOne happens keys s t → Contains keys key → IsRightAt t key
    right_after sets [] s t key h listed = absurd (omega (arith, listed.1))
    right_after sets (one ∷ keys) s t key h listed =
        elim (Contains-cons_cases one key keys listed) [
          | inl same ↦ right_still sets keys h.0 t key h.2 (subst (λ (k : ℕ). IsRightAt h.0 k) same (sets s h.0 one h.1))
          | inr later ↦ right_after sets keys h.0 t key h.2 later
        ]

    -- where none was under a key none comes
    there_before : (s t : Slab (Connection S T)) (key : ℕ) (o : Option (Connection S T)) → get s key ≡ o → (get s key ≡ None → get t key ≡ None) → is_some (get t key) ≡ true → is_some o ≡ true
    there_before s t key None was vacant is = let no : get t key ≡ None = vacant was in cc
    there_before s t key (Some c) was vacant is = refl

    none_comes : (keys : List ℕ) (s t : Slab (Connection S T)) (key : ℕ) → OneByOne happens keys s t → is_some (get t key) ≡ true → is_some (get s key) ≡ true
    none_comes [] s t key same is = subst (λ (x : Slab (Connection S T)). is_some (get x key) ≡ true) same is
    none_comes (one ∷ keys) s t key h is =
        let mid : is_some (get h.0 key) ≡ true = none_comes keys h.0 t key h.2 is in
        elim (cases_eq key one) [
          | inl same ↦ subst (λ (k : ℕ). is_some (get s k) ≡ true) (sym same)
              (there_before s h.0 one (get s one) refl h.1.1 (subst (λ (k : ℕ). is_some (get h.0 k) ≡ true) same mid))
          | inr differs ↦ sym (ap is_some (h.1.2 key differs)) ∙ mid
        ]

    -- the keys that the filter keeps of both lists are those of the connections that are marked now
    pub listed_after : (s t : Slab (Connection S T)) (busy empty : Vec ℕ Global) (behind kept : VecDeque ℕ Global) → ListsMarked s busy behind → OneByOne happens busy.items s t
        → kept.items ≡ filter (λ key. is_marked (get t key)) (behind.items ++ busy.items) → empty.items ≡ [] → deque_capacity behind ≤ deque_capacity kept
        → vec_capacity busy ≤ vec_capacity empty → ListsMarked t empty kept
    listed_after s t busy empty behind kept l h is_kept none grows grows_too =
        let less : slab_len t ≤ slab_len s = len-le s t (λ key. none_comes busy.items s t key h) in
        let is : kept.items ++ empty.items ≡ filter (λ key. is_marked (get t key)) (behind.items ++ busy.items) =
        ap (λ (x : List ℕ). kept.items ++ x) none ∙ append-nil kept.items ∙ is_kept in
        record {
          marked = λ key. (
            λ listed. (Contains-filter (λ k. is_marked (get t k)) (behind.items ++ busy.items) key (subst (λ (x : List ℕ). Contains x key) is listed)).1,
            λ on. subst (λ (x : List ℕ). Contains x key) (sym is) (Contains-to_filter (λ k. is_marked (get t k)) (behind.items ++ busy.items) key
                (was_listed s t busy behind key (is_marked (get s key)) refl l (untouched happens busy.items s t key h) on) on),
          );
          once = subst (λ (x : List ℕ). AllPairs (λ x y. x ≢ y) x) (sym is) (AllPairs-filter (λ x y. x ≢ y) (λ k. is_marked (get t k)) (behind.items ++ busy.items) l.once);
          room = omega (arith, l.room, less, grows_too);
          room_behind = omega (arith, l.room_behind, less, grows);
        }

    -- the keys of the connections that wait are all kept, and those that the filter keeps of the busy list come after them
    pub waiting_kept : (s t : Slab (Connection S T)) (busy : Vec ℕ Global) (behind : VecDeque ℕ Global) → ListsMarked s busy behind → OneByOne happens busy.items s t
        → behind.items ++ filter (λ key. is_marked (get t key)) busy.items ≡ filter (λ key. is_marked (get t key)) (behind.items ++ busy.items)
    waiting_kept s t busy behind l h =
        let stay : (key : ℕ) → Contains behind.items key → is_marked (get t key) ≡ true =
        λ key listed. ap is_marked (untouched happens busy.items s t key h (λ too. in_one behind.items busy.items key l.once listed too))
        ∙ (l.marked key).0 (Contains-append_left behind.items busy.items key listed) in
        sym (filter-append (λ key. is_marked (get t key)) behind.items busy.items
        ∙ ap (λ (x : List ℕ). x ++ filter (λ key. is_marked (get t key)) busy.items) (filter_all (λ key. is_marked (get t key)) behind.items stay))

  -- each connection that is behind is marked, if those under the keys of the busy list are so, and nothing else changed
  pub behind_everywhere : (s t : Slab (Connection S T)) (busy : Vec ℕ Global) (behind : VecDeque ℕ Global) → ListsMarked s busy behind → MarksBehind s
      → ((key : ℕ) → ¬ (Contains busy.items key) → get t key ≡ get s key) → ((key : ℕ) → Contains busy.items key → IsRightAt t key) → MarksBehind t
  behind_everywhere s t busy behind l marks same right key d here is = by_mark (is_marked (get s key)) refl
    where
      as_before : (¬ (Contains busy.items key)) → d.busy ≡ true
      as_before not = marks key d (sym (same key not) ∙ here) is

      by_mark : (b : Bool) → is_marked (get s key) ≡ b → d.busy ≡ true
      by_mark true on =
          elim (Contains-append_cases behind.items busy.items key ((l.marked key).1 on)) [
            | inl waits ↦ as_before (λ listed. in_one behind.items busy.items key l.once waits listed)
            | inr listed ↦ (right key listed d here).1 is
          ]
      by_mark false off =
          as_before (λ listed. (let on : is_marked (get s key) ≡ true = (l.marked key).0 (Contains-append_right behind.items busy.items key listed) in cc))

  -- one key more was gone through, and is kept where its connection is marked now
  pub kept_more : (keys kept : List ℕ) (index : ℕ) (s t : Slab (Connection S T)) → AllPairs (λ x y. x ≢ y) keys → index < length keys
      → kept ≡ filter (λ key. is_marked (get s key)) (take index keys) → OthersStay s t (get_or keys index 0)
      → filter (λ key. is_marked (get t key)) (take (index + 1) keys)
      ≡ kept ++ cond (is_marked (get t (get_or keys index 0))) (get_or keys index 0 ∷ []) []
  kept_more keys kept index s t once within is others =
      let same : filter (λ key. is_marked (get t key)) (take index keys) ≡ filter (λ key. is_marked (get s key)) (take index keys) =
      filter_same (λ key. is_marked (get t key)) (λ key. is_marked (get s key)) (take index keys)
      (λ key listed. ap is_marked (others key (before_it keys index key once within listed))) in
      filter_more (λ key. is_marked (get t key)) keys index 0 within ∙ ap (λ (x : List ℕ). x ++ cond (is_marked (get t (get_or keys index 0))) (get_or keys index 0 ∷ []) []) (same ∙ sym is)

  -- the lists are no longer than there are connections
  listed_len : (s : Slab (Connection S T)) (busy : Vec ℕ Global) (behind : VecDeque ℕ Global) → ListsMarked s busy behind → length behind.items + length busy.items ≤ slab_len s
  listed_len s busy behind l =
      let long : length (behind.items ++ busy.items) ≤ slab_len s =
      keys-le (behind.items ++ busy.items) s.slots l.once (λ key listed. marked_there (get s key) ((l.marked key).0 listed)) in
      omega (arith, long, length-append behind.items busy.items)

  -- there is room for one key more of those that are kept
  pub room_to_keep : (s : Slab (Connection S T)) (busy : Vec ℕ Global) (behind kept : VecDeque ℕ Global) (p : ℕ → Bool) (index : ℕ) → ListsMarked s busy behind → index < length busy.items
      → kept.items ≡ behind.items ++ filter p (take index busy.items) → deque_capacity behind ≤ deque_capacity kept → length kept.items < deque_capacity kept
  room_to_keep s busy behind kept p index l within is grows =
      let long : length kept.items ≡ length behind.items + count_by p (take index busy.items) =
      ap length is ∙ length-append behind.items (filter p (take index busy.items)) ∙ ap (λ (n : ℕ). length behind.items + n) (length-filter p (take index busy.items)) in
      omega (arith, long, count_by-le-length p (take index busy.items), length-take index busy.items, listed_len s busy behind l, l.room_behind, grows)

  -- there is room for the first of the connections that wait
  pub room_to_serve : (s : Slab (Connection S T)) (busy : Vec ℕ Global) (behind : VecDeque ℕ Global) → ListsMarked s busy behind → 1 ≤ length behind.items
      → length busy.items < vec_capacity busy
  room_to_serve s busy behind l some = omega (arith, listed_len s busy behind l, l.room, some)

  -- the first of the connections that wait comes to the busy list
  pub first_served : (s : Slab (Connection S T)) (busy more : Vec ℕ Global) (behind rest : VecDeque ℕ Global) (key : ℕ) → ListsMarked s busy behind
      → behind.items ≡ key ∷ rest.items → more.items ≡ busy.items ++ key ∷ [] → vec_capacity busy ≤ vec_capacity more → deque_capacity rest ≡ deque_capacity behind
      → ListsMarked s more rest
  first_served s busy more behind rest key l is is_more grows same =
      let old : behind.items ++ busy.items ≡ key ∷ (rest.items ++ busy.items) = ap (λ (x : List ℕ). x ++ busy.items) is in
      let new : rest.items ++ more.items ≡ (rest.items ++ busy.items) ++ key ∷ [] =
      ap (λ (x : List ℕ). rest.items ++ x) is_more ∙ sym (append_assoc rest.items busy.items (key ∷ [])) in
      let once : AllPairs (λ x y. x ≢ y) (key ∷ (rest.items ++ busy.items)) = subst (λ (x : List ℕ). AllPairs (λ x y. x ≢ y) x) old l.once in
      let tail : AllPairs (λ x y. x ≢ y) (rest.items ++ busy.items) = λ i j d before within. once (suc i) (suc j) d (omega arith) (omega arith) in
      record {
        marked = λ other. (
          λ listed. (l.marked other).0 (subst (λ (x : List ℕ). Contains x other) (sym old)
              (elim (Contains-push_cases (rest.items ++ busy.items) key other (subst (λ (x : List ℕ). Contains x other) new listed)) [
                | inl before ↦ Contains-cons key other (rest.items ++ busy.items) before
                | inr it ↦ subst (λ (k : ℕ). Contains (key ∷ (rest.items ++ busy.items)) k) it (0, omega arith, refl)
              ])),
          λ on. subst (λ (x : List ℕ). Contains x other) (sym new)
              (elim (Contains-cons_cases key other (rest.items ++ busy.items) (subst (λ (x : List ℕ). Contains x other) old ((l.marked other).1 on))) [
                | inl it ↦ subst (λ (k : ℕ). Contains ((rest.items ++ busy.items) ++ key ∷ []) k) it (Contains-push (rest.items ++ busy.items) key)
                | inr later ↦ Contains-append_left (rest.items ++ busy.items) (key ∷ []) other later
              ]),
        );
        once = subst (λ (x : List ℕ). AllPairs (λ x y. x ≢ y) x) (sym new)
            (all_pairs_push (λ x y. x ≢ y) (rest.items ++ busy.items) key tail
            (λ k d within same_key. once 0 (suc k) d (omega arith) (omega (arith, within)) (sym same_key)));
        room = omega (arith, l.room, grows);
        room_behind = omega (arith, l.room_behind, same);
      }

  -- one key more is kept, and one is not
  pub one_kept : (keys kept more : List ℕ) (index key : ℕ) (s t : Slab (Connection S T)) → AllPairs (λ x y. x ≢ y) keys → index < length keys → key ≡ get_or keys index 0
      → kept ≡ filter (λ k. is_marked (get s k)) (take index keys) → OthersStay s t key → is_marked (get t key) ≡ true → more ≡ kept ++ key ∷ []
      → more ≡ filter (λ k. is_marked (get t k)) (take (index + 1) keys)
  one_kept keys kept more index key s t once within at is others on pushed =
      let marked : is_marked (get t (get_or keys index 0)) ≡ true = subst (λ (k : ℕ). is_marked (get t k) ≡ true) at on in
      let whole : filter (λ k. is_marked (get t k)) (take (index + 1) keys) ≡ kept ++ get_or keys index 0 ∷ [] =
      kept_more keys kept index s t once within is (subst (λ (k : ℕ). OthersStay s t k) at others)
      ∙ ap (λ (b : Bool). kept ++ cond b (get_or keys index 0 ∷ []) []) marked in
      pushed ∙ ap (λ (k : ℕ). kept ++ k ∷ []) at ∙ sym whole

  pub one_left_out : (keys kept : List ℕ) (index key : ℕ) (s t : Slab (Connection S T)) → AllPairs (λ x y. x ≢ y) keys → index < length keys → key ≡ get_or keys index 0
      → kept ≡ filter (λ k. is_marked (get s k)) (take index keys) → OthersStay s t key → is_marked (get t key) ≡ false
      → kept ≡ filter (λ k. is_marked (get t k)) (take (index + 1) keys)
  one_left_out keys kept index key s t once within at is others off =
      let marked : is_marked (get t (get_or keys index 0)) ≡ false = subst (λ (k : ℕ). is_marked (get t k) ≡ false) at off in
      let whole : filter (λ k. is_marked (get t k)) (take (index + 1) keys) ≡ kept ++ [] =
      kept_more keys kept index s t once within is (subst (λ (k : ℕ). OthersStay s t k) at others)
      ∙ ap (λ (b : Bool). kept ++ cond b (get_or keys index 0 ∷ []) []) marked in
      sym (append-nil kept) ∙ sym whole

  -- where there are no connections the lists name none
  none_listed : (s : Slab (Connection S T)) (busy : Vec ℕ Global) (behind : VecDeque ℕ Global) → slab_len s ≡ 0 → busy.items ≡ [] → behind.items ≡ [] → ListsMarked s busy behind
  none_listed s busy behind none empty empty_too =
      let vacant : (key : ℕ) → get s key ≡ None = none_there s.slots none in
      let is : behind.items ++ busy.items ≡ [] = ap (λ (x : List ℕ). x ++ busy.items) empty_too ∙ empty in
      record {
        marked = λ key. (
          λ listed. absurd (let at : Contains [] key = subst (λ (x : List ℕ). Contains x key) is listed in omega (arith, at.1)),
          λ on. (let off : is_marked (get s key) ≡ false = ap is_marked (vacant key) in cc),
        );
        once = subst (λ (x : List ℕ). AllPairs (λ x y. x ≢ y) x) (sym is) (λ i j d before within. absurd (omega (arith, within)));
        room = omega (arith, none);
        room_behind = omega (arith, none);
      }

  none_behind : (s : Slab (Connection S T)) → slab_len s ≡ 0 → MarksBehind s
  none_behind s none key c here is = (let vacant : get s key ≡ None = none_there s.slots none key in cc)

  -- a thread that has no connections yet forgets none
  pub none_forgotten : {R : Type 0} (m : LoopConnections S T R) → HasNone m → NoneForgotten m
  none_forgotten m h = record {
    listed = none_listed m.connections m.busy m.behind h.0 (no_items m.busy h.1) (none_waiting m.behind h.2);
    behind = none_behind m.connections h.0;
  }

  -- more room, and nothing else
  pub listed_grown : (s t : Slab (Connection S T)) (busy more_busy : Vec ℕ Global) (behind more_behind : VecDeque ℕ Global) → ListsMarked s busy behind → t.slots ≡ s.slots
      → more_busy.items ≡ busy.items → more_behind.items ≡ behind.items → vec_capacity busy ≤ vec_capacity more_busy → deque_capacity behind ≤ deque_capacity more_behind
      → ListsMarked t more_busy more_behind
  listed_grown s t busy more_busy behind more_behind l same is_busy is_behind grows grows_too =
      let at : (key : ℕ) → get t key ≡ get s key = λ key. ap (λ (x : List (Option (Connection S T))). get_or x key None) same in
      let long : slab_len t ≡ slab_len s = ap full same in
      let is : more_behind.items ++ more_busy.items ≡ behind.items ++ busy.items = rw (is_busy, is_behind) refl in
      record {
        marked = λ key. (
          λ listed. ap is_marked (at key) ∙ (l.marked key).0 (subst (λ (x : List ℕ). Contains x key) is listed),
          λ on. subst (λ (x : List ℕ). Contains x key) (sym is) ((l.marked key).1 (sym (ap is_marked (at key)) ∙ on)),
        );
        once = subst (λ (x : List ℕ). AllPairs (λ x y. x ≢ y) x) (sym is) l.once;
        room = omega (arith, l.room, long, grows);
        room_behind = omega (arith, l.room_behind, long, grows_too);
      }

  pub behind_same : (s t : Slab (Connection S T)) → ((key : ℕ) → get t key ≡ get s key) → MarksBehind s → MarksBehind t
  behind_same s t same marks key c here is = marks key c (sym (same key) ∙ here) is

  -- a connection that is not marked comes, and there is room for its key
  pub listed_inserted : (s t : Slab (Connection S T)) (busy : Vec ℕ Global) (behind : VecDeque ℕ Global) (key : ℕ) (c : Connection S T) → ListsMarked s busy behind
      → get s key ≡ None → get t key ≡ Some c → c.busy ≡ false → OthersStay s t key → slab_len t ≤ vec_capacity busy → slab_len t ≤ deque_capacity behind
      → ListsMarked t busy behind
  listed_inserted s t busy behind key c l was is unmarked others room room_too =
      let at : (other : ℕ) → is_marked (get t other) ≡ is_marked (get s other) =
      λ other. elim (cases_eq other key) [
        | inl same ↦ subst (λ (k : ℕ). is_marked (get t k) ≡ is_marked (get s k)) (sym same) (ap is_marked is ∙ unmarked ∙ sym (ap is_marked was))
        | inr differs ↦ ap is_marked (others other differs)
      ] in
      record {
        marked = λ other. (λ listed. at other ∙ (l.marked other).0 listed, λ on. (l.marked other).1 (sym (at other) ∙ on));
        once = l.once;
        room = room;
        room_behind = room_too;
      }
