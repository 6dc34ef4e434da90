-- Lists of ids.
use Rattle.std.proofs.Common.{cond, ◌≡◌, ◌⊎◌, inl, inr, ⊎_elim, ℕ, zero, suc, ◌<◌, ◌≤◌, ◌≢◌, ◌==◌, true, false, ◌&&◌, List, [], ◌∷◌, ◌++◌, length, get_or, refl, ap, sym, subst, ◌∙◌, arith}
use mathlib.Core.Path.{fun_ext}
use Rattle.std.proofs.lemmas.Bool.{cases_lt, eqb-true, eq-eqb, or_cases, or_left, or_right, and_parts, cond_both, ne_eqb, cond-true, cond-false, eqb-false}
use Rattle.craq_protocol.specs.Members.{is_member, is_first, is_last, is_next, without, with_value, membership_of}

-- ---- a function, changed at one place

pub put_same : {A : Type 0} (f : ℕ → A) (n : ℕ) (v : A) → with_value f n v n ≡ v
unfolding with_value
put_same f n v = cond-true (n == n) v (f n) (eq-eqb n n refl)

pub put_other : {A : Type 0} (f : ℕ → A) (n : ℕ) (v : A) (m : ℕ) → m ≢ n → with_value f n v m ≡ f m
unfolding with_value
put_other f n v m ne = cond-false (m == n) v (f m) (ne_eqb m n ne)

-- a property of the new value at n, and of the old values elsewhere
pub put_each : {A : Type 0} (f : ℕ → A) (n : ℕ) (v : A) (P : ℕ → A → Type 0) → P n v → ((m : ℕ) → m ≢ n → P m (f m)) → (m : ℕ) → P m (with_value f n v m)
unfolding with_value
put_each f n v P here there m =
    cond_both (m == n) v (f m) (P m)
    (λ e. let Q : ℕ → Type 0 = λ k. P k v in subst Q (sym (eqb-true m n e)) here)
    (λ e. there m (eqb-false m n e))

-- ---- membership in a list

pub is_member_cases : (m : ℕ) (ms : List ℕ) (n : ℕ) → is_member (m ∷ ms) n ≡ true → (m ≡ n) ⊎ (is_member ms n ≡ true)
unfolding is_member
is_member_cases m ms n h = ⊎_elim (λ e. inl (eqb-true m n e)) (λ e. inr e) (or_cases (m == n) (is_member ms n) h)

pub is_member_none : (n : ℕ) → is_member [] n ≡ true → ⊥
unfolding is_member
is_member_none n h = cc

pub is_member_here : (m : ℕ) (ms : List ℕ) → is_member (m ∷ ms) m ≡ true
unfolding is_member
is_member_here m ms = or_left (m == m) (is_member ms m) (eq-eqb m m refl)

pub is_member_there : (m : ℕ) (ms : List ℕ) (n : ℕ) → is_member ms n ≡ true → is_member (m ∷ ms) n ≡ true
unfolding is_member
is_member_there m ms n h = or_right (m == n) (is_member ms n) h

pub last_has : (c : List ℕ) (n : ℕ) → is_last c n ≡ true → is_member c n ≡ true
unfolding is_member is_last
last_has [] n l = l
last_has (m ∷ []) n l = or_left (m == n) false l
last_has (m ∷ k ∷ ms) n l = or_right (m == n) (is_member (k ∷ ms) n) (last_has (k ∷ ms) n l)

next_cases : (m k : ℕ) (ms : List ℕ) (a b : ℕ) → is_next (m ∷ k ∷ ms) a b ≡ true → ((m ≡ a) × (k ≡ b)) ⊎ (is_next (k ∷ ms) a b ≡ true)
unfolding is_next
next_cases m k ms a b h =
    ⊎_elim
    (λ e. let p : ((m == a) ≡ true) × ((k == b) ≡ true) = and_parts (m == a) (k == b) e in inl (eqb-true m a p.0, eqb-true k b p.1))
    (λ e. inr e)
    (or_cases ((m == a) && (k == b)) (is_next (k ∷ ms) a b) h)

pub next_left : (c : List ℕ) (a b : ℕ) → is_next c a b ≡ true → is_member c a ≡ true
unfolding is_next
next_left [] a b h = cc
next_left (m ∷ []) a b h = cc
next_left (m ∷ k ∷ ms) a b h =
    ⊎_elim
    (λ e. let P : ℕ → Type 0 = λ x. is_member (m ∷ k ∷ ms) x ≡ true in subst P e.0 (is_member_here m (k ∷ ms)))
    (λ e. is_member_there m (k ∷ ms) a (next_left (k ∷ ms) a b e))
    (next_cases m k ms a b h)

pub next_right : (c : List ℕ) (a b : ℕ) → is_next c a b ≡ true → is_member c b ≡ true
unfolding is_next
next_right [] a b h = cc
next_right (m ∷ []) a b h = cc
next_right (m ∷ k ∷ ms) a b h =
    ⊎_elim
    (λ e. let P : ℕ → Type 0 = λ x. is_member (m ∷ k ∷ ms) x ≡ true in subst P e.1 (is_member_there m (k ∷ ms) k (is_member_here k ms)))
    (λ e. is_member_there m (k ∷ ms) b (next_right (k ∷ ms) a b e))
    (next_cases m k ms a b h)

-- ---- lists in the order of a rank

abbrev pub Sorted : (ℕ → ℕ) → List ℕ → Type 0
Sorted r [] = Unit {0}
Sorted r (m ∷ ms) = ((k : ℕ) → is_member ms k ≡ true → r m < r k) × Sorted r ms

pub last_highest : (r : ℕ → ℕ) (c : List ℕ) (n m : ℕ) → Sorted r c → is_last c n ≡ true → is_member c m ≡ true → r m ≤ r n
unfolding is_last
last_highest r [] n m s l h = absurd (is_member_none m h)
last_highest r (k ∷ []) n m s l h =
    let e : k ≡ n = eqb-true k n l in
    ⊎_elim (λ f. let g : m ≡ n = sym f ∙ e in let i : r m ≡ r n = ap r g in omega arith) (λ f. absurd (is_member_none m f)) (is_member_cases k [] m h)
last_highest r (k ∷ j ∷ ms) n m s l h =
    ⊎_elim
    (λ f. let i : r k ≡ r m = ap r f in let lt : r k < r n = s.0 n (last_has (j ∷ ms) n l) in omega arith)
    (λ f. last_highest r (j ∷ ms) n m s.1 l f)
    (is_member_cases k (j ∷ ms) m h)

pub first_lowest : (r : ℕ → ℕ) (c : List ℕ) (n m : ℕ) → Sorted r c → is_first c n ≡ true → is_member c m ≡ true → r n ≤ r m
unfolding is_first
first_lowest r [] n m s l h = absurd (is_member_none m h)
first_lowest r (k ∷ ms) n m s l h =
    let e : r k ≡ r n = ap r (eqb-true k n l) in
    ⊎_elim (λ f. let i : r k ≡ r m = ap r f in omega arith) (λ f. let lt : r k < r m = s.0 m f in omega arith) (is_member_cases k ms m h)

pub next_rank : (r : ℕ → ℕ) (c : List ℕ) (a b : ℕ) → Sorted r c → is_next c a b ≡ true → r a < r b
unfolding is_next
next_rank r [] a b s h = cc
next_rank r (m ∷ []) a b s h = cc
next_rank r (m ∷ k ∷ ms) a b s h =
    ⊎_elim
    (λ e. let x : r m ≡ r a = ap r e.0 in let y : r k ≡ r b = ap r e.1 in let lt : r m < r k = s.0 k (is_member_here k ms) in omega arith)
    (λ e. next_rank r (k ∷ ms) a b s.1 e)
    (next_cases m k ms a b h)

-- no id is between the two
pub next_gap : (r : ℕ → ℕ) (c : List ℕ) (a b q : ℕ) → Sorted r c → is_next c a b ≡ true → is_member c q ≡ true → r q < r b → r q ≤ r a
unfolding is_next
next_gap r [] a b q s h hq lt = absurd (is_member_none q hq)
next_gap r (m ∷ []) a b q s h hq lt = cc
next_gap r (m ∷ k ∷ ms) a b q s h hq lt =
    ⊎_elim
    (λ e.
    let x : r m ≡ r a = ap r e.0 in
    let y : r k ≡ r b = ap r e.1 in
    ⊎_elim
    (λ f. let z : r m ≡ r q = ap r f in omega arith)
    (λ f. ⊎_elim (λ i. let z : r k ≡ r q = ap r i in absurd (omega arith)) (λ i. let z : r k < r q = s.1.0 q i in absurd (omega arith)) (is_member_cases k ms q f))
    (is_member_cases m (k ∷ ms) q hq))
    (λ e.
    ⊎_elim
    (λ f. let z : r m ≡ r q = ap r f in let y : r m < r a = s.0 a (next_left (k ∷ ms) a b e) in omega arith)
    (λ f. next_gap r (k ∷ ms) a b q s.1 e f lt)
    (is_member_cases m (k ∷ ms) q hq))
    (next_cases m k ms a b h)

pub sorted_same : (r : ℕ → ℕ) (c : List ℕ) (a b : ℕ) → Sorted r c → is_member c a ≡ true → is_member c b ≡ true → r a ≡ r b → a ≡ b
sorted_same r [] a b s x y e = absurd (is_member_none a x)
sorted_same r (m ∷ ms) a b s x y e =
    ⊎_elim
    (λ f. ⊎_elim (λ g. sym f ∙ g) (λ g. let z : r m < r b = s.0 b g in let i : r m ≡ r a = ap r f in absurd (omega arith)) (is_member_cases m ms b y))
    (λ f. ⊎_elim (λ g. let z : r m < r a = s.0 a f in let i : r m ≡ r b = ap r g in absurd (omega arith)) (λ g. sorted_same r ms a b s.1 f g e) (is_member_cases m ms b y))
    (is_member_cases m ms a x)

-- ranks that keep the order
pub sorted_like : (r t : ℕ → ℕ) (c : List ℕ) → ((a b : ℕ) → is_member c a ≡ true → is_member c b ≡ true → r a < r b → t a < t b) → Sorted r c → Sorted t c
sorted_like r t [] f s = tt
sorted_like r t (m ∷ ms) f s = (
  λ k h. f m k (is_member_here m ms) (is_member_there m ms k h) (s.0 k h),
  sorted_like r t ms (λ a b x y lt. f a b (is_member_there m ms a x) (is_member_there m ms b y) lt) s.1,
)

-- ---- one less

pub without_parts : (c : List ℕ) (n m : ℕ) → is_member (without c n) m ≡ true → (is_member c m ≡ true) × (m ≢ n)
unfolding without
without_parts [] n m h = absurd (is_member_none m h)
without_parts (k ∷ ms) n m h =
    cond_both (k == n) (without ms n) (k ∷ without ms n) (λ (l : List ℕ). is_member l m ≡ true → (is_member (k ∷ ms) m ≡ true) × (m ≢ n))
    (λ e i. let p : (is_member ms m ≡ true) × (m ≢ n) = without_parts ms n m i in (is_member_there k ms m p.0, p.1))
    (λ e i.
    ⊎_elim
    (λ f. let P : ℕ → Type 0 = λ x. (is_member (k ∷ ms) x ≡ true) × (x ≢ n) in subst P f (is_member_here k ms, eqb-false k n e))
    (λ f. let p : (is_member ms m ≡ true) × (m ≢ n) = without_parts ms n m f in (is_member_there k ms m p.0, p.1))
    (is_member_cases k (without ms n) m i))
    h

pub without_keeps : (c : List ℕ) (n m : ℕ) → is_member c m ≡ true → m ≢ n → is_member (without c n) m ≡ true
unfolding without
without_keeps [] n m h ne = absurd (is_member_none m h)
without_keeps (k ∷ ms) n m h ne =
    cond_both (k == n) (without ms n) (k ∷ without ms n) (λ (l : List ℕ). is_member l m ≡ true)
    (λ e. ⊎_elim (λ f. absurd (ne (sym f ∙ eqb-true k n e))) (λ f. without_keeps ms n m f ne) (is_member_cases k ms m h))
    (λ e.
    ⊎_elim
    (λ f. let P : ℕ → Type 0 = λ x. is_member (k ∷ without ms n) x ≡ true in subst P f (is_member_here k (without ms n)))
    (λ f. is_member_there k (without ms n) m (without_keeps ms n m f ne))
    (is_member_cases k ms m h))

pub without_sorted : (r : ℕ → ℕ) (c : List ℕ) (n : ℕ) → Sorted r c → Sorted r (without c n)
unfolding without
without_sorted r [] n s = tt
without_sorted r (k ∷ ms) n s =
    cond_both (k == n) (without ms n) (k ∷ without ms n) (λ (l : List ℕ). Sorted r l)
    (λ e. without_sorted r ms n s.1)
    (λ e. (λ j h. s.0 j (without_parts ms n j h).0, without_sorted r ms n s.1))

-- ---- one more at the end

pub push_parts : (c : List ℕ) (n m : ℕ) → is_member (c ++ n ∷ []) m ≡ true → (is_member c m ≡ true) ⊎ (n ≡ m)
push_parts [] n m h = ⊎_elim (λ e. inr e) (λ e. absurd (is_member_none m e)) (is_member_cases n [] m h)
push_parts (k ∷ ms) n m h =
    ⊎_elim
    (λ e. let P : ℕ → Type 0 = λ x. is_member (k ∷ ms) x ≡ true in inl (subst P e (is_member_here k ms)))
    (λ e. ⊎_elim (λ f. inl (is_member_there k ms m f)) (λ f. inr f) (push_parts ms n m e))
    (is_member_cases k (ms ++ n ∷ []) m h)

pub push_keeps : (c : List ℕ) (n m : ℕ) → is_member c m ≡ true → is_member (c ++ n ∷ []) m ≡ true
push_keeps [] n m h = absurd (is_member_none m h)
push_keeps (k ∷ ms) n m h =
    ⊎_elim
    (λ e. let P : ℕ → Type 0 = λ x. is_member (k ∷ (ms ++ n ∷ [])) x ≡ true in subst P e (is_member_here k (ms ++ n ∷ [])))
    (λ e. is_member_there k (ms ++ n ∷ []) m (push_keeps ms n m e))
    (is_member_cases k ms m h)

pub push_new : (c : List ℕ) (n : ℕ) → is_member (c ++ n ∷ []) n ≡ true
push_new [] n = is_member_here n []
push_new (k ∷ ms) n = is_member_there k (ms ++ n ∷ []) n (push_new ms n)

pub push_sorted : (r : ℕ → ℕ) (c : List ℕ) (n : ℕ) → Sorted r c → ((k : ℕ) → is_member c k ≡ true → r k < r n) → Sorted r (c ++ n ∷ [])
push_sorted r [] n s f = (λ k h. absurd (is_member_none k h), tt)
push_sorted r (m ∷ ms) n s f = (
  λ k h. ⊎_elim (λ e. s.0 k e) (λ e. let P : ℕ → Type 0 = λ x. r m < r x in subst P e (f m (is_member_here m ms))) (push_parts ms n k h),
  push_sorted r ms n s.1 (λ k h. f k (is_member_there m ms k h)),
)

-- ---- by index

pub get_has : (c : List ℕ) (i : ℕ) → i < length c → is_member c (get_or c i 0) ≡ true
get_has [] i lt = absurd (omega arith)
get_has (m ∷ ms) zero lt = is_member_here m ms
get_has (m ∷ ms) (suc i) lt = is_member_there m ms (get_or ms i 0) (get_has ms i (omega arith))

pub sorted_at : (r : ℕ → ℕ) (c : List ℕ) (i j : ℕ) → Sorted r c → i < j → j < length c → r (get_or c i 0) < r (get_or c j 0)
sorted_at r [] i j s lt le = absurd (omega arith)
sorted_at r (m ∷ ms) i zero s lt le = absurd (omega arith)
sorted_at r (m ∷ ms) zero (suc j) s lt le = s.0 (get_or ms j 0) (get_has ms j (omega arith))
sorted_at r (m ∷ ms) (suc i) (suc j) s lt le = sorted_at r ms i j s.1 (omega arith) (omega arith)

-- ---- the memberships

pub membership_none : (cs : List (List ℕ)) (n : ℕ) → is_member (membership_of cs 0) n ≡ true → ⊥
unfolding membership_of
membership_none cs n h = is_member_none n h

pub membership_past : (cs : List (List ℕ)) (x n : ℕ) → is_member (membership_of cs x) n ≡ true → x ≤ length cs
unfolding membership_of
membership_past cs zero n h = omega arith
membership_past [] (suc x) n h = absurd (is_member_none n h)
membership_past (c ∷ cs) (suc zero) n h = omega arith
membership_past (c ∷ cs) (suc (suc x)) n h = let le : suc x ≤ length cs = membership_past cs (suc x) n h in omega arith

pub membership_old : (cs : List (List ℕ)) (c : List ℕ) (x : ℕ) → x ≤ length cs → membership_of (cs ++ c ∷ []) x ≡ membership_of cs x
unfolding membership_of
membership_old cs c zero le = refl
membership_old [] c (suc x) le = absurd (omega arith)
membership_old (d ∷ cs) c (suc zero) le = refl
membership_old (d ∷ cs) c (suc (suc x)) le = membership_old cs c (suc x) (omega arith)

pub membership_new : (cs : List (List ℕ)) (c : List ℕ) → membership_of (cs ++ c ∷ []) (suc (length cs)) ≡ c
unfolding membership_of
membership_new [] c = refl
membership_new (d ∷ cs) c = membership_new cs c

pub length_push : (cs : List (List ℕ)) (c : List ℕ) → length (cs ++ c ∷ []) ≡ suc (length cs)
length_push [] c = refl
length_push (d ∷ cs) c = ap (λ n. suc n) (length_push cs c)

pub membership_beyond : (cs : List (List ℕ)) (x : ℕ) → length cs < x → membership_of cs x ≡ []
unfolding membership_of
membership_beyond cs zero lt = absurd (omega arith)
membership_beyond [] (suc x) lt = refl
membership_beyond (c ∷ cs) (suc zero) lt = absurd (omega arith)
membership_beyond (c ∷ cs) (suc (suc x)) lt = membership_beyond cs (suc x) (omega arith)

-- the newest membership
pub membership_present : (cs : List (List ℕ)) (c : List ℕ) → membership_of (cs ++ c ∷ []) (length (cs ++ c ∷ [])) ≡ c
membership_present cs c = ap (membership_of (cs ++ c ∷ [])) (length_push cs c) ∙ membership_new cs c

-- a member of some membership was one of an old one, or is one of the new one
pub membership_cases : (cs : List (List ℕ)) (c : List ℕ) (x n : ℕ) → is_member (membership_of (cs ++ c ∷ []) x) n ≡ true
    → ((x ≤ length cs) × (is_member (membership_of cs x) n ≡ true)) ⊎ ((x ≡ suc (length cs)) × (is_member c n ≡ true))
membership_cases cs c x n h =
    let le : x ≤ length (cs ++ c ∷ []) = membership_past (cs ++ c ∷ []) x n h in
    let len : length (cs ++ c ∷ []) ≡ suc (length cs) = length_push cs c in
    let P : List ℕ → Type 0 = λ l. is_member l n ≡ true in
    ⊎_elim
    (λ lt. let e : x ≡ suc (length cs) = omega arith in inr (e, subst P (ap (membership_of (cs ++ c ∷ [])) e ∙ membership_new cs c) h))
    (λ ge. inl (ge, subst P (membership_old cs c x ge) h))
    (cases_lt (length cs) x)

pub put_id : {A : Type 0} (f : ℕ → A) (n : ℕ) (v : A) → f n ≡ v → with_value f n v ≡ f
put_id f n v e = fun_ext (put_each f n v (λ m x. x ≡ f m) (sym e) (λ m ne. refl))

-- a field of records by id, of which one was changed
pub field_put : {B C : Type 0} (f : B → C) (nodes : ℕ → B) (n : ℕ) (v : B) (m : ℕ) → f (with_value nodes n v m) ≡ with_value (λ k. f (nodes k)) n (f v) m
unfolding with_value
field_put f nodes n v m = cond_both (m == n) v (nodes m) (λ x. f x ≡ cond (m == n) (f v) (f (nodes m)))
    (λ e. sym (cond-true (m == n) (f v) (f (nodes m)) e))
    (λ e. sym (cond-false (m == n) (f v) (f (nodes m)) e))

pub field_kept : {B C : Type 0} (f : B → C) (nodes : ℕ → B) (n : ℕ) (v : B) → f v ≡ f (nodes n) → (m : ℕ) → f (with_value nodes n v m) ≡ f (nodes m)
field_kept f nodes n v e = put_each nodes n v (λ m x. f x ≡ f (nodes m)) e (λ m ne. refl)
