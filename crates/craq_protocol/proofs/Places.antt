-- The places of ids in memberships; there is at most one tail.
use Rattle.std.proofs.Common.{◌≡◌, ⊎_elim, ℕ, zero, suc, ◌<◌, ◌≤◌, true, false, List, length, sym, subst, arith}
use Rattle.std.proofs.lemmas.Bool.{cases_lt, cases_order, both_ways}
use Rattle.craq_protocol.specs.Members.{is_member, is_last, is_next, membership_of}
use Rattle.craq_protocol.specs.Machine.{MachineState}
use Rattle.craq_protocol.proofs.Lists.{last_highest, next_gap, next_left, next_right, next_rank, membership_none, membership_past}
use Rattle.craq_protocol.proofs.Invariant.{Ages, Shape, Clauses}

-- an older member of a later membership already was a member
pub older : {cs : List (List ℕ)} {joined : List ℕ} {g : Ages} → Shape cs joined g → (x z q m : ℕ)
    → is_member (membership_of cs x) m ≡ true → is_member (membership_of cs z) q ≡ true → g.rank q < g.rank m → x ≤ z → is_member (membership_of cs x) q ≡ true
older h x z q m hm hq lt le =
    let a : _ = h.elders_first z x q m hq hm lt in
    let b : _ = h.since_born x m hm in
    h.stays z x q hq (omega arith) le

-- an id before t in a later membership is no later than t's predecessor
pub before_next : {cs : List (List ℕ)} {joined : List ℕ} {g : Ages} → Shape cs joined g → (x z q s t : ℕ)
    → is_next (membership_of cs x) s t ≡ true → is_member (membership_of cs z) q ≡ true → g.rank q < g.rank t → x ≤ z → g.rank q ≤ g.rank s
before_next {cs} {joined} {g} h x z q s t nx hq lt le =
    next_gap g.rank (membership_of cs x) s t q (h.sorted x) nx (older h x z q t (next_right (membership_of cs x) s t nx) hq lt le) lt

pub not_last : {cs : List (List ℕ)} {joined : List ℕ} {g : Ages} → Shape cs joined g → (x n m : ℕ)
    → is_last (membership_of cs x) n ≡ true → is_member (membership_of cs x) m ≡ true → g.rank n < g.rank m → ⊥
not_last {cs} {joined} {g} h x n m l hm lt = let le : _ = last_highest g.rank (membership_of cs x) n m (h.sorted x) l hm in absurd (omega arith)

pub some_epoch : (cs : List (List ℕ)) (x n : ℕ) → is_member (membership_of cs x) n ≡ true → 0 < x
some_epoch cs zero n h = absurd (membership_none cs n h)
some_epoch cs (suc x) n h = omega arith

-- a tail has no ready node after it
pub tail_last : {A : Type 0} → {w : MachineState A} {g : Ages} → Clauses w g → (n m : ℕ)
    → is_last (membership_of w.memberships (w.epoch n)) n ≡ true → is_member (membership_of w.memberships (length w.memberships)) n ≡ true
    → w.ready m ≡ true → is_member (membership_of w.memberships (length w.memberships)) m ≡ true → g.rank n < g.rank m → ⊥
tail_last {A} {w} {g} c n m l hn r hm lt =
    ⊎_elim
    (λ a. c.never_last_before m n (w.epoch n) r hn lt (omega arith) a l)
    (λ a. not_last c.shape (w.epoch n) n m l (c.shape.stays (length w.memberships) (w.epoch n) m hm a (c.epoch_made n)) lt)
    (cases_lt (w.epoch n) (g.born m))

-- there is at most one tail
pub one_tail : {A : Type 0} → {w : MachineState A} {g : Ages} → Clauses w g → (n m : ℕ)
    → w.running n ≡ true → w.ready n ≡ true → is_last (membership_of w.memberships (w.epoch n)) n ≡ true
    → w.running m ≡ true → w.ready m ≡ true → is_last (membership_of w.memberships (w.epoch m)) m ≡ true → n ≡ m
one_tail {A} {w} {g} c n m un rn ln um rm lm =
    let hn : _ = c.running_is_member n un in
    let hm : _ = c.running_is_member m um in
    ⊎_elim
    (λ e. c.shape.rank_is_id (length w.memberships) (length w.memberships) n m hn hm e)
    (λ o. ⊎_elim (λ lt. absurd (tail_last c n m ln hn rm hm lt)) (λ lt. absurd (tail_last c m n lm hm rn hn lt)) o)
    (cases_order (g.rank n) (g.rank m))

-- while a member to which a floor was sent is not ready, there is no tail
pub no_tail : {A : Type 0} → {w : MachineState A} {g : Ages} → Clauses w g → (e s t n : ℕ)
    → w.ready s ≡ true → e ≤ w.epoch s → is_next (membership_of w.memberships e) s t ≡ true
    → w.ready t ≡ false → is_member (membership_of w.memberships (length w.memberships)) t ≡ true
    → w.running n ≡ true → w.ready n ≡ true → is_last (membership_of w.memberships (w.epoch n)) n ≡ true → ⊥
no_tail {A} {w} {g} c e s t n rs le nx ut ht un rn l =
    let hn : is_member (membership_of w.memberships (length w.memberships)) n ≡ true = c.running_is_member n un in
    let hs : is_member (membership_of w.memberships e) s ≡ true = next_left (membership_of w.memberships e) s t nx in
    let hte : is_member (membership_of w.memberships e) t ≡ true = next_right (membership_of w.memberships e) s t nx in
    let st : g.rank s < g.rank t = next_rank g.rank (membership_of w.memberships e) s t (c.shape.sorted e) nx in
    let lte : g.born t ≤ e = c.shape.since_born e t hte in
    let lse : g.born s ≤ e = c.shape.since_born e s hs in
    let ee : e ≤ length w.memberships = membership_past w.memberships e s hs in
    let en : w.epoch n ≤ length w.memberships = c.epoch_made n in
    let later : e ≤ w.epoch n → g.rank n < g.rank t → ⊥ =
    λ a lt. not_last c.shape (w.epoch n) n t l (c.shape.stays (length w.memberships) (w.epoch n) t ht (omega arith) en) lt
    in
    ⊎_elim
    (λ lt.
    let ns : g.rank n ≤ g.rank s = before_next c.shape e (length w.memberships) n s t nx hn lt ee in
    ⊎_elim
    (λ eq. let same : n ≡ s = c.shape.rank_is_id (length w.memberships) e n s hn hs eq in
    let P : ℕ → Type 0 = λ k. e ≤ w.epoch k in
    later (subst P (sym same) le) lt)
    (λ o. ⊎_elim
    (λ lt2. ⊎_elim
    (λ a. c.never_last_before s n (w.epoch n) rs hn lt2 (omega arith) a l)
    (λ a. ⊎_elim
    (λ b. not_last c.shape (w.epoch n) n s l (c.shape.stays e (w.epoch n) s hs a (omega arith)) lt2)
    (λ b. later b lt)
    (cases_lt (w.epoch n) e))
    (cases_lt (w.epoch n) (g.born s)))
    (λ lt2. absurd (omega arith))
    o)
    (cases_order (g.rank n) (g.rank s)))
    (λ ge. ⊎_elim
    (λ eq. let same : n ≡ t = c.shape.rank_is_id (length w.memberships) (length w.memberships) n t hn ht eq in
    let P : ℕ → Type 0 = λ k. w.ready k ≡ true in
    both_ways (w.ready t) ut (subst P same rn))
    (λ o. both_ways (w.ready t) ut (c.elders_ready n t rn ht (⊎_elim (λ a. absurd (omega arith)) (λ a. a) o)))
    (cases_order (g.rank n) (g.rank t)))
    (cases_lt (g.rank n) (g.rank t))
