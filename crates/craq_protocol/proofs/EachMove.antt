-- Each move preserves the invariant and takes nothing back; so do lists of moves.
use Rattle.std.proofs.Common.{Option, Some, None, ◌≡◌, inl, inr, ⊎_elim, ℕ, zero, suc, ◌+◌, ◌<◌, ◌≤◌, ◌==◌, nat_lt, nat_le, true, false, not, ◌&&◌, List, [], ◌∷◌, ◌++◌, length, take, slice_get, refl, ap, sym, subst, ◌∙◌, arith, take_all}
use Rattle.std.proofs.lemmas.Bool.{and_parts, both_ways, not-true, ltb-true, leb-true, eqb-true, cases_order, cond_both, cases_eq}
use Rattle.std.proofs.lemmas.List.{length-take-le}
use Rattle.craq_protocol.specs.Members.{is_member, is_first, is_last, is_next, membership_of, with_value, without}
use Rattle.craq_protocol.specs.Machine.{MachineBody, Message, MachineState, MachineMove, Entry, Ack, Copy, Floor, Append, Take, Become_ready, Adopt, Stop, Remove, Join, Send_entry, Send_ack, Send_copy, Send_floor, entry_at, after_commit, after_send, after_receipt, after_take, after_floor, after_send_entry, after_move, after_moves}
use Rattle.craq_protocol.specs.Promises.{IsPrefix, Sent}
use Rattle.craq_protocol.proofs.Lists.{put_each, put_same, put_other, membership_old, first_lowest, next_gap, next_left, next_right, next_rank}
use Rattle.craq_protocol.proofs.Prefix.{prefix_self, prefix_more, prefix_trans, prefix_both, prefix_take, prefix_within, prefix_next, prefix_length, entry_at_grows}
use Rattle.craq_protocol.proofs.Invariant.{Ages, Clauses, HoldsLog, Truth, Invariant}
use Rattle.craq_protocol.proofs.Places.{some_epoch}
use Rattle.craq_protocol.proofs.Grows.{clauses_grows, clauses_marks}
use Rattle.craq_protocol.proofs.BecomesReady.{clauses_becomes_ready}
use Rattle.craq_protocol.proofs.Adopts.{clauses_adopts, clauses_stops, clauses_floors}
use Rattle.craq_protocol.proofs.Sends.{clauses_sends}
use Rattle.craq_protocol.proofs.NextMembership.{clauses_removes}
use Rattle.craq_protocol.proofs.Joins.{clauses_joins, blank_yet}
use Rattle.craq_protocol.proofs.Shapes.{aged}
use Rattle.craq_protocol.proofs.Stays.{later_trans, later_marks, later_grows, later_becomes_ready, later_adopts, later_floors, later_stops, later_sends, later_next_membership, later_joins}
use Rattle.craq_protocol.proofs.LeadsTo.{LeadsTo, goes_nowhere, goes_on, goes_if, commit_goes, grow_goes}

appends : {A : Type 0} → {w : MachineState A} → Invariant w → (n : ℕ) (x : A) → LeadsTo w (after_move w (Append n x))
appends {A} {w} i n x =
    goes_if w ((w.running n && w.ready n) && is_first (membership_of w.memberships (w.epoch n)) n) (after_commit (record w { history = with_value w.history n (w.history n ++ x ∷ []) }) n) i
    (λ e.
    let a : _ = and_parts (w.running n && w.ready n) (is_first (membership_of w.memberships (w.epoch n)) n) e in
    let b : _ = and_parts (w.running n) (w.ready n) a.0 in
    grow_goes i n (w.history n ++ x ∷ []) (prefix_more (w.history n) (x ∷ [])) (i.clauses.ready_has_epoch n b.1)
    (λ q hq lt. let le : _ = first_lowest i.ages.rank (membership_of w.memberships (w.epoch n)) n q (i.clauses.shape.sorted (w.epoch n)) a.1 hq in absurd (omega arith)))

takes_entry : {A : Type 0} → {w : MachineState A} → (i : Invariant w) → (n s j : ℕ) (x : A) → is_next (membership_of w.memberships (w.epoch n)) s n ≡ true → j ≡ length (w.history n) + 1
    → Truth w i.ages (w.epoch n) s n (Entry j x) → LeadsTo w (after_commit (record w { history = with_value w.history n (w.history n ++ x ∷ []) }) n)
takes_entry {A} {w} i n s j x nx at a =
    let e : j ≡ suc (length (w.history n)) = omega arith in
    grow_goes i n (w.history n ++ x ∷ []) (prefix_more (w.history n) (x ∷ []))
    (some_epoch w.memberships (w.epoch n) s (next_left (membership_of w.memberships (w.epoch n)) s n nx))
    (λ q hq lt.
    let le : i.ages.rank q ≤ i.ages.rank s = next_gap i.ages.rank (membership_of w.memberships (w.epoch n)) s n q (i.clauses.shape.sorted (w.epoch n)) nx hq lt in
    let P : ℕ → Type 0 = λ k. entry_at (w.history q) k ≡ Some x in
    prefix_next (i.clauses.elders_hold n q hq lt) x (subst P e (a q hq le)))

takes_ack : {A : Type 0} → {w : MachineState A} → (i : Invariant w) → (n p : ℕ) → w.acknowledged n ≤ p → w.running n ≡ true → w.ready n ≡ true → p ≤ length (w.history n) → p ≤ length w.log
    → LeadsTo w (record w { acknowledged = with_value w.acknowledged n p })
takes_ack {A} {w} i n p lt u r le ll = record {
  invariant = record {
    ages = i.ages;
    clauses = clauses_marks i.clauses n p le (prefix_within p (i.clauses.committed_held n r (i.clauses.running_is_member n u)) ll);
    tails = put_each w.acknowledged n p (λ m x. w.running m ≡ true → w.ready m ≡ true → is_last (membership_of w.memberships (w.epoch m)) m ≡ true → (w.history m ≡ w.log) × (length (w.history m) ≤ x))
        (λ u r l. let t : HoldsLog w n = i.tails n u r l in (t.0, omega (arith, t.1, lt)))
        (λ m ne. i.tails m);
  };
  later = later_marks w n p lt;
}

takes_copy : {A : Type 0} → {w : MachineState A} → (i : Invariant w) → (n s : ℕ) (xs : List A) → is_next (membership_of w.memberships (w.epoch n)) s n ≡ true → w.ready n ≡ false → length (w.history n) < length xs
    → Truth w i.ages (w.epoch n) s n (Copy xs) → LeadsTo w (record w { history = with_value w.history n xs; acknowledged = with_value w.acknowledged n (length xs) })
takes_copy {A} {w} i n s xs nx un lt a =
    let c : List ℕ = membership_of w.memberships (w.epoch n) in
    let hs : is_member c s ≡ true = next_left c s n nx in
    let less : i.ages.rank s < i.ages.rank n = next_rank i.ages.rank c s n (i.clauses.shape.sorted (w.epoch n)) nx in
    let p : IsPrefix (w.history n) xs = prefix_both (i.clauses.elders_hold n s hs less) (a.1 s hs (omega arith)) (omega arith) in
    let v : MachineState A = record w { history = with_value w.history n xs } in
    let k : Clauses v i.ages = clauses_grows i.clauses n xs p (some_epoch w.memberships (w.epoch n) s hs)
    (λ q hq lq. a.1 q hq (next_gap i.ages.rank c s n q (i.clauses.shape.sorted (w.epoch n)) nx hq lq)) in
    let same : with_value w.history n xs n ≡ xs = put_same w.history n xs in
    let le : length xs ≤ length (with_value w.history n xs n) = omega (arith, ap length same) in
    let P : List A → Type 0 = λ l. IsPrefix (take (length xs) l) w.log in
    record {
      invariant = record {
        ages = i.ages;
        clauses = clauses_marks k n (length xs) le (subst P (sym same) (prefix_trans (prefix_take (length xs) xs) a.0));
        tails = put_each w.history n xs (λ m h. w.running m ≡ true → w.ready m ≡ true → is_last (membership_of w.memberships (w.epoch m)) m ≡ true → (h ≡ w.log) × (length h ≤ with_value w.acknowledged n (length xs) m))
            (λ u r l. absurd (both_ways (w.ready n) un r))
            (λ m ne u r l. let t : HoldsLog w m = i.tails m u r l in (t.0, omega (arith, t.1, put_other w.acknowledged n (length xs) m ne)));
      };
      later = later_trans (later_grows w n xs p) (later_marks v n (length xs) (omega (arith, i.clauses.acknowledged_held n)));
    }

receives : {A : Type 0} → {w : MachineState A} → (i : Invariant w) → (n s : ℕ) (b : MachineBody A) → w.running n ≡ true → Sent w.messages (record { epoch = w.epoch n; from = s; to = n; body = b })
    → LeadsTo w (after_receipt w n s b)
receives {A} {w} i n s (Entry j x) u sent =
    let c : List ℕ = membership_of w.memberships (w.epoch n) in
    goes_if w (is_next c s n && (j == length (w.history n) + 1)) (after_commit (record w { history = with_value w.history n (w.history n ++ x ∷ []) }) n) i
    (λ e.
    let a : _ = and_parts (is_next c s n) (j == length (w.history n) + 1) e in
    takes_entry i n s j x a.0 (eqb-true j (length (w.history n) + 1) a.1) (i.clauses.truthful (record { epoch = w.epoch n; from = s; to = n; body = Entry j x }) sent))
receives {A} {w} i n s (Ack p) u sent =
    let c : List ℕ = membership_of w.memberships (w.epoch n) in
    goes_if w ((is_next c n s && w.ready n) && (nat_lt (w.acknowledged n) p && nat_le p (length (w.history n)))) (record w { acknowledged = with_value w.acknowledged n p }) i
    (λ e.
    let a : _ = and_parts (is_next c n s && w.ready n) (nat_lt (w.acknowledged n) p && nat_le p (length (w.history n))) e in
    let b : _ = and_parts (is_next c n s) (w.ready n) a.0 in
    let d : _ = and_parts (nat_lt (w.acknowledged n) p) (nat_le p (length (w.history n))) a.1 in
    takes_ack i n p (let lt : w.acknowledged n < p = ltb-true (w.acknowledged n) p d.0 in omega arith) u b.1 (leb-true p (length (w.history n)) d.1) (i.clauses.truthful (record { epoch = w.epoch n; from = s; to = n; body = Ack p }) sent))
receives {A} {w} i n s (Copy xs) u sent =
    let c : List ℕ = membership_of w.memberships (w.epoch n) in
    goes_if w (is_next c s n && (not (w.ready n) && nat_lt (length (w.history n)) (length xs))) (record w { history = with_value w.history n xs; acknowledged = with_value w.acknowledged n (length xs) }) i
    (λ e.
    let a : _ = and_parts (is_next c s n) (not (w.ready n) && nat_lt (length (w.history n)) (length xs)) e in
    let b : _ = and_parts (not (w.ready n)) (nat_lt (length (w.history n)) (length xs)) a.1 in
    takes_copy i n s xs a.0 (not-true (w.ready n) b.0) (ltb-true (length (w.history n)) (length xs) b.1)
    (i.clauses.truthful (record { epoch = w.epoch n; from = s; to = n; body = Copy xs }) sent))
receives {A} {w} i n s (Floor k) u sent =
    let c : List ℕ = membership_of w.memberships (w.epoch n) in
    goes_if w (is_next c s n && not (w.ready n)) (record w { floor = with_value w.floor n (Some k) }) i
    (λ e. record {
      invariant = record { ages = i.ages; clauses = clauses_floors i.clauses n s k sent; tails = i.tails };
      later = later_floors w (with_value w.floor n (Some k));
    })

-- the message at an index was sent
found : {A : Type 0} → (messages : List (Message A)) (k : ℕ) (m : Message A) → slice_get messages k ≡ Some m → Sent messages m
found {A} [] k m e = absurd (cc)
found {A} (x ∷ messages) zero m e = inl (cc)
found {A} (x ∷ messages) (suc k) m e = inr (found messages k m e)

takes : {A : Type 0} → {w : MachineState A} → (i : Invariant w) → (n : ℕ) (o : Option (Message A)) → ((m : Message A) → o ≡ Some m → Sent w.messages m) → LeadsTo w (after_take w n o)
takes {A} {w} i n None f = goes_nowhere i
takes {A} {w} i n (Some m) f =
    goes_if w (w.running n && ((m.to == n) && (m.epoch == w.epoch n))) (after_receipt w n m.from m.body) i
    (λ e.
    let a : _ = and_parts (w.running n) ((m.to == n) && (m.epoch == w.epoch n)) e in
    let b : _ = and_parts (m.to == n) (m.epoch == w.epoch n) a.1 in
    let P : ℕ → Type 0 = λ t. Sent w.messages (record { epoch = m.epoch; from = m.from; to = t; body = m.body }) in
    let Q : ℕ → Type 0 = λ x. Sent w.messages (record { epoch = x; from = m.from; to = n; body = m.body }) in
    receives i n m.from m.body a.0 (subst Q (eqb-true m.epoch (w.epoch n) b.1) (subst P (eqb-true m.to n b.0) (f m refl))))

becomes_ready : {A : Type 0} → {w : MachineState A} → (i : Invariant w) → (n : ℕ) (o : Option ℕ) → w.floor n ≡ o → LeadsTo w (after_floor w n o)
becomes_ready {A} {w} i n None is = goes_nowhere i
becomes_ready {A} {w} i n (Some k) is =
    goes_if w (w.running n && (not (w.ready n) && nat_le k (length (w.history n)))) (after_commit (record w { ready = with_value w.ready n true }) n) i
    (λ e.
    let a : _ = and_parts (w.running n) (not (w.ready n) && nat_le k (length (w.history n))) e in
    let b : _ = and_parts (not (w.ready n)) (nat_le k (length (w.history n))) a.1 in
    let v : MachineState A = record w { ready = with_value w.ready n true } in
    let c : Clauses v i.ages = clauses_becomes_ready i.clauses n k a.0 (not-true (w.ready n) b.0) is (leb-true k (length (w.history n)) b.1) in
    let d : LeadsTo v (after_commit v n) = commit_goes v i.ages c n (λ m ne u r l. i.tails m u (sym (put_other w.ready n true m ne) ∙ r) l) in
    record { invariant = d.invariant; later = later_trans (later_becomes_ready w n) d.later })

adopts : {A : Type 0} → {w : MachineState A} → (i : Invariant w) → (n x : ℕ) → LeadsTo w (after_move w (Adopt n x))
adopts {A} {w} i n x =
    goes_if w (w.running n && (nat_lt (w.epoch n) x && is_member (membership_of w.memberships x) n)) (after_commit (record w { epoch = with_value w.epoch n x; floor = with_value w.floor n None }) n) i
    (λ e.
    let a : _ = and_parts (w.running n) (nat_lt (w.epoch n) x && is_member (membership_of w.memberships x) n) e in
    let b : _ = and_parts (nat_lt (w.epoch n) x) (is_member (membership_of w.memberships x) n) a.1 in
    let v : MachineState A = record w { epoch = with_value w.epoch n x; floor = with_value w.floor n None } in
    let c : Clauses v i.ages = clauses_adopts i.clauses n x (ltb-true (w.epoch n) x b.0) b.1 in
    let d : LeadsTo v (after_commit v n) = commit_goes v i.ages c n
    (λ m ne u r l. let P : ℕ → Type 0 = λ k. is_last (membership_of w.memberships k) m ≡ true in i.tails m u r (subst P (put_other w.epoch n x m ne) l)) in
    record { invariant = d.invariant; later = later_trans (later_adopts w n x (with_value w.floor n None) (ltb-true (w.epoch n) x b.0)) d.later })

stops : {A : Type 0} → {w : MachineState A} → (i : Invariant w) → (n : ℕ) → LeadsTo w (after_move w (Stop n))
stops {A} {w} i n = record {
  invariant = record {
    ages = i.ages;
    clauses = clauses_stops i.clauses n;
    tails = put_each w.running n false (λ m x. x ≡ true → w.ready m ≡ true → is_last (membership_of w.memberships (w.epoch m)) m ≡ true → HoldsLog w m)
        (λ f. cc)
        (λ m ne. i.tails m);
  };
  later = later_stops w n;
}

removes : {A : Type 0} → {w : MachineState A} → (i : Invariant w) → (n : ℕ) → LeadsTo w (after_move w (Remove n))
removes {A} {w} i n =
    let p : List ℕ = membership_of w.memberships (length w.memberships) in
    goes_if w (is_member p n && (not (w.running n) && nat_lt 1 (length p))) (record w { memberships = w.memberships ++ without p n ∷ [] }) i
    (λ e.
    let a : _ = and_parts (is_member p n) (not (w.running n) && nat_lt 1 (length p)) e in
    let b : _ = and_parts (not (w.running n)) (nat_lt 1 (length p)) a.1 in
    record {
      invariant = record {
        ages = i.ages;
        clauses = clauses_removes i.clauses n (not-true (w.running n) b.0);
        tails = λ m u r l. let P : List ℕ → Type 0 = λ c. is_last c m ≡ true in
            i.tails m u r (subst P (membership_old w.memberships (without p n) (w.epoch m) (i.clauses.epoch_made m)) l);
      };
      later = later_next_membership w (without p n);
    })

joins : {A : Type 0} → {w : MachineState A} → (i : Invariant w) → (n : ℕ) → is_member w.joined n ≡ false
    → LeadsTo w (record w {
      memberships = w.memberships ++ (membership_of w.memberships (length w.memberships) ++ n ∷ []) ∷ [];
      joined = w.joined ++ n ∷ [];
      running = with_value w.running n true;
      epoch = with_value w.epoch n 0;
      ready = with_value w.ready n false;
      history = with_value w.history n [];
      acknowledged = with_value w.acknowledged n 0;
      floor = with_value w.floor n None;
    })
joins {A} {w} i n out =
    let p : List ℕ = membership_of w.memberships (length w.memberships) ++ n ∷ [] in
    record {
      invariant = record {
        ages = aged w.memberships i.ages n;
        clauses = clauses_joins i.clauses n out;
        tails = λ m u r l. ⊎_elim
            (λ e. let P : ℕ → Type 0 = λ k. with_value w.ready n false k ≡ true in
            absurd (both_ways (with_value w.ready n false n) (put_same w.ready n false) (subst P e r)))
            (λ ne.
            let Q : ℕ → Type 0 = λ k. is_last (membership_of (w.memberships ++ p ∷ []) k) m ≡ true in
            let P : List ℕ → Type 0 = λ c. is_last c m ≡ true in
            let l1 : is_last (membership_of (w.memberships ++ p ∷ []) (w.epoch m)) m ≡ true = subst Q (put_other w.epoch n 0 m ne) l in
            let t : HoldsLog w m = i.tails m (sym (put_other w.running n true m ne) ∙ u) (sym (put_other w.ready n false m ne) ∙ r)
            (subst P (membership_old w.memberships p (w.epoch m) (i.clauses.epoch_made m)) l1)
            in
            let same : with_value w.history n [] m ≡ w.history m = put_other w.history n [] m ne in
            (same ∙ t.0, omega (arith, t.1, ap length same, put_other w.acknowledged n 0 m ne)))
            (cases_eq m n);
      };
      later = later_joins w n p out (blank_yet i.clauses n out);
    }

joins_if : {A : Type 0} → {w : MachineState A} → (i : Invariant w) → (n : ℕ) → LeadsTo w (after_move w (Join n))
joins_if {A} {w} i n =
    cond_both (is_member w.joined n) w
    (record w {
      memberships = w.memberships ++ (membership_of w.memberships (length w.memberships) ++ n ∷ []) ∷ [];
      joined = w.joined ++ n ∷ [];
      running = with_value w.running n true;
      epoch = with_value w.epoch n 0;
      ready = with_value w.ready n false;
      history = with_value w.history n [];
      acknowledged = with_value w.acknowledged n 0;
      floor = with_value w.floor n None;
    })
    (λ x. LeadsTo w x) (λ e. goes_nowhere i) (λ e. joins i n e)

-- ---- messages

-- a member holds the history of each member after it
upstream : {A : Type 0} → {w : MachineState A} {g : Ages} → Clauses w g → (n q : ℕ) → is_member (membership_of w.memberships (w.epoch n)) n ≡ true → is_member (membership_of w.memberships (w.epoch n)) q ≡ true → g.rank q ≤ g.rank n
    → IsPrefix (w.history n) (w.history q)
upstream {A} {w} {g} c n q hn hq le =
    ⊎_elim
    (λ e. let P : ℕ → Type 0 = λ k. IsPrefix (w.history k) (w.history q) in subst P (c.shape.rank_is_id (w.epoch n) (w.epoch n) q n hq hn e) (prefix_self (w.history q)))
    (λ o. ⊎_elim (λ lt. c.elders_hold n q hq lt) (λ gt. absurd (omega arith)) o)
    (cases_order (g.rank q) (g.rank n))

sends : {A : Type 0} → {w : MachineState A} → (i : Invariant w) → (n t : ℕ) (b : MachineBody A) → is_member (membership_of w.memberships (w.epoch n)) n ≡ true → Truth w i.ages (w.epoch n) n t b → LeadsTo w (after_send w n t b)
sends {A} {w} i n t b h a = record {
  invariant = record { ages = i.ages; clauses = clauses_sends i.clauses (record { epoch = w.epoch n; from = n; to = t; body = b }) h a; tails = i.tails };
  later = later_sends w (record { epoch = w.epoch n; from = n; to = t; body = b });
}

sends_entry : {A : Type 0} → {w : MachineState A} → (i : Invariant w) → (n t j : ℕ) (o : Option A) → entry_at (w.history n) j ≡ o → LeadsTo w (after_send_entry w n t j o)
sends_entry {A} {w} i n t j None is = goes_nowhere i
sends_entry {A} {w} i n t j (Some x) is =
    let c : List ℕ = membership_of w.memberships (w.epoch n) in
    goes_if w (w.running n && is_next c n t) (after_send w n t (Entry j x)) i
    (λ e.
    let a : _ = and_parts (w.running n) (is_next c n t) e in
    let h : is_member c n ≡ true = next_left c n t a.1 in
    sends i n t (Entry j x) h (λ q hq le. entry_at_grows (upstream i.clauses n q h hq le) j x is))

sends_ack : {A : Type 0} → {w : MachineState A} → (i : Invariant w) → (n t : ℕ) → LeadsTo w (after_move w (Send_ack n t))
sends_ack {A} {w} i n t =
    let c : List ℕ = membership_of w.memberships (w.epoch n) in
    goes_if w (w.running n && is_next c t n) (after_send w n t (Ack (w.acknowledged n))) i
    (λ e.
    let a : _ = and_parts (w.running n) (is_next c t n) e in
    sends i n t (Ack (w.acknowledged n)) (next_right c t n a.1)
    (omega (arith, prefix_length (i.clauses.acknowledged_committed n), length-take-le (w.acknowledged n) (w.history n) (i.clauses.acknowledged_held n))))

sends_copy : {A : Type 0} → {w : MachineState A} → (i : Invariant w) → (n t : ℕ) → LeadsTo w (after_move w (Send_copy n t))
sends_copy {A} {w} i n t =
    let c : List ℕ = membership_of w.memberships (w.epoch n) in
    let xs : List A = take (w.acknowledged n) (w.history n) in
    goes_if w (w.running n && is_next c n t) (after_send w n t (Copy xs)) i
    (λ e.
    let a : _ = and_parts (w.running n) (is_next c n t) e in
    let h : is_member c n ≡ true = next_left c n t a.1 in
    sends i n t (Copy xs) h
    (i.clauses.acknowledged_committed n, λ q hq le. prefix_trans (prefix_take (w.acknowledged n) (w.history n)) (upstream i.clauses n q h hq le)))

sends_floor : {A : Type 0} → {w : MachineState A} → (i : Invariant w) → (n t : ℕ) → LeadsTo w (after_move w (Send_floor n t))
sends_floor {A} {w} i n t =
    let c : List ℕ = membership_of w.memberships (w.epoch n) in
    goes_if w ((w.running n && w.ready n) && is_next c n t) (after_send w n t (Floor (length (w.history n)))) i
    (λ e.
    let a : _ = and_parts (w.running n && w.ready n) (is_next c n t) e in
    let b : _ = and_parts (w.running n) (w.ready n) a.0 in
    let P : List A → Type 0 = λ l. IsPrefix w.log l in
    sends i n t (Floor (length (w.history n))) (next_left c n t a.1)
    (b.1, omega arith, a.1, λ u k. subst P (sym (take_all (length (w.history n)) (w.history n) (omega arith))) (i.clauses.committed_held n b.1 (i.clauses.running_is_member n b.0))))

pub happens_goes : {A : Type 0} → {w : MachineState A} → Invariant w → (m : MachineMove A) → LeadsTo w (after_move w m)
happens_goes {A} i (Append n x) = appends i n x
happens_goes {A} {w} i (Take n k) = takes i n (slice_get w.messages k) (λ m e. found w.messages k m e)
happens_goes {A} {w} i (Become_ready n) = becomes_ready i n (w.floor n) refl
happens_goes {A} i (Adopt n x) = adopts i n x
happens_goes {A} i (Stop n) = stops i n
happens_goes {A} i (Remove n) = removes i n
happens_goes {A} i (Join n) = joins_if i n
happens_goes {A} {w} i (Send_entry n t j) = sends_entry i n t j (entry_at (w.history n) j) refl
happens_goes {A} i (Send_ack n t) = sends_ack i n t
happens_goes {A} i (Send_copy n t) = sends_copy i n t
happens_goes {A} i (Send_floor n t) = sends_floor i n t

pub run_goes : {A : Type 0} → (ms : List (MachineMove A)) (w : MachineState A) → Invariant w → LeadsTo w (after_moves w ms)
run_goes {A} [] w i = goes_nowhere i
run_goes {A} (m ∷ ms) w i = let a : LeadsTo w (after_move w m) = happens_goes i m in goes_on a (run_goes ms (after_move w m) a.invariant)
