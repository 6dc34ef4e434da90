-- The invariant after every move; a move that may commit preserves it.
use Rattle.std.proofs.Common.{◌≡◌, ◌≢◌, ⊎_elim, ℕ, ◌<◌, ◌≤◌, Bool, true, cond, ◌&&◌, List, length, ap, sym, subst, ◌∙◌, arith}
use Rattle.std.proofs.lemmas.Bool.{cond_both, and_parts, and_from, both_ways, cases_eq}
use Rattle.craq_protocol.specs.Members.{is_member, is_last, membership_of, with_value}
use Rattle.craq_protocol.specs.Machine.{MachineState, is_tail, after_commit}
use Rattle.craq_protocol.specs.Promises.{IsPrefix, Later}
use Rattle.craq_protocol.proofs.Lists.{put_other, put_same}
use Rattle.craq_protocol.proofs.Stays.{later_self, later_trans, later_marks, later_logs, later_grows}
use Rattle.craq_protocol.proofs.Invariant.{Ages, Clauses, HoldsLog, Invariant}
use Rattle.craq_protocol.proofs.Places.{one_tail}
use Rattle.craq_protocol.proofs.Grows.{clauses_grows}
use Rattle.craq_protocol.proofs.Commits.{clauses_commits}

-- from w to v
pub record LeadsTo {A : Type 0} (w v : MachineState A) : Type 0 where
  pub invariant : Invariant v
  pub later : Later w v

pub goes_nowhere : {A : Type 0} → {w : MachineState A} → Invariant w → LeadsTo w w
goes_nowhere {A} {w} i = record { invariant = i; later = later_self w }

pub goes_on : {A : Type 0} → {u v w : MachineState A} → LeadsTo u v → LeadsTo v w → LeadsTo u w
goes_on {A} a b = record { invariant = b.invariant; later = later_trans a.later b.later }

-- a move whose condition fails does nothing
pub goes_if : {A : Type 0} → (w : MachineState A) (b : Bool) (v : MachineState A) → Invariant w → (b ≡ true → LeadsTo w v) → LeadsTo w (cond b v w)
goes_if {A} w b v i f = cond_both b v w (λ x. LeadsTo w x) f (λ e. goes_nowhere i)

pub commit_goes : {A : Type 0} → (w : MachineState A) (g : Ages) → Clauses w g → (n : ℕ)
    → ((m : ℕ) → m ≢ n → w.running m ≡ true → w.ready m ≡ true → is_last (membership_of w.memberships (w.epoch m)) m ≡ true → HoldsLog w m)
    → LeadsTo w (after_commit w n)
commit_goes {A} w g c n others =
    cond_both (is_tail w n) (record w { acknowledged = with_value w.acknowledged n (length (w.history n)); log = w.history n }) w (λ x. LeadsTo w x)
    (λ e.
    let a : ((w.running n && w.ready n) ≡ true) × (is_last (membership_of w.memberships (w.epoch n)) n ≡ true) = and_parts (w.running n && w.ready n) (is_last (membership_of w.memberships (w.epoch n)) n) e in
    let b : (w.running n ≡ true) × (w.ready n ≡ true) = and_parts (w.running n) (w.ready n) a.0 in
    record {
      invariant = record {
        ages = g;
        clauses = clauses_commits c n b.0 b.1 a.1;
        tails = λ m u r l.
            let same : m ≡ n = one_tail c m n u r l b.0 b.1 a.1 in
            let P : ℕ → Type 0 = λ k. length (w.history k) ≤ with_value w.acknowledged n (length (w.history n)) k in
            (ap w.history same, subst P (sym same) (omega (arith, put_same w.acknowledged n (length (w.history n)))));
      };
      later = later_trans (later_marks w n (length (w.history n)) (c.acknowledged_held n)) (later_logs (record w { acknowledged = with_value w.acknowledged n (length (w.history n)) }) (w.history n) (c.committed_held n b.1 (c.running_is_member n b.0)));
    })
    (λ e. goes_nowhere (record {
      ages = g;
      clauses = c;
      tails = λ m u r l. ⊎_elim
          (λ same.
          let P : ℕ → Type 0 = λ k. is_tail w k ≡ true in
          absurd (both_ways (is_tail w n) e (subst P same (and_from (w.running m && w.ready m) (is_last (membership_of w.memberships (w.epoch m)) m) (and_from (w.running m) (w.ready m) u r) l))))
          (λ ne. others m ne u r l)
          (cases_eq m n);
    }))

pub grow_goes : {A : Type 0} → {w : MachineState A} → (i : Invariant w) → (n : ℕ) (h : List A) → IsPrefix (w.history n) h → 0 < w.epoch n
    → ((q : ℕ) → is_member (membership_of w.memberships (w.epoch n)) q ≡ true → i.ages.rank q < i.ages.rank n → IsPrefix h (w.history q))
    → LeadsTo w (after_commit (record w { history = with_value w.history n h }) n)
grow_goes {A} {w} i n h p ep f =
    let v : MachineState A = record w { history = with_value w.history n h } in
    let c : Clauses v i.ages = clauses_grows i.clauses n h p ep f in
    let a : LeadsTo v (after_commit v n) = commit_goes v i.ages c n (λ m ne u r l.
    let t : HoldsLog w m = i.tails m u r l in
    let same : with_value w.history n h m ≡ w.history m = put_other w.history n h m ne in
    (same ∙ t.0, omega (arith, t.1, ap length same))) in
    record { invariant = a.invariant; later = later_trans (later_grows w n h p) a.later }
