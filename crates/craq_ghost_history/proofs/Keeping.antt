-- Each step keeps the rule of the table under a history.
use Rattle.std.proofs.Common.{◌≡◌, ◌≢◌, ℕ, zero, suc, ◌==◌, Bool, true, false, true≢false, if◌then◌else◌, List, [], ◌∷◌, ◌++◌, length, set, Option, Some, None, IfSome, refl, ap, sym, ◌∙◌, subst, ⊎_elim, eq-eqb, ne_eqb}
use Rattle.atomic_table.specs.Table.{State, Me, keeps, Allows, Splits, Joins, opening}
use mathlib.Core.Option.{some, some-injective, some-ne-none}
use lib.ListN.{get_elem?}
use Rattle.atomic_table.proofs.Lists.{at_set, set_again}
use Rattle.craq_ghost_history.specs.declared.author.Author.{Author}
use Rattle.craq_ghost_history.specs.declared.author.Permit.{Permit}
use Rattle.craq_ghost_history.specs.declared.author.Right.{Right}
use Rattle.craq_ghost_history.specs.declared.author.Right.TheVariants.{Nothing}
use Rattle.craq_ghost_history.specs.declared.history.View.{View}
use Rattle.craq_ghost_history.specs.Authors.{same, of, is_use, uses, Owns, Has, MayGive, MayUse, without, right_of, first_permit, after_permit, using}
use Rattle.craq_ghost_history.specs.Histories.{IsUnused, MayAdd}
use Rattle.craq_ghost_history.specs.Views.{Adds, Sees, Fits, Kept, view, first_view, after_giving, given, after_permitting, permitted, witness, informed, spent, Extends, Looks}
use Rattle.craq_ghost_history.proofs.Authors.{goes, has_after, has_first, has_given, has_going, has_left, has_using, may_have, own_other, owns_after, owns_given, owns_left, owns_of, owns_using, permit_apart, same_apart, same_eq, same_is, uses_other}
use Rattle.craq_ghost_history.proofs.Prefixes.{prefix_self, prefix_append, prefix_nil, at_end}

-- ---- places of permits

other_seat : (x : ℕ × Bool) (i j : ℕ) (b : Bool) → j ≢ i → x ≡ (j, b) → x ≢ (i, true)
other_seat x i j b apart at is = apart (ap (λ (y : ℕ × Bool). y.0) (sym at ∙ is))

other_side : (x : ℕ × Bool) (i : ℕ) → x ≡ (i, false) → x ≢ (i, true)
other_side x i at is = true≢false (ap (λ (y : ℕ × Bool). y.1) (sym is ∙ at))

-- a seat gets the permits of another
moved : ℕ → ℕ → ℕ × Bool → ℕ × Bool
moved other i x = if x.0 == other then (i, true) else x

moved_from : (other i : ℕ) (x : ℕ × Bool) → x.0 ≡ other → moved other i x ≡ (i, true)
unfolding moved
moved_from other i x at = rw (eq-eqb x.0 other at) refl

moved_not : (other i : ℕ) (x : ℕ × Bool) (j : ℕ) (b : Bool) → j ≢ other → x ≡ (j, b) → moved other i x ≡ (j, b)
unfolding moved
moved_not other i x j b apart at =
    rw (ne_eqb x.0 other (λ is. apart (ap (λ (y : ℕ × Bool). y.0) (sym at) ∙ is))) at

-- ---- parts of rights

not_mine : (t : Bool) → (t ≡ true → ⊥) → t ≡ false
not_mine true h = absurd (h refl)
not_mine false h = refl

-- a right is one part of another, with these authors and permits
record IsPart (whole part left : Right) (authors : Author → Bool) (permits : Permit → Bool) : Type 0 where
  owned : (a : Author) → Owns part a → authors a ≡ true
  owns : (a : Author) → authors a ≡ true → Owns whole a
  kept : (a : Author) → Owns left a → Owns whole a × (authors a ≡ false)
  had : (p : Permit) → Has part p → permits p ≡ true
  has : (p : Permit) → permits p ≡ true → Has whole p
  spared : (p : Permit) → Has left p → Has whole p × (permits p ≡ false)

given_part : (k : Author) (r : Right) → MayGive r k → IsPart r (right_of k 0) (without k r) (λ a. same a k) (goes k)
given_part k r may =
    record {
      owned = λ a o. same_eq a k (owns_of k a 0 o);
      owns = λ a t. subst (Owns r) (sym (same_is a k t)) (owns_given k r may);
      kept = λ a o. let left = owns_left k a r may o in (left.0, same_apart a k left.1);
      had = λ p h. (has_given k r p may h).0;
      has = λ p t. has_going k r p may t;
      spared = λ p h. has_left k r p may h;
    }

permit_part : (r : Right) → IsPart r (using (first_permit r)) (after_permit r) (λ a. false) (is_use (first_permit r))
permit_part r =
    record {
      owned = λ a o. absurd (owns_using (first_permit r) a o);
      owns = λ a t. absurd (true≢false (sym t));
      kept = λ a o. (owns_after r a o, refl);
      had = λ p h. has_using (first_permit r) p h;
      has = λ p t. has_first r p t;
      spared = λ p h. has_after r p h;
    }

-- the view of a seat that gave a part of its right away
abbrev rest_of : {E : Type 0} → View E → Right → View E
rest_of v left = record { seen = v.seen; reported = v.reported; right = left; lent = Nothing }

module _ {E : Type 0} (author : E → Author) (permit : E → Option Permit) (holds : List E → Type 0) where
  -- one seat has a new view, and the others still fit
  fits_set : (now : List E) (seat : Author → ℕ) (place : Permit → ℕ × Bool) (views : List (View E)) (i : ℕ) (w : View E)
      → ((j : ℕ) (u : View E) → j ≢ i → get_elem? views j ≡ some u → Fits author permit now seat place j u) → Fits author permit now seat place i w
      → (j : ℕ) (u : View E) → get_elem? (set views i w) j ≡ some u → Fits author permit now seat place j u
  fits_set now seat place views i w others mine j u e =
      ⊎_elim
      (λ (x : (j ≡ i) × (w ≡ u)). subst (λ (y : ℕ × View E). Fits author permit now seat place y.0 y.1) (λ k. (sym x.0 k, x.1 k)) mine)
      (λ (x : (j ≢ i) × (get_elem? views j ≡ some u)). others j u x.0 x.1)
      (at_set views i j w u e)

  -- an entry does not use a permit that has another place than the one that it uses
  not_used : (place : Permit → ℕ × Bool) (i : ℕ) (e : E) → ((p : Permit) → permit e ≡ Some p → place p ≡ (i, true)) → (q : Permit) → place q ≢ (i, true) → is_use (permit e) q ≡ false
  not_used place i e its q apart = by_permit (permit e) refl
    where
      by_permit : (o : Option Permit) → permit e ≡ o → is_use o q ≡ false
      by_permit None is = refl
      by_permit (Some p) is = permit_apart p q (λ (same_one : p ≡ q). apart (ap place (sym same_one) ∙ its p is))

  -- the permit that an entry uses was unused
  was_unused : (log : List E) (e : E) → ((p : Permit) → permit e ≡ Some p → uses permit p log ≡ []) → IsUnused permit log e
  was_unused log e each = by_permit (permit e) refl
    where
      by_permit : (o : Option Permit) → permit e ≡ o → IfSome o (λ p. uses permit p log ≡ [])
      by_permit None is = tt
      by_permit (Some p) is = each p is

  pub adds : (i : ℕ) (v : View E) (e : E) → Owns v.right (author e) → MayUse v.lent (permit e) → MayAdd author permit holds v.seen v.reported e
      → (views : List (View E)) → Kept author permit holds views → get_elem? views i ≡ some v → (w : View E) × Kept author permit holds (set views i w) × Extends author holds v e w
  adds i v e owns may_use may views kept at =
      let f : Fits author permit kept.log kept.seat kept.place i v = kept.fits i v at in
      let mine : (kept.seat (author e) ≡ i) × (of author (author e) v.seen ≡ of author (author e) kept.log) = f.mine (author e) owns in
      let lent = λ (p : Permit) (is : permit e ≡ Some p). f.lent p (may_have v.lent (permit e) p may_use is) in
      let now : List E = kept.log ++ e ∷ [] in
      let history : holds now = may kept.log kept.history f.seen f.reported mine.1 (was_unused kept.log e (λ p is. (lent p is).1)) in
      let still = λ (q : Permit) (apart : kept.place q ≢ (i, true)) (free : uses permit q kept.log ≡ []).
      uses_other permit q kept.log e (not_used kept.place i e (λ p is. (lent p is).0) q apart) ∙ free in (
        view now v.right,
        record {
          log = now;
          seat = kept.seat;
          place = kept.place;
          history = history;
          fits = fits_set now kept.seat kept.place views i (view now v.right)
              (λ j u apart there.
              let g : Fits author permit kept.log kept.seat kept.place j u = kept.fits j u there in
              record {
                seen = prefix_append u.seen kept.log (e ∷ []) g.seen;
                reported = prefix_append u.reported kept.log (e ∷ []) g.reported;
                mine = λ a o.
                    let m : (kept.seat a ≡ j) × (of author a u.seen ≡ of author a kept.log) = g.mine a o in
                    (m.0, m.1 ∙ sym (own_other author a kept.log e (λ is. apart (sym m.0 ∙ (ap kept.seat (sym is) ∙ mine.0)))));
                unused = λ p h. let m = g.unused p h in (m.0, still p (other_seat (kept.place p) i j false apart m.0) m.1);
                lent = λ p h. let m = g.lent p h in (m.0, still p (other_seat (kept.place p) i j true apart m.0) m.1);
              })
              (record {
                seen = prefix_self now;
                reported = prefix_nil now;
                mine = λ a o. ((f.mine a o).0, refl);
                unused = λ p h. let m = f.unused p h in (m.0, still p (other_side (kept.place p) i m.0) m.1);
                lent = λ p h. absurd h;
              });
        },
        record {
          added = record { before = kept.log; kept = f.seen; heard = f.reported; own = sym mine.1; now = refl };
          history = history;
          reported = refl;
          right = refl;
        },
      )

  pub looks : (i : ℕ) (v : View E) → (views : List (View E)) → Kept author permit holds views → get_elem? views i ≡ some v → (w : View E) × Kept author permit holds (set views i w) × Looks author holds v w
  looks i v views kept at =
      let f : Fits author permit kept.log kept.seat kept.place i v = kept.fits i v at in
      let w : View E = view kept.log v.right in (
        w,
        record {
          log = kept.log;
          seat = kept.seat;
          place = kept.place;
          history = kept.history;
          fits = fits_set kept.log kept.seat kept.place views i w (λ j u apart there. kept.fits j u there)
              (record { seen = prefix_self kept.log; reported = prefix_nil kept.log; mine = λ a o. ((f.mine a o).0, refl); unused = f.unused; lent = λ p h. absurd h });
        },
        record { seen = f.seen; reported = f.reported; history = kept.history; own = λ a o. sym (f.mine a o).1; silent = refl; right = refl },
      )

  -- a seat tells what it has seen
  pub tells : (i : ℕ) (v : View E) (views : List (View E)) → Kept author permit holds views → get_elem? views i ≡ some v → Kept author permit holds (set views i v ++ witness v ∷ [])
  tells i v views kept at =
      let f : Fits author permit kept.log kept.seat kept.place i v = kept.fits i v at in
      record {
        log = kept.log;
        seat = kept.seat;
        place = kept.place;
        history = kept.history;
        fits = λ j u e. ⊎_elim
            (λ (was : get_elem? (set views i v) j ≡ some u). kept.fits j u (subst (λ l. get_elem? l j ≡ some u) (set_again views i v at) was))
            (λ (last : (j ≡ length (set views i v)) × (witness v ≡ u)). subst (Fits author permit kept.log kept.seat kept.place j) last.1
            (record { seen = f.seen; reported = prefix_nil kept.log; mine = λ a o. absurd o; unused = λ p h. absurd h; lent = λ p h. absurd h }))
            (at_end (set views i v) (witness v) u j e);
      }

  -- the rule holds after a seat gives a part of its right away: it is then the new seat's own
  parts : (i : ℕ) (v : View E) (part left : Right) (authors : Author → Bool) (permits : Permit → Bool) → IsPart v.right part left authors permits
      → (views : List (View E)) → Kept author permit holds views → get_elem? views i ≡ some v → Kept author permit holds (set views i (rest_of v left) ++ view v.seen part ∷ [])
  parts i v part left authors permits is views kept at =
      let f : Fits author permit kept.log kept.seat kept.place i v = kept.fits i v at in
      let last : ℕ = length (set views i (rest_of v left)) in
      let seat : Author → ℕ = λ a. if authors a then last else kept.seat a in
      let place : Permit → ℕ × Bool = λ p. if permits p then (last, false) else kept.place p in
      let still = λ (a : Author) (not : authors a ≡ false). let e : seat a ≡ kept.seat a = rw not refl in e in
      let stays = λ (p : Permit) (not : permits p ≡ false). let e : place p ≡ kept.place p = rw not refl in e in
      let part_fits : Fits author permit kept.log seat place last (view v.seen part) =
      record {
        seen = f.seen;
        reported = prefix_nil kept.log;
        mine = λ a o. let t = is.owned a o in (rw t refl, (f.mine a (is.owns a t)).1);
        unused = λ p h. let t = is.had p h in (rw t refl, (f.unused p (is.has p t)).1);
        lent = λ p h. absurd h;
      } in
      record {
        log = kept.log;
        seat = seat;
        place = place;
        history = kept.history;
        fits = λ j u e. ⊎_elim
            (fits_set kept.log seat place views i (rest_of v left)
            (λ j' u' apart there.
            let g : Fits author permit kept.log kept.seat kept.place j' u' = kept.fits j' u' there in
            record {
              seen = g.seen;
              reported = g.reported;
              mine = λ a o. let m = g.mine a o in (still a (not_mine (authors a) (λ t. apart (sym m.0 ∙ (f.mine a (is.owns a t)).0))) ∙ m.0, m.1);
              unused = λ p h.
                  let m = g.unused p h in
                  (stays p (not_mine (permits p) (λ t. apart (ap (λ (y : ℕ × Bool). y.0) (sym m.0 ∙ (f.unused p (is.has p t)).0)))) ∙ m.0, m.1);
              lent = λ p h.
                  let m = g.lent p h in
                  (stays p (not_mine (permits p) (λ t. apart (ap (λ (y : ℕ × Bool). y.0) (sym m.0 ∙ (f.unused p (is.has p t)).0)))) ∙ m.0, m.1);
            })
            (record {
              seen = f.seen;
              reported = f.reported;
              mine = λ a o. let k = is.kept a o in let m = f.mine a k.0 in (still a k.1 ∙ m.0, m.1);
              unused = λ p h. let k = is.spared p h in let m = f.unused p k.0 in (stays p k.1 ∙ m.0, m.1);
              lent = λ p h. absurd h;
            })
            j u)
            (λ (t : (j ≡ last) × (view v.seen part ≡ u)). subst (λ (y : ℕ × View E). Fits author permit kept.log seat place y.0 y.1) (λ x. (sym t.0 x, t.1 x)) part_fits)
            (at_end (set views i (rest_of v left)) (view v.seen part) u j e);
      }

  -- a seat learns the prefix that another has seen, and gets its permits
  hears_of : (i : ℕ) (v : View E) (other : ℕ) (w : View E) (views : List (View E)) → Kept author permit holds views → get_elem? views i ≡ some v → ¬ (other ≡ i)
      → get_elem? (set views i (informed v w)) other ≡ some w → Kept author permit holds (set (set views i (informed v w)) other spent)
  hears_of i v other w views kept at apart there =
      let f : Fits author permit kept.log kept.seat kept.place i v = kept.fits i v at in
      let g : Fits author permit kept.log kept.seat kept.place other w = ⊎_elim
      (λ (t : (other ≡ i) × (informed v w ≡ w)). absurd (apart t.0))
      (λ (t : (other ≢ i) × (get_elem? views other ≡ some w)). kept.fits other w t.1)
      (at_set views i other (informed v w) w there) in
      let place : Permit → ℕ × Bool = λ p. moved other i (kept.place p) in
      let stays = λ (j : ℕ) (u : View E) (far : j ≢ other) (h : Fits author permit kept.log kept.seat kept.place j u).
      let fits : Fits author permit kept.log kept.seat place j u = record {
        seen = h.seen;
        reported = h.reported;
        mine = h.mine;
        unused = λ p has. let m = h.unused p has in (moved_not other i (kept.place p) j false far m.0, m.1);
        lent = λ p has. let m = h.lent p has in (moved_not other i (kept.place p) j true far m.0, m.1);
      } in fits in
      let here : Fits author permit kept.log kept.seat place i (informed v w) =
      record {
        seen = f.seen;
        reported = g.seen;
        mine = f.mine;
        unused = λ p has. let m = f.unused p has in (moved_not other i (kept.place p) i false (λ e. apart (sym e)) m.0, m.1);
        lent = λ p has. let m = g.unused p has in (moved_from other i (kept.place p) (ap (λ (y : ℕ × Bool). y.0) m.0), m.1);
      } in
      record {
        log = kept.log;
        seat = kept.seat;
        place = place;
        history = kept.history;
        fits = fits_set kept.log kept.seat place (set views i (informed v w)) other spent
            (λ j u far e. ⊎_elim
            (λ (x : (j ≡ i) × (informed v w ≡ u)). subst (λ (y : ℕ × View E). Fits author permit kept.log kept.seat place y.0 y.1) (λ k. (sym x.0 k, x.1 k)) here)
            (λ (x : (j ≢ i) × (get_elem? views j ≡ some u)). stays j u far (kept.fits j u x.1))
            (at_set views i j (informed v w) u e))
            (record { seen = prefix_nil kept.log; reported = prefix_nil kept.log; mine = λ a o. absurd o; unused = λ p h. absurd h; lent = λ p h. absurd h });
      }

  -- ---- the rule of tables

  abbrev pub Law : State ℕ (View E) → Type 0
  Law s = Kept author permit holds s.views

  pub begins : (ws : List ℕ) → holds [] → Law (opening ws [] first_view)
  begins ws h = record { log = []; seat = λ (a : Author). 0; place = λ (p : Permit). (0, false); history = h; fits = one }
    where
      one : (i : ℕ) (v : View E) → get_elem? (first_view ∷ []) i ≡ some v → Fits author permit [] (λ (a : Author). 0) (λ (p : Permit). (0, false)) i v
      one zero v e = subst (Fits author permit [] (λ (a : Author). 0) (λ (p : Permit). (0, false)) 0) (some-injective _ _ e)
          (record { seen = prefix_nil []; reported = prefix_nil []; mine = λ a o. (refl, refl); unused = λ p h. (refl, refl); lent = λ p h. absurd h })
      one (suc i) v e = absurd (some-ne-none v (sym e))

  pub adds_allowed : (slots i : ℕ) (me : Me ℕ (View E)) (o : Option E) (e : E) → o ≡ Some e → Owns me.0.right (author e) → MayUse me.0.lent (permit e) → MayAdd author permit holds me.0.seen me.0.reported e
      → Allows Law slots i me 0 (λ n. n) (λ n w. Adds author holds o me w)
  adds_allowed slots i me o e is owns uses_it may s law homes at bound =
      let r = adds i me.0 e owns uses_it may s.views law at in (r.0, keeps, tt, r.1, (rw is r.2, refl))

  pub looks_allowed : (slots i : ℕ) (me : Me ℕ (View E)) → Allows Law slots i me 0 (λ n. n) (λ n w. Sees author holds me w)
  looks_allowed slots i me s law homes at bound =
      let r = looks i me.0 s.views law at in (r.0, keeps, tt, r.1, (r.2, refl))

  pub tells_splits : (i : ℕ) (v : View E) → Splits Law i v v (witness v)
  tells_splits i v s law at = tells i v s.views law at

  pub gives_splits : (i : ℕ) (k : Author) (v : View E) → MayGive v.right k → Splits Law i v (after_giving k v) (given k v)
  gives_splits i k v may s law at = parts i v (right_of k 0) (without k v.right) (λ a. same a k) (goes k) (given_part k v.right may) s.views law at

  pub permits_splits : (i : ℕ) (v : View E) → Splits Law i v (after_permitting v) (permitted v)
  permits_splits i v s law at = parts i v (using (first_permit v.right)) (after_permit v.right) (λ a. false) (is_use (first_permit v.right)) (permit_part v.right) s.views law at

  pub hears_joins : (i : ℕ) (v : View E) (other : ℕ) (w : View E) → Joins Law i v other w (informed v w) spent
  hears_joins i v other w s law at apart there = hears_of i v other w s.views law at apart there
