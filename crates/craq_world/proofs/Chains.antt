-- The chains of a world, by their ids.
use Rattle.std.proofs.Common.{◌≡◌, ◌≢◌, ◌<◌, ◌+◌, ◌++◌, ℕ, zero, suc, List, [], ◌∷◌, length, length-take, take, set, slice_index_or, Some, Result, Ok, Err, refl, sym, ap, subst, arith, ◌∙◌, inl, inr, append_assoc}
use Rattle.std.specs.Prelude.{slice_get}
use Rattle.std.specs.List.{AllByRecursion}
use Rattle.std.proofs.lemmas.List.{take_more, append-nil}
use Rattle.craq_names.specs.declared.refusal.Refusal.{Refusal}
use Rattle.craq_model.specs.Members.{IsMembership}
use Rattle.craq_runs.specs.declared.explanation.Explanation.{Explanation}
use Rattle.craq_runs.specs.declared.run.Move.{Move}
use Rattle.craq_runs.specs.declared.run.Taken.{Taken}
use Rattle.craq_runs.specs.Chain.{Progress, chain_step}
use Rattle.craq_runs.specs.Explain.{explain}
use Rattle.craq_runs.specs.Typed.{IsTypedRunOf}
use Rattle.craq_protocol.specs.Promises.{IsPrefix}
use Rattle.craq_updates.specs.ValidEntries.{IsBeginning}
use Rattle.craq_updates.proofs.Explained.{begins}
use Rattle.craq_promise.proofs.Promised.{explained}
use Rattle.craq_chain.specs.Chained.{Chained, HasFound, chain_of_run, moved, GivesMove, opened_chain, with_move}
use Rattle.craq_chain_invariants.proofs.Invariants.{runs_keep_invariants}
use Rattle.craq_world.specs.Promise.{AreExplained, BeginsAs, NothingIsTakenBack}
use Rattle.craq_world.specs.Worlds.{AreRunning, GivesWorld, HasFoundIn, opened_from, RunsTo, moves_in}

-- the prefix order of lists is reflexive and transitive
prefix_self : {A : Type 0} (xs : List A) → IsPrefix xs xs
prefix_self xs = record { rest = []; is = append-nil xs }

prefix_on : {A : Type 0} (xs ys zs : List A) → IsPrefix xs ys → IsPrefix ys zs → IsPrefix xs zs
prefix_on xs ys zs p q =
    record { rest = p.rest ++ q.rest; is = sym (append_assoc xs p.rest q.rest) ∙ ap (λ l. l ++ q.rest) p.is ∙ q.is }

begins_self : (e : Explanation) → IsBeginning e e
begins_self e = record { asks = prefix_self e.asks; lens = prefix_self e.lens; places = prefix_self e.places }

begins_on : (e f g : Explanation) → IsBeginning e f → IsBeginning f g → IsBeginning e g
begins_on e f g p q =
    record {
      asks = prefix_on e.asks f.asks g.asks p.asks q.asks;
      lens = prefix_on e.lens f.lens g.lens p.lens q.lens;
      places = prefix_on e.places f.places g.places p.places q.places;
    }

-- nothing is taken back if nothing happens, and by one change after another
pub nothing_changes : (ws : List Chained) → NothingIsTakenBack ws ws
nothing_changes [] = tt
nothing_changes (w ∷ ws) = (begins_self (explain w.chain w.run), nothing_changes ws)

pub nothing_yet : (us vs ws : List Chained) → NothingIsTakenBack us vs → NothingIsTakenBack vs ws → NothingIsTakenBack us ws
nothing_yet [] [] [] p q = tt
nothing_yet (u ∷ us) (v ∷ vs) (w ∷ ws) p q =
    (begins_on (explain u.chain u.run) (explain v.chain v.run) (explain w.chain w.run) p.0 q.0, nothing_yet us vs ws p.1 q.1)
nothing_yet [] (v ∷ vs) ws p q = absurd p
nothing_yet (u ∷ us) [] ws p q = absurd p
nothing_yet [] [] (w ∷ ws) p q = absurd q
nothing_yet (u ∷ us) (v ∷ vs) [] p q = absurd q

-- each running chain is explained
pub all_explained : (id : ℕ) (ws : List Chained) → AreRunning id ws → AreExplained id ws
all_explained id [] h = tt
all_explained id (w ∷ ws) h =
    let run : IsTypedRunOf id w.run = subst (λ n. IsTypedRunOf n w.run) h.0 h.1 in
    (record { own = h.0; run = run; valid = explained id w.run run; invariants = runs_keep_invariants id w.run run }, all_explained (id + 1) ws h.2)

pub set_other : (ws : List Chained) (i id : ℕ) (v : Chained) → id ≢ i → slice_get (set ws i v) id ≡ slice_get ws id
set_other [] i id v n = refl
set_other (w ∷ ws) zero zero v n = absurd (n refl)
set_other (w ∷ ws) zero (suc id) v n = refl
set_other (w ∷ ws) (suc i) zero v n = refl
set_other (w ∷ ws) (suc i) (suc id) v n = set_other ws i id v (λ e. n (ap suc e))

-- the chain in a place
pub record Place (first : ℕ) (ws : List Chained) (i : ℕ) (w : Chained) : Type 0 where
  pub at : slice_get ws i ≡ Some w
  pub id : w.chain ≡ first + i
  pub run : IsTypedRunOf w.chain w.run
  pub same : set ws i w ≡ ws
  pub stays : (v : Chained) → v.chain ≡ w.chain → IsTypedRunOf v.chain v.run → AreRunning first (set ws i v)
  pub holds : (v : Chained) → slice_get (set ws i v) i ≡ Some v
  pub begins : (v : Chained) → BeginsAs w v → NothingIsTakenBack ws (set ws i v)

pub chain_at : (first : ℕ) (ws : List Chained) (i : ℕ) (w : Chained) → AreRunning first ws → i < length ws → w ≡ slice_index_or ws i w → Place first ws i w
chain_at first [] i w h m is = absurd (omega (arith, m))
chain_at first (v ∷ ws) zero w h m is =
    record {
      at = ap Some (sym is);
      id = ap (λ (x : Chained). x.chain) is ∙ h.0 ∙ omega arith;
      run = subst (λ (x : Chained). IsTypedRunOf x.chain x.run) (sym is) h.1;
      same = ap (λ x. x ∷ ws) is;
      stays = λ u e r. (e ∙ ap (λ (x : Chained). x.chain) is ∙ h.0, r, h.2);
      holds = λ u. refl;
      begins = λ u b. (subst (λ (x : Chained). BeginsAs x u) is b, nothing_changes ws);
    }
chain_at first (v ∷ ws) (suc i) w h m is =
    let p = chain_at (first + 1) ws i w h.2 (omega (arith, m)) is in
    record {
      at = p.at;
      id = p.id ∙ omega arith;
      run = p.run;
      same = ap (λ xs. v ∷ xs) p.same;
      stays = λ u e r. (h.0, h.1, p.stays u e r);
      holds = p.holds;
      begins = λ u b. (begins_self (explain v.chain v.run), p.begins u b);
    }

-- the id of the chain after a move
abbrev chain_in : Chained → Result Chained Refusal → ℕ
chain_in w (Ok v) = v.chain
chain_in w (Err e) = w.chain

-- a move keeps a chain's id
moved_id : (w v : Chained) (m : Move) (r : Result Progress Refusal) → moved w m r ≡ Ok v → v.chain ≡ w.chain
moved_id w v m (Ok x) h = let same = ap (λ (z : Result Chained Refusal). chain_in w z) h in sym same
moved_id w v m (Err e) h = cc

pub kept_id : (w v : Chained) (m : Move) (r : Result ℕ Refusal) → GivesMove w v m r → v.chain ≡ w.chain
kept_id w v m (Ok n) h = moved_id w v m (chain_step (chain_of_run w) m) h.0
kept_id w v m (Err e) h = ap (λ (x : Chained). x.chain) h.1

-- the explanation of the chain before the move stays
moved_begins : (w v : Chained) (m : Move) (r : Result Progress Refusal) → moved w m r ≡ Ok v → IsTypedRunOf v.chain v.run → BeginsAs w v
moved_begins w v m (Ok x) h typed =
    let t : Taken = record { chosen = m; step = x.1 } in
    let is : with_move w t ≡ v = cc in
    subst (BeginsAs w) is (begins w.chain w.run.members w.run.moves t (subst (λ (y : Chained). IsTypedRunOf y.chain y.run) (sym is) typed))
moved_begins w v m (Err e) h typed = cc

begins_after : (w v : Chained) (m : Move) (r : Result ℕ Refusal) → GivesMove w v m r → IsTypedRunOf v.chain v.run → BeginsAs w v
begins_after w v m (Ok n) h typed = moved_begins w v m (chain_step (chain_of_run w) m) h.0 typed
begins_after w v m (Err e) h typed = subst (BeginsAs w) (sym h.1) (begins_self (explain w.chain w.run))

-- the move of a chain is the world's
world_gives : (ws : List Chained) (i : ℕ) (w v : Chained) (m : Move) (r : Result ℕ Refusal) → Place 0 ws i w → GivesMove w v m r → GivesWorld ws (set ws i v) i m r
world_gives ws i w v m (Ok n) p h =
    (rw (p.at, h.0) refl, h.1 ∙ sym (ap moves_in (p.holds v)))
world_gives ws i w v m (Err e) p h = (
  elim h.0 [ inl memory ↦ inl (memory.0, rw p.at memory.1) | inr wanted ↦ inr (rw (p.at, wanted) refl) ],
  ap (λ x. set ws i x) h.1 ∙ p.same,
)

-- the search in the chain of an id is the world's
pub found_in : (ws : List Chained) (id : ℕ) (m : Move) (w : Chained) (r : Result Unit Refusal) → slice_get ws id ≡ Some w → HasFound (chain_of_run w) m r → HasFoundIn ws id m r
unfolding chain_step
found_in ws id m w (Ok done) at h = rw at h
found_in ws id m w (Err e) at h = rw (at, h) refl

-- a move was taken or refused by the chain of an id
pub record HasMoved (old new : List Chained) (id : ℕ) (m : Move) (r : Result ℕ Refusal) : Type 0 where
  pub gives : GivesWorld old new id m r
  pub others : (other : ℕ) → other ≢ id → slice_get new other ≡ slice_get old other
  pub explained : AreExplained 0 new
  pub grows : NothingIsTakenBack old new

pub running_on : (ws : List Chained) (i : ℕ) (w v : Chained) (m : Move) (r : Result ℕ Refusal) → AreRunning 0 ws → i < length ws → w ≡ slice_index_or ws i w → GivesMove w v m r → IsTypedRunOf v.chain v.run → AreRunning 0 (set ws i v)
running_on ws i w v m r h within is g typed = (chain_at 0 ws i w h within is).stays v (kept_id w v m r g) typed

pub has_moved : (ws : List Chained) (i : ℕ) (w v : Chained) (m : Move) (r : Result ℕ Refusal) → AreRunning 0 ws → i < length ws → w ≡ slice_index_or ws i w → GivesMove w v m r → IsTypedRunOf v.chain v.run → HasMoved ws (set ws i v) i m r
has_moved ws i w v m r h within is g typed =
    let p = chain_at 0 ws i w h within is in
    record {
      gives = world_gives ws i w v m r p g;
      others = λ id n. set_other ws i id v n;
      explained = all_explained 0 (set ws i v) (p.stays v (kept_id w v m r g) typed);
      grows = p.begins v (begins_after w v m r g typed);
    }

-- the opened chains run
pub opened_running : (id : ℕ) (lists : List (List ℕ)) → AllByRecursion IsMembership lists → AreRunning id (opened_from id lists)
opened_running id [] h = tt
opened_running id (members ∷ lists) h =
    (refl, record { run_of = record { members = h.0; moves = tt }; typed = tt }, opened_running (id + 1) lists h.1)

pub opened_push : (id : ℕ) (lists : List (List ℕ)) (members : List ℕ) → opened_from id (lists ++ members ∷ []) ≡ opened_from id lists ++ opened_chain (id + length lists) members ∷ []
opened_push id [] members = ap (λ n. opened_chain n members ∷ []) (omega arith)
opened_push id (first ∷ lists) members = ap (λ ws. opened_chain id first ∷ ws) (opened_push (id + 1) lists members ∙ ap (λ n. opened_from (id + 1) lists ++ opened_chain n members ∷ []) (omega arith))

taken : (i : ℕ) (lists : List (List ℕ)) → i < length lists → 0 + length (take i lists) ≡ i
taken i lists h = omega (arith, length-take i lists)

-- one more list is opened
pub opened_more : (lists : List (List ℕ)) (i chain : ℕ) (members : List ℕ) → i < length lists → members ≡ slice_index_or lists i members → chain ≡ i → opened_from 0 (take (i + 1) lists) ≡ opened_from 0 (take i lists) ++ opened_chain chain members ∷ []
opened_more lists i chain members within is same =
    ap (opened_from 0) (take_more lists i members within ∙ ap (λ m. take i lists ++ m ∷ []) (sym is))
    ∙ opened_push 0 (take i lists) members
    ∙ ap (λ n. opened_from 0 (take i lists) ++ opened_chain n members ∷ []) (taken i lists within ∙ sym same)

-- one more move was taken or refused
pub runs_push : (a b c : List Chained) (ms : List (ℕ × Move)) (rs : List (Result ℕ Refusal)) (m : ℕ × Move) (r : Result ℕ Refusal) → RunsTo a ms rs b → GivesWorld b c m.0 m.1 r → RunsTo a (ms ++ m ∷ []) (rs ++ r ∷ []) c
runs_push a b c [] [] m r h g = (c, subst (λ x. GivesWorld x c m.0 m.1 r) h g, refl)
runs_push a b c [] (s ∷ rs) m r h g = absurd h
runs_push a b c (n ∷ ms) [] m r h g = absurd h
runs_push a b c (n ∷ ms) (s ∷ rs) m r h g = (h.0, h.1, runs_push h.0 b c ms rs m r h.2 g)
