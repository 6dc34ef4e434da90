-- A master's step, as a move of its chain.
use Rattle.std.proofs.Common.{◌≡◌, ◌+◌, ◌++◌, ◌==◌, ◌&&◌, ◌||◌, ℕ, Bool, true, false, not, if◌then◌else◌, List, [], ◌∷◌, length, map, Option, Some, None, Result, Ok, Err, refl, sym, ap, subst, ◌∙◌}
use Rattle.std.specs.Prelude.{is_some, nat_le}
use Rattle.craq_names.specs.Limits.{greatest, member_limit}
use Rattle.craq_names.specs.declared.name.NodeName.{NodeName}
use Rattle.craq_names.specs.declared.refusal.Refusal.{Refusal}
use Rattle.craq_names.specs.declared.refusal.Refusal.TheVariants.{NotMember, NotStopped, LastNode, Exhausted, ChainFull, UsedId}
use Rattle.craq_model.specs.declared.step.Step.{Step}
use Rattle.craq_model.specs.Members.{is_member, without}
use Rattle.craq_model.specs.Plain.{id_of, opening_joined}
use Rattle.craq_epochs.specs.Mastered.{Mastered, removed, master_after_join}
use Rattle.craq_runs.specs.Chain.{Chain, Progress, config_progress, node_at, is_running, removal_progress, join_progress, next_epoch, with_node}
use Rattle.craq_laws.proofs.Nodes.{ids_push, used_are_nodes}
use Rattle.craq_chain.specs.Parts.{master_of, membership_message, membership_step}
use Rattle.craq_chain.proofs.Commands.{join_made, removal_made}
use Rattle.craq_seat.specs.Books.{tells}
use Rattle.craq_seat.specs.Numbered.{AreFrom}

reported_same : (x y : Mastered × Step) (r : Result (Mastered × Step) Refusal) → r ≡ Ok x → r ≡ Ok y → x ≡ y
reported_same x y r h k = cc

-- the membership that is announced is that of the master after the step
pub is_reported : (r : Result Mastered Refusal) (n : Mastered) (step : Step) → tells r ≡ Ok (n, step) → (r ≡ Ok n) × (step ≡ membership_step n.chain n.epoch n.members)
is_reported (Err e) n step h = cc
is_reported (Ok m) n step h =
    let e = reported_same (m, membership_step m.chain m.epoch m.members) (n, step) (tells (Ok m)) refl h in
    let f : m ≡ n = ap (λ x. x.0) e in
    let g : membership_step m.chain m.epoch m.members ≡ step = ap (λ x. x.1) e in
    (ap Ok f, sym g ∙ ap (λ (x : Mastered). membership_step x.chain x.epoch x.members) f)

-- the master's messages are from node 0
outs_from : (chain epoch : ℕ) (all members : List ℕ) → AreFrom 0 (map (membership_message chain epoch all) members)
outs_from chain epoch all [] = tt
outs_from chain epoch all (m ∷ members) = (refl, refl, outs_from chain epoch all members)

pub reported_from : (n : Mastered) (step : Step) → step ≡ membership_step n.chain n.epoch n.members → AreFrom 0 step.outs
reported_from n step e = subst (λ (s : Step). AreFrom 0 s.outs) (sym e) (outs_from n.chain n.epoch n.members n.members)

-- ---- joins

three_tests : (a b d : Bool) (x y z : Refusal) (m n : Mastered) (w : Progress) → (if a then Err x else if b then Err y else if d then Err z else Ok m) ≡ Ok n → (a ≡ false) × ((if a then Err x else if b then Err y else if d then Err z else Ok w) ≡ Ok w)
three_tests true b d x y z m n w h = cc
three_tests false true d x y z m n w h = cc
three_tests false false true x y z m n w h = cc
three_tests false false false x y z m n w h = (refl, refl)

none_of : {A : Type 0} (o : Option A) → is_some o ≡ false → o ≡ None
none_of None h = refl
none_of (Some x) h = cc

second_false : (a b : Bool) → (a || b) ≡ false → b ≡ false
second_false true b h = cc
second_false false b h = h

-- the chain after a join
abbrev pub after_join : Chain → ℕ → Chain
after_join c id = next_epoch (with_node c id) (c.members ++ id ∷ [])

pub record Joins (c : Chain) (id : ℕ) (n : Mastered) (step : Step) : Type 0 where
  pub progress : join_progress c id ≡ Ok (after_join c id, step)
  pub master : n ≡ master_of (after_join c id)
  pub new : node_at c.nodes id ≡ None

pub joins : (c : Chain) (id : ℕ) (n : Mastered) (step : Step) → master_after_join (master_of c) id ≡ Ok n → step ≡ membership_step n.chain n.epoch n.members → Joins c id n step
unfolding master_after_join join_progress
joins c id n step h s =
    let used : Bool = (id == 0) || is_some (node_at c.nodes id) in
    let m : Mastered = record (master_of c) { epoch = c.epoch + 1; members = c.members ++ id ∷ []; used = map id_of c.nodes ++ id ∷ [] } in
    let same : is_member (map id_of c.nodes) id ≡ is_some (node_at c.nodes id) = used_are_nodes c.nodes id in
    let k : (if used then Err UsedId else if nat_le member_limit (length c.members) then Err ChainFull else if c.epoch == greatest then Err Exhausted else Ok m) ≡ Ok n = rw (← same) h in
    let t = three_tests used (nat_le member_limit (length c.members)) (c.epoch == greatest) UsedId ChainFull Exhausted m n (config_progress (after_join c id)) k in
    let made : n ≡ m = join_made (master_of c) n id h in
    record {
      progress = t.1 ∙ rw (s, made) refl;
      master = made ∙ rw (ids_push c.nodes (opening_joined (record { chain = c.chain; node = id }))) refl;
      new = none_of (node_at c.nodes id) (second_false (id == 0) (is_some (node_at c.nodes id)) t.0);
    }

-- ---- removals

four_tests : (a b r d e : Bool) (x y z w : Refusal) (m n : Mastered) (p : Progress) → r ≡ false → (if not (a && b) then Err x else if d then Err z else if e then Err w else Ok m) ≡ Ok n → (if not b then Err x else if r then Err y else if d then Err z else if e then Err w else Ok p) ≡ Ok p
four_tests a b true d e x y z w m n p s h = cc
four_tests false b false d e x y z w m n p s h = cc
four_tests true false false d e x y z w m n p s h = cc
four_tests true true false true e x y z w m n p s h = cc
four_tests true true false false true x y z w m n p s h = cc
four_tests true true false false false x y z w m n p s h = refl

-- the chain after a removal
abbrev pub after_removal : Chain → ℕ → Chain
after_removal c id = next_epoch c (without c.members id)

pub record Removes (c : Chain) (id : ℕ) (n : Mastered) (step : Step) : Type 0 where
  pub progress : removal_progress c id ≡ Ok (after_removal c id, step)
  pub master : n ≡ master_of (after_removal c id)

pub removes : (c : Chain) (stopped : NodeName) (n : Mastered) (step : Step) → is_running (node_at c.nodes stopped.node) ≡ false → removed (master_of c) stopped ≡ Ok n → step ≡ membership_step n.chain n.epoch n.members → Removes c stopped.node n step
unfolding removed removal_progress
removes c stopped n step r h s =
    let m : Mastered = record (master_of c) { epoch = c.epoch + 1; members = without c.members stopped.node } in
    let t = four_tests (stopped.chain == c.chain) (is_member c.members stopped.node) (is_running (node_at c.nodes stopped.node)) (length c.members == 1) (c.epoch == greatest) NotMember NotStopped LastNode Exhausted m n (config_progress (after_removal c stopped.node)) r h in
    let made : n ≡ m = removal_made (master_of c) n stopped h in
    record {
      progress = t ∙ rw (s, made) refl;
      master = made;
    }
