-- The master's moves, and the chain's.
use Rattle.std.proofs.Common.{◌≡◌, ◌<◌, ◌+◌, ◌++◌, ◌==◌, ◌||◌, ℕ, Bool, true, false, if◌then◌else◌, List, [], ◌∷◌, length, map, slice_index_or, Option, Some, None, Result, Ok, Err, refl, sym, ap, subst, arith, ◌∙◌, inl, inr}
use Rattle.std.specs.Prelude.{is_some, nat_le, IsOk}
use Rattle.std.specs.List.{AllByRecursion}
use Rattle.craq_names.specs.Limits.{greatest, member_limit}
use Rattle.craq_names.specs.Order.{Refuses}
use Rattle.craq_names.specs.declared.name.NodeName.{NodeName}
use Rattle.craq_names.specs.declared.refusal.Refusal.{Refusal}
use Rattle.craq_names.specs.declared.refusal.Refusal.TheVariants.{NotMember, NotStopped, LastNode, Exhausted, ChainFull, UsedId}
use Rattle.craq_model.specs.declared.step.Step.{Step}
use Rattle.craq_model.specs.Members.{is_member, without}
use Rattle.craq_model.specs.Plain.{Plain, id_of, opening_joined}
use Rattle.craq_epochs.specs.Mastered.{Mastered, IsMastered, removed, master_after_join}
use Rattle.craq_epochs.specs.Switched.{Switched}
use Rattle.craq_runs.specs.Chain.{Chain, Progress, config_progress, node_at, is_running, removal_progress, join_progress, next_epoch, with_node}
use Rattle.craq_laws.proofs.Nodes.{ids_push, used_are_nodes}
use Rattle.craq_chain.specs.Parts.{AreParts, HasStopped, Moves, master_of, place_from, membership_step, join_step, removal_step}
use Rattle.craq_chain.proofs.Places.{stands_at, no_node, place_known, zip_push}
use Rattle.craq_chain.proofs.Steps.{own_name, names_push}

-- a member's id was used
member_used : (members used : List ℕ) (id : ℕ) → AllByRecursion (λ id. is_member used id ≡ true) members → is_member members id ≡ true → is_member used id ≡ true
unfolding is_member
member_used [] used id h e = cc
member_used (k ∷ members) used id h e = let first = h.0 in grind (arith, member_used members used id h.1)

pub not_member : {C : Type 0} (R : C → Plain → Type 0) (cs : List C) (m : Mastered) (c : Chain) (id : ℕ) → AreParts R cs m c → is_member m.members id ≡ false → removal_progress c id ≡ Err NotMember
unfolding removal_progress
not_member R cs m c id h e = rw (rw h.master at e) refl

pub has_place : {C : Type 0} (R : C → Plain → Type 0) (cs : List C) (m : Mastered) (c : Chain) (id : ℕ) → AreParts R cs m c → IsMastered m → is_member m.members id ≡ true → place_from 0 c.nodes id ≡ None → ⊥
has_place R cs m c id h k e none =
    let used : is_member (map id_of c.nodes) id ≡ true = subst (λ (n : Mastered). is_member n.used id ≡ true) h.master (member_used m.members m.used id k.all_used e) in
    let known : is_some (node_at c.nodes id) ≡ true = sym (used_are_nodes c.nodes id) ∙ used in
    let unknown = no_node 0 c.nodes id none in
    let clash : is_some (node_at c.nodes id) ≡ false = rw unknown refl in
    cc

-- the stop that a receipt shows, or that the member runs
abbrev pub shown_by : Option NodeName → Result NodeName Refusal
shown_by None = Err NotStopped
shown_by (Some stopped) = Ok stopped

same_name : (n : NodeName) (chain id : ℕ) → n.chain ≡ chain → n.node ≡ id → n ≡ record { chain = chain; node = id }
same_name n chain id e f = rw (← e, ← f) refl

shown_at : (running : Bool) (c : Chain) (id : ℕ) (p : Plain) → node_at c.nodes id ≡ Some p → p.running ≡ running → p.name.chain ≡ c.chain → id_of p ≡ id → is_member c.members id ≡ true → HasStopped c id (shown_by (if running then None else Some p.name))
unfolding removal_progress
shown_at true c id p at r chained own member = rw (member, at, r) refl
shown_at false c id p at r chained own member = (member, rw at r, same_name p.name c.chain id chained own)

-- the switch of the core in a place shows a stop, or that the node runs
pub shown : {C : Type 0} (R : C → Plain → Type 0) (cs : List C) (m : Mastered) (c : Chain) (id i : ℕ) (core : C) (w : Switched) (receipt : Option NodeName) → AreParts R cs m c → is_member m.members id ≡ true → place_from 0 c.nodes id ≡ Some i → i < length cs → core ≡ slice_index_or cs i core → ((p : Plain) → R core p → w ≡ record { name = p.name; running = p.running }) → receipt ≡ (if w.running then None else Some w.name) → HasStopped c id (shown_by receipt)
unfolding removal_progress
shown R cs m c id i core w receipt h e at within is a r =
    let s = stands_at R cs c.nodes id 0 i core h.nodes (subst (λ n. place_from 0 c.nodes id ≡ Some n) (let z : i ≡ 0 + i = omega arith in z) at) within is in
    let t = a s.node s.stands in
    let chained : s.node.name.chain ≡ c.chain = own_name c.chain id c.nodes s.node h.names s.at in
    let member : is_member c.members id ≡ true = rw h.master at e in
    let seen = shown_at s.node.running c id s.node s.at refl chained s.own member in
    subst (λ x. HasStopped c id (shown_by x)) (sym (r ∙ ap (λ (v : Switched). if v.running then None else Some v.name) t)) seen

two_refusals : (a b : Bool) (x y : Refusal) (t : Step) (w : Progress) (e : Refusal) → (if a then Err x else if b then Err y else Ok t) ≡ Err e → (if a then Err x else if b then Err y else Ok w) ≡ Err e
two_refusals true b x y t w e h = cc
two_refusals false true x y t w e h = cc
two_refusals false false x y t w e h = cc

-- two tests, and then a step
two_tests : (a b : Bool) (x y : Refusal) (t step : Step) (w v : Progress) → (t ≡ step → w ≡ v) → (if a then Err x else if b then Err y else Ok t) ≡ Ok step → (if a then Err x else if b then Err y else Ok w) ≡ Ok v
two_tests true b x y t step w v f h = cc
two_tests false true x y t step w v f h = cc
two_tests false false x y t step w v f h = let e : t ≡ step = cc in ap Ok (f e)

-- the chain after the removal, with the master's messages
abbrev removal_reported : Chain → ℕ → Progress
removal_reported c id = config_progress (next_epoch c (without c.members id))

removal_said : (c : Chain) (id : ℕ) (step : Step) → is_member c.members id ≡ true → is_running (node_at c.nodes id) ≡ false → removal_step (master_of c) id ≡ Ok step → removal_progress c id ≡ Ok (next_epoch c (without c.members id), step)
unfolding removal_progress removal_step
removal_said c id step member stopped h =
    rw (member, stopped) (two_tests (length c.members == 1) (c.epoch == greatest) LastNode Exhausted (membership_step c.chain (c.epoch + 1) (without c.members id)) step (removal_reported c id) (next_epoch c (without c.members id), step) (λ e. rw e refl) h)

pub removal_made : (m n : Mastered) (stopped : NodeName) → removed m stopped ≡ Ok n → n ≡ record m { epoch = m.epoch + 1; members = without m.members stopped.node }
unfolding removed
removal_made m n stopped h = grind arith

-- the master removed a stopped member
pub removes : {C : Type 0} (R : C → Plain → Type 0) (cs : List C) (m n : Mastered) (c : Chain) (id : ℕ) (stopped : NodeName) (step : Step) → AreParts R cs m c → HasStopped c id (Ok stopped) → removal_step m id ≡ Ok step → removed m stopped ≡ Ok n → Moves (AreParts R cs n) c (IsOk (removal_progress c id)) (Ok step) (removal_progress c id)
removes R cs m n c id stopped step h k s r =
    let t : removal_step (master_of c) id ≡ Ok step = subst (λ (x : Mastered). removal_step x id ≡ Ok step) h.master s in
    let u : n ≡ master_of (next_epoch c (without c.members id)) = removal_made m n stopped r ∙ rw (h.master, k.2) refl in
    (next_epoch c (without c.members id), removal_said c id step k.0 k.1 t, record { nodes = h.nodes; master = u; names = h.names })

-- the master refused the removal
pub keeps_member : {C : Type 0} (R : C → Plain → Type 0) (cs : List C) (m : Mastered) (c : Chain) (id : ℕ) (stopped : NodeName) (e : Refusal) → AreParts R cs m c → HasStopped c id (Ok stopped) → removal_step m id ≡ Err e → removal_progress c id ≡ Err e
unfolding removal_progress removal_step
keeps_member R cs m c id stopped e h k s =
    let t : removal_step (master_of c) id ≡ Err e = subst (λ (x : Mastered). removal_step x id ≡ Err e) h.master s in
    rw (k.0, k.1) (two_refusals (length c.members == 1) (c.epoch == greatest) LastNode Exhausted (membership_step c.chain (c.epoch + 1) (without c.members id)) (removal_reported c id) e t)

-- if the master can make its step, the chain can make its own
two_can : (a b : Bool) (x y : Refusal) (t : Step) (w : Progress) → IsOk (if a then Err x else if b then Err y else Ok t) → IsOk (if a then Err x else if b then Err y else Ok w)
two_can true b x y t w h = cc
two_can false true x y t w h = cc
two_can false false x y t w h = refl

pub can_remove : {C : Type 0} (R : C → Plain → Type 0) (cs : List C) (m : Mastered) (c : Chain) (id : ℕ) (stopped : NodeName) → AreParts R cs m c → HasStopped c id (Ok stopped) → IsOk (removal_step m id) → IsOk (removal_progress c id)
unfolding removal_progress removal_step
can_remove R cs m c id stopped h k s =
    let t : IsOk (removal_step (master_of c) id) = subst (λ (x : Mastered). IsOk (removal_step x id)) h.master s in
    rw (k.0, k.1) (two_can (length c.members == 1) (c.epoch == greatest) LastNode Exhausted (membership_step c.chain (c.epoch + 1) (without c.members id)) (removal_reported c id) t)

-- the master does not refuse a removal for which its step was made
removal_allowed : (c : Chain) (id : ℕ) (step : Step) (e : Refusal) → is_member c.members id ≡ true → removal_step (master_of c) id ≡ Ok step → removed (master_of c) (record { chain = c.chain; node = id }) ≡ Err e → ⊥
unfolding removal_step removed
removal_allowed c id step e member s r = grind arith

pub not_kept : {C : Type 0} (R : C → Plain → Type 0) (cs : List C) (m : Mastered) (c : Chain) (id : ℕ) (stopped : NodeName) (step : Step) (e : Refusal) → AreParts R cs m c → HasStopped c id (Ok stopped) → removal_step m id ≡ Ok step → Refuses e (removed m stopped) → Refuses e (removal_progress c id)
not_kept R cs m c id stopped step e h k s (inl memory) =
    inl (memory.0, can_remove R cs m c id stopped h k (rw s refl))
not_kept R cs m c id stopped step e h k s (inr r) =
    let t : removal_step (master_of c) id ≡ Ok step = subst (λ (x : Mastered). removal_step x id ≡ Ok step) h.master s in
    let u : removed (master_of c) (record { chain = c.chain; node = id }) ≡ Err e = subst (λ (x : Mastered). removed x (record { chain = c.chain; node = id }) ≡ Err e) h.master (subst (λ (n : NodeName). removed m n ≡ Err e) k.2 r) in
    absurd (removal_allowed c id step e k.0 t u)

-- ---- joins

pub zero_used : (c : Chain) (id : ℕ) → id ≡ 0 → join_progress c id ≡ Err UsedId
unfolding join_progress
zero_used c id e = rw e refl

-- a join is refused whatever stands after it
used_by : (a b : Bool) → b ≡ true → (w : Result Progress Refusal) → (if a || b then Err UsedId else w) ≡ Err UsedId
used_by true b h w = refl
used_by false b h w = rw h refl

-- the further tests of a join
abbrev join_limits : Chain → ℕ → Result Progress Refusal
join_limits c id =
    if nat_le member_limit (length c.members) then Err ChainFull
    else if c.epoch == greatest then Err Exhausted
    else Ok (config_progress (next_epoch (with_node c id) (c.members ++ id ∷ [])))

id_used_at : (o : Option ℕ) (c : Chain) (id : ℕ) → place_from 0 c.nodes id ≡ o → is_some o ≡ true → join_progress c id ≡ Err UsedId
unfolding join_progress
id_used_at None c id e h = cc
id_used_at (Some j) c id e h = let known = place_known 0 j c.nodes id e in used_by (id == 0) (is_some (node_at c.nodes id)) known (join_limits c id)

pub id_used : (c : Chain) (id : ℕ) → is_some (place_from 0 c.nodes id) ≡ true → join_progress c id ≡ Err UsedId
id_used c id h = id_used_at (place_from 0 c.nodes id) c id refl h

is_none : {A : Type 0} (o : Option A) → is_some o ≡ false → o ≡ None
is_none None h = refl
is_none (Some x) h = cc

-- the id is new
new_id : (c : Chain) (id : ℕ) → (id == 0) ≡ false → is_some (place_from 0 c.nodes id) ≡ false → ((id == 0) || is_some (node_at c.nodes id)) ≡ false
new_id c id e h = let none = no_node 0 c.nodes id (is_none (place_from 0 c.nodes id) h) in rw (e, none) refl

-- the chain after the join, with the master's messages
abbrev join_reported : Chain → ℕ → Progress
join_reported c id = config_progress (next_epoch (with_node c id) (c.members ++ id ∷ []))

join_said : (c : Chain) (id : ℕ) (step : Step) → ((id == 0) || is_some (node_at c.nodes id)) ≡ false → join_step (master_of c) id ≡ Ok step → join_progress c id ≡ Ok (next_epoch (with_node c id) (c.members ++ id ∷ []), step)
unfolding join_progress join_step
join_said c id step new h =
    rw new (two_tests (nat_le member_limit (length c.members)) (c.epoch == greatest) ChainFull Exhausted (membership_step c.chain (c.epoch + 1) (c.members ++ id ∷ [])) step (join_reported c id) (next_epoch (with_node c id) (c.members ++ id ∷ []), step) (λ e. rw e refl) h)

join_refused : (c : Chain) (id : ℕ) (e : Refusal) → ((id == 0) || is_some (node_at c.nodes id)) ≡ false → join_step (master_of c) id ≡ Err e → join_progress c id ≡ Err e
unfolding join_progress join_step
join_refused c id e new h =
    rw new (two_refusals (nat_le member_limit (length c.members)) (c.epoch == greatest) ChainFull Exhausted (membership_step c.chain (c.epoch + 1) (c.members ++ id ∷ [])) (join_reported c id) e h)

pub stays_out : {C : Type 0} (R : C → Plain → Type 0) (cs : List C) (m : Mastered) (c : Chain) (id : ℕ) (e : Refusal) → AreParts R cs m c → (id == 0) ≡ false → is_some (place_from 0 c.nodes id) ≡ false → join_step m id ≡ Err e → join_progress c id ≡ Err e
stays_out R cs m c id e h zero place s =
    join_refused c id e (new_id c id zero place) (subst (λ (x : Mastered). join_step x id ≡ Err e) h.master s)

pub can_join : {C : Type 0} (R : C → Plain → Type 0) (cs : List C) (m : Mastered) (c : Chain) (id : ℕ) → AreParts R cs m c → (id == 0) ≡ false → is_some (place_from 0 c.nodes id) ≡ false → IsOk (join_step m id) → IsOk (join_progress c id)
unfolding join_progress join_step
can_join R cs m c id h zero place s =
    let t : IsOk (join_step (master_of c) id) = subst (λ (x : Mastered). IsOk (join_step x id)) h.master s in
    rw (new_id c id zero place) (two_can (nat_le member_limit (length c.members)) (c.epoch == greatest) ChainFull Exhausted (membership_step c.chain (c.epoch + 1) (c.members ++ id ∷ [])) (join_reported c id) t)

join_allowed : (c : Chain) (id : ℕ) (step : Step) (e : Refusal) → (id == 0) ≡ false → is_member (map id_of c.nodes) id ≡ false → join_step (master_of c) id ≡ Ok step → master_after_join (master_of c) id ≡ Err e → ⊥
unfolding join_step master_after_join
join_allowed c id step e zero new s r = grind arith

-- no node has the id, so it was not used
not_used : (c : Chain) (id : ℕ) → is_some (place_from 0 c.nodes id) ≡ false → is_member (map id_of c.nodes) id ≡ false
not_used c id h = let none = no_node 0 c.nodes id (is_none (place_from 0 c.nodes id) h) in used_are_nodes c.nodes id ∙ rw none refl

pub not_out : {C : Type 0} (R : C → Plain → Type 0) (cs : List C) (m : Mastered) (c : Chain) (id : ℕ) (step : Step) (e : Refusal) → AreParts R cs m c → (id == 0) ≡ false → is_some (place_from 0 c.nodes id) ≡ false → join_step m id ≡ Ok step → Refuses e (master_after_join m id) → Refuses e (join_progress c id)
not_out R cs m c id step e h zero place s (inl memory) =
    inl (memory.0, can_join R cs m c id h zero place (rw s refl))
not_out R cs m c id step e h zero place s (inr r) =
    absurd (join_allowed c id step e zero (not_used c id place) (subst (λ (x : Mastered). join_step x id ≡ Ok step) h.master s) (subst (λ (x : Mastered). master_after_join x id ≡ Err e) h.master r))

pub join_made : (m n : Mastered) (id : ℕ) → master_after_join m id ≡ Ok n → n ≡ record m { epoch = m.epoch + 1; members = m.members ++ id ∷ []; used = m.used ++ id ∷ [] }
unfolding master_after_join
join_made m n id h = grind arith

-- the master added a new member, and its core was added
pub joins : {C : Type 0} (R : C → Plain → Type 0) (cs : List C) (m n : Mastered) (c : Chain) (id : ℕ) (core : C) (step : Step) → AreParts R cs m c → (id == 0) ≡ false → is_some (place_from 0 c.nodes id) ≡ false → R core (opening_joined (record { chain = m.chain; node = id })) → join_step m id ≡ Ok step → master_after_join m id ≡ Ok n → Moves (AreParts R (cs ++ core ∷ []) n) c (IsOk (join_progress c id)) (Ok step) (join_progress c id)
joins R cs m n c id core step h zero place r s made =
    let t : join_step (master_of c) id ≡ Ok step = subst (λ (x : Mastered). join_step x id ≡ Ok step) h.master s in
    let p : R core (opening_joined (record { chain = c.chain; node = id })) = subst (λ (x : Mastered). R core (opening_joined (record { chain = x.chain; node = id }))) h.master r in
    let u : n ≡ record (master_of c) { epoch = c.epoch + 1; members = c.members ++ id ∷ []; used = map id_of c.nodes ++ id ∷ [] } = join_made m n id made ∙ rw h.master refl in (
      next_epoch (with_node c id) (c.members ++ id ∷ []),
      join_said c id step (new_id c id zero place) t,
      record {
        nodes = zip_push R cs c.nodes core (opening_joined (record { chain = c.chain; node = id })) h.nodes p;
        master = rw ids_push u;
        names = names_push c.chain c.nodes (opening_joined (record { chain = c.chain; node = id })) h.names refl;
      },
    )
