-- The chain that a master and cores stand for.
use Rattle.std.specs.Prelude.{◌≡◌, ℕ, ◌+◌, ◌==◌, nat_le, true, false, if◌then◌else◌, List, [], ◌∷◌, ◌++◌, map, length, Option, Some, None, IsSome, Result, Ok, Err}
use Rattle.std.specs.List.{AllZip, AllByRecursion}
use Rattle.craq_names.specs.Limits.{greatest, member_limit}
use Rattle.craq_names.specs.Order.{Refuses, RefusesWhere}
use Rattle.craq_names.specs.declared.name.NodeName.{NodeName}
use Rattle.craq_names.specs.declared.refusal.Refusal.{Refusal}
use Rattle.craq_names.specs.declared.refusal.Refusal.TheVariants as refusals
use Rattle.craq_model.specs.declared.step.Step.{Step}
use Rattle.craq_model.specs.declared.step.Out.{Out}
use Rattle.craq_model.specs.declared.step.Out.TheVariants as outs
use Rattle.craq_model.specs.declared.message.Body.TheVariants.{Config}
use Rattle.craq_model.specs.Members.{is_member, without}
use Rattle.craq_model.specs.Plain.{Plain, id_of}
use Rattle.craq_epochs.specs.Mastered.{Mastered}
use Rattle.craq_runs.specs.Chain.{Chain, Progress, node_at, is_running, removal_progress}

-- the master of a chain
abbrev pub master_of : Chain → Mastered
master_of c = record { chain = c.chain; epoch = c.epoch; members = c.members; used = map id_of c.nodes }

-- the master is the chain's, and each core stands for the node in its place
pub record AreParts {C : Type 0} (represents : C → Plain → Type 0) (cores : List C) (m : Mastered) (c : Chain) : Type 0 where
  pub nodes : AllZip represents cores c.nodes
  pub master : m ≡ master_of c
  pub names : AllByRecursion (λ (p : Plain). p.name.chain ≡ c.chain) c.nodes

-- the move was taken, with the chain's step; or it was refused as wanted, or out of memory where
-- that can come
abbrev pub Moves : (Chain → Type 0) → Chain → Type 0 → Result Step Refusal → Result Progress Refusal → Type 0
Moves now old can (Ok step) wanted = (new : Chain) × (wanted ≡ Ok (new, step)) × now new
Moves now old can (Err e) wanted = RefusesWhere can e wanted × now old

-- the place of the first node of an id; `place` is that of the first node of the list
abbrev pub place_from : ℕ → List Plain → ℕ → Option ℕ
place_from place [] id = None
place_from place (p ∷ ps) id = if id_of p == id then Some place else place_from (place + 1) ps id

-- the master's message to a member
abbrev pub membership_message : ℕ → ℕ → List ℕ → ℕ → Out
membership_message chain epoch members to =
    outs.Send to (record { chain = chain; sender = 0; receiver = to; stamp = 1; index = 0; epoch = epoch; body = Config members })

-- the master sends the membership to each member
abbrev pub membership_step : ℕ → ℕ → List ℕ → Step
membership_step chain epoch members = record { ticket = None; outs = map (membership_message chain epoch members) members; ignored = None }

-- the chain has the node of an id, or a move of that node is refused
abbrev pub HasNode : Chain → ℕ → Result Unit Refusal → Type 0
HasNode c id (Ok done) = IsSome (node_at c.nodes id)
HasNode c id (Err e) = (e ≡ refusals.WrongNode) × (node_at c.nodes id ≡ None)

-- the stop of a member was shown, or the removal is refused
abbrev pub HasStopped : Chain → ℕ → Result NodeName Refusal → Type 0
HasStopped c id (Ok stopped) =
    (is_member c.members id ≡ true) × (is_running (node_at c.nodes id) ≡ false) × (stopped ≡ record { chain = c.chain; node = id })
HasStopped c id (Err e) = removal_progress c id ≡ Err e

-- the step is the wanted one, or it is refused as wanted; or memory ran out where a step is wanted
abbrev pub MasterComputes : Result Step Refusal → Result Step Refusal → Type 0
MasterComputes (Ok step) wanted = wanted ≡ Ok step
MasterComputes (Err e) wanted = Refuses e wanted

-- the master's step on the removal of a stopped member
unfoldable pub removal_step : Mastered → ℕ → Result Step Refusal
removal_step m id =
    if length m.members == 1 then Err refusals.LastNode
    else if m.epoch == greatest then Err refusals.Exhausted
    else Ok (membership_step m.chain (m.epoch + 1) (without m.members id))

-- the master's step on the join of an unused id
unfoldable pub join_step : Mastered → ℕ → Result Step Refusal
join_step m id =
    if nat_le member_limit (length m.members) then Err refusals.ChainFull
    else if m.epoch == greatest then Err refusals.Exhausted
    else Ok (membership_step m.chain (m.epoch + 1) (m.members ++ id ∷ []))
