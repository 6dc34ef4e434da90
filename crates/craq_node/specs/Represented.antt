-- The plain nodes that a core represents, and the result of its step.
use Rattle.std.specs.Prelude.{◌≡◌, ◌≤◌, ⊤, true, Bool, IsSome, IsOk, Option, None, Some, Result, Ok, Err}
use Rattle.craq_names.specs.Order.{RefusesWhere}
use Rattle.craq_names.specs.declared.name.NodeName.{NodeName}
use Rattle.craq_names.specs.declared.refusal.Refusal.{Refusal}
use Rattle.craq_model.specs.declared.ask.Event.{Event}
use Rattle.craq_model.specs.declared.ask.Event.TheVariants.{Ask, Deliver, Tick, Stop}
use Rattle.craq_model.specs.declared.config.Config.{Config}
use Rattle.craq_model.specs.declared.step.Step.{Step}
use Rattle.craq_model.specs.Deliveries.{delivery_transition}
use Rattle.craq_model.specs.Members.{IsMembership, is_member}
use Rattle.craq_model.specs.Node.{is_for, node_step, outs_fit, within_counts}
use Rattle.craq_model.specs.Plain.{Plain, opening_joined, opening_member}
use Rattle.craq_model.specs.Settle.{Transition}
use Rattle.craq_model.specs.Encodable.{IsEncodable}
use Rattle.craq_history.specs.declared.node.Node.{Node}
use Rattle.craq_model.specs.Past.{Past}
use Rattle.craq_history.specs.Nodes.{plain_of}
use Rattle.craq_node_invariant.specs.Sound.{IsSound}
pub use Rattle.craq_node.specs.Admitted.{uncounted_step}
use Rattle.craq_node_invariant.specs.Compacted.{remembered, remembered_transition}

-- the plain node of a node that runs or is stopped
abbrev pub plain_at : {H : Type 0} → (H → Past) → Node H → Bool → Plain
plain_at past n running = record (plain_of past n) { running = running }

-- a node before its first step: an opening member, or one that joins later
abbrev pub opening_of : NodeName → Option Config → Plain
opening_of name (Some config) = opening_member name config.members
opening_of name None = opening_joined name

-- a first membership that contains the node
pub record IsFirstWith (name : NodeName) (config : Config) : Type 0 where
  pub epoch : config.epoch ≡ 1
  pub members : IsMembership config.members
  pub own : is_member config.members name.node ≡ true

-- the node's id is not 0, and the node is in the membership that it opens with
abbrev pub CanOpen : NodeName → Option Config → Type 0
CanOpen name (Some config) = (1 ≤ name.node) × IsFirstWith name config
CanOpen name None = 1 ≤ name.node

-- a delivered message has an encoding
abbrev pub CanArrive : Event → Type 0
CanArrive (Deliver m) = IsEncodable m
CanArrive (Ask ask) = ⊤
CanArrive Tick = ⊤
CanArrive Stop = ⊤

-- a running node stops, or ignores a message
abbrev pub IsFree : Plain → Event → Type 0
IsFree p (Deliver m) = (p.running ≡ true) × (is_for p m ≡ true) × IsSome (delivery_transition p m).1.ignored
IsFree p (Ask ask) = ⊥
IsFree p Tick = ⊥
IsFree p Stop = p.running ≡ true

-- the remembered part takes this transition, within its counts; or it is unchanged and refused: as
-- the transition is, with `Exhausted` for its counts, or with `Memory` instead of a transition
abbrev pub StepGives : Bool → Plain → Plain → Result Step Refusal → Result Transition Refusal → Type 0
StepGives forgets old new (Ok step) transition = remembered_transition forgets (within_counts transition) ≡ Ok (new, step)
StepGives forgets old new (Err e) transition = RefusesWhere (IsOk transition) e (within_counts transition) × (new ≡ old)

-- if the wanted result is a transition whose sends fit into messages, its node satisfies the
-- invariant
pub record LeadsToSound (wanted : Result Transition Refusal) : Type 0 where
  pub sound : (q : Plain) (s : Step) → wanted ≡ Ok (q, s) → outs_fit s.outs ≡ true → IsSound q

-- a sound plain node of which the seen node is the remembered part
pub record IsRemembered (forgets : Bool) (p seen : Plain) : Type 0 where
  pub sound : IsSound p
  pub same : remembered forgets p ≡ seen

-- the result of a core's step: the step of the represented node, which `now` represents; or its
-- refusal, or `Memory` if no refusal other than that of counts applies
abbrev pub StepAnswers : (Plain → Type 0) → Plain → Event → Result Step Refusal → Type 0
StepAnswers now old event (Ok step) = (new : Plain) × (node_step old event ≡ Ok (new, step)) × now new
StepAnswers now old event (Err e) = RefusesWhere (IsOk (uncounted_step old event)) e (node_step old event) × now old
