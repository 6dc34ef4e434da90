-- One more step preserves the invariants of a node's cell.
use Rattle.std.proofs.Common.{◌≡◌, ◌<◌, ◌≤◌, ℕ, ◌-◌, ◌++◌, List, [], ◌∷◌, length, Option, Some, None, Ok, refl, subst, arith, ◌∙◌}
use Rattle.std.specs.Prelude.{slice_get}
use Rattle.std.specs.Option.{option_map}
use Rattle.craq_model.specs.declared.config.Config.{Config}
use Rattle.craq_model.specs.declared.ask.Event.{Event}
use Rattle.craq_model.specs.declared.step.Step.{Step}
use Rattle.craq_model.specs.Node.{node_step}
use Rattle.craq_model.specs.Plain.{Plain}
use Rattle.craq_names.specs.declared.name.NodeName.{NodeName}
use Rattle.craq_node.specs.Represented.{opening_of}
use Rattle.craq_node_invariant.specs.Sound.{AreEncodable}
use Rattle.craq_laws.proofs.Kept.{name_kept}
use Rattle.craq_seat.specs.declared.journal.Opening.{Opening}
use Rattle.craq_seat.specs.declared.journal.Record.{Record}
use Rattle.craq_seat.specs.Kept.{IsKept}
use Rattle.craq_seat.specs.Numbered.{CanBeSent}
use Rattle.craq_seat.specs.Stamps.{event_stamp, next_stamp}
use Rattle.craq_seat.proofs.Sending.{node_can_send}
use Rattle.craq_seat.proofs.Taking.{cell_of, from_one, last_more, stamps_more, stands_more}

-- a core took the step of each plain node that it stands for
abbrev Goes : {C : Type 0} → (C → Plain → Type 0) → C → C → Event → Step → Type 0
Goes R c d event step = (p : Plain) → R c p → (q : Plain) × (node_step p event ≡ Ok (q, step)) × R d q

abbrev IsNamed : {C : Type 0} → (C → Plain → Type 0) → C → NodeName → Type 0
IsNamed R c name = (p : Plain) × R c p × (p.name ≡ name)

-- a node is opened under its name
pub opening_named : {C : Type 0} (R : C → Plain → Type 0) (c : C) (name : NodeName) (config : Option Config) → R c (opening_of name config) → IsNamed R c name
opening_named R c name None h = (opening_of name None, h, refl)
opening_named R c name (Some config) h = (opening_of name (Some config), h, refl)

still_named : {C : Type 0} (R : C → Plain → Type 0) (c d : C) (name : NodeName) (event : Event) (step : Step) → IsNamed R c name → Goes R c d event step → IsNamed R d name
still_named R c d name event step k go =
    let s = go k.0 k.1 in (s.0, s.2, name_kept k.0 s.0 event step s.1 ∙ k.2)

can_send : {C : Type 0} (R : C → Plain → Type 0) (c d : C) (name : NodeName) (event : Event) (step : Step) (stamp : ℕ) → IsNamed R c name → Goes R c d event step → 1 ≤ stamp → AreEncodable step.outs → CanBeSent (record { node = name.node; stamp = stamp }) step.outs
can_send R c d name event step stamp k go one spelled =
    let s = go k.0 k.1 in
    subst (λ (n : NodeName). CanBeSent (record { node = n.node; stamp = stamp }) step.outs) k.2 (node_can_send k.0 s.0 event step stamp s.1 one spelled)

-- with the step in the journal
pub keeps_noted : {C : Type 0} (R : C → Plain → Type 0) (o : Opening) (c d : C) (own : ℕ) (rs : List (Record Event)) (last : Option Step) (r : Record Event) → IsKept R (cell_of o c own (Some rs) last) → next_stamp own r.pass (event_stamp r.event) ≡ Ok r.stamp → Goes R c d r.event r.step → AreEncodable r.step.outs → IsKept R (cell_of o d r.stamp (Some (rs ++ r ∷ [])) (option_map (λ r. r.step) (slice_get (rs ++ r ∷ []) (length (rs ++ r ∷ []) - 1))))
keeps_noted R o c d own rs last r k up go spelled =
    record {
      stands = stands_more R node_step (opening_of o.name o.config) c d rs r k.stands go;
      named = still_named R c d o.name r.event r.step k.named go;
      stamps = stamps_more event_stamp o.stamp own rs r k.stamps up;
      sends = rw (last_more rs r) (can_send R c d o.name r.event r.step r.stamp k.named go (from_one own r.pass (event_stamp r.event) r.stamp up) spelled);
    }

-- with the step alone
pub keeps_alone : {C : Type 0} (R : C → Plain → Type 0) (o : Opening) (c d : C) (own stamp : ℕ) (last : Option Step) (event : Event) (step : Step) → IsKept R (cell_of o c own None last) → own < stamp → Goes R c d event step → AreEncodable step.outs → IsKept R (cell_of o d stamp None (Some step))
keeps_alone R o c d own stamp last event step k up go spelled =
    let s = go k.stands.0 k.stands.1 in
    let from : o.stamp ≤ own = k.stamps in
    record {
      stands = (s.0, s.2);
      named = still_named R c d o.name event step k.named go;
      stamps = omega arith;
      sends = can_send R c d o.name event step stamp k.named go (omega arith) spelled;
    }
