-- The parts that a sound node gathers are sorted, and so is a state with an encoding.
use Rattle.std.proofs.Common.{◌≡◌, ℕ, List, [], ◌∷◌, Option, None, Some}
use Rattle.std.specs.Prelude.{T}
use Rattle.std.specs.List.{AllByRecursion, flat_map}
use Rattle.std.proofs.lemmas.List.Elements.{All-from_recursion}
use Rattle.std.specs.Ordering.{nat_cmp}
use Rattle.std.specs.FinMap.Entries.{is_sorted}
use Rattle.craq_names.specs.Maps.{key_cmp}
use Rattle.craq_commands.specs.declared.entry.Entry.{Entry}
use Rattle.craq_commands.specs.declared.state.State.{State}
use Rattle.craq_model.specs.declared.gathering.Gathering.{Gathering}
use Rattle.craq_model.specs.declared.message.Body.TheVariants as bodies
use Rattle.craq_model.specs.declared.message.LinkMessage.{LinkMessage}
use Rattle.craq_model.specs.declared.message.StatePart.{StatePart}
use Rattle.craq_model.specs.Parts.{joined_state}
use Rattle.craq_model.specs.Encodable.{IsConsecutive, IsEncodable, IsEncodableBody}
use Rattle.craq_node_invariant.specs.Sound.{IsSoundIfAny}
use Rattle.craq_node_invariant.proofs.Sorted.{rising_parts}
use Rattle.craq_write.specs.Gathered.{IsInOrder, IsOrdered}

-- each part of a sorted state is sorted
each_in_order : (parts : List (ℕ × State)) → T (is_sorted key_cmp (flat_map (λ (held : ℕ × State). held.1.objects) parts)) → T (is_sorted nat_cmp (flat_map (λ (held : ℕ × State). held.1.kept) parts)) → AllByRecursion (λ (held : ℕ × State). IsInOrder held.1) parts
each_in_order [] a b = tt
each_in_order (h ∷ hs) a b =
    let objects = rising_parts key_cmp h.1.objects (flat_map (λ (held : ℕ × State). held.1.objects) hs) a in
    let kept = rising_parts nat_cmp h.1.kept (flat_map (λ (held : ℕ × State). held.1.kept) hs) b in
    (record { objects = objects.0; kept = kept.0 }, each_in_order hs objects.1 kept.1)

pub ordered : (g : Option Gathering) → IsSoundIfAny g → IsOrdered g
unfolding joined_state
ordered None h = tt
ordered (Some g) h = record {
  numbers = h.numbers_rise;
  states = All-from_recursion (λ (held : ℕ × State). IsInOrder held.1) g.parts (each_in_order g.parts h.state.keys_rise h.state.clients_rise);
}

pub part_ordered : (m : LinkMessage) (part : StatePart) → IsEncodable m → m.body ≡ bodies.Part part → IsInOrder part.state
part_ordered m part s e =
    let body : IsEncodableBody (bodies.Part part) = rw e at s.body in
    record { objects = body.state.keys_rise; kept = body.state.clients_rise }

pub batch_in_row : (m : LinkMessage) (es : List Entry) → IsEncodable m → m.body ≡ bodies.Batch es → IsConsecutive es
batch_in_row m es s e =
    let body : IsEncodableBody (bodies.Batch es) = rw e at s.body in
    body.consecutive
