-- A message that keeps its rules and is a value of its type has an encoding.
use Rattle.std.proofs.Common.{◌≤◌, ◌<◌, ℕ, List, [], ◌∷◌, length, refl, arith}
use Rattle.std.specs.Prelude.{◌↔◌}
use Rattle.std.specs.List.{AllByRecursion}
use Rattle.craq_commands.specs.Kept.{Window}
use Rattle.craq_commands.specs.declared.state.State.{State}
use Rattle.craq_commands.specs.declared.entry.Entry.{Entry}
use Rattle.craq_model.specs.declared.message.Body.{Body}
use Rattle.craq_model.specs.declared.message.Body.TheVariants as bodies
use Rattle.craq_model.specs.declared.message.LinkMessage.{LinkMessage}
use Rattle.craq_model.specs.Encodable.{IsEncodableEntry, IsEncodableWindow, IsEncodableState, IsEncodableBody, IsEncodable}
use Rattle.craq_wire.specs.TypedEntries.{IsTypedEntry}
use Rattle.craq_wire.specs.EntryEncoding.{EntryFits}
use Rattle.craq_wire.proofs.TypedEntries.{within_byte, entry_fits, window_fits}
use Rattle.craq_wire.specs.Encoding.{KeptFits, StateFits, BodyFits, Encodes, encoding_of}
use Rattle.craq_wire.specs.Typed.{IsTypedKept, IsTypedState, IsTypedBody, IsTypedMessage}

few_members : (n : ℕ) → n ≤ 8 → n < 256
few_members n h = omega (arith, h)

few_copied : (n : ℕ) → n ≤ 4294967295 → n < 4294967296
few_copied n h = omega (arith, h)

kept_fit : (kept : List (ℕ × Window)) → AllByRecursion IsTypedKept kept → AllByRecursion (λ (k : ℕ × Window). IsEncodableWindow k.1) kept → AllByRecursion KeptFits kept
kept_fit [] t i = tt
kept_fit (k ∷ ks) t i = ((t.0.0, window_fits k.1 t.0.1 i.0), kept_fit ks t.1 i.1)

state_fits : (s : State) → IsTypedState s → IsEncodableState s → StateFits s
state_fits s t i = record {
  objects = record { few = few_copied (length s.objects) i.few_objects; each = t.objects };
  kept = record { few = few_copied (length s.kept) i.few_kept; each = kept_fit s.kept t.kept i.windows };
}

entries_fit : (es : List Entry) → AllByRecursion IsTypedEntry es → AllByRecursion IsEncodableEntry es → AllByRecursion EntryFits es
entries_fit [] t i = tt
entries_fit (e ∷ es) t i = (entry_fits e t.0 i.0, entries_fit es t.1 i.1)

body_fits : (b : Body) → IsTypedBody b → IsEncodableBody b → BodyFits b
body_fits (bodies.Config members) t i = record { few = few_members (length members) i.few; each = t }
body_fits (bodies.Entry e) t i = entry_fits e t i
body_fits (bodies.Ack position) t i = t
body_fits (bodies.Query ticket k) t i = t
body_fits (bodies.VersionIs ticket version) t i = t
body_fits (bodies.Blank count) t i = t
body_fits (bodies.Copy position s) t i = (t.0, state_fits s t.1 i.1)
body_fits (bodies.Floor count) t i = t
body_fits (bodies.Part p) t i = record { position = t.position; number = t.number; count = t.count; state = state_fits p.state t.state i.state }
body_fits (bodies.Batch es) t i = record { few = within_byte (length es) i.few; each = entries_fit es t i.entries }

pub encodable_somehow : (m : LinkMessage) → IsTypedMessage m → IsEncodable m ↔ ((bytes : List ℕ) × Encodes m bytes)
encodable_somehow m t = (
  λ i. (encoding_of m, record { fits = record { header = t.header; body = body_fits m.body t.body i.body }; rules = i; encoding = refl }),
  λ x. x.1.rules,
)
