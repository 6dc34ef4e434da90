-- Nodes that forget settled entries: the state after these entries replaces them.
use Rattle.std.specs.Prelude.{◌≤◌, Bool, if◌then◌else◌, Result, Ok, Err}
use Rattle.craq_names.specs.declared.refusal.Refusal.{Refusal}
use Rattle.craq_model.specs.Past.{Past, length_in, clean_in, entries_in}
use Rattle.craq_model.specs.Plain.{Plain}
use Rattle.craq_model.specs.Settle.{Transition}

-- the past with the state after its settled entries, instead of these and its base state
abbrev pub compacted_in : Past → Past
compacted_in h = record { base = h.acknowledged; base_state = clean_in h; entries = entries_in h h.acknowledged; acknowledged = h.acknowledged }

-- the past holds its committed entries: in its base state, or as entries
pub record HoldsCommitted (h : Past) : Type 0 where
  pub based : h.base ≤ h.acknowledged
  pub within : h.acknowledged ≤ length_in h

-- the remembered part of a past: compacted if settled entries are forgotten, else all of it
abbrev pub remembered_in : Bool → Past → Past
remembered_in forgets h = if forgets then compacted_in h else h

-- the remembered part of a node
abbrev pub remembered : Bool → Plain → Plain
remembered forgets p = record p { past = remembered_in forgets p.past }

-- the transition to the remembered part of its node; a refusal is unchanged
abbrev pub remembered_transition : Bool → Result Transition Refusal → Result Transition Refusal
remembered_transition forgets (Ok t) = Ok (remembered forgets t.0, t.1)
remembered_transition forgets (Err e) = Err e
