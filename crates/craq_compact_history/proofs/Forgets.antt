-- Nodes that differ only in settled entries have the same remembered part.
use Rattle.std.proofs.Common.{◌≡◌, true, ℕ, List, sym, ap, ◌∙◌}
use Rattle.craq_commands.specs.declared.entry.Entry.{Entry}
use Rattle.craq_commands.specs.declared.state.State.{State}
use Rattle.craq_model.specs.Past.{Past, clean_in, entries_in}
use Rattle.craq_model.specs.Plain.{Plain}
use Rattle.craq_node_invariant.specs.Sound.{IsSound}
use Rattle.craq_node_invariant.specs.Compacted.{compacted_in, remembered}
use Rattle.craq_node.specs.Represented.{IsRemembered}
use Rattle.craq_compact_history.specs.Forgotten.{DiffersInSettled}

abbrev past_at : ℕ → State → List Entry → Past
past_at n s es = record { base = n; base_state = s; entries = es; acknowledged = n }

same_compacted : (p q : Plain) → DiffersInSettled p q → compacted_in p.past ≡ compacted_in q.past
same_compacted p q d =
    ap (λ (n : ℕ). past_at n (clean_in p.past) (entries_in p.past p.past.acknowledged)) d.acknowledged
    ∙ ap (λ (s : State). past_at q.past.acknowledged s (entries_in p.past p.past.acknowledged)) d.clean
    ∙ ap (λ (es : List Entry). past_at q.past.acknowledged (clean_in q.past) es) d.later

pub same_memory : (p q : Plain) → DiffersInSettled p q → remembered true p ≡ remembered true q
same_memory p q d = ap (λ (h : Past). record p { past = h }) (same_compacted p q d) ∙ ap (λ (x : Plain). record x { past = compacted_in q.past }) d.rest

pub forgets : (p q seen : Plain) → IsRemembered true p seen → IsSound q → DiffersInSettled p q → IsRemembered true q seen
forgets p q seen r s d = record { sound = s; same = sym (same_memory p q d) ∙ r.same }
