-- Valid entries: each was requested, was new, and has the result of its update on one copy of the
-- objects.
use Rattle.std.specs.Prelude.{◌≡◌, true, ⊤, List, [], ◌∷◌, map, Some}
use Rattle.std.specs.List.{IsDistinct}
use Rattle.craq_names.specs.Maps.{same_bytes}
use Rattle.craq_commands.specs.Evaluation.{eval}
use Rattle.craq_commands.specs.declared.state.State.{State}
use Rattle.craq_commands.specs.SingleCopy.{opening_state, is_new_to, apply, after_entry}
use Rattle.craq_commands.specs.declared.command.Update.{Update}
use Rattle.craq_commands.specs.declared.entry.Entry.{Entry}
use Rattle.craq_model.specs.declared.ask.Ask.TheVariants as asks
use Rattle.craq_model.specs.Asks.{versioned_write}
use Rattle.craq_runs.specs.Seen.{Asked, ask_with}
use Rattle.craq_runs.specs.declared.explanation.Explanation.{Explanation}
use Rattle.craq_model.specs.Plain.{Plain}
use Rattle.craq_protocol.specs.Promises.{IsPrefix}
use Rattle.craq_refinement.specs.Follows.{IsHistory}

-- the entry names its request, and has the update's client and number
pub record IsAskedBy (asked : List Asked) (e : Entry) (u : Update) : Type 0 where
  pub ask : Asked
  pub is_ask : ask_with asked e.origin_node e.origin_ticket ≡ Some ask
  pub is : ask.ask ≡ asks.Update u
  pub client : e.client ≡ u.client
  pub number : e.number ≡ u.number

-- the entry was requested, its number was new in this state, it has the result of its update there,
-- and writes no key twice
pub record IsValidEntry (asked : List Asked) (s : State) (e : Entry) : Type 0 where
  pub update : Update
  pub by : IsAskedBy asked e update
  pub new : is_new_to s update.client update.number ≡ true
  pub reply : e.reply ≡ (eval s.objects update.command).1
  pub writes : e.writes ≡ map (versioned_write s.objects) (eval s.objects update.command).0
  pub once : IsDistinct same_bytes (map (λ w. w.0) (eval s.objects update.command).0)
  pub applied : after_entry s e ≡ apply s update

-- each entry is valid in the state after those before it
abbrev pub AllValid : List Asked → State → List Entry → Type 0
AllValid asked s [] = ⊤
AllValid asked s (e ∷ es) = IsValidEntry asked s e × AllValid asked (after_entry s e) es

-- a history of valid entries, of which the node has a base's state and the entries after it
pub record HasValidHistory (asked : List Asked) (p : Plain) : Type 0 where
  pub history : List Entry
  pub is : IsHistory p.past.base p.past.base_state p.past.entries history
  pub valid_entry : AllValid asked opening_state history

-- ---- explanations

-- each list of the first is a prefix of the same list of the second
pub record IsBeginning (e f : Explanation) : Type 0 where
  pub asks : IsPrefix e.asks f.asks
  pub lens : IsPrefix e.lens f.lens
  pub places : IsPrefix e.places f.places
