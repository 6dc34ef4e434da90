-- A call of a client in the history that the client has seen.
use Rattle.std.proofs.Common.{◌∙◌, List, [], ◌∷◌, ◌++◌, sym, ap, append_assoc}
use mathlib.Core.List.{IsPrefix}
use Rattle.craq_names.specs.declared.name.NodeName.{NodeName}
use Rattle.craq_model.specs.declared.ask.Ask.{Ask}
use Rattle.craq_store_history.specs.declared.entry.CallId.{CallId}
use Rattle.craq_store_history.specs.declared.entry.HistoryEntry.{HistoryEntry}
use Rattle.craq_store_history.specs.declared.entry.HistoryEntry.TheVariants.{ClientCall as WasMade}
use Rattle.craq_store_parts.specs.Sent.{IsMade}

-- a history in which a call was made begins with the one before it
pub made_later : (old new : List HistoryEntry) (call : CallId) (node : NodeName) (ask : Ask) → IsMade old call node ask new → IsPrefix old new
made_later old new call node ask m =
    let a = m.2 in
    let e : HistoryEntry = WasMade call node m.0 in
    (a.kept.0 ++ e ∷ [], sym (append_assoc old a.kept.0 (e ∷ [])) ∙ (ap (λ (l : List HistoryEntry). l ++ e ∷ []) a.kept.1 ∙ sym a.now))
