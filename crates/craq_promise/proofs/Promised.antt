-- The promise, from its parts.
use Rattle.std.proofs.Common.{ℕ, List, [], ◌∷◌, ◌++◌}
use Rattle.craq_runs.specs.Typed.{AreOfType, IsTypedRunOf}
use Rattle.craq_updates.proofs.Explained.{taken_front, typed_front}
use Rattle.craq_strong_answers.proofs.Strong.{checked}
use Rattle.craq_promise.proofs.Holding.{looks_hold}
use Rattle.craq_runs.specs.Chain.{opening_chain}
use Rattle.craq_runs.specs.Explain.{explain}
use Rattle.craq_runs.specs.Runs.{AreTaken, after_moves}
use Rattle.craq_runs.specs.Valid.{IsValid}
use Rattle.craq_runs.specs.declared.run.Run.{Run}
use Rattle.craq_runs.specs.declared.run.Taken.{Taken}
use Rattle.craq_promise.specs.Fixed.{HasFixedMembership}

pub explained : (chain : ℕ) (run : Run) → IsTypedRunOf chain run → IsValid run (explain chain run)
explained chain run i = record { checked = checked chain run i; looks = looks_hold chain run i }

pub fixed : (chain : ℕ) (run : Run) → IsTypedRunOf chain run → HasFixedMembership run.moves → IsValid run (explain chain run)
fixed chain run i f = explained chain run i

-- a run before its last move
pub before : (chain : ℕ) (members : List ℕ) (moves : List Taken) (next : Taken) → IsTypedRunOf chain (record { members = members; moves = moves ++ next ∷ [] })
    → IsValid (record { members = members; moves = moves }) (explain chain (record { members = members; moves = moves }))
before chain members moves next i =
    let taken : AreTaken (opening_chain chain members) moves × AreTaken (after_moves (opening_chain chain members) moves) (next ∷ []) = taken_front moves (next ∷ []) (opening_chain chain members) i.run_of.moves in
    let typed : AreOfType moves × AreOfType (next ∷ []) = typed_front moves (next ∷ []) i.typed in
    explained chain (record { members = members; moves = moves }) (record { run_of = record { members = i.run_of.members; moves = taken.0 }; typed = typed.0 })
