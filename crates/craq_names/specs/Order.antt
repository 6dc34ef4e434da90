-- Out of memory is the last of the refusals.
use Rattle.std.specs.Prelude.{◌≡◌, ◌⊎◌, Result, Err, IsOk}
use Rattle.craq_names.specs.declared.refusal.Refusal.{Refusal}
use Rattle.craq_names.specs.declared.refusal.Refusal.TheVariants.{Memory}

-- the refusal is the wanted one, or it is `Memory` and `can` holds
abbrev pub RefusesWhere : {A : Type 0} → Type 0 → Refusal → Result A Refusal → Type 0
RefusesWhere can e wanted = ((e ≡ Memory) × can) ⊎ (wanted ≡ Err e)

-- the refusal is the wanted one, or the call was to succeed and ran out of memory
abbrev pub Refuses : {A : Type 0} → Refusal → Result A Refusal → Type 0
Refuses e wanted = RefusesWhere (IsOk wanted) e wanted
