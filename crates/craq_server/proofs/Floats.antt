-- A status has no floating-point number.
use Rattle.std.proofs.Common.{◌≡◌, ℕ, false, List, [], ◌∷◌, map, refl}
use Rattle.serde_json.specs.View.{items_of}
use Rattle.serde_json.specs.Written.{has_float, items_have_float}
use Rattle.craq_workers.specs.declared.store.ChainStatus.{ChainStatus}
use Rattle.craq_server.specs.Status.{member_data, chain_data, status_data}

members : (ids : List ℕ) → items_have_float (items_of (map member_data ids)) ≡ false
members [] = refl
members (id ∷ ids) = members ids

chains : (cs : List ChainStatus) → items_have_float (items_of (map chain_data cs)) ≡ false
chains [] = refl
chains (c ∷ cs) = rw (members c.config.members) (chains cs)

pub none_in : (cs : List ChainStatus) → has_float (status_data cs) ≡ false
unfolding status_data
none_in cs = rw (chains cs) refl
