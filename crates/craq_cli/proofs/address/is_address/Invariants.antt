use Rattle.std.proofs.Common.{◌≡◌, drop}
use Rattle.craq_cli.specs.Address.{is_address_from}
use Rattle.craq_cli.proofs.address.is_address.Given as goal

-- the characters that are left are an address's rest where all of them are an address
abbrev pub invariant-loop-place : goal.invariant-loop-place
invariant-loop-place l =
    is_address_from l.place (drop l.place l.text) ≡ is_address_from 0 l.text
