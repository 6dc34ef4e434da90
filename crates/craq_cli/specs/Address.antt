-- The form of the address of a server, HOST:PORT. A host may have colons, a port has none.
use Rattle.std.specs.Prelude.{ℕ, ◌+◌, ◌==◌, ◌&&◌, ◌||◌, Bool, false, List, [], ◌∷◌, nat_lt, is_some}
use Rattle.craq_cli.specs.Numbers.{number_between}

-- a number from 1 to 65535 in decimal digits
abbrev pub is_port : List ℕ → Bool
is_port text = is_some (number_between 1 65535 text)

-- true if a colon of this text, whose first character has this place, stands behind a character and before a port
abbrev pub is_address_from : ℕ → List ℕ → Bool
is_address_from place [] = false
is_address_from place (c ∷ text) = (nat_lt 0 place && c == 58 && is_port text) || is_address_from (place + 1) text

-- some text, a colon and a port
abbrev pub is_address : List ℕ → Bool
is_address text = is_address_from 0 text
