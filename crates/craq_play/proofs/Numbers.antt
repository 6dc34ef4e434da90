-- Characterizes a JSON value that is a whole number.
use Rattle.std.proofs.Common.{◌≡◌, ℕ, Some, None, Option, option_and_then, arith}
use Rattle.serde_json.specs.Data.{Num, unsigned, negative, float, Data, null, boolean, number, string, array, object}
use Rattle.serde_json.specs.Find.{as_number, as_u64}
use Rattle.craq_play.specs.Explained.{count_data}

-- the value encodes the number that is read from it
pub is_count : (d : Data) (n : ℕ) → Some n ≡ option_and_then as_u64 (as_number d) → d ≡ count_data n
is_count null n h = cc
is_count (boolean b) n h = cc
is_count (number (unsigned m)) n h = grind arith
is_count (number (negative z)) n h = cc
is_count (number (float x)) n h = cc
is_count (string s) n h = cc
is_count (array ds) n h = cc
is_count (object ms) n h = cc
