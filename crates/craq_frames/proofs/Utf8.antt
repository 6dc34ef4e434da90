-- A test whether bytes are UTF-8.
use Rattle.std.proofs.Common.{◌≡◌, ℕ, List, true, false}
use Rattle.std.specs.Str.{IsUtf8, is_utf8}
use Rattle.std.proofs.lemmas.Bool.{false_from_ne_true}
use Rattle.std.proofs.lemmas.Str.{IsUtf8-from_is_utf8, is_utf8-from_IsUtf8}

pub test_of_text : (bytes : List ℕ) → IsUtf8 bytes → is_utf8 bytes ≡ true
test_of_text bytes h = is_utf8-from_IsUtf8 bytes h

pub test_of_no_text : (bytes : List ℕ) → ¬ (IsUtf8 bytes) → is_utf8 bytes ≡ false
test_of_no_text bytes h = false_from_ne_true (is_utf8 bytes) (λ t. h (IsUtf8-from_is_utf8 bytes t))
