-- Reads from left to right: the value at the front and the bytes after it, if there is one.
use Rattle.std.specs.Prelude.{◌≡◌, ⊤, ℕ, List, length, take, drop, Option, Some, None, Result, Ok, Err, nat_lt, if◌then◌else◌}
use Rattle.std.specs.Int.{Width, byte_len, from_be_bytes}
use Rattle.craq_names.specs.declared.refusal.Refusal.{Refusal}
use Rattle.craq_names.specs.declared.refusal.Refusal.TheVariants as refusals
use Rattle.craq_wire.specs.declared.decode_error.DecodeError.{DecodeError}
use Rattle.craq_wire.specs.declared.decode_error.DecodeError.TheVariants as unread

-- the refusal that reports why nothing was read
abbrev pub refusal_of : DecodeError → Refusal
refusal_of unread.Memory = refusals.Memory
refusal_of unread.BadFrame = refusals.BadFrame

infixl 10 ◌>>=◌
-- the next step of a reading, if the first found something
abbrev pub ◌>>=◌ : {A B : Type 0} → Option A → (A → Option B) → Option B
(Some x) >>= f = f x
None >>= f = None

-- the reading found nothing, or memory ran out
abbrev pub Fails : {Y : Type 0} → DecodeError → Option Y → Type 0
Fails unread.Memory read = ⊤
Fails unread.BadFrame read = read ≡ None

-- a function's result, seen by view, is the result of the reading, unless memory ran out
abbrev pub Decodes : {X Y : Type 0} → (X → Y) → Result X DecodeError → Option Y → Type 0
Decodes view (Ok x) read = read ≡ Some (view x)
Decodes view (Err e) read = Fails e read

-- a number of this width, and the bytes after it
unfoldable pub number_at : Width → List ℕ → Option (ℕ × List ℕ)
number_at w bytes =
    if nat_lt (length bytes) (byte_len w) then None else Some (from_be_bytes w (take (byte_len w) bytes), drop (byte_len w) bytes)

-- the first n bytes, and the rest
unfoldable pub bytes_at : ℕ → List ℕ → Option (List ℕ × List ℕ)
bytes_at n bytes = if nat_lt (length bytes) n then None else Some (take n bytes, drop n bytes)
