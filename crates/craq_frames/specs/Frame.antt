-- The frames around payloads.
use Rattle.std.specs.Prelude.{◌≡◌, ◌<◌, ◌≤◌, ◌^◌, ◌⊎◌, ℕ, List, ◌++◌, length}
use Rattle.std.specs.Int.{w32}
use Rattle.tokio_util.specs.Codec.LengthField.{Layout, default_layout, with_reachable_limit}
use Rattle.craq_wire.specs.NumberEncoding.{number}

-- the most bytes of a payload
abbrev pub payload_limit : ℕ
payload_limit = 1048576

-- the length of the payload only, and the payload
abbrev pub frame : List ℕ → List ℕ
frame payload = number w32 (length payload) ++ payload

-- the codec's frames: a length of four bytes, highest first, and a payload within the limit
abbrev pub frame_layout : Layout
frame_layout = with_reachable_limit (record default_layout { max_frame_len = payload_limit })

-- a length above the limit is at the front
abbrev pub BeginsTooLong : List ℕ → Type 0
BeginsTooLong bytes = (n : ℕ) × (rest : List ℕ) × (payload_limit < n) × (n < 2 ^ 32) × (bytes ≡ number w32 n ++ rest)

-- less than a frame: an incomplete length, or a length within the limit and fewer bytes than it
-- says
abbrev pub IsPartial : List ℕ → Type 0
IsPartial bytes = (length bytes < 4) ⊎ ((n : ℕ) × (rest : List ℕ) × (n ≤ payload_limit) × (bytes ≡ number w32 n ++ rest) × (length rest < n))
