-- After which errors a listener gives no connection any more.
use Rattle.std.specs.Prelude.{◌≡◌, ◌⊎◌, ℤ, pos}

-- the error number is EBADF, EINVAL, ENOTSOCK or EOPNOTSUPP of Linux
abbrev pub Lasts : ℤ → Type 0
Lasts code = (code ≡ pos 9) ⊎ ((code ≡ pos 22) ⊎ ((code ≡ pos 88) ⊎ (code ≡ pos 95)))
