-- The replies kept for one client, with reserved room.
use Rattle.std.specs.Prelude.{ℕ}
use Rattle.craq_commands.specs.Kept.{Window}

pub record Held : Type 0 where
  pub replies : Window
  pub room : ℕ  -- the number of further replies that need no allocation
