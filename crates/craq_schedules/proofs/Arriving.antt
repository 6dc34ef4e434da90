-- Unfolds the arrivals after a removal, one message at a time.
use Rattle.std.proofs.Common.{◌≡◌, ◌+◌, ◌<◌, ◌≤◌, ℕ, zero, suc, length, refl, arith}
use Rattle.std.proofs.lemmas.Bool.Decides.{nat_tests}
use Rattle.craq_runs.specs.declared.run.Move.TheVariants as moves
use Rattle.craq_chain.specs.Chained.{Chained, chain_of_run}
use Rattle.craq_play.specs.Played.{after_one}
use Rattle.craq_schedules.specs.Stopped.{delivered}

-- a message is left, and arrives
pub arrives : (most earlier : ℕ) (w : Chained) → earlier < length (chain_of_run w).messages → delivered (suc most) earlier w ≡ delivered most (earlier + 1) (after_one w (moves.Deliver (earlier + 1)))
unfolding delivered
arrives most earlier w h = grind (arith, nat_tests)

-- no message is left
pub all_arrived : (most earlier : ℕ) (w : Chained) → length (chain_of_run w).messages ≤ earlier → delivered most earlier w ≡ w
unfolding delivered
all_arrived zero earlier w h = refl
all_arrived (suc most) earlier w h = grind (arith, nat_tests)

-- no more messages may arrive
pub enough : (earlier : ℕ) (w : Chained) → delivered 0 earlier w ≡ w
unfolding delivered
enough earlier w = refl
