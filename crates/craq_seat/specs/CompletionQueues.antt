-- The view that contracts have of a completion queue.
use Rattle.std.specs.Prelude.{ℕ, List, Bool}
use Rattle.craq_seat.specs.declared.queue_state.Completion.{Completion}

-- the completions in it, in the order in which they came, and how many more are expected; whether there is news of which the owner
-- has not heard; and whether the owner sleeps, and has to be woken
pub record QueueView (T : Type 0) : Type 0 where
  pub completions : List (Completion T)
  pub expected : ℕ
  pub reported : Bool
  pub sleeps : Bool
