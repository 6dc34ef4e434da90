-- The memberships of a chain: those that its master can reach.
use Rattle.std.specs.Prelude.{◌≡◌, ⊤, List, [], ◌∷◌}
use Rattle.craq_model.specs.declared.config.Config.{Config}
use Rattle.craq_epochs.specs.Mastered.{Mastered}
use Rattle.craq_seat.specs.declared.journal.BookEvent.{BookEvent}
use Rattle.craq_seat.specs.declared.journal.Record.{Record}
use Rattle.craq_seat.specs.Books.{book_step}
use Rattle.craq_seat.specs.Journal.{Replays}

-- some steps by the definitions lead from the first master to this one
abbrev pub CanBecome : Mastered → Mastered → Type 0
CanBecome first now = (steps : List (Record BookEvent)) × Replays book_step first steps now

-- the membership of a master after some such steps
pub record IsMembershipOf (first : Mastered) (config : Config) : Type 0 where
  pub now : Mastered
  pub becomes : CanBecome first now
  pub has : config ≡ record { epoch = now.epoch; members = now.members }

-- one membership of each of these masters, in their order
abbrev pub AreMembershipsOf : List Mastered → List Config → Type 0
AreMembershipsOf [] [] = ⊤
AreMembershipsOf (first ∷ firsts) (config ∷ configs) = IsMembershipOf first config × AreMembershipsOf firsts configs
AreMembershipsOf firsts configs = ⊥
