-- A master's step, and the invariants of its cell.
use Rattle.std.specs.Prelude.{◌≡◌, ℕ, List, [], Option, Some, None, IfSome, Result, Ok, Err}
use Rattle.craq_names.specs.Order.{Refuses}
use Rattle.craq_names.specs.declared.refusal.Refusal.{Refusal}
use Rattle.craq_model.specs.declared.config.Config.{Config}
use Rattle.craq_model.specs.declared.step.Step.{Step}
use Rattle.craq_model.specs.Members.{IsMembership}
use Rattle.craq_epochs.specs.Mastered.{Mastered, master_after_join, removed}
use Rattle.craq_epochs.specs.Mastered as masters
use Rattle.craq_chain.specs.Parts.{membership_step}
use Rattle.craq_seat.specs.declared.journal.BookEvent.{BookEvent}
use Rattle.craq_seat.specs.declared.journal.BookEvent.TheVariants.{Join, Remove, Tick}
use Rattle.craq_seat.specs.declared.journal.Opening.{Opening}
use Rattle.craq_seat.specs.Cells.{Celled, receipt_of}
use Rattle.craq_seat.specs.Journal.{IsStamped, Stands}
use Rattle.craq_seat.specs.Numbered.{CanBeSent}
use Rattle.craq_seat.specs.Stamps.{book_stamp}

-- the master sends the membership to each member, or the refusal stays
abbrev pub tells : Result Mastered Refusal → Result (Mastered × Step) Refusal
tells (Ok m) = Ok (m, membership_step m.chain m.epoch m.members)
tells (Err e) = Err e

-- one step of a master: sends the next membership, or the present one again, to each member
abbrev pub book_step : Mastered → BookEvent → Result (Mastered × Step) Refusal
book_step m (Join id) = tells (master_after_join m id)
book_step m (Remove stopped stop) = tells (removed m stopped)
book_step m Tick = tells (Ok m)

-- the master took the wanted step; or it is unchanged and was refused as wanted, or out of memory
-- where a step is wanted
abbrev pub Transitions : Mastered → Mastered → Result Step Refusal → Result (Mastered × Step) Refusal → Type 0
Transitions old new (Ok step) wanted = wanted ≡ Ok (new, step)
Transitions old new (Err e) wanted = Refuses e wanted × (new ≡ old)

-- a master's cell is opened as node 0, with the first membership, before any stamp
abbrev pub book_opening : ℕ → List ℕ → Opening
book_opening chain members =
    record {
      name = record { chain = chain; node = 0 };
      config = Some (record { epoch = 1; members = members });
      stamp = 0;
    }

-- the members of a membership, if there is one
abbrev pub members_of : Option Config → List ℕ
members_of None = []
members_of (Some config) = config.members

-- the master before its first step
abbrev pub first_master : Opening → Mastered
first_master o = masters.opened_master o.name.chain (members_of o.config)

-- the invariants of a master's cell
pub record IsBook (c : Celled Mastered BookEvent) : Type 0 where
  pub opening : c.opening ≡ book_opening c.inside.chain (members_of c.opening.config)
  pub first : IsMembership (members_of c.opening.config)
  pub stands : Stands (λ (m n : Mastered). m ≡ n) book_step (first_master c.opening) c.inside c.journal
  pub stamps : IsStamped book_stamp 0 c.journal c.stamp
  pub sends : IfSome c.last (λ step. CanBeSent (receipt_of c) step.outs)  -- the last step's messages can be numbered and encoded
