-- The changes of a step to a node, part by part.
use Rattle.std.specs.Prelude.{⊤, ℕ, ◌+◌, Bool, true, false, ◌||◌, if◌then◌else◌, List, [], ◌∷◌, ◌++◌, Option, None, Some}
use Rattle.craq_model.specs.declared.config.Config.{Config}
use Rattle.craq_model.specs.declared.waiting.WaitingUpdate.{WaitingUpdate}
use Rattle.craq_model.specs.declared.waiting.WaitingRead.{WaitingRead}
use Rattle.craq_model.specs.Plain.{Plain}
use Rattle.craq_model.specs.Deliveries.{later_updates, reads_without}
use Rattle.craq_history.specs.declared.change.Change.{Change}
use Rattle.craq_history.specs.declared.change.HistoryChange.{HistoryChange}
use Rattle.craq_history.specs.declared.change.HistoryChange.TheVariants as histories
use Rattle.craq_history.specs.declared.change.WaitingChange.{WaitingChange}
use Rattle.craq_history.specs.declared.change.WaitingChange.TheVariants as waits
use Rattle.craq_model.specs.declared.gathering.Gathering.{Gathering}
use Rattle.craq_model.specs.Past.{Past, with_entries_in, acknowledged_in, installed_in}
use Rattle.craq_model.specs.Parts.{gathering_for, with_part}
use Rattle.craq_history.specs.declared.change.GatheringChange.{GatheringChange}
use Rattle.craq_history.specs.declared.change.GatheringChange.TheVariants as gatherings

-- the past after a change of the history
abbrev pub past_by : HistoryChange → Past → Past
past_by histories.Stays h = h
past_by (histories.Grows entries) h = with_entries_in h entries
past_by (histories.IsCopied position state) h = installed_in position state

-- the gathering after its change
abbrev pub gathering_by : GatheringChange → Option Gathering → Option Gathering
gathering_by gatherings.Stays g = g
gathering_by (gatherings.Gains part) g = Some (with_part (gathering_for part g) part)
gathering_by gatherings.Dropped g = None

-- the change gains a part
abbrev pub IsGain : GatheringChange → Type 0
IsGain gatherings.Stays = ⊥
IsGain (gatherings.Gains part) = ⊤
IsGain gatherings.Dropped = ⊥

-- the past with its new commit index, if there is one
abbrev pub commits_by : Option ℕ → Past → Past
commits_by None h = h
commits_by (Some position) h = acknowledged_in h position

abbrev pub epoch_by : Option Config → ℕ → ℕ
epoch_by None epoch = epoch
epoch_by (Some config) epoch = config.epoch

abbrev pub members_by : Option Config → List ℕ → List ℕ
members_by None members = members
members_by (Some config) members = config.members

-- a new membership drops the floor; otherwise a received floor is kept
abbrev pub floor_by : Option Config → Option ℕ → Option ℕ → Option ℕ
floor_by (Some config) reported floor = None
floor_by None (Some count) floor = Some count
floor_by None None floor = floor

abbrev pub ticket_by : Bool → ℕ → ℕ
ticket_by accepted ticket = if accepted then ticket + 1 else ticket

abbrev pub updates_by : WaitingChange → List WaitingUpdate → List WaitingUpdate
updates_by waits.Same us = us
updates_by (waits.OneUpdate u) us = us ++ u ∷ []
updates_by (waits.OneRead r) us = us
updates_by (waits.UpdatesAnswered position) us = later_updates position us
updates_by (waits.ReadAnswered ticket) us = us
updates_by waits.AllAnswered us = []

abbrev pub reads_by : WaitingChange → List WaitingRead → List WaitingRead
reads_by waits.Same rs = rs
reads_by (waits.OneUpdate u) rs = rs
reads_by (waits.OneRead r) rs = rs ++ r ∷ []
reads_by (waits.UpdatesAnswered position) rs = rs
reads_by (waits.ReadAnswered ticket) rs = reads_without ticket rs
reads_by waits.AllAnswered rs = []

-- the node after a change
abbrev pub changed : Plain → Change → Plain
changed p c =
    record {
      name = p.name;
      epoch = epoch_by c.membership p.epoch;
      members = members_by c.membership p.members;
      ready = p.ready || c.becomes_ready;
      past = commits_by c.acknowledged (past_by c.history p.past);
      floor = floor_by c.membership c.floor p.floor;
      gathering = gathering_by c.gathering p.gathering;
      last_ticket = ticket_by c.accepted p.last_ticket;
      waiting_updates = updates_by c.waiting p.waiting_updates;
      waiting_reads = reads_by c.waiting p.waiting_reads;
      running = p.running;
    }

-- the change of nothing, and that of an accepted request
abbrev pub no_change : Change
no_change =
    record { accepted = false; membership = None; history = histories.Stays; gathering = gatherings.Stays; acknowledged = None; floor = None; becomes_ready = false; waiting = waits.Same }

abbrev pub accepted_change : WaitingChange → Change
accepted_change waiting = record no_change { accepted = true; waiting = waiting }
