-- A change that gains a part leaves the history unchanged.
use Rattle.std.proofs.Common.{◌≡◌, ap}
use Rattle.craq_model.specs.Past.{Past}
use Rattle.craq_history.specs.declared.change.GatheringChange.{GatheringChange}
use Rattle.craq_history.specs.declared.change.GatheringChange.TheVariants as gatherings
use Rattle.craq_history.specs.declared.change.HistoryChange.{HistoryChange}
use Rattle.craq_history.specs.Change.{IsGain, past_by}
use Rattle.craq_history.specs.Effects.{IsApart}

pub past_stays : (g : GatheringChange) (h : HistoryChange) (past : Past) → IsApart g h → IsGain g → past_by h past ≡ past
past_stays gatherings.Stays h past a i = absurd i
past_stays (gatherings.Gains part) h past a i = ap (λ (c : HistoryChange). past_by c past) a
past_stays gatherings.Dropped h past a i = absurd i
