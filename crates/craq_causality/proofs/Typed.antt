-- Lines of requests that are within the limits of their types are moves of such requests.
use Rattle.std.proofs.Common.{ℕ, List, [], ◌∷◌, map}
use Rattle.craq_model.specs.declared.ask.Event.TheVariants as events
use Rattle.craq_runs.specs.Typed.{AreOfType, IsMoveOfType}
use Rattle.craq_seat.specs.declared.journal.BookEvent.TheVariants as books
use Rattle.craq_seat.specs.Merge.{AtNode, AtMaster, Happening, MergedStep, move_among}
use Rattle.craq_causality.specs.Causal.{AreTyped, IsOfType}
use Rattle.craq_causality.proofs.Walk.{taken_among}

move_typed : (lines : List MergedStep) (id : ℕ) (h : Happening) → IsOfType h → IsMoveOfType (move_among lines id h)
move_typed lines id (AtNode (events.Ask ask)) t = t
move_typed lines id (AtNode (events.Deliver m)) t = tt
move_typed lines id (AtNode events.Tick) t = tt
move_typed lines id (AtNode events.Stop) t = tt
move_typed lines id (AtMaster (books.Join other)) t = tt
move_typed lines id (AtMaster (books.Remove stopped stop)) t = tt
move_typed lines id (AtMaster books.Tick) t = tt

pub all_typed : (lines rest : List MergedStep) → AreTyped rest → AreOfType (map (taken_among lines) rest)
all_typed lines [] t = tt
all_typed lines (l ∷ rest) t = (move_typed lines l.node l.event t.0, all_typed lines rest t.1)
