use Rattle.std.proofs.Common.{◌≡◌, ◌∙◌, ap, sym, subst, Option, Bor}
use Rattle.std.specs.Option.{option_copied}
use Rattle.craq_model.specs.declared.step.Step.{Step}
use Rattle.craq_epochs.specs.Mastered.{Mastered}
use Rattle.craq_seat.specs.declared.journal.BookEvent.{BookEvent}
use Rattle.craq_seat.specs.Cells.{Celled}
use Rattle.craq_causality.specs.Causal.{IsOfStopped}
use Rattle.craq_store_history.specs.Entries.{lines_in}
use Rattle.craq_store_parts.specs.Witnessed.{IsWitnessedOrder}
use Rattle.craq_running_node.proofs.Beginning.{Ordered, book_may, book_own, book_recorded, book_witnessed, ordered}
use Rattle.craq_store_parts.proofs.Recording.{never, same_some}
use Rattle.craq_running_node.proofs.recorded_book.RecordedBook.take.Goals as goal
use Rattle.craq_running_node.proofs.recorded_book.RecordedBook.take.Goals.{in-ChainOpened-1, in-ClientCall-1, in-NodeStep-1, in-MasterStep-1, in-CallTakenBack-1}

pub unreachable-requires : goal.unreachable-requires
unreachable-requires g c =
    let t : Ordered c.self.inside.cell c.take.new.self c.args.event =
    subst (λ (e : BookEvent). Ordered c.self.inside.cell c.take.new.self e) c.copy_of.ensures (ordered c.self.inside.cell c.take.new.self c.copy_of.result c.start-pass.result c.in-Ok.receipt c.in-Ok.ensures.step) in
    let none = subst (λ (o : Option (Bor Step)). option_copied o ≡ c.take.new.self.last) c.in_default.is c.last.ensures.value in
    never c.take.new.self.last t.step (sym none) t.last

pub add_with-token-requires-clause-own : goal.add_with-token-requires-clause-own
add_with-token-requires-clause-own g c =
    let t : Ordered c.self.inside.cell c.take.new.self c.args.event =
    subst (λ (e : BookEvent). Ordered c.self.inside.cell c.take.new.self e) c.copy_of.ensures (ordered c.self.inside.cell c.take.new.self c.copy_of.result c.start-pass.result c.in-Ok.receipt c.in-Ok.ensures.step) in
    let stopped : IsOfStopped (lines_in c.self.inside.cell.opening.name.chain c.args.token) c.args.event =
    subst (λ (x : Celled Mastered BookEvent). IsOfStopped (lines_in x.opening.name.chain c.args.token) c.args.event) (sym c.self.view_is) c.requires in
    let says : c.of.result.value ≡ t.step = c.of.ensures ∙ same_some (c.in-Some.ensures.value ∙ t.last) in
    book_own c.self.inside.cell c.take.new.self c.self.inside.writer c.args.token c.args.event c.start-pass.result c.of.result c.opening.result.now.name.chain c.stamp.result c.self.invariant t (ap (λ x. x.name.chain) c.opening.ensures) c.stamp.ensures says stopped

pub add_with-token-requires-clause-may : goal.add_with-token-requires-clause-may
add_with-token-requires-clause-may g c =
    let t : Ordered c.self.inside.cell c.take.new.self c.args.event =
    subst (λ (e : BookEvent). Ordered c.self.inside.cell c.take.new.self e) c.copy_of.ensures (ordered c.self.inside.cell c.take.new.self c.copy_of.result c.start-pass.result c.in-Ok.receipt c.in-Ok.ensures.step) in
    let stopped : IsOfStopped (lines_in c.self.inside.cell.opening.name.chain c.args.token) c.args.event =
    subst (λ (x : Celled Mastered BookEvent). IsOfStopped (lines_in x.opening.name.chain c.args.token) c.args.event) (sym c.self.view_is) c.requires in
    let says : c.of.result.value ≡ t.step = c.of.ensures ∙ same_some (c.in-Some.ensures.value ∙ t.last) in
    rw c.without_permit-reported.ensures
    (book_may c.self.inside.cell c.take.new.self c.self.inside.writer c.args.token c.args.event c.start-pass.result c.of.result c.opening.result.now.name.chain c.stamp.result c.self.invariant t (ap (λ x. x.name.chain) c.opening.ensures) c.stamp.ensures says stopped)

pub invariant_of-self-in-Some-4 : goal.invariant_of-self-in-Some-4
invariant_of-self-in-Some-4 g c =
    let t : Ordered c.self.inside.cell c.take.new.self c.args.event =
    subst (λ (e : BookEvent). Ordered c.self.inside.cell c.take.new.self e) c.copy_of.ensures (ordered c.self.inside.cell c.take.new.self c.copy_of.result c.start-pass.result c.in-Ok.receipt c.in-Ok.ensures.step) in
    let stopped : IsOfStopped (lines_in c.self.inside.cell.opening.name.chain c.args.token) c.args.event =
    subst (λ (x : Celled Mastered BookEvent). IsOfStopped (lines_in x.opening.name.chain c.args.token) c.args.event) (sym c.self.view_is) c.requires in
    let says : c.of.result.value ≡ t.step = c.of.ensures ∙ same_some (c.in-Some.ensures.value ∙ t.last) in
    book_recorded c.self.inside.cell c.take.new.self c.self.inside.writer c.args.token c.args.event c.start-pass.result c.of.result c.opening.result.now.name.chain c.stamp.result c.self.invariant t (ap (λ x. x.name.chain) c.opening.ensures) c.stamp.ensures says stopped c.add_with-token.new.self c.add_with-token.ensures.author (rw c.without_permit-reported.ensures at c.add_with-token.ensures.added)

pub returns-in-Some-clause-opening : goal.returns-in-Some-clause-opening
returns-in-Some-clause-opening g c =
    let t : Ordered c.self.inside.cell c.take.new.self c.args.event =
    subst (λ (e : BookEvent). Ordered c.self.inside.cell c.take.new.self e) c.copy_of.ensures (ordered c.self.inside.cell c.take.new.self c.copy_of.result c.start-pass.result c.in-Ok.receipt c.in-Ok.ensures.step) in
    let same : c.take.new.self.opening ≡ c.args.self.now.opening = t.opening ∙ ap (λ x. x.opening) c.self.view_is in
    elim c.match-entry.branch [
      | in-ChainOpened-1 w ↦ rw w.self-is same
      | in-ClientCall-1 w ↦ rw w.self-is same
      | in-NodeStep-1 w ↦ rw w.self-is same
      | in-MasterStep-1 w ↦ rw w.self-is same
      | in-CallTakenBack-1 w ↦ rw w.self-is same
    ]

pub returns-in-Some-clause-ordered : goal.returns-in-Some-clause-ordered
returns-in-Some-clause-ordered g c =
    let t : Ordered c.self.inside.cell c.take.new.self c.args.event =
    subst (λ (e : BookEvent). Ordered c.self.inside.cell c.take.new.self e) c.copy_of.ensures (ordered c.self.inside.cell c.take.new.self c.copy_of.result c.start-pass.result c.in-Ok.receipt c.in-Ok.ensures.step) in
    let stopped : IsOfStopped (lines_in c.self.inside.cell.opening.name.chain c.args.token) c.args.event =
    subst (λ (x : Celled Mastered BookEvent). IsOfStopped (lines_in x.opening.name.chain c.args.token) c.args.event) (sym c.self.view_is) c.requires in
    let says : c.of.result.value ≡ t.step = c.of.ensures ∙ same_some (c.in-Some.ensures.value ∙ t.last) in
    let added = rw c.without_permit-reported.ensures at c.add_with-token.ensures.added in
    let witnessed = book_witnessed c.self.inside.cell c.take.new.self c.self.inside.writer c.args.token c.args.event c.start-pass.result c.of.result c.opening.result.now.name.chain c.stamp.result c.self.invariant t (ap (λ x. x.name.chain) c.opening.ensures) c.stamp.ensures says stopped
    c.add_with-token.new.self.seen c.add_with-token.result c.in-Ok.receipt c.in-Ok.ensures.step.1 c.add_with-token.ensures.holds added c.add_with-token.ensures.token in
    subst (λ (x : Celled Mastered BookEvent). IsWitnessedOrder c.args.token x.opening.name.chain c.args.event c.in-Ok.receipt c.add_with-token.result) c.self.view_is witnessed
