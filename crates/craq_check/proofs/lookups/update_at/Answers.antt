use Rattle.std.proofs.Common.{◌≡◌, ℕ, None, ◌∙◌, sym, subst}
use Rattle.craq_runs.specs.Seen.{asks_from, update_at}
use Rattle.craq_check.proofs.Moves.{update_nowhere, update_here, update_beyond}
use Rattle.craq_check.proofs.lookups.update_at.Goals as goal

pub returns-then-number-eq0 : goal.returns-then-number-eq0
returns-then-number-eq0 c =
    let P : ℕ → Type 0 = λ n. None ≡ update_at (asks_from 1 c.args.moves.now) n in
    subst P (sym c.if-number-eq0.true) (sym (update_nowhere c.args.moves.now))

pub returns-in-Some : goal.returns-in-Some
returns-in-Some c =
    c.update_in.ensures
    ∙ update_here c.args.moves.now c.args.number c.in-Some.taken.now c.if-number-eq0.false c.in-Some.ensures.lookup.3.0 c.in-Some.ensures.lookup.1

pub returns-in-None : goal.returns-in-None
returns-in-None c = update_beyond c.args.moves.now c.args.number c.if-number-eq0.false c.in-None.ensures.lookup.3
