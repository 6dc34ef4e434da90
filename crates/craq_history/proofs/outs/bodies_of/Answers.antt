use Rattle.std.proofs.Common.{◌++◌, List, sym, ap, ◌∙◌}
use Rattle.std.proofs.lemmas.List.{append-nil}
use Rattle.craq_commands.specs.declared.entry.Entry.{Entry}
use Rattle.craq_model.specs.declared.message.Body.{Body}
use Rattle.craq_model.specs.Sends.{entry_bodies}
use Rattle.craq_history.proofs.Running.{all}
use Rattle.craq_history.proofs.outs.bodies_of.Goals as goal

pub returns-in_ok-push-in-Some : goal.returns-in_ok-push-in-Some
returns-in_ok-push-in-Some c =
    let second = c.add_to_runs-2.new.bodies.items in
    all c.add_to_runs.new.bodies.items second c.push.new.self.items c.add_to_runs.new.run.items c.add_to_runs-2.new.run.items c.args.entries.now c.args.later.now
    (λ rest. c.in_ok-add_to_runs.ensures.made rest
    ∙ ap (λ (r : List Entry). c.new-bodies.result.items ++ entry_bodies (r ++ (c.args.entries.now ++ rest))) c.new-run.ensures.items
    ∙ ap (λ (bs : List Body). bs ++ entry_bodies (c.args.entries.now ++ rest)) c.new-bodies.ensures.items)
    c.in_ok-add_to_runs-2.ensures.made
    (c.in_ok-push-in-Some.ensures.items ∙ ap (λ (bs : List Body). second ++ bs) c.in-Some.ensures)

pub returns-in-None : goal.returns-in-None
returns-in-None c =
    let second = c.add_to_runs-2.new.bodies.items in
    all c.add_to_runs.new.bodies.items second second c.add_to_runs.new.run.items c.add_to_runs-2.new.run.items c.args.entries.now c.args.later.now
    (λ rest. c.in_ok-add_to_runs.ensures.made rest
    ∙ ap (λ (r : List Entry). c.new-bodies.result.items ++ entry_bodies (r ++ (c.args.entries.now ++ rest))) c.new-run.ensures.items
    ∙ ap (λ (bs : List Body). bs ++ entry_bodies (c.args.entries.now ++ rest)) c.new-bodies.ensures.items)
    c.in_ok-add_to_runs-2.ensures.made
    (sym (append-nil second) ∙ ap (λ (bs : List Body). second ++ bs) c.in-None.ensures)
