use Rattle.std.proofs.Common.{◌≡◌, ◌+◌, true, false, inr, sym, ap, subst, ◌∙◌}
use Rattle.std.specs.Prelude.{List, None, Option, Result, is_none}
use Rattle.craq_names.specs.declared.refusal.Refusal.{Refusal}
use Rattle.craq_commands.specs.declared.entry.Entry.{Entry}
use Rattle.craq_commands.specs.declared.entry.Write.{Write}
use Rattle.craq_commands.specs.declared.reply.Reply.{Reply}
use Rattle.craq_model.specs.Asks.{entry_of, new_update_transition, update_transition}
use Rattle.craq_model.specs.Settle.{Transition}
use Rattle.craq_history.specs.Effects.{IsComputed}
use Rattle.craq_write.specs.declared.making_entries.Checked.{Checked}
use Rattle.craq_write.specs.Forward.{entry_with}
use Rattle.craq_commands.specs.Evaluation.{eval, objects_named, some_used_up}
use Rattle.craq_model.specs.Plain.{length_of, newest}
use Rattle.craq_history.specs.Nodes.{plain_of}
use Rattle.craq_write.specs.Places.{has_place}
use Rattle.craq_write.proofs.Places.{update_entered, update_refused, update_taken, lacks_memory}
use Rattle.craq_write.proofs.updates.compute_new.Goals as goal

pub returns-then-not-has_place : goal.returns-then-not-has_place
unfolding newest
returns-then-not-has_place g c =
    let p = plain_of g.H.History.past c.args.node.now in
    let versions : some_used_up (newest p).objects (objects_named c.args.update.command) ≡ false = c.check.ensures.found ∙ ap (λ (o : Option Checked). is_none o) c.in-Some.is in
    let none : has_place p (length_of p + 1) (length_of p + 1) ≡ false = cc in
    inr (update_refused p c.args.update (λ e. c.if-length.false cc) versions none)

pub returns-in_err-entry : goal.returns-in_err-entry
unfolding newest
returns-in_err-entry g c =
    let p = plain_of g.H.History.past c.args.node.now in
    let versions : some_used_up (newest p).objects (objects_named c.args.update.command) ≡ false = c.check.ensures.found ∙ ap (λ (o : Option Checked). is_none o) c.in-Some.is in
    let some : has_place p (length_of p + 1) (length_of p + 1) ≡ true = cc in
    lacks_memory p c.from_residual.result _ c.from_residual.ensures (update_taken p c.args.update (λ e. c.if-length.false cc) versions some)

pub returns-in_err-computed : goal.returns-in_err-computed
unfolding newest
returns-in_err-computed g c =
    let p = plain_of g.H.History.past c.args.node.now in
    let versions : some_used_up (newest p).objects (objects_named c.args.update.command) ≡ false = c.check.ensures.found ∙ ap (λ (o : Option Checked). is_none o) c.in-Some.is in
    let some : has_place p (length_of p + 1) (length_of p + 1) ≡ true = cc in
    lacks_memory p c.from_residual-in_err-computed.result _ c.from_residual-in_err-computed.ensures (update_taken p c.args.update (λ e. c.if-length.false cc) versions some)

pub returns : goal.returns
unfolding newest
returns g c =
    let p = plain_of g.H.History.past c.args.node.now in
    let u = c.args.update in
    let versions : some_used_up (newest p).objects (objects_named u.command) ≡ false = c.check.ensures.found ∙ ap (λ (o : Option Checked). is_none o) c.in-Some.is in
    let is : c.in_ok-entry.entry ≡ entry_of p u (eval (newest p).objects u.command) = c.in_ok-entry.ensures ∙ ap (λ (o : List Write × Reply). entry_with p u.client u.number o) c.in-Some.ensures.same in
    let transition : new_update_transition p c.in_ok-entry.entry ≡ update_transition p u None = ap (λ (e : Entry). new_update_transition p e) is ∙ sym (update_entered p u (λ e. c.if-length.false cc) versions) in
    subst (λ (w : Result Transition Refusal). IsComputed p c.in_ok-computed.computed w) transition c.in_ok-computed.ensures
