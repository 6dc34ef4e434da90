use Rattle.std.proofs.Common.{◌∙◌, ap}
use Rattle.std.specs.Prelude.{Option, List, ℕ, unwrap_or}
use Rattle.craq_names.specs.Maps.{at_number, put_number}
use Rattle.craq_commands.specs.Kept.{Window, keep}
use Rattle.craq_check.proofs.Maps.{put_again}
use Rattle.craq_check.proofs.single.put_kept.Goals as goal

-- the window is taken out, kept in, and put back
pub returns : goal.returns
returns c =
    let number : ℕ = c.args.number in
    let window : Window = c.keep.new.self in
    c.in_ok-swap_kept.ensures.kept
    ∙ ap (λ (kept : List (ℕ × Window)). put_number kept c.args.client window) c.in_ok-held.ensures.kept
    ∙ put_again c.args.client window c.new.result c.args.kept.now.entries
    ∙ ap (put_number c.args.kept.now.entries c.args.client)
    (c.in_ok-keep.ensures.ok
    ∙ ap (λ (w : Window). keep w number c.args.reply)
    (c.unwrap_or-window.ensures
    ∙ ap (λ (held : Option Window). unwrap_or held c.new-2.result) c.in_ok-held.ensures.held
    ∙ ap (unwrap_or (at_number c.args.kept.now.entries c.args.client)) c.new-2.ensures))
