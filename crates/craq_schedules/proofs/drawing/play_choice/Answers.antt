use Rattle.std.proofs.Common.{arith, ap, refl, option_map, ◌∙◌}
use Rattle.craq_chain.specs.Chained.{chain_of_run}
use Rattle.craq_schedules.proofs.Choices.{IsCounted, none_left, line_picked, event_picked, beside}
use Rattle.craq_schedules.proofs.drawing.play_choice.Goals as goal

pub returns-in_default : goal.returns-in_default
returns-in_default g c =
    let w = chain_of_run c.args.chain.now in
    let counts : IsCounted w c.args.choice c.from.result c.sent-sent.result c.saturating_add-events.result c.as_slice-running.result.now =
    record { is_wide = c.from.ensures; is_small = omega arith; is_sent = c.sent-sent.ensures; are_running = c.as_slice-running.ensures.value ∙ c.in_ok-running.ensures w.nodes c.cores.ensures; is_counted = c.saturating_add-events.ensures } in
    let at = none_left w c.args.lines.now c.args.choice c.from.result c.sent-sent.result c.saturating_add-events.result c.as_slice-running.result.now c.event_at.result counts c.in-None.ensures.cases c.event_at.ensures ∙ ap (λ e. option_map (beside c.args.lines.now) e) c.in_default.is in
    rw at (refl, refl, refl)

pub returns-in-None : goal.returns-in-None
returns-in-None g c =
    let w = chain_of_run c.args.chain.now in
    let counts : IsCounted w c.args.choice c.from.result c.sent-sent.result c.saturating_add-events.result c.as_slice-running.result.now =
    record { is_wide = c.from.ensures; is_small = omega arith; is_sent = c.sent-sent.ensures; are_running = c.as_slice-running.ensures.value ∙ c.in_ok-running.ensures w.nodes c.cores.ensures; is_counted = c.saturating_add-events.ensures } in
    let at = none_left w c.args.lines.now c.args.choice c.from.result c.sent-sent.result c.saturating_add-events.result c.as_slice-running.result.now c.event_at.result counts c.in-None.ensures.cases c.event_at.ensures ∙ ap (λ e. option_map (beside c.args.lines.now) e) c.in-Some-event_at.is in
    rw at (refl, c.in_ok-play_event-in-None.ensures.chain, c.in_ok-play_event-in-None.ensures.text)

pub returns-then-place-eq0 : goal.returns-then-place-eq0
returns-then-place-eq0 g c =
    let w = chain_of_run c.args.chain.now in
    let counts : IsCounted w c.args.choice c.from-in-Some.result c.sent-sent.result c.saturating_add-events.result c.as_slice-running.result.now =
    record { is_wide = c.from-in-Some.ensures; is_small = omega arith; is_sent = c.sent-sent.ensures; are_running = c.as_slice-running.ensures.value ∙ c.in_ok-running.ensures w.nodes c.cores.ensures; is_counted = c.saturating_add-events.ensures } in
    let at = line_picked w c.args.lines.now c.in-Some.rest.now c.in-Some.line.now c.args.choice c.from-in-Some.result c.sent-sent.result c.saturating_add-events.result c.saturating_add.result c.as_slice-running.result.now counts c.in-Some.ensures.cases.0 c.saturating_add.ensures c.if-place-eq0.true in
    rw at (refl, c.in_ok-play_line-in-Some.ensures.chain, c.in_ok-play_line-in-Some.ensures.text)

pub returns-in_default-event_at : goal.returns-in_default-event_at
returns-in_default-event_at g c =
    let w = chain_of_run c.args.chain.now in
    let counts : IsCounted w c.args.choice c.from-in-Some.result c.sent-sent.result c.saturating_add-events.result c.as_slice-running.result.now =
    record { is_wide = c.from-in-Some.ensures; is_small = omega arith; is_sent = c.sent-sent.ensures; are_running = c.as_slice-running.ensures.value ∙ c.in_ok-running.ensures w.nodes c.cores.ensures; is_counted = c.saturating_add-events.ensures } in
    let at = event_picked w c.args.lines.now c.in-Some.rest.now c.in-Some.line.now c.args.choice c.from-in-Some.result c.sent-sent.result c.saturating_add-events.result c.saturating_add.result c.as_slice-running.result.now c.event_at-in-Some.result counts c.in-Some.ensures.cases.0 c.saturating_add.ensures (omega arith) c.event_at-in-Some.ensures ∙ ap (λ e. option_map (beside c.args.lines.now) e) c.in_default-event_at.is in
    rw at (refl, refl, refl)

pub returns : goal.returns
returns g c =
    let w = chain_of_run c.args.chain.now in
    let counts : IsCounted w c.args.choice c.from-in-Some.result c.sent-sent.result c.saturating_add-events.result c.as_slice-running.result.now =
    record { is_wide = c.from-in-Some.ensures; is_small = omega arith; is_sent = c.sent-sent.ensures; are_running = c.as_slice-running.ensures.value ∙ c.in_ok-running.ensures w.nodes c.cores.ensures; is_counted = c.saturating_add-events.ensures } in
    let at = event_picked w c.args.lines.now c.in-Some.rest.now c.in-Some.line.now c.args.choice c.from-in-Some.result c.sent-sent.result c.saturating_add-events.result c.saturating_add.result c.as_slice-running.result.now c.event_at-in-Some.result counts c.in-Some.ensures.cases.0 c.saturating_add.ensures (omega arith) c.event_at-in-Some.ensures ∙ ap (λ e. option_map (beside c.args.lines.now) e) c.in-Some-event_at-2.is in
    rw at (refl, c.in_ok-play_event-in-Some.ensures.chain, c.in_ok-play_event-in-Some.ensures.text)
