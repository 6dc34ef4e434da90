use Rattle.std.proofs.Common.{◌≡◌, [], ◌∷◌, ◌++◌, ◌∙◌, length, refl, arith}
use Rattle.craq_event_loop.proofs.Belonging.{all_left, one_less, one_shorter, last_left, none_left, none_long}
use Rattle.craq_event_loop.proofs.event_loop.LoopConnections.deliver_all.Goals as goal

pub loop-completion-init : goal.loop-completion-init
loop-completion-init g c = (all_left (g.H.AsyncBackend.finishes c.args.backend.now) c.args.self.now.completions.items c.args.self.now.connections, omega arith, λ k. k, refl)

pub loop-completion-preserved : goal.loop-completion-preserved
loop-completion-preserved g c =
    let last : c.loop-completion.self.completions.items ≡ c.deliver.new.self.completions.items ++ c.in-Some.completion ∷ [] =
    last_left c.loop-completion.self.completions.items c.pop.new.self.items c.deliver.new.self.completions.items c.in-Some.completion c.in-Some.ensures.items c.deliver.ensures.completions in (
      one_less (g.H.AsyncBackend.finishes c.args.backend.now) c.args.self.now.completions.items c.loop-completion.self.completions.items c.deliver.new.self.completions.items c.in-Some.completion
          c.args.self.now.connections c.loop-completion.self.connections c.deliver.new.self.connections
          c.loop-completion.invariant.0 last (c.deliver.ensures.reported, c.deliver.ensures.vacant, c.deliver.ensures.others),
      one_shorter c.loop-completion.self.completions.items c.deliver.new.self.completions.items c.in-Some.completion c.loop-completion._completion
          (length c.args.self.now.completions.items) last c.loop-completion.invariant.1,
      λ k. c.deliver.ensures.kept (record { listed = (c.loop-completion.invariant.2 k).listed; behind = (c.loop-completion.invariant.2 k).behind }),
      c.deliver.ensures.behind ∙ c.loop-completion.invariant.3,
    )

pub returns-after-loop-completion-clause-delivered : goal.returns-after-loop-completion-clause-delivered
returns-after-loop-completion-clause-delivered g c =
    none_left (g.H.AsyncBackend.finishes c.args.backend.now) c.args.self.now.completions.items c.loop-completion.self.completions.items c.args.self.now.connections c.loop-completion.self.connections
    c.loop-completion.invariant.0
    (none_long c.loop-completion.self.completions.items c.loop-completion._completion (length c.args.self.now.completions.items)
    c.loop-completion.invariant.1 (omega (arith, c.len-completion-end.ensures, c.loop-completion-test.false)))

pub returns-in_default-clause-delivered : goal.returns-in_default-clause-delivered
returns-in_default-clause-delivered g c =
    none_left (g.H.AsyncBackend.finishes c.args.backend.now) c.args.self.now.completions.items c.loop-completion.self.completions.items c.args.self.now.connections c.loop-completion.self.connections
    c.loop-completion.invariant.0
    (none_long c.loop-completion.self.completions.items 0 0 (omega (arith, c.in_default.ensures.cases.0)) (omega arith))

pub returns-after-loop-completion-clause-kept : goal.returns-after-loop-completion-clause-kept
returns-after-loop-completion-clause-kept g c k = record { listed = (c.loop-completion.invariant.2 k).listed; behind = (c.loop-completion.invariant.2 k).behind }

pub returns-in_default-clause-kept : goal.returns-in_default-clause-kept
returns-in_default-clause-kept g c k = record { listed = (c.loop-completion.invariant.2 k).listed; behind = (c.loop-completion.invariant.2 k).behind }

pub returns-after-loop-completion-clause-behind : goal.returns-after-loop-completion-clause-behind
returns-after-loop-completion-clause-behind g c = c.loop-completion.invariant.3

pub returns-in_default-clause-behind : goal.returns-in_default-clause-behind
returns-in_default-clause-behind g c = c.loop-completion.invariant.3
