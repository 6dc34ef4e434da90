use Rattle.std.proofs.Common.{subst}
use Rattle.craq_metrics.specs.declared.http.HttpRequest.{HttpRequest}
use Rattle.craq_metrics.specs.Http.{IsWhole}
use Rattle.craq_metrics.proofs.http.request_in.Goals as goal

pub returns-in-Ok-Complete-clause-bad : goal.returns-in-Ok-Complete-clause-bad
returns-in-Ok-Complete-clause-bad c = λ e. absurd (subst (λ (a : HttpRequest). IsWhole a) e c.meaning_of.ensures.whole)

pub returns-in-Ok-Complete-clause-nothing : goal.returns-in-Ok-Complete-clause-nothing
returns-in-Ok-Complete-clause-nothing c = λ e. absurd (subst (λ (a : HttpRequest). IsWhole a) e c.meaning_of.ensures.whole)

pub returns-in-Ok-Complete-clause-unfinished : goal.returns-in-Ok-Complete-clause-unfinished
returns-in-Ok-Complete-clause-unfinished c = λ e. absurd (subst (λ (a : HttpRequest). IsWhole a) e c.meaning_of.ensures.whole)
