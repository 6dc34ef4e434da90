use Rattle.craq_updates.proofs.Explained.{form_asks, form_lens}
use Rattle.craq_updates.proofs.explanations_have_form.Goals as goal

pub returns : goal.returns
returns c = record { asks = form_asks; lens = form_lens }
