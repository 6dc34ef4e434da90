use Rattle.std.proofs.Common.{ap, ◌∙◌, refl, ◌∷◌, []}
use Rattle.craq_place.specs.Chains.{chains_of}
use Rattle.craq_place.proofs.Places.{appended, chains_after}
use Rattle.craq_place.proofs.plan.put_chain.Goals as goal

pub returns : goal.returns
returns c =
    ap chains_of (c.in_ok-insert.ensures.entries ∙ appended _ (λ k l. refl) c.args.chains.now.entries c.args.name c.args.nodes c.requires)
    ∙ chains_after c.args.chains.now.entries ((c.args.name, c.args.nodes) ∷ [])
