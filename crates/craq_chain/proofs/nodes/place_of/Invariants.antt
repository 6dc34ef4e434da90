use Rattle.std.proofs.Common.{◌≡◌, List, drop}
use Rattle.std.specs.List.{AllZip}
use Rattle.craq_model.specs.Plain.{Plain}
use Rattle.craq_chain.specs.Parts.{place_from}
use Rattle.craq_chain.proofs.nodes.place_of.Given as goal

abbrev pub invariant-loop-place : goal.invariant-loop-place
invariant-loop-place g l = (ps : List Plain) → AllZip g.C.Core.represents l.cores ps → place_from 0 ps l.id ≡ place_from l.place (drop l.place ps) l.id
