-- The switch of a node.
use Rattle.std.specs.Prelude.{Bool}
use Rattle.craq_names.specs.declared.name.NodeName.{NodeName}

pub record Switched : Type 0 where
  pub name : NodeName
  pub running : Bool
