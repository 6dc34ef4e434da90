-- The outcome of a new command whose named objects all have a next version.
use Rattle.std.specs.Prelude.{◌≡◌, ⊤, false, List, [], ◌∷◌, map}
use Rattle.craq_commands.specs.declared.command.Command.{Command}
use Rattle.craq_commands.specs.declared.entry.Write.{Write}
use Rattle.craq_commands.specs.declared.reply.Reply.{Reply}
use Rattle.craq_commands.specs.declared.reply.Reply.TheVariants.{Written}
use Rattle.craq_commands.specs.Evaluation.{eval, objects_named, some_used_up}
use Rattle.craq_commands.specs.Objects.{Objects}
use Rattle.craq_model.specs.Asks.{versioned_write}
use Rattle.craq_write.specs.declared.making_entries.Checked.{Checked}
use Rattle.craq_write.specs.declared.making_entries.Checked.TheVariants.{Put, Other}

-- the command's writes with their versions, and its reply
abbrev pub outcome_of : Objects → Command → List Write × Reply
outcome_of m c = (map (versioned_write m) (eval m c).0, (eval m c).1)

-- the outcome of a checked command; a put has its write already
abbrev pub outcome_in : Objects → Checked → List Write × Reply
outcome_in m (Put w) = (w ∷ [], Written w.version)
outcome_in m (Other c) = outcome_of m c

-- each object that the command names has a next version
abbrev pub HaveNext : Objects → Checked → Type 0
HaveNext m (Put w) = ⊤
HaveNext m (Other c) = some_used_up m (objects_named c) ≡ false
