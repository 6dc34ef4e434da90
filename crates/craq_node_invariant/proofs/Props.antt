-- The invariant has at most one proof, as the type invariant of a node requires.
use Rattle.std.proofs.Common.{ℕ, ◌+◌, List, [], ◌∷◌, Option, Some, None}
use Rattle.std.proofs.Props.{props}
use Rattle.craq_commands.specs.declared.entry.Entry.{Entry}
use Rattle.craq_commands.specs.declared.reply.Reply.{Reply}
use Rattle.craq_commands.specs.declared.reply.Reply.TheVariants.{Written, Mismatch, TooLong, NotANumber, Overflow, Underflow, Done, CompareFailed, Stale}
use Rattle.craq_model.specs.declared.gathering.Gathering.{Gathering}
use Rattle.craq_model.specs.Plain.{Plain}
use Rattle.craq_model.specs.Encodable.{IsReply, IsNotStale}
use Rattle.craq_node_invariant.specs.Sound.{AreInRow, IsSound, IsSoundIfAny}

IsReply-prop : (r : Reply) → IsProp (IsReply r)
IsReply-prop (Written version) = hlevel props
IsReply-prop (Mismatch version) = hlevel props
IsReply-prop TooLong = hlevel props
IsReply-prop NotANumber = hlevel props
IsReply-prop Overflow = hlevel props
IsReply-prop Underflow = hlevel props
IsReply-prop (Done objects) = hlevel props
IsReply-prop (CompareFailed place) = hlevel props
IsReply-prop (Stale last) = hlevel props

IsNotStale-prop : (r : Reply) → IsProp (IsNotStale r)
IsNotStale-prop (Written version) = hlevel props
IsNotStale-prop (Mismatch version) = hlevel props
IsNotStale-prop TooLong = hlevel props
IsNotStale-prop NotANumber = hlevel props
IsNotStale-prop Overflow = hlevel props
IsNotStale-prop Underflow = hlevel props
IsNotStale-prop (Done objects) = hlevel props
IsNotStale-prop (CompareFailed place) = hlevel props
IsNotStale-prop (Stale last) = hlevel props

AreInRow-prop : (n : ℕ) (es : List Entry) → IsProp (AreInRow n es)
AreInRow-prop n [] = hlevel props
AreInRow-prop n (e ∷ es) = hlevel (props, AreInRow-prop (n + 1) es)

IsSoundIfAny-prop : (o : Option Gathering) → IsProp (IsSoundIfAny o)
IsSoundIfAny-prop None = hlevel props
IsSoundIfAny-prop (Some g) = hlevel (props, IsReply-prop, IsNotStale-prop)

pub IsSound-prop : (p : Plain) → IsProp (IsSound p)
IsSound-prop p = hlevel (props, IsReply-prop, IsNotStale-prop, AreInRow-prop, IsSoundIfAny-prop)
