-- Refusals: their numbers and details.
use Rattle.std.specs.Prelude.{ℕ}
use Rattle.craq_names.specs.declared.refusal.Refusal.{Refusal}
use Rattle.craq_names.specs.declared.refusal.Refusal.TheVariants.{BadKey, ValueTooLong, TooManyItems, EmptyTransaction, DuplicateKey, BadNumber, UnknownChain, TwoChains, NotHead, NotReady, Stopped, PendingFull, Exhausted, Memory, BadFrame, FrameTooLong, NotMember, NotStopped, UsedId, ChainFull, LastNode, UnknownMessage, WrongNode, JournalOff, BadScript, BadConfig, Closed, Io}

-- the number of a refusal
abbrev pub refusal_number : Refusal → ℕ
refusal_number BadKey = 1
refusal_number ValueTooLong = 2
refusal_number TooManyItems = 3
refusal_number EmptyTransaction = 4
refusal_number DuplicateKey = 5
refusal_number BadNumber = 6
refusal_number UnknownChain = 7
refusal_number TwoChains = 8
refusal_number (NotHead head) = 9
refusal_number NotReady = 10
refusal_number Stopped = 11
refusal_number PendingFull = 12
refusal_number Exhausted = 13
refusal_number Memory = 14
refusal_number BadFrame = 15
refusal_number FrameTooLong = 16
refusal_number NotMember = 17
refusal_number NotStopped = 18
refusal_number UsedId = 19
refusal_number ChainFull = 20
refusal_number LastNode = 21
refusal_number UnknownMessage = 22
refusal_number WrongNode = 23
refusal_number JournalOff = 24
refusal_number (BadScript line) = 25
refusal_number BadConfig = 26
refusal_number Closed = 27
refusal_number Io = 28

-- the head that the update should have gone to, or the line of the script; else 0
abbrev pub detail_of : Refusal → ℕ
detail_of (NotHead head) = head
detail_of (BadScript line) = line
detail_of _ = 0
