-- Number and detail together determine a refusal.
use Rattle.std.proofs.Common.{◌≡◌, ℕ, refl, sym, ◌∙◌}
use Rattle.std.specs.Prelude.{◌==◌, if◌then◌else◌}
use Rattle.craq_names.specs.Refused.{refusal_number, detail_of}
use Rattle.craq_names.specs.declared.refusal.Refusal.{Refusal}
use Rattle.craq_names.specs.declared.refusal.Refusal.TheVariants.{BadKey, ValueTooLong, TooManyItems, EmptyTransaction, DuplicateKey, BadNumber, UnknownChain, TwoChains, NotHead, NotReady, Stopped, PendingFull, Exhausted, Memory, BadFrame, FrameTooLong, NotMember, NotStopped, UsedId, ChainFull, LastNode, UnknownMessage, WrongNode, JournalOff, BadScript, BadConfig, Closed, Io}

-- the refusal with this number and detail
abbrev refusal_of : ℕ → ℕ → Refusal
refusal_of n d =
    if n == 1 then BadKey
    else if n == 2 then ValueTooLong
    else if n == 3 then TooManyItems
    else if n == 4 then EmptyTransaction
    else if n == 5 then DuplicateKey
    else if n == 6 then BadNumber
    else if n == 7 then UnknownChain
    else if n == 8 then TwoChains
    else if n == 9 then NotHead d
    else if n == 10 then NotReady
    else if n == 11 then Stopped
    else if n == 12 then PendingFull
    else if n == 13 then Exhausted
    else if n == 14 then Memory
    else if n == 15 then BadFrame
    else if n == 16 then FrameTooLong
    else if n == 17 then NotMember
    else if n == 18 then NotStopped
    else if n == 19 then UsedId
    else if n == 20 then ChainFull
    else if n == 21 then LastNode
    else if n == 22 then UnknownMessage
    else if n == 23 then WrongNode
    else if n == 24 then JournalOff
    else if n == 25 then BadScript d
    else if n == 26 then BadConfig
    else if n == 27 then Closed
    else Io

again : (r : Refusal) → refusal_of (refusal_number r) (detail_of r) ≡ r
again BadKey = refl
again ValueTooLong = refl
again TooManyItems = refl
again EmptyTransaction = refl
again DuplicateKey = refl
again BadNumber = refl
again UnknownChain = refl
again TwoChains = refl
again (NotHead d) = refl
again NotReady = refl
again Stopped = refl
again PendingFull = refl
again Exhausted = refl
again Memory = refl
again BadFrame = refl
again FrameTooLong = refl
again NotMember = refl
again NotStopped = refl
again UsedId = refl
again ChainFull = refl
again LastNode = refl
again UnknownMessage = refl
again WrongNode = refl
again JournalOff = refl
again (BadScript d) = refl
again BadConfig = refl
again Closed = refl
again Io = refl

pub known : (r s : Refusal) → refusal_number r ≡ refusal_number s → detail_of r ≡ detail_of s → r ≡ s
known r s n d = sym (again r) ∙ (λ i. refusal_of (n i) (d i)) ∙ again s
