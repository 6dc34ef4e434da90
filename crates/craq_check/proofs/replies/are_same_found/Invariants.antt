use Rattle.std.proofs.Common.{◌≡◌, drop}
use Rattle.craq_check.specs.Tests.{all_pairs, same_found}
use Rattle.craq_check.proofs.replies.are_same_found.Given as goal

-- the items so far are equal
abbrev pub invariant-loop-version : goal.invariant-loop-version
invariant-loop-version l = all_pairs same_found (drop l.version-index l.found) l.rest ≡ all_pairs same_found l.found l.others
