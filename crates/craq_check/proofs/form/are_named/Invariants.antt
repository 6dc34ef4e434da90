use Rattle.std.proofs.Common.{◌≡◌, drop}
use Rattle.craq_check.specs.Tests.{all_pairs, is_named}
use Rattle.craq_check.proofs.form.are_named.Given as goal

-- each place so far has its reply's node and ticket
abbrev pub invariant-loop-answer : goal.invariant-loop-answer
invariant-loop-answer l = all_pairs is_named (drop l.answer-index l.answers) l.rest ≡ all_pairs is_named l.answers l.places
