use Rattle.std.proofs.Common.{◌≡◌, ◌<◌, ◌^◌, drop}
use Rattle.craq_script.specs.Words.{number_behind}
use Rattle.craq_script.proofs.encoding.decimal_value.Given as goal

-- the number so far, continued with the remaining digits, is the whole number
abbrev pub invariant-loop-digit : goal.invariant-loop-digit
invariant-loop-digit l =
    record {
      small : l.number < 2 ^ 64;
      whole : number_behind l.number (drop l.digit-index l.digits) ≡ number_behind 0 l.digits;
    }
