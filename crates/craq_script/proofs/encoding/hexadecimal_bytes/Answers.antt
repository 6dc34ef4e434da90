use Rattle.std.proofs.Common.{rules, ◌≡◌, ◌<◌, ℕ, ◌+◌, ◌*◌, length, drop, get_or, List, [], ◌∷◌, ◌++◌, arith, refl, sym, ◌∙◌, ap, Option, Some, None, option_map, append_assoc}
use Rattle.craq_script.specs.Reading.{◌>>=◌}
use Rattle.craq_script.specs.Words.{hexadecimal_bytes, hexadecimal}
use Rattle.craq_script.proofs.encoding.hexadecimal_bytes.Goals as goal

-- a byte in front of the rest stands after the bytes so far
behind : (bytes : List ℕ) (byte : ℕ) (left : Option (List ℕ)) → option_map (λ more. bytes ++ more) (left >>= λ more. Some (byte ∷ more)) ≡ option_map (λ more. (bytes ++ byte ∷ []) ++ more) left
behind bytes byte None = refl
behind bytes byte (Some more) = ap Some (sym (append_assoc bytes (byte ∷ []) more))

-- the next two digits
step : (bytes rest : List ℕ) (h l : ℕ) → 1 < length rest → hexadecimal (get_or rest 0 0) ≡ Some h → hexadecimal (get_or rest 1 0) ≡ Some l
    → option_map (λ more. bytes ++ more) (hexadecimal_bytes rest) ≡ option_map (λ more. (bytes ++ (16 * h + l) ∷ []) ++ more) (hexadecimal_bytes (drop 2 rest))
step bytes [] h l two high low = absurd (omega arith)
step bytes (a ∷ []) h l two high low = absurd (omega arith)
step bytes (a ∷ b ∷ rest) h l two high low = rw (high, low) (behind bytes (16 * h + l) (hexadecimal_bytes rest))

pub loop-rest-preserved : goal.loop-rest-preserved
loop-rest-preserved c =
    let high : hexadecimal (get_or c.loop-rest.rest.now 0 0) ≡ Some c.in-Some.high = search rules in
    let low : hexadecimal (get_or c.loop-rest.rest.now 1 0) ≡ Some c.in-Some-hexadecimal.low = search rules in
    let two : 1 < length c.loop-rest.rest.now = search rules in
    let next = step c.loop-rest.bytes.items c.loop-rest.rest.now c.in-Some.high c.in-Some-hexadecimal.low two high low in
    rw (c.in_ok-push.ensures.items, c.split_at.ensures.back) (sym next ∙ c.loop-rest.invariant)
