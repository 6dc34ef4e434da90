-- Reads values one after the other, as a loop does.
use Rattle.std.proofs.Common.{◌≡◌, ℕ, suc, ◌-◌, ◌+◌, ◌≤◌, ◌<◌, List, [], ◌∷◌, ◌++◌, Option, Some, None, refl, sym, ap, ◌∙◌, append_assoc, arith}
use Rattle.std.proofs.lemmas.List.{append-nil}
use Rattle.craq_wire.specs.declared.decode_error.DecodeError.{DecodeError}
use Rattle.craq_wire.specs.declared.decode_error.DecodeError.TheVariants as unread
use Rattle.craq_wire.specs.NumberReading.{◌>>=◌, Fails}
use Rattle.craq_wire.specs.PartReading.{many_at}

-- prepends the values read before to those that are read next
abbrev pub with_front : {A : Type 0} → List A → Option (List A × List ℕ) → Option (List A × List ℕ)
with_front front read = read >>= λ x. Some (front ++ x.0, x.1)

regroup : {A : Type 0} (front : List A) (n : A) (read : Option (List A × List ℕ)) → with_front front (read >>= λ x. Some (n ∷ x.0, x.1)) ≡ with_front (front ++ n ∷ []) read
regroup {A} front n (Some x) = ap (λ (ns : List A). Some (ns, x.1)) (simp append_assoc)
regroup front n None = refl

module _ {A : Type 0} (part : List ℕ → Option (A × List ℕ)) where
  pub goes_on : (front : List A) (count i : ℕ) (bytes : List ℕ) (n : A) (after : List ℕ) (total : Option (List A × List ℕ)) → i < count → part bytes ≡ Some (n, after)
      → with_front front (many_at part (count - i) bytes) ≡ total → with_front (front ++ n ∷ []) (many_at part (count - (i + 1)) after) ≡ total
  unfolding many_at
  goes_on front count i bytes n after total lt h so_far =
      let k : count - i ≡ suc (count - (i + 1)) = omega arith in
      let one : with_front front (many_at part (count - i) bytes) ≡ with_front (front ++ n ∷ []) (many_at part (count - (i + 1)) after) = rw (k, h) (regroup front n (many_at part (count - (i + 1)) after)) in
      sym one ∙ so_far

  pub ends : (e : DecodeError) (front : List A) (count i : ℕ) (bytes : List ℕ) (total : Option (List A × List ℕ)) → i < count → Fails e (part bytes)
      → with_front front (many_at part (count - i) bytes) ≡ total → Fails e total
  unfolding many_at
  ends unread.Memory front count i bytes total lt h so_far = tt
  ends unread.BadFrame front count i bytes total lt h so_far =
      let k : count - i ≡ suc (count - (i + 1)) = omega arith in
      let one : with_front front (many_at part (count - i) bytes) ≡ None = rw (k, h) refl in
      sym so_far ∙ one

  pub is_done : (front : List A) (count i : ℕ) (bytes : List ℕ) (total : Option (List A × List ℕ)) → count ≤ i → with_front front (many_at part (count - i) bytes) ≡ total → total ≡ Some (front, bytes)
  unfolding many_at
  is_done front count i bytes total le so_far =
      let k : count - i ≡ 0 = omega arith in
      let one : with_front front (many_at part (count - i) bytes) ≡ Some (front, bytes) = rw k (ap (λ (ns : List A). Some (ns, bytes)) (append-nil front)) in
      sym so_far ∙ one
