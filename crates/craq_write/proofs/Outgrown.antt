-- A state with more parts than 32 bits count makes a step that cannot be sent.
use Rattle.std.proofs.Common.{◌≡◌, ℕ, zero, suc, ◌+◌, ◌<◌, ◌≤◌, Bool, true, false, ◌&&◌, List, [], ◌∷◌, ◌++◌, map, Ok, Err, refl, sym, ap, subst, inl, inr, arith}
use Rattle.std.proofs.lemmas.Bool.Decides.{nat_tests}
use Rattle.std.proofs.lemmas.Bool.{lt-ltb}
use Rattle.std.specs.Prelude.{max, nat_le, Result, IfErr}
use Rattle.std.specs.Result.{IsErr, IsErrAnd}
use Rattle.std.specs.List.{list_all, range_with_len}
use Rattle.std.specs.Slice.Iter.{chunk_count}
use Rattle.craq_names.specs.Limits.{greatest_count}
use Rattle.craq_names.specs.declared.refusal.Refusal.{Refusal}
use Rattle.craq_commands.specs.declared.state.State.{State}
use Rattle.craq_model.specs.declared.message.Body.{Body}
use Rattle.craq_model.specs.declared.message.Body.TheVariants as bodies
use Rattle.craq_model.specs.Deliveries.{fill_bodies}
use Rattle.craq_model.specs.Node.{counts_fit, out_fits, outs_fit}
use Rattle.craq_model.specs.Parts.{item_count, part_count, part_of, parts_of}
use Rattle.craq_model.specs.Plain.{Plain, clean}
use Rattle.craq_model.specs.Sends.{catch_up, copy_bodies, send}
use Rattle.craq_write.specs.Sent.{CannotFill, CannotSend}

and_false : (a : Bool) → (a && false) ≡ false
and_false true = refl
and_false false = refl

-- if one of the messages does not fit, the step does not
unsent : (p : Plain) (to : ℕ) (front more : List Body) → list_all counts_fit front ≡ false → list_all out_fits (map (send p to) (front ++ more)) ≡ false
unsent p to [] more h = absurd cc
unsent p to (b ∷ bs) more h =
    elim (counts_fit b) as (λ t. (t && list_all counts_fit bs) ≡ false → (t && list_all out_fits (map (send p to) (bs ++ more))) ≡ false) [
      | true ↦ λ e. unsent p to bs more e
      | false ↦ λ e. refl
    ] h

too_many : (position n : ℕ) (s : State) → 1 ≤ n → greatest_count < part_count s → list_all counts_fit (map bodies.Part (map (part_of position s) (range_with_len 1 n))) ≡ false
too_many position zero s some big = absurd (omega (arith, some))
too_many position (suc n) s some big =
    let test : nat_le (part_count s) greatest_count ≡ false = grind (arith, nat_tests, big) in
    ap (λ t. t && list_all counts_fit (map bodies.Part (map (part_of position s) (range_with_len (1 + 1) n)))) test

many_items : (n : ℕ) → greatest_count < chunk_count n 64 → nat_le n 64 ≡ false
many_items n big = let more : 64 < n = omega (arith, big) in grind (arith, nat_tests, more)

some_parts : (n : ℕ) → greatest_count < chunk_count n 64 → 1 ≤ chunk_count n 64
some_parts n big = omega (arith, big)

copy_outgrows : (position : ℕ) (s : State) → greatest_count < part_count s → list_all counts_fit (copy_bodies position s) ≡ false
unfolding copy_bodies parts_of
copy_outgrows position s big = rw (many_items (item_count s) big) (too_many position (part_count s) s (some_parts (item_count s) big) big)

filled : (p : Plain) (to count : ℕ) → count < p.past.acknowledged → greatest_count < part_count (clean p) → outs_fit (map (send p to) (fill_bodies p count)) ≡ false
unfolding fill_bodies outs_fit
filled p to count ahead big =
    rw (lt-ltb count p.past.acknowledged ahead)
    (rw (unsent p to (copy_bodies p.past.acknowledged (clean p)) (catch_up p (max count p.past.acknowledged)) (copy_outgrows p.past.acknowledged (clean p) big)) (and_false _))

-- the sends that an unready successor needs do not fit
pub fill_outgrown : (p : Plain) (to count : ℕ) (e : Refusal) → (count < p.past.acknowledged) × CannotSend (clean p) e → CannotFill p to count e
fill_outgrown p to count e (ahead, inl lacks) = inl lacks
fill_outgrown p to count e (ahead, inr grown) = inr (grown.0, filled p to count ahead grown.1)

-- a refusal that is passed on
pub handed_on : {A : Type 0} (r : Result A Refusal) (e : Refusal) (P : Refusal → Type 0) → IsErr r × IsErrAnd r (λ x. x ≡ e) → P e → IfErr r P
handed_on (Ok x) e P h q = tt
handed_on (Err x) e P h q = subst P (sym h.1) q
