-- The slots of a client's replies, during a pass over its positions.
use Rattle.std.proofs.Common.{◌≡◌, ℕ, zero, suc, ◌+◌, ◌-◌, ◌<◌, ◌≤◌, Bool, true, false, cond, List, [], ◌∷◌, length, drop, get_or, refl, sym, ◌∙◌, ap, subst, arith, add-one, drop-cons}
use Rattle.std.proofs.lemmas.List.{get_or-drop, length-drop, drop-drop}
use Rattle.std.specs.Prelude.{◌==◌}
use Rattle.craq_commands.specs.declared.entry.Entry.{Entry}
use Rattle.craq_full_history.specs.Slots.{Slots, slots_after, window_with}
use Rattle.craq_client_index.specs.Indexed.{positions_of}

-- the location of the first of a client's positions, and the rest of the entries
record FirstAt (client after first : ℕ) (es : List Entry) (xs : Slots) (p : ℕ) (ps : List ℕ) : Type 0 where
  skipped : ℕ
  is : p ≡ after + skipped + 1
  within : skipped < length es
  noted : ps ≡ positions_of client (after + skipped + 1) (drop (suc skipped) es)
  slots : (d : Entry) → slots_after client first es xs ≡ slots_after client (first + skipped + 1) (drop (suc skipped) es) (window_with xs (get_or es skipped d).number (first + skipped))

first_at : (client after first : ℕ) (es : List Entry) (xs : Slots) (p : ℕ) (ps : List ℕ) → p ∷ ps ≡ positions_of client after es → FirstAt client after first es xs p ps
unfolding positions_of slots_after
first_at client after first [] xs p ps h = let clash : ⊥ = cc in absurd clash
first_at client after first (e ∷ es) xs p ps h =
    let here : after + 1 ≡ after + 0 + 1 = omega arith in
    let next : first + 1 ≡ first + 0 + 1 = omega arith in
    let same : first ≡ first + 0 = omega arith in
    let split : (b : Bool) → (e.client == client) ≡ b → p ∷ ps ≡ cond b ((after + 1) ∷ positions_of client (after + 1) es) (positions_of client (after + 1) es) → FirstAt client after first (e ∷ es) xs p ps = elim [
      | true ↦ λ mine h.
          let its : p ≡ after + 1 = cc in
          let rest : ps ≡ positions_of client (after + 1) es = cc in
          record {
            skipped = 0;
            is = its ∙ here;
            within = omega arith;
            noted = rest ∙ ap (λ (n : ℕ). positions_of client n es) here;
            slots = λ d.
                ap (λ b. slots_after client (first + 1) es (cond b (window_with xs e.number first) xs)) mine
                ∙ ap (λ (n : ℕ). slots_after client n es (window_with xs e.number first)) next
                ∙ ap (λ (n : ℕ). slots_after client (first + 0 + 1) es (window_with xs e.number n)) same;
          }
      | false ↦ λ others h.
          let later = first_at client (after + 1) (first + 1) es xs p ps h in
          let n : ℕ = later.skipped in
          let at : after + 1 + n + 1 ≡ after + suc n + 1 = omega arith in
          let on : first + 1 + n + 1 ≡ first + suc n + 1 = omega arith in
          let its : first + 1 + n ≡ first + suc n = omega arith in
          let low = later.within in
          record {
            skipped = suc n;
            is = later.is ∙ at;
            within = omega (arith, low);
            noted = later.noted ∙ ap (λ (k : ℕ). positions_of client k (drop (suc n) es)) at;
            slots = λ d.
                ap (λ b. slots_after client (first + 1) es (cond b (window_with xs e.number first) xs)) others
                ∙ later.slots d
                ∙ ap (λ (k : ℕ). slots_after client k (drop (suc n) es) (window_with xs (get_or es n d).number (first + 1 + n))) on
                ∙ ap (λ (k : ℕ). slots_after client (first + suc n + 1) (drop (suc n) es) (window_with xs (get_or es n d).number k)) its;
          }
    ] in
    split (e.client == client) refl h

pub none_left : (client after first : ℕ) (es : List Entry) (xs : Slots) → [] ≡ positions_of client after es → slots_after client first es xs ≡ xs
unfolding positions_of slots_after
none_left client after first [] xs h = refl
none_left client after first (e ∷ es) xs h =
    let split : (b : Bool) → [] ≡ cond b ((after + 1) ∷ positions_of client (after + 1) es) (positions_of client (after + 1) es) → slots_after client (first + 1) es (cond b (window_with xs e.number first) xs) ≡ xs = elim [
      | true ↦ λ h. let clash : ⊥ = cc in absurd clash
      | false ↦ λ h. none_left client (after + 1) (first + 1) es xs h
    ] in
    split (e.client == client) h

-- the loop invariant: the remaining positions are those of the remaining entries, whose replies
-- lead from the slots so far to the wanted ones
pub record GoesOn (client after first : ℕ) (es : List Entry) (ps : List ℕ) (xs wanted : Slots) : Type 0 where
  pub gone : ℕ
  pub within : gone ≤ length es
  pub noted : ps ≡ positions_of client (after + gone) (drop gone es)
  pub slots : slots_after client (first + gone) (drop gone es) xs ≡ wanted

pub begins : (client after first : ℕ) (es : List Entry) (ps : List ℕ) (xs : Slots) → ps ≡ positions_of client after es → GoesOn client after first es ps xs (slots_after client first es xs)
begins client after first es ps xs noted =
    let one : after ≡ after + 0 = omega arith in
    let two : first + 0 ≡ first = omega arith in
    record {
      gone = 0;
      within = omega arith;
      noted = noted ∙ ap (λ (n : ℕ). positions_of client n es) one;
      slots = ap (λ (n : ℕ). slots_after client n es xs) two;
    }

pub ends : (client after first : ℕ) (es : List Entry) (xs wanted : Slots) → GoesOn client after first es [] xs wanted → xs ≡ wanted
ends client after first es xs wanted g = sym (none_left client (after + g.gone) (first + g.gone) (drop g.gone es) xs g.noted) ∙ g.slots

-- the location of the next position, and the invariant after its reply is kept
pub record Next (client after first : ℕ) (es : List Entry) (p : ℕ) (ps : List ℕ) (xs wanted : Slots) : Type 0 where
  pub index : ℕ
  pub is : p ≡ after + index + 1
  pub within : index < length es
  pub on : (e : Entry) → e ≡ get_or es index e → GoesOn client after first es ps (window_with xs e.number (first + index)) wanted

pub next : (client after first : ℕ) (es : List Entry) (p : ℕ) (ps : List ℕ) (xs wanted : Slots) → GoesOn client after first es (p ∷ ps) xs wanted → Next client after first es p ps xs wanted
next client after first es p ps xs wanted g =
    let k : ℕ = g.gone in
    let here = first_at client (after + k) (first + k) (drop k es) xs p ps g.noted in
    let n : ℕ = here.skipped in
    let long : length (drop k es) ≡ length es - k = length-drop k es in
    let inside = here.within in
    let its : after + k + n + 1 ≡ after + (k + n) + 1 = omega arith in
    let left : k + suc n ≡ suc (k + n) = omega arith in
    let low : k + n < length es = omega (arith, long, inside) in
    record {
      index = k + n;
      is = here.is ∙ its;
      within = low;
      on = λ e is.
          let at : after + k + n + 1 ≡ after + suc (k + n) = omega arith in
          let on : first + k + n + 1 ≡ first + suc (k + n) = omega arith in
          let place : first + k + n ≡ first + (k + n) = omega arith in
          let rest : drop (suc n) (drop k es) ≡ drop (suc (k + n)) es = drop-drop (suc n) k es ∙ ap (λ (m : ℕ). drop m es) left in
          let same : get_or (drop k es) n e ≡ e = get_or-drop k es n e ∙ sym is in
          record {
            gone = suc (k + n);
            within = omega (arith, low);
            noted = here.noted ∙ ap (λ (l : List Entry). positions_of client (after + k + n + 1) l) rest ∙ ap (λ (m : ℕ). positions_of client m (drop (suc (k + n)) es)) at;
            slots =
                ap (λ (m : ℕ). slots_after client m (drop (suc (k + n)) es) (window_with xs e.number (first + (k + n)))) (sym on)
                ∙ ap (λ (l : List Entry). slots_after client (first + k + n + 1) l (window_with xs e.number (first + (k + n)))) (sym rest)
                ∙ ap (λ (m : ℕ). slots_after client (first + k + n + 1) (drop (suc n) (drop k es)) (window_with xs e.number m)) (sym place)
                ∙ ap (λ (x : Entry). slots_after client (first + k + n + 1) (drop (suc n) (drop k es)) (window_with xs x.number (first + k + n))) (sym same)
                ∙ sym (here.slots e)
                ∙ g.slots;
          };
    }

-- the position at an index
pub next_at : (client after first : ℕ) (es : List Entry) (ps : List ℕ) (i p : ℕ) (xs wanted : Slots) → GoesOn client after first es (drop i ps) xs wanted → i < length ps → p ≡ get_or ps i 0 → Next client after first es p (drop (i + 1) ps) xs wanted
next_at client after first es ps i p xs wanted g low is =
    let front : drop i ps ≡ p ∷ drop (i + 1) ps = drop-cons ps i 0 low ∙ ap (λ (n : ℕ). n ∷ drop (suc i) ps) (sym is) ∙ ap (λ (n : ℕ). p ∷ drop n ps) (sym (add-one i)) in
    next client after first es p (drop (i + 1) ps) xs wanted (subst (λ (l : List ℕ). GoesOn client after first es l xs wanted) front g)

none_after : (i : ℕ) (ps : List ℕ) → length ps ≤ i → drop i ps ≡ []
none_after zero [] h = refl
none_after zero (p ∷ ps) h = absurd (omega (arith, h))
none_after (suc i) [] h = refl
none_after (suc i) (p ∷ ps) h = none_after i ps (omega (arith, h))

-- no position remains
pub ends_at : (client after first : ℕ) (es : List Entry) (ps : List ℕ) (i : ℕ) (xs wanted : Slots) → GoesOn client after first es (drop i ps) xs wanted → length ps ≤ i → xs ≡ wanted
ends_at client after first es ps i xs wanted g h = ends client after first es xs wanted (subst (λ (l : List ℕ). GoesOn client after first es l xs wanted) (none_after i ps h) g)
