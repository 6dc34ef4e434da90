-- Insertion into a sorted list, at the index before which all keys are lower.
use Rattle.std.proofs.Common.{◌≡◌, ◌<◌, ◌+◌, ℕ, suc, add-one, length, get_or, set, take, drop, drop-cons, append_assoc, List, [], ◌∷◌, ◌++◌, sym, ap, ◌∙◌}
use Rattle.std.proofs.Math.Seq.{take-suc}
use Rattle.std.proofs.lemmas.List.{take-append-drop, take-set, drop-set}
use Rattle.std.specs.declared.cmp.Ordering.{Ordering}
use Rattle.std.specs.declared.cmp.Ordering.TheVariants.{Less, Equal, Greater}
use Rattle.std.specs.FinMap.Entries.{put, by_order}

module _ {K V : Type 0} (R : K → K → Ordering) (k : K) (v : V) (es : List (K × V)) (i : ℕ) (e : K × V) (h : i < length es) (is : e ≡ get_or es i e) where
  -- the list from index i on
  front : drop i es ≡ e ∷ drop (suc i) es
  front = drop-cons es i e h ∙ ap (λ (x : K × V). x ∷ drop (suc i) es) (sym is)

  there : (r : Ordering) → R k e.0 ≡ r → put R k v (drop i es) ≡ by_order r ((k, v) ∷ e ∷ drop (suc i) es) ((e.0, v) ∷ drop (suc i) es) (e ∷ put R k v (drop (suc i) es))
  there r t = ap (put R k v) front ∙ ap (λ (o : Ordering). by_order o ((k, v) ∷ e ∷ drop (suc i) es) ((e.0, v) ∷ drop (suc i) es) (e ∷ put R k v (drop (suc i) es))) t

  -- the key at i is higher: insert before it
  pub put_before : R k e.0 ≡ Less → take i es ++ (k, v) ∷ drop i es ≡ take i es ++ put R k v (drop i es)
  put_before t = ap (λ (xs : List (K × V)). take i es ++ xs) (ap (λ (xs : List (K × V)). (k, v) ∷ xs) front ∙ sym (there Less t))

  -- the key at i is equal: replace its value
  pub put_here : R k e.0 ≡ Equal → set es i (e.0, v) ≡ take i es ++ put R k v (drop i es)
  put_here t =
      sym (take-append-drop i (set es i (e.0, v)))
      ∙ ap (λ (xs : List (K × V)). xs ++ drop i (set es i (e.0, v))) (take-set es i (e.0, v))
      ∙ ap (λ (xs : List (K × V)). take i es ++ xs) (drop-set es i (e.0, v) h ∙ ap (λ n. (e.0, v) ∷ drop n es) (add-one i) ∙ sym (there Equal t))

  -- the key at i is lower: go on behind it
  pub put_later : R k e.0 ≡ Greater → take (i + 1) es ++ put R k v (drop (i + 1) es) ≡ take i es ++ put R k v (drop i es)
  put_later t =
      ap (λ n. take n es ++ put R k v (drop n es)) (add-one i)
      ∙ ap (λ (xs : List (K × V)). xs ++ put R k v (drop (suc i) es)) (take-suc es i e h ∙ ap (λ (x : K × V). take i es ++ x ∷ []) (sym is))
      ∙ append_assoc (take i es) (e ∷ []) (put R k v (drop (suc i) es))
      ∙ ap (λ (xs : List (K × V)). take i es ++ xs) (sym (there Greater t))
