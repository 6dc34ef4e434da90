-- The place that an explanation gives to a call.
use Rattle.std.proofs.Common.{◌≡◌, ◌≤◌, ℕ, Bool, true, false, List, [], ◌∷◌, map, Option, Some, refl, sym, ap, subst, ◌∙◌, arith, inl, inr}
use Rattle.std.specs.Prelude.{filter, Contains}
use Rattle.std.specs.List.{AllZip, IsDistinct}
use Rattle.std.proofs.lemmas.Bool.{cond_both}
use Rattle.craq_model.specs.declared.ask.Answer.{Answer}
use Rattle.craq_model.specs.declared.ask.Answer.TheVariants as answers
use Rattle.craq_runs.specs.declared.explanation.Explanation.{Explanation}
use Rattle.craq_runs.specs.declared.explanation.Place.{Place}
use Rattle.craq_runs.specs.declared.run.Run.{Run}
use Rattle.craq_runs.specs.Seen.{Answered, Asked, Seen, ask_of, is_strong_answer, is_strong_ask, seen, strong_answers}
use Rattle.craq_runs.specs.Valid.{IsExplained, IsValid, OnlyGrows, answer_name, place_name, same_name}
use Rattle.craq_seat.specs.Calls.{Called}
use Rattle.craq_seat.specs.Merge.{Journals, MergedStep, run_of}
use Rattle.craq_merge.specs.Within.{IsWithin, run_answer_of_call, ask_of_call}
use Rattle.craq_causality.proofs.Orders.{IsIn, all_in, from_contains, to_contains}
use Rattle.craq_merge.proofs.Positions.{no_older}
use Rattle.craq_audit.specs.Audited.{IsAudited}
use Rattle.craq_audit.specs.Places.{IsPlaceOf}

-- ---- the reply of a strong call is a strong reply

kept_in : {X : Type 0} (p : X → Bool) (xs : List X) (x : X) → IsIn xs x → p x ≡ true → IsIn (filter p xs) x
kept_in p [] x i t = absurd i
kept_in p (y ∷ xs) x (inl e) t =
    let own : p y ≡ true = ap p e ∙ t in rw own (inl e)
kept_in p (y ∷ xs) x (inr i) t =
    cond_both (p y) (y ∷ filter p xs) (filter p xs) (λ zs. IsIn zs x) (λ b. inr (kept_in p xs x i t)) (λ b. kept_in p xs x i t)

strong_by : (o : Option Asked) (ask : Asked) (answer : Answer) → o ≡ Some ask → is_strong_ask ask.ask ≡ true → is_strong_answer o answer ≡ true
strong_by o ask (answers.Update reply) e t = refl
strong_by o ask (answers.Read version value) e t = rw e t

strong_in : (s : Seen) (a : Answered) (ask : Asked) → Contains s.answers a → ask_of s.asks a ≡ Some ask → is_strong_ask ask.ask ≡ true → IsIn (strong_answers s) a
unfolding strong_answers
strong_in s a ask there e t =
    kept_in (λ (x : Answered). is_strong_answer (ask_of s.asks x) x.answer) s.answers a (from_contains s.answers a there) (strong_by (ask_of s.asks a) ask a.answer e t)

-- ---- it is explained by the place of its name

same_names : (a b : Answered) → answer_name a ≡ answer_name b → same_name a b ≡ true
same_names a b e =
    let n : a.node ≡ b.node = ap (λ (x : ℕ × ℕ). x.0) e in
    let t : a.ticket ≡ b.ticket = ap (λ (x : ℕ × ℕ). x.1) e in
    grind (arith, n, t)

true_false : (b : Bool) → b ≡ true → b ≡ false → ⊥
true_false b h k = cc

heads : (x y : ℕ × ℕ) (xs ys : List (ℕ × ℕ)) → x ∷ xs ≡ y ∷ ys → x ≡ y
heads x y xs ys e = cc

tails : (x y : ℕ × ℕ) (xs ys : List (ℕ × ℕ)) → x ∷ xs ≡ y ∷ ys → xs ≡ ys
tails x y xs ys e = cc

-- the reply of a place's name
answer_at : (ans : List Answered) (ps : List Place) (p : Place) → map place_name ps ≡ map answer_name ans → IsIn ps p → (a : Answered) × IsIn ans a × (place_name p ≡ answer_name a)
answer_at [] [] p e i = absurd i
answer_at [] (q ∷ ps) p e i = cc
answer_at (b ∷ ans) [] p e i = absurd i
answer_at (b ∷ ans) (q ∷ ps) p e (inl s) = (b, inl refl, ap place_name (sym s) ∙ heads (place_name q) (answer_name b) (map place_name ps) (map answer_name ans) e)
answer_at (b ∷ ans) (q ∷ ps) p e (inr i) =
    let t = answer_at ans ps p (tails (place_name q) (answer_name b) (map place_name ps) (map answer_name ans) e) i in (t.0, inr t.1, t.2)

-- the place of a reply's name
place_at : (ans : List Answered) (ps : List Place) (a : Answered) → map place_name ps ≡ map answer_name ans → IsIn ans a → (p : Place) × IsIn ps p × (place_name p ≡ answer_name a)
place_at [] ps a e i = absurd i
place_at (b ∷ ans) [] a e i = cc
place_at (b ∷ ans) (q ∷ ps) a e (inl s) = (q, inl refl, heads (place_name q) (answer_name b) (map place_name ps) (map answer_name ans) e ∙ ap answer_name s)
place_at (b ∷ ans) (q ∷ ps) a e (inr i) =
    let t = place_at ans ps a (tails (place_name q) (answer_name b) (map place_name ps) (map answer_name ans) e) i in (t.0, inr t.1, t.2)

explained_at : (R : Answered → Place → Type 0) (ans : List Answered) (ps : List Place) (a : Answered) (p : Place) → map place_name ps ≡ map answer_name ans → AllZip R ans ps → IsDistinct same_name ans → IsIn ans a → IsIn ps p → place_name p ≡ answer_name a → R a p
unfolding IsDistinct
explained_at R [] ps a p e z d i k n = absurd i
explained_at R (b ∷ ans) [] a p e z d i k n = absurd k
explained_at R (b ∷ ans) (q ∷ ps) a p e z d (inl s) (inl t) n = subst (λ x. R x p) s (subst (R b) t z.0)
explained_at R (b ∷ ans) (q ∷ ps) a p e z d (inl s) (inr k) n =
    let t = answer_at ans ps p (tails (place_name q) (answer_name b) (map place_name ps) (map answer_name ans) e) k in
    absurd (true_false (same_name b t.0) (same_names b t.0 (ap answer_name s ∙ sym n ∙ t.2)) (all_in (λ y. same_name b y ≡ false) ans t.0 d.0 t.1))
explained_at R (b ∷ ans) (q ∷ ps) a p e z d (inr i) (inl t) n =
    absurd (true_false (same_name b a) (same_names b a (sym (heads (place_name q) (answer_name b) (map place_name ps) (map answer_name ans) e) ∙ ap place_name t ∙ n)) (all_in (λ y. same_name b y ≡ false) ans a d.0 i))
explained_at R (b ∷ ans) (q ∷ ps) a p e z d (inr i) (inr k) n =
    explained_at R ans ps a p (tails (place_name q) (answer_name b) (map place_name ps) (map answer_name ans) e) z.1 d.1 i k n

named_as : (c : Called) (p : Place) (answered : ℕ) → p.node ≡ c.call.asked.node → p.ticket ≡ c.call.ticket → place_name p ≡ answer_name (run_answer_of_call c answered)
named_as c p answered e f = rw (e, f) refl

-- a strong call in a run whose explanation is valid
strong_call : (lines : List MergedStep) (run : Run) (c : Called) (w : IsWithin lines run c) → is_strong_ask c.call.ask ≡ true → IsIn (strong_answers (seen run)) (run_answer_of_call c w.answered)
strong_call lines run c w t = strong_in (seen run) (run_answer_of_call c w.answered) (ask_of_call c w.asked) w.is_answer w.is_ask t

explained : (lines : List MergedStep) (run : Run) (e : Explanation) (c : Called) (p : Place) (w : IsWithin lines run c) → IsValid run e → is_strong_ask c.call.ask ≡ true → IsPlaceOf e c p → IsExplained (seen run) e (run_answer_of_call c w.answered) p
explained lines run e c p w v t at =
    explained_at (IsExplained (seen run) e) (strong_answers (seen run)) e.places (run_answer_of_call c w.answered) p v.checked.form.places v.checked.strong.explained v.checked.strong.once (strong_call lines run c w t) (from_contains e.places p at.there) (named_as c p w.answered at.node at.ticket)

pub has_place : (chain : ℕ) (j : Journals) (receipts : List Called) (run : Run) (e : Explanation) (c : Called) → IsAudited chain j receipts run → IsValid run e → Contains receipts c → is_strong_ask c.call.ask ≡ true → (p : Place) × IsPlaceOf e c p
has_place chain j receipts run e c a v i t =
    let lines : List MergedStep = a.merged.merge.0 in
    let w = all_in (λ (x : Called). IsWithin lines run x) receipts c a.calls (from_contains receipts c i) in
    let p = place_at (strong_answers (seen run)) e.places (run_answer_of_call c w.answered) v.checked.form.places (strong_call lines run c w t) in
    (p.0, record { there = to_contains e.places p.0 p.1; node = ap (λ (x : ℕ × ℕ). x.0) p.2; ticket = ap (λ (x : ℕ × ℕ). x.1) p.2 })

pub no_lower : (chain : ℕ) (j : Journals) (receipts : List Called) (run : Run) (e : Explanation) (earlier later : Called) (p q : Place) → IsAudited chain j receipts run → IsValid run e → Contains receipts earlier → Contains receipts later → is_strong_ask earlier.call.ask ≡ true → is_strong_ask later.call.ask ≡ true → IsPlaceOf e earlier p → IsPlaceOf e later q → earlier.answered.stamp ≤ later.call.pass → p.position ≤ q.position
no_lower chain j receipts run e earlier later p q a v i k s t at bt le =
    let lines : List MergedStep = a.merged.merge.0 in
    let is : run ≡ run_of j.members lines = a.merged.merge.2 in
    let first = all_in (λ (c : Called). IsWithin lines run c) receipts earlier a.calls (from_contains receipts earlier i) in
    let second = all_in (λ (c : Called). IsWithin lines run c) receipts later a.calls (from_contains receipts later k) in
    by_run j.members lines run is first second v.checked.list (explained lines run e earlier p first v s at) (explained lines run e later q second v t bt)
  where
    by_run : (members : List ℕ) (lines : List MergedStep) (r : Run) → r ≡ run_of members lines → (first : IsWithin lines r earlier) (second : IsWithin lines r later) → OnlyGrows (seen r) e → IsExplained (seen r) e (run_answer_of_call earlier first.answered) p → IsExplained (seen r) e (run_answer_of_call later second.answered) q → p.position ≤ q.position
    by_run members lines r is first second g x y =
        let P : Run → Type 0 = λ r. (first : IsWithin lines r earlier) (second : IsWithin lines r later) → OnlyGrows (seen r) e → IsExplained (seen r) e (run_answer_of_call earlier first.answered) p → IsExplained (seen r) e (run_answer_of_call later second.answered) q → p.position ≤ q.position in
        let here : P (run_of members lines) = λ first second g x y. no_older members lines e earlier later p q first second g x y le in
        let there : P r = subst P (sym is) here in
        there first second g x y
