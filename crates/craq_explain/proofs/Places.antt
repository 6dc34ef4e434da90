-- The places of a step's replies, output by output.
use Rattle.std.proofs.Common.{◌≡◌, ◌<◌, ◌≤◌, ◌+◌, ℕ, suc, add-one, List, [], ◌∷◌, ◌++◌, length, get_or, drop, drop-cons, Option, Some, None, Result, Ok, Err, refl, sym, ap, ◌∙◌, append_assoc}
use Rattle.std.specs.Prelude.{IfOk, option_map}
use Rattle.std.specs.declared.alloc.AllocError.{AllocError}
use Rattle.std.proofs.lemmas.List.{append-nil, at_drop_all}
use Rattle.craq_commands.specs.declared.entry.Entry.{Entry}
use Rattle.craq_model.specs.declared.ask.Answer.{Answer}
use Rattle.craq_model.specs.declared.ask.Ask.{Ask}
use Rattle.craq_model.specs.declared.step.Out.{Out}
use Rattle.craq_model.specs.declared.step.Out.TheVariants as outs
use Rattle.craq_model.specs.Plain.{Plain}
use Rattle.craq_runs.specs.declared.explanation.Place.{Place}
use Rattle.craq_runs.specs.Explain.{place_by, place_if_asked, places_of}
use Rattle.craq_runs.specs.Seen.{Answered, Asked, answers_in, ask_with}
use Rattle.craq_explain.specs.Shown.{places_in}

-- one more output's place
pub carried : (F : List Out → List Place) (outs : List Out) (i : ℕ) (out : Out) (ps qs new all : List Place) → i < length outs → out ≡ get_or outs i out → F (out ∷ drop (i + 1) outs) ≡ qs ++ F (drop (i + 1) outs) → new ≡ ps ++ qs → ps ++ F (drop i outs) ≡ all → new ++ F (drop (i + 1) outs) ≡ all
carried F outs i out ps qs new all h is here put so =
    let at : drop i outs ≡ out ∷ drop (i + 1) outs = drop-cons outs i out h ∙ ap (λ (x : Out). x ∷ drop (suc i) outs) (sym is) ∙ ap (λ n. out ∷ drop n outs) (sym (add-one i)) in
    ap (λ (xs : List Place). xs ++ F (drop (i + 1) outs)) put
    ∙ append_assoc ps qs (F (drop (i + 1) outs))
    ∙ ap (λ (xs : List Place). ps ++ xs) (sym here ∙ ap F (sym at))
    ∙ so

nothing_out : (asks : List Asked) (pending : List Place) (committed : List Entry) (p : Option Plain) (word : Option (ℕ × ℕ)) (number node : ℕ) → places_of asks pending committed p word (answers_in number node []) ≡ []
unfolding places_of answers_in
nothing_out asks pending committed p word number node = refl

-- past the last output nothing is added
pub all_put : (asks : List Asked) (pending : List Place) (committed : List Entry) (p : Option Plain) (word : Option (ℕ × ℕ)) (number node : ℕ) (outs : List Out) (i : ℕ) (ps all : List Place) → length outs ≤ i → ps ++ places_of asks pending committed p word (answers_in number node (drop i outs)) ≡ all → ps ≡ all
all_put asks pending committed p word number node outs i ps all h so =
    sym (append-nil ps)
    ∙ ap (λ (xs : List Place). ps ++ xs) (sym (at_drop_all (λ os. places_of asks pending committed p word (answers_in number node os)) outs i h ∙ nothing_out asks pending committed p word number node))
    ∙ so

by_ask : (pending : List Place) (entries : List Entry) (p : Option Plain) (word : Option (ℕ × ℕ)) (a : Answered) (ask : Ask) (r : Option Asked) → Some ask ≡ option_map (λ (x : Asked). x.ask) r → place_if_asked pending entries p word a r ≡ place_by pending entries p word a ask
by_ask pending entries p word a ask None h = cc
by_ask pending entries p word a ask (Some x) h = let same : ask ≡ x.ask = cc in ap (place_by pending entries p word a) (sym same)

-- the place of a reply to a request
answered : (xs : List Asked) (pending : List Place) (entries : List Entry) (p : Option Plain) (word : Option (ℕ × ℕ)) (number node ticket : ℕ) (answer : Answer) (out : Out) (later : List Out) (ask : Ask) (ps : List Place) → out ≡ outs.Answer ticket answer → Some ask ≡ option_map (λ (x : Asked). x.ask) (ask_with xs node ticket) → ps ≡ place_by pending entries p word (record { move = number; node = node; ticket = ticket; answer = answer }) ask → places_of xs pending entries p word (answers_in number node (out ∷ later)) ≡ ps ++ places_of xs pending entries p word (answers_in number node later)
unfolding places_of answers_in
answered xs pending entries p word number node ticket answer out later ask ps is asked here =
    rw is (ap (λ (qs : List Place). qs ++ places_of xs pending entries p word (answers_in number node later)) (by_ask pending entries p word (record { move = number; node = node; ticket = ticket; answer = answer }) ask (ask_with xs node ticket) asked ∙ sym here))

pub answered_ok : (xs : List Asked) (pending : List Place) (entries : List Entry) (p : Option Plain) (word : Option (ℕ × ℕ)) (number node ticket : ℕ) (answer : Answer) (out : Out) (later : List Out) (ask : Ask) (r : Result (Option Place) AllocError) → out ≡ outs.Answer ticket answer → Some ask ≡ option_map (λ (x : Asked). x.ask) (ask_with xs node ticket) → IfOk r (λ place. places_in place ≡ place_by pending entries p word (record { move = number; node = node; ticket = ticket; answer = answer }) ask) → IfOk r (λ place. places_of xs pending entries p word (answers_in number node (out ∷ later)) ≡ places_in place ++ places_of xs pending entries p word (answers_in number node later))
answered_ok xs pending entries p word number node ticket answer out later ask (Ok place) is asked here = answered xs pending entries p word number node ticket answer out later ask (places_in place) is asked here
answered_ok xs pending entries p word number node ticket answer out later ask (Err e) is asked here = tt
