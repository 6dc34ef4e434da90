-- Each chain of a world is the result of its own moves.
use Rattle.std.proofs.Common.{◌≡◌, ◌≢◌, ◌+◌, ◌++◌, ◌==◌, if◌then◌else◌, ℕ, zero, suc, Bool, true, false, List, [], ◌∷◌, map, set, Option, Some, None, Result, Ok, Err, refl, sym, ap, subst, arith, ◌∙◌, inl, inr, append_assoc}
use Rattle.std.specs.Prelude.{◌&&◌, is_ok, slice_get}
use Rattle.std.specs.List.{AllByRecursion}
use Rattle.std.specs.Result.{result_unwrap_or}
use Rattle.std.proofs.lemmas.Bool.{eqb-true}
use Rattle.std.proofs.lemmas.List.{append-nil}
use Rattle.craq_names.specs.declared.refusal.Refusal.{Refusal}
use Rattle.craq_names.specs.declared.refusal.Refusal.TheVariants.{Memory}
use Rattle.craq_runs.specs.Chain.{Progress, chain_step}
use Rattle.craq_runs.specs.declared.run.Move.{Move}
use Rattle.craq_runs.specs.declared.run.Taken.{Taken}
use Rattle.craq_chain.specs.Chained.{Chained, after_taking, chain_of_run, moved, opened_chain}
use Rattle.craq_world.specs.Apart.{Execution, HadMemory, running_chain_after, chosen_in, given_to, moves_of, taken_by, taken_of}
use Rattle.craq_world.specs.Worlds.{GivesWorld, RunsTo, move_of, opened_from, with_chain, world_move}
use Rattle.craq_world.proofs.Chains.{set_other}

-- the chain of an id, after it is put there
get_set : (ws : List Chained) (id : ℕ) (w v : Chained) → slice_get ws id ≡ Some w → slice_get (set ws id v) id ≡ Some v
get_set [] id w v e = cc
get_set (u ∷ ws) zero w v e = refl
get_set (u ∷ ws) (suc id) w v e = get_set ws id w v e

own_with : (ws mid : List Chained) (id : ℕ) (w : Chained) (r : Result Chained Refusal) → with_chain ws id r ≡ Ok mid → slice_get ws id ≡ Some w → slice_get mid id ≡ Some (result_unwrap_or r w)
own_with ws mid id w (Ok v) h e =
    let is : set ws id v ≡ mid = cc in subst (λ x. slice_get x id ≡ Some v) is (get_set ws id w v e)
own_with ws mid id w (Err f) h e = cc

-- a chain takes its own move
own_move : (ws mid : List Chained) (id : ℕ) (m : Move) (w : Chained) → world_move ws id m ≡ Ok mid → slice_get ws id ≡ Some w → slice_get mid id ≡ Some (result_unwrap_or (after_taking w m) w)
own_move ws mid id m w h e =
    own_with ws mid id w (after_taking w m) (subst (λ o. move_of ws id m o ≡ Ok mid) e h) e

other_with : (ws mid : List Chained) (c id : ℕ) (r : Result Chained Refusal) → with_chain ws c r ≡ Ok mid → id ≢ c → slice_get mid id ≡ slice_get ws id
other_with ws mid c id (Ok v) h n =
    let is : set ws c v ≡ mid = cc in subst (λ x. slice_get x id ≡ slice_get ws id) is (set_other ws c id v n)
other_with ws mid c id (Err f) h n = cc

other_at : (ws mid : List Chained) (c id : ℕ) (m : Move) (o : Option Chained) → move_of ws c m o ≡ Ok mid → id ≢ c → slice_get mid id ≡ slice_get ws id
other_at ws mid c id m None h n = cc
other_at ws mid c id m (Some w) h n = other_with ws mid c id (after_taking w m) h n

-- a chain does not take another's move
other_move : (ws mid : List Chained) (c id : ℕ) (m : Move) → world_move ws c m ≡ Ok mid → id ≢ c → slice_get mid id ≡ slice_get ws id
other_move ws mid c id m h n = other_at ws mid c id m (slice_get ws c) h n

-- a chain after a move that is its own or not
abbrev after_own : Bool → Chained → Move → Chained
after_own own w m = if own then result_unwrap_or (after_taking w m) w else w

reported_apart : (c id : ℕ) → (c == id) ≡ false → id ≢ c
reported_apart c id f e = grind arith

one_taken : (old mid : List Chained) (m : ℕ × Move) (r : Result ℕ Refusal) (id : ℕ) (w : Chained) (b : Bool) → (m.0 == id) ≡ b → GivesWorld old mid m.0 m.1 r → slice_get old id ≡ Some w → slice_get mid id ≡ Some (after_own (b && is_ok r) w m.1)
one_taken old mid m (Ok n) id w true t g e =
    let same : m.0 ≡ id = eqb-true m.0 id t in
    own_move old mid id m.1 w (subst (λ c. world_move old c m.1 ≡ Ok mid) same g.0) e
one_taken old mid m (Ok n) id w false t g e = other_move old mid m.0 id m.1 g.0 (reported_apart m.0 id t) ∙ e
one_taken old mid m (Err f) id w true t g e = subst (λ x. slice_get x id ≡ Some w) (sym g.1) e
one_taken old mid m (Err f) id w false t g e = subst (λ x. slice_get x id ≡ Some w) (sym g.1) e

after_one : (own : Bool) (w : Chained) (m : Move) (ms : List Move) → running_chain_after (after_own own w m) ms ≡ running_chain_after w (if own then m ∷ ms else ms)
after_one true w m ms = refl
after_one false w m ms = refl

-- each chain is the result of its taken moves
pub runs_apart : (old : List Chained) (ms : List (ℕ × Move)) (rs : List (Result ℕ Refusal)) (new : List Chained) (id : ℕ) (w : Chained) → RunsTo old ms rs new → slice_get old id ≡ Some w → slice_get new id ≡ Some (running_chain_after w (taken_of id ms rs))
runs_apart old [] [] new id w h e = subst (λ x. slice_get x id ≡ Some w) (sym h) e
runs_apart old [] (r ∷ rs) new id w h e = absurd h
runs_apart old (m ∷ ms) [] new id w h e = absurd h
runs_apart old (m ∷ ms) (r ∷ rs) new id w h e =
    let own = (m.0 == id) && is_ok r in
    runs_apart h.0 ms rs new id (after_own own w m.1) h.2 (one_taken old h.0 m r id w (m.0 == id) refl h.1 e)
    ∙ ap Some (after_one own w m.1 (taken_of id ms rs))

-- if memory never runs out, a move that is not taken is refused by its chain
refused_with : (ws : List Chained) (id : ℕ) (w : Chained) (f : Refusal) (r : Result Chained Refusal) → with_chain ws id r ≡ Err f → result_unwrap_or r w ≡ w
refused_with ws id w f (Ok v) h = cc
refused_with ws id w f (Err g) h = refl

refused_own : (ws : List Chained) (id : ℕ) (m : Move) (w : Chained) (f : Refusal) → world_move ws id m ≡ Err f → slice_get ws id ≡ Some w → result_unwrap_or (after_taking w m) w ≡ w
refused_own ws id m w f h e = refused_with ws id w f (after_taking w m) (subst (λ o. move_of ws id m o ≡ Err f) e h)

one_given : (old mid : List Chained) (m : ℕ × Move) (r : Result ℕ Refusal) (id : ℕ) (w : Chained) (b : Bool) → (m.0 == id) ≡ b → GivesWorld old mid m.0 m.1 r → r ≢ Err Memory → slice_get old id ≡ Some w → slice_get mid id ≡ Some (after_own b w m.1)
one_given old mid m (Ok n) id w true t g had e =
    let same : m.0 ≡ id = eqb-true m.0 id t in
    own_move old mid id m.1 w (subst (λ c. world_move old c m.1 ≡ Ok mid) same g.0) e
one_given old mid m (Ok n) id w false t g had e = other_move old mid m.0 id m.1 g.0 (reported_apart m.0 id t) ∙ e
one_given old mid m (Err f) id w true t g had e =
    let same : m.0 ≡ id = eqb-true m.0 id t in
    let wanted : world_move old m.0 m.1 ≡ Err f = elim g.0 [ inl memory ↦ absurd (had (ap Err memory.0)) | inr is ↦ is ] in
    let stays = refused_own old id m.1 w f (subst (λ c. world_move old c m.1 ≡ Err f) same wanted) e in
    subst (λ x. slice_get x id ≡ Some w) (sym g.1) e ∙ ap Some (sym stays)
one_given old mid m (Err f) id w false t g had e = subst (λ x. slice_get x id ≡ Some w) (sym g.1) e

pub runs_given : (old : List Chained) (ms : List (ℕ × Move)) (rs : List (Result ℕ Refusal)) (new : List Chained) (id : ℕ) (w : Chained) → RunsTo old ms rs new → AllByRecursion (λ r. r ≢ Err Memory) rs → slice_get old id ≡ Some w → slice_get new id ≡ Some (running_chain_after w (moves_of id ms))
runs_given old [] [] new id w h had e = subst (λ x. slice_get x id ≡ Some w) (sym h) e
runs_given old [] (r ∷ rs) new id w h had e = absurd h
runs_given old (m ∷ ms) [] new id w h had e = absurd h
runs_given old (m ∷ ms) (r ∷ rs) new id w h had e =
    let own = m.0 == id in
    runs_given h.0 ms rs new id (after_own own w m.1) h.2 had.1 (one_given old h.0 m r id w own refl h.1 had.0 e)
    ∙ ap Some (after_one own w m.1 (moves_of id ms))

-- ---- opened worlds

opened_at : (first : ℕ) (lists : List (List ℕ)) (i : ℕ) (members : List ℕ) → slice_get lists i ≡ Some members → slice_get (opened_from first lists) i ≡ Some (opened_chain (first + i) members)
opened_at first [] i members e = cc
opened_at first (l ∷ lists) zero members e =
    let same : l ≡ members = cc in ap (λ ms. Some (opened_chain first ms)) same ∙ ap (λ n. Some (opened_chain n members)) (omega arith)
opened_at first (l ∷ lists) (suc i) members e = opened_at (first + 1) lists i members e ∙ ap (λ n. Some (opened_chain n members)) (omega arith)

opened_in : (lists : List (List ℕ)) (id : ℕ) (members : List ℕ) → slice_get lists id ≡ Some members → slice_get (opened_from 0 lists) id ≡ Some (opened_chain id members)
opened_in lists id members e = opened_at 0 lists id members e ∙ ap (λ n. Some (opened_chain n members)) (omega arith)

pub as_taken : (x : Execution) (id : ℕ) (members : List ℕ) → slice_get x.lists id ≡ Some members → slice_get x.chains id ≡ Some (running_chain_after (opened_chain id members) (taken_by x id))
as_taken x id members e =
    runs_apart (opened_from 0 x.lists) x.moves x.results x.chains id (opened_chain id members) x.ran (opened_in x.lists id members e)

pub as_given : (x : Execution) (id : ℕ) (members : List ℕ) → slice_get x.lists id ≡ Some members → HadMemory x → slice_get x.chains id ≡ Some (running_chain_after (opened_chain id members) (given_to x id))
as_given x id members e had =
    runs_given (opened_from 0 x.lists) x.moves x.results x.chains id (opened_chain id members) x.ran had (opened_in x.lists id members e)

-- ---- the moves of a run

chosen_push : (ts : List Taken) (t : Taken) → map (λ (x : Taken). x.chosen) (ts ++ t ∷ []) ≡ map (λ (x : Taken). x.chosen) ts ++ t.chosen ∷ []
chosen_push [] t = refl
chosen_push (u ∷ ts) t = ap (λ ms. u.chosen ∷ ms) (chosen_push ts t)

taken_more : (ws mid : List Chained) (id : ℕ) (w : Chained) (m : Move) (r : Result Progress Refusal) → with_chain ws id (moved w m r) ≡ Ok mid → chosen_in (result_unwrap_or (moved w m r) w).run ≡ chosen_in w.run ++ m ∷ []
taken_more ws mid id w m (Ok x) h = chosen_push w.run.moves (record { chosen = m; step = x.1 })
taken_more ws mid id w m (Err f) h = cc

-- a move that is taken is the last of the chain's
one_more : (old mid : List Chained) (m : ℕ × Move) (r : Result ℕ Refusal) (id : ℕ) (w : Chained) (b : Bool) → (m.0 == id) ≡ b → GivesWorld old mid m.0 m.1 r → slice_get old id ≡ Some w → chosen_in (after_own (b && is_ok r) w m.1).run ≡ chosen_in w.run ++ (if b && is_ok r then m.1 ∷ [] else [])
one_more old mid m (Ok n) id w true t g e =
    let same : m.0 ≡ id = eqb-true m.0 id t in
    let own : world_move old id m.1 ≡ Ok mid = subst (λ c. world_move old c m.1 ≡ Ok mid) same g.0 in
    taken_more old mid id w m.1 (chain_step (chain_of_run w) m.1) (subst (λ o. move_of old id m.1 o ≡ Ok mid) e own)
one_more old mid m (Ok n) id w false t g e = sym (append-nil (chosen_in w.run))
one_more old mid m (Err f) id w true t g e = sym (append-nil (chosen_in w.run))
one_more old mid m (Err f) id w false t g e = sym (append-nil (chosen_in w.run))

first_of : (own : Bool) (m : Move) (ms : List Move) → (if own then m ∷ [] else []) ++ ms ≡ (if own then m ∷ ms else ms)
first_of true m ms = refl
first_of false m ms = refl

-- a chain's run goes on by its taken moves
runs_on : (old : List Chained) (ms : List (ℕ × Move)) (rs : List (Result ℕ Refusal)) (new : List Chained) (id : ℕ) (w v : Chained) → RunsTo old ms rs new → slice_get old id ≡ Some w → slice_get new id ≡ Some v → chosen_in v.run ≡ chosen_in w.run ++ taken_of id ms rs
runs_on old [] [] new id w v h e f =
    let same : Some w ≡ Some v = sym e ∙ ap (λ x. slice_get x id) (sym h) ∙ f in
    let is : w ≡ v = cc in
    ap (λ (x : Chained). chosen_in x.run) (sym is) ∙ sym (append-nil (chosen_in w.run))
runs_on old [] (r ∷ rs) new id w v h e f = absurd h
runs_on old (m ∷ ms) [] new id w v h e f = absurd h
runs_on old (m ∷ ms) (r ∷ rs) new id w v h e f =
    let own = (m.0 == id) && is_ok r in
    runs_on h.0 ms rs new id (after_own own w m.1) v h.2 (one_taken old h.0 m r id w (m.0 == id) refl h.1 e) f
    ∙ ap (λ xs. xs ++ taken_of id ms rs) (one_more old h.0 m r id w (m.0 == id) refl h.1 e)
    ∙ append_assoc (chosen_in w.run) (if own then m.1 ∷ [] else []) (taken_of id ms rs)
    ∙ ap (λ xs. chosen_in w.run ++ xs) (first_of own m.1 (taken_of id ms rs))

pub just_taken : (x : Execution) (id : ℕ) (members : List ℕ) (w : Chained) → slice_get x.lists id ≡ Some members → slice_get x.chains id ≡ Some w → chosen_in w.run ≡ taken_by x id
just_taken x id members w e f =
    runs_on (opened_from 0 x.lists) x.moves x.results x.chains id (opened_chain id members) w x.ran (opened_in x.lists id members e) f
