-- The first request with a name.
use Rattle.std.proofs.Common.{◌≡◌, ◌≤◌, ◌+◌, ◌-◌, ℕ, suc, List, [], ◌∷◌, ◌++◌, Option, Some, None, refl, sym, ap, arith, ◌∙◌}
use Rattle.std.specs.Prelude.{option_map, slice_get}
use Rattle.craq_model.specs.declared.ask.Ask.{Ask}
use Rattle.craq_runs.specs.declared.run.Taken.{Taken}
use Rattle.craq_runs.specs.declared.run.Move.{Move}
use Rattle.craq_runs.specs.declared.run.Move.TheVariants as moves
use Rattle.craq_runs.specs.Seen.{Asked, ask_in, ask_with, asks_from}
use Rattle.craq_explain.specs.Shown.{asked_as}
use Rattle.craq_explain.specs.Tables.{asked_at}

found_first : (xs ys : List Asked) (a : Asked) (node ticket : ℕ) → ask_with xs node ticket ≡ Some a → ask_with (xs ++ ys) node ticket ≡ Some a
unfolding ask_with
found_first [] ys a node ticket h = cc
found_first (x ∷ xs) ys a node ticket h = grind (arith, h, found_first xs ys a node ticket)

found_later : (xs ys : List Asked) (node ticket : ℕ) → ask_with xs node ticket ≡ None → ask_with (xs ++ ys) node ticket ≡ ask_with ys node ticket
unfolding ask_with
found_later [] ys node ticket h = refl
found_later (x ∷ xs) ys node ticket h = grind (arith, h, found_later xs ys node ticket)

-- a move's request has the move's number
numbered : (number : ℕ) (t : Option ℕ) (m : Move) (node ticket : ℕ) (a : Asked) → ask_with (ask_in number t m) node ticket ≡ Some a → a.move ≡ number
unfolding ask_with
numbered number t (moves.Ask n ask) node ticket a h = grind (arith, h)
numbered number t (moves.Deliver k) node ticket a h = cc
numbered number t (moves.Tick k) node ticket a h = cc
numbered number t (moves.Stop k) node ticket a h = cc
numbered number t (moves.Remove k) node ticket a h = cc
numbered number t (moves.Join k) node ticket a h = cc

-- the move of the first request with a name
pub record Stands (from : ℕ) (ts : List Taken) (node ticket : ℕ) (a : Asked) : Type 0 where
  pub taken : Taken
  pub above : from ≤ a.move
  pub here : slice_get ts (a.move - from) ≡ Some taken
  pub asked : ask_with (ask_in a.move taken.step.ticket taken.chosen) node ticket ≡ Some a

one_later : (from : ℕ) (t : Taken) (ts : List Taken) (node ticket : ℕ) (a : Asked) → Stands (from + 1) ts node ticket a → Stands from (t ∷ ts) node ticket a
one_later from t ts node ticket a s =
    let at : a.move - from ≡ suc (a.move - (from + 1)) = let h = s.above in omega (arith, h) in
    record {
      taken = s.taken;
      above = let h = s.above in omega (arith, h);
      here = ap (λ n. slice_get (t ∷ ts) n) at ∙ s.here;
      asked = s.asked;
    }

none_there : (from node ticket : ℕ) (a : Asked) → ask_with (asks_from from []) node ticket ≡ Some a → ⊥
unfolding ask_with asks_from
none_there from node ticket a h = cc

some_same : (a b : Asked) → (let r : Option Asked = Some a in r) ≡ Some b → a ≡ b
some_same a b h = cc

pub stands : (from : ℕ) (ts : List Taken) (node ticket : ℕ) (a : Asked) → ask_with (asks_from from ts) node ticket ≡ Some a → Stands from ts node ticket a
unfolding asks_from
stands from [] node ticket a h = absurd (none_there from node ticket a h)
stands from (t ∷ ts) node ticket a h =
    elim (ask_with (ask_in from t.step.ticket t.chosen) node ticket) as (λ (r : Option Asked). ask_with (ask_in from t.step.ticket t.chosen) node ticket ≡ r → Stands from (t ∷ ts) node ticket a) [
      | None ↦ λ e. one_later from t ts node ticket a (stands (from + 1) ts node ticket a (sym (found_later (ask_in from t.step.ticket t.chosen) (asks_from (from + 1) ts) node ticket e) ∙ h))
      | Some b ↦ λ e.
          let same : a ≡ b = some_same a b (sym h ∙ found_first (ask_in from t.step.ticket t.chosen) (asks_from (from + 1) ts) b node ticket e) in
          let number : a.move ≡ from = ap (λ (x : Asked). x.move) same ∙ numbered from t.step.ticket t.chosen node ticket b e in
          record {
            taken = t;
            above = omega (arith, number);
            here = (let at : a.move - from ≡ 0 = omega (arith, number) in ap (λ n. slice_get (t ∷ ts) n) at);
            asked = ap (λ n. ask_with (ask_in n t.step.ticket t.chosen) node ticket) number ∙ e ∙ ap (λ (x : Asked). let r : Option Asked = Some x in r) (sym same);
          }
    ] refl

no_move : (r : Option Asked) → None ≡ option_map (λ (a : Asked). a.move) r → None ≡ option_map (λ (a : Asked). a.ask) r
no_move None h = refl
no_move (Some a) h = cc

-- a name without a number has no request
pub unasked : (xs : List Asked) (node ticket : ℕ) → None ≡ asked_at xs (node, ticket) → None ≡ option_map (λ (a : Asked). a.ask) (ask_with xs node ticket)
unfolding asked_at
unasked xs node ticket h = no_move (ask_with xs node ticket) h

-- a request of this number
record Found (r : Option Asked) (number : ℕ) : Type 0 where
  pub ask : Asked
  pub is : r ≡ Some ask
  pub numbered : ask.move ≡ number

found : (r : Option Asked) (number : ℕ) → Some number ≡ option_map (λ (a : Asked). a.move) r → Found r number
found None number h = cc
found (Some a) number h = record { ask = a; is = refl; numbered = let e : number ≡ a.move = cc in sym e }

found_at : (xs : List Asked) (node ticket number : ℕ) → Some number ≡ asked_at xs (node, ticket) → Found (ask_with xs node ticket) number
unfolding asked_at
found_at xs node ticket number h = found (ask_with xs node ticket) number h

as_asked : (number node ticket : ℕ) (ask : Option Ask) (a : Asked) → asked_as number node ticket ask ≡ Some a → ask ≡ Some a.ask
as_asked number node ticket None a h = cc
as_asked number node ticket (Some x) a h = let same : (let b : Asked = record { move = number; node = node; ticket = Some ticket; ask = x } in b) ≡ a = cc in ap (λ (b : Asked). Some b.ask) same

one_taken : (t u : Taken) → (let r : Option Taken = Some t in r) ≡ Some u → t ≡ u
one_taken t u h = cc

no_taken : (t : Taken) → (let r : Option Taken = None in r) ≡ Some t → ⊥
no_taken t h = cc

-- a noted number is that of a move
pub numbered_move : (ts : List Taken) (node ticket number : ℕ) → Some number ≡ asked_at (asks_from 1 ts) (node, ticket) → None ≡ slice_get ts (number - 1) → ⊥
numbered_move ts node ticket number h none =
    let f = found_at (asks_from 1 ts) node ticket number h in
    let s = stands 1 ts node ticket f.ask f.is in
    no_taken s.taken (none ∙ ap (λ n. slice_get ts (n - 1)) (sym f.numbered) ∙ s.here)

-- and that move is a request
pub asked_by : (ts : List Taken) (t : Taken) (node ticket number : ℕ) (ask : Option Ask) → Some number ≡ asked_at (asks_from 1 ts) (node, ticket) → Some t ≡ slice_get ts (number - 1) → ((n : ℕ) → ask_with (ask_in n t.step.ticket t.chosen) node ticket ≡ asked_as n node ticket ask) → ask ≡ option_map (λ (a : Asked). a.ask) (ask_with (asks_from 1 ts) node ticket)
asked_by ts t node ticket number ask h at asks =
    let f = found_at (asks_from 1 ts) node ticket number h in
    let s = stands 1 ts node ticket f.ask f.is in
    let same : t ≡ s.taken = one_taken t s.taken (at ∙ ap (λ n. slice_get ts (n - 1)) (sym f.numbered) ∙ s.here) in
    let is : asked_as f.ask.move node ticket ask ≡ Some f.ask = sym (asks f.ask.move) ∙ ap (λ (x : Taken). ask_with (ask_in f.ask.move x.step.ticket x.chosen) node ticket) same ∙ s.asked in
    as_asked f.ask.move node ticket ask f.ask is ∙ ap (option_map (λ (a : Asked). a.ask)) (sym f.is)
