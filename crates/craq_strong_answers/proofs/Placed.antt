-- Each strong reply of a run has its place.
use Rattle.std.proofs.Common.{◌≡◌, ℕ, ◌≤◌, cond, List, [], ◌∷◌, ◌++◌, filter, length, slice_index, unwrap_or, option_map, Option, Some, refl, ap, sym, subst, ◌∙◌, arith}
use Rattle.std.specs.List.{AllByRecursion, AllZip}
use Rattle.craq_commands.specs.declared.entry.Entry.{Entry}
use Rattle.craq_commands.specs.declared.read_mode.ReadMode.TheVariants.{Strong, Eventual, Bounded}
use Rattle.craq_commands.specs.declared.state.State.{State}
use Rattle.craq_model.specs.declared.ask.Ask.{Ask}
use Rattle.craq_model.specs.declared.ask.Ask.TheVariants as asks
use Rattle.craq_model.specs.declared.ask.Answer.{Answer}
use Rattle.craq_model.specs.declared.ask.Answer.TheVariants as answers
use Rattle.craq_model.specs.declared.step.Out.{Out}
use Rattle.craq_model.specs.declared.step.Out.TheVariants as outs
use Rattle.craq_model.specs.Plain.{Plain}
use Rattle.craq_protocol.specs.Machine.{MachineState}
use Rattle.craq_protocol.specs.Promises.{IsPrefix}
use Rattle.craq_runs.specs.declared.explanation.Place.{Place}
use Rattle.craq_runs.specs.Seen.{Asked, Answered, ask_with, ask_of, answers_in, is_strong_ask, is_strong_answer}
use Rattle.craq_runs.specs.Explain.{Account, pending_place, read_place, place_by, place_if_asked, places_of}
use Rattle.craq_runs.specs.Valid.{IsSaid}
use Rattle.craq_updates.proofs.Lens.{AreLens}
use Rattle.craq_updates.proofs.Updates.{numbers_of, numbers_length}
use Rattle.craq_updates.proofs.Known.{Known}
use Rattle.craq_strong_answers.proofs.Outs.{AllReported}
use Rattle.craq_strong_answers.proofs.Stands.{state_after, before, Owed, IsAnswer}
use Rattle.craq_strong_answers.proofs.Stays.{GoesOn, before_stays, asked_in_time, state_stays}
use Rattle.craq_strong_answers.proofs.Answering.{Answered as IsAnswered, Questions, Versions}

-- the number committed after a move
abbrev pub after_move : Account → ℕ → ℕ
after_move a move = slice_index (0 ∷ a.lens) move

-- the reply has this place
pub record Explains (a : Account) (x : Answered) (p : Place) : Type 0 where
  pub node : p.node ≡ x.node
  pub ticket : p.ticket ≡ x.ticket
  pub ask : Asked
  pub is_ask : ask_with a.asks x.node x.ticket ≡ Some ask
  pub in_time : x.move ≤ length a.lens
  pub asked_first : ask.move ≤ x.move
  pub not_before : before a ask ≤ p.position
  pub not_beyond : p.position ≤ after_move a x.move
  pub is_said : IsSaid (state_after p.position a.committed) ask.ask x.answer

-- the request of a reply was made
abbrev pub HasAsk : List Asked → Answered → Type 0
HasAsk asked x = (ask : Asked) × (ask_with asked x.node x.ticket ≡ Some ask)

abbrev pub strong_of : List Asked → List Answered → List Answered
strong_of asked xs = filter (λ (x : Answered). is_strong_answer (ask_of asked x) x.answer) xs

-- ---- earlier replies keep their places

pub explains_stay : {a b : Account} {w v : MachineState Entry} → Known a w → GoesOn a b w v → IsPrefix a.committed b.committed → (x : Answered) (p : Place) → Explains a x p → Explains b x p
explains_stay {a} {b} {w} {v} k g longer x p e =
    let l : AreLens a.chain.moves a.lens (numbers_of a.asks a.committed) = k.lens in
    let same : before b e.ask ≡ before a e.ask = before_stays g x.node x.ticket e.ask e.is_ask in
    let len : after_move b x.move ≡ after_move a x.move = g.lens x.move e.in_time in
    let more : length a.lens ≤ length b.lens = g.longer in
    let within : p.position ≤ length a.committed = omega (arith, e.not_beyond, l.within x.move, numbers_length a.asks a.committed) in
    let S : State → Type 0 = λ s. IsSaid s e.ask.ask x.answer in
    record {
      node = e.node;
      ticket = e.ticket;
      ask = e.ask;
      is_ask = g.stay x.node x.ticket e.ask e.is_ask;
      in_time = omega (arith, e.in_time, more);
      asked_first = e.asked_first;
      not_before = omega (arith, e.not_before, same);
      not_beyond = omega (arith, e.not_beyond, len);
      is_said = subst S (sym (state_stays p.position a.committed b.committed longer within)) e.is_said;
    }

pub zip_stays : {a b : Account} {w v : MachineState Entry} → Known a w → GoesOn a b w v → IsPrefix a.committed b.committed → (xs : List Answered) (ps : List Place) → AllZip (Explains a) xs ps → AllZip (Explains b) xs ps
zip_stays k g l [] [] z = tt
zip_stays k g l [] (p ∷ ps) z = absurd z
zip_stays k g l (x ∷ xs) [] z = absurd z
zip_stays k g l (x ∷ xs) (p ∷ ps) z = (explains_stay k g l x p z.0, zip_stays k g l xs ps z.1)

pub strong_stays : {a b : Account} {w v : MachineState Entry} → GoesOn a b w v → (xs : List Answered) → AllByRecursion (HasAsk a.asks) xs → strong_of b.asks xs ≡ strong_of a.asks xs
strong_stays g [] h = refl
strong_stays {a} {b} g (x ∷ xs) h =
    let same : ask_of b.asks x ≡ ask_of a.asks x = g.stay x.node x.ticket h.0.0 h.0.1 ∙ sym h.0.1 in
    λ i. cond (is_strong_answer (same i) x.answer) (x ∷ strong_stays g xs h.1 i) (strong_stays g xs h.1 i)

-- ---- the replies of a step

-- one reply, before the others
one_place : (b : Account) (v : MachineState Entry) (old : Option Plain) (word : Option (ℕ × ℕ)) (number id ticket : ℕ) (answer : Answer) (xs : List Answered) (ps : List Place)
    → Known b v → number ≤ length b.lens → after_move b number ≡ length v.log → AllByRecursion (λ (y : Asked). y.move ≤ number) b.asks
    → (ask : Asked) → ask_with b.asks id ticket ≡ Some ask → (kind : Ask) → ask.ask ≡ kind → Owed b v (λ key. read_place b.committed old word key) id ticket ask kind answer
    → AllZip (Explains b) (strong_of b.asks xs) ps
    → AllZip (Explains b) (cond (is_strong_answer (Some ask) answer) ((record { move = number; node = id; ticket = ticket; answer = answer }) ∷ strong_of b.asks xs) (strong_of b.asks xs))
    (place_by b.pending b.committed old word (record { move = number; node = id; ticket = ticket; answer = answer }) ask.ask ++ ps)
unfolding pending_place
one_place b v old word number id ticket answer xs ps k in_time last below ask found (asks.Update u) is o z = by_answer answer o
  where
    by_answer : (answer : Answer) → Owed b v (λ key. read_place b.committed old word key) id ticket ask (asks.Update u) answer
        → AllZip (Explains b) (cond (is_strong_answer (Some ask) answer) ((record { move = number; node = id; ticket = ticket; answer = answer }) ∷ strong_of b.asks xs) (strong_of b.asks xs))
        (place_by b.pending b.committed old word (record { move = number; node = id; ticket = ticket; answer = answer }) ask.ask ++ ps)
    by_answer (answers.Read version value) o = absurd o
    by_answer (answers.Update reply) o =
        let x : Answered = record { move = number; node = id; ticket = ticket; answer = answers.Update reply } in
        let P : Ask → Type 0 = λ kind. AllZip (Explains b) (x ∷ strong_of b.asks xs) (place_by b.pending b.committed old word x kind ++ ps) in
        let place : pending_place b.pending id ticket ≡ o.place.position = ap (λ (o : Option Place). unwrap_or (option_map (λ (p : Place). p.position) o) 0) o.pending in
        let S : List Entry → Type 0 = λ l. IsSaid (state_after o.place.position l) (asks.Update u) (answers.Update reply) in
        let T : Ask → Type 0 = λ kind. IsSaid (state_after o.place.position b.committed) kind (answers.Update reply) in
        let Q : ℕ → Type 0 = λ n. Explains b x (record { node = id; ticket = ticket; position = n }) in
        let first : Q o.place.position = record {
          node = refl;
          ticket = refl;
          ask = ask;
          is_ask = found;
          in_time = in_time;
          asked_first = asked_in_time b number id ticket ask below found;
          not_before = o.not_before;
          not_beyond = omega (arith, o.not_beyond, last);
          is_said = subst T (sym is) (subst S (sym k.committed) o.is_said);
        } in
        subst P (sym is) (subst Q (sym place) first, z)
one_place b v old word number id ticket answer xs ps k in_time last below ask found (asks.Read Strong object) is o z = by_answer answer o
  where
    by_answer : (answer : Answer) → Owed b v (λ key. read_place b.committed old word key) id ticket ask (asks.Read Strong object) answer
        → AllZip (Explains b) (cond (is_strong_answer (Some ask) answer) ((record { move = number; node = id; ticket = ticket; answer = answer }) ∷ strong_of b.asks xs) (strong_of b.asks xs))
        (place_by b.pending b.committed old word (record { move = number; node = id; ticket = ticket; answer = answer }) ask.ask ++ ps)
    by_answer (answers.Update reply) o = absurd o
    by_answer (answers.Read version value) o =
        let x : Answered = record { move = number; node = id; ticket = ticket; answer = answers.Read version value } in
        let P : Ask → Type 0 = λ kind. AllZip (Explains b) (cond (is_strong_ask kind) (x ∷ strong_of b.asks xs) (strong_of b.asks xs)) (place_by b.pending b.committed old word x kind ++ ps) in
        let n : ℕ = read_place b.committed old word object.key in
        let S : List Entry → Type 0 = λ l. IsSaid (state_after n l) (asks.Read Strong object) (answers.Read version value) in
        let T : Ask → Type 0 = λ kind. IsSaid (state_after n b.committed) kind (answers.Read version value) in
        subst P (sym is) (
          record {
            node = refl;
            ticket = refl;
            ask = ask;
            is_ask = found;
            in_time = in_time;
            asked_first = asked_in_time b number id ticket ask below found;
            not_before = o.not_before;
            not_beyond = omega (arith, o.not_beyond, last);
            is_said = subst T (sym is) (subst S (sym k.committed) o.is_said);
          },
          z,
        )
one_place b v old word number id ticket answer xs ps k in_time last below ask found (asks.Read Eventual object) is o z = by_answer answer o
  where
    by_answer : (answer : Answer) → Owed b v (λ key. read_place b.committed old word key) id ticket ask (asks.Read Eventual object) answer
        → AllZip (Explains b) (cond (is_strong_answer (Some ask) answer) ((record { move = number; node = id; ticket = ticket; answer = answer }) ∷ strong_of b.asks xs) (strong_of b.asks xs))
        (place_by b.pending b.committed old word (record { move = number; node = id; ticket = ticket; answer = answer }) ask.ask ++ ps)
    by_answer (answers.Update reply) o = absurd o
    by_answer (answers.Read version value) o =
        let x : Answered = record { move = number; node = id; ticket = ticket; answer = answers.Read version value } in
        let P : Ask → Type 0 = λ kind. AllZip (Explains b) (cond (is_strong_ask kind) (x ∷ strong_of b.asks xs) (strong_of b.asks xs)) (place_by b.pending b.committed old word x kind ++ ps) in
        subst P (sym is) z
one_place b v old word number id ticket answer xs ps k in_time last below ask found (asks.Read (Bounded bound) object) is o z = by_answer answer o
  where
    by_answer : (answer : Answer) → Owed b v (λ key. read_place b.committed old word key) id ticket ask (asks.Read (Bounded bound) object) answer
        → AllZip (Explains b) (cond (is_strong_answer (Some ask) answer) ((record { move = number; node = id; ticket = ticket; answer = answer }) ∷ strong_of b.asks xs) (strong_of b.asks xs))
        (place_by b.pending b.committed old word (record { move = number; node = id; ticket = ticket; answer = answer }) ask.ask ++ ps)
    by_answer (answers.Update reply) o = absurd o
    by_answer (answers.Read version value) o =
        let x : Answered = record { move = number; node = id; ticket = ticket; answer = answers.Read version value } in
        let P : Ask → Type 0 = λ kind. AllZip (Explains b) (cond (is_strong_ask kind) (x ∷ strong_of b.asks xs) (strong_of b.asks xs)) (place_by b.pending b.committed old word x kind ++ ps) in
        subst P (sym is) z

pub step_places : (b : Account) (v : MachineState Entry) (old : Option Plain) (word : Option (ℕ × ℕ)) (number id : ℕ) (os : List Out)
    → Known b v → number ≤ length b.lens → after_move b number ≡ length v.log → AllByRecursion (λ (y : Asked). y.move ≤ number) b.asks
    → AllReported (IsAnswered b v (λ key. read_place b.committed old word key) id) (Questions b) (Versions b v) os
    → AllZip (Explains b) (strong_of b.asks (answers_in number id os)) (places_of b.asks b.pending b.committed old word (answers_in number id os)) × AllByRecursion (HasAsk b.asks) (answers_in number id os)
unfolding answers_in places_of
step_places b v old word number id [] k in_time last below t = (tt, tt)
step_places b v old word number id (outs.Send to m ∷ os) k in_time last below t = step_places b v old word number id os k in_time last below t.1
step_places b v old word number id (outs.Answer ticket answer ∷ os) k in_time last below t =
    let rest : _ = step_places b v old word number id os k in_time last below t.1 in
    let x : Answered = record { move = number; node = id; ticket = ticket; answer = answer } in
    let xs : List Answered = answers_in number id os in
    let ps : List Place = places_of b.asks b.pending b.committed old word xs in
    let a : IsAnswer b v (λ key. read_place b.committed old word key) id ticket answer = t.0 in
    let P : Option Asked → Type 0 = λ o. AllZip (Explains b) (cond (is_strong_answer o answer) (x ∷ strong_of b.asks xs) (strong_of b.asks xs)) (place_if_asked b.pending b.committed old word x o ++ ps) in
    (subst P (sym a.is_ask) (one_place b v old word number id ticket answer xs ps k in_time last below a.ask a.is_ask a.ask.ask refl a.owed rest.0), ((a.ask, a.is_ask), rest.1))
