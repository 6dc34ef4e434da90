-- A strong reply of a running store is that of a single copy, between its request and itself.
use Rattle.std.proofs.Common.{◌≡◌, ◌<◌, ◌≤◌, ℕ, zero, suc, ◌+◌, ◌-◌, Bool, true, false, List, [], ◌∷◌, map, length, filter, Option, Some, refl, sym, ap, subst, arith, ◌∙◌, inl, inr}
use Rattle.std.specs.Prelude.{Contains, option_and_then, take}
use Rattle.std.specs.List.{AllZip, IsDistinct}
use Rattle.std.proofs.lemmas.Bool.{cond_both}
use mathlib.Core.List.{IsPrefix}
use Rattle.craq_commands.specs.declared.state.State.{State}
use Rattle.craq_commands.specs.SingleCopy.{after}
use Rattle.craq_names.specs.declared.name.NodeName.{NodeName}
use Rattle.craq_model.specs.declared.ask.Answer.{Answer}
use Rattle.craq_model.specs.declared.ask.Answer.TheVariants as answers
use Rattle.craq_model.specs.declared.ask.Ask.{Ask}
use Rattle.craq_model.specs.declared.ask.Ask.TheVariants as asks
use Rattle.craq_runs.specs.declared.explanation.Explanation.{Explanation}
use Rattle.craq_runs.specs.declared.explanation.Place.{Place}
use Rattle.craq_runs.specs.declared.run.Run.{Run}
use Rattle.craq_runs.specs.Seen.{Asked, Answered, Seen, ask_of, is_strong_answer, is_strong_ask, seen, strong_answers}
use Rattle.craq_runs.specs.Valid.{IsExplained, IsSaid, IsValid, OnlyGrows, ReadAnswer, answer_name, committed_after, committed_before, look_by, look_of, place_name, same_name, state_at}
use Rattle.craq_seat.specs.Calls.{Called}
use Rattle.craq_seat.specs.Merge.{MergedStep}
use Rattle.craq_causality.proofs.Orders.{IsIn, from_contains, to_contains}
use Rattle.craq_causality.proofs.Walk.{taken_among}
use Rattle.craq_store_history.specs.declared.entry.HistoryEntry.{HistoryEntry}
use Rattle.craq_store_history.specs.Entries.{lines_in, members_in}
use Rattle.craq_store_history.proofs.Lines.{lines_prefix}
use Rattle.craq_running_promise.specs.Standing.{AnswersAsOneCopy, AnswersByMode, HasChain, HasMoves, IsCallInRun, IsOperationOf, Operation, IsCallInHistory, explanation_of_chain, reply_at, run_in, updates_of_chain, view_of_chain}
use Rattle.craq_running_promise.proofs.Seen.{is_call}
use Rattle.craq_running_promise.proofs.Standing.{has_explanation, no_longer, stands}
use Rattle.craq_merge.proofs.Positions.{as_many, grown_to, same_some}

-- ---- lists

passes : {X : Type 0} (test : X → Bool) (xs : List X) (x : X) → IsIn xs x → test x ≡ true → IsIn (filter test xs) x
passes test [] x i h = absurd i
passes {X} test (y ∷ ys) x (inl e) h =
    cond_both (test y) (y ∷ filter test ys) (filter test ys) (λ (zs : List X). IsIn zs x) (λ b. inl e) (λ b. let c : test y ≡ true = ap test e ∙ h in cc)
passes {X} test (y ∷ ys) x (inr i) h =
    cond_both (test y) (y ∷ filter test ys) (filter test ys) (λ (zs : List X). IsIn zs x) (λ b. inr (passes test ys x i h)) (λ b. passes test ys x i h)

-- an item of the second list that stands beside one of the first, with its name
record IsBeside {A B N : Type 0} (R : A → B → Type 0) (f : A → N) (g : B → N) (x : A) (ys : List B) : Type 0 where
  pub which : B
  pub there : IsIn ys which
  pub holds : R x which
  pub named : g which ≡ f x

head_name : {N : Type 0} (m n : N) (ms ns : List N) → m ∷ ms ≡ n ∷ ns → m ≡ n
head_name m n ms ns h = cc

tail_names : {N : Type 0} (m n : N) (ms ns : List N) → m ∷ ms ≡ n ∷ ns → ms ≡ ns
tail_names m n ms ns h = cc

zipped : {A B N : Type 0} (R : A → B → Type 0) (f : A → N) (g : B → N) (xs : List A) (ys : List B) (x : A) → AllZip R xs ys → map g ys ≡ map f xs → IsIn xs x → IsBeside R f g x ys
zipped R f g [] ys x z m i = absurd i
zipped R f g (a ∷ xs) [] x z m i = absurd z
zipped {A} {B} R f g (a ∷ xs) (b ∷ ys) x z m (inl e) =
    record { which = b; there = inl refl; holds = subst (λ (w : A). R w b) e z.0; named = head_name (g b) (f a) (map g ys) (map f xs) m ∙ ap f e }
zipped R f g (a ∷ xs) (b ∷ ys) x z m (inr i) =
    let t = zipped R f g xs ys x z.1 (tail_names (g b) (f a) (map g ys) (map f xs) m) i in
    record { which = t.which; there = inr t.there; holds = t.holds; named = t.named }

-- ---- the place of a strong reply

strong_reply : (ask : Asked) (answer : Answer) → is_strong_ask ask.ask ≡ true → is_strong_answer (Some ask) answer ≡ true
strong_reply ask (answers.Update reply) h = refl
strong_reply ask (answers.Read version value) h = h

-- the request and the reply of a call, as clients see them
abbrev request : NodeName → Ask → Called → ℕ → Asked
request node ask receipt move = record { move = move; node = node.node; ticket = Some receipt.call.ticket; ask = ask }

abbrev reply : NodeName → Called → ℕ → Answered
reply node receipt move = record { move = move; node = node.node; ticket = receipt.call.ticket; answer = receipt.answer }

abbrev point : ℕ → ℕ → ℕ → Place
point node ticket position = record { node = node; ticket = ticket; position = position }

is_named : (p : Place) (node ticket : ℕ) → place_name p ≡ (node, ticket) → p ≡ point node ticket p.position
is_named p node ticket h =
    let of_node : p.node ≡ node = ap (λ (n : ℕ × ℕ). n.0) h in
    let of_ticket : p.ticket ≡ ticket = ap (λ (n : ℕ × ℕ). n.1) h in
    rw (of_node, of_ticket) refl

-- the place of a strong reply in an explanation
pub record HasPlace (node : NodeName) (ask : Ask) (receipt : Called) (asked answered : ℕ) (s : Seen) (e : Explanation) : Type 0 where
  pub position : ℕ
  pub there : Contains e.places (point node.node receipt.call.ticket position)
  pub in_order : asked ≤ answered
  pub not_before : committed_before e asked ≤ position
  pub not_beyond : position ≤ committed_after e answered
  pub is_said : IsSaid (state_at s e position) ask receipt.answer

placed : (node : NodeName) (ask : Ask) (receipt : Called) (asked answered : ℕ) (run : Run) (e : Explanation) → IsCallInRun node ask receipt asked answered run → IsValid run e → is_strong_answer (Some (request node ask receipt asked)) receipt.answer ≡ true → HasPlace node ask receipt asked answered (seen run) e
unfolding strong_answers
placed node ask receipt asked answered run e c v strong =
    let s : Seen = seen run in
    let a : Answered = reply node receipt answered in
    let r : Asked = request node ask receipt asked in
    let test : Answered → Bool = λ x. is_strong_answer (ask_of s.asks x) x.answer in
    let is : test a ≡ true = subst (λ (o : Option Asked). is_strong_answer o receipt.answer ≡ true) (sym c.is_ask) strong in
    let p = zipped (IsExplained s e) answer_name place_name (filter test s.answers) e.places a v.checked.strong.explained v.checked.form.places (passes test s.answers a (from_contains s.answers a c.is_answer) is) in
    let same : p.holds.ask ≡ r = same_some p.holds.ask r (ask_of s.asks a) p.holds.is_ask c.is_ask in
    record {
      position = p.which.position;
      there = subst (λ (x : Place). Contains e.places x) (is_named p.which node.node receipt.call.ticket p.named) (to_contains e.places p.which p.there);
      in_order = subst (λ (x : Asked). x.move ≤ answered) same p.holds.asked_first;
      not_before = subst (λ (x : Asked). committed_before e x.move ≤ p.which.position) same p.holds.not_before;
      not_beyond = p.holds.not_beyond;
      is_said = subst (λ (x : Asked). IsSaid (state_at s e p.which.position) x.ask receipt.answer) same p.holds.is_said;
    }

same_members : (o : Option (List ℕ)) (xs ys : List ℕ) → o ≡ Some xs → o ≡ Some ys → xs ≡ ys
same_members o xs ys h k = cc

-- the moves of an operation whose request and reply stand in the history
moves_of : (o : Operation) (members : List ℕ) (log : List HistoryEntry) → HasChain o.node.chain members log → (s : IsCallInHistory o.old o.new o.node o.ask o.receipt log) → o.receipt.answer ≡ o.answer → HasMoves o members log
moves_of o members log h s is =
    let call : IsCallInRun o.node o.ask o.receipt (suc s.asked_place) (suc s.answered_place) (run_in o.node.chain s.members log) = is_call o.old o.new log o.node o.ask o.receipt s h.history h.few in
    let same : s.members ≡ members = same_members (members_in o.node.chain log) s.members members s.opened h.opened in
    let later = s.later in
    let by_then = s.by_then in
    record {
      asked = suc s.asked_place;
      answered = suc s.answered_place;
      is_call = subst (λ (ms : List ℕ). IsCallInRun o.node o.ask o.receipt (suc s.asked_place) (suc s.answered_place) (run_in o.node.chain ms log)) same call;
      is_answer = is;
      later = omega (arith, later);
      by_then = omega (arith, by_then);
    }

its_moves : (client : ℕ) (o : Operation) (members : List ℕ) (log : List HistoryEntry) → IsOperationOf client o → IsPrefix o.new log → HasChain o.node.chain members log → HasMoves o members log
its_moves client o members log w p h =
    let t = stands client o.old o.new log o.node o.ask o.answer o.receipt w p h.history in
    moves_of o members log h t.0 t.1

is_explained : (chain : ℕ) (members : List ℕ) (log : List HistoryEntry) → HasChain chain members log → IsValid (run_in chain members log) (explanation_of_chain chain members log)
is_explained chain members log h = (has_explanation log chain members h.history h.opened h.few).1

from_place : (o : Operation) (members : List ℕ) (log : List HistoryEntry) (m : HasMoves o members log)
    → HasPlace o.node o.ask o.receipt m.asked m.answered (view_of_chain o.node.chain members log) (explanation_of_chain o.node.chain members log) → AnswersAsOneCopy o members log
from_place o members log m p = record {
  moves = m;
  position = p.position;
  is_point = p.there;
  not_before = p.not_before;
  not_beyond = p.not_beyond;
  is_said = subst (λ (x : Answer). IsSaid (after (take p.position (updates_of_chain o.node.chain members log))) o.ask x) m.is_answer p.is_said;
}

pub one_copy : (client : ℕ) (o : Operation) (members : List ℕ) (log : List HistoryEntry) → IsOperationOf client o → IsPrefix o.new log → HasChain o.node.chain members log → is_strong_ask o.ask ≡ true → AnswersAsOneCopy o members log
one_copy client o members log w p h strong =
    let m = its_moves client o members log w p h in
    from_place o members log m
    (placed o.node o.ask o.receipt m.asked m.answered (run_in o.node.chain members log) (explanation_of_chain o.node.chain members log) m.is_call (is_explained o.node.chain members log h)
    (strong_reply (request o.node o.ask o.receipt m.asked) o.receipt.answer strong))

pub only_grows : (chain : ℕ) (members : List ℕ) (log : List HistoryEntry) → HasChain chain members log → OnlyGrows (view_of_chain chain members log) (explanation_of_chain chain members log)
only_grows chain members log h = (is_explained chain members log h).checked.list

pub one_reply : (chain : ℕ) (members : List ℕ) (log : List HistoryEntry) → HasChain chain members log → IsDistinct same_name (strong_answers (view_of_chain chain members log))
one_reply chain members log h = (is_explained chain members log h).checked.strong.once

-- ---- the reply to an eventual or bounded read

record IsRead (ask : Ask) (answer : Answer) : Type 0 where
  pub read : ReadAnswer
  pub is : look_by ask answer ≡ Some read

-- a reply to a read is no update's, since no single copy gives that
read_of : (move node : ℕ) (ticket : Option ℕ) (ask : Ask) (answer : Answer) → is_strong_ask ask ≡ false → (is_strong_answer (Some (record { move = move; node = node; ticket = ticket; ask = ask })) answer ≡ true → (state : State) × IsSaid state ask answer) → IsRead ask answer
read_of move node ticket (asks.Update u) answer weak said = absurd (cc)
read_of move node ticket (asks.Read mode object) (answers.Read version value) weak said = record { read = record { mode = mode; object = object; version = version; value = value }; is = refl }
read_of move node ticket (asks.Read mode object) (answers.Update reply) weak said = absurd (said refl).1

its_read : (o : Operation) (members : List ℕ) (log : List HistoryEntry) → HasMoves o members log → HasChain o.node.chain members log → is_strong_ask o.ask ≡ false → IsRead o.ask o.answer
its_read o members log m h weak =
    let s : Seen = view_of_chain o.node.chain members log in
    let e : Explanation = explanation_of_chain o.node.chain members log in
    let v = is_explained o.node.chain members log h in
    subst (λ (x : Answer). IsRead o.ask x) m.is_answer
    (read_of m.asked o.node.node (Some o.receipt.call.ticket) o.ask o.receipt.answer weak (λ strong.
    let p = placed o.node o.ask o.receipt m.asked m.answered (run_in o.node.chain members log) e m.is_call v strong in (state_at s e p.position, p.is_said)))

-- the read of a reply, by its request
look_is : (s : Seen) (a : Answered) (r : Asked) (read : ReadAnswer) → ask_of s.asks a ≡ Some r → look_by r.ask a.answer ≡ Some read → look_of s a ≡ Some read
unfolding look_of
look_is s a r read is by = ap (option_and_then (λ (x : Asked). look_by x.ask a.answer)) is ∙ by

pub by_mode : (client : ℕ) (o : Operation) (members : List ℕ) (log : List HistoryEntry) → IsOperationOf client o → IsPrefix o.new log → HasChain o.node.chain members log → is_strong_ask o.ask ≡ false → AnswersByMode o members log
by_mode client o members log w p h weak =
    let m = its_moves client o members log w p h in
    let r : IsRead o.ask o.answer = its_read o members log m h weak in
    let s : Seen = view_of_chain o.node.chain members log in
    let v = is_explained o.node.chain members log h in
    let a : Answered = reply_at o m.answered in
    record {
      moves = m;
      read = r.read;
      is_read = r.is;
      holds = λ earlier rest is. v.looks earlier rest a r.read is (look_is s a (request o.node o.ask o.receipt m.asked) r.read m.is_call.is_ask r.is);
    }

-- ---- the order of two replies

-- a reply comes before a request, so its prefix is no longer
pub ordered : (o next : Operation) (members : List ℕ) (log : List HistoryEntry) → HasChain o.node.chain members log → next.node.chain ≡ o.node.chain
    → (first : AnswersAsOneCopy o members log) (second : AnswersAsOneCopy next members log) → IsPrefix next.new log → first.moves.answered < second.moves.asked → first.position ≤ second.position
ordered o next members log h same first second q less =
    let chain : ℕ = o.node.chain in
    let e : Explanation = explanation_of_chain chain members log in
    let s : Seen = view_of_chain chain members log in
    let v : IsValid (run_in chain members log) e = is_explained chain members log h in
    let many : s.moves ≡ length (lines_in chain log) = as_many (lines_in chain log) (lines_in chain log) in
    let within : length (lines_in chain next.new) ≤ length (lines_in chain log) = no_longer (lines_in chain next.new) (lines_in chain log) (lines_prefix chain next.new log q) in
    let asked : ℕ = second.moves.asked in
    let in_turn = second.moves.is_call.in_order in
    let then_too : second.moves.answered ≤ length (lines_in chain next.new) = subst (λ (c : ℕ). second.moves.answered ≤ length (lines_in c next.new)) same second.moves.by_then in
    let low = first.not_beyond in
    let high : committed_before e asked ≤ second.position = subst (λ (c : ℕ). committed_before (explanation_of_chain c members log) asked ≤ second.position) same second.not_before in
    let mid : committed_after e first.moves.answered ≤ committed_after e (asked - 1) =
    grown_to s e first.moves.answered (asked - 1) v.checked.list (omega (arith, less)) (omega (arith, many, within, in_turn, then_too)) in
    omega (arith, low, mid, high)

pub no_older : (o next : Operation) (members : List ℕ) (log : List HistoryEntry) → HasChain o.node.chain members log → next.node.chain ≡ o.node.chain
    → (first : AnswersAsOneCopy o members log) (second : AnswersAsOneCopy next members log) → IsPrefix o.new next.old → IsPrefix next.new log → first.position ≤ second.position
no_older o next members log h same first second p q =
    let chain : ℕ = o.node.chain in
    let upto : length (lines_in chain o.new) ≤ length (lines_in chain next.old) = no_longer (lines_in chain o.new) (lines_in chain next.old) (lines_prefix chain o.new next.old p) in
    let earlier = first.moves.by_then in
    let later : length (lines_in chain next.old) < second.moves.asked = subst (λ (c : ℕ). length (lines_in c next.old) < second.moves.asked) same second.moves.later in
    ordered o next members log h same first second q (omega (arith, upto, earlier, later))
