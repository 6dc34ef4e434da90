-- The messages of moves, by number.
use Rattle.std.proofs.Common.{◌≡◌, ◌≤◌, ◌<◌, ◌+◌, ◌-◌, ◌++◌, ℕ, zero, suc, List, [], ◌∷◌, length, get_or, slice_index_or, Some, None, refl, sym, ap, subst, arith, ◌∙◌, length-append}
use Rattle.std.specs.Prelude.{slice_get}
use Rattle.std.specs.List.{AllByRecursion}
use Rattle.craq_model.specs.declared.message.LinkMessage.{LinkMessage}
use Rattle.craq_runs.specs.declared.run.Taken.{Taken}
use Rattle.craq_runs.specs.Chain.{sent_in, message_at}
use Rattle.craq_chain.specs.Sent.{counts_from, sent_by}

pub counts_long : (before : ℕ) (ts : List Taken) → length (counts_from before ts) ≡ length ts
counts_long before [] = refl
counts_long before (t ∷ ts) = ap suc (counts_long (before + length (sent_in t.step.outs)) ts)

-- counts ascend
rises : (before : ℕ) (ts : List Taken) (k : ℕ) → k ≤ length ts → before ≤ get_or (before ∷ counts_from before ts) k 0
rises before ts zero h = omega arith
rises before [] (suc k) h = absurd (omega (arith, h))
rises before (t ∷ ts) (suc k) h =
    let later = rises (before + length (sent_in t.step.outs)) ts k (omega (arith, h)) in omega (arith, later)

-- the message of an index, in a list of two parts
left_part : (xs ys : List LinkMessage) (i : ℕ) → i < length xs → slice_get (xs ++ ys) i ≡ slice_get xs i
left_part [] ys i h = absurd (omega (arith, h))
left_part (x ∷ xs) ys zero h = refl
left_part (x ∷ xs) ys (suc i) h = left_part xs ys i (omega (arith, h))

right_part : (xs ys : List LinkMessage) (i j : ℕ) → i ≡ length xs + j → slice_get (xs ++ ys) i ≡ slice_get ys j
right_part [] ys i j h = ap (λ n. slice_get ys n) (omega (arith, h))
right_part (x ∷ xs) ys zero j h = absurd (omega (arith, h))
right_part (x ∷ xs) ys (suc i) j h = right_part xs ys i j (omega (arith, h))

pub past_end : (xs : List LinkMessage) (i : ℕ) → length xs ≤ i → slice_get xs i ≡ None
past_end [] i h = refl
past_end (x ∷ xs) zero h = absurd (omega (arith, h))
past_end (x ∷ xs) (suc i) h = past_end xs i (omega (arith, h))

-- the last count is that of all
pub total : (before : ℕ) (ts : List Taken) → get_or (before ∷ counts_from before ts) (length ts) 0 ≡ before + length (sent_by ts)
total before [] = omega arith
total before (t ∷ ts) =
    let later = total (before + length (sent_in t.step.outs)) ts in
    later ∙ omega (arith, length-append (sent_in t.step.outs) (sent_by ts))

-- the message is in the first move whose count is above its index
pub found : (before k index : ℕ) (ts : List Taken) (t : Taken) → k < length ts → t ≡ slice_index_or ts k t → get_or (before ∷ counts_from before ts) k 0 ≤ index → index < get_or (counts_from before ts) k 0 → slice_get (sent_by ts) (index - before) ≡ slice_get (sent_in t.step.outs) (index - get_or (before ∷ counts_from before ts) k 0)
found before k index [] t h is low high = absurd (omega (arith, h))
found before zero index (u ∷ ts) t h is low high =
    left_part (sent_in u.step.outs) (sent_by ts) (index - before) (omega (arith, low, high)) ∙ rw is refl
found before (suc k) index (u ∷ ts) t h is low high =
    let next : before + length (sent_in u.step.outs) ≤ index = omega (arith, low, rises (before + length (sent_in u.step.outs)) ts k (omega (arith, h))) in
    right_part (sent_in u.step.outs) (sent_by ts) (index - before) (index - (before + length (sent_in u.step.outs))) (omega (arith, next))
    ∙ found (before + length (sent_in u.step.outs)) k index ts t (omega (arith, h)) is low high

-- the count before a move
pub count_before : (first : ℕ) (counts : List ℕ) (k : ℕ) → 0 < k → get_or (first ∷ counts) k 0 ≡ get_or counts (k - 1) 0
count_before first counts zero h = absurd (omega (arith, h))
count_before first counts (suc k) h = ap (λ n. get_or counts n 0) (omega arith)

pub numbered : (ms : List LinkMessage) (number : ℕ) → 0 < number → message_at ms number ≡ slice_get ms (number - 1)
numbered ms zero h = absurd (omega (arith, h))
numbered ms (suc i) h = ap (λ n. slice_get ms n) (omega arith)

low_at : (sent : List ℕ) (place index : ℕ) → (0 < place → get_or sent (place - 1) 0 ≤ index) → get_or (0 ∷ sent) place 0 ≤ index
low_at sent zero index h = omega arith
low_at sent (suc k) index h = let at = h (omega arith) in subst (λ n. n ≤ index) (sym (count_before 0 sent (suc k) (omega arith))) at

-- past the last move there is no message
pub none_of : (sent : List ℕ) (ts : List Taken) (place number : ℕ) → sent ≡ counts_from 0 ts → length ts ≤ place → place ≤ length sent → (0 < place → get_or sent (place - 1) 0 ≤ number - 1) → 0 < number → None ≡ message_at (sent_by ts) number
none_of sent ts place number is past within low from =
    let long : length sent ≡ length ts = ap length is ∙ counts_long 0 ts in
    let end : place ≡ length ts = omega arith in
    let below : get_or (0 ∷ sent) place 0 ≤ number - 1 = low_at sent place (number - 1) low in
    let all : get_or (0 ∷ counts_from 0 ts) (length ts) 0 ≤ number - 1 = subst (λ k. get_or (0 ∷ counts_from 0 ts) k 0 ≤ number - 1) end (subst (λ xs. get_or (0 ∷ xs) place 0 ≤ number - 1) is below) in
    sym (numbered (sent_by ts) number from ∙ past_end (sent_by ts) (number - 1) (omega (arith, all, total 0 ts)))

-- otherwise it is in the move of this place
pub some_of : (sent : List ℕ) (ts : List Taken) (t : Taken) (place number before : ℕ) → sent ≡ counts_from 0 ts → place < length ts → t ≡ slice_index_or ts place t → (0 < place → get_or sent (place - 1) 0 ≤ number - 1) → (place < length sent → number - 1 < get_or sent place 0) → before ≡ get_or (0 ∷ sent) place 0 → 0 < number → slice_get (sent_in t.step.outs) (number - 1 - before) ≡ message_at (sent_by ts) number
some_of sent ts t place number before is within at low high was from =
    let long : length sent ≡ length ts = ap length is ∙ counts_long 0 ts in
    let below : get_or (0 ∷ counts_from 0 ts) place 0 ≤ number - 1 = subst (λ xs. get_or (0 ∷ xs) place 0 ≤ number - 1) is (low_at sent place (number - 1) low) in
    let above : number - 1 < get_or (counts_from 0 ts) place 0 = subst (λ xs. number - 1 < get_or xs place 0) is (high (omega arith)) in
    let same : before ≡ get_or (0 ∷ counts_from 0 ts) place 0 = was ∙ ap (λ xs. get_or (0 ∷ xs) place 0) is in
    let here = found 0 place (number - 1) ts t within at below above in
    let index : number - 1 - 0 ≡ number - 1 = omega arith in
    sym (numbered (sent_by ts) number from ∙ ap (λ n. slice_get (sent_by ts) n) (sym index) ∙ here ∙ ap (λ n. slice_get (sent_in t.step.outs) (number - 1 - n)) (sym same))

each_message_at : (P : LinkMessage → Type 0) (ms : List LinkMessage) (i : ℕ) (m : LinkMessage) → AllByRecursion P ms → slice_get ms i ≡ Some m → P m
each_message_at P [] i m h e = cc
each_message_at P (x ∷ ms) zero m h e = let same : x ≡ m = cc in subst P same h.0
each_message_at P (x ∷ ms) (suc i) m h e = each_message_at P ms i m h.1 e

-- a property of each message holds of the message of a number
pub each_message : (P : LinkMessage → Type 0) (ms : List LinkMessage) (number : ℕ) (m : LinkMessage) → AllByRecursion P ms → message_at ms number ≡ Some m → P m
each_message P ms zero m h e = cc
each_message P ms (suc i) m h e = each_message_at P ms i m h e
