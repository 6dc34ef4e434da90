-- Messages arrive one after the other, and lead a chain from one property to another.
use Rattle.std.proofs.Common.{◌≡◌, ◌≢◌, ℕ, suc, ◌+◌, ◌≤◌, Bool, true, false, cond, List, [], ◌∷◌, ◌++◌, length, take, drop, append_assoc, append-nil, Some, Result, Ok, Err, refl, ap, sym, subst, ◌∙◌, arith}
use Rattle.std.proofs.lemmas.Bool.{cond_both}
use Rattle.std.proofs.lemmas.List.{length-append, take-append-drop}
use Rattle.std.specs.List.{AllByRecursion}
use Rattle.craq_names.specs.declared.refusal.Refusal.{Refusal}
use Rattle.craq_names.specs.declared.refusal.Refusal.TheVariants as refusals
use Rattle.craq_model.specs.declared.message.LinkMessage.{LinkMessage}
use Rattle.craq_model.specs.Plain.{Plain}
use Rattle.craq_refinement.specs.Lines.{IsFollowed}
use Rattle.craq_runs.specs.declared.run.Move.{Move}
use Rattle.craq_runs.specs.declared.run.Move.TheVariants.{Deliver}
use Rattle.craq_runs.specs.Chain.{Chain, Progress, chain_step, is_running, message_at, node_at}
use Rattle.craq_runs.specs.Runs.{after_move, progressed}
use Rattle.craq_recovery.specs.Recovered.{after_round}
use Rattle.craq_recovery.specs.Rounds.{after_moves_by, arrivals, arrivals_of, hops, round, ticks}
use Rattle.craq_recovery.specs.Taken.{HaveNumbers, IsTaken}
use Rattle.craq_recovery.proofs.Gains.{Goes, followed_moves, goes_move}
use Rattle.craq_recovery.proofs.Onward.{IsTravel, Onward, onward_move, onward_moves, onward_on, onward_self, sound_moves}
use Rattle.craq_recovery.proofs.Sound.{Sound, sound_move}
use Rattle.craq_recovery.proofs.Taking.{arrivals_travel, bears, deliver_taken, hop_travels, hops_travel, no_fewer, runs_on, sent_before, stands_at, ticks_travel}

-- ---- moves one after the other

pub after_both : (ms ns : List Move) (c : Chain) → after_moves_by after_move c (ms ++ ns) ≡ after_moves_by after_move (after_moves_by after_move c ms) ns
after_both [] ns c = refl
after_both (m ∷ ms) ns c = after_both ms ns (after_move c m)

pub numbers_both : (ms ns : List Move) (c : Chain) → HaveNumbers c (ms ++ ns) → HaveNumbers c ms × HaveNumbers (after_moves_by after_move c ms) ns
numbers_both [] ns c h = (tt, h)
numbers_both (m ∷ ms) ns c h = let r : _ = numbers_both ms ns (after_move c m) h.1 in ((h.0, r.0), r.1)

pub taken_ok : (r : Result Progress Refusal) → IsTaken r → r ≢ Err refusals.Exhausted → (x : Progress) × (r ≡ Ok x)
taken_ok (Ok x) h n = (x, refl)
taken_ok (Err e) h n = absurd (n (ap Err h))

-- ---- arrivals of two lists

one_more : (b : Bool) (first : Move) (all front back : List Move) → all ≡ front ++ back → cond b (first ∷ all) all ≡ cond b (first ∷ front) front ++ back
one_more true first all front back e = ap (λ l. first ∷ l) e
one_more false first all front back e = e

arrivals_both : (nodes : List Plain) (xs ys : List LinkMessage) (number : ℕ) → arrivals_of nodes number (xs ++ ys) ≡ arrivals_of nodes number xs ++ arrivals_of nodes (number + length xs) ys
arrivals_both nodes [] ys number = let same : number ≡ number + 0 = omega arith in ap (λ n. arrivals_of nodes n ys) same
arrivals_both nodes (x ∷ xs) ys number =
    let same : (number + 1) + length xs ≡ number + length (x ∷ xs) = omega arith in
    let rest : arrivals_of nodes (number + 1) (xs ++ ys) ≡ arrivals_of nodes (number + 1) xs ++ arrivals_of nodes (number + length (x ∷ xs)) ys =
    arrivals_both nodes xs ys (number + 1) ∙ ap (λ n. arrivals_of nodes (number + 1) xs ++ arrivals_of nodes n ys) same in
    one_more (is_running (node_at nodes x.receiver)) (Deliver number) (arrivals_of nodes (number + 1) (xs ++ ys)) (arrivals_of nodes (number + 1) xs) (arrivals_of nodes (number + length (x ∷ xs)) ys) rest

-- ---- properties of chains that ticks and arrivals preserve

abbrev pub Stays : (Chain → Type 0) → Type 0
Stays C = (d : Chain) (m : Move) → IsTravel m → C d → C (after_move d m)

pub stays_all : (C : Chain → Type 0) → Stays C → (ms : List Move) (d : Chain) → AllByRecursion IsTravel ms → C d → C (after_moves_by after_move d ms)
stays_all C stays [] d t s = s
stays_all C stays (m ∷ ms) d t s = stays_all C stays ms (after_move d m) t.1 (stays d m t.0 s)

-- the moves of a round keep E, in chains for which worlds of the protocol stand
abbrev pub Endures : (Chain → Type 0) → Type 0
Endures E = (m : Move) (d : Chain) → IsTravel m → IsFollowed d → E d → E (after_move d m)

pub endures_all : (E : Chain → Type 0) → Endures E → (ms : List Move) (d : Chain) → AllByRecursion IsTravel ms → IsFollowed d → E d → E (after_moves_by after_move d ms)
endures_all E endures [] d t f e = e
endures_all E endures (m ∷ ms) d t f e = let g : Goes d (after_move d m) = goes_move d m f in endures_all E endures ms (after_move d m) t.1 g.followed (endures m d t.0 f e)

-- ---- the effect of arrivals

-- the message's arrival leads a chain from E to F
abbrev pub Brings : (Chain → Type 0) → Chain → (Chain → Type 0) → (Chain → Type 0) → LinkMessage → Type 0
Brings C c E F m =
    (d : Chain) (number : ℕ) (x : Progress) → C d → Sound d → IsFollowed d → Onward c d → E d → message_at d.messages number ≡ Some m → chain_step d (Deliver number) ≡ Ok x → F x.0

-- these messages, arriving one after the other, lead a chain from E to F
abbrev pub BringAll : (Chain → Type 0) → Chain → (Chain → Type 0) → (Chain → Type 0) → List LinkMessage → Type 0
BringAll C c E F ms =
    (before rest : List LinkMessage) (number : ℕ) (d : Chain) → C d → Sound d → IsFollowed d → Onward c d → E d → before ++ (ms ++ rest) ≡ c.messages → number ≡ suc (length before)
    → HaveNumbers d (arrivals_of c.nodes number ms) → F (after_moves_by after_move d (arrivals_of c.nodes number ms))

module _ (C : Chain → Type 0) (stays : Stays C) (c : Chain) where
  -- a message arrives, if its receiver runs, and then the others do
  pub bring_more : (m : LinkMessage) (ms : List LinkMessage) (E G F : Chain → Type 0) → Brings C c E G m → ((d : Chain) → E d → is_running (node_at d.nodes m.receiver) ≡ false → G d) → BringAll C c G F ms → BringAll C c E F (m ∷ ms)
  bring_more m ms E G F brings skips then = λ before others number d s0 s f on e is at has.
      let next : Chain = after_move d (Deliver number) in
      let more : (before ++ m ∷ []) ++ (ms ++ others) ≡ c.messages = append_assoc before (m ∷ []) (ms ++ others) ∙ is in
      let up : number + 1 ≡ suc (length (before ++ m ∷ [])) = omega (arith, at, length-append before (m ∷ [])) in
      let rest : List Move = arrivals_of c.nodes (number + 1) ms in
      let there : message_at d.messages number ≡ Some m = stands_at c d before m (ms ++ others) number on is at in
      let goes : Goes d next = goes_move d (Deliver number) f in
      cond_both (is_running (node_at c.nodes m.receiver)) (Deliver number ∷ rest) rest (λ l. HaveNumbers d l → F (after_moves_by after_move d l))
      (λ r h.
      let ok : (x : Progress) × (chain_step d (Deliver number) ≡ Ok x) = taken_ok (chain_step d (Deliver number)) (deliver_taken d number m s there (bears d number m s there) (runs_on on m.receiver r)) h.0 in
      let G1 : Result Progress Refusal → Type 0 = λ r. G (progressed d r) in
      then (before ++ m ∷ []) others (number + 1) next (stays d (Deliver number) tt s0) (sound_move d (Deliver number) s) goes.followed (onward_on on (onward_move d (Deliver number) tt))
      (subst G1 (sym ok.1) (brings d number ok.0 s0 s f on e there ok.1)) more up h.1)
      (λ r h. then (before ++ m ∷ []) others (number + 1) d s0 s f on (skips d e (on.running m.receiver ∙ r)) more up h)
      has

  -- a message arrives that preserves the property
  pub bring_past : (m : LinkMessage) (ms : List LinkMessage) (E F : Chain → Type 0) → Endures E → BringAll C c E F ms → BringAll C c E F (m ∷ ms)
  bring_past m ms E F endures then =
      bring_more m ms E E F
      (λ d number x s0 s f on e there is. let E1 : Result Progress Refusal → Type 0 = λ r. E (progressed d r) in subst E1 is (endures (Deliver number) d tt f e))
      (λ d e stopped. e) then

  pub bring_lasts : (E : Chain → Type 0) (ms : List LinkMessage) → Endures E → BringAll C c E E ms
  bring_lasts E ms endures = λ before rest number d s0 s f on e is at has. endures_all E endures (arrivals_of c.nodes number ms) d (arrivals_travel c.nodes ms number) f e

  -- a property that ticks and arrivals preserve may be added
  pub bring_with : (ms : List LinkMessage) (E F H : Chain → Type 0) → Endures H → BringAll C c E F ms → BringAll C c (λ d. E d × H d) (λ d. F d × H d) ms
  bring_with ms E F H endures bring = λ before rest number d s0 s f on e is at has. (bring before rest number d s0 s f on e.0 is at has, bring_lasts H ms endures before rest number d s0 s f on e.1 is at has)

  pub bring_both : (xs ys : List LinkMessage) (E G F : Chain → Type 0) → BringAll C c E G xs → BringAll C c G F ys → BringAll C c E F (xs ++ ys)
  bring_both xs ys E G F first second = λ before others number d s0 s f on e is at has.
      let ms : List Move = arrivals_of c.nodes number xs in
      let ns : List Move = arrivals_of c.nodes (number + length xs) ys in
      let travel : AllByRecursion IsTravel ms = arrivals_travel c.nodes xs number in
      let whole : before ++ (xs ++ (ys ++ others)) ≡ c.messages = ap (λ l. before ++ l) (sym (append_assoc xs ys others)) ∙ is in
      let up : number + length xs ≡ suc (length (before ++ xs)) = omega (arith, at, length-append before xs) in
      let Then : List Move → Type 0 = λ l. HaveNumbers d l → F (after_moves_by after_move d l) in
      subst Then (sym (arrivals_both c.nodes xs ys number))
      (λ h.
      let n : HaveNumbers d ms × HaveNumbers (after_moves_by after_move d ms) ns = numbers_both ms ns d h in
      subst F (sym (after_both ms ns d))
      (second (before ++ xs) others (number + length xs) (after_moves_by after_move d ms) (stays_all C stays ms d travel s0) (sound_moves ms d s) (followed_moves ms d f) (onward_on on (onward_moves ms d travel))
      (first before (ys ++ others) number d s0 s f on e whole at n.0) (append_assoc before xs (ys ++ others) ∙ whole) up n.1))
      has

  -- all messages but the first `sent` arrive
  pub bring_hop : (sent : ℕ) (E F : Chain → Type 0) → BringAll C c E F (drop sent c.messages) → C c → Sound c → IsFollowed c → sent ≤ length c.messages → E c → HaveNumbers c (arrivals c sent)
      → F (after_moves_by after_move c (arrivals c sent))
  unfolding arrivals
  bring_hop sent E F bring s0 s f le e has =
      let new : List LinkMessage = drop sent c.messages in
      let is : take sent c.messages ++ (new ++ []) ≡ c.messages = ap (λ l. take sent c.messages ++ l) (append-nil new) ∙ take-append-drop sent c.messages in
      bring (take sent c.messages) [] (sent + 1) c s0 s f (onward_self c) e is (sent_before c.messages sent le) has

-- ---- a round

-- the chain after the ticks
abbrev pub ticked : Chain → Chain
ticked c = after_moves_by after_move c (ticks c)

-- the messages sent since
abbrev pub news : Chain → Chain → List LinkMessage
news c d = drop (length c.messages) d.messages

-- they arrive
abbrev pub hopped : Chain → Chain → Chain
hopped c d = after_moves_by after_move d (arrivals d (length c.messages))

pub ticks_onward : (c : Chain) → Onward c (ticked c)
ticks_onward c = onward_moves (ticks c) c (tt, ticks_travel c.nodes c.members)

module _ (C : Chain → Type 0) (stays : Stays C) (F : Chain → Type 0) (lasts : Endures F) where
  rest_lasts : (count sent : ℕ) (d : Chain) → IsFollowed d → F d → F (after_moves_by after_move d (hops after_move count sent d))
  rest_lasts count sent d f h = endures_all F lasts (hops after_move count sent d) d (hops_travel count sent d) f h

  arrive : (c d : Chain) (count : ℕ) → C d → Sound d → IsFollowed d → HaveNumbers d (hops after_move (suc count) (length c.messages) d)
      → (HaveNumbers d (arrivals d (length c.messages)) → C (hopped c d) → Sound (hopped c d) → IsFollowed (hopped c d) → Onward d (hopped c d) → HaveNumbers (hopped c d) (hops after_move count (length d.messages) (hopped c d)) → F (after_moves_by after_move (hopped c d) (hops after_move count (length d.messages) (hopped c d))))
      → F (after_moves_by after_move d (hops after_move (suc count) (length c.messages) d))
  arrive c d count s0 s f numbers then =
      let ms : List Move = arrivals d (length c.messages) in
      let rest : List Move = hops after_move count (length d.messages) (hopped c d) in
      let n : HaveNumbers d ms × HaveNumbers (hopped c d) rest = numbers_both ms rest d numbers in
      let travel : AllByRecursion IsTravel ms = hop_travels d (length c.messages) in
      subst F (sym (after_both ms rest d)) (then n.0 (stays_all C stays ms d travel s0) (sound_moves ms d s) (followed_moves ms d f) (onward_moves ms d travel) n.1)

  begin : (c : Chain) (count : ℕ) → C c → Sound c → IsFollowed c → HaveNumbers c (round after_move count c)
      → (HaveNumbers c (ticks c) → C (ticked c) → Sound (ticked c) → IsFollowed (ticked c) → HaveNumbers (ticked c) (hops after_move count (length c.messages) (ticked c)) → F (after_moves_by after_move (ticked c) (hops after_move count (length c.messages) (ticked c))))
      → F (after_round count c)
  unfolding round
  begin c count s0 s f numbers then =
      let ms : List Move = ticks c in
      let rest : List Move = hops after_move count (length c.messages) (ticked c) in
      let n : HaveNumbers c ms × HaveNumbers (ticked c) rest = numbers_both ms rest c numbers in
      let travel : AllByRecursion IsTravel ms = (tt, ticks_travel c.nodes c.members) in
      subst F (sym (after_both ms rest c)) (then n.0 (stays_all C stays ms c travel s0) (sound_moves ms c s) (followed_moves ms c f) n.1)

  -- the messages of the ticks lead to F
  pub round_brings : (count : ℕ) (c : Chain) (E : Chain → Type 0) → C c → Sound c → IsFollowed c → HaveNumbers c (round after_move (suc count) c) → E (ticked c)
      → (HaveNumbers c (ticks c) → BringAll C (ticked c) E F (news c (ticked c))) → F (after_round (suc count) c)
  round_brings count c E s0 s f numbers e bring =
      begin c (suc count) s0 s f numbers
      (λ n s1 t1 f1 n1. arrive c (ticked c) count s1 t1 f1 n1
      (λ h s2 t2 f2 on n2. rest_lasts count (length (ticked c).messages) (hopped c (ticked c)) f2
      (bring_hop C stays (ticked c) (length c.messages) E F (bring n) s1 t1 f1 (no_fewer (ticks_onward c)) e h)))

  -- the messages of the ticks lead to G, and those sent then lead to F
  pub two_hops_bring : (count : ℕ) (c : Chain) (E G : Chain → Type 0) → C c → Sound c → IsFollowed c → HaveNumbers c (round after_move (suc (suc count)) c) → E (ticked c)
      → (HaveNumbers c (ticks c) → BringAll C (ticked c) E G (news c (ticked c)))
      → ((d : Chain) → C d → Sound d → IsFollowed d → Onward (ticked c) d → G d → HaveNumbers d (arrivals d (length (ticked c).messages)) → F (hopped (ticked c) d)) → F (after_round (suc (suc count)) c)
  two_hops_bring count c E G s0 s f numbers e bring then =
      begin c (suc (suc count)) s0 s f numbers
      (λ n s1 t1 f1 n1. arrive c (ticked c) (suc count) s1 t1 f1 n1
      (λ h s2 t2 f2 on n2. arrive (ticked c) (hopped c (ticked c)) count s2 t2 f2 n2
      (λ k s3 t3 f3 on3 n3. rest_lasts count (length (hopped c (ticked c)).messages) (hopped (ticked c) (hopped c (ticked c))) f3
      (then (hopped c (ticked c)) s2 t2 f2 on (bring_hop C stays (ticked c) (length c.messages) E G (bring n) s1 t1 f1 (no_fewer (ticks_onward c)) e h) k))))
