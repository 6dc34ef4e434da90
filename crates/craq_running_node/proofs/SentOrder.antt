-- Messages that are sent one after another.
use Rattle.std.proofs.Common.{◌≡◌, ◌≤◌, ◌<◌, ◌+◌, ◌^◌, ◌++◌, ◌∙◌, ℕ, List, [], ◌∷◌, length, length-append, get_or, drop, true, false, refl, sym, ap, subst, arith}
use Rattle.std.specs.List.{AllByRecursion}
use Rattle.std.proofs.lemmas.List.{drop_all, drop_more}
use Rattle.craq_model.specs.declared.message.LinkMessage.{LinkMessage}
use Rattle.craq_model.specs.declared.ask.Answer.{Answer}
use Rattle.craq_model.specs.declared.step.Out.{Out}
use Rattle.craq_model.specs.declared.step.Out.TheVariants as outs
use Rattle.craq_model.specs.Encodable.{IsEncodable}
use Rattle.craq_runs.specs.Chain.{sent_in}
use Rattle.craq_seat.specs.declared.journal.Receipt.{Receipt}
use Rattle.craq_seat.specs.Numbered.{named, numbered_from}
use Rattle.craq_running_node.specs.declared.encoding.Sent.{Sent}
use Rattle.craq_running_node.specs.Encoded.{Adds, AreSentAs, CanAdd, IsSentAs, brings_from, entries_from}

-- these are sent as the first of the messages, and the rest is to come
abbrev pub Begins : List Sent → List LinkMessage → List LinkMessage → Type 0
Begins [] all rest = all ≡ rest
Begins (s ∷ ss) [] rest = ⊥
Begins (s ∷ ss) (m ∷ all) rest = IsSentAs s m × Begins ss all rest

more : (ss : List Sent) (all rest : List LinkMessage) (s : Sent) (m : LinkMessage) → Begins ss all (m ∷ rest) → IsSentAs s m → Begins (ss ++ s ∷ []) all rest
more [] all rest s m is one = rw is (one, refl)
more (x ∷ ss) [] rest s m is one = is
more (x ∷ ss) (a ∷ all) rest s m (first, is) one = (first, more ss all rest s m is one)

whole : (ss : List Sent) (all : List LinkMessage) → Begins ss all [] → AreSentAs ss all
whole [] all is = rw is tt
whole (s ∷ ss) [] is = is
whole (s ∷ ss) (m ∷ all) (first, is) = (first, whole ss all is)

-- the messages of all outs but these last ones are sent; those of the rest are few, and can be encoded
pub record Goes (receipt : Receipt) (all : List Out) (sent : List Sent) (rest : List Out) : Type 0 where
  pub begun : Begins sent (numbered_from 0 receipt (sent_in all)) (numbered_from (length sent) receipt (sent_in rest))
  pub few : length sent + length (sent_in rest) ≤ 2 ^ 32
  pub spelled : AllByRecursion IsEncodable (numbered_from (length sent) receipt (sent_in rest))

-- the first of the rest
next : (receipt : Receipt) (all : List Out) (sent : List Sent) (i : ℕ) (out : Out) → Goes receipt all sent (drop i all) → i < length all → out ≡ get_or all i out → Goes receipt all sent (out ∷ drop (i + 1) all)
next receipt all sent i out h below is =
    subst (λ (rest : List Out). Goes receipt all sent rest) (drop_more all i out below ∙ ap (λ (o : Out). o ∷ drop (i + 1) all) (sym is)) h

first_sent : (receipt : Receipt) (all rest : List Out) (sent : List Sent) (to : ℕ) (m : LinkMessage) (s : Sent) → Goes receipt all sent (outs.Send to m ∷ rest) → IsSentAs s (named receipt (length sent) m) → Goes receipt all (sent ++ s ∷ []) rest
unfolding sent_in
first_sent receipt all rest sent to m s h one =
    let n : length (sent ++ s ∷ []) ≡ length sent + 1 = length-append sent (s ∷ []) in
    let few = h.few in
    record {
      begun = rw n (more sent (numbered_from 0 receipt (sent_in all)) (numbered_from (length sent + 1) receipt (sent_in rest)) s (named receipt (length sent) m) h.begun one);
      few = omega (arith, n, few);
      spelled = rw n h.spelled.1;
    }

first_answered : (receipt : Receipt) (all rest : List Out) (sent : List Sent) (ticket : ℕ) (answer : Answer) → Goes receipt all sent (outs.Answer ticket answer ∷ rest) → Goes receipt all sent rest
unfolding sent_in
first_answered receipt all rest sent ticket answer h = record { begun = h.begun; few = h.few; spelled = h.spelled }

added : (receipt : Receipt) (all rest : List Out) (old new : List Sent) (out : Out) → Goes receipt all old (out ∷ rest) → Adds receipt old new out → Goes receipt all new rest
added receipt all rest old new (outs.Send to m) h (s, is, one) = subst (λ (sent : List Sent). Goes receipt all sent rest) (sym is) (first_sent receipt all rest old to m s h one)
added receipt all rest old new (outs.Answer ticket answer) h is = subst (λ (sent : List Sent). Goes receipt all sent rest) (sym is) (first_answered receipt all rest old ticket answer h)

first_can : (receipt : Receipt) (all rest : List Out) (sent : List Sent) (out : Out) → Goes receipt all sent (out ∷ rest) → CanAdd receipt (length sent) out
unfolding sent_in
first_can receipt all rest sent (outs.Send to m) h = (let few = h.few in omega (arith, few), h.spelled.0)
first_can receipt all rest sent (outs.Answer ticket answer) h = tt

pub can_add : (receipt : Receipt) (all : List Out) (sent : List Sent) (i : ℕ) (out : Out) → Goes receipt all sent (drop i all) → i < length all → out ≡ get_or all i out → CanAdd receipt (length sent) out
can_add receipt all sent i out h below is = first_can receipt all (drop (i + 1) all) sent out (next receipt all sent i out h below is)

pub adds_next : (receipt : Receipt) (all : List Out) (old new : List Sent) (i : ℕ) (out : Out) → Goes receipt all old (drop i all) → i < length all → out ≡ get_or all i out → Adds receipt old new out → Goes receipt all new (drop (i + 1) all)
adds_next receipt all old new i out h below is adds = added receipt all (drop (i + 1) all) old new out (next receipt all old i out h below is) adds

pub begins : (receipt : Receipt) (all : List Out) (sent : List Sent) → sent ≡ [] → length (sent_in all) ≤ 2 ^ 32 → AllByRecursion IsEncodable (numbered_from 0 receipt (sent_in all)) → Goes receipt all sent all
begins receipt all sent none few spelled =
    let count : length {A = Sent} [] + length (sent_in all) ≤ 2 ^ 32 = omega (arith, few) in
    subst (λ (first : List Sent). Goes receipt all first all) (sym none) (record { begun = refl; few = count; spelled = spelled })

pub all_sent : (receipt : Receipt) (all : List Out) (sent : List Sent) (i : ℕ) → Goes receipt all sent (drop i all) → length all ≤ i → AreSentAs sent (numbered_from 0 receipt (sent_in all))
unfolding sent_in
all_sent receipt all sent i h end =
    let g : Goes receipt all sent [] = subst (λ (rest : List Out). Goes receipt all sent rest) (drop_all i all end) h in
    whole sent (numbered_from 0 receipt (sent_in all)) g.begun

-- those messages of all outs but these last ones that bring entries are sent; the next message of the outs has this index
pub record Brings (first : ℕ) (receipt : Receipt) (all : List Out) (sent : List Sent) (index : ℕ) (rest : List Out) : Type 0 where
  pub begun : Begins sent (entries_from first (numbered_from 0 receipt (sent_in all))) (entries_from first (numbered_from index receipt (sent_in rest)))
  pub few : index + length (sent_in rest) ≤ 2 ^ 32
  pub spelled : AllByRecursion IsEncodable (numbered_from index receipt (sent_in rest))

brings_first : (first : ℕ) (receipt : Receipt) (all : List Out) (sent : List Sent) (index i : ℕ) (out : Out) → Brings first receipt all sent index (drop i all) → i < length all → out ≡ get_or all i out → Brings first receipt all sent index (out ∷ drop (i + 1) all)
brings_first first receipt all sent index i out h below is =
    subst (λ (rest : List Out). Brings first receipt all sent index rest) (drop_more all i out below ∙ ap (λ (o : Out). o ∷ drop (i + 1) all) (sym is)) h

next_is : (first : ℕ) (receipt : Receipt) (all : List Out) (sent : List Sent) (index i to : ℕ) (out : Out) (m : LinkMessage)
    → Brings first receipt all sent index (drop i all) → i < length all → out ≡ get_or all i out → out ≡ outs.Send to m → Brings first receipt all sent index (outs.Send to m ∷ drop (i + 1) all)
next_is first receipt all sent index i to out m h below at is =
    subst (λ (o : Out). Brings first receipt all sent index (o ∷ drop (i + 1) all)) is (brings_first first receipt all sent index i out h below at)

-- the message of the next out has an index, and can be encoded
brings_index : (first : ℕ) (receipt : Receipt) (all rest : List Out) (sent : List Sent) (index to : ℕ) (m : LinkMessage) → Brings first receipt all sent index (outs.Send to m ∷ rest) → (index < 2 ^ 32) × IsEncodable (named receipt index m)
unfolding sent_in
brings_index first receipt all rest sent index to m h = (let few = h.few in omega (arith, few), h.spelled.0)

-- it brings entries, and is sent
brings_sent : (first : ℕ) (receipt : Receipt) (all rest : List Out) (sent : List Sent) (index to : ℕ) (m : LinkMessage) (s : Sent) → Brings first receipt all sent index (outs.Send to m ∷ rest) → brings_from first m.body ≡ true → IsSentAs s (named receipt index m) → Brings first receipt all (sent ++ s ∷ []) (index + 1) rest
unfolding sent_in
brings_sent first receipt all rest sent index to m s h is one =
    let few = h.few in
    let begun = rw is at h.begun in
    record {
      begun = more sent (entries_from first (numbered_from 0 receipt (sent_in all))) (entries_from first (numbered_from (index + 1) receipt (sent_in rest))) s (named receipt index m) begun one;
      few = omega (arith, few);
      spelled = h.spelled.1;
    }

-- it brings none, and is left out
brings_left : (first : ℕ) (receipt : Receipt) (all rest : List Out) (sent : List Sent) (index to : ℕ) (m : LinkMessage) → Brings first receipt all sent index (outs.Send to m ∷ rest) → brings_from first m.body ≡ false → Brings first receipt all sent (index + 1) rest
unfolding sent_in
brings_left first receipt all rest sent index to m h is =
    let few = h.few in
    record { begun = rw is at h.begun; few = omega (arith, few); spelled = h.spelled.1 }

-- an answer is no message
brings_answered : (first : ℕ) (receipt : Receipt) (all rest : List Out) (sent : List Sent) (index ticket : ℕ) (answer : Answer) → Brings first receipt all sent index (outs.Answer ticket answer ∷ rest) → Brings first receipt all sent index rest
unfolding sent_in
brings_answered first receipt all rest sent index ticket answer h = record { begun = h.begun; few = h.few; spelled = h.spelled }

-- the next out is a message that brings entries, and it is sent
pub next_sent : (first : ℕ) (receipt : Receipt) (all : List Out) (old new : List Sent) (index i to : ℕ) (out : Out) (m : LinkMessage) (s : Sent)
    → Brings first receipt all old index (drop i all) → i < length all → out ≡ get_or all i out → out ≡ outs.Send to m → brings_from first m.body ≡ true → IsSentAs s (named receipt index m) → new ≡ old ++ s ∷ []
    → Brings first receipt all new (index + 1) (drop (i + 1) all)
next_sent first receipt all old new index i to out m s h below at is brings one same =
    subst (λ (ss : List Sent). Brings first receipt all ss (index + 1) (drop (i + 1) all)) (sym same)
    (brings_sent first receipt all (drop (i + 1) all) old index to m s (next_is first receipt all old index i to out m h below at is) brings one)

-- it is a message that brings none, and it is left out
pub next_left : (first : ℕ) (receipt : Receipt) (all : List Out) (sent : List Sent) (index i to : ℕ) (out : Out) (m : LinkMessage)
    → Brings first receipt all sent index (drop i all) → i < length all → out ≡ get_or all i out → out ≡ outs.Send to m → brings_from first m.body ≡ false → Brings first receipt all sent (index + 1) (drop (i + 1) all)
next_left first receipt all sent index i to out m h below at is none =
    brings_left first receipt all (drop (i + 1) all) sent index to m (next_is first receipt all sent index i to out m h below at is) none

-- it is an answer
pub next_answered : (first : ℕ) (receipt : Receipt) (all : List Out) (sent : List Sent) (index i ticket : ℕ) (out : Out) (answer : Answer)
    → Brings first receipt all sent index (drop i all) → i < length all → out ≡ get_or all i out → out ≡ outs.Answer ticket answer → Brings first receipt all sent index (drop (i + 1) all)
next_answered first receipt all sent index i ticket out answer h below at is =
    brings_answered first receipt all (drop (i + 1) all) sent index ticket answer
    (subst (λ (o : Out). Brings first receipt all sent index (o ∷ drop (i + 1) all)) is (brings_first first receipt all sent index i out h below at))

-- and a message has an index, and can be encoded under it
pub next_index : (first : ℕ) (receipt : Receipt) (all : List Out) (sent : List Sent) (index i to : ℕ) (out : Out) (m : LinkMessage)
    → Brings first receipt all sent index (drop i all) → i < length all → out ≡ get_or all i out → out ≡ outs.Send to m → (index < 2 ^ 32) × IsEncodable (named receipt index m)
next_index first receipt all sent index i to out m h below at is =
    brings_index first receipt all (drop (i + 1) all) sent index to m (next_is first receipt all sent index i to out m h below at is)

-- no out is looked at yet
pub brings_begin : (first : ℕ) (receipt : Receipt) (all : List Out) (sent : List Sent) → sent ≡ [] → length (sent_in all) ≤ 2 ^ 32 → AllByRecursion IsEncodable (numbered_from 0 receipt (sent_in all)) → Brings first receipt all sent 0 all
brings_begin first receipt all sent none few spelled =
    let count : 0 + length (sent_in all) ≤ 2 ^ 32 = omega (arith, few) in
    subst (λ (s : List Sent). Brings first receipt all s 0 all) (sym none) (record { begun = refl; few = count; spelled = spelled })

-- all outs are looked at
pub all_brought : (first : ℕ) (receipt : Receipt) (all : List Out) (sent : List Sent) (index i : ℕ) → Brings first receipt all sent index (drop i all) → length all ≤ i → AreSentAs sent (entries_from first (numbered_from 0 receipt (sent_in all)))
unfolding sent_in
all_brought first receipt all sent index i h end =
    let g : Brings first receipt all sent index [] = subst (λ (rest : List Out). Brings first receipt all sent index rest) (drop_all i all end) h in
    whole sent (entries_from first (numbered_from 0 receipt (sent_in all))) g.begun
