-- The replies to clients in a run, move by move.
use Rattle.std.proofs.Common.{◌≡◌, ◌⊎◌, inl, inr, ℕ, suc, ◌+◌, ◌≤◌, ◌==◌, List, [], ◌∷◌, ◌++◌, map, length, slice_index, Option, Some, Ok, refl, ap, sym, subst, ◌∙◌, arith, append-nil}
use Rattle.std.specs.List.{AllByRecursion, AllZip}
use Rattle.std.proofs.lemmas.Bool.{cond_both}
use Rattle.std.proofs.lemmas.List.{map-append}
use Rattle.std.proofs.lemmas.List.Elements.{filter-append}
use Rattle.craq_names.proofs.Lists.{all_append, all_like}
use Rattle.craq_commands.specs.declared.entry.Entry.{Entry}
use Rattle.craq_model.specs.declared.message.LinkMessage.{LinkMessage}
use Rattle.craq_model.specs.declared.step.Out.{Out}
use Rattle.craq_model.specs.declared.step.Out.TheVariants as outs
use Rattle.craq_model.specs.declared.step.Step.{Step}
use Rattle.craq_model.specs.declared.waiting.WaitingUpdate.{WaitingUpdate}
use Rattle.craq_model.specs.declared.waiting.WaitingRead.{WaitingRead}
use Rattle.craq_model.specs.Plain.{Plain, opening_member}
use Rattle.craq_protocol.specs.Machine.{MachineState, initial_state}
use Rattle.craq_protocol.specs.Promises.{IsPrefix, Later}
use Rattle.craq_runs.specs.declared.explanation.Place.{Place}
use Rattle.craq_runs.specs.declared.run.Move.{Move}
use Rattle.craq_runs.specs.declared.run.Run.{Run}
use Rattle.craq_runs.specs.declared.run.Taken.{Taken}
use Rattle.craq_runs.specs.Chain.{Chain, Progress, node_at, sent_in, config_to, chain_step}
use Rattle.craq_runs.specs.Seen.{Asked, Answered, answers_in, receivers_in, is_strong_answer, ask_of}
use Rattle.craq_runs.specs.Explain.{Account, opening_account, account_with, places_of, tail_word}
use Rattle.craq_runs.specs.Typed.{IsMoveOfType, IsTypedRunOf}
use Rattle.craq_updates.proofs.EachMove.{place_of}
use Rattle.craq_updates.proofs.Places.{AtNode, AtMaster, happens_at}
use Rattle.craq_updates.proofs.Lens.{AreLens}
use Rattle.craq_updates.proofs.Updates.{numbers_of}
use Rattle.craq_updates.proofs.Known.{Known}
use Rattle.craq_updates.proofs.Accounts.{KnownNext, next_account, known_after, moves_counted}
use Rattle.craq_updates.proofs.Runs.{opening_known}
use Rattle.craq_strong_answers.proofs.Outs.{AllReported}
use Rattle.craq_strong_answers.proofs.Stands.{PendingUpdate, PendingRead}
use Rattle.craq_strong_answers.proofs.Stays.{GoesOn}
use Rattle.craq_strong_answers.proofs.Served.{RequestsServed, goes_on}
use Rattle.craq_strong_answers.proofs.Answering.{Answered as IsAnswered, Questions, Versions}
use Rattle.craq_strong_answers.proofs.Serving.{ServedNext, served_next, next_chain, position_in}
use Rattle.craq_strong_answers.proofs.Placed.{Explains, HasAsk, strong_of, after_move, zip_stays, strong_stays, step_places}
use Rattle.craq_strong_answers.proofs.Times.{times, times_nil, update_tickets, read_tickets, open_of}
use Rattle.craq_strong_answers.proofs.Once.{Once, given_at, once_at_node, once_at_master}

pub record Clients (a : Account) (w : MachineState Entry) (receivers : List ℕ) (given : List Answered) : Type 0 where
  pub known : Known a w
  pub served : RequestsServed a w
  pub received : receivers ≡ map (λ (m : LinkMessage). m.receiver) a.chain.messages
  pub asked : AllByRecursion (HasAsk a.asks) given
  pub placed : AllZip (Explains a) (strong_of a.asks given) a.places
  pub once : (id : ℕ) → Once a.chain.nodes id given

-- the receivers of outputs
sent_to : (b : Account) (v : MachineState Entry) (position : List ℕ → ℕ) (id : ℕ) (os : List Out) → AllReported (IsAnswered b v position id) (Questions b) (Versions b v) os → receivers_in os ≡ map (λ (m : LinkMessage). m.receiver) (sent_in os)
unfolding receivers_in sent_in
sent_to b v position id [] a = refl
sent_to b v position id (outs.Send to m ∷ os) a = λ i. a.0.0 i ∷ sent_to b v position id os a.1 i
sent_to b v position id (outs.Answer ticket answer ∷ os) a = sent_to b v position id os a.1

messages_after : (c : Chain) (chosen : Move) (x : Progress) → AtNode c chosen x ⊎ AtMaster c chosen x → x.0.messages ≡ c.messages ++ sent_in x.1.outs
messages_after c chosen x (inl h) = ap (λ (y : Progress). y.0.messages) h.is ∙ ap (λ (y : Progress). c.messages ++ sent_in y.1.outs) (sym h.is)
messages_after c chosen x (inr m) = m.messages

no_answers : (number id : ℕ) (next : Chain) (tos : List ℕ) → answers_in number id (map (config_to next) tos) ≡ []
unfolding answers_in
no_answers number id next [] = refl
no_answers number id next (to ∷ tos) = no_answers number id next tos

once_after : (c : Chain) (t : Taken) (x : Progress) (number id : ℕ) (given : List Answered) → x.1 ≡ t.step → AtNode c t.chosen x ⊎ AtMaster c t.chosen x → Once c.nodes id given
    → Once x.0.nodes id (given ++ answers_in number (place_of c t.chosen) t.step.outs)
once_after c t x number id given same (inl h) o =
    let P : Step → Type 0 = λ s. Once x.0.nodes id (given ++ answers_in number (place_of c t.chosen) s.outs) in
    subst P (ap (λ (y : Progress). y.1) (sym h.is) ∙ same) (once_at_node h number id given o)
once_after c t x number id given same (inr m) o =
    let outs : t.step.outs ≡ map (config_to m.next) m.tos = ap (λ (s : Step). s.outs) (sym same) ∙ m.outs in
    let none : answers_in number (place_of c t.chosen) t.step.outs ≡ [] = ap (answers_in number (place_of c t.chosen)) outs ∙ no_answers number (place_of c t.chosen) m.next m.tos in
    let P : List Answered → Type 0 = λ l. Once x.0.nodes id l in
    subst P (sym (ap (λ l. given ++ l) none ∙ append-nil given)) (once_at_master m id given o)

zip_append : {A B : Type 0} (R : A → B → Type 0) (xs : List A) (ys : List B) (us : List A) (vs : List B) → AllZip R xs ys → AllZip R us vs → AllZip R (xs ++ us) (ys ++ vs)
zip_append R [] [] us vs z y = y
zip_append R [] (b ∷ ys) us vs z y = absurd z
zip_append R (a ∷ xs) [] us vs z y = absurd z
zip_append R (a ∷ xs) (b ∷ ys) us vs z y = (z.0, zip_append R xs ys us vs z.1 y)

-- the committed list grows
pub committed_grows : {a b : Account} {w v : MachineState Entry} → Known a w → Known b v → Later w v → IsPrefix a.committed b.committed
committed_grows {a} {b} {w} {v} k n later =
    let P : List Entry → Type 0 = λ l. IsPrefix a.committed l in
    let Q : List Entry → Type 0 = λ l. IsPrefix l v.log in
    subst P (sym n.committed) (subst Q (sym k.committed) later.log)

-- the replies of a move
abbrev pub new_answers : Account → Taken → List Answered
new_answers a t = answers_in (a.chain.moves + 1) (place_of a.chain t.chosen) t.step.outs

-- one more move
pub record ClientsNext (a : Account) (t : Taken) (x : Progress) (w : MachineState Entry) (receivers : List ℕ) (given : List Answered) : Type 0 where
  pub world : MachineState Entry
  pub later : Later w world
  pub goes : GoesOn a (next_account a t x) w world
  pub reported : AllReported (IsAnswered (next_account a t x) world (position_in a t x) (place_of a.chain t.chosen)) (Questions (next_account a t x)) (Versions (next_account a t x) world) t.step.outs
  pub clients : Clients (next_account a t x) world (receivers ++ receivers_in t.step.outs) (given ++ new_answers a t)

next_places : (a : Account) (t : Taken) (x : Progress) → (next_account a t x).places
    ≡ a.places ++ places_of (next_account a t x).asks (next_account a t x).pending (next_account a t x).committed (node_at a.chain.nodes (place_of a.chain t.chosen)) (tail_word a t.chosen) (new_answers a t)
unfolding account_with
next_places a t x = refl

pub clients_next : (a : Account) (w : MachineState Entry) (t : Taken) (x : Progress) (receivers : List ℕ) (given : List Answered) → Clients a w receivers given → chain_step a.chain t.chosen ≡ Ok x → x.1 ≡ t.step → IsMoveOfType t.chosen
    → ClientsNext a t x w receivers given
clients_next a w t x receivers given c does same type =
    let b : Account = next_account a t x in
    let k : Known a w = c.known in
    let one : KnownNext a b w = known_after a w t x k does same type in
    let v : MachineState Entry = one.world in
    let n : Known b v = one.known in
    let g : GoesOn a b w v = goes_on a w v t x k one.later in
    let s : ServedNext a t x v = served_next a w v t x does same k c.served n g in
    let where_at : AtNode a.chain t.chosen x ⊎ AtMaster a.chain t.chosen x = happens_at a.chain t.chosen x does in
    let chain : b.chain ≡ x.0 = next_chain a t x in
    let number : ℕ = a.chain.moves + 1 in
    let id : ℕ = place_of a.chain t.chosen in
    let new : List Answered = new_answers a t in
    let count : b.chain.moves ≡ number = ap (λ (c : Chain). c.moves) chain ∙ moves_counted a.chain t.chosen x where_at in
    let l : AreLens b.chain.moves b.lens (numbers_of b.asks b.committed) = n.lens in
    let long : number ≤ length b.lens = omega (arith, l.count, count) in
    let last : after_move b number ≡ length v.log = ap (slice_index (0 ∷ b.lens)) (sym count) ∙ (l.ends ∙ (mapped b.asks b.committed ∙ ap length n.committed)) in
    let I : ℕ → Type 0 = λ m. AllByRecursion (λ (y : Asked). y.move ≤ m) b.asks in
    let places : _ = step_places b v (node_at a.chain.nodes id) (tail_word a t.chosen) number id t.step.outs n long last (subst I count n.in_time) s.reported in
    let longer : IsPrefix a.committed b.committed = committed_grows k n one.later in
    let old : AllZip (Explains b) (strong_of a.asks given) a.places = zip_stays k g longer (strong_of a.asks given) a.places c.placed in
    let Z : List Answered → Type 0 = λ xs. AllZip (Explains b) xs a.places in
    let kept : AllZip (Explains b) (strong_of b.asks given) a.places = subst Z (sym (strong_stays g given c.asked)) old in
    let more : List Place = places_of b.asks b.pending b.committed (node_at a.chain.nodes id) (tail_word a t.chosen) new in
    let strong : strong_of b.asks (given ++ new) ≡ strong_of b.asks given ++ strong_of b.asks new = filter-append (λ (x : Answered). is_strong_answer (ask_of b.asks x) x.answer) given new in
    let Y : List Answered → Type 0 = λ xs. AllZip (Explains b) xs b.places in
    let W : List Place → Type 0 = λ ps. AllZip (Explains b) (strong_of b.asks given ++ strong_of b.asks new) ps in
    let R : LinkMessage → ℕ = λ m. m.receiver in
    let messages : b.chain.messages ≡ a.chain.messages ++ sent_in t.step.outs = ap (λ (c : Chain). c.messages) chain ∙ (messages_after a.chain t.chosen x where_at ∙ ap (λ (s : Step). a.chain.messages ++ sent_in s.outs) same) in
    let O : Chain → Type 0 = λ c. (id : ℕ) → Once c.nodes id (given ++ new) in
    record {
      world = v;
      later = one.later;
      goes = g;
      reported = s.reported;
      clients = record {
        known = n;
        served = s.served;
        received = (λ i. c.received i ++ sent_to b v (position_in a t x) id t.step.outs s.reported i) ∙ (sym (map-append R a.chain.messages (sent_in t.step.outs)) ∙ ap (map R) (sym messages));
        asked = all_append (HasAsk b.asks) given new (all_like (HasAsk a.asks) (HasAsk b.asks) given (λ y h. (h.0, g.stay y.node y.ticket h.0 h.1)) c.asked) places.1;
        placed = subst Y (sym strong) (subst W (sym (next_places a t x)) (zip_append (Explains b) (strong_of b.asks given) a.places (strong_of b.asks new) more kept places.0));
        once = subst O (sym chain) (λ j. once_after a.chain t x number j given same where_at (c.once j));
      };
    }
  where
    mapped : (asked : List Asked) (es : List Entry) → length (numbers_of asked es) ≡ length es
    mapped asked [] = refl
    mapped asked (e ∷ es) = ap suc (mapped asked es)

-- ---- the opening

waits_nothing : (chain : ℕ) (members ids : List ℕ) (id : ℕ) (p : Plain) → node_at (map (λ id. opening_member (record { chain = chain; node = id }) members) ids) id ≡ Some p → (p.waiting_updates ≡ []) × (p.waiting_reads ≡ [])
unfolding node_at
waits_nothing chain members [] id p h = absurd (cc)
waits_nothing chain members (m ∷ ids) id p h =
    let q : ℕ → Plain = λ id. opening_member (record { chain = chain; node = id }) members in
    cond_both (m == id) (Some (q m)) (node_at (map q ids) id) (λ (o : Option Plain). o ≡ Some p → (p.waiting_updates ≡ []) × (p.waiting_reads ≡ []))
    (λ e i. let same : q m ≡ p = cc in (sym (ap (λ (p : Plain). p.waiting_updates) same), sym (ap (λ (p : Plain). p.waiting_reads) same)))
    (λ e i. waits_nothing chain members ids id p i)
    h

pub opening_clients : (chain : ℕ) (run : Run) → IsTypedRunOf chain run → Clients (opening_account chain run.members) (initial_state run.members) [] []
unfolding given_at
opening_clients chain run i =
    let a : Account = opening_account chain run.members in
    record {
      known = opening_known chain run.members i.run_of.members;
      served = record {
        updates = λ id p at. let P : List WaitingUpdate → Type 0 = λ l. AllByRecursion (PendingUpdate a (initial_state run.members) id) l in subst P (sym (waits_nothing chain run.members run.members id p at).0) tt;
        reads = λ id p at. let P : List WaitingRead → Type 0 = λ l. AllByRecursion (PendingRead a (initial_state run.members) id) l in subst P (sym (waits_nothing chain run.members run.members id p at).1) tt;
        messages = tt;
        pending = tt;
      };
      received = refl;
      asked = tt;
      placed = tt;
      once = λ id. record {
        there = λ p at k. none k p (waits_nothing chain run.members run.members id p at);
        below = λ p at k lt. nothing k p (waits_nothing chain run.members run.members id p at);
        absent = λ n k. omega (arith, times_nil k);
      };
    }
  where
    nothing : (k : ℕ) (p : Plain) → (p.waiting_updates ≡ []) × (p.waiting_reads ≡ []) → times k [] + times k (open_of p) ≤ 0
    nothing k p e =
        let empty : open_of p ≡ [] = λ i. update_tickets (e.0 i) ++ read_tickets (e.1 i) in
        let zero : times k (open_of p) ≡ 0 = ap (times k) empty ∙ times_nil k in
        omega (arith, zero, times_nil k)

    none : (k : ℕ) (p : Plain) → (p.waiting_updates ≡ []) × (p.waiting_reads ≡ []) → times k [] + times k (open_of p) ≤ 1
    none k p e = omega (arith, nothing k p e)
