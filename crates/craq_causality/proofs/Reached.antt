-- The invariant of a chain after some of the lines; the next line preserves it.
use Rattle.std.proofs.Common.{◌≡◌, ◌≢◌, ◌<◌, ◌≤◌, ◌⊎◌, ℕ, suc, ◌+◌, true, false, List, [], ◌∷◌, ◌++◌, map, length, Option, Some, None, refl, sym, ap, subst, arith, ◌∙◌, inl, inr, length-append, append-nil, append_assoc}
use Rattle.craq_names.specs.Limits.{greatest}
use Rattle.craq_model.specs.declared.ask.Event.{Event}
use Rattle.craq_model.specs.declared.ask.Event.TheVariants as events
use Rattle.craq_model.specs.Members.{is_member}
use Rattle.craq_model.specs.Node.{node_step}
use Rattle.craq_model.specs.Plain.{Plain, opening_joined}
use Rattle.craq_epochs.specs.Mastered.{Mastered}
use Rattle.craq_runs.specs.Chain.{Chain, node_at, sent_in}
use Rattle.craq_chain.specs.Parts.{master_of}
use Rattle.craq_seat.specs.declared.journal.BookEvent.{BookEvent}
use Rattle.craq_seat.specs.declared.journal.BookEvent.TheVariants as books
use Rattle.craq_seat.specs.declared.journal.Record.{Record}
use Rattle.craq_seat.specs.Books.{book_step}
use Rattle.craq_seat.specs.Journal.{Replays}
use Rattle.craq_seat.specs.Merge.{AtNode, AtMaster, MergedStep, book_line, node_line}
use Rattle.craq_causality.proofs.Orders.{AreApart, IsIn, in_either}
use Rattle.craq_causality.specs.Authors.{lines_of}
use Rattle.craq_causality.specs.Causal.{AreFew, AreOrdered, MayFollow}
use Rattle.craq_causality.proofs.Numbers.{all_sent, all_sent-append}
use Rattle.craq_causality.proofs.Nodes.{counted}
use Rattle.craq_seat.specs.Numbered.{AreFrom}

-- ---- the conditions of the lines

abbrev pub IsJoinOf : ℕ → MergedStep → Type 0
IsJoinOf id l = l.event ≡ AtMaster (books.Join id)

-- author and stamp identify a line, each may follow those before it, and there are numbers for all
pub record AreSound (members : List ℕ) (lines : List MergedStep) : Type 0 where
  pub apart : AreApart lines
  pub order : AreOrdered members [] lines
  pub few : AreFew lines

ordered_at : (members : List ℕ) (before done rest : List MergedStep) (l : MergedStep) → AreOrdered members before (done ++ l ∷ rest) → MayFollow members (before ++ done) l.node l.event
ordered_at members before [] rest l o = subst (λ ls. MayFollow members ls l.node l.event) (sym (append-nil before)) o.0
ordered_at members before (d ∷ done) rest l o =
    subst (λ ls. MayFollow members ls l.node l.event) (append_assoc before (d ∷ []) done) (ordered_at members (before ++ d ∷ []) done rest l o.1)

-- a line may follow those that were taken
pub follows : (members : List ℕ) (lines done rest : List MergedStep) (l : MergedStep) → lines ≡ done ++ l ∷ rest → AreSound members lines → MayFollow members done l.node l.event
follows members lines done rest l e s = ordered_at members [] done rest l (subst (AreOrdered members []) e s.order)

-- ---- the invariant of the chain

abbrev pub IsThere : List Plain → ℕ → Type 0
IsThere ps id = (p : Plain) × (node_at ps id ≡ Some p)

abbrev pub IsStopped : List Plain → ℕ → Type 0
IsStopped ps id = (p : Plain) × (node_at ps id ≡ Some p) × (p.running ≡ false)

-- the rest of the master's journal goes on from this master
pub record MasterGoes (m : Mastered) (ls : List MergedStep) : Type 0 where
  pub records : List (Record BookEvent)
  pub last : Mastered
  pub lines : ls ≡ map book_line records
  pub replay : Replays book_step m records last

-- the node that exists, or will join
abbrev pub IsNow : ℕ → ℕ → Option Plain → Plain → Type 0
IsNow chain id o p = (o ≡ Some p) ⊎ ((o ≡ None) × (p ≡ opening_joined (record { chain = chain; node = id })))

-- the rest of a node's journal goes on from it
pub record NodeGoes (chain id : ℕ) (o : Option Plain) (ls : List MergedStep) : Type 0 where
  pub node : Plain
  pub records : List (Record Event)
  pub last : Plain
  pub now : IsNow chain id o node
  pub lines : ls ≡ map (node_line id) records
  pub replay : Replays node_step node records last

-- the chain after these lines
pub record IsReached (chain : ℕ) (members : List ℕ) (done rest : List MergedStep) (c : Chain) : Type 0 where
  pub chained : c.chain ≡ chain
  pub sent : c.messages ≡ all_sent done
  pub count : c.moves ≡ length done
  pub master : MasterGoes (master_of c) (lines_of 0 rest)
  pub nodes : (id : ℕ) → id ≢ 0 → NodeGoes chain id (node_at c.nodes id) (lines_of id rest)
  pub first : (id : ℕ) → is_member members id ≡ true → IsThere c.nodes id
  pub joins : (l : MergedStep) → IsIn done l → (id : ℕ) → IsJoinOf id l → IsThere c.nodes id
  pub stops : (l : MergedStep) → IsIn done l → l.event ≡ AtNode events.Stop → IsStopped c.nodes l.node
  pub from : (l : MergedStep) → IsIn done l → AreFrom l.node l.step.outs

-- the changes that a line makes
pub record IsChanged (chain : ℕ) (l : MergedStep) (rest : List MergedStep) (c x : Chain) : Type 0 where
  pub chained : x.chain ≡ c.chain
  pub master : MasterGoes (master_of x) (lines_of 0 rest)
  pub nodes : (id : ℕ) → id ≢ 0 → NodeGoes chain id (node_at x.nodes id) (lines_of id rest)
  pub keeps : (id : ℕ) → IsThere c.nodes id → IsThere x.nodes id
  pub stays : (id : ℕ) → IsStopped c.nodes id → IsStopped x.nodes id
  pub join : (id : ℕ) → IsJoinOf id l → IsThere x.nodes id
  pub stop : l.event ≡ AtNode events.Stop → IsStopped x.nodes l.node
  pub from : AreFrom l.node l.step.outs

last_in : (P : MergedStep → Type 0) (done : List MergedStep) (l : MergedStep) → ((s : MergedStep) → IsIn done s → P s) → P l → (s : MergedStep) → IsIn (done ++ l ∷ []) s → P s
last_in P done l f here s i =
    elim (in_either done (l ∷ []) s i) [
      | inl k ↦ f s k
      | inr k ↦ elim k [ inl e ↦ subst P e here | inr n ↦ absurd n ]
    ]

-- one more line
pub reached_more : (chain : ℕ) (members : List ℕ) (done rest : List MergedStep) (l : MergedStep) (c x : Chain) → IsReached chain members done (l ∷ rest) c → IsChanged chain l rest c x → IsReached chain members (done ++ l ∷ []) rest (counted c x l.step)
reached_more chain members done rest l c x r d =
    record {
      chained = d.chained ∙ r.chained;
      sent = rw (r.sent, all_sent-append done (l ∷ []), append-nil (sent_in l.step.outs)) refl;
      count = rw (r.count, length-append done (l ∷ [])) refl;
      master = d.master;
      nodes = d.nodes;
      first = λ id m. d.keeps id (r.first id m);
      joins = last_in (λ s. (id : ℕ) → IsJoinOf id s → IsThere x.nodes id) done l (λ s i id j. d.keeps id (r.joins s i id j)) d.join;
      stops = last_in (λ s. s.event ≡ AtNode events.Stop → IsStopped x.nodes s.node) done l (λ s i e. d.stays s.node (r.stops s i e)) d.stop;
      from = last_in (λ s. AreFrom s.node s.step.outs) done l r.from d.from;
    }

-- the numbers that are left
pub moves_left : (members : List ℕ) (lines done rest : List MergedStep) (l : MergedStep) → lines ≡ done ++ l ∷ rest → AreSound members lines → length done < greatest
moves_left members lines done rest l e s =
    let few : length lines ≤ greatest = s.few.moves in
    let long : length lines ≡ length done + suc (length rest) = ap length e ∙ length-append done (l ∷ rest) in
    grind (arith, few, long)

pub messages_left : (members : List ℕ) (lines done rest : List MergedStep) (l : MergedStep) → lines ≡ done ++ l ∷ rest → AreSound members lines → length (all_sent done) + length (sent_in l.step.outs) ≤ greatest
messages_left members lines done rest l e s =
    let few : length (all_sent lines) ≤ greatest = s.few.messages in
    let all : length (all_sent lines) ≡ length (all_sent done) + length (all_sent (l ∷ rest)) = ap (λ ls. length (all_sent ls)) e ∙ ap length (all_sent-append done (l ∷ rest)) ∙ length-append (all_sent done) (all_sent (l ∷ rest)) in
    let part : length (all_sent (l ∷ rest)) ≡ length (sent_in l.step.outs) + length (all_sent rest) = length-append (sent_in l.step.outs) (all_sent rest) in
    grind (arith, few, all, part)
