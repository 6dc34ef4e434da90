-- The opening chain, before the lines; and the lines are a run.
use Rattle.std.proofs.Common.{◌≡◌, ℕ, Bool, true, false, if◌then◌else◌, List, [], ◌∷◌, map, Option, Some, None, refl, sym, ap, subst, arith, inl, inr}
use Rattle.craq_model.specs.Members.{is_member}
use Rattle.craq_model.specs.Plain.{Plain, id_of, opening_joined, opening_member}
use Rattle.craq_runs.specs.Chain.{node_at, opening_chain}
use Rattle.craq_runs.specs.Runs.{IsRunOf}
use Rattle.craq_runs.specs.Typed.{IsTypedRunOf}
use Rattle.craq_seat.specs.Merge.{MergedStep, book_line, node_line, run_of}
use Rattle.craq_causality.specs.Authors.{first_of, lines_of}
use Rattle.craq_causality.specs.Causal.{AreCausal, AreFew, AreTyped}
use Rattle.craq_causality.proofs.Nodes.{same_or_not}
use Rattle.craq_causality.proofs.Orders.{AreRising, apart, journal_rises}
use Rattle.craq_causality.proofs.Reached.{AreSound, IsNow, IsReached}
use Rattle.craq_causality.proofs.Typed.{all_typed}
use Rattle.craq_causality.proofs.Walk.{walk}

-- ---- the opening nodes

abbrev opening_nodes : ℕ → List ℕ → List ℕ → List Plain
opening_nodes chain all members = map (λ id. opening_member (record { chain = chain; node = id }) all) members

opening_ids : (chain : ℕ) (all members : List ℕ) → map id_of (opening_nodes chain all members) ≡ members
opening_ids chain all [] = refl
opening_ids chain all (m ∷ members) = ap (λ ms. m ∷ ms) (opening_ids chain all members)

opening_there : (chain : ℕ) (all members : List ℕ) (id : ℕ) → is_member members id ≡ true → node_at (opening_nodes chain all members) id ≡ Some (opening_member (record { chain = chain; node = id }) all)
unfolding is_member node_at
opening_there chain all [] id h = cc
opening_there chain all (m ∷ members) id h = grind (arith, h, opening_there chain all members id)

opening_none : (chain : ℕ) (all members : List ℕ) (id : ℕ) → is_member members id ≡ false → node_at (opening_nodes chain all members) id ≡ None
unfolding is_member node_at
opening_none chain all [] id h = refl
opening_none chain all (m ∷ members) id h = grind (arith, h, opening_none chain all members id)

-- a first member exists, and any other node will join as it is opened
by_member : (b : Bool) (o : Option Plain) (chain id : ℕ) (first : Plain) → (b ≡ true → o ≡ Some first) → (b ≡ false → o ≡ None) → IsNow chain id o (if b then first else opening_joined (record { chain = chain; node = id }))
by_member true o chain id first f g = inl (f refl)
by_member false o chain id first f g = inr (g refl, refl)

is_now : (chain : ℕ) (members : List ℕ) (id : ℕ) → IsNow chain id (node_at (opening_nodes chain members members) id) (first_of chain members id)
is_now chain members id =
    by_member (is_member members id) (node_at (opening_nodes chain members members) id) chain id (opening_member (record { chain = chain; node = id }) members)
    (opening_there chain members members id) (opening_none chain members members id)

pub start : (chain : ℕ) (members : List ℕ) (lines : List MergedStep) → AreCausal chain members lines → IsReached chain members [] lines (opening_chain chain members)
start chain members lines a =
    let m = a.master.2 in
    record {
      chained = refl;
      sent = refl;
      count = refl;
      master = record { records = m.records; last = a.master.0; lines = m.are; replay = rw (opening_ids chain members members) m.replay };
      nodes = λ id z. let n = (a.nodes id z).2 in record {
        node = first_of chain members id;
        records = n.records;
        last = (a.nodes id z).0;
        now = is_now chain members id;
        lines = n.are;
        replay = n.replay;
      };
      first = λ id h. (opening_member (record { chain = chain; node = id }) members, opening_there chain members members id h);
      joins = λ l i. absurd i;
      stops = λ l i. absurd i;
      from = λ l i. absurd i;
    }

-- ---- the lines are a run

author_rises : (chain : ℕ) (members : List ℕ) (lines : List MergedStep) → AreCausal chain members lines → (id : ℕ) → AreRising (lines_of id lines)
author_rises chain members lines a id =
    elim (same_or_not id 0) [
      | inl e ↦ (let m = a.master.2 in subst (λ k. AreRising (lines_of k lines)) (sym e) (rw m.are (journal_rises book_line (λ r. refl) 0 a.master.1 m.records m.stamps)))
      | inr z ↦ (let n = (a.nodes id z).2 in rw n.are (journal_rises (node_line id) (λ r. refl) n.low (a.nodes id z).1 n.records n.stamps))
    ]

pub sound : (chain : ℕ) (members : List ℕ) (lines : List MergedStep) → AreCausal chain members lines → AreFew lines → AreSound members lines
sound chain members lines a few = record { apart = apart lines (author_rises chain members lines a); order = a.order; few = few }

pub is_run : (chain : ℕ) (members : List ℕ) (lines : List MergedStep) → AreCausal chain members lines → AreFew lines → IsRunOf chain (run_of members lines)
is_run chain members lines a few =
    record {
      members = a.membership;
      moves = walk chain members lines [] lines (opening_chain chain members) refl (sound chain members lines a few) (start chain members lines a);
    }

pub is_typed_run : (chain : ℕ) (members : List ℕ) (lines : List MergedStep) → AreCausal chain members lines → AreTyped lines → AreFew lines → IsTypedRunOf chain (run_of members lines)
is_typed_run chain members lines a typed few = record { run_of = is_run chain members lines a few; typed = all_typed lines lines typed }
