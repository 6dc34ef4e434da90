-- A first member before its first step, as a history has it.
use Rattle.std.proofs.Common.{◌≡◌, ◌≢◌, ◌≤◌, ℕ, Bool, true, false, List, [], Option, Some, None, IfSome, refl, sym, ap, subst, inl, arith}
use Rattle.std.specs.Prelude.{if◌then◌else◌}
use Rattle.craq_names.specs.declared.name.NodeName.{NodeName}
use Rattle.craq_model.specs.declared.ask.Event.{Event}
use Rattle.craq_model.specs.declared.config.Config.{Config}
use Rattle.craq_model.specs.Members.{is_member}
use Rattle.craq_model.specs.Plain.{Plain, opening_joined, opening_member}
use Rattle.craq_node.specs.Represented.{CanOpen}
use Rattle.craq_seat.specs.declared.journal.Record.{Record}
use Rattle.craq_seat.specs.Cells.{Celled, opened}
use Rattle.craq_causality.specs.Authors.{first_of}
use Rattle.craq_store_history.specs.declared.entry.HistoryEntry.{HistoryEntry}
use Rattle.craq_store_history.specs.Entries.{members_in}
use Rattle.craq_store_parts.specs.Recorded.{CanBegin, IsUnjoined}

not_zero : (n : ℕ) → 1 ≤ n → n ≢ 0
not_zero n is zero = omega (arith, is, zero)

first_is : (name : NodeName) (members : List ℕ) → is_member members name.node ≡ true → first_of name.chain members name.node ≡ opening_member name members
first_is name members own = rw own refl

-- the journal of a cell that was just opened has no records
opened_empty : (kept : Bool) (journal : Option (List (Record Event))) → journal ≡ (if kept then Some [] else None) → IfSome journal (λ (rs : List (Record Event)). rs ≡ [])
opened_empty true journal is = subst (λ o. IfSome o (λ (rs : List (Record Event)). rs ≡ [])) (sym is) refl
opened_empty false journal is = subst (λ o. IfSome o (λ (rs : List (Record Event)). rs ≡ [])) (sym is) tt

-- a first member may begin after the opening of its chain
pub begins : {C : Type 0} (represents : C → Plain → Type 0) (name : NodeName) (config : Config) (log : List HistoryEntry) (cell : Celled C Event) (stamp : ℕ) (journal : Bool)
    → CanOpen name (Some config) → members_in name.chain log ≡ Some config.members → cell ≡ opened (record { name = name; config = Some config; stamp = stamp }) journal cell.inside → represents cell.inside (opening_member name config.members) → CanBegin represents log cell
begins represents name config log cell stamp journal can is opens stands =
    let named : cell.opening.name ≡ name = ap (λ c. c.opening.name) opens in
    record {
      members = config.members;
      opened = rw named is;
      member = rw named (not_zero name.node can.0);
      joined = rw named (inl can.1.own);
      first = rw named (subst (represents cell.inside) (sym (first_is name config.members can.1.own)) stands);
      unmoved = ap (λ c. c.last) opens;
      empty = opened_empty journal cell.journal (ap (λ c. c.journal) opens);
    }

-- a node that is to join is as its core was opened
pub unjoined : {C : Type 0} (represents : C → Plain → Type 0) (name : NodeName) (cell : Celled C Event) (stamp : ℕ) (journal : Bool)
    → 1 ≤ name.node → cell ≡ opened (record { name = name; config = None; stamp = stamp }) journal cell.inside → represents cell.inside (opening_joined name) → IsUnjoined represents name cell
unjoined represents name cell stamp journal from_one opens stands =
    record { named = ap (λ c. c.opening.name) opens; member = not_zero name.node from_one; first = stands; unmoved = ap (λ c. c.last) opens; empty = opened_empty journal cell.journal (ap (λ c. c.journal) opens) }
