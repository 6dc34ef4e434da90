-- A change that leads to a sound node: it holds what it commits, its entries are consecutive,
-- applicable and have an encoding, and a state that it installs is sound.
use Rattle.std.proofs.Common.{None, Some, subst, arith}
use Rattle.std.proofs.Math.Seq.{drop-append_seam}
use Rattle.std.specs.Prelude.{true, ◌≡◌, ℕ, ◌+◌, ◌++◌, List, length, drop, Option}
use Rattle.craq_commands.specs.declared.entry.Entry.{Entry}
use Rattle.craq_model.specs.Deliveries.{are_applicable}
use Rattle.craq_model.specs.Past.{Past, length_in, newest_in}
use Rattle.craq_model.specs.Plain.{Plain}
use Rattle.craq_model.specs.Encodable.{IsEncodableEntry}
use Rattle.std.specs.List.{AllByRecursion}
use Rattle.craq_node_invariant.specs.Sound.{AreInRow, IsSound, IsSoundState}
use Rattle.craq_node_invariant.proofs.Applicable.{applicable_rest}
use Rattle.craq_node_invariant.proofs.Rows.{row_drop}
use Rattle.craq_node_invariant.proofs.Sorted.{all_split}
use Rattle.craq_node_invariant.specs.Compacted.{HoldsCommitted}
use Rattle.craq_history.specs.declared.change.Change.{Change}
use Rattle.craq_history.specs.declared.change.HistoryChange.{HistoryChange}
use Rattle.craq_history.specs.declared.change.HistoryChange.TheVariants as histories
use Rattle.craq_history.specs.Change.{changed, past_by, commits_by}
use Rattle.craq_history.specs.Effects.{FollowsInRow, IsApplicable, IsSoundCopy, IsEncodableGrowth}

pub holds_after : (p : Plain) (c : Change) → IsSound (changed p c) → HoldsCommitted (commits_by c.acknowledged (past_by c.history p.past))
holds_after p c s = record { based = s.based; within = s.within }

copy_in : (o : Option ℕ) (h : HistoryChange) (past : Past) → IsSoundState (commits_by o (past_by h past)).base_state → IsSoundCopy h
copy_in o histories.Stays past s = tt
copy_in o (histories.Grows entries) past s = tt
copy_in None (histories.IsCopied position state) past s = s
copy_in (Some n) (histories.IsCopied position state) past s = s

pub copy_is_sound : (p : Plain) (c : Change) → IsSound (changed p c) → IsSoundCopy c.history
copy_is_sound p c s = copy_in c.acknowledged c.history p.past s.state

rest_in_row : (n : ℕ) (xs ys : List Entry) → AreInRow (n + 1) (xs ++ ys) → AreInRow (n + length xs + 1) ys
rest_in_row n xs ys r =
    let same : n + 1 + length xs ≡ n + length xs + 1 = omega arith in
    subst (λ (k : ℕ). AreInRow k ys) same
    (subst (λ (l : List Entry). AreInRow (n + 1 + length xs) l) (drop-append_seam xs ys) (row_drop (n + 1) (length xs) (xs ++ ys) r))

row_in : (o : Option ℕ) (h : HistoryChange) (past : Past) → AreInRow ((commits_by o (past_by h past)).base + 1) (commits_by o (past_by h past)).entries → FollowsInRow (length_in past) h
row_in o histories.Stays past r = tt
row_in None (histories.Grows entries) past r = rest_in_row past.base past.entries entries r
row_in (Some n) (histories.Grows entries) past r = rest_in_row past.base past.entries entries r
row_in o (histories.IsCopied position state) past r = tt

pub follows_in_row : (p : Plain) (c : Change) → IsSound (changed p c) → FollowsInRow (length_in p.past) c.history
follows_in_row p c s = row_in c.acknowledged c.history p.past s.placed

applicable_in : (o : Option ℕ) (h : HistoryChange) (past : Past) → are_applicable (commits_by o (past_by h past)).base_state (commits_by o (past_by h past)).entries ≡ true → IsApplicable (newest_in past) h
applicable_in o histories.Stays past a = tt
applicable_in None (histories.Grows entries) past a = applicable_rest past.base_state past.entries entries a
applicable_in (Some n) (histories.Grows entries) past a = applicable_rest past.base_state past.entries entries a
applicable_in o (histories.IsCopied position state) past a = tt

pub grows_applicable : (p : Plain) (c : Change) → IsSound (changed p c) → IsApplicable (newest_in p.past) c.history
grows_applicable p c s = applicable_in c.acknowledged c.history p.past s.applicable

encodable_in : (o : Option ℕ) (h : HistoryChange) (past : Past) → AllByRecursion IsEncodableEntry (commits_by o (past_by h past)).entries → IsEncodableGrowth h
encodable_in o histories.Stays past a = tt
encodable_in None (histories.Grows entries) past a = (all_split IsEncodableEntry past.entries entries a).1
encodable_in (Some n) (histories.Grows entries) past a = (all_split IsEncodableEntry past.entries entries a).1
encodable_in o (histories.IsCopied position state) past a = tt

pub grows_encodable : (p : Plain) (c : Change) → IsSound (changed p c) → IsEncodableGrowth c.history
grows_encodable p c s = encodable_in c.acknowledged c.history p.past s.entries
