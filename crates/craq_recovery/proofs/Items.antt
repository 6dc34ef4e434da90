-- A state has no fewer items after more entries.
use Rattle.std.proofs.Common.{ℕ, suc, ◌-◌, ◌≤◌, List, [], ◌∷◌, length, take, drop, sym, subst, arith}
use Rattle.std.proofs.lemmas.List.{take-append-drop}
use Rattle.std.specs.declared.cmp.Ordering.{Ordering}
use Rattle.std.specs.declared.cmp.Ordering.TheVariants.{Less, Equal, Greater}
use Rattle.std.specs.FinMap.Entries.{by_order, put}
use Rattle.std.specs.Ordering.{nat_cmp}
use Rattle.craq_names.specs.Maps.{key_cmp}
use Rattle.craq_commands.specs.declared.entry.Entry.{Entry}
use Rattle.craq_commands.specs.declared.entry.Write.{Write}
use Rattle.craq_commands.specs.declared.state.State.{State}
use Rattle.craq_commands.specs.Kept.{keep}
use Rattle.craq_commands.specs.Objects.{Objects, set_object}
use Rattle.craq_commands.specs.SingleCopy.{after_entries, after_entry, kept_with, window_of, with_writes}
use Rattle.craq_commands.proofs.Entries.{after_entries-append}
use Rattle.craq_model.specs.Parts.{item_count}
use Rattle.craq_model.specs.Plain.{Plain, clean, newest}

put_longer : {K A : Type 0} (R : K → K → Ordering) (k : K) (x : A) (es : List (K × A)) → length es ≤ length (put R k x es)
put_longer R k x [] = omega arith
put_longer R k x (e ∷ es) =
    let h : length es ≤ length (put R k x es) = put_longer R k x es in
    elim (R k e.0) as (λ o. suc (length es) ≤ length (by_order o ((k, x) ∷ e ∷ es) ((e.0, x) ∷ es) (e ∷ put R k x es))) [
      | Less ↦ omega arith
      | Equal ↦ omega arith
      | Greater ↦ omega (arith, h)
    ]

written_longer : (m : Objects) (ws : List Write) → length m ≤ length (with_writes m ws)
unfolding set_object
written_longer m [] = omega arith
written_longer m (w ∷ ws) =
    let one : length m ≤ length (set_object m w.key w.version w.value) = put_longer key_cmp w.key (w.version, w.value) m in
    omega (arith, one, written_longer (set_object m w.key w.version w.value) ws)

entry_items : (s : State) (e : Entry) → item_count s ≤ item_count (after_entry s e)
unfolding after_entry kept_with
entry_items s e =
    let kept : length s.kept ≤ length (kept_with s e.client e.number e.reply) = put_longer nat_cmp e.client (keep (window_of s e.client) e.number e.reply) s.kept in
    omega (arith, written_longer s.objects e.writes, kept)

pub entries_items : (s : State) (es : List Entry) → item_count s ≤ item_count (after_entries s es)
entries_items s [] = omega arith
entries_items s (e ∷ es) = omega (arith, entry_items s e, entries_items (after_entry s e) es)

-- the committed state has no more items than the newest one
pub clean_items : (p : Plain) → item_count (clean p) ≤ item_count (newest p)
unfolding clean newest
clean_items p =
    let k : ℕ = p.past.acknowledged - p.past.base in
    let front : List Entry = take k p.past.entries in
    let back : List Entry = drop k p.past.entries in
    let s : State = after_entries p.past.base_state front in
    let N : List Entry → Type 0 = λ es. item_count s ≤ item_count (after_entries p.past.base_state es) in
    let S : State → Type 0 = λ t. item_count s ≤ item_count t in
    subst N (take-append-drop k p.past.entries) (subst S (sym (after_entries-append p.past.base_state front back)) (entries_items s back))
