-- The states of a node are sound.
use Rattle.std.proofs.Common.{◌≤◌, ℕ, ◌-◌, length, T, List, [], ◌∷◌, Option, Some, None, MatchOption, unwrap_or, take, refl, arith}
use Rattle.std.specs.Prelude.{⊤}
use Rattle.std.specs.List.{AllByRecursion}
use Rattle.std.specs.Ordering.{nat_cmp}
use Rattle.std.specs.Cmp.{nat_cmp_total}
use Rattle.std.specs.Cmp.Lexicographic.{nat_list_cmp_total}
use Rattle.std.specs.FinMap.Entries.{is_sorted, is_sorted-put}
use Rattle.craq_names.specs.Maps.{key_cmp, at_key, at_number, put_key}
use Rattle.craq_names.proofs.Lists.{all_take}
use Rattle.craq_commands.specs.declared.reply.Reply.{Reply}
use Rattle.craq_commands.specs.declared.entry.Entry.{Entry}
use Rattle.craq_commands.specs.declared.entry.Write.{Write}
use Rattle.craq_commands.specs.Kept.{Kept, Window, keep}
use Rattle.craq_commands.proofs.Keeping.{few_kept, some_kept, rising_keep, all_kept}
use Rattle.craq_commands.specs.Objects.{Objects, object_of, set_object}
use Rattle.craq_commands.specs.declared.state.State.{State}
use Rattle.craq_commands.specs.SingleCopy.{window_of, with_writes, kept_with, after_entry, after_entries}
use Rattle.craq_model.specs.Plain.{Plain, newest, clean}
use Rattle.craq_model.specs.Encodable.{IsObjectRead, IsReply, IsNotStale, IsEncodableEntry, IsEncodableWindow}
use Rattle.craq_node_invariant.specs.Sound.{IsSoundState, IsSound}
use Rattle.craq_node_invariant.proofs.Maps.{found_is, put_is}

-- each object in the list was written
abbrev pub AreWritten : Objects → Type 0
AreWritten m = AllByRecursion (λ (o : List ℕ × (ℕ × List ℕ)). 1 ≤ o.1.0) m

abbrev IsWritten : ℕ × List ℕ → Type 0
IsWritten x = 1 ≤ x.0

abbrev IsKeptWell : Kept → Type 0
IsKeptWell k = IsReply k.1 × IsNotStale k.1

-- the facts about a window, which may be empty
pub record IsWindow (w : Window) : Type 0 where
  pub few : length w ≤ 8
  pub replies : AllByRecursion IsKeptWell w
  pub numbers_rise : T (is_sorted nat_cmp w)

-- an object that was written is not absent
pub written_read : (o : ℕ × List ℕ) → 1 ≤ o.0 → IsObjectRead o
written_read o h = λ e. absurd (omega (arith, h, e))

read_of : (o : Option (ℕ × List ℕ)) → MatchOption o ⊤ IsWritten → IsObjectRead (unwrap_or o (0, []))
read_of None h = λ e. refl
read_of (Some x) h = written_read x h

pub object_is_read : (m : Objects) (key : List ℕ) → AreWritten m → IsObjectRead (object_of m key)
unfolding object_of
object_is_read m key a = read_of (at_key m key) (found_is key_cmp IsWritten key m a)

window_found : (o : Option Window) → MatchOption o ⊤ IsEncodableWindow → IsWindow (unwrap_or o [])
window_found None h = record { few = omega arith; replies = tt; numbers_rise = tt }
window_found (Some w) h = record { few = h.few; replies = h.replies; numbers_rise = h.numbers_rise }

window_is : (s : State) (client : ℕ) → IsSoundState s → IsWindow (window_of s client)
unfolding window_of
window_is s client i = window_found (at_number s.kept client) (found_is nat_cmp IsEncodableWindow client s.kept i.windows)

pub replies_are : (s : State) (client : ℕ) → IsSoundState s → AllByRecursion (λ (k : Kept). IsReply k.1 × IsNotStale k.1) (window_of s client)
replies_are s client i = (window_is s client i).replies

window_keeps : (w : Window) (number : ℕ) (reply : Reply) → IsWindow w → IsReply reply → IsNotStale reply → IsEncodableWindow (keep w number reply)
window_keeps w number reply i h n = record {
  some = some_kept w number reply;
  few = few_kept w number reply i.few;
  replies = all_kept (λ (r : Reply). IsReply r × IsNotStale r) w number reply (h, n) i.replies;
  numbers_rise = rising_keep w number reply i.numbers_rise;
}

-- ---- entries

writes_written : (m : Objects) (ws : List Write) → AreWritten m → AllByRecursion (λ (w : Write). 1 ≤ w.version) ws → AreWritten (with_writes m ws)
unfolding set_object
writes_written m [] a v = a
writes_written m (w ∷ ws) a v = writes_written (put_key m w.key (w.version, w.value)) ws (put_is key_cmp IsWritten w.key (w.version, w.value) m v.0 a) v.1

writes_rise : (m : Objects) (ws : List Write) → T (is_sorted key_cmp m) → T (is_sorted key_cmp (with_writes m ws))
unfolding set_object
writes_rise m [] h = h
writes_rise m (w ∷ ws) h = writes_rise (put_key m w.key (w.version, w.value)) ws (is_sorted-put key_cmp nat_list_cmp_total w.key (w.version, w.value) m h)

pub entry_keeps : (s : State) (e : Entry) → IsSoundState s → IsEncodableEntry e → IsSoundState (after_entry s e)
unfolding after_entry kept_with
entry_keeps s e i h = record {
  versions = writes_written s.objects e.writes i.versions h.versions;
  windows = put_is nat_cmp IsEncodableWindow e.client (keep (window_of s e.client) e.number e.reply) s.kept (window_keeps (window_of s e.client) e.number e.reply (window_is s e.client i) h.reply h.not_stale) i.windows;
  keys_rise = writes_rise s.objects e.writes i.keys_rise;
  clients_rise = is_sorted-put nat_cmp nat_cmp_total e.client (keep (window_of s e.client) e.number e.reply) s.kept i.clients_rise;
}

entries_keep : (s : State) (es : List Entry) → IsSoundState s → AllByRecursion IsEncodableEntry es → IsSoundState (after_entries s es)
entries_keep s [] i h = i
entries_keep s (e ∷ es) i h = entries_keep (after_entry s e) es (entry_keeps s e i h.0) h.1

pub newest_is : (p : Plain) → IsSound p → IsSoundState (newest p)
unfolding newest
newest_is p s = entries_keep p.past.base_state p.past.entries s.state s.entries

pub clean_is : (p : Plain) → IsSound p → IsSoundState (clean p)
unfolding clean
clean_is p s = entries_keep p.past.base_state (take (p.past.acknowledged - p.past.base) p.past.entries) s.state (all_take IsEncodableEntry (p.past.acknowledged - p.past.base) p.past.entries s.entries)
