-- Entries of other clients leave a client's window as it is.
use Rattle.std.proofs.Common.{◌≡◌, ℕ, Bool, true, false, cond, List, [], ◌∷◌, Option, Some, None, unwrap_or, is_some, refl, sym, ap, ◌∙◌}
use Rattle.std.specs.Prelude.{◌==◌, not, ◌&&◌, if◌then◌else◌}
use Rattle.std.specs.List.{list_any}
use Rattle.std.specs.Ordering.{nat_cmp, eq_by_cmp}
use Rattle.std.specs.Cmp.{nat_cmp_total, eq_by_cmp_equiv, unsigned_ties}
use Rattle.std.specs.FinMap.Entries.{find-put}
use Rattle.std.proofs.lemmas.Bool.{or_parts}
use Rattle.craq_names.specs.Maps.{at_number}
use Rattle.craq_commands.specs.declared.entry.Entry.{Entry}
use Rattle.craq_commands.specs.declared.reply.Reply.{Reply}
use Rattle.craq_commands.specs.declared.state.State.{State}
use Rattle.craq_commands.specs.Kept.{Window, is_new, is_stale, keep, largest, said_of}
use Rattle.craq_commands.specs.Known.{Known, kept_or_new, known_of}
use Rattle.craq_commands.specs.Known.Known.{New, Kept, Stale}
use Rattle.craq_commands.specs.SingleCopy.{after_entries, after_entry, is_new_to, kept_with, said, window_of}
use Rattle.craq_model.specs.Past.{Past, newest_in}
use Rattle.craq_node_invariant.specs.Compacted.{compacted_in}
use Rattle.craq_node_invariant.proofs.CompactedPasts.{compacted_newest}
use Rattle.craq_compact_history.specs.Others.{is_of}

-- an entry of another client
one_other : (s : State) (e : Entry) (client : ℕ) → (e.client == client) ≡ false → window_of (after_entry s e) client ≡ window_of s client
unfolding window_of after_entry kept_with
one_other s e client other =
    let w : Window = keep (window_of s e.client) e.number e.reply in
    let same : eq_by_cmp nat_cmp client e.client ≡ (e.client == client) = (eq_by_cmp_equiv nat_cmp_total).symm client e.client ∙ sym (unsigned_ties e.client client) in
    ap (λ (o : Option Window). unwrap_or o []) (find-put nat_cmp nat_cmp_total client e.client w s.kept ∙ ap (λ b. cond b (Some w) (at_number s.kept client)) (same ∙ other))

-- entries of other clients
all_others : (s : State) (es : List Entry) (client : ℕ) → list_any (is_of client) es ≡ false → window_of (after_entries s es) client ≡ window_of s client
all_others s [] client none = refl
all_others s (e ∷ es) client none =
    let parts = or_parts (e.client == client) (list_any (is_of client) es) none in
    all_others (after_entry s e) es client parts.1 ∙ one_other s e client parts.0

-- the status of a number of a client of whom no entry is held
pub said_in_window : (h : Past) (client n : ℕ) (w : Window) → w ≡ window_of h.base_state client → list_any (is_of client) h.entries ≡ false → said_of w n ≡ said (newest_in (compacted_in h)) client n
said_in_window h client n w is none =
    ap (λ (x : Window). said_of x n) (is ∙ sym (all_others h.base_state h.entries client none))
    ∙ sym (ap (λ (s : State). said s client n) (compacted_newest h))

-- the test for a new number of a client of whom no entry is held, after later entries of others
pub new_in_window : (h : Past) (later : List Entry) (client n : ℕ) (w : Window) → w ≡ window_of h.base_state client → list_any (is_of client) h.entries ≡ false → list_any (is_of client) later ≡ false
    → is_new w n ≡ is_new_to (after_entries (newest_in (compacted_in h)) later) client n
new_in_window h later client n w is none less =
    ap (λ (x : Window). is_new x n) (is ∙ sym (all_others h.base_state h.entries client none) ∙ sym (all_others (after_entries h.base_state h.entries) later client less))
    ∙ sym (ap (λ (s : State). is_new_to (after_entries s later) client n) (compacted_newest h))

-- a number's status tells whether it is new
abbrev pub is_known_new : Known → Bool
is_known_new New = true
is_known_new (Kept reply) = false
is_known_new (Stale last) = false

known_new : (b : Bool) (o : Option Reply) (last : ℕ) → is_known_new (cond b (Stale last) (kept_or_new o)) ≡ (not (is_some o) && not b)
known_new true None last = refl
known_new true (Some reply) last = refl
known_new false None last = refl
known_new false (Some reply) last = refl

pub new_known : (w : Window) (n : ℕ) → is_known_new (known_of w n) ≡ is_new w n
unfolding is_new
new_known w n = known_new (is_stale w n) (at_number w n) (largest w)
