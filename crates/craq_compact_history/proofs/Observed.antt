-- Look-ups in the stored form agree with the past that it represents.
use Rattle.std.proofs.Common.{◌≡◌, ℕ, zero, suc, ◌+◌, ◌-◌, List, [], ◌∷◌, length, take, drop, refl, sym, ap, ◌∙◌, arith}
use Rattle.std.proofs.lemmas.List.{take-append-drop}
use Rattle.craq_commands.specs.declared.entry.Entry.{Entry}
use Rattle.craq_commands.specs.declared.state.State.{State}
use Rattle.craq_commands.specs.Kept.{Window}
use Rattle.craq_commands.specs.Objects.{object_of, version_of}
use Rattle.craq_commands.specs.SingleCopy.{after_entries, is_new_to, said, window_of}
use Rattle.craq_model.specs.Past.{Past, entries_in, newest_in, clean_in, newest_within, values_after, object_within_in}
use Rattle.craq_node_invariant.specs.Compacted.{compacted_in}
use Rattle.craq_node_invariant.proofs.CompactedPasts.{compacted_newest, compacted_clean}
use Rattle.craq_full_history.specs.Scans.{last_value}
use Rattle.craq_full_history.specs.Slots.{Slots, is_new_in, reply_at, said_in, slots_after, slots_from}
use Rattle.craq_full_history.proofs.Scans.{last_of_values}
use Rattle.craq_full_history.proofs.Windows.{said_after, new_later, slots_further}

-- an object's newest version
pub newest_reported : (h : Past) (key : List ℕ) (o : ℕ × List ℕ) → o ≡ object_of (after_entries h.base_state h.entries).objects key → o ≡ object_of (newest_in (compacted_in h)).objects key
newest_reported h key o e = e ∙ sym (ap (λ (s : State). object_of s.objects key) (compacted_newest h))

-- an object's clean version
pub clean_reported : (h : Past) (key : List ℕ) (o : ℕ × List ℕ) (es : List Entry) → o ≡ object_of h.base_state.objects key → es ≡ take (h.acknowledged - h.base) h.entries
    → last_value o (values_after es key) ≡ object_of (clean_in (compacted_in h)).objects key
clean_reported h key o es e f =
    ap (λ (x : ℕ × List ℕ). last_value x (values_after es key)) e
    ∙ ap (λ (xs : List Entry). last_value (object_of h.base_state.objects key) (values_after xs key)) f
    ∙ sym (last_of_values h.base_state (take (h.acknowledged - h.base) h.entries) key)
    ∙ sym (ap (λ (s : State). object_of s.objects key) (compacted_clean h))

nothing : (n : ℕ) → n - n ≡ 0
nothing n = omega arith

-- the entries that are not settled
later_reported : (h : Past) → drop (h.acknowledged - h.base) h.entries ≡ entries_in (compacted_in h) h.acknowledged
later_reported h = sym (ap (λ (n : ℕ). drop n (drop (h.acknowledged - h.base) h.entries)) (nothing h.acknowledged))

-- an object's newest version within a bound
pub within_reported : (h : Past) (key : List ℕ) (bound : ℕ) (o : ℕ × List ℕ) (es : List Entry) → o ≡ object_of (clean_in (compacted_in h)).objects key → es ≡ drop (h.acknowledged - h.base) h.entries
    → newest_within bound o (values_after es key) ≡ object_within_in (compacted_in h) key bound
within_reported h key bound o es e f =
    ap (λ (x : ℕ × List ℕ). newest_within bound x (values_after es key)) e
    ∙ ap (λ (xs : List Entry). newest_within bound (object_of (clean_in (compacted_in h)).objects key) (values_after xs key)) (f ∙ later_reported h)

none_before : (n : ℕ) (es : List Entry) → take n es ≡ [] → drop n es ≡ es
none_before zero es none = refl
none_before (suc n) [] none = refl
none_before (suc n) (e ∷ es) none = cc

-- an object's newest version within a bound, if no held entry is settled
pub all_within_reported : (h : Past) (key : List ℕ) (bound : ℕ) → take (h.acknowledged - h.base) h.entries ≡ []
    → newest_within bound (object_of h.base_state.objects key) (values_after h.entries key) ≡ object_within_in (compacted_in h) key bound
all_within_reported h key bound none =
    let clean : h.base_state ≡ clean_in (compacted_in h) = ap (λ (es : List Entry). after_entries h.base_state es) (sym none) ∙ sym (compacted_clean h) in
    within_reported h key bound (object_of h.base_state.objects key) h.entries (ap (λ (s : State). object_of s.objects key) clean) (sym (none_before (h.acknowledged - h.base) h.entries none))

-- the slots of a client's window after the settled entries and the others
pub slots_reported : (s : State) (n client first : ℕ) (w : Window) (es settled later : List Entry) (xs ys : Slots) → w ≡ window_of s client → settled ≡ take n es → later ≡ drop n es → first ≡ length w + length settled
    → xs ≡ slots_after client (length w) settled (slots_from 0 w) → ys ≡ slots_after client first later xs → ys ≡ slots_after client (length (window_of s client)) es (slots_from 0 (window_of s client))
slots_reported s n client first w es settled later xs ys window front rest at before after =
    after
    ∙ ap (λ (l : List Entry). slots_after client first l xs) rest
    ∙ ap (λ (k : ℕ). slots_after client k (drop n es) xs) at
    ∙ ap (λ (x : Slots). slots_after client (length w + length settled) (drop n es) x) before
    ∙ ap (λ (l : List Entry). slots_after client (length w + length l) (drop n es) (slots_after client (length w) l (slots_from 0 w))) front
    ∙ sym (slots_further client (length w) (take n es) (drop n es) (slots_from 0 w))
    ∙ ap (λ (l : List Entry). slots_after client (length w) l (slots_from 0 w)) (take-append-drop n es)
    ∙ ap (λ (x : Window). slots_after client (length x) es (slots_from 0 x)) window

-- the status of a client's request number
pub said_reported : (h : Past) (client n : ℕ) (w : Window) (es : List Entry) (xs : Slots) → w ≡ window_of h.base_state client → es ≡ h.entries
    → xs ≡ slots_after client (length (window_of h.base_state client)) h.entries (slots_from 0 (window_of h.base_state client)) → said_in (reply_at w es) xs n ≡ said (newest_in (compacted_in h)) client n
said_reported h client n w es xs e f g =
    ap (λ (x : Window). said_in (reply_at x es) xs n) e
    ∙ ap (λ (l : List Entry). said_in (reply_at (window_of h.base_state client) l) xs n) f
    ∙ ap (λ (x : Slots). said_in (reply_at (window_of h.base_state client) h.entries) x n) g
    ∙ said_after h.base_state h.entries client n
    ∙ sym (ap (λ (s : State). said s client n) (compacted_newest h))

-- the test for a new request number after later entries
pub new_reported : (h : Past) (later : List Entry) (client n first : ℕ) (w : Window) (es : List Entry) (xs ys : Slots) → w ≡ window_of h.base_state client → es ≡ h.entries → first ≡ length w + length es
    → xs ≡ slots_after client (length (window_of h.base_state client)) h.entries (slots_from 0 (window_of h.base_state client)) → ys ≡ slots_after client first later xs → is_new_in ys n ≡ is_new_to (after_entries (newest_in (compacted_in h)) later) client n
new_reported h later client n first w es xs ys e f at before after =
    let v : Window = window_of h.base_state client in
    ap (λ (x : Slots). is_new_in x n) after
    ∙ ap (λ (k : ℕ). is_new_in (slots_after client k later xs) n) at
    ∙ ap (λ (x : Window). is_new_in (slots_after client (length x + length es) later xs) n) e
    ∙ ap (λ (l : List Entry). is_new_in (slots_after client (length v + length l) later xs) n) f
    ∙ ap (λ (x : Slots). is_new_in (slots_after client (length v + length h.entries) later x) n) before
    ∙ new_later h.base_state h.entries later client n
    ∙ sym (ap (λ (s : State). is_new_to (after_entries s later) client n) (compacted_newest h))

-- an object's version after later entries
pub version_reported : (h : Past) (later : List Entry) (key : List ℕ) (o : ℕ × List ℕ) → o ≡ object_of (newest_in (compacted_in h)).objects key
    → (last_value o (values_after later key)).0 ≡ version_of (after_entries (newest_in (compacted_in h)) later).objects key
version_reported h later key o e =
    ap (λ (x : ℕ × List ℕ). (last_value x (values_after later key)).0) e
    ∙ sym (ap (λ (x : ℕ × List ℕ). x.0) (last_of_values (newest_in (compacted_in h)) later key))
