-- The evolution of the single copy: versions rise, and a client's reply stays until its next
-- request.
use Rattle.std.proofs.Common.{◌≡◌, ◌≢◌, ◌<◌, ◌≤◌, ◌⊎◌, ℕ, ◌+◌, Bool, true, false, cond, List, [], ◌∷◌, ◌++◌, Option, Some, unwrap_or, is_some, ⊎_elim, refl, sym, ap, ◌∙◌, inl, inr, arith, subst}
use Rattle.std.specs.Ordering.{nat_cmp, eq_by_cmp}
use Rattle.std.specs.Cmp.{eq_by_cmp_equiv, nat_cmp_total}
use Rattle.std.specs.Cmp.Lexicographic.{bytes_decides}
use Rattle.std.specs.FinMap.{nat_cmp-IsAntisymmetric}
use Rattle.std.specs.FinMap.Entries.{find, find-put}
use Rattle.craq_names.specs.Maps.{same_bytes, at_number, put_number}
use Rattle.craq_commands.specs.Objects.{Objects, object_of, version_of, set_object, written, all_written}
use Rattle.craq_commands.specs.Evaluation.{eval}
use Rattle.craq_commands.specs.declared.reply.Reply.{Reply}
use Rattle.craq_commands.specs.Kept.{Window, is_new, keep, said_of}
use Rattle.craq_commands.specs.declared.state.State.{State}
use Rattle.craq_commands.specs.SingleCopy.{window_of, is_new_to, said, kept_with, apply, after, after_from, opening_state}
use Rattle.craq_commands.specs.declared.command.Update.{Update}
use Rattle.std.proofs.lemmas.Bool.{cases_eq}
use Rattle.craq_laws.proofs.Copies.{after_from-append}
use Rattle.craq_commands.proofs.Keeping.{IsRising, found_is_old, kept_found, rising_keep, old_stays}
use Rattle.craq_laws.proofs.Writes.{found_here, written_elsewhere, reported_apart}

-- the object has a higher version, or is unchanged
abbrev pub IsNoOlder : Objects → Objects → List ℕ → Type 0
IsNoOlder m n key = (version_of m key < version_of n key) ⊎ (object_of n key ≡ object_of m key)

written_here : (m : Objects) (w : List ℕ × List ℕ) → object_of (written m w) w.0 ≡ (version_of m w.0 + 1, w.1)
unfolding object_of set_object
written_here m w = ap (λ (o : Option (ℕ × List ℕ)). unwrap_or o (0, [])) (found_here m w.0 (version_of m w.0 + 1, w.1))

risen : (m : Objects) (w : List ℕ × List ℕ) → version_of m w.0 < version_of (written m w) w.0
risen m w = let e : version_of (written m w) w.0 ≡ version_of m w.0 + 1 = ap (λ (o : ℕ × List ℕ). o.0) (written_here m w) in omega (arith, e)

one_write : (m : Objects) (w : List ℕ × List ℕ) (key : List ℕ) → IsNoOlder m (written m w) key
one_write m w key =
    let by : (b : Bool) → same_bytes w.0 key ≡ b → IsNoOlder m (written m w) key = elim [
      | true ↦ λ e. inl (subst (λ (k : List ℕ). version_of m k < version_of (written m w) k) ((bytes_decides w.0 key).0 e) (risen m w))
      | false ↦ λ e. inr (written_elsewhere m w key e)
    ] in
    by (same_bytes w.0 key) refl

pub no_older-trans : (l m n : Objects) (key : List ℕ) → IsNoOlder l m key → IsNoOlder m n key → IsNoOlder l n key
no_older-trans l m n key (inl a) (inl b) = inl (omega (arith, a, b))
no_older-trans l m n key (inl a) (inr e) = let v : version_of n key ≡ version_of m key = ap (λ (o : ℕ × List ℕ). o.0) e in inl (omega (arith, a, v))
no_older-trans l m n key (inr d) (inl b) = let v : version_of m key ≡ version_of l key = ap (λ (o : ℕ × List ℕ). o.0) d in inl (omega (arith, b, v))
no_older-trans l m n key (inr d) (inr e) = inr (e ∙ d)

all_writes : (m : Objects) (ws : List (List ℕ × List ℕ)) (key : List ℕ) → IsNoOlder m (all_written m ws) key
all_writes m [] key = inr refl
all_writes m (w ∷ ws) key = no_older-trans m (written m w) (all_written (written m w) ws) key (one_write m w key) (all_writes (written m w) ws key)

one_update : (s : State) (u : Update) (key : List ℕ) → IsNoOlder s.objects (apply s u).objects key
unfolding apply
one_update s u key =
    let new : State = record { objects = all_written s.objects (eval s.objects u.command).0; kept = kept_with s u.client u.number (eval s.objects u.command).1 } in
    let by : (b : Bool) → IsNoOlder s.objects (cond b new s).objects key = elim [ true ↦ all_writes s.objects (eval s.objects u.command).0 key | false ↦ inr refl ] in
    by (is_new_to s u.client u.number)

pub more_updates : (s : State) (us : List Update) (key : List ℕ) → IsNoOlder s.objects (after_from s us).objects key
more_updates s [] key = inr refl
more_updates s (u ∷ us) key = no_older-trans s.objects (apply s u).objects (after_from (apply s u) us).objects key (one_update s u key) (more_updates (apply s u) us key)

pub no_older : (us vs : List Update) (key : List ℕ) → IsNoOlder (after us).objects (after (us ++ vs)).objects key
no_older us vs key =
    subst (λ (s : State). IsNoOlder (after us).objects s.objects key) (sym (after_from-append opening_state us vs)) (more_updates (after us) vs key)

pub versions_rise : (us vs : List Update) (key : List ℕ) → version_of (after us).objects key ≤ version_of (after (us ++ vs)).objects key
versions_rise us vs key =
    let by : IsNoOlder (after us).objects (after (us ++ vs)).objects key → version_of (after us).objects key ≤ version_of (after (us ++ vs)).objects key = elim [
      | inl a ↦ omega (arith, a)
      | inr e ↦ let v : version_of (after (us ++ vs)).objects key ≡ version_of (after us).objects key = ap (λ (o : ℕ × List ℕ). o.0) e in omega (arith, v)
    ] in
    by (no_older us vs key)

pub versions_tell : (us vs : List Update) (key : List ℕ) → version_of (after us).objects key ≡ version_of (after (us ++ vs)).objects key → object_of (after us).objects key ≡ object_of (after (us ++ vs)).objects key
versions_tell us vs key same =
    let by : IsNoOlder (after us).objects (after (us ++ vs)).objects key → object_of (after us).objects key ≡ object_of (after (us ++ vs)).objects key = elim [
      | inl a ↦ absurd (omega (arith, a, same))
      | inr e ↦ sym e
    ] in
    by (no_older us vs key)

-- the replies kept for a client after they are set, and for another client
pub kept_here : (s : State) (client : ℕ) (w : Window) → window_of (record s { kept = put_number s.kept client w }) client ≡ w
unfolding window_of
kept_here s client w =
    ap (λ (o : Option Window). unwrap_or o []) (find-put nat_cmp nat_cmp_total client client w s.kept ∙ ap (λ b. cond b (Some w) (find nat_cmp client s.kept)) ((eq_by_cmp_equiv nat_cmp_total).refl client))

pub put_elsewhere : (s : State) (client other : ℕ) (w : Window) → client ≢ other → window_of (record s { kept = put_number s.kept other w }) client ≡ window_of s client
unfolding window_of
put_elsewhere s client other w n =
    let apart : eq_by_cmp nat_cmp client other ≡ false = reported_apart (nat_cmp client other) (λ e. n (nat_cmp-IsAntisymmetric client other e)) in
    ap (λ (o : Option Window). unwrap_or o []) (find-put nat_cmp nat_cmp_total client other w s.kept ∙ ap (λ b. cond b (Some w) (find nat_cmp client s.kept)) apart)

-- a client's window depends only on the kept replies
same_window : (s t : State) (client : ℕ) → s.kept ≡ t.kept → window_of s client ≡ window_of t client
unfolding window_of
same_window s t client e = ap (λ (k : List (ℕ × Window)). unwrap_or (at_number k client) []) e

-- the replies kept for another client are unchanged
pub kept_elsewhere : (s : State) (u : Update) (client : ℕ) → client ≢ u.client → window_of (apply s u) client ≡ window_of s client
unfolding apply kept_with
kept_elsewhere s u client n =
    let w : Window = keep (window_of s u.client) u.number (eval s.objects u.command).1 in
    let new : State = record { objects = all_written s.objects (eval s.objects u.command).0; kept = put_number s.kept u.client w } in
    let put : window_of new client ≡ window_of s client = same_window new (record s { kept = put_number s.kept u.client w }) client refl ∙ put_elsewhere s client u.client w n in
    let by : (b : Bool) → window_of (cond b new s) client ≡ window_of s client = elim [ true ↦ put | false ↦ refl ] in
    by (is_new_to s u.client u.number)

pub said_elsewhere : (s : State) (u : Update) (client number : ℕ) → client ≢ u.client → said (apply s u) client number ≡ said s client number
said_elsewhere s u client number n = ap (λ k. said_of k number) (kept_elsewhere s u client n)

-- an update whose number is not new changes nothing
pub apply-old : (s : State) (u : Update) → is_new_to s u.client u.number ≡ false → apply s u ≡ s
unfolding apply
apply-old s u h = rw h refl

-- the replies kept for a client after a new update of its own
pub kept_applied : (s : State) (u : Update) → is_new_to s u.client u.number ≡ true → window_of (apply s u) u.client ≡ keep (window_of s u.client) u.number (eval s.objects u.command).1
unfolding apply kept_with
kept_applied s u new =
    let w : Window = keep (window_of s u.client) u.number (eval s.objects u.command).1 in
    let next : State = record { objects = all_written s.objects (eval s.objects u.command).0; kept = put_number s.kept u.client w } in
    rw new (same_window next (record s { kept = put_number s.kept u.client w }) u.client refl ∙ kept_here s u.client w)

-- an applied number is not new
pub applied_is_old : (s : State) (u : Update) → is_new_to (apply s u) u.client u.number ≡ false
applied_is_old s u =
    let reply : Reply = (eval s.objects u.command).1 in
    let by : (b : Bool) → is_new_to s u.client u.number ≡ b → is_new_to (apply s u) u.client u.number ≡ false = elim [
      | true ↦ λ e. ap (λ k. is_new k u.number) (kept_applied s u e)
          ∙ found_is_old (keep (window_of s u.client) u.number reply) u.number (ap is_some (kept_found (window_of s u.client) u.number reply e))
      | false ↦ λ e. ap (λ (t : State). is_new_to t u.client u.number) (apply-old s u e) ∙ e
    ] in
    by (is_new_to s u.client u.number) refl

-- ---- sorted windows

-- each client's window is sorted by number
abbrev pub HasRisingWindows : State → Type 0
HasRisingWindows s = (client : ℕ) → IsRising (window_of s client)

pub opening_rises : HasRisingWindows opening_state
unfolding window_of
opening_rises client = tt

pub apply_rises : (s : State) (u : Update) → HasRisingWindows s → HasRisingWindows (apply s u)
apply_rises s u h client =
    let reply : Reply = (eval s.objects u.command).1 in
    let own : is_new_to s u.client u.number ≡ true → IsRising (window_of (apply s u) u.client) = λ e. subst IsRising (sym (kept_applied s u e)) (rising_keep (window_of s u.client) u.number reply (h u.client)) in
    let by : (b : Bool) → is_new_to s u.client u.number ≡ b → IsRising (window_of (apply s u) client) = elim [
      | true ↦ λ e. ⊎_elim (λ same. subst (λ (c : ℕ). IsRising (window_of (apply s u) c)) (sym same) (own e)) (λ n. subst IsRising (sym (kept_elsewhere s u client n)) (h client)) (cases_eq client u.client)
      | false ↦ λ e. subst (λ (t : State). IsRising (window_of t client)) (sym (apply-old s u e)) (h client)
    ] in
    by (is_new_to s u.client u.number) refl

pub after_rises : (s : State) (us : List Update) → HasRisingWindows s → HasRisingWindows (after_from s us)
after_rises s [] h = h
after_rises s (u ∷ us) h = after_rises (apply s u) us (apply_rises s u h)

-- a number that is not new stays so after any update
pub old_after_one : (s : State) (u : Update) (client number : ℕ) → HasRisingWindows s → is_new_to s client number ≡ false → is_new_to (apply s u) client number ≡ false
old_after_one s u client number h old =
    let reply : Reply = (eval s.objects u.command).1 in
    let own : is_new_to s u.client u.number ≡ true → is_new_to s u.client number ≡ false → is_new_to (apply s u) u.client number ≡ false =
    λ e o. ap (λ k. is_new k number) (kept_applied s u e) ∙ old_stays (window_of s u.client) u.number number reply (h u.client) e o in
    let by : (b : Bool) → is_new_to s u.client u.number ≡ b → is_new_to (apply s u) client number ≡ false = elim [
      | true ↦ λ e. ⊎_elim
          (λ same. subst (λ (c : ℕ). is_new_to (apply s u) c number ≡ false) (sym same) (own e (subst (λ (c : ℕ). is_new_to s c number ≡ false) same old)))
          (λ n. ap (λ k. is_new k number) (kept_elsewhere s u client n) ∙ old)
          (cases_eq client u.client)
      | false ↦ λ e. ap (λ (t : State). is_new_to t client number) (apply-old s u e) ∙ old
    ] in
    by (is_new_to s u.client u.number) refl

pub old_after_more : (s : State) (us : List Update) (client number : ℕ) → HasRisingWindows s → is_new_to s client number ≡ false → is_new_to (after_from s us) client number ≡ false
old_after_more s [] client number h old = old
old_after_more s (u ∷ us) client number h old = old_after_more (apply s u) us client number (apply_rises s u h) (old_after_one s u client number h old)

-- a number that was requested once is never new again
pub never_new_again : (us vs : List Update) (client number : ℕ) → is_new_to (after us) client number ≡ false → is_new_to (after (us ++ vs)) client number ≡ false
never_new_again us vs client number old =
    ap (λ (t : State). is_new_to t client number) (after_from-append opening_state us vs) ∙ old_after_more (after us) vs client number (after_rises opening_state us opening_rises) old
