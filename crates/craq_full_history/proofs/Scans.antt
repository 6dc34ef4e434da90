-- An object after entries is the last that a scan of them finds.
use Rattle.std.proofs.Common.{◌≡◌, ◌<◌, ◌+◌, ℕ, suc, add-one, length, get_or, drop, drop-cons, Bool, true, false, cond, List, [], ◌∷◌, ◌++◌, Option, Some, unwrap_or, refl, sym, ap, ◌∙◌}
use Rattle.std.specs.Prelude.{◌==◌}
use Rattle.std.specs.Ordering.{nat_cmp, eq_by_cmp}
use Rattle.std.specs.Cmp.{eq_by_cmp_equiv, unsigned_ties}
use Rattle.std.specs.Cmp.Lexicographic.{nat_list_cmp_total, texts_ties}
use Rattle.std.specs.FinMap.Entries.{find, find-put}
use Rattle.craq_names.specs.Maps.{same_bytes, key_cmp, at_key}
use Rattle.craq_commands.specs.Objects.{Objects, object_of, set_object}
use Rattle.craq_commands.specs.declared.state.State.{State}
use Rattle.craq_commands.specs.SingleCopy.{with_writes, after_entry, after_entries}
use Rattle.craq_commands.specs.declared.entry.Entry.{Entry}
use Rattle.craq_commands.specs.declared.entry.Write.{Write}
use Rattle.craq_model.specs.Past.{values_in, values_after}
use Rattle.craq_full_history.specs.Scans.{last_value}

-- one step of a search, with the key equal or not
pub key_here : (es : Objects) (i : ℕ) (e : List ℕ × (ℕ × List ℕ)) (key : List ℕ) → i < length es → e ≡ get_or es i e → same_bytes key e.0 ≡ true → at_key (drop i es) key ≡ Some e.1
key_here es i e key h is test =
    ap (λ (xs : Objects). at_key xs key) (drop-cons es i e h ∙ ap (λ (x : List ℕ × (ℕ × List ℕ)). x ∷ drop (suc i) es) (sym is))
    ∙ ap (λ b. cond b (Some e.1) (find key_cmp key (drop (suc i) es))) (sym (texts_ties key e.0) ∙ test)

pub key_later : (es : Objects) (i : ℕ) (e : List ℕ × (ℕ × List ℕ)) (key : List ℕ) → i < length es → e ≡ get_or es i e → same_bytes key e.0 ≡ false → at_key (drop i es) key ≡ at_key (drop (i + 1) es) key
key_later es i e key h is test =
    ap (λ (xs : Objects). at_key xs key) (drop-cons es i e h ∙ ap (λ (x : List ℕ × (ℕ × List ℕ)). x ∷ drop (suc i) es) (sym is))
    ∙ ap (λ b. cond b (Some e.1) (find key_cmp key (drop (suc i) es))) (sym (texts_ties key e.0) ∙ test)
    ∙ ap (λ n. at_key (drop n es) key) (sym (add-one i))

-- the code's equality of numbers is the one by which maps are searched
pub same_numbers : (x y : ℕ) → (x == y) ≡ eq_by_cmp nat_cmp x y
same_numbers x y = unsigned_ties x y

pub last_value-append : (found : ℕ × List ℕ) (xs ys : List (ℕ × List ℕ)) → last_value found (xs ++ ys) ≡ last_value (last_value found xs) ys
unfolding last_value
last_value-append found [] ys = refl
last_value-append found (x ∷ xs) ys = last_value-append x xs ys

-- the two tests of equal keys agree, in either order
same_either_way : (k key : List ℕ) → eq_by_cmp key_cmp key k ≡ same_bytes k key
same_either_way k key = (eq_by_cmp_equiv nat_list_cmp_total).symm key k ∙ sym (texts_ties k key)

object_set : (m : Objects) (k : List ℕ) (version : ℕ) (value key : List ℕ) → object_of (set_object m k version value) key ≡ cond (same_bytes k key) (version, value) (object_of m key)
unfolding object_of set_object
object_set m k version value key =
    let split : (b : Bool) → unwrap_or (cond b (Some (version, value)) (find key_cmp key m)) (0, []) ≡ cond b (version, value) (unwrap_or (find key_cmp key m) (0, [])) = elim [ true ↦ refl | false ↦ refl ] in
    ap (λ (o : Option (ℕ × List ℕ)). unwrap_or o (0, [])) (find-put key_cmp nat_list_cmp_total key k (version, value) m)
    ∙ split (eq_by_cmp key_cmp key k)
    ∙ ap (λ b. cond b (version, value) (object_of m key)) (same_either_way k key)

object_written : (m : Objects) (ws : List Write) (key : List ℕ) → object_of (with_writes m ws) key ≡ last_value (object_of m key) (values_in ws key)
unfolding last_value values_in
object_written m [] key = refl
object_written m (w ∷ ws) key =
    let found : ℕ × List ℕ = object_of m key in
    let split : (b : Bool) → last_value (cond b (w.version, w.value) found) (values_in ws key) ≡ last_value found (cond b ((w.version, w.value) ∷ values_in ws key) (values_in ws key)) = elim [ true ↦ refl | false ↦ refl ] in
    object_written (set_object m w.key w.version w.value) ws key
    ∙ ap (λ x. last_value x (values_in ws key)) (object_set m w.key w.version w.value key)
    ∙ split (same_bytes w.key key)

pub last_of_values : (s : State) (es : List Entry) (key : List ℕ) → object_of (after_entries s es).objects key ≡ last_value (object_of s.objects key) (values_after es key)
unfolding last_value values_after after_entry
last_of_values s [] key = refl
last_of_values s (e ∷ es) key =
    last_of_values (after_entry s e) es key
    ∙ ap (λ x. last_value x (values_after es key)) (object_written s.objects e.writes key)
    ∙ sym (last_value-append (object_of s.objects key) (values_in e.writes key) (values_after es key))
