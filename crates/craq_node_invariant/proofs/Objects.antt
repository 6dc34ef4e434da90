-- Each version of an object that a node holds may be returned to a reader.
use Rattle.std.proofs.Common.{◌≤◌, ℕ, ◌-◌, List, [], ◌∷◌, nat_le}
use Rattle.std.proofs.lemmas.Bool.{cond_both}
use Rattle.std.specs.List.{AllByRecursion}
use Rattle.craq_names.specs.Maps.{same_bytes}
use Rattle.craq_names.proofs.Lists.{all_append, all_drop}
use Rattle.craq_commands.specs.declared.entry.Entry.{Entry}
use Rattle.craq_commands.specs.declared.entry.Write.{Write}
use Rattle.craq_model.specs.Past.{values_in, values_after, newest_within}
use Rattle.craq_model.specs.Plain.{Plain, newest, clean, newest_object, clean_object, object_within, entries_after}
use Rattle.craq_model.specs.Encodable.{IsObjectRead, IsEncodableEntry}
use Rattle.craq_node_invariant.specs.Sound.{IsSound}
use Rattle.craq_node_invariant.proofs.States.{written_read, object_is_read, newest_is, clean_is}

abbrev AreRead : List (ℕ × List ℕ) → Type 0
AreRead vs = AllByRecursion IsObjectRead vs

values_read : (ws : List Write) (key : List ℕ) → AllByRecursion (λ (w : Write). 1 ≤ w.version) ws → AreRead (values_in ws key)
unfolding values_in
values_read [] key a = tt
values_read (w ∷ ws) key a =
    cond_both (same_bytes w.key key) ((w.version, w.value) ∷ values_in ws key) (values_in ws key) (λ (vs : List (ℕ × List ℕ)). AreRead vs)
    (λ e. (written_read (w.version, w.value) a.0, values_read ws key a.1))
    (λ e. values_read ws key a.1)

values_after_read : (es : List Entry) (key : List ℕ) → AllByRecursion IsEncodableEntry es → AreRead (values_after es key)
unfolding values_after
values_after_read [] key a = tt
values_after_read (e ∷ es) key a = all_append IsObjectRead (values_in e.writes key) (values_after es key) (values_read e.writes key (a.0).versions) (values_after_read es key a.1)

within_read : (bound : ℕ) (found : ℕ × List ℕ) (vs : List (ℕ × List ℕ)) → IsObjectRead found → AreRead vs → IsObjectRead (newest_within bound found vs)
unfolding newest_within
within_read bound found [] f a = f
within_read bound found (v ∷ vs) f a =
    cond_both (nat_le v.0 bound) (newest_within bound v vs) found (λ (o : ℕ × List ℕ). IsObjectRead o) (λ e. within_read bound v vs a.0 a.1) (λ e. f)

pub newest_read : (p : Plain) (key : List ℕ) → IsSound p → IsObjectRead (newest_object p key)
newest_read p key s = object_is_read (newest p).objects key (newest_is p s).versions

clean_read : (p : Plain) (key : List ℕ) → IsSound p → IsObjectRead (clean_object p key)
clean_read p key s = object_is_read (clean p).objects key (clean_is p s).versions

pub bounded_read : (p : Plain) (key : List ℕ) (bound : ℕ) → IsSound p → IsObjectRead (object_within p key bound)
unfolding clean entries_after
bounded_read p key bound s =
    within_read bound (clean_object p key) (values_after (entries_after p p.past.acknowledged) key) (clean_read p key s)
    (values_after_read (entries_after p p.past.acknowledged) key (all_drop IsEncodableEntry (p.past.acknowledged - p.past.base) p.past.entries s.entries))
