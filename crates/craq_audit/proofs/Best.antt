-- The first delivery of a message that was not sent, node by node.
use Rattle.std.proofs.Common.{◌≡◌, ◌<◌, ◌≤◌, ℕ, zero, suc, ◌+◌, List, [], ◌∷◌, ◌++◌, map, length, take, get_or, Option, Some, None, refl, sym, ap, arith}
use Rattle.std.specs.Prelude.{MatchOption, ⊤}
use Rattle.std.specs.List.{AllByRecursion}
use Rattle.std.specs.Borrow.{Bor}
use Rattle.std.proofs.lemmas.List.Elements.{Contains-append_left, Contains-push}
use Rattle.craq_names.proofs.Lists.{all_like}
use Rattle.craq_model.specs.declared.ask.Event.{Event}
use Rattle.craq_seat.specs.declared.journal.Record.{Record}
use Rattle.craq_seat.specs.Audits.{HasSender, IsFirstUnsent}
use Rattle.craq_seat.specs.Cells.{Celled}
use Rattle.craq_seat.specs.Merge.{Journals}
use Rattle.craq_audit.specs.Journals.{kept_of}
use Rattle.craq_audit.specs.Lookups.{IsBest, IsFirstNot, IsFirstOf, cells_of}

abbrev Kept : Type 0
Kept = ℕ × List (Record Event)

abbrev Sent : Journals → Kept → Type 0
Sent j n = AllByRecursion (HasSender j) n.1

all_push : {X : Type 0} (P : X → Type 0) (xs : List X) (x : X) → AllByRecursion P xs → P x → AllByRecursion P (xs ++ x ∷ [])
all_push P [] x h p = (p, tt)
all_push P (y ∷ xs) x h p = (h.0, all_push P xs x h.1 p)

-- already found at a lower node
pub best_stays : (j : Journals) (ns : List Kept) (n : Kept) (found : Option (ℕ × ℕ)) → ¬ MatchOption found ⊤ (λ f. n.0 < f.0) → IsBest j ns found → IsBest j (ns ++ n ∷ []) found
best_stays j ns n None h b = absurd (h tt)
best_stays j ns n (Some f) h b =
    record {
      records = b.records;
      journal = Contains-append_left ns (n ∷ []) (f.0, b.records) b.journal;
      first = b.first;
      lower = all_push (λ (k : Kept). k.0 < f.0 → Sent j k) ns n b.lower (λ l. absurd (h l));
    }

-- all messages of this node were sent
pub best_sent : (j : Journals) (ns : List Kept) (n : Kept) (found : Option (ℕ × ℕ)) → Sent j n → IsBest j ns found → IsBest j (ns ++ n ∷ []) found
best_sent j ns n None s b = all_push (Sent j) ns n b s
best_sent j ns n (Some f) s b =
    record {
      records = b.records;
      journal = Contains-append_left ns (n ∷ []) (f.0, b.records) b.journal;
      first = b.first;
      lower = all_push (λ (k : Kept). k.0 < f.0 → Sent j k) ns n b.lower (λ l. s);
    }

-- one was not, and this node is lower
pub best_new : (j : Journals) (ns : List Kept) (n : Kept) (found : Option (ℕ × ℕ)) (index : ℕ) → MatchOption found ⊤ (λ f. n.0 < f.0) → IsFirstNot (HasSender j) n.1 index → IsBest j ns found → IsBest j (ns ++ n ∷ []) (Some (n.0, index))
best_new j ns n None index l x b =
    record {
      records = n.1;
      journal = Contains-push ns n;
      first = x;
      lower = all_push (λ (k : Kept). k.0 < n.0 → Sent j k) ns n (all_like (Sent j) (λ (k : Kept). k.0 < n.0 → Sent j k) ns (λ k s h. s) b) (λ h. absurd (omega (arith, h)));
    }
best_new j ns n (Some f) index l x b =
    record {
      records = n.1;
      journal = Contains-push ns n;
      first = x;
      lower = all_push (λ (k : Kept). k.0 < n.0 → Sent j k) ns n (all_like (λ (k : Kept). k.0 < f.0 → Sent j k) (λ (k : Kept). k.0 < n.0 → Sent j k) ns (λ k s h. s (omega (arith, h, l))) b.lower) (λ h. absurd (omega (arith, h)));
    }

pub best_none : (j : Journals) → IsBest j [] None
best_none j = tt

pub first_of_all : (j : Journals) (node index : ℕ) → IsFirstOf j j.nodes node index → IsFirstUnsent j node index
first_of_all j node index h =
    record {
      records = h.records;
      journal = h.journal;
      unsent = h.first.not_so;
      earlier = h.first.earlier;
      lower = h.lower;
    }

-- the cells so far, and one more
pub one_more : {C : Type 0} (cs : List (Bor (Celled C Event))) (i : ℕ) (c : Bor (Celled C Event)) → i < length cs → c ≡ get_or cs i c → map (λ (x : Celled C Event). kept_of x) (cells_of (take (i + 1) cs)) ≡ map (λ (x : Celled C Event). kept_of x) (cells_of (take i cs)) ++ kept_of c.now ∷ []
one_more [] i c less is = absurd (omega (arith, less))
one_more (x ∷ cs) zero c less is = ap (λ (y : Bor (Celled _ Event)). kept_of y.now ∷ []) (sym is)
one_more (x ∷ cs) (suc i) c less is =
    let e : suc i + 1 ≡ suc (i + 1) = omega arith in
    rw (e, one_more cs i c (omega (arith, less)) is) refl

pub whole : {C : Type 0} (cs : List (Bor (Celled C Event))) (i : ℕ) → length cs ≤ i → take i cs ≡ cs
whole [] zero h = refl
whole [] (suc i) h = refl
whole (x ∷ cs) zero h = absurd (omega (arith, h))
whole (x ∷ cs) (suc i) h = ap (λ ys. x ∷ ys) (whole cs i (omega (arith, h)))
