-- The test of recovery decides it.
use Rattle.std.proofs.Common.{◌≡◌, ℕ, ◌==◌, true, ◌&&◌, List, [], ◌∷◌, Option, Some, None, refl, ap, ◌∙◌}
use Rattle.std.proofs.lemmas.Bool.{and_parts, eqb-true}
use Rattle.std.specs.List.{AllByRecursion}
use Rattle.craq_model.specs.Plain.{Plain}
use Rattle.craq_runs.specs.Chain.{Chain, node_at}
use Rattle.craq_recovery.specs.Recovered.{HasRecovered, ServesAt, are_same, has_recovered, is_none, is_serving, serve_all}

same_ids : (ms ns : List ℕ) → are_same ms ns ≡ true → ms ≡ ns
same_ids [] [] h = refl
same_ids [] (n ∷ ns) h = absurd (cc)
same_ids (m ∷ ms) [] h = absurd (cc)
same_ids (m ∷ ms) (n ∷ ns) h =
    let t : ((m == n) ≡ true) × (are_same ms ns ≡ true) = and_parts (m == n) (are_same ms ns) h in
    ap (λ k. k ∷ ms) (eqb-true m n t.0) ∙ ap (λ l. n ∷ l) (same_ids ms ns t.1)

none_there : {A : Type 0} (l : List A) → is_none l ≡ true → l ≡ []
none_there [] h = refl
none_there (x ∷ xs) h = absurd (cc)

serves : (c : Chain) (id : ℕ) (o : Option Plain) → node_at c.nodes id ≡ o → is_serving c o ≡ true → ServesAt c id
serves c id None at h = absurd (cc)
serves c id (Some p) at h =
    let t1 : _ = and_parts p.running ((p.epoch == c.epoch) && (are_same p.members c.members && (p.ready && (is_none p.waiting_updates && is_none p.waiting_reads)))) h in
    let t2 : _ = and_parts (p.epoch == c.epoch) (are_same p.members c.members && (p.ready && (is_none p.waiting_updates && is_none p.waiting_reads))) t1.1 in
    let t3 : _ = and_parts (are_same p.members c.members) (p.ready && (is_none p.waiting_updates && is_none p.waiting_reads)) t2.1 in
    let t4 : _ = and_parts p.ready (is_none p.waiting_updates && is_none p.waiting_reads) t3.1 in
    let t5 : _ = and_parts (is_none p.waiting_updates) (is_none p.waiting_reads) t4.1 in (
      p,
      at,
      record {
        running = t1.0;
        epoch = eqb-true p.epoch c.epoch t2.0;
        members = same_ids p.members c.members t3.0;
        ready = t4.0;
        updates = none_there p.waiting_updates t5.0;
        reads = none_there p.waiting_reads t5.1;
      },
    )

all_serve : (c : Chain) (ids : List ℕ) → serve_all c ids ≡ true → AllByRecursion (ServesAt c) ids
all_serve c [] h = tt
all_serve c (id ∷ ids) h =
    let t : _ = and_parts (is_serving c (node_at c.nodes id)) (serve_all c ids) h in
    (serves c id (node_at c.nodes id) refl t.0, all_serve c ids t.1)

pub recovered : (c : Chain) → has_recovered c ≡ true → HasRecovered c
recovered c h = all_serve c c.members h
