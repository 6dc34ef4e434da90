-- Sending entries in runs: the finished messages and the remaining entries together are invariant.
use Rattle.std.proofs.Common.{◌≡◌, ℕ, suc, ◌+◌, ◌<◌, ◌≤◌, List, [], ◌∷◌, ◌++◌, length, drop, get_or, sym, ap, ◌∙◌, arith, append_assoc, length-append, add-one, drop-cons}
use Rattle.std.proofs.lemmas.List.{append-nil}
use Rattle.craq_commands.specs.declared.entry.Entry.{Entry}
use Rattle.craq_model.specs.declared.message.Body.{Body}
use Rattle.craq_model.specs.declared.message.Body.TheVariants as bodies
use Rattle.craq_model.specs.Sends.{entry_bodies}
use Rattle.craq_model.proofs.Runs.{full_body, last_body, no_body, one_body}

-- a run of more than one entry is a batch
pub batch_body : (xs : List Entry) → 1 < length xs → length xs ≤ 16 → bodies.Batch xs ∷ [] ≡ entry_bodies xs
batch_body [] some few = absurd (omega (arith, some))
batch_body (x ∷ []) some few = absurd (omega (arith, some))
batch_body (x ∷ y ∷ xs) some few = sym (last_body (x ∷ y ∷ xs) (omega arith) few)

pub entry_body : (xs ys : List Entry) (e : Entry) → xs ≡ ys ++ e ∷ [] → length xs ≤ 1 → bodies.Entry e ∷ [] ≡ entry_bodies xs
entry_body xs [] e is few = sym (one_body e) ∙ ap entry_bodies (sym is)
entry_body xs (y ∷ ys) e is few = absurd (omega (arith, few, ap length is, length-append ys (e ∷ [])))

pub empty_body : (xs : List Entry) → length xs ≡ 0 → [] ≡ entry_bodies xs
empty_body [] h = sym no_body
empty_body (x ∷ xs) h = absurd (omega (arith, h))

-- the finished messages and those of the remaining entries
abbrev pub with_rest : List Body → List Entry → List Body
with_rest bodies es = bodies ++ entry_bodies es

pub not_full : (made : List Body) (run rest : List Entry) (e : Entry) → with_rest made ((run ++ e ∷ []) ++ rest) ≡ with_rest made (run ++ e ∷ rest)
not_full made run rest e = ap (with_rest made) (append_assoc run (e ∷ []) rest)

pub full : (made : List Body) (run rest : List Entry) (e : Entry) → length (run ++ e ∷ []) ≡ 16 → with_rest (made ++ bodies.Batch (run ++ e ∷ []) ∷ []) rest ≡ with_rest made (run ++ e ∷ rest)
full made run rest e h =
    append_assoc made (bodies.Batch (run ++ e ∷ []) ∷ []) (entry_bodies rest)
    ∙ ap (λ (bs : List Body). made ++ bs) (sym (full_body (run ++ e ∷ []) rest h))
    ∙ not_full made run rest e

-- one more of the remaining entries
pub next : (made more : List Body) (run now : List Entry) (es rest : List Entry) (i : ℕ) (e : Entry) → i < length es → e ≡ get_or es i e
    → ((later : List Entry) → with_rest more (now ++ later) ≡ with_rest made (run ++ e ∷ later)) → with_rest more (now ++ (drop (i + 1) es ++ rest)) ≡ with_rest made (run ++ (drop i es ++ rest))
next made more run now es rest i e h is step =
    ap (λ n. with_rest more (now ++ (drop n es ++ rest))) (add-one i)
    ∙ step (drop (suc i) es ++ rest)
    ∙ ap (λ (l : List Entry). with_rest made (run ++ (l ++ rest))) (sym (drop-cons es i e h ∙ ap (λ (x : Entry). x ∷ drop (suc i) es) (sym is)))

-- two parts, and the rest of the run
pub all : (first second last : List Body) (one two es later : List Entry) → ((rest : List Entry) → with_rest first (one ++ rest) ≡ entry_bodies (es ++ rest))
    → ((rest : List Entry) → with_rest second (two ++ rest) ≡ with_rest first (one ++ (later ++ rest))) → last ≡ second ++ entry_bodies two → last ≡ entry_bodies (es ++ later)
all first second last one two es later f s e =
    e
    ∙ ap (with_rest second) (sym (append-nil two))
    ∙ s []
    ∙ ap (λ (l : List Entry). with_rest first (one ++ l)) (append-nil later)
    ∙ f later
