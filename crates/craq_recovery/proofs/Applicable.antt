-- The entries that follow a node's history in its predecessor's are applicable at the node.
use Rattle.std.proofs.Common.{◌≡◌, ℕ, suc, ◌+◌, ◌==◌, Bool, true, ◌&&◌, List, [], ◌∷◌, ◌++◌, append_assoc, map, length, Option, Some, None, slice_get, refl, ap, sym, subst, ◌∙◌, arith}
use Rattle.std.proofs.lemmas.Bool.{eq-eqb}
use Rattle.std.proofs.lemmas.List.{length-append}
use Rattle.std.specs.List.{AllByRecursion, list_all}
use Rattle.craq_commands.specs.declared.entry.Entry.{Entry}
use Rattle.craq_commands.specs.declared.entry.Write.{Write}
use Rattle.craq_commands.specs.declared.state.State.{State}
use Rattle.craq_commands.specs.Evaluation.{eval}
use Rattle.craq_commands.specs.Objects.{Objects, version_of}
use Rattle.craq_commands.specs.SingleCopy.{after_entries, after_entry, is_new_to, opening_state}
use Rattle.craq_model.specs.Asks.{versioned_write}
use Rattle.craq_model.specs.Deliveries.{are_applicable, is_applicable}
use Rattle.craq_model.specs.Plain.{Plain, id_of, length_of, newest}
use Rattle.craq_protocol.specs.Machine.{MachineState, entry_at}
use Rattle.craq_protocol.specs.Promises.{IsPrefix, IsReached}
use Rattle.craq_refinement.specs.Follows.{Follows, IsPlaced, NodeFollows, seen_of}
use Rattle.craq_refinement.proofs.Lists.{entry_at_length}
use Rattle.craq_refinement.proofs.Worlds.{history_length}
use Rattle.craq_runs.specs.Chain.{Chain}
use Rattle.craq_runs.specs.Explain.{Account, opening_account}
use Rattle.craq_runs.specs.Seen.{Asked}
use Rattle.craq_updates.specs.ValidEntries.{AllValid, IsValidEntry}
use Rattle.craq_updates.proofs.Explained.{chain_of_account}
use Rattle.craq_updates.proofs.Known.{Known, newest_is}
use Rattle.craq_updates.proofs.Machine.{Held}
use Rattle.craq_updates.proofs.Runs.{KnownRun, known_run, run_account}
use Rattle.craq_protocol.specs.Machine as machine
use Rattle.craq_recovery.proofs.Extending.{IsReachedBy}

-- ---- valid entries are applicable

both_true : (a b : Bool) → a ≡ true → b ≡ true → (a && b) ≡ true
both_true a b h k = ap (λ x. x && b) h ∙ k

next_versions : (m : Objects) (ws : List (List ℕ × List ℕ)) → list_all (λ (w : Write). w.version == version_of m w.key + 1) (map (versioned_write m) ws) ≡ true
next_versions m [] = refl
next_versions m (w ∷ ws) =
    both_true (version_of m w.0 + 1 == version_of m w.0 + 1) (list_all (λ (w : Write). w.version == version_of m w.key + 1) (map (versioned_write m) ws)) (eq-eqb (version_of m w.0 + 1) (version_of m w.0 + 1) refl) (next_versions m ws)

valid_applies : (asked : List Asked) (s : State) (e : Entry) → IsValidEntry asked s e → is_applicable s e ≡ true
unfolding is_applicable
valid_applies asked s e g =
    let L : List Write → Type 0 = λ l. list_all (λ (w : Write). w.version == version_of s.objects w.key + 1) l ≡ true in
    both_true (list_all (λ (w : Write). w.version == version_of s.objects w.key + 1) e.writes) (is_new_to s e.client e.number) (subst L (sym g.writes) (next_versions s.objects (eval s.objects g.update.command).0)) (ap (λ c. is_new_to s c e.number) g.by.client ∙ (ap (λ n. is_new_to s g.update.client n) g.by.number ∙ g.new))

pub all_apply : (asked : List Asked) (s : State) (es : List Entry) → AllValid asked s es → are_applicable s es ≡ true
all_apply asked s [] g = refl
all_apply asked s (e ∷ es) g = both_true (is_applicable s e) (are_applicable (after_entry s e) es) (valid_applies asked s e g.0) (all_apply asked (after_entry s e) es g.1)

pub valid_back : (asked : List Asked) (s : State) (xs ys : List Entry) → AllValid asked s (xs ++ ys) → AllValid asked (after_entries s xs) ys
valid_back asked s [] ys g = g
valid_back asked s (x ∷ xs) ys g = valid_back asked (after_entry s x) xs ys g.1

valid_front : (asked : List Asked) (s : State) (xs ys : List Entry) → AllValid asked s (xs ++ ys) → AllValid asked s xs
valid_front asked s [] ys g = tt
valid_front asked s (x ∷ xs) ys g = (g.0, valid_front asked (after_entry s x) xs ys g.1)

-- ---- entries that follow a part of a history

abbrev pub StandIn : List Entry → List Entry → Type 0
StandIn history es = AllByRecursion (λ (e : Entry). entry_at history e.position ≡ Some e) es

nothing_there : {A : Type 0} (front : List A) → slice_get (front ++ []) (length front) ≡ None
nothing_there [] = refl
nothing_there (x ∷ front) = nothing_there front

none_at_end : {A : Type 0} (front : List A) (place : ℕ) → place ≡ suc (length front) → entry_at (front ++ []) place ≡ None
unfolding entry_at
none_at_end front place e = ap (entry_at (front ++ [])) e ∙ nothing_there front

some_same : {A : Type 0} (x y : A) (o : Option A) → o ≡ Some x → o ≡ Some y → x ≡ y
some_same x y o a b = cc

follow_on : (front rest es : List Entry) → IsPlaced (length front) es → StandIn (front ++ rest) es → IsPrefix es rest
follow_on front rest [] p a = record { rest = rest; is = refl }
follow_on front [] (e ∷ es) p a = let here : entry_at (front ++ []) e.position ≡ Some e = a.0 in let none : entry_at (front ++ []) e.position ≡ None = none_at_end front e.position p.0 in absurd (cc)
follow_on front (r ∷ rest) (e ∷ es) p a =
    let same : e ≡ r = some_same e r (entry_at (front ++ r ∷ rest) e.position) a.0 (entry_at_length front r rest e.position p.0) in
    let longer : suc (length front) ≡ length (front ++ r ∷ []) = omega (arith, length-append front (r ∷ [])) in
    let P : ℕ → Type 0 = λ n. IsPlaced n es in
    let S : List Entry → Type 0 = λ l. StandIn l es in
    let more : IsPrefix es rest = follow_on (front ++ r ∷ []) rest es (subst P longer p.1) (subst S (sym (append_assoc front (r ∷ []) rest)) a.1) in
    record { rest = more.rest; is = ap (λ x. x ∷ (es ++ more.rest)) same ∙ ap (λ l. r ∷ l) more.is }

fit_between : (asked : List Asked) (held whole es : List Entry) → AllValid asked opening_state whole → IsPrefix held whole → IsPlaced (length held) es → StandIn whole es
    → are_applicable (after_entries opening_state held) es ≡ true
fit_between asked held whole es g p placed stand =
    let S : List Entry → Type 0 = λ l. StandIn l es in
    let G : List Entry → Type 0 = λ l. AllValid asked opening_state l in
    let next : IsPrefix es p.rest = follow_on held p.rest es placed (subst S (sym p.is) stand) in
    let H : List Entry → Type 0 = λ l. AllValid asked (after_entries opening_state held) l in
    let rest : AllValid asked (after_entries opening_state held) p.rest = valid_back asked opening_state held p.rest (subst G (sym p.is) g) in
    all_apply asked (after_entries opening_state held) es (valid_front asked (after_entries opening_state held) es next.rest (subst H (sym next.is) rest))

-- ---- a world that stands for the chain, in which each entry that is held is valid

pub record Explained (d : Chain) : Type 0 where
  pub asked : List Asked
  pub world : MachineState Entry
  pub reached : IsReached world
  pub follows : Follows d world
  pub valid_entry : (id : ℕ) → AllValid asked opening_state (world.history id)

pub explained : (chain : ℕ) (d : Chain) → IsReachedBy chain d → Explained d
explained chain d r =
    let k : KnownRun (opening_account chain r.run.members) (machine.initial_state r.run.members) r.run.moves (run_account chain r.run) = known_run chain r.run r.typed in
    let a : Account = run_account chain r.run in
    let n : Known a k.world = k.known in
    let same : a.chain ≡ d = chain_of_account r.run.moves (opening_account chain r.run.members) ∙ r.leads in
    let F : Chain → Type 0 = λ c. Follows c k.world in
    let h : Held (AllValid a.asks opening_state) k.world = n.held in
    record { asked = a.asks; world = k.world; reached = n.reached; follows = subst F same n.follows; valid_entry = h.histories }

-- the node takes the entries
pub fits : (asked : List Asked) (w : MachineState Entry) (q : Plain) (whole es : List Entry) → NodeFollows w (seen_of q) → AllValid asked opening_state whole
    → IsPrefix (w.history (id_of q)) whole → IsPlaced (length_of q) es → StandIn whole es → are_applicable (newest q) es ≡ true
fits asked w q whole es n g p placed stand =
    let P : ℕ → Type 0 = λ k. IsPlaced k es in
    let S : State → Type 0 = λ s. are_applicable s es ≡ true in
    subst S (sym (newest_is q n)) (fit_between asked (w.history (id_of q)) whole es g p (subst P (sym (history_length n.history)) placed) stand)
