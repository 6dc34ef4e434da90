-- Lookups in an account, as it grows.
use Rattle.std.proofs.Common.{◌≡◌, ◌+◌, ◌<◌, ◌≤◌, ℕ, suc, add-one, Bool, true, false, List, [], ◌∷◌, ◌++◌, length, get_or, map, drop, drop-cons, Option, Some, None, refl, sym, ap, ◌∙◌}
use Rattle.std.specs.Prelude.{◌&&◌, ◌==◌, unwrap_or}
use Rattle.std.specs.List.{list_any}
use Rattle.std.specs.Option.{option_or}
use Rattle.std.specs.BTreeMap.{BTreeMap, get, is_at}
use Rattle.std.proofs.lemmas.List.{at_drop_all}
use Rattle.craq_commands.specs.declared.entry.Entry.{Entry}
use Rattle.craq_commands.specs.declared.entry.Write.{Write}
use Rattle.craq_names.specs.Maps.{same_bytes}
use Rattle.craq_model.specs.declared.ask.Ask.{Ask}
use Rattle.craq_runs.specs.declared.explanation.Place.{Place}
use Rattle.craq_runs.specs.declared.run.Move.TheVariants as moves
use Rattle.craq_runs.specs.declared.explanation.Explanation.{Explanation}
use Rattle.craq_runs.specs.Explain.{Account, ask_number, explanation_in, wrote}
use Rattle.craq_runs.specs.Seen.{Asked, ask_in, ask_with, is_ticket}
use Rattle.craq_explain.specs.Firsts.{Tells, name_cmp, number_if, write_cmp}
use Rattle.craq_explain.specs.Tables.{asked_at, pending_of, first_written, origin}
use Rattle.craq_explain.proofs.FirstPuts.{either, first_push, name_ties, none_put, write_ties}

pub asked_push : (asks : List Asked) (number node ticket : ℕ) (ask : Ask) (name : ℕ × ℕ) → asked_at (asks ++ ask_in number (Some ticket) (moves.Ask node ask)) name ≡ option_or (asked_at asks name) (number_if (is_at (name_cmp (node, ticket)) name) number)
unfolding asked_at ask_with
asked_push asks number node ticket ask name =
    first_push (λ (a : Asked). (a.node == name.0) && is_ticket a.ticket name.1) (λ (a : Asked). a.move) asks (record { move = number; node = node; ticket = Some ticket; ask = ask })
    ∙ ap (λ b. option_or (asked_at asks name) (number_if b number)) (name_ties (node, ticket) name)

never : (b : Bool) (x : Option ℕ) (number : ℕ) → option_or x (number_if (b && false) number) ≡ x
never true x number = none_put x number
never false x number = none_put x number

-- a request without a ticket is not found
pub asked_stay : (asks : List Asked) (number node : ℕ) (ask : Ask) (name : ℕ × ℕ) → asked_at (asks ++ ask_in number None (moves.Ask node ask)) name ≡ asked_at asks name
unfolding asked_at ask_with
asked_stay asks number node ask name =
    first_push (λ (a : Asked). (a.node == name.0) && is_ticket a.ticket name.1) (λ (a : Asked). a.move) asks (record { move = number; node = node; ticket = None; ask = ask })
    ∙ never (node == name.0) (asked_at asks name) number

pub pending_push : (places : List Place) (p : Place) (name : ℕ × ℕ) → pending_of (places ++ p ∷ []) name ≡ option_or (pending_of places name) (number_if (is_at (name_cmp (p.node, p.ticket)) name) p.position)
unfolding pending_of
pending_push places p name =
    first_push (λ (x : Place). (x.node == name.0) && (x.ticket == name.1)) (λ (x : Place). x.position) places p
    ∙ ap (λ b. option_or (pending_of places name) (number_if b p.position)) (name_ties (p.node, p.ticket) name)

pub written_push : (entries : List Entry) (e : Entry) (write : List ℕ × ℕ) → first_written (entries ++ e ∷ []) write ≡ option_or (first_written entries write) (number_if (wrote write.0 write.1 e) e.position)
unfolding first_written
written_push entries e write = first_push (wrote write.0 write.1) (λ (x : Entry). x.position) entries e

-- one of the writes has this version of the key
abbrev pub any_wrote : List Write → List ℕ × ℕ → Bool
any_wrote ws q = list_any (λ (x : Write). same_bytes x.key q.0 && (x.version == q.1)) ws

-- one more write is noted
pub write_noted : (ws : List Write) (i : ℕ) (w : Write) (position : ℕ) (x y all : Option ℕ) (q : List ℕ × ℕ) → i < length ws → w ≡ get_or ws i w → y ≡ option_or x (number_if (is_at (write_cmp (w.key, w.version)) q) position) → option_or x (number_if (any_wrote (drop i ws) q) position) ≡ all → option_or y (number_if (any_wrote (drop (i + 1) ws) q) position) ≡ all
write_noted ws i w position x y all q h is put so =
    let at : drop i ws ≡ w ∷ drop (i + 1) ws = drop-cons ws i w h ∙ ap (λ (v : Write). v ∷ drop (suc i) ws) (sym is) ∙ ap (λ n. w ∷ drop n ws) (sym (add-one i)) in
    ap (λ (v : Option ℕ). option_or v (number_if (any_wrote (drop (i + 1) ws) q) position)) (put ∙ ap (λ b. option_or x (number_if b position)) (sym (write_ties (w.key, w.version) q)))
    ∙ either x (same_bytes w.key q.0 && (w.version == q.1)) (any_wrote (drop (i + 1) ws) q) position
    ∙ ap (λ (vs : List Write). option_or x (number_if (any_wrote vs q) position)) (sym at)
    ∙ so

pub writes_noted : (ws : List Write) (i position : ℕ) (x all : Option ℕ) (q : List ℕ × ℕ) → length ws ≤ i → option_or x (number_if (any_wrote (drop i ws) q) position) ≡ all → x ≡ all
writes_noted ws i position x all q h so =
    sym (none_put x position)
    ∙ sym (at_drop_all (λ (vs : List Write). option_or x (number_if (any_wrote vs q) position)) ws i h)
    ∙ so

-- the number of an entry's request
pub numbered_ask : (asks : List Asked) (m : BTreeMap (ℕ × ℕ) ℕ) (e : Entry) → Tells name_cmp m (asked_at asks) → unwrap_or (get name_cmp m (origin e)) 0 ≡ ask_number asks e
unfolding ask_number asked_at
numbered_ask asks m e tells = ap (λ (n : Option ℕ). unwrap_or n 0) (tells (origin e))

pub all_numbered : (asks : List Asked) (m : BTreeMap (ℕ × ℕ) ℕ) (entries : List Entry) → Tells name_cmp m (asked_at asks) → map (λ (name : ℕ × ℕ). unwrap_or (get name_cmp m name) 0) (map origin entries) ≡ map (ask_number asks) entries
all_numbered asks m [] tells = refl
all_numbered asks m (e ∷ es) tells =
    ap (λ n. n ∷ map (λ (name : ℕ × ℕ). unwrap_or (get name_cmp m name) 0) (map origin es)) (numbered_ask asks m e tells)
    ∙ ap (λ (ns : List ℕ). ask_number asks e ∷ ns) (all_numbered asks m es tells)

pub origins_push : (entries : List Entry) (e : Entry) → map origin (entries ++ e ∷ []) ≡ map origin entries ++ origin e ∷ []
origins_push [] e = refl
origins_push (x ∷ xs) e = ap (λ (ns : List (ℕ × ℕ)). origin x ∷ ns) (origins_push xs e)

-- the explanation from an account
pub reported : (w : Account) (asks lens : List ℕ) (places : List Place) → asks ≡ map (ask_number w.asks) w.committed → lens ≡ w.lens → places ≡ w.places → (let e : Explanation = record { asks = asks; lens = lens; places = places } in e) ≡ explanation_in w
reported w asks lens places a l p =
    ap (λ (x : List ℕ). let e : Explanation = record { asks = x; lens = lens; places = places } in e) a
    ∙ ap (λ (x : List ℕ). let e : Explanation = record { asks = map (ask_number w.asks) w.committed; lens = x; places = places } in e) l
    ∙ ap (λ (x : List Place). let e : Explanation = record { asks = map (ask_number w.asks) w.committed; lens = w.lens; places = x } in e) p
