-- Computes the element that a choice selects among all that are enabled.
use Rattle.std.proofs.Common.{◌≡◌, ◌+◌, ◌-◌, ◌%◌, ◌<◌, ◌≤◌, ◌^◌, ◌++◌, ℕ, zero, suc, min, List, [], ◌∷◌, map, length, slice_get, option_map, Option, Some, inl, inr, sym, ap, arith, ◌∙◌, length-append, mod-eq_of_lt}
use Rattle.std.specs.List.{range_with_len}
use Rattle.std.proofs.lemmas.List.{length-map}
use Rattle.std.proofs.lemmas.List.FromFn.{length-range_with_len}
use Rattle.std.proofs.lemmas.Bool.Decides.{leb_tells}
use Rattle.std.proofs.lemmas.Option.{slice_get-map}
use Rattle.craq_runs.specs.Chain.{Chain}
use Rattle.craq_script.specs.declared.line.ScriptLine.{ScriptLine}
use Rattle.craq_script.specs.declared.line.ScriptLine.TheVariants as lines
use Rattle.craq_schedules.specs.Drawn.{events, next_of, offers, picked, running_ids}

-- the arrivals come first, then the ticks
arrival_at : (first sent place : ℕ) (others : List ScriptLine) → place < sent → slice_get (map lines.Deliver (range_with_len first sent) ++ others) place ≡ Some (lines.Deliver (first + place))
arrival_at first zero place others h = absurd (omega (arith, h))
arrival_at first (suc sent) zero others h = let e : first ≡ first + 0 = omega arith in ap (λ n. Some (lines.Deliver n)) e
arrival_at first (suc sent) (suc place) others h =
    let e : first + 1 + place ≡ first + suc place = omega arith in
    arrival_at (first + 1) sent place others (omega (arith, h)) ∙ ap (λ n. Some (lines.Deliver n)) e

after_arrivals : (first sent place : ℕ) (others : List ScriptLine) → slice_get (map lines.Deliver (range_with_len first sent) ++ others) (sent + place) ≡ slice_get others place
after_arrivals first zero place others = let e : 0 + place ≡ place = omega arith in ap (λ n. slice_get others n) e
after_arrivals first (suc sent) place others =
    let e : suc sent + place ≡ suc (sent + place) = omega arith in
    ap (λ n. slice_get (map lines.Deliver (range_with_len first (suc sent)) ++ others) n) e ∙ after_arrivals (first + 1) sent place others

pub arrival : (sent place : ℕ) (running : List ℕ) → place < sent → slice_get (events sent running) place ≡ Some (lines.Deliver (place + 1))
arrival sent place running h =
    let e : 1 + place ≡ place + 1 = omega arith in
    arrival_at 1 sent place (map lines.Tick running) h ∙ ap (λ n. Some (lines.Deliver n)) e

pub tick_at : (sent place : ℕ) (running : List ℕ) → sent ≤ place → slice_get (events sent running) place ≡ option_map lines.Tick (slice_get running (place - sent))
tick_at sent place running h =
    let e : place ≡ sent + (place - sent) = omega (arith, h) in
    ap (λ n. slice_get (events sent running) n) e ∙ after_arrivals 1 sent (place - sent) (map lines.Tick running) ∙ slice_get-map lines.Tick running (place - sent)

pub how_many : (sent : ℕ) (running : List ℕ) → length (events sent running) ≡ sent + length running
how_many sent running = simp (length-append, length-map, length-range_with_len)

-- a count too large for 64 bits can be replaced by the greatest number: no choice reaches it
pub same_place : (choice count counted : ℕ) → choice < 2 ^ 32 → counted ≡ min count (2 ^ 64 - 1) → choice % counted ≡ choice % count
same_place choice count counted h e =
    elim (leb_tells count (2 ^ 64 - 1)) [
      | inl p ↦ let same : counted ≡ count = omega (arith, e, p.1) in ap (λ n. choice % n) same
      | inr p ↦
          let below : choice < counted = omega (arith, e, h, p.1) in
          let within : choice < count = omega (arith, h, p.1) in
          mod-eq_of_lt below ∙ sym (mod-eq_of_lt within)
    ]

-- an event, with the lines left after it
abbrev pub beside : List ScriptLine → ScriptLine → ScriptLine × List ScriptLine
beside left event = (event, left)

-- the element that a choice selects if no line is left
pub alone : (happening : List ScriptLine) (choice : ℕ) → picked (offers [] happening) choice ≡ option_map (λ event. (event, [])) (slice_get happening (choice % length happening))
alone happening choice =
    ap (λ n. slice_get (offers [] happening) (choice % n)) (length-map happening (beside [])) ∙ slice_get-map (beside []) happening (choice % length happening)

-- the element that a choice selects if a line is left
pub line_first : (line : ScriptLine) (left happening : List ScriptLine) (choice : ℕ) → choice % (length happening + 1) ≡ 0 → picked (offers (line ∷ left) happening) choice ≡ Some (line, left)
line_first line left happening choice h =
    let count : length (offers (line ∷ left) happening) ≡ length happening + 1 = omega (arith, length-map happening (beside (line ∷ left))) in
    ap (λ n. slice_get (offers (line ∷ left) happening) n) (ap (λ n. choice % n) count ∙ h)

pub event_later : (line : ScriptLine) (left happening : List ScriptLine) (choice place : ℕ) → choice % (length happening + 1) ≡ place → 0 < place → picked (offers (line ∷ left) happening) choice ≡ option_map (λ event. (event, line ∷ left)) (slice_get happening (place - 1))
event_later line left happening choice place h p =
    let count : length (offers (line ∷ left) happening) ≡ length happening + 1 = omega (arith, length-map happening (beside (line ∷ left))) in
    let at : place ≡ suc (place - 1) = omega (arith, p) in
    ap (λ n. slice_get (offers (line ∷ left) happening) n) (ap (λ n. choice % n) count ∙ h ∙ at) ∙ slice_get-map (beside (line ∷ left)) happening (place - 1)

-- the counts made before a choice selects, in numbers that saturate at the greatest
pub record IsCounted (c : Chain) (choice wide sent counted : ℕ) (running : List ℕ) : Type 0 where
  pub is_wide : wide ≡ choice
  pub is_small : choice < 2 ^ 32
  pub is_sent : sent ≡ length c.messages
  pub are_running : running ≡ running_ids c.nodes
  pub is_counted : counted ≡ min (sent + length running) (2 ^ 64 - 1)

-- the element that a choice selects, by these counts
pub none_left : (c : Chain) (lines : List ScriptLine) (choice wide sent counted : ℕ) (running : List ℕ) (event : Option ScriptLine) → IsCounted c choice wide sent counted running → length lines ≡ 0 → event ≡ slice_get (events sent running) (wide % counted) → next_of c lines choice ≡ option_map (beside lines) event
none_left c (line ∷ left) choice wide sent counted running event k l e = absurd (omega (arith, l))
none_left c [] choice wide sent counted running event k l e =
    let place : wide % counted ≡ choice % length (events sent running) = ap (λ n. n % counted) k.is_wide ∙ same_place choice (sent + length running) counted k.is_small k.is_counted ∙ ap (λ n. choice % n) (sym (how_many sent running)) in
    rw (← k.is_sent, ← k.are_running, e, place) (alone (events sent running) choice)

-- with a line left, there is one more element
place_of : (c : Chain) (choice wide sent counted most : ℕ) (running : List ℕ) → IsCounted c choice wide sent counted running → most ≡ min (counted + 1) (2 ^ 64 - 1) → choice % (length (events sent running) + 1) ≡ wide % most
place_of c choice wide sent counted most running k m =
    let whole : most ≡ min (sent + length running + 1) (2 ^ 64 - 1) = omega (arith, k.is_counted, m) in
    ap (λ n. choice % (n + 1)) (how_many sent running) ∙ sym (ap (λ n. n % most) k.is_wide ∙ same_place choice (sent + length running + 1) most k.is_small whole)

pub line_picked : (c : Chain) (lines left : List ScriptLine) (line : ScriptLine) (choice wide sent counted most : ℕ) (running : List ℕ) → IsCounted c choice wide sent counted running → lines ≡ line ∷ left → most ≡ min (counted + 1) (2 ^ 64 - 1) → wide % most ≡ 0 → next_of c lines choice ≡ Some (line, left)
line_picked c lines left line choice wide sent counted most running k l m z =
    let place = place_of c choice wide sent counted most running k m ∙ z in
    rw (l, ← k.is_sent, ← k.are_running) (line_first line left (events sent running) choice place)

pub event_picked : (c : Chain) (lines left : List ScriptLine) (line : ScriptLine) (choice wide sent counted most : ℕ) (running : List ℕ) (event : Option ScriptLine) → IsCounted c choice wide sent counted running → lines ≡ line ∷ left → most ≡ min (counted + 1) (2 ^ 64 - 1) → 0 < wide % most → event ≡ slice_get (events sent running) (wide % most - 1) → next_of c lines choice ≡ option_map (beside lines) event
event_picked c lines left line choice wide sent counted most running event k l m z e =
    let place = place_of c choice wide sent counted most running k m in
    rw (l, ← k.is_sent, ← k.are_running, e) (event_later line left (events sent running) choice (wide % most) place z)
