-- The messages of a step, as bytes on their way.
use Rattle.std.proofs.Common.{◌≡◌, ◌⊎◌, ◌∙◌, ℕ, zero, suc, List, [], ◌∷◌, Bool, true, false, Option, Some, None, IfSome, filter, refl, sym, ap, subst, inl, inr}
use Rattle.std.specs.Prelude.{slice_get, if◌then◌else◌}
use Rattle.std.specs.List.{AllByRecursion}
use Rattle.craq_model.specs.declared.message.LinkMessage.{LinkMessage}
use Rattle.craq_model.specs.declared.step.Step.{Step}
use Rattle.craq_runs.specs.Chain.{sent_in}
use Rattle.craq_seat.specs.declared.journal.Receipt.{Receipt}
use Rattle.craq_seat.specs.Merge.{MergedStep}
use Rattle.craq_seat.specs.Numbered.{numbered_from}
use Rattle.craq_causality.specs.Causal.{WasSent}
use Rattle.craq_causality.proofs.Arrivals.{named_from}
use Rattle.craq_causality.proofs.Orders.{IsIn, all_by}
use Rattle.craq_running_node.specs.declared.encoding.Sent.{Sent}
use Rattle.craq_running_node.specs.Encoded.{AreSentAs, AreWired, brings_from, entries_from}
use Rattle.craq_store_history.specs.declared.entry.HistoryEntry.{HistoryEntry}
use Rattle.craq_store_history.specs.Entries.{lines_in}
use Rattle.craq_store_parts.specs.Recorded.{HasStep}

get_of_in : {X : Type 0} (xs : List X) (x : X) → IsIn xs x → (k : ℕ) × (slice_get xs k ≡ Some x)
get_of_in [] x i = absurd i
get_of_in (y ∷ ys) x (inl e) = (zero, ap Some e)
get_of_in (y ∷ ys) x (inr i) = let g = get_of_in ys x i in (suc g.0, g.1)

-- each message of a step that is among the lines was sent in them
pub all_sent : (lines : List MergedStep) (id stamp : ℕ) (step : Step) → HasStep lines id stamp step → AllByRecursion (WasSent lines) (numbered_from 0 (record { node = id; stamp = stamp }) (sent_in step.outs))
all_sent lines id stamp step h =
    let receipt : Receipt = record { node = id; stamp = stamp } in
    let ms : List LinkMessage = sent_in step.outs in
    all_by (WasSent lines) (numbered_from 0 receipt ms) (λ m i.
    let g = get_of_in (numbered_from 0 receipt ms) m i in
    let n = named_from g.0 receipt ms m g.1 in
    let index : m.index ≡ g.0 = sym (ap (λ (x : LinkMessage). x.index) n.2) in
    record {
      line = h.line;
      there = h.there;
      node = h.node ∙ ap (λ (x : LinkMessage). x.sender) n.2;
      stamp = h.under ∙ ap (λ (x : LinkMessage). x.stamp) n.2;
      message = rw (h.node, h.under, h.step) (subst (λ (k : ℕ). slice_get (numbered_from 0 receipt ms) k ≡ Some m) (sym index) g.1);
    })

wired : (chain : ℕ) (log : List HistoryEntry) (sent : List Sent) (ms : List LinkMessage) → AllByRecursion (WasSent (lines_in chain log)) ms → AreSentAs sent ms → AreWired chain log sent
wired chain log [] [] a b = tt
wired chain log [] (m ∷ ms) a b = absurd b
wired chain log (s ∷ ss) [] a b = absurd b
wired chain log (s ∷ ss) (m ∷ ms) a b = (record { message = m; spelled = b.0.bytes; sent = a.0 }, wired chain log ss ms a.1 b.1)

none_wired : (chain : ℕ) (log : List HistoryEntry) (sent : List Sent) → sent ≡ [] → AreWired chain log sent
none_wired chain log sent is = subst (AreWired chain log) (sym is) tt

kept_all : (P : LinkMessage → Type 0) (f : LinkMessage → Bool) (ms : List LinkMessage) → AllByRecursion P ms → AllByRecursion P (filter f ms)
kept_all P f [] a = tt
kept_all P f (m ∷ ms) a = keep (f m) m (filter f ms) a.0 (kept_all P f ms a.1)
  where
    keep : (b : Bool) (m : LinkMessage) (rest : List LinkMessage) → P m → AllByRecursion P rest → AllByRecursion P (if b then m ∷ rest else rest)
    keep true m rest p r = (p, r)
    keep false m rest p r = r

some_wired : (chain : ℕ) (log : List HistoryEntry) (sent : List Sent) (ms : List LinkMessage) → AllByRecursion (WasSent (lines_in chain log)) ms → (sent ≡ []) ⊎ AreSentAs sent ms → AreWired chain log sent
some_wired chain log sent ms a (inl none) = none_wired chain log sent none
some_wired chain log sent ms a (inr all) = wired chain log sent ms a all

-- the messages of a last step
pub step_wired : (chain : ℕ) (log : List HistoryEntry) (id stamp : ℕ) (sent : List Sent) (last : Option Step) → IfSome last (λ (s : Step). HasStep (lines_in chain log) id stamp s)
    → IfSome last (λ (s : Step). (sent ≡ []) ⊎ AreSentAs sent (numbered_from 0 (record { node = id; stamp = stamp }) (sent_in s.outs))) → (last ≡ None → sent ≡ []) → AreWired chain log sent
step_wired chain log id stamp sent None h all none = none_wired chain log sent (none refl)
step_wired chain log id stamp sent (Some s) h all none = some_wired chain log sent (numbered_from 0 (record { node = id; stamp = stamp }) (sent_in s.outs)) (all_sent (lines_in chain log) id stamp s h) all

-- those of them that bring entries
pub entries_wired : (chain : ℕ) (log : List HistoryEntry) (id stamp first : ℕ) (sent : List Sent) (last : Option Step) → IfSome last (λ (s : Step). HasStep (lines_in chain log) id stamp s)
    → IfSome last (λ (s : Step). (sent ≡ []) ⊎ AreSentAs sent (entries_from first (numbered_from 0 (record { node = id; stamp = stamp }) (sent_in s.outs)))) → (last ≡ None → sent ≡ []) → AreWired chain log sent
entries_wired chain log id stamp first sent None h all none = none_wired chain log sent (none refl)
entries_wired chain log id stamp first sent (Some s) h all none =
    let ms : List LinkMessage = numbered_from 0 (record { node = id; stamp = stamp }) (sent_in s.outs) in
    some_wired chain log sent (entries_from first ms) (kept_all (WasSent (lines_in chain log)) (λ (m : LinkMessage). brings_from first m.body) ms (all_sent (lines_in chain log) id stamp s h)) all

-- the one message of a last step
pub lone_sent : (lines : List MergedStep) (id stamp : ℕ) (m : LinkMessage) (s : Step) → HasStep lines id stamp s → numbered_from 0 (record { node = id; stamp = stamp }) (sent_in s.outs) ≡ m ∷ [] → WasSent lines m
lone_sent lines id stamp m s h is =
    let a : AllByRecursion (WasSent lines) (m ∷ []) = subst (AllByRecursion (WasSent lines)) is (all_sent lines id stamp s h) in a.0
