-- Connections in a slab that read, or whose unsent bytes are written.
use Rattle.std.proofs.Common.{◌≡◌, ◌↔◌, ℕ, Bool, true, false, IsTrue, List, is_some, Option, Some, None, sym, refl, subst}
use Rattle.slab.specs.Slab.{Slab, get, with_value}
use Rattle.slab.proofs.SlabLemmas.{Updates-with_value}
use Rattle.craq_event_loop.specs.ConnectionStates.{IsUnderWay}
use Rattle.craq_event_loop.specs.declared.connection_state.Phase.{Phase}
use Rattle.craq_event_loop.specs.declared.connection_state.Phase.TheVariants as phases
use Rattle.craq_event_loop.specs.declared.connection_state.CallRequest.{CallRequest}
use Rattle.craq_event_loop.specs.declared.connection.Connection.{Connection}
use Rattle.craq_event_loop.specs.Busy.{IsBehind, IsDone, is_waiting}
use Rattle.craq_event_loop.specs.Serving.{HasRead, HasWritten, ReadsAt, StaysUnlessDone, WritesAt}

-- a call is found just if one is under way
pub found_waiting : (phase : Phase) (found : Option CallRequest) → IsUnderWay phase found → is_some found ≡ is_waiting phase
found_waiting phases.Idle found is = rw is refl
found_waiting (phases.Asks m) found is = rw is refl
found_waiting (phases.Waits q later) found is = rw is refl
found_waiting (phases.Over why) found is = rw is refl

-- a flag that is false reports that its statement does not hold
pub reported_not : {P : Type 0} (reported : Bool) → IsTrue reported ↔ P → reported ≡ false → ¬ P
reported_not reported says off = λ p. (let yes : reported ≡ true = says.1 p in cc)

module _ {S T : Type 0} (remaining contents : S → Option (List ℕ)) (is_over is_dry is_full : S → Type 0) where
  -- a connection has read in its slab, if its new value is stored under its key
  pub read_at : (s : Slab (Connection S T)) (key : ℕ) (c d : Connection S T) → get s key ≡ Some c → HasRead remaining contents is_over is_dry is_full c d
      → ReadsAt remaining contents is_over is_dry is_full s (with_value s key d) key
  read_at s key c d was read c' here =
      let e : c' ≡ c = cc in
      let is : get (with_value s key d) key ≡ Some d = (Updates-with_value s key d (rw was refl)).changed in
      rw e (d, is, read)

  -- a connection that is not done stays under its key
  pub kept_at : (s : Slab (Connection S T)) (key : ℕ) (c d e : Connection S T) (busy : Bool) → get s key ≡ Some c → HasWritten remaining contents is_over is_dry is_full c d
      → ¬ IsDone d → e ≡ record d { busy = busy } → IsTrue busy ↔ IsBehind d → WritesAt remaining contents is_over is_dry is_full s (with_value s key e) key
  kept_at s key c d e busy was written stays same marks c' here =
      let e' : c' ≡ c = cc in
      let is : get (with_value s key e) key ≡ Some e = (Updates-with_value s key e (rw was refl)).changed in
      let kept : e ≡ record d { busy = e.busy } = rw same refl in
      let mark : busy ≡ e.busy = rw same refl in
      let exact : e.busy ≡ true ↔ IsBehind d = subst (λ (b : Bool). b ≡ true ↔ IsBehind d) mark marks in
      rw e' (d, written, subst (λ (x : Option (Connection S T)). StaysUnlessDone d x) (sym is) (stays, kept, exact))

  -- a connection that is done is dropped
  pub gone_at : (s t : Slab (Connection S T)) (key : ℕ) (c d : Connection S T) → get s key ≡ Some c → HasWritten remaining contents is_over is_dry is_full c d
      → IsDone d → get t key ≡ None → WritesAt remaining contents is_over is_dry is_full s t key
  gone_at s t key c d was written done gone c' here =
      let e' : c' ≡ c = cc in
      rw e' (d, written, subst (λ (x : Option (Connection S T)). StaysUnlessDone d x) (sym gone) done)
