-- If the bytes that were read have no whole frame left, they have none after a step or an outcome.
use Rattle.std.proofs.Common.{◌≡◌, ℕ, Bool, true, false, List, inl, inr, refl, sym, subst}
use Rattle.std.proofs.Math.Logic.{∥∥₁_map}
use Rattle.craq_frames.specs.Frame.{IsPartial}
use Rattle.craq_frames.specs.declared.protocol_codec.ProtocolCodec.{ProtocolCodec}
use Rattle.craq_frames.proofs.NoFrame.{no_frame}
use Rattle.craq_event_loop.specs.declared.door_calls.DoorCalls.{DoorCalls}
use Rattle.craq_event_loop.specs.declared.connection_state.Phase.{Phase}
use Rattle.craq_event_loop.specs.declared.connection_state.Phase.TheVariants as phases
use Rattle.craq_event_loop.specs.declared.connection_state.Stepped.{Stepped}
use Rattle.craq_event_loop.specs.declared.connection_state.Stepped.TheVariants as steps
use Rattle.craq_event_loop.specs.ConnectionStates.{CutsOff, Found, Took}
use Rattle.craq_event_loop.specs.declared.connection.Connection.{Connection}
use Rattle.craq_event_loop.specs.Busy.{IsBehind, LeavesNoFrame, NoneBehind, NoneForgotten, Rests}
use Rattle.craq_event_loop.specs.declared.event_loop.LoopConnections.{LoopConnections}
use Rattle.craq_event_loop.specs.Starved.{IsStarved}
use Rattle.craq_event_loop.proofs.Marks.{none_is_behind}

-- of less than a frame none is cut off
none_cut_off : (t u : ProtocolCodec) → CutsOff t u → IsPartial t.buffers.input.items → ⊥
none_cut_off t u cut part = no_frame t.buffers.input.items cut.1 u.buffers.input.items part cut.3 cut.2

found_still : (q : Phase) (s : Stepped) (t u : ProtocolCodec) → Found q s t u → IsPartial t.buffers.input.items → IsStarved q u.buffers.input.items
found_still (phases.Over why) s t u found part = tt
found_still (phases.Waits x later) steps.Goes t u found part = found
found_still (phases.Waits x later) (steps.Calls unsent) t u found part = found
found_still (phases.Waits x later) steps.Starved t u found part = found
found_still (phases.Waits x later) steps.Stays t u found part = found
found_still (phases.Asks m) steps.Goes t u found part = none_cut_off t u found part
found_still (phases.Asks m) (steps.Calls unsent) t u found part = found
found_still (phases.Asks m) steps.Starved t u found part = found
found_still (phases.Asks m) steps.Stays t u found part = found
found_still phases.Idle steps.Goes t u found part = absurd (none_cut_off t u found part)
found_still phases.Idle (steps.Calls unsent) t u found part = absurd found
found_still phases.Idle steps.Starved t u found part = found
found_still phases.Idle steps.Stays t u found part = subst (λ (x : ProtocolCodec). IsPartial x.buffers.input.items) (sym (found.1)) part

found_starved : (q : Phase) (t u : ProtocolCodec) → Found q steps.Starved t u → IsStarved q u.buffers.input.items
found_starved (phases.Over why) t u found = tt
found_starved (phases.Waits x later) t u found = found
found_starved (phases.Asks m) t u found = found
found_starved phases.Idle t u found = found

module _ (tells : List ℕ → Type 0) where
  took_still : (p : Phase) (s : Stepped) (q : Phase) (t u : ProtocolCodec) (c d : DoorCalls) → Took tells p s q t u c d
      → IsStarved p t.buffers.input.items → IsStarved q u.buffers.input.items
  took_still phases.Idle s q t u c d took part = found_still q s t u took.0 part
  took_still (phases.Asks m) s q t u c d took none = absurd none
  took_still (phases.Waits x later) s q t u c d took none = absurd none
  took_still (phases.Over why) steps.Goes q t u c d took over = absurd took
  took_still (phases.Over why) (steps.Calls unsent) q t u c d took over = absurd took
  took_still (phases.Over why) steps.Starved q t u c d took over = absurd took
  took_still (phases.Over why) steps.Stays q t u c d took over = subst (λ (x : Phase). IsStarved x u.buffers.input.items) (sym (took.0)) tt

  took_starved : (p q : Phase) (t u : ProtocolCodec) (c d : DoorCalls) → Took tells p steps.Starved q t u c d → IsStarved q u.buffers.input.items
  took_starved phases.Idle q t u c d took = found_starved q t u took.0
  took_starved (phases.Asks m) q t u c d took = absurd took
  took_starved (phases.Waits x later) q t u c d took = absurd took
  took_starved (phases.Over why) q t u c d took = absurd took

  -- after a step
  pub step_still : (more : Bool) (p : Phase) (s : Stepped) (q : Phase) (t u : ProtocolCodec) (c d : DoorCalls) → Took tells p s q t u c d
      → (more ≡ false → ∥ IsStarved p t.buffers.input.items ∥₁) → more ≡ false → ∥ IsStarved q u.buffers.input.items ∥₁
  step_still more p s q t u c d took before off = ∥∥₁_map (before off) (took_still p s q t u c d took)

  -- after a step that found less than a frame
  pub step_starved : (more : Bool) (p q : Phase) (t u : ProtocolCodec) (c d : DoorCalls) → Took tells p steps.Starved q t u c d
      → more ≡ false → ∥ IsStarved q u.buffers.input.items ∥₁
  step_starved more p q t u c d took off = ∣ took_starved p q t u c d took ∣₁

-- a connection that is not behind leaves no frame
none_left : {S T : Type 0} (c : Connection S T) → ¬ (IsBehind c) → LeavesNoFrame c
none_left c rests on empty free = by_more c.more refl
  where
    by_more : (b : Bool) → c.more ≡ b → ∥ IsStarved c.state.phase c.state.codec.buffers.input.items ∥₁
    by_more true is = absurd (rests (inr (inr (on, empty, free, inl is))))
    by_more false is = c.unread is

-- where the lists of a thread name no connection none is behind, and none leaves a frame
pub none_is_left : {S T P : Type 0} (m : LoopConnections S T P) → NoneForgotten m → Rests m → NoneBehind m.connections
none_is_left m k rests key c here =
    let rested : ¬ (IsBehind c) = λ is. none_is_behind m key c k rests here is in
    (rested, none_left c rested)
