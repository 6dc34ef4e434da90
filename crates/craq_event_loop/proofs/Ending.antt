-- When a connection is over, and when it goes on to read and to write.
use Rattle.std.proofs.Common.{◌≡◌, ◌<◌, ◌↔◌, ◌∙◌, ℕ, Bool, true, false, not, IsTrue, refl, sym, ap, inl, inr}
use Rattle.craq_event_loop.specs.declared.connection.Connection.{Connection}
use Rattle.craq_event_loop.specs.declared.connection.Readiness.{Readiness}
use Rattle.craq_event_loop.specs.Sockets.{EndsAsSocket, ReadsOn, WritesOn}

module _ {S T : Type 0} (is_over : S → Type 0) (old new : Connection S T) where
  pub is_as_before : new.over ≡ old.over → EndsAsSocket is_over old new
  is_as_before same = λ over. inl cc

  pub ended : is_over new.stream → EndsAsSocket is_over old new
  ended is = λ over. inr is

-- a flag whose negation is false is true
off_if : (reported : Bool) → not reported ≡ false → reported ≡ true
off_if true is = refl
off_if false is = cc

module _ {S T : Type 0} (is_dry : S → Type 0) (old new : Connection S T) where
  pub reads_as_before : new.readiness ≡ old.readiness → ReadsOn is_dry old new
  reads_as_before same = (
    λ off. inl (sym (ap (λ (r : Readiness). r.readable) same) ∙ off),
    ap (λ (r : Readiness). r.until_dry) same,
    ap (λ (r : Readiness). r.writable) same,
  )

  pub dried : new.readiness ≡ record old.readiness { readable = false } → is_dry new.stream → ReadsOn is_dry old new
  dried same is = (λ off. inr is, ap (λ (r : Readiness). r.until_dry) same, ap (λ (r : Readiness). r.writable) same)

  -- it reads on but where less came than there was room for
  pub reads_until_short : (count room : ℕ) (reported : Bool) → IsTrue reported ↔ ((count < room) × (old.readiness.until_dry ≡ false)) → (count < room → is_dry new.stream)
      → new.readiness ≡ record old.readiness { readable = not reported } → ReadsOn is_dry old new
  reads_until_short count room reported says short same = (
    λ off. inr (short (says.0 (off_if reported (sym (ap (λ (r : Readiness). r.readable) same) ∙ off))).0),
    ap (λ (r : Readiness). r.until_dry) same,
    ap (λ (r : Readiness). r.writable) same,
  )

module _ {S T : Type 0} (is_full : S → Type 0) (old new : Connection S T) where
  pub writes_as_before : new.readiness ≡ old.readiness → WritesOn is_full old new
  writes_as_before same = (
    λ off. inl (sym (ap (λ (r : Readiness). r.writable) same) ∙ off),
    ap (λ (r : Readiness). r.until_dry) same,
    ap (λ (r : Readiness). r.readable) same,
  )

  pub filled : new.readiness ≡ record old.readiness { writable = false } → is_full new.stream → WritesOn is_full old new
  filled same is = (λ off. inr is, ap (λ (r : Readiness). r.until_dry) same, ap (λ (r : Readiness). r.readable) same)
