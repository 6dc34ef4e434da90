use Rattle.std.proofs.Common.{◌≡◌, ◌∙◌, List, ℕ, ◌++◌, ◌-◌, length, refl, ap, subst, arith, length-append}
use Rattle.std.specs.Io.{StartsWith}
use Rattle.std.proofs.lemmas.Result.{err_from_is_err_and}
use Rattle.std.specs.Int.{w32}
use Rattle.craq_wire.specs.NumberEncoding.{number}
use Rattle.craq_frames.specs.Versions.{answered_encoding}
use Rattle.craq_frames.proofs.Fronts.{starts_before, room_for_length, framed}
use Rattle.craq_frames.proofs.versions.append_answered.Goals as goal

pub returns-in_err-write_answered-clause-appends :
    goal.returns-in_err-write_answered-clause-appends
returns-in_err-write_answered-clause-appends c =
    let p = err_from_is_err_and c.from_residual-in_err-write_answered.result c.from_residual-in_err-write_answered.ensures.1 in
    let begins = subst (λ (x : List ℕ). StartsWith c.write_answered.new.out.items x) c.in_ok-write_u32.ensures.spelled c.in_err-write_answered.ensures.appends in
    rw p.1 (starts_before c.write_answered.new.out.items c.args.out.now.items (number w32 0) begins)

pub set_u32-requires : goal.set_u32-requires
set_u32-requires c =
    let encoding = answered_encoding c.args.answered.now in
    let parts = c.in_ok-write_answered.ensures.spelled ∙ ap (λ (x : List ℕ). x ++ encoding) c.in_ok-write_u32.ensures.spelled in
    omega (arith, c.len-start.ensures.value, ap length c.as_mut_slice.ensures.value, room_for_length c.args.out.now.items c.write_answered.new.out.items encoding parts)

pub returns-clause-ok : goal.returns-clause-ok
returns-clause-ok c =
    let encoding = answered_encoding c.args.answered.now in
    let text = c.in_ok-write_answered.ensures.spelled in
    let parts = text ∙ ap (λ (x : List ℕ). x ++ encoding) c.in_ok-write_u32.ensures.spelled in
    let len : c.len.result - c.len-first.result ≡ length encoding = omega (arith, c.len.ensures.value, c.len-first.ensures.value, ap length text, length-append c.write_u32.new.out.items encoding) in
    let is = rw c.as_mut_slice.ensures.value at c.set_u32.ensures in (
      encoding,
      framed c.args.out.now.items c.write_answered.new.out.items encoding parts c.set_u32.new.bytes c.len-start.result (c.len.result - c.len-first.result) c.len-start.ensures.value len is,
      record { fits = c.in_ok-write_answered.ensures.fits; rules = c.requires.rules; encoding = refl },
    )
