-- Reading replies and entries is the inverse of writing them.
use Rattle.std.proofs.Common.{◌≡◌, ℕ, ◌^◌, ◌<◌, ◌≤◌, false, cond, ltb, List, ◌++◌, length, Option, Some, None, refl, subst, arith}
use Rattle.std.specs.Int.{w8, w64}
use Rattle.std.proofs.lemmas.Bool.{ltb-false, le-ltb}
use Rattle.craq_names.specs.Limits.{window_limit}
use Rattle.craq_commands.specs.Kept.{Window}
use Rattle.craq_commands.specs.declared.reply.Reply.{Reply}
use Rattle.craq_commands.specs.declared.reply.Reply.TheVariants.{Written, Mismatch, TooLong, NotANumber, Overflow, Underflow, Done, CompareFailed, Stale}
use Rattle.craq_commands.specs.declared.entry.Entry.{Entry}
use Rattle.craq_commands.specs.declared.entry.Write.{Write}
use Rattle.craq_wire.specs.NumberEncoding.{number}
use Rattle.craq_wire.specs.PartEncoding.{value, pair, counted, IsValue, IsPair, AreCounted}
use Rattle.craq_wire.specs.EntryEncoding.{window, WindowFits, reply_tag, reply_body, reply, ReplyFits, write, WriteFits, entry, EntryFits}
use Rattle.craq_wire.specs.NumberReading.{number_at}
use Rattle.craq_wire.specs.PartReading.{value_at, request_at, pair_at, counted_at, mapped}
use Rattle.craq_wire.specs.EntryReading.{window_at, reply_body_at, reply_at, write_of, write_at, entry_of, entry_at}
use Rattle.craq_wire.proofs.NumberExact.{IsBytes, Takes, IsExact, guard_some, some_is, step, chosen, u8_exact, u32_exact, u64_exact, wide8}
use Rattle.craq_wire.proofs.PartExact.{key_exact, value_exact, request_exact, pair_exact, counted_exact, mapped_exact}
use Rattle.craq_wire.proofs.Tagged.{one_case, bare_case, tagged_exact}

-- ---- replies

abbrev pub version_value_fits : ℕ × List ℕ → Type 0
version_value_fits = IsPair (λ version. version < 2 ^ 64) IsValue

pub version_value_exact : IsExact (pair (number w64) value) version_value_fits (pair_at (number_at w64) value_at)
version_value_exact = pair_exact _ _ _ u64_exact _ _ _ value_exact

done_exact : IsExact (counted w8 (pair (number w64) value)) (AreCounted w8 version_value_fits) (counted_at w8 (pair_at (number_at w64) value_at))
done_exact = counted_exact _ _ _ version_value_exact w8 wide8

reply_case : {A : Type 0} (encoding : A → List ℕ) (P : A → Type 0) (part : List ℕ → Option (A × List ℕ)) → IsExact encoding P part
    → (f : A → Reply) → ((a : A) → reply_body (f a) ≡ encoding a) → ((a : A) → P a → ReplyFits (f a)) → (tag : ℕ) → ((a : A) → reply_tag (f a) ≡ tag)
    → (bytes : List ℕ) (x : Reply × List ℕ) → IsBytes bytes → mapped f (part bytes) ≡ Some x → (Takes bytes (reply_body x.0) x.1 × ReplyFits x.0) × (reply_tag x.0 ≡ tag)
reply_case = one_case reply_tag reply_body ReplyFits

reply_takes : (tag : ℕ) (bytes : List ℕ) (x : Reply × List ℕ) → IsBytes bytes → reply_body_at tag bytes ≡ Some x → (Takes bytes (reply_body x.0) x.1 × ReplyFits x.0) × (reply_tag x.0 ≡ tag)
unfolding reply_body_at
reply_takes tag bytes x h e =
    let P = λ (k : ℕ). (Takes bytes (reply_body x.0) x.1 × ReplyFits x.0) × (reply_tag x.0 ≡ k) in
    let bare = bare_case reply_tag reply_body ReplyFits in
    chosen tag 1 _ _ x e P (reply_case _ _ _ u64_exact Written (λ a. refl) (λ a q. q) 1 (λ a. refl) bytes x h) (λ e.
    chosen tag 2 _ _ x e P (reply_case _ _ _ u64_exact Mismatch (λ a. refl) (λ a q. q) 2 (λ a. refl) bytes x h) (λ e.
    chosen tag 3 _ _ x e P (bare TooLong refl tt bytes x h) (λ e.
    chosen tag 4 _ _ x e P (bare NotANumber refl tt bytes x h) (λ e.
    chosen tag 5 _ _ x e P (bare Overflow refl tt bytes x h) (λ e.
    chosen tag 6 _ _ x e P (bare Underflow refl tt bytes x h) (λ e.
    chosen tag 7 _ _ x e P (reply_case _ _ _ done_exact Done (λ a. refl) (λ a q. q) 7 (λ a. refl) bytes x h) (λ e.
    chosen tag 8 _ _ x e P (reply_case _ _ _ u8_exact CompareFailed (λ a. refl) (λ a q. q) 8 (λ a. refl) bytes x h) (λ e.
    chosen tag 9 _ _ x e P (reply_case _ _ _ request_exact Stale (λ a. refl) (λ a q. q) 9 (λ a. refl) bytes x h) (λ e.
    absurd cc)))))))))

reply_again : (r : Reply) (rest : List ℕ) → ReplyFits r → reply_body_at (reply_tag r) (reply_body r ++ rest) ≡ Some (r, rest)
unfolding reply_body_at
reply_again (Written version) rest h = rw (u64_exact.again version rest h) refl
reply_again (Mismatch version) rest h = rw (u64_exact.again version rest h) refl
reply_again TooLong rest h = refl
reply_again NotANumber rest h = refl
reply_again Overflow rest h = refl
reply_again Underflow rest h = refl
reply_again (Done objects) rest h = rw (done_exact.again objects rest h) refl
reply_again (CompareFailed place) rest h = rw (u8_exact.again place rest h) refl
reply_again (Stale last) rest h = rw (request_exact.again last rest h) refl

reply_small : (r : Reply) → reply_tag r < 2 ^ 8
reply_small (Written version) = omega arith
reply_small (Mismatch version) = omega arith
reply_small TooLong = omega arith
reply_small NotANumber = omega arith
reply_small Overflow = omega arith
reply_small Underflow = omega arith
reply_small (Done objects) = omega arith
reply_small (CompareFailed place) = omega arith
reply_small (Stale last) = omega arith

pub reply_exact : IsExact reply ReplyFits reply_at
unfolding reply reply_at
reply_exact = tagged_exact reply_tag reply_body ReplyFits reply_body_at (record { small = reply_small; takes = reply_takes; again = reply_again })

-- ---- entries

write_exact : IsExact write WriteFits write_at
unfolding write write_at
write_exact =
    mapped_exact _ _ _ (pair_exact _ _ _ key_exact _ _ _ version_value_exact) write_of (λ (w : Write). (w.key, (w.version, w.value))) write WriteFits
    (λ a q. record { key = q.0; version = q.1.0; value = q.1.1 }) (λ w q. (q.key, (q.version, q.value))) (λ w. refl) (λ a. refl)

writes_exact : IsExact (counted w8 write) (AreCounted w8 WriteFits) (counted_at w8 write_at)
writes_exact = counted_exact _ _ _ write_exact w8 wide8

abbrev entry_parts : Entry → ℕ × (ℕ × (ℕ × (ℕ × (ℕ × (Reply × List Write)))))
entry_parts e = (e.position, (e.origin_node, (e.origin_ticket, (e.client, (e.number, (e.reply, e.writes))))))

pub entry_exact : IsExact entry EntryFits entry_at
unfolding entry entry_at
entry_exact =
    mapped_exact _ _ _
    (pair_exact _ _ _ u64_exact _ _ _ (pair_exact _ _ _ u32_exact _ _ _ (pair_exact _ _ _ u64_exact _ _ _ (pair_exact _ _ _ u64_exact _ _ _
    (pair_exact _ _ _ request_exact _ _ _ (pair_exact _ _ _ reply_exact _ _ _ writes_exact))))))
    entry_of entry_parts entry EntryFits
    (λ a q. record { position = q.0; origin_node = q.1.0; origin_ticket = q.1.1.0; client = q.1.1.1.0; number = q.1.1.1.1.0; reply = q.1.1.1.1.1.0; writes = q.1.1.1.1.1.1 })
    (λ e q. (q.position, (q.origin_node, (q.origin_ticket, (q.client, (q.number, (q.reply, q.writes))))))) (λ e. refl) (λ a. refl)

-- ---- the kept replies of a client

abbrev reply_fits : ℕ × Reply → Type 0
reply_fits = IsPair (λ number. (1 ≤ number) × (number < 2 ^ 64)) ReplyFits

replies_exact : IsExact window (AreCounted w8 reply_fits) (counted_at w8 (pair_at request_at reply_at))
replies_exact = counted_exact _ _ _ (pair_exact _ _ _ request_exact _ _ _ reply_exact) w8 wide8

window_takes : (bytes : List ℕ) (x : Window × List ℕ) → IsBytes bytes → window_at bytes ≡ Some x → Takes bytes (window x.0) x.1 × WindowFits x.0
unfolding window_at
window_takes bytes x h e =
    let s = step window (AreCounted w8 reply_fits) (counted_at w8 (pair_at request_at reply_at)) replies_exact bytes (λ w. cond (ltb window_limit (length w.0)) None (Some w)) x h e in
    let few = guard_some (ltb window_limit (length s.0.0)) (Some s.0) x s.3 in
    subst (λ (y : Window × List ℕ). Takes bytes (window y.0) y.1 × WindowFits y.0) (some_is s.0 x few.1) (s.1, record { few = ltb-false _ _ few.0; each = s.2.each })

window_again : (w : Window) (rest : List ℕ) → WindowFits w → window_at (window w ++ rest) ≡ Some (w, rest)
unfolding window_at
window_again w rest fits =
    let few : ltb window_limit (length w) ≡ false = le-ltb _ _ fits.few in
    rw (replies_exact.again w rest (record { few = omega (arith, fits.few); each = fits.each }), few) refl

pub window_exact : IsExact window WindowFits window_at
window_exact = record { takes = window_takes; again = window_again }
