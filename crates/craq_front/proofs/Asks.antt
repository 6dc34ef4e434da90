-- Lengths of the payloads of messages: each goes into a frame.
use Rattle.std.proofs.Common.{◌≡◌, ℕ, ◌+◌, ◌*◌, ◌≤◌, ◌<◌, ◌^◌, ◌↔◌, ◌⊎◌, inl, inr, Result, Ok, Err, IfErr, List, [], ◌∷◌, ◌++◌, length, ap, arith, length-append}
use Rattle.std.specs.Int.{w8, w16, w32, w64}
use Rattle.std.specs.List.{flat_map, AllByRecursion}
use Rattle.std.proofs.lemmas.List.Concat.{flat_map-cons}
use Rattle.craq_names.specs.declared.name.ObjectId.{ObjectId}
use Rattle.craq_names.specs.declared.refusal.Refusal.{Refusal}
use Rattle.craq_names.specs.declared.refusal.Refusal.TheVariants as refusals
use Rattle.craq_commands.specs.Transaction.{Transaction}
use Rattle.craq_commands.specs.declared.command.Command.{Command}
use Rattle.craq_commands.specs.declared.command.Command.TheVariants.{Put, TestAndSet, Append, Prepend, Increment, Decrement, Mini}
use Rattle.craq_commands.specs.declared.read_mode.ReadMode.{ReadMode}
use Rattle.craq_commands.specs.declared.read_mode.ReadMode.TheVariants.{Strong, Eventual, Bounded}
use Rattle.craq_wire.specs.NumberEncoding.{number}
use Rattle.craq_wire.specs.PartEncoding.{key, value, object, pair, counted, IsObject, IsValue, IsPair}
use Rattle.craq_wire.specs.CommandEncoding.{command, transaction, CommandFits, TransactionFits}
use Rattle.craq_frames.specs.declared.ask.ClientMessage.{ClientMessage}
use Rattle.craq_frames.specs.declared.ask.ClientMessage.TheVariants as asks
use Rattle.craq_frames.specs.Frame.{payload_limit}
use Rattle.craq_frames.specs.Payload.{mode, update, ask, ask_encoding, AskFits, EncodesAsk, payload_version}
use Rattle.craq_frames.proofs.Lengths.{len16, len32, len64, len_pair, tagged_few}

object_few : (o : ObjectId) → IsObject o → length (object o) ≤ 131
object_few o f = len_pair (number w16 o.chain) (key o.key) 2 129 (len16 o.chain) (tagged_few (length o.key) 128 o.key f.key.few)

value_few : (v : List ℕ) → IsValue v → length (value v) ≤ 4098
value_few v f = len_pair (number w16 (length v)) v 2 4096 (len16 (length v)) f

append_few : (a b : List ℕ) (m n : ℕ) → length a ≤ m → length b ≤ n → length (a ++ b) ≤ m + n
append_few a b m n h k = omega (arith, length-append a b, h, k)

number_few : (n : ℕ) → length (number w64 n) ≤ 8
number_few n = omega (arith, len64 n)

module _ {A : Type 0} (encoding : A → List ℕ) (P : A → Type 0) (each : (x : A) → P x → length (encoding x) ≤ 4229) where
  all_few : (xs : List A) → AllByRecursion P xs → length (flat_map encoding xs) ≤ 4229 * length xs
  all_few [] h = omega arith
  all_few (x ∷ xs) h = omega (arith, ap length (flat_map-cons encoding x xs), length-append (encoding x) (flat_map encoding xs), each x h.0, all_few xs h.1)

  counted_few : (xs : List A) → AllByRecursion P xs → length xs ≤ 16 → length (counted w8 encoding xs) ≤ 67665
  counted_few xs h few =
      let all : length (flat_map encoding xs) ≤ 67664 = omega (arith, all_few xs h, few) in
      tagged_few (length xs) 67664 (flat_map encoding xs) all

transaction_few : (t : Transaction) → TransactionFits t → length (transaction t) ≤ 202995
transaction_few t f =
    let compares = counted_few (pair object (number w64)) (IsPair IsObject (λ version. version < 2 ^ 64)) (λ x q. omega (arith, append_few (object x.0) (number w64 x.1) 131 8 (object_few x.0 q.0) (number_few x.1))) t.compares f.compares f.limits.few_compares in
    let reads = counted_few object IsObject (λ x q. omega (arith, object_few x q)) t.reads f.reads f.limits.few_reads in
    let writes = counted_few (pair object value) (IsPair IsObject IsValue) (λ x q. append_few (object x.0) (value x.1) 131 4098 (object_few x.0 q.0) (value_few x.1 q.1)) t.writes f.writes f.limits.few_writes in
    append_few (counted w8 (pair object (number w64)) t.compares) (counted w8 object t.reads ++ counted w8 (pair object value) t.writes) 67665 135330 compares
    (append_few (counted w8 object t.reads) (counted w8 (pair object value) t.writes) 67665 67665 reads writes)

command_few : (c : Command) → CommandFits c → length (command c) ≤ 202996
unfolding command
command_few (Put o v) f = omega (arith, tagged_few 1 4229 (object o ++ value v) (append_few (object o) (value v) 131 4098 (object_few o f.0) (value_few v f.1)))
command_few (TestAndSet o expect v) f =
    omega (arith, tagged_few 2 4237 (object o ++ (number w64 expect ++ value v)) (append_few (object o) (number w64 expect ++ value v) 131 4106 (object_few o f.0) (append_few (number w64 expect) (value v) 8 4098 (number_few expect) (value_few v f.2))))
command_few (Append o v) f = omega (arith, tagged_few 3 4229 (object o ++ value v) (append_few (object o) (value v) 131 4098 (object_few o f.0) (value_few v f.1)))
command_few (Prepend o v) f = omega (arith, tagged_few 4 4229 (object o ++ value v) (append_few (object o) (value v) 131 4098 (object_few o f.0) (value_few v f.1)))
command_few (Increment o by) f = omega (arith, tagged_few 5 139 (object o ++ number w64 by) (append_few (object o) (number w64 by) 131 8 (object_few o f.0) (number_few by)))
command_few (Decrement o by) f = omega (arith, tagged_few 6 139 (object o ++ number w64 by) (append_few (object o) (number w64 by) 131 8 (object_few o f.0) (number_few by)))
command_few (Mini t) f = tagged_few 7 202995 (transaction t) (transaction_few t f)

mode_few : (m : ReadMode) → length (mode m) ≤ 5
unfolding mode
mode_few Strong = omega (arith, tagged_few 1 0 [] (omega arith))
mode_few Eventual = omega (arith, tagged_few 2 0 [] (omega arith))
mode_few (Bounded above) = tagged_few 3 4 (number w32 above) (omega (arith, len32 above))

ask_short : (m : ClientMessage) → AskFits m → length (ask m) ≤ 300000
unfolding ask update
ask_short (asks.Update node pass u) f =
    let c = command_few u.command f.2.command in
    omega (
      arith,
      tagged_few 1 203024 (number w32 node ++ (number w64 pass ++ (number w64 u.client ++ (number w64 u.number ++ command u.command))))
          (len_pair _ _ 4 203020 (len32 node) (len_pair _ _ 8 203012 (len64 pass) (len_pair _ _ 8 203004 (len64 u.client) (len_pair _ _ 8 202996 (len64 u.number) c)))),
    )
ask_short (asks.Read node pass m o) f =
    omega (
      arith,
      tagged_few 2 148 (number w32 node ++ (number w64 pass ++ (mode m ++ object o)))
          (len_pair _ _ 4 144 (len32 node) (len_pair _ _ 8 136 (len64 pass) (append_few (mode m) (object o) 5 131 (mode_few m) (object_few o f.3)))),
    )
ask_short asks.Status f = omega (arith, tagged_few 3 0 [] (omega arith))

pub ask_few : (m : ClientMessage) (bytes : List ℕ) → EncodesAsk m bytes → length bytes ≤ payload_limit
unfolding ask_encoding
ask_few m bytes s = omega (arith, ap length s.encoding, tagged_few payload_version 300000 (ask m) (ask_short m s.fits))

-- a payload that goes into a frame is refused only when out of memory
pub memory_alone : {T : Type 0} (r : Result T Refusal) (payload : List ℕ) → length payload ≤ payload_limit → ((r ≡ Err refusals.FrameTooLong) ↔ (payload_limit < length payload))
    → IfErr r (λ e. (e ≡ refusals.FrameTooLong) ⊎ (e ≡ refusals.Memory)) → IfErr r (λ e. e ≡ refusals.Memory)
memory_alone (Ok x) payload few long h = tt
memory_alone (Err e) payload few long h = elim h [ inl q ↦ absurd (omega (arith, long.0 (ap Err q), few)) | inr q ↦ q ]
