-- The request of a script line is within the limits of its type.
use Rattle.std.proofs.Common.{◌≡◌, ℕ, ◌≤◌, ◌||◌, Bool, true, false, cond, eqb, Option, Some, Result, Ok, Err, refl, arith}
use Rattle.std.specs.Prelude.{◌==◌, nat_lt, not, IfOk, IfSome}
use Rattle.std.specs.List.{list_all}
use Rattle.std.proofs.lemmas.Bool.{or_parts, ltb-false, eqb-false}
use Rattle.craq_names.specs.Limits.{item_limit}
use Rattle.craq_names.specs.declared.refusal.Refusal.{Refusal}
use Rattle.craq_names.specs.declared.refusal.Refusal.TheVariants as refusals
use Rattle.craq_commands.specs.declared.command.Command.{Command}
use Rattle.craq_commands.specs.declared.read_mode.ReadMode.{ReadMode}
use Rattle.craq_commands.specs.Evaluation.{chain_of_first}
use Rattle.craq_commands.specs.Transaction.{Transaction, IsWithinLimits, compared, has_doubles, mini_of, most_items, stands_twice, written}
use Rattle.craq_commands.proofs.Doubles.{distinct_unless_twice}
use Rattle.craq_model.specs.Asks.{asked_objects}
use Rattle.craq_model.specs.declared.ask.Ask.{Ask}
use Rattle.craq_model.specs.declared.ask.Ask.TheVariants as asks
use Rattle.craq_runs.specs.Typed.{IsAskOfType, IsMoveOfType, IsOfType}
use Rattle.craq_runs.specs.declared.run.Move.{Move}
use Rattle.craq_runs.specs.declared.run.Move.TheVariants as moves
use Rattle.craq_script.specs.declared.line.ScriptCommand.{ScriptCommand}
use Rattle.craq_script.specs.declared.line.ScriptCommand.TheVariants as changes
use Rattle.craq_script.specs.declared.line.ScriptLine.{ScriptLine}
use Rattle.craq_script.specs.declared.line.ScriptLine.TheVariants as lines
use Rattle.craq_script.specs.declared.line.ScriptObject.{ScriptObject}
use Rattle.craq_script.specs.declared.line.UpdateLine.{UpdateLine}
use Rattle.craq_script.specs.Asked.{command_of, has_key, is_value, lists_of, numbered, objects_named, read_of, transaction_command, asked_update, values_given}
use Rattle.craq_play.specs.Moves.{asked_move, move_of}

-- a property of a result holds too after a test that refuses
holds_behind : {A : Type 0} (P : A → Type 0) (b : Bool) (e : Refusal) (r : Result A Refusal) → (b ≡ false → IfOk r P) → IfOk (cond b (Err e) r) P
holds_behind P true e r f = tt
holds_behind P false e r f = f refl

within_limits : (t : Transaction) → nat_lt item_limit (most_items t) ≡ false → eqb (most_items t) 0 ≡ false → has_doubles t ≡ false → IsWithinLimits t
within_limits t few some once =
    let short : most_items t ≤ item_limit = ltb-false _ _ few in
    let any : most_items t ≡ 0 → ⊥ = eqb-false _ _ some in
    let outer = or_parts (stands_twice (compared t) || stands_twice t.reads) (stands_twice (written t)) once in
    let inner = or_parts (stands_twice (compared t)) (stands_twice t.reads) outer.0 in
    record {
      few_compares = omega (arith, short);
      few_reads = omega (arith, short);
      few_writes = omega (arith, short);
      some = omega (arith, any);
      compared_once = distinct_unless_twice (compared t) inner.0;
      read_once = distinct_unless_twice t.reads inner.1;
      written_once = distinct_unless_twice (written t) outer.1;
    }

transaction_fits : (t : Transaction) → IfOk (mini_of t) IsWithinLimits
transaction_fits t =
    holds_behind IsWithinLimits (nat_lt item_limit (most_items t)) refusals.TooManyItems _ (λ few.
    holds_behind IsWithinLimits (eqb (most_items t) 0) refusals.EmptyTransaction _ (λ some.
    holds_behind IsWithinLimits (has_doubles t) refusals.DuplicateKey (Ok t) (λ once. within_limits t few some once)))

as_command_fits : (r : Result Transaction Refusal) → IfOk r IsWithinLimits → IfOk (transaction_command r) IsOfType
as_command_fits (Ok t) h = h
as_command_fits (Err e) h = tt

command_fits : (change : ScriptCommand) → IfOk (command_of change) IsOfType
unfolding command_of
command_fits (changes.Put object value) = tt
command_fits (changes.TestAndSet object expect value) = tt
command_fits (changes.Append object value) = tt
command_fits (changes.Prepend object value) = tt
command_fits (changes.Increment object by) = tt
command_fits (changes.Decrement object by) = tt
command_fits (changes.Mini items) = as_command_fits (mini_of (lists_of items)) (transaction_fits (lists_of items))

numbered_fits : (client number : ℕ) (r : Result Command Refusal) → IfOk r IsOfType → IfOk (numbered client number r) IsAskOfType
numbered_fits client number (Ok command) h = holds_behind IsAskOfType (eqb number 0) refusals.BadNumber (Ok (asks.Update (record { client = client; number = number; command = command }))) (λ some. h)
numbered_fits client number (Err e) h = tt

update_fits : (line : UpdateLine) → IfOk (asked_update line) IsAskOfType
unfolding asked_update
update_fits line =
    holds_behind IsAskOfType (not (list_all has_key (objects_named line.change))) refusals.BadKey _ (λ keys.
    holds_behind IsAskOfType (not (list_all is_value (values_given line.change))) refusals.ValueTooLong _ (λ values.
    numbered_fits line.client line.number (command_of line.change) (command_fits line.change)))

read_fits : (mode : ReadMode) (object : ScriptObject) → IfOk (read_of mode object) IsAskOfType
unfolding read_of
read_fits mode object = holds_behind IsAskOfType (not (has_key object)) refusals.BadKey _ (λ key. tt)

abbrev pub MoveFits : Option Move → Type 0
MoveFits o = IfSome o IsMoveOfType

asked_fits : (node : ℕ) (r : Result Ask Refusal) → IfOk r IsAskOfType → IfOk (asked_move node r) MoveFits
asked_fits node (Ok ask) h =
    elim (chain_of_first (asked_objects ask) == 0) as (λ b. IfOk (cond b (Ok (Some (moves.Ask node ask))) (Err refusals.UnknownChain)) MoveFits) [ true ↦ h | false ↦ tt ]
asked_fits node (Err e) h = tt

pub line_fits : (line : ScriptLine) → IfOk (move_of line) MoveFits
unfolding move_of
line_fits (lines.Update update) = asked_fits update.node (asked_update update) (update_fits update)
line_fits (lines.Read node mode object) = asked_fits node (read_of mode object) (read_fits mode object)
line_fits (lines.Deliver message) = tt
line_fits (lines.Tick node) = tt
line_fits (lines.Stop node) = tt
line_fits (lines.Remove node) = tt
line_fits (lines.Join node) = tt
line_fits lines.Explain = tt
