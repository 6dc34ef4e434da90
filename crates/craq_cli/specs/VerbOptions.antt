-- Defines the values of the options of people's verbs, by their texts on the command line.
use Rattle.std.specs.Prelude.{◌≡◌, ⊤, ℕ, ◌-◌, ◌^◌, List, codes, Option, Some, None, Result, Ok, Err, unwrap_or}
use Rattle.clap.specs.Words.{first_value}
use Rattle.clap.specs.declared.parser.matches.Found.{Found}
use Rattle.craq_commands.specs.declared.read_mode.ReadMode.{ReadMode}
use Rattle.craq_commands.specs.declared.read_mode.ReadMode.TheVariants as modes
use Rattle.craq_script.specs.Words.{mode_of}
use Rattle.craq_cli.specs.Numbers.{number_between}
use Rattle.craq_cli.specs.declared.verb_options.CheckedOption.{CheckedOption}
use Rattle.craq_cli.specs.declared.verb_options.CheckedOption.TheVariants as options
use Rattle.craq_cli.specs.declared.task.BenchLoad.{BenchLoad}
use Rattle.craq_cli.specs.declared.verb_options.BadOption.{BadOption}
use Rattle.craq_cli.specs.declared.verb_options.BadOption.TheVariants as bad

-- an option's name
abbrev pub name_of : CheckedOption → List ℕ
name_of options.Node = codes "node"
name_of options.Pass = codes "pass"
name_of options.Client = codes "client"
name_of options.Number = codes "number"
name_of options.Mode = codes "mode"
name_of options.Connections = codes "connections"
name_of options.Seconds = codes "seconds"
name_of options.Mix = codes "mix"
name_of options.Keys = codes "keys"
name_of options.Size = codes "size"

-- the least number that an option takes
abbrev pub least_of : CheckedOption → ℕ
least_of options.Node = 0
least_of options.Pass = 0
least_of options.Client = 0
least_of options.Number = 1
least_of options.Mode = 0
least_of options.Connections = 1
least_of options.Seconds = 1
least_of options.Mix = 0
least_of options.Keys = 1
least_of options.Size = 0

-- the greatest number that an option takes
abbrev pub greatest_of : CheckedOption → ℕ
greatest_of options.Node = 2 ^ 32 - 1
greatest_of options.Pass = 2 ^ 64 - 1
greatest_of options.Client = 2 ^ 64 - 1
greatest_of options.Number = 2 ^ 64 - 1
greatest_of options.Mode = 2 ^ 64 - 1
greatest_of options.Connections = 1000
greatest_of options.Seconds = 86400
greatest_of options.Mix = 100
greatest_of options.Keys = 1000000
greatest_of options.Size = 4096

-- a value, or the option that has none
abbrev pub known : {A : Type 0} → CheckedOption → Option A → Result A CheckedOption
known option (Some x) = Ok x
known option None = Err option

abbrev pub given : {A : Type 0} → CheckedOption → Option A → Result (Option A) CheckedOption
given option (Some x) = Ok (Some x)
given option None = Err option

-- the number of an option, if the option has a text
abbrev pub number_as : CheckedOption → Option (List ℕ) → Result (Option ℕ) CheckedOption
number_as option None = Ok None
number_as option (Some text) = given option (number_between (least_of option) (greatest_of option) text)

-- the number of an option among what a parse found
abbrev pub number_in : CheckedOption → Found → Result (Option ℕ) CheckedOption
number_in option found = number_as option (first_value found (name_of option))

infixl 10 ◌>>=◌
abbrev pub ◌>>=◌ : {A B : Type 0} → Result A CheckedOption → (A → Result B CheckedOption) → Result B CheckedOption
(Ok x) >>= f = f x
(Err option) >>= f = Err option

-- a load with the numbers of the options that have texts
unfoldable pub load_in : BenchLoad → Found → Result BenchLoad CheckedOption
load_in load found = do
  connections ← number_in options.Connections found
  seconds ← number_in options.Seconds found
  reads ← number_in options.Mix found
  keys ← number_in options.Keys found
  size ← number_in options.Size found
  Ok (record { connections = unwrap_or connections load.connections; seconds = unwrap_or seconds load.seconds; reads = unwrap_or reads load.reads; keys = unwrap_or keys load.keys; size = unwrap_or size load.size })

-- the mode, if there is a text; else strong
abbrev pub mode_as : Option (List ℕ) → Result ReadMode CheckedOption
mode_as None = Ok modes.Strong
mode_as (Some text) = known options.Mode (mode_of text)

-- the mode among what a parse found
abbrev pub mode_in : Found → Result ReadMode CheckedOption
mode_in found = mode_as (first_value found (name_of options.Mode))

-- a result is what the options have, or the option at fault, unless memory ran out
abbrev pub Has : {X : Type 0} → Result X BadOption → Result X CheckedOption → Type 0
Has (Ok x) wanted = wanted ≡ Ok x
Has (Err (bad.Value option)) wanted = wanted ≡ Err option
Has (Err bad.Memory) wanted = ⊤
