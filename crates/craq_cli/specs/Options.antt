-- The numbers of `craqd`'s options, by their values on the command line.
use Rattle.std.specs.Prelude.{◌≡◌, ⊤, ℕ, ◌-◌, ◌^◌, List, codes, Option, Some, None, Result, Ok, Err}
use Rattle.clap.specs.Words.{first_value}
use Rattle.clap.specs.declared.parser.matches.Found.{Found}
use Rattle.craq_cli.specs.Numbers.{number_between}
use Rattle.craq_cli.specs.declared.options.NumberOption.{NumberOption}
use Rattle.craq_cli.specs.declared.options.NumberOption.TheVariants as options
use Rattle.craq_cli.specs.declared.options.Numbers.{Numbers}
use Rattle.craq_cli.specs.declared.options.Unfit.{Unfit}
use Rattle.craq_cli.specs.declared.options.Unfit.TheVariants as unfit

-- an option's name
abbrev pub name_of : NumberOption → List ℕ
name_of options.Connections = codes "connections"
name_of options.Threads = codes "threads"
name_of options.Most = codes "most"
name_of options.Idle = codes "idle"
name_of options.MostLeap = codes "most-leap"

-- the greatest number that an option takes; the least is 0
abbrev pub greatest_of : NumberOption → ℕ
greatest_of options.Connections = 2 ^ 32 - 1
greatest_of options.Threads = 64
greatest_of options.Most = 2 ^ 32 - 1
greatest_of options.Idle = 2 ^ 32 - 1
greatest_of options.MostLeap = 2 ^ 32 - 1

-- the number up to `most` that a text encodes, where there is a text
abbrev pub spelled : ℕ → Option (List ℕ) → Option ℕ
spelled most None = None
spelled most (Some text) = number_between 0 most text

-- the number, or the option that has none
abbrev pub known : NumberOption → Option ℕ → Result ℕ NumberOption
known option (Some n) = Ok n
known option None = Err option

-- the number of an option among what a parse found
abbrev pub option_number : NumberOption → Found → Result ℕ NumberOption
option_number option found = known option (spelled (greatest_of option) (first_value found (name_of option)))

infixl 10 ◌>>=◌
abbrev pub ◌>>=◌ : {A B : Type 0} → Result A NumberOption → (A → Result B NumberOption) → Result B NumberOption
(Ok x) >>= f = f x
(Err option) >>= f = Err option

-- the numbers of all options, or the first option whose value is none that it takes
unfoldable pub numbers_of : Found → Result Numbers NumberOption
numbers_of found = do
  connections ← option_number options.Connections found
  threads ← option_number options.Threads found
  most ← option_number options.Most found
  idle ← option_number options.Idle found
  most_leap ← option_number options.MostLeap found
  Ok (record { connections = connections; threads = threads; most = most; idle = idle; most_leap = most_leap })

-- the result of a function is the value in the options, or the option at fault, unless it ran out of memory
abbrev pub Has : {X : Type 0} → Result X Unfit → Result X NumberOption → Type 0
Has (Ok x) wanted = wanted ≡ Ok x
Has (Err (unfit.Option option)) wanted = wanted ≡ Err option
Has (Err unfit.Memory) wanted = ⊤
