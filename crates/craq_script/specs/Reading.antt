-- Relates the result of a parsing function to the defined parse.
use Rattle.std.specs.Prelude.{◌≡◌, ⊤, Option, Some, None, Result, Ok, Err}
use Rattle.craq_script.specs.declared.parse_error.ParseError.{ParseError}
use Rattle.craq_script.specs.declared.parse_error.ParseError.TheVariants as misread

infixl 10 ◌>>=◌
abbrev pub ◌>>=◌ : {A B : Type 0} → Option A → (A → Option B) → Option B
(Some x) >>= f = f x
None >>= f = None

-- an error is out of memory, or the text is outside the grammar
abbrev pub Fails : {Y : Type 0} → ParseError → Option Y → Type 0
Fails misread.Memory read = ⊤
Fails misread.OutsideGrammar read = read ≡ None

-- a result, through `view`, is the defined parse, unless memory ran out
abbrev pub ParsesTo : {X Y : Type 0} → (X → Y) → Result X ParseError → Option Y → Type 0
ParsesTo view (Ok x) read = read ≡ Some (view x)
ParsesTo view (Err e) read = Fails e read
