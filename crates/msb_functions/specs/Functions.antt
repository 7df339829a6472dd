-- The value of each property function. (MSBuild property functions)
use Rattle.std.specs.Prelude.{
  ◌+◌,
  Bool,
  true,
  false,
  nat_le,
  List,
  [],
  ◌∷◌,
  length,
  Option,
  Some,
  None,
  Result,
  Ok,
  Err,
  ℤ,
  pos,
  negsuc,
  ◌+ℤ◌,
  ◌-ℤ◌,
  ◌*ℤ◌,
  nat_eq,
  codes,
  if◌then◌else◌,
}
use Rattle.std.specs.Fmt.{decimal}
use Rattle.std.specs.List.{starts_with, ends_with}
use Rattle.std.specs.Str.{chars, trim, bytes_eq, str_to_ascii_lowercase}
use Rattle.msb_laws.specs.Words.{Text, Name}
use Rattle.msb_functions.specs.declared.faults.FuncFault.{FuncFault}
use Rattle.msb_functions.specs.declared.faults.FuncFault.TheVariants.{UnknownFunction, BadArgument}
use Rattle.msb_functions.specs.declared.names.TextFunction.{TextFunction}
use Rattle.msb_functions.specs.declared.names.TextFunction.TheVariants.{
  Replace,
  Substring,
  StartsWith,
  EndsWith,
  Contains,
  Trim,
}
use Rattle.msb_functions.specs.declared.names.BuildFunction.{BuildFunction}
use Rattle.msb_functions.specs.declared.names.BuildFunction.TheVariants.{
  Add,
  Subtract,
  Multiply,
  ValueOrDefault,
}
use Rattle.msb_functions.specs.declared.sums.Operation.{Operation}
use Rattle.msb_functions.specs.declared.sums.Operation.TheVariants.{Sum, Difference, Product}
use Rattle.msb_functions.specs.Names.{named, text_functions, build_functions}
use Rattle.msb_functions.specs.Numbers.{if_fits, number, number_text}
use Rattle.msb_functions.specs.Texts.{contains, replaced, characters_at, characters_from}

abbrev pub and_then : {X Y : Type 0} → Result X FuncFault → (X → Result Y FuncFault)
    → Result Y FuncFault
and_then (Ok x) next = next x
and_then (Err fault) next = Err fault

abbrev pub truth_text : Bool → Text
truth_text true = codes "True"
truth_text false = codes "False"

-- each of one text becomes another; an empty one can't be found
abbrev pub replace : Text → Text → Text → Result Text FuncFault
replace text [] to = Err BadArgument
replace text (b ∷ bs) to = Ok (replaced (b ∷ bs) to text)

-- the characters from a place on, which is at most the text's length
abbrev pub substring_from : Text → ℤ → Result Text FuncFault
substring_from text (pos place) =
    if nat_le place (length (chars text)) then Ok (characters_from place text) else Err BadArgument
substring_from text (negsuc below) = Err BadArgument

-- so many of them, of which the text has as many
abbrev pub substring : Text → ℤ → ℤ → Result Text FuncFault
substring text (pos place) (pos count) =
    if nat_le (place + count) (length (chars text)) then Ok
    (characters_at place count text) else Err BadArgument
substring text place count = Err BadArgument

-- a function of a text
abbrev pub text_row : TextFunction → Text → List Text → Result Text FuncFault
text_row Replace text (from ∷ to ∷ []) = replace text from to
text_row Substring text (place ∷ []) = and_then (number place) (substring_from text)
text_row Substring text (place ∷ count ∷ []) =
    and_then (number place) (λ from. and_then (number count) (substring text from))
text_row StartsWith text (part ∷ []) = Ok (truth_text (starts_with nat_eq text part))
text_row EndsWith text (part ∷ []) = Ok (truth_text (ends_with nat_eq text part))
text_row Contains text (part ∷ []) = Ok (truth_text (contains text part))
text_row Trim text [] = Ok (trim text)
text_row function text args = Err BadArgument

abbrev pub operation_of : Operation → ℤ → ℤ → ℤ
operation_of Sum a b = a +ℤ b
operation_of Difference a b = a -ℤ b
operation_of Product a b = a *ℤ b

-- the result for two numbers
abbrev pub of_numbers : (ℤ → ℤ → ℤ) → Text → Text → Result Text FuncFault
of_numbers operation left right =
    and_then (number left)
    (λ a. and_then (number right) (λ b. number_text (if_fits (operation a b))))

-- the second text where the first is empty
abbrev pub value_or : Text → Text → Text
value_or [] other = other
value_or (b ∷ bs) other = b ∷ bs

-- a function of `[MSBuild]`
abbrev pub build_row : BuildFunction → List Text → Result Text FuncFault
build_row Add (left ∷ right ∷ []) = of_numbers (operation_of Sum) left right
build_row Subtract (left ∷ right ∷ []) = of_numbers (operation_of Difference) left right
build_row Multiply (left ∷ right ∷ []) = of_numbers (operation_of Product) left right
build_row ValueOrDefault (text ∷ other ∷ []) = Ok (value_or text other)
build_row function args = Err BadArgument

abbrev pub text_call : Option TextFunction → Text → List Text → Result Text FuncFault
text_call None text args = Err UnknownFunction
text_call (Some function) text args = text_row function text args

abbrev pub build_call : Option BuildFunction → List Text → Result Text FuncFault
build_call None args = Err UnknownFunction
build_call (Some function) args = build_row function args

-- what a text has without parentheses: its Length alone, the number of its characters
abbrev pub text_value : Text → Name → Result Text FuncFault
text_value text name =
    if bytes_eq (str_to_ascii_lowercase name) (codes "length") then Ok
    (decimal (length (chars text))) else Err UnknownFunction

-- A call: of a text or of `[MSBuild]`, with parentheses or without. Names are without case.
abbrev pub call_value : Option Text → Name → Option (List Text) → Result Text FuncFault
call_value (Some text) name None = text_value text name
call_value (Some text) name (Some args) = text_call (named text_functions name) text args
call_value None name (Some args) = build_call (named build_functions name) args
call_value None name None = Err UnknownFunction
