-- The value of a property reference with calls. (MSBuild property functions)
use Rattle.std.specs.Prelude.{List, [], ◌∷◌, map, Option, Some, option_map, Result, Ok, Err}
use Rattle.msb_laws.specs.Words.{Text, Name}
use Rattle.msb_laws.specs.Results.{and_then, map_ok}
use Rattle.msb_values.specs.Escapes.{escaped, unescaped}
use Rattle.msb_functions.specs.Functions.{call_value}
use Rattle.msb_functions.specs.declared.faults.FuncFault.{FuncFault}
use Rattle.msb_functions.specs.declared.faults.FuncFault.TheVariants as func
use Rattle.msb_expression.specs.declared.expression.Call.{Call}
use Rattle.msb_expression.specs.declared.expression.Piece.{Piece}
use Rattle.msb_expand.specs.declared.faults.ExpandFault.{ExpandFault}
use Rattle.msb_expand.specs.declared.faults.ExpandFault.TheVariants.{
  UnknownFunction,
  BadArgument,
  Overflow,
  Memory,
}
use Rattle.msb_expand.specs.Scenes.{Scene}
use Rattle.msb_expand.specs.Reserved.{property_of}
use Rattle.msb_expand.specs.Metadata.{text_or_none}
use Rattle.msb_expand.specs.Functions.{quoted_value}

-- a function's fault has its name as it is written
abbrev pub fault_of : Name → FuncFault → ExpandFault
fault_of name func.UnknownFunction = UnknownFunction name
fault_of name func.BadArgument = BadArgument name
fault_of name func.Overflow = Overflow name
fault_of name func.Memory = Memory

abbrev pub or_fault : {X : Type 0} → Name → Result X FuncFault → Result X ExpandFault
or_fault name (Ok x) = Ok x
or_fault name (Err fault) = Err (fault_of name fault)

-- a property's value and the arguments are unescaped
abbrev pub subject_of : Scene → Option Name → Option Text
subject_of scene subject = option_map (λ name. unescaped (property_of scene name)) subject

abbrev pub argument_of : Scene → List Piece → Text
argument_of scene pieces = unescaped (quoted_value scene pieces)

abbrev pub called : Scene → Option Text → Call → Result Text ExpandFault
called scene subject call =
    or_fault call.name
    (call_value subject call.name (option_map (map (argument_of scene)) call.args))

-- each call is one of what the call before it gives, as it is
abbrev pub calls_value : Scene → Option Text → List Call → Result (Option Text) ExpandFault
calls_value scene subject [] = Ok subject
calls_value scene subject (call ∷ calls) =
    and_then (called scene subject call) (λ value. calls_value scene (Some value) calls)

-- what the last gives is escaped
abbrev pub calls_text : Scene → Option Name → List Call → Result Text ExpandFault
calls_text scene subject calls =
    map_ok (λ value. escaped (text_or_none value))
    (calls_value scene (subject_of scene subject) calls)
