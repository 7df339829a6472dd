-- What a text of a project file denotes, as it is written. (MSBuild properties; MSBuild items;
-- MSBuild targets)
use Rattle.std.specs.Prelude.{ℕ, List, Option, Some, None, Result, Ok, Err}
use Rattle.std.specs.Str.{str_to_ascii_lowercase}
use Rattle.msb_laws.specs.Words.{Text, Name}
use Rattle.msb_laws.specs.Results.{and_then, all_ok}
use Rattle.msb_values.specs.Names.{bad_place, is_target_byte}
use Rattle.msb_values.specs.declared.cause.Cause.{Cause}
use Rattle.msb_values.specs.declared.cause.Cause.TheVariants.{BadName}
use Rattle.msb_values.specs.declared.item.Item.{Item}
use Rattle.msb_expression.specs.Reading.{reading}
use Rattle.msb_expression.specs.declared.expression.Part.{Part}
use Rattle.msb_expression.specs.declared.faults.ExprFault.{ExprFault}
use Rattle.msb_expand.specs.declared.entry.Entry.{Entry}
use Rattle.msb_expand.specs.declared.faults.ExpandFault.{ExpandFault}
use Rattle.msb_expand.specs.Causes.{cause_of, expression_cause_of}
use Rattle.msb_expand.specs.Scenes.{Scene}
use Rattle.msb_expand.specs.Values.{text_value, entries_value, list_value}

abbrev pub or_cause : {X : Type 0} → Result X ExpandFault → Result X Cause
or_cause (Ok x) = Ok x
or_cause (Err fault) = Err (cause_of fault)

-- the expression that a text is, or why it is none
abbrev pub or_unread : Result (List Part) ExprFault → Result (List Part) Cause
or_unread (Ok parts) = Ok parts
or_unread (Err fault) = Err (expression_cause_of fault)

-- its text
abbrev pub expanded : Scene → Text → Result Text Cause
expanded scene written = and_then (or_unread (reading written))
    (λ parts. or_cause (text_value scene parts))

-- the entries of its list
abbrev pub expanded_entries : Scene → Text → Result (List Entry) Cause
expanded_entries scene written = and_then (or_unread (reading written))
    (λ parts. or_cause (entries_value scene parts))

-- its list
abbrev pub expanded_items : Scene → Text → Result (List Item) Cause
expanded_items scene written = and_then (or_unread (reading written))
    (λ parts. or_cause (list_value scene parts))

-- an entry of a list of targets is a target's name, or refused at its first bad byte
abbrev pub name_if : Text → Option ℕ → Result Name Cause
name_if text None = Ok (str_to_ascii_lowercase text)
name_if text (Some place) = Err (BadName place)

abbrev pub target_name : Item → Result Name Cause
target_name item = name_if item.ident (bad_place is_target_byte item.ident)

-- the targets that it names
abbrev pub target_names : Scene → Text → Result (List Name) Cause
target_names scene written = and_then (expanded_items scene written) (all_ok target_name)
