-- The grammar as steps from byte to byte: how far a text is read, and what the next byte does.
use Rattle.std.specs.Prelude.{
  ℕ,
  Bool,
  true,
  false,
  ◌≡◌,
  ◌&&◌,
  ◌||◌,
  not,
  ◌==◌,
  List,
  [],
  ◌∷◌,
  ◌++◌,
  length,
  Option,
  Some,
  None,
  is_some,
  codes,
  if◌then◌else◌,
}
use Rattle.std.specs.Char.{to_ascii_lowercase}
use Rattle.msb_laws.specs.Words.{Text, Name}
use Rattle.msb_expression.specs.declared.starts.Inside.{Inside}
use Rattle.msb_expression.specs.declared.starts.Inside.TheVariants.{Whole, Transform, Quoted, Loose}
use Rattle.msb_expression.specs.declared.starts.Start.{Start}
use Rattle.msb_expression.specs.declared.starts.Start.TheVariants as start
use Rattle.msb_expression.specs.declared.sorts.Sort.{Sort}
use Rattle.msb_expression.specs.declared.sorts.Sort.TheVariants.{
  End,
  Letter,
  Digit,
  Dash,
  Space,
  Quote,
  Open,
  Close,
  Comma,
  Dot,
  Greater,
  Dollar,
  Percent,
  At,
  Bracket,
  Other,
}
use Rattle.msb_expression.specs.declared.sorts.Kind.{Kind}
use Rattle.msb_expression.specs.declared.sorts.Kind.TheVariants.{
  Name as BadName,
  Transform as BadStep,
  Nested,
}
use Rattle.msb_expression.specs.declared.expression.Part.{Part}
use Rattle.msb_expression.specs.declared.expression.Part.TheVariants.{
  Plain,
  Prop,
  Func,
  Meta,
  Items,
}
use Rattle.msb_expression.specs.declared.expression.Call.{Call as PropertyCall}
use Rattle.msb_expression.specs.declared.expression.Step.{Step}
use Rattle.msb_expression.specs.declared.expression.Step.TheVariants.{Transform as Transforms, Call}
use Rattle.msb_expression.specs.declared.expression.Piece.{Piece}
use Rattle.msb_expression.specs.declared.expression.Piece.TheVariants.{
  Plain as PlainPiece,
  Prop as PropPiece,
  Meta as MetaPiece,
}
use Rattle.msb_expression.specs.Grammar.{is_letter, is_digit, trimmed_pieces}

abbrev pub sort_of : ℕ → Sort
sort_of b =
    if is_letter b then Letter else
    if is_digit b then Digit else
    if b == 45 then Dash else
    if b == 32 then Space else
    if b == 39 then Quote else
    if b == 40 then Open else
    if b == 41 then Close else
    if b == 44 then Comma else
    if b == 46 then Dot else
    if b == 62 then Greater else
    if b == 36 then Dollar else
    if b == 37 then Percent else
    if b == 64 then At else
    if b == 91 then Bracket else Other

-- a byte of a name
abbrev pub is_name_sort : Sort → Bool
is_name_sort Letter = true
is_name_sort Digit = true
is_name_sort Dash = true
is_name_sort _ = false

-- what ends an argument without quotes
abbrev pub ends_argument : Sort → Bool
ends_argument Comma = true
ends_argument Close = true
ends_argument _ = false

-- the sort of the first byte
abbrev pub first_sort : Text → Sort
first_sort [] = End
first_sort (b ∷ bs) = sort_of b

-- the bytes begin with `->`
abbrev pub is_arrow : Text → Bool
is_arrow [] = false
is_arrow (b ∷ []) = false
is_arrow (b ∷ c ∷ bs) = (b == 45) && (c == 62)

-- an item reference as far as it is read
pub record Heads : Type 0 where
  pub parts : List Part
  pub kind : Name
  pub steps : List Step

-- a property reference with calls as far as it is read; the first call behind `[MSBuild]::` is one
-- of no property
pub record CallHeads : Type 0 where
  pub parts : List Part
  pub subject : Option Name
  pub calls : List PropertyCall

-- the call of a function of this name, with the arguments that are read
pub record Arguments : Type 0 where
  pub heads : CallHeads
  pub function : Name
  pub args : List (List Piece)

-- which text between quotes, or which argument without quotes
pub data Place : Type 0 where
  in_transform : Heads → Place
  in_separator : Heads → Place
  in_argument : Heads → (function : Name) → (args : List (List Piece)) → Place
  in_call : Arguments → Place
  in_loose : Arguments → Place

-- which text, with what is read of it
pub data Host : Type 0 where
  whole : List Part → Host
  inner : Place → List Piece → Host

-- the last byte of plain text, where it may begin a reference
pub data Mark : Type 0 where
  unmarked : Mark
  dollar : Mark
  percent : Mark
  at_sign : Mark

-- which name
pub data Named : Type 0 where
  property : Named
  metadata : Named
  qualified : (kind : Name) → Named

abbrev pub is_metadata : Named → Bool
is_metadata property = false
is_metadata metadata = true
is_metadata (qualified kind) = false

pub data Mode : Type 0 where
  in_text : Host → (plain : Text) → Mark → Mode
  name_opened : Host → Named → Mode
  in_name : Host → Named → (name : Name) → Mode
  name_ended : Host → Named → (name : Name) → Mode
  type_opened : List Part → Mode
  in_type : List Part → (kind : Name) → Mode
  type_dashed : List Part → (kind : Name) → Mode
  stepping : Heads → Mode
  dashed : Heads → Mode
  arrow : Heads → Mode
  function_named : Heads → (function : Name) → Mode
  function_ended : Heads → (function : Name) → Mode
  args_opened : Heads → (function : Name) → Mode
  arg_ended : Heads → (function : Name) → (args : List (List Piece)) → Mode
  arg_wanted : Heads → (function : Name) → (args : List (List Piece)) → Mode
  separator_wanted : Heads → Mode
  separator_ended : Heads → List Piece → Mode
  property_opened : List Part → Mode
  build_opened : List Part → (left : Text) → Mode
  call_wanted : CallHeads → Mode
  call_named : CallHeads → (function : Name) → Mode
  call_ended : CallHeads → (function : Name) → Mode
  called : CallHeads → Mode
  call_arg_wanted : Arguments → (spaced : Bool) → Mode
  call_arg_ended : Arguments → Mode

abbrev pub place_inside : Place → Inside
place_inside (in_transform heads) = Transform
place_inside (in_separator heads) = Quoted
place_inside (in_argument heads function args) = Quoted
place_inside (in_call arguments) = Quoted
place_inside (in_loose arguments) = Loose

abbrev pub host_inside : Host → Inside
host_inside (whole parts) = Whole
host_inside (inner place pieces) = place_inside place

abbrev pub spelled : Mark → Text
spelled unmarked = []
spelled dollar = 36 ∷ []
spelled percent = 37 ∷ []
spelled at_sign = 64 ∷ []

-- plain text with its last mark
abbrev pub settled : Text → Mark → Text
settled plain mark = plain ++ spelled mark

-- with a plain part, where that isn't empty
abbrev pub flushed_parts : List Part → Text → List Part
flushed_parts parts [] = parts
flushed_parts parts (b ∷ bs) = parts ++ Plain (b ∷ bs) ∷ []

abbrev pub flushed_pieces : List Piece → Text → List Piece
flushed_pieces pieces [] = pieces
flushed_pieces pieces (b ∷ bs) = pieces ++ PlainPiece (b ∷ bs) ∷ []

abbrev pub flushed : Host → Text → Host
flushed (whole parts) plain = whole (flushed_parts parts plain)
flushed (inner place pieces) plain = inner place (flushed_pieces pieces plain)

-- with a reference of this name
abbrev pub referred : Host → Named → Name → Host
referred (whole parts) property name = whole (parts ++ Prop name ∷ [])
referred (whole parts) metadata name = whole (parts ++ Meta None name ∷ [])
referred (whole parts) (qualified kind) name = whole (parts ++ Meta (Some kind) name ∷ [])
referred (inner place pieces) property name = inner place (pieces ++ PropPiece name ∷ [])
referred (inner place pieces) metadata name = inner place (pieces ++ MetaPiece name ∷ [])
referred (inner place pieces) (qualified kind) name = inner place (pieces ++ MetaPiece name ∷ [])

abbrev pub heads_of : List Part → Name → Heads
heads_of parts kind = record { parts = parts; kind = kind; steps = [] }

abbrev pub with_step : Heads → Step → Heads
with_step heads step = record
    { parts = heads.parts; kind = heads.kind; steps = heads.steps ++ step ∷ [] }

abbrev pub with_steps : Heads → List Step → Heads
with_steps heads steps = record
    { parts = heads.parts; kind = heads.kind; steps = heads.steps ++ steps }

-- before the calls of a property, or of `[MSBuild]`
abbrev pub call_heads : List Part → Option Name → CallHeads
call_heads parts subject = record { parts = parts; subject = subject; calls = [] }

abbrev pub with_call : CallHeads → PropertyCall → CallHeads
with_call heads call =
    record { parts = heads.parts; subject = heads.subject; calls = heads.calls ++ call ∷ [] }

abbrev pub with_calls : CallHeads → List PropertyCall → CallHeads
with_calls heads calls =
    record { parts = heads.parts; subject = heads.subject; calls = heads.calls ++ calls }

abbrev pub property_call : Name → Option (List (List Piece)) → PropertyCall
property_call function args = record { name = function; args = args }

-- a call of which no argument is read
abbrev pub arguments_of : CallHeads → Name → Arguments
arguments_of heads function = record { heads = heads; function = function; args = [] }

-- of which these are
abbrev pub with_all_args : CallHeads → Name → List (List Piece) → Arguments
with_all_args heads function args = record { heads = heads; function = function; args = args }

abbrev pub with_arg : Arguments → List Piece → Arguments
with_arg a arg = record { heads = a.heads; function = a.function; args = a.args ++ arg ∷ [] }

-- behind the `)` of a call
abbrev pub call_closed : Arguments → Mode
call_closed a = called (with_call a.heads (property_call a.function (Some a.args)))

-- behind the `)` of a property reference
abbrev pub calls_closed : CallHeads → Mode
calls_closed heads =
    in_text (whole (heads.parts ++ Func heads.subject heads.calls ∷ [])) [] unmarked

-- behind the closing quote of a text, or before what ends an argument without quotes
abbrev pub left : Place → List Piece → Mode
left (in_transform heads) pieces = stepping (with_step heads (Transforms pieces))
left (in_separator heads) pieces = separator_ended heads pieces
left (in_argument heads function args) pieces = arg_ended heads function (args ++ pieces ∷ [])
left (in_call arguments) pieces = call_arg_ended (with_arg arguments pieces)
left (in_loose arguments) pieces = call_arg_ended (with_arg arguments (trimmed_pieces pieces))

-- behind the `)` of an item reference
abbrev pub closed : Heads → Option (List Piece) → Mode
closed heads separator = in_text
    (whole (heads.parts ++ Items heads.kind heads.steps separator ∷ [])) [] unmarked

-- What the next byte does: the text is read that far, or the byte is bad.
pub data Next : Type 0 where
  go : Mode → Next
  stop : Kind → Next

-- `%(`
abbrev pub percent_step : Host → Inside → Text → Next
percent_step host Whole plain = go (name_opened (flushed host plain) metadata)
percent_step host Transform plain = go (name_opened (flushed host plain) metadata)
percent_step host Quoted plain = go (in_text host (plain ++ 37 ∷ 40 ∷ []) unmarked)
percent_step host Loose plain = stop BadName

-- `$(`: only outside all other references may calls follow the name
abbrev pub dollar_opened : Host → Text → Mode
dollar_opened (whole parts) plain = property_opened (flushed_parts parts plain)
dollar_opened (inner place pieces) plain =
    name_opened (inner place (flushed_pieces pieces plain)) property

-- `@(` between quotes
abbrev pub nested_step : Host → Inside → Text → Next
nested_step host Whole plain = stop Nested
nested_step host Transform plain = stop Nested
nested_step host Quoted plain = go (in_text host (plain ++ 64 ∷ 40 ∷ []) unmarked)
nested_step host Loose plain = stop BadName

-- `@(`
abbrev pub items_step : Host → Text → Next
items_step (whole parts) plain = go (type_opened (flushed_parts parts plain))
items_step (inner place pieces) plain = nested_step (inner place pieces) (place_inside place) plain

-- what can't stand in an argument without quotes
abbrev pub unless_loose : Inside → Mode → Next
unless_loose Whole mode = go mode
unless_loose Transform mode = go mode
unless_loose Quoted mode = go mode
unless_loose Loose mode = stop BadName

-- `(` in text
abbrev pub open_step : Host → Text → Mark → Next
open_step host plain unmarked =
    unless_loose (host_inside host) (in_text host (plain ++ 40 ∷ []) unmarked)
open_step host plain dollar = go (dollar_opened host plain)
open_step host plain percent = percent_step host (host_inside host) plain
open_step host plain at_sign = items_step host plain

-- `'` in text
abbrev pub quote_step : Host → Text → Next
quote_step (whole parts) plain = go (in_text (whole parts) (plain ++ 39 ∷ []) unmarked)
quote_step (inner place pieces) plain =
    unless_loose (place_inside place) (left place (flushed_pieces pieces plain))

-- behind an argument: spaces, a `,` and another one, or the `)` of the call
abbrev pub call_arg_ended_step : Arguments → Sort → Next
call_arg_ended_step a Space = go (call_arg_ended a)
call_arg_ended_step a Comma = go (call_arg_wanted a false)
call_arg_ended_step a Close = go (call_closed a)
call_arg_ended_step a _ = stop BadName

-- `,` or `)` in text, which end an argument without quotes
abbrev pub part_step : Host → Text → Sort → ℕ → Next
part_step (inner (in_loose a) pieces) plain sort b =
    call_arg_ended_step (with_arg a (trimmed_pieces (flushed_pieces pieces plain))) sort
part_step host plain sort b = go (in_text host (plain ++ b ∷ []) unmarked)

abbrev pub text_step : Host → Text → Mark → Sort → ℕ → Next
text_step host plain mark Dollar b = go (in_text host (settled plain mark) dollar)
text_step host plain mark Percent b =
    unless_loose (host_inside host) (in_text host (settled plain mark) percent)
text_step host plain mark At b =
    unless_loose (host_inside host) (in_text host (settled plain mark) at_sign)
text_step host plain mark Comma b = part_step host (settled plain mark) Comma b
text_step host plain mark Close b = part_step host (settled plain mark) Close b
text_step host plain mark Open b = open_step host plain mark
text_step host plain mark Quote b = quote_step host (settled plain mark)
text_step host plain mark _ b = go (in_text host (settled plain mark ++ b ∷ []) unmarked)

-- `.` behind a name
abbrev pub dot_step : Host → Named → Name → Next
dot_step (whole parts) property name = go (call_wanted (call_heads parts (Some name)))
dot_step (inner place pieces) property name = stop BadName
dot_step (whole parts) metadata name = go (name_opened (whole parts) (qualified name))
dot_step (inner place pieces) metadata name = stop BadStep
dot_step host (qualified kind) name = stop BadName

abbrev pub name_opened_step : Host → Named → Sort → ℕ → Next
name_opened_step host which Space b = go (name_opened host which)
name_opened_step host which Letter b = go (in_name host which (b ∷ []))
name_opened_step host which _ b = stop BadName

abbrev pub name_ended_step : Host → Named → Name → Sort → Next
name_ended_step host which name Space = go (name_ended host which name)
name_ended_step host which name Close = go (in_text (referred host which name) [] unmarked)
name_ended_step host which name Dot = dot_step host which name
name_ended_step host which name _ = stop BadName

abbrev pub in_name_step : Host → Named → Name → Sort → ℕ → Next
in_name_step host which name Letter b = go (in_name host which (name ++ b ∷ []))
in_name_step host which name Digit b = go (in_name host which (name ++ b ∷ []))
in_name_step host which name Dash b = go (in_name host which (name ++ b ∷ []))
in_name_step host which name sort b = name_ended_step host which name sort

-- the kind of a bad byte where a step may follow
abbrev pub stepping_kind : List Step → Kind
stepping_kind [] = BadName
stepping_kind (step ∷ steps) = BadStep

abbrev pub stepping_step : Heads → Sort → Next
stepping_step heads Space = go (stepping heads)
stepping_step heads Dash = go (dashed heads)
stepping_step heads Comma = go (separator_wanted heads)
stepping_step heads Close = go (closed heads None)
stepping_step heads _ = stop (stepping_kind heads.steps)

abbrev pub type_opened_step : List Part → Sort → ℕ → Next
type_opened_step parts Space b = go (type_opened parts)
type_opened_step parts Letter b = go (in_type parts (b ∷ []))
type_opened_step parts _ b = stop BadName

abbrev pub in_type_step : List Part → Name → Sort → ℕ → Next
in_type_step parts kind Letter b = go (in_type parts (kind ++ b ∷ []))
in_type_step parts kind Digit b = go (in_type parts (kind ++ b ∷ []))
in_type_step parts kind Dash b = go (type_dashed parts kind)
in_type_step parts kind sort b = stepping_step (heads_of parts kind) sort

abbrev pub type_dashed_step : List Part → Name → Sort → ℕ → Next
type_dashed_step parts kind Greater b = go (arrow (heads_of parts kind))
type_dashed_step parts kind sort b = in_type_step parts (kind ++ 45 ∷ []) sort b

abbrev pub dashed_step : Heads → Sort → Next
dashed_step heads Greater = go (arrow heads)
dashed_step heads _ = stop BadStep

abbrev pub arrow_step : Heads → Sort → ℕ → Next
arrow_step heads Space b = go (arrow heads)
arrow_step heads Quote b = go (in_text (inner (in_transform heads) []) [] unmarked)
arrow_step heads Letter b = go (function_named heads (b ∷ []))
arrow_step heads _ b = stop BadStep

abbrev pub function_ended_step : Heads → Name → Sort → Next
function_ended_step heads function Space = go (function_ended heads function)
function_ended_step heads function Open = go (args_opened heads function)
function_ended_step heads function _ = stop BadStep

abbrev pub function_named_step : Heads → Name → Sort → ℕ → Next
function_named_step heads function Letter b = go (function_named heads (function ++ b ∷ []))
function_named_step heads function Digit b = go (function_named heads (function ++ b ∷ []))
function_named_step heads function Dash b = go (function_named heads (function ++ b ∷ []))
function_named_step heads function sort b = function_ended_step heads function sort

abbrev pub args_opened_step : Heads → Name → Sort → Next
args_opened_step heads function Space = go (args_opened heads function)
args_opened_step heads function Quote = go
    (in_text (inner (in_argument heads function []) []) [] unmarked)
args_opened_step heads function Close = go (stepping (with_step heads (Call function [])))
args_opened_step heads function _ = stop BadStep

abbrev pub arg_ended_step : Heads → Name → List (List Piece) → Sort → Next
arg_ended_step heads function args Space = go (arg_ended heads function args)
arg_ended_step heads function args Comma = go (arg_wanted heads function args)
arg_ended_step heads function args Close = go (stepping (with_step heads (Call function args)))
arg_ended_step heads function args _ = stop BadStep

abbrev pub arg_wanted_step : Heads → Name → List (List Piece) → Sort → Next
arg_wanted_step heads function args Space = go (arg_wanted heads function args)
arg_wanted_step heads function args Quote = go
    (in_text (inner (in_argument heads function args) []) [] unmarked)
arg_wanted_step heads function args _ = stop BadStep

abbrev pub separator_wanted_step : Heads → Sort → Next
separator_wanted_step heads Space = go (separator_wanted heads)
separator_wanted_step heads Quote = go (in_text (inner (in_separator heads) []) [] unmarked)
separator_wanted_step heads _ = stop BadStep

abbrev pub separator_ended_step : Heads → List Piece → Sort → Next
separator_ended_step heads pieces Space = go (separator_ended heads pieces)
separator_ended_step heads pieces Close = go (closed heads (Some pieces))
separator_ended_step heads pieces _ = stop BadStep

-- the first byte is this one, in whatever case
abbrev pub begins_lower : ℕ → Text → Bool
begins_lower wanted [] = false
begins_lower wanted (b ∷ bs) = to_ascii_lowercase b == wanted

-- right behind `$(` outside all other references: `[` begins `[MSBuild]::`, in whatever case
abbrev pub property_opened_step : List Part → Sort → ℕ → Next
property_opened_step parts Bracket b = go (build_opened parts (codes "msbuild]::"))
property_opened_step parts sort b = name_opened_step (whole parts) property sort b

abbrev pub build_next : List Part → Text → Mode
build_next parts [] = call_wanted (call_heads parts None)
build_next parts (wanted ∷ left) = build_opened parts (wanted ∷ left)

-- before so much of `[msbuild]::`: all of it, or what is left
abbrev pub build_from : (is_whole : Bool) → List Part → Text → Mode
build_from true parts left = property_opened parts
build_from false parts left = build_next parts left

abbrev pub build_begun : List Part → Text → Mode
build_begun parts left = build_from (length left == 11) parts left

-- the text is read that far where a test holds, and else the byte is bad
abbrev pub go_if : Bool → Mode → Next
go_if true mode = go mode
go_if false mode = stop BadName

abbrev pub build_opened_step : List Part → Text → ℕ → Next
build_opened_step parts [] b = stop BadName
build_opened_step parts (wanted ∷ left) b =
    go_if (to_ascii_lowercase b == wanted) (build_next parts left)

abbrev pub call_wanted_step : CallHeads → Sort → ℕ → Next
call_wanted_step heads Space b = go (call_wanted heads)
call_wanted_step heads Letter b = go (call_named heads (b ∷ []))
call_wanted_step heads _ b = stop BadName

-- the first call behind `::` has parentheses
abbrev pub may_be_plain : CallHeads → Bool
may_be_plain heads = is_some heads.subject || not (length heads.calls == 0)

abbrev pub unless_first : CallHeads → Mode → Next
unless_first heads mode = go_if (may_be_plain heads) mode

abbrev pub call_ended_step : CallHeads → Name → Sort → Next
call_ended_step heads function Space = go (call_ended heads function)
call_ended_step heads function Open = go (call_arg_wanted (arguments_of heads function) false)
call_ended_step heads function Dot =
    unless_first heads (call_wanted (with_call heads (property_call function None)))
call_ended_step heads function Close =
    unless_first heads (calls_closed (with_call heads (property_call function None)))
call_ended_step heads function _ = stop BadName

abbrev pub call_named_step : CallHeads → Name → Sort → ℕ → Next
call_named_step heads function Letter b = go (call_named heads (function ++ b ∷ []))
call_named_step heads function Digit b = go (call_named heads (function ++ b ∷ []))
call_named_step heads function Dash b = go (call_named heads (function ++ b ∷ []))
call_named_step heads function sort b = call_ended_step heads function sort

abbrev pub called_step : CallHeads → Sort → Next
called_step heads Space = go (called heads)
called_step heads Dot = go (call_wanted heads)
called_step heads Close = go (calls_closed heads)
called_step heads _ = stop BadName

-- nothing but spaces, or nothing at all, where an argument may stand: spaces are one, but before
-- any other
abbrev pub blank_closed : Arguments → List (List Piece) → Bool → Next
blank_closed a [] spaced = go (call_closed a)
blank_closed a (arg ∷ args) true = go (call_closed (with_arg a []))
blank_closed a (arg ∷ args) false = stop BadName

-- the byte stands there, perhaps behind spaces
abbrev pub is_behind_spaces : ℕ → Text → Bool
is_behind_spaces byte [] = false
is_behind_spaces byte (b ∷ bs) = b == byte || (b == 32 && is_behind_spaces byte bs)

-- an argument is read there: no `)` behind spaces closes a call that has none
abbrev pub IsArgWanted : Arguments → Text → Type 0
IsArgWanted a bytes = a.args ≡ [] → is_behind_spaces 41 bytes ≡ false

abbrev pub blank_listed : Arguments → Bool → Next
blank_listed a true = go (call_arg_wanted (with_arg a []) false)
blank_listed a false = stop BadName

abbrev pub call_arg_wanted_step : Arguments → Bool → Sort → ℕ → Next
call_arg_wanted_step a spaced Space b = go (call_arg_wanted a true)
call_arg_wanted_step a spaced Quote b = go (in_text (inner (in_call a) []) [] unmarked)
call_arg_wanted_step a spaced Close b = blank_closed a a.args spaced
call_arg_wanted_step a spaced Comma b = blank_listed a spaced
call_arg_wanted_step a spaced sort b = text_step (inner (in_loose a) []) [] unmarked sort b

abbrev pub step_of : Mode → Sort → ℕ → Next
step_of (in_text host plain mark) sort b = text_step host plain mark sort b
step_of (name_opened host which) sort b = name_opened_step host which sort b
step_of (in_name host which name) sort b = in_name_step host which name sort b
step_of (name_ended host which name) sort b = name_ended_step host which name sort
step_of (type_opened parts) sort b = type_opened_step parts sort b
step_of (in_type parts kind) sort b = in_type_step parts kind sort b
step_of (type_dashed parts kind) sort b = type_dashed_step parts kind sort b
step_of (stepping heads) sort b = stepping_step heads sort
step_of (dashed heads) sort b = dashed_step heads sort
step_of (arrow heads) sort b = arrow_step heads sort b
step_of (function_named heads function) sort b = function_named_step heads function sort b
step_of (function_ended heads function) sort b = function_ended_step heads function sort
step_of (args_opened heads function) sort b = args_opened_step heads function sort
step_of (arg_ended heads function args) sort b = arg_ended_step heads function args sort
step_of (arg_wanted heads function args) sort b = arg_wanted_step heads function args sort
step_of (separator_wanted heads) sort b = separator_wanted_step heads sort
step_of (separator_ended heads pieces) sort b = separator_ended_step heads pieces sort
step_of (property_opened parts) sort b = property_opened_step parts sort b
step_of (build_opened parts left) sort b = build_opened_step parts left b
step_of (call_wanted heads) sort b = call_wanted_step heads sort b
step_of (call_named heads function) sort b = call_named_step heads function sort b
step_of (call_ended heads function) sort b = call_ended_step heads function sort
step_of (called heads) sort b = called_step heads sort
step_of (call_arg_wanted a spaced) sort b = call_arg_wanted_step a spaced sort b
step_of (call_arg_ended a) sort b = call_arg_ended_step a sort

-- What a text comes to: its parts, the bytes from the bad one on, or too early an end.
pub data Outcome : Type 0 where
  done : List Part → Outcome
  bad : Kind → Text → Outcome
  early : Outcome

abbrev pub finish : Mode → Outcome
finish (in_text (whole parts) plain mark) = done (flushed_parts parts (settled plain mark))
finish _ = early

abbrev pub followed : (Mode → Outcome) → Next → Text → Outcome
followed go_on (go mode) bytes = go_on mode
followed go_on (stop kind) bytes = bad kind bytes

unfoldable pub run : Text → Mode → Outcome
run [] mode = finish mode
run (b ∷ bs) mode = followed (run bs) (step_of mode (sort_of b) b) (b ∷ bs)

-- the start of a text
abbrev pub begin : Mode
begin = in_text (whole []) [] unmarked

-- a byte of this kind is bad, or there is none
abbrev pub refused : Text → Kind → Outcome
refused [] kind = early
refused (b ∷ bs) kind = bad kind (b ∷ bs)

-- what starts where bytes of these sorts stand
abbrev pub opened_start : Sort → Start → Start
opened_start Open here = here
opened_start _ here = start.Plain

abbrev pub quote_start : Inside → Start
quote_start Whole = start.Plain
quote_start Transform = start.Quote
quote_start Quoted = start.Quote
quote_start Loose = start.Bad

abbrev pub metadata_start : Inside → Start
metadata_start Whole = start.Metadata
metadata_start Transform = start.Metadata
metadata_start Quoted = start.Plain
metadata_start Loose = start.Bad

abbrev pub items_start : Inside → Start
items_start Whole = start.Items
items_start Transform = start.Items
items_start Quoted = start.Plain
items_start Loose = start.Bad

-- what can't stand in an argument without quotes, and what ends it
abbrev pub bad_if_loose : Inside → Start → Start
bad_if_loose Whole here = here
bad_if_loose Transform here = here
bad_if_loose Quoted here = here
bad_if_loose Loose here = start.Bad

abbrev pub part_start : Inside → Start
part_start Whole = start.Plain
part_start Transform = start.Plain
part_start Quoted = start.Plain
part_start Loose = start.Stop

abbrev pub start_by : Inside → Sort → Sort → Start
start_by inside End next = start.End
start_by inside Quote next = quote_start inside
start_by inside Dollar next = opened_start next start.Property
start_by inside Percent next = bad_if_loose inside (opened_start next (metadata_start inside))
start_by inside At next = bad_if_loose inside (opened_start next (items_start inside))
start_by inside Open next = bad_if_loose inside start.Plain
start_by inside Comma next = part_start inside
start_by inside Close next = part_start inside
start_by inside _ next = start.Plain

abbrev pub start_of : Inside → Text → Start
start_of inside [] = start.End
start_of inside (b ∷ bs) = start_by inside (sort_of b) (first_sort bs)
