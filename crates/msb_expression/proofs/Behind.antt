-- What stands behind the machine: how the text that it has read is written.
use Rattle.std.proofs.Common.{◌≡◌, ℕ, ◌<◌, Bool, true, false, List, [], ◌∷◌, ◌++◌, length, Some}
use Rattle.std.specs.Prelude.{IsSome, codes}
use Rattle.std.specs.Str.{str_to_ascii_lowercase}
use Rattle.msb_expression.specs.declared.starts.Inside.{Inside}
use Rattle.msb_expression.specs.declared.starts.Inside.TheVariants.{Quoted, Loose}
use Rattle.msb_expression.specs.declared.expression.Part.{Part}
use Rattle.msb_expression.specs.declared.expression.Part.TheVariants.{Func, Items}
use Rattle.msb_expression.specs.declared.expression.Call.{Call as PropertyCall}
use Rattle.msb_expression.specs.declared.expression.Step.{Step}
use Rattle.msb_expression.specs.declared.expression.Step.TheVariants.{Transform as Transforms, Call}
use Rattle.msb_expression.specs.declared.expression.Piece.{Piece}
use Rattle.msb_expression.specs.declared.expression.Piece.TheVariants.{
  Plain as PlainPiece,
  Prop as PropPiece,
  Meta as MetaPiece,
}
use Rattle.msb_expression.specs.Grammar.{
  IsName,
  IsSpaces,
  IsNamed,
  IsPlain,
  Joins,
  Apart,
  IsPiece,
  is_plain_piece,
  IsQuoted,
  IsListed,
  IsArgs,
  IsAct,
  IsStep,
  begins_space,
  trimmed_pieces,
  IsArgument,
  IsNextArgument,
  IsCall,
  IsNextCall,
  IsPart,
  is_plain,
}
use Rattle.msb_expression.specs.Machine.{
  Heads,
  CallHeads,
  Arguments,
  Place,
  in_transform,
  in_separator,
  in_argument,
  in_call,
  in_loose,
  Host,
  whole,
  inner,
  Mark,
  unmarked,
  dollar,
  percent,
  at_sign,
  Named,
  property,
  metadata,
  qualified,
  Mode,
  in_text,
  name_opened,
  in_name,
  name_ended,
  type_opened,
  in_type,
  type_dashed,
  stepping,
  dashed,
  arrow,
  function_named,
  function_ended,
  args_opened,
  arg_ended,
  arg_wanted,
  separator_wanted,
  separator_ended,
  property_opened,
  build_opened,
  call_wanted,
  call_named,
  call_ended,
  called,
  call_arg_wanted,
  call_arg_ended,
  place_inside,
  host_inside,
  spelled,
  settled,
  flushed_pieces,
  referred,
  heads_of,
  with_step,
  call_heads,
  with_call,
  property_call,
  with_arg,
  may_be_plain,
}

-- whole parts, of which the last is no plain one where anything may follow
pub record PartsAt (parts : List Part) (front : List ℕ) : Type 0 where
  pub joins : Joins IsPart front parts
  pub apart : Apart is_plain parts

-- an item reference, up to the end of its type name or of its last step
pub record HeadsAt (heads : Heads) (front : List ℕ) : Type 0 where
  pub base : List ℕ
  pub spaces : List ℕ
  pub stepped : List ℕ
  pub split : front ≡ base ++ 64 ∷ 40 ∷ (spaces ++ (heads.kind ++ stepped))
  pub parts : PartsAt heads.parts base
  pub are_spaces : IsSpaces spaces
  pub is_name : IsName heads.kind
  pub steps : Joins IsStep stepped heads.steps

-- what becomes of the text if an action follows
abbrev pub ArrowAt : Heads → List ℕ → Type 0
ArrowAt heads front = (rest : List ℕ) (step : Step) → IsAct rest step
    → HeadsAt (with_step heads step) (front ++ rest)

abbrev pub ArgsOpened : Heads → List ℕ → List ℕ → Type 0
ArgsOpened heads function front =
    (rest : List ℕ) (args : List (List Piece)) → IsArgs rest args
    → HeadsAt (with_step heads (Call function args)) (front ++ (rest ++ 41 ∷ []))

abbrev pub ArgEnded : Heads → List ℕ → List (List Piece) → List ℕ → Type 0
ArgEnded heads function args front =
    (others : List ℕ) (more : List (List Piece)) (after : List ℕ) → Joins IsListed others more
    → IsSpaces after
    → HeadsAt (with_step heads (Call function (args ++ more)))
    (front ++ (others ++ (after ++ 41 ∷ [])))

abbrev pub ArgWanted : Heads → List ℕ → List (List Piece) → List ℕ → Type 0
ArgWanted heads function args front =
    (quoted : List ℕ) (pieces : List Piece) → IsQuoted Quoted quoted pieces
    → ArgEnded heads function (args ++ pieces ∷ []) (front ++ quoted)

-- whole parts, of which the last is no plain one
pub record FreshParts (parts : List Part) (front : List ℕ) : Type 0 where
  pub joins : Joins IsPart front parts
  pub apart : Apart is_plain parts
  pub fresh : (part : Part) → Apart is_plain (parts ++ part ∷ [])

abbrev pub SeparatorEnded : Heads → List Piece → List ℕ → Type 0
SeparatorEnded heads pieces front =
    (after : List ℕ) → IsSpaces after
    → FreshParts (heads.parts ++ Items heads.kind heads.steps (Some pieces) ∷ [])
    (front ++ (after ++ 41 ∷ []))

abbrev pub SeparatorWanted : Heads → List ℕ → Type 0
SeparatorWanted heads front =
    (quoted : List ℕ) (pieces : List Piece) → IsQuoted Quoted quoted pieces
    → SeparatorEnded heads pieces (front ++ quoted)

-- whole calls, and what becomes of the text if others and a `)` follow
abbrev pub CallsDone : CallHeads → List ℕ → Type 0
CallsDone heads front =
    (others : List ℕ) (more : List PropertyCall) → Joins IsNextCall others more
    → FreshParts (heads.parts ++ Func heads.subject (heads.calls ++ more) ∷ [])
    (front ++ (others ++ 41 ∷ []))

-- the same where spaces may follow the last call
abbrev pub Called : CallHeads → List ℕ → Type 0
Called heads front = (after : List ℕ) → IsSpaces after → CallsDone heads (front ++ after)

-- the first call behind `::` has parentheses
abbrev pub MayFollow : CallHeads → PropertyCall → Type 0
MayFollow heads call = may_be_plain heads ≡ false → IsSome call.args

abbrev pub CallWanted : CallHeads → List ℕ → Type 0
CallWanted heads front =
    (text : List ℕ) (call : PropertyCall) → IsCall text call → MayFollow heads call
    → CallsDone (with_call heads call) (front ++ text)

-- whole arguments, and what becomes of the text if others and a `)` follow
pub record ArgsAt (a : Arguments) (front : List ℕ) : Type 0 where
  pub some : a.args ≡ [] → ⊥
  pub closes : (others : List ℕ) (more : List (List Piece)) → Joins IsNextArgument others more
      → Called (with_call a.heads (property_call a.function (Some (a.args ++ more))))
      (front ++ (others ++ 41 ∷ []))

-- the same where an argument may begin: the first one begins no text of spaces alone
pub record ArgumentAt (a : Arguments) (front : List ℕ) : Type 0 where
  pub none : a.args ≡ [] → (after : List ℕ) → IsSpaces after
      → Called (with_call a.heads (property_call a.function (Some [])))
      (front ++ (after ++ 41 ∷ []))
  pub some : (argument : List ℕ) (pieces : List Piece) (others : List ℕ) (more : List (List Piece))
      → IsArgument argument pieces → Joins IsNextArgument others more
      → (a.args ≡ [] → IsSpaces (argument ++ others) → ⊥)
      → Called (with_call a.heads
      (property_call a.function (Some ((a.args ++ pieces ∷ []) ++ more))))
      (front ++ (argument ++ (others ++ 41 ∷ [])))

pub record CallArgWanted (a : Arguments) (spaced : Bool) (front : List ℕ) : Type 0 where
  pub base : List ℕ
  pub spaces : List ℕ
  pub split : front ≡ base ++ spaces
  pub argument_at : ArgumentAt a base
  pub are_spaces : IsSpaces spaces
  pub some_space : spaced ≡ true → 0 < length spaces

abbrev pub CallArgEnded : Arguments → List ℕ → Type 0
CallArgEnded a front = (after : List ℕ) → IsSpaces after → ArgsAt a (front ++ after)

-- an argument without quotes begins with no space
abbrev pub starts_space : List Piece → Bool
starts_space [] = false
starts_space (PlainPiece plain ∷ pieces) = begins_space plain
starts_space (PropPiece name ∷ pieces) = false
starts_space (MetaPiece name ∷ pieces) = false

abbrev pub NoSpace : Place → List Piece → Type 0
NoSpace place pieces = place_inside place ≡ Loose → starts_space pieces ≡ false

-- and some of it is read
abbrev pub LooseBegun : List Piece → Type 0
LooseBegun pieces = (0 < length pieces) × (starts_space pieces ≡ false)

abbrev pub Begun : Host → List ℕ → Type 0
Begun (whole parts) plain = Unit {0}
Begun (inner place pieces) plain =
    place_inside place ≡ Loose → LooseBegun (flushed_pieces pieces plain)

-- in an argument without quotes only `$` is a mark
abbrev pub Marks : Mark → Inside → Type 0
Marks unmarked inside = Unit {0}
Marks dollar inside = Unit {0}
Marks percent inside = inside ≡ Loose → ⊥
Marks at_sign inside = inside ≡ Loose → ⊥

abbrev pub LeftAt : Place → List Piece → List ℕ → Type 0
LeftAt (in_transform heads) pieces front = HeadsAt (with_step heads (Transforms pieces)) front
LeftAt (in_separator heads) pieces front = SeparatorEnded heads pieces front
LeftAt (in_argument heads function args) pieces front = ArgEnded heads function
    (args ++ pieces ∷ []) front
LeftAt (in_call a) pieces front = CallArgEnded (with_arg a pieces) front
LeftAt (in_loose a) pieces front = CallArgEnded (with_arg a (trimmed_pieces pieces)) front

-- what becomes of the text if a text and a quote follow, or the text of an argument without quotes
abbrev pub QuoteOpened : Place → List ℕ → Type 0
QuoteOpened (in_loose a) front =
    (text : List ℕ) (pieces : List Piece) → Joins (IsPiece Loose) text pieces
    → Apart is_plain_piece pieces
    → LooseBegun pieces → ArgsAt (with_arg a (trimmed_pieces pieces)) (front ++ text)
QuoteOpened place front =
    (text : List ℕ) (pieces : List Piece) → Joins (IsPiece (place_inside place)) text pieces
    → Apart is_plain_piece pieces
    → LeftAt place pieces (front ++ (text ++ 39 ∷ []))

pub record PiecesAt (place : Place) (pieces : List Piece) (front : List ℕ) : Type 0 where
  pub base : List ℕ
  pub text : List ℕ
  pub split : front ≡ base ++ text
  pub opened : QuoteOpened place base
  pub joins : Joins (IsPiece (place_inside place)) text pieces
  pub apart : Apart is_plain_piece pieces
  pub no_space : NoSpace place pieces

pub record FreshPieces (place : Place) (pieces : List Piece) (front : List ℕ) : Type 0 where
  pub base : List ℕ
  pub text : List ℕ
  pub split : front ≡ base ++ text
  pub opened : QuoteOpened place base
  pub joins : Joins (IsPiece (place_inside place)) text pieces
  pub apart : Apart is_plain_piece pieces
  pub fresh : (piece : Piece) → Apart is_plain_piece (pieces ++ piece ∷ [])
  pub no_space : NoSpace place pieces

abbrev pub Fresh : Host → List ℕ → Type 0
Fresh (whole parts) front = FreshParts parts front
Fresh (inner place pieces) front = FreshPieces place pieces front

-- plain text, whatever plain text follows that may follow its mark
abbrev pub IsPlainSoFar : Inside → List ℕ → Mark → Type 0
IsPlainSoFar inside plain mark = (more : List ℕ) → IsPlain inside (spelled mark ++ more)
    → IsPlain inside (plain ++ (spelled mark ++ more))

pub record TextAt (host : Host) (plain : List ℕ) (mark : Mark) (front : List ℕ) : Type 0 where
  pub base : List ℕ
  pub split : front ≡ base ++ settled plain mark
  pub fresh : Fresh host base
  pub so_far : IsPlainSoFar (host_inside host) plain mark
  pub marks : Marks mark (host_inside host)
  pub begun : Begun host (settled plain mark)

-- what becomes of the text if a name and a `)` follow
abbrev pub Closes : Host → Named → List ℕ → Type 0
Closes host which front =
    (text : List ℕ) (name : List ℕ) → IsNamed text name
    → Fresh (referred host which name) (front ++ (text ++ 41 ∷ []))

-- and if a name and a `.` follow
abbrev pub Dots : Host → Named → List ℕ → Type 0
Dots (whole parts) metadata front =
    (text : List ℕ) (kind : List ℕ) → IsNamed text kind
    → Closes (whole parts) (qualified kind) (front ++ (text ++ 46 ∷ []))
Dots (whole parts) property front =
    (text : List ℕ) (name : List ℕ) → IsNamed text name
    → CallWanted (call_heads parts (Some name)) (front ++ (text ++ 46 ∷ []))
Dots (whole parts) (qualified kind) front = Unit {0}
Dots (inner place pieces) which front = Unit {0}

pub record NameOpened (host : Host) (which : Named) (front : List ℕ) : Type 0 where
  pub closes : Closes host which front
  pub dots : Dots host which front

pub record InName (host : Host) (which : Named) (name : List ℕ) (front : List ℕ) : Type 0 where
  pub base : List ℕ
  pub spaces : List ℕ
  pub split : front ≡ base ++ (spaces ++ name)
  pub opened : NameOpened host which base
  pub are_spaces : IsSpaces spaces
  pub is_name : IsName name

pub record NameEnded (host : Host) (which : Named) (name : List ℕ) (front : List ℕ) : Type 0 where
  pub base : List ℕ
  pub text : List ℕ
  pub split : front ≡ base ++ text
  pub opened : NameOpened host which base
  pub is_named : IsNamed text name

pub record TypeOpened (parts : List Part) (front : List ℕ) : Type 0 where
  pub base : List ℕ
  pub spaces : List ℕ
  pub split : front ≡ base ++ 64 ∷ 40 ∷ spaces
  pub parts_at : PartsAt parts base
  pub are_spaces : IsSpaces spaces

pub record TypeDashed (parts : List Part) (kind : List ℕ) (front : List ℕ) : Type 0 where
  pub base : List ℕ
  pub split : front ≡ base ++ 45 ∷ []
  pub heads : HeadsAt (heads_of parts kind) base

pub record Stepping (heads : Heads) (front : List ℕ) : Type 0 where
  pub base : List ℕ
  pub spaces : List ℕ
  pub split : front ≡ base ++ spaces
  pub heads_at : HeadsAt heads base
  pub are_spaces : IsSpaces spaces

pub record Dashed (heads : Heads) (front : List ℕ) : Type 0 where
  pub base : List ℕ
  pub spaces : List ℕ
  pub split : front ≡ base ++ (spaces ++ 45 ∷ [])
  pub heads_at : HeadsAt heads base
  pub are_spaces : IsSpaces spaces

pub record FunctionNamed (heads : Heads) (function : List ℕ) (front : List ℕ) : Type 0 where
  pub base : List ℕ
  pub spaces : List ℕ
  pub split : front ≡ base ++ (spaces ++ function)
  pub arrow_at : ArrowAt heads base
  pub are_spaces : IsSpaces spaces
  pub is_name : IsName function

pub record FunctionEnded (heads : Heads) (function : List ℕ) (front : List ℕ) : Type 0 where
  pub base : List ℕ
  pub text : List ℕ
  pub split : front ≡ base ++ text
  pub arrow_at : ArrowAt heads base
  pub is_named : IsNamed text function

-- behind `$(`, and behind some of `[MSBuild]::`
pub record PropertyOpened (parts : List Part) (front : List ℕ) : Type 0 where
  pub base : List ℕ
  pub split : front ≡ base ++ 36 ∷ 40 ∷ []
  pub parts_at : PartsAt parts base

pub record BuildOpened (parts : List Part) (left : List ℕ) (front : List ℕ) : Type 0 where
  pub base : List ℕ
  pub head : List ℕ
  pub split : front ≡ base ++ 36 ∷ 40 ∷ head
  pub parts_at : PartsAt parts base
  pub head_is : str_to_ascii_lowercase head ++ left ≡ codes "[msbuild]::"
  pub some : left ≡ [] → ⊥

pub record CallNamed (heads : CallHeads) (function : List ℕ) (front : List ℕ) : Type 0 where
  pub base : List ℕ
  pub spaces : List ℕ
  pub split : front ≡ base ++ (spaces ++ function)
  pub wanted : CallWanted heads base
  pub are_spaces : IsSpaces spaces
  pub is_name : IsName function

pub record CallEnded (heads : CallHeads) (function : List ℕ) (front : List ℕ) : Type 0 where
  pub base : List ℕ
  pub text : List ℕ
  pub split : front ≡ base ++ text
  pub wanted : CallWanted heads base
  pub is_named : IsNamed text function

abbrev pub Behind : Mode → List ℕ → Type 0
Behind (in_text host plain mark) front = TextAt host plain mark front
Behind (name_opened host which) front = NameOpened host which front
Behind (in_name host which name) front = InName host which name front
Behind (name_ended host which name) front = NameEnded host which name front
Behind (type_opened parts) front = TypeOpened parts front
Behind (in_type parts kind) front = HeadsAt (heads_of parts kind) front
Behind (type_dashed parts kind) front = TypeDashed parts kind front
Behind (stepping heads) front = Stepping heads front
Behind (dashed heads) front = Dashed heads front
Behind (arrow heads) front = ArrowAt heads front
Behind (function_named heads function) front = FunctionNamed heads function front
Behind (function_ended heads function) front = FunctionEnded heads function front
Behind (args_opened heads function) front = ArgsOpened heads function front
Behind (arg_ended heads function args) front = ArgEnded heads function args front
Behind (arg_wanted heads function args) front = ArgWanted heads function args front
Behind (separator_wanted heads) front = SeparatorWanted heads front
Behind (separator_ended heads pieces) front = SeparatorEnded heads pieces front
Behind (property_opened parts) front = PropertyOpened parts front
Behind (build_opened parts left) front = BuildOpened parts left front
Behind (call_wanted heads) front = CallWanted heads front
Behind (call_named heads function) front = CallNamed heads function front
Behind (call_ended heads function) front = CallEnded heads function front
Behind (called heads) front = Called heads front
Behind (call_arg_wanted a spaced) front = CallArgWanted a spaced front
Behind (call_arg_ended a) front = CallArgEnded a front
