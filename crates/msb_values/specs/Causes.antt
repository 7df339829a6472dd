-- How a cause is printed: its number and its name, and its details, with one space between.
use Rattle.std.specs.Prelude.{[], ◌∷◌, ◌++◌, codes}
use Rattle.std.specs.Fmt.{decimal}
use Rattle.msb_laws.specs.Words.{Text}
use Rattle.msb_values.specs.declared.cause.Cause.{Cause}
use Rattle.msb_values.specs.declared.cause.Cause.TheVariants.{
  NotYet,
  NotJson,
  NotElement,
  UnknownElement,
  Misplaced,
  MissingAttribute,
  BothAttributes,
  BadName,
  Unclosed,
  BadTransform,
  NestedTransform,
  ItemsHere,
  MetadataHere,
  UnknownFunction,
  TooLong,
  MixedList,
  Syntax,
  NotBoolean,
  NotNumbers,
  BadPath,
  StarsInSegment,
  MissingImport,
  ImportDepth,
  Reserved,
  NoList,
  NoValue,
  BadArgument,
  Overflow,
  Memory,
}

abbrev pub label_of : Cause → Text
label_of NotYet = codes "0 NotYet"
label_of NotJson = codes "1 NotJson"
label_of NotElement = codes "2 NotElement"
label_of UnknownElement = codes "3 UnknownElement"
label_of Misplaced = codes "4 Misplaced"
label_of (MissingAttribute name) = codes "5 MissingAttribute"
label_of (BothAttributes first second) = codes "6 BothAttributes"
label_of (BadName place) = codes "7 BadName"
label_of (Unclosed place) = codes "8 Unclosed"
label_of (BadTransform place) = codes "9 BadTransform"
label_of (NestedTransform place) = codes "10 NestedTransform"
label_of ItemsHere = codes "11 ItemsHere"
label_of MetadataHere = codes "12 MetadataHere"
label_of (UnknownFunction name) = codes "13 UnknownFunction"
label_of TooLong = codes "14 TooLong"
label_of MixedList = codes "15 MixedList"
label_of (Syntax place) = codes "16 Syntax"
label_of (NotBoolean text) = codes "17 NotBoolean"
label_of (NotNumbers left right) = codes "18 NotNumbers"
label_of (BadPath text) = codes "19 BadPath"
label_of StarsInSegment = codes "20 StarsInSegment"
label_of (MissingImport path) = codes "21 MissingImport"
label_of ImportDepth = codes "22 ImportDepth"
label_of (Reserved name) = codes "23 Reserved"
label_of (NoList name) = codes "24 NoList"
label_of (NoValue kind ident name) = codes "25 NoValue"
label_of (BadArgument function) = codes "26 BadArgument"
label_of (Overflow function) = codes "27 Overflow"
label_of Memory = codes "Memory"

-- a detail behind the others
abbrev pub detail : Text → Text
detail text = 32 ∷ text

abbrev pub details_of : Cause → Text
details_of (MissingAttribute name) = detail name
details_of (BothAttributes first second) = detail first ++ detail second
details_of (BadName place) = detail (decimal place)
details_of (Unclosed place) = detail (decimal place)
details_of (BadTransform place) = detail (decimal place)
details_of (NestedTransform place) = detail (decimal place)
details_of (UnknownFunction name) = detail name
details_of (Syntax place) = detail (decimal place)
details_of (NotBoolean text) = detail text
details_of (NotNumbers left right) = detail left ++ detail right
details_of (BadPath text) = detail text
details_of (MissingImport path) = detail path
details_of (Reserved name) = detail name
details_of (NoList name) = detail name
details_of (BadArgument function) = detail function
details_of (Overflow function) = detail function
details_of (NoValue kind ident name) = detail kind ++ detail ident ++ detail name
details_of _ = []

abbrev pub shown_of : Cause → Text
shown_of cause = label_of cause ++ details_of cause
