-- What a fault of a part, or a value of it, makes of the whole.
use Rattle.std.proofs.Common.{◌≡◌, Result, Ok, Err, ap, subst}
use Rattle.msb_expand.specs.Answers.{Gives}
use Rattle.msb_laws.specs.Results.{and_then, map_ok}
use Rattle.msb_expand.specs.declared.faults.ExpandFault.{ExpandFault}
use Rattle.msb_expand.specs.declared.faults.ExpandFault.TheVariants.{
  ItemsHere,
  MetadataHere,
  UnknownFunction,
  BadArgument,
  Overflow,
  TooLong,
  MixedList,
  BadPath,
  Expr,
  Memory,
}

-- the answer of something equal
pub gives_same : {T : Type 0} (r a b : Result T ExpandFault) → a ≡ b → Gives r a → Gives r b
gives_same r a b same given =
    let P : Result _ ExpandFault → Type 0 = λ x. Gives r x in
    subst P same given

pub and_then_stops : {X Y : Type 0} (e : ExpandFault) (a : Result X ExpandFault)
    (next : X → Result Y ExpandFault) → Gives {T = X} (Err e) a
    → Gives {T = Y} (Err e) (and_then a next)
and_then_stops ItemsHere a next given = ap (λ x. and_then x next) given
and_then_stops MetadataHere a next given = ap (λ x. and_then x next) given
and_then_stops (UnknownFunction name) a next given = ap (λ x. and_then x next) given
and_then_stops (BadArgument name) a next given = ap (λ x. and_then x next) given
and_then_stops (Overflow name) a next given = ap (λ x. and_then x next) given
and_then_stops TooLong a next given = ap (λ x. and_then x next) given
and_then_stops MixedList a next given = ap (λ x. and_then x next) given
and_then_stops (BadPath ident) a next given = ap (λ x. and_then x next) given
and_then_stops (Expr fault) a next given = ap (λ x. and_then x next) given
and_then_stops Memory a next given = tt

pub map_ok_stops : {X Y : Type 0} (e : ExpandFault) (f : X → Y) (a : Result X ExpandFault)
    → Gives {T = X} (Err e) a → Gives {T = Y} (Err e) (map_ok f a)
map_ok_stops ItemsHere f a given = ap (map_ok f) given
map_ok_stops MetadataHere f a given = ap (map_ok f) given
map_ok_stops (UnknownFunction name) f a given = ap (map_ok f) given
map_ok_stops (BadArgument name) f a given = ap (map_ok f) given
map_ok_stops (Overflow name) f a given = ap (map_ok f) given
map_ok_stops TooLong f a given = ap (map_ok f) given
map_ok_stops MixedList f a given = ap (map_ok f) given
map_ok_stops (BadPath ident) f a given = ap (map_ok f) given
map_ok_stops (Expr fault) f a given = ap (map_ok f) given
map_ok_stops Memory f a given = tt

unmapped : {X Y : Type 0} (f : X → Y) (e : ExpandFault) (a : Result X ExpandFault)
    → map_ok f a ≡ Err e → a ≡ Err e
unmapped f e (Ok x) is = cc
unmapped {X} {Y} f e (Err y) is =
    let same : y ≡ e = cc in
    ap (λ z. Err z) same

-- a fault of what is made of a value is a fault of the value
pub map_ok_stopped : {X Y : Type 0} (e : ExpandFault) (f : X → Y) (a : Result X ExpandFault)
    → Gives {T = Y} (Err e) (map_ok f a) → Gives {T = X} (Err e) a
map_ok_stopped ItemsHere f a given = unmapped f ItemsHere a given
map_ok_stopped MetadataHere f a given = unmapped f MetadataHere a given
map_ok_stopped (UnknownFunction name) f a given = unmapped f (UnknownFunction name) a given
map_ok_stopped (BadArgument name) f a given = unmapped f (BadArgument name) a given
map_ok_stopped (Overflow name) f a given = unmapped f (Overflow name) a given
map_ok_stopped TooLong f a given = unmapped f TooLong a given
map_ok_stopped MixedList f a given = unmapped f MixedList a given
map_ok_stopped (BadPath ident) f a given = unmapped f (BadPath ident) a given
map_ok_stopped (Expr fault) f a given = unmapped f (Expr fault) a given
map_ok_stopped Memory f a given = tt
