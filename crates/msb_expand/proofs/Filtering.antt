-- A turn of the item functions that ask each item's metadata.
use Rattle.std.proofs.Common.{
  ◌≡◌,
  Bool,
  true,
  false,
  List,
  [],
  ◌++◌,
  Result,
  Ok,
  Err,
  refl,
  sym,
  ap,
  ◌∙◌,
  append_assoc,
}
use Rattle.msb_values.specs.declared.item.Item.{Item}
use Rattle.msb_expand.specs.Answers.{Gives}
use Rattle.msb_laws.specs.Results.{and_then, map_ok}
use Rattle.msb_expand.specs.Functions.{kept_if}
use Rattle.msb_expand.specs.declared.faults.ExpandFault.{ExpandFault}
use Rattle.msb_expand.proofs.Giving.{and_then_stops, map_ok_stops, map_ok_stopped}

kept_before : (is : Bool) (item : Item) (rest : List Item)
    → kept_if is item rest ≡ kept_if is item [] ++ rest
kept_before true item rest = refl
kept_before false item rest = refl

-- an item is kept, or not, behind those that were
pub keeps_on : {X : Type 0} (passes : X → Bool) (value : Result X ExpandFault) (is : Bool)
    (item : Item) (kept more : List Item) (rest : Result (List Item) ExpandFault)
    → map_ok passes value ≡ Ok is → more ≡ kept ++ kept_if is item []
    → map_ok (λ items. more ++ items) rest ≡ map_ok (λ items. kept ++ items)
    (and_then value (λ x. map_ok (kept_if (passes x) item) rest))
keeps_on passes (Err e) is item kept more rest asked grown = cc
keeps_on passes (Ok x) is item kept more (Err e) asked grown = refl
keeps_on passes (Ok x) is item kept more (Ok items) asked grown =
    let answer : passes x ≡ is = cc in
    ap (λ whole. Ok (whole ++ items)) grown
    ∙ ap Ok (append_assoc kept (kept_if is item []) items)
    ∙ ap (λ front. Ok (kept ++ front)) (sym (kept_before is item items))
    ∙ ap (λ b. Ok (kept ++ kept_if b item items)) (sym answer)

-- a fault of an item's metadata ends it
pub keeping_stops : {X : Type 0} (e : ExpandFault) (passes : X → Bool)
    (value : Result X ExpandFault) (kept : List Item) (next : X → Result (List Item) ExpandFault)
    → Gives {T = Bool} (Err e) (map_ok passes value)
    → Gives {T = List Item} (Err e) (map_ok (λ items. kept ++ items) (and_then value next))
keeping_stops e passes value kept next given =
    map_ok_stops e (λ items. kept ++ items) (and_then value next)
    (and_then_stops e value next (map_ok_stopped e passes value given))

-- the first that passes ends the search
pub finds : {X : Type 0} (passes : X → Bool) (value : Result X ExpandFault)
    (rest : Result Bool ExpandFault) → map_ok passes value ≡ Ok true
    → and_then value (λ x. elim (passes x) [ true ↦ Ok true | false ↦ rest ]) ≡ Ok true
finds passes (Err e) rest asked = cc
finds passes (Ok x) rest asked =
    let answer : passes x ≡ true = cc in
    ap (λ b. elim b [ true ↦ Ok true | false ↦ rest ]) answer

-- another is followed by the rest
pub seeks_on : {X : Type 0} (passes : X → Bool) (value : Result X ExpandFault)
    (rest : Result Bool ExpandFault) → map_ok passes value ≡ Ok false
    → and_then value (λ x. elim (passes x) [ true ↦ Ok true | false ↦ rest ]) ≡ rest
seeks_on passes (Err e) rest asked = cc
seeks_on passes (Ok x) rest asked =
    let answer : passes x ≡ false = cc in
    ap (λ b. elim b [ true ↦ Ok true | false ↦ rest ]) answer

pub seeking_stops : {X : Type 0} (e : ExpandFault) (passes : X → Bool)
    (value : Result X ExpandFault) (next : X → Result Bool ExpandFault)
    → Gives {T = Bool} (Err e) (map_ok passes value)
    → Gives {T = Bool} (Err e) (and_then value next)
seeking_stops e passes value next given = and_then_stops e value next
    (map_ok_stopped e passes value given)
