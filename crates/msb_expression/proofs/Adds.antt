-- What is added to a text that is read.
use Rattle.std.proofs.Common.{
  ◌≡◌,
  ℕ,
  ◌<◌,
  false,
  List,
  [],
  ◌∷◌,
  ◌++◌,
  length,
  Option,
  Some,
  None,
  refl,
  sym,
  ap,
  ◌∙◌,
  subst,
  append_assoc,
  length-append,
  arith,
}
use Rattle.std.specs.Prelude.{IsTrue, eqb, codes}
use Rattle.std.specs.Str.{str_to_ascii_lowercase}
use Rattle.std.proofs.lemmas.List.{append-nil}
use Rattle.msb_expression.specs.declared.starts.Inside.{Inside}
use Rattle.msb_expression.specs.declared.starts.Inside.TheVariants.{Whole, Transform, Quoted, Loose}
use Rattle.msb_expression.specs.declared.expression.Part.{Part}
use Rattle.msb_expression.specs.declared.expression.Part.TheVariants.{
  Plain,
  Prop,
  Func,
  Meta,
  Items,
}
use Rattle.msb_expression.specs.declared.expression.Step.{Step}
use Rattle.msb_expression.specs.declared.expression.Step.TheVariants.{Transform as Transforms, Call}
use Rattle.msb_expression.specs.declared.expression.Piece.{Piece}
use Rattle.msb_expression.specs.declared.expression.Piece.TheVariants.{
  Plain as PlainPiece,
  Prop as PropPiece,
  Meta as MetaPiece,
}
use Rattle.msb_expression.specs.Grammar.{
  IsName,
  IsSpaces,
  IsNamed,
  IsPlain,
  Joins,
  IsPiece,
  is_plain_piece,
  IsQuoted,
  IsListed,
  IsArgs,
  IsAct,
  IsStep,
  IsSeparator,
  IsPart,
  is_plain,
  is_name_byte,
}
use Rattle.msb_expression.specs.Machine.{
  Heads,
  Place,
  in_transform,
  in_separator,
  in_argument,
  in_call,
  in_loose,
  Host,
  whole,
  inner,
  Mark,
  unmarked,
  Named,
  property,
  metadata,
  qualified,
  place_inside,
  host_inside,
  spelled,
  settled,
  flushed_parts,
  flushed_pieces,
  flushed,
  referred,
  with_step,
  call_heads,
  left,
}
use Rattle.msb_expression.proofs.Joined.{Joins-more, Apart-more, Apart-fresh, Every-append}
use Rattle.msb_expression.proofs.Behind.{
  PartsAt,
  FreshParts,
  PiecesAt,
  FreshPieces,
  HeadsAt,
  ArrowAt,
  CallWanted,
  starts_space,
  NoSpace,
  LooseBegun,
  Begun,
  QuoteOpened,
  LeftAt,
  Fresh,
  TextAt,
  Stepping,
  Behind,
}

-- no space begins an argument without quotes
starts_same : (x : Piece) (xs ys : List Piece) → starts_space (x ∷ xs) ≡ starts_space (x ∷ ys)
starts_same (PlainPiece plain) xs ys = refl
starts_same (PropPiece name) xs ys = refl
starts_same (MetaPiece name) xs ys = refl

starts_added : (pieces : List Piece) (piece : Piece) → is_plain_piece piece ≡ false
    → starts_space pieces ≡ false → starts_space (pieces ++ piece ∷ []) ≡ false
starts_added [] (PlainPiece plain) e h = cc
starts_added [] (PropPiece name) e h = refl
starts_added [] (MetaPiece name) e h = refl
starts_added (x ∷ xs) piece e h = starts_same x (xs ++ piece ∷ []) xs ∙ h

starts_before : (pieces : List Piece) (plain more : List ℕ) → starts_space pieces ≡ false
    → starts_space (flushed_pieces pieces (plain ++ more)) ≡ false
    → starts_space (flushed_pieces pieces plain) ≡ false
starts_before [] [] more p q = refl
starts_before [] (b ∷ bs) more p q = q
starts_before (x ∷ xs) [] more p q = p
starts_before (x ∷ xs) (b ∷ bs) more p q = starts_same x (xs ++ PlainPiece (b ∷ bs) ∷ []) xs ∙ p

abbrev pub NoSpaceIn : Host → List ℕ → Type 0
NoSpaceIn (whole parts) plain = Unit {0}
NoSpaceIn (inner place pieces) plain = NoSpace place (flushed_pieces pieces plain)

pub begun_no_space : (host : Host) (plain : List ℕ) → Begun host plain → NoSpaceIn host plain
begun_no_space (whole parts) plain h = tt
begun_no_space (inner place pieces) plain h = λ i. (h i).1

pub no_space_before : (host : Host) (base plain : List ℕ) (mark : Mark) → Fresh host base
    → Begun host (settled plain mark) → NoSpaceIn host plain
no_space_before (whole parts) base plain mark f h = tt
no_space_before (inner place pieces) base plain mark f h =
    λ i. starts_before pieces plain (spelled mark) (f.no_space i) (h i).1

flushed_head : (x : Piece) (xs : List Piece) (plain : List ℕ)
    → (ys : List Piece) × (flushed_pieces (x ∷ xs) plain ≡ x ∷ ys)
flushed_head x xs [] = (xs, refl)
flushed_head x xs (b ∷ bs) = (xs ++ PlainPiece (b ∷ bs) ∷ [], refl)

loose_head : (x : Piece) (xs ys : List Piece) → LooseBegun (x ∷ xs) → LooseBegun (x ∷ ys)
loose_head x xs ys h = (omega arith, starts_same x ys xs ∙ h.1)

loose_more : (pieces : List Piece) (plain more : List ℕ) → LooseBegun (flushed_pieces pieces plain)
    → LooseBegun (flushed_pieces pieces (plain ++ more))
loose_more [] [] more h = absurd (omega (arith, h.0))
loose_more [] (b ∷ bs) more h = h
loose_more (x ∷ xs) plain more h =
    let f = flushed_head x xs plain in
    let g = flushed_head x xs (plain ++ more) in
    subst (λ t. LooseBegun t) (sym g.1) (loose_head x f.0 g.0 (subst (λ t. LooseBegun t) f.1 h))

pub begun_more : (host : Host) (plain more : List ℕ) → Begun host plain → Begun host (plain ++ more)
begun_more (whole parts) plain more h = tt
begun_more (inner place pieces) plain more h = λ i. loose_more pieces plain more (h i)

pub begun_elsewhere : (host : Host) (plain : List ℕ) → (host_inside host ≡ Loose → ⊥)
    → Begun host plain
begun_elsewhere (whole parts) plain n = tt
begun_elsewhere (inner place pieces) plain n = λ i. absurd (n i)

some_pieces : (pieces : List Piece) (piece : Piece) → 0 < length (pieces ++ piece ∷ [])
some_pieces pieces piece = omega (arith, length-append pieces (piece ∷ []))

pub referred_begun : (host : Host) (which : Named) (name front : List ℕ)
    → Fresh (referred host which name) front
    → Begun (referred host which name) []
referred_begun (whole parts) property name front f = tt
referred_begun (whole parts) metadata name front f = tt
referred_begun (whole parts) (qualified kind) name front f = tt
referred_begun (inner place pieces) property name front f =
    λ i. (some_pieces pieces _, f.no_space i)
referred_begun (inner place pieces) metadata name front f =
    λ i. (some_pieces pieces _, f.no_space i)
referred_begun (inner place pieces) (qualified kind) name front f =
    λ i. (some_pieces pieces _, f.no_space i)

-- a text with its plain part
abbrev pub FlushedAt : Host → List ℕ → Type 0
FlushedAt (whole parts) front = PartsAt parts front
FlushedAt (inner place pieces) front = PiecesAt place pieces front

pub parts-flushed : (parts : List Part) (front plain : List ℕ) → FreshParts parts front
    → IsPlain Whole plain → PartsAt (flushed_parts parts plain) (front ++ plain)
parts-flushed parts front [] h p = record
    { joins = subst (λ t. Joins IsPart t parts) (sym (append-nil front)) h.joins; apart = h.apart }
parts-flushed parts front (b ∷ bs) h p = record {
  joins = Joins-more IsPart front (b ∷ bs) parts (Plain (b ∷ bs)) h.joins ((omega arith, p), refl);
  apart = h.fresh (Plain (b ∷ bs));
}

pub pieces-flushed : (place : Place) (pieces : List Piece) (front plain : List ℕ)
    → FreshPieces place pieces front → IsPlain (place_inside place) plain
    → NoSpace place (flushed_pieces pieces plain)
    → PiecesAt place (flushed_pieces pieces plain) (front ++ plain)
pieces-flushed place pieces front [] h p n = record {
  base = h.base;
  text = h.text;
  split = append-nil front ∙ h.split;
  opened = h.opened;
  joins = h.joins;
  apart = h.apart;
  no_space = n;
}
pieces-flushed place pieces front (b ∷ bs) h p n = record {
  base = h.base;
  text = h.text ++ b ∷ bs;
  split = ap (λ t. t ++ b ∷ bs) h.split ∙ append_assoc h.base h.text (b ∷ bs);
  opened = h.opened;
  joins = Joins-more (IsPiece (place_inside place)) h.text (b ∷ bs) pieces (PlainPiece (b ∷ bs))
      h.joins ((omega arith, p), refl);
  apart = h.fresh (PlainPiece (b ∷ bs));
  no_space = n;
}

pub host-flushed : (host : Host) (front plain : List ℕ) → Fresh host front
    → IsPlain (host_inside host) plain → NoSpaceIn host plain
    → FlushedAt (flushed host plain) (front ++ plain)
host-flushed (whole parts) front plain h p n = parts-flushed parts front plain h p
host-flushed (inner place pieces) front plain h p n = pieces-flushed place pieces front plain h p n

-- the text is that of a reference
abbrev pub Refers : Host → Named → List ℕ → List ℕ → Type 0
Refers (whole parts) property name text = IsPart text (Prop name)
Refers (whole parts) metadata name text = IsPart text (Meta None name)
Refers (whole parts) (qualified kind) name text = IsPart text (Meta (Some kind) name)
Refers (inner place pieces) property name text = IsPiece (place_inside place) text (PropPiece name)
Refers (inner place pieces) metadata name text = IsPiece (place_inside place) text (MetaPiece name)
Refers (inner place pieces) (qualified kind) name text = ⊥

pub part-added : (parts : List Part) (front text : List ℕ) (part : Part) → is_plain part ≡ false
    → PartsAt parts front → IsPart text part → FreshParts (parts ++ part ∷ []) (front ++ text)
part-added parts front text part e h p = record {
  joins = Joins-more IsPart front text parts part h.joins p;
  apart = Apart-more is_plain parts part e h.apart;
  fresh = λ next. Apart-fresh is_plain parts part next e h.apart;
}

piece-added : (place : Place) (pieces : List Piece) (front text : List ℕ) (piece : Piece)
    → is_plain_piece piece ≡ false → PiecesAt place pieces front
    → IsPiece (place_inside place) text piece
    → FreshPieces place (pieces ++ piece ∷ []) (front ++ text)
piece-added place pieces front text piece e h p = record {
  base = h.base;
  text = h.text ++ text;
  split = ap (λ t. t ++ text) h.split ∙ append_assoc h.base h.text text;
  opened = h.opened;
  joins = Joins-more (IsPiece (place_inside place)) h.text text pieces piece h.joins p;
  apart = Apart-more is_plain_piece pieces piece e h.apart;
  fresh = λ next. Apart-fresh is_plain_piece pieces piece next e h.apart;
  no_space = λ i. starts_added pieces piece e (h.no_space i);
}

pub reference-added : (host : Host) (which : Named) (name front text : List ℕ)
    → FlushedAt host front → Refers host which name text
    → Fresh (referred host which name) (front ++ text)
reference-added (whole parts) property name front text h r = part-added parts front text (Prop name)
    refl h r
reference-added (whole parts) metadata name front text h r = part-added parts front text
    (Meta None name) refl h r
reference-added (whole parts) (qualified kind) name front text h r = part-added parts front text
    (Meta (Some kind) name) refl h r
reference-added (inner place pieces) property name front text h r = piece-added place pieces front
    text (PropPiece name) refl h r
reference-added (inner place pieces) metadata name front text h r = piece-added place pieces front
    text (MetaPiece name) refl h r
reference-added (inner place pieces) (qualified kind) name front text h r = absurd r

-- one byte more
pub space_is : (b : ℕ) → b ≡ 32 → IsSpaces (b ∷ [])
space_is b e = (subst (λ c. IsTrue (eqb c 32)) (sym e) refl, tt)

pub IsSpaces-more : (spaces : List ℕ) (b : ℕ) → b ≡ 32 → IsSpaces spaces
    → IsSpaces (spaces ++ b ∷ [])
IsSpaces-more spaces b e h = Every-append _ spaces (b ∷ []) h (space_is b e)

pub IsSpaces-cons : (spaces : List ℕ) (b : ℕ) → b ≡ 32 → IsSpaces spaces → IsSpaces (b ∷ spaces)
IsSpaces-cons spaces b e h = ((space_is b e).0, h)

pub IsNamed-spaced : (text name : List ℕ) (b : ℕ) → b ≡ 32 → IsNamed text name
    → IsNamed (b ∷ text) name
IsNamed-spaced text name b e h =
    (b ∷ h.0, h.1, IsSpaces-cons h.0 b e h.2, h.3, h.4, ap (λ t. b ∷ t) h.5)

pub IsNamed-more : (text name : List ℕ) (b : ℕ) → b ≡ 32 → IsNamed text name
    → IsNamed (text ++ b ∷ []) name
IsNamed-more text name b e h = (
  h.0,
  h.1 ++ b ∷ [],
  h.2,
  h.3,
  IsSpaces-more h.1 b e h.4,
  ap (λ t. t ++ b ∷ []) h.5
      ∙ append_assoc (h.0 ++ name) h.1 (b ∷ []),
)

pub IsNamed-of : (spaces name : List ℕ) → IsSpaces spaces → IsName name
    → IsNamed (spaces ++ name) name
IsNamed-of spaces name s n = (spaces, [], s, n, tt, sym (append-nil (spaces ++ name)))

pub IsName-more : (name : List ℕ) (b : ℕ) → IsTrue (is_name_byte b) → IsName name
    → IsName (name ++ b ∷ [])
IsName-more [] b e h = absurd h
IsName-more (x ∷ xs) b e h = (h.0, Every-append is_name_byte xs (b ∷ []) h.1 (e, tt))

pub IsQuoted-spaced : (inside : Inside) (text : List ℕ) (pieces : List Piece) (b : ℕ) → b ≡ 32
    → IsQuoted inside text pieces → IsQuoted inside (b ∷ text) pieces
IsQuoted-spaced inside text pieces b e h =
    (b ∷ h.0, h.1, IsSpaces-cons h.0 b e h.2, h.3, h.4, ap (λ t. b ∷ t) h.5)

pub IsListed-spaced : (text : List ℕ) (pieces : List Piece) (b : ℕ) → b ≡ 32 → IsListed text pieces
    → IsListed (b ∷ text) pieces
IsListed-spaced text pieces b e h =
    (b ∷ h.0, h.1, IsSpaces-cons h.0 b e h.2, h.3, ap (λ t. b ∷ t) h.4)

pub IsArgs-spaced : (text : List ℕ) (args : List (List Piece)) (b : ℕ) → b ≡ 32 → IsArgs text args
    → IsArgs (b ∷ text) args
IsArgs-spaced text [] b e h = IsSpaces-cons text b e h
IsArgs-spaced text (arg ∷ args) b e h =
    (b ∷ h.0, h.1, h.2, IsQuoted-spaced Quoted h.0 arg b e h.3, h.4, h.5, ap (λ t. b ∷ t) h.6)

pub IsAct-spaced : (text : List ℕ) (step : Step) (b : ℕ) → b ≡ 32 → IsAct text step
    → IsAct (b ∷ text) step
IsAct-spaced text (Transforms pieces) b e h = IsQuoted-spaced Transform text pieces b e h
IsAct-spaced text (Call function args) b e h =
    (b ∷ h.0, h.1, IsNamed-spaced h.0 function b e h.2, h.3, ap (λ t. b ∷ t) h.4)

-- a step behind spaces
pub arrow_at : (heads : Heads) (base spaces : List ℕ) → HeadsAt heads base → IsSpaces spaces
    → ArrowAt heads (base ++ (spaces ++ 45 ∷ 62 ∷ []))
arrow_at heads base spaces h s = λ rest step a. record {
  base = h.base;
  spaces = h.spaces;
  stepped = h.stepped ++ (spaces ++ 45 ∷ 62 ∷ rest);
  split = ap (λ t. (t ++ (spaces ++ 45 ∷ 62 ∷ [])) ++ rest) h.split ∙ simp append_assoc;
  parts = h.parts;
  are_spaces = h.are_spaces;
  is_name = h.is_name;
  steps = Joins-more IsStep h.stepped (spaces ++ 45 ∷ 62 ∷ rest) heads.steps step h.steps
      (spaces, rest, s, a, simp append_assoc);
}

-- the whole item reference
pub items_at : (heads : Heads) (base separated after : List ℕ) (separator : Option (List Piece))
    → HeadsAt heads base → IsSeparator separated separator → IsSpaces after
    → FreshParts (heads.parts ++ Items heads.kind heads.steps separator ∷ [])
    (base ++ (separated ++ (after ++ 41 ∷ [])))
items_at heads base separated after separator h s a =
    let text : List ℕ = 64 ∷ 40
    ∷ (h.spaces ++ (heads.kind ++ (h.stepped ++ (separated ++ (after ++ 41 ∷ []))))) in
    let split : h.base ++ text ≡ base ++ (separated ++ (after ++ 41 ∷ [])) = sym
    (ap (λ t. t ++ (separated ++ (after ++ 41 ∷ []))) h.split ∙ simp append_assoc) in
    subst (λ t. FreshParts (heads.parts ++ Items heads.kind heads.steps separator ∷ []) t) split
    (part-added heads.parts h.base text (Items heads.kind heads.steps separator) refl h.parts (
      h.spaces,
      h.stepped,
      separated,
      after,
      h.are_spaces,
      h.is_name,
      h.steps,
      s,
      a,
      simp
          append_assoc,
    ))

-- a text between quotes begins
pub quote_begun : (place : Place) (front : List ℕ) → (place_inside place ≡ Loose → ⊥)
    → QuoteOpened place front → TextAt (inner place []) [] unmarked front
quote_begun place front n h = record {
  base = front;
  split = sym (append-nil front);
  fresh =
      record {
        base = front;
        text = [];
        split = sym (append-nil front);
        opened = h;
        joins = refl;
        apart = tt;
        fresh = λ piece. tt;
        no_space = λ i. refl;
      };
  so_far = λ more k. k;
  marks = tt;
  begun = λ i. absurd (n i);
}

pub text_begun : (host : Host) (front : List ℕ) → Begun host [] → Fresh host front
    → TextAt host [] unmarked front
text_begun host front b h =
    record {
      base = front;
      split = sym (append-nil front);
      fresh = h;
      so_far = λ more k. k;
      marks =
          tt;
      begun = b;
    }

pub stepping_at : (heads : Heads) (front : List ℕ) → HeadsAt heads front → Stepping heads front
stepping_at heads front h = record
    { base = front; spaces = []; split = sym (append-nil front); heads_at = h; are_spaces = tt }

pub left_at : (place : Place) (pieces : List Piece) (front : List ℕ) → LeftAt place pieces front
    → Behind (left place pieces) front
left_at (in_transform heads) pieces front h = stepping_at (with_step heads (Transforms pieces))
    front h
left_at (in_separator heads) pieces front h = h
left_at (in_argument heads function args) pieces front h = h
left_at (in_call a) pieces front h = h
left_at (in_loose a) pieces front h = h

-- the calls of a property, and those behind `[MSBuild]::`
pub property_calls : (parts : List Part) (base named name : List ℕ) → PartsAt parts base
    → IsNamed named name
    → CallWanted (call_heads parts (Some name)) (base ++ 36 ∷ 40 ∷ (named ++ 46 ∷ []))
property_calls parts base named name h n = λ text call c m others more o.
    let function : List ℕ = named ++ ((46 ∷ text) ++ others) in
    let split : base ++ (36 ∷ 40 ∷ (function ++ 41 ∷ []))
    ≡ ((base ++ 36 ∷ 40 ∷ (named ++ 46 ∷ [])) ++ text) ++ (others ++ 41 ∷ []) =
    simp append_assoc in
    subst (λ t. FreshParts (parts ++ Func (Some name) (call ∷ more) ∷ []) t) split
    (part-added parts base (36 ∷ 40 ∷ (function ++ 41 ∷ [])) (Func (Some name) (call ∷ more))
    refl h (
      function,
      (
        named,
        (46 ∷ text) ++ others,
        n,
        (46 ∷ text, others, refl, (text, c, refl), o),
        omega arith,
        refl,
      ),
      refl,
    ))

pub build_calls : (parts : List Part) (base head : List ℕ) → PartsAt parts base
    → str_to_ascii_lowercase head ≡ codes "[msbuild]::"
    → CallWanted (call_heads parts None) (base ++ 36 ∷ 40 ∷ head)
build_calls parts base head h low = λ text call c m others more o.
    let function : List ℕ = head ++ (text ++ others) in
    let split : base ++ (36 ∷ 40 ∷ (function ++ 41 ∷ []))
    ≡ ((base ++ 36 ∷ 40 ∷ head) ++ text) ++ (others ++ 41 ∷ []) =
    simp append_assoc in
    subst (λ t. FreshParts (parts ++ Func None (call ∷ more) ∷ []) t) split
    (part-added parts base (36 ∷ 40 ∷ (function ++ 41 ∷ [])) (Func None (call ∷ more)) refl h
    (function, (head, text, others, low, c, m refl, o, sym (append_assoc head text others)), refl))
