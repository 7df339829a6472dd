-- The machine over texts between quotes.
use Rattle.std.proofs.Common.{
  ◌≡◌,
  ℕ,
  ◌<◌,
  Bool,
  List,
  [],
  ◌∷◌,
  ◌++◌,
  length,
  refl,
  sym,
  ap,
  ◌∙◌,
  subst,
  append_assoc,
  arith,
}
use Rattle.std.specs.Prelude.{codes}
use Rattle.std.proofs.lemmas.List.{append-nil}
use Rattle.msb_expression.specs.declared.starts.Inside.{Inside}
use Rattle.msb_expression.specs.declared.starts.Inside.TheVariants.{Transform, Loose}
use Rattle.msb_expression.specs.declared.expression.Part.{Part}
use Rattle.msb_expression.specs.declared.expression.Part.TheVariants.{Plain}
use Rattle.msb_expression.specs.declared.expression.Piece.{Piece}
use Rattle.msb_expression.specs.declared.expression.Piece.TheVariants.{
  Plain as PlainPiece,
  Prop as PropPiece,
  Meta as MetaPiece,
}
use Rattle.msb_expression.specs.declared.sorts.Sort.TheVariants.{Space, Quote}
use Rattle.msb_expression.specs.Grammar.{
  IsNamed,
  IsPlain,
  IsPiece,
  is_plain_piece,
  Joins,
  Apart,
  IsQuoted,
}
use Rattle.msb_expression.specs.Machine.{
  Place,
  Host,
  inner,
  Mark,
  unmarked,
  Named,
  property,
  metadata,
  Mode,
  in_text,
  name_opened,
  name_ended,
  go,
  step_of,
  place_inside,
  host_inside,
  settled,
  flushed,
  flushed_parts,
  flushed_pieces,
  referred,
  left,
  run,
}
use Rattle.msb_expression.proofs.Runs.{run-go, run-spaces, run-named, named_first}
use Rattle.msb_expression.proofs.PlainText.{ReadsMetadata, never_whole}
use Rattle.msb_expression.proofs.RunsText.{
  PlainRuns,
  plain_runs,
  reach_property,
  reach_metadata,
  reach_quote,
  flushed-nil,
  dollar-name,
  over_property,
  over_metadata,
  over_quote,
}

pub run-closed : (host : Host) (which : Named) (text name rest : List ℕ) → IsNamed text name
    → run (text ++ 41 ∷ rest) (name_opened host which)
    ≡ run rest (in_text (referred host which name) [] unmarked)
run-closed host which text name rest n = run-named host which text name (41 ∷ rest) n refl
    ∙ run-go 41 rest (name_ended host which name) (in_text (referred host which name) [] unmarked)
    refl

pub property_runs : (host : Host) (text named name rest : List ℕ) → IsNamed named name
    → text ≡ codes "$(" ++ named ++ codes ")"
    → run (text ++ rest) (in_text host [] unmarked)
    ≡ run rest (in_text (referred host property name) [] unmarked)
property_runs host text named name rest n e =
    ap (λ t. run t (in_text host [] unmarked)) (ap (λ t. t ++ rest) e ∙ simp append_assoc)
    ∙ reach_property host [] unmarked (named ++ 41 ∷ rest)
    ∙ dollar-name host (named ++ 41 ∷ rest) (named_first named name (41 ∷ rest) n)
    ∙ run-closed host property named name rest n

pub metadata_runs : (host : Host) (text named name rest : List ℕ) → ReadsMetadata (host_inside host)
    → IsNamed named name → text ≡ codes "%(" ++ named ++ codes ")"
    → run (text ++ rest) (in_text host [] unmarked) ≡ run rest
    (in_text (referred host metadata name) [] unmarked)
metadata_runs host text named name rest q n e =
    ap (λ t. run t (in_text host [] unmarked)) (ap (λ t. t ++ rest) e ∙ simp append_assoc)
    ∙ reach_metadata host [] unmarked (named ++ 41 ∷ rest) q
    ∙ ap (λ h. run (named ++ 41 ∷ rest) (name_opened h metadata)) (flushed-nil host)
    ∙ run-closed host metadata named name rest n

-- plain text may be taken for a part before this
abbrev pub OverAt : Host → List ℕ → Type 0
OverAt host rest = (plain : List ℕ) (mark : Mark)
    → run rest (in_text host plain mark) ≡ run rest
    (in_text (flushed host (settled plain mark)) [] unmarked)

-- the same for this plain text
abbrev pub OverFor : Host → List ℕ → List ℕ → Type 0
OverFor host text rest = (plain : List ℕ) (mark : Mark) → settled plain mark ≡ text
    → run rest (in_text host plain mark) ≡ run rest
    (in_text (flushed host (settled plain mark)) [] unmarked)

pub plain_part_runs : (host : Host) (plain rest : List ℕ) → IsPlain (host_inside host) plain
    → OverFor host plain rest
    → run (plain ++ rest) (in_text host [] unmarked) ≡ run rest
    (in_text (flushed host plain) [] unmarked)
plain_part_runs host plain rest h over =
    let r : PlainRuns host [] unmarked plain rest = plain_runs host [] unmarked plain rest h in
    r.3 ∙ over r.0 r.1 r.2 ∙ ap (λ t. run rest (in_text (flushed host t) [] unmarked)) r.2

pub property_over : (host : Host) (text more rest : List ℕ) → text ≡ 36 ∷ 40 ∷ more
    → OverAt host (text ++ rest)
property_over host text more rest e = λ plain mark.
    subst (λ t. run t (in_text host plain mark)
    ≡ run t (in_text (flushed host (settled plain mark)) [] unmarked))
    (sym (ap (λ t. t ++ rest) e)) (over_property host plain mark (more ++ rest))

pub metadata_over : (host : Host) (text more rest : List ℕ) → ReadsMetadata (host_inside host)
    → text ≡ 37 ∷ 40 ∷ more → OverAt host (text ++ rest)
metadata_over host text more rest q e = λ plain mark.
    subst (λ t. run t (in_text host plain mark)
    ≡ run t (in_text (flushed host (settled plain mark)) [] unmarked))
    (sym (ap (λ t. t ++ rest) e)) (over_metadata host plain mark (more ++ rest) q)

pub flushed_pieces-some : (pieces : List Piece) (plain : List ℕ) → 0 < length plain
    → flushed_pieces pieces plain ≡ pieces ++ PlainPiece plain ∷ []
flushed_pieces-some pieces [] h = absurd (omega arith)
flushed_pieces-some pieces (b ∷ bs) h = refl

pub flushed_parts-some : (parts : List Part) (plain : List ℕ) → 0 < length plain
    → flushed_parts parts plain ≡ parts ++ Plain plain ∷ []
flushed_parts-some parts [] h = absurd (omega arith)
flushed_parts-some parts (b ∷ bs) h = refl

transform_reads : (inside : Inside) → inside ≡ Transform → ReadsMetadata inside
transform_reads inside e = subst (λ i. ReadsMetadata i) (sym e) tt

next_over : (place : Place) (had pieces : List Piece) (text rest : List ℕ)
    → Joins (IsPiece (place_inside place)) text pieces
    → (plain : List ℕ) → Apart is_plain_piece (PlainPiece plain ∷ pieces)
    → OverAt (inner place had) rest
    → OverAt (inner place had) (text ++ rest)
next_over place had [] text rest h plain a o =
    subst (λ t. OverAt (inner place had) (t ++ rest)) (sym h) o
next_over place had (PlainPiece other ∷ pieces) text rest h plain a o = cc
next_over place had (PropPiece name ∷ pieces) text rest h plain a o =
    property_over (inner place had) text ((h.3.0 ++ 41 ∷ []) ++ h.1) rest
    (h.2 ∙ ap (λ t. t ++ h.1) h.3.2)
next_over place had (MetaPiece name ∷ pieces) text rest h plain a o =
    metadata_over (inner place had) text ((h.3.1 ++ 41 ∷ []) ++ h.1) rest
    (transform_reads (place_inside place) h.3.0)
    (h.2 ∙ ap (λ t. t ++ h.1) h.3.3)

Apart-tail : {A : Type 0} (test : A → Bool) (x : A) (xs : List A) → Apart test (x ∷ xs)
    → Apart test xs
Apart-tail test x [] h = tt
Apart-tail test x (y ∷ ys) h = h.1

pub tail_apart : {A : Type 0} (test : A → Bool) (x : A) (xs : List A) → Apart test (x ∷ xs)
    → Apart test xs
tail_apart test x xs h = Apart-tail test x xs h

piece_runs : (place : Place) (had : List Piece) (piece : Piece) (pieces : List Piece)
    (text rest : List ℕ)
    (h : Joins (IsPiece (place_inside place)) text (piece ∷ pieces))
    → Apart is_plain_piece (piece ∷ pieces)
    → OverAt (inner place had) rest
    → run (text ++ rest) (in_text (inner place had) [] unmarked) ≡ run (h.1 ++ rest)
    (in_text (inner place (had ++ piece ∷ [])) [] unmarked)
piece_runs place had (PropPiece name) pieces text rest h a o =
    ap (λ t. run t (in_text (inner place had) [] unmarked))
    (ap (λ t. t ++ rest) h.2 ∙ append_assoc h.0 h.1 rest)
    ∙ property_runs (inner place had) h.0 h.3.0 name (h.1 ++ rest) h.3.1 h.3.2
piece_runs place had (MetaPiece name) pieces text rest h a o =
    ap (λ t. run t (in_text (inner place had) [] unmarked))
    (ap (λ t. t ++ rest) h.2 ∙ append_assoc h.0 h.1 rest)
    ∙ metadata_runs (inner place had) h.0 h.3.1 name (h.1 ++ rest)
    (transform_reads (place_inside place) h.3.0) h.3.2 h.3.3
piece_runs place had (PlainPiece plain) pieces text rest h a o =
    ap (λ t. run t (in_text (inner place had) [] unmarked))
    (ap (λ t. t ++ rest) (h.2 ∙ ap (λ t. t ++ h.1) h.3.1) ∙ append_assoc plain h.1 rest)
    ∙ plain_part_runs (inner place had) plain (h.1 ++ rest) h.3.0.1
    (λ front last e. next_over place had pieces h.1 rest h.4 plain a o front last)
    ∙ ap (λ ps. run (h.1 ++ rest) (in_text (inner place ps) [] unmarked))
    (flushed_pieces-some had plain h.3.0.0)

-- up to what ends them
pub pieces_to : (place : Place) (had pieces : List Piece) (text rest : List ℕ)
    → Joins (IsPiece (place_inside place)) text pieces
    → Apart is_plain_piece pieces → ((some : List Piece) → OverAt (inner place some) rest)
    → run (text ++ rest) (in_text (inner place had) [] unmarked) ≡ run rest
    (in_text (inner place (had ++ pieces)) [] unmarked)
pieces_to place had [] text rest h a o =
    ap (λ t. run (t ++ rest) (in_text (inner place had) [] unmarked)) h
    ∙ ap (λ ps. run rest (in_text (inner place ps) [] unmarked)) (sym (append-nil had))
pieces_to place had (piece ∷ pieces) text rest h a o =
    piece_runs place had piece pieces text rest h a (o had)
    ∙ pieces_to place (had ++ piece ∷ []) pieces h.1 rest h.4
    (tail_apart is_plain_piece piece pieces a) o
    ∙ ap (λ ps. run rest (in_text (inner place ps) [] unmarked))
    (append_assoc had (piece ∷ []) pieces)

pub pieces_run : (place : Place) (had pieces : List Piece) (text rest : List ℕ)
    → (place_inside place ≡ Loose → ⊥)
    → Joins (IsPiece (place_inside place)) text pieces → Apart is_plain_piece pieces
    → run (text ++ 39 ∷ rest) (in_text (inner place had) [] unmarked) ≡ run rest
    (left place (had ++ pieces))
pieces_run place had pieces text rest n h a =
    pieces_to place had pieces text (39 ∷ rest) h a
    (λ some front last. over_quote (inner place some) front last rest (never_whole place) n)
    ∙ reach_quote place (had ++ pieces) [] unmarked rest n

-- a text in quotes, where one may begin
pub quoted_runs : (mode : Mode) (place : Place) (text : List ℕ) (pieces : List Piece)
    (rest : List ℕ) → step_of mode Space 32 ≡ go mode
    → step_of mode Quote 39 ≡ go (in_text (inner place []) [] unmarked)
    → IsQuoted (place_inside place) text pieces → (place_inside place ≡ Loose → ⊥)
    → run (text ++ rest) mode ≡ run rest (left place pieces)
quoted_runs mode place text pieces rest stays opens q n =
    ap (λ t. run t mode) (ap (λ t. t ++ rest) q.5 ∙ simp append_assoc)
    ∙ run-spaces mode q.0 (39 ∷ (q.1 ++ 39 ∷ rest)) stays q.2
    ∙ run-go 39 (q.1 ++ 39 ∷ rest) mode (in_text (inner place []) [] unmarked) opens
    ∙ pieces_run place [] pieces q.1 rest n q.3 q.4
