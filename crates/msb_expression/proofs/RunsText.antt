-- The machine over plain text.
use Rattle.std.proofs.Common.{
  ◌≡◌,
  ℕ,
  true,
  false,
  List,
  [],
  ◌∷◌,
  ◌++◌,
  refl,
  sym,
  ap,
  ◌∙◌,
  subst,
  append_assoc,
  ◌⊎◌,
  inl,
  inr,
}
use Rattle.std.proofs.lemmas.List.{append-nil}
use Rattle.msb_expression.specs.declared.starts.Inside.{Inside}
use Rattle.msb_expression.specs.declared.starts.Inside.TheVariants.{Whole, Transform, Quoted, Loose}
use Rattle.msb_expression.specs.declared.expression.Part.{Part}
use Rattle.msb_expression.specs.declared.expression.Piece.{Piece}
use Rattle.msb_expression.specs.declared.sorts.Sort.{Sort}
use Rattle.msb_expression.specs.declared.sorts.Sort.TheVariants.{
  End,
  Letter,
  Digit,
  Dash,
  Space,
  Quote,
  Open,
  Close,
  Comma,
  Dot,
  Greater,
  Dollar,
  Percent,
  At,
  Bracket,
  Other,
}
use Rattle.msb_expression.specs.declared.sorts.Kind.TheVariants.{Nested}
use Rattle.msb_expression.specs.Grammar.{
  IsPlain,
  opens,
  begins_reference,
  is_quotable,
  is_end_quote,
}
use Rattle.msb_expression.specs.Machine.{
  ends_argument,
  sort_of,
  first_sort,
  Place,
  in_transform,
  in_separator,
  in_argument,
  in_call,
  in_loose,
  Host,
  whole,
  inner,
  Mark,
  unmarked,
  dollar,
  percent,
  at_sign,
  property,
  metadata,
  Mode,
  in_text,
  name_opened,
  type_opened,
  Next,
  go,
  stop,
  unless_loose,
  dollar_opened,
  text_step,
  open_step,
  part_step,
  items_step,
  percent_step,
  nested_step,
  quote_step,
  place_inside,
  host_inside,
  spelled,
  settled,
  flushed,
  flushed_parts,
  flushed_pieces,
  left,
  bad,
  finish,
  run,
}
use Rattle.msb_expression.proofs.Bytes.{SortIs, sort_is}
use Rattle.msb_expression.proofs.Runs.{run-go, run-stop, run-nil, run-opened}
use Rattle.msb_expression.proofs.PlainText.{ReadsMetadata, reads_not_loose, unless-go, or_right}

-- plain text is read up to a mark at its end
abbrev pub PlainRuns : Host → List ℕ → Mark → List ℕ → List ℕ → Type 0
PlainRuns host plain mark more rest =
    (front : List ℕ) × (last : Mark) × (settled front last ≡ settled plain mark ++ more)
    × (run (more ++ rest) (in_text host plain mark) ≡ run rest (in_text host front last))

plain_tail : (inside : Inside) (mark : Mark) (more : List ℕ) → IsPlain inside (spelled mark ++ more)
    → IsPlain inside more
plain_tail inside unmarked more h = h
plain_tail inside dollar more h = h.2
plain_tail inside percent more h = h.2
plain_tail inside at_sign more h = h.2

abbrev Goes : Host → List ℕ → Mark → Next → ℕ → Type 0
Goes host plain mark next b = (front : List ℕ) × (last : Mark)
    × (settled front last ≡ settled plain mark ++ b ∷ []) × (next ≡ go (in_text host front last))
    × ((spelled last ≡ []) ⊎ (spelled last ≡ b ∷ []))

-- plain bytes that are no marks
appended : (host : Host) (plain : List ℕ) (mark : Mark) (b : ℕ)
    → Goes host plain mark (go (in_text host (settled plain mark ++ b ∷ []) unmarked)) b
appended host plain mark b = (
  settled plain mark ++ b ∷ [],
  unmarked,
  append-nil (settled plain mark ++ b ∷ []),
  refl,
  inl
      refl,
)

joined : (host : Host) (plain : List ℕ) (mark : Mark) (c : ℕ) → spelled mark ≡ c ∷ []
    → Goes host plain mark (go (in_text host (plain ++ c ∷ 40 ∷ []) unmarked)) 40
joined host plain mark c e = (
  plain ++ c ∷ 40 ∷ [],
  unmarked,
  append-nil (plain ++ c ∷ 40 ∷ [])
      ∙ sym (ap (λ t. (plain ++ t) ++ 40 ∷ []) e ∙ append_assoc plain (c ∷ []) (40 ∷ [])),
  refl,
  inl refl,
)

begun : (inside : Inside) (more : List ℕ) → begins_reference inside (36 ∷ 40 ∷ more) ≡ false → ⊥
begun Whole more e = cc
begun Transform more e = cc
begun Quoted more e = cc
begun Loose more e = cc

-- what can't stand in an argument without quotes stands elsewhere
unquotable : (inside : Inside) (b : ℕ) (more : List ℕ) → is_quotable b ≡ true
    → begins_reference inside (b ∷ more) ≡ false → inside ≡ Loose → ⊥
unquotable Whole b more q e i = cc
unquotable Transform b more q e i = cc
unquotable Quoted b more q e i = cc
unquotable Loose b more q e i =
    let n : is_quotable b ≡ false =
    or_right (opens 36 (b ∷ more)) (is_quotable b) e in let k = sym q ∙ n in cc

unless_goes : (host : Host) (plain : List ℕ) (mark : Mark) (mode : Mode) (b : ℕ)
    → (host_inside host ≡ Loose → ⊥)
    → Goes host plain mark (go mode) b
    → Goes host plain mark (unless_loose (host_inside host) mode) b
unless_goes host plain mark mode b n h =
    subst (λ next. Goes host plain mark next b) (sym (unless-go (host_inside host) mode n)) h

percent_goes : (host : Host) (inside : Inside) (plain more : List ℕ)
    → begins_reference inside (37 ∷ 40 ∷ more) ≡ false
    → Goes host plain percent (percent_step host inside plain) 40
percent_goes host Whole plain more e = cc
percent_goes host Transform plain more e = cc
percent_goes host Quoted plain more e = joined host plain percent 37 refl
percent_goes host Loose plain more e = cc

nested_goes : (host : Host) (inside : Inside) (plain more : List ℕ)
    → begins_reference inside (64 ∷ 40 ∷ more) ≡ false
    → Goes host plain at_sign (nested_step host inside plain) 40
nested_goes host Whole plain more e = cc
nested_goes host Transform plain more e = cc
nested_goes host Quoted plain more e = joined host plain at_sign 64 refl
nested_goes host Loose plain more e = cc

items_goes : (host : Host) (plain more : List ℕ)
    → begins_reference (host_inside host) (64 ∷ 40 ∷ more) ≡ false
    → Goes host plain at_sign (items_step host plain) 40
items_goes (whole parts) plain more e = cc
items_goes (inner place pieces) plain more e = nested_goes (inner place pieces) (place_inside place)
    plain more e

open_goes : (host : Host) (plain : List ℕ) (mark : Mark) (more : List ℕ)
    → IsPlain (host_inside host) (spelled mark ++ 40 ∷ more)
    → Goes host plain mark (open_step host plain mark) 40
open_goes host plain unmarked more h =
    unless_goes host plain unmarked (in_text host (plain ++ 40 ∷ []) unmarked) 40
    (unquotable (host_inside host) 40 more refl h.0) (
      plain ++ 40 ∷ [],
      unmarked,
      append-nil (plain ++ 40 ∷ [])
          ∙ ap (λ t. t ++ 40 ∷ []) (sym (append-nil plain)),
      refl,
      inl refl,
    )
open_goes host plain dollar more h = absurd (begun (host_inside host) more h.0)
open_goes host plain percent more h = percent_goes host (host_inside host) plain more h.0
open_goes host plain at_sign more h = items_goes host plain more h.0

part_ends : (sort : Sort) (b : ℕ) → SortIs sort b → ends_argument sort ≡ true
    → is_end_quote Loose b ≡ false → ⊥
part_ends Comma b f p e = let k = sym (ap (is_end_quote Loose) f) ∙ e in cc
part_ends Close b f p e = let k = sym (ap (is_end_quote Loose) f) ∙ e in cc
part_ends _ b f p e = cc

quoted_ends : (place : Place) → is_end_quote (place_inside place) 39 ≡ false
    → (place_inside place ≡ Loose → ⊥) → ⊥
quoted_ends (in_transform heads) e n = cc
quoted_ends (in_separator heads) e n = cc
quoted_ends (in_argument heads function args) e n = cc
quoted_ends (in_call a) e n = cc
quoted_ends (in_loose a) e n = n refl

quote_goes : (host : Host) (plain : List ℕ) (mark : Mark)
    → is_end_quote (host_inside host) 39 ≡ false
    → (host_inside host ≡ Loose → ⊥)
    → Goes host plain mark (quote_step host (settled plain mark)) 39
quote_goes (whole parts) plain mark e n = appended (whole parts) plain mark 39
quote_goes (inner place pieces) plain mark e n = absurd (quoted_ends place e n)

part_goes : (host : Host) (plain : List ℕ) (mark : Mark) (sort : Sort) (b : ℕ) → SortIs sort b
    → ends_argument sort ≡ true
    → is_end_quote (host_inside host) b ≡ false
    → Goes host plain mark (part_step host (settled plain mark) sort b) b
part_goes (whole parts) plain mark sort b f p e = appended (whole parts) plain mark b
part_goes (inner (in_transform heads) pieces) plain mark sort b f p e =
    appended (inner (in_transform heads) pieces) plain mark b
part_goes (inner (in_separator heads) pieces) plain mark sort b f p e =
    appended (inner (in_separator heads) pieces) plain mark b
part_goes (inner (in_argument heads function args) pieces) plain mark sort b f p e =
    appended (inner (in_argument heads function args) pieces) plain mark b
part_goes (inner (in_call a) pieces) plain mark sort b f p e =
    appended (inner (in_call a) pieces) plain mark b
part_goes (inner (in_loose a) pieces) plain mark sort b f p e = absurd (part_ends sort b f p e)

plain_goes : (host : Host) (plain : List ℕ) (mark : Mark) (b : ℕ) (more : List ℕ) (sort : Sort)
    → SortIs sort b → IsPlain (host_inside host) (spelled mark ++ b ∷ more)
    → Goes host plain mark (text_step host plain mark sort b) b
plain_goes host plain mark b more Dollar f h = (
  settled plain mark,
  dollar,
  ap (λ c. settled plain mark ++ c ∷ []) (sym f),
  refl,
  inr
      (ap (λ c. c ∷ []) (sym f)),
)
plain_goes host plain mark b more Percent f h =
    unless_goes host plain mark (in_text host (settled plain mark) percent) b
    (unquotable (host_inside host) b more (ap is_quotable f)
    (plain_tail (host_inside host) mark (b ∷ more) h).0) (
      settled plain mark,
      percent,
      ap (λ c. settled plain mark ++ c ∷ []) (sym f),
      refl,
      inr (ap (λ c. c ∷ []) (sym f)),
    )
plain_goes host plain mark b more At f h =
    unless_goes host plain mark (in_text host (settled plain mark) at_sign) b
    (unquotable (host_inside host) b more (ap is_quotable f)
    (plain_tail (host_inside host) mark (b ∷ more) h).0) (
      settled plain mark,
      at_sign,
      ap (λ c. settled plain mark ++ c ∷ []) (sym f),
      refl,
      inr (ap (λ c. c ∷ []) (sym f)),
    )
plain_goes host plain mark b more Open f h =
    subst (λ c. Goes host plain mark (open_step host plain mark) c) (sym f)
    (open_goes host plain mark more
    (subst (λ c. IsPlain (host_inside host) (spelled mark ++ c ∷ more)) f h))
plain_goes host plain mark b more Quote f h =
    subst (λ c. Goes host plain mark (quote_step host (settled plain mark)) c) (sym f)
    (quote_goes host plain mark
    (subst (λ c. is_end_quote (host_inside host) c ≡ false) f
    (plain_tail (host_inside host) mark (b ∷ more) h).1)
    (unquotable (host_inside host) b more (ap is_quotable f)
    (plain_tail (host_inside host) mark (b ∷ more) h).0))
plain_goes host plain mark b more End f h = absurd f
plain_goes host plain mark b more Letter f h = appended host plain mark b
plain_goes host plain mark b more Digit f h = appended host plain mark b
plain_goes host plain mark b more Dash f h = appended host plain mark b
plain_goes host plain mark b more Space f h = appended host plain mark b
plain_goes host plain mark b more Close f h =
    part_goes host plain mark Close b f refl (plain_tail (host_inside host) mark (b ∷ more) h).1
plain_goes host plain mark b more Comma f h =
    part_goes host plain mark Comma b f refl (plain_tail (host_inside host) mark (b ∷ more) h).1
plain_goes host plain mark b more Dot f h = appended host plain mark b
plain_goes host plain mark b more Greater f h = appended host plain mark b
plain_goes host plain mark b more Other f h = appended host plain mark b
plain_goes host plain mark b more Bracket f h = appended host plain mark b

mark_is : (last : Mark) (b : ℕ) (inside : Inside) (more : List ℕ) → IsPlain inside (b ∷ more)
    → ((spelled last ≡ []) ⊎ (spelled last ≡ b ∷ [])) → IsPlain inside (spelled last ++ more)
mark_is last b inside more h (inl e) = subst (λ t. IsPlain inside (t ++ more)) (sym e) h.2
mark_is last b inside more h (inr e) = subst (λ t. IsPlain inside (t ++ more)) (sym e) h

pub plain_runs : (host : Host) (plain : List ℕ) (mark : Mark) (more rest : List ℕ)
    → IsPlain (host_inside host) (spelled mark ++ more) → PlainRuns host plain mark more rest
plain_runs host plain mark [] rest h = (plain, mark, sym (append-nil (settled plain mark)), refl)
plain_runs host plain mark (b ∷ bs) rest h =
    let g : Goes host plain mark (text_step host plain mark (sort_of b) b) b = plain_goes host plain
    mark b bs (sort_of b) (sort_is b) h in
    let r : PlainRuns host g.0 g.1 bs rest = plain_runs host g.0 g.1 bs rest
    (mark_is g.1 b (host_inside host) bs (plain_tail (host_inside host) mark (b ∷ bs) h) g.4) in (
      r.0,
      r.1,
      r.2 ∙ ap (λ t. t ++ bs) g.2 ∙ append_assoc (settled plain mark) (b ∷ []) bs,
      run-go b
          (bs ++ rest) (in_text host plain mark) (in_text host g.0 g.1) g.3 ∙ r.3,
    )

-- behind plain text a reference begins, or the text ends
pub reach_property : (host : Host) (plain : List ℕ) (mark : Mark) (rest : List ℕ)
    → run (36 ∷ 40 ∷ rest) (in_text host plain mark) ≡ run rest
    (dollar_opened host (settled plain mark))
reach_property host plain mark rest =
    run-go 36 (40 ∷ rest) (in_text host plain mark) (in_text host (settled plain mark) dollar) refl
    ∙ run-go 40 rest (in_text host (settled plain mark) dollar)
    (dollar_opened host (settled plain mark)) refl

pub dollar-flushed : (host : Host) (plain : List ℕ)
    → dollar_opened (flushed host plain) [] ≡ dollar_opened host plain
dollar-flushed (whole parts) plain = refl
dollar-flushed (inner place pieces) plain = refl

pub dollar-name : (host : Host) (rest : List ℕ) → (first_sort rest ≡ Bracket → ⊥)
    → run rest (dollar_opened host []) ≡ run rest (name_opened host property)
dollar-name (whole parts) rest n = run-opened parts rest n
dollar-name (inner place pieces) rest n = refl

percent_opens : (host : Host) (inside : Inside) (plain : List ℕ) → ReadsMetadata inside
    → percent_step host inside plain ≡ go (name_opened (flushed host plain) metadata)
percent_opens host Whole plain q = refl
percent_opens host Transform plain q = refl
percent_opens host Quoted plain q = absurd q
percent_opens host Loose plain q = absurd q

pub reach_metadata : (host : Host) (plain : List ℕ) (mark : Mark) (rest : List ℕ)
    → ReadsMetadata (host_inside host)
    → run (37 ∷ 40 ∷ rest) (in_text host plain mark) ≡ run rest
    (name_opened (flushed host (settled plain mark)) metadata)
reach_metadata host plain mark rest q =
    run-go 37 (40 ∷ rest) (in_text host plain mark) (in_text host (settled plain mark) percent)
    (unless-go (host_inside host) (in_text host (settled plain mark) percent)
    (reads_not_loose (host_inside host) q))
    ∙ run-go 40 rest (in_text host (settled plain mark) percent)
    (name_opened (flushed host (settled plain mark)) metadata)
    (percent_opens host (host_inside host) (settled plain mark) q)

pub reach_items : (parts : List Part) (plain : List ℕ) (mark : Mark) (rest : List ℕ)
    → run (64 ∷ 40 ∷ rest) (in_text (whole parts) plain mark)
    ≡ run rest (type_opened (flushed_parts parts (settled plain mark)))
reach_items parts plain mark rest =
    run-go 64 (40 ∷ rest) (in_text (whole parts) plain mark)
    (in_text (whole parts) (settled plain mark) at_sign) refl
    ∙ run-go 40 rest (in_text (whole parts) (settled plain mark) at_sign)
    (type_opened (flushed_parts parts (settled plain mark))) refl

nested_stops : (host : Host) (inside : Inside) (plain : List ℕ) → ReadsMetadata inside
    → nested_step host inside plain ≡ stop Nested
nested_stops host Whole plain q = refl
nested_stops host Transform plain q = refl
nested_stops host Quoted plain q = absurd q
nested_stops host Loose plain q = absurd q

pub reach_nested : (place : Place) (pieces : List Piece) (plain : List ℕ) (mark : Mark)
    (rest : List ℕ) → ReadsMetadata (place_inside place)
    → run (64 ∷ 40 ∷ rest) (in_text (inner place pieces) plain mark) ≡ bad Nested (40 ∷ rest)
reach_nested place pieces plain mark rest q =
    run-go 64 (40 ∷ rest) (in_text (inner place pieces) plain mark)
    (in_text (inner place pieces) (settled plain mark) at_sign)
    (unless-go (place_inside place) (in_text (inner place pieces) (settled plain mark) at_sign)
    (reads_not_loose (place_inside place) q))
    ∙ run-stop 40 rest (in_text (inner place pieces) (settled plain mark) at_sign) Nested
    (nested_stops (inner place pieces) (place_inside place) (settled plain mark) q)

pub reach_quote : (place : Place) (pieces : List Piece) (plain : List ℕ) (mark : Mark)
    (rest : List ℕ) → (place_inside place ≡ Loose → ⊥)
    → run (39 ∷ rest) (in_text (inner place pieces) plain mark) ≡ run rest
    (left place (flushed_pieces pieces (settled plain mark)))
reach_quote place pieces plain mark rest n =
    run-go 39 rest (in_text (inner place pieces) plain mark)
    (left place (flushed_pieces pieces (settled plain mark)))
    (unless-go (place_inside place) (left place (flushed_pieces pieces (settled plain mark))) n)

pub flushed-nil : (host : Host) → flushed host [] ≡ host
flushed-nil (whole parts) = refl
flushed-nil (inner place pieces) = refl

pub host-inside-flushed : (host : Host) (plain : List ℕ)
    → host_inside (flushed host plain) ≡ host_inside host
host-inside-flushed (whole parts) plain = refl
host-inside-flushed (inner place pieces) plain = refl

-- so plain text may as well be taken for a part there
pub over_property : (host : Host) (plain : List ℕ) (mark : Mark) (rest : List ℕ)
    → run (36 ∷ 40 ∷ rest) (in_text host plain mark)
    ≡ run (36 ∷ 40 ∷ rest) (in_text (flushed host (settled plain mark)) [] unmarked)
over_property host plain mark rest =
    reach_property host plain mark rest
    ∙ ap (run rest) (sym (dollar-flushed host (settled plain mark)))
    ∙ sym (reach_property (flushed host (settled plain mark)) [] unmarked rest)

pub over_metadata : (host : Host) (plain : List ℕ) (mark : Mark) (rest : List ℕ)
    → ReadsMetadata (host_inside host)
    → run (37 ∷ 40 ∷ rest) (in_text host plain mark) ≡ run (37 ∷ 40 ∷ rest)
    (in_text (flushed host (settled plain mark)) [] unmarked)
over_metadata host plain mark rest q =
    reach_metadata host plain mark rest q ∙ ap (λ h. run rest (name_opened h metadata))
    (sym (flushed-nil (flushed host (settled plain mark))))
    ∙ sym (reach_metadata (flushed host (settled plain mark)) [] unmarked rest
    (subst (λ i. ReadsMetadata i) (sym (host-inside-flushed host (settled plain mark))) q))

pub over_items : (host : Host) (plain : List ℕ) (mark : Mark) (rest : List ℕ)
    → ReadsMetadata (host_inside host)
    → run (64 ∷ 40 ∷ rest) (in_text host plain mark) ≡ run (64 ∷ 40 ∷ rest)
    (in_text (flushed host (settled plain mark)) [] unmarked)
over_items (whole parts) plain mark rest q = reach_items parts plain mark rest
    ∙ sym (reach_items (flushed_parts parts (settled plain mark)) [] unmarked rest)
over_items (inner place pieces) plain mark rest q = reach_nested place pieces plain mark rest q
    ∙ sym (reach_nested place (flushed_pieces pieces (settled plain mark)) [] unmarked rest q)

pub over_quote : (host : Host) (plain : List ℕ) (mark : Mark) (rest : List ℕ)
    → (host_inside host ≡ Whole → ⊥) → (host_inside host ≡ Loose → ⊥)
    → run (39 ∷ rest) (in_text host plain mark) ≡ run (39 ∷ rest)
    (in_text (flushed host (settled plain mark)) [] unmarked)
over_quote (whole parts) plain mark rest q n = absurd (q refl)
over_quote (inner place pieces) plain mark rest q n =
    reach_quote place pieces plain mark rest n
    ∙ sym (reach_quote place (flushed_pieces pieces (settled plain mark)) [] unmarked rest n)

pub over_end : (host : Host) (plain : List ℕ) (mark : Mark)
    → run [] (in_text host plain mark) ≡ run []
    (in_text (flushed host (settled plain mark)) [] unmarked)
over_end host plain mark = run-nil (in_text host plain mark) ∙ same host
    ∙ sym (run-nil (in_text (flushed host (settled plain mark)) [] unmarked))
  where
    same : (host : Host) → finish (in_text host plain mark)
        ≡ finish (in_text (flushed host (settled plain mark)) [] unmarked)
    same (whole parts) = refl
    same (inner place pieces) = refl
