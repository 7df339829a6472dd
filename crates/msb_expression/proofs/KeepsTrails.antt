-- A step keeps what the bytes behind the machine say, and a bad byte has the kind that they say.
use Rattle.std.proofs.Common.{
  ◌≡◌,
  ℕ,
  Bool,
  true,
  false,
  eqb,
  List,
  [],
  ◌∷◌,
  ◌++◌,
  refl,
  sym,
  ap,
  ◌∙◌,
  subst,
}
use Rattle.std.specs.Prelude.{◌&&◌, ◌||◌, ◌==◌, if◌then◌else◌}
use Rattle.std.specs.Char.{to_ascii_lowercase}
use Rattle.msb_expression.specs.declared.starts.Inside.{Inside}
use Rattle.msb_expression.specs.declared.starts.Inside.TheVariants.{Whole, Transform, Quoted, Loose}
use Rattle.msb_expression.specs.declared.expression.Part.{Part}
use Rattle.msb_expression.specs.declared.expression.Step.{Step}
use Rattle.msb_expression.specs.declared.expression.Piece.{Piece}
use Rattle.msb_expression.specs.declared.sorts.Sort.{Sort}
use Rattle.msb_expression.specs.declared.sorts.Sort.TheVariants.{
  End,
  Letter,
  Digit,
  Dash,
  Space,
  Quote,
  Open,
  Close,
  Comma,
  Dot,
  Greater,
  Dollar,
  Percent,
  At,
  Bracket,
  Other,
}
use Rattle.msb_expression.specs.declared.sorts.Kind.{Kind}
use Rattle.msb_expression.specs.declared.sorts.Kind.TheVariants.{Name, Transform as BadStep, Nested}
use Rattle.msb_expression.specs.Grammar.{is_name_byte}
use Rattle.msb_expression.specs.Refusals.{
  is_first,
  is_inside,
  is_opened,
  is_named,
  is_spaced,
  kind_of,
}
use Rattle.msb_expression.specs.Machine.{
  is_metadata,
  sort_of,
  Heads,
  CallHeads,
  Arguments,
  Place,
  in_transform,
  in_separator,
  in_argument,
  in_call,
  in_loose,
  Host,
  whole,
  inner,
  Mark,
  unmarked,
  dollar,
  percent,
  at_sign,
  Named,
  property,
  metadata,
  qualified,
  Mode,
  Next,
  go,
  stop,
  go_if,
  host_inside,
  place_inside,
  settled,
  left,
  unless_loose,
  dollar_opened,
  text_step,
  open_step,
  part_step,
  percent_step,
  nested_step,
  items_step,
  quote_step,
  name_opened_step,
  in_name_step,
  name_ended_step,
  dot_step,
  type_opened_step,
  in_type_step,
  type_dashed_step,
  stepping_step,
  stepping_kind,
  dashed_step,
  arrow_step,
  function_named_step,
  function_ended_step,
  args_opened_step,
  arg_ended_step,
  arg_wanted_step,
  separator_wanted_step,
  separator_ended_step,
  step_of,
  in_text,
  name_opened,
  in_name,
  name_ended,
  type_opened,
  in_type,
  type_dashed,
  stepping,
  dashed,
  arrow,
  function_named,
  function_ended,
  args_opened,
  arg_ended,
  arg_wanted,
  separator_wanted,
  separator_ended,
  property_opened,
  build_opened,
  build_next,
  call_wanted,
  call_named,
  call_ended,
  called,
  call_arg_wanted,
  call_arg_ended,
  property_opened_step,
  build_opened_step,
  call_wanted_step,
  call_ended_step,
  call_named_step,
  called_step,
  blank_closed,
  blank_listed,
  call_arg_wanted_step,
  call_arg_ended_step,
  unless_first,
  may_be_plain,
  with_arg,
}
use Rattle.msb_expression.proofs.Bytes.{SortIs, sort_is, other_byte}
use Rattle.msb_expression.proofs.PlainText.{ReadsMetadata, is_common, uncommon}
use Rattle.msb_expression.proofs.KeepsNames.{letter_in_name, digit_in_name, dash_in_name}
use Rattle.msb_expression.proofs.Lefts.{
  LeftIs,
  in_property,
  name_left,
  place_left,
  metadata_outside,
}
use Rattle.msb_expression.specs.Refusals.{Left, is_in_property}
use Rattle.msb_expression.proofs.Trails.{
  Ends,
  and_false,
  or_false,
  IsInner,
  Ends-letter,
  Ends-name,
  Ends-space,
  Ends-open,
  inner_name,
  inside_same,
  outside_still,
  outside_open,
  MarkIs,
  TextTrail,
  NameTrail,
  ItemsTrail,
  TypeTrail,
  SteppingTrail,
  Trail,
  kind_inside,
  kind_dot,
  kind_nested,
  kind_type,
  kind_step,
}

-- the trail of where the machine goes on, or the kind of the bad byte: in a property reference it
-- is one of a name
abbrev pub FollowsIn : Bool → Next → ℕ → List ℕ → Type 0
FollowsIn t (go mode) b back = Trail mode (b ∷ back)
FollowsIn true (stop kind) b back = kind ≡ Name
FollowsIn false (stop kind) b back = kind_of b back ≡ kind

abbrev Follows : Next → ℕ → List ℕ → Type 0
Follows next b back = FollowsIn false next b back

name_stops : (t : Bool) (b : ℕ) (back : List ℕ) → kind_of b back ≡ Name
    → FollowsIn t (stop Name) b back
name_stops true b back h = refl
name_stops false b back h = h

outside_stops : (t : Bool) (kind : Kind) (b : ℕ) (back : List ℕ) → t ≡ false → kind_of b back ≡ kind
    → FollowsIn t (stop kind) b back
outside_stops t kind b back e h = subst (λ x. FollowsIn x (stop kind) b back) (sym e) h

inside_stops : (t : Bool) (b : ℕ) (back : List ℕ) → t ≡ true → FollowsIn t (stop Name) b back
inside_stops t b back e = subst (λ x. FollowsIn x (stop Name) b back) (sym e) refl

unless_follows : (t : Bool) (kind : Inside) (mode : Mode) (b : ℕ) (back : List ℕ)
    → (kind ≡ Loose → t ≡ true)
    → Trail mode (b ∷ back) → FollowsIn t (unless_loose kind mode) b back
unless_follows t Whole mode b back l h = h
unless_follows t Transform mode b back l h = h
unless_follows t Quoted mode b back l h = h
unless_follows t Loose mode b back l h = inside_stops t b back (l refl)

-- text begins behind a `)` or a quote
text_closed : (host : Host) (back : List ℕ) → TextTrail host unmarked (41 ∷ back)
text_closed host back = record { mark_is = (refl, refl, refl); outside = λ q. refl }

text_quoted : (host : Host) (back : List ℕ) → TextTrail host unmarked (39 ∷ back)
text_quoted host back = record { mark_is = (refl, refl, refl); outside = λ q. refl }

-- a `)` ends a reference in text
text_begins : (host : Host) (b : ℕ) (back : List ℕ) → b ≡ 41 → TextTrail host unmarked (b ∷ back)
text_begins host b back f = subst (λ c. TextTrail host unmarked (c ∷ back)) (sym f)
    (text_closed host back)

items_quoted : (back : List ℕ) → ItemsTrail false false false (39 ∷ back)
items_quoted back = record {
  outside = refl;
  no_at = refl;
  no_dollar = refl;
  no_percent = refl;
  ends = record
      { is_opened_so = refl; is_named_so = refl; is_spaced_so = refl };
}

items_closed : (back : List ℕ) → ItemsTrail false false false (41 ∷ back)
items_closed back = record {
  outside = refl;
  no_at = refl;
  no_dollar = refl;
  no_percent = refl;
  ends = record
      { is_opened_so = refl; is_named_so = refl; is_spaced_so = refl };
}

items_comma : (back : List ℕ) → is_inside back ≡ false → ItemsTrail false false false (44 ∷ back)
items_comma back h = record {
  outside = h;
  no_at = refl;
  no_dollar = refl;
  no_percent = refl;
  ends = record
      { is_opened_so = refl; is_named_so = refl; is_spaced_so = refl };
}

items_greater : (back : List ℕ) → is_inside back ≡ false → ItemsTrail false false false (62 ∷ back)
items_greater back h = record {
  outside = h;
  no_at = refl;
  no_dollar = refl;
  no_percent = refl;
  ends = record
      { is_opened_so = refl; is_named_so = refl; is_spaced_so = refl };
}

items_space : (back : List ℕ) (o n s : Bool) → ItemsTrail o n s back
    → ItemsTrail o false (n || s) (32 ∷ back)
items_space back o n s h = record {
  outside = h.outside;
  no_at = refl;
  no_dollar = refl;
  no_percent = refl;
  ends = Ends-space 64 o
      n s back h.ends;
}

items_name : (b : ℕ) (sort : Sort) (back : List ℕ) (n s : Bool) (i : IsInner b)
    → is_name_byte b ≡ true → ItemsTrail false n s back → ItemsTrail false n false (b ∷ back)
items_name b sort back n s i e h = record {
  outside = inside_same b back i
      ∙ h.outside;
  no_at = i.no_at;
  no_dollar = i.no_dollar;
  no_percent = i.no_percent;
  ends =
      Ends-name 64 n s b back i e h.ends;
}

stepping_more : (steps : List Step) (step : Step) → stepping_kind (steps ++ step ∷ []) ≡ BadStep
stepping_more [] step = refl
stepping_more (x ∷ xs) step = refl

stepped : (heads : Heads) (step : Step) (back : List ℕ) → ItemsTrail false false false back
    → SteppingTrail (stepping_kind (heads.steps ++ step ∷ [])) back
stepped heads step back h = subst (λ k. SteppingTrail k back) (sym (stepping_more heads.steps step))
    h

-- text
marked : (host : Host) (plain : List ℕ) (mark next : Mark) (c : ℕ) (back : List ℕ)
    → eqb c 40 ≡ false → MarkIs next (c ∷ back) → TextTrail host mark back
    → TextTrail host next (c ∷ back)
marked host plain mark next c back e m h = record
    { mark_is = m; outside = λ q. outside_still c back e (h.outside q) }

unopened : (host : Host) (back : List ℕ) → host_inside host ≡ Quoted
    → TextTrail host unmarked (40 ∷ back)
unopened host back e =
    record {
      mark_is = (refl, refl, refl);
      outside =
          λ q. absurd (subst (λ i. ReadsMetadata i) e q);
    }

percent_follows : (t : Bool) (host : Host) (kind : Inside) (plain back : List ℕ)
    → host_inside host ≡ kind → (kind ≡ Loose → t ≡ true) → TextTrail host percent back
    → FollowsIn t (percent_step host kind plain) 40 back
percent_follows t host Whole plain back e l h =
    subst (λ t. NameTrail true false false (40 ∷ t)) (sym h.mark_is.1)
    (record { inside = refl; no_at = refl; ends = Ends-open 37 (37 ∷ h.mark_is.0) })
percent_follows t host Transform plain back e l h =
    subst (λ t. NameTrail true false false (40 ∷ t)) (sym h.mark_is.1)
    (record { inside = refl; no_at = refl; ends = Ends-open 37 (37 ∷ h.mark_is.0) })
percent_follows t host Quoted plain back e l h = unopened host back e
percent_follows t host Loose plain back e l h = inside_stops t 40 back (l refl)

nested_follows : (t : Bool) (host : Host) (kind : Inside) (plain back : List ℕ)
    → host_inside host ≡ kind → (kind ≡ Loose → t ≡ true) → (ReadsMetadata kind → t ≡ false)
    → TextTrail host at_sign back → FollowsIn t (nested_step host kind plain) 40 back
nested_follows t host Whole plain back e l r h =
    outside_stops t Nested 40 back (r tt) (kind_nested back h.mark_is.0 h.mark_is.1)
nested_follows t host Transform plain back e l r h =
    outside_stops t Nested 40 back (r tt) (kind_nested back h.mark_is.0 h.mark_is.1)
nested_follows t host Quoted plain back e l r h = unopened host back e
nested_follows t host Loose plain back e l r h = inside_stops t 40 back (l refl)

items_follows : (t : Bool) (host : Host) (plain back : List ℕ)
    → (host_inside host ≡ Loose → t ≡ true) → (ReadsMetadata (host_inside host) → t ≡ false)
    → TextTrail host at_sign back → FollowsIn t (items_step host plain) 40 back
items_follows t (whole parts) plain back l r h =
    let out : is_inside (64 ∷ h.mark_is.0) ≡ false =
    subst (λ t. is_inside t ≡ false) h.mark_is.1 (h.outside tt) in
    subst (λ t. TypeTrail true false false (40 ∷ t)) (sym h.mark_is.1) (record {
      items = record {
        outside = out;
        no_at = refl;
        no_dollar = refl;
        no_percent = refl;
        ends = Ends-open 64
            (64 ∷ h.mark_is.0);
      };
      none = Ends-open 37 (64 ∷ h.mark_is.0);
    })
items_follows t (inner place pieces) plain back l r h =
    nested_follows t (inner place pieces) (place_inside place) plain back refl l r h

dollar_follows : (t : Bool) (host : Host) (plain back : List ℕ) → TextTrail host dollar back
    → FollowsIn t (go (dollar_opened host plain)) 40 back
dollar_follows t host plain back h = by host
  where
    opened : NameTrail false false false (40 ∷ back)
    opened =
        subst (λ x. NameTrail false false false (40 ∷ x)) (sym h.mark_is.1)
        (record { inside = refl; no_at = refl; ends = Ends-open 37 (36 ∷ h.mark_is.0) })

    by : (host : Host) → Trail (dollar_opened host plain) (40 ∷ back)
    by (whole parts) = opened
    by (inner place pieces) = opened

open_follows : (t : Bool) (host : Host) (plain : List ℕ) (mark : Mark) (back : List ℕ)
    → (host_inside host ≡ Loose → t ≡ true) → (ReadsMetadata (host_inside host) → t ≡ false)
    → TextTrail host mark back → FollowsIn t (open_step host plain mark) 40 back
open_follows t host plain unmarked back l r h =
    unless_follows t (host_inside host) _ 40 back l
    (record {
      mark_is = (refl, refl, refl);
      outside =
          λ q. outside_open back h.mark_is.0 h.mark_is.1 (h.outside q);
    })
open_follows t host plain dollar back l r h = dollar_follows t host plain back h
open_follows t host plain percent back l r h =
    percent_follows t host (host_inside host) plain back refl l h
open_follows t host plain at_sign back l r h = items_follows t host plain back l r h

left_follows : (place : Place) (pieces : List Piece) (back : List ℕ)
    → Trail (left place pieces) (39 ∷ back)
left_follows (in_transform heads) pieces back = stepped heads _ (39 ∷ back) (items_quoted back)
left_follows (in_separator heads) pieces back = items_quoted back
left_follows (in_argument heads function args) pieces back = items_quoted back
left_follows (in_call a) pieces back = tt
left_follows (in_loose a) pieces back = tt

quote_follows : (t : Bool) (host : Host) (plain back : List ℕ)
    → (host_inside host ≡ Loose → t ≡ true) → FollowsIn t (quote_step host plain) 39 back
quote_follows t (whole parts) plain back l = text_quoted (whole parts) back
quote_follows t (inner place pieces) plain back l =
    unless_follows t (place_inside place) _ 39 back l (left_follows place _ back)

common : (host : Host) (mark : Mark) (back : List ℕ) (sort : Sort) (b : ℕ) → sort_of b ≡ sort
    → is_common sort ≡ true → TextTrail host mark back → TextTrail host unmarked (b ∷ back)
common host mark back sort b e c h = record {
  mark_is = (uncommon b 36 sort e c refl, uncommon b 37 sort e c refl, uncommon b 64 sort e c refl);
  outside = λ q. outside_still b back (uncommon b 40 sort e c refl) (h.outside q);
}

args_follow : (t : Bool) (a : Arguments) (sort : Sort) (b : ℕ) (back : List ℕ) → t ≡ true
    → FollowsIn t (call_arg_ended_step a sort) b back
args_follow t a Space b back e = tt
args_follow t a Comma b back e = tt
args_follow t a Close b back e = tt
args_follow t a _ b back e = inside_stops t b back e

part_follows : (t : Bool) (host : Host) (plain : List ℕ) (mark : Mark) (back : List ℕ) (sort : Sort)
    (b : ℕ) → sort_of b ≡ sort → is_common sort ≡ true → (host_inside host ≡ Loose → t ≡ true)
    → TextTrail host mark back → FollowsIn t (part_step host plain sort b) b back
part_follows t (whole parts) plain mark back sort b e c l h =
    common (whole parts) mark back sort b e c h
part_follows t (inner (in_transform heads) pieces) plain mark back sort b e c l h =
    common (inner (in_transform heads) pieces) mark back sort b e c h
part_follows t (inner (in_separator heads) pieces) plain mark back sort b e c l h =
    common (inner (in_separator heads) pieces) mark back sort b e c h
part_follows t (inner (in_argument heads function args) pieces) plain mark back sort b e c l h =
    common (inner (in_argument heads function args) pieces) mark back sort b e c h
part_follows t (inner (in_call a) pieces) plain mark back sort b e c l h =
    common (inner (in_call a) pieces) mark back sort b e c h
part_follows t (inner (in_loose a) pieces) plain mark back sort b e c l h =
    args_follow t (with_arg a _) sort b back (l refl)

text_follows : (t : Bool) (host : Host) (plain : List ℕ) (mark : Mark) (back : List ℕ) (sort : Sort)
    (b : ℕ) → sort_of b ≡ sort → SortIs sort b → (host_inside host ≡ Loose → t ≡ true)
    → (ReadsMetadata (host_inside host) → t ≡ false) → TextTrail host mark back
    → FollowsIn t (text_step host plain mark sort b) b back
text_follows t host plain mark back Dollar b e f l r h =
    subst (λ c. TextTrail host dollar (c ∷ back)) (sym f)
    (marked host plain mark dollar 36 back refl (back, refl) h)
text_follows t host plain mark back Percent b e f l r h =
    unless_follows t (host_inside host) _ b back l
    (subst (λ c. TextTrail host percent (c ∷ back)) (sym f)
    (marked host plain mark percent 37 back refl (back, refl) h))
text_follows t host plain mark back At b e f l r h =
    unless_follows t (host_inside host) _ b back l
    (subst (λ c. TextTrail host at_sign (c ∷ back)) (sym f)
    (marked host plain mark at_sign 64 back refl (back, refl) h))
text_follows t host plain mark back Open b e f l r h =
    subst (λ c. FollowsIn t (open_step host plain mark) c back) (sym f)
    (open_follows t host plain mark back l r h)
text_follows t host plain mark back Quote b e f l r h =
    subst (λ c. FollowsIn t (quote_step host (settled plain mark)) c back) (sym f)
    (quote_follows t host (settled plain mark) back l)
text_follows t host plain mark back Close b e f l r h =
    part_follows t host (settled plain mark) mark back Close b e refl l h
text_follows t host plain mark back Comma b e f l r h =
    part_follows t host (settled plain mark) mark back Comma b e refl l h
text_follows t host plain mark back End b e f l r h = absurd f
text_follows t host plain mark back Letter b e f l r h = common host mark back Letter b e refl h
text_follows t host plain mark back Digit b e f l r h = common host mark back Digit b e refl h
text_follows t host plain mark back Dash b e f l r h = common host mark back Dash b e refl h
text_follows t host plain mark back Space b e f l r h = common host mark back Space b e refl h
text_follows t host plain mark back Dot b e f l r h = common host mark back Dot b e refl h
text_follows t host plain mark back Greater b e f l r h = common host mark back Greater b e refl h
text_follows t host plain mark back Bracket b e f l r h = common host mark back Bracket b e refl h
text_follows t host plain mark back Other b e f l r h = common host mark back Other b e refl h

-- names
pub record EndedTrail (metadata : Bool) (back : List ℕ) : Type 0 where
  pub inside : is_inside back ≡ true
  pub no_at : is_first 64 back ≡ false
  pub unopened : is_opened 37 back ≡ false
  pub either : (is_named 37 back || is_spaced 37 back) ≡ metadata

dot_follows : (t : Bool) (host : Host) (which : Named) (name back : List ℕ)
    → (is_metadata which ≡ true → t ≡ false) → EndedTrail (is_metadata which) back
    → FollowsIn t (dot_step host which name) 46 back
dot_follows t (whole parts) metadata name back m h =
    record {
      inside = h.inside;
      no_at = refl;
      ends =
          record { is_opened_so = refl; is_named_so = refl; is_spaced_so = refl };
    }
dot_follows t (whole parts) property name back m h = tt
dot_follows t (whole parts) (qualified kind) name back m h =
    name_stops t 46 back (kind_inside 46 back h.no_at h.either h.inside)
dot_follows t (inner place pieces) property name back m h =
    name_stops t 46 back (kind_inside 46 back h.no_at h.either h.inside)
dot_follows t (inner place pieces) metadata name back m h =
    outside_stops t BadStep 46 back (m refl) (kind_dot back h.either)
dot_follows t (inner place pieces) (qualified kind) name back m h =
    name_stops t 46 back (kind_inside 46 back h.no_at h.either h.inside)

name_ended_follows : (t : Bool) (host : Host) (which : Named) (name back : List ℕ) (sort : Sort)
    (b : ℕ) → sort_of b ≡ sort → SortIs sort b → (is_metadata which ≡ true → t ≡ false)
    → EndedTrail (is_metadata which) back
    → FollowsIn t (name_ended_step host which name sort) b back
name_ended_follows t host which name back Space b e f m h =
    subst (λ c. NameTrail false false (is_metadata which) (c ∷ back)) (sym f)
    (record {
      inside = h.inside;
      no_at = refl;
      ends = record
          { is_opened_so = h.unopened; is_named_so = refl; is_spaced_so = h.either };
    })
name_ended_follows t host which name back Close b e f m h = text_begins _ b back f
name_ended_follows t host which name back Dot b e f m h =
    subst (λ c. FollowsIn t (dot_step host which name) c back) (sym f)
    (dot_follows t host which name back m h)
name_ended_follows t host which name back _ b e f m h =
    name_stops t b back
    (kind_inside b back h.no_at
    (ap (λ x. x && (is_named 37 back || is_spaced 37 back))
    (other_byte b 46 (λ k. let z = sym e ∙ k in cc))) h.inside)

ended_in : (m : Bool) (back : List ℕ) → NameTrail false m false back → EndedTrail m back
ended_in m back h = record {
  inside = h.inside;
  no_at = h.no_at;
  unopened = h.ends.is_opened_so;
  either = rw
      (h.ends.is_named_so, h.ends.is_spaced_so) (or_false m);
}

ended_spaced : (m : Bool) (back : List ℕ) → NameTrail false false m back → EndedTrail m back
ended_spaced m back h = record {
  inside = h.inside;
  no_at = h.no_at;
  unopened = h.ends.is_opened_so;
  either = rw
      (h.ends.is_named_so, h.ends.is_spaced_so) refl;
}

name_follows : (which : Named) (back : List ℕ) (sort : Sort) (b : ℕ) → IsInner b
    → is_name_byte b ≡ true → NameTrail false (is_metadata which) false back
    → NameTrail false (is_metadata which) false (b ∷ back)
name_follows which back sort b i e h = record {
  inside = inside_same b back i ∙ h.inside;
  no_at = i.no_at;
  ends = Ends-name 37
      (is_metadata which) false b back i e h.ends;
}

in_name_follows : (t : Bool) (host : Host) (which : Named) (name back : List ℕ) (sort : Sort)
    (b : ℕ) → sort_of b ≡ sort → SortIs sort b → (is_metadata which ≡ true → t ≡ false)
    → NameTrail false (is_metadata which) false back
    → FollowsIn t (in_name_step host which name sort b) b back
in_name_follows t host which name back Letter b e f m h =
    name_follows which back Letter b (inner_name b Letter e refl) (letter_in_name b f) h
in_name_follows t host which name back Digit b e f m h =
    name_follows which back Digit b (inner_name b Digit e refl) (digit_in_name b f) h
in_name_follows t host which name back Dash b e f m h =
    name_follows which back Dash b (inner_name b Dash e refl) (dash_in_name b f) h
in_name_follows t host which name back Space b e f m h =
    name_ended_follows t host which name back Space b e f m (ended_in (is_metadata which) back h)
in_name_follows t host which name back Close b e f m h =
    name_ended_follows t host which name back Close b e f m (ended_in (is_metadata which) back h)
in_name_follows t host which name back Dot b e f m h =
    name_ended_follows t host which name back Dot b e f m (ended_in (is_metadata which) back h)
in_name_follows t host which name back End b e f m h = absurd f
in_name_follows t host which name back Quote b e f m h =
    name_ended_follows t host which name back Quote b e f m (ended_in (is_metadata which) back h)
in_name_follows t host which name back Open b e f m h =
    name_ended_follows t host which name back Open b e f m (ended_in (is_metadata which) back h)
in_name_follows t host which name back Comma b e f m h =
    name_ended_follows t host which name back Comma b e f m (ended_in (is_metadata which) back h)
in_name_follows t host which name back Greater b e f m h =
    name_ended_follows t host which name back Greater b e f m (ended_in (is_metadata which) back h)
in_name_follows t host which name back Dollar b e f m h =
    name_ended_follows t host which name back Dollar b e f m (ended_in (is_metadata which) back h)
in_name_follows t host which name back Percent b e f m h =
    name_ended_follows t host which name back Percent b e f m (ended_in (is_metadata which) back h)
in_name_follows t host which name back At b e f m h =
    name_ended_follows t host which name back At b e f m (ended_in (is_metadata which) back h)
in_name_follows t host which name back Bracket b e f m h =
    name_ended_follows t host which name back Bracket b e f m (ended_in (is_metadata which) back h)
in_name_follows t host which name back Other b e f m h =
    name_ended_follows t host which name back Other b e f m (ended_in (is_metadata which) back h)

name_opened_follows : (t : Bool) (host : Host) (which : Named) (back : List ℕ) (sort : Sort) (b : ℕ)
    → sort_of b ≡ sort → SortIs sort b → (is_metadata which ≡ true → t ≡ false)
    → NameTrail (is_metadata which) false false back
    → FollowsIn t (name_opened_step host which sort b) b back
name_opened_follows t host which back Space b e f m h =
    subst (λ c. NameTrail (is_metadata which) false false (c ∷ back)) (sym f)
    (record {
      inside = h.inside;
      no_at = refl;
      ends = Ends-space 37 (is_metadata which) false false back
          h.ends;
    })
name_opened_follows t host which back Letter b e f m h =
    let i = inner_name b Letter e refl in
    record {
      inside = inside_same b back i ∙ h.inside;
      no_at = i.no_at;
      ends = subst (λ t. Ends 37 false t false (b ∷ back)) (or_false (is_metadata which))
          (Ends-letter 37 (is_metadata which) false false b back i f h.ends);
    }
name_opened_follows t host which back _ b e f m h =
    name_stops t b back
    (kind_inside b back h.no_at
    (rw (h.ends.is_named_so, h.ends.is_spaced_so) (and_false (eqb b 46))) h.inside)

-- item references
stepping_follows : (heads : Heads) (kind : Kind) (back : List ℕ) (sort : Sort) (b : ℕ)
    → stepping_kind heads.steps ≡ kind → sort_of b ≡ sort → SortIs sort b → SteppingTrail kind back
    → Follows (stepping_step heads sort) b back
stepping_follows heads kind back Space b k e f h = subst
    (λ c. SteppingTrail (stepping_kind heads.steps) (c ∷ back)) (sym f)
    (subst (λ x. SteppingTrail x (32 ∷ back)) (sym k) (spaced kind h))
  where
    spaced : (kind : Kind) → SteppingTrail kind back → SteppingTrail kind (32 ∷ back)
    spaced Name h = record {
      items = items_space back false false true h.items;
      none = Ends-space 37 false false false
          back h.none;
    }
    spaced BadStep h = items_space back false false false h
    spaced Nested h = absurd h
stepping_follows heads kind back Dash b k e f h = subst
    (λ c. ItemsTrail false false false (c ∷ back)) (sym f) (dash kind h)
  where
    dash : (kind : Kind) → SteppingTrail kind back → ItemsTrail false false false (45 ∷ back)
    dash Name h = items_name 45 Dash back false true (inner_name 45 Dash refl refl) refl h.items
    dash BadStep h = items_name 45 Dash back false false (inner_name 45 Dash refl refl) refl h
    dash Nested h = absurd h
stepping_follows heads kind back Comma b k e f h = subst
    (λ c. ItemsTrail false false false (c ∷ back)) (sym f) (items_comma back (out kind h))
  where
    out : (kind : Kind) → SteppingTrail kind back → is_inside back ≡ false
    out Name h = h.items.outside
    out BadStep h = h.outside
    out Nested h = absurd h
stepping_follows heads kind back Close b k e f h = text_begins _ b back f
stepping_follows heads Name back _ b k e f h = kind_type b back false false true h refl ∙ sym k
stepping_follows heads BadStep back _ b k e f h = kind_step b back h ∙ sym k
stepping_follows heads Nested back _ b k e f h = absurd h

type_name_follows : (b : ℕ) (sort : Sort) (back : List ℕ) → IsInner b → is_name_byte b ≡ true
    → TypeTrail false true false back → TypeTrail false true false (b ∷ back)
type_name_follows b sort back i e h = record {
  items = items_name b sort back true false i e h.items;
  none = Ends-name 37 false false b back
      i e h.none;
}

in_type_follows : (parts : List Part) (kind back : List ℕ) (sort : Sort) (b : ℕ) → sort_of b ≡ sort
    → SortIs sort b → TypeTrail false true false back
    → Follows (in_type_step parts kind sort b) b back
in_type_follows parts kind back Letter b e f h = type_name_follows b Letter back
    (inner_name b Letter e refl) (letter_in_name b f) h
in_type_follows parts kind back Digit b e f h = type_name_follows b Digit back
    (inner_name b Digit e refl) (digit_in_name b f) h
in_type_follows parts kind back Dash b e f h = type_name_follows b Dash back
    (inner_name b Dash e refl) (dash_in_name b f) h
in_type_follows parts kind back Space b e f h =
    subst (λ c. TypeTrail false false true (c ∷ back)) (sym f)
    (record {
      items = items_space back false true false h.items;
      none = Ends-space 37 false false false
          back h.none;
    })
in_type_follows parts kind back Comma b e f h = subst (λ c. ItemsTrail false false false (c ∷ back))
    (sym f) (items_comma back h.items.outside)
in_type_follows parts kind back Close b e f h = text_begins _ b back f
in_type_follows parts kind back _ b e f h = kind_type b back false true false h refl

type_dashed_follows : (parts : List Part) (kind back : List ℕ) (sort : Sort) (b : ℕ)
    → sort_of b ≡ sort → SortIs sort b → TypeTrail false true false back
    → Follows (type_dashed_step parts kind sort b) b back
type_dashed_follows parts kind back Greater b e f h = subst
    (λ c. ItemsTrail false false false (c ∷ back)) (sym f) (items_greater back h.items.outside)
type_dashed_follows parts kind back Letter b e f h = in_type_follows parts (kind ++ 45 ∷ []) back
    Letter b e f h
type_dashed_follows parts kind back Digit b e f h = in_type_follows parts (kind ++ 45 ∷ []) back
    Digit b e f h
type_dashed_follows parts kind back Dash b e f h = in_type_follows parts (kind ++ 45 ∷ []) back Dash
    b e f h
type_dashed_follows parts kind back Space b e f h = in_type_follows parts (kind ++ 45 ∷ []) back
    Space b e f h
type_dashed_follows parts kind back Comma b e f h = in_type_follows parts (kind ++ 45 ∷ []) back
    Comma b e f h
type_dashed_follows parts kind back Close b e f h = in_type_follows parts (kind ++ 45 ∷ []) back
    Close b e f h
type_dashed_follows parts kind back _ b e f h = kind_type b back false true false h refl

type_opened_follows : (parts : List Part) (back : List ℕ) (sort : Sort) (b : ℕ) → sort_of b ≡ sort
    → SortIs sort b → TypeTrail true false false back
    → Follows (type_opened_step parts sort b) b back
type_opened_follows parts back Space b e f h =
    subst (λ c. TypeTrail true false false (c ∷ back)) (sym f)
    (record {
      items = items_space back true false false h.items;
      none = Ends-space 37 false false false
          back h.none;
    })
type_opened_follows parts back Letter b e f h =
    let i = inner_name b Letter e refl in
    record {
      items = record {
        outside = inside_same b back i
            ∙ h.items.outside;
        no_at = i.no_at;
        no_dollar = i.no_dollar;
        no_percent = i.no_percent;
        ends = Ends-letter 64 true false false b back i f h.items.ends;
      };
      none = Ends-letter 37 false false false b back i f h.none;
    }
type_opened_follows parts back _ b e f h = kind_type b back true false false h refl

dashed_follows : (heads : Heads) (back : List ℕ) (sort : Sort) (b : ℕ) → SortIs sort b
    → ItemsTrail false false false back → Follows (dashed_step heads sort) b back
dashed_follows heads back Greater b f h = subst (λ c. ItemsTrail false false false (c ∷ back))
    (sym f) (items_greater back h.outside)
dashed_follows heads back _ b f h = kind_step b back h

spaced_items : (b : ℕ) (back : List ℕ) → b ≡ 32 → ItemsTrail false false false back
    → ItemsTrail false false false (b ∷ back)
spaced_items b back f h = subst (λ c. ItemsTrail false false false (c ∷ back)) (sym f)
    (items_space back false false false h)

quote_begins : (host : Host) (b : ℕ) (back : List ℕ) → b ≡ 39 → TextTrail host unmarked (b ∷ back)
quote_begins host b back f = subst (λ c. TextTrail host unmarked (c ∷ back)) (sym f)
    (text_quoted host back)

arrow_follows : (heads : Heads) (back : List ℕ) (sort : Sort) (b : ℕ) → sort_of b ≡ sort
    → SortIs sort b → ItemsTrail false false false back → Follows (arrow_step heads sort b) b back
arrow_follows heads back Space b e f h = spaced_items b back f h
arrow_follows heads back Quote b e f h = quote_begins _ b back f
arrow_follows heads back Letter b e f h = items_name b Letter back false false
    (inner_name b Letter e refl) (letter_in_name b f) h
arrow_follows heads back _ b e f h = kind_step b back h

function_ended_follows : (heads : Heads) (function back : List ℕ) (sort : Sort) (b : ℕ)
    → SortIs sort b → ItemsTrail false false false back
    → Follows (function_ended_step heads function sort) b back
function_ended_follows heads function back Space b f h = spaced_items b back f h
function_ended_follows heads function back Open b f h =
    subst (λ c. ItemsTrail false false false (c ∷ back)) (sym f) (record {
      outside = outside_open back h.no_dollar h.no_percent h.outside;
      no_at = refl;
      no_dollar = refl;
      no_percent = refl;
      ends = subst (λ o. Ends 64 o false false (40 ∷ back)) h.no_at (Ends-open 64 back);
    })
function_ended_follows heads function back _ b f h = kind_step b back h

function_named_follows : (heads : Heads) (function back : List ℕ) (sort : Sort) (b : ℕ)
    → sort_of b ≡ sort → SortIs sort b → ItemsTrail false false false back
    → Follows (function_named_step heads function sort b) b back
function_named_follows heads function back Letter b e f h = items_name b Letter back false false
    (inner_name b Letter e refl) (letter_in_name b f) h
function_named_follows heads function back Digit b e f h = items_name b Digit back false false
    (inner_name b Digit e refl) (digit_in_name b f) h
function_named_follows heads function back Dash b e f h = items_name b Dash back false false
    (inner_name b Dash e refl) (dash_in_name b f) h
function_named_follows heads function back Space b e f h = function_ended_follows heads function
    back Space b f h
function_named_follows heads function back Open b e f h = function_ended_follows heads function back
    Open b f h
function_named_follows heads function back _ b e f h = kind_step b back h

closed_steps : (heads : Heads) (step : Step) (b : ℕ) (back : List ℕ) → b ≡ 41
    → SteppingTrail (stepping_kind (heads.steps ++ step ∷ [])) (b ∷ back)
closed_steps heads step b back f = stepped heads step (b ∷ back)
    (subst (λ c. ItemsTrail false false false (c ∷ back)) (sym f) (items_closed back))

args_opened_follows : (heads : Heads) (function back : List ℕ) (sort : Sort) (b : ℕ) → SortIs sort b
    → ItemsTrail false false false back → Follows (args_opened_step heads function sort) b back
args_opened_follows heads function back Space b f h = spaced_items b back f h
args_opened_follows heads function back Quote b f h = quote_begins _ b back f
args_opened_follows heads function back Close b f h = closed_steps heads _ b back f
args_opened_follows heads function back _ b f h = kind_step b back h

arg_ended_follows : (heads : Heads) (function : List ℕ) (args : List (List Piece)) (back : List ℕ)
    (sort : Sort) (b : ℕ) → SortIs sort b → ItemsTrail false false false back
    → Follows (arg_ended_step heads function args sort) b back
arg_ended_follows heads function args back Space b f h = spaced_items b back f h
arg_ended_follows heads function args back Comma b f h = subst
    (λ c. ItemsTrail false false false (c ∷ back)) (sym f) (items_comma back h.outside)
arg_ended_follows heads function args back Close b f h = closed_steps heads _ b back f
arg_ended_follows heads function args back _ b f h = kind_step b back h

arg_wanted_follows : (heads : Heads) (function : List ℕ) (args : List (List Piece)) (back : List ℕ)
    (sort : Sort) (b : ℕ) → SortIs sort b → ItemsTrail false false false back
    → Follows (arg_wanted_step heads function args sort) b back
arg_wanted_follows heads function args back Space b f h = spaced_items b back f h
arg_wanted_follows heads function args back Quote b f h = quote_begins _ b back f
arg_wanted_follows heads function args back _ b f h = kind_step b back h

separator_wanted_follows : (heads : Heads) (back : List ℕ) (sort : Sort) (b : ℕ) → SortIs sort b
    → ItemsTrail false false false back → Follows (separator_wanted_step heads sort) b back
separator_wanted_follows heads back Space b f h = spaced_items b back f h
separator_wanted_follows heads back Quote b f h = quote_begins _ b back f
separator_wanted_follows heads back _ b f h = kind_step b back h

separator_ended_follows : (heads : Heads) (pieces : List Piece) (back : List ℕ) (sort : Sort)
    (b : ℕ) → SortIs sort b → ItemsTrail false false false back
    → Follows (separator_ended_step heads pieces sort) b back
separator_ended_follows heads pieces back Space b f h = spaced_items b back f h
separator_ended_follows heads pieces back Close b f h = text_begins _ b back f
separator_ended_follows heads pieces back _ b f h = kind_step b back h

-- calls of property functions, where all that is bad is a name
property_follows : (parts : List Part) (back : List ℕ) (sort : Sort) (b : ℕ) → sort_of b ≡ sort
    → SortIs sort b
    → NameTrail false false false back → FollowsIn true (property_opened_step parts sort b) b back
property_follows parts back Bracket b e f h = tt
property_follows parts back sort b e f h =
    name_opened_follows true (whole parts) property back sort b e f (λ m. cc) h

build_next_trail : (parts : List Part) (more back : List ℕ) → Trail (build_next parts more) back
build_next_trail parts [] back = tt
build_next_trail parts (wanted ∷ more) back = tt

build_follows : (parts : List Part) (more back : List ℕ) (b : ℕ)
    → FollowsIn true (build_opened_step parts more b) b back
build_follows parts [] back b = refl
build_follows parts (wanted ∷ more) back b = by (to_ascii_lowercase b == wanted)
  where
    by : (t : Bool) → FollowsIn true
        (go_if t (build_next parts more)) b back
    by true = build_next_trail parts more (b ∷ back)
    by false = refl

wanted_follows : (heads : CallHeads) (back : List ℕ) (sort : Sort) (b : ℕ)
    → FollowsIn true (call_wanted_step heads sort b) b back
wanted_follows heads back Space b = tt
wanted_follows heads back Letter b = tt
wanted_follows heads back _ b = refl

unless_first_follows : (heads : CallHeads) (mode : Mode) (b : ℕ) (back : List ℕ)
    → Trail mode (b ∷ back)
    → FollowsIn true (unless_first heads mode) b back
unless_first_follows heads mode b back h = by (may_be_plain heads)
  where
    by : (t : Bool) → FollowsIn true (go_if t mode) b back
    by true = h
    by false = refl

ended_follows : (heads : CallHeads) (function back : List ℕ) (sort : Sort) (b : ℕ) → SortIs sort b
    → FollowsIn true (call_ended_step heads function sort) b back
ended_follows heads function back Space b f = tt
ended_follows heads function back Open b f = tt
ended_follows heads function back Dot b f = unless_first_follows heads _ b back tt
ended_follows heads function back Close b f =
    unless_first_follows heads _ b back (text_begins _ b back f)
ended_follows heads function back _ b f = refl

named_follows : (heads : CallHeads) (function back : List ℕ) (sort : Sort) (b : ℕ) → SortIs sort b
    → FollowsIn true (call_named_step heads function sort b) b back
named_follows heads function back Letter b f = tt
named_follows heads function back Digit b f = tt
named_follows heads function back Dash b f = tt
named_follows heads function back Space b f = ended_follows heads function back Space b f
named_follows heads function back Open b f = ended_follows heads function back Open b f
named_follows heads function back Dot b f = ended_follows heads function back Dot b f
named_follows heads function back Close b f = ended_follows heads function back Close b f
named_follows heads function back _ b f = refl

called_follows : (heads : CallHeads) (back : List ℕ) (sort : Sort) (b : ℕ) → SortIs sort b
    → FollowsIn true (called_step heads sort) b back
called_follows heads back Space b f = tt
called_follows heads back Dot b f = tt
called_follows heads back Close b f = text_begins _ b back f
called_follows heads back _ b f = refl

blank_closed_follows : (a : Arguments) (args : List (List Piece)) (spaced : Bool) (b : ℕ)
    (back : List ℕ)
    → FollowsIn true (blank_closed a args spaced) b back
blank_closed_follows a [] spaced b back = tt
blank_closed_follows a (arg ∷ args) true b back = tt
blank_closed_follows a (arg ∷ args) false b back = refl

blank_listed_follows : (a : Arguments) (spaced : Bool) (b : ℕ) (back : List ℕ)
    → FollowsIn true (blank_listed a spaced) b back
blank_listed_follows a true b back = tt
blank_listed_follows a false b back = refl

loose_common : (a : Arguments) (back : List ℕ) (sort : Sort) (b : ℕ) → sort_of b ≡ sort
    → is_common sort ≡ true
    → TextTrail (inner (in_loose a) []) unmarked (b ∷ back)
loose_common a back sort b e c =
    record {
      mark_is =
          (uncommon b 36 sort e c refl, uncommon b 37 sort e c refl, uncommon b 64 sort e c refl);
      outside = λ q. absurd q;
    }

argument_follows : (a : Arguments) (spaced : Bool) (back : List ℕ) (sort : Sort) (b : ℕ)
    → sort_of b ≡ sort → SortIs sort b
    → FollowsIn true (call_arg_wanted_step a spaced sort b) b back
argument_follows a spaced back Space b e f = tt
argument_follows a spaced back Quote b e f =
    subst (λ c. TextTrail (inner (in_call a) []) unmarked (c ∷ back)) (sym f)
    (text_quoted (inner (in_call a) []) back)
argument_follows a spaced back Close b e f = blank_closed_follows a a.args spaced b back
argument_follows a spaced back Comma b e f = blank_listed_follows a spaced b back
argument_follows a spaced back Dollar b e f =
    record { mark_is = (back, ap (λ c. c ∷ back) f); outside = λ q. absurd q }
argument_follows a spaced back Percent b e f = refl
argument_follows a spaced back At b e f = refl
argument_follows a spaced back Open b e f = refl
argument_follows a spaced back End b e f = absurd f
argument_follows a spaced back Letter b e f = loose_common a back Letter b e refl
argument_follows a spaced back Digit b e f = loose_common a back Digit b e refl
argument_follows a spaced back Dash b e f = loose_common a back Dash b e refl
argument_follows a spaced back Dot b e f = loose_common a back Dot b e refl
argument_follows a spaced back Greater b e f = loose_common a back Greater b e refl
argument_follows a spaced back Bracket b e f = loose_common a back Bracket b e refl
argument_follows a spaced back Other b e f = loose_common a back Other b e refl

loose_in : (place : Place) → place_inside place ≡ Loose → is_in_property (place_left place) ≡ true
loose_in (in_transform heads) e = cc
loose_in (in_separator heads) e = cc
loose_in (in_argument heads function args) e = cc
loose_in (in_call a) e = cc
loose_in (in_loose a) e = refl

reads_out : (place : Place) → ReadsMetadata (place_inside place)
    → is_in_property (place_left place) ≡ false
reads_out (in_transform heads) r = refl
reads_out (in_separator heads) r = absurd r
reads_out (in_argument heads function args) r = absurd r
reads_out (in_call a) r = absurd r
reads_out (in_loose a) r = absurd r

mode_follows : (mode : Mode) (left : Left) (back : List ℕ) (sort : Sort) (b : ℕ) → sort_of b ≡ sort
    → SortIs sort b
    → LeftIs mode left → Trail mode back → FollowsIn (in_property mode) (step_of mode sort b) b back
mode_follows (in_text (whole parts) plain mark) left back sort b e f k h =
    text_follows false (whole parts) plain mark back sort b e f (λ i. cc) (λ r. refl) h
mode_follows (in_text (inner place pieces) plain mark) left back sort b e f k h =
    text_follows (is_in_property (place_left place)) (inner place pieces) plain mark back sort b e f
    (loose_in place) (reads_out place) h
mode_follows (name_opened host which) left back sort b e f k h =
    name_opened_follows (is_in_property (name_left host which)) host which back sort b e f
    (metadata_outside host which k.1) h
mode_follows (in_name host which name) left back sort b e f k h =
    in_name_follows (is_in_property (name_left host which)) host which name back sort b e f
    (metadata_outside host which k.1) h
mode_follows (name_ended host which name) left back sort b e f k h =
    name_ended_follows (is_in_property (name_left host which)) host which name back sort b e f
    (metadata_outside host which k.1)
    (ended_spaced (is_metadata which) back h)
mode_follows (type_opened parts) left back sort b e f k h =
    type_opened_follows parts back sort b e f h
mode_follows (in_type parts kind) left back sort b e f k h =
    in_type_follows parts kind back sort b e f h
mode_follows (type_dashed parts kind) left back sort b e f k h =
    type_dashed_follows parts kind back sort b e f h
mode_follows (stepping heads) left back sort b e f k h =
    stepping_follows heads (stepping_kind heads.steps) back sort b refl e f h
mode_follows (dashed heads) left back sort b e f k h = dashed_follows heads back sort b f h
mode_follows (arrow heads) left back sort b e f k h = arrow_follows heads back sort b e f h
mode_follows (function_named heads function) left back sort b e f k h =
    function_named_follows heads function back sort b e f h
mode_follows (function_ended heads function) left back sort b e f k h =
    function_ended_follows heads function back sort b f h
mode_follows (args_opened heads function) left back sort b e f k h =
    args_opened_follows heads function back sort b f h
mode_follows (arg_ended heads function args) left back sort b e f k h =
    arg_ended_follows heads function args back sort b f h
mode_follows (arg_wanted heads function args) left back sort b e f k h =
    arg_wanted_follows heads function args back sort b f h
mode_follows (separator_wanted heads) left back sort b e f k h =
    separator_wanted_follows heads back sort b f h
mode_follows (separator_ended heads pieces) left back sort b e f k h =
    separator_ended_follows heads pieces back sort b f h
mode_follows (property_opened parts) left back sort b e f k h =
    property_follows parts back sort b e f h
mode_follows (build_opened parts more) left back sort b e f k h = build_follows parts more back b
mode_follows (call_wanted heads) left back sort b e f k h = wanted_follows heads back sort b
mode_follows (call_named heads function) left back sort b e f k h =
    named_follows heads function back sort b f
mode_follows (call_ended heads function) left back sort b e f k h =
    ended_follows heads function back sort b f
mode_follows (called heads) left back sort b e f k h = called_follows heads back sort b f
mode_follows (call_arg_wanted a spaced) left back sort b e f k h =
    argument_follows a spaced back sort b e f
mode_follows (call_arg_ended a) left back sort b e f k h = args_follow true a sort b back refl

pub step_follows : (mode : Mode) (left : Left) (back : List ℕ) (b : ℕ) → LeftIs mode left
    → Trail mode back
    → FollowsIn (in_property mode) (step_of mode (sort_of b) b) b back
step_follows mode left back b k h = mode_follows mode left back (sort_of b) b refl (sort_is b) k h

-- the kind of a bad byte
pub kind_follows : (p t : Bool) (kind : Kind) (b : ℕ) (back : List ℕ) → p ≡ t
    → FollowsIn t (stop kind) b back
    → (if p then Name else kind_of b back) ≡ kind
kind_follows p true kind b back e h = ap (λ x. if x then Name else kind_of b back) e ∙ sym h
kind_follows p false kind b back e h = ap (λ x. if x then Name else kind_of b back) e ∙ h
