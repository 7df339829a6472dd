-- A step in text keeps what stands behind the machine.
use Rattle.std.proofs.Common.{
  ◌≡◌,
  ℕ,
  true,
  false,
  eqb,
  List,
  [],
  ◌∷◌,
  ◌++◌,
  Some,
  refl,
  sym,
  ap,
  ◌∙◌,
  subst,
  append_assoc,
}
use Rattle.std.proofs.lemmas.List.{append-nil}
use Rattle.msb_expression.specs.declared.starts.Inside.{Inside}
use Rattle.msb_expression.specs.declared.starts.Inside.TheVariants.{Whole, Transform, Quoted, Loose}
use Rattle.msb_expression.specs.declared.sorts.Sort.{Sort}
use Rattle.msb_expression.specs.declared.sorts.Sort.TheVariants.{
  End,
  Letter,
  Digit,
  Dash,
  Space,
  Quote,
  Open,
  Close,
  Comma,
  Dot,
  Greater,
  Dollar,
  Percent,
  At,
  Bracket,
  Other,
}
use Rattle.msb_expression.specs.declared.expression.Piece.{Piece}
use Rattle.msb_expression.specs.Grammar.{
  is_end_quote,
  Joins,
  Apart,
  IsPiece,
  is_plain_piece,
  trimmed_pieces,
}
use Rattle.msb_expression.specs.Machine.{
  ends_argument,
  sort_of,
  Place,
  in_transform,
  in_separator,
  in_argument,
  in_call,
  in_loose,
  Host,
  whole,
  inner,
  Mark,
  unmarked,
  dollar,
  percent,
  at_sign,
  property,
  metadata,
  qualified,
  Mode,
  Next,
  go,
  stop,
  call_heads,
  Arguments,
  with_call,
  property_call,
  call_closed,
  place_inside,
  host_inside,
  spelled,
  settled,
  flushed_pieces,
  flushed,
  referred,
  percent_step,
  nested_step,
  dollar_opened,
  items_step,
  unless_loose,
  open_step,
  quote_step,
  part_step,
  text_step,
  left,
  with_arg,
  call_arg_ended_step,
}
use Rattle.msb_expression.proofs.Bytes.{SortIs}
use Rattle.msb_expression.proofs.Behind.{
  CallWanted,
  Called,
  PiecesAt,
  LeftAt,
  Fresh,
  TextAt,
  NameOpened,
  Closes,
  IsPlainSoFar,
  Marks,
  ArgsAt,
  ArgumentAt,
  Behind,
}
use Rattle.msb_expression.proofs.PlainText.{
  IsOrdinary,
  FitsLoose,
  ReadsMetadata,
  never_whole,
  is_common,
  uncommon,
  common_ordinary,
  common_fits,
  common_ends_none,
  no_end_quote,
  so_far-marked,
  so_far-ordinary,
  so_far-open,
  so_far-unopened,
  IsPlain-settled,
  IsPlain-unmarked,
}
use Rattle.msb_expression.proofs.Adds.{
  FlushedAt,
  host-flushed,
  reference-added,
  left_at,
  begun_no_space,
  no_space_before,
  begun_more,
  begun_elsewhere,
  property_calls,
}

-- where the machine goes on, the fact holds of where it goes
abbrev pub Keeps : Next → (Mode → Type 0) → Type 0
Keeps (go mode) P = P mode
Keeps (stop kind) P = Unit {0}

pub unless_keeps : (inside : Inside) (mode : Mode) (P : Mode → Type 0)
    → ((inside ≡ Loose → ⊥) → P mode)
    → Keeps (unless_loose inside mode) P
unless_keeps Whole mode P h = h (λ e. cc)
unless_keeps Transform mode P h = h (λ e. cc)
unless_keeps Quoted mode P h = h (λ e. cc)
unless_keeps Loose mode P h = tt

module _ (host : Host) (plain : List ℕ) (mark : Mark) (front : List ℕ)
    (h : TextAt host plain mark front) where
  marked : (next : Mark) (b : ℕ) → Marks next (host_inside host) → spelled next ≡ b ∷ []
      → eqb b 40 ≡ false → TextAt host (settled plain mark) next (front ++ b ∷ [])
  marked next b m e f = record {
    base = h.base;
    split = ap (λ t. t ++ b ∷ []) h.split ∙ append_assoc h.base (settled plain mark) (b ∷ [])
        ∙ ap (λ t. h.base ++ (settled plain mark ++ t)) (sym e);
    fresh = h.fresh;
    so_far = so_far-marked (host_inside host) plain mark next b h.marks e f h.so_far;
    marks = m;
    begun = begun_more host (settled plain mark) (spelled next) h.begun;
  }

  ordinary : (b : ℕ) → IsOrdinary b → FitsLoose (host_inside host) b
      → is_end_quote (host_inside host) b ≡ false → eqb b 40 ≡ false
      → TextAt host (settled plain mark ++ b ∷ []) unmarked (front ++ b ∷ [])
  ordinary b o l q f = record {
    base = h.base;
    split = ap (λ t. t ++ b ∷ []) h.split ∙ append_assoc h.base (settled plain mark) (b ∷ [])
        ∙ ap (λ t. h.base ++ t) (sym (append-nil (settled plain mark ++ b ∷ [])));
    fresh = h.fresh;
    so_far = so_far-ordinary (host_inside host) plain mark b h.marks o l q f h.so_far;
    marks = tt;
    begun =
        begun_more host (settled plain mark ++ b ∷ []) []
        (begun_more host (settled plain mark) (b ∷ []) h.begun);
  }

  -- the plain text with its mark ends here
  pub text_ended : FlushedAt (flushed host (settled plain mark)) front
  text_ended = subst (λ t. FlushedAt (flushed host (settled plain mark)) t) (sym h.split)
      (host-flushed host h.base (settled plain mark) h.fresh
      (IsPlain-settled (host_inside host) plain mark h.marks h.so_far)
      (begun_no_space host (settled plain mark) h.begun))

  -- the plain text ends before its mark
  ended_before : FlushedAt (flushed host plain) (h.base ++ plain)
  ended_before =
      host-flushed host h.base plain h.fresh
      (IsPlain-unmarked (host_inside host) plain mark h.marks h.so_far)
      (no_space_before host h.base plain mark h.fresh h.begun)

  behind_mark : (x : List ℕ) → front ++ x ≡ (h.base ++ plain) ++ (spelled mark ++ x)
  behind_mark x = ap (λ t. t ++ x) h.split ∙ simp append_assoc

-- behind `$(`, and behind `%(`
closes_property : (host : Host) (base front : List ℕ) → FlushedAt host base
    → front ≡ base ++ 36 ∷ 40 ∷ [] → Closes host property front
closes_property (whole parts) base front h e = λ text name n.
    subst (λ t. Fresh (referred (whole parts) property name) t)
    (sym (ap (λ t. t ++ (text ++ 41 ∷ [])) e
    ∙ append_assoc base (36 ∷ 40 ∷ []) (text ++ 41 ∷ [])))
    (reference-added (whole parts) property name base (36 ∷ 40 ∷ (text ++ 41 ∷ [])) h
    (text, n, refl))
closes_property (inner place pieces) base front h e = λ text name n.
    subst (λ t. Fresh (referred (inner place pieces) property name) t)
    (sym (ap (λ t. t ++ (text ++ 41 ∷ [])) e
    ∙ append_assoc base (36 ∷ 40 ∷ []) (text ++ 41 ∷ [])))
    (reference-added (inner place pieces) property name base (36 ∷ 40 ∷ (text ++ 41 ∷ [])) h
    (text, n, refl))

pub name_begun : (host : Host) (base front : List ℕ) → FlushedAt host base
    → front ≡ base ++ 36 ∷ 40 ∷ [] → NameOpened host property front
name_begun (whole parts) base front h e = record {
  closes = closes_property (whole parts) base front h e;
  dots = λ text name n.
      subst (λ t. CallWanted (call_heads parts (Some name)) t)
      (sym (ap (λ t. t ++ (text ++ 46 ∷ [])) e
      ∙ append_assoc base (36 ∷ 40 ∷ []) (text ++ 46 ∷ [])))
      (property_calls parts base text name h n);
}
name_begun (inner place pieces) base front h e =
    record { closes = closes_property (inner place pieces) base front h e; dots = tt }

dollar_begun : (host : Host) (plain base front : List ℕ) → FlushedAt (flushed host plain) base
    → front ≡ base ++ 36 ∷ 40 ∷ [] → Behind (dollar_opened host plain) front
dollar_begun (whole parts) plain base front h e = record { base = base; split = e; parts_at = h }
dollar_begun (inner place pieces) plain base front h e =
    name_begun (inner place (flushed_pieces pieces plain)) base front h e

transform_only : (inside : Inside) → ReadsMetadata inside → (inside ≡ Whole → ⊥)
    → inside ≡ Transform
transform_only Whole r w = absurd (w refl)
transform_only Transform r w = refl
transform_only Quoted r w = absurd r
transform_only Loose r w = absurd r

metadata_opened : (host : Host) (base front : List ℕ) → ReadsMetadata (host_inside host)
    → FlushedAt host base → front ≡ base ++ 37 ∷ 40 ∷ [] → NameOpened host metadata front
metadata_opened (whole parts) base front q h e = record {
  closes = λ text name n.
      subst (λ t. Fresh (referred (whole parts) metadata name) t)
      (sym (ap (λ t. t ++ (text ++ 41 ∷ [])) e
      ∙ append_assoc base (37 ∷ 40 ∷ []) (text ++ 41 ∷ [])))
      (reference-added (whole parts) metadata name base (37 ∷ 40 ∷ (text ++ 41 ∷ [])) h
      (text, n, refl));
  dots = λ first kind f second name n.
      let split : (front ++ (first ++ 46 ∷ [])) ++ (second ++ 41 ∷ [])
      ≡ base ++ 37 ∷ 40 ∷ (first ++ (46 ∷ (second ++ 41 ∷ []))) = ap
      (λ t. (t ++ (first ++ 46 ∷ [])) ++ (second ++ 41 ∷ [])) e ∙ simp append_assoc in
      subst (λ t. Fresh (referred (whole parts) (qualified kind) name) t) (sym split)
      (reference-added (whole parts) (qualified kind) name base
      (37 ∷ 40 ∷ (first ++ (46 ∷ (second ++ 41 ∷ [])))) h
      (first, second, f, n, simp append_assoc));
}
metadata_opened (inner place pieces) base front q h e = record {
  closes = λ text name n.
      subst (λ t. Fresh (referred (inner place pieces) metadata name) t)
      (sym (ap (λ t. t ++ (text ++ 41 ∷ [])) e
      ∙ append_assoc base (37 ∷ 40 ∷ []) (text ++ 41 ∷ [])))
      (reference-added (inner place pieces) metadata name base (37 ∷ 40 ∷ (text ++ 41 ∷ [])) h
      (transform_only (place_inside place) q (never_whole place), text, n, refl));
  dots = tt;
}

common_keeps : (host : Host) (plain : List ℕ) (mark : Mark) (front : List ℕ) (sort : Sort) (b : ℕ)
    → sort_of b ≡ sort → is_common sort ≡ true
    → (host_inside host ≡ Loose → ends_argument sort ≡ false) → TextAt host plain mark front
    → TextAt host (settled plain mark ++ b ∷ []) unmarked (front ++ b ∷ [])
common_keeps host plain mark front sort b e c p h =
    ordinary host plain mark front h b (common_ordinary b sort e c)
    (common_fits (host_inside host) b sort e c)
    (no_end_quote (host_inside host) b (uncommon b 39 sort e c refl)
    (common_ends_none (host_inside host) b sort e p)) (uncommon b 40 sort e c refl)

-- a `(` behind a mark that opens nothing there
unopened : (host : Host) (plain : List ℕ) (mark : Mark) (c : ℕ) (front : List ℕ)
    → host_inside host ≡ Quoted → spelled mark ≡ c ∷ [] → eqb c 36 ≡ false → eqb c 39 ≡ false
    → TextAt host plain mark front → TextAt host (plain ++ c ∷ 40 ∷ []) unmarked (front ++ 40 ∷ [])
unopened host plain mark c front i e f q h = record {
  base = h.base;
  split = ap (λ t. t ++ 40 ∷ []) h.split ∙ ap (λ t. (h.base ++ (plain ++ t)) ++ 40 ∷ []) e
      ∙ simp append_assoc;
  fresh = h.fresh;
  so_far = subst (λ x. IsPlainSoFar x (plain ++ c ∷ 40 ∷ []) unmarked) (sym i)
      (so_far-unopened plain mark c e f q (subst (λ x. IsPlainSoFar x plain mark) i h.so_far));
  marks = tt;
  begun = begun_elsewhere host ((plain ++ c ∷ 40 ∷ []) ++ []) (λ l. let k = sym i ∙ l in cc);
}

-- behind a mark and its `(`
behind_opening : (host : Host) (plain : List ℕ) (mark : Mark) (c : ℕ) (front : List ℕ)
    (h : TextAt host plain mark front) → spelled mark ≡ c ∷ []
    → front ++ 40 ∷ [] ≡ (h.base ++ plain) ++ c ∷ 40 ∷ []
behind_opening host plain mark c front h e = ap (λ t. t ++ 40 ∷ []) h.split
    ∙ ap (λ t. (h.base ++ (plain ++ t)) ++ 40 ∷ []) e ∙ simp append_assoc

host-inside-flushed : (host : Host) (plain : List ℕ)
    → host_inside (flushed host plain) ≡ host_inside host
host-inside-flushed (whole parts) plain = refl
host-inside-flushed (inner place pieces) plain = refl

percent_keeps : (host : Host) (inside : Inside) (plain : List ℕ) (front : List ℕ)
    → host_inside host ≡ inside → TextAt host plain percent front
    → Keeps (percent_step host inside plain) (λ mode. Behind mode (front ++ 40 ∷ []))
percent_keeps host Whole plain front e h =
    metadata_opened (flushed host plain) (h.base ++ plain) (front ++ 40 ∷ [])
    (subst (λ i. ReadsMetadata i) (sym (host-inside-flushed host plain ∙ e)) tt)
    (ended_before host plain percent front h)
    (behind_opening host plain percent 37 front h refl)
percent_keeps host Transform plain front e h =
    metadata_opened (flushed host plain) (h.base ++ plain) (front ++ 40 ∷ [])
    (subst (λ i. ReadsMetadata i) (sym (host-inside-flushed host plain ∙ e)) tt)
    (ended_before host plain percent front h)
    (behind_opening host plain percent 37 front h refl)
percent_keeps host Quoted plain front e h = unopened host plain percent 37 front e refl refl refl h
percent_keeps host Loose plain front e h = tt

nested_keeps : (host : Host) (inside : Inside) (plain : List ℕ) (front : List ℕ)
    → host_inside host ≡ inside → TextAt host plain at_sign front
    → Keeps (nested_step host inside plain) (λ mode. Behind mode (front ++ 40 ∷ []))
nested_keeps host Whole plain front e h = tt
nested_keeps host Transform plain front e h = tt
nested_keeps host Quoted plain front e h = unopened host plain at_sign 64 front e refl refl refl h
nested_keeps host Loose plain front e h = tt

items_keeps : (host : Host) (plain : List ℕ) (front : List ℕ) → TextAt host plain at_sign front
    → Keeps (items_step host plain) (λ mode. Behind mode (front ++ 40 ∷ []))
items_keeps (whole parts) plain front h = record {
  base = h.base ++ plain;
  spaces = [];
  split = behind_opening (whole parts) plain at_sign 64 front h refl;
  parts_at = ended_before (whole parts) plain at_sign front h;
  are_spaces = tt;
}
items_keeps (inner place pieces) plain front h = nested_keeps (inner place pieces)
    (place_inside place) plain front refl h

open_added : (host : Host) (plain : List ℕ) (front : List ℕ) → (host_inside host ≡ Loose → ⊥)
    → TextAt host plain unmarked front → TextAt host (plain ++ 40 ∷ []) unmarked (front ++ 40 ∷ [])
open_added host plain front n h = record {
  base = h.base;
  split = ap (λ t. t ++ 40 ∷ []) h.split ∙ simp append_assoc;
  fresh = h.fresh;
  so_far = so_far-open (host_inside host) plain n h.so_far;
  marks = tt;
  begun = begun_elsewhere host ((plain ++ 40 ∷ []) ++ []) n;
}

open_keeps : (host : Host) (plain : List ℕ) (mark : Mark) (front : List ℕ)
    → TextAt host plain mark front
    → Keeps (open_step host plain mark) (λ mode. Behind mode (front ++ 40 ∷ []))
open_keeps host plain unmarked front h =
    unless_keeps (host_inside host) _ (λ mode. Behind mode (front ++ 40 ∷ []))
    (λ n. open_added host plain front n h)
open_keeps host plain dollar front h =
    dollar_begun host plain (h.base ++ plain) (front ++ 40 ∷ [])
    (ended_before host plain dollar front h) (behind_opening host plain dollar 36 front h refl)
open_keeps host plain percent front h = percent_keeps host (host_inside host) plain front refl h
open_keeps host plain at_sign front h = items_keeps host plain front h

quote_ended : (place : Place) (pieces : List Piece) (front : List ℕ)
    (p : PiecesAt place pieces front)
    → ((text : List ℕ) (read : List Piece) → Joins (IsPiece (place_inside place)) text read
    → Apart is_plain_piece read → LeftAt place read (p.base ++ (text ++ 39 ∷ [])))
    → Behind (left place pieces) (front ++ 39 ∷ [])
quote_ended place pieces front p opened =
    left_at place pieces (front ++ 39 ∷ [])
    (subst (λ t. LeftAt place pieces t)
    (sym (ap (λ t. t ++ 39 ∷ []) p.split ∙ append_assoc p.base p.text (39 ∷ [])))
    (opened p.text pieces p.joins p.apart))

quote_keeps : (host : Host) (plain : List ℕ) (mark : Mark) (front : List ℕ)
    → TextAt host plain mark front
    → Keeps (quote_step host (settled plain mark)) (λ mode. Behind mode (front ++ 39 ∷ []))
quote_keeps (whole parts) plain mark front h =
    ordinary (whole parts) plain mark front h 39
    (record { no_dollar = refl; no_percent = refl; no_at = refl }) (λ i. cc) refl refl
quote_keeps (inner (in_transform heads) pieces) plain mark front h =
    let p : PiecesAt (in_transform heads) (flushed_pieces pieces (settled plain mark)) front =
    text_ended (inner (in_transform heads) pieces) plain mark front h in
    quote_ended (in_transform heads) _ front p p.opened
quote_keeps (inner (in_separator heads) pieces) plain mark front h =
    let p : PiecesAt (in_separator heads) (flushed_pieces pieces (settled plain mark)) front =
    text_ended (inner (in_separator heads) pieces) plain mark front h in
    quote_ended (in_separator heads) _ front p p.opened
quote_keeps (inner (in_argument heads function args) pieces) plain mark front h =
    let p : PiecesAt (in_argument heads function args) (flushed_pieces pieces (settled plain mark))
    front = text_ended (inner (in_argument heads function args) pieces) plain mark front h in
    quote_ended (in_argument heads function args) _ front p p.opened
quote_keeps (inner (in_call a) pieces) plain mark front h =
    let p : PiecesAt (in_call a) (flushed_pieces pieces (settled plain mark)) front =
    text_ended (inner (in_call a) pieces) plain mark front h in
    quote_ended (in_call a) _ front p p.opened
quote_keeps (inner (in_loose a) pieces) plain mark front h = tt

-- an argument and the `,` or the `)` behind it
pub argument_next : (a : Arguments) (front : List ℕ) (b : ℕ) → b ≡ 44 → ArgsAt a front
    → ArgumentAt a (front ++ b ∷ [])
argument_next a front b f h = record {
  none = λ e. absurd (h.some e);
  some = λ argument pieces others more i o n.
      let split : front ++ ((44 ∷ argument ++ others) ++ 41 ∷ [])
      ≡ (front ++ 44 ∷ []) ++ (argument ++ (others ++ 41 ∷ [])) = simp append_assoc in
      subst (λ c. Called
      (with_call a.heads (property_call a.function (Some ((a.args ++ pieces ∷ []) ++ more))))
      ((front ++ c ∷ []) ++ (argument ++ (others ++ 41 ∷ [])))) (sym f)
      (subst (λ t. Called
      (with_call a.heads (property_call a.function (Some ((a.args ++ pieces ∷ []) ++ more)))) t)
      split
      (subst (λ list. Called (with_call a.heads (property_call a.function (Some list)))
      (front ++ ((44 ∷ argument ++ others) ++ 41 ∷ [])))
      (sym (append_assoc a.args (pieces ∷ []) more))
      (h.closes (44 ∷ argument ++ others) (pieces ∷ more)
      (44 ∷ argument, others, refl, (argument, i, refl), o))));
}

pub args_closed : (a : Arguments) (front : List ℕ) (b : ℕ) → b ≡ 41 → ArgsAt a front
    → Behind (call_closed a) (front ++ b ∷ [])
args_closed a front b f h =
    subst (λ c. Behind (call_closed a) (front ++ c ∷ [])) (sym f)
    (subst (λ list. Called (with_call a.heads (property_call a.function (Some list)))
    (front ++ 41 ∷ [])) (append-nil a.args) (h.closes [] [] refl))

pub args_step_keeps : (a : Arguments) (front : List ℕ) (sort : Sort) (b : ℕ) → SortIs sort b
    → ends_argument sort ≡ true → ArgsAt a front
    → Keeps (call_arg_ended_step a sort) (λ mode. Behind mode (front ++ b ∷ []))
args_step_keeps a front Comma b f p h =
    record {
      base = front ++ b ∷ [];
      spaces = [];
      split = sym (append-nil (front ++ b ∷ []));
      argument_at = argument_next a front b f h;
      are_spaces = tt;
      some_space = λ e. cc;
    }
args_step_keeps a front Close b f p h = args_closed a front b f h
args_step_keeps a front _ b f p h = cc

part_common : (sort : Sort) → ends_argument sort ≡ true → is_common sort ≡ true
part_common Comma e = refl
part_common Close e = refl
part_common _ e = cc

part_keeps : (host : Host) (plain : List ℕ) (mark : Mark) (front : List ℕ) (sort : Sort) (b : ℕ)
    → sort_of b ≡ sort → SortIs sort b → ends_argument sort ≡ true → TextAt host plain mark front
    → Keeps (part_step host (settled plain mark) sort b) (λ mode. Behind mode (front ++ b ∷ []))
part_keeps (whole parts) plain mark front sort b e f p h =
    common_keeps (whole parts) plain mark front sort b e (part_common sort p) (λ i. cc) h
part_keeps (inner (in_transform heads) pieces) plain mark front sort b e f p h =
    common_keeps (inner (in_transform heads) pieces) plain mark front sort b e (part_common sort p)
    (λ i. cc) h
part_keeps (inner (in_separator heads) pieces) plain mark front sort b e f p h =
    common_keeps (inner (in_separator heads) pieces) plain mark front sort b e (part_common sort p)
    (λ i. cc) h
part_keeps (inner (in_argument heads function args) pieces) plain mark front sort b e f p h =
    common_keeps (inner (in_argument heads function args) pieces) plain mark front sort b e
    (part_common sort p) (λ i. cc) h
part_keeps (inner (in_call a) pieces) plain mark front sort b e f p h =
    common_keeps (inner (in_call a) pieces) plain mark front sort b e (part_common sort p)
    (λ i. cc) h
part_keeps (inner (in_loose a) pieces) plain mark front sort b e f p h =
    let read : List Piece = flushed_pieces pieces (settled plain mark) in
    let t : PiecesAt (in_loose a) read front =
    text_ended (inner (in_loose a) pieces) plain mark front h in
    args_step_keeps (with_arg a (trimmed_pieces read)) front sort b f p
    (subst (λ x. ArgsAt (with_arg a (trimmed_pieces read)) x) (sym t.split)
    (t.opened t.text read t.joins t.apart (h.begun refl)))

pub text_keeps : (host : Host) (plain : List ℕ) (mark : Mark) (front : List ℕ) (sort : Sort) (b : ℕ)
    → sort_of b ≡ sort → SortIs sort b → TextAt host plain mark front
    → Keeps (text_step host plain mark sort b) (λ mode. Behind mode (front ++ b ∷ []))
text_keeps host plain mark front Dollar b e f h =
    subst (λ c. TextAt host (settled plain mark) dollar (front ++ c ∷ [])) (sym f)
    (marked host plain mark front h dollar 36 tt refl refl)
text_keeps host plain mark front Percent b e f h =
    unless_keeps (host_inside host) _ (λ mode. Behind mode (front ++ b ∷ [])) (λ n.
    subst (λ c. TextAt host (settled plain mark) percent (front ++ c ∷ [])) (sym f)
    (marked host plain mark front h percent 37 n refl refl))
text_keeps host plain mark front At b e f h =
    unless_keeps (host_inside host) _ (λ mode. Behind mode (front ++ b ∷ [])) (λ n.
    subst (λ c. TextAt host (settled plain mark) at_sign (front ++ c ∷ [])) (sym f)
    (marked host plain mark front h at_sign 64 n refl refl))
text_keeps host plain mark front Open b e f h =
    subst (λ c. Keeps (open_step host plain mark) (λ mode. Behind mode (front ++ c ∷ []))) (sym f)
    (open_keeps host plain mark front h)
text_keeps host plain mark front Quote b e f h =
    subst
    (λ c. Keeps (quote_step host (settled plain mark)) (λ mode. Behind mode (front ++ c ∷ [])))
    (sym f) (quote_keeps host plain mark front h)
text_keeps host plain mark front End b e f h = absurd f
text_keeps host plain mark front Letter b e f h =
    common_keeps host plain mark front Letter b e refl (λ i. refl) h
text_keeps host plain mark front Digit b e f h =
    common_keeps host plain mark front Digit b e refl (λ i. refl) h
text_keeps host plain mark front Dash b e f h =
    common_keeps host plain mark front Dash b e refl (λ i. refl) h
text_keeps host plain mark front Space b e f h =
    common_keeps host plain mark front Space b e refl (λ i. refl) h
text_keeps host plain mark front Close b e f h = part_keeps host plain mark front Close b e f refl h
text_keeps host plain mark front Comma b e f h = part_keeps host plain mark front Comma b e f refl h
text_keeps host plain mark front Dot b e f h =
    common_keeps host plain mark front Dot b e refl (λ i. refl) h
text_keeps host plain mark front Greater b e f h =
    common_keeps host plain mark front Greater b e refl (λ i. refl) h
text_keeps host plain mark front Other b e f h =
    common_keeps host plain mark front Other b e refl (λ i. refl) h
text_keeps host plain mark front Bracket b e f h =
    common_keeps host plain mark front Bracket b e refl (λ i. refl) h
