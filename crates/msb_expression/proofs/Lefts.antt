-- Which reference the bytes behind the machine leave open, and how deep.
use Rattle.std.proofs.Common.{
  ◌≡◌,
  ℕ,
  Bool,
  true,
  false,
  eqb,
  List,
  [],
  ◌∷◌,
  ◌++◌,
  refl,
  sym,
  ap,
  ◌∙◌,
  subst,
  arith,
}
use Rattle.std.specs.Prelude.{◌==◌}
use Rattle.std.specs.Char.{to_ascii_lowercase}
use Rattle.std.proofs.lemmas.Bool.{eqb-true, false≢true}
use Rattle.std.proofs.lemmas.Bool.Decides.{nat_tests}
use Rattle.msb_expression.specs.declared.starts.Inside.TheVariants.{Transform, Loose}
use Rattle.msb_expression.specs.declared.expression.Part.{Part}
use Rattle.msb_expression.specs.declared.expression.Piece.{Piece}
use Rattle.msb_expression.specs.declared.sorts.Sort.{Sort}
use Rattle.msb_expression.specs.declared.sorts.Sort.TheVariants.{
  End,
  Letter,
  Digit,
  Dash,
  Space,
  Quote,
  Open,
  Close,
  Comma,
  Dot,
  Greater,
  Dollar,
  Percent,
  At,
  Bracket,
  Other,
}
use Rattle.msb_expression.specs.declared.sorts.Kind.TheVariants.{Name}
use Rattle.msb_expression.specs.Refusals.{
  Left,
  outside,
  inside,
  in_quotes,
  is_mark,
  left_behind,
  left_after,
  is_in_property,
}
use Rattle.msb_expression.specs.Machine.{
  ends_argument,
  sort_of,
  Heads,
  CallHeads,
  Arguments,
  Place,
  in_transform,
  in_separator,
  in_argument,
  in_call,
  in_loose,
  Host,
  whole,
  inner,
  Mark,
  unmarked,
  dollar,
  percent,
  at_sign,
  Named,
  property,
  metadata,
  qualified,
  is_metadata,
  Mode,
  in_text,
  name_opened,
  in_name,
  name_ended,
  type_opened,
  in_type,
  type_dashed,
  stepping,
  dashed,
  arrow,
  function_named,
  function_ended,
  args_opened,
  arg_ended,
  arg_wanted,
  separator_wanted,
  separator_ended,
  property_opened,
  build_opened,
  build_next,
  call_wanted,
  call_named,
  call_ended,
  called,
  call_arg_wanted,
  call_arg_ended,
  Next,
  go,
  stop,
  go_if,
  step_of,
  place_inside,
  settled,
  referred,
  heads_of,
  open_step,
  part_step,
  quote_step,
  text_step,
  dot_step,
  name_opened_step,
  name_ended_step,
  in_name_step,
  type_opened_step,
  in_type_step,
  type_dashed_step,
  stepping_step,
  dashed_step,
  arrow_step,
  function_ended_step,
  function_named_step,
  args_opened_step,
  arg_ended_step,
  arg_wanted_step,
  separator_wanted_step,
  separator_ended_step,
  property_opened_step,
  build_opened_step,
  call_wanted_step,
  call_ended_step,
  call_named_step,
  called_step,
  blank_closed,
  blank_listed,
  call_arg_wanted_step,
  call_arg_ended_step,
}
use Rattle.msb_expression.proofs.Bytes.{SortIs, sort_is, other_byte}
use Rattle.msb_expression.proofs.PlainText.{is_common, uncommon}
use Rattle.msb_expression.proofs.KeepsText.{Keeps, unless_keeps}
use Rattle.msb_expression.proofs.KeepsCalls.{unless_first_keeps}

pub left_after-push : (left : Left) (xs : List ℕ) (b : ℕ)
    → left_after left (xs ++ b ∷ []) ≡ left_behind (left_after left xs) b
left_after-push left [] b = refl
left_after-push left (x ∷ xs) b = left_after-push (left_behind left x) xs b

-- the last byte of plain text
abbrev pub LastIs : Mark → ℕ → Type 0
LastIs unmarked last = is_mark last ≡ false
LastIs dollar last = last ≡ 36
LastIs percent last = last ≡ 37
LastIs at_sign last = last ≡ 64

-- in a text of pieces, and in a name there
abbrev pub place_left : Place → Left
place_left (in_transform heads) = in_quotes 64 0
place_left (in_separator heads) = in_quotes 64 0
place_left (in_argument heads function args) = in_quotes 64 1
place_left (in_call a) = in_quotes 36 1
place_left (in_loose a) = inside 36 1

abbrev pub piece_left : Place → Left
piece_left (in_transform heads) = in_quotes 64 0
piece_left (in_separator heads) = in_quotes 64 0
piece_left (in_argument heads function args) = in_quotes 64 1
piece_left (in_call a) = in_quotes 36 1
piece_left (in_loose a) = inside 36 2

abbrev pub name_left : Host → Named → Left
name_left (whole parts) property = inside 36 0
name_left (whole parts) metadata = inside 37 0
name_left (whole parts) (qualified kind) = inside 37 0
name_left (inner place pieces) which = piece_left place

-- metadata are read in a transform alone
abbrev pub NameFits : Host → Named → Type 0
NameFits (whole parts) which = Unit {0}
NameFits (inner place pieces) property = Unit {0}
NameFits (inner place pieces) metadata = place_inside place ≡ Transform
NameFits (inner place pieces) (qualified kind) = ⊥

-- bytes that neither open nor close a reference
abbrev pub InnerBytes : List ℕ → Type 0
InnerBytes [] = Unit {0}
InnerBytes (b ∷ bs) = (eqb b 39 ≡ false) × (eqb b 40 ≡ false) × (eqb b 41 ≡ false) × InnerBytes bs

abbrev pub LeftIs : Mode → Left → Type 0
LeftIs (in_text (whole parts) plain mark) left =
    (last : ℕ) × (left ≡ outside last) × LastIs mark last
LeftIs (in_text (inner place pieces) plain mark) left = left ≡ place_left place
LeftIs (name_opened host which) left = (left ≡ name_left host which) × NameFits host which
LeftIs (in_name host which name) left = (left ≡ name_left host which) × NameFits host which
LeftIs (name_ended host which name) left = (left ≡ name_left host which) × NameFits host which
LeftIs (type_opened parts) left = left ≡ inside 64 0
LeftIs (in_type parts kind) left = left ≡ inside 64 0
LeftIs (type_dashed parts kind) left = left ≡ inside 64 0
LeftIs (stepping heads) left = left ≡ inside 64 0
LeftIs (dashed heads) left = left ≡ inside 64 0
LeftIs (arrow heads) left = left ≡ inside 64 0
LeftIs (function_named heads function) left = left ≡ inside 64 0
LeftIs (function_ended heads function) left = left ≡ inside 64 0
LeftIs (args_opened heads function) left = left ≡ inside 64 1
LeftIs (arg_ended heads function args) left = left ≡ inside 64 1
LeftIs (arg_wanted heads function args) left = left ≡ inside 64 1
LeftIs (separator_wanted heads) left = left ≡ inside 64 0
LeftIs (separator_ended heads pieces) left = left ≡ inside 64 0
LeftIs (property_opened parts) left = left ≡ inside 36 0
LeftIs (build_opened parts more) left = (left ≡ inside 36 0) × InnerBytes more
LeftIs (call_wanted heads) left = left ≡ inside 36 0
LeftIs (call_named heads function) left = left ≡ inside 36 0
LeftIs (call_ended heads function) left = left ≡ inside 36 0
LeftIs (called heads) left = left ≡ inside 36 0
LeftIs (call_arg_wanted a spaced) left = left ≡ inside 36 1
LeftIs (call_arg_ended a) left = left ≡ inside 36 1

-- whether a byte there stands in a property reference
abbrev pub in_property : Mode → Bool
in_property (in_text (whole parts) plain mark) = false
in_property (in_text (inner place pieces) plain mark) = is_in_property (place_left place)
in_property (name_opened host which) = is_in_property (name_left host which)
in_property (in_name host which name) = is_in_property (name_left host which)
in_property (name_ended host which name) = is_in_property (name_left host which)
in_property (property_opened parts) = true
in_property (build_opened parts more) = true
in_property (call_wanted heads) = true
in_property (call_named heads function) = true
in_property (call_ended heads function) = true
in_property (called heads) = true
in_property (call_arg_wanted a spaced) = true
in_property (call_arg_ended a) = true
in_property _ = false

pub property_is : (mode : Mode) (left : Left) → LeftIs mode left
    → is_in_property left ≡ in_property mode
property_is (in_text (whole parts) plain mark) left h = ap is_in_property h.1
property_is (in_text (inner place pieces) plain mark) left h = ap is_in_property h
property_is (name_opened host which) left h = ap is_in_property h.0
property_is (in_name host which name) left h = ap is_in_property h.0
property_is (name_ended host which name) left h = ap is_in_property h.0
property_is (build_opened parts more) left h = ap is_in_property h.0
property_is _ left h = ap is_in_property h

-- sorts of bytes that neither open nor close
abbrev stays : Sort → Bool
stays Quote = false
stays Open = false
stays Close = false
stays _ = true

other : (b k : ℕ) (sort : Sort) → sort_of b ≡ sort → stays sort ≡ true → stays (sort_of k) ≡ false
    → eqb b k ≡ false
other b k sort e s d = other_byte b k (λ h. false≢true (sym d ∙ ap stays (sym h ∙ e) ∙ s))

inside_stays : (mark depth b : ℕ) (sort : Sort) → sort_of b ≡ sort → stays sort ≡ true
    → left_behind (inside mark depth) b ≡ inside mark depth
inside_stays mark depth b sort e s =
    rw (other b 39 sort e s refl, other b 40 sort e s refl, other b 41 sort e s refl) refl

quotes_stay : (mark depth b : ℕ) → eqb b 39 ≡ false
    → left_behind (in_quotes mark depth) b ≡ in_quotes mark depth
quotes_stay mark depth b e = rw e refl

place_stays : (place : Place) (b : ℕ) (sort : Sort) → sort_of b ≡ sort → stays sort ≡ true
    → left_behind (place_left place) b ≡ place_left place
place_stays (in_transform heads) b sort e s = quotes_stay 64 0 b (other b 39 sort e s refl)
place_stays (in_separator heads) b sort e s = quotes_stay 64 0 b (other b 39 sort e s refl)
place_stays (in_argument heads function args) b sort e s =
    quotes_stay 64 1 b (other b 39 sort e s refl)
place_stays (in_call a) b sort e s = quotes_stay 36 1 b (other b 39 sort e s refl)
place_stays (in_loose a) b sort e s = inside_stays 36 1 b sort e s

piece_stays : (place : Place) (b : ℕ) (sort : Sort) → sort_of b ≡ sort → stays sort ≡ true
    → left_behind (piece_left place) b ≡ piece_left place
piece_stays (in_transform heads) b sort e s = quotes_stay 64 0 b (other b 39 sort e s refl)
piece_stays (in_separator heads) b sort e s = quotes_stay 64 0 b (other b 39 sort e s refl)
piece_stays (in_argument heads function args) b sort e s =
    quotes_stay 64 1 b (other b 39 sort e s refl)
piece_stays (in_call a) b sort e s = quotes_stay 36 1 b (other b 39 sort e s refl)
piece_stays (in_loose a) b sort e s = inside_stays 36 2 b sort e s

name_stays : (host : Host) (which : Named) (b : ℕ) (sort : Sort) → sort_of b ≡ sort
    → stays sort ≡ true
    → left_behind (name_left host which) b ≡ name_left host which
name_stays (whole parts) property b sort e s = inside_stays 36 0 b sort e s
name_stays (whole parts) metadata b sort e s = inside_stays 37 0 b sort e s
name_stays (whole parts) (qualified kind) b sort e s = inside_stays 37 0 b sort e s
name_stays (inner place pieces) which b sort e s = piece_stays place b sort e s

abbrev KeepsLeft : Next → Left → ℕ → Type 0
KeepsLeft next left b = Keeps next (λ mode. LeftIs mode (left_behind left b))

-- text
common_left : (parts : List Part) (plain : List ℕ) (last b : ℕ) (sort : Sort) → sort_of b ≡ sort
    → is_common sort ≡ true
    → LeftIs (in_text (whole parts) plain unmarked) (left_behind (outside last) b)
common_left parts plain last b sort e c = (
  b,
  rw (uncommon b 40 sort e c refl) refl,
  rw (uncommon b 36 sort e c refl, uncommon b 37 sort e c refl, uncommon b 64 sort e c refl) refl,
)

whole_open : (parts : List Part) (plain : List ℕ) (mark : Mark) (last : ℕ) → LastIs mark last
    → KeepsLeft (open_step (whole parts) plain mark) (outside last) 40
whole_open parts plain unmarked last m = (40, rw m refl, refl)
whole_open parts plain dollar last m = ap (λ l. left_behind (outside l) 40) m
whole_open parts plain percent last m = (ap (λ l. left_behind (outside l) 40) m, tt)
whole_open parts plain at_sign last m = ap (λ l. left_behind (outside l) 40) m

from : (left given : Left) (next : Next) (b : ℕ) → left ≡ given → KeepsLeft next given b
    → KeepsLeft next left b
from left given next b e h = subst (λ l. KeepsLeft next l b) (sym e) h

at_byte : (next : Next) (left : Left) (b k : ℕ) → b ≡ k → KeepsLeft next left k
    → KeepsLeft next left b
at_byte next left b k f h = subst (λ c. KeepsLeft next left c) (sym f) h

whole_left : (parts : List Part) (plain : List ℕ) (mark : Mark) (last : ℕ) (sort : Sort) (b : ℕ)
    → sort_of b ≡ sort → SortIs sort b
    → LastIs mark last → KeepsLeft (text_step (whole parts) plain mark sort b) (outside last) b
whole_left parts plain mark last Dollar b e f m =
    at_byte (text_step (whole parts) plain mark Dollar b) (outside last) b 36 f (36, refl, refl)
whole_left parts plain mark last Percent b e f m =
    at_byte (text_step (whole parts) plain mark Percent b) (outside last) b 37 f (37, refl, refl)
whole_left parts plain mark last At b e f m =
    at_byte (text_step (whole parts) plain mark At b) (outside last) b 64 f (64, refl, refl)
whole_left parts plain mark last Quote b e f m =
    at_byte (text_step (whole parts) plain mark Quote b) (outside last) b 39 f (39, refl, refl)
whole_left parts plain mark last Open b e f m =
    at_byte (text_step (whole parts) plain mark Open b) (outside last) b 40 f
    (whole_open parts plain mark last m)
whole_left parts plain mark last End b e f m = absurd f
whole_left parts plain mark last Letter b e f m = common_left parts [] last b Letter e refl
whole_left parts plain mark last Digit b e f m = common_left parts [] last b Digit e refl
whole_left parts plain mark last Dash b e f m = common_left parts [] last b Dash e refl
whole_left parts plain mark last Space b e f m = common_left parts [] last b Space e refl
whole_left parts plain mark last Close b e f m = common_left parts [] last b Close e refl
whole_left parts plain mark last Comma b e f m = common_left parts [] last b Comma e refl
whole_left parts plain mark last Dot b e f m = common_left parts [] last b Dot e refl
whole_left parts plain mark last Greater b e f m = common_left parts [] last b Greater e refl
whole_left parts plain mark last Bracket b e f m = common_left parts [] last b Bracket e refl
whole_left parts plain mark last Other b e f m = common_left parts [] last b Other e refl

opened_stays : (place : Place) → (place_inside place ≡ Loose → ⊥)
    → left_behind (place_left place) 40 ≡ place_left place
opened_stays (in_transform heads) n = refl
opened_stays (in_separator heads) n = refl
opened_stays (in_argument heads function args) n = refl
opened_stays (in_call a) n = refl
opened_stays (in_loose a) n = absurd (n refl)

dollar_left : (place : Place) → left_behind (place_left place) 40 ≡ piece_left place
dollar_left (in_transform heads) = refl
dollar_left (in_separator heads) = refl
dollar_left (in_argument heads function args) = refl
dollar_left (in_call a) = refl
dollar_left (in_loose a) = refl

inner_open : (place : Place) (pieces : List Piece) (plain : List ℕ) (mark : Mark)
    → KeepsLeft (open_step (inner place pieces) plain mark) (place_left place) 40
inner_open place pieces plain unmarked =
    unless_keeps (place_inside place) _ (λ mode. LeftIs mode (left_behind (place_left place) 40))
    (λ n. opened_stays place n)
inner_open place pieces plain dollar = (dollar_left place, tt)
inner_open (in_transform heads) pieces plain percent = (refl, refl)
inner_open (in_separator heads) pieces plain percent = refl
inner_open (in_argument heads function args) pieces plain percent = refl
inner_open (in_call a) pieces plain percent = refl
inner_open (in_loose a) pieces plain percent = tt
inner_open (in_transform heads) pieces plain at_sign = tt
inner_open (in_separator heads) pieces plain at_sign = refl
inner_open (in_argument heads function args) pieces plain at_sign = refl
inner_open (in_call a) pieces plain at_sign = refl
inner_open (in_loose a) pieces plain at_sign = tt

inner_quote : (place : Place) (pieces : List Piece) (plain : List ℕ)
    → KeepsLeft (quote_step (inner place pieces) plain) (place_left place) 39
inner_quote (in_transform heads) pieces plain = refl
inner_quote (in_separator heads) pieces plain = refl
inner_quote (in_argument heads function args) pieces plain = refl
inner_quote (in_call a) pieces plain = refl
inner_quote (in_loose a) pieces plain = tt

call_arg_ended_left : (a : Arguments) (sort : Sort) (b : ℕ) → sort_of b ≡ sort → SortIs sort b
    → KeepsLeft (call_arg_ended_step a sort) (inside 36 1) b
call_arg_ended_left a Space b e f = inside_stays 36 1 b Space e refl
call_arg_ended_left a Comma b e f = inside_stays 36 1 b Comma e refl
call_arg_ended_left a Close b e f = ap (left_behind (inside 36 1)) f
call_arg_ended_left a _ b e f = tt

part_no_quote : (b : ℕ) (sort : Sort) → sort_of b ≡ sort → ends_argument sort ≡ true
    → eqb b 39 ≡ false
part_no_quote b Comma e p = other_byte b 39 (λ k. let z = sym e ∙ k in cc)
part_no_quote b Close e p = other_byte b 39 (λ k. let z = sym e ∙ k in cc)
part_no_quote b _ e p = cc

inner_part : (place : Place) (pieces : List Piece) (plain : List ℕ) (sort : Sort) (b : ℕ)
    → sort_of b ≡ sort → SortIs sort b
    → ends_argument sort ≡ true
    → KeepsLeft (part_step (inner place pieces) plain sort b) (place_left place) b
inner_part (in_transform heads) pieces plain sort b e f p =
    quotes_stay 64 0 b (part_no_quote b sort e p)
inner_part (in_separator heads) pieces plain sort b e f p =
    quotes_stay 64 0 b (part_no_quote b sort e p)
inner_part (in_argument heads function args) pieces plain sort b e f p =
    quotes_stay 64 1 b (part_no_quote b sort e p)
inner_part (in_call a) pieces plain sort b e f p = quotes_stay 36 1 b (part_no_quote b sort e p)
inner_part (in_loose a) pieces plain sort b e f p = call_arg_ended_left _ sort b e f

inner_left : (place : Place) (pieces : List Piece) (plain : List ℕ) (mark : Mark) (sort : Sort)
    (b : ℕ) → sort_of b ≡ sort → SortIs sort b
    → KeepsLeft (text_step (inner place pieces) plain mark sort b) (place_left place) b
inner_left place pieces plain mark Dollar b e f = place_stays place b Dollar e refl
inner_left place pieces plain mark Percent b e f =
    unless_keeps (place_inside place) _ (λ mode. LeftIs mode (left_behind (place_left place) b))
    (λ n. place_stays place b Percent e refl)
inner_left place pieces plain mark At b e f =
    unless_keeps (place_inside place) _ (λ mode. LeftIs mode (left_behind (place_left place) b))
    (λ n. place_stays place b At e refl)
inner_left place pieces plain mark Quote b e f =
    at_byte (quote_step (inner place pieces) (settled plain mark)) (place_left place) b 39 f
    (inner_quote place pieces (settled plain mark))
inner_left place pieces plain mark Open b e f =
    at_byte (open_step (inner place pieces) plain mark) (place_left place) b 40 f
    (inner_open place pieces plain mark)
inner_left place pieces plain mark Close b e f =
    inner_part place pieces (settled plain mark) Close b e f refl
inner_left place pieces plain mark Comma b e f =
    inner_part place pieces (settled plain mark) Comma b e f refl
inner_left place pieces plain mark End b e f = absurd f
inner_left place pieces plain mark Letter b e f = place_stays place b Letter e refl
inner_left place pieces plain mark Digit b e f = place_stays place b Digit e refl
inner_left place pieces plain mark Dash b e f = place_stays place b Dash e refl
inner_left place pieces plain mark Space b e f = place_stays place b Space e refl
inner_left place pieces plain mark Dot b e f = place_stays place b Dot e refl
inner_left place pieces plain mark Greater b e f = place_stays place b Greater e refl
inner_left place pieces plain mark Bracket b e f = place_stays place b Bracket e refl
inner_left place pieces plain mark Other b e f = place_stays place b Other e refl

-- names
close_piece : (place : Place) → left_behind (piece_left place) 41 ≡ place_left place
close_piece (in_transform heads) = refl
close_piece (in_separator heads) = refl
close_piece (in_argument heads function args) = refl
close_piece (in_call a) = refl
close_piece (in_loose a) = refl

close_name : (host : Host) (which : Named) (name : List ℕ)
    → LeftIs (in_text (referred host which name) [] unmarked)
    (left_behind (name_left host which) 41)
close_name (whole parts) property name = (41, refl, refl)
close_name (whole parts) metadata name = (41, refl, refl)
close_name (whole parts) (qualified kind) name = (41, refl, refl)
close_name (inner place pieces) property name = close_piece place
close_name (inner place pieces) metadata name = close_piece place
close_name (inner place pieces) (qualified kind) name = close_piece place

dot_left : (host : Host) (which : Named) (name : List ℕ)
    → KeepsLeft (dot_step host which name) (name_left host which) 46
dot_left (whole parts) property name = refl
dot_left (whole parts) metadata name = (refl, tt)
dot_left (whole parts) (qualified kind) name = tt
dot_left (inner place pieces) property name = tt
dot_left (inner place pieces) metadata name = tt
dot_left (inner place pieces) (qualified kind) name = tt

name_opened_left : (host : Host) (which : Named) (sort : Sort) (b : ℕ) → sort_of b ≡ sort
    → NameFits host which
    → KeepsLeft (name_opened_step host which sort b) (name_left host which) b
name_opened_left host which Space b e n = (name_stays host which b Space e refl, n)
name_opened_left host which Letter b e n = (name_stays host which b Letter e refl, n)
name_opened_left host which _ b e n = tt

name_ended_left : (host : Host) (which : Named) (name : List ℕ) (sort : Sort) (b : ℕ)
    → sort_of b ≡ sort → SortIs sort b
    → NameFits host which
    → KeepsLeft (name_ended_step host which name sort) (name_left host which) b
name_ended_left host which name Space b e f n = (name_stays host which b Space e refl, n)
name_ended_left host which name Close b e f n =
    at_byte (name_ended_step host which name Close) (name_left host which) b 41 f
    (close_name host which name)
name_ended_left host which name Dot b e f n =
    at_byte (dot_step host which name) (name_left host which) b 46 f (dot_left host which name)
name_ended_left host which name _ b e f n = tt

in_name_left : (host : Host) (which : Named) (name : List ℕ) (sort : Sort) (b : ℕ)
    → sort_of b ≡ sort → SortIs sort b
    → NameFits host which → KeepsLeft (in_name_step host which name sort b) (name_left host which) b
in_name_left host which name Letter b e f n = (name_stays host which b Letter e refl, n)
in_name_left host which name Digit b e f n = (name_stays host which b Digit e refl, n)
in_name_left host which name Dash b e f n = (name_stays host which b Dash e refl, n)
in_name_left host which name Space b e f n = name_ended_left host which name Space b e f n
in_name_left host which name Close b e f n = name_ended_left host which name Close b e f n
in_name_left host which name Dot b e f n = name_ended_left host which name Dot b e f n
in_name_left host which name _ b e f n = tt

-- item references
stepping_left : (heads : Heads) (sort : Sort) (b : ℕ) → sort_of b ≡ sort → SortIs sort b
    → KeepsLeft (stepping_step heads sort) (inside 64 0) b
stepping_left heads Space b e f = inside_stays 64 0 b Space e refl
stepping_left heads Dash b e f = inside_stays 64 0 b Dash e refl
stepping_left heads Comma b e f = inside_stays 64 0 b Comma e refl
stepping_left heads Close b e f =
    at_byte (stepping_step heads Close) (inside 64 0) b 41 f (41, refl, refl)
stepping_left heads _ b e f = tt

in_type_left : (parts : List Part) (kind : List ℕ) (sort : Sort) (b : ℕ) → sort_of b ≡ sort
    → SortIs sort b
    → KeepsLeft (in_type_step parts kind sort b) (inside 64 0) b
in_type_left parts kind Letter b e f = inside_stays 64 0 b Letter e refl
in_type_left parts kind Digit b e f = inside_stays 64 0 b Digit e refl
in_type_left parts kind Dash b e f = inside_stays 64 0 b Dash e refl
in_type_left parts kind Space b e f = stepping_left (heads_of parts kind) Space b e f
in_type_left parts kind Comma b e f = stepping_left (heads_of parts kind) Comma b e f
in_type_left parts kind Close b e f = stepping_left (heads_of parts kind) Close b e f
in_type_left parts kind _ b e f = tt

type_dashed_left : (parts : List Part) (kind : List ℕ) (sort : Sort) (b : ℕ) → sort_of b ≡ sort
    → SortIs sort b
    → KeepsLeft (type_dashed_step parts kind sort b) (inside 64 0) b
type_dashed_left parts kind Greater b e f = inside_stays 64 0 b Greater e refl
type_dashed_left parts kind sort b e f = in_type_left parts (kind ++ 45 ∷ []) sort b e f

type_opened_left : (parts : List Part) (sort : Sort) (b : ℕ) → sort_of b ≡ sort
    → KeepsLeft (type_opened_step parts sort b) (inside 64 0) b
type_opened_left parts Space b e = inside_stays 64 0 b Space e refl
type_opened_left parts Letter b e = inside_stays 64 0 b Letter e refl
type_opened_left parts _ b e = tt

dashed_left : (heads : Heads) (sort : Sort) (b : ℕ) → sort_of b ≡ sort
    → KeepsLeft (dashed_step heads sort) (inside 64 0) b
dashed_left heads Greater b e = inside_stays 64 0 b Greater e refl
dashed_left heads _ b e = tt

arrow_left : (heads : Heads) (sort : Sort) (b : ℕ) → sort_of b ≡ sort → SortIs sort b
    → KeepsLeft (arrow_step heads sort b) (inside 64 0) b
arrow_left heads Space b e f = inside_stays 64 0 b Space e refl
arrow_left heads Quote b e f = ap (left_behind (inside 64 0)) f
arrow_left heads Letter b e f = inside_stays 64 0 b Letter e refl
arrow_left heads _ b e f = tt

function_ended_left : (heads : Heads) (function : List ℕ) (sort : Sort) (b : ℕ) → sort_of b ≡ sort
    → SortIs sort b
    → KeepsLeft (function_ended_step heads function sort) (inside 64 0) b
function_ended_left heads function Space b e f = inside_stays 64 0 b Space e refl
function_ended_left heads function Open b e f = ap (left_behind (inside 64 0)) f
function_ended_left heads function _ b e f = tt

function_named_left : (heads : Heads) (function : List ℕ) (sort : Sort) (b : ℕ) → sort_of b ≡ sort
    → SortIs sort b
    → KeepsLeft (function_named_step heads function sort b) (inside 64 0) b
function_named_left heads function Letter b e f = inside_stays 64 0 b Letter e refl
function_named_left heads function Digit b e f = inside_stays 64 0 b Digit e refl
function_named_left heads function Dash b e f = inside_stays 64 0 b Dash e refl
function_named_left heads function Space b e f = function_ended_left heads function Space b e f
function_named_left heads function Open b e f = function_ended_left heads function Open b e f
function_named_left heads function _ b e f = tt

args_opened_left : (heads : Heads) (function : List ℕ) (sort : Sort) (b : ℕ) → sort_of b ≡ sort
    → SortIs sort b
    → KeepsLeft (args_opened_step heads function sort) (inside 64 1) b
args_opened_left heads function Space b e f = inside_stays 64 1 b Space e refl
args_opened_left heads function Quote b e f = ap (left_behind (inside 64 1)) f
args_opened_left heads function Close b e f = ap (left_behind (inside 64 1)) f
args_opened_left heads function _ b e f = tt

arg_ended_left : (heads : Heads) (function : List ℕ) (args : List (List Piece)) (sort : Sort)
    (b : ℕ) → sort_of b ≡ sort → SortIs sort b
    → KeepsLeft (arg_ended_step heads function args sort) (inside 64 1) b
arg_ended_left heads function args Space b e f = inside_stays 64 1 b Space e refl
arg_ended_left heads function args Comma b e f = inside_stays 64 1 b Comma e refl
arg_ended_left heads function args Close b e f = ap (left_behind (inside 64 1)) f
arg_ended_left heads function args _ b e f = tt

arg_wanted_left : (heads : Heads) (function : List ℕ) (args : List (List Piece)) (sort : Sort)
    (b : ℕ) → sort_of b ≡ sort → SortIs sort b
    → KeepsLeft (arg_wanted_step heads function args sort) (inside 64 1) b
arg_wanted_left heads function args Space b e f = inside_stays 64 1 b Space e refl
arg_wanted_left heads function args Quote b e f = ap (left_behind (inside 64 1)) f
arg_wanted_left heads function args _ b e f = tt

separator_wanted_left : (heads : Heads) (sort : Sort) (b : ℕ) → sort_of b ≡ sort → SortIs sort b
    → KeepsLeft (separator_wanted_step heads sort) (inside 64 0) b
separator_wanted_left heads Space b e f = inside_stays 64 0 b Space e refl
separator_wanted_left heads Quote b e f = ap (left_behind (inside 64 0)) f
separator_wanted_left heads _ b e f = tt

separator_ended_left : (heads : Heads) (pieces : List Piece) (sort : Sort) (b : ℕ)
    → sort_of b ≡ sort → SortIs sort b
    → KeepsLeft (separator_ended_step heads pieces sort) (inside 64 0) b
separator_ended_left heads pieces Space b e f = inside_stays 64 0 b Space e refl
separator_ended_left heads pieces Close b e f =
    at_byte (separator_ended_step heads pieces Close) (inside 64 0) b 41 f (41, refl, refl)
separator_ended_left heads pieces _ b e f = tt

-- calls of property functions
same : (x y : ℕ) → x ≡ y → eqb x y ≡ true
same x y e = grind (arith, nat_tests)

marker_inner : InnerBytes (109 ∷ 115 ∷ 98 ∷ 117 ∷ 105 ∷ 108 ∷ 100 ∷ 93 ∷ 58 ∷ 58 ∷ [])
marker_inner = (
  refl,
  refl,
  refl,
  (
    refl,
    refl,
    refl,
    (
      refl,
      refl,
      refl,
      (
        refl,
        refl,
        refl,
        (
          refl,
          refl,
          refl,
          (
            refl,
            refl,
            refl,
            (refl, refl, refl, (refl, refl, refl, (refl, refl, refl, (refl, refl, refl, tt)))),
          ),
        ),
      ),
    ),
  ),
)

property_opened_left : (parts : List Part) (sort : Sort) (b : ℕ) → sort_of b ≡ sort
    → KeepsLeft (property_opened_step parts sort b) (inside 36 0) b
property_opened_left parts Bracket b e = (inside_stays 36 0 b Bracket e refl, marker_inner)
property_opened_left parts sort b e = name_opened_left (whole parts) property sort b e tt

lower_apart : (b k wanted : ℕ) → to_ascii_lowercase b ≡ wanted → to_ascii_lowercase k ≡ k
    → eqb wanted k ≡ false → eqb b k ≡ false
lower_apart b k wanted e l n = by (eqb b k) refl
  where
    by : (t : Bool) → eqb b k ≡ t → t ≡ false
    by true h =
        absurd (false≢true
        (sym n ∙ same wanted k (sym e ∙ ap to_ascii_lowercase (eqb-true b k h) ∙ l)))
    by false h = refl

build_next_left : (parts : List Part) (more : List ℕ) (left : Left) → left ≡ inside 36 0
    → InnerBytes more
    → LeftIs (build_next parts more) left
build_next_left parts [] left e i = e
build_next_left parts (wanted ∷ more) left e i = (e, i)

build_opened_left : (parts : List Part) (more : List ℕ) (b : ℕ) → InnerBytes more
    → KeepsLeft (build_opened_step parts more b) (inside 36 0) b
build_opened_left parts [] b i = tt
build_opened_left parts (wanted ∷ more) b i = by (to_ascii_lowercase b == wanted) refl
  where
    stay : to_ascii_lowercase b ≡ wanted → left_behind (inside 36 0) b ≡ inside 36 0
    stay e =
        rw (
          lower_apart b 39 wanted e refl i.0,
          lower_apart b 40 wanted e refl i.1,
          lower_apart b 41 wanted e refl i.2,
        ) refl

    by : (t : Bool) → (to_ascii_lowercase b == wanted) ≡ t
        → KeepsLeft (go_if t (build_next parts more))
        (inside 36 0) b
    by true e =
        build_next_left parts more (left_behind (inside 36 0) b)
        (stay (eqb-true (to_ascii_lowercase b) wanted e)) i.3
    by false e = tt

call_wanted_left : (heads : CallHeads) (sort : Sort) (b : ℕ) → sort_of b ≡ sort
    → KeepsLeft (call_wanted_step heads sort b) (inside 36 0) b
call_wanted_left heads Space b e = inside_stays 36 0 b Space e refl
call_wanted_left heads Letter b e = inside_stays 36 0 b Letter e refl
call_wanted_left heads _ b e = tt

at_close : (b : ℕ) → b ≡ 41 → (last : ℕ) × (left_behind (inside 36 0) b ≡ outside last)
    × (is_mark last ≡ false)
at_close b f = (41, ap (left_behind (inside 36 0)) f, refl)

call_ended_left : (heads : CallHeads) (function : List ℕ) (sort : Sort) (b : ℕ) → sort_of b ≡ sort
    → SortIs sort b
    → KeepsLeft (call_ended_step heads function sort) (inside 36 0) b
call_ended_left heads function Space b e f = inside_stays 36 0 b Space e refl
call_ended_left heads function Open b e f = ap (left_behind (inside 36 0)) f
call_ended_left heads function Dot b e f =
    unless_first_keeps heads _ (λ mode. LeftIs mode (left_behind (inside 36 0) b))
    (λ m. inside_stays 36 0 b Dot e refl)
call_ended_left heads function Close b e f =
    unless_first_keeps heads _ (λ mode. LeftIs mode (left_behind (inside 36 0) b))
    (λ m. at_close b f)
call_ended_left heads function _ b e f = tt

call_named_left : (heads : CallHeads) (function : List ℕ) (sort : Sort) (b : ℕ) → sort_of b ≡ sort
    → SortIs sort b
    → KeepsLeft (call_named_step heads function sort b) (inside 36 0) b
call_named_left heads function Letter b e f = inside_stays 36 0 b Letter e refl
call_named_left heads function Digit b e f = inside_stays 36 0 b Digit e refl
call_named_left heads function Dash b e f = inside_stays 36 0 b Dash e refl
call_named_left heads function Space b e f = call_ended_left heads function Space b e f
call_named_left heads function Open b e f = call_ended_left heads function Open b e f
call_named_left heads function Dot b e f = call_ended_left heads function Dot b e f
call_named_left heads function Close b e f = call_ended_left heads function Close b e f
call_named_left heads function _ b e f = tt

called_left : (heads : CallHeads) (sort : Sort) (b : ℕ) → sort_of b ≡ sort → SortIs sort b
    → KeepsLeft (called_step heads sort) (inside 36 0) b
called_left heads Space b e f = inside_stays 36 0 b Space e refl
called_left heads Dot b e f = inside_stays 36 0 b Dot e refl
called_left heads Close b e f = (41, ap (left_behind (inside 36 0)) f, refl)
called_left heads _ b e f = tt

blank_closed_left : (a : Arguments) (args : List (List Piece)) (spaced : Bool) (b : ℕ) → b ≡ 41
    → KeepsLeft (blank_closed a args spaced) (inside 36 1) b
blank_closed_left a [] spaced b f = ap (left_behind (inside 36 1)) f
blank_closed_left a (arg ∷ args) true b f = ap (left_behind (inside 36 1)) f
blank_closed_left a (arg ∷ args) false b f = tt

blank_listed_left : (a : Arguments) (spaced : Bool) (b : ℕ) → sort_of b ≡ Comma
    → KeepsLeft (blank_listed a spaced) (inside 36 1) b
blank_listed_left a true b e = inside_stays 36 1 b Comma e refl
blank_listed_left a false b e = tt

call_arg_wanted_left : (a : Arguments) (spaced : Bool) (sort : Sort) (b : ℕ) → sort_of b ≡ sort
    → SortIs sort b
    → KeepsLeft (call_arg_wanted_step a spaced sort b) (inside 36 1) b
call_arg_wanted_left a spaced Space b e f = inside_stays 36 1 b Space e refl
call_arg_wanted_left a spaced Quote b e f = ap (left_behind (inside 36 1)) f
call_arg_wanted_left a spaced Close b e f = blank_closed_left a a.args spaced b f
call_arg_wanted_left a spaced Comma b e f = blank_listed_left a spaced b e
call_arg_wanted_left a spaced sort b e f = inner_left (in_loose a) [] [] unmarked sort b e f

mode_left : (mode : Mode) (left : Left) (sort : Sort) (b : ℕ) → sort_of b ≡ sort → SortIs sort b
    → LeftIs mode left
    → KeepsLeft (step_of mode sort b) left b
mode_left (in_text (whole parts) plain mark) left sort b e f h =
    from left (outside h.0) (step_of (in_text (whole parts) plain mark) sort b) b h.1
    (whole_left parts plain mark h.0 sort b e f h.2)
mode_left (in_text (inner place pieces) plain mark) left sort b e f h =
    from left _ (step_of (in_text (inner place pieces) plain mark) sort b) b h
    (inner_left place pieces plain mark sort b e f)
mode_left (name_opened host which) left sort b e f h =
    from left _ (step_of (name_opened host which) sort b) b h.0
    (name_opened_left host which sort b e h.1)
mode_left (in_name host which name) left sort b e f h =
    from left _ (step_of (in_name host which name) sort b) b h.0
    (in_name_left host which name sort b e f h.1)
mode_left (name_ended host which name) left sort b e f h =
    from left _ (step_of (name_ended host which name) sort b) b h.0
    (name_ended_left host which name sort b e f h.1)
mode_left (type_opened parts) left sort b e f h =
    from left _ (step_of (type_opened parts) sort b) b h (type_opened_left parts sort b e)
mode_left (in_type parts kind) left sort b e f h =
    from left _ (step_of (in_type parts kind) sort b) b h (in_type_left parts kind sort b e f)
mode_left (type_dashed parts kind) left sort b e f h =
    from left _ (step_of (type_dashed parts kind) sort b) b h
    (type_dashed_left parts kind sort b e f)
mode_left (stepping heads) left sort b e f h =
    from left _ (step_of (stepping heads) sort b) b h (stepping_left heads sort b e f)
mode_left (dashed heads) left sort b e f h =
    from left _ (step_of (dashed heads) sort b) b h (dashed_left heads sort b e)
mode_left (arrow heads) left sort b e f h =
    from left _ (step_of (arrow heads) sort b) b h (arrow_left heads sort b e f)
mode_left (function_named heads function) left sort b e f h =
    from left _ (step_of (function_named heads function) sort b) b h
    (function_named_left heads function sort b e f)
mode_left (function_ended heads function) left sort b e f h =
    from left _ (step_of (function_ended heads function) sort b) b h
    (function_ended_left heads function sort b e f)
mode_left (args_opened heads function) left sort b e f h =
    from left _ (step_of (args_opened heads function) sort b) b h
    (args_opened_left heads function sort b e f)
mode_left (arg_ended heads function args) left sort b e f h =
    from left _ (step_of (arg_ended heads function args) sort b) b h
    (arg_ended_left heads function args sort b e f)
mode_left (arg_wanted heads function args) left sort b e f h =
    from left _ (step_of (arg_wanted heads function args) sort b) b h
    (arg_wanted_left heads function args sort b e f)
mode_left (separator_wanted heads) left sort b e f h =
    from left _ (step_of (separator_wanted heads) sort b) b h
    (separator_wanted_left heads sort b e f)
mode_left (separator_ended heads pieces) left sort b e f h =
    from left _ (step_of (separator_ended heads pieces) sort b) b h
    (separator_ended_left heads pieces sort b e f)
mode_left (property_opened parts) left sort b e f h =
    from left _ (step_of (property_opened parts) sort b) b h (property_opened_left parts sort b e)
mode_left (build_opened parts more) left sort b e f h =
    from left _ (step_of (build_opened parts more) sort b) b h.0
    (build_opened_left parts more b h.1)
mode_left (call_wanted heads) left sort b e f h =
    from left _ (step_of (call_wanted heads) sort b) b h (call_wanted_left heads sort b e)
mode_left (call_named heads function) left sort b e f h =
    from left _ (step_of (call_named heads function) sort b) b h
    (call_named_left heads function sort b e f)
mode_left (call_ended heads function) left sort b e f h =
    from left _ (step_of (call_ended heads function) sort b) b h
    (call_ended_left heads function sort b e f)
mode_left (called heads) left sort b e f h =
    from left _ (step_of (called heads) sort b) b h (called_left heads sort b e f)
mode_left (call_arg_wanted a spaced) left sort b e f h =
    from left _ (step_of (call_arg_wanted a spaced) sort b) b h
    (call_arg_wanted_left a spaced sort b e f)
mode_left (call_arg_ended a) left sort b e f h =
    from left _ (step_of (call_arg_ended a) sort b) b h (call_arg_ended_left a sort b e f)

pub step_left : (mode : Mode) (left : Left) (b : ℕ) → LeftIs mode left
    → KeepsLeft (step_of mode (sort_of b) b) left b
step_left mode left b h = mode_left mode left (sort_of b) b refl (sort_is b) h

-- metadata stand in no property reference
pub metadata_outside : (host : Host) (which : Named) → NameFits host which
    → is_metadata which ≡ true
    → is_in_property (name_left host which) ≡ false
metadata_outside (whole parts) property n m = cc
metadata_outside (whole parts) metadata n m = refl
metadata_outside (whole parts) (qualified kind) n m = refl
metadata_outside (inner (in_transform heads) pieces) which n m = refl
metadata_outside (inner (in_separator heads) pieces) which n m = refl
metadata_outside (inner (in_argument heads function args) pieces) which n m = refl
metadata_outside (inner (in_call a) pieces) property n m = cc
metadata_outside (inner (in_call a) pieces) metadata n m = cc
metadata_outside (inner (in_call a) pieces) (qualified kind) n m = absurd n
metadata_outside (inner (in_loose a) pieces) property n m = cc
metadata_outside (inner (in_loose a) pieces) metadata n m = cc
metadata_outside (inner (in_loose a) pieces) (qualified kind) n m = absurd n
