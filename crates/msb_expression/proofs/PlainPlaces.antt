-- Plain text between two places of a text.
use Rattle.std.proofs.Common.{
  ◌≡◌,
  ℕ,
  zero,
  suc,
  ◌+◌,
  ◌-◌,
  ◌<◌,
  ◌≤◌,
  true,
  false,
  List,
  [],
  ◌∷◌,
  ◌++◌,
  length,
  take,
  drop,
  get_or,
  refl,
  sym,
  ap,
  ◌∙◌,
  subst,
  arith,
  length-drop,
  length-append,
  ◌⊎◌,
  inl,
  inr,
}
use Rattle.std.specs.Str.{IsCharBoundary}
use Rattle.std.proofs.lemmas.List.{drop_more, take-append-drop, get_or_at}
use Rattle.std.proofs.lemmas.Str.{IsCharBoundary-before_ascii, IsCharBoundary-end}
use Rattle.msb_expression.specs.declared.starts.Inside.{Inside}
use Rattle.msb_expression.specs.declared.starts.Inside.TheVariants.{Loose}
use Rattle.msb_expression.specs.declared.sorts.Sort.{Sort}
use Rattle.msb_expression.specs.declared.sorts.Sort.TheVariants.{
  Quote,
  Open,
  Close,
  Comma,
  Percent,
  At,
}
use Rattle.msb_expression.specs.declared.sorts.Kind.TheVariants.{Name}
use Rattle.msb_expression.specs.declared.expression.Piece.{Piece}
use Rattle.msb_expression.specs.declared.starts.Start.{Start}
use Rattle.msb_expression.specs.declared.starts.Start.TheVariants as start
use Rattle.msb_expression.specs.Grammar.{IsPlain, begins_reference, is_end_quote}
use Rattle.msb_expression.specs.Machine.{
  ends_argument,
  sort_of,
  first_sort,
  Arguments,
  Place,
  in_transform,
  in_separator,
  in_argument,
  in_call,
  in_loose,
  Host,
  whole,
  inner,
  Mark,
  unmarked,
  dollar,
  percent,
  at_sign,
  in_text,
  stop,
  place_inside,
  host_inside,
  spelled,
  flushed,
  flushed_pieces,
  settled,
  opened_start,
  text_step,
  run,
  refused,
  start_of,
}
use Rattle.msb_expression.proofs.PlainText.{ReadsMetadata, begins-front}
use Rattle.msb_expression.proofs.Bytes.{SortIs, sort_is}
use Rattle.msb_expression.proofs.Places.{run-refused}
use Rattle.msb_expression.proofs.RunsCalls.{over_stop}
use Rattle.msb_expression.proofs.StartsAt.{ReadsQuote, is_bad, StartIs, starts_at}
use Rattle.msb_expression.proofs.RunsText.{
  over_property,
  over_metadata,
  over_items,
  over_quote,
  over_end,
}
use Rattle.msb_expression.proofs.RunsPieces.{OverAt, OverFor, plain_part_runs}
use Rattle.msb_expression.proofs.NamePlaces.{split_between, length-between, get_or-between}

pub start_is : (inside : Inside) (bs : List ℕ) (here : Start) → start_of inside bs ≡ here
    → StartIs here inside bs
start_is inside bs here e = subst (λ s. StartIs s inside bs) e (starts_at inside bs)

-- there is a byte where plain text starts
pub plain_within : (inside : Inside) (bs : List ℕ) (n : ℕ)
    → start_of inside (drop n bs) ≡ start.Plain → n ≤ length bs → n < length bs
plain_within inside bs n e w =
    let p : StartIs start.Plain inside (drop n bs) = start_is inside (drop n bs) start.Plain e in
    let l = ap length p.2 in
    omega (arith, length-drop n bs)

pub plain_more : (inside : Inside) (bs : List ℕ) (at end : ℕ)
    → ((k : ℕ) → at ≤ k → k < end → start_of inside (drop k bs) ≡ start.Plain)
    → start_of inside (drop end bs) ≡ start.Plain → (k : ℕ) → at ≤ k → k < end + 1
    → start_of inside (drop k bs) ≡ start.Plain
plain_more inside bs at end h e k l m = by (split k end m)
  where
    split : (k end : ℕ) → k < end + 1 → (k < end) ⊎ (end ≡ k)
    split k end m = grind arith

    by : (k < end) ⊎ (end ≡ k) → start_of inside (drop k bs) ≡ start.Plain
    by (inl x) = h k l x
    by (inr x) = subst (λ n. start_of inside (drop n bs) ≡ start.Plain) x e

head_is : (b c : ℕ) (xs ys : List ℕ) → b ∷ xs ≡ c ∷ ys → b ≡ c
head_is b c xs ys e = cc

plain_taken : (inside : Inside) (bs : List ℕ) (n at : ℕ) → at + n ≤ length bs
    → ((k : ℕ) → at ≤ k → k < at + n → start_of inside (drop k bs) ≡ start.Plain)
    → IsPlain inside (take n (drop at bs))
plain_taken inside bs zero at w h = tt
plain_taken inside bs (suc n) at w h =
    let l : at < length bs = omega arith in
    let m : at + 1 + n ≤ length bs = omega arith in
    let b : ℕ = get_or bs at 0 in
    let r : List ℕ = drop (at + 1) bs in
    let shape : drop at bs ≡ b ∷ r = drop_more bs at 0 l in
    let here : StartIs start.Plain inside (drop at bs) = start_is inside (drop at bs) start.Plain
    (h at (omega arith) (omega arith)) in
    let begins : begins_reference inside (b ∷ r)
    ≡ false = ap (begins_reference inside) (sym shape ∙ here.2) ∙ here.3 in
    let front : begins_reference inside (b ∷ (take n r ++ drop n r))
    ≡ false = ap (λ t. begins_reference inside (b ∷ t)) (take-append-drop n r) ∙ begins in
    let quote : is_end_quote inside b ≡ false = ap (is_end_quote inside)
    (head_is b here.0 r here.1 (sym shape ∙ here.2)) ∙ here.4 in
    let more : IsPlain inside (take n r) = plain_taken inside bs n (at + 1) m
    (λ k x y. h k (omega arith) (omega arith)) in
    subst (λ t. IsPlain inside (take (suc n) t)) (sym shape)
    (begins-front inside b (take n r) (drop n r) front, quote, more)

pub plain_between : (inside : Inside) (bs : List ℕ) (at end : ℕ) → at ≤ end → end ≤ length bs
    → ((k : ℕ) → at ≤ k → k < end → start_of inside (drop k bs) ≡ start.Plain)
    → IsPlain inside (take (end - at) (drop at bs))
plain_between inside bs at end l w h = plain_taken inside bs (end - at) at (omega arith)
    (λ k x y. h k x (omega arith))

-- no `(` that stands behind a `$` at the end of the text
abbrev NoOpen : List ℕ → List ℕ → Type 0
NoOpen text bs = (front : List ℕ) → front ++ 36 ∷ [] ≡ text → first_sort bs ≡ Open → ⊥

no_open : (inside : Inside) (bs : List ℕ) (at end : ℕ) → at ≤ end → end ≤ length bs
    → ((k : ℕ) → at ≤ k → k < end → start_of inside (drop k bs) ≡ start.Plain)
    → NoOpen (take (end - at) (drop at bs)) (drop end bs)
no_open inside bs at end l w h front e o =
    let count : end - at ≡ length front + 1 =
    sym (length-between bs at end l w) ∙ sym (ap length e) ∙ length-append front (36 ∷ []) in
    let index : length front ≡ end - at - 1 = omega arith in
    let last : get_or bs (end - 1) 0 ≡ 36 =
    sym (get_or-between bs at end (end - at - 1) (omega arith)
    ∙ ap (λ k. get_or bs k 0) (omega arith))
    ∙ ap (λ t. get_or t (end - at - 1) 0) (sym e)
    ∙ get_or_at front 36 [] 0 (end - at - 1) index in
    let shape : drop (end - 1) bs ≡ 36 ∷ drop end bs =
    drop_more bs (end - 1) 0 (omega arith) ∙ ap (λ x. x ∷ drop (end - 1 + 1) bs) last
    ∙ ap (λ k. 36 ∷ drop k bs) (omega arith) in
    let plain : start_of inside (drop (end - 1) bs) ≡ start.Plain =
    h (end - 1) (omega arith) (omega arith) in
    let property : start_of inside (36 ∷ drop end bs) ≡ start.Property =
    ap (λ s. opened_start s start.Property) o in
    let k : start.Plain ≡ start.Property = sym plain ∙ ap (start_of inside) shape ∙ property in
    cc

-- a byte that can't stand in an argument without quotes
bad_step : (a : Arguments) (had : List Piece) (plain : List ℕ) (mark : Mark) (sort : Sort) (b : ℕ)
    → is_bad sort ≡ true
    → (mark ≡ dollar → sort ≡ Open → ⊥)
    → text_step (inner (in_loose a) had) plain mark sort b ≡ stop Name
bad_step a had plain mark Quote b e n = refl
bad_step a had plain mark Percent b e n = refl
bad_step a had plain mark At b e n = refl
bad_step a had plain unmarked Open b e n = refl
bad_step a had plain dollar Open b e n = absurd (n refl refl)
bad_step a had plain percent Open b e n = refl
bad_step a had plain at_sign Open b e n = refl
bad_step a had plain mark _ b e n = cc

bad_runs : (a : Arguments) (had : List Piece) (plain : List ℕ) (mark : Mark) (bs : List ℕ)
    → is_bad (first_sort bs) ≡ true
    → (mark ≡ dollar → first_sort bs ≡ Open → ⊥)
    → run bs (in_text (inner (in_loose a) had) plain mark) ≡ refused bs Name
bad_runs a had plain mark bs e n =
    run-refused bs (in_text (inner (in_loose a) had) plain mark) Name refl
    (λ b h. bad_step a had plain mark (sort_of b) b (ap is_bad (sym h) ∙ e) (λ d k. n d (h ∙ k)))

loose_place : (place : Place) → place_inside place ≡ Loose → (a : Arguments) × (place ≡ in_loose a)
loose_place (in_transform heads) e = cc
loose_place (in_separator heads) e = cc
loose_place (in_argument heads function args) e = cc
loose_place (in_call a) e = cc
loose_place (in_loose a) e = (a, refl)

pub bad_there : (place : Place) (had : List Piece) (bs : List ℕ) → place_inside place ≡ Loose
    → is_bad (first_sort bs) ≡ true
    → run bs (in_text (inner place had) [] unmarked) ≡ refused bs Name
bad_there place had bs i e =
    let p = loose_place place i in
    subst (λ x. run bs (in_text (inner x had) [] unmarked) ≡ refused bs Name) (sym p.1)
    (bad_runs p.0 had [] unmarked bs e (λ d. cc))

stop_over : (host : Host) (bs : List ℕ) → host_inside host ≡ Loose
    → ends_argument (first_sort bs) ≡ true → OverAt host bs
stop_over (whole parts) bs i e = cc
stop_over (inner place had) bs i e =
    let p =
    loose_place place i in
    subst (λ x. OverAt (inner x had) bs) (sym p.1) (over_stop p.0 had bs e)

bad_over : (host : Host) (text bs : List ℕ) → host_inside host ≡ Loose
    → is_bad (first_sort bs) ≡ true → NoOpen text bs
    → OverFor host text bs
bad_over (whole parts) text bs i e n = cc
bad_over (inner place had) text bs i e n =
    let p = loose_place place i in
    subst (λ x. OverFor (inner x had) text bs) (sym p.1) (λ plain mark t.
    bad_runs p.0 had plain mark bs e (λ d o. n plain (ap (λ m. plain ++ spelled m) (sym d) ∙ t) o)
    ∙ sym (bad_runs p.0 (flushed_pieces had (settled plain mark)) [] unmarked bs e (λ d. cc)))

-- where other than plain text starts, plain text before it may be taken for a part
over_by : (host : Host) (inside : Inside) (here : Start) (text bs : List ℕ)
    → host_inside host ≡ inside → StartIs here inside bs
    → (here ≡ start.Plain → ⊥) → NoOpen text bs → OverFor host text bs
over_by host inside start.End text bs i p n o = λ plain mark t.
    subst (λ x. run x (in_text host plain mark) ≡ run x
    (in_text (flushed host (settled plain mark)) [] unmarked)) (sym p)
    (over_end host plain mark)
over_by host inside start.Quote text bs i p n o = λ plain mark t.
    subst (λ x. run x (in_text host plain mark) ≡ run x
    (in_text (flushed host (settled plain mark)) [] unmarked)) (sym p.1)
    (over_quote host plain mark p.0 (λ q. subst (λ x. ReadsQuote x) (sym i ∙ q) p.2)
    (λ q. subst (λ x. ReadsQuote x) (sym i ∙ q) p.2))
over_by host inside start.Property text bs i p n o = λ plain mark t.
    subst (λ x. run x (in_text host plain mark) ≡ run x
    (in_text (flushed host (settled plain mark)) [] unmarked)) (sym p.1)
    (over_property host plain mark p.0)
over_by host inside start.Metadata text bs i p n o = λ plain mark t.
    subst (λ x. run x (in_text host plain mark) ≡ run x
    (in_text (flushed host (settled plain mark)) [] unmarked)) (sym p.1)
    (over_metadata host plain mark p.0 (subst (λ x. ReadsMetadata x) (sym i) p.2))
over_by host inside start.Items text bs i p n o = λ plain mark t.
    subst (λ x. run x (in_text host plain mark) ≡ run x
    (in_text (flushed host (settled plain mark)) [] unmarked)) (sym p.1)
    (over_items host plain mark p.0 (subst (λ x. ReadsMetadata x) (sym i) p.2))
over_by host inside start.Stop text bs i p n o =
    λ plain mark t. stop_over host bs (i ∙ p.3) (ap (λ x. ends_argument (first_sort x)) p.2
    ∙ p.4) plain mark
over_by host inside start.Bad text bs i p n o =
    bad_over host text bs (i ∙ p.3) (ap (λ x. is_bad (first_sort x)) p.2 ∙ p.4) o
over_by host inside start.Plain text bs i p n o = absurd (n refl)

pub run-plain : (inside : Inside) (bs : List ℕ) (at end : ℕ) (host : Host)
    → host_inside host ≡ inside → at ≤ end → end ≤ length bs
    → ((k : ℕ) → at ≤ k → k < end → start_of inside (drop k bs) ≡ start.Plain)
    → (start_of inside (drop end bs) ≡ start.Plain → ⊥)
    → run (drop at bs) (in_text host [] unmarked)
    ≡ run (drop end bs) (in_text (flushed host (take (end - at) (drop at bs))) [] unmarked)
run-plain inside bs at end host i l w h n =
    ap (λ t. run t (in_text host [] unmarked)) (split_between bs at end l)
    ∙ plain_part_runs host (take (end - at) (drop at bs)) (drop end bs)
    (subst (λ x. IsPlain x (take (end - at) (drop at bs))) (sym i)
    (plain_between inside bs at end l w h))
    (over_by host inside (start_of inside (drop end bs)) (take (end - at) (drop at bs))
    (drop end bs) i (starts_at inside (drop end bs)) n (no_open inside bs at end l w h))

-- a text may be cut there
byte_cuts : (bs : List ℕ) (n b : ℕ) (more : List ℕ) → drop n bs ≡ b ∷ more → b < 128 → n ≤ length bs
    → IsCharBoundary bs n
byte_cuts bs n b more e s w =
    let k : length (drop n bs) ≡ suc (length more) = ap length e in
    let l : n < length bs = omega (arith, length-drop n bs) in
    let same : get_or bs n 0 ≡ b = head_is (get_or bs n 0) b (drop (n + 1) bs) more
    (sym (drop_more bs n 0 l) ∙ e) in
    IsCharBoundary-before_ascii bs n l (omega arith)

part_small : (b : ℕ) (sort : Sort) → SortIs sort b → ends_argument sort ≡ true → b < 128
part_small b Comma f e = omega (arith, f)
part_small b Close f e = omega (arith, f)
part_small b _ f e = cc

bad_small : (b : ℕ) (sort : Sort) → SortIs sort b → is_bad sort ≡ true → b < 128
bad_small b Quote f e = omega (arith, f)
bad_small b Open f e = omega (arith, f)
bad_small b Percent f e = omega (arith, f)
bad_small b At f e = omega (arith, f)
bad_small b _ f e = cc

cut_by : (inside : Inside) (bs : List ℕ) (n : ℕ) (here : Start) → StartIs here inside (drop n bs)
    → (here ≡ start.Plain → ⊥) → n ≤ length bs → IsCharBoundary bs n
cut_by inside bs n start.End p h w =
    let k : length (drop n bs) ≡ 0 = ap length p in
    subst (λ m. IsCharBoundary bs m) (omega (arith, length-drop n bs)) (IsCharBoundary-end bs)
cut_by inside bs n start.Quote p h w = byte_cuts bs n 39 p.0 p.1 (omega arith) w
cut_by inside bs n start.Property p h w = byte_cuts bs n 36 (40 ∷ p.0) p.1 (omega arith) w
cut_by inside bs n start.Metadata p h w = byte_cuts bs n 37 (40 ∷ p.0) p.1 (omega arith) w
cut_by inside bs n start.Items p h w = byte_cuts bs n 64 (40 ∷ p.0) p.1 (omega arith) w
cut_by inside bs n start.Stop p h w =
    byte_cuts bs n p.0 p.1 p.2 (part_small p.0 (sort_of p.0) (sort_is p.0) p.4) w
cut_by inside bs n start.Bad p h w =
    byte_cuts bs n p.0 p.1 p.2 (bad_small p.0 (sort_of p.0) (sort_is p.0) p.4) w
cut_by inside bs n start.Plain p h w = absurd (h refl)

pub start_cuts : (inside : Inside) (bs : List ℕ) (n : ℕ)
    → (start_of inside (drop n bs) ≡ start.Plain → ⊥) → n ≤ length bs → IsCharBoundary bs n
start_cuts inside bs n h w = cut_by inside bs n (start_of inside (drop n bs))
    (starts_at inside (drop n bs)) h w

-- plain text has a byte at least
pub plain_grows : (inside : Inside) (bs : List ℕ) (at end : ℕ)
    → start_of inside (drop at bs) ≡ start.Plain → (start_of inside (drop end bs) ≡ start.Plain → ⊥)
    → at ≤ end → at < end
plain_grows inside bs at end e n l = by (split at end l)
  where
    split : (at end : ℕ) → at ≤ end → (at < end) ⊎ (at ≡ end)
    split at end l = grind arith

    by : (at < end) ⊎ (at ≡ end) → at < end
    by (inl h) = h
    by (inr h) = absurd (n (ap (λ k. start_of inside (drop k bs)) (sym h) ∙ e))
