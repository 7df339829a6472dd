-- The ends of references in a text.
use Rattle.std.proofs.Common.{
  ◌≡◌,
  ℕ,
  ◌+◌,
  ◌<◌,
  false,
  List,
  [],
  drop,
  get_or,
  refl,
  sym,
  ap,
  ◌∙◌,
  arith,
}
use Rattle.std.specs.Str.{IsUtf8, IsCharBoundary}
use Rattle.std.proofs.lemmas.Str.{IsCharBoundary-after_ascii}
use Rattle.msb_expression.specs.declared.expression.Piece.{Piece}
use Rattle.msb_expression.specs.declared.starts.Inside.{Inside}
use Rattle.msb_expression.specs.declared.sorts.Sort.{Sort}
use Rattle.msb_expression.specs.declared.sorts.Sort.TheVariants.{
  End,
  Space,
  Quote,
  Open,
  Close,
  Comma,
  Dot,
}
use Rattle.msb_expression.specs.declared.sorts.Kind.TheVariants.{Name, Transform as BadStep}
use Rattle.msb_expression.specs.Machine.{
  sort_of,
  first_sort,
  is_name_sort,
  start_of,
  start_by,
  Place,
  Host,
  inner,
  Named,
  metadata,
  unmarked,
  in_text,
  in_name,
  name_ended,
  stop,
  name_ended_step,
  dot_step,
  referred,
  run,
  refused,
}
use Rattle.msb_expression.proofs.Places.{HasByte, has_byte, byte_is, run-at, run-refused}
use Rattle.msb_expression.proofs.Runs.{run-name_over}

-- what starts where a byte of this sort stands
pub start_here : (inside : Inside) (bs : List ℕ) (n : ℕ) (sort : Sort)
    → first_sort (drop n bs) ≡ sort → (sort ≡ End → ⊥)
    → start_of inside (drop n bs) ≡ start_by inside sort (first_sort (drop (n + 1) bs))
start_here inside bs n sort e h =
    let b : HasByte bs n = has_byte bs n (λ k. h (sym e ∙ k)) in
    ap (start_of inside) b.split ∙ ap (λ s. start_by inside s (first_sort (drop (n + 1) bs)))
    (b.sort ∙ e)

-- a text may be cut behind a `)` or a quote
cut_behind : (bs : List ℕ) (n : ℕ) → IsUtf8 bs → (first_sort (drop n bs) ≡ End → ⊥)
    → get_or bs n 0 < 128 → IsCharBoundary bs (n + 1)
cut_behind bs n u h s = let b : HasByte bs n = has_byte bs n h in IsCharBoundary-after_ascii bs n u
    b.within s

pub close_cut : (bs : List ℕ) (n : ℕ) → IsUtf8 bs → first_sort (drop n bs) ≡ Close
    → IsCharBoundary bs (n + 1)
close_cut bs n u e =
    let b : get_or bs n 0 ≡ 41 = byte_is bs n Close e (λ k. cc) in
    cut_behind bs n u (λ k. let z = sym e ∙ k in cc) (omega arith)

pub open_cut : (bs : List ℕ) (n : ℕ) → IsUtf8 bs → first_sort (drop n bs) ≡ Open
    → IsCharBoundary bs (n + 1)
open_cut bs n u e =
    let b : get_or bs n 0 ≡ 40 = byte_is bs n Open e (λ k. cc) in
    cut_behind bs n u (λ k. let z = sym e ∙ k in cc) (omega arith)

pub comma_cut : (bs : List ℕ) (n : ℕ) → IsUtf8 bs → first_sort (drop n bs) ≡ Comma
    → IsCharBoundary bs (n + 1)
comma_cut bs n u e =
    let b : get_or bs n 0 ≡ 44 = byte_is bs n Comma e (λ k. cc) in
    cut_behind bs n u (λ k. let z = sym e ∙ k in cc) (omega arith)

pub quote_cut : (bs : List ℕ) (n : ℕ) → IsUtf8 bs → first_sort (drop n bs) ≡ Quote
    → IsCharBoundary bs (n + 1)
quote_cut bs n u e =
    let b : get_or bs n 0 ≡ 39 = byte_is bs n Quote e (λ k. cc) in
    cut_behind bs n u (λ k. let z = sym e ∙ k in cc) (omega arith)

ended_stops : (host : Host) (which : Named) (name : List ℕ) (sort : Sort) → (sort ≡ Space → ⊥)
    → (sort ≡ Close → ⊥) → (sort ≡ Dot → dot_step host which name ≡ stop Name)
    → name_ended_step host which name sort ≡ stop Name
ended_stops host which name Space s c d = absurd (s refl)
ended_stops host which name Close s c d = absurd (c refl)
ended_stops host which name Dot s c d = d refl
ended_stops host which name _ s c d = refl

pub name_ended_stops : (host : Host) (which : Named) (name bs : List ℕ)
    → (first_sort bs ≡ Space → ⊥) → (first_sort bs ≡ Close → ⊥)
    → (first_sort bs ≡ Dot → dot_step host which name ≡ stop Name)
    → run bs (name_ended host which name) ≡ refused bs Name
name_ended_stops host which name bs s c d =
    run-refused bs (name_ended host which name) Name refl
    (λ b e. ended_stops host which name (sort_of b) (λ k. s (e ∙ k)) (λ k. c (e ∙ k))
    (λ k. d (e ∙ k)))

pub dot_stops : (place : Place) (pieces : List Piece) (name bs : List ℕ) → first_sort bs ≡ Dot
    → run bs (name_ended (inner place pieces) metadata name) ≡ refused bs BadStep
dot_stops place pieces name bs e =
    run-refused bs (name_ended (inner place pieces) metadata name) BadStep refl
    (λ b f. ap (name_ended_step (inner place pieces) metadata name) (sym f ∙ e))

-- from a name's end over the spaces behind it
pub run-name_ended : (host : Host) (which : Named) (name bs : List ℕ) (from to : ℕ)
    → is_name_sort (first_sort (drop from bs)) ≡ false
    → run (drop from bs) (name_ended host which name)
    ≡ run (drop to bs) (name_ended host which name)
    → run (drop from bs) (in_name host which name) ≡ run (drop to bs) (name_ended host which name)
run-name_ended host which name bs from to o s = run-name_over host which name (drop from bs) o ∙ s

pub run-close : (host : Host) (which : Named) (name bs : List ℕ) (n : ℕ)
    → first_sort (drop n bs) ≡ Close → run (drop n bs) (name_ended host which name)
    ≡ run (drop (n + 1) bs) (in_text (referred host which name) [] unmarked)
run-close host which name bs n e = run-at bs n (name_ended host which name)
    (in_text (referred host which name) [] unmarked) Close e (λ k. cc) refl
