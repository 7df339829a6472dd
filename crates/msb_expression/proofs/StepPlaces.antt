-- The parts of an item reference at places of a text.
use Rattle.std.proofs.Common.{
  ◌≡◌,
  ℕ,
  ◌+◌,
  ◌<◌,
  ◌≤◌,
  false,
  List,
  [],
  ◌∷◌,
  ◌++◌,
  Some,
  Result,
  Err,
  length,
  drop,
  refl,
  sym,
  ap,
  ◌∙◌,
  subst,
  arith,
  append_assoc,
  length-drop,
}
use Rattle.std.proofs.lemmas.List.{drop-drop, drop_all}
use Rattle.msb_expression.specs.declared.expression.Part.{Part}
use Rattle.msb_expression.specs.declared.expression.Step.{Step}
use Rattle.msb_expression.specs.declared.expression.Piece.{Piece}
use Rattle.msb_expression.specs.declared.faults.ExprFault.{ExprFault}
use Rattle.msb_expression.specs.declared.starts.Inside.{Inside}
use Rattle.msb_expression.specs.declared.starts.Inside.TheVariants.{Whole}
use Rattle.msb_expression.specs.declared.starts.Start.{Start}
use Rattle.msb_expression.specs.declared.starts.Start.TheVariants as start
use Rattle.msb_expression.specs.declared.sorts.Sort.{Sort}
use Rattle.msb_expression.specs.declared.sorts.Sort.TheVariants.{
  Letter,
  Dash,
  Space,
  Quote,
  Open,
  Close,
  Comma,
  Greater,
}
use Rattle.msb_expression.specs.declared.sorts.Kind.{Kind}
use Rattle.msb_expression.specs.declared.sorts.Kind.TheVariants.{Name, Transform as BadStep, Nested}
use Rattle.msb_expression.specs.Machine.{
  is_name_sort,
  sort_of,
  first_sort,
  start_of,
  Heads,
  Place,
  in_separator,
  in_argument,
  Host,
  whole,
  inner,
  metadata,
  unmarked,
  Mode,
  in_text,
  dollar_opened,
  name_opened,
  type_opened,
  stepping,
  dashed,
  arrow,
  function_ended,
  args_opened,
  arg_ended,
  arg_wanted,
  separator_wanted,
  separator_ended,
  stop,
  host_inside,
  place_inside,
  left,
  with_step,
  with_steps,
  closed,
  stepping_kind,
  stepping_step,
  dashed_step,
  arrow_step,
  function_ended_step,
  args_opened_step,
  arg_ended_step,
  arg_wanted_step,
  separator_wanted_step,
  separator_ended_step,
  Outcome,
  done,
  early,
  run,
  refused,
}
use Rattle.msb_expression.specs.Answers.{Refuses, Leads, Wants, IsNameAt}
use Rattle.msb_expression.proofs.Places.{run-at, run-refused}
use Rattle.msb_expression.proofs.Runs.{run-nil, run-function, run-function_over}
use Rattle.msb_expression.proofs.RunsText.{
  reach_property,
  reach_metadata,
  reach_items,
  reach_nested,
  flushed-nil,
}
use Rattle.msb_expression.proofs.StartsAt.{ReadsQuote, is_bad, StartIs}
use Rattle.msb_expression.proofs.PlainText.{ReadsMetadata, unless-go}
use Rattle.msb_expression.proofs.PlainPlaces.{start_is, bad_there}

-- what a `?` hands on
pub leads_err : {X : Type 0} (bs : List ℕ) (r : Result (X × ℕ) ExprFault) (given fault : ExprFault)
    (one other : Outcome) (go_on : X → List ℕ → Outcome) → r ≡ Err given → given ≡ fault
    → other ≡ one → Refuses bs fault one → Leads bs r other go_on
leads_err bs r given fault one other go_on a b e h =
    subst (λ t. Leads bs t other go_on) (sym (a ∙ ap Err b))
    (subst (λ o. Refuses bs fault o) (sym e) h)

-- what a call hands on
pub leads_same : {X : Type 0} (bs : List ℕ) (r : Result (X × ℕ) ExprFault) (one other : Outcome)
    (go_on : X → List ℕ → Outcome) → other ≡ one → Leads bs r one go_on → Leads bs r other go_on
leads_same bs r one other go_on e h = subst (λ o. Leads bs r o go_on) (sym e) h

behind_two : (bs more : List ℕ) (n a b : ℕ) → drop n bs ≡ a ∷ b ∷ more → more ≡ drop (n + 2) bs
behind_two bs more n a b e = sym (ap (drop 2) e) ∙ drop-drop 2 n bs

behind_one : (bs more : List ℕ) (n a : ℕ) → drop n bs ≡ a ∷ more → more ≡ drop (n + 1) bs
behind_one bs more n a e = sym (ap (drop 1) e) ∙ drop-drop 1 n bs

pub property_at : (host : Host) (inside : Inside) (bs : List ℕ) (n : ℕ)
    → start_of inside (drop n bs) ≡ start.Property
    → run (drop n bs) (in_text host [] unmarked) ≡ run (drop (n + 2) bs) (dollar_opened host [])
property_at host inside bs n e =
    let p : StartIs start.Property inside (drop n bs) = start_is inside (drop n bs) start.Property e
    in
    ap (λ t. run t (in_text host [] unmarked)) p.1 ∙ reach_property host [] unmarked p.0
    ∙ ap (λ t. run t (dollar_opened host [])) (behind_two bs p.0 n 36 40 p.1)

pub metadata_at : (host : Host) (inside : Inside) (bs : List ℕ) (n : ℕ) → host_inside host ≡ inside
    → start_of inside (drop n bs) ≡ start.Metadata
    → run (drop n bs) (in_text host [] unmarked) ≡ run (drop (n + 2) bs) (name_opened host metadata)
metadata_at host inside bs n i e =
    let p : StartIs start.Metadata inside (drop n bs) = start_is inside (drop n bs) start.Metadata e
    in
    ap (λ t. run t (in_text host [] unmarked)) p.1
    ∙ reach_metadata host [] unmarked p.0 (subst (λ x. ReadsMetadata x) (sym i) p.2)
    ∙ ap (λ h. run p.0 (name_opened h metadata)) (flushed-nil host)
    ∙ ap (λ t. run t (name_opened host metadata)) (behind_two bs p.0 n 37 40 p.1)

pub items_at : (parts : List Part) (bs : List ℕ) (n : ℕ) → start_of Whole (drop n bs) ≡ start.Items
    → run (drop n bs) (in_text (whole parts) [] unmarked)
    ≡ run (drop (n + 2) bs) (type_opened parts)
items_at parts bs n e =
    let p : StartIs start.Items Whole (drop n bs) = start_is Whole (drop n bs) start.Items e in
    ap (λ t. run t (in_text (whole parts) [] unmarked)) p.1 ∙ reach_items parts [] unmarked p.0
    ∙ ap (λ t. run t (type_opened parts)) (behind_two bs p.0 n 64 40 p.1)

pub nested_at : (place : Place) (pieces : List Piece) (inside : Inside) (bs : List ℕ) (n : ℕ)
    → place_inside place ≡ inside → start_of inside (drop n bs) ≡ start.Items
    → run (drop n bs) (in_text (inner place pieces) [] unmarked) ≡ refused (drop (n + 1) bs) Nested
nested_at place pieces inside bs n i e =
    let p : StartIs start.Items inside (drop n bs) = start_is inside (drop n bs) start.Items e in
    ap (λ t. run t (in_text (inner place pieces) [] unmarked)) p.1
    ∙ reach_nested place pieces [] unmarked p.0 (subst (λ x. ReadsMetadata x) (sym i) p.2)
    ∙ ap (λ t. refused t Nested) (behind_one bs (40 ∷ p.0) n 64 p.1)

pub quote_at : (place : Place) (pieces : List Piece) (inside : Inside) (bs : List ℕ) (n : ℕ)
    → place_inside place ≡ inside → start_of inside (drop n bs) ≡ start.Quote
    → run (drop n bs) (in_text (inner place pieces) [] unmarked) ≡ run (drop (n + 1) bs)
    (left place pieces)
quote_at place pieces inside bs n i e =
    let p : StartIs start.Quote inside (drop n bs) = start_is inside (drop n bs) start.Quote e in
    run-at bs n (in_text (inner place pieces) [] unmarked) (left place pieces) Quote
    (ap first_sort p.1) (λ k. cc)
    (unless-go (place_inside place) (left place pieces)
    (λ q. subst (λ x. ReadsQuote x) (sym i ∙ q) p.2))

pub bad_at : (place : Place) (pieces : List Piece) (inside : Inside) (bs : List ℕ) (n : ℕ)
    → place_inside place ≡ inside
    → start_of inside (drop n bs) ≡ start.Bad
    → run (drop n bs) (in_text (inner place pieces) [] unmarked) ≡ refused (drop n bs) Name
bad_at place pieces inside bs n i e =
    let p : StartIs start.Bad inside (drop n bs) = start_is inside (drop n bs) start.Bad e in
    bad_there place pieces (drop n bs) (i ∙ p.3) (ap (λ x. is_bad (first_sort x)) p.2 ∙ p.4)

pub end_at : (place : Place) (pieces : List Piece) (inside : Inside) (bs : List ℕ) (n : ℕ)
    → start_of inside (drop n bs) ≡ start.End
    → run (drop n bs) (in_text (inner place pieces) [] unmarked) ≡ early
end_at place pieces inside bs n e =
    ap (λ t. run t (in_text (inner place pieces) [] unmarked))
    (start_is inside (drop n bs) start.End e)
    ∙ run-nil (in_text (inner place pieces) [] unmarked)

-- a byte that is wanted
pub wants_stops : (wanted : Sort) (mode next : Mode) (bs : List ℕ) → Wants wanted mode next
    → (first_sort bs ≡ Space → ⊥) → (first_sort bs ≡ wanted → ⊥) → run bs mode ≡ refused bs BadStep
wants_stops wanted mode next bs w s n = run-refused bs mode BadStep w.ends
    (λ b e. w.stops (sort_of b) b (λ k. s (e ∙ k)) (λ k. n (e ∙ k)))

arg_wanted_stops : (heads : Heads) (function : List ℕ) (args : List (List Piece)) (sort : Sort)
    → (sort ≡ Space → ⊥) → (sort ≡ Quote → ⊥)
    → arg_wanted_step heads function args sort ≡ stop BadStep
arg_wanted_stops heads function args Space s n = absurd (s refl)
arg_wanted_stops heads function args Quote s n = absurd (n refl)
arg_wanted_stops heads function args _ s n = refl

pub wants_arg : (heads : Heads) (function : List ℕ) (args : List (List Piece))
    → Wants Quote (arg_wanted heads function args)
    (in_text (inner (in_argument heads function args) []) [] unmarked)
wants_arg heads function args = record {
  stays = refl;
  opens = λ b. refl;
  stops = λ sort b s n.
      arg_wanted_stops heads function args sort s n;
  ends = refl;
}

separator_wanted_stops : (heads : Heads) (sort : Sort) → (sort ≡ Space → ⊥) → (sort ≡ Quote → ⊥)
    → separator_wanted_step heads sort ≡ stop BadStep
separator_wanted_stops heads Space s n = absurd (s refl)
separator_wanted_stops heads Quote s n = absurd (n refl)
separator_wanted_stops heads _ s n = refl

pub wants_separator : (heads : Heads)
    → Wants Quote (separator_wanted heads) (in_text (inner (in_separator heads) []) [] unmarked)
wants_separator heads = record {
  stays = refl;
  opens = λ b. refl;
  stops = λ sort b s n.
      separator_wanted_stops heads sort s n;
  ends = refl;
}

separator_ended_stops : (heads : Heads) (pieces : List Piece) (sort : Sort) → (sort ≡ Space → ⊥)
    → (sort ≡ Close → ⊥) → separator_ended_step heads pieces sort ≡ stop BadStep
separator_ended_stops heads pieces Space s n = absurd (s refl)
separator_ended_stops heads pieces Close s n = absurd (n refl)
separator_ended_stops heads pieces _ s n = refl

pub wants_close : (heads : Heads) (pieces : List Piece)
    → Wants Close (separator_ended heads pieces) (closed heads (Some pieces))
wants_close heads pieces = record {
  stays = refl;
  opens = λ b. refl;
  stops = λ sort b s n.
      separator_ended_stops heads pieces sort s n;
  ends = refl;
}

stepping_no : (heads : Heads) (sort : Sort) → (sort ≡ Space → ⊥) → (sort ≡ Dash → ⊥)
    → (sort ≡ Comma → ⊥) → (sort ≡ Close → ⊥)
    → stepping_step heads sort ≡ stop (stepping_kind heads.steps)
stepping_no heads Space s d m c = absurd (s refl)
stepping_no heads Dash s d m c = absurd (d refl)
stepping_no heads Comma s d m c = absurd (m refl)
stepping_no heads Close s d m c = absurd (c refl)
stepping_no heads _ s d m c = refl

pub stepping_stops : (heads : Heads) (kind : Kind) (bs : List ℕ) → stepping_kind heads.steps ≡ kind
    → (first_sort bs ≡ Space → ⊥) → (first_sort bs ≡ Dash → ⊥) → (first_sort bs ≡ Comma → ⊥)
    → (first_sort bs ≡ Close → ⊥) → run bs (stepping heads) ≡ refused bs kind
stepping_stops heads kind bs k s d m c =
    run-refused bs (stepping heads) kind refl
    (λ b e. stepping_no heads (sort_of b) (λ x. s (e ∙ x)) (λ x. d (e ∙ x)) (λ x. m (e ∙ x))
    (λ x. c (e ∙ x)) ∙ ap stop k)

dashed_no : (heads : Heads) (sort : Sort) → (sort ≡ Greater → ⊥)
    → dashed_step heads sort ≡ stop BadStep
dashed_no heads Greater g = absurd (g refl)
dashed_no heads _ g = refl

pub dashed_stops : (heads : Heads) (bs : List ℕ) → (first_sort bs ≡ Greater → ⊥)
    → run bs (dashed heads) ≡ refused bs BadStep
dashed_stops heads bs g = run-refused bs (dashed heads) BadStep refl
    (λ b e. dashed_no heads (sort_of b) (λ x. g (e ∙ x)))

arrow_no : (heads : Heads) (sort : Sort) (b : ℕ) → (sort ≡ Space → ⊥) → (sort ≡ Quote → ⊥)
    → (sort ≡ Letter → ⊥) → arrow_step heads sort b ≡ stop BadStep
arrow_no heads Space b s q l = absurd (s refl)
arrow_no heads Quote b s q l = absurd (q refl)
arrow_no heads Letter b s q l = absurd (l refl)
arrow_no heads _ b s q l = refl

pub arrow_stops : (heads : Heads) (bs : List ℕ) → (first_sort bs ≡ Space → ⊥)
    → (first_sort bs ≡ Quote → ⊥) → (first_sort bs ≡ Letter → ⊥)
    → run bs (arrow heads) ≡ refused bs BadStep
arrow_stops heads bs s q l = run-refused bs (arrow heads) BadStep refl
    (λ b e. arrow_no heads (sort_of b) b (λ x. s (e ∙ x)) (λ x. q (e ∙ x)) (λ x. l (e ∙ x)))

function_ended_no : (heads : Heads) (function : List ℕ) (sort : Sort) → (sort ≡ Space → ⊥)
    → (sort ≡ Open → ⊥) → function_ended_step heads function sort ≡ stop BadStep
function_ended_no heads function Space s o = absurd (s refl)
function_ended_no heads function Open s o = absurd (o refl)
function_ended_no heads function _ s o = refl

pub function_ended_stops : (heads : Heads) (function bs : List ℕ) → (first_sort bs ≡ Space → ⊥)
    → (first_sort bs ≡ Open → ⊥) → run bs (function_ended heads function) ≡ refused bs BadStep
function_ended_stops heads function bs s o = run-refused bs (function_ended heads function) BadStep
    refl (λ b e. function_ended_no heads function (sort_of b) (λ x. s (e ∙ x)) (λ x. o (e ∙ x)))

args_opened_no : (heads : Heads) (function : List ℕ) (sort : Sort) → (sort ≡ Space → ⊥)
    → (sort ≡ Close → ⊥) → (sort ≡ Quote → ⊥) → args_opened_step heads function sort ≡ stop BadStep
args_opened_no heads function Space s c q = absurd (s refl)
args_opened_no heads function Close s c q = absurd (c refl)
args_opened_no heads function Quote s c q = absurd (q refl)
args_opened_no heads function _ s c q = refl

pub args_opened_stops : (heads : Heads) (function bs : List ℕ) → (first_sort bs ≡ Space → ⊥)
    → (first_sort bs ≡ Close → ⊥) → (first_sort bs ≡ Quote → ⊥)
    → run bs (args_opened heads function) ≡ refused bs BadStep
args_opened_stops heads function bs s c q = run-refused bs (args_opened heads function) BadStep refl
    (λ b e. args_opened_no heads function (sort_of b) (λ x. s (e ∙ x)) (λ x. c (e ∙ x))
    (λ x. q (e ∙ x)))

arg_ended_no : (heads : Heads) (function : List ℕ) (args : List (List Piece)) (sort : Sort)
    → (sort ≡ Space → ⊥) → (sort ≡ Close → ⊥) → (sort ≡ Comma → ⊥)
    → arg_ended_step heads function args sort ≡ stop BadStep
arg_ended_no heads function args Space s c m = absurd (s refl)
arg_ended_no heads function args Close s c m = absurd (c refl)
arg_ended_no heads function args Comma s c m = absurd (m refl)
arg_ended_no heads function args _ s c m = refl

pub arg_ended_stops : (heads : Heads) (function : List ℕ) (args : List (List Piece)) (bs : List ℕ)
    → (first_sort bs ≡ Space → ⊥) → (first_sort bs ≡ Close → ⊥) → (first_sort bs ≡ Comma → ⊥)
    → run bs (arg_ended heads function args) ≡ refused bs BadStep
arg_ended_stops heads function args bs s c m = run-refused bs (arg_ended heads function args)
    BadStep refl
    (λ b e. arg_ended_no heads function args (sort_of b) (λ x. s (e ∙ x)) (λ x. c (e ∙ x))
    (λ x. m (e ∙ x)))

-- a function's name and the spaces behind it
pub function_at : (heads : Heads) (bs : List ℕ) (at end to : ℕ) (name : List ℕ)
    → IsNameAt bs at name end → is_name_sort (first_sort (drop end bs)) ≡ false
    → run (drop end bs) (function_ended heads name) ≡ run (drop to bs) (function_ended heads name)
    → run (drop at bs) (arrow heads) ≡ run (drop to bs) (function_ended heads name)
function_at heads bs at end to name n o s =
    ap (λ t. run t (arrow heads)) n.split ∙ run-function heads name (drop end bs) n.is_name
    ∙ run-function_over heads name (drop end bs) o ∙ s

-- one more argument and the spaces behind it
pub arg_read : (heads : Heads) (function : List ℕ) (bs : List ℕ) (start : Outcome) (at end to : ℕ)
    (had all : List (List Piece)) (arg : List Piece)
    → start ≡ run (drop at bs) (in_text (inner (in_argument heads function had) []) [] unmarked)
    → run (drop at bs) (in_text (inner (in_argument heads function had) []) [] unmarked)
    ≡ run (drop end bs) (arg_ended heads function (had ++ arg ∷ []))
    → all ≡ had ++ arg ∷ []
    → run (drop end bs) (arg_ended heads function all)
    ≡ run (drop to bs) (arg_ended heads function all)
    → start ≡ run (drop to bs) (arg_ended heads function all)
arg_read heads function bs start at end to had all arg a b e s = a ∙ b
    ∙ ap (λ list. run (drop end bs) (arg_ended heads function list)) (sym e) ∙ s

-- one more step and the spaces behind it
pub step_read : (heads : Heads) (bs : List ℕ) (start : Outcome) (at end to : ℕ)
    (had all : List Step) (step : Step)
    → start ≡ run (drop at bs) (stepping (with_steps heads had))
    → first_sort (drop at bs) ≡ Dash
    → run (drop (at + 1) bs) (dashed (with_steps heads had))
    ≡ run (drop end bs) (stepping (with_step (with_steps heads had) step))
    → all ≡ had ++ step ∷ []
    → run (drop end bs) (stepping (with_steps heads all))
    ≡ run (drop to bs) (stepping (with_steps heads all))
    → start ≡ run (drop to bs) (stepping (with_steps heads all))
step_read heads bs start at end to had all step a d b e s =
    a ∙ run-at bs at (stepping (with_steps heads had)) (dashed (with_steps heads had)) Dash d
    (λ k. cc) refl ∙ b
    ∙ ap
    (λ list.
    run (drop end bs)
    (stepping (record { parts = heads.parts; kind = heads.kind; steps = list })))
    (append_assoc heads.steps had (step ∷ []))
    ∙ ap (λ list. run (drop end bs) (stepping (with_steps heads list))) (sym e) ∙ s

-- within a whole text a reference starts, or plain text
starts_by : (bs : List ℕ) (n : ℕ) (here : Start) → n < length bs → StartIs here Whole (drop n bs)
    → (here ≡ start.Property → ⊥) → (here ≡ start.Metadata → ⊥) → (here ≡ start.Items → ⊥)
    → (here ≡ start.Plain → ⊥) → ⊥
starts_by bs n start.End w s p m i t =
    let k : length (drop n bs) ≡ 0 = ap length s in omega (arith, length-drop n bs)
starts_by bs n start.Quote w s p m i t = s.2
starts_by bs n start.Property w s p m i t = p refl
starts_by bs n start.Metadata w s p m i t = m refl
starts_by bs n start.Items w s p m i t = i refl
starts_by bs n start.Stop w s p m i t = let k = s.3 in cc
starts_by bs n start.Bad w s p m i t = let k = s.3 in cc
starts_by bs n start.Plain w s p m i t = t refl

pub no_start : (bs : List ℕ) (n : ℕ) (here : Start) → n < length bs
    → here ≡ start_of Whole (drop n bs)
    → (here ≡ start.Property → ⊥) → (here ≡ start.Metadata → ⊥) → (here ≡ start.Items → ⊥)
    → (here ≡ start.Plain → ⊥) → ⊥
no_start bs n here w e p m i t =
    starts_by bs n here w (start_is Whole (drop n bs) here (sym e)) p m i t

pub run_end : (parts : List Part) (bs : List ℕ) (n : ℕ) → length bs ≤ n
    → run (drop n bs) (in_text (whole parts) [] unmarked) ≡ done parts
run_end parts bs n h = ap (λ t. run t (in_text (whole parts) [] unmarked)) (drop_all n bs h)
    ∙ run-nil (in_text (whole parts) [] unmarked)
