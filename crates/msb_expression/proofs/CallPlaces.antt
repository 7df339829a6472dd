-- The calls of a property function at places of a text.
use Rattle.std.proofs.Common.{
  ◌≡◌,
  ℕ,
  ◌+◌,
  ◌-◌,
  ◌<◌,
  ◌≤◌,
  Bool,
  true,
  false,
  List,
  [],
  ◌∷◌,
  ◌++◌,
  Some,
  None,
  length,
  take,
  drop,
  get_or,
  refl,
  sym,
  ap,
  ◌∙◌,
  subst,
  arith,
  append_assoc,
  ◌⊎◌,
  inl,
  inr,
}
use Rattle.std.specs.Prelude.{◌==◌, Result, Ok, Err, IfOk}
use Rattle.std.specs.Str.{IsUtf8, IsCharBoundary}
use Rattle.std.proofs.lemmas.Str.{IsCharBoundary-after_ascii}
use Rattle.std.proofs.lemmas.Bool.{cases_lt, eqb-true, false≢true}
use Rattle.msb_expression.specs.declared.expression.Part.{Part}
use Rattle.msb_expression.specs.declared.expression.Call.{Call as PropertyCall}
use Rattle.msb_expression.specs.declared.expression.Piece.{Piece}
use Rattle.msb_expression.specs.declared.starts.Inside.TheVariants.{Loose}
use Rattle.msb_expression.specs.declared.starts.Start.TheVariants as start
use Rattle.msb_expression.specs.declared.sorts.Sort.{Sort}
use Rattle.msb_expression.specs.declared.sorts.Sort.TheVariants.{
  Letter,
  Space,
  Quote,
  Open,
  Close,
  Comma,
  Dot,
}
use Rattle.msb_expression.specs.declared.sorts.Kind.TheVariants.{Name}
use Rattle.msb_expression.specs.Machine.{
  ends_argument,
  sort_of,
  first_sort,
  is_name_sort,
  start_of,
  CallHeads,
  Arguments,
  in_call,
  in_loose,
  whole,
  inner,
  property,
  unmarked,
  in_text,
  name_ended,
  call_wanted,
  call_named,
  call_ended,
  called,
  call_arg_wanted,
  call_arg_ended,
  stop,
  call_heads,
  with_call,
  with_calls,
  property_call,
  with_arg,
  with_all_args,
  may_be_plain,
  is_behind_spaces,
  IsArgWanted,
  blank_closed,
  blank_listed,
  text_step,
  name_ended_step,
  call_wanted_step,
  call_ended_step,
  called_step,
  call_arg_wanted_step,
  call_arg_ended_step,
  Outcome,
  run,
  refused,
}
use Rattle.msb_expression.specs.Grammar.{IsSpaces}
use Rattle.msb_expression.specs.Answers.{TakesName}
use Rattle.msb_expression.proofs.Bytes.{SortIs, sort_is, other_byte}
use Rattle.msb_expression.proofs.Places.{run-at, run-refused}
use Rattle.msb_expression.proofs.Runs.{run-same, run-call_over}
use Rattle.msb_expression.proofs.NamePlaces.{
  Every-at,
  split_between,
  length-between,
  get_or-between,
}
use Rattle.msb_expression.proofs.RunsCalls.{
  unless_first-go,
  with_call-plain,
  spaced_by,
  spaces_wanted,
}
use Rattle.msb_expression.proofs.StartsAt.{StartIs}
use Rattle.msb_expression.proofs.PlainPlaces.{start_is}

-- the name of a call
call_wanted_no : (heads : CallHeads) (sort : Sort) (b : ℕ) → (sort ≡ Space → ⊥)
    → (sort ≡ Letter → ⊥)
    → call_wanted_step heads sort b ≡ stop Name
call_wanted_no heads Space b s l = absurd (s refl)
call_wanted_no heads Letter b s l = absurd (l refl)
call_wanted_no heads _ b s l = refl

pub takes_call : (heads : CallHeads) → TakesName (call_wanted heads) (λ name. call_named heads name)
takes_call heads = record {
  stays = refl;
  opens = λ b. refl;
  at_letter = λ name b. refl;
  at_digit = λ name b. refl;
  at_dash = λ name b. refl;
  stops = λ sort b s l. call_wanted_no heads sort b s l;
  ends = refl;
}

-- from a name's end over the spaces behind it
pub run-call_ended : (heads : CallHeads) (name bs : List ℕ) (from to : ℕ)
    → is_name_sort (first_sort (drop from bs)) ≡ false
    → run (drop from bs) (call_ended heads name) ≡ run (drop to bs) (call_ended heads name)
    → run (drop from bs) (call_named heads name) ≡ run (drop to bs) (call_ended heads name)
run-call_ended heads name bs from to o s = run-call_over heads name (drop from bs) o ∙ s

-- the first call behind `::` has parentheses
first_no : (parts : List Part) (name : List ℕ) (sort : Sort) → (sort ≡ Space → ⊥)
    → (sort ≡ Open → ⊥)
    → call_ended_step (call_heads parts None) name sort ≡ stop Name
first_no parts name Space s o = absurd (s refl)
first_no parts name Open s o = absurd (o refl)
first_no parts name Dot s o = refl
first_no parts name Close s o = refl
first_no parts name _ s o = refl

pub first_stops : (parts : List Part) (name bs : List ℕ) → (first_sort bs ≡ Space → ⊥)
    → (first_sort bs ≡ Open → ⊥)
    → run bs (call_ended (call_heads parts None) name) ≡ refused bs Name
first_stops parts name bs s o =
    run-refused bs (call_ended (call_heads parts None) name) Name refl
    (λ b e. first_no parts name (sort_of b) (λ k. s (e ∙ k)) (λ k. o (e ∙ k)))

-- behind a call
called_no : (heads : CallHeads) (sort : Sort) → (sort ≡ Space → ⊥) → (sort ≡ Dot → ⊥)
    → (sort ≡ Close → ⊥)
    → called_step heads sort ≡ stop Name
called_no heads Space s d c = absurd (s refl)
called_no heads Dot s d c = absurd (d refl)
called_no heads Close s d c = absurd (c refl)
called_no heads _ s d c = refl

pub called_stops : (heads : CallHeads) (bs : List ℕ) → (first_sort bs ≡ Space → ⊥)
    → (first_sort bs ≡ Dot → ⊥)
    → (first_sort bs ≡ Close → ⊥) → run bs (called heads) ≡ refused bs Name
called_stops heads bs s d c =
    run-refused bs (called heads) Name refl
    (λ b e. called_no heads (sort_of b) (λ k. s (e ∙ k)) (λ k. d (e ∙ k)) (λ k. c (e ∙ k)))

-- the `.` behind a property's name is that behind its calls
pub dot_called : (parts : List Part) (name bs : List ℕ) → first_sort bs ≡ Dot
    → run bs (name_ended (whole parts) property name) ≡ run bs
    (called (call_heads parts (Some name)))
dot_called parts name bs e =
    run-same bs (name_ended (whole parts) property name)
    (called (call_heads parts (Some name))) refl
    (λ b h. ap (name_ended_step (whole parts) property name) (sym h ∙ e)
    ∙ sym (ap (called_step (call_heads parts (Some name))) (sym h ∙ e)))

-- a call without parentheses, where one may stand
plain_no : (heads : CallHeads) (name : List ℕ) (sort : Sort) → may_be_plain heads ≡ true
    → (sort ≡ Open → ⊥)
    → (sort ≡ Space → ⊥)
    → call_ended_step heads name sort ≡ called_step
    (with_call heads (property_call name None)) sort
plain_no heads name Space m o s = absurd (s refl)
plain_no heads name Open m o s = absurd (o refl)
plain_no heads name Dot m o s = unless_first-go heads _ m
plain_no heads name Close m o s = unless_first-go heads _ m
plain_no heads name _ m o s = refl

pub plain_called : (heads : CallHeads) (name bs : List ℕ) → may_be_plain heads ≡ true
    → (first_sort bs ≡ Open → ⊥)
    → (first_sort bs ≡ Space → ⊥)
    → run bs (call_ended heads name) ≡ run bs
    (called (with_call heads (property_call name None)))
plain_called heads name bs m o s =
    run-same bs (call_ended heads name) (called (with_call heads (property_call name None))) refl
    (λ b e. plain_no heads name (sort_of b) m (λ k. o (e ∙ k)) (λ k. s (e ∙ k)))

-- arguments
ended_no : (a : Arguments) (sort : Sort) → (sort ≡ Space → ⊥) → (sort ≡ Close → ⊥)
    → (sort ≡ Comma → ⊥)
    → call_arg_ended_step a sort ≡ stop Name
ended_no a Space s c m = absurd (s refl)
ended_no a Close s c m = absurd (c refl)
ended_no a Comma s c m = absurd (m refl)
ended_no a _ s c m = refl

pub arg_ended_stops : (a : Arguments) (bs : List ℕ) → (first_sort bs ≡ Space → ⊥)
    → (first_sort bs ≡ Close → ⊥)
    → (first_sort bs ≡ Comma → ⊥) → run bs (call_arg_ended a) ≡ refused bs Name
arg_ended_stops a bs s c m =
    run-refused bs (call_arg_ended a) Name refl
    (λ b e. ended_no a (sort_of b) (λ k. s (e ∙ k)) (λ k. c (e ∙ k)) (λ k. m (e ∙ k)))

blank_close_no : (a : Arguments) (args : List (List Piece)) → (args ≡ [] → ⊥)
    → blank_closed a args false ≡ stop Name
blank_close_no a [] n = absurd (n refl)
blank_close_no a (arg ∷ args) n = refl

blank_no : (a : Arguments) (sort : Sort) (b : ℕ) → ends_argument sort ≡ true
    → (sort ≡ Close → a.args ≡ [] → ⊥)
    → call_arg_wanted_step a false sort b ≡ stop Name
blank_no a Comma b p n = refl
blank_no a Close b p n = blank_close_no a a.args (n refl)
blank_no a _ b p n = cc

closes_there : (bs : List ℕ) → first_sort bs ≡ Close → is_behind_spaces 41 bs ≡ false → ⊥
closes_there [] e h = cc
closes_there (b ∷ bs) e h =
    let f : b ≡ 41 = subst (λ s. SortIs s b) e (sort_is b) in
    let k : is_behind_spaces 41 (41 ∷ bs) ≡ false =
    subst (λ c. is_behind_spaces 41 (c ∷ bs) ≡ false) f h in
    cc

pub blank_stops : (a : Arguments) (bs : List ℕ) → ends_argument (first_sort bs) ≡ true
    → IsArgWanted a bs
    → run bs (call_arg_wanted a false) ≡ refused bs Name
blank_stops a bs p w =
    run-refused bs (call_arg_wanted a false) Name refl
    (λ b e. blank_no a (sort_of b) b (ap ends_argument (sym e) ∙ p)
    (λ k n. closes_there bs (e ∙ k) (w n)))

-- one more call and the spaces behind it
pub calls_plain : (heads : CallHeads) (had all : List PropertyCall) (call : PropertyCall)
    → all ≡ had ++ call ∷ []
    → may_be_plain (with_calls heads all) ≡ true
calls_plain heads had all call e =
    ap (λ list. may_be_plain (with_calls heads list)) e
    ∙ ap (λ list. may_be_plain
    (record { parts = heads.parts; subject = heads.subject; calls = list }))
    (sym (append_assoc heads.calls had (call ∷ [])))
    ∙ with_call-plain (with_calls heads had) call

pub call_read : (heads : CallHeads) (bs : List ℕ) (start : Outcome) (at end to : ℕ)
    (had all : List PropertyCall) (call : PropertyCall)
    → start ≡ run (drop at bs) (called (with_calls heads had))
    → first_sort (drop at bs) ≡ Dot
    → run (drop (at + 1) bs) (call_wanted (with_calls heads had)) ≡ run (drop end bs)
    (called (with_call (with_calls heads had) call))
    → all ≡ had ++ call ∷ []
    → run (drop end bs) (called (with_calls heads all)) ≡ run (drop to bs)
    (called (with_calls heads all))
    → start ≡ run (drop to bs) (called (with_calls heads all))
call_read heads bs start at end to had all call a d b e s =
    a ∙ run-at bs at (called (with_calls heads had)) (call_wanted (with_calls heads had)) Dot d
    (λ k. cc) refl ∙ b
    ∙ ap (λ list. run (drop end bs)
    (called (record { parts = heads.parts; subject = heads.subject; calls = list })))
    (append_assoc heads.calls had (call ∷ []))
    ∙ ap (λ list. run (drop end bs) (called (with_calls heads list))) (sym e) ∙ s

-- from the spaces before an argument on
pub wanted_spaces : (a : Arguments) (bs : List ℕ) (at to : ℕ) → at ≤ to
    → IsSpaces (take (to - at) (drop at bs))
    → run (drop at bs) (call_arg_wanted a false) ≡ run (drop to bs)
    (call_arg_wanted a (spaced_by false (take (to - at) (drop at bs))))
wanted_spaces a bs at to l s =
    ap (λ t. run t (call_arg_wanted a false)) (split_between bs at to l)
    ∙ spaces_wanted a false (take (to - at) (drop at bs)) (drop to bs) s

behind_spaces : (spaces bs : List ℕ) → IsSpaces spaces
    → is_behind_spaces 41 (spaces ++ bs) ≡ is_behind_spaces 41 bs
behind_spaces [] bs s = refl
behind_spaces (b ∷ spaces) bs s =
    ap (λ c. is_behind_spaces 41 (c ∷ (spaces ++ bs))) (eqb-true b 32 s.0)
    ∙ behind_spaces spaces bs s.1

not_behind : (bs : List ℕ) → (first_sort bs ≡ Space → ⊥) → (first_sort bs ≡ Close → ⊥)
    → is_behind_spaces 41 bs ≡ false
not_behind [] s c = refl
not_behind (b ∷ bs) s c = rw (other_byte b 41 c, other_byte b 32 s) refl

pub no_close : (bs : List ℕ) (at to : ℕ) → at ≤ to → IsSpaces (take (to - at) (drop at bs))
    → (first_sort (drop to bs) ≡ Space → ⊥)
    → (first_sort (drop to bs) ≡ Close → ⊥) → is_behind_spaces 41 (drop at bs) ≡ false
no_close bs at to l s n c =
    ap (is_behind_spaces 41) (split_between bs at to l)
    ∙ behind_spaces (take (to - at) (drop at bs)) (drop to bs) s ∙ not_behind (drop to bs) n c

spaced_there : (bs : List ℕ) (at to : ℕ) → at < to → to ≤ length bs
    → spaced_by false (take (to - at) (drop at bs)) ≡ true
spaced_there bs at to l w =
    some (take (to - at) (drop at bs)) (omega (arith, length-between bs at to (omega arith) w))
  where
    some : (spaces : List ℕ) → 0 < length spaces → spaced_by false spaces ≡ true
    some [] h = absurd (omega arith)
    some (b ∷ bs) h = refl

loose_step : (a : Arguments) (args : List (List Piece)) (spaced : Bool) (sort : Sort) (b : ℕ)
    → a.args ≡ args → (sort ≡ Space → ⊥)
    → (sort ≡ Quote → ⊥) → (ends_argument sort ≡ true → spaced ≡ true)
    → (sort ≡ Close → args ≡ [] → ⊥)
    → call_arg_wanted_step a spaced sort b ≡ text_step (inner (in_loose a) []) [] unmarked sort b
loose_step a args spaced Space b e s q p c = absurd (s refl)
loose_step a args spaced Quote b e s q p c = absurd (q refl)
loose_step a args spaced Comma b e s q p c = ap (λ x. blank_listed a x) (p refl)
loose_step a [] spaced Close b e s q p c = absurd (c refl refl)
loose_step a (arg ∷ args) spaced Close b e s q p c =
    ap (λ x. blank_closed a a.args x) (p refl) ∙ ap (λ list. blank_closed a list true) e
loose_step a args spaced _ b e s q p c = refl

-- from there on an argument without quotes is read
pub loose_there : (a : Arguments) (bs : List ℕ) (at to : ℕ) → IsArgWanted a (drop at bs) → at ≤ to
    → to ≤ length bs
    → IsSpaces (take (to - at) (drop at bs)) → (first_sort (drop to bs) ≡ Space → ⊥)
    → (first_sort (drop to bs) ≡ Quote → ⊥)
    → (ends_argument (first_sort (drop to bs)) ≡ true → at < to)
    → run (drop at bs) (call_arg_wanted a false) ≡ run (drop to bs)
    (in_text (inner (in_loose a) []) [] unmarked)
loose_there a bs at to w l g s n q p =
    let spaces : List ℕ = take (to - at) (drop at bs) in
    wanted_spaces a bs at to l s
    ∙ run-same (drop to bs) (call_arg_wanted a (spaced_by false spaces))
    (in_text (inner (in_loose a) []) [] unmarked) refl
    (λ b h. loose_step a a.args (spaced_by false spaces) (sort_of b) b refl (λ k. n (h ∙ k))
    (λ k. q (h ∙ k))
    (λ k. spaced_there bs at to (p (ap ends_argument h ∙ k)) g)
    (λ k e. closes_there (drop to bs) (h ∙ k) (sym (behind_spaces spaces (drop to bs) s)
    ∙ sym (ap (is_behind_spaces 41) (split_between bs at to l)) ∙ w e)))

pub quote_there : (a : Arguments) (bs : List ℕ) (at to : ℕ) → at ≤ to
    → IsSpaces (take (to - at) (drop at bs))
    → first_sort (drop to bs) ≡ Quote
    → run (drop at bs) (call_arg_wanted a false) ≡ run (drop (to + 1) bs)
    (in_text (inner (in_call a) []) [] unmarked)
quote_there a bs at to l s e =
    wanted_spaces a bs at to l s
    ∙ run-at bs to (call_arg_wanted a (spaced_by false (take (to - at) (drop at bs))))
    (in_text (inner (in_call a) []) [] unmarked) Quote e (λ k. cc) refl

-- where an argument without quotes ends
pub stop_there : (bs : List ℕ) → start_of Loose bs ≡ start.Stop
    → ends_argument (first_sort bs) ≡ true
stop_there bs e =
    let p : StartIs start.Stop Loose bs =
    start_is Loose bs start.Stop e in ap (λ x. ends_argument (first_sort x)) p.2 ∙ p.4

-- one more argument
pub argument_read : (heads : CallHeads) (function bs : List ℕ) (start : Outcome) (at end : ℕ)
    (had all : List (List Piece)) (arg : List Piece)
    → start ≡ run (drop at bs) (call_arg_wanted (with_all_args heads function had) false)
    → run (drop at bs) (call_arg_wanted (with_all_args heads function had) false) ≡ run
    (drop end bs) (call_arg_ended (with_arg (with_all_args heads function had) arg))
    → all ≡ had ++ arg ∷ []
    → start ≡ run (drop end bs) (call_arg_ended (with_all_args heads function all))
argument_read heads function bs start at end had all arg a b e =
    a ∙ b ∙ ap (λ list. run (drop end bs) (call_arg_ended (with_all_args heads function list)))
    (sym e)

-- a text may be cut behind spaces
pub spaces_cut : (bs : List ℕ) (at to : ℕ) → IsUtf8 bs → IsCharBoundary bs at → at ≤ to
    → to ≤ length bs
    → IsSpaces (take (to - at) (drop at bs)) → IsCharBoundary bs to
spaces_cut bs at to u c l w s = by (split at to l)
  where
    split : (at to : ℕ) → at ≤ to → (at < to) ⊎ (at ≡ to)
    split at to l = grind arith

    last : at < to → get_or bs (to - 1) 0 ≡ 32
    last h =
        let i : to - at - 1 < length (take (to - at) (drop at bs)) =
        omega (arith, length-between bs at to (omega arith) w) in
        let same : get_or (take (to - at) (drop at bs)) (to - at - 1) 0 ≡ get_or bs (to - 1) 0 =
        get_or-between bs at to (to - at - 1) (omega arith)
        ∙ ap (λ n. get_or bs n 0) (omega arith) in
        sym same ∙ eqb-true (get_or (take (to - at) (drop at bs)) (to - at - 1) 0) 32
        (Every-at (λ b. b == 32) (take (to - at) (drop at bs)) (to - at - 1) s i)

    by : (at < to) ⊎ (at ≡ to) → IsCharBoundary bs to
    by (inl h) =
        let b : get_or bs (to - 1) 0 ≡ 32 = last h in
        subst (λ n. IsCharBoundary bs n) (omega arith)
        (IsCharBoundary-after_ascii bs (to - 1) u (omega arith) (omega arith))
    by (inr e) = subst (λ n. IsCharBoundary bs n) e c

stop_no_space : (bs : List ℕ) → ends_argument (first_sort bs) ≡ true → first_sort bs ≡ Space → ⊥
stop_no_space bs e s = let k : false ≡ true = sym (ap ends_argument s) ∙ e in cc

pub no_space_there : (bs : List ℕ) → start_of Loose bs ≡ start.Stop → first_sort bs ≡ Space → ⊥
no_space_there bs e s = stop_no_space bs (stop_there bs e) s

-- what stops there is a `,` or a `)`
pub stops_at_part : (bs : List ℕ) (sort : Sort) → first_sort bs ≡ sort → ends_argument sort ≡ false
    → start_of Loose bs ≡ start.Stop → ⊥
stops_at_part bs sort f n e =
    let k : false ≡ true = sym n ∙ sym (ap ends_argument f) ∙ stop_there bs e in cc

-- no argument stands there
pub blank_there : (a : Arguments) (bs : List ℕ) (at to : ℕ) → at ≡ to
    → ends_argument (first_sort (drop to bs)) ≡ true
    → IsArgWanted a (drop at bs)
    → run (drop at bs) (call_arg_wanted a false) ≡ refused (drop to bs) Name
blank_there a bs at to e p w =
    blank_stops a (drop at bs) (ap (λ n. ends_argument (first_sort (drop n bs))) e ∙ p) w
    ∙ ap (λ n. refused (drop n bs) Name) e

-- no argument is missing where one of spaces alone may stand
pub grows_there : (at to : ℕ) (e : Bool) → at ≤ to → (at ≡ to → e ≡ false) → e ≡ true → at < to
grows_there at to e l n t = by (cases_lt at to)
  where
    by : (at < to) ⊎ (to ≤ at) → at < to
    by (inl h) = h
    by (inr g) = absurd (false≢true (sym (n (omega arith)) ∙ t))

-- what an answer of a call says of another
pub ok_so : {X E : Type 0} (r : Result X E) (P Q : X → Type 0) → ((x : X) → P x → Q x) → IfOk r P
    → IfOk r Q
ok_so (Ok x) P Q so h = so x h
ok_so (Err e) P Q so h = h
