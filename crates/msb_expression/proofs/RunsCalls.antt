-- The machine over the calls of a property function.
use Rattle.std.proofs.Common.{
  ◌≡◌,
  ℕ,
  ◌<◌,
  Bool,
  true,
  false,
  eqb,
  List,
  [],
  ◌∷◌,
  ◌++◌,
  length,
  Option,
  Some,
  None,
  refl,
  sym,
  ap,
  ◌∙◌,
  subst,
  append_assoc,
  length-append,
  arith,
  ◌⊎◌,
  inl,
  inr,
}
use Rattle.std.specs.Prelude.{◌==◌, ◌||◌, not, is_some, IsSome, codes}
use Rattle.std.specs.Char.{to_ascii_lowercase}
use Rattle.std.specs.Str.{str_to_ascii_lowercase}
use Rattle.std.proofs.lemmas.List.{append-nil}
use Rattle.std.proofs.lemmas.Bool.{eqb-true}
use Rattle.std.proofs.lemmas.Bool.Decides.{nat_tests}
use Rattle.msb_expression.specs.declared.starts.Inside.TheVariants.{Quoted, Loose}
use Rattle.msb_expression.specs.declared.expression.Part.{Part}
use Rattle.msb_expression.specs.declared.expression.Part.TheVariants.{Func}
use Rattle.msb_expression.specs.declared.expression.Call.{Call as PropertyCall}
use Rattle.msb_expression.specs.declared.expression.Piece.{Piece}
use Rattle.msb_expression.specs.declared.expression.Piece.TheVariants.{
  Plain as PlainPiece,
  Prop as PropPiece,
  Meta as MetaPiece,
}
use Rattle.msb_expression.specs.declared.sorts.Sort.{Sort}
use Rattle.msb_expression.specs.declared.sorts.Sort.TheVariants.{Space, Quote, Close, Comma, Dot}
use Rattle.msb_expression.specs.declared.sorts.Kind.TheVariants.{Name}
use Rattle.msb_expression.specs.Grammar.{
  opens,
  is_quotable,
  is_end_quote,
  IsSpaces,
  IsNamed,
  IsPlainText,
  Joins,
  Apart,
  IsPiece,
  is_plain_piece,
  IsQuoted,
  begins_space,
  trimmed_pieces,
  IsArgument,
  IsNextArgument,
  IsArguments,
  IsParenthesized,
  IsCall,
  IsNextCall,
  IsFunction,
  IsPart,
}
use Rattle.msb_expression.specs.Machine.{
  ends_argument,
  sort_of,
  first_sort,
  is_name_sort,
  CallHeads,
  Arguments,
  in_call,
  in_loose,
  whole,
  inner,
  Mark,
  unmarked,
  property,
  Mode,
  in_text,
  name_ended,
  property_opened,
  build_opened,
  build_next,
  call_wanted,
  call_ended,
  called,
  call_arg_wanted,
  call_arg_ended,
  go,
  stop,
  settled,
  flushed_pieces,
  call_heads,
  with_call,
  with_calls,
  property_call,
  arguments_of,
  with_all_args,
  with_arg,
  calls_closed,
  may_be_plain,
  text_step,
  call_arg_wanted_step,
  call_arg_ended_step,
  blank_closed,
  call_ended_step,
  called_step,
  unless_first,
  run,
}
use Rattle.msb_expression.proofs.Bytes.{SortIs, sort_is}
use Rattle.msb_expression.proofs.Joined.{append_some}
use Rattle.msb_expression.proofs.PlainText.{or_right}
use Rattle.msb_expression.proofs.Runs.{
  run-go,
  run-head,
  picked,
  run-same,
  run-spaces,
  run-named,
  run-call_named,
  run-opened,
  named_first,
}
use Rattle.msb_expression.proofs.RunsText.{reach_property}
use Rattle.msb_expression.proofs.RunsPieces.{OverAt, pieces_to, pieces_run}

-- the end of an argument without quotes
stop_same : (a : Arguments) (had : List Piece) (plain : List ℕ) (mark : Mark) (sort : Sort) (b : ℕ)
    → ends_argument sort ≡ true
    → text_step (inner (in_loose a) had) plain mark sort b ≡ text_step
    (inner (in_loose a) (flushed_pieces had (settled plain mark))) [] unmarked sort b
stop_same a had plain mark Comma b p = refl
stop_same a had plain mark Close b p = refl
stop_same a had plain mark _ b p = cc

pub over_stop : (a : Arguments) (had : List Piece) (rest : List ℕ)
    → ends_argument (first_sort rest) ≡ true
    → OverAt (inner (in_loose a) had) rest
over_stop a had rest p = λ plain mark.
    run-same rest (in_text (inner (in_loose a) had) plain mark)
    (in_text (inner (in_loose a) (flushed_pieces had (settled plain mark))) [] unmarked) refl
    (λ b h. stop_same a had plain mark (sort_of b) b (ap ends_argument (sym h) ∙ p))

ended_same : (a : Arguments) (read : List Piece) (sort : Sort) (b : ℕ) → ends_argument sort ≡ true
    → text_step (inner (in_loose a) read) [] unmarked sort b ≡ call_arg_ended_step
    (with_arg a (trimmed_pieces read)) sort
ended_same a read Comma b p = refl
ended_same a read Close b p = refl
ended_same a read _ b p = cc

pub loose-ended : (a : Arguments) (read : List Piece) (rest : List ℕ)
    → ends_argument (first_sort rest) ≡ true
    → run rest (in_text (inner (in_loose a) read) [] unmarked) ≡ run rest
    (call_arg_ended (with_arg a (trimmed_pieces read)))
loose-ended a read rest p =
    run-same rest (in_text (inner (in_loose a) read) [] unmarked)
    (call_arg_ended (with_arg a (trimmed_pieces read))) refl
    (λ b h. ended_same a read (sort_of b) b (ap ends_argument (sym h) ∙ p))

-- spaces where an argument may begin
abbrev pub spaced_by : Bool → List ℕ → Bool
spaced_by spaced [] = spaced
spaced_by spaced (b ∷ bs) = true

pub spaces_wanted : (a : Arguments) (spaced : Bool) (spaces rest : List ℕ) → IsSpaces spaces
    → run (spaces ++ rest) (call_arg_wanted a spaced) ≡ run rest
    (call_arg_wanted a (spaced_by spaced spaces))
spaces_wanted a spaced [] rest s = refl
spaces_wanted a spaced (b ∷ bs) rest s =
    ap (λ c. run (c ∷ (bs ++ rest)) (call_arg_wanted a spaced)) (eqb-true b 32 s.0)
    ∙ run-go 32 (bs ++ rest) (call_arg_wanted a spaced) (call_arg_wanted a true) refl
    ∙ run-spaces (call_arg_wanted a true) bs rest refl s.1

-- where a byte of an argument without quotes stands
record LooseStart (text : List ℕ) : Type 0 where
  byte : ℕ
  more : List ℕ
  split : text ≡ byte ∷ more
  unquotable : is_quotable byte ≡ false
  ends_none : is_end_quote Loose byte ≡ false

starts_plain : (plain rest : List ℕ) → IsPlainText Loose plain → LooseStart (plain ++ rest)
starts_plain [] rest h = absurd (omega (arith, h.0))
starts_plain (b ∷ bs) rest h = record {
  byte = b;
  more = bs ++ rest;
  split = refl;
  unquotable = or_right (opens 36 (b ∷ bs)) (is_quotable b) h.1.0;
  ends_none = h.1.1;
}

starts : (text : List ℕ) (read : List Piece) → Joins (IsPiece Loose) text read → 0 < length text
    → LooseStart text
starts text [] j l = let k = ap length j in absurd (omega (arith, k, l))
starts text (PlainPiece plain ∷ read) j l =
    subst (λ t. LooseStart t) (sym (j.2 ∙ ap (λ t. t ++ j.1) j.3.1)) (starts_plain plain j.1 j.3.0)
starts text (PropPiece name ∷ read) j l =
    subst (λ t. LooseStart t) (sym (j.2 ∙ ap (λ t. t ++ j.1) j.3.2))
    (record {
      byte = 36;
      more = 40 ∷ ((j.3.0 ++ 41 ∷ []) ++ j.1);
      split = refl;
      unquotable = refl;
      ends_none = refl;
    })
starts text (MetaPiece name ∷ read) j l = let k = j.3.0 in cc

begin_same : (a : Arguments) (spaced : Bool) (sort : Sort) (b : ℕ) → SortIs sort b
    → is_quotable b ≡ false
    → is_end_quote Loose b ≡ false → eqb b 32 ≡ false
    → call_arg_wanted_step a spaced sort b ≡ text_step (inner (in_loose a) []) [] unmarked sort b
begin_same a spaced Space b f q e n = let k = sym (ap (λ c. eqb c 32) f) ∙ n in cc
begin_same a spaced Quote b f q e n = let k = sym (ap is_quotable f) ∙ q in cc
begin_same a spaced Close b f q e n = let k = sym (ap (is_end_quote Loose) f) ∙ e in cc
begin_same a spaced Comma b f q e n = let k = sym (ap (is_end_quote Loose) f) ∙ e in cc
begin_same a spaced _ b f q e n = refl

loose_begins : (a : Arguments) (spaced : Bool) (text rest : List ℕ) → LooseStart text
    → begins_space text ≡ false
    → run (text ++ rest) (call_arg_wanted a spaced) ≡ run (text ++ rest)
    (in_text (inner (in_loose a) []) [] unmarked)
loose_begins a spaced text rest s n =
    let split : text ++ rest ≡ s.byte ∷ (s.more ++ rest) = ap (λ t. t ++ rest) s.split in
    let no_space : eqb s.byte 32 ≡ false = sym (ap begins_space s.split) ∙ n in
    let step =
    begin_same a spaced (sort_of s.byte) s.byte
    (sort_is s.byte) s.unquotable s.ends_none no_space in
    ap (λ t. run t (call_arg_wanted a spaced)) split
    ∙ run-head s.byte (s.more ++ rest) (call_arg_wanted a spaced)
    (in_text (inner (in_loose a) []) [] unmarked) step
    ∙ ap (λ t. run t (in_text (inner (in_loose a) []) [] unmarked)) (sym split)

-- spaces alone, where they are an argument
blank_same : (a : Arguments) (args : List (List Piece)) (sort : Sort) (b : ℕ) → a.args ≡ args
    → ends_argument sort ≡ true
    → (args ≡ [] → sort ≡ Close → ⊥)
    → call_arg_wanted_step a true sort b ≡ call_arg_ended_step (with_arg a []) sort
blank_same a args Comma b e p n = refl
blank_same a [] Close b e p n = absurd (n refl refl)
blank_same a (arg ∷ args) Close b e p n = ap (λ list. blank_closed a list true) e
blank_same a args _ b e p n = cc

blank_runs : (a : Arguments) (rest : List ℕ) → ends_argument (first_sort rest) ≡ true
    → (a.args ≡ [] → first_sort rest ≡ Close → ⊥)
    → run rest (call_arg_wanted a true) ≡ run rest (call_arg_ended (with_arg a []))
blank_runs a rest p n =
    run-same rest (call_arg_wanted a true) (call_arg_ended (with_arg a [])) refl
    (λ b h. blank_same a a.args (sort_of b) b refl (ap ends_argument (sym h) ∙ p)
    (λ e k. n e (h ∙ k)))

-- an argument, up to the `,` or the `)` behind it
quoted_argument : (a : Arguments) (text : List ℕ) (pieces : List Piece) (rest : List ℕ)
    → IsQuoted Quoted text pieces
    → run (text ++ rest) (call_arg_wanted a false) ≡ run rest (call_arg_ended (with_arg a pieces))
quoted_argument a text pieces rest q =
    ap (λ t. run t (call_arg_wanted a false)) (ap (λ t. t ++ rest) q.5 ∙ simp append_assoc)
    ∙ spaces_wanted a false q.0 (39 ∷ (q.1 ++ 39 ∷ rest)) q.2
    ∙ run-go 39 (q.1 ++ 39 ∷ rest) (call_arg_wanted a (spaced_by false q.0))
    (in_text (inner (in_call a) []) [] unmarked) refl
    ∙ pieces_run (in_call a) [] pieces q.1 rest (λ e. cc) q.3 q.4

no_text : (read : List Piece) → Joins (IsPiece Loose) [] read → read ≡ []
no_text [] j = refl
no_text (PlainPiece plain ∷ read) j =
    let k =
    j.2 ∙ ap (λ t. t ++ j.1) j.3.1 in
    absurd (omega (arith, ap length k, length-append plain j.1, j.3.0.0))
no_text (PropPiece name ∷ read) j = let k = j.2 ∙ ap (λ t. t ++ j.1) j.3.2 in cc
no_text (MetaPiece name ∷ read) j = let k = j.3.0 in cc

loose_argument : (a : Arguments) (spaced : Bool) (text : List ℕ) (read : List Piece) (rest : List ℕ)
    → begins_space text ≡ false → Joins (IsPiece Loose) text read → Apart is_plain_piece read
    → ends_argument (first_sort rest) ≡ true → (text ≡ [] → spaced ≡ true)
    → (a.args ≡ [] → text ≡ [] → first_sort rest ≡ Close → ⊥)
    → run (text ++ rest) (call_arg_wanted a spaced) ≡ run rest
    (call_arg_ended (with_arg a (trimmed_pieces read)))
loose_argument a spaced [] read rest n j p e s c =
    ap (λ x. run rest (call_arg_wanted a x)) (s refl) ∙ blank_runs a rest e (λ x k. c x refl k)
    ∙ ap (λ ps. run rest (call_arg_ended (with_arg a (trimmed_pieces ps)))) (sym (no_text read j))
loose_argument a spaced (b ∷ bs) read rest n j p e s c =
    loose_begins a spaced (b ∷ bs) rest (starts (b ∷ bs) read j (omega arith)) n
    ∙ pieces_to (in_loose a) [] read (b ∷ bs) rest j p (λ some. over_stop a some rest e)
    ∙ loose-ended a read rest e

spaced_some : (spaces : List ℕ) → 0 < length spaces → spaced_by false spaces ≡ true
spaced_some [] l = absurd (omega arith)
spaced_some (b ∷ bs) l = refl

argument_runs : (a : Arguments) (text : List ℕ) (pieces : List Piece) (rest : List ℕ)
    → IsArgument text pieces
    → ends_argument (first_sort rest) ≡ true
    → (a.args ≡ [] → IsSpaces text → first_sort rest ≡ Close → ⊥)
    → run (text ++ rest) (call_arg_wanted a false) ≡ run rest (call_arg_ended (with_arg a pieces))
argument_runs a text pieces rest (inl q) e c =
    ap (λ t. run t (call_arg_wanted a false)) (ap (λ t. t ++ rest) q.4 ∙ append_assoc q.0 q.1 rest)
    ∙ quoted_argument a q.0 pieces (q.1 ++ rest) q.2
    ∙ run-spaces (call_arg_ended (with_arg a pieces)) q.1 rest refl q.3
argument_runs a text pieces rest (inr l) e c =
    ap (λ t. run t (call_arg_wanted a false)) (ap (λ t. t ++ rest) l.9 ∙ append_assoc l.0 l.1 rest)
    ∙ spaces_wanted a false l.0 (l.1 ++ rest) l.4
    ∙ loose_argument a (spaced_by false l.0) l.1 l.2 rest l.5 l.6 l.7 e
    (λ k. spaced_some l.0
    (omega (arith, l.3, ap length l.9, ap length k, length-append l.0 l.1)))
    (λ x k z. c x (subst (λ t. IsSpaces t) (sym (l.9 ∙ ap (λ t. l.0 ++ t) k ∙ append-nil l.0))
    l.4) z)
    ∙ ap (λ ps. run rest (call_arg_ended (with_arg a ps))) l.8

next_first : (text : List ℕ) (more : List (List Piece)) (rest : List ℕ)
    → Joins IsNextArgument text more
    → ends_argument (first_sort (text ++ 41 ∷ rest)) ≡ true
next_first text [] rest h = ap (λ t. ends_argument (first_sort (t ++ 41 ∷ rest))) h
next_first text (arg ∷ more) rest h =
    ap (λ t. ends_argument (first_sort (t ++ 41 ∷ rest))) (h.2 ∙ ap (λ t. t ++ h.1) h.3.2)

next_run : (a : Arguments) (more : List (List Piece)) (text rest : List ℕ) → (a.args ≡ [] → ⊥)
    → Joins IsNextArgument text more
    → run (text ++ 41 ∷ rest) (call_arg_ended a) ≡ run (41 ∷ rest)
    (call_arg_ended (with_all_args a.heads a.function (a.args ++ more)))
next_run a [] text rest n h =
    ap (λ t. run (t ++ 41 ∷ rest) (call_arg_ended a)) h
    ∙ ap (λ list. run (41 ∷ rest) (call_arg_ended (with_all_args a.heads a.function list)))
    (sym (append-nil a.args))
next_run a (arg ∷ more) text rest n h =
    ap (λ t. run t (call_arg_ended a)) (ap (λ t. t ++ 41 ∷ rest) (h.2 ∙ ap (λ t. t ++ h.1) h.3.2)
    ∙ simp append_assoc)
    ∙ run-go 44 (h.3.0 ++ (h.1 ++ 41 ∷ rest)) (call_arg_ended a) (call_arg_wanted a false) refl
    ∙ argument_runs a h.3.0 arg (h.1 ++ 41 ∷ rest) h.3.1 (next_first h.1 more rest h.4)
    (λ e x y. n e)
    ∙ next_run (with_arg a arg) more h.1 rest (append_some a.args arg) h.4
    ∙ ap (λ list. run (41 ∷ rest) (call_arg_ended (with_all_args a.heads a.function list)))
    (append_assoc a.args (arg ∷ []) more)

only_blank : (first others : List ℕ) (args : List (List Piece)) (rest : List ℕ)
    → Joins IsNextArgument others args
    → (IsSpaces (first ++ others) → ⊥) → IsSpaces first → first_sort (others ++ 41 ∷ rest) ≡ Close
    → ⊥
only_blank first others [] rest h n s e =
    n (subst (λ t. IsSpaces t) (sym (ap (λ t. first ++ t) h ∙ append-nil first)) s)
only_blank first others (arg ∷ args) rest h n s e =
    let k : Comma ≡ Close =
    sym (ap (λ t. first_sort (t ++ 41 ∷ rest)) (h.2 ∙ ap (λ t. t ++ h.1) h.3.2)) ∙ e in cc

pub arguments_run : (heads : CallHeads) (function : List ℕ) (args : List (List Piece))
    (text rest : List ℕ)
    → IsArguments text args
    → run (text ++ 41 ∷ rest) (call_arg_wanted (arguments_of heads function) false) ≡ run rest
    (called (with_call heads (property_call function (Some args))))
arguments_run heads function [] text rest h =
    spaces_wanted (arguments_of heads function) false text (41 ∷ rest) h
    ∙ run-go 41 rest (call_arg_wanted (arguments_of heads function) (spaced_by false text))
    (called (with_call heads (property_call function (Some [])))) refl
arguments_run heads function (arg ∷ args) text rest h =
    ap (λ t. run t (call_arg_wanted (arguments_of heads function) false))
    (ap (λ t. t ++ 41 ∷ rest) h.5 ∙ append_assoc h.0 h.1 (41 ∷ rest))
    ∙ argument_runs (arguments_of heads function) h.0 arg (h.1 ++ 41 ∷ rest) h.2
    (next_first h.1 args rest h.3)
    (λ e s k. only_blank h.0 h.1 args rest h.3 (λ x. h.4 (subst (λ t. IsSpaces t) (sym h.5) x))
    s k)
    ∙ next_run (with_arg (arguments_of heads function) arg) args h.1 rest (append_some [] arg) h.3
    ∙ run-go 41 rest (call_arg_ended (with_all_args heads function (arg ∷ args)))
    (called (with_call heads (property_call function (Some (arg ∷ args))))) refl

-- behind a call and the spaces after it: its name alone, or its `)`
abbrev pub behind_args : CallHeads → List ℕ → Option (List (List Piece)) → Mode
behind_args heads function None = call_ended heads function
behind_args heads function (Some args) =
    called (with_call heads (property_call function (Some args)))

abbrev pub behind_call : CallHeads → PropertyCall → Mode
behind_call heads call = behind_args heads call.name call.args

-- a call, with its parentheses or without
parens_run : (heads : CallHeads) (function : List ℕ) (args : Option (List (List Piece)))
    (named parens rest : List ℕ)
    → IsNamed named function → IsParenthesized parens args → is_name_sort (first_sort rest) ≡ false
    → run (named ++ (parens ++ rest)) (call_wanted heads) ≡ run rest
    (behind_args heads function args)
parens_run heads function None named parens rest n p e =
    ap (λ t. run (named ++ (t ++ rest)) (call_wanted heads)) p
    ∙ run-call_named heads named function rest n e
parens_run heads function (Some args) named parens rest n p e =
    ap (λ t. run (named ++ t) (call_wanted heads)) (ap (λ t. t ++ rest) p.4 ∙ simp append_assoc)
    ∙ run-call_named heads named function (40 ∷ (p.0 ++ 41 ∷ (p.1 ++ rest))) n refl
    ∙ run-go 40 (p.0 ++ 41 ∷ (p.1 ++ rest)) (call_ended heads function)
    (call_arg_wanted (arguments_of heads function) false) refl
    ∙ arguments_run heads function args p.0 (p.1 ++ rest) p.2
    ∙ run-spaces (called (with_call heads (property_call function (Some args)))) p.1 rest refl p.3

pub call_runs : (heads : CallHeads) (call : PropertyCall) (text rest : List ℕ) → IsCall text call
    → is_name_sort (first_sort rest) ≡ false
    → run (text ++ rest) (call_wanted heads) ≡ run rest (behind_call heads call)
call_runs heads call text rest c e =
    ap (λ t. run t (call_wanted heads)) (ap (λ t. t ++ rest) c.4 ∙ append_assoc c.0 c.1 rest)
    ∙ parens_run heads call.name call.args c.0 c.1 rest c.2 c.3 e

-- what may follow a call
abbrev pub follows_call : Sort → Bool
follows_call Dot = true
follows_call Close = true
follows_call _ = false

pub unless_first-go : (heads : CallHeads) (mode : Mode) → may_be_plain heads ≡ true
    → unless_first heads mode ≡ go mode
unless_first-go heads mode e = picked (may_be_plain heads) mode e

plain_same : (heads : CallHeads) (function : List ℕ) (sort : Sort) → may_be_plain heads ≡ true
    → follows_call sort ≡ true
    → call_ended_step heads function sort ≡ called_step
    (with_call heads (property_call function None)) sort
plain_same heads function Dot m e = unless_first-go heads _ m
plain_same heads function Close m e = unless_first-go heads _ m
plain_same heads function _ m e = cc

args_done : (heads : CallHeads) (function : List ℕ) (args : Option (List (List Piece)))
    (rest : List ℕ)
    → (may_be_plain heads ≡ true) ⊎ (IsSome args) → follows_call (first_sort rest) ≡ true
    → run rest (behind_args heads function args) ≡ run rest
    (called (with_call heads (property_call function args)))
args_done heads function None rest (inl m) e =
    run-same rest (call_ended heads function)
    (called (with_call heads (property_call function None))) refl
    (λ b h. plain_same heads function (sort_of b) m (ap follows_call (sym h) ∙ e))
args_done heads function None rest (inr m) e = cc
args_done heads function (Some args) rest m e = refl

pub call_done : (heads : CallHeads) (call : PropertyCall) (rest : List ℕ)
    → (may_be_plain heads ≡ true) ⊎ (IsSome call.args)
    → follows_call (first_sort rest) ≡ true
    → run rest (behind_call heads call) ≡ run rest (called (with_call heads call))
call_done heads call rest m e = args_done heads call.name call.args rest m e

-- further calls
pub calls_first : (text : List ℕ) (calls : List PropertyCall) (rest : List ℕ)
    → Joins IsNextCall text calls
    → follows_call (first_sort (text ++ 41 ∷ rest)) ≡ true
calls_first text [] rest h = ap (λ t. follows_call (first_sort (t ++ 41 ∷ rest))) h
calls_first text (call ∷ calls) rest h =
    ap (λ t. follows_call (first_sort (t ++ 41 ∷ rest))) (h.2 ∙ ap (λ t. t ++ h.1) h.3.2)

follows_no_name : (sort : Sort) → follows_call sort ≡ true → is_name_sort sort ≡ false
follows_no_name Dot e = refl
follows_no_name Close e = refl
follows_no_name _ e = cc

some_calls : (calls : List PropertyCall) (call : PropertyCall)
    → not (length (calls ++ call ∷ []) == 0) ≡ true
some_calls calls call = by (length (calls ++ call ∷ []) == 0) refl
  where
    by : (t : Bool) → (length (calls ++ call ∷ []) == 0) ≡ t → not t ≡ true
    by true e =
        absurd (omega (
          arith,
          length-append calls (call ∷ []),
          eqb-true (length (calls ++ call ∷ [])) 0 e,
        ))
    by false e = refl

or_is : (a b : Bool) → b ≡ true → (a || b) ≡ true
or_is true b e = refl
or_is false b e = e

pub with_call-plain : (heads : CallHeads) (call : PropertyCall)
    → may_be_plain (with_call heads call) ≡ true
with_call-plain heads call =
    or_is (is_some heads.subject) (not (length (heads.calls ++ call ∷ []) == 0))
    (some_calls heads.calls call)

pub calls_run : (heads : CallHeads) (calls : List PropertyCall) (text rest : List ℕ)
    → may_be_plain heads ≡ true
    → Joins IsNextCall text calls
    → run (text ++ 41 ∷ rest) (called heads) ≡ run (41 ∷ rest) (called (with_calls heads calls))
calls_run heads [] text rest m h =
    ap (λ t. run (t ++ 41 ∷ rest) (called heads)) h
    ∙ ap (λ list. run (41 ∷ rest)
    (called (record { parts = heads.parts; subject = heads.subject; calls = list })))
    (sym (append-nil heads.calls))
calls_run heads (call ∷ calls) text rest m h =
    let first = calls_first h.1 calls rest h.4 in
    ap (λ t. run t (called heads)) (ap (λ t. t ++ 41 ∷ rest) (h.2 ∙ ap (λ t. t ++ h.1) h.3.2)
    ∙ simp append_assoc)
    ∙ run-go 46 (h.3.0 ++ (h.1 ++ 41 ∷ rest)) (called heads) (call_wanted heads) refl
    ∙ call_runs heads call h.3.0 (h.1 ++ 41 ∷ rest) h.3.1
    (follows_no_name (first_sort (h.1 ++ 41 ∷ rest)) first)
    ∙ call_done heads call (h.1 ++ 41 ∷ rest) (inl m) first
    ∙ calls_run (with_call heads call) calls h.1 rest (with_call-plain heads call) h.4
    ∙ ap (λ list. run (41 ∷ rest)
    (called (record { parts = heads.parts; subject = heads.subject; calls = list })))
    (append_assoc heads.calls (call ∷ []) calls)

calls_to_end : (heads : CallHeads) (calls : List PropertyCall) (text rest : List ℕ)
    → may_be_plain heads ≡ true
    → Joins IsNextCall text calls
    → run (text ++ 41 ∷ rest) (called heads) ≡ run rest (calls_closed (with_calls heads calls))
calls_to_end heads calls text rest m h =
    calls_run heads calls text rest m h
    ∙ run-go 41 rest (called (with_calls heads calls)) (calls_closed (with_calls heads calls)) refl

-- `[MSBuild]::`
left_runs : (parts : List Part) (left head rest : List ℕ) → str_to_ascii_lowercase head ≡ left
    → run (head ++ rest) (build_next parts left) ≡ run rest (call_wanted (call_heads parts None))
left_runs parts [] [] rest e = refl
left_runs parts [] (b ∷ bs) rest e = cc
left_runs parts (wanted ∷ left) [] rest e = cc
left_runs parts (wanted ∷ left) (b ∷ bs) rest e =
    run-go b (bs ++ rest) (build_opened parts (wanted ∷ left)) (build_next parts left)
    (picked (to_ascii_lowercase b == wanted) (build_next parts left)
    (same_byte (to_ascii_lowercase b) wanted (head_same _ _ _ _ e)))
    ∙ left_runs parts left bs rest (tail_same _ _ _ _ e)
  where
    head_same : (x y : ℕ) (xs ys : List ℕ) → x ∷ xs ≡ y ∷ ys → x ≡ y
    head_same x y xs ys e = cc

    tail_same : (x y : ℕ) (xs ys : List ℕ) → x ∷ xs ≡ y ∷ ys → xs ≡ ys
    tail_same x y xs ys e = cc

    same_byte : (x y : ℕ) → x ≡ y → (x == y) ≡ true
    same_byte x y e = grind (arith, nat_tests)

pub lower_bracket : (b : ℕ) → to_ascii_lowercase b ≡ 91 → b ≡ 91
lower_bracket b e = grind (arith, nat_tests)

build_runs : (parts : List Part) (head rest : List ℕ)
    → str_to_ascii_lowercase head ≡ codes "[msbuild]::"
    → run (head ++ rest) (property_opened parts) ≡ run rest (call_wanted (call_heads parts None))
build_runs parts [] rest e = cc
build_runs parts (b ∷ bs) rest e =
    let p : b ≡ 91 = lower_bracket b (head_is e) in
    ap (λ c. run (c ∷ (bs ++ rest)) (property_opened parts)) p
    ∙ run-go 91 (bs ++ rest) (property_opened parts) (build_opened parts (codes "msbuild]::")) refl
    ∙ left_runs parts (codes "msbuild]::") bs rest (tail_is e)
  where
    head_is : to_ascii_lowercase b ∷ str_to_ascii_lowercase bs ≡ 91 ∷ codes "msbuild]::"
        → to_ascii_lowercase b ≡ 91
    head_is e = cc

    tail_is : to_ascii_lowercase b ∷ str_to_ascii_lowercase bs ≡ 91 ∷ codes "msbuild]::"
        → str_to_ascii_lowercase bs ≡ codes "msbuild]::"
    tail_is e = cc

-- behind a property's name
property_dot : (parts : List Part) (name more : List ℕ)
    → run (46 ∷ more) (name_ended (whole parts) property name) ≡ run (46 ∷ more)
    (called (call_heads parts (Some name)))
property_dot parts name more =
    run-head 46 more (name_ended (whole parts) property name)
    (called (call_heads parts (Some name))) refl

property_first : (parts : List Part) (name text : List ℕ) (calls : List PropertyCall)
    (rest : List ℕ) → 0 < length calls
    → Joins IsNextCall text calls
    → (run (text ++ rest) (name_ended (whole parts) property name) ≡ run (text ++ rest)
    (called (call_heads parts (Some name))))
    × (is_name_sort (first_sort (text ++ rest)) ≡ false)
property_first parts name text [] rest l h = absurd (omega arith)
property_first parts name text (call ∷ calls) rest l h =
    let split : text ++ rest ≡ 46 ∷ (h.3.0 ++ (h.1 ++ rest)) =
    ap (λ t. t ++ rest) (h.2 ∙ ap (λ t. t ++ h.1) h.3.2) ∙ simp append_assoc in (
      ap (λ t. run t (name_ended (whole parts) property name)) split
          ∙ property_dot parts name (h.3.0 ++ (h.1 ++ rest))
          ∙ ap (λ t. run t (called (call_heads parts (Some name)))) (sym split),
      ap (λ t. is_name_sort (first_sort t)) split,
    )

opened_runs : (parts : List Part) (function : List ℕ) (subject : Option (List ℕ))
    (calls : List PropertyCall) (rest : List ℕ)
    → IsFunction function subject calls
    → run (function ++ 41 ∷ rest) (property_opened parts) ≡ run rest
    (calls_closed (with_calls (call_heads parts subject) calls))
opened_runs parts function (Some name) calls rest h =
    let f = property_first parts name h.1 calls (41 ∷ rest) h.4 h.3 in
    let split : function ++ 41 ∷ rest ≡ h.0 ++ (h.1 ++ 41 ∷ rest) =
    ap (λ t. t ++ 41 ∷ rest) h.5 ∙ append_assoc h.0 h.1 (41 ∷ rest) in
    ap (λ t. run t (property_opened parts)) split
    ∙ run-opened parts (h.0 ++ (h.1 ++ 41 ∷ rest)) (named_first h.0 name (h.1 ++ 41 ∷ rest) h.2)
    ∙ run-named (whole parts) property h.0 name (h.1 ++ 41 ∷ rest) h.2 f.1
    ∙ f.0 ∙ calls_to_end (call_heads parts (Some name)) calls h.1 rest refl h.3
opened_runs parts function None [] rest h = absurd h
opened_runs parts function None (call ∷ calls) rest h =
    let first = calls_first h.2 calls rest h.6 in
    let split : function ++ 41 ∷ rest ≡ h.0 ++ (h.1 ++ (h.2 ++ 41 ∷ rest)) =
    ap (λ t. t ++ 41 ∷ rest) h.7 ∙ simp append_assoc in
    ap (λ t. run t (property_opened parts)) split
    ∙ build_runs parts h.0 (h.1 ++ (h.2 ++ 41 ∷ rest)) h.3
    ∙ call_runs (call_heads parts None) call h.1 (h.2 ++ 41 ∷ rest) h.4
    (follows_no_name (first_sort (h.2 ++ 41 ∷ rest)) first)
    ∙ call_done (call_heads parts None) call (h.2 ++ 41 ∷ rest) (inr h.5) first
    ∙ calls_to_end (with_call (call_heads parts None) call) calls h.2 rest
    (with_call-plain (call_heads parts None) call) h.6

pub function_runs : (parts : List Part) (subject : Option (List ℕ)) (calls : List PropertyCall)
    (text rest : List ℕ)
    → IsPart text (Func subject calls)
    → run (text ++ rest) (in_text (whole parts) [] unmarked) ≡ run rest
    (in_text (whole (parts ++ Func subject calls ∷ [])) [] unmarked)
function_runs parts subject calls text rest h =
    ap (λ t. run t (in_text (whole parts) [] unmarked))
    (ap (λ t. t ++ rest) h.2 ∙ simp append_assoc)
    ∙ reach_property (whole parts) [] unmarked (h.0 ++ 41 ∷ rest)
    ∙ opened_runs parts h.0 subject calls rest h.1
