-- A step in `@(..)` keeps what stands behind the machine.
use Rattle.std.proofs.Common.{
  ◌≡◌,
  ℕ,
  true,
  List,
  [],
  ◌∷◌,
  ◌++◌,
  Some,
  None,
  refl,
  sym,
  ap,
  ◌∙◌,
  subst,
  append_assoc,
}
use Rattle.std.proofs.lemmas.List.{append-nil}
use Rattle.msb_expression.specs.declared.starts.Inside.TheVariants.{Quoted}
use Rattle.msb_expression.specs.declared.expression.Part.{Part}
use Rattle.msb_expression.specs.declared.expression.Part.TheVariants.{Items}
use Rattle.msb_expression.specs.declared.expression.Step.TheVariants.{Transform as Transforms, Call}
use Rattle.msb_expression.specs.declared.expression.Piece.{Piece}
use Rattle.msb_expression.specs.declared.sorts.Sort.{Sort}
use Rattle.msb_expression.specs.declared.sorts.Sort.TheVariants.{
  End,
  Letter,
  Digit,
  Dash,
  Space,
  Quote,
  Open,
  Close,
  Comma,
  Greater,
}
use Rattle.msb_expression.specs.Grammar.{IsName, is_name_byte}
use Rattle.msb_expression.specs.Machine.{
  Heads,
  in_transform,
  in_separator,
  in_argument,
  whole,
  heads_of,
  with_step,
  stepping_step,
  type_opened_step,
  in_type_step,
  type_dashed_step,
  dashed_step,
  arrow_step,
  function_named_step,
  function_ended_step,
  args_opened_step,
  arg_ended_step,
  arg_wanted_step,
  separator_wanted_step,
  separator_ended_step,
}
use Rattle.msb_expression.proofs.Bytes.{SortIs}
use Rattle.msb_expression.proofs.Behind.{
  FreshParts,
  HeadsAt,
  ArrowAt,
  ArgsOpened,
  ArgEnded,
  ArgWanted,
  SeparatorEnded,
  SeparatorWanted,
  TypeOpened,
  TypeDashed,
  Stepping,
  Dashed,
  FunctionNamed,
  FunctionEnded,
  Behind,
}
use Rattle.msb_expression.proofs.Adds.{
  IsSpaces-more,
  IsSpaces-cons,
  IsNamed-more,
  IsNamed-of,
  IsName-more,
  IsQuoted-spaced,
  IsListed-spaced,
  IsArgs-spaced,
  IsAct-spaced,
  arrow_at,
  items_at,
  quote_begun,
  text_begun,
  stepping_at,
}
use Rattle.msb_expression.proofs.KeepsText.{Keeps}
use Rattle.msb_expression.proofs.KeepsNames.{letter_in_name, digit_in_name, dash_in_name, one_name}

stepping_keeps : (heads : Heads) (front : List ℕ) (sort : Sort) (b : ℕ) → SortIs sort b
    → Stepping heads front
    → Keeps (stepping_step heads sort) (λ mode. Behind mode (front ++ b ∷ []))
stepping_keeps heads front Space b f h = record {
  base = h.base;
  spaces = h.spaces ++ b ∷ [];
  split = ap (λ t. t ++ b ∷ []) h.split ∙ append_assoc h.base h.spaces (b ∷ []);
  heads_at = h.heads_at;
  are_spaces = IsSpaces-more h.spaces b f h.are_spaces;
}
stepping_keeps heads front Dash b f h = record {
  base = h.base;
  spaces = h.spaces;
  split = ap (λ t. t ++ b ∷ []) h.split ∙ append_assoc h.base h.spaces (b ∷ [])
      ∙ ap (λ c. h.base ++ (h.spaces ++ c ∷ [])) f;
  heads_at = h.heads_at;
  are_spaces = h.are_spaces;
}
stepping_keeps heads front Comma b f h = λ quoted pieces q after s.
    let split : ((front ++ b ∷ []) ++ quoted) ++ (after ++ 41 ∷ [])
    ≡ h.base ++ ((h.spaces ++ 44 ∷ quoted) ++ (after ++ 41 ∷ [])) = ap
    (λ t. ((t ++ b ∷ []) ++ quoted) ++ (after ++ 41 ∷ [])) h.split
    ∙ ap (λ c. (((h.base ++ h.spaces) ++ c ∷ []) ++ quoted) ++ (after ++ 41 ∷ [])) f
    ∙ simp append_assoc in
    subst (λ t. FreshParts (heads.parts ++ Items heads.kind heads.steps (Some pieces) ∷ []) t)
    (sym split)
    (items_at heads h.base (h.spaces ++ 44 ∷ quoted) after (Some pieces) h.heads_at
    (h.spaces, quoted, h.are_spaces, q, simp append_assoc) s)
stepping_keeps heads front Close b f h =
    let split : front ++ b ∷ [] ≡ h.base ++ ([] ++ (h.spaces ++ 41 ∷ [])) = ap (λ t. t ++ b ∷ [])
    h.split ∙ append_assoc h.base h.spaces (b ∷ [])
    ∙ ap (λ c. h.base ++ (h.spaces ++ c ∷ [])) f in
    text_begun (whole (heads.parts ++ Items heads.kind heads.steps None ∷ [])) (front ++ b ∷ []) tt
    (subst (λ t. FreshParts (heads.parts ++ Items heads.kind heads.steps None ∷ []) t) (sym split)
    (items_at heads h.base [] h.spaces None h.heads_at refl h.are_spaces))
stepping_keeps heads front _ b f h = tt

pub type_opened_keeps : (parts : List Part) (front : List ℕ) (sort : Sort) (b : ℕ) → SortIs sort b
    → TypeOpened parts front
    → Keeps (type_opened_step parts sort b) (λ mode. Behind mode (front ++ b ∷ []))
type_opened_keeps parts front Space b f h = record {
  base = h.base;
  spaces = h.spaces ++ b ∷ [];
  split = ap (λ t. t ++ b ∷ []) h.split ∙ append_assoc h.base (64 ∷ 40 ∷ h.spaces) (b ∷ []);
  parts_at = h.parts_at;
  are_spaces = IsSpaces-more h.spaces b f h.are_spaces;
}
type_opened_keeps parts front Letter b f h = record {
  base = h.base;
  spaces = h.spaces;
  stepped = [];
  split = ap (λ t. t ++ b ∷ []) h.split ∙ simp append_assoc;
  parts = h.parts_at;
  are_spaces = h.are_spaces;
  is_name = one_name b f;
  steps = refl;
}
type_opened_keeps parts front _ b f h = tt

type_more : (parts : List Part) (kind front more : List ℕ) → IsName (kind ++ more)
    → HeadsAt (heads_of parts kind) front → HeadsAt (heads_of parts (kind ++ more)) (front ++ more)
type_more parts kind front more n h = record {
  base = h.base;
  spaces = h.spaces;
  stepped = [];
  split = ap (λ t. t ++ more)
      (h.split ∙ ap (λ t. h.base ++ 64 ∷ 40 ∷ (h.spaces ++ (kind ++ t))) h.steps)
      ∙ simp (append_assoc, append-nil);
  parts = h.parts;
  are_spaces = h.are_spaces;
  is_name = n;
  steps = refl;
}

pub in_type_keeps : (parts : List Part) (kind front : List ℕ) (sort : Sort) (b : ℕ) → SortIs sort b
    → HeadsAt (heads_of parts kind) front
    → Keeps (in_type_step parts kind sort b) (λ mode. Behind mode (front ++ b ∷ []))
in_type_keeps parts kind front Letter b f h = type_more parts kind front (b ∷ [])
    (IsName-more kind b (letter_in_name b f) h.is_name) h
in_type_keeps parts kind front Digit b f h = type_more parts kind front (b ∷ [])
    (IsName-more kind b (digit_in_name b f) h.is_name) h
in_type_keeps parts kind front Dash b f h = record
    { base = front; split = ap (λ c. front ++ c ∷ []) f; heads = h }
in_type_keeps parts kind front End b f h = stepping_keeps (heads_of parts kind) front End b f
    (stepping_at (heads_of parts kind) front h)
in_type_keeps parts kind front Space b f h = stepping_keeps (heads_of parts kind) front Space b f
    (stepping_at (heads_of parts kind) front h)
in_type_keeps parts kind front Comma b f h = stepping_keeps (heads_of parts kind) front Comma b f
    (stepping_at (heads_of parts kind) front h)
in_type_keeps parts kind front Close b f h = stepping_keeps (heads_of parts kind) front Close b f
    (stepping_at (heads_of parts kind) front h)
in_type_keeps parts kind front _ b f h = tt

-- the `-` belongs to the type name
dash_in_type : (parts : List Part) (kind front : List ℕ) → TypeDashed parts kind front
    → HeadsAt (heads_of parts (kind ++ 45 ∷ [])) front
dash_in_type parts kind front h =
    subst (λ t. HeadsAt (heads_of parts (kind ++ 45 ∷ [])) t) (sym h.split)
    (type_more parts kind h.base (45 ∷ []) (IsName-more kind 45 refl h.heads.is_name) h.heads)

pub type_dashed_keeps : (parts : List Part) (kind front : List ℕ) (sort : Sort) (b : ℕ)
    → SortIs sort b → TypeDashed parts kind front
    → Keeps (type_dashed_step parts kind sort b) (λ mode. Behind mode (front ++ b ∷ []))
type_dashed_keeps parts kind front Greater b f h =
    subst (λ t. ArrowAt (heads_of parts kind) t)
    (sym (ap (λ t. t ++ b ∷ []) h.split ∙ append_assoc h.base (45 ∷ []) (b ∷ [])
    ∙ ap (λ c. h.base ++ 45 ∷ c ∷ []) f))
    (arrow_at (heads_of parts kind) h.base [] h.heads tt)
type_dashed_keeps parts kind front End b f h = absurd f
type_dashed_keeps parts kind front Letter b f h = in_type_keeps parts (kind ++ 45 ∷ []) front Letter
    b f (dash_in_type parts kind front h)
type_dashed_keeps parts kind front Digit b f h = in_type_keeps parts (kind ++ 45 ∷ []) front Digit b
    f (dash_in_type parts kind front h)
type_dashed_keeps parts kind front Dash b f h = in_type_keeps parts (kind ++ 45 ∷ []) front Dash b f
    (dash_in_type parts kind front h)
type_dashed_keeps parts kind front Space b f h = in_type_keeps parts (kind ++ 45 ∷ []) front Space b
    f (dash_in_type parts kind front h)
type_dashed_keeps parts kind front Comma b f h = in_type_keeps parts (kind ++ 45 ∷ []) front Comma b
    f (dash_in_type parts kind front h)
type_dashed_keeps parts kind front Close b f h = in_type_keeps parts (kind ++ 45 ∷ []) front Close b
    f (dash_in_type parts kind front h)
type_dashed_keeps parts kind front _ b f h = tt

pub stepping_step_keeps : (heads : Heads) (front : List ℕ) (sort : Sort) (b : ℕ) → SortIs sort b
    → Stepping heads front
    → Keeps (stepping_step heads sort) (λ mode. Behind mode (front ++ b ∷ []))
stepping_step_keeps = stepping_keeps

pub dashed_keeps : (heads : Heads) (front : List ℕ) (sort : Sort) (b : ℕ) → SortIs sort b
    → Dashed heads front → Keeps (dashed_step heads sort) (λ mode. Behind mode (front ++ b ∷ []))
dashed_keeps heads front Greater b f h =
    subst (λ t. ArrowAt heads t)
    (sym
    (ap (λ t. t ++ b ∷ []) h.split ∙ ap (λ c. (h.base ++ (h.spaces ++ 45 ∷ [])) ++ c ∷ []) f
    ∙ simp append_assoc))
    (arrow_at heads h.base h.spaces h.heads_at h.are_spaces)
dashed_keeps heads front _ b f h = tt

pub arrow_keeps : (heads : Heads) (front : List ℕ) (sort : Sort) (b : ℕ) → SortIs sort b
    → ArrowAt heads front → Keeps (arrow_step heads sort b) (λ mode. Behind mode (front ++ b ∷ []))
arrow_keeps heads front Space b f h = λ rest step a.
    subst (λ t. HeadsAt (with_step heads step) t) (sym (append_assoc front (b ∷ []) rest))
    (h (b ∷ rest) step (IsAct-spaced rest step b f a))
arrow_keeps heads front Quote b f h =
    quote_begun (in_transform heads) (front ++ b ∷ []) (λ e. cc) (λ text pieces j p.
    subst (λ t. HeadsAt (with_step heads (Transforms pieces)) t)
    (sym (ap (λ c. (front ++ c ∷ []) ++ (text ++ 39 ∷ [])) f
    ∙ append_assoc front (39 ∷ []) (text ++ 39 ∷ [])))
    (h (39 ∷ (text ++ 39 ∷ [])) (Transforms pieces) ([], text, tt, j, p, refl)))
arrow_keeps heads front Letter b f h = record {
  base = front;
  spaces = [];
  split = refl;
  arrow_at = h;
  are_spaces = tt;
  is_name = one_name b
      f;
}
arrow_keeps heads front _ b f h = tt

pub function_ended_keeps : (heads : Heads) (function front : List ℕ) (sort : Sort) (b : ℕ)
    → SortIs sort b → FunctionEnded heads function front
    → Keeps (function_ended_step heads function sort) (λ mode. Behind mode (front ++ b ∷ []))
function_ended_keeps heads function front Space b f h = record {
  base = h.base;
  text = h.text ++ b ∷ [];
  split = ap (λ t. t ++ b ∷ []) h.split ∙ append_assoc h.base h.text (b ∷ []);
  arrow_at = h.arrow_at;
  is_named = IsNamed-more h.text function b f h.is_named;
}
function_ended_keeps heads function front Open b f h = λ rest args a.
    let split : (front ++ b ∷ []) ++ (rest ++ 41 ∷ [])
    ≡ h.base ++ (h.text ++ 40 ∷ (rest ++ 41 ∷ [])) = ap
    (λ t. (t ++ b ∷ []) ++ (rest ++ 41 ∷ [])) h.split
    ∙ ap (λ c. ((h.base ++ h.text) ++ c ∷ []) ++ (rest ++ 41 ∷ [])) f ∙ simp append_assoc in
    subst (λ t. HeadsAt (with_step heads (Call function args)) t) (sym split)
    (h.arrow_at (h.text ++ 40 ∷ (rest ++ 41 ∷ [])) (Call function args)
    (h.text, rest, h.is_named, a, simp append_assoc))
function_ended_keeps heads function front _ b f h = tt

function_more : (heads : Heads) (function front : List ℕ) (b : ℕ) → is_name_byte b ≡ true
    → FunctionNamed heads function front
    → FunctionNamed heads (function ++ b ∷ []) (front ++ b ∷ [])
function_more heads function front b e h = record {
  base = h.base;
  spaces = h.spaces;
  split = ap (λ t. t ++ b ∷ []) h.split ∙ simp append_assoc;
  arrow_at = h.arrow_at;
  are_spaces = h.are_spaces;
  is_name = IsName-more function b e h.is_name;
}

function_ended_of : (heads : Heads) (function front : List ℕ) → FunctionNamed heads function front
    → FunctionEnded heads function front
function_ended_of heads function front h = record {
  base = h.base;
  text = h.spaces ++ function;
  split = h.split;
  arrow_at = h.arrow_at;
  is_named =
      IsNamed-of h.spaces function h.are_spaces h.is_name;
}

pub function_named_keeps : (heads : Heads) (function front : List ℕ) (sort : Sort) (b : ℕ)
    → SortIs sort b → FunctionNamed heads function front
    → Keeps (function_named_step heads function sort b) (λ mode. Behind mode (front ++ b ∷ []))
function_named_keeps heads function front Letter b f h = function_more heads function front b
    (letter_in_name b f) h
function_named_keeps heads function front Digit b f h = function_more heads function front b
    (digit_in_name b f) h
function_named_keeps heads function front Dash b f h = function_more heads function front b
    (dash_in_name b f) h
function_named_keeps heads function front Space b f h = function_ended_keeps heads function front
    Space b f (function_ended_of heads function front h)
function_named_keeps heads function front Open b f h = function_ended_keeps heads function front
    Open b f (function_ended_of heads function front h)
function_named_keeps heads function front _ b f h = tt

pub args_opened_keeps : (heads : Heads) (function front : List ℕ) (sort : Sort) (b : ℕ)
    → SortIs sort b → ArgsOpened heads function front
    → Keeps (args_opened_step heads function sort) (λ mode. Behind mode (front ++ b ∷ []))
args_opened_keeps heads function front Space b f h = λ rest args a.
    subst (λ t. HeadsAt (with_step heads (Call function args)) t)
    (sym (append_assoc front (b ∷ []) (rest ++ 41 ∷ [])))
    (h (b ∷ rest) args (IsArgs-spaced rest args b f a))
args_opened_keeps heads function front Quote b f h =
    quote_begun (in_argument heads function []) (front ++ b ∷ []) (λ e. cc)
    (λ text pieces j p others more after o s.
    let quoted : List ℕ = 39 ∷ (text ++ 39 ∷ []) in
    let split : ((front ++ b ∷ []) ++ (text ++ 39 ∷ [])) ++ (others ++ (after ++ 41 ∷ []))
    ≡ front ++ ((quoted ++ (others ++ after)) ++ 41 ∷ []) = ap
    (λ c. ((front ++ c ∷ []) ++ (text ++ 39 ∷ [])) ++ (others ++ (after ++ 41 ∷ []))) f
    ∙ simp append_assoc in
    subst (λ t. HeadsAt (with_step heads (Call function (pieces ∷ more))) t) (sym split)
    (h (quoted ++ (others ++ after)) (pieces ∷ more)
    (quoted, others, after, ([], text, tt, j, p, refl), o, s, simp append_assoc)))
args_opened_keeps heads function front Close b f h =
    stepping_at (with_step heads (Call function [])) (front ++ b ∷ [])
    (subst (λ c. HeadsAt (with_step heads (Call function [])) (front ++ c ∷ [])) (sym f)
    (h [] [] tt))
args_opened_keeps heads function front _ b f h = tt

pub arg_ended_keeps : (heads : Heads) (function : List ℕ) (args : List (List Piece))
    (front : List ℕ) (sort : Sort) (b : ℕ) → SortIs sort b → ArgEnded heads function args front
    → Keeps (arg_ended_step heads function args sort) (λ mode. Behind mode (front ++ b ∷ []))
arg_ended_keeps heads function args front Space b f h = spaced
  where
    spaced : ArgEnded heads function args (front ++ b ∷ [])
    spaced others [] after o s =
        subst (λ t. HeadsAt (with_step heads (Call function (args ++ []))) t)
        (sym (ap (λ t. (front ++ b ∷ []) ++ (t ++ (after ++ 41 ∷ []))) o
        ∙ append_assoc front (b ∷ []) (after ++ 41 ∷ [])))
        (h [] [] (b ∷ after) refl (IsSpaces-cons after b f s))
    spaced others (x ∷ xs) after o s =
        subst (λ t. HeadsAt (with_step heads (Call function (args ++ x ∷ xs))) t)
        (sym (append_assoc front (b ∷ []) (others ++ (after ++ 41 ∷ []))))
        (h (b ∷ others) (x ∷ xs) after
        (b ∷ o.0, o.1, ap (λ t. b ∷ t) o.2, IsListed-spaced o.0 x b f o.3, o.4) s)
arg_ended_keeps heads function args front Comma b f h = λ quoted pieces q others more after o s.
    let split : ((front ++ b ∷ []) ++ quoted) ++ (others ++ (after ++ 41 ∷ []))
    ≡ front ++ ((44 ∷ quoted ++ others) ++ (after ++ 41 ∷ [])) = ap
    (λ c. ((front ++ c ∷ []) ++ quoted) ++ (others ++ (after ++ 41 ∷ []))) f
    ∙ simp append_assoc in
    subst (λ t. HeadsAt (with_step heads (Call function ((args ++ pieces ∷ []) ++ more))) t)
    (sym split)
    (subst
    (λ list. HeadsAt (with_step heads (Call function list))
    (front ++ ((44 ∷ quoted ++ others) ++ (after ++ 41 ∷ []))))
    (sym (append_assoc args (pieces ∷ []) more))
    (h (44 ∷ quoted ++ others) (pieces ∷ more) after
    (44 ∷ quoted, others, refl, ([], quoted, tt, q, refl), o) s))
arg_ended_keeps heads function args front Close b f h =
    stepping_at (with_step heads (Call function args)) (front ++ b ∷ [])
    (subst (λ list. HeadsAt (with_step heads (Call function list)) (front ++ b ∷ []))
    (append-nil args)
    (subst (λ c. HeadsAt (with_step heads (Call function (args ++ []))) (front ++ c ∷ [])) (sym f)
    (h [] [] [] refl tt)))
arg_ended_keeps heads function args front _ b f h = tt

pub arg_wanted_keeps : (heads : Heads) (function : List ℕ) (args : List (List Piece))
    (front : List ℕ) (sort : Sort) (b : ℕ) → SortIs sort b → ArgWanted heads function args front
    → Keeps (arg_wanted_step heads function args sort) (λ mode. Behind mode (front ++ b ∷ []))
arg_wanted_keeps heads function args front Space b f h = λ quoted pieces q.
    subst (λ t. ArgEnded heads function (args ++ pieces ∷ []) t)
    (sym (append_assoc front (b ∷ []) quoted))
    (h (b ∷ quoted) pieces (IsQuoted-spaced Quoted quoted pieces b f q))
arg_wanted_keeps heads function args front Quote b f h =
    quote_begun (in_argument heads function args) (front ++ b ∷ []) (λ e. cc) (λ text pieces j p.
    subst (λ t. ArgEnded heads function (args ++ pieces ∷ []) t)
    (sym (ap (λ c. (front ++ c ∷ []) ++ (text ++ 39 ∷ [])) f
    ∙ append_assoc front (39 ∷ []) (text ++ 39 ∷ [])))
    (h (39 ∷ (text ++ 39 ∷ [])) pieces ([], text, tt, j, p, refl)))
arg_wanted_keeps heads function args front _ b f h = tt

pub separator_wanted_keeps : (heads : Heads) (front : List ℕ) (sort : Sort) (b : ℕ) → SortIs sort b
    → SeparatorWanted heads front
    → Keeps (separator_wanted_step heads sort) (λ mode. Behind mode (front ++ b ∷ []))
separator_wanted_keeps heads front Space b f h = λ quoted pieces q.
    subst (λ t. SeparatorEnded heads pieces t) (sym (append_assoc front (b ∷ []) quoted))
    (h (b ∷ quoted) pieces (IsQuoted-spaced Quoted quoted pieces b f q))
separator_wanted_keeps heads front Quote b f h =
    quote_begun (in_separator heads) (front ++ b ∷ []) (λ e. cc) (λ text pieces j p.
    subst (λ t. SeparatorEnded heads pieces t)
    (sym (ap (λ c. (front ++ c ∷ []) ++ (text ++ 39 ∷ [])) f
    ∙ append_assoc front (39 ∷ []) (text ++ 39 ∷ [])))
    (h (39 ∷ (text ++ 39 ∷ [])) pieces ([], text, tt, j, p, refl)))
separator_wanted_keeps heads front _ b f h = tt

pub separator_ended_keeps : (heads : Heads) (pieces : List Piece) (front : List ℕ) (sort : Sort)
    (b : ℕ) → SortIs sort b → SeparatorEnded heads pieces front
    → Keeps (separator_ended_step heads pieces sort) (λ mode. Behind mode (front ++ b ∷ []))
separator_ended_keeps heads pieces front Space b f h = λ after s.
    subst (λ t. FreshParts (heads.parts ++ Items heads.kind heads.steps (Some pieces) ∷ []) t)
    (sym (append_assoc front (b ∷ []) (after ++ 41 ∷ [])))
    (h (b ∷ after) (IsSpaces-cons after b f s))
separator_ended_keeps heads pieces front Close b f h =
    text_begun (whole (heads.parts ++ Items heads.kind heads.steps (Some pieces) ∷ []))
    (front ++ b ∷ []) tt
    (subst
    (λ c. FreshParts (heads.parts ++ Items heads.kind heads.steps (Some pieces) ∷ [])
    (front ++ c ∷ [])) (sym f) (h [] tt))
separator_ended_keeps heads pieces front _ b f h = tt
