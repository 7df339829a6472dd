-- A step in the calls of a property function keeps what stands behind the machine.
use Rattle.std.proofs.Common.{
  ◌≡◌,
  ℕ,
  ◌<◌,
  Bool,
  true,
  false,
  eqb,
  List,
  [],
  ◌∷◌,
  ◌++◌,
  length,
  Some,
  None,
  refl,
  sym,
  ap,
  ◌∙◌,
  subst,
  append_assoc,
  length-append,
  arith,
  inl,
  inr,
}
use Rattle.std.specs.Prelude.{◌==◌, codes}
use Rattle.std.specs.Char.{to_ascii_lowercase}
use Rattle.std.specs.Str.{str_to_ascii_lowercase}
use Rattle.std.proofs.lemmas.List.{append-nil, map-append}
use Rattle.std.proofs.lemmas.Bool.{eqb-true, false≢true}
use Rattle.msb_expression.specs.declared.starts.Inside.TheVariants.{Loose}
use Rattle.msb_expression.specs.declared.expression.Part.{Part}
use Rattle.msb_expression.specs.declared.expression.Part.TheVariants.{Func}
use Rattle.msb_expression.specs.declared.expression.Call.{Call as PropertyCall}
use Rattle.msb_expression.specs.declared.expression.Piece.{Piece}
use Rattle.msb_expression.specs.declared.expression.Piece.TheVariants.{
  Plain as PlainPiece,
  Prop as PropPiece,
  Meta as MetaPiece,
}
use Rattle.msb_expression.specs.declared.sorts.Sort.{Sort}
use Rattle.msb_expression.specs.declared.sorts.Sort.TheVariants.{
  End,
  Letter,
  Digit,
  Dash,
  Space,
  Quote,
  Open,
  Close,
  Comma,
  Dot,
  Greater,
  Dollar,
  Percent,
  At,
  Bracket,
  Other,
}
use Rattle.msb_expression.specs.declared.sorts.Kind.TheVariants.{Name}
use Rattle.msb_expression.specs.Grammar.{
  IsSpaces,
  Joins,
  IsPiece,
  begins_space,
  trimmed_pieces,
  IsLoose,
  IsArguments,
  IsCall,
  is_name_byte,
}
use Rattle.msb_expression.specs.Machine.{
  ends_argument,
  sort_of,
  CallHeads,
  Arguments,
  in_call,
  in_loose,
  whole,
  inner,
  Mark,
  unmarked,
  dollar,
  property,
  Mode,
  in_text,
  go,
  stop,
  go_if,
  settled,
  flushed_pieces,
  call_heads,
  with_call,
  property_call,
  arguments_of,
  with_arg,
  calls_closed,
  may_be_plain,
  unless_first,
  build_next,
  property_opened_step,
  build_opened_step,
  call_wanted_step,
  call_ended_step,
  call_named_step,
  called_step,
  blank_closed,
  blank_listed,
  call_arg_wanted_step,
  call_arg_ended_step,
}
use Rattle.msb_expression.proofs.Bytes.{SortIs, other_byte}
use Rattle.msb_expression.proofs.Joined.{append_some}
use Rattle.msb_expression.proofs.Behind.{
  PartsAt,
  FreshParts,
  CallsDone,
  Called,
  CallWanted,
  ArgsAt,
  ArgumentAt,
  CallArgWanted,
  CallArgEnded,
  LooseBegun,
  FreshPieces,
  TextAt,
  IsPlainSoFar,
  Marks,
  PropertyOpened,
  BuildOpened,
  CallNamed,
  CallEnded,
  Behind,
}
use Rattle.msb_expression.proofs.PlainText.{
  is_common,
  uncommon,
  common_ordinary,
  common_fits,
  common_ends_none,
  no_end_quote,
  IsPlain-ordinary,
}
use Rattle.msb_expression.proofs.Adds.{
  IsSpaces-more,
  IsSpaces-cons,
  IsNamed-spaced,
  IsNamed-more,
  IsNamed-of,
  IsName-more,
  quote_begun,
  text_begun,
  build_calls,
}
use Rattle.msb_expression.proofs.KeepsText.{Keeps, name_begun, args_step_keeps}
use Rattle.msb_expression.proofs.KeepsNames.{
  letter_in_name,
  digit_in_name,
  dash_in_name,
  one_name,
  name_opened_keeps,
}

-- `[MSBuild]::`
pub property_opened_keeps : (parts : List Part) (front : List ℕ) (sort : Sort) (b : ℕ)
    → SortIs sort b
    → PropertyOpened parts front
    → Keeps (property_opened_step parts sort b) (λ mode. Behind mode (front ++ b ∷ []))
property_opened_keeps parts front Bracket b f h = record {
  base = h.base;
  head = b ∷ [];
  split = ap (λ t. t ++ b ∷ []) h.split ∙ append_assoc h.base (36 ∷ 40 ∷ []) (b ∷ []);
  parts_at = h.parts_at;
  head_is = ap (λ c. str_to_ascii_lowercase (c ∷ []) ++ codes "msbuild]::") f;
  some = λ e. cc;
}
property_opened_keeps parts front sort b f h =
    name_opened_keeps (whole parts) property front sort b f
    (name_begun (whole parts) h.base front h.parts_at h.split)

build_next_behind : (parts : List Part) (left front base head : List ℕ)
    → front ≡ base ++ 36 ∷ 40 ∷ head
    → PartsAt parts base → str_to_ascii_lowercase head ++ left ≡ codes "[msbuild]::"
    → Behind (build_next parts left) front
build_next_behind parts [] front base head e h low =
    subst (λ t. CallWanted (call_heads parts None) t) (sym e)
    (build_calls parts base head h (sym (append-nil (str_to_ascii_lowercase head)) ∙ low))
build_next_behind parts (wanted ∷ left) front base head e h low =
    record { base = base; head = head; split = e; parts_at = h; head_is = low; some = λ n. cc }

lower_more : (head : List ℕ) (b wanted : ℕ) (left : List ℕ) → to_ascii_lowercase b ≡ wanted
    → str_to_ascii_lowercase (head ++ b ∷ []) ++ left ≡ str_to_ascii_lowercase head ++ wanted ∷ left
lower_more head b wanted left e =
    ap (λ t. t ++ left) (map-append to_ascii_lowercase head (b ∷ []))
    ∙ append_assoc (str_to_ascii_lowercase head) (to_ascii_lowercase b ∷ []) left
    ∙ ap (λ c. str_to_ascii_lowercase head ++ c ∷ left) e

pub build_opened_keeps : (parts : List Part) (left front : List ℕ) (b : ℕ)
    → BuildOpened parts left front
    → Keeps (build_opened_step parts left b) (λ mode. Behind mode (front ++ b ∷ []))
build_opened_keeps parts [] front b h = tt
build_opened_keeps parts (wanted ∷ left) front b h = by (to_ascii_lowercase b == wanted) refl
  where
    by : (t : Bool) → (to_ascii_lowercase b == wanted) ≡ t
        → Keeps (go_if t (build_next parts left))
        (λ mode. Behind mode (front ++ b ∷ []))
    by true e = build_next_behind parts left (front ++ b ∷ []) h.base (h.head ++ b ∷ [])
        (ap (λ t. t ++ b ∷ []) h.split ∙ append_assoc h.base (36 ∷ 40 ∷ h.head) (b ∷ [])) h.parts_at
        (lower_more h.head b wanted left (eqb-true (to_ascii_lowercase b) wanted e) ∙ h.head_is)
    by false e = tt

-- the name of a call
IsCall-spaced : (text : List ℕ) (call : PropertyCall) (b : ℕ) → b ≡ 32 → IsCall text call
    → IsCall (b ∷ text) call
IsCall-spaced text call b e h =
    (b ∷ h.0, h.1, IsNamed-spaced h.0 call.name b e h.2, h.3, ap (λ t. b ∷ t) h.4)

pub call_wanted_keeps : (heads : CallHeads) (front : List ℕ) (sort : Sort) (b : ℕ) → SortIs sort b
    → CallWanted heads front
    → Keeps (call_wanted_step heads sort b) (λ mode. Behind mode (front ++ b ∷ []))
call_wanted_keeps heads front Space b f h = λ text call c m.
    subst (λ t. CallsDone (with_call heads call) t) (sym (append_assoc front (b ∷ []) text))
    (h (b ∷ text) call (IsCall-spaced text call b f c) m)
call_wanted_keeps heads front Letter b f h =
    record {
      base = front;
      spaces = [];
      split = refl;
      wanted = h;
      are_spaces = tt;
      is_name =
          one_name b f;
    }
call_wanted_keeps heads front _ b f h = tt

-- a call that is read, and what may follow it
next_call : (heads : CallHeads) (front : List ℕ) (b : ℕ) → b ≡ 46 → CallsDone heads front
    → CallWanted heads (front ++ b ∷ [])
next_call heads front b f h = λ text call c m others more o.
    let all : List ℕ = (46 ∷ text) ++ others in
    let split : front ++ (all ++ 41 ∷ []) ≡ ((front ++ 46 ∷ []) ++ text) ++ (others ++ 41 ∷ []) =
    simp append_assoc in
    subst (λ x. FreshParts
    (heads.parts ++ Func heads.subject ((heads.calls ++ call ∷ []) ++ more) ∷ [])
    (((front ++ x ∷ []) ++ text) ++ (others ++ 41 ∷ []))) (sym f)
    (subst (λ t. FreshParts
    (heads.parts ++ Func heads.subject ((heads.calls ++ call ∷ []) ++ more) ∷ []) t) split
    (subst (λ calls. FreshParts (heads.parts ++ Func heads.subject calls ∷ [])
    (front ++ (all ++ 41 ∷ [])))
    (sym (append_assoc heads.calls (call ∷ []) more))
    (h all (call ∷ more) (46 ∷ text, others, refl, (text, c, refl), o))))

calls_end : (heads : CallHeads) (front : List ℕ) (b : ℕ) → b ≡ 41 → CallsDone heads front
    → Behind (calls_closed heads) (front ++ b ∷ [])
calls_end heads front b f h =
    text_begun (whole (heads.parts ++ Func heads.subject heads.calls ∷ [])) (front ++ b ∷ []) tt
    (subst (λ c. FreshParts (heads.parts ++ Func heads.subject heads.calls ∷ []) (front ++ c ∷ []))
    (sym f)
    (subst (λ calls. FreshParts (heads.parts ++ Func heads.subject calls ∷ []) (front ++ 41 ∷ []))
    (append-nil heads.calls)
    (h [] [] refl)))

pub unless_first_keeps : (heads : CallHeads) (mode : Mode) (P : Mode → Type 0)
    → (may_be_plain heads ≡ true → P mode)
    → Keeps (unless_first heads mode) P
unless_first_keeps heads mode P h = by (may_be_plain heads) refl
  where
    by : (t : Bool) → may_be_plain heads ≡ t
        → Keeps (go_if t mode) P
    by true e = h e
    by false e = tt

plain_done : (heads : CallHeads) (function front : List ℕ) → may_be_plain heads ≡ true
    → CallEnded heads function front
    → CallsDone (with_call heads (property_call function None)) front
plain_done heads function front may h =
    subst (λ t. CallsDone (with_call heads (property_call function None)) t) (sym h.split)
    (h.wanted h.text (property_call function None)
    (h.text, [], h.is_named, refl, sym (append-nil h.text))
    (λ g. absurd (false≢true (sym g ∙ may))))

parens_read : (heads : CallHeads) (function front : List ℕ) (b : ℕ) → b ≡ 40
    → CallEnded heads function front
    → (inner : List ℕ) (args : List (List Piece)) → IsArguments inner args
    → Called (with_call heads (property_call function (Some args)))
    ((front ++ b ∷ []) ++ (inner ++ 41 ∷ []))
parens_read heads function front b f h listed args i = λ after s.
    let split : ((front ++ b ∷ []) ++ (listed ++ 41 ∷ [])) ++ after
    ≡ h.base ++ (h.text ++ 40 ∷ (listed ++ 41 ∷ after)) =
    ap (λ t. ((t ++ b ∷ []) ++ (listed ++ 41 ∷ [])) ++ after) h.split
    ∙ ap (λ c. (((h.base ++ h.text) ++ c ∷ []) ++ (listed ++ 41 ∷ [])) ++ after) f
    ∙ simp append_assoc in
    subst (λ t. CallsDone (with_call heads (property_call function (Some args))) t) (sym split)
    (h.wanted (h.text ++ 40 ∷ (listed ++ 41 ∷ after)) (property_call function (Some args)) (
      h.text,
      40 ∷ (listed ++ 41 ∷ after),
      h.is_named,
      (listed, after, i, s, ap (λ t. 40 ∷ t) (sym (append_assoc listed (41 ∷ []) after))),
      refl,
    )
    (λ g. refl))

call_opened : (heads : CallHeads) (function front : List ℕ) (b : ℕ) → b ≡ 40
    → CallEnded heads function front
    → ArgumentAt (arguments_of heads function) (front ++ b ∷ [])
call_opened heads function front b f h = record {
  none = λ e after s. parens_read heads function front b f h after [] s;
  some = λ argument pieces others more i o n.
      subst (λ t. Called (with_call heads (property_call function (Some (pieces ∷ more))))
      ((front ++ b ∷ []) ++ t))
      (append_assoc argument others (41 ∷ []))
      (parens_read heads function front b f h (argument ++ others) (pieces ∷ more)
      (argument, others, i, o, n refl, refl));
}

pub call_ended_keeps : (heads : CallHeads) (function front : List ℕ) (sort : Sort) (b : ℕ)
    → SortIs sort b
    → CallEnded heads function front
    → Keeps (call_ended_step heads function sort) (λ mode. Behind mode (front ++ b ∷ []))
call_ended_keeps heads function front Space b f h = record {
  base = h.base;
  text = h.text ++ b ∷ [];
  split = ap (λ t. t ++ b ∷ []) h.split ∙ append_assoc h.base h.text (b ∷ []);
  wanted = h.wanted;
  is_named = IsNamed-more h.text function b f h.is_named;
}
call_ended_keeps heads function front Open b f h = record {
  base = front ++ b ∷ [];
  spaces = [];
  split = sym (append-nil (front ++ b ∷ []));
  argument_at = call_opened heads function front b f h;
  are_spaces = tt;
  some_space = λ e. cc;
}
call_ended_keeps heads function front Dot b f h =
    unless_first_keeps heads _ (λ mode. Behind mode (front ++ b ∷ []))
    (λ may. next_call (with_call heads (property_call function None)) front b f
    (plain_done heads function front may h))
call_ended_keeps heads function front Close b f h =
    unless_first_keeps heads _ (λ mode. Behind mode (front ++ b ∷ []))
    (λ may. calls_end (with_call heads (property_call function None)) front b f
    (plain_done heads function front may h))
call_ended_keeps heads function front _ b f h = tt

call_more : (heads : CallHeads) (function front : List ℕ) (b : ℕ) → is_name_byte b ≡ true
    → CallNamed heads function front → CallNamed heads (function ++ b ∷ []) (front ++ b ∷ [])
call_more heads function front b e h = record {
  base = h.base;
  spaces = h.spaces;
  split = ap (λ t. t ++ b ∷ []) h.split ∙ simp append_assoc;
  wanted = h.wanted;
  are_spaces = h.are_spaces;
  is_name = IsName-more function b e h.is_name;
}

call_ended_of : (heads : CallHeads) (function front : List ℕ) → CallNamed heads function front
    → CallEnded heads function front
call_ended_of heads function front h = record {
  base = h.base;
  text = h.spaces ++ function;
  split = h.split;
  wanted = h.wanted;
  is_named = IsNamed-of h.spaces function h.are_spaces h.is_name;
}

pub call_named_keeps : (heads : CallHeads) (function front : List ℕ) (sort : Sort) (b : ℕ)
    → SortIs sort b
    → CallNamed heads function front
    → Keeps (call_named_step heads function sort b) (λ mode. Behind mode (front ++ b ∷ []))
call_named_keeps heads function front Letter b f h =
    call_more heads function front b (letter_in_name b f) h
call_named_keeps heads function front Digit b f h =
    call_more heads function front b (digit_in_name b f) h
call_named_keeps heads function front Dash b f h =
    call_more heads function front b (dash_in_name b f) h
call_named_keeps heads function front Space b f h =
    call_ended_keeps heads function front Space b f (call_ended_of heads function front h)
call_named_keeps heads function front Open b f h =
    call_ended_keeps heads function front Open b f (call_ended_of heads function front h)
call_named_keeps heads function front Dot b f h =
    call_ended_keeps heads function front Dot b f (call_ended_of heads function front h)
call_named_keeps heads function front Close b f h =
    call_ended_keeps heads function front Close b f (call_ended_of heads function front h)
call_named_keeps heads function front _ b f h = tt

called_done : (heads : CallHeads) (front : List ℕ) → Called heads front → CallsDone heads front
called_done heads front h = subst (λ t. CallsDone heads t) (append-nil front) (h [] tt)

pub called_keeps : (heads : CallHeads) (front : List ℕ) (sort : Sort) (b : ℕ) → SortIs sort b
    → Called heads front → Keeps (called_step heads sort) (λ mode. Behind mode (front ++ b ∷ []))
called_keeps heads front Space b f h = λ after s.
    subst (λ t. CallsDone heads t) (sym (append_assoc front (b ∷ []) after))
    (h (b ∷ after) (IsSpaces-cons after b f s))
called_keeps heads front Dot b f h = next_call heads front b f (called_done heads front h)
called_keeps heads front Close b f h = calls_end heads front b f (called_done heads front h)
called_keeps heads front _ b f h = tt

-- arguments
blank : (spaces : List ℕ) → 0 < length spaces → IsSpaces spaces → IsLoose spaces []
blank spaces l s = (spaces, [], [], l, s, refl, refl, tt, refl, sym (append-nil spaces))

no_spaces_at : (front : List ℕ) (c : ℕ) (rest : List ℕ) → eqb c 32 ≡ false
    → IsSpaces (front ++ c ∷ rest) → ⊥
no_spaces_at [] c rest e s = false≢true (sym e ∙ s.0)
no_spaces_at (x ∷ xs) c rest e s = no_spaces_at xs c rest e s.1

no_spaces_text : (front text others : List ℕ) → 0 < length text → begins_space text ≡ false
    → IsSpaces ((front ++ text) ++ others) → ⊥
no_spaces_text front [] others l e s = absurd (omega arith)
no_spaces_text front (c ∷ cs) others l e s =
    no_spaces_at front c (cs ++ others) e
    (subst (λ t. IsSpaces t) (append_assoc front (c ∷ cs) others) s)

plain_front : (plain rest : List ℕ) → 0 < length plain → begins_space plain ≡ false
    → (0 < length (plain ++ rest)) × (begins_space (plain ++ rest) ≡ false)
plain_front [] rest l e = absurd (omega arith)
plain_front (b ∷ bs) rest l e = (omega arith, e)

abbrev BeginsLoose : List ℕ → Type 0
BeginsLoose text = (0 < length text) × (begins_space text ≡ false)

loose_text : (text : List ℕ) (pieces : List Piece) → Joins (IsPiece Loose) text pieces
    → LooseBegun pieces
    → BeginsLoose text
loose_text text [] j l = absurd (omega (arith, l.0))
loose_text text (PlainPiece plain ∷ pieces) j l =
    subst (λ t. BeginsLoose t) (sym (j.2 ∙ ap (λ t. t ++ j.1) j.3.1))
    (plain_front plain j.1 j.3.0.0 l.1)
loose_text text (PropPiece name ∷ pieces) j l =
    subst (λ t. BeginsLoose t) (sym (j.2 ∙ ap (λ t. t ++ j.1) j.3.2)) (omega arith, refl)
loose_text text (MetaPiece name ∷ pieces) j l = let k = j.3.0 in cc

module _ (a : Arguments) (spaced : Bool) (front : List ℕ) (b : ℕ)
    (h : CallArgWanted a spaced front) where
  quote_follows : b ≡ 39 → Behind (in_text (inner (in_call a) []) [] unmarked) (front ++ b ∷ [])
  quote_follows f = quote_begun (in_call a) (front ++ b ∷ []) (λ e. cc) (λ text pieces j p after s.
      let quoted : List ℕ = h.spaces ++ 39 ∷ (text ++ 39 ∷ []) in
      record {
        some = append_some a.args pieces;
        closes = λ others more o.
            let split : (((front ++ b ∷ []) ++ (text ++ 39 ∷ [])) ++ after) ++ (others ++ 41 ∷ [])
            ≡ h.base ++ ((quoted ++ after) ++ (others ++ 41 ∷ [])) =
            ap (λ t. (((t ++ b ∷ []) ++ (text ++ 39 ∷ [])) ++ after) ++ (others ++ 41 ∷ []))
            h.split
            ∙ ap (λ c. ((((h.base ++ h.spaces) ++ c ∷ []) ++ (text ++ 39 ∷ [])) ++ after)
            ++ (others ++ 41 ∷ [])) f ∙ simp append_assoc in
            let tail : List ℕ = (text ++ 39 ∷ []) ++ (after ++ others) in
            let at_quote : (quoted ++ after) ++ others ≡ h.spaces ++ 39 ∷ tail =
            simp append_assoc in
            subst (λ t. Called
            (with_call a.heads
            (property_call a.function (Some ((a.args ++ pieces ∷ []) ++ more)))) t) (sym split)
            (h.argument_at.some (quoted ++ after) pieces others more
            (inl (quoted, after, (h.spaces, text, h.are_spaces, j, p, simp append_assoc), s, refl))
            o
            (λ e x. no_spaces_at h.spaces 39 tail refl (subst (λ t. IsSpaces t) at_quote x)));
      })

  close_split : b ≡ 41 → front ++ b ∷ [] ≡ h.base ++ (h.spaces ++ 41 ∷ [])
  close_split f =
      ap (λ t. t ++ b ∷ []) h.split ∙ append_assoc h.base h.spaces (b ∷ [])
      ∙ ap (λ c. h.base ++ (h.spaces ++ c ∷ [])) f

  blank_close : (args : List (List Piece)) (given : Bool) → a.args ≡ args → spaced ≡ given → b ≡ 41
      → Keeps (blank_closed a args given) (λ mode. Behind mode (front ++ b ∷ []))
  blank_close [] given e g f =
      subst (λ t. Called (with_call a.heads (property_call a.function (Some a.args))) t)
      (sym (close_split f))
      (subst (λ list. Called (with_call a.heads (property_call a.function (Some list)))
      (h.base ++ (h.spaces ++ 41 ∷ []))) (sym e)
      (h.argument_at.none e h.spaces h.are_spaces))
  blank_close (arg ∷ args) true e g f =
      subst (λ t. Called (with_call a.heads (property_call a.function (Some (a.args ++ [] ∷ []))))
      t) (sym (close_split f))
      (subst (λ list. Called (with_call a.heads (property_call a.function (Some list)))
      (h.base ++ (h.spaces ++ 41 ∷ [])))
      (append-nil (a.args ++ [] ∷ []))
      (h.argument_at.some h.spaces [] [] [] (inr (blank h.spaces (h.some_space g) h.are_spaces))
      refl
      (λ n x. let k = sym e ∙ n in cc)))
  blank_close (arg ∷ args) false e g f = tt

  blank_next : spaced ≡ true → b ≡ 44 → ArgumentAt (with_arg a []) (front ++ b ∷ [])
  blank_next g f = record {
    none = λ e. absurd (append_some a.args [] e);
    some = λ argument pieces others more i o n.
        let next : List ℕ = (44 ∷ argument) ++ others in
        let split : (front ++ b ∷ []) ++ (argument ++ (others ++ 41 ∷ []))
        ≡ h.base ++ (h.spaces ++ (next ++ 41 ∷ [])) =
        ap (λ t. (t ++ b ∷ []) ++ (argument ++ (others ++ 41 ∷ []))) h.split
        ∙ ap (λ c. ((h.base ++ h.spaces) ++ c ∷ []) ++ (argument ++ (others ++ 41 ∷ []))) f
        ∙ simp append_assoc in
        subst (λ t. Called
        (with_call a.heads
        (property_call a.function (Some (((a.args ++ [] ∷ []) ++ pieces ∷ []) ++ more)))) t)
        (sym split)
        (subst (λ list. Called (with_call a.heads (property_call a.function (Some list)))
        (h.base ++ (h.spaces ++ (next ++ 41 ∷ []))))
        (sym (append_assoc (a.args ++ [] ∷ []) (pieces ∷ []) more))
        (h.argument_at.some h.spaces [] next (pieces ∷ more)
        (inr (blank h.spaces (h.some_space g) h.are_spaces))
        (44 ∷ argument, others, refl, (argument, i, refl), o)
        (λ e x. no_spaces_at h.spaces 44 (argument ++ others) refl x)));
  }

  blank_list : (given : Bool) → spaced ≡ given → b ≡ 44
      → Keeps (blank_listed a given) (λ mode. Behind mode (front ++ b ∷ []))
  blank_list true g f = record {
    base = front ++ b ∷ [];
    spaces = [];
    split = sym (append-nil (front ++ b ∷ []));
    argument_at = blank_next g f;
    are_spaces = tt;
    some_space = λ e. cc;
  }
  blank_list false g f = tt

  loose_opened : FreshPieces (in_loose a) [] front
  loose_opened = record {
    base = front;
    text = [];
    split = sym (append-nil front);
    opened = λ text pieces j p l.
        let k : BeginsLoose text = loose_text text pieces j l in
        record {
          some = append_some a.args (trimmed_pieces pieces);
          closes = λ others more o.
              let split : (front ++ text) ++ (others ++ 41 ∷ [])
              ≡ h.base ++ ((h.spaces ++ text) ++ (others ++ 41 ∷ [])) =
              ap (λ t. (t ++ text) ++ (others ++ 41 ∷ [])) h.split ∙ simp append_assoc in
              subst (λ t. Called
              (with_call a.heads
              (property_call a.function
              (Some ((a.args ++ trimmed_pieces pieces ∷ []) ++ more)))) t) (sym split)
              (h.argument_at.some (h.spaces ++ text) (trimmed_pieces pieces) others more
              (inr (
                h.spaces,
                text,
                pieces,
                omega (arith, k.0, length-append h.spaces text),
                h.are_spaces,
                k.1,
                j,
                p,
                refl,
                refl,
              )) o
              (λ e x. no_spaces_text h.spaces text others k.0 k.1 x));
        };
    joins = refl;
    apart = tt;
    fresh = λ piece. tt;
    no_space = λ i. refl;
  }

  loose_begins : (plain : List ℕ) (mark : Mark) → settled plain mark ≡ b ∷ [] → eqb b 32 ≡ false
      → IsPlainSoFar Loose plain mark → Marks mark Loose
      → TextAt (inner (in_loose a) []) plain mark (front ++ b ∷ [])
  loose_begins plain mark e n so_far m = record {
    base = front;
    split = ap (λ t. front ++ t) (sym e);
    fresh = loose_opened;
    so_far = so_far;
    marks = m;
    begun = λ i. subst (λ t. LooseBegun (flushed_pieces [] t)) (sym e) (omega arith, n);
  }

  loose_common : (sort : Sort) → sort_of b ≡ sort → is_common sort ≡ true
      → ends_argument sort ≡ false → (sort ≡ Space → ⊥)
      → TextAt (inner (in_loose a) []) (b ∷ []) unmarked (front ++ b ∷ [])
  loose_common sort e c p n =
      loose_begins (b ∷ []) unmarked refl (other_byte b 32 (λ k. n (sym e ∙ k)))
      (λ more k. IsPlain-ordinary Loose b more (common_ordinary b sort e c)
      (common_fits Loose b sort e c)
      (no_end_quote Loose b (uncommon b 39 sort e c refl)
      (common_ends_none Loose b sort e (λ i. p))) k) tt

  call_arg_keeps : (sort : Sort) → sort_of b ≡ sort → SortIs sort b
      → Keeps (call_arg_wanted_step a spaced sort b) (λ mode. Behind mode (front ++ b ∷ []))
  call_arg_keeps Space e f = record {
    base = h.base;
    spaces = h.spaces ++ b ∷ [];
    split = ap (λ t. t ++ b ∷ []) h.split ∙ append_assoc h.base h.spaces (b ∷ []);
    argument_at = h.argument_at;
    are_spaces = IsSpaces-more h.spaces b f h.are_spaces;
    some_space = λ g. omega (arith, length-append h.spaces (b ∷ []));
  }
  call_arg_keeps Quote e f = quote_follows f
  call_arg_keeps Close e f = blank_close a.args spaced refl refl f
  call_arg_keeps Comma e f = blank_list spaced refl f
  call_arg_keeps Dollar e f =
      loose_begins [] dollar (ap (λ c. c ∷ []) (sym f)) (ap (λ c. eqb c 32) f) (λ more k. k) tt
  call_arg_keeps Percent e f = tt
  call_arg_keeps At e f = tt
  call_arg_keeps Open e f = tt
  call_arg_keeps End e f = absurd f
  call_arg_keeps Letter e f = loose_common Letter e refl refl (λ k. cc)
  call_arg_keeps Digit e f = loose_common Digit e refl refl (λ k. cc)
  call_arg_keeps Dash e f = loose_common Dash e refl refl (λ k. cc)
  call_arg_keeps Dot e f = loose_common Dot e refl refl (λ k. cc)
  call_arg_keeps Greater e f = loose_common Greater e refl refl (λ k. cc)
  call_arg_keeps Bracket e f = loose_common Bracket e refl refl (λ k. cc)
  call_arg_keeps Other e f = loose_common Other e refl refl (λ k. cc)

pub call_arg_wanted_keeps : (a : Arguments) (spaced : Bool) (front : List ℕ) (sort : Sort) (b : ℕ)
    → sort_of b ≡ sort → SortIs sort b
    → CallArgWanted a spaced front
    → Keeps (call_arg_wanted_step a spaced sort b) (λ mode. Behind mode (front ++ b ∷ []))
call_arg_wanted_keeps a spaced front sort b e f h = call_arg_keeps a spaced front b h sort e f

pub call_arg_ended_keeps : (a : Arguments) (front : List ℕ) (sort : Sort) (b : ℕ) → SortIs sort b
    → CallArgEnded a front
    → Keeps (call_arg_ended_step a sort) (λ mode. Behind mode (front ++ b ∷ []))
call_arg_ended_keeps a front Space b f h = λ after s.
    subst (λ t. ArgsAt a t) (sym (append_assoc front (b ∷ []) after))
    (h (b ∷ after) (IsSpaces-cons after b f s))
call_arg_ended_keeps a front Comma b f h =
    args_step_keeps a front Comma b f refl (subst (λ t. ArgsAt a t) (append-nil front) (h [] tt))
call_arg_ended_keeps a front Close b f h =
    args_step_keeps a front Close b f refl (subst (λ t. ArgsAt a t) (append-nil front) (h [] tt))
call_arg_ended_keeps a front _ b f h = tt
