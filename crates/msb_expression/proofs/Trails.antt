-- What the bytes behind the machine say of the kind of a bad byte.
use Rattle.std.proofs.Common.{◌≡◌, ℕ, Bool, true, false, cond, eqb, List, ◌∷◌, refl, sym, ap, ◌∙◌}
use Rattle.std.specs.Prelude.{◌&&◌, ◌||◌}
use Rattle.std.proofs.lemmas.Bool.{false≢true}
use Rattle.msb_expression.specs.declared.sorts.Sort.{Sort}
use Rattle.msb_expression.specs.declared.sorts.Kind.{Kind}
use Rattle.msb_expression.specs.declared.sorts.Kind.TheVariants.{Name, Transform as BadStep, Nested}
use Rattle.msb_expression.specs.Grammar.{is_letter, is_name_byte}
use Rattle.msb_expression.specs.Refusals.{
  is_first,
  is_inside,
  is_opened,
  is_named,
  is_spaced,
  kind_of,
}
use Rattle.msb_expression.specs.Machine.{
  is_name_sort,
  is_metadata,
  sort_of,
  Host,
  Mark,
  unmarked,
  dollar,
  percent,
  at_sign,
  Mode,
  in_text,
  name_opened,
  in_name,
  name_ended,
  type_opened,
  in_type,
  type_dashed,
  stepping,
  dashed,
  arrow,
  function_named,
  function_ended,
  args_opened,
  arg_ended,
  arg_wanted,
  separator_wanted,
  separator_ended,
  property_opened,
  host_inside,
  stepping_kind,
}
use Rattle.msb_expression.proofs.Bytes.{other_byte}
use Rattle.msb_expression.proofs.PlainText.{ReadsMetadata}

-- whether the bytes end as a mark with its `(` and spaces, with a name, and with spaces behind that
pub record Ends (mark : ℕ) (opened named spaced : Bool) (back : List ℕ) : Type 0 where
  pub is_opened_so : is_opened mark back ≡ opened
  pub is_named_so : is_named mark back ≡ named
  pub is_spaced_so : is_spaced mark back ≡ spaced

pub and_false : (a : Bool) → (a && false) ≡ false
and_false true = refl
and_false false = refl

pub or_false : (a : Bool) → (a || false) ≡ a
or_false true = refl
or_false false = refl

-- neither a `(` nor a space
pub record IsInner (b : ℕ) : Type 0 where
  pub no_open : eqb b 40 ≡ false
  pub no_space : eqb b 32 ≡ false
  pub no_close : eqb b 41 ≡ false
  pub no_quote : eqb b 39 ≡ false
  pub no_at : eqb b 64 ≡ false
  pub no_dollar : eqb b 36 ≡ false
  pub no_percent : eqb b 37 ≡ false

inner_opened : (mark b : ℕ) (back : List ℕ) → IsInner b → is_opened mark (b ∷ back) ≡ false
inner_opened mark b back i = rw (i.no_open, i.no_space) refl

inner_spaced : (mark b : ℕ) (back : List ℕ) → IsInner b → is_spaced mark (b ∷ back) ≡ false
inner_spaced mark b back i = rw i.no_space refl

pub Ends-letter : (mark : ℕ) (o n s : Bool) (b : ℕ) (back : List ℕ) → IsInner b → is_letter b ≡ true
    → Ends mark o n s back → Ends mark false (o || n) false (b ∷ back)
Ends-letter mark o n s b back i e h = record {
  is_opened_so = inner_opened mark b back i;
  is_named_so = rw (e, h.is_opened_so, h.is_named_so) refl;
  is_spaced_so = inner_spaced mark b back i;
}

pub Ends-name : (mark : ℕ) (n s : Bool) (b : ℕ) (back : List ℕ) → IsInner b → is_name_byte b ≡ true
    → Ends mark false n s back → Ends mark false n false (b ∷ back)
Ends-name mark n s b back i e h = record {
  is_opened_so = inner_opened mark b back i;
  is_named_so = rw (h.is_opened_so, h.is_named_so, e, and_false (is_letter b)) refl;
  is_spaced_so = inner_spaced mark b back i;
}

pub Ends-space : (mark : ℕ) (o n s : Bool) (back : List ℕ) → Ends mark o n s back
    → Ends mark o false (n || s) (32 ∷ back)
Ends-space mark o n s back h = record {
  is_opened_so = h.is_opened_so;
  is_named_so = refl;
  is_spaced_so = rw
      (h.is_named_so, h.is_spaced_so) refl;
}

pub Ends-open : (mark : ℕ) (back : List ℕ) → Ends mark (is_first mark back) false false (40 ∷ back)
Ends-open mark back = record
    { is_opened_so = or_false (is_first mark back); is_named_so = refl; is_spaced_so = refl }

-- a byte of a name
pub inner_name : (b : ℕ) (sort : Sort) → sort_of b ≡ sort → is_name_sort sort ≡ true → IsInner b
inner_name b sort e n = record {
  no_open = apart 40 refl;
  no_space = apart 32 refl;
  no_close = apart 41 refl;
  no_quote = apart 39 refl;
  no_at = apart 64 refl;
  no_dollar = apart 36 refl;
  no_percent = apart 37 refl;
}
  where
    apart : (k : ℕ) → is_name_sort (sort_of k) ≡ false → eqb b k ≡ false
    apart k f = other_byte b k (λ h. false≢true (sym f ∙ ap is_name_sort (sym h ∙ e) ∙ n))

-- inside or outside, as before
pub inside_same : (b : ℕ) (back : List ℕ) → IsInner b → is_inside (b ∷ back) ≡ is_inside back
inside_same b back i = rw (i.no_open, i.no_close, i.no_quote) refl

pub outside_still : (b : ℕ) (back : List ℕ) → eqb b 40 ≡ false → is_inside back ≡ false
    → is_inside (b ∷ back) ≡ false
outside_still b back e h = rw (e, h) (and_false _)

pub outside_open : (back : List ℕ) → is_first 36 back ≡ false → is_first 37 back ≡ false
    → is_inside back ≡ false → is_inside (40 ∷ back) ≡ false
outside_open back d p h = rw (d, p, h) refl

abbrev pub MarkIs : Mark → List ℕ → Type 0
MarkIs unmarked back = (is_first 36 back ≡ false) × (is_first 37 back ≡ false)
    × (is_first 64 back ≡ false)
MarkIs dollar back = (more : List ℕ) × (back ≡ 36 ∷ more)
MarkIs percent back = (more : List ℕ) × (back ≡ 37 ∷ more)
MarkIs at_sign back = (more : List ℕ) × (back ≡ 64 ∷ more)

pub record TextTrail (host : Host) (mark : Mark) (back : List ℕ) : Type 0 where
  pub mark_is : MarkIs mark back
  pub outside : ReadsMetadata (host_inside host) → is_inside back ≡ false

-- inside `$(` or `%(`
pub record NameTrail (opened named spaced : Bool) (back : List ℕ) : Type 0 where
  pub inside : is_inside back ≡ true
  pub no_at : is_first 64 back ≡ false
  pub ends : Ends 37 opened named spaced back

-- inside `@(`
pub record ItemsTrail (opened named spaced : Bool) (back : List ℕ) : Type 0 where
  pub outside : is_inside back ≡ false
  pub no_at : is_first 64 back ≡ false
  pub no_dollar : is_first 36 back ≡ false
  pub no_percent : is_first 37 back ≡ false
  pub ends : Ends 64 opened named spaced back

pub record TypeTrail (opened named spaced : Bool) (back : List ℕ) : Type 0 where
  pub items : ItemsTrail opened named spaced back
  pub none : Ends 37 false false false back

abbrev pub SteppingTrail : Kind → List ℕ → Type 0
SteppingTrail Name back = TypeTrail false false true back
SteppingTrail BadStep back = ItemsTrail false false false back
SteppingTrail Nested back = ⊥

abbrev pub Trail : Mode → List ℕ → Type 0
Trail (in_text host plain mark) back = TextTrail host mark back
Trail (name_opened host which) back = NameTrail (is_metadata which) false false back
Trail (in_name host which name) back = NameTrail false (is_metadata which) false back
Trail (name_ended host which name) back = NameTrail false false (is_metadata which) back
Trail (type_opened parts) back = TypeTrail true false false back
Trail (in_type parts kind) back = TypeTrail false true false back
Trail (type_dashed parts kind) back = TypeTrail false true false back
Trail (stepping heads) back = SteppingTrail (stepping_kind heads.steps) back
Trail (dashed heads) back = ItemsTrail false false false back
Trail (arrow heads) back = ItemsTrail false false false back
Trail (function_named heads function) back = ItemsTrail false false false back
Trail (function_ended heads function) back = ItemsTrail false false false back
Trail (args_opened heads function) back = ItemsTrail false false false back
Trail (arg_ended heads function args) back = ItemsTrail false false false back
Trail (arg_wanted heads function args) back = ItemsTrail false false false back
Trail (separator_wanted heads) back = ItemsTrail false false false back
Trail (separator_ended heads pieces) back = ItemsTrail false false false back
Trail (property_opened parts) back = NameTrail false false false back
Trail _ back = Unit {0}

-- the kinds
pub kind_inside : (b : ℕ) (back : List ℕ) → is_first 64 back ≡ false
    → (eqb b 46 && (is_named 37 back || is_spaced 37 back)) ≡ false → is_inside back ≡ true
    → kind_of b back ≡ Name
kind_inside b back a d i = rw (a, and_false (eqb b 40), d, i) refl

pub kind_dot : (back : List ℕ) → (is_named 37 back || is_spaced 37 back) ≡ true
    → kind_of 46 back ≡ BadStep
kind_dot back d = rw d refl

pub kind_nested : (back more : List ℕ) → back ≡ 64 ∷ more → kind_of 40 back ≡ Nested
kind_nested back more e = ap (kind_of 40) e

pub kind_type : (b : ℕ) (back : List ℕ) (o n s : Bool) → TypeTrail o n s back
    → (o || (n || s)) ≡ true → kind_of b back ≡ Name
kind_type b back o n s h t =
    let items = h.items in
    rw (
      items.no_at,
      and_false (eqb b 40),
      h.none.is_named_so,
      h.none.is_spaced_so,
      and_false
          (eqb b 46),
      items.outside,
      items.ends.is_opened_so,
      items.ends.is_named_so,
      items.ends.is_spaced_so,
      t,
    ) refl

either : (t : Bool) → cond t BadStep BadStep ≡ BadStep
either true = refl
either false = refl

pub kind_step : (b : ℕ) (back : List ℕ) → ItemsTrail false false false back
    → kind_of b back ≡ BadStep
kind_step b back h =
    rw (
      h.no_at,
      and_false (eqb b 40),
      h.outside,
      h.ends.is_opened_so,
      h.ends.is_named_so,
      h.ends.is_spaced_so,
    ) (either _)
