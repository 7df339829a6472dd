-- The first two names that may not stand together, found from the back.
use Rattle.std.proofs.Common.{
  ◌≡◌,
  ℕ,
  suc,
  ◌<◌,
  List,
  [],
  ◌∷◌,
  ◌&&◌,
  length,
  drop,
  drop-cons,
  get_or,
  Bool,
  true,
  false,
  true≢false,
  Option,
  Some,
  None,
  option_map,
  Bor,
  cond,
  refl,
  sym,
  ap,
  ◌∙◌,
}
use Rattle.std.proofs.lemmas.Map.Text.{is_eq-slice_cmp}
use Rattle.std.specs.Cmp.Lexicographic.{slice_cmp}
use Rattle.std.specs.List.{list_any}
use Rattle.std.specs.Option.{option_copied}
use Rattle.std.specs.Ordering.{nat_cmp, is_eq}
use Rattle.std.specs.Str.{bytes_eq, str_to_ascii_lowercase}
use Rattle.msb_elements.specs.Rows.{Clash, has_clashes, row_of}
use Rattle.msb_elements.specs.Stands.{role_of, or_else}
use Rattle.msb_elements.specs.Checks.{
  Pair,
  is_clash,
  is_named,
  is_same,
  apart_as,
  are_apart,
  first_other,
  first_two,
}
use Rattle.msb_elements.specs.declared.kind.Kind.{Kind}
use Rattle.msb_elements.specs.declared.kind.Role.{Role}
use Rattle.msb_elements.specs.declared.kind.Role.TheVariants.{Known, Named, NotAllowed}

none_of : (attributes : List Pair) (name : List ℕ) (rest : List Pair)
    → first_other (λ other. list_any (is_clash attributes name other) []) rest ≡ None
none_of attributes name [] = refl
none_of attributes name (pair ∷ pairs) = none_of attributes name pairs

-- where a row keeps nothing apart, nothing is found
pub none_apart : (clashes : List Clash) (attributes : List Pair) (name : List ℕ) (rest : List Pair)
    → has_clashes clashes ≡ false
    → first_other (λ other. list_any (is_clash attributes name other) clashes) rest ≡ None
none_apart [] attributes name rest none = none_of attributes name rest
none_apart (clash ∷ clashes) attributes name rest some = absurd (true≢false some)

-- the first metadata or parameter of a name, which is in lower case
abbrev pub first_called : Kind → List ℕ → List Pair → Option (List ℕ)
first_called kind key pairs = first_other (λ name. is_named (role_of kind name) && is_same key name)
    pairs

pub drop_front : {X : Type 0} (xs : List X) (j n : ℕ) (x : X) → n ≡ suc j → j < length xs
    → x ≡ get_or xs j x → drop j xs ≡ x ∷ drop n xs
drop_front xs j n x next within is = rw (drop-cons xs j x, ← is, next) refl

-- a metadata or a parameter may not stand beside another of its name
pub other_named : (kind : Kind) (attributes : List Pair) (name : List ℕ) (rest : List Pair)
    → role_of kind name ≡ Named → first_called kind (str_to_ascii_lowercase name) rest
    ≡ first_other (are_apart kind attributes name) rest
other_named kind attributes name rest named = sym
    (ap (λ role. first_other (apart_as role kind attributes name) rest) named)

not_named : (role : Role) (kind : Kind) (attributes : List Pair) (name : List ℕ) (rest : List Pair)
    → (role ≡ Named → ⊥) → first_other (apart_as role kind attributes name) rest
    ≡ first_other (λ other. list_any (is_clash attributes name other) (row_of kind).clashes) rest
not_named Known kind attributes name rest other = refl
not_named NotAllowed kind attributes name rest other = refl
not_named Named kind attributes name rest other = absurd (other refl)

-- any other may not stand beside those that its row keeps apart
pub other_known : (kind : Kind) (attributes : List Pair) (name : List ℕ) (rest : List Pair)
    → (role_of kind name ≡ Named → ⊥)
    → first_other (λ other. list_any (is_clash attributes name other) (row_of kind).clashes) rest
    ≡ first_other (are_apart kind attributes name) rest
other_known kind attributes name rest other = sym
    (not_named (role_of kind name) kind attributes name rest other)

-- one more name, in front of those so far
pub two_step : (apart : List ℕ → List ℕ → Bool) (pairs rest : List Pair) (pair : Pair)
    (name : List ℕ) (other : Option (List ℕ)) (found : Option (List ℕ × List ℕ))
    → pairs ≡ pair ∷ rest → name ≡ pair.0 → other ≡ first_other (apart name) rest
    → found ≡ first_two apart rest → or_else (option_map (λ o. (name, o)) other) found
    ≡ first_two apart pairs
two_step apart pairs rest pair name other found all is first so_far = rw (all, first, so_far, is)
    refl

called_front : (kind : Kind) (key : List ℕ) (pair : Pair) (rest : List Pair) (role : Role)
    → role_of kind pair.0 ≡ role
    → first_called kind key (pair ∷ rest) ≡ cond (is_named role && is_same key pair.0) (Some pair.0)
    (first_called kind key rest)
called_front kind key pair rest role is = ap
    (λ r. cond (is_named r && is_same key pair.0) (Some pair.0) (first_called kind key rest)) is

noted : (b : Bool) (name : List ℕ) (ref : Bor (List ℕ)) (got : Option (Bor (List ℕ)))
    (rest : Option (List ℕ)) → ref.now ≡ name → option_copied got ≡ rest
    → option_copied (cond b (Some ref) got) ≡ cond b (Some name) rest
noted true name ref got rest is same = ap Some is
noted false name ref got rest is same = same

-- a map that has noted a metadata or a parameter gives it for its name
pub later_named : (kind : Kind) (key low : List ℕ) (pairs rest : List Pair) (pair : Pair)
    (ref : Bor (List ℕ)) (before now : Option (Bor (List ℕ)))
    → pairs ≡ pair ∷ rest → ref.now ≡ pair.0 → low ≡ str_to_ascii_lowercase ref.now
    → role_of kind ref.now ≡ Named
    → now ≡ cond (is_eq (slice_cmp nat_cmp low key)) (Some ref) before
    → option_copied before ≡ first_called kind key rest
    → option_copied now ≡ first_called kind key pairs
later_named kind key low pairs rest pair ref before now all is low_is named noted_is so_far =
    let same : bytes_eq low key ≡ is_same key pair.0 = ap (λ name. bytes_eq name key) low_is
    ∙ ap (is_same key) is in
    ap option_copied noted_is ∙ noted (is_eq (slice_cmp nat_cmp low key)) pair.0 ref before _ is
    so_far
    ∙ ap (λ b. cond b (Some pair.0) (first_called kind key rest)) (is_eq-slice_cmp low key ∙ same)
    ∙ sym (called_front kind key pair rest Named (ap (role_of kind) (sym is) ∙ named))
    ∙ ap (first_called kind key) (sym all)

unnamed : (role : Role) → (role ≡ Named → ⊥) → is_named role ≡ false
unnamed Known other = refl
unnamed NotAllowed other = refl
unnamed Named other = absurd (other refl)

-- any other attribute changes nothing
pub later_known : (kind : Kind) (key : List ℕ) (pairs rest : List Pair) (pair : Pair)
    (name : List ℕ) (got : Option (Bor (List ℕ)))
    → pairs ≡ pair ∷ rest → name ≡ pair.0 → (role_of kind name ≡ Named → ⊥)
    → option_copied got ≡ first_called kind key rest
    → option_copied got ≡ first_called kind key pairs
later_known kind key pairs rest pair name got all is other so_far =
    let front = called_front kind key pair rest (role_of kind name) (ap (role_of kind) (sym is)) in
    so_far
    ∙ sym
    (front ∙ ap (λ b. cond (b && is_same key pair.0) (Some pair.0) (first_called kind key rest))
    (unnamed (role_of kind name) other)) ∙ ap (first_called kind key) (sym all)
