use Rattle.std.proofs.Common.{
  ℕ,
  List,
  Option,
  Some,
  None,
  MatchOption,
  Bor,
  true,
  false,
  eqb,
  length,
  drop,
  ◌≡◌,
  sym,
  ap,
  subst,
  ◌∙◌,
}
use Rattle.std.specs.List.{starts_with}
use Rattle.std.specs.Str.{IsCharBoundary}
use Rattle.std.specs.Str.Pattern.{FindsTextPrefix, StripsPrefix}
use Rattle.std.proofs.lemmas.Str.Pattern.{starts_text}
use Rattle.msb_glob.proofs.expansion.behind.Goals as goal

behind_front : (front path : List ℕ) (r : Option (Bor (List ℕ)))
    → MatchOption r (FindsTextPrefix front path None)
    (λ x. StripsPrefix (FindsTextPrefix front) path x.now)
    → MatchOption r (starts_with eqb path front ≡ false)
    (λ rest. (starts_with eqb path front ≡ true) × (rest.now ≡ drop (length front) path))
behind_front front path None cases = sym (starts_text false front path cases)
behind_front front path (Some rest) cases = (
  sym
      (starts_text true front path
      (cases.0, cases.1, subst (IsCharBoundary path) (sym cases.1.0) cases.1.2)),
  cases.2
      ∙ ap (λ n. drop n path) cases.1.0,
)

pub returns : goal.returns
returns c = behind_front c.args.front.now c.args.path.now c.strip_prefix.result
    c.strip_prefix.ensures.cases
