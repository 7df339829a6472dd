use Rattle.std.proofs.Common.{
  ◌≡◌,
  ◌∙◌,
  ◌+◌,
  ◌++◌,
  ◌∷◌,
  [],
  ℕ,
  List,
  Option,
  None,
  Some,
  ap,
  length,
  refl,
  rules,
  sym,
}
use Rattle.std.proofs.lemmas.List.{reverse-append}
use Rattle.std.specs.Prelude.{MatchOption, option_to_list, reverse, vec_len}
use Rattle.msb_expand.specs.declared.lens.Bucket.{Bucket}
use Rattle.target_body.proofs.later.Buckets.next.Goals as goal

empty : (xs : List Bucket) → length xs ≡ 0 → xs ≡ []
empty [] none = refl
empty (x ∷ xs) none = cc

popped : (result : Option Bucket) (seen before after : List Bucket) (n m : ℕ)
    → reverse before ≡ seen → n ≡ length before → before ≡ after ++ option_to_list result
    → MatchOption result ((n ≡ 0) × (m ≡ 0)) (λ bucket. m + 1 ≡ n)
    → MatchOption result (seen ≡ []) (λ bucket. seen ≡ bucket ∷ reverse after)
popped None seen before after n m view len items cases = sym view
    ∙ ap (λ (xs : List Bucket). reverse xs) (empty before (sym len ∙ cases.0))
popped (Some bucket) seen before after n m view len items cases = sym view
    ∙ ap (λ (xs : List Bucket). reverse xs) items ∙ reverse-append after (bucket ∷ [])

pub returns : goal.returns
returns c =
    let len : vec_len c.self.inside.buckets ≡ length c.self.inside.buckets.items = search rules in
    popped c.pop.result _ c.self.inside.buckets.items c.pop.new.self.items
    (vec_len c.self.inside.buckets) (vec_len c.pop.new.self) c.self.view_is len
    c.pop.ensures.items c.pop.ensures.cases
