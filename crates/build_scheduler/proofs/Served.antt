-- What the tests of a core tell of the keys of its requests.
use Rattle.std.proofs.Common.{
  ◌≡◌,
  ℕ,
  Bool,
  true,
  List,
  Some,
  ap,
  sym,
  ◌∙◌,
}
use Rattle.std.specs.Prelude.{◌↔◌}
use Rattle.result_cache.specs.Exact.{key-exact}
use Rattle.result_cache.specs.Same.{same_key}
use Rattle.build_meaning.specs.Lists.{at}
use Rattle.build_meaning.proofs.EventsKeepLawful.{some-is}
use Rattle.build_meaning.proofs.ParentsAndChildren.{same_some}
use Rattle.build_scheduler.specs.declared.slot.Origin.{Origin}
use Rattle.build_scheduler.specs.Kept.{HaveOneKey}

module _ (origins : List Origin) (id : ℕ) (o : Origin) (here : at origins id ≡ Some o) where
  pub one-caller : (caller : ℕ) → o.parent ≡ Some caller → (other : Origin) →
      at origins id ≡ Some other → (by : ℕ) → other.parent ≡ Some by → by ≡ caller
  one-caller caller e other own by called =
      let p : other ≡ o = same_some (at origins id) other o own here in
      some-is by caller (sym called ∙ (ap (λ (a : Origin). a.parent) p ∙ e))

  pub key-if : (other : ℕ) (its : Origin) → at origins other ≡ Some its → (b : Bool) →
      b ≡ same_key o.key its.key → (b ≡ true) ↔ HaveOneKey origins id other
  key-if other its there b e = (
    (λ t. record {
      mine = o;
      its = its;
      own = here;
      whose = there;
      same = sym ((key-exact o.key its.key).0 (sym e ∙ t));
    }),
    (λ k.
        let p : k.mine ≡ o = same_some (at origins id) k.mine o k.own here in
        let q : k.its ≡ its = same_some (at origins other) k.its its k.whose there in
        let same : o.key ≡ its.key =
        ap (λ (a : Origin). a.key) (sym p) ∙ (sym k.same ∙ ap (λ (a : Origin). a.key) q) in
        e ∙ (key-exact o.key its.key).1 same),
  )
