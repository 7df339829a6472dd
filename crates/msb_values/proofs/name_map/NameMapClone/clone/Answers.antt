use Rattle.std.proofs.Common.{◌∙◌}
use Rattle.std.proofs.lemmas.List.Elements.{same_from_all_zip}
use Rattle.msb_values.proofs.name_map.NameMapClone.clone.Goals as goal

pub returns : goal.returns
returns g c = record {
  cases = same_from_all_zip _ _ _ c.in_ok-clone.ensures.cases
      (λ p q is i. (is.0 i, g.met.T.EqualClones.clones_equal p.1 q.1 is.1 i)) ∙ c.self.view_is;
}
