use Rattle.std.proofs.Common.{◌≡◌, Some, refl, ap, ◌∙◌}
use Rattle.std.specs.Ordering.{is_lt, nat_cmp}
use Rattle.std.proofs.lemmas.Iterator.Adapters.{YieldsList-from_bytes, YieldsList-from_once}
use Rattle.std.proofs.lemmas.Iterator.Consumers.{YieldsList-from_chain}
use Rattle.std.proofs.lemmas.Iterator.Search.{cmp_from_yields_List}
use Rattle.file_store.proofs.presence.is_ahead.Goals as goal

pub returns : goal.returns
returns c =
    c.is_lt.ensures
    ∙ ap is_lt
    (cmp_from_yields_List (λ x y. y ≡ x) _ nat_cmp _ c.cmp.ensures.ran
    (YieldsList-from_bytes c.args.path.now (cc))
    (λ it e. YieldsList-from_chain {s = it} (YieldsList-from_bytes c.args.folder.now (cc))
    (YieldsList-from_once (Some 47) (cc)) (cc) (cc)) (λ x y. refl))
