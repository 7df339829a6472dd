use Rattle.std.proofs.Common.{ap, ◌∙◌}
use Rattle.result_cache.specs.Table.{found}
use Rattle.result_cache.proofs.RunLists.{lookup-found}
use Rattle.result_cache.proofs.layer.Layer.find.Goals as goal

pub returns : goal.returns
returns c =
    let run = c.args.run.now in
    c.get.ensures.value
    ∙ (lookup-found c.self.inside.index.entries run ∙ ap (λ l. found l run) c.self.view_is)
