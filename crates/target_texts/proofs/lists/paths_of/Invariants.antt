use Rattle.msb_laws.proofs.Collecting.{IsOk}
use Rattle.msb_laws.specs.Results.{all_ok}
use Rattle.target_texts.specs.Lists.{path_of}
use Rattle.target_texts.proofs.lists.paths_of.Given as goal

abbrev pub invariant-loop-item : goal.invariant-loop-item
invariant-loop-item l = IsOk (path_of l.project) l.items l.item-index l.paths
    (all_ok (path_of l.project) l.items)
