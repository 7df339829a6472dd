use Rattle.result_cache.specs.Kept.{all_of}
use Rattle.result_cache.proofs.RunLists.{distinct-front}
use Rattle.result_cache.proofs.finished.join.Goals as goal

pub join_layers-requires : goal.join_layers-requires
join_layers-requires c = distinct-front (all_of c.args.layers.now) c.args.recent.now c.requires
