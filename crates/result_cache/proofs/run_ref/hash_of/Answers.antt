use Rattle.std.proofs.Common.{ap, ◌∙◌}
use Rattle.std.specs.Hash.FoldHasher.{write, finish}
use Rattle.std.specs.List.{fold}
use Rattle.result_cache.specs.Same.{run_writes}
use Rattle.result_cache.specs.Hashes.{run_hash}
use Rattle.result_cache.proofs.run_ref.hash_of.Goals as goal

pub returns : goal.returns
unfolding run_hash
returns c = c.finish.ensures
    ∙ ap finish
    (c.hash.ensures ∙ ap (λ h. fold write h (run_writes c.args.run.now)) c.default-hasher.ensures)
