use Rattle.std.specs.Prelude.{IsTrue}
use Rattle.build_incremental.proofs.WorldsGo.{worlds-go}
use Rattle.build_incremental.proofs.worlds_go_alike.Goals as goal

pub returns : goal.returns
returns g h files may w c out means steady joins side =
    worlds-go files (λ path. IsTrue (may path)) w c out means steady joins side
