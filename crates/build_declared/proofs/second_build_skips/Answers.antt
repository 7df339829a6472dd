use Rattle.build_declared.proofs.SkippedWorlds.{second-build-skips}
use Rattle.build_declared.proofs.second_build_skips.Goals as goal

pub returns : goal.returns
returns c tools w clean trusted current mode out means =
    second-build-skips tools w clean trusted current mode out means
