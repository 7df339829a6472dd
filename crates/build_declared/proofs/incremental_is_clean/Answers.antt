use Rattle.build_declared.proofs.CleanWorlds.{build-is-clean, meant-is-clean, trees-are-clean}
use Rattle.build_declared.proofs.incremental_is_clean.Goals as goal

pub returns-clause-whole : goal.returns-clause-whole
returns-clause-whole c tools w clean trusted = build-is-clean tools w clean trusted

pub returns-clause-meant : goal.returns-clause-meant
returns-clause-meant c tools w clean trusted out means =
    meant-is-clean tools w clean trusted out means

pub returns-clause-trees : goal.returns-clause-trees
returns-clause-trees c tools w clean trusted out means after other here there path =
    trees-are-clean tools w clean trusted out means after other here there path
