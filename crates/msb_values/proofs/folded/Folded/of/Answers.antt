use Rattle.msb_values.proofs.Folding.{folds_as_compared}
use Rattle.msb_values.proofs.folded.Folded.of.Goals as goal

pub returns-in_err-default_case_fold_str-clause-compared :
    goal.returns-in_err-default_case_fold_str-clause-compared
returns-in_err-default_case_fold_str-clause-compared c = folds_as_compared

pub returns-clause-compared : goal.returns-clause-compared
returns-clause-compared c = folds_as_compared
