use Rattle.result_cache.specs.Lists.{In}
use Rattle.build_meaning.specs.Stands.{Contained}
use Rattle.build_meaning.proofs.Derivations.{both-meaning, journal-made}
use Rattle.build_meaning.proofs.DerivedMeaning.{given, told, left}
use Rattle.build_meaning.proofs.meanings.derivation_is_the_meaning.Goals as goal

pub returns-clause-given : goal.returns-clause-given
returns-clause-given g c = given

pub returns-clause-told : goal.returns-clause-told
returns-clause-told g c w demand = told w (λ e. In e demand)

pub returns-clause-left : goal.returns-clause-left
returns-clause-left g c w out = left w (Contained out)

pub returns-clause-once : goal.returns-clause-once
returns-clause-once g c w demand other = both-meaning w (λ e. In e demand) (λ e. In e other)

pub returns-clause-made : goal.returns-clause-made
returns-clause-made g c w demand = journal-made w (λ e. In e demand)
