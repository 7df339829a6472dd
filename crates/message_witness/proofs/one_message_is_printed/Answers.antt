use Rattle.message_witness.proofs.Computed.{means, shows, words-mean}
use Rattle.message_witness.proofs.one_message_is_printed.Goals as goal

pub returns-clause-meaning : goal.returns-clause-meaning
returns-clause-meaning c tools stamp = means tools stamp

pub returns-clause-text : goal.returns-clause-text
returns-clause-text c = shows

pub returns-clause-words : goal.returns-clause-words
returns-clause-words c tools stamp = words-mean tools stamp
