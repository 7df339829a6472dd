use Rattle.file_store.proofs.Commits.{AreDone-contents}
use Rattle.msb_files.specs.FinalTree.{commit_list}
use Rattle.msb_files.proofs.Committed.{final}
use Rattle.msb_files.proofs.laws.commits_leave_the_final_tree.Goals as goal

pub returns-clause-done : goal.returns-clause-done
returns-clause-done c = λ journal before after done.
    final journal before after (AreDone-contents (commit_list journal) before after done)

pub returns-clause-contents : goal.returns-clause-contents
returns-clause-contents c = final
