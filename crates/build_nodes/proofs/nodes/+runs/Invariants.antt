use Rattle.std.proofs.Common.{◌+◌, ◌*◌, vec_len}
use Rattle.build_nodes.proofs.nodes.+runs.Given as goal

abbrev pub decreases-run_all : goal.decreases-run_all
decreases-run_all g l = 3 * vec_len l.nodes

abbrev pub decreases-run_both : goal.decreases-run_both
decreases-run_both g l = 3 * vec_len l.others + 2

abbrev pub decreases-run_both-there : goal.decreases-run_both-there
decreases-run_both-there g l = 3 * vec_len l.others + 1
