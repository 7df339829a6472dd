-- Where a replay is defined: in a table of which each record calls for runs that were finished
-- before it.
use Rattle.std.proofs.Common.{List, [], ◌∷◌, Bool, true, false, Option, Some, None, IsSome, refl}
use Rattle.msb_laws.specs.Asking.{and_then}
use Rattle.result_cache.specs.declared.run.RunId.{RunId}
use Rattle.result_cache.specs.Journal.{Journal, acted, ended, end_of, has, add}
use Rattle.result_cache.specs.Lists.{this_or}
use Rattle.result_cache.specs.Replay.{
  Effect,
  puts_act,
  replays_run,
  effects_of,
  replays,
  replay_by,
  replay,
}
use Rattle.result_cache.specs.Same.{same_run}
use Rattle.result_cache.specs.Table.{FinishedRun, Records, found}
use Rattle.msb_files.specs.Ordered.{AreFinished, IsOrdered}

and_then_some : (o : Option Journal) (f : Journal → Option Journal) → IsSome o
    → ((journal : Journal) → IsSome (f journal)) → IsSome (and_then o f)
and_then_some None f h all = absurd (cc)
and_then_some (Some journal) f h all = all journal

replays_some : (older : Records) (effects : List Effect) (journal : Journal)
    → AreFinished effects older
    → ((run : RunId) (j : Journal) → IsSome (found older run) → IsSome (replay older run j))
    → IsSome (replays (replay older) effects journal)
replays_some older [] journal there each = refl
replays_some older (puts_act run place act ∷ effects) journal there each = replays_some older
    effects (add journal (acted run place act)) there each
replays_some older (replays_run run ∷ effects) journal there each = and_then_some
    (replay older run journal) (replays (replay older) effects) (each run journal there.0)
    (λ j. replays_some older effects j there.1 each)

by_some : (ended_there newest : Bool) (f : FinishedRun) (older : Records) (run : RunId)
    (journal : Journal) → AreFinished (effects_of f.run f.made) older
    → IsSome (this_or newest (found older run) f.made) →
    ((r : RunId) (j : Journal) → IsSome (found older r) → IsSome (replay older r j))
    → IsSome (replay_by ended_there newest (replay older) f run journal)
by_some true newest f older run journal there is each = refl
by_some false true f older run journal there is each = and_then_some
    (replays (replay older) (effects_of f.run f.made) journal)
    (λ k. Some (add k (ended f.run f.made)))
    (replays_some older (effects_of f.run f.made) journal there each) (λ k. refl)
by_some false false f older run journal there is each = each run journal is

pub defined : (table : Records) (run : RunId) (journal : Journal) → IsOrdered table
    → IsSome (found table run) → IsSome (replay table run journal)
defined [] run journal ordered is = absurd (cc)
defined (f ∷ table) run journal ordered is = by_some (has (end_of run) journal) (same_run f.run run)
    f table run journal ordered.0 is (λ r j there. defined table r j ordered.1 there)
