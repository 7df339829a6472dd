-- The journal of a call that is over, as its caller knows it.
use Rattle.std.proofs.Common.{IfOk, IfSome, Result, Ok, Err, Option, None, Some}
use Rattle.std.proofs.Math.Logic.{∥∥₁_map}
use Rattle.result_cache.specs.Journal.{Journal}
use Rattle.result_cache.specs.Replay.{replay_all}
use Rattle.result_cache.specs.Table.{Records}
use Rattle.build_scheduler.specs.Learnt.{AreInOrder, ArePartOf}
use Rattle.build_scheduler.proofs.GrowingAnswers.{part-replay_all}
use Rattle.build_scheduler.proofs.Passing.{journal-prop}
use Rattle.request_machine.specs.Replayed.{IsReplayed}
use Rattle.request_machine.specs.declared.replayed.Replayed.{Replayed}

-- a table with more records replays its runs so, too
module _ (part table : Records) (ordered : AreInOrder table) (p : ArePartOf part table)
    (journal : Journal) where
  still-replayed : (o : Option Replayed) → IfSome o (IsReplayed part journal) →
      IfSome o (IsReplayed table journal)
  still-replayed None h = tt
  still-replayed (Some r) h = part-replay_all part table ordered p r.runs journal r.journal h

  pub replayed-more : (o : Option Replayed) → ∥ IfSome o (IsReplayed part journal) ∥₁ →
      ∥ IfSome o (IsReplayed table journal) ∥₁
  replayed-more o h = ∥∥₁_map h (still-replayed o)

-- what holds of what is given, by two other things that hold of it
pub given-both : {X E : Type 0} {P Q R : X → Type 0} (r : Result X E) →
    ((x : X) → P x → Q x → R x) → IfOk r P → IfOk r Q → IfOk r R
given-both (Ok x) f p q = f x p q
given-both (Err e) f p q = tt

-- there is but one way to say what a replay gives
pub replayed-prop : (table : Records) (journal : Journal) (r : Replayed) →
    IsProp (IsReplayed table journal r)
replayed-prop table journal r = journal-prop (replay_all table r.runs journal) r.journal
