use Rattle.std.proofs.Common.{Result, Ok, Err, OnErr}
use Rattle.task_trait.proofs.tools.CountedCountedTools.call.Goals as goal

whatever : {T E : Type 0} (r : Result T E) (P : Type 0) → P → OnErr r P
whatever (Ok x) P p = tt
whatever (Err e) P p = p

pub returns-clause-begun : goal.returns-clause-begun
returns-clause-begun g c = whatever c.call.result _ (_, c.in_ok-push.ensures.ok)
