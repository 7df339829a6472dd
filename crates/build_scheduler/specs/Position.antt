-- Where the walk of a request stands, what it asks there, and where an answer takes it. (Target
-- build order; MSBuild task)
use Rattle.std.specs.Prelude.{
  ◌≡◌,
  ◌<◌,
  ◌==◌,
  ℕ,
  List,
  [],
  ◌∷◌,
  ◌++◌,
  length,
  drop,
  Option,
  None,
  Some,
}
use Rattle.msb_laws.specs.Asking.{and_then}
use Rattle.result_cache.specs.declared.run.RunId.{RunId}
use Rattle.result_cache.specs.declared.request.RequestKey.{RequestKey}
use Rattle.result_cache.specs.declared.record.Record.{Record}
use Rattle.result_cache.specs.Journal.{Journal, ended, add}
use Rattle.result_cache.specs.Lists.{In}
use Rattle.result_cache.specs.Table.{Records, found}
use Rattle.result_cache.specs.Replay.{replay, replay_all}
use Rattle.build_meaning.specs.World.{World}
use Rattle.build_meaning.specs.Walk.{Walk, gives, wants}
use Rattle.build_meaning.specs.SoFar.{
  ToolUse,
  nothing_yet,
  with_calls,
  runs_of,
  recorded,
  result_of,
}
use Rattle.build_meaning.specs.Stop.{ends, asks, Stopped, run_on}
use Rattle.build_meaning.specs.State.{Place, walking, within}
use Rattle.build_meaning.specs.Step.{only_if}
use Rattle.build_scheduler.specs.declared.walker.Ask.{Ask}
use Rattle.build_scheduler.specs.declared.walker.Ask.TheVariants.{Want, Call, Finished, Done}
use Rattle.build_scheduler.specs.declared.walker.Answer.{Answer}
use Rattle.build_scheduler.specs.declared.walker.Answer.TheVariants.{First, Go, Use, Results}

-- the journal of a request, the runs that it has made or used, and where it stands between or in
-- its runs
pub record Position (P I A : Type 0) : Type 0 where
  pub journal : Journal
  pub runs : List RunId
  pub place : Place P I A

-- what it asks there
abbrev pub ask_at : {P I A : Type 0} → List RunId → Place P I A → Ask
ask_at runs (walking (gives reply)) = Done (result_of reply runs)
ask_at runs (walking (wants site run b go)) = Want run
ask_at runs (within x (ends outcome)) = Finished x.run (recorded outcome x.so_far.segments)
ask_at runs (within x (asks key keys go)) = Call (key ∷ keys)

abbrev pub ask_of : {P I A : Type 0} → Position P I A → Ask
ask_of p = ask_at p.runs p.place

-- where a body has stopped
abbrev pub stopped_in : {P I A : Type 0} → List RunId → RunId → (Record → Journal → Walk P I A)
    → Stopped I A → Position P I A
stopped_in runs run go x =
    record {
      journal = x.journal;
      runs = runs;
      place = within
          (record { run = run; so_far = x.so_far; go = go }) x.stop;
    }

-- where the request goes on by the record of a run
abbrev pub after_run : {P I A : Type 0} → List RunId → RunId → (Record → Journal → Walk P I A)
    → Record → Journal → Position P I A
after_run runs run go made journal = record
    { journal = journal; runs = runs ++ run ∷ []; place = walking (go made journal) }

-- where an answer takes a request, by a table of records: the body of a run goes on until it stops;
-- a record is replayed; the results of calls, one for each, have their runs replayed in call order
module _ {P I A : Type 0} (w : World P I A) (table : Records) where
  abbrev pub answered_at : Journal → List RunId → Place P I A → Answer → Option (Position P I A)
  answered_at journal runs place First = Some
      (record { journal = journal; runs = runs; place = place })
  answered_at journal runs (walking (wants site run b go)) Go = Some
      (stopped_in runs run go (run_on w.tools run b journal nothing_yet))
  answered_at journal runs (walking (wants site run b go)) Use =
      and_then (found table run)
      (λ made. and_then (replay table run journal)
      (λ next. Some (after_run runs run go made next)))
  answered_at journal runs (within x (ends outcome)) Use =
      let made : Record = recorded outcome x.so_far.segments in Some
      (after_run runs x.run x.go made (add journal (ended x.run made)))
  answered_at journal runs (within x (asks key keys go)) (Results results) =
      and_then (only_if (length results == length (key ∷ keys)) results) (λ results.
      and_then (replay_all table (runs_of results) journal) (λ next.
      Some
      (stopped_in runs x.run x.go
      (run_on w.tools x.run (go results next) next
      (with_calls x.so_far (key ∷ keys) results)))))
  answered_at journal runs place answer = None

  abbrev pub answered : Position P I A → Answer → Option (Position P I A)
  answered p answer = answered_at p.journal p.runs p.place answer

-- the first answer comes before anything is asked, and every other one after an ask
abbrev pub IsInTurn : ℕ → Answer → Type 0
IsInTurn asked First = asked ≡ 0
IsInTurn asked answer = 0 < asked

-- where a new request stands, which begins with its caller's journal
abbrev pub begins : {P I A : Type 0} → World P I A → RequestKey → Journal → Position P I A
begins w key journal = record
    { journal = journal; runs = []; place = walking (w.walks key journal) }

-- the request asks for calls, and this is one of them
abbrev pub IsCall : RequestKey → Ask → Type 0
IsCall key (Call keys) = In key keys
IsCall key ask = ⊥

-- the request asks for nothing more
abbrev pub HasEnded : Ask → Type 0
HasEnded (Done told) = Unit {0}
HasEnded ask = ⊥

-- the tools that the body which a request is in has used
abbrev pub tools_in : {P I A : Type 0} → Place P I A → List (ToolUse I)
tools_in (walking walk) = []
tools_in (within x stop) = x.so_far.tools

-- the tools that were used on the way from one place to the next
abbrev pub used_between : {P I A : Type 0} → Place P I A → Place P I A → List (ToolUse I)
used_between before after = drop (length (tools_in before)) (tools_in after)
