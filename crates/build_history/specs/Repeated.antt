-- What the table tells of requests: how a request of a key ends that begins with a journal, and how
-- one that is on its way ends by records alone. (MSBuild task: a target is run once)
use Rattle.std.specs.Prelude.{◌≡◌, ◌++◌, ℕ, List, map, Some}
use Rattle.result_cache.specs.declared.run.RunId.{RunId}
use Rattle.result_cache.specs.declared.request.RequestKey.{RequestKey}
use Rattle.result_cache.specs.declared.request.RequestResult.{RequestResult}
use Rattle.result_cache.specs.Journal.{Journal}
use Rattle.result_cache.specs.Table.{Records}
use Rattle.build_meaning.specs.declared.event.Event.{Event}
use Rattle.build_meaning.specs.declared.event.Event.TheVariants.{Claim}
use Rattle.build_meaning.specs.declared.event.ClaimKind.TheVariants.{Use}
use Rattle.build_meaning.specs.World.{World}
use Rattle.build_meaning.specs.Walk.{Reply, gives, wants}
use Rattle.build_meaning.specs.SoFar.{result_of}
use Rattle.build_meaning.specs.ByTable.{walk_by, request_by}
use Rattle.build_meaning.specs.State.{
  Place,
  walking,
  within,
  Status,
  ready,
  assigned,
  waits,
  calling,
  done,
  Origin,
  RequestState,
  State,
  with_request,
}
use Rattle.build_meaning.specs.Step.{after_all}

module _ {P I A : Type 0} (w : World P I A) (table : Records) (first : Journal) where
  -- between two runs a request gives by the table what all of a request of its key gives that
  -- begins with this journal
  abbrev pub LeadsOn : RequestKey → Journal → List RunId → Place P I A → Type 0
  LeadsOn key journal runs (walking x) =
      request_by w table first key ≡ walk_by w table x journal runs
  LeadsOn key journal runs (within x stop) = Unit {0}

  -- in no body, too, and where it is over, it has given that
  abbrev pub EndsAs : RequestKey → Journal → List RunId → Status P I A → Type 0
  EndsAs key journal runs (ready place) = LeadsOn key journal runs place
  EndsAs key journal runs (assigned node place) = LeadsOn key journal runs place
  EndsAs key journal runs (waits run b go) =
      (site : P) × LeadsOn key journal runs (walking (wants site run b go))
  EndsAs key journal runs (calling keys ids x go) = Unit {0}
  EndsAs key journal runs (done result) = request_by w table first key ≡ Some (result, journal)

-- a request uses the records of these runs, one after the other
abbrev pub uses_of_all : ℕ → List RunId → List Event
uses_of_all id runs = map (λ run. Claim id run Use) runs

-- with a node a request may use the records of all runs that are left to it, and then asks for
-- nothing but to be over, with this result and this journal
pub record EndsByRecords {P I A : Type 0} (w : World P I A) (s : State P I A) (id node : ℕ)
    (origin : Origin) (runs : List RunId) (result : RequestResult) (last : Journal) : Type 0 where
  pub rest : List RunId
  pub reply : Reply
  pub runs_so : result.runs ≡ runs ++ rest
  pub told : result_of reply result.runs ≡ result
  pub after : after_all w s (uses_of_all id rest) ≡ Some (with_request s id (record {
    origin = origin;
    journal = last;
    runs = result.runs;
    status = assigned node (walking (gives reply));
  }))
