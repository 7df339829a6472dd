-- Where the body of a run stops, as the code holds it.
use Rattle.std.proofs.Common.{
  ◌≡◌,
  ℕ,
  List,
  [],
  ◌∷◌,
  ◌++◌,
  length,
  drop,
  map,
  Option,
  None,
  Some,
  IfSome,
  IsSome,
  refl,
  sym,
  ap,
  ◌∙◌,
  subst,
  append_assoc,
}
use Rattle.std.specs.List.{flat_map}
use Rattle.std.proofs.lemmas.List.{map-append, append-nil}
use Rattle.msb_values.specs.declared.scope.Scope.{Scope}
use Rattle.build_world.specs.Instances.{UsedTarget}
use Rattle.build_world.specs.declared.world.World.{World as Given}
use Rattle.result_cache.specs.Journal.{Journal}
use Rattle.result_cache.specs.declared.record.Segment.{Segment}
use Rattle.result_cache.specs.declared.request.RequestResult.{RequestResult}
use Rattle.result_cache.specs.declared.run.RunId.{RunId}
use Rattle.task_trait.specs.declared.tools.ToolAnswer.{ToolAnswer}
use Rattle.task_trait.specs.declared.tools.ToolInput.{ToolInput}
use Rattle.build_meaning.specs.SoFar.{SoFar, called}
use Rattle.build_meaning.specs.Stop.{Stop, ends, asks}
use Rattle.build_meaning.specs.Walk.{Body as Tree}
use Rattle.target_body.specs.Standings.{
  Standing,
  begins,
  waits,
  over,
  Advances,
  Fits,
  Goes,
  IsTold,
  body_in,
  standing_in,
  tool_use,
}
use Rattle.task_trait.specs.Tools.{BeginsWith}
use Rattle.target_body.specs.declared.body.Body.{Body}
use Rattle.target_body.specs.declared.body.BodyAsk.{BodyAsk}
use Rattle.request_machine.specs.Positions.{halt_at, halt_by, calls_at, uses_in, uses_between}
use Rattle.request_machine.specs.RunStops.{IsRunStop, Plays, Stops, ask_in}
use Rattle.request_machine.specs.declared.snapshots.Snapshots.{Snapshots}
use Rattle.request_machine.specs.declared.run.RunStop.{RunStop}

pub drop_front : {X : Type 0} (xs ys : List X) → drop (length xs) (xs ++ ys) ≡ ys
drop_front [] ys = refl
drop_front (x ∷ xs) ys = drop_front xs ys

flat_more : {X Y : Type 0} (f : X → List Y) (xs : List X) (x : X)
    → flat_map f (xs ++ x ∷ []) ≡ flat_map f xs ++ f x
flat_more f [] x = append-nil (f x)
flat_more f (y ∷ ys) x = ap (λ zs. f y ++ zs) (flat_more f ys x)
    ∙ sym (append_assoc (f y) (flat_map f ys) (f x))

module _ {T : Type 0} (calls : T → List (List ℕ × ToolInput)) where
  -- what is noted before and after a step is what the step has used
  pub noted_uses : (noted new : Snapshots (Snapshots T ℕ) (Snapshots T ℕ))
      (before after : Snapshots T ℕ) (old now : T)
      (uses : List (List ℕ × ToolInput)) → new.items ≡ noted.items ++ (before, after) ∷ []
      → before.items ≡ (old, 0) ∷ [] → after.items ≡ (now, 0) ∷ []
      → calls now ≡ calls old ++ uses → uses_in calls new ≡ uses_in calls noted ++ uses
  noted_uses noted new before after old now uses is b a c =
      ap (flat_map (uses_between calls)) is
      ∙ (flat_more (uses_between calls) noted.items (before, after)
      ∙ ap (λ us. uses_in calls noted ++ us)
      (ap (λ xs. drop (length xs) (calls_at calls after.items)) (ap (calls_at calls) b)
      ∙ (ap (drop (length (calls old))) (ap (calls_at calls) a ∙ c)
      ∙ drop_front (calls old) uses)))

module _ {T : Type 0} (answer : List ℕ → ToolInput → ToolAnswer)
    (calls : T → List (List ℕ × ToolInput)) (w : Given) (run : RunId) (target : UsedTarget) where
  pub step_stops : (b : Tree ToolInput ToolAnswer) (segments : List Segment)
      (before after : Journal) (old new : T) (noted then_noted : Snapshots (Snapshots T ℕ)
      (Snapshots T ℕ)) (body : Body)
      (ask : BodyAsk) (run_stop : RunStop T)
      → Advances answer run b segments before after (calls old) (calls new) ask
      (standing_in w run target body)
      → ((uses : List (List ℕ × ToolInput)) → calls new ≡ calls old ++ uses
      → uses_in calls then_noted ≡ uses_in calls noted ++ uses)
      → IsRunStop run body then_noted ask run_stop
      → Stops answer calls w run (Some target) b
      (record { segments = segments; tools = map tool_use (uses_in calls noted) }) before after
      old new run_stop
  step_stops b segments before after old new noted then_noted body ask run_stop a grown is =
      record {
        uses = a.uses;
        called = a.calls;
        stopped = record { stop = a.stop; journal = after; so_far = so_far };
        is = a.stops (map tool_use (uses_in calls noted));
        halted = (stopped_by a.stop a.told).0;
        tools = refl;
        journal = refl;
        asks_so = (stopped_by a.stop a.told).1;
      }
    where
      so_far : SoFar ToolInput
      so_far = record {
        segments = a.written;
        tools = map tool_use (uses_in calls noted) ++ map tool_use a.uses;
      }

      tools_are : map tool_use (uses_in calls then_noted)
          ≡ map tool_use (uses_in calls noted) ++ map tool_use a.uses
      tools_are = ap (map tool_use) (grown a.uses a.calls)
          ∙ map-append tool_use (uses_in calls noted) a.uses

      stopped_by : (stop : Stop ToolInput ToolAnswer)
          → IsTold stop a.written ask (standing_in w run target body)
          → (halt_at calls w run (Some target) run_stop.at ≡ Some (so_far, stop))
          × (run_stop.ask ≡ ask_in run so_far stop)
      stopped_by (ends outcome) told =
          let e = subst (λ x. IsRunStop run body then_noted x run_stop) told.0 is in (
            ap (halt_at calls w run (Some target)) e.0
                ∙ ap (λ us. Some (record { segments = a.written; tools = us }, ends outcome))
                tools_are,
            e.1,
          )
      stopped_by (asks key keys go) told =
          let e = subst (λ x. IsRunStop run body then_noted x run_stop) told.0 is in (
            ap (halt_at calls w run (Some target)) e.0
                ∙ (ap (halt_by (uses_in calls then_noted)) told.1
                ∙ ap (λ us. Some (record { segments = a.written; tools = us }, asks key keys go))
                tools_are),
            e.1,
          )

  module _ (results : List RequestResult) (before after : Journal) (old new : T)
      (noted then_noted : Snapshots (Snapshots T ℕ) (Snapshots T ℕ)) (body then_body : Body)
      (ask : BodyAsk)
      (run_stop : RunStop T)
      (grown : (uses : List (List ℕ × ToolInput)) → calls new ≡ calls old ++ uses
      → uses_in calls then_noted ≡ uses_in calls noted ++ uses)
      (is : IsRunStop run then_body then_noted ask run_stop) where
    pub goes_plays : (st : Standing)
        → Goes answer run (body_in w run target) st results before after (calls old) (calls new) ask
        (standing_in w run target then_body) →
        Plays answer calls w run target st results before after old new noted run_stop
    goes_plays (begins scope) goes = step_stops (body_in w run target scope before) [] before after
        old new noted then_noted then_body ask run_stop goes grown is
    goes_plays (waits segments key keys go) goes = step_stops (go results before)
        (segments ++ called (key ∷ keys) results) before after old new noted then_noted then_body
        ask
        run_stop goes grown is
    goes_plays over goes = tt

-- for the target that the project has
pub all_play : {T : Type 0} (answer : List ℕ → ToolInput → ToolAnswer)
    (calls : T → List (List ℕ × ToolInput)) (w : Given) (run : RunId) (results : List RequestResult)
    (before after : Journal) (old new : T)
    (noted then_noted : Snapshots (Snapshots T ℕ) (Snapshots T ℕ)) (body then_body : Body)
    (ask : BodyAsk) (run_stop : RunStop T)
    (found : Option UsedTarget) →
    ((uses : List (List ℕ × ToolInput)) → calls new ≡ calls old ++ uses
    → uses_in calls then_noted ≡ uses_in calls noted ++ uses)
    → IsRunStop run then_body then_noted ask run_stop →
    IfSome found
    (λ target. Goes answer run (body_in w run target) (standing_in w run target body) results
    before after (calls old) (calls new) ask (standing_in w run target then_body)) →
    IfSome found
    (λ target. Plays answer calls w run target (standing_in w run target body) results before
    after old new noted run_stop)
all_play answer calls w run results before after old new noted then_noted body then_body ask
    run_stop None grown is goes = tt
all_play answer calls w run results before after old new noted then_noted body then_body ask
    run_stop (Some target) grown is goes =
    goes_plays answer calls w run target results before after old new noted then_noted body
    then_body
    ask run_stop grown is (standing_in w run target body) goes

-- the calls of tools begin with those of before
goes_begin : (answer : List ℕ → ToolInput → ToolAnswer) (id : RunId)
    (whole : Scope → Journal → Tree ToolInput ToolAnswer) (results : List RequestResult)
    (before after : Journal) (old new : List (List ℕ × ToolInput)) (ask : BodyAsk)
    (st now : Standing) →
    Fits st results → Goes answer id whole st results before after old new ask now
    → BeginsWith old new
goes_begin answer id whole results before after old new ask (begins scope) now fits goes =
    (goes.uses, goes.calls)
goes_begin answer id whole results before after old new ask (waits segments key keys go) now fits
    goes = (goes.uses, goes.calls)
goes_begin answer id whole results before after old new ask over now fits goes = absurd fits

pub all_begin : (answer : List ℕ → ToolInput → ToolAnswer) (w : Given) (run : RunId)
    (found : Option UsedTarget) (body then_body : Body) (results : List RequestResult)
    (before after : Journal) (old new : List (List ℕ × ToolInput)) (ask : BodyAsk) → IsSome found →
    IfSome found (λ target. Fits (standing_in w run target body) results) →
    IfSome found
    (λ target. Goes answer run (body_in w run target) (standing_in w run target body) results
    before after old new ask (standing_in w run target then_body)) → BeginsWith old new
all_begin answer w run None body then_body results before after old new ask there fits goes = absurd
    (cc)
all_begin answer w run (Some target) body then_body results before after old new ask there fits goes
    =
    goes_begin answer run (body_in w run target) results before after old new ask
    (standing_in w run target body) (standing_in w run target then_body) fits goes
