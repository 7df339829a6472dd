-- Where an answer takes a request, by what it holds.
use Rattle.std.proofs.Common.{
  ◌≡◌,
  ℕ,
  zero,
  suc,
  ◌==◌,
  List,
  [],
  ◌∷◌,
  ◌++◌,
  length,
  drop,
  map,
  Bool,
  true,
  false,
  Option,
  None,
  Some,
  IsSome,
  refl,
  sym,
  ap,
  ◌∙◌,
  subst,
}
use Rattle.std.proofs.lemmas.Bool.{eq-eqb, eqb-true}
use Rattle.std.proofs.lemmas.List.{map-append}
use Rattle.msb_laws.specs.Asking.{and_then}
use Rattle.target_order.specs.Left.{left}
use Rattle.target_order.specs.Progress.{Progress}
use Rattle.build_world.specs.Instances.{UsedTarget, seen_instance}
use Rattle.build_world.specs.declared.world.World.{World as Given}
use Rattle.result_cache.specs.Journal.{Journal}
use Rattle.result_cache.specs.Replay.{replay, replay_all}
use Rattle.result_cache.specs.Table.{Records, found}
use Rattle.result_cache.specs.declared.record.Record.{Record}
use Rattle.result_cache.specs.declared.request.RequestKey.{RequestKey}
use Rattle.result_cache.specs.declared.request.RequestResult.{RequestResult}
use Rattle.result_cache.specs.declared.run.RunId.{RunId}
use Rattle.task_trait.specs.declared.tools.ToolAnswer.{ToolAnswer}
use Rattle.task_trait.specs.declared.tools.ToolInput.{ToolInput}
use Rattle.build_meaning.specs.SoFar.{SoFar, nothing_yet, result_of, runs_of, with_calls}
use Rattle.build_meaning.specs.State.{Place, walking, within}
use Rattle.build_meaning.specs.Step.{only_if}
use Rattle.build_meaning.specs.Stop.{Stop, ends, asks, Stopped, run_on}
use Rattle.build_meaning.specs.Walk.{Body as Tree, Reply, Walk, gives, wants}
use Rattle.build_meaning.specs.World.{World}
use Rattle.build_scheduler.specs.Position.{
  Position,
  after_run,
  answered,
  answered_at,
  ask_at,
  ask_of,
  stopped_in,
  tools_in,
  used_between,
}
use Rattle.build_scheduler.specs.declared.walker.Answer.TheVariants.{First, Go, Use, Results}
use Rattle.build_scheduler.specs.declared.walker.Ask.{Ask}
use Rattle.build_scheduler.specs.declared.walker.Ask.TheVariants.{Done, Want}
use Rattle.target_body.specs.Standings.{
  Standing as BodyStanding,
  begins,
  waits,
  over,
  standing_in,
  tool_use,
}
use Rattle.target_body.specs.States.{target_named}
use Rattle.target_body.specs.declared.body.Body.{Body}
use Rattle.request_machine.specs.Answered.{
  Advances,
  HasMade,
  HasRecord,
  IsRecord,
  WaitsFor,
  WantsRun,
}
use Rattle.request_machine.specs.Asks.{AsksAt, asked_by}
use Rattle.request_machine.specs.Stages.{
  StandsAt,
  StandsBy,
  has_begun,
  instance_in,
  is_between_runs,
  is_wanted,
  left_by,
}
use Rattle.request_machine.specs.OrderSteps.{Follows}
use Rattle.request_machine.specs.RunStops.{Resumes, IsWaiting, Stops, ask_in}
use Rattle.request_machine.specs.Positions.{
  Halt,
  halt_at,
  halt_by,
  halt_of,
  in_body,
  place_at,
  place_of,
  position_of,
  uses_in,
}
use Rattle.request_machine.specs.Requests.{Project}
use Rattle.request_machine.specs.Walk.{RequestScope, Site, after_target, run_of, walk}
use Rattle.request_machine.specs.Worlds.{bodies_of, body_if, project_of, walk_of, world_of}
use Rattle.request_machine.specs.declared.after_run.OrderStep.{OrderStep}
use Rattle.request_machine.specs.declared.run.RunStop.{RunStop}
use Rattle.request_machine.specs.declared.stage.Stage.{Stage}
use Rattle.request_machine.specs.declared.stage.Stage.TheVariants.{NotBegun, Visits, Over}
use Rattle.request_machine.specs.declared.order.NextStop.{NextStop}
use Rattle.request_machine.specs.declared.order.NextStop.TheVariants.{Wants, Over as IsOver}
use Rattle.request_machine.specs.declared.stage.RunState.{RunState}
use Rattle.request_machine.specs.declared.stage.RunState.TheVariants.{Wanted, Called, Made}
use Rattle.request_machine.specs.declared.stage.Visit.{Visit}
use Rattle.request_machine.proofs.Stopping.{drop_front}

abbrev P : Type 0
P = Place Site ToolInput ToolAnswer

drop_none : {X : Type 0} (n : ℕ) (xs : List X) → xs ≡ [] → drop n xs ≡ []
drop_none zero xs none = none
drop_none (suc n) xs none = ap (drop (suc n)) none

-- what is asked where a body has stopped
ask_there : (runs : List RunId) (run : RunId) (s : SoFar ToolInput)
    (go : Record → Journal → Walk Site ToolInput ToolAnswer) (stop : Stop ToolInput ToolAnswer) →
    ask_in run s stop ≡ ask_at runs (within (record { run = run; so_far = s; go = go }) stop)
ask_there runs run s go (ends outcome) = refl
ask_there runs run s go (asks key keys next) = refl

-- what is asked where a request stands next
ask_left : (p : Project) (key : RequestKey) (w : Given) (s : RequestScope) (journal : Journal)
    (runs : List RunId) (next_stop : NextStop) (order : Progress)
    → asked_by p.key runs next_stop ≡ ask_at runs
    (walking (left_by p key (bodies_of w p) s order journal next_stop))
ask_left p key w s journal runs (Wants name) order = refl
ask_left p key w s journal runs (IsOver reply) order = refl

module _ {T : Type 0} (answer : List ℕ → ToolInput → ToolAnswer)
    (calls : T → List (List ℕ × ToolInput)) (w : Given) (key : RequestKey) (v : Visit T)
    (own : v.run.instance ≡ key.instance) (table : Records) where
  abbrev W : World Site ToolInput ToolAnswer
  W = world_of answer w

  abbrev p : Project
  p = project_of w key (seen_instance v.instance)

  abbrev its_target : Option UsedTarget
  its_target = target_named (seen_instance v.instance).targets v.run.target

  abbrev after : Record → Journal → Walk Site ToolInput ToolAnswer
  after = after_target p (λ answer. walk p key (bodies_of w p) (left v.order answer)) v.state
      v.run.target

  abbrev inside : SoFar ToolInput → Stop ToolInput ToolAnswer → P
  inside s stop = within (record { run = v.run; so_far = s; go = after }) stop

  its_run : v.run ≡ run_of key.instance v.run.target
  its_run = ap (λ i. record { instance = i; target = v.run.target }) own

  -- a request whose body has stopped
  place_inside : (journal : Journal) (at : RunState T) (halt : Halt)
      → halt_at calls w v.run its_target at ≡ Some halt
      → place_at calls w key v journal at ≡ inside halt.0 halt.1
  place_inside journal Wanted halt is = absurd (cc)
  place_inside journal (Called body noted) halt is = ap (in_body calls w key v) is
  place_inside journal (Made made noted) halt is = ap (in_body calls w key v) is

  -- it goes on until the body stops again
  module _ (journal next : Journal) (runs : List RunId) (n : Visit T) (old new : T)
      (run_stop : RunStop T)
      (same : place_at calls w key n next n.at ≡ place_at calls w key v next run_stop.at) where
    stopped_place : (s : SoFar ToolInput) (stop : Stop ToolInput ToolAnswer)
        → halt_at calls w v.run its_target run_stop.at ≡ Some (s, stop)
        → place_at calls w key n next n.at ≡ inside s stop
    stopped_place s stop is = same ∙ place_inside next run_stop.at (s, stop) is

    stopped_position : (x : Stopped ToolInput ToolAnswer)
        → halt_at calls w v.run its_target run_stop.at ≡ Some (x.so_far, x.stop) → next ≡ x.journal
        → stopped_in runs v.run after x ≡ position_of calls w key next runs (Visits n)
    stopped_position x is j = ap
        (λ k. record { journal = k; runs = runs; place = inside x.so_far x.stop }) (sym j)
        ∙ ap (λ place. record { journal = next; runs = runs; place = place })
        (sym (stopped_place x.so_far x.stop is))

    stopped_ask : (x : Stopped ToolInput ToolAnswer)
        → halt_at calls w v.run its_target run_stop.at ≡ Some (x.so_far, x.stop)
        → run_stop.ask ≡ ask_in v.run x.so_far x.stop
        → run_stop.ask ≡ ask_of (position_of calls w key next runs (Visits n))
    stopped_ask x is asks_so = asks_so
        ∙ (ask_there runs v.run x.so_far after x.stop
        ∙ ap (ask_at runs) (sym (stopped_place x.so_far x.stop is)))

    -- it has made the run that it wanted
    pub made_goes : v.at ≡ Wanted
        → Stops answer calls w v.run its_target
        (body_if w v.run its_target v.state.scope journal) nothing_yet journal next old new run_stop
        →
        Advances W table (position_of calls w key journal runs (Visits v))
        (position_of calls w key next runs (Visits n)) Go run_stop.ask
    made_goes wanted steps = record {
      goes_on =
          ap (λ at. answered_at W table journal runs (place_at calls w key v journal at) Go) wanted
          ∙ (ap
          (λ r.
          Some
          (stopped_in runs r after
          (run_on answer r (body_if w r its_target v.state.scope journal) journal
          nothing_yet))) (sym its_run)
          ∙ (ap (λ x. Some (stopped_in runs v.run after x)) steps.is
          ∙ ap Some (stopped_position steps.stopped steps.halted steps.journal)));
      asks = stopped_ask steps.stopped steps.halted steps.asks_so;
    }

    pub made_used : v.at ≡ Wanted
        → Stops answer calls w v.run its_target
        (body_if w v.run its_target v.state.scope journal) nothing_yet journal next old new run_stop
        →
        map tool_use (calls new) ≡ map tool_use (calls old)
        ++ used_between (place_of calls w key journal (Visits v))
        (place_of calls w key next (Visits n))
    made_used wanted steps =
        ap (map tool_use) steps.called ∙ (map-append tool_use (calls old) steps.uses
        ∙ ap (λ us. map tool_use (calls old) ++ us)
        (sym
        (ap
        (λ at. used_between (place_at calls w key v journal at)
        (place_at calls w key n next n.at)) wanted
        ∙ (ap tools_in (stopped_place steps.stopped.so_far steps.stopped.stop steps.halted)
        ∙ steps.tools))))

    -- it has taken the results of calls
    module _ (mid : Journal) (results : List RequestResult)
        (replayed : replay_all table (runs_of results) journal ≡ Some mid) where
      module _ (s : SoFar ToolInput) (k : RequestKey) (ks : List RequestKey)
          (go : List RequestResult → Journal → Tree ToolInput ToolAnswer)
          (is : halt_at calls w v.run its_target v.at ≡ Some (s, asks k ks go))
          (as_many : length results ≡ length (k ∷ ks))
          (steps : Stops answer calls w v.run its_target (go results mid)
          (with_calls s (k ∷ ks) results) mid next old new run_stop) where
        results_position : answered W table (position_of calls w key journal runs (Visits v))
            (Results results) ≡ Some (position_of calls w key next runs (Visits n))
        results_position =
            ap (λ place. answered_at W table journal runs place (Results results))
            (place_inside journal v.at (s, asks k ks go) is)
            ∙ (ap
            (λ b. and_then (only_if b results)
            (λ rs. and_then (replay_all table (runs_of rs) journal)
            (λ j.
            Some
            (stopped_in runs v.run after
            (run_on answer v.run (go rs j) j (with_calls s (k ∷ ks) rs))))))
            (eq-eqb (length results) (length (k ∷ ks)) as_many)
            ∙ (ap
            (λ o.
            and_then o
            (λ j.
            Some
            (stopped_in runs v.run after
            (run_on answer v.run (go results j) j (with_calls s (k ∷ ks) results))))) replayed
            ∙ (ap (λ x. Some (stopped_in runs v.run after x)) steps.is
            ∙ ap Some (stopped_position steps.stopped steps.halted steps.journal))))

        results_uses : map tool_use (calls new)
            ≡ map tool_use (calls old) ++ used_between (place_of calls w key journal (Visits v))
            (place_of calls w key next (Visits n))
        results_uses =
            ap (map tool_use) steps.called ∙ (map-append tool_use (calls old) steps.uses
            ∙ ap (λ us. map tool_use (calls old) ++ us)
            (sym
            (ap (λ place. used_between place (place_at calls w key n next n.at))
            (place_inside journal v.at (s, asks k ks go) is)
            ∙ (ap (λ place. drop (length s.tools) (tools_in place))
            (stopped_place steps.stopped.so_far steps.stopped.stop steps.halted)
            ∙ (ap (drop (length s.tools)) steps.tools
            ∙ drop_front s.tools (map tool_use steps.uses))))))

      pub results_go : (halt : Option Halt) → halt_at calls w v.run its_target v.at ≡ halt
          → IsWaiting halt results
          → Resumes answer calls w v.run its_target halt results mid next old new run_stop →
          Advances W table (position_of calls w key journal runs (Visits v))
          (position_of calls w key next runs (Visits n)) (Results results) run_stop.ask
      results_go None is waiting goes = absurd waiting
      results_go (Some (s, ends outcome)) is waiting goes = absurd waiting
      results_go (Some (s, asks k ks go)) is waiting goes = record {
        goes_on = results_position s k ks go is waiting goes;
        asks = stopped_ask goes.stopped
            goes.halted goes.asks_so;
      }

      pub results_used : (halt : Option Halt) → halt_at calls w v.run its_target v.at ≡ halt
          → IsWaiting halt results
          → Resumes answer calls w v.run its_target halt results mid next old new run_stop →
          map tool_use (calls new) ≡ map tool_use (calls old)
          ++ used_between (place_of calls w key journal (Visits v))
          (place_of calls w key next (Visits n))
      results_used None is waiting goes = absurd waiting
      results_used (Some (s, ends outcome)) is waiting goes = absurd waiting
      results_used (Some (s, asks k ks go)) is waiting goes = results_uses s k ks go is waiting goes

  -- it has used the record of its run
  module _ (journal next : Journal) (runs : List RunId) (made : Record) (f : OrderStep)
      (stage : Stage T) (follows : Follows p key v.state next v.order v.run.target made f)
      (stands : StandsBy key (seen_instance v.instance) f.state f.order f.next_stop stage) where
    abbrev all_runs : List RunId
    all_runs = runs ++ v.run ∷ []

    next_place : walking (after made next) ≡ place_of calls w key next stage
    next_place = ap walking (follows.goes (bodies_of w p)) ∙ sym ((stands w next).stands calls)

    next_position : Some (after_run runs v.run after made next)
        ≡ Some (position_of calls w key next all_runs stage)
    next_position = ap (λ place. Some (record { journal = next; runs = all_runs; place = place }))
        next_place

    record_position : (at : RunState T) → HasRecord table v.run journal at
        → IsRecord table v.run journal next at made
        → answered_at W table journal runs (place_at calls w key v journal at) Use
        ≡ Some (position_of calls w key next all_runs stage)
    record_position Wanted has is =
        ap
        (λ r.
        and_then (found table r)
        (λ m. and_then (replay table r journal) (λ j. Some (after_run runs r after m j))))
        (sym its_run)
        ∙ (ap
        (λ o.
        and_then o
        (λ m. and_then (replay table v.run journal)
        (λ j. Some (after_run runs v.run after m j)))) is.0
        ∙ (ap (λ o. and_then o (λ j. Some (after_run runs v.run after made j))) is.1
        ∙ next_position))
    record_position (Called body noted) has is = absurd has
    record_position (Made m noted) has is =
        ap (λ j. Some (after_run runs v.run after m j)) (sym is.1)
        ∙ (ap (λ x. Some (after_run runs v.run after x next)) (sym is.0) ∙ next_position)

    pub record_goes : (ask : Ask) → HasRecord table v.run journal v.at
        → IsRecord table v.run journal next v.at made → ask ≡ asked_by key.instance all_runs
        f.next_stop
        →
        Advances W table (position_of calls w key journal runs (Visits v))
        (position_of calls w key next all_runs stage) Use ask
    record_goes ask has is asks_so = record {
      goes_on = record_position v.at has is;
      asks = asks_so
          ∙ (ask_left p key w f.state next all_runs f.next_stop f.order
          ∙ ap (ask_at all_runs) (sym ((stands w next).stands calls)));
    }

    pub record_used : used_between (place_of calls w key journal (Visits v))
        (place_of calls w key next stage) ≡ []
    record_used = left_used f.next_stop ((stands w next).stands calls)
      where
        left_used : (next_stop : NextStop) → place_of calls w key next stage
            ≡ walking (left_by p key (bodies_of w p) f.state f.order next next_stop)
            → used_between (place_of calls w key journal (Visits v))
            (place_of calls w key next stage) ≡ []
        left_used next_stop is = drop_none (length
            (tools_in (place_of calls w key journal (Visits v))))
            (tools_in (place_of calls w key next stage)) (ap tools_in is)

-- ---- what a request holds where an answer takes it on

module _ {T : Type 0} (answer : List ℕ → ToolInput → ToolAnswer)
    (calls : T → List (List ℕ × ToolInput)) (w : Given) (key : RequestKey) (table : Records)
    (journal : Journal) (runs : List RunId) where
  abbrev V : World Site ToolInput ToolAnswer
  V = world_of answer w

  abbrev halt_in : Visit T → RunState T → Option Halt
  halt_in v at = halt_at calls w v.run
      (target_named (seen_instance v.instance).targets v.run.target) at

  -- a request that makes a run has wanted it
  no_go : (v : Visit T) (o : Option Halt)
      → IsSome (answered_at V table journal runs (in_body calls w key v o) Go) → ⊥
  no_go v None is = cc
  no_go v (Some (s, ends outcome)) is = cc
  no_go v (Some (s, asks k ks go)) is = cc

  go_wanted : (v : Visit T) (at : RunState T)
      → IsSome (answered_at V table journal runs (place_at calls w key v journal at) Go)
      → is_wanted at ≡ true
  go_wanted v Wanted is = refl
  go_wanted v (Called body noted) is = absurd (no_go v (halt_in v (Called body noted)) is)
  go_wanted v (Made made noted) is = absurd (no_go v (halt_in v (Made made noted)) is)

  pub go_fits : (stage : Stage T) → has_begun stage ≡ true
      → IsSome (answered V table (position_of calls w key journal runs stage) Go) → WantsRun stage
  go_fits NotBegun begun is = cc
  go_fits (Visits v) begun is = go_wanted v v.at is
  go_fits (Over reply) begun is = cc

  -- a request that takes results has waited for them, and they can be replayed
  some_first : (o : Option Journal) (f : Journal → Option (Position Site ToolInput ToolAnswer)) →
      IsSome (and_then o f) → IsSome o
  some_first None f is = is
  some_first (Some j) f is = refl

  module _ (results : List RequestResult) where
    counted : (b : Bool) (f : List RequestResult → Option (Position Site ToolInput ToolAnswer)) →
        IsSome (and_then (only_if b results) f) → (b ≡ true) × IsSome (f results)
    counted true f is = (refl, is)
    counted false f is = cc

    results_fit : (v : Visit T) (o : Option Halt)
        → IsSome (answered_at V table journal runs (in_body calls w key v o) (Results results))
        → IsWaiting o results × IsSome (replay_all table (runs_of results) journal)
    results_fit v None is = cc
    results_fit v (Some (s, ends outcome)) is = cc
    results_fit v (Some (s, asks k ks go)) is =
        let both = counted (length results == length (k ∷ ks)) _ is
        in (
          eqb-true (length results) (length (k ∷ ks)) both.0,
          some_first
              (replay_all table (runs_of results) journal) _ both.1,
        )

    results_at : (v : Visit T) (at : RunState T)
        → IsSome
        (answered_at V table journal runs (place_at calls w key v journal at) (Results results)) →
        IsWaiting
        (halt_at calls w v.run (target_named (seen_instance v.instance).targets v.run.target)
        at) results × IsSome (replay_all table (runs_of results) journal)
    results_at v Wanted is = cc
    results_at v (Called body noted) is = results_fit v (halt_in v (Called body noted)) is
    results_at v (Made made noted) is = results_fit v (halt_in v (Made made noted)) is

    no_results : (walk : Walk Site ToolInput ToolAnswer) →
        IsSome (answered_at V table journal runs (walking walk) (Results results)) → ⊥
    no_results (gives reply) is = cc
    no_results (wants site run b go) is = cc

    pub results_wait : (stage : Stage T)
        → IsSome (answered V table (position_of calls w key journal runs stage) (Results results))
        → WaitsFor calls w results stage × IsSome (replay_all table (runs_of results) journal)
    results_wait NotBegun is = absurd (no_results (walk_of w key journal) is)
    results_wait (Visits v) is = results_at v v.at is
    results_wait (Over reply) is = cc

  -- a request that uses a record has it
  found_first : (o : Option Record) (p : Option Journal)
      (f : Record → Journal → Option (Position Site ToolInput ToolAnswer)) →
      IsSome (and_then o (λ m. and_then p (f m))) → IsSome o × IsSome p
  found_first None p f is = cc
  found_first (Some m) None f is = cc
  found_first (Some m) (Some j) f is = (refl, refl)

  use_stood : (v : Visit T) (uses : List (List ℕ × ToolInput)) (st : BodyStanding)
      → IsSome (answered_at V table journal runs (in_body calls w key v (halt_by uses st)) Use) → ⊥
  use_stood v uses (begins scope) is = cc
  use_stood v uses (waits segments k ks go) is = cc
  use_stood v uses over is = cc

  use_called : (v : Visit T) (body : Body) (uses : List (List ℕ × ToolInput))
      (target : Option UsedTarget)
      → IsSome
      (answered_at V table journal runs (in_body calls w key v (halt_of w v.run body uses target))
      Use) → ⊥
  use_called v body uses None is = cc
  use_called v body uses (Some t) is = use_stood v uses (standing_in w v.run t body) is

  use_at : (v : Visit T) (at : RunState T) → v.run.instance ≡ key.instance
      → IsSome (answered_at V table journal runs (place_at calls w key v journal at) Use)
      → HasRecord table v.run journal at
  use_at v Wanted own is =
      subst (λ i. IsSome (found table (record { instance = i; target = v.run.target }))
      × IsSome (replay table (record { instance = i; target = v.run.target }) journal))
      (sym own)
      (found_first (found table (run_of key.instance v.run.target))
      (replay table (run_of key.instance v.run.target) journal) _ is)
  use_at v (Called body noted) own is = use_called v body (uses_in calls noted)
      (target_named (seen_instance v.instance).targets v.run.target) is
  use_at v (Made made noted) own is = tt

  pub use_fits : (stage : Stage T) → has_begun stage ≡ true
      → instance_in key.instance stage ≡ key.instance
      → IsSome (answered V table (position_of calls w key journal runs stage) Use)
      → HasMade table journal stage
  use_fits NotBegun begun own is = cc
  use_fits (Visits v) begun own is = use_at v v.at own is
  use_fits (Over reply) begun own is = cc

  -- ---- the first answer

  first_stays : (place : P) → answered_at V table journal runs place First
      ≡ Some (record { journal = journal; runs = runs; place = place })
  first_stays (walking (gives reply)) = refl
  first_stays (walking (wants site run b go)) = refl
  first_stays (within x (ends outcome)) = refl
  first_stays (within x (asks k ks go)) = refl

  not_begun : (stage : Stage T) → has_begun stage ≡ false
      → place_of calls w key journal stage ≡ walking (walk_of w key journal)
  not_begun NotBegun begun = refl
  not_begun (Visits v) begun = cc
  not_begun (Over reply) begun = cc

  module _ (old new : Stage T) (unbegun : has_begun old ≡ false)
      (stands : StandsAt w key journal (walk_of w key journal) new) where
    begun_place : place_of calls w key journal old ≡ place_of calls w key journal new
    begun_place = not_begun old unbegun ∙ sym (stands.stands calls)

    pub first_goes : (ask : Ask) → AsksAt runs new ask
        → Advances V table (position_of calls w key journal runs old)
        (position_of calls w key journal runs new) First ask
    first_goes ask told = record {
      goes_on = first_stays (place_of calls w key journal old)
          ∙ ap (λ place. Some (record { journal = journal; runs = runs; place = place }))
          begun_place;
      asks = told calls w key journal stands.own;
    }

    pub first_used : used_between (place_of calls w key journal old)
        (place_of calls w key journal new) ≡ []
    first_used = ap (λ place. used_between place (place_of calls w key journal new))
        (not_begun old unbegun) ∙ ap tools_in (stands.stands calls)

-- what stands between its runs has begun
pub between_begun : {T : Type 0} (stage : Stage T) → is_between_runs stage ≡ true
    → has_begun stage ≡ true
between_begun NotBegun between = cc
between_begun (Visits v) between = refl
between_begun (Over reply) between = refl

-- what a request asks that stands between its runs
wanted_asks : {T : Type 0} (runs : List RunId) (v : Visit T) (calls : T → List (List ℕ × ToolInput))
    (w : Given) (key : RequestKey) (journal : Journal) (at : RunState T) → is_wanted at ≡ true
    → v.run.instance ≡ key.instance →
    Want v.run ≡ ask_at runs (place_at calls w key v journal at)
wanted_asks runs v calls w key journal Wanted is own = ap
    (λ i. Want (record { instance = i; target = v.run.target })) own
wanted_asks runs v calls w key journal (Called body noted) is own = cc
wanted_asks runs v calls w key journal (Made made noted) is own = cc

pub asks_wanted : {T : Type 0} (runs : List RunId) (v : Visit T) → is_wanted v.at ≡ true
    → AsksAt runs (Visits v) (Want v.run)
asks_wanted runs v is = λ calls w key journal own.
    wanted_asks runs v calls w key journal v.at is own

pub asks_over : {T : Type 0} (runs : List RunId) (reply : Reply) (stage : Stage T)
    → stage ≡ Over reply → AsksAt runs stage (Done (result_of reply runs))
asks_over runs reply stage is = λ calls w key journal own.
    sym (ap (λ s. ask_at runs (place_of calls w key journal s)) is)

pub wanted_is : {T : Type 0} (at : RunState T) → is_wanted at ≡ true → at ≡ Wanted
wanted_is Wanted is = refl
wanted_is (Called body noted) is = cc
wanted_is (Made made noted) is = cc
