-- In every legal history the journal of a request is its first one with its runs replayed by the
-- table.
use Rattle.std.proofs.Common.{
  ◌≡◌,
  ℕ,
  zero,
  suc,
  List,
  [],
  ◌∷◌,
  ◌++◌,
  map,
  None,
  Some,
  refl,
  ap,
  sym,
  ◌∙◌,
  subst,
  append-nil,
  append_assoc,
}
use Rattle.result_cache.specs.declared.run.RunId.{RunId}
use Rattle.result_cache.specs.declared.request.RequestResult.{RequestResult}
use Rattle.build_meaning.specs.declared.event.Event.{Event}
use Rattle.result_cache.specs.Lists.{In}
use Rattle.build_meaning.specs.Lists.{at}
use Rattle.result_cache.specs.Journal.{Journal}
use Rattle.result_cache.specs.Replay.{replays_run, replay_all}
use Rattle.build_meaning.specs.World.{World}
use Rattle.build_meaning.specs.Meaning.{Given}
use Rattle.build_meaning.specs.Demand.{IsWhole, IsSteady}
use Rattle.build_meaning.specs.State.{
  walking,
  within,
  Status,
  ready,
  assigned,
  waits,
  calling,
  done,
  Origin,
  RequestState,
  State,
  new_request,
  start,
}
use Rattle.build_meaning.specs.Step.{whose, step_of, step, after_all}
use Rattle.build_meaning.specs.History.{IsHistory, EndsWith}
use Rattle.result_cache.proofs.RunTests.{and_then-some}
use Rattle.result_cache.proofs.JournalEntries.{HasAll-in}
use Rattle.result_cache.proofs.ReplayRelation.{none, reps-one, Recorded}
use Rattle.build_meaning.proofs.LawfulStates.{one_record, IsFinished, replay_all-reps, Lawful}
use Rattle.build_meaning.proofs.EventsKeepLawful.{
  some-is,
  ended-finished,
  step-lawful,
  start-lawful,
  all-lawful,
}
use Rattle.build_meaning.proofs.ReplayCircles.{in-map}
use Rattle.build_meaning.proofs.HistoriesGoOn.{replay_all-total}
use Rattle.build_meaning.proofs.ConsistentTables.{after-more}
use Rattle.build_meaning.proofs.MeaningAgreed.{agrees}
use Rattle.build_history.specs.Began.{IsInNoBody, BeganWith}
use Rattle.build_history.proofs.RunsReplayed.{
  Ran,
  StatusRan,
  RanFrom,
  EachRan,
  SaysNew,
  step_of-ran,
}

module _ {P I A : Type 0} (w : World P I A) where
  -- how a request began, and that the root began with nothing
  abbrev pub Begun : List Event → ℕ → Origin → Journal → Type 0
  Begun events id origin base = BeganWith w events id origin base × (id ≡ 0 → base ≡ [])

  abbrev pub AllBegun : List Event → State P I A → Type 0
  AllBegun events s = EachRan (Begun events) s.table s.requests

  began-more : (events : List Event) (event : Event) (id : ℕ) (origin : Origin) (base : Journal)
      → Begun events id origin base → Begun (events ++ event ∷ []) id origin base
  began-more events event id origin base (x, root) = (
    record {
      before = x.before;
      later = x.later ++ event ∷ [];
      state = x.state;
      events_so = sym (append_assoc x.before x.later (event ∷ []))
          ∙ ap (λ es. es ++ event ∷ []) x.events_so;
      history = x.history;
      there = x.there;
      given = x.given;
    },
    root,
  )

  all-more : (events : List Event) (event : Event) (s : State P I A) → AllBegun events s →
      EachRan (Begun (events ++ event ∷ [])) s.table s.requests
  all-more events event s v id q e =
      let x = v id q e in record
      { base = x.base; began = began-more events event id q.origin x.base x.began; ran = x.ran }

  says-new : (events : List Event) (t : State P I A) → IsHistory w events t →
      SaysNew w (Begun events) t
  says-new events t h id origin base n there given = (
    record {
      before = events;
      later = [];
      state = t;
      events_so = append-nil events;
      history = h;
      there = there;
      given = given;
    },
    λ e. absurd (n e),
  )

  start-begun : AllBegun [] (start w)
  start-begun zero q h =
      let z : RequestState P I A = new_request w None [] [] w.root in
      let here : RanFrom (Begun []) [] 0 z = record {
        base = [];
        began = (
          record {
            before = [];
            later = [];
            state = start w;
            events_so = refl;
            history = refl;
            there =
                refl;
            given = refl;
          },
          λ e. refl,
        );
        ran = none;
      } in
      subst (λ (u : RequestState P I A). RanFrom (Begun []) [] 0 u) (some-is z q h) here
  start-begun (suc id) q h = absurd (cc)

  all-begun : (past events : List Event) (s t : State P I A) → IsHistory w past s → Lawful s →
      AllBegun past s → after_all w s events ≡ Some t → AllBegun (past ++ events) t
  all-begun past [] s t hist l v h =
      subst (λ es. AllBegun es t) (sym (append-nil past))
      (subst (λ (u : State P I A). AllBegun past u) (some-is s t h) v)
  all-begun past (event ∷ events) s t hist l v h =
      let y = and_then-some (step w s event) (λ next. after_all w next events) t h in
      let z = and_then-some (at s.requests (whose event)) (step_of w s event) y.0 y.1 in
      let now : List Event = past ++ event ∷ [] in
      let hist2 : IsHistory w now y.0 = after-more w past event (start w) s y.0 hist y.1 in
      let n = step_of-ran w (Begun now) s event z.0 y.0 l (all-more past event s v)
      (says-new now y.0 hist2) z.1 z.2 in
      subst (λ es. AllBegun es t) (append_assoc past (event ∷ []) events)
      (all-begun now events y.0 t hist2 (step-lawful w s event y.0 l y.1) n y.2)

  pub history-begun : (events : List Event) (s : State P I A) → IsHistory w events s →
      AllBegun events s
  history-begun events s h = all-begun [] events (start w) s refl (start-lawful w) start-begun h

  -- the function by the table, where the relation holds
  pub ran-replayed : (s : State P I A) (l : Lawful s) (id : ℕ) (q : RequestState P I A) →
      at s.requests id ≡ Some q → (base : Journal) → Ran s.table base q.runs q.journal →
      replay_all s.table q.runs base ≡ Some q.journal
  ran-replayed s l id q e base d =
      let g = (l.each id q e).journal in
      let all : (r : RunId) → In r q.runs → IsFinished s.table r = λ r i.
      ended-finished s.table q.journal q.runs g r
      (HasAll-in (map replays_run q.runs) q.journal (replays_run r) g.runs_in
      (in-map replays_run r q.runs i)) in
      let y = replay_all-total s.table l.ordered q.runs base all in
      y.1
      ∙ ap Some
      (reps-one (Recorded s.table) (one_record s.table)
      (replay_all-reps s.table l.once q.runs base y.0 y.1) q.journal d)

  pub place-ran : (s : State P I A) (base : Journal) (runs : List RunId) (j : Journal)
      (st : Status P I A) → IsInNoBody st → StatusRan s.table base runs j st →
      Ran s.table base runs j
  place-ran s base runs j (ready (walking walk)) i v = v
  place-ran s base runs j (ready (within x stop)) i v = absurd i
  place-ran s base runs j (assigned node (walking walk)) i v = v
  place-ran s base runs j (assigned node (within x stop)) i v = absurd i
  place-ran s base runs j (waits r b go) i v = v
  place-ran s base runs j (calling keys ids x go) i v = absurd i
  place-ran s base runs j (done result) i v = v.1

pub requests_are_replayed : {P I A : Type 0} (w : World P I A) (events : List Event)
    (s : State P I A) → IsHistory w events s → (id : ℕ) (q : RequestState P I A) →
    at s.requests id ≡ Some q →
    (base : Journal) × BeganWith w events id q.origin base
    × (IsInNoBody q.status → replay_all s.table q.runs base ≡ Some q.journal)
requests_are_replayed w events s h id q e =
    let x = history-begun w events s h id q e in
    let l = all-lawful w events (start w) s (start-lawful w) h in (
      x.base,
      x.began.0,
      λ i. ran-replayed w s l id q e x.base
          (place-ran w s x.base q.runs q.journal q.status i x.ran),
    )

pub results_have_the_runs : {P I A : Type 0} (w : World P I A) (events : List Event)
    (s : State P I A) → IsHistory w events s → (id : ℕ) (q : RequestState P I A) →
    at s.requests id ≡ Some q →
    (result : RequestResult) → q.status ≡ done result → result.runs ≡ q.runs
results_have_the_runs {P} {I} {A} w events s h id q e result d =
    let x = history-begun w events s h id q e in
    let y : (result.runs ≡ q.runs) × Ran s.table x.base q.runs q.journal =
    subst (λ (u : Status P I A). StatusRan s.table x.base q.runs q.journal u) d x.ran in
    y.0

pub root_is_replayed : {P I A : Type 0} (w : World P I A) (events : List Event) (s : State P I A) →
    IsHistory w events s → (result : RequestResult) (journal : Journal) →
    EndsWith s result journal →
    replay_all s.table result.runs [] ≡ Some journal
root_is_replayed {P} {I} {A} w events s h result journal end =
    let q = end.root in
    let x = history-begun w events s h 0 q end.there in
    let l = all-lawful w events (start w) s (start-lawful w) h in
    let y : (result.runs ≡ q.runs) × Ran s.table x.base q.runs q.journal =
    subst (λ (u : Status P I A). StatusRan s.table x.base q.runs q.journal u) end.over x.ran in
    let none_yet : x.base ≡ [] = x.began.1 refl in
    let d : Ran s.table [] q.runs q.journal = subst
    (λ (b : Journal). Ran s.table b q.runs q.journal) none_yet y.1 in
    ap (λ (rs : List RunId). replay_all s.table rs []) y.0
    ∙ (ran-replayed w s l 0 q end.there [] d ∙ ap Some end.knows)

pub closed_history_tells : {P I A : Type 0} (w : World P I A) (out : Given P I RequestResult) →
    IsWhole w out → IsSteady out.demand → (events : List Event) (s : State P I A) →
    IsHistory w events s →
    (result : RequestResult) (journal : Journal) → EndsWith s result journal
    → (result ≡ out.value) × (journal ≡ out.journal)
    × (replay_all s.table result.runs [] ≡ Some out.journal)
closed_history_tells w out whole steady events s h result journal end =
    let x = (agrees w out whole steady events s h).root result journal end in
    (x.0, x.1, root_is_replayed w events s h result journal end ∙ ap Some x.1)
