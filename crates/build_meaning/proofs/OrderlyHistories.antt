-- Every legal history is orderly.
use Rattle.std.proofs.Common.{
  ◌≡◌,
  ℕ,
  Bool,
  true,
  false,
  ◌&&◌,
  ◌==◌,
  inl,
  inr,
  List,
  [],
  ◌∷◌,
  map,
  Option,
  None,
  Some,
  refl,
  ap,
  sym,
  ◌∙◌,
  subst,
}
use Rattle.msb_laws.specs.Asking.{and_then}
use Rattle.msb_laws.specs.Traverse.{traverse}
use Rattle.result_cache.specs.declared.run.RunId.{RunId}
use Rattle.result_cache.specs.declared.request.RequestKey.{RequestKey}
use Rattle.result_cache.specs.declared.request.RequestResult.{RequestResult}
use Rattle.result_cache.specs.declared.record.Record.{Record}
use Rattle.result_cache.specs.Same.{same_run, same_keys, is_in}
use Rattle.build_meaning.specs.declared.event.Event.{Event}
use Rattle.build_meaning.specs.declared.event.Event.TheVariants.{
  Assign,
  Claim,
  Request,
  Result,
  Done,
  Retire,
}
use Rattle.build_meaning.specs.declared.event.ClaimKind.{ClaimKind}
use Rattle.build_meaning.specs.declared.event.ClaimKind.TheVariants.{Go, Use, Wait}
use Rattle.result_cache.specs.Lists.{In, this_or}
use Rattle.build_meaning.specs.Lists.{at, put}
use Rattle.result_cache.specs.Journal.{Journal, ended, add}
use Rattle.result_cache.specs.Table.{FinishedRun, Records, found, BegunRun, is_begun}
use Rattle.result_cache.specs.Replay.{replay, replay_all}
use Rattle.build_meaning.specs.World.{World}
use Rattle.build_meaning.specs.Walk.{Walk, gives, wants, Body}
use Rattle.build_meaning.specs.SoFar.{nothing_yet, with_calls, runs_of, recorded, result_of}
use Rattle.build_meaning.specs.Stop.{ends, asks, run_on}
use Rattle.build_meaning.specs.State.{
  with_status,
  Within,
  walking,
  within,
  Status,
  ready,
  assigned,
  calling,
  done,
  RequestState,
  ToolsUsed,
  State,
  with_request,
  start,
}
use Rattle.build_meaning.specs.Cycle.{is_in_cycle}
use Rattle.build_meaning.specs.Step.{
  only_if,
  assign_at,
  in_body,
  goes_on,
  waiting,
  may_wait,
  claimed,
  claim_at,
  with_children,
  is_within_limits,
  request_at,
  woken,
  finished,
  result_at,
  results_of,
  answered,
  resume_at,
  resume_caller,
  done_at,
  retire_at,
  whose,
  step_of,
  step,
  after_all,
}
use Rattle.build_meaning.specs.History.{IsHistory}
use Rattle.build_meaning.specs.Orderly.{begun_by, finished_by, AreDistinct, IsOrderly, RecordsStay}
use Rattle.result_cache.proofs.RunTests.{clash, same_run-eq, or_cases, same_run-true, and_then-some}
use Rattle.result_cache.proofs.JournalEntries.{in-has}
use Rattle.build_meaning.proofs.LawfulStates.{IsOnce, IsFinished, Lawful}
use Rattle.build_meaning.proofs.GrowingTables.{
  Newer,
  same_table,
  one_newer,
  newer-trans,
  newer-found,
  newer-replay,
}
use Rattle.build_meaning.proofs.EventsKeepLawful.{
  only_if-some,
  unless-some,
  some-is,
  step-lawful,
  start-lawful,
  all-lawful,
}

abbrev pub begun_runs : List BegunRun → List RunId
begun_runs = map (λ (b : BegunRun). b.run)

abbrev pub finished_runs : Records → List RunId
finished_runs = map (λ (f : FinishedRun). f.run)

abbrev pub tooled_runs : {I : Type 0} → List (ToolsUsed I) → List RunId
tooled_runs {I} = map (λ (t : ToolsUsed I). t.run)

-- what an event does to the runs that are begun and to the table
pub record Changes {P I A : Type 0} (event : Event) (s t : State P I A) : Type 0 where
  pub begins : begun_runs t.begun ≡ begun_by (event ∷ []) (begun_runs s.begun)
  pub finishes : finished_runs t.table ≡ finished_by (event ∷ []) (finished_runs s.table)
  pub stays : Newer s.table t.table
  pub tools_used : tooled_runs s.tools_used ≡ finished_runs s.table
      → tooled_runs t.tools_used ≡ finished_runs t.table

module _ {P I A : Type 0} (w : World P I A) where
  -- nothing
  same_lists : (event : Event) (s t : State P I A) → begun_by (event ∷ [])
      (begun_runs s.begun) ≡ begun_runs s.begun → finished_by (event ∷ [])
      (finished_runs s.table) ≡ finished_runs s.table →
      s.begun ≡ t.begun → s.table ≡ t.table → s.tools_used ≡ t.tools_used → Changes event s t
  same_lists event s t b f p q z = record {
    tools_used = λ h. ap tooled_runs (sym z) ∙ (h ∙ ap finished_runs q);
    begins = ap begun_runs (sym p) ∙ sym b;
    finishes = ap finished_runs (sym q) ∙ sym f;
    stays = subst (λ x. Newer s.table x) q same_table;
  }

  assign-changes : (s : State P I A) (id node : ℕ) (q : RequestState P I A)
      (st : Status P I A) (t : State P I A) → assign_at w s id node q st ≡ Some t →
      Changes (Assign id node) s t
  assign-changes s id node q (ready p) t h =
      let e = some-is (with_request s id (with_status q (assigned node p))) t h in
      same_lists (Assign id node) s t refl refl (ap (λ (u : State P I A). u.begun) e)
      (ap (λ (u : State P I A). u.table) e) (ap (λ (u : State P I A). u.tools_used) e)
  assign-changes s id node q _ t h = absurd (cc)

  retire-changes : (s : State P I A) (id node : ℕ) (q : RequestState P I A)
      (st : Status P I A) (t : State P I A) → retire_at w s id node q st ≡ Some t →
      Changes (Retire id node) s t
  retire-changes s id node q (assigned by p) t h =
      let e = (only_if-some (by == node) (with_request s id (with_status q (ready p))) t h).1
      in
      same_lists (Retire id node) s t refl refl (ap (λ (u : State P I A). u.begun) e)
      (ap (λ (u : State P I A). u.table) e) (ap (λ (u : State P I A). u.tools_used) e)
  retire-changes s id node q _ t h = absurd (cc)

  claimed-changes : (s : State P I A) (id node : ℕ) (q : RequestState P I A)
      (r : RunId) (b : Body I A) (go : Record → Journal → Walk P I A) (kind : ClaimKind)
      (t : State P I A) →
      claimed w s id node q r b go kind ≡ Some t → Changes (Claim id r kind) s t
  claimed-changes s id node q r b go Go t h =
      let u : State P I A =
      record {
        requests = put s.requests id (in_body w (assigned node) q r go
            (run_on w.tools r b q.journal nothing_yet));
        begun = record { run = r; by = id } ∷ s.begun;
        table = s.table;
        tools_used = s.tools_used;
      } in
      let e = (unless-some (is_begun r s.begun) u t h).1 in
      record {
        begins = ap (λ (u : State P I A). begun_runs u.begun) (sym e);
        finishes = ap (λ (u : State P I A). finished_runs u.table) (sym e);
        stays = subst (λ (u : State P I A). Newer s.table u.table) e same_table;
        tools_used =
            λ g. subst (λ (u : State P I A). tooled_runs u.tools_used ≡ finished_runs u.table) e g;
      }
  claimed-changes s id node q r b go Use t h =
      let x = and_then-some (found s.table r)
      (λ made. and_then (replay s.table r q.journal)
      (λ next. Some (with_request s id (goes_on w (assigned node) q r go made next)))) t h
      in
      let y = and_then-some (replay s.table r q.journal)
      (λ next. Some (with_request s id (goes_on w (assigned node) q r go x.0 next))) t x.2
      in
      let e = some-is (with_request s id (goes_on w (assigned node) q r go x.0 y.0)) t y.2 in
      same_lists (Claim id r Use) s t refl refl (ap (λ (u : State P I A). u.begun) e)
      (ap (λ (u : State P I A). u.table) e) (ap (λ (u : State P I A). u.tools_used) e)
  claimed-changes s id node q r b go Wait t h =
      let next : State P I A = waiting w s id q r b go in
      let e =
      (only_if-some (may_wait w (is_begun r s.begun) (found s.table r) (is_in_cycle next r))
      next t h).1 in
      same_lists (Claim id r Wait) s t refl refl (ap (λ (u : State P I A). u.begun) e)
      (ap (λ (u : State P I A). u.table) e) (ap (λ (u : State P I A). u.tools_used) e)

  claim-changes : (s : State P I A) (id : ℕ) (run : RunId) (kind : ClaimKind)
      (q : RequestState P I A) (st : Status P I A) (t : State P I A) →
      claim_at w s id run kind q st ≡ Some t → Changes (Claim id run kind) s t
  claim-changes s id run kind q (assigned node (walking (wants site r b go))) t h =
      let x = and_then-some (only_if (same_run r run) r)
      (λ run. claimed w s id node q run b go kind) t h in
      let y = only_if-some (same_run r run) r x.0 x.1 in
      subst (λ n. Changes (Claim id n kind) s t) (same_run-true r run y.0)
      (claimed-changes s id node q r b go kind t
      (subst (λ n. claimed w s id node q n b go kind ≡ Some t) (sym y.1) x.2))
  claim-changes s id run kind q _ t h = absurd (cc)

  request-changes : (s : State P I A) (id : ℕ) (keys : List RequestKey) (q : RequestState P I A)
      (st : Status P I A) (t : State P I A) →
      request_at w s id keys q st ≡ Some t → Changes (Request id keys) s t
  request-changes s id keys q (assigned node (within x (asks key more go))) t h =
      let e =
      (only_if-some (same_keys (key ∷ more) keys
      && is_within_limits w s (x.run ∷ q.origin.path) (key ∷ more))
      (with_children w s id q (key ∷ more) x go) t h).1 in
      same_lists (Request id keys) s t refl refl (ap (λ (u : State P I A). u.begun) e)
      (ap (λ (u : State P I A). u.table) e) (ap (λ (u : State P I A). u.tools_used) e)
  request-changes s id keys q _ t h = absurd (cc)

  result-changes : (s : State P I A) (id : ℕ) (run : RunId) (old : RequestState P I A)
      (st : Status P I A) (t : State P I A) → Lawful s → at s.requests id ≡ Some
      (with_status old st) →
      result_at w s id run old st ≡ Some t → Changes (Result id run) s t
  result-changes s id run old (assigned node (within x (ends outcome))) t v e h =
      let m : Record = recorded outcome x.so_far.segments in
      let f : FinishedRun = record { run = x.run; made = m } in
      let y = and_then-some (only_if (same_run x.run run) x)
      (λ x. finished w s id node old x (recorded outcome x.so_far.segments)) t h in
      let p = only_if-some (same_run x.run run) x y.0 y.1 in
      let g = subst (λ (a : Within P I A). finished w s id node old a
      (recorded outcome a.so_far.segments) ≡ Some t) (sym p.1) y.2 in
      let z : RequestState P I A =
      goes_on w (assigned node) old x.run x.go m (add old.journal (ended x.run m)) in
      let u = and_then-some (traverse (woken w (f ∷ s.table) x.run m) (put s.requests id z))
      (λ requests.
      Some
      (record {
        requests = requests;
        begun = s.begun;
        table = f
            ∷ s.table;
        tools_used = record { run = x.run; tools = x.so_far.tools } ∷ s.tools_used;
      }))
      t g in
      let last : State P I A = record {
        requests = u.0;
        begun = s.begun;
        table = f ∷ s.table;
        tools_used = record { run = x.run; tools = x.so_far.tools } ∷ s.tools_used;
      } in
      let q : last ≡ t = some-is last t u.2 in
      let n : found s.table x.run
      ≡ None =
      (v.each id (with_status old (assigned node (within x (ends outcome))))
      e).status.1.unfinished in
      subst (λ r. Changes (Result id r) s t) (same_run-true x.run run p.0) (record {
        begins = ap (λ (u : State P I A). begun_runs u.begun) (sym q);
        finishes = ap (λ (u : State P I A). finished_runs u.table) (sym q);
        stays = subst (λ (u : State P I A). Newer s.table u.table) q (one_newer same_table n);
        tools_used =
            λ g. subst (λ (u : State P I A). tooled_runs u.tools_used ≡ finished_runs u.table) q
            (ap (λ rs. x.run ∷ rs) g);
      })
  result-changes s id run old _ t v e h = absurd (cc)

  abbrev pub Same : State P I A → State P I A → Type 0
  Same s t = (s.begun ≡ t.begun) × (s.table ≡ t.table) × (s.tools_used ≡ t.tools_used)

  answered-same : (s : State P I A) (id : ℕ) (q : RequestState P I A)
      (keys : List RequestKey) (x : Within P I A) (go : List RequestResult → Journal → Body I A)
      (reply : Option (List RequestResult)) (t : State P I A) →
      answered w s id q keys x go reply ≡ Some t → Same s t
  answered-same s id q keys x go None t h =
      let e = some-is s t h in (
        ap (λ (u : State P I A). u.begun) e,
        ap (λ (u : State P I A). u.table) e,
        ap
            (λ (u : State P I A). u.tools_used) e,
      )
  answered-same s id q keys x go (Some results) t h =
      let y = and_then-some (replay_all s.table (runs_of results) q.journal)
      (λ next.
      Some
      (with_request s id
      (in_body w ready q x.run x.go
      (run_on w.tools x.run (go results next) next (with_calls x.so_far keys results))))) t h in
      let e = some-is
      (with_request s id
      (in_body w ready q x.run x.go
      (run_on w.tools x.run (go results y.0) y.0 (with_calls x.so_far keys results)))) t y.2
      in (
        ap (λ (u : State P I A). u.begun) e,
        ap (λ (u : State P I A). u.table) e,
        ap
            (λ (u : State P I A). u.tools_used) e,
      )

  back_at-same : (s : State P I A) (id : ℕ) (q : RequestState P I A) (st : Status P I A)
      (t : State P I A) → resume_at w s id q st ≡ Some t → Same s t
  back_at-same s id q (calling keys ids x go) t h = answered-same s id q
      keys x go (results_of w s.requests ids) t h
  back_at-same s id q _ t h = absurd (cc)

  back_to-same : (s : State P I A) (parent : Option ℕ) (t : State P I A) →
      resume_caller w s parent ≡ Some t → Same s t
  back_to-same s None t h =
      let e = some-is s t h in (
        ap (λ (u : State P I A). u.begun) e,
        ap (λ (u : State P I A). u.table) e,
        ap
            (λ (u : State P I A). u.tools_used) e,
      )
  back_to-same s (Some id) t h = let y = and_then-some (at s.requests id)
      (λ q. resume_at w s id q q.status) t h in back_at-same s id y.0 y.0.status t y.2

  done-changes : (s : State P I A) (id : ℕ) (q : RequestState P I A)
      (st : Status P I A) (t : State P I A) → done_at w s id q st ≡ Some t →
      Changes (Done id) s t
  done-changes s id q (assigned node (walking (gives reply))) t h =
      let e = back_to-same (with_request s id (with_status q (done (result_of reply q.runs))))
      q.origin.parent t h in same_lists (Done id) s t refl refl e.0 e.1 e.2
  done-changes s id q _ t h = absurd (cc)

  step_of-changes : (s : State P I A) (event : Event) (q : RequestState P I A) (t : State P I A) →
      Lawful s → at s.requests (whose event) ≡ Some q → step_of w s event q ≡ Some t →
      Changes event s t
  step_of-changes s (Assign id node) q t v e h = assign-changes s id node q
      q.status t h
  step_of-changes s (Claim id run kind) q t v e h = claim-changes s id run kind q q.status t h
  step_of-changes s (Request id keys) q t v e h = request-changes s id keys q q.status t h
  step_of-changes s (Result id run) q t v e h = result-changes s id run q
      q.status t v e h
  step_of-changes s (Done id) q t v e h = done-changes s id q q.status t h
  step_of-changes s (Retire id node) q t v e h = retire-changes s id node q
      q.status t h

  begun_one : (event : Event) (events : List Event) (runs : List RunId)
      → begun_by (event ∷ events) runs ≡ begun_by events (begun_by (event ∷ []) runs)
  begun_one (Claim id run Go) events runs = refl
  begun_one _ events runs = refl

  finished_one : (event : Event) (events : List Event) (runs : List RunId)
      → finished_by (event ∷ events) runs ≡ finished_by events (finished_by (event ∷ []) runs)
  finished_one (Result id run) events runs = refl
  finished_one _ events runs = refl

  pub record Changed (events : List Event) (s t : State P I A) : Type 0 where
    pub begins : begun_runs t.begun ≡ begun_by events (begun_runs s.begun)
    pub finishes : finished_runs t.table ≡ finished_by events (finished_runs s.table)
    pub stays : Newer s.table t.table
    pub tools_used : tooled_runs s.tools_used ≡ finished_runs s.table
        → tooled_runs t.tools_used ≡ finished_runs t.table

  pub all-change : (events : List Event) (s t : State P I A) → Lawful s →
      after_all w s events ≡ Some t → Changed events s t
  all-change [] s t v h = let e = some-is s t h in record {
    begins = ap (λ (u : State P I A). begun_runs u.begun) (sym e);
    finishes = ap (λ (u : State P I A). finished_runs u.table) (sym e);
    stays = subst (λ (u : State P I A). Newer s.table u.table) e same_table;
    tools_used =
        λ g. subst (λ (u : State P I A). tooled_runs u.tools_used ≡ finished_runs u.table) e g;
  }
  all-change (event ∷ events) s t v h =
      let y = and_then-some (step w s event) (λ next. after_all w next events) t h in
      let z = and_then-some (at s.requests (whose event)) (step_of w s event) y.0 y.1 in
      let c = step_of-changes s event z.0 y.0 v z.1 z.2 in
      let ih = all-change events y.0 t (step-lawful w s event y.0 v y.1) y.2 in
      record {
        begins = ih.begins
            ∙ (ap (begun_by events) c.begins ∙ sym (begun_one event events (begun_runs s.begun)));
        finishes = ih.finishes
            ∙ (ap (finished_by events) c.finishes
            ∙ sym (finished_one event events (finished_runs s.table)));
        stays = newer-trans c.stays ih.stays;
        tools_used = λ g. ih.tools_used (c.tools_used g);
      }

once-distinct : (table : Records) → IsOnce table → AreDistinct (finished_runs table)
once-distinct [] o = tt
once-distinct (f ∷ table) o = (absent table f.run o.0, once-distinct table o.1)
  where
    absent : (table : Records) (r : RunId) → found table r ≡ None
        → is_in r (finished_runs table) ≡ false
    absent [] r h = refl
    absent (f ∷ table) r h = go (same_run f.run r) refl h (absent table r)
      where
        go : (b : Bool) → same_run f.run r ≡ b → this_or b (found table r) f.made ≡ None
            → (found table r ≡ None → is_in r (finished_runs table) ≡ false)
            → is_in r (finished_runs (f ∷ table)) ≡ false
        go true e h ih = absurd (cc)
        go false e h ih = rw (e, ih h)

pub named-finished : (table : Records) (r : RunId) → In r (finished_runs table) → IsFinished table r
named-finished [] r i = absurd i
named-finished (f ∷ table) r i = go (same_run f.run r) refl i (named-finished table r)
  where
    go : (b : Bool) → same_run f.run r ≡ b → In r (finished_runs (f ∷ table))
        → (In r (finished_runs table) → IsFinished table r)
        → (m : Record) × (this_or b (found table r) f.made ≡ Some m)
    go true e i ih = (f.made, refl)
    go false e (inl p) ih = absurd (clash (same_run f.run r) (same_run-eq f.run r p) e)
    go false e (inr i) ih = ih i

pub begun-named : (begun : List BegunRun) (r : RunId) → is_begun r begun ≡ true
    → In r (begun_runs begun)
begun-named [] r h = absurd (cc)
begun-named (b ∷ begun) r h = elim (or_cases (same_run b.run r) (is_begun r begun) h)
    [ inl p ↦ inl (same_run-true b.run r p) | inr p ↦ inr (begun-named begun r p) ]

pub orderly : {P I A : Type 0} (w : World P I A) (events : List Event) (s : State P I A) →
    IsHistory w events s → IsOrderly events s
orderly w events s h =
    let v = all-lawful w events (start w) s (start-lawful w) h in
    let c = all-change w events (start w) s (start-lawful w) h in
    record {
      begun = c.begins;
      begun_once = subst AreDistinct c.begins v.begun_once;
      finished = c.finishes;
      finished_once = subst AreDistinct c.finishes (once-distinct s.table v.once);
      begun_where_finished = λ r i.
          let f = named-finished s.table r (subst (λ rs. In r rs) (sym c.finishes) i) in
          subst (λ rs. In r rs) c.begins (begun-named s.begun r (v.table_begun r f.0 f.1));
      shared = λ id q e r m i. (v.each id q e).journal.entries r m i;
      closed = λ id q e r m i. (v.each id q e).journal.closed.has_items r (in-has r m q.journal i) m
          ((v.each id q e).journal.entries r m i);
    }

pub records_stay : {P I A : Type 0} (w : World P I A) (before more : List Event)
    (s t : State P I A) → IsHistory w before s → after_all w s more ≡ Some t → RecordsStay s t
records_stay w before more s t h g r m f =
    let n = (all-change w more s t (all-lawful w before (start w) s (start-lawful w) h) g).stays in
    (newer-found n r m f, λ j. newer-replay n r j (m, f))
