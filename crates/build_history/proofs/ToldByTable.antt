-- What the table tells of requests.
use Rattle.std.proofs.Common.{
  ◌≡◌,
  ℕ,
  zero,
  suc,
  inl,
  inr,
  List,
  [],
  ◌∷◌,
  ◌++◌,
  Option,
  None,
  Some,
  refl,
  ap,
  sym,
  ◌∙◌,
  subst,
  append_assoc,
}
use Rattle.msb_laws.specs.Asking.{and_then}
use Rattle.result_cache.specs.declared.run.RunId.{RunId}
use Rattle.result_cache.specs.declared.request.RequestKey.{RequestKey}
use Rattle.result_cache.specs.declared.request.RequestResult.{RequestResult}
use Rattle.result_cache.specs.declared.record.Record.{Record}
use Rattle.result_cache.specs.Journal.{Journal}
use Rattle.result_cache.specs.Lists.{In}
use Rattle.result_cache.specs.Replay.{replay}
use Rattle.result_cache.specs.Table.{FinishedRun, Records, found}
use Rattle.result_cache.proofs.RunTests.{and_then-some, same_run-refl}
use Rattle.build_meaning.specs.declared.event.Event.{Event}
use Rattle.build_meaning.specs.declared.event.Event.TheVariants.{Claim}
use Rattle.build_meaning.specs.declared.event.ClaimKind.TheVariants.{Use}
use Rattle.build_meaning.specs.Lists.{at, put}
use Rattle.build_meaning.specs.World.{World}
use Rattle.build_meaning.specs.Walk.{Walk, gives, wants, Body}
use Rattle.build_meaning.specs.SoFar.{result_of}
use Rattle.build_meaning.specs.ByTable.{walk_by, request_by}
use Rattle.build_meaning.specs.State.{
  with_status,
  Place,
  walking,
  within,
  Status,
  ready,
  assigned,
  waits,
  calling,
  done,
  Origin,
  RequestState,
  State,
  with_request,
}
use Rattle.build_meaning.specs.Step.{only_if, claimed, goes_on, step_of, step, after_all}
use Rattle.build_meaning.specs.History.{IsHistory}
use Rattle.build_meaning.proofs.ConsistentTables.{
  Start,
  Kids,
  Trace,
  StatusTrace,
  PlaceTrace,
  traced,
}
use Rattle.build_meaning.proofs.EventsKeepLawful.{some-is}
use Rattle.build_meaning.proofs.GrowingTables.{
  Newer,
  same_table,
  one_newer,
  newer-found,
  newer-replay,
}
use Rattle.build_meaning.proofs.ListPlaces.{at-put_same}
use Rattle.build_meaning.proofs.PairedLists.{Paired-at, Paired-some}
use Rattle.build_history.specs.Began.{AwaitsCall}
use Rattle.build_history.specs.Repeated.{LeadsOn, EndsAs, EndsByRecords, uses_of_all}

put-same : {X : Type 0} (xs : List X) (i : ℕ) (x : X) → at xs i ≡ Some x → put xs i x ≡ xs
put-same [] i x e = refl
put-same (y ∷ xs) zero x e = ap (λ z. z ∷ xs) (sym (some-is y x e))
put-same (y ∷ xs) (suc i) x e = ap (λ zs. y ∷ zs) (put-same xs i x e)

put-put : {X : Type 0} (xs : List X) (i : ℕ) (x y : X) → put (put xs i x) i y ≡ put xs i y
put-put [] i x y = refl
put-put (z ∷ xs) zero x y = refl
put-put (z ∷ xs) (suc i) x y = ap (λ zs. z ∷ zs) (put-put xs i x y)

nothing-more : {X : Type 0} (xs : List X) → xs ≡ xs ++ []
nothing-more [] = refl
nothing-more (x ∷ xs) = ap (λ ys. x ∷ ys) (nothing-more xs)

module _ {P I A : Type 0} (w : World P I A) where
  -- a call among those of its caller
  kid-at : (starts : List Start) (ids : List ℕ) (keys : List RequestKey) (j : Journal) →
      Kids starts ids keys j → (id : ℕ) → In id ids →
      (key : RequestKey) × (at starts id ≡ Some (record { key = key; journal = j }))
  kid-at starts [] [] j h id i = absurd i
  kid-at starts (n ∷ ids) (key ∷ keys) j h id (inl e) =
      (key, subst (λ m. at starts m ≡ Some (record { key = key; journal = j })) e h.0)
  kid-at starts (n ∷ ids) (key ∷ keys) j h id (inr i) = kid-at starts ids keys j h.1 id i
  kid-at starts [] (key ∷ keys) j h id i = absurd h
  kid-at starts (n ∷ ids) [] j h id i = absurd h

  -- the calls of a caller begin with the journal that it has
  kid-of : (table : Records) (events : List Event) (starts : List Start) (key : RequestKey)
      (first j : Journal) (runs : List RunId) (st : Status P I A) →
      StatusTrace w table events starts key first j runs st → (id : ℕ) → AwaitsCall id st →
      (call : RequestKey) × (at starts id ≡ Some (record { key = call; journal = j }))
  kid-of table events starts key first j runs (calling keys ids x go) v id i =
      kid-at starts ids keys j v.1 id i
  kid-of table events starts key first j runs (ready place) v id i = absurd i
  kid-of table events starts key first j runs (assigned node place) v id i = absurd i
  kid-of table events starts key first j runs (waits run b go) v id i = absurd i
  kid-of table events starts key first j runs (done result) v id i = absurd i

  leads-on : (table : Records) (events : List Event) (key : RequestKey) (first j : Journal)
      (runs : List RunId) (place : Place P I A) → PlaceTrace w table events key first j runs place →
      LeadsOn w table first key j runs place
  leads-on table events key first j runs (walking x) v = v.1 table same_table
  leads-on table events key first j runs (within x stop) v = tt

  ends-as : (table : Records) (events : List Event) (starts : List Start) (key : RequestKey)
      (first j : Journal) (runs : List RunId) (st : Status P I A) →
      StatusTrace w table events starts key first j runs st → EndsAs w table first key j runs st
  ends-as table events starts key first j runs (ready place) v =
      leads-on table events key first j runs place v
  ends-as table events starts key first j runs (assigned node place) v =
      leads-on table events key first j runs place v
  ends-as table events starts key first j runs (waits run b go) v =
      (v.0, v.1.1 table same_table)
  ends-as table events starts key first j runs (calling keys ids x go) v = tt
  ends-as table events starts key first j runs (done result) v = v.1 table same_table

  -- a table that has gained records tells the same of a walk
  walk-stays : (T U : Records) → Newer T U → (x : Walk P I A) (j : Journal) (runs : List RunId)
      (y : RequestResult × Journal) → walk_by w T x j runs ≡ Some y → walk_by w U x j runs ≡ Some y
  walk-stays T U n (gives reply) j runs y h = h
  walk-stays T U n (wants site run b go) j runs y h =
      let f = and_then-some (found T run) (λ made. and_then (replay T run j) (λ next.
      walk_by w T (go made next) next (runs ++ run ∷ []))) y h in
      let g = and_then-some (replay T run j) (λ next.
      walk_by w T (go f.0 next) next (runs ++ run ∷ [])) y f.2 in
      ap (λ o. and_then o (λ made. and_then (replay U run j) (λ next.
      walk_by w U (go made next) next (runs ++ run ∷ [])))) (newer-found n run f.0 f.1)
      ∙ (ap (λ o. and_then o (λ next. walk_by w U (go f.0 next) next (runs ++ run ∷ [])))
      (newer-replay n run j (f.0, f.1) ∙ g.1)
      ∙ walk-stays T U n (go f.0 g.0) g.0 (runs ++ run ∷ []) y g.2)

  -- the request as it stands, put in its own place
  unchanged : (s : State P I A) (id : ℕ) (q : RequestState P I A) → at s.requests id ≡ Some q →
      s ≡ with_request s id q
  unchanged s id q e = sym (ap (λ rs. record {
    requests = rs;
    begun = s.begun;
    table = s.table;
    tools_used = s.tools_used;
  }) (put-same s.requests id q e))

  -- a request of these parts
  abbrev request_of : Origin → Journal → List RunId → Status P I A → RequestState P I A
  request_of o j runs st = record { origin = o; journal = j; runs = runs; status = st }

  -- a walk between two runs comes to its end by records
  ends-by : (id node : ℕ) (o : Origin) (x : Walk P I A) (s : State P I A) (j : Journal)
      (runs : List RunId) (result : RequestResult) (last : Journal) →
      at s.requests id ≡ Some (request_of o j runs (assigned node (walking x))) →
      walk_by w s.table x j runs ≡ Some (result, last) →
      EndsByRecords w s id node o runs result last
  ends-by id node o (gives reply) s j runs result last e h =
      let p : (result_of reply runs, j) ≡ (result, last) =
      some-is (result_of reply runs, j) (result, last) h in
      let r : result_of reply runs ≡ result = ap (λ (y : RequestResult × Journal). y.0) p in
      let same : runs ≡ result.runs = ap (λ (y : RequestResult). y.runs) r in
      let q : RequestState P I A = request_of o j runs (assigned node (walking (gives reply))) in
      record {
        rest = [];
        reply = reply;
        runs_so = sym same ∙ nothing-more runs;
        told = ap (result_of reply) (sym same) ∙ r;
        after = ap Some (unchanged s id q e)
            ∙ ap (λ (y : RequestResult × Journal). Some (with_request s id
            (request_of o y.1 y.0.runs (assigned node (walking (gives reply)))))) p;
      }
  ends-by id node o (wants site run b go) s j runs result last e h =
      let f = and_then-some (found s.table run) (λ made. and_then (replay s.table run j) (λ next.
      walk_by w s.table (go made next) next (runs ++ run ∷ []))) (result, last) h in
      let g = and_then-some (replay s.table run j) (λ next.
      walk_by w s.table (go f.0 next) next (runs ++ run ∷ [])) (result, last) f.2 in
      let q : RequestState P I A =
      request_of o j runs (assigned node (walking (wants site run b go)))
      in
      let z : RequestState P I A = goes_on w (assigned node) q run go f.0 g.0 in
      let t : State P I A = with_request s id z in
      let there : at t.requests id ≡ Some z = at-put_same s.requests id q z e in
      let rest = ends-by id node o (go f.0 g.0) t g.0 (runs ++ run ∷ []) result last there g.2 in
      let over : RequestState P I A =
      request_of o last result.runs (assigned node (walking (gives rest.reply))) in
      let first : step w s (Claim id run Use) ≡ Some t =
      ap (λ o. and_then o (step_of w s (Claim id run Use))) e
      ∙ (ap (λ c. and_then (only_if c run) (λ r. claimed w s id node q r b go Use))
      (same_run-refl run)
      ∙ (ap (λ m. and_then m (λ made. and_then (replay s.table run j) (λ next.
      Some (with_request s id (goes_on w (assigned node) q run go made next))))) f.1
      ∙ ap (λ k. and_then k (λ next.
      Some (with_request s id (goes_on w (assigned node) q run go f.0 next)))) g.1)) in
      record {
        rest = run ∷ rest.rest;
        reply = rest.reply;
        runs_so = rest.runs_so ∙ append_assoc runs (run ∷ []) rest.rest;
        told = rest.told;
        after = ap (λ o. and_then o (λ next. after_all w next (uses_of_all id rest.rest))) first
            ∙ (rest.after ∙ ap (λ rs. Some (record {
              requests = rs;
              begun = s.begun;
              table = s.table;
              tools_used = s.tools_used;
            })) (put-put s.requests id z over));
      }

pub calls_go_by_the_table : {P I A : Type 0}
    (w : World P I A) (events : List Event) (s : State P I A) →
    IsHistory w events s → (caller id : ℕ) (q call : RequestState P I A) →
    at s.requests caller ≡ Some q → AwaitsCall id q.status → at s.requests id ≡ Some call →
    EndsAs w s.table q.journal call.origin.key call.journal call.runs call.status
calls_go_by_the_table {P} {I} {A} w events s h caller id q call at_q i at_call =
    let x = traced w events s h in
    let c = Paired-some (Trace w s.table events x.0) s.requests x.0 caller q x.1.each at_q in
    let kid =
    kid-of w s.table events x.0 c.0.key c.0.journal q.journal q.runs q.status c.1.status id i
    in
    let a : Start = record { key = kid.0; journal = q.journal } in
    let mine : Trace w s.table events x.0 call a =
    Paired-at (Trace w s.table events x.0) s.requests x.0 id call a x.1.each at_call kid.1 in
    subst (λ key. EndsAs w s.table q.journal key call.journal call.runs call.status) (sym mine.key)
    (ends-as w s.table events x.0 kid.0 q.journal call.journal call.runs call.status mine.status)

pub requests_end_by_the_table : {P I A : Type 0} (w : World P I A) (s : State P I A) (id node : ℕ)
    (q : RequestState P I A) (x : Walk P I A) (result : RequestResult) (last : Journal) →
    at s.requests id ≡ Some q → q.status ≡ assigned node (walking x) →
    walk_by w s.table x q.journal q.runs ≡ Some (result, last) →
    EndsByRecords w s id node q.origin q.runs result last
requests_end_by_the_table {P} {I} {A} w s id node q x result last e st h =
    ends-by w id node q.origin x s q.journal q.runs result last
    (e ∙ ap (λ (a : Status P I A). Some (with_status q a)) st) h

pub what_the_table_tells_stays : {P I A : Type 0} (w : World P I A) (table : Records)
    (f : FinishedRun) → found table f.run ≡ None → (first : Journal) (key : RequestKey)
    (result : RequestResult) (last : Journal) →
    request_by w table first key ≡ Some (result, last) →
    request_by w (f ∷ table) first key ≡ Some (result, last)
what_the_table_tells_stays w table f n first key result last h =
    walk-stays w table (f ∷ table) (one_newer same_table n) (w.walks key first) first []
    (result, last) h
