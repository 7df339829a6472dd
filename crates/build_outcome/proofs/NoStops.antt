-- No history of a whole and steady world stops: no circle of runs closes, and no limit is passed.
use Rattle.std.proofs.Common.{
  ◌≡◌,
  ℕ,
  suc,
  ◌≤◌,
  Bool,
  true,
  false,
  inl,
  inr,
  List,
  [],
  ◌∷◌,
  ◌++◌,
  length,
  map,
  None,
  Some,
  refl,
  ap,
  sym,
  ◌∙◌,
  subst,
  append_assoc,
  arith,
}
use Rattle.std.specs.Prelude.{nat_lt, nat_le}
use Rattle.std.proofs.lemmas.Bool.{ltb-true, leb-true}
use Rattle.std.proofs.Math.Logic.{∥∥₁_elim}
use Rattle.msb_laws.specs.Asking.{and_then}
use Rattle.msb_values.specs.declared.key.InstanceKey.{InstanceKey}
use Rattle.result_cache.specs.declared.run.RunId.{RunId}
use Rattle.result_cache.specs.declared.request.RequestKey.{RequestKey}
use Rattle.result_cache.specs.declared.request.RequestResult.{RequestResult}
use Rattle.result_cache.specs.declared.record.Record.{Record}
use Rattle.result_cache.specs.Exact.{run-exact}
use Rattle.result_cache.specs.Journal.{Journal}
use Rattle.result_cache.specs.Lists.{In}
use Rattle.result_cache.specs.Same.{same_run, same_keys}
use Rattle.result_cache.specs.Table.{found, is_begun}
use Rattle.result_cache.proofs.RunTests.{clash, and_both, and_then-some}
use Rattle.build_meaning.specs.declared.event.Event.{Event}
use Rattle.build_meaning.specs.declared.event.Event.TheVariants.{Claim, Request}
use Rattle.build_meaning.specs.declared.event.ClaimKind.{ClaimKind}
use Rattle.build_meaning.specs.declared.event.ClaimKind.TheVariants.{Go, Use, Wait}
use Rattle.build_meaning.specs.Lists.{at}
use Rattle.build_meaning.specs.World.{World}
use Rattle.build_meaning.specs.Walk.{Walk, gives, wants, Body}
use Rattle.build_meaning.specs.Meaning.{Given, deepest, most_instances}
use Rattle.build_meaning.specs.Demand.{IsWhole, IsSteady}
use Rattle.build_meaning.specs.Stop.{ends, asks}
use Rattle.build_meaning.specs.State.{Place, walking, within, Status, assigned, RequestState, State}
use Rattle.build_meaning.specs.Cycle.{is_in_cycle}
use Rattle.build_meaning.specs.Step.{
  only_if,
  unless,
  waiting,
  claimed,
  claim_at,
  request_at,
  instance_of,
  is_within_limits,
  step_of,
  step,
}
use Rattle.build_meaning.specs.Progress.{CanGoOn}
use Rattle.build_meaning.proofs.CyclesShown.{cycles_are_shown}
use Rattle.build_meaning.proofs.BuildingReplays.{map-append}
use Rattle.build_meaning.proofs.EventsKeepLawful.{only_if-some, may_wait-so}
use Rattle.build_meaning.proofs.MeaningDerived.{in-left}
use Rattle.build_meaning.proofs.NothingRefused.{distinct-least, nothing_refused}
use Rattle.build_scheduler.specs.declared.walker.Ask.TheVariants.{Call}
use Rattle.build_scheduler.specs.declared.slot.End.TheVariants.{Circular, TooDeep, TooMany}
use Rattle.build_scheduler.specs.Claims.{ClosesCycle}
use Rattle.build_scheduler.specs.Ends.{IsStop}
use Rattle.build_scheduler.specs.Own.{placed}
use Rattle.build_scheduler.specs.Position.{ask_at}
use Rattle.build_scheduler.specs.Requests.{instances_with, IsTooDeep, AreTooMany}

absurd-prop : (p q : ⊥) → p ≡ q
absurd-prop p q = absurd p

unless-none : {X : Type 0} (b : Bool) (x y : X) → b ≡ true → unless b x ≡ Some y → ⊥
unless-none true x y e h = cc
unless-none false x y e h = cc

module _ {P I A : Type 0} (w : World P I A) (s : State P I A) (id node : ℕ) (q : RequestState P I A)
    (there : at s.requests id ≡ Some q) where
  -- a claim of the run that the request with a node wants
  claims : (site : P) (run : RunId) (b : Body I A) (go : Record → Journal → Walk P I A) →
      q.status ≡ assigned node (walking (wants site run b go)) →
      (kind : ClaimKind) (next : State P I A) → step w s (Claim id run kind) ≡ Some next →
      claimed w s id node q run b go kind ≡ Some next
  claims site run b go st kind next h =
      let same : same_run run run ≡ true = (run-exact run run).1 refl in
      sym (ap (λ o. and_then o (step_of w s (Claim id run kind))) there
      ∙ (ap (λ (a : Status P I A). claim_at w s id run kind q a) st
      ∙ ap (λ t.
      and_then (only_if t run) (λ r. claimed w s id node q r b go kind))
      same)) ∙ h

  -- a run that is begun, and not finished, and that needed itself then, can't be claimed
  not-claimed : (run : RunId) (b : Body I A) (go : Record → Journal → Walk P I A) →
      is_begun run s.begun ≡ true → found s.table run ≡ None →
      is_in_cycle (waiting w s id q run b go) run ≡ true →
      (kind : ClaimKind) (next : State P I A) →
      claimed w s id node q run b go kind ≡ Some next → ⊥
  not-claimed run b go begun none cycle Go next h =
      unless-none (is_begun run s.begun) _ next begun h
  not-claimed run b go begun none cycle Use next h =
      let y = and_then-some (found s.table run) _ next h in
      let e : None ≡ Some y.0 = sym none ∙ y.1 in cc
  not-claimed run b go begun none cycle Wait next h =
      let y = only_if-some _ _ next h in
      clash (is_in_cycle (waiting w s id q run b go) run) cycle
      (may_wait-so w (is_begun run s.begun) (found s.table run)
      (is_in_cycle (waiting w s id q run b go) run) y.0).2

  no-wait : (site : P) (run : RunId) (b : Body I A) (go : Record → Journal → Walk P I A) →
      q.status ≡ assigned node (walking (wants site run b go)) → is_begun run s.begun ≡ true →
      found s.table run ≡ None →
      is_in_cycle (waiting w s id q run b go) run ≡ true →
      CanGoOn w s id (walking (wants site run b go)) → ⊥
  no-wait site run b go st begun none cycle (inl x) =
      not-claimed run b go begun none cycle Go x.0 (claims site run b go st Go x.0 x.1)
  no-wait site run b go st begun none cycle (inr (inl x)) =
      not-claimed run b go begun none cycle Use x.0 (claims site run b go st Use x.0 x.1)
  no-wait site run b go st begun none cycle (inr (inr x)) =
      not-claimed run b go begun none cycle Wait x.0 (claims site run b go st Wait x.0 x.1)

  -- calls that are possible are within the limits
  calls-fit : (place : Place P I A) (calls : List RequestKey) → q.status ≡ assigned node place →
      ask_at q.runs place ≡ Call calls → CanGoOn w s id place →
      (run : RunId) × (is_within_limits w s (run ∷ q.origin.path) calls ≡ true)
  calls-fit (walking (gives reply)) calls st a can = absurd (cc)
  calls-fit (walking (wants site run b go)) calls st a can = absurd (cc)
  calls-fit (within x (ends outcome)) calls st a can = absurd (cc)
  calls-fit (within x (asks key keys go)) calls st a can =
      let same : key ∷ keys ≡ calls = cc in
      let called =
      sym (ap (λ o. and_then o (step_of w s (Request id (key ∷ keys)))) there
      ∙ ap (λ (t : Status P I A). request_at w s id (key ∷ keys) q t) st)
      ∙ can.1 in
      let fits =
      (and_both (same_keys (key ∷ keys) (key ∷ keys))
      (is_within_limits w s (x.run ∷ q.origin.path) (key ∷ keys))
      (only_if-some _ _ can.0 called).0).1 in
      (x.run, ap (is_within_limits w s (x.run ∷ q.origin.path)) (sym same) ∙ fits)

module _ {P I A : Type 0} (w : World P I A) (s : State P I A) where
  -- with more calls there are no fewer instances
  more-instances : (some more : List RequestKey)
      → instances_with w s some ≤ instances_with w s (some ++ more)
  more-instances some more =
      let asked : List InstanceKey = map (instance_of w) s.requests in
      let instance_called : RequestKey → InstanceKey = λ (call : RequestKey). call.instance in
      distinct-least (asked ++ map instance_called some)
      (asked ++ map instance_called (some ++ more)) (λ x i.
      subst (λ xs. In x (asked ++ xs)) (sym (map-append instance_called some more))
      (subst (λ xs. In x xs)
      (append_assoc asked (map instance_called some) (map instance_called more))
      (in-left x (asked ++ map instance_called some) (map instance_called more) i)))

module _ {P I A : Type 0} (w : World P I A) (out : Given P I RequestResult) (whole : IsWhole w out)
    (steady : IsSteady out.demand) (events : List Event) where
  no-circle : (id : ℕ) (run : RunId) (runs : List RunId) → ClosesCycle w events id run runs → ⊥
  no-circle id run runs x =
      no-wait w x.state id x.node x.request x.there x.site run x.body x.go x.wants_so x.begun
      x.unfinished
      ((cycles_are_shown w events x.state x.history id x.node x.request x.site run x.body x.go
      x.there x.wants_so x.begun x.unfinished).1 (x.between, x.closes))
      (nothing_refused w out whole steady events x.state x.history id x.node x.request
      (walking (wants x.site run x.body x.go)) x.there x.wants_so)

  not-deep : (id : ℕ) (calls keys : List RequestKey) → IsTooDeep w events id calls keys → ⊥
  not-deep id calls keys x =
      let y = x.stands in
      let q : RequestState P I A = placed y.origin x.position (assigned y.node) in
      let fits = calls-fit w y.state id y.node q y.there x.position.place calls refl x.asks
      (nothing_refused w out whole steady events y.state y.history id y.node q x.position.place
      y.there refl) in
      let less = ltb-true (suc (length y.origin.path)) deepest
      (and_both (nat_lt (suc (length y.origin.path)) deepest)
      (nat_le (instances_with w y.state calls) most_instances) fits.1).0 in
      omega (arith, less, x.too_deep)

  not-many : (id : ℕ) (calls : List RequestKey) (instance : InstanceKey)
      → AreTooMany w events id calls instance → ⊥
  not-many id calls instance x =
      let y = x.stands in
      let q : RequestState P I A = placed y.origin x.position (assigned y.node) in
      let fits = calls-fit w y.state id y.node q y.there x.position.place calls refl x.asks
      (nothing_refused w out whole steady events y.state y.history id y.node q x.position.place
      y.there refl) in
      let few = leb-true (instances_with w y.state calls) most_instances
      (and_both (nat_lt (suc (length y.origin.path)) deepest)
      (nat_le (instances_with w y.state calls) most_instances) fits.1).1 in
      let calls_are : calls ≡ (x.before ++ x.call ∷ []) ++ x.behind = x.calls_are
      ∙ sym (append_assoc x.before (x.call ∷ []) x.behind) in
      let more = subst (λ ks. instances_with w y.state (x.before ++ x.call ∷ [])
      ≤ instances_with w y.state ks) (sym calls_are)
      (more-instances w y.state (x.before ++ x.call ∷ []) x.behind) in
      omega (arith, few, more, x.too_many)

  -- nothing stops the build but want of memory
  pub no-circles : (runs : List RunId) → IsStop w events (Circular runs) → ⊥
  no-circles runs h = ∥∥₁_elim h absurd-prop (λ x. no-circle x.0 x.1 runs x.2)

  pub never-deep : (keys : List RequestKey) → IsStop w events (TooDeep keys) → ⊥
  never-deep keys h = ∥∥₁_elim h absurd-prop (λ x. not-deep x.0 x.1 keys x.2)

  pub never-many : (instance : InstanceKey) → IsStop w events (TooMany instance) → ⊥
  never-many instance h = ∥∥₁_elim h absurd-prop (λ x. not-many x.0 x.1 instance x.2)
