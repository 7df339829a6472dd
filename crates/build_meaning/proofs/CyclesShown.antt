-- The test of a cycle holds exactly where a cycle can be shown.
use Rattle.std.proofs.Common.{
  ◌≡◌,
  inl,
  inr,
  ℕ,
  true,
  List,
  [],
  ◌∷◌,
  length,
  None,
  Some,
  ap,
  ◌∙◌,
  subst,
}
use Rattle.std.specs.Bool.{Decides}
use Rattle.result_cache.specs.declared.run.RunId.{RunId}
use Rattle.result_cache.specs.declared.request.RequestKey.{RequestKey}
use Rattle.result_cache.specs.declared.request.RequestResult.{RequestResult}
use Rattle.result_cache.specs.declared.record.Record.{Record}
use Rattle.build_meaning.specs.declared.event.Event.{Event}
use Rattle.build_meaning.specs.Lists.{at}
use Rattle.result_cache.specs.Journal.{Journal}
use Rattle.result_cache.specs.Table.{Records, found, BegunRun, is_begun}
use Rattle.build_meaning.specs.World.{World}
use Rattle.build_meaning.specs.Walk.{Walk, wants, Body}
use Rattle.build_meaning.specs.State.{
  with_status,
  Within,
  walking,
  Status,
  assigned,
  waits,
  calling,
  RequestState,
  State,
  start,
}
use Rattle.build_meaning.specs.Cycle.{Needs, IsChain, ShowsCycle, is_in_cycle}
use Rattle.build_meaning.specs.Step.{waiting}
use Rattle.build_meaning.specs.History.{IsHistory}
use Rattle.build_meaning.proofs.RunPaths.{Path, last_one, step_on}
use Rattle.build_meaning.proofs.ListPlaces.{at-put}
use Rattle.build_meaning.proofs.LawfulStates.{beginner-begun, LawfulStatus, Lawful}
use Rattle.build_meaning.proofs.EventsKeepLawful.{put-lawful, start-lawful, all-lawful}
use Rattle.build_meaning.proofs.NeedsOfRuns.{need, leads-path}
use Rattle.build_meaning.proofs.OpenRequests.{circle-tested, path-first}

module _ {P I A : Type 0} where
  path-chain : (s : State P I A) {r t : RunId} → Path (Needs s) r t →
      (runs : List RunId) × IsChain s r runs t
  path-chain s (last_one n) = ([], n)
  path-chain s (step_on {t = t} n p) = let y = path-chain s p in (t ∷ y.0, (n, y.1))

  chain-path : (s : State P I A) (r t : RunId) (runs : List RunId) → IsChain s r runs t →
      Path (Needs s) r t
  chain-path s r t [] c = last_one c
  chain-path s r t (x ∷ runs) c = step_on c.0 (chain-path s x t runs c.1)

  shown : (w : World P I A) (s : State P I A) → Lawful s → (r : RunId) → Decides (is_in_cycle s r)
      (ShowsCycle s r)
  shown w s v r = (
    (λ h. path-chain s (leads-path s (length s.begun) r r h)),
    λ c.
        circle-tested w s v r (chain-path s r r c.0 c.1),
  )

  -- where a request wants a run that is begun and not finished, the test tells whether its wait
  -- would close a cycle
  pub cycles_are_shown : (w : World P I A) (events : List Event) (s : State P I A) →
      IsHistory w events s → (id node : ℕ) (q : RequestState P I A) (site : P) (run : RunId)
      (b : Body I A) (go : Record → Journal → Walk P I A) →
      at s.requests id ≡ Some q → q.status ≡ assigned node (walking (wants site run b go)) →
      is_begun run s.begun ≡ true → found s.table run ≡ None →
      Decides (is_in_cycle (waiting w s id q run b go) run)
      (ShowsCycle (waiting w s id q run b go) run)
  cycles_are_shown w events s h id node q site run b go e st begun none =
      let v = all-lawful w events (start w) s (start-lawful w) h in
      let l = v.each id q e in
      shown w (waiting w s id q run b go)
      (put-lawful s id (with_status q (waits run b go)) v
      (record { journal = l.journal; status = (begun, none) })) run

  status-open : (begun : List BegunRun) (table : Records) (id : ℕ) (j : Journal) (st : Status P I A)
      (keys : List RequestKey) (ids : List ℕ) (x : Within P I A) (go : List RequestResult →
      Journal → Body I A) → LawfulStatus begun table id j st → st ≡ calling keys ids x go →
      (is_begun x.run begun ≡ true) × (found table x.run ≡ None)
  status-open begun table id j st keys ids x go v e =
      let b = (subst (λ (u : Status P I A). LawfulStatus begun table id j u) e v).0.1 in
      (beginner-begun begun x.run id b.mine, b.unfinished)

  -- a run that is not begun, or is finished, needs nothing
  pub cycles_need_open : (w : World P I A) (events : List Event) (s : State P I A) →
      IsHistory w events s → (id : ℕ) (q : RequestState P I A) (run : RunId) (b : Body I A)
      (go : Record → Journal → Walk P I A) →
      is_in_cycle (waiting w s id q run b go) run ≡ true
      → (is_begun run s.begun ≡ true) × (found s.table run ≡ None)
  cycles_need_open w events s h id q run b go c =
      let v = all-lawful w events (start w) s (start-lawful w) h in
      let next : State P I A = waiting w s id q run b go in
      let n = need next run (path-first (leads-path next (length s.begun) run run c)).0
      (path-first (leads-path next (length s.begun) run run c)).1 in
      elim
      (at-put s.requests id (with_status q (waits run b go)) n.caller
      n.req n.req_at) [
        | inl p ↦
            absurd (waits-calls run b go n.keys n.ids n.x n.go
            (ap (λ (u : RequestState P I A). u.status) p.1 ∙ n.calls_so))
        | inr p ↦
            let o = status-open s.begun s.table n.caller n.req.journal n.req.status n.keys n.ids n.x
            n.go (v.each n.caller n.req p.1).status n.calls_so in
            subst (λ r. (is_begun r s.begun ≡ true) × (found s.table r ≡ None)) n.is_run o
      ]
    where
      waits-calls : (r : RunId) (b : Body I A) (go : Record → Journal → Walk P I A)
          (keys : List RequestKey) (ids : List ℕ) (x : Within P I A) (k : List RequestResult →
          Journal → Body I A) → waits r b go ≡ calling keys ids x k → ⊥
      waits-calls r b go keys ids x k e = cc
