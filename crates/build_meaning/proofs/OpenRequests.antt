-- In every legal history open children are among their parents' calls, and no run needs itself.
use Rattle.std.proofs.Common.{
  ◌≡◌,
  ℕ,
  zero,
  suc,
  ◌+◌,
  ◌<◌,
  Bool,
  true,
  false,
  ◌&&◌,
  ◌==◌,
  ◌⊎◌,
  inl,
  inr,
  List,
  [],
  ◌∷◌,
  ◌++◌,
  length,
  map,
  Option,
  None,
  Some,
  refl,
  ap,
  sym,
  ◌∙◌,
  subst,
  arith,
}
use Rattle.std.proofs.lemmas.List.{length-map}
use Rattle.msb_laws.specs.Asking.{and_then}
use Rattle.msb_laws.specs.Traverse.{traverse}
use Rattle.result_cache.specs.declared.run.RunId.{RunId}
use Rattle.result_cache.specs.declared.request.RequestKey.{RequestKey}
use Rattle.result_cache.specs.declared.request.RequestResult.{RequestResult}
use Rattle.result_cache.specs.declared.record.Record.{Record}
use Rattle.result_cache.specs.Same.{same_run, same_keys}
use Rattle.build_meaning.specs.declared.event.Event.{Event}
use Rattle.build_meaning.specs.declared.event.Event.TheVariants.{
  Assign,
  Claim,
  Request,
  Result,
  Done,
  Retire,
}
use Rattle.build_meaning.specs.declared.event.ClaimKind.{ClaimKind}
use Rattle.build_meaning.specs.declared.event.ClaimKind.TheVariants.{Go, Use, Wait}
use Rattle.result_cache.specs.Lists.{In, this_or}
use Rattle.build_meaning.specs.Lists.{at, put, numbered_from}
use Rattle.result_cache.specs.Journal.{Journal, ended, add}
use Rattle.result_cache.specs.Table.{FinishedRun, Records, found, BegunRun, is_begun}
use Rattle.result_cache.specs.Replay.{replay, replay_all}
use Rattle.build_meaning.specs.World.{World}
use Rattle.build_meaning.specs.Walk.{Walk, gives, wants, Body, Outcome, Reply}
use Rattle.build_meaning.specs.SoFar.{nothing_yet, with_calls, runs_of, recorded, result_of}
use Rattle.build_meaning.specs.Stop.{ends, asks, run_on}
use Rattle.build_meaning.specs.State.{
  with_status,
  Within,
  Place,
  walking,
  within,
  Status,
  ready,
  assigned,
  waits,
  calling,
  done,
  RequestState,
  State,
  with_request,
  new_request,
  start,
}
use Rattle.build_meaning.specs.Cycle.{holds, needed, Needs, is_in_cycle, leads_to}
use Rattle.build_meaning.specs.Step.{
  only_if,
  assign_at,
  in_body,
  goes_on,
  waiting,
  may_wait,
  claimed,
  claim_at,
  with_children,
  is_within_limits,
  request_at,
  woken_if,
  woken_at,
  woken,
  finished,
  result_at,
  result_in,
  results_of,
  answered,
  resume_at,
  resume_caller,
  done_at,
  retire_at,
  whose,
  step_of,
  step,
  after_all,
}
use Rattle.result_cache.proofs.RunTests.{clash, or_cases, same_run-true, same_run-eq, and_then-some}
use Rattle.build_meaning.proofs.ListPlaces.{
  at-put,
  at-put_same,
  at-put_other,
  at-put_else,
  at-append,
  at-front,
  at-back,
  at-map,
  at-less,
  map-at,
  put-length,
  in-numbered,
  numbered-in,
  at-traverse,
  traverse-at,
  traverse-none,
  traverse-all,
}
use Rattle.build_meaning.proofs.RunPaths.{Path, last_one, step_on, path-mono, circle-found}
use Rattle.build_meaning.proofs.LawfulStates.{
  beginner,
  beginner-begun,
  LawfulBody,
  LawfulStatus,
  Lawful,
}
use Rattle.build_meaning.proofs.EventsKeepLawful.{
  only_if-some,
  unless-some,
  some-is,
  may_wait-so,
  step-lawful,
}
use Rattle.build_meaning.proofs.NeedsOfRuns.{need, needs-of}
use Rattle.build_meaning.proofs.OrderlyHistories.{begun_runs, begun-named}
use Rattle.build_meaning.proofs.ParentsAndChildren.{
  Kin,
  Kins,
  told_at,
  NeedOf,
  Family,
  Free,
  same_some,
  none_some,
  same_or_not,
  PutAt,
  put-cases,
  put-forward,
  SameTies,
  Tied,
  tied-family,
  fewer-needs,
  new-hold,
  round-through,
  done-family,
  last-family,
  Calls,
  calls-family,
  calls-needs,
}

pub path-first : {N : RunId → RunId → Type 0} {r t : RunId} → Path N r t → (u : RunId) × N r u
path-first (last_one {t = t} n) = (t, n)
path-first (step_on {t = t} n p) = (t, n)

refl-ties : (a : Kin) → SameTies a a
refl-ties a = record
    { parent = refl; calls = refl; reply = refl; when_calling = λ ids h. (refl, refl) }

put-tied : {f g : Kins} {id : ℕ} {old new : Kin} → PutAt f g id old new → SameTies old new
    → Tied f g
put-tied {f} {g} {id} {old} {new} p s = record {
  forward = λ n a h. elim (put-forward p n a h) [
    | inl x ↦ (new, x.2, subst (λ b. SameTies b new) (sym x.1) s)
    | inr x ↦ (a, x.1, refl-ties a)
  ];
  back = λ n b h. elim (put-cases p n b h) [
    | inl x ↦
        (old, subst (λ m. f m ≡ Some old) (sym x.0) p.was, subst (λ c. SameTies old c) (sym x.1) s)
    | inr x ↦ (b, x.1, refl-ties b)
  ];
}

-- one place holds no more, and is no caller
put-fewer : {f g : Kins} {id : ℕ} {old new : Kin} → PutAt f g id old new
    → ((ids : List ℕ) → new.calls ≡ Some ids → (old.calls ≡ Some ids) × (new.inside ≡ old.inside)) →
    ((t : RunId) → (new.inside ≡ Some t) ⊎ (new.waits ≡ Some t)
    → (old.inside ≡ Some t) ⊎ (old.waits ≡ Some t)) → (r t : RunId) → NeedOf g r t
    → NeedOf f r t
put-fewer {f} {g} {id} {old} {new} p c h = fewer-needs (λ n b e. elim (put-cases p n b e) [
  | inl x ↦ (
    old,
    subst (λ m. f m ≡ Some old) (sym x.0) p.was,
    subst (λ (k : Kin). (ids : List ℕ) → k.calls ≡ Some ids
        → (old.calls ≡ Some ids) × (k.inside ≡ old.inside)) (sym x.1) c,
    subst (λ (k : Kin). (t : RunId) → (k.inside ≡ Some t) ⊎ (k.waits ≡ Some t)
        → (old.inside ≡ Some t) ⊎ (old.waits ≡ Some t)) (sym x.1) h,
  )
  | inr x ↦ (b, x.1, (λ ids a. (a, refl)), λ t a. a)
])

put-working : {f g : Kins} {id : ℕ} {old new : Kin} → PutAt f g id old new → (r : RunId)
    → (old.inside ≡ Some r → new.inside ≡ Some r)
    → (n : ℕ) × (k : Kin) × (f n ≡ Some k) × (k.inside ≡ Some r) →
    (n : ℕ) × (k : Kin) × (g n ≡ Some k) × (k.inside ≡ Some r)
put-working {f} {g} {id} {old} {new} p r m (n, k, h, i) = elim (put-forward p n k h) [
  | inl x ↦ (n, new, x.2, m (sym (ap (λ (a : Kin). a.inside) x.1) ∙ i))
  | inr x ↦ (n, k, x.1, i)
]

-- no more is held
pub record Less (a b : Kin) : Type 0 where
  pub ties : SameTies a b
  pub inside : (t : RunId) → b.inside ≡ Some t → a.inside ≡ Some t
  pub waits_less : (t : RunId) → b.waits ≡ Some t → a.waits ≡ Some t

less-trans : (a b c : Kin) → Less a b → Less b c → Less a c
less-trans a b c x y = record {
  ties = record {
    parent = y.ties.parent ∙ x.ties.parent;
    calls = y.ties.calls ∙ x.ties.calls;
    reply = y.ties.reply ∙ x.ties.reply;
    when_calling = λ ids h.
        let u = x.ties.when_calling ids h in
        let v = y.ties.when_calling ids (x.ties.calls ∙ h) in (v.0 ∙ u.0, v.1 ∙ u.1);
  };
  inside = λ t h. x.inside t (y.inside t h);
  waits_less = λ t h. x.waits_less t (y.waits_less t h);
}

older : (table : Records) (f : FinishedRun) (r : RunId) → found (f ∷ table) r ≡ None
    → found table r ≡ None
older table f r h = go (same_run f.run r) h
  where
    go : (b : Bool) → this_or b (found table r) f.made ≡ None → found table r ≡ None
    go true h = absurd (cc)
    go false h = h

newest : (table : Records) (f : FinishedRun) (r : RunId) → found (f ∷ table) r ≡ None → f.run ≡ r
    → ⊥
newest table f r h e = let b : same_run f.run r
    ≡ true = same_run-eq f.run r e in let g : Some f.made
    ≡ None = sym (ap (λ c. this_or c (found table r) f.made) b) ∙ h in absurd (cc)

done-needs : {f g : Kins} {id : ℕ} {old new : Kin} → PutAt f g id old new → new.calls ≡ None
    → new.inside ≡ None → new.waits ≡ None → (r t : RunId) → NeedOf g r t → NeedOf f r t
done-needs p c i x = put-fewer p (λ ids a. none_some _ ids a c)
    (λ t a. elim a [ inl d ↦ none_some _ t d i | inr d ↦ none_some _ t d x ])

module _ {P I A : Type 0} where
  abbrev pub ids_in : Status P I A → Option (List ℕ)
  ids_in (calling keys ids x go) = Some ids
  ids_in status = None

  abbrev pub told_in : Status P I A → Option RequestResult
  told_in (done result) = Some result
  told_in status = None

  abbrev pub inside_place : Place P I A → Option RunId
  inside_place (walking walk) = None
  inside_place (within x stop) = Some x.run

  abbrev pub inside_of : Status P I A → Option RunId
  inside_of (ready p) = inside_place p
  inside_of (assigned node p) = inside_place p
  inside_of (waits r b go) = None
  inside_of (calling keys ids x go) = Some x.run
  inside_of (done result) = None

  abbrev pub waits_of : Status P I A → Option RunId
  waits_of (waits r b go) = Some r
  waits_of status = None

  abbrev pub kin_of : RequestState P I A → Kin
  kin_of q = record {
    parent = q.origin.parent;
    calls = ids_in q.status;
    reply = told_in q.status;
    inside =
        inside_of q.status;
    waits = waits_of q.status;
  }

  abbrev pub kins_of : List (RequestState P I A) → Kins
  kins_of requests id = and_then (at requests id) (λ q. Some (kin_of q))

  pub kins-at : (rs : List (RequestState P I A)) (id : ℕ) (q : RequestState P I A) →
      at rs id ≡ Some q → kins_of rs id ≡ Some (kin_of q)
  kins-at rs id q h = ap (λ o. and_then o (λ q. Some (kin_of q))) h

  pub at-kins : (rs : List (RequestState P I A)) (id : ℕ) (k : Kin) → kins_of rs id ≡ Some k →
      (q : RequestState P I A) × (at rs id ≡ Some q) × (kin_of q ≡ k)
  at-kins rs id k h = let y = and_then-some (at rs id) (λ q. Some (kin_of q)) k h
      in (y.0, y.1, some-is (kin_of y.0) k y.2)

  pub put-kins : (rs : List (RequestState P I A)) (id : ℕ) (q z : RequestState P I A) →
      at rs id ≡ Some q → PutAt (kins_of rs) (kins_of (put rs id z)) id (kin_of q) (kin_of z)
  put-kins rs id q z h = record {
    was = kins-at rs id q h;
    is = kins-at (put rs id z) id z (at-put_same rs id q z h);
    others = λ n d. ap (λ o. and_then o (λ q. Some (kin_of q))) (at-put_else rs id z n d);
  }

  pub calling-so : (st : Status P I A) (ids : List ℕ) → ids_in st ≡ Some ids →
      (keys : List RequestKey) × (x : Within P I A) × (go : List RequestResult → Journal → Body I A)
      × (st ≡ calling keys ids x go)
  calling-so (calling keys js x go) ids h =
      (keys, x, go, ap (λ is. calling keys is x go) (some-is js ids h))
  calling-so _ ids h = absurd (cc)

  inside-holds : (st : Status P I A) (t : RunId) → inside_of st ≡ Some t → In t (holds st)
  inside-holds (ready (within x stop)) t h = inl (some-is x.run t h)
  inside-holds (ready (walking y)) t h = absurd (cc)
  inside-holds (assigned node (within x stop)) t h = inl (some-is x.run t h)
  inside-holds (assigned node (walking y)) t h = absurd (cc)
  inside-holds (waits r b go) t h = absurd (cc)
  inside-holds (calling keys ids x go) t h = inl (some-is x.run t h)
  inside-holds (done result) t h = absurd (cc)

  waits-holds : (st : Status P I A) (t : RunId) → waits_of st ≡ Some t → In t (holds st)
  waits-holds (waits r b go) t h = inl (some-is r t h)
  waits-holds _ t h = absurd (cc)

  holds-cases : (st : Status P I A) (t : RunId) → In t (holds st) →
      (inside_of st ≡ Some t) ⊎ (waits_of st ≡ Some t)
  holds-cases (ready (within x stop)) t (inl e) = inl (ap Some e)
  holds-cases (assigned node (within x stop)) t (inl e) = inl (ap Some e)
  holds-cases (waits r b go) t (inl e) = inr (ap Some e)
  holds-cases (calling keys ids x go) t (inl e) = inl (ap Some e)
  holds-cases (ready (within x stop)) t (inr i) = absurd i
  holds-cases (assigned node (within x stop)) t (inr i) = absurd i
  holds-cases (waits r b go) t (inr i) = absurd i
  holds-cases (calling keys ids x go) t (inr i) = absurd i
  holds-cases (ready (walking y)) t i = absurd i
  holds-cases (assigned node (walking y)) t i = absurd i
  holds-cases (done result) t i = absurd i

  -- a run that is begun and not finished
  abbrev pub Open : State P I A → RunId → Type 0
  Open s r = (is_begun r s.begun ≡ true) × (found s.table r ≡ None)

  body_is : (begun : List BegunRun) (table : Records) (id : ℕ) (j : Journal) (x : Within P I A)
      (r : RunId) → (from : Journal) × LawfulBody begun table id j x from → Some x.run ≡ Some r →
      (beginner begun r ≡ Some id) × (found table r ≡ None)
  body_is begun table id j x r (from, b) h = subst
      (λ t. (beginner begun t ≡ Some id) × (found table t ≡ None)) (some-is x.run r h)
      (b.mine, b.unfinished)

  status-inside : (begun : List BegunRun) (table : Records) (id : ℕ) (j : Journal)
      (st : Status P I A) (r : RunId) → LawfulStatus begun table id j st → inside_of st ≡ Some r →
      (beginner begun r ≡ Some id) × (found table r ≡ None)
  status-inside begun table id j (ready (within x stop)) r v h = body_is begun table id j x r v h
  status-inside begun table id j (assigned node (within x stop)) r v h = body_is begun table id j x
      r v h
  status-inside begun table id j (calling keys ids x go) r v h = body_is begun table id j x r v.0 h
  status-inside begun table id j (ready (walking y)) r v h = absurd (cc)
  status-inside begun table id j (assigned node (walking y)) r v h = absurd (cc)
  status-inside begun table id j (waits s b go) r v h = absurd (cc)
  status-inside begun table id j (done result) r v h = absurd (cc)

  status-waits : (begun : List BegunRun) (table : Records) (id : ℕ) (j : Journal)
      (st : Status P I A) (r : RunId) → LawfulStatus begun table id j st → waits_of st ≡ Some r →
      (is_begun r begun ≡ true) × (found table r ≡ None)
  status-waits begun table id j (waits s b go) r v h = subst
      (λ t. (is_begun t begun ≡ true) × (found table t ≡ None)) (some-is s r h) v
  status-waits begun table id j _ r v h = absurd (cc)

  pub inside-open : (s : State P I A) → Lawful s → (id : ℕ) (k : Kin) (r : RunId) →
      kins_of s.requests id ≡ Some k → k.inside ≡ Some r → Open s r × (beginner s.begun r ≡ Some id)
  inside-open s v id k r h i =
      let q = at-kins s.requests id k h in
      let y = status-inside s.begun s.table id q.0.journal q.0.status r (v.each id q.0 q.1).status
      (ap (λ (a : Kin). a.inside) q.2 ∙ i) in
      ((beginner-begun s.begun r id y.0, y.1), y.0)

  pub waits-open : (s : State P I A) → Lawful s → (id : ℕ) (k : Kin) (r : RunId) →
      kins_of s.requests id ≡ Some k → k.waits ≡ Some r → Open s r
  waits-open s v id k r h i =
      let q = at-kins s.requests id k h in
      status-waits s.begun s.table id q.0.journal q.0.status r (v.each id q.0 q.1).status
      (ap (λ (a : Kin). a.waits) q.2 ∙ i)

  pub record Kindred (s : State P I A) : Type 0 where
    pub family : Family (kins_of s.requests)
    pub free : Free (kins_of s.requests) (Open s)

  -- a request that changes nothing here
  same-kin : (s : State P I A) (id : ℕ) (q z : RequestState P I A) → Kindred s →
      at s.requests id ≡ Some q → kin_of q ≡ kin_of z → Kindred (with_request s id z)
  same-kin s id q z v h e =
      let p = put-kins s.requests id q z h in
      record {
        family = tied-family
            (put-tied p (subst (λ k. SameTies (kin_of q) k) e (refl-ties (kin_of q)))) v.family;
        free = record {
          working = λ r o. put-working p r (λ i. sym (ap (λ (a : Kin). a.inside) e) ∙ i)
              (v.free.working r o);
          acyclic = λ r c. v.free.acyclic r (path-mono (put-fewer p
              (λ ids a. (ap (λ (k : Kin). k.calls) e ∙ a, sym (ap (λ (k : Kin). k.inside) e)))
              (λ t a. subst (λ (k : Kin). (k.inside ≡ Some t) ⊎ (k.waits ≡ Some t)) (sym e) a)) c);
        };
      }

module _ {P I A : Type 0} (w : World P I A) where
  assign-kindred : (s : State P I A) (id node : ℕ) (q : RequestState P I A)
      (st : Status P I A) (t : State P I A) → Kindred s →
      at s.requests id ≡ Some (with_status q st) → assign_at w s id node q st ≡ Some t
      → Kindred t
  assign-kindred s id node q (ready p) t v e h =
      subst (λ (u : State P I A). Kindred u)
      (some-is (with_request s id (with_status q (assigned node p))) t h)
      (same-kin s id (with_status q (ready p)) (with_status q (assigned node p)) v e
      refl)
  assign-kindred s id node q _ t v e h = absurd (cc)

  retire-kindred : (s : State P I A) (id node : ℕ) (q : RequestState P I A)
      (st : Status P I A) (t : State P I A) → Kindred s →
      at s.requests id ≡ Some (with_status q st) → retire_at w s id node q st ≡ Some t
      → Kindred t
  retire-kindred s id node q (assigned by p) t v e h =
      subst (λ (u : State P I A). Kindred u) (only_if-some (by == node)
      (with_request s id (with_status q (ready p))) t h).1
      (same-kin s id (with_status q (assigned by p)) (with_status q (ready p)) v e refl)
  retire-kindred s id node q _ t v e h = absurd (cc)

  begin-kindred : (s : State P I A) (id node : ℕ) (old : RequestState P I A)
      (site : P) (r : RunId) (b : Body I A) (go : Record → Journal → Walk P I A) → Lawful s →
      Kindred s →
      at s.requests id ≡ Some (with_status old (assigned node (walking (wants site r b go)))) →
      is_begun r s.begun ≡ false →
      Kindred
      (record {
        requests = put s.requests id
            (in_body w (assigned node) old r go (run_on w.tools r b old.journal nothing_yet));
        begun = record
            { run = r; by = id } ∷ s.begun;
        table = s.table;
        tools_used = s.tools_used;
      })
  begin-kindred s id node old site r b go l v e n =
      let q : RequestState P I A =
      with_status old (assigned node (walking (wants site r b go))) in
      let z : RequestState P I A =
      in_body w (assigned node) old r go (run_on w.tools r b old.journal nothing_yet) in
      let p = put-kins s.requests id q z e in
      record {
        family = tied-family
            (put-tied p
            (record
            { parent = refl; calls = refl; reply = refl; when_calling = λ ids a. absurd (cc) }))
            v.family;
        free = record {
          working = λ t a. elim (or_cases (same_run r t) (is_begun t s.begun) a.0) [
            | inl d ↦ (id, kin_of z, p.is, ap Some (same_run-true r t d))
            | inr d ↦ put-working p t (λ i. absurd (cc)) (v.free.working t (d, a.1))
          ];
          acyclic = λ t c.
              elim
              (round-through r
              (new-hold id (kin_of q) (kin_of z) r p refl
              (λ u a. elim a [ inl d ↦ some-is r u d | inr d ↦ absurd (cc) ])) c) [
                | inl d ↦ v.free.acyclic t d
                | inr d ↦
                    let u = path-first d in
                    elim (put-cases p u.1.caller u.1.kin u.1.at_caller) [
                      | inl x ↦ none_some u.1.kin.calls u.1.ids u.1.calls_so
                          (ap (λ (k : Kin). k.calls) x.1)
                      | inr x ↦ clash (is_begun r s.begun)
                          (inside-open s l u.1.caller u.1.kin r x.1 u.1.in_run).0.0 n
                    ]
              ];
        };
      }

  -- needs by kin are needs
  need-kin : (s : State P I A) (r t : RunId) → NeedOf (kins_of s.requests) r t → Needs s r t
  need-kin s r t n =
      let q = at-kins s.requests n.caller n.kin n.at_caller in
      let c = at-kins s.requests n.child_id n.child n.at_child in
      let y = calling-so q.0.status n.ids (ap (λ (a : Kin). a.calls) q.2 ∙ n.calls_so) in
      let i : Some y.1.run ≡ Some r = sym (ap inside_of y.3)
      ∙ (ap (λ (a : Kin). a.inside) q.2 ∙ n.in_run) in
      needs-of s r t (record {
        caller = n.caller;
        req = q.0;
        keys = y.0;
        ids = n.ids;
        x = y.1;
        go = y.2;
        req_at = q.1;
        calls_so = y.3;
        is_run = some-is y.1.run r i;
        child_id = n.child_id;
        child = c.0;
        child_in = n.child_in;
        child_at = c.1;
        child_holds = elim n.holds [
          | inl h ↦ inside-holds c.0.status t (ap (λ (a : Kin). a.inside) c.2 ∙ h)
          | inr h ↦ waits-holds c.0.status t (ap (λ (a : Kin). a.waits) c.2 ∙ h)
        ];
      })

  needs-begun : (s : State P I A) → Lawful s → (r t : RunId) → Needs s r t →
      In t (begun_runs s.begun)
  needs-begun s l r t i =
      let n = need s r t i in
      let k = kins-at s.requests n.child_id n.child n.child_at in
      elim (holds-cases n.child.status t n.child_holds) [
        | inl h ↦ begun-named s.begun t (inside-open s l n.child_id (kin_of n.child) t k h).0.0
        | inr h ↦ begun-named s.begun t (waits-open s l n.child_id (kin_of n.child) t k h).0
      ]

  -- the test finds every circle
  pub circle-tested : (s : State P I A) → Lawful s → (r : RunId) → Path (Needs s) r r →
      is_in_cycle s r ≡ true
  circle-tested s l r p =
      subst (λ n. leads_to (λ a. needed s.requests a s.requests) n r r ≡ true)
      (length-map s.begun (λ (b : BegunRun). b.run))
      (circle-found (λ a. needed s.requests a s.requests) (begun_runs s.begun) (needs-begun s l) r
      p)

  wait-kindred : (s : State P I A) (id node : ℕ) (old : RequestState P I A)
      (site : P) (r : RunId) (b : Body I A) (go : Record → Journal → Walk P I A) →
      Lawful (waiting w s id old r b go) → Kindred s →
      at s.requests id ≡ Some (with_status old (assigned node (walking (wants site r b go)))) →
      is_in_cycle (waiting w s id old r b go) r ≡ false →
      Kindred (waiting w s id old r b go)
  wait-kindred s id node old site r b go l v e n =
      let q : RequestState P I A =
      with_status old (assigned node (walking (wants site r b go))) in
      let z : RequestState P I A = with_status old (waits r b go) in
      let t : State P I A = waiting w s id old r b go in
      let p = put-kins s.requests id q z e in
      record {
        family = tied-family
            (put-tied p
            (record
            { parent = refl; calls = refl; reply = refl; when_calling = λ ids a. absurd (cc) }))
            v.family;
        free = record {
          working = λ a h. put-working p a (λ i. absurd (cc)) (v.free.working a h);
          acyclic = λ a c.
              elim
              (round-through r
              (new-hold id (kin_of q) (kin_of z) r p refl
              (λ u h. elim h [ inl d ↦ absurd (cc) | inr d ↦ some-is r u d ])) c) [
                | inl d ↦ v.free.acyclic a d
                | inr d ↦ clash (is_in_cycle t r) (circle-tested t l r (path-mono (need-kin t) d)) n
              ];
        };
      }

  claimed-kindred : (s : State P I A) (id node : ℕ) (q : RequestState P I A)
      (site : P) (r : RunId) (b : Body I A) (go : Record → Journal → Walk P I A) (kind : ClaimKind)
      (t : State P I A) → Lawful s → Kindred s → Lawful t →
      at s.requests id ≡ Some (with_status q (assigned node (walking (wants site r b go)))) →
      claimed w s id node q r b go kind ≡ Some t → Kindred t
  claimed-kindred s id node q site r b go Go t l v lt e h =
      let x = unless-some (is_begun r s.begun)
      (record {
        requests = put s.requests id
            (in_body w (assigned node) q r go (run_on w.tools r b q.journal nothing_yet));
        begun = record
            { run = r; by = id } ∷ s.begun;
        table = s.table;
        tools_used = s.tools_used;
      }) t h in
      subst (λ (u : State P I A). Kindred u) x.1
      (begin-kindred s id node q site r b go l v e x.0)
  claimed-kindred s id node q site r b go Use t l v lt e h =
      let x = and_then-some (found s.table r)
      (λ made. and_then (replay s.table r q.journal)
      (λ next. Some (with_request s id (goes_on w (assigned node) q r go made next)))) t h
      in
      let y = and_then-some (replay s.table r q.journal)
      (λ next. Some (with_request s id (goes_on w (assigned node) q r go x.0 next))) t x.2
      in
      let z : RequestState P I A = goes_on w (assigned node) q r go x.0 y.0 in
      subst (λ (u : State P I A). Kindred u) (some-is (with_request s id z) t y.2)
      (same-kin s id (with_status q (assigned node (walking (wants site r b go)))) z v e refl)
  claimed-kindred s id node q site r b go Wait t l v lt e h =
      let next : State P I A = waiting w s id q r b go in
      let x = only_if-some (may_wait w (is_begun r s.begun) (found s.table r) (is_in_cycle next r))
      next t h in
      let y = may_wait-so w (is_begun r s.begun) (found s.table r) (is_in_cycle next r) x.0 in
      subst (λ (u : State P I A). Kindred u) x.1 (wait-kindred s id node q site r b go
      (subst (λ (u : State P I A). Lawful u) (sym x.1) lt) v e y.2)

  claim-kindred : (s : State P I A) (id : ℕ) (run : RunId) (kind : ClaimKind)
      (q : RequestState P I A) (st : Status P I A) (t : State P I A) → Lawful s →
      Kindred s → Lawful t →
      at s.requests id ≡ Some (with_status q st)
      → claim_at w s id run kind q st ≡ Some t → Kindred t
  claim-kindred s id run kind q (assigned node (walking (wants site r b go))) t l v lt e h =
      let x = and_then-some (only_if (same_run r run) r)
      (λ run. claimed w s id node q run b go kind) t h in
      let y : r ≡ x.0 = (only_if-some (same_run r run) r x.0 x.1).1 in
      claimed-kindred s id node q site r b go kind t l v lt e
      (subst (λ n. claimed w s id node q n b go kind ≡ Some t) (sym y) x.2)
  claim-kindred s id run kind q _ t l v lt e h = absurd (cc)

  -- calls
  children-calls : (s : State P I A) (id node : ℕ) (old : RequestState P I A)
      (key : RequestKey) (more : List RequestKey) (x : Within P I A) (go : List RequestResult →
      Journal → Body I A) →
      at s.requests id ≡ Some (with_status old (assigned node (within x (asks key more go)))) →
      Calls (kins_of s.requests)
      (kins_of (with_children w s id old (key ∷ more) x go).requests) id
      (kin_of (with_status old (assigned node (within x (asks key more go)))))
      (kin_of
      (with_status old
      (calling (key ∷ more) (numbered_from (length s.requests) (key ∷ more)) x go)))
      (numbered_from (length s.requests) (key ∷ more))
  children-calls s id node old key more x go e =
      let keys : List RequestKey = key ∷ more in
      let q : RequestState P I A =
      with_status old (assigned node (within x (asks key more go))) in
      let ids : List ℕ = numbered_from (length s.requests) keys in
      let z : RequestState P I A = with_status old (calling keys ids x go) in
      let kid = new_request w (Some id) (x.run ∷ old.origin.path) old.journal in
      let front : List (RequestState P I A) = put s.requests id z in
      let all : List (RequestState P I A) = front ++ map kid keys in
      record {
        was = kins-at s.requests id q e;
        idle = (refl, refl, refl);
        is = kins-at all id z
            (at-front front (map kid keys) id z (at-put_same s.requests id q z e));
        parent = refl;
        calls = refl;
        busy = (refl, refl, refl);
        in_run = (x.run, refl);
        olds = λ n k d h. let y = at-kins s.requests n k h in kins-at all n y.0
            (at-front front (map kid keys) n y.0 (at-put_other s.requests id z n y.0 d y.1))
            ∙ ap Some y.2;
        cases = λ n k h.
            let y = at-kins all n k h in
            elim (at-append front (map kid keys) n y.0 y.1) [
              | inl a ↦ elim (at-put s.requests id z n y.0 a) [
                | inl b ↦ inl b.0
                | inr b ↦ inr (inl (b.0, kins-at s.requests n y.0 b.1 ∙ ap Some y.2))
              ]
              | inr a ↦
                  let c = at-map kid keys a.0 y.0 a.1 in
                  inr
                  (inr
                  (subst (λ m. In m ids)
                  (sym (a.2 ∙ ap (λ m. m + a.0) (put-length s.requests id z)))
                  (numbered-in (length s.requests) keys a.0 c.0 c.1)))
            ];
        kids = λ n i.
            let y = in-numbered (length s.requests) keys n i in
            let place : at all n ≡ Some (kid y.1) = ap (at all)
            (y.2 ∙ ap (λ m. m + y.0) (sym (put-length s.requests id z)))
            ∙ (at-back front (map kid keys) y.0 ∙ map-at kid keys y.0 y.1 y.3) in (
              kin_of (kid y.1),
              kins-at all n (kid y.1) place,
              refl,
              refl,
              refl,
              refl,
              refl,
              above id
                  (length s.requests) y.0 n (at-less s.requests id q e) y.2,
            );
        first = (length s.requests, inl refl);
      }
    where
      above : (id m i n : ℕ) → id < m → n ≡ m + i → id < n
      above id m i n h e = omega arith

  children-kindred : (s : State P I A) (id node : ℕ) (old : RequestState P I A)
      (key : RequestKey) (more : List RequestKey) (x : Within P I A) (go : List RequestResult →
      Journal → Body I A) → Kindred s →
      at s.requests id ≡ Some (with_status old (assigned node (within x (asks key more go))))
      → Kindred (with_children w s id old (key ∷ more) x go)
  children-kindred s id node old key more x go v e =
      let q : Kin = kin_of (with_status old (assigned node (within x (asks key more go)))) in
      let ids : List ℕ = numbered_from (length s.requests) (key ∷ more) in
      let z : Kin = kin_of (with_status old (calling (key ∷ more) ids x go)) in
      let c = children-calls s id node old key more x go e in
      record {
        family = calls-family id q z ids c v.family;
        free = record {
          working = λ r h.
              let y = v.free.working r h in
              elim (same_or_not y.0 id) [
                | inl d ↦ (
                  id,
                  z,
                  c.is,
                  ap (λ (a : Kin). a.inside)
                      (sym
                      (same_some (kins_of s.requests y.0) y.1 q y.2
                      (subst (λ m. kins_of s.requests m ≡ Some q) (sym d) c.was))) ∙ y.3,
                )
                | inr d ↦ (y.0, y.1, c.olds y.0 y.1 d y.2, y.3)
              ];
          acyclic = λ r p. v.free.acyclic r (path-mono (calls-needs id q z ids c v.family) p);
        };
      }

  request-kindred : (s : State P I A) (id : ℕ) (keys : List RequestKey) (q : RequestState P I A)
      (st : Status P I A) (t : State P I A) → Kindred s →
      at s.requests id ≡ Some (with_status q st) → request_at w s id keys q st ≡ Some t
      → Kindred t
  request-kindred s id keys q (assigned node (within x (asks key more go))) t v e h =
      let y = only_if-some (same_keys (key ∷ more) keys
      && is_within_limits w s (x.run ∷ q.origin.path) (key ∷ more))
      (with_children w s id q (key ∷ more) x go) t h in
      subst (λ (u : State P I A). Kindred u) y.1
      (children-kindred s id node q key more x go v e)
  request-kindred s id keys q _ t v e h = absurd (cc)

  woken_if-less : (y : Bool) (table : Records) (q t : RequestState P I A) (m : Record) (r : RunId)
      (b : Body I A) (go : Record → Journal → Walk P I A) → q.status ≡ waits r b go →
      woken_if w y table q m r go ≡ Some t →
      Less (kin_of q) (kin_of t) × (inside_of q.status ≡ inside_of t.status)
  woken_if-less false table q t m r b go e h =
      subst (λ (u : RequestState P I A). Less (kin_of q) (kin_of u)
      × (inside_of q.status ≡ inside_of u.status)) (some-is q t h)
      (record { ties = refl-ties (kin_of q); inside = λ t a. a; waits_less = λ t a. a }, refl)
  woken_if-less true table q t m r b go e h =
      let y = and_then-some (replay table r q.journal)
      (λ next. Some (goes_on w ready q r go m next)) t h in
      let z : RequestState P I A = goes_on w ready q r go m y.0 in
      subst (λ (u : RequestState P I A). Less (kin_of q) (kin_of u)
      × (inside_of q.status ≡ inside_of u.status)) (some-is z t y.2) (
        record {
          ties = record {
            parent = refl;
            calls = ap ids_in (sym e);
            reply = ap told_in (sym e);
            when_calling =
                λ ids a. none_some (ids_in q.status) ids a (ap ids_in e);
          };
          inside = λ t a. absurd (cc);
          waits_less = λ t a. absurd (cc);
        },
        ap inside_of e,
      )

  woken_at-less : (table : Records) (r : RunId) (m : Record) (q t : RequestState P I A)
      (st : Status P I A) → q.status ≡ st → woken_at w table r m q st ≡ Some t →
      Less (kin_of q) (kin_of t) × (inside_of q.status ≡ inside_of t.status)
  woken_at-less table r m q t (waits s b go) e h =
      woken_if-less (same_run s r) table q t m s b go e h
  woken_at-less table r m q t _ e h =
      subst (λ (u : RequestState P I A). Less (kin_of q) (kin_of u)
      × (inside_of q.status ≡ inside_of u.status)) (some-is q t h)
      (record { ties = refl-ties (kin_of q); inside = λ t a. a; waits_less = λ t a. a }, refl)

  module _ (rs : List (RequestState P I A)) (id : ℕ) (q z : RequestState P I A) (table : Records)
      (r : RunId) (m : Record) (us : List (RequestState P I A)) (at_id : at rs id ≡ Some q)
      (less : Less (kin_of q) (kin_of z))
      (woke : traverse (woken w table r m) (put rs id z) ≡ Some us) where
    forward : (n : ℕ) (a : RequestState P I A) → at rs n ≡ Some a →
        (b : RequestState P I A) × (at us n ≡ Some b) × Less (kin_of a) (kin_of b)
        × ((n ≡ id) ⊎ (inside_of a.status ≡ inside_of b.status))
    forward n a h = elim (same_or_not n id) [
      | inl e ↦
          let y = traverse-at (woken w table r m) (put rs id z) us woke id z
          (at-put_same rs id q z at_id) in
          let aq : a ≡ q = same_some (at rs n) a q h (subst (λ k. at rs k ≡ Some q) (sym e) at_id)
          in (
            y.0,
            subst (λ k. at us k ≡ Some y.0) (sym e) y.1,
            subst (λ (k : RequestState P I A). Less (kin_of k) (kin_of y.0)) (sym aq)
                (less-trans (kin_of q) (kin_of z) (kin_of y.0) less
                (woken_at-less table r m z y.0 z.status refl y.2).0),
            inl e,
          )
      | inr e ↦
          let y = traverse-at (woken w table r m) (put rs id z) us woke n a
          (at-put_other rs id z n a e h) in
          let k = woken_at-less table r m a y.0 a.status refl y.2 in
          (y.0, y.1, k.0, inr k.1)
    ]

    back : (n : ℕ) (b : RequestState P I A) → at us n ≡ Some b →
        (a : RequestState P I A) × (at rs n ≡ Some a) × Less (kin_of a) (kin_of b)
    back n b h =
        let y = at-traverse (woken w table r m) (put rs id z) us woke n b h in
        let k = (woken_at-less table r m y.0 b y.0.status refl y.2).0 in
        elim (at-put rs id z n y.0 y.1) [
          | inl e ↦ (
            q,
            subst (λ k. at rs k ≡ Some q) (sym e.0) at_id,
            less-trans (kin_of q) (kin_of z) (kin_of b) less
                (subst (λ (u : RequestState P I A). Less (kin_of u) (kin_of b)) (sym e.1) k),
          )
          | inr e ↦ (y.0, e.1, k)
        ]

  finished-kindred : (s : State P I A) (id node : ℕ) (old : RequestState P I A)
      (x : Within P I A) (outcome : Outcome) (t : State P I A) → Kindred s →
      at s.requests id ≡ Some (with_status old (assigned node (within x (ends outcome))))
      → finished w s id node old x (recorded outcome x.so_far.segments) ≡ Some t
      → Kindred t
  finished-kindred s id node old x outcome t v e h =
      let m : Record = recorded outcome x.so_far.segments in
      let f : FinishedRun = record { run = x.run; made = m } in
      let q : RequestState P I A = with_status old (assigned node (within x (ends outcome))) in
      let z : RequestState P I A =
      goes_on w (assigned node) old x.run x.go m (add old.journal (ended x.run m)) in
      let u = and_then-some (traverse (woken w (f ∷ s.table) x.run m) (put s.requests id z))
      (λ requests.
      Some
      (record {
        requests = requests;
        begun = s.begun;
        table = f
            ∷ s.table;
        tools_used = record { run = x.run; tools = x.so_far.tools } ∷ s.tools_used;
      }))
      t h in
      let last : State P I A = record {
        requests = u.0;
        begun = s.begun;
        table = f ∷ s.table;
        tools_used = record { run = x.run; tools = x.so_far.tools } ∷ s.tools_used;
      } in
      let qz : Less (kin_of q) (kin_of z) = record {
        ties = record
            { parent = refl; calls = refl; reply = refl; when_calling = λ ids a. absurd (cc) };
        inside
            = λ t a. absurd (cc);
        waits_less = λ t a. absurd (cc);
      } in
      let fw = forward s.requests id q z (f ∷ s.table) x.run m u.0 e qz u.1 in
      let bk = back s.requests id q z (f ∷ s.table) x.run m u.0 e qz u.1 in
      subst (λ (u : State P I A). Kindred u) (some-is last t u.2) (record {
        family = tied-family (record {
          forward = λ n a at_n. let y = at-kins s.requests n a at_n in let g = fw n y.0 y.1
              in (
                kin_of g.0,
                kins-at u.0 n g.0 g.1,
                subst (λ k. SameTies k (kin_of g.0)) y.2
                    g.2.ties,
              );
          back = λ n b at_n. let y = at-kins u.0 n b at_n in let g = bk n y.0 y.1
              in (
                kin_of g.0,
                kins-at s.requests n g.0 g.1,
                subst (λ k. SameTies (kin_of g.0) k) y.2
                    g.2.ties,
              );
        }) v.family;
        free = record {
          working = λ r c.
              let y = v.free.working r (c.0, older s.table f r c.1) in
              let a = at-kins s.requests y.0 y.1 y.2 in
              let g = fw y.0 a.0 a.1 in
              let i : inside_of a.0.status ≡ Some r = ap (λ (k : Kin). k.inside) a.2 ∙ y.3 in (
                y.0,
                kin_of g.0,
                kins-at u.0 y.0 g.0 g.1,
                elim g.3 [
                  | inl d ↦
                      let aq : a.0 ≡ q = same_some (at s.requests y.0) a.0 q a.1
                      (subst (λ k. at s.requests k ≡ Some q) (sym d) e) in
                      absurd (newest s.table f r c.1
                      (some-is x.run r (sym (ap (λ (k : RequestState P I A). inside_of k.status) aq)
                      ∙ i)))
                  | inr d ↦ sym d ∙ i
                ],
              );
          acyclic = λ r p. v.free.acyclic r (path-mono (fewer-needs (λ n b at_n.
              let y = at-kins u.0 n b at_n in
              let g = bk n y.0 y.1 in (
                kin_of g.0,
                kins-at s.requests n g.0 g.1,
                (λ ids c.
                    let c2 : ids_in g.0.status ≡ Some ids = sym g.2.ties.calls
                    ∙ (ap (λ (k : Kin). k.calls) y.2 ∙ c) in
                    (c2, sym (ap (λ (k : Kin). k.inside) y.2) ∙ (g.2.ties.when_calling ids c2).0)),
                λ t c. elim c [
                  | inl d ↦ inl (g.2.inside t (ap (λ (k : Kin). k.inside) y.2 ∙ d))
                  | inr d ↦ inr (g.2.waits_less t (ap (λ (k : Kin). k.waits) y.2 ∙ d))
                ],
              ))) p);
        };
      })

  result-kindred : (s : State P I A) (id : ℕ) (run : RunId) (q : RequestState P I A)
      (st : Status P I A) (t : State P I A) → Kindred s →
      at s.requests id ≡ Some (with_status q st) → result_at w s id run q st ≡ Some t
      → Kindred t
  result-kindred s id run q (assigned node (within x (ends outcome))) t v e h =
      let y = and_then-some (only_if (same_run x.run run) x)
      (λ x. finished w s id node q x (recorded outcome x.so_far.segments)) t h in
      let p : x ≡ y.0 = (only_if-some (same_run x.run run) x y.0 y.1).1 in
      finished-kindred s id node q x outcome t v e
      (subst (λ (a : Within P I A). finished w s id node q a
      (recorded outcome a.so_far.segments) ≡ Some t) (sym p) y.2)
  result-kindred s id run q _ t v e h = absurd (cc)

  -- a request is over
  told-kins : (rs : List (RequestState P I A)) (id : ℕ) → and_then (at rs id)
      (λ q. result_in w q.status) ≡ told_at (kins_of rs) id
  told-kins rs id = go (at rs id)
    where
      same : (st : Status P I A) → result_in w st ≡ told_in st
      same (done result) = refl
      same _ = refl

      go : (o : Option (RequestState P I A)) → and_then o (λ q. result_in w q.status) ≡ and_then
          (and_then o (λ q. Some (kin_of q))) (λ k. k.reply)
      go None = refl
      go (Some q) = same q.status

  module _ (s : State P I A) (id node : ℕ) (old : RequestState P I A)
      (reply : Reply) (v : Kindred s) (e : at s.requests id ≡ Some (with_status old
      (assigned node (walking (gives reply))))) where
    abbrev before : RequestState P I A
    before = with_status old (assigned node (walking (gives reply)))

    abbrev over : RequestState P I A
    over = with_status old (done (result_of reply old.runs))

    abbrev then_state : State P I A
    then_state = with_request s id over

    over-put : PutAt (kins_of s.requests) (kins_of (put s.requests id over)) id (kin_of before)
        (kin_of over)
    over-put = put-kins s.requests id before over e

    over-free : Free (kins_of (put s.requests id over)) (Open s)
    over-free = record {
      working = λ r c. put-working over-put r (λ i. absurd (cc)) (v.free.working r c);
      acyclic = λ r c. v.free.acyclic r (path-mono (done-needs over-put refl refl refl) c);
    }

    over-family : ((a : ℕ) → old.origin.parent ≡ Some a
        → (q : Kin) × (ids : List ℕ) × (kins_of s.requests a ≡ Some q) × (q.calls ≡ Some ids)
        × ((m : ℕ) × In m ids × (told_at (kins_of (put s.requests id over)) m ≡ None))) →
        Family (kins_of (put s.requests id over))
    over-family f = done-family id (kin_of before) (kin_of over) over-put refl refl refl refl
        (result_of reply old.runs) refl v.family f

    -- its caller
    caller-was : (a : ℕ) (q : RequestState P I A) (ids : List ℕ) →
        at (put s.requests id over) a ≡ Some q → ids_in q.status ≡ Some ids →
        kins_of s.requests a ≡ Some (kin_of q)
    caller-was a q ids h c = elim
        (put-cases over-put a (kin_of q) (kins-at (put s.requests id over) a q h)) [
          | inl x ↦ none_some (ids_in q.status) ids c (ap (λ (k : Kin). k.calls) x.1)
          | inr x ↦ x.1
        ]

    answered-kindred : (a : ℕ) → old.origin.parent ≡ Some a →
        (caller : RequestState P I A) (keys : List RequestKey) (ids : List ℕ)
        (x : Within P I A) (go : List RequestResult → Journal → Body I A) (t : State P I A) →
        at (put s.requests id over) a ≡ Some (with_status caller (calling keys ids x go))
        → (found : Option (List RequestResult))
        → results_of w (put s.requests id over) ids ≡ found
        → answered w then_state a caller keys x go found ≡ Some t → Kindred t
    answered-kindred a pa caller keys ids x go t h None g k =
        let y = traverse-none
        (λ n. and_then (at (put s.requests id over) n) (λ q. result_in w q.status)) ids g in
        subst (λ (u : State P I A). Kindred u) (some-is then_state t k) (record {
          family = over-family (λ b i.
              let ab : a ≡ b = same_some old.origin.parent a b pa i in
              let c : RequestState P I A = with_status caller (calling keys ids x go) in (
                kin_of c,
                ids,
                subst (λ n. kins_of s.requests n ≡ Some (kin_of c)) ab
                    (caller-was a c ids h refl),
                refl,
                (y.0, y.1, sym (told-kins (put s.requests id over) y.0) ∙ y.2),
              ));
          free = over-free;
        })
    answered-kindred a pa caller keys ids x go t h (Some results) g k =
        let c : RequestState P I A = with_status caller (calling keys ids x go) in
        let y = and_then-some (replay_all s.table (runs_of results) caller.journal)
        (λ next.
        Some
        (with_request then_state a
        (in_body w ready caller x.run x.go
        (run_on w.tools x.run (go results next) next (with_calls x.so_far keys results))))) t k
        in
        let z : RequestState P I A = in_body w ready caller x.run x.go (run_on w.tools x.run
        (go results y.0) y.0 (with_calls x.so_far keys results)) in
        let p2 = put-kins (put s.requests id over) a c z h in
        subst (λ (u : State P I A). Kindred u) (some-is (with_request then_state a z) t y.2)
        (record {
          family = last-family id (kin_of before) (kin_of over) over-put refl refl refl refl
              (result_of reply old.runs) refl v.family
              (kins_of (put (put s.requests id over) a z)) a (kin_of c) (kin_of z) ids p2 pa refl
              refl refl refl
              (λ m i.
              let r = traverse-all
              (λ n. and_then (at (put s.requests id over) n) (λ q. result_in w q.status)) ids
              results g m i in (r.0, sym (told-kins (put s.requests id over) m) ∙ r.1));
          free = record {
            working = λ r d. put-working p2 r (λ i. i) (over-free.working r d);
            acyclic = λ r d. over-free.acyclic r
                (path-mono
                (put-fewer p2 (λ js b. absurd (cc))
                (λ t b. elim b [ inl d ↦ inl d | inr d ↦ absurd (cc) ])) d);
          };
        })

    back_at-kindred : (a : ℕ) → old.origin.parent ≡ Some a
        → (q : RequestState P I A) (st : Status P I A)
        (t : State P I A) → at (put s.requests id over) a ≡ Some q → q.status ≡ st →
        resume_at w then_state a q st ≡ Some t → Kindred t
    back_at-kindred a pa q (calling keys ids x go) t h p k =
        answered-kindred a pa q keys ids x go t
        (h ∙ ap (λ (b : Status P I A). Some (with_status q b)) p)
        (results_of w (put s.requests id over) ids) refl k
    back_at-kindred a pa q _ t h p k = absurd (cc)

    back_to-kindred : (u : Option ℕ) → old.origin.parent ≡ u → (t : State P I A) →
        resume_caller w then_state u ≡ Some t → Kindred t
    back_to-kindred None p t h =
        subst (λ (u : State P I A). Kindred u) (some-is then_state t h)
        (record
        { family = over-family (λ a i. none_some old.origin.parent a i p); free = over-free })
    back_to-kindred (Some a) p t h =
        let y = and_then-some (at (put s.requests id over) a)
        (λ q. resume_at w then_state a q q.status) t h in
        back_at-kindred a p y.0 y.0.status t y.1 refl y.2

  done-kindred : (s : State P I A) (id : ℕ) (q : RequestState P I A)
      (st : Status P I A) (t : State P I A) → Kindred s →
      at s.requests id ≡ Some (with_status q st) → done_at w s id q st ≡ Some t
      → Kindred t
  done-kindred s id q (assigned node (walking (gives reply))) t v e h = back_to-kindred s id
      node q reply v e q.origin.parent refl t h
  done-kindred s id q _ t v e h = absurd (cc)

  pub step_of-kindred : (s : State P I A) (event : Event) (q : RequestState P I A)
      (t : State P I A) → Lawful s → Kindred s → Lawful t → at s.requests (whose event) ≡ Some q →
      step_of w s event q ≡ Some t → Kindred t
  step_of-kindred s (Assign id node) q t l v lt e h = assign-kindred s id node q q.status t v e h
  step_of-kindred s (Claim id run kind) q t l v lt e h = claim-kindred s id run kind q q.status t l
      v lt e h
  step_of-kindred s (Request id keys) q t l v lt e h = request-kindred s id keys q q.status t v e h
  step_of-kindred s (Result id run) q t l v lt e h = result-kindred s id run q q.status t v e h
  step_of-kindred s (Done id) q t l v lt e h = done-kindred s id q q.status
      t v e h
  step_of-kindred s (Retire id node) q t l v lt e h = retire-kindred s id node q q.status t v e h

  pub start-kindred : Kindred (start w)
  start-kindred = record {
    family = record {
      up = λ id k h t p i. let q = first id k h in none_some k.parent p i
          (ap (λ (a : Kin). a.parent) (sym q));
      down = λ p k ids h c. let q = first p k h in none_some k.calls ids c
          (ap (λ (a : Kin). a.calls) (sym q));
      one_open = λ p k ids h c. let q = first p k h in none_some k.calls ids c
          (ap (λ (a : Kin). a.calls) (sym q));
      busy = λ p k ids h c. let q = first p k h in none_some k.calls ids c
          (ap (λ (a : Kin). a.calls) (sym q));
    };
    free = record {
      working = λ r o. absurd (let e : false ≡ true = o.0 in cc);
      acyclic = λ r p.
          let n = (path-first p).1 in
          none_some n.kin.calls n.ids n.calls_so
          (ap (λ (a : Kin). a.calls) (sym (first n.caller n.kin n.at_caller)));
    };
  }
    where
      root_kin : Kin
      root_kin = record { parent = None; calls = None; reply = None; inside = None; waits = None }

      first : (id : ℕ) (k : Kin) → kins_of (new_request w None [] [] w.root ∷ []) id ≡ Some k
          → record { parent = None; calls = None; reply = None; inside = None; waits = None } ≡ k
      first zero k h = some-is
          (record { parent = None; calls = None; reply = None; inside = None; waits = None }) k h
      first (suc id) k h = absurd (cc)

  pub all-kindred : (events : List Event) (s t : State P I A) → Lawful s → Kindred s →
      after_all w s events ≡ Some t → Kindred t
  all-kindred [] s t l v h = subst (λ (u : State P I A). Kindred u) (some-is s t h) v
  all-kindred (event ∷ events) s t l v h =
      let y = and_then-some (step w s event) (λ next. after_all w next events) t h in
      let z = and_then-some (at s.requests (whose event)) (step_of w s event) y.0 y.1 in
      let lt = step-lawful w s event y.0 l y.1 in
      all-kindred events y.0 t lt (step_of-kindred s event z.0 y.0 l v lt z.1 z.2) y.2
