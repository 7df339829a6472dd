-- In a history of a steady world no run needs itself.
use Rattle.std.proofs.Common.{
  ◌≡◌,
  ℕ,
  zero,
  suc,
  Bool,
  true,
  false,
  ◌||◌,
  ◌⊎◌,
  inl,
  inr,
  List,
  [],
  ◌∷◌,
  ◌++◌,
  length,
  map,
  Option,
  None,
  Some,
  refl,
  ap,
  sym,
  ◌∙◌,
  subst,
}
use Rattle.result_cache.specs.declared.run.RunId.{RunId}
use Rattle.result_cache.specs.declared.request.RequestKey.{RequestKey}
use Rattle.result_cache.specs.declared.request.RequestResult.{RequestResult}
use Rattle.result_cache.specs.declared.record.Record.{Record}
use Rattle.result_cache.specs.Same.{same_run}
use Rattle.result_cache.specs.Lists.{In}
use Rattle.build_meaning.specs.Lists.{at}
use Rattle.result_cache.specs.Journal.{Journal, end_of, ended, has, add}
use Rattle.result_cache.specs.Replay.{replays_run, effects_from, effects_of, HasAll}
use Rattle.result_cache.specs.Table.{Records}
use Rattle.build_meaning.specs.World.{World}
use Rattle.build_meaning.specs.Walk.{Body}
use Rattle.build_meaning.specs.SoFar.{ToolUse, with_calls, runs_of}
use Rattle.build_meaning.specs.Meaning.{Demanded}
use Rattle.build_meaning.specs.State.{
  Within,
  Place,
  walking,
  within,
  Status,
  ready,
  assigned,
  waits,
  calling,
  done,
  RequestState,
  State,
}
use Rattle.build_meaning.specs.Cycle.{
  if_same,
  any_leads,
  held,
  holds,
  held_at,
  held_by,
  needed_at,
  needed,
  Needs,
  leads_to,
  is_in_cycle,
}
use Rattle.result_cache.proofs.RunTests.{clash, tells, or_cases, same_run-true, same_run-eq}
use Rattle.result_cache.proofs.JournalEntries.{Has, has-added}
use Rattle.result_cache.proofs.ReplayRelation.{
  Rep,
  new,
  Reps,
  reps-map,
  reps-keep,
  reps-closed,
  Closed,
  Recorded,
}
use Rattle.build_meaning.specs.Derived.{OfBody, OfCalls, Made}
use Rattle.build_meaning.proofs.BuildingReplays.{
  agree_body,
  agree_calls,
  reps-calls,
  items-calls,
  calls-length,
}
use Rattle.build_meaning.proofs.MeaningDerived.{in-left, in-right}
use Rattle.build_meaning.proofs.ListPlaces.{at-in}
use Rattle.build_meaning.proofs.PairedLists.{Paired-at, Paired-some}
use Rattle.build_meaning.proofs.LawfulStates.{
  ClosedBy,
  IsFinished,
  LawfulBody,
  LawfulStatus,
  LawfulRequest,
}
use Rattle.build_meaning.proofs.EventsKeepLawful.{ended-finished}
use Rattle.build_meaning.proofs.RunPaths.{Path, last_one, step_on}
use Rattle.build_meaning.proofs.ReplayCircles.{
  Reach,
  one_step,
  more_steps,
  rep-circle,
  in-map,
  in-runs_of,
  walk-lists,
  walk-wants,
  body-lists,
}
use Rattle.build_meaning.specs.Stands.{Goal, Match, PlaceAt, StandsAt, Stands}
use Rattle.build_meaning.proofs.RequestsStand.{Standing}

pub in-append : {X : Type 0} (a : X) (xs ys : List X) → In a (xs ++ ys) → In a xs ⊎ In a ys
in-append a [] ys i = inr i
in-append a (x ∷ xs) ys (inl p) = inl (inl p)
in-append a (x ∷ xs) ys (inr i) = elim (in-append a xs ys i) [ inl p ↦ inl (inr p) | inr p ↦ inr p ]

in-at : {X : Type 0} (a : X) (xs : List X) → In a xs → (i : ℕ) × (at xs i ≡ Some a)
in-at a [] i = absurd i
in-at a (x ∷ xs) (inl p) = (0, ap Some p)
in-at a (x ∷ xs) (inr i) = let y = in-at a xs i in (suc y.0, y.1)

module _ {P I A : Type 0} where
  -- a need comes of a request that calls, and of a child of its calls
  pub record Need (s : State P I A) (r t : RunId) : Type 0 where
    pub caller : ℕ
    pub req : RequestState P I A
    pub keys : List RequestKey
    pub ids : List ℕ
    pub x : Within P I A
    pub go : List RequestResult → Journal → Body I A
    pub req_at : at s.requests caller ≡ Some req
    pub calls_so : req.status ≡ calling keys ids x go
    pub is_run : x.run ≡ r
    pub child_id : ℕ
    pub child : RequestState P I A
    pub child_in : In child_id ids
    pub child_at : at s.requests child_id ≡ Some child
    pub child_holds : In t (holds child.status)

  held_by-child : (all : List (RequestState P I A)) (ids : List ℕ) (t : RunId) →
      In t (held_by all ids) → (id : ℕ) × (c : RequestState P I A) × In id ids
      × (at all id ≡ Some c) × In t (holds c.status)
  held_by-child all [] t i = absurd i
  held_by-child all (id ∷ ids) t i = elim (in-append t (held_at (at all id)) (held_by all ids) i) [
    | inl p ↦ first (at all id) refl p
    | inr p ↦ let y = held_by-child all ids t p in (y.0, y.1, inr y.2, y.3, y.4)
  ]
    where
      first : (o : Option (RequestState P I A)) → at all id ≡ o → In t (held_at o) →
          (n : ℕ) × (c : RequestState P I A) × In n (id ∷ ids) × (at all n ≡ Some c) × In t
          (holds c.status)
      first None e p = absurd p
      first (Some c) e p = (id, c, inl refl, e, p)

  needed-request : (all requests : List (RequestState P I A)) (r t : RunId) →
      In t (needed all r requests) → (q : RequestState P I A) × In q requests × In t
      (needed_at all r q.status)
  needed-request all [] r t i = absurd i
  needed-request all (q ∷ requests) r t i = elim
      (in-append t (needed_at all r q.status) (needed all r requests) i) [
        | inl p ↦ (q, inl refl, p)
        | inr p ↦ let y = needed-request all requests r t p in (y.0, inr y.1, y.2)
      ]

  need-of : (s : State P I A) (r t : RunId) (k : ℕ) (q : RequestState P I A) →
      at s.requests k ≡ Some q → (st : Status P I A) → q.status ≡ st →
      In t (needed_at s.requests r st) → Need s r t
  need-of s r t k q e (calling keys ids x go) p i = f (same_run x.run r) refl i
    where
      f : (b : Bool) → same_run x.run r ≡ b → In t (if_same b (held_by s.requests ids)) → Need s r t
      f false h i = absurd i
      f true h i = let y = held_by-child s.requests ids t i in record {
        caller = k;
        req = q;
        keys = keys;
        ids = ids;
        x = x;
        go = go;
        req_at = e;
        calls_so = p;
        is_run = same_run-true x.run r h;
        child_id = y.0;
        child = y.1;
        child_in = y.2;
        child_at = y.3;
        child_holds = y.4;
      }
  need-of s r t k q e _ p i = absurd i

  pub need : (s : State P I A) (r t : RunId) → Needs s r t → Need s r t
  need s r t i =
      let y = needed-request s.requests s.requests r t i in
      let z = in-at y.0 s.requests y.1 in
      need-of s r t z.0 y.0 z.1 y.0.status refl y.2

  any-path : (s : State P I A) (leads : RunId → Bool) (r last : RunId) →
      ((t : RunId) → leads t ≡ true → Path (Needs s) t last) → (runs : List RunId) →
      ((t : RunId) → In t runs → Needs s r t) → any_leads leads last runs ≡ true →
      Path (Needs s) r last
  any-path s leads r last f [] g h = absurd (cc)
  any-path s leads r last f (t ∷ runs) g h = elim
      (or_cases (same_run t last) (leads t || any_leads leads last runs) h) [
        | inl p ↦ last_one (subst (λ n. Needs s r n) (same_run-true t last p) (g t (inl refl)))
        | inr p ↦ elim (or_cases (leads t) (any_leads leads last runs) p) [
          | inl q ↦ step_on (g t (inl refl)) (f t q)
          | inr q ↦ any-path s leads r last f runs (λ t i. g t (inr i)) q
        ]
      ]

  -- the test finds only what is there
  pub leads-path : (s : State P I A) (n : ℕ) (last r : RunId) →
      leads_to (λ a. needed s.requests a s.requests) n last r ≡ true → Path (Needs s) r last
  leads-path s zero last r h = absurd (cc)
  leads-path s (suc n) last r h = any-path s (leads_to (λ a. needed s.requests a s.requests) n last)
      r last (λ t. leads-path s n last t) (needed s.requests r s.requests) (λ t i. i) h

module _ {P I A : Type 0} (w : World P I A) (D : Demanded P I → Type 0)
    (one : (r : RunId) (m n : Record) → Made D r m → Made D r n → m ≡ n) where
  match-in : (goals : List Goal) (ids : List ℕ) (results : List RequestResult) (id : ℕ)
      → Match goals ids results → In id ids → (g : Goal) × (at goals id ≡ Some g) × In g.res results
  match-in goals [] [] id m i = absurd i
  match-in goals (x ∷ ids) (res ∷ results) id m (inl p) =
      (m.0.0, subst (λ n. at goals n ≡ Some m.0.0) p m.0.1, inl (sym m.0.2))
  match-in goals (x ∷ ids) (res ∷ results) id m (inr p) = let y = match-in goals ids results id m.1
      p in (y.0, y.1, inr y.2)
  match-in goals [] (res ∷ results) id m i = absurd m
  match-in goals (x ∷ ids) [] id m i = absurd m

  place-holds : (path : List RunId) (j : Journal) (runs : List RunId) (p : Place P I A) (g : Goal)
      (t : RunId) → PlaceAt w D path j runs p g → In t (held p) → In t g.res.runs
  place-holds path j runs (walking x) g t v i = absurd i
  place-holds path j runs (within x stop) g t (m, tools, k, v) (inl e) = subst
      (λ n. In n g.res.runs) e
      (walk-lists v.next x.run (in-right x.run runs (x.run ∷ []) (inl refl)))
  place-holds path j runs (within x stop) g t v (inr i) = absurd i

  -- what a request holds is among the runs of its result
  stands-holds : (goals : List Goal) (path : List RunId) (j : Journal) (runs : List RunId)
      (st : Status P I A) (g : Goal) (t : RunId) → StandsAt w D goals path j runs st g →
      In t (holds st) → In t g.res.runs
  stands-holds goals path j runs (ready p) g t v i = place-holds path j runs p g t v i
  stands-holds goals path j runs (assigned node p) g t v i = place-holds path j runs p g t v i
  stands-holds goals path j runs (waits r b go) g t v (inl e) =
      subst (λ n. In n g.res.runs) e (walk-wants v.1)
  stands-holds goals path j runs (waits r b go) g t v (inr i) = absurd i
  stands-holds goals path j runs (calling keys ids x go) g t (results, k, v) (inl e) = subst
      (λ n. In n g.res.runs) e
      (walk-lists v.then_in.3.next x.run (in-right x.run runs (x.run ∷ []) (inl refl)))
  stands-holds goals path j runs (calling keys ids x go) g t v (inr i) = absurd i
  stands-holds goals path j runs (done res) g t v i = absurd i

  -- a lawful beginning is closed by the records of the meaning
  from-closed : (table : Records) → ((r : RunId) (m : Record) → Recorded table r m → Made D r m)
      → (j : Journal) → ClosedBy table j → ((r : RunId) → Has (end_of r) j → IsFinished table r)
      → Closed (Made D) one j
  from-closed table known j c f = record {
    has_items = λ r h m p.
        let x = f r h in
        subst (λ y. HasAll (effects_of r y) j) (one r x.0 m (known r x.0 x.1) p)
        (c.has_items r h x.0 x.1);
  }

  -- a need is a call of a record, and a run that needs another is on no circle
  needs_calls : (s : State P I A) (goals : List Goal) (r t : RunId) → Standing w D one s goals →
      Needs s r t → (m : Record) × Made D r m × In (replays_run t) (effects_of r m)
      × (Reach (Made D) r r → ⊥)
  needs_calls s goals r t v i =
      let n = need s r t i in
      let here = Paired-some (Stands w D goals) s.requests goals n.caller n.req v.each n.req_at in
      let c = subst (λ st. StandsAt w D goals n.req.origin.path n.req.journal n.req.runs st here.0)
      n.calls_so here.1.stands in
      let results : List RequestResult = c.0 in
      let k = c.2 in
      let found = match-in goals n.ids results n.child_id k.matched n.child_in in
      let kid : Stands w D goals n.child found.0 = Paired-at (Stands w D goals) s.requests goals
      n.child_id n.child found.0 v.each n.child_at found.1 in
      let among : In t found.0.res.runs = stands-holds goals n.child.origin.path n.child.journal
      n.child.runs n.child.status found.0 t kid.stands n.child_holds in
      let m : Record = k.then_in.0 in
      let listed : In (replays_run t) (effects_of n.x.run m) =
      body-lists k.then_in.3.body (replays_run t)
      (subst (λ xs. In (replays_run t) xs)
      (sym (items-calls n.x.run n.x.so_far n.keys results (calls-length k.asked)))
      (in-right (replays_run t) (effects_from n.x.run 0 n.x.so_far.segments)
      (map replays_run (runs_of results))
      (in-map replays_run t (runs_of results)
      (in-runs_of t found.0.res results found.2 among)))) in
      let lq = v.lawful.each n.caller n.req n.req_at in
      let ls = body n lq in
      let there = k.then_in.3.known in
      let known : Made D n.x.run m = (there.0, there.1, (k.then_in.1, there.2)) in
      let fc : Closed (Made D) one ls.0 = from-closed s.table v.known ls.0 ls.1.from_closed
      (λ q h. ended-finished s.table n.req.journal n.req.runs lq.journal q
      (reps-keep (Recorded s.table) ls.1.so_far (end_of q) h)) in
      let d = whole n ls.0 k.then_in.0 k.then_in.1 k.then_in.2 fc
      (reps-map (Recorded s.table) (Made D) v.known ls.1.so_far) k.asked k.then_in.3.body in
      let e : Rep (Made D) (replays_run n.x.run) ls.0 (add k.then_in.2 (ended n.x.run m)) = new
      ls.1.fresh known d in
      let free : Reach (Made D) n.x.run n.x.run
      → ⊥ = λ x. clash (has (end_of n.x.run) ls.0)
      (rep-circle (Made D) one e fc n.x.run x (has-added k.then_in.2 (ended n.x.run m)))
      ls.1.fresh in (
        m,
        subst (λ y. Made D y m) n.is_run known,
        subst (λ y. In (replays_run t) (effects_of y m))
            n.is_run listed,
        subst (λ y. Reach (Made D) y y → ⊥) n.is_run free,
      )
    where
      body : (n : Need s r t) → LawfulRequest s.begun s.table n.caller n.req
          → (from : Journal) × LawfulBody s.begun s.table n.caller n.req.journal n.x from
      body n q =
          (subst (λ st. LawfulStatus s.begun s.table n.caller n.req.journal st) n.calls_so
          q.status).0

      whole : (n : Need s r t) (from : Journal) {results : List RequestResult} {i : Journal}
          (m : Record) (tools : List (ToolUse I)) (k : Journal) → Closed (Made D) one from
          → Reps (Made D) (effects_from n.x.run 0 n.x.so_far.segments) from n.req.journal →
          OfCalls w D (n.x.run ∷ n.req.origin.path) n.req.journal n.req.journal n.keys results i
          → OfBody w D (n.x.run ∷ n.req.origin.path) n.x.run i
          (with_calls n.x.so_far n.keys results) (n.go results i) m tools k →
          Reps (Made D) (effects_of n.x.run m) from k
      whole n from {results} {i} m tools k c d asked b =
          let cj = (reps-closed (Made D) one d c).1 in
          agree_body w D one b from c
          (reps-calls n.x.run n.x.so_far n.keys results (calls-length asked) d
          (agree_calls w D one asked (λ s h. h) cj cj))

  path_reaches : (s : State P I A) (goals : List Goal) → Standing w D one s goals → {r t : RunId} →
      Path (Needs s) r t → Reach (Made D) r t
  path_reaches s goals v (last_one {r = r} {t = t} n) = let y = needs_calls s goals r t v n
      in one_step y.1 y.2
  path_reaches s goals v (step_on {r = r} {t = t} n p) = let y = needs_calls s goals r t v n
      in more_steps y.1 y.2 (path_reaches s goals v p)

  pub no_circle : (s : State P I A) (goals : List Goal) → Standing w D one s goals → {r : RunId} →
      Path (Needs s) r r → ⊥
  no_circle s goals v (last_one {r = r} {t = t} n) = let y = needs_calls s goals r t v n in y.3
      (path_reaches s goals v (last_one n))
  no_circle s goals v (step_on {r = r} {t = t} n p) = let y = needs_calls s goals r t v n in y.3
      (path_reaches s goals v (step_on n p))

  pub no_cycle : (s : State P I A) (goals : List Goal) (r : RunId) → Standing w D one s goals →
      is_in_cycle s r ≡ false
  no_cycle s goals r v = elim (tells (is_in_cycle s r)) [
    | inl h ↦ absurd (no_circle s goals v (leads-path s (length s.begun) r r h))
    | inr h ↦ h
  ]

-- a request that calls in a run, and a child of its calls that holds another, make a need
module _ {P I A : Type 0} where
  in-held_by : (all : List (RequestState P I A)) (ids : List ℕ) (id : ℕ) (c : RequestState P I A)
      (t : RunId) → In id ids → at all id ≡ Some c → In t (holds c.status) → In t (held_by all ids)
  in-held_by all [] id c t i e h = absurd i
  in-held_by all (x ∷ ids) id c t (inl p) e h = in-left t (held_at (at all x)) (held_by all ids)
      (subst (λ o. In t (held_at o)) (sym (ap (at all) p ∙ e)) h)
  in-held_by all (x ∷ ids) id c t (inr i) e h = in-right t (held_at (at all x)) (held_by all ids)
      (in-held_by all ids id c t i e h)

  in-needed : (all requests : List (RequestState P I A)) (r t : RunId) (q : RequestState P I A) →
      In q requests → In t (needed_at all r q.status) → In t (needed all r requests)
  in-needed all [] r t q i h = absurd i
  in-needed all (x ∷ requests) r t q (inl p) h =
      in-left t (needed_at all r x.status) (needed all r requests)
      (subst (λ (y : RequestState P I A). In t (needed_at all r y.status)) (sym p) h)
  in-needed all (x ∷ requests) r t q (inr i) h = in-right t (needed_at all r x.status)
      (needed all r requests) (in-needed all requests r t q i h)

  pub needs-of : (s : State P I A) (r t : RunId) → Need s r t → Needs s r t
  needs-of s r t n = in-needed s.requests s.requests r t n.req
      (at-in s.requests n.caller n.req n.req_at)
      (subst (λ st. In t (needed_at s.requests r st)) (sym n.calls_so)
      (subst (λ b. In t (if_same b (held_by s.requests n.ids)))
      (sym (same_run-eq n.x.run r n.is_run))
      (in-held_by s.requests n.ids n.child_id n.child t n.child_in n.child_at n.child_holds)))
