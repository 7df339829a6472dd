-- What the uses of a history have to do with the bodies that its requests are in.
use Rattle.std.proofs.Common.{
  ◌≡◌,
  inl,
  inr,
  ℕ,
  zero,
  suc,
  Bool,
  true,
  false,
  List,
  [],
  ◌∷◌,
  ◌++◌,
  length,
  drop,
  Option,
  None,
  Some,
  refl,
  ap,
  sym,
  ◌∙◌,
  subst,
  append-nil,
}
use Rattle.std.proofs.Math.Seq.{drop-append_seam}
use Rattle.result_cache.specs.declared.run.RunId.{RunId}
use Rattle.result_cache.specs.Same.{same_run}
use Rattle.result_cache.specs.Lists.{In}
use Rattle.result_cache.specs.Table.{found, is_begun}
use Rattle.result_cache.proofs.RunTests.{clash, same_run-refl, same_run-true, and_then-some}
use Rattle.build_meaning.specs.declared.event.Event.{Event}
use Rattle.build_meaning.specs.Lists.{at}
use Rattle.build_meaning.specs.World.{World}
use Rattle.build_meaning.specs.SoFar.{ToolUse}
use Rattle.build_meaning.specs.State.{
  walking,
  within,
  Status,
  ready,
  assigned,
  waits,
  calling,
  done,
  RequestState,
  ToolsUsed,
  State,
  start,
}
use Rattle.build_meaning.specs.Step.{whose, step, after_all}
use Rattle.build_meaning.specs.History.{IsHistory}
use Rattle.build_meaning.proofs.LawfulStates.{beginner, Lawful}
use Rattle.build_meaning.proofs.EventsKeepLawful.{some-is, step-lawful, start-lawful}
use Rattle.build_meaning.proofs.ConsistentTables.{after-more}
use Rattle.build_meaning.proofs.ParentsAndChildren.{same_some, none_some, same_or_not}
use Rattle.build_meaning.proofs.OpenRequests.{inside_of, kins-at, inside-open, kin_of}
use Rattle.build_meaning.proofs.OrderlyHistories.{
  all-change,
  tooled_runs,
  finished_runs,
  named-finished,
}
use Rattle.build_meaning.proofs.ReplayCircles.{in-map}
use Rattle.build_history.specs.Uses.{
  RunUse,
  with_if,
  uses_of,
  by_run,
  body_at,
  body_of,
  new_uses,
  and_on,
  uses_from,
  uses_in,
}
use Rattle.build_history.proofs.BodiesMove.{
  IsReady,
  Other,
  Own,
  rests,
  goes,
  begins,
  finishes,
  Moved,
  step-moved,
}

module _ {I : Type 0} where
  with_if-append : (b : Bool) (x : ToolUse I) (xs ys : List (ToolUse I))
      → with_if b x (xs ++ ys) ≡ with_if b x xs ++ ys
  with_if-append true x xs ys = refl
  with_if-append false x xs ys = refl

  pub uses_of-append : (r : RunId) (us vs : List (RunUse I))
      → uses_of r (us ++ vs) ≡ uses_of r us ++ uses_of r vs
  uses_of-append r [] vs = refl
  uses_of-append r (u ∷ us) vs = ap (with_if (same_run u.run r) u.tool) (uses_of-append r us vs)
      ∙ with_if-append (same_run u.run r) u.tool (uses_of r us) (uses_of r vs)

  pub uses_of-own : (r : RunId) (tools : List (ToolUse I)) → uses_of r (by_run r tools) ≡ tools
  uses_of-own r [] = refl
  uses_of-own r (x ∷ tools) = ap (λ b. with_if b x (uses_of r (by_run r tools))) (same_run-refl r)
      ∙ ap (λ xs. x ∷ xs) (uses_of-own r tools)

  uses_of-other : (r other : RunId) → (r ≡ other → ⊥) → (tools : List (ToolUse I))
      → uses_of other (by_run r tools) ≡ []
  uses_of-other r other d [] = refl
  uses_of-other r other d (x ∷ tools) = go (same_run r other) refl (uses_of-other r other d tools)
    where
      go : (b : Bool) → same_run r other ≡ b → uses_of other (by_run r tools) ≡ []
          → with_if b x (uses_of other (by_run r tools)) ≡ []
      go true e ih = absurd (d (same_run-true r other e))
      go false e ih = ih

  -- a use is among those of its run
  pub uses_of-none : (uses : List (RunUse I)) (u : RunUse I) → In u uses → uses_of u.run uses ≡ []
      → ⊥
  uses_of-none [] u i e = i
  uses_of-none (v ∷ uses) u (inl p) e =
      let same : same_run v.run u.run ≡ true = ap (λ (x : RunUse I). same_run v.run x.run) (sym p)
      ∙ same_run-refl v.run in
      let q : v.tool ∷ uses_of u.run uses ≡ [] = sym
      (ap (λ b. with_if b v.tool (uses_of u.run uses)) same) ∙ e in cc
  uses_of-none (v ∷ uses) u (inr i) e = go (same_run v.run u.run) e (uses_of-none uses u i)
    where
      go : (b : Bool) → with_if b v.tool (uses_of u.run uses) ≡ [] → (uses_of u.run uses ≡ [] → ⊥)
          → ⊥
      go true e ih = cc
      go false e ih = ih e

  -- what is new of a body whose uses are there but for the last ones
  pub new-rest : (uses : List (RunUse I)) (x : ToolsUsed I) (rest : List (ToolUse I))
      → x.tools ≡ uses_of x.run uses ++ rest → new_uses uses (Some x) ≡ by_run x.run rest
  new-rest uses x rest e = ap (by_run x.run) (ap (drop (length (uses_of x.run uses))) e
      ∙ drop-append_seam (uses_of x.run uses) rest)

module _ {P I A : Type 0} where
  inside_body : (st : Status P I A) (x : ToolsUsed I) → body_at st ≡ Some x →
      inside_of st ≡ Some x.run
  inside_body (ready (walking y)) x e = absurd (cc)
  inside_body (ready (within y stop)) x e = ap (λ (o : ToolsUsed I). Some o.run)
      (some-is (record { run = y.run; tools = y.so_far.tools }) x e)
  inside_body (assigned node (walking y)) x e = absurd (cc)
  inside_body (assigned node (within y stop)) x e = ap (λ (o : ToolsUsed I). Some o.run)
      (some-is (record { run = y.run; tools = y.so_far.tools }) x e)
  inside_body (waits r b go) x e = absurd (cc)
  inside_body (calling keys ids y go) x e = ap (λ (o : ToolsUsed I). Some o.run)
      (some-is (record { run = y.run; tools = y.so_far.tools }) x e)
  inside_body (done result) x e = absurd (cc)

  -- the run of a body is that request's alone, and not finished
  pub body-mine : (s : State P I A) → Lawful s →
      (n : ℕ) (q : RequestState P I A) (x : ToolsUsed I) → at s.requests n ≡ Some q →
      body_at q.status ≡ Some x →
      (is_begun x.run s.begun ≡ true) × (found s.table x.run ≡ None)
      × (beginner s.begun x.run ≡ Some n)
  body-mine s l n q x e h =
      let y = inside-open s l n (kin_of q) x.run (kins-at s.requests n q e)
      (inside_body q.status x h) in
      (y.0.0, y.0.1, y.1)

  -- the uses have what each body has used, but where its request has not gone on yet, and what the
  -- body of each finished run has used
  pub record Told (s : State P I A) (uses : List (RunUse I)) : Type 0 where
    pub behind : (n : ℕ) (q : RequestState P I A) (x : ToolsUsed I) → at s.requests n ≡ Some q →
        body_at q.status ≡ Some x →
        (rest : List (ToolUse I)) × (x.tools ≡ uses_of x.run uses ++ rest)
    pub caught : (n : ℕ) (q : RequestState P I A) (x : ToolsUsed I) → at s.requests n ≡ Some q →
        body_at q.status ≡ Some x → (IsReady q.status → ⊥) → uses_of x.run uses ≡ x.tools
    pub unbegun : (r : RunId) → is_begun r s.begun ≡ false → uses_of r uses ≡ []
    pub finished : (t : ToolsUsed I) → In t s.tools_used → uses_of t.run uses ≡ t.tools

  -- what the event of a request adds
  abbrev pub added : List (RunUse I) → RequestState P I A → List (RunUse I)
  added uses b = uses ++ new_uses uses (body_at b.status)

  module _ (s t : State P I A) (event : Event) (uses : List (RunUse I)) (ls : Lawful s)
      (lt : Lawful t) (m : Moved s t event) (told : Told s uses) where
    nothing-new : body_at m.mine.status ≡ None → added uses m.mine ≡ uses
    nothing-new e = ap (λ o. uses ++ new_uses uses o) e ∙ append-nil uses

    -- the uses of other runs stay
    kept-by : (o : Option (ToolsUsed I)) → body_at m.mine.status ≡ o → (r : RunId)
        → ((x : ToolsUsed I) → body_at m.mine.status ≡ Some x → x.run ≡ r → ⊥)
        → uses_of r (uses ++ new_uses uses o) ≡ uses_of r uses
    kept-by None e r d = ap (uses_of r) (append-nil uses)
    kept-by (Some x) e r d =
        uses_of-append r uses (new_uses uses (Some x))
        ∙ (ap (λ xs. uses_of r uses ++ xs)
        (uses_of-other x.run r (d x e) (drop (length (uses_of x.run uses)) x.tools))
        ∙ append-nil (uses_of r uses))

    pub kept : (r : RunId) → ((x : ToolsUsed I) → body_at m.mine.status ≡ Some x → x.run ≡ r → ⊥)
        → uses_of r (added uses m.mine) ≡ uses_of r uses
    kept r d = kept-by (body_at m.mine.status) refl r d

    own-rest : (o : Own s t event m.mine) → (x : ToolsUsed I) → body_at m.mine.status ≡ Some x
        → (rest : List (ToolUse I)) × (x.tools ≡ uses_of x.run uses ++ rest)
    own-rest (rests e f) x h = none_some (body_at m.mine.status) x h e
    own-rest (goes q e f g) x h = told.behind (whose event) q x e (sym f ∙ h)
    own-rest (begins q y a w n e f g) x h =
        let p : y ≡ x = same_some (body_at m.mine.status) y x e h in
        let none : uses_of x.run uses ≡ [] = told.unbegun x.run
        (subst (λ (z : ToolsUsed I). is_begun z.run s.begun ≡ false) p f) in
        (x.tools, ap (λ xs. xs ++ x.tools) (sym none))
    own-rest (finishes q y e u f g i) x h = none_some (body_at m.mine.status) x h g

    -- those of the event's request are there
    pub own-told : (x : ToolsUsed I) → body_at m.mine.status ≡ Some x
        → uses_of x.run (added uses m.mine) ≡ x.tools
    own-told x h =
        let y = own-rest m.own x h in
        ap (λ o. uses_of x.run (uses ++ new_uses uses o)) h
        ∙ (ap (λ us. uses_of x.run (uses ++ us)) (new-rest uses x y.0 y.1)
        ∙ (uses_of-append x.run uses (by_run x.run y.0)
        ∙ (ap (λ xs. uses_of x.run uses ++ xs) (uses_of-own x.run y.0) ∙ sym y.1)))

    -- another request is in the body of another run
    apart : (n : ℕ) (q : RequestState P I A) (y : ToolsUsed I) → (n ≡ whose event → ⊥) →
        at t.requests n ≡ Some q → body_at q.status ≡ Some y → (x : ToolsUsed I) →
        body_at m.mine.status ≡ Some x → x.run ≡ y.run → ⊥
    apart n q y d e h x g p =
        let a = (body-mine t lt (whose event) m.mine x m.there g).2 in
        let b = (body-mine t lt n q y e h).2 in
        d (some-is n (whose event) (sym b ∙ (ap (beginner t.begun) (sym p) ∙ a)))

    pub kept-other : (n : ℕ) (q : RequestState P I A) (y : ToolsUsed I) → (n ≡ whose event → ⊥) →
        at t.requests n ≡ Some q → body_at q.status ≡ Some y →
        uses_of y.run (added uses m.mine) ≡ uses_of y.run uses
    kept-other n q y d e h = kept y.run (apart n q y d e h)

    behind-other : (n : ℕ) (q : RequestState P I A) (x : ToolsUsed I) → (n ≡ whose event → ⊥) →
        at t.requests n ≡ Some q → body_at q.status ≡ Some x → Other s n q →
        (rest : List (ToolUse I)) × (x.tools ≡ uses_of x.run uses ++ rest)
    behind-other n q x d e h (inl same) = told.behind n q x same h
    behind-other n q x d e h (inr (inl none)) = none_some (body_at q.status) x h none
    behind-other n q x d e h (inr (inr r)) =
        let before : ToolsUsed I = record { run = r.before.run; tools = r.before.so_far.tools } in
        let was : uses_of r.before.run uses ≡ r.before.so_far.tools = told.caught n r.caller before
        r.was (ap body_at r.calls_so) (λ a. subst IsReady r.calls_so a) in
        let now : record { run = r.now.run; tools = r.now.so_far.tools }
        ≡ x = some-is (record { run = r.now.run; tools = r.now.so_far.tools }) x
        (sym (ap body_at r.is) ∙ h) in
        let run_is : r.before.run ≡ x.run = sym r.same_run
        ∙ ap (λ (z : ToolsUsed I). z.run) now in (
          r.more,
          ap (λ (z : ToolsUsed I). z.tools) (sym now)
              ∙ (r.grown ∙ ap (λ xs. xs ++ r.more) (sym was ∙ ap (λ k. uses_of k uses) run_is)),
        )

    caught-other : (n : ℕ) (q : RequestState P I A) (x : ToolsUsed I) → at t.requests n ≡ Some q →
        body_at q.status ≡ Some x → (IsReady q.status → ⊥) → Other s n q →
        uses_of x.run uses ≡ x.tools
    caught-other n q x e h u (inl same) = told.caught n q x same h u
    caught-other n q x e h u (inr (inl none)) = none_some (body_at q.status) x h none
    caught-other n q x e h u (inr (inr r)) = absurd (u (subst IsReady (sym r.is) tt))

    mine-is : (n : ℕ) (q : RequestState P I A) → n ≡ whose event → at t.requests n ≡ Some q →
        m.mine ≡ q
    mine-is n q d e = same_some (at t.requests (whose event)) m.mine q m.there
        (ap (at t.requests) (sym d) ∙ e)

    own-at : (n : ℕ) (q : RequestState P I A) (x : ToolsUsed I) → n ≡ whose event →
        at t.requests n ≡ Some q → body_at q.status ≡ Some x →
        uses_of x.run (added uses m.mine) ≡ x.tools
    own-at n q x d e h =
        own-told x (ap (λ (z : RequestState P I A). body_at z.status) (mine-is n q d e) ∙ h)

    behind-next : (n : ℕ) (q : RequestState P I A) (x : ToolsUsed I) → at t.requests n ≡ Some q →
        body_at q.status ≡ Some x →
        (rest : List (ToolUse I)) × (x.tools ≡ uses_of x.run (added uses m.mine) ++ rest)
    behind-next n q x e h = elim (same_or_not n (whose event)) [
      | inl d ↦ (
        [],
        sym (own-at n q x d e h)
            ∙ sym (append-nil (uses_of x.run (added uses m.mine))),
      )
      | inr d ↦ let y = behind-other n q x d e h (m.others n q d e)
          in (y.0, y.1 ∙ ap (λ xs. xs ++ y.0) (sym (kept-other n q x d e h)))
    ]

    caught-next : (n : ℕ) (q : RequestState P I A) (x : ToolsUsed I) → at t.requests n ≡ Some q →
        body_at q.status ≡ Some x → (IsReady q.status → ⊥) →
        uses_of x.run (added uses m.mine) ≡ x.tools
    caught-next n q x e h u = elim (same_or_not n (whose event)) [
      | inl d ↦ own-at n q x d e h
      | inr d ↦ kept-other n q x d e h ∙ caught-other n q x e h u (m.others n q d e)
    ]

    unbegun-next : (r : RunId) → is_begun r t.begun ≡ false → uses_of r (added uses m.mine) ≡ []
    unbegun-next r e =
        kept r
        (λ x h p. clash (is_begun r t.begun)
        (subst (λ k. is_begun k t.begun ≡ true) p
        (body-mine t lt (whose event) m.mine x m.there h).0) e) ∙ told.unbegun r (m.begun r e)

    module _ (tooled : tooled_runs t.tools_used ≡ finished_runs t.table) where
      -- a finished run is in no body
      done-apart : (u : ToolsUsed I) → In u t.tools_used → (x : ToolsUsed I)
          → body_at m.mine.status ≡ Some x → x.run ≡ u.run → ⊥
      done-apart u i x h p =
          let y = named-finished t.table u.run
          (subst (λ rs. In u.run rs) tooled
          (in-map (λ (z : ToolsUsed I). z.run) u t.tools_used i)) in
          none_some (found t.table u.run) y.0 y.1
          (subst (λ k. found t.table k ≡ None) p
          (body-mine t lt (whose event) m.mine x m.there h).1)

      finished-by : Own s t event m.mine → (u : ToolsUsed I) → In u t.tools_used
          → uses_of u.run (added uses m.mine) ≡ u.tools
      finished-by (rests e f) u i = kept u.run (done-apart u i)
          ∙ told.finished u (subst (λ us. In u us) f i)
      finished-by (goes q e f g) u i = kept u.run (done-apart u i)
          ∙ told.finished u (subst (λ us. In u us) g i)
      finished-by (begins q x a w n e f g) u i = kept u.run (done-apart u i)
          ∙ told.finished u (subst (λ us. In u us) g i)
      finished-by (finishes q x e n f g h) u i = ap (uses_of u.run) (nothing-new g)
          ∙ elim (subst (λ us. In u us) h i) [
            | inl p ↦ subst (λ (z : ToolsUsed I). uses_of z.run uses ≡ z.tools) p
                (told.caught (whose event) q x e f n)
            | inr j ↦ told.finished u j
          ]

      pub told-next : Told t (added uses m.mine)
      told-next = record {
        behind = behind-next;
        caught = caught-next;
        unbegun = unbegun-next;
        finished =
            finished-by m.own;
      }

module _ {P I A : Type 0} (w : World P I A) where
  pub told-start : Told (start w) []
  told-start = record {
    behind = λ n q x e h. none_some (body_at q.status) x h (root-none n q e);
    caught = λ n q x e h u. none_some (body_at q.status) x h (root-none n q e);
    unbegun = λ r e. refl;
    finished = λ t i. absurd i;
  }
    where
      root-none : (n : ℕ) (q : RequestState P I A) → at (start w).requests n ≡ Some q →
          body_at q.status ≡ None
      root-none zero q e = ap (λ (z : RequestState P I A). body_at z.status) (sym (some-is _ q e))
      root-none (suc n) q e = absurd (cc)

  -- one more event
  pub uses-more : (events : List Event) (event : Event) (uses : List (RunUse I))
      (s t u : State P I A) → after_all w s events ≡ Some t → step w t event ≡ Some u →
      uses_from w uses s (events ++ event ∷ [])
      ≡ uses_from w uses s events ++ new_uses (uses_from w uses s events)
      (body_of (at u.requests (whose event)))
  uses-more [] event uses s t u h g =
      let same : s ≡ t = some-is s t h in
      ap (λ o. and_on uses o (λ next. uses ++ new_uses uses
      (body_of (at next.requests (whose event))))) (ap (λ (x : State P I A). step w x event) same
      ∙ g)
  uses-more (first ∷ events) event uses s t u h g =
      let y = and_then-some (step w s first) (λ next. after_all w next events) t h in
      let now : List (RunUse I) = uses ++ new_uses uses (body_of (at y.0.requests (whose first))) in
      let then_so : (es : List Event) → uses_from w uses s (first ∷ es)
      ≡ uses_from w now y.0 es = λ es. ap
      (λ o.
      and_on uses o
      (λ next. uses_from w (uses ++ new_uses uses (body_of (at next.requests (whose first))))
      next es)) y.1 in
      then_so (events ++ event ∷ []) ∙ (uses-more events event now y.0 t u y.2 g
      ∙ sym (ap (λ us. us ++ new_uses us (body_of (at u.requests (whose event)))) (then_so events)))

  pub event-uses : (events : List Event) (event : Event) (s t : State P I A) →
      IsHistory w events s → (h : step w s event ≡ Some t) →
      uses_in w (events ++ event ∷ []) ≡ added (uses_in w events) (step-moved w s t event h).mine
  event-uses events event s t hist h =
      uses-more events event [] (start w) s t hist h
      ∙ ap (λ o. uses_in w events ++ new_uses (uses_in w events) (body_of o))
      (step-moved w s t event h).there

  told-from : (past events : List Event) (s t : State P I A) (uses : List (RunUse I)) →
      IsHistory w past s → Lawful s → Told s uses → after_all w s events ≡ Some t →
      Told t (uses_from w uses s events)
  told-from past [] s t uses hist l v h = subst (λ (u : State P I A). Told u uses) (some-is s t h) v
  told-from past (event ∷ events) s t uses hist l v h =
      let y = and_then-some (step w s event) (λ next. after_all w next events) t h in
      let l2 = step-lawful w s event y.0 l y.1 in
      let m = step-moved w s y.0 event y.1 in
      let hist2 : IsHistory w (past ++ event ∷ []) y.0 = after-more w past event (start w) s y.0
      hist y.1 in
      let tooled =
      (all-change w (past ++ event ∷ []) (start w) y.0 (start-lawful w) hist2).tools_used refl
      in
      let now : List (RunUse I) = added uses m.mine in
      let next : List (RunUse I) = uses ++ new_uses uses (body_of (at y.0.requests (whose event)))
      in
      let same : now ≡ next = ap (λ o. uses ++ new_uses uses (body_of o)) (sym m.there) in
      subst (λ us. Told t us)
      (sym
      (ap
      (λ o.
      and_on uses o
      (λ next. uses_from w (uses ++ new_uses uses (body_of (at next.requests (whose event))))
      next events)) y.1))
      (told-from (past ++ event ∷ []) events y.0 t next hist2 l2
      (subst (λ us. Told y.0 us) same (told-next s y.0 event uses l l2 m v tooled)) y.2)

  pub history-told : (events : List Event) (s : State P I A) → IsHistory w events s →
      Told s (uses_in w events)
  history-told events s h = told-from [] events (start w) s [] refl (start-lawful w) told-start h

pub runs_use_tools_once : {P I A : Type 0} (w : World P I A) (events : List Event)
    (s : State P I A) → IsHistory w events s → (t : ToolsUsed I) → In t s.tools_used →
    uses_of t.run (uses_in w events) ≡ t.tools
runs_use_tools_once w events s h t i = (history-told w events s h).finished t i
