-- What an event does to the bodies that requests are in.
use Rattle.std.proofs.Common.{
  ◌≡◌,
  ◌⊎◌,
  inl,
  inr,
  ℕ,
  ◌&&◌,
  ◌||◌,
  ◌==◌,
  Bool,
  true,
  false,
  List,
  [],
  ◌∷◌,
  ◌++◌,
  length,
  map,
  Option,
  None,
  Some,
  refl,
  ap,
  sym,
  ◌∙◌,
  subst,
  append-nil,
  append_assoc,
}
use Rattle.msb_laws.specs.Asking.{and_then}
use Rattle.msb_laws.specs.Traverse.{traverse}
use Rattle.result_cache.specs.declared.run.RunId.{RunId}
use Rattle.result_cache.specs.declared.request.RequestKey.{RequestKey}
use Rattle.result_cache.specs.declared.request.RequestResult.{RequestResult}
use Rattle.result_cache.specs.declared.record.Record.{Record}
use Rattle.result_cache.specs.Same.{same_run, same_keys}
use Rattle.result_cache.specs.Journal.{Journal, ended, add}
use Rattle.result_cache.specs.Table.{FinishedRun, Records, found, is_begun}
use Rattle.result_cache.specs.Replay.{replay, replay_all}
use Rattle.result_cache.proofs.RunTests.{and_then-some}
use Rattle.build_meaning.specs.declared.event.Event.{Event}
use Rattle.build_meaning.specs.declared.event.Event.TheVariants.{
  Assign,
  Claim,
  Request,
  Result,
  Done,
  Retire,
}
use Rattle.build_meaning.specs.declared.event.ClaimKind.{ClaimKind}
use Rattle.build_meaning.specs.declared.event.ClaimKind.TheVariants.{Go, Use, Wait}
use Rattle.build_meaning.specs.Lists.{at, put, numbered_from}
use Rattle.build_meaning.specs.World.{World}
use Rattle.build_meaning.specs.Walk.{Walk, gives, wants, Body, makes, does, uses, calls}
use Rattle.build_meaning.specs.SoFar.{
  ToolUse,
  SoFar,
  nothing_yet,
  with_act,
  with_tool,
  with_calls,
  runs_of,
  recorded,
  result_of,
}
use Rattle.build_meaning.specs.Stop.{Stop, ends, asks, run_on}
use Rattle.build_meaning.specs.State.{
  with_status,
  Within,
  walking,
  within,
  Status,
  ready,
  assigned,
  waits,
  calling,
  done,
  RequestState,
  ToolsUsed,
  State,
  with_request,
  new_request,
}
use Rattle.build_meaning.specs.Cycle.{is_in_cycle}
use Rattle.build_meaning.specs.Step.{
  only_if,
  whose,
  in_body,
  goes_on,
  waiting,
  may_wait,
  claimed,
  with_children,
  is_within_limits,
  woken_if,
  woken_at,
  woken,
  finished,
  results_of,
  answered,
  resume_at,
  resume_caller,
  step_of,
  step,
}
use Rattle.build_meaning.proofs.ListPlaces.{
  at-put,
  at-put_same,
  at-put_else,
  at-front,
  at-append,
  at-map,
  at-traverse,
  traverse-at,
}
use Rattle.build_meaning.proofs.EventsKeepLawful.{only_if-some, unless-some, some-is}
use Rattle.build_meaning.proofs.RetiredRequests.{IsRetire}
use Rattle.build_history.specs.Uses.{body_at}

-- tools are only added to those that a body has used
pub run_on-uses : {I A : Type 0} (tools : List ℕ → I → A) (r : RunId) (b : Body I A) (j : Journal)
    (so_far : SoFar I) → (more : List (ToolUse I))
    × ((run_on tools r b j so_far).so_far.tools ≡ so_far.tools ++ more)
run_on-uses tools r (makes outcome) j so_far = ([], sym (append-nil so_far.tools))
run_on-uses tools r (does p go) j so_far = run_on-uses tools r (go _) _ (with_act so_far p)
run_on-uses tools r (uses name input go) j so_far =
    let y = run_on-uses tools r (go (tools name input)) j (with_tool so_far name input) in (
      record { name = name; input = input } ∷ y.0,
      y.1
          ∙ append_assoc so_far.tools (record { name = name; input = input } ∷ []) y.0,
    )
run_on-uses tools r (calls key keys go) j so_far = ([], sym (append-nil so_far.tools))

-- the event begins a run
abbrev pub IsGo : Event → Type 0
IsGo (Claim id run Go) = Unit {0}
IsGo event = ⊥

module _ {P I A : Type 0} where
  abbrev pub IsReady : Status P I A → Type 0
  IsReady (ready place) = Unit {0}
  IsReady status = ⊥

  -- a caller that the results of its calls have made ready
  pub record Resumed (s : State P I A) (n : ℕ) (b : RequestState P I A) : Type 0 where
    pub caller : RequestState P I A
    pub keys : List RequestKey
    pub ids : List ℕ
    pub before : Within P I A
    pub go : List RequestResult → Journal → Body I A
    pub was : at s.requests n ≡ Some caller
    pub calls_so : caller.status ≡ calling keys ids before go
    pub now : Within P I A
    pub stop : Stop I A
    pub is : b.status ≡ ready (within now stop)
    pub same_run : now.run ≡ before.run
    pub more : List (ToolUse I)
    pub grown : now.so_far.tools ≡ before.so_far.tools ++ more

  -- a request that the event isn't about: as before, in no body, or resumed
  abbrev pub Other : State P I A → ℕ → RequestState P I A → Type 0
  Other s n b = (at s.requests n ≡ Some b) ⊎ ((body_at b.status ≡ None) ⊎ Resumed s n b)

  -- the request that the event is about: it is in no body; it is in the body that it was in; it
  -- begins a body; or its body is finished
  pub data Own (s t : State P I A) (event : Event) (b : RequestState P I A) : Type 0 where
    rests : body_at b.status ≡ None → t.tools_used ≡ s.tools_used → Own s t event b
    goes : (q : RequestState P I A) → at s.requests (whose event) ≡ Some q →
        body_at b.status ≡ body_at q.status → t.tools_used ≡ s.tools_used → Own s t event b
    begins : (q : RequestState P I A) (x : ToolsUsed I) → IsGo event →
        at s.requests (whose event) ≡ Some q → body_at q.status ≡ None → body_at b.status ≡ Some x →
        is_begun x.run s.begun ≡ false → t.tools_used ≡ s.tools_used → Own s t event b
    finishes : (q : RequestState P I A) (x : ToolsUsed I) → at s.requests (whose event) ≡ Some q →
        (IsReady q.status → ⊥) → body_at q.status ≡ Some x → body_at b.status ≡ None →
        t.tools_used ≡ x ∷ s.tools_used → Own s t event b

  pub record Moved (s t : State P I A) (event : Event) : Type 0 where
    pub mine : RequestState P I A
    pub there : at t.requests (whose event) ≡ Some mine
    pub unready : IsReady mine.status → IsRetire event
    pub own : Own s t event mine
    pub others : (n : ℕ) (b : RequestState P I A) → (n ≡ whose event → ⊥) →
        at t.requests n ≡ Some b → Other s n b
    pub begun : (r : RunId) → is_begun r t.begun ≡ false → is_begun r s.begun ≡ false

  put-others : (s : State P I A) (id : ℕ) (z : RequestState P I A) (n : ℕ)
      (b : RequestState P I A) → (n ≡ id → ⊥) → at (put s.requests id z) n ≡ Some b →
      at s.requests n ≡ Some b
  put-others s id z n b d h = elim (at-put s.requests id z n b h)
      [ inl x ↦ absurd (d x.0) | inr y ↦ y.1 ]

  -- one request is put
  put-moved : (s t : State P I A) (event : Event) (q z : RequestState P I A) →
      at s.requests (whose event) ≡ Some q → t.requests ≡ put s.requests (whose event) z →
      (IsReady z.status → IsRetire event) → Own s t event z →
      ((r : RunId) → is_begun r t.begun ≡ false → is_begun r s.begun ≡ false) → Moved s t event
  put-moved s t event q z e m u own g = record {
    mine = z;
    there = ap (λ rs. at rs (whose event)) m ∙ at-put_same s.requests (whose event) q z e;
    unready = u;
    own = own;
    others = λ n b d h. inl (put-others s (whose event) z n b d (sym (ap (λ rs. at rs n) m) ∙ h));
    begun = g;
  }

  moved-same : (s m t : State P I A) (event : Event) → Moved s m event → m ≡ t → Moved s t event
  moved-same s m t event v e = subst (λ (u : State P I A). Moved s u event) e v

older-begun : (b c : Bool) → (b || c) ≡ false → c ≡ false
older-begun true c h = absurd (cc)
older-begun false c h = h

module _ {P I A : Type 0} (w : World P I A) where
  claimed-moved : (s t : State P I A) (id m : ℕ) (old : RequestState P I A)
      (claims : RunId) (r : RunId) (b : Body I A) (go : Record → Journal → Walk P I A)
      (kind : ClaimKind) (q : RequestState P I A) →
      at s.requests id ≡ Some q → body_at q.status ≡ None
      → claimed w s id m old r b go kind ≡ Some t → Moved s t (Claim id claims kind)
  claimed-moved s t id m old claims r b go Go q e none h =
      let z : RequestState P I A =
      in_body w (assigned m) old r go (run_on w.tools r b old.journal nothing_yet) in
      let next : State P I A = record {
        requests = put s.requests id z;
        begun = record {
          run = r;
          by = id;
        } ∷ s.begun;
        table = s.table;
        tools_used = s.tools_used;
      } in
      let x = unless-some (is_begun r s.begun) next t h in
      moved-same s next t (Claim id claims Go)
      (put-moved s next (Claim id claims Go) q z e refl (λ a. a)
      (begins q
      (record { run = r; tools = (run_on w.tools r b old.journal nothing_yet).so_far.tools }) tt
      e
      none refl x.0 refl)
      (λ r1 g. older-begun (same_run r r1) (is_begun r1 s.begun) g)) x.1
  claimed-moved s t id m old claims r b go Use q e none h =
      let x = and_then-some (found s.table r)
      (λ made. and_then (replay s.table r old.journal)
      (λ next. Some (with_request s id (goes_on w (assigned m) old r go made next)))) t h in
      let y = and_then-some (replay s.table r old.journal)
      (λ next. Some (with_request s id (goes_on w (assigned m) old r go x.0 next))) t x.2 in
      let z : RequestState P I A = goes_on w (assigned m) old r go x.0 y.0 in
      moved-same s (with_request s id z) t (Claim id claims Use)
      (put-moved s (with_request s id z) (Claim id claims Use) q z e refl (λ a. a)
      (rests refl refl) (λ r1 g. g)) (some-is (with_request s id z) t y.2)
  claimed-moved s t id m old claims r b go Wait q e none h =
      let next : State P I A = waiting w s id old r b go in
      let x = only_if-some (may_wait w (is_begun r s.begun) (found s.table r) (is_in_cycle next r))
      next t h in
      moved-same s next t (Claim id claims Wait)
      (put-moved s next (Claim id claims Wait) q (with_status old (waits r b go)) e refl
      (λ a. a) (rests refl refl) (λ r1 g. g)) x.1

  called-moved : (s t : State P I A) (id m : ℕ) (asked : List RequestKey) (old : RequestState P I A)
      (keys : List RequestKey) (x : Within P I A) (stop : Stop I A)
      (go : List RequestResult → Journal → Body I A) →
      at s.requests id ≡ Some (with_status old (assigned m (within x stop)))
      → with_children w s id old keys x go ≡ t → Moved s t (Request id asked)
  called-moved s t id m asked old keys x stop go e h =
      let q : RequestState P I A = with_status old (assigned m (within x stop)) in
      let z : RequestState P I A =
      with_status old (calling keys (numbered_from (length s.requests) keys) x go) in
      let more : List (RequestState P I A) =
      map (new_request w (Some id) (x.run ∷ old.origin.path) old.journal) keys in
      moved-same s (with_children w s id old keys x go) t (Request id asked) (record {
        mine = z;
        there = at-front (put s.requests id z) more id z (at-put_same s.requests id q z e);
        unready = λ a. a;
        own = goes q e refl refl;
        others = λ n b d at_n. elim (at-append (put s.requests id z) more n b at_n) [
          | inl y ↦ inl (put-others s id z n b d y)
          | inr y ↦
              (let c = at-map (new_request w (Some id) (x.run ∷ old.origin.path) old.journal) keys
              y.0 b y.1 in inr
              (inl (ap (λ (a : RequestState P I A). body_at a.status) (sym c.2))))
        ];
        begun = λ r1 g. g;
      }) h

  woken-others : (table : Records) (r : RunId) (m : Record) (q z : RequestState P I A)
      (u : Status P I A) → q.status ≡ u → woken_at w table r m q u ≡ Some z →
      (q ≡ z) ⊎ (body_at z.status ≡ None)
  woken-others table r m q z (waits wanted b go) e h = by_test (same_run wanted r) h
    where
      by_test : (t : Bool) → woken_if w t table q m wanted go ≡ Some z
          → (q ≡ z) ⊎ (body_at z.status ≡ None)
      by_test true h =
          let y = and_then-some (replay table wanted q.journal)
          (λ next. Some (goes_on w ready q wanted go m next)) z h in
          inr (ap (λ (a : RequestState P I A). body_at a.status)
          (sym (some-is (goes_on w ready q wanted go m y.0) z y.2)))
      by_test false h = inl (some-is q z h)
  woken-others table r m q z (ready a) e h = inl (some-is q z h)
  woken-others table r m q z (assigned k a) e h = inl (some-is q z h)
  woken-others table r m q z (calling a b c d) e h = inl (some-is q z h)
  woken-others table r m q z (done a) e h = inl (some-is q z h)

  finished-moved : (s t : State P I A) (id m : ℕ) (run : RunId) (old : RequestState P I A)
      (x : Within P I A) (stop : Stop I A) (made : Record) →
      at s.requests id ≡ Some (with_status old (assigned m (within x stop)))
      → finished w s id m old x made ≡ Some t → Moved s t (Result id run)
  finished-moved s t id m run old x stop made e h =
      let f : FinishedRun = record { run = x.run; made = made } in
      let q : RequestState P I A = with_status old (assigned m (within x stop)) in
      let used : ToolsUsed I = record { run = x.run; tools = x.so_far.tools } in
      let z : RequestState P I A =
      goes_on w (assigned m) old x.run x.go made (add old.journal (ended x.run made)) in
      let wakes = woken w (f ∷ s.table) x.run made in
      let u = and_then-some (traverse wakes (put s.requests id z))
      (λ requests.
      Some
      (record {
        requests = requests;
        begun = s.begun;
        table = f ∷ s.table;
        tools_used = used
            ∷ s.tools_used;
      })) t h in
      let last : State P I A = record {
        requests = u.0;
        begun = s.begun;
        table = f ∷ s.table;
        tools_used = used ∷ s.tools_used;
      } in
      let here = traverse-at wakes (put s.requests id z) u.0 u.1 id z
      (at-put_same s.requests id q z e) in
      moved-same s last t (Result id run) (record {
        mine = z;
        there = here.1 ∙ sym here.2;
        unready = λ a. a;
        own = finishes q used e (λ a. a) refl refl refl;
        others = λ n b d at_n.
            let y = at-traverse wakes (put s.requests id z) u.0 u.1 n b at_n in
            elim (woken-others (f ∷ s.table) x.run made y.0 b y.0.status refl y.2) [
              | inl same ↦ inl (put-others s id z n b d (y.1 ∙ ap Some same))
              | inr none ↦ inr (inl none)
            ];
        begun = λ r1 g. g;
      }) (some-is last t u.2)

  -- and then a caller is resumed, if there is one
  answered-moved : (s m t : State P I A) (event : Event) (a : ℕ) (c : RequestState P I A)
      (keys : List RequestKey) (ids : List ℕ) (x : Within P I A) (go : List RequestResult →
      Journal → Body I A) → Moved s m event →
      (a ≡ whose event → ⊥) → at s.requests a ≡ Some c → at m.requests a ≡ Some c
      → c.status ≡ calling keys ids x go → (o : Option (List RequestResult))
      → answered w m a c keys x go o ≡ Some t → Moved s t event
  answered-moved s m t event a c keys ids x go v d es em p None h = moved-same s m t event v
      (some-is m t h)
  answered-moved s m t event a c keys ids x go v d es em p (Some results) h =
      let y = and_then-some (replay_all m.table (runs_of results) c.journal)
      (λ next.
      Some
      (with_request m a
      (in_body w ready c x.run x.go
      (run_on w.tools x.run (go results next) next (with_calls x.so_far keys results))))) t h in
      let after = run_on w.tools x.run (go results y.0) y.0 (with_calls x.so_far keys results) in
      let z : RequestState P I A = in_body w ready c x.run x.go after in
      let more = run_on-uses w.tools x.run (go results y.0) y.0 (with_calls x.so_far keys results)
      in
      moved-same s (with_request m a z) t event (record {
        mine = v.mine;
        there = at-put_else m.requests a z (whose event) (λ e. d (sym e)) ∙ v.there;
        unready = v.unready;
        own = kept _ v.own;
        others = λ n b f at_n. elim (at-put m.requests a z n b at_n) [
          | inl here ↦ inr (inr (record {
            caller = c;
            keys = keys;
            ids = ids;
            before = x;
            go = go;
            was = ap (λ i. at s.requests i) here.0 ∙ es;
            calls_so = p;
            now = record { run = x.run; so_far = after.so_far; go = x.go };
            stop = after.stop;
            is = ap (λ (q : RequestState P I A). q.status) (sym here.1);
            same_run = refl;
            more = more.0;
            grown = more.1;
          }))
          | inr else ↦ v.others n b f else.1
        ];
        begun = v.begun;
      }) (some-is (with_request m a z) t y.2)
    where
      kept : (z : RequestState P I A) → Own s m event v.mine →
          Own s (with_request m a z) event v.mine
      kept z (rests e f) = rests e f
      kept z (goes q e f g) = goes q e f g
      kept z (begins q x y e n f g i) = begins q x y e n f g i
      kept z (finishes q x e u f g i) = finishes q x e u f g i

  step_of-moved : (s t : State P I A) (event : Event) (old : RequestState P I A)
      (u : Status P I A) → at s.requests (whose event) ≡ Some (with_status old u) →
      step_of w s event (with_status old u) ≡ Some t →
      Moved s t event
  step_of-moved s t (Assign id m) old (ready a) e h =
      let z : RequestState P I A = with_status old (assigned m a) in
      moved-same s (with_request s id z) t (Assign id m)
      (put-moved s (with_request s id z) (Assign id m) (with_status old (ready a)) z e refl
      (λ a. a) (goes (with_status old (ready a)) e refl refl) (λ r1 g. g))
      (some-is (with_request s id z) t h)
  step_of-moved s t (Assign id m) old _ e h = absurd (cc)
  step_of-moved s t (Claim id run kind) old (assigned m (walking (wants site r b go))) e h =
      let x = and_then-some (only_if (same_run r run) r)
      (λ run. claimed w s id m old run b go kind) t h in
      claimed-moved s t id m old run x.0 b go kind (with_status old
      (assigned m (walking (wants site r b go)))) e refl x.2
  step_of-moved s t (Claim id run kind) old _ e h = absurd (cc)
  step_of-moved s t (Request id keys) old (assigned m (within x (asks key more go))) e h =
      let y = only_if-some (same_keys (key ∷ more) keys
      && is_within_limits w s (x.run ∷ old.origin.path) (key ∷ more))
      (with_children w s id old (key ∷ more) x go) t h in
      called-moved s t id m keys old (key ∷ more) x (asks key more go) go e y.1
  step_of-moved s t (Request id keys) old _ e h = absurd (cc)
  step_of-moved s t (Result id run) old (assigned m (within x (ends outcome))) e h =
      let y = and_then-some (only_if (same_run x.run run) x)
      (λ x. finished w s id m old x (recorded outcome x.so_far.segments)) t h in
      let p : x ≡ y.0 = (only_if-some (same_run x.run run) x y.0 y.1).1 in
      finished-moved s t id m run old x (ends outcome) (recorded outcome x.so_far.segments) e
      (subst (λ (a : Within P I A). finished w s id m old a
      (recorded outcome a.so_far.segments) ≡ Some t) (sym p) y.2)
  step_of-moved s t (Result id run) old _ e h = absurd (cc)
  step_of-moved s t (Done id) old (assigned m (walking (gives reply))) e h =
      let q : RequestState P I A = with_status old (assigned m (walking (gives reply))) in
      let z : RequestState P I A = with_status old (done (result_of reply old.runs)) in
      let over : State P I A = with_request s id z in
      caller-moved s over t (Done id) z old.origin.parent
      (put-moved s over (Done id) q z e refl (λ a. a) (rests refl refl) (λ r1 g. g)) refl refl h
    where
      resumed-moved : (s m t : State P I A) (event : Event) (a : ℕ) (z c : RequestState P I A)
          (u : Status P I A) → Moved s m event → m.requests ≡ put s.requests (whose event) z →
          (a ≡ whose event → ⊥) → at m.requests a ≡ Some c → c.status ≡ u →
          resume_at w m a c u ≡ Some t → Moved s t event
      resumed-moved s m t event a z c (calling keys ids x go) v f d e p h =
          answered-moved s m t event a c keys ids x go v d
          (put-others s (whose event) z a c d (sym (ap (λ rs. at rs a) f) ∙ e)) e p
          (results_of w m.requests ids) h
      resumed-moved s m t event a z c _ v f d e p h = absurd (cc)

      over-calls : (m t : State P I A) (a : ℕ) (z : RequestState P I A) (u : Status P I A) →
          u ≡ done (result_of reply old.runs) → resume_at w m a z u ≡ Some t → ⊥
      over-calls m t a z (calling keys ids x go) e h = absurd (cc)
      over-calls m t a z _ e h = absurd (cc)

      caller-moved : (s m t : State P I A) (event : Event) (z : RequestState P I A)
          (parent : Option ℕ) → Moved s m event → m.requests ≡ put s.requests (whose event) z →
          z.status ≡ done (result_of reply old.runs) → resume_caller w m parent ≡ Some t →
          Moved s t event
      caller-moved s m t event z None v f g h = moved-same s m t event v (some-is m t h)
      caller-moved s m t event z (Some a) v f g h =
          let y = and_then-some (at m.requests a) (λ q. resume_at w m a q q.status) t h in
          elim (at-put s.requests (whose event) z a y.0 (sym (ap (λ rs. at rs a) f) ∙ y.1)) [
            | inl same ↦
                absurd (over-calls m t a y.0 y.0.status (ap (λ (q : RequestState P I A). q.status)
                (sym same.1) ∙ g) y.2)
            | inr else ↦ resumed-moved s m t event a z y.0 y.0.status v f else.0 y.1 refl y.2
          ]
  step_of-moved s t (Done id) old _ e h = absurd (cc)
  step_of-moved s t (Retire id node) old (assigned by a) e h =
      let q : RequestState P I A = with_status old (assigned by a) in
      let z : RequestState P I A = with_status old (ready a) in
      moved-same s (with_request s id z) t (Retire id node)
      (put-moved s (with_request s id z) (Retire id node) q z e refl (λ r. tt)
      (goes q e refl refl) (λ r1 g. g))
      (only_if-some (by == node) (with_request s id z) t h).1
  step_of-moved s t (Retire id node) old _ e h = absurd (cc)

  pub step-moved : (s t : State P I A) (event : Event) → step w s event ≡ Some t → Moved s t event
  step-moved s t event h =
      let z = and_then-some (at s.requests (whose event)) (step_of w s event) t h in
      step_of-moved s t event z.0 z.0.status z.1 z.2
