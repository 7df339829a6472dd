-- The tools that are used at a place are those that the history notes.
use Rattle.std.proofs.Common.{
  ◌≡◌,
  ℕ,
  zero,
  suc,
  false,
  List,
  [],
  ◌∷◌,
  ◌++◌,
  length,
  drop,
  Option,
  None,
  Some,
  refl,
  ap,
  sym,
  ◌∙◌,
  subst,
  append-nil,
  append_assoc,
}
use Rattle.std.proofs.Math.Logic.{∥∥₁_elim, ∥∥₁_map, ∥∥₁_prop}
use Rattle.std.specs.Prelude.{is_some}
use Rattle.result_cache.specs.declared.run.RunId.{RunId}
use Rattle.result_cache.specs.Table.{Records}
use Rattle.build_meaning.specs.declared.event.Event.{Event}
use Rattle.build_meaning.specs.Lists.{at}
use Rattle.build_meaning.specs.World.{World}
use Rattle.build_meaning.specs.SoFar.{ToolUse}
use Rattle.build_meaning.specs.State.{
  Place,
  walking,
  within,
  assigned,
  Origin,
  RequestState,
  ToolsUsed,
  State,
  start,
}
use Rattle.build_meaning.specs.Step.{whose, step}
use Rattle.build_meaning.specs.History.{IsHistory, retires}
use Rattle.build_meaning.proofs.ParentsAndChildren.{same_some, none_some}
use Rattle.build_meaning.proofs.EventsKeepLawful.{some-is}
use Rattle.build_history.specs.Uses.{
  RunUse,
  uses_of,
  by_run,
  tools_of,
  body_in,
  body_at,
  new_uses,
  uses_in,
}
use Rattle.build_history.proofs.BodiesMove.{
  IsGo,
  IsReady,
  Own,
  rests,
  goes,
  begins,
  finishes,
  Moved,
  step-moved,
}
use Rattle.build_history.proofs.UsesTold.{new-rest, event-uses, history-told}
use Rattle.build_scheduler.specs.declared.walker.Answer.{Answer}
use Rattle.build_scheduler.specs.declared.slot.End.{End}
use Rattle.build_scheduler.specs.declared.slot.End.TheVariants.{
  Root,
  Circular,
  TooDeep,
  TooMany,
  NoMemory,
}
use Rattle.build_scheduler.specs.Behind.{IsBehind}
use Rattle.build_scheduler.specs.Own.{Seen, placed, IsOwn, IsOut}
use Rattle.build_scheduler.specs.Position.{Position, answered, tools_in, used_between}
use Rattle.build_plain.specs.declared.alone.Turn.{Turn}
use Rattle.build_plain.specs.declared.alone.Turn.TheVariants.{GoesOn, Over}
use Rattle.build_scheduler.specs.Drivers.{IsLegal}
use Rattle.build_plain.specs.Used.{Uses, UnlessMemory, due_to, due, due_in}
use Rattle.build_plain.proofs.OneAtATime.{last-step}

abbrev nothing_of : (X : Type 0) → List X
nothing_of X = []

drop-none : (X : Type 0) (n : ℕ) → drop n (nothing_of X) ≡ nothing_of X
drop-none X zero = refl
drop-none X (suc n) = refl

pub none-of : {X : Type 0} (o : Option X) → is_some o ≡ false → o ≡ None
none-of None e = refl
none-of (Some x) e = absurd (cc)

module _ {I : Type 0} where
  tools_of-append : (us vs : List (RunUse I)) → tools_of (us ++ vs) ≡ tools_of us ++ tools_of vs
  tools_of-append [] vs = refl
  tools_of-append (u ∷ us) vs = ap (λ xs. u.tool ∷ xs) (tools_of-append us vs)

  tools_of-by_run : (r : RunId) (tools : List (ToolUse I)) → tools_of (by_run r tools) ≡ tools
  tools_of-by_run r [] = refl
  tools_of-by_run r (x ∷ tools) = ap (λ xs. x ∷ xs) (tools_of-by_run r tools)

module _ {P I A : Type 0} (w : World P I A) where
  -- no event came
  pub uses-none : (before after : List Event) (tools : List (ToolUse I)) → after ≡ before
      → Uses w before after tools tools
  uses-none before after tools e = record {
    more = [];
    uses = ap (uses_in w) e
        ∙ sym (append-nil (uses_in w before));
    tools = sym (append-nil tools);
  }

  -- some uses, and then others
  pub uses-more : (before between after : List Event) (x y z : List (ToolUse I))
      → Uses w before between x y → Uses w between after y z → Uses w before after x z
  uses-more before between after x y z u v = record {
    more = u.more ++ v.more;
    uses = v.uses
        ∙ (ap (λ us. us ++ v.more) u.uses ∙ append_assoc (uses_in w before) u.more v.more);
    tools = v.tools
        ∙ (ap (λ ts. ts ++ tools_of v.more) u.tools
        ∙ (append_assoc x (tools_of u.more) (tools_of v.more)
        ∙ ap (λ ts. x ++ ts) (sym (tools_of-append u.more v.more))));
  }

  -- behind what was used before
  pub uses-from : (before after : List Event) (x d : List (ToolUse I)) → Uses w before after [] d
      → Uses w before after x (x ++ d)
  uses-from before after x d u = record
      { more = u.more; uses = u.uses; tools = ap (λ ts. x ++ ts) u.tools }

  tools-body : (place : Place P I A) (x : ToolsUsed I) → body_in place ≡ Some x
      → tools_in place ≡ x.tools
  tools-body (walking y) x e = absurd (cc)
  tools-body (within y stop) x e = ap (λ (z : ToolsUsed I). z.tools)
      (some-is (record { run = y.run; tools = y.so_far.tools }) x e)

  tools-none : (place : Place P I A) → body_in place ≡ None → tools_in place ≡ []
  tools-none (walking y) e = refl
  tools-none (within y stop) e = absurd (cc)

  -- what is new of a body, where the uses have of it what was used before
  place-uses : (uses : List (RunUse I)) (before : List (ToolUse I)) (place : Place P I A)
      → ((x : ToolsUsed I) → body_in place ≡ Some x → uses_of x.run uses ≡ before)
      → tools_of (new_uses uses (body_in place)) ≡ drop (length before) (tools_in place)
  place-uses uses before (walking y) h = sym (drop-none (ToolUse I) (length before))
  place-uses uses before (within y stop) h =
      tools_of-by_run y.run (drop (length (uses_of y.run uses)) y.so_far.tools)
      ∙ ap (λ ts. drop (length ts) y.so_far.tools)
      (h (record { run = y.run; tools = y.so_far.tools }) refl)

  module _ (before after : List Event) (event : Event) (s t : State P I A)
      (h : IsHistory w before s) (g : IsHistory w after t) (e : after ≡ before ++ event ∷ []) where
    stepped : step w s event ≡ Some t
    stepped = last-step w before event (start w) s t h (subst (λ es. IsHistory w es t) e g)

    abbrev moved : Moved s t event
    moved = step-moved w s t event stepped

    grown : uses_in w after ≡ uses_in w before
        ++ new_uses (uses_in w before) (body_at (moved.mine).status)
    grown = ap (uses_in w) e ∙ event-uses w before event s t h stepped

    -- a walk that is put away has used what its body has
    nothing-new : (q : RequestState P I A) → at s.requests (whose event) ≡ Some q
        → (IsReady q.status → ⊥) → (IsGo event → ⊥) → Own s t event (moved.mine)
        → new_uses (uses_in w before) (body_at (moved.mine).status) ≡ []
    nothing-new q there unready unbegun (rests none f) = ap (new_uses (uses_in w before)) none
    nothing-new q there unready unbegun (goes other was same f) = by_body (body_at q.status) refl
      where
        by_body : (b : Option (ToolsUsed I)) → body_at q.status ≡ b
            → new_uses (uses_in w before) (body_at (moved.mine).status) ≡ []
        by_body None d = ap (new_uses (uses_in w before))
            (same
            ∙ (ap (λ (z : RequestState P I A). body_at z.status)
            (same_some (at s.requests (whose event)) other q was there) ∙ d))
        by_body (Some x) d =
            let caught : uses_of x.run (uses_in w before)
            ≡ x.tools = (history-told w before s h).caught (whose event) q x there d unready in
            ap (new_uses (uses_in w before)) (same
            ∙ (ap (λ (z : RequestState P I A). body_at z.status)
            (same_some (at s.requests (whose event)) other q was there) ∙ d))
            ∙ new-rest (uses_in w before) x []
            (sym caught ∙ sym (append-nil (uses_of x.run (uses_in w before))))
    nothing-new q there unready unbegun (begins other x go was none f d k) = absurd (unbegun go)
    nothing-new q there unready unbegun (finishes other x was u d none k) = ap
        (new_uses (uses_in w before)) none

    over-uses : (q : RequestState P I A) → at s.requests (whose event) ≡ Some q
        → (IsReady q.status → ⊥) → (IsGo event → ⊥) → Uses w before after [] []
    over-uses q there unready unbegun = record {
      more = [];
      uses = grown ∙ ap (λ us. uses_in w before ++ us)
          (nothing-new q there unready unbegun (moved.own));
      tools = refl;
    }

    -- the uses of an event that leaves its request with a node
    placed-uses : (tools : List (ToolUse I)) (o : Origin) (node : ℕ) (next : Position P I A)
        → at t.requests (whose event) ≡ Some (placed o next (assigned node)) →
        ((x : ToolsUsed I) → body_at (moved.mine).status ≡ Some x
        → uses_of x.run (uses_in w before) ≡ tools)
        → Uses w before after [] (drop (length tools) (tools_in next.place))
    placed-uses tools o node next there known =
        let mine_is : moved.mine ≡ placed o next (assigned node) = same_some
        (at t.requests (whose event)) (moved.mine) (placed o next (assigned node)) (moved.there)
        there in
        let body_is : body_at (moved.mine).status
        ≡ body_in next.place = ap (λ (z : RequestState P I A). body_at z.status) mine_is
        in record {
          more = new_uses (uses_in w before) (body_in next.place);
          uses = grown ∙ ap (λ o. uses_in w before ++ new_uses (uses_in w before) o) body_is;
          tools = sym
              (place-uses (uses_in w before) tools next.place (λ x d. known x (body_is ∙ d)));
        }

    known-own : (o : Origin) (node : ℕ) (p : Position P I A)
        → at s.requests (whose event) ≡ Some (placed o p (assigned node))
        → Own s t event (moved.mine) → (x : ToolsUsed I) → body_at (moved.mine).status ≡ Some x
        → uses_of x.run (uses_in w before) ≡ tools_in p.place
    known-own o node p there (rests none f) x d = none_some (body_at (moved.mine).status) x d none
    known-own o node p there (goes q was same f) x d =
        let q_is : q ≡ placed o p (assigned node) = same_some (at s.requests (whose event)) q
        (placed o p (assigned node)) was there in
        let body : body_in p.place ≡ Some x = sym
        (ap (λ (z : RequestState P I A). body_at z.status) q_is) ∙ (sym same ∙ d) in
        (history-told w before s h).caught (whose event) (placed o p (assigned node)) x there body
        (λ a. a) ∙ sym (tools-body p.place x body)
    known-own o node p there (begins q y go was none f unbegun k) x d =
        let q_is : q ≡ placed o p (assigned node) = same_some (at s.requests (whose event)) q
        (placed o p (assigned node)) was there in
        let same : y ≡ x = same_some (body_at (moved.mine).status) y x f d in
        ap (λ (z : ToolsUsed I). uses_of z.run (uses_in w before)) (sym same)
        ∙ ((history-told w before s h).unbegun y.run unbegun
        ∙ sym
        (tools-none p.place (sym (ap (λ (z : RequestState P I A). body_at z.status) q_is)
        ∙ none)))
    known-own o node p there (finishes q y was u f none k) x d = none_some
        (body_at (moved.mine).status) x d none

    known-ready : (place : Place P I A) → retires before ≡ 0 → IsBehind w before (whose event) place
        → (IsGo event → ⊥) → Own s t event (moved.mine) → (x : ToolsUsed I)
        → body_at (moved.mine).status ≡ Some x → uses_of x.run (uses_in w before) ≡ tools_in place
    known-ready place first behind unbegun (rests none f) x d = none_some
        (body_at (moved.mine).status) x d none
    known-ready place first behind unbegun (goes q was same f) x d = sym
        (behind s q x first h was (sym same ∙ d))
    known-ready place first behind unbegun (begins q y go was none f n k) x d = absurd (unbegun go)
    known-ready place first behind unbegun (finishes q y was u f none k) x d = none_some
        (body_at (moved.mine).status) x d none

  -- the request of an event goes on: what its walk will use by its answer is what the event notes
  pub goes-uses : (before after : List Event) (event : Event) (id : ℕ) (table records : Records)
      (walk : Seen P I A) (answer : Answer) → whose event ≡ id → after ≡ before ++ event ∷ [] →
      ∥ IsOwn w before table id walk ∥₁ → ∥ IsOut w after records id walk answer ∥₁
      → ∥ Uses w before after [] (due w records walk answer) ∥₁
  goes-uses before after event id table records walk answer mine e own out = ∥∥₁_elim own ∥∥₁_prop
      (λ o. ∥∥₁_map out (λ x.
      let was = o.stands in
      let is = x.stands in
      let there : at was.state.requests (whose event)
      ≡ Some (placed was.origin walk.position (assigned was.node)) = ap (at was.state.requests)
      mine ∙ was.there in
      let here : at is.state.requests (whose event)
      ≡ Some (placed is.origin x.next (assigned is.node)) = ap (at is.state.requests) mine
      ∙ is.there in
      subst
      (λ (next : Option (Position P I A)). Uses w before after []
      (due_to walk.position.place next)) (sym x.goes)
      (placed-uses before after event was.state is.state was.history is.history e
      (tools_in walk.position.place) is.origin is.node x.next here
      (known-own before after event was.state is.state was.history is.history e was.origin was.node
      walk.position there
      (moved before after event was.state is.state was.history is.history e).own))))

  -- it is handed to the node, with a walk that has used what the history has of it
  pub ready-uses : (before after : List Event) (event : Event) (id : ℕ) (records : Records)
      (walk : Seen P I A) (answer : Answer) → whose event ≡ id → (IsGo event → ⊥)
      → after ≡ before ++ event ∷ [] → retires before ≡ 0 →
      ∥ IsLegal w before ∥₁ → ∥ IsBehind w before id walk.position.place ∥₁
      → ∥ IsOut w after records id walk answer ∥₁
      → ∥ Uses w before after [] (due w records walk answer) ∥₁
  ready-uses before after event id records walk answer mine unbegun e first legal behind out =
      ∥∥₁_elim legal ∥∥₁_prop (λ l. ∥∥₁_elim behind ∥∥₁_prop (λ b. ∥∥₁_map out (λ x.
      let is = x.stands in
      let here : at is.state.requests (whose event)
      ≡ Some (placed is.origin x.next (assigned is.node)) = ap (at is.state.requests) mine
      ∙ is.there in
      let behind_it : IsBehind w before (whose event) walk.position.place = subst
      (λ n. IsBehind w before n walk.position.place) (sym mine) b in
      subst
      (λ (next : Option (Position P I A)). Uses w before after []
      (due_to walk.position.place next)) (sym x.goes)
      (placed-uses before after event l.0 is.state l.1 is.history e (tools_in walk.position.place)
      is.origin is.node x.next here
      (known-ready before after event l.0 is.state l.1 is.history e walk.position.place first
      behind_it unbegun
      (moved before after event l.0 is.state l.1 is.history e).own)))))

  -- its walk is put away
  pub away-uses : (before after : List Event) (event : Event) (id : ℕ) (table : Records)
      (walk : Seen P I A) → whose event ≡ id → (IsGo event → ⊥) → after ≡ before ++ event ∷ [] →
      ∥ IsOwn w before table id walk ∥₁ → ∥ IsLegal w after ∥₁ → ∥ Uses w before after [] [] ∥₁
  away-uses before after event id table walk mine unbegun e own legal = ∥∥₁_elim own ∥∥₁_prop
      (λ o. ∥∥₁_map legal (λ l.
      let was = o.stands in
      let there : at was.state.requests (whose event)
      ≡ Some (placed was.origin walk.position (assigned was.node)) = ap (at was.state.requests)
      mine ∙ was.there in
      over-uses before after event was.state l.0 was.history l.1 e
      (placed was.origin walk.position (assigned was.node)) there (λ a. a) unbegun))

-- what holds at all holds unless memory is wanted
pub unless-any : (end : Option End) (P : Type 0) → P → UnlessMemory end P
unless-any None P p = p
unless-any (Some (Root result)) P p = p
unless-any (Some (Circular runs)) P p = p
unless-any (Some (TooDeep keys)) P p = p
unless-any (Some (TooMany instance)) P p = p
unless-any (Some NoMemory) P p = tt

pub unless-wanted : (end : Option End) (P : Type 0) → end ≡ Some NoMemory → UnlessMemory end P
unless-wanted end P e = subst (λ x. UnlessMemory x P) (sym e) tt

pub unless-map : (end : Option End) (P Q : Type 0) → (P → Q) → UnlessMemory end P
    → UnlessMemory end Q
unless-map None P Q f p = f p
unless-map (Some (Root result)) P Q f p = f p
unless-map (Some (Circular runs)) P Q f p = f p
unless-map (Some (TooDeep keys)) P Q f p = f p
unless-map (Some (TooMany instance)) P Q f p = f p
unless-map (Some NoMemory) P Q f p = tt

module _ {W P I A : Type 0} (seen : W → Seen P I A) (w : World P I A) where
  -- the build is stopped
  pub stopped-uses : (before after : List Event) (table : Records) (turn : Turn W) → after ≡ before
      → turn ≡ Over → ∥ Uses w before after [] (due_in seen w table turn) ∥₁
  stopped-uses before after table turn e over = subst
      (λ x. ∥ Uses w before after [] (due_in seen w table x) ∥₁) (sym over) ∣ uses-none w before
      after [] e ∣₁

  -- the walk has used what its answer gave it to use, and then its ask is answered
  pub step-uses : (before after : List Event) (table records : Records) (id : ℕ) (walk next : W)
      (answer : Answer) (turn : Turn W) (end : Option End) (used now : List (ToolUse I))
      → ∥ IsOut w before table id (seen walk) answer ∥₁ →
      answered (seen walk).world table (seen walk).position answer ≡ Some (seen next).position
      → now ≡ used ++ used_between (seen walk).position.place (seen next).position.place →
      ∥ Uses w before after [] (due_in seen w records turn) ∥₁
      → UnlessMemory end
      ∥ Uses w before after (used ++ due w table (seen walk) answer)
      (now ++ due_in seen w records turn) ∥₁
  step-uses before after table records id walk next answer turn end used now out takes is uses =
      unless-any end _ (∥∥₁_elim out ∥∥₁_prop (λ o. ∥∥₁_map uses (λ u.
      let there : answered w table (seen walk).position answer
      ≡ Some (seen next).position = ap (λ v. answered v table (seen walk).position answer)
      (sym o.world) ∙ takes in
      let same : now ≡ used ++ due w table (seen walk) answer = is
      ∙ ap (λ x. used ++ due_to (seen walk).position.place x) (sym there) in
      subst
      (λ x. Uses w before after (used ++ due w table (seen walk) answer)
      (x ++ due_in seen w records turn)) (sym same)
      (uses-from w before after (used ++ due w table (seen walk) answer)
      (due_in seen w records turn) u))))

module _ {P I A : Type 0} (w v : World P I A) where
  -- a request is handed out, and worked at
  pub turn-uses : (before mid after : List Event) (used d now : List (ToolUse I)) (end : Option End)
      (same : List (ToolUse I)) → v ≡ w → same ≡ d → ∥ Uses w before mid [] d ∥₁
      → UnlessMemory end ∥ Uses v mid after (used ++ same) now ∥₁ →
      UnlessMemory end ∥ Uses w before after used now ∥₁
  turn-uses before mid after used d now end same e f handed worked = unless-map end _ _
      (λ x. ∥∥₁_elim handed ∥∥₁_prop (λ h. ∥∥₁_map x (λ y.
      uses-more w before mid after used (used ++ d) now (uses-from w before mid used d h)
      (subst (λ ts. Uses w mid after (used ++ ts) now) f
      (subst (λ u. Uses u mid after (used ++ same) now) e y))))) worked

module _ {W P I A : Type 0} (seen : W → Seen P I A) (w v : World P I A) where
  -- a request that goes on has gone on once more
  pub loop-uses : (first before after : List Event) (table records : Records)
      (from used now : List (ToolUse I)) (walk : W) (answer : Answer) (turn next : Turn W)
      (ended end : Option End) → v ≡ w → ended ≡ None → turn ≡ GoesOn walk answer →
      UnlessMemory ended ∥ Uses w first before from (used ++ due_in seen w table turn) ∥₁
      → UnlessMemory end
      ∥ Uses v before after (used ++ due v table (seen walk) answer)
      (now ++ due_in seen v records next) ∥₁ →
      UnlessMemory end ∥ Uses w first after from (now ++ due_in seen w records next) ∥₁
  loop-uses first before after table records from used now walk answer turn next ended end same
      running is so_far more = unless-map end _ _ (λ x.
      let before_it :
      ∥ Uses w first before from (used ++ due_in seen w table (GoesOn walk answer)) ∥₁ =
      subst (λ t. ∥ Uses w first before from (used ++ due_in seen w table t) ∥₁) is
      (subst
      (λ e. UnlessMemory e ∥ Uses w first before from (used ++ due_in seen w table turn) ∥₁)
      running so_far) in
      let step :
      ∥ Uses w before after (used ++ due w table (seen walk) answer)
      (now ++ due_in seen w records next) ∥₁ =
      subst
      (λ u.
      ∥ Uses u before after (used ++ due u table (seen walk) answer)
      (now ++ due_in seen u records next) ∥₁) same x in
      ∥∥₁_elim before_it ∥∥₁_prop
      (λ b.
      ∥∥₁_map step
      (λ s. uses-more w first before after from (used ++ due w table (seen walk) answer)
      (now ++ due_in seen w records next) b s))) more

  -- it has left the node
  pub over-turn : (first after : List Event) (records : Records) (from now : List (ToolUse I))
      (turn : Turn W) (end : Option End) → turn ≡ Over
      → UnlessMemory end ∥ Uses w first after from (now ++ due_in seen w records turn) ∥₁
      → UnlessMemory end ∥ Uses w first after from now ∥₁
  over-turn first after records from now turn end is uses = unless-map end _ _ (λ x.
      subst (λ ts. ∥ Uses w first after from ts ∥₁) (append-nil now)
      (subst (λ t. ∥ Uses w first after from (now ++ due_in seen w records t) ∥₁) is x)) uses

  -- one more turn
  pub turns-uses : (first before after : List Event) (from used now : List (ToolUse I))
      (ended end : Option End) → v ≡ w → ended ≡ None
      → UnlessMemory ended ∥ Uses w first before from used ∥₁
      → UnlessMemory end ∥ Uses v before after used now ∥₁ →
      UnlessMemory end ∥ Uses w first after from now ∥₁
  turns-uses first before after from used now ended end same running so_far more = unless-map end _
      _ (λ x.
      let before_it : ∥ Uses w first before from used ∥₁ = subst
      (λ e. UnlessMemory e ∥ Uses w first before from used ∥₁) running so_far in
      ∥∥₁_elim before_it ∥∥₁_prop
      (λ b.
      ∥∥₁_map x
      (λ s. uses-more w first before after from used now b
      (subst (λ u. Uses u before after used now) same s)))) more
