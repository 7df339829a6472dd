-- A request that is over at once: it goes to the node as the least ready one, is in no body there,
-- and leaves it. (MSBuild task: a target is run once)
use Rattle.std.proofs.Common.{
  ◌≡◌,
  ◌<◌,
  ◌+◌,
  ℕ,
  List,
  [],
  ◌∷◌,
  ◌++◌,
  length,
  drop,
  None,
  Some,
  refl,
  ap,
  sym,
  ◌∙◌,
  subst,
  arith,
  append-nil,
  append_assoc,
}
use Rattle.std.proofs.Math.Bridge.{le_prop}
use Rattle.std.proofs.Math.Logic.{∥∥₁_elim, ∥∥₁_map, ∥∥₁_prop}
use Rattle.std.proofs.Props.{props}
use Rattle.std.proofs.lemmas.List.{length-append}
use Rattle.std.specs.Coded.{codes, Coded-set}
use Rattle.result_cache.specs.declared.run.RunId.{RunId}
use Rattle.result_cache.specs.Table.{Records}
use Rattle.result_cache.proofs.RunTests.{and_then-some}
use Rattle.build_meaning.specs.declared.event.Event.{Event}
use Rattle.build_meaning.specs.declared.event.Event.TheVariants.{
  Assign,
  Claim,
  Request,
  Result,
  Done,
  Retire,
}
use Rattle.build_meaning.specs.declared.event.ClaimKind.TheVariants.{Use}
use Rattle.build_meaning.specs.Lists.{at}
use Rattle.build_meaning.specs.World.{World}
use Rattle.build_meaning.specs.Walk.{gives, wants}
use Rattle.build_meaning.specs.SoFar.{ToolUse}
use Rattle.build_meaning.specs.State.{
  with_status,
  walking,
  Status,
  assigned,
  RequestState,
  State,
  start,
}
use Rattle.build_meaning.specs.Step.{whose, step_of, step, after_all}
use Rattle.build_meaning.specs.History.{IsHistory}
use Rattle.build_meaning.proofs.ConsistentTables.{after-more}
use Rattle.build_meaning.proofs.EventsKeepLawful.{some-is}
use Rattle.build_meaning.proofs.ParentsAndChildren.{same_some}
use Rattle.build_history.specs.Repeated.{uses_of_all}
use Rattle.build_history.specs.Uses.{body_at, new_uses, uses_in}
use Rattle.build_history.proofs.BodiesMove.{IsGo, Own, rests, goes, begins, finishes, step-moved}
use Rattle.build_history.proofs.UsesTold.{event-uses}
use Rattle.build_scheduler.specs.Kept.{repeats, IsRepeat}
use Rattle.build_scheduler.specs.Ready.{IsLeastReady}
use Rattle.build_plain.specs.Driven.{NoneAssigned, OnlyAssigned, TakesLeast, AssignsLeast, Drives}
use Rattle.build_scheduler.specs.Drivers.{IsLegal}
use Rattle.build_plain.specs.Used.{Uses}
use Rattle.build_plain.proofs.OneAtATime.{one-assigned, one-stays, none-stays}

-- the event's request is between two runs, and begins none
abbrev IsBetween : Event → Type 0
IsBetween (Claim id run Use) = Unit {0}
IsBetween (Done id) = Unit {0}
IsBetween event = ⊥

abbrev AllBetween : List Event → Type 0
AllBetween [] = Unit {0}
AllBetween (event ∷ events) = IsBetween event × AllBetween events

-- what comes after a request that is over at once has gone to its node
abbrev rest_of : ℕ → List RunId → List Event
rest_of id runs = uses_of_all id runs ++ Done id ∷ []

rest-between : (id : ℕ) (runs : List RunId) → AllBetween (rest_of id runs)
rest-between id [] = (tt, tt)
rest-between id (run ∷ runs) = (tt, rest-between id runs)

not-go : (event : Event) → IsBetween event → IsGo event → ⊥
not-go (Claim id run Use) between go = go
not-go (Done id) between go = go
not-go _ between go = absurd between

drop-front : {X : Type 0} (xs ys : List X) → drop (length xs) (xs ++ ys) ≡ ys
drop-front [] ys = refl
drop-front (x ∷ xs) ys = drop-front xs ys

module _ {P I A : Type 0} (w : World P I A) where
  -- a request that uses a record, or is over, is in no body
  bodiless-of : (s t : State P I A) (event : Event) (q : RequestState P I A)
      (u : Status P I A) → IsBetween event → step_of w s event (with_status q u) ≡ Some t →
      body_at u ≡ None
  bodiless-of s t (Claim id run Use) q (assigned m (walking (wants site r b go))) f h = refl
  bodiless-of s t (Claim id run Use) q _ f h = absurd (cc)
  bodiless-of s t (Done id) q (assigned m (walking (gives reply))) f h = refl
  bodiless-of s t (Done id) q _ f h = absurd (cc)
  bodiless-of s t _ q u f h = absurd f

  bodiless : (s t : State P I A) (event : Event) (q : RequestState P I A) → IsBetween event →
      at s.requests (whose event) ≡ Some q → step w s event ≡ Some t → body_at q.status ≡ None
  bodiless s t event q f there h =
      let z = and_then-some (at s.requests (whose event)) (step_of w s event) t h in
      let same : z.0 ≡ q = same_some (at s.requests (whose event)) z.0 q z.1 there in
      ap (λ (x : RequestState P I A). body_at x.status) (sym same)
      ∙ bodiless-of s t event z.0 z.0.status f z.2

  -- and stays in none where it begins no run
  stays-bodiless : (s t : State P I A) (event : Event) (q b : RequestState P I A) →
      (IsGo event → ⊥) → at s.requests (whose event) ≡ Some q → body_at q.status ≡ None →
      Own s t event b → body_at b.status ≡ None
  stays-bodiless s t event q b unbegun there e (rests none f) = none
  stays-bodiless s t event q b unbegun there e (goes p was same f) =
      same ∙ (ap (λ (x : RequestState P I A). body_at x.status)
      (same_some (at s.requests (whose event)) p q was there) ∙ e)
  stays-bodiless s t event q b unbegun there e (begins p x go was none f n k) = absurd (unbegun go)
  stays-bodiless s t event q b unbegun there e (finishes p x was u f none k) = none

  -- an event after which its request is in no body adds no use of a tool
  quiet : (before : List Event) (event : Event) (s t : State P I A) → IsHistory w before s →
      (g : step w s event ≡ Some t) → body_at (step-moved w s t event g).mine.status ≡ None →
      uses_in w (before ++ event ∷ []) ≡ uses_in w before
  quiet before event s t h g none =
      event-uses w before event s t h g
      ∙ (ap (λ o. uses_in w before ++ new_uses (uses_in w before) o) none
      ∙ append-nil (uses_in w before))

  quiet-between : (before events : List Event) (s t : State P I A) → IsHistory w before s →
      after_all w s events ≡ Some t → AllBetween events →
      uses_in w (before ++ events) ≡ uses_in w before
  quiet-between before [] s t h g f = ap (uses_in w) (append-nil before)
  quiet-between before (event ∷ events) s t h g f =
      let y = and_then-some (step w s event) (λ next. after_all w next events) t g in
      let z = and_then-some (at s.requests (whose event)) (step_of w s event) y.0 y.1 in
      let m = step-moved w s y.0 event y.1 in
      let none = stays-bodiless s y.0 event z.0 m.mine (not-go event f.0) z.1
      (bodiless s y.0 event z.0 f.0 z.1 y.1) m.own in
      ap (uses_in w) (sym (append_assoc before (event ∷ []) events))
      ∙ (quiet-between (before ++ event ∷ []) events y.0 t
      (after-more w before event (start w) s y.0 h y.1) y.2 f.1
      ∙ quiet before event s y.0 h y.1 none)

  -- a request that uses a record next, or is over next, is in no body
  next-bodiless : (id : ℕ) (runs : List RunId) (s t : State P I A) (q : RequestState P I A) →
      after_all w s (rest_of id runs) ≡ Some t → at s.requests id ≡ Some q →
      body_at q.status ≡ None
  next-bodiless id [] s t q g there =
      let y = and_then-some (step w s (Done id)) (λ next. after_all w next []) t g in
      bodiless s y.0 (Done id) q tt there y.1
  next-bodiless id (run ∷ runs) s t q g there =
      let y = and_then-some (step w s (Claim id run Use))
      (λ next. after_all w next (rest_of id runs)) t g in
      bodiless s y.0 (Claim id run Use) q tt there y.1

  -- it leaves its node in the end
  rest-leaves : (id : ℕ) (before : List Event) (runs : List RunId) (s t : State P I A) →
      IsHistory w before s → after_all w s (rest_of id runs) ≡ Some t →
      OnlyAssigned w before id → NoneAssigned w (before ++ rest_of id runs)
  rest-leaves id before [] s t h g only =
      none-stays w before (before ++ Done id ∷ []) (Done id) ∣ (s, h) ∣₁ refl id refl tt only
  rest-leaves id before (run ∷ runs) s t h g only =
      let y = and_then-some (step w s (Claim id run Use))
      (λ next. after_all w next (rest_of id runs)) t g in
      subst (λ es. NoneAssigned w es)
      (append_assoc before (Claim id run Use ∷ []) (rest_of id runs))
      (rest-leaves id (before ++ Claim id run Use ∷ []) runs y.0 t
      (after-more w before (Claim id run Use) (start w) s y.0 h y.1) y.2
      (one-stays w before (before ++ Claim id run Use ∷ []) (Claim id run Use) ∣ (s, h) ∣₁ refl id
      refl only))

  between-takes : (before : List Event) (event : Event) → IsBetween event →
      TakesLeast w before event
  between-takes before (Claim id run Use) f = tt
  between-takes before (Done id) f = tt
  between-takes before _ f = absurd f

  between-least : (before events : List Event) → AllBetween events → AssignsLeast w before events
  between-least before [] f = tt
  between-least before (event ∷ events) f =
      (between-takes before event f.0, between-least (before ++ event ∷ []) events f.1)

  takes-prop : (before : List Event) (event : Event) (p q : TakesLeast w before event) → p ≡ q
  takes-prop before (Assign id node) = hlevel props
  takes-prop before (Retire id node) = hlevel props
  takes-prop before (Claim id run kind) = hlevel props
  takes-prop before (Request id keys) = hlevel props
  takes-prop before (Result id run) = hlevel props
  takes-prop before (Done id) = hlevel props

  least-prop : (before events : List Event) (p q : AssignsLeast w before events) → p ≡ q
  least-prop before [] p q = refl
  least-prop before (event ∷ events) p q =
      λ i. (takes-prop before event p.0 q.0 i, least-prop (before ++ event ∷ []) events p.1 q.1 i)

events-set : IsSet (List Event)
events-set = hlevel (codes, Coded-set)

module _ {P I A : Type 0} (w : World P I A) (table : Records) (before after : List Event) (id : ℕ)
    (repeated : ∥ IsRepeat w table before after id 0 ∥₁) where
  -- what the node is handed is the least ready request
  pub repeat-drives : NoneAssigned w before → IsLeastReady w before (Some id) →
      Drives w before after
  repeat-drives none least = record {
    more = drop (length before) after;
    is = ∥∥₁_elim repeated (events-set after (before ++ drop (length before) after)) (λ r.
        r.is ∙ ap (λ es. before ++ es) (sym (more-is r)));
    least = ∥∥₁_elim repeated (least-prop w before (drop (length before) after)) (λ r.
        subst (λ es. AssignsLeast w before es) (sym (more-is r)) (
          (none, least, refl),
          between-least w (before ++ Assign id 0 ∷ []) (rest_of id r.rest)
              (rest-between id r.rest),
        ));
  }
    where
      more-is : (r : IsRepeat w table before after id 0) →
          drop (length before) after ≡ repeats id 0 r.rest
      more-is r = ap (drop (length before)) r.is ∙ drop-front before (repeats id 0 r.rest)

  pub repeat-grows : length before < length after
  repeat-grows = ∥∥₁_elim repeated (λ p q. le_prop p q) (λ r.
      let all : length after ≡ length ((before ++ Assign id 0 ∷ []) ++ rest_of id r.rest) =
      ap length (r.is ∙ sym (append_assoc before (Assign id 0 ∷ []) (rest_of id r.rest))) in
      let both : length ((before ++ Assign id 0 ∷ []) ++ rest_of id r.rest)
      ≡ length (before ++ Assign id 0 ∷ []) + length (rest_of id r.rest) =
      length-append (before ++ Assign id 0 ∷ []) (rest_of id r.rest) in
      let one : length (before ++ Assign id 0 ∷ []) ≡ length before + 1 =
      length-append before (Assign id 0 ∷ []) in
      omega arith)

  module _ (legal : ∥ IsLegal w after ∥₁) where
    -- how the history goes on from before, once its request has gone to its node
    record Handed (r : IsRepeat w table before after id 0) : Type 0 where
      state : State P I A
      last : State P I A
      handed : step w r.state (Assign id 0) ≡ Some state
      history : IsHistory w (before ++ Assign id 0 ∷ []) state
      goes_on : after_all w state (rest_of id r.rest) ≡ Some last
      together : after ≡ (before ++ Assign id 0 ∷ []) ++ rest_of id r.rest

    rest-after : (events more : List Event) (u s t : State P I A) → after_all w u events ≡ Some s →
        after_all w u (events ++ more) ≡ Some t → after_all w s more ≡ Some t
    rest-after [] more u s t h g =
        subst (λ (x : State P I A). after_all w x more ≡ Some t) (some-is u s h) g
    rest-after (event ∷ events) more u s t h g =
        let y = and_then-some (step w u event) (λ next. after_all w next events) s h in
        let z = and_then-some (step w u event) (λ next. after_all w next (events ++ more)) t g in
        let same : z.0 ≡ y.0 = same_some (step w u event) z.0 y.0 z.1 y.1 in
        rest-after events more y.0 s t y.2
        (subst (λ (x : State P I A). after_all w x (events ++ more) ≡ Some t) same z.2)

    handed-of : (r : IsRepeat w table before after id 0) → IsLegal w after → Handed r
    handed-of r l =
        let more : after_all w r.state (repeats id 0 r.rest) ≡ Some l.0 =
        rest-after before (repeats id 0 r.rest) (start w) r.state l.0 r.history
        (subst (λ es. IsHistory w es l.0) r.is l.1) in
        let y = and_then-some (step w r.state (Assign id 0))
        (λ next. after_all w next (rest_of id r.rest)) l.0 more in record {
          state = y.0;
          last = l.0;
          handed = y.1;
          history = after-more w before (Assign id 0) (start w) r.state y.0 r.history y.1;
          goes_on = y.2;
          together = r.is ∙ sym (append_assoc before (Assign id 0 ∷ []) (rest_of id r.rest));
        }

    -- it is with its node no longer
    pub repeat-free : NoneAssigned w before → NoneAssigned w after
    repeat-free none = λ n a. ∥∥₁_elim repeated (λ z. absurd z) (λ r.
        ∥∥₁_elim legal (λ z. absurd z) (λ l.
        let h = handed-of r l in
        subst (λ es. NoneAssigned w es) (sym h.together)
        (rest-leaves w id (before ++ Assign id 0 ∷ []) r.rest h.state h.last h.history h.goes_on
        (one-assigned w before (before ++ Assign id 0 ∷ []) (Assign id 0)
        ∣ (r.state, r.history) ∣₁ refl id refl none)) n a))

    -- and has used no tool
    pub repeat-uses : (tools : List (ToolUse I)) → ∥ Uses w before after tools tools ∥₁
    repeat-uses tools = ∥∥₁_elim repeated ∥∥₁_prop (λ r. ∥∥₁_map legal (λ l.
        let h = handed-of r l in
        let m = step-moved w r.state h.state (Assign id 0) h.handed in record {
          more = [];
          uses = ap (uses_in w) h.together
              ∙ (quiet-between w (before ++ Assign id 0 ∷ []) (rest_of id r.rest) h.state h.last
              h.history h.goes_on (rest-between id r.rest)
              ∙ (quiet w before (Assign id 0) r.state h.state r.history h.handed
              (next-bodiless w id r.rest h.state h.last m.mine h.goes_on m.there)
              ∙ sym (append-nil (uses_in w before))));
          tools = sym (append-nil tools);
        }))

-- where nothing has come, what held before holds now
module _ {P I A : Type 0} (w v : World P I A) (before now : List Event) (world : v ≡ w)
    (events : now ≡ before) where
  pub as-before : (F : World P I A → List Event → Type 0) → F w before → F v now
  as-before F x = subst (λ u. F u now) (sym world) (subst (λ es. F w es) (sym events) x)
