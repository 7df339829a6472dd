-- In a history of a whole and steady world nothing is refused.
use Rattle.std.proofs.Common.{
  ◌≡◌,
  ℕ,
  suc,
  ◌<◌,
  ◌≤◌,
  Bool,
  true,
  false,
  ◌&&◌,
  inl,
  inr,
  List,
  [],
  ◌∷◌,
  ◌++◌,
  length,
  map,
  Some,
  refl,
  ap,
  sym,
  ◌∙◌,
  subst,
  arith,
}
use Rattle.std.specs.Prelude.{nat_lt, nat_le}
use Rattle.std.proofs.lemmas.Bool.{le-leb}
use Rattle.msb_values.specs.declared.key.InstanceKey.{InstanceKey}
use Rattle.result_cache.specs.declared.run.RunId.{RunId}
use Rattle.result_cache.specs.declared.request.RequestKey.{RequestKey}
use Rattle.result_cache.specs.declared.request.RequestResult.{RequestResult}
use Rattle.result_cache.specs.Same.{same_instance}
use Rattle.result_cache.specs.Exact.{instance-exact}
use Rattle.build_meaning.specs.declared.event.Event.{Event}
use Rattle.result_cache.specs.Lists.{In}
use Rattle.build_meaning.specs.Lists.{at, Paired}
use Rattle.result_cache.specs.Journal.{Journal}
use Rattle.build_meaning.specs.World.{World}
use Rattle.build_meaning.specs.Walk.{gives, wants}
use Rattle.build_meaning.specs.Meaning.{
  Demanded,
  requested,
  together,
  joined,
  built,
  Given,
  deepest,
  most_instances,
}
use Rattle.build_meaning.specs.Demand.{
  instances,
  is_among,
  with_unless,
  distinct,
  IsWhole,
  IsSteady,
}
use Rattle.build_meaning.specs.Stop.{ends, asks}
use Rattle.build_meaning.specs.State.{
  with_status,
  Place,
  walking,
  within,
  Status,
  assigned,
  waits,
  RequestState,
  State,
}
use Rattle.build_meaning.specs.Cycle.{is_in_cycle}
use Rattle.build_meaning.specs.Step.{waiting, is_within_limits, instance_of}
use Rattle.build_meaning.specs.History.{IsHistory}
use Rattle.build_meaning.specs.Progress.{CanGoOn, IsRefused}
use Rattle.result_cache.proofs.RunTests.{clash, or_left, or_right, or_cases}
use Rattle.build_meaning.specs.Derived.{OfCalls, no_calls, one_call}
use Rattle.build_meaning.proofs.PairedLists.{Paired-some}
use Rattle.build_meaning.proofs.EventsKeepLawful.{put-lawful}
use Rattle.build_meaning.proofs.NeedsOfRuns.{in-append, no_cycle}
use Rattle.build_meaning.specs.Stands.{Contained, Goal, Stands}
use Rattle.build_meaning.proofs.RequestsStand.{Standing, called_in, put-stands}
use Rattle.build_meaning.proofs.MeaningAgreed.{one_made, stands}
use Rattle.build_meaning.proofs.HistoriesGoOn.{goes}

-- instances
same-in : (x : InstanceKey) (xs : List InstanceKey) → In x xs → is_among x xs ≡ true
same-in x [] i = absurd i
same-in x (y ∷ xs) (inl p) = or_left (same_instance y x) (is_among x xs) ((instance-exact y x).1 p)
same-in x (y ∷ xs) (inr i) = or_right (same_instance y x) (is_among x xs) (same-in x xs i)

in-same : (x : InstanceKey) (xs : List InstanceKey) → is_among x xs ≡ true → In x xs
in-same x [] h = absurd (cc)
in-same x (y ∷ xs) h = elim (or_cases (same_instance y x) (is_among x xs) h)
    [ inl p ↦ inl ((instance-exact y x).0 p) | inr p ↦ inr (in-same x xs p) ]

in-distinct : (x : InstanceKey) (xs : List InstanceKey) → In x xs → In x (distinct xs)
in-distinct x [] i = absurd i
in-distinct x (y ∷ xs) i = go (is_among y xs) refl i (in-distinct x xs)
  where
    go : (b : Bool) → is_among y xs ≡ b → In x (y ∷ xs) → (In x xs → In x (distinct xs))
        → In x (with_unless b y (distinct xs))
    go true e (inl p) ih = ih (subst (λ z. In z xs) p (in-same y xs e))
    go true e (inr i) ih = ih i
    go false e (inl p) ih = inl p
    go false e (inr i) ih = inr (ih i)

distinct-in : (x : InstanceKey) (xs : List InstanceKey) → In x (distinct xs) → In x xs
distinct-in x [] i = absurd i
distinct-in x (y ∷ xs) i = go (is_among y xs) i (distinct-in x xs)
  where
    go : (b : Bool) → In x (with_unless b y (distinct xs)) → (In x (distinct xs) → In x xs)
        → In x (y ∷ xs)
    go true i ih = inr (ih i)
    go false (inl p) ih = inl p
    go false (inr i) ih = inr (ih i)

abbrev AreApart : List InstanceKey → Type 0
AreApart [] = Unit {0}
AreApart (x ∷ xs) = (In x xs → ⊥) × AreApart xs

distinct-apart : (xs : List InstanceKey) → AreApart (distinct xs)
distinct-apart [] = tt
distinct-apart (x ∷ xs) = go (is_among x xs) refl (distinct-apart xs)
  where
    go : (b : Bool) → is_among x xs ≡ b → AreApart (distinct xs)
        → AreApart (with_unless b x (distinct xs))
    go true e ih = ih
    go false e ih = ((λ i. clash (is_among x xs) (same-in x xs (distinct-in x xs i)) e), ih)

-- some without one
abbrev drop_if : Bool → InstanceKey → List InstanceKey → List InstanceKey
drop_if true x xs = xs
drop_if false x xs = x ∷ xs

abbrev less_one : InstanceKey → List InstanceKey → List InstanceKey
less_one x [] = []
less_one x (y ∷ ys) = drop_if (same_instance y x) y (less_one x ys)

in-less_one : (x y : InstanceKey) (ys : List InstanceKey) → In y ys → (y ≡ x → ⊥)
    → In y (less_one x ys)
in-less_one x y [] i n = absurd i
in-less_one x y (z ∷ ys) i n = go (same_instance z x) refl i (λ j. in-less_one x y ys j n)
  where
    go : (b : Bool) → same_instance z x ≡ b → In y (z ∷ ys) → (In y ys → In y (less_one x ys))
        → In y (drop_if b z (less_one x ys))
    go true e (inl p) ih = absurd (n (sym p ∙ (instance-exact z x).0 e))
    go true e (inr i) ih = ih i
    go false e (inl p) ih = inl p
    go false e (inr i) ih = inr (ih i)

least : (x : InstanceKey) (ys : List InstanceKey) → length (less_one x ys) ≤ length ys
least x [] = omega arith
least x (y ∷ ys) = go (same_instance y x) (least x ys)
  where
    go : (b : Bool) → length (less_one x ys) ≤ length ys
        → length (drop_if b y (less_one x ys)) ≤ suc (length ys)
    go true h = omega arith
    go false h = omega arith

less-less : (x : InstanceKey) (ys : List InstanceKey) → In x ys → length (less_one x ys) < length ys
less-less x [] i = absurd i
less-less x (y ∷ ys) i = go (same_instance y x) refl i (least x ys) (less-less x ys)
  where
    more : (a b : ℕ) → a < b → suc a < suc b
    more a b h = omega arith

    go : (b : Bool) → same_instance y x ≡ b → In x (y ∷ ys) → length (less_one x ys) ≤ length ys
        → (In x ys → length (less_one x ys) < length ys)
        → length (drop_if b y (less_one x ys)) < suc (length ys)
    go true e i h ih = omega arith
    go false e (inl p) h ih = absurd (clash (same_instance y x) ((instance-exact y x).1 p) e)
    go false e (inr j) h ih = more (length (less_one x ys)) (length ys) (ih j)

-- what is apart and among some is no more than these
no-more : (xs ys : List InstanceKey) → AreApart xs → ((x : InstanceKey) → In x xs → In x ys)
    → length xs ≤ length ys
no-more [] ys a f = none (length ys)
  where
    none : (n : ℕ) → 0 ≤ n
    none n = omega arith
no-more (x ∷ xs) ys a f =
    step (length xs) (length (less_one x ys)) (length ys)
    (no-more xs (less_one x ys) a.1
    (λ y i. in-less_one x y ys (f y (inr i)) (λ p. a.0 (subst (λ z. In z xs) p i))))
    (less-less x ys (f x (inl refl)))
  where
    step : (a b c : ℕ) → a ≤ b → b < c → suc a ≤ c
    step a b c h g = omega arith

pub distinct-least : (xs ys : List InstanceKey) → ((x : InstanceKey) → In x xs → In x ys)
    → length (distinct xs) ≤ length (distinct ys)
distinct-least xs ys f = no-more (distinct xs) (distinct ys) (distinct-apart xs)
    (λ x i. in-distinct x ys (f x (distinct-in x xs i)))

in-instances : {P I : Type 0} (demand : List (Demanded P I)) (key : RequestKey) →
    In (requested key) demand → In key.instance (instances demand)
in-instances [] key i = absurd i
in-instances (requested k ∷ demand) key (inl p) = let q : k
    ≡ key = cc in inl (ap (λ (y : RequestKey). y.instance) q)
in-instances (requested k ∷ demand) key (inr i) = inr (in-instances demand key i)
in-instances (together keys ∷ demand) key (inl p) = absurd (cc)
in-instances (together keys ∷ demand) key (inr i) = in-instances demand key i
in-instances (joined a b c ∷ demand) key (inl p) = absurd (cc)
in-instances (joined a b c ∷ demand) key (inr i) = in-instances demand key i
in-instances (built s r j m t ∷ demand) key (inl p) = absurd (cc)
in-instances (built s r j m t ∷ demand) key (inr i) = in-instances demand key i

pub in-mapped : {X Y : Type 0} (f : X → Y) (xs : List X) (y : Y) → In y (map f xs)
    → (x : X) × In x xs × (f x ≡ y)
in-mapped f [] y i = absurd i
in-mapped f (x ∷ xs) y (inl p) = (x, inl refl, p)
in-mapped f (x ∷ xs) y (inr i) = let u = in-mapped f xs y i in (u.0, inr u.1, u.2)

calls-asked : {P I A : Type 0} {w : World P I A} {D : Demanded P I → Type 0} {path : List RunId}
    {j a : Journal} {keys : List RequestKey} {results : List RequestResult} {k : Journal} →
    OfCalls w D path j a keys results k → (key : RequestKey) → In key keys → D (requested key)
calls-asked no_calls k i = absurd i
calls-asked {D = D} (one_call {key = key} d less x so rest) k (inl p) =
    subst (λ (y : RequestKey). D (requested y)) p d
calls-asked (one_call d less x so rest) k (inr i) = calls-asked rest k i

not-deep : {P I A : Type 0} {w : World P I A} {D : Demanded P I → Type 0} {path : List RunId}
    {j a : Journal} {key : RequestKey} {keys : List RequestKey} {results : List RequestResult}
    {k : Journal} →
    OfCalls w D path j a (key ∷ keys) results k → nat_lt (length path) deepest ≡ true
not-deep (one_call d less x so rest) = less

module _ {P I A : Type 0} (w : World P I A) (out : Given P I RequestResult) (whole : IsWhole w out)
    (steady : IsSteady out.demand) where
  abbrev pub S : State P I A → List Goal → Type 0
  S = Standing w (Contained out) (one_made out steady)

  requests-asked : (all goals : List Goal) (rs : List (RequestState P I A)) →
      Paired (Stands w (Contained out) all) rs goals → (q : RequestState P I A) → In q rs →
      In (requested q.origin.key) out.demand
  requests-asked all [] [] v q i = absurd i
  requests-asked all (g ∷ goals) (x ∷ rs) v q (inl p) =
      subst (λ (y : RequestState P I A). In (requested y.origin.key) out.demand) p v.0.asked
  requests-asked all (g ∷ goals) (x ∷ rs) v q (inr i) = requests-asked all goals rs v.1 q i
  requests-asked all [] (x ∷ rs) v q i = absurd v
  requests-asked all (g ∷ goals) [] v q i = absurd v

  within-limits : (s : State P I A) (goals : List Goal) → S s goals →
      {path : List RunId} {j : Journal} {key : RequestKey} {more : List RequestKey}
      {results : List RequestResult} {k : Journal} →
      OfCalls w (Contained out) path j j (key ∷ more) results k
      → is_within_limits w s path (key ∷ more) ≡ true
  within-limits s goals v {path = path} {key = key} {more = more} c =
      let all : List InstanceKey = map (instance_of w) s.requests
      ++ map (λ (k : RequestKey). k.instance) (key ∷ more) in
      let among : (x : InstanceKey) → In x all
      → In x (instances out.demand) = λ x i.
      elim
      (in-append x (map (instance_of w) s.requests)
      (map (λ (k : RequestKey). k.instance) (key ∷ more)) i) [
        | inl a ↦ let y = in-mapped (instance_of w) s.requests x a in subst
            (λ z. In z (instances out.demand)) y.2
            (in-instances out.demand y.0.origin.key
            (requests-asked goals goals s.requests v.each y.0 y.1))
        | inr a ↦ let y = in-mapped (λ (k : RequestKey). k.instance) (key ∷ more) x a in subst
            (λ z. In z (instances out.demand)) y.2
            (in-instances out.demand y.0 (calls-asked c y.0 y.1))
      ] in
      let few : length (distinct all) ≤ most_instances = low (length (distinct all))
      (length (distinct (instances out.demand))) most_instances
      (distinct-least all (instances out.demand) among) whole.few in
      ap (λ b. b && nat_le (length (distinct all)) most_instances) (not-deep c)
      ∙ le-leb (length (distinct all)) most_instances few
    where
      low : (a b c : ℕ) → a ≤ b → b ≤ c → a ≤ c
      low a b c h g = omega arith

  place-free : (s : State P I A) (goals : List Goal) → S s goals →
      (id node : ℕ) (old : RequestState P I A) (place : Place P I A) →
      at s.requests id ≡ Some (with_status old (assigned node place)) →
      IsRefused w s id (with_status old (assigned node place)) place → ⊥
  place-free s goals v id node old (walking (gives reply)) e h = h
  place-free s goals v id node old (walking (wants site r b go)) e h =
      let q : RequestState P I A =
      with_status old (assigned node (walking (wants site r b go))) in
      let l = v.lawful.each id q e in
      let lw = put-lawful s id (with_status old (waits r b go)) v.lawful
      (record { journal = l.journal; status = (h.0, h.1) }) in
      let t = put-stands w (Contained out) (one_made out steady) s goals id q (with_status old
      (waits r b go)) v e lw
      (λ g a. record { asked = a.asked; stands = (site, a.stands) }) in
      clash (is_in_cycle (waiting w s id old r b go) r) h.2
      (no_cycle w (Contained out) (one_made out steady) (waiting w s id old r b go) goals r
      t)
  place-free s goals v id node old (within x (ends outcome)) e h = h
  place-free s goals v id node old (within x (asks key more go)) e h =
      let here = Paired-some (Stands w (Contained out) goals) s.requests goals id
      (with_status old (assigned node (within x (asks key more go)))) v.each e in
      let y = called_in w (Contained out) (one_made out steady) old.origin.path old.journal old.runs
      x.run x.so_far key
      more go x.go here.0 here.1.stands in
      clash (is_within_limits w s (x.run ∷ old.origin.path) (key ∷ more))
      (within-limits s goals v y.2) h

  -- nothing that a request with a node asks for is refused
  pub nothing_refused : (events : List Event) (s : State P I A) → IsHistory w events s →
      (id node : ℕ) (q : RequestState P I A) (place : Place P I A) → at s.requests id ≡ Some q →
      q.status ≡ assigned node place → CanGoOn w s id place
  nothing_refused events s h id node q place e st =
      let k = stands w out whole steady events s h in
      let d : q ≡ with_status q (assigned node place) =
      ap (λ (a : Status P I A). with_status q a) st in
      elim (goes w events s h id node q place e st) [
        | inl y ↦ y
        | inr y ↦
            absurd (place-free s k.0 k.1 id node q place (e ∙ ap Some d)
            (subst (λ (a : RequestState P I A). IsRefused w s id a place) d y))
      ]
