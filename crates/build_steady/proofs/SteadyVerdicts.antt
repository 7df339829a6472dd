-- The verdict that a world is steady, and that it is whole and steady, come to the same.
use Rattle.std.proofs.Common.{
  ◌≡◌,
  ◌≤◌,
  ◌<◌,
  ◌+◌,
  ℕ,
  zero,
  suc,
  Bool,
  true,
  false,
  ◌⊎◌,
  inl,
  inr,
  List,
  [],
  ◌∷◌,
  ◌++◌,
  length,
  Option,
  None,
  Some,
  refl,
  ap,
  sym,
  ◌∙◌,
  subst,
  append_assoc,
  arith,
}
use Rattle.std.specs.Prelude.{nat_le, nat_lt}
use Rattle.std.proofs.lemmas.Bool.{le-leb, leb-true, leb-false, lt-ltb, ltb-true, ltb-false}
use Rattle.std.proofs.lemmas.List.{append-nil, length-append}
use Rattle.msb_values.specs.declared.key.InstanceKey.{InstanceKey}
use Rattle.result_cache.specs.declared.run.RunId.{RunId}
use Rattle.result_cache.specs.declared.request.RequestResult.{RequestResult}
use Rattle.result_cache.specs.declared.record.Record.{Record}
use Rattle.result_cache.specs.ExactRecords.{record-exact}
use Rattle.result_cache.specs.Lists.{In, this_or}
use Rattle.result_cache.specs.Same.{same_run}
use Rattle.result_cache.specs.SameRecords.{same_record}
use Rattle.result_cache.proofs.RunTests.{same_run-refl, same_run-true}
use Rattle.build_meaning.specs.World.{World}
use Rattle.build_meaning.specs.Meaning.{Given, meaning, most_instances}
use Rattle.build_meaning.specs.Demand.{instances, distinct, built_runs, IsWhole, IsSteady}
use Rattle.build_meaning.specs.Sound.{IsMade}
use Rattle.build_meaning.proofs.MeaningDerived.{in-left, in-right}
use Rattle.build_meaning.proofs.NeedsOfRuns.{in-append}
use Rattle.build_scheduler.specs.Instances.{AreCounted, with_instance}
use Rattle.build_scheduler.proofs.InstanceCounts.{counted-one, counted-length, with_instance-grows}
use Rattle.build_steady.specs.Order.{
  DemandEvent,
  is_reached,
  is_too_deep,
  body_begins,
  body_ends,
  is_circular,
  order_of_demand,
}
use Rattle.build_steady.specs.Verdicts.{
  most_bodies,
  bodies_begun,
  reached,
  first_record,
  unless_so,
  if_differs,
  said_by,
  first_said,
  verdict_after,
  verdict_of,
}
use Rattle.build_steady.specs.declared.verdict.Verdict.{Verdict}
use Rattle.build_steady.specs.declared.verdict.Verdict.TheVariants.{
  Steady,
  Differs,
  Circular,
  TooDeep,
  TooMany,
  Spent,
}
use Rattle.build_steady.proofs.Events.{bodies-more, reached-more, or_later, first-more}
use Rattle.build_steady.proofs.Demands.{
  unbegun,
  demanded,
  IsEnd,
  HasEnd,
  Told,
  told-world,
  reached-unbegun,
  in-unbegun,
  IsKept,
  unbegun-in,
  reached-demanded,
  built-demanded,
  demanded-built,
  demanded-ends,
  end-kept,
}

-- nothing is said by any of the events that come after these
abbrev pub Quiet : List DemandEvent → List DemandEvent → Type 0
Quiet before [] = Unit {0}
Quiet before (e ∷ es) = (said_by before e ≡ None) × Quiet (before ++ e ∷ []) es

-- no event says that a world is steady
unless-steady : (b : Bool) (v : Verdict) (n : ℕ) → (v ≡ Steady n → ⊥) →
    unless_so b v ≡ Some (Steady n) → ⊥
unless-steady true v n f h = absurd (cc)
unless-steady false v n f h = f (let e : v ≡ Steady n = cc in e)

said-not : (before : List DemandEvent) (e : DemandEvent) (n : ℕ) → said_by before e
    ≡ Some (Steady n) → ⊥
said-not before (is_reached i) n h =
    unless-steady (nat_le (length (distinct (reached before ++ i ∷ []))) most_instances) (TooMany i)
    n (λ e. cc) h
said-not before (is_too_deep i) n h = absurd (cc)
said-not before (body_begins r) n h =
    unless-steady (nat_lt (bodies_begun before) most_bodies) (Spent most_bodies) n (λ e. cc) h
said-not before (body_ends r m) n h = go (first_record before r) h
  where
    go : (o : Option Record) → if_differs o r m ≡ Some (Steady n) → ⊥
    go None h = absurd (cc)
    go (Some f) h = unless-steady (same_record f m) (Differs r f m) n (λ e. cc) h
said-not before (is_circular r) n h = absurd (cc)

regroup : (xs : List DemandEvent) (e : DemandEvent) (es : List DemandEvent) →
    (xs ++ e ∷ []) ++ es ≡ xs ++ e ∷ es
regroup xs e es = append_assoc xs (e ∷ []) es

pub quiet-of : (before es : List DemandEvent) (n : ℕ) → verdict_after before es ≡ Steady n →
    Quiet before es × (bodies_begun (before ++ es) ≡ n)
quiet-of before [] n h =
    (tt, ap bodies_begun (append-nil before) ∙ (let e : bodies_begun before ≡ n = cc in e))
quiet-of before (e ∷ es) n h = go (said_by before e) refl h (quiet-of (before ++ e ∷ []) es n)
  where
    go : (o : Option Verdict) → said_by before e ≡ o →
        first_said o (verdict_after (before ++ e ∷ []) es) ≡ Steady n →
        (verdict_after (before ++ e ∷ []) es ≡ Steady n → Quiet (before ++ e ∷ []) es
        × (bodies_begun ((before ++ e ∷ []) ++ es) ≡ n)) →
        Quiet before (e ∷ es) × (bodies_begun (before ++ e ∷ es) ≡ n)
    go None s h ih = let x = ih h in ((s, x.0), ap bodies_begun (sym (regroup before e es)) ∙ x.1)
    go (Some v) s h ih = absurd (said-not before e n (s ∙ ap Some h))

pub of-quiet : (before es : List DemandEvent) → Quiet before es → verdict_after before es
    ≡ Steady (bodies_begun (before ++ es))
of-quiet before [] q = ap (λ l. Steady (bodies_begun l)) (sym (append-nil before))
of-quiet before (e ∷ es) q =
    ap (λ o. first_said o (verdict_after (before ++ e ∷ []) es)) q.0
    ∙ (of-quiet (before ++ e ∷ []) es q.1 ∙ ap (λ l. Steady (bodies_begun l))
    (regroup before e es))

-- nothing that ends the order is quiet
quiet-ends : (before es : List DemandEvent) → Quiet before es → HasEnd es → ⊥
quiet-ends before [] q h = h.there
quiet-ends before (e ∷ es) q h = elim h.there [
  | inl p ↦ go e q.0 (subst IsEnd (sym p) h.is)
  | inr i ↦ quiet-ends (before ++ e ∷ []) es q.1 (record { event = h.event; there = i; is = h.is })
]
  where
    go : (e : DemandEvent) → said_by before e ≡ None → IsEnd e → ⊥
    go (is_reached i) s h = h
    go (is_too_deep i) s h = absurd (cc)
    go (body_begins r) s h = h
    go (body_ends r m) s h = h
    go (is_circular r) s h = absurd (cc)

-- a test that says nothing holds
unless-none : (b : Bool) (v : Verdict) → unless_so b v ≡ None → b ≡ true
unless-none true v h = refl
unless-none false v h = absurd (cc)

-- there are never too many instances
quiet-few : (before es : List DemandEvent) → Quiet before es →
    length (distinct (reached before)) ≤ most_instances →
    length (distinct (reached (before ++ es))) ≤ most_instances
quiet-few before [] q l =
    subst (λ xs. length (distinct (reached xs)) ≤ most_instances) (sym (append-nil before)) l
quiet-few before (e ∷ es) q l = subst (λ xs. length (distinct (reached xs)) ≤ most_instances)
    (regroup before e es) (quiet-few (before ++ e ∷ []) es q.1 (go e q.0))
  where
    same : (e : DemandEvent) → reached (e ∷ []) ≡ [] →
        length (distinct (reached (before ++ e ∷ []))) ≤ most_instances
    same e h = subst (λ xs. length (distinct xs) ≤ most_instances)
        (sym (reached-more before (e ∷ []) ∙ (ap (λ xs. reached before ++ xs) h
        ∙ append-nil (reached before)))) l

    go : (e : DemandEvent) → said_by before e ≡ None →
        length (distinct (reached (before ++ e ∷ []))) ≤ most_instances
    go (is_reached i) s =
        subst (λ xs. length (distinct xs) ≤ most_instances)
        (sym (reached-more before (is_reached i ∷ [])))
        (leb-true (length (distinct (reached before ++ i ∷ []))) most_instances
        (unless-none (nat_le (length (distinct (reached before ++ i ∷ []))) most_instances)
        (TooMany i) s))
    go (is_too_deep i) s = same (is_too_deep i) refl
    go (body_begins r) s = same (body_begins r) refl
    go (body_ends r m) s = same (body_ends r m) refl
    go (is_circular r) s = same (is_circular r) refl

-- and no more bodies than may be
quiet-bodies : (before es : List DemandEvent) → Quiet before es →
    bodies_begun before ≤ most_bodies → bodies_begun (before ++ es) ≤ most_bodies
quiet-bodies before [] q l = subst (λ xs. bodies_begun xs ≤ most_bodies) (sym (append-nil before)) l
quiet-bodies before (e ∷ es) q l = subst (λ xs. bodies_begun xs ≤ most_bodies) (regroup before e es)
    (quiet-bodies (before ++ e ∷ []) es q.1 (go e q.0))
  where
    same : (e : DemandEvent) → bodies_begun (e ∷ []) ≡ 0 →
        bodies_begun (before ++ e ∷ []) ≤ most_bodies
    same e h = let k = bodies-more before (e ∷ []) in omega arith

    go : (e : DemandEvent) → said_by before e ≡ None → bodies_begun (before ++ e ∷ []) ≤ most_bodies
    go (is_reached i) s = same (is_reached i) refl
    go (is_too_deep i) s = same (is_too_deep i) refl
    go (body_begins r) s =
        let k : bodies_begun (before ++ body_begins r ∷ []) ≡ bodies_begun before + 1 =
        bodies-more before (body_begins r ∷ []) in
        let less : bodies_begun before < most_bodies = ltb-true (bodies_begun before) most_bodies
        (unless-none (nat_lt (bodies_begun before) most_bodies) (Spent most_bodies) s) in
        omega arith
    go (body_ends r m) s = same (body_ends r m) refl
    go (is_circular r) s = same (is_circular r) refl

-- each body ends with the record of the first one of its run
abbrev pub Agree : List DemandEvent → Type 0
Agree es = (r : RunId) (m : Record) → In (body_ends r m) es → first_record es r ≡ Some m

agree-more : (before : List DemandEvent) (e : DemandEvent) → said_by before e ≡ None →
    Agree before → Agree (before ++ e ∷ [])
agree-more before e s a r m i =
    first-more before (e ∷ []) r ∙ elim (in-append (body_ends r m) before (e ∷ []) i) [
      | inl j ↦ ap (λ o. or_later o (first_record (e ∷ []) r)) (a r m j)
      | inr j ↦ elim j [ inl p ↦ go (first_record before r) refl p | inr k ↦ absurd k ]
    ]
  where
    go : (o : Option Record) → first_record before r ≡ o → e ≡ body_ends r m →
        or_later (first_record before r) (first_record (e ∷ []) r) ≡ Some m
    go None h p = ap (λ x. or_later x (first_record (e ∷ []) r)) h
        ∙ (ap (λ x. first_record (x ∷ []) r) p ∙ ap (λ b. this_or b None m) (same_run-refl r))
    go (Some f) h p =
        let said : if_differs (Some f) r m ≡ None = ap (λ x. if_differs x r m) (sym h)
        ∙ (ap (said_by before) (sym p) ∙ s) in
        let alike : f ≡ m = (record-exact f m).0 (unless-none (same_record f m) (Differs r f m)
        said) in
        ap (λ x. or_later x (first_record (e ∷ []) r)) h ∙ ap Some alike

quiet-agree : (before es : List DemandEvent) → Quiet before es → Agree before → Agree (before ++ es)
quiet-agree before [] q a = subst Agree (sym (append-nil before)) a
quiet-agree before (e ∷ es) q a = subst Agree (regroup before e es)
    (quiet-agree (before ++ e ∷ []) es q.1 (agree-more before e q.0 a))

-- the other way round: what holds of all events
first-in : (es : List DemandEvent) (r : RunId) (m : Record) → first_record es r ≡ Some m →
    In (body_ends r m) es
first-in [] r m h = absurd (cc)
first-in (is_reached i ∷ es) r m h = inr (first-in es r m h)
first-in (is_too_deep i ∷ es) r m h = inr (first-in es r m h)
first-in (body_begins s ∷ es) r m h = inr (first-in es r m h)
first-in (body_ends s n ∷ es) r m h = go (same_run s r) refl h (first-in es r m)
  where
    go : (b : Bool) → same_run s r ≡ b → this_or b (first_record es r) n ≡ Some m →
        (first_record es r ≡ Some m → In (body_ends r m) es) →
        In (body_ends r m) (body_ends s n ∷ es)
    go true e h ih = let p : s ≡ r = same_run-true s r e in let q : n ≡ m = cc in
        inl (ap (λ x. body_ends x n) p ∙ ap (λ x. body_ends r x) q)
    go false e h ih = inr (ih h)
first-in (is_circular s ∷ es) r m h = inr (first-in es r m h)

-- instances, each once
counted-nothing : AreCounted [] []
counted-nothing = record { once = tt; same = λ i. refl }

grown : (keys xs ys : List InstanceKey) → AreCounted keys xs → (more : List InstanceKey)
    × AreCounted (keys ++ more) (xs ++ ys)
grown keys xs [] c = (
  [],
  subst (λ k. AreCounted k (xs ++ [])) (sym (append-nil keys))
      (subst (AreCounted keys) (sym (append-nil xs)) c),
)
grown keys xs (y ∷ ys) c =
    let a = with_instance-grows keys y in
    let next : AreCounted (keys ++ a.0) (xs ++ y ∷ []) =
    subst (λ k. AreCounted k (xs ++ y ∷ [])) a.1 (counted-one keys xs y c) in
    let b = grown (keys ++ a.0) (xs ++ y ∷ []) ys next in (
      a.0 ++ b.0,
      subst (λ k. AreCounted k (xs ++ y ∷ ys)) (append_assoc keys a.0 b.0)
          (subst (AreCounted ((keys ++ a.0) ++ b.0)) (append_assoc xs (y ∷ []) ys) b.1),
    )

fewer-before : (xs ys : List InstanceKey) → length (distinct xs) ≤ length (distinct (xs ++ ys))
fewer-before xs ys =
    let a = grown [] [] xs counted-nothing in
    let b = grown a.0 xs ys a.1 in
    let p = counted-length a.0 xs a.1 in
    let q = counted-length (a.0 ++ b.0) (xs ++ ys) b.1 in
    let l = length-append a.0 b.0 in omega arith

-- what is asked of all events
pub record IsCalm (es : List DemandEvent) : Type 0 where
  pub endless : HasEnd es → ⊥
  pub few : length (distinct (reached es)) ≤ most_instances
  pub bodies : bodies_begun es ≤ most_bodies
  pub agree : (r : RunId) (m n : Record) → In (body_ends r m) es → In (body_ends r n) es → m ≡ n

pub calm-quiet : (before es : List DemandEvent) → IsCalm (before ++ es) → Quiet before es
calm-quiet before [] c = tt
calm-quiet before (e ∷ es) c =
    (go e refl, calm-quiet (before ++ e ∷ []) es (subst IsCalm (sym (regroup before e es)) c))
  where
    there : In e (before ++ e ∷ es)
    there = in-right e before (e ∷ es) (inl refl)

    go : (x : DemandEvent) → e ≡ x → said_by before x ≡ None
    go (is_reached i) p =
        let all : reached (before ++ e ∷ es) ≡ (reached before ++ i ∷ []) ++ reached es =
        ap (λ x. reached (before ++ x ∷ es)) p ∙ (reached-more before (is_reached i ∷ es)
        ∙ sym (append_assoc (reached before) (i ∷ []) (reached es))) in
        let l : length (distinct (reached before ++ i ∷ [])) ≤ length
        (distinct (reached (before ++ e ∷ es))) =
        subst (λ xs. length (distinct (reached before ++ i ∷ [])) ≤ length (distinct xs)) (sym all)
        (fewer-before (reached before ++ i ∷ []) (reached es)) in
        let f : length (distinct (reached (before ++ e ∷ es))) ≤ most_instances = c.few in
        ap (λ b. unless_so b (TooMany i)) (le-leb (length (distinct (reached before ++ i ∷ [])))
        most_instances (omega (arith, l, f)))
    go (is_too_deep i) p =
        absurd (c.endless (record {
          event = is_too_deep i;
          there = subst (λ x. In x (before ++ e ∷ es)) p there;
          is = tt;
        }))
    go (body_begins r) p =
        let k : bodies_begun (before ++ e ∷ es) ≡ bodies_begun before + suc (bodies_begun es) =
        ap (λ x. bodies_begun (before ++ x ∷ es)) p ∙ bodies-more before (body_begins r ∷ es) in
        let f : bodies_begun (before ++ e ∷ es) ≤ most_bodies = c.bodies in
        ap (λ b. unless_so b (Spent most_bodies)) (lt-ltb (bodies_begun before) most_bodies
        (omega (arith, k, f)))
    go (body_ends r m) p = by (first_record before r) refl
      where
        by : (o : Option Record) → first_record before r ≡ o → if_differs (first_record before r) r
            m ≡ None
        by None h = ap (λ x. if_differs x r m) h
        by (Some f) h =
            let alike : f ≡ m =
            c.agree r f m (in-left (body_ends r f) before (e ∷ es) (first-in before r f h))
            (subst (λ x. In x (before ++ e ∷ es)) p there) in
            ap (λ x. if_differs x r m) h ∙ ap (λ b. unless_so b (Differs r f m))
            ((record-exact f m).1 alike)
    go (is_circular r) p =
        absurd (c.endless (record {
          event = is_circular r;
          there = subst (λ x. In x (before ++ e ∷ es)) p there;
          is = tt;
        }))

module _ {P I A : Type 0} (w : World P I A) where
  pub steady-told : (n : ℕ) → verdict_of w ≡ Steady n → (out : Given P I RequestResult)
      × IsWhole w out × IsSteady out.demand × (length (built_runs out.demand) ≡ n)
      × (n ≤ most_bodies)
  unfolding verdict_of
  steady-told n h = go (meaning w) refl (told-world w) (quiet-of [] (order_of_demand w) n h)
    where
      go : (o : Option (Given P I RequestResult)) → meaning w ≡ o → Told o (order_of_demand w) →
          Quiet [] (order_of_demand w) × (bodies_begun (order_of_demand w) ≡ n) →
          (out : Given P I RequestResult) × IsWhole w out × IsSteady out.demand
          × (length (built_runs out.demand) ≡ n) × (n ≤ most_bodies)
      go None e t q = absurd (quiet-ends [] (order_of_demand w) q.0 t)
      go (Some out) e t q =
          let es = order_of_demand w in
          let asked : reached es ≡ instances out.demand = sym (reached-unbegun es)
          ∙ (ap reached t.0 ∙ reached-demanded out.demand) in
          let few : length (distinct (reached es)) ≤ most_instances =
          quiet-few [] es q.0 (omega arith) in
          let bodies : bodies_begun es ≤ most_bodies = quiet-bodies [] es q.0 (omega arith) in
          let agree = quiet-agree [] es q.0 (λ r m i. absurd i) in
          let among : (r : RunId) (m : Record) → IsMade out.demand r m → In (body_ends r m) es =
          λ r m i. in-unbegun (body_ends r m) es (subst (In (body_ends r m)) (sym t.0)
          (built-demanded r m out.demand i)) in (
            out,
            record {
              means = e;
              few = subst (λ xs. length (distinct xs) ≤ most_instances) asked few;
            },
            (λ run first second i j. let k : Some first ≡ Some second =
                sym (agree run first (among run first i))
                ∙ agree run second (among run second j) in cc),
            sym t.1 ∙ q.1,
            subst (λ k. k ≤ most_bodies) q.1 bodies,
          )

  pub steady-so : (out : Given P I RequestResult) → IsWhole w out → IsSteady out.demand →
      length (built_runs out.demand) ≤ most_bodies →
      verdict_of w ≡ Steady (length (built_runs out.demand))
  unfolding verdict_of
  steady-so out whole steady l =
      let es = order_of_demand w in
      let t : Told (Some out) es = subst (λ o. Told o es) whole.means (told-world w) in
      let asked : reached es ≡ instances out.demand = sym (reached-unbegun es)
      ∙ (ap reached t.0 ∙ reached-demanded out.demand) in
      let count : bodies_begun es ≡ length (built_runs out.demand) = t.1 in
      let calm : IsCalm es = record {
        endless = λ h. demanded-ends h.event out.demand (subst (In h.event) t.0
            (unbegun-in h.event es (end-kept h.event h.is) h.there)) h.is;
        few = subst (λ xs. length (distinct xs) ≤ most_instances) (sym asked) whole.few;
        bodies = subst (λ k. k ≤ most_bodies) (sym count) l;
        agree = λ r m n i j.
            let a = demanded-built r m out.demand (subst (In (body_ends r m)) t.0
            (unbegun-in (body_ends r m) es tt i)) in
            let b = demanded-built r n out.demand (subst (In (body_ends r n)) t.0
            (unbegun-in (body_ends r n) es tt j)) in
            steady r m n a b;
      } in
      of-quiet [] es (calm-quiet [] es calm) ∙ ap Steady count
