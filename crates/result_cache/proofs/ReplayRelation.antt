-- Replaying as a relation, where P says which record a run has, and its laws.
use Rattle.std.proofs.Common.{
  ◌≡◌,
  ℕ,
  Bool,
  true,
  false,
  inl,
  inr,
  List,
  [],
  ◌∷◌,
  ◌++◌,
  Option,
  Some,
  refl,
  ap,
  sym,
  ◌∙◌,
  subst,
}
use Rattle.msb_values.specs.declared.act.Act.{Act}
use Rattle.result_cache.specs.declared.run.RunId.{RunId}
use Rattle.result_cache.specs.declared.record.Record.{Record}
use Rattle.result_cache.specs.Same.{same_run}
use Rattle.result_cache.specs.Lists.{In}
use Rattle.result_cache.specs.Journal.{Entry, ended, acted, Journal, Mark, end_of, has, add, merge}
use Rattle.result_cache.specs.Replay.{
  Effect,
  puts_act,
  replays_run,
  effects_of,
  mark_of,
  HasAll,
  replays,
  replay_by,
  unless_there,
  replay,
}
use Rattle.result_cache.specs.Table.{FinishedRun, Records, found}
use Rattle.result_cache.proofs.RunTests.{tells, same_run-true, and_then-some}
use Rattle.result_cache.proofs.JournalEntries.{
  Has,
  has-add,
  has-added,
  of-add,
  in-add,
  has-merge_right,
  merge-absorbs,
  merge-add,
  HasAll-mono,
}

mutual
  pub data Rep (P : RunId → Record → Type 0) : Effect → Journal → Journal → Type 0 where
    old : {r : RunId} {j : Journal} → Has (end_of r) j → Rep P (replays_run r) j j
    new : {r : RunId} {j k : Journal} {m : Record} → has (end_of r) j ≡ false → P r m
        → Reps P (effects_of r m) j k → Rep P (replays_run r) j (add k (ended r m))
    puts : {r : RunId} {n : ℕ} {p : Act} {j : Journal}
        → Rep P (puts_act r n p) j (add j (acted r n p))

  pub data Reps (P : RunId → Record → Type 0) : List Effect → Journal → Journal → Type 0 where
    none : {j : Journal} → Reps P [] j j
    also : {x : Effect} {xs : List Effect} {j k l : Journal} → Rep P x j k → Reps P xs k l
        → Reps P (x ∷ xs) j l

pub reps-append : {P : RunId → Record → Type 0} {xs ys : List Effect} {j k l : Journal}
    → Reps P xs j k → Reps P ys k l → Reps P (xs ++ ys) j l
reps-append none d = d
reps-append (also e f) d = also e (reps-append f d)

-- another record of each run
module _ (Q P : RunId → Record → Type 0) (f : (r : RunId) (m : Record) → Q r m → P r m) where
  mutual
    pub rep-map : {x : Effect} {j k : Journal} → Rep Q x j k → Rep P x j k
    rep-map (old h) = old h
    rep-map (new {r = r} {m = m} h u d) = new h (f r m u) (reps-map d)
    rep-map puts = puts

    pub reps-map : {xs : List Effect} {j k : Journal} → Reps Q xs j k → Reps P xs j k
    reps-map none = none
    reps-map (also d e) = also (rep-map d) (reps-map e)

-- what holds of all runs that have ended and of all records holds after a replay
module _ (Q : RunId → Record → Type 0) (E : RunId → Record → Type 0)
    (from : (r : RunId) (m : Record) → Q r m → E r m) where
  ended_is : (r s : RunId) (m n : Record) → ended r m ≡ ended s n → E r m → E s n
  ended_is r s m n h e = let p : r ≡ s = cc in let q : m
      ≡ n = cc in subst (λ x. E s x) q (subst (λ x. E x m) p e)

  mutual
    pub rep_all : {x : Effect} {j k : Journal} → Rep Q x j k
        → ((r : RunId) (m : Record) → In (ended r m) j → E r m) → (r : RunId) (m : Record)
        → In (ended r m) k → E r m
    rep_all (old h) f s n p = f s n p
    rep_all (new {r} {j} {k} {m} h u d) f s n p = elim (in-add (ended s n) k (ended r m) p) [
      | inl q ↦ ended_is r s m n q (from r m u)
      | inr q ↦ reps_all d f s n q
    ]
    rep_all (puts {r} {n} {p} {j}) f s m i = elim (in-add (ended s m) j (acted r n p) i) [
      | inl q ↦ absurd (cc)
      | inr q ↦ f s m q
    ]

    pub reps_all : {xs : List Effect} {j k : Journal} → Reps Q xs j k
        → ((r : RunId) (m : Record) → In (ended r m) j → E r m) → (r : RunId) (m : Record)
        → In (ended r m) k → E r m
    reps_all none f s n p = f s n p
    reps_all (also d x) f s n p = reps_all x (rep_all d f) s n p

module _ (P : RunId → Record → Type 0) where
  mutual
    pub rep-keeps : {x : Effect} {j k : Journal} → Rep P x j k → (s : Mark) → Has s j → Has s k
    rep-keeps (old h) s p = p
    rep-keeps (new {r} {j} {k} {m} h q d) s p = has-add s k (ended r m) (reps-keep d s p)
    rep-keeps (puts {r} {n} {p} {j}) s i = has-add s j (acted r n p) i

    pub reps-keep : {xs : List Effect} {j k : Journal} → Reps P xs j k → (s : Mark) → Has s j
        → Has s k
    reps-keep none s p = p
    reps-keep (also d e) s p = reps-keep e s (rep-keeps d s p)

module _ (P : RunId → Record → Type 0) (one : (r : RunId) (m n : Record) → P r m → P r n → m ≡ n)
  where
    pub record Closed (j : Journal) : Type 0 where
      pub has_items : (r : RunId) → Has (end_of r) j → (m : Record) → P r m
          → HasAll (effects_of r m) j

    pub closed-empty : Closed []
    closed-empty = record { has_items = λ r h. absurd (cc) }

    pub closed-add : (j : Journal) (r : RunId) (m : Record) → Closed j → P r m
        → HasAll (effects_of r m) j → Closed (add j (ended r m))
    closed-add j r m c p h = record {
      has_items = λ s q n pn. HasAll-mono (effects_of s n) j (add j (ended r m))
          (λ t. has-add t j (ended r m))
          (elim (of-add (end_of s) j (ended r m) q) [
            | inl e ↦
                let rs : r ≡ s = cc in
                let mn : m ≡ n = one s m n (subst (λ x. P x m) rs p) pn in
                subst (λ x. HasAll (effects_of x n) j) rs
                (subst (λ x. HasAll (effects_of r x) j) mn h)
            | inr q ↦ c.has_items s q n pn
          ]);
    }

    pub closed-act : (j : Journal) (r : RunId) (n : ℕ) (p : Act) → Closed j
        → Closed (add j (acted r n p))
    closed-act j r n p c = record {
      has_items = λ s q m pm. HasAll-mono (effects_of s m) j (add j (acted r n p))
          (λ t. has-add t j (acted r n p))
          (elim (of-add (end_of s) j (acted r n p) q) [
            | inl e ↦ absurd (cc)
            | inr q ↦ c.has_items s q m pm
          ]);
    }

    -- after a replay from a closed journal the items are in, and the journal is closed
    mutual
      pub rep-closed : {x : Effect} {j k : Journal} → Rep P x j k → Closed j
          → Has (mark_of x) k × Closed k
      rep-closed (old h) c = (h, c)
      rep-closed (new {r} {j} {k} {m} h q d) c =
          let x : HasAll (effects_of r m) k × Closed k = reps-closed d c in
          (has-added k (ended r m), closed-add k r m x.1 q x.0)
      rep-closed (puts {r} {n} {p} {j}) c = (has-added j (acted r n p), closed-act j r n p c)

      pub reps-closed : {xs : List Effect} {j k : Journal} → Reps P xs j k → Closed j
          → HasAll xs k × Closed k
      reps-closed none c = (tt, c)
      reps-closed (also {x} {xs} {j} {k} {l} d e) c =
          let y : Has (mark_of x) k × Closed k = rep-closed d c in
          let z : HasAll xs l × Closed l = reps-closed e y.1 in
          ((reps-keep P e (mark_of x) y.0, z.0), z.1)

    -- what is closed and has the items has all that a replay puts in
    mutual
      pub rep-within : {x : Effect} {j k : Journal} → Rep P x j k → (y : Journal) → Closed y
          → ((s : Mark) → Has s j → Has s y) → Has (mark_of x) y → (s : Mark) → Has s k → Has s y
      rep-within (old h) y c f p s q = f s q
      rep-within (new {r} {j} {k} {m} h u d) y c f p s q = elim (of-add s k (ended r m) q) [
        | inl e ↦ subst (λ x. Has x y) e p
        | inr t ↦ reps-within d y c f (c.has_items r p m u) s t
      ]
      rep-within (puts {r} {n} {p} {j}) y c f i s q = elim (of-add s j (acted r n p) q) [
        | inl e ↦ subst (λ x. Has x y) e i
        | inr t ↦ f s t
      ]

      pub reps-within : {xs : List Effect} {j k : Journal} → Reps P xs j k → (y : Journal)
          → Closed y
          → ((s : Mark) → Has s j → Has s y) → HasAll xs y → (s : Mark) → Has s k → Has s y
      reps-within none y c f p s q = f s q
      reps-within (also d e) y c f p s q = reps-within e y c (rep-within d y c f p.0) p.1 s q

    -- a journal that goes on by a replay merges as its beginning and then all
    mutual
      pub rep-merges : {x : Effect} {j k : Journal} → Rep P x j k → (y : Journal)
          → merge (merge y j) k ≡ merge y k
      rep-merges (old {r} {j} h) y = merge-absorbs (merge y j) j (λ s. has-merge_right s y j)
      rep-merges (new {r} {j} {k} {m} h u d) y =
          let e : Entry = ended r m in
          merge-add (merge y j) k e ∙ (ap (λ x. add x e) (reps-merge d y) ∙ sym (merge-add y k e))
      rep-merges (puts {r} {n} {p} {j}) y =
          let e : Entry = acted r n p in
          merge-add (merge y j) j e
          ∙ (ap (λ x. add x e) (merge-absorbs (merge y j) j (λ s. has-merge_right s y j))
          ∙ sym (merge-add y j e))

      pub reps-merge : {xs : List Effect} {j k : Journal} → Reps P xs j k → (y : Journal)
          → merge (merge y j) k ≡ merge y k
      reps-merge (none {j}) y = merge-absorbs (merge y j) j (λ s. has-merge_right s y j)
      reps-merge (also {x} {xs} {j} {k} {l} d e) y =
          -- (y ∪ j) ∪ l = ((y ∪ j) ∪ k) ∪ l = (y ∪ k) ∪ l = y ∪ l
          sym (reps-merge e (merge y j)) ∙ (ap (λ x. merge x l) (rep-merges d y) ∙ reps-merge e y)

    -- a replay in a larger closed journal puts in what it would put in
    mutual
      pub rep-grows : {x : Effect} {j k : Journal} → Rep P x j k → (y : Journal) → Closed y
          → ((s : Mark) → Has s j → Has s y) → Rep P x y (merge y k)
      rep-grows (old {r} {j} h) y c f = rw (merge-absorbs y j f) (old (f (end_of r) h))
      rep-grows (new {r} {j} {k} {m} h u d) y c f =
          let e : Entry = ended r m in
          elim (tells (has (end_of r) y)) [
            | inl p ↦ rw (merge-absorbs y (add k e) (rep-within (new h u d) y c f p)) (old p)
            | inr p ↦ rw (merge-add y k e) (new p u (reps-grow d y c f))
          ]
      rep-grows (puts {r} {n} {p} {j}) y c f = rw (merge-add y j (acted r n p), merge-absorbs y j f)
          puts

      pub reps-grow : {xs : List Effect} {j k : Journal} → Reps P xs j k → (y : Journal) → Closed y
          → ((s : Mark) → Has s j → Has s y) → Reps P xs y (merge y k)
      reps-grow (none {j}) y c f = rw (merge-absorbs y j f) none
      reps-grow (also {x} {xs} {j} {k} {l} d e) y c f =
          let z : Rep P x y (merge y k) = rep-grows d y c f in
          let u : Reps P xs (merge y k) (merge (merge y k) l) = reps-grow e (merge y k)
          (rep-closed z c).1 (λ s. has-merge_right s y k) in
          also z (rw (reps-merge e y) at u)

    -- the replay is determined
    mutual
      pub rep-one : {x : Effect} {j k : Journal} → Rep P x j k → (l : Journal) → Rep P x j l → k ≡ l
      rep-one (old h) l (old g) = refl
      rep-one (old h) l (new g v d) = absurd (cc)
      rep-one (new h u c) l (old g) = absurd (cc)
      rep-one (new {r} {j} {k} {m} h u c) l (new {k = i} {m = n} g v d) =
          let e : n ≡ m = one r n m v u in
          let d2 : Reps P (effects_of r m) j i = subst (λ (x : Record). Reps P (effects_of r x) j i)
          e
          d in
          let q : k ≡ i = reps-one c i d2 in cc
      rep-one puts l puts = refl

      pub reps-one : {xs : List Effect} {j k : Journal} → Reps P xs j k → (l : Journal)
          → Reps P xs j l → k ≡ l
      reps-one none l none = refl
      reps-one (also {xs = xs} {k = i} {l = k} x c) l (also {k = h} y d) =
          let q : i ≡ h = rep-one x h y in
          reps-one c l (subst (λ (z : Journal). Reps P xs z l) (sym q) d)

-- the table's record of a run, if it says so
abbrev pub Recorded : Records → RunId → Record → Type 0
Recorded table r m = found table r ≡ Some m

-- the function by the table is a replay
module _ (Q : RunId → Record → Type 0) where
  pub replays-sound : (one : RunId → Journal → Option Journal)
      → ((r : RunId) (j k : Journal) → one r j ≡ Some k → Rep Q (replays_run r) j k) →
      (xs : List Effect) (j k : Journal) → replays one xs j ≡ Some k → Reps Q xs j k
  replays-sound one f [] j k h = let e : j ≡ k = cc in subst (λ x. Reps Q [] j x) e none
  replays-sound one f (puts_act r n p ∷ xs) j k h = also puts
      (replays-sound one f xs (add j (acted r n p)) k h)
  replays-sound one f (replays_run r ∷ xs) j k h =
      let x = and_then-some (one r j) (replays one xs) k h in
      also (f r j x.0 x.1) (replays-sound one f xs x.0 k x.2)

  replay_by-sound : (a b : Bool) (older : RunId → Journal → Option Journal) (f : FinishedRun)
      (r : RunId) (j k : Journal) →
      has (end_of r) j ≡ a → same_run f.run r ≡ b → Q f.run f.made
      → ((r : RunId) (j k : Journal) → older r j ≡ Some k → Rep Q (replays_run r) j k) →
      replay_by a b older f r j ≡ Some k → Rep Q (replays_run r) j k
  replay_by-sound true b older f r j k e t q ih h = let p : j
      ≡ k = cc in subst (λ x. Rep Q (replays_run r) j x) p (old e)
  replay_by-sound false true older f r j k e t q ih h =
      let y = and_then-some (replays older (effects_of f.run f.made) j)
      (λ after. Some (add after (ended f.run f.made))) k h in
      let p : add y.0 (ended f.run f.made) ≡ k = let z : Some (add y.0 (ended f.run f.made))
      ≡ Some k = y.2 in cc in
      let d : Reps Q (effects_of f.run f.made) j y.0 = replays-sound older ih
      (effects_of f.run f.made) j y.0 y.1 in
      let fr : f.run ≡ r = same_run-true f.run r t in
      let z : Rep Q (replays_run f.run) j (add y.0 (ended f.run f.made)) = new (rw fr e) q d in
      subst (λ (s : RunId). Rep Q (replays_run s) j k) fr
      (subst (λ i. Rep Q (replays_run f.run) j i) p z)
  replay_by-sound false false older f r j k e t q ih h = ih r j k h

  pub replay-sound : (table : Records) → ((f : FinishedRun) → In f table → Q f.run f.made)
      → (r : RunId) (j k : Journal) → replay table r j ≡ Some k → Rep Q (replays_run r) j k
  replay-sound [] f r j k h = go (has (end_of r) j) refl h
    where
      go : (b : Bool) → has (end_of r) j ≡ b → unless_there b j ≡ Some k → Rep Q (replays_run r) j k
      go true e h = let q : j ≡ k = cc in subst (λ x. Rep Q (replays_run r) j x) q (old e)
      go false e h = absurd (cc)
  replay-sound (x ∷ table) f r j k h =
      replay_by-sound (has (end_of r) j) (same_run x.run r) (replay table) x r j k refl refl
      (f x (inl refl)) (replay-sound table (λ e p. f e (inr p))) h
