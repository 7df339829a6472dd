-- Runs that need each other: no run of a replay needs itself.
use Rattle.std.proofs.Common.{◌≡◌, ◌⊎◌, inl, inr, List, [], ◌∷◌, length, map, refl, ap, sym, subst}
use Rattle.result_cache.specs.declared.run.RunId.{RunId}
use Rattle.result_cache.specs.declared.request.RequestResult.{RequestResult}
use Rattle.result_cache.specs.declared.record.Record.{Record}
use Rattle.result_cache.specs.Lists.{In}
use Rattle.result_cache.specs.Journal.{Journal, end_of, acted, ended}
use Rattle.result_cache.specs.Replay.{Effect, puts_act, replays_run, effects_from, effects_of}
use Rattle.build_meaning.specs.World.{World}
use Rattle.build_meaning.specs.Walk.{Walk, wants, Body}
use Rattle.build_meaning.specs.SoFar.{ToolUse, SoFar, runs_of}
use Rattle.build_meaning.specs.Meaning.{Demanded}
use Rattle.result_cache.proofs.JournalEntries.{Has, of-add, HasAll-in}
use Rattle.result_cache.proofs.ReplayRelation.{
  Rep,
  old,
  new,
  puts,
  Reps,
  none,
  also,
  Closed,
  rep-closed,
  reps-closed,
}
use Rattle.build_meaning.specs.Derived.{
  OfWalk,
  over,
  used,
  made,
  OfBody,
  ended_so,
  acted_one,
  used_tool,
  called_all,
}
use Rattle.build_meaning.proofs.BuildingReplays.{items-acted, items-calls, calls-length}
use Rattle.build_meaning.proofs.MeaningDerived.{in-left, in-right}

module _ (P : RunId → Record → Type 0) where
  -- calls of records, and of their calls
  pub data Reach : RunId → RunId → Type 0 where
    one_step : {r s : RunId} {m : Record} → P r m → In (replays_run s) (effects_of r m) → Reach r s
    more_steps : {r s t : RunId} {m : Record} → P r m → In (replays_run s) (effects_of r m)
        → Reach s t → Reach r t

  pub reach-more : {r s t : RunId} {m : Record} → Reach r s → P s m
      → In (replays_run t) (effects_of s m) → Reach r t
  reach-more (one_step p i) q h = more_steps p i (one_step q h)
  reach-more (more_steps p i x) q h = more_steps p i (reach-more x q h)

  -- what a run on a circle needs is on it, and leads back
  pub first_step : {r s : RunId} → Reach r s → (m : Record) × (t : RunId) × P r m
      × In (replays_run t) (effects_of r m) × ((t ≡ s) ⊎ Reach t s)
  first_step (one_step {s = s} {m = m} p i) = (m, s, p, i, inl refl)
  first_step (more_steps {s = s} {m = m} p i x) = (m, s, p, i, inr x)

  module _ (one : (r : RunId) (m n : Record) → P r m → P r n → m ≡ n) where
    pub closed-reach : {r s : RunId} → Reach r s → (j : Journal) → Closed P one j → Has (end_of r) j
        → Has (end_of s) j
    closed-reach (one_step {r = r} {s = s} {m = m} p i) j c h = HasAll-in (effects_of r m) j
        (replays_run s) (c.has_items r h m p) i
    closed-reach (more_steps {r = r} {s = s} {m = m} p i x) j c h = closed-reach x j c
        (HasAll-in (effects_of r m) j (replays_run s) (c.has_items r h m p) i)

    -- a run on a circle is never put into a closed journal
    mutual
      pub rep-circle : {x : Effect} {j k : Journal} → Rep P x j k → Closed P one j → (c : RunId)
          → Reach c c → Has (end_of c) k → Has (end_of c) j
      rep-circle (old h) cl c x p = p
      rep-circle (new {r} {j} {k} {m} h u d) cl c x p = elim (of-add (end_of c) k (ended r m) p) [
        | inl e ↦
            let rc : r ≡ c = cc in
            let y = first_step x in
            let mm : y.0 ≡ m = one r y.0 m (subst (λ (n : RunId). P n y.0) (sym rc) y.2) u in
            let i : In (replays_run y.1) (effects_of r m) = subst
            (λ (n : Record). In (replays_run y.1) (effects_of r n)) mm
            (subst (λ (n : RunId). In (replays_run y.1) (effects_of n y.0)) (sym rc) y.3) in
            let tk : Has (end_of y.1) k = HasAll-in (effects_of r m) k (replays_run y.1)
            (reps-closed P one d cl).0 i in
            elim y.4 [
              | inl q ↦ reps-circle d cl c x (subst (λ n. Has (end_of n) k) q tk)
              | inr q ↦ closed-reach q j cl (reps-circle d cl y.1 (reach-more q y.2 y.3) tk)
            ]
        | inr t ↦ reps-circle d cl c x t
      ]
      rep-circle (puts {r} {n} {p} {j}) cl c x h = elim (of-add (end_of c) j (acted r n p) h) [
        | inl e ↦ absurd (cc)
        | inr t ↦ t
      ]

      pub reps-circle : {xs : List Effect} {j k : Journal} → Reps P xs j k → Closed P one j
          → (c : RunId) → Reach c c → Has (end_of c) k → Has (end_of c) j
      reps-circle none cl c x p = p
      reps-circle (also d e) cl c x p = rep-circle d cl c x
          (reps-circle e (rep-closed P one d cl).1 c x p)

pub in-map : {X Y : Type 0} (f : X → Y) (x : X) (xs : List X) → In x xs → In (f x) (map f xs)
in-map f x [] i = absurd i
in-map f x (y ∷ xs) (inl p) = inl (ap f p)
in-map f x (y ∷ xs) (inr i) = inr (in-map f x xs i)

pub in-runs_of : (r : RunId) (res : RequestResult) (results : List RequestResult) → In res results
    → In r res.runs → In r (runs_of results)
in-runs_of r res [] i h = absurd i
in-runs_of r res (x ∷ results) (inl p) h = in-left r x.runs (runs_of results)
    (subst (λ (y : RequestResult). In r y.runs) (sym p) h)
in-runs_of r res (x ∷ results) (inr i) h = in-right r x.runs (runs_of results)
    (in-runs_of r res results i h)

module _ {P I A : Type 0} {w : World P I A} {D : Demanded P I → Type 0} where
  -- a result lists all runs that were made or used
  pub walk-lists : {path : List RunId} {j : Journal} {runs : List RunId} {x : Walk P I A}
      {res : RequestResult} {k : Journal} → OfWalk w D path j runs x res k →
      (s : RunId) → In s runs → In s res.runs
  walk-lists over s i = i
  walk-lists (used {runs = runs} {r = r} m h rest) s i = walk-lists rest s
      (in-left s runs (r ∷ []) i)
  walk-lists (made {runs = runs} {r = r} n h b p rest) s i = walk-lists rest s
      (in-left s runs (r ∷ []) i)

  pub walk-wants : {path : List RunId} {j : Journal} {runs : List RunId} {site : P} {r : RunId}
      {b : Body I A} {go : Record → Journal → Walk P I A} {res : RequestResult} {k : Journal} →
      OfWalk w D path j runs (wants site r b go) res k → In r res.runs
  walk-wants (used {runs = runs} {r = r} m h rest) = walk-lists rest r
      (in-right r runs (r ∷ []) (inl refl))
  walk-wants (made {runs = runs} {r = r} n h b p rest) = walk-lists rest r
      (in-right r runs (r ∷ []) (inl refl))

  -- a record lists all that was done so far
  pub body-lists : {path : List RunId} {r : RunId} {j : Journal} {so_far : SoFar I} {b : Body I A}
      {m : Record} {tools : List (ToolUse I)} {k : Journal} → OfBody w D path r j so_far b m tools k
      →
      (x : Effect) → In x (effects_from r 0 so_far.segments) → In x (effects_of r m)
  body-lists ended_so x i = i
  body-lists (acted_one {r = r} {so_far = so_far} {act = p} rest) x i =
      body-lists rest x
      (subst (λ xs. In x xs) (sym (items-acted r so_far p))
      (in-left x (effects_from r 0 so_far.segments) (puts_act r (length so_far.segments) p ∷ [])
      i))
  body-lists (used_tool rest) x i = body-lists rest x i
  body-lists (called_all {r = r} {so_far = so_far} {key = key} {keys = keys} {results = results} all
      asked rest) x i =
      body-lists rest x
      (subst (λ xs. In x xs)
      (sym (items-calls r so_far (key ∷ keys) results (calls-length asked)))
      (in-left x (effects_from r 0 so_far.segments) (map replays_run (runs_of results)) i))
