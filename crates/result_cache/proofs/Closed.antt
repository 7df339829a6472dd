-- A closed journal stays closed, and a run that is replayed twice adds nothing the second time.
use Rattle.std.proofs.Common.{◌≡◌, ℕ, ◌⊎◌, inl, inr, List, [], ◌∷◌, Some, ap, subst}
use Rattle.msb_values.specs.declared.act.Act.{Act}
use Rattle.result_cache.specs.declared.run.RunId.{RunId}
use Rattle.result_cache.specs.declared.record.Record.{Record}
use Rattle.result_cache.specs.Lists.{In}
use Rattle.result_cache.specs.Same.{same_run}
use Rattle.result_cache.specs.Journal.{Entry, acted, ended, Journal, end_of, add, merge}
use Rattle.result_cache.specs.Table.{Records}
use Rattle.result_cache.specs.Replay.{
  Effect,
  effects_of,
  mark_of,
  HasAll,
  IsClosed,
  replay_by,
  unless_there,
  replay,
}
use Rattle.result_cache.proofs.JournalEntries.{
  Has,
  has-add,
  has-added,
  in-add,
  has-merge_left,
  has-merge_right,
  HasAll-mono,
}
use Rattle.result_cache.proofs.ReplayRelation.{
  Rep,
  old,
  new,
  puts,
  Reps,
  none,
  also,
  reps-keep,
  replay-sound,
}

pub in-merge : (a : Entry) (j k : Journal) → In a (merge j k) → In a j ⊎ In a k
in-merge a j [] h = inl h
in-merge a j (e ∷ k) h = elim (in-add a (merge j k) e h) [
  | inl p ↦ inr (inl p)
  | inr i ↦ elim (in-merge a j k i) [ inl p ↦ inl p | inr p ↦ inr (inr p) ]
]

pub closed-nothing : IsClosed []
closed-nothing r m i = absurd i

pub closed-acted : (j : Journal) (r : RunId) (n : ℕ) (p : Act) → IsClosed j
    → IsClosed (add j (acted r n p))
closed-acted j r n p c s m i = HasAll-mono (effects_of s m) j (add j (acted r n p))
    (λ t. has-add t j (acted r n p))
    (elim (in-add (ended s m) j (acted r n p) i) [ inl e ↦ absurd (cc) | inr q ↦ c s m q ])

pub closed-ended : (j : Journal) (r : RunId) (m : Record) → IsClosed j → HasAll (effects_of r m) j
    → IsClosed (add j (ended r m))
closed-ended j r m c h s n i = HasAll-mono (effects_of s n) j (add j (ended r m))
    (λ t. has-add t j (ended r m))
    (elim (in-add (ended s n) j (ended r m) i) [
      | inl e ↦
          let p : r ≡ s = cc in
          let q : m ≡ n = cc in
          subst (λ x. HasAll (effects_of x n) j) p (subst (λ x. HasAll (effects_of r x) j) q h)
      | inr q ↦ c s n q
    ])

pub closed-merged : (j k : Journal) → IsClosed j → IsClosed k → IsClosed (merge j k)
closed-merged j k c d s m i = elim (in-merge (ended s m) j k i) [
  | inl p ↦ HasAll-mono (effects_of s m) j (merge j k) (λ t. has-merge_left t j k) (c s m p)
  | inr p ↦ HasAll-mono (effects_of s m) k (merge j k) (λ t. has-merge_right t j k) (d s m p)
]

-- after a replay the run's end is there
pub rep-there : {P : RunId → Record → Type 0} {x : Effect} {j k : Journal} → Rep P x j k
    → Has (mark_of x) k
rep-there (old h) = h
rep-there (new {r = r} {k = k} {m = m} h u d) = has-added k (ended r m)
rep-there (puts {r} {n} {p} {j}) = has-added j (acted r n p)

module _ (P : RunId → Record → Type 0) where
  mutual
    pub rep-stays : {x : Effect} {j k : Journal} → Rep P x j k → IsClosed j → IsClosed k
    rep-stays (old h) c = c
    rep-stays (new {r} {j} {k} {m} h u d) c = let x : HasAll (effects_of r m) k
        × IsClosed k = reps-stay d c in closed-ended k r m x.1 x.0
    rep-stays (puts {r} {n} {p} {j}) c = closed-acted j r n p c

    pub reps-stay : {xs : List Effect} {j k : Journal} → Reps P xs j k → IsClosed j
        → HasAll xs k × IsClosed k
    reps-stay none c = (tt, c)
    reps-stay (also {x} {xs} {j} {k} {l} d e) c =
        let z : HasAll xs l × IsClosed l = reps-stay e (rep-stays d c) in
        ((reps-keep P e (mark_of x) (rep-there d), z.0), z.1)

abbrev AnyRecord : RunId → Record → Type 0
AnyRecord r m = Unit {0}

pub closed-replayed : (table : Records) (r : RunId) (j k : Journal) → IsClosed j
    → replay table r j ≡ Some k → IsClosed k
closed-replayed table r j k c h = rep-stays AnyRecord
    (replay-sound AnyRecord table (λ f i. tt) r j k h) c

pub replay-has : (table : Records) (r : RunId) (j : Journal) → Has (end_of r) j
    → replay table r j ≡ Some j
replay-has [] r j h = ap (λ b. unless_there b j) h
replay-has (f ∷ table) r j h = ap (λ b. replay_by b (same_run f.run r) (replay table) f r j) h

pub replayed-again : (table : Records) (r : RunId) (j k : Journal) → replay table r j ≡ Some k
    → replay table r k ≡ Some k
replayed-again table r j k h = replay-has table r k
    (rep-there (replay-sound AnyRecord table (λ f i. tt) r j k h))
