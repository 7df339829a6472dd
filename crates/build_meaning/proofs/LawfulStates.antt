-- What holds of each request of every legal history.
use Rattle.std.proofs.Common.{
  ◌≡◌,
  ℕ,
  Bool,
  true,
  false,
  ◌||◌,
  inl,
  inr,
  List,
  [],
  ◌∷◌,
  length,
  map,
  Option,
  None,
  Some,
  refl,
  ap,
  sym,
  ◌∙◌,
  subst,
}
use Rattle.result_cache.specs.declared.run.RunId.{RunId}
use Rattle.result_cache.specs.declared.record.Record.{Record}
use Rattle.result_cache.specs.Same.{same_run}
use Rattle.result_cache.specs.Lists.{In, this_or}
use Rattle.build_meaning.specs.Lists.{at}
use Rattle.result_cache.specs.Journal.{Journal, end_of, ended, has}
use Rattle.result_cache.specs.Replay.{
  replays_run,
  effects_from,
  effects_of,
  HasAll,
  replay,
  replay_all,
}
use Rattle.result_cache.specs.Table.{FinishedRun, Records, found, BegunRun, is_begun}
use Rattle.build_meaning.specs.State.{
  Within,
  Place,
  walking,
  within,
  Status,
  ready,
  assigned,
  waits,
  calling,
  done,
  RequestState,
  State,
}
use Rattle.build_meaning.specs.Orderly.{AreDistinct}
use Rattle.result_cache.proofs.RunTests.{clash, same_run-refl, same_run-true}
use Rattle.result_cache.proofs.ReplayRelation.{
  Rep,
  Reps,
  Closed,
  replays-sound,
  replay-sound,
  Recorded,
}

-- the table has one record of a run
pub one_record : (table : Records) (r : RunId) (m n : Record) → Recorded table r m
    → Recorded table r n → m ≡ n
one_record table r m n h g = let e : Some m ≡ Some n = sym h ∙ g in cc

abbrev pub ClosedBy : Records → Journal → Type 0
ClosedBy table = Closed (Recorded table) (one_record table)

-- each run is finished once, and after the runs of its record's calls
abbrev pub IsOnce : Records → Type 0
IsOnce [] = Unit {0}
IsOnce (f ∷ table) = (found table f.run ≡ None) × IsOnce table

abbrev pub IsFinished : Records → RunId → Type 0
IsFinished table r = (m : Record) × Recorded table r m

abbrev pub IsOrdered : Records → Type 0
IsOrdered [] = Unit {0}
IsOrdered (f ∷ table) = ((s : RunId) → In (replays_run s) (effects_of f.run f.made)
    → IsFinished table s) × IsOrdered table

found-other : (table : Records) (f : FinishedRun) (r : RunId) → (f.run ≡ r → ⊥)
    → found (f ∷ table) r ≡ found table r
found-other table f r n = go (same_run f.run r) refl
  where
    go : (b : Bool) → same_run f.run r ≡ b → this_or b (found table r) f.made ≡ found table r
    go true h = absurd (n (same_run-true f.run r h))
    go false h = refl

pub found-newest : (table : Records) (f : FinishedRun) → Recorded (f ∷ table) f.run f.made
found-newest table f = ap (λ b. this_or b (found table f.run) f.made) (same_run-refl f.run)

-- a table that grows by a run that it has not
pub found-grows : (table : Records) (f : FinishedRun) → found table f.run ≡ None
    → (r : RunId) (m : Record) → Recorded table r m → Recorded (f ∷ table) r m
found-grows table f n r m h = found-other table f r
    (λ e. let p : found table r ≡ None = subst (λ s. found table s ≡ None) e n in absurd
    (let q : Some m ≡ None = sym h ∙ p in cc)) ∙ h

pub found-in : (table : Records) → IsOnce table → (f : FinishedRun) → In f table
    → Recorded table f.run f.made
found-in [] o f i = absurd i
found-in (g ∷ table) o f (inl p) = subst (λ (x : FinishedRun). Recorded (g ∷ table) x.run x.made) p
    (found-newest table g)
found-in (g ∷ table) o f (inr i) = found-grows table g o.0 f.run f.made (found-in table o.1 f i)

finished_is : (f : FinishedRun) (r : RunId) (m : Record) → f.run ≡ r → f.made ≡ m
    → f ≡ record { run = r; made = m }
finished_is f r m p q = ap (λ (x : RunId). record { run = x; made = f.made }) p
    ∙ ap (λ (y : Record). record { run = r; made = y }) q

pub in-found : (table : Records) (r : RunId) (m : Record) → Recorded table r m
    → In (record { run = r; made = m }) table
in-found [] r m h = absurd (cc)
in-found (f ∷ table) r m h = go (same_run f.run r) refl h (in-found table r m)
  where
    go : (b : Bool) → same_run f.run r ≡ b → this_or b (found table r) f.made ≡ Some m
        → (found table r ≡ Some m → In (record { run = r; made = m }) table)
        → In (record { run = r; made = m }) (f ∷ table)
    go true t h ih =
        let p : f.run ≡ r = same_run-true f.run r t in
        let q : f.made ≡ m = cc in
        inl (finished_is f r m p q)
    go false t h ih = inr (ih h)

pub replay-rep : (table : Records) → IsOnce table → (r : RunId) (j k : Journal)
    → replay table r j ≡ Some k → Rep (Recorded table) (replays_run r) j k
replay-rep table o r j k h = replay-sound (Recorded table) table (found-in table o) r j k h

pub replay_all-reps : (table : Records) → IsOnce table → (runs : List RunId) (j k : Journal)
    → replay_all table runs j ≡ Some k → Reps (Recorded table) (map replays_run runs) j k
replay_all-reps table o runs j k h = replays-sound (Recorded table) (replay table)
    (replay-rep table o) (map replays_run runs) j k h

-- who has begun a run
abbrev pub beginner_or : Bool → ℕ → Option ℕ → Option ℕ
beginner_or true id older = Some id
beginner_or false id older = older

abbrev pub beginner : List BegunRun → RunId → Option ℕ
beginner [] r = None
beginner (b ∷ begun) r = beginner_or (same_run b.run r) b.by (beginner begun r)

pub beginner-begun : (begun : List BegunRun) (r : RunId) (id : ℕ) → beginner begun r ≡ Some id
    → is_begun r begun ≡ true
beginner-begun [] r id h = absurd (cc)
beginner-begun (b ∷ begun) r id h = go (same_run b.run r) h (beginner-begun begun r id)
  where
    go : (t : Bool) → beginner_or t b.by (beginner begun r) ≡ Some id
        → (beginner begun r ≡ Some id → is_begun r begun ≡ true) → (t || is_begun r begun) ≡ true
    go true h ih = refl
    go false h ih = ih h

pub beginner-grows : (begun : List BegunRun) (b : BegunRun) → is_begun b.run begun ≡ false
    → (r : RunId) (id : ℕ) → beginner begun r ≡ Some id → beginner (b ∷ begun) r ≡ Some id
beginner-grows begun b n r id h = go (same_run b.run r) refl
  where
    go : (t : Bool) → same_run b.run r ≡ t → beginner_or t b.by (beginner begun r) ≡ Some id
    go true e = absurd
        (clash (is_begun r begun) (beginner-begun begun r id h)
        (subst (λ s. is_begun s begun ≡ false) (same_run-true b.run r e) n))
    go false e = h

pub beginner-newest : (begun : List BegunRun) (b : BegunRun)
    → beginner (b ∷ begun) b.run ≡ Some b.by
beginner-newest begun b = ap (λ t. beginner_or t b.by (beginner begun b.run)) (same_run-refl b.run)

-- the journal is closed, and its records and the request's runs are those of the table
pub record LawfulJournal (table : Records) (j : Journal) (runs : List RunId) : Type 0 where
  pub closed : ClosedBy table j
  pub entries : (r : RunId) (m : Record) → In (ended r m) j → Recorded table r m
  pub runs_in : HasAll (map replays_run runs) j

module _ {P I A : Type 0} where
  -- a body that request id has begun, whose journal is that of its beginning with what it has done
  -- so far
  pub record LawfulBody (begun : List BegunRun) (table : Records) (id : ℕ) (j : Journal)
      (x : Within P I A) (from : Journal) : Type 0 where
    pub from_closed : ClosedBy table from
    pub fresh : has (end_of x.run) from ≡ false
    pub so_far : Reps (Recorded table) (effects_from x.run 0 x.so_far.segments) from j
    pub mine : beginner begun x.run ≡ Some id
    pub unfinished : found table x.run ≡ None

  abbrev pub LawfulPlace : List BegunRun → Records → ℕ → Journal → Place P I A → Type 0
  LawfulPlace begun table id j (walking walk) = Unit {0}
  LawfulPlace begun table id j (within x stop) = (from : Journal)
      × LawfulBody begun table id j x from

  abbrev pub LawfulStatus : List BegunRun → Records → ℕ → Journal → Status P I A → Type 0
  LawfulStatus begun table id j (ready place) = LawfulPlace begun table id j place
  LawfulStatus begun table id j (assigned node place) = LawfulPlace begun table id j place
  LawfulStatus begun table id j (waits r b go) = (is_begun r begun ≡ true) × (found table r ≡ None)
  LawfulStatus begun table id j (calling keys ids x go) =
      ((from : Journal) × LawfulBody begun table id j x from) × (length keys ≡ length ids)
  LawfulStatus begun table id j (done result) = HasAll (map replays_run result.runs) j

  pub record LawfulRequest (begun : List BegunRun) (table : Records) (id : ℕ)
      (q : RequestState P I A) : Type 0 where
    pub journal : LawfulJournal table q.journal q.runs
    pub status : LawfulStatus begun table id q.journal q.status

  pub record Lawful (s : State P I A) : Type 0 where
    pub each : (id : ℕ) (q : RequestState P I A) → at s.requests id ≡ Some q →
        LawfulRequest s.begun s.table id q
    pub ordered : IsOrdered s.table
    pub once : IsOnce s.table
    pub begun_once : AreDistinct (map (λ (b : BegunRun). b.run) s.begun)
    pub table_begun : (r : RunId) (m : Record) → Recorded s.table r m → is_begun r s.begun ≡ true
