-- What a core holds of a request still shows it in a later state in which the request stands as
-- before.
use Rattle.std.proofs.Common.{
  ◌≡◌,
  ◌≤◌,
  ℕ,
  zero,
  suc,
  List,
  [],
  ◌∷◌,
  map,
  Some,
  refl,
  ap,
  sym,
  ◌∙◌,
  subst,
  arith,
}
use Rattle.result_cache.specs.declared.run.RunId.{RunId}
use Rattle.result_cache.specs.declared.request.RequestKey.{RequestKey}
use Rattle.result_cache.specs.declared.request.RequestResult.{RequestResult}
use Rattle.result_cache.specs.declared.record.Record.{Record}
use Rattle.result_cache.specs.Journal.{Journal}
use Rattle.result_cache.specs.Table.{found, request_of}
use Rattle.build_meaning.specs.Lists.{at, put, Paired, numbered_from}
use Rattle.build_meaning.specs.World.{World}
use Rattle.build_meaning.specs.Walk.{Walk, Body}
use Rattle.build_meaning.specs.State.{Within, waits, calling, RequestState, State}
use Rattle.build_scheduler.specs.declared.walker.Answer.{Answer}
use Rattle.build_scheduler.specs.declared.slot.Slot.{Slot}
use Rattle.build_scheduler.specs.declared.slot.Slot.TheVariants.{
  Ready,
  Assigned,
  Waiting,
  Calling,
  Done,
}
use Rattle.build_scheduler.specs.Position.{Position, answered}
use Rattle.build_scheduler.specs.Learnt.{ArePartOf}
use Rattle.build_scheduler.specs.Own.{Seen}
use Rattle.build_scheduler.specs.Slots.{result_at, unfinished, AreSoFar, Stands, Goes, ShowsSlot}

-- the entries of two lists in step, from the second one
pub paired-other : {X Y : Type 0} (S : X → Y → Type 0) (xs : List X) (ys : List Y) (i : ℕ) (y : Y)
    → Paired S xs ys → at ys i ≡ Some y → (x : X) × S x y × (at xs i ≡ Some x)
paired-other S [] [] i y h e = absurd (cc)
paired-other S [] (v ∷ ys) i y h e = absurd h
paired-other S (x ∷ xs) [] i y h e = absurd h
paired-other S (x ∷ xs) (v ∷ ys) zero y h e = let p : v
    ≡ y = cc in (x, subst (λ a. S x a) p h.0, refl)
paired-other S (x ∷ xs) (v ∷ ys) (suc i) y h e = paired-other S xs ys i y h.1 e

-- in step by another relation, which each place keeps
pub paired-each : {X Y : Type 0} (S T : X → Y → Type 0) (xs : List X) (ys : List Y)
    → ((n : ℕ) (a : X) (b : Y) → at ys n ≡ Some b → S a b → T a b) → Paired S xs ys → Paired T xs ys
paired-each S T [] [] m h = tt
paired-each S T [] (v ∷ ys) m h = absurd h
paired-each S T (u ∷ xs) [] m h = absurd h
paired-each S T (u ∷ xs) (v ∷ ys) m h =
    (m 0 u v refl h.0, paired-each S T xs ys (λ n. m (suc n)) h.1)

-- both lists change at one place, and the others stay in step
pub paired-puts : {X Y : Type 0} (S T : X → Y → Type 0) (xs : List X) (ys : List Y) (i : ℕ) (x : X)
    (y : Y) →
    ((n : ℕ) (a : X) (b : Y) → (n ≡ i → ⊥) → at ys n ≡ Some b → S a b → T a b) → T x y
    → Paired S xs ys → Paired T (put xs i x) (put ys i y)
paired-puts S T [] [] i x y m f h = tt
paired-puts S T [] (v ∷ ys) i x y m f h = absurd h
paired-puts S T (u ∷ xs) [] i x y m f h = absurd h
paired-puts S T (u ∷ xs) (v ∷ ys) zero x y m f h =
    (f, paired-each S T xs ys (λ n a b. m (suc n) a b (λ e. absurd (omega arith))) h.1)
paired-puts S T (u ∷ xs) (v ∷ ys) (suc i) x y m f h = (
  m 0 u v (λ e. absurd (omega arith)) refl h.0,
  paired-puts S T xs ys i x y
      (λ n a b d. m (suc n) a b (λ e. d (omega arith))) f h.1,
)

pub map-alike : {X Y : Type 0} (f g : X → Y) (xs : List X) → ((x : X) → f x ≡ g x)
    → map f xs ≡ map g xs
map-alike f g [] h = refl
map-alike f g (x ∷ xs) h = ap (λ y. y ∷ map f xs) (h x) ∙ ap (λ ys. g x ∷ ys) (map-alike f g xs h)

module _ {P I A : Type 0} (w : World P I A) where
  -- a later state: its table has the records of the earlier one, and answers by them take a walk
  -- where they did
  pub record Later (s t : State P I A) (count after : ℕ) : Type 0 where
    pub has : (run : RunId) (made : Record) → found s.table run ≡ Some made
        → found t.table run ≡ Some made
    pub goes : (p next : Position P I A) (answer : Answer) → answered w s.table p answer ≡ Some next
        → answered w t.table p answer ≡ Some next
    pub counts : count ≤ after

  -- a request for which nothing else has changed: the run that it waits for is begun by the same
  -- request, and its calls have the same results
  pub record Alike (s t : State P I A) (q : RequestState P I A) : Type 0 where
    pub begun : (run : RunId) (body : Body I A) (go : Record → Journal → Walk P I A) (by : ℕ)
        → q.status ≡ waits run body go →
        request_of (unfinished s.table s.begun) run ≡ Some by
        → request_of (unfinished t.table t.begun) run ≡ Some by
    pub told : (keys : List RequestKey) (ids : List ℕ) (x : Within P I A)
        (go : List RequestResult → Journal → Body I A) → q.status ≡ calling keys ids x go →
        map (result_at t.requests) ids ≡ map (result_at s.requests) ids

  pub part-later : (s t : State P I A) (count after : ℕ) → Later s t count after → (part : _)
      → ArePartOf part s.table → ArePartOf part t.table
  part-later s t count after l part h = record
      { in_order = h.in_order; shared = λ run made e. l.has run made (h.shared run made e) }

  stands-later : (s t : State P I A) (count after : ℕ) → Later s t count after
      → (walk : Seen P I A) (p : Position P I A) → Stands w s count walk p → Stands w t after walk p
  stands-later s t count after l walk p h = record {
    world = h.world;
    learnt = part-later s t count after l walk.learnt h.learnt;
    position = h.position;
    asked = h.asked;
    few = let a : walk.asked ≤ count = h.few in let b : count ≤ after = l.counts in omega arith;
  }

  goes-later : (s t : State P I A) (count after : ℕ) → Later s t count after
      → (walk : Seen P I A) (answer : Answer) (p : Position P I A) → Goes w s count walk answer p
      → Goes w t after walk answer p
  goes-later s t count after l walk answer p h = record {
    world = h.world;
    learnt = part-later s t count after l walk.learnt h.learnt;
    goes = l.goes walk.position p answer h.goes;
    turn = h.turn;
    few = let a : walk.asked ≤ count = h.few in let b : count ≤ after = l.counts in omega arith;
  }

  pub slot-later : {W : Type 0} (seen : W → Seen P I A) (s t : State P I A) (count after : ℕ)
      → Later s t count after → (slot : Slot W) (q : RequestState P I A) → Alike s t q →
      ShowsSlot w s count seen slot q → ShowsSlot w t after seen slot q
  slot-later seen s t count after l (Ready walk answer) q a h = record {
    position = h.position;
    goes = goes-later s t count after l (seen walk) answer h.position
        h.goes;
    is = h.is;
  }
  slot-later seen s t count after l (Assigned node) q a h = record { place = h.place; is = h.is }
  slot-later seen s t count after l (Waiting walk by) q a h = record {
    run = h.run;
    site = h.site;
    body = h.body;
    go = h.go;
    is = h.is;
    stands = stands-later s t count after l (seen walk) _ h.stands;
    begun = a.begun h.run h.body h.go by h.is h.begun;
  }
  slot-later seen s t count after l (Calling calls) q a h = record {
    key = h.key;
    keys = h.keys;
    inside = h.inside;
    go = h.go;
    is = h.is;
    stands = stands-later s t count after l (seen calls.walk) _ h.stands;
    so_far = subst (λ told. AreSoFar told calls.results.items calls.«open»)
        (sym
        (a.told (h.key ∷ h.keys) (numbered_from calls.first (h.key ∷ h.keys)) h.inside h.go h.is))
        h.so_far;
  }
  slot-later seen s t count after l Done q a h = record { result = h.result; is = h.is }
