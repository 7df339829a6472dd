-- One request of a core changes: the core shows the state after the event.
use Rattle.std.proofs.Common.{
  ◌≡◌,
  ◌≤◌,
  ◌+◌,
  inl,
  inr,
  ℕ,
  zero,
  suc,
  List,
  [],
  ◌∷◌,
  ◌++◌,
  length,
  map,
  Option,
  None,
  Some,
  refl,
  ap,
  sym,
  ◌∙◌,
  subst,
  arith,
}
use Rattle.std.proofs.lemmas.List.{length-append}
use Rattle.msb_laws.specs.Asking.{and_then}
use Rattle.result_cache.specs.declared.run.RunId.{RunId}
use Rattle.result_cache.specs.declared.request.RequestResult.{RequestResult}
use Rattle.result_cache.specs.Table.{TableRuns, found}
use Rattle.result_cache.proofs.RunTests.{and_then-some}
use Rattle.build_meaning.specs.declared.event.Event.{Event}
use Rattle.build_meaning.specs.Lists.{at, put, Paired}
use Rattle.build_meaning.specs.World.{World}
use Rattle.build_meaning.specs.State.{Status, done, RequestState, State}
use Rattle.build_meaning.specs.Step.{step}
use Rattle.build_meaning.specs.History.{IsHistory}
use Rattle.build_meaning.specs.Progress.{IsOver}
use Rattle.build_meaning.proofs.ListPlaces.{at-put, at-put_other}
use Rattle.build_scheduler.specs.declared.slot.Origin.{Origin}
use Rattle.build_scheduler.specs.declared.slot.Slot.{Slot}
use Rattle.build_scheduler.specs.declared.slot.End.{End}
use Rattle.build_scheduler.specs.declared.slot.End.TheVariants.{Root}
use Rattle.build_scheduler.specs.History.{History}
use Rattle.build_scheduler.specs.Own.{Seen}
use Rattle.build_scheduler.specs.Position.{answered}
use Rattle.build_scheduler.specs.Shown.{Shown, ShowsEnd}
use Rattle.build_scheduler.specs.Slots.{
  origin_of,
  making_of,
  result_in,
  result_at,
  owed,
  owed_by,
  unfinished,
  ShowsSlot,
}
use Rattle.build_scheduler.proofs.HistoryFacts.{more}
use Rattle.build_scheduler.proofs.SlotsStay.{paired-puts, Later, Alike, slot-later}

-- a list of what is unchanged at the place
pub map-put : {X Y : Type 0} (f : X → Y) (xs : List X) (i : ℕ) (x z : X) → at xs i ≡ Some x
    → f z ≡ f x → map f (put xs i z) ≡ map f xs
map-put f [] i x z e h = refl
map-put f (u ∷ xs) zero x z e h = let p : u ≡ x = cc in ap (λ y. y ∷ map f xs) (h ∙ ap f (sym p))
map-put f (u ∷ xs) (suc i) x z e h = ap (λ ys. f u ∷ ys) (map-put f xs i x z e h)

pub map-puts : {X Y : Type 0} (f : X → Y) (xs : List X) (i : ℕ) (z : X)
    → map f (put xs i z) ≡ put (map f xs) i (f z)
map-puts f [] i z = refl
map-puts f (u ∷ xs) zero z = refl
map-puts f (u ∷ xs) (suc i) z = ap (λ ys. f u ∷ ys) (map-puts f xs i z)

-- what is there already
pub put-there : {X : Type 0} (xs : List X) (i : ℕ) (x : X) → at xs i ≡ Some x → put xs i x ≡ xs
put-there [] i x e = refl
put-there (u ∷ xs) zero x e = let p : u ≡ x = cc in ap (λ y. y ∷ xs) (sym p)
put-there (u ∷ xs) (suc i) x e = ap (λ ys. u ∷ ys) (put-there xs i x e)

module _ {P I A : Type 0} where
  pub owed-put : (xs : List (RequestState P I A)) (i : ℕ) (x z : RequestState P I A)
      → at xs i ≡ Some x → owed_by (put xs i z) + owed x.status ≡ owed_by xs + owed z.status
  owed-put [] i x z e = absurd (cc)
  owed-put (u ∷ xs) zero x z e = let p : owed u.status
      ≡ owed x.status = (let q : u ≡ x = cc in ap (λ (a : RequestState P I A). owed a.status) q)
      in omega arith
  owed-put (u ∷ xs) (suc i) x z e = let h = owed-put xs i x z e in omega arith

  pub owed-at : (xs : List (RequestState P I A)) (i : ℕ) (x : RequestState P I A) → at xs i ≡ Some x
      → owed x.status ≤ owed_by xs
  owed-at [] i x e = absurd (cc)
  owed-at (u ∷ xs) zero x e = let p : owed u.status
      ≡ owed x.status = (let q : u ≡ x = cc in ap (λ (a : RequestState P I A). owed a.status) q)
      in omega arith
  owed-at (u ∷ xs) (suc i) x e = let h = owed-at xs i x e in omega arith

  pub result-put : (xs : List (RequestState P I A)) (i : ℕ) (x z : RequestState P I A)
      → at xs i ≡ Some x → result_in z.status ≡ result_in x.status → (n : ℕ)
      → result_at (put xs i z) n ≡ result_at xs n
  result-put [] i x z e h n = refl
  result-put (u ∷ xs) zero x z e h zero = let p : u ≡ x = cc in h
      ∙ ap (λ (a : RequestState P I A). result_in a.status) (sym p)
  result-put (u ∷ xs) zero x z e h (suc n) = refl
  result-put (u ∷ xs) (suc i) x z e h zero = refl
  result-put (u ∷ xs) (suc i) x z e h (suc n) = result-put xs i x z e h n

  not_over : (st : Status P I A) → result_in st ≡ None → IsOver st → ⊥
  not_over (done result) h o = absurd (cc)
  not_over _ h o = o

  over-of : (st : Status P I A) (result : RequestResult) → st ≡ done result → result_in st ≡ None
      → ⊥
  over-of st result e h = let a : Some result ≡ None = sym (ap result_in e) ∙ h in cc

  told_over : (st : Status P I A) → IsOver st → (r : RequestResult) × (result_in st ≡ Some r)
  told_over (done result) o = (result, refl)
  told_over _ o = absurd o

  over_told : (st : Status P I A) (r : RequestResult) → result_in st ≡ Some r → IsOver st
  over_told (done result) r h = tt
  over_told _ r h = absurd (cc)

  -- no end is told where the root's result is none as before
  pub ends-alike : (s t : State P I A) → result_at t.requests 0 ≡ result_at s.requests 0
      → ShowsEnd s None → ShowsEnd t None
  ends-alike s t same h root r o =
      let y = told_over root.status o in
      let a : result_at s.requests 0 ≡ Some y.0 = sym same
      ∙ (ap (λ x. and_then x (λ q. result_in q.status)) r ∙ y.1) in
      let z = and_then-some (at s.requests 0) (λ q. result_in q.status) y.0 a in
      h z.0 z.1 (over_told z.0.status y.0 z.2)

  pub ends-put : (s t : State P I A) (id : ℕ) (q z : RequestState P I A) (end : Option End)
      → at s.requests id ≡ Some q → t.requests ≡ put s.requests id z →
      result_in q.status ≡ None → result_in z.status ≡ None → ShowsEnd s end → ShowsEnd t end
  ends-put s t id q z None e m a b h = λ root r o.
      elim (at-put s.requests id z 0 root (sym (ap (λ rs. at rs 0) m) ∙ r)) [
        | inl x ↦ not_over z.status b
            (subst (λ (p : RequestState P I A). IsOver p.status) (sym x.1) o)
        | inr x ↦ h root x.1 o
      ]
  ends-put s t id q z (Some (Root result)) e m a b h =
      let other : 0 ≡ id → ⊥ = λ p.
      let same : Some h.0 ≡ Some q = sym h.1 ∙ (ap (at s.requests) p ∙ e) in
      let d : h.0 ≡ q = cc in over-of q.status result
      (ap (λ (p : RequestState P I A). p.status) (sym d) ∙ h.2) a in
      (h.0, ap (λ rs. at rs 0) m ∙ at-put_other s.requests id z 0 h.0 other h.1, h.2)
  ends-put s t id q z (Some _) e m a b h = tt

pub one-more : (events after : List Event) (event : Event) → after ≡ events ++ event ∷ []
    → length after ≡ suc (length events)
one-more events after event e = let h : length (events ++ event ∷ [])
    ≡ length events + 1 = length-append events (event ∷ []) in let k : length after
    ≡ length (events ++ event ∷ []) = ap length e in omega arith

module _ {W P I A : Type 0} (seen : W → Seen P I A) (w : World P I A) where
  -- a table that is unchanged
  pub later-same : (s t : State P I A) (count after : ℕ) → t.table ≡ s.table → count ≤ after
      → Later w s t count after
  later-same s t count after e l = record {
    has = λ run made h. ap (λ table. found table run) e ∙ h;
    goes = λ p next answer h. ap (λ table. answered w table p answer) e ∙ h;
    counts = l;
  }

  -- one request changes, whatever end is told then
  pub shown-change : {history after : History} {origins : List Origin} {slots : List (Slot W)}
      {making bodies : List (Option RunId)} {table runs : TableRuns} {end told : Option End}
      (event : Event) (id : ℕ) (q z : RequestState P I A) (t : State P I A)
      (slot : Slot W) → (x : Shown seen w history origins slots making table end)
      → at x.state.requests id ≡ Some q → step w x.state event ≡ Some t
      → t.requests ≡ put x.state.requests id z → t.table ≡ x.state.table →
      z.origin ≡ q.origin → after.events ≡ history.events ++ event ∷ []
      → owed z.status + history.room ≤ after.room + owed q.status →
      bodies ≡ map making_of (put x.state.requests id z) → runs.finished ≡ table.finished
      → runs.begun ≡ unfinished t.table t.begun →
      ((n : ℕ) (b : RequestState P I A) → (n ≡ id → ⊥) → at x.state.requests n ≡ Some b
      → Alike w x.state t b) → ShowsSlot w t (length after.events) seen slot z → ShowsEnd t told
      →
      Shown seen w after origins (put slots id slot) bodies runs told
  shown-change {history} {after} {origins} {slots} {making} {bodies} {table} {runs} {end} {told}
      event
      id q z t slot x e st m tb o ev room bo fin beg alike new ends = record {
        state = t;
        history = subst (λ es. IsHistory w es t) (sym ev)
            (more w history.events event x.state t x.history st);
        asked = x.asked
            ∙ (sym
            (map-put origin_of x.state.requests id q z e
            (ap (λ o. record { key = o.key; parent = o.parent; depth = length o.path }) o))
            ∙ ap (map origin_of) (sym m));
        rooted = x.rooted;
        each = subst (Paired (ShowsSlot w t (length after.events) seen) (put slots id slot)) (sym m)
            (paired-puts (ShowsSlot w x.state (length history.events) seen)
            (ShowsSlot w t (length after.events) seen) slots x.state.requests id slot z
            (λ n u v d f h. slot-later w seen x.state t (length history.events)
            (length after.events)
            (later-same x.state t (length history.events) (length after.events) tb
            (let k : length after.events ≡ suc (length history.events) = one-more history.events
            after.events event ev in omega arith)) u v (alike n v d f) h)
            new x.each);
        bodies = bo ∙ ap (map making_of) (sym m);
        finished = fin ∙ (x.finished ∙ sym tb);
        begun = beg;
        room = let h = owed-put x.state.requests id q z e in
            let r : owed_by x.state.requests ≤ history.room = x.room in
            let k : owed_by t.requests ≡ owed_by (put x.state.requests id z) = ap owed_by m in omega
            arith;
        ends = ends;
      }

  pub shown-put : {history after : History} {origins : List Origin} {slots : List (Slot W)}
      {making bodies : List (Option RunId)} {table runs : TableRuns} {end : Option End}
      (event : Event) (id : ℕ) (q z : RequestState P I A) (t : State P I A)
      (slot : Slot W) → (x : Shown seen w history origins slots making table end)
      → at x.state.requests id ≡ Some q → step w x.state event ≡ Some t
      → t.requests ≡ put x.state.requests id z → t.table ≡ x.state.table →
      z.origin ≡ q.origin → result_in q.status ≡ None → result_in z.status ≡ None
      → after.events ≡ history.events ++ event ∷ []
      → owed z.status + history.room ≤ after.room + owed q.status →
      bodies ≡ map making_of (put x.state.requests id z) → runs.finished ≡ table.finished
      → runs.begun ≡ unfinished t.table t.begun →
      ((n : ℕ) (b : RequestState P I A) → (n ≡ id → ⊥) → at x.state.requests n ≡ Some b
      → Alike w x.state t b) → ShowsSlot w t (length after.events) seen slot z →
      Shown seen w after origins (put slots id slot) bodies runs end
  shown-put {end = end} event id q z t slot x e st m tb o a b ev room bo fin beg alike new =
      shown-change event id q z t slot x e st m tb o ev room bo fin beg alike new
      (ends-put x.state t id q z end e m a b x.ends)
