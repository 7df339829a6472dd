-- The lists of ready requests and of those that wait, as slots change.
use Rattle.std.proofs.Common.{
  ◌≡◌,
  ◌≤◌,
  ◌<◌,
  ◌+◌,
  ◌-◌,
  ◌==◌,
  ◌||◌,
  ◌&&◌,
  not,
  inl,
  inr,
  ℕ,
  zero,
  suc,
  Bool,
  true,
  false,
  List,
  [],
  ◌∷◌,
  length,
  map,
  Option,
  None,
  Some,
  refl,
  ap,
  sym,
  ◌∙◌,
  subst,
  arith,
  get_or,
  set,
}
use Rattle.std.proofs.Props.{props}
use Rattle.std.proofs.lemmas.Bool.{eqb-true, eq-eqb}
use Rattle.std.proofs.lemmas.List.{length-map}
use Rattle.result_cache.proofs.RunTests.{tells}
use Rattle.result_cache.specs.declared.request.RequestResult.{RequestResult}
use Rattle.build_meaning.specs.Lists.{at, put}
use Rattle.build_meaning.proofs.ListPlaces.{at-put_same, at-put_else, put-length}
use Rattle.build_meaning.proofs.ParentsAndChildren.{same_or_not}
use Rattle.build_scheduler.specs.declared.walker.Answer.TheVariants.{Use}
use Rattle.build_scheduler.specs.declared.slot.Calls.{Calls}
use Rattle.build_scheduler.specs.declared.slot.Slot.{Slot}
use Rattle.build_scheduler.specs.declared.slot.Slot.TheVariants.{
  Ready,
  Assigned,
  Waiting,
  Calling,
  Done,
}
use Rattle.build_scheduler.specs.Calls.{IsTold, IsResumed}
use Rattle.build_scheduler.specs.Numbers.{among, Numbered, IsPopped}
use Rattle.build_scheduler.specs.Shown.{
  Indexed,
  Listed,
  IsWaiting,
  IsWoken,
  is_ready,
  waits_for,
  one_unless,
  unready,
  numbers_of,
  woken_by,
  woken_if,
}

pub not-equal : (m n : ℕ) → (m ≡ n → ⊥) → (m == n) ≡ false
not-equal m n h = elim (tells (m == n)) [ inl t ↦ absurd (h (eqb-true m n t)) | inr f ↦ f ]

pub put-put : {X : Type 0} (xs : List X) (i : ℕ) (x y : X) → put (put xs i x) i y ≡ put xs i y
put-put [] i x y = refl
put-put (u ∷ xs) zero x y = refl
put-put (u ∷ xs) (suc i) x y = ap (λ ys. u ∷ ys) (put-put xs i x y)

module _ {W : Type 0} where
  pub unready-put : (slots : List (Slot W)) (i : ℕ) (x y : Slot W) → at slots i ≡ Some x
      → unready (put slots i y) + one_unless (is_ready (Some x))
      ≡ unready slots + one_unless (is_ready (Some y))
  unready-put [] i x y e = absurd (cc)
  unready-put (u ∷ slots) zero x y e =
      let p : one_unless (is_ready (Some u)) ≡ one_unless (is_ready (Some x)) =
      (let q : u ≡ x = cc in ap (λ (a : Slot W). one_unless (is_ready (Some a))) q) in omega
      arith
  unready-put (u ∷ slots) (suc i) x y e = let h = unready-put slots i x y e in omega arith

  -- by the place that changes and by others
  pub at-cases : (slots : List (Slot W)) (i : ℕ) (x y : Slot W) (P : ℕ → Option (Slot W) → Type 0)
      → at slots i ≡ Some x → P i (Some y) → ((n : ℕ) → (n ≡ i → ⊥) → P n (at slots n)) → (n : ℕ)
      → P n (at (put slots i y) n)
  at-cases slots i x y P e h g n = elim (same_or_not n i) [
    | inl p ↦ subst (λ m. P m (at (put slots i y) m)) (sym p)
        (subst (P i) (sym (at-put_same slots i x y e)) h)
    | inr d ↦ subst (P n) (sym (at-put_else slots i y n d)) (g n d)
  ]

  -- a slot changes, and is no more or no less ready or waiting
  pub same-indexed : (slots : List (Slot W)) (ready : Numbered) (waiting : List Numbered) (id : ℕ)
      (x y : Slot W) → at slots id ≡ Some x → is_ready (Some y) ≡ is_ready (Some x) →
      ((by : ℕ) → waits_for by (Some y) ≡ waits_for by (Some x)) → Indexed slots ready waiting
      → Indexed (put slots id y) ready waiting
  same-indexed slots ready waiting id x y e r f h = record {
    listed = at-cases slots id x y (λ n o. among n ready.numbers ≡ is_ready o) e
        (h.listed id ∙ (ap is_ready e ∙ sym r)) (λ n d. h.listed n);
    room = let k = unready-put slots id x y e in let a : one_unless (is_ready (Some y))
        ≡ one_unless (is_ready (Some x)) = ap one_unless r in let b : unready slots
        ≤ ready.room = h.room in omega arith;
    lists = h.lists ∙ sym (put-length slots id y);
    waits = λ by.
        at-cases slots id x y (λ n o. among n (numbers_of (at waiting by)) ≡ waits_for by o) e
        (h.waits by id ∙ (ap (waits_for by) e ∙ sym (f by))) (λ n d. h.waits by n);
  }

  -- a ready slot goes out
  pub out-indexed : (slots : List (Slot W)) (ready after : Numbered) (waiting : List Numbered)
      (id : ℕ) (walk : W) (answer : _) (node : ℕ) {outs : List (Slot W)}
      → at slots id ≡ Some (Ready walk answer) →
      outs ≡ put slots id (Assigned node)
      → ((n : ℕ) → among n after.numbers ≡ (not (id == n) && among n ready.numbers))
      → after.room ≡ ready.room + 1 → Indexed slots ready waiting → Indexed outs after waiting
  out-indexed slots ready after waiting id walk answer node e out f r h = subst
      (λ after_slots. Indexed after_slots after waiting) (sym out) (record {
        listed = at-cases slots id (Ready walk answer) (Assigned node)
            (λ n o. among n after.numbers ≡ is_ready o) e
            (f id ∙ ap (λ b. not b && among id ready.numbers) (eq-eqb id id refl))
            (λ n d. f n
            ∙ (ap (λ b. not b && among n ready.numbers) (not-equal id n (λ q. d (sym q)))
            ∙ h.listed n));
        room = let k = unready-put slots id (Ready walk answer) (Assigned node) e in let b : unready
            slots ≤ ready.room = h.room in omega arith;
        lists = h.lists ∙ sym (put-length slots id (Assigned node));
        waits = λ by. at-cases slots id (Ready walk answer) (Assigned node)
            (λ n o. among n (numbers_of (at waiting by)) ≡ waits_for by o) e
            (h.waits by id ∙ ap (waits_for by) e) (λ n d. h.waits by n);
      })

module _ {W : Type 0} (id : ℕ) where
  -- a slot is made ready: by the run that it waited for, the slots come to the same
  pub woken-put : (slots : List (Slot W)) (n : ℕ) (walk : W) (by : ℕ)
      → at slots n ≡ Some (Waiting walk by) → by ≡ id
      → map (woken_by id) (put slots n (Ready walk Use)) ≡ map (woken_by id) slots
  woken-put [] n walk by e b = refl
  woken-put (u ∷ slots) zero walk by e b =
      let p : u ≡ Waiting walk by = cc in
      ap (λ y. y ∷ map (woken_by id) slots)
      (sym (ap (woken_by id) p ∙ ap (λ t. woken_if t walk by) (eq-eqb by id b)))
  woken-put (u ∷ slots) (suc n) walk by e b = ap (λ ys. woken_by id u ∷ ys)
      (woken-put slots n walk by e b)

  waits-then : (o : Option (Slot W)) → waits_for id o ≡ true → IsWaiting o
  waits-then None h = absurd (cc)
  waits-then (Some (Ready walk answer)) h = absurd (cc)
  waits-then (Some (Assigned node)) h = absurd (cc)
  waits-then (Some (Waiting walk by)) h = tt
  waits-then (Some (Calling calls)) h = absurd (cc)
  waits-then (Some Done) h = absurd (cc)

  waits-not_ready : (o : Option (Slot W)) → waits_for id o ≡ true → is_ready o ≡ false
  waits-not_ready None h = refl
  waits-not_ready (Some (Ready walk answer)) h = absurd (cc)
  waits-not_ready (Some (Assigned node)) h = refl
  waits-not_ready (Some (Waiting walk by)) h = refl
  waits-not_ready (Some (Calling calls)) h = refl
  waits-not_ready (Some Done) h = refl

  pub unready-there : (slots : List (Slot W)) (n : ℕ) (x : Slot W) → at slots n ≡ Some x
      → is_ready (Some x) ≡ false → 0 < unready slots
  unready-there [] n x e r = absurd (cc)
  unready-there (u ∷ slots) zero x e r =
      let p : one_unless (is_ready (Some u)) ≡ 1 =
      (let q : u ≡ x = cc in ap (λ (a : Slot W). one_unless (is_ready (Some a))) q
      ∙ ap one_unless r) in omega arith
  unready-there (u ∷ slots) (suc n) x e r = let h = unready-there slots n x e r in omega arith

  unready-of : (slots : List (Slot W)) (n : ℕ) → waits_for id (at slots n) ≡ true
      → 0 < unready slots
  unready-of slots n h = go (at slots n) refl h
    where
      go : (o : Option (Slot W)) → at slots n ≡ o → waits_for id o ≡ true → 0 < unready slots
      go None e h = absurd (cc)
      go (Some x) e h = unready-there slots n x e (waits-not_ready (Some x) h)

  -- a number that was taken from those that wait
  pub popped-waits : (slots : List (Slot W)) (ready : Numbered) (waiting rest : List ℕ) (n : ℕ)
      → Listed id slots ready waiting → IsPopped waiting rest (Some n) →
      IsWaiting (at slots n) × (among n ready.numbers ≡ false) × (0 < ready.room)
  popped-waits slots ready waiting rest n l p =
      let h : waits_for id (at slots n) ≡ true = sym (l.waits n) ∙ p.1 in (
        waits-then (at slots n) h,
        l.listed n ∙ waits-not_ready (at slots n) h,
        (let a : 0 < unready slots = unready-of slots n h in let b : unready slots
            ≤ ready.room = l.room in omega arith),
      )

  -- after it is made ready
  pub woken-listed : (slots after : List (Slot W)) (ready next : Numbered) (waiting rest : List ℕ)
      (n : ℕ) → Listed id slots ready waiting → IsPopped waiting rest (Some n)
      → IsWoken slots after n →
      ((m : ℕ) → among m next.numbers ≡ ((n == m) || among m ready.numbers))
      → ready.room ≡ next.room + 1 → Listed id after next rest
      × (map (woken_by id) after ≡ map (woken_by id) slots)
  woken-listed slots after ready next waiting rest n l p w f r =
      let by_is : w.by ≡ id = eqb-true w.by id
      (ap (waits_for id) (sym w.was) ∙ (sym (l.waits n) ∙ p.1)) in (
        subst (λ (xs : List (Slot W)). Listed id xs next rest) (sym w.is) (record {
          listed = at-cases slots n (Waiting w.walk w.by) (Ready w.walk Use)
              (λ m o. among m next.numbers ≡ is_ready o) w.was
              (f n ∙ ap (λ b. b || among n ready.numbers) (eq-eqb n n refl))
              (λ m d. f m
              ∙ (ap (λ b. b || among m ready.numbers) (not-equal n m (λ q. d (sym q)))
              ∙ l.listed m));
          room = let k = unready-put slots n (Waiting w.walk w.by) (Ready w.walk Use) w.was in let b
              : unready slots ≤ ready.room = l.room in omega arith;
          waits = at-cases slots n (Waiting w.walk w.by) (Ready w.walk Use)
              (λ m o. among m rest ≡ waits_for id o) w.was
              (p.2 n ∙ ap (λ b. not b && among n waiting) (eq-eqb n n refl))
              (λ m d. p.2 m
              ∙ (ap (λ b. not b && among m waiting) (not-equal n m (λ q. d (sym q)))
              ∙ l.waits m));
        }),
        ap (map (woken_by id)) w.is ∙ woken-put slots n w.walk w.by w.was by_is,
      )

  -- where none waits, all are as they were
  pub none-wait : (slots : List (Slot W)) → ((n : ℕ) → waits_for id (at slots n) ≡ false)
      → map (woken_by id) slots ≡ slots
  none-wait [] h = refl
  none-wait (u ∷ slots) h = ap (λ y. y ∷ map (woken_by id) slots) (same u (h 0))
      ∙ ap (λ ys. u ∷ ys) (none-wait slots (λ n. h (suc n)))
    where
      same : (x : Slot W) → waits_for id (Some x) ≡ false → woken_by id x ≡ x
      same (Ready walk answer) h = refl
      same (Assigned node) h = refl
      same (Waiting walk by) h = ap (λ t. woken_if t walk by) h
      same (Calling calls) h = refl
      same Done h = refl

  -- at the end all that waited are woken
  pub all-woken : (slots before : List (Slot W)) (ready : Numbered) (waiting : List ℕ)
      → Listed id slots ready waiting → waiting ≡ []
      → map (woken_by id) slots ≡ map (woken_by id) before → slots ≡ map (woken_by id) before
  all-woken slots before ready waiting l e h = sym
      (none-wait slots (λ n. sym (l.waits n) ∙ ap (among n) e)) ∙ h

pub indexed-prop : {W : Type 0} (slots : List (Slot W)) (ready : Numbered) (waiting : List Numbered)
    → IsProp (Indexed slots ready waiting)
indexed-prop slots ready waiting = hlevel props

pub listed-prop : {W : Type 0} (id : ℕ) (slots : List (Slot W)) (ready : Numbered)
    (waiting : List ℕ) → IsProp (Listed id slots ready waiting)
listed-prop id slots ready waiting = hlevel props

-- places of a list, as the code reads and writes them
pub at-get : {X : Type 0} (xs : List X) (i : ℕ) (d : X) → i < length xs
    → at xs i ≡ Some (get_or xs i d)
at-get [] i d l = absurd (omega arith)
at-get (x ∷ xs) zero d l = refl
at-get (x ∷ xs) (suc i) d l = at-get xs i d (omega arith)

pub put-set : {X : Type 0} (xs : List X) (i : ℕ) (y : X) → set xs i y ≡ put xs i y
put-set [] i y = refl
put-set (x ∷ xs) zero y = refl
put-set (x ∷ xs) (suc i) y = ap (λ ys. x ∷ ys) (put-set xs i y)

module _ {W : Type 0} (id : ℕ) where
  -- the list of those that wait for one request
  pub listed-at : (slots : List (Slot W)) (ready : Numbered) (waiting : List Numbered)
      (one d : Numbered) → id < length slots → one ≡ get_or waiting id d
      → Indexed slots ready waiting → Listed id slots ready one.numbers
  listed-at slots ready waiting one d l e x =
      let lists : length waiting ≡ length slots = x.lists in
      let is : numbers_of (at waiting id) ≡ one.numbers = ap numbers_of
      (at-get waiting id d (omega arith)) ∙ ap (λ (w : Numbered). w.numbers) (sym e) in
      record { listed = x.listed; room = x.room; waits = λ n. ap (among n) (sym is) ∙ x.waits id n }

  at-woken : (slots : List (Slot W)) (n : ℕ) (P : Option (Slot W) → Option (Slot W) → Type 0)
      → P None None → ((x : Slot W) → P (Some x) (Some (woken_by id x)))
      → P (at slots n) (at (map (woken_by id) slots) n)
  at-woken [] n P a b = a
  at-woken (x ∷ slots) zero P a b = b x
  at-woken (x ∷ slots) (suc n) P a b = at-woken slots n P a b

  none-left : (x : Slot W) → waits_for id (Some (woken_by id x)) ≡ false
  none-left (Ready walk answer) = refl
  none-left (Assigned node) = refl
  none-left (Waiting walk by) = go (by == id) refl
    where
      go : (t : Bool) → (by == id) ≡ t → waits_for id (Some (woken_if t walk by)) ≡ false
      go true e = refl
      go false e = e
  none-left (Calling calls) = refl
  none-left Done = refl

  others-left : (by : ℕ) → (by ≡ id → ⊥) → (x : Slot W)
      → waits_for by (Some x) ≡ waits_for by (Some (woken_by id x))
  others-left by d (Ready walk answer) = refl
  others-left by d (Assigned node) = refl
  others-left by d (Waiting walk other) = go (other == id) refl
    where
      go : (t : Bool) → (other == id) ≡ t → (other == by)
          ≡ waits_for by (Some (woken_if t walk other))
      go true e = let p : other ≡ id = eqb-true other id e in not-equal other by
          (λ q. d (sym q ∙ p))
      go false e = refl
  others-left by d (Calling calls) = refl
  others-left by d Done = refl

  -- the lists after the slots that waited are woken
  pub woken-indexed : (slots after : List (Slot W)) (ready next : Numbered)
      (waiting lists : List Numbered) (one : Numbered) → id < length slots
      → after ≡ map (woken_by id) slots → lists ≡ set waiting id one → one.numbers ≡ [] →
      Listed id after next one.numbers → Indexed slots ready waiting → Indexed after next lists
  woken-indexed slots after ready next waiting lists one l e s o h x = subst
      (λ (xs : List (Slot W)). Indexed xs next lists) (sym e)
      (subst (λ ws. Indexed (map (woken_by id) slots) next ws) (sym (s ∙ put-set waiting id one))
      (record {
        listed = λ n. h.listed n ∙ ap (λ (xs : List (Slot W)). is_ready (at xs n)) e;
        room = subst (λ (xs : List (Slot W)). unready xs ≤ next.room) e h.room;
        lists = put-length waiting id one ∙ (x.lists ∙ sym (length-map slots (woken_by id)));
        waits = λ by n. elim (same_or_not by id) [
          | inl p ↦ subst (λ b. among n (numbers_of (at (put waiting id one) b))
              ≡ waits_for b (at (map (woken_by id) slots) n)) (sym p) (mine n)
          | inr d ↦ ap (λ w. among n (numbers_of w)) (at-put_else waiting id one by d)
              ∙ (x.waits by n ∙ at-woken slots n (λ a b. waits_for by a ≡ waits_for by b) refl
              (others-left by d))
        ];
      }))
    where
      there : at (put waiting id one) id ≡ Some one
      there = let lists : length waiting ≡ length slots = x.lists in at-put_same waiting id
          (get_or waiting id one) one (at-get waiting id one (omega arith))

      mine : (n : ℕ) → among n (numbers_of (at (put waiting id one) id))
          ≡ waits_for id (at (map (woken_by id) slots) n)
      mine n = ap (λ w. among n (numbers_of w)) there
          ∙ (ap (among n) o ∙ at-woken slots n (λ a b. false ≡ waits_for id b) refl
          (λ y. sym (none-left y)))

pub unlisted-prop : (n : ℕ) (ready : Numbered)
    → IsProp ((among n ready.numbers ≡ false) × (0 < ready.room))
unlisted-prop n ready = hlevel props

told-waits : {W : Type 0} (calls : Calls W) (place : ℕ) (told : RequestResult) (slot : Slot W)
    → IsTold calls place told slot → (by : ℕ) → waits_for by (Some slot) ≡ false
told-waits calls place told (Ready walk answer) h by = refl
told-waits calls place told (Calling next) h by = refl
told-waits calls place told (Assigned node) h by = absurd h
told-waits calls place told (Waiting walk other) h by = absurd h
told-waits calls place told Done h by = absurd h

-- a caller is told a result
pub resumed-indexed : {W : Type 0} (slots after : List (Slot W)) (ready next : Numbered)
    (waiting : List Numbered) (caller id : ℕ) (told : RequestResult)
    → IsResumed slots after ready next caller id told → Indexed slots ready waiting
    → Indexed after next waiting
resumed-indexed {W} slots after ready next waiting caller id told r x = subst
    (λ (xs : List (Slot W)). Indexed xs next waiting) (sym r.is) (record {
      listed = at-cases slots caller (Calling r.calls) r.slot
          (λ n o. among n next.numbers ≡ is_ready o)
          r.was
          (r.listed caller
          ∙ (ap (λ b. (is_ready (Some r.slot) && b) || among caller ready.numbers)
          (eq-eqb caller caller refl)
          ∙ (ap (λ b. (is_ready (Some r.slot) && true) || b) (x.listed caller ∙ ap is_ready r.was)
          ∙ itself (is_ready (Some r.slot)))))
          (λ n d. r.listed n
          ∙ (ap (λ b. (is_ready (Some r.slot) && b) || among n ready.numbers)
          (not-equal caller n (λ q. d (sym q)))
          ∙ (neither (is_ready (Some r.slot)) (among n ready.numbers) ∙ x.listed n)));
      room = let k = unready-put slots caller (Calling r.calls) r.slot r.was in let b : unready
          slots
          ≤ ready.room = x.room in omega (arith, r.room);
      lists = x.lists ∙ sym (put-length slots caller r.slot);
      waits = λ by. at-cases slots caller (Calling r.calls) r.slot
          (λ n o. among n (numbers_of (at waiting by)) ≡ waits_for by o) r.was
          (x.waits by caller
          ∙ (ap (waits_for by) r.was
          ∙ sym (told-waits r.calls (id - r.calls.first) told r.slot r.tells by)))
          (λ n d. x.waits by n);
    })
  where
    itself : (b : Bool) → ((b && true) || false) ≡ b
    itself true = refl
    itself false = refl

    neither : (b c : Bool) → ((b && false) || c) ≡ c
    neither true c = refl
    neither false c = refl
