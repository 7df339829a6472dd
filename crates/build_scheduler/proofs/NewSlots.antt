-- The lists of ready requests and of those that wait, after calls are made.
use Rattle.std.proofs.Common.{
  ◌≡◌,
  ◌≤◌,
  ◌<◌,
  ◌+◌,
  ◌||◌,
  ◌&&◌,
  ◌⊎◌,
  inl,
  inr,
  ℕ,
  zero,
  suc,
  Bool,
  true,
  false,
  List,
  [],
  ◌∷◌,
  ◌++◌,
  length,
  map,
  Option,
  None,
  Some,
  refl,
  ap,
  sym,
  ◌∙◌,
  subst,
  arith,
}
use Rattle.std.proofs.lemmas.Bool.{lt-ltb, le-leb, ltb-true, leb-true, cases_order}
use Rattle.std.proofs.lemmas.List.{length-map, length-append}
use Rattle.std.specs.Prelude.{nat_le, nat_lt}
use Rattle.result_cache.specs.declared.request.RequestKey.{RequestKey}
use Rattle.result_cache.proofs.RunTests.{tells}
use Rattle.build_meaning.specs.Lists.{at, put, Paired}
use Rattle.build_meaning.proofs.ListPlaces.{at-less, put-length}
use Rattle.build_meaning.proofs.PairedLists.{Paired-length}
use Rattle.build_scheduler.specs.declared.slot.Calls.{Calls}
use Rattle.build_scheduler.specs.declared.slot.Slot.{Slot}
use Rattle.build_scheduler.specs.declared.slot.Slot.TheVariants.{
  Ready,
  Assigned,
  Waiting,
  Calling,
  Done,
}
use Rattle.build_scheduler.specs.Children.{IsChildSlot, empty_set}
use Rattle.build_scheduler.specs.Numbers.{among, Numbered}
use Rattle.build_scheduler.specs.Own.{Seen}
use Rattle.build_scheduler.specs.Shown.{
  Indexed,
  is_ready,
  waits_for,
  one_unless,
  unready,
  numbers_of,
}
use Rattle.build_scheduler.proofs.SlotNumbers.{at-cases, unready-put}

-- a place of two lists behind each other
pub front-or-back : {X : Type 0} (xs ys : List X) (n : ℕ)
    → ((n < length xs) × (at (xs ++ ys) n ≡ at xs n))
    ⊎ ((i : ℕ) × (n ≡ length xs + i) × (at (xs ++ ys) n ≡ at ys i) × (at xs n ≡ None))
front-or-back [] ys n = inr (n, omega arith, refl, refl)
front-or-back (x ∷ xs) ys zero = inl (omega arith, refl)
front-or-back (x ∷ xs) ys (suc n) = elim (front-or-back xs ys n) [
  | inl h ↦ inl ((let l : n < length xs = h.0 in omega arith), h.1)
  | inr h ↦ inr (h.0, (let e : n ≡ length xs + h.0 = h.1 in omega arith), h.2, h.3)
]

pub front-there : {X : Type 0} (xs : List X) (n : ℕ) → n < length xs → (x : X) × (at xs n ≡ Some x)
front-there [] n l = absurd (omega arith)
front-there (x ∷ xs) zero l = (x, refl)
front-there (x ∷ xs) (suc n) l = front-there xs n (omega arith)

not-below : (a b : ℕ) → b < a → nat_le a b ≡ false
not-below a b l = elim (tells (nat_le a b))
    [ inl t ↦ absurd (let m : a ≤ b = leb-true a b t in omega arith) | inr f ↦ f ]

not-less : (a b : ℕ) → b ≤ a → nat_lt a b ≡ false
not-less a b l = elim (tells (nat_lt a b))
    [ inl t ↦ absurd (let m : a < b = ltb-true a b t in omega arith) | inr f ↦ f ]

module _ {W P I A : Type 0} (seen : W → Seen P I A) (caller : Seen P I A) where
  child-ready : (children : List (Slot W)) (calls : List RequestKey)
      → Paired (IsChildSlot seen caller) children calls → (i : ℕ) (slot : Slot W)
      → at children i ≡ Some slot → (is_ready (Some slot) ≡ true)
      × ((by : ℕ) → waits_for by (Some slot) ≡ false)
  child-ready [] calls h i slot e = absurd (cc)
  child-ready (s ∷ children) [] h i slot e = absurd h
  child-ready (s ∷ children) (call ∷ calls) h zero slot e = let p : s
      ≡ slot = cc in subst (λ (x : Slot W). (is_ready (Some x) ≡ true)
      × ((by : ℕ) → waits_for by (Some x) ≡ false)) p (one s h.0)
    where
      one : (x : Slot W) → IsChildSlot seen caller x call
          → (is_ready (Some x) ≡ true) × ((by : ℕ) → waits_for by (Some x) ≡ false)
      one (Ready walk answer) k = (refl, λ by. refl)
      one (Assigned node) k = absurd k
      one (Waiting walk by) k = absurd k
      one (Calling calls) k = absurd k
      one Done k = absurd k
  child-ready (s ∷ children) (call ∷ calls) h (suc i) slot e = child-ready children calls h.1 i slot
      e

  children-unready : (children : List (Slot W)) (calls : List RequestKey)
      → Paired (IsChildSlot seen caller) children calls → unready children ≡ 0
  children-unready [] calls h = refl
  children-unready (s ∷ children) [] h = absurd h
  children-unready (s ∷ children) (call ∷ calls) h =
      let a : one_unless (is_ready (Some s)) ≡ 0 = ap one_unless
      (child-ready (s ∷ children) (call ∷ calls) h 0 s refl).0 in
      let b = children-unready children calls h.1 in omega arith

  unready-append : (xs ys : List (Slot W)) → unready (xs ++ ys) ≡ unready xs + unready ys
  unready-append [] ys = omega arith
  unready-append (x ∷ xs) ys = let h = unready-append xs ys in omega arith

  -- the lists after the calls are made
  pub called-indexed : (slots children : List (Slot W)) (ready next : Numbered)
      (waiting lists : List Numbered) (outs : List (Slot W)) (id node : ℕ) (open_calls : Calls W)
      (calls : List RequestKey) → at slots id ≡ Some (Assigned node)
      → Paired (IsChildSlot seen caller) children calls →
      outs ≡ put slots id (Calling open_calls) ++ children → lists ≡ waiting ++ map empty_set calls
      → unready slots + length calls ≤ ready.room → ready.room ≡ next.room + length calls →
      ((n : ℕ)
      → among n next.numbers
      ≡ ((nat_le (length slots) n && nat_lt n (length slots + length calls))
      || among n ready.numbers)) → Indexed slots ready waiting → Indexed outs next lists
  called-indexed slots children ready next waiting lists outs id node open_calls calls e ch os ws
      spare room f x = subst (λ (xs : List (Slot W)). Indexed xs next lists) (sym os)
      (subst (λ ls. Indexed (put slots id (Calling open_calls) ++ children) next ls) (sym ws)
      (record {
        listed = λ n. f n ∙ all n;
        room =
            let a = unready-append (put slots id (Calling open_calls)) children in
            let b = children-unready children calls ch in
            let c = unready-put slots id (Assigned node) (Calling open_calls) e in omega arith;
        lists =
            let a = length-append waiting (map empty_set calls) in
            let b = length-append (put slots id (Calling open_calls)) children in
            let c : length waiting ≡ length slots = x.lists in
            let g = length-map calls empty_set in
            let k = put-length slots id (Calling open_calls) in omega (arith, many);
        waits = λ by n. ap (among n) (same_lists by) ∙ (x.waits by n ∙ waits_same by n);
      }))
    where
      many : length children ≡ length calls
      many = Paired-length (IsChildSlot seen caller) children calls ch

      same_length : length (put slots id (Calling open_calls)) ≡ length slots
      same_length = put-length slots id (Calling open_calls)

      empties : (keys : List RequestKey) (i : ℕ) → numbers_of (at (map empty_set keys) i) ≡ []
      empties [] i = refl
      empties (key ∷ keys) zero = refl
      empties (key ∷ keys) (suc i) = empties keys i

      same_lists : (by : ℕ) → numbers_of (at (waiting ++ map empty_set calls) by)
          ≡ numbers_of (at waiting by)
      same_lists by = elim (front-or-back waiting (map empty_set calls) by) [
        | inl h ↦ ap numbers_of h.1
        | inr h ↦ ap numbers_of h.2 ∙ (empties calls h.0 ∙ sym (ap numbers_of h.3))
      ]

      put_waits : (by n : ℕ) → waits_for by (at slots n)
          ≡ waits_for by (at (put slots id (Calling open_calls)) n)
      put_waits by = at-cases slots id (Assigned node) (Calling open_calls)
          (λ n o. waits_for by (at slots n) ≡ waits_for by o) e (ap (waits_for by) e) (λ n d. refl)

      put_none : (n : ℕ) → at (put slots id (Calling open_calls)) n ≡ None → length slots ≤ n
      put_none n h = elim (cases_order n (length slots)) [
        | inl q ↦ omega arith
        | inr r ↦ elim r [
          | inl l ↦ absurd
              (let y = front-there (put slots id (Calling open_calls)) n
              (omega (arith, same_length)) in let k : Some y.0 ≡ None = sym y.1 ∙ h in cc)
          | inr l ↦ omega arith
        ]
      ]

      waits_same : (by n : ℕ) → waits_for by (at slots n)
          ≡ waits_for by (at (put slots id (Calling open_calls) ++ children) n)
      waits_same by n = elim (front-or-back (put slots id (Calling open_calls)) children n) [
        | inl h ↦ put_waits by n ∙ ap (waits_for by) (sym h.1)
        | inr h ↦ put_waits by n
            ∙ (ap (waits_for by) h.3
            ∙ (child_waits by h.0 (at children h.0) refl ∙ ap (waits_for by) (sym h.2)))
      ]
        where
          child_waits : (by i : ℕ) (o : Option (Slot W)) → at children i ≡ o
              → false ≡ waits_for by o
          child_waits by i None q = refl
          child_waits by i (Some slot) q = sym ((child-ready children calls ch i slot q).1 by)

      all : (n : ℕ)
          → ((nat_le (length slots) n && nat_lt n (length slots + length calls))
          || among n ready.numbers) ≡ is_ready
          (at (put slots id (Calling open_calls) ++ children) n)
      all n = elim (front-or-back (put slots id (Calling open_calls)) children n) [
        | inl h ↦ ap (λ b. (b && nat_lt n (length slots + length calls)) || among n ready.numbers)
            (not-below (length slots) n (let l : n
            < length (put slots id (Calling open_calls)) = h.0 in omega (arith, same_length)))
            ∙ (x.listed n ∙ (put_ready n ∙ ap is_ready (sym h.1)))
        | inr h ↦ back h.0
            (let q : n ≡ length (put slots id (Calling open_calls))
            + h.0 = h.1 in omega (arith, same_length)) (at children h.0) refl
            ∙ ap is_ready (sym h.2)
      ]
        where
          put_ready : (m : ℕ) → is_ready (at slots m)
              ≡ is_ready (at (put slots id (Calling open_calls)) m)
          put_ready = at-cases slots id (Assigned node) (Calling open_calls)
              (λ m o. is_ready (at slots m) ≡ is_ready o) e (ap is_ready e) (λ m d. refl)

          back : (i : ℕ) → n ≡ length slots + i → (o : Option (Slot W)) → at children i ≡ o
              → ((nat_le (length slots) n && nat_lt n (length slots + length calls))
              || among n ready.numbers) ≡ is_ready o
          back i q (Some slot) g =
              let l : i < length children = at-less children i slot g in
              ap (λ b. (b && nat_lt n (length slots + length calls)) || among n ready.numbers)
              (le-leb (length slots) n (omega arith))
              ∙ (ap (λ b. (true && b) || among n ready.numbers)
              (lt-ltb n (length slots + length calls) (omega (arith, many)))
              ∙ sym (child-ready children calls ch i slot g).0)
          back i q None g =
              let l : length children ≤ i = past children i g in
              ap (λ b. (nat_le (length slots) n && b) || among n ready.numbers)
              (not-less n (length slots + length calls) (omega (arith, many)))
              ∙ (neither (nat_le (length slots) n) (among n ready.numbers)
              ∙ (x.listed n ∙ ap is_ready (beyond slots n (omega arith))))
            where
              neither : (b d : Bool) → ((b && false) || d) ≡ d
              neither true d = refl
              neither false d = refl

              past : (xs : List (Slot W)) (j : ℕ) → at xs j ≡ None → length xs ≤ j
              past [] j h = omega arith
              past (y ∷ xs) zero h = absurd (cc)
              past (y ∷ xs) (suc j) h = let m = past xs j h in omega arith

              beyond : (xs : List (Slot W)) (j : ℕ) → length xs ≤ j → at xs j ≡ None
              beyond [] j l = refl
              beyond (y ∷ xs) zero l = absurd (omega arith)
              beyond (y ∷ xs) (suc j) l = beyond xs j (omega arith)
