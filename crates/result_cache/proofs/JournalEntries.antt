-- Journals to which entries are added, once each.
use Rattle.std.proofs.Common.{
  ◌≡◌,
  Bool,
  true,
  false,
  ◌||◌,
  ◌⊎◌,
  inl,
  inr,
  List,
  [],
  ◌∷◌,
  ◌++◌,
  None,
  Some,
  refl,
  ap,
  sym,
  ◌∙◌,
  subst,
}
use Rattle.result_cache.specs.declared.run.RunId.{RunId}
use Rattle.result_cache.specs.declared.record.Record.{Record}
use Rattle.result_cache.specs.Lists.{In, this_or}
use Rattle.result_cache.specs.Journal.{
  Entry,
  ended,
  acted,
  Journal,
  Mark,
  end_of,
  mark,
  same_mark,
  has,
  add_unless,
  add,
  merge,
  record_of,
}
use Rattle.result_cache.specs.Replay.{Effect, mark_of, HasAll}
use Rattle.result_cache.specs.Same.{same_run}
use Rattle.result_cache.proofs.RunTests.{
  tells,
  or_right,
  or_left,
  or_cases,
  same_mark-refl,
  same_mark-true,
  same_run-true,
}

abbrev pub Has : Mark → Journal → Type 0
Has m j = has m j ≡ true

pub add_old : (j : Journal) (e : Entry) → Has (mark e) j → add j e ≡ j
add_old j e h = ap (λ b. add_unless b j e) h

pub add_new : (j : Journal) (e : Entry) → has (mark e) j ≡ false → add j e ≡ e ∷ j
add_new j e h = ap (λ b. add_unless b j e) h

pub has-add : (s : Mark) (j : Journal) (e : Entry) → Has s j → Has s (add j e)
has-add s j e h = elim (tells (has (mark e) j)) [
  | inl p ↦ rw (add_old j e p) h
  | inr p ↦ rw (add_new j e p) (or_right (same_mark (mark e) s) (has s j) h)
]

pub has-added : (j : Journal) (e : Entry) → Has (mark e) (add j e)
has-added j e = elim (tells (has (mark e) j)) [
  | inl p ↦ rw (add_old j e p) p
  | inr p ↦ rw (add_new j e p)
      (or_left (same_mark (mark e) (mark e)) (has (mark e) j) (same_mark-refl (mark e)))
]

pub of-add : (s : Mark) (j : Journal) (e : Entry) → Has s (add j e) → (mark e ≡ s) ⊎ Has s j
of-add s j e h = elim (tells (has (mark e) j)) [
  | inl p ↦ inr (rw (add_old j e p) at h)
  | inr p ↦ elim (or_cases (same_mark (mark e) s) (has s j) (rw (add_new j e p) at h))
      [ inl q ↦ inl (same_mark-true (mark e) s q) | inr q ↦ inr q ]
]

pub in-add : (a : Entry) (j : Journal) (e : Entry) → In a (add j e) → (e ≡ a) ⊎ In a j
in-add a j e h = elim (tells (has (mark e) j)) [
  | inl p ↦ inr (subst (λ k. In a k) (add_old j e p) h)
  | inr p ↦ subst (λ k. In a k) (add_new j e p) h
]

pub has-merge_left : (s : Mark) (a b : Journal) → Has s a → Has s (merge a b)
has-merge_left s a [] h = h
has-merge_left s a (e ∷ b) h = has-add s (merge a b) e (has-merge_left s a b h)

pub has-merge_right : (s : Mark) (a b : Journal) → Has s b → Has s (merge a b)
has-merge_right s a [] h = absurd (cc)
has-merge_right s a (e ∷ b) h = elim (or_cases (same_mark (mark e) s) (has s b) h) [
  | inl p ↦ subst (λ r. Has r (add (merge a b) e)) (same_mark-true (mark e) s p)
      (has-added (merge a b) e)
  | inr p ↦ has-add s (merge a b) e (has-merge_right s a b p)
]

pub merge-absorbs : (a b : Journal) → ((s : Mark) → Has s b → Has s a) → merge a b ≡ a
merge-absorbs a [] h = refl
merge-absorbs a (e ∷ b) h =
    let ih : merge a b ≡ a = merge-absorbs a b
    (λ s p. h s (or_right (same_mark (mark e) s) (has s b) p)) in
    rw ih
    (add_old a e
    (h (mark e)
    (or_left (same_mark (mark e) (mark e)) (has (mark e) b) (same_mark-refl (mark e)))))

pub merge-add : (a k : Journal) (e : Entry) → merge a (add k e) ≡ add (merge a k) e
merge-add a k e = elim (tells (has (mark e) k)) [
  | inl p ↦ rw (add_old k e p) (sym (add_old (merge a k) e (has-merge_right (mark e) a k p)))
  | inr p ↦ rw (add_new k e p)
]

pub in-has : (r : RunId) (m : Record) (j : Journal) → In (ended r m) j → Has (end_of r) j
in-has r m [] h = absurd h
in-has r m (e ∷ j) (inl p) = or_left (same_mark (mark e) (end_of r)) (has (end_of r) j)
    (let q : mark e ≡ end_of r = ap mark p in rw q (same_mark-refl (end_of r)))
in-has r m (e ∷ j) (inr p) = or_right (same_mark (mark e) (end_of r)) (has (end_of r) j)
    (in-has r m j p)

pub has-in : (r : RunId) (j : Journal) → Has (end_of r) j → (m : Record) × In (ended r m) j
has-in r [] h = absurd (cc)
has-in r (acted s n p ∷ j) h = let x = has-in r j h in (x.0, inr x.1)
has-in r (ended s m ∷ j) h = elim
    (or_cases (same_mark (end_of s) (end_of r)) (has (end_of r) j) h) [
      | inl p ↦ (m, inl (ap (λ t. ended t m) (same_run-true s r p)))
      | inr p ↦ let x = has-in r j p in (x.0, inr x.1)
    ]

pub HasAll-mono : (items : List Effect) (j k : Journal) → ((s : Mark) → Has s j → Has s k)
    → HasAll items j → HasAll items k
HasAll-mono [] j k f h = tt
HasAll-mono (x ∷ items) j k f h = (f (mark_of x) h.0, HasAll-mono items j k f h.1)

pub HasAll-append : (items more : List Effect) (j : Journal) → HasAll items j → HasAll more j
    → HasAll (items ++ more) j
HasAll-append [] more j h g = g
HasAll-append (x ∷ items) more j h g = (h.0, HasAll-append items more j h.1 g)

pub HasAll-in : (items : List Effect) (j : Journal) (x : Effect) → HasAll items j → In x items
    → Has (mark_of x) j
HasAll-in [] j x h i = absurd i
HasAll-in (y ∷ items) j x h (inl p) = subst (λ z. Has (mark_of z) j) p h.0
HasAll-in (y ∷ items) j x h (inr i) = HasAll-in items j x h.1 i

-- the record of a run that has ended
pub had-in : (j : Journal) (r : RunId) (m : Record) → record_of j r ≡ Some m → In (ended r m) j
had-in [] r m h = absurd (cc)
had-in (acted s n p ∷ j) r m h = inr (had-in j r m h)
had-in (ended s x ∷ j) r m h = go (same_run s r) refl h (had-in j r m)
  where
    go : (b : Bool) → same_run s r ≡ b → this_or b (record_of j r) x ≡ Some m
        → (record_of j r ≡ Some m → In (ended r m) j) → In (ended r m) (ended s x ∷ j)
    go true t h ih = let p : s ≡ r = same_run-true s r t in let q : x
        ≡ m = cc in inl (ap (λ y. ended y x) p ∙ ap (λ y. ended r y) q)
    go false t h ih = inr (ih h)

pub had-none : (j : Journal) (r : RunId) → record_of j r ≡ None → has (end_of r) j ≡ false
had-none [] r h = refl
had-none (acted s n p ∷ j) r h = had-none j r h
had-none (ended s x ∷ j) r h = go (same_run s r) refl h (had-none j r)
  where
    go : (b : Bool) → same_run s r ≡ b → this_or b (record_of j r) x ≡ None
        → (record_of j r ≡ None → has (end_of r) j ≡ false) → has (end_of r) (ended s x ∷ j) ≡ false
    go true t h ih = absurd (cc)
    go false t h ih = rw t (ih h)

pub none-had : (j : Journal) (r : RunId) → has (end_of r) j ≡ false → record_of j r ≡ None
none-had [] r h = refl
none-had (acted s n p ∷ j) r h = none-had j r h
none-had (ended s x ∷ j) r h = go (same_run s r) h (none-had j r)
  where
    go : (b : Bool) → (b || has (end_of r) j) ≡ false
        → (has (end_of r) j ≡ false → record_of j r ≡ None) → this_or b (record_of j r) x ≡ None
    go true h ih = absurd (cc)
    go false h ih = ih h
