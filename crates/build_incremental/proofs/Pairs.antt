-- What two requests that go side by side put in front of their journals: N in the first world, L in
-- the second.
use Rattle.std.proofs.Common.{
  ◌≡◌,
  ℕ,
  Bool,
  true,
  false,
  ◌||◌,
  ◌⊎◌,
  inl,
  inr,
  List,
  [],
  ◌∷◌,
  ◌++◌,
  Option,
  None,
  Some,
  refl,
  ap,
  sym,
  ◌∙◌,
  subst,
}
use Rattle.std.specs.Option.{option_or}
use Rattle.std.specs.Str.{bytes_eq}
use Rattle.msb_values.specs.Acts.{act_path, act_bytes}
use Rattle.msb_values.specs.declared.act.Act.{Act}
use Rattle.result_cache.specs.declared.run.RunId.{RunId}
use Rattle.result_cache.specs.declared.record.Record.{Record}
use Rattle.result_cache.specs.Lists.{In, this_or}
use Rattle.result_cache.specs.Same.{same_run}
use Rattle.result_cache.specs.Journal.{
  Journal,
  acted,
  ended,
  Mark,
  act_of,
  end_of,
  mark,
  same_mark,
  has,
  add_unless,
  add,
  merge,
  record_of,
  content,
}
use Rattle.result_cache.proofs.RunTests.{
  tells,
  clash,
  or_left,
  or_right,
  or_cases,
  same_run-true,
  same_mark-refl,
  same_mark-true,
}
use Rattle.result_cache.proofs.JournalEntries.{Has, none-had, had-none, merge-absorbs}
use Rattle.build_incremental.specs.Alike.{AlikeRecords, AlikeFound}
use Rattle.build_incremental.proofs.Entries.{
  or-none,
  none-or-some,
  record-append,
  has-append,
  HasEnded,
  ended-marked,
  front_if,
  own,
  own-marks,
}
use Rattle.build_incremental.proofs.Numbered.{fresh}

-- ---- records of two journals

pub found-second : (a b : Option Record) → AlikeFound a b → (m : Record) → a ≡ Some m →
    (n : Record) × (b ≡ Some n) × AlikeRecords m n
found-second None b f m e = absurd (cc)
found-second (Some x) None f m e = absurd f
found-second (Some x) (Some y) f m e = (
  y,
  refl,
  let same : x ≡ m = cc in
      subst (λ z. AlikeRecords z y) same f,
)

pub found-first : (a b : Option Record) → AlikeFound a b → (n : Record) → b ≡ Some n →
    (m : Record) × (a ≡ Some m) × AlikeRecords m n
found-first a None f n e = absurd (cc)
found-first None (Some y) f n e = absurd f
found-first (Some x) (Some y) f n e = (
  x,
  refl,
  let same : y ≡ n = cc in
      subst (λ z. AlikeRecords x z) same f,
)

pub found-none : (a b : Option Record) → AlikeFound a b → b ≡ None → a ≡ None
found-none None b f e = refl
found-none (Some x) None f e = absurd f
found-none (Some x) (Some y) f e = absurd (cc)

pub alike-or : (a b c d : Option Record) → AlikeFound a b → AlikeFound c d →
    AlikeFound (option_or a c) (option_or b d)
alike-or None None c d f g = g
alike-or None (Some y) c d f g = absurd f
alike-or (Some x) None c d f g = absurd f
alike-or (Some x) (Some y) c d f g = f

pub or-parts : {X : Type 0} (a b : Option X) (x : X) → option_or a b ≡ Some x →
    (a ≡ Some x) ⊎ ((a ≡ None) × (b ≡ Some x))
or-parts None b x e = inr (refl, e)
or-parts (Some y) b x e = inl e

pub or-ended : {X : Type 0} (a b : Option X) → (x : X) × (b ≡ Some x) →
    (x : X) × (option_or a b ≡ Some x)
or-ended None b s = s
or-ended (Some y) b s = (y, refl)

pub ended-newer : (r : RunId) (a b : Journal) → HasEnded r a → HasEnded r (a ++ b)
ended-newer r a b s = (s.0, record-append a b r ∙ ap (λ o. option_or o (record_of b r)) s.1)

pub ended-older : (r : RunId) (a b : Journal) → HasEnded r b → HasEnded r (a ++ b)
ended-older r a b s = let x = or-ended (record_of a r) (record_of b r) s in
    (x.0, record-append a b r ∙ x.1)

-- ---- each entry once, and journals apart

abbrev pub Once : Journal → Type 0
Once [] = Unit {0}
Once (e ∷ j) = (has (mark e) j ≡ false) × Once j

abbrev pub Apart : Journal → Journal → Type 0
Apart a b = (s : Mark) → Has s a → has s b ≡ false

both-false : (a b : Bool) → a ≡ false → b ≡ false → (a || b) ≡ false
both-false a b p q = cc

pub once-append : (a b : Journal) → Once a → Once b → Apart a b → Once (a ++ b)
once-append [] b o p h = p
once-append (e ∷ a) b o p h = (
  has-append (mark e) a b ∙ both-false (has (mark e) a)
      (has (mark e) b) o.0 (h (mark e) (or_left (same_mark (mark e) (mark e)) (has (mark e) a)
      (same_mark-refl (mark e)))),
  once-append a b o.1 p (λ s g. h s (or_right (same_mark (mark e) s) (has s a) g)),
)

pub apart-append : (a b c : Journal) → Apart a c → Apart b c → Apart (a ++ b) c
apart-append a b c p q s h = elim (or_cases (has s a) (has s b)
    (sym (has-append s a b) ∙ h)) [ inl g ↦ p s g | inr g ↦ q s g ]

pub apart-ended : (r : RunId) (a b : Journal) → Apart a b → HasEnded r a → record_of b r ≡ None
apart-ended r a b p s = none-had b r (p (end_of r) (ended-marked r a s))

pub fresh-has : (s : Mark) (a b : Journal) → Has s (fresh a b) → Has s b × (has s a ≡ false)
fresh-has s a [] h = absurd (cc)
fresh-has s a (e ∷ b) h = go (has (mark e) a) refl h (fresh-has s a b)
  where
    go : (t : Bool) → has (mark e) a ≡ t → Has s (add_unless t (fresh a b) e) →
        (Has s (fresh a b) → Has s b × (has s a ≡ false)) → Has s (e ∷ b) × (has s a ≡ false)
    go true p h ih = let x = ih h in (or_right (same_mark (mark e) s) (has s b) x.0, x.1)
    go false p h ih = elim (or_cases (same_mark (mark e) s) (has s (fresh a b)) h) [
      | inl q ↦ (
        or_left (same_mark (mark e) s) (has s b) q,
        subst (λ z. has z a ≡ false) (same_mark-true (mark e) s q) p,
      )
      | inr q ↦ let x = ih q in (or_right (same_mark (mark e) s) (has s b) x.0, x.1)
    ]

pub fresh-once : (a b : Journal) → Once b → Once (fresh a b)
fresh-once a [] o = tt
fresh-once a (e ∷ b) o = go (has (mark e) a) (fresh-once a b o.1)
  where
    go : (t : Bool) → Once (fresh a b) → Once (add_unless t (fresh a b) e)
    go true ih = ih
    go false ih = (
      elim (tells (has (mark e) (fresh a b)))
          [ inl h ↦ absurd (clash (has (mark e) b) (fresh-has (mark e) a b h).0 o.0) | inr h ↦ h ],
      ih,
    )

-- joining two journals that began with one
pub merge-fresh : (a b j : Journal) → Once b → Apart b j →
    merge (a ++ j) (b ++ j) ≡ (fresh a b ++ a) ++ j
merge-fresh a [] j o p = merge-absorbs (a ++ j) j (λ s h. has-append s a j
    ∙ or_right (has s a) (has s j) h)
merge-fresh a (e ∷ b) j o p =
    let ih = merge-fresh a b j o.1 (λ s h. p s (or_right (same_mark (mark e) s) (has s b) h)) in
    let old : has (mark e) (fresh a b) ≡ false =
    elim (tells (has (mark e) (fresh a b))) [
      | inl h ↦ absurd (clash (has (mark e) b)
          (fresh-has (mark e) a b h).0 o.0)
      | inr h ↦ h
    ] in
    let base : has (mark e) j ≡ false = p (mark e)
    (or_left (same_mark (mark e) (mark e)) (has (mark e) b) (same_mark-refl (mark e))) in
    let test : has (mark e) ((fresh a b ++ a) ++ j) ≡ has (mark e) a =
    has-append (mark e) (fresh a b ++ a) j ∙ (ap (λ x. has (mark e) (fresh a b ++ a) || x) base
    ∙ (or-false (has (mark e) (fresh a b ++ a))
    ∙ (has-append (mark e) (fresh a b) a ∙ ap (λ x. x || has (mark e) a) old))) in
    ap (λ m. add m e) ih ∙ (ap (λ t. add_unless t ((fresh a b ++ a) ++ j) e) test
    ∙ go (has (mark e) a))
  where
    or-false : (x : Bool) → (x || false) ≡ x
    or-false true = refl
    or-false false = refl

    go : (t : Bool) → add_unless t ((fresh a b ++ a) ++ j) e ≡ (add_unless t (fresh a b) e ++ a)
        ++ j
    go true = refl
    go false = refl

-- ---- what is left of a journal by the marks of another

fresh-gone : (r : RunId) (a b : Journal) → Has (end_of r) a → record_of (fresh a b) r ≡ None
fresh-gone r a [] h = refl
fresh-gone r a (acted s k p ∷ b) h = go (has (act_of s k) a) (fresh-gone r a b h)
  where
    go : (t : Bool) → record_of (fresh a b) r ≡ None →
        record_of (add_unless t (fresh a b) (acted s k p)) r ≡ None
    go true ih = ih
    go false ih = ih
fresh-gone r a (ended s m ∷ b) h = go (has (end_of s) a) refl (same_run s r) refl
    (fresh-gone r a b h)
  where
    go : (t : Bool) → has (end_of s) a ≡ t → (u : Bool) → same_run s r ≡ u →
        record_of (fresh a b) r ≡ None → record_of (add_unless t (fresh a b) (ended s m)) r ≡ None
    go true p u q ih = ih
    go false p true q ih = absurd (clash (has (end_of r) a) h (subst (λ x. has (end_of x) a ≡ false)
        (same_run-true s r q) p))
    go false p false q ih = ap (λ x. this_or x (record_of (fresh a b) r) m) q ∙ ih

fresh-stays : (r : RunId) (a b : Journal) → has (end_of r) a ≡ false →
    record_of (fresh a b) r ≡ record_of b r
fresh-stays r a [] h = refl
fresh-stays r a (acted s k p ∷ b) h = go (has (act_of s k) a) (fresh-stays r a b h)
  where
    go : (t : Bool) → record_of (fresh a b) r ≡ record_of b r →
        record_of (add_unless t (fresh a b) (acted s k p)) r ≡ record_of b r
    go true ih = ih
    go false ih = ih
fresh-stays r a (ended s m ∷ b) h = go (has (end_of s) a) refl (same_run s r) refl
    (fresh-stays r a b h)
  where
    go : (t : Bool) → has (end_of s) a ≡ t → (u : Bool) → same_run s r ≡ u →
        record_of (fresh a b) r ≡ record_of b r → record_of (add_unless t (fresh a b) (ended s m)) r
        ≡ this_or (same_run s r) (record_of b r) m
    go true p true q ih = absurd (clash (has (end_of r) a)
        (subst (λ x. has (end_of x) a ≡ true) (same_run-true s r q) p) h)
    go true p false q ih = ih ∙ sym (ap (λ x. this_or x (record_of b r) m) q)
    go false p u q ih = ap (λ x. this_or (same_run s r) x m) ih

pub record-fresh : (a b : Journal) (r : RunId) →
    record_of (fresh a b ++ a) r ≡ option_or (record_of a r) (record_of b r)
record-fresh a b r = record-append (fresh a b) a r ∙ elim (none-or-some (record_of a r)) [
  | inl n ↦ ap (λ x. option_or (record_of (fresh a b) r) x) n
      ∙ (or-none (record_of (fresh a b) r) ∙ (fresh-stays r a b (had-none a r n)
      ∙ sym (ap (λ x. option_or x (record_of b r)) n)))
  | inr s ↦ ap (λ x. option_or x (record_of a r)) (fresh-gone r a b (ended-marked r a s))
      ∙ (s.1 ∙ sym (ap (λ x. option_or x (record_of b r)) s.1))
]

pub own-fresh : (r : RunId) (a b : Journal) → own r (fresh a b) ≡ fresh (own r a) (own r b)
own-fresh r a [] = refl
own-fresh r a (ended s m ∷ b) = go (has (end_of s) a) (own-fresh r a b)
  where
    go : (t : Bool) → own r (fresh a b) ≡ fresh (own r a) (own r b) →
        own r (add_unless t (fresh a b) (ended s m)) ≡ fresh (own r a) (own r b)
    go true ih = ih
    go false ih = ih
own-fresh r a (acted s k p ∷ b) = go (has (act_of s k) a) refl (same_run s r) refl
    (own-fresh r a b)
  where
    mine : s ≡ r → has (act_of s k) (own r a) ≡ has (act_of s k) a
    mine e = subst (λ x. has (act_of x k) (own r a) ≡ has (act_of x k) a) (sym e)
        (own-marks r k a)

    go : (t : Bool) → has (act_of s k) a ≡ t → (u : Bool) → same_run s r ≡ u →
        own r (fresh a b) ≡ fresh (own r a) (own r b) →
        own r (add_unless t (fresh a b) (acted s k p)) ≡ fresh (own r a)
        (front_if (same_run s r) (acted s k p) (own r b))
    go true h true q ih = ih ∙ sym (ap (λ x. fresh (own r a) (front_if x (acted s k p) (own r b))) q
        ∙ ap (λ x. add_unless x (fresh (own r a) (own r b)) (acted s k p))
        (mine (same_run-true s r q) ∙ h))
    go false h true q ih =
        ap (λ x. front_if x (acted s k p) (own r (fresh a b))) q ∙ (ap (λ l. acted s k p ∷ l) ih
        ∙ sym (ap (λ x. fresh (own r a) (front_if x (acted s k p) (own r b))) q
        ∙ ap (λ x. add_unless x (fresh (own r a) (own r b)) (acted s k p))
        (mine (same_run-true s r q) ∙ h)))
    go true h false q ih = ih ∙ sym (ap (λ x. fresh (own r a)
        (front_if x (acted s k p) (own r b))) q)
    go false h false q ih = ap (λ x. front_if x (acted s k p) (own r (fresh a b))) q
        ∙ (ih ∙ sym (ap (λ x. fresh (own r a) (front_if x (acted s k p) (own r b))) q))

pub fresh-content : (a b : Journal) (path : List ℕ) →
    ((r : RunId) (n : ℕ) (act : Act) → In (acted r n act) b → bytes_eq (act_path act) path ≡ true →
    has (act_of r n) a ≡ false) → content (fresh a b) path ≡ content b path
fresh-content a [] path h = refl
fresh-content a (ended s m ∷ b) path h = go (has (end_of s) a)
    (fresh-content a b path (λ r n act i. h r n act (inr i)))
  where
    go : (t : Bool) → content (fresh a b) path ≡ content b path →
        content (add_unless t (fresh a b) (ended s m)) path ≡ content b path
    go true ih = ih
    go false ih = ih
fresh-content a (acted s k p ∷ b) path h = go (has (act_of s k) a) refl
    (bytes_eq (act_path p) path) refl (fresh-content a b path (λ r n act i. h r n act (inr i)))
  where
    go : (t : Bool) → has (act_of s k) a ≡ t → (u : Bool) → bytes_eq (act_path p) path ≡ u →
        content (fresh a b) path ≡ content b path →
        content (add_unless t (fresh a b) (acted s k p)) path ≡ this_or (bytes_eq (act_path p) path)
        (content b path) (act_bytes p)
    go true q true e ih = absurd (clash (has (act_of s k) a) q (h s k p (inl refl) e))
    go true q false e ih = ih ∙ sym (ap (λ x. this_or x (content b path) (act_bytes p)) e)
    go false q u e ih = ap (λ x. this_or (bytes_eq (act_path p) path) x (act_bytes p)) ih
