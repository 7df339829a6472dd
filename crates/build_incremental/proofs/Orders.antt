-- The order of the entries in the journal of a meaning: each is there once, and below the acts of
-- a run stands what had stood when the run began, and what the run itself had done before.
use Rattle.std.proofs.Common.{
  ◌≡◌,
  ℕ,
  suc,
  ◌≤◌,
  ◌==◌,
  ◌||◌,
  ◌⊎◌,
  inl,
  inr,
  Bool,
  true,
  false,
  List,
  [],
  ◌∷◌,
  ◌++◌,
  length,
  refl,
  ap,
  sym,
  ◌∙◌,
  subst,
  arith,
  length-append,
}
use Rattle.std.proofs.lemmas.Bool.{eqb-true, eq-eqb}
use Rattle.msb_values.specs.declared.act.Act.{Act}
use Rattle.result_cache.specs.declared.run.RunId.{RunId}
use Rattle.result_cache.specs.declared.request.RequestKey.{RequestKey}
use Rattle.result_cache.specs.declared.request.RequestResult.{RequestResult}
use Rattle.result_cache.specs.declared.record.Record.{Record}
use Rattle.result_cache.specs.declared.record.Segment.{Segment}
use Rattle.result_cache.specs.declared.record.Segment.TheVariants.{File, Call}
use Rattle.result_cache.specs.Lists.{In}
use Rattle.result_cache.specs.Same.{same_run}
use Rattle.result_cache.specs.Journal.{
  Journal,
  Entry,
  acted,
  ended,
  Mark,
  act_of,
  mark,
  same_mark,
  has,
  add,
  merge,
}
use Rattle.result_cache.proofs.RunTests.{
  tells,
  clash,
  or_left,
  or_right,
  or_neither,
  and_both,
  same_mark-refl,
}
use Rattle.result_cache.proofs.JournalEntries.{
  Has,
  add_old,
  add_new,
  has-add,
  has-added,
  has-merge_right,
}
use Rattle.build_meaning.specs.Derived.{EachOfMeaning}
use Rattle.build_meaning.specs.World.{World}
use Rattle.build_incremental.proofs.Entries.{has-append}
use Rattle.build_incremental.proofs.Keeping.{walk-keeps}
use Rattle.build_incremental.proofs.Numbered.{acts_in, acts_from}
use Rattle.build_incremental.proofs.Pairs.{Once}

-- ---- each entry once

pub once-add : (j : Journal) (e : Entry) → Once j → Once (add j e)
once-add j e o = elim (tells (has (mark e) j)) [
  | inl h ↦ subst Once (sym (add_old j e h)) o
  | inr h ↦ subst Once (sym (add_new j e h)) (h, o)
]

pub once-merge : (a b : Journal) → Once a → Once (merge a b)
once-merge a [] o = o
once-merge a (e ∷ b) o = once-add (merge a b) e (once-merge a b o)

pub once-apart : (newer older : Journal) → Once (newer ++ older) → (e : Entry) → In e newer →
    has (mark e) older ≡ false
once-apart [] older o e i = absurd i
once-apart (x ∷ newer) older o e (inl p) =
    subst (λ z. has (mark z) older ≡ false) p
    (or_neither (has (mark x) newer) (has (mark x) older)
    (sym (has-append (mark x) newer older) ∙ o.0)).1
once-apart (x ∷ newer) older o e (inr i) = once-apart newer older o.1 e i

has-it : (e : Entry) (j : Journal) → In e j → Has (mark e) j
has-it e [] i = absurd i
has-it e (x ∷ j) (inl p) = or_left (same_mark (mark x) (mark e)) (has (mark e) j)
    (subst (λ z. same_mark (mark z) (mark e) ≡ true) (sym p) (same_mark-refl (mark e)))
has-it e (x ∷ j) (inr i) = or_right (same_mark (mark x) (mark e)) (has (mark e) j) (has-it e j i)

-- the act of a run with a number
pub once-same : (j : Journal) → Once j → (r : RunId) (n : ℕ) (act other : Act) →
    In (acted r n act) j → In (acted r n other) j → act ≡ other
once-same [] o r n act other i u = absurd i
once-same (x ∷ j) o r n act other (inl p) (inl q) =
    let same : acted r n act ≡ acted r n other = sym p ∙ q in cc
once-same (x ∷ j) o r n act other (inl p) (inr u) =
    let there : Has (mark x) j =
    subst (λ z. Has (mark z) j) (sym p) (has-it (acted r n other) j u) in
    absurd (clash (has (mark x) j) there o.0)
once-same (x ∷ j) o r n act other (inr i) (inl q) =
    let there : Has (mark x) j =
    subst (λ z. Has (mark z) j) (sym q) (has-it (acted r n act) j i) in
    absurd (clash (has (mark x) j) there o.0)
once-same (x ∷ j) o r n act other (inr i) (inr u) = once-same j o.1 r n act other i u

-- ---- the acts that a record tells of are there once

-- no act of the run from a number on
abbrev NoneFrom : RunId → ℕ → Journal → Type 0
NoneFrom r n j = (k : ℕ) → n ≤ k → has (act_of r k) j ≡ false

same-number : (r : RunId) (n k : ℕ) → same_mark (act_of r n) (act_of r k) ≡ true → n ≡ k
same-number r n k h = eqb-true n k (and_both (same_run r r) (n == k) h).1

none-next : (r : RunId) (n : ℕ) (act : Act) (j : Journal) → NoneFrom r n j →
    NoneFrom r (suc n) (acted r n act ∷ j)
none-next r n act j f k h = go (same_mark (act_of r n) (act_of r k)) refl
  where
    go : (b : Bool) → same_mark (act_of r n) (act_of r k) ≡ b →
        (b || has (act_of r k) j) ≡ false
    go true e = absurd (let same : n ≡ k = same-number r n k e in omega arith)
    go false e = f k (omega arith)

once-from : (r : RunId) (n : ℕ) (before : Journal) (segments : List Segment) → Once before →
    NoneFrom r n before → Once (acts_from r n before segments)
once-from r n before [] o f = o
once-from r n before (File act ∷ segments) o f =
    once-from r (suc n) (acted r n act ∷ before) segments (f n (omega arith), o)
    (none-next r n act before f)
once-from r n before (Call key runs ∷ segments) o f =
    once-from r (suc n) before segments o (λ k h. f k (omega arith))

pub acts-once : (r : RunId) (segments : List Segment) → Once (acts_in r segments)
acts-once r segments = once-from r 0 [] segments tt (λ k h. refl)

-- ---- below the acts of a run

-- an act of the run, of this number or of a higher one
abbrev pub IsLater : RunId → ℕ → Entry → Type 0
IsLater r n (acted s k act) = (s ≡ r) × (n ≤ k)
IsLater r n (ended s m) = ⊥

-- the mark stands below each such act
abbrev pub Under : Mark → RunId → ℕ → Journal → Type 0
Under s r n [] = Unit {0}
Under s r n (e ∷ j) = (IsLater r n e → Has s j) × Under s r n j

under-add : (s : Mark) (r : RunId) (n : ℕ) (j : Journal) (e : Entry) → Under s r n j →
    (IsLater r n e → Has s j) → Under s r n (add j e)
under-add s r n j e u f = elim (tells (has (mark e) j)) [
  | inl h ↦ subst (Under s r n) (sym (add_old j e h)) u
  | inr h ↦ subst (Under s r n) (sym (add_new j e h)) (f, u)
]

under-merge : (s : Mark) (r : RunId) (n : ℕ) (a b : Journal) → Under s r n a → Under s r n b →
    Under s r n (merge a b)
under-merge s r n a [] u v = u
under-merge s r n a (e ∷ b) u v = under-add s r n (merge a b) e (under-merge s r n a b u v.1)
    (λ l. has-merge_right s a b (v.0 l))

pub under-at : (s : Mark) (r : RunId) (n k : ℕ) (newer older : Journal) (act : Act) →
    Under s r n (newer ++ acted r k act ∷ older) → n ≤ k → Has s older
under-at s r n k [] older act u h = u.0 (refl, h)
under-at s r n k (e ∷ newer) older act u h = under-at s r n k newer older act u.1 h

-- a run that has no call in its record
abbrev pub HasNoCall : Record → Type 0
HasNoCall m = (key : RequestKey) (runs : List RunId) → In (Call key runs) m.segments → ⊥

-- ---- the journal of a meaning

module _ {P I A : Type 0} (w : World P I A) (Q : P → RunId → Journal → Record → Type 0)
    (J : Journal → Journal → Journal → Type 0) (K : RequestKey → Type 0) where
  pub meaning-once : (result : RequestResult) (last : Journal) →
      EachOfMeaning w Q J K result last → Once last
  meaning-once result last each = walk-keeps w Q J K Once (λ r m segments j. Unit {0})
      (λ p r from m q j o. once-add j (ended r m) o) (λ a i o u. once-merge a i o)
      (λ p r j m q. tt)
      (λ r m segments act j i g o. (once-add j (acted r (length segments) act) o, tt))
      (λ r m segments key keys results j i h c g. tt) each.rest tt

  -- What stands in the journal with which a run begins, wherever it is made, stands below all its
  -- acts. Of a run that calls nothing each act stands below the later ones.
  module _ (s : Mark) (run : RunId) where
    -- it is there, or it is the run's own act of this number, which is still to come
    abbrev pub Comes : ℕ → Record → List Segment → Journal → Type 0
    Comes n m segments j = Has s j
        ⊎ ((k : ℕ) × (s ≡ act_of run k) × (n ≡ suc k) × (length segments ≤ k) × HasNoCall m)

    abbrev ComesAt : ℕ → RunId → Record → List Segment → Journal → Type 0
    ComesAt n r m segments j = r ≡ run → Comes n m segments j

    under-acted : (n : ℕ) (r : RunId) (m : Record) (segments : List Segment) (act : Act)
        (j : Journal) → ComesAt n r m segments j → Under s run n j →
        Under s run n (add j (acted r (length segments) act))
    under-acted n r m segments act j g u =
        under-add s run n j (acted r (length segments) act) u (λ l. elim (g l.0) [
          | inl h ↦ h
          | inr x ↦ absurd (late n x.0 (length segments) x.2 x.3 l.1)
        ])
      where
        late : (n k l : ℕ) → n ≡ suc k → l ≤ k → n ≤ l → ⊥
        late n k l e a b = omega arith

    next-comes : (n : ℕ) (r : RunId) (m : Record) (segments : List Segment) (act : Act)
        (j : Journal) → ComesAt n r m segments j →
        ComesAt n r m (segments ++ File act ∷ []) (add j (acted r (length segments) act))
    next-comes n r m segments act j g e = elim (g e) [
      | inl h ↦ inl (has-add s j (acted r (length segments) act) h)
      | inr x ↦ now x.0 x.1 x.2 x.3 x.4 (length segments == x.0) refl
    ]
      where
        now : (k : ℕ) → s ≡ act_of run k → n ≡ suc k → length segments ≤ k → HasNoCall m →
            (b : Bool) → (length segments == k) ≡ b →
            Comes n m (segments ++ File act ∷ []) (add j (acted r (length segments) act))
        now k a b h none true t =
            let same : length segments ≡ k = eqb-true (length segments) k t in
            let marks : act_of r (length segments) ≡ s =
            ap (λ z. act_of z (length segments)) e ∙ (ap (act_of run) same ∙ sym a) in
            inl (subst (λ z. Has z (add j (acted r (length segments) act))) marks
            (has-added j (acted r (length segments) act)))
        now k a b h none false t =
            let apart : length segments ≡ k → ⊥ = λ z. clash (length segments == k)
            (eq-eqb (length segments) k z) t in
            let longer : length (segments ++ File act ∷ []) ≤ k =
            omega (arith, length-append segments (File act ∷ []), apart, h) in
            inr (k, a, b, longer, none)

    pub meaning-under : (n : ℕ) → ((p : P) (from : Journal) (m : Record) → Q p run from m →
        Comes n m [] from) → (result : RequestResult) (last : Journal) →
        EachOfMeaning w Q J K result last → Under s run n last
    meaning-under n begins result last each = walk-keeps w Q J K (Under s run n) (ComesAt n)
        (λ p r from m q j u. under-add s run n j (ended r m) u (λ l. absurd l))
        (λ a i u v. under-merge s run n a i u v)
        (λ p r j m q e. begins p j m (subst (λ z. Q p z j m) e q))
        (λ r m segments act j i g u. (
          under-acted n r m segments act j g u,
          next-comes n r m segments act j g,
        ))
        (λ r m segments key keys results j i h c g e. elim (g e) [
          | inl x ↦ inl (h s x)
          | inr x ↦ absurd (x.4 key c.0 c.1)
        ]) each.rest tt
