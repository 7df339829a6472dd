-- What a journal that is put together has: contents, records, marks, and the acts of one run.
use Rattle.std.proofs.Common.{
  ◌≡◌,
  ℕ,
  Bool,
  true,
  false,
  ◌||◌,
  ◌⊎◌,
  inl,
  inr,
  List,
  [],
  ◌∷◌,
  ◌++◌,
  Option,
  None,
  Some,
  refl,
  ap,
  sym,
  ◌∙◌,
  subst,
}
use Rattle.std.specs.Option.{option_or}
use Rattle.std.specs.Str.{bytes_eq}
use Rattle.std.proofs.Math.Bool.{or_assoc}
use Rattle.msb_values.specs.Acts.{act_path, act_bytes}
use Rattle.msb_values.specs.declared.act.Act.{Act}
use Rattle.result_cache.specs.declared.run.RunId.{RunId}
use Rattle.result_cache.specs.declared.record.Record.{Record}
use Rattle.result_cache.specs.Lists.{In, this_or}
use Rattle.result_cache.specs.Same.{same_run}
use Rattle.result_cache.specs.Journal.{
  Journal,
  Entry,
  acted,
  ended,
  Mark,
  act_of,
  end_of,
  mark,
  same_mark,
  has,
  record_of,
  content,
}
use Rattle.result_cache.proofs.RunTests.{
  tells,
  clash,
  or_left,
  or_right,
  or_cases,
  same_run-refl,
  same_run-true,
  same_mark-refl,
  same_mark-true,
}
use Rattle.result_cache.proofs.JournalEntries.{Has, none-had, had-none}

-- ---- optional values

pub or-none : {X : Type 0} (o : Option X) → option_or o None ≡ o
or-none None = refl
or-none (Some x) = refl

pub none-or-some : {X : Type 0} (o : Option X) → (o ≡ None) ⊎ ((x : X) × (o ≡ Some x))
none-or-some None = inl refl
none-or-some (Some x) = inr (x, refl)

pub none-some : {X : Type 0} {x : X} (o : Option X) → o ≡ None → o ≡ Some x → ⊥
none-some o h g = cc

this_or-append : {X : Type 0} (b : Bool) (x y z : Option X) (this : X) → z ≡ option_or x y →
    this_or b z this ≡ option_or (this_or b x this) y
this_or-append true x y z this e = refl
this_or-append false x y z this e = e

-- ---- two parts

pub content-append : (newer older : Journal) (path : List ℕ) →
    content (newer ++ older) path ≡ option_or (content newer path) (content older path)
content-append [] older path = refl
content-append (acted run place act ∷ newer) older path =
    this_or-append (bytes_eq (act_path act) path) (content newer path)
    (content older path) _ (act_bytes act) (content-append newer older path)
content-append (ended run made ∷ newer) older path = content-append newer older path

pub record-append : (newer older : Journal) (run : RunId) →
    record_of (newer ++ older) run ≡ option_or (record_of newer run) (record_of older run)
record-append [] older run = refl
record-append (acted other place act ∷ newer) older run = record-append newer older run
record-append (ended other made ∷ newer) older run =
    this_or-append (same_run other run) (record_of newer run)
    (record_of older run) _ made (record-append newer older run)

pub has-append : (m : Mark) (newer older : Journal) →
    has m (newer ++ older) ≡ (has m newer || has m older)
has-append m [] older = refl
has-append m (e ∷ newer) older = ap (λ b. same_mark (mark e) m || b) (has-append m newer older)
    ∙ sym (or_assoc (same_mark (mark e) m) (has m newer) (has m older))

pub in-parts : {X : Type 0} (a : X) (xs ys : List X) → In a (xs ++ ys) → In a xs ⊎ In a ys
in-parts a [] ys i = inr i
in-parts a (x ∷ xs) ys (inl p) = inl (inl p)
in-parts a (x ∷ xs) ys (inr i) = elim (in-parts a xs ys i) [ inl p ↦ inl (inr p) | inr p ↦ inr p ]

-- ---- what is there, and its mark

pub in-marked : (e : Entry) (j : Journal) → In e j → Has (mark e) j
in-marked e [] i = absurd i
in-marked e (x ∷ j) (inl p) = or_left (same_mark (mark x) (mark e)) (has (mark e) j)
    (subst (λ y. same_mark (mark y) (mark e) ≡ true) (sym p) (same_mark-refl (mark e)))
in-marked e (x ∷ j) (inr i) = or_right (same_mark (mark x) (mark e)) (has (mark e) j)
    (in-marked e j i)

pub marked-act : (run : RunId) (n : ℕ) (j : Journal) → Has (act_of run n) j →
    (act : Act) × In (acted run n act) j
marked-act run n [] h = absurd (cc)
marked-act run n (acted other k act ∷ j) h =
    elim (or_cases (same_mark (act_of other k) (act_of run n)) (has (act_of run n) j) h) [
      | inl p ↦ (
        act,
        inl (let q : act_of other k ≡ act_of run n =
            same_mark-true (act_of other k) (act_of run n) p in let a : other ≡ run = cc in
            let b : k ≡ n = cc in cc),
      )
      | inr p ↦ let x = marked-act run n j p in (x.0, inr x.1)
    ]
marked-act run n (ended other m ∷ j) h = let x = marked-act run n j h in (x.0, inr x.1)

-- the run has ended with a record
abbrev pub HasEnded : RunId → Journal → Type 0
HasEnded run j = (m : Record) × (record_of j run ≡ Some m)

pub marked-ended : (run : RunId) (j : Journal) → Has (end_of run) j → HasEnded run j
marked-ended run j h = elim (none-or-some (record_of j run))
    [ inl n ↦ absurd (clash (has (end_of run) j) h (had-none j run n)) | inr s ↦ s ]

pub ended-marked : (run : RunId) (j : Journal) → HasEnded run j → Has (end_of run) j
ended-marked run j s = elim (tells (has (end_of run) j)) [
  | inl h ↦ h
  | inr h ↦ absurd (none-some (record_of j run) (none-had j run h) s.1)
]

pub not-ended : (run : RunId) (j : Journal) → (HasEnded run j → ⊥) → record_of j run ≡ None
not-ended run j h = elim (none-or-some (record_of j run)) [ inl n ↦ n | inr s ↦ absurd (h s) ]

-- ---- contents

pub content-there : (j : Journal) (path : List ℕ) (left : Option (List ℕ)) →
    content j path ≡ Some left →
    (run : RunId) × (n : ℕ) × (act : Act) × In (acted run n act) j
    × (bytes_eq (act_path act) path ≡ true)
content-there [] path left h = absurd (cc)
content-there (ended run m ∷ j) path left h = let x = content-there j path left h in
    (x.0, x.1, x.2, inr x.3, x.4)
content-there (acted run n act ∷ j) path left h =
    go (bytes_eq (act_path act) path) refl h (content-there j path left)
  where
    go : (b : Bool) → bytes_eq (act_path act) path ≡ b →
        this_or b (content j path) (act_bytes act) ≡ Some left →
        (content j path ≡ Some left → (run : RunId) × (n : ℕ) × (act : Act)
        × In (acted run n act) j × (bytes_eq (act_path act) path ≡ true))
        → (r : RunId) × (k : ℕ) × (p : Act) × In (acted r k p) (acted run n act ∷ j)
        × (bytes_eq (act_path p) path ≡ true)
    go true e h ih = (run, n, act, inl refl, e)
    go false e h ih = let x = ih h in (x.0, x.1, x.2, inr x.3, x.4)

pub there-content : (j : Journal) (path : List ℕ) (run : RunId) (n : ℕ) (act : Act) →
    In (acted run n act) j → bytes_eq (act_path act) path ≡ true →
    (left : Option (List ℕ)) × (content j path ≡ Some left)
there-content [] path run n act i e = absurd i
there-content (ended other m ∷ j) path run n act (inl p) e = absurd (cc)
there-content (ended other m ∷ j) path run n act (inr i) e = there-content j path run n act i e
there-content (acted other k this ∷ j) path run n act i e =
    go (bytes_eq (act_path this) path) refl i (λ x. there-content j path run n act x e)
  where
    go : (b : Bool) → bytes_eq (act_path this) path ≡ b →
        In (acted run n act) (acted other k this ∷ j) →
        (In (acted run n act) j → (left : Option (List ℕ)) × (content j path ≡ Some left))
        → (left : Option (List ℕ)) × (this_or b (content j path) (act_bytes this) ≡ Some left)
    go true t i ih = (act_bytes this, refl)
    go false t (inl p) ih = let same : this ≡ act = cc in
        absurd (clash (bytes_eq (act_path act) path) e
        (subst (λ (f : Act). bytes_eq (act_path f) path ≡ false) same t))
    go false t (inr i) ih = ih i

pub nothing-content : (j : Journal) (path : List ℕ) →
    ((run : RunId) (n : ℕ) (act : Act) → In (acted run n act) j →
    bytes_eq (act_path act) path ≡ true → ⊥) → content j path ≡ None
nothing-content j path h = elim (none-or-some (content j path)) [
  | inl n ↦ n
  | inr s ↦ let x =
      content-there j path s.0 s.1 in absurd (h x.0 x.1 x.2 x.3 x.4)
]

-- ---- the acts of one run

abbrev pub front_if : Bool → Entry → Journal → Journal
front_if true e j = e ∷ j
front_if false e j = j

abbrev pub own : RunId → Journal → Journal
own run [] = []
own run (acted other n act ∷ j) = front_if (same_run other run) (acted other n act) (own run j)
own run (ended other m ∷ j) = own run j

pub own-append : (run : RunId) (a b : Journal) → own run (a ++ b) ≡ own run a ++ own run b
own-append run [] b = refl
own-append run (ended other m ∷ a) b = own-append run a b
own-append run (acted other n act ∷ a) b = go (same_run other run) (own-append run a b)
  where
    go : (t : Bool) → own run (a ++ b) ≡ own run a ++ own run b →
        front_if t (acted other n act) (own run (a ++ b)) ≡ front_if t (acted other n act)
        (own run a) ++ own run b
    go true ih = ap (λ l. acted other n act ∷ l) ih
    go false ih = ih

pub in-own : (run : RunId) (j : Journal) (n : ℕ) (act : Act) → In (acted run n act) j →
    In (acted run n act) (own run j)
in-own run [] n act i = absurd i
in-own run (ended other m ∷ j) n act (inl p) = absurd (cc)
in-own run (ended other m ∷ j) n act (inr i) = in-own run j n act i
in-own run (acted other k this ∷ j) n act i = go (same_run other run) refl i (in-own run j n act)
  where
    go : (t : Bool) → same_run other run ≡ t → In (acted run n act) (acted other k this ∷ j) →
        (In (acted run n act) j → In (acted run n act) (own run j)) →
        In (acted run n act) (front_if t (acted other k this) (own run j))
    go true t (inl p) ih = inl p
    go true t (inr i) ih = inr (ih i)
    go false t (inl p) ih = let same : other ≡ run = cc in
        absurd (clash (same_run other run) (subst (λ r. same_run other r ≡ true) same
        (same_run-refl other)) t)
    go false t (inr i) ih = ih i

pub own-in : (run other : RunId) (j : Journal) (n : ℕ) (act : Act) →
    In (acted other n act) (own run j) → In (acted other n act) j × (other ≡ run)
own-in run other [] n act i = absurd i
own-in run other (ended s m ∷ j) n act i = let x = own-in run other j n act i in (inr x.0, x.1)
own-in run other (acted s k this ∷ j) n act i =
    go (same_run s run) refl i (own-in run other j n act)
  where
    go : (t : Bool) → same_run s run ≡ t → In (acted other n act)
        (front_if t (acted s k this) (own run j)) →
        (In (acted other n act) (own run j) → In (acted other n act) j × (other ≡ run))
        → In (acted other n act) (acted s k this ∷ j) × (other ≡ run)
    go true t (inl p) ih = (inl p, let same : s ≡ other = cc in sym same ∙ same_run-true s run t)
    go true t (inr i) ih = let x = ih i in (inr x.0, x.1)
    go false t i ih = let x = ih i in (inr x.0, x.1)

-- a journal without acts of the run
pub own-none : (run : RunId) (j : Journal) → ((n : ℕ) (act : Act) → In (acted run n act) j → ⊥) →
    own run j ≡ []
own-none run [] h = refl
own-none run (ended other m ∷ j) h = own-none run j (λ n act i. h n act (inr i))
own-none run (acted other k this ∷ j) h = go (same_run other run) refl
    (own-none run j (λ n act i. h n act (inr i)))
  where
    go : (t : Bool) → same_run other run ≡ t → own run j ≡ [] →
        front_if t (acted other k this) (own run j) ≡ []
    go true t ih = absurd (h k this (inl (ap (λ r. acted r k this) (same_run-true other run t))))
    go false t ih = ih

-- where one run alone acts on a path, the content is that of its own acts
pub content-own : (run : RunId) (j : Journal) (path : List ℕ) →
    ((other : RunId) (n : ℕ) (act : Act) → In (acted other n act) j →
    bytes_eq (act_path act) path ≡ true → other ≡ run) → content j path ≡ content (own run j) path
content-own run [] path h = refl
content-own run (ended other m ∷ j) path h = content-own run j path (λ s n act i. h s n act (inr i))
content-own run (acted other k this ∷ j) path h =
    go (same_run other run) refl (bytes_eq (act_path this) path) refl
    (content-own run j path (λ s n act i. h s n act (inr i)))
  where
    go : (t : Bool) → same_run other run ≡ t → (b : Bool) → bytes_eq (act_path this) path ≡ b →
        content j path ≡ content (own run j) path →
        this_or (bytes_eq (act_path this) path) (content j path) (act_bytes this)
        ≡ content (front_if t (acted other k this) (own run j)) path
    go true t b e ih = ap (λ x. this_or (bytes_eq (act_path this) path) x (act_bytes this)) ih
    go false t true e ih = let same = h other k this (inl refl) e in
        absurd (clash (same_run other run) (subst (λ r. same_run other r ≡ true) same
        (same_run-refl other)) t)
    go false t false e ih = ap (λ x. this_or x (content j path) (act_bytes this)) e ∙ ih

-- its own marks
pub own-marks : (run : RunId) (n : ℕ) (j : Journal) →
    has (act_of run n) (own run j) ≡ has (act_of run n) j
own-marks run n [] = refl
own-marks run n (ended other m ∷ j) = own-marks run n j
own-marks run n (acted other k this ∷ j) = go (same_run other run) refl (own-marks run n j)
  where
    go : (t : Bool) → same_run other run ≡ t → has (act_of run n)
        (own run j) ≡ has (act_of run n) j → has (act_of run n)
        (front_if t (acted other k this) (own run j)) ≡ has (act_of run n)
        (acted other k this ∷ j)
    go true t ih = ap (λ b. same_mark (act_of other k) (act_of run n) || b) ih
    go false t ih = rw t ih
