-- Requests are brought in by those whose runs theirs need, until all are.
use Rattle.std.proofs.Common.{
  ◌≡◌,
  ◌≤◌,
  ◌<◌,
  ◌+◌,
  ◌==◌,
  ◌||◌,
  inl,
  inr,
  ℕ,
  zero,
  suc,
  Bool,
  true,
  false,
  List,
  [],
  ◌∷◌,
  ◌++◌,
  length,
  map,
  take,
  get_or,
  Option,
  None,
  Some,
  refl,
  ap,
  sym,
  ◌∙◌,
  subst,
  arith,
}
use Rattle.std.proofs.lemmas.Bool.{eqb-true, eq-eqb}
use Rattle.std.proofs.lemmas.List.{length-map, length-append, take_more}
use Rattle.std.specs.List.{list_any}
use Rattle.std.specs.Prelude.{slice_get, not, if◌then◌else◌, OnOk, Result, Ok, Err}
use Rattle.msb_laws.specs.Asking.{and_then}
use Rattle.result_cache.specs.declared.run.RunId.{RunId}
use Rattle.result_cache.specs.Lists.{In}
use Rattle.result_cache.proofs.RunTests.{tells}
use Rattle.build_meaning.specs.Lists.{at}
use Rattle.build_meaning.proofs.ListPlaces.{at-append, at-front, at-back, at-in, at-less, map-at}
use Rattle.build_meaning.proofs.MeaningDerived.{in-left, in-right}
use Rattle.build_meaning.proofs.NeedsOfRuns.{in-append}
use Rattle.build_meaning.proofs.ParentsAndChildren.{same_some, none_some, same_or_not}
use Rattle.build_scheduler.specs.declared.slot.Origin.{Origin}
use Rattle.build_scheduler.specs.Calls.{HasParent}
use Rattle.build_scheduler.specs.Dependents.{
  caller_at,
  CallsOver,
  IsFoundBy,
  AreFound,
  AreLooked,
  AreApart,
  IsAddedTo,
  AreBroughtIn,
  IsLookedAt,
  AreBackward,
  AreOver,
  IsRunAdded,
  AreCallersThere,
}
use Rattle.build_scheduler.specs.Numbers.{among, Numbered}
use Rattle.build_scheduler.specs.Shown.{numbers_of}
use Rattle.build_scheduler.proofs.SlotNumbers.{at-get}

nothing_behind : {X : Type 0} (xs : List X) → xs ≡ xs ++ []
nothing_behind [] = refl
nothing_behind (x ∷ xs) = ap (λ l. x ∷ l) (nothing_behind xs)

all_behind : {X : Type 0} (xs ys zs : List X) → (xs ++ ys) ++ zs ≡ xs ++ (ys ++ zs)
all_behind [] ys zs = refl
all_behind (x ∷ xs) ys zs = ap (λ l. x ∷ l) (all_behind xs ys zs)

map-behind : {X Y : Type 0} (f : X → Y) (xs ys : List X) → map f (xs ++ ys) ≡ map f xs ++ map f ys
map-behind f [] ys = refl
map-behind f (x ∷ xs) ys = ap (λ l. f x ∷ l) (map-behind f xs ys)

or_true : (b : Bool) → (b || true) ≡ true
or_true true = refl
or_true false = refl

pub in-among : (n : ℕ) (xs : List ℕ) → In n xs → among n xs ≡ true
in-among n [] i = absurd i
in-among n (x ∷ xs) (inl e) = ap (λ b. b || among n xs) (eq-eqb x n e)
in-among n (x ∷ xs) (inr i) = ap (λ b. (x == n) || b) (in-among n xs i) ∙ or_true (x == n)

pub among-in : (n : ℕ) (xs : List ℕ) → among n xs ≡ true → In n xs
among-in n [] h = absurd (cc)
among-in n (x ∷ xs) h = go (x == n) refl (among-in n xs)
  where
    go : (b : Bool) → (x == n) ≡ b → (among n xs ≡ true → In n xs) → In n (x ∷ xs)
    go true e ih = inl (eqb-true x n e)
    go false e ih = inr (ih (sym (ap (λ b. b || among n xs) e) ∙ h))

pub in-at : (n : ℕ) (xs : List ℕ) → In n xs → (i : ℕ) × (at xs i ≡ Some n)
in-at n [] i = absurd i
in-at n (x ∷ xs) (inl e) = (0, ap Some e)
in-at n (x ∷ xs) (inr i) = let y = in-at n xs i in (suc y.0, y.1)

pub among-front : (n : ℕ) (xs ys : List ℕ) → among n xs ≡ true → among n (xs ++ ys) ≡ true
among-front n xs ys h = in-among n (xs ++ ys) (in-left n xs ys (among-in n xs h))

pub slice-at : {X : Type 0} (xs : List X) (i : ℕ) → slice_get xs i ≡ at xs i
slice-at [] i = refl
slice-at (x ∷ xs) zero = refl
slice-at (x ∷ xs) (suc i) = slice-at xs i

pub parent-caller : (origins : List Origin) (id : ℕ) (parent : Option ℕ)
    → HasParent (at origins id) parent → caller_at origins id ≡ parent
parent-caller origins id parent h = go (at origins id) h
  where
    go : (o : Option Origin) → HasParent o parent → and_then o (λ o. o.parent) ≡ parent
    go None h = absurd h
    go (Some o) h = h

flip : (m n : ℕ) → (m == n) ≡ (n == m)
flip m n = elim (tells (m == n)) [
  | inl t ↦ t ∙ sym (eq-eqb n m (sym (eqb-true m n t)))
  | inr f ↦ f
      ∙ sym
      (elim (tells (n == m)) [
        | inl t ↦ absurd (let a : true ≡ false = sym (eq-eqb m n (sym (eqb-true n m t))) ∙ f in cc)
        | inr g ↦ g
      ])
]

any-among : (n : ℕ) (xs : List ℕ) → list_any (λ m. n == m) xs ≡ among n xs
any-among n [] = refl
any-among n (x ∷ xs) = ap (λ b. b || list_any (λ m. n == m) xs) (flip n x)
    ∙ ap (λ b. (x == n) || b) (any-among n xs)

-- a number that a set of requests takes or has
pub number-added : (old new over after : List ℕ) (n place : ℕ) (r : Bool)
    → r ≡ not (list_any (λ m. n == m) old) → new
    ≡ (if list_any (λ m. n == m) old then old else old ++ n ∷ []) → r ≡ true
    → after ≡ over ++ place ∷ [] → IsAddedTo old over n place new after
number-added old new over after n place r f h t o = go (list_any (λ m. n == m) old) refl
  where
    go : (b : Bool) → list_any (λ m. n == m) old ≡ b → IsAddedTo old over n place new after
    go true e = absurd (let a : true ≡ false = sym t ∙ (f ∙ ap not e) in cc)
    go false e = inr (
      sym (any-among n old) ∙ e,
      h
          ∙ ap (λ b. if b then old else old ++ n ∷ []) e,
      o,
    )

pub number-there : (old new over : List ℕ) (n place : ℕ) (r : Bool)
    → r ≡ not (list_any (λ m. n == m) old) → new
    ≡ (if list_any (λ m. n == m) old then old else old ++ n ∷ []) → r ≡ false
    → IsAddedTo old over n place new over
number-there old new over n place r f h t = go (list_any (λ m. n == m) old) refl
  where
    go : (b : Bool) → list_any (λ m. n == m) old ≡ b → IsAddedTo old over n place new over
    go true e = inl (
      sym (any-among n old) ∙ e,
      h
          ∙ ap (λ b. if b then old else old ++ n ∷ []) e,
      refl,
    )
    go false e = absurd (let a : false ≡ true = sym t ∙ (f ∙ ap not e) in cc)

pub on-ok : {T E : Type 0} {P Q : Type 0} (r : Result T E) → (P → Q) → OnOk r P → OnOk r Q
on-ok (Ok x) f h = f h
on-ok (Err e) f h = tt

pub callers-bound : (origins : List Origin)
    → ((id caller : ℕ) → caller_at origins id ≡ Some caller
    → (o : Origin) × (at origins caller ≡ Some o)) → AreCallersThere origins
callers-bound origins f id caller e = let y = f id caller e in at-less origins caller y.0 y.1

module _ (origins : List Origin) (place : ℕ) where
  -- nobody calls it
  pub brought-none : (request : ℕ) (requests over : List ℕ) → caller_at origins request ≡ None
      → AreBroughtIn origins (request ∷ []) place requests over requests over
  brought-none request requests over e = record {
    more = [];
    next_is = nothing_behind requests;
    after_is = nothing_behind over;
    callers = λ i caller h. absurd (let a : None ≡ Some caller = h in cc);
    all_there = λ child caller i c.
        elim i [
          | inl p ↦ none_some (caller_at origins child) caller c
              (ap (caller_at origins) (sym p) ∙ e)
          | inr j ↦ absurd j
        ];
  }

  -- its caller is added
  pub brought-one : (request caller : ℕ) (requests over next after : List ℕ)
      → caller_at origins request ≡ Some caller → IsAddedTo requests over caller place next after
      → AreBroughtIn origins (request ∷ []) place requests over next after
  brought-one request caller requests over next after e (inl h) = record {
    more = [];
    next_is = h.1 ∙ nothing_behind requests;
    after_is = h.2 ∙ nothing_behind over;
    callers = λ i other g. absurd (let a : None ≡ Some other = g in cc);
    all_there = λ child other i c. elim i [
      | inl p ↦
          let same : caller ≡ other = same_some (caller_at origins child) caller other
          (ap (caller_at origins) (sym p) ∙ e) c in
          ap (among other) h.1 ∙ subst (λ n. among n requests ≡ true) same h.0
      | inr j ↦ absurd j
    ];
  }
  brought-one request caller requests over next after e (inr h) = record {
    more = caller ∷ [];
    next_is = h.1;
    after_is = h.2;
    callers = λ i other g. (request, inl refl, one i other g);
    all_there = λ child other i c. elim i [
      | inl p ↦
          let same : caller ≡ other = same_some (caller_at origins child) caller other
          (ap (caller_at origins) (sym p) ∙ e) c in
          ap (among other) h.1 ∙ in-among other (requests ++ caller ∷ [])
          (in-right other requests (caller ∷ []) (inl same))
      | inr j ↦ absurd j
    ];
  }
    where
      one : (i other : ℕ) → at (caller ∷ []) i ≡ Some other → caller_at origins request ≡ Some other
      one zero other g = e ∙ g
      one (suc i) other g = absurd (let a : None ≡ Some other = g in cc)

  pub brought-nothing : (requests over : List ℕ)
      → AreBroughtIn origins [] place requests over requests over
  brought-nothing requests over = record {
    more = [];
    next_is = nothing_behind requests;
    after_is = nothing_behind over;
    callers = λ i caller h. absurd (let a : None ≡ Some caller = h in cc);
    all_there = λ child caller i c. absurd i;
  }

  -- first those of some, then those of others
  pub brought-join : (xs ys r0 o0 r1 o1 r2 o2 : List ℕ) → AreBroughtIn origins xs place r0 o0 r1 o1
      → AreBroughtIn origins ys place r1 o1 r2 o2
      → AreBroughtIn origins (xs ++ ys) place r0 o0 r2 o2
  brought-join xs ys r0 o0 r1 o1 r2 o2 a b = record {
    more = a.more ++ b.more;
    next_is = b.next_is ∙ (ap (λ l. l ++ b.more) a.next_is ∙ all_behind r0 a.more b.more);
    after_is = b.after_is
        ∙ (ap (λ l. l ++ map (λ (caller : ℕ). place) b.more) a.after_is
        ∙ (all_behind o0 (map (λ (caller : ℕ). place) a.more) (map (λ (caller : ℕ). place) b.more)
        ∙ ap (λ l. o0 ++ l) (sym (map-behind (λ (caller : ℕ). place) a.more b.more))));
    callers = λ i caller h. elim (at-append a.more b.more i caller h) [
      | inl g ↦ let y = a.callers i caller g in (y.0, in-left y.0 xs ys y.1, y.2)
      | inr g ↦ let y = b.callers g.0 caller g.1 in (y.0, in-right y.0 xs ys y.1, y.2)
    ];
    all_there = λ child caller i c. elim (in-append child xs ys i) [
      | inl j ↦ ap (among caller) b.next_is ∙ among-front caller r1 b.more
          (a.all_there child caller j c)
      | inr j ↦ b.all_there child caller j c
    ];
  }

  pub brought-next : (children : List ℕ) (i : ℕ) (r0 o0 r1 o1 r2 o2 : List ℕ) → i < length children
      → AreBroughtIn origins (take i children) place r0 o0 r1 o1
      → AreBroughtIn origins (get_or children i 0 ∷ []) place r1 o1 r2 o2 →
      AreBroughtIn origins (take (i + 1) children) place r0 o0 r2 o2
  brought-next children i r0 o0 r1 o1 r2 o2 l a b =
      subst (λ xs. AreBroughtIn origins xs place r0 o0 r2 o2) (sym (take_more children i 0 l))
      (brought-join (take i children) (get_or children i 0 ∷ []) r0 o0 r1 o1 r2 o2 a b)

-- what is read at a place
pub index-at : {X : Type 0} (xs : List X) (i : ℕ) (v x : X) → at xs i ≡ Some x → v ≡ get_or xs i v
    → v ≡ x
index-at xs i v x e h = same_some (at xs i) v x (at-get xs i v (at-less xs i x e) ∙ ap Some (sym h))
    e

-- the numbers of one of the sets
pub numbers-at : (waiting : List Numbered) (id : ℕ) (one : Numbered) (numbers : List ℕ)
    → id < length waiting → one ≡ get_or waiting id one → numbers ≡ one.numbers
    → numbers ≡ numbers_of (at waiting id)
numbers-at waiting id one numbers l e n = n ∙ sym
    (ap numbers_of (at-get waiting id one l ∙ ap Some (sym e)))

module _ (origins : List Origin) (waiting : List Numbered) (first : ℕ) where
  pub found-first : first < length origins → {requests over : List ℕ} → requests ≡ first ∷ []
      → over ≡ 0 ∷ [] → AreFound origins waiting first requests over
  found-first l {requests} {over} r o = subst (λ rs. AreFound origins waiting first rs over) (sym r)
      (subst (λ os. AreFound origins waiting first (first ∷ []) os) (sym o) (record {
        starts = refl;
        lengths = refl;
        there = λ i n e. only i n e;
        each = λ i n e above. none i n e above;
      }))
    where
      only : (i n : ℕ) → at (first ∷ []) i ≡ Some n → n < length origins
      only zero n e = let p : first ≡ n = cc in subst (λ a. a < length origins) p l
      only (suc i) n e = absurd (let a : None ≡ Some n = e in cc)

      none : (i n : ℕ) → at (first ∷ []) i ≡ Some n → 0 < i
          → IsFoundBy origins waiting (first ∷ []) (0 ∷ []) i n
      none zero n e above = absurd (omega arith)
      none (suc i) n e above = absurd (let a : None ≡ Some n = e in cc)

  -- one more of those that were found is looked at
  module _ (requests over next after : List ℕ) (place : ℕ)
      (f : AreFound origins waiting first requests over)
      (l : IsLookedAt origins waiting place requests over next after)
      (bound : AreCallersThere origins) where
    abbrev more : List ℕ
    more = l.2.more

    abbrev places : List ℕ
    places = map (λ (caller : ℕ). place) more

    within : place < length requests
    within = at-less requests place l.0 l.1

    kept : (i n : ℕ) → at requests i ≡ Some n → at next i ≡ Some n
    kept i n e = ap (λ xs. at xs i) l.2.next_is ∙ at-front requests more i n e

    kept_over : (i n : ℕ) → at over i ≡ Some n → at after i ≡ Some n
    kept_over i n e = ap (λ xs. at xs i) l.2.after_is ∙ at-front over places i n e

    kept-before : (i n : ℕ) → i < length requests → at next i ≡ Some n → at requests i ≡ Some n
    kept-before i n h e = elim
        (at-append requests more i n (sym (ap (λ xs. at xs i) l.2.next_is) ∙ e)) [
          | inl g ↦ g
          | inr g ↦ absurd (let k : i ≡ length requests + g.0 = g.2 in omega arith)
        ]

    over-of : (child caller : ℕ) → In child (l.0 ∷ numbers_of (at waiting l.0))
        → caller_at origins child ≡ Some caller → CallsOver origins waiting caller l.0
    over-of child caller i c = record {
      child = child;
      called = c;
      holds = elim i
          [ inl p ↦ inl (sym p) | inr j ↦ inr (in-among child (numbers_of (at waiting l.0)) j) ];
    }

    old-found : (i n : ℕ) → at requests i ≡ Some n → 0 < i
        → IsFoundBy origins waiting next after i n
    old-found i n e above = let z = f.each i n e above in record {
      place = z.place;
      next = z.next;
      over_is = kept_over i z.place z.over_is;
      before = z.before;
      next_is = kept z.place z.next z.next_is;
      needs = z.needs;
    }

    new-found : (i n j : ℕ) → at more j ≡ Some n → i ≡ length requests + j
        → IsFoundBy origins waiting next after i n
    new-found i n j e k =
        let c = l.2.callers j n e in
        record {
          place = place;
          next = l.0;
          over_is = ap (at after) (k ∙ ap (λ m. m + j) (sym f.lengths))
              ∙ (ap (λ xs. at xs (length over + j)) l.2.after_is
              ∙ (at-back over places j ∙ map-at (λ (caller : ℕ). place) more j n e));
          before = let w : place < length requests = within in omega (arith, k);
          next_is = kept place l.0 l.1;
          needs = over-of c.0 n c.1 c.2;
        }

    pub within-more : place + 1 ≤ length next
    within-more =
        let a = length-append requests more in
        let b : length next ≡ length (requests ++ more) = ap length l.2.next_is in
        let w : place < length requests = within in omega arith

    pub found-more : AreFound origins waiting first next after
    found-more = record {
      starts = kept 0 first f.starts;
      lengths =
          let a = length-append requests more in
          let b = length-append over places in
          let c = length-map more (λ (caller : ℕ). place) in
          let d : length next ≡ length (requests ++ more) = ap length l.2.next_is in
          let e : length after ≡ length (over ++ places) = ap length l.2.after_is in
          let g : length over ≡ length requests = f.lengths in omega arith;
      there = λ i n e.
          elim (at-append requests more i n (sym (ap (λ xs. at xs i) l.2.next_is) ∙ e)) [
            | inl g ↦ f.there i n g
            | inr g ↦ let c = l.2.callers g.0 n g.1 in bound c.0 n c.2
          ];
      each = λ i n e above.
          elim (at-append requests more i n (sym (ap (λ xs. at xs i) l.2.next_is) ∙ e)) [
            | inl g ↦ old-found i n g above
            | inr g ↦ new-found i n g.0 g.1 g.2
          ];
    }

    pub looked-more : AreLooked origins waiting requests place
        → AreLooked origins waiting next (place + 1)
    looked-more h i n caller b e c = elim (same_or_not i place) [
      | inl p ↦
          let same : n ≡ l.0 = same_some (at next place) n l.0 (subst (λ j. at next j ≡ Some n) p e)
          (kept place l.0 l.1) in
          there (subst (CallsOver origins waiting caller) same c)
      | inr d ↦
          let before : i < place = less i place b d in
          let w : place < length requests = within in
          ap (among caller) l.2.next_is ∙ among-front caller requests more
          (h i n caller before (kept-before i n (omega arith) e) c)
    ]
      where
        less : (i place : ℕ) → i < place + 1 → (i ≡ place → ⊥) → i < place
        less i place b d = elim (tells (i == place))
            [ inl t ↦ absurd (d (eqb-true i place t)) | inr t ↦ other ]
          where
            other : i < place
            other = go i place b d
              where
                go : (a b : ℕ) → a < b + 1 → (a ≡ b → ⊥) → a < b
                go zero zero l d = absurd (d refl)
                go zero (suc b) l d = omega arith
                go (suc a) zero l d = absurd (omega arith)
                go (suc a) (suc b) l d = let h = go a b (omega arith) (λ e. d (ap suc e)) in omega
                    arith

        there : CallsOver origins waiting caller l.0 → among caller next ≡ true
        there c = elim c.holds [
          | inl p ↦ l.2.all_there c.child caller (inl (sym p)) c.called
          | inr g ↦ l.2.all_there c.child caller
              (inr (among-in c.child (numbers_of (at waiting l.0)) g)) c.called
        ]

    pub apart-more : (by : ℕ) → ((i : ℕ) → i < place → at requests i ≡ Some by → ⊥) → (l.0 ≡ by → ⊥)
        → (i : ℕ) → i < place + 1 → at next i ≡ Some by → ⊥
    apart-more by h d i b e = elim (same_or_not i place) [
      | inl p ↦ d
          (same_some (at next place) l.0 by (kept place l.0 l.1)
          (subst (λ j. at next j ≡ Some by) p e))
      | inr n ↦
          let w : place < length requests = within in
          let before : i < place = less i place b n in h i before (kept-before i by (omega arith) e)
    ]
      where
        less : (a b : ℕ) → a < b + 1 → (a ≡ b → ⊥) → a < b
        less zero zero l d = absurd (d refl)
        less zero (suc b) l d = omega arith
        less (suc a) zero l d = absurd (omega arith)
        less (suc a) (suc b) l d = let h = less a b (omega arith) (λ e. d (ap suc e)) in omega arith

  -- all are looked at
  pub all-looked : (requests over : List ℕ) (place by : ℕ)
      → AreFound origins waiting first requests over → AreLooked origins waiting requests place
      → ((i : ℕ) → i < place → at requests i ≡ Some by → ⊥) → length requests ≤ place →
      (among first requests ≡ true) × AreApart origins waiting by requests
  all-looked requests over place by f h d l = (
    in-among first requests (at-in requests 0 first f.starts),
    record {
      closed = λ n caller a c. let y = in-at n requests (among-in n requests a) in let k : y.0
          < length requests = at-less requests y.0 n y.1 in h y.0 n caller (omega arith) y.1 c;
      apart = elim (tells (among by requests)) [
        | inl t ↦ let y = in-at by requests (among-in by requests t) in let k : y.0
            < length requests = at-less requests y.0 by y.1 in absurd (d y.0 (omega arith) y.1)
        | inr t ↦ t
      ];
    },
  )

  pub found-backward : (requests over : List ℕ) → AreFound origins waiting first requests over
      → AreBackward requests over
  found-backward requests over f i above l =
      let y = f.each i (get_or requests i 0) (at-get requests i 0 l) above
      in (y.place, y.over_is, y.before)

-- one step back over those that were found, with its run
pub over-more : (requests over : List ℕ) (making : List (Option RunId)) (from i place request : ℕ)
    (so_far : List RunId) (run : RunId)
    → ((rest : List RunId) → AreOver requests over making i rest
    → AreOver requests over making from (so_far ++ rest)) →
    at over i ≡ Some place → 0 < i → at requests place ≡ Some request
    → at making request ≡ Some (Some run) → (rest : List RunId)
    → AreOver requests over making place rest
    → AreOver requests over making from ((so_far ++ run ∷ []) ++ rest)
over-more requests over making from i place request so_far run f o above r m rest h =
    subst (AreOver requests over making from) (sym (all_behind so_far (run ∷ []) rest))
    (f (run ∷ rest) (place, request, o, above, r, m, h))

pub run-added : (requests over : List ℕ) (making : List (Option RunId)) (o : Option (Option RunId))
    (old new : List RunId) → IsRunAdded o old new
    → (run : RunId) × (o ≡ Some (Some run)) × (new ≡ old ++ run ∷ [])
run-added requests over making None old new h = absurd h
run-added requests over making (Some None) old new h = absurd h
run-added requests over making (Some (Some run)) old new h = (run, refl, h)

pub over-pushed : (fn old new so_far : List RunId) (run : RunId) → old ≡ fn ++ so_far
    → new ≡ old ++ run ∷ [] → new ≡ fn ++ (so_far ++ run ∷ [])
over-pushed fn old new so_far run o n = n
    ∙ (ap (λ xs. xs ++ run ∷ []) o ∙ all_behind fn so_far (run ∷ []))

pub over-end : (requests over : List ℕ) (making : List (Option RunId)) (from i : ℕ)
    (so_far : List RunId)
    → ((rest : List RunId) → AreOver requests over making i rest
    → AreOver requests over making from (so_far ++ rest)) → i ≡ 0
    → AreOver requests over making from so_far
over-end requests over making from i so_far f e = subst (AreOver requests over making from)
    (sym (nothing_behind so_far)) (f [] e)
