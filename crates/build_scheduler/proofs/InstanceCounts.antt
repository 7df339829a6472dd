-- Instances, each once: how many there are.
use Rattle.std.proofs.Common.{
  ◌≡◌,
  ◌≤◌,
  ◌<◌,
  ◌+◌,
  ◌||◌,
  inl,
  inr,
  ℕ,
  zero,
  suc,
  Bool,
  true,
  false,
  List,
  [],
  ◌∷◌,
  ◌++◌,
  length,
  map,
  if◌then◌else◌,
  take,
  drop,
  get_or,
  Err,
  refl,
  ap,
  sym,
  ◌∙◌,
  subst,
  arith,
}
use Rattle.std.proofs.lemmas.List.{length-append, take_more}
use Rattle.std.specs.List.{list_any}
use Rattle.msb_values.specs.declared.key.InstanceKey.{InstanceKey}
use Rattle.result_cache.specs.declared.request.RequestKey.{RequestKey}
use Rattle.result_cache.specs.Exact.{instance-exact}
use Rattle.result_cache.specs.Same.{same_instance}
use Rattle.result_cache.proofs.RunTests.{clash, tells, or_neither}
use Rattle.indexmap.specs.IndexSet.{insert_key}
use Rattle.build_meaning.specs.Meaning.{most_instances}
use Rattle.build_meaning.specs.Demand.{is_among, with_unless, distinct}
use Rattle.build_scheduler.specs.Instances.{
  AreOnce,
  AreCounted,
  behind_unless,
  with_instance,
  with_all,
  IsAdded,
  IsGrown,
  IsGrownBy,
}
use Rattle.build_scheduler.specs.declared.instances.InstanceFault.{InstanceFault}
use Rattle.build_scheduler.specs.declared.instances.InstanceFault.TheVariants.{TooMany, Memory}

flip : (a b : InstanceKey) → same_instance a b ≡ same_instance b a
flip a b = elim (tells (same_instance a b)) [
  | inl t ↦ t ∙ sym ((instance-exact b a).1 (sym ((instance-exact a b).0 t)))
  | inr n ↦ n
      ∙ sym
      (elim (tells (same_instance b a)) [
        | inl t ↦ absurd
            (clash (same_instance a b) ((instance-exact a b).1 (sym ((instance-exact b a).0 t))) n)
        | inr
            m ↦ m
      ])
]

among-any : (instances : List InstanceKey) (instance : InstanceKey)
    → list_any (same_instance instance) instances ≡ is_among instance instances
among-any [] instance = refl
among-any (x ∷ instances) instance = ap (λ b. b || list_any (same_instance instance) instances)
    (flip instance x) ∙ ap (λ b. same_instance x instance || b) (among-any instances instance)

pub inserted-instance : (old : List InstanceKey) (instance copy : InstanceKey)
    (new : List InstanceKey) → copy ≡ instance → new ≡ insert_key same_instance old copy
    → new ≡ with_instance old instance
inserted-instance old instance copy new e h =
    h
    ∙ (ap (λ k. insert_key same_instance old k) e
    ∙ (ap (λ b. if b then old else old ++ instance ∷ []) (among-any old instance)
    ∙ chosen (is_among instance old)))
  where
    chosen : (b : Bool) → (if b then old else old ++ instance ∷ []) ≡ behind_unless b old instance
    chosen true = refl
    chosen false = refl

-- one more at the end
among-behind : (instances : List InstanceKey) (instance other : InstanceKey)
    → is_among other (instances ++ instance ∷ [])
    ≡ (is_among other instances || same_instance instance other)
among-behind [] instance other = or_false (same_instance instance other)
  where
    or_false : (b : Bool) → (b || false) ≡ (false || b)
    or_false true = refl
    or_false false = refl
among-behind (x ∷ instances) instance other = ap (λ b. same_instance x other || b)
    (among-behind instances instance other) ∙ or_assoc (same_instance x other)
    (is_among other instances) (same_instance instance other)
  where
    or_assoc : (a b c : Bool) → (a || (b || c)) ≡ ((a || b) || c)
    or_assoc true b c = refl
    or_assoc false b c = refl

once-behind : (instances : List InstanceKey) (instance : InstanceKey) → AreOnce instances
    → is_among instance instances ≡ false → AreOnce (instances ++ instance ∷ [])
once-behind [] instance o n = (refl, tt)
once-behind (x ∷ instances) instance o n =
    let a : (same_instance x instance ≡ false)
    × (is_among instance instances ≡ false) = or_neither (same_instance x instance)
    (is_among instance instances) n in (
      among-behind instances instance x
          ∙ (ap (λ b. b || same_instance instance x) o.0 ∙ (flip instance x ∙ a.0)),
      once-behind
          instances instance o.1 a.1,
    )

or_none : (b : Bool) → (b || false) ≡ b
or_none true = refl
or_none false = refl

-- the instances with another one: each once, and the members are those and it
pub counted-one : (old asked : List InstanceKey) (instance : InstanceKey) → AreCounted old asked
    → AreCounted (with_instance old instance) (asked ++ instance ∷ [])
counted-one old asked instance c = go (is_among instance old) refl
  where
    go : (b : Bool) → is_among instance old ≡ b
        → AreCounted (behind_unless b old instance) (asked ++ instance ∷ [])
    go true e = record {
      once = c.once;
      same = λ i. c.same i
          ∙ (kept i ∙ sym (among-behind asked instance i));
    }
      where
        kept : (i : InstanceKey) → is_among i asked ≡ (is_among i asked || same_instance instance i)
        kept i = by (same_instance instance i) refl
          where
            by : (b : Bool) → same_instance instance i ≡ b
                → is_among i asked ≡ (is_among i asked || b)
            by true s = let t : is_among i asked ≡ true = sym (c.same i)
                ∙ (ap (λ k. is_among k old) (sym ((instance-exact instance i).0 s)) ∙ e) in t
                ∙ sym (ap (λ b. b || true) t)
            by false s = sym (or_none (is_among i asked))
    go false e = record {
      once = once-behind old instance c.once e;
      same = λ i. among-behind old instance i
          ∙ (ap (λ b. b || same_instance instance i) (c.same i)
          ∙ sym (among-behind asked instance i));
    }

or_right_assoc : (xs ys zs : List InstanceKey) → (xs ++ ys) ++ zs ≡ xs ++ (ys ++ zs)
or_right_assoc [] ys zs = refl
or_right_assoc (x ∷ xs) ys zs = ap (λ l. x ∷ l) (or_right_assoc xs ys zs)

pub counted-all : (old asked : List InstanceKey) (calls : List RequestKey) → AreCounted old asked
    → AreCounted (with_all old calls) (asked ++ map (λ (call : RequestKey). call.instance) calls)
counted-all old asked [] c = subst (AreCounted old) (sym (nothing_behind asked)) c
  where
    nothing_behind : (xs : List InstanceKey) → xs ++ [] ≡ xs
    nothing_behind [] = refl
    nothing_behind (x ∷ xs) = ap (λ l. x ∷ l) (nothing_behind xs)
counted-all old asked (call ∷ calls) c =
    subst (AreCounted (with_all (with_instance old call.instance) calls))
    (or_right_assoc asked (call.instance ∷ [])
    (map (λ (call : RequestKey). call.instance) calls))
    (counted-all (with_instance old call.instance) (asked ++ call.instance ∷ []) calls
    (counted-one old asked call.instance c))

-- each distinct instance once
once-unless : (b : Bool) (i : InstanceKey) (xs : List InstanceKey) → is_among i xs ≡ b → AreOnce xs
    → AreOnce (with_unless b i xs)
once-unless true i xs e o = o
once-unless false i xs e o = (e, o)

among-unless : (b : Bool) (i k : InstanceKey) (xs : List InstanceKey) → is_among i xs ≡ b
    → is_among k (with_unless b i xs) ≡ (same_instance i k || is_among k xs)
among-unless true i k xs e = by (same_instance i k) refl
  where
    by : (b : Bool) → same_instance i k ≡ b → is_among k xs ≡ (b || is_among k xs)
    by true s = ap (λ j. is_among j xs) (sym ((instance-exact i k).0 s)) ∙ e
    by false s = refl
among-unless false i k xs e = refl

distinct-counts : (xs : List InstanceKey) → AreCounted (distinct xs) xs
distinct-counts [] = record { once = tt; same = λ i. refl }
distinct-counts (x ∷ xs) =
    let c = distinct-counts xs in record {
      once = once-unless (is_among x xs) x (distinct xs) (c.same x) c.once;
      same = λ i. among-unless (is_among x xs) x i (distinct xs) (c.same x)
          ∙ ap (λ b. same_instance x i || b) (c.same i);
    }

-- the list without an instance
abbrev drop_if : Bool → InstanceKey → List InstanceKey → List InstanceKey
drop_if true i xs = xs
drop_if false i xs = i ∷ xs

abbrev dropped : InstanceKey → List InstanceKey → List InstanceKey
dropped i [] = []
dropped i (x ∷ xs) = drop_if (same_instance x i) x (dropped i xs)

dropped-most : (i : InstanceKey) (xs : List InstanceKey) → length (dropped i xs) ≤ length xs
dropped-most i [] = omega arith
dropped-most i (x ∷ xs) = by (same_instance x i) (dropped-most i xs)
  where
    by : (b : Bool) → length (dropped i xs) ≤ length xs
        → length (drop_if b x (dropped i xs)) ≤ suc (length xs)
    by true ih = omega arith
    by false ih = omega arith

dropped-less : (i : InstanceKey) (xs : List InstanceKey) → is_among i xs ≡ true
    → length (dropped i xs) < length xs
dropped-less i [] h = absurd (cc)
dropped-less i (x ∷ xs) h = by (same_instance x i) h (dropped-less i xs) (dropped-most i xs)
  where
    by : (b : Bool) → (b || is_among i xs) ≡ true
        → (is_among i xs ≡ true → length (dropped i xs) < length xs)
        → length (dropped i xs) ≤ length xs → length (drop_if b x (dropped i xs)) < suc (length xs)
    by true h ih m = omega arith
    by false h ih m = let k : length (dropped i xs) < length xs = ih h in omega arith

dropped-keeps : (i k : InstanceKey) (xs : List InstanceKey) → same_instance i k ≡ false
    → is_among k xs ≡ true → is_among k (dropped i xs) ≡ true
dropped-keeps i k [] n h = absurd (cc)
dropped-keeps i k (x ∷ xs) n h = by (same_instance x i) refl (same_instance x k) refl h
    (dropped-keeps i k xs n)
  where
    by : (b : Bool) → same_instance x i ≡ b → (c : Bool) → same_instance x k ≡ c
        → (c || is_among k xs) ≡ true → (is_among k xs ≡ true → is_among k (dropped i xs) ≡ true)
        → is_among k (drop_if b x (dropped i xs)) ≡ true
    by true e true f h ih = absurd
        (clash (same_instance i k)
        ((instance-exact i k).1 (sym ((instance-exact x i).0 e) ∙ (instance-exact x k).0 f)) n)
    by true e false f h ih = ih h
    by false e true f h ih = ap (λ b. b || is_among k (dropped i xs)) f
    by false e false f h ih = ap (λ b. b || is_among k (dropped i xs)) f ∙ ih h

-- a list of distinct instances is no longer than one that has them all
fewer : (xs ys : List InstanceKey) → AreOnce xs
    → ((i : InstanceKey) → is_among i xs ≡ true → is_among i ys ≡ true) → length xs ≤ length ys
fewer [] ys o h = omega arith
fewer (x ∷ xs) ys o h =
    let there : is_among x ys
    ≡ true = h x (ap (λ b. b || is_among x xs) ((instance-exact x x).1 refl)) in
    let l : length (dropped x ys) < length ys = dropped-less x ys there in
    let ih : length xs ≤ length (dropped x ys) = fewer xs (dropped x ys) o.1
    (λ i m. dropped-keeps x i ys (other i m)
    (h i (ap (λ b. same_instance x i || b) m ∙ or_true (same_instance x i)))) in omega arith
  where
    or_true : (b : Bool) → (b || true) ≡ true
    or_true true = refl
    or_true false = refl

    other : (i : InstanceKey) → is_among i xs ≡ true → same_instance x i ≡ false
    other i m = elim (tells (same_instance x i)) [
      | inl t ↦ absurd
          (clash (is_among x xs) (ap (λ k. is_among k xs) ((instance-exact x i).0 t) ∙ m) o.0)
      | inr n
          ↦ n
    ]

-- as many as there are distinct ones
pub counted-length : (instances asked : List InstanceKey) → AreCounted instances asked
    → length (distinct asked) ≡ length instances
counted-length instances asked c =
    let d = distinct-counts asked in
    let a = fewer (distinct asked) instances d.once (λ i h. c.same i ∙ (sym (d.same i) ∙ h)) in
    let b = fewer instances (distinct asked) c.once (λ i h. d.same i ∙ (sym (c.same i) ∙ h))
    in omega arith

-- what is added only grows
pub with_instance-grows : (old : List InstanceKey) (i : InstanceKey)
    → (more : List InstanceKey) × (with_instance old i ≡ old ++ more)
with_instance-grows old i = by (is_among i old)
  where
    by : (b : Bool) → (more : List InstanceKey) × (behind_unless b old i ≡ old ++ more)
    by true = ([], sym (nothing_behind old))
      where
        nothing_behind : (xs : List InstanceKey) → xs ++ [] ≡ xs
        nothing_behind [] = refl
        nothing_behind (x ∷ xs) = ap (λ l. x ∷ l) (nothing_behind xs)
    by false = (i ∷ [], refl)

pub with_all-grows : (old : List InstanceKey) (calls : List RequestKey)
    → length old ≤ length (with_all old calls)
with_all-grows old [] = omega arith
with_all-grows old (call ∷ calls) =
    let y = with_instance-grows old call.instance in
    let a : length (with_instance old call.instance) ≡ length old + length y.0 = ap length y.1
    ∙ length-append old y.0 in
    let b = with_all-grows (with_instance old call.instance) calls in omega arith

pub with_all-append : (old : List InstanceKey) (calls : List RequestKey) (call : RequestKey)
    → with_all old (calls ++ call ∷ []) ≡ with_instance (with_all old calls) call.instance
with_all-append old [] call = refl
with_all-append old (x ∷ calls) call = with_all-append (with_instance old x.instance) calls call

pub with_all-more : (old : List InstanceKey) (calls : List RequestKey)
    → (more : List InstanceKey) × (with_all old calls ≡ old ++ more)
with_all-more old [] = ([], sym (nothing_behind old))
  where
    nothing_behind : (xs : List InstanceKey) → xs ++ [] ≡ xs
    nothing_behind [] = refl
    nothing_behind (x ∷ xs) = ap (λ l. x ∷ l) (nothing_behind xs)
with_all-more old (call ∷ calls) =
    let y = with_instance-grows old call.instance in
    let z = with_all-more (with_instance old call.instance) calls in
    (y.0 ++ z.0, z.1 ∙ (ap (λ l. l ++ z.0) y.1 ∙ or_right_assoc old y.0 z.0))

-- the calls that were added, and one more
pub grown-more : (old seen next : List InstanceKey) (calls : List RequestKey) (i : ℕ)
    (call : RequestKey) → i < length calls → call ≡ get_or calls i call
    → seen ≡ with_all old (take i calls) → next ≡ with_instance seen call.instance →
    next ≡ with_all old (take (i + 1) calls)
grown-more old seen next calls i call l e s n =
    n
    ∙ (ap (λ xs. with_instance xs call.instance) s
    ∙ (sym (with_all-append old (take i calls) call)
    ∙ ap (with_all old) (ap (λ c. take i calls ++ c ∷ []) e ∙ sym (take_more calls i call l))))

with_all-split : (old : List InstanceKey) (xs ys : List RequestKey)
    → with_all old (xs ++ ys) ≡ with_all (with_all old xs) ys
with_all-split old [] ys = refl
with_all-split old (x ∷ xs) ys = with_all-split (with_instance old x.instance) xs ys

-- the calls round one of them
split-at : (calls : List RequestKey) (i : ℕ) (call : RequestKey) → i < length calls
    → call ≡ get_or calls i call → calls ≡ take i calls ++ call ∷ drop (suc i) calls
split-at [] i call l e = absurd (omega arith)
split-at (x ∷ calls) zero call l e = ap (λ c. c ∷ calls) (sym e)
split-at (x ∷ calls) (suc i) call l e = ap (λ l. x ∷ l) (split-at calls i call (omega arith) e)

take_front : (xs ys : List InstanceKey) → take (length xs) (xs ++ ys) ≡ xs
take_front [] ys = refl
take_front (x ∷ xs) ys = ap (λ l. x ∷ l) (take_front xs ys)

-- where one more is not added, some of the calls are
pub not-added : (old seen next : List InstanceKey) (calls : List RequestKey) (i : ℕ)
    (call : RequestKey) (crowd : InstanceFault) → i < length calls → call ≡ get_or calls i call
    → seen ≡ with_all old (take i calls) → length seen ≤ most_instances →
    IsGrownBy seen next call.instance (Err crowd) → IsGrown old next calls (Err crowd)
not-added old seen next calls i call (TooMany instance) l e s f h =
    let n : next ≡ with_all old (take (i + 1) calls) = grown-more old seen next calls i call l e s
    h.0 in
    let m = with_all-more old (take (i + 1) calls) in
    let seen_length : length seen ≡ length (with_all old (take i calls)) = ap length s in
    let next_length : length next ≡ length (with_all old (take i calls ++ call ∷ [])) =
    ap length
    (h.0
    ∙ (ap (λ xs. with_instance xs call.instance) s
    ∙ sym (with_all-append old (take i calls) call))) in (
      (m.0, n ∙ m.1),
      record {
        before = take i calls;
        call = call;
        behind = drop (suc i) calls;
        calls_are = split-at calls i call l e;
        instance_is = sym h.2;
        not_before = omega (arith, f, seen_length);
        too_many = let k : most_instances < length next = h.1 in omega (arith, next_length);
      },
    )
not-added old seen next calls i call Memory l e s f h =
    let m = with_all-more old (take i calls) in (
      m.0 ++ h.0,
      h.1
          ∙ (ap (λ xs. xs ++ h.0) (s ∙ m.1) ∙ or_right_assoc old m.0 h.0),
    )

-- what was added is taken away again
pub added-or-not : (old grown after : List InstanceKey) (calls : List RequestKey)
    (crowd : InstanceFault)
    → IsGrown old grown calls (Err crowd) → after ≡ take (length old) grown
    → IsAdded old after calls (Err crowd)
added-or-not old grown after calls (TooMany instance) h t =
    (t ∙ (ap (take (length old)) h.0.1 ∙ take_front old h.0.0), h.1)
added-or-not old grown after calls Memory h t = t
    ∙ (ap (take (length old)) h.1 ∙ take_front old h.0)
