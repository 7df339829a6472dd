-- All runs that the meaning makes end in its journal; and where no calls are made at once, each is
-- made once.
use Rattle.std.proofs.Common.{
  ◌≡◌,
  ℕ,
  zero,
  suc,
  ◌≤◌,
  Bool,
  true,
  false,
  ◌⊎◌,
  inl,
  inr,
  List,
  [],
  ◌∷◌,
  ◌++◌,
  length,
  Option,
  None,
  Some,
  refl,
  ap,
  sym,
  ◌∙◌,
  subst,
  arith,
  append_assoc,
}
use Rattle.result_cache.specs.declared.run.RunId.{RunId}
use Rattle.result_cache.specs.declared.request.RequestKey.{RequestKey}
use Rattle.result_cache.specs.declared.request.RequestResult.{RequestResult}
use Rattle.result_cache.specs.declared.record.Record.{Record}
use Rattle.result_cache.specs.Lists.{In}
use Rattle.result_cache.specs.Journal.{
  Entry,
  Journal,
  Mark,
  end_of,
  acted,
  ended,
  has,
  add,
  merge,
  record_of,
}
use Rattle.build_meaning.specs.World.{World}
use Rattle.build_meaning.specs.Walk.{Walk, gives, wants, Body, makes, does, uses, calls}
use Rattle.build_meaning.specs.SoFar.{
  ToolUse,
  SoFar,
  nothing_yet,
  with_act,
  with_tool,
  with_calls,
  recorded,
  result_of,
}
use Rattle.build_meaning.specs.Meaning.{
  Demanded,
  requested,
  together,
  joined,
  built,
  Given,
  after,
  followed,
  containing,
  deepest,
  at_once,
  body,
  made_then,
  wanted,
  walk,
  request,
  meaning,
}
use Rattle.result_cache.specs.Same.{is_in}
use Rattle.build_meaning.specs.Demand.{built_runs, IsSingle, IsSteady}
use Rattle.build_meaning.specs.Sound.{IsMade}
use Rattle.build_meaning.specs.Orderly.{AreDistinct}
use Rattle.result_cache.proofs.RunTests.{clash, tells, is_in-true, in-is_in}
use Rattle.result_cache.proofs.JournalEntries.{
  had-none,
  Has,
  has-add,
  has-added,
  has-merge_left,
  has-merge_right,
}
use Rattle.build_meaning.proofs.MeaningDerived.{in-left, in-right, followed-some}
use Rattle.build_meaning.proofs.NeedsOfRuns.{in-append}

absent : (s : Mark) (j k : Journal) → ((t : Mark) → Has t j → Has t k) → has s k ≡ false
    → has s j ≡ false
absent s j k f n = elim (tells (has s j)) [ inl h ↦ absurd (clash (has s k) (f s h) n) | inr h ↦ h ]

distinct-append : (xs ys : List RunId) → AreDistinct xs → AreDistinct ys
    → ((r : RunId) → In r xs → In r ys → ⊥) → AreDistinct (xs ++ ys)
distinct-append [] ys d e f = e
distinct-append (x ∷ xs) ys d e f = (
  elim (tells (is_in x (xs ++ ys))) [
    | inl h ↦ elim (in-append x xs ys (in-is_in x (xs ++ ys) h)) [
      | inl i ↦ absurd (clash (is_in x xs) (is_in-true x xs i) d.0)
      | inr i ↦ absurd (f x (inl refl) i)
    ]
    | inr h ↦ h
  ],
  distinct-append xs ys d.1 e (λ r i j. f r (inr i) j),
)

module _ {P I : Type 0} where
  built_runs-append : (xs ys : List (Demanded P I)) →
      built_runs (xs ++ ys) ≡ built_runs xs ++ built_runs ys
  built_runs-append [] ys = refl
  built_runs-append (requested key ∷ xs) ys = built_runs-append xs ys
  built_runs-append (together keys ∷ xs) ys = built_runs-append xs ys
  built_runs-append (joined a b c ∷ xs) ys = built_runs-append xs ys
  built_runs-append (built p r j m tools ∷ xs) ys = ap (λ zs. r ∷ zs) (built_runs-append xs ys)

  made-behind : (e : Demanded P I) (xs : List (Demanded P I)) (r : RunId) (m : Record) →
      IsMade xs r m → IsMade (e ∷ xs) r m
  made-behind e xs r m x = (x.0, x.1, (x.2.0, inr x.2.1))

  made-parts : (xs ys : List (Demanded P I)) (r : RunId) (m : Record) → IsMade (xs ++ ys) r m →
      IsMade xs r m ⊎ IsMade ys r m
  made-parts xs ys r m x = elim (in-append (built x.0 r x.1 m x.2.0) xs ys x.2.1) [
    | inl i ↦ inl (x.0, x.1, (x.2.0, i))
    | inr i ↦ inr (x.0, x.1, (x.2.0, i))
  ]

  run-built : (r : RunId) (xs : List (Demanded P I)) → In r (built_runs xs) →
      (m : Record) × IsMade xs r m
  run-built r [] i = absurd i
  run-built r (requested key ∷ xs) i =
      let y = run-built r xs i in (y.0, made-behind (requested key) xs r y.0 y.1)
  run-built r (together keys ∷ xs) i =
      let y = run-built r xs i in (y.0, made-behind (together keys) xs r y.0 y.1)
  run-built r (joined a b c ∷ xs) i =
      let y = run-built r xs i in (y.0, made-behind (joined a b c) xs r y.0 y.1)
  run-built r (built p s j m tools ∷ xs) (inl e) =
      (m, (p, j, (tools, inl (ap (λ t. built p t j m tools) e))))
  run-built r (built p s j m tools ∷ xs) (inr i) =
      let y = run-built r xs i in (y.0, made-behind (built p s j m tools) xs r y.0 y.1)

  built-run : (site : P) (r : RunId) (from : Journal) (m : Record) (tools : List (ToolUse I))
      (xs : List (Demanded P I)) → In (built site r from m tools) xs → In r (built_runs xs)
  built-run site r from m tools [] i = absurd i
  built-run site r from m tools (requested key ∷ xs) (inl p) = absurd (cc)
  built-run site r from m tools (requested key ∷ xs) (inr i) =
      built-run site r from m tools xs i
  built-run site r from m tools (together keys ∷ xs) (inl p) = absurd (cc)
  built-run site r from m tools (together keys ∷ xs) (inr i) =
      built-run site r from m tools xs i
  built-run site r from m tools (joined a b c ∷ xs) (inl p) = absurd (cc)
  built-run site r from m tools (joined a b c ∷ xs) (inr i) =
      built-run site r from m tools xs i
  built-run site r from m tools (built q s j n us ∷ xs) (inl p) =
      inl (let e : s ≡ r = cc in e)
  built-run site r from m tools (built q s j n us ∷ xs) (inr i) =
      inr (built-run site r from m tools xs i)

  -- each is made once, so what was made is one
  pub made-once : (xs : List (Demanded P I)) → AreDistinct (built_runs xs) → (site other : P)
      (r : RunId) (from last : Journal) (m n : Record) (tools others : List (ToolUse I)) →
      In (built site r from m tools) xs → In (built other r last n others) xs →
      (m ≡ n) × (tools ≡ others)
  made-once [] d site other r from last m n tools others i j = absurd i
  made-once (requested key ∷ xs) d site other r from last m n tools others i j =
      made-once xs d site other r from last m n tools others (behind i) (behind j)
    where
      behind : {p : P} {k : Journal} {m : Record} {tools : List (ToolUse I)} →
          In (built p r k m tools) (requested key ∷ xs) → In (built p r k m tools) xs
      behind (inl p) = absurd (cc)
      behind (inr i) = i
  made-once (together keys ∷ xs) d site other r from last m n tools others i j =
      made-once xs d site other r from last m n tools others (behind i) (behind j)
    where
      behind : {p : P} {k : Journal} {m : Record} {tools : List (ToolUse I)} →
          In (built p r k m tools) (together keys ∷ xs) → In (built p r k m tools) xs
      behind (inl p) = absurd (cc)
      behind (inr i) = i
  made-once (joined a b c ∷ xs) d site other r from last m n tools others i j =
      made-once xs d site other r from last m n tools others (behind i) (behind j)
    where
      behind : {p : P} {k : Journal} {m : Record} {tools : List (ToolUse I)} →
          In (built p r k m tools) (joined a b c ∷ xs) → In (built p r k m tools) xs
      behind (inl p) = absurd (cc)
      behind (inr i) = i
  made-once (built q s k a us ∷ xs) d site other r from last m n tools others (inl p) (inl e) = (
    let f : a ≡ m = cc in let g : a ≡ n = cc in sym f ∙ g,
    let f : us ≡ tools = cc in let g : us ≡ others = cc in sym f ∙ g,
  )
  made-once (built q s k a us ∷ xs) d site other r from last m n tools others (inl p) (inr j) =
      let e : s ≡ r = cc in
      let i = subst (λ t. In t (built_runs xs)) (sym e)
      (built-run other r last n others xs j) in
      absurd (clash (is_in s (built_runs xs)) (is_in-true s (built_runs xs) i) d.0)
  made-once (built q s k a us ∷ xs) d site other r from last m n tools others (inr i) (inl p) =
      let e : s ≡ r = cc in
      let j = subst (λ t. In t (built_runs xs)) (sym e)
      (built-run site r from m tools xs i) in
      absurd (clash (is_in s (built_runs xs)) (is_in-true s (built_runs xs) j) d.0)
  made-once (built q s k a us ∷ xs) d site other r from last m n tools others (inr i) (inr j) =
      made-once xs d.1 site other r from last m n tools others i j

  single-left : (xs ys : List (Demanded P I)) → IsSingle (xs ++ ys) → IsSingle xs
  single-left xs ys s keys i = s keys (in-left (together keys) xs ys i)

  single-right : (xs ys : List (Demanded P I)) → IsSingle (xs ++ ys) → IsSingle ys
  single-right xs ys s keys i = s keys (in-right (together keys) xs ys i)

  -- a journal goes on, and what is made on the way is new, ends in it, and is in no path
  pub record Extends (path : List RunId) (j k : Journal) (demand : List (Demanded P I)) : Type 0
    where
      pub grows : (s : Mark) → Has s j → Has s k
      pub fresh : (r : RunId) (m : Record) → IsMade demand r m →
          (has (end_of r) j ≡ false) × Has (end_of r) k × (In r path → ⊥)
      pub once : IsSingle demand → AreDistinct (built_runs demand)

  nothing-new : (path : List RunId) (j : Journal) → Extends path j j []
  nothing-new path j = record {
    grows = λ s h. h;
    fresh = λ r m x. absurd x.2.1;
    once = λ s. tt;
  }

  one-after : (path : List RunId) (j k l : Journal) (xs ys : List (Demanded P I)) →
      Extends path j k xs → Extends path k l ys → Extends path j l (xs ++ ys)
  one-after path j k l xs ys a b = record {
    grows = λ s h. b.grows s (a.grows s h);
    fresh = λ r m i. elim (made-parts xs ys r m i) [
      | inl p ↦ let x = a.fresh r m p in (x.0, b.grows (end_of r) x.1, x.2)
      | inr p ↦ let x = b.fresh r m p in (absent (end_of r) j k a.grows x.0, x.1, x.2)
    ];
    once = λ s. subst AreDistinct (sym (built_runs-append xs ys))
        (distinct-append (built_runs xs) (built_runs ys) (a.once (single-left xs ys s))
        (b.once (single-right xs ys s))
        (λ r p q.
        let x = run-built r xs p in let y = run-built r ys q in
        clash (has (end_of r) k) (a.fresh r x.0 x.1).1 (b.fresh r y.0 y.1).0));
  }

  asked-first : (path : List RunId) (j k : Journal) (key : RequestKey) (xs : List (Demanded P I)) →
      Extends path j k xs → Extends path j k (requested key ∷ xs)
  asked-first path j k key xs a = record {
    grows = a.grows;
    fresh = λ r m x. elim x.2.1 [
      | inl p ↦ absurd (cc)
      | inr p ↦ a.fresh r m (x.0, x.1, (x.2.0, p))
    ];
    once = λ s. a.once (λ keys i. s keys (inr i));
  }

  has-acted : (path : List RunId) (j : Journal) (e : Entry) → Extends path j (add j e) []
  has-acted path j e = record {
    grows = λ s h. has-add s j e h;
    fresh = λ r m x. absurd x.2.1;
    once = λ s. tt;
  }

  -- a body in the path of its run, and the run's end
  body-then : (path : List RunId) (j k : Journal) (site : P) (r : RunId) (m : Record)
      (tools : List (ToolUse I)) (xs : List (Demanded P I)) → Extends (r ∷ path) j k xs →
      has (end_of r) j ≡ false → (In r path → ⊥) →
      Extends path j (add k (ended r m)) (xs ++ built site r j m tools ∷ [])
  body-then path j k site r m tools xs a n f = record {
    grows = λ s h. has-add s k (ended r m) (a.grows s h);
    fresh = λ s u i. elim (made-parts xs (built site r j m tools ∷ []) s u i) [
      | inl p ↦
          let x = a.fresh s u p in
          (x.0, has-add (end_of s) k (ended r m) x.1, λ q. x.2 (inr q))
      | inr p ↦ mine s u p
    ];
    once = λ s. subst AreDistinct (sym (built_runs-append xs (built site r j m tools ∷ [])))
        (distinct-append (built_runs xs) (r ∷ [])
        (a.once (single-left xs (built site r j m tools ∷ []) s)) (refl, tt)
        (λ t p q. elim q [ inl e ↦ other t p e | inr i ↦ absurd i ]));
  }
    where
      other : (t : RunId) → In t (built_runs xs) → r ≡ t → ⊥
      other t p e = let x = run-built t xs p in (a.fresh t x.0 x.1).2 (inl e)

      mine : (s : RunId) (u : Record) → IsMade (built site r j m tools ∷ []) s u →
          (has (end_of s) j ≡ false) × Has (end_of s) (add k (ended r m)) × (In s path → ⊥)
      mine s u x = elim x.2.1 [
        | inl p ↦
            let e : r ≡ s = cc in
            subst (λ a. (has (end_of a) j ≡ false) × Has (end_of a) (add k (ended r m))
            × (In a path → ⊥)) e (n, has-added k (ended r m), f)
        | inr i ↦ absurd i
      ]

module _ {P I A : Type 0} (w : World P I A) where
  abbrev pub GivesSo : {T : Type 0} → Option (Given P I T) →
      (Journal → List (Demanded P I) → Type 0) → Type 0
  GivesSo {T} o Q = (x : Given P I T) → o ≡ Some x → Q x.journal x.demand

  follows : {S T : Type 0} (first : Option (Given P I S)) (next : S → Journal → Option
      (Given P I T)) (R Q : Journal → List (Demanded P I) → Type 0) → GivesSo first R →
      ((v : S) (k : Journal) (xs : List (Demanded P I)) → R k xs → (y : Given P I T) →
      next v k ≡ Some y → Q y.journal (xs ++ y.demand)) → GivesSo (followed first next) Q
  follows first next R Q f g z h =
      let u = followed-some first next z h in
      subst (λ (y : Given P I _). Q y.journal y.demand) u.4 (g u.0.value u.0.journal u.0.demand
      (f u.0 u.2) u.1 u.3)

  contains : {T : Type 0} (e : Demanded P I) (o : Option (Given P I T)) (R Q : Journal → List
      (Demanded P I) → Type 0) → GivesSo o R → ((k : Journal) (xs : List (Demanded P I)) → R k xs →
      Q k (e ∷ xs)) → GivesSo (containing e o) Q
  contains e None R Q f g z h = absurd (cc)
  contains e (Some x) R Q f g z h =
      let p : after (e ∷ []) x ≡ z =
      cc in subst (λ (y : Given P I _). Q y.journal y.demand) p (g x.journal x.demand (f x refl))

  so : {T : Type 0} (x : T) (j : Journal) (demand : List (Demanded P I))
      (Q : Journal → List (Demanded P I) → Type 0) → Q j demand →
      GivesSo (Some (record { value = x; journal = j; demand = demand })) Q
  so x j demand Q q z h =
      let e : record { value = x; journal = j; demand = demand } ≡ z = cc in
      subst (λ (y : Given P I _). Q y.journal y.demand) e q

  abbrev pub Ask : Type 0
  Ask = List RunId → Journal → RequestKey → Option (Given P I RequestResult)

  abbrev pub Fine : Ask → List RunId → Type 0
  Fine ask path = (j : Journal) (key : RequestKey) → GivesSo (ask path j key) (Extends path j)

  -- calls: from j, merged into a; each made once where there is at most one
  pub record Joins (path : List RunId) (j a : Journal) (keys : List RequestKey) (k : Journal)
      (demand : List (Demanded P I)) : Type 0 where
    pub grows : (s : Mark) → Has s a → Has s k
    pub fresh : (r : RunId) (m : Record) → IsMade demand r m →
        (has (end_of r) j ≡ false) × Has (end_of r) k × (In r path → ⊥)
    pub once : length keys ≤ 1 → IsSingle demand → AreDistinct (built_runs demand)
    pub nothing : length keys ≡ 0 → built_runs demand ≡ []

  at_once-joins : (ask : Ask) (path : List RunId) → Fine ask path → (j a : Journal)
      (keys : List RequestKey) → GivesSo (at_once w (ask path) j a keys) (Joins path j a keys)
  at_once-joins ask path f j a [] = so [] a [] (Joins path j a []) (record {
    grows = λ s h. h;
    fresh = λ r m x. absurd x.2.1;
    once = λ l s. tt;
    nothing = λ e. refl;
  })
  at_once-joins ask path f j a (key ∷ keys) =
      follows (ask path j key) (λ result left.
      followed (containing (joined j a left) (at_once w (ask path) j (merge a left) keys))
      (λ results last. Some (record { value = result ∷ results; journal = last; demand = [] })))
      (Extends path j) (Joins path j a (key ∷ keys)) (f j key)
      (λ res i xs x.
      follows (containing (joined j a i) (at_once w (ask path) j (merge a i) keys))
      (λ results last. Some (record { value = res ∷ results; journal = last; demand = [] }))
      (Joins path j (merge a i) keys) (λ k ys. Joins path j a (key ∷ keys) k (xs ++ ys))
      (contains (joined j a i) (at_once w (ask path) j (merge a i) keys)
      (Joins path j (merge a i) keys) (Joins path j (merge a i) keys)
      (at_once-joins ask path f j (merge a i) keys) (λ k ys y. with-join i k ys y))
      (λ results k ys y. so (res ∷ results) k []
      (λ k zs. Joins path j a (key ∷ keys) k (xs ++ (ys ++ zs))) (both i k xs ys x y)))
    where
      with-join : (i k : Journal) (ys : List (Demanded P I)) → Joins path j (merge a i) keys k ys →
          Joins path j (merge a i) keys k (joined j a i ∷ ys)
      with-join i k ys y = record {
        grows = y.grows;
        fresh = λ r m x. elim x.2.1 [
          | inl p ↦ absurd (cc)
          | inr p ↦ y.fresh r m (x.0, x.1, (x.2.0, p))
        ];
        once = λ l s. y.once l (λ ks t. s ks (inr t));
        nothing = y.nothing;
      }

      both : (i k : Journal) (xs ys : List (Demanded P I)) → Extends path j i xs →
          Joins path j (merge a i) keys k ys → Joins path j a (key ∷ keys) k (xs ++ (ys ++ []))
      both i k xs ys x y = record {
        grows = λ s h. y.grows s (has-merge_left s a i h);
        fresh = λ r m p. elim (made-parts xs (ys ++ []) r m p) [
          | inl q ↦
              let u = x.fresh r m q in
              (u.0, y.grows (end_of r) (has-merge_right (end_of r) a i u.1), u.2)
          | inr q ↦ elim (made-parts ys [] r m q) [
            | inl g ↦ y.fresh r m g
            | inr g ↦ absurd g.2.1
          ]
        ];
        once = λ l s.
            let e : built_runs (ys ++ []) ≡ [] =
            built_runs-append ys [] ∙ ap (λ zs. zs ++ []) (y.nothing (none (length keys) l)) in
            subst AreDistinct (sym (built_runs-append xs (ys ++ []))) (distinct-append
            (built_runs xs) (built_runs (ys ++ [])) (x.once (single-left xs (ys ++ []) s))
            (subst AreDistinct (sym e) tt)
            (λ r p q. let z : In r [] = subst (λ zs. In r zs) e q in z));
        nothing = λ e. absurd (some (length keys) e);
      }
        where
          none : (n : ℕ) → suc n ≤ 1 → n ≡ 0
          none n h = omega arith

          some : (n : ℕ) → suc n ≡ 0 → ⊥
          some n h = omega arith

  body-extends : (ask : Ask) (path : List RunId) → Fine ask path
      → (r : RunId) (b : Body I A) (j : Journal) (so_far : SoFar I)
      → GivesSo (body w (ask path) r b j so_far) (Extends path j)
  body-extends ask path f r (makes outcome) j so_far = so
      (recorded outcome so_far.segments, so_far.tools) j [] (Extends path j) (nothing-new path j)
  body-extends ask path f r (does p go) j so_far = λ x h.
      one-after path j (add j (acted r (length so_far.segments) p)) x.journal [] x.demand
      (has-acted path j (acted r (length so_far.segments) p))
      (body-extends ask path f r (go (add j (acted r (length so_far.segments) p)))
      (add j (acted r (length so_far.segments) p)) (with_act so_far p) x h)
  body-extends ask path f r (uses name input go) j so_far = body-extends ask path f r
      (go (w.tools name input)) j (with_tool so_far name input)
  body-extends ask path f r (calls key keys go) j so_far =
      follows (containing (together (key ∷ keys)) (at_once w (ask path) j j (key ∷ keys)))
      (λ results next. body w (ask path) r (go results next) next
      (with_calls so_far (key ∷ keys) results))
      (Extends path j) (Extends path j)
      (contains (together (key ∷ keys)) (at_once w (ask path) j j (key ∷ keys))
      (Joins path j j (key ∷ keys)) (Extends path j) (at_once-joins ask path f j j (key ∷ keys))
      (λ k xs y. first k xs y))
      (λ results i xs x y h. one-after path j i y.journal xs y.demand x
      (body-extends ask path f r (go results i) i (with_calls so_far (key ∷ keys) results) y h))
    where
      first : (k : Journal) (xs : List (Demanded P I)) → Joins path j j (key ∷ keys) k xs →
          Extends path j k (together (key ∷ keys) ∷ xs)
      first k xs y = record {
        grows = y.grows;
        fresh = λ r m x. elim x.2.1 [
          | inl p ↦ absurd (cc)
          | inr p ↦ y.fresh r m (x.0, x.1, (x.2.0, p))
        ];
        once = λ s. y.once (s (key ∷ keys) (inl refl)) (λ ks i. s ks (inr i));
      }

  walk-extends : (ask : Ask) (path : List RunId) → ((r : RunId) → Fine ask (r ∷ path)) →
      (x : Walk P I A) (j : Journal) (runs : List RunId) → GivesSo (walk w ask path x j runs)
      (Extends path j)
  walk-extends ask path f (gives reply) j runs = so (result_of reply runs) j [] (Extends path j)
      (nothing-new path j)
  walk-extends ask path f (wants site r b go) j runs =
      g (record_of j r) refl (is_in r path) refl (λ m k. walk-extends ask path f (go m k) k
      (runs ++ r ∷ []))
    where
      g : (o : Option Record) → record_of j r ≡ o → (p : Bool) → is_in r path ≡ p
          → ((m : Record) (k : Journal)
          → GivesSo (walk w ask path (go m k) k (runs ++ r ∷ [])) (Extends path k)) →
          GivesSo (wanted w o p (body w (ask (r ∷ path)) r b j nothing_yet) site r j
          (λ m k. walk w ask path (go m k) k (runs ++ r ∷ []))) (Extends path j)
      g (Some m) e p t ih = ih m j
      g None e true t ih = λ x h. absurd (cc)
      g None e false t ih =
          follows (body w (ask (r ∷ path)) r b j nothing_yet)
          (made_then w site r j (λ m k. walk w ask path (go m k) k (runs ++ r ∷ [])))
          (Extends (r ∷ path) j) (Extends path j)
          (body-extends ask (r ∷ path) (f r) r b j nothing_yet)
          (λ m i xs x. contains (built site r j m.0 m.1)
          (walk w ask path (go m.0 (add i (ended r m.0))) (add i (ended r m.0)) (runs ++ r ∷ []))
          (Extends path (add i (ended r m.0))) (λ k ys. Extends path j k (xs ++ ys))
          (ih m.0 (add i (ended r m.0)))
          (λ k ys y. subst (λ zs. Extends path j k zs)
          (append_assoc xs (built site r j m.0 m.1 ∷ []) ys)
          (one-after path j (add i (ended r m.0)) k (xs ++ built site r j m.0 m.1 ∷ []) ys
          (body-then path j i site r m.0 m.1 xs x (had-none j r e) (λ q. clash (is_in r path)
          (is_in-true r path q) t)) y)))

  request-extends : (d : ℕ) (path : List RunId) → Fine (request w d) path
  request-extends zero path j key = λ x h. absurd (cc)
  request-extends (suc d) path j key =
      contains (requested key) (walk w (request w d) path (w.walks key j) j []) (Extends path j)
      (Extends path j)
      (walk-extends (request w d) path (λ r. request-extends d (r ∷ path)) (w.walks key j) j [])
      (λ k xs x. asked-first path j k key xs x)

  pub meaning-extends : (out : Given P I RequestResult) → meaning w ≡ Some out →
      Extends [] [] out.journal out.demand
  meaning-extends out h = request-extends deepest [] [] w.root out h

  -- a single world is steady
  pub single_is_steady : (out : Given P I RequestResult) → meaning w ≡ Some out →
      IsSingle out.demand → IsSteady out.demand
  single_is_steady out h s r m n x y =
      (made-once out.demand ((meaning-extends out h).once s) x.0 y.0 r x.1 y.1 m n x.2.0 y.2.0 x.2.1
      y.2.1).0
