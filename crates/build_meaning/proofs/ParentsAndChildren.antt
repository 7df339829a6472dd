-- Requests and their children, apart from what they do: who called whom, who is over, which body
-- each is in, and which run it waits for.
use Rattle.std.proofs.Common.{
  ◌≡◌,
  ℕ,
  zero,
  suc,
  ◌+◌,
  ◌<◌,
  ◌≤◌,
  ◌==◌,
  ◌⊎◌,
  inl,
  inr,
  List,
  Option,
  None,
  Some,
  refl,
  ap,
  sym,
  ◌∙◌,
  subst,
  arith,
}
use Rattle.std.proofs.lemmas.Bool.{eqb-true, eq-eqb}
use Rattle.msb_laws.specs.Asking.{and_then}
use Rattle.result_cache.specs.declared.run.RunId.{RunId}
use Rattle.result_cache.specs.declared.request.RequestResult.{RequestResult}
use Rattle.result_cache.specs.Lists.{In}
use Rattle.result_cache.proofs.RunTests.{clash, tells}
use Rattle.build_meaning.proofs.RunPaths.{Path, last_one, step_on, path-join}

pub record Kin : Type 0 where
  pub parent : Option ℕ
  pub calls : Option (List ℕ)
  pub reply : Option RequestResult
  pub inside : Option RunId
  pub waits : Option RunId

-- by number
abbrev pub Kins : Type 0
Kins = ℕ → Option Kin

abbrev pub told_at : Kins → ℕ → Option RequestResult
told_at f id = and_then (f id) (λ k. k.reply)

-- a run needs another: a request in its body calls, and a child is in the other's body or waits for
-- it
pub record NeedOf (f : Kins) (r t : RunId) : Type 0 where
  pub caller : ℕ
  pub kin : Kin
  pub ids : List ℕ
  pub at_caller : f caller ≡ Some kin
  pub calls_so : kin.calls ≡ Some ids
  pub in_run : kin.inside ≡ Some r
  pub child_id : ℕ
  pub child_in : In child_id ids
  pub child : Kin
  pub at_child : f child_id ≡ Some child
  pub holds : (child.inside ≡ Some t) ⊎ (child.waits ≡ Some t)

pub record Family (f : Kins) : Type 0 where
  -- an open child is among the calls of its parent
  pub up : (id : ℕ) (k : Kin) → f id ≡ Some k → k.reply ≡ None → (p : ℕ) → k.parent ≡ Some p
      → (q : Kin) × (ids : List ℕ) × (f p ≡ Some q) × (q.calls ≡ Some ids) × In id ids
  -- and a call has its children, made after it
  pub down : (p : ℕ) (q : Kin) (ids : List ℕ) → f p ≡ Some q → q.calls ≡ Some ids → (id : ℕ)
      → In id ids → (k : Kin) × (f id ≡ Some k) × (k.parent ≡ Some p) × (p < id)
  -- of which one is open
  pub one_open : (p : ℕ) (q : Kin) (ids : List ℕ) → f p ≡ Some q → q.calls ≡ Some ids
      → (id : ℕ) × In id ids × (told_at f id ≡ None)
  -- and is in a body, and not over
  pub busy : (p : ℕ) (q : Kin) (ids : List ℕ) → f p ≡ Some q → q.calls ≡ Some ids
      → (q.reply ≡ None) × ((r : RunId) × (q.inside ≡ Some r)) × (q.waits ≡ None)

-- open runs are in a body, and none needs itself
pub record Free (f : Kins) (O : RunId → Type 0) : Type 0 where
  pub working : (r : RunId) → O r → (id : ℕ) × (k : Kin) × (f id ≡ Some k) × (k.inside ≡ Some r)
  pub acyclic : (r : RunId) → Path (NeedOf f) r r → ⊥

pub same_some : {X : Type 0} (o : Option X) (x y : X) → o ≡ Some x → o ≡ Some y → x ≡ y
same_some o x y h g = let e : Some x ≡ Some y = sym h ∙ g in cc

pub none_some : {X : Type 0} {C : Type 0} (o : Option X) (x : X) → o ≡ Some x → o ≡ None → C
none_some o x h g = let e : Some x ≡ None = sym h ∙ g in absurd (cc)

pub same_or_not : (m n : ℕ) → (m ≡ n) ⊎ (m ≡ n → ⊥)
same_or_not m n = elim (tells (m == n))
    [ inl h ↦ inl (eqb-true m n h) | inr h ↦ inr (λ e. clash (m == n) (eq-eqb m n e) h) ]

-- one place changes
pub record PutAt (f g : Kins) (id : ℕ) (old new : Kin) : Type 0 where
  pub was : f id ≡ Some old
  pub is : g id ≡ Some new
  pub others : (n : ℕ) → (n ≡ id → ⊥) → g n ≡ f n

pub put-cases : {f g : Kins} {id : ℕ} {old new : Kin} → PutAt f g id old new → (n : ℕ) (k : Kin)
    → g n ≡ Some k → ((n ≡ id) × (k ≡ new)) ⊎ ((n ≡ id → ⊥) × (f n ≡ Some k))
put-cases {f} {g} {id} {old} {new} p n k h = elim (same_or_not n id) [
  | inl e ↦ inl (e, same_some (g n) k new h (subst (λ m. g m ≡ Some new) (sym e) p.is))
  | inr e ↦ inr (e, sym (p.others n e) ∙ h)
]

pub put-forward : {f g : Kins} {id : ℕ} {old new : Kin} → PutAt f g id old new → (n : ℕ) (k : Kin)
    → f n ≡ Some k → ((n ≡ id) × (k ≡ old) × (g n ≡ Some new)) ⊎ ((n ≡ id → ⊥) × (g n ≡ Some k))
put-forward {f} {g} {id} {old} {new} p n k h = elim (same_or_not n id) [
  | inl e ↦ inl (
    e,
    same_some (f n) k old h (subst (λ m. f m ≡ Some old) (sym e) p.was),
    subst
        (λ m. g m ≡ Some new) (sym e) p.is,
  )
  | inr e ↦ inr (e, p.others n e ∙ h)
]

-- each place stays tied as it was
pub record SameTies (a b : Kin) : Type 0 where
  pub parent : b.parent ≡ a.parent
  pub calls : b.calls ≡ a.calls
  pub reply : b.reply ≡ a.reply
  pub when_calling : (ids : List ℕ) → a.calls ≡ Some ids
      → (b.inside ≡ a.inside) × (b.waits ≡ a.waits)

pub record Tied (f g : Kins) : Type 0 where
  pub forward : (n : ℕ) (a : Kin) → f n ≡ Some a → (b : Kin) × (g n ≡ Some b) × SameTies a b
  pub back : (n : ℕ) (b : Kin) → g n ≡ Some b → (a : Kin) × (f n ≡ Some a) × SameTies a b

pub told-some : (f : Kins) (n : ℕ) (k : Kin) → f n ≡ Some k → told_at f n ≡ k.reply
told-some f n k h = ap (λ o. and_then o (λ (k : Kin). k.reply)) h

pub tied-family : {f g : Kins} → Tied f g → Family f → Family g
tied-family {f} {g} t v = record {
  up = λ id b h reply p par.
      let x = t.back id b h in
      let y = v.up id x.0 x.1 (sym x.2.reply ∙ reply) p (sym x.2.parent ∙ par) in
      let z = t.forward p y.0 y.2 in
      (z.0, y.1, z.1, z.2.calls ∙ y.3, y.4);
  down = λ p b ids h c id i.
      let x = t.back p b h in
      let y = v.down p x.0 ids x.1 (sym x.2.calls ∙ c) id i in
      let z = t.forward id y.0 y.1 in
      (z.0, z.1, z.2.parent ∙ y.2, y.3);
  one_open = λ p b ids h c.
      let x = t.back p b h in
      let y = v.one_open p x.0 ids x.1 (sym x.2.calls ∙ c) in
      let k = v.down p x.0 ids x.1 (sym x.2.calls ∙ c) y.0 y.1 in
      let z = t.forward y.0 k.0 k.1 in
      (y.0, y.1, told-some g y.0 z.0 z.1 ∙ (z.2.reply ∙ (sym (told-some f y.0 k.0 k.1) ∙ y.2)));
  busy = λ p b ids h c.
      let x = t.back p b h in
      let e : x.0.calls ≡ Some ids = sym x.2.calls ∙ c in
      let y = v.busy p x.0 ids x.1 e in
      let s = x.2.when_calling ids e in
      (x.2.reply ∙ y.0, (y.1.0, s.0 ∙ y.1.1), s.1 ∙ y.2);
}

-- no more is held than before
pub fewer-needs : {f g : Kins}
    → ((n : ℕ) (b : Kin) → g n ≡ Some b → (a : Kin) × (f n ≡ Some a)
    × ((ids : List ℕ) → b.calls ≡ Some ids → (a.calls ≡ Some ids) × (b.inside ≡ a.inside))
    × ((t : RunId) → (b.inside ≡ Some t) ⊎ (b.waits ≡ Some t)
    → (a.inside ≡ Some t) ⊎ (a.waits ≡ Some t))) →
    (r t : RunId) → NeedOf g r t → NeedOf f r t
fewer-needs h r t n =
    let x = h n.caller n.kin n.at_caller in
    let c = x.2 n.ids n.calls_so in
    let y = h n.child_id n.child n.at_child in
    record {
      caller = n.caller;
      kin = x.0;
      ids = n.ids;
      at_caller = x.1;
      calls_so = c.0;
      in_run = sym c.1 ∙ n.in_run;
      child_id = n.child_id;
      child_in = n.child_in;
      child = y.0;
      at_child = y.1;
      holds = y.3 t n.holds;
    }

-- a run is held by one more request, which calls nothing; it is one that needs nothing, or does not
-- need itself then
pub new-hold : {f g : Kins} (id : ℕ) (old new : Kin) (r : RunId) → PutAt f g id old new
    → new.calls ≡ None → ((t : RunId) → (new.inside ≡ Some t) ⊎ (new.waits ≡ Some t) → r ≡ t) →
    (s t : RunId) → NeedOf g s t → NeedOf f s t ⊎ (r ≡ t)
new-hold {f} {g} id old new r p c h s t n = elim (put-cases p n.caller n.kin n.at_caller) [
  | inl x ↦ none_some n.kin.calls n.ids n.calls_so (ap (λ (k : Kin). k.calls) x.1 ∙ c)
  | inr x ↦ elim (put-cases p n.child_id n.child n.at_child) [
    | inl y ↦ inr (h t (subst (λ (k : Kin). (k.inside ≡ Some t) ⊎ (k.waits ≡ Some t)) y.1 n.holds))
    | inr y ↦ inl (record {
      caller = n.caller;
      kin = n.kin;
      ids = n.ids;
      at_caller = x.1;
      calls_so = n.calls_so;
      in_run = n.in_run;
      child_id = n.child_id;
      child_in = n.child_in;
      child = n.child;
      at_child = y.1;
      holds = n.holds;
    })
  ]
]

-- a circle along new edges into r has one from r to r
pub circle-through : {N M : RunId → RunId → Type 0} (r : RunId)
    → ((s t : RunId) → N s t → M s t ⊎ (r ≡ t)) → {s t : RunId} → Path N s t
    → Path M s t ⊎ (Path N s r × ((r ≡ t) ⊎ Path N r t))
circle-through {N} {M} r f (last_one {r = s} {t = t} n) = elim (f s t n)
    [ inl m ↦ inl (last_one m) | inr e ↦ inr (subst (λ a. Path N s a) (sym e) (last_one n), inl e) ]
circle-through {N} {M} r f (step_on {r = s} {t = t} {u = u} n p) = elim (f s t n) [
  | inr e ↦ inr
      (subst (λ a. Path N s a) (sym e) (last_one n), inr (subst (λ a. Path N a u) (sym e) p))
  | inl m ↦ elim (circle-through r f p) [
    | inl q ↦ inl (step_on m q)
    | inr q ↦ inr (step_on n q.0, q.1)
  ]
]

pub round-through : {N M : RunId → RunId → Type 0} (r : RunId)
    → ((s t : RunId) → N s t → M s t ⊎ (r ≡ t)) → {s : RunId} → Path N s s → Path M s s ⊎ Path N r r
round-through {N} r f {s} p = elim (circle-through r f p) [
  | inl q ↦ inl q
  | inr q ↦ elim q.1 [
    | inl e ↦ inr (subst (λ a. Path N a r) (sym e) q.0)
    | inr g ↦ inr (path-join g q.0)
  ]
]

-- a request is over, and its caller may be open still
module _ {f g : Kins} (id : ℕ) (old new : Kin) (p : PutAt f g id old new) (c : old.calls ≡ None)
    (n : old.reply ≡ None) (par : new.parent ≡ old.parent) (nc : new.calls ≡ None)
    (res : RequestResult) (t : new.reply ≡ Some res) (v : Family f) where
  not-caller : (m : ℕ) (k : Kin) (ids : List ℕ) → f m ≡ Some k → k.calls ≡ Some ids → (m ≡ id → ⊥)
  not-caller m k ids h e q = none_some k.calls ids e
      (ap (λ (a : Kin). a.calls)
      (same_some (f m) k old h (subst (λ b. f b ≡ Some old) (sym q) p.was)) ∙ c)

  done-up : (m : ℕ) (k : Kin) → g m ≡ Some k → k.reply ≡ None → (a : ℕ) → k.parent ≡ Some a
      → (q : Kin) × (ids : List ℕ) × (g a ≡ Some q) × (q.calls ≡ Some ids) × In m ids
  done-up m k h e a i = elim (put-cases p m k h) [
    | inl x ↦ none_some k.reply res (ap (λ (b : Kin). b.reply) x.1 ∙ t) e
    | inr x ↦ let y = v.up m k x.1 e a i in (
      y.0,
      y.1,
      p.others a (not-caller a y.0 y.1 y.2 y.3)
          ∙ y.2,
      y.3,
      y.4,
    )
  ]

  done-caller : (a : ℕ) (q : Kin) (ids : List ℕ) → g a ≡ Some q → q.calls ≡ Some ids → f a ≡ Some q
  done-caller a q ids h e = elim (put-cases p a q h) [
    | inl x ↦ none_some q.calls ids e (ap (λ (b : Kin). b.calls) x.1 ∙ nc)
    | inr x ↦ x.1
  ]

  done-down : (a : ℕ) (q : Kin) (ids : List ℕ) → g a ≡ Some q → q.calls ≡ Some ids → (m : ℕ)
      → In m ids → (k : Kin) × (g m ≡ Some k) × (k.parent ≡ Some a) × (a < m)
  done-down a q ids h e m i =
      let y = v.down a q ids (done-caller a q ids h e) e m i in
      elim (put-forward p m y.0 y.1) [
        | inl x ↦ (new, x.2, par ∙ (sym (ap (λ (b : Kin). b.parent) x.1) ∙ y.2), y.3)
        | inr x ↦ (y.0, x.1, y.2, y.3)
      ]

  -- the calls of others than its parent keep an open child
  done-open : (a : ℕ) (q : Kin) (ids : List ℕ) → g a ≡ Some q → q.calls ≡ Some ids
      → (old.parent ≡ Some a → ⊥) → (m : ℕ) × In m ids × (told_at g m ≡ None)
  done-open a q ids h e d =
      let y = v.one_open a q ids (done-caller a q ids h e) e in
      let z = v.down a q ids (done-caller a q ids h e) e y.0 y.1 in
      elim (same_or_not y.0 id) [
        | inl x ↦ absurd
            (d
            (sym
            (ap (λ (b : Kin). b.parent)
            (same_some (f y.0) z.0 old z.1 (subst (λ b. f b ≡ Some old) (sym x) p.was))) ∙ z.2))
        | inr x ↦ (y.0, y.1, ap (λ o. and_then o (λ (k : Kin). k.reply)) (p.others y.0 x) ∙ y.2)
      ]

  done-busy : (a : ℕ) (q : Kin) (ids : List ℕ) → g a ≡ Some q → q.calls ≡ Some ids
      → (q.reply ≡ None) × ((r : RunId) × (q.inside ≡ Some r)) × (q.waits ≡ None)
  done-busy a q ids h e = v.busy a q ids (done-caller a q ids h e) e

  -- it was no child, or its parent has another open child
  pub done-family : ((a : ℕ) → old.parent ≡ Some a
      → (q : Kin) × (ids : List ℕ) × (f a ≡ Some q) × (q.calls ≡ Some ids)
      × ((m : ℕ) × In m ids × (told_at g m ≡ None))) → Family g
  done-family o = record {
    up = done-up;
    down = done-down;
    busy = done-busy;
    one_open = λ a q ids h e. go a q ids h e old.parent refl;
  }
    where
      go : (a : ℕ) (q : Kin) (ids : List ℕ) → g a ≡ Some q → q.calls ≡ Some ids → (u : Option ℕ)
          → old.parent ≡ u → (m : ℕ) × In m ids × (told_at g m ≡ None)
      go a q ids h e None j = done-open a q ids h e (λ i. none_some old.parent a i j)
      go a q ids h e (Some b) j = elim (same_or_not a b) [
        | inr d ↦ done-open a q ids h e (λ i. d (same_some old.parent a b i j))
        | inl d ↦
            let y = o b j in
            let fq : f a ≡ Some q = done-caller a q ids h e in
            let k : q ≡ y.0 = same_some (f a) q y.0 fq (subst (λ x. f x ≡ Some y.0) (sym d) y.2) in
            let l : ids ≡ y.1 = same_some q.calls ids y.1 e (ap (λ (x : Kin). x.calls) k ∙ y.3) in
            (y.4.0, subst (λ xs. In y.4.0 xs) (sym l) y.4.1, y.4.2)
      ]

  -- or it was the last one, and its parent goes on
  module _ (h2 : Kins) (a : ℕ) (kin kin2 : Kin) (ids : List ℕ) (p2 : PutAt g h2 a kin kin2)
      (pa : old.parent ≡ Some a) (kc : kin.calls ≡ Some ids) (kp : kin2.parent ≡ kin.parent)
      (kc2 : kin2.calls ≡ None) (kt : kin2.reply ≡ None)
      (all : (m : ℕ) → In m ids → (r : RequestResult) × (told_at g m ≡ Some r)) where
    mine : (m : ℕ) (q : Kin) (js : List ℕ) → h2 m ≡ Some q → q.calls ≡ Some js
        → (m ≡ a → ⊥) × (g m ≡ Some q)
    mine m q js h e = elim (put-cases p2 m q h) [
      | inl x ↦ none_some q.calls js e (ap (λ (b : Kin). b.calls) x.1 ∙ kc2)
      | inr x ↦ x
    ]

    pub last-family : Family h2
    last-family = record {
      up = λ m k h e b i. elim (put-cases p2 m k h) [
        | inl x ↦
            let i2 : kin.parent ≡ Some b = sym kp ∙ (sym (ap (λ (y : Kin). y.parent) x.1) ∙ i) in
            let y = done-up a kin p2.was (done-busy a kin ids p2.was kc).0 b i2 in
            let z = done-down b y.0 y.1 y.2 y.3 a y.4 in (
              y.0,
              y.1,
              p2.others b (λ q. above b a z.3 q)
                  ∙ y.2,
              y.3,
              subst (λ u. In u y.1) (sym x.0) y.4,
            )
        | inr x ↦
            let y = done-up m k x.1 e b i in
            elim (same_or_not b a) [
              | inl q ↦
                  let ky : y.0 ≡ kin = same_some (g b) y.0 kin y.2
                  (subst (λ u. g u ≡ Some kin) (sym q) p2.was) in
                  let l : y.1 ≡ ids = same_some kin.calls y.1 ids
                  (sym (ap (λ (u : Kin). u.calls) ky) ∙ y.3) kc in
                  let r = all m (subst (λ u. In m u) l y.4) in
                  none_some (told_at g m) r.0 r.1 (told-some g m k x.1 ∙ e)
              | inr q ↦ (y.0, y.1, p2.others b q ∙ y.2, y.3, y.4)
            ]
      ];
      down = λ m q js h e id2 i.
          let x = mine m q js h e in
          let y = done-down m q js x.1 e id2 i in
          elim (put-forward p2 id2 y.0 y.1) [
            | inl z ↦ (kin2, z.2, kp ∙ (sym (ap (λ (u : Kin). u.parent) z.1) ∙ y.2), y.3)
            | inr z ↦ (y.0, z.1, y.2, y.3)
          ];
      one_open = λ m q js h e.
          let x = mine m q js h e in
          let y = done-open m q js x.1 e (λ j. x.0 (same_some old.parent m a j pa)) in
          elim (same_or_not y.0 a) [
            | inl z ↦ (
              y.0,
              y.1,
              subst (λ u. told_at h2 u ≡ None) (sym z)
                  (told-some h2 a kin2 p2.is ∙ kt),
            )
            | inr z ↦ (
              y.0,
              y.1,
              ap (λ o. and_then o (λ (k : Kin). k.reply)) (p2.others y.0 z)
                  ∙ y.2,
            )
          ];
      busy = λ m q js h e. let x = mine m q js h e in done-busy m q js x.1 e;
    }
      where
        above : (b a : ℕ) → b < a → b ≡ a → ⊥
        above b a h e = omega arith

-- a request calls: children are new, and begin with nothing
pub record Calls (f g : Kins) (id : ℕ) (old new : Kin) (ids : List ℕ) : Type 0 where
  pub was : f id ≡ Some old
  pub idle : (old.calls ≡ None) × (old.reply ≡ None) × (old.waits ≡ None)
  pub is : g id ≡ Some new
  pub parent : new.parent ≡ old.parent
  pub calls : new.calls ≡ Some ids
  pub busy : (new.reply ≡ None) × (new.inside ≡ old.inside) × (new.waits ≡ None)
  pub in_run : (r : RunId) × (old.inside ≡ Some r)
  pub olds : (n : ℕ) (k : Kin) → (n ≡ id → ⊥) → f n ≡ Some k → g n ≡ Some k
  pub cases : (n : ℕ) (k : Kin) → g n ≡ Some k
      → (n ≡ id) ⊎ (((n ≡ id → ⊥) × (f n ≡ Some k)) ⊎ In n ids)
  pub kids : (n : ℕ) → In n ids → (k : Kin) × (g n ≡ Some k) × (k.parent ≡ Some id)
      × (k.calls ≡ None) × (k.reply ≡ None) × (k.inside ≡ None) × (k.waits ≡ None) × (id < n)
  pub first : (n : ℕ) × In n ids

module _ {f g : Kins} (id : ℕ) (old new : Kin) (ids : List ℕ) (c : Calls f g id old new ids)
    (v : Family f) where
  old-caller : (m : ℕ) (k : Kin) (js : List ℕ) → f m ≡ Some k → k.calls ≡ Some js → (m ≡ id → ⊥)
  old-caller m k js h e q = none_some k.calls js e
      (ap (λ (a : Kin). a.calls)
      (same_some (f m) k old h (subst (λ b. f b ≡ Some old) (sym q) c.was)) ∙ c.idle.0)

  -- who calls after it
  callers : (m : ℕ) (q : Kin) (js : List ℕ) → g m ≡ Some q → q.calls ≡ Some js
      → ((m ≡ id) × (q ≡ new) × (js ≡ ids)) ⊎ ((m ≡ id → ⊥) × (f m ≡ Some q))
  callers m q js h e = elim (c.cases m q h) [
    | inl x ↦
        let k : q ≡ new = same_some (g m) q new h (subst (λ b. g b ≡ Some new) (sym x) c.is) in
        inl (x, k, same_some q.calls js ids e (ap (λ (a : Kin). a.calls) k ∙ c.calls))
    | inr y ↦ elim y [
      | inl x ↦ inr x
      | inr i ↦ let k = c.kids m i in none_some q.calls js e
          (ap (λ (a : Kin). a.calls) (same_some (g m) q k.0 h k.1) ∙ k.3)
    ]
  ]

  told-new : (m : ℕ) (k : Kin) → f m ≡ Some k → told_at f m ≡ None → told_at g m ≡ None
  told-new m k h e = elim (same_or_not m id) [
    | inl q ↦ subst (λ b. told_at g b ≡ None) (sym q) (told-some g id new c.is ∙ c.busy.0)
    | inr q ↦ told-some g m k (c.olds m k q h) ∙ (sym (told-some f m k h) ∙ e)
  ]

  pub calls-family : Family g
  calls-family = record {
    up = λ m k h e p i. elim (c.cases m k h) [
      | inl x ↦
          let kn : k ≡ new = same_some (g m) k new h (subst (λ b. g b ≡ Some new) (sym x) c.is) in
          let y = v.up id old c.was c.idle.1 p
          (sym c.parent ∙ (sym (ap (λ (a : Kin). a.parent) kn) ∙ i)) in (
            y.0,
            y.1,
            c.olds p y.0 (old-caller p y.0 y.1 y.2 y.3) y.2,
            y.3,
            subst (λ b. In b y.1)
                (sym x) y.4,
          )
      | inr z ↦ elim z [
        | inl x ↦ let y = v.up m k x.1 e p i
            in (y.0, y.1, c.olds p y.0 (old-caller p y.0 y.1 y.2 y.3) y.2, y.3, y.4)
        | inr j ↦
            let y = c.kids m j in
            let q : p ≡ id = same_some k.parent p id i
            (ap (λ (a : Kin). a.parent) (same_some (g m) k y.0 h y.1) ∙ y.2) in
            (new, ids, subst (λ b. g b ≡ Some new) (sym q) c.is, c.calls, j)
      ]
    ];
    down = λ p q js h e m i. elim (callers p q js h e) [
      | inl x ↦ let y = c.kids m (subst (λ u. In m u) x.2 i)
          in (y.0, y.1, y.2 ∙ ap Some (sym x.0), subst (λ b. b < m) (sym x.0) y.7)
      | inr x ↦
          let y = v.down p q js x.1 e m i in
          elim (same_or_not m id) [
            | inl z ↦ (
              new,
              subst (λ b. g b ≡ Some new) (sym z) c.is,
              c.parent
                  ∙ (sym
                  (ap (λ (a : Kin). a.parent)
                  (same_some (f m) y.0 old y.1 (subst (λ b. f b ≡ Some old) (sym z) c.was))) ∙ y.2),
              y.3,
            )
            | inr z ↦ (y.0, c.olds m y.0 z y.1, y.2, y.3)
          ]
    ];
    one_open = λ p q js h e. elim (callers p q js h e) [
      | inl x ↦ let y = c.kids c.first.0 c.first.1
          in (
            c.first.0,
            subst (λ u. In c.first.0 u) (sym x.2) c.first.1,
            told-some g c.first.0 y.0
                y.1 ∙ y.4,
          )
      | inr x ↦ let y = v.one_open p q js x.1 e in let z = v.down p q js x.1 e y.0 y.1
          in (y.0, y.1, told-new y.0 z.0 z.1 y.2)
    ];
    busy = λ p q js h e. elim (callers p q js h e) [
      | inl x ↦ subst (λ (k : Kin). (k.reply ≡ None) × ((r : RunId) × (k.inside ≡ Some r))
          × (k.waits ≡ None)) (sym x.1) (c.busy.0, (c.in_run.0, c.busy.1 ∙ c.in_run.1), c.busy.2)
      | inr x ↦ v.busy p q js x.1 e
    ];
  }

  -- nothing is needed that was not
  pub calls-needs : (r t : RunId) → NeedOf g r t → NeedOf f r t
  calls-needs r t n = elim (callers n.caller n.kin n.ids n.at_caller n.calls_so) [
    | inl x ↦
        let y = c.kids n.child_id (subst (λ u. In n.child_id u) x.2 n.child_in) in
        let k : n.child ≡ y.0 = same_some (g n.child_id) n.child y.0 n.at_child y.1 in
        elim n.holds [
          | inl h ↦ none_some n.child.inside t h (ap (λ (a : Kin). a.inside) k ∙ y.5)
          | inr h ↦ none_some n.child.waits t h (ap (λ (a : Kin). a.waits) k ∙ y.6)
        ]
    | inr x ↦
        let y = v.down n.caller n.kin n.ids x.1 n.calls_so n.child_id n.child_in in
        elim (same_or_not n.child_id id) [
          | inl z ↦
              let k : n.child ≡ new = same_some (g n.child_id) n.child new n.at_child
              (subst (λ b. g b ≡ Some new) (sym z) c.is) in
              record {
                caller = n.caller;
                kin = n.kin;
                ids = n.ids;
                at_caller = x.1;
                calls_so = n.calls_so;
                in_run = n.in_run;
                child_id = n.child_id;
                child_in = n.child_in;
                child = old;
                at_child = subst (λ b. f b ≡ Some old) (sym z) c.was;
                holds = elim n.holds [
                  | inl h ↦ inl (sym c.busy.1 ∙ (sym (ap (λ (a : Kin). a.inside) k) ∙ h))
                  | inr h ↦ none_some n.child.waits t h (ap (λ (a : Kin). a.waits) k ∙ c.busy.2)
                ];
              }
          | inr z ↦
              let k : n.child ≡ y.0 = same_some (g n.child_id) n.child y.0 n.at_child
              (c.olds n.child_id y.0 z y.1) in
              record {
                caller = n.caller;
                kin = n.kin;
                ids = n.ids;
                at_caller = x.1;
                calls_so = n.calls_so;
                in_run = n.in_run;
                child_id = n.child_id;
                child_in = n.child_in;
                child = y.0;
                at_child = y.1;
                holds = subst (λ (a : Kin). (a.inside ≡ Some t) ⊎ (a.waits ≡ Some t)) k n.holds;
              }
        ]
  ]

-- where a caller is, some request below it is not calling and not over
module _ (f : Kins) (most : ℕ) (less : (n : ℕ) (k : Kin) → f n ≡ Some k → n < most) (v : Family f)
  where
    pub idle-below : (room id : ℕ) → most ≤ id + room → (k : Kin) → f id ≡ Some k → k.reply ≡ None
        → (n : ℕ) × (a : Kin) × (f n ≡ Some a) × (a.reply ≡ None) × (a.calls ≡ None)
    idle-below zero id h k e t = absurd (out id most (less id k e) h)
      where
        out : (id most : ℕ) → id < most → most ≤ id + 0 → ⊥
        out id most g h = omega arith
    idle-below (suc room) id h k e t = go k.calls refl
        (λ m b g q i. idle-below room m (more id m room most g h) b q i)
      where
        more : (id m room most : ℕ) → id < m → most ≤ id + suc room → most ≤ m + room
        more id m room most g h = omega arith

        go : (c : Option (List ℕ)) → k.calls ≡ c
            → ((m : ℕ) (b : Kin) → id < m → f m ≡ Some b → b.reply ≡ None
            → (n : ℕ) × (a : Kin) × (f n ≡ Some a) × (a.reply ≡ None) × (a.calls ≡ None)) →
            (n : ℕ) × (a : Kin) × (f n ≡ Some a) × (a.reply ≡ None) × (a.calls ≡ None)
        go None c ih = (id, k, e, t, c)
        go (Some ids) c ih =
            let y = v.one_open id k ids e c in
            let z = v.down id k ids e c y.0 y.1 in
            ih y.0 z.0 z.3 z.1 (sym (told-some f y.0 z.0 z.1) ∙ y.2)

    -- where everything that is not over calls or waits, an open run needs an open run
    pub open-needs : (O : RunId → Type 0) → Free f O
        → ((n : ℕ) (k : Kin) → f n ≡ Some k → k.reply ≡ None → k.calls ≡ None
        → (t : RunId) × (k.waits ≡ Some t)) →
        ((n : ℕ) (k : Kin) (t : RunId) → f n ≡ Some k → (k.inside ≡ Some t) ⊎ (k.waits ≡ Some t)
        → O t × (k.reply ≡ None)) →
        ((n : ℕ) (k : Kin) (r t : RunId) → f n ≡ Some k → k.inside ≡ Some r → k.waits ≡ Some t → ⊥)
        → (r : RunId) → O r → (t : RunId) × NeedOf f r t × O t
    open-needs O w stuck held apart r o =
        let x = w.working r o in
        caller x.0 x.1 x.2 x.3 x.1.calls refl
      where
        child : (p : ℕ) (q : Kin) (ids : List ℕ) → f p ≡ Some q → q.calls ≡ Some ids
            → q.inside ≡ Some r → (m : ℕ) → In m ids → (k : Kin) → f m ≡ Some k → k.reply ≡ None
            → (c : Option (List ℕ)) → k.calls ≡ c → (t : RunId) × NeedOf f r t × O t
        child p q ids a b i m j k e t None c =
            let y = stuck m k e t c in (
              y.0,
              record {
                caller = p;
                kin = q;
                ids = ids;
                at_caller = a;
                calls_so = b;
                in_run = i;
                child_id =
                    m;
                child_in = j;
                child = k;
                at_child = e;
                holds = inr y.1;
              },
              (held m k y.0 e (inr y.1)).0,
            )
        child p q ids a b i m j k e t (Some js) c =
            let y = (v.busy m k js e c).1 in (
              y.0,
              record {
                caller = p;
                kin = q;
                ids = ids;
                at_caller = a;
                calls_so = b;
                in_run = i;
                child_id =
                    m;
                child_in = j;
                child = k;
                at_child = e;
                holds = inl y.1;
              },
              (held m k y.0 e (inl y.1)).0,
            )

        caller : (p : ℕ) (q : Kin) → f p ≡ Some q → q.inside ≡ Some r → (c : Option (List ℕ))
            → q.calls ≡ c → (t : RunId) × NeedOf f r t × O t
        caller p q a i (Some ids) c =
            let y = v.one_open p q ids a c in
            let z = v.down p q ids a c y.0 y.1 in
            child p q ids a c i y.0 y.1 z.0 z.1 (sym (told-some f y.0 z.0 z.1) ∙ y.2) z.0.calls refl
        caller p q a i None c = let y = stuck p q a (held p q r a (inl i)).1 c in absurd
            (apart p q r y.0 a i y.1)
