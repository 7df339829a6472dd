-- Requests are nested one in another, and none too deep.
use Rattle.std.proofs.Common.{
  ◌≡◌,
  ◌≤◌,
  ◌<◌,
  ◌+◌,
  ◌⊎◌,
  inl,
  inr,
  ℕ,
  zero,
  suc,
  List,
  [],
  ◌∷◌,
  ◌++◌,
  length,
  map,
  Option,
  None,
  Some,
  refl,
  ap,
  sym,
  ◌∙◌,
  subst,
  arith,
}
use Rattle.std.proofs.Math.Bridge.{le_prop}
use Rattle.std.proofs.Math.Logic.{∥∥₁_elim}
use Rattle.std.proofs.lemmas.List.{length-append}
use Rattle.result_cache.specs.declared.request.RequestKey.{RequestKey}
use Rattle.build_meaning.specs.Lists.{at}
use Rattle.build_meaning.specs.Meaning.{deepest}
use Rattle.build_meaning.specs.State.{RequestState}
use Rattle.build_meaning.proofs.ListPlaces.{at-append, at-front, at-less, at-map}
use Rattle.build_meaning.proofs.ParentsAndChildren.{same_some}
use Rattle.build_scheduler.specs.declared.slot.Origin.{Origin}
use Rattle.build_scheduler.specs.Chain.{LeadsUp, IsFurther, IsThere, AreUpward, AreKeysDown}
use Rattle.build_scheduler.specs.Children.{HasDepth, child_origin}
use Rattle.build_scheduler.specs.Requests.{AreKeysUp}
use Rattle.build_scheduler.specs.Shown.{IsNested, AreNested}
use Rattle.build_scheduler.specs.Slots.{origin_of}

-- the root alone
pub nested-root : (key : RequestKey) {origins : List Origin}
    → origins ≡ record { key = key; parent = None; depth = 0 } ∷ [] → AreNested origins
unfolding deepest
nested-root key e = subst AreNested (sym e) root
  where
    root : AreNested (record { key = key; parent = None; depth = 0 } ∷ [])
    root zero o h = let q : record { key = key; parent = None; depth = 0 }
        ≡ o = cc in subst (λ (o : Origin). (o.depth < deepest)
        × IsNested (record { key = key; parent = None; depth = 0 } ∷ []) o.depth o.parent) q
        (omega arith, refl)
    root (suc n) o h = absurd (cc)

-- the calls of one of them, nested one more
pub nested-append : (origins : List Origin) (id depth : ℕ) (calls : List RequestKey)
    → HasDepth (at origins id) depth → suc depth < deepest → AreNested origins
    → AreNested (origins ++ map (child_origin id (suc depth)) calls)
nested-append origins id depth calls d deep v n o e = elim
    (at-append origins (map (child_origin id (suc depth)) calls) n o e) [
      | inl h ↦ let y = v n o h in (y.0, kept o.depth o.parent y.1)
      | inr h ↦
          let c = at-map (child_origin id (suc depth)) calls h.0 o h.1 in
          subst (λ (q : Origin). (q.depth < deepest)
          × IsNested (origins ++ map (child_origin id (suc depth)) calls) q.depth q.parent) c.2
          (deep, there (at origins id) refl d)
    ]
  where
    kept : (dep : ℕ) (p : Option ℕ) → IsNested origins dep p
        → IsNested (origins ++ map (child_origin id (suc depth)) calls) dep p
    kept dep None h = h
    kept dep (Some caller) h =
        (h.0, at-front origins (map (child_origin id (suc depth)) calls) caller h.0 h.1, h.2)

    there : (q : Option Origin) → at origins id ≡ q → HasDepth q depth
        → IsNested (origins ++ map (child_origin id (suc depth)) calls) (suc depth) (Some id)
    there None q d = absurd d
    there (Some by) q d =
        (by, at-front origins (map (child_origin id (suc depth)) calls) id by q, ap suc (sym d))

-- one more key up
pub leads-on : (origins : List Origin) (from : Option ℕ) (keys : List RequestKey) (id : ℕ)
    (origin : Origin) → LeadsUp origins from keys (Some id) → at origins id ≡ Some origin
    → LeadsUp origins from (keys ++ origin.key ∷ []) origin.parent
leads-on origins None [] id origin h e = absurd (cc)
leads-on origins (Some n) [] id origin h e = let p : n
    ≡ id = cc in (origin, ap (at origins) p ∙ e, refl, refl)
leads-on origins None (key ∷ keys) id origin h e = absurd h
leads-on origins (Some n) (key ∷ keys) id origin h e =
    (h.0, h.1, h.2, leads-on origins h.0.parent keys id origin h.3 e)

there-prop : (origins : List Origin) (next : Option ℕ) → IsProp (IsThere origins next)
there-prop origins None = λ p q. refl
there-prop origins (Some id) = λ p q. le_prop p q

nested-there : (origins : List Origin) (depth : ℕ) (parent : Option ℕ)
    → IsNested origins depth parent → IsThere origins parent
nested-there origins depth None h = tt
nested-there origins depth (Some caller) h = at-less origins caller h.0 h.1

-- one step further up
pub further-up : (origins : List Origin) (id : ℕ) (old new : List RequestKey) (from next : Option ℕ)
    (level : ℕ) → ∥ AreNested origins ∥₁ → LeadsUp origins (Some id) old from
    → (from ≡ None) ⊎ (length old ≡ level) → IsFurther origins old new from next →
    LeadsUp origins (Some id) new next × ((next ≡ None) ⊎ (length new ≡ level + 1))
    × IsThere origins next
further-up origins id old new None next level v a w h = (
  subst (LeadsUp origins (Some id) new) (sym h.1)
      (subst (λ ks. LeadsUp origins (Some id) ks None) (sym h.0) a),
  inl h.1,
  subst
      (IsThere origins) (sym h.1) tt,
)
further-up origins id old new (Some n) next level v a w h = (
  subst (LeadsUp origins (Some id) new) (sym h.3)
      (subst (λ ks. LeadsUp origins (Some id) ks h.0.parent) (sym h.2)
      (leads-on origins (Some id) old n h.0 a h.1)),
  elim w [
    | inl e ↦ absurd (cc)
    | inr e ↦ inr
        (let k : length new ≡ length (old ++ h.0.key ∷ []) = ap length h.2 in let m : length
        (old ++ h.0.key ∷ []) ≡ length old + 1 = length-append old (h.0.key ∷ []) in omega arith)
  ],
  subst (IsThere origins) (sym h.3)
      (∥∥₁_elim v (there-prop origins h.0.parent)
      (λ v. nested-there origins h.0.depth h.0.parent (v n h.0 h.1).1)),
)

-- as far as the root, or as many as may be nested
pub up-whole : (origins : List Origin) (id : ℕ) (keys : List RequestKey) (next : Option ℕ)
    (level : ℕ) → LeadsUp origins (Some id) keys next → (next ≡ None) ⊎ (length keys ≡ level)
    → deepest ≤ level → AreUpward origins id keys
up-whole origins id keys next level a w d = record
    { next = next; above = a; whole = elim w [ inl e ↦ inl e | inr e ↦ inr (omega arith) ] }

-- how far up the keys lead
pub leads-depth : (origins : List Origin) → AreNested origins
    → (id : ℕ) (o : Origin) (up : List RequestKey) (next : Option ℕ) → at origins id ≡ Some o
    → LeadsUp origins (Some id) up next →
    ((next ≡ None) × (length up ≡ suc o.depth))
    ⊎ ((m : ℕ) × (q : Origin) × (next ≡ Some m) × (at origins m ≡ Some q)
    × (length up + q.depth ≡ o.depth))
leads-depth origins v id o [] next e h = inr (id, o, sym h, e, omega arith)
leads-depth origins v id o (key ∷ keys) next e h =
    let p : h.0 ≡ o = same_some (at origins id) h.0 o h.1 e in
    go o.parent refl (v id o e).1 (subst (λ (q : Origin). LeadsUp origins q.parent keys next) p h.3)
    (λ n q. leads-depth origins v n q keys next)
  where
    go : (parent : Option ℕ) → o.parent ≡ parent → IsNested origins o.depth o.parent
        → LeadsUp origins o.parent keys next →
        ((n : ℕ) (q : Origin) → at origins n ≡ Some q → LeadsUp origins (Some n) keys next
        → ((next ≡ None) × (length keys ≡ suc q.depth))
        ⊎ ((m : ℕ) × (r : Origin) × (next ≡ Some m) × (at origins m ≡ Some r)
        × (length keys + r.depth ≡ q.depth))) →
        ((next ≡ None) × (suc (length keys) ≡ suc o.depth))
        ⊎ ((m : ℕ) × (q : Origin) × (next ≡ Some m) × (at origins m ≡ Some q)
        × (suc (length keys) + q.depth ≡ o.depth))
    go None p n l ih = alone keys refl (subst (λ a. LeadsUp origins a keys next) p l)
      where
        alone : (xs : List RequestKey) → keys ≡ xs → LeadsUp origins None xs next
            → ((next ≡ None) × (suc (length keys) ≡ suc o.depth))
            ⊎ ((m : ℕ) × (q : Origin) × (next ≡ Some m) × (at origins m ≡ Some q)
            × (suc (length keys) + q.depth ≡ o.depth))
        alone [] k l = inl (
          sym l,
          let z : o.depth
              ≡ 0 = subst (IsNested origins o.depth) p n in let k2 : length keys
              ≡ 0 = ap length k in omega arith,
        )
        alone (x ∷ xs) k l = absurd l
    go (Some c) p n l ih =
        let y : IsNested origins o.depth (Some c) = subst (IsNested origins o.depth) p n in
        let up : suc y.0.depth ≡ o.depth = sym y.2 in
        elim (ih c y.0 y.1 (subst (λ a. LeadsUp origins a keys next) p l)) [
          | inl h ↦ inl (h.0, let k : length keys ≡ suc y.0.depth = h.1 in omega arith)
          | inr h ↦ inr (
            h.0,
            h.1,
            h.2,
            h.3,
            let k : length keys + h.1.depth
                ≡ y.0.depth = h.4 in omega arith,
          )
        ]

-- the keys of the requests
pub keys-up : {P I A : Type 0} (requests : List (RequestState P I A)) (origins : List Origin)
    → origins ≡ map origin_of requests → (from : Option ℕ) (up : List RequestKey)
    → LeadsUp origins from up None → AreKeysUp requests from up
keys-up requests origins e None [] h = tt
keys-up requests origins e (Some id) [] h = absurd (cc)
keys-up requests origins e None (key ∷ keys) h = absurd h
keys-up requests origins e (Some id) (key ∷ keys) h =
    let y = at-map origin_of requests id h.0 (sym (ap (λ os. at os id) e) ∙ h.1) in (
      y.0,
      y.1,
      ap (λ (o : Origin). o.key) y.2
          ∙ h.2,
      subst (λ p. AreKeysUp requests p keys) (sym (ap (λ (o : Origin). o.parent) y.2))
          (keys-up requests origins e h.0.parent keys h.3),
    )

-- where the calls of a request would be nested too deep, its keys lead up to the root
pub root-reached : (origins : List Origin) (id : ℕ) (o : Origin) (calls keys : List RequestKey)
    → AreNested origins → at origins id ≡ Some o → deepest ≤ suc o.depth
    → (d : AreKeysDown origins id calls keys) → (d.next ≡ None) × (length d.up ≡ deepest)
root-reached origins id o calls keys v e deep d =
    let few : o.depth < deepest = (v id o e).0 in
    elim (leads-depth origins v id o d.up d.next e d.above) [
      | inl h ↦ (h.0, let k : length d.up ≡ suc o.depth = h.1 in omega arith)
      | inr h ↦ elim d.whole [
        | inl n ↦ let a : Some h.0 ≡ None = sym h.2 ∙ n in absurd (cc)
        | inr n ↦ let k : length d.up + h.1.depth ≡ o.depth = h.4 in absurd (omega (arith, n))
      ]
    ]
