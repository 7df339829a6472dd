-- What has a derivation is what the recursion by depth gives, and what is said in the derivation
-- holds of all that the recursion contains.
use Rattle.std.proofs.Common.{
  ◌≡◌,
  ℕ,
  zero,
  suc,
  ◌+◌,
  ◌<◌,
  false,
  ◌⊎◌,
  inl,
  inr,
  List,
  [],
  ◌∷◌,
  ◌++◌,
  length,
  Option,
  None,
  Some,
  refl,
  ap,
  sym,
  ◌∙◌,
  subst,
  arith,
}
use Rattle.std.proofs.lemmas.Bool.{ltb-true}
use Rattle.msb_laws.specs.Asking.{and_then}
use Rattle.result_cache.specs.declared.run.RunId.{RunId}
use Rattle.result_cache.specs.declared.request.RequestKey.{RequestKey}
use Rattle.result_cache.specs.declared.request.RequestResult.{RequestResult}
use Rattle.result_cache.specs.declared.record.Record.{Record}
use Rattle.result_cache.specs.Lists.{In}
use Rattle.result_cache.specs.Journal.{Journal, ended, add, merge}
use Rattle.build_meaning.specs.World.{World}
use Rattle.build_meaning.specs.Walk.{Walk, Body}
use Rattle.build_meaning.specs.SoFar.{ToolUse, SoFar, nothing_yet, with_calls, recorded, result_of}
use Rattle.build_meaning.specs.Meaning.{
  Demanded,
  requested,
  together,
  joined,
  built,
  Given,
  after,
  followed,
  containing,
  deepest,
  at_once,
  body,
  made_then,
  wanted,
  walk,
  request,
  meaning,
}
use Rattle.result_cache.specs.Same.{is_in}
use Rattle.build_meaning.specs.Derived.{
  OfWalk,
  over,
  used,
  made,
  OfBody,
  ended_so,
  acted_one,
  used_tool,
  called_all,
  OfCalls,
  no_calls,
  one_call,
  OfMeaning,
}
use Rattle.build_meaning.specs.Stands.{Contained}
use Rattle.build_meaning.proofs.MeaningDerived.{meaning-sound}
use Rattle.result_cache.proofs.RunTests.{tells, in-is_in}
use Rattle.result_cache.proofs.JournalEntries.{none-had}

-- this value and this journal, whatever else is contained
abbrev pub Comes : {P I T : Type 0} → Option (Given P I T) → T → Journal → Type 0
Comes {P} {I} {T} o v k = (y : Given P I T) × (o ≡ Some y) × (y.value ≡ v) × (y.journal ≡ k)

pub then-comes : {P I S T : Type 0} (first : Option (Given P I S))
    (next : S → Journal → Option (Given P I T)) (v : S) (j : Journal) (u : T) (k : Journal) →
    Comes first v j → Comes (next v j) u k → Comes (followed first next) u k
then-comes first next v j u k (x, e, p, q) (y, f, a, b) =
    let g : next x.value x.journal ≡ Some y = ap (λ s. next s x.journal) p
    ∙ (ap (next v) q ∙ f) in (
      after x.demand y,
      ap
          (λ o. and_then o (λ x. and_then (next x.value x.journal) (λ y. Some (after x.demand y))))
          e
          ∙ ap (λ o. and_then o (λ y. Some (after x.demand y))) g,
      a,
      b,
    )

pub also-comes : {P I T : Type 0} (d : Demanded P I) (o : Option (Given P I T)) (v : T)
    (k : Journal) → Comes o v k → Comes (containing d o) v k
also-comes d o v k (y, e, p, q) = (after (d ∷ []) y, ap (containing d) e, p, q)

pub just : {P I T : Type 0} (v : T) (k : Journal) (demand : List (Demanded P I)) →
    Comes (Some (record { value = v; journal = k; demand = demand })) v k
just v k demand = (record { value = v; journal = k; demand = demand }, refl, refl, refl)

pub not-in : (r : RunId) (path : List RunId) → (In r path → ⊥) → is_in r path ≡ false
not-in r path n = elim (tells (is_in r path)) [ inl h ↦ absurd (n (in-is_in r path h)) | inr h ↦ h ]

-- ---- with what it contains

in-either : {X : Type 0} (x : X) (xs ys : List X) → In x (xs ++ ys) → In x xs ⊎ In x ys
in-either x [] ys i = inr i
in-either x (z ∷ xs) ys (inl e) = inl (inl e)
in-either x (z ∷ xs) ys (inr i) =
    elim (in-either x xs ys i) [ inl u ↦ inl (inr u) | inr u ↦ inr u ]

module _ {P I : Type 0} (D : Demanded P I → Type 0) where
  abbrev pub AllOf : List (Demanded P I) → Type 0
  AllOf demand = (e : Demanded P I) → In e demand → D e

  -- this value and this journal, and D holds of all that is contained
  abbrev pub ComesWith : {T : Type 0} → Option (Given P I T) → T → Journal → Type 0
  ComesWith {T} o v k = (y : Given P I T) × (o ≡ Some y) × (y.value ≡ v) × (y.journal ≡ k)
      × AllOf y.demand

  then-with : {S T : Type 0} (first : Option (Given P I S))
      (next : S → Journal → Option (Given P I T)) (v : S) (j : Journal) (u : T) (k : Journal) →
      ComesWith first v j → ComesWith (next v j) u k → ComesWith (followed first next) u k
  then-with first next v j u k (x, e, p, q, c) (y, f, a, b, d) =
      let g : next x.value x.journal ≡ Some y =
      ap (λ s. next s x.journal) p ∙ (ap (next v) q ∙ f) in (
        after x.demand y,
        ap (λ o. and_then o (λ x. and_then (next x.value x.journal)
            (λ y. Some (after x.demand y)))) e
            ∙ ap (λ o. and_then o (λ y. Some (after x.demand y))) g,
        a,
        b,
        λ z i. elim (in-either z x.demand y.demand i) [ inl u ↦ c z u | inr u ↦ d z u ],
      )

  also-with : {T : Type 0} (e : Demanded P I) (o : Option (Given P I T)) (v : T) (k : Journal) →
      D e → ComesWith o v k → ComesWith (containing e o) v k
  also-with e o v k known (y, f, p, q, c) = (
    after (e ∷ []) y,
    ap (containing e) f,
    p,
    q,
    λ z i. elim i [ inl same ↦ subst D same known | inr u ↦ c z u ],
  )

  just-with : {T : Type 0} (v : T) (k : Journal) →
      ComesWith (Some (record { value = v; journal = k; demand = [] })) v k
  just-with v k =
      (record { value = v; journal = k; demand = [] }, refl, refl, refl, λ e i. absurd i)

module _ {P I A : Type 0} (w : World P I A) (D : Demanded P I → Type 0) where
  mutual
    pub walk-comes : {path : List RunId} {j : Journal} {runs : List RunId} {x : Walk P I A}
        {res : RequestResult} {k : Journal} → OfWalk w D path j runs x res k →
        (d : ℕ) → d + suc (length path) ≡ deepest →
        ComesWith D (walk w (request w d) path x j runs) res k
    walk-comes (over {path = path} {j = j} {runs = runs} {reply = reply}) d h =
        just-with D (result_of reply runs) j
    walk-comes (used {path = path} {j = j} {k = k} {runs = runs} {res = res} {p = p} {r = r}
        {b = b} {go = go} m e rest) d h =
        subst (λ o. ComesWith D (wanted w o (is_in r path)
        (body w (request w d (r ∷ path)) r b j nothing_yet) p r j
        (λ x next. walk w (request w d) path (go x next) next (runs ++ r ∷ []))) res k) (sym e)
        (walk-comes rest d h)
    walk-comes (made {path = path} {j = j} {i = i} {k = k} {runs = runs} {res = res} {p = p}
        {r = r} {b = b} {go = go} {m = m} {tools = tools} n f of known rest) d h =
        let next = λ (x : Record) (next : Journal).
        walk w (request w d) path (go x next) next (runs ++ r ∷ []) in
        let mine = body w (request w d (r ∷ path)) r b j nothing_yet in
        let c : ComesWith D (followed mine (made_then w p r j next)) res k =
        then-with D mine (made_then w p r j next) (m, tools) i res k (body-comes of d h)
        (also-with D (built p r j m tools) (next m (add i (ended r m))) res k known
        (walk-comes rest d h)) in
        subst (λ o. ComesWith D (wanted w o (is_in r path) mine p r j next) res k)
        (sym (none-had j r f))
        (subst (λ t. ComesWith D (wanted w None t mine p r j next) res k)
        (sym (not-in r path n)) c)

    pub body-comes : {path : List RunId} {r : RunId} {j : Journal} {so_far : SoFar I}
        {b : Body I A} {m : Record} {tools : List (ToolUse I)} {k : Journal} →
        OfBody w D path r j so_far b m tools k → (d : ℕ) → d + length path ≡ deepest →
        ComesWith D (body w (request w d path) r b j so_far) (m, tools) k
    body-comes (ended_so {j = j} {so_far = so_far} {outcome = outcome}) d h =
        just-with D (recorded outcome so_far.segments, so_far.tools) j
    body-comes (acted_one rest) d h = body-comes rest d h
    body-comes (used_tool rest) d h = body-comes rest d h
    body-comes (called_all {path = path} {r = r} {j = j} {i = i} {k = k} {so_far = so_far}
        {key = key} {keys = keys} {go = go} {results = results} {m = m} {tools = tools} t asked
        rest) d h =
        let all = at_once w (request w d path) j j (key ∷ keys) in
        then-with D (containing (together (key ∷ keys)) all) (λ results next.
        body w (request w d path) r (go results next) next (with_calls so_far (key ∷ keys) results))
        results i (m, tools) k
        (also-with D (together (key ∷ keys)) all results i t (calls-come asked d h))
        (body-comes rest d h)

    pub calls-come : {path : List RunId} {j a : Journal} {keys : List RequestKey}
        {results : List RequestResult} {k : Journal} → OfCalls w D path j a keys results k →
        (d : ℕ) → d + length path ≡ deepest →
        ComesWith D (at_once w (request w d path) j a keys) results k
    calls-come (no_calls {a = a}) d h = just-with D [] a
    calls-come (one_call {path = path} known less x so rest) zero h =
        absurd (none (length path) deepest (ltb-true (length path) deepest less) h)
      where
        none : (n m : ℕ) → n < m → 0 + n ≡ m → ⊥
        none n m h e = omega arith
    calls-come (one_call {path = path} {j = j} {a = a} {i = i} {k = k} {key = key} {keys = keys}
        {res = res} {results = results} known less x so rest) (suc d) h =
        let next = at_once w (request w (suc d) path) j (merge a i) keys in
        then-with D (request w (suc d) path j key) (λ result left.
        followed (containing (joined j a left)
        (at_once w (request w (suc d) path) j (merge a left) keys)) (λ results last.
        Some (record { value = result ∷ results; journal = last; demand = [] })))
        res i (res ∷ results) k
        (also-with D (requested key) (walk w (request w d) path (w.walks key j) j []) res i known
        (walk-comes x d (more d (length path) deepest h)))
        (then-with D (containing (joined j a i) next) (λ results last.
        Some (record { value = res ∷ results; journal = last; demand = [] }))
        results k (res ∷ results) k
        (also-with D (joined j a i) next results k so (calls-come rest (suc d) h))
        (just-with D (res ∷ results) k))
      where
        more : (d n m : ℕ) → suc d + n ≡ m → d + suc n ≡ m
        more d n m h = omega arith

  -- a derivation is the meaning, and D holds of all that the meaning contains
  pub told : (result : RequestResult) (journal : Journal) → OfMeaning w D result journal →
      (out : Given P I RequestResult) × (meaning w ≡ Some out) × (out.value ≡ result)
      × (out.journal ≡ journal) × ((e : Demanded P I) → In e out.demand → D e)
  unfolding deepest
  told result journal each =
      also-with D (requested w.root) (walk w (request w 127) [] (w.walks w.root []) [] []) result
      journal each.root
      (walk-comes each.rest 127 (let e : 127 + suc 0 ≡ 128 = omega arith in e))

pub left : {P I A : Type 0} (w : World P I A) (D : Demanded P I → Type 0) (path : List RunId)
    (j : Journal) (runs : List RunId) (x : Walk P I A) (res : RequestResult) (k : Journal)
    (d : ℕ) → d + suc (length path) ≡ deepest → OfWalk w D path j runs x res k →
    (y : Given P I RequestResult) × (walk w (request w d) path x j runs ≡ Some y)
    × (y.value ≡ res) × (y.journal ≡ k)
left w D path j runs x res k d h of = let y = walk-comes w D of d h in (y.0, y.1, y.2, y.3)

pub given : {P I A : Type 0} (w : World P I A) (out : Given P I RequestResult) →
    meaning w ≡ Some out → OfMeaning w (Contained out) out.value out.journal
given w out h =
    let x = meaning-sound w (Contained out) out h (λ e i. i) in
    record { root = x.0; rest = x.2 }
