-- What the recursion by depth gives has a derivation.
use Rattle.std.proofs.Common.{
  ◌≡◌,
  ℕ,
  zero,
  suc,
  ◌+◌,
  Bool,
  true,
  false,
  inl,
  inr,
  List,
  [],
  ◌∷◌,
  ◌++◌,
  length,
  Option,
  None,
  Some,
  refl,
  sym,
  ◌∙◌,
  subst,
  arith,
}
use Rattle.std.specs.Prelude.{nat_lt}
use Rattle.std.proofs.lemmas.Bool.{lt-ltb}
use Rattle.msb_laws.specs.Asking.{and_then}
use Rattle.result_cache.specs.declared.run.RunId.{RunId}
use Rattle.result_cache.specs.declared.request.RequestKey.{RequestKey}
use Rattle.result_cache.specs.declared.request.RequestResult.{RequestResult}
use Rattle.result_cache.specs.declared.record.Record.{Record}
use Rattle.result_cache.specs.Lists.{In}
use Rattle.result_cache.specs.Journal.{Journal, acted, ended, add, merge, record_of}
use Rattle.build_meaning.specs.World.{World}
use Rattle.build_meaning.specs.Walk.{Walk, gives, wants, Body, makes, does, uses, calls}
use Rattle.build_meaning.specs.SoFar.{
  SoFar,
  nothing_yet,
  with_act,
  with_tool,
  with_calls,
  recorded,
  result_of,
}
use Rattle.build_meaning.specs.Meaning.{
  Demanded,
  requested,
  together,
  joined,
  built,
  Given,
  after,
  followed,
  containing,
  deepest,
  at_once,
  body,
  made_then,
  wanted,
  walk,
  request,
  meaning,
}
use Rattle.result_cache.specs.Same.{is_in}
use Rattle.result_cache.proofs.RunTests.{is_in-true, and_then-some}
use Rattle.result_cache.proofs.JournalEntries.{had-none}
use Rattle.build_meaning.specs.Derived.{
  OfWalk,
  over,
  used,
  made,
  OfBody,
  ended_so,
  acted_one,
  used_tool,
  called_all,
  OfCalls,
  no_calls,
  one_call,
}

pub in-left : {X : Type 0} (a : X) (xs ys : List X) → In a xs → In a (xs ++ ys)
in-left a [] ys i = absurd i
in-left a (x ∷ xs) ys (inl p) = inl p
in-left a (x ∷ xs) ys (inr p) = inr (in-left a xs ys p)

pub in-right : {X : Type 0} (a : X) (xs ys : List X) → In a ys → In a (xs ++ ys)
in-right a [] ys i = i
in-right a (x ∷ xs) ys i = inr (in-right a xs ys i)

pub followed-some : {P I S T : Type 0} (first : Option (Given P I S)) (next : S → Journal → Option
    (Given P I T)) (z : Given P I T) → followed first next ≡ Some z →
    (x : Given P I S) × (y : Given P I T) × (first ≡ Some x) × (next x.value x.journal ≡ Some y)
    × (after x.demand y ≡ z)
followed-some first next z h =
    let u = and_then-some first
    (λ x. and_then (next x.value x.journal) (λ y. Some (after x.demand y))) z h in
    let v = and_then-some (next u.0.value u.0.journal) (λ y. Some (after u.0.demand y)) z u.2 in (
      u.0,
      v.0,
      u.1,
      v.1,
      let e : Some (after u.0.demand v.0)
          ≡ Some z = v.2 in let q : after u.0.demand v.0 ≡ z = cc in q,
    )

less : (d n m : ℕ) → suc d + n ≡ m → nat_lt n m ≡ true
less d n m h = lt-ltb n m (omega arith)

module _ {P I A : Type 0} (w : World P I A) (D : Demanded P I → Type 0) where
  abbrev pub AllIn : List (Demanded P I) → Type 0
  AllIn demand = (e : Demanded P I) → In e demand → D e

  abbrev pub GivesAll : {T : Type 0} → Option (Given P I T) → (T → Journal → Type 0) → Type 0
  GivesAll {T} o Q = (x : Given P I T) → o ≡ Some x → AllIn x.demand → Q x.value x.journal

  -- each part is contained
  follows : {S T : Type 0} (first : Option (Given P I S)) (next : S → Journal → Option
      (Given P I T)) (R : S → Journal → Type 0) (Q : T → Journal → Type 0) →
      GivesAll first R → ((x : S) (j : Journal) → R x j → GivesAll (next x j) Q)
      → GivesAll (followed first next) Q
  follows first next R Q f g z h all =
      let u = followed-some first next z h in
      let e : AllIn (u.0.demand ++ u.1.demand) =
      subst (λ (y : Given P I _). AllIn y.demand) (sym u.4) all in
      let r = f u.0 u.2 (λ a i. e a (in-left a u.0.demand u.1.demand i)) in
      subst (λ (y : Given P I _). Q y.value y.journal) u.4 (g u.0.value u.0.journal r u.1 u.3
      (λ a i. e a (in-right a u.0.demand u.1.demand i)))

  pure : {T : Type 0} (x : T) (j : Journal) (demand : List (Demanded P I))
      (Q : T → Journal → Type 0) → (AllIn demand → Q x j) →
      GivesAll (Some (record { value = x; journal = j; demand = demand })) Q
  pure x j demand Q q z h all =
      let e : record { value = x; journal = j; demand = demand } ≡ z = cc in
      subst (λ (y : Given P I _). Q y.value y.journal) e
      (q (subst (λ (y : Given P I _). AllIn y.demand) (sym e) all))

  contains : {T : Type 0} (e : Demanded P I) (o : Option (Given P I T)) (Q : T → Journal → Type 0) →
      (D e → GivesAll o Q) → GivesAll (containing e o) Q
  contains e None Q f z h all = absurd (cc)
  contains e (Some x) Q f z h all =
      let p : after (e ∷ []) x ≡ z = cc in
      let a : AllIn (e ∷ x.demand) = subst (λ (y : Given P I _). AllIn y.demand) (sym p) all in
      subst (λ (y : Given P I _). Q y.value y.journal) p (f (a e (inl refl)) x refl
      (λ b i. a b (inr i)))

  -- a request of this key on this path
  abbrev pub Asked : List RunId → Journal → RequestKey → RequestResult → Journal → Type 0
  Asked path j key res k = D (requested key) × (nat_lt (length path) deepest ≡ true)
      × OfWalk w D path j [] (w.walks key j) res k

  abbrev pub Sound : (List RunId → Journal → RequestKey → Option (Given P I RequestResult)) →
      List RunId → Type 0
  Sound ask path = (j : Journal) (key : RequestKey) → GivesAll (ask path j key) (Asked path j key)

  pub at_once-sound : (ask : List RunId → Journal → RequestKey → Option (Given P I RequestResult))
      (path : List RunId) → Sound ask path → (j a : Journal) (keys : List RequestKey) →
      GivesAll (at_once w (ask path) j a keys) (OfCalls w D path j a keys)
  at_once-sound ask path s j a [] = pure [] a [] (OfCalls w D path j a []) (λ n. no_calls)
  at_once-sound ask path s j a (key ∷ keys) =
      follows (ask path j key) (λ result left.
      followed (containing (joined j a left) (at_once w (ask path) j (merge a left) keys))
      (λ results last. Some (record { value = result ∷ results; journal = last; demand = [] })))
      (Asked path j key) (OfCalls w D path j a (key ∷ keys)) (s j key)
      (λ res i asked.
      follows (containing (joined j a i) (at_once w (ask path) j (merge a i) keys))
      (λ results last. Some (record { value = res ∷ results; journal = last; demand = [] }))
      (λ results k. D (joined j a i) × OfCalls w D path j (merge a i) keys results k)
      (OfCalls w D path j a (key ∷ keys))
      (contains (joined j a i) (at_once w (ask path) j (merge a i) keys)
      (λ results k. D (joined j a i) × OfCalls w D path j (merge a i) keys results k)
      (λ d x h all. (d, at_once-sound ask path s j (merge a i) keys x h all)))
      (λ results k rest. pure (res ∷ results) k [] (OfCalls w D path j a (key ∷ keys))
      (λ n. one_call asked.0 asked.1 asked.2 rest.0 rest.1)))

  pub body-sound : (ask : List RunId → Journal → RequestKey → Option (Given P I RequestResult))
      (path : List RunId) → Sound ask path → (r : RunId) (b : Body I A) (j : Journal)
      (so_far : SoFar I) →
      GivesAll (body w (ask path) r b j so_far) (λ m k. OfBody w D path r j so_far b m.0 m.1 k)
  body-sound ask path s r (makes outcome) j so_far =
      pure (recorded outcome so_far.segments, so_far.tools) j []
      (λ m k. OfBody w D path r j so_far (makes outcome) m.0 m.1 k) (λ n. ended_so)
  body-sound ask path s r (does p go) j so_far = λ x h all.
      acted_one
      (body-sound ask path s r (go (add j (acted r (length so_far.segments) p)))
      (add j (acted r (length so_far.segments) p)) (with_act so_far p) x h all)
  body-sound ask path s r (uses name input go) j so_far = λ x h all.
      used_tool
      (body-sound ask path s r (go (w.tools name input)) j (with_tool so_far name input) x h all)
  body-sound ask path s r (calls key keys go) j so_far =
      follows (containing (together (key ∷ keys)) (at_once w (ask path) j j (key ∷ keys)))
      (λ results next. body w (ask path) r (go results next) next
      (with_calls so_far (key ∷ keys) results))
      (λ results i. D (together (key ∷ keys)) × OfCalls w D path j j (key ∷ keys) results i)
      (λ m k. OfBody w D path r j so_far (calls key keys go) m.0 m.1 k)
      (contains (together (key ∷ keys)) (at_once w (ask path) j j (key ∷ keys))
      (λ results i. D (together (key ∷ keys)) × OfCalls w D path j j (key ∷ keys) results i)
      (λ d x h all. (d, at_once-sound ask path s j j (key ∷ keys) x h all)))
      (λ results i asked x h all. called_all asked.0 asked.1 (body-sound ask path s r
      (go results i) i (with_calls so_far (key ∷ keys) results) x h all))

  abbrev pub Rest : List RunId → (Record → Journal → Walk P I A) → List RunId → Record → Journal →
      RequestResult → Journal → Type 0
  Rest path go runs m k res last = OfWalk w D path k runs (go m k) res last

  walk-sound : (ask : List RunId → Journal → RequestKey → Option (Given P I RequestResult))
      (path : List RunId) → ((r : RunId) → Sound ask (r ∷ path)) →
      (x : Walk P I A) (j : Journal) (runs : List RunId) →
      GivesAll (walk w ask path x j runs) (OfWalk w D path j runs x)
  walk-sound ask path s (gives reply) j runs = pure (result_of reply runs) j []
      (OfWalk w D path j runs (gives reply)) (λ n. over)
  walk-sound ask path s (wants site r b go) j runs =
      f (record_of j r) refl (is_in r path) refl
      (λ m k. walk-sound ask path s (go m k) k (runs ++ r ∷ []))
    where
      f : (o : Option Record) → record_of j r ≡ o → (p : Bool) → is_in r path ≡ p →
          ((m : Record) (k : Journal)
          → GivesAll (walk w ask path (go m k) k (runs ++ r ∷ []))
          (OfWalk w D path k (runs ++ r ∷ []) (go m k))) →
          GivesAll (wanted w o p (body w (ask (r ∷ path)) r b j nothing_yet) site r j
          (λ m k. walk w ask path (go m k) k (runs ++ r ∷ [])))
          (OfWalk w D path j runs (wants site r b go))
      f (Some m) e p t ih = λ x h all. used m e (ih m j x h all)
      f None e true t ih = λ x h all. absurd (cc)
      f None e false t ih =
          follows (body w (ask (r ∷ path)) r b j nothing_yet)
          (made_then w site r j (λ m k. walk w ask path (go m k) k (runs ++ r ∷ [])))
          (λ m k. OfBody w D (r ∷ path) r j nothing_yet b m.0 m.1 k) (OfWalk w D path j runs
          (wants site r b go)) (body-sound ask (r ∷ path) (s r) r b j nothing_yet)
          (λ m i of. contains (built site r j m.0 m.1)
          (walk w ask path (go m.0 (add i (ended r m.0))) (add i (ended r m.0)) (runs ++ r ∷ []))
          (OfWalk w D path j runs (wants site r b go))
          (λ d x h all.
          made (λ i. let z : true ≡ false = sym (is_in-true r path i) ∙ t in absurd (cc))
          (had-none j r e) of d (ih m.0 (add i (ended r m.0)) x h all)))

  pub request-sound : (d : ℕ) (path : List RunId) → d + length path ≡ deepest
      → Sound (request w d) path
  request-sound zero path h j key = λ x g all. absurd (cc)
  request-sound (suc d) path h j key =
      contains (requested key) (walk w (request w d) path (w.walks key j) j []) (Asked path j key)
      (λ k x g all. (
        k,
        less d (length path) deepest h,
        walk-sound (request w d) path
            (λ r. request-sound d (r ∷ path) (more d (length path) deepest h)) (w.walks key j) j []
            x
            g all,
      ))
    where
      more : (d n m : ℕ) → suc d + n ≡ m → d + suc n ≡ m
      more d n m h = omega arith

  -- the meaning has a derivation
  pub meaning-sound : (out : Given P I RequestResult) → meaning w ≡ Some out → AllIn out.demand →
      Asked [] [] w.root out.value out.journal
  meaning-sound out h all = request-sound deepest [] (plus deepest) [] w.root out h all
    where
      plus : (n : ℕ) → n + 0 ≡ n
      plus n = omega arith
