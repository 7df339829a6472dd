-- What is known of each body of a meaning: of the journal with which it begins, and of the journal
-- that is left at last.
use Rattle.std.proofs.Common.{
  ◌≡◌,
  ℕ,
  false,
  ◌⊎◌,
  inl,
  inr,
  List,
  [],
  ◌∷◌,
  length,
  Some,
  refl,
  sym,
  subst,
}
use Rattle.msb_values.specs.declared.act.Act.{Act}
use Rattle.result_cache.specs.declared.run.RunId.{RunId}
use Rattle.result_cache.specs.declared.request.RequestKey.{RequestKey}
use Rattle.result_cache.specs.declared.request.RequestResult.{RequestResult}
use Rattle.result_cache.specs.declared.record.Record.{Record}
use Rattle.result_cache.specs.Lists.{In}
use Rattle.result_cache.specs.Journal.{
  Journal,
  acted,
  ended,
  Mark,
  act_of,
  end_of,
  has,
  add,
  merge,
}
use Rattle.result_cache.proofs.Closed.{in-merge}
use Rattle.result_cache.proofs.RunTests.{tells, clash}
use Rattle.result_cache.proofs.JournalEntries.{
  Has,
  has-add,
  has-added,
  has-merge_left,
  has-merge_right,
  in-add,
}
use Rattle.build_meaning.specs.World.{World}
use Rattle.build_meaning.specs.Walk.{Walk, Body, Outcome}
use Rattle.build_meaning.specs.SoFar.{ToolUse, SoFar, recorded}
use Rattle.build_meaning.specs.Derived.{
  said,
  OfWalk,
  over,
  used,
  made,
  OfBody,
  ended_so,
  acted_one,
  used_tool,
  called_all,
  OfCalls,
  no_calls,
  one_call,
  EachOfMeaning,
}
use Rattle.build_incremental.specs.Alone.{alone, segments_of}
use Rattle.build_incremental.specs.SideBySide.{HasNotActed}
use Rattle.build_incremental.proofs.Demands.{Tells}
use Rattle.build_incremental.proofs.Entries.{marked-act}
use Rattle.build_incremental.proofs.GoAlike.{alone-told}
use Rattle.build_incremental.proofs.Keeping.{
  walk-has,
  body-has,
  calls-has,
  has-acts,
  own-there,
}
use Rattle.build_incremental.proofs.Meanings.{both-meaning, weaker-meaning}
use Rattle.build_incremental.proofs.Numbered.{acts_in, acts-more}

-- ---- runs that have acts have ended, or are open

abbrev pub Open : List RunId → Journal → Type 0
Open path j = (r : RunId) (n : ℕ) (act : Act) → In (acted r n act) j → Has (end_of r) j ⊎ In r path

open-deeper : (s : RunId) (path : List RunId) (j : Journal) → Open path j → Open (s ∷ path) j
open-deeper s path j o r n act i = elim (o r n act i) [ inl h ↦ inl h | inr x ↦ inr (inr x) ]

open-acted : (path : List RunId) (j : Journal) (s : RunId) (k : ℕ) (new : Act) → In s path →
    Open path j → Open path (add j (acted s k new))
open-acted path j s k new mine o r n act i = elim (in-add (acted r n act) j (acted s k new) i) [
  | inl e ↦ let same : s ≡ r = cc in inr (subst (λ z. In z path) same mine)
  | inr u ↦ elim (o r n act u) [
    | inl h ↦ inl (has-add (end_of r) j (acted s k new) h)
    | inr x ↦ inr x
  ]
]

open-ended : (path : List RunId) (j : Journal) (s : RunId) (m : Record) → Open (s ∷ path) j →
    Open path (add j (ended s m))
open-ended path j s m o r n act i = elim (in-add (acted r n act) j (ended s m) i) [
  | inl e ↦ absurd (cc)
  | inr u ↦ elim (o r n act u) [
    | inl h ↦ inl (has-add (end_of r) j (ended s m) h)
    | inr (inl e) ↦
        inl (subst (λ z. Has (end_of z) (add j (ended s m))) e (has-added j (ended s m)))
    | inr (inr x) ↦ inr x
  ]
]

open-merge : (path : List RunId) (a b : Journal) → Open path a → Open path b →
    Open path (merge a b)
open-merge path a b o p r n act i = elim (in-merge (acted r n act) a b i) [
  | inl u ↦ elim (o r n act u) [
    | inl h ↦ inl (has-merge_left (end_of r) a b h)
    | inr x ↦ inr x
  ]
  | inr u ↦ elim (p r n act u) [
    | inl h ↦ inl (has-merge_right (end_of r) a b h)
    | inr x ↦ inr x
  ]
]

-- a run that is neither open nor over has no act
none-yet : (path : List RunId) (j : Journal) (r : RunId) → Open path j → ¬ In r path →
    has (end_of r) j ≡ false → HasNotActed r j
none-yet path j r o out new n = elim (tells (has (act_of r n) j)) [
  | inl h ↦
      let x = marked-act r n j h in
      elim (o r n x.0 x.1) [
        | inl e ↦ absurd (clash (has (end_of r) j) e new)
        | inr i ↦ absurd (out i)
      ]
  | inr h ↦ h
]

-- ---- each act is one of the record of its run

module _ {P : Type 0} (Q : P → RunId → Journal → Record → Type 0) where
  abbrev pub Acted : RunId → ℕ → Act → Type 0
  Acted r n act = (p : P) × (from : Journal) × (m : Record) × Q p r from m
      × In (acted r n act) (acts_in r m.segments)

  abbrev pub ActsRecorded : Journal → Type 0
  ActsRecorded j = (r : RunId) (n : ℕ) (act : Act) → In (acted r n act) j → Acted r n act

  recorded-acted : (j : Journal) (s : RunId) (k : ℕ) (new : Act) → Acted s k new →
      ActsRecorded j → ActsRecorded (add j (acted s k new))
  recorded-acted j s k new mine t r n act i = elim (in-add (acted r n act) j (acted s k new) i) [
    | inl e ↦
        let a : s ≡ r = cc in
        let b : k ≡ n = cc in
        let c : new ≡ act = cc in
        subst (λ z. Acted z n act) a (subst (λ z. Acted s z act) b (subst (Acted s k) c mine))
    | inr u ↦ t r n act u
  ]

  recorded-ended : (j : Journal) (s : RunId) (m : Record) → ActsRecorded j →
      ActsRecorded (add j (ended s m))
  recorded-ended j s m t r n act i = elim (in-add (acted r n act) j (ended s m) i) [
    | inl e ↦ absurd (cc)
    | inr u ↦ t r n act u
  ]

  recorded-merge : (a b : Journal) → ActsRecorded a → ActsRecorded b →
      ActsRecorded (merge a b)
  recorded-merge a b t v r n act i = elim (in-merge (acted r n act) a b i) [
    | inl u ↦ t r n act u
    | inr u ↦ v r n act u
  ]

-- ---- what is known of a body

-- a run that is wanted has the body of its place
abbrev pub HasBody : {P I A : Type 0} → (P → RunId → Journal → Body I A) → P → RunId → Journal →
    Body I A → Type 0
HasBody bodies p r j b = b ≡ bodies p r j

module _ {P I A : Type 0} (w : World P I A) (Q : P → RunId → Journal → Record → Type 0)
    (J : Journal → Journal → Journal → Type 0) (K : RequestKey → Type 0)
    (bodies : P → RunId → Journal → Body I A) (last : Journal) where
  pub record Facts (p : P) (r : RunId) (j : Journal) (m : Record) : Type 0 where
    pub said : Q p r j m
    pub not_yet : HasNotActed r j
    pub acts_so : ActsRecorded Q j
    pub lasts : (s : Mark) → Has s j → Has s last
    pub ends : Has (end_of r) last
    pub acts : (n : ℕ) (act : Act) → In (acted r n act) (acts_in r m.segments) →
        Has (act_of r n) last
    pub told : (o : Outcome) (acts : List Act) →
        alone w.tools r (bodies p r j) j [] ≡ Some (o, acts) → m ≡ recorded o (segments_of acts)

  abbrev Stays : Journal → Type 0
  Stays k = (s : Mark) → Has s k → Has s last

  module _ (have : (key : RequestKey) (j : Journal) →
      Tells (HasBody bodies) (w.walks key j) j) where
    mutual
      pub walk-facts : {path : List RunId} {j : Journal} {runs : List RunId} {x : Walk P I A}
          {res : RequestResult} {k : Journal} → OfWalk w (said Q J K) path j runs x res k →
          Tells (HasBody bodies) x j → Open path j → ActsRecorded Q j → Stays k →
          OfWalk w (said Facts J K) path j runs x res k × Open path k × ActsRecorded Q k
      walk-facts over h o t l = (over, o, t)
      walk-facts (used {j = j} m e rest) h o t l =
          let x = walk-facts rest (h.1 m j) o t l in (used m e x.0, x.1, x.2)
      walk-facts (made {path = path} {j = j} {i = i} {p = p} {r = r} {b = b} {m = m}
          out new d q rest) h o t l =
          let next : Journal = add i (ended r m) in
          let after : Stays next = λ s g. l s (walk-has w Q J K rest s g) in
          let stays : Stays i = λ s g. after s (has-add s i (ended r m) g) in
          let free : HasNotActed r j = none-yet path j r o out new in
          let x = body-facts d (inl refl) (open-deeper r path j o) t
          (λ n act u. (p, j, m, q, u)) stays in
          let fact : Facts p r j m = record {
            said = q;
            not_yet = free;
            acts_so = t;
            lasts = λ s g. stays s (body-has w Q J K d s g);
            ends = after (end_of r) (has-added i (ended r m));
            acts = λ n act u. stays (act_of r n)
                (own-there w Q J K d (λ n act u. absurd u) n act u);
            told = λ oc acts e. (alone-told w Q J K d j free [] refl oc acts
                (subst (λ z. alone w.tools r z j [] ≡ Some (oc, acts)) (sym h.0) e) refl).0;
          } in
          let y = walk-facts rest (h.1 m next) (open-ended path i r m x.1)
          (recorded-ended Q i r m x.2) l in
          (made out new x.0 fact y.0, y.1, y.2)

      pub body-facts : {path : List RunId} {r : RunId} {j : Journal} {so_far : SoFar I}
          {b : Body I A} {m : Record} {tools : List (ToolUse I)} {k : Journal} →
          OfBody w (said Q J K) path r j so_far b m tools k → In r path → Open path j →
          ActsRecorded Q j →
          ((n : ℕ) (act : Act) → In (acted r n act) (acts_in r m.segments) → Acted Q r n act) →
          Stays k → OfBody w (said Facts J K) path r j so_far b m tools k × Open path k
          × ActsRecorded Q k
      body-facts ended_so mine o t own l = (ended_so, o, t)
      body-facts (acted_one {path = path} {r = r} {j = j} {so_far = so_far} {act = act} {m = m}
          rest) mine o t own l =
          let n : ℕ = length so_far.segments in
          let there : In (acted r n act) (acts_in r m.segments) =
          has-acts w Q J K rest (acted r n act)
          (subst (In (acted r n act)) (sym (acts-more r so_far.segments act)) (inl refl)) in
          let x = body-facts rest mine (open-acted path j r n act mine o)
          (recorded-acted Q j r n act (own n act there) t) own l in
          (acted_one x.0, x.1, x.2)
      body-facts (used_tool rest) mine o t own l =
          let x = body-facts rest mine o t own l in (used_tool x.0, x.1, x.2)
      body-facts (called_all all asked rest) mine o t own l =
          let c = calls-facts asked o t o t (λ s g. l s (body-has w Q J K rest s g)) in
          let x = body-facts rest mine c.1 c.2 own l in
          (called_all tt c.0 x.0, x.1, x.2)

      pub calls-facts : {path : List RunId} {j a : Journal} {keys : List RequestKey}
          {results : List RequestResult} {k : Journal} →
          OfCalls w (said Q J K) path j a keys results k → Open path j → ActsRecorded Q j →
          Open path a → ActsRecorded Q a → Stays k →
          OfCalls w (said Facts J K) path j a keys results k × Open path k × ActsRecorded Q k
      calls-facts no_calls o t oa ta l = (no_calls, oa, ta)
      calls-facts (one_call {path = path} {j = j} {a = a} {i = i} {key = key}
          known less walk so rest) o t oa ta l =
          let joined : Stays (merge a i) = λ s g. l s (calls-has w Q J K rest s g) in
          let x = walk-facts walk (have key j) o t
          (λ s g. joined s (has-merge_right s a i g)) in
          let y = calls-facts rest o t (open-merge path a i oa x.1)
          (recorded-merge Q a i ta x.2) l in
          (one_call known less x.0 so y.0, y.1, y.2)

-- of each body of the meaning, and of the journal that it leaves
pub meaning-facts : {P I A : Type 0} (w : World P I A)
    (Q : P → RunId → Journal → Record → Type 0) (J : Journal → Journal → Journal → Type 0)
    (K : RequestKey → Type 0) (bodies : P → RunId → Journal → Body I A)
    (have : (key : RequestKey) (j : Journal) →
    Tells (HasBody bodies) (w.walks key j) j) (result : RequestResult) (last : Journal) →
    EachOfMeaning w Q J K result last →
    EachOfMeaning w (Facts w Q J K bodies last) J K result last × ActsRecorded Q last
meaning-facts w Q J K bodies have result last each =
    let x = walk-facts w Q J K bodies last have each.rest (have w.root [])
    (λ r n act i. absurd i) (λ r n act i. absurd i) (λ s h. h) in
    (record { root = each.root; rest = x.0 }, x.2)

-- what is said of a meaning twice
pub also : {P I A : Type 0} (w : World P I A) (Q R : P → RunId → Journal → Record → Type 0)
    (J H : Journal → Journal → Journal → Type 0) (K G : RequestKey → Type 0)
    (result other : RequestResult) (last end : Journal) → EachOfMeaning w Q J K result last →
    EachOfMeaning w R H G other end →
    EachOfMeaning w (λ p r j m. Q p r j m × R p r j m) J K result last × (last ≡ end)
also w Q R J H K G result other last end a b =
    let x = both-meaning w Q R J H K G result other last end a b in (
      weaker-meaning w (λ p r j m. Q p r j m × R p r j m) (λ p r j m. Q p r j m × R p r j m)
          (λ c s n. J c s n × H c s n) J (λ key. K key × G key) K (λ p r j m h. h)
          (λ c s n h. h.0) (λ key h. h.0) result last x.0,
      x.2,
    )
