-- Derivations of one meaning: two of them are one, what is said in one may be weaker, and each
-- record of the journal that it leaves was made.
use Rattle.std.proofs.Common.{
  ◌≡◌,
  ◌⊎◌,
  inl,
  inr,
  List,
  [],
  ◌∷◌,
  ◌++◌,
  length,
  Option,
  None,
  Some,
  refl,
  ap,
  sym,
  ◌∙◌,
  subst,
}
use Rattle.result_cache.specs.declared.run.RunId.{RunId}
use Rattle.result_cache.specs.declared.request.RequestKey.{RequestKey}
use Rattle.result_cache.specs.declared.request.RequestResult.{RequestResult}
use Rattle.result_cache.specs.declared.record.Record.{Record}
use Rattle.result_cache.specs.Lists.{In}
use Rattle.result_cache.specs.Journal.{Journal, acted, ended, add, merge, record_of}
use Rattle.result_cache.proofs.Closed.{in-merge}
use Rattle.result_cache.proofs.JournalEntries.{in-add, none-had}
use Rattle.build_meaning.specs.World.{World}
use Rattle.build_meaning.specs.Walk.{Walk, Body}
use Rattle.build_meaning.specs.SoFar.{ToolUse, SoFar, with_calls}
use Rattle.build_meaning.specs.Meaning.{Demanded, requested, together, joined, built}
use Rattle.build_meaning.specs.Derived.{
  OfWalk,
  over,
  used,
  made,
  OfBody,
  ended_so,
  acted_one,
  used_tool,
  called_all,
  OfCalls,
  no_calls,
  one_call,
  OfMeaning,
  Made,
}

some-same : {X : Type 0} (o : Option X) (x y : X) → o ≡ Some x → o ≡ Some y → x ≡ y
some-same o x y e f = let g : Some x ≡ Some y = sym e ∙ f in cc

none-some : {X : Type 0} (o : Option X) (x : X) → o ≡ None → o ≡ Some x → ⊥
none-some o x e f = let g : None ≡ Some x = sym e ∙ f in cc

-- ---- two derivations are one

module _ {P I A : Type 0} (w : World P I A) (D E : Demanded P I → Type 0) where
  abbrev pub Both : Demanded P I → Type 0
  Both e = D e × E e

  mutual
    pub both-walk : {path : List RunId} {j : Journal} {runs : List RunId} {x : Walk P I A}
        {res : RequestResult} {k : Journal} → OfWalk w D path j runs x res k →
        (other : RequestResult) (l : Journal) → OfWalk w E path j runs x other l →
        OfWalk w Both path j runs x res k × (res ≡ other) × (k ≡ l)
    both-walk over other l over = (over, refl, refl)
    both-walk (used {path = path} {j = j} {runs = runs} {r = r} {go = go} m e rest) other l
        (used n f more) =
        let same = some-same (record_of j r) n m f e in
        let x = both-walk rest other l
        (subst (λ z. OfWalk w E path j (runs ++ r ∷ []) (go z j) other l) same more) in
        (used m e x.0, x.1, x.2)
    both-walk (used {j = j} {r = r} m e rest) other l (made out new d q more) =
        absurd (none-some (record_of j r) m (none-had j r new) e)
    both-walk (made {j = j} {r = r} out new d q rest) other l (used n f more) =
        absurd (none-some (record_of j r) n (none-had j r new) f)
    both-walk (made {path = path} {j = j} {i = i} {runs = runs} {p = p} {r = r} {go = go} {m = m}
        {tools = tools} out new d q rest) other l (made {i = i'} {m = n} {tools = tools'}
        out' new' d' q' more) =
        let b = both-body d n tools' i' d' in
        let x = both-walk rest other l
        (subst (λ z. OfWalk w E path (add z (ended r m)) (runs ++ r ∷ [])
        (go m (add z (ended r m))) other l) (sym b.2)
        (subst (λ z. OfWalk w E path (add i' (ended r z)) (runs ++ r ∷ [])
        (go z (add i' (ended r z))) other l) (sym b.1) more)) in
        let known : E (built p r j m tools) =
        subst (λ z. E (built p r j z tools)) (sym b.1)
        (subst (λ z. E (built p r j n z)) (sym b.3) q') in
        (made out new b.0 (q, known) x.0, x.1, x.2)

    pub both-body : {path : List RunId} {r : RunId} {j : Journal} {so_far : SoFar I} {b : Body I A}
        {m : Record} {tools : List (ToolUse I)} {k : Journal} →
        OfBody w D path r j so_far b m tools k →
        (n : Record) (others : List (ToolUse I)) (l : Journal) →
        OfBody w E path r j so_far b n others l →
        OfBody w Both path r j so_far b m tools k × (m ≡ n) × (k ≡ l) × (tools ≡ others)
    both-body ended_so n others l ended_so = (ended_so, refl, refl, refl)
    both-body (acted_one rest) n others l (acted_one more) =
        let x = both-body rest n others l more in (acted_one x.0, x.1, x.2, x.3)
    both-body (used_tool rest) n others l (used_tool more) =
        let x = both-body rest n others l more in (used_tool x.0, x.1, x.2, x.3)
    both-body (called_all {path = path} {r = r} {i = i} {so_far = so_far} {key = key} {keys = keys}
        {go = go} {results = results} t asked rest) n others l (called_all {i = i'} {results =
        results'} t' asked' more) =
        let c = both-calls asked results' i' asked' in
        let x = both-body rest n others l
        (subst (λ z. OfBody w E path r i (with_calls so_far (key ∷ keys) z) (go z i) n others l)
        (sym c.1)
        (subst (λ z. OfBody w E path r z (with_calls so_far (key ∷ keys) results')
        (go results' z) n others l) (sym c.2) more)) in
        (called_all (t, t') c.0 x.0, x.1, x.2, x.3)

    pub both-calls : {path : List RunId} {j a : Journal} {keys : List RequestKey}
        {results : List RequestResult} {k : Journal} → OfCalls w D path j a keys results k →
        (others : List RequestResult) (l : Journal) → OfCalls w E path j a keys others l →
        OfCalls w Both path j a keys results k × (results ≡ others) × (k ≡ l)
    both-calls no_calls others l no_calls = (no_calls, refl, refl)
    both-calls (one_call {path = path} {j = j} {a = a} {i = i} {keys = keys} {res = res} {results =
        results} known less walk so rest) others l (one_call {i = i'} {keys = keys'} {res = res'}
        {results = results'} known' less' walk' so' more) =
        let x = both-walk walk res' i' walk' in
        let y = both-calls rest results' l
        (subst (λ z. OfCalls w E path j (merge a z) keys results' l) (sym x.2) more) in (
          one_call (known, known') less x.0 (so, subst (λ z. E (joined j a z)) (sym x.2) so') y.0,
          ap (λ z. z ∷ results) x.1 ∙ ap (λ z. res' ∷ z) y.1,
          y.2,
        )

  pub both-meaning : (result other : RequestResult) (journal last : Journal) →
      OfMeaning w D result journal → OfMeaning w E other last →
      OfMeaning w Both result journal × (result ≡ other) × (journal ≡ last)
  both-meaning result other journal last a b = let x = both-walk a.rest other last b.rest in
      (record { root = (a.root, b.root); rest = x.0 }, x.1, x.2)

-- ---- what is said may be weaker

module _ {P I A : Type 0} (w : World P I A) (D E : Demanded P I → Type 0)
    (f : (e : Demanded P I) → D e → E e) where
  mutual
    pub weaker-walk : {path : List RunId} {j : Journal} {runs : List RunId} {x : Walk P I A}
        {res : RequestResult} {k : Journal} → OfWalk w D path j runs x res k →
        OfWalk w E path j runs x res k
    weaker-walk over = over
    weaker-walk (used m e rest) = used m e (weaker-walk rest)
    weaker-walk (made {j = j} {p = p} {r = r} {m = m} {tools = tools} out new d q rest) =
        made out new (weaker-body d) (f (built p r j m tools) q) (weaker-walk rest)

    pub weaker-body : {path : List RunId} {r : RunId} {j : Journal} {so_far : SoFar I}
        {b : Body I A} {m : Record} {tools : List (ToolUse I)} {k : Journal} →
        OfBody w D path r j so_far b m tools k → OfBody w E path r j so_far b m tools k
    weaker-body ended_so = ended_so
    weaker-body (acted_one rest) = acted_one (weaker-body rest)
    weaker-body (used_tool rest) = used_tool (weaker-body rest)
    weaker-body (called_all {key = key} {keys = keys} t asked rest) =
        called_all (f (together (key ∷ keys)) t) (weaker-calls asked) (weaker-body rest)

    pub weaker-calls : {path : List RunId} {j a : Journal} {keys : List RequestKey}
        {results : List RequestResult} {k : Journal} → OfCalls w D path j a keys results k →
        OfCalls w E path j a keys results k
    weaker-calls no_calls = no_calls
    weaker-calls (one_call {j = j} {a = a} {i = i} {key = key} known less walk so rest) =
        one_call (f (requested key) known) less (weaker-walk walk) (f (joined j a i) so)
        (weaker-calls rest)

  pub weaker-meaning : (result : RequestResult) (journal : Journal) →
      OfMeaning w D result journal → OfMeaning w E result journal
  weaker-meaning result journal a =
      record { root = f (requested w.root) a.root; rest = weaker-walk a.rest }

-- ---- what has ended

module _ {P I A : Type 0} (w : World P I A) (D : Demanded P I → Type 0) where
  mutual
    -- a run that has ended then had ended before, or was made
    pub walk-ended : {path : List RunId} {j : Journal} {runs : List RunId} {x : Walk P I A}
        {res : RequestResult} {k : Journal} → OfWalk w D path j runs x res k →
        (s : RunId) (n : Record) → In (ended s n) k → In (ended s n) j ⊎ Made D s n
    walk-ended over s n u = inl u
    walk-ended (used m e rest) s n u = walk-ended rest s n u
    walk-ended (made {j = j} {i = i} {p = p} {r = r} {m = m} {tools = tools} out new d q rest)
        s n u =
        elim (walk-ended rest s n u) [
          | inl v ↦ elim (in-add (ended s n) i (ended r m) v) [
            | inl e ↦
                let same : r ≡ s = cc in
                let records : m ≡ n = cc in
                inr (subst (λ z. Made D z n) same
                (subst (Made D r) records (p, j, (tools, q))))
            | inr v ↦ body-ended d s n v
          ]
          | inr t ↦ inr t
        ]

    pub body-ended : {path : List RunId} {r : RunId} {j : Journal} {so_far : SoFar I}
        {b : Body I A} {m : Record} {tools : List (ToolUse I)} {k : Journal} →
        OfBody w D path r j so_far b m tools k → (s : RunId) (n : Record) →
        In (ended s n) k → In (ended s n) j ⊎ Made D s n
    body-ended ended_so s n u = inl u
    body-ended (acted_one {r = r} {j = j} {so_far = so_far} {act = act} rest) s n u =
        elim (body-ended rest s n u) [
          | inl v ↦ elim (in-add (ended s n) j (acted r (length so_far.segments) act) v)
              [ inl e ↦ absurd (cc) | inr v ↦ inl v ]
          | inr t ↦ inr t
        ]
    body-ended (used_tool rest) s n u = body-ended rest s n u
    body-ended (called_all t asked rest) s n u =
        elim (body-ended rest s n u) [
          | inl v ↦ elim (calls-ended asked s n v) [
            | inl v ↦ inl v
            | inr x ↦ elim x [ inl v ↦ inl v | inr y ↦ inr y ]
          ]
          | inr x ↦ inr x
        ]

    pub calls-ended : {path : List RunId} {j a : Journal} {keys : List RequestKey}
        {results : List RequestResult} {k : Journal} → OfCalls w D path j a keys results k →
        (s : RunId) (n : Record) → In (ended s n) k →
        In (ended s n) a ⊎ (In (ended s n) j ⊎ Made D s n)
    calls-ended no_calls s n u = inl u
    calls-ended (one_call {j = j} {a = a} {i = i} known less walk so rest) s n u =
        elim (calls-ended rest s n u) [
          | inl v ↦ elim (in-merge (ended s n) a i v) [
            | inl v ↦ inl v
            | inr v ↦ inr (walk-ended walk s n v)
          ]
          | inr x ↦ inr x
        ]

  -- each record of the last journal was made
  pub journal-made : (result : RequestResult) (journal : Journal) →
      OfMeaning w D result journal → (run : RunId) (m : Record) →
      In (ended run m) journal → Made D run m
  journal-made result journal each run m u =
      elim (walk-ended each.rest run m u) [ inl v ↦ absurd v | inr t ↦ t ]
