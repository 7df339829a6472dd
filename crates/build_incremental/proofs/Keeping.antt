-- What a meaning keeps: the marks that a journal has, and whatever each act, each end of a run
-- and each join keeps.
use Rattle.std.proofs.Common.{ℕ, inl, inr, List, [], ◌∷◌, ◌++◌, length, refl, sym, subst}
use Rattle.msb_values.specs.declared.act.Act.{Act}
use Rattle.result_cache.specs.declared.run.RunId.{RunId}
use Rattle.result_cache.specs.declared.request.RequestKey.{RequestKey}
use Rattle.result_cache.specs.declared.request.RequestResult.{RequestResult}
use Rattle.result_cache.specs.declared.record.Record.{Record}
use Rattle.result_cache.specs.declared.record.Segment.{Segment}
use Rattle.result_cache.specs.declared.record.Segment.TheVariants.{File, Call}
use Rattle.result_cache.specs.Lists.{In}
use Rattle.result_cache.specs.Journal.{
  Journal,
  Entry,
  acted,
  ended,
  Mark,
  act_of,
  mark,
  add,
  merge,
}
use Rattle.result_cache.proofs.JournalEntries.{Has, has-add, has-added, has-merge_left}
use Rattle.build_meaning.proofs.MeaningDerived.{in-right}
use Rattle.build_meaning.specs.World.{World}
use Rattle.build_meaning.specs.Walk.{Walk, Body}
use Rattle.build_meaning.specs.SoFar.{ToolUse, SoFar, with_calls, called}
use Rattle.build_meaning.specs.Derived.{
  said,
  OfWalk,
  over,
  used,
  made,
  OfBody,
  ended_so,
  acted_one,
  used_tool,
  called_all,
  OfCalls,
  no_calls,
  one_call,
}
use Rattle.build_incremental.proofs.GoAlike.{has-so-far}
use Rattle.build_incremental.proofs.Numbered.{acts_in, acts-more, acts-called}

-- what is there when one act more is added
own-added : (r : RunId) (j older : Journal) (n : ℕ) (act : Act) →
    ((k : ℕ) (q : Act) → In (acted r k q) older → Has (act_of r k) j) →
    (k : ℕ) (q : Act) → In (acted r k q) (acted r n act ∷ older) →
    Has (act_of r k) (add j (acted r n act))
own-added r j older n act f k q (inl e) =
    subst (λ z. Has (mark z) (add j (acted r n act))) e (has-added j (acted r n act))
own-added r j older n act f k q (inr i) =
    has-add (act_of r k) j (acted r n act) (f k q i)

module _ {P I A : Type 0} (w : World P I A) (Q : P → RunId → Journal → Record → Type 0)
    (J : Journal → Journal → Journal → Type 0) (K : RequestKey → Type 0) where
  -- ---- marks stay

  mutual
    pub walk-has : {path : List RunId} {j : Journal} {runs : List RunId} {x : Walk P I A}
        {res : RequestResult} {k : Journal} → OfWalk w (said Q J K) path j runs x res k →
        (s : Mark) → Has s j → Has s k
    walk-has over s h = h
    walk-has (used m e rest) s h = walk-has rest s h
    walk-has (made {i = i} {r = r} {m = m} out new d q rest) s h =
        walk-has rest s (has-add s i (ended r m) (body-has d s h))

    pub body-has : {path : List RunId} {r : RunId} {j : Journal} {so_far : SoFar I}
        {b : Body I A} {m : Record} {tools : List (ToolUse I)} {k : Journal} →
        OfBody w (said Q J K) path r j so_far b m tools k → (s : Mark) → Has s j → Has s k
    body-has ended_so s h = h
    body-has (acted_one {r = r} {j = j} {so_far = so_far} {act = act} rest) s h =
        body-has rest s (has-add s j (acted r (length so_far.segments) act) h)
    body-has (used_tool rest) s h = body-has rest s h
    body-has (called_all t asked rest) s h = body-has rest s (calls-has asked s h)

    pub calls-has : {path : List RunId} {j a : Journal} {keys : List RequestKey}
        {results : List RequestResult} {k : Journal} →
        OfCalls w (said Q J K) path j a keys results k → (s : Mark) → Has s a → Has s k
    calls-has no_calls s h = h
    calls-has (one_call {a = a} {i = i} known less walk so rest) s h =
        calls-has rest s (has-merge_left s a i h)

  -- ---- the acts and calls of a record

  pub has-acts : {path : List RunId} {r : RunId} {j : Journal} {so_far : SoFar I}
      {b : Body I A} {m : Record} {tools : List (ToolUse I)} {k : Journal} →
      OfBody w (said Q J K) path r j so_far b m tools k → (e : Entry) →
      In e (acts_in r so_far.segments) → In e (acts_in r m.segments)
  has-acts ended_so e i = i
  has-acts (acted_one {r = r} {so_far = so_far} {act = act} rest) e i =
      has-acts rest e (subst (In e) (sym (acts-more r so_far.segments act)) (inr i))
  has-acts (used_tool rest) e i = has-acts rest e i
  has-acts (called_all {r = r} {so_far = so_far} {key = key} {keys = keys} {results = results}
      t asked rest) e i =
      has-acts rest e
      (subst (In e) (sym (acts-called r so_far.segments (key ∷ keys) results)) i)

  -- what the record has of acts is there when its body has come to its end
  pub own-there : {path : List RunId} {r : RunId} {j : Journal} {so_far : SoFar I}
      {b : Body I A} {m : Record} {tools : List (ToolUse I)} {k : Journal} →
      OfBody w (said Q J K) path r j so_far b m tools k → ((n : ℕ) (act : Act) →
      In (acted r n act) (acts_in r so_far.segments) → Has (act_of r n) j) →
      (n : ℕ) (act : Act) → In (acted r n act) (acts_in r m.segments) → Has (act_of r n) k
  own-there ended_so f n act i = f n act i
  own-there (acted_one {r = r} {j = j} {so_far = so_far} {act = new} rest) f n act i =
      own-there rest (λ k q u. own-added r j (acts_in r so_far.segments)
      (length so_far.segments) new f k q
      (subst (In (acted r k q)) (acts-more r so_far.segments new) u)) n act i
  own-there (used_tool rest) f n act i = own-there rest f n act i
  own-there (called_all {r = r} {so_far = so_far} {key = key} {keys = keys} {results = results}
      t asked rest) f n act i =
      own-there rest (λ k q u. calls-has asked (act_of r k) (f k q
      (subst (In (acted r k q)) (acts-called r so_far.segments (key ∷ keys) results) u))) n act i

  -- a record tells of each call
  pub call-told : {path : List RunId} {r : RunId} {j a i k : Journal} {key : RequestKey}
      {keys : List RequestKey} {results : List RequestResult} {b : Body I A} {m : Record}
      {tools : List (ToolUse I)} (so_far : SoFar I) →
      OfCalls w (said Q J K) path j a (key ∷ keys) results i →
      OfBody w (said Q J K) path r i (with_calls so_far (key ∷ keys) results) b m tools k →
      (runs : List RunId) × In (Call key runs) m.segments
  call-told {key = key} {keys = keys} so_far
      (one_call {res = res} {results = results} known less walk so rest) body = (
        res.runs,
        has-so-far w Q J K body (Call key res.runs) (in-right (Call key res.runs)
            so_far.segments (called (key ∷ keys) (res ∷ results)) (inl refl)),
      )

  -- ---- what each step keeps

  -- Inv holds of a journal. It is kept by the end of a run, by a join, and by an act of a run
  -- where Ready holds of its record, of what it has done so far and of its journal.
  module _ (Inv : Journal → Type 0) (Ready : RunId → Record → List Segment → Journal → Type 0)
      (ends : (p : P) (r : RunId) (from : Journal) (m : Record) → Q p r from m →
      (j : Journal) → Inv j → Inv (add j (ended r m)))
      (joins : (a i : Journal) → Inv a → Inv i → Inv (merge a i))
      (starts : (p : P) (r : RunId) (j : Journal) (m : Record) → Q p r j m → Ready r m [] j)
      (acts : (r : RunId) (m : Record) (segments : List Segment) (act : Act) (j : Journal) →
      In (acted r (length segments) act) (acts_in r m.segments) → Ready r m segments j → Inv j →
      Inv (add j (acted r (length segments) act))
      × Ready r m (segments ++ File act ∷ []) (add j (acted r (length segments) act)))
      (calls : (r : RunId) (m : Record) (segments : List Segment) (key : RequestKey)
      (keys : List RequestKey) (results : List RequestResult) (j i : Journal) →
      ((s : Mark) → Has s j → Has s i) →
      ((runs : List RunId) × In (Call key runs) m.segments) → Ready r m segments j →
      Ready r m (segments ++ called (key ∷ keys) results) i) where
    mutual
      pub walk-keeps : {path : List RunId} {j : Journal} {runs : List RunId} {x : Walk P I A}
          {res : RequestResult} {k : Journal} → OfWalk w (said Q J K) path j runs x res k →
          Inv j → Inv k
      walk-keeps over v = v
      walk-keeps (used m e rest) v = walk-keeps rest v
      walk-keeps (made {j = j} {i = i} {p = p} {r = r} {m = m} out new d q rest) v =
          walk-keeps rest (ends p r j m q i (body-keeps d (starts p r j m q) v))

      pub body-keeps : {path : List RunId} {r : RunId} {j : Journal} {so_far : SoFar I}
          {b : Body I A} {m : Record} {tools : List (ToolUse I)} {k : Journal} →
          OfBody w (said Q J K) path r j so_far b m tools k → Ready r m so_far.segments j →
          Inv j → Inv k
      body-keeps ended_so g v = v
      body-keeps (acted_one {r = r} {j = j} {so_far = so_far} {act = act} {m = m} rest) g v =
          let e : Entry = acted r (length so_far.segments) act in
          let there : In e (acts_in r (so_far.segments ++ File act ∷ [])) =
          subst (In e) (sym (acts-more r so_far.segments act)) (inl refl) in
          let x = acts r m so_far.segments act j (has-acts rest e there) g v in
          body-keeps rest x.1 x.0
      body-keeps (used_tool rest) g v = body-keeps rest g v
      body-keeps (called_all {r = r} {j = j} {i = i} {so_far = so_far} {key = key} {keys = keys}
          {results = results} {m = m} t asked rest) g v =
          body-keeps rest (calls r m so_far.segments key keys results j i (calls-has asked)
          (call-told so_far asked rest) g) (calls-keeps asked v v)

      pub calls-keeps : {path : List RunId} {j a : Journal} {keys : List RequestKey}
          {results : List RequestResult} {k : Journal} →
          OfCalls w (said Q J K) path j a keys results k → Inv j → Inv a → Inv k
      calls-keeps no_calls v u = u
      calls-keeps (one_call {a = a} {i = i} known less walk so rest) v u =
          calls-keeps rest v (joins a i u (walk-keeps walk v))
