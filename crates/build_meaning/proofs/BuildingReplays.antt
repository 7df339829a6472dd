-- Building a run is replaying its record.
use Rattle.std.proofs.Common.{
  ◌≡◌,
  ℕ,
  suc,
  ◌+◌,
  List,
  [],
  ◌∷◌,
  ◌++◌,
  length,
  map,
  refl,
  ap,
  sym,
  ◌∙◌,
  subst,
  arith,
  append_assoc,
}
use Rattle.msb_values.specs.declared.act.Act.{Act}
use Rattle.result_cache.specs.declared.run.RunId.{RunId}
use Rattle.result_cache.specs.declared.request.RequestKey.{RequestKey}
use Rattle.result_cache.specs.declared.request.RequestResult.{RequestResult}
use Rattle.result_cache.specs.declared.record.Record.{Record}
use Rattle.result_cache.specs.declared.record.Segment.{Segment}
use Rattle.result_cache.specs.declared.record.Segment.TheVariants.{File, Call}
use Rattle.result_cache.specs.Journal.{acted, Journal, Mark, add, merge}
use Rattle.result_cache.specs.Replay.{puts_act, replays_run, effects_from, effects_of}
use Rattle.build_meaning.specs.World.{World}
use Rattle.build_meaning.specs.Walk.{Walk, Body}
use Rattle.build_meaning.specs.SoFar.{ToolUse, SoFar, with_act, with_calls, called, runs_of}
use Rattle.build_meaning.specs.Meaning.{Demanded}
use Rattle.result_cache.proofs.JournalEntries.{had-in, Has, in-has, has-merge_left}
use Rattle.result_cache.proofs.ReplayRelation.{
  Rep,
  old,
  new,
  puts,
  Reps,
  none,
  also,
  reps-append,
  Closed,
  reps-closed,
  reps-grow,
}
use Rattle.build_meaning.specs.Derived.{
  OfWalk,
  over,
  used,
  made,
  OfBody,
  ended_so,
  acted_one,
  used_tool,
  called_all,
  OfCalls,
  no_calls,
  one_call,
  Made,
}

pub map-append : {X Y : Type 0} (f : X → Y) (xs ys : List X)
    → map f (xs ++ ys) ≡ map f xs ++ map f ys
map-append f [] ys = refl
map-append f (x ∷ xs) ys = ap (λ zs. f x ∷ zs) (map-append f xs ys)

-- the items of segments that stand before others
pub items-append : (r : RunId) (n : ℕ) (xs ys : List Segment)
    → effects_from r n (xs ++ ys) ≡ effects_from r n xs ++ effects_from r (n + length xs) ys
items-append r n [] ys = ap (λ k. effects_from r k ys) (let e : n ≡ n + 0 = omega arith in e)
items-append r n (File p ∷ xs) ys =
    let e : suc n + length xs ≡ n + suc (length xs) = omega arith in
    ap (λ zs. puts_act r n p ∷ zs) (items-append r (suc n) xs ys
    ∙ ap (λ k. effects_from r (suc n) xs ++ effects_from r k ys) e)
items-append r n (Call key runs ∷ xs) ys =
    let e : suc n + length xs ≡ n + suc (length xs) = omega arith in
    ap (λ zs. map replays_run runs ++ zs) (items-append r (suc n) xs ys
    ∙ ap (λ k. effects_from r (suc n) xs ++ effects_from r k ys) e)
    ∙ sym
    (append_assoc (map replays_run runs) (effects_from r (suc n) xs)
    (effects_from r (n + suc (length xs)) ys))

zero_plus : (n : ℕ) → 0 + n ≡ n
zero_plus n = omega arith

-- calls say the runs of their results, in order
pub items-called : (r : RunId) (n : ℕ) (keys : List RequestKey) (results : List RequestResult)
    → length keys ≡ length results →
    effects_from r n (called keys results) ≡ map replays_run (runs_of results)
items-called r n [] [] h = refl
items-called r n [] (x ∷ results) h = absurd (cc)
items-called r n (key ∷ keys) [] h = absurd (cc)
items-called r n (key ∷ keys) (x ∷ results) h =
    ap (λ zs. map replays_run x.runs ++ zs)
    (items-called r (suc n) keys results (let e : length keys
    ≡ length results = omega arith in e))
    ∙ sym (map-append replays_run x.runs (runs_of results))

-- what a body has done so far, with more
pub items-acted : {I : Type 0} (r : RunId) (x : SoFar I) (p : Act)
    → effects_from r 0 (with_act x p).segments
    ≡ effects_from r 0 x.segments ++ puts_act r (length x.segments) p ∷ []
items-acted r x p = items-append r 0 x.segments (File p ∷ [])
    ∙ ap (λ n. effects_from r 0 x.segments ++ puts_act r n p ∷ []) (zero_plus (length x.segments))

pub items-calls : {I : Type 0} (r : RunId) (x : SoFar I) (keys : List RequestKey)
    (results : List RequestResult) → length keys ≡ length results →
    effects_from r 0 (with_calls x keys results).segments
    ≡ effects_from r 0 x.segments ++ map replays_run (runs_of results)
items-calls r x keys results h = items-append r 0 x.segments (called keys results)
    ∙ ap (λ zs. effects_from r 0 x.segments ++ zs)
    (items-called r (0 + length x.segments) keys results h)

pub reps-run : {P : RunId → Record → Type 0} (runs : List RunId) (r : RunId) {j k l : Journal}
    → Reps P (map replays_run runs) j k → Rep P (replays_run r) k l
    → Reps P (map replays_run (runs ++ r ∷ [])) j l
reps-run {P} runs r {j} {k} {l} d e = subst (λ xs. Reps P xs j l)
    (sym (map-append replays_run runs (r ∷ []))) (reps-append d (also e none))

pub reps-acted : {I : Type 0} {P : RunId → Record → Type 0} (r : RunId) (x : SoFar I) (p : Act)
    {j k : Journal} → Reps P (effects_from r 0 x.segments) j k →
    Reps P (effects_from r 0 (with_act x p).segments) j (add k (acted r (length x.segments) p))
reps-acted {I} {P} r x p {j} {k} d =
    subst (λ xs. Reps P xs j (add k (acted r (length x.segments) p))) (sym (items-acted r x p))
    (reps-append d (also puts none))

pub reps-calls : {I : Type 0} {P : RunId → Record → Type 0} (r : RunId) (x : SoFar I)
    (keys : List RequestKey) (results : List RequestResult) → length keys ≡ length results
    → {j k l : Journal} →
    Reps P (effects_from r 0 x.segments) j k → Reps P (map replays_run (runs_of results)) k l
    → Reps P (effects_from r 0 (with_calls x keys results).segments) j l
reps-calls {I} {P} r x keys results h {j} {k} {l} d e = subst (λ xs. Reps P xs j l)
    (sym (items-calls r x keys results h)) (reps-append d e)

pub calls-length : {P I A : Type 0} {w : World P I A} {D : Demanded P I →
    Type 0} {path : List RunId} {j a : Journal} {keys : List RequestKey}
    {results : List RequestResult} {k : Journal} →
    OfCalls w D path j a keys results k → length keys ≡ length results
calls-length no_calls = refl
calls-length (one_call d h x so rest) = ap suc (calls-length rest)

module _ {P I A : Type 0} (w : World P I A) (D : Demanded P I → Type 0)
    (one : (r : RunId) (m n : Record) → Made D r m → Made D r n → m ≡ n) where
  mutual
    -- a request adds what its runs, replayed, would add
    pub agree_walk : {path : List RunId} {i : Journal} {runs : List RunId} {x : Walk P I A}
        {res : RequestResult} {k : Journal} → OfWalk w D path i runs x res k →
        (j : Journal) → Closed (Made D) one j → Reps (Made D) (map replays_run runs) j i
        → Reps (Made D) (map replays_run res.runs) j k
    agree_walk over j c d = d
    agree_walk (used {j = i} {runs = runs} {r = r} m h rest) j c d = agree_walk rest j c
        (reps-run runs r d (old (in-has r m i (had-in i r m h))))
    agree_walk (made {j = i} {i = x} {runs = runs} {p = site} {r = r} {m = m} {tools = tools} n h b
        p rest) j c d =
        let y : Reps (Made D) (effects_of r m) i x = agree_body b i (reps-closed (Made D) one d c).1
        none in
        agree_walk rest j c (reps-run runs r d (new h (site, i, (tools, p)) y))

    -- a body adds what the items of its record, replayed, would add
    pub agree_body : {path : List RunId} {r : RunId} {i : Journal} {so_far : SoFar I} {b : Body I A}
        {m : Record} {tools : List (ToolUse I)} {k : Journal}
        → OfBody w D path r i so_far b m tools k →
        (j : Journal) → Closed (Made D) one j → Reps (Made D) (effects_from r 0 so_far.segments) j i
        → Reps (Made D) (effects_of r m) j k
    agree_body ended_so j c d = d
    agree_body (acted_one {r = r} {so_far = so_far} {act = p} rest) j c d =
        agree_body rest j c (reps-acted r so_far p d)
    agree_body (used_tool rest) j c d = agree_body rest j c d
    agree_body (called_all {r = r} {so_far = so_far} {key = key} {keys = keys} {results = results}
        all asked rest) j c d =
        let i : Closed (Made D) one _ = (reps-closed (Made D) one d c).1 in
        agree_body rest j c
        (reps-calls r so_far (key ∷ keys) results (calls-length asked) d
        (agree_calls asked (λ s h. h) i i))

    -- calls made at once add what their runs, replayed in call order, would add
    pub agree_calls : {path : List RunId} {i a : Journal} {keys : List RequestKey}
        {results : List RequestResult} {k : Journal} → OfCalls w D path i a keys results k →
        ((s : Mark) → Has s i → Has s a) → Closed (Made D) one i → Closed (Made D) one a
        → Reps (Made D) (map replays_run (runs_of results)) a k
    agree_calls no_calls f ci ca = none
    agree_calls (one_call {j = i} {a = a} {i = x} {k = k} {res = res} {results = results} e l walk
        so rest) f ci ca =
        let y : Reps (Made D) (map replays_run res.runs) i x = agree_walk walk i ci none in
        let z : Reps (Made D) (map replays_run res.runs) a (merge a x) = reps-grow (Made D) one y a
        ca f in
        let u = agree_calls rest (λ s h. has-merge_left s a x (f s h)) ci
        (reps-closed (Made D) one z ca).1 in
        subst (λ xs. Reps (Made D) xs a k) (sym (map-append replays_run res.runs (runs_of results)))
        (reps-append z u)
