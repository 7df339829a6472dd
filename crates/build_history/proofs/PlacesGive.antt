-- What the recursion of the meaning gives from a place that it passes on is what it gives for the
-- request.
use Rattle.std.proofs.Common.{
  ◌≡◌,
  ℕ,
  suc,
  ◌+◌,
  List,
  [],
  ◌∷◌,
  ◌++◌,
  length,
  None,
  Some,
  refl,
  sym,
  subst,
  arith,
}
use Rattle.result_cache.specs.declared.run.RunId.{RunId}
use Rattle.result_cache.specs.declared.request.RequestKey.{RequestKey}
use Rattle.result_cache.specs.declared.request.RequestResult.{RequestResult}
use Rattle.result_cache.specs.declared.record.Record.{Record}
use Rattle.result_cache.specs.Journal.{Journal, acted, ended, add}
use Rattle.result_cache.specs.Same.{is_in}
use Rattle.build_meaning.specs.World.{World}
use Rattle.build_meaning.specs.Walk.{Walk, Body, makes, does, uses, calls}
use Rattle.build_meaning.specs.SoFar.{
  ToolUse,
  SoFar,
  nothing_yet,
  with_act,
  with_tool,
  with_calls,
  recorded,
}
use Rattle.build_meaning.specs.Meaning.{
  requested,
  together,
  built,
  Given,
  containing,
  deepest,
  at_once,
  body,
  made_then,
  wanted,
  walk,
  request,
}
use Rattle.build_meaning.specs.Stands.{body_of}
use Rattle.build_meaning.specs.State.{Place, walking, within}
use Rattle.build_meaning.specs.Stop.{run_on}
use Rattle.build_meaning.proofs.DerivedMeaning.{Comes, then-comes, also-comes, just}
use Rattle.build_history.specs.Places.{Called, Passes, root, call, known, enters, resumes, ends_so}

one_depth : (a b n m : ℕ) → a + n ≡ m → b + n ≡ m → a ≡ b
one_depth a b n m e f = omega arith

module _ {P I A : Type 0} (w : World P I A) where
  -- a body gives what its rest gives where it has stopped
  rest_of : (d : ℕ) (path : List RunId) (r : RunId) (b : Body I A) (j : Journal) (so_far : SoFar I)
      → body w (request w d path) r b j so_far
      ≡ body w (request w d path) r (body_of (run_on w.tools r b j so_far).stop)
      (run_on w.tools r b j so_far).journal (run_on w.tools r b j so_far).so_far
  rest_of d path r (makes outcome) j so_far = refl
  rest_of d path r (does act go) j so_far = let k : Journal = add j
      (acted r (length so_far.segments) act) in rest_of d path r (go k) k (with_act so_far act)
  rest_of d path r (uses name input go) j so_far = rest_of d path r (go (w.tools name input)) j
      (with_tool so_far name input)
  rest_of d path r (calls key keys go) j so_far = refl

  -- from this place on, at this depth, the recursion gives a result and a journal
  abbrev GivesFrom : ℕ → List RunId → List RunId → Journal → Place P I A → RequestResult → Journal →
      Type 0
  GivesFrom d path runs j (walking x) v k = Comes (walk w (request w d) path x j runs) v k
  GivesFrom d path runs j (within x stop) v k =
      (m : Record) × (tools : List (ToolUse I)) × (i : Journal)
      × Comes (body w (request w d (x.run ∷ path)) x.run (body_of stop) j x.so_far) (m, tools) i
      × Comes
      (walk w (request w d) path (x.go m (add i (ended x.run m))) (add i (ended x.run m))
      (runs ++ x.run ∷ [])) v k

  -- and so it does from the request's beginning
  from_first : {q : Called} {runs : List RunId} {j : Journal} {place : Place P I A} →
      Passes w q runs j place → (d : ℕ) → d + suc (length q.path) ≡ deepest →
      (v : RequestResult) (k : Journal) →
      GivesFrom d q.path runs j place v k
      → Comes (walk w (request w d) q.path (w.walks q.key q.base) q.base []) v k
  from_first root d h v k c = c
  from_first (call key p i) d h v k c = c
  from_first (known {q = q} {runs = runs} {j = j} {site = site} {r = r} {b = b} {go = go} made p e)
      d
      h v k c =
      from_first p d h v k
      (subst (λ o. Comes (wanted w o (is_in r q.path)
      (body w (request w d (r ∷ q.path)) r b j nothing_yet) site r j
      (λ x next. walk w (request w d) q.path (go x next) next (runs ++ r ∷ []))) v k) (sym e) c)
  from_first (enters {q = q} {runs = runs} {j = j} {site = site} {r = r} {b = b} {go = go} p e n) d
      h
      v k (m, tools, i, c, rest) =
      let next = λ (x : Record) (next : Journal). walk w (request w d) q.path (go x next) next
      (runs ++ r ∷ []) in
      let all = body w (request w d (r ∷ q.path)) r b j nothing_yet in
      let mine : Comes all (m, tools) i = subst (λ o. Comes o (m, tools) i)
      (sym (rest_of d (r ∷ q.path) r b j nothing_yet)) c in
      let both = then-comes all (made_then w site r j next) (m, tools) i v k mine
      (also-comes (built site r j m tools) (next m (add i (ended r m))) v k rest) in
      from_first p d h v k
      (subst (λ o. Comes (wanted w o (is_in r q.path) all site r j next) v k) (sym e)
      (subst (λ t. Comes (wanted w None t all site r j next) v k) (sym n) both))
  from_first
      (resumes {q = q} {runs = runs} {j = j} {x = x} {first = first} {more = more} {go = go} depth
      given p e a) d h v k (m, tools, i, c, rest) =
      let same : depth ≡ d = one_depth depth d (suc (length q.path)) deepest e h in
      let keys : List RequestKey = first ∷ more in
      let path : List RunId = x.run ∷ q.path in
      let asked : at_once w (request w d path) j j keys
      ≡ Some given = subst (λ n. at_once w (request w n path) j j keys ≡ Some given) same a in
      let then_so = λ (results : List RequestResult) (next : Journal). body w (request w d path)
      x.run (go results next) next (with_calls x.so_far keys results) in
      let mine : Comes (then_so given.value given.journal) (m, tools) i =
      subst (λ o. Comes o (m, tools) i)
      (sym
      (rest_of d path x.run (go given.value given.journal) given.journal
      (with_calls x.so_far keys given.value))) c in
      from_first p d h v k (
        m,
        tools,
        i,
        then-comes (containing (together keys) (at_once w (request w d path) j j keys)) then_so
            given.value given.journal (m, tools) i
            (also-comes (together keys) (at_once w (request w d path) j j keys) given.value
            given.journal (given, asked, refl, refl)) mine,
        rest,
      )
  from_first (ends_so {j = j} {x = x} {outcome = outcome} p) d h v k c =
      from_first p d h v k (
        recorded outcome x.so_far.segments,
        x.so_far.tools,
        j,
        just
            (recorded outcome x.so_far.segments, x.so_far.tools) j [],
        c,
      )

  pub places_give : (q : Called) (runs : List RunId) (j : Journal) (x : Walk P I A) →
      Passes w q runs j (walking x) → (depth : ℕ) → depth + suc (length q.path) ≡ deepest →
      (rest : Given P I RequestResult) →
      walk w (request w depth) q.path x j runs ≡ Some rest →
      (whole : Given P I RequestResult) × (request w (suc depth) q.path q.base q.key ≡ Some whole)
      × (whole.value ≡ rest.value) × (whole.journal ≡ rest.journal)
  places_give q runs j x p depth h rest e =
      also-comes (requested q.key)
      (walk w (request w depth) q.path (w.walks q.key q.base) q.base []) rest.value rest.journal
      (from_first p depth h rest.value rest.journal (rest, e, refl, refl))
