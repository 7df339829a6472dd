-- The entries of a table's map: which request has begun a run, and what the entries are after a run
-- is begun or finished.
use Rattle.std.proofs.Common.{
  ◌≡◌,
  ℕ,
  zero,
  suc,
  ◌+◌,
  Bool,
  true,
  false,
  cond,
  ◌||◌,
  ◌⊎◌,
  inl,
  inr,
  List,
  [],
  ◌∷◌,
  ◌++◌,
  length,
  slice_get,
  Option,
  None,
  Some,
  is_some,
  refl,
  sym,
  ap,
  ◌∙◌,
  arith,
  length-append,
}
use Rattle.std.specs.List.{IsDistinct}
use Rattle.std.specs.Map.{keys_of, lookup}
use Rattle.std.proofs.lemmas.Map.{lookup-none}
use Rattle.std.proofs.lemmas.Map.Entries.{none_past_head, lookup_from_place}
use Rattle.std.proofs.lemmas.Map.Keys.{IsDistinct-tail}
use Rattle.indexmap.specs.Layout.{set_value_at}
use Rattle.result_cache.specs.declared.run.RunId.{RunId}
use Rattle.result_cache.specs.declared.table.Begin.{Begin}
use Rattle.result_cache.specs.Exact.{run-exact}
use Rattle.result_cache.specs.Lists.{In, this_or}
use Rattle.result_cache.specs.Same.{same_run}
use Rattle.result_cache.specs.Table.{BegunRun, is_begun, request_of, begun_unless, without}
use Rattle.result_cache.specs.Slots.{Slot, Slots, with_begun, begun_in}
use Rattle.result_cache.proofs.RunTests.{same_run-true}
use Rattle.result_cache.proofs.RunLists.{run_laws, this_or-none, or-some}

-- ---- the request that has begun a run

request-behind : (xs : List BegunRun) (b : BegunRun) (run : RunId) → same_run b.run run ≡ false
    → request_of (xs ++ b ∷ []) run ≡ request_of xs run
request-behind [] b run h = ap (λ t. this_or t None b.by) h
request-behind (x ∷ xs) b run h =
    ap (λ o. this_or (same_run x.run run) o x.by) (request-behind xs b run h)

request-last : (xs : List BegunRun) (b : BegunRun) (run : RunId) → same_run b.run run ≡ true
    → request_of xs run ≡ None → request_of (xs ++ b ∷ []) run ≡ Some b.by
request-last [] b run h n = ap (λ t. this_or t None b.by) h
request-last (x ∷ xs) b run h n =
    let p = this_or-none (same_run x.run run) (request_of xs run) x.by n in
    ap (λ t. this_or t (request_of (xs ++ b ∷ []) run) x.by) p.0 ∙ request-last xs b run h p.1

-- the request in what is kept of a run
abbrev pub request_if : Option (Option Begin) → Option ℕ
request_if None = None
request_if (Some None) = None
request_if (Some (Some begin)) = Some begin.by

request-here : (k run : RunId) (s : Option Begin) (xs : List BegunRun) → same_run k run ≡ true
    → request_of xs run ≡ None → request_of (with_begun k s xs) run ≡ request_if (Some s)
request-here k run None xs h n = n
request-here k run (Some begin) xs h n = request-last xs (record { run = k; by = begin.by }) run h n

request-there : (k run : RunId) (s : Option Begin) (xs : List BegunRun) → same_run k run ≡ false
    → request_of (with_begun k s xs) run ≡ request_of xs run
request-there k run None xs h = refl
request-there k run (Some begin) xs h = request-behind xs (record { run = k; by = begin.by }) run h

pub absent-behind : (run : RunId) (e : Slot) (es : Slots) → IsDistinct same_run (keys_of (e ∷ es))
    → same_run run e.0 ≡ true → lookup (same_run run) es ≡ None
absent-behind run e es d h = lookup-none (same_run run) es (none_past_head run_laws run e es d h)

pub told-request : (run : RunId) (es : Slots) → IsDistinct same_run (keys_of es)
    → request_of (begun_in es) run ≡ request_if (lookup (same_run run) es)
told-request run [] d = refl
told-request run (e ∷ es) d =
    by (same_run run e.0) refl (told-request run es (IsDistinct-tail same_run e.0 (keys_of es) d))
  where
    by : (b : Bool) → same_run run e.0 ≡ b
        → request_of (begun_in es) run ≡ request_if (lookup (same_run run) es)
        → request_of (with_begun e.0 e.1 (begun_in es)) run
        ≡ request_if (cond b (Some e.1) (lookup (same_run run) es))
    by true h rest =
        request-here e.0 run e.1 (begun_in es) (run_laws.symm e.0 run ∙ h)
        (rest ∙ ap request_if (absent-behind run e es d h))
    by false h rest = request-there e.0 run e.1 (begun_in es) (run_laws.symm e.0 run ∙ h) ∙ rest

-- the entry of a run that is not finished says which request has begun it
pub request-begun : (o : Option Begin) → is_some (request_if (Some o)) ≡ true
    → (begin : Begin) × (o ≡ Some begin)
request-begun None h = absurd (cc)
request-begun (Some begin) h = (begin, refl)

-- a look-up finds an entry
pub lookup-in : (run : RunId) (es : Slots) (o : Option Begin) → lookup (same_run run) es ≡ Some o
    → In (run, o) es
lookup-in run [] o h = absurd (cc)
lookup-in run (e ∷ es) o h = by (same_run run e.0) refl h (lookup-in run es o)
  where
    by : (b : Bool) → same_run run e.0 ≡ b → cond b (Some e.1) (lookup (same_run run) es) ≡ Some o
        → (lookup (same_run run) es ≡ Some o → In (run, o) es) → In (run, o) (e ∷ es)
    by true t h rest =
        let k : run ≡ e.0 = same_run-true run e.0 t in
        let v : e.1 ≡ o = cc in
        inl ((λ j. (sym k j, v j)))
    by false t h rest = inr (rest h)

-- a run is begun where a request has begun it
pub begun-some : (run : RunId) (begun : List BegunRun)
    → is_begun run begun ≡ is_some (request_of begun run)
begun-some run [] = refl
begun-some run (b ∷ begun) =
    ap (λ t. same_run b.run run || t) (begun-some run begun)
    ∙ or-some (same_run b.run run) (request_of begun run) b.by

-- ---- after a run is begun

in-front : (k : RunId) (s : Option Begin) (b : BegunRun) (xs : List BegunRun)
    → with_begun k s (b ∷ xs) ≡ b ∷ with_begun k s xs
in-front k None b xs = refl
in-front k (Some begin) b xs = refl

pub begun-push : (es : Slots) (run : RunId) (begin : Begin)
    → begun_in (es ++ (run, Some begin) ∷ []) ≡ record { run = run; by = begin.by } ∷ begun_in es
begun-push [] run begin = refl
begun-push (e ∷ es) run begin =
    ap (with_begun e.0 e.1) (begun-push es run begin)
    ∙ in-front e.0 e.1 (record { run = run; by = begin.by }) (begun_in es)

-- ---- after a run is finished

without-last : (k : RunId) (xs : List BegunRun) (b : BegunRun) → same_run b.run k ≡ true
    → without k (xs ++ b ∷ []) ≡ without k xs
without-last k [] b h = ap (λ t. begun_unless t b []) h
without-last k (x ∷ xs) b h = ap (begun_unless (same_run x.run k) x) (without-last k xs b h)

without-absent : (k : RunId) (xs : List BegunRun) → request_of xs k ≡ None → without k xs ≡ xs
without-absent k [] n = refl
without-absent k (x ∷ xs) n =
    let p = this_or-none (same_run x.run k) (request_of xs k) x.by n in
    ap (λ t. begun_unless t x (without k xs)) p.0 ∙ ap (λ l. x ∷ l) (without-absent k xs p.1)

unless-push : (t : Bool) (x b : BegunRun) (xs : List BegunRun)
    → begun_unless t x (xs ++ b ∷ []) ≡ begun_unless t x xs ++ b ∷ []
unless-push true x b xs = refl
unless-push false x b xs = refl

without-behind : (k : RunId) (xs : List BegunRun) (b : BegunRun) → same_run b.run k ≡ false
    → without k (xs ++ b ∷ []) ≡ without k xs ++ b ∷ []
without-behind k [] b h = ap (λ t. begun_unless t b []) h
without-behind k (x ∷ xs) b h =
    ap (begun_unless (same_run x.run k) x) (without-behind k xs b h)
    ∙ unless-push (same_run x.run k) x b (without k xs)

without-other : (k r : RunId) (s : Option Begin) (xs : List BegunRun) → same_run r k ≡ false
    → with_begun r s (without k xs) ≡ without k (with_begun r s xs)
without-other k r None xs h = refl
without-other k r (Some begin) xs h =
    sym (without-behind k xs (record { run = r; by = begin.by }) h)

-- an entry before that of a run is another run's
pub apart-before : (k : RunId) (s : Option Begin) (e : Slot) (es : Slots) (i : ℕ)
    → IsDistinct same_run (keys_of (e ∷ es)) → slice_get es i ≡ Some (k, s) → same_run e.0 k ≡ false
apart-before k s e es i d at = by (same_run k e.0) refl
  where
    by : (b : Bool) → same_run k e.0 ≡ b → same_run e.0 k ≡ false
    by true h =
        let there = lookup_from_place run_laws es i k s
        (IsDistinct-tail same_run e.0 (keys_of es) d) at in
        let gone = absent-behind k e es d h in absurd (cc)
    by false h = run_laws.symm e.0 k ∙ h

-- the run is taken out of those that are begun, where nothing more is kept of it
pub begun-taken : (k : RunId) (begin : Begin) (es : Slots) (i : ℕ)
    → IsDistinct same_run (keys_of es) → slice_get es i ≡ Some (k, Some begin)
    → begun_in (set_value_at es i None) ≡ without k (begun_in es)
begun-taken k begin [] i d at = absurd (cc)
begun-taken k begin (e ∷ es) zero d at =
    let here : e ≡ (k, Some begin) = cc in
    let same : same_run k e.0 ≡ true = (run-exact k e.0).1 (ap (λ p. p.0) (sym here)) in
    let gone = told-request k es (IsDistinct-tail same_run e.0 (keys_of es) d)
    ∙ ap request_if (absent-behind k e es d same) in
    sym (ap (λ p. without k (with_begun p.0 p.1 (begun_in es))) here
    ∙ without-last k (begun_in es) (record { run = k; by = begin.by }) ((run-exact k k).1 refl)
    ∙ without-absent k (begun_in es) gone)
begun-taken k begin (e ∷ es) (suc i) d at =
    ap (with_begun e.0 e.1)
    (begun-taken k begin es i (IsDistinct-tail same_run e.0 (keys_of es) d) at)
    ∙ without-other k e.0 e.1 (begun_in es) (apart-before k (Some begin) e es i d at)

-- one run fewer is begun
with-longer : (k : RunId) (s : Option Begin) (xs ys : List BegunRun) → length xs ≡ length ys + 1
    → length (with_begun k s xs) ≡ length (with_begun k s ys) + 1
with-longer k None xs ys h = h
with-longer k (Some begin) xs ys h =
    let b : BegunRun = record { run = k; by = begin.by } in
    omega (arith, length-append xs (b ∷ []), length-append ys (b ∷ []))

pub taken-length : (k : RunId) (begin : Begin) (es : Slots) (i : ℕ)
    → slice_get es i ≡ Some (k, Some begin)
    → length (begun_in es) ≡ length (begun_in (set_value_at es i None)) + 1
taken-length k begin [] i at = absurd (cc)
taken-length k begin (e ∷ es) zero at =
    let here : e ≡ (k, Some begin) = cc in
    ap (λ p. length (with_begun p.0 p.1 (begun_in es))) here
    ∙ length-append (begun_in es) (record { run = k; by = begin.by } ∷ [])
taken-length k begin (e ∷ es) (suc i) at =
    with-longer e.0 e.1 (begun_in es) (begun_in (set_value_at es i None))
    (taken-length k begin es i at)

later-apart : (k : RunId) (es : Slots) (f : Slot) → lookup (same_run k) es ≡ None → In f es
    → same_run k f.0 ≡ false
later-apart k [] f n there = absurd there
later-apart k (e ∷ es) f n there = by (same_run k e.0) refl n there (later-apart k es f)
  where
    by : (b : Bool) → same_run k e.0 ≡ b → cond b (Some e.1) (lookup (same_run k) es) ≡ None
        → In f (e ∷ es) → (lookup (same_run k) es ≡ None → In f es → same_run k f.0 ≡ false)
        → same_run k f.0 ≡ false
    by true t n there rest = absurd (cc)
    by false t n (inl p) rest = ap (λ q. same_run k q.0) (sym p) ∙ t
    by false t n (inr p) rest = rest n p

-- an entry afterwards is the one that was taken, or another run's as it was before
pub taken-in : (k : RunId) (begin : Begin) (es : Slots) (i : ℕ) (f : Slot)
    → IsDistinct same_run (keys_of es) → slice_get es i ≡ Some (k, Some begin)
    → In f (set_value_at es i None) → ((k, None) ≡ f) ⊎ (In f es × (same_run k f.0 ≡ false))
taken-in k begin [] i f d at there = absurd (cc)
taken-in k begin (e ∷ es) zero f d at (inl p) =
    let here : e ≡ (k, Some begin) = cc in inl (ap (λ q. (q.0, None)) (sym here) ∙ p)
taken-in k begin (e ∷ es) zero f d at (inr p) =
    let here : e ≡ (k, Some begin) = cc in
    inr (
      inr p,
      later-apart k es f
          (absent-behind k e es d ((run-exact k e.0).1 (ap (λ p. p.0) (sym here)))) p,
    )
taken-in k begin (e ∷ es) (suc i) f d at (inl p) =
    inr (
      inl p,
      run_laws.symm k f.0
          ∙ (ap (λ q. same_run q.0 k) (sym p) ∙ apart-before k (Some begin) e es i d at),
    )
taken-in k begin (e ∷ es) (suc i) f d at (inr p) =
    elim (taken-in k begin es i f (IsDistinct-tail same_run e.0 (keys_of es) d) at p) [
      | inl q ↦ inl q
      | inr q ↦ inr (inr q.0, q.1)
    ]
