-- The slots of a table: what holds of them after a run is begun or finished, and that each run is
-- there once.
use Rattle.std.proofs.Common.{
  ◌≡◌,
  ℕ,
  zero,
  suc,
  ◌+◌,
  ◌<◌,
  true,
  false,
  ◌||◌,
  ◌⊎◌,
  inl,
  inr,
  List,
  [],
  ◌∷◌,
  ◌++◌,
  length,
  map,
  reverse,
  slice_get,
  Option,
  None,
  Some,
  is_some,
  IsSome,
  not,
  refl,
  sym,
  ap,
  subst,
  ◌∙◌,
  arith,
}
use Rattle.std.specs.List.{IsDistinct}
use Rattle.std.specs.Map.{keys_of, lookup, lookup_key}
use Rattle.std.specs.Option.{option_map}
use Rattle.std.proofs.lemmas.List.{map-append}
use Rattle.std.proofs.lemmas.Map.Keys.{IsDistinct-tail}
use Rattle.std.proofs.lemmas.Map.Made.{lookup_key_passes}
use Rattle.indexmap.specs.Layout.{set_value_at}
use Rattle.result_cache.specs.declared.run.RunId.{RunId}
use Rattle.result_cache.specs.declared.record.Record.{Record}
use Rattle.result_cache.specs.declared.table.Begin.{Begin}
use Rattle.result_cache.specs.Kept.{KeptRuns, runs_of}
use Rattle.result_cache.specs.Lists.{In}
use Rattle.result_cache.specs.Same.{same_run, is_in, AreDistinct}
use Rattle.result_cache.specs.Slots.{Slot, Slots, begun_in, with_begun, IsKept, AreSlots}
use Rattle.result_cache.specs.Table.{
  Records,
  found,
  BegunRun,
  is_begun,
  request_of,
  TableRuns,
  HasEachOnce,
}
use Rattle.result_cache.proofs.RunTests.{clash, same_run-true}
use Rattle.result_cache.proofs.RunLists.{
  run_laws,
  found-other,
  found-last,
  distinct-behind,
  distinct-push,
  found-reverse,
  distinct-reverse,
}
use Rattle.result_cache.proofs.SlotEntries.{
  request_if,
  told-request,
  request-begun,
  lookup-in,
  begun-some,
  begun-push,
  taken-length,
  taken-in,
  absent-behind,
}

not-some : {X : Type 0} (o : Option X) → true ≡ not (is_some o) → o ≡ None
not-some None h = refl
not-some (Some x) h = absurd (cc)

-- a run of which something is kept has no record
pub kept-unfinished : (records : Records) (run : RunId) (begin : Begin)
    → IsKept records (run, Some begin) → found records run ≡ None
kept-unfinished records run begin k = not-some (found records run) k.unfinished

-- a run that is neither begun nor finished is in no entry
pub absent-entry : (kept : KeptRuns) (es : Slots) → AreSlots kept es → (run : RunId)
    → found kept.records run ≡ None → request_of (begun_in es) run ≡ None
    → lookup (same_run run) es ≡ None
absent-entry kept es slots run unfinished unbegun = by (lookup (same_run run) es) refl
  where
    by : (o : Option (Option Begin)) → lookup (same_run run) es ≡ o → o ≡ None
    by None h = refl
    by (Some None) h =
        let k = slots.each (run, None) (lookup-in run es None h) in
        let no : false ≡ true = k.unfinished ∙ ap (λ o. not (is_some o)) unfinished in absurd (cc)
    by (Some (Some begin)) h =
        let told : None ≡ Some begin.by = sym unbegun
        ∙ (told-request run es slots.distinct ∙ ap request_if h) in absurd (cc)

in-push : (es : Slots) (e f : Slot) → In f (es ++ e ∷ []) → In f es ⊎ (e ≡ f)
in-push [] e f (inl p) = inr p
in-push [] e f (inr p) = absurd p
in-push (x ∷ es) e f (inl p) = inl (inl p)
in-push (x ∷ es) e f (inr p) = elim (in-push es e f p) [ inl q ↦ inl (inr q) | inr q ↦ inr q ]

-- none
pub slots-none : (kept : KeptRuns) (es : Slots) → IsDistinct same_run (keys_of es)
    → AreDistinct (runs_of kept.records) → kept.room ≡ 0 → es ≡ [] → AreSlots kept es
slots-none kept es distinct finished room none = record {
  distinct = distinct;
  finished = finished;
  each = λ e there. absurd (subst (In e) none there);
  room = ap (λ l. length (begun_in l)) none ∙ sym room;
}

-- the same as before
pub slots-same : (kept later : KeptRuns) (es fs : Slots) → later.records ≡ kept.records
    → later.room ≡ kept.room → fs ≡ es → AreSlots kept es → AreSlots later fs
slots-same kept later es fs records room entries slots =
    subst (AreSlots later) (sym entries)
    (subst (λ k. AreSlots k es) (λ j. record { records = sym records j; room = sym room j }) slots)

-- the slots with a run that is begun
pub slots-begun : (kept later : KeptRuns) (es fs : Slots) (run : RunId) (begin : Begin)
    → AreSlots kept es → found kept.records run ≡ None → begin.run ≡ run
    → later.records ≡ kept.records → later.room ≡ kept.room + 1 → fs ≡ es ++ (run, Some begin) ∷ []
    → IsDistinct same_run (keys_of fs) → AreSlots later fs
slots-begun kept later es fs run begin slots unfinished own records room pushed distinct = record {
  distinct = distinct;
  finished =
      subst (λ l. AreDistinct (runs_of l)) (sym records) slots.finished;
  each = λ f there. subst (λ l. IsKept l f) (sym records) (each f (subst (In f) pushed there));
  room =
      let before = slots.room in
      let long = ap (λ l. length (begun_in l)) pushed ∙ ap length (begun-push es run begin) in
      omega arith;
}
  where
    each : (f : Slot) → In f (es ++ (run, Some begin) ∷ []) → IsKept kept.records f
    each f there = elim (in-push es (run, Some begin) f there) [
      | inl p ↦ slots.each f p
      | inr p ↦ subst (IsKept kept.records) p (record {
        unfinished = sym (ap (λ o. not (is_some o)) unfinished);
        named =
            λ other is. let same : begin ≡ other = cc in ap (λ (b : Begin). b.run) (sym same)
            ∙ own;
      })
    ]

place-in : (es : Slots) (i : ℕ) (e : Slot) → slice_get es i ≡ Some e → In e es
place-in [] i e h = absurd (cc)
place-in (x ∷ es) zero e h = inl (cc)
place-in (x ∷ es) (suc i) e h = inr (place-in es i e h)

keys-taken : (es : Slots) (i : ℕ) → keys_of (set_value_at es i None) ≡ keys_of es
keys-taken [] i = refl
keys-taken (e ∷ es) zero = refl
keys-taken (e ∷ es) (suc i) = ap (λ l. e.0 ∷ l) (keys-taken es i)

module _ (kept : KeptRuns) (es : Slots) (slots : AreSlots kept es) (i : ℕ) (run : RunId)
    (begin : Begin) (at : slice_get es i ≡ Some (run, Some begin)) where
  its-slot : IsKept kept.records (run, Some begin)
  its-slot = slots.each (run, Some begin) (place-in es i (run, Some begin) at)

  -- what is kept of the run at a place is its own
  pub own-name : begin.run ≡ run
  own-name = its-slot.named begin refl

  -- and the run has no record, so that it may get one
  pub finished-once : (made : Record)
      → AreDistinct (runs_of (kept.records ++ record { run = run; made = made } ∷ []))
  finished-once made =
      distinct-push kept.records (record { run = run; made = made }) slots.finished
      (kept-unfinished kept.records run begin its-slot)

  -- and room was taken for it
  pub has-room : 0 < kept.room
  has-room =
      let before = slots.room in
      let fewer = taken-length run begin es i at in
      omega arith

  module _ (later : KeptRuns) (made : Record)
      (records : later.records ≡ kept.records ++ record { run = run; made = made } ∷ [])
      (room : kept.room ≡ later.room + 1) where
    each : (f : Slot) → ((run, None) ≡ f) ⊎ (In f es × (same_run run f.0 ≡ false))
        → IsKept later.records f
    each f (inl p) = subst (IsKept later.records) p (record {
      unfinished =
          sym (ap (λ l. not (is_some (found l run))) records
          ∙ ap (λ o. not (is_some o))
          (found-last kept.records (record { run = run; made = made }) run (run_laws.refl run)
          (kept-unfinished kept.records run begin its-slot)));
      named = λ other is. absurd (cc);
    })
    each f (inr p) =
        let before = slots.each f p.0 in
        let same : found later.records f.0 ≡ found kept.records f.0 =
        ap (λ l. found l f.0) records
        ∙ found-other kept.records (record { run = run; made = made }) f.0 p.1 in record {
          unfinished = before.unfinished ∙ sym (ap (λ o. not (is_some o)) same);
          named = before.named;
        }

    -- the slots where the run is finished
    pub slots-finished : AreSlots later (set_value_at es i None)
    slots-finished = record {
      distinct = subst (IsDistinct same_run) (sym (keys-taken es i)) slots.distinct;
      finished =
          subst (λ l. AreDistinct (runs_of l)) (sym records) (finished-once made);
      each = λ f there. each f (taken-in run begin es i f slots.distinct at there);
      room =
          let before = slots.room in
          let fewer = taken-length run begin es i at in
          omega arith;
    }

-- ---- what a table's slots say of a run

abbrev pub table_of : KeptRuns → Slots → TableRuns
table_of kept es = record { finished = reverse kept.records; begun = begun_in es }

module _ (kept : KeptRuns) (es : Slots) (slots : AreSlots kept es) (table : TableRuns)
    (view_is : table_of kept es ≡ table) (run : RunId) where
  pub table-found : found table.finished run ≡ found kept.records run
  table-found =
      ap (λ (t : TableRuns). found t.finished run) (sym view_is)
      ∙ found-reverse kept.records run slots.finished

  pub table-begun : request_of table.begun run ≡ request_if (lookup (same_run run) es)
  table-begun =
      ap (λ (t : TableRuns). request_of t.begun run) (sym view_is)
      ∙ told-request run es slots.distinct

  pub table-absent : found table.finished run ≡ None → request_of table.begun run ≡ None
      → lookup (same_run run) es ≡ None
  table-absent unfinished unbegun =
      absent-entry kept es slots run (sym table-found ∙ unfinished)
      (ap (λ (t : TableRuns). request_of t.begun run) view_is ∙ unbegun)

  module _ (begun : IsSome (request_of table.begun run)) where
    requested : is_some (request_if (lookup (same_run run) es)) ≡ true
    requested = ap is_some (sym table-begun) ∙ begun

    -- a begun run has an entry
    pub has-entry : lookup (same_run run) es ≡ None → ⊥
    has-entry none = clash false (ap (λ o. is_some (request_if o)) (sym none) ∙ requested) refl

    -- which is not that of a run of which nothing is kept
    pub not-taken : (i : ℕ) (k j : RunId) (o : Option Begin) → slice_get es i ≡ Some (k, o)
        → lookup (same_run run) es ≡ Some o → slice_get es i ≡ Some (j, None) → ⊥
    not-taken i k j o at value taken =
        let p = request-begun o (ap (λ o. is_some (request_if o)) (sym value) ∙ requested) in
        let gone : Some o ≡ Some None = ap (option_map (λ (e : Slot). e.1)) (sym at ∙ taken) in
        let kept_is : o ≡ Some p.0 = p.1 in
        absurd (cc)

-- what was taken is that of the run that was searched
pub taken-at : (run : RunId) (es : Slots) (i : ℕ) (k j : RunId) (o : Option Begin) (begin : Begin)
    → slice_get es i ≡ Some (k, o) → lookup_key (same_run run) es ≡ Some k
    → slice_get es i ≡ Some (j, Some begin) → slice_get es i ≡ Some (run, Some begin)
taken-at run es i k j o begin at key taken =
    let same : run ≡ k = same_run-true run k (lookup_key_passes (same_run run) es k key) in
    let whose : Some k ≡ Some j = ap (option_map (λ (e : Slot). e.0)) (sym at ∙ taken) in
    let own : j ≡ run = cc in
    taken ∙ ap (λ r. Some (r, Some begin)) own

-- ---- each run is there once

is_in-begun : (run : RunId) (xs : List BegunRun)
    → is_in run (map (λ (b : BegunRun). b.run) xs) ≡ is_begun run xs
is_in-begun run [] = refl
is_in-begun run (b ∷ xs) = ap (λ t. same_run b.run run || t) (is_in-begun run xs)

begun-step : (k : RunId) (s : Option Begin) (xs : List BegunRun) → request_of xs k ≡ None
    → AreDistinct (map (λ (b : BegunRun). b.run) xs)
    → AreDistinct (map (λ (b : BegunRun). b.run) (with_begun k s xs))
begun-step k None xs none d = d
begun-step k (Some begin) xs none d =
    subst AreDistinct
    (sym (map-append (λ (b : BegunRun). b.run) xs (record { run = k; by = begin.by } ∷ [])))
    (distinct-behind (map (λ (b : BegunRun). b.run) xs) k d
    (is_in-begun k xs ∙ (begun-some k xs ∙ ap is_some none)))

begun-once : (es : Slots) → IsDistinct same_run (keys_of es)
    → AreDistinct (map (λ (b : BegunRun). b.run) (begun_in es))
begun-once [] d = tt
begun-once (e ∷ es) d =
    let tail = IsDistinct-tail same_run e.0 (keys_of es) d in
    let gone = absent-behind e.0 e es d (run_laws.refl e.0) in
    begun-step e.0 e.1 (begun_in es) (told-request e.0 es tail ∙ ap request_if gone)
    (begun-once es tail)

-- a run that is begun has no record
pub begun-unfinished : (kept : KeptRuns) (es : Slots) → AreSlots kept es → (run : RunId)
    → is_some (request_of (begun_in es) run) ≡ true → found kept.records run ≡ None
begun-unfinished kept es slots run begun =
    by (lookup (same_run run) es) refl
    (ap is_some (sym (told-request run es slots.distinct)) ∙ begun)
  where
    by : (o : Option (Option Begin)) → lookup (same_run run) es ≡ o
        → is_some (request_if (lookup (same_run run) es)) ≡ true → found kept.records run ≡ None
    by None h told =
        absurd (clash (is_some (request_if (lookup (same_run run) es))) told
        (ap (λ o. is_some (request_if o)) h))
    by (Some o) h told =
        let p = request-begun o (ap (λ o. is_some (request_if o)) (sym h) ∙ told) in
        kept-unfinished kept.records run p.0
        (slots.each (run, Some p.0) (lookup-in run es (Some p.0) (h ∙ ap Some p.1)))

pub each-once : (kept : KeptRuns) (es : Slots) → AreSlots kept es → HasEachOnce (table_of kept es)
each-once kept es slots = record {
  finished_once = distinct-reverse kept.records slots.finished;
  begun_once = begun-once es slots.distinct;
  apart = λ run begun.
      found-reverse kept.records run slots.finished
      ∙ begun-unfinished kept es slots run (sym (begun-some run (begun_in es)) ∙ begun);
}
