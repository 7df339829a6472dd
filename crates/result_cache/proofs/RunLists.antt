-- The records of runs in lists: what is found in two lists or in one turned round, and which runs
-- are there once.
use Rattle.std.proofs.Common.{
  ◌≡◌,
  Bool,
  true,
  false,
  cond,
  ◌||◌,
  ℕ,
  List,
  [],
  ◌∷◌,
  ◌++◌,
  reverse,
  Option,
  None,
  Some,
  is_some,
  refl,
  sym,
  ap,
  subst,
  ◌∙◌,
}
use Rattle.std.specs.Cmp.{IsEquivalence, decided}
use Rattle.std.specs.Borrow.{Bor}
use Rattle.std.specs.List.{slice_get}
use Rattle.std.specs.Map.{lookup}
use Rattle.std.specs.Map.Iter.{deref_pair}
use Rattle.std.specs.Option.{option_map}
use Rattle.std.proofs.lemmas.List.{map-append, reverse-append}
use Rattle.std.proofs.lemmas.Option.{slice_get-map}
use Rattle.result_cache.specs.declared.run.RunId.{RunId}
use Rattle.result_cache.specs.declared.record.Record.{Record}
use Rattle.result_cache.specs.Exact.{run-exact}
use Rattle.result_cache.specs.Found.{seen_finished}
use Rattle.result_cache.specs.Kept.{records_of, runs_of}
use Rattle.result_cache.specs.Lists.{this_or}
use Rattle.result_cache.specs.Same.{same_run, is_in, AreDistinct}
use Rattle.result_cache.specs.Table.{FinishedRun, Records, found}
use Rattle.result_cache.proofs.RunTests.{or_neither, same_run-true}

pub run_laws : IsEquivalence same_run
run_laws = decided same_run run-exact

pub this_or-none : {X : Type 0} (b : Bool) (o : Option X) (x : X) → this_or b o x ≡ None
    → (b ≡ false) × (o ≡ None)
this_or-none true o x h = absurd (cc)
this_or-none false o x h = (refl, h)

pub or-some : {X : Type 0} (b : Bool) (o : Option X) (x : X)
    → (b || is_some o) ≡ is_some (this_or b o x)
or-some true o x = refl
or-some false o x = refl

-- ---- what is found in two lists

here-step : (b : Bool) (o p : Option Record) (x made : Record) → this_or b o x ≡ Some made
    → (o ≡ Some made → p ≡ Some made) → this_or b p x ≡ Some made
here-step true o p x made h f = h
here-step false o p x made h f = f h

-- what the first list has counts
pub found-here : (xs ys : Records) (run : RunId) (made : Record) → found xs run ≡ Some made
    → found (xs ++ ys) run ≡ Some made
found-here [] ys run made h = absurd (cc)
found-here (x ∷ xs) ys run made h =
    here-step (same_run x.run run) (found xs run) (found (xs ++ ys) run) x.made made h
    (found-here xs ys run made)

-- what the first list hasn't got is found in the second
pub found-later : (xs ys : Records) (run : RunId) → found xs run ≡ None
    → found (xs ++ ys) run ≡ found ys run
found-later [] ys run h = refl
found-later (x ∷ xs) ys run h =
    let p = this_or-none (same_run x.run run) (found xs run) x.made h in
    ap (λ b. this_or b (found (xs ++ ys) run) x.made) p.0 ∙ found-later xs ys run p.1

-- another run's record, behind a list, is not found
pub found-other : (xs : Records) (f : FinishedRun) (run : RunId) → same_run f.run run ≡ false
    → found (xs ++ f ∷ []) run ≡ found xs run
found-other [] f run h = ap (λ b. this_or b None f.made) h
found-other (x ∷ xs) f run h =
    ap (λ o. this_or (same_run x.run run) o x.made) (found-other xs f run h)

-- its own is
pub found-last : (xs : Records) (f : FinishedRun) (run : RunId) → same_run f.run run ≡ true
    → found xs run ≡ None → found (xs ++ f ∷ []) run ≡ Some f.made
found-last xs f run h n = found-later xs (f ∷ []) run n ∙ ap (λ b. this_or b None f.made) h

-- a look-up by key finds what is found in the records of the entries
pub lookup-found : (es : List (RunId × Record)) (run : RunId)
    → lookup (same_run run) es ≡ found (records_of es) run
lookup-found [] run = refl
lookup-found (e ∷ es) run = by (same_run e.0 run) (lookup-found es run) (run_laws.symm run e.0)
  where
    by : (b : Bool) → lookup (same_run run) es ≡ found (records_of es) run → same_run run e.0 ≡ b
        → cond (same_run run e.0) (Some e.1) (lookup (same_run run) es)
        ≡ this_or b (found (records_of es) run) e.1
    by true rest h = ap (λ b. cond b (Some e.1) (lookup (same_run run) es)) h
    by false rest h = ap (λ b. cond b (Some e.1) (lookup (same_run run) es)) h ∙ rest

-- one more entry is one more record
pub records-push : (es fs : List (RunId × Record)) (k run : RunId) (v made : Record) (old : Records)
    → fs ≡ es ++ (k, v) ∷ [] → k ≡ run → v ≡ made → records_of es ≡ old
    → records_of fs ≡ old ++ record { run = run; made = made } ∷ []
records-push es fs k run v made old pushed key value view_is =
    ap records_of pushed
    ∙ (map-append (λ (e : RunId × Record). record { run = e.0; made = e.1 }) es ((k, v) ∷ [])
    ∙ (λ j. view_is j ++ record { run = key j; made = value j } ∷ []))

abbrev row : RunId × Record → FinishedRun
row e = record { run = e.0; made = e.1 }

-- the entry at a place, behind references or not
pub seen-at : (r : Option (Bor RunId × Bor Record)) (es : List (RunId × Record)) (n : ℕ)
    → option_map deref_pair r ≡ slice_get es n
    → option_map seen_finished r ≡ slice_get (records_of es) n
seen-at r es n h = shown r ∙ (ap (option_map row) h ∙ sym (slice_get-map row es n))
  where
    shown : (r : Option (Bor RunId × Bor Record))
        → option_map seen_finished r ≡ option_map row (option_map deref_pair r)
    shown None = refl
    shown (Some p) = refl

-- ---- runs that are there once

pub is_in-found : (run : RunId) (xs : Records) → is_in run (runs_of xs) ≡ is_some (found xs run)
is_in-found run [] = refl
is_in-found run (f ∷ xs) =
    ap (λ t. same_run f.run run || t) (is_in-found run xs)
    ∙ or-some (same_run f.run run) (found xs run) f.made

none-some : {X : Type 0} (o : Option X) → is_some o ≡ false → o ≡ None
none-some None h = refl
none-some (Some x) h = absurd (cc)

pub out-found : (run : RunId) (xs : Records) → is_in run (runs_of xs) ≡ false → found xs run ≡ None
out-found run xs h = none-some (found xs run) (sym (is_in-found run xs) ∙ h)

out-apart : (xs : Records) (f : FinishedRun) (ys : Records) (run : RunId)
    → is_in run (runs_of (xs ++ f ∷ ys)) ≡ false → same_run run f.run ≡ false
out-apart [] f ys run h =
    run_laws.symm run f.run ∙ (or_neither (same_run f.run run) (is_in run (runs_of ys)) h).0
out-apart (x ∷ xs) f ys run h =
    out-apart xs f ys run (or_neither (same_run x.run run) (is_in run (runs_of (xs ++ f ∷ ys))) h).1

-- a run is not before its place
pub absent-before : (xs : Records) (f : FinishedRun) (ys : Records)
    → AreDistinct (runs_of (xs ++ f ∷ ys)) → found xs f.run ≡ None
absent-before [] f ys d = refl
absent-before (x ∷ xs) f ys d =
    ap (λ b. this_or b (found xs f.run) x.made) (out-apart xs f ys x.run d.0)
    ∙ absent-before xs f ys d.1

out-front : (xs ys : Records) (run : RunId) → is_in run (runs_of (xs ++ ys)) ≡ false
    → is_in run (runs_of xs) ≡ false
out-front [] ys run h = refl
out-front (x ∷ xs) ys run h =
    let p = or_neither (same_run x.run run) (is_in run (runs_of (xs ++ ys))) h in
    ap (λ b. b || is_in run (runs_of xs)) p.0 ∙ out-front xs ys run p.1

pub distinct-front : (xs ys : Records) → AreDistinct (runs_of (xs ++ ys)) → AreDistinct (runs_of xs)
distinct-front [] ys d = tt
distinct-front (x ∷ xs) ys d = (out-front xs ys x.run d.0, distinct-front xs ys d.1)

pub distinct-back : (xs ys : Records) → AreDistinct (runs_of (xs ++ ys)) → AreDistinct (runs_of ys)
distinct-back [] ys d = d
distinct-back (x ∷ xs) ys d = distinct-back xs ys d.1

is_in-push : (run other : RunId) (runs : List RunId) → is_in run runs ≡ false
    → same_run other run ≡ false → is_in run (runs ++ other ∷ []) ≡ false
is_in-push run other [] h o = ap (λ t. t || false) o
is_in-push run other (x ∷ runs) h o =
    let p = or_neither (same_run x run) (is_in run runs) h in
    ap (λ t. t || is_in run (runs ++ other ∷ [])) p.0 ∙ is_in-push run other runs p.1 o

-- a run that is not there may come behind
pub distinct-behind : (runs : List RunId) (run : RunId) → AreDistinct runs → is_in run runs ≡ false
    → AreDistinct (runs ++ run ∷ [])
distinct-behind [] run d h = (refl, tt)
distinct-behind (x ∷ runs) run d h =
    let p = or_neither (same_run x run) (is_in run runs) h in
    (is_in-push x run runs d.0 (run_laws.symm run x ∙ p.0), distinct-behind runs run d.1 p.1)

pub distinct-push : (xs : Records) (f : FinishedRun) → AreDistinct (runs_of xs)
    → found xs f.run ≡ None → AreDistinct (runs_of (xs ++ f ∷ []))
distinct-push xs f d n =
    subst AreDistinct (sym (map-append (λ (f : FinishedRun). f.run) xs (f ∷ [])))
    (distinct-behind (runs_of xs) f.run d (is_in-found f.run xs ∙ ap is_some n))

-- ---- a list turned round

pub found-reverse : (xs : Records) (run : RunId) → AreDistinct (runs_of xs)
    → found (reverse xs) run ≡ found xs run
found-reverse [] run d = refl
found-reverse (x ∷ xs) run d =
    ap (λ l. found l run) (reverse-append (x ∷ []) xs)
    ∙ by (same_run x.run run) refl (found-reverse xs run d.1)
  where
    by : (b : Bool) → same_run x.run run ≡ b → found (reverse xs) run ≡ found xs run
        → found (reverse xs ++ x ∷ []) run ≡ this_or b (found xs run) x.made
    by true h rest =
        let gone : found xs run ≡ None = ap (found xs) (sym (same_run-true x.run run h))
        ∙ out-found x.run xs d.0 in
        found-last (reverse xs) x run h (rest ∙ gone)
    by false h rest = found-other (reverse xs) x run h ∙ rest

pub distinct-reverse : (xs : Records) → AreDistinct (runs_of xs)
    → AreDistinct (runs_of (reverse xs))
distinct-reverse [] d = tt
distinct-reverse (x ∷ xs) d =
    subst (λ l. AreDistinct (runs_of l)) (sym (reverse-append (x ∷ []) xs))
    (distinct-push (reverse xs) x (distinct-reverse xs d.1)
    (found-reverse xs x.run d.1 ∙ out-found x.run xs d.0))
