-- What is left to a request, replayed in the journal of its walk, gives the journal of its end.
use Rattle.std.proofs.Common.{
  ◌≡◌,
  Bool,
  true,
  false,
  ◌||◌,
  ◌==◌,
  inl,
  inr,
  List,
  [],
  ◌∷◌,
  ◌++◌,
  length,
  map,
  drop,
  None,
  Some,
  refl,
  ap,
  sym,
  ◌∙◌,
  subst,
}
use Rattle.msb_laws.specs.Asking.{and_then}
use Rattle.result_cache.specs.declared.run.RunId.{RunId}
use Rattle.result_cache.specs.declared.request.RequestResult.{RequestResult}
use Rattle.result_cache.specs.declared.record.Record.{Record}
use Rattle.result_cache.specs.Same.{same_run}
use Rattle.result_cache.specs.Lists.{In, this_or}
use Rattle.result_cache.specs.Journal.{
  Entry,
  Journal,
  act_of,
  acted,
  add,
  add_unless,
  end_of,
  ended,
  has,
}
use Rattle.result_cache.specs.Replay.{
  Effect,
  HasAll,
  effects_of,
  puts_act,
  replay,
  replay_all,
  replay_by,
  replays,
  replays_run,
}
use Rattle.result_cache.specs.Table.{Records, found}
use Rattle.result_cache.proofs.Closed.{replay-has}
use Rattle.result_cache.proofs.ReplayRelation.{Recorded}
use Rattle.result_cache.proofs.RunTests.{and_then-some, same_run-refl, same_run-true}
use Rattle.build_meaning.specs.World.{World}
use Rattle.build_meaning.specs.Walk.{Walk, gives, wants}
use Rattle.build_meaning.specs.SoFar.{nothing_yet, recorded, result_of, runs_of, with_calls}
use Rattle.build_meaning.specs.Stop.{Stopped, ends, asks, run_on}
use Rattle.build_meaning.specs.ByTable.{walk_by}
use Rattle.build_meaning.specs.State.{Place, Within, walking, within}
use Rattle.build_meaning.specs.Step.{only_if}
use Rattle.build_meaning.proofs.EventsKeepLawful.{some-is}
use Rattle.build_meaning.proofs.LawfulStates.{
  IsOnce,
  IsOrdered,
  LawfulJournal,
}
use Rattle.build_scheduler.specs.declared.walker.Answer.{Answer}
use Rattle.build_scheduler.specs.declared.walker.Answer.TheVariants.{First, Go, Use, Results}
use Rattle.build_scheduler.specs.Position.{Position, after_run, answered, stopped_in}

pub drop-front : {X : Type 0} (xs ys : List X) → drop (length xs) (xs ++ ys) ≡ ys
drop-front [] ys = refl
drop-front (x ∷ xs) ys = drop-front xs ys

all-of : {X : Type 0} (xs : List X) → xs ≡ xs ++ []
all-of [] = refl
all-of (x ∷ xs) = ap (λ ys. x ∷ ys) (all-of xs)

one-more : {X : Type 0} (xs : List X) (y : X) (ys : List X) → (xs ++ y ∷ []) ++ ys ≡ xs ++ y ∷ ys
one-more [] y ys = refl
one-more (x ∷ xs) y ys = ap (λ zs. x ∷ zs) (one-more xs y ys)

-- effects that a journal has add nothing, but for the end of this run
module _ (older : Records) (run : RunId) (made : Record) (j : Journal) where
  add-there : (b : Bool) (e : Entry) → b ≡ true → add_unless b j e ≡ j
  add-there true e h = refl
  add-there false e h = absurd (cc)

  pub nothing-added : (xs : List Effect) →
      ((s : RunId) → In (replays_run s) xs → run ≡ s → ⊥) →
      HasAll xs (ended run made ∷ j) → replays (replay older) xs j ≡ Some j
  nothing-added [] n h = refl
  nothing-added (puts_act r k act ∷ xs) n h =
      ap (λ a. replays (replay older) xs a) (add-there (has (act_of r k) j) (acted r k act) h.0)
      ∙ nothing-added xs (λ s i. n s (inr i)) h.1
  nothing-added (replays_run s ∷ xs) n h =
      ap (λ o. and_then o (replays (replay older) xs)) (replay-has older s j (there (same_run run s)
      refl h.0)) ∙ nothing-added xs (λ r i. n r (inr i)) h.1
    where
      there : (b : Bool) → same_run run s ≡ b → (b || has (end_of s) j) ≡ true →
          has (end_of s) j ≡ true
      there true e g = absurd (n s (inl refl) (same_run-true run s e))
      there false e g = g

-- a body's end is what the run's record gives in the journal of the body
pub ended-replays : (table : Records) → IsOnce table → IsOrdered table → (run : RunId)
    (made : Record) (j : Journal) → has (end_of run) j ≡ false → Recorded table run made →
    HasAll (effects_of run made) (ended run made ∷ j) →
    replay table run j ≡ Some (ended run made ∷ j)
ended-replays [] once ordered run made j n r h = absurd (cc)
ended-replays (f ∷ table) once ordered run made j n r h =
    ap (λ b. replay_by b (same_run f.run run) (replay table) f run j) n
    ∙ go (same_run f.run run) refl r
    (λ found_so. ended-replays table once.1 ordered.1 run made j n found_so h)
  where
    go : (b : Bool) → same_run f.run run ≡ b → this_or b (found table run) f.made ≡ Some made →
        (Recorded table run made → replay table run j ≡ Some (ended run made ∷ j)) →
        replay_by false b (replay table) f run j ≡ Some (ended run made ∷ j)
    go false e found_so older = older found_so
    go true e found_so older =
        let same : f.run ≡ run = same_run-true f.run run e in
        let its : f.made ≡ made = some-is f.made made found_so in
        let effects : effects_of f.run f.made ≡ effects_of run made =
        ap (λ r. effects_of r f.made) same ∙ ap (effects_of run) its in
        let other : (s : RunId) → In (replays_run s) (effects_of f.run f.made) → f.run ≡ s → ⊥ =
        λ s i k.
        let y = ordered.0 s i in
        let none : None ≡ Some y.0 =
        sym (subst (λ r. found table r ≡ None) k once.0) ∙ y.1 in absurd (cc) in
        let all : HasAll (effects_of f.run f.made) (ended f.run f.made ∷ j) =
        subst (λ m. HasAll (effects_of f.run m) (ended f.run m ∷ j)) (sym its)
        (subst (λ r. HasAll (effects_of r made) (ended r made ∷ j)) (sym same) h) in
        let fresh : has (end_of f.run) j ≡ false =
        subst (λ r. has (end_of r) j ≡ false) (sym same) n in
        ap (λ o. and_then o (λ after. Some (add after (ended f.run f.made))))
        (nothing-added table f.run f.made j (effects_of f.run f.made) other all)
        ∙ (ap (λ b. Some (add_unless b j (ended f.run f.made))) fresh
        ∙ (ap (λ r. Some (ended r f.made ∷ j)) same ∙ ap (λ m. Some (ended run m ∷ j)) its))

pub end-replays : (table : Records) → IsOnce table → IsOrdered table → (run : RunId)
    (made : Record) (j : Journal) (runs : List RunId) →
    LawfulJournal table (add j (ended run made)) runs →
    replay table run j ≡ Some (add j (ended run made))
end-replays table once ordered run made j runs lawful = go (has (end_of run) j) refl lawful
  where
    go : (b : Bool) → has (end_of run) j ≡ b →
        LawfulJournal table (add_unless b j (ended run made)) runs →
        replay table run j ≡ Some (add_unless b j (ended run made))
    go true e l = replay-has table run j e
    go false e l =
        let r : Recorded table run made = l.entries run made (inl refl) in
        ended-replays table once ordered run made j e r
        (l.closed.has_items run (ap (λ b. b || has (end_of run) j) (same_run-refl run)) made r)

module _ {P I A : Type 0} (w : World P I A) (table : Records) where
  -- what is left to a walk, replayed
  pub runs-left : (x : Walk P I A) (j last : Journal) (runs : List RunId)
      (result : RequestResult) → walk_by w table x j runs ≡ Some (result, last) →
      (rest : List RunId) × (result.runs ≡ runs ++ rest) × (replay_all table rest j ≡ Some last)
  runs-left (gives reply) j last runs result h =
      let p : (result_of reply runs, j) ≡ (result, last) =
      some-is (result_of reply runs, j) (result, last) h in (
        [],
        ap (λ (z : RequestResult × Journal). z.0.runs) (sym p) ∙ all-of runs,
        ap (λ (z : RequestResult × Journal). Some z.1) p,
      )
  runs-left (wants site run b go) j last runs result h =
      let f = and_then-some (found table run) (λ made. and_then (replay table run j) (λ next.
      walk_by w table (go made next) next (runs ++ run ∷ []))) (result, last) h in
      let g = and_then-some (replay table run j) (λ next.
      walk_by w table (go f.0 next) next (runs ++ run ∷ [])) (result, last) f.2 in
      let r = runs-left (go f.0 g.0) g.0 last (runs ++ run ∷ []) result g.2 in (
        run ∷ r.0,
        r.1 ∙ one-more runs run r.0,
        ap (λ o. and_then o (replays (replay table) (map replays_run r.0))) g.1 ∙ r.2,
      )

  -- where a request stands to which these runs are left, with the journal of its end
  pub record Leaves (p : Position P I A) (all rest : List RunId) (last : Journal) : Type 0 where
    pub runs : all ≡ p.runs ++ rest
    pub replays_so : replay_all table rest p.journal ≡ Some last
    pub lawful : LawfulJournal table p.journal p.runs

  abbrev FromBefore : Position P I A → List RunId → Journal → Type 0
  FromBefore p all last = replay_all table (drop (length p.runs) all) p.journal ≡ Some last

  -- in a body a place is not between two runs
  in-body : {C : Type 0} (runs : List RunId) (run : RunId) (go : Record → Journal → Walk P I A)
      (stopped : Stopped I A) (next : Position P I A) {y : Walk P I A} →
      stopped_in runs run go stopped ≡ next → next.place ≡ walking y → C
  in-body runs run go stopped next {y} s pl =
      let inside : Within P I A = record { run = run; so_far = stopped.so_far; go = go } in
      let k : within inside stopped.stop ≡ next.place = ap (λ (p : Position P I A). p.place) s in
      let m : within inside stopped.stop ≡ walking y = k ∙ pl in absurd (cc)

  -- with one more run
  one-before : (journal next last : Journal) (runs : List RunId) (run : RunId)
      (all rest : List RunId) → all ≡ (runs ++ run ∷ []) ++ rest →
      replay table run journal ≡ Some next → replay_all table rest next ≡ Some last →
      replay_all table (drop (length runs) all) journal ≡ Some last
  one-before journal next last runs run all rest e r h =
      ap (λ (rs : List RunId). replay_all table (drop (length runs) rs) journal)
      (e ∙ one-more runs run rest)
      ∙ (ap (λ (rs : List RunId). replay_all table rs journal) (drop-front runs (run ∷ rest))
      ∙ (ap (λ o. and_then o (replays (replay table) (map replays_run rest))) r ∙ h))

  -- before its next answer a walk leaves these runs, too, and the run of that answer
  pub left-before : IsOnce table → IsOrdered table → (p : Position P I A) (answer : Answer)
      (next : Position P I A) (y : Walk P I A) (all rest : List RunId) (last : Journal) →
      next.place ≡ walking y → answered w table p answer ≡ Some next →
      Leaves next all rest last → FromBefore p all last
  left-before once ordered p answer next y all rest last pl h l =
      by p.journal p.runs p.place answer pl h
    where
      by : (journal : Journal) (runs : List RunId) (from : Place P I A) (answer : Answer) →
          next.place ≡ walking y →
          answered w table (record { journal = journal; runs = runs; place = from })
          answer ≡ Some next → replay_all table (drop (length runs) all) journal ≡ Some last
      by journal runs from First pl h =
          let e = some-is (record { journal = journal; runs = runs; place = from }) next h in
          let m = subst (λ (z : Position P I A). Leaves z all rest last) (sym e) l in
          ap (λ (rs : List RunId). replay_all table (drop (length runs) rs) journal) m.runs
          ∙ (ap (λ (rs : List RunId). replay_all table rs journal) (drop-front runs rest)
          ∙ m.replays_so)
      by journal runs (walking (gives reply)) Go pl h = absurd (cc)
      by journal runs (walking (wants site run b go)) Go pl h =
          let stopped : Stopped I A = run_on w.tools run b journal nothing_yet in
          in-body runs run go stopped next (some-is (stopped_in runs run go stopped) next h) pl
      by journal runs (within v (ends outcome)) Go pl h = absurd (cc)
      by journal runs (within v (asks key keys go)) Go pl h = absurd (cc)
      by journal runs (walking (gives reply)) Use pl h = absurd (cc)
      by journal runs (walking (wants site run b go)) Use pl h =
          let f = and_then-some (found table run) (λ made.
          and_then (replay table run journal)
          (λ now. Some (after_run runs run go made now))) next h in
          let g = and_then-some (replay table run journal)
          (λ now. Some (after_run runs run go f.0 now)) next f.2 in
          let e = some-is (after_run runs run go f.0 g.0) next g.2 in
          let m = subst (λ (z : Position P I A). Leaves z all rest last) (sym e) l in
          one-before journal g.0 last runs run all rest m.runs g.1 m.replays_so
      by journal runs (within v (ends outcome)) Use pl h =
          let made : Record = recorded outcome v.so_far.segments in
          let after : Journal = add journal (ended v.run made) in
          let e = some-is (after_run runs v.run v.go made after) next h in
          let m = subst (λ (z : Position P I A). Leaves z all rest last) (sym e) l in
          one-before journal after last runs v.run all rest m.runs
          (end-replays table once ordered v.run made journal (runs ++ v.run ∷ []) m.lawful)
          m.replays_so
      by journal runs (within v (asks key keys go)) Use pl h = absurd (cc)
      by journal runs (walking (gives reply)) (Results results) pl h = absurd (cc)
      by journal runs (walking (wants site run b go)) (Results results) pl h = absurd (cc)
      by journal runs (within v (ends outcome)) (Results results) pl h = absurd (cc)
      by journal runs (within v (asks key keys go)) (Results results) pl h =
          let after : List RequestResult → Journal → Stopped I A =
          λ told now. run_on w.tools v.run (go told now) now
          (with_calls v.so_far (key ∷ keys) told) in
          let f = and_then-some (only_if (length results == length (key ∷ keys)) results)
          (λ told. and_then (replay_all table (runs_of told) journal)
          (λ now. Some (stopped_in runs v.run v.go (after told now)))) next h in
          let g = and_then-some (replay_all table (runs_of f.0) journal)
          (λ now. Some (stopped_in runs v.run v.go (after f.0 now))) next f.2 in
          in-body runs v.run v.go (after f.0 g.0) next
          (some-is (stopped_in runs v.run v.go (after f.0 g.0)) next g.2) pl
