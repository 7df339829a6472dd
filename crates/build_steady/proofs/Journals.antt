-- The journals of a check are got by replaying, and what follows of them.
use Rattle.std.proofs.Common.{
  ◌≡◌,
  ℕ,
  Bool,
  true,
  false,
  inl,
  inr,
  List,
  [],
  ◌∷◌,
  ◌++◌,
  length,
  map,
  Option,
  None,
  Some,
  IsSome,
  is_some,
  refl,
  ap,
  sym,
  ◌∙◌,
  subst,
}
use Rattle.msb_laws.specs.Asking.{and_then}
use Rattle.msb_values.specs.declared.act.Act.{Act}
use Rattle.result_cache.specs.declared.run.RunId.{RunId}
use Rattle.result_cache.specs.declared.request.RequestKey.{RequestKey}
use Rattle.result_cache.specs.declared.request.RequestResult.{RequestResult}
use Rattle.result_cache.specs.declared.record.Record.{Record}
use Rattle.result_cache.specs.Same.{same_run}
use Rattle.result_cache.specs.Lists.{In}
use Rattle.result_cache.specs.Journal.{
  Journal,
  Mark,
  end_of,
  acted,
  ended,
  has,
  add,
  merge,
  record_of,
}
use Rattle.result_cache.specs.Replay.{
  Effect,
  puts_act,
  replays_run,
  effects_from,
  effects_of,
  replays,
  replay,
  replay_all,
}
use Rattle.result_cache.specs.Table.{FinishedRun, Records, found}
use Rattle.result_cache.proofs.RunTests.{and_then-some, clash}
use Rattle.result_cache.proofs.JournalEntries.{Has, had-in, had-none, has-in, HasAll-in}
use Rattle.result_cache.proofs.Closed.{replay-has}
use Rattle.result_cache.proofs.ReplayRelation.{
  Rep,
  old,
  new,
  Reps,
  none,
  also,
  reps-append,
  reps-map,
  reps_all,
  Closed,
  closed-empty,
  reps-closed,
  reps-keep,
  reps-grow,
  rep-one,
  reps-one,
  replays-sound,
  Recorded,
}
use Rattle.build_meaning.specs.World.{World}
use Rattle.build_meaning.specs.Walk.{Body, makes, does, uses, calls}
use Rattle.build_meaning.specs.SoFar.{SoFar, nothing_yet, with_act, with_tool, with_calls, runs_of}
use Rattle.build_meaning.specs.Stop.{run_on}
use Rattle.build_meaning.proofs.BuildingReplays.{map-append, items-acted, items-calls}
use Rattle.build_meaning.proofs.LawfulStates.{
  one_record,
  IsOnce,
  IsFinished,
  IsOrdered,
  found-newest,
  found-grows,
  replay-rep,
}
use Rattle.build_meaning.proofs.HistoriesGoOn.{replay-total, replay_all-total}
use Rattle.build_meaning.proofs.GrowingTables.{
  Newer,
  same_table,
  one_newer,
  newer-found,
  newer-replay,
}
use Rattle.build_scheduler.specs.Learnt.{AreInOrder, ArePartOf}
use Rattle.build_steady.specs.Waiting.{
  Waiting,
  start_of,
  HasReplayed,
  IsInBody,
  HasReplayedCalls,
  HaveReplayed,
}

-- a table in order has each run once, and the runs of a record's calls before it
pub once-of : (table : Records) → AreInOrder table → IsOnce table
once-of [] o = tt
once-of (f ∷ table) o = (o.0, once-of table o.2)

pub finished-some : (table : Records) (r : RunId) → IsSome (found table r) → IsFinished table r
finished-some table r h = go (found table r) refl h
  where
    go : (o : Option Record) → found table r ≡ o → IsSome o → IsFinished table r
    go (Some m) e h = (m, e)
    go None e h = absurd (cc)

pub ordered-of : (table : Records) → AreInOrder table → IsOrdered table
ordered-of [] o = tt
ordered-of (f ∷ table) o = ((λ s i. finished-some table s (o.1 s i)), ordered-of table o.2)

pub some-finished : (table : Records) (r : RunId) → IsFinished table r → IsSome (found table r)
some-finished table r h = ap is_some h.1

-- a closed journal whose runs are those of the table
pub record IsGood (table : Records) (j : Journal) : Type 0 where
  pub closed : Closed (Recorded table) (one_record table) j
  pub ended_are : (r : RunId) (m : Record) → In (ended r m) j → Recorded table r m

pub good-nothing : (table : Records) → IsGood table []
good-nothing table = record {
  closed = closed-empty (Recorded table) (one_record table);
  ended_are =
      λ r m i. absurd i;
}

-- replaying one after the other
pub replays-append : (one : RunId → Journal → Option Journal) (xs ys : List Effect)
    (j k : Journal) → replays one xs j ≡ Some k → replays one (xs ++ ys) j ≡ replays one ys k
replays-append one [] ys j k h = let e : j ≡ k = cc in ap (replays one ys) e
replays-append one (puts_act r n p ∷ xs) ys j k h =
    replays-append one xs ys (add j (acted r n p)) k h
replays-append one (replays_run r ∷ xs) ys j k h =
    let x = and_then-some (one r j) (replays one xs) k h in
    ap (λ o. and_then o (replays one (xs ++ ys))) x.1 ∙ replays-append one xs ys x.0 k x.2

pub replayed-then : (table : Records) (xs ys : List Effect) (j k l : Journal) →
    HasReplayed table xs j k → HasReplayed table ys k l → HasReplayed table (xs ++ ys) j l
replayed-then table xs ys j k l h g = replays-append (replay table) xs ys j k h ∙ g

-- one more run
pub replayed-run : (table : Records) (runs : List RunId) (r : RunId) (j k l : Journal) →
    HasReplayed table (map replays_run runs) j k → replay table r k ≡ Some l →
    HasReplayed table (map replays_run (runs ++ r ∷ [])) j l
replayed-run table runs r j k l h g =
    subst (λ xs. HasReplayed table xs j l) (sym (map-append replays_run runs (r ∷ [])))
    (replayed-then table (map replays_run runs) (replays_run r ∷ []) j k l h
    (ap (λ o. and_then o (replays (replay table) [])) g))

-- as a relation
pub as-reps : (table : Records) → IsOnce table → (xs : List Effect) (j k : Journal) →
    HasReplayed table xs j k → Reps (Recorded table) xs j k
as-reps table o xs j k h =
    replays-sound (Recorded table) (replay table) (replay-rep table o) xs j k h

-- from a good journal
pub good-more : (table : Records) → AreInOrder table → (xs : List Effect) (j k : Journal) →
    IsGood table j → HasReplayed table xs j k → IsGood table k
good-more table o xs j k g h =
    let d = as-reps table (once-of table o) xs j k h in record {
      closed = (reps-closed (Recorded table) (one_record table) d g.closed).1;
      ended_are = reps_all (Recorded table) (Recorded table) (λ r m f. f) d g.ended_are;
    }

pub finished-in : (table : Records) → AreInOrder table → (xs : List Effect) (j k : Journal) →
    IsGood table j → HasReplayed table xs j k → (r : RunId) → In (replays_run r) xs →
    IsFinished table r
finished-in table o xs j k g h r i =
    let d = as-reps table (once-of table o) xs j k h in
    let there : Has (end_of r) k = HasAll-in xs k (replays_run r) (reps-closed (Recorded table)
    (one_record table) d g.closed).0 i in
    let x = has-in r k there in
    (x.0, (good-more table o xs j k g h).ended_are r x.0 x.1)

-- a relation of runs as the function
in-mapped : (r : RunId) (runs : List RunId) → In r runs → In (replays_run r) (map replays_run runs)
in-mapped r [] i = absurd i
in-mapped r (x ∷ runs) (inl p) = inl (ap replays_run p)
in-mapped r (x ∷ runs) (inr i) = inr (in-mapped r runs i)

pub reps-as : (table : Records) → AreInOrder table → (runs : List RunId) (j k : Journal) →
    ((r : RunId) → In (replays_run r) (map replays_run runs) → IsFinished table r) →
    Reps (Recorded table) (map replays_run runs) j k →
    HasReplayed table (map replays_run runs) j k
reps-as table o runs j k f d =
    let x = replay_all-total table (ordered-of table o) runs j (λ r i. f r (in-mapped r runs i)) in
    let e : k ≡ x.0 = reps-one (Recorded table) (one_record table) d x.0
    (as-reps table (once-of table o) (map replays_run runs) j x.0 x.1) in
    x.1 ∙ ap Some (sym e)

-- a body that is over is replayed as it was made
pub body-replayed : (table : Records) → AreInOrder table →
    (r : RunId) (m : Record) (j k : Journal) → found table r ≡ Some m → has (end_of r) j ≡ false →
    HasReplayed table (effects_of r m) j k → replay table r j ≡ Some (add k (ended r m))
body-replayed table o r m j k f h d =
    let x = replay-total table (ordered-of table o) r j (m, f) in
    let e : add k (ended r m) ≡ x.0 = rep-one (Recorded table) (one_record table)
    (new h f (as-reps table (once-of table o) (effects_of r m) j k d)) x.0
    (replay-rep table (once-of table o) r j x.0 x.1) in
    x.1 ∙ ap Some (sym e)

-- a larger table
effects-newer : (table larger : Records) → Newer table larger → (xs : List Effect) (j : Journal) →
    ((r : RunId) → In (replays_run r) xs → IsFinished table r) → replays (replay larger) xs j
    ≡ replays (replay table) xs j
effects-newer table larger n [] j f = refl
effects-newer table larger n (puts_act r i p ∷ xs) j f =
    effects-newer table larger n xs (add j (acted r i p)) (λ s t. f s (inr t))
effects-newer table larger n (replays_run r ∷ xs) j f =
    ap (λ o. and_then o (replays (replay larger) xs)) (newer-replay n r j (f r (inl refl)))
    ∙ go (replay table r j) (λ k. effects-newer table larger n xs k (λ s t. f s (inr t)))
  where
    go : (o : Option Journal) → ((k : Journal) → replays (replay larger) xs k
        ≡ replays (replay table) xs k) → and_then o (replays (replay larger) xs)
        ≡ and_then o (replays (replay table) xs)
    go None h = refl
    go (Some k) h = h k

pub replayed-newer : (table larger : Records) → AreInOrder table → Newer table larger →
    (xs : List Effect) (j k : Journal) → IsGood table j → HasReplayed table xs j k →
    HasReplayed larger xs j k
replayed-newer table larger o n xs j k g h =
    effects-newer table larger n xs j (finished-in table o xs j k g h) ∙ h

pub part-newer : (part table larger : Records) → Newer table larger → ArePartOf part table →
    ArePartOf part larger
part-newer part table larger n p =
    record { in_order = p.in_order; shared = λ r m h. newer-found n r m (p.shared r m h) }

-- a body that goes on until it stops
pub run-replayed : {I A : Type 0} (table : Records) (tools : List ℕ → I → A) (r : RunId)
    (b : Body I A) (j k : Journal) (so_far : SoFar I) →
    HasReplayed table (effects_from r 0 so_far.segments) j k →
    HasReplayed table (effects_from r 0 (run_on tools r b k so_far).so_far.segments) j
    (run_on tools r b k so_far).journal
run-replayed table tools r (makes outcome) j k so_far h = h
run-replayed table tools r (does act go) j k so_far h =
    run-replayed table tools r (go (add k (acted r (length so_far.segments) act))) j
    (add k (acted r (length so_far.segments) act)) (with_act so_far act)
    (subst (λ xs. HasReplayed table xs j (add k (acted r (length so_far.segments) act)))
    (sym (items-acted r so_far act))
    (replayed-then table (effects_from r 0 so_far.segments) (puts_act r (length so_far.segments) act
    ∷ []) j k (add k (acted r (length so_far.segments) act)) h refl))
run-replayed table tools r (uses name input go) j k so_far h =
    run-replayed table tools r (go (tools name input)) j k (with_tool so_far name input) h
run-replayed table tools r (calls key keys go) j k so_far h = h

-- the journal of a caller, and that with which a request begins
pub caller-good : {P I A : Type 0} (table : Records) → AreInOrder table → (c : Waiting P I A) →
    IsGood table c.start → HasReplayedCalls table c → IsGood table c.begun × IsGood table c.journal
    × IsGood table c.merged
caller-good table o c g h =
    let a = good-more table o (map replays_run c.runs) c.start c.begun g h.inside.before in
    let b = good-more table o (effects_from c.inside.run 0 c.inside.so_far.segments) c.begun
    c.journal a h.inside.done in
    (a, b, good-more table o (map replays_run (runs_of c.results)) c.journal c.merged b h.called)

pub start-good : {P I A : Type 0} (table : Records) → AreInOrder table →
    (callers : List (Waiting P I A)) → HaveReplayed table callers → IsGood table (start_of callers)
start-good table o [] h = good-nothing table
start-good table o (c ∷ callers) h =
    (caller-good table o c (subst (IsGood table) (sym h.1) (start-good table o callers h.2)) h.0).1

-- callers, by a larger table
pub caller-newer : {P I A : Type 0} (table larger : Records) → AreInOrder table →
    Newer table larger →
    (c : Waiting P I A) → IsGood table c.start → HasReplayedCalls table c →
    HasReplayedCalls larger c
caller-newer table larger o n c g h =
    let good = caller-good table o c g h in record {
      inside = record {
        before = replayed-newer table larger o n (map replays_run c.runs) c.start c.begun g
            h.inside.before;
        fresh = h.inside.fresh;
        done = replayed-newer table larger o n (effects_from c.inside.run 0
            c.inside.so_far.segments) c.begun c.journal good.0 h.inside.done;
      };
      called = replayed-newer table larger o n (map replays_run (runs_of c.results)) c.journal
          c.merged good.1 h.called;
    }

pub callers-newer : {P I A : Type 0} (table larger : Records) → AreInOrder table →
    Newer table larger → (callers : List (Waiting P I A)) → HaveReplayed table callers →
    HaveReplayed larger callers
callers-newer table larger o n [] h = tt
callers-newer table larger o n (c ∷ callers) h = (
  caller-newer table larger o n c (subst (IsGood table) (sym h.1) (start-good table o callers
      h.2)) h.0,
  h.1,
  callers-newer table larger o n callers h.2,
)

-- one more call is over
runs-append : (results : List RequestResult) (result : RequestResult) →
    runs_of (results ++ result ∷ []) ≡ runs_of results ++ result.runs
runs-append [] result = nothing result.runs
  where
    nothing : (xs : List RunId) → xs ++ [] ≡ xs
    nothing [] = refl
    nothing (x ∷ xs) = ap (λ l. x ∷ l) (nothing xs)
runs-append (x ∷ results) result = ap (λ l. x.runs ++ l) (runs-append results result)
    ∙ regroup x.runs (runs_of results) result.runs
  where
    regroup : (a b c : List RunId) → a ++ (b ++ c) ≡ (a ++ b) ++ c
    regroup [] b c = refl
    regroup (x ∷ a) b c = ap (λ l. x ∷ l) (regroup a b c)

pub call-merged : (table : Records) → AreInOrder table →
    (j merged left : Journal) (results : List RequestResult) (result : RequestResult) →
    IsGood table j → HasReplayed table (map replays_run (runs_of results)) j merged →
    HasReplayed table (map replays_run result.runs) j left →
    HasReplayed table (map replays_run (runs_of (results ++ result ∷ []))) j (merge merged left)
call-merged table o j merged left results result g h d =
    let once = once-of table o in
    let good = good-more table o (map replays_run (runs_of results)) j merged g h in
    let keeps = reps-keep (Recorded table) (as-reps table once (map replays_run (runs_of results)) j
    merged h) in
    let grown = reps-grow (Recorded table) (one_record table)
    (as-reps table once (map replays_run result.runs) j left d) merged good.closed keeps in
    let one = reps-as table o result.runs merged (merge merged left)
    (finished-in table o (map replays_run result.runs) j left g d) grown in
    subst (λ rs. HasReplayed table (map replays_run rs) j (merge merged left))
    (sym (runs-append results result))
    (subst (λ xs. HasReplayed table xs j (merge merged left))
    (sym (map-append replays_run (runs_of results) result.runs))
    (replayed-then table (map replays_run (runs_of results)) (map replays_run result.runs) j merged
    (merge merged left) h one))

-- a body with its calls
pub calls-replayed : {I : Type 0} (table : Records) (r : RunId) (so_far : SoFar I)
    (keys : List RequestKey) (results : List RequestResult) (begun j merged : Journal) →
    length keys ≡ length results →
    HasReplayed table (effects_from r 0 so_far.segments) begun j →
    HasReplayed table (map replays_run (runs_of results)) j merged →
    HasReplayed table (effects_from r 0 (with_calls so_far keys results).segments) begun merged
calls-replayed table r so_far keys results begun j merged e h d =
    subst (λ xs. HasReplayed table xs begun merged) (sym (items-calls r so_far keys results e))
    (replayed-then table (effects_from r 0 so_far.segments) (map replays_run (runs_of results))
    begun j merged h d)

-- a run that has ended in a good journal
pub ended-used : (table : Records) (j : Journal) (r : RunId) → IsGood table j → has (end_of r) j
    ≡ true → (m : Record) × (record_of j r ≡ Some m) × (found table r ≡ Some m)
    × (replay table r j ≡ Some j)
ended-used table j r g h = go (record_of j r) refl
  where
    go : (o : Option Record) → record_of j r ≡ o → (m : Record) × (record_of j r ≡ Some m)
        × (found table r ≡ Some m) × (replay table r j ≡ Some j)
    go (Some m) e = (m, e, g.ended_are r m (had-in j r m e), replay-has table r j h)
    go None e = absurd (clash (has (end_of r) j) h (had-none j r e))
