-- What a check holds, ask by ask.
use Rattle.std.proofs.Common.{
  ◌≡◌,
  ◌≤◌,
  ◌<◌,
  ◌+◌,
  ◌-◌,
  ℕ,
  zero,
  suc,
  Bool,
  true,
  false,
  ◌||◌,
  List,
  [],
  ◌∷◌,
  ◌++◌,
  length,
  drop,
  get_or,
  map,
  Option,
  None,
  Some,
  IsSome,
  is_some,
  refl,
  ap,
  sym,
  ◌∙◌,
  subst,
  arith,
}
use Rattle.std.proofs.lemmas.Bool.{eq-eqb}
use Rattle.std.proofs.lemmas.List.{length-append}
use Rattle.std.specs.List.{list_any}
use Rattle.std.specs.Option.{option_to_list}
use Rattle.msb_laws.specs.Asking.{and_then}
use Rattle.result_cache.specs.declared.run.RunId.{RunId}
use Rattle.result_cache.specs.declared.request.RequestKey.{RequestKey}
use Rattle.result_cache.specs.declared.request.RequestResult.{RequestResult}
use Rattle.result_cache.specs.declared.record.Record.{Record}
use Rattle.result_cache.specs.Journal.{Journal, end_of, ended, has, add}
use Rattle.result_cache.specs.Lists.{In}
use Rattle.result_cache.specs.Replay.{
  replays_run,
  effects_from,
  effects_of,
  replays,
  replay,
  replay_all,
}
use Rattle.result_cache.specs.Same.{same_run, is_in}
use Rattle.result_cache.specs.SameRecords.{same_record}
use Rattle.result_cache.specs.ExactRecords.{record-exact}
use Rattle.result_cache.specs.Table.{Records, found}
use Rattle.result_cache.proofs.JournalEntries.{had-none, none-had}
use Rattle.build_meaning.specs.World.{World}
use Rattle.build_meaning.specs.Walk.{Walk, gives, wants, Body, makes, Outcome}
use Rattle.build_meaning.specs.SoFar.{SoFar, nothing_yet, with_calls, recorded, result_of, runs_of}
use Rattle.build_meaning.specs.Lists.{Paired}
use Rattle.build_meaning.specs.Meaning.{deepest}
use Rattle.build_meaning.specs.Cycle.{held}
use Rattle.build_meaning.specs.State.{Within, Place, walking, within}
use Rattle.build_meaning.specs.Step.{only_if}
use Rattle.build_meaning.specs.Stop.{Stop, ends, asks, Stopped, run_on}
use Rattle.build_meaning.proofs.PairedLists.{Paired-mono, Paired-length}
use Rattle.build_meaning.proofs.LawfulStates.{found-newest}
use Rattle.build_meaning.proofs.GrowingTables.{Newer, same_table, one_newer}
use Rattle.build_scheduler.specs.declared.walker.Ask.TheVariants.{Want, Call, Finished, Done}
use Rattle.build_scheduler.specs.declared.walker.Answer.{Answer}
use Rattle.build_scheduler.specs.declared.walker.Answer.TheVariants.{First, Go, Use, Results}
use Rattle.build_scheduler.specs.Learnt.{AreInOrder, ArePartOf}
use Rattle.build_scheduler.specs.Own.{Seen}
use Rattle.build_scheduler.specs.Position.{
  Position,
  IsCall,
  ask_of,
  answered,
  answered_at,
  after_run,
  stopped_in,
  begins,
}
use Rattle.build_scheduler.proofs.NewRequests.{in-get}
use Rattle.build_scheduler.proofs.OwnWalks.{wants-of, ends-of, gives-of, calls-of}
use Rattle.build_steady.specs.Order.{
  DemandEvent,
  is_reached,
  is_too_deep,
  body_begins,
  body_ends,
  is_circular,
  order_of_demand,
}
use Rattle.build_steady.specs.Verdicts.{
  bodies_begun,
  first_record,
  unless_so,
  if_differs,
  said_by,
  verdict_after,
  verdict_of,
}
use Rattle.build_steady.specs.Findings.{Shows, Tells, with_record, AreUnlessSaid}
use Rattle.build_steady.specs.Waiting.{
  Waiting,
  told,
  with_left,
  waits_at,
  path_of,
  depth_below,
  start_of,
  rest_of_walk,
  rest_of_body,
  rest_below,
  rest_from,
  after_call,
  HasReplayed,
  IsInBody,
  HasReplayedAt,
  HasReplayedCalls,
  HaveReplayed,
}
use Rattle.build_steady.specs.Held.{
  last_first,
  IsAsking,
  IsAnswered,
  IsCaller,
  IsCalling,
  IsHeld,
  IsReady,
  IsCheckStep,
}
use Rattle.build_steady.specs.declared.checking.Caller.{Caller}
use Rattle.build_steady.specs.declared.checking.Check.{Check}
use Rattle.build_steady.specs.declared.checking.CheckStep.{CheckStep}
use Rattle.build_steady.specs.declared.checking.CheckStep.TheVariants.{GoesOn, Over}
use Rattle.build_steady.specs.declared.findings.Findings.{Findings}
use Rattle.build_steady.specs.declared.verdict.Verdict.{Verdict}
use Rattle.build_steady.specs.declared.verdict.Verdict.TheVariants.{
  Steady,
  Differs,
  Circular,
  TooDeep,
}
use Rattle.build_steady.proofs.Rests.{
  rest-used,
  rest-circular,
  rest-made,
  rest-stops,
  caller-reaches,
  caller-begins,
  caller-resumes,
  caller-too-deep,
  world-rest,
}
use Rattle.build_steady.proofs.Journals.{
  IsGood,
  good-nothing,
  good-more,
  replayed-run,
  finished-in,
  some-finished,
  body-replayed,
  replayed-newer,
  part-newer,
  run-replayed,
  caller-good,
  start-good,
  callers-newer,
  call-merged,
  calls-replayed,
  ended-used,
}
use Rattle.build_steady.proofs.Events.{same-first, verdict-goes, verdict-said}

-- lists, the last entry first
pub last-more : {X : Type 0} (xs : List X) (x : X) → last_first (xs ++ x ∷ []) ≡ x ∷ last_first xs
last-more [] x = refl
last-more (y ∷ xs) x = ap (λ l. l ++ y ∷ []) (last-more xs x)

pub last-length : {X : Type 0} (xs : List X) → length (last_first xs) ≡ length xs
last-length [] = refl
last-length (x ∷ xs) =
    let e = last-length xs in let k = length-append (last_first xs) (x ∷ []) in omega arith

or-swap : (a b c : Bool) → (a || (b || c)) ≡ (b || (a || c))
or-swap true true c = refl
or-swap true false c = refl
or-swap false b c = refl

in-last : (r x : RunId) (xs : List RunId) → is_in r (xs ++ x ∷ []) ≡ (same_run x r || is_in r xs)
in-last r x [] = refl
in-last r x (y ∷ xs) = ap (λ b. same_run y r || b) (in-last r x xs)
    ∙ or-swap (same_run y r) (same_run x r) (is_in r xs)

pub any-in : (r : RunId) (xs : List RunId) → list_any (λ x. same_run x r) xs
    ≡ is_in r (last_first xs)
any-in r [] = refl
any-in r (x ∷ xs) = ap (λ b. same_run x r || b) (any-in r xs) ∙ sym (in-last r x (last_first xs))

-- what is left of a list
drop-all : {X : Type 0} (n : ℕ) (xs : List X) → length xs ≤ n → drop n xs ≡ []
drop-all zero [] l = refl
drop-all (suc n) [] l = refl
drop-all zero (x ∷ xs) l = absurd (omega arith)
drop-all (suc n) (x ∷ xs) l = drop-all n xs (omega arith)

drop-at : {X : Type 0} (xs : List X) (n : ℕ) (d : X) → n < length xs →
    drop n xs ≡ get_or xs n d ∷ drop (suc n) xs
drop-at [] n d l = absurd (omega arith)
drop-at (x ∷ xs) zero d l = refl
drop-at (x ∷ xs) (suc n) d l = drop-at xs n d (omega arith)

pub some-last : {X : Type 0} (xs : List X) (x : X) (rest : List X) → last_first xs ≡ x ∷ rest →
    0 < length xs
some-last xs x rest h =
    let e : suc (length rest) ≡ length xs = sym (ap length h) ∙ last-length xs in omega arith

-- what is told, of this event and this way
pub tells-told : (before : List DemandEvent) (event other : DemandEvent) (f : Findings)
    (said as_is : Option Verdict) → event ≡ other → said ≡ as_is → Tells before event f said →
    Tells before other f as_is
tells-told before event other f said as_is e h t =
    subst (Tells before other f) h (subst (λ x. Tells before x f said) e t)

-- without the last entry
pub popped : {X : Type 0} (old new : List X) (o : Option X) (x : X) (rest : List X) →
    old ≡ new ++ option_to_list o → IsSome o → last_first old ≡ x ∷ rest → last_first new ≡ rest
popped old new None x rest e is h = absurd (cc)
popped old new (Some y) x rest e is h = let k : y ∷ last_first new ≡ x ∷ rest =
    sym (last-more new y) ∙ (ap last_first (sym e) ∙ h) in cc

pub popped-last : {X : Type 0} (old new : List X) (y : X) → old ≡ new ++ option_to_list (Some y) →
    last_first old ≡ y ∷ last_first new
popped-last old new y e = ap last_first e ∙ last-more new y

pub popped-none : {X : Type 0} (old : List X) → length old ≡ 0 → last_first old ≡ []
popped-none [] e = refl
popped-none (x ∷ old) e = absurd (cc)

-- a journal where a request stands
pub good-at : {P I A : Type 0} (table : Records) → AreInOrder table →
    (callers : List (Waiting P I A)) →
    HaveReplayed table callers → (j : Journal) (runs : List RunId) (place : Place P I A) →
    HasReplayedAt table (start_of callers) j runs place → IsGood table j
good-at table o callers above j runs (walking x) h = good-more table o (map replays_run runs)
    (start_of callers) j (start-good table o callers above) h
good-at table o callers above j runs (within x stop) h =
    good-more table o (effects_from x.run 0 x.so_far.segments) h.0 j
    (good-more table o (map replays_run runs) (start_of callers) h.0 (start-good table o callers
    above) h.1.before) h.1.done

module _ {W P I A : Type 0} (seen : W → Seen P I A) (w : World P I A) where
  -- what doesn't change where a walk has asked once more, and where a table is larger
  pub each-later : (table : Records) (before now : ℕ) (xs : List (Caller W))
      (ys : List (Waiting P I A)) → before ≤ now → Paired (IsCalling seen w table before) xs ys →
      Paired (IsCalling seen w table now) xs ys
  each-later table before now xs ys l =
      Paired-mono (IsCalling seen w table before) (IsCalling seen w table now) (λ x y h. record {
        asking = record {
          world = h.asking.world;
          learnt = h.asking.learnt;
          asked = h.asking.asked;
          few = let f : (seen x.walk).asked ≤ before = h.asking.few in omega arith;
        };
        stands = h.stands;
        calls = h.calls;
        results = h.results;
        left = h.left;
        few = h.few;
      }) xs ys

  pub each-newer : (table larger : Records) (count : ℕ) (xs : List (Caller W))
      (ys : List (Waiting P I A)) → Newer table larger →
      Paired (IsCalling seen w table count) xs ys → Paired (IsCalling seen w larger count) xs ys
  each-newer table larger count xs ys n =
      Paired-mono (IsCalling seen w table count) (IsCalling seen w larger count) (λ x y h. record {
        asking = record {
          world = h.asking.world;
          learnt = part-newer (seen x.walk).learnt table
              larger n h.asking.learnt;
          asked = h.asking.asked;
          few = h.asking.few;
        };
        stands = h.stands;
        calls = h.calls;
        results = h.results;
        left = h.left;
        few = h.few;
      }) xs ys

  -- the callers of a check that has the same ones
  pub record IsSame (check next : Check W) : Type 0 where
    pub callers : next.callers.items ≡ check.callers.items
    pub asks : next.asks ≡ check.asks

  pub each-same : (check next : Check W) (table : Records) (ys : List (Waiting P I A)) →
      IsSame check next → Paired (IsCalling seen w table check.asks)
      (last_first check.callers.items) ys → Paired (IsCalling seen w table next.asks)
      (last_first next.callers.items) ys
  each-same check next table ys s h =
      subst (λ n. Paired (IsCalling seen w table n) (last_first next.callers.items) ys) (sym s.asks)
      (subst (λ xs. Paired (IsCalling seen w table check.asks) (last_first xs) ys) (sym s.callers)
      h)

  -- a walk has asked once more
  pub held-asked : (check next : Check W) (p : Position P I A) → next.findings ≡ check.findings →
      next.path.items ≡ check.path.items → next.callers.items ≡ check.callers.items →
      next.asks ≡ check.asks + 1 → IsHeld seen w check p → IsHeld seen w next p
  held-asked check next p f path callers n h = record {
    before = h.before;
    callers = h.callers;
    shows = subst (λ x. Shows x h.before) (sym f) h.shows;
    in_order = subst (λ (x : Findings). AreInOrder x.records.finished) (sym f) h.in_order;
    each = subst (λ (x : Findings). Paired (IsCalling seen w x.records.finished next.asks)
        (last_first next.callers.items) h.callers) (sym f)
        (subst (λ xs. Paired (IsCalling seen w check.findings.records.finished next.asks)
        (last_first xs) h.callers) (sym callers)
        (each-later check.findings.records.finished check.asks next.asks
        (last_first check.callers.items) h.callers (omega (arith, n)) h.each));
    path = ap last_first path ∙ h.path;
    nested = h.nested;
    above = subst (λ (x : Findings). HaveReplayed x.records.finished h.callers) (sym f) h.above;
    here = subst (λ (x : Findings). HasReplayedAt x.records.finished (start_of h.callers) p.journal
        p.runs p.place) (sym f) h.here;
    verdict = h.verdict;
  }

  -- where a request stands, by its place
  pub held-at : (check : Check W) (p : Position P I A) (place : Place P I A) → p.place ≡ place →
      IsHeld seen w check p → IsHeld seen w check (record {
        journal = p.journal;
        runs = p.runs;
        place = place;
      })
  held-at check p place e h =
      subst (λ (x : Place P I A). IsHeld seen w check (record {
        journal = p.journal;
        runs = p.runs;
        place = x;
      })) e h

  -- a run that is wanted and has ended in the journal
  pub want-uses : (check : Check W) (walk : W) (run : RunId) →
      IsHeld seen w check (seen walk).position → IsAsking w check.findings.records.finished
      check.asks (seen walk) → ask_of (seen walk).position ≡ Want run →
      has (end_of run) (seen walk).position.journal ≡ true → IsCheckStep seen w check
      (GoesOn walk Use)
  want-uses check walk run held asking asked there =
      let table = check.findings.records.finished in
      let p : Position P I A = (seen walk).position in
      let want = wants-of p.runs p.place run asked in
      let h = held-at check p (walking (wants want.site run want.body want.go)) want.is held in
      let good = good-at table h.in_order h.callers h.above p.journal p.runs
      (walking (wants want.site run want.body want.go)) h.here in
      let known = ended-used table p.journal run good there in
      let next : Position P I A = after_run p.runs run want.go known.0 p.journal in (
        next,
        record {
          before = h.before;
          callers = h.callers;
          shows = h.shows;
          in_order = h.in_order;
          each = h.each;
          path = h.path;
          nested = h.nested;
          above = h.above;
          here = replayed-run table p.runs run (start_of h.callers) p.journal p.journal h.here
              known.3;
          verdict = h.verdict ∙ ap (verdict_after h.before) (rest-used w (depth_below h.callers)
              (path_of h.callers) want.site run want.body want.go p.journal p.runs
              (after_call w h.callers)
              known.0 known.1);
        },
        record {
          world = asking.world;
          learnt = asking.learnt;
          goes = ap (λ (x : Place P I A). answered_at w table p.journal p.runs x Use) want.is
              ∙ (ap (λ o. and_then o (λ made. and_then (replay table run p.journal) (λ after.
              Some (after_run p.runs run want.go made after)))) known.2
              ∙ ap (λ o. and_then o (λ after. Some (after_run p.runs run want.go known.0 after)))
              known.3);
          turn = asking.asked;
          few = asking.few;
        },
      )

  -- a run that is wanted and has not ended
  pub record Unended (check : Check W) (p : Position P I A) (run : RunId) : Type 0 where
    pub site : P
    pub body : Body I A
    pub go : Record → Journal → Walk P I A
    pub is : p.place ≡ walking (wants site run body go)
    pub held : IsHeld seen w check (record {
      journal = p.journal;
      runs = p.runs;
      place = walking (wants site run body go);
    })

  pub unended-of : (check : Check W) (p : Position P I A) (run : RunId) → IsHeld seen w check p →
      ask_of p ≡ Want run → Unended check p run
  unended-of check p run held asked =
      let want = wants-of p.runs p.place run asked in
      record {
        site = want.site;
        body = want.body;
        go = want.go;
        is = want.is;
        held = held-at check p (walking (wants want.site run want.body want.go)) want.is held;
      }

  pub want-circles : (check : Check W) (p : Position P I A) (run : RunId) → IsHeld seen w check p →
      ask_of p ≡ Want run → has (end_of run) p.journal ≡ false →
      list_any (λ x. same_run x run) check.path.items ≡ true → Circular run ≡ verdict_of w
  want-circles check p run held asked gone among =
      let u = unended-of check p run held asked in
      let h = u.held in
      let inside : is_in run (path_of h.callers) ≡ true = ap (is_in run) (sym h.path)
      ∙ (sym (any-in run check.path.items) ∙ among) in
      sym (h.verdict
      ∙ (ap (verdict_after h.before) (rest-circular w (depth_below h.callers) (path_of h.callers)
      u.site run u.body u.go p.journal p.runs (after_call w h.callers) (none-had p.journal run gone)
      inside)
      ∙ verdict-said h.before (is_circular run) [] (Circular run) refl))

  made-rest : (check : Check W) (p : Position P I A) (run : RunId) (u : Unended check p run) →
      has (end_of run) p.journal ≡ false → list_any (λ x. same_run x run) check.path.items ≡ false →
      verdict_of w ≡ verdict_after u.held.before (body_begins run ∷ rest_of_body w
      (depth_below u.held.callers) (path_of u.held.callers) run u.body p.journal nothing_yet
      u.go p.runs (after_call w u.held.callers))
  made-rest check p run u gone among =
      let h = u.held in
      let outside : is_in run (path_of h.callers) ≡ false = ap (is_in run) (sym h.path)
      ∙ (sym (any-in run check.path.items) ∙ among) in
      h.verdict ∙ ap (verdict_after h.before) (rest-made w (depth_below h.callers)
      (path_of h.callers) u.site run u.body u.go p.journal p.runs (after_call w h.callers)
      (none-had p.journal run gone) outside)

  pub want-said : (check : Check W) (p : Position P I A) (run : RunId) (verdict : Verdict)
      (f : Findings) → IsHeld seen w check p → ask_of p ≡ Want run → has (end_of run) p.journal
      ≡ false → list_any (λ x. same_run x run) check.path.items ≡ false →
      ((before : List DemandEvent) → Shows check.findings before →
      Tells before (body_begins run) f (Some verdict)) → verdict ≡ verdict_of w
  want-said check p run verdict f held asked gone among tells =
      let u = unended-of check p run held asked in
      sym (made-rest check p run u gone among
      ∙ verdict-said u.held.before (body_begins run) (rest_of_body w (depth_below u.held.callers)
      (path_of u.held.callers) run u.body p.journal nothing_yet u.go p.runs
      (after_call w u.held.callers)) verdict
      (tells u.held.before u.held.shows))

  pub want-goes : (check next : Check W) (walk : W) (run : RunId) →
      IsHeld seen w check (seen walk).position → IsAsking w check.findings.records.finished
      check.asks (seen walk) → ask_of (seen walk).position ≡ Want run →
      has (end_of run) (seen walk).position.journal ≡ false →
      list_any (λ x. same_run x run) check.path.items ≡ false →
      ((before : List DemandEvent) → Shows check.findings before →
      Tells before (body_begins run) next.findings None) →
      next.findings.records ≡ check.findings.records → IsSame check next →
      next.path.items ≡ check.path.items ++ run ∷ [] → IsCheckStep seen w next (GoesOn walk Go)
  want-goes check next walk run held asking asked gone among tells same_records same path =
      let table = check.findings.records.finished in
      let larger = next.findings.records.finished in
      let e : larger ≡ table = ap (λ r. r.finished) same_records in
      let p : Position P I A = (seen walk).position in
      let u = unended-of check p run held asked in
      let h = u.held in
      let t = tells h.before h.shows in
      let stop : Stopped I A = run_on w.tools run u.body p.journal nothing_yet in
      let to : Position P I A = stopped_in p.runs run u.go stop in (
        to,
        record {
          before = h.before ++ body_begins run ∷ [];
          callers = h.callers;
          shows = t.1;
          in_order = subst AreInOrder (sym e) h.in_order;
          each = subst (λ x. Paired (IsCalling seen w x next.asks) (last_first next.callers.items)
              h.callers) (sym e) (each-same check next table h.callers same h.each);
          path = ap last_first path ∙ (last-more check.path.items run ∙ ap (λ l. run ∷ l) h.path);
          nested = h.nested;
          above = subst (λ x. HaveReplayed x h.callers) (sym e) h.above;
          here = subst (λ x. HasReplayedAt x (start_of h.callers) to.journal to.runs to.place)
              (sym e) (
                p.journal,
                record {
                  before = h.here;
                  fresh = gone;
                  done = run-replayed table w.tools run u.body
                      p.journal p.journal nothing_yet refl;
                },
              );
          verdict = made-rest check p run u gone among
              ∙ (verdict-goes h.before (body_begins run) (rest_of_body w (depth_below h.callers)
              (path_of h.callers) run u.body p.journal nothing_yet u.go p.runs
              (after_call w h.callers)) t.0
              ∙ ap (verdict_after (h.before ++ body_begins run ∷ [])) (rest-stops w
              (depth_below h.callers) (path_of h.callers) run u.body p.journal nothing_yet u.go
              p.runs (after_call w h.callers)));
        },
        record {
          world = asking.world;
          learnt = subst (ArePartOf (seen walk).learnt) (sym e) asking.learnt;
          goes = ap (λ (x : Place P I A). answered_at w larger p.journal p.runs x Go) u.is;
          turn = asking.asked;
          few = subst (λ n. (seen walk).asked ≤ n) (sym same.asks) asking.few;
        },
      )

  -- the body of a run has come to its end
  pub record Ended (check : Check W) (p : Position P I A) (run : RunId)
      (made : Record) : Type 0 where
    pub inside : Within P I A
    pub outcome : Outcome
    pub is : p.place ≡ within inside (ends outcome)
    pub run_is : inside.run ≡ run
    pub made_is : recorded outcome inside.so_far.segments ≡ made
    pub held : IsHeld seen w check (record {
      journal = p.journal;
      runs = p.runs;
      place = within inside (ends outcome);
    })

  pub ended-of : (check : Check W) (p : Position P I A) (run : RunId) (made : Record) →
      IsHeld seen w check p → ask_of p ≡ Finished run made → Ended check p run made
  ended-of check p run made held asked =
      let e = ends-of p.runs p.place run made asked in
      record {
        inside = e.inside;
        outcome = e.outcome;
        is = e.is;
        run_is = e.run_is;
        made_is =
            e.made_is;
        held = held-at check p (within e.inside (ends e.outcome)) e.is held;
      }

  -- in the terms of its place
  tells-at : (check : Check W) (p : Position P I A) (run : RunId) (made : Record)
      (x : Ended check p run made) (f : Findings) (said : Option Verdict) →
      Tells x.held.before (body_ends run made) f said →
      Tells x.held.before (body_ends x.inside.run (recorded x.outcome x.inside.so_far.segments)) f
      said
  tells-at check p run made x f said t =
      subst (λ m. Tells x.held.before (body_ends x.inside.run m) f said) (sym x.made_is)
      (subst (λ r. Tells x.held.before (body_ends r made) f said) (sym x.run_is) t)

  pub finish-said : (check : Check W) (p : Position P I A) (run : RunId) (made : Record)
      (verdict : Verdict) (f : Findings) → IsHeld seen w check p → ask_of p ≡ Finished run made →
      ((before : List DemandEvent) → Shows check.findings before → Tells before (body_ends run made)
      f (Some verdict)) → verdict ≡ verdict_of w
  finish-said check p run made verdict f held asked tells =
      let x = ended-of check p run made held asked in
      let h = x.held in
      let m : Record = recorded x.outcome x.inside.so_far.segments in
      let after : Journal = add p.journal (ended x.inside.run m) in
      sym (h.verdict
      ∙ verdict-said h.before (body_ends x.inside.run m) (rest_of_walk w (depth_below h.callers)
      (path_of h.callers) (x.inside.go m after) after (p.runs ++ x.inside.run ∷ []) (after_call
      w h.callers)) verdict
      (tells-at check p run made x f (Some verdict) (tells h.before h.shows)))

  -- the table with the record of a run that is over
  pub record IsFinished (table larger : Records) (run : RunId) (made : Record) : Type 0 where
    pub newer : Newer table larger
    pub there : found larger run ≡ Some made
    pub in_order : AreInOrder larger

  -- the runs that a body's record calls for are finished
  body-runs : (check : Check W) (p : Position P I A) (run : RunId) (made : Record)
      (x : Ended check p run made) → (r : RunId) →
      In (replays_run r) (effects_of x.inside.run (recorded x.outcome x.inside.so_far.segments)) →
      IsSome (found check.findings.records.finished r)
  body-runs check p run made x r i =
      let table = check.findings.records.finished in
      let h = x.held in
      let good = good-more table h.in_order (map replays_run p.runs) (start_of h.callers) h.here.0
      (start-good table h.in_order h.callers h.above) h.here.1.before in
      some-finished table r (finished-in table h.in_order (effects_from x.inside.run 0
      x.inside.so_far.segments) h.here.0 p.journal good h.here.1.done r i)

  finished-of : (check next : Check W) (run : RunId) (made : Record) (before : List DemandEvent) →
      Shows check.findings before → AreInOrder check.findings.records.finished →
      ((r : RunId) → In (replays_run r) (effects_of run made) →
      IsSome (found check.findings.records.finished r)) → said_by before (body_ends run made)
      ≡ None →
      next.findings.records.finished ≡ with_record (found check.findings.records.finished run) run
      made check.findings.records.finished → IsFinished check.findings.records.finished
      next.findings.records.finished run made
  finished-of check next run made before shows o called said e =
      go (found check.findings.records.finished run) refl
    where
      go : (first : Option Record) → found check.findings.records.finished run ≡ first →
          IsFinished check.findings.records.finished next.findings.records.finished run made
      go None h =
          let table = check.findings.records.finished in
          let is : next.findings.records.finished ≡ record { run = run; made = made } ∷ table = e
          ∙ ap (λ x. with_record x run made table) h in record {
            newer = subst (Newer table) (sym is) (one_newer same_table h);
            there = subst (λ t. found t run ≡ Some made) (sym is)
                (found-newest table (record { run = run; made = made }));
            in_order = subst AreInOrder (sym is) (h, called, o);
          }
      go (Some first) h =
          let table = check.findings.records.finished in
          let is : next.findings.records.finished ≡ table = e
          ∙ ap (λ x. with_record x run made table) h in
          let alike : first ≡ made = same-first first made run (ap (λ x. if_differs x run made)
          (sym h ∙ shows.records run) ∙ said) in record {
            newer = subst (Newer table) (sym is) same_table;
            there = subst (λ t. found t run ≡ Some made) (sym is) (h ∙ ap Some alike);
            in_order = subst AreInOrder (sym is) o;
          }

  pub finish-goes : (check next : Check W) (walk : W) (run : RunId) (made : Record) →
      IsHeld seen w check (seen walk).position → IsAsking w check.findings.records.finished
      check.asks (seen walk) → ask_of (seen walk).position ≡ Finished run made →
      ((before : List DemandEvent) → Shows check.findings before → Tells before (body_ends run made)
      next.findings None) →
      next.findings.records.finished ≡ with_record (found check.findings.records.finished run) run
      made check.findings.records.finished → IsSame check next →
      ((x : RunId) (rest : List RunId) → last_first check.path.items ≡ x ∷ rest →
      last_first next.path.items ≡ rest) → IsCheckStep seen w next (GoesOn walk Use)
  finish-goes check next walk run made held asking asked tells grows same path =
      let table = check.findings.records.finished in
      let larger = next.findings.records.finished in
      let p : Position P I A = (seen walk).position in
      let x = ended-of check p run made held asked in
      let h = x.held in
      let r : RunId = x.inside.run in
      let m : Record = recorded x.outcome x.inside.so_far.segments in
      let t = tells-at check p run made x next.findings None (tells h.before h.shows) in
      let e : larger ≡ with_record (found table r) r m table =
      grows ∙ (ap (λ s. with_record (found table s) s made table) (sym x.run_is)
      ∙ ap (λ n. with_record (found table r) r n table) (sym x.made_is)) in
      let f = finished-of check next r m h.before h.shows h.in_order (body-runs check p run made x)
      t.0 e in
      let start : Journal = start_of h.callers in
      let begun : Journal = h.here.0 in
      let body = h.here.1 in
      let good = start-good table h.in_order h.callers h.above in
      let good_begun = good-more table h.in_order (map replays_run p.runs) start begun good
      body.before in
      let after : Journal = add p.journal (ended r m) in
      let to : Position P I A = after_run p.runs r x.inside.go m after in
      let body_there = body-replayed larger f.in_order r m begun p.journal f.there body.fresh
      (replayed-newer table larger h.in_order f.newer (effects_of r m) begun p.journal
      good_begun body.done) in (
        to,
        record {
          before = h.before ++ body_ends r m ∷ [];
          callers = h.callers;
          shows = t.1;
          in_order = f.in_order;
          each = each-newer table larger next.asks (last_first next.callers.items) h.callers f.newer
              (each-same check next table h.callers same h.each);
          path = path r (path_of h.callers) h.path;
          nested = h.nested;
          above = callers-newer table larger h.in_order f.newer h.callers h.above;
          here = replayed-run larger p.runs r start begun after (replayed-newer table larger
              h.in_order f.newer (map replays_run p.runs) start begun good body.before) body_there;
          verdict = h.verdict
              ∙ verdict-goes h.before (body_ends r m) (rest_of_walk w (depth_below h.callers)
              (path_of h.callers) (x.inside.go m after) after (p.runs
              ++ r ∷ []) (after_call w h.callers)) t.0;
        },
        record {
          world = asking.world;
          learnt = part-newer (seen walk).learnt table larger f.newer asking.learnt;
          goes = ap (λ (y : Place P I A). answered_at w larger p.journal p.runs y Use) x.is;
          turn = asking.asked;
          few = subst (λ n. (seen walk).asked ≤ n) (sym same.asks) asking.few;
        },
      )

  -- a body calls requests
  pub record Called (check : Check W) (p : Position P I A) (calls : List RequestKey) : Type 0 where
    pub mine : Waiting P I A
    pub stands : p ≡ waits_at mine
    pub calls_are : calls ≡ mine.key ∷ mine.keys
    pub left : mine.left ≡ mine.key ∷ mine.keys
    pub results : mine.results ≡ []
    pub held : IsHeld seen w check (waits_at mine)
    pub start : mine.start ≡ start_of held.callers
    pub here : HasReplayedCalls check.findings.records.finished mine
    pub verdict : verdict_of w ≡ verdict_after held.before (rest_from w held.callers mine)

  pub called-of : (check : Check W) (p : Position P I A) (keys : List RequestKey) →
      IsHeld seen w check p → ask_of p ≡ Call keys → Called check p keys
  called-of check p keys held asked =
      let c = calls-of p.runs p.place keys asked in
      let stop : Stop I A = asks c.key c.keys c.go in
      let h = held-at check p (within c.inside stop) c.is held in
      let start : Journal = start_of h.callers in
      let begun : Journal = h.here.0 in
      let mine : Waiting P I A = record {
        start = start;
        begun = begun;
        journal = p.journal;
        runs = p.runs;
        inside = c.inside;
        key = c.key;
        keys = c.keys;
        go_on = c.go;
        results = [];
        merged = p.journal;
        left = c.key ∷ c.keys;
      } in record {
        mine = mine;
        stands = ap (λ (x : Place P I A). record { journal = p.journal; runs = p.runs; place = x })
            c.is;
        calls_are = sym c.calls_are;
        left = refl;
        results = refl;
        held = h;
        start = refl;
        here = record { inside = h.here.1; called = refl };
        verdict = h.verdict ∙ ap (verdict_after h.before) (caller-begins w h.callers start begun
            p.journal p.runs c.inside c.key c.keys c.go);
      }

  pub some-called : (check : Check W) (p : Position P I A) (keys : List RequestKey) →
      IsHeld seen w check p → ask_of p ≡ Call keys → 0 < length keys
  some-called check p keys held asked =
      let c = calls-of p.runs p.place keys asked in
      let e : suc (length c.keys) ≡ length keys = ap length c.calls_are in omega arith

  callers-count : (check : Check W) (p : Position P I A) (h : IsHeld seen w check p) →
      length check.callers.items ≡ length h.callers
  callers-count check p h = sym (last-length check.callers.items)
      ∙ Paired-length (IsCalling seen w check.findings.records.finished check.asks)
      (last_first check.callers.items) h.callers h.each

  -- they are nested too deep
  pub call-too-deep : (check : Check W) (p : Position P I A) (keys : List RequestKey)
      (verdict : Verdict) → IsHeld seen w check p → ask_of p ≡ Call keys →
      deepest ≤ length check.callers.items + 1 →
      ((key : RequestKey) (more : List RequestKey) → keys ≡ key ∷ more →
      verdict ≡ TooDeep key.instance) → verdict ≡ verdict_of w
  call-too-deep check p keys verdict held asked deep is =
      let c = called-of check p keys held asked in
      let h = c.held in
      let count : length check.callers.items ≡ length h.callers =
      callers-count check (waits_at c.mine) h in
      let none : depth_below h.callers ≡ zero = let l : length h.callers < deepest = h.nested in
      omega arith in
      is c.mine.key c.mine.keys c.calls_are
      ∙ sym (c.verdict
      ∙ (ap (λ ks. verdict_after h.before (rest_from w h.callers (with_left c.mine ks))) c.left
      ∙ (ap (verdict_after h.before) (caller-too-deep w h.callers c.mine c.mine.key c.mine.keys
      none)
      ∙ verdict-said h.before (is_too_deep c.mine.key.instance) [] (TooDeep c.mine.key.instance)
      refl)))

  -- or its first call is the next one
  pub call-ready : (check : Check W) (caller : Caller W) →
      IsHeld seen w check (seen caller.walk).position → IsAsking w check.findings.records.finished
      check.asks (seen caller.walk) → ask_of (seen caller.walk).position ≡ Call caller.calls →
      caller.results.items ≡ [] → length check.callers.items + 1 < deepest →
      IsReady seen w check caller
  call-ready check caller held asking asked none shallow =
      let c = called-of check (seen caller.walk).position caller.calls held asked in
      let h = c.held in record {
        before = h.before;
        callers = h.callers;
        mine = c.mine;
        shows = h.shows;
        in_order = h.in_order;
        each = h.each;
        path = h.path;
        nested = let n = callers-count check (waits_at c.mine) h in omega arith;
        above = h.above;
        calls = record {
          asking = asking;
          stands = c.stands;
          calls = c.calls_are;
          results = none ∙ sym c.results;
          left = c.left
              ∙ ap (λ (rs : List RequestResult). drop (length rs) (c.mine.key ∷ c.mine.keys))
              (sym c.results);
          few = let e : length c.mine.results ≡ 0 = ap length c.results in omega arith;
        };
        here = c.here;
        start = c.start;
        verdict = c.verdict;
      }

  -- a request is over: the root
  pub record IsOver (check : Check W) (p : Position P I A) (result : RequestResult) : Type 0 where
    pub held : IsHeld seen w check p
    pub here : HasReplayed check.findings.records.finished (map replays_run result.runs)
        (start_of held.callers) p.journal
    pub path : last_first check.path.items ≡ path_of held.callers
    pub verdict : verdict_of w ≡ verdict_after held.before (after_call w held.callers result
        p.journal)

  pub over-of : (check : Check W) (p : Position P I A) (result : RequestResult) →
      IsHeld seen w check p → ask_of p ≡ Done result → IsOver check p result
  over-of check p result held asked =
      let g = gives-of p.runs p.place result asked in
      let back : p ≡ record {
        journal = p.journal;
        runs = p.runs;
        place = walking (gives g.reply);
      } = ap (λ (x : Place P I A). record {
        journal = p.journal;
        runs = p.runs;
        place = x;
      }) g.is in
      subst (λ (q : Position P I A). IsOver check q result) (sym back) (
      let h = held-at check p (walking (gives g.reply)) g.is held in record {
        held = h;
        here = subst (λ (r : RequestResult). HasReplayed check.findings.records.finished
            (map replays_run r.runs) (start_of h.callers) p.journal) g.told_is h.here;
        path = h.path;
        verdict = h.verdict
            ∙ ap (λ r. verdict_after h.before (after_call w h.callers r p.journal)) g.told_is;
      })

  pub root-over : (check : Check W) (p : Position P I A) (result : RequestResult) →
      IsHeld seen w check p → ask_of p ≡ Done result → length check.callers.items ≡ 0 →
      Steady check.findings.bodies ≡ verdict_of w
  root-over check p result held asked none =
      let x = over-of check p result held asked in
      let h = x.held in
      let n : length h.callers ≡ 0 = sym (callers-count check p h) ∙ none in
      go h.callers n h.before h.shows x.verdict
    where
      go : (callers : List (Waiting P I A)) → length callers ≡ 0 → (before : List DemandEvent) →
          Shows check.findings before → verdict_of w ≡ verdict_after before
          (after_call w callers result p.journal) → Steady check.findings.bodies ≡ verdict_of w
      go [] n before shows v = ap Steady shows.bodies ∙ sym v
      go (c ∷ callers) n before shows v = absurd (cc)

  -- or one that was called: its caller has the result
  pub called-over : (check next : Check W) (caller told_caller : Caller W) (p : Position P I A)
      (result : RequestResult) → IsHeld seen w check p → ask_of p ≡ Done result →
      last_first check.callers.items ≡ caller ∷ last_first next.callers.items →
      next.findings ≡ check.findings → next.path.items ≡ check.path.items →
      next.asks ≡ check.asks →
      told_caller.walk ≡ caller.walk → told_caller.calls ≡ caller.calls → told_caller.results.items
      ≡ caller.results.items ++ result ∷ [] → IsReady seen w next told_caller
  called-over check next caller told_caller p result held asked callers f path asks_are walk calls
      results =
      let x = over-of check p result held asked in
      let h = x.held in
      let table = check.findings.records.finished in
      let pairs : Paired (IsCalling seen w table check.asks)
      (caller ∷ last_first next.callers.items) h.callers =
      subst (λ xs. Paired (IsCalling seen w table check.asks) xs h.callers) callers h.each in
      go h.callers pairs h.above x.here h.nested x.path h.before x.verdict h.shows h.in_order
    where
      go : (all : List (Waiting P I A)) → Paired (IsCalling seen w check.findings.records.finished
          check.asks) (caller ∷ last_first next.callers.items) all →
          HaveReplayed check.findings.records.finished all →
          HasReplayed check.findings.records.finished (map replays_run result.runs) (start_of all)
          p.journal → length all < deepest → last_first check.path.items ≡ path_of all →
          (before : List DemandEvent) → verdict_of w ≡ verdict_after before (after_call w all result
          p.journal) → Shows check.findings before →
          AreInOrder check.findings.records.finished → IsReady seen w next told_caller
      go [] pairs above here nested paths before v shows o = absurd pairs
      go (c ∷ callers) pairs above here nested paths before v shows o =
          let table = check.findings.records.finished in
          let mine : Waiting P I A = told c result p.journal in
          let good = caller-good table o c (subst (IsGood table) (sym above.1)
          (start-good table o callers above.2)) above.0 in
          let count : length mine.results ≡ suc (length c.results) = let k =
          length-append c.results (result ∷ []) in omega arith in
          let here_now : HasReplayedCalls table mine = record {
            inside = above.0.inside;
            called = call-merged table o c.journal c.merged p.journal c.results result good.1
                above.0.called here;
          } in
          let asking : IsAsking w table next.asks (seen told_caller.walk) =
          subst (λ n. IsAsking w table n (seen told_caller.walk)) (sym asks_are)
          (subst (λ k. IsAsking w table check.asks (seen k)) (sym walk) pairs.0.asking) in
          record {
            before = before;
            callers = callers;
            mine = mine;
            shows = subst (λ y. Shows y before) (sym f) shows;
            in_order = subst (λ (y : Findings). AreInOrder y.records.finished) (sym f) o;
            each = subst (λ (y : Findings). Paired (IsCalling seen w y.records.finished next.asks)
                (last_first next.callers.items) callers) (sym f)
                (subst (λ n. Paired (IsCalling seen w table n) (last_first next.callers.items)
                callers) (sym asks_are) pairs.1);
            path = ap last_first path ∙ paths;
            nested = nested;
            above = subst (λ (y : Findings). HaveReplayed y.records.finished callers) (sym f)
                above.2;
            calls = record {
              asking = subst (λ (y : Findings). IsAsking w y.records.finished next.asks
                  (seen told_caller.walk)) (sym f) asking;
              stands = ap (λ k. (seen k).position) walk ∙ pairs.0.stands;
              calls = calls ∙ pairs.0.calls;
              results = results ∙ ap (λ rs. rs ++ result ∷ []) pairs.0.results;
              left = pairs.0.left ∙ ap (λ n. drop n (c.key ∷ c.keys)) (sym count);
              few = let l : suc (length c.results) ≤ suc (length c.keys) = pairs.0.few in
                  omega (arith, count, l);
            };
            here = subst (λ (y : Findings). HasReplayedCalls y.records.finished mine) (sym f)
                here_now;
            start = above.1;
            verdict = v;
          }

  -- a caller whose calls are over goes on with their results
  pub next-resumes : (check : Check W) (caller : Caller W) → IsReady seen w check caller →
      length caller.results.items ≡ length caller.calls →
      IsCheckStep seen w check (GoesOn caller.walk (Results caller.results.items))
  next-resumes check caller h all_told =
      let table = check.findings.records.finished in
      let m : Waiting P I A = h.mine in
      let keys : List RequestKey = m.key ∷ m.keys in
      let told_all : length m.results ≡ length keys = sym (ap length h.calls.results)
      ∙ (all_told ∙ ap length h.calls.calls) in
      let none_left : m.left ≡ [] = h.calls.left ∙ drop-all (length m.results) keys
      (omega (arith, told_all)) in
      let so_far : SoFar I = with_calls m.inside.so_far keys m.results in
      let stop : Stopped I A = run_on w.tools m.inside.run (m.go_on m.results m.merged) m.merged
      so_far in
      let to : Position P I A = stopped_in m.runs m.inside.run m.inside.go stop in
      let done = calls-replayed table m.inside.run m.inside.so_far keys m.results m.begun m.journal
      m.merged (sym told_all) h.here.inside.done h.here.called in (
        to,
        record {
          before = h.before;
          callers = h.callers;
          shows = h.shows;
          in_order = h.in_order;
          each = h.each;
          path = h.path;
          nested = let l : suc (length h.callers) < deepest = h.nested in omega arith;
          above = h.above;
          here = (
            m.begun,
            record {
              before = subst (λ j. HasReplayed table (map replays_run m.runs) j m.begun) h.start
                  h.here.inside.before;
              fresh = h.here.inside.fresh;
              done = run-replayed table w.tools m.inside.run (m.go_on m.results m.merged) m.begun
                  m.merged so_far done;
            },
          );
          verdict = h.verdict
              ∙ (ap (λ ks. verdict_after h.before (rest_from w h.callers (with_left m ks)))
              none_left
              ∙ (ap (verdict_after h.before) (caller-resumes w h.callers m)
              ∙ ap (verdict_after h.before)
              (rest-stops w (depth_below h.callers) (path_of h.callers) m.inside.run
              (m.go_on m.results m.merged) m.merged so_far m.inside.go m.runs
              (after_call w h.callers))));
        },
        record {
          world = h.calls.asking.world;
          learnt = h.calls.asking.learnt;
          goes = ap (λ (q : Position P I A). answered w table q (Results caller.results.items))
              h.calls.stands
              ∙ (ap (λ rs. answered w table (waits_at m) (Results rs)) h.calls.results
              ∙ (ap (λ b. and_then (only_if b m.results) (λ rs.
              and_then (replay_all table (runs_of rs) m.journal) (λ after.
              Some (stopped_in m.runs m.inside.run m.inside.go (run_on w.tools m.inside.run
              (m.go_on rs after) after (with_calls m.inside.so_far keys rs))))))
              (eq-eqb (length m.results) (length keys) told_all)
              ∙ ap (λ o. and_then o (λ after. Some (stopped_in m.runs m.inside.run m.inside.go
              (run_on w.tools m.inside.run (m.go_on m.results after) after
              (with_calls m.inside.so_far keys m.results))))) h.here.called));
          turn = h.calls.asking.asked;
          few = h.calls.asking.few;
        },
      )

  -- a caller's next call is reached
  next-reached : (check : Check W) (caller : Caller W) (h : IsReady seen w check caller)
      (key : RequestKey) → length caller.results.items < length caller.calls →
      key ≡ get_or caller.calls (length caller.results.items) key →
      verdict_of w ≡ verdict_after h.before (is_reached key.instance ∷ rest_below w
      (with_left h.mine (drop (suc (length h.mine.results)) (h.mine.key ∷ h.mine.keys))
      ∷ h.callers) (begins w key h.mine.journal))
  next-reached check caller h key l e =
      let m : Waiting P I A = h.mine in
      let keys : List RequestKey = m.key ∷ m.keys in
      let told_so : length caller.results.items ≡ length m.results = ap length h.calls.results in
      let within_keys : length m.results < length keys = let k : length caller.calls ≡ length keys =
      ap length h.calls.calls in omega (arith, l, told_so, k) in
      let is : get_or keys (length m.results) key ≡ key =
      sym (e ∙ (ap (λ ks. get_or ks (length caller.results.items) key) h.calls.calls
      ∙ ap (λ n. get_or keys n key) told_so)) in
      let left : m.left ≡ key ∷ drop (suc (length m.results)) keys = h.calls.left
      ∙ (drop-at keys (length m.results) key within_keys
      ∙ ap (λ k. k ∷ drop (suc (length m.results)) keys) is) in
      let deep : ℕ = deepest - suc (suc (length h.callers)) in
      let depth : depth_below h.callers ≡ suc deep = let n : suc (length h.callers) < deepest =
      h.nested in omega arith in
      h.verdict
      ∙ (ap (λ ks. verdict_after h.before (rest_from w h.callers (with_left m ks))) left
      ∙ ap (verdict_after h.before) (caller-reaches w h.callers m key (drop (suc (length m.results))
      keys) deep depth))

  pub next-said : (check : Check W) (caller : Caller W) (key : RequestKey) (verdict : Verdict)
      (f : Findings) → IsReady seen w check caller → length caller.results.items < length
      caller.calls → key ≡ get_or caller.calls (length caller.results.items) key →
      ((before : List DemandEvent) → Shows check.findings before →
      Tells before (is_reached key.instance) f (Some verdict)) → verdict ≡ verdict_of w
  next-said check caller key verdict f h l e tells =
      sym (next-reached check caller h key l e
      ∙ verdict-said h.before (is_reached key.instance)
      (rest_below w (with_left h.mine (drop (suc (length h.mine.results))
      (h.mine.key ∷ h.mine.keys)) ∷ h.callers) (begins w key h.mine.journal)) verdict
      (tells h.before h.shows))

  pub next-goes : (check next : Check W) (caller : Caller W) (child : W) (key : RequestKey) →
      IsReady seen w check caller → length caller.results.items < length caller.calls →
      key ≡ get_or caller.calls (length caller.results.items) key →
      ((before : List DemandEvent) → Shows check.findings before →
      Tells before (is_reached key.instance) next.findings None) →
      next.findings.records ≡ check.findings.records → next.path.items ≡ check.path.items →
      next.callers.items ≡ check.callers.items ++ caller ∷ [] → next.asks ≡ check.asks →
      (seen child).world ≡ w → (seen child).position
      ≡ begins w key (seen caller.walk).position.journal → (seen child).asked ≡ 0 →
      ArePartOf (seen child).learnt (seen caller.walk).learnt →
      IsCheckStep seen w next (GoesOn child First)
  next-goes check next caller child key h l e tells same_records path callers asks_are world
      position asked learnt =
      let table = check.findings.records.finished in
      let larger = next.findings.records.finished in
      let same : larger ≡ table = ap (λ r. r.finished) same_records in
      let m : Waiting P I A = h.mine in
      let keys : List RequestKey = m.key ∷ m.keys in
      let mine : Waiting P I A = with_left m (drop (suc (length m.results)) keys) in
      let t = tells h.before h.shows in
      let to : Position P I A = begins w key m.journal in
      let few : suc (length m.results) ≤ suc (length m.keys) =
      let k : length caller.calls ≡ suc (length m.keys) = ap length h.calls.calls in
      let n : length caller.results.items ≡ length m.results = ap length h.calls.results in
      omega (arith, l, k, n) in
      let calling : IsCalling seen w table check.asks caller mine =
      record {
        asking = h.calls.asking;
        stands = h.calls.stands;
        calls = h.calls.calls;
        results = h.calls.results;
        left = refl;
        few = few;
      } in
      let here : HasReplayedCalls table mine = record {
        inside = h.here.inside;
        called =
            h.here.called;
      } in
      let calling_all : Paired (IsCalling seen w table check.asks)
      (caller ∷ last_first check.callers.items) (mine ∷ h.callers) = (calling, h.each) in (
        to,
        record {
          before = h.before ++ is_reached key.instance ∷ [];
          callers = mine ∷ h.callers;
          shows = t.1;
          in_order = subst AreInOrder (sym same) h.in_order;
          each = subst (λ x. Paired (IsCalling seen w x next.asks) (last_first next.callers.items)
              (mine ∷ h.callers)) (sym same)
              (subst (λ n. Paired (IsCalling seen w table n) (last_first next.callers.items)
              (mine ∷ h.callers)) (sym asks_are)
              (subst (λ xs. Paired (IsCalling seen w table check.asks) xs (mine ∷ h.callers))
              (sym (ap last_first callers ∙ last-more check.callers.items caller))
              calling_all));
          path = ap last_first path ∙ h.path;
          nested = h.nested;
          above = subst (λ x. HaveReplayed x (mine ∷ h.callers)) (sym same) (
            here,
            h.start,
            h.above,
          );
          here = refl;
          verdict = next-reached check caller h key l e
              ∙ verdict-goes h.before (is_reached key.instance) (rest_below w (mine ∷ h.callers) to)
              t.0;
        },
        record {
          world = world;
          learnt = subst (ArePartOf (seen child).learnt) (sym same) (record {
            in_order = learnt.in_order;
            shared = λ r made f. h.calls.asking.learnt.shared r made (learnt.shared r made f);
          });
          goes = ap (λ (q : Position P I A). answered w larger q First) (position
              ∙ ap (λ (q : Position P I A). begins w key q.journal) h.calls.stands);
          turn = asked;
          few = omega (arith, asked);
        },
      )

  -- where a check begins
  world-reached : (deep : ℕ) → deepest ≡ suc deep →
      verdict_of w ≡ verdict_after [] (is_reached w.root.instance ∷ rest_of_walk w deep []
      (w.walks w.root []) [] [] (after_call w []))
  unfolding verdict_of
  world-reached deep e = ap (verdict_after []) (world-rest w deep e)

  deepest-is : deepest ≡ suc (deepest - 1)
  unfolding deepest
  deepest-is = refl

  pub start-said : (f found : Findings) (verdict : Verdict) → Shows f [] →
      ((before : List DemandEvent) → Shows f before → Tells before (is_reached w.root.instance)
      found (Some verdict)) → verdict ≡ verdict_of w
  start-said f found verdict shows tells =
      sym (world-reached (deepest - 1) deepest-is
      ∙ verdict-said [] (is_reached w.root.instance) (rest_of_walk w (deepest - 1) []
      (w.walks w.root []) [] [] (after_call w [])) verdict (tells [] shows))

  pub start-goes : (check next : Check W) (walk : W) → Shows check.findings [] →
      ((before : List DemandEvent) → Shows check.findings before →
      Tells before (is_reached w.root.instance) next.findings None) →
      next.findings.records.finished ≡ [] → next.path.items ≡ [] → next.callers.items ≡ [] →
      next.asks ≡ 0 → (seen walk).world ≡ w → (seen walk).position ≡ begins w w.root [] →
      (seen walk).asked ≡ 0 → (seen walk).learnt ≡ [] →
      IsCheckStep seen w next (GoesOn walk First)
  start-goes check next walk shows tells records path callers asks_are world position asked learnt =
      let t = tells [] shows in
      let to : Position P I A = begins w w.root [] in
      let table = next.findings.records.finished in (
        to,
        record {
          before = is_reached w.root.instance ∷ [];
          callers = [];
          shows = t.1;
          in_order = subst AreInOrder (sym records) tt;
          each = subst (λ xs. Paired (IsCalling seen w table next.asks) (last_first xs) [])
              (sym callers) tt;
          path = ap last_first path;
          nested = let e = deepest-is in omega arith;
          above = tt;
          here = refl;
          verdict = world-reached (deepest - 1) deepest-is
              ∙ verdict-goes [] (is_reached w.root.instance) (rest_of_walk w (deepest - 1) []
              (w.walks w.root []) [] [] (after_call w [])) t.0;
        },
        record {
          world = world;
          learnt = record {
            in_order = subst AreInOrder (sym learnt) tt;
            shared = λ r m f. absurd (let e : None ≡ Some m = sym (ap (λ x. found x r) learnt)
                ∙ f in cc);
          };
          goes = ap (λ (q : Position P I A). answered w table q First) position;
          turn = asked;
          few = omega (arith, asked);
        },
      )

  -- a walk that has gone on with its answer stands where it asks
  pub step-held : (check next : Check W) (walk gone : W) (answer : Answer) →
      IsCheckStep seen w check (GoesOn walk answer) → next.findings ≡ check.findings →
      next.path.items ≡ check.path.items → next.callers.items ≡ check.callers.items →
      next.asks ≡ check.asks + 1 →
      answered (seen walk).world check.findings.records.finished (seen walk).position answer
      ≡ Some (seen gone).position → IsHeld seen w next (seen gone).position
  step-held check next walk gone answer turn f path callers asks_are goes =
      let e : Some turn.0 ≡ Some (seen gone).position = sym turn.2.goes
      ∙ (ap (λ v. answered v check.findings.records.finished (seen walk).position answer)
      (sym turn.2.world) ∙ goes) in
      let there : turn.0 ≡ (seen gone).position = cc in
      held-asked check next (seen gone).position f path callers asks_are
      (subst (λ q. IsHeld seen w check q) there turn.1)

  pub step-asking : (check next : Check W) (walk gone : W) (answer : Answer) →
      IsCheckStep seen w check (GoesOn walk answer) → next.findings ≡ check.findings →
      next.asks ≡ check.asks + 1 → (seen gone).world ≡ (seen walk).world →
      ArePartOf (seen gone).learnt check.findings.records.finished → (seen gone).asked
      ≡ (seen walk).asked + 1 → IsAsking w next.findings.records.finished next.asks (seen gone)
  step-asking check next walk gone answer turn f asks_are world learnt asked = record {
    world = world ∙ turn.2.world;
    learnt = subst (λ (y : Findings). ArePartOf (seen gone).learnt y.records.finished) (sym f)
        learnt;
    asked = omega (arith, asked);
    few = let l : (seen walk).asked ≤ check.asks = turn.2.few in omega (arith, asked, asks_are, l);
  }

  pub step-fits : (check : Check W) (walk : W) (answer : Answer) →
      IsCheckStep seen w check (GoesOn walk answer) →
      IsSome (answered (seen walk).world check.findings.records.finished (seen walk).position
      answer)
  step-fits check walk answer turn =
      ap is_some (ap (λ v. answered v check.findings.records.finished (seen walk).position answer)
      turn.2.world ∙ turn.2.goes)

  -- a turn of the walk's own world
  pub own-turn : (check : Check W) (walk : W) (answer : Answer) →
      IsCheckStep seen w check (GoesOn walk answer) → IsCheckStep seen (seen walk).world check
      (GoesOn walk answer)
  own-turn check walk answer turn =
      subst (λ v. IsCheckStep seen v check (GoesOn walk answer)) (sym turn.2.world) turn

  -- what is held of a caller, in its own walk's world
  pub ready-own : (check : Check W) (caller : Caller W) → IsReady seen w check caller →
      IsReady seen (seen caller.walk).world check caller
  ready-own check caller ready =
      subst (λ v. IsReady seen v check caller) (sym ready.calls.asking.world) ready

  pub held-own : (check : Check W) (walk gone : W) (answer : Answer) (p : Position P I A) →
      IsCheckStep seen w check (GoesOn walk answer) → (seen gone).world ≡ (seen walk).world →
      (next : Check W) → IsHeld seen w next p → IsHeld seen (seen gone).world next p
  held-own check walk gone answer p turn same next h =
      subst (λ v. IsHeld seen v next p) (sym (same ∙ turn.2.world)) h

  -- a caller has no more results than calls
  pub next-open : (check : Check W) (caller : Caller W) → IsReady seen w check caller →
      length caller.results.items ≤ length caller.calls
  next-open check caller h =
      let a : length caller.results.items ≡ length h.mine.results = ap length h.calls.results in
      let b : length caller.calls ≡ suc (length h.mine.keys) = ap length h.calls.calls in
      let l : length h.mine.results ≤ suc (length h.mine.keys) = h.calls.few in
      omega (arith, a, b, l)

  -- a key of the calls that it asks for
  pub next-calls : (check : Check W) (caller : Caller W) (key : RequestKey) (i : ℕ) →
      IsReady seen w check caller → i < length caller.calls → key ≡ get_or caller.calls i key →
      IsCall key (ask_of (seen caller.walk).position)
  next-calls check caller key i h l e =
      subst (λ (q : Position P I A). IsCall key (ask_of q)) (sym h.calls.stands)
      (subst (λ ks. In key ks) h.calls.calls (subst (λ k. In k caller.calls) (sym e)
      (in-get caller.calls i key l)))

  -- and what comes of it, in the world of the check
  pub turn-own : (check next : Check W) (walk : W) (answer : Answer) (turn : CheckStep W) →
      IsCheckStep seen w check (GoesOn walk answer) → IsCheckStep seen (seen walk).world next turn →
      IsCheckStep seen w next turn
  turn-own check next walk answer turn before after =
      subst (λ v. IsCheckStep seen v next turn) before.2.world after
