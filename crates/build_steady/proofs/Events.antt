-- What one more event adds, and what it says.
use Rattle.std.proofs.Common.{
  ◌≡◌,
  ◌≤◌,
  ◌<◌,
  ◌+◌,
  ℕ,
  suc,
  Bool,
  true,
  false,
  List,
  [],
  ◌∷◌,
  ◌++◌,
  length,
  Option,
  None,
  Some,
  Result,
  Ok,
  Err,
  IfOk,
  IsSome,
  is_some,
  refl,
  ap,
  sym,
  ◌∙◌,
  subst,
  arith,
}
use Rattle.std.specs.Prelude.{nat_le, nat_lt}
use Rattle.std.proofs.lemmas.Bool.{le-leb, lt-leb, lt-ltb, le-ltb}
use Rattle.msb_values.specs.declared.errors.NoMemory.{NoMemory}
use Rattle.msb_values.specs.declared.key.InstanceKey.{InstanceKey}
use Rattle.result_cache.specs.declared.run.RunId.{RunId}
use Rattle.result_cache.specs.declared.record.Record.{Record}
use Rattle.result_cache.specs.Lists.{this_or}
use Rattle.result_cache.specs.Same.{same_run}
use Rattle.result_cache.specs.SameRecords.{same_record}
use Rattle.result_cache.specs.ExactRecords.{record-exact}
use Rattle.result_cache.specs.Table.{Records, BegunRun, begun_unless, found, request_of, without}
use Rattle.result_cache.proofs.RunTests.{same_run-refl, same_run-true}
use Rattle.build_meaning.specs.Meaning.{most_instances}
use Rattle.build_meaning.specs.Demand.{distinct}
use Rattle.build_scheduler.specs.Instances.{AreCounted, with_instance}
use Rattle.build_scheduler.proofs.InstanceCounts.{counted-one, counted-length}
use Rattle.build_steady.specs.Order.{
  DemandEvent,
  is_reached,
  is_too_deep,
  body_begins,
  body_ends,
  is_circular,
}
use Rattle.build_steady.specs.Verdicts.{
  most_bodies,
  bodies_begun,
  reached,
  first_record,
  unless_so,
  if_differs,
  said_by,
  first_said,
  verdict_after,
}
use Rattle.build_steady.specs.Findings.{Shows, Tells}
use Rattle.build_steady.specs.declared.findings.Findings.{Findings}
use Rattle.build_steady.specs.declared.verdict.Verdict.{Verdict}
use Rattle.build_steady.specs.declared.verdict.Verdict.TheVariants.{Differs}

-- how many bodies have begun with more events
pub bodies-more : (xs ys : List DemandEvent) →
    bodies_begun (xs ++ ys) ≡ bodies_begun xs + bodies_begun ys
bodies-more [] ys = omega arith
bodies-more (is_reached i ∷ xs) ys = bodies-more xs ys
bodies-more (is_too_deep i ∷ xs) ys = bodies-more xs ys
bodies-more (body_begins r ∷ xs) ys = let e = bodies-more xs ys in omega arith
bodies-more (body_ends r m ∷ xs) ys = bodies-more xs ys
bodies-more (is_circular r ∷ xs) ys = bodies-more xs ys

-- the instances that were reached with more events
pub reached-more : (xs ys : List DemandEvent) → reached (xs ++ ys) ≡ reached xs ++ reached ys
reached-more [] ys = refl
reached-more (is_reached i ∷ xs) ys = ap (λ l. i ∷ l) (reached-more xs ys)
reached-more (is_too_deep i ∷ xs) ys = reached-more xs ys
reached-more (body_begins r ∷ xs) ys = reached-more xs ys
reached-more (body_ends r m ∷ xs) ys = reached-more xs ys
reached-more (is_circular r ∷ xs) ys = reached-more xs ys

-- the first record with more events
abbrev pub or_later : Option Record → Option Record → Option Record
or_later None later = later
or_later (Some m) later = Some m

later-or : (b : Bool) (o later : Option Record) (m : Record) → this_or b (or_later o later) m
    ≡ or_later (this_or b o m) later
later-or true o later m = refl
later-or false o later m = refl

pub first-more : (xs ys : List DemandEvent) (r : RunId) → first_record (xs ++ ys) r
    ≡ or_later (first_record xs r) (first_record ys r)
first-more [] ys r = refl
first-more (is_reached i ∷ xs) ys r = first-more xs ys r
first-more (is_too_deep i ∷ xs) ys r = first-more xs ys r
first-more (body_begins s ∷ xs) ys r = first-more xs ys r
first-more (body_ends s m ∷ xs) ys r = ap (λ o. this_or (same_run s r) o m) (first-more xs ys r)
    ∙ later-or (same_run s r) (first_record xs r) (first_record ys r) m
first-more (is_circular s ∷ xs) ys r = first-more xs ys r

-- a verdict, an event further or at its event
pub verdict-goes : (before : List DemandEvent) (event : DemandEvent) (events : List DemandEvent) →
    said_by before event ≡ None → verdict_after before (event ∷ events) ≡ verdict_after (before
    ++ event ∷ []) events
verdict-goes before event events h =
    ap (λ o. first_said o (verdict_after (before ++ event ∷ []) events)) h

pub verdict-said : (before : List DemandEvent) (event : DemandEvent) (events : List DemandEvent)
    (verdict : Verdict) → said_by before event ≡ Some verdict →
    verdict_after before (event ∷ events) ≡ verdict
verdict-said before event events verdict h =
    ap (λ o. first_said o (verdict_after (before ++ event ∷ []) events)) h

-- what is held of the events, with one more
or_nothing : (o : Option Record) → or_later o None ≡ o
or_nothing None = refl
or_nothing (Some m) = refl

no_record : (xs : List DemandEvent) (e : DemandEvent) (r : RunId) → first_record (e ∷ []) r ≡ None →
    first_record (xs ++ e ∷ []) r ≡ first_record xs r
no_record xs e r h = first-more xs (e ∷ []) r ∙ (ap (or_later (first_record xs r)) h
    ∙ or_nothing (first_record xs r))

no_more : (xs : List DemandEvent) (e : DemandEvent) → bodies_begun (e ∷ []) ≡ 0 →
    bodies_begun (xs ++ e ∷ []) ≡ bodies_begun xs
no_more xs e h = let k = bodies-more xs (e ∷ []) in omega arith

nothing_behind : (xs : List InstanceKey) → xs ++ [] ≡ xs
nothing_behind [] = refl
nothing_behind (x ∷ xs) = ap (λ l. x ∷ l) (nothing_behind xs)

none_reached : (xs : List DemandEvent) (e : DemandEvent) → reached (e ∷ []) ≡ [] →
    reached (xs ++ e ∷ []) ≡ reached xs
none_reached xs e h =
    reached-more xs (e ∷ []) ∙ (ap (λ l. reached xs ++ l) h ∙ nothing_behind (reached xs))

-- the parts of what is shown
pub instances-reach : (keys next : List InstanceKey) (before : List DemandEvent) (i : InstanceKey) →
    next ≡ with_instance keys i → AreCounted keys (reached before) →
    AreCounted next (reached (before ++ is_reached i ∷ []))
instances-reach keys next before i e c =
    subst (λ k. AreCounted k (reached (before ++ is_reached i ∷ []))) (sym e)
    (subst (AreCounted (with_instance keys i)) (sym (reached-more before (is_reached i ∷ [])))
    (counted-one keys (reached before) i c))

pub instances-stay : (keys : List InstanceKey) (before : List DemandEvent) (e : DemandEvent) →
    reached (e ∷ []) ≡ [] → AreCounted keys (reached before) →
    AreCounted keys (reached (before ++ e ∷ []))
instances-stay keys before e h c = subst (AreCounted keys) (sym (none_reached before e h)) c

pub records-stay : (table : Records) (before : List DemandEvent) (e : DemandEvent) →
    ((r : RunId) → first_record (e ∷ []) r ≡ None) →
    ((r : RunId) → found table r ≡ first_record before r) → (r : RunId) →
    found table r ≡ first_record (before ++ e ∷ []) r
records-stay table before e h f r = f r ∙ sym (no_record before e r (h r))

pub bodies-stay : (n : ℕ) (before : List DemandEvent) (e : DemandEvent) →
    bodies_begun (e ∷ []) ≡ 0 → n ≡ bodies_begun before → n ≡ bodies_begun (before ++ e ∷ [])
bodies-stay n before e h c = c ∙ sym (no_more before e h)

pub bodies-begin : (n next : ℕ) (before : List DemandEvent) (r : RunId) → next ≡ n + 1 →
    n ≡ bodies_begun before → next ≡ bodies_begun (before ++ body_begins r ∷ [])
bodies-begin n next before r e c = let k : bodies_begun (before ++ body_begins r ∷ [])
    ≡ bodies_begun before + 1 = bodies-more before (body_begins r ∷ []) in omega arith

-- a body that is over, where its run has no record, or has this one
pub records-new : (table : Records) (before : List DemandEvent) (r : RunId) (m : Record) →
    found table r ≡ None → ((s : RunId) → found table s ≡ first_record before s) →
    (s : RunId) → found (record { run = r; made = m } ∷ table) s ≡ first_record (before
    ++ body_ends r m ∷ []) s
records-new table before r m n f s =
    go (same_run r s) refl ∙ sym (first-more before (body_ends r m ∷ []) s)
  where
    go : (b : Bool) → same_run r s ≡ b → this_or b (found table s) m
        ≡ or_later (first_record before s) (this_or b None m)
    go true e =
        let p : found table s ≡ None = subst (λ x. found table x ≡ None) (same_run-true r s e) n in
        ap (λ x. or_later x (Some m)) (sym p ∙ f s)
    go false e = f s ∙ sym (or_nothing (first_record before s))

pub records-same : (table : Records) (before : List DemandEvent) (r : RunId) (m : Record) →
    found table r ≡ Some m → ((s : RunId) → found table s ≡ first_record before s) → (s : RunId) →
    found table s ≡ first_record (before ++ body_ends r m ∷ []) s
records-same table before r m n f s =
    go (same_run r s) refl ∙ sym (first-more before (body_ends r m ∷ []) s)
  where
    go : (b : Bool) → same_run r s ≡ b → found table s ≡ or_later (first_record before s)
        (this_or b None m)
    go true e =
        let p : found table s ≡ Some m = subst (λ x. found table x ≡ Some m) (same_run-true r s e)
        n in
        p ∙ ap (λ x. or_later x (Some m)) (sym p ∙ f s)
    go false e = f s ∙ sym (or_nothing (first_record before s))

-- whether an instance is one too many
pub reach-fits : (keys : List InstanceKey) (before : List DemandEvent) (i : InstanceKey)
    (v : Verdict) → AreCounted keys (reached (before ++ is_reached i ∷ [])) →
    length keys ≤ most_instances →
    unless_so (nat_le (length (distinct (reached before ++ i ∷ []))) most_instances) v ≡ None
reach-fits keys before i v c l =
    let e : length (distinct (reached before ++ i ∷ [])) ≡ length keys =
    ap (λ xs. length (distinct xs)) (sym (reached-more before (is_reached i ∷ [])))
    ∙ counted-length keys (reached (before ++ is_reached i ∷ [])) c in
    ap (λ b. unless_so b v) (le-leb (length (distinct (reached before ++ i ∷ []))) most_instances
    (omega (arith, e, l)))

pub reach-exceeds : (keys : List InstanceKey) (before : List DemandEvent) (i : InstanceKey)
    (v : Verdict) → AreCounted keys (reached (before ++ is_reached i ∷ [])) →
    most_instances < length keys →
    unless_so (nat_le (length (distinct (reached before ++ i ∷ []))) most_instances) v ≡ Some v
reach-exceeds keys before i v c l =
    let e : length (distinct (reached before ++ i ∷ [])) ≡ length keys =
    ap (λ xs. length (distinct xs)) (sym (reached-more before (is_reached i ∷ [])))
    ∙ counted-length keys (reached (before ++ is_reached i ∷ [])) c in
    ap (λ b. unless_so b v) (lt-leb (length (distinct (reached before ++ i ∷ []))) most_instances
    (omega (arith, e, l)))

pub begin-fits : (before : List DemandEvent) (n : ℕ) (v : Verdict) → n ≡ bodies_begun before →
    n < most_bodies → unless_so (nat_lt (bodies_begun before) most_bodies) v ≡ None
begin-fits before n v e l =
    ap (λ b. unless_so b v) (lt-ltb (bodies_begun before) most_bodies (omega (arith, e, l)))

pub begin-exceeds : (before : List DemandEvent) (n : ℕ) (v : Verdict) → n ≡ bodies_begun before →
    most_bodies ≤ n → unless_so (nat_lt (bodies_begun before) most_bodies) v ≡ Some v
begin-exceeds before n v e l =
    ap (λ b. unless_so b v) (le-ltb (bodies_begun before) most_bodies (omega (arith, e, l)))

-- a body that ends, by whether its record is that of the first
pub end-new : (before : List DemandEvent) (r : RunId) (m : Record) → first_record before r ≡ None →
    said_by before (body_ends r m) ≡ None
end-new before r m h = ap (λ o. if_differs o r m) h

pub end-said : (before : List DemandEvent) (r : RunId) (first m : Record) → first_record before r
    ≡ Some first → said_by before (body_ends r m) ≡ if_differs (Some first) r m
end-said before r first m h = ap (λ o. if_differs o r m) h

-- where nothing is said, both records are the same
pub same-first : (first made : Record) (run : RunId) → if_differs (Some first) run made ≡ None →
    first ≡ made
same-first first made run h = go (same_record first made) refl h
  where
    go : (b : Bool) → same_record first made ≡ b → unless_so b (Differs run first made) ≡ None →
        first ≡ made
    go true e h = (record-exact first made).0 e
    go false e h = absurd (cc)

-- a body that ends where its run has a record
pub end-done : (f : Findings) (before : List DemandEvent) (run : RunId) (made first : Record)
    (r : Result (Option Verdict) NoMemory) →
    IfOk r (λ said. said ≡ if_differs (Some first) run made) → found f.records.finished run
    ≡ Some first →
    Shows f before → IfOk r (Tells before (body_ends run made) f)
end-done f before run made first (Err none) is h shows = tt
end-done f before run made first (Ok said) is h shows = go said is
  where
    says : said_by before (body_ends run made) ≡ if_differs (Some first) run made
    says = end-said before run first made (sym (shows.records run) ∙ h)

    go : (o : Option Verdict) → o ≡ if_differs (Some first) run made →
        Tells before (body_ends run made) f o
    go (Some verdict) e = says ∙ sym e
    go None e = (
      says ∙ sym e,
      record {
        records = records-same f.records.finished before run made (h
            ∙ ap Some (same-first first made run (sym e))) shows.records;
        unbegun = shows.unbegun;
        instances =
            instances-stay f.instances.keys before (body_ends run made) refl shows.instances;
        bodies = bodies-stay f.bodies before (body_ends run made) refl shows.bodies;
      },
    )

-- one where it has none
pub end-absent : (f g : Findings) (before : List DemandEvent) (run : RunId) (made : Record) →
    found f.records.finished run ≡ None → g.records.finished ≡ record { run = run; made = made }
    ∷ f.records.finished → g.records.begun ≡ [] →
    g.instances.keys ≡ f.instances.keys → g.bodies ≡ f.bodies → Shows f before →
    Tells before (body_ends run made) g None
end-absent f g before run made none finished begun keys bodies shows = (
  end-new before run made (sym (shows.records run) ∙ none),
  record {
    records = λ r. ap (λ t. found t r) finished ∙ records-new f.records.finished before run made
        none shows.records r;
    unbegun = begun;
    instances = instances-stay g.instances.keys before (body_ends run made) refl
        (subst (λ k. AreCounted k (reached before)) (sym keys) shows.instances);
    bodies = bodies-stay g.bodies before (body_ends run made) refl (bodies ∙ shows.bodies);
  },
)

-- a run that has just begun, and has ended
pub begun-there : (run : RunId) (by : ℕ) (old begun : List BegunRun) → begun ≡ record {
  run = run;
  by = by;
} ∷ old → IsSome (request_of begun run)
begun-there run by old begun e = ap is_some (ap (λ b. request_of b run) e
    ∙ ap (λ t. this_or t (request_of old run) by) (same_run-refl run))

pub begun-gone : (run : RunId) (by : ℕ) (old begun after : List BegunRun) → old ≡ [] →
    begun ≡ record { run = run; by = by } ∷ old → after ≡ without run begun → after ≡ []
begun-gone run by old begun after none e h =
    h ∙ (ap (without run) (e ∙ ap (λ l. record { run = run; by = by } ∷ l) none)
    ∙ ap (λ t. begun_unless t (record { run = run; by = by }) []) (same_run-refl run))
