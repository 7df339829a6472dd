-- A ready request that a kept end serves is over at once, as a core shows it.
use Rattle.std.proofs.Common.{
  ◌≡◌,
  ◌≤◌,
  ◌<◌,
  ◌+◌,
  ℕ,
  true,
  false,
  List,
  [],
  ◌∷◌,
  ◌++◌,
  length,
  drop,
  Option,
  None,
  Some,
  refl,
  ap,
  sym,
  ◌∙◌,
  subst,
  arith,
}
use Rattle.std.proofs.Math.Bridge.{le_prop}
use Rattle.std.proofs.Math.Logic.{∥∥₁_elim, ∥∥₁_map, ∥∥₁_map₂, ∥∥₁_prop}
use Rattle.std.proofs.lemmas.List.{length-append, length-map}
use Rattle.std.proofs.Props.{props}
use Rattle.std.specs.Prelude.{IsSome, is_some}
use Rattle.msb_laws.specs.Asking.{and_then}
use Rattle.result_cache.specs.declared.run.RunId.{RunId}
use Rattle.result_cache.specs.declared.request.RequestResult.{RequestResult}
use Rattle.result_cache.specs.Journal.{Journal}
use Rattle.result_cache.specs.Replay.{replay_all}
use Rattle.result_cache.specs.Table.{Records, TableRuns}
use Rattle.build_meaning.specs.declared.event.Event.{Event}
use Rattle.build_meaning.specs.declared.event.Event.TheVariants.{Assign, Done}
use Rattle.build_meaning.specs.Lists.{at}
use Rattle.build_meaning.specs.Plain.{IsPlain}
use Rattle.build_meaning.specs.World.{World}
use Rattle.build_meaning.specs.Walk.{gives}
use Rattle.build_meaning.specs.ByTable.{request_by}
use Rattle.build_meaning.specs.SoFar.{result_of}
use Rattle.build_meaning.specs.State.{walking, State}
use Rattle.build_meaning.specs.History.{IsHistory}
use Rattle.build_meaning.proofs.ListPlaces.{at-less}
use Rattle.build_meaning.proofs.PairedLists.{Paired-length, Paired-some}
use Rattle.build_history.specs.Repeated.{uses_of_all}
use Rattle.build_scheduler.specs.declared.walker.Ask.{Ask}
use Rattle.build_scheduler.specs.declared.walker.Ask.TheVariants.{
  Want,
  Call,
  Finished,
  Done as IsOver,
}
use Rattle.build_scheduler.specs.declared.kept.Kept.{Kept}
use Rattle.build_scheduler.specs.declared.kept.KeptEnds.{KeptEnds}
use Rattle.build_scheduler.specs.declared.repeat.AtOnce.{AtOnce}
use Rattle.build_scheduler.specs.declared.slot.Origin.{Origin}
use Rattle.build_scheduler.specs.declared.slot.Slot.{Slot}
use Rattle.build_scheduler.specs.declared.slot.Slot.TheVariants.{
  Ready,
  Assigned,
  Waiting,
  Calling,
  Done as Over,
}
use Rattle.build_scheduler.specs.declared.slot.End.{End}
use Rattle.build_scheduler.specs.Kept.{
  AreKept,
  BeganWithNothing,
  EndsAlike,
  IsAtOnce,
  IsCalled,
  IsCome,
  IsKept,
  IsReadyWalk,
  IsRepeat,
  LeavesJournal,
  Serves,
  repeats,
  used_in,
}
use Rattle.build_scheduler.specs.KeptEnds.{IsPut, kept_for}
use Rattle.build_scheduler.specs.History.{History}
use Rattle.build_scheduler.specs.Own.{Seen, Asks, IsOwn}
use Rattle.build_scheduler.specs.Position.{HasEnded, ask_of}
use Rattle.build_scheduler.specs.Ready.{IsReady}
use Rattle.build_scheduler.specs.Shown.{AreNested, Shown}
use Rattle.build_scheduler.specs.Slots.{making_of, origin_of, owed, owed_by, ShowsSlot}
use Rattle.build_scheduler.proofs.Ending.{none-root}
use Rattle.build_meaning.proofs.EventsKeepLawful.{some-is}
use Rattle.build_scheduler.proofs.HistoryFacts.{one_state}
use Rattle.build_scheduler.proofs.KeptLists.{for-among}
use Rattle.build_scheduler.proofs.OneRequest.{owed-at}
use Rattle.build_scheduler.proofs.Repeating.{
  Alike_end,
  alike-end,
  ends-own,
  kept-of,
  kept-put,
  rest-named,
}
use Rattle.build_scheduler.proofs.Waiting.{assigned-there, callers-there, own-assigned}

ended-prop : (ask : Ask) → IsProp (HasEnded ask)
ended-prop (Want run) p q = absurd p
ended-prop (Call calls) p q = absurd p
ended-prop (Finished run made) p q = absurd p
ended-prop (IsOver told) p q = refl

pub none-of : {X : Type 0} (o : Option X) → is_some o ≡ false → o ≡ None
none-of None e = refl
none-of (Some x) e = absurd (let a : true ≡ false = e in cc)

-- the room that is left for the records, once the request is assigned
pub uses-room : {P I A : Type 0} (w : World P I A) {history : History} (id node room : ℕ)
    (rest : List RunId) → ∥ EndsAlike w history id node rest ∥₁ → history.room ≡ room + 1 →
    length rest ≤ room
uses-room w {history} id node room rest ends r = ∥∥₁_elim ends (λ p q. le_prop p q) (λ e.
    let two : owed e.request.status ≡ 2 = ap owed e.between in
    let l : owed e.request.status ≤ owed_by e.state.requests =
    owed-at e.state.requests id e.request e.there in
    let spare : owed_by e.state.requests + length rest ≤ history.room = e.spare in omega arith)

assign-first : (front : List Event) (id node : ℕ) (more : List Event) →
    (front ++ Assign id node ∷ []) ++ more ≡ front ++ Assign id node ∷ more
assign-first [] id node more = refl
assign-first (event ∷ front) id node more = ap (λ es. event ∷ es) (assign-first front id node more)

-- the events so far
pub assigned-uses : (events before after : List Event) (id node : ℕ) (uses : List Event) →
    before ≡ events ++ Assign id node ∷ [] → after ≡ before ++ uses →
    after ≡ events ++ Assign id node ∷ uses
assigned-uses events before after id node uses b a =
    a ∙ (ap (λ es. es ++ uses) b ∙ assign-first events id node uses)

done-last : (events : List Event) (id node : ℕ) (uses : List Event) →
    (events ++ Assign id node ∷ uses) ++ Done id ∷ []
    ≡ events ++ Assign id node ∷ (uses ++ Done id ∷ [])
done-last [] id node uses = refl
done-last (event ∷ events) id node uses = ap (λ es. event ∷ es) (done-last events id node uses)

pub all-events : (events first before after : List Event) (id node : ℕ) (rest : List RunId) →
    first ≡ events → before ≡ first ++ Assign id node ∷ uses_of_all id rest →
    after ≡ before ++ Done id ∷ [] → after ≡ events ++ repeats id node rest
all-events events first before after id node rest f b a =
    a ∙ (ap (λ es. es ++ Done id ∷ [])
    (b ∙ ap (λ es. es ++ Assign id node ∷ uses_of_all id rest) f)
    ∙ done-last events id node (uses_of_all id rest))

-- the journal that is left, by the walk in the slot
module _ {W P I A : Type 0} (seen : W → Seen P I A) (table : Records) where
  by-own : (slot : Option (Slot W)) (own : W) → IsReadyWalk slot own → (runs : List RunId)
      (last : Journal) → LeavesJournal seen table slot runs last →
      replay_all table (drop (length (seen own).position.runs) runs) (seen own).position.journal
      ≡ Some last
  by-own None own h runs last l = absurd h
  by-own (Some (Ready walk answer)) own h runs last l =
      subst (λ v. replay_all table (drop (length (seen v).position.runs) runs)
      (seen v).position.journal ≡ Some last) h l
  by-own (Some (Assigned node)) own h runs last l = absurd h
  by-own (Some (Waiting walk by)) own h runs last l = absurd h
  by-own (Some (Calling calls)) own h runs last l = absurd h
  by-own (Some Over) own h runs last l = absurd h

  to-own : (slot : Option (Slot W)) (own : W) → IsReadyWalk slot own → (runs : List RunId)
      (last : Journal) →
      replay_all table (drop (length (seen own).position.runs) runs) (seen own).position.journal
      ≡ Some last → LeavesJournal seen table slot runs last
  to-own None own h runs last l = absurd h
  to-own (Some (Ready walk answer)) own h runs last l =
      subst (λ v. replay_all table (drop (length (seen v).position.runs) runs)
      (seen v).position.journal ≡ Some last) (sym h) l
  to-own (Some (Assigned node)) own h runs last l = absurd h
  to-own (Some (Waiting walk by)) own h runs last l = absurd h
  to-own (Some (Calling calls)) own h runs last l = absurd h
  to-own (Some Over) own h runs last l = absurd h

  one-journal : (slot : Option (Slot W)) (runs : List RunId) (j k : Journal) →
      LeavesJournal seen table slot runs j → LeavesJournal seen table slot runs k → j ≡ k
  one-journal None runs j k a b = absurd a
  one-journal (Some (Ready walk answer)) runs j k a b = some-is j k (sym a ∙ b)
  one-journal (Some (Assigned node)) runs j k a b = absurd a
  one-journal (Some (Waiting walk by)) runs j k a b = absurd a
  one-journal (Some (Calling calls)) runs j k a b = absurd a
  one-journal (Some Over) runs j k a b = absurd a

module _ {W P I A : Type 0} (seen : W → Seen P I A) (w : World P I A) {history : History}
    {origins : List Origin} {slots : List (Slot W)} {making : List (Option RunId)}
    {table : TableRuns} {end : Option End}
    (shown : ∥ Shown seen w history origins slots making table end ∥₁) where
  pub ready-there : (id : ℕ) → ∥ IsReady w history.events id ∥₁ → id < length origins
  ready-there id ready =
      ∥∥₁_elim shown (λ p q. le_prop p q) (λ x. ∥∥₁_elim ready (λ p q. le_prop p q) (λ r.
      let e = subst (λ (s : State P I A). at s.requests id ≡ Some r.request)
      (one_state w history.events r.state x.state r.history x.history) r.there in
      let l : id < length x.state.requests = at-less x.state.requests id r.request e in
      let b : length origins ≡ length x.state.requests =
      ap length x.asked ∙ length-map x.state.requests origin_of in omega arith))

  pub own-there : (id : ℕ) (walk : W) → ∥ IsOwn w history.events table.finished id (seen walk) ∥₁ →
      id < length origins
  own-there id walk own = assigned-there seen w id shown
      (∥∥₁_map own (λ o. own-assigned seen w id walk o))

  pub body-there : (id : ℕ) → id < length origins → id < length making
  body-there id l = ∥∥₁_elim shown (λ p q. le_prop p q) (λ x.
      let b : length origins ≡ length x.state.requests =
      ap length x.asked ∙ length-map x.state.requests origin_of in
      let m : length making ≡ length x.state.requests =
      ap length x.bodies ∙ length-map x.state.requests making_of in omega arith)

  pub caller-slot : (id caller : ℕ) (o : Origin) → ∥ AreNested origins ∥₁ →
      at origins id ≡ Some o → o.parent ≡ Some caller → caller < length slots
  caller-slot id caller o nested e p = ∥∥₁_elim shown (λ p q. le_prop p q) (λ x.
      let l : caller < length origins =
      callers-there origins nested id caller (ap (λ a. and_then a (λ (o : Origin). o.parent)) e
      ∙ p) in
      let a : length slots ≡ length x.state.requests =
      Paired-length (ShowsSlot w x.state (length history.events) seen) slots x.state.requests x.each
      in
      let b : length origins ≡ length x.state.requests =
      ap length x.asked ∙ length-map x.state.requests origin_of in omega arith)

  -- what is kept of a request that is over
  pub kept-new : (before after : KeptEnds W) (id : ℕ) (walk : W) (told : RequestResult)
      (kept : Kept W) → ∥ IsOwn w history.events table.finished id (seen walk) ∥₁ →
      ask_of (seen walk).position ≡ IsOver told → IsCalled origins id →
      kept.id ≡ id → kept.result ≡ told → seen kept.walk ≡ record {
        world = (seen walk).world;
        position = (seen walk).position;
        asked = 1;
        learnt = [];
      } → (kept.from_nothing ≡ true → BeganWithNothing seen slots origins id) →
      (kept.plain ≡ true → (o : Origin) → at origins id ≡ Some o →
      IsPlain (seen walk).world o.key) → IsPut before after kept →
      ∥ AreKept seen w table.finished origins before.instances.items ∥₁ →
      ∥ AreKept seen w table.finished origins after.instances.items ∥₁
  kept-new before after id walk told kept own over called same_id same_result same_walk nothing
      plain entered each =
      ∥∥₁_elim shown ∥∥₁_prop (λ x. ∥∥₁_map₂ own each (λ o k.
      kept-put seen w table.finished origins before after kept entered
      (kept-of seen w x id walk told o over called kept same_id same_result same_walk nothing
      plain) k))

  pub kept-there : (ends : KeptEnds W) (id : ℕ) (kept : Kept W) →
      ∥ AreKept seen w table.finished origins ends.instances.items ∥₁ →
      kept_for ends id ≡ Some kept → kept.id < length origins
  kept-there ends id kept each h = ∥∥₁_elim each (λ p q. le_prop p q) (λ k.
      let v = k kept (for-among ends id kept h) in at-less origins kept.id v.origin v.whose)

  -- the walk of a ready request is of this world
  own-world : (x : Shown seen w history origins slots making table end) (id : ℕ) (own : W) →
      IsReadyWalk (at slots id) own → (seen own).world ≡ w
  own-world x id own h = go (at slots id) refl h
    where
      go : (slot : Option (Slot W)) → at slots id ≡ slot → IsReadyWalk slot own →
          (seen own).world ≡ w
      go None e h = absurd h
      go (Some (Ready walk answer)) e h =
          let y = Paired-some (ShowsSlot w x.state (length history.events) seen) slots
          x.state.requests id (Ready walk answer) x.each e in
          subst (λ v. (seen v).world ≡ w) h y.1.goes.world
      go (Some (Assigned node)) e h = absurd h
      go (Some (Waiting walk by)) e h = absurd h
      go (Some (Calling calls)) e h = absurd h
      go (Some Over) e h = absurd h

  module _ (ends : KeptEnds W) (id : ℕ) (kept : Kept W)
      (each : ∥ AreKept seen w table.finished origins ends.instances.items ∥₁)
      (ready : ∥ IsReady w history.events id ∥₁)
      (s : Serves seen slots origins making ends id kept) where
    abbrev Served : Type 0
    Served = (x : Shown seen w history origins slots making table end)
        × Alike_end seen w x id kept × IsKept seen w table.finished origins kept

    served : ∥ Served ∥₁
    served = ∥∥₁_elim shown ∥∥₁_prop (λ x. ∥∥₁_map₂ ready each (λ r k.
        (x, alike-end seen w x id r ends k kept s, k kept (for-among ends id kept s.there))))

    pub used-few : used_in seen (at slots id) ≤ length kept.result.runs
    used-few = ∥∥₁_elim served (λ p q. le_prop p q) (λ v.
        let u : used_in seen (at slots id) ≡ length v.1.request.runs = v.1.used in
        let l : length kept.result.runs ≡ length v.1.request.runs + length v.1.rest =
        ap length v.1.left ∙ length-append v.1.request.runs v.1.rest in omega arith)

    pub walk-asked : 0 < (seen kept.walk).asked
    walk-asked = ∥∥₁_elim served (λ p q. le_prop p q) (λ v.
        let e : (seen kept.walk).asked ≡ 1 = ap (λ (u : Seen P I A). u.asked) v.2.walk in
        omega arith)

    pub walk-over : HasEnded (ask_of (seen kept.walk).position)
    walk-over = ∥∥₁_elim served (ended-prop (ask_of (seen kept.walk).position)) (λ v.
        subst (λ (u : Seen P I A). HasEnded (ask_of u.position)) (sym v.2.walk) tt)

    other-than_root : id ≡ 0 → ⊥
    other-than_root e = ∥∥₁_elim shown (λ p q. absurd p) (λ x.
        let c = s.called in
        let root : c.origin.parent ≡ None = none-root origins c.origin x.rooted
        (subst (λ n. at origins n ≡ Some c.origin) e c.own) in
        let a : Some c.caller ≡ None = sym c.by ∙ root in cc)

    -- the runs that are left to its own walk may be replayed
    pub may-replay : (own : W) → IsReadyWalk (at slots id) own →
        IsSome (replay_all table.finished
        (drop (length (seen own).position.runs) (seen kept.walk).position.runs)
        (seen own).position.journal)
    may-replay own h = ∥∥₁_elim served (hlevel props) (λ v.
        let runs : (seen kept.walk).position.runs ≡ kept.result.runs =
        ap (λ (u : Seen P I A). u.position.runs) v.2.walk in
        let leaves : LeavesJournal seen table.finished (at slots id) kept.result.runs v.1.last =
        subst (λ records. LeavesJournal seen records (at slots id) kept.result.runs v.1.last)
        (sym v.0.finished) v.1.leaves in
        ap (λ (rs : List RunId). is_some (replay_all table.finished
        (drop (length (seen own).position.runs) rs) (seen own).position.journal)) runs
        ∙ ap is_some
        (by-own seen table.finished (at slots id) own h kept.result.runs v.1.last leaves))

    -- a copy of the kept walk, where both began with nothing
    pub come-copied : (walk : W) → kept.from_nothing ≡ true →
        BeganWithNothing seen slots origins id → seen walk ≡ record {
          world = (seen kept.walk).world;
          position = (seen kept.walk).position;
          asked = 1;
          learnt = [];
        } → ∥ IsCome seen table.finished (at slots id) kept walk ∥₁
    come-copied walk n b same_walk = ∥∥₁_map served (λ v.
        let journal : (seen walk).position.journal ≡ (seen kept.walk).position.journal =
        ap (λ (u : Seen P I A). u.position.journal) same_walk in
        record {
          leaves = subst (λ j. LeavesJournal seen table.finished (at slots id) kept.result.runs j)
              (v.1.same n b ∙ sym journal)
              (subst (λ records. LeavesJournal seen records (at slots id) kept.result.runs
              v.1.last) (sym v.0.finished) v.1.leaves);
          stands = same_walk ∙ (λ i. record {
            world = (seen kept.walk).world;
            position = record {
              journal = sym journal i;
              runs = (seen kept.walk).position.runs;
              place = (seen kept.walk).position.place;
            };
            asked = 1;
            learnt = [];
          });
        })

    -- its own walk, with the records that were left to it
    pub come-replayed : (own walk : W) → IsReadyWalk (at slots id) own →
        (seen walk).world ≡ (seen own).world →
        replay_all table.finished
        (drop (length (seen own).position.runs) (seen kept.walk).position.runs)
        (seen own).position.journal ≡ Some (seen walk).position.journal →
        (seen walk).position.runs ≡ (seen kept.walk).position.runs →
        (seen walk).position.place ≡ (seen kept.walk).position.place →
        (seen walk).asked ≡ 1 → (seen walk).learnt ≡ [] →
        ∥ IsCome seen table.finished (at slots id) kept walk ∥₁
    come-replayed own walk h world journal runs place asked learnt = ∥∥₁_map served (λ v.
        let its : (seen kept.walk).position.runs ≡ kept.result.runs =
        ap (λ (u : Seen P I A). u.position.runs) v.2.walk in
        let kept_world : (seen kept.walk).world ≡ w =
        ap (λ (u : Seen P I A). u.world) v.2.walk in
        let same_world : (seen walk).world ≡ (seen kept.walk).world =
        world ∙ (own-world v.0 id own h ∙ sym kept_world) in
        record {
          leaves = to-own seen table.finished (at slots id) own h kept.result.runs
              (seen walk).position.journal
              (ap (λ (rs : List RunId). replay_all table.finished
              (drop (length (seen own).position.runs) rs) (seen own).position.journal) (sym its)
              ∙ journal);
          stands = λ i. record {
            world = same_world i;
            position = record {
              journal = (seen walk).position.journal;
              runs = runs i;
              place = place i;
            };
            asked = asked i;
            learnt = learnt i;
          };
        })

    -- it comes to that end with the names of the runs that are left
    pub comes : (end : AtOnce W) →
        end.claims.items ≡ drop (used_in seen (at slots id)) kept.result.runs →
        end.told ≡ kept.result →
        ∥ IsCome seen table.finished (at slots id) kept end.walk ∥₁ →
        ∥ IsAtOnce seen w table.finished history.events id end ∥₁
    comes end is_names same_told come = ∥∥₁_map₂ served come (λ v m.
        let x = v.0 in
        let a = v.1 in
        let k = v.2 in
        let last : (seen end.walk).position.journal ≡ a.last =
        one-journal seen table.finished (at slots id) kept.result.runs
        (seen end.walk).position.journal a.last
        m.leaves (subst (λ records. LeavesJournal seen records (at slots id) kept.result.runs
        a.last) (sym x.finished) a.leaves) in
        let same : Some (kept.result, a.last) ≡ Some (end.told, a.last) =
        ap (λ (r : RequestResult). Some (r, a.last)) (sym same_told) in
        let runs : end.told.runs ≡ kept.result.runs =
        ap (λ (r : RequestResult). r.runs) same_told in
        let from_kept : Seen P I A → Seen P I A = λ u. record {
          world = u.world;
          position = record {
            journal = (seen end.walk).position.journal;
            runs = u.position.runs;
            place = u.position.place;
          };
          asked = 1;
          learnt = [];
        } in
        record {
          state = x.state;
          request = a.request;
          walk = a.walk;
          history = x.history;
          there = a.there;
          between = a.between;
          called = other-than_root;
          first = a.first;
          last = a.last;
          begun = a.begun;
          told = a.told ∙ same;
          by_key = ap (λ records. request_by w records a.first a.request.origin.key) x.finished
              ∙ (a.by_key ∙ same);
          left = runs ∙ (a.left ∙ ap (λ rs. a.request.runs ++ rs)
              (sym (rest-named seen w x id kept end.claims.items a is_names)));
          reply = k.reply;
          result = ap (result_of k.reply) runs ∙ (k.result ∙ sym same_told);
          stands = m.stands ∙ (ap from_kept k.walk ∙ (λ i. record {
            world = w;
            position = record {
              journal = last i;
              runs = sym runs i;
              place = walking (gives k.reply);
            };
            asked = 1;
            learnt = [];
          }));
        })

-- the walk and the result of a request that is over at once
module _ {W P I A : Type 0} (seen : W → Seen P I A) (w : World P I A) (before : List Event)
    (known : Records) (id node : ℕ) (how : AtOnce W) where
  abbrev ends-of : (a : IsAtOnce seen w known before id how) (after : History) →
      after.events ≡ before →
      owed_by a.state.requests + length how.claims.items ≤ after.room →
      EndsAlike w after id node how.claims.items
  ends-of a after ev spare = record {
    state = a.state;
    request = a.request;
    walk = a.walk;
    history = subst (λ es. IsHistory w es a.state) (sym ev) a.history;
    there = a.there;
    between = a.between;
    result = how.told;
    last = a.last;
    told = a.told;
    left = a.left;
    spare = spare;
  }

  module _ (comes_so : ∥ IsAtOnce seen w known before id how ∥₁) where
    -- there is room for its events
    pub ends-now : {history : History} {origins : List Origin} {slots : List (Slot W)}
        {making : List (Option RunId)} {table : TableRuns} {end : Option End} (after : History) →
        ∥ Shown seen w history origins slots making table end ∥₁ → history.events ≡ before →
        after.events ≡ before → after.room ≡ history.room + length how.claims.items →
        ∥ EndsAlike w after id node how.claims.items ∥₁
    ends-now {history = history} after shown was ev room = ∥∥₁_map₂ shown comes_so (λ x a.
        let mine : IsHistory w before x.state =
        subst (λ es. IsHistory w es x.state) was x.history in
        let one : x.state ≡ a.state = one_state w before x.state a.state mine a.history in
        let owes : owed_by a.state.requests ≤ history.room =
        subst (λ (s : State P I A). owed_by s.requests ≤ history.room) one x.room in
        let spare : owed_by a.state.requests + length how.claims.items ≤ after.room =
        omega arith in
        ends-of a after ev spare)

    pub over-own : (events : List Event) (records : Records) →
        events ≡ before ++ Assign id node ∷ uses_of_all id how.claims.items →
        ∥ IsOwn w events records id (seen how.walk) ∥₁
    over-own events records ev = ∥∥₁_map comes_so (λ a.
        let roomy : History = record {
          events = before;
          room = owed_by a.state.requests + length how.claims.items;
          nodes = 1;
        } in
        let most : ℕ = owed_by a.state.requests + length how.claims.items in
        let spare : most ≤ most = omega arith in
        ends-own seen w {history = roomy} id node (ends-of a roomy refl spare) events records
        a.reply
        how.walk ev a.result a.stands)

    pub over-asks : (events : List Event) →
        events ≡ before ++ Assign id node ∷ uses_of_all id how.claims.items →
        ∥ Asks w events id (IsOver how.told) ∥₁
    over-asks events ev = ∥∥₁_map₂ comes_so (over-own events [] ev) (λ a o. record {
      position = (seen how.walk).position;
      stands = o.stands;
      asks = ap (λ (u : Seen P I A). ask_of u.position) a.stands ∙ ap IsOver a.result;
    })

    pub other-request : id ≡ 0 → ⊥
    other-request e = ∥∥₁_elim comes_so (λ p q. absurd p) (λ a. a.called e)

    pub repeats-so : (after : List Event) →
        after ≡ before ++ repeats id node how.claims.items →
        ∥ IsRepeat w known before after id node ∥₁
    repeats-so after ev = ∥∥₁_map comes_so (λ a. record {
      state = a.state;
      request = a.request;
      history = a.history;
      there = a.there;
      first = a.first;
      begun = a.begun;
      result = how.told;
      last = a.last;
      told = a.by_key;
      rest = how.claims.items;
      left = a.left;
      is = ev;
    })
