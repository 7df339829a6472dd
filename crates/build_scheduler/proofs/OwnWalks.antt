-- A walk that is its request's own, in the state that a core shows.
use Rattle.std.proofs.Common.{◌≡◌, ℕ, List, ◌∷◌, length, Option, Some, refl, ap, ◌∙◌, subst}
use Rattle.result_cache.specs.declared.run.RunId.{RunId}
use Rattle.result_cache.specs.declared.request.RequestKey.{RequestKey}
use Rattle.result_cache.specs.declared.request.RequestResult.{RequestResult}
use Rattle.result_cache.specs.declared.record.Record.{Record}
use Rattle.result_cache.specs.Journal.{Journal}
use Rattle.result_cache.specs.Table.{TableRuns}
use Rattle.build_meaning.specs.Lists.{at}
use Rattle.build_meaning.specs.World.{World}
use Rattle.build_meaning.specs.Walk.{Walk, gives, wants, Body, Outcome, Reply}
use Rattle.build_meaning.specs.SoFar.{recorded, result_of}
use Rattle.build_meaning.specs.Stop.{ends, asks}
use Rattle.build_meaning.specs.State.{
  Within,
  Place,
  walking,
  within,
  ready,
  assigned,
  waits,
  done,
  Origin as Asked,
  RequestState,
  State,
}
use Rattle.build_scheduler.specs.declared.walker.Ask.TheVariants.{Want, Call, Finished, Done}
use Rattle.build_scheduler.specs.declared.slot.Origin.{Origin}
use Rattle.build_scheduler.specs.declared.slot.Slot.{Slot}
use Rattle.build_scheduler.specs.declared.slot.Slot.TheVariants.{
  Ready,
  Assigned,
  Waiting,
  Calling,
  Done as Over,
}
use Rattle.build_scheduler.specs.declared.slot.End.{End}
use Rattle.build_scheduler.specs.History.{History}
use Rattle.build_scheduler.specs.Own.{Seen, placed, IsWith}
use Rattle.build_scheduler.specs.Position.{Position, ask_at}
use Rattle.build_scheduler.specs.Shown.{Shown}
use Rattle.build_scheduler.specs.Slots.{ShowsSlot}
use Rattle.build_scheduler.proofs.HistoryFacts.{one_state}
use Rattle.build_scheduler.proofs.SlotsStay.{paired-other}

module _ {P I A : Type 0} where
  -- what a walk that asks for a run wants
  pub record Wants (place : Place P I A) (run : RunId) : Type 0 where
    pub site : P
    pub body : Body I A
    pub go : Record → Journal → Walk P I A
    pub is : place ≡ walking (wants site run body go)

  pub wants-of : (runs : List RunId) (place : Place P I A) (run : RunId)
      → ask_at runs place ≡ Want run → Wants place run
  wants-of runs (walking (gives reply)) run e = absurd (cc)
  wants-of runs (walking (wants site wanted b go)) run e = record {
    site = site;
    body = b;
    go = go;
    is = let q : wanted ≡ run = cc in ap (λ r. walking (wants site r b go)) q;
  }
  wants-of runs (within x (ends outcome)) run e = absurd (cc)
  wants-of runs (within x (asks key keys go)) run e = absurd (cc)

  -- the body of a walk that asks to finish its run
  pub record Ends (place : Place P I A) (run : RunId) (made : Record) : Type 0 where
    pub inside : Within P I A
    pub outcome : Outcome
    pub is : place ≡ within inside (ends outcome)
    pub run_is : inside.run ≡ run
    pub made_is : recorded outcome inside.so_far.segments ≡ made

  pub ends-of : (runs : List RunId) (place : Place P I A) (run : RunId) (made : Record)
      → ask_at runs place ≡ Finished run made → Ends place run made
  ends-of runs (walking (gives reply)) run made e = absurd (cc)
  ends-of runs (walking (wants site wanted b go)) run made e = absurd (cc)
  ends-of runs (within x (ends outcome)) run made e = record
      { inside = x; outcome = outcome; is = refl; run_is = cc; made_is = cc }
  ends-of runs (within x (asks key keys go)) run made e = absurd (cc)

  -- the reply of a walk that is over
  pub record Gives (place : Place P I A) (runs : List RunId) (told : RequestResult) : Type 0 where
    pub reply : Reply
    pub is : place ≡ walking (gives reply)
    pub told_is : result_of reply runs ≡ told

  pub gives-of : (runs : List RunId) (place : Place P I A) (told : RequestResult)
      → ask_at runs place ≡ Done told → Gives place runs told
  gives-of runs (walking (gives reply)) told e = record { reply = reply; is = refl; told_is = cc }
  gives-of runs (walking (wants site wanted b go)) told e = absurd (cc)
  gives-of runs (within x (ends outcome)) told e = absurd (cc)
  gives-of runs (within x (asks key keys go)) told e = absurd (cc)

  -- the calls of a walk that calls
  pub record Calls (place : Place P I A) (calls : List RequestKey) : Type 0 where
    pub inside : Within P I A
    pub key : RequestKey
    pub keys : List RequestKey
    pub go : List RequestResult → Journal → Body I A
    pub is : place ≡ within inside (asks key keys go)
    pub calls_are : key ∷ keys ≡ calls

  pub calls-of : (runs : List RunId) (place : Place P I A) (calls : List RequestKey)
      → ask_at runs place ≡ Call calls → Calls place calls
  calls-of runs (walking (gives reply)) calls e = absurd (cc)
  calls-of runs (walking (wants site wanted b go)) calls e = absurd (cc)
  calls-of runs (within x (ends outcome)) calls e = absurd (cc)
  calls-of runs (within x (asks key keys go)) calls e = record
      { inside = x; key = key; keys = keys; go = go; is = refl; calls_are = cc }

-- a request that is with a node, in the state that is shown: its slot is out
pub record There {W P I A : Type 0} (slots : List (Slot W)) (state : State P I A) (id : ℕ)
    (p : Position P I A) : Type 0 where
  pub origin : Asked
  pub node : ℕ
  pub at_state : at state.requests id ≡ Some (placed origin p (assigned node))
  pub at_slots : at slots id ≡ Some (Assigned node)

module _ {W P I A : Type 0} (seen : W → Seen P I A) (w : World P I A) where
  slot-assigned : (s : State P I A) (count : ℕ) (slot : Slot W) (origin : Asked)
      (p : Position P I A) (node : ℕ)
      → ShowsSlot w s count seen slot (placed origin p (assigned node)) → slot ≡ Assigned node
  slot-assigned s count (Ready walk answer) origin p node h = absurd
      (let a : assigned node p.place ≡ ready h.position.place = ap
      (λ (q : RequestState P I A). q.status) h.is in cc)
  slot-assigned s count (Assigned by) origin p node h = let a : assigned node p.place
      ≡ assigned by h.place = h.is in let same : by ≡ node = cc in ap Assigned same
  slot-assigned s count (Waiting walk by) origin p node h = absurd
      (let a : assigned node p.place ≡ waits h.run h.body h.go = h.is in cc)
  slot-assigned s count (Calling calls) origin p node h = absurd (let a = h.is in cc)
  slot-assigned s count Over origin p node h = absurd
      (let a : assigned node p.place ≡ done h.result = h.is in cc)

  pub there-of : {history : History} {origins : List Origin} {slots : List (Slot W)}
      {making : List (Option RunId)} {table : TableRuns} {end : Option End}
      (x : Shown seen w history origins slots making table end) (id : ℕ) (p : Position P I A) →
      IsWith w history.events id p → There slots x.state id p
  there-of {history} {origins} {slots} x id p r =
      let e : at x.state.requests id ≡ Some (placed r.origin p (assigned r.node)) = subst
      (λ (s : State P I A). at s.requests id ≡ Some (placed r.origin p (assigned r.node)))
      (one_state w history.events r.state x.state r.history x.history) r.there in
      let y = paired-other (ShowsSlot w x.state (length history.events) seen) slots x.state.requests
      id
      (placed r.origin p (assigned r.node)) x.each e in
      record {
        origin = r.origin;
        node = r.node;
        at_state = e;
        at_slots = y.2
            ∙ ap Some (slot-assigned x.state (length history.events) y.0 r.origin p r.node y.1);
      }
