-- The order of demand of a world: what comes, one after the other, where its meaning is made on one
-- node. Requests and bodies begin where the recursion that shares nothing comes to them, calls made
-- at once come in call order, and a body ends where it is over. (MSBuild task; Target build order)
use Rattle.std.specs.Prelude.{
  ℕ,
  zero,
  suc,
  Bool,
  true,
  false,
  List,
  [],
  ◌∷◌,
  ◌++◌,
  length,
  Option,
  None,
  Some,
}
use Rattle.msb_values.specs.declared.key.InstanceKey.{InstanceKey}
use Rattle.result_cache.specs.declared.run.RunId.{RunId}
use Rattle.result_cache.specs.declared.request.RequestKey.{RequestKey}
use Rattle.result_cache.specs.declared.request.RequestResult.{RequestResult}
use Rattle.result_cache.specs.declared.record.Record.{Record}
use Rattle.result_cache.specs.Journal.{Journal, acted, ended, add, record_of}
use Rattle.result_cache.specs.Same.{is_in}
use Rattle.build_meaning.specs.World.{World}
use Rattle.build_meaning.specs.Walk.{Walk, gives, wants, Body, makes, does, uses, calls}
use Rattle.build_meaning.specs.SoFar.{ToolUse, SoFar, nothing_yet, with_act, with_tool, with_calls}
use Rattle.build_meaning.specs.Meaning.{Given, deepest, at_once, body, request}

-- a request for this instance is reached; one is reached that is nested too deep; the body of a run
-- begins; it ends with this record; a run is wanted in its own body
pub data DemandEvent : Type 0 where
  is_reached : InstanceKey → DemandEvent
  is_too_deep : InstanceKey → DemandEvent
  body_begins : RunId → DemandEvent
  body_ends : RunId → Record → DemandEvent
  is_circular : RunId → DemandEvent

-- what comes after something, where it gives something
abbrev pub then_comes : {P I T : Type 0} → Option (Given P I T) → (T → Journal → List DemandEvent) →
    List DemandEvent
then_comes None next = []
then_comes (Some x) next = next x.value x.journal

-- of calls made at once: what comes of each, in call order, up to one that gives nothing. (MSBuild
-- task, BuildInParallel)
abbrev pub order_of_calls : {P I : Type 0} → (Journal → RequestKey → List DemandEvent) →
    (Journal → RequestKey → Option (Given P I RequestResult)) → Journal → List RequestKey →
    List DemandEvent
order_of_calls order ask journal [] = []
order_of_calls order ask journal (key ∷ keys) = order journal key ++ then_comes (ask journal key)
    (λ result left. order_of_calls order ask journal keys)

-- of a run that is wanted, by its record in the journal and by whether it is wanted in its own
-- body: inner is what comes in its body, x what the body gives, and next what comes after it
abbrev pub order_of_run : {P I : Type 0} → Option Record → Bool → List DemandEvent →
    Option (Given P I (Record × List (ToolUse I))) → RunId → (Record → Journal → List DemandEvent) →
    Journal → List DemandEvent
order_of_run (Some made) in_path inner x run next journal = next made journal
order_of_run None true inner x run next journal = is_circular run ∷ []
order_of_run None false inner x run next journal =
    body_begins run ∷ (inner ++ then_comes x (λ m left. body_ends run m.0 ∷ next m.0
    (add left (ended run m.0))))

module _ {P I A : Type 0} (w : World P I A) where
  -- of the body of a run, which has done so far
  abbrev pub order_of_body : (Journal → RequestKey → List DemandEvent) → (Journal → RequestKey →
      Option (Given P I RequestResult)) → RunId → Body I A → Journal → SoFar I → List DemandEvent
  order_of_body order ask run (makes outcome) journal so_far = []
  order_of_body order ask run (does act go) journal so_far =
      let next : Journal = add journal (acted run (length so_far.segments) act) in
      order_of_body order ask run (go next) next (with_act so_far act)
  order_of_body order ask run (uses name input go) journal so_far =
      order_of_body order ask run (go (w.tools name input)) journal (with_tool so_far name input)
  order_of_body order ask run (calls key keys go) journal so_far =
      order_of_calls order ask journal (key ∷ keys)
      ++ then_comes (at_once w ask journal journal (key ∷ keys)) (λ results next.
      order_of_body order ask run (go results next) next
      (with_calls so_far (key ∷ keys) results))

  -- of a request from here on, where path are the runs in whose bodies it was called, the last one
  -- first
  abbrev pub order_of_walk : (List RunId → Journal → RequestKey → List DemandEvent) →
      (List RunId → Journal → RequestKey → Option (Given P I RequestResult)) → List RunId →
      Walk P I A →
      Journal → List DemandEvent
  order_of_walk order ask path (gives reply) journal = []
  order_of_walk order ask path (wants site run b go) journal =
      let inner : List DemandEvent = order_of_body (order (run ∷ path)) (ask (run ∷ path)) run b
      journal nothing_yet in
      let x : Option (Given P I (Record × List (ToolUse I))) =
      body w (ask (run ∷ path)) run b journal
      nothing_yet in
      order_of_run (record_of journal run) (is_in run path) inner x run (λ made next.
      order_of_walk order ask path (go made next) next) journal

  -- of a request of this key, by its caller's journal, where so many may be nested
  abbrev pub order_of_request : ℕ → List RunId → Journal → RequestKey → List DemandEvent
  order_of_request zero path journal key = is_too_deep key.instance ∷ []
  order_of_request (suc depth) path journal key =
      is_reached key.instance ∷ order_of_walk (order_of_request depth) (request w depth) path
      (w.walks key journal) journal

  -- of the world: of its root request, with nothing known
  unfoldable pub order_of_demand : List DemandEvent
  order_of_demand = order_of_request deepest [] [] w.root
