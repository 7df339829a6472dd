-- Building a run, and replaying its record by a table, give one journal.
use Rattle.std.proofs.Common.{◌≡◌, ℕ, suc, ◌+◌, false, List, ◌∷◌, length, map, Some, subst}
use Rattle.result_cache.specs.declared.run.RunId.{RunId}
use Rattle.result_cache.specs.declared.request.RequestKey.{RequestKey}
use Rattle.result_cache.specs.declared.request.RequestResult.{RequestResult}
use Rattle.result_cache.specs.declared.record.Record.{Record}
use Rattle.result_cache.specs.Lists.{In}
use Rattle.result_cache.specs.Journal.{Journal, end_of, ended, has, add}
use Rattle.result_cache.specs.Replay.{replays_run, effects_of, HasAll, replay, replay_all}
use Rattle.result_cache.specs.Table.{Records}
use Rattle.build_meaning.specs.World.{World}
use Rattle.build_meaning.specs.Walk.{Body}
use Rattle.build_meaning.specs.SoFar.{ToolUse, nothing_yet, runs_of}
use Rattle.build_meaning.specs.Meaning.{Demanded, Given, deepest, at_once, body, request}
use Rattle.build_meaning.specs.Demand.{IsSteady}
use Rattle.build_meaning.specs.Sound.{IsMade, HasMade, IsSound, IsPart}
use Rattle.result_cache.proofs.JournalEntries.{has-in}
use Rattle.result_cache.proofs.ReplayRelation.{
  Rep,
  new,
  none,
  rep-one,
  reps-one,
  Closed,
  replays-sound,
  replay-sound,
}
use Rattle.build_meaning.specs.Derived.{OfBody, OfCalls}
use Rattle.build_meaning.proofs.BuildingReplays.{agree_body, agree_calls}
use Rattle.build_meaning.proofs.MeaningDerived.{body-sound, at_once-sound, request-sound}

module _ {P I A : Type 0} (w : World P I A) (demand : List (Demanded P I))
    (steady : IsSteady demand) where
  abbrev Among : Demanded P I → Type 0
  Among e = In e demand

  one : (r : RunId) (m n : Record) → IsMade demand r m → IsMade demand r n → m ≡ n
  one r m n p q = steady r m n p q

  sound-closed : (j : Journal) → IsSound demand j → Closed (IsMade demand) one j
  sound-closed j v = record {
    has_items = λ r h m p.
        let x = has-in r j h in
        subst (λ y. HasAll (effects_of r y) j) (one r x.0 m (v.made r x.0 x.1) p)
        (v.closed r x.0 x.1);
  }

  pub building_is_replaying : (table : Records) → HasMade demand table
      → (depth : ℕ) (path : List RunId) → depth + suc (length path) ≡ deepest
      → (run : RunId) (b : Body I A) (journal : Journal) → IsSound demand journal →
      has (end_of run) journal ≡ false → (x : Given P I (Record × List (ToolUse I))) →
      body w (request w depth (run ∷ path)) run b journal nothing_yet ≡ Some x →
      IsPart x.demand demand → IsMade demand run x.value.0 →
      (after : Journal) → replay table run journal ≡ Some after
      → after ≡ add x.journal (ended run x.value.0)
  building_is_replaying table t depth path h r b j v n x e part p k g =
      let c = sound-closed j v in
      let d : OfBody w Among (r ∷ path) r j nothing_yet b x.value.0 x.value.1 x.journal =
      body-sound w Among (request w depth) (r ∷ path) (request-sound w Among depth (r ∷ path) h) r b
      j nothing_yet x e part in
      let made : Rep (IsMade demand) (replays_run r) j (add x.journal (ended r x.value.0)) = new n p
      (agree_body w Among one d j c none) in
      rep-one (IsMade demand) one (replay-sound (IsMade demand) table t r j k g)
      (add x.journal (ended r x.value.0)) made

  pub replaying_is_merging : (table : Records) → HasMade demand table
      → (depth : ℕ) (path : List RunId) → depth + length path ≡ deepest
      → (keys : List RequestKey) (journal : Journal) → IsSound demand journal →
      (x : Given P I (List RequestResult)) →
      at_once w (request w depth path) journal journal keys ≡ Some x → IsPart x.demand demand →
      (after : Journal) → replay_all table (runs_of x.value) journal ≡ Some after →
      after ≡ x.journal
  replaying_is_merging table t depth path h keys j v x e part k g =
      let c = sound-closed j v in
      let d : OfCalls w Among path j j keys x.value x.journal = at_once-sound w Among
      (request w depth) path (request-sound w Among depth path h) j j keys x e part in
      reps-one (IsMade demand) one
      (replays-sound (IsMade demand) (replay table) (replay-sound (IsMade demand) table t)
      (map replays_run (runs_of x.value)) j k g) x.journal
      (agree_calls w Among one d (λ s h. h) c c)
