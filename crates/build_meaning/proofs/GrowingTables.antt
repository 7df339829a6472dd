-- A table that has gained records says the same of the runs that it had.
use Rattle.std.proofs.Common.{◌≡◌, Bool, true, false, ◌∷◌, None, Some, refl, ap, sym, ◌∙◌}
use Rattle.result_cache.specs.declared.run.RunId.{RunId}
use Rattle.result_cache.specs.declared.record.Record.{Record}
use Rattle.result_cache.specs.Same.{same_run}
use Rattle.result_cache.specs.Journal.{Journal, end_of, has}
use Rattle.result_cache.specs.Table.{FinishedRun, Records, found}
use Rattle.result_cache.specs.Replay.{replay_by, replay}
use Rattle.result_cache.proofs.RunTests.{same_run-true}
use Rattle.result_cache.proofs.ReplayRelation.{Recorded}
use Rattle.result_cache.proofs.Closed.{replay-has}
use Rattle.build_meaning.proofs.LawfulStates.{IsFinished, found-grows}

-- a table, and one with more records of other runs
pub data Newer : Records → Records → Type 0 where
  same_table : {T : Records} → Newer T T
  one_newer : {T U : Records} {f : FinishedRun} → Newer T U → found U f.run ≡ None → Newer T (f ∷ U)

pub newer-trans : {T U V : Records} → Newer T U → Newer U V → Newer T V
newer-trans n same_table = n
newer-trans n (one_newer m h) = one_newer (newer-trans n m) h

pub newer-found : {T U : Records} → Newer T U → (r : RunId) (m : Record) → Recorded T r m
    → Recorded U r m
newer-found same_table r m h = h
newer-found (one_newer {U = U} {f = f} n g) r m h = found-grows U f g r m (newer-found n r m h)

pub newer-replay : {T U : Records} → Newer T U → (r : RunId) (j : Journal) → IsFinished T r
    → replay U r j ≡ replay T r j
newer-replay same_table r j h = refl
newer-replay {T} (one_newer {U = U} {f = f} n g) r j h =
    go (has (end_of r) j) refl (same_run f.run r) refl (newer-replay n r j h)
  where
    go : (a : Bool) → has (end_of r) j ≡ a → (b : Bool) → same_run f.run r ≡ b
        → replay U r j ≡ replay T r j → replay_by a b (replay U) f r j ≡ replay T r j
    go true e b p ih = sym (replay-has T r j e)
    go false e false p ih = ih
    go false e true p ih =
        let x : Recorded U r h.0 = newer-found n r h.0 h.1 in
        absurd (let y : Some h.0 ≡ None = sym x
        ∙ (ap (found U) (sym (same_run-true f.run r p)) ∙ g) in cc)
