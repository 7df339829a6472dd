-- A worked world, whole but not steady: of two requests made at once one writes a file first, and
-- both want a run that tells whether it is there.
use Rattle.std.specs.Prelude.{ℕ, zero, suc, List, [], ◌∷◌, Option, None, Some}
use Rattle.msb_laws.specs.Words.{Text, Path}
use Rattle.msb_laws.specs.Asking.{and_then}
use Rattle.msb_values.specs.declared.act.Act.{Act}
use Rattle.msb_values.specs.declared.act.Act.TheVariants.{Write}
use Rattle.result_cache.specs.declared.request.RequestResult.{RequestResult}
use Rattle.result_cache.specs.declared.record.Record.{Record}
use Rattle.result_cache.specs.declared.record.Segment.TheVariants.{File, Call}
use Rattle.result_cache.specs.Journal.{Journal, acted, ended, content}
use Rattle.build_meaning.specs.declared.event.Event.{Event}
use Rattle.build_meaning.specs.declared.event.Event.TheVariants.{
  Assign,
  Claim,
  Request,
  Result,
  Done,
}
use Rattle.build_meaning.specs.declared.event.ClaimKind.TheVariants.{Go, Use}
use Rattle.build_meaning.specs.Lists.{at}
use Rattle.build_meaning.specs.Walk.{Walk, gives, wants, makes, does, calls}
use Rattle.build_meaning.specs.World.{World}
use Rattle.build_meaning.specs.SoFar.{recorded, result_of}
use Rattle.build_meaning.specs.Meaning.{requested, together, joined, built, Given}
use Rattle.build_meaning.specs.State.{start}
use Rattle.build_meaning.specs.Step.{after_all}
use Rattle.build_meaning.specs.SharedRun.{run_of, key_of, default_key, good, good_reply, file_of}

-- the file 7 with a byte
abbrev pub tells : ℕ → Act
tells byte = Write (record { path = 7 ∷ []; bytes = byte ∷ [] })

-- with the byte 1 where a file is there, and else 0
abbrev pub told_by : Option (Option Text) → Act
told_by None = tells 0
told_by (Some None) = tells 0
told_by (Some (Some bytes)) = tells 1

-- it wants the run of project 1, which writes whether the file 5 is there
abbrev pub looks : Journal → Walk ℕ ℕ ℕ
looks journal =
    wants 1 (run_of 1) (does (told_by (content journal (5 ∷ []))) (λ k. makes good))
    (λ made k. gives good_reply)

-- it wants the run of project 2, which writes the file 5, and then looks
abbrev pub writes_and_looks : Walk ℕ ℕ ℕ
writes_and_looks = wants 2 (run_of 2) (does (file_of 5) (λ k. makes good)) (λ made k. looks k)

-- the root's run calls the one and the other at once
abbrev pub root_walk : Walk ℕ ℕ ℕ
root_walk =
    wants 0 (run_of 0) (calls (key_of 2 1) (key_of 1 1 ∷ []) (λ results k. makes good))
    (λ made k. gives good_reply)

abbrev pub walk_at : ℕ → Journal → Walk ℕ ℕ ℕ
walk_at zero journal = root_walk
walk_at (suc zero) journal = looks journal
walk_at (suc (suc n)) journal = writes_and_looks

abbrev pub walk_of : Path → Journal → Walk ℕ ℕ ℕ
walk_of [] journal = root_walk
walk_of (n ∷ path) journal = walk_at n journal

abbrev pub unsteady : World ℕ ℕ ℕ
unsteady = record {
  root = default_key 0;
  tools = λ name input. input;
  walks = λ key journal.
      walk_of key.instance.path journal;
}

-- the record of the run that looks, by the byte that it writes
abbrev pub looked : ℕ → Record
looked byte = recorded good (File (tells byte) ∷ [])

abbrev pub writer_record : Record
writer_record = recorded good (File (file_of 5) ∷ [])

abbrev pub root_record : Record
root_record = recorded good
    (Call (key_of 2 1) (run_of 2 ∷ run_of 1 ∷ []) ∷ Call (key_of 1 1) (run_of 1 ∷ []) ∷ [])

-- the journal after the write; and the journals that the two requests leave
abbrev pub written : Journal
written = ended (run_of 2) writer_record ∷ acted (run_of 2) 0 (file_of 5) ∷ []

abbrev pub first_journal : Journal
first_journal = ended (run_of 1) (looked 1) ∷ acted (run_of 1) 0 (tells 1) ∷ written

abbrev pub second_journal : Journal
second_journal = ended (run_of 1) (looked 0) ∷ acted (run_of 1) 0 (tells 0) ∷ []

-- what it means: the first request, in call order, finds the file, and the second one doesn't
abbrev pub given : Given ℕ ℕ RequestResult
given = record {
  value = result_of good_reply (run_of 0 ∷ []);
  journal = ended (run_of 0) root_record ∷ first_journal;
  demand = requested (default_key 0) ∷ together (key_of 2 1 ∷ key_of 1 1 ∷ [])
      ∷ requested (key_of 2 1) ∷ built 2 (run_of 2) [] writer_record []
      ∷ built 1 (run_of 1) written (looked 1) [] ∷ joined [] [] first_journal
      ∷ requested (key_of 1 1) ∷ built 1 (run_of 1) [] (looked 0) []
      ∷ joined [] first_journal second_journal ∷ built 0 (run_of 0) [] root_record [] ∷ [];
}

-- a history in which the request that writes is first, and one in which the other is
abbrev pub writer_first : List Event
writer_first =
    Assign 0 0 ∷ Claim 0 (run_of 0) Go ∷ Request 0 (key_of 2 1 ∷ key_of 1 1 ∷ [])
    ∷ Assign 1 0 ∷ Claim 1 (run_of 2) Go ∷ Result 1 (run_of 2) ∷ Claim 1 (run_of 1) Go
    ∷ Result 1 (run_of 1) ∷ Done 1
    ∷ Assign 2 0 ∷ Claim 2 (run_of 1) Use ∷ Done 2 ∷ Assign 0 0 ∷ Result 0 (run_of 0) ∷ Done 0 ∷ []

abbrev pub looker_first : List Event
looker_first =
    Assign 0 0 ∷ Claim 0 (run_of 0) Go ∷ Request 0 (key_of 2 1 ∷ key_of 1 1 ∷ [])
    ∷ Assign 2 0 ∷ Claim 2 (run_of 1) Go ∷ Result 2 (run_of 1) ∷ Done 2
    ∷ Assign 1 0 ∷ Claim 1 (run_of 2) Go ∷ Result 1 (run_of 2) ∷ Claim 1 (run_of 1) Use ∷ Done 1
    ∷ Assign 0 0 ∷ Result 0 (run_of 0) ∷ Done 0 ∷ []

-- what the last act on a path left, by the root's journal after these events
abbrev pub left_by : List Event → Path → Option (Option Text)
left_by events path = and_then (after_all unsteady (start unsteady) events)
    (λ s. and_then (at s.requests 0) (λ q. content q.journal path))
