-- How a request uses the record of a run that another request has made: its journal gets what it
-- lacks of the record.
use Rattle.std.specs.Prelude.{
  ◌≡◌,
  ℕ,
  suc,
  Bool,
  true,
  false,
  List,
  [],
  ◌∷◌,
  ◌++◌,
  map,
  Option,
  None,
  Some,
}
use Rattle.msb_laws.specs.Asking.{and_then}
use Rattle.msb_values.specs.declared.act.Act.{Act}
use Rattle.result_cache.specs.declared.run.RunId.{RunId}
use Rattle.result_cache.specs.declared.record.Record.{Record}
use Rattle.result_cache.specs.declared.record.Segment.{Segment}
use Rattle.result_cache.specs.declared.record.Segment.TheVariants.{File, Call}
use Rattle.result_cache.specs.Lists.{In}
use Rattle.result_cache.specs.Same.{same_run}
use Rattle.result_cache.specs.Journal.{Journal, ended, acted, Mark, act_of, end_of, has, add}
use Rattle.result_cache.specs.Table.{FinishedRun, Records}

-- what a record does to a journal: it puts an act of its run there, or replays a run that one of
-- its calls made or used
pub data Effect : Type 0 where
  puts_act : RunId → ℕ → Act → Effect
  replays_run : RunId → Effect

-- the effects of some segments of a run's record, in order, where so many segments stand before
-- them
abbrev pub effects_from : RunId → ℕ → List Segment → List Effect
effects_from run place [] = []
effects_from run place (File act ∷ segments) = puts_act run place act
    ∷ effects_from run (suc place) segments
effects_from run place (Call key runs ∷ segments) = map replays_run runs
    ++ effects_from run (suc place) segments

-- the effects of a whole record
abbrev pub effects_of : RunId → Record → List Effect
effects_of run made = effects_from run 0 made.segments

-- the mark of the entry that an effect leaves
abbrev pub mark_of : Effect → Mark
mark_of (puts_act run place act) = act_of run place
mark_of (replays_run run) = end_of run

-- the journal has the entry of each effect
abbrev pub HasAll : List Effect → Journal → Type 0
HasAll [] journal = Unit {0}
HasAll (effect ∷ effects) journal = (has (mark_of effect) journal ≡ true) × HasAll effects journal

-- a closed journal: of each run that has ended it has every act of the run, and the end of every
-- run that its calls made or used
abbrev pub IsClosed : Journal → Type 0
IsClosed journal = (run : RunId) (made : Record) → In (ended run made) journal
    → HasAll (effects_of run made) journal

-- effects put into a journal in order, where one replays a run
abbrev pub replays : (RunId → Journal → Option Journal) → List Effect → Journal → Option Journal
replays one [] journal = Some journal
replays one (puts_act run place act ∷ effects) journal = replays one effects
    (add journal (acted run place act))
replays one (replays_run run ∷ effects) journal = and_then (one run journal) (replays one effects)

-- by two tests: whether the run has ended in the journal, and whether the table's newest record is
-- its own. A record is replayed by the older ones, since the runs of its calls were finished before
-- it.
abbrev pub replay_by : Bool → Bool → (RunId → Journal → Option Journal) → FinishedRun → RunId
    → Journal → Option Journal
replay_by true is_newest older f run journal = Some journal
replay_by false true older f run journal = and_then
    (replays older (effects_of f.run f.made) journal)
    (λ after. Some (add after (ended f.run f.made)))
replay_by false false older f run journal = older run journal

-- the journal, where the test holds
abbrev pub unless_there : Bool → Journal → Option Journal
unless_there true journal = Some journal
unless_there false journal = None

-- the journal with all that the record of a run says, and with the run's end; a run that has ended
-- there adds nothing. There is none where a record that it takes is not in the table before the one
-- that calls for it.
abbrev pub replay : Records → RunId → Journal → Option Journal
replay [] run journal = unless_there (has (end_of run) journal) journal
replay (f ∷ table) run journal = replay_by (has (end_of run) journal) (same_run f.run run)
    (replay table) f run journal

-- these runs replayed in order
abbrev pub replay_all : Records → List RunId → Journal → Option Journal
replay_all table runs = replays (replay table) (map replays_run runs)
