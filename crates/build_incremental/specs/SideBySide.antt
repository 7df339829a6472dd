-- Two worlds side by side: what the second does, the first does alike, but that it may leave out
-- acts that leave what is there. (Incremental builds)
use Rattle.std.specs.Prelude.{ℕ, ◌≡◌, false, List, [], Option, Some}
use Rattle.msb_laws.specs.Words.{Text, Name, Path}
use Rattle.msb_values.specs.Acts.{act_path}
use Rattle.msb_values.specs.declared.act.Act.{Act}
use Rattle.result_cache.specs.declared.run.RunId.{RunId}
use Rattle.result_cache.specs.declared.request.RequestKey.{RequestKey}
use Rattle.result_cache.specs.declared.request.RequestResult.{RequestResult}
use Rattle.result_cache.specs.declared.record.Record.{Record}
use Rattle.result_cache.specs.declared.record.Segment.TheVariants.{File}
use Rattle.result_cache.specs.Lists.{In}
use Rattle.result_cache.specs.Journal.{Journal, act_of, has}
use Rattle.build_meaning.specs.World.{World}
use Rattle.build_meaning.specs.Walk.{
  Walk,
  gives,
  wants,
  Body,
  makes,
  does,
  uses,
  calls,
  Outcome,
}
use Rattle.build_meaning.specs.SoFar.{recorded}
use Rattle.build_incremental.specs.Alike.{AlikeOutcomes, AlikeRecords, AlikeJournals}
use Rattle.build_incremental.specs.Alone.{alone, segments_of, LacksOnly}

-- the run has no act on a file
abbrev pub HasNotActed : RunId → Journal → Type 0
HasNotActed run journal = (number : ℕ) → has (act_of run number) journal ≡ false

-- W are the paths on which the first world may act.
module _ (files : Path → Option Text) (W : Path → Type 0) {I A : Type 0} where
  -- two bodies do the same step by step and come to the same, as long as their journals are alike
  abbrev pub AlikeBodies : Body I A → Body I A → Type 0
  AlikeBodies (makes o) (makes p) = o ≡ p
  AlikeBodies (does act go) (does other to) =
      (act ≡ other)
      × ((j k : Journal) → AlikeJournals files W j k → AlikeBodies (go j) (to k))
  AlikeBodies (uses name input go) (uses other given to) =
      (name ≡ other) × (input ≡ given)
      × ((answer : A) → AlikeBodies (go answer) (to answer))
  AlikeBodies (calls key keys go) (calls other others to) =
      (key ≡ other) × (keys ≡ others)
      × ((results : List RequestResult) (j k : Journal) → AlikeJournals files W j k →
      AlikeBodies (go results j) (to results k))
  AlikeBodies b c = ⊥

  -- The bodies of a run, of which the second one makes this record, and S is said of the record
  -- that the first one makes. They go step by step to one record. Or both call nothing, come to
  -- outcomes that are alike, and the first lacks only what was there.
  pub data AlikeRuns (tools : Name → I → A) (run : RunId) (j k : Journal) (b c : Body I A)
      (made : Record) (S : Record → Type 0) : Type 0 where
    step_by_step : AlikeBodies b c →
        ((act : Act) → In (File act) made.segments → W (act_path act)) → S made →
        AlikeRuns tools run j k b c made S
    in_part : (o p : Outcome) (part whole : List Act) →
        alone tools run b j [] ≡ Some (o, part) → alone tools run c k [] ≡ Some (p, whole) →
        AlikeOutcomes o p → LacksOnly files j part whole →
        ((act : Act) → In act part → W (act_path act)) → S (recorded o (segments_of part)) →
        AlikeRuns tools run j k b c made S

  -- Two requests give one reply. Or they want one run: its bodies are alike where the second one is
  -- as Q says and the run has no act yet, and then the first one is as Q' says; and the requests go
  -- on alike by alike records and journals.
  abbrev pub AlikeWalks : {P : Type 0} → (P → RunId → Journal → Record → Type 0) →
      (P → RunId → Journal → Record → Type 0) → (Name → I → A) →
      Walk P I A → Walk P I A → Journal → Journal → Type 0
  AlikeWalks Q' Q tools (gives reply) (gives other) j k = reply ≡ other
  AlikeWalks Q' Q tools (wants p r b go) (wants q s c to) j k =
      (r ≡ s)
      × ((made : Record) → Q q s k made → HasNotActed s j → HasNotActed s k →
      AlikeRuns tools s j k b c made (Q' p s j))
      × ((first made : Record) (i l : Journal) → AlikeRecords first made →
      AlikeJournals files W i l → AlikeWalks Q' Q tools (go first i) (to made l) i l)
  AlikeWalks Q' Q tools x y j k = ⊥

  -- two worlds of one root and of the same tools, whose requests go alike by alike journals
  pub record SideBySide {P : Type 0} (Q' Q : P → RunId → Journal → Record → Type 0)
      (w c : World P I A) : Type 0 where
    pub root : w.root ≡ c.root
    pub tools : w.tools ≡ c.tools
    pub walks : (key : RequestKey) (j k : Journal) → AlikeJournals files W j k →
        AlikeWalks Q' Q c.tools (w.walks key j) (c.walks key k) j k

-- nothing is said of a body
abbrev pub IsAny : {P : Type 0} → P → RunId → Journal → Record → Type 0
IsAny site run from made = Unit {0}

-- a run has one record, wherever its body is made
abbrev pub HasOneRecord : {P : Type 0} → (P → RunId → Journal → Record → Type 0) → Type 0
HasOneRecord {P} Q = (p q : P) (run : RunId) (j k : Journal) (made other : Record) →
    Q p run j made → Q q run k other → made ≡ other
