-- What a trial of the engine prints: a generated set is built on one node, and once more on
-- several. (This engine's own action)
use Rattle.std.specs.Prelude.{◌≡◌, ℕ, List, [], ◌++◌, length, Bool, true, false, codes}
use Rattle.std.specs.Bool.{Decides}
use Rattle.std.specs.Fmt.{decimal}
use Rattle.std.specs.List.{sum_by}
use Rattle.msb_laws.specs.Words.{Text}
use Rattle.msb_values.specs.declared.mode.Mode.TheVariants.{Incremental}
use Rattle.msb_values.specs.declared.act.Act.{Act}
use Rattle.task_trait.specs.Tools.{act_size}
use Rattle.task_trait.specs.declared.tools.ToolAnswer.TheVariants.{Unknown}
use Rattle.build_world.specs.declared.world.World.{World as Given}
use Rattle.trial_set.specs.Sets.{files_of}
use Rattle.build_report.specs.Line.{line}
use Rattle.build_outcome.specs.Outcomes.{IsOutcome}
use Rattle.build_outcome.specs.declared.outcome.Outcome.{Outcome}
use Rattle.build_engine.specs.UsedFor.{IsOutcomeOnOne}
use Rattle.request_machine.specs.Worlds.{world_of}
use Rattle.msb_words.specs.declared.options.Options.{Options}
use Rattle.msb_outcomes.specs.Outcomes.{Answering}

-- what both builds are given: the set of the seed and the size, whose root calls all
pub record IsSetOf (options : Options) (given : Given) : Type 0 where
  pub files : given.tree.files ≡ files_of options.seed options.size
  pub root : given.root ≡ codes "all.proj"
  pub globals : given.globals ≡ []
  pub targets : given.targets ≡ []
  pub mode : given.mode ≡ Incremental

-- there are no tools
abbrev pub no_tools : Answering
no_tools name input = Unknown

-- both builds print the same, and do the same to files
abbrev pub AreEqual : Outcome → Outcome → Type 0
AreEqual one other = (one.text ≡ other.text) × (one.commit ≡ other.commit)

-- how many bytes the acts write in all
abbrev pub bytes_in : List Act → ℕ
bytes_in acts = sum_by act_size acts

-- what the words ask for
abbrev pub first_line : Options → Text
first_line options =
    line (codes "trial " ++ decimal options.seed ++ codes " size " ++ decimal options.size
    ++ codes " nodes " ++ decimal options.nodes)

-- whether both builds are equal
abbrev pub last_line : Bool → Text
last_line true = line (codes "equal")
last_line false = line (codes "different")

-- the five lines of a trial; the counts are those of the first build
abbrev pub trial_text : Options → Outcome → Bool → Text
trial_text options one equal =
    first_line options
    ++ line (codes "runs " ++ decimal one.runs)
    ++ line (codes "files " ++ decimal (length one.commit))
    ++ line (codes "bytes " ++ decimal (bytes_in one.commit))
    ++ last_line equal

-- what is printed of two builds: the last line is `equal` exactly where they print the same and do
-- the same to files
pub record IsComparison (options : Options) (one other : Outcome) (text : Text) : Type 0 where
  pub equal : Bool
  pub decides : Decides equal (AreEqual one other)
  pub text_is : text ≡ trial_text options one equal

-- what a trial may print: what is printed of the set's build on one node and of an outcome of the
-- set
pub record IsTrial (options : Options) (text : Text) : Type 0 where
  pub given : Given
  pub set : IsSetOf options given
  pub one : Outcome
  pub first : ∥ IsOutcomeOnOne (world_of no_tools given) false one ∥₁
  pub other : Outcome
  pub second : ∥ IsOutcome (world_of no_tools given) false other ∥₁
  pub compares : IsComparison options one other text
