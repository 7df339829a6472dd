-- The builds of the worked set as derivations: one request, one run, and what it does.
use Rattle.std.proofs.Common.{◌≡◌, ℕ, List, [], refl, ap, sym, subst}
use Rattle.std.specs.Prelude.{Ok}
use Rattle.std.specs.Str.{chars}
use Rattle.caseless.specs.Caseless.{default_case_fold as fold_case}
use Rattle.ucd_case.specs.CaseFolding.{full_folding as folding}
use Rattle.ucd_table.specs.Rows.{value_in}
use Rattle.ucd_case.specs.FullFoldingRows.{full_folding_rows as rows}
use Rattle.msb_values.specs.declared.mode.Mode.{Mode}
use Rattle.msb_values.specs.declared.mode.Mode.TheVariants.{Clean}
use Rattle.file_store.specs.declared.tree.File.{File}
use Rattle.msb_expression.specs.Machine.{run as read_on}
use Rattle.target_order.specs.Visit.{visit, order}
use Rattle.result_cache.specs.declared.record.Record.{Record}
use Rattle.result_cache.specs.declared.request.RequestKey.{RequestKey}
use Rattle.result_cache.specs.declared.run.RunId.{RunId}
use Rattle.result_cache.specs.Journal.{Journal}
use Rattle.result_cache.specs.Same.{same_run, same_instance}
use Rattle.build_meaning.specs.Derived.{
  said,
  OfWalk,
  over,
  made,
  ended_so,
  acted_one,
  EachOfMeaning,
}
use Rattle.build_meaning.specs.Walk.{Walk}
use Rattle.task_trait.specs.declared.tools.ToolAnswer.{ToolAnswer}
use Rattle.task_trait.specs.declared.tools.ToolInput.{ToolInput}
use Rattle.request_machine.specs.Walk.{Site}
use Rattle.request_machine.specs.Worlds.{instance_by, request_by}
use Rattle.declared_witness.proofs.Evaluated.{evaluates}
use Rattle.declared_witness.specs.ThreeCopies.{
  instance,
  files_with,
  root,
  world,
  run,
  site,
  result,
  clean_record,
  clean_journal,
}

-- the walk of the root request is that of the project as it is evaluated
pub walk-so : (tools : List ℕ → ToolInput → ToolAnswer) (bytes : List ℕ) (stamp : ℕ) (mode : Mode) →
    (world tools (files_with bytes stamp) mode).walks root []
    ≡ request_by (files_with bytes stamp) mode root [] (Ok instance)
walk-so tools bytes stamp mode =
    ap (λ r. request_by (files_with bytes stamp) mode root [] (instance_by r))
    (evaluates bytes stamp)

module _ (tools : List ℕ → ToolInput → ToolAnswer)
    (Q : Site → RunId → Journal → Record → Type 0) (J : Journal → Journal → Journal → Type 0)
  where
    abbrev AnyKey : RequestKey → Type 0
    AnyKey key = Unit {0}

    abbrev Derives : List File → Mode → Walk Site ToolInput ToolAnswer → Journal → Type 0
    Derives tree mode walk left =
        OfWalk (world tools tree mode) (said Q J AnyKey) [] [] [] walk result left

    abbrev evaluated_walk : List File → Mode → Walk Site ToolInput ToolAnswer
    evaluated_walk tree mode = request_by tree mode root [] (Ok instance)

    clean-walk : (bytes : List ℕ) (stamp : ℕ) → Q site run [] clean_record →
        Derives (files_with bytes stamp) Clean
        (evaluated_walk (files_with bytes stamp) Clean) clean_journal
    unfolding same_run same_instance read_on visit order fold_case folding value_in rows chars
    clean-walk bytes stamp q = made {m = clean_record} (λ i. absurd i) refl
        (acted_one (acted_one (acted_one ended_so))) q over

    pub clean-each : (bytes : List ℕ) (stamp : ℕ) → Q site run [] clean_record →
        EachOfMeaning (world tools (files_with bytes stamp) Clean) Q J AnyKey result clean_journal
    clean-each bytes stamp q = record {
      root = tt;
      rest = subst (λ walk. Derives (files_with bytes stamp) Clean walk clean_journal)
          (sym (walk-so tools bytes stamp Clean)) (clean-walk bytes stamp q);
    }
