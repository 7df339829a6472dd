-- What the builds of the worked set mean, computed.
use Rattle.std.proofs.Common.{
  ◌≡◌,
  ◌≤◌,
  ℕ,
  inl,
  inr,
  List,
  [],
  length,
  Option,
  Some,
  refl,
  ap,
  sym,
  ◌∙◌,
  arith,
}
use Rattle.std.specs.Prelude.{Ok, codes}
use Rattle.std.specs.Str.{chars}
use Rattle.caseless.specs.Caseless.{default_case_fold as fold_case}
use Rattle.ucd_case.specs.CaseFolding.{full_folding as folding}
use Rattle.ucd_table.specs.Rows.{value_in}
use Rattle.ucd_case.specs.FullFoldingRows.{full_folding_rows as rows}
use Rattle.msb_values.specs.declared.mode.Mode.{Mode}
use Rattle.msb_values.specs.declared.mode.Mode.TheVariants.{Incremental, Clean}
use Rattle.file_store.specs.declared.tree.File.{File}
use Rattle.msb_expression.specs.Machine.{run as read_on}
use Rattle.target_order.specs.Visit.{visit, order}
use Rattle.result_cache.specs.declared.record.Record.{Record}
use Rattle.result_cache.specs.declared.request.RequestResult.{RequestResult}
use Rattle.result_cache.specs.declared.run.RunId.{RunId}
use Rattle.result_cache.specs.Journal.{Journal}
use Rattle.result_cache.specs.Same.{same_run, same_instance}
use Rattle.build_meaning.specs.Meaning.{
  requested,
  built,
  Given,
  containing,
  deepest,
  most_instances,
  walk,
  request,
  meaning,
}
use Rattle.build_meaning.specs.Demand.{IsWhole, IsSteady, distinct, instances}
use Rattle.build_meaning.specs.SoFar.{ToolUse}
use Rattle.build_meaning.specs.Sound.{IsMade}
use Rattle.build_meaning.specs.Walk.{Walk}
use Rattle.task_trait.specs.declared.tools.ToolAnswer.{ToolAnswer}
use Rattle.task_trait.specs.declared.tools.ToolInput.{ToolInput}
use Rattle.request_machine.specs.Worlds.{world_of, request_by}
use Rattle.request_machine.specs.Walk.{Site}
use Rattle.build_declared.specs.Occurrences.{Occurrence, Occurs}
use Rattle.declared_witness.proofs.Derivations.{walk-so}
use Rattle.declared_witness.specs.ThreeCopies.{
  instance,
  files_with,
  files,
  root,
  build,
  world,
  run,
  site,
  given,
  body_of,
  clean_record,
  clean_journal,
  clean_given,
  part_record,
  part_journal,
  part_given,
}

module _ (tools : List ℕ → ToolInput → ToolAnswer) where
  -- what the root request gives by its walk
  abbrev given_by : List File → Mode → Walk Site ToolInput ToolAnswer →
      Option (Given Site ToolInput RequestResult)
  given_by tree mode root_walk = containing (requested root)
      (walk (world tools tree mode) (request (world tools tree mode) 127) [] root_walk [] [])

  abbrev evaluated_walk : List File → Mode → Walk Site ToolInput ToolAnswer
  evaluated_walk tree mode = request_by tree mode root [] (Ok instance)

  means : (bytes : List ℕ) (stamp : ℕ) (mode : Mode) →
      meaning (world tools (files_with bytes stamp) mode)
      ≡ given_by (files_with bytes stamp) mode (evaluated_walk (files_with bytes stamp) mode)
  unfolding deepest
  means bytes stamp mode =
      ap (given_by (files_with bytes stamp) mode) (walk-so tools bytes stamp mode)

  clean-given : (bytes : List ℕ) (stamp : ℕ) → given_by (files_with bytes stamp) Clean
      (evaluated_walk (files_with bytes stamp) Clean) ≡ Some clean_given
  unfolding same_run same_instance deepest read_on visit order fold_case folding value_in rows chars
  clean-given bytes stamp = refl

  part-given : given_by files Incremental (evaluated_walk files Incremental) ≡ Some part_given
  unfolding same_run same_instance deepest read_on visit order fold_case folding value_in rows chars
  part-given = refl

  pub part-means : meaning (world_of tools (build Incremental)) ≡ Some part_given
  part-means = means (codes "old") 7 Incremental ∙ part-given

pub few : (made : Record) (journal : Journal) →
    length (distinct (instances (given made journal).demand)) ≤ most_instances
unfolding same_instance most_instances
few made journal = omega arith

module _ (tools : List ℕ → ToolInput → ToolAnswer) where
  pub clean-whole : (bytes : List ℕ) (stamp : ℕ) →
      IsWhole (world tools (files_with bytes stamp) Clean) clean_given
  clean-whole bytes stamp = record {
    means = means tools bytes stamp Clean ∙ clean-given tools bytes stamp;
    few = few clean_record clean_journal;
  }

  pub part-whole : IsWhole (world_of tools (build Incremental)) part_given
  part-whole = record { means = part-means tools; few = few part_record part_journal }

-- ---- the one body

abbrev occurrence : Site → RunId → Journal → Record → Occurrence
occurrence place id from made = record { site = place; run = id; from = from; made = made }

built-same : (s t : Site) (r q : RunId) (j k : Journal) (m n : Record)
    (uses others : List (ToolUse ToolInput)) → built s r j m uses ≡ built t q k n others →
    occurrence s r j m ≡ occurrence t q k n
built-same s t r q j k m n uses others e =
    let a : s ≡ t = cc in
    let b : r ≡ q = cc in
    let c : j ≡ k = cc in
    let d : m ≡ n = cc in
    ap (λ z. occurrence z r j m) a
    ∙ (ap (λ z. occurrence t z j m) b
    ∙ (ap (λ z. occurrence t q z m) c ∙ ap (λ z. occurrence t q k z) d))

pub the-body : (made : Record) (journal : Journal) (o : Occurrence) →
    Occurs (given made journal).demand o → body_of made ≡ o
the-body made journal o (used, inl e) = absurd (cc)
the-body made journal o (used, inr (inl e)) =
    built-same site o.site run o.run [] o.from made o.made [] used e
the-body made journal o (used, inr (inr i)) = absurd i

-- the one run has one record
made-so : (made : Record) (journal : Journal) (id : RunId) (other : Record) →
    IsMade (given made journal).demand id other → made ≡ other
made-so made journal id other (place, from, there) =
    ap (λ (o : Occurrence). o.made)
    (the-body made journal (record { site = place; run = id; from = from; made = other }) there)

pub steady : (made : Record) (journal : Journal) → IsSteady (given made journal).demand
steady made journal id first second i j =
    sym (made-so made journal id first i) ∙ made-so made journal id second j
