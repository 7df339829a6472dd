-- The bodies that the meaning of a build contains. (Target element)
use Rattle.std.specs.Prelude.{List}
use Rattle.result_cache.specs.declared.run.RunId.{RunId}
use Rattle.result_cache.specs.declared.record.Record.{Record}
use Rattle.result_cache.specs.Journal.{Journal}
use Rattle.build_meaning.specs.Meaning.{Demanded}
use Rattle.build_meaning.specs.Sound.{IsBuilt}
use Rattle.task_trait.specs.declared.tools.ToolInput.{ToolInput}
use Rattle.request_machine.specs.Walk.{Site}

-- a body: its site and its run, the journal with which it begins, and the record that it makes
pub record Occurrence : Type 0 where
  pub site : Site
  pub run : RunId
  pub from : Journal
  pub made : Record

-- the meaning contains it
abbrev pub Occurs : List (Demanded Site ToolInput) → Occurrence → Type 0
Occurs demand o = IsBuilt demand o.site o.run o.from o.made
