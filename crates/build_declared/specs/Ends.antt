-- What comes of a part of a run that calls no request. (Target element)
use Rattle.std.specs.Prelude.{List, ◌∷◌, length, Option, None, Some}
use Rattle.msb_laws.specs.Words.{Name}
use Rattle.msb_values.specs.declared.act.Act.{Act}
use Rattle.result_cache.specs.declared.run.RunId.{RunId}
use Rattle.result_cache.specs.Journal.{Journal, acted, add}
use Rattle.task_trait.specs.declared.tools.ToolAnswer.{ToolAnswer}
use Rattle.task_trait.specs.declared.tools.ToolInput.{ToolInput}
use Rattle.target_body.specs.Work.{Work, done, does, uses, calls}

-- its end, the journal then, and the acts of the run by then, the newest first
pub record End (R : Type 0) : Type 0 where
  pub value : R
  pub journal : Journal
  pub acts : List Act

-- the end of a part that goes on from this journal and behind these acts; none where it calls a
-- request
abbrev pub end_of : {R : Type 0} → (Name → ToolInput → ToolAnswer) → RunId → Work R → Journal →
    List Act → Option (End R)
end_of tools run (done value) journal acts =
    Some (record { value = value; journal = journal; acts = acts })
end_of tools run (does act go) journal acts =
    let next : Journal = add journal (acted run (length acts) act) in
    end_of tools run (go next) next (act ∷ acts)
end_of tools run (uses name input go) journal acts =
    end_of tools run (go (tools name input)) journal acts
end_of tools run (calls key keys go) journal acts = None
