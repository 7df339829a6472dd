-- What a body does that calls no request. (Target element)
use Rattle.std.specs.Prelude.{◌≡◌, ◌⊎◌, List, [], ◌∷◌, ◌++◌, length, Option, None, Some}
use Rattle.std.specs.Str.{bytes_eq}
use Rattle.msb_laws.specs.Words.{Text, Name, Path}
use Rattle.msb_values.specs.Acts.{act_path, act_bytes}
use Rattle.msb_values.specs.declared.act.Act.{Act}
use Rattle.result_cache.specs.declared.run.RunId.{RunId}
use Rattle.result_cache.specs.declared.record.Segment.{Segment}
use Rattle.result_cache.specs.declared.record.Segment.TheVariants.{File}
use Rattle.result_cache.specs.Lists.{this_or}
use Rattle.result_cache.specs.Journal.{Journal, acted, add}
use Rattle.build_meaning.specs.Walk.{Body, makes, does, uses, calls, Outcome}
use Rattle.build_incremental.specs.Alike.{seen}

-- its outcome and its acts on files, the newest first, before those that the run has done already;
-- none where it calls a request
abbrev pub alone : {I A : Type 0} → (Name → I → A) → RunId → Body I A → Journal → List Act →
    Option (Outcome × List Act)
alone tools run (makes outcome) journal acts = Some (outcome, acts)
alone tools run (does act go) journal acts =
    let next : Journal = add journal (acted run (length acts) act) in
    alone tools run (go next) next (act ∷ acts)
alone tools run (uses name input go) journal acts =
    alone tools run (go (tools name input)) journal acts
alone tools run (calls key keys go) journal acts = None

-- what a record says of acts, of which the newest stands first
abbrev pub segments_of : List Act → List Segment
segments_of [] = []
segments_of (act ∷ older) = segments_of older ++ File act ∷ []

-- what the last act on a path leaves there, which is nothing where it removes the file; none where
-- no act is on the path. The newest act stands first.
abbrev pub last_bytes : List Act → Path → Option (Option Text)
last_bytes [] path = None
last_bytes (act ∷ older) path =
    this_or (bytes_eq (act_path act) path) (last_bytes older path) (act_bytes act)

-- Of what a whole run does, a part of it leaves out nothing but what was so: a path on which both
-- act is left the same, one on which the whole alone acts was before as the whole leaves it, and
-- the part acts on no other path.
pub record LacksOnly (files : Path → Option Text) (before : Journal) (part whole : List Act)
    : Type 0 where
  pub acted : (path : Path) →
      (last_bytes part path ≡ None) ⊎ (last_bytes part path ≡ last_bytes whole path)
  pub left_out : (path : Path) (left : Option Text) → last_bytes part path ≡ None →
      last_bytes whole path ≡ Some left → seen files before path ≡ left
