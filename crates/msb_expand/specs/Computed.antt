-- The metadata that every item has, or has in other builds, whose names no task gives. (MSBuild
-- well-known item metadata)
use Rattle.std.specs.Prelude.{Bool, ◌||◌, List, [], ◌∷◌, codes, is_some}
use Rattle.std.specs.List.{list_any}
use Rattle.std.specs.Str.{bytes_eq}
use Rattle.msb_laws.specs.Words.{Name}
use Rattle.msb_values.specs.Pairs.{value_at}
use Rattle.msb_expand.specs.Metadata.{well_known}

-- well-known metadata that are computed in other builds alone
abbrev pub left_out : List Name
left_out =
    codes "modifiedtime" ∷ codes "createdtime" ∷ codes "accessedtime"
    ∷ codes "definingprojectfullpath"
    ∷ codes "definingprojectdirectory" ∷ codes "definingprojectname"
    ∷ codes "definingprojectextension" ∷ []

abbrev pub is_computed : Name → Bool
is_computed name = is_some (value_at name well_known) || list_any (bytes_eq name) left_out
