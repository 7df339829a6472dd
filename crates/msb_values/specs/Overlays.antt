-- An item's own metadata over the defaults of its type. (MSBuild item definitions.)
use Rattle.std.specs.Prelude.{[], ◌∷◌, Option, Some, None}
use Rattle.std.specs.BTreeMap.{insert_entry}
use Rattle.std.specs.Cmp.Lexicographic.{slice_cmp}
use Rattle.std.specs.Ordering.{nat_cmp}
use Rattle.msb_laws.specs.Words.{Name, Pairs, Text}
use Rattle.msb_values.specs.Pairs.{value_at}

-- a metadata, where the item does not have it itself
abbrev pub put_missing : Option Text → Pairs → Name → Text → Pairs
put_missing (Some text) own name default = own
put_missing None own name default = insert_entry (slice_cmp nat_cmp) own name default

-- the item's own, and the defaults that it does not have itself
abbrev pub overlaid : Pairs → Pairs → Pairs
overlaid [] own = own
overlaid (pair ∷ defaults) own = overlaid defaults
    (put_missing (value_at pair.0 own) own pair.0 pair.1)
