-- Pairs and items that are the same: texts and names are compared by their bytes.
use Rattle.std.specs.Prelude.{Bool, ◌&&◌}
use Rattle.std.specs.Cmp.Lexicographic.{pointwise}
use Rattle.std.specs.Str.{bytes_eq}
use Rattle.msb_laws.specs.Words.{Name, Pairs, Text}
use Rattle.msb_values.specs.declared.item.Item.{Item}

-- one name with one value
abbrev pub same_pair : Name × Text → Name × Text → Bool
same_pair p q = bytes_eq p.0 q.0 && bytes_eq p.1 q.1

-- the same names with the same values
abbrev pub same_pairs : Pairs → Pairs → Bool
same_pairs = pointwise same_pair

-- one identity from one place, with the same metadata
abbrev pub same_item : Item → Item → Bool
same_item a b = bytes_eq a.ident b.ident
    && (bytes_eq a.recursive b.recursive && same_pairs a.meta b.meta)
