-- Elements as compact JSON, with the keys of each object in byte order and without those that would
-- be empty. (MSBuild project file schema reference)
use Rattle.std.specs.Prelude.{List, [], ◌∷◌, ◌++◌, codes}
use Rattle.std.specs.List.{flat_map}
use Rattle.msb_laws.specs.Words.{Text, Name, Pairs}

-- a name with its text, in which no character needs an escape
abbrev pub pair_text : Name × Text → Text
pair_text p = codes "\"" ++ p.0 ++ codes "\":\"" ++ p.1 ++ codes "\""

abbrev pub next_pair : Name × Text → Text
next_pair p = codes "," ++ pair_text p

abbrev pub attributes_text : Pairs → Text
attributes_text [] = []
attributes_text (p ∷ ps) = codes "\"a\":{" ++ pair_text p ++ flat_map next_pair ps ++ codes "},"

abbrev pub next_child : Text → Text
next_child child = codes "," ++ child

abbrev pub children_text : List Text → Text
children_text [] = []
children_text (x ∷ xs) = codes "\"c\":[" ++ x ++ flat_map next_child xs ++ codes "],"

-- an element with attributes, in byte order of their names, and children, as texts
abbrev pub element_text : Name → Pairs → List Text → Text
element_text name attributes children =
    codes
    "{" ++ attributes_text attributes ++ children_text children ++ pair_text (codes "e", name)
    ++ codes "}"
