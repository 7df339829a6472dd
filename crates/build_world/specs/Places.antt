-- Where the first target of a name stands among those that are used. (MSBuild targets)
use Rattle.std.specs.Prelude.{◌≡◌, ℕ, suc, List, [], ◌∷◌, String, Option, Some, None, cond}
use Rattle.std.specs.HashMap.{HashMap, get_by_text}
use Rattle.std.specs.Option.{option_map, option_or}
use Rattle.std.specs.Str.{bytes_eq}
use Rattle.msb_laws.specs.Words.{Name}
use Rattle.build_world.specs.declared.instance.UsedTarget.{UsedTarget}

-- the place of the first target of a name, from 0 on
abbrev pub place_of : Name → List UsedTarget → Option ℕ
place_of name [] = None
place_of name (t ∷ ts) = cond (bytes_eq t.name name) (Some 0) (option_map suc (place_of name ts))

-- each name is told where its first target stands, and no other name is told anything
abbrev pub HasPlaces : {A S : Type 0} → List UsedTarget → HashMap (String A) ℕ S → Type 0
HasPlaces targets places = (name : Name) → get_by_text places name ≡ place_of name targets

-- a name is told a place where it has none yet
abbrev pub IsInserted : {A S : Type 0} → HashMap (String A) ℕ S → Name → ℕ → HashMap (String A) ℕ S
    → Type 0
IsInserted old name place new = (other : Name)
    → get_by_text new other ≡ option_or (get_by_text old other)
    (cond (bytes_eq name other) (Some place) None)
