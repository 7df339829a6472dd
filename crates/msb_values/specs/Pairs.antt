-- What names have. (MSBuild properties; MSBuild items; MSBuild item metadata.)
use Rattle.std.specs.Prelude.{List, [], ◌∷◌, Option, Some, None, if◌then◌else◌}
use Rattle.std.specs.BTreeMap.{insert_entry}
use Rattle.std.specs.Cmp.Lexicographic.{slice_cmp}
use Rattle.std.specs.List.Sorted.{IsStrictlySortedBy}
use Rattle.std.specs.Map.{keys_of}
use Rattle.std.specs.Ordering.{nat_cmp}
use Rattle.std.specs.Str.{bytes_eq}
use Rattle.msb_laws.specs.Words.{Name}

-- what a name has
abbrev pub value_at : {T : Type 0} → Name → List (Name × T) → Option T
value_at name [] = None
value_at name (p ∷ ps) = if bytes_eq name p.0 then Some p.1 else value_at name ps

-- the names are distinct, each above the one before it in byte order
abbrev pub AreRising : {T : Type 0} → List (Name × T) → Type 0
AreRising pairs = IsStrictlySortedBy (slice_cmp nat_cmp) (keys_of pairs)

-- what a name has is changed, if the name is there
abbrev pub changed_at : {T : Type 0} → Name → (T → T) → List (Name × T) → List (Name × T)
changed_at name change [] = []
changed_at name change (p ∷ ps) = if bytes_eq name p.0 then (p.0, change p.1) ∷ ps else p
    ∷ changed_at name change ps

-- without a name, if it is there
abbrev pub without_name : {T : Type 0} → Name → List (Name × T) → List (Name × T)
without_name name [] = []
without_name name (p ∷ ps) = if bytes_eq name p.0 then ps else p ∷ without_name name ps

-- each entry put in its turn, so that the last of a name holds
abbrev pub all_put : {T : Type 0} → List (Name × T) → List (Name × T) → List (Name × T)
all_put pairs [] = pairs
all_put pairs (e ∷ es) = all_put (insert_entry (slice_cmp nat_cmp) pairs e.0 e.1) es
