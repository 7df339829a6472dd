-- Values by their keys, and what a look for one answers.
-- (MSBuild task; Build projects in parallel: a project is evaluated once for each set of global
-- properties)
use Rattle.std.specs.Prelude.{List, [], ◌∷◌}
use Rattle.once_table.specs.declared.values.Look.{Look}
use Rattle.once_table.specs.declared.values.Look.TheVariants.{Made, Making, Missing}

-- each value fits its key
abbrev pub AllFit : {K V : Type 0} → (K → V → Type 0) → List (K × V) → Type 0
AllFit P [] = Unit {0}
AllFit P (entry ∷ more) = P entry.0 entry.1 × AllFit P more

-- the fact, where the value is made
abbrev pub IfMade : {V : Type 0} → (V → Type 0) → Look V → Type 0
IfMade P (Made value) = P value
IfMade P Making = Unit {0}
IfMade P Missing = Unit {0}
