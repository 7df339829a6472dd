-- When an output is out of date against an input. (Incremental builds; Target element: Inputs,
-- Outputs)
use Rattle.std.specs.Prelude.{ℕ, nat_lt, List, Bool, true, ◌||◌, Option, Some, None}
use Rattle.std.specs.List.{list_any}
use Rattle.msb_laws.specs.Words.{Path}
use Rattle.msb_files.specs.Views.{View, written, stamp}

-- a file that is missing has no stamp; of two that are there the stamps tell, and equal ones are up
-- to date
abbrev pub is_missing_or_older : (input output : Option ℕ) → Bool
is_missing_or_older (Some input) (Some output) = nat_lt output input
is_missing_or_older (Some input) None = true
is_missing_or_older None output = true

-- a pair is out of date if the request's journal has written or removed the input or the output, if
-- one of them is missing, or if the input's stamp is greater
abbrev pub pair_is_old : View → (input output : Path) → Bool
pair_is_old view input output = written view input
    || (written view output || is_missing_or_older (stamp view input) (stamp view output))

-- one pair of every input and every output is out of date
abbrev pub any_is_old : View → (inputs outputs : List Path) → Bool
any_is_old view inputs outputs = list_any (λ input. list_any (pair_is_old view input) outputs)
    inputs
