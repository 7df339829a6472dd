-- The statuses of an outcome. (MSBuild command-line reference)
use Rattle.std.specs.Prelude.{◌≡◌, ◌⊎◌, ℕ}

-- the status where the work was done, or the request failed: the files are written, and then the
-- text is printed
abbrev pub IsCompletion : ℕ → Type 0
IsCompletion status = (status ≡ 0) ⊎ (status ≡ 1)

-- the status where the project or its build is refused: no file is written
abbrev pub IsRefusal : ℕ → Type 0
IsRefusal status = (status ≡ 3) ⊎ (status ≡ 4)
