-- What is not in a list.
use Rattle.std.proofs.Common.{◌≡◌, ℕ, List, map, None, get_or, arith, inl, inr}
use Rattle.std.specs.List.{slice_get}
use Rattle.std.proofs.lemmas.List.{get_or_past, length-map}
use Rattle.std.proofs.lemmas.Option.{slice_get_cases}

pub get_or_missing : {X Y : Type 0} (f : X → Y) (xs : List X) (n : ℕ) (d : Y)
    → slice_get xs n ≡ None → get_or (map f xs) n d ≡ d
get_or_missing f xs n d is = elim (slice_get_cases xs n).1 [
  | inl found ↦ cc (found.2)
  | inr past ↦ get_or_past (map f xs) n d (omega (arith, length-map xs f, past.0))
]
