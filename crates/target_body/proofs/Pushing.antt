-- The calls that a run has made, as pairs of requests and results.
use Rattle.std.proofs.Common.{◌≡◌, List, [], ◌∷◌, ap, refl}
use Rattle.std.specs.List.{flat_map, zip}
use Rattle.result_cache.specs.declared.record.Segment.{Segment}
use Rattle.result_cache.specs.declared.record.Segment.TheVariants.{Call}
use Rattle.result_cache.specs.declared.request.RequestKey.{RequestKey}
use Rattle.result_cache.specs.declared.request.RequestResult.{RequestResult}
use Rattle.build_meaning.specs.SoFar.{called}
use Rattle.target_body.specs.Seen.{call_segment}

pub called_pairs : (keys : List RequestKey) (results : List RequestResult)
    → flat_map call_segment (zip keys results) ≡ called keys results
called_pairs [] results = refl
called_pairs (key ∷ keys) [] = refl
called_pairs (key ∷ keys) (result ∷ results) = ap (λ (l : List Segment). Call key result.runs ∷ l)
    (called_pairs keys results)
