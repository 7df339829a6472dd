-- The world whose three projects call each other: it has no meaning, and the claim that closes the
-- circle is refused.
use Rattle.std.proofs.Common.{◌≡◌, [], ◌∷◌, None, Some, refl}
use Rattle.result_cache.specs.Same.{same_run, same_instance, same_key}
use Rattle.build_meaning.specs.Meaning.{deepest, most_instances, meaning}
use Rattle.build_meaning.specs.Circle.{circle, claims_after}

pub not_whole : meaning circle ≡ None
unfolding same_run same_instance deepest
not_whole = refl

pub refused : claims_after ≡ Some (None ∷ None ∷ None ∷ [])
unfolding same_run same_instance same_key deepest most_instances
refused = refl
