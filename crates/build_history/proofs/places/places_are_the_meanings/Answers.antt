use Rattle.build_history.proofs.PlacesGive.{places_give as law}
use Rattle.build_history.proofs.places.places_are_the_meanings.Goals as goal

pub returns : goal.returns
returns g c = law
