use Rattle.build_history.proofs.PlacesMeant.{meant as law}
use Rattle.build_history.proofs.places.journals_are_meant.Goals as goal

pub returns : goal.returns
returns g c = law
