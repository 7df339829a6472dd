-- How far a run has come at the end of a part of it.
use Rattle.std.specs.Prelude.{Result, Ok, Err}
use Rattle.target_body.specs.States.{Progress, State, Stopped, progress_of, progress_at}

abbrev pub progress_in : Result State Stopped → Progress
progress_in (Ok s) = progress_of s
progress_in (Err stop) = progress_at stop
