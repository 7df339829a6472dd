-- The fields of a walk as its progress, and what they keep.
use Rattle.target_order.specs.declared.walk.OrderWalk.TheInside.{Inside}
use Rattle.target_order.specs.Progress.{Progress}
use Rattle.target_order.specs.Search.{IsSound}

abbrev pub progress : Inside → Progress
progress w = record {
  table = w.table;
  wanted = w.wanted;
  passed = w.passed;
  visits = w.visits;
  has_run = w.has_run;
  asked = w.asked;
  failed = w.failed;
}

abbrev pub AreSound : Inside → Type 0
AreSound w = IsSound (progress w) w.places
