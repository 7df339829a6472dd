use Rattle.msb_laws.proofs.Collecting.{IsOk}
use Rattle.msb_laws.specs.Results.{all_ok}
use Rattle.msb_expand.specs.Written.{target_name}
use Rattle.msb_expand.proofs.written.each_name.Given as goal

abbrev pub invariant-loop-item : goal.invariant-loop-item
invariant-loop-item l = IsOk target_name l.items l.item-index l.names (all_ok target_name l.items)
