use Rattle.std.proofs.Common.{◌≡◌, ◌+◌, ◌++◌, map, IfOk, subst, rules}
use Rattle.msb_files.specs.Indices.{IsOrdered}
use Rattle.msb_files.proofs.sorted.merge.Goals as goal

pub returns : goal.returns
returns c =
    let all = map (λ at. at + c.args.shift) c.args.newer.now ++ c.args.older.now in
    let is : c.extend_from_slice.new.self.items ≡ all = search rules in
    subst (λ places. IfOk c.order.result
    (λ sorted. IsOrdered c.args.entries.now places sorted.items)) is c.order.ensures
