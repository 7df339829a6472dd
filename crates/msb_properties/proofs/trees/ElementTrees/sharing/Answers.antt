use Rattle.std.proofs.Common.{List, [], ◌∷◌}
use Rattle.once_table.specs.Looked.{AllFit}
use Rattle.msb_properties.proofs.trees.ElementTrees.sharing.Goals as goal

-- any tree fits any path
any-fit : {K V : Type 0} (entries : List (K × V)) → AllFit (λ path tree. Unit {0}) entries
any-fit [] = tt
any-fit (entry ∷ more) = (tt, any-fit more)

pub put_all-requires-after_bounds : goal.put_all-requires-after_bounds
put_all-requires-after_bounds c κs = any-fit c.args.self.trees.entries
