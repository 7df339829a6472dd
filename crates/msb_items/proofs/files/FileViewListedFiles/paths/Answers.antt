use Rattle.std.proofs.Common.{◌≡◌, ℕ, List, [], IsSorted, is_some, map, subst, sym}
use Rattle.std.proofs.lemmas.Result.{IfOk-weaker}
use Rattle.std.specs.Cmp.Lexicographic.{slice_cmp}
use Rattle.std.specs.Ordering.{nat_cmp}
use Rattle.file_store.specs.Files.{paths_of}
use Rattle.msb_values.specs.Acts.{act_path}
use Rattle.msb_files.specs.Views.{acts_of, content, paths, paths_met}
use Rattle.msb_items.proofs.InOrder.{IsRising, all_rising, in_order, some_rising}
use Rattle.msb_items.proofs.files.FileViewListedFiles.paths.Goals as goal

pub returns-clause-in_order : goal.returns-clause-in_order
returns-clause-in_order c =
    let view = c.args.self.now in
    let met : IsRising (paths_met view) = all_rising (paths_of view.files) _
    (all_rising (map act_path (acts_of view.journal)) [] tt) in
    let rising = some_rising (λ path. is_some (content view path)) (paths_met view) met in
    let IsAll : List (List ℕ) → Type 0 = λ all. all ≡ paths view in
    let InOrder : List (List ℕ) → Type 0 = λ all. IsSorted (slice_cmp nat_cmp) all in
    IfOk-weaker c.paths.result IsAll InOrder
    (λ all is. subst (IsSorted (slice_cmp nat_cmp)) (sym is) (in_order (paths view) rising))
    c.paths.ensures
