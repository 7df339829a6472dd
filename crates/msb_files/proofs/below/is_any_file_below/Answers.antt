use Rattle.std.proofs.Common.{◌≡◌, ℕ, List, [], ◌∷◌, ◌++◌, is_some, false, arith, rules, tests}
use Rattle.std.proofs.lemmas.Fn.{always_returns_same}
use Rattle.file_store.specs.declared.tree.File.{File}
use Rattle.msb_files.specs.Below.{has_file_below}
use Rattle.msb_files.specs.Views.{content}
use Rattle.file_store.proofs.Below.{begins}
use Rattle.msb_files.proofs.Searches.{
  files_rise,
  ahead,
  parted,
  IsMet,
  none_ahead,
  none_behind,
  none_there,
}
use Rattle.msb_files.proofs.below.is_any_file_below.Goals as goal

pub loop-at-init : goal.loop-at-init
loop-at-init c =
    let xs = c.args.files.now in
    let front = c.args.folder.now ++ 47 ∷ [] in
    let live = λ (path : List ℕ). is_some (content c.args.view.now path) in
    let up = files_rise xs c.requires in
    let split = c.partition_point-first.ensures.partitioned (ahead (λ (f : File). f.path) front)
    (always_returns_same _ _ _ (λ a r f k. (search rules, search rules)))
    (parted (λ (f : File). f.path) front xs up) in
    let met : IsMet (λ (f : File). f.path) front xs c.partition_point-first.result = record
    { up = up; split = split } in (
      omega arith,
      none_ahead (λ (f : File). f.path) front live xs c.partition_point-first.result
          met,
    )

pub returns-then-not-is_below : goal.returns-then-not-is_below
returns-then-not-is_below c =
    let xs = c.args.files.now in
    let front = c.args.folder.now ++ 47 ∷ [] in
    let live = λ (path : List ℕ). is_some (content c.args.view.now path) in
    let up = files_rise xs c.requires in
    let split = c.partition_point-first.ensures.partitioned (ahead (λ (f : File). f.path) front)
    (always_returns_same _ _ _ (λ a r f k. (search rules, search rules)))
    (parted (λ (f : File). f.path) front xs up) in
    let met : IsMet (λ (f : File). f.path) front xs c.partition_point-first.result = record
    { up = up; split = split } in
    let x = c.index-files-at.result in
    let not_below : begins front ((λ (f : File). f.path) x) ≡ false = search (rules, tests) in
    none_behind (λ (f : File). f.path) front live xs c.partition_point-first.result met c.loop-at.at
    x c.loop-at.invariant.0 c.loop-at-test.true c.index-files-at.is not_below
    c.loop-at.invariant.1

pub returns : goal.returns
returns c =
    none_there
    (λ (x : File). has_file_below c.args.view.now c.args.folder.now ((λ (f : File). f.path) x))
    c.args.files.now c.loop-at.at (omega arith) c.loop-at.invariant.1
