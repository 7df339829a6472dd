use Rattle.std.proofs.Common.{
  ◌≡◌,
  ℕ,
  List,
  [],
  ◌∷◌,
  ◌++◌,
  get_or,
  is_some,
  true,
  false,
  ◌∙◌,
  arith,
  rules,
  tests,
}
use Rattle.std.proofs.lemmas.Fn.{always_returns_same}
use Rattle.std.proofs.lemmas.List.{get_or_default}
use Rattle.msb_files.specs.Below.{has_file_below}
use Rattle.msb_files.specs.Places.{path_at}
use Rattle.msb_files.specs.Views.{content}
use Rattle.file_store.proofs.Below.{begins}
use Rattle.msb_files.proofs.Placed.{any_by_path, places_rise}
use Rattle.msb_files.proofs.Searches.{
  IsMet,
  ahead,
  none_ahead,
  none_behind,
  none_there,
  one_there,
  parted,
}
use Rattle.msb_files.proofs.sorted.is_any_below.Goals as goal

pub loop-at-init : goal.loop-at-init
loop-at-init c =
    let key = path_at c.args.entries.now in
    let places = c.args.places.now in
    let front = c.args.folder.now ++ 47 ∷ [] in
    let live = λ (path : List ℕ). is_some (content c.args.view.now path) in
    let up = places_rise c.args.entries.now places c.requires.sorted in
    let split = c.partition_point-first.ensures.partitioned (ahead key front)
    (always_returns_same _ _ _ (λ a r f k. (search rules, search rules)))
    (parted key front places up) in
    let met : IsMet key front places c.partition_point-first.result =
    record { up = up; split = split } in
    (omega arith, none_ahead key front live places c.partition_point-first.result met)

pub returns-then-not-is_below : goal.returns-then-not-is_below
returns-then-not-is_below c =
    let key = path_at c.args.entries.now in
    let places = c.args.places.now in
    let front = c.args.folder.now ++ 47 ∷ [] in
    let live = λ (path : List ℕ). is_some (content c.args.view.now path) in
    let up = places_rise c.args.entries.now places c.requires.sorted in
    let split = c.partition_point-first.ensures.partitioned (ahead key front)
    (always_returns_same _ _ _ (λ a r f k. (search rules, search rules)))
    (parted key front places up) in
    let met : IsMet key front places c.partition_point-first.result =
    record { up = up; split = split } in
    let x = get_or places c.loop-at.at 0 in
    let not_below : begins front (key x) ≡ false = search (rules, tests) in
    none_behind key front live places c.partition_point-first.result met c.loop-at.at x
    c.loop-at.invariant.0
    c.loop-at-test.true (get_or_default places c.loop-at.at 0 x c.loop-at-test.true)
    not_below c.loop-at.invariant.1
    ∙ any_by_path (has_file_below c.args.view.now c.args.folder.now)
    c.args.entries.now places c.requires

pub returns-then-is_some : goal.returns-then-is_some
returns-then-is_some c =
    let entries = c.args.entries.now in
    let test = has_file_below c.args.view.now c.args.folder.now in
    let places = c.args.places.now in
    let x = get_or places c.loop-at.at 0 in
    let holds : test (path_at entries x) ≡ true = search (rules, tests) in
    one_there (λ at. test (path_at entries at)) places c.loop-at.at x c.loop-at-test.true
    (get_or_default places c.loop-at.at 0 x c.loop-at-test.true) holds
    ∙ any_by_path test entries places c.requires

pub returns : goal.returns
returns c =
    let entries = c.args.entries.now in
    let test = has_file_below c.args.view.now c.args.folder.now in
    none_there (λ at. test (path_at entries at)) c.args.places.now c.loop-at.at
    (omega arith) c.loop-at.invariant.1
    ∙ any_by_path test entries c.args.places.now c.requires
