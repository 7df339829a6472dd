use Rattle.std.proofs.Common.{◌<◌, length, get_or, ◌∙◌, rules}
use Rattle.std.proofs.lemmas.Fn.{always_returns_same}
use Rattle.std.proofs.lemmas.List.{get_or_default}
use Rattle.msb_files.specs.Places.{path_at}
use Rattle.msb_files.proofs.Placed.{act_met, none_met, places_rise}
use Rattle.msb_files.proofs.Searches.{IsMet, ahead, parted}
use Rattle.msb_files.proofs.sorted.last_act.Goals as goal

pub returns-then-first-places : goal.returns-then-first-places
returns-then-first-places c =
    let entries = c.args.entries.now in
    let places = c.args.places.now in
    let path = c.args.path.now in
    let first = c.partition_point-first.result in
    let up = places_rise entries places c.requires.sorted in
    let split = c.partition_point-first.ensures.partitioned (ahead (path_at entries) path)
    (always_returns_same _ _ _ (λ a r f k. (search rules, search rules)))
    (parted (path_at entries) path places up) in
    let met : IsMet (path_at entries) path places first = record { up = up; split = split } in
    none_met entries places path first c.requires met (search rules)

pub returns : goal.returns
returns c =
    let entries = c.args.entries.now in
    let places = c.args.places.now in
    let path = c.args.path.now in
    let first = c.partition_point-first.result in
    let up = places_rise entries places c.requires.sorted in
    let split = c.partition_point-first.ensures.partitioned (ahead (path_at entries) path)
    (always_returns_same _ _ _ (λ a r f k. (search rules, search rules)))
    (parted (path_at entries) path places up) in
    let met : IsMet (path_at entries) path places first = record { up = up; split = split } in
    let within : first < length places = search rules in
    let at = get_or places first 0 in
    c.act_on.ensures ∙ act_met entries places path first c.requires met at within
    (get_or_default places first 0 at within)
