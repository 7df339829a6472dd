use Rattle.std.proofs.Common.{
  eqb,
  ◌≡◌,
  ◌-◌,
  length,
  take,
  drop,
  filter,
  ap,
  ◌∙◌,
  subst,
  IsSorted,
  arith,
  rules,
}
use Rattle.std.specs.List.{starts_with}
use Rattle.std.specs.Cmp.Lexicographic.{slice_cmp}
use Rattle.std.specs.Ordering.{nat_cmp}
use Rattle.std.proofs.lemmas.Fn.{always_returns_same}
use Rattle.std.proofs.lemmas.List.{take_all, length-drop}
use Rattle.msb_glob.proofs.Blocks.{is_ahead, begins_with, ahead_parted, begins_parted, block_is}
use Rattle.msb_glob.proofs.sorted.SortedPaths.beginning_with.Goals as goal

pub returns-clause-whole : goal.returns-clause-whole
returns-clause-whole g c =
    let path = g.P.HasPath.path in
    let front = c.args.front.now in
    let whole : take (length front) front ≡ front = take_all (length front) front (omega arith) in
    let entries = c.self.inside.entries.now in
    let n = c.partition_point-first.result in
    let sorted = c.self.invariant in
    let rest = take (length entries - n) (drop n entries) in
    let rest_is : rest ≡ drop n entries = take_all (length entries - n) (drop n entries)
    (omega (arith, length-drop n entries)) in
    let split = c.partition_point-first.ensures.partitioned (λ x. is_ahead front (path x))
    (always_returns_same _ _ _ (λ a r f k. (search rules, search rules)))
    (ahead_parted path front entries sorted) in
    let inner = c.partition_point-end.ensures.partitioned (λ x. starts_with eqb (path x) front)
    (always_returns_same _ _ _ (λ a r f k. (search (rules, whole), search rules)))
    (begins_parted path front entries rest n sorted split rest_is) in
    block_is path front entries rest n c.partition_point-end.result split rest_is inner
    ∙ ap (λ paths. filter (begins_with front) paths) c.self.view_is

pub returns-clause-in_order : goal.returns-clause-in_order
returns-clause-in_order g c = subst (IsSorted (slice_cmp nat_cmp)) c.self.view_is c.self.invariant
