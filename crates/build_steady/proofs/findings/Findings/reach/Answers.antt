use Rattle.std.proofs.Common.{◌≡◌, ◌≤◌, ◌<◌, length, Some, refl, ap, sym, ◌∙◌, rules, arith}
use Rattle.indexmap.specs.IndexSet.{index_set_len}
use Rattle.build_meaning.specs.Meaning.{most_instances}
use Rattle.build_steady.specs.Order.{is_reached}
use Rattle.build_steady.specs.declared.verdict.Verdict.TheVariants.{TooMany}
use Rattle.build_steady.proofs.Events.{
  bodies-stay,
  instances-reach,
  reach-exceeds,
  reach-fits,
  records-stay,
}
use Rattle.build_steady.proofs.findings.Findings.reach.Goals as goal

pub returns-then-len-gt-MOST_INSTANCES-clause-told :
    goal.returns-then-len-gt-MOST_INSTANCES-clause-told
unfolding most_instances
returns-then-len-gt-MOST_INSTANCES-clause-told c before shows =
    let i = c.args.instance.now in
    let keys = c.insert.new.instances.keys in
    let counted = instances-reach c.args.self.now.instances.keys keys before i
    c.in_ok-insert.ensures shows.instances in
    let n : index_set_len c.insert.new.instances ≡ length keys = search rules in
    let l : most_instances < length keys = let a = c.if-len-gt-MOST_INSTANCES.true in
    let b = c.len.ensures.len in omega (arith, n, a, b) in
    reach-exceeds keys before i (TooMany i) counted l
    ∙ ap (λ k. Some (TooMany k)) (sym c.in_ok-copy.ensures)

pub returns-clause-told : goal.returns-clause-told
unfolding most_instances
returns-clause-told c before shows =
    let f = c.args.self.now in
    let i = c.args.instance.now in
    let keys = c.insert.new.instances.keys in
    let counted = instances-reach f.instances.keys keys before i c.in_ok-insert.ensures
    shows.instances in
    let n : index_set_len c.insert.new.instances ≡ length keys = search rules in
    let l : length keys ≤ most_instances = let a = c.if-len-gt-MOST_INSTANCES.false in
    let b = c.len.ensures.len in omega (arith, n, a, b) in (
      reach-fits keys before i (TooMany i) counted l,
      record {
        records = records-stay f.records.finished before (is_reached i) (λ r. refl) shows.records;
        unbegun = shows.unbegun;
        instances = counted;
        bodies = bodies-stay f.bodies before (is_reached i) refl shows.bodies;
      },
    )
