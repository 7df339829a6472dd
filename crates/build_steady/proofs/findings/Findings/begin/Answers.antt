use Rattle.std.proofs.Common.{refl}
use Rattle.build_steady.specs.Order.{body_begins}
use Rattle.build_steady.specs.Verdicts.{most_bodies}
use Rattle.build_steady.specs.declared.verdict.Verdict.TheVariants.{Spent}
use Rattle.build_steady.proofs.Events.{
  begin-exceeds,
  begin-fits,
  bodies-begin,
  instances-stay,
  records-stay,
}
use Rattle.build_steady.proofs.findings.Findings.begin.Goals as goal

pub returns-then-self-ge-MOST_BODIES-clause-told : goal.returns-then-self-ge-MOST_BODIES-clause-told
unfolding most_bodies
returns-then-self-ge-MOST_BODIES-clause-told c before run shows =
    begin-exceeds before c.args.self.now.bodies (Spent most_bodies) shows.bodies
    c.if-self-ge-MOST_BODIES.true

pub returns-clause-told : goal.returns-clause-told
unfolding most_bodies
returns-clause-told c before run shows =
    let f = c.args.self.now in (
      begin-fits before f.bodies (Spent most_bodies) shows.bodies c.if-self-ge-MOST_BODIES.false,
      record {
        records =
            records-stay f.records.finished before (body_begins run) (λ r. refl) shows.records;
        unbegun = shows.unbegun;
        instances = instances-stay f.instances.keys before (body_begins run) refl shows.instances;
        bodies = bodies-begin f.bodies _ before run refl shows.bodies;
      },
    )
