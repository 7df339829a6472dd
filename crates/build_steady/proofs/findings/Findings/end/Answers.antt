use Rattle.std.proofs.Common.{refl, ap, ◌∙◌, ◌∷◌}
use Rattle.build_steady.proofs.Events.{begun-gone, begun-there, end-absent, end-done}
use Rattle.build_steady.proofs.findings.Findings.end.Goals as goal

pub finish-requires : goal.finish-requires
finish-requires c = begun-there c.args.run.now 0 c.args.self.now.records.begun
    c.begin.new.self.begun c.in_ok-begin-in-Absent.ensures.begun

pub returns-in-Done-clause-told : goal.returns-in-Done-clause-told
returns-in-Done-clause-told c before shows =
    end-done c.args.self.now before c.args.run.now c.args.run_record c.in-Done.first.now
    c.differs.result
    c.differs.ensures c.in-Done.ensures shows

pub returns-in_ok-begin-in-Absent-clause-told : goal.returns-in_ok-begin-in-Absent-clause-told
returns-in_ok-begin-in-Absent-clause-told c before shows =
    end-absent c.args.self.now _ before c.args.run.now c.args.run_record c.in-Absent.ensures.0
    (c.finish.ensures.finished ∙ ap (λ t. record { run = c.args.run.now; made = c.args.run_record }
    ∷ t)
    c.in_ok-begin-in-Absent.ensures.finished)
    (begun-gone c.args.run.now 0 c.args.self.now.records.begun c.begin.new.self.begun
    c.finish.new.self.begun c.requires.unbegun c.in_ok-begin-in-Absent.ensures.begun
    c.finish.ensures.begun)
    refl refl shows
