use Rattle.std.proofs.Common.{◌≡◌, true, false, sym, subst, ◌∙◌}
use Rattle.result_cache.specs.Exact.{key-exact}
use Rattle.request_machine.specs.Plain.{IsPlainProject}
use Rattle.request_machine.proofs.PlainProjects.{plain_projects_ask_alike}
use Rattle.request_machine.proofs.walk.WalkWalker.is_plain.Goals as goal

pub returns-then-self-clause-plain : goal.returns-then-self-clause-plain
returns-then-self-clause-plain g c =
    let r = c.args.self.now.request in
    let w = r.world.now in
    λ same. plain_projects_ask_alike g.T.CountedTools.answer w c.args.key.now
    (subst (IsPlainProject w.tree.files)
    ((key-exact r.key c.args.key.now).0 (sym c.eq.ensures ∙ same)) (r.known c.if-self.true))

pub returns-else-self-clause-plain : goal.returns-else-self-clause-plain
returns-else-self-clause-plain g c =
    λ same. absurd (let x : false ≡ true = sym c.if-self.false ∙ same in cc)
