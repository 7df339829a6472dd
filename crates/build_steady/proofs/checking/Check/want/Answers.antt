use Rattle.std.proofs.Common.{◌≡◌, Bool, refl, ap, sym, ◌∙◌}
use Rattle.std.specs.List.{list_any}
use Rattle.result_cache.specs.Journal.{Journal, end_of, has}
use Rattle.result_cache.specs.Same.{same_run}
use Rattle.result_cache.specs.declared.run.RunId.{RunId}
use Rattle.build_steady.proofs.Holding.{want-circles, want-goes, want-said, want-uses}
use Rattle.build_steady.proofs.checking.Check.want.Goals as goal

-- what is told of the name is told of the run
recalled : (told : Bool) (journal : Journal) (name run : RunId) → name ≡ run →
    told ≡ has (end_of name) journal → has (end_of run) journal ≡ told
recalled told journal name run same is = ap (λ r. has (end_of r) journal) (sym same) ∙ sym is

pub returns-then-recalls-clause-turn : goal.returns-then-recalls-clause-turn
returns-then-recalls-clause-turn g c =
    let m = g.W.Walker in
    want-uses m.seen (m.seen c.args.walk).world c.args.self.now c.args.walk c.args.run
    c.requires.held c.requires.asking c.requires.asks (recalled c.recalls.result
    (m.seen c.args.walk).position.journal c.in_ok-name.name c.args.run c.in_ok-name.ensures
    c.recalls.ensures ∙ c.if-recalls.true)

pub returns-then-contains-clause-turn : goal.returns-then-contains-clause-turn
returns-then-contains-clause-turn g c =
    let m = g.W.Walker in
    want-circles m.seen (m.seen c.args.walk).world c.args.self.now (m.seen c.args.walk).position
    c.args.run c.requires.held c.requires.asks (recalled c.recalls.result
    (m.seen c.args.walk).position.journal c.in_ok-name.name c.args.run c.in_ok-name.ensures
    c.recalls.ensures ∙ c.if-recalls.false) (sym (c.contains.ensures.value ∙ ap
    (list_any (λ x. same_run x c.args.run)) c.deref.ensures.value) ∙ c.if-contains.true)

pub returns-in-Some-clause-turn : goal.returns-in-Some-clause-turn
returns-in-Some-clause-turn g c =
    let m = g.W.Walker in
    want-said m.seen (m.seen c.args.walk).world c.args.self.now (m.seen c.args.walk).position
    c.args.run c.in-Some.verdict c.begin.new.self c.requires.held c.requires.asks
    (recalled c.recalls.result (m.seen c.args.walk).position.journal c.in_ok-name.name c.args.run
    c.in_ok-name.ensures c.recalls.ensures ∙ c.if-recalls.false)
    (sym (c.contains.ensures.value ∙ ap (list_any (λ x. same_run x c.args.run))
    c.deref.ensures.value) ∙ c.if-contains.false) (λ before shows. c.in-Some.ensures.told before
    c.args.run shows)

pub returns-in_ok-push-in-None-clause-turn : goal.returns-in_ok-push-in-None-clause-turn
returns-in_ok-push-in-None-clause-turn g c =
    let m = g.W.Walker in
    want-goes m.seen (m.seen c.args.walk).world c.args.self.now _ c.args.walk c.args.run
    c.requires.held c.requires.asking c.requires.asks (recalled c.recalls.result
    (m.seen c.args.walk).position.journal c.in_ok-name.name c.args.run c.in_ok-name.ensures
    c.recalls.ensures ∙ c.if-recalls.false) (sym (c.contains.ensures.value ∙ ap
    (list_any (λ x. same_run x c.args.run)) c.deref.ensures.value) ∙ c.if-contains.false)
    (λ before shows. c.in-None.ensures.told before c.args.run shows) c.begin.ensures.records
    (record { callers = refl; asks = refl }) c.in_ok-push-in-None.ensures.items
