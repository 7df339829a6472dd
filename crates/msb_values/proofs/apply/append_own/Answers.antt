use Rattle.std.proofs.Common.{◌∙◌, ◌++◌, ap}
use Rattle.std.proofs.lemmas.Result.{on_ok_weaker, on_err_weaker}
use Rattle.msb_values.specs.Pairs.{changed_at}
use Rattle.msb_values.proofs.Lookups.{changed-by, changed-twice, changed-same}
use Rattle.msb_values.proofs.apply.append_own.Goals as goal

pub returns-clause-ok : goal.returns-clause-ok
returns-clause-ok c =
    let kind = c.args.kind.now in
    let old = c.args.lists.now in
    let after = c.append-appended.new.self in
    on_ok_weaker c.append-appended.result
    (λ grown. c.replace.ensures.left
    ∙ ap (changed_at kind (λ _. after)) c.replace-items.ensures.left
    ∙ changed-twice kind (λ _. c.none.result) (λ _. after) old
    ∙ ap (λ value. changed_at kind (λ _. value) old)
    (grown ∙ ap (λ items. items ++ c.args.more) c.replace-items.ensures.had)
    ∙ changed-by kind (λ items. items ++ c.args.more) c.none.result old)
    c.append-appended.ensures.ok

pub returns-clause-err : goal.returns-clause-err
returns-clause-err c =
    let kind = c.args.kind.now in
    let old = c.args.lists.now in
    let after = c.append-appended.new.self in
    on_err_weaker c.append-appended.result
    (λ same. c.replace.ensures.left
    ∙ ap (changed_at kind (λ _. after)) c.replace-items.ensures.left
    ∙ changed-twice kind (λ _. c.none.result) (λ _. after) old
    ∙ ap (λ value. changed_at kind (λ _. value) old) (same ∙ c.replace-items.ensures.had)
    ∙ changed-by kind (λ items. items) c.none.result old
    ∙ changed-same kind old)
    c.append-appended.ensures.err
