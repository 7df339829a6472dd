use Rattle.std.proofs.Common.{◌≡◌, [], ◌∷◌, ◌++◌, not, refl, ap, ◌∙◌}
use Rattle.std.specs.List.{list_any}
use Rattle.std.specs.Str.{bytes_eq}
use Rattle.msb_values.specs.Acts.{act_path}
use Rattle.msb_files.proofs.Committed.{among, kept_if, pushed_if}
use Rattle.msb_files.proofs.committing.push_unless_acted.Goals as goal

pub returns-in_ok-push-clause-acts : goal.returns-in_ok-push-clause-acts
returns-in_ok-push-clause-acts c =
    let acts = c.args.acts.now.items in
    let keys = c.args.paths.now.keys in
    let path = c.in_ok-of.field-0 in
    let is : path ≡ act_path c.args.act.now = c.in_ok-of.ensures ∙ c.path.ensures in
    pushed_if (list_any (bytes_eq (act_path c.args.act.now)) keys) c.in_ok-insert.field-0 acts
    (acts ++ c.args.act.now ∷ []) c.push.new.self.items
    (c.in_ok-insert.ensures.added
    ∙ (ap not (among path keys) ∙ ap (λ p. not (list_any (bytes_eq p) keys)) is))
    c.if-branch.true
    (c.in_ok-push.ensures.items ∙ ap (λ a. acts ++ a ∷ []) c.in_ok-copy.ensures)

pub returns-else-branch-clause-acts : goal.returns-else-branch-clause-acts
returns-else-branch-clause-acts c =
    let acts = c.args.acts.now.items in
    let keys = c.args.paths.now.keys in
    let path = c.in_ok-of.field-0 in
    let is : path ≡ act_path c.args.act.now = c.in_ok-of.ensures ∙ c.path.ensures in
    kept_if (list_any (bytes_eq (act_path c.args.act.now)) keys) c.in_ok-insert.field-0 acts
    (acts ++ c.args.act.now ∷ []) acts
    (c.in_ok-insert.ensures.added
    ∙ (ap not (among path keys) ∙ ap (λ p. not (list_any (bytes_eq p) keys)) is))
    c.if-branch.false refl
