use Rattle.std.proofs.Common.{◌∙◌, sym, ap, rules}
use Rattle.std.proofs.lemmas.Fn.{always_returns_same}
use Rattle.file_store.specs.Files.{are_in_order, file_at}
use Rattle.file_store.proofs.Lookups.{order_at, searchable, met, missed}
use Rattle.file_store.proofs.tree.Tree.find.Goals as goal

pub returns-in-Ok : goal.returns-in-Ok
returns-in-Ok c =
    let path = c.args.path.now in
    let is = c.as_slice-files.ensures in
    let equal = c.in-Ok.ensures.position (order_at path)
    (always_returns_same _ _ _ (λ a r g k. (search rules, search rules))) in
    met path _ c.in-Ok.at _ (ap are_in_order is ∙ c.args.self.now.in_order) c.in-Ok.ensures.bound
    c.index-files-at.is equal ∙ ap (file_at path) is

pub returns-in-Err : goal.returns-in-Err
returns-in-Err c =
    let path = c.args.path.now in
    let is = c.as_slice-files.ensures in
    let split = c.in-Err.ensures.position (order_at path)
    (always_returns_same _ _ _ (λ a r g k. (search rules, search rules))) in
    sym
    (ap (file_at path) (sym is) ∙ missed path _ c.in-Err.field-0
    (split (searchable path _ (ap are_in_order is ∙ c.args.self.now.in_order))))
