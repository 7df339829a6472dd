use Rattle.std.proofs.Common.{rules}
use Rattle.std.proofs.lemmas.Fn.{always_returns_same}
use Rattle.file_store.specs.Paths.{is_before}
use Rattle.file_store.proofs.Order.{order_answer}
use Rattle.file_store.proofs.tree.is_in_order.Goals as goal

pub returns : goal.returns
returns c = order_answer _ _
    (c.is_sorted_by.ensures.cases (λ f g. is_before f.path g.path)
    (always_returns_same _ _ _ (λ a r g k. (search rules, search rules))))
