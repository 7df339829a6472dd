-- What the code finds excluded is what the entries of Exclude name.
use Rattle.std.proofs.Common.{◌≡◌, ℕ, List, Bool, not, filter, ap, ◌∙◌}
use Rattle.msb_values.specs.declared.item.Item.{Item}
use Rattle.msb_glob.specs.FoldedNames.{folded_names, is_named_by}
use Rattle.msb_glob.specs.ItemNames.{ItemNames, is_named}
use Rattle.msb_glob.specs.Parsed.{Reading}
use Rattle.msb_glob.proofs.Naming.{named_same}
use Rattle.task_kit.specs.Included.{less_excluded}

pub left_same : (dir : List ℕ) (names : ItemNames) (seen : List (List ℕ) × List Reading)
    (items : List Item) → seen ≡ folded_names names
    → filter (λ item. not (is_named_by dir seen item.ident)) items ≡ less_excluded dir names items
left_same dir names seen items is =
    let named : is_named_by dir (folded_names names) ≡ is_named dir names = λ i ident.
    named_same dir names ident i in
    ap (λ held. filter (λ (item : Item). not (is_named_by dir held item.ident)) items) is
    ∙ ap (λ (test : List ℕ → Bool). filter (λ (item : Item). not (test item.ident)) items) named
