use Rattle.std.proofs.Common.{◌≡◌, ◌++◌, map, drop}
use Rattle.std.specs.List.{flat_map}
use Rattle.msb_condition.specs.Texts.{texts_of}
use Rattle.msb_condition.specs.View.{tree_of}
use Rattle.msb_condition.proofs.+texts.Given as goal

abbrev pub invariant-texts::push_all_texts-loop-cond :
    goal.invariant-texts::push_all_texts-loop-cond
invariant-texts::push_all_texts-loop-cond l =
    map (λ text. text.now) l.texts.items ++ flat_map texts_of
    (map tree_of (drop l.cond-index l.conds))
    ≡ map (λ text. text.now) l.initial.texts.items ++ flat_map texts_of (map tree_of l.conds)
