use Rattle.std.proofs.Common.{ap₂, ◌∙◌}
use Rattle.std.proofs.lemmas.Result.{IfOk-weaker}
use Rattle.clap.specs.Words.{with_rule}
use Rattle.msb_words.proofs.grammar.grammar.Goals as goal

pub returns : goal.returns
returns c =
    let action = c.in_ok-arg.ensures.shape c.positional.ensures.local
    ∙ ap₂ with_rule c.bare.ensures c.positional.ensures.rule in
    let project = c.in_ok-arg-2.ensures.shape c.positional-2.ensures.local
    ∙ ap₂ with_rule action c.positional-2.ensures.rule in
    let target = c.in_ok-arg-3.ensures.shape c.option.ensures.local
    ∙ ap₂ with_rule project c.option.ensures.rule in
    let property = c.in_ok-arg-4.ensures.shape c.option-2.ensures.local
    ∙ ap₂ with_rule target c.option-2.ensures.rule in
    let nodes = c.in_ok-arg-5.ensures.shape c.option-3.ensures.local
    ∙ ap₂ with_rule property c.option-3.ensures.rule in
    let show = c.in_ok-arg-6.ensures.shape c.option-4.ensures.local
    ∙ ap₂ with_rule nodes c.option-4.ensures.rule in
    let size = c.in_ok-arg-7.ensures.shape c.option-5.ensures.local
    ∙ ap₂ with_rule show c.option-5.ensures.rule in
    IfOk-weaker c.arg-8.result _ _ (λ command added. added.shape c.flag.ensures.local
    ∙ ap₂ with_rule size c.flag.ensures.rule) c.arg-8.ensures
