use Rattle.std.proofs.Common.{◌++◌, ◌∙◌, codes, sym, ap, append_assoc}
use Rattle.std.proofs.lemmas.Result.{on_ok_weaker}
use Rattle.msb_expression.specs.Written.{build_calls_text, function_text}
use Rattle.msb_expression.proofs.writing.push_function.Goals as goal

pub returns-in_ok-push_build_calls-in-None : goal.returns-in_ok-push_build_calls-in-None
returns-in_ok-push_build_calls-in-None c =
    let word = c.args.word.now in
    let calls = c.args.calls.now in
    let head = codes "$([MSBuild]::" in
    let close = codes ")" in
    let written = build_calls_text calls in
    on_ok_weaker c.push_str-in-None-2.result
    (λ e. e
    ∙ ap (λ t. t ++ close)
    (c.in_ok-push_build_calls-in-None.ensures
    ∙ ap (λ t. t ++ written) c.in_ok-push_str-in-None.ensures.ok
    ∙ append_assoc word head written)
    ∙ append_assoc word (head ++ written) close
    ∙ sym (ap (λ s. word ++ function_text s calls) c.in-None.is)) c.push_str-in-None-2.ensures.ok
