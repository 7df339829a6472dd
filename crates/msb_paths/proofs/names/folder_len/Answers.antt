use Rattle.std.proofs.Common.{rules, arith}
use Rattle.msb_paths.proofs.PartLaws.{folder_ends, folder_boundary}
use Rattle.msb_paths.proofs.names.folder_len.Goals as goal

pub returns-then-is_separator-clause-value : goal.returns-then-is_separator-clause-value
returns-then-is_separator-clause-value c =
    folder_ends c.args.text.now c.loop-end.end c.loop-end.invariant.0 c.loop-end.invariant.1
    (λ _. search rules)

pub returns-then-is_separator-clause-boundary : goal.returns-then-is_separator-clause-boundary
returns-then-is_separator-clause-boundary c =
    folder_boundary c.args.text.now c.loop-end.end c.utf8.text c.loop-end.invariant.0
    (λ _. search rules)

pub returns-clause-value : goal.returns-clause-value
returns-clause-value c =
    folder_ends c.args.text.now 0 (omega arith)
    (λ k above below. c.loop-end.invariant.1 k (omega arith) below)
    (λ some. absurd (omega arith))

pub returns-clause-boundary : goal.returns-clause-boundary
returns-clause-boundary c = folder_boundary c.args.text.now 0 c.utf8.text (omega arith)
    (λ some. absurd (omega arith))
