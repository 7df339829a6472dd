use Rattle.std.proofs.Common.{◌∷◌, map, length, refl, sym, ap, ◌∙◌, subst, arith}
use Rattle.std.specs.List.{fold}
use Rattle.msb_condition.specs.Leads.{run_at, step_at, bytes_in}
use Rattle.msb_condition.specs.Machine.{and_of, or_of, done, unary_step}
use Rattle.msb_condition.specs.Places.{tokens_at, token_in}
use Rattle.msb_condition.specs.Reading.{IsRefused}
use Rattle.msb_condition.specs.Trees.{either, both}
use Rattle.msb_condition.specs.View.{tree_of}
use Rattle.msb_condition.proofs.ChainLaws.{and_step, or_step, settle, fold_push, map_push, wants_at}
use Rattle.msb_condition.proofs.groups.+or.Goals as goal

pub more_and-loop-next-preserved : goal.more_and-loop-next-preserved
more_and-loop-next-preserved t c =
    let s = c.in-Some.ensures.some in
    record {
      after = omega (arith, s.after, c.in_ok-other.ensures.after);
      within = c.in_ok-other.ensures.within;
      runs = λ frames left room takes.
          let tree = fold both left (map tree_of c.loop-next.others.items) in
          c.loop-next.invariant.runs frames left room takes
          ∙ and_step c.args.text.now c.loop-next.end c.in-Some.next frames tree s
          ∙ c.in_ok-other.ensures.leads (and_of tree ∷ frames) room refl
          ∙ ap (λ x. run_at c.args.text.now c.in_ok-other.behind frames (done x))
          (sym
          (fold_push both left (map tree_of c.loop-next.others.items)
          (tree_of c.in_ok-other.other))
          ∙ ap (fold both left) (sym (map_push tree_of c.loop-next.others.items c.in_ok-other.other)
          ∙ ap (map tree_of) (sym c.in_ok-push.ensures.items)));
    }

pub more_or-loop-next-preserved : goal.more_or-loop-next-preserved
more_or-loop-next-preserved t c =
    let s = c.in-Some.ensures.some in
    record {
      after = omega (arith, s.after, c.in_ok-other.ensures.after);
      within = c.in_ok-other.ensures.within;
      no_and = c.in_ok-other.ensures.no_and;
      runs = λ frames left room takes.
          let tree = fold either left (map tree_of c.loop-next.others.items) in
          c.loop-next.invariant.runs frames left room takes
          ∙ or_step c.args.text.now c.loop-next.end c.in-Some.next frames tree takes s
          ∙ c.in_ok-other.ensures.leads (or_of tree ∷ frames) room refl
          ∙ settle (length c.args.text.now) (tokens_at c.in_ok-other.behind c.args.text.now) frames
          tree (tree_of c.in_ok-other.other) takes c.in_ok-other.ensures.no_and
          ∙ ap (λ x. run_at c.args.text.now c.in_ok-other.behind frames (done x))
          (sym
          (fold_push either left (map tree_of c.loop-next.others.items)
          (tree_of c.in_ok-other.other))
          ∙ ap (fold either left)
          (sym (map_push tree_of c.loop-next.others.items c.in_ok-other.other)
          ∙ ap (map tree_of) (sym c.in_ok-push.ensures.items)));
    }

pub unary-returns-in-Compare-clause-leads : goal.unary-returns-in-Compare-clause-leads
unary-returns-in-Compare-clause-leads t c = λ frames room w.
    let token = c.in-Some.token in
    let bytes = bytes_in c.args.text.now token in
    subst (IsRefused c.no_left_side.result)
    (ap (λ k. step_at c.args.text.now (unary_step frames k token.start bytes) token.end)
    (sym c.in-Compare.is)
    ∙ sym
    (wants_at c.args.text.now c.args.at (token_in c.args.text.now token) token.end frames
    c.in-Some.ensures.next w))
    (c.no_left_side.ensures frames c.args.text.now bytes token.end room)
