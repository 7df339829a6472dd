use Rattle.std.proofs.Common.{◌<◌, ◌≤◌, drop, arith, ◌⊎◌, inl, inr}
use Rattle.std.specs.Prelude.{IfOk}
use Rattle.std.proofs.lemmas.Bool.{cases_lt}
use Rattle.msb_expression.proofs.StepPlaces.{leads_same}
use Rattle.msb_expression.proofs.NamePlaces.{Refuses-same}
use Rattle.msb_expression.proofs.CallPlaces.{
  spaces_cut,
  loose_there,
  blank_there,
  stop_there,
  no_space_there,
  grows_there,
  ok_so,
}
use Rattle.msb_expression.proofs.calls.unquoted_argument.Goals as goal

pub loose-requires-clause-cut : goal.loose-requires-clause-cut
loose-requires-clause-cut c =
    spaces_cut c.args.text.now c.args.at c.args.start c.utf8.text c.requires.cut c.requires.order
    c.requires.within c.requires.spaces

pub returns-then-is_missing : goal.returns-then-is_missing
returns-then-is_missing c =
    let b = c.is_missing.ensures.some c.if-is_missing.true in
    record {
      leads =
          λ a w. Refuses-same c.args.text.now _ _ _
          (blank_there a c.args.text.now c.args.at c.args.start b.0 b.1 w) c.refusal.ensures;
      after = tt;
      within = tt;
      no_space = tt;
    }

pub returns-clause-leads : goal.returns-clause-leads
returns-clause-leads c = λ a w.
    let r = c.requires in
    leads_same c.args.text.now _ _ _ _
    (loose_there a c.args.text.now c.args.at c.args.start w r.order r.within r.spaces r.no_space
    r.no_quote
    (λ e. grows_there c.args.at c.args.start _ r.order
    (c.is_missing.ensures.none c.if-is_missing.false) e))
    (c.loose.ensures.leads a)

pub returns-clause-after : goal.returns-clause-after
returns-clause-after c = by (cases_lt c.args.at c.args.start)
  where
    by : (c.args.at < c.args.start) ⊎ (c.args.start ≤ c.args.at)
        → IfOk c.loose.result (λ found. c.args.at < found.1)
    by (inl l) = ok_so c.loose.result _ _ (λ found h. omega arith) c.loose.ensures.after
    by (inr g) = ok_so c.loose.result _ _ (λ found h. omega arith)
        (c.loose.ensures.moves (λ s.
        let l =
        grows_there c.args.at c.args.start _ c.requires.order
        (c.is_missing.ensures.none c.if-is_missing.false)
        (stop_there (drop c.args.start c.args.text.now) s) in
        omega arith))

pub returns-clause-no_space : goal.returns-clause-no_space
returns-clause-no_space c =
    ok_so c.loose.result _ _ (λ found h. no_space_there (drop found.1 c.args.text.now) h)
    c.loose.ensures.stops
