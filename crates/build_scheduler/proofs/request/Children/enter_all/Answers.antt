use Rattle.std.proofs.Common.{rules, ◌≡◌, ◌++◌, length, refl, ◌∙◌, ap}
use Rattle.std.specs.Prelude.{vec_len}
use Rattle.build_scheduler.proofs.request.Children.enter_all.Goals as goal

pub returns-clause-slots : goal.returns-clause-slots
returns-clause-slots g c =
    let n : vec_len c.args.slots.now ≡ length c.args.slots.now.items = search rules in
    let m : vec_len c.args.self.slots ≡ length c.args.self.slots.items = search rules in
    record {
      calls = record {
        walk = c.args.caller.walk;
        first = c.len.result;
        «open» = c.len-2.result;
        results = c.args.self.results;
      };
      walk_is = refl;
      first_is = c.len.ensures ∙ n;
      open_are = c.len-2.ensures ∙ m;
      results_are = refl;
      entered = c.append-2.ensures ∙ ap (λ xs. xs ++ c.args.self.slots.items)
          c.put_calls.ensures.slots;
    }
