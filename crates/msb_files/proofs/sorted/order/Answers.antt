use Rattle.std.proofs.Common.{ℕ, rules}
use Rattle.std.specs.Cmp.Lexicographic.{slice_cmp}
use Rattle.std.specs.Ordering.{is_lt, nat_cmp}
use Rattle.std.proofs.lemmas.Cmp.{nat_list_cmp_total}
use Rattle.std.proofs.lemmas.Fn.{always_returns_same}
use Rattle.std.proofs.lemmas.List.Sorted.{ranks_by}
use Rattle.msb_files.specs.Places.{path_at}
use Rattle.msb_files.proofs.Finds.{stays_first}
use Rattle.msb_files.proofs.sorted.order.Goals as goal

pub returns : goal.returns
returns c =
    let key = path_at c.args.entries.now in
    let lt = λ (p q : ℕ). is_lt (slice_cmp nat_cmp (key p) (key q)) in
    let order = ranks_by nat_list_cmp_total key in
    record {
      all = c.sort_by.ensures.permutation;
      sorted = c.in_ok-sort_by.ensures.sorted lt order
          (always_returns_same _ _ _ (λ a r f k. (search rules, search rules)));
      first = λ path. stays_first c.args.entries.now path c.args.places.items
          c.sort_by.new.self.items
          (c.sort_by.ensures.stable lt order
          (always_returns_same _ _ _ (λ a r f k. (search rules, search rules))));
    }
