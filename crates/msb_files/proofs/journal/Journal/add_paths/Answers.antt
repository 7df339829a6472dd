use Rattle.std.proofs.Common.{◌≡◌, ◌+◌, Some, None, drop, get_or, sym, ap, ◌∙◌}
use Rattle.std.specs.BTreeSet.{insert_key}
use Rattle.std.specs.Cmp.Lexicographic.{slice_cmp}
use Rattle.std.specs.Ordering.{nat_cmp}
use Rattle.std.proofs.lemmas.Option.{get_or_from_slice_get, slice_get_within}
use Rattle.msb_values.specs.Acts.{act_path}
use Rattle.msb_files.specs.Views.{with_paths}
use Rattle.msb_files.proofs.Paths.{paths_in, entry_more}
use Rattle.msb_files.proofs.journal.Journal.add_paths.Goals as goal
use Rattle.msb_files.proofs.journal.Journal.add_paths.Goals.{
  in-Some+in_ok-of+in_ok-insert,
  in_default,
}

pub loop-at-preserved : goal.loop-at-preserved
loop-at-preserved c =
    let journal = c.args.self.now in
    let at = c.loop-at.at in
    let keys = c.loop-at.all.keys in
    let e = c.newest.result.now in
    let within = slice_get_within journal at e c.newest.ensures in
    let is : e ≡ get_or journal at e = sym (get_or_from_slice_get journal at e e c.newest.ensures)
    in
    elim c.match-act.branch [
      | in-Some+in_ok-of+in_ok-insert w ↦ ap
          (λ (s : _). with_paths (paths_in (drop (at + 1) journal)) s.keys) w.all-is
          ∙ (ap (with_paths (paths_in (drop (at + 1) journal)))
          (w.in_ok-insert.ensures.keys ∙ ap (insert_key (slice_cmp nat_cmp) keys)
          (w.in_ok-of.ensures ∙ (w.path.ensures ∙ ap act_path w.get.ensures)))
          ∙ (entry_more journal at e (Some w.in-Some.act.now) keys within is w.in-Some.ensures
          ∙ c.loop-at.invariant))
      | in_default w ↦ ap (λ (s : _). with_paths (paths_in (drop (at + 1) journal)) s.keys) w.all-is
          ∙ (entry_more journal at e None keys within is w.in_default.ensures ∙ c.loop-at.invariant)
    ]
