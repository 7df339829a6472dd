use Rattle.std.proofs.Common.{◌≡◌, ◌+◌, [], ◌∷◌, ◌++◌, Some, None, take, get_or, refl, ap, ◌∙◌, sym}
use Rattle.std.specs.List.{list_any}
use Rattle.std.specs.Str.{bytes_eq}
use Rattle.std.proofs.lemmas.List.{append-nil}
use Rattle.std.proofs.lemmas.Option.{get_or_from_slice_get, slice_get_within}
use Rattle.msb_values.specs.Acts.{act_path}
use Rattle.msb_files.specs.FinalTree.{last_acts}
use Rattle.msb_files.specs.Views.{acts_of}
use Rattle.msb_files.proofs.Committed.{paths_of_acts, acts_more, keys_more}
use Rattle.msb_files.proofs.Contents.{one_more_act}
use Rattle.msb_files.proofs.committing.last_acts.Goals as goal
use Rattle.msb_files.proofs.committing.last_acts.Goals.{in-Some+in_ok-push_unless_acted, in_default}

pub loop-at-preserved : goal.loop-at-preserved
loop-at-preserved c =
    let journal = c.args.journal.now in
    let at = c.loop-at.at in
    let newer = acts_of (take at journal) in
    let e = c.newest.result.now in
    let within = slice_get_within journal at e c.newest.ensures in
    let more = one_more_act journal at e newer in
    let is : e ≡ get_or journal at e = sym (get_or_from_slice_get journal at e e c.newest.ensures)
    in
    elim c.match-act.branch [
      | in-Some+in_ok-push_unless_acted w ↦ (let act = w.get.result.now in
          let next : newer ++ act ∷ [] ≡ acts_of (take (at + 1) journal) = ap (λ p. newer ++ p ∷ [])
          w.get.ensures ∙ more (Some w.in-Some.act.now) within is refl w.in-Some.ensures in (
            acts_more c.loop-at.paths.keys newer act c.loop-at.acts.items c.match-act.acts.items
                c.loop-at.invariant.0 (c.loop-at.invariant.1 (act_path act))
                (ap (λ v. v.items) w.acts-is ∙ w.in_ok-push_unless_acted.ensures.acts)
                ∙ ap last_acts next,
            λ path. ap (λ (s : _). list_any (bytes_eq path) s.keys) w.paths-is
                ∙ (ap (list_any (bytes_eq path)) w.in_ok-push_unless_acted.ensures.paths
                ∙ (keys_more path c.loop-at.paths.keys newer act (c.loop-at.invariant.1 path)
                ∙ ap (λ ps. list_any (bytes_eq path) (paths_of_acts ps)) next)),
          ))
      | in_default w ↦ (let next : newer ≡ acts_of (take (at + 1) journal) = sym (append-nil newer)
          ∙ more None within is refl w.in_default.ensures in (
            ap (λ v. v.items) w.acts-is ∙ (c.loop-at.invariant.0 ∙ ap last_acts next),
            λ path. ap (λ (s : _). list_any (bytes_eq path) s.keys) w.paths-is
                ∙ (c.loop-at.invariant.1 path
                ∙ ap (λ ps. list_any (bytes_eq path) (paths_of_acts ps))
                next),
          ))
    ]
