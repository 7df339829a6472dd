use Rattle.std.proofs.Common.{◌∙◌, [], ap, sym, fold}
use Rattle.std.specs.List.{list_any}
use Rattle.std.specs.Str.{bytes_eq}
use Rattle.std.specs.Vec.Iter.{into_iter_items}
use Rattle.task_kit.specs.Removed.{is_acted, with_removed}
use Rattle.task_kit.proofs.removed.remove_all.Goals as goal

pub loop-path-init : goal.loop-path-init
loop-path-init c =
    let view = c.args.view.now in
    let left = into_iter_items c.into_iter-path-iterator.result in
    record {
      paths = λ path.
          ap (list_any (bytes_eq path)) c.new-known.ensures.empty
          ∙ ap (λ acts. is_acted acts path) (sym c.new-acts.ensures);
      acts =
          ap (λ acts. fold (with_removed view) acts left) c.new-acts.ensures
          ∙ ap (fold (with_removed view) []) c.into_iter-path-iterator.ensures.into_iter_gives.0;
    }

pub remove-requires : goal.remove-requires
remove-requires c = c.loop-path.invariant.paths

pub loop-path-preserved : goal.loop-path-preserved
loop-path-preserved c =
    let view = c.args.view.now in
    let left = into_iter_items c.next.new.self in
    record {
      paths = c.in_ok-remove.ensures.known;
      acts =
          ap (λ acts. fold (with_removed view) acts left) c.in_ok-remove.ensures.acts
          ∙ ap (fold (with_removed view) c.loop-path.acts) (sym c.in-Some.ensures.steps.0)
          ∙ c.loop-path.invariant.acts;
    }
