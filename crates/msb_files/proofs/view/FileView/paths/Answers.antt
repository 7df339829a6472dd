use Rattle.std.proofs.Common.{◌≡◌, ℕ, List, is_some, ap, ◌∙◌, rules}
use Rattle.std.specs.List.{filter}
use Rattle.std.proofs.lemmas.Fn.{filter_same}
use Rattle.msb_files.specs.Views.{content, paths_met}
use Rattle.msb_files.proofs.ViewSteps.{if_ok_is}
use Rattle.msb_files.proofs.view.FileView.paths.Goals as goal

pub returns : goal.returns
returns c =
    let view = c.args.self.now in
    let live = λ (path : List ℕ). is_some (content view path) in
    let met : c.add_files.new.all.keys ≡ paths_met view = search rules in
    if_ok_is c.list.result _ _ c.list.ensures
    (filter_same _ live _ (λ x b f k. (search rules, search rules)) c.add_files.new.all.keys
    c.retain.new.self.keys c.retain.ensures.filtered ∙ ap (filter live) met)
