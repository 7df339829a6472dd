use Rattle.std.proofs.Common.{◌≡◌, None, ap, ◌∙◌}
use Rattle.std.specs.Map.{lookup}
use Rattle.indexmap.proofs.CallerLemmas.{insert_entry-new}
use Rattle.result_cache.specs.Same.{same_run}
use Rattle.result_cache.specs.Table.{found}
use Rattle.result_cache.proofs.RunLists.{lookup-found, records-push}
use Rattle.result_cache.proofs.layer.Layer.push.Goals as goal

pub returns : goal.returns
returns c =
    let index = c.self.inside.index in
    let run = c.args.run.now in
    let key = c.in_ok-copy.field-0 in
    let made = c.in_ok-copy-2.field-0 in
    let absent : lookup (same_run key) index.entries ≡ None =
    lookup-found index.entries key
    ∙ (ap (λ l. found l key) c.self.view_is
    ∙ (ap (found c.args.self.now) c.in_ok-copy.ensures ∙ c.requires)) in
    records-push index.entries c.insert.new.self.entries key run made c.args.made.now
    c.args.self.now
    (c.in_ok-insert.ensures.entries ∙ insert_entry-new same_run index key made absent)
    c.in_ok-copy.ensures c.in_ok-copy-2.ensures c.self.view_is
