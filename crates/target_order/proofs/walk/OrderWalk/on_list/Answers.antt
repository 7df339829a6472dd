use Rattle.std.proofs.Common.{refl, ap, ◌∙◌, subst}
use Rattle.target_order.specs.Progress.{list_at}
use Rattle.target_order.specs.Search.{IsSound}
use Rattle.target_order.proofs.Rest.{is_deep, top_of, hook_end, hook_within}
use Rattle.target_order.proofs.walk.OrderWalk.on_list.Goals as goal

pub top-requires-clause-some : goal.top-requires-clause-some
top-requires-clause-some c = is_deep c.args.self.now c.args.cursor c.requires.cursor
    (hook_within _ _ c.requires.hooks).0

pub list_of-requires-clause-within : goal.list_of-requires-clause-within
list_of-requires-clause-within c = (hook_within _ _ c.requires.hooks).1

pub returns : goal.returns
returns c =
    let p = c.args.self.now in
    let cursor = c.args.cursor in
    let sound = subst (λ q. IsSound q c.self.inside.places) c.self.view_is c.self.invariant in
    let positive = is_deep p cursor c.requires.cursor (hook_within _ _ c.requires.hooks).0 in
    let names = c.list_of.ensures ∙ ap (λ v. list_at p.table v.target v.names c.args.step)
    c.top.ensures.value in
    hook_end p cursor c.requires.cursor _ _ (top_of p cursor c.requires.cursor positive)
    c.requires.ends sound.progress.table _ refl refl names c.list_of.type_inv.0 c.requires.hooks
