use Rattle.std.proofs.Common.{◌≡◌, ◌++◌, ◌∷◌, [], length, None, ◌∙◌, ap, rules}
use Rattle.target_order.specs.Progress.{number_of}
use Rattle.target_order.proofs.Names.{numbered_push}
use Rattle.target_order.proofs.numbers.Numbers.add.Goals as goal

pub invariant_of-self-2 : goal.invariant_of-self-2
invariant_of-self-2 c =
    let names = c.self.inside.names.items in
    let key_is : c.in_ok-key.key ≡ c.args.name.now = search rules in
    let held_is : c.in_ok-held.held ≡ c.args.name.now = search rules in
    let len_is : c.len.result ≡ length names = search rules in
    let pushed : c.push.new.self.items ≡ names ++ c.args.name.now ∷ [] = search rules in
    let absent : number_of names c.args.name.now
    ≡ None = ap (λ ns. number_of ns c.args.name.now) c.self.view_is ∙ c.requires in
    rw pushed
    (numbered_push names c.args.name.now c.self.inside.by_name c.insert.new.self
    c.self.invariant absent (λ q. rw (← key_is, ← len_is) (c.in_ok-insert.ensures.updates.0 q)))
