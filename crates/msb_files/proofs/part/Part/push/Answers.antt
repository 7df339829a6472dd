use Rattle.std.proofs.Common.{◌≡◌, ◌++◌, [], ◌∷◌, reverse, sym, ap, ◌∙◌, rules}
use Rattle.std.proofs.lemmas.List.{reverse-append}
use Rattle.result_cache.specs.Journal.{has}
use Rattle.msb_files.proofs.part.Part.push.Goals as goal

pub invariant_of-self-2 : goal.invariant_of-self-2
invariant_of-self-2 c =
    let entries = c.self.inside.entries.items in
    let e = c.args.entry in
    let pushed : c.push.new.self.items ≡ entries ++ e ∷ [] = search rules in
    rw pushed (λ m. c.in_ok-insert_mark.ensures.ok (reverse entries) c.self.invariant m
    ∙ ap (has m) (sym (reverse-append entries (e ∷ []))))
