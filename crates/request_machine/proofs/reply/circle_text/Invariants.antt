use Rattle.std.proofs.Common.{◌≡◌, ◌∷◌, ◌++◌, drop, codes}
use Rattle.std.specs.List.{flat_map}
use Rattle.request_machine.proofs.reply.circle_text.Given as goal

abbrev pub invariant-loop-name : goal.invariant-loop-name
invariant-loop-name l = l.text ++ flat_map (λ name. 32 ∷ name) (drop l.name-index l.names)
    ≡ codes "circular targets" ++ flat_map (λ name. 32 ∷ name) l.names
