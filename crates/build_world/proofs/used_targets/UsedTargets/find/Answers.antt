use Rattle.std.proofs.Common.{◌≡◌, ◌∙◌, List, map, Option, Some, None, ap, option_map}
use Rattle.std.specs.HashMap.{get_by_text}
use Rattle.std.specs.List.{find}
use Rattle.std.specs.Option.{option_and_then}
use Rattle.std.specs.Prelude.{slice_get}
use Rattle.std.specs.Str.{bytes_eq}
use Rattle.build_world.specs.Instances.{seen_target}
use Rattle.build_world.specs.Places.{place_of}
use Rattle.build_world.specs.declared.instance.UsedTarget.{UsedTarget}
use Rattle.build_world.proofs.Placing.{find_seen, found_there}
use Rattle.build_world.proofs.used_targets.UsedTargets.find.Goals as goal

seen_there : (name : List _) (targets all : List UsedTarget) (place : Option _)
    → place ≡ place_of name targets → targets ≡ all
    → option_map seen_target (option_and_then (slice_get targets) place)
    ≡ find (λ t. bytes_eq t.name name) (map seen_target all)
seen_there name targets all place there same =
    ap (λ at. option_map seen_target (option_and_then (slice_get targets) at)) there
    ∙ ap (option_map seen_target) (found_there name targets)
    ∙ find_seen seen_target (λ t. bytes_eq t.name name) targets
    ∙ ap (λ l. find (λ t. bytes_eq t.name name) (map seen_target l)) same

pub returns-in-Some : goal.returns-in-Some
returns-in-Some c =
    ap (option_map seen_target) c.get-in-Some.ensures
    ∙ seen_there c.args.name.now c.self.inside.targets c.args.self.now (Some c.in-Some.place.now)
    (c.in-Some.ensures.value
    ∙ (ap (get_by_text c.self.inside.places) c.key.ensures ∙ c.self.invariant c.args.name.now))
    c.self.view_is

pub returns-in-None : goal.returns-in-None
returns-in-None c = seen_there c.args.name.now c.self.inside.targets c.args.self.now None
    (c.in-None.ensures.value
    ∙ (ap (get_by_text c.self.inside.places) c.key.ensures ∙ c.self.invariant c.args.name.now))
    c.self.view_is
