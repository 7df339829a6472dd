use Rattle.std.proofs.Common.{◌≡◌, ◌++◌, map, drop}
use Rattle.msb_elements.specs.View.{view}
use Rattle.build_world.specs.Elements.{at}
use Rattle.msb_items.specs.Metadata.{child_metadata}
use Rattle.msb_items.specs.Seen.{metadata_of}
use Rattle.msb_items.proofs.metadata.push_children.Given as goal

abbrev pub invariant-loop-child : goal.invariant-loop-child
invariant-loop-child l =
    map metadata_of l.written.items ++ map child_metadata
    (map (at l.element.file.now) (map view (drop l.child-index l.child-items)))
    ≡ map metadata_of l.initial.written.items
    ++ map child_metadata (map (at l.element.file.now) (map view l.child-items))
