use Rattle.std.proofs.Common.{◌≡◌, ◌++◌, map, filter, not, drop}
use Rattle.build_world.specs.Elements.{seen_element}
use Rattle.msb_items.specs.Metadata.{attribute_metadata, is_one_of}
use Rattle.msb_items.specs.Seen.{metadata_of, reserved_of}
use Rattle.msb_items.proofs.metadata.push_attributes.Given as goal

abbrev pub invariant-loop-name : goal.invariant-loop-name
invariant-loop-name l =
    map metadata_of l.written.items ++ map (attribute_metadata (seen_element l.element))
    (filter (λ pair. not (is_one_of (reserved_of l.kind) pair.0))
    (drop l.name-index l.name-items))
    ≡ map metadata_of l.initial.written.items
    ++ map (attribute_metadata (seen_element l.element))
    (filter (λ pair. not (is_one_of (reserved_of l.kind) pair.0)) l.name-items)
