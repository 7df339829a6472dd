use Rattle.std.proofs.Common.{◌≡◌, Some, cond, is_some, string_bytes, ap, ◌∙◌, sym}
use Rattle.std.specs.HashMap.{get_by_text}
use Rattle.std.specs.Str.{bytes_eq}
use Rattle.std.proofs.lemmas.Map.Text.{hash_map_updates_text}
use Rattle.std.proofs.lemmas.Slice.Eq.{bytes_eq-Decides}
use Rattle.build_world.proofs.Placing.{none_there, earlier_counts}
use Rattle.build_world.proofs.used_targets.insert_unless_there.Goals as goal

pub returns : goal.returns
returns c =
    let name = c.args.name.now in
    let old = get_by_text c.args.places.now in
    let key_is : string_bytes c.in_ok-from_str.field-0 ≡ name = c.in_ok-from_str.ensures.ok in
    λ other. earlier_counts (bytes_eq name other) (old other) (get_by_text c.insert.new.self other)
    c.args.place
    (λ same.
    none_there (old other)
    (ap (λ p. is_some (old p)) (sym ((bytes_eq-Decides name other).0 same))
    ∙ (sym c.contains_key.ensures ∙ c.if-contains_key.false)))
    (hash_map_updates_text (string_bytes c.in_ok-from_str.field-0) c.args.places.now
    c.insert.new.self _ c.in_ok-insert.ensures.updates other
    ∙ ap (λ bs. cond (bytes_eq bs other) (Some c.args.place) (old other)) key_is)
