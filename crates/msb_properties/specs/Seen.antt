-- What the code's values are, as the pass is defined.
use Rattle.std.specs.Prelude.{◌≡◌, map, Ok}
use Rattle.build_world.specs.Elements.{seen_placed}
use Rattle.msb_properties.specs.Settings.{Setting, setting, Properties, scope_with}
use Rattle.msb_properties.specs.Propertied.{properties_of}
use Rattle.msb_properties.specs.Laid.{Layout}
use Rattle.msb_properties.specs.declared.setting.Setting.{Setting as Given}
use Rattle.msb_properties.specs.declared.properties.Properties.{Properties as Kept}
use Rattle.msb_properties.specs.declared.layout.Layout.{Layout as Laid}

abbrev pub seen_setting : Given → Setting
seen_setting given = setting given.tree.now.files given.key.now

abbrev pub seen_properties : Kept → Properties
seen_properties kept = record { values = kept.scope.props; local = kept.local }

-- the scope holds the global properties and the properties, and no item
abbrev pub IsPlain : Setting → Kept → Type 0
IsPlain s kept = kept.scope ≡ scope_with s (seen_properties kept)

abbrev pub seen_laid : Laid → Layout
seen_laid laid = record {
  elements = map seen_placed laid.elements.items;
  files = laid.files;
  duplicates =
      laid.duplicates;
}

-- the properties that are kept are those of the elements so far
pub record IsKept (s : Setting) (laid : Laid) : Type 0 where
  pub plain : IsPlain s laid.properties
  pub kept : properties_of s (map seen_placed laid.elements.items)
      ≡ Ok (seen_properties laid.properties)
