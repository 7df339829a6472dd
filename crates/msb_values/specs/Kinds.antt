-- Which bytes may follow the first one of a name, by the kind of the name.
use Rattle.std.specs.Prelude.{ℕ, Bool}
use Rattle.msb_values.specs.Names.{is_name_byte, is_target_byte}
use Rattle.msb_values.specs.declared.name.Kind.{Kind}
use Rattle.msb_values.specs.declared.name.Kind.TheVariants.{Plain, Target}

abbrev pub may_follow : Kind → ℕ → Bool
may_follow Plain = is_name_byte
may_follow Target = is_target_byte
