-- How a text is kept: by itself, or where its copies share it.
use Rattle.std.specs.Prelude.{string_bytes}
use Rattle.msb_laws.specs.Words.{Text}
use Rattle.msb_values.specs.declared.text.KeptText.{KeptText}
use Rattle.msb_values.specs.declared.text.KeptText.TheVariants.{Own, Shared}

abbrev pub bytes_kept : KeptText → Text
bytes_kept (Own string) = string_bytes string
bytes_kept (Shared string) = string_bytes string
