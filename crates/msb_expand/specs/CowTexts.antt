-- A text that is borrowed from the scope, or one that was made.
use Rattle.msb_laws.specs.Words.{Text}
use Rattle.msb_expand.specs.declared.properties.CowText.{CowText}
use Rattle.msb_expand.specs.declared.properties.CowText.TheVariants.{Borrowed, Owned}

abbrev pub cow_text : CowText → Text
cow_text (Borrowed text) = text.now
cow_text (Owned text) = text
