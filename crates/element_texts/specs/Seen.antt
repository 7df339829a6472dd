-- What the code's contexts are, as they are defined.
use Rattle.std.specs.Prelude.{List, option_map, option_copied}
use Rattle.msb_laws.specs.Words.{Path}
use Rattle.element_texts.specs.declared.context.ElementContext as code
use Rattle.element_texts.specs.Contexts.{ElementContext}

-- by what files a view of them has
abbrev pub context_of : {F : Type 0} → (F → List Path) → code.ElementContext F → ElementContext
context_of files p = record {
  files = files p.files.now;
  project = p.project.now;
  scope = p.scope.now;
  usage = p.usage;
  own = option_map (λ own. (own.0.now, own.1.now)) p.own;
  bucket = option_copied p.bucket;
}
