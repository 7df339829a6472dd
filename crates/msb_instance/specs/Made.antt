-- What the targets that the code makes are.
use Rattle.std.specs.Prelude.{List, Result}
use Rattle.std.specs.List.{list_any}
use Rattle.std.specs.Str.{bytes_eq}
use Rattle.msb_laws.specs.Words.{Name, Path}
use Rattle.file_store.specs.Files.{paths_of}
use Rattle.file_store.specs.declared.tree.Tree.{Tree}
use Rattle.target_order.specs.declared.row.TargetRow.{TargetRow}
use Rattle.build_world.specs.declared.fault.EvalFault.{EvalFault}
use Rattle.build_world.specs.declared.instance.UsedTarget.{UsedTarget}
use Rattle.build_world.specs.declared.laid_out.Placed.{Placed}
use Rattle.build_world.specs.Elements.{seen_placed}
use Rattle.element_texts.specs.Contexts.{ElementContext}
use Rattle.element_texts.specs.Seen.{context_of}
use Rattle.element_texts.specs.declared.context.ElementContext as code
use Rattle.msb_instance.specs.Targets.{Target, row_of}

-- what the texts of a project see, by a tree of files
abbrev pub seen_context : code.ElementContext Tree → ElementContext
seen_context context = context_of (λ tree. paths_of tree.files) context

-- a name with its element, as a map holds them
abbrev pub target_in : Name × Placed → Target
target_in entry = record { name = entry.0; element = seen_placed entry.1 }

-- the same where it is known which files have Returns
abbrev pub made_of : List Path → Name × Placed → UsedTarget
made_of files entry = record
    { name = entry.0; at = entry.1; file_has_returns = list_any (bytes_eq entry.1.file) files }

-- the name and the element of a target
abbrev pub target_seen : UsedTarget → Target
target_seen target = record { name = target.name; element = seen_placed target.at }

abbrev pub row_for : ElementContext → UsedTarget → Result TargetRow EvalFault
row_for p target = row_of p (target_seen target)
