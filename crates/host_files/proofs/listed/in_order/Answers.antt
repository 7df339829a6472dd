use Rattle.std.proofs.Common.{rules, ◌≡◌, ◌-◌, length, true, [], ◌∷◌, ◌++◌, IfSome, ap, ◌∙◌}
use Rattle.std.specs.List.{slice_get}
use Rattle.file_store.specs.Entries.{are_listed_in_order}
use Rattle.file_store.specs.Paths.{is_before}
use Rattle.host_files.proofs.Rising.{rising_next}
use Rattle.host_files.proofs.listed.in_order.Goals as goal

pub loop-entry-preserved : goal.loop-entry-preserved
loop-entry-preserved c =
    let later : IfSome
    (slice_get c.loop-entry.entries.items (length c.loop-entry.entries.items - 1))
    (λ last. is_before last.path c.in-Some.entry.path ≡ true) = search rules in
    let items : c.push-in-loop-entry.new.self.items
    ≡ c.loop-entry.entries.items ++ c.in-Some.entry ∷ [] = search rules in
    ap are_listed_in_order items
    ∙ rising_next c.loop-entry.entries.items c.in-Some.entry c.loop-entry.invariant later
