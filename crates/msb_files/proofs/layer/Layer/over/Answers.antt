use Rattle.std.proofs.Common.{◌≡◌, ◌++◌, reverse, rules}
use Rattle.msb_files.proofs.MarkSteps.{marks_over}
use Rattle.msb_files.proofs.Placed.{by_path_over}
use Rattle.msb_files.proofs.layer.Layer.over.Goals as goal

pub invariant_of-result : goal.invariant_of-result
invariant_of-result c =
    let newer = c.args.self in
    let older = c.args.older.now in
    let entries = c.in_ok-entries.entries.items in
    let is_all : entries ≡ reverse older ++ reverse newer = search rules in
    record {
      paths = by_path_over entries newer older c.len-shift.result
          c.into_parts-newer.result.1.items c.places.result.now
          c.in_ok-by_path.by_path.items is_all c.len-shift.ensures
          c.into_parts-newer.ensures.places c.places.ensures
          (rw (c.deref.ensures.value, c.deref-2.ensures.value) at c.in_ok-by_path.ensures);
      marks = marks_over entries c.entries.result.now newer older c.insert_marks.new.marks
          c.entries.ensures is_all
          (c.in_ok-insert_marks.ensures newer c.into_parts-newer.ensures.marks);
    }
