-- The tests that tell records apart hold exactly of equal ones.
use Rattle.std.proofs.Common.{◌≡◌, true, false, ◌&&◌, ◌==◌, refl, ap, ◌∙◌}
use Rattle.std.specs.Bool.{Decides}
use Rattle.std.specs.Cmp.{unsigned_Decides}
use Rattle.std.specs.Str.{bytes_eq}
use Rattle.std.proofs.lemmas.Slice.Eq.{bytes_eq-Decides}
use Rattle.std.specs.Cmp.Lexicographic.{pointwise, pointwise_decides}
use Rattle.msb_values.specs.Equal.{same_pairs, same_item}
use Rattle.msb_values.specs.declared.item.Item.{Item}
use Rattle.msb_values.specs.declared.change.Change.{Change}
use Rattle.msb_values.specs.declared.change.Change.TheVariants.{
  SetProp,
  AddItems,
  RemoveItems,
  SetMeta,
}
use Rattle.msb_values.specs.declared.note.Note.{Note}
use Rattle.msb_values.specs.declared.note.Note.TheVariants.{Low, Message, Warning, Fail}
use Rattle.msb_values.specs.declared.act.Act.{Act}
use Rattle.msb_values.specs.declared.act.Act.TheVariants.{Write, Remove}
use Rattle.msb_values.specs.declared.put.Put.{Put}
use Rattle.result_cache.specs.declared.record.Decision.{Decision}
use Rattle.result_cache.specs.declared.record.Decision.TheVariants.{
  Ran,
  UpToDate,
  NothingToDo,
  Part,
  Failed,
}
use Rattle.result_cache.specs.declared.record.Record.{Record}
use Rattle.result_cache.specs.declared.record.Segment.{Segment}
use Rattle.result_cache.specs.declared.record.Segment.TheVariants.{File, Call}
use Rattle.result_cache.specs.Exact.{both, into, pair-exact, truth-exact, run-exact, key-exact}
use Rattle.result_cache.specs.Same.{same_run, same_truth, same_key}
use Rattle.result_cache.specs.SameRecords.{
  same_put,
  same_act,
  same_note,
  same_change,
  same_decision,
  same_segment,
  same_record,
}

-- a test that fails, of different things
apart : {P : Type 0} → (P → false ≡ true) → Decides false P
apart f = ((λ h. absurd (cc)), f)

item-exact : (a b : Item) → Decides (same_item a b) (a ≡ b)
item-exact a b = into (same_item a b)
    (λ h. ap (λ x. record { ident = x; recursive = a.recursive; meta = a.meta }) h.0
    ∙ (ap (λ y. record { ident = b.ident; recursive = y; meta = a.meta }) h.1.0
    ∙ ap (λ z. record { ident = b.ident; recursive = b.recursive; meta = z }) h.1.1))
    (λ h. (
      ap (λ (x : Item). x.ident) h,
      (ap (λ (x : Item). x.recursive) h, ap (λ (x : Item). x.meta) h),
    ))
    (both (bytes_eq a.ident b.ident) (bytes_eq a.recursive b.recursive && same_pairs a.meta b.meta)
    (bytes_eq-Decides a.ident b.ident)
    (both (bytes_eq a.recursive b.recursive) (same_pairs a.meta b.meta)
    (bytes_eq-Decides a.recursive b.recursive) (pointwise_decides pair-exact a.meta b.meta)))

put-exact : (a b : Put) → Decides (same_put a b) (a ≡ b)
put-exact a b = into (same_put a b)
    (λ h. ap (λ x. record { path = x; bytes = a.bytes }) h.0
    ∙ ap (λ y. record { path = b.path; bytes = y }) h.1)
    (λ h. (ap (λ (x : Put). x.path) h, ap (λ (x : Put). x.bytes) h))
    (both (bytes_eq a.path b.path) (bytes_eq a.bytes b.bytes) (bytes_eq-Decides a.path b.path)
    (bytes_eq-Decides a.bytes b.bytes))

act-exact : (a b : Act) → Decides (same_act a b) (a ≡ b)
act-exact (Write a) (Write b) = into (same_put a b) (λ h. ap Write h) (λ h. cc) (put-exact a b)
act-exact (Write a) (Remove b) = apart (λ h. cc)
act-exact (Remove a) (Write b) = apart (λ h. cc)
act-exact (Remove a) (Remove b) = into (bytes_eq a b) (λ h. ap Remove h) (λ h. cc)
    (bytes_eq-Decides a b)

note-exact : (a b : Note) → Decides (same_note a b) (a ≡ b)
note-exact (Low n) (Low m) = into (bytes_eq n m) (λ h. ap Low h) (λ h. cc) (bytes_eq-Decides n m)
note-exact (Low n) (Message m) = apart (λ h. cc)
note-exact (Low n) (Warning m) = apart (λ h. cc)
note-exact (Low n) (Fail m) = apart (λ h. cc)
note-exact (Message n) (Low m) = apart (λ h. cc)
note-exact (Message n) (Message m) = into (bytes_eq n m) (λ h. ap Message h) (λ h. cc)
    (bytes_eq-Decides n m)
note-exact (Message n) (Warning m) = apart (λ h. cc)
note-exact (Message n) (Fail m) = apart (λ h. cc)
note-exact (Warning n) (Low m) = apart (λ h. cc)
note-exact (Warning n) (Message m) = apart (λ h. cc)
note-exact (Warning n) (Warning m) = into (bytes_eq n m) (λ h. ap Warning h) (λ h. cc)
    (bytes_eq-Decides n m)
note-exact (Warning n) (Fail m) = apart (λ h. cc)
note-exact (Fail n) (Low m) = apart (λ h. cc)
note-exact (Fail n) (Message m) = apart (λ h. cc)
note-exact (Fail n) (Warning m) = apart (λ h. cc)
note-exact (Fail n) (Fail m) = into (bytes_eq n m) (λ h. ap Fail h) (λ h. cc) (bytes_eq-Decides n m)

change-exact : (a b : Change) → Decides (same_change a b) (a ≡ b)
change-exact (SetProp n a) (SetProp m b) = into (bytes_eq n m && bytes_eq a b)
    (λ h. ap (λ x. SetProp x a) h.0 ∙ ap (λ y. SetProp m y) h.1) (λ h. (cc, cc))
    (both (bytes_eq n m) (bytes_eq a b) (bytes_eq-Decides n m) (bytes_eq-Decides a b))
change-exact (SetProp n a) (AddItems m b) = apart (λ h. cc)
change-exact (SetProp n a) (RemoveItems m b) = apart (λ h. cc)
change-exact (SetProp n a) (SetMeta m b q) = apart (λ h. cc)
change-exact (AddItems n a) (SetProp m b) = apart (λ h. cc)
change-exact (AddItems n a) (AddItems m b) = into (bytes_eq n m && pointwise same_item a b)
    (λ h. ap (λ x. AddItems x a) h.0 ∙ ap (λ y. AddItems m y) h.1) (λ h. (cc, cc))
    (both (bytes_eq n m) (pointwise same_item a b) (bytes_eq-Decides n m)
    (pointwise_decides item-exact a b))
change-exact (AddItems n a) (RemoveItems m b) = apart (λ h. cc)
change-exact (AddItems n a) (SetMeta m b q) = apart (λ h. cc)
change-exact (RemoveItems n a) (SetProp m b) = apart (λ h. cc)
change-exact (RemoveItems n a) (AddItems m b) = apart (λ h. cc)
change-exact (RemoveItems n a) (RemoveItems m b) = into (bytes_eq n m && pointwise bytes_eq a b)
    (λ h. ap (λ x. RemoveItems x a) h.0 ∙ ap (λ y. RemoveItems m y) h.1) (λ h. (cc, cc))
    (both (bytes_eq n m) (pointwise bytes_eq a b) (bytes_eq-Decides n m)
    (pointwise_decides bytes_eq-Decides a b))
change-exact (RemoveItems n a) (SetMeta m b q) = apart (λ h. cc)
change-exact (SetMeta n a p) (SetProp m b) = apart (λ h. cc)
change-exact (SetMeta n a p) (AddItems m b) = apart (λ h. cc)
change-exact (SetMeta n a p) (RemoveItems m b) = apart (λ h. cc)
change-exact (SetMeta n a p) (SetMeta m b q) = into
    (bytes_eq n m && (pointwise same_item a b && same_pairs p q))
    (λ h. ap (λ x. SetMeta x a p) h.0
    ∙ (ap (λ y. SetMeta m y p) h.1.0 ∙ ap (λ z. SetMeta m b z) h.1.1)) (λ h. (cc, (cc, cc)))
    (both (bytes_eq n m) (pointwise same_item a b && same_pairs p q) (bytes_eq-Decides n m)
    (both (pointwise same_item a b) (same_pairs p q) (pointwise_decides item-exact a b)
    (pointwise_decides pair-exact p q)))

pub decision-exact : (a b : Decision) → Decides (same_decision a b) (a ≡ b)
decision-exact Ran Ran = (λ h. refl, λ h. refl)
decision-exact Ran UpToDate = apart (λ h. cc)
decision-exact Ran NothingToDo = apart (λ h. cc)
decision-exact Ran (Part m b) = apart (λ h. cc)
decision-exact Ran Failed = apart (λ h. cc)
decision-exact UpToDate Ran = apart (λ h. cc)
decision-exact UpToDate UpToDate = (λ h. refl, λ h. refl)
decision-exact UpToDate NothingToDo = apart (λ h. cc)
decision-exact UpToDate (Part m b) = apart (λ h. cc)
decision-exact UpToDate Failed = apart (λ h. cc)
decision-exact NothingToDo Ran = apart (λ h. cc)
decision-exact NothingToDo UpToDate = apart (λ h. cc)
decision-exact NothingToDo NothingToDo = (λ h. refl, λ h. refl)
decision-exact NothingToDo (Part m b) = apart (λ h. cc)
decision-exact NothingToDo Failed = apart (λ h. cc)
decision-exact (Part n a) Ran = apart (λ h. cc)
decision-exact (Part n a) UpToDate = apart (λ h. cc)
decision-exact (Part n a) NothingToDo = apart (λ h. cc)
decision-exact (Part n a) (Part m b) = into ((n == m) && (a == b))
    (λ h. ap (λ x. Part x a) h.0 ∙ ap (λ y. Part m y) h.1) (λ h. (cc, cc))
    (both (n == m) (a == b) (unsigned_Decides n m) (unsigned_Decides a b))
decision-exact (Part n a) Failed = apart (λ h. cc)
decision-exact Failed Ran = apart (λ h. cc)
decision-exact Failed UpToDate = apart (λ h. cc)
decision-exact Failed NothingToDo = apart (λ h. cc)
decision-exact Failed (Part m b) = apart (λ h. cc)
decision-exact Failed Failed = (λ h. refl, λ h. refl)

pub segment-exact : (a b : Segment) → Decides (same_segment a b) (a ≡ b)
segment-exact (File n) (File m) = into (same_act n m) (λ h. ap File h) (λ h. cc) (act-exact n m)
segment-exact (File n) (Call m b) = apart (λ h. cc)
segment-exact (Call n a) (File m) = apart (λ h. cc)
segment-exact (Call n a) (Call m b) = into (same_key n m && pointwise same_run a b)
    (λ h. ap (λ x. Call x a) h.0 ∙ ap (λ y. Call m y) h.1) (λ h. (cc, cc))
    (both (same_key n m) (pointwise same_run a b) (key-exact n m) (pointwise_decides run-exact a b))

pub record-exact : (a b : Record) → Decides (same_record a b) (a ≡ b)
unfolding same_record
record-exact a b = into (same_truth a.ok b.ok
    && (pointwise same_decision a.decisions b.decisions
    && (pointwise same_item a.items b.items
    && (pointwise same_change a.changes b.changes
    && (pointwise same_note a.notes b.notes && (pointwise same_segment a.segments b.segments))))))
    (λ h.
    ap
    (λ x.
    record {
      ok = x;
      decisions = a.decisions;
      items = a.items;
      changes = a.changes;
      notes = a.notes;
      segments = a.segments;
    }) h.0
    ∙ (ap
    (λ x.
    record {
      ok = b.ok;
      decisions = x;
      items = a.items;
      changes = a.changes;
      notes = a.notes;
      segments
          = a.segments;
    }) h.1.0
    ∙ (ap
    (λ x.
    record {
      ok = b.ok;
      decisions = b.decisions;
      items = x;
      changes = a.changes;
      notes = a.notes;
      segments = a.segments;
    }) h.1.1.0
    ∙ (ap
    (λ x.
    record {
      ok = b.ok;
      decisions = b.decisions;
      items = b.items;
      changes = x;
      notes = a.notes;
      segments = a.segments;
    }) h.1.1.1.0
    ∙ (ap
    (λ x.
    record {
      ok = b.ok;
      decisions = b.decisions;
      items = b.items;
      changes = b.changes;
      notes = x;
      segments = a.segments;
    }) h.1.1.1.1.0
    ∙ (ap
    (λ x.
    record {
      ok = b.ok;
      decisions = b.decisions;
      items = b.items;
      changes = b.changes;
      notes = b.notes;
      segments = x;
    }) h.1.1.1.1.1))))))
    (λ h. (
      ap (λ (x : Record). x.ok) h,
      (
        ap (λ (x : Record). x.decisions) h,
        (
          ap (λ (x : Record). x.items) h,
          (
            ap (λ (x : Record). x.changes) h,
            (ap (λ (x : Record). x.notes) h, (ap (λ (x : Record). x.segments) h)),
          ),
        ),
      ),
    ))
    (both (same_truth a.ok b.ok) (pointwise same_decision a.decisions b.decisions
    && (pointwise same_item a.items b.items
    && (pointwise same_change a.changes b.changes
    && (pointwise same_note a.notes b.notes
    && (pointwise same_segment a.segments b.segments))))) (truth-exact a.ok b.ok)
    (both (pointwise same_decision a.decisions b.decisions)
    (pointwise same_item a.items b.items
    && (pointwise same_change a.changes b.changes
    && (pointwise same_note a.notes b.notes && (pointwise same_segment a.segments b.segments))))
    (pointwise_decides decision-exact a.decisions b.decisions)
    (both (pointwise same_item a.items b.items)
    (pointwise same_change a.changes b.changes
    && (pointwise same_note a.notes b.notes && (pointwise same_segment a.segments b.segments)))
    (pointwise_decides item-exact a.items b.items)
    (both (pointwise same_change a.changes b.changes)
    (pointwise same_note a.notes b.notes && (pointwise same_segment a.segments b.segments))
    (pointwise_decides change-exact a.changes b.changes)
    (both (pointwise same_note a.notes b.notes) (pointwise same_segment a.segments b.segments)
    (pointwise_decides note-exact a.notes b.notes)
    (pointwise_decides segment-exact a.segments b.segments))))))
