use Rattle.std.proofs.Common.{◌∙◌, ap, sym, subst, unwrap_or}
use Rattle.std.specs.BTreeMap.{insert_entry}
use Rattle.std.specs.Cmp.Lexicographic.{slice_cmp}
use Rattle.std.specs.Option.{option_copied_mut}
use Rattle.std.specs.List.Sorted.{IsStrictlySortedBy}
use Rattle.std.specs.Ordering.{nat_cmp}
use Rattle.msb_values.specs.Pairs.{value_at, changed_at}
use Rattle.msb_values.proofs.Lookups.{lookup-value_at, insert-set, set-changed, changed-absent}
use Rattle.msb_values.proofs.name_map.NameMap.replace.Goals as goal
use Rattle.msb_values.proofs.name_map.NameMap.replace.Goals.{in-Some, in-None}

pub returns-clause-had : goal.returns-clause-had
returns-clause-had g c =
    let name = c.args.name.now in
    let value = c.args.value in
    let found = c.get_mut.ensures.value ∙ lookup-value_at name c.self.inside.map.entries
    ∙ ap (value_at name) c.self.view_is in
    elim c.match-get_mut.branch [
      | in-Some w ↦ w.result-is ∙ w.replace.ensures.value
          ∙ sym (ap (λ held. unwrap_or (option_copied_mut held) value) w.in-Some.is)
          ∙ ap (λ held. unwrap_or held value) found
      | in-None w ↦ w.result-is
          ∙ sym (ap (λ held. unwrap_or (option_copied_mut held) value) w.in-None.is)
          ∙ ap (λ held. unwrap_or held value) found
    ]

pub returns-clause-inserted : goal.returns-clause-inserted
returns-clause-inserted g c = λ next. elim c.match-get_mut.branch [
  | in-Some w ↦
      let wrote = c.get_mut.follows.holds w.replace.new.dest in
      let name = c.args.name.now in
      let sorted = subst (IsStrictlySortedBy (slice_cmp nat_cmp)) wrote.1 wrote.4 in
      ap (λ inside. insert_entry (slice_cmp nat_cmp) inside.map.entries name next) w.self-inside-is
      ∙ ap (λ entries. insert_entry (slice_cmp nat_cmp) entries name next) wrote.0
      ∙ insert-set name w.replace.new.dest next c.self.inside.map.entries sorted
      ∙ ap (λ entries. insert_entry (slice_cmp nat_cmp) entries name next) c.self.view_is
  | in-None w ↦
      let name = c.args.name.now in
      ap (λ inside. insert_entry (slice_cmp nat_cmp) inside.map.entries name next) w.self-inside-is
      ∙ ap (λ map. insert_entry (slice_cmp nat_cmp) map.entries name next)
      c.get_mut.follows.holds-at-none
      ∙ ap (λ entries. insert_entry (slice_cmp nat_cmp) entries name next) c.self.view_is
]

pub returns-clause-left : goal.returns-clause-left
returns-clause-left g c =
    let name = c.args.name.now in
    let value = c.args.value in
    elim c.match-get_mut.branch [
      | in-Some w ↦
          ap (λ inside. inside.map.entries) w.self-inside-is
          ∙ (c.get_mut.follows.holds w.replace.new.dest).0
          ∙ set-changed name w.replace.new.dest c.self.inside.map.entries
          ∙ ap (λ next. changed_at name (λ _. next) c.self.inside.map.entries)
          w.replace.ensures.after
          ∙ ap (changed_at name (λ _. value)) c.self.view_is
      | in-None w ↦
          let none = sym (c.get_mut.ensures.value ∙ lookup-value_at name c.self.inside.map.entries
          ∙ ap (value_at name) c.self.view_is) ∙ ap option_copied_mut w.in-None.is in
          ap (λ inside. inside.map.entries) w.self-inside-is
          ∙ ap (λ map. map.entries) c.get_mut.follows.holds-at-none
          ∙ c.self.view_is
          ∙ sym (changed-absent name (λ _. value) c.args.self.now none)
    ]
