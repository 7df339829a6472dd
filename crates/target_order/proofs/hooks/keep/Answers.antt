use Rattle.std.proofs.Common.{
  ◌≡◌,
  ◌++◌,
  ◌∷◌,
  [],
  true,
  false,
  None,
  map,
  sym,
  ap,
  ◌∙◌,
  subst,
  rules,
}
use Rattle.std.specs.Prelude.{is_some}
use Rattle.std.specs.Borrow.{Bor}
use Rattle.std.proofs.lemmas.List.{map-append}
use Rattle.target_order.specs.declared.row.TargetRow.{TargetRow}
use Rattle.target_order.specs.Progress.{number_of}
use Rattle.target_order.specs.Table.{names_in, AreDistinct}
use Rattle.target_order.proofs.Starting.{kept_new, kept_old, not_some, distinct_push}
use Rattle.target_order.proofs.hooks.keep.Goals as goal

pub returns-then-is_some-clause-firsts : goal.returns-then-is_some-clause-firsts
returns-then-is_some-clause-firsts c =
    let rows = map (λ (x : Bor TargetRow). x.now) c.args.firsts.now.items in
    let name = c.args.row.now.name in
    let value = c.find.ensures.value in
    let names = ap (λ ns. number_of ns name) c.requires.names in
    let held = c.is_some.ensures in
    let yes = c.if-is_some.true in
    let some : is_some (number_of (names_in rows) name) ≡ true = cc in
    sym (kept_old rows c.args.row.now some)

pub returns-clause-firsts : goal.returns-clause-firsts
returns-clause-firsts c =
    let rows = map (λ (x : Bor TargetRow). x.now) c.args.firsts.now.items in
    let name = c.args.row.now.name in
    let value = c.find.ensures.value in
    let names = ap (λ ns. number_of ns name) c.requires.names in
    let held = c.is_some.ensures in
    let no = c.if-is_some.false in
    let unset : is_some c.find.result ≡ false = cc in
    let none = not_some c.find.result unset in
    let new : number_of (names_in rows) name ≡ None = cc in
    let pushed : c.push.new.self.items ≡ c.args.firsts.now.items ++ c.args.row
    ∷ [] = search rules in
    ap (map (λ (x : Bor TargetRow). x.now)) pushed
    ∙ (map-append (λ (x : Bor TargetRow). x.now) c.args.firsts.now.items (c.args.row ∷ [])
    ∙ sym (kept_new rows c.args.row.now new))

pub returns-clause-distinct : goal.returns-clause-distinct
returns-clause-distinct c =
    let name = c.args.row.now.name in
    let value = c.find.ensures.value in
    let held = c.is_some.ensures in
    let no = c.if-is_some.false in
    let unset : is_some c.find.result ≡ false = cc in
    let none = not_some c.find.result unset in
    let new : number_of c.args.numbers.now name ≡ None = cc in
    subst AreDistinct (sym c.in_ok-add.ensures.ok)
    (distinct_push c.args.numbers.now name c.requires.distinct new)
