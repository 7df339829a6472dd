use Rattle.std.proofs.Common.{◌≡◌, [], ◌∷◌, ◌++◌, map, Ok, sym, ap, ◌∙◌}
use Rattle.std.proofs.lemmas.Result.{err_from_is_err_and}
use Rattle.msb_elements.specs.View.{view}
use Rattle.build_world.specs.Elements.{at, seen_placed}
use Rattle.msb_laws.specs.Results.{map_ok}
use Rattle.msb_values.proofs.Causing.{passed_on}
use Rattle.build_world.specs.declared.fault.EvalFault.{EvalFault}
use Rattle.msb_properties.specs.Laid.{with_element}
use Rattle.msb_properties.specs.Propertied.{properties_of, with_element as after}
use Rattle.msb_properties.specs.Seen.{seen_setting, seen_laid, seen_properties}
use Rattle.msb_properties.proofs.Layouts.{one_more, extended_by, seen_more}
use Rattle.msb_properties.proofs.layout.Layout.extend.Goals as goal

pub returns-in_err-take_element-clause-laid : goal.returns-in_err-take_element-clause-laid
returns-in_err-take_element-clause-laid c =
    let p = err_from_is_err_and c.from_residual.result c.from_residual.ensures.1 in
    let l = seen_laid c.args.self.now in
    rw (p.1, p.2)
    (passed_on (λ (f : EvalFault). f.cause) c.in_err-take_element.field-0.0 _ _
    (λ f is. extended_by (seen_setting c.args.setting.now) l
    (at c.args.file.now (view c.args.element)) (seen_properties c.args.self.now.properties)
    c.requires.kept
    ∙ ap (map_ok (λ q. with_element l (at c.args.file.now (view c.args.element))))
    (ap
    (λ f. after (seen_setting c.args.setting.now) (seen_properties c.args.self.now.properties)
    (at f (view c.args.element))) (sym c.as_str.ensures) ∙ is))
    c.in_err-take_element.ensures.taken)

pub returns-clause-laid : goal.returns-clause-laid
returns-clause-laid c =
    let l = seen_laid c.args.self.now in
    let e = at c.args.file.now (view c.args.element) in
    let grown : map seen_placed c.push_element.new.elements.items
    ≡ l.elements ++ e ∷ [] = seen_more c.push_element.new.elements.items
    c.args.self.now.elements.items record { file = c.in_ok-file.file; element = c.args.element }
    c.args.file.now c.in_ok-push_element.ensures c.in_ok-file.ensures in
    extended_by (seen_setting c.args.setting.now) l e (seen_properties c.args.self.now.properties)
    c.requires.kept
    ∙ ap (map_ok (λ q. with_element l e))
    (ap
    (λ f. after (seen_setting c.args.setting.now) (seen_properties c.args.self.now.properties)
    (at f (view c.args.element))) (sym c.as_str.ensures) ∙ c.in_ok-take_element.ensures.taken)
    ∙ ap (λ es. Ok record { elements = es; files = l.files; duplicates = l.duplicates })
    (sym grown)

pub returns-clause-kept : goal.returns-clause-kept
returns-clause-kept c =
    let l = seen_laid c.args.self.now in
    let e = at c.args.file.now (view c.args.element) in
    let grown : map seen_placed c.push_element.new.elements.items
    ≡ l.elements ++ e ∷ [] = seen_more c.push_element.new.elements.items
    c.args.self.now.elements.items record { file = c.in_ok-file.file; element = c.args.element }
    c.args.file.now c.in_ok-push_element.ensures c.in_ok-file.ensures in
    record {
      plain = c.in_ok-take_element.ensures.plain;
      kept = ap (properties_of (seen_setting c.args.setting.now)) grown
          ∙ one_more (seen_setting c.args.setting.now) l.elements e
          (seen_properties c.args.self.now.properties) c.requires.kept
          ∙ (ap
          (λ f. after (seen_setting c.args.setting.now) (seen_properties c.args.self.now.properties)
          (at f (view c.args.element))) (sym c.as_str.ensures)
          ∙ c.in_ok-take_element.ensures.taken);
    }
