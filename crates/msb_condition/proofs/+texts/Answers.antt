use Rattle.msb_condition.proofs.TextLaws.{or_parts, and_parts, put_all, put_one, put_two}
use Rattle.msb_condition.proofs.+texts.Goals as goal

pub condition::Cond::push_texts-returns-in_ok-push_texts-in-Or :
    goal.condition::Cond::push_texts-returns-in_ok-push_texts-in-Or
condition::Cond::push_texts-returns-in_ok-push_texts-in-Or t c =
    put_all c.push_all_texts.result _ _ _ c.deref.result.now c.deref-in-Or.result.now
    c.args.self.now
    (or_parts c.args.self.now c.in-Or.first c.in-Or.others c.deref.result.now
    c.deref-in-Or.result.now c.in-Or.is c.deref.ensures c.deref-in-Or.ensures.value)
    c.in_ok-push_texts-in-Or.ensures
    c.push_all_texts.ensures

pub condition::Cond::push_texts-returns-in_ok-push_texts-in-And :
    goal.condition::Cond::push_texts-returns-in_ok-push_texts-in-And
condition::Cond::push_texts-returns-in_ok-push_texts-in-And t c =
    put_all c.push_all_texts-in-And.result _ _ _ c.deref-in-And.result.now
    c.deref-in-And-2.result.now c.args.self.now
    (and_parts c.args.self.now c.in-And.first c.in-And.others c.deref-in-And.result.now
    c.deref-in-And-2.result.now c.in-And.is c.deref-in-And.ensures
    c.deref-in-And-2.ensures.value)
    c.in_ok-push_texts-in-And.ensures
    c.push_all_texts-in-And.ensures

pub condition::Cond::push_texts-returns-in_ok-push-in-Compare-2 :
    goal.condition::Cond::push_texts-returns-in_ok-push-in-Compare-2
condition::Cond::push_texts-returns-in_ok-push-in-Compare-2 t c =
    put_two c.args.texts.now.items c.push.new.self.items c.push-in-Compare.new.self.items
    c.expr.result c.expr-in-Compare.result c.args.self.now c.in-Compare.field-0
    c.in-Compare.left c.in-Compare.right
    c.in-Compare.is c.in_ok-push-in-Compare.ensures.items c.in_ok-push-in-Compare-2.ensures.items
    c.expr.ensures c.expr-in-Compare.ensures

pub condition::Cond::push_texts-returns-in_ok-push-in-Truth :
    goal.condition::Cond::push_texts-returns-in_ok-push-in-Truth
condition::Cond::push_texts-returns-in_ok-push-in-Truth t c =
    put_one c.args.texts.now.items c.push-in-Truth.new.self.items c.expr-in-Truth.result
    c.args.self.now c.in-Truth.operand c.in-Truth.is c.in_ok-push-in-Truth.ensures.items
    c.expr-in-Truth.ensures
