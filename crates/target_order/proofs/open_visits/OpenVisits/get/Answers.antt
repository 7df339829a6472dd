use Rattle.std.proofs.Common.{
  ◌≡◌,
  ◌<◌,
  ◌/◌,
  ◌%◌,
  [],
  length,
  get_or,
  sym,
  ap,
  ◌∙◌,
  subst,
  rules,
  arith,
}
use Rattle.std.proofs.lemmas.List.{get_or_read}
use Rattle.target_order.specs.Chunks.{joined}
use Rattle.target_order.specs.Search.{visit_at}
use Rattle.target_order.proofs.Chunks.{at_chunk, in_chunk}
use Rattle.target_order.proofs.OpenVisits.{in_chunks, read_outer}
use Rattle.target_order.proofs.open_visits.OpenVisits.get.Goals as goal

pub bounds-as_slice-at : goal.bounds-as_slice-at
bounds-as_slice-at c =
    let outer = c.self.inside.outer in
    let held : c.as_slice.result.now ≡ outer = c.as_slice.ensures ∙ c.get.ensures in
    let len : c.len.result ≡ length c.self.inside.inner.items = search rules in
    let below : c.args.at < length (joined outer) = let chunks = in_chunks outer
    c.self.inside.inner.items c.self.inside.count c.self.invariant in let h = c.if-at-outer.true
    in omega arith in
    subst (λ cs. c.args.at / 32 < length cs) (sym held)
    (at_chunk 32 (omega arith) outer c.self.invariant.full c.args.at below)

pub bounds-as_slice-at-then-at-outer : goal.bounds-as_slice-at-then-at-outer
bounds-as_slice-at-then-at-outer c =
    let outer = c.self.inside.outer in
    let at = c.args.at in
    let held : c.as_slice.result.now ≡ outer = c.as_slice.ensures ∙ c.get.ensures in
    let len : c.len.result ≡ length c.self.inside.inner.items = search rules in
    let below : at < length (joined outer) = let chunks = in_chunks outer c.self.inside.inner.items
    c.self.inside.count c.self.invariant in let h = c.if-at-outer.true in omega arith in
    let chunk = get_or_read outer (at / 32) _
    (at_chunk 32 (omega arith) outer c.self.invariant.full at below)
    (c.index-as_slice-at.is ∙ ap (λ cs. get_or cs (at / 32) c.index-as_slice-at.result) held) []
    in
    subst (λ xs. at % 32 < length xs)
    (sym (c.as_slice-then-at-outer.ensures ∙ (c.get-then-at-outer.ensures ∙ chunk)))
    (in_chunk 32 (omega arith) outer c.self.invariant.full at below)

pub returns-then-at-outer : goal.returns-then-at-outer
returns-then-at-outer c =
    let outer = c.self.inside.outer in
    let at = c.args.at in
    let held : c.as_slice.result.now ≡ outer = c.as_slice.ensures ∙ c.get.ensures in
    let len : c.len.result ≡ length c.self.inside.inner.items = search rules in
    let below : at < length (joined outer) = let chunks = in_chunks outer c.self.inside.inner.items
    c.self.inside.count c.self.invariant in let h = c.if-at-outer.true in omega arith in
    let chunk = get_or_read outer (at / 32) _
    (at_chunk 32 (omega arith) outer c.self.invariant.full at below)
    (c.index-as_slice-at.is ∙ ap (λ cs. get_or cs (at / 32) c.index-as_slice-at.result) held) []
    in
    get_or_read _ (at % 32) _ (in_chunk 32 (omega arith) outer c.self.invariant.full at below)
    (c.index-as_slice-at-then-at-outer.is
    ∙ ap (λ xs. get_or xs (at % 32) c.index-as_slice-at-then-at-outer.result)
    (c.as_slice-then-at-outer.ensures ∙ (c.get-then-at-outer.ensures ∙ chunk))) _
    ∙ (sym
    (read_outer outer c.self.inside.inner.items c.self.inside.count c.self.invariant at below _)
    ∙ ap (λ vs. visit_at vs at) c.self.view_is)
