use Rattle.std.proofs.Common.{
  ◌≡◌,
  ◌-◌,
  ◌*◌,
  ◌/◌,
  [],
  ◌++◌,
  length,
  take,
  sym,
  ap,
  ◌∙◌,
  subst,
  arith,
}
use Rattle.std.proofs.lemmas.List.{get_or_read, length-take-le}
use Rattle.target_order.specs.Chunks.{joined}
use Rattle.target_order.specs.OpenVisits.{AreOpen}
use Rattle.target_order.proofs.OpenVisits.{chunk_at, rest_length, through_taken, through_are}
use Rattle.target_order.proofs.open_visits.through_chunks.Goals as goal

pub bounds-chunks-last : goal.bounds-chunks-last
bounds-chunks-last c = chunk_at c.args.chunks.now c.requires.full c.args.depth c.requires.some
    c.requires.deep

pub slice_bounds-inner-length : goal.slice_bounds-inner-length
slice_bounds-inner-length c =
    let chunks = c.args.chunks.now in
    let depth = c.args.depth in
    let chunk = get_or_read chunks ((depth - 1) / 32) _
    (chunk_at chunks c.requires.full depth c.requires.some c.requires.deep)
    c.index-chunks-last.is [] in
    subst (λ xs. depth - (depth - 1) / 32 * 32 ≡ length (take (depth - (depth - 1) / 32 * 32) xs))
    (sym (c.as_slice.ensures ∙ (c.get.ensures ∙ chunk)))
    (sym (rest_length chunks c.requires.full depth c.requires.some c.requires.deep))

pub slice_bounds-of-end : goal.slice_bounds-of-end
slice_bounds-of-end c =
    let chunks = c.args.chunks.now in
    let at = chunk_at chunks c.requires.full c.args.depth c.requires.some c.requires.deep in
    sym (length-take-le ((c.args.depth - 1) / 32) chunks (omega arith))

pub invariant_of-result : goal.invariant_of-result
invariant_of-result c =
    let chunks = c.args.chunks.now in
    let depth = c.args.depth in
    let chunk = get_or_read chunks ((depth - 1) / 32) _
    (chunk_at chunks c.requires.full depth c.requires.some c.requires.deep)
    c.index-chunks-last.is [] in
    let outer = c.in_ok-new.ensures ∙ c.in_ok-of.ensures in
    let inner = c.into_vec.ensures
    ∙ (c.in_ok-of-2.ensures ∙ ap (take (depth - (depth - 1) / 32 * 32))
    (c.as_slice.ensures ∙ (c.get.ensures ∙ chunk))) in
    subst (λ cs. AreOpen cs c.into_vec.result.items depth) (sym outer)
    (subst (λ vs. AreOpen (take ((depth - 1) / 32) chunks) vs depth) (sym inner)
    (through_are chunks c.requires.full depth c.requires.some c.requires.deep))

pub returns : goal.returns
returns c =
    let chunks = c.args.chunks.now in
    let depth = c.args.depth in
    let chunk = get_or_read chunks ((depth - 1) / 32) _
    (chunk_at chunks c.requires.full depth c.requires.some c.requires.deep)
    c.index-chunks-last.is [] in
    let outer = c.in_ok-new.ensures ∙ c.in_ok-of.ensures in
    let inner = c.into_vec.ensures
    ∙ (c.in_ok-of-2.ensures ∙ ap (take (depth - (depth - 1) / 32 * 32))
    (c.as_slice.ensures ∙ (c.get.ensures ∙ chunk))) in
    ap (λ cs. joined cs ++ c.into_vec.result.items) outer
    ∙ (ap (λ vs. joined (take ((depth - 1) / 32) chunks) ++ vs) inner
    ∙ through_taken chunks c.requires.full depth c.requires.some c.requires.deep)
