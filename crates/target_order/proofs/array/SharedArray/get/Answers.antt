use Rattle.std.proofs.Common.{◌≡◌, ◌<◌, ◌/◌, ◌%◌, [], length, get_or, sym, ap, ◌∙◌, subst, arith}
use Rattle.std.proofs.lemmas.List.{get_or_read}
use Rattle.target_order.proofs.Chunks.{at_chunk, in_chunk, joined_read}
use Rattle.target_order.proofs.array.SharedArray.get.Goals as goal

pub bounds-as_slice-index : goal.bounds-as_slice-index
bounds-as_slice-index g c =
    let w = c.self.inside.width in
    let chunks = c.self.inside.chunks in
    let i = c.args.index in
    let held : c.as_slice.result.now ≡ chunks = c.as_slice.ensures ∙ c.get.ensures in
    let lt = subst (λ xs. i < length xs) (sym c.self.view_is) c.requires in
    subst (λ cs. i / w < length cs) (sym held)
    (at_chunk w c.self.invariant.some chunks c.self.invariant.full i lt)

pub offset_bounds-as_slice-index : goal.offset_bounds-as_slice-index
offset_bounds-as_slice-index g c = let lt = bounds-as_slice-index g c in omega arith

pub bounds-chunk-index : goal.bounds-chunk-index
bounds-chunk-index g c =
    let w = c.self.inside.width in
    let chunks = c.self.inside.chunks in
    let i = c.args.index in
    let held : c.as_slice.result.now ≡ chunks = c.as_slice.ensures ∙ c.get.ensures in
    let lt = subst (λ xs. i < length xs) (sym c.self.view_is) c.requires in
    let chunk = get_or_read chunks (i / w) _
    (at_chunk w c.self.invariant.some chunks c.self.invariant.full i lt)
    (c.index-as_slice-index.is ∙ ap (λ cs. get_or cs (i / w) c.index-as_slice-index.result)
    held) [] in
    subst (λ xs. i % w < length xs) (sym (c.as_slice-chunk.ensures ∙ (c.get-2.ensures ∙ chunk)))
    (in_chunk w c.self.invariant.some chunks c.self.invariant.full i lt)

pub offset_bounds-chunk-index : goal.offset_bounds-chunk-index
offset_bounds-chunk-index g c = let lt = bounds-chunk-index g c in omega arith

pub returns : goal.returns
returns g c = λ default.
    let w = c.self.inside.width in
    let chunks = c.self.inside.chunks in
    let i = c.args.index in
    let held : c.as_slice.result.now ≡ chunks = c.as_slice.ensures ∙ c.get.ensures in
    let lt = subst (λ xs. i < length xs) (sym c.self.view_is) c.requires in
    let chunk = get_or_read chunks (i / w) _
    (at_chunk w c.self.invariant.some chunks c.self.invariant.full i lt)
    (c.index-as_slice-index.is ∙ ap (λ cs. get_or cs (i / w) c.index-as_slice-index.result)
    held) [] in
    get_or_read _ (i % w) _ (in_chunk w c.self.invariant.some chunks c.self.invariant.full i lt)
    (c.index-chunk-index.is ∙ ap (λ xs. get_or xs (i % w) c.index-chunk-index.result)
    (c.as_slice-chunk.ensures ∙ (c.get-2.ensures ∙ chunk))) default
    ∙ (sym (joined_read w c.self.invariant.some chunks c.self.invariant.full i lt default)
    ∙ ap (λ xs. get_or xs i default) c.self.view_is)
