use Rattle.std.proofs.Common.{
  ◌≡◌,
  ◌<◌,
  ◌/◌,
  ◌%◌,
  [],
  length,
  get_or,
  set,
  sym,
  ap,
  ◌∙◌,
  subst,
  rules,
  arith,
}
use Rattle.std.specs.Prelude.{vec_len}
use Rattle.std.proofs.lemmas.List.{get_or_read}
use Rattle.target_order.specs.Chunks.{joined}
use Rattle.target_order.proofs.Chunks.{at_chunk, in_chunk, joined_write}
use Rattle.target_order.proofs.array.SharedArray.with.Goals as goal

pub bounds-as_slice-at : goal.bounds-as_slice-at
bounds-as_slice-at g c =
    let w = c.self.inside.width in
    let chunks = c.self.inside.chunks in
    let i = c.args.index in
    let held : c.as_slice.result.now ≡ chunks = c.as_slice.ensures ∙ c.get.ensures in
    let lt = subst (λ xs. i < length xs) (sym c.self.view_is) c.requires in
    subst (λ cs. i / w < length cs) (sym held)
    (at_chunk w c.self.invariant.some chunks c.self.invariant.full i lt)

pub offset_bounds-as_slice-at : goal.offset_bounds-as_slice-at
offset_bounds-as_slice-at g c = let lt = bounds-as_slice-at g c in omega arith

pub index_mut-requires : goal.index_mut-requires
index_mut-requires g c =
    let w = c.self.inside.width in
    let chunks = c.self.inside.chunks in
    let i = c.args.index in
    let held : c.as_slice.result.now ≡ chunks = c.as_slice.ensures ∙ c.get.ensures in
    let lt = subst (λ xs. i < length xs) (sym c.self.view_is) c.requires in
    let chunk = get_or_read chunks (i / w) _
    (at_chunk w c.self.invariant.some chunks c.self.invariant.full i lt)
    (c.index-as_slice-at.is ∙ ap (λ cs. get_or cs (i / w) c.index-as_slice-at.result) held) []
    in
    let entries = c.in_ok-entries.ensures ∙ (c.as_slice-2.ensures ∙ (c.get-2.ensures ∙ chunk)) in
    let len : vec_len c.in_ok-entries.entries
    ≡ length c.in_ok-entries.entries.items = search rules in
    let below = subst (λ xs. i % w < length xs) (sym entries)
    (in_chunk w c.self.invariant.some chunks c.self.invariant.full i lt) in
    omega arith

pub index_mut-requires-2 : goal.index_mut-requires-2
index_mut-requires-2 g c =
    let w = c.self.inside.width in
    let chunks = c.self.inside.chunks in
    let i = c.args.index in
    let lt = subst (λ xs. i < length xs) (sym c.self.view_is) c.requires in
    let copies : c.into_vec-chunks.result.items ≡ chunks = c.into_vec-chunks.ensures
    ∙ (c.in_ok-copy.ensures ∙ c.get-3.ensures) in
    let len : vec_len c.into_vec-chunks.result
    ≡ length c.into_vec-chunks.result.items = search rules in
    let below = subst (λ cs. i / w < length cs) (sym copies)
    (at_chunk w c.self.invariant.some chunks c.self.invariant.full i lt) in
    omega arith

pub returns : goal.returns
returns g c =
    let w = c.self.inside.width in
    let chunks = c.self.inside.chunks in
    let i = c.args.index in
    let held : c.as_slice.result.now ≡ chunks = c.as_slice.ensures ∙ c.get.ensures in
    let lt = subst (λ xs. i < length xs) (sym c.self.view_is) c.requires in
    let chunk = get_or_read chunks (i / w) _
    (at_chunk w c.self.invariant.some chunks c.self.invariant.full i lt)
    (c.index-as_slice-at.is ∙ ap (λ cs. get_or cs (i / w) c.index-as_slice-at.result) held) []
    in
    let entries = c.in_ok-entries.ensures ∙ (c.as_slice-2.ensures ∙ (c.get-2.ensures ∙ chunk)) in
    let copies : c.into_vec-chunks.result.items ≡ chunks = c.into_vec-chunks.ensures
    ∙ (c.in_ok-copy.ensures ∙ c.get-3.ensures) in
    let made = c.in_ok-chunks.ensures
    ∙ (c.from.ensures ∙ ap (λ xs. set xs (i % w) c.args.entry) entries) in
    let all = c.in_ok-new.ensures
    ∙ (c.from-2.ensures
    ∙ (ap (λ cs. set cs (i / w) c.in_ok-chunks.field-0) copies
    ∙ ap (λ x. set chunks (i / w) x) made)) in
    ap joined all
    ∙ (joined_write w c.self.invariant.some chunks c.self.invariant.full i lt c.args.entry
    ∙ ap (λ xs. set xs i c.args.entry) c.self.view_is)
