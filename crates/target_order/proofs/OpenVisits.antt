-- Open visits, the outer ones in chunks: what is read, taken and noted of them.
use Rattle.std.proofs.Common.{
  ◌≡◌,
  ℕ,
  suc,
  ◌-◌,
  ◌*◌,
  ◌/◌,
  ◌%◌,
  ◌<◌,
  ◌≤◌,
  List,
  [],
  ◌∷◌,
  ◌++◌,
  length,
  get_or,
  take,
  drop,
  set,
  refl,
  sym,
  ap,
  ◌∙◌,
  arith,
  append_assoc,
  length-append,
  div-add-mod',
}
use Rattle.std.proofs.Math.Seq.{take-append-add}
use Rattle.std.proofs.lemmas.List.{
  take-append-drop,
  length-take-le,
  get_or_read,
  get_or_append_left,
  get_or-append_right,
  set-append_right,
  length-drop,
}
use Rattle.std.proofs.lemmas.Nat.{mod_below}
use Rattle.target_order.specs.declared.visits.Step.{Step}
use Rattle.target_order.specs.declared.visits.OpenVisit.{OpenVisit}
use Rattle.target_order.specs.Chunks.{joined, AreOf}
use Rattle.target_order.specs.OpenVisits.{AreOpen}
use Rattle.target_order.specs.Search.{visit_at}
use Rattle.target_order.specs.Steps.{noted, noted_visit}
use Rattle.target_order.proofs.Chunks.{
  joined_read,
  joined_more,
  more_full,
  take_full,
  joined_take,
  at_chunk,
}

module _ (outer : List (List OpenVisit)) (inner : List OpenVisit) (count : ℕ)
    (are : AreOpen outer inner count) where
  -- how many stand in chunks
  pub in_chunks : count - length inner ≡ length (joined outer)
  in_chunks = let h = are.counted in omega (arith, length-append (joined outer) inner)

  pub read_outer : (at : ℕ) → at < length (joined outer) → (d : OpenVisit)
      → get_or (joined outer ++ inner) at d ≡ get_or (get_or outer (at / 32) []) (at % 32) d
  read_outer at lt d = get_or_append_left (joined outer) inner d at lt
      ∙ joined_read 32 (omega arith) outer are.full at lt d

  -- the innermost visit is replaced
  pub set_top : (v : OpenVisit) → 0 < count → joined outer ++ set inner (length inner - 1) v
      ≡ set (joined outer ++ inner) (length (joined outer ++ inner) - 1) v
  set_top v some =
      let h = are.some some in
      let l = length-append (joined outer) inner in
      let index : length (joined outer ++ inner) - 1 - length (joined outer)
      ≡ length inner - 1 = omega arith in
      sym
      (set-append_right (joined outer) inner (length (joined outer))
      (length (joined outer ++ inner) - 1) v refl (omega arith)
      ∙ ap (λ n. joined outer ++ set inner n v) index)

  pub top_at : 0 < count → (d : OpenVisit) → get_or inner (length inner - 1) d
      ≡ get_or (joined outer ++ inner) (length (joined outer ++ inner) - 1) d
  top_at some d =
      let h = are.some some in
      let l = length-append (joined outer) inner in
      let index : length (joined outer ++ inner) - 1 - length (joined outer)
      ≡ length inner - 1 = omega arith in
      sym
      (get_or-append_right (joined outer) inner (length (joined outer))
      (length (joined outer ++ inner) - 1) d refl (omega arith)
      ∙ ap (λ n. get_or inner n d) index)

  -- a place of the innermost visit is noted
  pub note_top : (step : Step) (passed : ℕ) (v : OpenVisit) (last : ℕ) → last ≡ length inner - 1
      → v ≡ get_or inner last v → 0 < count →
      joined outer ++ set inner last (noted_visit v step passed)
      ≡ noted (joined outer ++ inner) (length (joined outer ++ inner)) step passed
  note_top step passed v last same read some =
      let all = joined outer ++ inner in
      let h = are.some some in
      let n : suc (length all - 1) ≡ length all = omega (arith, length-append (joined outer) inner)
      in
      let at : v ≡ visit_at all (length all - 1) = get_or_read inner (length inner - 1) v
      (omega arith) (read ∙ ap (λ m. get_or inner m v) same) _ ∙ top_at some _ in
      ap (λ m. joined outer ++ set inner m (noted_visit v step passed)) same
      ∙ (set_top (noted_visit v step passed) some
      ∙ (ap (λ u. set all (length all - 1) (noted_visit u step passed)) at
      ∙ ap (λ m. noted all m step passed) n))

  -- the first of the inner visits are put into a chunk
  pub filled : 32 ≤ length inner → joined (outer ++ take 32 inner ∷ []) ++ drop 32 inner
      ≡ joined outer ++ inner
  filled h =
      ap (λ xs. xs ++ drop 32 inner) (joined_more outer (take 32 inner))
      ∙ (append_assoc (joined outer) (take 32 inner) (drop 32 inner)
      ∙ ap (λ xs. joined outer ++ xs) (take-append-drop 32 inner))

  pub filled_are : 64 ≤ length inner → AreOpen (outer ++ take 32 inner ∷ []) (drop 32 inner) count
  filled_are h = record {
    full = more_full 32 outer (take 32 inner) are.full (length-take-le 32 inner (omega arith));
    counted = are.counted ∙ ap length (sym (filled (omega arith)));
    some = λ some. omega (arith, length-drop 32 inner);
  }

-- the first visits, some of them in no chunk
pub through_inner : (outer : List (List OpenVisit)) (inner : List OpenVisit) (depth : ℕ)
    → length (joined outer) < depth → joined outer ++ take (depth - length (joined outer)) inner
    ≡ take depth (joined outer ++ inner)
through_inner outer inner depth h =
    sym (take-append-add (joined outer) inner (depth - length (joined outer)))
    ∙ ap (λ n. take n (joined outer ++ inner)) (omega arith)

-- the first visits of some chunks
module _ (chunks : List (List OpenVisit)) (full : AreOf 32 chunks) (depth : ℕ) (some : 0 < depth)
    (deep : depth ≤ length (joined chunks)) where
  abbrev q : ℕ
  q = (depth - 1) / 32

  abbrev r : ℕ
  r = depth - q * 32

  pub chunk_at : (depth - 1) / 32 < length chunks
  chunk_at = at_chunk 32 (omega arith) chunks full (depth - 1) (omega arith)

  pub rest_some : 0 < depth - (depth - 1) / 32 * 32
  rest_some = omega (arith, div-add-mod' (depth - 1) 32, mod_below (depth - 1) 32 (omega arith))

  pub rest_few : depth - (depth - 1) / 32 * 32 ≤ 32
  rest_few = omega (arith, div-add-mod' (depth - 1) 32, mod_below (depth - 1) 32 (omega arith))

  pub rest_length : length
      (take (depth - (depth - 1) / 32 * 32) (get_or chunks ((depth - 1) / 32) []))
      ≡ depth - (depth - 1) / 32 * 32
  rest_length = length-take-le _ (get_or chunks q [])
      (let l = full q chunk_at in let few = rest_few in omega arith)

  pub through_taken : joined (take ((depth - 1) / 32) chunks)
      ++ take (depth - (depth - 1) / 32 * 32) (get_or chunks ((depth - 1) / 32) [])
      ≡ take depth (joined chunks)
  through_taken =
      joined_take 32 chunks full q r chunk_at rest_few
      ∙ ap (λ n. take n (joined chunks))
      (omega (arith, div-add-mod' (depth - 1) 32, mod_below (depth - 1) 32 (omega arith)))

  pub through_are : AreOpen (take ((depth - 1) / 32) chunks)
      (take (depth - (depth - 1) / 32 * 32) (get_or chunks ((depth - 1) / 32) [])) depth
  through_are = record {
    full = take_full 32 q chunks full (let at = chunk_at in omega arith);
    counted = sym (ap length through_taken ∙ length-take-le depth (joined chunks) deep);
    some = λ h. let l = rest_length in let s = rest_some in omega arith;
  }
