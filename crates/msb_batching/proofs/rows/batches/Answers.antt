use Rattle.std.proofs.Common.{◌≡◌, ◌+◌, ◌∷◌, ◌++◌, [], map, drop, sym, ap, ◌∙◌, arith}
use Rattle.std.proofs.lemmas.Grind.{common_steps}
use Rattle.std.proofs.lemmas.List.{map-append}
use Rattle.msb_laws.specs.Results.{map_ok, all_ok}
use Rattle.msb_expand.specs.Scenes.{scene_of}
use Rattle.msb_batching.specs.Growing.{spoken_of}
use Rattle.msb_batching.specs.Rows.{pairs_of}
use Rattle.msb_batching.specs.Values.{batch_of, batches_of}
use Rattle.msb_batching.proofs.Traversing.{
  all_ok-map,
  map_ok-same,
  read_more,
  read_fails,
  handed_on,
}
use Rattle.msb_batching.proofs.rows.batches.Goals as goal

pub loop-kind-init : goal.loop-kind-init
loop-kind-init c =
    let f = batch_of (scene_of c.args.lens.now) (spoken_of c.args.mentions.now) in
    ap (all_ok f)
    (sym c.in_ok-kinds.ensures ∙ ap (map (λ kind. kind.now))
    (sym c.deref-kind-items.ensures.value))
    ∙ all_ok-map f (λ kind. kind.now) c.deref-kind-items.result.now
    ∙ sym (map_ok-same _)
    ∙ ap
    (λ made. map_ok (λ more. map pairs_of made ++ more)
    (all_ok (λ kind. f kind.now) c.deref-kind-items.result.now))
    (sym c.new-batches.ensures.items)

pub loop-kind-preserved : goal.loop-kind-preserved
loop-kind-preserved c =
    let f = batch_of (scene_of c.args.lens.now) (spoken_of c.args.mentions.now) in
    let rest = drop (c.loop-kind.kind-index + 1) c.deref-kind-items.result.now in
    let here : drop c.loop-kind.kind-index c.deref-kind-items.result.now
    ≡ c.kind-item.result ∷ rest = grind (arith, common_steps) in
    let made = map pairs_of c.loop-kind.batches.items in
    read_more (λ kind. f kind.now)
    (batches_of (scene_of c.args.lens.now) (spoken_of c.args.mentions.now)) made
    c.kind-item.result rest (pairs_of c.in_ok-read_batch.field-0)
    (c.loop-kind.invariant
    ∙ ap (λ ks. map_ok (λ more. made ++ more) (all_ok (λ kind. f kind.now) ks)) here)
    c.in_ok-read_batch.ensures
    ∙ ap (λ new. map_ok (λ more. new ++ more) (all_ok (λ kind. f kind.now) rest))
    (sym (ap (map pairs_of) c.in_ok-push.ensures.items
    ∙ map-append pairs_of c.loop-kind.batches.items (c.in_ok-read_batch.field-0 ∷ [])))

pub returns-in_err-read_batch : goal.returns-in_err-read_batch
returns-in_err-read_batch c =
    let f = batch_of (scene_of c.args.lens.now) (spoken_of c.args.mentions.now) in
    let rest = drop (c.loop-kind.kind-index + 1) c.deref-kind-items.result.now in
    let here : drop c.loop-kind.kind-index c.deref-kind-items.result.now
    ≡ c.kind-item.result ∷ rest = grind (arith, common_steps) in
    let made = map pairs_of c.loop-kind.batches.items in
    handed_on (λ batches. map pairs_of batches.items)
    (batches_of (scene_of c.args.lens.now) (spoken_of c.args.mentions.now))
    c.from_residual-in_err-read_batch.result c.in_err-read_batch.field-0.0
    c.from_residual-in_err-read_batch.ensures.1 (
    read_fails (λ kind. f kind.now)
    (batches_of (scene_of c.args.lens.now) (spoken_of c.args.mentions.now)) made
    c.kind-item.result rest c.in_err-read_batch.field-0.0
    (c.loop-kind.invariant
    ∙ ap (λ ks. map_ok (λ more. made ++ more) (all_ok (λ kind. f kind.now) ks)) here)
    c.in_err-read_batch.ensures)
