use Rattle.std.proofs.Common.{rules, ◌≡◌, length, refl, arith, slice_set}
use Rattle.std.proofs.Math.Bridge.{le_prop}
use Rattle.std.proofs.Math.Logic.{∥∥₁_elim, ∥∥₁_map}
use Rattle.std.specs.Prelude.{vec_len}
use Rattle.build_scheduler.proofs.SlotNumbers.{listed-prop, listed-at, woken-indexed}
use Rattle.build_scheduler.proofs.result.wake.Goals as goal

pub index_mut-requires : goal.index_mut-requires
index_mut-requires g c =
    let n : vec_len c.args.waiting.now ≡ length c.args.waiting.now.items = search rules in
    ∥∥₁_elim c.requires.indexed (λ p q. le_prop p q)
    (λ x. omega (arith, n, x.lists, c.requires.there))

pub wake_listed-requires : goal.wake_listed-requires
wake_listed-requires g c =
    ∥∥₁_elim c.requires.indexed
    (listed-prop c.args.id c.args.slots.now.items c.args.ready.now
    c.index_mut.result.now.numbers) (λ x.
    listed-at c.args.id c.args.slots.now.items c.args.ready.now c.args.waiting.now.items
    c.index_mut.result.now c.index_mut.result.now c.requires.there c.index_mut.ensures.value x)

pub returns-clause-indexed : goal.returns-clause-indexed
returns-clause-indexed g c =
    ∥∥₁_map c.requires.indexed
    (λ x. woken-indexed c.args.id c.args.slots.now.items c.wake_listed.new.slots.items
    c.args.ready.now c.wake_listed.new.ready c.args.waiting.now.items
    (slice_set c.args.waiting.now.items c.args.id c.wake_listed.new.waiting)
    c.wake_listed.new.waiting c.requires.there c.wake_listed.ensures.slots refl
    c.wake_listed.ensures.waiting c.wake_listed.ensures.listed x)
