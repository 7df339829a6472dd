-- A walk that goes on with its answer is its request's own again.
use Rattle.std.proofs.Common.{◌≡◌, ◌<◌, ◌+◌, ◌^◌, ℕ, List, length, Some, ap, sym, ◌∙◌, subst, arith}
use Rattle.std.proofs.Math.Logic.{∥∥₁_elim, ∥∥₁_map}
use Rattle.std.proofs.Math.Bridge.{le_prop}
use Rattle.std.proofs.Math.Nat.{ℕ_set}
use Rattle.std.proofs.Props.{props}
use Rattle.std.specs.Prelude.{IsSome, is_some}
use Rattle.result_cache.specs.declared.run.RunId.{RunId}
use Rattle.result_cache.specs.declared.record.Record.{Record}
use Rattle.result_cache.specs.Table.{Records, found}
use Rattle.build_meaning.specs.declared.event.Event.{Event}
use Rattle.build_meaning.specs.World.{World}
use Rattle.build_scheduler.specs.declared.walker.Answer.{Answer}
use Rattle.build_scheduler.specs.declared.walker.Answer.TheVariants.{First}
use Rattle.build_scheduler.specs.Learnt.{ArePartOf}
use Rattle.build_scheduler.specs.Own.{Seen, IsWith, IsOwn, IsOut}
use Rattle.build_scheduler.specs.Position.{answered, IsInTurn}
use Rattle.build_scheduler.proofs.HistoryFacts.{some-prop, in_order-prop}

shared-prop : (part table : Records) (p q : (run : RunId) (made : Record)
    → found part run ≡ Some made → found table run ≡ Some made) → p ≡ q
shared-prop part table = hlevel props

part-prop : (part table : Records) (p q : ArePartOf part table) → p ≡ q
part-prop part table p q =
    let a : p.in_order ≡ q.in_order = in_order-prop part p.in_order q.in_order in
    let b : p.shared ≡ q.shared = shared-prop part table p.shared q.shared in λ i.
    record { in_order = a i; shared = b i }

turn-prop : (asked : ℕ) (answer : Answer) (p q : IsInTurn asked answer) → p ≡ q
turn-prop asked First p q = ℕ_set asked 0 p q
turn-prop asked _ p q = le_prop p q

module _ {P I A : Type 0} (w : World P I A) (events : List Event) (table : Records) (id : ℕ)
    (walk : Seen P I A) where
  module _ (answer : Answer) (out : ∥ IsOut w events table id walk answer ∥₁) where
    pub known-of : ArePartOf walk.learnt table
    known-of = ∥∥₁_elim out (part-prop walk.learnt table) (λ o. o.learnt)

    pub fits-of : IsSome (answered walk.world table walk.position answer)
    fits-of = ∥∥₁_elim out (some-prop (answered walk.world table walk.position answer)) (λ o.
        ap is_some (ap (λ v. answered v table walk.position answer) o.world ∙ o.goes))

    pub turn-of : IsInTurn walk.asked answer
    turn-of = ∥∥₁_elim out (turn-prop walk.asked answer) (λ o. o.turn)

    -- a place that fits the world fits the walk's, and one that fits the walk's fits the world
    pub fits-walk : (Fits : World P I A → Type 0) →
        ((v : World P I A) (a b : Fits v) → a ≡ b) → Fits w → Fits walk.world
    fits-walk Fits once fits = ∥∥₁_elim out (once walk.world) (λ o. subst Fits (sym o.world) fits)

    pub fits-world : (Fits : World P I A → Type 0) →
        ((v : World P I A) (a b : Fits v) → a ≡ b) → Fits walk.world → Fits w
    fits-world Fits once fits = ∥∥₁_elim out (once w) (λ o. subst Fits o.world fits)

    pub room-of : length events < 2 ^ 63 → walk.asked < 2 ^ 63
    room-of l = ∥∥₁_elim out (λ p q. le_prop p q)
        (λ o. let f : walk.asked < length events = o.few in omega arith)

    -- the walk after its answer is the request's own
    pub own-of : (next : Seen P I A) → next.world ≡ walk.world
        → answered walk.world table walk.position answer ≡ Some next.position
        → next.asked ≡ walk.asked + 1 → ArePartOf next.learnt table
        → ∥ IsOwn w events table id next ∥₁
    own-of next same goes asked known = ∥∥₁_map out (λ o.
        let e : Some o.next ≡ Some next.position = sym o.goes
        ∙ (ap (λ v. answered v table walk.position answer) (sym o.world) ∙ goes) in
        let there : o.next ≡ next.position = cc in record {
          stands = subst (λ p. IsWith w events id p) there o.stands;
          world = same ∙ o.world;
          learnt = known;
          asked = omega arith;
          few = let f : walk.asked < length events = o.few in omega arith;
        })
