-- What a node has stays so while the history grows, and whatever shows the world.
use Rattle.std.proofs.Common.{◌≡◌, ℕ, true, List, Option, Some, None, refl, sym, subst}
use Rattle.std.proofs.Math.Logic.{∥∥₁_map, ∥∥₁_map₂}
use Rattle.std.specs.Prelude.{is_some, IsSomeAnd}
use mathlib.Core.List.{IsPrefix}
use Rattle.build_meaning.specs.declared.event.Event.{Event}
use Rattle.build_meaning.specs.World.{World}
use Rattle.build_scheduler.specs.Own.{Seen}
use Rattle.build_scheduler.specs.Position.{Position}
use Rattle.turn_board.proofs.Prefixes.{prefix_self, prefix_trans}
use Rattle.build_nodes.specs.declared.turn.Answered.{Answered}
use Rattle.build_nodes.specs.declared.turn.Asking.{Asking}
use Rattle.build_nodes.specs.declared.turn.Brought.{Brought}
use Rattle.build_nodes.specs.declared.turn.Brought.TheVariants.{Nothing, Walk, Refused}
use Rattle.build_nodes.specs.declared.turn.Next.{Next}
use Rattle.build_nodes.specs.declared.turn.Next.TheVariants.{Missed, Advance, Park}
use Rattle.build_nodes.specs.Turns.{IsAnswered, IsAsking, IsBrought, IsIdle, IsNext}

module _ {W P I A : Type 0} (seen : W → Seen P I A) (earlier : W → Option (Position P I A × ℕ))
    (node : ℕ) (w v : World P I A) (past now : List (Option Event)) where
  asking-later : (a : Asking W) → w ≡ v → IsPrefix past now → IsAsking seen earlier node w past a
      → IsAsking seen earlier node v now a
  asking-later a e p k = subst (λ (v : World P I A). IsAsking seen earlier node v now a) e (record {
    events = k.events;
    table = k.table;
    number = k.number;
    begins = prefix_trans _ _ _ k.begins p;
    active = k.active;
    here = k.here;
    own = k.own;
    back = k.back;
    table_is = k.table_is;
    asks = k.asks;
  })

  idle-later : (number : ℕ) → IsPrefix past now → IsIdle seen earlier node w past number
      → IsIdle seen earlier node v now number
  idle-later number p k = record {
    events = k.events;
    number_is = k.number_is;
    begins = prefix_trans _ _ _ k.begins p;
    active =
        k.active;
  }

  answered-later : (a : Answered W) → w ≡ v → IsPrefix past now
      → IsAnswered seen earlier node w past a → IsAnswered seen earlier node v now a
  answered-later a e p k = subst (λ (v : World P I A). IsAnswered seen earlier node v now a) e
      (record {
        events = k.events;
        table = k.table;
        number = k.number;
        few = k.few;
        begins = prefix_trans _ _ _ k.begins p;
        active = k.active;
        here = k.here;
        out = k.out;
        table_is = k.table_is;
        enough = k.enough;
      })

  pub brought-later : ∥ w ≡ v ∥₁ → IsPrefix past now → (b : Brought W)
      → IsBrought seen earlier node w past b → IsBrought seen earlier node v now b
  brought-later e p (Nothing number) h = ∥∥₁_map h (λ k. idle-later number p k)
  brought-later e p (Walk a) h = ∥∥₁_map₂ e h (λ e k. asking-later a e p k)
  brought-later e p (Refused a) h = ∥∥₁_map₂ e h (λ e k. answered-later a e p k)

module _ {W P I A : Type 0} (seen : W → Seen P I A) (earlier : W → Option (Position P I A × ℕ))
    (node : ℕ) (w v : World P I A) (past : List (Option Event)) where
  pub next-there : ∥ w ≡ v ∥₁ → (next : Option (Next W)) → IsNext seen earlier node w past next
      → IsNext seen earlier node v past next
  next-there e None h = h
  next-there e (Some (Missed b)) h = brought-later seen earlier node w v past past e
      (prefix_self past) b h
  next-there e (Some (Advance a)) h = ∥∥₁_map₂ e h
      (λ e k. subst (λ (v : World P I A). IsAnswered seen earlier node v past a) e k)
  next-there e (Some (Park number)) h = (
    h.0,
    ∥∥₁_map h.1
        (λ k. idle-later seen earlier node w v past past number (prefix_self past) k),
  )

-- what the node does next, by the core that the seat knows
pub next-seated : {W P I A X : Type 0} (seen : W → Seen P I A)
    (earlier : W → Option (Position P I A × ℕ)) (node : ℕ) (first : X) (origin : X → World P I A)
    (world : Option X) (past now : List (Option Event)) (next : Option (Next W)) →
    world ≡ Some first → now ≡ past → IsNext seen earlier node (origin first) past next
    → IsSomeAnd world (λ x. IsNext seen earlier node (origin x) now next)
next-seated seen earlier node first origin world past now next e f h =
    subst (λ o. IsSomeAnd o (λ x. IsNext seen earlier node (origin x) now next)) (sym e)
    (subst (λ l. IsNext seen earlier node (origin first) l next) (sym f) h)

module _ {X : Type 0} where
  pub of-some : (o : Option X) (P : X → Type 0) → IsSomeAnd o P → (x : X) × (o ≡ Some x) × P x
  of-some (Some x) P h = (x, refl, h)
  of-some None P h = absurd h

  pub and-some : (o : Option X) (P Q : X → Type 0) → ((x : X) → P x → Q x) → IsSomeAnd o P
      → IsSomeAnd o Q
  and-some (Some x) P Q f h = f x h
  and-some None P Q f h = absurd h

  pub some-true : (o : Option X) (P : X → Type 0) → ((x : X) → P x) → is_some o ≡ true
      → IsSomeAnd o P
  some-true (Some x) P f e = f x
  some-true None P f e = absurd (cc)
