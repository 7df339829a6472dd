-- The seats of nodes are joined to one, from the last node on.
use Rattle.std.proofs.Common.{
  ◌≡◌,
  ◌+◌,
  ℕ,
  false,
  true,
  List,
  [],
  ◌∷◌,
  ◌++◌,
  take,
  Option,
  All,
  refl,
  sym,
  subst,
  ◌∙◌,
  arith,
}
use Rattle.std.proofs.lemmas.List.Elements.{All-take}
use mathlib.Core.List.{IsPrefix}
use Rattle.build_meaning.specs.declared.event.Event.{Event}
use Rattle.turn_board.specs.Seats.{SeatFacts}
use Rattle.turn_board.proofs.Prefixes.{prefix_self, prefix_trans}
use Rattle.build_nodes.specs.Leaving.{has_left}
use Rattle.build_nodes.proofs.Leaves.{left-stays}
use Rattle.build_nodes.proofs.Seated.{JoinedBehind, joined-more, joined-none}

module _ {W N : Type 0} (P : N → Type 0) (number : N → ℕ) where
  -- of so many nodes these few remain, the front of all, of which a fact is true, and the nodes
  -- behind them have left by what the seat has seen
  abbrev pub IsJoining : SeatFacts W (Option Event) → SeatFacts W (Option Event) → List N → List N
      → ℕ → ℕ → Type 0
  IsJoining first now all rest many few = (now.board ≡ first.board) × (now.world ≡ first.world)
      × (now.has_state ≡ false) × (now.share + few ≡ first.share + many) × All P rest
      × IsPrefix first.seen now.seen
      × JoinedBehind (λ n. has_left (number n) now.seen ≡ true) all rest

  pub joining-none : (first : SeatFacts W (Option Event)) (all : List N) (many : ℕ)
      → first.has_state ≡ false → All P all → IsJoining first first all all many many
  joining-none first all many home h = (
    refl,
    refl,
    home,
    refl,
    h,
    prefix_self _,
    joined-none (λ n. has_left (number n) first.seen ≡ true) all,
  )

  -- the last of them is joined
  pub joining-more : (first was now : SeatFacts W (Option Event)) (all rest next : List N) (n : N)
      (many few less at : ℕ) → IsJoining first was all rest many few → rest ≡ next ++ n ∷ []
      → next ≡ take at rest → few ≡ less + 1 → now.board ≡ was.board → now.world ≡ was.world
      → now.has_state ≡ false → now.share ≡ was.share + 1 → IsPrefix was.seen now.seen
      → has_left (number n) now.seen ≡ true → IsJoining first now all next many less
  joining-more first was now all rest next n many few less at j e t f board world home share p left
      = let sum = j.3 in (
        board ∙ j.0,
        world ∙ j.1,
        home,
        omega arith,
        subst (All P) (sym t) (All-take P _ _ j.4),
        prefix_trans _ _ _ j.5 p,
        joined-more (λ n. has_left (number n) was.seen ≡ true)
            (λ n. has_left (number n) now.seen ≡ true) all rest next n
            (λ n h. left-stays (number n) _ _ p h) e j.6 left,
      )
