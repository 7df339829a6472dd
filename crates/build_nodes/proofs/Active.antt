-- A node that has not retired.
use Rattle.std.proofs.Common.{
  ◌≡◌,
  ◌||◌,
  ℕ,
  zero,
  suc,
  true,
  false,
  List,
  [],
  ◌∷◌,
  ◌++◌,
  length,
  drop,
  Option,
  Some,
  None,
  refl,
  ap,
  sym,
  ◌∙◌,
}
use Rattle.std.specs.List.{list_any}
use Rattle.std.proofs.Math.Logic.{∥∥₁_elim, ∥∥₁_map}
use Rattle.std.proofs.lemmas.List.{append-nil}
use Rattle.std.proofs.Props.{props}
use Rattle.std.specs.Prelude.{is_some}
use Rattle.build_meaning.specs.declared.event.Event.{Event}
use Rattle.build_meaning.specs.declared.event.Event.TheVariants.{Claim, Request, Result, Done}
use Rattle.build_meaning.specs.World.{World}
use Rattle.build_scheduler.specs.declared.slot.End.{End}
use Rattle.build_scheduler.specs.Own.{Seen}
use Rattle.build_scheduler.specs.Position.{Position}
use Rattle.build_scheduler.proofs.Replying.{IsOwnEvent, OwnEvent}
use Rattle.build_nodes.specs.declared.turn.Brought.{Brought}
use Rattle.build_nodes.specs.declared.turn.Brought.TheVariants.{Nothing, Walk, Refused}
use Rattle.build_nodes.specs.Leaving.{has_left, is_retire_of}
use Rattle.build_nodes.specs.Marked.{marked}
use Rattle.build_nodes.specs.Turns.{IsBrought, IsIdle, number_of}
use Rattle.build_nodes.proofs.Either.{or-assoc, or-none, or-right}
use Rattle.build_nodes.proofs.Marks.{since}

-- a node has left where its Retire is among the events, or an end is told
pub left-is : (node : ℕ) (xs : List Event) (end : Option End)
    → has_left node (marked xs end) ≡ list_any (is_retire_of node) xs || is_some end
left-is node [] None = refl
left-is node [] (Some end) = refl
left-is node (x ∷ xs) end = ap (λ b. is_retire_of node x || b) (left-is node xs end)
    ∙ or-assoc (is_retire_of node x) (list_any (is_retire_of node) xs) (is_some end)

pub any-append : (node : ℕ) (xs ys : List Event) →
    list_any (is_retire_of node) (xs ++ ys)
    ≡ list_any (is_retire_of node) xs || list_any (is_retire_of node) ys
any-append node [] ys = refl
any-append node (x ∷ xs) ys = ap (λ b. is_retire_of node x || b) (any-append node xs ys)
    ∙ or-assoc (is_retire_of node x) (list_any (is_retire_of node) xs)
    (list_any (is_retire_of node) ys)

none-left : (node : ℕ) (xs : List Event) (end : Option End) → end ≡ None
    → has_left node (marked xs end) ≡ false → list_any (is_retire_of node) xs ≡ false
none-left node xs end none e = sym (or-none (list_any (is_retire_of node) xs))
    ∙ (ap (λ o. list_any (is_retire_of node) xs || is_some o) (sym none)
    ∙ (sym (left-is node xs end) ∙ e))

left-none : (node : ℕ) (xs : List Event) (end : Option End) → end ≡ None
    → list_any (is_retire_of node) xs ≡ false → has_left node (marked xs end) ≡ false
left-none node xs end none e = left-is node xs end
    ∙ (ap (λ o. list_any (is_retire_of node) xs || is_some o) none
    ∙ (or-none (list_any (is_retire_of node) xs) ∙ e))

-- an event that is no Retire of the node
pub active-more : (node : ℕ) (xs ys : List Event) (event : Event) (before after : Option End)
    → before ≡ None → after ≡ None → ys ≡ xs ++ event ∷ [] → is_retire_of node event ≡ false
    → has_left node (marked xs before) ≡ false →
    has_left node (marked ys after) ≡ false
active-more node xs ys event before after b a is other e =
    left-none node ys after a (ap (list_any (is_retire_of node)) is
    ∙ (any-append node xs (event ∷ [])
    ∙ (ap (λ x. x || (is_retire_of node event || false)) (none-left node xs before b e)
    ∙ (or-none (is_retire_of node event) ∙ other))))

own-other : (node id : ℕ) (event : Event) → IsOwnEvent id event → is_retire_of node event ≡ false
own-other node id (Claim own run kind) e = refl
own-other node id (Request own calls) e = refl
own-other node id (Result own run) e = refl
own-other node id (Done own) e = refl
own-other node id _ e = absurd e

-- an event by which a request is answered
pub active-own : (node : ℕ) (xs ys : List Event) (id : ℕ) (before after : Option End)
    → before ≡ None → after ≡ None → OwnEvent xs ys id → has_left node (marked xs before) ≡ false
    → has_left node (marked ys after) ≡ false
active-own node xs ys id before after b a x = active-more node xs ys x.event before after b a
    x.comes (own-other node id x.event x.own)

-- events of which none is a Retire of the node
pub active-all : (node : ℕ) (xs ys more : List Event) (before after : Option End) →
    before ≡ None → after ≡ None → ys ≡ xs ++ more → list_any (is_retire_of node) more ≡ false →
    has_left node (marked xs before) ≡ false → has_left node (marked ys after) ≡ false
active-all node xs ys more before after b a is none e =
    left-none node ys after a (ap (list_any (is_retire_of node)) is ∙ (any-append node xs more
    ∙ (ap (λ x. x || list_any (is_retire_of node) more) (none-left node xs before b e) ∙ none)))

-- nothing has changed
pub active-same : (node : ℕ) (xs ys : List Event) (before after : Option End) → after ≡ before
    → ys ≡ xs → has_left node (marked xs before) ≡ false → has_left node (marked ys after) ≡ false
active-same node xs ys before after a is e = ap (λ o. has_left node (marked ys o)) a
    ∙ (ap (λ l. has_left node (marked l before)) is ∙ e)

any-dropped : (node n : ℕ) (xs : List Event) → list_any (is_retire_of node) (drop n xs) ≡ true
    → list_any (is_retire_of node) xs ≡ true
any-dropped node zero xs e = e
any-dropped node (suc n) [] e = absurd (cc)
any-dropped node (suc n) (x ∷ xs) e = or-right (is_retire_of node x)
    (list_any (is_retire_of node) xs) (any-dropped node n xs e)

-- its Retire is among the last events
pub retired-now : (node number : ℕ) (events : List Event) (end : Option End)
    → list_any (is_retire_of node) (drop number events) ≡ true
    → has_left node (marked events end) ≡ true
retired-now node number events end e = left-is node events end
    ∙ ap (λ b. b || is_some end) (any-dropped node number events e)

module _ {W P I A : Type 0} (seen : W → Seen P I A) (earlier : W → Option (Position P I A × ℕ))
    (node : ℕ) (w : World P I A) where
  idle-of : (past : List (Option Event)) (b : Brought W) → IsBrought seen earlier node w past b
      → ∥ IsIdle seen earlier node w past (number_of b) ∥₁
  idle-of past (Nothing number) h = h
  idle-of past (Walk a) h = ∥∥₁_map h
      (λ k.
      record { events = k.events; number_is = k.number; begins = k.begins; active = k.active })
  idle-of past (Refused a) h = ∥∥₁_map h
      (λ k.
      record { events = k.events; number_is = k.number; begins = k.begins; active = k.active })

  -- a node that has brought something, and has no Retire behind it
  pub active-now : (events : List Event) (end : Option End) (b : Brought W) → end ≡ None
      → list_any (is_retire_of node) (drop (number_of b) events) ≡ false
      → IsBrought seen earlier node w (marked events end) b
      → has_left node (marked events end) ≡ false
  active-now events end b none e h = ∥∥₁_elim (idle-of (marked events end) b h) (hlevel props) from
    where
      from : IsIdle seen earlier node w (marked events end) (number_of b)
          → has_left node (marked events end) ≡ false
      from k =
          let m = since k.events events end (number_of b) k.number_is k.begins in
          left-none node events end none (ap (list_any (is_retire_of node)) m.1
          ∙ (any-append node k.events m.0
          ∙ (ap (λ x. x || list_any (is_retire_of node) m.0)
          (none-left node k.events None refl k.active)
          ∙ (ap (list_any (is_retire_of node)) (sym m.2) ∙ e))))

  -- a node without a request
  pub idle-now : (events : List Event) (end : Option End) (number : ℕ) → end ≡ None
      → number ≡ length events → has_left node (marked events end) ≡ false
      → ∥ IsIdle seen earlier node w (marked events end) number ∥₁
  idle-now events end number none n e = ∣ record {
    events = events;
    number_is = n;
    begins = ([], append-nil (marked events None) ∙ ap (marked events) (sym none));
    active = ap (λ o. has_left node (marked events o)) (sym none) ∙ e;
  } ∣₁

  -- a node that has not begun
  pub idle-first : (past : List (Option Event)) → ∥ IsIdle seen earlier node w past 0 ∥₁
  idle-first past = ∣ record { events = []; number_is = refl; begins = (past, refl); active = refl }
      ∣₁
