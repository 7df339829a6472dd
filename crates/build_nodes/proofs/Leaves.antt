-- Nodes leave by the end or by their Retires, of which there are fewer than nodes.
use Rattle.std.proofs.Common.{
  ◌≡◌,
  ◌≤◌,
  ◌<◌,
  ◌==◌,
  ◌||◌,
  ℕ,
  zero,
  suc,
  true,
  false,
  Bool,
  List,
  [],
  ◌∷◌,
  ◌++◌,
  length,
  map,
  take,
  drop,
  Option,
  Some,
  None,
  All,
  refl,
  ap,
  sym,
  subst,
  ◌∙◌,
  arith,
  take-append-drop,
}
use Rattle.std.proofs.Math.Logic.{∥∥₁_elim}
use Rattle.std.proofs.lemmas.List.{map-append}
use Rattle.std.proofs.lemmas.Bool.{eq-eqb, eqb-true}
use Rattle.std.proofs.Props.{props}
use Rattle.std.specs.Prelude.{is_some, IsSome}
use mathlib.Core.List.{IsPrefix}
use Rattle.build_meaning.specs.declared.event.Event.{Event}
use Rattle.build_meaning.specs.declared.event.Event.TheVariants.{
  Assign,
  Claim,
  Request,
  Result,
  Done,
  Retire,
}
use Rattle.build_meaning.specs.World.{World}
use Rattle.build_meaning.specs.History.{retires, AreOfNodes}
use Rattle.build_scheduler.specs.declared.slot.End.{End}
use Rattle.build_scheduler.specs.declared.slot.End.TheVariants.{Root, NoMemory}
use Rattle.build_scheduler.specs.declared.walker.Ask.{Ask}
use Rattle.build_scheduler.specs.declared.walker.Ask.TheVariants.{
  Want,
  Call,
  Finished,
  Done as IsDone,
}
use Rattle.build_scheduler.specs.Ready.{IsAssignedTo}
use Rattle.build_scheduler.specs.Replies.{IsOver}
use Rattle.build_scheduler.specs.Retired.{IsRetired}
use Rattle.build_nodes.specs.Leaving.{IsSpent, has_left, is_retire_of}
use Rattle.build_nodes.specs.Marked.{mark_of, marked}
use Rattle.build_nodes.specs.Seats.{numbers_below}
use Rattle.build_nodes.proofs.Either.{
  not-true,
  or-either,
  or-from,
  or-keeps,
  or-left,
  or-rest,
  or-right,
}
use Rattle.build_nodes.proofs.Here.{one-node}
use Rattle.build_nodes.proofs.Marks.{ahead, none-more}

left-longer : (node : ℕ) (xs rest : List (Option Event)) → has_left node xs ≡ true
    → has_left node (xs ++ rest) ≡ true
left-longer node [] rest e = absurd (cc)
left-longer node (None ∷ xs) rest e = refl
left-longer node (Some x ∷ xs) rest e = or-keeps (is_retire_of node x) (has_left node xs)
    (has_left node (xs ++ rest)) (left-longer node xs rest) e

-- a node that has left has left later too
pub left-stays : (node : ℕ) (xs ys : List (Option Event)) → IsPrefix xs ys → has_left node xs ≡ true
    → has_left node ys ≡ true
left-stays node xs ys p e = subst (λ l. has_left node l ≡ true) p.1 (left-longer node xs p.0 e)

-- where an end is told each node has left
pub left-told : (node : ℕ) (xs : List Event) (end : Option End) → is_some end ≡ true
    → has_left node (marked xs end) ≡ true
left-told node [] (Some end) e = refl
left-told node [] None e = absurd (cc)
left-told node (x ∷ xs) end e = or-right (is_retire_of node x) (has_left node (marked xs end))
    (left-told node xs end e)

-- and where the node has retired
left-retired : (node id by : ℕ) (xs : List Event) (end : Option End) → by ≡ node
    → has_left node (marked (xs ++ Retire id by ∷ []) end) ≡ true
left-retired node id by [] end e = or-left (by == node) (has_left node (mark_of end))
    (eq-eqb by node e)
left-retired node id by (x ∷ xs) end e = or-right (is_retire_of node x)
    (has_left node (marked (xs ++ Retire id by ∷ []) end)) (left-retired node id by xs end e)

-- what comes of a request that is given back
module _ {P I A : Type 0} (w : World P I A) (nodes : ℕ) (events after : List Event) (id : ℕ)
    (before end : Option End) where
  pub retired-continues : (done : Bool) → before ≡ None → IsRetired w nodes events after id end done
      → IsPrefix (marked events before) (marked after end)
  retired-continues true none r = ahead events after (Retire id r.0.0 ∷ []) before end none r.0.2
  retired-continues false none r = none-more events after before end none r.0

  pub retired-spent : (done : Bool) (now : ℕ) → now ≡ nodes
      → IsRetired w nodes events after id end done → IsSpent now after end
  retired-spent true now same r = λ no. absurd
      (let clash : None ≡ Some NoMemory = sym r.1 ∙ no in cc)
  retired-spent false now same r = λ no. ap (λ es. suc (retires es)) r.0 ∙ (r.2 ∙ sym same)

  pub retired-left : (done : Bool) (node : ℕ) → ∥ IsAssignedTo w events id node ∥₁
      → IsRetired w nodes events after id end done → has_left node (marked after end) ≡ true
  retired-left true node here r =
      let same : r.0.0 ≡ node = ∥∥₁_elim here (hlevel props)
      (λ here. ∥∥₁_elim r.0.1 (hlevel props) (λ it. one-node w events id r.0.0 node it here)) in
      subst (λ es. has_left node (marked es end) ≡ true) (sym r.0.2)
      (left-retired node id r.0.0 events end same)
  retired-left false node here r = left-told node after end (ap is_some r.1)

-- where no end is told
pub untold-spent : (nodes : ℕ) (events : List Event) (told : Option End) → told ≡ None
    → IsSpent nodes events told
untold-spent nodes events told e = λ no. absurd
    (let clash : None ≡ Some NoMemory = sym e ∙ no in cc)

-- a request that is over
pub over-spent : (nodes : ℕ) (before events : List Event) (id : ℕ) (ask : Ask) (end : Option End)
    → IsOver before events id ask end → IsSpent nodes events end
over-spent nodes before events zero (IsDone told) end h = λ no. absurd
    (let clash : Some (Root told) ≡ Some NoMemory = sym (h.1 refl) ∙ no in cc)
over-spent nodes before events (suc id) (IsDone told) end h = untold-spent nodes events end
    (h.2 (λ e. absurd (omega arith)))
over-spent nodes before events id (Want run) end h = absurd h
over-spent nodes before events id (Call calls) end h = absurd h
over-spent nodes before events id (Finished run made) end h = absurd h

-- the numbers of the nodes that have retired
abbrev retired : List Event → List ℕ
retired [] = []
retired (Retire id node ∷ events) = node ∷ retired events
retired (event ∷ events) = retired events

retired-length : (events : List Event) → length (retired events) ≡ retires events
retired-length [] = refl
retired-length (Retire id node ∷ events) = ap suc (retired-length events)
retired-length (Assign id node ∷ events) = retired-length events
retired-length (Claim id run kind ∷ events) = retired-length events
retired-length (Request id keys ∷ events) = retired-length events
retired-length (Result id run ∷ events) = retired-length events
retired-length (Done id ∷ events) = retired-length events

-- whether a number is in a list
abbrev pub among : ℕ → List ℕ → Bool
among n [] = false
among n (m ∷ ms) = m == n || among n ms

-- without an end a node has left only by its Retire
left-among : (node : ℕ) (events : List Event) → has_left node (marked events None) ≡ true
    → among node (retired events) ≡ true
left-among node [] e = absurd (cc)
left-among node (Retire id by ∷ events) e = or-keeps (by == node)
    (has_left node (marked events None)) (among node (retired events)) (left-among node events) e
left-among node (Assign id by ∷ events) e = left-among node events e
left-among node (Claim id run kind ∷ events) e = left-among node events e
left-among node (Request id keys ∷ events) e = left-among node events e
left-among node (Result id run ∷ events) e = left-among node events e
left-among node (Done id ∷ events) e = left-among node events e

-- a list without its first number, or with it
abbrev without : Bool → ℕ → List ℕ → List ℕ → List ℕ
without true m ms ls = ms
without false m ms ls = m ∷ ls

-- a list without the first place of a number
abbrev less : ℕ → List ℕ → List ℕ
less n [] = []
less n (m ∷ ms) = without (m == n) m ms (less n ms)

without-length : (b : Bool) (m : ℕ) (ms ls : List ℕ) → (b ≡ false → length ms ≡ suc (length ls))
    → suc (length ms) ≡ suc (length (without b m ms ls))
without-length true m ms ls f = refl
without-length false m ms ls f = ap suc (f refl)

less-length : (n : ℕ) (ms : List ℕ) → among n ms ≡ true → length ms ≡ suc (length (less n ms))
less-length n [] e = absurd (cc)
less-length n (m ∷ ms) e = without-length (m == n) m ms (less n ms)
    (λ is. less-length n ms (or-rest (m == n) (among n ms) e is))

without-among : (b : Bool) (m k : ℕ) (ms ls : List ℕ) → (b ≡ true → (m == k) ≡ true → ⊥)
    → (among k ms ≡ true → among k ls ≡ true) → m == k || among k ms ≡ true
    → among k (without b m ms ls) ≡ true
without-among true m k ms ls d f e = or-rest (m == k) (among k ms) e (not-true (m == k) (d refl))
without-among false m k ms ls d f e = or-keeps (m == k) (among k ms) (among k ls) f e

less-among : (n k : ℕ) (ms : List ℕ) → (k ≡ n → ⊥) → among k ms ≡ true → among k (less n ms) ≡ true
less-among n k [] d e = absurd (cc)
less-among n k (m ∷ ms) d e = without-among (m == n) m k ms (less n ms)
    (λ is at. d (sym (eqb-true m k at) ∙ eqb-true m n is)) (less-among n k ms d) e

-- a list that has all numbers below one has at least as many
all-below : (n : ℕ) (ms : List ℕ) → ((k : ℕ) → k < n → among k ms ≡ true) → n ≤ length ms
all-below zero ms h = omega arith
all-below (suc n) ms h =
    let rest = all-below n (less n ms)
    (λ k lt. less-among n k ms (λ e. absurd (let q : k ≡ n = e in omega arith))
    (h k (omega arith))) in
    let one = less-length n ms (h n (omega arith)) in
    omega arith

-- each of some numbers has left
pub record HaveLeft (numbers : List ℕ) (seen : List (Option Event)) : Type 0 where
  pub each : (n : ℕ) → among n numbers ≡ true → has_left n seen ≡ true

among-either : (k : ℕ) (xs ys : List ℕ) (P : Type 0) → (among k xs ≡ true → P)
    → (among k ys ≡ true → P) → among k (xs ++ ys) ≡ true → P
among-either k [] ys P f g e = g e
among-either k (x ∷ xs) ys P f g e =
    or-either (x == k) (among k (xs ++ ys)) P (λ is. f (or-left (x == k) (among k xs) is))
    (among-either k xs ys P (λ more. f (or-right (x == k) (among k xs) more)) g) e

both-left : (xs ys : List ℕ) (seen : List (Option Event)) → HaveLeft xs seen → HaveLeft ys seen
    → HaveLeft (xs ++ ys) seen
both-left xs ys seen x y = record {
  each = λ n among. among-either n xs ys (has_left n seen ≡ true) (x.each n) (y.each n) among;
}

pub left-later : (numbers : List ℕ) (seen now : List (Option Event)) → IsPrefix seen now
    → HaveLeft numbers seen → HaveLeft numbers now
left-later numbers seen now p h = record {
  each = λ n among. left-stays n seen now p (h.each n among);
}

below-other : (n k : ℕ) → k < suc n → (n ≡ k → ⊥) → k < n
below-other zero zero lt d = absurd (d refl)
below-other zero (suc k) lt d = absurd (omega arith)
below-other (suc n) zero lt d = omega arith
below-other (suc n) (suc k) lt d = let h = below-other n k (omega arith) (λ e. d (ap suc e))
    in omega arith

below-among : (n k : ℕ) → k < n → among k (numbers_below n) ≡ true
below-among zero k lt = absurd (omega arith)
below-among (suc n) k lt =
    or-from (n == k) (among k (numbers_below n))
    (λ is.
    below-among n k
    (below-other n k lt (λ e. let clash : true ≡ false = sym (eq-eqb n k e) ∙ is in cc)))

-- all nodes have left, and one has not retired: so an end is told
pub all-ended : (nodes : ℕ) (events : List Event) (end : Option End)
    → HaveLeft (numbers_below nodes) (marked events end) → AreOfNodes nodes events → IsSome end
all-ended nodes events (Some end) left active = refl
all-ended nodes events None left active =
    let many : nodes ≤ length (retired events) = all-below nodes (retired events)
    (λ k lt. left-among k events (left.each k (below-among nodes k lt))) in
    let is = retired-length events in
    absurd (omega arith)

-- of some nodes and one more
module _ {N : Type 0} (number : N → ℕ) (seen : List (Option Event)) where
  at-each : (all : List N) → All (λ n. has_left (number n) seen ≡ true) all → (k : ℕ)
      → among k (map number all) ≡ true → has_left k seen ≡ true
  at-each [] h k e = absurd (cc)
  at-each (n ∷ all) h k e =
      or-either (number n == k) (among k (map number all)) (has_left k seen ≡ true)
      (λ is. subst (λ m. has_left m seen ≡ true) (eqb-true (number n) k is)
      (h 0 n (omega arith)))
      (at-each all (λ k d lt. h (suc k) d (omega arith)) k) e

  pub have-left : (all : List N) (numbers : List ℕ) → map number all ≡ numbers
      → All (λ n. has_left (number n) seen ≡ true) all → HaveLeft numbers seen
  have-left all numbers e h = subst (λ ns. HaveLeft ns seen) e
      (record { each = λ k among. at-each all h k among })

  -- the first of them, and those behind
  pub all-left : (all front behind : List N) (at : ℕ) → front ≡ take at all → behind ≡ drop at all
      → HaveLeft (map number front) seen → HaveLeft (map number behind) seen
      → HaveLeft (map number all) seen
  all-left all front behind at f b x y =
      let whole : front ++ behind ≡ all = ap (λ xs. xs ++ behind) f
      ∙ (ap (λ xs. take at all ++ xs) b ∙ take-append-drop at all) in
      subst (λ ns. HaveLeft ns seen)
      (sym (map-append number front behind) ∙ ap (map number) whole)
      (both-left (map number front) (map number behind) seen x y)
