-- What is added to a history continues it, and an end is told where the mark stands.
use Rattle.std.proofs.Common.{
  ◌≡◌,
  ◌+◌,
  ◌≤◌,
  ℕ,
  suc,
  true,
  false,
  Bor,
  option_copied,
  List,
  [],
  ◌∷◌,
  ◌++◌,
  length,
  map,
  drop,
  Option,
  Some,
  None,
  refl,
  ap,
  sym,
  subst,
  ◌∙◌,
  arith,
  append_assoc,
}
use Rattle.std.proofs.lemmas.List.{append-nil}
use Rattle.std.specs.Prelude.{is_some, IsSome}
use mathlib.Core.List.{IsPrefix}
use Rattle.build_meaning.specs.declared.event.Event.{Event}
use Rattle.build_meaning.proofs.BuildingReplays.{map-append}
use Rattle.build_scheduler.specs.declared.slot.End.{End}
use Rattle.build_scheduler.specs.Drivers.{Continues}
use Rattle.build_scheduler.proofs.Replying.{OwnEvent}
use Rattle.build_nodes.specs.Marked.{mark_of, marked, has_mark}

-- more events, or an end, continue a history without one
pub ahead : (xs ys more : List Event) (before after : Option End) → before ≡ None → ys ≡ xs ++ more
    → IsPrefix (marked xs before) (marked ys after)
ahead xs ys more before after b e = (
  map Some more ++ mark_of after,
  ap (λ o. marked xs o ++ (map Some more ++ mark_of after)) b
      ∙ (ap (λ l. l ++ (map Some more ++ mark_of after)) (append-nil (map Some xs))
      ∙ (sym (append_assoc (map Some xs) (map Some more) (mark_of after))
      ∙ (ap (λ l. l ++ mark_of after) (sym (map-append Some xs more))
      ∙ ap (λ l. marked l after) (sym e)))),
)

pub own-ahead : (xs ys : List Event) (id : ℕ) (before after : Option End) → before ≡ None
    → OwnEvent xs ys id → IsPrefix (marked xs before) (marked ys after)
own-ahead xs ys id before after b x = ahead xs ys (x.event ∷ []) before after b x.comes

pub none-more : (xs ys : List Event) (before after : Option End) → before ≡ None → ys ≡ xs
    → IsPrefix (marked xs before) (marked ys after)
none-more xs ys before after b e = ahead xs ys [] before after b (e ∙ sym (append-nil xs))

-- the mark stays
pub mark-stays : (xs ys : List (Option Event)) → IsPrefix xs ys → has_mark xs ≡ true
    → has_mark ys ≡ true
mark-stays xs ys p e = subst (λ l. has_mark l ≡ true) p.1 (longer xs p.0 e)
  where
    longer : (xs rest : List (Option Event)) → has_mark xs ≡ true → has_mark (xs ++ rest) ≡ true
    longer [] rest e = absurd (cc)
    longer (Some x ∷ xs) rest e = longer xs rest e
    longer (None ∷ xs) rest e = refl

-- a history has the mark exactly where an end is told
pub has-mark : (xs : List Event) (end : Option End) → is_some end ≡ true
    → has_mark (marked xs end) ≡ true
has-mark [] (Some end) e = refl
has-mark [] None e = absurd (cc)
has-mark (x ∷ xs) end e = has-mark xs end e

pub mark-told : (xs : List Event) (end : Option End) → has_mark (marked xs end) ≡ true → IsSome end
mark-told [] (Some end) e = refl
mark-told [] None e = absurd (cc)
mark-told (x ∷ xs) end e = mark-told xs end e

-- without the mark the events continue as well
pub continues-of : (xs ys : List Event) (before after : Option End)
    → IsPrefix (marked xs before) (marked ys after) → Continues xs ys
continues-of [] ys before after p = (ys, refl)
continues-of (x ∷ xs) [] before None p = absurd (cc (p.1))
continues-of (x ∷ xs) [] before (Some end) p = absurd (cc (p.1))
continues-of (x ∷ xs) (y ∷ ys) before after p =
    let heads : x ≡ y = cc (p.1) in
    let rest = continues-of xs ys before after (p.0, cc (p.1)) in
    (rest.0, cc (heads, rest.1))

pub length-unmarked : (xs : List Event) (end : Option End) → end ≡ None
    → length (marked xs end) ≡ length xs
length-unmarked [] end e = ap (λ o. length (mark_of o)) e
length-unmarked (x ∷ xs) end e = ap suc (length-unmarked xs end e)

pub length-marked : (xs : List Event) (end : Option End) → length (marked xs end) ≤ length xs + 1
length-marked [] None = omega arith
length-marked [] (Some end) = omega arith
length-marked (x ∷ xs) end = let h = length-marked xs end in omega arith

pub drop-front : {X : Type 0} (xs ys : List X) → drop (length xs) (xs ++ ys) ≡ ys
drop-front [] ys = refl
drop-front (x ∷ xs) ys = drop-front xs ys

-- the events behind those that a node saw last, of which there were so many
pub since : (events log : List Event) (end : Option End) (number : ℕ) → number ≡ length events
    → IsPrefix (marked events None) (marked log end)
    → (more : List Event) × (log ≡ events ++ more) × (drop number log ≡ more)
since events log end number is p =
    let more = continues-of events log None end p in (
      more.0,
      more.1,
      ap (λ n. drop n log) is ∙ (ap (drop (length events)) more.1 ∙ drop-front events more.0),
    )

pub copied-some : {X : Type 0} (o : Option (Bor X)) (end : Option X) → option_copied o ≡ end
    → is_some o ≡ true → is_some end ≡ true
copied-some (Some x) end e h = ap is_some (sym e)
copied-some None end e h = absurd (cc)

pub copied-none : {X : Type 0} (o : Option (Bor X)) (end : Option X) → option_copied o ≡ end
    → is_some o ≡ false → end ≡ None
copied-none (Some x) end e h = absurd (cc)
copied-none None end e h = sym e
