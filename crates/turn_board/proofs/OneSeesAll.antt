-- Some view has seen the whole history, also after its seat was cut in two or joined to another.
use Rattle.std.proofs.Common.{
  ◌≡◌,
  ◌≢◌,
  ℕ,
  zero,
  suc,
  ◌<◌,
  Bool,
  true,
  false,
  cond,
  List,
  [],
  ◌∷◌,
  ◌++◌,
  length,
  nat_lt,
  slice_set,
  refl,
  sym,
  ap,
  ◌∙◌,
  arith,
}
use Rattle.std.proofs.lemmas.Bool.Decides.{nat_tests}
use mathlib.Core.List.{IsPrefix}
use mathlib.Core.Logic.{dite}
use native.Mathlib.Decide.{ℕ_discrete}
use mathlib.Core.Option.{some, some-injective, some-ne-none}
use lib.ListN.{get_elem?}
use Rattle.atomic_table.proofs.Lists.{set_here, set_else, at_longer}
use Rattle.turn_board.specs.declared.view.View.{View}
use Rattle.turn_board.specs.Views.{longer, spent_view}
use Rattle.turn_board.specs.Rule.{OneSeesAll}
use Rattle.turn_board.proofs.Prefixes.{prefix_length, prefix_whole}

pub within : {A : Type 0} (l : List A) (i : ℕ) (a : A) → get_elem? l i ≡ some a → i < length l
within [] i a e = absurd (some-ne-none a (sym e))
within (x ∷ xs) zero a e = omega arith
within (x ∷ xs) (suc i) a e = omega (arith, within xs i a e)

module _ {E : Type 0} where
  first_whole : (xs ys now : List E) → xs ≡ now → IsPrefix ys now → longer xs ys ≡ now
  first_whole xs ys now e p = by (nat_lt (length xs) (length ys)) refl
    where
      by : (b : Bool) → nat_lt (length xs) (length ys) ≡ b → cond b ys xs ≡ now
      by true t = let le = prefix_length ys now p in let same = ap length e in absurd
          (grind (arith, nat_tests))
      by false t = e

  second_whole : (xs ys now : List E) → ys ≡ now → IsPrefix xs now → longer xs ys ≡ now
  second_whole xs ys now e p = by (nat_lt (length xs) (length ys)) refl
    where
      by : (b : Bool) → nat_lt (length xs) (length ys) ≡ b → cond b ys xs ≡ now
      by true t = e
      by false t = let same = ap length e in prefix_whole xs now p (grind (arith, nat_tests))

module _ {W E : Type 0} where
  pub after_split_one_sees_all : (now : List E) (views : List (View W E)) (id : ℕ)
      (v left right : View W E) → get_elem? views id ≡ some v → left.seen ≡ v.seen → 0 < left.share
      → OneSeesAll now views → OneSeesAll now (slice_set views id left ++ right ∷ [])
  after_split_one_sees_all now views id v left right here same share t =
      dite (ℕ_discrete t.at id)
      (λ e.
      let found : v ≡ t.view = some-injective v t.view
      (sym here ∙ (ap (get_elem? views) (sym e) ∙ t.here)) in
      record {
        at = id;
        view = left;
        here = at_longer (slice_set views id left) (right ∷ []) id left
            (set_here views id left (within views id v here));
        share_left = share;
        whole = same
            ∙ (ap (λ u. u.seen) found ∙ t.whole);
      })
      (λ ne.
      record {
        at = t.at;
        view = t.view;
        here = at_longer (slice_set views id left) (right ∷ []) t.at
            t.view (set_else views id t.at left ne ∙ t.here);
        share_left = t.share_left;
        whole =
            t.whole;
      })

  pub after_join_one_sees_all : (now : List E) (views : List (View W E)) (id other : ℕ)
      (v u both : View W E) → other ≢ id → get_elem? views id ≡ some v
      → get_elem? views other ≡ some u
      → IsPrefix v.seen now → IsPrefix u.seen now → both.seen ≡ longer v.seen u.seen
      → 0 < both.share → OneSeesAll now views
      → OneSeesAll now (slice_set (slice_set views id both) other spent_view)
  after_join_one_sees_all now views id other v u both apart here there before before' seen share t =
      let found = set_else (slice_set views id both) other id spent_view (λ e. apart (sym e))
      ∙ set_here views id both (within views id v here) in
      dite (ℕ_discrete t.at id)
      (λ e.
      let is : v ≡ t.view = some-injective v t.view
      (sym here ∙ (ap (get_elem? views) (sym e) ∙ t.here)) in
      record {
        at = id;
        view = both;
        here = found;
        share_left = share;
        whole = seen
            ∙ first_whole v.seen u.seen now (ap (λ x. x.seen) is ∙ t.whole) before';
      })
      (λ ne. dite (ℕ_discrete t.at other)
      (λ e.
      let is : u ≡ t.view = some-injective u t.view
      (sym there ∙ (ap (get_elem? views) (sym e) ∙ t.here)) in
      record {
        at = id;
        view = both;
        here = found;
        share_left = share;
        whole = seen
            ∙ second_whole v.seen u.seen now (ap (λ x. x.seen) is ∙ t.whole) before;
      })
      (λ nor.
      record {
        at = t.at;
        view = t.view;
        here = set_else (slice_set views id both) other t.at
            spent_view nor ∙ (set_else views id t.at both ne ∙ t.here);
        share_left = t.share_left;
        whole = t.whole;
      }))
