-- What the views of a board know, and that it stays true.
use Rattle.std.proofs.Common.{
  ◌≡◌,
  ◌≢◌,
  ℕ,
  ◌<◌,
  ◌⊎◌,
  Bool,
  true,
  false,
  cond,
  List,
  [],
  ◌∷◌,
  ◌++◌,
  Option,
  slice_set,
  refl,
  sym,
  ap,
  ◌∙◌,
  subst,
  inl,
  inr,
  ⊎_elim,
  arith,
}
use mathlib.Core.List.{IsPrefix}
use mathlib.Core.Option.{Option as Maybe, some, some-injective}
use mathlib.Core.Logic.{dite}
use native.Mathlib.Decide.{ℕ_discrete}
use lib.ListN.{get_elem?}
use Rattle.atomic_table.specs.Table.{State}
use Rattle.atomic_table.proofs.Lists.{at_set, at_snoc}
use Rattle.turn_board.specs.declared.view.View.{View}
use Rattle.turn_board.specs.Views.{spent_view, out_count}
use Rattle.turn_board.specs.Rule.{total, ViewIsTrue, AllViewsAreTrue, OneSeesAll}
use Rattle.turn_board.proofs.Prefixes.{prefix_trans}
use Rattle.turn_board.proofs.Sums.{terms_le}

one_or_none : (b : Bool) (n : ℕ) → cond b 1 0 ≡ n → n ≡ 1 → b ≡ true
one_or_none true n e one = refl
one_or_none false n e one = absurd (omega arith)

module _ {W E : Type 0} where
  -- a view with a share is not spent
  pub is_true : (world : W) (now : List E) (views : List (View W E)) (id : ℕ) (v : View W E)
      → AllViewsAreTrue world now views → get_elem? views id ≡ some v → 0 < v.share
      → ViewIsTrue world now v
  is_true world now views id v all at share = ⊎_elim
      (λ e. let none_left = ap (λ (u : View W E). u.share) e in absurd (omega arith)) (λ f. f)
      (all id v at)

  -- one view changes
  pub true_after_set : (world : W) (now : List E) (views : List (View W E)) (id : ℕ) (w : View W E)
      → ((at : ℕ) (v : View W E) → at ≢ id → get_elem? views at ≡ some v
      → (v ≡ spent_view) ⊎ ViewIsTrue world now v)
      → (w ≡ spent_view) ⊎ ViewIsTrue world now w → AllViewsAreTrue world now (slice_set views id w)
  true_after_set world now views id w others own at v e =
      ⊎_elim
      (λ here. subst (λ (u : View W E). (u ≡ spent_view) ⊎ ViewIsTrue world now u) here.1 own)
      (λ there. others at v there.0 there.1) (at_set views id at w v e)

  pub true_after_push : (world : W) (now : List E) (views : List (View W E)) (w : View W E)
      → AllViewsAreTrue world now views → ViewIsTrue world now w
      → AllViewsAreTrue world now (views ++ w ∷ [])
  true_after_push world now views w all own at v e =
      ⊎_elim (λ there. all at v there)
      (λ here. subst (λ (u : View W E). (u ≡ spent_view) ⊎ ViewIsTrue world now u) here
      (inr own)) (at_snoc views w v at e)

  pub out_count_one : (v : View W E) → v.has_state ≡ true → out_count v ≡ 1
  out_count_one v e = ap (λ b. cond b 1 0) e

  pub out_where_counted : (v : View W E) → out_count v ≡ 1 → v.has_state ≡ true
  out_where_counted v e = one_or_none v.has_state (out_count v) refl e

  pub out_count_none : (v : View W E) → v.has_state ≡ false → out_count v ≡ 0
  out_count_none v e = ap (λ b. cond b 1 0) e

  -- beside a view with all shares there are spent ones
  pub others_not_out : (world : W) (now : List E) (views : List (View W E)) (id : ℕ) (v : View W E)
      → AllViewsAreTrue world now views → get_elem? views id ≡ some v → v.share ≡ 128
      → total (λ (u : View W E). u.share) views ≡ 128 → (at : ℕ) (u : View W E) → at ≢ id
      → get_elem? views at ≡ some u → out_count u ≡ 0
  others_not_out world now views id v all here whole sum at u apart there =
      let both = terms_le (λ (x : View W E). x.share) views id at v u apart here there in
      ⊎_elim (λ e. ap out_count e) (λ f. let left = f.share_left in absurd (omega arith))
      (all at u there)

  -- a view with all shares is the one that has seen the whole history
  pub sees_all_alone : (now : List E) (views : List (View W E)) (id : ℕ) (v : View W E)
      → get_elem? views id ≡ some v → v.share ≡ 128 → total (λ (u : View W E). u.share) views ≡ 128
      → OneSeesAll now views → v.seen ≡ now
  sees_all_alone now views id v here whole sum t =
      dite (ℕ_discrete t.at id)
      (λ e.
      ap (λ u. u.seen)
      (some-injective v t.view (sym here ∙ (ap (get_elem? views) (sym e) ∙ t.here))) ∙ t.whole)
      (λ ne. let both = terms_le (λ (x : View W E). x.share) views id t.at v t.view ne here t.here
      in let left = t.share_left in absurd (omega arith))

  -- another view, where the state is out with this one: it has not the state out, so it may fit a
  -- longer history
  pub true_of_longer : (world : W) (now later : List E) (views : List (View W E)) (id : ℕ)
      (v : View W E) → get_elem? views id ≡ some v → out_count v ≡ 1 → total out_count views ≡ 1
      → IsPrefix now later
      → (at : ℕ) (u : View W E) → at ≢ id → get_elem? views at ≡ some u
      → (u ≡ spent_view) ⊎ ViewIsTrue world now u → (u ≡ spent_view) ⊎ ViewIsTrue world later u
  true_of_longer world now later views id v here mine one more at u apart there =
      ⊎_elim (λ e. inl e) (λ f. inr (record {
        world_is = f.world_is;
        share_left = f.share_left;
        seen_begins = prefix_trans u.seen now later f.seen_begins more;
        shorter_begins = prefix_trans u.shorter_seen now later f.shorter_begins more;
        out_sees_all = λ out. let both = terms_le out_count views id at v u apart here there
            in let also = out_count_one u out in absurd (omega arith);
      }))

module _ {S W E : Type 0} where
  -- the same table, with its word and its slot as these
  pub as_is : (s : State (Option S) (View W E)) (words : List ℕ) (homes : List (Maybe (Option S)))
      → s.words ≡ words → s.homes ≡ homes
      → record { words = words; homes = homes; views = s.views } ≡ s
  as_is s words homes e d = λ i. record { words = sym e i; homes = sym d i; views = s.views }
