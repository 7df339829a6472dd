-- A give keeps the rule: the state is at home again, with a history that continues the one taken.
use Rattle.std.proofs.Common.{
  ◌≡◌,
  ℕ,
  ◌+◌,
  ◌*◌,
  ◌<◌,
  true,
  List,
  [],
  ◌∷◌,
  length,
  Option,
  Some,
  None,
  refl,
  sym,
  ap,
  ◌∙◌,
  subst,
  inl,
  inr,
  ⊎_elim,
  arith,
}
use mathlib.Core.List.{IsPrefix}
use mathlib.Core.Option.{some, none}
use lib.ListN.{get_elem?}
use Rattle.atomic_table.specs.Table.{
  State,
  Me,
  Step,
  Act,
  rest,
  gives,
  Allows,
  stepped,
  Valid,
  carried_after,
}
use Rattle.atomic_table.proofs.Lists.{set_here}
use Rattle.turn_board.specs.declared.view.View.{View}
use Rattle.turn_board.specs.Views.{after_give, out_count}
use Rattle.turn_board.specs.Rule.{ViewIsTrue, StateIsOut, BoardRule}
use Rattle.turn_board.specs.Steps.{GiveTells}
use Rattle.turn_board.proofs.Prefixes.{prefix_self, prefix_trans}
use Rattle.turn_board.proofs.OneSeesAll.{within}
use Rattle.turn_board.proofs.Sums.{total-set, term_le}
use Rattle.turn_board.proofs.TrueViews.{
  is_true,
  true_after_set,
  out_count_one,
  true_of_longer,
  as_is,
}

same_slot : {S : Type 0} (state other : S) (m n : List (ℕ × Option S)) → m ≡ (0, Some state) ∷ []
    → n ≡ (0, Some other) ∷ [] → m ≡ n → state ≡ other
same_slot {S} state other m n e d h =
    let a : ℕ × Option S = (0, Some state) in
    let b : ℕ × Option S = (0, Some other) in
    let lists : a ∷ [] ≡ b ∷ [] = sym e ∙ (h ∙ d) in
    let pair : a ≡ b = cc in
    let slot : Some state ≡ Some other = ap (λ (p : ℕ × Option S). p.1) pair in
    cc

module _ {S W E : Type 0} (world_of : S → W) (history_of : S → List E) where
  abbrev GiveStands : W → ℕ → View W E → S → ℕ → Step (Option S) → State (Option S) (View W E)
      → Type 0
  GiveStands world id v state new st s = (w : View W E) × (a : Act (Option S))
      × Valid s.homes ((0, Some state) ∷ []) a
      × BoardRule world_of history_of world (stepped s 0 new id ((0, Some state) ∷ []) w a)
      × GiveTells world_of history_of st (v, (0, Some state) ∷ []) new
      (w, carried_after ((0, Some state) ∷ []) a)

  give_while_out : (world : W) (id : ℕ) (v : View W E) (state : S) (new : ℕ) (st : Step (Option S))
      → 0 < v.share → v.has_state ≡ true
      → v.world ≡ Some (world_of state) → IsPrefix v.seen (history_of state)
      → new ≡ 2 * length (history_of state)
      → (s : State (Option S) (View W E)) (b : BoardRule world_of history_of world s)
      → get_elem? s.views id ≡ some v
      → (o : StateIsOut {S = S} b.now s.words s.homes s.views)
      → GiveStands world id v state new st
      (record { words = (2 * length b.now + 1) ∷ []; homes = none ∷ []; views = s.views })
  give_while_out world id v state new st share out same more twice s b at o =
      let f = is_true world b.now s.views id v b.all_true at share in
      let later = history_of state in
      let longer_now : IsPrefix b.now later = subst (λ l. IsPrefix l later) (f.out_sees_all out)
      more in
      let w : View W E = after_give v later in
      let own : ViewIsTrue world later w = record {
        world_is = f.world_is;
        share_left = share;
        seen_begins = prefix_self later;
        shorter_begins = prefix_trans v.shorter_seen b.now later f.shorter_begins longer_now;
        out_sees_all = λ _. refl;
      } in
      let mine = out_count_one v out in
      let shares = total-set (λ (u : View W E). u.share) s.views id v w at in
      let outs = total-set out_count s.views id v w at in
      let one_out = o.one_out in
      let all = b.shares in (
        w,
        gives,
        tt,
        record {
          now = later;
          all_true = true_after_set world later s.views id w
              (λ k u n e. true_of_longer world b.now later s.views id v at mine one_out longer_now k
              u n e (b.all_true k u e)) (inr own);
          shares = omega arith;
          place = inl (record {
            state = state;
            word = ap (λ (k : ℕ). k ∷ []) twice;
            slot = refl;
            world_is = cc (same, f.world_is);
            history_is = refl;
            none_out = omega arith;
            sees_all = record {
              at = id;
              view = w;
              here = set_here s.views id w (within s.views id v at);
              share_left = share;
              whole = refl;
            };
          });
        },
        (λ other e. ap (λ (x : S). (after_give v (history_of x), []))
            (same_slot state other _ _ refl refl e)),
      )

  pub give_keeps : (world : W) (slots id : ℕ) (m : Me (Option S) (View W E)) (v : View W E)
      (held : List (ℕ × Option S)) (state : S) (new : ℕ) (st : Step (Option S))
      → m ≡ (v, (0, Some state) ∷ rest held) → held ≡ (0, None) ∷ [] → 0 < v.share
      → v.has_state ≡ true
      → v.world ≡ Some (world_of state) → IsPrefix v.seen (history_of state)
      → new ≡ 2 * length (history_of state)
      → Allows (BoardRule world_of history_of world) slots id m 0 (λ _. new)
      (λ _. GiveTells world_of history_of st m new)
  give_keeps world slots id m v held state new st full empty share out same more twice =
      let P : Me (Option S) (View W E) → Type 0 = λ x.
      Allows (BoardRule world_of history_of world) slots id x 0 (λ _. new)
      (λ _. GiveTells world_of history_of st x new) in
      let is : (v, (0, Some state) ∷ []) ≡ m = sym
      (full ∙ ap (λ (l : List (ℕ × Option S)). (v, (0, Some state) ∷ rest l)) empty) in
      subst P is (λ s b long at wide.
      ⊎_elim
      (λ h. let none_out = h.none_out in let mine = out_count_one v out in let le = term_le
      out_count s.views id v at in absurd (omega arith))
      (λ o. subst (GiveStands world id v state new st) (as_is s _ _ o.word o.slot)
      (give_while_out world id v state new st share out same more twice s b at o))
      b.place)
