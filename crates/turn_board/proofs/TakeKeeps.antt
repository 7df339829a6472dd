-- A take keeps the rule: it brings the state out, or misses it.
use Rattle.std.proofs.Common.{
  ◌≡◌,
  ℕ,
  ◌+◌,
  ◌*◌,
  ◌^◌,
  ◌<◌,
  false,
  List,
  [],
  ◌∷◌,
  length,
  Option,
  Some,
  bit_or,
  slice_index,
  refl,
  sym,
  ap,
  ◌∙◌,
  subst,
  inr,
  ⊎_elim,
  arith,
}
use mathlib.Core.List.{IsPrefix}
use mathlib.Core.Option.{some, none}
use lib.ListN.{get_elem?}
use lib.Bits.{or_shifted, or_block, or_zero_r}
use Rattle.atomic_table.specs.Table.{
  State,
  Me,
  Step,
  Act,
  keeps,
  takes,
  Allows,
  stepped,
  Valid,
  carried_after,
}
use Rattle.turn_board.specs.declared.view.View.{View}
use Rattle.turn_board.specs.Views.{after_take, after_miss, out_count}
use Rattle.turn_board.specs.Rule.{ViewIsTrue, StateIsHome, StateIsOut, BoardRule}
use Rattle.turn_board.specs.Steps.{TakeTells}
use Rattle.turn_board.proofs.Prefixes.{prefix_self}
use Rattle.turn_board.proofs.Sums.{total-set, total_only}
use Rattle.turn_board.proofs.TrueViews.{
  is_true,
  true_after_set,
  out_count_none,
  others_not_out,
  as_is,
}

even_or : (n : ℕ) → bit_or (2 * n) 1 ≡ 2 * n + 1
even_or n = let e : 2 * n ≡ n * 2 ^ 1 = omega arith in let d = or_shifted n 1 1 (omega arith) in ap
    (λ k. bit_or k 1) e ∙ (d ∙ omega arith)

odd_or : (n : ℕ) → bit_or (2 * n + 1) 1 ≡ 2 * n + 1
odd_or n = let e : 2 * n + 1 ≡ n * 2 ^ 1 + 1 = omega arith in
    let d : bit_or (n * 2 ^ 1 + 1) 1 ≡ bit_or n 0 * 2 ^ 1
    + 1 = or_block 1 n 0 1 1 (omega arith) (omega arith) in
    let z = or_zero_r n in
    ap (λ k. bit_or k 1) e ∙ (d ∙ omega arith)

module _ {S W E : Type 0} (world_of : S → W) (history_of : S → List E) where
  abbrev TakeStands : W → ℕ → View W E → Step (Option S) → State (Option S) (View W E) → Type 0
  TakeStands world id v st s = (w : View W E) × (a : Act (Option S)) × Valid s.homes [] a
      × BoardRule world_of history_of world
      (stepped s 0 (bit_or (slice_index s.words 0) 1) id [] w a)
      × TakeTells world_of history_of st (v, []) (slice_index s.words 0) (w, carried_after [] a)

  take_at_home : (world : W) (id : ℕ) (v : View W E) (st : Step (Option S)) → 0 < v.share
      → v.has_state ≡ false
      → (s : State (Option S) (View W E)) (b : BoardRule world_of history_of world s)
      → get_elem? s.views id ≡ some v
      → (h : StateIsHome world_of history_of world b.now s.words s.homes s.views)
      → TakeStands world id v st
      (record
      { words = (2 * length b.now) ∷ []; homes = some (Some h.state) ∷ []; views = s.views })
  take_at_home world id v st share home s b at h =
      let f = is_true world b.now s.views id v b.all_true at share in
      let w : View W E = after_take v (history_of h.state) in
      let own : ViewIsTrue world b.now w = record {
        world_is = f.world_is;
        share_left = share;
        seen_begins = subst (λ l. IsPrefix (history_of h.state) l) h.history_is
            (prefix_self (history_of h.state));
        shorter_begins = f.shorter_begins;
        out_sees_all = λ _. h.history_is;
      } in
      let shares = total-set (λ (u : View W E). u.share) s.views id v w at in
      let outs = total-set out_count s.views id v w at in
      let not_mine = out_count_none v home in
      let none_out = h.none_out in
      let all = b.shares in (
        w,
        takes 0 (Some h.state),
        refl,
        record {
          now = b.now;
          all_true = true_after_set world b.now s.views id w (λ k u n e. b.all_true k u e)
              (inr own);
          shares = omega arith;
          place = inr
              (record {
                word = ap (λ (k : ℕ). k ∷ []) (even_or (length b.now));
                slot = refl;
                one_out = omega
                    arith;
              });
        },
        (
          (λ _. (
            h.state,
            refl,
            f.world_is ∙ ap Some (sym h.world_is),
            subst (λ l. IsPrefix v.seen l)
                (sym h.history_is) f.seen_begins,
          )),
          (λ odd. absurd (odd (omega arith))),
          (λ _. omega arith),
        ),
      )

  take_while_out : (world : W) (id : ℕ) (v : View W E) (st : Step (Option S)) → 0 < v.share
      → v.has_state ≡ false
      → (s : State (Option S) (View W E)) (b : BoardRule world_of history_of world s)
      → get_elem? s.views id ≡ some v
      → (o : StateIsOut {S = S} b.now s.words s.homes s.views)
      → TakeStands world id v st
      (record { words = (2 * length b.now + 1) ∷ []; homes = none ∷ []; views = s.views })
  take_while_out world id v st share home s b at o =
      let f = is_true world b.now s.views id v b.all_true at share in
      let w : View W E = after_miss v in
      let own : ViewIsTrue world b.now w = record {
        world_is = f.world_is;
        share_left = share;
        seen_begins = f.seen_begins;
        shorter_begins =
            f.shorter_begins;
        out_sees_all = f.out_sees_all;
      } in
      let shares = total-set (λ (u : View W E). u.share) s.views id v w at in
      let outs = total-set out_count s.views id v w at in
      let one_out = o.one_out in
      let all = b.shares in (
        w,
        keeps,
        tt,
        record {
          now = b.now;
          all_true = true_after_set world b.now s.views id w (λ k u n e. b.all_true k u e)
              (inr own);
          shares = omega arith;
          place = inr
              (record {
                word = ap (λ (k : ℕ). k ∷ []) (odd_or (length b.now));
                slot = refl;
                one_out = omega
                    arith;
              });
        },
        (
          (λ even. absurd (omega arith)),
          (λ _. refl),
          (λ whole.
              let lone = total_only out_count s.views id v at
              (λ k u n e. others_not_out world b.now s.views id v b.all_true at whole b.shares k
              u n e) in
              let mine = out_count_none v home in
              absurd (omega arith)),
        ),
      )

  pub take_keeps : (world : W) (slots id : ℕ) (m : Me (Option S) (View W E)) (st : Step (Option S))
      → 0 < m.0.share → m.0.has_state ≡ false → m.1 ≡ []
      → Allows (BoardRule world_of history_of world) slots id m 0 (λ n. bit_or n 1)
      (TakeTells world_of history_of st m)
  take_keeps world slots id m st share home bare =
      let P : List (ℕ × Option S) → Type 0 = λ l.
      Allows (BoardRule world_of history_of world) slots id (m.0, l) 0 (λ n. bit_or n 1)
      (TakeTells world_of history_of st (m.0, l)) in
      subst P (sym bare) (λ s b long at wide.
      ⊎_elim
      (λ h. subst (TakeStands world id m.0 st) (as_is s _ _ h.word h.slot)
      (take_at_home world id m.0 st share home s b at h))
      (λ o. subst (TakeStands world id m.0 st) (as_is s _ _ o.word o.slot)
      (take_while_out world id m.0 st share home s b at o))
      b.place)
