-- A split keeps the rule: one share goes to a new seat.
use Rattle.std.proofs.Common.{
  ◌≡◌,
  ℕ,
  ◌≤◌,
  false,
  List,
  [],
  ◌∷◌,
  slice_set,
  refl,
  inl,
  inr,
  ⊎_elim,
  arith,
}
use Rattle.atomic_table.specs.Table.{Splits}
use Rattle.turn_board.specs.declared.view.View.{View}
use Rattle.turn_board.specs.Views.{after_split, split_off, out_count}
use Rattle.turn_board.specs.Rule.{ViewIsTrue, BoardRule}
use Rattle.turn_board.proofs.OneSeesAll.{after_split_one_sees_all}
use Rattle.turn_board.proofs.Sums.{total-append, total-set}
use Rattle.turn_board.proofs.TrueViews.{is_true, true_after_set, true_after_push, out_count_none}

module _ {S W E : Type 0} (world_of : S → W) (history_of : S → List E) where
  pub split_keeps : (world : W) (id : ℕ) (v : View W E) → 2 ≤ v.share → v.has_state ≡ false
      → Splits (BoardRule world_of history_of world) id v (after_split v) (split_off v)
  split_keeps world id v share home s b at =
      let f = is_true world b.now s.views id v b.all_true at (omega arith) in
      let left : View W E = after_split v in
      let right : View W E = split_off v in
      let set_views = slice_set s.views id left in
      let own : ViewIsTrue world b.now left = record {
        world_is = f.world_is;
        share_left = omega arith;
        seen_begins = f.seen_begins;
        shorter_begins = f.shorter_begins;
        out_sees_all = f.out_sees_all;
      } in
      let new : ViewIsTrue world b.now right = record {
        world_is = f.world_is;
        share_left = omega arith;
        seen_begins = f.seen_begins;
        shorter_begins = f.shorter_begins;
        out_sees_all = λ e. absurd (cc);
      } in
      let shares = total-set (λ (u : View W E). u.share) s.views id v left at in
      let outs = total-set out_count s.views id v left at in
      let more_shares = total-append (λ (u : View W E). u.share) set_views (right ∷ []) in
      let more_outs = total-append out_count set_views (right ∷ []) in
      let mine = out_count_none v home in
      let all = b.shares in
      record {
        now = b.now;
        all_true = true_after_push world b.now set_views right
            (true_after_set world b.now s.views id left (λ k u n e. b.all_true k u e) (inr own))
            new;
        shares = omega arith;
        place = ⊎_elim
            (λ h. let none_out = h.none_out in inl
            (record {
              state = h.state;
              word = h.word;
              slot = h.slot;
              world_is = h.world_is;
              history_is =
                  h.history_is;
              none_out = omega arith;
              sees_all = after_split_one_sees_all b.now
                  s.views id v left right at refl (omega arith) h.sees_all;
            }))
            (λ o. let one_out = o.one_out in inr
            (record { word = o.word; slot = o.slot; one_out = omega arith }))
            b.place;
      }
