-- A join keeps the rule: both shares, and the longer of both histories, go to one seat.
use Rattle.std.proofs.Common.{
  ◌≡◌,
  ℕ,
  ◌<◌,
  Bool,
  true,
  false,
  cond,
  List,
  length,
  nat_lt,
  slice_set,
  refl,
  sym,
  ◌∙◌,
  inl,
  inr,
  ⊎_elim,
  arith,
}
use mathlib.Core.List.{IsPrefix}
use mathlib.Core.Option.{some}
use lib.ListN.{get_elem?}
use Rattle.atomic_table.specs.Table.{Joins}
use Rattle.atomic_table.proofs.Lists.{set_else}
use Rattle.turn_board.specs.declared.view.View.{View}
use Rattle.turn_board.specs.Views.{spent_view, after_join, out_count}
use Rattle.turn_board.specs.Rule.{ViewIsTrue, BoardRule}
use Rattle.turn_board.proofs.OneSeesAll.{after_join_one_sees_all}
use Rattle.turn_board.proofs.Sums.{total-set}
use Rattle.turn_board.proofs.TrueViews.{is_true, true_after_set, out_count_none}

either_one : {A : Type 0} (P : A → Type 0) (b : Bool) (x y : A) → P x → P y → P (cond b x y)
either_one P true x y p q = p
either_one P false x y p q = q

module _ {S W E : Type 0} (world_of : S → W) (history_of : S → List E) where
  pub join_keeps : (world : W) (id : ℕ) (v : View W E) (other : ℕ) (u : View W E) → 0 < v.share
      → v.has_state ≡ false → 0 < u.share → u.has_state ≡ false
      → Joins (BoardRule world_of history_of world) id v other u (after_join v u) spent_view
  join_keeps world id v other u share home share' home' s b at apart at' =
      let there : get_elem? s.views other ≡ some u = sym
      (set_else s.views id other (after_join v u) apart) ∙ at' in
      let f = is_true world b.now s.views id v b.all_true at share in
      let f' = is_true world b.now s.views other u b.all_true there share' in
      let both : View W E = after_join v u in
      let set_views = slice_set s.views id both in
      let own : ViewIsTrue world b.now both = record {
        world_is = f.world_is;
        share_left = omega arith;
        seen_begins = either_one (λ l. IsPrefix l b.now) (nat_lt (length v.seen) (length u.seen))
            u.seen v.seen f'.seen_begins f.seen_begins;
        shorter_begins = either_one (λ l. IsPrefix l b.now) (nat_lt (length v.seen) (length u.seen))
            v.seen u.seen f.seen_begins f'.seen_begins;
        out_sees_all = λ e. absurd (cc);
      } in
      let shares = total-set (λ (x : View W E). x.share) s.views id v both at in
      let outs = total-set out_count s.views id v both at in
      let more_shares = total-set (λ (x : View W E). x.share) set_views other u spent_view at' in
      let more_outs = total-set out_count set_views other u spent_view at' in
      let mine = out_count_none v home in
      let theirs = out_count_none u home' in
      let all = b.shares in
      record {
        now = b.now;
        all_true = true_after_set world b.now set_views other spent_view
            (λ k x n e. true_after_set world b.now s.views id both
            (λ k' x' n' e'. b.all_true k' x' e') (inr own) k x e) (inl refl);
        shares = omega arith;
        place = ⊎_elim
            (λ h. let none_out = h.none_out in inl
            (record {
              state = h.state;
              word = h.word;
              slot = h.slot;
              world_is = h.world_is;
              history_is =
                  h.history_is;
              none_out = omega arith;
              sees_all = after_join_one_sees_all b.now
                  s.views id other v u both apart at there f.seen_begins f'.seen_begins refl
                  (omega arith) h.sees_all;
            }))
            (λ o. let one_out = o.one_out in inr
            (record { word = o.word; slot = o.slot; one_out = omega arith }))
            b.place;
      }
