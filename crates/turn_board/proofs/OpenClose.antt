-- The rule holds of a new board, and says what a seat with all shares finds at the end.
use Rattle.std.proofs.Common.{
  ◌≡◌,
  ℕ,
  ◌*◌,
  false,
  List,
  [],
  ◌∷◌,
  length,
  map,
  Option,
  Some,
  refl,
  sym,
  ap,
  ◌∙◌,
  inl,
  ⊎_elim,
  arith,
}
use mathlib.Core.Option.{some, some-injective, some-ne-none}
use lib.ListN.{get_elem?}
use Rattle.atomic_table.specs.Table.{Final, Seen, opening}
use Rattle.turn_board.specs.declared.view.View.{View}
use Rattle.turn_board.specs.Views.{opening_view, out_count}
use Rattle.turn_board.specs.Rule.{ViewIsTrue, BoardRule}
use Rattle.turn_board.proofs.Prefixes.{prefix_self}
use Rattle.turn_board.proofs.Sums.{total_only}
use Rattle.turn_board.proofs.TrueViews.{
  is_true,
  true_after_push,
  out_count_none,
  others_not_out,
  sees_all_alone,
}

module _ {S W E : Type 0} (world_of : S → W) (history_of : S → List E) where
  pub open_keeps : (first : S) (words : List ℕ) (slots : List (Option S))
      → words ≡ (2 * length (history_of first)) ∷ [] → slots ≡ Some first ∷ []
      → BoardRule world_of history_of (world_of first)
      (opening words slots (opening_view (world_of first) (history_of first)))
  open_keeps first words slots word slot =
      let v : View W E = opening_view (world_of first) (history_of first) in
      let own : ViewIsTrue (world_of first) (history_of first) v = record {
        world_is = refl;
        share_left = omega arith;
        seen_begins = prefix_self (history_of first);
        shorter_begins = (history_of first, refl);
        out_sees_all = λ e. refl;
      } in
      record {
        now = history_of first;
        all_true = true_after_push (world_of first) (history_of first) [] v
            (λ at u e. absurd (some-ne-none u (sym e))) own;
        shares = refl;
        place = inl
            (record {
              state = first;
              word = word;
              slot = ap (map some) slot;
              world_is = refl;
              history_is =
                  refl;
              none_out = refl;
              sees_all = record
                  { at = 0; view = v; here = refl; share_left = omega arith; whole = refl };
            });
      }

  -- what a seat with all shares finds in the slot at the end
  abbrev pub CloseFinds : View W E → List (Option S) → Type 0
  CloseFinds v xs = (state : S) × (get_elem? xs 0 ≡ some (Some state))
      × (v.world ≡ Some (world_of state)) × (v.seen ≡ history_of state)

  pub close_finds : (world : W) (id : ℕ) (v : View W E) (ws : List ℕ) (xs : List (Option S))
      → v.share ≡ 128 → v.has_state ≡ false
      → Final (Seen (BoardRule world_of history_of world) id v) ws xs → CloseFinds v xs
  close_finds world id v ws xs whole home (s, (b, at), words, long, homes) =
      let f = is_true world b.now s.views id v b.all_true at (omega arith) in
      ⊎_elim
      (λ h. (
        h.state,
        homes 0 (Some h.state) (ap (λ l. get_elem? l 0) h.slot),
        f.world_is ∙ ap Some (sym h.world_is),
        sees_all_alone b.now s.views id v at whole b.shares h.sees_all ∙ sym h.history_is,
      ))
      (λ o.
      let lone = total_only out_count s.views id v at
      (λ k u n e. others_not_out world b.now s.views id v b.all_true at whole b.shares k u n e)
      in
      let mine = out_count_none v home in
      let one_out = o.one_out in
      absurd (omega arith))
      b.place

  -- the state in the slot is the one that the rule speaks of
  pub close_gives : (v : View W E) (xs : List (Option S)) (slot : Option S) (state : S)
      → CloseFinds v xs → get_elem? xs 0 ≡ some slot → slot ≡ Some state
      → (v.world ≡ Some (world_of state)) × (v.seen ≡ history_of state)
  close_gives v xs slot state t at is =
      let slots : Some t.0 ≡ slot = some-injective (Some t.0) slot (sym t.1 ∙ at) in
      let same : t.0 ≡ state = cc in
      (t.2 ∙ ap (λ s. Some (world_of s)) same, t.3 ∙ ap history_of same)
