-- A load keeps the rule, and shows what the number says of the history that the seat saw.
use Rattle.std.proofs.Common.{
  ◌≡◌,
  ℕ,
  ◌+◌,
  ◌*◌,
  ◌/◌,
  ◌<◌,
  ◌⊎◌,
  List,
  [],
  ◌∷◌,
  length,
  Option,
  slice_index,
  slice_set,
  refl,
  sym,
  ap,
  ◌∙◌,
  subst,
  ⊎_elim,
  arith,
}
use mathlib.Core.Option.{Option as Maybe, some}
use lib.ListN.{get_elem?}
use Rattle.atomic_table.specs.Table.{
  State,
  Me,
  Step,
  Act,
  keeps,
  Allows,
  stepped,
  Valid,
  carried_after,
}
use Rattle.atomic_table.proofs.Lists.{set_again}
use Rattle.turn_board.specs.declared.view.View.{View}
use Rattle.turn_board.specs.Views.{out_count}
use Rattle.turn_board.specs.Rule.{StateIsHome, StateIsOut, BoardRule}
use Rattle.turn_board.specs.Steps.{LoadTells}
use Rattle.turn_board.proofs.Prefixes.{prefix_shorter, prefix_length}
use Rattle.turn_board.proofs.Sums.{total_only}
use Rattle.turn_board.proofs.TrueViews.{
  is_true,
  out_where_counted,
  others_not_out,
  sees_all_alone,
  as_is,
}

module _ {S W E : Type 0} (world_of : S → W) (history_of : S → List E) where
  abbrev LoadStands : W → ℕ → Me (Option S) (View W E) → Step (Option S)
      → State (Option S) (View W E) → Type 0
  LoadStands world id m st s = (w : View W E) × (a : Act (Option S)) × Valid s.homes m.1 a
      × BoardRule world_of history_of world (stepped s 0 (slice_index s.words 0) id m.1 w a)
      × LoadTells world_of history_of st m (slice_index s.words 0) (w, carried_after m.1 a)

  load_at : (world : W) (id : ℕ) (m : Me (Option S) (View W E)) (st : Step (Option S))
      → 0 < m.0.share → (n : ℕ) (homes : List (Maybe (Option S))) (views : List (View W E))
      → (b : BoardRule world_of history_of world
      (record { words = n ∷ []; homes = homes; views = views })) → length b.now ≡ n / 2
      → (m.0.share ≡ 128 → m.0.seen ≡ b.now) → get_elem? views id ≡ some m.0
      → LoadStands world id m st (record { words = n ∷ []; homes = homes; views = views })
  load_at world id m st share n homes views b half exact at =
      let f = is_true world b.now views id m.0 b.all_true at share in
      let same : slice_set views id m.0 ≡ views = set_again views id m.0 at in
      let le = prefix_length m.0.seen b.now f.seen_begins in (
        m.0,
        keeps,
        tt,
        subst
            (λ (l : List (View W E)). BoardRule world_of history_of world
            (record { words = n ∷ []; homes = homes; views = l })) (sym same) b,
        (
          refl,
          omega arith,
          λ out. ap length (f.out_sees_all out)
              ∙ half,
          λ whole. ap length (exact whole)
              ∙ half,
          λ short. prefix_shorter m.0.shorter_seen m.0.seen b.now f.shorter_begins
              f.seen_begins short,
        ),
      )

  pub load_keeps : (world : W) (slots id : ℕ) (m : Me (Option S) (View W E)) (st : Step (Option S))
      → 0 < m.0.share
      → Allows (BoardRule world_of history_of world) slots id m 0 (λ n. n)
      (LoadTells world_of history_of st m)
  load_keeps world slots id m st share s b long at wide =
      let f = is_true world b.now s.views id m.0 b.all_true at share in
      let at_word = λ (n : ℕ) (e : s.words ≡ n ∷ []) (half : length b.now ≡ n / 2)
      (exact : m.0.share ≡ 128 → m.0.seen ≡ b.now).
      let whole : record { words = n ∷ []; homes = s.homes; views = s.views }
      ≡ s = as_is s (n ∷ []) s.homes e refl in
      let there : BoardRule world_of history_of world
      (record { words = n ∷ []; homes = s.homes; views = s.views }) =
      let P : List ℕ → Type 0 = λ l. StateIsHome world_of history_of world b.now l s.homes s.views
      ⊎ StateIsOut b.now l s.homes s.views in
      record { now = b.now; all_true = b.all_true; shares = b.shares; place = subst P e b.place } in
      subst (LoadStands world id m st) whole
      (load_at world id m st share n s.homes s.views there half exact at) in
      ⊎_elim
      (λ h. at_word (2 * length b.now) h.word (omega arith)
      (λ all. sees_all_alone b.now s.views id m.0 at all b.shares h.sees_all))
      (λ o. at_word (2 * length b.now + 1) o.word (omega arith) (λ all.
      let lone = total_only out_count s.views id m.0 at
      (λ k u n e. others_not_out world b.now s.views id m.0 b.all_true at all b.shares k u n e)
      in
      f.out_sees_all (out_where_counted m.0 (sym lone ∙ o.one_out))))
      b.place
