-- A fresh piece that is skipped writes, where it runs whole, to each output what is there.
use Rattle.std.proofs.Common.{
  ◌≡◌,
  ℕ,
  ◌==◌,
  ◌&&◌,
  Bool,
  true,
  false,
  List,
  [],
  ◌∷◌,
  length,
  Option,
  None,
  Some,
  refl,
  ap,
  sym,
  ◌∙◌,
  subst,
}
use Rattle.std.specs.Prelude.{option_map, if◌then◌else◌}
use Rattle.std.proofs.lemmas.Bool.{eqb-true, eq-eqb}
use Rattle.msb_values.specs.declared.item.Item.{Item}
use Rattle.msb_values.specs.declared.mode.Mode.TheVariants.{Incremental}
use Rattle.file_store.specs.declared.tree.File.{File}
use Rattle.result_cache.specs.Lists.{In}
use Rattle.result_cache.specs.declared.run.RunId.{RunId}
use Rattle.result_cache.proofs.RunTests.{clash, and_both}
use Rattle.msb_files.specs.Views as views
use Rattle.msb_files.specs.Views.{View}
use Rattle.task_trait.specs.declared.tools.ToolAnswer.{ToolAnswer}
use Rattle.task_trait.specs.declared.tools.ToolInput.{ToolInput}
use Rattle.target_incremental.specs.Ages.{any_is_old}
use Rattle.target_incremental.specs.Decisions.{by_pairs, old_items, of_items, by_shape, decision}
use Rattle.target_incremental.specs.declared.decision.Choice.{Choice}
use Rattle.target_incremental.specs.declared.decision.Choice.TheVariants.{
  Run as RunAll,
  Skip,
  Nothing,
  Part,
}
use Rattle.target_body.specs.States.{Run, State, view_of}
use Rattle.target_body.specs.Pieces.{choice_of}
use Rattle.build_declared.specs.Pieces.{ByItems}
use Rattle.build_declared.specs.Fresh.{IsAsInTree, IsTrusted, WritesSame, PieceIsFresh}
use Rattle.build_declared.specs.Pieces.{Piece}
use Rattle.build_declared.proofs.Trusted.{all-trusted, pairs-trusted}

abbrev pub is-skip : Choice → Bool
is-skip Skip = true
is-skip RunAll = false
is-skip Nothing = false
is-skip (Part old) = false

pub pairs-skip : (b : Bool) → (if b then RunAll else Skip) ≡ Skip → b ≡ false
pairs-skip true e = let h : false ≡ true = ap is-skip e in absurd (cc)
pairs-skip false e = refl

pub items-skip : (old : List Item) (n : ℕ) → of_items old n ≡ Skip → old ≡ []
items-skip [] n e = refl
items-skip (item ∷ old) n e = absurd (go (length (item ∷ old) == n) e)
  where
    go : (b : Bool) → (if b then RunAll else Part (item ∷ old)) ≡ Skip → ⊥
    go true e = let h : false ≡ true = ap is-skip e in cc
    go false e = let h : false ≡ true = ap is-skip e in cc

abbrev long : Option (List ℕ × List Item) → ℕ
long None = 0
long (Some z) = length z.1

-- a piece takes its items one by one where its lists are as long as these
module _ (p : Piece) (typed : List ℕ × List Item) (t : p.lists.items ≡ Some typed) where
  abbrev pub as_long : Bool
  as_long = (length p.lists.inputs == length typed.1) && (length p.lists.outputs == length typed.1)

  pub counts-items : as_long ≡ true → ByItems p typed.1
  counts-items g =
      let both = and_both (length p.lists.inputs == length typed.1)
      (length p.lists.outputs == length typed.1) g in
      record {
        kind = typed.0;
        typed = t;
        inputs = eqb-true (length p.lists.inputs) (length typed.1) both.0;
        outputs = eqb-true (length p.lists.outputs) (length typed.1) both.1;
      }

  pub counts-no-items : as_long ≡ false → (items : List Item) → ByItems p items → ⊥
  counts-no-items g items b =
      let s : Some typed ≡ Some (b.kind, items) = sym t ∙ b.typed in
      let l : length typed.1 ≡ length items = ap long s in
      let li : (length p.lists.inputs == length typed.1) ≡ true =
      eq-eqb (length p.lists.inputs) (length typed.1) (b.inputs ∙ sym l) in
      let lo : (length p.lists.outputs == length typed.1) ≡ true =
      eq-eqb (length p.lists.outputs) (length typed.1) (b.outputs ∙ sym l) in
      let both : as_long ≡ true =
      ap (λ z. z && (length p.lists.outputs == length typed.1)) li ∙ lo in
      clash as_long both g

-- no items are named
pub names-none : (p : Piece) → p.lists.items ≡ None → (items : List Item) → ByItems p items → ⊥
names-none p t items b = none p.lists.items t b.typed
  where
    none : (o : Option (List ℕ × List Item)) {s : List ℕ × List Item} → o ≡ None → o ≡ Some s → ⊥
    none o a b = cc

module _ (tools : List ℕ → ToolInput → ToolAnswer) (id : RunId) (run : Run) (p : Piece)
    (fresh : PieceIsFresh tools id run p) (x : State) (same : (path : List ℕ) →
    views.content (view_of run x) path ≡ views.content (view_of run p.from) path) where
  abbrev v : View
  v = view_of run x

  abbrev u : View
  u = view_of run p.from

  -- the output is there, and the whole piece writes it
  abbrev pub Kept : List ℕ → Type 0
  Kept output = (file : File) × IsAsInTree u output file × WritesSame tools id run p output file

  by-every : (first : List ℕ) (inputs : List (List ℕ)) → p.lists.inputs ≡ first ∷ inputs →
      ((items : List Item) → ByItems p items → ⊥) →
      any_is_old v (first ∷ inputs) p.lists.outputs ≡ false → (output : List ℕ) →
      In output p.lists.outputs → Kept output
  by-every first inputs e apart old output i =
      let all : (o : List ℕ) → In o p.lists.outputs →
      (file : File) × IsTrusted u p.lists.inputs o file =
      λ o q. let t = all-trusted v u refl same first inputs p.lists.outputs old o q in
      (t.0, subst (λ l. IsTrusted u l o t.0) (sym e) t.1) in
      let t = all output i in
      (t.0, t.1.output_there, fresh.by_pairs apart all output i t.0 t.1.output_there.there)

  by-each : (items : List Item) → ByItems p items →
      old_items v p.lists.inputs p.lists.outputs items ≡ [] → (output : List ℕ) →
      In output p.lists.outputs → Kept output
  by-each items b old output i =
      let t = pairs-trusted v u refl same p.lists.inputs p.lists.outputs items b.inputs b.outputs
      old output i in
      let w = fresh.by_items items b t.0 t.1 t.3.0 t.3.1 in (
        t.3.0,
        subst (λ o. IsAsInTree u o t.3.0) t.2 t.3.1.output_there,
        subst (λ o. WritesSame tools id run p o t.3.0) t.2 w,
      )

  by-shape : (first : List ℕ) (inputs : List (List ℕ)) → p.lists.inputs ≡ first ∷ inputs →
      (o : Option (List ℕ × List Item)) → p.lists.items ≡ o →
      by_shape v p.lists.inputs p.lists.outputs (option_map (λ typed. typed.1) o) ≡ Skip →
      (output : List ℕ) → In output p.lists.outputs → Kept output
  by-shape first inputs e None t h =
      by-every first inputs e (names-none p t)
      (subst (λ l. any_is_old v l p.lists.outputs ≡ false) e
      (pairs-skip (any_is_old v p.lists.inputs p.lists.outputs) h))
  by-shape first inputs e (Some typed) t h = go ((length p.lists.inputs == length typed.1)
      && (length p.lists.outputs == length typed.1)) refl h
    where
      go : (b : Bool) → ((length p.lists.inputs == length typed.1)
          && (length p.lists.outputs == length typed.1)) ≡ b →
          (if b then of_items (old_items v p.lists.inputs p.lists.outputs typed.1)
          (length typed.1) else by_pairs v p.lists.inputs p.lists.outputs) ≡ Skip →
          (output : List ℕ) → In output p.lists.outputs → Kept output
      go true g h =
          by-each typed.1 (counts-items p typed t g)
          (items-skip (old_items v p.lists.inputs p.lists.outputs typed.1) (length typed.1) h)
      go false g h =
          by-every first inputs e (counts-no-items p typed t g)
          (subst (λ l. any_is_old v l p.lists.outputs ≡ false) e
          (pairs-skip (any_is_old v p.lists.inputs p.lists.outputs) h))

  pub skip-kept : choice_of Incremental run p.lists x ≡ Skip → (output : List ℕ) →
      In output p.lists.outputs → Kept output
  skip-kept e output i = go p.lists.inputs p.lists.outputs refl refl e
    where
      go : (ins outs : List (List ℕ)) → p.lists.inputs ≡ ins → p.lists.outputs ≡ outs →
          decision v ins outs (option_map (λ typed. typed.1) p.lists.items) Incremental ≡ Skip →
          Kept output
      go [] outs a b h = let k : false ≡ true = ap is-skip h in absurd (cc)
      go (first ∷ ins) [] a b h = absurd (subst (In output) b i)
      go (first ∷ ins) (o ∷ outs) a b h =
          let h2 : by_shape v p.lists.inputs (o ∷ outs)
          (option_map (λ typed. typed.1) p.lists.items) ≡ Skip =
          subst (λ l. by_shape v l (o ∷ outs) (option_map (λ typed. typed.1) p.lists.items)
          ≡ Skip) (sym a) h in
          let h3 : by_shape v p.lists.inputs p.lists.outputs
          (option_map (λ typed. typed.1) p.lists.items) ≡ Skip =
          subst (λ l. by_shape v p.lists.inputs l (option_map (λ typed. typed.1) p.lists.items)
          ≡ Skip) (sym b) h2 in
          by-shape first ins a p.lists.items refl h3 output i
