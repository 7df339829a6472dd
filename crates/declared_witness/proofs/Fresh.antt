-- The worked set is fresh: its first and its third output are trusted, and hold what is copied.
use Rattle.std.proofs.Common.{
  ◌≡◌,
  ◌≤◌,
  ℕ,
  inl,
  inr,
  List,
  [],
  ◌∷◌,
  Option,
  None,
  Some,
  refl,
  ap,
  sym,
  subst,
  arith,
}
use Rattle.std.specs.Prelude.{Result, codes}
use Rattle.std.specs.Str.{chars}
use Rattle.caseless.specs.Caseless.{default_case_fold as fold_case}
use Rattle.ucd_case.specs.CaseFolding.{full_folding as folding}
use Rattle.ucd_table.specs.Rows.{value_in}
use Rattle.ucd_case.specs.FullFoldingRows.{full_folding_rows as rows}
use Rattle.msb_values.specs.declared.mode.Mode.TheVariants.{Clean}
use Rattle.msb_expression.specs.Machine.{run as read_on}
use Rattle.file_store.specs.declared.tree.File.{File}
use Rattle.result_cache.specs.Lists.{In}
use Rattle.result_cache.specs.Same.{same_run, same_instance}
use Rattle.build_incremental.specs.Joins.{Anyhow}
use Rattle.task_trait.specs.declared.tools.ToolAnswer.{ToolAnswer}
use Rattle.task_trait.specs.declared.tools.ToolInput.{ToolInput}
use Rattle.target_body.specs.States.{Run, State, Stopped, view_of}
use Rattle.build_declared.specs.Ends.{End}
use Rattle.build_declared.specs.Fresh.{
  IsTrusted,
  Pairing,
  pairs_of,
  WritesSame,
  PieceIsFresh,
  FreshAt,
  IsFresh,
}
use Rattle.build_declared.specs.Pieces.{Piece}
use Rattle.declared_witness.proofs.Derivations.{clean-each}
use Rattle.declared_witness.proofs.Pieces.{
  lists,
  piece,
  run_over,
  by-items,
  state_in,
  acts_in,
  pieces-so,
  whole,
}
use Rattle.declared_witness.specs.ThreeCopies.{
  sources,
  target,
  scope,
  files,
  file,
  world,
  run,
  clean_given,
}

abbrev the_run : Run
the_run = run_over (codes "old") 7

module _ (tools : List ℕ → ToolInput → ToolAnswer) where
  abbrev Fresh : Pairing → Type 0
  Fresh pair = (f : File) → IsTrusted (view_of the_run piece.from) pair.inputs pair.output f →
      WritesSame tools run the_run piece pair.output f

  abbrev Holds : File → Type 0
  Holds f = WritesSame tools run the_run piece f.path f

  abbrev all_of_it : Option (End (Result State Stopped))
  all_of_it = whole (codes "old") 7 tools

  abbrev found : Option File → File
  found None = file [] [] 0
  found (Some f) = f

  first-same : Holds (file (codes "o/1.o") (codes "one") 7)
  unfolding same_run same_instance read_on fold_case folding value_in rows chars
  first-same = (state_in all_of_it, acts_in all_of_it, refl, refl)

  third-same : Holds (file (codes "o/3.o") (codes "three") 7)
  unfolding same_run same_instance read_on fold_case folding value_in rows chars
  third-same = (state_in all_of_it, acts_in all_of_it, refl, refl)

  abbrev pair : List ℕ → List ℕ → Pairing
  pair input output = record { output = output; inputs = input ∷ [] }

  first-fresh : Fresh (pair (codes "1.c") (codes "o/1.o"))
  first-fresh f trusted =
      let e : file (codes "o/1.o") (codes "one") 7 ≡ f = ap found trusted.output_there.there in
      subst (λ (z : File). WritesSame tools run the_run piece (codes "o/1.o") z) e first-same

  third-fresh : Fresh (pair (codes "3.c") (codes "o/3.o"))
  third-fresh f trusted =
      let e : file (codes "o/3.o") (codes "three") 7 ≡ f = ap found trusted.output_there.there in
      subst (λ (z : File). WritesSame tools run the_run piece (codes "o/3.o") z) e third-same

  -- the second output is older than its source
  not-trusted : (f other : File) → file (codes "o/2.o") (codes "old") 7 ≡ f →
      file (codes "2.c") (codes "two") 9 ≡ other → other.stamp ≤ f.stamp → ⊥
  not-trusted f other e g le =
      nine (subst (λ (n : ℕ). n ≤ 7) (sym (ap (λ (z : File). z.stamp) g))
      (subst (λ (n : ℕ). other.stamp ≤ n) (sym (ap (λ (z : File). z.stamp) e)) le))
    where
      nine : 9 ≤ 7 → ⊥
      nine h = omega arith

  second-fresh : Fresh (pair (codes "2.c") (codes "o/2.o"))
  second-fresh f trusted =
      let source = trusted.inputs_there (codes "2.c") (inl refl) in
      absurd (not-trusted f source.0 (ap found trusted.output_there.there)
      (ap found source.1.there) source.2)

  each-fresh : (p : Pairing) → In p (pairs_of lists.inputs lists.outputs) → Fresh p
  each-fresh p (inl e) = subst Fresh e first-fresh
  each-fresh p (inr (inl e)) = subst Fresh e second-fresh
  each-fresh p (inr (inr (inl e))) = subst Fresh e third-fresh
  each-fresh p (inr (inr (inr i))) = absurd i

  piece-fresh : PieceIsFresh tools run the_run piece
  piece-fresh = record {
    by_items = λ items by p i f trusted. each-fresh p i f trusted;
    by_pairs = λ no all output i f e. absurd (no sources by-items);
  }

  fresh-of : (p : Piece) → In p (piece ∷ []) → PieceIsFresh tools run the_run p
  fresh-of p (inl e) = subst (λ (z : Piece). PieceIsFresh tools run the_run z) e piece-fresh
  fresh-of p (inr i) = absurd i

  at-run : FreshAt tools files (Some target) scope run []
  at-run p i = fresh-of p (subst (λ (pieces : List Piece). In p pieces)
      (pieces-so (codes "old") 7 tools) i)

  pub fresh : IsFresh tools files (world tools files Clean) clean_given.value clean_given.journal
  fresh = clean-each tools (λ site id journal made.
      FreshAt tools files site.target site.scope id journal) Anyhow
      (codes "old") 7 at-run
