-- Over the files that the build leaves the worked set is repeated, and each output is no older than
-- its input.
use Rattle.std.proofs.Common.{
  ◌≡◌,
  ◌≢◌,
  ◌<◌,
  ◌≤◌,
  ◌⊎◌,
  ℕ,
  inl,
  inr,
  List,
  [],
  ◌∷◌,
  Some,
  refl,
  ap,
  sym,
  ◌∙◌,
  subst,
  arith,
}
use Rattle.std.specs.Prelude.{IfSome, codes, if◌then◌else◌}
use Rattle.std.specs.Str.{bytes_eq, chars}
use Rattle.std.proofs.lemmas.Slice.Eq.{bytes_eq-Decides}
use Rattle.caseless.specs.Caseless.{default_case_fold as fold_case}
use Rattle.ucd_case.specs.CaseFolding.{full_folding as folding}
use Rattle.ucd_table.specs.Rows.{value_in}
use Rattle.ucd_case.specs.FullFoldingRows.{full_folding_rows as rows}
use Rattle.msb_values.specs.declared.mode.Mode.TheVariants.{Incremental, Clean}
use Rattle.msb_values.specs.declared.act.Act.{Act}
use Rattle.msb_expression.specs.Machine.{run as read_on}
use Rattle.file_store.specs.Commits.{AreDone}
use Rattle.file_store.specs.Files.{file_at}
use Rattle.file_store.specs.Writes.{IsWritten}
use Rattle.file_store.specs.declared.tree.File.{File}
use Rattle.result_cache.specs.Lists.{In}
use Rattle.result_cache.specs.Same.{same_run, same_instance}
use Rattle.result_cache.proofs.RunTests.{tells}
use Rattle.build_meaning.specs.Sound.{IsMade}
use Rattle.build_incremental.specs.Alone.{last_bytes}
use Rattle.build_incremental.specs.Joins.{Anyhow}
use Rattle.msb_files.specs.FinalTree.{commit_list}
use Rattle.task_trait.specs.declared.tools.ToolAnswer.{ToolAnswer}
use Rattle.task_trait.specs.declared.tools.ToolInput.{ToolInput}
use Rattle.target_body.specs.States.{State}
use Rattle.build_declared.specs.Declared.{SucceedsWith}
use Rattle.build_declared.specs.Fresh.{Pairing, pairs_of}
use Rattle.build_declared.specs.NoOlder.{OutputIsNoOlder, PieceIsNoOlder, NoOlderAt}
use Rattle.build_declared.specs.Occurrences.{Occurrence, Occurs}
use Rattle.build_declared.specs.Pieces.{Piece}
use Rattle.build_declared.specs.Repeated.{
  IsAgain,
  AreAgain,
  pieces_over,
  HasSame,
  IsRepeatedBuild,
  over,
}
use Rattle.build_declared.specs.UpToDate.{IsUpToDate}
use Rattle.build_declared.specs.Written.{since}
use Rattle.declared_witness.proofs.Computed.{clean-whole, steady, the-body}
use Rattle.declared_witness.proofs.Declared.{all_acts, acts-so}
use Rattle.declared_witness.proofs.Derivations.{clean-each}
use Rattle.declared_witness.proofs.Pieces.{
  lists,
  piece,
  run_over,
  by-items,
  state_in,
  pieces-so,
  placed-pieces,
  whole,
}
use Rattle.declared_witness.proofs.Settled.{none-free}
use Rattle.declared_witness.specs.ThreeCopies.{
  sources,
  target,
  scope,
  file,
  files,
  files_left,
  tree_left,
  build,
  run,
  clean_record,
  clean_journal,
  clean_given,
  part_journal,
  body_of,
}

-- ---- what the build leaves

-- of these files each has the path, or a lesser stamp
abbrev AreBelow : List ℕ → ℕ → List File → Type 0
AreBelow path stamp [] = Unit {0}
AreBelow path stamp (f ∷ fs) = ((f.path ≡ path) ⊎ (f.stamp < stamp)) × AreBelow path stamp fs

below : (path : List ℕ) (stamp : ℕ) (fs : List File) → AreBelow path stamp fs → (q : List ℕ) →
    q ≢ path → IfSome (file_at q fs) (λ g. g.stamp < stamp)
below path stamp [] h q n = tt
below path stamp (f ∷ fs) h q n = elim (tells (bytes_eq f.path q)) [
  | inl e ↦ subst (λ b. IfSome (if b then Some f else file_at q fs) (λ g. g.stamp < stamp))
      (sym e) (elim h.0 [
        | inl g ↦ absurd (n (sym ((bytes_eq-Decides f.path q).0 e) ∙ g))
        | inr l ↦ l
      ])
  | inr e ↦ subst (λ b. IfSome (if b then Some f else file_at q fs) (λ g. g.stamp < stamp))
      (sym e) (below path stamp fs h.1 q n)
]

abbrev second_path : List ℕ
second_path = codes "o/2.o"

others : (q : List ℕ) → q ≢ second_path → file_at q files_left ≡ file_at q files
others q n = elim (tells (bytes_eq second_path q)) [
  | inl e ↦ absurd (n (sym ((bytes_eq-Decides second_path q).0 e)))
  | inr e ↦ rw e refl
]

five : 5 < 10
five = omega arith

nine : 9 < 10
nine = omega arith

one : 1 < 10
one = omega arith

seven : 7 < 10
seven = omega arith

second-written : IsWritten second_path (codes "two") files files_left
second-written = record {
  here = (
    refl,
    below second_path 10 files_left
        (inr five, (inr nine, (inr five, (inr one, (inr seven, (inl refl, (inr seven, tt))))))),
  );
  others = others;
}

pub done : AreDone (commit_list part_journal) files files_left
done = (files_left, second-written, refl)

-- ---- the clean build over it

module _ (tools : List ℕ → ToolInput → ToolAnswer) where
  abbrev again : Occurrence
  again = body_of clean_record

  made-so : (o : Occurrence) → Occurs clean_given.demand o →
      IsMade clean_given.demand o.run o.made
  made-so o there = (o.site, o.from, there)

  abbrev whole_left : State
  whole_left = state_in (whole (codes "two") 10 tools)

  left-succeeds : SucceedsWith tools run (run_over (codes "two") 10) piece whole_left all_acts
  unfolding same_run same_instance read_on fold_case folding value_in rows chars
  left-succeeds = refl

  abbrev Again : Piece → Piece → Type 0
  Again p q = IsAgain tools run (run_over (codes "old") 7) (run_over (codes "two") 10) p q

  is-again : Again piece piece
  is-again = record {
    inputs = refl;
    outputs = refl;
    by_items = λ items by. (items, by);
    by_pairs = λ items by. (items, by);
    writes = λ t acts e. (
      whole_left,
      all_acts,
      left-succeeds,
      λ output i. ap (λ (ps : List Act). last_bytes (since [] ps) output)
          (acts-so (codes "old") 7 tools t acts e),
    );
  }

  abbrev Agains : List Piece → List Piece → Type 0
  Agains ps qs = AreAgain tools run (run_over (codes "old") 7) (run_over (codes "two") 10) ps qs

  agains : Agains (pieces_over tools files files_left files_left again)
      (pieces_over tools files files_left files again)
  agains = subst (λ (ps : List Piece). Agains ps (pieces_over tools files files_left files again))
      (sym (pieces-so (codes "two") 10 tools))
      (subst (λ (qs : List Piece). Agains (piece ∷ []) qs)
      (sym (pieces-so (codes "old") 7 tools)) (is-again, tt))

  abbrev Same : Occurrence → Occurrence → Type 0
  Same o earlier = HasSame tools files files_left o earlier

  same-so : (o : Occurrence) → Occurs clean_given.demand o → (earlier : Occurrence) →
      Occurs clean_given.demand earlier → Same o earlier
  same-so o there earlier before =
      subst (λ (z : Occurrence). Same z earlier) (the-body clean_record clean_journal o there)
      (subst (λ (z : Occurrence). Same again z)
      (the-body clean_record clean_journal earlier before) agains)

  pub repeats : IsRepeatedBuild tools (build Incremental) tree_left clean_given clean_given
  repeats = record {
    whole = clean-whole tools (codes "two") 10;
    steady = steady clean_record clean_journal;
    made = λ o i some. made-so o i;
    same = λ o i some earlier j r. same-so o i earlier j;
    none_lost = λ o i some. made-so o i;
    free = none-free tools files_left Clean clean_record clean_journal
        (placed-pieces (codes "two") 10 tools clean_record);
  }

  -- ---- no output is older than its input

  abbrev Younger : Pairing → Type 0
  Younger pair = OutputIsNoOlder files_left pair.inputs pair.output

  abbrev pair : List ℕ → List ℕ → Pairing
  pair input output = record { output = output; inputs = input ∷ [] }

  only : (input : List ℕ) (source : File) → file_at input files_left ≡ Some source → (stamp : ℕ) →
      source.stamp ≤ stamp → (path : List ℕ) → In path (input ∷ []) →
      (other : File) × (file_at path files_left ≡ Some other) × (other.stamp ≤ stamp)
  only input source found stamp le path (inl e) =
      subst (λ (z : List ℕ). (other : File) × (file_at z files_left ≡ Some other)
      × (other.stamp ≤ stamp)) e (source, found, le)
  only input source found stamp le path (inr i) = absurd i

  first-young : Younger (pair (codes "1.c") (codes "o/1.o"))
  first-young = record {
    file = file (codes "o/1.o") (codes "one") 7;
    output_there = refl;
    inputs_there = only (codes "1.c") (file (codes "1.c") (codes "one") 5) refl 7 five-seven;
  }
    where
      five-seven : 5 ≤ 7
      five-seven = omega arith

  second-young : Younger (pair (codes "2.c") (codes "o/2.o"))
  second-young = record {
    file = file (codes "o/2.o") (codes "two") 10;
    output_there = refl;
    inputs_there = only (codes "2.c") (file (codes "2.c") (codes "two") 9) refl 10 nine-ten;
  }
    where
      nine-ten : 9 ≤ 10
      nine-ten = omega arith

  third-young : Younger (pair (codes "3.c") (codes "o/3.o"))
  third-young = record {
    file = file (codes "o/3.o") (codes "three") 7;
    output_there = refl;
    inputs_there = only (codes "3.c") (file (codes "3.c") (codes "three") 5) refl 7 five-seven;
  }
    where
      five-seven : 5 ≤ 7
      five-seven = omega arith

  each-young : (q : Pairing) → In q (pairs_of lists.inputs lists.outputs) → Younger q
  each-young q (inl e) = subst Younger e first-young
  each-young q (inr (inl e)) = subst Younger e second-young
  each-young q (inr (inr (inl e))) = subst Younger e third-young
  each-young q (inr (inr (inr i))) = absurd i

  piece-young : PieceIsNoOlder files_left piece
  piece-young = record {
    by_items = λ items by q i. each-young q i;
    by_pairs = λ no output i. absurd (no sources by-items);
  }

  young-of : (p : Piece) → In p (piece ∷ []) → PieceIsNoOlder files_left p
  young-of p (inl e) = subst (λ (z : Piece). PieceIsNoOlder files_left z) e piece-young
  young-of p (inr i) = absurd i

  at-run : NoOlderAt tools files_left (Some target) scope run []
  at-run p i = young-of p
      (subst (λ (ps : List Piece). In p ps) (pieces-so (codes "two") 10 tools) i)

  pub up-to-date : IsUpToDate tools (over tree_left (build Incremental)) clean_given
  up-to-date = record {
    no_older = clean-each tools (λ site id journal made.
        NoOlderAt tools files_left site.target site.scope id journal) Anyhow
        (codes "two") 10 at-run;
    keep_off = none-free tools files_left Clean clean_record clean_journal
        (placed-pieces (codes "two") 10 tools clean_record);
  }
