-- The tree that a settled build leaves is one over which the repeated clean build is fresh, and in
-- which each output of a piece is no older than its inputs.
use Rattle.std.proofs.Common.{
  ◌≡◌,
  ℕ,
  ◌≤◌,
  ◌<◌,
  ◌⊎◌,
  inl,
  inr,
  List,
  [],
  ◌∷◌,
  ◌++◌,
  length,
  Option,
  None,
  Some,
  refl,
  ap,
  sym,
  ◌∙◌,
  subst,
}
use Rattle.std.specs.Prelude.{IsSome, unwrap_or}
use Rattle.std.proofs.lemmas.Slice.Eq.{bytes_eq-Decides}
use Rattle.msb_values.specs.Acts.{act_path}
use Rattle.msb_values.specs.declared.item.Item.{Item}
use Rattle.msb_values.specs.declared.mode.Mode.TheVariants.{Incremental}
use Rattle.msb_values.specs.declared.act.Act.{Act}
use Rattle.msb_values.specs.declared.scope.Scope.{Scope}
use Rattle.file_store.specs.Commits.{AreDone, bytes_there}
use Rattle.file_store.specs.Files.{file_at}
use Rattle.file_store.specs.declared.tree.File.{File}
use Rattle.file_store.specs.declared.tree.Tree.{Tree}
use Rattle.build_world.specs.Instances.{UsedTarget}
use Rattle.build_world.specs.declared.world.World.{World as Build}
use Rattle.result_cache.specs.declared.run.RunId.{RunId}
use Rattle.result_cache.specs.declared.record.Record.{Record}
use Rattle.result_cache.specs.declared.request.RequestResult.{RequestResult}
use Rattle.result_cache.specs.Lists.{In}
use Rattle.result_cache.specs.Journal as journals
use Rattle.result_cache.specs.Journal.{Journal, acted}
use Rattle.build_meaning.specs.Meaning.{Given, meaning}
use Rattle.build_meaning.specs.Sound.{IsBuilt}
use Rattle.build_incremental.specs.Alone.{last_bytes}
use Rattle.build_incremental.specs.Joins.{Anyhow}
use Rattle.build_incremental.proofs.Meanings.{AskedIn, meaning-each, weaker-meaning}
use Rattle.build_incremental.proofs.Entries.{none-or-some, content-there}
use Rattle.build_incremental.proofs.Numbered.{
  numbered,
  acted-in,
  acts_in,
  acts-segments,
  in-numbered,
}
use Rattle.msb_files.specs.FinalTree.{commit_list}
use Rattle.task_trait.specs.declared.tools.ToolAnswer.{ToolAnswer}
use Rattle.task_trait.specs.declared.tools.ToolInput.{ToolInput}
use Rattle.request_machine.specs.Worlds.{root_of, world_of, instances_of}
use Rattle.target_body.specs.Pieces.{choice_of}
use Rattle.target_body.specs.States.{Run, State, view_of, run_at}
use Rattle.request_machine.specs.Walk.{Site}
use Rattle.build_declared.specs.Builds.{in_mode}
use Rattle.build_declared.specs.Clean.{IsTrustworthy}
use Rattle.build_declared.specs.Declared.{IsDeclared, SucceedsWith, clean_pieces}
use Rattle.build_declared.specs.Fresh.{
  Pairing,
  pairs_of,
  FreshAt,
  IsFresh,
  PieceIsFresh,
  WritesSame,
}
use Rattle.build_declared.specs.NoOlder.{NoOlderAt, IsNoOlder, OutputIsNoOlder, PieceIsNoOlder}
use Rattle.build_declared.specs.Occurrences.{Occurrence, Occurs}
use Rattle.build_declared.specs.Pieces.{Piece, ByItems}
use Rattle.build_declared.specs.Repeated.{
  IsAgain,
  AreAgain,
  pieces_over,
  IsSettledBuild,
  over,
  clean_over,
  IsRepeatedBuild,
}
use Rattle.build_declared.specs.Settled.{Stood, is_of, pieces_at, pieces_by}
use Rattle.build_declared.specs.UpToDate.{SkipsEach}
use Rattle.build_declared.specs.Written.{since}
use Rattle.build_declared.proofs.Counterparts.{
  Counterpart,
  Fares,
  NeverNone,
  RunFares,
  buckets-same,
  run-fares,
  takes-or-none,
}
use Rattle.build_declared.proofs.FirstBuilds as first
use Rattle.build_declared.proofs.LastWrites.{
  RunAtLast,
  has-last,
  StoodBefore,
  there-last,
  left-output,
  left-input,
  written-output,
  written-newer,
}
use Rattle.build_declared.proofs.Owners.{run-owns}
use Rattle.build_declared.proofs.PairFates.{
  IsPaired,
  Fate,
  paired-output,
  paired-input,
  output-paired,
}
use Rattle.build_declared.proofs.SecondBuilds.{pieces-none}
use Rattle.build_declared.proofs.SkippedWorlds.{second-build-skips}

-- ---- a piece in the tree that is left

-- an output of a piece has the bytes that the whole piece writes by these acts, and is no older
-- than the inputs that it is paired with
pub record IsLeft (after : List File) (whole : List Act) (pair : Pairing) : Type 0 where
  pub file : File
  pub there : file_at pair.output after ≡ Some file
  pub bytes : last_bytes whole pair.output ≡ Some (Some file.bytes)
  pub inputs : (input : List ℕ) → In input pair.inputs →
      (other : File) × (file_at input after ≡ Some other) × (other.stamp ≤ file.stamp)

some-there : {X : Type 0} (o : Option X) → IsSome o → (x : X) × (o ≡ Some x)
some-there None h = absurd (cc)
some-there (Some x) h = (x, refl)

-- ---- a piece of the second build that is one of the first again

module _ (tools : List ℕ → ToolInput → ToolAnswer) (id : RunId) (before now : Run)
    (p q : Piece) (again : IsAgain tools id before now p q) (t : State) (acts : List Act)
    (succeeds : SucceedsWith tools id before q t acts)
    (left : (pair : Pairing) → IsPaired q pair → IsLeft now.files (since q.before acts) pair) where
  same-pair : (items : List Item) → ByItems p items → (pair : Pairing) →
      In pair (pairs_of p.lists.inputs p.lists.outputs) → IsPaired q pair
  same-pair items b pair i =
      let x = again.by_items items b in
      inl (
        x.0,
        x.1,
        subst (λ l. In pair (pairs_of q.lists.inputs l)) again.outputs
            (subst (λ l. In pair (pairs_of l p.lists.outputs)) again.inputs i),
      )

  every-pair : ((items : List Item) → ByItems p items → ⊥) → (output : List ℕ) →
      In output p.lists.outputs →
      IsPaired q (record { output = output; inputs = p.lists.inputs })
  every-pair apart output i = inr (
    (λ others b. let x = again.by_pairs others b in apart x.0 x.1),
    again.inputs,
    subst (In output) again.outputs i,
  )

  -- it writes what is there
  writes-left : (pair : Pairing) → IsPaired q pair → (file : File) →
      file_at pair.output now.files ≡ Some file → WritesSame tools id now p pair.output file
  writes-left pair paired file there =
      let x = left pair paired in
      let s : Some x.file ≡ Some file = sym x.there ∙ there in
      let same : x.file ≡ file = cc in
      let w = again.writes t acts succeeds in (
        w.0,
        w.1,
        w.2,
        w.3 pair.output (paired-output q pair paired)
            ∙ (x.bytes ∙ ap (λ (z : File). Some (Some z.bytes)) same),
      )

  older-left : (pair : Pairing) → IsPaired q pair →
      OutputIsNoOlder now.files pair.inputs pair.output
  older-left pair paired =
      let x = left pair paired in
      record { file = x.file; output_there = x.there; inputs_there = x.inputs }

  again-fresh : PieceIsFresh tools id now p
  again-fresh = record {
    by_items = λ items b pair i file trusted.
        writes-left pair (same-pair items b pair i) file trusted.output_there.there;
    by_pairs = λ apart all output i file there.
        writes-left (record { output = output; inputs = p.lists.inputs })
        (every-pair apart output i) file there;
  }

  again-no-older : PieceIsNoOlder now.files p
  again-no-older = record {
    by_items = λ items b pair i. older-left pair (same-pair items b pair i);
    by_pairs = λ apart output i.
        older-left (record { output = output; inputs = p.lists.inputs })
        (every-pair apart output i);
  }

-- it is one of these
again-in : (tools : List ℕ → ToolInput → ToolAnswer) (id : RunId) (before now : Run)
    (ps qs : List Piece) → AreAgain tools id before now ps qs → (p : Piece) → In p ps →
    (q : Piece) × In q qs × IsAgain tools id before now p q
again-in tools id before now [] qs a p i = absurd i
again-in tools id before now (x ∷ ps) [] a p i = absurd a
again-in tools id before now (x ∷ ps) (q ∷ qs) a p (inl e) =
    (q, inl refl, subst (λ z. IsAgain tools id before now z q) e a.0)
again-in tools id before now (x ∷ ps) (q ∷ qs) a p (inr i) =
    let y = again-in tools id before now ps qs a.1 p i in (y.0, inr y.1, y.2)

not-empty : (p : Piece) (ps : List Piece) → In p ps → ps ≡ [] → ⊥
not-empty p ps i e = subst (In p) e i

-- ---- the build

module _ (tools : List ℕ → ToolInput → ToolAnswer) (w : Build) (left : Tree)
    (clean out again : Given Site ToolInput RequestResult) (t : IsTrustworthy tools w clean)
    (b : IsSettledBuild tools w out)
    (commit : AreDone (commit_list out.journal) w.tree.files left.files)
    (r : IsRepeatedBuild tools w left clean again) where
  abbrev files : List File
  files = w.tree.files

  abbrev after : List File
  after = left.files

  pub means : meaning (world_of tools w) ≡ Some out
  means = b.whole.means

  -- what is known of the bodies of the clean build, and of those of the build
  abbrev KnownClean : Site → RunId → Journal → Record → Type 0
  KnownClean = first.KnownClean tools files (root_of w) (instances_of files) clean

  abbrev KnownHere : Site → RunId → Journal → Record → Type 0
  KnownHere = first.KnownHere tools files (root_of w) (instances_of files) clean
      t.declared t.fresh w.mode out means b.steady

  -- ---- one run of the build, with a piece

  module _ (target : UsedTarget) (scope : Scope) (id : RunId) (j k : Journal) (m made : Record)
      (here : KnownHere (record { target = Some target; scope = scope }) id j m)
      (there : KnownClean (record { target = Some target; scope = scope }) id k made)
      (alike : first.Alike files j k) (q : Piece)
      (fares : RunFares tools files target scope id j k alike here.not_yet there.not_yet w.mode q)
    where
      abbrev o : Occurrence
      o = record {
        site = record { target = Some target; scope = scope };
        run = id;
        from = j;
        made = m;
      }

      abbrev p : Piece
      p = fares.counter.0

      abbrev counter : Counterpart tools id (run_at files id target) scope j k alike
          here.not_yet there.not_yet w.mode fares.total p q
      counter = fares.counter.2

      at-last : RunAtLast files after out.journal id j fares.total
      at-last = first.run-at-last tools files (root_of w) (instances_of files) clean
          t.declared t.fresh w.mode out means b.steady after commit
          (record { target = Some target; scope = scope }) id j m here fares.outcome fares.total
          (here.told fares.outcome fares.total fares.ends)

      among : Occurs out.demand o
      among = here.said.0.0

      stood : (run : RunId) (n : ℕ) → Stood tools files w.mode out.demand o p run n →
          StoodBefore out.journal id j p.before run n
      stood run n (inl x) = inl x
      stood run n (inr f) = inr (
        f o among refl,
        first.stood-under tools files (root_of w) (instances_of files) clean
            t.declared t.fresh w.mode out means b.steady id run n f,
      )

      module _ (acts : List Act)
          (f : Fares tools id (run_at files id target) scope j k alike here.not_yet
          there.not_yet fares.total p q acts)
          (parts : fares.total ≡ f.rest ++ (f.new ++ p.before))
          (inputs_stood : (run : RunId) (n : ℕ) (act : Act) → In (acted run n act) out.journal →
          In (act_path act) p.lists.inputs → StoodBefore out.journal id j p.before run n)
          (outputs_own : (run : RunId) (n : ℕ) (act : Act) → In (acted run n act) out.journal →
          In (act_path act) p.lists.outputs → StoodBefore out.journal id j p.before run n
          ⊎ ((run ≡ id) × (length p.before ≤ n) × (n < length (f.new ++ p.before)))) where
        abbrev Input : List ℕ → Type 0
        Input path = In path p.lists.inputs

        abbrev Output : List ℕ → Type 0
        Output path = In path p.lists.outputs

        -- the piece begins with no act on a path
        none-begins : (path : List ℕ) → journals.content p.from.journal path ≡ None →
            journals.content (numbered id p.before ++ j) path ≡ None
        none-begins path n = subst (λ l. journals.content l path ≡ None) counter.begins n

        -- an input on which nobody acts is there at last
        untouched-there : (input : List ℕ) → Input input →
            journals.content out.journal input ≡ None →
            (g : File) × (file_at input after ≡ Some g)
        untouched-there input i none =
            let exists = b.settled.inputs_exist o among p fares.counter.1 input i in
            let x = some-there (unwrap_or (journals.content p.from.journal input)
            (bytes_there input files)) exists in
            there-last files after out.journal id j fares.total at-last p.before f.new f.rest parts
            Input Output inputs_stood outputs_own input x.0
            (subst (λ l. unwrap_or (journals.content l input) (bytes_there input files)
            ≡ Some x.0) counter.begins x.1) none

        abbrev Fared : Pairing → Type 0
        Fared pair = Fate (view_of (run_at files id target) p.from) f.new
            (since q.before f.more) pair

        -- an output is there at last
        output-there : (pair : Pairing) → IsPaired q pair → Fared pair →
            (g : File) × (file_at pair.output after ≡ Some g)
        output-there pair paired (inl wrote_it) =
            let o_in : Output pair.output = subst (λ l. In pair.output l.outputs)
            (sym counter.lists) (paired-output q pair paired) in
            let x = written-output files after out.journal id j fares.total at-last p.before f.new
            f.rest parts Input Output inputs_stood outputs_own pair.output wrote_it.bytes o_in
            wrote_it.ours in
            (x.0, x.1)
        output-there pair paired (inr left_it) =
            let o_in : Output pair.output = subst (λ l. In pair.output l.outputs)
            (sym counter.lists) (paired-output q pair paired) in (
              left_it.file,
              left-output files after out.journal id j fares.total at-last p.before
                  f.new f.rest parts Input Output inputs_stood outputs_own pair.output o_in
                  (none-begins pair.output left_it.untouched) left_it.not_now ∙ left_it.there,
            )

        -- where the inputs are there at last
        by-fate : ((input : List ℕ) → Input input → (g : File) × (file_at input after ≡ Some g)) →
            (pair : Pairing) → IsPaired q pair → Fared pair →
            IsLeft after (since q.before f.more) pair
        by-fate stays pair paired (inl wrote_it) =
            let o_in : Output pair.output = subst (λ l. In pair.output l.outputs)
            (sym counter.lists) (paired-output q pair paired) in
            let x = written-output files after out.journal id j fares.total at-last p.before f.new
            f.rest parts Input Output inputs_stood outputs_own pair.output wrote_it.bytes o_in
            wrote_it.ours in
            record {
              file = x.0;
              there = x.1;
              bytes = wrote_it.theirs ∙ ap (λ bytes. Some (Some bytes)) (sym x.2);
              inputs = λ input i.
                  let i_in : Input input = subst (λ l. In input l.inputs) (sym counter.lists)
                  (paired-input q pair paired input i) in
                  let g = stays input i_in in (
                    g.0,
                    g.1,
                    written-newer files after out.journal id j fares.total at-last p.before
                        f.new f.rest parts Input Output inputs_stood outputs_own pair.output
                        wrote_it.bytes o_in wrote_it.ours input i_in g.0 x.0 g.1 x.1,
                  );
            }
        by-fate stays pair paired (inr left_it) =
            let o_in : Output pair.output = subst (λ l. In pair.output l.outputs)
            (sym counter.lists) (paired-output q pair paired) in
            let same = left-output files after out.journal id j fares.total at-last p.before f.new
            f.rest parts Input Output inputs_stood outputs_own pair.output o_in
            (none-begins pair.output left_it.untouched) left_it.not_now in
            record {
              file = left_it.file;
              there = same ∙ left_it.there;
              bytes = left_it.theirs;
              inputs = λ input i.
                  let i_in : Input input = subst (λ l. In input l.inputs) (sym counter.lists)
                  (paired-input q pair paired input i) in
                  let g = left_it.inputs input i in
                  let kept = left-input files after out.journal id j fares.total at-last p.before
                  f.new f.rest parts Input Output inputs_stood outputs_own input i_in
                  (none-begins input g.2) in
                  (g.0, kept ∙ g.1, g.3);
            }

      -- what the whole piece comes to in the clean build, and what is left
      pub record WholeLeft : Type 0 where
        pub end : State
        pub acts : List Act
        pub succeeds : SucceedsWith tools id (run_at files id target) q end acts
        pub left_so : (pair : Pairing) → IsPaired q pair → IsLeft after (since q.before acts) pair

      -- how the piece fares, by what settled says of it
      record Faring : Type 0 where
        acts : List Act
        f : Fares tools id (run_at files id target) scope j k alike here.not_yet
            there.not_yet fares.total p q acts
        parts : fares.total ≡ f.rest ++ (f.new ++ p.before)
        inputs_stood : (run : RunId) (n : ℕ) (act : Act) → In (acted run n act) out.journal →
            In (act_path act) p.lists.inputs → StoodBefore out.journal id j p.before run n
        outputs_own : (run : RunId) (n : ℕ) (act : Act) → In (acted run n act) out.journal →
            In (act_path act) p.lists.outputs → StoodBefore out.journal id j p.before run n
            ⊎ ((run ≡ id) × (length p.before ≤ n) × (n < length (f.new ++ p.before)))

      faring : Faring
      faring =
          let s = b.settled.succeeds o among p fares.counter.1 in
          let f = counter.fares s.0 s.1 in
          record {
            acts = s.0;
            f = f;
            parts = f.within ∙ ap (λ l. f.rest ++ l) f.own;
            inputs_stood = λ run n act i u. stood run n
                (b.settled.inputs_stood o among p fares.counter.1 run n act i u);
            outputs_own = λ run n act i u.
                elim (b.settled.outputs_own o among p fares.counter.1 s.0 s.1 run n
                act i u) [
                  | inl y ↦ inl (stood run n y)
                  | inr y ↦ inr (y.0, y.1, subst (λ l. n < length l) f.own y.2)
                ];
          }

      -- it succeeds in the clean build
      whole-succeeds : (u : State) × (more : List Act)
          × SucceedsWith tools id (run_at files id target) q u more
      whole-succeeds = (faring.f.after, faring.f.more, faring.f.succeeds)

      untouched-stays : (input : List ℕ) → In input p.lists.inputs →
          journals.content out.journal input ≡ None → (g : File) × (file_at input after ≡ Some g)
      untouched-stays = untouched-there faring.acts faring.f faring.parts faring.inputs_stood
          faring.outputs_own

      output-stays : (pair : Pairing) → IsPaired q pair →
          (g : File) × (file_at pair.output after ≡ Some g)
      output-stays pair paired = output-there faring.acts faring.f faring.parts
          faring.inputs_stood faring.outputs_own pair paired (faring.f.each pair paired)

      whole-left : ((input : List ℕ) → In input p.lists.inputs →
          (g : File) × (file_at input after ≡ Some g)) → WholeLeft
      whole-left stays = record {
        end = faring.f.after;
        acts = faring.f.more;
        succeeds = faring.f.succeeds;
        left_so = λ pair paired. by-fate faring.acts faring.f faring.parts faring.inputs_stood
            faring.outputs_own stays pair paired (faring.f.each pair paired);
      }

  -- ---- a file of a piece on which some run has acted

  -- the run is one with a piece, since others keep off
  module _ (target : UsedTarget) (scope : Scope) (id : RunId) (j k : Journal) (m made : Record)
      (here : KnownHere (record { target = Some target; scope = scope }) id j m)
      (there : KnownClean (record { target = Some target; scope = scope }) id k made)
      (alike : first.Alike files j k)
      (pieces : pieces_by tools files w.mode (Some target) (record {
        site = record { target = Some target; scope = scope };
        run = id;
        from = j;
        made = m;
      }) ≡ [] → ⊥) where
    takes : NeverNone (run_at files id target)
    takes = elim (takes-or-none (run_at files id target)) [
      | inl h ↦ h
      | inr h ↦ absurd (pieces (pieces-none tools id (choice_of w.mode (run_at files id target))
          (run_at files id target) scope h j))
    ]

    fares-of : (q : Piece) → In q (clean_pieces tools files (Some target) scope id k) →
        RunFares tools files target scope id j k alike here.not_yet there.not_yet w.mode q
    fares-of = run-fares tools files target scope id j k alike here.not_yet there.not_yet w.mode
        there.said.0.0.0 there.said.0.0.1

    owned-there : (n : ℕ) (act : Act) → In (acted id n act) (acts_in id m.segments) →
        (g : File) × (file_at (act_path act) after ≡ Some g)
    owned-there n act i =
        let owns = run-owns tools files target scope id j k alike here.not_yet there.not_yet
        w.mode (buckets-same tools files target scope id j k alike here.not_yet there.not_yet
        w.mode) takes there.said.0.0.0 there.said.0.0.1 in
        let made_so = here.told owns.outcome owns.total owns.ends in
        let mine : In act owns.total = (in-numbered id id owns.total n act
        (subst (In (acted id n act)) (ap (λ (z : Record). acts_in id z.segments) made_so
        ∙ acts-segments id owns.total) i)).1 in
        let owner = owns.owned
        (λ q u. whole-succeeds target scope id j k m made here there alike q (fares-of q u))
        (act_path act) (has-last owns.total act mine) in
        let pair = output-paired owner.0 (act_path act) owner.2 in
        let g = output-stays target scope id j k m made here there alike owner.0
        (fares-of owner.0 owner.1) pair.0 pair.1 in
        (g.0, subst (λ z. file_at z after ≡ Some g.0) pair.2 g.1)

  acted-there : (o : Occurrence) → Occurs out.demand o → (p : Piece) →
      In p (pieces_at tools files w.mode o) → (id : RunId) (n : ℕ) (act : Act) →
      In (acted id n act) out.journal → is_of tools files w.mode (act_path act) p →
      (g : File) × (file_at (act_path act) after ≡ Some g)
  acted-there o among p there id n act i its =
      let x = first.acted-here tools files (root_of w) (instances_of files) clean
      t.declared t.fresh w.mode out means b.steady id n act i in
      let twin = x.3.said.1 in
      go x.0.target x.0.scope x.1 twin.0 x.2 twin.1 x.3 twin.2 twin.3 x.4
    where
      go : (target : Option UsedTarget) (scope : Scope) (j k : Journal) (m made : Record) →
          KnownHere (record { target = target; scope = scope }) id j m →
          KnownClean (record { target = target; scope = scope }) id k made →
          first.Alike files j k → In (acted id n act) (acts_in id m.segments) →
          (g : File) × (file_at (act_path act) after ≡ Some g)
      go target scope j k m made here clean_one alike u = by-target target here clean_one
          (λ e. b.settled.free (record {
            site = record { target = target; scope = scope };
            run = id;
            from = j;
            made = m;
          }) o here.said.0.0 among e p there act (acted-in id id n act m.segments u) its)
        where
          by-target : (target : Option UsedTarget) →
              KnownHere (record { target = target; scope = scope }) id j m →
              KnownClean (record { target = target; scope = scope }) id k made →
              (pieces_by tools files w.mode target (record {
                site = record { target = target; scope = scope };
                run = id;
                from = j;
                made = m;
              }) ≡ [] → ⊥) → (g : File) × (file_at (act_path act) after ≡ Some g)
          by-target None here clean_one pieces = absurd (pieces refl)
          by-target (Some target) here clean_one pieces = owned-there target scope id j k m made
              here clean_one alike pieces n act u

  -- each input of a piece is there at last
  input-stays : (target : UsedTarget) (scope : Scope) (id : RunId) (j k : Journal)
      (m made : Record) (here : KnownHere (record { target = Some target; scope = scope }) id j m)
      (there : KnownClean (record { target = Some target; scope = scope }) id k made)
      (alike : first.Alike files j k) (q : Piece)
      (fares : RunFares tools files target scope id j k alike here.not_yet there.not_yet w.mode q)
      (input : List ℕ) → In input fares.counter.0.lists.inputs →
      (g : File) × (file_at input after ≡ Some g)
  input-stays target scope id j k m made here there alike q fares input i =
      elim (none-or-some (journals.content out.journal input)) [
        | inl n ↦ untouched-stays target scope id j k m made here there alike q fares input i n
        | inr s ↦
            let c = content-there out.journal input s.0 s.1 in
            let e : act_path c.2 ≡ input = (bytes_eq-Decides (act_path c.2) input).0 c.4 in
            let g = acted-there (record {
              site = record { target = Some target; scope = scope };
              run = id;
              from = j;
              made = m;
            }) here.said.0.0 fares.counter.0 fares.counter.1 c.0 c.1 c.2 c.3
            (inl (subst (λ z. In z fares.counter.0.lists.inputs) (sym e) i)) in
            (g.0, subst (λ z. file_at z after ≡ Some g.0) e g.1)
      ]

  -- ---- one run of the second build, with a piece

  module _ (target : UsedTarget) (scope : Scope) (id : RunId) (k : Journal) (m : Record)
      (later : IsBuilt again.demand (record { target = Some target; scope = scope }) id k m)
      (p : Piece) (i : In p (clean_pieces tools after (Some target) scope id k)) where
    abbrev this : Occurrence
    this = record {
      site = record { target = Some target; scope = scope };
      run = id;
      from = k;
      made = m;
    }

    has-piece : pieces_over tools files after after this ≡ [] → ⊥
    has-piece = not-empty p (pieces_over tools files after after this) i

    abbrev StaysSo : Type 0
    StaysSo = PieceIsFresh tools id (run_at after id target) p × PieceIsNoOlder after p

    by-twin : (other : Option UsedTarget) (place : Scope) (j l : Journal) (h n : Record) →
        KnownHere (record { target = other; scope = place }) id j h →
        KnownClean (record { target = other; scope = place }) id l n → first.Alike files j l →
        StaysSo
    by-twin None place j l h n here there alike =
        let earlier : Occurrence = record {
          site = record { target = None; scope = place };
          run = id;
          from = l;
          made = n;
        } in
        absurd (r.same this later has-piece earlier there.said.1 refl)
    by-twin (Some other) place j l h n here there alike =
        let earlier : Occurrence = record {
          site = record { target = Some other; scope = place };
          run = id;
          from = l;
          made = n;
        } in
        let first_run : Run = run_at files id other in
        let next_run : Run = run_at after id target in
        let x = again-in tools id first_run next_run (pieces_over tools files after after this)
        (pieces_over tools files after files earlier)
        (r.same this later has-piece earlier there.said.1 refl) p i in
        let fares = run-fares tools files other place id j l alike here.not_yet there.not_yet
        w.mode there.said.0.0.0 there.said.0.0.1 x.0 x.1 in
        let y = whole-left other place id j l h n here there alike x.0 fares
        (input-stays other place id j l h n here there alike x.0 fares) in (
          again-fresh tools id first_run next_run p x.0 x.2 y.end y.acts y.succeeds y.left_so,
          again-no-older tools id first_run next_run p x.0 x.2 y.end y.acts y.succeeds y.left_so,
        )

    piece-stays : StaysSo
    piece-stays =
        let x = first.made-here tools files (root_of w) (instances_of files) clean
        t.declared t.fresh w.mode out means b.steady id m
        (r.made this later has-piece) in
        let twin = x.3.said.1 in
        by-twin x.0.target x.0.scope x.1 twin.0 x.2 twin.1 x.3 twin.2 twin.3

  -- ---- the second build

  fresh-at : (target : Option UsedTarget) (scope : Scope) (id : RunId) (k : Journal)
      (m : Record) → IsBuilt again.demand (record { target = target; scope = scope }) id k m →
      FreshAt tools after target scope id k
  fresh-at None scope id k m later = tt
  fresh-at (Some target) scope id k m later =
      λ p i. (piece-stays target scope id k m later p i).0

  no-older-at : (target : Option UsedTarget) (scope : Scope) (id : RunId) (k : Journal)
      (m : Record) → IsBuilt again.demand (record { target = target; scope = scope }) id k m →
      NoOlderAt tools after target scope id k
  no-older-at None scope id k m later = tt
  no-older-at (Some target) scope id k m later =
      λ p i. (piece-stays target scope id k m later p i).1

  pub stays-fresh : IsFresh tools after (clean_over tools w left) again.value again.journal
  stays-fresh = weaker-meaning (clean_over tools w left) (IsBuilt again.demand)
      (λ site id k m. FreshAt tools after site.target site.scope id k) Anyhow Anyhow
      (AskedIn again) (λ key. Unit {0})
      (λ site id k m later. fresh-at site.target site.scope id k m later)
      (λ c s n h. h) (λ key h. tt) again.value again.journal
      (meaning-each (clean_over tools w left) again r.whole.means)

  pub stays-no-older : IsNoOlder tools after (clean_over tools w left) again.value again.journal
  stays-no-older = weaker-meaning (clean_over tools w left) (IsBuilt again.demand)
      (λ site id k m. NoOlderAt tools after site.target site.scope id k) Anyhow Anyhow
      (AskedIn again) (λ key. Unit {0})
      (λ site id k m later. no-older-at site.target site.scope id k m later)
      (λ c s n h. h) (λ key h. tt) again.value again.journal
      (meaning-each (clean_over tools w left) again r.whole.means)

  -- so the next build has nothing to do, where what it is given is declared there
  pub next-skips : IsDeclared tools after (clean_over tools w left) again →
      (next : Given Site ToolInput RequestResult) →
      meaning (world_of tools (over left (in_mode Incremental w))) ≡ Some next →
      SkipsEach tools (over left (in_mode Incremental w)) next
  next-skips declared next meant = second-build-skips tools (over left (in_mode Incremental w))
      again (record { declared = declared; fresh = stays-fresh }) (record {
        no_older = stays-no-older;
        keep_off = r.free;
      }) refl next meant
