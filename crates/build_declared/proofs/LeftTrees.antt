-- The stamps of the tree that a commit leaves: what was written later has a greater one, and what
-- was neither written nor removed keeps its own.
use Rattle.std.proofs.Common.{
  ◌≡◌,
  ◌≢◌,
  ℕ,
  ◌<◌,
  Bool,
  true,
  false,
  not,
  List,
  [],
  ◌∷◌,
  ◌++◌,
  reverse,
  Option,
  None,
  Some,
  IfSome,
  IsSomeAnd,
  MatchOption,
  inl,
  inr,
  refl,
  ap,
  sym,
  ◌∙◌,
  subst,
}
use Rattle.std.specs.Prelude.{unwrap_or, if◌then◌else◌}
use Rattle.std.specs.List.{filter}
use Rattle.std.specs.Option.{option_or}
use Rattle.std.specs.Str.{bytes_eq}
use Rattle.std.proofs.lemmas.List.{reverse-append}
use Rattle.std.proofs.lemmas.List.Elements.{filter-append}
use Rattle.std.proofs.lemmas.Slice.Eq.{bytes_eq-Decides}
use Rattle.msb_values.specs.Acts.{act_path, act_bytes}
use Rattle.msb_values.specs.declared.act.Act.{Act}
use Rattle.msb_values.specs.declared.act.Act.TheVariants.{Write, Remove}
use Rattle.file_store.specs.Commits.{AreDone, IsDone, bytes_there, last_bytes}
use Rattle.file_store.specs.Files.{file_at}
use Rattle.file_store.specs.declared.tree.File.{File}
use Rattle.file_store.proofs.Commits.{AreDone-contents}
use Rattle.result_cache.specs.Journal.{Journal, acted, ended, content}
use Rattle.result_cache.proofs.RunTests.{clash}
use Rattle.build_incremental.proofs.Entries.{none-or-some}
use Rattle.msb_files.specs.FinalTree.{last_acts, commit_list}
use Rattle.msb_files.specs.Views.{acts_of}
use Rattle.msb_files.proofs.Committed.{final, last_content}

-- ---- a list of acts that are done in order

-- what the list says of a path, by its first act and the others
abbrev last_if : Bool → Option (List ℕ) → Option (Option (List ℕ))
last_if b left = if b then Some left else None

none-both : (o : Option (Option (List ℕ))) (b : Bool) (left : Option (List ℕ)) →
    option_or o (last_if b left) ≡ None → (o ≡ None) × (b ≡ false)
none-both None true left h = absurd (cc)
none-both None false left h = (refl, refl)
none-both (Some x) b left h = absurd (cc)

some-first : (o : Option (Option (List ℕ))) (b : Bool) (left found : Option (List ℕ)) →
    o ≡ None → option_or o (last_if b left) ≡ Some found → (b ≡ true) × (left ≡ found)
some-first None true left found n h = (refl, cc)
some-first None false left found n h = absurd (cc)
some-first (Some x) b left found n h = absurd (cc)

-- a path that the list has not is as it was
pub kept-file : (list : List Act) (before after : List File) → AreDone list before after →
    (path : List ℕ) → last_bytes path list ≡ None → file_at path after ≡ file_at path before
kept-file list before after w path e =
    subst (λ o. MatchOption o (file_at path after ≡ file_at path before)
    (λ left. bytes_there path after ≡ left)) e
    (AreDone-contents list before after w path)

some-and : {X : Type 0} (S : X → Type 0) (o : Option X) (x : X) → o ≡ Some x → IsSomeAnd o S → S x
some-and S None x e h = absurd h
some-and S (Some y) x e h = let same : y ≡ x = cc in subst S same h

if-some : {X : Type 0} (S : X → Type 0) (o : Option X) (x : X) → o ≡ Some x → IfSome o S → S x
if-some S None x e h = absurd (cc)
if-some S (Some y) x e h = let same : y ≡ x = cc in subst S same h

apart-paths : (p q : List ℕ) → bytes_eq p q ≡ false → q ≢ p
apart-paths p q h e = clash (bytes_eq p q) ((bytes_eq-Decides p q).1 (sym e)) h

-- of two files, of which the list has written the one last and not acted on the other, the one has
-- the greater stamp
pub stamps-rise : (list : List Act) (before after : List File) → AreDone list before after →
    (older newer bytes : List ℕ) → last_bytes older list ≡ None →
    last_bytes newer list ≡ Some (Some bytes) → (g f : File) → file_at older after ≡ Some g →
    file_at newer after ≡ Some f → g.stamp < f.stamp
stamps-rise [] before after w older newer bytes n s g f hg hf = absurd (cc)
stamps-rise (p ∷ ps) before after w older newer bytes n s g f hg hf =
    let both = none-both (last_bytes older ps) (bytes_eq (act_path p) older) (act_bytes p) n in
    let first : Bool = bytes_eq (act_path p) newer in
    elim (none-or-some (last_bytes newer ps)) [
      | inl e ↦
          let one = some-first (last_bytes newer ps) first (act_bytes p) (Some bytes) e s in
          here p w.1 both.0 both.1 e one.0 one.1
      | inr x ↦ stamps-rise ps w.0 after w.2 older newer bytes both.0
          (x.1 ∙ (sym (ap (λ o. option_or o (last_if first (act_bytes p))) x.1) ∙ s)) g f hg hf
    ]
  where
    here : (p : Act) → IsDone p before w.0 → last_bytes older ps ≡ None →
        bytes_eq (act_path p) older ≡ false → last_bytes newer ps ≡ None →
        bytes_eq (act_path p) newer ≡ true → act_bytes p ≡ Some bytes → g.stamp < f.stamp
    here (Remove path) d old_none apart new_none same written = absurd (cc)
    here (Write put) d old_none apart new_none same written =
        let path : put.path ≡ newer = (bytes_eq-Decides put.path newer).0 same in
        let old : file_at older w.0 ≡ Some g =
        sym (kept-file ps w.0 after w.2 older old_none) ∙ hg in
        let new : file_at put.path w.0 ≡ Some f =
        ap (λ x. file_at x w.0) path ∙ (sym (kept-file ps w.0 after w.2 newer new_none) ∙ hf) in
        let top = some-and (λ (f : File). (f.bytes ≡ put.bytes) × ((q : List ℕ) → q ≢ put.path →
        IfSome (file_at q w.0) (λ (g : File). g.stamp < f.stamp)))
        (file_at put.path w.0) f new d.here in
        if-some (λ (g : File). g.stamp < f.stamp) (file_at older w.0) g old
        (top.1 older (apart-paths put.path older apart))

-- the end of a list is done over what its beginning leaves
pub done-behind : (first rest : List Act) (before after : List File) →
    AreDone (first ++ rest) before after → (between : List File) × AreDone rest between after
done-behind [] rest before after w = (before, w)
done-behind (p ∷ first) rest before after w = done-behind first rest w.0 after w.2

-- ---- the list of a commit

last-acts-append : (newer older : List Act) →
    (others : List Act) × (last_acts (newer ++ older) ≡ last_acts newer ++ others)
last-acts-append [] older = (last_acts older, refl)
last-acts-append (act ∷ newer) older =
    let x = last-acts-append newer older in
    let keeps : Act → Bool = λ p. not (bytes_eq (act_path p) (act_path act)) in (
      filter keeps x.0,
      ap (λ l. act ∷ filter keeps l) x.1
          ∙ ap (λ l. act ∷ l) (filter-append keeps (last_acts newer) x.0),
    )

acts-append : (newer older : Journal) → acts_of (newer ++ older) ≡ acts_of newer ++ acts_of older
acts-append [] older = refl
acts-append (acted run place act ∷ newer) older = ap (λ l. act ∷ l) (acts-append newer older)
acts-append (ended run made ∷ newer) older = acts-append newer older

-- what is newer in a journal stands at the end of its list
commit-end : (newer older : Journal) →
    (first : List Act) × (commit_list (newer ++ older) ≡ first ++ commit_list newer)
commit-end newer older =
    let x = last-acts-append (acts_of newer) (acts_of older) in (
      reverse x.0,
      ap (λ l. reverse (last_acts l)) (acts-append newer older)
          ∙ (ap reverse x.1 ∙ reverse-append (last_acts (acts_of newer)) x.0),
    )

module _ (before after : List File) where
  -- of two files, of which the newer entries have written the one last and not acted on the other,
  -- the one has the greater stamp
  pub newer-stamp : (newer older : Journal) →
      AreDone (commit_list (newer ++ older)) before after → (one other bytes : List ℕ) →
      content newer one ≡ None → content newer other ≡ Some (Some bytes) → (g f : File) →
      file_at one after ≡ Some g → file_at other after ≡ Some f → g.stamp < f.stamp
  newer-stamp newer older w one other bytes n s g f hg hf =
      let x = commit-end newer older in
      let y = done-behind x.0 (commit_list newer) before after
      (subst (λ l. AreDone l before after) x.1 w) in
      stamps-rise (commit_list newer) y.0 after y.1 one other bytes
      (last_content newer one ∙ n) (last_content newer other ∙ s) g f hg hf

  module _ (journal : Journal) (w : AreDone (commit_list journal) before after) where
    -- a path on which nobody acted is as it was
    pub untouched-file : (path : List ℕ) → content journal path ≡ None →
        file_at path after ≡ file_at path before
    untouched-file path n =
        kept-file (commit_list journal) before after w path (last_content journal path ∙ n)

    -- each path has what the last act on it left
    pub left-bytes : (path : List ℕ) → bytes_there path after
        ≡ unwrap_or (content journal path) (bytes_there path before)
    left-bytes path = final journal before after
        (AreDone-contents (commit_list journal) before after w) path
