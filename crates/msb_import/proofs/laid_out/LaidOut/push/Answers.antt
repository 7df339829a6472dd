use Rattle.std.proofs.Common.{
  ◌≡◌,
  ℕ,
  List,
  [],
  ◌∷◌,
  ◌++◌,
  Bool,
  true,
  false,
  cond,
  ◌||◌,
  nat_cmp,
  refl,
  sym,
  ap,
  ◌∙◌,
}
use Rattle.std.specs.BTreeSet.{BTreeSet, contains}
use Rattle.std.specs.List.{list_any}
use Rattle.std.specs.Cmp.Lexicographic.{slice_cmp}
use Rattle.std.specs.Str.{bytes_eq}
use Rattle.std.proofs.lemmas.List.Folds.{list_any-append}
use Rattle.std.proofs.lemmas.Map.Text.{is_eq-slice_cmp}
use Rattle.msb_import.proofs.laid_out.LaidOut.push.Goals as goal

last_or_before : (last before : Bool) → cond last true before ≡ (before || (last || false))
last_or_before true true = refl
last_or_before true false = refl
last_or_before false true = refl
last_or_before false false = refl

-- one more path in the set and in the list
pushed : (known longer : BTreeSet (List ℕ)) (files more : List (List ℕ)) (file key path : List ℕ)
    → key ≡ file → more ≡ files ++ file ∷ []
    → contains (slice_cmp nat_cmp) known path ≡ list_any (λ other. bytes_eq other path) files
    → contains (slice_cmp nat_cmp) longer path
    ≡ cond (bytes_eq key path) true (contains (slice_cmp nat_cmp) known path)
    → contains (slice_cmp nat_cmp) longer path ≡ list_any (λ other. bytes_eq other path) more
pushed known longer files more file key path same is before updated =
    updated ∙ ap (cond (bytes_eq key path) true) before
    ∙ last_or_before (bytes_eq key path) (list_any (λ other. bytes_eq other path) files)
    ∙ ap (λ k. list_any (λ other. bytes_eq other path) files || (bytes_eq k path || false)) same
    ∙ sym (list_any-append (λ other. bytes_eq other path) files (file ∷ []))
    ∙ ap (list_any (λ other. bytes_eq other path)) (sym is)

pub invariant_of-self-in-Ok : goal.invariant_of-self-in-Ok
invariant_of-self-in-Ok c = λ path.
    pushed c.self.inside.known c.insert.new.self c.self.inside.files.items c.push.new.self.items
    c.in_ok-file.file c.in_ok-known.known path
    (c.in_ok-known.ensures ∙ sym c.in_ok-file.ensures) c.in_ok-push.ensures.items
    (c.self.invariant path)
    (c.in-Ok.ensures.updates.0 path
    ∙ ap (λ b. cond b true (contains (slice_cmp nat_cmp) c.self.inside.known path))
    (is_eq-slice_cmp c.in_ok-known.known path))
