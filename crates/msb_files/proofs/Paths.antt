-- Paths that are put among others in byte order, in parts.
use Rattle.std.proofs.Common.{
  ◌≡◌,
  ℕ,
  ◌+◌,
  ◌<◌,
  List,
  [],
  ◌∷◌,
  ◌++◌,
  length,
  drop,
  get_or,
  map,
  Bool,
  true,
  false,
  ◌||◌,
  Option,
  Some,
  None,
  refl,
  ap,
  ◌∙◌,
  sym,
}
use Rattle.std.specs.BTreeSet.{insert_key}
use Rattle.std.specs.List.{list_any}
use Rattle.std.specs.declared.cmp.Ordering.{Ordering}
use Rattle.std.specs.declared.cmp.Ordering.TheVariants.{Less, Equal, Greater}
use Rattle.std.specs.Cmp.Lexicographic.{slice_cmp}
use Rattle.std.specs.Ordering.{nat_cmp, is_eq, match_ordering}
use Rattle.std.proofs.lemmas.List.{map-append, drop_more}
use Rattle.std.proofs.lemmas.Map.Text.{is_eq-slice_cmp}
use Rattle.std.proofs.lemmas.Slice.Eq.{bytes_eq-Decides}
use Rattle.std.proofs.Math.Bool.{or-true}
use Rattle.msb_values.specs.Acts.{act_path}
use Rattle.msb_values.specs.declared.act.Act.{Act}
use Rattle.file_store.specs.Files.{paths_of}
use Rattle.file_store.specs.declared.tree.File.{File}
use Rattle.result_cache.specs.Journal.{Journal, Entry, acted, ended}
use Rattle.msb_files.specs.Seen.{act_in}
use Rattle.msb_files.specs.Views.{acts_of, with_paths}
use Rattle.msb_files.proofs.Contents.{acts_of-append}

abbrev pub paths_in : Journal → List (List ℕ)
paths_in entries = map act_path (acts_of entries)

pub paths_in-append : (newer older : Journal)
    → paths_in (newer ++ older) ≡ paths_in newer ++ paths_in older
paths_in-append newer older = ap (map act_path) (acts_of-append newer older)
    ∙ map-append act_path (acts_of newer) (acts_of older)

-- what is left to put, one entry on
abbrev pub put_one : Option Act → List (List ℕ) → List (List ℕ)
put_one None others = others
put_one (Some act) others = insert_key (slice_cmp nat_cmp) others (act_path act)

entry_first : (e : Entry) (entries : Journal) (others : List (List ℕ))
    → with_paths (paths_in (e ∷ entries)) others
    ≡ with_paths (paths_in entries) (put_one (act_in e) others)
entry_first (acted run place act) entries others = refl
entry_first (ended run made) entries others = refl

pub entry_more : (entries : Journal) (i : ℕ) (e : Entry) (found : Option Act)
    (others : List (List ℕ)) → i < length entries → e ≡ get_or entries i e → found ≡ act_in e →
    with_paths (paths_in (drop (i + 1) entries)) (put_one found others)
    ≡ with_paths (paths_in (drop i entries)) others
entry_more entries i e found others w is told =
    sym (ap (λ es. with_paths (paths_in es) others) (drop_more entries i e w)
    ∙ (entry_first (get_or entries i e) (drop (i + 1) entries) others
    ∙ ap (λ o. with_paths (paths_in (drop (i + 1) entries)) (put_one o others))
    (ap act_in (sym is) ∙ sym told)))

pub file_more : (files : List File) (i : ℕ) (file : File) (others : List (List ℕ))
    → i < length files → file ≡ get_or files i file →
    with_paths (paths_of (drop (i + 1) files)) (insert_key (slice_cmp nat_cmp) others file.path)
    ≡ with_paths (paths_of (drop i files)) others
file_more files i file others w is = sym
    (ap (λ fs. with_paths (paths_of fs) others) (drop_more files i file w)
    ∙ ap
    (λ f. with_paths (paths_of (drop (i + 1) files)) (insert_key (slice_cmp nat_cmp) others f.path))
    (sym is))

-- ---- what is asked of the paths that are put is asked of them and of the others

tied_same : (p q : List ℕ) → slice_cmp nat_cmp p q ≡ Equal → p ≡ q
tied_same p q e = (bytes_eq-Decides p q).0 (sym (is_eq-slice_cmp p q) ∙ ap is_eq e)

swap_or : (a b c : Bool) → (a || (b || c)) ≡ (b || (a || c))
swap_or true true c = refl
swap_or true false c = refl
swap_or false b c = refl

twice_or : (a b c : Bool) → a ≡ b → (b || c) ≡ (a || (b || c))
twice_or true b c e = ap (λ x. x || c) (sym e)
twice_or false b c e = refl

put_any : (f : List ℕ → Bool) (k x : List ℕ) (xs rest : List (List ℕ)) (o : Ordering)
    → slice_cmp nat_cmp k x ≡ o → list_any f rest ≡ (f k || list_any f xs) →
    list_any f (match_ordering o (k ∷ x ∷ xs) (x ∷ xs) (x ∷ rest)) ≡ (f k || (f x || list_any f xs))
put_any f k x xs rest Less is all = refl
put_any f k x xs rest Equal is all = twice_or (f k) (f x) (list_any f xs) (ap f (tied_same k x is))
put_any f k x xs rest Greater is all = ap (λ b. f x || b) all ∙ swap_or (f x) (f k) (list_any f xs)

pub insert_any : (f : List ℕ → Bool) (k : List ℕ) (xs : List (List ℕ))
    → list_any f (insert_key (slice_cmp nat_cmp) xs k) ≡ (f k || list_any f xs)
insert_any f k [] = refl
insert_any f k (x ∷ xs) = put_any f k x xs (insert_key (slice_cmp nat_cmp) xs k)
    (slice_cmp nat_cmp k x) refl (insert_any f k xs)

move_or : (a b c : Bool) → (b || (a || c)) ≡ ((a || b) || c)
move_or true b c = or-true b
move_or false b c = refl

pub with_paths_any : (f : List ℕ → Bool) (ps others : List (List ℕ))
    → list_any f (with_paths ps others) ≡ (list_any f ps || list_any f others)
with_paths_any f [] others = refl
with_paths_any f (p ∷ ps) others = with_paths_any f ps (insert_key (slice_cmp nat_cmp) others p)
    ∙ (ap (λ b. list_any f ps || b) (insert_any f p others)
    ∙ move_or (f p) (list_any f ps) (list_any f others))
