-- The list of a commit, one act on, and the tree that it leaves.
use Rattle.std.proofs.Common.{
  ◌≡◌,
  ℕ,
  List,
  [],
  ◌∷◌,
  ◌++◌,
  map,
  reverse,
  Bool,
  true,
  false,
  not,
  ◌||◌,
  Option,
  Some,
  None,
  option_map,
  MatchOption,
  unwrap_or,
  cond,
  refl,
  ap,
  ◌∙◌,
  sym,
}
use Rattle.std.specs.BTreeSet.{insert_key}
use Rattle.std.specs.Cmp.Lexicographic.{slice_cmp}
use Rattle.std.specs.List.{find, filter, list_any}
use Rattle.std.specs.Option.{option_or}
use Rattle.std.specs.Ordering.{is_eq, nat_cmp}
use Rattle.std.specs.Str.{bytes_eq}
use Rattle.std.proofs.Math.Bool.{or-true, or-false}
use Rattle.std.proofs.lemmas.List.{append-nil, map-append, reverse-append}
use Rattle.std.proofs.lemmas.List.Elements.{filter-append}
use Rattle.std.proofs.lemmas.List.Folds.{list_any-append}
use Rattle.std.proofs.lemmas.Map.Text.{is_eq-slice_cmp}
use Rattle.std.proofs.lemmas.Slice.Eq.{bytes_eq-Decides}
use Rattle.msb_values.specs.Acts.{act_path, act_bytes}
use Rattle.msb_values.specs.declared.act.Act.{Act}
use Rattle.file_store.specs.Commits.{last_bytes, bytes_there, HasContents}
use Rattle.file_store.specs.Files.{file_at}
use Rattle.file_store.specs.declared.tree.File.{File}
use Rattle.file_store.proofs.Order.{not_true}
use Rattle.result_cache.specs.Journal.{Journal, content}
use Rattle.msb_files.specs.FinalTree.{last_acts, commit_list, IsFinalTree}
use Rattle.msb_files.specs.Indices.{has_path}
use Rattle.msb_files.specs.Views.{acts_of}
use Rattle.msb_files.proofs.Contents.{content-is}
use Rattle.msb_files.proofs.Paths.{insert_any}

-- ---- an act behind others

abbrev pub paths_of_acts : List Act → List (List ℕ)
paths_of_acts acts = map act_path acts

abbrev pub is_other : Act → Act → Bool
is_other act p = not (bytes_eq (act_path p) (act_path act))

unless_acted : (is written : Bool) (act older : Act) (acts : List Act) (keeps : Act → Bool)
    → keeps older ≡ not is →
    act ∷ filter keeps (cond written acts (acts ++ older ∷ []))
    ≡ cond (is || written) (act ∷ filter keeps acts) ((act ∷ filter keeps acts) ++ older ∷ [])
unless_acted true true act older acts keeps e = refl
unless_acted false true act older acts keeps e = refl
unless_acted true false act older acts keeps e = ap (λ ps. act ∷ ps)
    (filter-append keeps acts (older ∷ [])
    ∙ (ap (λ b. filter keeps acts ++ cond b (older ∷ []) []) e ∙ append-nil (filter keeps acts)))
unless_acted false false act older acts keeps e = ap (λ ps. act ∷ ps)
    (filter-append keeps acts (older ∷ []) ∙ ap (λ b. filter keeps acts ++ cond b (older ∷ []) [])
    e)

pub last_more : (newer : List Act) (act : Act)
    → last_acts (newer ++ act ∷ [])
    ≡ cond (list_any (bytes_eq (act_path act)) (paths_of_acts newer)) (last_acts newer)
    (last_acts newer ++ act ∷ [])
last_more [] act = refl
last_more (first ∷ newer) act = ap (λ ps. first ∷ filter (is_other first) ps) (last_more newer act)
    ∙ unless_acted (bytes_eq (act_path act) (act_path first))
    (list_any (bytes_eq (act_path act)) (paths_of_acts newer)) first act (last_acts newer)
    (is_other first) refl

-- ---- the paths that are acted on later

any_alike : (p q : List ℕ → Bool) → ((x : List ℕ) → p x ≡ q x) → (xs : List (List ℕ))
    → list_any p xs ≡ list_any q xs
any_alike p q alike [] = refl
any_alike p q alike (x ∷ xs) = ap (λ b. b || list_any p xs) (alike x)
    ∙ ap (λ b. q x || b) (any_alike p q alike xs)

pub among : (path : List ℕ) (keys : List (List ℕ))
    → list_any (λ x. is_eq (slice_cmp nat_cmp path x)) keys ≡ list_any (bytes_eq path) keys
among path keys = any_alike _ (bytes_eq path) (is_eq-slice_cmp path) keys

pub kept_if : (written added : Bool) (kept pushed now : List Act) → added ≡ not written
    → added ≡ false → now ≡ kept → now ≡ cond written kept pushed
kept_if true added kept pushed now is old same = same
kept_if false added kept pushed now is old same = cc

pub pushed_if : (written added : Bool) (kept pushed now : List Act) → added ≡ not written
    → added ≡ true → now ≡ pushed → now ≡ cond written kept pushed
pushed_if true added kept pushed now is new same = cc
pushed_if false added kept pushed now is new same = same

pub acts_more : (keys : List (List ℕ)) (newer : List Act) (act : Act) (old now : List Act)
    → old ≡ last_acts newer →
    list_any (bytes_eq (act_path act)) keys ≡ list_any (bytes_eq (act_path act))
    (paths_of_acts newer)
    → now ≡ cond (list_any (bytes_eq (act_path act)) keys) old (old ++ act ∷ [])
    → now ≡ last_acts (newer ++ act ∷ [])
acts_more keys newer act old now is same gives =
    gives
    ∙ (ap (λ b. cond b old (old ++ act ∷ [])) same
    ∙ (ap
    (λ ps. cond (list_any (bytes_eq (act_path act)) (paths_of_acts newer)) ps (ps ++ act ∷ []))
    is ∙ sym (last_more newer act)))

or_swap : (a b : Bool) → (a || b) ≡ (b || a)
or_swap true b = sym (or-true b)
or_swap false b = sym (or-false b)

-- a path is acted on by one more act
pub keys_more : (path : List ℕ) (keys : List (List ℕ)) (newer : List Act) (act : Act)
    → list_any (bytes_eq path) keys ≡ list_any (bytes_eq path) (paths_of_acts newer) →
    list_any (bytes_eq path) (insert_key (slice_cmp nat_cmp) keys (act_path act))
    ≡ list_any (bytes_eq path) (paths_of_acts (newer ++ act ∷ []))
keys_more path keys newer act same =
    insert_any (bytes_eq path) (act_path act) keys
    ∙ (or_swap (bytes_eq path (act_path act)) (list_any (bytes_eq path) keys)
    ∙ (ap (λ b. b || bytes_eq path (act_path act)) same
    ∙ sym (ap (list_any (bytes_eq path)) (map-append act_path newer (act ∷ []))
    ∙ (list_any-append (bytes_eq path) (paths_of_acts newer) ((act_path act) ∷ [])
    ∙ ap (λ b. list_any (bytes_eq path) (paths_of_acts newer) || b)
    (or-false (bytes_eq path (act_path act)))))))

-- ---- the tree that is left

option_or_none : {X : Type 0} (o : Option X) → option_or o None ≡ o
option_or_none None = refl
option_or_none (Some x) = refl

option_or_assoc : {X : Type 0} (a b c : Option X)
    → option_or (option_or a b) c ≡ option_or a (option_or b c)
option_or_assoc None b c = refl
option_or_assoc (Some x) b c = refl

abbrev pub bytes_if : List ℕ → Act → Option (Option (List ℕ))
bytes_if path act = cond (bytes_eq (act_path act) path) (Some (act_bytes act)) None

last_bytes-push : (path : List ℕ) (acts : List Act) (act : Act)
    → last_bytes path (acts ++ act ∷ []) ≡ option_or (bytes_if path act) (last_bytes path acts)
last_bytes-push path [] act = sym (option_or_none (bytes_if path act))
last_bytes-push path (first ∷ acts) act = ap (λ o. option_or o (bytes_if path first))
    (last_bytes-push path acts act) ∙ option_or_assoc (bytes_if path act) (last_bytes path acts)
    (bytes_if path first)

first_of : (b : Bool) (act : Act) (rest : Option Act)
    → option_or (cond b (Some (act_bytes act)) None) (option_map act_bytes rest)
    ≡ option_map act_bytes (cond b (Some act) rest)
first_of true act rest = refl
first_of false act rest = refl

last_of_reverse : (path : List ℕ) (acts : List Act)
    → last_bytes path (reverse acts) ≡ option_map act_bytes (find (has_path path) acts)
last_of_reverse path [] = refl
last_of_reverse path (act ∷ acts) =
    ap (last_bytes path) (reverse-append (act ∷ []) acts) ∙ (last_bytes-push path (reverse acts) act
    ∙ (ap (option_or (bytes_if path act)) (last_of_reverse path acts)
    ∙ first_of (bytes_eq (act_path act) path) act (find (has_path path) acts)))

find_kept : (path : List ℕ) (keeps : Act → Bool)
    → ((p : Act) → has_path path p ≡ true → keeps p ≡ true) → (acts : List Act)
    → find (has_path path) (filter keeps acts) ≡ find (has_path path) acts
find_kept path keeps all [] = refl
find_kept path keeps all (act ∷ acts) = by (keeps act) (has_path path act) refl refl
    (find_kept path keeps all acts)
  where
    by : (k h : Bool) → keeps act ≡ k → has_path path act ≡ h
        → find (has_path path) (filter keeps acts) ≡ find (has_path path) acts
        → find (has_path path) (cond k (act ∷ filter keeps acts) (filter keeps acts))
        ≡ cond h (Some act) (find (has_path path) acts)
    by true h k-is h-is rest = ap
        (λ b. cond b (Some act) (find (has_path path) (filter keeps acts))) h-is
        ∙ ap (λ o. cond h (Some act) o) rest
    by false true k-is h-is rest = let t = all act h-is in absurd (cc)
    by false false k-is h-is rest = rest

apart : (path : List ℕ) (act p : Act) → has_path path act ≡ false → has_path path p ≡ true
    → bytes_eq (act_path p) (act_path act) ≡ false
apart path act p not_put is = not_true (bytes_eq (act_path p) (act_path act)) (λ s.
    let e : (act_path p) ≡ (act_path act) = (bytes_eq-Decides (act_path p) (act_path act)).0 s in
    let t : has_path path act ≡ true = ap (λ q. bytes_eq q path) (sym e) ∙ is in cc)

first_of_last : (path : List ℕ) (acts : List Act)
    → find (has_path path) (last_acts acts) ≡ find (has_path path) acts
first_of_last path [] = refl
first_of_last path (act ∷ acts) = by (has_path path act) refl (first_of_last path acts)
  where
    by : (h : Bool) → has_path path act ≡ h → find (has_path path) (last_acts acts)
        ≡ find (has_path path) acts
        → cond h (Some act) (find (has_path path) (filter (is_other act) (last_acts acts)))
        ≡ cond h (Some act) (find (has_path path) acts)
    by true h-is rest = refl
    by false h-is rest = find_kept path (is_other act) (λ p is. ap not (apart path act p h-is is))
        (last_acts acts) ∙ rest

pub last_content : (journal : Journal) (path : List ℕ)
    → last_bytes path (commit_list journal) ≡ content journal path
last_content journal path = last_of_reverse path (last_acts (acts_of journal))
    ∙ (ap (option_map act_bytes) (first_of_last path (acts_of journal))
    ∙ sym (content-is journal path))

final_at : (last : Option (Option (List ℕ))) (was is : Option File) →
    MatchOption last (is ≡ was) (λ left. option_map (λ f. f.bytes) is ≡ left) →
    option_map (λ f. f.bytes) is ≡ unwrap_or last (option_map (λ f. f.bytes) was)
final_at None was is same = ap (option_map (λ f. f.bytes)) same
final_at (Some left) was is has = has

pub final : (journal : Journal) (before after : List File)
    → HasContents (commit_list journal) before after → IsFinalTree before journal after
final journal before after contents path =
    final_at (last_bytes path (commit_list journal)) (file_at path before) (file_at path after)
    (contents path)
    ∙ ap (λ o. unwrap_or o (bytes_there path before)) (last_content journal path)
