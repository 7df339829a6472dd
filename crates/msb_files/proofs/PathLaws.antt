-- The paths of a view stand in byte order, and are those that have content.
use Rattle.std.proofs.Common.{
  ◌≡◌,
  ℕ,
  List,
  [],
  ◌∷◌,
  ◌++◌,
  map,
  nat_eq,
  Bool,
  true,
  false,
  ◌&&◌,
  ◌||◌,
  Option,
  Some,
  None,
  option_map,
  unwrap_or,
  is_some,
  cond,
  refl,
  ap,
  ◌∙◌,
  sym,
}
use Rattle.std.specs.BTreeSet.{insert_key}
use Rattle.std.specs.Cmp.Lexicographic.{slice_cmp}
use Rattle.std.specs.List.{find, filter, list_any, list_all, starts_with}
use Rattle.std.specs.Ordering.{nat_cmp, is_lt, match_ordering, ordering_reverse}
use Rattle.std.specs.declared.cmp.Ordering.{Ordering}
use Rattle.std.specs.declared.cmp.Ordering.TheVariants.{Less, Equal, Greater}
use Rattle.std.specs.Str.{bytes_eq}
use Rattle.std.proofs.Math.Bool.{or-false}
use Rattle.std.proofs.lemmas.Cmp.{nat_list_cmp_total, nat_list_eq_equiv}
use Rattle.std.proofs.lemmas.Slice.Eq.{bytes_eq-Decides}
use Rattle.msb_paths.specs.Presence.{is_there}
use Rattle.msb_values.specs.Acts.{act_path, act_bytes}
use Rattle.msb_values.specs.declared.act.Act.{Act}
use Rattle.file_store.specs.Files.{paths_of, file_at}
use Rattle.file_store.specs.Paths.{is_before, are_rising}
use Rattle.file_store.specs.declared.tree.File.{File}
use Rattle.file_store.proofs.Order.{and_true, both_true, chain}
use Rattle.result_cache.specs.Journal as journals
use Rattle.msb_files.specs.Below.{has_file_below}
use Rattle.msb_files.specs.Indices.{has_path}
use Rattle.msb_files.specs.Views.{View, content, acts_of, with_paths, paths_met, paths}
use Rattle.msb_files.proofs.Contents.{content-is}
use Rattle.msb_files.proofs.Paths.{with_paths_any}

-- ---- in order

before_all : (p q : List ℕ) (ps : List (List ℕ)) → is_before p q ≡ true
    → list_all (is_before q) ps ≡ true → list_all (is_before p) ps ≡ true
before_all p q [] b h = refl
before_all p q (r ∷ ps) b h = both_true _ _ (chain p q r b (and_true _ _ h).0)
    (before_all p q ps b (and_true _ _ h).1)

all_put_before : (p k x : List ℕ) (xs rest : List (List ℕ)) (o : Ordering) → is_before p k ≡ true
    → list_all (is_before p) (x ∷ xs) ≡ true → list_all (is_before p) rest ≡ true →
    list_all (is_before p) (match_ordering o (k ∷ x ∷ xs) (x ∷ xs) (x ∷ rest)) ≡ true
all_put_before p k x xs rest Less b h r = both_true _ _ b h
all_put_before p k x xs rest Equal b h r = h
all_put_before p k x xs rest Greater b h r = both_true _ _ (and_true _ _ h).0 r

all_before_put : (p k : List ℕ) (xs : List (List ℕ)) → is_before p k ≡ true
    → list_all (is_before p) xs ≡ true
    → list_all (is_before p) (insert_key (slice_cmp nat_cmp) xs k) ≡ true
all_before_put p k [] b h = both_true _ _ b refl
all_before_put p k (x ∷ xs) b h = all_put_before p k x xs (insert_key (slice_cmp nat_cmp) xs k)
    (slice_cmp nat_cmp k x) b h (all_before_put p k xs b (and_true _ _ h).1)

greater_before : (k x : List ℕ) → slice_cmp nat_cmp k x ≡ Greater → is_before x k ≡ true
greater_before k x g = ap is_lt (nat_list_cmp_total.antisymm x k ∙ ap ordering_reverse g)

rising_put_by : (k x : List ℕ) (xs rest : List (List ℕ)) (o : Ordering) → slice_cmp nat_cmp k x ≡ o
    → are_rising (x ∷ xs) ≡ true → are_rising rest ≡ true
    → (is_before x k ≡ true → list_all (is_before x) rest ≡ true) →
    are_rising (match_ordering o (k ∷ x ∷ xs) (x ∷ xs) (x ∷ rest)) ≡ true
rising_put_by k x xs rest Less is h r all = both_true _ _
    (both_true _ _ (ap is_lt is) (before_all k x xs (ap is_lt is) (and_true _ _ h).0)) h
rising_put_by k x xs rest Equal is h r all = h
rising_put_by k x xs rest Greater is h r all = both_true _ _ (all (greater_before k x is)) r

rising_put : (k : List ℕ) (xs : List (List ℕ)) → are_rising xs ≡ true
    → are_rising (insert_key (slice_cmp nat_cmp) xs k) ≡ true
rising_put k [] h = refl
rising_put k (x ∷ xs) h =
    let both = and_true _ _ h in
    rising_put_by k x xs (insert_key (slice_cmp nat_cmp) xs k) (slice_cmp nat_cmp k x) refl h
    (rising_put k xs both.1) (λ b. all_before_put x k xs b both.0)

rising_with : (ps others : List (List ℕ)) → are_rising others ≡ true
    → are_rising (with_paths ps others) ≡ true
rising_with [] others h = h
rising_with (p ∷ ps) others h = rising_with ps (insert_key (slice_cmp nat_cmp) others p)
    (rising_put p others h)

all_kept : (keeps p : List ℕ → Bool) (xs : List (List ℕ)) → list_all p xs ≡ true
    → list_all p (filter keeps xs) ≡ true
all_kept keeps p [] h = refl
all_kept keeps p (x ∷ xs) h = by (keeps x) (and_true _ _ h).0
    (all_kept keeps p xs (and_true _ _ h).1)
  where
    by : (b : Bool) → p x ≡ true → list_all p (filter keeps xs) ≡ true →
        list_all p (cond b (x ∷ filter keeps xs) (filter keeps xs)) ≡ true
    by true first rest = both_true _ _ first rest
    by false first rest = rest

rising_kept : (keeps : List ℕ → Bool) (xs : List (List ℕ)) → are_rising xs ≡ true
    → are_rising (filter keeps xs) ≡ true
rising_kept keeps [] h = refl
rising_kept keeps (x ∷ xs) h =
    by (keeps x) (all_kept keeps (is_before x) xs (and_true _ _ h).0)
    (rising_kept keeps xs (and_true _ _ h).1)
  where
    by : (b : Bool) → list_all (is_before x) (filter keeps xs) ≡ true
        → are_rising (filter keeps xs) ≡ true →
        are_rising (cond b (x ∷ filter keeps xs) (filter keeps xs)) ≡ true
    by true first rest = both_true _ _ first rest
    by false first rest = rest

pub paths_rise : (view : View) → are_rising (paths view) ≡ true
paths_rise view = rising_kept (λ path. is_some (content view path)) (paths_met view)
    (rising_with (paths_of view.files) _
    (rising_with (map act_path (acts_of view.journal)) [] refl))

-- ---- those that have content

same_sides : (p q : List ℕ) → bytes_eq p q ≡ bytes_eq q p
same_sides p q = nat_list_eq_equiv.symm p q

acted_next : (b : Bool) (rest : Bool) (act : Act) (o : Option Act) → rest ≡ is_some o
    → (b || rest) ≡ is_some (cond b (Some act) o)
acted_next true rest act o e = refl
acted_next false rest act o e = e

any_acted : (path : List ℕ) (acts : List Act)
    → list_any (bytes_eq path) (map act_path acts) ≡ is_some (find (has_path path) acts)
any_acted path [] = refl
any_acted path (act ∷ acts) =
    ap (λ b. b || list_any (bytes_eq path) (map act_path acts)) (same_sides path (act_path act))
    ∙ acted_next (bytes_eq (act_path act) path) (list_any (bytes_eq path) (map act_path acts)) act
    (find (has_path path) acts) (any_acted path acts)

file_next : (b : Bool) (rest : Bool) (file : File) (o : Option File) → rest ≡ is_some o
    → (b || rest) ≡ is_some (cond b (Some file) o)
file_next true rest file o e = refl
file_next false rest file o e = e

any_file : (path : List ℕ) (files : List File)
    → list_any (bytes_eq path) (paths_of files) ≡ is_some (file_at path files)
any_file path [] = refl
any_file path (file ∷ files) =
    ap (λ b. b || list_any (bytes_eq path) (paths_of files)) (same_sides path file.path)
    ∙ file_next (bytes_eq file.path path) (list_any (bytes_eq path) (paths_of files)) file
    (file_at path files) (any_file path files)

mapped : {X Y : Type 0} (f : X → Y) (o : Option X) → is_some (option_map f o) ≡ is_some o
mapped f None = refl
mapped f (Some x) = refl

-- a path that was met is in the tree, or a run has acted on it
any_met : (view : View) (path : List ℕ) →
    list_any (bytes_eq path) (paths_met view)
    ≡ (is_some (file_at path view.files) || is_some (journals.content view.journal path))
any_met view path =
    let acted = map act_path (acts_of view.journal) in
    let was_acted : list_any (bytes_eq path) acted ≡ is_some (journals.content view.journal path) =
    any_acted path (acts_of view.journal)
    ∙ sym (ap is_some (content-is view.journal path)
    ∙ mapped act_bytes (find (has_path path) (acts_of view.journal))) in
    with_paths_any (bytes_eq path) (paths_of view.files) (with_paths acted [])
    ∙ (ap (λ b. list_any (bytes_eq path) (paths_of view.files) || b)
    (with_paths_any (bytes_eq path) acted []
    ∙ (or-false (list_any (bytes_eq path) acted) ∙ was_acted))
    ∙ ap (λ b. b || is_some (journals.content view.journal path)) (any_file path view.files))

with_true : (b : Bool) → (b && true) ≡ b
with_true true = refl
with_true false = refl

with_false : (b : Bool) → (b && false) ≡ false
with_false true = refl
with_false false = refl

-- what is asked of those that are kept
any_kept : (keeps p : List ℕ → Bool) (xs : List (List ℕ))
    → list_any p (filter keeps xs) ≡ list_any (λ x. p x && keeps x) xs
any_kept keeps p [] = refl
any_kept keeps p (x ∷ xs) = by (keeps x) (any_kept keeps p xs)
  where
    by : (k : Bool) → list_any p (filter keeps xs) ≡ list_any (λ y. p y && keeps y) xs →
        list_any p (cond k (x ∷ filter keeps xs) (filter keeps xs))
        ≡ ((p x && k) || list_any (λ y. p y && keeps y) xs)
    by true rest = ap (λ b. p x || b) rest ∙ ap (λ b. b || list_any (λ y. p y && keeps y) xs)
        (sym (with_true (p x)))
    by false rest = rest ∙ ap (λ b. b || list_any (λ y. p y && keeps y) xs) (sym (with_false (p x)))

absorbed : (a b : Bool) → (b || (a && b)) ≡ b
absorbed a true = refl
absorbed a false = with_false a

-- a path is among those with a property where it is there and has the property
any_itself : (keeps : List ℕ → Bool) (path : List ℕ) (xs : List (List ℕ)) →
    list_any (λ x. bytes_eq path x && keeps x) xs ≡ (list_any (bytes_eq path) xs && keeps path)
any_itself keeps path [] = refl
any_itself keeps path (x ∷ xs) = by (bytes_eq path x) refl (any_itself keeps path xs)
  where
    by : (b : Bool) → bytes_eq path x ≡ b →
        list_any (λ y. bytes_eq path y && keeps y) xs ≡ (list_any (bytes_eq path) xs && keeps path)
        →
        ((b && keeps x) || list_any (λ y. bytes_eq path y && keeps y) xs)
        ≡ ((b || list_any (bytes_eq path) xs) && keeps path)
    by true same rest =
        let is : keeps x ≡ keeps path = ap keeps (sym ((bytes_eq-Decides path x).0 same)) in
        ap (λ k. k || list_any (λ y. bytes_eq path y && keeps y) xs) is
        ∙ (ap (λ r. keeps path || r) rest ∙ absorbed (list_any (bytes_eq path) xs) (keeps path))
    by false same rest = rest

-- a path without a file and without an act has no content
met_or : (o : Option (Option (List ℕ))) (f : Option File) →
    ((is_some f || is_some o) && is_some (unwrap_or o (option_map (λ g. g.bytes) f)))
    ≡ is_some (unwrap_or o (option_map (λ g. g.bytes) f))
met_or None None = refl
met_or None (Some f) = refl
met_or (Some left) None = refl
met_or (Some left) (Some f) = refl

pub paths_there : (view : View) (path : List ℕ)
    → list_any (bytes_eq path) (paths view) ≡ is_some (content view path)
paths_there view path =
    let live = λ (p : List ℕ). is_some (content view p) in
    any_kept live (bytes_eq path) (paths_met view)
    ∙ (any_itself live path (paths_met view)
    ∙ (ap (λ b. b && live path) (any_met view path)
    ∙ met_or (journals.content view.journal path) (file_at path view.files)))

-- ---- whether a file has a path or lies below it

or_four : (a b c d : Bool) → ((a || b) || (c || d)) ≡ ((a || c) || (b || d))
or_four true b c d = refl
or_four false true true d = refl
or_four false true false d = refl
or_four false false true d = refl
or_four false false false d = refl

any_either : (p q : List ℕ → Bool) (xs : List (List ℕ))
    → list_any (λ x. p x || q x) xs ≡ (list_any p xs || list_any q xs)
any_either p q [] = refl
any_either p q (x ∷ xs) =
    ap (λ b. (p x || q x) || b) (any_either p q xs)
    ∙ or_four (p x) (q x) (list_any p xs) (list_any q xs)

any_alike : (p q : List ℕ → Bool) → ((x : List ℕ) → p x ≡ q x) → (xs : List (List ℕ))
    → list_any p xs ≡ list_any q xs
any_alike p q alike [] = refl
any_alike p q alike (x ∷ xs) = ap (λ b. b || list_any p xs) (alike x)
    ∙ ap (λ b. q x || b) (any_alike p q alike xs)

any_mapped : {X : Type 0} (key : X → List ℕ) (p : List ℕ → Bool) (xs : List X)
    → list_any p (map key xs) ≡ list_any (λ x. p (key x)) xs
any_mapped key p [] = refl
any_mapped key p (x ∷ xs) = ap (λ b. p (key x) || b) (any_mapped key p xs)

any_below : (view : View) (folder : List ℕ) → list_any (has_file_below view folder) (paths_met view)
    ≡ (list_any (λ (file : File). has_file_below view folder file.path) view.files
    || list_any (λ act. has_file_below view folder (act_path act)) (acts_of view.journal))
any_below view folder =
    let below = has_file_below view folder in
    let acted = map act_path (acts_of view.journal) in
    with_paths_any below (paths_of view.files) (with_paths acted [])
    ∙ (ap (λ b. list_any below (paths_of view.files) || b)
    (with_paths_any below acted []
    ∙ (or-false (list_any below acted) ∙ any_mapped act_path below (acts_of view.journal)))
    ∙ ap (λ b. b || list_any (λ act. below (act_path act)) (acts_of view.journal))
    (any_mapped (λ (f : File). f.path) below view.files))

pub there_is : (view : View) (path : List ℕ) → (is_some (content view path)
    || (list_any (λ (file : File). has_file_below view path file.path) view.files
    || list_any (λ act. has_file_below view path (act_path act)) (acts_of view.journal)))
    ≡ is_there (paths view) path
there_is view path =
    let live = λ (p : List ℕ). is_some (content view p) in
    let below = λ (p : List ℕ). starts_with nat_eq p (path ++ 47 ∷ []) in
    sym (any_either (λ p. bytes_eq p path) below (paths view)
    ∙ (ap (λ b. b || list_any below (paths view))
    (any_alike (λ p. bytes_eq p path) (bytes_eq path) (λ p. same_sides p path) (paths view)
    ∙ paths_there view path)
    ∙ ap (λ b. is_some (content view path) || b)
    (any_kept live below (paths_met view) ∙ any_below view path)))
