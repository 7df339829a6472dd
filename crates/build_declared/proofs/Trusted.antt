-- A pair that is not out of date is trusted, and so a fresh piece that is skipped writes what is
-- there.
use Rattle.std.proofs.Common.{
  ◌≡◌,
  ℕ,
  ◌≤◌,
  ◌||◌,
  inl,
  inr,
  Bool,
  true,
  false,
  List,
  [],
  ◌∷◌,
  length,
  Option,
  None,
  Some,
  is_some,
  refl,
  ap,
  sym,
  ◌∙◌,
  subst,
  arith,
}
use Rattle.std.specs.Prelude.{nat_lt, option_map, unwrap_or}
use Rattle.std.specs.List.{list_any}
use Rattle.std.proofs.lemmas.Bool.{ltb-false}
use Rattle.msb_values.specs.declared.item.Item.{Item}
use Rattle.file_store.specs.Files.{file_at}
use Rattle.file_store.specs.declared.tree.File.{File}
use Rattle.result_cache.specs.Journal as journals
use Rattle.result_cache.specs.Lists.{In}
use Rattle.result_cache.proofs.RunTests.{or_neither}
use Rattle.msb_files.specs.Views as views
use Rattle.msb_files.specs.Views.{View, written, stamp}
use Rattle.target_incremental.specs.Ages.{is_missing_or_older, pair_is_old, any_is_old}
use Rattle.target_incremental.specs.Decisions.{item_if, old_items}
use Rattle.build_declared.specs.Fresh.{IsAsInTree, IsTrusted, Pairing, pairs_of}

none-acted : (o : Option (Option (List ℕ))) → is_some o ≡ false → o ≡ None
none-acted None h = refl
none-acted (Some x) h = absurd (cc)

pub not-in : {X : Type 0} (f : X → Bool) (x : X) (xs : List X) → list_any f xs ≡ false →
    In x xs → f x ≡ false
not-in f x [] h i = absurd i
not-in f x (y ∷ xs) h (inl e) = subst (λ z. f z ≡ false) e (or_neither (f y) (list_any f xs) h).0
not-in f x (y ∷ xs) h (inr i) = not-in f x xs (or_neither (f y) (list_any f xs) h).1 i

-- an input and an output on which nobody has acted, and the input is no newer
pub record CurrentPair (v : View) (input output : List ℕ) : Type 0 where
  pub in_file : File
  pub out_file : File
  pub in_there : file_at input v.files ≡ Some in_file
  pub out_there : file_at output v.files ≡ Some out_file
  pub in_untouched : journals.content v.journal input ≡ None
  pub out_untouched : journals.content v.journal output ≡ None
  pub no_newer : in_file.stamp ≤ out_file.stamp

pub current-pair : (v : View) (input output : List ℕ) → pair_is_old v input output ≡ false →
    CurrentPair v input output
current-pair v input output h =
    let a = or_neither (written v input) (written v output || is_missing_or_older (stamp v input)
    (stamp v output)) h in
    let b = or_neither (written v output) (is_missing_or_older (stamp v input)
    (stamp v output)) a.1 in
    go (file_at input v.files) (file_at output v.files) refl refl
    (none-acted (journals.content v.journal input) a.0)
    (none-acted (journals.content v.journal output) b.0) b.1
  where
    go : (x y : Option File) → file_at input v.files ≡ x → file_at output v.files ≡ y →
        journals.content v.journal input ≡ None → journals.content v.journal output ≡ None →
        is_missing_or_older (option_map (λ (f : File). f.stamp) (file_at input v.files))
        (option_map (λ (f : File). f.stamp) (file_at output v.files)) ≡ false →
        CurrentPair v input output
    go (Some x) (Some y) e f wi wo m =
        let n : nat_lt y.stamp x.stamp ≡ false =
        sym (ap (λ o. is_missing_or_older (option_map (λ (z : File). z.stamp) o)
        (option_map (λ (z : File). z.stamp) (file_at output v.files))) e
        ∙ ap (λ o. is_missing_or_older (Some x.stamp)
        (option_map (λ (z : File). z.stamp) o)) f) ∙ m in
        record {
          in_file = x;
          out_file = y;
          in_there = e;
          out_there = f;
          in_untouched = wi;
          out_untouched = wo;
          no_newer = ltb-false y.stamp x.stamp n;
        }
    go (Some x) None e f wi wo m =
        let n : true ≡ false = sym (ap (λ o. is_missing_or_older
        (option_map (λ (z : File). z.stamp) o) (option_map (λ (z : File). z.stamp)
        (file_at output v.files))) e ∙ ap (λ o. is_missing_or_older (Some x.stamp)
        (option_map (λ (z : File). z.stamp) o)) f) ∙ m in
        absurd (cc)
    go None y e f wi wo m =
        let n : true ≡ false = sym (ap (λ o. is_missing_or_older
        (option_map (λ (z : File). z.stamp) o) (option_map (λ (z : File). z.stamp)
        (file_at output v.files))) e) ∙ m in
        absurd (cc)

-- two views of one tree that have the same files
module _ (v u : View) (files : v.files ≡ u.files) (same : (path : List ℕ) →
    views.content v path ≡ views.content u path) where
  as-in-tree : (path : List ℕ) (file : File) → journals.content v.journal path ≡ None →
      file_at path v.files ≡ Some file → IsAsInTree u path file
  as-in-tree path file w e = record {
    there = sym (ap (file_at path) files) ∙ e;
    unchanged = sym (same path) ∙ (ap (λ o. unwrap_or o (option_map (λ (f : File). f.bytes)
        (file_at path v.files))) w ∙ ap (option_map (λ (f : File). f.bytes)) e);
  }

  -- an input and an output that are as in the tree, and the input is no newer
  pub record PairThere (input output : List ℕ) : Type 0 where
    pub in_file : File
    pub out_file : File
    pub in_there : IsAsInTree u input in_file
    pub out_there : IsAsInTree u output out_file
    pub no_newer : in_file.stamp ≤ out_file.stamp

  pub pair-there : (input output : List ℕ) → pair_is_old v input output ≡ false →
      PairThere input output
  pair-there input output h =
      let x = current-pair v input output h in
      record {
        in_file = x.in_file;
        out_file = x.out_file;
        in_there = as-in-tree input x.in_file x.in_untouched x.in_there;
        out_there = as-in-tree output x.out_file x.out_untouched x.out_there;
        no_newer = x.no_newer;
      }

  same-file : (path : List ℕ) (x y : File) → IsAsInTree u path x → IsAsInTree u path y → x ≡ y
  same-file path x y a b = let e : Some x ≡ Some y = sym a.there ∙ b.there in cc

  -- item by item
  pub pair-trusted : (pair : Pairing) (input : List ℕ) → pair.inputs ≡ input ∷ [] →
      pair_is_old v input pair.output ≡ false → (file : File)
      × IsTrusted u pair.inputs pair.output file
  pair-trusted pair input one h =
      let p = pair-there input pair.output h in (
        p.out_file,
        record {
          output_there = p.out_there;
          inputs_there = λ i x. elim (subst (In i) one x) [
            | inl e ↦ (
              p.in_file,
              subst (λ z. IsAsInTree u z p.in_file) e p.in_there,
              p.no_newer,
            )
            | inr n ↦ absurd n
          ];
        },
      )

  -- over every pair, of some input at least
  pub all-trusted : (first : List ℕ) (inputs outputs : List (List ℕ)) →
      any_is_old v (first ∷ inputs) outputs ≡ false → (output : List ℕ) → In output outputs →
      (file : File) × IsTrusted u (first ∷ inputs) output file
  all-trusted first inputs outputs h output i =
      let old : (input : List ℕ) → In input (first ∷ inputs) → pair_is_old v input output ≡ false =
      λ input x. not-in (pair_is_old v input) output outputs
      (not-in (λ z. list_any (pair_is_old v z) outputs) input (first ∷ inputs) h x) i in
      let p = pair-there first output (old first (inl refl)) in (
        p.out_file,
        record {
          output_there = p.out_there;
          inputs_there = λ input x.
              let q = pair-there input output (old input x) in (
                q.in_file,
                q.in_there,
                subst (λ (z : File). q.in_file.stamp ≤ z.stamp)
                    (same-file output q.out_file p.out_file q.out_there p.out_there) q.no_newer,
              );
        },
      )

  -- none of the items is out of date
  pub pairs-trusted : (inputs outputs : List (List ℕ)) (items : List Item) →
      length inputs ≡ length items → length outputs ≡ length items →
      old_items v inputs outputs items ≡ [] → (output : List ℕ) → In output outputs →
      (pair : Pairing) × In pair (pairs_of inputs outputs) × (pair.output ≡ output)
      × ((file : File) × IsTrusted u pair.inputs pair.output file)
  pairs-trusted (input ∷ inputs) (o ∷ outputs) (item ∷ items) li lo h output i =
      go (pair_is_old v input o) refl h i (λ n x. pairs-trusted inputs outputs items (omega arith)
      (omega arith) n output x)
    where
      go : (b : Bool) → pair_is_old v input o ≡ b →
          item_if b item (old_items v inputs outputs items) ≡ [] → In output (o ∷ outputs) →
          (old_items v inputs outputs items ≡ [] → In output outputs →
          (pair : Pairing) × In pair (pairs_of inputs outputs) × (pair.output ≡ output)
          × ((file : File) × IsTrusted u pair.inputs pair.output file)) →
          (pair : Pairing) × In pair (pairs_of (input ∷ inputs) (o ∷ outputs))
          × (pair.output ≡ output) × ((file : File) × IsTrusted u pair.inputs pair.output file)
      go true e n i rest = absurd (cc)
      go false e n (inl x) rest = let pair : Pairing = record { output = o; inputs = input ∷ [] } in
          (pair, inl refl, x, pair-trusted pair input refl e)
      go false e n (inr x) rest = let r = rest n x in (r.0, inr r.1, r.2, r.3)
  pairs-trusted [] outputs [] li lo h output i = absurd (none outputs lo i)
    where
      none : (xs : List (List ℕ)) → length xs ≡ 0 → In output xs → ⊥
      none [] e i = i
      none (x ∷ xs) e i = omega arith
  pairs-trusted [] outputs (item ∷ items) li lo h output i = absurd (omega arith)
  pairs-trusted (input ∷ inputs) [] items li lo h output i = absurd i
  pairs-trusted (input ∷ inputs) (o ∷ outputs) [] li lo h output i = absurd (omega arith)
