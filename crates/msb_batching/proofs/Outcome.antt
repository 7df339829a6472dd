-- The buckets that are filled by numbers are those of the definition.
use Rattle.std.proofs.Common.{
  ◌≡◌,
  ℕ,
  suc,
  ◌+◌,
  Bool,
  true,
  false,
  not,
  ◌&&◌,
  ◌||◌,
  List,
  [],
  ◌∷◌,
  ◌++◌,
  map,
  filter,
  refl,
  sym,
  ap,
  ap₂,
  ◌∙◌,
  cond,
  true≢false,
  fold,
  append_assoc,
  arith,
}
use Rattle.std.specs.List.{list_any, position_or_len, flat_map}
use Rattle.std.specs.BTreeMap.{insert_entry}
use Rattle.std.specs.Ordering.{nat_cmp}
use Rattle.std.specs.Cmp.Lexicographic.{slice_cmp}
use Rattle.std.proofs.lemmas.Bool.{and_parts}
use Rattle.std.proofs.lemmas.List.{append-nil}
use Rattle.std.proofs.lemmas.List.Sums.{fold-append}
use Rattle.std.proofs.lemmas.List.Concat.{flat_map-cons}
use Rattle.std.proofs.lemmas.Slice.Eq.{bytes_eq-Decides}
use Rattle.indexmap.specs.IndexSet.{insert_key, insert_all}
use Rattle.msb_values.specs.Same.{folded, is_same_text}
use Rattle.msb_values.specs.declared.item.Item.{Item}
use Rattle.msb_expand.specs.declared.lens.Bucket.{Bucket}
use Rattle.msb_batching.specs.declared.reference.Reference.{Reference}
use Rattle.msb_batching.specs.Distinct.{distinct}
use Rattle.msb_batching.specs.Buckets.{is_same_tuple, kept, with_list, or_this, buckets_of}
use Rattle.msb_batching.specs.Numbers.{
  rows_tuples,
  with_rows,
  with_batches,
  numbered_from,
  lists_from,
  put_at,
  spread_over,
}
use Rattle.msb_batching.specs.Filling.{bucket_begun, put_beside, filled_with, buckets_by}
use Rattle.msb_batching.proofs.Distinct.{Transitive, insert_all-distinct}
use Rattle.msb_batching.proofs.Numbering.{Apart, distinct-apart, number_stays}

-- ---- tuples that are the same

text_itself : (a : List ℕ) → is_same_text a a ≡ true
text_itself a = (bytes_eq-Decides (folded a) (folded a)).1 refl

text_back : (a b : List ℕ) → is_same_text a b ≡ true → is_same_text b a ≡ true
text_back a b h = (bytes_eq-Decides (folded b) (folded a)).1
    (sym ((bytes_eq-Decides (folded a) (folded b)).0 h))

text_on : Transitive is_same_text
text_on a b c p q = (bytes_eq-Decides (folded a) (folded c)).1
    ((bytes_eq-Decides (folded a) (folded b)).0 p ∙ (bytes_eq-Decides (folded b) (folded c)).0 q)

both : (a b : Bool) → a ≡ true → b ≡ true → (a && b) ≡ true
both a b p q = ap (λ t. t && b) p ∙ q

itself : (a : List (List ℕ)) → is_same_tuple a a ≡ true
itself [] = refl
itself (x ∷ xs) = both _ _ (text_itself x) (itself xs)

back : (a b : List (List ℕ)) → is_same_tuple a b ≡ true → is_same_tuple b a ≡ true
back [] [] h = refl
back [] (y ∷ ys) h = h
back (x ∷ xs) [] h = h
back (x ∷ xs) (y ∷ ys) h =
    let parts = and_parts (is_same_text x y) (is_same_tuple xs ys) h in
    both _ _ (text_back x y parts.0) (back xs ys parts.1)

on : Transitive is_same_tuple
on [] [] c p q = q
on [] (y ∷ ys) c p q = absurd (true≢false (sym p))
on (x ∷ xs) [] c p q = absurd (true≢false (sym p))
on (x ∷ xs) (y ∷ ys) [] p q = q
on (x ∷ xs) (y ∷ ys) (z ∷ zs) p q =
    let first = and_parts (is_same_text x y) (is_same_tuple xs ys) p in
    let second = and_parts (is_same_text y z) (is_same_tuple ys zs) q in
    both _ _ (text_on x y z first.0 second.0) (on xs ys zs first.1 second.1)

-- ---- the tuples

abbrev Tuple : Type 0
Tuple = List (List ℕ)

abbrev Batches : Type 0
Batches = List (List ℕ × List (Item × Tuple))

abbrev all_tuples : Batches → List Tuple
all_tuples batches = flat_map (λ batch. rows_tuples batch.1) batches

all_put : (batches : Batches) (tuples : List Tuple)
    → with_batches tuples batches ≡ insert_all is_same_tuple tuples (all_tuples batches)
all_put [] tuples = refl
all_put (batch ∷ batches) tuples =
    all_put batches (with_rows tuples batch.1)
    ∙ sym (fold-append (insert_key is_same_tuple) tuples (rows_tuples batch.1) (all_tuples batches))
    ∙ ap (insert_all is_same_tuple tuples)
    (sym (flat_map-cons (λ (b : List ℕ × List (Item × Tuple)). rows_tuples b.1) batch batches))

tuples_found : (batches : Batches) → with_batches [] batches
    ≡ distinct is_same_tuple (all_tuples batches)
tuples_found batches = all_put batches [] ∙ insert_all-distinct is_same_tuple on []
    (all_tuples batches)

-- ---- the numbers

abbrev number_in : List Tuple → Tuple → ℕ
number_in tuples t = position_or_len (is_same_tuple t) tuples

abbrev numbered_in : List Tuple → List (Item × Tuple) → List (Item × ℕ)
numbered_in tuples rows = map (λ row. (row.0, number_in tuples row.1)) rows

rows_numbered : (rows : List (Item × Tuple)) (seen more : List Tuple)
    → numbered_from seen rows
    ≡ numbered_in (insert_all is_same_tuple seen (rows_tuples rows ++ more)) rows
rows_numbered [] seen more = refl
rows_numbered (row ∷ rows) seen more =
    ap₂ ◌∷◌
    (ap (λ n. (row.0, n))
    (number_stays is_same_tuple itself seen row.1 (rows_tuples rows ++ more)))
    (rows_numbered rows (insert_key is_same_tuple seen row.1) more)

lists_numbered : (batches : Batches) (seen : List Tuple)
    → lists_from seen batches
    ≡ map (λ batch. (batch.0, numbered_in (with_batches seen batches) batch.1)) batches
lists_numbered [] seen = refl
lists_numbered (batch ∷ batches) seen =
    ap₂ ◌∷◌
    (ap (λ rows. (batch.0, rows))
    (rows_numbered batch.1 seen (all_tuples batches)
    ∙ ap (λ tuples. numbered_in tuples batch.1)
    (fold-append (insert_key is_same_tuple) seen (rows_tuples batch.1) (all_tuples batches)
    ∙ sym (all_put batches (with_rows seen batch.1)))))
    (lists_numbered batches (with_rows seen batch.1))

-- ---- the items of each tuple

one_more : (n : ℕ) → 1 + n ≡ suc n
one_more n = omega arith

abbrev item_if : Bool → Item → List Item
item_if b item = cond b (item ∷ []) []

module _ (item : Item) (t : Tuple) where
  abbrev grown : (Tuple → List Item) → Tuple → List Item
  grown items other = items other ++ item_if (is_same_tuple t other) item

  none_grows : (items : Tuple → List Item) (x : Tuple) (tuples : List Tuple)
      → is_same_tuple t x ≡ true → list_any (λ y. is_same_tuple y x) tuples ≡ false
      → map items tuples ≡ map (grown items) tuples
  none_grows items x [] here none = refl
  none_grows items x (y ∷ tuples) here none = step (is_same_tuple t y) refl (is_same_tuple y x) refl
      none (none_grows items x tuples here)
    where
      step : (b : Bool) → is_same_tuple t y ≡ b → (e : Bool) → is_same_tuple y x ≡ e
          → (e || list_any (λ z. is_same_tuple z x) tuples) ≡ false
          → (list_any (λ z. is_same_tuple z x) tuples ≡ false
          → map items tuples ≡ map (grown items) tuples)
          → items y ∷ map items tuples ≡ (items y ++ item_if (is_same_tuple t y) item)
          ∷ map (grown items) tuples
      step b at true other h rest = absurd (true≢false h)
      step true at false other h rest = absurd
          (true≢false (sym (on y t x (back t y at) here) ∙ other))
      step false at false other h rest = ap₂ ◌∷◌
          (sym (ap (λ c. items y ++ item_if c item) at ∙ append-nil (items y))) (rest h)

  grows : (items : Tuple → List Item) (tuples : List Tuple) → Apart is_same_tuple tuples
      → put_at (number_in tuples t) item (map items tuples) ≡ map (grown items) tuples
  grows items [] apart = refl
  grows items (x ∷ tuples) apart = step (is_same_tuple t x) refl (grows items tuples apart.1)
    where
      step : (b : Bool) → is_same_tuple t x ≡ b
          → put_at (number_in tuples t) item (map items tuples) ≡ map (grown items) tuples
          → put_at (cond (not b) (1 + number_in tuples t) 0) item (items x ∷ map items tuples)
          ≡ (items x ++ item_if (is_same_tuple t x) item) ∷ map (grown items) tuples
      step true at rest = ap₂ ◌∷◌ (sym (ap (λ c. items x ++ item_if c item) at))
          (none_grows items x tuples at apart.0)
      step false at rest =
          ap (λ n. put_at n item (items x ∷ map items tuples)) (one_more (number_in tuples t))
          ∙ ap₂ ◌∷◌ (sym (ap (λ c. items x ++ item_if c item) at ∙ append-nil (items x))) rest

kept_more : (b : Bool) (item : Item) (items more : List Item)
    → (items ++ item_if b item) ++ more ≡ items ++ cond b (item ∷ more) more
kept_more true item items more = append_assoc items (item ∷ []) more
kept_more false item items more = ap (λ l. l ++ more) (append-nil items)

kept_row : (b : Bool) (tuple : Tuple) (row : Item × Tuple) (rows : List (Item × Tuple))
    → is_same_tuple row.1 tuple ≡ b → cond b (row.0 ∷ kept tuple rows) (kept tuple rows)
    ≡ kept tuple (row ∷ rows)
kept_row true tuple row rows at = sym
    (ap
    (λ c.
    map (λ (r : Item × Tuple). r.0)
    (cond c (row ∷ filter (λ r. is_same_tuple r.1 tuple) rows)
    (filter (λ r. is_same_tuple r.1 tuple) rows))) at)
kept_row false tuple row rows at = sym
    (ap
    (λ c.
    map (λ (r : Item × Tuple). r.0)
    (cond c (row ∷ filter (λ r. is_same_tuple r.1 tuple) rows)
    (filter (λ r. is_same_tuple r.1 tuple) rows))) at)

same_lists : (f g : Tuple → List Item) → ((t : Tuple) → f t ≡ g t) → (tuples : List Tuple)
    → map f tuples ≡ map g tuples
same_lists f g h [] = refl
same_lists f g h (t ∷ tuples) = ap₂ ◌∷◌ (h t) (same_lists f g h tuples)

spread_kept : (rows : List (Item × Tuple)) (tuples : List Tuple) (items : Tuple → List Item)
    → Apart is_same_tuple tuples
    → spread_over (map items tuples) (numbered_in tuples rows)
    ≡ map (λ t. items t ++ kept t rows) tuples
spread_kept [] tuples items apart = same_lists items (λ t. items t ++ [])
    (λ t. sym (append-nil (items t))) tuples
spread_kept (row ∷ rows) tuples items apart =
    ap (λ lists. spread_over lists (numbered_in tuples rows)) (grows row.0 row.1 items tuples apart)
    ∙ spread_kept rows tuples (grown row.0 row.1 items) apart
    ∙ same_lists _ _
    (λ t. kept_more (is_same_tuple row.1 t) row.0 (items t) (kept t rows)
    ∙ ap (λ l. items t ++ l) (kept_row (is_same_tuple row.1 t) t row rows refl))
    tuples

-- ---- the buckets

put_each : (kind : List ℕ) (buckets : Tuple → Bucket) (lists : Tuple → List Item)
    (tuples : List Tuple)
    → put_beside kind (map buckets tuples) (map lists tuples)
    ≡ map
    (λ t.
    record {
      values = (buckets t).values;
      lists = insert_entry (slice_cmp nat_cmp) (buckets t).lists
          kind (lists t);
    }) tuples
put_each kind buckets lists [] = refl
put_each kind buckets lists (t ∷ tuples) = ap
    (λ l.
    record {
      values = (buckets t).values;
      lists = insert_entry (slice_cmp nat_cmp) (buckets t).lists kind
          (lists t);
    } ∷ l) (put_each kind buckets lists tuples)

-- each list is spread over these tuples
abbrev AllFit : List Tuple → List Tuple → Batches → Type 0
AllFit among tuples [] = Unit {0}
AllFit among tuples (batch ∷ batches) =
    (spread_over (map (λ tuple. []) tuples) (numbered_in among batch.1)
    ≡ map (λ tuple. kept tuple batch.1) tuples) × AllFit among tuples batches

abbrev filled_bucket : Bucket → Batches → Tuple → Bucket
filled_bucket bucket batches tuple = record
    { values = bucket.values; lists = fold (with_list tuple) bucket.lists batches }

filled_is : (among tuples : List Tuple) (batches : Batches) (buckets : Tuple → Bucket)
    → AllFit among tuples batches
    → filled_with tuples (map buckets tuples)
    (map (λ batch. (batch.0, numbered_in among batch.1)) batches)
    ≡ map (λ t. filled_bucket (buckets t) batches t) tuples
filled_is among tuples [] buckets fit = refl
filled_is among tuples (batch ∷ batches) buckets fit =
    ap (λ so_far. filled_with tuples so_far (map (λ b. (b.0, numbered_in among b.1)) batches))
    (ap (put_beside batch.0 (map buckets tuples)) fit.0
    ∙ put_each batch.0 buckets (λ t. kept t batch.1) tuples)
    ∙ filled_is among tuples batches
    (λ t. record { values = (buckets t).values; lists = with_list t (buckets t).lists batch })
    fit.1

all_fit : (tuples : List Tuple) (batches : Batches) → Apart is_same_tuple tuples
    → AllFit tuples tuples batches
all_fit tuples [] apart = tt
all_fit tuples (batch ∷ batches) apart =
    (spread_kept batch.1 tuples (λ t. []) apart, all_fit tuples batches apart)

no_tuples : (rows : List (Item × Tuple)) (tuples more : List Tuple) → rows_tuples rows ++ more ≡ []
    → (spread_over (map (λ tuple. []) tuples) (numbered_in [] rows)
    ≡ map (λ tuple. kept tuple rows) tuples) × (more ≡ [])
no_tuples [] tuples more e = (refl, e)
no_tuples (row ∷ rows) tuples more e = absurd cc

none_fit : (tuples : List Tuple) (batches : Batches) → all_tuples batches ≡ []
    → AllFit [] tuples batches
none_fit tuples [] e = tt
none_fit tuples (batch ∷ batches) e =
    let parts = no_tuples batch.1 tuples (all_tuples batches)
    (sym (flat_map-cons (λ (b : List ℕ × List (Item × Tuple)). rows_tuples b.1) batch batches)
    ∙ e) in
    (parts.0, none_fit tuples batches parts.1)

none_distinct : (tuples : List Tuple) → distinct is_same_tuple tuples ≡ [] → tuples ≡ []
none_distinct [] e = refl
none_distinct (t ∷ tuples) e = absurd cc

fits_all : (batches : Batches) (empty : Tuple) (among : List Tuple)
    → among ≡ distinct is_same_tuple (all_tuples batches) → Apart is_same_tuple among
    → AllFit among (or_this empty among) batches
fits_all batches empty [] e apart = none_fit (empty ∷ []) batches
    (none_distinct (all_tuples batches) (sym e))
fits_all batches empty (t ∷ tuples) e apart = all_fit (t ∷ tuples) batches apart

pub buckets_are : (references : List Reference) (batches : Batches)
    → buckets_by references (or_this (map (λ reference. []) references) (with_batches [] batches))
    (lists_from [] batches) ≡ buckets_of references batches
buckets_are references batches =
    let among = distinct is_same_tuple (all_tuples batches) in
    let tuples = or_this (map (λ reference. []) references) among in
    ap₂
    (λ found lists. buckets_by references (or_this (map (λ reference. []) references) found)
    lists) (tuples_found batches)
    (lists_numbered batches []
    ∙ ap (λ found. map (λ batch. (batch.0, numbered_in found batch.1)) batches)
    (tuples_found batches))
    ∙ filled_is among tuples batches (bucket_begun references)
    (fits_all batches (map (λ reference. []) references) among refl
    (distinct-apart is_same_tuple (all_tuples batches)))
