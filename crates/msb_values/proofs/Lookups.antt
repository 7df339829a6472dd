-- A look-up by bytes is the map's look-up by order.
use Rattle.std.proofs.Common.{
  ◌≡◌,
  ℕ,
  List,
  [],
  ◌∷◌,
  Option,
  Some,
  None,
  unwrap_or,
  Bool,
  true,
  false,
  cond,
  is_eq,
  refl,
  sym,
  subst,
  ap,
  ◌∙◌,
}
use Rattle.std.specs.BTreeMap.{is_at, insert_entry}
use Rattle.std.specs.Cmp.Lexicographic.{slice_cmp}
use Rattle.std.specs.List.{AllByRecursion}
use Rattle.std.specs.List.Sorted.{IsStrictlySortedBy}
use Rattle.std.specs.Map.{lookup, set_value, remove_entry, keys_of}
use Rattle.std.specs.Ordering.{nat_cmp, match_ordering}
use Rattle.std.specs.declared.cmp.Ordering.{Ordering}
use Rattle.std.specs.declared.cmp.Ordering.TheVariants.{Less, Equal, Greater}
use Rattle.std.proofs.lemmas.Cmp.{nat_list_cmp_total}
use Rattle.std.proofs.lemmas.Map.Text.{is_eq-slice_cmp}
use Rattle.std.proofs.lemmas.Slice.Eq.{bytes_eq-Decides}
use Rattle.std.specs.Str.{bytes_eq}
use Rattle.msb_values.specs.Pairs.{value_at, changed_at, without_name}

pub lookup-value_at : {T : Type 0} (name : List ℕ) (pairs : List (List ℕ × T))
    → lookup (is_at (slice_cmp nat_cmp name)) pairs ≡ value_at name pairs
lookup-value_at name [] = refl
lookup-value_at name (p ∷ ps) = rw (is_eq-slice_cmp name p.0, lookup-value_at name ps) refl

-- a name below all the others is none of them
set-below : {T : Type 0} (name first : List ℕ) (value : T) (pairs : List (List ℕ × T))
    → AllByRecursion (λ other. slice_cmp nat_cmp first other ≡ Less) (keys_of pairs)
    → slice_cmp nat_cmp name first ≡ Less
    → set_value (is_at (slice_cmp nat_cmp name)) pairs value ≡ pairs
set-below name first value [] above less = refl
set-below name first value (p ∷ ps) above less = rw
    (nat_list_cmp_total.trans name first p.0 less above.0)
    (ap (λ rest. p ∷ rest) (set-below name first value ps above.1 less))

-- an insert at a name makes the same of pairs in which the name had something else
pub insert-set : {T : Type 0} (name : List ℕ) (value next : T) (pairs : List (List ℕ × T))
    → IsStrictlySortedBy (slice_cmp nat_cmp) (keys_of pairs)
    → insert_entry (slice_cmp nat_cmp) (set_value (is_at (slice_cmp nat_cmp name)) pairs value) name
    next ≡ insert_entry (slice_cmp nat_cmp) pairs name next
unfolding IsStrictlySortedBy
insert-set name value next [] sorted = refl
insert-set name value next (p ∷ ps) sorted = go (insert-set name value next ps sorted.1)
    (slice_cmp nat_cmp name p.0) refl
  where
    go : insert_entry (slice_cmp nat_cmp) (set_value (is_at (slice_cmp nat_cmp name)) ps value) name
        next ≡ insert_entry (slice_cmp nat_cmp) ps name next
        → (o : Ordering) → slice_cmp nat_cmp name p.0 ≡ o
        → insert_entry (slice_cmp nat_cmp)
        (cond (is_eq o) ((p.0, value) ∷ ps)
        (p ∷ set_value (is_at (slice_cmp nat_cmp name)) ps value)) name next
        ≡ match_ordering o ((name, next) ∷ p ∷ ps) ((p.0, next) ∷ ps)
        (p ∷ insert_entry (slice_cmp nat_cmp) ps name next)
    go later Less is = rw is
        (ap (λ rest. (name, next) ∷ p ∷ rest) (set-below name p.0 value ps sorted.0 is))
    go later Equal is = rw is refl
    go later Greater is = rw is (ap (λ rest. p ∷ rest) later)

-- what a name has is set

pub set-changed : {T : Type 0} (name : List ℕ) (value : T) (pairs : List (List ℕ × T))
    → set_value (is_at (slice_cmp nat_cmp name)) pairs value ≡ changed_at name (λ _. value) pairs
set-changed name value [] = refl
set-changed name value (p ∷ ps) = rw (is_eq-slice_cmp name p.0, set-changed name value ps) refl

pub changed-absent : {T : Type 0} (name : List ℕ) (change : T → T) (pairs : List (List ℕ × T))
    → value_at name pairs ≡ None → changed_at name change pairs ≡ pairs
changed-absent name change [] absent = refl
changed-absent {T} name change (p ∷ ps) absent = go (changed-absent name change ps)
    (bytes_eq name p.0) absent
  where
    go : (value_at name ps ≡ None → changed_at name change ps ≡ ps) → (b : Bool)
        → cond b (Some p.1) (value_at name ps) ≡ None
        → cond b ((p.0, change p.1) ∷ ps) (p ∷ changed_at name change ps) ≡ p ∷ ps
    go later true absent = cc
    go later false absent = ap (λ rest. p ∷ rest) (later absent)

-- a name is taken away

pub removed-without : {T : Type 0} (name : List ℕ) (pairs : List (List ℕ × T))
    → remove_entry (is_at (slice_cmp nat_cmp name)) pairs ≡ without_name name pairs
removed-without name [] = refl
removed-without name (p ∷ ps) = rw (is_eq-slice_cmp name p.0, removed-without name ps) refl

removed-below : {T : Type 0} (name first : List ℕ) (pairs : List (List ℕ × T))
    → AllByRecursion (λ other. slice_cmp nat_cmp first other ≡ Less) (keys_of pairs)
    → slice_cmp nat_cmp name first ≡ Less
    → remove_entry (is_at (slice_cmp nat_cmp name)) pairs ≡ pairs
removed-below name first [] above less = refl
removed-below name first (p ∷ ps) above less = rw
    (nat_list_cmp_total.trans name first p.0 less above.0)
    (ap (λ rest. p ∷ rest) (removed-below name first ps above.1 less))

inserted-below : {T : Type 0} (name : List ℕ) (next : T) (pairs : List (List ℕ × T))
    → AllByRecursion (λ other. slice_cmp nat_cmp name other ≡ Less) (keys_of pairs)
    → insert_entry (slice_cmp nat_cmp) pairs name next ≡ (name, next) ∷ pairs
inserted-below name next [] above = refl
inserted-below name next (p ∷ ps) above = rw above.0 refl

-- an insert at a name makes the same of pairs from which the name was taken away
pub insert-removed : {T : Type 0} (name : List ℕ) (next : T) (pairs : List (List ℕ × T))
    → IsStrictlySortedBy (slice_cmp nat_cmp) (keys_of pairs)
    → insert_entry (slice_cmp nat_cmp) (remove_entry (is_at (slice_cmp nat_cmp name)) pairs) name
    next ≡ insert_entry (slice_cmp nat_cmp) pairs name next
unfolding IsStrictlySortedBy
insert-removed name next [] sorted = refl
insert-removed name next (p ∷ ps) sorted = go (insert-removed name next ps sorted.1)
    (slice_cmp nat_cmp name p.0) refl
  where
    go : insert_entry (slice_cmp nat_cmp) (remove_entry (is_at (slice_cmp nat_cmp name)) ps) name
        next ≡ insert_entry (slice_cmp nat_cmp) ps name next
        → (o : Ordering) → slice_cmp nat_cmp name p.0 ≡ o
        → insert_entry (slice_cmp nat_cmp)
        (cond (is_eq o) ps (p ∷ remove_entry (is_at (slice_cmp nat_cmp name)) ps)) name next
        ≡ match_ordering o ((name, next) ∷ p ∷ ps) ((p.0, next) ∷ ps)
        (p ∷ insert_entry (slice_cmp nat_cmp) ps name next)
    go later Less is = rw is
        (ap (λ rest. (name, next) ∷ p ∷ rest) (removed-below name p.0 ps sorted.0 is))
    go later Equal is =
        let same : name ≡ p.0 = (bytes_eq-Decides name p.0).0
        (sym (is_eq-slice_cmp name p.0) ∙ ap is_eq is) in
        let above = subst
        (λ n. AllByRecursion (λ other. slice_cmp nat_cmp n other ≡ Less) (keys_of ps))
        (sym same) sorted.0 in
        inserted-below name next ps above ∙ ap (λ n. (n, next) ∷ ps) same
    go later Greater is = rw is (ap (λ rest. p ∷ rest) later)

-- what a name has is changed

pub changed-value : {T : Type 0} (name : List ℕ) (change : T → T) (value : T)
    (pairs : List (List ℕ × T)) → value_at name pairs ≡ Some value
    → changed_at name (λ _. change value) pairs ≡ changed_at name change pairs
changed-value name change value [] has = refl
changed-value {T} name change value (p ∷ ps) has = go (changed-value name change value ps)
    (bytes_eq name p.0) has
  where
    go : (value_at name ps ≡ Some value → changed_at name (λ _. change value) ps
        ≡ changed_at name change ps) → (b : Bool)
        → cond b (Some p.1) (value_at name ps) ≡ Some value
        → cond b ((p.0, change value) ∷ ps) (p ∷ changed_at name (λ _. change value) ps)
        ≡ cond b ((p.0, change p.1) ∷ ps) (p ∷ changed_at name change ps)
    go later true has =
        let same : p.1 ≡ value = cc in
        ap (λ v. (p.0, change v) ∷ ps) (sym same)
    go later false has = ap (λ rest. p ∷ rest) (later has)

-- by what comes of the value that it has
pub changed-by : {T : Type 0} (name : List ℕ) (change : T → T) (other : T)
    (pairs : List (List ℕ × T))
    → changed_at name (λ _. change (unwrap_or (value_at name pairs) other)) pairs
    ≡ changed_at name change pairs
changed-by {T} name change other pairs = go (value_at name pairs) refl
  where
    go : (o : Option T) → value_at name pairs ≡ o
        → changed_at name (λ _. change (unwrap_or o other)) pairs ≡ changed_at name change pairs
    go None is = changed-absent name _ pairs is ∙ sym (changed-absent name change pairs is)
    go (Some value) is = changed-value name change value pairs is

pub changed-twice : {T : Type 0} (name : List ℕ) (first second : T → T) (pairs : List (List ℕ × T))
    → changed_at name second (changed_at name first pairs)
    ≡ changed_at name (λ value. second (first value)) pairs
changed-twice name first second [] = refl
changed-twice {T} name first second (p ∷ ps) = go (changed-twice name first second ps)
    (bytes_eq name p.0) refl
  where
    go : changed_at name second (changed_at name first ps)
        ≡ changed_at name (λ value. second (first value)) ps → (b : Bool) → bytes_eq name p.0 ≡ b
        → changed_at name second (cond b ((p.0, first p.1) ∷ ps) (p ∷ changed_at name first ps))
        ≡ cond b ((p.0, second (first p.1)) ∷ ps)
        (p ∷ changed_at name (λ value. second (first value)) ps)
    go later true is = rw is refl
    go later false is = rw is (ap (λ rest. p ∷ rest) later)

pub changed-same : {T : Type 0} (name : List ℕ) (pairs : List (List ℕ × T))
    → changed_at name (λ value. value) pairs ≡ pairs
changed-same name [] = refl
changed-same {T} name (p ∷ ps) = go (changed-same name ps) (bytes_eq name p.0)
  where
    go : changed_at name (λ value. value) ps ≡ ps → (b : Bool)
        → cond b ((p.0, p.1) ∷ ps) (p ∷ changed_at name (λ value. value) ps) ≡ p ∷ ps
    go later true = refl
    go later false = ap (λ rest. p ∷ rest) later

value-below : {T : Type 0} (name first : List ℕ) (pairs : List (List ℕ × T))
    → AllByRecursion (λ other. slice_cmp nat_cmp first other ≡ Less) (keys_of pairs)
    → slice_cmp nat_cmp name first ≡ Less → value_at name pairs ≡ None
value-below name first [] above less = refl
value-below name first (p ∷ ps) above less =
    let below : is_eq (slice_cmp nat_cmp name p.0)
    ≡ false = ap is_eq (nat_list_cmp_total.trans name first p.0 less above.0) in
    ap (λ b. cond b (Some p.1) (value_at name ps)) (sym (is_eq-slice_cmp name p.0) ∙ below)
    ∙ value-below name first ps above.1 less

-- an insert at a name that is there changes what it has
pub insert-present : {T : Type 0} (name : List ℕ) (value next : T) (pairs : List (List ℕ × T))
    → IsStrictlySortedBy (slice_cmp nat_cmp) (keys_of pairs) → value_at name pairs ≡ Some value
    → insert_entry (slice_cmp nat_cmp) pairs name next ≡ changed_at name (λ _. next) pairs
unfolding IsStrictlySortedBy
insert-present name value next [] sorted has = cc
insert-present {T} name value next (p ∷ ps) sorted has = go
    (insert-present name value next ps sorted.1) (slice_cmp nat_cmp name p.0) refl
    (bytes_eq name p.0) (is_eq-slice_cmp name p.0) has
  where
    go : (value_at name ps ≡ Some value → insert_entry (slice_cmp nat_cmp) ps name next
        ≡ changed_at name (λ _. next) ps)
        → (o : Ordering) → slice_cmp nat_cmp name p.0 ≡ o → (b : Bool)
        → is_eq (slice_cmp nat_cmp name p.0) ≡ b
        → cond b (Some p.1) (value_at name ps) ≡ Some value
        → match_ordering o ((name, next) ∷ p ∷ ps) ((p.0, next) ∷ ps)
        (p ∷ insert_entry (slice_cmp nat_cmp) ps name next)
        ≡ cond b ((p.0, next) ∷ ps) (p ∷ changed_at name (λ _. next) ps)
    go later Less is true same has =
        let no : is_eq Less ≡ true = sym (ap is_eq is) ∙ same in
        cc
    go later Less is false same has =
        let none = value-below name p.0 ps sorted.0 is in
        cc
    go later Equal is true same has = refl
    go later Equal is false same has =
        let yes' : is_eq Equal ≡ false = sym (ap is_eq is) ∙ same in
        cc
    go later Greater is true same has =
        let no : is_eq Greater ≡ true = sym (ap is_eq is) ∙ same in
        cc
    go later Greater is false same has = ap (λ rest. p ∷ rest) (later has)
