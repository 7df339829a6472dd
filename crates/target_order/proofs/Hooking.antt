-- The index that a walk starts with.
use Rattle.std.proofs.Common.{
  ◌≡◌,
  ◌≢◌,
  ◌⊎◌,
  ℕ,
  ◌+◌,
  ◌<◌,
  ◌≤◌,
  Bool,
  true,
  false,
  cond,
  ◌||◌,
  eqb,
  List,
  [],
  ◌∷◌,
  ◌++◌,
  length,
  get_or,
  take,
  set,
  map,
  Some,
  None,
  refl,
  sym,
  ap,
  ◌∙◌,
  inl,
  inr,
  arith,
  append-nil,
}
use Rattle.std.specs.List.{filter}
use Rattle.std.specs.Str.{bytes_eq}
use Rattle.std.proofs.Math.ListN.{length-set}
use Rattle.std.proofs.lemmas.List.{get_or-set_same, get_or-set_other, take_more}
use Rattle.std.proofs.lemmas.List.Folds.{list_any-append}
use Rattle.std.proofs.lemmas.Bool.{false_from_ne_true, cases_eq, eqb-false}
use Rattle.std.proofs.lemmas.Bool.Decides.{nat_tests}
use Rattle.msb_laws.specs.Words.{Name}
use Rattle.target_order.specs.declared.row.TargetRow.{TargetRow}
use Rattle.target_order.specs.declared.hooks.Side.{Side}
use Rattle.target_order.specs.Visit.{naming}
use Rattle.target_order.specs.Progress.{number_of}
use Rattle.target_order.specs.Table.{side_of, AreDistinct, is_among, AreHooks, AreHooked}
use Rattle.target_order.proofs.Names.{same_name, own_name, number_name}

-- a name that isn't that of this number differs from it
pub differs : (names : List Name) → AreDistinct names → (t : Name) (k : ℕ) → k < length names
    → number_of names t ≢ Some k → bytes_eq t (get_or names k []) ≡ false
differs names distinct t k lt ne = false_from_ne_true _
    (λ e. ne (ap (number_of names) (same_name t (get_or names k []) e) ∙ distinct k lt))

among_push : (seen : List Name) (name n : Name)
    → is_among (seen ++ name ∷ []) n ≡ (is_among seen n || bytes_eq name n)
among_push seen name n = list_any-append (λ m. bytes_eq m n) seen (name ∷ [])
    ∙ last (is_among seen n) (bytes_eq name n)
  where
    last : (a b : Bool) → (a || (b || false)) ≡ (a || b)
    last true b = refl
    last false true = refl
    last false false = refl

or_false : (a b : Bool) → b ≡ false → (a || b) ≡ a
or_false true b e = refl
or_false false b e = e

or_true : (a b : Bool) → b ≡ true → (a || b) ≡ true
or_true true b e = refl
or_true false b e = e

among_other : (seen : List Name) (name n : Name) → bytes_eq name n ≡ false
    → is_among (seen ++ name ∷ []) n ≡ is_among seen n
among_other seen name n e = among_push seen name n ∙ or_false (is_among seen n) (bytes_eq name n) e

among_this : (seen : List Name) (name n : Name) → bytes_eq name n ≡ true
    → is_among (seen ++ name ∷ []) n ≡ true
among_this seen name n e = among_push seen name n ∙ or_true (is_among seen n) (bytes_eq name n) e

module _ (turn : ℕ) (row : Name) (seen names : List Name) (before lists : List (List Name))
    (turns : List ℕ) (distinct : AreDistinct names)
    (is : AreHooked turn row seen names before lists turns) (name : Name) where
  abbrev own : Bool → List Name
  own b = cond b (row ∷ []) []

  -- what a name that isn't that of target k leaves of it
  each_other : (k : ℕ) → k < length names → bytes_eq name (get_or names k []) ≡ false
      → get_or lists k [] ≡ get_or before k []
      ++ own (is_among (seen ++ name ∷ []) (get_or names k []))
  each_other k lt e = is.each k lt ∙ ap (λ b. get_or before k [] ++ own b)
      (sym (among_other seen name (get_or names k []) e))

  noted_other : (k : ℕ) → k < length names → bytes_eq name (get_or names k []) ≡ false →
      ((get_or turns k 0 ≡ turn) → is_among (seen ++ name ∷ []) (get_or names k []) ≡ true)
      × (is_among (seen ++ name ∷ []) (get_or names k []) ≡ true → (get_or turns k 0 ≡ turn))
  noted_other k lt e =
      let same = among_other seen name (get_or names k []) e in
      (λ h. same ∙ (is.noted k lt).0 h, λ h. (is.noted k lt).1 (sym same ∙ h))

  pub hooked_none : number_of names name ≡ None
      → AreHooked turn row (seen ++ name ∷ []) names before lists turns
  hooked_none none =
      let other : (k : ℕ) → k < length names → bytes_eq name (get_or names k [])
      ≡ false = λ k lt. differs names distinct name k lt (λ e. absurd (cc)) in
      record {
        len = is.len;
        turns_len = is.turns_len;
        each = λ k lt. each_other k lt (other k lt);
        noted = λ k lt. noted_other k lt (other k lt);
        past = is.past;
      }

  module _ (t : ℕ) (number : number_of names name ≡ Some t) (here : t < length names) where
    this : bytes_eq name (get_or names t []) ≡ true
    this = ap (λ n. bytes_eq name n) (number_name names name t number) ∙ own_name name

    abbrev lists_by : Bool → List (List Name)
    lists_by b = cond b lists (set lists t (get_or lists t [] ++ row ∷ []))

    len_by : (b : Bool) → length (lists_by b) ≡ length names
    len_by true = is.len
    len_by false = length-set lists t (get_or lists t [] ++ row ∷ []) ∙ is.len

    list_other : (b : Bool) (k : ℕ) → k ≢ t → get_or (lists_by b) k [] ≡ get_or lists k []
    list_other true k ne = refl
    list_other false k ne = get_or-set_other lists t k (get_or lists t [] ++ row ∷ []) [] ne

    list_this : (b : Bool) → eqb (get_or turns t 0) turn ≡ b
        → get_or (lists_by b) t [] ≡ get_or before t [] ++ row ∷ []
    list_this true e =
        let old : is_among seen (get_or names t [])
        ≡ true = (is.noted t here).0 (grind (arith, nat_tests)) in
        is.each t here ∙ ap (λ b. get_or before t [] ++ own b) old
    list_this false e =
        let old : is_among seen (get_or names t [])
        ≡ false = false_from_ne_true _
        (λ h. eqb-false (get_or turns t 0) turn e ((is.noted t here).1 h)) in
        let len = is.len in
        get_or-set_same lists t (get_or lists t [] ++ row ∷ []) [] (omega arith)
        ∙ ap (λ l. l ++ row ∷ []) (is.each t here
        ∙ (ap (λ b. get_or before t [] ++ own b) old ∙ append-nil (get_or before t [])))

    other_of : (k : ℕ) → k < length names → k ≢ t → bytes_eq name (get_or names k []) ≡ false
    other_of k lt ne = differs names distinct name k lt (λ e. ne cc)

    each_by : (b : Bool) → eqb (get_or turns t 0) turn ≡ b → (k : ℕ) → k < length names
        → (k ≡ t) ⊎ (k ≡ t → ⊥) →
        get_or (lists_by b) k [] ≡ get_or before k []
        ++ own (is_among (seen ++ name ∷ []) (get_or names k []))
    each_by b e k lt (inl at) =
        rw at
        (list_this b e ∙ ap (λ c. get_or before t [] ++ own c)
        (sym (among_this seen name (get_or names t []) this)))
    each_by b e k lt (inr ne) = list_other b k ne ∙ each_other k lt (other_of k lt ne)

    noted_by : (k : ℕ) → k < length names → (k ≡ t) ⊎ (k ≡ t → ⊥) →
        ((get_or (set turns t turn) k 0 ≡ turn)
        → is_among (seen ++ name ∷ []) (get_or names k []) ≡ true)
        × (is_among (seen ++ name ∷ []) (get_or names k []) ≡ true
        → (get_or (set turns t turn) k 0 ≡ turn))
    noted_by k lt (inl at) =
        let len = is.turns_len in (
          λ h. rw at (among_this seen name (get_or names t []) this),
          λ h.
              rw at (get_or-set_same turns t turn 0 (omega arith)),
        )
    noted_by k lt (inr ne) =
        let old = noted_other k lt (other_of k lt ne) in
        let same = get_or-set_other turns t k turn 0 ne in
        (λ h. old.0 (sym same ∙ h), λ h. same ∙ old.1 h)

    past_by : (k : ℕ) → k < length names → (k ≡ t) ⊎ (k ≡ t → ⊥)
        → get_or (set turns t turn) k 0 ≤ turn
    past_by k lt (inl at) =
        let len = is.turns_len in
        let same : get_or (set turns t turn) k 0
        ≡ turn = rw at (get_or-set_same turns t turn 0 (omega arith)) in omega arith
    past_by k lt (inr ne) = let same = get_or-set_other turns t k turn 0 ne in let old = is.past k
        lt in omega arith

    pub hooked_some : (b : Bool) → eqb (get_or turns t 0) turn ≡ b
        → AreHooked turn row (seen ++ name ∷ []) names before (lists_by b) (set turns t turn)
    hooked_some b e = record {
      len = len_by b;
      turns_len = length-set turns t turn ∙ is.turns_len;
      each = λ k lt. each_by b e k lt (cases_eq k t);
      noted = λ k lt. noted_by k lt (cases_eq k t);
      past = λ k lt. past_by k lt (cases_eq k t);
    }

pub hooked_start : (turn : ℕ) (row : Name) (names : List Name) (lists : List (List Name))
    (turns : List ℕ) → length lists ≡ length names → length turns ≡ length names →
    ((k : ℕ) → k < length names → get_or turns k 0 < turn)
    → AreHooked turn row [] names lists lists turns
hooked_start turn row names lists turns len turns_len past = record {
  len = len;
  turns_len = turns_len;
  each = λ k lt. sym (append-nil (get_or lists k []));
  noted = λ k lt. (λ e. absurd (let p = past k lt in omega arith), λ e. absurd (cc));
  past = λ k lt. let p = past k lt in omega arith;
}

naming_by : (b : Bool) (r : TargetRow) (rest : List Name)
    → map (λ (q : TargetRow). q.name) (cond b (r ∷ []) []) ≡ cond b (r.name ∷ []) []
naming_by true r rest = refl
naming_by false r rest = refl

-- one more row
naming_push : (listed : TargetRow → List Name) (rows : List TargetRow) (r : TargetRow) (n : Name)
    → naming listed (rows ++ r ∷ []) n ≡ naming listed rows n
    ++ cond (is_among (listed r) n) (r.name ∷ []) []
naming_push listed [] r n = elim (is_among (listed r) n) as
    (λ b. map (λ (q : TargetRow). q.name) (cond b (r ∷ []) []) ≡ [] ++ cond b (r.name ∷ []) [])
    [ true ↦ refl | false ↦ refl ]
naming_push listed (q ∷ rows) r n = by_first (is_among (listed q) n) (naming_push listed rows r n)
  where
    by_first : (b : Bool) → naming listed (rows ++ r ∷ []) n
        ≡ naming listed rows n ++ cond (is_among (listed r) n) (r.name ∷ []) [] →
        map (λ (s : TargetRow). s.name)
        (cond b (q ∷ filter (λ s. is_among (listed s) n) (rows ++ r ∷ []))
        (filter (λ s. is_among (listed s) n) (rows ++ r ∷ [])))
        ≡ map (λ (s : TargetRow). s.name)
        (cond b (q ∷ filter (λ s. is_among (listed s) n) rows)
        (filter (λ s. is_among (listed s) n) rows))
        ++ cond (is_among (listed r) n) (r.name ∷ []) []
    by_first true rest = ap (λ ns. q.name ∷ ns) rest
    by_first false rest = rest

pub hooks_more : (side : Side) (rows : List TargetRow) (at : ℕ) (r : TargetRow) (names : List Name)
    (lists lists' : List (List Name)) (turns : List ℕ) → at < length rows → r ≡ get_or rows at r →
    AreHooks side (take at rows) names lists
    → AreHooked (at + 1) r.name (side_of side r) names lists lists' turns
    → AreHooks side (take (at + 1) rows) names lists'
hooks_more side rows at r names lists lists' turns lt read old new = record {
  len = new.len;
  each = λ k h. new.each k h
      ∙ (ap (λ l. l ++ cond (is_among (side_of side r) (get_or names k [])) (r.name ∷ []) [])
      (old.each k h)
      ∙ (sym (naming_push (side_of side) (take at rows) r (get_or names k []))
      ∙ ap (λ rs. naming (side_of side) rs (get_or names k []))
      (sym (take_more rows at r lt ∙ ap (λ q. take at rows ++ q ∷ []) (sym read)))));
}
