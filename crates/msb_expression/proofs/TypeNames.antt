-- The machine over the type name of an `@(`.
use Rattle.std.proofs.Common.{
  ◌≡◌,
  ℕ,
  false,
  List,
  [],
  ◌∷◌,
  ◌++◌,
  refl,
  sym,
  ap,
  ◌∙◌,
  subst,
  append_assoc,
  ◌⊎◌,
  inl,
  inr,
}
use Rattle.std.specs.Prelude.{IsTrue}
use Rattle.std.proofs.lemmas.List.{append-nil}
use Rattle.msb_expression.specs.declared.expression.Part.{Part}
use Rattle.msb_expression.specs.declared.sorts.Sort.{Sort}
use Rattle.msb_expression.specs.declared.sorts.Sort.TheVariants.{Letter, Digit, Dash, Greater}
use Rattle.msb_expression.specs.Grammar.{IsName, Every, is_name_byte}
use Rattle.msb_expression.specs.Machine.{
  is_name_sort,
  sort_of,
  first_sort,
  Mode,
  type_opened,
  in_type,
  type_dashed,
  stepping,
  dashed,
  arrow,
  go,
  step_of,
  in_type_step,
  type_dashed_step,
  stepping_step,
  heads_of,
  run,
}
use Rattle.msb_expression.specs.Answers.{EndsType}
use Rattle.msb_expression.proofs.Bytes.{SortIs, sort_is, letter_sort}
use Rattle.msb_expression.proofs.Runs.{run-go, run-same, name_byte_sort}

-- the modes behind these bytes of a type name: a last `-` may be none of it
abbrev pub TypeAt : List Part → List ℕ → Mode → Type 0
TypeAt parts kind mode = (mode ≡ in_type parts kind)
    ⊎ ((front : List ℕ) × (front ++ 45 ∷ [] ≡ kind) × (mode ≡ type_dashed parts front))

abbrev TypeGoes : List Part → List ℕ → Mode → ℕ → Type 0
TypeGoes parts kind mode b = (next : Mode) × TypeAt parts (kind ++ b ∷ []) next
    × (step_of mode (sort_of b) b ≡ go next)

dash_is : (b : ℕ) → sort_of b ≡ Dash → b ≡ 45
dash_is b e = subst (λ s. SortIs s b) e (sort_is b)

in_type_goes : (parts : List Part) (kind : List ℕ) (b : ℕ) → IsTrue (is_name_byte b)
    → TypeGoes parts kind (in_type parts kind) b
in_type_goes parts kind b h = elim (name_byte_sort b h) [
  | inl e ↦ (in_type parts (kind ++ b ∷ []), inl refl, ap (λ s. in_type_step parts kind s b) e)
  | inr k ↦ elim k [
    | inl e ↦ (in_type parts (kind ++ b ∷ []), inl refl, ap (λ s. in_type_step parts kind s b) e)
    | inr e ↦ (
      type_dashed parts kind,
      inr (kind, ap (λ c. kind ++ c ∷ []) (sym (dash_is b e)), refl),
      ap
          (λ s. in_type_step parts kind s b) e,
    )
  ]
]

type_dashed_goes : (parts : List Part) (front : List ℕ) (b : ℕ) → IsTrue (is_name_byte b)
    → TypeGoes parts (front ++ 45 ∷ []) (type_dashed parts front) b
type_dashed_goes parts front b h = elim (name_byte_sort b h) [
  | inl e ↦ (
    in_type parts ((front ++ 45 ∷ []) ++ b ∷ []),
    inl refl,
    ap
        (λ s. type_dashed_step parts front s b) e,
  )
  | inr k ↦ elim k [
    | inl e ↦ (
      in_type parts ((front ++ 45 ∷ []) ++ b ∷ []),
      inl refl,
      ap
          (λ s. type_dashed_step parts front s b) e,
    )
    | inr e ↦ (
      type_dashed parts (front ++ 45 ∷ []),
      inr
          (front ++ 45 ∷ [], ap (λ c. (front ++ 45 ∷ []) ++ c ∷ []) (sym (dash_is b e)), refl),
      ap
          (λ s. type_dashed_step parts front s b) e,
    )
  ]
]

type_goes : (parts : List Part) (kind : List ℕ) (mode : Mode) (b : ℕ) → IsTrue (is_name_byte b)
    → TypeAt parts kind mode → TypeGoes parts kind mode b
type_goes parts kind mode b h (inl e) = subst (λ m. TypeGoes parts kind m b) (sym e)
    (in_type_goes parts kind b h)
type_goes parts kind mode b h (inr p) =
    subst (λ m. TypeGoes parts kind m b) (sym p.2)
    (subst (λ k. TypeGoes parts k (type_dashed parts p.0) b) p.1
    (type_dashed_goes parts p.0 b h))

abbrev TypeRuns : List Part → List ℕ → Mode → List ℕ → List ℕ → Type 0
TypeRuns parts kind mode more rest = (next : Mode) × TypeAt parts (kind ++ more) next
    × (run (more ++ rest) mode ≡ run rest next)

type_runs : (parts : List Part) (kind : List ℕ) (mode : Mode) (more rest : List ℕ)
    → Every is_name_byte more → TypeAt parts kind mode → TypeRuns parts kind mode more rest
type_runs parts kind mode [] rest h t =
    (mode, subst (λ k. TypeAt parts k mode) (sym (append-nil kind)) t, refl)
type_runs parts kind mode (b ∷ bs) rest h t =
    let g : TypeGoes parts kind mode b = type_goes parts kind mode b h.0 t in
    let r : TypeRuns parts (kind ++ b ∷ []) g.0 bs rest = type_runs parts (kind ++ b ∷ []) g.0 bs
    rest h.1 g.1 in (
      r.0,
      subst (λ k. TypeAt parts k r.0) (append_assoc kind (b ∷ []) bs) r.1,
      run-go b (bs ++ rest)
          mode g.0 g.2 ∙ r.2,
    )

over_type : (parts : List Part) (kind : List ℕ) (sort : Sort) (b : ℕ) → is_name_sort sort ≡ false
    → in_type_step parts kind sort b ≡ stepping_step (heads_of parts kind) sort
over_type parts kind Letter b e = cc
over_type parts kind Digit b e = cc
over_type parts kind Dash b e = cc
over_type parts kind _ b e = refl

over_dashed : (parts : List Part) (front : List ℕ) (sort : Sort) (b : ℕ) → is_name_sort sort ≡ false
    → (sort ≡ Greater → ⊥) → type_dashed_step parts front sort b
    ≡ stepping_step (heads_of parts (front ++ 45 ∷ [])) sort
over_dashed parts front Letter b e n = cc
over_dashed parts front Digit b e n = cc
over_dashed parts front Dash b e n = cc
over_dashed parts front Greater b e n = absurd (n refl)
over_dashed parts front _ b e n = refl

type_over : (parts : List Part) (kind rest : List ℕ) (mode : Mode) → TypeAt parts kind mode
    → is_name_sort (first_sort rest) ≡ false
    → ((front : List ℕ) → front ++ 45 ∷ [] ≡ kind → first_sort rest ≡ Greater → ⊥)
    → run rest mode ≡ run rest (stepping (heads_of parts kind))
type_over parts kind rest mode (inl e) n d =
    ap (run rest) e ∙ run-same rest (in_type parts kind) (stepping (heads_of parts kind)) refl
    (λ b h. over_type parts kind (sort_of b) b (ap is_name_sort (sym h) ∙ n))
type_over parts kind rest mode (inr p) n d =
    ap (run rest) p.2 ∙ run-same rest (type_dashed parts p.0)
    (stepping (heads_of parts (p.0 ++ 45 ∷ []))) refl
    (λ b h. over_dashed parts p.0 (sort_of b) b (ap is_name_sort (sym h) ∙ n)
    (λ g. d p.0 p.1 (h ∙ g)))
    ∙ ap (λ k. run rest (stepping (heads_of parts k))) p.1

arrow_over : (parts : List Part) (kind more : List ℕ) (mode : Mode) → TypeAt parts kind mode
    → run (45 ∷ 62 ∷ more) mode ≡ run (45 ∷ 62 ∷ more) (stepping (heads_of parts kind))
arrow_over parts kind more mode t = reached mode t ∙ sym through
  where
    through : run (45 ∷ 62 ∷ more) (stepping (heads_of parts kind))
        ≡ run more (arrow (heads_of parts kind))
    through = run-go 45 (62 ∷ more) (stepping (heads_of parts kind)) (dashed (heads_of parts kind))
        refl ∙ run-go 62 more (dashed (heads_of parts kind)) (arrow (heads_of parts kind)) refl

    reached : (mode : Mode) → TypeAt parts kind mode
        → run (45 ∷ 62 ∷ more) mode ≡ run more (arrow (heads_of parts kind))
    reached mode (inl e) =
        ap (run (45 ∷ 62 ∷ more)) e ∙ run-go 45 (62 ∷ more) (in_type parts kind)
        (type_dashed parts kind) refl
        ∙ run-go 62 more (type_dashed parts kind) (arrow (heads_of parts kind)) refl
    reached mode (inr p) =
        ap (run (45 ∷ 62 ∷ more)) p.2 ∙ run-go 45 (62 ∷ more) (type_dashed parts p.0)
        (type_dashed parts (p.0 ++ 45 ∷ [])) refl
        ∙ run-go 62 more (type_dashed parts (p.0 ++ 45 ∷ []))
        (arrow (heads_of parts (p.0 ++ 45 ∷ []))) refl
        ∙ ap (λ k. run more (arrow (heads_of parts k))) p.1

pub run-type : (parts : List Part) (kind rest : List ℕ) → IsName kind → EndsType kind rest
    → run (kind ++ rest) (type_opened parts) ≡ run rest (stepping (heads_of parts kind))
run-type parts [] rest n e = absurd n
run-type parts (b ∷ bs) rest n e =
    let r : TypeRuns parts (b ∷ []) (in_type parts (b ∷ [])) bs rest = type_runs parts (b ∷ [])
    (in_type parts (b ∷ [])) bs rest n.1 (inl refl) in
    run-go b (bs ++ rest) (type_opened parts) (in_type parts (b ∷ []))
    (ap (λ s. step_of (type_opened parts) s b) (letter_sort b n.0))
    ∙ r.2 ∙ over r.0 r.1 e
  where
    over : (mode : Mode) → TypeAt parts (b ∷ bs) mode → EndsType (b ∷ bs) rest
        → run rest mode ≡ run rest (stepping (heads_of parts (b ∷ bs)))
    over mode t (inl p) = type_over parts (b ∷ bs) rest mode t p.0 p.1
    over mode t (inr p) = ap (λ x. run x mode) p.1 ∙ arrow_over parts (b ∷ bs) p.0 mode t
        ∙ ap (λ x. run x (stepping (heads_of parts (b ∷ bs)))) (sym p.1)
