-- What a search finds among values that fit their keys, and what is there when one is put.
use Rattle.std.proofs.Common.{
  ◌≡◌,
  ◌↔◌,
  ◌∙◌,
  ◌∷◌,
  [],
  Bool,
  Err,
  List,
  Ok,
  OnErr,
  OnOk,
  Result,
  Some,
  cond,
  false,
  if◌then◌else◌,
  refl,
  subst,
  sym,
  true,
}
use Rattle.std.specs.Map.{lookup}
use Rattle.indexmap.specs.IndexMap.{insert_entry}
use Rattle.once_table.specs.Looked.{AllFit}

module _ {K V : Type 0} (eq : K → K → Bool) (P : K → V → Type 0)
    (equal : (one other : K) (value : V) → eq one other ≡ true → P one value ↔ P other value)
    (key : K) (value : V) where
  -- what a search finds fits the key
  pub found-fits : (es : List (K × V)) → AllFit P es → lookup (eq key) es ≡ Some value → P key value
  found-fits [] fit h = absurd (cc)
  found-fits (e ∷ es) fit h = by (eq key e.0) refl h (found-fits es fit.1)
    where
      by : (b : Bool) → eq key e.0 ≡ b →
          cond b (Some e.1) (lookup (eq key) es) ≡ Some value →
          (lookup (eq key) es ≡ Some value → P key value) → P key value
      by true is h rest = let same : e.1 ≡ value = cc in
          (equal key e.0 value is).1 (subst (P e.0) same fit.0)
      by false is h rest = rest h

  -- all fit still when one that fits is put among them
  pub put-fits : (es : List (K × V)) → AllFit P es → P key value →
      AllFit P (insert_entry eq es key value)
  put-fits [] fit is = (is, tt)
  put-fits (e ∷ es) fit is = by (eq key e.0) refl (put-fits es fit.1 is)
    where
      by : (b : Bool) → eq key e.0 ≡ b → AllFit P (insert_entry eq es key value) →
          AllFit P (if b then (e.0, value) ∷ es else e ∷ insert_entry eq es key value)
      by true it rest = ((equal key e.0 value it).0 is, fit.1)
      by false it rest = (fit.0, rest)

  -- so it is after an insert of copies, which changes nothing where there is no memory
  pub fit-after : {O E : Type 0} (es fs : List (K × V)) (k : K) (v : V) (r : Result O E) → k ≡ key →
      v ≡ value → OnOk r (fs ≡ insert_entry eq es k v) → OnErr r (fs ≡ es) → AllFit P es →
      P key value → AllFit P fs
  fit-after es fs k v (Ok old) same-key same-value is not-put fit fits =
      subst (AllFit P) (sym (is ∙ (λ j. insert_entry eq es (same-key j) (same-value j))))
      (put-fits es fit fits)
  fit-after es fs k v (Err refused) same-key same-value is not-put fit fits =
      subst (AllFit P) (sym not-put) fit
