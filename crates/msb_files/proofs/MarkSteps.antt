-- The marks of entries, one more, and those of two parts.
use Rattle.std.proofs.Common.{
  ◌≡◌,
  ◌∷◌,
  ◌++◌,
  Bool,
  true,
  false,
  ◌||◌,
  Result,
  Ok,
  Err,
  OnErr,
  cond,
  reverse,
  refl,
  ap,
  ◌∙◌,
  sym,
  subst,
}
use Rattle.std.specs.HashSet.{HashSet, contains}
use Rattle.std.specs.List.{list_any}
use Rattle.result_cache.specs.Journal.{Journal, Entry, Mark, mark, same_mark, has}
use Rattle.msb_files.specs.Indices.{HasMarks}
use Rattle.std.proofs.lemmas.List.{reverse-reverse}
use Rattle.msb_files.proofs.Contents.{has-append}
use Rattle.msb_files.proofs.PartSteps.{reversed_over}

or_cond : (b c : Bool) → cond b true c ≡ (b || c)
or_cond true c = refl
or_cond false c = refl

or_turned : (a b : Bool) → (a || b) ≡ (b || a)
or_turned true true = refl
or_turned true false = refl
or_turned false true = refl
or_turned false false = refl

module _ {S : Type 0} where
  pub one_more : (entries : Journal) (old new : HashSet Mark S) (e : Entry) (kept : Mark) →
      kept ≡ mark e → HasMarks entries old →
      ((m : Mark) → contains same_mark new m
      ≡ cond (same_mark kept m) true (contains same_mark old m)) →
      HasMarks (e ∷ entries) new
  one_more entries old new e kept is has_old grown m =
      grown m ∙ (or_cond (same_mark kept m) (contains same_mark old m)
      ∙ (ap (λ k. same_mark k m || contains same_mark old m) is
      ∙ ap (λ b. same_mark (mark e) m || b) (has_old m)))

  pub marks_turned : (newer older : Journal) (index : HashSet Mark S) →
      HasMarks (older ++ newer) index → HasMarks (newer ++ older) index
  marks_turned newer older index is m =
      is m ∙ (has-append m older newer
      ∙ (or_turned (has m older) (has m newer) ∙ sym (has-append m newer older)))

  pub marks_over : (entries given newer older : Journal) (index : HashSet Mark S) →
      given ≡ reverse older →
      entries ≡ reverse older ++ reverse newer → HasMarks (reverse given ++ newer) index →
      HasMarks (reverse entries) index
  marks_over entries given newer older index is is_all has_all =
      subst (λ es. HasMarks es index) (sym (ap reverse is_all ∙ reversed_over newer older))
      (marks_turned newer older index
      (subst (λ es. HasMarks (es ++ newer) index) (ap reverse is ∙ reverse-reverse older) has_all))

  same_marks : (entries : Journal) (old new : HashSet Mark S) → new.keys ≡ old.keys →
      HasMarks entries old → HasMarks entries new
  same_marks entries old new same is m = ap (list_any (same_mark m)) same ∙ is m

  pub stay_on_err : {T E : Type 0} (r : Result T E) (old new : HashSet Mark S) →
      new.keys ≡ old.keys →
      OnErr r ((entries : Journal) → HasMarks entries old → HasMarks entries new)
  stay_on_err (Ok x) old new same = tt
  stay_on_err (Err fault) old new same = λ entries is. same_marks entries old new same is
