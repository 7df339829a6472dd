-- Acts on files and paths that are listed, and parts of three items.
use Rattle.std.proofs.Common.{
  ◌≡◌,
  ℕ,
  suc,
  Bool,
  true,
  false,
  inl,
  inr,
  List,
  [],
  ◌∷◌,
  length,
  map,
  Option,
  None,
  Some,
  refl,
  ap,
  sym,
  ◌∙◌,
  subst,
  arith,
}
use Rattle.std.specs.List.{list_any}
use Rattle.std.specs.Str.{bytes_eq}
use Rattle.std.proofs.lemmas.Slice.Eq.{bytes_eq-Decides}
use Rattle.msb_values.specs.Acts.{act_path, act_bytes}
use Rattle.msb_values.specs.declared.act.Act.{Act}
use Rattle.result_cache.specs.declared.record.Record.{Record}
use Rattle.result_cache.specs.declared.run.RunId.{RunId}
use Rattle.result_cache.specs.Journal.{Journal, acted, add, record_of}
use Rattle.result_cache.specs.Lists.{this_or}
use Rattle.result_cache.proofs.RunTests.{tells, clash, or_cases}
use Rattle.build_meaning.specs.Walk.{Outcome}
use Rattle.build_incremental.specs.Alike.{AlikeFound, AlikeJournals}
use Rattle.build_incremental.specs.Alone.{last_bytes}
use Rattle.task_trait.specs.declared.tools.ToolAnswer.{ToolAnswer}
use Rattle.task_trait.specs.declared.tools.ToolInput.{ToolInput}
use Rattle.target_body.specs.Work.{Work, done, does, uses, calls}
use Rattle.build_declared.specs.Ends.{End, end_of}
use Rattle.build_declared.specs.Sublists.{ArePart}
use Rattle.build_declared.specs.Written.{AnyPath, is_one_of}
use Rattle.build_declared.proofs.Twins.{AlikeWork}
use Rattle.declared_witness.specs.ThreeCopies.{sources}

-- ---- paths

-- each of these is so
abbrev pub EachPath : (List ℕ → Type 0) → List (List ℕ) → Type 0
EachPath P [] = Unit {0}
EachPath P (path ∷ paths) = P path × EachPath P paths

pub at-one : (P : List ℕ → Type 0) (paths : List (List ℕ)) → EachPath P paths → (path : List ℕ) →
    is_one_of path paths ≡ true → P path
at-one P [] h path e = absurd (cc)
at-one P (x ∷ xs) h path e = elim (or_cases (bytes_eq path x) (list_any (bytes_eq path) xs) e) [
  | inl q ↦ subst P (sym ((bytes_eq-Decides path x).0 q)) h.0
  | inr r ↦ at-one P xs h.1 path r
]

-- acts that are on these paths alone are on no other
pub acted-on : (acts : List Act) (paths : List (List ℕ)) →
    EachPath (λ path. is_one_of path paths ≡ true) (map act_path acts) →
    (path : List ℕ) → is_one_of path paths ≡ false → last_bytes acts path ≡ None
acted-on [] paths h path e = refl
acted-on (act ∷ acts) paths h path e = elim (tells (bytes_eq (act_path act) path)) [
  | inl q ↦ absurd (clash (is_one_of path paths)
      (subst (λ z. is_one_of z paths ≡ true) ((bytes_eq-Decides (act_path act) path).0 q) h.0) e)
  | inr n ↦ ap (λ b. this_or b (last_bytes acts path) (act_bytes act)) n
      ∙ acted-on acts paths h.1 path e
]

-- different texts are not equal
pub differ : (x y : List ℕ) → bytes_eq x y ≡ false → x ≡ y → ⊥
differ x y d e = clash (bytes_eq x y) ((bytes_eq-Decides x y).1 e) d

-- ---- parts of the run

-- it does these acts and comes to this end
abbrev pub steps_of : List Act → Outcome → Work Outcome
steps_of [] outcome = done outcome
steps_of (act ∷ acts) outcome = does act (λ journal. steps_of acts outcome)

module _ (files : List ℕ → Option (List ℕ)) where
  same-found : (m : Option Record) → AlikeFound m m
  same-found None = tt
  same-found (Some m) = record { ok = refl; items = refl; changes = refl }

  alike-self : (j : Journal) → AlikeJournals files AnyPath j j
  alike-self j = record {
    same = λ path. refl;
    records = λ r. same-found (record_of j r);
    only = λ r n act i. tt;
  }

  module _ (tools : List ℕ → ToolInput → ToolAnswer) (id : RunId) where
    -- a run that goes as one that does so has an end of the same outcome
    pub ends-so : (v : Work Outcome) (acts : List Act) (outcome : Outcome) (j : Journal)
        (before : List Act) →
        AlikeWork files AnyPath (λ (o p : Outcome). o ≡ p) v (steps_of acts outcome) →
        (e : End Outcome) × (end_of tools id v j before ≡ Some e) × (e.value ≡ outcome)
    ends-so (done o) [] outcome j before h =
        (record { value = o; journal = j; acts = before }, refl, h)
    ends-so (done o) (act ∷ acts) outcome j before h = absurd h
    ends-so (does act go) [] outcome j before h = absurd h
    ends-so (does act go) (other ∷ acts) outcome j before h =
        let next : Journal = add j (acted id (length before) act) in
        ends-so (go next) acts outcome next (act ∷ before) (h.1 next next (alike-self next))
    ends-so (uses name input go) [] outcome j before h = absurd h
    ends-so (uses name input go) (act ∷ acts) outcome j before h = absurd h
    ends-so (calls key keys go) [] outcome j before h = absurd h
    ends-so (calls key keys go) (act ∷ acts) outcome j before h = absurd h

-- ---- parts of three items

-- what holds of each list of marks of which some are true and some are false holds of each part
module _ (P : List Bool → Type 0)
    (first : P (true ∷ false ∷ false ∷ [])) (second : P (false ∷ true ∷ false ∷ []))
    (third : P (false ∷ false ∷ true ∷ [])) (not-third : P (true ∷ true ∷ false ∷ []))
    (not-second : P (true ∷ false ∷ true ∷ [])) (not-first : P (false ∷ true ∷ true ∷ [])) where
  pub of-part : (marks : List Bool) → ArePart marks sources → P marks
  of-part [] part = absurd (short part.each)
    where
      short : ◌≡◌ {A = ℕ} 0 3 → ⊥
      short h = omega arith
  of-part (a ∷ []) part = absurd (short part.each)
    where
      short : ◌≡◌ {A = ℕ} 1 3 → ⊥
      short h = omega arith
  of-part (a ∷ b ∷ []) part = absurd (short part.each)
    where
      short : ◌≡◌ {A = ℕ} 2 3 → ⊥
      short h = omega arith
  of-part (a ∷ b ∷ c ∷ d ∷ marks) part = absurd (long (length marks) part.each)
    where
      long : (n : ℕ) → suc (suc (suc (suc n))) ≡ 3 → ⊥
      long n h = omega arith
  of-part (true ∷ true ∷ true ∷ []) part = absurd (let e : false ≡ true = part.not_all in cc)
  of-part (true ∷ true ∷ false ∷ []) part = not-third
  of-part (true ∷ false ∷ true ∷ []) part = not-second
  of-part (true ∷ false ∷ false ∷ []) part = first
  of-part (false ∷ true ∷ true ∷ []) part = not-first
  of-part (false ∷ true ∷ false ∷ []) part = second
  of-part (false ∷ false ∷ true ∷ []) part = third
  of-part (false ∷ false ∷ false ∷ []) part = absurd (let e : false ≡ true = part.some in cc)
