-- Lists of acts are compared exactly.
use Rattle.std.proofs.Common.{◌≡◌, Bool, true, false, ◌&&◌, List, ap, sym, ◌∙◌}
use Rattle.std.specs.Bool.{Decides}
use Rattle.std.specs.Cmp.Lexicographic.{pointwise, pointwise_decides}
use Rattle.std.specs.Str.{bytes_eq}
use Rattle.std.proofs.lemmas.Slice.Eq.{bytes_eq-Decides}
use Rattle.msb_values.specs.declared.act.Act.{Act}
use Rattle.msb_values.specs.declared.act.Act.TheVariants.{Write, Remove}
use Rattle.msb_values.specs.declared.put.Put.{Put}
use Rattle.result_cache.specs.Exact.{both, into}
use Rattle.result_cache.specs.SameRecords.{same_act, same_put}
use Rattle.build_outcome.specs.declared.outcome.Outcome.{Outcome}
use Rattle.msb_outcomes.specs.Trials.{AreEqual}

put-exact : (a b : Put) → Decides (same_put a b) (a ≡ b)
put-exact a b =
    into (same_put a b)
    (λ h. ap (λ x. record { path = x; bytes = a.bytes }) h.0
    ∙ ap (λ y. record { path = b.path; bytes = y }) h.1)
    (λ h. (ap (λ (x : Put). x.path) h, ap (λ (x : Put). x.bytes) h))
    (both (bytes_eq a.path b.path) (bytes_eq a.bytes b.bytes) (bytes_eq-Decides a.path b.path)
    (bytes_eq-Decides a.bytes b.bytes))

-- a test that fails, of different acts
apart : {P : Type 0} → (P → false ≡ true) → Decides false P
apart f = ((λ h. absurd (cc)), f)

act-exact : (a b : Act) → Decides (same_act a b) (a ≡ b)
act-exact (Write a) (Write b) = into (same_put a b) (λ h. ap Write h) (λ h. cc) (put-exact a b)
act-exact (Write a) (Remove b) = apart (λ h. cc)
act-exact (Remove a) (Write b) = apart (λ h. cc)
act-exact (Remove a) (Remove b) =
    into (bytes_eq a b) (λ h. ap Remove h) (λ h. cc) (bytes_eq-Decides a b)

-- two outcomes of one text are equal where their acts are
pub equal_if_same : (one other : Outcome) (same : Bool) → bytes_eq one.text other.text ≡ true →
    same ≡ pointwise same_act one.commit other.commit → Decides same (AreEqual one other)
equal_if_same one other same text is =
    let acts = pointwise_decides act-exact one.commit other.commit in (
      (λ h. ((bytes_eq-Decides one.text other.text).0 text, acts.0 (sym is ∙ h))),
      λ h. is
          ∙ acts.1 h.1,
    )
