-- The world that is whole but not steady: its meaning makes one run with two records, and two
-- histories leave different files.
use Rattle.std.proofs.Common.{◌≡◌, ◌≤◌, ℕ, inl, inr, List, [], ◌∷◌, length, Some, refl, ap, arith}
use Rattle.std.specs.Prelude.{unwrap_or}
use Rattle.msb_values.specs.Acts.{act_bytes}
use Rattle.result_cache.specs.declared.record.Record.{Record}
use Rattle.result_cache.specs.declared.record.Segment.{Segment}
use Rattle.result_cache.specs.declared.record.Segment.TheVariants.{File, Call}
use Rattle.result_cache.specs.Same.{same_run, same_instance, same_key}
use Rattle.build_meaning.specs.Meaning.{deepest, most_instances, meaning}
use Rattle.build_meaning.specs.Demand.{IsWhole, IsSteady, distinct, instances}
use Rattle.build_meaning.specs.SharedRun.{run_of}
use Rattle.build_meaning.specs.Unsteady.{
  unsteady,
  looked,
  written,
  given,
  writer_first,
  looker_first,
  left_by,
}

means : meaning unsteady ≡ Some given
unfolding same_run same_instance deepest
means = refl

few : length (distinct (instances given.demand)) ≤ most_instances
unfolding same_instance most_instances
few = omega arith

pub whole : IsWhole unsteady given
whole = record { means = means; few = few }

abbrev byte_of : List Segment → List ℕ
byte_of [] = []
byte_of (File act ∷ segments) = unwrap_or (act_bytes act) []
byte_of (Call key runs ∷ segments) = []

pub not_steady : IsSteady given.demand → ⊥
not_steady steady =
    let same : looked 1 ≡ looked 0 =
    steady (run_of 1) (looked 1) (looked 0)
    (1, written, ([], inr (inr (inr (inr (inl refl))))))
    (1, [], ([], inr (inr (inr (inr (inr (inr (inr (inl refl))))))))) in
    let e : ◌≡◌ {A = List ℕ} (1 ∷ []) (0 ∷ []) = ap (λ (r : Record). byte_of r.segments) same in
    let n : ◌≡◌ {A = ℕ} 1 0 = cc in
    zero_one n
  where
    zero_one : ◌≡◌ {A = ℕ} 1 0 → ⊥
    zero_one h = omega arith

pub writer : left_by writer_first (7 ∷ []) ≡ Some (Some (1 ∷ []))
unfolding same_run same_instance same_key deepest most_instances
writer = refl

pub looker : left_by looker_first (7 ∷ []) ≡ Some (Some (0 ∷ []))
unfolding same_run same_instance same_key deepest most_instances
looker = refl
