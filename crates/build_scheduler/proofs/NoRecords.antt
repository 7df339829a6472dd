-- Answers that need no record: they take a walk to the same place by any.
use Rattle.std.proofs.Common.{◌≡◌, List, refl}
use Rattle.result_cache.specs.declared.run.RunId.{RunId}
use Rattle.result_cache.specs.declared.record.Record.{Record}
use Rattle.result_cache.specs.Journal.{Journal}
use Rattle.result_cache.specs.Table.{Records}
use Rattle.build_meaning.specs.Stop.{ends, asks}
use Rattle.build_meaning.specs.State.{Place, walking, within}
use Rattle.build_meaning.specs.Walk.{gives, wants}
use Rattle.build_meaning.specs.World.{World}
use Rattle.build_scheduler.specs.declared.walker.Ask.TheVariants.{Finished, Want}
use Rattle.build_scheduler.specs.declared.walker.Answer.TheVariants.{First, Go, Use}
use Rattle.build_scheduler.specs.Position.{Position, answered_at, ask_at, ask_of}
use Rattle.build_scheduler.specs.Drivers.{AreAlike}

module _ {P I A : Type 0} (w : World P I A) (these those : Records) where
  first-at : (j : Journal) (runs : List RunId) (place : Place P I A) →
      answered_at w these j runs place First ≡ answered_at w those j runs place First
  first-at j runs (walking (gives reply)) = refl
  first-at j runs (walking (wants site run b go)) = refl
  first-at j runs (within x (ends outcome)) = refl
  first-at j runs (within x (asks key keys go)) = refl

  -- the first answer
  pub first-alike : (p : Position P I A) → AreAlike w these those p First
  first-alike p = first-at p.journal p.runs p.place

  go-at : (j : Journal) (runs : List RunId) (place : Place P I A) →
      answered_at w these j runs place Go ≡ answered_at w those j runs place Go
  go-at j runs (walking (gives reply)) = refl
  go-at j runs (walking (wants site run b go)) = refl
  go-at j runs (within x (ends outcome)) = refl
  go-at j runs (within x (asks key keys go)) = refl

  -- the walk makes the run that it wants
  pub go-alike : (p : Position P I A) → AreAlike w these those p Go
  go-alike p = go-at p.journal p.runs p.place

  own-at : (run : RunId) (made : Record) (j : Journal) (runs : List RunId) (place : Place P I A) →
      ask_at runs place ≡ Finished run made →
      answered_at w these j runs place Use ≡ answered_at w those j runs place Use
  own-at run made j runs (walking (gives reply)) e = refl
  own-at run made j runs (walking (wants site wanted b go)) e =
      absurd (let clash : Want wanted ≡ Finished run made = e in cc)
  own-at run made j runs (within x (ends outcome)) e = refl
  own-at run made j runs (within x (asks key keys go)) e = refl

  -- the walk uses the record of the run whose body has ended in it
  pub own-alike : (p : Position P I A) (run : RunId) (made : Record) →
      ask_of p ≡ Finished run made → AreAlike w these those p Use
  own-alike p run made e = own-at run made p.journal p.runs p.place e
