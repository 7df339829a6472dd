-- Where two worlds go side by side and the second has a meaning, the first has one too.
use Rattle.std.proofs.Common.{◌≡◌, ℕ, List, Option, Some, sym, subst}
use Rattle.result_cache.specs.declared.request.RequestKey.{RequestKey}
use Rattle.result_cache.specs.declared.request.RequestResult.{RequestResult}
use Rattle.result_cache.specs.Lists.{In}
use Rattle.build_meaning.specs.World.{World}
use Rattle.build_meaning.specs.Meaning.{
  Demanded,
  requested,
  together,
  joined,
  built,
  Given,
  meaning,
}
use Rattle.build_meaning.specs.Demand.{IsSteady}
use Rattle.build_meaning.specs.Derived.{said, EachOfMeaning}
use Rattle.build_meaning.specs.Sound.{IsBuilt}
use Rattle.build_meaning.specs.Stands.{Contained}
use Rattle.build_meaning.proofs.Derivations as derivations
use Rattle.build_meaning.proofs.DerivedMeaning.{given}
use Rattle.build_incremental.specs.Alike.{AlikeJournals}
use Rattle.build_incremental.specs.Joins.{IsOfOneRun, AreOfOneRun, Anyhow}
use Rattle.build_incremental.specs.SideBySide.{SideBySide, HasOneRecord, IsAny}
use Rattle.build_incremental.proofs.Demands.{each-meaning}
use Rattle.build_incremental.proofs.GoAlike.{meanings-go}
use Rattle.build_incremental.proofs.Meanings.{AskedIn}

module _ {P I A : Type 0} (files : List ℕ → Option (List ℕ)) (W : List ℕ → Type 0)
    (w c : World P I A) (out : Given P I RequestResult) (means : meaning c ≡ Some out)
    (steady : IsSteady out.demand) (joins : AreOfOneRun out.demand)
    (side : SideBySide files W IsAny (IsBuilt out.demand) w c) where
  one-record : HasOneRecord (IsBuilt out.demand)
  one-record p q run j k m n a b = steady run m n (p, j, a) (q, k, b)

  contained-said : (e : Demanded P I) → Contained out e →
      said (IsBuilt out.demand) IsOfOneRun (AskedIn out) e
  contained-said (requested key) i = i
  contained-said (together keys) i = tt
  contained-said (joined caller so_far next) i = joins caller so_far next i
  contained-said (built site run from made tools) i = (tools, i)

  second-each : EachOfMeaning c (IsBuilt out.demand) IsOfOneRun (AskedIn out) out.value out.journal
  second-each = derivations.weaker-meaning c (Contained out)
      (said (IsBuilt out.demand) IsOfOneRun (AskedIn out)) contained-said out.value out.journal
      (given c out means)

  pub worlds-go : (y : Given P I RequestResult) × (meaning w ≡ Some y) × (y.value ≡ out.value)
      × ((key : RequestKey) → In (requested key) y.demand → In (requested key) out.demand)
      × AlikeJournals files W y.journal out.journal
  worlds-go =
      let x = meanings-go files W w c IsAny (IsBuilt out.demand) (AskedIn out) one-record side
      out.value out.journal second-each in
      let y = each-meaning w IsAny Anyhow (AskedIn out) out.value x.0 x.1 in (
        y.0,
        y.1,
        y.2,
        λ key i. y.4 (requested key) i,
        subst (λ z. AlikeJournals files W z out.journal) (sym y.3) x.2,
      )
