-- Derivations of a meaning of whose bodies, joins and requests something is said.
use Rattle.std.proofs.Common.{◌≡◌, Some}
use Rattle.result_cache.specs.declared.run.RunId.{RunId}
use Rattle.result_cache.specs.declared.request.RequestKey.{RequestKey}
use Rattle.result_cache.specs.declared.request.RequestResult.{RequestResult}
use Rattle.result_cache.specs.declared.record.Record.{Record}
use Rattle.result_cache.specs.Lists.{In}
use Rattle.result_cache.specs.Journal.{Journal}
use Rattle.build_meaning.specs.World.{World}
use Rattle.build_meaning.specs.Meaning.{
  Demanded,
  requested,
  together,
  joined,
  built,
  Given,
  meaning,
}
use Rattle.build_meaning.specs.Derived.{said, EachOfMeaning}
use Rattle.build_meaning.specs.Sound.{IsBuilt}
use Rattle.build_meaning.specs.Stands.{Contained}
use Rattle.build_meaning.proofs.Derivations as derivations
use Rattle.build_meaning.proofs.DerivedMeaning.{given}
use Rattle.build_incremental.specs.Joins.{Anyhow}

-- ---- a meaning has a derivation

module _ {P I : Type 0} (out : Given P I RequestResult) where
  -- the meaning asks for the request
  abbrev pub AskedIn : RequestKey → Type 0
  AskedIn key = In (requested key) out.demand

  contained-said : (e : Demanded P I) → Contained out e →
      said (IsBuilt out.demand) Anyhow AskedIn e
  contained-said (requested key) i = i
  contained-said (together keys) i = tt
  contained-said (joined caller so_far next) i = tt
  contained-said (built site run from made tools) i = (tools, i)

pub meaning-each : {P I A : Type 0} (w : World P I A) (out : Given P I RequestResult) →
    meaning w ≡ Some out →
    EachOfMeaning w (IsBuilt out.demand) Anyhow (AskedIn out) out.value out.journal
meaning-each w out h =
    derivations.weaker-meaning w (Contained out) (said (IsBuilt out.demand) Anyhow (AskedIn out))
    (contained-said out) out.value out.journal (given w out h)

-- ---- two derivations are one

module _ {P I A : Type 0} (w : World P I A) (Q R : P → RunId → Journal → Record → Type 0)
    (J H : Journal → Journal → Journal → Type 0) (K G : RequestKey → Type 0) where
  abbrev pub QR : P → RunId → Journal → Record → Type 0
  QR p r j m = Q p r j m × R p r j m

  abbrev pub JH : Journal → Journal → Journal → Type 0
  JH caller so_far next = J caller so_far next × H caller so_far next

  abbrev pub KG : RequestKey → Type 0
  KG key = K key × G key

  both-said : (e : Demanded P I) → derivations.Both w (said Q J K) (said R H G) e →
      said QR JH KG e
  both-said (requested key) h = h
  both-said (together keys) h = tt
  both-said (joined caller so_far next) h = h
  both-said (built site run from made tools) h = h

  pub both-meaning : (result other : RequestResult) (journal last : Journal) →
      EachOfMeaning w Q J K result journal → EachOfMeaning w R H G other last →
      EachOfMeaning w QR JH KG result journal × (result ≡ other) × (journal ≡ last)
  both-meaning result other journal last a b =
      let x = derivations.both-meaning w (said Q J K) (said R H G) result other journal last a b
      in (
        derivations.weaker-meaning w (derivations.Both w (said Q J K) (said R H G))
            (said QR JH KG) both-said result journal x.0,
        x.1,
        x.2,
      )

-- ---- what is said may be weaker

module _ {P I A : Type 0} (w : World P I A) (Q R : P → RunId → Journal → Record → Type 0)
    (J H : Journal → Journal → Journal → Type 0) (K G : RequestKey → Type 0)
    (f : (p : P) (r : RunId) (j : Journal) (m : Record) → Q p r j m → R p r j m)
    (g : (a b c : Journal) → J a b c → H a b c) (h : (key : RequestKey) → K key → G key) where
  weaker-said : (e : Demanded P I) → said Q J K e → said R H G e
  weaker-said (requested key) x = h key x
  weaker-said (together keys) x = tt
  weaker-said (joined caller so_far next) x = g caller so_far next x
  weaker-said (built site run from made tools) x = f site run from made x

  pub weaker-meaning : (result : RequestResult) (journal : Journal) →
      EachOfMeaning w Q J K result journal → EachOfMeaning w R H G result journal
  weaker-meaning = derivations.weaker-meaning w (said Q J K) (said R H G) weaker-said
