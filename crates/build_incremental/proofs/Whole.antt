-- A world that asks for no other requests than a whole one is whole where it has a meaning.
use Rattle.std.proofs.Common.{
  ◌≡◌,
  ℕ,
  ◌≤◌,
  inl,
  inr,
  List,
  [],
  ◌∷◌,
  length,
  Some,
  refl,
  ap,
  subst,
  arith,
}
use Rattle.msb_values.specs.declared.key.InstanceKey.{InstanceKey}
use Rattle.result_cache.specs.declared.request.RequestKey.{RequestKey}
use Rattle.result_cache.specs.declared.request.RequestResult.{RequestResult}
use Rattle.result_cache.specs.Lists.{In}
use Rattle.build_meaning.specs.World.{World}
use Rattle.build_meaning.specs.Meaning.{
  Demanded,
  requested,
  together,
  joined,
  built,
  Given,
  meaning,
  most_instances,
}
use Rattle.build_meaning.specs.Demand.{instances, distinct, IsWhole}
use Rattle.build_meaning.proofs.NothingRefused.{distinct-least}

-- the requests of an instance that is asked for
asked-for : {P I : Type 0} (demand : List (Demanded P I)) (x : InstanceKey) →
    In x (instances demand) → (key : RequestKey) × In (requested key) demand × (key.instance ≡ x)
asked-for [] x i = absurd i
asked-for (requested key ∷ demand) x (inl p) = (key, inl refl, p)
asked-for (requested key ∷ demand) x (inr i) =
    let u = asked-for demand x i in (u.0, inr u.1, u.2)
asked-for (together keys ∷ demand) x i = let u = asked-for demand x i in (u.0, inr u.1, u.2)
asked-for (joined caller so_far next ∷ demand) x i =
    let u = asked-for demand x i in (u.0, inr u.1, u.2)
asked-for (built site run from made tools ∷ demand) x i =
    let u = asked-for demand x i in (u.0, inr u.1, u.2)

is-asked : {P I : Type 0} (demand : List (Demanded P I)) (key : RequestKey) →
    In (requested key) demand → In key.instance (instances demand)
is-asked [] key i = absurd i
is-asked (requested other ∷ demand) key (inl p) =
    let same : other ≡ key = cc in inl (ap (λ (y : RequestKey). y.instance) same)
is-asked (requested other ∷ demand) key (inr i) = inr (is-asked demand key i)
is-asked (together keys ∷ demand) key (inl p) = absurd (cc)
is-asked (together keys ∷ demand) key (inr i) = is-asked demand key i
is-asked (joined caller so_far next ∷ demand) key (inl p) = absurd (cc)
is-asked (joined caller so_far next ∷ demand) key (inr i) = is-asked demand key i
is-asked (built site run from made tools ∷ demand) key (inl p) = absurd (cc)
is-asked (built site run from made tools ∷ demand) key (inr i) = is-asked demand key i

pub whole-too : {P I A : Type 0} (w c : World P I A) (x out : Given P I RequestResult) →
    IsWhole c out → meaning w ≡ Some x →
    ((key : RequestKey) → In (requested key) x.demand → In (requested key) out.demand) →
    IsWhole w x
whole-too w c x out whole means asks = record {
  means = means;
  few = low (length (distinct (instances x.demand))) (length (distinct (instances out.demand)))
      most_instances
      (distinct-least (instances x.demand) (instances out.demand) (λ y i.
      let u = asked-for x.demand y i in
      subst (λ z. In z (instances out.demand)) u.2 (is-asked out.demand u.0 (asks u.0 u.1))))
      whole.few;
}
  where
    low : (a b c : ℕ) → a ≤ b → b ≤ c → a ≤ c
    low a b c h g = omega arith
