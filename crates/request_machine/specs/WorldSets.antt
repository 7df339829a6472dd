-- Worlds are equal in one way alone, where so are the sites of runs, what tools are given and what
-- they answer.
use Rattle.std.proofs.Common.{◌≡◌, ℕ, List, refl}
use Rattle.std.proofs.Props.{props}
use Rattle.std.specs.Coded.{codes, Coded-set}
use Rattle.msb_values.specs.declared.act.Act.{Act}
use Rattle.result_cache.specs.Journal.{Journal}
use Rattle.result_cache.specs.declared.record.Record.{Record}
use Rattle.result_cache.specs.declared.request.RequestKey.{RequestKey}
use Rattle.result_cache.specs.declared.request.RequestResult.{RequestResult}
use Rattle.result_cache.specs.declared.run.RunId.{RunId}
use Rattle.build_meaning.specs.Walk.{
  Body,
  makes,
  does,
  uses,
  calls,
  Outcome,
  Reply,
  Walk,
  gives,
  wants,
}
use Rattle.build_meaning.specs.World.{World}
use Rattle.msb_instance.specs.KeptOnce.{taken_back}

outcome-set : IsSet Outcome
outcome-set = hlevel (codes, Coded-set, props)

act-set : IsSet Act
act-set = hlevel (codes, Coded-set, props)

text-set : IsSet (List ℕ)
text-set = hlevel (codes, Coded-set)

key-set : IsSet RequestKey
key-set = hlevel (codes, Coded-set)

keys-set : IsSet (List RequestKey)
keys-set = hlevel (codes, Coded-set)

reply-set : IsSet Reply
reply-set = hlevel (codes, Coded-set, props)

run-set : IsSet RunId
run-set = hlevel (codes, Coded-set)

-- bodies in a type that is told to be a set
data Inner (I A : Type 0) : Type 0 where
  makes_in : Outcome → Inner I A
  does_in : Act → (Journal → Inner I A) → Inner I A
  uses_in : List ℕ → I → (A → Inner I A) → Inner I A
  calls_in : RequestKey → List RequestKey → (List RequestResult → Journal → Inner I A) → Inner I A
  deriving IsSet as Inner-set

-- and walks
data Outer (P I A : Type 0) : Type 0 where
  gives_in : Reply → Outer P I A
  wants_in : P → RunId → Body I A → (Record → Journal → Outer P I A) → Outer P I A
  deriving IsSet as Outer-set

module _ {I A : Type 0} where
  abbrev inner : Body I A → Inner I A
  inner (makes outcome) = makes_in outcome
  inner (does act go) = does_in act (λ journal. inner (go journal))
  inner (uses name input go) = uses_in name input (λ answer. inner (go answer))
  inner (calls first more go) = calls_in first more (λ results journal. inner (go results journal))

  abbrev body_of : Inner I A → Body I A
  body_of (makes_in outcome) = makes outcome
  body_of (does_in act go) = does act (λ journal. body_of (go journal))
  body_of (uses_in name input go) = uses name input (λ answer. body_of (go answer))
  body_of (calls_in first more go) =
      calls first more (λ results journal. body_of (go results journal))

  same_body : (b : Body I A) → body_of (inner b) ≡ b
  same_body (makes outcome) = refl
  same_body (does act go) = λ j. does act (λ journal. same_body (go journal) j)
  same_body (uses name input go) = λ j. uses name input (λ answer. same_body (go answer) j)
  same_body (calls first more go) =
      λ j. calls first more (λ results journal. same_body (go results journal) j)

module _ {P I A : Type 0} where
  abbrev outer : Walk P I A → Outer P I A
  outer (gives reply) = gives_in reply
  outer (wants site run b go) = wants_in site run b (λ made journal. outer (go made journal))

  abbrev walk_of : Outer P I A → Walk P I A
  walk_of (gives_in reply) = gives reply
  walk_of (wants_in site run b go) = wants site run b (λ made journal. walk_of (go made journal))

  same_walk : (w : Walk P I A) → walk_of (outer w) ≡ w
  same_walk (gives reply) = refl
  same_walk (wants site run b go) =
      λ j. wants site run b (λ made journal. same_walk (go made journal) j)

module _ {P I A : Type 0} (sites : IsSet P) (inputs : IsSet I) (answers : IsSet A) where
  inner-set : IsSet (Inner I A)
  inner-set = hlevel (Inner-set, outcome-set, act-set, text-set, inputs, key-set, keys-set)

  body-set : IsSet (Body I A)
  body-set = taken_back inner body_of same_body inner-set

  outer-set : IsSet (Outer P I A)
  outer-set = hlevel (Outer-set, sites, reply-set, run-set, body-set)

  walk-set : IsSet (Walk P I A)
  walk-set = taken_back outer walk_of same_walk outer-set

  pub worlds : IsSet (World P I A)
  worlds = hlevel (key-set, answers, walk-set)
