-- The order of demand and the demand of the meaning have the same requests and bodies, or one of
-- them has an end that the other has not.
use Rattle.std.proofs.Common.{
  ◌≡◌,
  ◌+◌,
  ℕ,
  zero,
  suc,
  Bool,
  true,
  false,
  inl,
  inr,
  List,
  [],
  ◌∷◌,
  ◌++◌,
  length,
  Option,
  None,
  Some,
  refl,
  ap,
  sym,
  ◌∙◌,
  subst,
  arith,
}
use Rattle.std.proofs.lemmas.List.{append-nil, length-append}
use Rattle.msb_laws.specs.Asking.{and_then}
use Rattle.msb_values.specs.declared.key.InstanceKey.{InstanceKey}
use Rattle.result_cache.specs.declared.run.RunId.{RunId}
use Rattle.result_cache.specs.declared.request.RequestKey.{RequestKey}
use Rattle.result_cache.specs.declared.request.RequestResult.{RequestResult}
use Rattle.result_cache.specs.declared.record.Record.{Record}
use Rattle.result_cache.specs.Journal.{Journal, acted, ended, add, merge, record_of}
use Rattle.result_cache.specs.Lists.{In}
use Rattle.result_cache.specs.Same.{is_in}
use Rattle.build_meaning.specs.World.{World}
use Rattle.build_meaning.specs.Walk.{Walk, gives, wants, Body, makes, does, uses, calls}
use Rattle.build_meaning.specs.SoFar.{ToolUse, SoFar, nothing_yet, with_act, with_tool, with_calls}
use Rattle.build_meaning.specs.Meaning.{
  Demanded,
  requested,
  together,
  joined,
  built,
  Given,
  after,
  followed,
  containing,
  deepest,
  at_once,
  body,
  made_then,
  wanted,
  walk,
  request,
  meaning,
}
use Rattle.build_meaning.specs.Demand.{instances, built_runs}
use Rattle.build_meaning.specs.Sound.{IsMade}
use Rattle.build_meaning.proofs.MeaningDerived.{in-left, in-right}
use Rattle.build_steady.specs.Order.{
  DemandEvent,
  is_reached,
  is_too_deep,
  body_begins,
  body_ends,
  is_circular,
  then_comes,
  order_of_calls,
  order_of_run,
  order_of_body,
  order_of_walk,
  order_of_request,
  order_of_demand,
}
use Rattle.build_steady.specs.Verdicts.{bodies_begun, reached}
use Rattle.build_steady.proofs.Rests.{then-containing}

-- the events but for the beginnings of bodies
abbrev pub unbegun : List DemandEvent → List DemandEvent
unbegun [] = []
unbegun (is_reached i ∷ es) = is_reached i ∷ unbegun es
unbegun (is_too_deep i ∷ es) = is_too_deep i ∷ unbegun es
unbegun (body_begins r ∷ es) = unbegun es
unbegun (body_ends r m ∷ es) = body_ends r m ∷ unbegun es
unbegun (is_circular r ∷ es) = is_circular r ∷ unbegun es

-- what the meaning contains, as events
abbrev pub demanded : {P I : Type 0} → List (Demanded P I) → List DemandEvent
demanded [] = []
demanded (requested key ∷ demand) = is_reached key.instance ∷ demanded demand
demanded (together keys ∷ demand) = demanded demand
demanded (joined caller so_far next ∷ demand) = demanded demand
demanded (built site run from made tools ∷ demand) = body_ends run made ∷ demanded demand

pub unbegun-append : (xs ys : List DemandEvent) → unbegun (xs ++ ys) ≡ unbegun xs ++ unbegun ys
unbegun-append [] ys = refl
unbegun-append (is_reached i ∷ xs) ys = ap (λ l. is_reached i ∷ l) (unbegun-append xs ys)
unbegun-append (is_too_deep i ∷ xs) ys = ap (λ l. is_too_deep i ∷ l) (unbegun-append xs ys)
unbegun-append (body_begins r ∷ xs) ys = unbegun-append xs ys
unbegun-append (body_ends r m ∷ xs) ys = ap (λ l. body_ends r m ∷ l) (unbegun-append xs ys)
unbegun-append (is_circular r ∷ xs) ys = ap (λ l. is_circular r ∷ l) (unbegun-append xs ys)

pub begun-append : (xs ys : List DemandEvent) →
    bodies_begun (xs ++ ys) ≡ bodies_begun xs + bodies_begun ys
begun-append [] ys = omega arith
begun-append (is_reached i ∷ xs) ys = begun-append xs ys
begun-append (is_too_deep i ∷ xs) ys = begun-append xs ys
begun-append (body_begins r ∷ xs) ys = let e = begun-append xs ys in omega arith
begun-append (body_ends r m ∷ xs) ys = begun-append xs ys
begun-append (is_circular r ∷ xs) ys = begun-append xs ys

module _ {P I : Type 0} where
  pub demanded-append : (xs ys : List (Demanded P I)) → demanded (xs ++ ys) ≡ demanded xs
      ++ demanded ys
  demanded-append [] ys = refl
  demanded-append (requested key ∷ xs) ys =
      ap (λ l. is_reached key.instance ∷ l) (demanded-append xs ys)
  demanded-append (together keys ∷ xs) ys = demanded-append xs ys
  demanded-append (joined a b c ∷ xs) ys = demanded-append xs ys
  demanded-append (built p r j m t ∷ xs) ys =
      ap (λ l. body_ends r m ∷ l) (demanded-append xs ys)

  pub built-append : (xs ys : List (Demanded P I)) →
      length (built_runs (xs ++ ys)) ≡ length (built_runs xs) + length (built_runs ys)
  built-append [] ys = omega arith
  built-append (requested key ∷ xs) ys = built-append xs ys
  built-append (together keys ∷ xs) ys = built-append xs ys
  built-append (joined a b c ∷ xs) ys = built-append xs ys
  built-append (built p r j m t ∷ xs) ys = let e = built-append xs ys in omega arith

-- an event that ends the order
abbrev pub IsEnd : DemandEvent → Type 0
IsEnd (is_reached i) = ⊥
IsEnd (is_too_deep i) = Unit {0}
IsEnd (body_begins r) = ⊥
IsEnd (body_ends r m) = ⊥
IsEnd (is_circular r) = Unit {0}

pub record HasEnd (es : List DemandEvent) : Type 0 where
  pub event : DemandEvent
  pub there : In event es
  pub is : IsEnd event

end-left : (xs ys : List DemandEvent) → HasEnd xs → HasEnd (xs ++ ys)
end-left xs ys h = record { event = h.event; there = in-left h.event xs ys h.there; is = h.is }

end-right : (xs ys : List DemandEvent) → HasEnd ys → HasEnd (xs ++ ys)
end-right xs ys h = record { event = h.event; there = in-right h.event xs ys h.there; is = h.is }

end-more : (x : DemandEvent) (ys : List DemandEvent) → HasEnd ys → HasEnd (x ∷ ys)
end-more x ys h = record { event = h.event; there = inr h.there; is = h.is }

-- the events are those of what is given; where nothing is, they have an end
abbrev pub Told : {P I T : Type 0} → Option (Given P I T) → List DemandEvent → Type 0
Told None es = HasEnd es
Told (Some x) es =
    (unbegun es ≡ demanded x.demand) × (bodies_begun es ≡ length (built_runs x.demand))

-- one part after another
both-told : {P I S T : Type 0} (x : Given P I S) (y : Given P I T) (es fs : List DemandEvent) →
    Told (Some x) es → Told (Some y) fs → Told (Some (after x.demand y)) (es ++ fs)
both-told x y es fs h g = (
  unbegun-append es fs ∙ (ap (λ l. l ++ unbegun fs) h.0 ∙ (ap (λ l. demanded x.demand ++ l) g.0
      ∙ sym (demanded-append x.demand y.demand))),
  let a = begun-append es fs in let b = built-append x.demand y.demand in let p = h.1 in
      let q = g.1 in omega arith,
)

pub told-then : {P I S T : Type 0} (first : Option (Given P I S)) (next : S → Journal →
    Option (Given P I T)) (es : List DemandEvent) (fs : S → Journal → List DemandEvent) →
    Told first es → ((x : S) (j : Journal) → Told (next x j) (fs x j)) →
    Told (followed first next) (es ++ then_comes first fs)
told-then None next es fs h g = end-left es [] h
told-then {P} {I} {S} {T} (Some x) next es fs h g =
    go (next x.value x.journal) (fs x.value x.journal) (g x.value x.journal)
  where
    go : (o : Option (Given P I T)) (gs : List DemandEvent) → Told o gs →
        Told (and_then o (λ y. Some (after x.demand y))) (es ++ gs)
    go None gs t = end-right es gs t
    go (Some y) gs t = both-told x y es gs h t

pub told-together : {P I T : Type 0} (keys : List RequestKey) (o : Option (Given P I T))
    (es : List DemandEvent) → Told o es → Told (containing (together keys) o) es
told-together keys None es h = h
told-together keys (Some x) es h = h

pub told-joined : {P I T : Type 0} (caller so_far next : Journal) (o : Option (Given P I T))
    (es : List DemandEvent) → Told o es → Told (containing (joined caller so_far next) o) es
told-joined caller so_far next None es h = h
told-joined caller so_far next (Some x) es h = h

pub told-reached : {P I T : Type 0} (key : RequestKey) (o : Option (Given P I T))
    (es : List DemandEvent) → Told o es → Told (containing (requested key) o)
    (is_reached key.instance ∷ es)
told-reached key None es h = end-more (is_reached key.instance) es h
told-reached key (Some x) es h = (ap (λ l. is_reached key.instance ∷ l) h.0, h.1)

pub told-pure : {P I S T : Type 0} (o : Option (Given P I S)) (f : S → T) (es : List DemandEvent) →
    Told o es → Told (followed o (λ x j. Some (record { value = f x; journal = j; demand = [] })))
    es
told-pure None f es h = h
told-pure (Some x) f es h = (
  h.0 ∙ ap demanded (sym (append-nil x.demand)),
  h.1
      ∙ ap (λ d. length (built_runs d)) (sym (append-nil x.demand)),
)

module _ {P I A : Type 0} (w : World P I A) where
  -- a run that is made
  told-run : (o : Option (Given P I (Record × List (ToolUse I)))) (inner : List DemandEvent)
      (site : P) (run : RunId) (from : Journal) (go : Record → Journal → Option
      (Given P I RequestResult)) (next : Record →
      Journal → List DemandEvent) →
      Told o inner → ((m : Record) (j : Journal) → Told (go m j) (next m j)) →
      Told (followed o (made_then w site run from go))
      (body_begins run ∷ (inner ++ then_comes o (λ m left. body_ends run m.0 ∷ next m.0
      (add left (ended run m.0)))))
  told-run None inner site run from go next h g =
      end-more (body_begins run) (inner ++ []) (end-left inner [] h)
  told-run (Some x) inner site run from go next h g =
      let after_it : Journal = add x.journal (ended run x.value.0) in
      by (go x.value.0 after_it) (next x.value.0 after_it) (g x.value.0 after_it)
    where
      by : (o : Option (Given P I RequestResult)) (gs : List DemandEvent) → Told o gs →
          Told (and_then (containing (built site run from x.value.0 x.value.1) o)
          (λ y. Some (after x.demand y))) (body_begins run ∷ (inner ++ body_ends run x.value.0
          ∷ gs))
      by None gs t = end-more (body_begins run) (inner ++ body_ends run x.value.0 ∷ gs) (end-right
          inner (body_ends run x.value.0 ∷ gs) (end-more (body_ends run x.value.0) gs t))
      by (Some y) gs t = (
        unbegun-append inner (body_ends run x.value.0 ∷ gs)
            ∙ (ap (λ l. l ++ body_ends run x.value.0 ∷ unbegun gs) h.0
            ∙ (ap (λ l. demanded x.demand ++ body_ends run x.value.0 ∷ l) t.0
            ∙ sym (demanded-append x.demand (built site run from x.value.0 x.value.1
            ∷ y.demand)))),
        let a = begun-append inner (body_ends run x.value.0 ∷ gs) in
            let b = built-append x.demand (built site run from x.value.0 x.value.1
            ∷ y.demand) in
            let p = h.1 in let q = t.1 in omega arith,
      )

  abbrev pub Asks : (Journal → RequestKey → List DemandEvent) → (Journal → RequestKey →
      Option (Given P I RequestResult)) → Type 0
  Asks order ask = (j : Journal) (key : RequestKey) → Told (ask j key) (order j key)

  told-calls : (order : Journal → RequestKey → List DemandEvent) (ask : Journal → RequestKey →
      Option (Given P I RequestResult)) → Asks order ask →
      (j merged : Journal) (keys : List RequestKey) → Told (at_once w ask j merged keys)
      (order_of_calls order ask j keys)
  told-calls order ask h j merged [] = (refl, refl)
  told-calls order ask h j merged (key ∷ keys) =
      told-then (ask j key) (λ result left.
      followed (containing (joined j merged left) (at_once w ask j (merge merged left) keys))
      (λ results last. Some (record { value = result ∷ results; journal = last; demand = [] })))
      (order j key) (λ result left. order_of_calls order ask j keys) (h j key)
      (λ result left.
      told-pure (containing (joined j merged left) (at_once w ask j (merge merged left) keys))
      (λ results. result ∷ results) (order_of_calls order ask j keys)
      (told-joined j merged left (at_once w ask j (merge merged left) keys)
      (order_of_calls order ask j keys) (told-calls order ask h j (merge merged left) keys)))

  told-body : (order : Journal → RequestKey → List DemandEvent) (ask : Journal → RequestKey →
      Option (Given P I RequestResult)) → Asks order ask → (run : RunId) (b : Body I A)
      (j : Journal)
      (so_far : SoFar I) →
      Told (body w ask run b j so_far) (order_of_body w order ask run b j so_far)
  told-body order ask h run (makes outcome) j so_far = (refl, refl)
  told-body order ask h run (does act go) j so_far =
      told-body order ask h run (go (add j (acted run (length so_far.segments) act)))
      (add j (acted run (length so_far.segments) act)) (with_act so_far act)
  told-body order ask h run (uses name input go) j so_far =
      told-body order ask h run (go (w.tools name input)) j (with_tool so_far name input)
  told-body order ask h run (calls key keys go) j so_far =
      let o : Option (Given P I (List RequestResult)) = at_once w ask j j (key ∷ keys) in
      let first : List DemandEvent = order_of_calls order ask j (key ∷ keys) in
      let fs : List RequestResult → Journal → List DemandEvent = λ results next.
      order_of_body w order ask run (go results next) next
      (with_calls so_far (key ∷ keys) results) in
      let rest : List RequestResult → Journal → Option (Given P I (Record × List (ToolUse I))) =
      λ results next. body w ask run (go results next) next
      (with_calls so_far (key ∷ keys) results) in
      subst (λ l. Told (followed (containing (together (key ∷ keys)) o) rest) (first ++ l))
      (then-containing (together (key ∷ keys)) o fs)
      (told-then (containing (together (key ∷ keys)) o) rest first fs (told-together (key ∷ keys) o
      first (told-calls order ask h j j (key ∷ keys)))
      (λ results next. told-body order ask h run (go results next) next
      (with_calls so_far (key ∷ keys) results)))

  told-walk : (order : List RunId → Journal → RequestKey → List DemandEvent) (ask : List RunId →
      Journal → RequestKey → Option (Given P I RequestResult)) →
      ((path : List RunId) → Asks (order path) (ask path)) →
      (path : List RunId) (x : Walk P I A) (j : Journal) (runs : List RunId) →
      Told (walk w ask path x j runs) (order_of_walk w order ask path x j)
  told-walk order ask h path (gives reply) j runs = (refl, refl)
  told-walk order ask h path (wants site run b go) j runs =
      by (record_of j run) (is_in run path)
      (order_of_body w (order (run ∷ path)) (ask (run ∷ path)) run b j nothing_yet)
      (body w (ask (run ∷ path)) run b j nothing_yet)
      (told-body (order (run ∷ path)) (ask (run ∷ path)) (h (run ∷ path)) run b j nothing_yet)
      (λ m next. told-walk order ask h path (go m next) next (runs ++ run ∷ []))
    where
      by : (o : Option Record) (p : Bool) (inner : List DemandEvent)
          (x : Option (Given P I (Record × List (ToolUse I)))) → Told x inner →
          ((m : Record) (next : Journal) →
          Told (walk w ask path (go m next) next (runs ++ run ∷ [])) (order_of_walk w order ask
          path (go m next) next)) →
          Told (wanted w o p x site run j (λ m next. walk w ask path (go m next) next (runs
          ++ run ∷ []))) (order_of_run o p inner x run (λ m next. order_of_walk w order ask path
          (go m next) next) j)
      by (Some m) p inner x t ih = ih m j
      by None true inner x t ih = record { event = is_circular run; there = inl refl; is = tt }
      by None false inner x t ih =
          told-run x inner site run j (λ m next. walk w ask path (go m next) next
          (runs ++ run ∷ [])) (λ m next. order_of_walk w order ask path (go m next) next) t ih

  told-request : (depth : ℕ) (path : List RunId) (j : Journal) (key : RequestKey) →
      Told (request w depth path j key) (order_of_request w depth path j key)
  told-request zero path j key =
      record { event = is_too_deep key.instance; there = inl refl; is = tt }
  told-request (suc depth) path j key =
      told-reached key (walk w (request w depth) path (w.walks key j) j [])
      (order_of_walk w (order_of_request w depth) (request w depth) path (w.walks key j) j)
      (told-walk (order_of_request w depth) (request w depth) (λ p. told-request depth p) path
      (w.walks key j) j [])

  pub told-world : Told (meaning w) (order_of_demand w)
  unfolding order_of_demand
  told-world = told-request deepest [] [] w.root

-- what is said of the events is said of what is demanded
pub reached-unbegun : (es : List DemandEvent) → reached (unbegun es) ≡ reached es
reached-unbegun [] = refl
reached-unbegun (is_reached i ∷ es) = ap (λ l. i ∷ l) (reached-unbegun es)
reached-unbegun (is_too_deep i ∷ es) = reached-unbegun es
reached-unbegun (body_begins r ∷ es) = reached-unbegun es
reached-unbegun (body_ends r m ∷ es) = reached-unbegun es
reached-unbegun (is_circular r ∷ es) = reached-unbegun es

pub in-unbegun : (e : DemandEvent) (es : List DemandEvent) → In e (unbegun es) → In e es
in-unbegun e [] i = absurd i
in-unbegun e (is_reached k ∷ es) (inl p) = inl p
in-unbegun e (is_reached k ∷ es) (inr i) = inr (in-unbegun e es i)
in-unbegun e (is_too_deep k ∷ es) (inl p) = inl p
in-unbegun e (is_too_deep k ∷ es) (inr i) = inr (in-unbegun e es i)
in-unbegun e (body_begins r ∷ es) i = inr (in-unbegun e es i)
in-unbegun e (body_ends r m ∷ es) (inl p) = inl p
in-unbegun e (body_ends r m ∷ es) (inr i) = inr (in-unbegun e es i)
in-unbegun e (is_circular r ∷ es) (inl p) = inl p
in-unbegun e (is_circular r ∷ es) (inr i) = inr (in-unbegun e es i)

-- an event but for the beginning of a body
abbrev pub IsKept : DemandEvent → Type 0
IsKept (is_reached i) = Unit {0}
IsKept (is_too_deep i) = Unit {0}
IsKept (body_begins r) = ⊥
IsKept (body_ends r m) = Unit {0}
IsKept (is_circular r) = Unit {0}

pub unbegun-in : (e : DemandEvent) (es : List DemandEvent) → IsKept e → In e es → In e (unbegun es)
unbegun-in e [] k i = absurd i
unbegun-in e (is_reached x ∷ es) k (inl p) = inl p
unbegun-in e (is_reached x ∷ es) k (inr i) = inr (unbegun-in e es k i)
unbegun-in e (is_too_deep x ∷ es) k (inl p) = inl p
unbegun-in e (is_too_deep x ∷ es) k (inr i) = inr (unbegun-in e es k i)
unbegun-in e (body_begins r ∷ es) k (inl p) = absurd (subst IsKept (sym p) k)
unbegun-in e (body_begins r ∷ es) k (inr i) = unbegun-in e es k i
unbegun-in e (body_ends r m ∷ es) k (inl p) = inl p
unbegun-in e (body_ends r m ∷ es) k (inr i) = inr (unbegun-in e es k i)
unbegun-in e (is_circular r ∷ es) k (inl p) = inl p
unbegun-in e (is_circular r ∷ es) k (inr i) = inr (unbegun-in e es k i)

module _ {P I : Type 0} where
  pub reached-demanded : (demand : List (Demanded P I)) →
      reached (demanded demand) ≡ instances demand
  reached-demanded [] = refl
  reached-demanded (requested key ∷ demand) = ap (λ l. key.instance ∷ l) (reached-demanded demand)
  reached-demanded (together keys ∷ demand) = reached-demanded demand
  reached-demanded (joined a b c ∷ demand) = reached-demanded demand
  reached-demanded (built p r j m t ∷ demand) = reached-demanded demand

  built-there : (site : P) (r : RunId) (from : Journal) (m : Record) (t : List (ToolUse I))
      (demand : List (Demanded P I)) → In (built site r from m t) demand →
      In (body_ends r m) (demanded demand)
  built-there site r from m t [] i = absurd i
  built-there site r from m t (requested key ∷ demand) (inl p) = absurd (cc)
  built-there site r from m t (requested key ∷ demand) (inr i) =
      inr (built-there site r from m t demand i)
  built-there site r from m t (together keys ∷ demand) (inl p) = absurd (cc)
  built-there site r from m t (together keys ∷ demand) (inr i) =
      built-there site r from m t demand i
  built-there site r from m t (joined a b c ∷ demand) (inl p) = absurd (cc)
  built-there site r from m t (joined a b c ∷ demand) (inr i) =
      built-there site r from m t demand i
  built-there site r from m t (built q s j n u ∷ demand) (inl p) =
      inl (let a : s ≡ r = cc in let b : n ≡ m = cc in
      ap (λ x. body_ends x n) a ∙ ap (λ x. body_ends r x) b)
  built-there site r from m t (built q s j n u ∷ demand) (inr i) =
      inr (built-there site r from m t demand i)

  pub built-demanded : (r : RunId) (m : Record) (demand : List (Demanded P I)) →
      IsMade demand r m → In (body_ends r m) (demanded demand)
  built-demanded r m demand x = built-there x.0 r x.1 m x.2.0 demand x.2.1

  made-behind : (e : Demanded P I) (demand : List (Demanded P I)) (r : RunId) (m : Record) →
      IsMade demand r m → IsMade (e ∷ demand) r m
  made-behind e demand r m x = (x.0, x.1, (x.2.0, inr x.2.1))

  pub demanded-built : (r : RunId) (m : Record) (demand : List (Demanded P I)) →
      In (body_ends r m) (demanded demand) → IsMade demand r m
  demanded-built r m [] i = absurd i
  demanded-built r m (requested key ∷ demand) (inl p) = absurd (cc)
  demanded-built r m (requested key ∷ demand) (inr i) =
      made-behind (requested key) demand r m (demanded-built r m demand i)
  demanded-built r m (together keys ∷ demand) i =
      made-behind (together keys) demand r m (demanded-built r m demand i)
  demanded-built r m (joined a b c ∷ demand) i =
      made-behind (joined a b c) demand r m (demanded-built r m demand i)
  demanded-built r m (built q s j n u ∷ demand) (inl p) = (
    q,
    j,
    (
      u,
      inl (let a : s ≡ r = cc in let b : n ≡ m = cc in
          ap (λ x. built q x j n u) a ∙ ap (λ x. built q r j x u) b),
    ),
  )
  demanded-built r m (built q s j n u ∷ demand) (inr i) =
      made-behind (built q s j n u) demand r m (demanded-built r m demand i)

  -- no end is demanded
  pub demanded-ends : (e : DemandEvent) (demand : List (Demanded P I)) → In e (demanded demand) →
      IsEnd e → ⊥
  demanded-ends e [] i h = i
  demanded-ends e (requested key ∷ demand) (inl p) h = subst IsEnd (sym p) h
  demanded-ends e (requested key ∷ demand) (inr i) h = demanded-ends e demand i h
  demanded-ends e (together keys ∷ demand) i h = demanded-ends e demand i h
  demanded-ends e (joined a b c ∷ demand) i h = demanded-ends e demand i h
  demanded-ends e (built q r j m t ∷ demand) (inl p) h = subst IsEnd (sym p) h
  demanded-ends e (built q r j m t ∷ demand) (inr i) h = demanded-ends e demand i h

pub end-kept : (e : DemandEvent) → IsEnd e → IsKept e
end-kept (is_reached i) h = tt
end-kept (is_too_deep i) h = tt
end-kept (body_begins r) h = h
end-kept (body_ends r m) h = tt
end-kept (is_circular r) h = tt
