-- Calls that pass a limit are refused for their cause.
use Rattle.std.proofs.Common.{
  ◌≡◌,
  ◌≤◌,
  ◌<◌,
  ◌+◌,
  ℕ,
  suc,
  List,
  [],
  ◌∷◌,
  ◌++◌,
  length,
  map,
  reverse,
  take,
  Option,
  Some,
  refl,
  ap,
  sym,
  ◌∙◌,
  subst,
  arith,
}
use Rattle.std.proofs.Math.Bridge.{le_prop}
use Rattle.std.proofs.Math.Logic.{∥∥₁_elim, ∥∥₁_prop}
use Rattle.std.proofs.lemmas.List.{length-append, length-reverse}
use Rattle.msb_values.specs.declared.key.InstanceKey.{InstanceKey}
use Rattle.result_cache.specs.declared.run.RunId.{RunId}
use Rattle.result_cache.specs.declared.request.RequestKey.{RequestKey}
use Rattle.result_cache.specs.Table.{TableRuns}
use Rattle.build_meaning.specs.declared.event.Event.{Event}
use Rattle.build_meaning.specs.Lists.{at}
use Rattle.build_meaning.specs.World.{World}
use Rattle.build_meaning.specs.Meaning.{deepest, most_instances}
use Rattle.build_meaning.specs.State.{State, assigned}
use Rattle.build_meaning.proofs.ListPlaces.{at-less, map-at}
use Rattle.build_scheduler.specs.declared.walker.Ask.TheVariants.{Call}
use Rattle.build_scheduler.specs.declared.request.RequestFault.{RequestFault}
use Rattle.build_scheduler.specs.declared.request.RequestFault.TheVariants.{
  TooDeep,
  TooMany,
  Memory,
}
use Rattle.build_scheduler.specs.declared.slot.Origin.{Origin}
use Rattle.build_scheduler.specs.declared.slot.Slot.{Slot}
use Rattle.build_scheduler.specs.declared.slot.End.{End}
use Rattle.build_scheduler.specs.Chain.{LeadsUp, AreKeysDown, IsDeepFault}
use Rattle.build_scheduler.specs.Children.{HasDepth}
use Rattle.build_scheduler.specs.Instances.{AreCounted, IsOver, instance_asked}
use Rattle.build_scheduler.specs.History.{History}
use Rattle.build_scheduler.specs.Own.{Seen, placed, IsOwn}
use Rattle.build_scheduler.specs.Position.{ask_of}
use Rattle.build_scheduler.specs.Requests.{
  IsTooDeep,
  AreTooMany,
  AreKeysUp,
  IsRefused,
  instances_with,
}
use Rattle.build_scheduler.specs.Shown.{Shown, AreNested}
use Rattle.build_scheduler.specs.Slots.{origin_of}
use Rattle.build_scheduler.proofs.Calling.{how-many}
use Rattle.build_scheduler.proofs.HistoryFacts.{one_state}
use Rattle.build_scheduler.proofs.Nesting.{keys-up, root-reached}
use Rattle.build_scheduler.proofs.OwnWalks.{calls-of}

refused-prop : {P I A : Type 0} (w : World P I A) (events : List Event) (id : ℕ)
    (calls : List RequestKey) (fault : RequestFault) → IsProp (IsRefused w events id calls fault)
refused-prop w events id calls (TooDeep keys) = ∥∥₁_prop
refused-prop w events id calls (TooMany instance) = ∥∥₁_prop
refused-prop w events id calls Memory = λ p q. refl

module _ {W P I A : Type 0} (seen : W → Seen P I A) (w : World P I A) {history : History}
    {origins : List Origin} {slots : List (Slot W)} {making : List (Option RunId)}
    {table : TableRuns} {end : Option End} (id : ℕ) (walk : W) (calls : List RequestKey) where
  same-origin : (x : Shown seen w history origins slots making table end)
      (o : IsOwn w history.events table.finished id (seen walk))
      → at origins id
      ≡ Some (origin_of (placed o.stands.origin (seen walk).position (assigned o.stands.node)))
  same-origin x o =
      let q = placed o.stands.origin (seen walk).position (assigned o.stands.node) in
      let e : at x.state.requests id ≡ Some q = subst
      (λ (s : State P I A). at s.requests id ≡ Some q)
      (one_state w history.events o.stands.state x.state o.stands.history x.history) o.stands.there
      in
      ap (λ os. at os id) x.asked ∙ map-at origin_of x.state.requests id q e

  too-deep : (x : Shown seen w history origins slots making table end)
      → IsOwn w history.events table.finished id (seen walk)
      → ask_of (seen walk).position ≡ Call calls
      → AreNested origins → (depth : ℕ) → HasDepth (at origins id) depth → deepest ≤ suc depth →
      (keys : List RequestKey) → AreKeysDown origins id calls keys
      → IsTooDeep w history.events id calls keys
  too-deep x o a v depth d deep keys k =
      let p = (seen walk).position in
      let c = calls-of p.runs p.place calls a in
      let e = same-origin x o in
      let depth_is : length o.stands.origin.path ≡ depth = subst (λ q. HasDepth q depth) e d in
      let r = root-reached origins id
      (origin_of (placed o.stands.origin p (assigned o.stands.node))) calls keys v e
      (omega arith) k in
      let one : x.state ≡ o.stands.state = one_state w history.events x.state o.stands.state
      x.history
      o.stands.history in
      let up : length k.up ≡ deepest = r.1 in
      let turned : length (reverse k.up) ≡ length k.up = length-reverse k.up in
      let behind : length (reverse k.up ++ c.key ∷ [])
      ≡ length (reverse k.up) + 1 = length-append (reverse k.up) (c.key ∷ []) in
      let keys_are : keys ≡ reverse k.up ++ c.key ∷ [] = k.keys_are
      ∙ ap (λ cs. reverse k.up ++ take 1 cs) (sym c.calls_are) in
      let counted : length keys ≡ length (reverse k.up ++ c.key ∷ []) = ap length keys_are in
      record {
        position = p;
        stands = o.stands;
        asks = a;
        too_deep = omega arith;
        up = k.up;
        first = c.key;
        behind = c.keys;
        above = subst (λ (s : State P I A). AreKeysUp s.requests (Some id) k.up) one
            (keys-up x.state.requests origins x.asked (Some id) k.up
            (subst (LeadsUp origins (Some id) k.up) r.0 k.above));
        calls_are = sym c.calls_are;
        keys_are = keys_are;
        many = omega arith;
      }

  deep-fault : (x : Shown seen w history origins slots making table end)
      → IsOwn w history.events table.finished id (seen walk)
      → ask_of (seen walk).position ≡ Call calls
      → AreNested origins → (depth : ℕ) → HasDepth (at origins id) depth → deepest ≤ suc depth →
      (fault : RequestFault) → IsDeepFault origins id calls fault
      → IsRefused w history.events id calls fault
  deep-fault x o a v depth d deep (TooDeep keys) k = ∣ too-deep x o a v depth d deep keys k ∣₁
  deep-fault x o a v depth d deep (TooMany instance) k = absurd k
  deep-fault x o a v depth d deep Memory k = tt

  -- calls that would be nested too deep
  pub deep-refused : ∥ Shown seen w history origins slots making table end ∥₁
      → ∥ IsOwn w history.events table.finished id (seen walk) ∥₁
      → ask_of (seen walk).position ≡ Call calls → ∥ AreNested origins ∥₁ → (depth : ℕ)
      → HasDepth (at origins id) depth → deepest ≤ suc depth →
      (fault : RequestFault) → IsDeepFault origins id calls fault
      → IsRefused w history.events id calls fault
  deep-refused shown own a nested depth d deep fault k = ∥∥₁_elim shown
      (refused-prop w history.events id calls fault)
      (λ x. ∥∥₁_elim own (refused-prop w history.events id calls fault)
      (λ o. ∥∥₁_elim nested (refused-prop w history.events id calls fault)
      (λ v. deep-fault x o a v depth d deep fault k)))

  pub origin-there : ∥ Shown seen w history origins slots making table end ∥₁
      → ∥ IsOwn w history.events table.finished id (seen walk) ∥₁ → id < length origins
  origin-there shown own = ∥∥₁_elim shown (λ p q. le_prop p q)
      (λ x. ∥∥₁_elim own (λ p q. le_prop p q) (λ o. at-less origins id _ (same-origin x o)))

  too-many : (x : Shown seen w history origins slots making table end)
      → IsOwn w history.events table.finished id (seen walk)
      → ask_of (seen walk).position ≡ Call calls
      → (depth : ℕ) → HasDepth (at origins id) depth → suc depth < deepest →
      (instances : List InstanceKey) → AreCounted instances (map instance_asked origins)
      → (instance : InstanceKey) → IsOver instances calls instance
      → AreTooMany w history.events id calls instance
  too-many x o a depth d deep instances k instance h =
      let p = (seen walk).position in
      let depth_is : length o.stands.origin.path
      ≡ depth = subst (λ q. HasDepth q depth) (same-origin x o) d in
      let one : x.state ≡ o.stands.state = one_state w history.events x.state o.stands.state
      x.history
      o.stands.history in
      record {
        position = p;
        stands = o.stands;
        asks = a;
        not_deep = omega arith;
        before = h.before;
        call = h.call;
        behind = h.behind;
        calls_are = h.calls_are;
        instance_is = h.instance_is;
        not_before = subst (λ (s : State P I A). instances_with w s h.before ≤ most_instances) one
            (subst (λ n. n ≤ most_instances) (sym (how-many seen w x instances k h.before))
            h.not_before);
        too_many = subst (λ (s : State P I A). most_instances
            < instances_with w s (h.before ++ h.call ∷ [])) one
            (subst (λ n. most_instances < n)
            (sym (how-many seen w x instances k (h.before ++ h.call ∷ []))) h.too_many);
      }

  -- calls with which there would be too many instances
  pub many-refused : ∥ Shown seen w history origins slots making table end ∥₁
      → ∥ IsOwn w history.events table.finished id (seen walk) ∥₁
      → ask_of (seen walk).position ≡ Call calls → (depth : ℕ) → HasDepth (at origins id) depth
      → suc depth < deepest →
      (instances : List InstanceKey) → ∥ AreCounted instances (map instance_asked origins) ∥₁
      → (instance : InstanceKey) → IsOver instances calls instance
      → ∥ AreTooMany w history.events id calls instance ∥₁
  many-refused shown own a depth d deep instances counted instance h =
      ∥∥₁_elim shown ∥∥₁_prop
      (λ x.
      ∥∥₁_elim own ∥∥₁_prop
      (λ o.
      ∥∥₁_elim counted ∥∥₁_prop (λ k. ∣ too-many x o a depth d deep instances k instance h ∣₁)))
