-- The walk of the first call goes to its caller, and any other one is handed back.
use Rattle.std.proofs.Common.{
  ◌≡◌,
  inl,
  ℕ,
  suc,
  List,
  ◌∷◌,
  length,
  Option,
  None,
  Some,
  refl,
  ap,
  sym,
  ◌∙◌,
  subst,
}
use Rattle.std.proofs.Math.Logic.{∥∥₁_elim, ∥∥₁_map}
use Rattle.result_cache.specs.declared.run.RunId.{RunId}
use Rattle.result_cache.specs.declared.request.RequestKey.{RequestKey}
use Rattle.result_cache.specs.declared.request.RequestResult.{RequestResult}
use Rattle.result_cache.specs.Journal.{Journal}
use Rattle.result_cache.specs.Table.{TableRuns}
use Rattle.build_meaning.specs.Lists.{at, numbered_from}
use Rattle.build_meaning.specs.World.{World}
use Rattle.build_meaning.specs.Walk.{Body}
use Rattle.build_meaning.specs.State.{Within, calling, RequestState, State}
use Rattle.build_meaning.proofs.ListPlaces.{map-at}
use Rattle.build_meaning.proofs.OpenRequests.{ids_in, kin_of, kins-at, at-kins}
use Rattle.build_meaning.proofs.PairedLists.{Paired-some}
use Rattle.build_meaning.proofs.ParentsAndChildren.{Kin, same_some}
use Rattle.build_scheduler.specs.declared.slot.Calls.{Calls}
use Rattle.build_scheduler.specs.declared.slot.Origin.{Origin}
use Rattle.build_scheduler.specs.declared.slot.Slot.{Slot}
use Rattle.build_scheduler.specs.declared.slot.Slot.TheVariants.{
  Ready,
  Assigned,
  Waiting,
  Calling,
  Done as Over,
}
use Rattle.build_scheduler.specs.declared.slot.End.{End}
use Rattle.build_scheduler.specs.Calls.{HasParent}
use Rattle.build_scheduler.specs.HandedBack.{IsFirstCall, IsHandedBack, IsLeft}
use Rattle.build_scheduler.specs.History.{History}
use Rattle.build_scheduler.specs.Own.{Seen}
use Rattle.build_scheduler.specs.Shown.{Shown}
use Rattle.build_scheduler.specs.Slots.{origin_of, ShowsSlot}
use Rattle.build_scheduler.proofs.HistoryFacts.{kindred, one_state}

-- a request has one parent, or none
one-parent : (o : Option Origin) (a b : ℕ) → HasParent o (Some a) → HasParent o (Some b) → a ≡ b
one-parent None a b h g = absurd h
one-parent (Some origin) a b h g = same_some origin.parent a b h g

no-parent : (o : Option Origin) (a : ℕ) → HasParent o None → HasParent o (Some a) → ⊥
no-parent None a h g = absurd h
no-parent (Some origin) a h g = let e : None ≡ Some a = sym h ∙ g in absurd (cc)

same-first : {P I A : Type 0} (keys others : List RequestKey) (a b : ℕ) (more rest : List ℕ)
    (y z : Within P I A) (go next : List RequestResult → Journal → Body I A) →
    calling keys (a ∷ more) y go ≡ calling others (b ∷ rest) z next → a ≡ b
same-first keys others a b more rest y z go next e = cc

module _ {W P I A : Type 0} (seen : W → Seen P I A) (w : World P I A) {history : History}
    {origins : List Origin} {slots : List (Slot W)} {making : List (Option RunId)}
    {table : TableRuns} {end : Option End} where
  -- a first call is a call of the one that awaits it
  first-parent : (id : ℕ) (x : Shown seen w history origins slots making table end)
      (f : IsFirstCall w history.events id) → HasParent (at origins id) (Some f.caller)
  first-parent id x f =
      let same : f.state ≡ x.state =
      one_state w history.events f.state x.state f.history x.history in
      let here : at x.state.requests f.caller ≡ Some f.request =
      subst (λ (s : State P I A). at s.requests f.caller ≡ Some f.request) same f.there in
      let k = kindred w history.events x.state x.history in
      let d = k.family.down f.caller (kin_of f.request) (id ∷ f.others)
      (kins-at x.state.requests f.caller f.request here) (ap ids_in f.awaits) id (inl refl) in
      let q = at-kins x.state.requests id d.0 d.1 in
      let parent : q.0.origin.parent ≡ Some f.caller =
      ap (λ (a : Kin). a.parent) q.2 ∙ d.2 in
      subst (λ o. HasParent o (Some f.caller))
      (sym (ap (λ os. at os id) x.asked ∙ map-at origin_of x.state.requests id q.0 q.1)) parent

  first-of : (id caller : ℕ) (calls : Calls W)
      (x : Shown seen w history origins slots making table end) →
      at slots caller ≡ Some (Calling calls) → id ≡ calls.first → IsFirstCall w history.events id
  first-of id caller calls x e is =
      let y = Paired-some (ShowsSlot w x.state (length history.events) seen) slots x.state.requests
      caller (Calling calls) x.each e in
      record {
        state = x.state;
        caller = caller;
        request = y.0;
        keys = y.1.key ∷ y.1.keys;
        others = numbered_from (suc calls.first) y.1.keys;
        inside = y.1.inside;
        go = y.1.go;
        history = x.history;
        there = y.2;
        awaits =
            y.1.is ∙ ap (λ n. calling (y.1.key ∷ y.1.keys)
            (n ∷ numbered_from (suc calls.first) y.1.keys) y.1.inside y.1.go) (sym is);
      }

  by-first : (id caller : ℕ) (calls : Calls W)
      (x : Shown seen w history origins slots making table end) →
      at slots caller ≡ Some (Calling calls) → HasParent (at origins id) (Some caller) →
      IsFirstCall w history.events id → id ≡ calls.first
  by-first id caller calls x e parent f =
      let y = Paired-some (ShowsSlot w x.state (length history.events) seen) slots x.state.requests
      caller (Calling calls) x.each e in
      let one : f.caller ≡ caller =
      one-parent (at origins id) f.caller caller (first-parent id x f) parent in
      let same : f.state ≡ x.state =
      one_state w history.events f.state x.state f.history x.history in
      let here : at x.state.requests caller ≡ Some f.request =
      subst (λ n. at x.state.requests n ≡ Some f.request) one
      (subst (λ (s : State P I A). at s.requests f.caller ≡ Some f.request) same f.there) in
      let request = same_some (at x.state.requests caller) f.request y.0 here y.2 in
      same-first f.keys (y.1.key ∷ y.1.keys) id calls.first f.others
      (numbered_from (suc calls.first) y.1.keys) f.inside y.1.inside f.go y.1.go
      (sym f.awaits ∙ (ap (λ (q : RequestState P I A). q.status) request ∙ y.1.is))

  -- a request that none calls is no first call
  pub none-first : (id : ℕ) → HasParent (at origins id) None →
      ∥ Shown seen w history origins slots making table end ∥₁
      → ∥ IsFirstCall w history.events id ∥₁ → ⊥
  none-first id none shown first =
      ∥∥₁_elim shown (λ p. absurd p) (λ x. ∥∥₁_elim first (λ p. absurd p) (λ f.
      no-parent (at origins id) f.caller none (first-parent id x f)))

  pub handed-back : (id caller : ℕ) (walk : W) (left : Option W) →
      HasParent (at origins id) (Some caller) →
      ∥ Shown seen w history origins slots making table end ∥₁
      → IsLeft (at slots caller) id walk left →
      IsHandedBack w history.events id walk left
  handed-back id caller walk left parent shown h = go (at slots caller) refl left h
    where
      go : (o : Option (Slot W)) → at slots caller ≡ o → (left : Option W) →
          IsLeft o id walk left → IsHandedBack w history.events id walk left
      go None e left h = absurd h
      go (Some (Ready other answer)) e left h = absurd h
      go (Some (Assigned node)) e left h = absurd h
      go (Some (Waiting other by)) e left h = absurd h
      go (Some (Calling calls)) e None h =
          ∥∥₁_map shown (λ x. first-of id caller calls x e h)
      go (Some (Calling calls)) e (Some back) h = (
        h.0,
        λ first. ∥∥₁_elim shown (λ p. absurd p) (λ x. ∥∥₁_elim first (λ p. absurd p) (λ f.
            h.1 (by-first id caller calls x e parent f))),
      )
      go (Some Over) e left h = absurd h
