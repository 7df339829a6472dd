-- Every legal history of a whole and steady world agrees with its meaning.
use Rattle.std.proofs.Common.{◌≡◌, List, sym, ◌∙◌, subst}
use Rattle.result_cache.specs.declared.run.RunId.{RunId}
use Rattle.result_cache.specs.declared.request.RequestResult.{RequestResult}
use Rattle.result_cache.specs.declared.record.Record.{Record}
use Rattle.build_meaning.specs.declared.event.Event.{Event}
use Rattle.build_meaning.specs.World.{World}
use Rattle.build_meaning.specs.Meaning.{Given}
use Rattle.build_meaning.specs.Demand.{IsWhole, IsSteady}
use Rattle.build_meaning.specs.State.{done, RequestState, State}
use Rattle.build_meaning.specs.History.{IsHistory}
use Rattle.build_meaning.specs.Agrees.{Agrees}
use Rattle.build_meaning.specs.Derived.{Made}
use Rattle.build_meaning.proofs.MeaningDerived.{meaning-sound}
use Rattle.build_meaning.proofs.PairedLists.{Paired-at}
use Rattle.build_meaning.specs.Stands.{Contained, StandsInMeaning, Goal, Stands, StandsAt}
use Rattle.build_meaning.proofs.RequestsStand.{Keeps, history-stands}

pub one_made : {P I : Type 0} (out : Given P I RequestResult) → IsSteady out.demand →
    (r : RunId) (m n : Record) → Made (Contained out) r m → Made (Contained out) r n → m ≡ n
one_made out steady r m n p q = steady r m n p q

pub stands : {P I A : Type 0} (w : World P I A) (out : Given P I RequestResult) → IsWhole w out →
    (steady : IsSteady out.demand) → (events : List Event) (s : State P I A) →
    IsHistory w events s →
    Keeps w (Contained out) (one_made out steady)
    (record { res = out.value; journal = out.journal }) s
stands w out whole steady events s h =
    let x = meaning-sound w (Contained out) out whole.means (λ e i. i) in
    history-stands w (Contained out) (one_made out steady) out.value out.journal x.0 x.2 events s h

pub agrees : {P I A : Type 0} (w : World P I A) (out : Given P I RequestResult) → IsWhole w out →
    IsSteady out.demand → (events : List Event) (s : State P I A) → IsHistory w events s →
    Agrees out s
agrees {P} {I} {A} w out whole steady events s h =
    let k = stands w out whole steady events s h in
    let v = k.1 in
    record {
      occurs = λ r m e. v.known r m e;
      every = λ r m n e i. steady r n m i (v.known r m e);
      tools = v.tools_used;
      root = λ res j x.
          let y = root x.root res
          (Paired-at (Stands w (Contained out) k.0) s.requests k.0 0 x.root
          (record { res = out.value; journal = out.journal }) v.each x.there k.2) x.over in
          (y.0, sym x.knows ∙ y.1);
    }
  where
    root : {goals : List Goal} (q : RequestState P I A) (res : RequestResult) →
        Stands w (Contained out) goals q (record { res = out.value; journal = out.journal }) →
        q.status ≡ done res →
        (res ≡ out.value) × (q.journal ≡ out.journal)
    root {goals} q res x d =
        let y : (out.value ≡ res)
        × (out.journal ≡ q.journal) = subst
        (λ st. StandsAt w (Contained out) goals q.origin.path q.journal q.runs st
        (record { res = out.value; journal = out.journal })) d x.stands in
        (sym y.0, sym y.1)

pub stands_so : {P I A : Type 0} (w : World P I A) (out : Given P I RequestResult) → IsWhole w out →
    IsSteady out.demand → (events : List Event) (s : State P I A) → IsHistory w events s →
    (goals : List Goal) × StandsInMeaning w out s goals
stands_so w out whole steady events s h = let k = stands w out whole steady events s h
    in (k.0, record { each = k.1.each; root = k.2 })
