-- Two histories of a whole and steady world whose roots are done leave the same.
use Rattle.std.proofs.Common.{◌≡◌, List, Option, None, Some, refl, sym, ◌∙◌}
use Rattle.result_cache.specs.declared.run.RunId.{RunId}
use Rattle.result_cache.specs.declared.request.RequestResult.{RequestResult}
use Rattle.result_cache.specs.declared.record.Record.{Record}
use Rattle.result_cache.specs.Journal.{Journal}
use Rattle.result_cache.specs.Table.{found}
use Rattle.build_meaning.specs.declared.event.Event.{Event}
use Rattle.build_meaning.specs.World.{World}
use Rattle.build_meaning.specs.Meaning.{Given}
use Rattle.build_meaning.specs.Demand.{IsWhole, IsSteady}
use Rattle.build_meaning.specs.State.{State}
use Rattle.build_meaning.specs.History.{IsHistory, EndsWith, SameRecords}
use Rattle.build_meaning.specs.Agrees.{Agrees, IsComplete}
use Rattle.build_meaning.proofs.MeaningAgreed.{agrees}
use Rattle.build_meaning.proofs.CompleteEnds.{complete}

-- a record of a history is one of the meaning, and all of these are in a complete table
carried : {P I A : Type 0} (out : Given P I RequestResult) (s t : State P I A) → Agrees out s →
    IsComplete out t → (r : RunId) (m : Record) → found s.table r ≡ Some m →
    found t.table r ≡ Some m
carried out s t a c r m f = c.all r m (a.occurs r m f)

pub ends : {P I A : Type 0} (w : World P I A) (out : Given P I RequestResult) → IsWhole w out →
    IsSteady out.demand → (events others : List Event) (s t : State P I A) →
    IsHistory w events s → IsHistory w others t
    → (result other : RequestResult) (journal last : Journal) → EndsWith s result journal
    → EndsWith t other last →
    (result ≡ other) × (journal ≡ last) × SameRecords s.table t.table
ends {P} {I} {A} w out whole steady events others s t h g result other journal last x y =
    let a = agrees w out whole steady events s h in
    let b = agrees w out whole steady others t g in
    let p = a.root result journal x in
    let q = b.root other last y in (
      p.0 ∙ sym q.0,
      p.1 ∙ sym q.1,
      λ r. same r (found s.table r) (found t.table r)
          (carried out s t a (complete w out whole steady others t g other last y) r)
          (carried out t s b (complete w out whole steady events s h result journal x) r),
    )
  where
    same : (r : RunId) (o p : Option Record) → ((m : Record) → o ≡ Some m → p ≡ Some m)
        → ((m : Record) → p ≡ Some m → o ≡ Some m) → o ≡ p
    same r None None f g = refl
    same r None (Some m) f g = g m refl
    same r (Some m) p f g = sym (f m refl)
