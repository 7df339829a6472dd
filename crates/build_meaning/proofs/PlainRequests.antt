-- Plain requests give alike by one table.
use Rattle.std.proofs.Common.{
  ◌≡◌,
  List,
  [],
  ◌∷◌,
  ◌++◌,
  Some,
  refl,
  ap,
  sym,
  ◌∙◌,
  subst,
}
use Rattle.msb_laws.specs.Asking.{and_then}
use Rattle.result_cache.specs.declared.run.RunId.{RunId}
use Rattle.result_cache.specs.declared.request.RequestKey.{RequestKey}
use Rattle.result_cache.specs.declared.request.RequestResult.{RequestResult}
use Rattle.result_cache.specs.Journal.{Journal}
use Rattle.result_cache.specs.Replay.{replay}
use Rattle.result_cache.specs.Table.{Records, found}
use Rattle.result_cache.proofs.RunTests.{and_then-some}
use Rattle.build_meaning.specs.declared.event.Event.{Event}
use Rattle.build_meaning.specs.World.{World}
use Rattle.build_meaning.specs.Walk.{Walk, gives, wants}
use Rattle.build_meaning.specs.SoFar.{result_of}
use Rattle.build_meaning.specs.ByTable.{walk_by, request_by}
use Rattle.build_meaning.specs.State.{State, start}
use Rattle.build_meaning.specs.History.{IsHistory}
use Rattle.build_meaning.specs.Plain.{AskAlike, IsPlain}
use Rattle.build_meaning.proofs.EventsKeepLawful.{some-is, start-lawful, all-lawful}
use Rattle.build_meaning.proofs.HistoriesGoOn.{replay-total}
use Rattle.build_meaning.proofs.LawfulStates.{IsOrdered}

module _ {P I A : Type 0} (w : World P I A) (table : Records) (ordered : IsOrdered table) where
  walks-give : (x y : Walk P I A) → AskAlike x y
      → (j k last : Journal) (runs : List RunId) (result : RequestResult) →
      walk_by w table x j runs ≡ Some (result, last) →
      (other : Journal) × (walk_by w table y k runs ≡ Some (result, other))
  walks-give (gives a) (gives b) e j k last runs result h =
      let p : (result_of a runs, j) ≡ (result, last) = some-is (result_of a runs, j) (result, last)
      h in (
        k,
        ap (λ r. Some (r, k)) (ap (λ reply. result_of reply runs) (sym e)
            ∙ ap (λ (z : RequestResult × Journal). z.0) p),
      )
  walks-give (wants site run b go) (wants place other c next) e j k last runs result h =
      let f = and_then-some (found table run)
      (λ made. and_then (replay table run j)
      (λ after. walk_by w table (go made after) after (runs ++ run ∷ []))) (result, last) h in
      let g = and_then-some (replay table run j)
      (λ after. walk_by w table (go f.0 after) after (runs ++ run ∷ [])) (result, last) f.2 in
      let m = replay-total table ordered run k (f.0, f.1) in
      let rest = walks-give (go f.0 g.0) (next f.0 m.0) (e.1 f.0 g.0 m.0) g.0 m.0 last
      (runs ++ run ∷ []) result g.2 in (
        rest.0,
        subst
            (λ r.
            and_then (found table r)
            (λ made. and_then (replay table r k)
            (λ after. walk_by w table (next made after) after (runs ++ r ∷ [])))
            ≡ Some (result, rest.0)) e.0
            (ap
            (λ o.
            and_then o
            (λ made. and_then (replay table run k)
            (λ after. walk_by w table (next made after) after (runs ++ run ∷ [])))) f.1
            ∙ (ap
            (λ o.
            and_then o (λ after. walk_by w table (next f.0 after) after (runs ++ run ∷ []))) m.1
            ∙ rest.1)),
      )
  walks-give (gives a) (wants place other c next) e j k last runs result h = absurd e
  walks-give (wants site run b go) (gives c) e j k last runs result h = absurd e

pub plain_requests_give_alike : {P I A : Type 0} (w : World P I A) (events : List Event)
    (s : State P I A) →
    IsHistory w events s → (key : RequestKey) → IsPlain w key
    → (j k last : Journal) (result : RequestResult) →
    request_by w s.table j key ≡ Some (result, last)
    → (other : Journal) × (request_by w s.table k key ≡ Some (result, other))
plain_requests_give_alike w events s h key plain j k last result is =
    let l = all-lawful w events (start w) s (start-lawful w) h in
    walks-give w s.table l.ordered (w.walks key j) (w.walks key k) (plain j k) j k last [] result is
