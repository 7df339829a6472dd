-- Where the root of a history of a whole and steady world is done, tools were used as the meaning
-- uses them.
use Rattle.std.proofs.Common.{
  ◌≡◌,
  inl,
  inr,
  true,
  List,
  map,
  Option,
  None,
  Some,
  refl,
  ap,
  sym,
  ◌∙◌,
  subst,
}
use Rattle.result_cache.specs.declared.run.RunId.{RunId}
use Rattle.result_cache.specs.declared.request.RequestResult.{RequestResult}
use Rattle.result_cache.specs.declared.record.Record.{Record}
use Rattle.result_cache.specs.Lists.{In}
use Rattle.result_cache.specs.Journal.{Journal}
use Rattle.result_cache.specs.Table.{FinishedRun, found, is_begun}
use Rattle.result_cache.proofs.RunTests.{tells}
use Rattle.build_meaning.specs.declared.event.Event.{Event}
use Rattle.build_meaning.specs.World.{World}
use Rattle.build_meaning.specs.Meaning.{built, Given}
use Rattle.build_meaning.specs.Demand.{IsWhole, IsSteady}
use Rattle.build_meaning.specs.Sound.{IsMade}
use Rattle.build_meaning.specs.State.{
  walking,
  within,
  Status,
  ready,
  assigned,
  waits,
  calling,
  done,
  ToolsUsed,
  State,
  start,
}
use Rattle.build_meaning.specs.History.{IsHistory, EndsWith}
use Rattle.build_meaning.specs.Stands.{Contained, Goal, Stands, StandsAt}
use Rattle.build_meaning.proofs.LawfulStates.{in-found}
use Rattle.build_meaning.proofs.EventsKeepLawful.{some-is, start-lawful}
use Rattle.build_meaning.proofs.ReplayCircles.{in-map}
use Rattle.build_meaning.proofs.NothingRefused.{in-mapped}
use Rattle.build_meaning.proofs.PairedLists.{Paired-some}
use Rattle.build_meaning.proofs.OpenRequests.{inside_of, at-kins, start-kindred, all-kindred}
use Rattle.build_meaning.proofs.MeaningAgreed.{agrees, stands_so}
use Rattle.build_meaning.proofs.CompleteEnds.{complete}
use Rattle.build_history.specs.Uses.{RunUse, uses_of, uses_in, AreMeant}
use Rattle.build_history.proofs.UsesTold.{uses_of-none, history-told}

module _ {P I A : Type 0} (w : World P I A) (out : Given P I RequestResult) where
  -- the meaning has a body of the run
  abbrev Has : RunId → Type 0
  Has r = (made : Record) × IsMade out.demand r made

  inside-built : (goals : List Goal) (path : List RunId) (j : Journal) (runs : List RunId)
      (st : Status P I A) (g : Goal) (r : RunId) →
      StandsAt w (Contained out) goals path j runs st g → inside_of st ≡ Some r → Has r
  inside-built goals path j runs (ready (walking y)) g r v e = absurd (cc)
  inside-built goals path j runs (ready (within x stop)) g r v e = subst Has (some-is x.run r e)
      (v.0, (v.3.known.0, v.3.known.1, (v.1, v.3.known.2)))
  inside-built goals path j runs (assigned node (walking y)) g r v e = absurd (cc)
  inside-built goals path j runs (assigned node (within x stop)) g r v e =
      subst Has (some-is x.run r e)
      (v.0, (v.3.known.0, v.3.known.1, (v.1, v.3.known.2)))
  inside-built goals path j runs (waits t b go) g r v e = absurd (cc)
  inside-built goals path j runs (calling keys ids x go) g r v e = let y = v.2.then_in in subst Has
      (some-is x.run r e) (y.0, (y.3.known.0, y.3.known.1, (y.1, y.3.known.2)))
  inside-built goals path j runs (done result) g r v e = absurd (cc)

  module _ (whole : IsWhole w out) (steady : IsSteady out.demand) (events : List Event)
      (s : State P I A) (h : IsHistory w events s) where
    begun-built : (r : RunId) → is_begun r s.begun ≡ true → (o : Option Record)
        → found s.table r ≡ o → Has r
    begun-built r b (Some made) e = (made, (agrees w out whole steady events s h).occurs r made e)
    begun-built r b None e =
        let k = (all-kindred w events (start w) s (start-lawful w) (start-kindred w) h).free.working
        r (b, e) in
        let q = at-kins s.requests k.0 k.1 k.2 in
        let v = stands_so w out whole steady events s h in
        let g = Paired-some (Stands w (Contained out) v.0) s.requests v.0 k.0 q.0 v.1.each q.1 in
        inside-built v.0 q.0.origin.path q.0.journal q.0.runs q.0.status g.0 r g.1.stands
        (ap (λ a. a.inside) q.2 ∙ k.3)

    use-built : (u : RunUse I) → In u (uses_in w events) → Has u.run
    use-built u i = elim (tells (is_begun u.run s.begun)) [
      | inl b ↦ begun-built u.run b (found s.table u.run) refl
      | inr n ↦ absurd
          (uses_of-none (uses_in w events) u i ((history-told w events s h).unbegun u.run n))
    ]

    pub are-meant : (result : RequestResult) (journal : Journal) → EndsWith s result journal
        → AreMeant out (uses_in w events)
    are-meant result journal end =
        let a = agrees w out whole steady events s h in
        let c = complete w out whole steady events s h result journal end in
        let told = history-told w events s h in
        record {
          each = use-built;
          once = λ r m i.
              let f : found s.table r ≡ Some m = c.all r m i in
              let named : In r (map (λ (t : ToolsUsed I). t.run) s.tools_used) = subst
              (λ rs. In r rs) (sym c.tools_used)
              (in-map (λ (f : FinishedRun). f.run) (record { run = r; made = m }) s.table
              (in-found s.table r m f)) in
              let t = in-mapped (λ (t : ToolsUsed I). t.run) s.tools_used r named in
              let b = a.tools t.0 t.1 in
              let mine : In (built b.0 r b.1 b.2 t.0.tools) out.demand =
              subst (λ x. In (built b.0 x b.1 b.2 t.0.tools) out.demand) t.2 b.3 in
              let made_is : b.2 ≡ m = a.every r m b.2 f (b.0, b.1, (t.0.tools, mine)) in
              let tools_are : t.0.tools ≡ uses_of r (uses_in w events) = sym (told.finished t.0 t.1)
              ∙ ap (λ x. uses_of x (uses_in w events)) t.2 in (
                b.0,
                b.1,
                subst (λ ts. In (built b.0 r b.1 m ts) out.demand) tools_are
                    (subst (λ x. In (built b.0 r b.1 x t.0.tools) out.demand) made_is mine),
              );
          single = λ single site r from m tools i. told.finished
              (record { run = r; tools = tools }) (c.same_tools single site r from m tools i);
        }

pub tools_are_used_as_meant : {P I A : Type 0} (w : World P I A) (out : Given P I RequestResult) →
    IsWhole w out → IsSteady out.demand → (events : List Event) (s : State P I A) →
    IsHistory w events s →
    (result : RequestResult) (journal : Journal) → EndsWith s result journal
    → AreMeant out (uses_in w events)
tools_are_used_as_meant = are-meant
