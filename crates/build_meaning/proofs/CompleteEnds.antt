-- Where the root of a history of a whole and steady world is done, all runs of the meaning are
-- finished.
use Rattle.std.proofs.Common.{◌≡◌, List, Some, refl, ap, sym, ◌∙◌, subst}
use Rattle.result_cache.specs.declared.run.RunId.{RunId}
use Rattle.result_cache.specs.declared.request.RequestResult.{RequestResult}
use Rattle.result_cache.specs.declared.record.Record.{Record}
use Rattle.build_meaning.specs.declared.event.Event.{Event}
use Rattle.result_cache.specs.Lists.{In}
use Rattle.result_cache.specs.Journal.{Journal, end_of}
use Rattle.result_cache.specs.Table.{FinishedRun, found}
use Rattle.build_meaning.specs.World.{World}
use Rattle.build_meaning.specs.Meaning.{built, Given}
use Rattle.build_meaning.specs.Demand.{IsWhole, IsSteady}
use Rattle.build_meaning.specs.Sound.{IsMade}
use Rattle.build_meaning.specs.State.{ToolsUsed, State, start}
use Rattle.build_meaning.specs.History.{IsHistory, EndsWith}
use Rattle.build_meaning.specs.Agrees.{IsComplete}
use Rattle.result_cache.proofs.JournalEntries.{Has, has-in}
use Rattle.build_meaning.proofs.LawfulStates.{in-found}
use Rattle.build_meaning.proofs.EventsKeepLawful.{start-lawful}
use Rattle.build_meaning.proofs.NothingRefused.{in-mapped}
use Rattle.build_meaning.proofs.ReplayCircles.{in-map}
use Rattle.build_meaning.proofs.OrderlyHistories.{orderly, all-change, tooled_runs, finished_runs}
use Rattle.build_meaning.proofs.MeaningAgreed.{agrees}
use Rattle.build_meaning.proofs.SingleWorlds.{meaning-extends, made-once}

module _ {P I A : Type 0} (w : World P I A) (out : Given P I RequestResult) (whole : IsWhole w out)
    (steady : IsSteady out.demand) (events : List Event) (s : State P I A)
    (h : IsHistory w events s)
    (result : RequestResult) (journal : Journal) (x : EndsWith s result journal) where
  all : (r : RunId) (m : Record) → IsMade out.demand r m → found s.table r ≡ Some m
  all r m i =
      let a = agrees w out whole steady events s h in
      let o = orderly w events s h in
      let there : Has (end_of r) x.root.journal = subst (λ k. Has (end_of r) k)
      (sym (x.knows ∙ (a.root result journal x).1))
      ((meaning-extends w out whole.means).fresh r m i).1 in
      let y = has-in r x.root.journal there in
      let f : found s.table r ≡ Some y.0 = o.shared 0 x.root x.there r y.0 y.1 in
      f ∙ ap Some (sym (a.every r y.0 m f i))

  tools_used : tooled_runs s.tools_used ≡ finished_runs s.table
  tools_used = (all-change w events (start w) s (start-lawful w) h).tools_used refl

  pub complete : IsComplete out s
  complete = record {
    all = all;
    tools_used = tools_used;
    once = (meaning-extends w out whole.means).once;
    same_tools = λ single site r from m tools i.
        let a = agrees w out whole steady events s h in
        let named : In r (tooled_runs s.tools_used) = subst (λ rs. In r rs) (sym tools_used)
        (in-map (λ (f : FinishedRun). f.run) (record { run = r; made = m }) s.table
        (in-found s.table r m (all r m (site, from, (tools, i))))) in
        let t = in-mapped (λ (t : ToolsUsed I). t.run) s.tools_used r named in
        let b = a.tools t.0 t.1 in
        let there = subst (λ x. In (built b.0 x b.1 b.2 t.0.tools) out.demand) t.2 b.3 in
        let same : tools ≡ t.0.tools =
        (made-once out.demand ((meaning-extends w out whole.means).once single) site b.0 r from b.1
        m b.2 tools t.0.tools i there).1 in
        subst (λ (x : ToolsUsed I). In x s.tools_used)
        (ap (λ x. record { run = x; tools = t.0.tools }) t.2
        ∙ ap (λ y. record { run = r; tools = y }) (sym same)) t.1;
  }
