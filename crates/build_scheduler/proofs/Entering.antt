-- The children of calls are entered.
use Rattle.std.proofs.Common.{
  ◌≡◌,
  ◌≤◌,
  ◌<◌,
  ◌+◌,
  ◌*◌,
  ◌&&◌,
  ◌||◌,
  ℕ,
  zero,
  suc,
  false,
  List,
  [],
  ◌∷◌,
  ◌++◌,
  length,
  map,
  Option,
  None,
  refl,
  ap,
  sym,
  ◌∙◌,
  subst,
  arith,
}
use Rattle.std.proofs.Math.Bridge.{le_prop}
use Rattle.std.proofs.Math.Logic.{∥∥₁_elim}
use Rattle.std.specs.Prelude.{nat_le, nat_lt}
use Rattle.msb_values.specs.declared.key.InstanceKey.{InstanceKey}
use Rattle.result_cache.specs.declared.run.RunId.{RunId}
use Rattle.result_cache.specs.declared.request.RequestKey.{RequestKey}
use Rattle.result_cache.specs.Table.{TableRuns}
use Rattle.build_meaning.specs.declared.event.Event.TheVariants.{Request}
use Rattle.build_meaning.specs.Lists.{at}
use Rattle.build_meaning.specs.World.{World}
use Rattle.build_meaning.specs.Meaning.{most_instances}
use Rattle.build_meaning.proofs.ListPlaces.{at-less}
use Rattle.build_meaning.proofs.PairedLists.{Paired-length}
use Rattle.build_scheduler.specs.declared.walker.Ask.TheVariants.{Call}
use Rattle.build_scheduler.specs.declared.request.Children.{Children}
use Rattle.build_scheduler.specs.declared.slot.Origin.{Origin}
use Rattle.build_scheduler.specs.declared.slot.Slot.{Slot}
use Rattle.build_scheduler.specs.declared.slot.End.{End}
use Rattle.build_scheduler.specs.Children.{IsChildSlot, child_origin}
use Rattle.build_scheduler.specs.Entered.{AreNew, AreEntered}
use Rattle.build_scheduler.specs.Instances.{AreCounted, instance_asked, with_all}
use Rattle.build_scheduler.specs.History.{History}
use Rattle.build_scheduler.specs.Numbers.{among, Numbered}
use Rattle.build_scheduler.specs.Own.{Seen, IsOwn}
use Rattle.build_scheduler.specs.Position.{ask_of}
use Rattle.build_scheduler.specs.Requests.{HasSpare}
use Rattle.build_scheduler.specs.Shown.{Shown, Indexed, AreNested, is_ready, unready}
use Rattle.build_scheduler.specs.Slots.{owed_by}
use Rattle.build_scheduler.proofs.Calling.{called-shown, map-append, map-map}
use Rattle.build_scheduler.proofs.HistoryFacts.{truth-prop}
use Rattle.build_scheduler.proofs.InstanceCounts.{counted-all}
use Rattle.build_scheduler.proofs.Nesting.{nested-append}
use Rattle.build_scheduler.proofs.NewSlots.{called-indexed}
use Rattle.build_scheduler.proofs.OwnWalks.{calls-of, there-of}

pub absent-beyond : {W : Type 0} (slots : List (Slot W)) (ready : Numbered)
    (waiting : List Numbered) (first : ℕ) → first ≡ length slots → ∥ Indexed slots ready waiting ∥₁
    → (n : ℕ) → first ≤ n → among n ready.numbers ≡ false
absent-beyond {W} slots ready waiting first e indexed n l = ∥∥₁_elim indexed
    (truth-prop (among n ready.numbers) false)
    (λ x. x.listed n ∙ ap is_ready (beyond slots n (omega arith)))
  where
    beyond : (xs : List (Slot W)) (j : ℕ) → length xs ≤ j → at xs j ≡ None
    beyond [] j l = refl
    beyond (y ∷ xs) zero l = absurd (omega arith)
    beyond (y ∷ xs) (suc j) l = beyond xs j (omega arith)

pub spare-room : {P I A : Type 0} (w : World P I A) (history : History) (more : ℕ)
    → ∥ HasSpare w history (2 + more) ∥₁ → 0 < history.room
spare-room w history more h = ∥∥₁_elim h (λ p q. le_prop p q)
    (λ s. let l : owed_by s.state.requests + (2 + more) ≤ history.room = s.spare in omega arith)

module _ {W P I A : Type 0} (seen : W → Seen P I A) {origins : List Origin} (id : ℕ) (walk : W)
    (calls : List RequestKey) (children : Children W)
    (n : AreNew seen (seen walk) id calls origins children) where
  pub children-many : length children.slots.items ≡ length calls
  children-many = Paired-length (IsChildSlot seen (seen walk)) children.slots.items calls n.slots

  pub entered-counted : (instances next : List InstanceKey) {origins_now : List Origin}
      → next ≡ with_all instances calls → origins_now ≡ origins ++ children.origins.items
      → AreCounted instances (map instance_asked origins)
      → AreCounted next (map instance_asked origins_now)
  entered-counted instances next ne os k =
      subst (AreCounted next)
      (sym (ap (map instance_asked) (os ∙ ap (λ l. origins ++ l) n.origins)
      ∙ (map-append instance_asked origins (map (child_origin id (suc n.depth)) calls)
      ∙ ap (λ l. map instance_asked origins ++ l)
      (map-map instance_asked (child_origin id (suc n.depth))
      (λ (call : RequestKey). call.instance) calls (λ call. refl)))))
      (subst
      (λ xs.
      AreCounted xs
      (map instance_asked origins ++ map (λ (call : RequestKey). call.instance) calls)) (sym ne)
      (counted-all instances (map instance_asked origins) calls k))

  pub entered-nested : {origins_now : List Origin} → origins_now ≡ origins ++ children.origins.items
      → AreNested origins → AreNested origins_now
  entered-nested os v = subst AreNested (sym (os ∙ ap (λ l. origins ++ l) n.origins))
      (nested-append origins id n.depth calls n.has_depth n.not_deep v)

module _ {W P I A : Type 0} (seen : W → Seen P I A) (w : World P I A) {history : History}
    {origins : List Origin} {slots : List (Slot W)} {making : List (Option RunId)}
    {table : TableRuns} {end : Option End} (id : ℕ) (walk : W) where
  pub slot-there : ∥ Shown seen w history origins slots making table end ∥₁
      → ∥ IsOwn w history.events table.finished id (seen walk) ∥₁ → id < length slots
  slot-there shown own = ∥∥₁_elim shown (λ p q. le_prop p q)
      (λ x. ∥∥₁_elim own (λ p q. le_prop p q)
      (λ o. at-less slots id _ (there-of seen w x id (seen walk).position o.stands).at_slots))

  module _ (after : History) (calls : List RequestKey) (children : Children W)
      (n : AreNew seen (seen walk) id calls origins children) where
    pub entered-shown : (instances : List InstanceKey) {origins_now : List Origin}
        {outs : List (Slot W)} {bodies : List (Option RunId)} → end ≡ None
        → ask_of (seen walk).position ≡ Call calls
        → length (with_all instances calls) ≤ most_instances →
        after.events ≡ history.events ++ Request id calls ∷ [] → history.room ≡ after.room + 1
        → origins_now ≡ origins ++ children.origins.items
        → AreEntered slots outs id walk children → bodies ≡ making ++ children.making.items →
        Shown seen w history origins slots making table end
        → IsOwn w history.events table.finished id (seen walk)
        → AreCounted instances (map instance_asked origins)
        → HasSpare w history (2 + 2 * length calls)
        → Shown seen w after origins_now outs bodies table end
    entered-shown instances none a few ev room os e bs x o k spare =
        called-shown seen w history after id walk calls x
        (calls-of (seen walk).position.runs (seen walk).position.place calls a)
        (there-of seen w x id (seen walk).position o.stands)
        instances e.calls children.slots.items n.depth o none n.has_depth n.not_deep k few spare
        n.slots e.walk_is e.first_is (e.open_are ∙ children-many seen id walk calls children n)
        (ap (λ r. length r) e.results_are ∙ n.results) ev room
        (os ∙ ap (λ l. origins ++ l) n.origins) e.entered (bs ∙ ap (λ l. making ++ l) n.making)

    pub entered-indexed : (ready next : Numbered) (waiting lists : List Numbered)
        {outs : List (Slot W)} (first count : ℕ) → first ≡ length slots → count ≡ length calls
        → AreEntered slots outs id walk children → lists ≡ waiting ++ children.waiting.items →
        unready slots + length calls ≤ ready.room → ready.room ≡ next.room + count
        → ((m : ℕ) → among m next.numbers
        ≡ ((nat_le first m && nat_lt m (first + count)) || among m ready.numbers)) →
        Shown seen w history origins slots making table end
        → IsOwn w history.events table.finished id (seen walk) → Indexed slots ready waiting
        → Indexed outs next lists
    entered-indexed ready next waiting lists {outs} first count f c e ws spare room numbers x o y =
        called-indexed seen (seen walk) slots children.slots.items ready next waiting lists outs id
        (there-of seen w x id (seen walk).position o.stands).node e.calls calls
        (there-of seen w x id (seen walk).position o.stands).at_slots n.slots e.entered
        (ws ∙ ap (λ l. waiting ++ l) n.waiting)
        spare (room ∙ ap (λ k. next.room + k) c)
        (subst (λ k. (m : ℕ) → among m next.numbers
        ≡ ((nat_le (length slots) m && nat_lt m (length slots + k)) || among m ready.numbers)) c
        (subst (λ k. (m : ℕ) → among m next.numbers
        ≡ ((nat_le k m && nat_lt m (k + count)) || among m ready.numbers)) f numbers)) y
