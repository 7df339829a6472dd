-- A request calls others: they are new, ready, and begin with its journal.
use Rattle.std.proofs.Common.{
  ◌≡◌,
  ◌≤◌,
  ◌<◌,
  ◌+◌,
  ◌*◌,
  ◌&&◌,
  inl,
  inr,
  ℕ,
  zero,
  suc,
  true,
  List,
  [],
  ◌∷◌,
  ◌++◌,
  length,
  map,
  Option,
  None,
  Some,
  refl,
  ap,
  sym,
  ◌∙◌,
  subst,
  arith,
}
use Rattle.std.proofs.lemmas.Bool.{lt-ltb, le-leb}
use Rattle.std.proofs.lemmas.List.{length-map}
use Rattle.std.specs.Prelude.{nat_le}
use Rattle.msb_laws.specs.Asking.{and_then}
use Rattle.msb_values.specs.declared.key.InstanceKey.{InstanceKey}
use Rattle.result_cache.specs.declared.run.RunId.{RunId}
use Rattle.result_cache.specs.declared.request.RequestKey.{RequestKey}
use Rattle.result_cache.specs.declared.request.RequestResult.{RequestResult}
use Rattle.result_cache.specs.Exact.{keys-exact}
use Rattle.result_cache.specs.Journal.{Journal}
use Rattle.result_cache.specs.Table.{TableRuns}
use Rattle.build_meaning.specs.declared.event.Event.TheVariants.{Request}
use Rattle.build_meaning.specs.Lists.{at, put, Paired, numbered_from}
use Rattle.build_meaning.specs.World.{World}
use Rattle.build_meaning.specs.Walk.{Body}
use Rattle.build_meaning.specs.Meaning.{deepest, most_instances}
use Rattle.build_meaning.specs.Demand.{distinct}
use Rattle.build_meaning.specs.Stop.{asks}
use Rattle.build_meaning.specs.State.{
  Within,
  within,
  assigned,
  calling,
  RequestState,
  State,
  new_request,
}
use Rattle.build_meaning.specs.Step.{
  only_if,
  with_children,
  instance_of,
  is_within_limits,
  step_of,
  step,
}
use Rattle.build_meaning.specs.History.{IsHistory}
use Rattle.build_meaning.proofs.ListPlaces.{
  at-put_same,
  at-put_else,
  at-front,
  at-back,
  at-in,
  at-map,
  map-at,
  in-numbered,
  numbered-length,
  put-length,
}
use Rattle.build_meaning.proofs.OpenRequests.{kin_of, ids_in, kins-at, at-kins}
use Rattle.build_meaning.proofs.PairedLists.{Paired-append, Paired-length}
use Rattle.build_meaning.proofs.ParentsAndChildren.{same_or_not}
use Rattle.build_scheduler.specs.declared.walker.Answer.TheVariants.{First, Go, Use, Results}
use Rattle.build_scheduler.specs.declared.slot.Origin.{Origin}
use Rattle.build_scheduler.specs.declared.slot.Calls.{Calls as Open}
use Rattle.build_scheduler.specs.declared.slot.Slot.{Slot}
use Rattle.build_scheduler.specs.declared.slot.Slot.TheVariants.{
  Ready,
  Assigned,
  Waiting,
  Calling,
  Done,
}
use Rattle.build_scheduler.specs.declared.slot.End.{End}
use Rattle.build_scheduler.specs.Children.{IsChildSlot, child_origin, no_run, HasDepth}
use Rattle.build_scheduler.specs.Instances.{AreCounted, instance_asked, with_all}
use Rattle.build_scheduler.specs.Learnt.{ArePartOf}
use Rattle.build_scheduler.specs.History.{History}
use Rattle.build_scheduler.specs.Own.{Seen, placed, IsOwn}
use Rattle.build_scheduler.specs.Position.{Position, begins, answered}
use Rattle.build_scheduler.specs.Requests.{HasSpare}
use Rattle.build_scheduler.specs.Shown.{Shown, ShowsEnd, AreRooted, AreCalled}
use Rattle.build_scheduler.specs.Slots.{
  origin_of,
  making_of,
  result_in,
  result_at,
  owed,
  owed_by,
  run_at,
  AreSoFar,
  Stands,
  ShowsSlot,
}
use Rattle.build_scheduler.proofs.CallResults.{map-alike-in}
use Rattle.build_scheduler.proofs.HistoryFacts.{one_state, more, kindred}
use Rattle.build_scheduler.proofs.InstanceCounts.{counted-all, counted-length}
use Rattle.build_scheduler.proofs.OneRequest.{map-put, owed-put, ends-alike, one-more, later-same}
use Rattle.build_scheduler.proofs.OwnWalks.{Calls, There}
use Rattle.build_scheduler.proofs.SlotsStay.{paired-puts, slot-later}

pub map-append : {X Y : Type 0} (f : X → Y) (xs ys : List X)
    → map f (xs ++ ys) ≡ map f xs ++ map f ys
map-append f [] ys = refl
map-append f (x ∷ xs) ys = ap (λ l. f x ∷ l) (map-append f xs ys)

pub map-map : {X Y Z : Type 0} (f : Y → Z) (g : X → Y) (h : X → Z) (xs : List X)
    → ((x : X) → f (g x) ≡ h x) → map f (map g xs) ≡ map h xs
map-map f g h [] e = refl
map-map f g h (x ∷ xs) e = ap (λ y. y ∷ map f (map g xs)) (e x)
    ∙ ap (λ l. h x ∷ l) (map-map f g h xs e)

called-append : (xs : List Origin) (caller depth : ℕ) (calls : List RequestKey) → AreCalled xs
    → AreCalled (xs ++ map (child_origin caller depth) calls)
called-append [] caller depth [] h = tt
called-append [] caller depth (call ∷ calls) h = (refl, called-append [] caller depth calls tt)
called-append (x ∷ xs) caller depth calls h = (h.0, called-append xs caller depth calls h.1)

rooted-append : (xs : List Origin) (o : Origin) (n caller depth : ℕ) (calls : List RequestKey)
    → at xs n ≡ Some o → AreRooted xs → AreRooted (xs ++ map (child_origin caller depth) calls)
rooted-append [] o n caller depth calls e h = absurd (cc)
rooted-append (x ∷ xs) o n caller depth calls e h = (h.0, called-append xs caller depth calls h.1)

none-so-far : (others : List (Option RequestResult)) (results : List RequestResult) (n : ℕ)
    → length results ≡ length others → n ≡ length others
    → ((i : ℕ) (o : Option RequestResult) → at others i ≡ Some o → o ≡ None)
    → AreSoFar others results n
none-so-far [] [] n l e h = e
none-so-far [] (r ∷ results) n l e h = absurd (omega arith)
none-so-far (o ∷ others) [] n l e h = absurd (omega arith)
none-so-far (o ∷ others) (r ∷ results) zero l e h = absurd (omega arith)
none-so-far (o ∷ others) (r ∷ results) (suc n) l e h = subst
    (λ p. AreSoFar (p ∷ others) (r ∷ results) (suc n)) (sym (h 0 o refl))
    (none-so-far others results n (omega arith) (omega arith) (λ i. h (suc i)))

module _ {P I A : Type 0} where
  owed-append : (xs ys : List (RequestState P I A)) → owed_by (xs ++ ys) ≡ owed_by xs + owed_by ys
  owed-append [] ys = omega arith
  owed-append (x ∷ xs) ys = let h = owed-append xs ys in omega arith

  owed-new : (w : World P I A) (parent : Option ℕ) (path : List RunId) (journal : Journal)
      (keys : List RequestKey) → owed_by (map (new_request w parent path journal) keys)
      ≡ 2 * length keys
  owed-new w parent path journal [] = omega arith
  owed-new w parent path journal (key ∷ keys) = let h = owed-new w parent path journal keys in omega
      arith

  result-front : (xs ys : List (RequestState P I A)) (n : ℕ) (q : RequestState P I A)
      → at xs n ≡ Some q → result_at (xs ++ ys) n ≡ result_in q.status
  result-front xs ys n q e = ap (λ o. and_then o (λ q. result_in q.status)) (at-front xs ys n q e)

first-there : {X : Type 0} (xs : List X) (n : ℕ) (x : X) → at xs n ≡ Some x
    → (y : X) × (at xs 0 ≡ Some y)
first-there [] n x e = absurd (cc)
first-there (y ∷ xs) n x e = (y, refl)

part-of-part : {part whole table : _} → ArePartOf part whole → ArePartOf whole table
    → ArePartOf part table
part-of-part a b = record
    { in_order = a.in_order; shared = λ run made e. b.shared run made (a.shared run made e) }

-- how many instances there are with some calls
pub how-many : {W P I A : Type 0} (seen : W → Seen P I A) (w : World P I A) {history : History}
    {origins : List Origin} {slots : List (Slot W)} {making : List (Option RunId)}
    {table : TableRuns} {end : Option End} (x : Shown seen w history origins slots making table end)
    (instances : List InstanceKey) → AreCounted instances (map instance_asked origins)
    → (calls : List RequestKey)
    → length
    (distinct
    (map (instance_of w) x.state.requests ++ map (λ (call : RequestKey). call.instance) calls))
    ≡ length (with_all instances calls)
how-many seen w {origins = origins} x instances k calls =
    let are : map instance_asked origins ≡ map (instance_of w) x.state.requests = ap
    (map instance_asked) x.asked ∙ map-map instance_asked origin_of (instance_of w)
    x.state.requests (λ q. refl) in
    ap (λ l. length (distinct (l ++ map (λ (call : RequestKey). call.instance) calls))) (sym are)
    ∙ counted-length (with_all instances calls)
    (map instance_asked origins ++ map (λ (call : RequestKey). call.instance) calls)
    (counted-all instances (map instance_asked origins) calls k)

module _ {W P I A : Type 0} (seen : W → Seen P I A) (w : World P I A) (history after : History)
    {origins : List Origin} {slots : List (Slot W)} {making : List (Option RunId)}
    {table : TableRuns} {end : Option End}
    (id : ℕ) (walk : W) (calls : List RequestKey)
    (x : Shown seen w history origins slots making table end)
    (c : Calls (seen walk).position.place calls)
    (h : There slots x.state id (seen walk).position) where
  abbrev p : Position P I A
  p = (seen walk).position

  abbrev was_request : RequestState P I A
  was_request = placed h.origin p (assigned h.node)

  was_status : was_request.status ≡ assigned h.node (within c.inside (asks c.key c.keys c.go))
  was_status = ap (assigned h.node) c.is

  abbrev path : List RunId
  path = c.inside.run ∷ h.origin.path

  abbrev calling_request : RequestState P I A
  calling_request = record {
    origin = h.origin;
    journal = p.journal;
    runs = p.runs;
    status = calling (c.key ∷ c.keys)
        (numbered_from (length x.state.requests) (c.key ∷ c.keys)) c.inside c.go;
  }

  abbrev new_ones : List (RequestState P I A)
  new_ones = map (new_request w (Some id) path p.journal) (c.key ∷ c.keys)

  abbrev after_state : State P I A
  after_state = with_children w x.state id (placed h.origin p (assigned h.node))
      (c.key ∷ c.keys) c.inside c.go

  at_calling : at x.state.requests id
      ≡ Some
      (record {
        origin = h.origin;
        journal = p.journal;
        runs = p.runs;
        status = assigned h.node
            (within c.inside (asks c.key c.keys c.go));
      })
  at_calling = h.at_state
      ∙ ap
      (λ place.
      Some
      (record
      { origin = h.origin; journal = p.journal; runs = p.runs; status = assigned h.node place }))
      c.is

  same-origin : at origins id ≡ Some (origin_of was_request)
  same-origin = ap (λ os. at os id) x.asked ∙ map-at origin_of x.state.requests id was_request
      h.at_state

  pub depth-is : (depth : ℕ) → HasDepth (at origins id) depth → depth ≡ length h.origin.path
  depth-is depth d = sym (subst (λ o. HasDepth o depth) same-origin d)

  instances-with : (instances : List InstanceKey)
      → AreCounted instances (map instance_asked origins)
      → length
      (distinct
      (map (instance_of w) x.state.requests ++ map (λ (call : RequestKey). call.instance) calls))
      ≡ length (with_all instances calls)
  instances-with instances k = how-many seen w x instances k calls

  within-limits : (instances : List InstanceKey) → suc (length h.origin.path) < deepest
      → AreCounted instances (map instance_asked origins)
      → length (with_all instances calls) ≤ most_instances
      → is_within_limits w x.state path (c.key ∷ c.keys) ≡ true
  within-limits instances d k l =
      let n : length
      (distinct
      (map (instance_of w) x.state.requests
      ++ map (λ (call : RequestKey). call.instance) (c.key ∷ c.keys))) ≤ most_instances =
      subst
      (λ (keys : List RequestKey). length
      (distinct
      (map (instance_of w) x.state.requests ++ map (λ (call : RequestKey). call.instance) keys))
      ≤ most_instances) (sym c.calls_are)
      (subst (λ m. m ≤ most_instances) (sym (instances-with instances k)) l) in
      ap
      (λ b. b
      && nat_le
      (length
      (distinct
      (map (instance_of w) x.state.requests
      ++ map (λ (call : RequestKey). call.instance) (c.key ∷ c.keys)))) most_instances)
      (lt-ltb (length path) deepest d) ∙ le-leb _ _ n

  request-step : is_within_limits w x.state path (c.key ∷ c.keys) ≡ true
      → step w x.state (Request id calls) ≡ Some after_state
  request-step l = ap (λ o. and_then o (step_of w x.state (Request id calls))) at_calling
      ∙ (ap (λ b. only_if (b && is_within_limits w x.state path (c.key ∷ c.keys)) after_state)
      ((keys-exact (c.key ∷ c.keys) calls).1 c.calls_are) ∙ ap (λ b. only_if b after_state) l)

  told-after : (n : ℕ) (q : RequestState P I A) → at x.state.requests n ≡ Some q
      → result_at after_state.requests n ≡ result_at x.state.requests n
  told-after n q e = elim (same_or_not n id) [
    | inl same ↦ subst (λ m. result_at after_state.requests m ≡ result_at x.state.requests m)
        (sym same)
        (result-front (put x.state.requests id calling_request) new_ones id calling_request
        (at-put_same x.state.requests id was_request calling_request h.at_state)
        ∙ sym (ap (λ o. and_then o (λ q. result_in q.status)) h.at_state))
    | inr d ↦ result-front (put x.state.requests id calling_request) new_ones n q
        (at-put_else x.state.requests id calling_request n d ∙ e)
        ∙ sym (ap (λ o. and_then o (λ q. result_in q.status)) e)
  ]

  -- the calls of others have the results that they had
  told-others : (n : ℕ) (b : RequestState P I A) (keys : List RequestKey) (ids : List ℕ)
      (y : Within P I A) (go : List RequestResult → Journal → Body I A)
      → at x.state.requests n ≡ Some b → b.status ≡ calling keys ids y go →
      map (result_at after_state.requests) ids ≡ map (result_at x.state.requests) ids
  told-others n b keys ids y go a st = map-alike-in _ _ ids (λ m i.
      let k = kindred w history.events x.state x.history in
      let d = k.family.down n (kin_of b) ids (kins-at x.state.requests n b a) (ap ids_in st) m i in
      let q = at-kins x.state.requests m d.0 d.1 in told-after m q.0 q.1)

  new-ready : (count : ℕ) (key : RequestKey) (slot : Slot W)
      → IsOwn w history.events table.finished id (seen walk) → IsChildSlot seen (seen walk) slot key
      → ShowsSlot w after_state count seen slot (new_request w (Some id) path p.journal key)
  new-ready count key (Ready child First) o k = record {
    position = begins w key p.journal;
    goes = record {
      world = k.world ∙ o.world;
      learnt = subst (ArePartOf (seen child).learnt) x.finished (part-of-part k.learnt o.learnt);
      goes = ap (λ q. answered w x.state.table q First)
          (k.position ∙ ap (λ v. begins v key p.journal) o.world);
      turn = k.asked;
      few = let n : (seen child).asked ≡ 0 = k.asked in omega arith;
    };
    is = refl;
  }
  new-ready count key (Ready child Go) o k = absurd k
  new-ready count key (Ready child Use) o k = absurd k
  new-ready count key (Ready child (Results results)) o k = absurd k
  new-ready count key (Assigned node) o k = absurd k
  new-ready count key (Waiting child by) o k = absurd k
  new-ready count key (Calling open_calls) o k = absurd k
  new-ready count key Done o k = absurd k

  new-slots : (count : ℕ) (children : List (Slot W)) (keys : List RequestKey)
      → IsOwn w history.events table.finished id (seen walk)
      → Paired (IsChildSlot seen (seen walk)) children keys →
      Paired (ShowsSlot w after_state count seen) children
      (map (new_request w (Some id) path p.journal) keys)
  new-slots count [] [] o k = tt
  new-slots count (slot ∷ children) (key ∷ keys) o k =
      (new-ready count key slot o k.0, new-slots count children keys o k.1)
  new-slots count [] (key ∷ keys) o k = absurd k
  new-slots count (slot ∷ children) [] o k = absurd k

  new-none : (i : ℕ) (o : Option RequestResult)
      → at
      (map (result_at after_state.requests)
      (numbered_from (length x.state.requests) (c.key ∷ c.keys))) i ≡ Some o → o ≡ None
  new-none i o e =
      let y = at-map (result_at after_state.requests)
      (numbered_from (length x.state.requests) (c.key ∷ c.keys)) i o e in
      let m = at-in (numbered_from (length x.state.requests) (c.key ∷ c.keys)) i y.0 y.1 in
      let n = in-numbered (length x.state.requests) (c.key ∷ c.keys) y.0 m in
      let front : length (put x.state.requests id calling_request)
      ≡ length x.state.requests = put-length x.state.requests id calling_request in
      let there : at after_state.requests y.0 ≡ at new_ones n.0 =
      ap (at after_state.requests) (n.2 ∙ ap (λ l. l + n.0) (sym front))
      ∙ at-back (put x.state.requests id calling_request) new_ones n.0 in
      sym y.2
      ∙ (ap (λ q. and_then q (λ q. result_in q.status)) there
      ∙ ap (λ q. and_then q (λ q. result_in q.status))
      (map-at (new_request w (Some id) path p.journal) (c.key ∷ c.keys) n.0 n.1 n.3))

  -- the core shows the state after the calls are made
  pub called-shown : (instances : List InstanceKey) (open_calls : Open W) (children : List (Slot W))
      {origins_now : List Origin} {outs : List (Slot W)} {bodies : List (Option RunId)} (depth : ℕ)
      →
      IsOwn w history.events table.finished id (seen walk) → end ≡ None
      → HasDepth (at origins id) depth
      → suc depth < deepest → AreCounted instances (map instance_asked origins)
      → length (with_all instances calls) ≤ most_instances →
      HasSpare w history (2 + 2 * length calls)
      → Paired (IsChildSlot seen (seen walk)) children calls
      → open_calls.walk ≡ walk → open_calls.first ≡ length slots
      → open_calls.«open» ≡ length calls → length open_calls.results.items ≡ length calls →
      after.events ≡ history.events ++ Request id calls ∷ [] → history.room ≡ after.room + 1
      → origins_now ≡ origins ++ map (child_origin id (suc depth)) calls
      → outs ≡ put slots id (Calling open_calls) ++ children →
      bodies ≡ making ++ map no_run calls → Shown seen w after origins_now outs bodies table end
  called-shown instances open_calls children {origins_now} {outs} {bodies} depth own none d deep k
      few spare ch wk first opens results ev room os ss bs =
      let keys_are : c.key ∷ c.keys ≡ calls = c.calls_are in
      let depth_of_it : depth ≡ length h.origin.path = depth-is depth d in
      let st : step w x.state (Request id calls)
      ≡ Some after_state = request-step
      (within-limits instances (subst (λ n. suc n < deepest) depth_of_it deep) k few) in
      let count_of : length after.events ≡ suc (length history.events) = one-more history.events
      after.events (Request id calls) ev in
      let same_length : length slots ≡ length x.state.requests = Paired-length
      (ShowsSlot w x.state (length history.events) seen) slots x.state.requests x.each in
      let keys_length : length (c.key ∷ c.keys) ≡ length calls = ap length keys_are in
      record {
        state = after_state;
        history = subst (λ es. IsHistory w es after_state) (sym ev)
            (more w history.events (Request id calls) x.state after_state x.history st);
        asked = os
            ∙ (ap (λ l. l ++ map (child_origin id (suc depth)) calls)
            (x.asked
            ∙ sym
            (map-put origin_of x.state.requests id was_request calling_request h.at_state refl))
            ∙ (ap (λ l. map origin_of (put x.state.requests id calling_request) ++ l)
            (ap (map (child_origin id (suc depth))) (sym keys_are)
            ∙ sym
            (map-map origin_of (new_request w (Some id) path p.journal)
            (child_origin id (suc depth)) (c.key ∷ c.keys)
            (λ key. ap (λ n. record { key = key; parent = Some id; depth = n })
            (ap suc (sym depth_of_it)))))
            ∙ sym (map-append origin_of (put x.state.requests id calling_request) new_ones)));
        rooted = subst AreRooted (sym os)
            (rooted-append origins (origin_of was_request) id id (suc depth) calls same-origin
            x.rooted);
        each = subst
            (λ (xs : List (Slot W)). Paired (ShowsSlot w after_state (length after.events) seen) xs
            after_state.requests) (sym ss)
            (Paired-append (ShowsSlot w after_state (length after.events) seen)
            (put slots id (Calling open_calls)) (put x.state.requests id calling_request)
            children new_ones
            (paired-puts (ShowsSlot w x.state (length history.events) seen)
            (ShowsSlot w after_state (length after.events) seen) slots x.state.requests id
            (Calling open_calls) calling_request
            (λ n a b di t s. slot-later w seen x.state after_state (length history.events)
            (length after.events)
            (later-same seen w x.state after_state (length history.events) (length after.events)
            refl (omega (arith, count_of))) a b (record {
              begun = λ r body go by st g. g;
              told = λ keys ids y go st. told-others n b keys ids y go t st;
            }) s)
            (record {
              key = c.key;
              keys = c.keys;
              inside = c.inside;
              go = c.go;
              is = ap
                  (λ n. calling (c.key ∷ c.keys) (numbered_from n (c.key ∷ c.keys)) c.inside c.go)
                  (sym (first ∙ same_length));
              stands = subst
                  (λ v. Stands w after_state (length after.events) (seen v)
                  (record {
                    journal = p.journal;
                    runs = p.runs;
                    place = within c.inside
                        (asks c.key c.keys c.go);
                  })) (sym wk) (record {
                    world = own.world;
                    learnt = subst (ArePartOf (seen walk).learnt) x.finished own.learnt;
                    position = ap
                        (λ place. record { journal = p.journal; runs = p.runs; place = place })
                        c.is;
                    asked = own.asked;
                    few = let m : (seen walk).asked
                        ≤ length history.events = own.few in omega (arith, count_of);
                  });
              so_far = subst
                  (λ n.
                  AreSoFar (map (result_at after_state.requests) (numbered_from n (c.key ∷ c.keys)))
                  open_calls.results.items open_calls.«open») (sym (first ∙ same_length))
                  (let many : length
                  (map (result_at after_state.requests)
                  (numbered_from (length x.state.requests) (c.key ∷ c.keys)))
                  ≡ length (c.key ∷ c.keys) =
                  length-map (numbered_from (length x.state.requests) (c.key ∷ c.keys))
                  (result_at after_state.requests)
                  ∙ numbered-length (length x.state.requests) (c.key ∷ c.keys) in
                  none-so-far
                  (map (result_at after_state.requests)
                  (numbered_from (length x.state.requests) (c.key ∷ c.keys)))
                  open_calls.results.items open_calls.«open» (omega arith) (omega arith)
                  new-none);
            }) x.each)
            (new-slots (length after.events) children (c.key ∷ c.keys) own
            (subst (Paired (IsChildSlot seen (seen walk)) children) (sym keys_are) ch)));
        bodies = bs
            ∙ (ap (λ l. l ++ map no_run calls)
            (x.bodies
            ∙ sym
            (map-put making_of x.state.requests id was_request calling_request h.at_state
            (sym (ap run_at was_status))))
            ∙ (ap (λ l. map making_of (put x.state.requests id calling_request) ++ l)
            (ap (map no_run) (sym keys_are)
            ∙ sym
            (map-map making_of (new_request w (Some id) path p.journal) no_run (c.key ∷ c.keys)
            (λ key. refl)))
            ∙ sym (map-append making_of (put x.state.requests id calling_request) new_ones)));
        finished = x.finished;
        begun = x.begun;
        room =
            let a = owed-put x.state.requests id was_request calling_request h.at_state in
            let b : owed was_request.status ≡ 2 = ap owed was_status in
            let e = owed-append (put x.state.requests id calling_request) new_ones in
            let f = owed-new w (Some id) path p.journal (c.key ∷ c.keys) in
            let s : owed_by x.state.requests + (2 + 2 * length calls) ≤ history.room =
            subst (λ (t : State P I A). owed_by t.requests + (2 + 2 * length calls) ≤ history.room)
            (one_state w history.events spare.state x.state spare.history x.history) spare.spare in
            omega arith;
        ends = subst (ShowsEnd after_state) (sym none)
            (ends-alike x.state after_state (told-root) (subst (ShowsEnd x.state) none x.ends));
      }
    where
      told-root : result_at after_state.requests 0 ≡ result_at x.state.requests 0
      told-root = let y = first-there x.state.requests id was_request h.at_state in told-after 0 y.0
          y.1
