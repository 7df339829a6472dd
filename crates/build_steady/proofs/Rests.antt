-- What is to come, step by step.
use Rattle.std.proofs.Common.{
  ◌≡◌,
  ◌-◌,
  ◌<◌,
  ℕ,
  zero,
  suc,
  Bool,
  true,
  false,
  List,
  [],
  ◌∷◌,
  ◌++◌,
  length,
  Option,
  None,
  Some,
  refl,
  ap,
  sym,
  ◌∙◌,
  append_assoc,
  arith,
}
use Rattle.std.proofs.lemmas.List.{append-nil}
use Rattle.msb_laws.specs.Asking.{and_then}
use Rattle.msb_values.specs.declared.act.Act.{Act}
use Rattle.result_cache.specs.declared.run.RunId.{RunId}
use Rattle.result_cache.specs.declared.request.RequestKey.{RequestKey}
use Rattle.result_cache.specs.declared.request.RequestResult.{RequestResult}
use Rattle.result_cache.specs.declared.record.Record.{Record}
use Rattle.result_cache.specs.Journal.{Journal, acted, ended, add, merge, record_of}
use Rattle.result_cache.specs.Same.{is_in}
use Rattle.build_meaning.specs.World.{World}
use Rattle.build_meaning.specs.Walk.{
  Walk,
  gives,
  wants,
  Body,
  makes,
  does,
  uses,
  calls,
  Outcome,
  Reply,
}
use Rattle.build_meaning.specs.SoFar.{
  ToolUse,
  SoFar,
  nothing_yet,
  with_act,
  with_tool,
  with_calls,
  recorded,
  result_of,
}
use Rattle.build_meaning.specs.Meaning.{
  Demanded,
  requested,
  together,
  joined,
  built,
  Given,
  after,
  followed,
  containing,
  deepest,
  at_once,
  body,
  made_then,
  wanted,
  walk,
  request,
}
use Rattle.build_meaning.specs.Stands.{body_of}
use Rattle.build_meaning.specs.State.{Within}
use Rattle.build_meaning.specs.Stop.{run_on}
use Rattle.build_steady.specs.Order.{
  DemandEvent,
  is_reached,
  is_too_deep,
  body_begins,
  body_ends,
  is_circular,
  then_comes,
  order_of_calls,
  order_of_run,
  order_of_body,
  order_of_walk,
  order_of_request,
  order_of_demand,
}
use Rattle.build_steady.specs.Waiting.{
  Waiting,
  told,
  with_left,
  path_of,
  depth_below,
  Next,
  rest_of_walk,
  rest_of_body,
  rest_of_calls,
  rest_of_caller,
  rest_by,
  after_call,
  rest_from,
}

-- what comes after two things that follow each other
pub then-followed : {P I S T : Type 0} (first : Option (Given P I S)) (next : S → Journal →
    Option (Given P I T)) (k : T → Journal → List DemandEvent) →
    then_comes (followed first next) k ≡ then_comes first (λ x j. then_comes (next x j) k)
then-followed None next k = refl
then-followed {P} {I} {S} {T} (Some x) next k = go (next x.value x.journal)
  where
    go : (o : Option (Given P I T)) → then_comes (and_then o (λ y. Some (after x.demand y))) k
        ≡ then_comes o k
    go None = refl
    go (Some y) = refl

pub then-containing : {P I T : Type 0} (e : Demanded P I) (o : Option (Given P I T))
    (k : T → Journal →
    List DemandEvent) → then_comes (containing e o) k ≡ then_comes o k
then-containing e None k = refl
then-containing e (Some x) k = refl

pub then-joined : {P I T : Type 0} (o : Option (Given P I T))
    (f g : T → Journal → List DemandEvent) →
    then_comes o f ++ then_comes o g ≡ then_comes o (λ x j. f x j ++ g x j)
then-joined None f g = refl
then-joined (Some x) f g = refl

pub then-alike : {P I T : Type 0} (o : Option (Given P I T))
    (f g : T → Journal → List DemandEvent) →
    ((x : T) (j : Journal) → f x j ≡ g x j) → then_comes o f ≡ then_comes o g
then-alike None f g h = refl
then-alike (Some x) f g h = h x.value x.journal

pub then-nothing : {P I T : Type 0} (o : Option (Given P I T)) → then_comes o (λ x j. []) ≡ []
then-nothing None = refl
then-nothing (Some x) = refl

-- events, and then two parts that each wait for the same thing
both-waited : {P I T : Type 0} (es : List DemandEvent) (o : Option (Given P I T))
    (f g : T → Journal →
    List DemandEvent) → (es ++ then_comes o f) ++ then_comes o g ≡ es ++ then_comes o (λ x j. f x j
    ++ g x j)
both-waited es o f g =
    append_assoc es (then_comes o f) (then_comes o g) ∙ ap (λ l. es ++ l) (then-joined o f g)

module _ {P I A : Type 0} (w : World P I A) where
  -- a run that has ended in the journal
  pub rest-used : (depth : ℕ) (path : List RunId) (site : P) (run : RunId) (b : Body I A)
      (go : Record → Journal → Walk P I A) (j : Journal) (runs : List RunId) (next : Next)
      (m : Record) →
      record_of j run ≡ Some m →
      rest_of_walk w depth path (wants site run b go) j runs next ≡ rest_of_walk w depth path
      (go m j) j
      (runs ++ run ∷ []) next
  rest-used depth path site run b go j runs next m e =
      ap (λ (o : Option Record).
      order_of_run o (is_in run path) (order_of_body w (order_of_request w depth (run ∷ path))
      (request w depth (run ∷ path)) run b j nothing_yet)
      (body w (request w depth (run ∷ path)) run b j nothing_yet) run
      (λ made then_j. order_of_walk w (order_of_request w depth) (request w depth) path
      (go made then_j) then_j) j
      ++ then_comes (wanted w o (is_in run path) (body w (request w depth (run ∷ path)) run b j
      nothing_yet) site run j (λ x then_j. walk w (request w depth) path (go x then_j) then_j (runs
      ++ run ∷ []))) next) e

  -- a run that is wanted in its own body
  pub rest-circular : (depth : ℕ) (path : List RunId) (site : P) (run : RunId) (b : Body I A)
      (go : Record → Journal → Walk P I A) (j : Journal) (runs : List RunId) (next : Next) →
      record_of j run ≡ None →
      is_in run path ≡ true →
      rest_of_walk w depth path (wants site run b go) j runs next ≡ is_circular run ∷ []
  rest-circular depth path site run b go j runs next e t =
      let inner : List DemandEvent = order_of_body w (order_of_request w depth (run ∷ path))
      (request w depth (run ∷ path)) run b j nothing_yet in
      let x : Option (Given P I (Record × List (ToolUse I))) =
      body w (request w depth (run ∷ path)) run b j nothing_yet in
      ap (λ (o : Option Record).
      order_of_run o (is_in run path) inner x run (λ made then_j.
      order_of_walk w (order_of_request w depth) (request w depth) path (go made then_j) then_j)
      j
      ++ then_comes (wanted w o (is_in run path) x site run j
      (λ y then_j. walk w (request w depth) path
      (go y then_j) then_j (runs ++ run ∷ []))) next) e
      ∙ ap (λ (p : Bool).
      order_of_run None p inner x run (λ made then_j. order_of_walk w (order_of_request w depth)
      (request w depth) path (go made then_j) then_j) j
      ++ then_comes (wanted w None p x site run j (λ y then_j. walk w (request w depth) path
      (go y then_j) then_j (runs ++ run ∷ []))) next) t

  -- any other run is made
  pub rest-made : (depth : ℕ) (path : List RunId) (site : P) (run : RunId) (b : Body I A)
      (go : Record → Journal → Walk P I A) (j : Journal) (runs : List RunId) (next : Next) →
      record_of j run ≡ None →
      is_in run path ≡ false →
      rest_of_walk w depth path (wants site run b go) j runs next ≡ body_begins run ∷ rest_of_body w
      depth path run b j nothing_yet go runs next
  rest-made depth path site run b go j runs next e t =
      let inner : List DemandEvent = order_of_body w (order_of_request w depth (run ∷ path))
      (request w depth (run ∷ path)) run b j nothing_yet in
      let x : Option (Given P I (Record × List (ToolUse I))) =
      body w (request w depth (run ∷ path)) run b j nothing_yet in
      let ends : Record × List (ToolUse I) → Journal → List DemandEvent = λ m left.
      body_ends run m.0 ∷ order_of_walk w (order_of_request w depth) (request w depth) path
      (go m.0 (add left (ended run m.0))) (add left (ended run m.0)) in
      let on : Record → Journal → Option (Given P I RequestResult) = λ y then_j.
      walk w (request w depth) path (go y then_j) then_j (runs ++ run ∷ []) in
      ap (λ (o : Option Record).
      order_of_run o (is_in run path) inner x run (λ made then_j.
      order_of_walk w (order_of_request w depth) (request w depth) path (go made then_j) then_j)
      j
      ++ then_comes (wanted w o (is_in run path) x site run j on) next) e
      ∙ (ap (λ (p : Bool).
      order_of_run None p inner x run (λ made then_j. order_of_walk w (order_of_request w depth)
      (request w depth) path (go made then_j) then_j) j
      ++ then_comes (wanted w None p x site run j on) next) t
      ∙ (ap (λ l. body_begins run ∷ ((inner ++ then_comes x ends) ++ l)) (then-followed x
      (made_then w site run j on) next)
      ∙ ap (λ l. body_begins run ∷ l)
      (both-waited inner x ends (λ m left. then_comes (made_then w site run j on m left) next)
      ∙ ap (λ l. inner ++ l) (then-alike x (λ m left. ends m left
      ++ then_comes (made_then w site run j on m left) next)
      (λ m left. body_ends run m.0 ∷ rest_of_walk w depth path (go m.0 (add left (ended run m.0)))
      (add left (ended run m.0)) (runs ++ run ∷ []) next)
      (λ m left. ap (λ l. ends m left ++ l) (then-containing (built site run j m.0 m.1)
      (on m.0 (add left (ended run m.0))) next))))))

  -- a body goes on until it stops
  pub rest-stops : (depth : ℕ) (path : List RunId) (run : RunId) (b : Body I A) (j : Journal)
      (so_far : SoFar I) (go : Record → Journal → Walk P I A) (runs : List RunId) (next : Next) →
      rest_of_body w depth path run b j so_far go runs next
      ≡ rest_of_body w depth path run (body_of (run_on w.tools run b j so_far).stop)
      (run_on w.tools run b j so_far).journal (run_on w.tools run b j so_far).so_far go runs
      next
  rest-stops depth path run (makes outcome) j so_far go runs next = refl
  rest-stops depth path run (does act on) j so_far go runs next =
      rest-stops depth path run (on (add j (acted run (length so_far.segments) act)))
      (add j (acted run (length so_far.segments) act)) (with_act so_far act) go runs next
  rest-stops depth path run (uses name input on) j so_far go runs next = rest-stops depth path run
      (on (w.tools name input)) j (with_tool so_far name input) go runs next
  rest-stops depth path run (calls key keys on) j so_far go runs next = refl

  -- the calls of a body, and then what it does with their results
  pub rest-calls : (depth : ℕ) (path : List RunId) (run : RunId) (key : RequestKey)
      (keys : List RequestKey) (on : List RequestResult → Journal → Body I A) (j : Journal)
      (so_far : SoFar I) (go : Record → Journal → Walk P I A) (runs : List RunId) (next : Next) →
      rest_of_body w depth path run (calls key keys on) j so_far go runs next
      ≡ rest_of_calls w depth (run ∷ path) j j (key ∷ keys) (λ results after. rest_of_body w depth
      path run (on results after) after (with_calls so_far (key ∷ keys) results) go runs next)
  rest-calls depth path run key keys on j so_far go runs next =
      let first : List DemandEvent = order_of_calls (order_of_request w depth (run ∷ path)) (request
      w depth (run ∷ path)) j (key ∷ keys) in
      let x : Option (Given P I (List RequestResult)) = at_once w (request w depth (run ∷ path)) j j
      (key ∷ keys) in
      let inner : List RequestResult → Journal → List DemandEvent = λ results after.
      order_of_body w (order_of_request w depth (run ∷ path)) (request w depth (run ∷ path)) run
      (on results after) after (with_calls so_far (key ∷ keys) results) in
      let rest : List RequestResult → Journal → Option (Given P I (Record × List (ToolUse I))) =
      λ results after.
      body w (request w depth (run ∷ path)) run (on results after) after
      (with_calls so_far (key ∷ keys) results) in
      let ends : Record × List (ToolUse I) → Journal → List DemandEvent = λ m left.
      body_ends run m.0 ∷ rest_of_walk w depth path (go m.0 (add left (ended run m.0)))
      (add left (ended run m.0)) (runs ++ run ∷ []) next in
      ap (λ l. (first ++ then_comes x inner) ++ l)
      (then-followed (containing (together (key ∷ keys)) x) rest ends
      ∙ then-containing (together (key ∷ keys)) x (λ results after.
      then_comes (rest results after) ends))
      ∙ both-waited first x inner (λ results after. then_comes (rest results after) ends)

  -- the next of some calls, and then the others
  pub rest-next : (depth : ℕ) (path : List RunId) (j merged : Journal) (key : RequestKey)
      (keys : List RequestKey) (next : List RequestResult → Journal → List DemandEvent) →
      rest_of_calls w depth path j merged (key ∷ keys) next
      ≡ order_of_request w depth path j key ++ then_comes (request w depth path j key)
      (λ result left.
      rest_of_calls w depth path j (merge merged left) keys (λ results last.
      next (result ∷ results) last))
  rest-next depth path j merged key keys next =
      let first : List DemandEvent = order_of_request w depth path j key in
      let x : Option (Given P I RequestResult) = request w depth path j key in
      let inner : RequestResult → Journal → List DemandEvent = λ result left.
      order_of_calls (order_of_request w depth path) (request w depth path) j keys in
      let those : RequestResult → Journal → Option (Given P I (List RequestResult)) = λ result left.
      at_once w (request w depth path) j (merge merged left) keys in
      let all : RequestResult → Journal → Option (Given P I (List RequestResult)) = λ result left.
      containing (joined j merged left) (those result left) in
      let rest : RequestResult → Journal → Option (Given P I (List RequestResult)) = λ result left.
      followed (all result left) (λ results last. Some (record {
        value = result ∷ results;
        journal =
            last;
        demand = [];
      })) in
      ap (λ l. (first ++ then_comes x inner) ++ l) (then-followed x rest next)
      ∙ (both-waited first x inner (λ result left. then_comes (rest result left) next)
      ∙ ap (λ l. first ++ l) (then-alike x (λ result left. inner result left
      ++ then_comes (rest result left) next)
      (λ result left. rest_of_calls w depth path j (merge merged left) keys (λ results last.
      next (result ∷ results) last))
      (λ result left. ap (λ l. inner result left ++ l) (then-followed (all result left)
      (λ results last. Some (record { value = result ∷ results; journal = last; demand = [] }))
      next ∙ then-containing (joined j merged left) (those result left) (λ results last.
      next (result ∷ results) last)))))

  -- a request that is not nested too deep
  pub rest-reached : (depth : ℕ) (path : List RunId) (j : Journal) (key : RequestKey)
      (next : Next) →
      order_of_request w (suc depth) path j key ++ then_comes (request w (suc depth) path j key)
      next ≡ is_reached key.instance ∷ rest_of_walk w depth path (w.walks key j) j [] next
  rest-reached depth path j key next =
      ap (λ l. is_reached key.instance ∷ (order_of_walk w (order_of_request w depth)
      (request w depth) path (w.walks key j) j ++ l))
      (then-containing (requested key) (walk w (request w depth) path (w.walks key j) j []) next)

  -- what comes after calls, by what it is for each list of results
  pub rest-alike : (depth : ℕ) (path : List RunId) (j merged : Journal) (keys : List RequestKey)
      (next other : List RequestResult → Journal → List DemandEvent) →
      ((results : List RequestResult) (last : Journal) → next results last ≡ other results last) →
      rest_of_calls w depth path j merged keys next ≡ rest_of_calls w depth path j merged keys other
  rest-alike depth path j merged keys next other h =
      ap (λ l. order_of_calls (order_of_request w depth path) (request w depth path) j keys
      ++ l) (then-alike (at_once w (request w depth path) j merged keys) next other h)

  -- a caller reaches its next call
  pub caller-reaches : (callers : List (Waiting P I A)) (c : Waiting P I A) (key : RequestKey)
      (keys : List RequestKey) (deep : ℕ) → depth_below callers ≡ suc deep →
      rest_from w callers (with_left c (key ∷ keys))
      ≡ is_reached key.instance ∷ rest_of_walk w deep (path_of (with_left c keys ∷ callers))
      (w.walks key c.journal) c.journal [] (after_call w (with_left c keys ∷ callers))
  caller-reaches callers c key keys deep e =
      let depth : ℕ = depth_below callers in
      let path : List RunId = path_of callers in
      let next : Next = after_call w callers in
      let by_results : List RequestResult → Journal → List DemandEvent = λ more last.
      rest_by w depth path next c (c.results ++ more) last in
      rest-next depth (c.inside.run ∷ path) c.journal c.merged key keys by_results
      ∙ (ap (λ l. order_of_request w depth (c.inside.run ∷ path) c.journal key ++ l)
      (then-alike (request w depth (c.inside.run ∷ path) c.journal key)
      (λ result left. rest_of_calls w depth (c.inside.run ∷ path) c.journal (merge c.merged left)
      keys (λ results last. by_results (result ∷ results) last))
      (after_call w (with_left c keys ∷ callers))
      (λ result left. rest-alike depth (c.inside.run ∷ path) c.journal (merge c.merged left) keys
      (λ results last. by_results (result ∷ results) last)
      (λ more last. rest_by w depth path next c ((c.results ++ result ∷ []) ++ more) last)
      (λ more last. ap (λ rs. rest_by w depth path next c rs last)
      (sym (append_assoc c.results (result ∷ []) more)))))
      ∙ (ap (λ (d : ℕ). order_of_request w d (c.inside.run ∷ path) c.journal key
      ++ then_comes (request w d (c.inside.run ∷ path) c.journal key)
      (after_call w (with_left c keys ∷ callers))) e
      ∙ rest-reached deep (c.inside.run ∷ path) c.journal key
      (after_call w (with_left c keys ∷ callers))))

  -- a body that has stopped at calls
  pub caller-begins : (callers : List (Waiting P I A)) (start begun j : Journal) (runs : List RunId)
      (x : Within P I A) (key : RequestKey) (keys : List RequestKey) (on : List RequestResult →
      Journal → Body I A) →
      rest_of_body w (depth_below callers) (path_of callers) x.run (calls key keys on) j x.so_far
      x.go runs (after_call w callers)
      ≡ rest_from w callers (record {
        start = start;
        begun = begun;
        journal = j;
        runs = runs;
        inside = x;
        key = key;
        keys = keys;
        go_on = on;
        results = [];
        merged = j;
        left =
            key ∷ keys;
      })
  caller-begins callers start begun j runs x key keys on = rest-calls (depth_below callers)
      (path_of callers) x.run key keys on j x.so_far x.go runs (after_call w callers)

  -- a caller whose calls are over
  pub caller-resumes : (callers : List (Waiting P I A)) (c : Waiting P I A) →
      rest_from w callers (with_left c []) ≡ rest_by w (depth_below callers) (path_of callers)
      (after_call w callers) c c.results c.merged
  caller-resumes callers c = ap (λ rs. rest_by w (depth_below callers) (path_of callers)
      (after_call w callers) c rs c.merged) (append-nil c.results)

  -- calls that are nested too deep
  pub caller-too-deep : (callers : List (Waiting P I A)) (c : Waiting P I A) (key : RequestKey)
      (keys : List RequestKey) → depth_below callers ≡ zero →
      rest_from w callers (with_left c (key ∷ keys)) ≡ is_too_deep key.instance ∷ []
  caller-too-deep callers c key keys e =
      rest-next (depth_below callers) (c.inside.run ∷ path_of callers) c.journal c.merged key keys
      (λ more last. rest_by w (depth_below callers) (path_of callers) (after_call w callers) c
      (c.results ++ more) last)
      ∙ ap (λ (d : ℕ). order_of_request w d (c.inside.run ∷ path_of callers) c.journal key
      ++ then_comes (request w d (c.inside.run ∷ path_of callers) c.journal key) (λ result left.
      rest_of_calls w (depth_below callers) (c.inside.run ∷ path_of callers) c.journal
      (merge c.merged left) keys (λ results last. rest_by w (depth_below callers)
      (path_of callers) (after_call w callers) c (c.results ++ (result ∷ results)) last))) e

  -- all that is to come of the world
  pub world-rest : (deep : ℕ) → deepest ≡ suc deep → order_of_demand w ≡ is_reached w.root.instance
      ∷ rest_of_walk w deep [] (w.walks w.root []) [] [] (after_call w [])
  unfolding order_of_demand
  world-rest deep e =
      sym (append-nil (order_of_request w deepest [] [] w.root))
      ∙ (ap (λ l. order_of_request w deepest [] [] w.root
      ++ l) (sym (then-nothing (request w deepest [] [] w.root)))
      ∙ (ap (λ (d : ℕ). order_of_request w d [] [] w.root ++ then_comes (request w d [] [] w.root)
      (λ result left. [])) e
      ∙ rest-reached deep [] [] w.root (λ result left. [])))
