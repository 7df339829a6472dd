-- What a world means: what its root request gives where nothing is shared between requests, and
-- each run that a journal lacks is made anew. It is a recursion by depth. (MSBuild task; Target
-- build order)
use Rattle.std.specs.Prelude.{
  ℕ,
  zero,
  suc,
  Bool,
  true,
  false,
  List,
  [],
  ◌∷◌,
  ◌++◌,
  length,
  Option,
  None,
  Some,
}
use Rattle.msb_laws.specs.Asking.{and_then}
use Rattle.result_cache.specs.declared.run.RunId.{RunId}
use Rattle.result_cache.specs.declared.request.RequestKey.{RequestKey}
use Rattle.result_cache.specs.declared.request.RequestResult.{RequestResult}
use Rattle.result_cache.specs.declared.record.Record.{Record}
use Rattle.result_cache.specs.Journal.{Journal, acted, ended, add, merge, record_of}
use Rattle.build_meaning.specs.World.{World}
use Rattle.build_meaning.specs.Walk.{Walk, gives, wants, Body, makes, does, uses, calls}
use Rattle.build_meaning.specs.SoFar.{
  ToolUse,
  SoFar,
  nothing_yet,
  with_act,
  with_tool,
  with_calls,
  recorded,
  result_of,
}
use Rattle.result_cache.specs.Same.{is_in}

-- what the meaning contains: a request; calls made at once; the join of one of them, by the journal
-- of their caller, what the calls so far have left, and what this next one leaves; the body of a
-- run, with its site, the journal with which it begins, the record that it makes, and the tools
-- that it uses
pub data Demanded (P I : Type 0) : Type 0 where
  requested : RequestKey → Demanded P I
  together : List RequestKey → Demanded P I
  joined : (caller so_far next : Journal) → Demanded P I
  built : (site : P) → RunId → (from : Journal) → Record → List (ToolUse I) → Demanded P I

-- what comes of a request, a body or calls: what it gives, the journal then, and all that it
-- contains
pub record Given (P I T : Type 0) : Type 0 where
  pub value : T
  pub journal : Journal
  pub demand : List (Demanded P I)

-- this, with what came before it
abbrev pub after : {P I T : Type 0} → List (Demanded P I) → Given P I T → Given P I T
after demand x = record { value = x.value; journal = x.journal; demand = demand ++ x.demand }

-- one after the other: the second begins with what the first gives and with its journal
abbrev pub followed : {P I S T : Type 0} → Option (Given P I S) →
    (S → Journal → Option (Given P I T)) → Option (Given P I T)
followed first next = and_then first
    (λ x. and_then (next x.value x.journal) (λ y. Some (after x.demand y)))

-- this, with one more that it contains, in front
abbrev pub containing : {P I T : Type 0} → Demanded P I → Option (Given P I T) →
    Option (Given P I T)
containing e None = None
containing e (Some x) = Some (after (e ∷ []) x)

-- so many requests may be nested, the root counted
unfoldable pub deepest : ℕ
deepest = 128

-- so many distinct instances may be asked for
unfoldable pub most_instances : ℕ
most_instances = 4096

module _ {P I A : Type 0} (w : World P I A) where
  -- calls made at once: each begins with the caller's journal, and what they leave is merged in
  -- call order. (MSBuild task, BuildInParallel)
  abbrev pub at_once : (Journal → RequestKey → Option (Given P I RequestResult)) → Journal →
      Journal → List RequestKey → Option (Given P I (List RequestResult))
  at_once request journal merged [] = Some (record { value = []; journal = merged; demand = [] })
  at_once request journal merged (key ∷ keys) =
      followed (request journal key) (λ result left.
      followed (containing (joined journal merged left)
      (at_once request journal (merge merged left) keys)) (λ results last.
      Some (record { value = result ∷ results; journal = last; demand = [] })))

  -- the body of a run, which has done so far: its record, and the tools that it uses
  abbrev pub body : (Journal → RequestKey → Option (Given P I RequestResult)) → RunId →
      Body I A → Journal → SoFar I → Option (Given P I (Record × List (ToolUse I)))
  body request run (makes outcome) journal so_far = Some
      (record
      { value = (recorded outcome so_far.segments, so_far.tools); journal = journal; demand = [] })
  body request run (does act go) journal so_far =
      let next : Journal = add journal (acted run (length so_far.segments) act) in body request run
      (go next) next (with_act so_far act)
  body request run (uses name input go) journal so_far = body request run (go (w.tools name input))
      journal (with_tool so_far name input)
  body request run (calls key keys go) journal so_far =
      followed (containing (together (key ∷ keys)) (at_once request journal journal (key ∷ keys)))
      (λ results next. body request run (go results next) next
      (with_calls so_far (key ∷ keys) results))

  -- a body was made: its run ends, and the request goes on
  abbrev pub made_then : P → RunId → (from : Journal) →
      (Record → Journal → Option (Given P I RequestResult)) → Record × List (ToolUse I) →
      Journal → Option (Given P I RequestResult)
  made_then site run from go x journal =
      containing (built site run from x.0 x.1) (go x.0 (add journal (ended run x.0)))

  -- a run that has ended in the journal has its record from there; a run that calls itself, over
  -- others or not, gives nothing; any other is made
  abbrev pub wanted : Option Record → Bool → Option (Given P I (Record × List (ToolUse I))) →
      P → RunId → Journal → (Record → Journal → Option (Given P I RequestResult)) →
      Option (Given P I RequestResult)
  wanted (Some made) in_path x site run journal go = go made journal
  wanted None true x site run journal go = None
  wanted None false x site run journal go = followed x (made_then site run journal go)

  -- a request from here on, where path are the runs in whose bodies it was called, the last one
  -- first, and runs those that it has made or used
  abbrev pub walk : (List RunId → Journal → RequestKey → Option (Given P I RequestResult)) →
      List RunId → Walk P I A → Journal → List RunId → Option (Given P I RequestResult)
  walk request path (gives reply) journal runs = Some
      (record { value = result_of reply runs; journal = journal; demand = [] })
  walk request path (wants site run b go) journal runs =
      let made : Option (Given P I (Record × List (ToolUse I))) =
      body (request (run ∷ path)) run b journal nothing_yet in
      wanted (record_of journal run) (is_in run path) made site run journal
      (λ x next. walk request path (go x next) next (runs ++ run ∷ []))

  -- a request of this key, by its caller's journal, where so many may be nested
  abbrev pub request : ℕ → List RunId → Journal → RequestKey → Option (Given P I RequestResult)
  request zero path journal key = None
  request (suc depth) path journal key = containing (requested key)
      (walk (request depth) path (w.walks key journal) journal [])

  -- the meaning of a world: its root request, with nothing known
  abbrev pub meaning : Option (Given P I RequestResult)
  meaning = request deepest [] [] w.root
