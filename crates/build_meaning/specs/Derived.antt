-- The meaning as a derivation, where D holds of all that it contains. (MSBuild task; Target build
-- order)
use Rattle.std.specs.Prelude.{◌≡◌, true, false, List, [], ◌∷◌, ◌++◌, length, Some, nat_lt}
use Rattle.msb_laws.specs.Words.{Name}
use Rattle.msb_values.specs.declared.act.Act.{Act}
use Rattle.result_cache.specs.declared.run.RunId.{RunId}
use Rattle.result_cache.specs.declared.request.RequestKey.{RequestKey}
use Rattle.result_cache.specs.declared.request.RequestResult.{RequestResult}
use Rattle.result_cache.specs.declared.record.Record.{Record}
use Rattle.result_cache.specs.Lists.{In}
use Rattle.result_cache.specs.Journal.{Journal, end_of, acted, ended, has, add, merge, record_of}
use Rattle.build_meaning.specs.World.{World}
use Rattle.build_meaning.specs.Walk.{
  Walk,
  gives,
  wants,
  Body,
  makes,
  does,
  uses,
  calls,
  Outcome,
  Reply,
}
use Rattle.build_meaning.specs.SoFar.{
  ToolUse,
  SoFar,
  nothing_yet,
  with_act,
  with_tool,
  with_calls,
  recorded,
  result_of,
}
use Rattle.build_meaning.specs.Meaning.{Demanded, requested, together, joined, built, deepest}

mutual
  -- called in these runs, from a journal and with the runs so far, a request gives a result and
  -- leaves a journal
  pub data OfWalk {P I A : Type 0} (w : World P I A) (D : Demanded P I → Type 0)
      : List RunId → Journal → List RunId → Walk P I A → RequestResult → Journal → Type 0 where
    over : {path : List RunId} {j : Journal} {runs : List RunId} {reply : Reply} →
        OfWalk w D path j runs (gives reply) (result_of reply runs) j
    used : {path : List RunId} {j k : Journal} {runs : List RunId} {res : RequestResult}
        {p : P} {r : RunId} {b : Body I A} {go : Record → Journal → Walk P I A} (m : Record) →
        record_of j r ≡ Some m → OfWalk w D path j (runs ++ r ∷ []) (go m j) res k →
        OfWalk w D path j runs (wants p r b go) res k
    made : {path : List RunId} {j i k : Journal} {runs : List RunId} {res : RequestResult}
        {p : P} {r : RunId} {b : Body I A} {go : Record → Journal → Walk P I A} {m : Record}
        {tools : List (ToolUse I)} →
        ¬ In r path → has (end_of r) j ≡ false →
        OfBody w D (r ∷ path) r j nothing_yet b m tools i → D (built p r j m tools) →
        OfWalk w D path (add i (ended r m)) (runs ++ r ∷ []) (go m (add i (ended r m))) res k →
        OfWalk w D path j runs (wants p r b go) res k

  -- the body of a run, which has done so far, makes a record, uses tools and leaves a journal
  pub data OfBody {P I A : Type 0} (w : World P I A) (D : Demanded P I → Type 0)
      : List RunId → RunId → Journal → SoFar I → Body I A → Record → List (ToolUse I) → Journal →
      Type 0 where
    ended_so : {path : List RunId} {r : RunId} {j : Journal} {so_far : SoFar I}
        {outcome : Outcome} →
        OfBody w D path r j so_far (makes outcome) (recorded outcome so_far.segments)
        so_far.tools j
    acted_one : {path : List RunId} {r : RunId} {j k : Journal} {so_far : SoFar I} {act : Act}
        {go : Journal → Body I A} {m : Record} {tools : List (ToolUse I)} →
        OfBody w D path r (add j (acted r (length so_far.segments) act)) (with_act so_far act)
        (go (add j (acted r (length so_far.segments) act))) m tools k →
        OfBody w D path r j so_far (does act go) m tools k
    used_tool : {path : List RunId} {r : RunId} {j k : Journal} {so_far : SoFar I}
        {name : Name} {input : I} {go : A → Body I A} {m : Record} {tools : List (ToolUse I)} →
        OfBody w D path r j (with_tool so_far name input) (go (w.tools name input)) m tools k →
        OfBody w D path r j so_far (uses name input go) m tools k
    called_all : {path : List RunId} {r : RunId} {j i k : Journal} {so_far : SoFar I}
        {key : RequestKey} {keys : List RequestKey} {go : List RequestResult → Journal → Body I A}
        {results : List RequestResult} {m : Record} {tools : List (ToolUse I)} →
        D (together (key ∷ keys)) → OfCalls w D path j j (key ∷ keys) results i →
        OfBody w D path r i (with_calls so_far (key ∷ keys) results) (go results i) m tools k →
        OfBody w D path r j so_far (calls key keys go) m tools k

  -- calls made at once from a journal, after those that are merged already, give results and leave
  -- a journal
  pub data OfCalls {P I A : Type 0} (w : World P I A) (D : Demanded P I → Type 0)
      : List RunId → Journal → Journal → List RequestKey → List RequestResult → Journal →
      Type 0 where
    no_calls : {path : List RunId} {j a : Journal} → OfCalls w D path j a [] [] a
    one_call : {path : List RunId} {j a i k : Journal} {key : RequestKey} {keys : List RequestKey}
        {res : RequestResult} {results : List RequestResult} →
        D (requested key) → nat_lt (length path) deepest ≡ true →
        OfWalk w D path j [] (w.walks key j) res i → D (joined j a i) →
        OfCalls w D path j (merge a i) keys results k →
        OfCalls w D path j a (key ∷ keys) (res ∷ results) k

-- the meaning of the world gives this result and journal, and D holds of all that it contains
pub record OfMeaning {P I A : Type 0} (w : World P I A) (D : Demanded P I → Type 0)
    (result : RequestResult) (journal : Journal) : Type 0 where
  pub root : D (requested w.root)
  pub rest : OfWalk w D [] [] [] (w.walks w.root []) result journal

-- Q holds of each body, J of each join, and K of each request
abbrev pub said : {P I : Type 0} → (Q : P → RunId → Journal → Record → Type 0) →
    (J : Journal → Journal → Journal → Type 0) → (K : RequestKey → Type 0) → Demanded P I → Type 0
said Q J K (requested key) = K key
said Q J K (together keys) = Unit {0}
said Q J K (joined caller so_far next) = J caller so_far next
said Q J K (built site run from m tools) = Q site run from m

-- the meaning of the world gives this result and journal, and so of all that it contains
abbrev pub EachOfMeaning : {P I A : Type 0} → World P I A →
    (Q : P → RunId → Journal → Record → Type 0) → (J : Journal → Journal → Journal → Type 0) →
    (K : RequestKey → Type 0) → RequestResult → Journal → Type 0
EachOfMeaning w Q J K result journal = OfMeaning w (said Q J K) result journal

-- a body of the run was made with this record
abbrev pub Made : {P I : Type 0} → (Demanded P I → Type 0) → RunId → Record → Type 0
Made {P} {I} D r m =
    (site : P) × (from : Journal) × ((tools : List (ToolUse I)) × D (built site r from m tools))
