-- What has a derivation is what the recursion by depth gives, and what is said of the derivation's
-- bodies and requests is true of all that the meaning contains and of all that its journal has.
use Rattle.std.proofs.Common.{◌≡◌, List, [], ◌∷◌, Some}
use Rattle.result_cache.specs.declared.run.RunId.{RunId}
use Rattle.result_cache.specs.declared.request.RequestKey.{RequestKey}
use Rattle.result_cache.specs.declared.request.RequestResult.{RequestResult}
use Rattle.result_cache.specs.declared.record.Record.{Record}
use Rattle.result_cache.specs.Lists.{In}
use Rattle.result_cache.specs.Journal.{Journal, ended, add}
use Rattle.build_meaning.specs.World.{World}
use Rattle.build_meaning.specs.Walk.{Walk, gives, wants, Body}
use Rattle.build_meaning.specs.SoFar.{ToolUse, SoFar, nothing_yet}
use Rattle.build_meaning.specs.Meaning.{
  Demanded,
  requested,
  together,
  joined,
  built,
  Given,
  meaning,
}
use Rattle.build_meaning.specs.Derived.{
  said,
  OfWalk,
  over,
  used,
  made,
  OfBody,
  ended_so,
  acted_one,
  used_tool,
  called_all,
  OfCalls,
  no_calls,
  one_call,
  OfMeaning,
  EachOfMeaning,
}
use Rattle.build_meaning.proofs.Derivations.{journal-made}
use Rattle.build_meaning.proofs.DerivedMeaning as derived

-- B is said of each body that a request may want, by its site and the journal then
abbrev pub Tells : {P I A : Type 0} → (P → RunId → Journal → Body I A → Type 0) →
    Walk P I A → Journal → Type 0
Tells B (gives reply) j = Unit {0}
Tells B (wants p r b go) j =
    B p r j b × ((m : Record) (k : Journal) → Tells B (go m k) k)

-- T is true of each body that is made
module _ {P I A : Type 0} (w : World P I A) (Q : P → RunId → Journal → Record → Type 0)
    (J : Journal → Journal → Journal → Type 0) (K : RequestKey → Type 0)
    (B : P → RunId → Journal → Body I A → Type 0)
    (tells : (key : RequestKey) (j : Journal) → Tells B (w.walks key j) j)
    (T : RunId → Record → List (ToolUse I) → Type 0)
    (told : (p : P) (path : List RunId) (r : RunId) (j i : Journal) (b : Body I A) (m : Record)
    (tools : List (ToolUse I)) → B p r j b → Q p r j m →
    OfBody w (said Q J K) (r ∷ path) r j nothing_yet b m tools i → T r m tools) where
  abbrev pub Told : Demanded P I → Type 0
  Told (requested key) = K key
  Told (together keys) = Unit {0}
  Told (joined caller so_far next) = J caller so_far next
  Told (built site run from m tools) = T run m tools

  mutual
    pub walk-told : {path : List RunId} {j : Journal} {runs : List RunId} {x : Walk P I A}
        {res : RequestResult} {k : Journal} → OfWalk w (said Q J K) path j runs x res k →
        Tells B x j → OfWalk w Told path j runs x res k
    walk-told over says = over
    walk-told (used {j = j} m e rest) says = used m e (walk-told rest (says.1 m j))
    walk-told (made {path = path} {j = j} {i = i} {p = p} {r = r} {b = b} {m = m} {tools = tools}
        out new of q rest) says =
        made out new (body-told of) (told p path r j i b m tools says.0 q of)
        (walk-told rest (says.1 m (add i (ended r m))))

    pub body-told : {path : List RunId} {r : RunId} {j : Journal} {so_far : SoFar I}
        {b : Body I A} {m : Record} {tools : List (ToolUse I)} {k : Journal} →
        OfBody w (said Q J K) path r j so_far b m tools k →
        OfBody w Told path r j so_far b m tools k
    body-told ended_so = ended_so
    body-told (acted_one rest) = acted_one (body-told rest)
    body-told (used_tool rest) = used_tool (body-told rest)
    body-told (called_all t asked rest) = called_all tt (calls-told asked) (body-told rest)

    pub calls-told : {path : List RunId} {j a : Journal} {keys : List RequestKey}
        {results : List RequestResult} {k : Journal} →
        OfCalls w (said Q J K) path j a keys results k → OfCalls w Told path j a keys results k
    calls-told no_calls = no_calls
    calls-told (one_call {j = j} {key = key} known less x so rest) =
        one_call known less (walk-told x (tells key j)) so (calls-told rest)

  all-told : (result : RequestResult) (journal : Journal) →
      EachOfMeaning w Q J K result journal → OfMeaning w Told result journal
  all-told result journal each =
      record { root = each.root; rest = walk-told each.rest (tells w.root []) }

  -- a derivation is the meaning, which contains no more than is told
  pub told-meaning : (result : RequestResult) (journal : Journal) →
      EachOfMeaning w Q J K result journal →
      (out : Given P I RequestResult) × (meaning w ≡ Some out) × (out.value ≡ result)
      × (out.journal ≡ journal) × ((e : Demanded P I) → In e out.demand → Told e)
  told-meaning result journal each =
      derived.told w Told result journal (all-told result journal each)

  abbrev pub WasMade : RunId → Record → Type 0
  WasMade r m = (tools : List (ToolUse I)) × T r m tools

  -- each record of the last journal was made
  pub told-journal : (result : RequestResult) (journal : Journal) →
      EachOfMeaning w Q J K result journal → (run : RunId) (m : Record) →
      In (ended run m) journal → WasMade run m
  told-journal result journal each run m u =
      (journal-made w Told result journal (all-told result journal each) run m u).2

-- a derivation is the meaning, which contains no more than is said
pub each-meaning : {P I A : Type 0} (w : World P I A)
    (Q : P → RunId → Journal → Record → Type 0) (J : Journal → Journal → Journal → Type 0)
    (K : RequestKey → Type 0) (result : RequestResult) (journal : Journal) →
    EachOfMeaning w Q J K result journal →
    (out : Given P I RequestResult) × (meaning w ≡ Some out) × (out.value ≡ result)
    × (out.journal ≡ journal) × ((e : Demanded P I) → In e out.demand → said Q J K e)
each-meaning w Q J K result journal each = derived.told w (said Q J K) result journal each
