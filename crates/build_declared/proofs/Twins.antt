-- Parts of two runs that do the same step by step, where their journals are alike and all else is
-- the same.
use Rattle.std.proofs.Common.{◌≡◌, ℕ, List, [], ◌∷◌, Option, refl, ap, subst}
use Rattle.std.specs.Prelude.{Result, Ok, Err}
use Rattle.result_cache.specs.declared.request.RequestResult.{RequestResult}
use Rattle.result_cache.specs.Journal.{Journal}
use Rattle.build_world.specs.declared.fault.EvalFault.{EvalFault}
use Rattle.build_meaning.specs.Walk.{Outcome}
use Rattle.build_incremental.specs.Alike.{AlikeJournals}
use Rattle.build_incremental.specs.SideBySide.{AlikeBodies}
use Rattle.task_trait.specs.declared.tools.ToolAnswer.{ToolAnswer}
use Rattle.target_body.specs.Work.{
  Work,
  done,
  does,
  uses,
  calls,
  followed_by,
  unless_stopped,
  and_then,
  each_in_turn,
  body_of,
}
use Rattle.target_body.specs.States.{
  State,
  Stopped,
  faulted,
  failed,
  with_journal,
  settled,
  or_stop,
  outcome_of,
  Progress,
  stop_at,
}

module _ (files : List ℕ → Option (List ℕ)) (W : List ℕ → Type 0) where
  -- ---- works

  abbrev pub AlikeWork : {S T : Type 0} → (S → T → Type 0) → Work S → Work T → Type 0
  AlikeWork R (done x) (done y) = R x y
  AlikeWork R (does act go) (does other to) =
      (act ≡ other) × ((j k : Journal) → AlikeJournals files W j k → AlikeWork R (go j) (to k))
  AlikeWork R (uses name input go) (uses other given to) =
      (name ≡ other) × (input ≡ given) × ((answer : ToolAnswer) →
      AlikeWork R (go answer) (to answer))
  AlikeWork R (calls key keys go) (calls other others to) =
      (key ≡ other) × (keys ≡ others) × ((results : List RequestResult) (j k : Journal) →
      AlikeJournals files W j k → AlikeWork R (go results j) (to results k))
  AlikeWork R v u = ⊥

  pub bound : {S T X Y : Type 0} (R : S → T → Type 0) (Q : X → Y → Type 0) (v : Work S) (u : Work T)
      (next : S → Work X) (then : T → Work Y) → AlikeWork R v u →
      ((x : S) (y : T) → R x y → AlikeWork Q (next x) (then y)) →
      AlikeWork Q (followed_by v next) (followed_by u then)
  bound R Q (done x) (done y) next then h f = f x y h
  bound R Q (done x) (does act go) next then h f = absurd h
  bound R Q (done x) (uses name input go) next then h f = absurd h
  bound R Q (done x) (calls key keys go) next then h f = absurd h
  bound R Q (does act go) (does other to) next then h f =
      (h.0, λ j k a. bound R Q (go j) (to k) next then (h.1 j k a) f)
  bound R Q (does act go) (done y) next then h f = absurd h
  bound R Q (does act go) (uses name input to) next then h f = absurd h
  bound R Q (does act go) (calls key keys to) next then h f = absurd h
  bound R Q (uses name input go) (uses other given to) next then h f =
      (h.0, h.1, λ answer. bound R Q (go answer) (to answer) next then (h.2 answer) f)
  bound R Q (uses name input go) (done y) next then h f = absurd h
  bound R Q (uses name input go) (does act to) next then h f = absurd h
  bound R Q (uses name input go) (calls key keys to) next then h f = absurd h
  bound R Q (calls key keys go) (calls other others to) next then h f = (
    h.0,
    h.1,
    λ answers j k a. bound R Q (go answers j)
        (to answers k) next then (h.2 answers j k a) f,
  )
  bound R Q (calls key keys go) (done y) next then h f = absurd h
  bound R Q (calls key keys go) (does act to) next then h f = absurd h
  bound R Q (calls key keys go) (uses name input to) next then h f = absurd h

  pub bodies : (v u : Work Outcome) → AlikeWork (λ o p. o ≡ p) v u →
      AlikeBodies files W (body_of v) (body_of u)
  bodies (done x) (done y) h = h
  bodies (done x) (does act go) h = absurd h
  bodies (done x) (uses name input go) h = absurd h
  bodies (done x) (calls key keys go) h = absurd h
  bodies (does act go) (does other to) h = (h.0, λ j k a. bodies (go j) (to k) (h.1 j k a))
  bodies (does act go) (done y) h = absurd h
  bodies (does act go) (uses name input to) h = absurd h
  bodies (does act go) (calls key keys to) h = absurd h
  bodies (uses name input go) (uses other given to) h =
      (h.0, h.1, λ answer. bodies (go answer) (to answer) (h.2 answer))
  bodies (uses name input go) (done y) h = absurd h
  bodies (uses name input go) (does act to) h = absurd h
  bodies (uses name input go) (calls key keys to) h = absurd h
  bodies (calls key keys go) (calls other others to) h =
      (h.0, h.1, λ answers j k a. bodies (go answers j) (to answers k) (h.2 answers j k a))
  bodies (calls key keys go) (done y) h = absurd h
  bodies (calls key keys go) (does act to) h = absurd h
  bodies (calls key keys go) (uses name input to) h = absurd h

  -- ---- states

  -- they are the same, but for journals that are alike
  pub record Twin (s t : State) : Type 0 where
    pub alike : AlikeJournals files W s.journal t.journal
    pub same : with_journal t.journal s ≡ t

  pub twin : (s : State) (k : Journal) → AlikeJournals files W s.journal k →
      Twin s (with_journal k s)
  twin s k a = record { alike = a; same = refl }

  -- what holds of a state with another journal holds of its twins
  pub by-twin : (P : State → Type 0) (s t : State) → Twin s t →
      ((k : Journal) → AlikeJournals files W s.journal k → P (with_journal k s)) → P t
  by-twin P s t h f = subst P h.same (f t.journal h.alike)

  -- and so where a fault has stopped both
  pub record TwinFault (p q : Progress) : Type 0 where
    pub alike : AlikeJournals files W p.journal q.journal
    pub same : record p { journal = q.journal } ≡ q

  abbrev pub TwinStop : Stopped → Stopped → Type 0
  TwinStop (faulted p) (faulted q) = TwinFault p q
  TwinStop (failed s) (failed t) = Twin s t
  TwinStop (faulted p) (failed t) = ⊥
  TwinStop (failed s) (faulted q) = ⊥

  abbrev pub TwinResult : {X Y : Type 0} → (X → Y → Type 0) → Result X Stopped → Result Y Stopped →
      Type 0
  TwinResult R (Ok x) (Ok y) = R x y
  TwinResult R (Ok x) (Err e) = ⊥
  TwinResult R (Err d) (Ok y) = ⊥
  TwinResult R (Err d) (Err e) = TwinStop d e

  abbrev pub TwinEnd : Result State Stopped → Result State Stopped → Type 0
  TwinEnd = TwinResult Twin

  pub unless-twin : {X Y : Type 0} (R : X → Y → Type 0) (x : Result X Stopped)
      (y : Result Y Stopped) (next : X → Work (Result State Stopped)) (then : Y →
      Work (Result State Stopped)) → TwinResult R x y →
      ((a : X) (b : Y) → R a b → AlikeWork TwinEnd (next a) (then b)) →
      AlikeWork TwinEnd (unless_stopped x next) (unless_stopped y then)
  unless-twin R (Ok x) (Ok y) next then h f = f x y h
  unless-twin R (Ok x) (Err e) next then h f = absurd h
  unless-twin R (Err d) (Ok y) next then h f = absurd h
  unless-twin R (Err d) (Err e) next then h f = h

  pub then-twin : (v u : Work (Result State Stopped)) (next then : State →
      Work (Result State Stopped)) → AlikeWork TwinEnd v u →
      ((s t : State) → Twin s t → AlikeWork TwinEnd (next s) (then t)) →
      AlikeWork TwinEnd (and_then v next) (and_then u then)
  then-twin v u next then h f = bound TwinEnd TwinEnd v u (λ end. unless_stopped end next)
      (λ end. unless_stopped end then) h (λ x y e. unless-twin Twin x y next then e f)

  pub each-twin : {X : Type 0} (part other : X → State → Work (Result State Stopped)) →
      ((x : X) (s t : State) → Twin s t → AlikeWork TwinEnd (part x s) (other x t)) →
      (xs : List X) (s t : State) → Twin s t →
      AlikeWork TwinEnd (each_in_turn part xs s) (each_in_turn other xs t)
  each-twin part other f [] s t h = h
  each-twin part other f (x ∷ xs) s t h = then-twin (part x s) (other x t) (each_in_turn part xs)
      (each_in_turn other xs) (f x s t h) (each-twin part other f xs)

  pub or-stop-twin : {X : Type 0} (x : Result X EvalFault) (s t : State) → Twin s t →
      TwinResult (λ (a b : X). a ≡ b) (or_stop s x) (or_stop t x)
  or-stop-twin (Ok x) s t h = refl
  or-stop-twin (Err fault) s t h = by-twin (λ z. TwinStop (stop_at fault s) (stop_at fault z)) s t h
      (λ k a. record { alike = a; same = refl })

  -- a child is over
  pub settled-twin : (s t : State) → Twin s t → Twin (settled s) (settled t)
  settled-twin s t h = by-twin (λ z. Twin (settled s) (settled z)) s t h (λ k a. record {
    alike = a;
    same = refl;
  })

  pub outcome-twin : (x y : Result State Stopped) → TwinEnd x y → outcome_of x ≡ outcome_of y
  outcome-twin (Ok s) (Ok t) h = ap (λ z. outcome_of (Ok z)) h.same
  outcome-twin (Ok s) (Err e) h = absurd h
  outcome-twin (Err d) (Ok t) h = absurd h
  outcome-twin (Err (faulted p)) (Err (faulted q)) h = ap (λ z. outcome_of (Err (faulted z))) h.same
  outcome-twin (Err (failed s)) (Err (failed t)) h = ap (λ z. outcome_of (Err (failed z))) h.same
  outcome-twin (Err (faulted p)) (Err (failed t)) h = absurd h
  outcome-twin (Err (failed s)) (Err (faulted q)) h = absurd h
