-- One step of the machine after another.
use Rattle.std.proofs.Common.{
  ◌≡◌,
  ◌∙◌,
  ap,
  List,
  [],
  ◌∷◌,
  ◌++◌,
  sym,
  append_assoc,
  Result,
  Ok,
  Err,
  IfOk,
}
use Rattle.std.proofs.lemmas.List.{append-nil}
use Rattle.task_trait.specs.Tools.{BeginsWith}
use Rattle.target_body.specs.Work.{Work, followed_by, unless_stopped, each_in_turn}
use Rattle.target_body.specs.States.{State, Stopped}
use Rattle.target_body.specs.Played.{Player, Done, Reached, over, played, reached_then}
use Rattle.target_body.specs.Moments.{
  Moment,
  Frames,
  Plays,
  Continues,
  reached_by,
  state_at,
  done_at,
}
use Rattle.target_body.specs.declared.steps.Step.{Step}
use Rattle.target_body.proofs.Playing.{played_on, follow_on}

pub begins_here : {X : Type 0} (xs : List X) → BeginsWith xs xs
begins_here xs = ([], sym (append-nil xs))

pub begins_on : {X : Type 0} (xs ys zs : List X) → BeginsWith xs ys → BeginsWith ys zs
    → BeginsWith xs zs
begins_on xs ys zs a b = (a.0 ++ b.0, b.1 ∙ ap (λ l. l ++ b.0) a.1 ∙ append_assoc xs a.0 b.0)

-- what follows on a part that has come so far
pub plays_then : {R S : Type 0} (p : Player) (w : Work R) (next : R → Work S) (d : Done)
    (r : Reached R) → played p w d ≡ r → played p (followed_by w next) d ≡ reached_then p r next
plays_then p w next d r is = played_on p w next d ∙ ap (λ r. reached_then p r next) is

-- a part, and a part that goes on behind it
pub joined : {E F : Type 0} (from : Frames E) (frames : Frames F) (p : Player)
    (part : State → Work (Result State Stopped))
    (next : Result State Stopped → Work (Result State Stopped))
    (m m1 m2 : Moment) (step : Step E) (step_then : Step F) → Plays from p part m step m1
    → Continues from frames p next step m1 step_then m2
    → played p (followed_by (part (state_at m)) next) (done_at m) ≡ reached_by frames step_then m2
joined from frames p part next m m1 m2 step step_then plays goes = plays_then p (part (state_at m))
    next (done_at m) (reached_by from step m1) plays ∙ goes

-- a part that is put together of two others
pub regrouped : {R S T : Type 0} (p : Player) (w : Work R) (f : R → Work S) (g : S → Work T)
    (d : Done)
    → played p (followed_by (followed_by w f) g) d
    ≡ played p (followed_by w (λ end. followed_by (f end) g)) d
regrouped p w f g d = ap (λ work. played p work d) (follow_on w f g)

-- a part by another name
pub all_as : {E F : Type 0} (frames : Frames F) (p : Player)
    (part other : State → Work (Result State Stopped)) (before after : Moment)
    (r : Result (Step F) E) → other (state_at before) ≡ part (state_at before)
    → IfOk r (λ step. Plays frames p part before step after)
    → IfOk r (λ step. Plays frames p other before step after)
all_as frames p part other before after (Ok step) same plays = ap
    (λ (w : Work (Result State Stopped)). played p w (done_at before)) same ∙ plays
all_as frames p part other before after (Err error) same plays = plays

-- the next of several parts
pub in_turn : {X F : Type 0} (frames : Frames F) (p : Player)
    (part : X → State → Work (Result State Stopped)) (x : X) (xs all : List X) (m m1 : Moment)
    (step : Step F)
    → all ≡ x ∷ xs → Plays frames p (part x) m step m1
    → played p (each_in_turn part all (state_at m)) (done_at m)
    ≡ reached_then p (reached_by frames step m1)
    (λ end. unless_stopped end (each_in_turn part xs))
in_turn {X} frames p part x xs all m m1 step is plays =
    ap (λ (l : List X). played p (each_in_turn part l (state_at m)) (done_at m)) is
    ∙ plays_then p (part x (state_at m)) (λ end. unless_stopped end (each_in_turn part xs))
    (done_at m) (reached_by frames step m1) plays

-- and one part alone, of which nothing is left
pub none_left : {X : Type 0} (p : Player) (part : X → State → Work (Result State Stopped))
    (all : List X) (m : Moment) → all ≡ []
    → played p (each_in_turn part all (state_at m)) (done_at m) ≡ over (Ok (state_at m)) (done_at m)
none_left {X} p part all m is = ap
    (λ (l : List X). played p (each_in_turn part l (state_at m)) (done_at m)) is

pub all_joined : {A E F : Type 0} (from : Frames A) (frames : Frames F) (p : Player)
    (part : State → Work (Result State Stopped))
    (next : Result State Stopped → Work (Result State Stopped))
    (m m1 m2 : Moment) (step : Step A) (r : Result (Step F) E) → Plays from p part m step m1
    → IfOk r (λ step_then. Continues from frames p next step m1 step_then m2)
    → IfOk r (λ step_then. Plays frames p (λ s. followed_by (part s) next) m step_then m2)
all_joined from frames p part next m m1 m2 step (Ok step_then) plays goes = joined from frames p
    part next m m1 m2 step step_then plays goes
all_joined from frames p part next m m1 m2 step (Err error) plays goes = goes
