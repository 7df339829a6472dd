-- The body of a run stops where its parts have come, whatever tools it used before.
use Rattle.std.proofs.Common.{
  ◌≡◌,
  ◌∙◌,
  ℕ,
  List,
  [],
  ◌∷◌,
  ◌++◌,
  map,
  ap,
  refl,
  subst,
  sym,
  append_assoc,
}
use Rattle.std.proofs.lemmas.List.{append-nil, map-append}
use Rattle.result_cache.specs.Journal.{Journal}
use Rattle.result_cache.specs.declared.record.Segment.{Segment}
use Rattle.result_cache.specs.declared.run.RunId.{RunId}
use Rattle.build_meaning.specs.SoFar.{SoFar, ToolUse, recorded}
use Rattle.build_meaning.specs.Stop.{Stop, Stopped, ends, asks, run_on}
use Rattle.build_meaning.specs.Walk.{Outcome}
use Rattle.task_trait.specs.declared.tools.ToolAnswer.{ToolAnswer}
use Rattle.task_trait.specs.declared.tools.ToolInput.{ToolInput}
use Rattle.target_body.specs.Work.{Work, done, does, uses, calls, body_of}
use Rattle.target_body.specs.Played.{
  Player,
  Done,
  Reached,
  over,
  waits,
  with_act,
  with_tool,
  played,
}
use Rattle.target_body.specs.Moments.{player}
use Rattle.target_body.specs.Standings.{Advances, Standing, over as is_over, waits_if, tool_use}
use Rattle.target_body.specs.declared.body.BodyAsk.{BodyAsk}
use Rattle.target_body.specs.declared.body.BodyAsk.TheVariants.{Call, Finished}

abbrev Tools : Type 0
Tools = List ℕ → ToolInput → ToolAnswer

abbrev Calls : Type 0
Calls = List (List ℕ × ToolInput)

-- tools that were used before
abbrev front : Calls → Done → Done
front tools d = record { segments = d.segments; tools = tools ++ d.tools; journal = d.journal }

abbrev fronted : {R : Type 0} → Calls → Reached R → Reached R
fronted tools (over end d) = over end (front tools d)
fronted tools (waits keys go d) = waits keys go (front tools d)

abbrev done_of : {R : Type 0} → Reached R → Done
done_of (over end d) = d
done_of (waits keys go d) = d

with_tools : Done → Calls → Done
with_tools d tools = record { segments = d.segments; tools = tools; journal = d.journal }

played_behind : {R : Type 0} (p : Player) (w : Work R) (tools : Calls) (d : Done)
    → played p w (front tools d) ≡ fronted tools (played p w d)
played_behind p (done end) tools d = refl
played_behind p (does act go) tools d = let next : Done = with_act p.run act d in played_behind p
    (go next.journal) tools next
played_behind p (uses name input go) tools d =
    let next : Done = with_tool name input d in
    let same : (tools ++ d.tools) ++ (name, input) ∷ []
    ≡ tools ++ (d.tools ++ (name, input) ∷ []) = append_assoc tools d.tools ((name, input) ∷ [])
    in
    ap
    (λ (t : Calls). played p (go (p.tools name input))
    (record { segments = d.segments; tools = t; journal = d.journal })) same
    ∙ played_behind p (go (p.tools name input)) tools next
played_behind p (calls key keys go) tools d = refl

abbrev so_far_at : List (ToolUse ToolInput) → Done → SoFar ToolInput
so_far_at used d = record { segments = d.segments; tools = used ++ map tool_use d.tools }

-- where the body stops when its parts have come so far
abbrev StopsBy : List (ToolUse ToolInput) → Calls → Reached Outcome → Stopped ToolInput ToolAnswer
    → Type 0
StopsBy used more (over outcome d) s =
    s
    ≡ record {
      stop = ends outcome;
      journal = d.journal;
      so_far = record
          { segments = d.segments; tools = used ++ map tool_use more };
    }
StopsBy used more (waits [] go d) s = ⊥
StopsBy used more (waits (key ∷ keys) go d) s =
    s
    ≡ record {
      stop = asks key keys (λ results journal. body_of (go results journal));
      journal =
          d.journal;
      so_far = record { segments = d.segments; tools = used ++ map tool_use more };
    }

stops_at : (answer : Tools) (run : RunId) (used : List (ToolUse ToolInput)) (w : Work Outcome)
    (d : Done)
    → StopsBy used (done_of (played (player run answer) w d)).tools (played (player run answer) w d)
    (run_on answer run (body_of w) d.journal (so_far_at used d))
stops_at answer run used (done outcome) d = refl
stops_at answer run used (does act go) d = let next : Done = with_act run act d in stops_at answer
    run used (go next.journal) next
stops_at answer run used (uses name input go) d =
    let next : Done = with_tool name input d in
    let reached : Reached Outcome = played (player run answer) (go (answer name input)) next in
    let same : used ++ map tool_use next.tools
    ≡ (used ++ map tool_use d.tools) ++ tool_use (name, input) ∷ [] =
    ap (λ (t : List (ToolUse ToolInput)). used ++ t)
    (map-append tool_use d.tools ((name, input) ∷ []))
    ∙ sym (append_assoc used (map tool_use d.tools) (tool_use (name, input) ∷ [])) in
    let P : List (ToolUse ToolInput) → Type 0 =
    λ t. StopsBy used (done_of reached).tools reached
    (run_on answer run (body_of (go (answer name input))) d.journal
    (record { segments = d.segments; tools = t })) in
    subst P same (stops_at answer run used (go (answer name input)) next)
stops_at answer run used (calls key keys go) d = refl

-- behind tools that were used before
abbrev Ran : Calls → Reached Outcome → (List (ToolUse ToolInput) → Stopped ToolInput ToolAnswer)
    → Type 0
Ran before r stopped = (more : Calls) × ((done_of r).tools ≡ before ++ more)
    × ((used : List (ToolUse ToolInput)) → StopsBy used more r (stopped used))

ran_front : (before : Calls) (r : Reached Outcome)
    (stopped : List (ToolUse ToolInput) → Stopped ToolInput ToolAnswer)
    → ((used : List (ToolUse ToolInput)) → StopsBy used (done_of r).tools r (stopped used))
    → Ran before (fronted before r) stopped
ran_front before (over outcome d) stopped h = (d.tools, refl, h)
ran_front before (waits [] go d) stopped h = absurd (h [])
ran_front before (waits (key ∷ keys) go d) stopped h = (d.tools, refl, h)

module _ (answer : Tools) (run : RunId) (w : Work Outcome) (segments : List Segment)
    (journal : Journal) (before : Calls) where
  abbrev at_first : Done
  at_first = record { segments = segments; tools = []; journal = journal }

  abbrev stopped_by : List (ToolUse ToolInput) → Stopped ToolInput ToolAnswer
  stopped_by used = run_on answer run (body_of w) journal
      (record { segments = segments; tools = used })

  alone : (used : List (ToolUse ToolInput))
      → StopsBy used (done_of (played (player run answer) w at_first)).tools
      (played (player run answer) w at_first) (stopped_by used)
  alone used =
      let reached : Reached Outcome = played (player run answer) w at_first in
      let P : List (ToolUse ToolInput) → Type 0 = λ t.
      StopsBy used (done_of reached).tools reached
      (run_on answer run (body_of w) journal (record { segments = segments; tools = t })) in
      subst P (append-nil used) (stops_at answer run used w at_first)

  ran : (r : Reached Outcome)
      → played (player run answer) w
      (record { segments = segments; tools = before; journal = journal }) ≡ r
      → Ran before r stopped_by
  ran r is =
      let first : Reached Outcome = played (player run answer) w at_first in
      let same : fronted before first ≡ r =
      sym (played_behind (player run answer) w before at_first)
      ∙ ap
      (λ (t : Calls). played (player run answer) w
      (record { segments = segments; tools = t; journal = journal })) (append-nil before)
      ∙ is in
      subst (λ (r : Reached Outcome). Ran before r stopped_by) same
      (ran_front before first stopped_by alone)

-- what the machine tells when its parts have come so far
abbrev pub Told : Reached Outcome → Journal → Calls → BodyAsk → Standing → Type 0
Told (over outcome d) after tools ask now = (d.journal ≡ after) × (d.tools ≡ tools)
    × (ask ≡ Finished (recorded outcome d.segments)) × (now ≡ is_over)
Told (waits keys go d) after tools ask now =
    (d.journal ≡ after) × (d.tools ≡ tools) × (ask ≡ Call keys)
    × (now ≡ waits_if keys d.segments (λ results journal. body_of (go results journal)))

advanced : (answer : Tools) (run : RunId) (w : Work Outcome) (segments : List Segment)
    (journal after : Journal) (before tools : Calls) (r : Reached Outcome) (ask : BodyAsk)
    (now : Standing)
    → Ran before r (stopped_by answer run w segments journal before) → Told r after tools ask now
    → Advances answer run (body_of w) segments journal after before tools ask now
advanced answer run w segments journal after before tools (over outcome d) ask now
    (more, are, stops) (same, used_so, told, stands) =
    record {
      uses = more;
      calls = sym used_so ∙ are;
      stop = ends outcome;
      written = d.segments;
      told = (told, stands);
      stops = λ used. stops used
          ∙ ap
          (λ (j : Journal).
          record {
            stop = ends outcome;
            journal = j;
            so_far = record
                { segments = d.segments; tools = used ++ map tool_use more };
          }) same;
    }
advanced answer run w segments journal after before tools (waits [] go d) ask now (more, are, stops)
    told = absurd (stops [])
advanced answer run w segments journal after before tools (waits (key ∷ keys) go d) ask now
    (more, are, stops) (same, used_so, told, stands) =
    let stop : Stop ToolInput ToolAnswer = asks key keys
    (λ results journal. body_of (go results journal)) in
    record {
      uses = more;
      calls = sym used_so ∙ are;
      stop = stop;
      written = d.segments;
      told = (told, stands);
      stops = λ used. stops used
          ∙ ap
          (λ (j : Journal).
          record {
            stop = stop;
            journal = j;
            so_far = record
                { segments = d.segments; tools = used ++ map tool_use more };
          }) same;
    }

pub advances : (answer : Tools) (run : RunId) (w : Work Outcome) (segments : List Segment)
    (journal after : Journal) (before tools : Calls) (r : Reached Outcome) (ask : BodyAsk)
    (now : Standing)
    → played (player run answer) w
    (record { segments = segments; tools = before; journal = journal }) ≡ r
    → Told r after tools ask now
    → Advances answer run (body_of w) segments journal after before tools ask now
advances answer run w segments journal after before tools r ask now is told =
    advanced answer run w segments journal after before tools r ask now
    (ran answer run w segments journal before r is) told
