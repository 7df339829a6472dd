-- The walks of one project in two modes go alike, where the bodies of its runs do.
use Rattle.std.proofs.Common.{
  ◌≡◌,
  ℕ,
  Bool,
  true,
  false,
  List,
  [],
  ◌∷◌,
  ◌++◌,
  Option,
  None,
  Some,
  refl,
  ap,
  sym,
  ◌∙◌,
  subst,
}
use Rattle.std.specs.Prelude.{Result, Ok, Err, codes}
use Rattle.std.specs.List.{flat_map}
use Rattle.std.specs.Str.{bytes_eq}
use Rattle.msb_laws.specs.Asking.{Asking, gives as ends, asks}
use Rattle.msb_laws.specs.Results.{and_then, map_ok, all_ok}
use Rattle.msb_values.specs.declared.scope.Scope.{Scope}
use Rattle.msb_elements.specs.Nodes.{name_of}
use Rattle.target_order.specs.Visit.{Question, condition, depends, body, End}
use Rattle.target_order.specs.declared.asks.OrderAnswer.{OrderAnswer}
use Rattle.target_order.specs.declared.asks.OrderAnswer.TheVariants.{Truth, Failed}
use Rattle.build_world.specs.Elements.{At, children_of}
use Rattle.build_world.specs.Instances.{UsedTarget}
use Rattle.build_world.specs.declared.fault.EvalFault.{EvalFault}
use Rattle.element_texts.specs.Contexts.{item_context, element_holds}
use Rattle.msb_values.specs.Changes.{all_applied}
use Rattle.result_cache.specs.Journal.{Journal}
use Rattle.result_cache.specs.declared.run.RunId.{RunId}
use Rattle.result_cache.specs.declared.record.Record.{Record}
use Rattle.result_cache.specs.declared.request.RequestKey.{RequestKey}
use Rattle.build_meaning.specs.Walk.{Walk, Body}
use Rattle.build_incremental.specs.Alike.{AlikeRecords, AlikeJournals}
use Rattle.build_incremental.specs.SideBySide.{HasNotActed, AlikeRuns, AlikeWalks}
use Rattle.task_trait.specs.declared.tools.ToolAnswer.{ToolAnswer}
use Rattle.task_trait.specs.declared.tools.ToolInput.{ToolInput}
use Rattle.request_machine.specs.Requests.{
  Project,
  context_at,
  errors_at,
  errors_by,
  errors_if,
  holds_of,
  on_error,
  target_at,
}
use Rattle.request_machine.specs.Walk.{
  RequestScope,
  run_of,
  run_answer,
  condition_answer,
  depends_answer,
  after_run,
  Site,
  or_failed,
  walk,
}
use Rattle.build_declared.specs.Written.{bytes_in}
use Rattle.build_declared.proofs.Looks.{looks-same}

-- functions that are equal everywhere
ext : {X Y : Type 0} (f g : X → Y) → ((x : X) → f x ≡ g x) → f ≡ g
ext f g h = λ i. λ x. h x i

module _ (p : Project) (key : RequestKey) (W : List ℕ → Type 0) (Q' Q : Site → RunId → Journal →
    Record → Type 0) (tools : List ℕ → ToolInput → ToolAnswer)
    (first second : List ℕ → Scope → Journal → Body ToolInput ToolAnswer)
    (runs : (name : List ℕ) (scope : Scope) (j k : Journal) →
    AlikeJournals (bytes_in p.files) W j k → (made : Record) →
    Q (record { target = target_at p name; scope = scope }) (run_of p.key name) k made →
    HasNotActed (run_of p.key name) j → HasNotActed (run_of p.key name) k →
    AlikeRuns (bytes_in p.files) W tools (run_of p.key name) j k (first name scope j)
    (second name scope k) made (Q' (record { target = target_at p name; scope = scope })
    (run_of p.key name) j)) where
  abbrev Alike : Journal → Journal → Type 0
  Alike j k = AlikeJournals (bytes_in p.files) W j k

  abbrev Goes : Walk Site ToolInput ToolAnswer → Walk Site ToolInput ToolAnswer → Journal →
      Journal → Type 0
  Goes x y j k = AlikeWalks (bytes_in p.files) W Q' Q tools x y j k

  context-same : (scope : Scope) (j k : Journal) → Alike j k →
      context_at p scope j ≡ context_at p scope k
  context-same scope j k a = ap (λ ps. item_context ps p.key.path scope)
      ((looks-same p.files W).paths j k a)

  holds-same : (scope : Scope) (j k : Journal) → Alike j k → (t : Option UsedTarget) →
      holds_of p scope j t ≡ holds_of p scope k t
  holds-same scope j k a None = refl
  holds-same scope j k a (Some target) = ap (λ q. element_holds q target.element)
      (context-same scope j k a)

  errors-same : (scope : Scope) (j k : Journal) → Alike j k → (b : Bool) (e : At) →
      errors_by b p scope j e ≡ errors_by b p scope k e
  errors-same scope j k a true e = ap (λ q. and_then (element_holds q e)
      (λ holds. errors_if holds p scope e)) (context-same scope j k a)
  errors-same scope j k a false e = refl

  on-error-same : (scope : Scope) (j k : Journal) → Alike j k → (t : Option UsedTarget) →
      on_error p scope j t ≡ on_error p scope k t
  on-error-same scope j k a None = refl
  on-error-same scope j k a (Some target) =
      ap (λ f. map_ok (flat_map (λ names. names)) (all_ok f (children_of target.element)))
      (ext (errors_at p scope j) (errors_at p scope k)
      (λ e. errors-same scope j k a (bytes_eq (name_of e.node) (codes "OnError")) e))

  answer-same : (ok : Bool) (s : RequestScope) (j k : Journal) → Alike j k → (name : List ℕ) →
      run_answer p ok s j name ≡ run_answer p ok s k name
  answer-same true s j k a name = refl
  answer-same false s j k a name = ap (map_ok Failed)
      (on-error-same s.scope j k a (target_at p name))

  or-goes : {X : Type 0} (x y : Result X EvalFault) (go to : X → Walk Site ToolInput ToolAnswer)
      (j k : Journal) → x ≡ y → ((z : X) → Goes (go z) (to z) j k) →
      Goes (or_failed x go) (or_failed y to) j k
  or-goes x y go to j k e f =
      subst (λ z. Goes (or_failed x go) (or_failed z to) j k) e (same x)
    where
      same : (z : Result _ EvalFault) → Goes (or_failed z go) (or_failed z to) j k
      same (Ok z) = f z
      same (Err fault) = refl

  standing-same : (s : RequestScope) (name : List ℕ) (m n : Record) → AlikeRecords m n →
      after_run s name m ≡ after_run s name n
  standing-same s name m n r =
      ap (λ c. record {
        scope = all_applied c s.scope;
        returned =
            s.returned ++ record { target = name; items = m.items } ∷ [];
      }) r.changes
      ∙ ap (λ i. record {
        scope = all_applied n.changes s.scope;
        returned =
            s.returned ++ record { target = name; items = i } ∷ [];
      }) r.items

  pub walks-go : (tree : Asking Question OrderAnswer End) (s : RequestScope) (j k : Journal) →
      Alike j k → Goes (walk p key first tree s j)
      (walk p key second tree s k) j k
  walks-go (ends end) s j k a = refl
  walks-go (asks (condition name) go) s j k a =
      or-goes (condition_answer p s j name) (condition_answer p s k name)
      (λ answer. walk p key first (go answer) s j)
      (λ answer. walk p key second (go answer) s k) j k
      (ap (map_ok Truth) (holds-same s.scope j k a (target_at p name)))
      (λ answer. walks-go (go answer) s j k a)
  walks-go (asks (depends name) go) s j k a =
      or-goes (depends_answer p s name) (depends_answer p s name)
      (λ answer. walk p key first (go answer) s j)
      (λ answer. walk p key second (go answer) s k) j k
      refl (λ answer. walks-go (go answer) s j k a)
  walks-go (asks (body name) go) s j k a = (
    refl,
    runs name s.scope j k a,
    λ m n i l r b.
        let then : RequestScope = after_run s name n in
        subst (λ z. Goes (or_failed (run_answer p m.ok z i name)
        (λ answer. walk p key first (go answer) z i))
        (or_failed (run_answer p n.ok then l name)
        (λ answer. walk p key second (go answer) then l)) i l)
        (sym (standing-same s name m n r))
        (or-goes (run_answer p m.ok then i name) (run_answer p n.ok then l name)
        (λ answer. walk p key first (go answer) then i)
        (λ answer. walk p key second (go answer) then l) i l
        (answer-same m.ok then i l b name ∙ ap (λ ok. run_answer p ok then l name) r.ok)
        (λ answer. walks-go (go answer) then i l b)),
  )
