-- A bucket that is skipped, or has nothing to do, is over at once: it writes nothing, uses no tool
-- and calls nothing, and its record has one word more.
use Rattle.std.proofs.Common.{◌≡◌, ℕ, List, [], ◌∷◌, ◌++◌, Option, None, Some, refl, ap, ◌∙◌}
use Rattle.std.specs.Prelude.{Result, Ok, Err}
use Rattle.msb_laws.specs.Results.{map_ok}
use Rattle.msb_values.specs.declared.change.Change.{Change}
use Rattle.msb_values.specs.declared.item.Item.{Item}
use Rattle.msb_values.specs.declared.scope.Scope.{Scope}
use Rattle.msb_elements.specs.Nodes.{name_of}
use Rattle.msb_expand.specs.declared.lens.Bucket.{Bucket}
use Rattle.result_cache.specs.declared.record.Decision.{Decision}
use Rattle.result_cache.specs.declared.record.Decision.TheVariants.{UpToDate, NothingToDo, Failed}
use Rattle.build_world.specs.Elements.{At, children_of}
use Rattle.build_world.specs.declared.fault.EvalFault.{EvalFault}
use Rattle.msb_items.specs.TargetGroups.{group_changes}
use Rattle.target_incremental.specs.declared.decision.Choice.TheVariants.{Skip, Nothing}
use Rattle.target_texts.specs.Inferred.{inferred_at}
use Rattle.target_texts.specs.Lists.{Lists}
use Rattle.target_texts.specs.Made.{Made}
use Rattle.target_texts.specs.Returned.{returns_of}
use Rattle.build_declared.proofs.PartEnds.{progress_in}
use Rattle.target_body.specs.Work.{Work, done, followed_by, unless_stopped, each_in_turn}
use Rattle.target_body.specs.States.{
  Run,
  State,
  Stopped,
  faulted,
  failed,
  entered,
  with_items,
  with_decision,
  with_changes,
  after_group,
  stop_at,
  settled,
  or_stop,
  stopped_by,
  taken,
  context_in,
  progress_at,
}
use Rattle.target_body.specs.Tasks.{inferred}
use Rattle.target_body.specs.Children.{
  group,
  Kind,
  group_element,
  on_error_element,
  task_element,
  kind_of,
  child_by,
  child,
  children,
}
use Rattle.target_body.specs.Returned.{items_if, returned}
use Rattle.target_body.specs.Pieces.{
  lists_at,
  decided,
  word_of,
  or_failed,
  Chooser,
  chosen_or_run,
  bucket_by,
}

-- ---- words

taken-words : (m : Made) (s : State) → (progress_in (taken m s)).decisions ≡ s.decisions
taken-words m s = go m.fault
  where
    go : (fault : Option EvalFault) →
        (progress_in (stopped_by fault (with_changes m.changes s))).decisions ≡ s.decisions
    go None = refl
    go (Some fault) = refl

settled-words : (r : Result State Stopped) →
    (progress_in (map_ok settled r)).decisions ≡ (progress_in r).decisions
settled-words (Ok t) = refl
settled-words (Err d) = refl

group-words : (run : Run) (e : At) (s : State) →
    (progress_in (group run e s)).decisions ≡ s.decisions
group-words run e s = go (group_changes (context_in run s s.scope) e)
  where
    go : (x : Result (List Change) EvalFault) →
        (progress_in (map_ok (λ changes. after_group changes s) (or_stop s x))).decisions
        ≡ s.decisions
    go (Ok changes) = refl
    go (Err fault) = refl

-- ---- children

-- a part that is over at once, and says no word of a bucket
record Still (s : State) (v : Work (Result State Stopped)) : Type 0 where
  end : Result State Stopped
  at_once : v ≡ done end
  words : (progress_in end).decisions ≡ s.decisions

-- what a bucket comes to behind some words, where this is the word for it
abbrev EndsSo : Decision → List Decision → Result State Stopped → Type 0
EndsSo word before (Ok t) = t.decisions ≡ before ++ word ∷ []
EndsSo word before (Err d) = (progress_at d).decisions ≡ before

-- and with the word of a bucket in which the run has stopped
abbrev pub EndsBy : Decision → List Decision → Result State Stopped → Type 0
EndsBy word before (Ok t) = t.decisions ≡ before ++ word ∷ []
EndsBy word before (Err d) = (progress_at d).decisions ≡ before ++ Failed ∷ []

failed-by : (word : Decision) (before : List Decision) (r : Result State Stopped) →
    EndsSo word before r → EndsBy word before (or_failed r)
failed-by word before (Ok t) h = h
failed-by word before (Err (faulted d)) h = ap (λ l. l ++ Failed ∷ []) h
failed-by word before (Err (failed d)) h = ap (λ l. l ++ Failed ∷ []) h

-- a bucket is over at once, with this word
pub record IsOver (word : Decision) (before : List Decision) (v : Work (Result State Stopped))
    : Type 0 where
  pub end : Result State Stopped
  pub at_once : v ≡ done end
  pub words : EndsBy word before end

module _ (run : Run) where
  by-kind : (kind : Kind) (e : At) (s : State) →
      Still s (followed_by (child_by kind run Skip e s) (λ end. done (map_ok settled end)))
  by-kind group_element e s = record {
    end = map_ok settled (group run e s);
    at_once = refl;
    words = settled-words (group run e s) ∙ group-words run e s;
  }
  by-kind on_error_element e s = record {
    end = map_ok settled (Ok s);
    at_once = refl;
    words = settled-words (Ok s);
  }
  by-kind task_element e s = record {
    end = map_ok settled (inferred run e s);
    at_once = refl;
    words = settled-words (inferred run e s)
        ∙ taken-words (inferred_at (context_in run s s.scope) e) s;
  }

  still-children : (es : List At) (s : State) → Still s (each_in_turn (child run Skip) es s)
  still-children [] s = record { end = Ok s; at_once = refl; words = refl }
  still-children (e ∷ es) s =
      let x = by-kind (kind_of (name_of e.node)) e s in
      go x.end x.at_once x.words (still-children es)
    where
      go : (r : Result State Stopped) → child run Skip e s ≡ done r →
          (progress_in r).decisions ≡ s.decisions →
          ((t : State) → Still t (each_in_turn (child run Skip) es t)) →
          Still s (each_in_turn (child run Skip) (e ∷ es) s)
      go (Ok t) h w rest = let y = rest t in record {
        end = y.end;
        at_once = ap (λ v. followed_by v (λ end. unless_stopped end
            (λ next. each_in_turn (child run Skip) es next))) h ∙ y.at_once;
        words = y.words ∙ w;
      }
      go (Err d) h w rest = record {
        end = Err d;
        at_once = ap (λ v. followed_by v (λ end. unless_stopped end
            (λ next. each_in_turn (child run Skip) es next))) h;
        words = w;
      }

  -- ---- a bucket

  returned-so : (bucket : Bucket) (word : Decision) (before : List Decision) (t : State) →
      t.decisions ≡ before →
      EndsSo word before (map_ok (with_decision word) (returned run bucket t))
  returned-so bucket word before t h = go (items_if run bucket t (returns_of run.target))
    where
      go : (x : Result (List Item) EvalFault) → EndsSo word before (map_ok (with_decision word)
          (map_ok (λ items. with_items items t) (or_stop t x)))
      go (Ok items) = ap (λ l. l ++ word ∷ []) h
      go (Err fault) = h

  skip-so : (bucket : Bucket) (items : Option (List ℕ × List Item)) (s : State) →
      (r : Result State Stopped) × (decided run bucket Skip items s ≡ done r)
      × EndsSo UpToDate s.decisions r
  skip-so bucket items s =
      let x = still-children (children_of run.target.element) s in go x.end x.at_once x.words
    where
      go : (r : Result State Stopped) → children run Skip s ≡ done r →
          (progress_in r).decisions ≡ s.decisions →
          (r : Result State Stopped) × (decided run bucket Skip items s ≡ done r)
          × EndsSo UpToDate s.decisions r
      go (Ok t) h w = (
        map_ok (with_decision UpToDate) (returned run bucket t),
        ap (λ v. followed_by v (λ end. unless_stopped end
            (λ end. done (map_ok (with_decision (word_of Skip items))
            (returned run bucket end))))) h,
        returned-so bucket UpToDate s.decisions t w,
      )
      go (Err d) h w = (
        Err d,
        ap (λ v. followed_by v (λ end. unless_stopped end
            (λ end. done (map_ok (with_decision (word_of Skip items))
            (returned run bucket end))))) h,
        w,
      )

  module _ (choose : Chooser) (scope : Scope) (bucket : Bucket) (s : State) where
    abbrev x : State
    x = entered scope bucket s

    by-lists : (l : Result (Option Lists) EvalFault) → lists_at run bucket x ≡ l →
        bucket_by choose run scope bucket s ≡ followed_by (unless_stopped (or_stop x l)
        (chosen_or_run choose run bucket x)) (λ end. done (or_failed end))
    by-lists l e = ap (λ z. followed_by (unless_stopped (or_stop x z)
        (chosen_or_run choose run bucket x)) (λ end. done (or_failed end))) e

    -- where it is skipped
    pub skip-over : (lists : Lists) → lists_at run bucket x ≡ Ok (Some lists) →
        choose lists x ≡ Skip → IsOver UpToDate s.decisions (bucket_by choose run scope bucket s)
    skip-over lists e f =
        let y = skip-so bucket lists.items x in record {
          end = or_failed y.0;
          at_once = by-lists (Ok (Some lists)) e
              ∙ (ap (λ c. followed_by (decided run bucket c lists.items x)
              (λ end. done (or_failed end))) f
              ∙ ap (λ v. followed_by v (λ end. done (or_failed end))) y.1);
          words = failed-by UpToDate s.decisions y.0 y.2;
        }

    -- where there is nothing to do
    pub nothing-over : (lists : Lists) → lists_at run bucket x ≡ Ok (Some lists) →
        choose lists x ≡ Nothing →
        IsOver NothingToDo s.decisions (bucket_by choose run scope bucket s)
    nothing-over lists e f =
        let end : Result State Stopped =
        map_ok (with_decision NothingToDo) (returned run bucket x) in record {
          end = or_failed end;
          at_once = by-lists (Ok (Some lists)) e
              ∙ ap (λ c. followed_by (decided run bucket c lists.items x)
              (λ end. done (or_failed end))) f;
          words = failed-by NothingToDo s.decisions end
              (returned-so bucket NothingToDo s.decisions x refl);
        }

    -- where its lists have a fault
    pub fault-over : (fault : EvalFault) → lists_at run bucket x ≡ Err fault →
        IsOver NothingToDo s.decisions (bucket_by choose run scope bucket s)
    fault-over fault e = record {
      end = or_failed (Err (stop_at fault x));
      at_once = by-lists (Err fault) e;
      words = refl;
    }
