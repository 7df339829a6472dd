-- The core of a root whose walk had no answer yet shows the start.
use Rattle.std.proofs.Common.{
  ◌≡◌,
  ◌≤◌,
  ◌==◌,
  ℕ,
  zero,
  suc,
  false,
  List,
  [],
  ◌∷◌,
  length,
  map,
  Option,
  None,
  refl,
  ap,
  sym,
  ◌∙◌,
  subst,
  arith,
}
use Rattle.result_cache.specs.declared.run.RunId.{RunId}
use Rattle.result_cache.specs.declared.request.RequestKey.{RequestKey}
use Rattle.result_cache.specs.Table.{TableRuns, Records}
use Rattle.build_meaning.specs.Lists.{at, Paired}
use Rattle.build_meaning.specs.World.{World}
use Rattle.build_meaning.specs.State.{RequestState, start, new_request}
use Rattle.build_meaning.specs.History.{IsHistory}
use Rattle.build_meaning.specs.Progress.{IsOver}
use Rattle.build_scheduler.specs.declared.walker.Answer.TheVariants.{First}
use Rattle.build_scheduler.specs.declared.slot.Origin.{Origin}
use Rattle.build_scheduler.specs.declared.slot.Slot.{Slot}
use Rattle.build_scheduler.specs.declared.slot.Slot.TheVariants.{Ready}
use Rattle.build_meaning.specs.Meaning.{most_instances}
use Rattle.msb_values.specs.declared.key.InstanceKey.{InstanceKey}
use Rattle.build_scheduler.specs.Instances.{AreCounted, instance_asked}
use Rattle.build_scheduler.specs.Learnt.{ArePartOf}
use Rattle.build_scheduler.specs.History.{History}
use Rattle.build_scheduler.specs.Numbers.{among, Numbered}
use Rattle.build_scheduler.specs.Own.{Seen}
use Rattle.build_scheduler.specs.Position.{begins, answered}
use Rattle.build_scheduler.specs.Shown.{
  Shown,
  AreRooted,
  Indexed,
  is_ready,
  unready,
  numbers_of,
  waits_for,
}
use Rattle.build_scheduler.specs.Slots.{ShowsSlot}
use Rattle.build_scheduler.proofs.SlotNumbers.{not-equal}

none_part : (table : Records) → ArePartOf [] table
none_part table = record { in_order = tt; shared = λ run made h. absurd (cc) }

module _ {W P I A : Type 0} (seen : W → Seen P I A) (walk : W) (key : RequestKey)
    {told : World P I A} {history : History} {origins : List Origin} {slots : List (Slot W)}
    {making : List (Option RunId)} {table : TableRuns} where
  -- the core shows the start of the world
  pub shown-start : told ≡ (seen walk).world → key ≡ (seen walk).world.root
      → (seen walk).position ≡ begins (seen walk).world key [] → (seen walk).asked ≡ 0
      → (seen walk).learnt ≡ [] → history.events ≡ [] → history.room ≡ 2 →
      origins ≡ record { key = key; parent = None; depth = 0 } ∷ [] → slots ≡ Ready walk First ∷ []
      → making ≡ None ∷ [] → table.finished ≡ [] → table.begun ≡ []
      → Shown seen told history origins slots making table None
  shown-start e k p a t ev room os ss ms fin beg =
      let key_is : key ≡ told.root = k ∙ ap (λ (v : World P I A). v.root) (sym e) in
      let there : (seen walk).position ≡ begins told told.root [] = p
      ∙ (ap (λ v. begins v key []) (sym e) ∙ ap (λ r. begins told r []) key_is) in
      record {
        state = start told;
        history = subst (λ es. IsHistory told es (start told)) (sym ev) refl;
        asked = os ∙ ap (λ (r : RequestKey). record { key = r; parent = None; depth = 0 } ∷ [])
            key_is;
        rooted = subst AreRooted (sym os) (refl, tt);
        each = subst
            (λ (xs : List (Slot W)).
            Paired (ShowsSlot told (start told) (length history.events) seen)
            xs (start told).requests) (sym ss) (
              record {
                position = begins told told.root [];
                goes = record {
                  world = sym e;
                  learnt = subst (λ part. ArePartOf part []) (sym t) (none_part []);
                  goes = ap (λ x. answered told [] x First) there;
                  turn = a;
                  few = omega (arith, a);
                };
                is = refl;
              },
              tt,
            );
        bodies = ms;
        finished = fin;
        begun = beg;
        room = omega (arith, room);
        ends = λ root r o. let q : new_request told None [] [] told.root
            ≡ root = cc in subst (λ (x : RequestState P I A). IsOver x.status) (sym q) o;
      }

pub indexed-start : {W : Type 0} (walk : W) {slots : List (Slot W)} {ready : Numbered}
    {waiting : List Numbered} (empty : Numbered) → slots ≡ Ready walk First ∷ []
    → waiting ≡ empty ∷ [] → empty.numbers ≡ [] →
    ((n : ℕ) → among n ready.numbers ≡ (0 == n)) → Indexed slots ready waiting
indexed-start {W} walk {slots} {ready} {waiting} empty s wt e m = record {
  listed = λ n. m n ∙ (first n ∙ ap (λ (xs : List (Slot W)). is_ready (at xs n)) (sym s));
  room = subst (λ (xs : List (Slot W)). unready xs ≤ ready.room) (sym s) (omega arith);
  lists = ap length wt ∙ ap length (sym s);
  waits = λ by n. ap (λ xs. among n (numbers_of (at xs by))) wt
      ∙ (others by n ∙ ap (λ (xs : List (Slot W)). waits_for by (at xs n)) (sym s));
}
  where
    first : (n : ℕ) → (0 == n) ≡ is_ready (at (Ready walk First ∷ []) n)
    first zero = refl
    first (suc n) = not-equal 0 (suc n) (λ e. absurd (omega arith))

    empty_of : (n : ℕ) → among n empty.numbers ≡ false
    empty_of n = ap (among n) e

    no_wait : (by n : ℕ) → waits_for by (at (Ready walk First ∷ []) n) ≡ false
    no_wait by zero = refl
    no_wait by (suc n) = refl

    others : (by n : ℕ) → among n (numbers_of (at (empty ∷ []) by))
        ≡ waits_for by (at (Ready walk First ∷ []) n)
    others zero n = empty_of n ∙ sym (no_wait zero n)
    others (suc by) n = sym (no_wait (suc by) n)

-- the root's instance is counted
pub counted-root : (root : RequestKey) {instances : List InstanceKey} {origins : List Origin}
    → instances ≡ root.instance ∷ [] → origins
    ≡ record { key = root; parent = None; depth = 0 } ∷ []
    → AreCounted instances (map instance_asked origins)
counted-root root {instances} {origins} i o =
    subst (λ xs. AreCounted xs (map instance_asked origins)) (sym i)
    (subst (λ os. AreCounted (root.instance ∷ []) (map instance_asked os)) (sym o)
    (record { once = (refl, tt); same = λ k. refl }))

pub few-root : (root : RequestKey) {instances : List InstanceKey} → instances ≡ root.instance ∷ []
    → length instances ≤ most_instances
unfolding most_instances
few-root root i = let n = ap length i in omega arith
