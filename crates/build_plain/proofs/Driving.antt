-- Events that take the least ready request, one after another.
use Rattle.std.proofs.Common.{
  ◌≡◌,
  ◌≤◌,
  ◌<◌,
  ◌+◌,
  List,
  [],
  ◌∷◌,
  ◌++◌,
  length,
  refl,
  ap,
  sym,
  ◌∙◌,
  subst,
  arith,
  append_assoc,
}
use Rattle.std.proofs.lemmas.List.{append-nil, append_cancel_left, length-append}
use Rattle.build_meaning.specs.declared.event.Event.{Event}
use Rattle.build_meaning.specs.declared.event.Event.TheVariants.{
  Assign,
  Claim,
  Request,
  Result,
  Done,
  Retire,
}
use Rattle.build_meaning.specs.World.{World}
use Rattle.build_meaning.specs.History.{retires}
use Rattle.build_meaning.proofs.RetiredRequests.{retires-append}
use Rattle.build_plain.specs.Driven.{TakesLeast, AssignsLeast, Drives}
use Rattle.build_scheduler.specs.Drivers.{Continues}

module _ {P I A : Type 0} (w : World P I A) where
  least-more : (before more others : List Event) → AssignsLeast w before more
      → AssignsLeast w (before ++ more) others → AssignsLeast w before (more ++ others)
  least-more before [] others h g = subst (λ es. AssignsLeast w es others) (append-nil before) g
  least-more before (event ∷ more) others h g = (
    h.0,
    least-more (before ++ event ∷ []) more others h.1
        (subst (λ es. AssignsLeast w es others) (sym (append_assoc before (event ∷ []) more)) g),
  )

  -- no event came
  pub drives-none : (before events : List Event) → events ≡ before → Drives w before events
  drives-none before events e = record { more = []; is = e ∙ sym (append-nil before); least = tt }

  -- one event came
  pub drives-one : (before events : List Event) (event : Event) → events ≡ before ++ event ∷ []
      → TakesLeast w before event → Drives w before events
  drives-one before events event e h = record { more = event ∷ []; is = e; least = (h, tt) }

  -- some events came, and then others
  pub drives-more : (before between events : List Event) → Drives w before between
      → Drives w between events → Drives w before events
  drives-more before between events x y = record {
    more = x.more ++ y.more;
    is = y.is ∙ (ap (λ es. es ++ y.more) x.is ∙ append_assoc before x.more y.more);
    least = least-more before x.more y.more x.least
        (subst (λ es. AssignsLeast w es y.more) x.is y.least);
  }

  pub drives-length : (before events : List Event) → Drives w before events
      → length before ≤ length events
  drives-length before events x = let a : length events
      ≡ length (before ++ x.more) = ap length x.is in let b = length-append before x.more in omega
      arith

  -- whatever the events that came are called
  pub least-of : (before events : List Event) → Drives w before events → (more : List Event)
      → events ≡ before ++ more → AssignsLeast w before more
  least-of before events x more e = subst (λ es. AssignsLeast w before es)
      (append_cancel_left before x.more more (sym x.is ∙ e)) x.least

  -- the node has not retired
  least-none : (before more : List Event) → AssignsLeast w before more → retires more ≡ 0
  least-none before [] h = refl
  least-none before (Retire id node ∷ more) h = absurd h.0
  least-none before (Assign id node ∷ more) h = least-none (before ++ Assign id node ∷ []) more h.1
  least-none before (Claim id run kind ∷ more) h = least-none (before ++ Claim id run kind ∷ [])
      more h.1
  least-none before (Request id keys ∷ more) h = least-none (before ++ Request id keys ∷ []) more
      h.1
  least-none before (Result id run ∷ more) h = least-none (before ++ Result id run ∷ []) more h.1
  least-none before (Done id ∷ more) h = least-none (before ++ Done id ∷ []) more h.1

  pub none-retired : (before events : List Event) → Drives w before events → retires before ≡ 0
      → retires events ≡ 0
  none-retired before events x none =
      ap retires x.is
      ∙ (let a = retires-append before x.more in let b = least-none before x.more x.least
      in omega arith)

  pub continues-of : (before events : List Event) → Drives w before events → Continues before events
  continues-of before events x = (x.more, x.is)

pub one-longer : (before events : List Event) (event : Event) → events ≡ before ++ event ∷ []
    → length before < length events
one-longer before events event e = let a : length events
    ≡ length (before ++ event ∷ []) = ap length e in let b : length (before ++ event ∷ [])
    ≡ length before + 1 = length-append before (event ∷ []) in omega arith
