-- The room of a history after an event, and how many of its nodes have retired.
use Rattle.std.proofs.Common.{◌≡◌, ◌+◌, ◌<◌, ℕ, List, [], ◌∷◌, ◌++◌, ap, sym, subst, arith}
use Rattle.build_meaning.specs.declared.event.Event.{Event}
use Rattle.build_meaning.specs.declared.event.Event.TheVariants.{Retire}
use Rattle.build_meaning.specs.History.{retires, AreOfNodes}
use Rattle.build_meaning.proofs.RetiredRequests.{retires-append}

module _ (events : List Event) where
  pub retires-other : {after : List Event} (event : Event) {count : ℕ} →
      after ≡ events ++ event ∷ [] → retires (event ∷ []) ≡ 0 →
      retires events ≡ count → retires after ≡ count
  retires-other event e o r =
      let m = retires-append events (event ∷ []) in
      let k = ap retires e in omega arith

  pub retires-one : {after : List Event} (id node : ℕ) {count : ℕ} →
      after ≡ events ++ Retire id node ∷ [] → retires events ≡ count → retires after ≡ count + 1
  retires-one id node e r =
      let m = retires-append events (Retire id node ∷ []) in
      let k = ap retires e in omega arith

  -- so many have retired, and there are more nodes
  pub active-of : {count : ℕ} (nodes : ℕ) →
      retires events ≡ count → count < nodes → AreOfNodes nodes events
  active-of nodes e l = omega arith

  -- the same events and the same nodes
  pub active-same : {after : List Event} (nodes : ℕ) {count : ℕ} →
      after ≡ events → count ≡ nodes → AreOfNodes nodes events → AreOfNodes count after
  active-same nodes {count} e n h =
      subst (AreOfNodes count) (sym e) (subst (λ c. AreOfNodes c events) (sym n) h)
