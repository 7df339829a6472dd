use Rattle.std.proofs.Common.{
  ◌≡◌,
  ◌≤◌,
  ◌∷◌,
  [],
  ◌++◌,
  length,
  take,
  drop,
  sym,
  ap,
  ◌∙◌,
  subst,
  rules,
  arith,
}
use Rattle.target_order.specs.Chunks.{joined}
use Rattle.target_order.specs.OpenVisits.{AreOpen}
use Rattle.target_order.proofs.OpenVisits.{filled, filled_are}
use Rattle.target_order.proofs.open_visits.OpenVisits.fill_chunk.Goals as goal

pub invariant_of-self : goal.invariant_of-self
invariant_of-self c =
    let outer = c.self.inside.outer in
    let inner = c.self.inside.inner.items in
    let len : c.len.result ≡ length inner = search rules in
    let many : 64 ≤ length inner = let h = c.if-len.false in omega arith in
    let first = c.in_ok-new.ensures
    ∙ (c.in_ok-of-2.ensures ∙ (c.split_at.ensures.front ∙ ap (take 32) c.deref.ensures.value)) in
    let rest = c.into_vec-rest.ensures
    ∙ (c.in_ok-of.ensures ∙ (c.split_at.ensures.back ∙ ap (drop 32) c.deref.ensures.value)) in
    let chunks = c.in_ok-self-inside.ensures
    ∙ (c.in_ok-push.ensures.ok
    ∙ (ap (λ cs. cs ++ c.in_ok-new.field-0 ∷ []) (c.in_ok-outer.ensures ∙ c.get.ensures)
    ∙ ap (λ x. outer ++ x ∷ []) first)) in
    subst (λ cs. AreOpen cs c.into_vec-rest.result.items c.self.inside.count) (sym chunks)
    (subst (λ vs. AreOpen (outer ++ take 32 inner ∷ []) vs c.self.inside.count) (sym rest)
    (filled_are outer inner c.self.inside.count c.self.invariant many))

pub returns : goal.returns
returns c =
    let outer = c.self.inside.outer in
    let inner = c.self.inside.inner.items in
    let len : c.len.result ≡ length inner = search rules in
    let many : 64 ≤ length inner = let h = c.if-len.false in omega arith in
    let first = c.in_ok-new.ensures
    ∙ (c.in_ok-of-2.ensures ∙ (c.split_at.ensures.front ∙ ap (take 32) c.deref.ensures.value)) in
    let rest = c.into_vec-rest.ensures
    ∙ (c.in_ok-of.ensures ∙ (c.split_at.ensures.back ∙ ap (drop 32) c.deref.ensures.value)) in
    let chunks = c.in_ok-self-inside.ensures
    ∙ (c.in_ok-push.ensures.ok
    ∙ (ap (λ cs. cs ++ c.in_ok-new.field-0 ∷ []) (c.in_ok-outer.ensures ∙ c.get.ensures)
    ∙ ap (λ x. outer ++ x ∷ []) first)) in
    ap (λ cs. joined cs ++ c.into_vec-rest.result.items) chunks
    ∙ (ap (λ vs. joined (outer ++ take 32 inner ∷ []) ++ vs) rest
    ∙ (filled outer inner c.self.inside.count c.self.invariant (omega arith) ∙ c.self.view_is))
