use Rattle.std.proofs.Common.{
  ◌≡◌,
  ◌+◌,
  ◌++◌,
  ◌∷◌,
  [],
  eqb,
  Some,
  None,
  get_or,
  take,
  refl,
  sym,
  ap,
  ◌∙◌,
}
use Rattle.std.proofs.lemmas.List.{take_more}
use Rattle.msb_laws.specs.Words.{Name}
use Rattle.target_order.specs.Progress.{number_of}
use Rattle.target_order.proofs.Names.{number_below}
use Rattle.target_order.proofs.Hooking.{hooked_none, hooked_some}
use Rattle.target_order.proofs.hooks.HookLists.add.Goals as goal
use Rattle.target_order.proofs.hooks.HookLists.add.Goals.{in-Some+in_ok-add_to-in-Some, in-None}

pub loop-name-preserved : goal.loop-name-preserved
loop-name-preserved c =
    let names = c.args.numbers.now in
    let row = c.args.row.now in
    let at = c.loop-name.name-index in
    let name = c.name-item.result in
    let before = c.args.self.now.lists.items in
    let lists = c.loop-name.self.lists.items in
    let turns = c.loop-name.self.turns.items in
    let seen = take at c.args.named.now in
    let inv = c.loop-name.invariant in
    let seen_is : take (at + 1) c.args.named.now
    ≡ seen ++ name ∷ [] = take_more c.args.named.now at name c.loop-name-test.true
    ∙ ap (λ (n : Name). seen ++ n ∷ []) (sym c.name-item.is) in
    elim c.match-find.branch [
      | in-Some+in_ok-add_to-in-Some w ↦
          let t = w.in-Some.target in
          let number : number_of names name ≡ Some t = cc (w.in-Some.ensures.value) in
          let new = hooked_some c.args.turn row seen names before lists turns c.requires.distinct
          inv name t number (number_below names name t number)
          (eqb (get_or turns t 0) c.args.turn) refl in
          let done = w.in_ok-add_to-in-Some.ensures in
          rw (seen_is, w.self-is, done.lists, done.turns) new
      | in-None w ↦
          let value = c.find.ensures.value in
          let is = w.in-None.is in
          let none : number_of names name ≡ None = cc in
          rw (seen_is, w.self-is)
          (hooked_none c.args.turn row seen names before lists turns c.requires.distinct inv
          name none)
    ]
