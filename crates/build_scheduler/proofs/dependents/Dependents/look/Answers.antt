use Rattle.std.proofs.Common.{◌≡◌, ◌<◌, ◌∷◌, [], Some, length, refl, sym, ◌∙◌, subst, arith}
use Rattle.result_cache.specs.Lists.{In}
use Rattle.build_meaning.specs.Lists.{at}
use Rattle.build_scheduler.specs.Dependents.{AreBroughtIn}
use Rattle.build_scheduler.specs.Shown.{numbers_of}
use Rattle.build_scheduler.proofs.Looking.{brought-join, in-among, numbers-at, on-ok, slice-at}
use Rattle.build_scheduler.proofs.dependents.Dependents.look.Goals as goal

pub add_callers-requires : goal.add_callers-requires
add_callers-requires c n i =
    let self = c.args.self.now in
    let request = c.index-request.result.now in
    let here : at self.requests.keys c.args.place
    ≡ Some request = sym (slice-at self.requests.keys c.args.place) ∙ c.index-request.ensures in
    let l : request < length c.args.origins.now.items = c.requires.there c.args.place request here
    in
    let e = numbers-at c.args.waiting.now.items request c.index.result.now
    c.index.result.now.numbers
    (omega (arith, l, c.requires.waiting.lists)) c.index.ensures refl in
    c.requires.waiting.bounded request n
    (in-among n (numbers_of (at c.args.waiting.now.items request)) (subst (In n) e i))

pub returns : goal.returns
returns c =
    let self = c.args.self.now in
    let origins = c.args.origins.now.items in
    let request = c.index-request.result.now in
    let here : at self.requests.keys c.args.place
    ≡ Some request = sym (slice-at self.requests.keys c.args.place) ∙ c.index-request.ensures in
    let l : request < length origins = c.requires.there c.args.place request here in
    let e = numbers-at c.args.waiting.now.items request c.index.result.now
    c.index.result.now.numbers
    (omega (arith, l, c.requires.waiting.lists)) c.index.ensures refl in
    on-ok c.add_callers.result (λ b. (
      request,
      here,
      subst
          (λ ns. AreBroughtIn origins (request ∷ ns) c.args.place self.requests.keys
          self.needs.items c.add_callers.new.self.requests.keys c.add_callers.new.self.needs.items)
          e
          (brought-join origins c.args.place (request ∷ []) c.index.result.now.numbers
          self.requests.keys
          self.needs.items c.add_caller.new.self.requests.keys c.add_caller.new.self.needs.items
          c.add_callers.new.self.requests.keys c.add_callers.new.self.needs.items
          c.in_ok-add_caller.ensures b),
    )) c.add_callers.ensures
