use Rattle.std.proofs.Common.{◌≡◌, Some, sym, ◌∙◌, arith}
use Rattle.build_meaning.proofs.ParentsAndChildren.{same_some}
use Rattle.build_meaning.specs.Lists.{at}
use Rattle.build_scheduler.proofs.Looking.{
  all-looked,
  apart-more,
  found-more,
  looked-more,
  slice-at,
  within-more,
}
use Rattle.build_scheduler.proofs.dependents.search.Goals as goal

pub loop-place-preserved : goal.loop-place-preserved
loop-place-preserved c =
    let origins = c.args.origins.now.items in
    let waiting = c.args.waiting.now.items in
    let keys = c.loop-place.dependents.requests.keys in
    let over = c.loop-place.dependents.needs.items in
    let next = c.look.new.self.requests.keys in
    let after = c.look.new.self.needs.items in
    let place = c.loop-place.place in
    let v = c.loop-place.invariant in
    let l = c.in_ok-look.ensures in
    let here : at keys place ≡ Some c.index.result.now = sym (slice-at keys place)
    ∙ c.index.ensures in
    let is : l.0 ≡ c.index.result.now = same_some (at keys place) l.0 c.index.result.now l.1 here in
    record {
      found = found-more origins waiting c.args.first keys over next after place v.found l
          c.requires.callers;
      looked = looked-more origins waiting c.args.first keys over next after place v.found l
          c.requires.callers v.looked;
      apart = apart-more origins waiting c.args.first keys over next after place v.found l
          c.requires.callers c.args.by v.apart (λ e. c.if-index-by.false (sym is ∙ e));
      within = within-more origins waiting c.args.first keys over next after place v.found l
          c.requires.callers;
    }

pub returns : goal.returns
returns c =
    let keys = c.loop-place.dependents.requests.keys in
    let v = c.loop-place.invariant in
    let y = all-looked c.args.origins.now.items c.args.waiting.now.items c.args.first keys
    c.loop-place.dependents.needs.items c.loop-place.place c.args.by v.found v.looked v.apart
    (omega (arith, c.loop-place-test.false, c.len.ensures.len)) in
    (keys, y.0, y.1)
