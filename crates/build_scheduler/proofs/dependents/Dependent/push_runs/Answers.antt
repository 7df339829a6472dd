use Rattle.std.proofs.Common.{◌≡◌, ◌<◌, ◌++◌, ◌∷◌, [], Some, length, sym, subst, ◌∙◌, arith}
use Rattle.build_meaning.proofs.ListPlaces.{at-in, at-less}
use Rattle.build_meaning.specs.Lists.{at}
use Rattle.build_scheduler.proofs.Looking.{
  in-among,
  index-at,
  over-end,
  over-more,
  over-pushed,
  run-added,
  slice-at,
}
use Rattle.build_scheduler.proofs.dependents.Dependent.push_runs.Goals as goal

pub index-requires : goal.index-requires
index-requires c =
    let over = c.args.self.now.dependents.needs.items in
    let b = c.requires.backward c.loop-place.place c.loop-place-test.true
    c.loop-place.invariant.within in
    let is : c.index-place.result.now ≡ b.0 = index-at over c.loop-place.place
    c.index-place.result.now b.0 b.1 c.index-place.ensures in
    let l : b.0 < c.loop-place.place = b.2 in
    let w : c.loop-place.place < length c.args.self.now.dependents.requests.keys =
    c.loop-place.invariant.within in
    omega arith

pub push_run-requires : goal.push_run-requires
push_run-requires c =
    let keys = c.args.self.now.dependents.requests.keys in
    let here : at keys c.index-place.result.now
    ≡ Some c.index.result.now = sym (slice-at keys c.index-place.result.now)
    ∙ c.index.ensures in
    c.requires.making c.index.result.now
    (in-among c.index.result.now keys
    (at-in keys c.index-place.result.now c.index.result.now here))

pub loop-place-smaller : goal.loop-place-smaller
loop-place-smaller c =
    let over = c.args.self.now.dependents.needs.items in
    let b = c.requires.backward c.loop-place.place c.loop-place-test.true
    c.loop-place.invariant.within in
    let is : c.index-place.result.now ≡ b.0 = index-at over c.loop-place.place
    c.index-place.result.now b.0 b.1 c.index-place.ensures in
    let l : b.0 < c.loop-place.place = b.2 in
    omega arith

pub loop-place-preserved : goal.loop-place-preserved
loop-place-preserved c =
    let keys = c.args.self.now.dependents.requests.keys in
    let over = c.args.self.now.dependents.needs.items in
    let making = c.args.making.now.items in
    let place = c.index-place.result.now in
    let request = c.index.result.now in
    let v = c.loop-place.invariant in
    let b = c.requires.backward c.loop-place.place c.loop-place-test.true v.within in
    let is : place ≡ b.0 = index-at over c.loop-place.place place b.0 b.1 c.index-place.ensures in
    let here : at keys place ≡ Some request = sym (slice-at keys place) ∙ c.index.ensures in
    let r = run-added keys over making (at making request) c.loop-place.runs.items
    c.push_run.new.runs.items c.in_ok-push_run.ensures in
    record {
      so_far = v.so_far ++ r.0 ∷ [];
      pushed = over-pushed c.args.runs.now.items c.loop-place.runs.items c.push_run.new.runs.items
          v.so_far r.0 v.pushed r.2;
      over = over-more keys over making c.args.self.now.place c.loop-place.place place request
          v.so_far r.0 v.over (subst (λ p. at over c.loop-place.place ≡ Some p) (sym is) b.1)
          c.loop-place-test.true here r.1;
      within = at-less keys place request here;
    }

pub returns : goal.returns
returns c =
    let v = c.loop-place.invariant in (
      v.so_far,
      v.pushed,
      over-end c.args.self.now.dependents.requests.keys
          c.args.self.now.dependents.needs.items c.args.making.now.items c.args.self.now.place
          c.loop-place.place v.so_far v.over (omega (arith, c.loop-place-test.false)),
    )
