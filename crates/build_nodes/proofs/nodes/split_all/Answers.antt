use Rattle.std.proofs.Common.{◌≡◌, ◌-◌, All, arith, vec_len, ap, sym, subst, ◌∙◌}
use Rattle.std.proofs.lemmas.List.Elements.{All-take}
use Rattle.std.specs.Prelude.{is_some}
use Rattle.turn_board.specs.Seats.{SeatFacts}
use Rattle.build_nodes.specs.Seats.{IsSeated, numbers_below}
use Rattle.build_nodes.proofs.CoreCrossing.{shared-crosses}
use Rattle.build_nodes.proofs.Fitting.{last-fits}
use Rattle.build_nodes.proofs.Seated.{all-more, numbers-all, numbers-more}
use Rattle.build_nodes.proofs.Turning.{and-some}
use Rattle.build_nodes.proofs.nodes.split_all.Goals as goal

pub split-requires-send-S : goal.split-requires-send-S
split-requires-send-S g c κs within = shared-crosses _ _ _ g.W.Walker c.type_bounds.send-W
    c.type_bounds.send-W-Origin _

pub loop-place-preserved : goal.loop-place-preserved
loop-place-preserved g c =
    let first = c.args.seat.now in
    let was = c.loop-place.invariant in
    let loop = c.loop-place in
    let new = c.split.ensures.new in
    let len = c.push_reserved.ensures.len in
    let left = c.in-Some.ensures.len in
    let less : first.share - vec_len loop.all - 1
    ≡ first.share - vec_len c.push_reserved.new.self = omega arith in (
      c.split.ensures.kept
          ∙ (ap {A = SeatFacts _ _} (λ s. record s { share = s.share - 1 }) was.0
          ∙ ap (λ n. record first { share = n }) less),
      omega (arith, was.1),
      c.push_reserved.ensures.capacity ∙ was.2,
      all-more (λ n. IsSeated first.board n.seat) c.push_reserved.new.self.items loop.all.items _
          c.push_reserved.ensures.items was.3 (
            ap (λ s. s.board) new ∙ ap (λ s. s.board) was.0,
            ap (λ s. s.has_state) new ∙ (ap (λ s. s.has_state) was.0 ∙ c.requires.seat.0),
            ap (λ s. s.share) new,
            ap (λ s. is_some s.world) new ∙ (ap (λ s. is_some s.world) was.0 ∙ c.requires.seat.3),
          ),
      numbers-more (λ n. n.number) c.push_reserved.new.self.items loop.all.items _
          (vec_len loop.places) (vec_len c.pop.new.self) (numbers_below (vec_len c.args.places))
          c.push_reserved.ensures.items c.len.ensures (omega (arith, left)) was.4,
      and-some first.world _ _
          (λ known fit. subst (All (λ place. g.W.Walker.Fits place
          (g.W.Walker.world_of known.world)))
          (sym c.in-Some.ensures.rest) (All-take (λ place. g.W.Walker.Fits place
          (g.W.Walker.world_of known.world)) _ _ fit)) was.5,
    )

pub invariant_of-node : goal.invariant_of-node
invariant_of-node g c =
    let m = g.W.Walker in
    let laws =
    g.met.W.Walker g.world.𝓛 g.world.𝓜 g.world.𝓡 ((λ s x. x), (λ x. x), (λ x. x), λ x. x) in
    let was = c.loop-place.invariant in
    record {
      fits =
          last-fits m.Fits laws.fits_once (λ first. m.world_of first.world) c.args.seat.now.world
          c.split.result.world c.loop-place.places.items c.pop.new.self.items c.in-Some.place
          (ap (λ s. s.world) c.split.ensures.new ∙ ap (λ s. s.world) was.0) c.in-Some.ensures.items
          was.5;
    }

pub returns-clause-numbers : goal.returns-clause-numbers
returns-clause-numbers g c = numbers-all (λ n. n.number) c.loop-place.all.items
    (vec_len c.loop-place.places) (numbers_below (vec_len c.args.places)) c.loop-place.invariant.4
    c.in_default.ensures.cases.0
