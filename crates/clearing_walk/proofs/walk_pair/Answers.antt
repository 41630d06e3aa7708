use Rattle.std.proofs.Common.{◌+◌, ◌-◌, ◌*◌, ◌≤◌, Ok, refl, ◌∙◌, subst, mul-le-mul_right, arith}
use Rattle.clearing_walk.specs.Walk.{largest, Bounded}
use Rattle.clearing_walk.proofs.Bounds.{no_room, paid_more, paid_all}
use Rattle.clearing_walk.proofs.Ends.{begin, going_on, stop, never, full}
use Rattle.clearing_walk.proofs.walk_pair.Goals as goal

pub loop-rest-init : goal.loop-rest-init
loop-rest-init g c = (
  omega arith,
  omega arith,
  refl,
  λ s b first p e w. rw e (begin s b first p.ready _ _ _ refl w),
)

pub overflow_add-out : goal.overflow_add-out
overflow_add-out g c =
    let h = subst (λ o. Bounded c.loop-rest.rest c.args.rates (Ok o)) c.in-Some.is c.in_ok-turn.ensures.bounded in
    let k = paid_more c.args.volume.amount c.loop-rest.rest c.loop-rest.out c.in-Some.fill.sold c.in-Some.fill.paid c.args.rates.sold c.loop-rest.invariant.0 c.loop-rest.invariant.1 h.1 h.2 in
    let t = paid_all c.args.volume.amount (c.loop-rest.rest - c.in-Some.fill.sold) (c.loop-rest.out + c.in-Some.fill.paid) c.args.rates.sold k in
    let l : c.args.volume.amount * c.args.rates.sold ≤ largest * c.args.rates.sold = mul-le-mul_right c.args.rates.sold (omega (arith, c.requires)) in
    omega (arith, t, l, c.requires)

pub loop-rest-preserved : goal.loop-rest-preserved
loop-rest-preserved g c =
    let h = subst (λ o. Bounded c.loop-rest.rest c.args.rates (Ok o)) c.in-Some.is c.in_ok-turn.ensures.bounded in (
      omega (arith, c.loop-rest.invariant.0),
      paid_more c.args.volume.amount c.loop-rest.rest c.loop-rest.out c.in-Some.fill.sold c.in-Some.fill.paid c.args.rates.sold c.loop-rest.invariant.0 c.loop-rest.invariant.1 h.1 h.2,
      c.in_ok-turn.ensures.kept ∙ c.loop-rest.invariant.2,
      λ s b first p e w. going_on s b first c.args.volume.sold c.args.volume.bought c.args.rates c.loop-rest.at c.loop-rest.rest c.loop-rest.out _ _ _ _ p
          (c.loop-rest.invariant.3 s b first p e w) c.in-Some.fill (rw c.in-Some.is at (c.in_ok-turn.ensures.turned s b first)),
    )

pub returns-in-None : goal.returns-in-None
returns-in-None g c =
    record {
      kept = c.in_ok-turn.ensures.kept ∙ c.loop-rest.invariant.2;
      walked = λ s b first p e w. stop s b first c.args.volume.sold c.args.volume.bought c.args.rates c.loop-rest.at c.loop-rest.rest c.loop-rest.out _ _ _ _ p
          (c.loop-rest.invariant.3 s b first p e w) (rw c.in-None.is at (c.in_ok-turn.ensures.turned s b first));
    }

pub returns-in_err-turn : goal.returns-in_err-turn
returns-in_err-turn g c =
    record {
      kept = no_room _ _ c.from_residual.result c.from_residual.ensures.0;
      walked = λ s b first p e w.
          absurd (never s b first c.args.volume.sold c.args.volume.bought c.args.rates c.loop-rest.at c.loop-rest.rest c.loop-rest.out _ _ p
          (c.loop-rest.invariant.3 s b first p e w) (c.in_err-turn.ensures.turned s b first));
    }

pub returns : goal.returns
returns g c =
    record {
      kept = c.loop-rest.invariant.2;
      walked = λ s b first p e w. full s b first c.args.volume.sold c.args.volume.bought c.loop-rest.at c.loop-rest.rest c.loop-rest.out _ _ p.ready
          (c.loop-rest.invariant.3 s b first p e w) (omega (arith, c.loop-rest-test.false));
    }

pub turn-requires : goal.turn-requires
turn-requires g c = record { some = c.loop-rest-test.true; most = omega (arith, c.loop-rest.invariant.0, c.requires) }
