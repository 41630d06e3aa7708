use Rattle.std.proofs.Common.{◌≡◌, ℕ, ◌*◌, true, is_err, Some, None, Ok, Err, Option, Result, sym, refl, div-le_self, arith}
use Rattle.std.proofs.lemmas.Bool.{eqb-true, and_parts, false≢true}
use Rattle.terms.specs.declared.Fault.{Fault}
use Rattle.clearing_walk.specs.declared.Fill.{Fill}
use Rattle.clearing_walk.specs.declared.rates.Rates.{Rates}
use Rattle.clearing_walk.specs.Walk.{Bounded}
use Rattle.clearing_walk.proofs.Bounds.{no_room}
use Rattle.clearing_walk.proofs.Next.{next_key}
use Rattle.clearing_walk.proofs.Pairs.{used_none, used_next, able, turned, unfit}
use Rattle.clearing_walk.proofs.turn.Goals as goal

refused : (rest : ℕ) (at : Rates) (r : Result (Option Fill) Fault) → is_err r ≡ true → Bounded rest at r
refused rest at (Ok o) e = absurd (false≢true e)
refused rest at (Err _) e = tt

pub returns-in-None : goal.returns-in-None
returns-in-None g c =
    let o = g.B.OfferBook.book c.args.book.now in
    let o_sound = g.met.B.OfferBook.sound c.args.book.now in
    record {
      bounded = tt;
      kept = refl;
      turned = λ s b first p here. (
        here,
        used_none s b first p.ready c.args.at.sold c.args.at.bought c.args.at c.args.rest _ _ here
            (next_key o o_sound c.args.at None c.in-None.ensures),
      );
    }

pub returns-then-not-serves : goal.returns-then-not-serves
returns-then-not-serves g c =
    let o = g.B.OfferBook.book c.args.book.now in
    let o_sound = g.met.B.OfferBook.sound c.args.book.now in
    record {
      bounded = tt;
      kept = refl;
      turned = λ s b first p here. (
        here,
        used_next s b first p.ready c.args.at.sold c.args.at.bought c.args.at c.args.rest _ _ here c.in-Some.key
            (next_key o o_sound c.args.at (Some c.in-Some.key) c.in-Some.ensures)
            (unfit s b first c.args.rates c.args.at p c.in-Some.key (sym c.if-not-serves.ensures)),
      );
    }

pub returns-in_err-fill-in-Some : goal.returns-in_err-fill-in-Some
returns-in_err-fill-in-Some g c =
    let o = g.B.OfferBook.book c.args.book.now in
    let o_sound = g.met.B.OfferBook.sound c.args.book.now in
    let next = next_key o o_sound c.args.at (Some c.in-Some.key) c.in-Some.ensures in
    let (pq, e) = and_parts _ _ (sym c.if-not-serves.ensures) in
    let (ps, pb) = and_parts _ _ pq in
    record {
      bounded = refused c.args.rest c.args.rates c.from_residual.result c.from_residual.ensures.0;
      kept = no_room _ _ c.from_residual.result c.from_residual.ensures.0;
      turned = λ s b first p here.
          absurd (c.in_err-fill-in-Some.ensures
          (able s b first p.ready c.args.at.sold c.args.at.bought c.args.at c.args.rest _ _ here c.args.rates p
          c.in-Some.key next (eqb-true _ _ ps) (eqb-true _ _ pb) e));
    }

pub returns-in_ok-fill-in-Some : goal.returns-in_ok-fill-in-Some
returns-in_ok-fill-in-Some g c =
    let o = g.B.OfferBook.book c.args.book.now in
    let o_sound = g.met.B.OfferBook.sound c.args.book.now in
    let next = next_key o o_sound c.args.at (Some c.in-Some.key) c.in-Some.ensures in
    let (pq, e) = and_parts _ _ (sym c.if-not-serves.ensures) in
    let (ps, pb) = and_parts _ _ pq in
    let (ek, done) = c.in_ok-fill-in-Some.ensures in
    let some = next.1 in
    let d = div-le_self (c.in_ok-fill-in-Some.fill.sold * c.args.rates.sold) c.args.rates.bought in
    record {
      bounded = (omega (arith, done.sold, some, c.requires.some), omega (arith, done.sold), omega (arith, done.paid, d));
      kept = done.book.capacity;
      turned = λ s b first p here.
          turned s b first p.ready c.args.at.sold c.args.at.bought c.args.at c.args.rest _ _ here c.args.rates p
          c.in-Some.key next (eqb-true _ _ ps) (eqb-true _ _ pb) e _ _ refl _ c.in_ok-fill-in-Some.fill ek done;
    }
