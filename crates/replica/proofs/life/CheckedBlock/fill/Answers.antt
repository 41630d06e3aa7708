use Rattle.std.proofs.Common.{Ok, sym, ap, ap₂}
use Rattle.blocks.specs.Decoded.{block_of}
use Rattle.replica.proofs.Rulings.{passes}
use Rattle.replica.proofs.life.CheckedBlock.fill.Goals as goal

pub returns : goal.returns
returns g c =
    let b = block_of c.in_ok-block.block in
    let rules = c.in_ok-block.ensures in
    let p = passes c.args.replica.now _ b rules in
    let f = c.filled-sold.ensures c.args.replica.now (sym (ap (λ s. s.book) c.replica.view_is)) p.clean in
    rw (← c.self.view_is) (record { ruling = Ok b; rules = rules; answer = ap₂ (λ n m. Ok (n, m)) f.0 f.1 })
