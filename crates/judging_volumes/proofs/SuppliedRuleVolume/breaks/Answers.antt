use Rattle.std.proofs.Common.{ℕ, ltb, [], ◌∷◌, ◌∙◌, ap₂, arith}
use Rattle.exchange.specs.Trade.{supply}
use Rattle.judging_rules.specs.Rows.{scene, no_store, deal}
use Rattle.judging_volumes.proofs.Supply.{supplied, fewer}
use Rattle.judging_volumes.proofs.SuppliedRuleVolume.breaks.Goals as goal

pub returns : goal.returns
returns g c = λ (t, small, once).
    let r = c.args.self.now in
    let v = c.args.v in
    let o = g.B.OfferBook.book r.book.now in
    let o_sound = g.met.B.OfferBook.sound r.book.now in
    let net = c.look_up-net.result in
    let d : ℕ = supply (scene no_store o 0 []) (deal r.prices.now [] r.transactions.now) v.sold v.bought in
    let e = supplied o r.prices.now r.transactions.now v.sold v.bought o_sound once c.highest_limit-limit.result c.highest_limit-limit.ensures in
    let m = c.look_up-net.ensures.minus t.rising ∙ t.minus (v.sold ∷ v.bought ∷ []) in
    let p = c.look_up-net.ensures.plus t.rising ∙ t.plus (v.sold ∷ v.bought ∷ []) in
    let n = c.look_up-net.ensures.small small in
    ap₂ ltb c.saturating_add.ensures c.saturating_add-2.ensures
    ∙ fewer d net.minus c.up_to-resting.result net.plus v.amount (omega (arith, e, c.up_to-resting.ensures, m, p)) (omega arith) (omega arith) n.0 n.1
