use Rattle.std.proofs.Common.{◌≡◌, ◌++◌, sym, ap, ◌∙◌, subst, ap₂}
use Rattle.std.specs.List.{flat_map}
use Rattle.terms.specs.Bytes.{bytes_of}
use Rattle.accounts.proofs.Sound.{store_parts}
use Rattle.accounts.proofs.Eights.{own, own_balances}
use Rattle.sha256.specs.Streaming.{Holds}
use Rattle.exchange.specs.Commit.{account_bytes}
use Rattle.state_digest.proofs.Pieces.{four_bytes, three}
use Rattle.state_digest.proofs.add_account.Goals as goal

pub returns : goal.returns
returns g c = λ m a has is k.
    let st = (g.S.AccountStore.store c.args.store.now) in
    let ok = store_parts st (g.met.S.AccountStore.sound c.args.store.now) in
    let floor : c.floor.result ≡ a.floor = c.floor.ensures ∙ own st c.args.number a ok has is (λ b. b.floor) in
    let p : c.to_be_bytes.result ≡ bytes_of 4 a.number = c.to_be_bytes.ensures ∙ (four_bytes c.args.number ∙ ap (bytes_of 4) (sym is)) in
    let q : c.to_be_bytes-2.result ≡ bytes_of 4 a.floor = c.to_be_bytes-2.ensures ∙ (four_bytes c.floor.result ∙ ap (bytes_of 4) floor) in
    let r : flat_map (bytes_of 8) c.balances.result ≡ flat_map (bytes_of 8) a.balances = ap (flat_map (bytes_of 8)) (c.balances.ensures ∙ own_balances st c.args.number a ok has is) in
    let h = c.add_amounts.ensures _ (c.update-2.ensures _ (c.update.ensures m k)) in
    let pieces : (((m ++ c.to_be_bytes.result) ++ c.to_be_bytes-2.result) ++ flat_map (bytes_of 8) c.balances.result) ≡ m ++ account_bytes a =
    three m c.to_be_bytes.result c.to_be_bytes-2.result (flat_map (bytes_of 8) c.balances.result) ∙ ap (λ z. m ++ z) (ap₂ (λ x y. x ++ y) p (ap₂ (λ x y. x ++ y) q r)) in
    subst (Holds c.add_amounts.new.hasher) pieces h
