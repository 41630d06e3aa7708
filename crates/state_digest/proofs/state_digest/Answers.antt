use Rattle.std.proofs.Common.{◌≡◌, [], ◌∷◌, ◌++◌, length, sym, ap, ◌∙◌, ap₂}
use Rattle.std.specs.List.{flat_map}
use Rattle.terms.specs.Bytes.{bytes_of}
use Rattle.sha256.specs.Digest.{sha256}
use Rattle.exchange.specs.Commit.{account_bytes, offer_bytes}
use Rattle.state_digest.proofs.Pieces.{four_bytes, seven}
use Rattle.state_digest.proofs.state_digest.Goals as goal

pub returns : goal.returns
returns g c = λ s st bk h rs.
    let accounts = (g.S.AccountStore.store c.args.store.now).accounts in
    let offers = (g.B.OfferBook.book c.args.book.now).offers in
    let standing : s.store.accounts ≡ accounts = ap (λ x. x.accounts) st in
    let resting : s.book.offers ≡ offers = ap (λ x. x.offers) bk in
    let height : c.to_be_bytes.result ≡ bytes_of 4 s.own.height = c.to_be_bytes.ensures ∙ (four_bytes c.args.height ∙ ap (bytes_of 4) (sym h)) in
    let remainders : flat_map (bytes_of 8) c.args.remainders.now ≡ flat_map (bytes_of 8) s.own.remainders = ap (flat_map (bytes_of 8)) (sym rs) in
    let many : c.to_be_bytes-2.result ≡ bytes_of 4 (length s.store.accounts) =
    c.to_be_bytes-2.ensures ∙ (four_bytes c.count.result ∙ ap (bytes_of 4) (c.count.ensures ∙ ap length (sym standing))) in
    let more : c.to_be_bytes-3.result ≡ bytes_of 4 (length s.book.offers) =
    c.to_be_bytes-3.ensures ∙ (four_bytes c.count-2.result ∙ ap (bytes_of 4) (c.count-2.ensures ∙ ap length (sym resting))) in
    let held = c.add_offers.ensures _ (c.update-4.ensures _ (c.add_accounts.ensures _ (c.update-3.ensures _ (c.add_amounts.ensures _ (c.update-2.ensures _ (c.update.ensures [] c.new-hasher.ensures)))))) in
    let pieces = seven (0x53 ∷ []) c.to_be_bytes.result (flat_map (bytes_of 8) c.args.remainders.now) c.to_be_bytes-2.result (flat_map account_bytes accounts) c.to_be_bytes-3.result (flat_map offer_bytes offers) in
    let bytes = ap (λ z. 0x53 ∷ z)
    (ap₂ (λ x y. x ++ y) height (ap₂ (λ x y. x ++ y) remainders (ap₂ (λ x y. x ++ y) many
    (ap₂ (λ x y. x ++ y) (ap (flat_map account_bytes) (sym standing)) (ap₂ (λ x y. x ++ y) more (ap (flat_map offer_bytes) (sym resting))))))) in
    c.finish.ensures.digest _ held ∙ ap sha256 (pieces ∙ bytes)
