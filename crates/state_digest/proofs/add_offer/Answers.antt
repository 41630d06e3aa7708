use Rattle.std.proofs.Common.{◌≡◌, ◌/◌, ◌%◌, [], ◌∷◌, ◌++◌, ap, ◌∙◌, subst, arith}
use Rattle.terms.specs.Bytes.{bytes_of}
use Rattle.sha256.specs.Streaming.{Holds}
use Rattle.state_digest.proofs.Pieces.{four_bytes, eight_bytes, five, put_together}
use Rattle.state_digest.proofs.add_offer.Goals as goal

pub returns : goal.returns
returns c = λ m k.
    let key = c.args.key in
    let n = c.args.amount in
    let h = c.update-5.ensures _ (c.update-4.ensures _ (c.update-3.ensures _ (c.update-2.ensures _ (c.update.ensures m k)))) in
    let p : c.to_be_bytes.result ≡ bytes_of 4 key.limit = c.to_be_bytes.ensures ∙ four_bytes key.limit in
    let q : c.to_be_bytes-2.result ≡ bytes_of 4 key.account = c.to_be_bytes-2.ensures ∙ four_bytes key.account in
    let r : c.to_be_bytes-3.result ≡ bytes_of 4 key.sequence = c.to_be_bytes-3.ensures ∙ four_bytes key.sequence in
    let u : c.to_be_bytes-4.result ≡ bytes_of 8 n = c.to_be_bytes-4.ensures ∙ eight_bytes n in
    let x : key.sold ≡ key.sold / 1 % 256 = omega arith in
    let y : key.bought ≡ key.bought / 1 % 256 = omega arith in
    let pieces = five m (key.sold ∷ key.bought ∷ []) c.to_be_bytes.result c.to_be_bytes-2.result c.to_be_bytes-3.result c.to_be_bytes-4.result in
    let bytes = put_together _ _ _ _ _ _ _ _ _ _ _ _ x y p q r u in
    subst (Holds c.update-5.new.self) (pieces ∙ ap (λ z. m ++ z) bytes) h
