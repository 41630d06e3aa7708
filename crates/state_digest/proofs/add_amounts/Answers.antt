use Rattle.std.proofs.Common.{◌≡◌, ◌<◌, ◌++◌, length, get_or, take, sym, ap, ◌∙◌, subst, arith, take_all}
use Rattle.std.specs.List.{flat_map}
use Rattle.std.proofs.lemmas.List.{take_more, flat_map_more}
use Rattle.terms.specs.Bytes.{bytes_of}
use Rattle.sha256.specs.Streaming.{Holds}
use Rattle.state_digest.proofs.Pieces.{eight_bytes}
use Rattle.state_digest.proofs.add_amounts.Goals as goal

pub loop-amount-preserved : goal.loop-amount-preserved
loop-amount-preserved c = λ m k.
    let xs = c.args.amounts.now in
    let i = c.loop-amount.amount-index in
    let h = c.update.ensures _ (c.loop-amount.invariant m k) in
    let here : i < length xs = omega (arith, c.told-amounts, c.loop-amount-test.true) in
    let bytes : c.to_be_bytes.result ≡ bytes_of 8 (get_or xs i 0) = c.to_be_bytes.ensures ∙ eight_bytes (get_or xs i 0) in
    let more = flat_map_more (bytes_of 8) m (take i xs) (get_or xs i 0) ∙ ap (λ ys. m ++ flat_map (bytes_of 8) ys) (sym (take_more xs i 0 here)) in
    subst (Holds c.update.new.self) (ap (λ z. (m ++ flat_map (bytes_of 8) (take i xs)) ++ z) bytes ∙ more) h

pub returns : goal.returns
returns c = λ m k.
    let xs = c.args.amounts.now in
    let i = c.loop-amount.amount-index in
    let all : take i xs ≡ xs = take_all i xs (omega (arith, c.told-amounts, c.loop-amount-test.false)) in
    subst (λ ys. Holds c.loop-amount.hasher (m ++ flat_map (bytes_of 8) ys)) all (c.loop-amount.invariant m k)
