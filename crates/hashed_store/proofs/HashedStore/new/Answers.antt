use Rattle.std.proofs.Common.{◌≡◌, ◌*◌, length, take, replicate, ap, ◌∙◌, arith}
use Rattle.std.proofs.lemmas.List.{length-take-le}
use Rattle.hashed_store.proofs.Stores.{cleared}
use Rattle.hashed_store.proofs.HashedStore.new.Goals as goal

pub invariant_of-result : goal.invariant_of-result
invariant_of-result c =
    let n : length (take c.min-n.result c.args.slots.now) ≡ c.min-n.result = length-take-le c.min-n.result c.args.slots.now (omega (arith, c.min.ensures, c.min-n.ensures)) in
    let m : length (take (2 * c.min-n.result) c.split_at_mut-order.result.1.now) ≡ 2 * c.min-n.result =
    length-take-le (2 * c.min-n.result) c.split_at_mut-order.result.1.now (omega (arith, c.min.ensures, c.min-n.ensures, c.split_at_mut-order.ensures.back_len)) in
    let free : c.default.result ≡ record { number = 0; slot = 0 } = λ i. record { number = c.default.ensures.0 i; slot = c.default.ensures.1 i } in
    let w =
    cleared c.args.top _ (take c.min-n.result c.args.slots.now) c.fill.new.self c.new.result (ap (λ t. t.records) c.new.ensures)
    (c.fill.ensures.after (λ y e. e) ∙ ap (replicate (length (take (2 * c.min-n.result) c.split_at_mut-order.result.1.now))) free)
    (omega (arith, ap (λ t. t.capacity) c.new.ensures, c.split_at_mut-order.ensures.front_len, n))
    (omega (arith, c.fill.ensures.len, n, m))
    (omega (arith, n, c.min-n.ensures))
    (omega arith) in
    record { even = w.even; roomy = w.roomy; laid = w.parts.laid_all; linked = w.parts.linked; finds = w.parts.finds; sums = w.parts.sums; sound = w.parts.sound }
