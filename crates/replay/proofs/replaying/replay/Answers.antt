use Rattle.std.proofs.Common.{◌≡◌, ◌/◌, min, length, refl, arith}
use Rattle.replay.proofs.Sizes.{exchanged, store_of}
use Rattle.replay.proofs.replaying.replay.Goals as goal

pub returns-in-Sorted : goal.returns-in-Sorted
returns-in-Sorted c =
    let slots = c.as_mut_slice.result.now in
    let size : min (length slots) 65536 ≡ min c.args.settings.accounts 65536 = omega (arith, c.as_mut_slice.ensures.len, c.in_ok-slots.ensures.len) in
    exchanged _ _ _ _ _ _ (store_of _ _ _ _ c.new-store.ensures size) refl c.over_store.ensures

pub returns : goal.returns
returns c =
    let slots = c.as_mut_slice-in-Hashed.result.now in
    let index = c.as_mut_slice-in-Hashed-2.result.now in
    let many : length slots ≡ c.args.settings.accounts = omega (arith, c.as_mut_slice-in-Hashed.ensures.len, c.in_ok-slots.ensures.len) in
    let thrice : length index ≡ c.saturating_mul.result = omega (arith, c.as_mut_slice-in-Hashed-2.ensures.len, c.in_ok-index-in-Hashed.ensures.len) in
    let size : min (min (length slots) (length index / 3)) 65536 ≡ min c.args.settings.accounts 65536 = omega (arith, many, thrice, c.saturating_mul.ensures) in
    exchanged _ _ _ _ _ _ (store_of _ _ _ _ c.new-store-in-Hashed.ensures size) refl c.over_store-in-Hashed.ensures
