use Rattle.std.proofs.Common.{◌≡◌, ◌+◌, ◌/◌, min, length, refl, arith}
use Rattle.replay.proofs.Sizes.{exchanged, book_by_size}
use Rattle.replay.proofs.replaying.over_store.Goals as goal

pub returns-in_ok-trie-in-Trie : goal.returns-in_ok-trie-in-Trie
returns-in_ok-trie-in-Trie g c =
    let nodes = c.saturating_sub.result in
    let size : min ((nodes + 1) / 2) 65536 ≡ min c.args.settings.offers 65536 = omega (arith, c.saturating_mul.ensures, c.saturating_sub.ensures) in
    exchanged _ _ _ _ _ _ refl (book_by_size _ _ _ c.in_ok-trie-in-Trie.ensures size) c.list_stream.ensures

pub returns-in_ok-slots-in-Table : goal.returns-in_ok-slots-in-Table
returns-in_ok-slots-in-Table g c =
    let slots = c.as_mut_slice.result.now in
    let made = c.in_ok-slots-in-Table.ensures.len in
    let size : min (length slots) 65536 ≡ min c.args.settings.offers 65536 = omega (arith, c.as_mut_slice.ensures.len, made) in
    exchanged _ _ _ _ _ _ refl (book_by_size _ _ _ c.new-table.ensures size) c.list_stream-in-Table.ensures
