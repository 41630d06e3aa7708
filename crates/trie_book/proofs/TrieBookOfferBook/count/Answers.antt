use Rattle.std.proofs.Common.{sym, ◌∙◌}
use Rattle.trie_book.proofs.Flats.{count_flat}
use Rattle.trie_book.proofs.TrieBookOfferBook.count.Goals as goal

pub returns : goal.returns
returns c = c.count.ensures ∙ sym (count_flat c.args.self.now.trie.root)
