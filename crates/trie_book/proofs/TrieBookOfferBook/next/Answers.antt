use Rattle.std.proofs.Common.{Some, None, ap, ◌∙◌, subst}
use Rattle.terms.specs.Order.{words}
use Rattle.ordered.specs.Places.{told}
use Rattle.trie.specs.Trie.{Next}
use Rattle.trie_book.specs.Codes.{Starts}
use Rattle.trie_book.proofs.Flats.{next_is, next_none, held_small}
use Rattle.trie_book.proofs.TrieBookOfferBook.next.Goals as goal

pub returns-in_err-from : goal.returns-in_err-from
returns-in_err-from c =
    let t = c.args.self.now.trie in
    ap (told words) c.from_residual.ensures ∙ next_none t.root t.ok c.args.key (subst (Starts c.args.key) c.in_err-from.was c.start.ensures)

pub key_of-requires : goal.key_of-requires
key_of-requires c =
    let t = c.args.self.now.trie in
    held_small t.root t.ok c.in_ok-found.found (subst (Next c.in_ok-from.from t.root) c.in_ok-found.was c.next.ensures).1

pub returns : goal.returns
returns c =
    let t = c.args.self.now.trie in
    ap words c.key_of.ensures
    ∙ next_is t.capacity t.root t.ok c.args.self.now.sound c.args.key c.in_ok-from.from (subst (Starts c.args.key) c.in_ok-from.was c.start.ensures) (Some c.in_ok-found.found)
    (subst (Next c.in_ok-from.from t.root) c.in_ok-found.was c.next.ensures)

pub returns-in_err-found : goal.returns-in_err-found
returns-in_err-found c =
    let t = c.args.self.now.trie in
    ap (told words) c.from_residual-in_err-found.ensures
    ∙ next_is t.capacity t.root t.ok c.args.self.now.sound c.args.key c.in_ok-from.from (subst (Starts c.args.key) c.in_ok-from.was c.start.ensures) None
    (subst (Next c.in_ok-from.from t.root) c.in_err-found.was c.next.ensures)
