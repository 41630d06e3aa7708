use Rattle.std.proofs.Common.{sym, ◌∙◌, subst}
use Rattle.trie.specs.Trie.{Lone}
use Rattle.trie.proofs.Sides.{sides, collapsed_left, collapsed_right}
use Rattle.trie.proofs.node.collapse.Goals as goal

pub returns-then-key-split : goal.returns-then-key-split
returns-then-key-split c =
    let is = sym c.replace-old.ensures.value ∙ c.in-Branch.is in
    let s = sides is c.requires.ok in
    let one = subst (Lone c.args.key c.args.by) is c.requires.lone in
    let e = c.swap.ensures.y_after ∙ c.deref_mut.ensures.value in
    rw e (collapsed_left s c.args.key c.args.by c.if-key-split.true (one.0 c.if-key-split.true))

pub returns-else-key-split : goal.returns-else-key-split
returns-else-key-split c =
    let is = sym c.replace-old.ensures.value ∙ c.in-Branch.is in
    let s = sides is c.requires.ok in
    let one = subst (Lone c.args.key c.args.by) is c.requires.lone in
    let e = c.swap-else-key-split.ensures.y_after ∙ c.deref_mut-else-key-split.ensures.value in
    rw e (collapsed_right s c.args.key c.args.by c.if-key-split.false (one.1 c.if-key-split.false))
