use Rattle.std.proofs.Common.{refl, arith}
use Rattle.blocks.specs.Decoded.{block_of}
use Rattle.clearing.specs.Clear.{after}
use Rattle.clearing.proofs.Committing.{commits}
use Rattle.replica.specs.Meaning.{state_of}
use Rattle.replica.proofs.Applies.{done, ready, height_left, sound_after}
use Rattle.replica.proofs.life.Replica.apply.Goals as goal

pub unwrap-requires : goal.unwrap-requires
unwrap-requires g c =
    let s = state_of (g.S.AccountStore.store c.self.inside.store) (g.B.OfferBook.book c.self.inside.book) c.self.inside.numbers in
    let r = ready s _ (block_of c.args.block.now) c.self.view_is c.self.invariant c.requires.founded c.requires.clean in
    (done c.clear.result (c.clear.ensures s refl refl refl r.sound r.clean)).0

pub overflow_add-height : goal.overflow_add-height
overflow_add-height g c =
    let s = state_of (g.S.AccountStore.store c.self.inside.store) (g.B.OfferBook.book c.self.inside.book) c.self.inside.numbers in
    let b = block_of c.args.block.now in
    let left = height_left s b c.args.block.now.ranges (ready s _ b c.self.view_is c.self.invariant c.requires.founded c.requires.clean) in
    omega (arith, left)

pub invariant_of-self : goal.invariant_of-self
invariant_of-self g c = λ _.
    let s = state_of (g.S.AccountStore.store c.self.inside.store) (g.B.OfferBook.book c.self.inside.book) c.self.inside.numbers in
    let b = block_of c.args.block.now in
    let r = ready s _ b c.self.view_is c.self.invariant c.requires.founded c.requires.clean in
    let st = g.S.AccountStore.store c.clear.new.store in
    let bk = g.B.OfferBook.book c.clear.new.book in
    let t = after s st bk c.clear.new.remainders c.state_digest-digest.result in
    sound_after s b c.args.block.now.ranges r t
    (commits s b st bk _ _ (done c.clear.result (c.clear.ensures s refl refl refl r.sound r.clean)).1
    (g.met.S.AccountStore.sound c.clear.new.store) (g.met.B.OfferBook.sound c.clear.new.book) (c.state_digest-digest.ensures t refl refl refl refl))

pub returns : goal.returns
returns g c =
    let s = state_of (g.S.AccountStore.store c.self.inside.store) (g.B.OfferBook.book c.self.inside.book) c.self.inside.numbers in
    let b = block_of c.args.block.now in
    let r = ready s _ b c.self.view_is c.self.invariant c.requires.founded c.requires.clean in
    let st = g.S.AccountStore.store c.clear.new.store in
    let bk = g.B.OfferBook.book c.clear.new.book in
    let t = after s st bk c.clear.new.remainders c.state_digest-digest.result in
    rw (← c.self.view_is)
    (commits s b st bk _ _ (done c.clear.result (c.clear.ensures s refl refl refl r.sound r.clean)).1
    (g.met.S.AccountStore.sound c.clear.new.store) (g.met.B.OfferBook.sound c.clear.new.book) (c.state_digest-digest.ensures t refl refl refl refl))
