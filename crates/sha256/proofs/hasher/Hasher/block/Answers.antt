use Rattle.std.proofs.Common.{◌≡◌, ◌+◌, ◌%◌, ◌^◌, ◌++◌, length, take, sym, ap, subst, arith}
use Rattle.sha256.specs.Compression.{compress_of}
use Rattle.sha256.specs.Streaming.{Kept}
use Rattle.sha256.proofs.Stream.{completed}
use Rattle.sha256.proofs.hasher.Hasher.block.Goals as goal

pub returns-clause-holds : goal.returns-clause-holds
returns-clause-holds c m k =
    let s = c.args.self.now in
    let block = c.args.block.now in
    let len : length block ≡ 64 = omega arith in
    let none : length m % 64 ≡ 0 = omega (arith, k.size, c.requires) in
    let full : length m % 64 + length block ≡ 64 = omega arith in
    let e : block ≡ take (length m % 64) s.buffer ++ block = ap (λ i. take i s.buffer ++ block) (sym none) in
    subst (λ x. Kept x s.buffer ((s.count + 64) % 2 ^ 64) (m ++ block)) (sym c.compress-self.ensures)
    (subst (λ n. Kept (compress_of s.state block) s.buffer ((s.count + n) % 2 ^ 64) (m ++ block)) len
    (completed s.state s.buffer s.count m block k s.buffer block full e))
