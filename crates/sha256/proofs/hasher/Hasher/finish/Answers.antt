use Rattle.std.proofs.Common.{◌≡◌, ◌+◌, ◌-◌, ◌%◌, ◌∷◌, ◌++◌, length, take, replicate, ◌∙◌, arith}
use Rattle.sha256.specs.Padding.{zeros}
use Rattle.sha256.proofs.Stream.{length_bytes, padded, finished}
use Rattle.sha256.proofs.hasher.Hasher.finish.Goals as goal

pub returns : goal.returns
returns c =
    record {
      digest = λ m k.
          let s = c.args.self in
          let n = (119 - c.used.result) % 64 in
          let z : n ≡ zeros (length m) = omega (arith, c.used.ensures, k.size) in
          let last = c.to_be_bytes.ensures ∙ length_bytes s.count m k.size in
          c.bytes.ensures
          ∙ finished _ _ _ m _ (c.update-2.ensures (m ++ take (n + 1) (0x80 ∷ replicate 63 0)) (c.update.ensures m k)) (padded m n _ z last);
      padding = λ n. (omega arith, omega arith);
    }
