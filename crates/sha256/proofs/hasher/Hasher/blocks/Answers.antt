use Rattle.std.proofs.Common.{ℕ, List, [], ◌++◌, get_or, take, sym, ap, ◌∙◌, subst, arith}
use Rattle.std.specs.List.{flat_map}
use Rattle.std.proofs.lemmas.List.{take_more, flat_map_more}
use Rattle.sha256.specs.Streaming.{Holds}
use Rattle.sha256.proofs.hasher.Hasher.blocks.Goals as goal

pub loop-block-preserved : goal.loop-block-preserved
loop-block-preserved c =
    let blocks = c.args.blocks.now in
    let i = c.loop-block.block-index in
    let flat = flat_map (λ (block : List ℕ). block) in (
      omega (arith, c.loop-block.invariant.0, c.block.ensures.count),
      λ m k.
          subst (Holds c.block.new.self)
          (flat_map_more (λ (block : List ℕ). block) m (take i blocks) (get_or blocks i []) ∙ ap (λ l. m ++ flat l) (sym (take_more blocks i [] c.loop-block-test.true)))
          (c.block.ensures.holds (m ++ flat (take i blocks)) (c.loop-block.invariant.1 m k)),
    )
