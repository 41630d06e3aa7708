use Rattle.std.proofs.Common.{◌≡◌, ◌<◌, [], ◌∷◌, ◌++◌, length, vec_items, ap, ◌∙◌, rules}
use Rattle.listing.proofs.Streaming.{goes_on, ends_well, ends_badly}
use Rattle.listing.proofs.stream.take_blocks.Goals as goal

pub loop-rest-preserved : goal.loop-rest-preserved
loop-rest-preserved g c =
    goes_on _ _ _ _ _ _ c.loop-rest.invariant _ _ _ _ _ _ c.in-Ok.ensures c.split_at.ensures.front c.split_at.ensures.back
    c.take_block.ensures (c.in_ok-push.ensures.items ∙ ap (λ l. vec_items c.loop-rest.lines ++ l ∷ []) c.into.ensures)

pub returns-in-Err : goal.returns-in-Err
returns-in-Err g c =
    let some : 0 < length c.loop-rest.rest.now = search rules in
    ends_badly _ _ _ _ _ _ c.loop-rest.invariant c.in-Err.fault _ some c.in-Err.ensures c.in_ok-push-in-Err.ensures.items

pub returns : goal.returns
returns g c =
    let none : length c.loop-rest.rest.now ≡ 0 = search rules in
    ends_well _ _ _ _ _ _ c.loop-rest.invariant none
