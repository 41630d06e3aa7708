use Rattle.std.proofs.Common.{◌≡◌, ◌*◌, ◌/◌, ◌<◌, [], ◌∷◌, ◌++◌, length, get_or, take, refl, sym, ap, ◌∙◌, arith, rules}
use Rattle.std.proofs.lemmas.List.{length-set, take_more_set}
use Rattle.terms.specs.Bytes.{field}
use Rattle.sha256.proofs.Chunks.{quad_at, field_quad}
use Rattle.sha256.proofs.Schedule.{words_none, words_more}
use Rattle.sha256.proofs.compress.load.Goals as goal

pub loop-t-init : goal.loop-t-init
loop-t-init c = (refl, sym (words_none c.args.block.now))

pub loop-t-preserved : goal.loop-t-preserved
loop-t-preserved c =
    let block = c.args.block.now in
    let w = c.loop-t.w in
    let t = c.loop-t.t in
    let quads = c.as_chunks.result.0.now in
    let low : t < length block / 4 = omega (arith, c.as_chunks.ensures.front_len) in
    let room : t < length w = omega (arith, c.loop-t.invariant.0) in
    let read : c.from_be_bytes.result ≡ field 4 (get_or quads t []) 0 = search rules in
    let quad = ap (λ qs. get_or qs t []) c.as_chunks.ensures.front ∙ quad_at (length block / 4) t block [] low in
    let word : c.from_be_bytes.result ≡ field 4 block (4 * t) = read ∙ (ap (λ q. field 4 q 0) quad ∙ field_quad block (4 * t)) in (
      length-set _ _ _ ∙ c.loop-t.invariant.0,
      take_more_set w t c.from_be_bytes.result room
          ∙ (ap (λ x. take t w ++ x ∷ []) word
          ∙ (ap (λ x. x ++ field 4 block (4 * t) ∷ []) c.loop-t.invariant.1 ∙ sym (words_more t block))),
    )
