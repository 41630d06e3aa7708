use Rattle.std.proofs.Common.{◌≡◌, ℕ, ◌<◌, List, [], map, length, get_or, take, sym, ap, ◌∙◌, arith, rules}
use Rattle.std.specs.List.{flat_map}
use Rattle.std.proofs.lemmas.List.{ext_get_or, get_or-map}
use Rattle.terms.specs.Bytes.{bytes_of}
use Rattle.sha256.specs.Digest.{words_in}
use Rattle.sha256.proofs.compress.State.bytes.Goals as goal

pub returns : goal.returns
returns c =
    let words = words_in c.args.self in
    let quads = c.map-quads.result in
    let long : length quads ≡ 8 = c.map-quads.ensures.items.long in
    let at : (i : ℕ) → i < length quads → get_or quads i [] ≡ get_or (map (bytes_of 4) words) i [] =
    λ i h.
    let low : i < 8 = omega arith in
    let call = c.map-quads.ensures.items.at i 0 [] low in
    let quad : get_or quads i [] ≡ bytes_of 4 (get_or words i 0) = search (rules, call.2.met) in
    quad ∙ sym (get_or-map (bytes_of 4) words i 0 [] low) in
    let front = rw c.unwrap.ensures at c.first_chunk.ensures.cases in
    front.same ∙ (ap (take 32) c.as_flattened.ensures.value ∙ ap (λ q. take 32 (flat_map (λ (x : List ℕ). x) q)) (ext_get_or [] quads (map (bytes_of 4) words) long at))
