use Rattle.std.proofs.Common.{◌≡◌, ℕ, ◌*◌, ◌/◌, List, ◌++◌, length, drop, sym, ap, ◌∙◌, subst}
use Rattle.std.specs.List.{flat_map}
use Rattle.std.proofs.lemmas.List.{append_assoc}
use Rattle.sha256.specs.Streaming.{Holds}
use Rattle.sha256.proofs.Chunks.{joined}
use Rattle.sha256.proofs.hasher.Hasher.update.Goals as goal

pieces : (m head rest blocks tail all : List ℕ) → all ≡ head ++ rest → rest ≡ blocks ++ tail → ((m ++ head) ++ blocks) ++ tail ≡ m ++ all
pieces m head rest blocks tail all e f =
    append_assoc (m ++ head) blocks tail
    ∙ (ap (λ x. (m ++ head) ++ x) (sym f) ∙ (append_assoc m head rest ∙ ap (λ x. m ++ x) (sym e)))

pub returns : goal.returns
returns c m k =
    let head = c.split_at.result.0.now in
    let rest = c.split_at.result.1.now in
    let blocks = c.as_chunks.result.0.now in
    let e = c.split_at.ensures.by_index.0 in
    let tail = c.as_chunks.result.1.now in
    let n = length rest / 64 in
    let flat = flat_map (λ (block : List ℕ). block) in
    let f : rest ≡ flat blocks ++ tail =
    sym (joined n rest)
    ∙ (ap (λ bs. flat bs ++ drop (n * 64) rest) (sym c.as_chunks.ensures.front) ∙ ap (λ t. flat blocks ++ t) (sym c.as_chunks.ensures.back)) in
    subst (Holds c.keep-2.new.self) (pieces m head rest (flat blocks) tail c.args.bytes.now e f)
    (c.keep-2.ensures.holds ((m ++ head) ++ flat blocks) (c.blocks-2.ensures.holds (m ++ head) (c.keep.ensures.holds m k)))
