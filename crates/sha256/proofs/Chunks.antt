-- A list cut into chunks. Assumes nothing.
use Rattle.std.proofs.Common.{◌≡◌, ℕ, zero, suc, ◌+◌, ◌*◌, ◌<◌, List, ◌++◌, get_or, take, drop, sym, refl, ap, ◌∙◌, arith, drop-drop, get_or-take, get_or-drop}
use Rattle.std.specs.List.{flat_map}
use Rattle.std.specs.Simd.{first_chunks}
use Rattle.std.proofs.lemmas.List.{append_assoc, take-append-drop}
use Rattle.terms.specs.Bytes.{field}

pub quad_at : (k i : ℕ) (xs : List ℕ) (d : List ℕ) → i < k → get_or (first_chunks 4 k xs) i d ≡ take 4 (drop (4 * i) xs)
quad_at zero i xs d h = absurd (omega arith)
quad_at (suc k) zero xs d h = refl
quad_at (suc k) (suc i) xs d h =
    let n : 4 + 4 * i ≡ 4 * suc i = omega arith in
    quad_at k i (drop 4 xs) d (omega arith) ∙ (ap (take 4) (drop-drop (4 * i) 4 xs) ∙ ap (λ j. take 4 (drop j xs)) n)

pub field_quad : (bs : List ℕ) (at : ℕ) → field 4 (take 4 (drop at bs)) 0 ≡ field 4 bs at
field_quad bs at =
    let byte : (k : ℕ) → k < 4 → get_or (take 4 (drop at bs)) k 0 ≡ get_or bs (at + k) 0 =
    λ k h. get_or-take 4 (drop at bs) k 0 h ∙ get_or-drop at bs k 0 in
    let a = byte 0 (omega arith) in
    let b = byte 1 (omega arith) in
    let c = byte 2 (omega arith) in
    let d = byte 3 (omega arith) in
    cc

pub joined : (k : ℕ) (xs : List ℕ) → flat_map (λ x. x) (first_chunks 64 k xs) ++ drop (k * 64) xs ≡ xs
joined zero xs = refl
joined (suc k) xs =
    let n : suc k * 64 ≡ 64 + k * 64 = omega arith in
    ap (λ j. (take 64 xs ++ flat_map (λ x. x) (first_chunks 64 k (drop 64 xs))) ++ drop j xs) n
    ∙ (append_assoc (take 64 xs) (flat_map (λ x. x) (first_chunks 64 k (drop 64 xs))) (drop (64 + k * 64) xs)
    ∙ (ap (λ y. take 64 xs ++ (flat_map (λ x. x) (first_chunks 64 k (drop 64 xs)) ++ y)) (sym (drop-drop (k * 64) 64 xs))
    ∙ (ap (λ y. take 64 xs ++ y) (joined k (drop 64 xs)) ∙ take-append-drop 64 xs)))
