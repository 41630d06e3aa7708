-- Lines added one by one, while a list whose keys rise is gone through. Assumes nothing.
use Rattle.std.proofs.Common.{◌≡◌, ℕ, ◌<◌, List, [], ◌∷◌, ◌++◌, map, length, sym, ap, ◌∙◌, ap₂, append_assoc, append-nil, arith}
use Rattle.state_digest.specs.Rest.{rest}
use Rattle.state_digest.proofs.Rests.{Next}

module _ {X Y : Type 0} (key : X → List ℕ) (f : X → Y) (xs : List X) (k : List ℕ) where
  -- f of the next entry goes behind what is there
  pub moved : (l : List ℕ) (w v z : List Y) (n : Next key xs k l) → v ≡ w ++ f n.entry ∷ [] → w ++ map f (rest key xs k) ≡ z → v ++ map f (rest key xs l) ≡ z
  moved l w v z n p e =
      ap (λ u. u ++ map f (rest key xs l)) p ∙ (append_assoc w (f n.entry ∷ []) (map f (rest key xs l)) ∙ (ap (λ ys. w ++ map f ys) (sym n.more) ∙ e))

  pub fewer : (l : List ℕ) → Next key xs k l → length (rest key xs l) < length (rest key xs k)
  fewer l n = omega (arith, ap length n.more)

  -- nothing is left
  pub ended : (w z : List Y) → rest key xs k ≡ [] → w ++ map f (rest key xs k) ≡ z → w ≡ z
  ended w z n e = sym (append-nil w) ∙ (ap (λ ys. w ++ map f ys) (sym n) ∙ e)

-- a line, a list of lines, another and a line, put behind what is there
pub four : {Y : Type 0} (start one two three all xs ys : List Y) (r q d e : Y) → one ≡ start ++ r ∷ [] → two ≡ one ++ xs → three ≡ two ++ ys → all ≡ three ++ d ∷ []
    → r ≡ q → d ≡ e → all ≡ start ++ (q ∷ (xs ++ (ys ++ e ∷ [])))
four start one two three all xs ys r q d e h₁ h₂ h₃ h₄ p s =
    let flat : (((start ++ r ∷ []) ++ xs) ++ ys) ++ d ∷ [] ≡ start ++ (r ∷ (xs ++ (ys ++ d ∷ []))) = simp append_assoc in
    let joined : all ≡ (((start ++ r ∷ []) ++ xs) ++ ys) ++ d ∷ [] = cc in
    joined ∙ (flat ∙ ap₂ (λ x y. start ++ (x ∷ (xs ++ (ys ++ y ∷ [])))) p s)
