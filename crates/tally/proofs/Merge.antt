-- Effects added up, one by one. Assumes nothing.
use Rattle.std.proofs.Common.{◌≡◌, ℕ, ◌+◌, ◌-◌, ◌^◌, ◌<◌, ◌≤◌, Bool, true, false, cond, List, [], ◌∷◌, ◌++◌, length, get_or, take, set, sym, refl, ap, ◌∙◌, subst, inl, inr, arith}
use Rattle.std.specs.List.{AllByRecursion, refill}
use Rattle.std.proofs.lemmas.List.{take_all, take_more, take_more_set, get_or_default, set-get_or, drop_all, length-set, append-nil}
use Rattle.std.proofs.lemmas.List.Sums.{sum_by_push, sum_by-cons}
use Rattle.std.proofs.lemmas.Bool.{cases_Bool, both_ways, cond-true, cond-false}
use Rattle.std.proofs.ByRecursion.{All-weaker}
use Rattle.std.specs.Cmp.{IsStrictWeakOrder}
use Rattle.std.specs.List.Sorted.{IsSortedWithin, IsPermutation}
use Rattle.std.proofs.lemmas.List.Sorted.{sorted_far, sum_by-IsPermutation}
use Rattle.terms.specs.Order.{lower, same, Rising, under}
use Rattle.terms.proofs.Order.{transitive, total, asymmetric}
use Rattle.tally.specs.declared.effects.Effect.{Effect}
use Rattle.tally.specs.declared.effects.Net.{Net}
use Rattle.tally.specs.Tally.{net_of, with_more, added, Tallied, Small, Ahead}

module _ {K : Type 0} (w : K → List ℕ) where
  abbrev wn : Net K → List ℕ
  wn x = w x.key

  abbrev we : Effect K → List ℕ
  we e = w e.key

  added_last : (xs : List (Net K)) (x : Net K) (e : Effect K)
      → added w (xs ++ x ∷ []) e ≡ cond (lower (wn x) (we e)) ((xs ++ x ∷ []) ++ net_of e ∷ []) (xs ++ with_more x e ∷ [])
  added_last [] x e = refl
  added_last (y ∷ []) x e = elim (lower (wn x) (we e)) as (λ t. (y ∷ cond t (x ∷ net_of e ∷ []) (with_more x e ∷ [])) ≡ cond t (y ∷ x ∷ net_of e ∷ []) (y ∷ with_more x e ∷ [])) [ true ↦ refl | false ↦ refl ]
  added_last (y ∷ (z ∷ zs)) x e =
      ap (λ t. y ∷ t) (added_last (z ∷ zs) x e)
      ∙ elim (lower (wn x) (we e)) as (λ t. (y ∷ cond t (((z ∷ zs) ++ x ∷ []) ++ net_of e ∷ []) ((z ∷ zs) ++ with_more x e ∷ [])) ≡ cond t (((y ∷ (z ∷ zs)) ++ x ∷ []) ++ net_of e ∷ []) ((y ∷ (z ∷ zs)) ++ with_more x e ∷ [])) [ true ↦ refl | false ↦ refl ]

  before_last : (to : List (Net K)) (x : Net K) → 0 < length to → x ≡ get_or to (length to - 1) x → to ≡ take (length to - 1) to ++ x ∷ []
  before_last to x p e =
      let m : length to ≤ length to - 1 + 1 = omega arith in
      sym (take_all (length to - 1 + 1) to m) ∙ take_more to (length to - 1) x (omega arith) ∙ ap (λ z. take (length to - 1) to ++ z ∷ []) (sym e)

  -- more for the last entry
  pub put_merged : (to : List (Net K)) (x : Net K) (e : Effect K) → 0 < length to → x ≡ get_or to (length to - 1) x
      → lower (wn x) (we e) ≡ false → set to (length to - 1) (with_more x e) ≡ added w to e
  put_merged to x e p is low =
      let m : length (set to (length to - 1) (with_more x e)) ≤ length to - 1 + 1 = simp length-set (omega arith) in
      sym (take_all (length to - 1 + 1) (set to (length to - 1) (with_more x e)) m)
      ∙ take_more_set to (length to - 1) (with_more x e) (omega arith)
      ∙ sym (cond-false (lower (wn x) (we e)) ((take (length to - 1) to ++ x ∷ []) ++ net_of e ∷ []) (take (length to - 1) to ++ with_more x e ∷ []) low)
      ∙ sym (added_last (take (length to - 1) to) x e)
      ∙ ap (λ xs. added w xs e) (sym (before_last to x p is))

  pub put_first : (to : List (Net K)) (e : Effect K) → length to ≡ 0 → to ++ net_of e ∷ [] ≡ added w to e
  put_first [] e z = refl
  put_first (x ∷ xs) e z = absurd (omega arith)

  -- an entry after the last one
  pub put_new : (to : List (Net K)) (x : Net K) (e : Effect K) → 0 < length to → x ≡ get_or to (length to - 1) x
      → lower (wn x) (we e) ≡ true → to ++ net_of e ∷ [] ≡ added w to e
  put_new to x e p is low =
      let b = before_last to x p is in
      ap (λ xs. xs ++ net_of e ∷ []) b
      ∙ sym (cond-true (lower (wn x) (we e)) ((take (length to - 1) to ++ x ∷ []) ++ net_of e ∷ []) (take (length to - 1) to ++ with_more x e ∷ []) low)
      ∙ sym (added_last (take (length to - 1) to) x e)
      ∙ ap (λ xs. added w xs e) (sym b)

  -- what holds of each entry
  pub all_added : (P Q : Net K → Type 0) (ns : List (Net K)) (e : Effect K) → AllByRecursion P ns
      → ((x : Net K) → P x → Q x) → Q (net_of e) → ((x : Net K) → P x → Q (with_more x e)) → AllByRecursion Q (added w ns e)
  all_added P Q [] e a o p q = (p, tt)
  all_added P Q (x ∷ []) e a o p q =
      elim (lower (wn x) (we e)) as (λ t. AllByRecursion Q (cond t (x ∷ net_of e ∷ []) (with_more x e ∷ []))) [ true ↦ (o x a.0, (p, tt)) | false ↦ (q x a.0, tt) ]
  all_added P Q (x ∷ (y ∷ ys)) e a o p q = (o x a.0, all_added P Q (y ∷ ys) e a.1 o p q)

  -- sums: f of an entry, h of an effect
  module _ (f : Net K → ℕ) (h : Effect K → ℕ) (one : (e : Effect K) → f (net_of e) ≡ h e) (more : (x : Net K) (e : Effect K) → f (with_more x e) ≡ f x + h e) where
    under_added : (ns : List (Net K)) (e : Effect K) → AllByRecursion (λ x. lower (we e) (wn x) ≡ false) ns → (k : List ℕ)
        → under wn f (added w ns e) k ≡ under wn f ns k + cond (same (we e) k) (h e) 0
    under_added [] e a k = ap (λ n. 0 + cond (same (we e) k) n 0) (one e)
    under_added (x ∷ []) e a k =
        elim (cases_Bool (lower (wn x) (we e))) [
          | inl p ↦ ap (λ xs. under wn f xs k) (cond-true _ (x ∷ net_of e ∷ []) (with_more x e ∷ []) p) ∙ ap (λ n. 0 + cond (same (wn x) k) (f x) 0 + cond (same (we e) k) n 0) (one e)
          | inr p ↦
              let t = total (wn x) (we e) p a.0 in
              ap (λ xs. under wn f xs k) (cond-false _ (x ∷ net_of e ∷ []) (with_more x e ∷ []) p)
              ∙ ap (λ n. 0 + cond (same (wn x) k) n 0) (more x e)
              ∙ split (same (wn x) k)
              ∙ ap (λ z. 0 + cond (same (wn x) k) (f x) 0 + cond (same z k) (h e) 0) t
        ]
      where
        split : (t : Bool) → 0 + cond t (f x + h e) 0 ≡ 0 + cond t (f x) 0 + cond t (h e) 0
        split true = omega arith
        split false = omega arith
    under_added (x ∷ (y ∷ ys)) e a k =
        let g : Net K → ℕ = λ z. cond (same (wn z) k) (f z) 0 in
        omega (arith, sum_by-cons g x (added w (y ∷ ys) e), sum_by-cons g x (y ∷ ys), under_added (y ∷ ys) e a.1 k)

    pub under_more : (es : List (Effect K)) (ns : List (Net K)) (e : Effect K) → AllByRecursion (λ x. lower (we e) (wn x) ≡ false) ns
        → ((k : List ℕ) → under wn f ns k ≡ under we h es k) → (k : List ℕ) → under wn f (added w ns e) k ≡ under we h (es ++ e ∷ []) k
    under_more es ns e a s k =
        under_added ns e a k ∙ ap (λ n. n + cond (same (we e) k) (h e) 0) (s k) ∙ sym (sum_by_push (λ z. cond (same (we z) k) (h z) 0) es e)

  rising_added : (ns : List (Net K)) (e : Effect K) → AllByRecursion (λ x. lower (we e) (wn x) ≡ false) ns → Rising wn ns → Rising wn (added w ns e)
  rising_added [] e a r = (tt, tt)
  rising_added (x ∷ []) e a r =
      elim (cases_Bool (lower (wn x) (we e))) [
        | inl p ↦ subst (Rising wn) (sym (cond-true _ (x ∷ net_of e ∷ []) (with_more x e ∷ []) p)) ((p, tt), (tt, tt))
        | inr p ↦ subst (Rising wn) (sym (cond-false _ (x ∷ net_of e ∷ []) (with_more x e ∷ []) p)) (tt, tt)
      ]
  rising_added (x ∷ (y ∷ ys)) e a r =
      (all_added (λ z. lower (wn x) (wn z) ≡ true) (λ z. lower (wn x) (wn z) ≡ true) (y ∷ ys) e r.0 (λ z p. p) low (λ z p. p), rising_added (y ∷ ys) e a.1 r.1)
    where
      -- x is below y, and e is not
      low : lower (wn x) (we e) ≡ true
      low =
          elim (cases_Bool (lower (wn x) (we e))) [
            | inl p ↦ p
            | inr p ↦
                let t = total (wn x) (we e) p a.0 in
                absurd (both_ways (lower (we e) (wn y)) a.1.0 (subst (λ z. lower z (wn y) ≡ true) t r.0.0))
          ]

  pub tallied_more : (es : List (Effect K)) (ns : List (Net K)) (e : Effect K) → AllByRecursion (λ x. lower (we e) (wn x) ≡ false) ns
      → Tallied w es ns → Tallied w (es ++ e ∷ []) (added w ns e)
  tallied_more es ns e a t = record {
    rising = rising_added ns e a t.rising;
    plus = under_more (λ n. n.plus) (λ z. z.plus) (λ _. refl) (λ _ _. refl) es ns e a t.plus;
    minus = under_more (λ n. n.minus) (λ z. z.minus) (λ _. refl) (λ _ _. refl) es ns e a t.minus;
  }

  ranks_words : IsStrictWeakOrder (λ (x y : Effect K). lower (we x) (we y))
  ranks_words = record { one_way = λ x y p. asymmetric (we x) (we y) p; chain = λ x y z p q. chain x y z p q }
    where
      chain : (x y z : Effect K) → lower (we x) (we y) ≡ false → lower (we y) (we z) ≡ false → lower (we x) (we z) ≡ false
      chain x y z p q =
          elim (cases_Bool (lower (we x) (we z))) [
            | inr r ↦ r
            | inl r ↦
                absurd (both_ways (lower (we y) (we z)) q
                (elim (cases_Bool (lower (we y) (we x))) [
                  | inl s ↦ transitive (we y) (we x) (we z) s r
                  | inr s ↦ subst (λ k. lower k (we z) ≡ true) (total (we x) (we y) p s) r
                ]))
          ]

  pub merged_step : (es : List (Effect K)) (i : ℕ) (e : Effect K) (ns : List (Net K)) → i < length es → e ≡ get_or es i e → e.plus < 2 ^ 64 → e.minus < 2 ^ 64
      → IsSortedWithin (λ x y. lower (we x) (we y)) es 0 (length es) → Tallied w (take i es) ns → AllByRecursion (Ahead w es i) ns
      → Tallied w (take (i + 1) es) (added w ns e) × AllByRecursion (Ahead w es (i + 1)) (added w ns e)
  merged_step es i e ns l is p m up t a = (
    subst (λ z. Tallied w z (added w ns e)) (ap (λ z. take i es ++ z ∷ []) is ∙ sym (take_more es i e l))
        (tallied_more (take i es) ns e (All-weaker _ _ (λ x h. subst (λ z. lower (we z) (wn x) ≡ false) (sym is) (h.low i e (omega arith) l)) ns a) t),
    all_added (Ahead w es i) (Ahead w es (i + 1)) ns e a later first
        (λ x h. record { plus = omega (arith, h.plus); minus = omega (arith, h.minus); low = λ j d q r. h.low j d (omega arith) r }),
  )
    where
      later : (x : Net K) → Ahead w es i x → Ahead w es (i + 1) x
      later x h = record { plus = omega (arith, h.plus); minus = omega (arith, h.minus); low = λ j d p q. h.low j d (omega arith) q }

      first : Ahead w es (i + 1) (net_of e)
      first = record { plus = omega arith; minus = omega arith; low = λ j d p q. subst (λ z. lower (we (get_or es j d)) (we z) ≡ false) (get_or_default es i d e l ∙ sym is) (sorted_far _ ranks_words es up i j d (omega arith) q) }

  -- the sums do not know in which order the effects stand
  pub tallied_in_order : (es fs : List (Effect K)) (ns : List (Net K)) → IsPermutation es fs → Tallied w fs ns → Tallied w es ns
  tallied_in_order es fs ns s t = record {
    rising = t.rising;
    plus = λ k. t.plus k ∙ sum_by-IsPermutation (λ e. cond (same (we e) k) e.plus 0) es fs s;
    minus = λ k. t.minus k ∙ sum_by-IsPermutation (λ e. cond (same (we e) k) e.minus 0) es fs s;
  }

  pub small_all : (es : List (Effect K)) (i : ℕ) (ns : List (Net K)) → i < 2 ^ 32 → AllByRecursion (Ahead w es i) ns → AllByRecursion Small ns
  small_all es i ns l a = All-weaker _ _ (λ x h. (omega (arith, h.plus), omega (arith, h.minus))) ns a
