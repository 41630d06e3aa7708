-- Offers leave and enter one after the other. Assumes nothing.
use Rattle.std.proofs.Common.{◌≡◌, ℕ, ◌+◌, ◌<◌, true, false, cond, eqb, ◌⊎◌, List, [], ◌∷◌, ◌++◌, Ok, Err, Result, sym, refl, ap, ◌∙◌, inl, inr, arith, length-append, MatchResult}
use Rattle.std.specs.List.{ContainsAt as Has}
use Rattle.std.proofs.lemmas.List.Sums.{sum_by-append}
use Rattle.std.proofs.lemmas.Bool.{cases_Bool, cases_eq, cases_lt, eq-eqb, ne_eqb}
use Rattle.std.proofs.ByRecursion.{all-has}
use Rattle.terms.specs.declared.Fault.{Fault}
use Rattle.terms.specs.declared.Key.{Key}
use Rattle.terms.specs.declared.Offer.{Offer}
use Rattle.terms.specs.Order.{same, words, place, under}
use Rattle.terms.specs.Holdings.{Book, amount_at}
use Rattle.terms.proofs.Order.{same_sym, same_is}
use Rattle.accounts.proofs.Grants.{never}
use Rattle.offers.specs.Changes.{reduce_answer, place_answer, Reduced, Placed}
use Rattle.offers.proofs.Replies.{reduce_made, place_stands, place_made}
use Rattle.exchange.proofs.Sums.{if_true, if_false, all_by_has, under_gone}
use Rattle.clearing_book.specs.Entries.{Left, Entered, CanLeave, CanEnter, LeftOr, EnteredOr, times}
use Rattle.clearing_book.proofs.Passes.{all_left, all_right, member}

-- leaving

pub none_left : (s : Book) → Left [] s s
none_left s = record { capacity = refl; count = omega arith; amounts = λ j. refl }

pub one_left : (k : Key) (s t : Book) (r : Result (Unit {0}) Fault) → r ≡ reduce_answer s k 0
    → MatchResult r (λ _. Reduced s k 0 t) (λ _. t ≡ s) → LeftOr (k ∷ []) s t r
one_left k s t (Ok _) e a = record {
  capacity = a.capacity;
  count = a.count;
  amounts = λ j. a.amounts j ∙ flip j (cases_Bool (same (words j) (words k)));
}
  where
    flip : (j : Key) → (same (words j) (words k) ≡ true) ⊎ (same (words j) (words k) ≡ false)
        → cond (same (words j) (words k)) 0 (amount_at s.offers j) ≡ cond (eqb (times (k ∷ []) j) 0) (amount_at s.offers j) 0
    flip j (inl p) =
        if_true _ 0 (amount_at s.offers j) p
        ∙ sym (if_false _ (amount_at s.offers j) 0
        (ne_eqb (times (k ∷ []) j) 0 (λ z. omega (arith, z, if_true (same (words k) (words j)) 1 0 (same_sym (words k) (words j) ∙ p)))))
    flip j (inr p) =
        if_false _ 0 (amount_at s.offers j) p
        ∙ sym (if_true _ (amount_at s.offers j) 0
        (eq-eqb (times (k ∷ []) j) 0 (omega (arith, if_false (same (words k) (words j)) 1 0 (same_sym (words k) (words j) ∙ p)))))
one_left k s t (Err x) e a = λ can. never (reduce_made s k 0 can.stand.0 (omega arith) ∙ sym e)

pub left_more : (ks ls : List Key) (s t u : Book) → Left ks s t → Left ls t u → Left (ks ++ ls) s u
left_more ks ls s t u a b = record {
  capacity = b.capacity ∙ a.capacity;
  count = omega (arith, a.count, b.count, length-append ks ls);
  amounts = λ j. b.amounts j ∙ both j (cases_eq (times ks j) 0) (cases_eq (times ls j) 0);
}
  where
    parts : (j : Key) → times (ks ++ ls) j ≡ times ks j + times ls j
    parts j = sum_by-append (λ k. cond (same (words k) (words j)) 1 0) ks ls

    both : (j : Key) → (times ks j ≡ 0) ⊎ (times ks j ≡ 0 → ⊥) → (times ls j ≡ 0) ⊎ (times ls j ≡ 0 → ⊥)
        → cond (eqb (times ls j) 0) (amount_at t.offers j) 0 ≡ cond (eqb (times (ks ++ ls) j) 0) (amount_at s.offers j) 0
    both j (inl p) (inl q) =
        if_true _ (amount_at t.offers j) 0 (eq-eqb (times ls j) 0 q) ∙ a.amounts j
        ∙ if_true _ (amount_at s.offers j) 0 (eq-eqb (times ks j) 0 p)
        ∙ sym (if_true _ (amount_at s.offers j) 0 (eq-eqb (times (ks ++ ls) j) 0 (omega (arith, parts j, p, q))))
    both j (inr p) (inl q) =
        if_true _ (amount_at t.offers j) 0 (eq-eqb (times ls j) 0 q) ∙ a.amounts j
        ∙ if_false _ (amount_at s.offers j) 0 (ne_eqb (times ks j) 0 p)
        ∙ sym (if_false _ (amount_at s.offers j) 0 (ne_eqb (times (ks ++ ls) j) 0 (λ z. p (omega (arith, z, parts j)))))
    both j p (inr q) =
        if_false _ (amount_at t.offers j) 0 (ne_eqb (times ls j) 0 q)
        ∙ sym (if_false _ (amount_at s.offers j) 0 (ne_eqb (times (ks ++ ls) j) 0 (λ z. q (omega (arith, z, parts j)))))

-- where all can leave, and the first have left, the next can
pub leave_next : (ks ls ms : List Key) (s t : Book) → CanLeave (ks ++ (ls ++ ms)) s → Left ks s t → CanLeave ls t
leave_next ks ls ms s t can a = record { stand = all_by_has _ ls go; once = λ k. omega (arith, can.once k, parts k) }
  where
    parts : (k : Key) → times (ks ++ (ls ++ ms)) k ≡ times ks k + (times ls k + times ms k)
    parts k =
        sum_by-append (λ z. cond (same (words z) (words k)) 1 0) ks (ls ++ ms)
        ∙ ap (λ n. times ks k + n) (sum_by-append (λ z. cond (same (words z) (words k)) 1 0) ls ms)

    go : (k : Key) → Has ls k → 0 < amount_at t.offers k
    go k m =
        let z : times ks k ≡ 0 = omega (arith, can.once k, parts k, member words ls k m) in
        omega (arith, a.amounts k, if_true (eqb (times ks k) 0) (amount_at s.offers k) 0 (eq-eqb (times ks k) 0 z), all-has _ ls k (all_left _ ls ms (all_right _ ks (ls ++ ms) can.stand)) m)

-- entering

abbrev ones : List Offer → Key → ℕ
ones l k = under place (λ _. 1) l (words k)

pub none_entered : (s : Book) → Entered [] s s
none_entered s = record { capacity = refl; count = omega arith; amounts = λ j. omega arith }

pub one_entered : (o : Offer) (s t : Book) (r : Result (Unit {0}) Fault) → r ≡ place_answer s o.key o.amount
    → MatchResult r (λ _. Placed s o.key o.amount t) (λ _. t ≡ s) → EnteredOr (o ∷ []) s t r
one_entered o s t (Ok _) e a = record {
  capacity = a.capacity;
  count = a.count;
  amounts = λ j. a.amounts j ∙ flip j (cases_Bool (same (words j) (place o)));
}
  where
    fresh : amount_at s.offers o.key ≡ 0
    fresh = elim (cases_lt 0 (amount_at s.offers o.key)) [
      | inl p ↦ absurd (never (e ∙ sym (place_stands s o.key o.amount p)))
      | inr p ↦ omega arith
    ]

    flip : (j : Key) → (same (words j) (place o) ≡ true) ⊎ (same (words j) (place o) ≡ false)
        → cond (same (words j) (place o)) o.amount (amount_at s.offers j) ≡ amount_at s.offers j + amount_at (o ∷ []) j
    flip j (inl p) =
        omega (arith, fresh, if_true (same (words j) (place o)) o.amount (amount_at s.offers j) p, if_true (same (place o) (words j)) o.amount 0 (same_sym (place o) (words j) ∙ p), ap (λ w. under place (λ z. z.amount) s.offers w) (same_is (words j) (place o) p))
    flip j (inr p) =
        omega (arith, if_false (same (words j) (place o)) o.amount (amount_at s.offers j) p, if_false (same (place o) (words j)) o.amount 0 (same_sym (place o) (words j) ∙ p))
one_entered o s t (Err x) e a = λ can. never (place_made s o.key o.amount can.fresh.0 (omega (arith, can.room)) can.good.0 ∙ sym e)

pub entered_more : (os ps : List Offer) (s t u : Book) → Entered os s t → Entered ps t u → Entered (os ++ ps) s u
entered_more os ps s t u a b = record {
  capacity = b.capacity ∙ a.capacity;
  count = omega (arith, a.count, b.count, length-append os ps);
  amounts = λ j. omega (arith, a.amounts j, b.amounts j, sum_by-append (λ o. cond (same (place o) (words j)) o.amount 0) os ps);
}

-- where all can enter, and the first have entered, the next can
pub enter_next : (os ps qs : List Offer) (s t : Book) → CanEnter (os ++ (ps ++ qs)) s → Entered os s t → CanEnter ps t
enter_next os ps qs s t can a = record {
  fresh = all_by_has _ ps go;
  once = λ k. omega (arith, can.once k, parts k);
  good = all_left _ ps qs (all_right _ os (ps ++ qs) can.good);
  room = omega (arith, can.room, a.count, a.capacity, length-append os (ps ++ qs), length-append ps qs);
}
  where
    parts : (k : Key) → ones (os ++ (ps ++ qs)) k ≡ ones os k + (ones ps k + ones qs k)
    parts k =
        sum_by-append (λ z. cond (same (place z) (words k)) 1 0) os (ps ++ qs)
        ∙ ap (λ n. ones os k + n) (sum_by-append (λ z. cond (same (place z) (words k)) 1 0) ps qs)

    go : (o : Offer) → Has ps o → amount_at t.offers o.key ≡ 0
    go o m =
        let z : ones os o.key ≡ 0 = omega (arith, can.once o.key, parts o.key, member place ps o m) in
        omega (arith, a.amounts o.key, under_gone place (λ o. o.amount) os (place o) z, all-has _ ps o (all_left _ ps qs (all_right _ os (ps ++ qs) can.fresh)) m)
