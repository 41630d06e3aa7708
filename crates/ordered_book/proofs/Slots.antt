-- A sorted table as an offer book: what a search finds there, and what an edit leaves. Assumes nothing.
use Rattle.std.proofs.Common.{◌≡◌, ℕ, ◌<◌, ◌≤◌, Some, None, Option, MatchOption, true, ◌&&◌, List, length, get_or, set, sym, ap, ◌∙◌, subst, arith}
use Rattle.std.specs.List.{insert, remove}
use Rattle.std.proofs.ByRecursion.{All-get_or}
use Rattle.std.proofs.lemmas.Bool.{and_from, lt-ltb}
use Rattle.terms.specs.declared.Key.{Key}
use Rattle.terms.specs.declared.Offer.{Offer}
use Rattle.terms.specs.Order.{place, words, under}
use Rattle.terms.specs.Ranges.{fit_key, is_amount, fit_offer}
use Rattle.terms.specs.Holdings.{amount_at, sound_book}
use Rattle.terms.proofs.Order.{key_is}
use Rattle.ordered.specs.Places.{Gap, At}
use Rattle.ordered.specs.Rows.{Rows}
use Rattle.ordered.proofs.Rising.{under_at, under_gap}
use Rattle.offers.specs.Changes.{Placed, Reduced}
use Rattle.offers.proofs.Sound.{SoundBook, book_parts, offer_amount}
use Rattle.offers.proofs.Edits.{placed, shrunk, taken}
use Rattle.ordered_book.specs.Rows.{book_of, Found}

module _ (t : Rows Offer) (sound : sound_book (book_of t) ≡ true) where
  pub ok : SoundBook (book_of t)
  ok = book_parts (book_of t) sound

  pub amount_found : (k : Key) (i : ℕ) (o : Offer) → At place t.records (words k) i → o ≡ get_or t.records i o → amount_at t.records k ≡ o.amount
  amount_found k i o at is =
      ap (under place (λ p. p.amount) t.records) (sym (at.is o)) ∙ under_at place (λ p. p.amount) t.records i o ok.up at.within ∙ sym (ap (λ p. p.amount) is)

  -- what the answer of a search says of the amount
  pub found_amount : (k : Key) (o : Option (ℕ × Offer)) → Found t.records k o → (r : ℕ) → MatchOption o (r ≡ 0) (λ p. r ≡ p.1.amount) → r ≡ amount_at t.records k
  found_amount k None none r e = e ∙ sym none
  found_amount k (Some p) at r e = e ∙ sym (amount_found k p.0 p.1 at.0 at.1)

  -- an offer that stands sells an amount in range
  pub in_range : (k : Key) (i : ℕ) (d : Offer) → At place t.records (words k) i
      → (amount_at t.records k ≡ (get_or t.records i d).amount) × (0 < amount_at t.records k) × (amount_at t.records k ≤ 68719476735)
  in_range k i d at =
      let e : amount_at t.records k ≡ (get_or t.records i d).amount =
      ap (under place (λ p. p.amount) t.records) (sym (at.is d)) ∙ under_at place (λ p. p.amount) t.records i d ok.up at.within in
      let h = offer_amount (get_or t.records i d) (All-get_or (λ p. fit_offer p ≡ true) t.records i d at.within ok.fit) in
      (e, omega (arith, e, h.0), omega (arith, e, h.1))

  pub amount_none : (k : Key) (i : ℕ) → Gap place t.records (words k) i → amount_at t.records k ≡ 0
  amount_none k i gap = under_gap place (λ p. p.amount) t.records (words k) i gap

  keyed : (k : Key) (i : ℕ) (d : Offer) → At place t.records (words k) i → (get_or t.records i d).key ≡ k
  keyed k i d at = key_is (get_or t.records i d).key k (at.is d)

  pub places : (k : Key) (v i : ℕ) (t' : Rows Offer) (fs : List Offer) → (fit_key k && is_amount v) ≡ true → Gap place t.records (words k) i → length t.records < t.capacity
      → t' ≡ record { records = insert t.records i (record { key = k; amount = v }); capacity = t.capacity; free = fs }
      → Placed (book_of t) k v (book_of t') × (sound_book (book_of t') ≡ true)
  places k v i t' fs fit gap room e =
      subst (λ r. Placed (book_of t) k v (book_of r) × (sound_book (book_of r) ≡ true)) (sym e) (placed (book_of t) k v i ok fit gap room)

  module _ (k : Key) (v i : ℕ) (o : Offer) (t' : Rows Offer) (fs : List Offer) (at : At place t.records (words k) i) (is : o ≡ get_or t.records i o) where
    pub shrinks : 0 < v → v ≤ o.amount → t' ≡ record { records = set t.records i (record { key = k; amount = v }); capacity = t.capacity; free = fs }
        → Reduced (book_of t) k v (book_of t') × (sound_book (book_of t') ≡ true)
    shrinks pos le e =
        let h = in_range k i o at in
        subst (λ r. Reduced (book_of t) k v (book_of r) × (sound_book (book_of r) ≡ true)) (sym e)
        (shrunk (book_of t) k v i o ok at.within (keyed k i o at) (and_from _ _ (lt-ltb 0 v pos) (lt-ltb v 68719476736 (omega (arith, h.0, h.2, ap (λ p. p.amount) is)))))

    pub takes : v ≡ 0 → t' ≡ record { records = remove t.records i; capacity = t.capacity; free = fs }
        → Reduced (book_of t) k v (book_of t') × (sound_book (book_of t') ≡ true)
    takes z e =
        let p = subst (λ r. Reduced (book_of t) k 0 (book_of r) × (sound_book (book_of r) ≡ true)) (sym e) (taken (book_of t) k i o ok at.within (keyed k i o at)) in
        (subst (λ w. Reduced (book_of t) k w (book_of t')) (sym z) p.0, p.1)
