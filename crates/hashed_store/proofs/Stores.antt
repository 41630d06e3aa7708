-- The parts of a hashed store agree: at birth, and after an opening and a write. Assumes nothing.
use Rattle.std.proofs.Common.{◌≡◌, ℕ, zero, suc, ◌<◌, ◌≤◌, true, false, cond, ◌&&◌, eqb, ltb, leb, List, [], ◌∷◌, map, length, get_or, take, set, replicate, sum_by, sym, refl, ap, ◌∙◌, subst, arith}
use Rattle.std.specs.List.{insert, AllByRecursion}
use Rattle.std.proofs.lemmas.List.{length-set}
use Rattle.std.proofs.lemmas.List.Edits.{length-insert}
use Rattle.std.proofs.lemmas.List.Sums.{sum_by-cons}
use Rattle.std.proofs.lemmas.Bool.{cond-true, cond-false, ne_eqb, and_from, lt-ltb, le-leb}
use Rattle.terms.specs.declared.Account.{Account}
use Rattle.terms.specs.Order.{Rising, name}
use Rattle.terms.specs.Ranges.{every, fit_account}
use Rattle.terms.specs.Holdings.{Store, sound_store}
use Rattle.ordered.specs.Places.{Gap}
use Rattle.ordered.specs.Rows.{Rows}
use Rattle.accounts.specs.Changes.{Opened}
use Rattle.accounts.proofs.Sound.{store_from}
use Rattle.accounts.proofs.Edits.{fresh}
use Rattle.hashed_store.specs.declared.entry.Entry.{Entry}
use Rattle.hashed_store.specs.Index.{number, tag, lying, store_of, laid, taken, Lies}
use Rattle.hashed_store.specs.Probing.{start, turned, seen, has}
use Rattle.hashed_store.proofs.Probes.{finds_new, seen_none, has_turned}
use Rattle.hashed_store.proofs.Links.{opens, laid_new, linked_new, sums_new, laid_after, sums_after, few_entries}

-- what holds of slots, buckets and entries
pub record Parts (top len : ℕ) (slots : List Account) (buckets es : List Entry) : Type 0 where
  pub laid_all : every (laid len slots) es ≡ true
  pub linked : (f : Entry → ℕ) → sum_by (taken f) buckets ≡ sum_by f es
  pub finds : (m : ℕ) → 0 < m → seen m (turned (start m (length buckets)) (map number buckets)) ≡ has m (map number buckets)
  pub sums : (f : Account → ℕ) → sum_by f (take len slots) ≡ sum_by f (map (lying slots) es)
  pub sound : sound_store (store_of top slots es) ≡ true

pub record Agrees (top : ℕ) (slots : List Account) (buckets : List Entry) (order : Rows Entry) : Type 0 where
  pub even : order.capacity ≡ length slots
  pub roomy : length slots ≤ length buckets
  pub parts : Parts top (length order.records) slots buckets order.records

module _ (top : ℕ) (slots : List Account) (buckets : List Entry) (order : Rows Entry) (w : Agrees top slots buckets order) where
  module _ (n i j : ℕ) (e : Entry) (slots' : List Account) (buckets' : List Entry) (order' : Rows Entry) (fs : List Entry) (num : e.number ≡ n) (at : e.slot ≡ length order.records) (pos : 0 < n) (le : n ≤ top)
      (room : length order.records < length slots) (gap : Gap tag order.records (n ∷ []) i) (lt : j < length buckets) (free : get_or (map number buckets) j 0 ≡ 0)
      (met : seen n (turned (start n (length buckets)) (set (map number buckets) j n)) ≡ true)
      (sl : slots' ≡ set slots (length order.records) (fresh n)) (bl : buckets' ≡ set buckets j e)
      (ol : order' ≡ cond (leb i (length order.records) && ltb (length order.records) order.capacity) (record { records = insert order.records i e; capacity = order.capacity; free = fs }) order) where
    entries : order' ≡ record { records = insert order.records i e; capacity = order.capacity; free = fs }
    entries = ol ∙ cond-true _ _ _ (and_from _ _ (le-leb i (length order.records) gap.within) (lt-ltb (length order.records) order.capacity (omega (arith, w.even))))

    new_parts : Parts top (length (insert order.records i e)) (set slots (length order.records) (fresh n)) (set buckets j e) (insert order.records i e)
    new_parts =
        subst (λ k. Parts top k (set slots (length order.records) (fresh n)) (set buckets j e) (insert order.records i e)) (sym (length-insert order.records i e gap.within))
        (record {
          laid_all = laid_new top slots buckets order.records w.parts.sound w.parts.laid_all w.parts.linked n i j e num at pos room gap;
          linked = linked_new top slots buckets order.records w.parts.sound w.parts.laid_all w.parts.linked n i j e num at pos room gap lt free;
          finds = finds_new buckets j e (omega arith) lt free (subst (λ k. seen k (turned (start k (length buckets)) (set (map number buckets) j k)) ≡ true) (sym num) met) w.parts.finds;
          sums = sums_new top slots buckets order.records w.parts.sound w.parts.laid_all w.parts.linked n i j e num at pos room gap w.parts.sums;
          sound = (opens top slots buckets order.records w.parts.sound w.parts.laid_all w.parts.linked n i j e num at pos room gap le).1;
        })

    pub entered : Opened (store_of top slots order.records) n (store_of top slots' order'.records) × Agrees top slots' buckets' order'
    entered =
        subst (λ s. Opened (store_of top slots order.records) n (store_of top s order'.records) × Agrees top s buckets' order') (sym sl)
        (subst (λ b. Opened (store_of top slots order.records) n (store_of top (set slots (length order.records) (fresh n)) order'.records) × Agrees top (set slots (length order.records) (fresh n)) b order') (sym bl)
        (subst (λ o. Opened (store_of top slots order.records) n (store_of top (set slots (length order.records) (fresh n)) o.records) × Agrees top (set slots (length order.records) (fresh n)) (set buckets j e) o) (sym entries) (
          (opens top slots buckets order.records w.parts.sound w.parts.laid_all w.parts.linked n i j e num at pos room gap le).0,
          record {
            even = w.even ∙ sym (length-set slots (length order.records) (fresh n));
            roomy = omega (arith, length-set slots (length order.records) (fresh n), length-set buckets j e, w.roomy);
            parts = new_parts;
          },
        )))

  -- an account written over by one of its number
  pub wrote : (R : Store → Type 0) (n s : ℕ) (a y : Account) → Lies slots order.records n s a → y.number ≡ a.number
      → R (store_of top (set slots s y) order.records) × (sound_store (store_of top (set slots s y) order.records) ≡ true)
      → (slots' : List Account) (buckets' : List Entry) (order' : Rows Entry) → slots' ≡ set slots s y → buckets' ≡ buckets → order' ≡ order
      → R (store_of top slots' order'.records) × Agrees top slots' buckets' order'
  wrote R n s a y lies kept r slots' buckets' order' sl bl ol =
      let fits : length order.records ≤ length slots = few_entries top slots buckets order.records w.parts.sound w.parts.laid_all w.parts.linked in
      let p : Parts top (length order.records) (set slots s y) buckets order.records =
      record {
        laid_all = laid_after top slots buckets order.records w.parts.sound w.parts.laid_all w.parts.linked n s a lies y kept fits;
        linked = w.parts.linked;
        finds = w.parts.finds;
        sums = sums_after top slots buckets order.records w.parts.sound w.parts.laid_all w.parts.linked n s a lies y kept fits w.parts.sums;
        sound = r.1;
      } in
      subst (λ t. R (store_of top t order'.records) × Agrees top t buckets' order') (sym sl)
      (subst (λ b. R (store_of top (set slots s y) order'.records) × Agrees top (set slots s y) b order') (sym bl)
      (subst (λ o. R (store_of top (set slots s y) o.records) × Agrees top (set slots s y) buckets o) (sym ol)
      (r.0, record { even = w.even ∙ sym (length-set slots s y); roomy = omega (arith, length-set slots s y, w.roomy); parts = p })))

-- nothing stands in free buckets

free_sum : (f : Entry → ℕ) (k : ℕ) → sum_by (taken f) (replicate k (record { number = 0; slot = 0 })) ≡ 0
free_sum f zero = refl
free_sum f (suc k) = omega (arith, sum_by-cons (taken f) (record { number = 0; slot = 0 }) (replicate k (record { number = 0; slot = 0 })), free_sum f k)

has_none : (n k : ℕ) → 0 < n → has n (map number (replicate k (record { number = 0; slot = 0 }))) ≡ false
has_none n zero pos = refl
has_none n (suc k) pos =
    cond-false (eqb 0 n) true (has n (map number (replicate k (record { number = 0; slot = 0 })))) (ne_eqb 0 n (λ q. omega arith)) ∙ has_none n k pos

pub cleared : (top k : ℕ) (slots : List Account) (buckets : List Entry) (order : Rows Entry) → order.records ≡ [] → buckets ≡ replicate k (record { number = 0; slot = 0 })
    → order.capacity ≡ length slots → length slots ≤ length buckets → length slots ≤ 65536 → top < 4294967296 → Agrees top slots buckets order
cleared top k slots buckets order none b even roomy small lt =
    record {
      even = even;
      roomy = roomy;
      parts = record {
        laid_all = ap (every (laid (length order.records) slots)) none;
        linked = λ f. ap (sum_by (taken f)) b ∙ free_sum f k ∙ sym (ap (sum_by f) none);
        finds = λ m pos.
            let no_one : has m (map number buckets) ≡ false = ap (λ bs. has m (map number bs)) b ∙ has_none m k pos in
            seen_none m (turned (start m (length buckets)) (map number buckets)) (has_turned m (start m (length buckets)) (map number buckets) ∙ no_one) ∙ sym no_one;
        sums = λ f. ap (λ es. sum_by f (take (length es) slots)) none ∙ sym (ap (λ es. sum_by f (map (lying slots) es)) none);
        sound = store_from (store_of top slots order.records) (record {
          up = subst (λ es. Rising name (map (lying slots) es)) (sym none) tt;
          fit = subst (λ es. AllByRecursion (λ a. fit_account top a ≡ true) (map (lying slots) es)) (sym none) tt;
          few = omega (arith, ap (λ es. length (map (lying slots) es)) none);
          small = small;
          top = lt;
        });
      };
    }
