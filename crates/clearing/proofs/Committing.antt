-- What is left of a cleared block is what a commit gives; and what clearing starts from. Assumes nothing.
use Rattle.std.proofs.Common.{arith, ◌<◌, ◌≡◌, ℕ, true, eqb, leb, List, [], ◌∷◌, length, refl, ap, ◌∙◌, subst}
use Rattle.std.specs.List.{flat_map}
use Rattle.std.proofs.lemmas.Bool.{and_parts, leb-true}
use Rattle.std.proofs.ByRecursion.{All-weaker}
use Rattle.terms.specs.declared.Transaction.{Transaction}
use Rattle.terms.specs.Ranges.{every, is_word, is_price, fit_volume, fit_transaction}
use Rattle.terms.specs.Holdings.{Store, Book, rising, amount_at, sound_store, sound_book}
use Rattle.accounts.proofs.Sound.{store_parts, account_parts}
use Rattle.offers.proofs.Sound.{book_parts, offer_amount}
use Rattle.blocks.specs.Readable.{Block, pair, fit_block}
use Rattle.exchange.specs.State.{State}
use Rattle.exchange.specs.Commit.{Ordered}
use Rattle.exchange.proofs.Sums.{rising_one}
use Rattle.tally.specs.declared.effects.Net.{Net}
use Rattle.tally.specs.Tally.{Tallied}
use Rattle.judging_balances.specs.declared.Slot.{Slot}
use Rattle.judging_balances.specs.Moves.{moves, slot_words}
use Rattle.judging_balances.proofs.Totals.{comes_in, goes_out}
use Rattle.clearing_store.specs.Changes.{holder}
use Rattle.clearing.specs.Clear.{Nets, over, after, Commits}

-- a store and a book in order and in range, and eight remainders
pub in_order : (s : State) → sound_store s.store ≡ true → sound_book s.book ≡ true → length s.own.remainders ≡ 8 → Ordered s
in_order s st bk n =
    let f = store_parts s.store st in
    let g = book_parts s.book bk in
    record {
      accounts = f.up;
      offers = g.up;
      eight = All-weaker _ _ (λ a h. (account_parts s.store.top a h).eight) s.store.accounts f.fit;
      some = All-weaker _ _ (λ o h. (offer_amount o h).0) s.book.offers g.fit;
      remainders = n;
    }

pub commits : Commits
commits s b st bk rs d c ss sb e =
    record {
      ordered = in_order (after s st bk rs d) ss sb c.eight;
      capacities = record { accounts = c.accounts; top = c.top; offers = c.offers };
      stand = c.stand;
      used = c.used;
      last = c.last;
      balances = c.balances;
      amounts = c.amounts;
      remain = c.remain;
      height = refl;
      digest = e;
      founded = refl;
      counts = refl;
    }

-- a state is itself over its own store, book and remainders
pub over_is : (s : State) (st : Store) (bk : Book) (rs : List ℕ) → s.store ≡ st → s.book ≡ bk → s.own.remainders ≡ rs → s ≡ over s st bk rs
over_is s st bk rs p q r = λ i. record {
  founded = s.founded;
  store = p i;
  book = q i;
  own = record { height = s.own.height; digest = s.own.digest; remainders = r i };
  counts = s.counts;
}

-- the tallied moves of a block's transactions are its nets
pub netted : (s : State) (b : Block) (ts : List Transaction) (ns : List (Net Slot)) → ts ≡ b.transactions
    → Tallied slot_words (flat_map (moves (amount_at s.book.offers)) ts) ns → Nets s b ns
netted s b ts ns e h =
    let t = subst (λ us. Tallied slot_words (flat_map (moves (amount_at s.book.offers)) us) ns) e h in
    record {
      once = λ n x. rising_one holder ns t.rising (n ∷ x ∷ []);
      ins = λ n x. t.plus (n ∷ x ∷ []) ∙ comes_in s.store s.book b.transactions n x;
      outs = λ n x. t.minus (n ∷ x ∷ []) ∙ goes_out s.store s.book b.transactions n x;
    }

-- a block in range has no more transactions than there is room for
pub few : (b : Block) (ts : List Transaction) → fit_block b ≡ true → ts ≡ b.transactions → 1024 < length ts → ⊥
few b ts e r f =
    let p₁ = (and_parts (is_word b.height) _ e).1 in
    let p₂ = (and_parts (eqb (length b.parent) 32) _ p₁).1 in
    let p₃ = (and_parts (eqb (length b.prices) 8) _ p₂).1 in
    let p₄ = (and_parts (every is_price b.prices) _ p₃).1 in
    let p₅ = (and_parts (rising pair b.volumes) _ p₄).1 in
    let p₆ = (and_parts (every fit_volume b.volumes) _ p₅).1 in
    let p₇ = (and_parts (leb (length b.volumes) 56) _ p₆).1 in
    let p₈ = (and_parts (every fit_transaction b.transactions) (leb (length b.transactions) 1024) p₇).1 in
    omega (arith, f, leb-true (length b.transactions) 1024 p₈, ap length r)
