-- What judging knows of a decoded block, and what of a state matters to it. Assumes nothing.
use Rattle.std.proofs.Common.{◌≡◌, ℕ, ◌≤◌, true, eqb, leb, List, length, Some, None, Option, Result, sym, subst}
use Rattle.std.proofs.lemmas.Bool.{and_parts, leb-true}
use Rattle.terms.specs.declared.Fault.{Fault}
use Rattle.terms.specs.declared.Volume.{Volume}
use Rattle.terms.specs.declared.Transaction.{Transaction}
use Rattle.terms.specs.Ranges.{every, is_price, is_word, fit_volume, fit_transaction}
use Rattle.terms.specs.Holdings.{Store, Book, rising}
use Rattle.blocks.specs.Readable.{Block, pair, fit_block}
use Rattle.exchange.specs.State.{State}
use Rattle.exchange.specs.Faults.{Cause, Bad, Verdict}
use Rattle.exchange.specs.Faults.Cause.{wrong_height, wrong_parent, uncleared, no_source, out_of_window, repeated, no_receiver, bad_account, no_offer, cancelled_twice, overdrawn, accounts_full, offers_full, excess_volume}
use Rattle.judging_rules.specs.Rows.{scene}
use Rattle.tally.specs.Least.{fault_of}
use Rattle.judging.specs.Verdicts.{Judges}

-- a block by its parts
abbrev pub made : ℕ → List ℕ → List ℕ → List Volume → List Transaction → Block
made h p ps vs ts = record { height = h; parent = p; prices = ps; volumes = vs; transactions = ts }

-- there are few volumes and few transactions
pub few : (b : Block) → fit_block b ≡ true → (length b.volumes ≤ 56) × (length b.transactions ≤ 1024)
few b e =
    let (_, e₁) = and_parts (is_word b.height) _ e in
    let (_, e₂) = and_parts (eqb (length b.parent) 32) _ e₁ in
    let (_, e₃) = and_parts (eqb (length b.prices) 8) _ e₂ in
    let (_, e₄) = and_parts (every is_price b.prices) _ e₃ in
    let (_, e₅) = and_parts (rising pair b.volumes) _ e₄ in
    let (_, e₆) = and_parts (every fit_volume b.volumes) _ e₅ in
    let (v, e₇) = and_parts (leb (length b.volumes) 56) _ e₆ in
    let (_, t) = and_parts (every fit_transaction b.transactions) (leb (length b.transactions) 1024) e₇ in
    (leb-true (length b.volumes) 56 v, leb-true (length b.transactions) 1024 t)

-- of a state the causes look at store, book, height and digest alone
module _ (s : State) (b : Block) where
  abbrev seen : State
  seen = scene s.store s.book s.own.height s.own.digest

  to_seen : (c : Cause) (i j : ℕ) → Bad s b c i j → Bad seen b c i j
  to_seen wrong_height i j p = p
  to_seen wrong_parent i j p = p
  to_seen uncleared i j p = p
  to_seen no_source i j p = p
  to_seen out_of_window i j p = p
  to_seen repeated i j p = p
  to_seen no_receiver i j p = p
  to_seen bad_account i j p = p
  to_seen no_offer i j p = p
  to_seen cancelled_twice i j p = p
  to_seen overdrawn i j p = p
  to_seen accounts_full i j p = p
  to_seen offers_full i j p = p
  to_seen excess_volume i j p = p

  from_seen : (c : Cause) (i j : ℕ) → Bad seen b c i j → Bad s b c i j
  from_seen wrong_height i j p = p
  from_seen wrong_parent i j p = p
  from_seen uncleared i j p = p
  from_seen no_source i j p = p
  from_seen out_of_window i j p = p
  from_seen repeated i j p = p
  from_seen no_receiver i j p = p
  from_seen bad_account i j p = p
  from_seen no_offer i j p = p
  from_seen cancelled_twice i j p = p
  from_seen overdrawn i j p = p
  from_seen accounts_full i j p = p
  from_seen offers_full i j p = p
  from_seen excess_volume i j p = p

  verdict_seen : (v : Option Fault) → Verdict seen b v → Verdict s b v
  verdict_seen None k = λ f (c, e, p). k f (c, e, to_seen c f.first f.second p)
  verdict_seen (Some f) ((c, e, p), l) = ((c, e, from_seen c f.first f.second p), λ g (d, n, q). l g (d, n, to_seen d g.first g.second q))

pub judges : (st : Store) (bk : Book) (h : ℕ) (d : List ℕ) (b : Block) (r : Result (Unit {0}) Fault)
    → Verdict (scene st bk h d) b (fault_of r) → Judges st bk h d b r
judges st bk h d b r v s es eb eh ed =
    verdict_seen s b (fault_of r)
    (subst (λ z. Verdict (scene z s.book s.own.height s.own.digest) b (fault_of r)) (sym es)
    (subst (λ z. Verdict (scene st z s.own.height s.own.digest) b (fault_of r)) (sym eb)
    (subst (λ z. Verdict (scene st bk z s.own.digest) b (fault_of r)) (sym eh)
    (subst (λ z. Verdict (scene st bk h z) b (fault_of r)) (sym ed) v))))
