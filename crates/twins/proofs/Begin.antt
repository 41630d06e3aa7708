-- Two empty stores and two empty books of the same sizes begin alike. Assumes nothing.
use Rattle.std.proofs.Common.{◌≡◌, ℕ, [], length, sym, ap, ◌∙◌}
use Rattle.terms.specs.Holdings.{Store, Book}
use Rattle.lives.specs.Law.{BeginAlike}

pub begin_alike : (st st' : Store) (bk bk' : Book) (top m m' n n' : ℕ)
    → st ≡ record { capacity = m; top = top; accounts = [] } → st' ≡ record { capacity = m'; top = top; accounts = [] }
    → bk ≡ record { capacity = n; offers = [] } → bk' ≡ record { capacity = n'; offers = [] }
    → m' ≡ m → n' ≡ n → BeginAlike st bk st' bk'
begin_alike st st' bk bk' top m m' n n' p q r s e f = record {
  empty = (ap (λ t. length t.accounts) p, ap (λ b. length b.offers) r, ap (λ t. length t.accounts) q, ap (λ b. length b.offers) s);
  accounts = ap (λ t. t.capacity) q ∙ e ∙ sym (ap (λ t. t.capacity) p);
  top = ap (λ t. t.top) q ∙ sym (ap (λ t. t.top) p);
  offers = ap (λ b. b.capacity) s ∙ f ∙ sym (ap (λ b. b.capacity) r);
}
