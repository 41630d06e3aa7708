-- A founding without fault makes the state that the rules say. Assumes nothing.
use Rattle.std.proofs.Common.{◌≡◌, ℕ, true, None, List, [], ◌∷◌, length, get_or, replicate, refl, ap, ◌∙◌, arith}
use Rattle.std.proofs.lemmas.Bool.{and_parts}
use Rattle.terms.specs.declared.Account.{Account}
use Rattle.terms.specs.declared.Grant.{Grant}
use Rattle.terms.specs.Order.{under, name}
use Rattle.terms.specs.Ranges.{every, fit_grant}
use Rattle.terms.specs.Holdings.{Store, Book, sound_store, sound_book}
use Rattle.blocks.specs.Readable.{Founds}
use Rattle.blocks.proofs.Laws.{founds_fits}
use Rattle.exchange.specs.State.{State, no_counts}
use Rattle.exchange.specs.Faults.{FoundingVerdict}
use Rattle.exchange.specs.Commit.{Sound, Founded, digest_of}
use Rattle.exchange.proofs.Fit.{all_from}
use Rattle.exchange.proofs.Lasting.{founded_sound}
use Rattle.clearing.proofs.Committing.{in_order}
use Rattle.founding.specs.Granting.{GrantedAll}

pub nothing : {X : Type 0} (xs : List X) → length xs ≡ 0 → xs ≡ []
nothing [] e = refl
nothing (x ∷ xs) e = absurd (omega arith)

nobody : (f : Account → ℕ) (xs : List Account) (k : List ℕ) → length xs ≡ 0 → under name f xs k ≡ 0
nobody f xs k e = ap (λ ys. under name f ys k) (nothing xs e)

-- a state right after its founding
abbrev pub newly : Store → Book → List ℕ → State
newly st bk d = record {
  founded = true;
  store = st;
  book = bk;
  own = record { height = 0; digest = d; remainders = replicate 8 0 };
  counts = no_counts;
}

pub made : (s : State) (gs : List Grant) (st : Store) (d : List ℕ)
    → length s.store.accounts ≡ 0 → length s.book.offers ≡ 0
    → sound_store st ≡ true → sound_book s.book ≡ true → GrantedAll s.store gs st
    → d ≡ digest_of (newly st s.book d)
    → Founded s gs (newly st s.book d)
made s gs st d none empty ok fine all e =
    record {
      ordered = in_order (newly st s.book d) ok fine refl;
      capacities = record { accounts = all.capacity; top = all.top; offers = refl };
      stand = λ m. omega (arith, all.stand m, nobody (λ _. 1) s.store.accounts (m ∷ []) none);
      unused = λ m. all.floors m ∙ nobody (λ a. a.floor) s.store.accounts (m ∷ []) none;
      balances = λ m x _. omega (arith, all.balances m x, nobody (λ a. get_or a.balances x 0) s.store.accounts (m ∷ []) none);
      none = nothing s.book.offers empty;
      founded = refl;
      height = refl;
      remainders = refl;
      digest = e;
      counts = refl;
    }

-- and it is sound
pub sound : (s : State) (bs : List ℕ) (gs : List Grant) (t : State) → sound_store s.store ≡ true → sound_book s.book ≡ true
    → Founds bs gs → FoundingVerdict s.store gs None → Founded s gs t → Sound t
sound s bs gs t st bk reads clean w =
    founded_sound s gs (all_from fit_grant gs (and_parts (every fit_grant gs) _ (founds_fits bs gs reads)).0) clean st bk t w
