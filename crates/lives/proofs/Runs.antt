-- Runs put together, cut, and seen as lives. Assumes nothing.
use Rattle.std.proofs.Common.{◌≡◌, ℕ, zero, suc, ◌<◌, List, [], ◌∷◌, ◌++◌, length, get_or, take, refl, subst, subst₂, arith}
use Rattle.terms.specs.Holdings.{Store, Book}
use Rattle.exchange.specs.Life.{Event, Answer, Life, birth, Step, Runs}
use Rattle.exchange.specs.Life.Question.{height}
use Rattle.exchange.specs.Life.Event.{ask}
use Rattle.exchange.proofs.Conserve.{life_conserves, limits_kept}
use Rattle.exchange.proofs.Counts.{counts_add_up}
use Rattle.lives.specs.Law.{Balanced, FilledWell, Lives}

-- one event more
pub run_more : (es : List Event) (us : List Answer) (l k m : Life) (e : Event) (a : Answer) → Runs l es us k → Step k e a m → Runs l (es ++ e ∷ []) (us ++ a ∷ []) m
run_more [] [] l k m e a p s = (m, subst (λ z. Step z e a m) p s, refl)
run_more [] (u ∷ us) l k m e a p s = absurd p
run_more (x ∷ es) [] l k m e a p s = absurd p
run_more (x ∷ es) (u ∷ us) l k m e a (j, q, p) s = (j, q, run_more es us j k m e a p s)

-- as many answers as events
pub run_length : (es : List Event) (us : List Answer) (l m : Life) → Runs l es us m → length us ≡ length es
run_length [] [] l m p = refl
run_length [] (u ∷ us) l m p = absurd p
run_length (x ∷ es) [] l m p = absurd p
run_length (x ∷ es) (u ∷ us) l m (j, q, p) = omega (arith, run_length es us j m p)

-- the first n events of a run
pub run_take : (n : ℕ) (es : List Event) (us : List Answer) (l m : Life) → Runs l es us m → (k : Life) × Runs l (take n es) (take n us) k
run_take zero es us l m p = (l, refl)
run_take (suc n) [] [] l m p = (l, refl)
run_take (suc n) [] (u ∷ us) l m p = absurd p
run_take (suc n) (x ∷ es) [] l m p = absurd p
run_take (suc n) (x ∷ es) (u ∷ us) l m (j, q, p) = let r = run_take n es us j m p in (r.0, (j, q, r.1))

-- the n-th event of a run, and the events before it
pub record Nth (l : Life) (es : List Event) (us : List Answer) (n : ℕ) : Type 0 where
  pub before : Life
  pub after : Life
  pub answer : Answer
  pub run : Runs l (take n es) (take n us) before
  pub step : Step before (get_or es n (ask height)) answer after

pub run_at : (n : ℕ) (es : List Event) (us : List Answer) (l m : Life) → n < length us → Runs l es us m → Nth l es us n
run_at n [] [] l m h p = absurd (omega arith)
run_at n [] (u ∷ us) l m h p = absurd p
run_at n (x ∷ es) [] l m h p = absurd p
run_at zero (x ∷ es) (u ∷ us) l m h (j, q, p) = record { before = l; after = j; answer = u; run = refl; step = q }
run_at (suc n) (x ∷ es) (u ∷ us) l m h (j, q, p) =
    let r = run_at n es us j m (omega arith) p in
    record { before = r.before; after = r.after; answer = r.answer; run = (j, q, r.run); step = r.step }

filled_well : (l : Life) (e : Event) (a : Answer) (m : Life) → Step l e a m → FilledWell l e a m
filled_well l e a m s = record {
  told = λ i k n p x y h. limits_kept.fills l m i k n p (subst₂ (λ f b. Step l f b m) x y s) h;
  applied = λ i x y. limits_kept.commits l m i (subst₂ (λ f b. Step l f b m) x y s);
}

balanced : (st : Store) (bk : Book) (es : List Event) (us : List Answer) (l : Life) → Runs (birth st bk) es us l → Balanced l
balanced st bk es us l p = record { sums = life_conserves st bk es us l p; counts = (counts_add_up st bk es us l p).0 }

lived_on : (st : Store) (bk : Book) (fs : List Event) (vs : List Answer) (l : Life) → Runs (birth st bk) fs vs l
    → (es : List Event) (us : List Answer) (m : Life) → Runs l es us m → Lives l es us m
lived_on st bk fs vs l p [] [] m r = r
lived_on st bk fs vs l p [] (u ∷ us) m r = absurd r
lived_on st bk fs vs l p (e ∷ es) [] m r = absurd r
lived_on st bk fs vs l p (e ∷ es) (a ∷ us) m (k, s, r) =
    let q = run_more fs vs (birth st bk) l k e a p s in
    (k, s, balanced st bk (fs ++ e ∷ []) (vs ++ a ∷ []) k q, filled_well l e a k s, lived_on st bk (fs ++ e ∷ []) (vs ++ a ∷ []) k q es us m r)

-- a run from the beginning is a life
pub lived : (st : Store) (bk : Book) (es : List Event) (us : List Answer) (m : Life) → Runs (birth st bk) es us m → Lives (birth st bk) es us m
lived st bk es us m r = lived_on st bk [] [] (birth st bk) refl es us m r
