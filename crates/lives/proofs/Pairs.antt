-- Two runs side by side: the law of two replicas. Assumes nothing.
use Rattle.std.proofs.Common.{◌≡◌, ℕ, zero, suc, ◌<◌, ◌≤◌, true, List, [], ◌∷◌, length, get_or, take, Ok, Err, sym, ◌∙◌, subst, subst₂, inl, inr, arith, take_all}
use Rattle.std.specs.List.{AllZip}
use Rattle.std.proofs.lemmas.List.{length-take, get_or-take, take-take}
use Rattle.std.proofs.lemmas.List.Elements.{AllZip-get_or, length_all_zip}
use Rattle.std.proofs.lemmas.Bool.{cases_lt}
use Rattle.terms.specs.Holdings.{Store, Book}
use Rattle.exchange.specs.Life.{Event, Answer, Life, birth, Step, Runs, Fair}
use Rattle.exchange.specs.Life.Question.{height}
use Rattle.exchange.specs.Life.Event.{found, check, fill, commit, reject, ask}
use Rattle.exchange.proofs.Agree.{Alike, lives_alike, born_alike, held_first, held_second}
use Rattle.replica.proofs.Foundings.{nothing}
use Rattle.lives.specs.declared.events.Stop.TheVariants.{NotHeld, NoMemory}
use Rattle.lives.specs.Events.{Ending, whole}
use Rattle.lives.specs.Law.{Lives, Unheld, Stopped, Ran, Law}
use Rattle.lives.proofs.Runs.{run_length, run_take, run_at}

each_takes : {X : Type 0} (R : X → X → Type 0) (a b : ℕ) (xs ys : List X) → AllZip R xs ys → AllZip R (take a (take b xs)) (take b (take a ys))
each_takes R zero zero xs ys h = tt
each_takes R zero (suc b) xs ys h = tt
each_takes R (suc a) zero xs ys h = tt
each_takes R (suc a) (suc b) [] [] h = tt
each_takes R (suc a) (suc b) [] (y ∷ ys) h = absurd h
each_takes R (suc a) (suc b) (x ∷ xs) [] h = absurd h
each_takes R (suc a) (suc b) (x ∷ xs) (y ∷ ys) h = (h.0, each_takes R a b xs ys h.1)

-- the answers go as far as they can: to the last event, or to one that names a block that is not held
abbrev pub Far : List Event → List Answer → Life → Type 0
Far es us l = length us < length es → Unheld l (get_or es (length us) (ask height))

-- an event that names no held block of one of two alike lives is no step of the other

module _ (l m : Life) (h : Alike l m) where
  unheld_first : (e : Event) (a : Answer) (j : Life) → Unheld l e → Step m e a j → ⊥
  unheld_first (found bs) a j u s = u
  unheld_first (check bs) a j u s = u
  unheld_first (fill i k) a j u (bs, hb, _) = let c = held_first l m h i bs hb in u c.0 c.1
  unheld_first (commit i) a j u (bs, hb, _) = let c = held_first l m h i bs hb in u c.0 c.1
  unheld_first (reject i) a j u (bs, hb, _, _) = let c = held_first l m h i bs hb in u c.0 c.1
  unheld_first (ask q) a j u s = u

  unheld_second : (e : Event) (a : Answer) (j : Life) → Unheld m e → Step l e a j → ⊥
  unheld_second (found bs) a j u s = u
  unheld_second (check bs) a j u s = u
  unheld_second (fill i k) a j u (bs, hb, _) = let c = held_second l m h i bs hb in u c.0 c.1
  unheld_second (commit i) a j u (bs, hb, _) = let c = held_second l m h i bs hb in u c.0 c.1
  unheld_second (reject i) a j u (bs, hb, _, _) = let c = held_second l m h i bs hb in u c.0 c.1
  unheld_second (ask q) a j u s = u

  stuck_first : (e f : Event) → Fair e f → (a : Answer) (j : Life) → Unheld l e → Step m f a j → ⊥
  stuck_first e f (inl i) a j u s = unheld_first e a j u (subst (λ z. Step m z a j) (sym i) s)
  stuck_first e f (inr (inl (bs, cs, i, _, _))) a j u s = subst (Unheld l) i u
  stuck_first e f (inr (inr (bs, cs, i, _, _))) a j u s = subst (Unheld l) i u

  stuck_second : (e f : Event) → Fair e f → (a : Answer) (j : Life) → Unheld m f → Step l e a j → ⊥
  stuck_second e f (inl i) a j u s = unheld_second e a j (subst (Unheld m) (sym i) u) s
  stuck_second e f (inr (inl (bs, cs, _, i, _))) a j u s = subst (Unheld m) i u
  stuck_second e f (inr (inr (bs, cs, _, i, _))) a j u s = subst (Unheld m) i u

module _ (st : Store) (bk : Book) (es fs : List Event) (fair : AllZip Fair es fs) (us vs : List Answer) (l m : Life)
    (p : Runs (birth st bk) (take (length us) es) us l) (q : Runs (birth st bk) (take (length vs) fs) vs m) where
  many : length es ≡ length fs
  many = length_all_zip Fair es fs fair

  within_first : length us ≤ length es
  within_first = omega (arith, run_length _ us _ _ p, length-take (length us) es)

  within_second : length vs ≤ length fs
  within_second = omega (arith, run_length _ vs _ _ q, length-take (length vs) fs)

  beside : (a b : ℕ) (xs ys : List Answer) (k j : Life) → Runs (birth st bk) (take a (take b es)) xs k → Runs (birth st bk) (take b (take a fs)) ys j → (xs ≡ ys) × Alike k j
  beside a b xs ys k j r s =
      lives_alike (take a (take b es)) (take b (take a fs)) (each_takes Fair a b es fs fair) (birth st bk) (birth st bk) (born_alike st bk) xs ys k j r s

  equal : take (length vs) us ≡ take (length us) vs
  equal =
      let a = run_take (length vs) (take (length us) es) us (birth st bk) l p in
      let b = run_take (length us) (take (length vs) fs) vs (birth st bk) m q in
      (beside (length vs) (length us) (take (length vs) us) (take (length us) vs) a.0 b.0 a.1 b.1).0

  -- the one did not stop before the other, where it had to answer all that it could

  not_less : Far es us l → length us < length vs → ⊥
  not_less c h =
      let n = length us in
      let here : n < length es = omega (arith, h, many, within_second) in
      let b = run_at n (take (length vs) fs) vs (birth st bk) m h q in
      let first : Runs (birth st bk) (take n (take n es)) (take n us) l =
      subst₂ (λ x y. Runs (birth st bk) x y l) (sym (take-take n n es (omega arith))) (sym (take_all n us (omega arith))) p in
      let second : Runs (birth st bk) (take n (take n fs)) (take n vs) b.before =
      subst (λ x. Runs (birth st bk) x (take n vs) b.before) (take-take n (length vs) fs (omega arith) ∙ sym (take-take n n fs (omega arith))) b.run in
      let z = beside n n (take n us) (take n vs) l b.before first second in
      stuck_first l b.before z.1 (get_or es n (ask height)) (get_or fs n (ask height)) (AllZip-get_or Fair es fs n (ask height) (ask height) fair here) b.answer b.after
      (c here) (subst (λ e. Step b.before e b.answer b.after) (get_or-take (length vs) fs n (ask height) h) b.step)

  not_more : Far fs vs m → length vs < length us → ⊥
  not_more c h =
      let n = length vs in
      let here : n < length es = omega (arith, h, within_first) in
      let b = run_at n (take (length us) es) us (birth st bk) l h p in
      let second : Runs (birth st bk) (take n (take n fs)) (take n vs) m =
      subst₂ (λ x y. Runs (birth st bk) x y m) (sym (take-take n n fs (omega arith))) (sym (take_all n vs (omega arith))) q in
      let first : Runs (birth st bk) (take n (take n es)) (take n us) b.before =
      subst (λ x. Runs (birth st bk) x (take n us) b.before) (take-take n (length us) es (omega arith) ∙ sym (take-take n n es (omega arith))) b.run in
      let z = beside n n (take n us) (take n vs) b.before m first second in
      stuck_second b.before m z.1 (get_or es n (ask height)) (get_or fs n (ask height)) (AllZip-get_or Fair es fs n (ask height) (ask height) fair here) b.answer b.after
      (c (omega (arith, here, many))) (subst (λ e. Step b.before e b.answer b.after) (get_or-take (length us) es n (ask height) h) b.step)

  as_many : Far es us l → Far fs vs m → length us ≡ length vs
  as_many c d =
      elim (cases_lt (length us) (length vs)) [
        | inl h ↦ absurd (not_less c h)
        | inr h ↦ elim (cases_lt (length vs) (length us)) [ inl k ↦ absurd (not_more d k) | inr k ↦ omega (arith, h, k) ]
      ]

  all : Far es us l → Far fs vs m → (us ≡ vs) × (l.state ≡ m.state)
  all c d =
      let n = as_many c d in
      let first : Runs (birth st bk) (take (length vs) (take (length us) es)) us l =
      subst (λ x. Runs (birth st bk) x us l) (sym (take_all (length vs) (take (length us) es) (omega (arith, n, length-take (length us) es)))) p in
      let second : Runs (birth st bk) (take (length us) (take (length vs) fs)) vs m =
      subst (λ x. Runs (birth st bk) x vs m) (sym (take_all (length us) (take (length vs) fs) (omega (arith, n, length-take (length vs) fs)))) q in
      let z = beside (length vs) (length us) us vs l m first second in
      (z.0, z.1.state)

-- the life of a run

forget : (es : List Event) (us : List Answer) (l m : Life) → Lives l es us m → Runs l es us m
forget [] [] l m p = p
forget [] (u ∷ us) l m p = absurd p
forget (e ∷ es) [] l m p = absurd p
forget (e ∷ es) (u ∷ us) l m (k, s, _, _, p) = (k, s, forget es us k m p)

-- a run that was not cut short went as far as it could
pub went_far : (es : List Event) (us : List Answer) (l : Life) (stop : Ending) → whole stop ≡ true → Stopped es us l stop → Far es us l
went_far es us l (Ok _) w e = λ h. absurd (omega (arith, h, e))
went_far es us l (Err NotHeld) w e = λ h. e.1
went_far es us l (Err NoMemory) w e = absurd (let z : ◌≡◌ {A = ℕ} 0 1 = cc in omega (arith, z))

empty_store : (s t : Store) → length s.accounts ≡ 0 → length t.accounts ≡ 0 → t.capacity ≡ s.capacity → t.top ≡ s.top → t ≡ s
empty_store s t a b c d = λ i. record { capacity = c i; top = d i; accounts = (nothing t.accounts b ∙ sym (nothing s.accounts a)) i }

empty_book : (s t : Book) → length s.offers ≡ 0 → length t.offers ≡ 0 → t.capacity ≡ s.capacity → t ≡ s
empty_book s t a b c = λ i. record { capacity = c i; offers = (nothing t.offers b ∙ sym (nothing s.offers a)) i }

pub law : (st : Store) (bk : Book) (st' : Store) (bk' : Book) (es fs : List Event) (us vs : List Answer) (stop stop' : Ending)
    → Ran st bk es us stop → Ran st' bk' fs vs stop' → Law st bk st' bk' es fs us vs stop stop'
law st bk st' bk' es fs us vs stop stop' a b = record {
  first = a;
  second = b;
  agree = λ begin fair.
      let l = a.last in
      let m = b.last in
      let p : Runs (birth st bk) (take (length us) es) us l = forget _ us (birth st bk) l a.lived in
      let q : Runs (birth st' bk') (take (length vs) fs) vs m = forget _ vs (birth st' bk') m b.lived in
      let e = begin.empty in
      let r : Runs (birth st bk) (take (length vs) fs) vs m =
      subst₂ (λ s k. Runs (birth s k) (take (length vs) fs) vs m)
      (empty_store st st' e.0 e.2 begin.accounts begin.top) (empty_book bk bk' e.1 e.3 begin.offers) q in
      record {
        equal = equal st bk es fs fair us vs l m p r;
        all = λ w w'. all st bk es fs fair us vs l m p r (went_far es us l stop w a.stopped) (went_far fs vs m stop' w' b.stopped);
      };
}
