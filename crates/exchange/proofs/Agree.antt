-- Two replicas to which the same events come give equal answers. Assumes nothing.
use Rattle.std.proofs.Common.{◌≡◌, ℕ, zero, suc, Bool, true, false, ltb, List, [], ◌∷◌, length, get_or, set, Some, None, Ok, Err, MatchBool, Option, Result, sym, refl, ap, ◌∙◌, subst, ap₂, subst₂, inl, inr, arith}
use Rattle.std.specs.List.{AllZip}
use Rattle.std.specs.List.Sorted.{IsPermutation}
use Rattle.std.proofs.lemmas.List.Elements.{AllZip-push, length_all_zip}
use Rattle.std.proofs.lemmas.List.Sorted.{IsPermutation-refl}
use Rattle.terms.specs.declared.Key.{Key}
use Rattle.terms.specs.declared.Grant.{Grant}
use Rattle.terms.specs.declared.Fault.{Fault}
use Rattle.terms.specs.Holdings.{Store, Book}
use Rattle.blocks.specs.Readable.{Block, Readable, Founds, Refused, is_begin, is_grant}
use Rattle.blocks.proofs.Laws.{read_one_way}
use Rattle.exchange.specs.State.{State, most}
use Rattle.exchange.specs.Faults.{Verdict, FoundingVerdict}
use Rattle.exchange.specs.Life.{Event, Answer, Life, life, birth, Holds, Step, Runs, Judged, SayAlike, Reads, ReadsFounding, Rules, RulesCheck, RulesFounding, AfterFounding, AfterCheck, AfterCommit, held_after, or_refused, fill_of, is_empty, Rearranged, SameBlock, SameFounding, Fair}
use Rattle.exchange.specs.Life.Event.{found, check, fill, commit, reject, ask}
use Rattle.exchange.specs.Life.Answer.{done, refused, checked, filled}
use Rattle.exchange.specs.Claims.{ReplicasAgree}
use Rattle.exchange.proofs.Rearranged.{rearranged_refl, verdicts, sold_alike, paid_alike}
use Rattle.exchange.proofs.Alike.{commits_alike, founded_alike, founding_order_free}

-- two outcomes of reading: values that are related, or the same fault
abbrev Paired : {X : Type 0} → (X → X → Type 0) → Result X Fault → Result X Fault → Type 0
Paired R (Ok x) (Ok y) = R x y
Paired R (Ok x) (Err g) = ⊥
Paired R (Err f) (Ok y) = ⊥
Paired R (Err f) (Err g) = f ≡ g

paired_faults : {X : Type 0} (R : X → X → Type 0) (f : Fault) (r q : Result X Fault) → r ≡ Err f → q ≡ Err f → Paired R r q
paired_faults R f r q p e = subst₂ (Paired R) (sym p) (sym e) refl

when_both : {A B C D R : Type 0} (t : Bool) → MatchBool t A B → MatchBool t C D → (A → C → R) → (B → D → R) → R
when_both true p q f g = f p q
when_both false p q f g = g p q

same_some : {X : Type 0} (x y : X) → Some x ≡ Some y → x ≡ y
same_some x y e = cc

-- a fault cannot be found where there is none
none_some : {A : Type 0} (f : Fault) → ◌≡◌ {A = Option Fault} None (Some f) → A
none_some f e = absurd (let z : ◌≡◌ {A = ℕ} 0 1 = cc in omega (arith, z))

-- what bytes say, how they are refused, what is found in what they say, and when two say the same but for the order
module _ {X : Type 0} (Says : List ℕ → X → Type 0) (Refuses : List ℕ → Fault → Type 0) (Finds : X → Option Fault → Type 0) (R : X → X → Type 0)
    (one-said : (bs : List ℕ) (x y : X) → Says bs x → Says bs y → x ≡ y)
    (one-fault : (bs : List ℕ) (f g : Fault) → Refuses bs f → Refuses bs g → f ≡ g)
    (not_both : (bs : List ℕ) (x : X) (f : Fault) → Says bs x → Refuses bs f → ⊥)
    (found_alike : (x y : X) → R x y → (v w : Option Fault) → Finds x v → Finds y w → v ≡ w)
    (itself : (x : X) → R x x) where
  module _ (bs cs : List ℕ) (x y : X) (p : Says bs x) (q : Says cs y) (r : R x y) where
    same_verdict : (v w : Option Fault) (d e : X) → Says bs d → Finds d v → Says cs e → Finds e w → v ≡ w
    same_verdict v w d e hd vd he ve =
        found_alike x y r v w (subst (λ z. Finds z v) (one-said bs d x hd p) vd) (subst (λ z. Finds z w) (one-said cs e y he q) ve)

    said_paired : (u v : Result X Fault) → Judged (Says bs) (Refuses bs) Finds u → Judged (Says cs) (Refuses cs) Finds v → Paired R u v
    said_paired (Ok d) (Ok e) (h, _) (k, _) = subst₂ R (sym (one-said bs d x h p)) (sym (one-said cs e y k q)) r
    said_paired (Ok d) (Err g) (h, u) (inl k) = absurd (not_both cs y g q k)
    said_paired (Ok d) (Err g) (h, u) (inr (e, k, w)) = none_some g (same_verdict None (Some g) d e h u k w)
    said_paired (Err f) (Ok e) (inl h) (k, w) = absurd (not_both bs x f p h)
    said_paired (Err f) (Ok e) (inr (d, h, u)) (k, w) = none_some f (sym (same_verdict (Some f) None d e h u k w))
    said_paired (Err f) (Err g) (inl h) v = absurd (not_both bs x f p h)
    said_paired (Err f) (Err g) (inr (d, h, u)) (inl k) = absurd (not_both cs y g q k)
    said_paired (Err f) (Err g) (inr (d, h, u)) (inr (e, k, w)) = same_some f g (same_verdict (Some f) (Some g) d e h u k w)

  -- the same bytes, whatever they are
  same_paired : (bs : List ℕ) (u v : Result X Fault) → Judged (Says bs) (Refuses bs) Finds u → Judged (Says bs) (Refuses bs) Finds v → Paired R u v
  same_paired bs (Ok d) v (h, u) w = said_paired bs bs d d h h (itself d) (Ok d) v (h, u) w
  same_paired bs (Err f) (Ok e) u (k, w) = said_paired bs bs e e k k (itself e) (Err f) (Ok e) u (k, w)
  same_paired bs (Err f) (Err g) (inl h) (inl k) = one-fault bs f g h k
  same_paired bs (Err f) (Err g) (inl h) (inr (e, k, w)) = absurd (not_both bs e f k h)
  same_paired bs (Err f) (Err g) (inr (d, h, u)) w = said_paired bs bs d d h h (itself d) (Err f) (Err g) (inr (d, h, u)) w

  readings_paired : (bs cs : List ℕ) → SayAlike Says R bs cs → (u v : Result X Fault)
      → Judged (Says bs) (Refuses bs) Finds u → Judged (Says cs) (Refuses cs) Finds v → Paired R u v
  readings_paired bs cs (inl e) u v p q = same_paired bs u v p (subst (λ z. Judged (Says z) (Refuses z) Finds v) (sym e) q)
  readings_paired bs cs (inr (x, y, hx, hy, r)) u v p q = said_paired bs cs x y hx hy r u v p q

module _ (s : State) where
  reads_paired : (bs cs : List ℕ) → SameBlock bs cs → (x y : Result Block Fault) → Reads s bs x → Reads s cs y → Paired Rearranged x y
  reads_paired =
      readings_paired Readable (Refused is_begin) (Verdict s) Rearranged read_one_way.block (read_one_way.fault is_begin)
      read_one_way.block_or_fault (verdicts s) rearranged_refl

  rules_paired : (bs cs : List ℕ) → SameBlock bs cs → (x y : Result Block Fault) → Rules s bs x → Rules s cs y → Paired Rearranged x y
  rules_paired bs cs h x y p q = when_both s.founded p q (reads_paired bs cs h x y) (paired_faults Rearranged _ x y)

  checks_paired : (bs cs : List ℕ) → SameBlock bs cs → (x y : Result Block Fault) → RulesCheck s bs x → RulesCheck s cs y → Paired Rearranged x y
  checks_paired bs cs h x y p q =
      when_both s.founded p q
      (λ u w. when_both (ltb s.counts.passed most) u w (reads_paired bs cs h x y) (paired_faults Rearranged _ x y))
      (paired_faults Rearranged _ x y)

  foundings_paired : (bs cs : List ℕ) → SameFounding bs cs → (x y : Result (List Grant) Fault) → RulesFounding s bs x → RulesFounding s cs y → Paired IsPermutation x y
  foundings_paired bs cs h x y p q =
      when_both s.founded p q (paired_faults IsPermutation _ x y)
      (λ u w. when_both (is_empty s) u w (read bs cs h x y) (paired_faults IsPermutation _ x y))
    where
      read : (bs cs : List ℕ) → SameFounding bs cs → (x y : Result (List Grant) Fault) → ReadsFounding s bs x → ReadsFounding s cs y → Paired IsPermutation x y
      read =
          readings_paired Founds (Refused is_grant) (FoundingVerdict s.store) IsPermutation read_one_way.founding (read_one_way.fault is_grant)
          read_one_way.founding_or_fault (λ gs hs r. (founding_order_free s gs hs r).verdicts) IsPermutation-refl

-- what the two hold
abbrev pub Both : Option (List ℕ) → Option (List ℕ) → Type 0
Both None None = Unit {0}
Both None (Some c) = ⊥
Both (Some b) None = ⊥
Both (Some b) (Some c) = SameBlock b c

both_at : (hs ks : List (Option (List ℕ))) → AllZip Both hs ks → (i : ℕ) → Both (get_or hs i None) (get_or ks i None)
both_at [] [] h i = tt
both_at [] (y ∷ ys) h i = absurd h
both_at (x ∷ xs) [] h i = absurd h
both_at (x ∷ xs) (y ∷ ys) h zero = h.0
both_at (x ∷ xs) (y ∷ ys) h (suc i) = both_at xs ys h.1 i

both_set : (hs ks : List (Option (List ℕ))) → AllZip Both hs ks → (i : ℕ) → AllZip Both (set hs i None) (set ks i None)
both_set [] [] h i = tt
both_set [] (y ∷ ys) h i = absurd h
both_set (x ∷ xs) [] h i = absurd h
both_set (x ∷ xs) (y ∷ ys) h zero = (tt, h.1)
both_set (x ∷ xs) (y ∷ ys) h (suc i) = (h.0, both_set xs ys h.1 i)

both_held : (hs ks : List (Option (List ℕ))) → AllZip Both hs ks → (i : ℕ) (b c : List ℕ) → get_or hs i None ≡ Some b → get_or ks i None ≡ Some c → SameBlock b c
both_held hs ks h i b c p q = subst₂ Both p q (both_at hs ks h i)

pub record Alike (l m : Life) : Type 0 where
  pub state : l.state ≡ m.state
  pub held : AllZip Both l.held m.held

abbrev Agree : Answer → Answer → Life → Life → Type 0
Agree a b l m = (a ≡ b) × Alike l m

-- the calls, each on its own

module _ (s : State) where
  founded_both : (x y : Result (List Grant) Fault) → Paired IsPermutation x y → (t u : State) → AfterFounding s x t → AfterFounding s y u
      → (or_refused done x ≡ or_refused done y) × (t ≡ u)
  founded_both (Ok gs) (Ok hs) r t u p q = (refl, founded_alike s gs hs r t u p q)
  founded_both (Ok gs) (Err g) r t u p q = absurd r
  founded_both (Err f) (Ok hs) r t u p q = absurd r
  founded_both (Err f) (Err g) r t u p q = (ap refused r, p ∙ sym q)

  checked_both : (bs cs : List ℕ) → SameBlock bs cs → (l m : Life) → AllZip Both l.held m.held
      → (x y : Result Block Fault) → Paired Rearranged x y → (t u : State) → AfterCheck s x t → AfterCheck s y u
      → (or_refused (checked (length l.held)) x ≡ or_refused (checked (length m.held)) y) × (t ≡ u) × AllZip Both (held_after l bs x) (held_after m cs y)
  checked_both bs cs e l m h (Ok b) (Ok c) r t u p q =
      (ap checked (length_all_zip Both l.held m.held h), p ∙ sym q, AllZip-push Both l.held m.held (Some bs) (Some cs) h e)
  checked_both bs cs e l m h (Ok b) (Err g) r t u p q = absurd r
  checked_both bs cs e l m h (Err f) (Ok c) r t u p q = absurd r
  checked_both bs cs e l m h (Err f) (Err g) r t u p q = (ap refused r, p ∙ sym q, h)

  filled_both : (k : Key) (x y : Result Block Fault) → Paired Rearranged x y → fill_of s k x ≡ fill_of s k y
  filled_both k (Ok b) (Ok c) r = ap₂ filled (sold_alike s b c r k) (paid_alike s b c r k)
  filled_both k (Ok b) (Err g) r = absurd r
  filled_both k (Err f) (Ok c) r = absurd r
  filled_both k (Err f) (Err g) r = ap refused r

  spent_both : (x y : Result Block Fault) → Paired Rearranged x y → (t u : State) → AfterCommit s x t → AfterCommit s y u
      → (or_refused done x ≡ or_refused done y) × (t ≡ u)
  spent_both (Ok b) (Ok c) r t u p q = (refl, commits_alike s b c r t u p q)
  spent_both (Ok b) (Err g) r t u p q = absurd r
  spent_both (Err f) (Ok c) r t u p q = absurd r
  spent_both (Err f) (Err g) r t u p q = (ap refused r, p ∙ sym q)

module _ (s : State) (hs ks : List (Option (List ℕ))) (gs fs : List Grant) (h : AllZip Both hs ks) where
  on_found : (bs cs : List ℕ) → SameFounding bs cs → (x y : Answer) (l m : Life) → Step (life s hs gs) (found bs) x l → Step (life s ks fs) (found cs) y m → Agree x y l m
  on_found bs cs e x y l m (r, p, a, t, i, _) (r', p', a', t', i', _) =
      let z = founded_both s r r' (foundings_paired s bs cs e r r' p p') l.state m.state t t' in
      (a ∙ z.0 ∙ sym a', record { state = z.1; held = subst₂ (AllZip Both) (sym i) (sym i') h })

  on_check : (bs cs : List ℕ) → SameBlock bs cs → (x y : Answer) (l m : Life) → Step (life s hs gs) (check bs) x l → Step (life s ks fs) (check cs) y m → Agree x y l m
  on_check bs cs e x y l m (r, p, a, t, i, _) (r', p', a', t', i', _) =
      let z = checked_both s bs cs e (life s hs gs) (life s ks fs) h r r' (checks_paired s bs cs e r r' p p') l.state m.state t t' in
      (a ∙ z.0 ∙ sym a', record { state = z.1; held = subst₂ (AllZip Both) (sym i) (sym i') z.2 })

  step : (e : Event) (x y : Answer) (l m : Life) → Step (life s hs gs) e x l → Step (life s ks fs) e y m → Agree x y l m
  step (found bs) x y l m p q = on_found bs bs (inl refl) x y l m p q
  step (check bs) x y l m p q = on_check bs bs (inl refl) x y l m p q
  step (fill i k) x y l m (bs, hb, (r, p, a, e)) (cs, hc, (r', p', a', e')) = (
    a ∙ filled_both s k r r' (rules_paired s bs cs (both_held hs ks h i bs cs hb hc) r r' p p') ∙ sym a',
    subst₂ Alike (sym e) (sym e') (record { state = refl; held = h }),
  )
  step (commit i) x y l m (bs, hb, (r, p, a, t, e, _)) (cs, hc, (r', p', a', t', e', _)) =
      let z = spent_both s r r' (rules_paired s bs cs (both_held hs ks h i bs cs hb hc) r r' p p') l.state m.state t t' in
      (a ∙ z.0 ∙ sym a', record { state = z.1; held = subst₂ (AllZip Both) (sym e) (sym e') (both_set hs ks h i) })
  step (reject i) x y l m (bs, hb, a, e) (cs, hc, a', e') =
      (a ∙ sym a', subst₂ Alike (sym e) (sym e') (record { state = refl; held = both_set hs ks h i }))
  step (ask k) x y l m (a, e) (a', e') = (a ∙ sym a', subst₂ Alike (sym e) (sym e') (record { state = refl; held = h }))

  fair_step : (e f : Event) → Fair e f → (x y : Answer) (l m : Life) → Step (life s hs gs) e x l → Step (life s ks fs) f y m → Agree x y l m
  fair_step e f (inl i) x y l m p q = step e x y l m p (subst (λ z. Step (life s ks fs) z y m) (sym i) q)
  fair_step e f (inr (inl (bs, cs, i, j, w))) x y l m p q =
      on_check bs cs w x y l m (subst (λ z. Step (life s hs gs) z x l) i p) (subst (λ z. Step (life s ks fs) z y m) j q)
  fair_step e f (inr (inr (bs, cs, i, j, w))) x y l m p q =
      on_found bs cs w x y l m (subst (λ z. Step (life s hs gs) z x l) i p) (subst (λ z. Step (life s ks fs) z y m) j q)

pub lives_alike : (es fs : List Event) → AllZip Fair es fs → (l m : Life) → Alike l m → (us vs : List Answer) (k n : Life)
    → Runs l es us k → Runs m fs vs n → (us ≡ vs) × Alike k n
lives_alike [] [] f l m h [] [] k n p q = (refl, subst₂ Alike (sym p) (sym q) h)
lives_alike [] [] f l m h [] (v ∷ vs) k n p q = absurd q
lives_alike [] [] f l m h (u ∷ us) vs k n p q = absurd p
lives_alike [] (e ∷ fs) f l m h us vs k n p q = absurd f
lives_alike (e ∷ es) [] f l m h us vs k n p q = absurd f
lives_alike (e ∷ es) (e' ∷ fs) f l m h [] vs k n p q = absurd p
lives_alike (e ∷ es) (e' ∷ fs) f l m h (u ∷ us) [] k n p q = absurd q
lives_alike (e ∷ es) (e' ∷ fs) f l m h (u ∷ us) (v ∷ vs) k n (l', p, ps) (m', q, qs) =
    let z = fair_step l.state l.held m.held l.grants m.grants h.held e e' f.0 u v l' m' p
    (subst (λ s. Step (life s m.held m.grants) e' v m') (sym h.state) q) in
    let w = lives_alike es fs f.1 l' m' z.1 us vs k n ps qs in
    (ap₂ ◌∷◌ z.0 w.0, w.1)

-- what the one holds, the other holds too
first_held : (x y : Option (List ℕ)) → Both x y → (b : List ℕ) → y ≡ Some b → (a : List ℕ) × (x ≡ Some a)
first_held None None h b e = absurd (let z : ◌≡◌ {A = ℕ} 0 1 = cc in omega (arith, z))
first_held None (Some c) h b e = absurd h
first_held (Some a) y h b e = (a, refl)

second_held : (x y : Option (List ℕ)) → Both x y → (b : List ℕ) → x ≡ Some b → (a : List ℕ) × (y ≡ Some a)
second_held None None h b e = absurd (let z : ◌≡◌ {A = ℕ} 0 1 = cc in omega (arith, z))
second_held x (Some c) h b e = (c, refl)
second_held (Some a) None h b e = absurd h

pub held_first : (l m : Life) → Alike l m → (i : ℕ) (b : List ℕ) → Holds m i b → (a : List ℕ) × Holds l i a
held_first l m h i b e = first_held (get_or l.held i None) (get_or m.held i None) (both_at l.held m.held h.held i) b e

pub held_second : (l m : Life) → Alike l m → (i : ℕ) (b : List ℕ) → Holds l i b → (a : List ℕ) × Holds m i a
held_second l m h i b e = second_held (get_or l.held i None) (get_or m.held i None) (both_at l.held m.held h.held i) b e

-- two lives at their beginning
pub born_alike : (st : Store) (bk : Book) → Alike (birth st bk) (birth st bk)
born_alike st bk = record { state = refl; held = tt }

pub replicas_agree : ReplicasAgree
replicas_agree st bk es fs f us vs l m p q =
    let z = lives_alike es fs f (birth st bk) (birth st bk) (born_alike st bk) us vs l m p q in
    (z.0, z.1.state)
