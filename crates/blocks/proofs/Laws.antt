-- Bytes are read one way: they say one block or founding at most, or have one fault. Assumes nothing.
use Rattle.std.proofs.Common.{◌≡◌, ℕ, zero, suc, ◌+◌, ◌<◌, ◌≤◌, Bool, true, false, cond, not, ◌&&◌, ltb, leb, ◌⊎◌, List, [], ◌∷◌, ◌++◌, length, sym, refl, ap, ◌∙◌, subst, inl, inr, ⊎_elim, arith}
use Rattle.std.specs.List.{HoldsAt, ContainsAt as Has, flat_map, AllByRecursion}
use Rattle.std.proofs.lemmas.List.{append-nil, append_assoc, length-append, same_from_push}
use Rattle.std.proofs.ByRecursion.{has_push}
use Rattle.std.proofs.lemmas.Bool.{false≢true, both_ways}
use Rattle.std.proofs.lemmas.Bool.Decides.{nat_tests}
use Rattle.terms.specs.declared.Fault.{Fault}
use Rattle.commands.specs.Format.{Cmd, end, command_at, width_at, lettered, whole, fit}
use Rattle.blocks.specs.Readable.{Block, Readable, Refused, Stops, Good, Stand, InTurn, after, follows, is_begin, is_grant, Unended, Flaw, number, Flawed, heights, parents, prices, volumes, transactions, grants}
use Rattle.blocks.specs.Readable.Flaw.{missing, unknown, misplaced, unfit, excess, trailing}
use Rattle.blocks.specs.Laws.{ReadOneWay}
use Rattle.commands.proofs.Cuts.{whole_moves}
pub use Rattle.blocks.proofs.Fitting.{readable_fits, founds_fits}

-- Of two runs of commands from one place, one continues the other.
Continues : List ℕ → List Cmd → ℕ → List Cmd → ℕ → Type 0
Continues bs cs a ds b = (es : List Cmd) × (ds ≡ cs ++ es) × Stand bs a es b

compare : (bs : List ℕ) (from a b : ℕ) (cs ds : List Cmd) → Stand bs from cs a → Stand bs from ds b
    → Continues bs cs a ds b ⊎ Continues bs ds b cs a
unfolding Continues
compare bs from a b [] ds s t = inl (ds, refl, subst (λ p. Stand bs p ds b) s t)
compare bs from a b (c ∷ cs) [] s t = inr (c ∷ cs, refl, subst (λ p. Stand bs p (c ∷ cs) a) t s)
compare bs from a b (c ∷ cs) (d ∷ ds) s t =
    let e : d ≡ c = sym t.1 ∙ s.1 in
    ⊎_elim
    (λ k. inl (k.0, (λ i. e i ∷ k.1 i), k.2))
    (λ k. inr (k.0, (λ i. sym e i ∷ k.1 i), k.2))
    (compare bs (from + width_at bs from) a b cs ds s.2 t.2)

-- no command stands at the end of the bytes
end_whole : (bs : List ℕ) → whole bs (length bs) ≡ true → ⊥
end_whole bs w = let m = whole_moves bs (length bs) w in omega (arith, m.0, m.1)

-- what may come next, from commands in turn
turn_at : (opens : Cmd → Bool) (cs : List Cmd) (e : Cmd) (es : List Cmd) → InTurn opens (cs ++ e ∷ es) → after opens cs e ≡ true
turn_at opens [] e es t = t.0
turn_at opens (c ∷ cs) e es t = turn_at (follows c) cs e es t.1

all_at : {X : Type 0} (P : X → Type 0) (xs : List X) (y : X) (ys : List X) → AllByRecursion P (xs ++ y ∷ ys) → P y
all_at P [] y ys a = a.0
all_at P (x ∷ xs) y ys a = all_at P xs y ys a.1

joined_parts : {X A : Type 0} (f : X → List A) (xs ys : List X) → flat_map f (xs ++ ys) ≡ flat_map f xs ++ flat_map f ys
joined_parts f [] ys = refl
joined_parts f (x ∷ xs) ys = ap (λ l. f x ++ l) (joined_parts f xs ys) ∙ sym (append_assoc (f x) (flat_map f xs) (flat_map f ys))

has_first : {X : Type 0} (x y : X) (xs : List X) (k : ℕ) → k < length (x ∷ xs) → HoldsAt (λ z. z ≡ y) (x ∷ xs) k → (x ≡ y) ⊎ Has xs y
has_first x y xs zero l a = inl (a x)
has_first x y xs (suc k) l a = inr (k, omega arith, a)

-- nothing comes after the end
after_end : (cs : List Cmd) (e : Cmd) (es : List Cmd) → InTurn (follows end) (cs ++ e ∷ es) → ⊥
after_end [] e es t = false≢true t.0
after_end (c ∷ cs) e es t = false≢true t.0

end_last : (opens : Cmd → Bool) (cs : List Cmd) (e : Cmd) (es : List Cmd) → InTurn opens (cs ++ e ∷ es) → Has cs end → ⊥
end_last opens [] e es t h = omega (arith, h.1)
end_last opens (c ∷ cs) e es t h =
    ⊎_elim (λ q. after_end cs e es (subst (λ d. InTurn (follows d) (cs ++ e ∷ es)) q t.1)) (λ k. end_last (follows c) cs e es t.1 k)
    (has_first c end cs h.0 h.1 h.2)

whole_lettered : (bs : List ℕ) (at : ℕ) → whole bs at ≡ true → (at < length bs) × (lettered bs at ≡ true)
whole_lettered bs at w = by at (length bs) (width_at bs at) w
  where
    by : (a n v : ℕ) → ((ltb a n && ltb 0 v) && leb (a + v) n) ≡ true → (a < n) × ((ltb a n && ltb 0 v) ≡ true)
    by a n v h = ((grind (arith, nat_tests)), (grind (arith, nat_tests)))

-- what is wrong, by four tests
abbrev decided : (w m r u : Bool) → ℕ
decided w m r u = cond w (cond m (cond r 6 5) 4) (cond u 3 2)

as_2 : (w m r u : Bool) → w ≡ false → u ≡ false → 2 ≡ decided w m r u
as_2 w m r u p q = rw (p, q)

as_3 : (w m r u : Bool) → w ≡ false → u ≡ true → 3 ≡ decided w m r u
as_3 w m r u p q = rw (p, q)

as_4 : (w m r u : Bool) → w ≡ true → m ≡ false → 4 ≡ decided w m r u
as_4 w m r u p q = rw (p, q)

as_5 : (w m r u : Bool) → w ≡ true → m ≡ true → r ≡ false → 5 ≡ decided w m r u
as_5 w m r u p q s = rw (p, q, s)

as_6 : (w m r u : Bool) → w ≡ true → m ≡ true → r ≡ true → 6 ≡ decided w m r u
as_6 w m r u p q s = rw (p, q, s)

gone : (a n : ℕ) (t : Bool) → (n ≤ a) ⊎ (t ≡ true) → (ltb a n && not t) ≡ false
gone a n t (inl h) = grind (arith, nat_tests)
gone a n t (inr h) = grind (arith, nat_tests)

there : (a n : ℕ) (t : Bool) → a < n → t ≡ false → (ltb a n && not t) ≡ true
there a n t h k = grind (arith, nat_tests)

unlettered : (a n v : ℕ) → (ltb a n && ltb 0 v) ≡ false → ((ltb a n && ltb 0 v) && leb (a + v) n) ≡ false
unlettered a n v h = ap (λ b. b && leb (a + v) n) h

module _ (opens : Cmd → Bool) (bs : List ℕ) where
  -- where good commands go on, nothing is wrong
  blocked : (cs : List Cmd) (at : ℕ) (e : Cmd) (es : List Cmd) (n : ℕ) → Good opens bs (cs ++ e ∷ es) n → Stand bs at (e ∷ es) n
      → (w : Flaw) → Flawed opens bs cs at w → ⊥
  blocked cs at e es n g s missing f = both_ways (whole bs at) f.1 s.0
  blocked cs at e es n g s unknown f = both_ways (lettered bs at) f.2 (whole_lettered bs at s.0).1
  blocked cs at e es n g s misplaced f =
      both_ways (after opens cs (command_at bs at)) f.2 (ap (after opens cs) s.1 ∙ turn_at opens cs e es g.turn)
  blocked cs at e es n g s unfit f =
      both_ways (fit (command_at bs at)) f.3 (ap fit s.1 ∙ all_at (λ c. fit c ≡ true) cs e es g.ranges)
  blocked cs at e es n g s excess f =
      let one : length (transactions e) ≡ 1 = sym (ap (λ c. length (transactions c)) s.1) ∙ f.5 in
      let parts = ap length (joined_parts transactions cs (e ∷ es)) ∙ length-append (flat_map transactions cs) (flat_map transactions (e ∷ es)) in
      let more = length-append (transactions e) (flat_map transactions es) in
      omega (arith, one, parts, more, f.4, g.few)
  blocked cs at e es n g s trailing f = end_last opens cs e es g.turn f.0

  -- the number of what is wrong at a place, but for bytes after the end
  abbrev found_at : List Cmd → ℕ → ℕ
  found_at cs at =
      decided (whole bs at) (after opens cs (command_at bs at)) (fit (command_at bs at)) (ltb at (length bs) && not (lettered bs at))

  numbered_by : (cs : List Cmd) (at : ℕ) (w : Flaw) → Flawed opens bs cs at w
      → (Has cs end × (number w ≡ 7)) ⊎ (Unended cs × (number w ≡ found_at cs at))
  numbered_by cs at missing f = inr (f.0, as_2 _ (after opens cs (command_at bs at)) (fit (command_at bs at)) _ f.1 (gone at (length bs) (lettered bs at) f.2))
  numbered_by cs at unknown f =
      inr (f.0, as_3 _ (after opens cs (command_at bs at)) (fit (command_at bs at)) _ (unlettered at (length bs) (width_at bs at) f.2) (there at (length bs) (lettered bs at) f.1 f.2))
  numbered_by cs at misplaced f = inr (f.0, as_4 (whole bs at) (after opens cs (command_at bs at)) (fit (command_at bs at)) (ltb at (length bs) && not (lettered bs at)) f.1 f.2)
  numbered_by cs at unfit f = inr (f.0, as_5 (whole bs at) (after opens cs (command_at bs at)) (fit (command_at bs at)) (ltb at (length bs) && not (lettered bs at)) f.1 f.2 f.3)
  numbered_by cs at excess f = inr (f.0, as_6 (whole bs at) (after opens cs (command_at bs at)) (fit (command_at bs at)) (ltb at (length bs) && not (lettered bs at)) f.1 f.2 f.3)
  numbered_by cs at trailing f = inl (f.0, refl)

  same_number : (cs : List Cmd) (at : ℕ) (v w : Flaw) → Flawed opens bs cs at v → Flawed opens bs cs at w → number v ≡ number w
  same_number cs at v w f g =
      ⊎_elim
      (λ p. ⊎_elim (λ q. p.1 ∙ sym q.1) (λ q. absurd (q.0 p.0)) (numbered_by cs at w g))
      (λ p. ⊎_elim (λ q. absurd (p.0 q.0)) (λ q. p.1 ∙ sym q.1) (numbered_by cs at w g))
      (numbered_by cs at v f)

  -- where two runs of good commands lead to a fault each, they are the same, and so are the faults
  same_stop : (f g : Fault) (s : Stops opens bs f) (t : Stops opens bs g)
      → Continues bs s.commands f.first t.commands g.first → f ≡ g
  unfolding Continues
  same_stop f g s t k = at k.0 k.1 k.2
    where
      at : (es : List Cmd) → t.commands ≡ s.commands ++ es → Stand bs f.first es g.first → f ≡ g
      at [] e r =
          let same : t.commands ≡ s.commands = e ∙ append-nil s.commands in
          let there = subst (λ n. Flawed opens bs t.commands n t.flaw) (sym r) t.flawed in
          let here = subst (λ cs. Flawed opens bs cs f.first t.flaw) same there in
          let n = s.numbered ∙ (same_number s.commands f.first s.flaw t.flaw s.flawed here ∙ sym t.numbered) in
          λ i. record { number = n i; first = r i; second = (s.second ∙ sym t.second) i }
      at (x ∷ es) e r =
          absurd (blocked s.commands f.first x es g.first (subst (λ cs. Good opens bs cs g.first) e t.good) r s.flaw s.flawed)

  stops_once : (f g : Fault) → Stops opens bs f → Stops opens bs g → f ≡ g
  stops_once f g s t =
      ⊎_elim (same_stop f g s t) (λ k. sym (same_stop g f t s k))
      (compare bs 0 f.first g.first s.commands t.commands s.good.stand t.good.stand)

  -- commands to the end of the bytes are all there are
  same_whole : (cs ds : List Cmd) → Good opens bs (cs ++ end ∷ []) (length bs) → Good opens bs (ds ++ end ∷ []) (length bs) → cs ≡ ds
  unfolding Continues
  same_whole cs ds g h =
      (same_from_push cs ds end end
      (⊎_elim (λ k. sym (at _ _ k.0 k.1 k.2)) (λ k. at _ _ k.0 k.1 k.2)
      (compare bs 0 (length bs) (length bs) (cs ++ end ∷ []) (ds ++ end ∷ []) g.stand h.stand))).0
    where
      at : (xs ys : List Cmd) (es : List Cmd) → ys ≡ xs ++ es → Stand bs (length bs) es (length bs) → ys ≡ xs
      at xs ys [] e r = e ∙ append-nil xs
      at xs ys (x ∷ es) e r = absurd (end_whole bs r.0)

  -- and then nothing is wrong
  whole_fine : (cs : List Cmd) (f : Fault) → Good opens bs (cs ++ end ∷ []) (length bs) → Stops opens bs f → ⊥
  unfolding Continues
  whole_fine cs f g s =
      ⊎_elim (λ k. before k.0 k.1 k.2) (λ k. beyond k.0 k.1 k.2)
      (compare bs 0 f.first (length bs) s.commands (cs ++ end ∷ []) s.good.stand g.stand)
    where
      ended : s.commands ≡ cs ++ end ∷ [] → length bs ≤ f.first → ⊥
      ended e l =
          let h : Has s.commands end = subst (λ ds. Has ds end) (sym e) (has_push cs end) in
          ⊎_elim (λ p. trailing_not s.flaw s.flawed h l) (λ p. p.0 h) (numbered_by s.commands f.first s.flaw s.flawed)
        where
          trailing_not : (w : Flaw) → Flawed opens bs s.commands f.first w → Has s.commands end → length bs ≤ f.first → ⊥
          trailing_not missing v h l = v.0 h
          trailing_not unknown v h l = v.0 h
          trailing_not misplaced v h l = v.0 h
          trailing_not unfit v h l = v.0 h
          trailing_not excess v h l = v.0 h
          trailing_not trailing v h l = omega (arith, v.1)

      before : (es : List Cmd) → cs ++ end ∷ [] ≡ s.commands ++ es → Stand bs f.first es (length bs) → ⊥
      before [] e r = ended (sym (e ∙ append-nil s.commands)) (omega (arith, r))
      before (x ∷ es) e r =
          blocked s.commands f.first x es (length bs) (subst (λ ds. Good opens bs ds (length bs)) e g) r s.flaw s.flawed

      beyond : (es : List Cmd) → s.commands ≡ (cs ++ end ∷ []) ++ es → Stand bs (length bs) es f.first → ⊥
      beyond [] e r = ended (e ∙ append-nil (cs ++ end ∷ [])) (omega (arith, r))
      beyond (x ∷ es) e r = end_whole bs r.0

  refused_once : (f g : Fault) → Refused opens bs f → Refused opens bs g → f ≡ g
  refused_once f g p q =
      ⊎_elim
      (λ a. ⊎_elim (λ b. a.1 ∙ sym b.1) (λ b. absurd (omega (arith, a.0, b.0))) q)
      (λ a. ⊎_elim (λ b. absurd (omega (arith, a.0, b.0))) (λ b. stops_once f g a.1 b.1) q)
      p

  refused_not : (cs : List Cmd) (f : Fault) → length bs ≤ 40000 → Good opens bs (cs ++ end ∷ []) (length bs) → Refused opens bs f → ⊥
  refused_not cs f l g p = ⊎_elim (λ a. omega (arith, a.0)) (λ a. whole_fine cs f g a.1) p

readable_once : (bs : List ℕ) (b c : Block) → Readable bs b → Readable bs c → b ≡ c
readable_once bs b c r s =
    let e = same_whole is_begin bs r.commands s.commands r.good s.good in
    let h : b.height ∷ [] ≡ c.height ∷ [] = sym r.height ∙ (ap (flat_map heights) e ∙ s.height) in
    let p = sym r.parent ∙ (ap (flat_map parents) e ∙ s.parent) in
    let q = sym r.priced ∙ (ap (flat_map prices) e ∙ s.priced) in
    let v = sym r.traded ∙ (ap (flat_map volumes) e ∙ s.traded) in
    let t = sym r.moved ∙ (ap (flat_map transactions) e ∙ s.moved) in
    let k : b.height ≡ c.height = cc in
    λ i. record { height = k i; parent = p i; prices = q i; volumes = v i; transactions = t i }

pub read_one_way : ReadOneWay
read_one_way =
    record {
      block = readable_once;
      founding = λ bs gs hs r s.
          sym r.granted ∙ (ap (flat_map grants) (same_whole is_grant bs r.commands s.commands r.good s.good) ∙ s.granted);
      fault = refused_once;
      block_or_fault = λ bs b f r p. refused_not is_begin bs r.commands f r.short r.good p;
      founding_or_fault = λ bs gs f r p. refused_not is_grant bs r.commands f r.short r.good p;
    }
