-- What is known of every readable block and founding. Assumes nothing.
use Rattle.std.proofs.Common.{◌≡◌, ℕ, ◌+◌, ◌*◌, ◌<◌, ◌≤◌, Bool, true, false, cond, ◌&&◌, eqb, ltb, leb, List, [], ◌∷◌, ◌++◌, length, get_or, sym, refl, ap, ◌∙◌, subst, arith}
use Rattle.std.specs.List.{flat_map, AllByRecursion}
use Rattle.std.proofs.lemmas.List.{append-nil, length-append, length-take, length-drop}
use Rattle.std.proofs.ByRecursion.{All-push}
use Rattle.std.proofs.lemmas.Bool.{cond-true, false≢true, eqb-true, ltb-true, ltb-false, le-leb, eq-eqb}
use Rattle.std.proofs.lemmas.Bool.Decides.{nat_tests}
use Rattle.terms.specs.declared.Volume.{Volume}
use Rattle.terms.specs.declared.Grant.{Grant}
use Rattle.terms.specs.Order.{lower}
use Rattle.terms.specs.Ranges.{every, is_pair, is_price, is_word, fit_volume, fit_transaction, fit_grant}
use Rattle.terms.specs.Holdings.{rising}
use Rattle.commands.specs.Format.{Cmd, begin, price, volume, transaction, found, end, begin_at, price_at, volume_at, create_at, pay_at, place_at, cancel_at, found_at, command_at, width_at, whole, fit}
use Rattle.blocks.specs.Readable.{Block, Readable, Founds, Good, Stand, InTurn, follows, is_begin, is_price_of, is_volume_above, is_transaction, pair, heights, parents, prices, volumes, transactions, grants, fit_block, fit_grants}
use Rattle.commands.proofs.Cuts.{whole_moves, wide, width_is}
use Rattle.blocks.proofs.Steps.{joined_push}
use Rattle.blocks.proofs.Drafting.{rank_of, rank_bound, rank_rises}

and_true : (a b : Bool) → a ≡ true → b ≡ true → (a && b) ≡ true
and_true a b p q = ap (λ x. x && b) p ∙ q

and_parts : (a b : Bool) → (a && b) ≡ true → (a ≡ true) × (b ≡ true)
and_parts true b h = (refl, h)
and_parts false b h = absurd (false≢true h)

every_append : {X : Type 0} (p : X → Bool) (xs ys : List X) → every p xs ≡ true → every p ys ≡ true → every p (xs ++ ys) ≡ true
every_append p [] ys h k = k
every_append p (x ∷ xs) ys h k =
    let q = and_parts (p x) (every p xs) h in
    and_true (p x) (every p (xs ++ ys)) q.0 (every_append p xs ys q.1 k)

-- what holds of the parts of each command in range
every_joined : {X : Type 0} (p : X → Bool) (f : Cmd → List X) → ((c : Cmd) → fit c ≡ true → every p (f c) ≡ true)
    → (cs : List Cmd) → AllByRecursion (λ c. fit c ≡ true) cs → every p (flat_map f cs) ≡ true
every_joined p f h [] a = refl
every_joined p f h (c ∷ cs) a = every_append p (f c) (flat_map f cs) (h c a.0) (every_joined p f h cs a.1)

module _ where
  one : {X : Type 0} (p : X → Bool) (x : X) → p x ≡ true → every p (x ∷ []) ≡ true
  one p x h = and_true (p x) true h refl

  word_heights : (c : Cmd) → fit c ≡ true → every is_word (heights c) ≡ true
  word_heights (begin h p) f = one is_word h f
  word_heights (price x p) f = refl
  word_heights (volume v) f = refl
  word_heights (transaction t m) f = refl
  word_heights (found g) f = refl
  word_heights end f = refl

  fit_prices : (c : Cmd) → fit c ≡ true → every is_price (prices c) ≡ true
  fit_prices (begin h p) f = refl
  fit_prices (price x p) f = one is_price p (and_parts (ltb x 8) (is_price p) f).1
  fit_prices (volume v) f = refl
  fit_prices (transaction t m) f = refl
  fit_prices (found g) f = refl
  fit_prices end f = refl

  fit_volumes : (c : Cmd) → fit c ≡ true → every fit_volume (volumes c) ≡ true
  fit_volumes (begin h p) f = refl
  fit_volumes (price x p) f = refl
  fit_volumes (volume v) f = one fit_volume v f
  fit_volumes (transaction t m) f = refl
  fit_volumes (found g) f = refl
  fit_volumes end f = refl

  fit_transactions : (c : Cmd) → fit c ≡ true → every fit_transaction (transactions c) ≡ true
  fit_transactions (begin h p) f = refl
  fit_transactions (price x p) f = refl
  fit_transactions (volume v) f = refl
  fit_transactions (transaction t m) f = one fit_transaction t f
  fit_transactions (found g) f = refl
  fit_transactions end f = refl

  grants_fit : (c : Cmd) → fit c ≡ true → every fit_grant (grants c) ≡ true
  grants_fit (begin h p) f = refl
  grants_fit (price x p) f = refl
  grants_fit (volume v) f = refl
  grants_fit (transaction t m) f = refl
  grants_fit (found g) f = one fit_grant g f
  grants_fit end f = refl

-- Transactions and the end say no prices and no volumes.
tail : (cs : List Cmd) → InTurn is_transaction cs → (flat_map prices cs ≡ []) × (flat_map volumes cs ≡ [])
tail [] t = (refl, refl)
tail (begin h p ∷ cs) t = absurd (false≢true t.0)
tail (price x p ∷ cs) t = absurd (false≢true t.0)
tail (volume v ∷ cs) t = absurd (false≢true t.0)
tail (transaction u m ∷ cs) t = tail cs t.1
tail (found g ∷ cs) t = absurd (false≢true t.0)
tail (end ∷ []) t = (refl, refl)
tail (end ∷ c ∷ cs) t = absurd (false≢true t.1.0)

-- Volumes above the pair l: no prices, and pairs that rise from there on; r is at most the number of pairs up to l.
pub record Rises (l : List ℕ) (r : ℕ) (cs : List Cmd) : Type 0 where
  pub unpriced : flat_map prices cs ≡ []
  pub above : every (λ v. lower l (pair v)) (flat_map volumes cs) ≡ true
  pub rise : rising pair (flat_map volumes cs) ≡ true
  pub few : length (flat_map volumes cs) + r ≤ 56

quiet : (l : List ℕ) (r : ℕ) (cs : List Cmd) → r ≤ 56 → (flat_map prices cs ≡ []) × (flat_map volumes cs ≡ []) → Rises l r cs
quiet l r cs h e =
    record {
      unpriced = e.0;
      above = ap (every (λ v. lower l (pair v))) e.1;
      rise = ap (rising pair) e.1;
      few = subst (λ vs. length vs + r ≤ 56) (sym e.1) (omega arith);
    }

pair_trans : (a b c d e f : ℕ) → lower (a ∷ b ∷ []) (c ∷ d ∷ []) ≡ true → lower (c ∷ d ∷ []) (e ∷ f ∷ []) ≡ true
    → lower (a ∷ b ∷ []) (e ∷ f ∷ []) ≡ true
pair_trans a b c d e f p q = grind (arith, nat_tests)

every_weaker : {X : Type 0} (p q : X → Bool) → ((x : X) → p x ≡ true → q x ≡ true) → (xs : List X) → every p xs ≡ true → every q xs ≡ true
every_weaker p q h [] e = refl
every_weaker p q h (x ∷ xs) e =
    let a = and_parts (p x) (every p xs) e in
    and_true (q x) (every q xs) (h x a.0) (every_weaker p q h xs a.1)

climb : (l : List ℕ) (r : ℕ) → r ≤ 56
    → ((v w : Volume) → lower l (pair v) ≡ true → lower (pair v) (pair w) ≡ true → lower l (pair w) ≡ true)
    → ((v : Volume) → is_pair v.sold v.bought ≡ true → lower l (pair v) ≡ true → r + 1 ≤ rank_of v.sold v.bought)
    → (cs : List Cmd) → AllByRecursion (λ c. fit c ≡ true) cs → InTurn (is_volume_above l) cs → Rises l r cs
climb l r b tr up [] a t = quiet l r [] b (refl, refl)
climb l r b tr up (begin h p ∷ cs) a t = absurd (false≢true t.0)
climb l r b tr up (price x p ∷ cs) a t = absurd (false≢true t.0)
climb l r b tr up (volume v ∷ cs) a t =
    let i : is_pair v.sold v.bought ≡ true = (and_parts (is_pair v.sold v.bought) _ a.0).0 in
    let k = rank_of v.sold v.bought in
    let n = climb (pair v) k (rank_bound v.sold v.bought i).1
    (λ w u. pair_trans v.sold v.bought w.sold w.bought u.sold u.bought)
    (λ w j. rank_rises v.sold v.bought w.sold w.bought i j) cs a.1 t.1 in
    record {
      unpriced = n.unpriced;
      above = and_true (lower l (pair v)) (every (λ w. lower l (pair w)) (flat_map volumes cs)) t.0
          (every_weaker (λ w. lower (pair v) (pair w)) (λ w. lower l (pair w)) (λ w. tr v w t.0) (flat_map volumes cs) n.above);
      rise = and_true (every (λ w. lower (pair v) (pair w)) (flat_map volumes cs)) (rising pair (flat_map volumes cs)) n.above n.rise;
      few = omega (arith, n.few, up v i t.0);
    }
climb l r b tr up (transaction u m ∷ cs) a t = let q = tail cs t.1 in quiet l r (transaction u m ∷ cs) b q
climb l r b tr up (found g ∷ cs) a t = absurd (false≢true t.0)
climb l r b tr up (end ∷ []) a t = quiet l r (end ∷ []) b (refl, refl)
climb l r b tr up (end ∷ c ∷ cs) a t = absurd (false≢true t.1.0)

climb_all : (cs : List Cmd) → AllByRecursion (λ c. fit c ≡ true) cs → InTurn (is_volume_above []) cs → Rises [] 0 cs
climb_all = climb [] 0 (omega arith) (λ v w p q. refl) (λ v i p. (rank_bound v.sold v.bought i).0)

-- From the price of the asset x on: as many prices as are left, then volumes.
pub record Priced (x : ℕ) (cs : List Cmd) : Type 0 where
  pub left : length (flat_map prices cs) + x ≡ 8
  pub rise : rising pair (flat_map volumes cs) ≡ true
  pub few : length (flat_map volumes cs) ≤ 56

-- InTurn looks at what may come first only for the first command
retold : (p q : Cmd → Bool) → ((c : Cmd) → p c ≡ q c) → (cs : List Cmd) → InTurn p cs → InTurn q cs
retold p q h [] t = tt
retold p q h (c ∷ cs) t = (sym (h c) ∙ t.0, t.1)

-- one price, and what comes after it
priced_next : (cs : List Cmd) (x p : ℕ) (b : Bool) → ltb x 7 ≡ b → x < 8 → AllByRecursion (λ c. fit c ≡ true) cs
    → (InTurn (is_price_of (x + 1)) (cs ++ end ∷ []) → Priced (x + 1) cs)
    → InTurn (λ c. cond b (is_price_of (x + 1) c) (is_volume_above [] c)) (cs ++ end ∷ []) → Priced x (price x p ∷ cs)
priced_next cs x p true e l a more t =
    let n = more t in
    record { left = omega (arith, n.left); rise = n.rise; few = n.few }
priced_next cs x p false e l a more t =
    let n = climb_all (cs ++ end ∷ []) (All-push (λ c. fit c ≡ true) cs end a refl) t in
    let h : 7 ≤ x = ltb-false x 7 e in
    let ps : flat_map prices cs ≡ [] = sym (append-nil (flat_map prices cs)) ∙ (sym (joined_push prices cs end) ∙ n.unpriced) in
    let vs : flat_map volumes (cs ++ end ∷ []) ≡ flat_map volumes cs = joined_push volumes cs end ∙ append-nil (flat_map volumes cs) in
    record {
      left = ap (λ l. length (p ∷ l) + x) ps ∙ (let z : 1 + x ≡ 8 = omega arith in z);
      rise = sym (ap (rising pair) vs) ∙ n.rise;
      few = omega (arith, n.few, ap length vs);
    }

priced : (cs : List Cmd) (x : ℕ) → AllByRecursion (λ c. fit c ≡ true) cs → InTurn (is_price_of x) (cs ++ end ∷ []) → Priced x cs
priced [] x a t = absurd (false≢true t.0)
priced (begin h p ∷ cs) x a t = absurd (false≢true t.0)
priced (price y p ∷ cs) x a t =
    let is : y ≡ x = eqb-true y x t.0 in
    let l : y < 8 = ltb-true y 8 (and_parts (ltb y 8) (is_price p) a.0).0 in
    subst (λ n. Priced n (price y p ∷ cs)) is (priced_next cs y p (ltb y 7) refl l a.1 (priced cs (y + 1) a.1) t.1)
priced (volume v ∷ cs) x a t = absurd (false≢true t.0)
priced (transaction u m ∷ cs) x a t = absurd (false≢true t.0)
priced (found g ∷ cs) x a t = absurd (false≢true t.0)
priced (end ∷ cs) x a t = absurd (false≢true t.0)

-- nothing but the first command begins a block
unbegun : (c : Cmd) (h : ℕ) (p : List ℕ) → follows c (begin h p) ≡ false
unbegun (begin g q) h p = refl
unbegun (price x q) h p = by (ltb x 7)
  where
    by : (b : Bool) → cond b false false ≡ false
    by true = refl
    by false = refl
unbegun (volume v) h p = refl
unbegun (transaction t m) h p = refl
unbegun (found g) h p = refl
unbegun end h p = refl

headless : (d : Cmd) (cs : List Cmd) → InTurn (follows d) cs → (flat_map heights cs ≡ []) × (flat_map parents cs ≡ [])
headless d [] t = (refl, refl)
headless d (begin h p ∷ cs) t = absurd (false≢true (sym (unbegun d h p) ∙ t.0))
headless d (price x p ∷ cs) t = headless (price x p) cs t.1
headless d (volume v ∷ cs) t = headless (volume v) cs t.1
headless d (transaction u m ∷ cs) t = headless (transaction u m) cs t.1
headless d (found g ∷ cs) t = headless (found g) cs t.1
headless d (end ∷ cs) t = headless end cs t.1

turn_front : (opens : Cmd → Bool) (cs ds : List Cmd) → InTurn opens (cs ++ ds) → InTurn opens cs
turn_front opens [] ds t = tt
turn_front opens (c ∷ cs) ds t = (t.0, turn_front (follows c) cs ds t.1)

all_front : {X : Type 0} (P : X → Type 0) (xs ys : List X) → AllByRecursion P (xs ++ ys) → AllByRecursion P xs
all_front P [] ys a = tt
all_front P (x ∷ xs) ys a = (a.0, all_front P xs ys a.1)

-- the parent of a whole begin has 32 bytes
abbrev head_length : Cmd → ℕ
head_length (begin h p) = length p
head_length (price x p) = 32
head_length (volume v) = 32
head_length (transaction t m) = 32
head_length (found g) = 32
head_length end = 32

pick : (b : Bool) (x y : Cmd) → (b ≡ true → head_length x ≡ 32) → head_length y ≡ 32 → head_length (cond b x y) ≡ 32
pick true x y f g = f refl
pick false x y f g = g

length_of_head : (bs : List ℕ) (at : ℕ) → whole bs at ≡ true → head_length (command_at bs at) ≡ 32
length_of_head bs at w =
    let c = get_or bs at 0 in
    let m = whole_moves bs at w in
    pick (eqb c 66) (begin_at bs at) _ (λ e.
    let k : width_at bs at ≡ 37 = cond-true (eqb c 66) 37 _ e in
    simp (length-take, length-drop) (omega (arith, m.1, k)))
    (pick (eqb c 80) (price_at bs at) _ (λ e. refl) (pick (eqb c 86) (volume_at bs at) _ (λ e. refl)
    (pick (eqb c 65) (create_at bs at) _ (λ e. refl) (pick (eqb c 84) (pay_at bs at) _ (λ e. refl)
    (pick (eqb c 79) (place_at bs at) _ (λ e. refl) (pick (eqb c 67) (cancel_at bs at) _ (λ e. refl)
    (pick (eqb c 71) (found_at bs at) end (λ e. refl) refl)))))))

-- What a block says, from its commands.

pub readable_fits : (bs : List ℕ) (b : Block) → Readable bs b → fit_block b ≡ true
readable_fits bs b r = from r.commands r.good r.height r.parent r.priced r.traded r.moved
  where
    from : (cs : List Cmd) → Good is_begin bs (cs ++ end ∷ []) (length bs) → flat_map heights cs ≡ b.height ∷ []
        → flat_map parents cs ≡ b.parent → flat_map prices cs ≡ b.prices → flat_map volumes cs ≡ b.volumes
        → flat_map transactions cs ≡ b.transactions → fit_block b ≡ true
    from [] g h p q v t = absurd (false≢true g.turn.0)
    from (begin x y ∷ cs) g h p q v t =
        let a = all_front (λ c. fit c ≡ true) (begin x y ∷ cs) (end ∷ []) g.ranges in
        let n = priced cs 0 a.1 g.turn.1 in
        let hl = headless (begin x y) cs (turn_front (follows (begin x y)) cs (end ∷ []) g.turn.1) in
        let pl : length y ≡ 32 = sym (ap head_length g.stand.1) ∙ length_of_head bs 0 g.stand.0 in
        let py : y ≡ b.parent = sym (append-nil y) ∙ (sym (ap (λ l. y ++ l) hl.1) ∙ p) in
        let ts : flat_map transactions (cs ++ end ∷ []) ≡ b.transactions =
        joined_push transactions cs end ∙ (append-nil (flat_map transactions cs) ∙ t) in
        let word : is_word b.height ≡ true =
        (and_parts (is_word b.height) true (subst (λ l. every is_word l ≡ true) h (every_joined is_word heights word_heights (begin x y ∷ cs) a))).0 in
        let parent : eqb (length b.parent) 32 ≡ true = eq-eqb (length b.parent) 32 (sym (ap length py) ∙ pl) in
        let eight : eqb (length b.prices) 8 ≡ true =
        eq-eqb (length b.prices) 8 (sym (ap length q) ∙ (let z = n.left in let y : length (flat_map prices cs) ≡ 8 = omega arith in y)) in
        let worth : every is_price b.prices ≡ true = subst (λ l. every is_price l ≡ true) q (every_joined is_price prices fit_prices cs a.1) in
        let rise : rising pair b.volumes ≡ true = subst (λ l. rising pair l ≡ true) v n.rise in
        let fits : every fit_volume b.volumes ≡ true = subst (λ l. every fit_volume l ≡ true) v (every_joined fit_volume volumes fit_volumes cs a.1) in
        let few : leb (length b.volumes) 56 ≡ true = le-leb (length b.volumes) 56 (subst (λ l. length l ≤ 56) v n.few) in
        let moves : every fit_transaction b.transactions ≡ true =
        subst (λ l. every fit_transaction l ≡ true) t (every_joined fit_transaction transactions fit_transactions cs a.1) in
        let many : leb (length b.transactions) 1024 ≡ true = le-leb (length b.transactions) 1024 (subst (λ l. length l ≤ 1024) ts g.few) in
        and_true _ _ word (and_true _ _ parent (and_true _ _ eight (and_true _ _ worth (and_true _ _ rise (and_true _ _ fits
        (and_true _ _ few (and_true _ _ moves many)))))))
    from (price x y ∷ cs) g h p q v t = absurd (false≢true g.turn.0)
    from (volume x ∷ cs) g h p q v t = absurd (false≢true g.turn.0)
    from (transaction x m ∷ cs) g h p q v t = absurd (false≢true g.turn.0)
    from (found x ∷ cs) g h p q v t = absurd (false≢true g.turn.0)
    from (end ∷ cs) g h p q v t = absurd (false≢true g.turn.0)

-- each grant takes 69 bytes
grants_room : (bs : List ℕ) (from to : ℕ) (cs : List Cmd) → Stand bs from cs to → from + 69 * length (flat_map grants cs) ≤ to
grants_room bs from to [] s = omega (arith, s)
grants_room bs from to (c ∷ cs) s =
    let w = width_is bs from s.0 ∙ ap wide s.1 in
    let n = grants_room bs (from + width_at bs from) to cs s.2 in
    let e = length-append (grants c) (flat_map grants cs) in
    let k = each c in
    omega (arith, w, n, e, k)
  where
    each : (c : Cmd) → 69 * length (grants c) ≤ wide c
    each (begin h p) = omega arith
    each (price x p) = omega arith
    each (volume v) = omega arith
    each (transaction t m) = omega arith
    each (found g) = omega arith
    each end = omega arith

pub founds_fits : (bs : List ℕ) (gs : List Grant) → Founds bs gs → fit_grants gs ≡ true
founds_fits bs gs f =
    let cs = f.commands in
    let a = all_front (λ c. fit c ≡ true) cs (end ∷ []) f.good.ranges in
    let fits : every fit_grant gs ≡ true = subst (λ l. every fit_grant l ≡ true) f.granted (every_joined fit_grant grants grants_fit cs a) in
    let room = grants_room bs 0 (length bs) (cs ++ end ∷ []) f.good.stand in
    let e : flat_map grants (cs ++ end ∷ []) ≡ gs = joined_push grants cs end ∙ (append-nil (flat_map grants cs) ∙ f.granted) in
    let l : length gs ≤ 579 = omega (arith, room, ap length e, f.short) in
    and_true _ _ fits (le-leb (length gs) 579 l)
