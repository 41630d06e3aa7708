-- What is known of a node once its variant is, and what a change of one side makes of the whole. Assumes nothing.
use Rattle.std.proofs.Common.{◌≡◌, ℕ, ◌+◌, ◌-◌, ◌*◌, ◌/◌, ◌%◌, ◌^◌, ◌<◌, ◌≤◌, max, Bool, true, false, cond, ◌&&◌, eqb, ltb, Some, None, Option, Box, sym, refl, ap, ◌∙◌, subst, arith}
use native.Mathlib.Decide.{dec_lt}
use Rattle.std.proofs.lemmas.Bool.Decides.{nat_tests}
use Rattle.trie.specs.Trie.{held, under, total, offers, Amount, within, ordered, Ordered, Whole, Parted, Placed, Removed, forks, Near, Hangs, Next}
use Rattle.trie.proofs.Numbers.{block, Fork, fork, same_block, in_block, above}
use Rattle.std.specs.Box.{with_value}
use Rattle.std.specs.Option.{MatchOption}
use Rattle.trie.specs.declared.node.Node.{Node, Branch}
use Rattle.trie.specs.declared.node.Node.TheVariants.{Idle, Offer, Branch'}
use Rattle.std.specs.declared.alloc.Global.{Global}

-- nothing is held outside the range
pub held_below : (t : Node) (lo hi x : ℕ) → within lo hi t ≡ true → x < lo → held t x ≡ 0
held_below Idle lo hi x w h = refl
held_below (Offer k a) lo hi x w h = grind (arith, nat_tests, w)
held_below (Branch' bit split sum p l q r) lo hi x w h =
    let a : within lo hi l ≡ true = grind (arith, nat_tests, w) in
    let b : within lo hi r ≡ true = grind (arith, nat_tests, w) in
    omega (arith, held_below l lo hi x a h, held_below r lo hi x b h)

pub held_above : (t : Node) (lo hi x : ℕ) → within lo hi t ≡ true → hi ≤ x → held t x ≡ 0
held_above Idle lo hi x w h = refl
held_above (Offer k a) lo hi x w h = grind (arith, nat_tests, w)
held_above (Branch' bit split sum p l q r) lo hi x w h =
    let a : within lo hi l ≡ true = grind (arith, nat_tests, w) in
    let b : within lo hi r ≡ true = grind (arith, nat_tests, w) in
    omega (arith, held_above l lo hi x a h, held_above r lo hi x b h)

pub held_total : (t : Node) (x : ℕ) → held t x ≤ total t
held_total Idle x = omega arith
held_total (Offer k a) x = grind (arith, nat_tests)
held_total (Branch' bit split sum p l q r) x = omega (arith, held_total l x, held_total r x)

pub under_total : (t : Node) (x : ℕ) → under t x ≤ total t
under_total Idle x = omega arith
under_total (Offer k a) x = grind (arith, nat_tests)
under_total (Branch' bit split sum p l q r) x = omega (arith, under_total l x, under_total r x)

pub under_none : (t : Node) (lo hi x : ℕ) → within lo hi t ≡ true → x ≤ lo → under t x ≡ 0
under_none Idle lo hi x w h = refl
under_none (Offer k a) lo hi x w h = grind (arith, nat_tests, w)
under_none (Branch' bit split sum p l q r) lo hi x w h =
    let a : within lo hi l ≡ true = grind (arith, nat_tests, w) in
    let b : within lo hi r ≡ true = grind (arith, nat_tests, w) in
    omega (arith, under_none l lo hi x a h, under_none r lo hi x b h)

pub under_all : (t : Node) (lo hi x : ℕ) → within lo hi t ≡ true → hi ≤ x → under t x ≡ total t
under_all Idle lo hi x w h = refl
under_all (Offer k a) lo hi x w h = grind (arith, nat_tests, w)
under_all (Branch' bit split sum p l q r) lo hi x w h =
    let a : within lo hi l ≡ true = grind (arith, nat_tests, w) in
    let b : within lo hi r ≡ true = grind (arith, nat_tests, w) in
    omega (arith, under_all l lo hi x a h, under_all r lo hi x b h)

pub record Sides (bits bit split sum : ℕ) (t l r : Node) : Type 0 where
  pub falls : bit < bits
  pub middle : split % 2 ^ (bit + 1) ≡ 2 ^ bit
  pub adds : sum ≡ total l + total r
  pub left_in : within (split - 2 ^ bit) split l ≡ true
  pub right_in : within split (split + 2 ^ bit) r ≡ true
  pub left_ok : Ordered bit l
  pub right_ok : Ordered bit r
  -- what is held left of the split is held by the left side
  pub at_left : (x : ℕ) → x < split → held t x ≡ held l x
  pub at_right : (x : ℕ) → split ≤ x → held t x ≡ held r x
  pub both : (x : ℕ) → held t x ≡ held l x + held r x
  pub count : offers t ≡ offers l + offers r
  pub whole : total t ≡ total l + total r
  pub keys : (lo hi : ℕ) → within lo hi t ≡ (within lo hi l && within lo hi r)
  -- it is as good under any number of bits above its own
  pub again : (j : ℕ) → bit < j → Ordered j t
  pub under_left : (x : ℕ) → x ≤ split → under t x ≡ under l x
  pub under_right : (x : ℕ) → split ≤ x → under t x ≡ total l + under r x

pub sides : {bits bit split sum : ℕ} {t : Node} {l r : Box Node Global} → t ≡ Branch bit split sum l r → Ordered bits t → Sides bits bit split sum t l.value r.value
sides {bits} {bit} {split} {sum} {t} {l} {r} is ok =
    let w = subst (Ordered bits) is ok in
    let li : within (split - 2 ^ bit) split l.value ≡ true = grind (arith, nat_tests, w) in
    let ri : within split (split + 2 ^ bit) r.value ≡ true = grind (arith, nat_tests, w) in
    record {
      falls = grind (arith, nat_tests, w);
      middle = grind (arith, nat_tests, w);
      adds = grind (arith, nat_tests, w);
      left_in = li;
      right_in = ri;
      left_ok = grind (arith, nat_tests, w);
      right_ok = grind (arith, nat_tests, w);
      at_left = λ x h. omega (arith, ap (λ n. held n x) is, held_below r.value split (split + 2 ^ bit) x ri h);
      at_right = λ x h. omega (arith, ap (λ n. held n x) is, held_above l.value (split - 2 ^ bit) split x li h);
      both = λ x. ap (λ n. held n x) is;
      count = ap offers is;
      whole = ap total is;
      keys = λ lo hi. ap (within lo hi) is;
      again = λ j h. subst (Ordered j) (sym is) (grind (arith, nat_tests, w, h));
      under_left = λ x h. omega (arith, ap (λ n. under n x) is, under_none r.value split (split + 2 ^ bit) x ri h);
      under_right = λ x h. omega (arith, ap (λ n. under n x) is, under_all l.value (split - 2 ^ bit) split x li h);
    }

-- a branch of two good sides is good
pub joined : (bits bit split sum : ℕ) (l r : Node) → bit < bits → split % 2 ^ (bit + 1) ≡ 2 ^ bit → sum ≡ total l + total r → within (split - 2 ^ bit) split l ≡ true → within split (split + 2 ^ bit) r ≡ true → Ordered bit l → Ordered bit r → (ltb bit bits && eqb (split % 2 ^ (bit + 1)) (2 ^ bit) && eqb sum (total l + total r) && within (split - 2 ^ bit) split l && within split (split + 2 ^ bit) r && ordered bit l && ordered bit r) ≡ true
joined bits bit split sum l r a b c d e f g = grind (arith, nat_tests)

-- a key's new amount on one side, and on the whole
pub put_left : {bits bit split sum : ℕ} {t l r : Node} → Sides bits bit split sum t l r → (new : Node) (key to : ℕ) → key < split → ((x : ℕ) → held new x ≡ cond (eqb x key) to (held l x)) → (x : ℕ) → held new x + held r x ≡ cond (eqb x key) to (held t x)
put_left s new key to h e x = grind (arith, nat_tests, e x, s.both x, s.at_left x)

pub put_right : {bits bit split sum : ℕ} {t l r : Node} → Sides bits bit split sum t l r → (new : Node) (key to : ℕ) → split ≤ key → ((x : ℕ) → held new x ≡ cond (eqb x key) to (held r x)) → (x : ℕ) → held l x + held new x ≡ cond (eqb x key) to (held t x)
put_right s new key to h e x = grind (arith, nat_tests, e x, s.both x, s.at_right x)

pub spliced_left : (bits bit split sum key amount : ℕ) (t : Node) (leaf fork : Box Node Global) → Ordered bit t → bit < bits → split % 2 ^ (bit + 1) ≡ 2 ^ bit → Parted bit split key t → Amount amount → sum ≡ total t + amount → key < split → Placed bits key amount t (Branch bit split sum (with_value leaf (Offer key amount)) (with_value fork t))
spliced_left bits bit split sum key amount t leaf fork ok falls middle parted some adds h =
    let q = parted.0 h in
    let a : within (split - 2 ^ bit) split (Offer key amount) ≡ true = grind (arith, nat_tests, q.0) in
    let o : Ordered bit (Offer key amount) = grind (arith, nat_tests, some.0, some.1) in
    record {
      more = omega arith;
      ok = joined bits bit split sum (Offer key amount) t falls middle (omega arith) a q.1 o ok;
      holds = λ x. grind (arith, nat_tests, held_below t split (split + 2 ^ bit) x q.1);
      sum = omega arith;
      keys = λ lo hi w m n. grind (arith, nat_tests, w);
    }

pub spliced_right : (bits bit split sum key amount : ℕ) (t : Node) (leaf fork : Box Node Global) → Ordered bit t → bit < bits → split % 2 ^ (bit + 1) ≡ 2 ^ bit → Parted bit split key t → Amount amount → sum ≡ total t + amount → split ≤ key → Placed bits key amount t (Branch bit split sum (with_value fork t) (with_value leaf (Offer key amount)))
spliced_right bits bit split sum key amount t leaf fork ok falls middle parted some adds h =
    let q = parted.1 h in
    let a : within split (split + 2 ^ bit) (Offer key amount) ≡ true = grind (arith, nat_tests, q.0) in
    let o : Ordered bit (Offer key amount) = grind (arith, nat_tests, some.0, some.1) in
    record {
      more = omega arith;
      ok = joined bits bit split sum t (Offer key amount) falls middle (omega arith) q.1 a ok o;
      holds = λ x. grind (arith, nat_tests, held_above t (split - 2 ^ bit) split x q.1);
      sum = omega arith;
      keys = λ lo hi w m n. grind (arith, nat_tests, w);
    }

pub widen : (t : Node) (lo hi lo' hi' : ℕ) → within lo hi t ≡ true → lo' ≤ lo → hi ≤ hi' → within lo' hi' t ≡ true
widen Idle lo hi lo' hi' w a b = refl
widen (Offer k x) lo hi lo' hi' w a b = grind (arith, nat_tests, w)
widen (Branch' bit split sum p l q r) lo hi lo' hi' w a b =
    let u : within lo hi l ≡ true = grind (arith, nat_tests, w) in
    let v : within lo hi r ≡ true = grind (arith, nat_tests, w) in
    grind (arith, nat_tests, widen l lo hi lo' hi' u a b, widen r lo hi lo' hi' v a b)

-- a key that stands in a tree
abbrev pub first : Node → ℕ
first Idle = 0
first (Offer k a) = k
first (Branch' bit split sum p l q r) = first l

pub first_in : (t : Node) (bits lo hi : ℕ) → Ordered bits t → within lo hi t ≡ true → (lo ≤ first t) × (first t < hi)
first_in Idle bits lo hi o w = let z : ◌≡◌ {A = Bool} true false = sym o in grind (arith, nat_tests, z)
first_in (Offer k a) bits lo hi o w = (grind (arith, nat_tests, w), grind (arith, nat_tests, w))
first_in (Branch' bit split sum p l q r) bits lo hi o w =
    let u : within lo hi l ≡ true = grind (arith, nat_tests, w) in
    let v : Ordered bit l = grind (arith, nat_tests, o) in
    first_in l bit lo hi v u

-- a tree may be spliced in beside a key where they part
pub parted_up : (r base key : ℕ) (t : Node) → base ≤ key → Fork r base key → Near r base t → Parted r (key / 2 ^ r * 2 ^ r) key t
parted_up r base key t h f near = (
  λ lt. absurd (omega (arith, block key r)),
  λ _. ((block key r).1, widen t _ _ _ _ near (omega (arith, f.next)) (omega (arith, f.next))),
)

pub parted_down : (r base key : ℕ) (t : Node) → key ≤ base → Fork r key base → Near r base t → Parted r (base / 2 ^ r * 2 ^ r) key t
parted_down r base key t h f near = (
  λ _. (omega (arith, f.next, block key r), near),
  λ ge. absurd (omega (arith, f.next, block key r)),
)

-- an offer hangs at its own key
pub hangs_offer : (k a key : ℕ) → Amount a → Hangs k key (Offer k a)
hangs_offer k a key h j _ _ = (grind (arith, nat_tests, h.0, h.1), grind (arith, nat_tests, block k j))

-- a branch hangs above its bit
pub hangs_branch : {bits bit split sum : ℕ} {t l r : Node} → Sides bits bit split sum t l r → (key : ℕ) → (split / 2 ^ (bit + 1) ≡ key / 2 ^ (bit + 1) → ⊥) → Hangs split key t
hangs_branch {bits} {bit} {split} {sum} {t} {l} {r} s key ne j same differ =
    let up : bit < j =
    elim (dec_lt bit j) [
      | yes y ↦ y
      | no n ↦ absurd
          (let e : j + 1 + (bit - j) ≡ bit + 1 = omega (arith, n) in
          ne (subst (λ i. split / 2 ^ i ≡ key / 2 ^ i) e (above split key (j + 1) (bit - j) same)))
    ] in
    let e : bit + 1 + (j - (bit + 1)) ≡ j = omega arith in
    let b = subst (λ i. (split / 2 ^ i * 2 ^ i + 2 ^ bit ≤ split) × (split + 2 ^ bit ≤ split / 2 ^ i * 2 ^ i + 2 ^ i)) e (in_block split bit (j - (bit + 1)) s.middle) in
    let u : within (split / 2 ^ j * 2 ^ j) (split / 2 ^ j * 2 ^ j + 2 ^ j) l ≡ true = widen l _ _ _ _ s.left_in (omega (arith, b)) (omega (arith, b)) in
    let v : within (split / 2 ^ j * 2 ^ j) (split / 2 ^ j * 2 ^ j + 2 ^ j) r ≡ true = widen r _ _ _ _ s.right_in (omega (arith, b)) (omega (arith, b)) in
    (s.again j up, s.keys _ _ ∙ grind (arith, nat_tests, u, v))

-- the key of a branch's split is like the keys below it
pub split_near : {bits bit split sum : ℕ} {t l r : Node} → Sides bits bit split sum t l r → (key : ℕ) → Near bits key t → split / 2 ^ bits ≡ key / 2 ^ bits
split_near {bits} {bit} {split} {sum} {t} {l} {r} s key near =
    let n : within (key / 2 ^ bits * 2 ^ bits) (key / 2 ^ bits * 2 ^ bits + 2 ^ bits) l ≡ true = grind (arith, nat_tests, near, s.keys (key / 2 ^ bits * 2 ^ bits) (key / 2 ^ bits * 2 ^ bits + 2 ^ bits)) in
    let f = first_in l bit _ _ s.left_ok n in
    let g = first_in l bit _ _ s.left_ok s.left_in in
    let e : bit + 1 + (bits - (bit + 1)) ≡ bits = omega (arith, s.falls) in
    let b = subst (λ i. (split / 2 ^ i * 2 ^ i + 2 ^ bit ≤ split) × (split + 2 ^ bit ≤ split / 2 ^ i * 2 ^ i + 2 ^ i)) e (in_block split bit (bits - (bit + 1)) s.middle) in
    let one : first l / 2 ^ bits ≡ key / 2 ^ bits = same_block (first l) key bits f.0 f.1 in
    let two : first l / 2 ^ bits ≡ split / 2 ^ bits = same_block (first l) split bits (omega (arith, b, g)) (omega (arith, b, g)) in
    sym two ∙ one

pub grafted : (r base key top split : ℕ) (t : Node) → split ≡ top / 2 ^ r * 2 ^ r → top ≡ max base key → base / 2 ^ (r + 1) ≡ key / 2 ^ (r + 1) → (base / 2 ^ r ≡ key / 2 ^ r → ⊥) → Near r base t → (split % 2 ^ (r + 1) ≡ 2 ^ r) × Parted r split key t
grafted r base key top split t cut is same differ near =
    elim (dec_lt base key) [
      | yes y ↦
          (let f = fork r base key (omega arith) same differ in
          let e : top ≡ key = omega arith in
          rw (cut, e) (f.middle, parted_up r base key t (omega arith) f near))
      | no n ↦
          (let f = fork r key base (omega (arith, n)) (sym same) (λ h. differ (sym h)) in
          let e : top ≡ base = omega (arith, n) in
          rw (cut, e) (f.middle, parted_down r base key t (omega (arith, n)) f near))
    ]

-- a key placed on a side is placed on the whole
pub placed_left : {bits bit split sum : ℕ} {t l r : Node} → Sides bits bit split sum t l r → (key amount : ℕ) (new : Node) → split - 2 ^ bit ≤ key → key < split → Placed bit key amount l new → (p q : Box Node Global) → Placed bits key amount t (Branch bit split (sum + amount) (with_value p new) (with_value q r))
placed_left {bits} {bit} {split} {sum} {t} {l} {r} s key amount new a b e p q =
    record {
      more = omega (arith, s.count, e.more);
      ok = joined bits bit split (sum + amount) new r s.falls s.middle (omega (arith, s.adds, e.sum)) (e.keys _ _ s.left_in a b) s.right_in e.ok s.right_ok;
      holds = put_left s new key amount b e.holds;
      sum = omega (arith, s.whole, e.sum);
      keys = λ lo hi w m n.
          let u : within lo hi l ≡ true = grind (arith, nat_tests, w, s.keys lo hi) in
          let v : within lo hi r ≡ true = grind (arith, nat_tests, w, s.keys lo hi) in
          grind (arith, nat_tests, v, e.keys lo hi u m n);
    }

pub placed_right : {bits bit split sum : ℕ} {t l r : Node} → Sides bits bit split sum t l r → (key amount : ℕ) (new : Node) → split ≤ key → key < split + 2 ^ bit → Placed bit key amount r new → (p q : Box Node Global) → Placed bits key amount t (Branch bit split (sum + amount) (with_value p l) (with_value q new))
placed_right {bits} {bit} {split} {sum} {t} {l} {r} s key amount new a b e p q =
    record {
      more = omega (arith, s.count, e.more);
      ok = joined bits bit split (sum + amount) l new s.falls s.middle (omega (arith, s.adds, e.sum)) s.left_in (e.keys _ _ s.right_in a b) s.left_ok e.ok;
      holds = put_right s new key amount a e.holds;
      sum = omega (arith, s.whole, e.sum);
      keys = λ lo hi w m n.
          let u : within lo hi l ≡ true = grind (arith, nat_tests, w, s.keys lo hi) in
          let v : within lo hi r ≡ true = grind (arith, nat_tests, w, s.keys lo hi) in
          grind (arith, nat_tests, u, e.keys lo hi v m n);
    }

pub empty : (t : Node) (x : ℕ) → offers t ≡ 0 → held t x ≡ 0
empty Idle x e = refl
empty (Offer k a) x e = absurd (omega arith)
empty (Branch' bit split sum p l q r) x e = omega (arith, empty l x (omega arith), empty r x (omega arith))

pub of_whole : (t : Node) → Whole t → 0 < offers t → Ordered 102 t × (within 0 (2 ^ 102) t ≡ true)
of_whole Idle w h = absurd (omega arith)
of_whole (Offer k a) w h = (grind (arith, nat_tests, w), grind (arith, nat_tests, w))
of_whole (Branch' bit split sum p l q r) w h = (grind (arith, nat_tests, w), grind (arith, nat_tests, w))

pub to_whole : (t : Node) → Ordered 102 t → within 0 (2 ^ 102) t ≡ true → Whole t
to_whole Idle o w = refl
to_whole (Offer k a) o w = grind (arith, nat_tests, o, w)
to_whole (Branch' bit split sum p l q r) o w = grind (arith, nat_tests, o, w)

pub near_whole : (t : Node) (key : ℕ) → key / 2 ^ 102 ≡ 0 → within 0 (2 ^ 102) t ≡ true → Near 102 key t
near_whole t key e w = widen t 0 (2 ^ 102) _ _ w (omega (arith, e)) (omega (arith, e))

pub raise : (t : Node) (i j : ℕ) → i ≤ j → Ordered i t → Ordered j t
raise Idle i j h o = o
raise (Offer k a) i j h o = o
raise (Branch' bit split sum p l q r) i j h o = grind (arith, nat_tests, o)

-- what stands in a leaf is all of it
pub leaf_is : (t : Node) (bits key by : ℕ) → Ordered bits t → forks t ≡ false → held t key ≡ by → 0 < by → t ≡ Offer key by
leaf_is Idle bits key by o f h z = absurd (omega arith)
leaf_is (Offer k a) bits key by o f h z =
    let e : k ≡ key = grind (arith, nat_tests, h) in
    let g : a ≡ by = grind (arith, nat_tests, h) in
    cc
leaf_is (Branch' bit split sum p l q r) bits key by o f h z = let z : ◌≡◌ {A = Bool} true false = f in absurd (grind (arith, nat_tests, z))

pub collapsed_left : {bits bit split sum : ℕ} {t l r : Node} → Sides bits bit split sum t l r → (key by : ℕ) → key < split → l ≡ Offer key by → Removed bits key by t r
collapsed_left {bits} {bit} {split} {sum} {t} {l} {r} s key by h is =
    record {
      fewer = omega (arith, s.count, ap offers is);
      ok = raise r bit bits (omega (arith, s.falls)) s.right_ok;
      holds = λ x. grind (arith, nat_tests, s.both x, s.at_left x, ap (λ n. held n x) is);
      sum = omega (arith, s.whole, ap total is);
      keys = λ lo hi w. grind (arith, nat_tests, w, s.keys lo hi);
    }

pub collapsed_right : {bits bit split sum : ℕ} {t l r : Node} → Sides bits bit split sum t l r → (key by : ℕ) → split ≤ key → r ≡ Offer key by → Removed bits key by t l
collapsed_right {bits} {bit} {split} {sum} {t} {l} {r} s key by h is =
    record {
      fewer = omega (arith, s.count, ap offers is);
      ok = raise l bit bits (omega (arith, s.falls)) s.left_ok;
      holds = λ x. grind (arith, nat_tests, s.both x, s.at_right x, ap (λ n. held n x) is);
      sum = omega (arith, s.whole, ap total is);
      keys = λ lo hi w. grind (arith, nat_tests, w, s.keys lo hi);
    }

pub removed_left : {bits bit split sum : ℕ} {t l r : Node} → Sides bits bit split sum t l r → (key by : ℕ) (new : Node) → key < split → Removed bit key by l new → (p q : Box Node Global) → Removed bits key by t (Branch bit split (sum - by) (with_value p new) (with_value q r))
removed_left {bits} {bit} {split} {sum} {t} {l} {r} s key by new h e p q =
    record {
      fewer = omega (arith, s.count, e.fewer);
      ok = joined bits bit split (sum - by) new r s.falls s.middle (omega (arith, s.adds, e.sum)) (e.keys _ _ s.left_in) s.right_in e.ok s.right_ok;
      holds = put_left s new key 0 h e.holds;
      sum = omega (arith, s.whole, e.sum);
      keys = λ lo hi w.
          let u : within lo hi l ≡ true = grind (arith, nat_tests, w, s.keys lo hi) in
          let v : within lo hi r ≡ true = grind (arith, nat_tests, w, s.keys lo hi) in
          grind (arith, nat_tests, v, e.keys lo hi u);
    }

pub removed_right : {bits bit split sum : ℕ} {t l r : Node} → Sides bits bit split sum t l r → (key by : ℕ) (new : Node) → split ≤ key → Removed bit key by r new → (p q : Box Node Global) → Removed bits key by t (Branch bit split (sum - by) (with_value p l) (with_value q new))
removed_right {bits} {bit} {split} {sum} {t} {l} {r} s key by new h e p q =
    record {
      fewer = omega (arith, s.count, e.fewer);
      ok = joined bits bit split (sum - by) l new s.falls s.middle (omega (arith, s.adds, e.sum)) s.left_in (e.keys _ _ s.right_in) s.left_ok e.ok;
      holds = put_right s new key 0 h e.holds;
      sum = omega (arith, s.whole, e.sum);
      keys = λ lo hi w.
          let u : within lo hi l ≡ true = grind (arith, nat_tests, w, s.keys lo hi) in
          let v : within lo hi r ≡ true = grind (arith, nat_tests, w, s.keys lo hi) in
          grind (arith, nat_tests, u, e.keys lo hi v);
    }

pub total_max : (t : Node) (bits : ℕ) → Ordered bits t → total t ≤ offers t * 68719476735
total_max Idle bits o = omega arith
total_max (Offer k a) bits o = grind (arith, nat_tests, o)
total_max (Branch' bit split sum p l q r) bits o =
    let a : Ordered bit l = grind (arith, nat_tests, o) in
    let b : Ordered bit r = grind (arith, nat_tests, o) in
    omega (arith, total_max l bit a, total_max r bit b)

pub offers_pos : (t : Node) (bits : ℕ) → Ordered bits t → 0 < offers t
offers_pos Idle bits o = let z : ◌≡◌ {A = Bool} true false = sym o in absurd (grind (arith, nat_tests, z))
offers_pos (Offer k a) bits o = omega arith
offers_pos (Branch' bit split sum p l q r) bits o =
    let a : Ordered bit l = grind (arith, nat_tests, o) in
    omega (arith, offers_pos l bit a)

pub forks_two : (t : Node) (bits : ℕ) → Ordered bits t → forks t ≡ true → 2 ≤ offers t
forks_two Idle bits o f = absurd (let z : ◌≡◌ {A = Bool} false true = f in grind (arith, nat_tests, z))
forks_two (Offer k a) bits o f = absurd (let z : ◌≡◌ {A = Bool} false true = f in grind (arith, nat_tests, z))
forks_two (Branch' bit split sum p l q r) bits o f =
    let a : Ordered bit l = grind (arith, nat_tests, o) in
    let b : Ordered bit r = grind (arith, nat_tests, o) in
    omega (arith, offers_pos l bit a, offers_pos r bit b)

-- what is held stands in a tree that is not empty
pub held_some : (t : Node) (x : ℕ) → 0 < held t x → 0 < offers t
held_some Idle x h = absurd (omega arith)
held_some (Offer k a) x h = omega arith
held_some (Branch' bit split sum p l q r) x h = elim (dec_lt 0 (held l x)) [ yes y ↦ omega (arith, held_some l x y) | no n ↦ omega (arith, held_some r x (omega (arith, n))) ]

pub single : (t : Node) (bits key x : ℕ) → Ordered bits t → forks t ≡ false → 0 < held t key → (held t x ≡ cond (eqb x key) (held t key) 0) × (offers t ≡ 1)
single Idle bits key x o f h = absurd (omega arith)
single (Offer k a) bits key x o f h = (grind (arith, nat_tests, h), refl)
single (Branch' bit split sum p l q r) bits key x o f h = absurd (let z : ◌≡◌ {A = Bool} true false = f in grind (arith, nat_tests, z))

pub next_left : {bits bit split sum : ℕ} {t l r : Node} → Sides bits bit split sum t l r → (key k : ℕ) → Next key l (Some k) → Next key t (Some k)
next_left {bits} {bit} {split} {sum} {t} {l} {r} s key k n =
    let lt : k < split = elim (dec_lt k split) [ yes y ↦ y | no m ↦ absurd (omega (arith, n.1, held_above l (split - 2 ^ bit) split k s.left_in (omega (arith, m)))) ] in
    (n.0, omega (arith, n.1, s.both k), λ x a b. s.at_left x (omega arith) ∙ n.2 x a b)

pub next_right : {bits bit split sum : ℕ} {t l r : Node} → Sides bits bit split sum t l r → (key : ℕ) (o : Option ℕ) → ((x : ℕ) → key < x → held l x ≡ 0) → Next key r o → Next key t o
next_right s key None none n = λ x h. omega (arith, s.both x, none x h, n x h)
next_right s key (Some k) none n = (n.0, omega (arith, n.1, s.both k), λ x a b. omega (arith, s.both x, none x a, n.2 x a b))

-- the left side's answer, or the right side's where there is none
pub next_either : {bits bit split sum : ℕ} {t l r : Node} → Sides bits bit split sum t l r → (key : ℕ) (p o : Option ℕ) → Next key l p → MatchOption p (Next key r o) (λ k. o ≡ Some k) → Next key t o
next_either s key None o none n = next_right s key o none n
next_either {bits} {bit} {split} {sum} {t} {l} {r} s key (Some k) o n is = subst (Next key t) (sym is) (next_left s key k n)

pub left_none : {bits bit split sum : ℕ} {t l r : Node} → Sides bits bit split sum t l r → (key : ℕ) → split ≤ key → (x : ℕ) → key < x → held l x ≡ 0
left_none {bits} {bit} {split} {sum} {t} {l} {r} s key h x a = held_above l (split - 2 ^ bit) split x s.left_in (omega arith)

pub some_offers : (t : Node) → Whole t → (t ≡ Idle → ⊥) → 0 < offers t
some_offers Idle w n = absurd (n refl)
some_offers (Offer k a) w n = omega arith
some_offers (Branch' bit split sum p l q r) w n = offers_pos (Branch' bit split sum p l q r) 102 (grind (arith, nat_tests, w))
