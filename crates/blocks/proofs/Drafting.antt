-- What a block in the making says of the commands so far, and that one command more keeps it. Assumes nothing.
use Rattle.std.proofs.Common.{◌≡◌, ℕ, ◌+◌, ◌*◌, ◌<◌, ◌≤◌, Bool, true, false, cond, ltb, List, [], ◌∷◌, ◌++◌, length, take, set, sym, refl, ap, ◌∙◌, subst, arith}
use Rattle.std.specs.List.{flat_map}
use Rattle.std.proofs.lemmas.List.{append-nil, take_more_set, length-set, length_push}
use Rattle.std.proofs.lemmas.Bool.{false≢true, eqb-true, ltb-false}
use Rattle.std.proofs.lemmas.Bool.Decides.{nat_tests}
use Rattle.terms.specs.declared.Volume.{Volume}
use Rattle.terms.specs.declared.Transaction.{Transaction}
use Rattle.terms.specs.declared.Grant.{Grant}
use Rattle.terms.specs.Order.{lower}
use Rattle.terms.specs.Ranges.{is_pair}
use Rattle.arrayvec.specs.ArrayVec.{array_vec_len}
use Rattle.blocks.specs.declared.drafted.Draft.{Draft}
use Rattle.blocks.specs.declared.stage.Stage.{Stage}
use Rattle.blocks.specs.declared.stage.Stage.TheVariants.{Start, Price, FirstVolume, VolumeAbove, Transactions, Grants}
use Rattle.commands.specs.Format.{Cmd, begin, price, volume, transaction, found, end, fit}
use Rattle.blocks.specs.Readable.{heights, parents, prices, volumes, transactions}
use Rattle.blocks.specs.Stages.{admits, afterwards}
use Rattle.blocks.specs.Drafts.{added, Room}
use Rattle.blocks.proofs.Steps.{joined_push}

-- how many prices there are at a stage, and at most how many volumes

abbrev pub priced_at : Stage → ℕ
priced_at Start = 0
priced_at (Price x) = x
priced_at FirstVolume = 8
priced_at (VolumeAbove s b) = 8
priced_at Transactions = 8
priced_at Grants = 0

-- how many pairs there are up to this one
abbrev pub rank_of : ℕ → ℕ → ℕ
rank_of s b = 7 * s + b + cond (ltb b s) 1 0

abbrev pub pairs_at : Stage → ℕ
pairs_at Start = 0
pairs_at (Price x) = 0
pairs_at FirstVolume = 0
pairs_at (VolumeAbove s b) = rank_of s b
pairs_at Transactions = 56
pairs_at Grants = 0

-- a stage of a block, with its pair in range
abbrev pub Proper : Stage → Type 0
Proper Start = Unit {0}
Proper (Price x) = Unit {0}
Proper FirstVolume = Unit {0}
Proper (VolumeAbove s b) = is_pair s b ≡ true
Proper Transactions = Unit {0}
Proper Grants = ⊥

abbrev pub Begun : Stage → ℕ → List ℕ → List Cmd → Type 0
Begun Start h p cs = (flat_map heights cs ≡ []) × (flat_map parents cs ≡ [])
Begun (Price x) h p cs = (flat_map heights cs ≡ h ∷ []) × (flat_map parents cs ≡ p)
Begun FirstVolume h p cs = (flat_map heights cs ≡ h ∷ []) × (flat_map parents cs ≡ p)
Begun (VolumeAbove s b) h p cs = (flat_map heights cs ≡ h ∷ []) × (flat_map parents cs ≡ p)
Begun Transactions h p cs = (flat_map heights cs ≡ h ∷ []) × (flat_map parents cs ≡ p)
Begun Grants h p cs = ⊥

pub record Says (g : Stage) (d : Draft) (cs : List Cmd) : Type 0 where
  pub proper : Proper g
  pub long : length d.prices ≡ 8
  pub begun : Begun g d.height d.parent cs
  pub priced : flat_map prices cs ≡ take (priced_at g) d.prices
  pub traded : flat_map volumes cs ≡ d.volumes.items
  pub pairs : array_vec_len d.volumes ≤ pairs_at g
  pub moved : flat_map transactions cs ≡ d.transactions.items
  pub few : array_vec_len d.transactions ≤ 1024

-- pairs

pub rank_bound : (s b : ℕ) → is_pair s b ≡ true → (1 ≤ rank_of s b) × (rank_of s b ≤ 56)
rank_bound s b h = ((grind (arith, nat_tests)), (grind (arith, nat_tests)))

pub rank_rises : (s b t c : ℕ) → is_pair s b ≡ true → is_pair t c ≡ true → lower (s ∷ b ∷ []) (t ∷ c ∷ []) ≡ true
    → rank_of s b + 1 ≤ rank_of t c
rank_rises s b t c h k l = grind (arith, nat_tests)

-- a command that says nothing of a kind
none : {A : Type 0} (f : Cmd → List A) (cs : List Cmd) (c : Cmd) → f c ≡ [] → flat_map f (cs ++ c ∷ []) ≡ flat_map f cs
none f cs c e = joined_push f cs c ∙ (ap (λ l. flat_map f cs ++ l) e ∙ append-nil (flat_map f cs))

-- one command more

module _ (d : Draft) (cs : List Cmd) where
  says_begin : (g : Stage) (h : ℕ) (p : List ℕ) → Says g d cs → admits g (begin h p) ≡ true
      → Says (Price 0) (added d (begin h p)) (cs ++ begin h p ∷ [])
  says_begin Start h p s m =
      let c = begin h p in
      record {
        proper = tt;
        long = s.long;
        begun = (joined_push heights cs c ∙ ap (λ l. l ++ h ∷ []) s.begun.0, joined_push parents cs c ∙ ap (λ l. l ++ p) s.begun.1);
        priced = none prices cs c refl ∙ s.priced;
        traded = none volumes cs c refl ∙ s.traded;
        pairs = s.pairs;
        moved = none transactions cs c refl ∙ s.moved;
        few = s.few;
      }
  says_begin (Price x) h p s m = absurd (false≢true m)
  says_begin FirstVolume h p s m = absurd (false≢true m)
  says_begin (VolumeAbove x y) h p s m = absurd (false≢true m)
  says_begin Transactions h p s m = absurd (false≢true m)
  says_begin Grants h p s m = absurd (false≢true m)

  -- the head of a block that has begun stays
  stays : (c : Cmd) (h : ℕ) (p : List ℕ) → heights c ≡ [] → parents c ≡ [] → (flat_map heights cs ≡ h ∷ []) × (flat_map parents cs ≡ p)
      → (flat_map heights (cs ++ c ∷ []) ≡ h ∷ []) × (flat_map parents (cs ++ c ∷ []) ≡ p)
  stays c h p e f b = (none heights cs c e ∙ b.0, none parents cs c f ∙ b.1)

  says_price : (g : Stage) (x p : ℕ) → Says g d cs → admits g (price x p) ≡ true → fit (price x p) ≡ true
      → Says (afterwards (price x p)) (added d (price x p)) (cs ++ price x p ∷ [])
  says_price Start x p s m f = absurd (false≢true m)
  says_price (Price y) x p s m f =
      let c = price x p in
      let l : x < 8 = grind (arith, nat_tests) in
      let is : x ≡ y = eqb-true x y m in
      let more = take_more_set d.prices x p (subst (λ n. x < n) (sym s.long) l) in
      let now : flat_map prices (cs ++ c ∷ []) ≡ take (x + 1) (set d.prices x p) =
      joined_push prices cs c ∙ (ap (λ l. l ++ p ∷ []) (s.priced ∙ ap (λ n. take n d.prices) (sym is)) ∙ sym more) in
      let long : length (set d.prices x p) ≡ 8 = length-set d.prices x p ∙ s.long in
      let b = stays c d.height d.parent refl refl s.begun in
      let D = added d c in
      let at : (t : Bool) → ltb x 7 ≡ t → Says (cond t (Price (x + 1)) FirstVolume) D (cs ++ c ∷ []) = λ t. elim t as (λ t. ltb x 7 ≡ t → Says (cond t (Price (x + 1)) FirstVolume) D (cs ++ c ∷ [])) [
        | true ↦ λ e. record {
          proper = tt;
          long = long;
          begun = b;
          priced = now;
          traded = none volumes cs c refl ∙ s.traded;
          pairs = s.pairs;
          moved = none transactions cs c refl ∙ s.moved;
          few = s.few;
        }
        | false ↦ λ e. record {
          proper = tt;
          long = long;
          begun = b;
          priced = now ∙ ap (λ n. take n (set d.prices x p)) (let h : 7 ≤ x = ltb-false x 7 e in let r : x + 1 ≡ 8 = omega arith in r);
          traded = none volumes cs c refl ∙ s.traded;
          pairs = s.pairs;
          moved = none transactions cs c refl ∙ s.moved;
          few = s.few;
        }
      ] in
      at (ltb x 7) refl
  says_price FirstVolume x p s m f = absurd (false≢true m)
  says_price (VolumeAbove y z) x p s m f = absurd (false≢true m)
  says_price Transactions x p s m f = absurd (false≢true m)
  says_price Grants x p s m f = absurd (false≢true m)

  -- a volume after volumes of lower pairs, or the first
  module _ (v : Volume) (h : fit (volume v) ≡ true) where
    says_volume_at : (g : Stage) → Proper g → (flat_map heights cs ≡ d.height ∷ []) × (flat_map parents cs ≡ d.parent) → priced_at g ≡ 8
        → array_vec_len d.volumes + 1 ≤ rank_of v.sold v.bought → is_pair v.sold v.bought ≡ true
        → Says g d cs → Says (afterwards (volume v)) (added d (volume v)) (cs ++ volume v ∷ [])
    says_volume_at g k b e r i s =
        let c = volume v in
        record {
          proper = i;
          long = s.long;
          begun = stays c d.height d.parent refl refl b;
          priced = none prices cs c refl ∙ (s.priced ∙ ap (λ n. take n d.prices) e);
          traded = joined_push volumes cs c ∙ ap (λ l. l ++ v ∷ []) s.traded;
          pairs = omega (arith, length_push d.volumes.items v, r);
          moved = none transactions cs c refl ∙ s.moved;
          few = s.few;
        }

    paired : is_pair v.sold v.bought ≡ true
    paired = grind (arith, nat_tests)

    says_volume : (g : Stage) → Says g d cs → admits g (volume v) ≡ true
        → Says (afterwards (volume v)) (added d (volume v)) (cs ++ volume v ∷ [])
    says_volume Start s m = absurd (false≢true m)
    says_volume (Price x) s m = absurd (false≢true m)
    says_volume FirstVolume s m =
        says_volume_at FirstVolume tt s.begun refl (omega (arith, s.pairs, (rank_bound v.sold v.bought paired).0)) paired s
    says_volume (VolumeAbove x y) s m =
        says_volume_at (VolumeAbove x y) s.proper s.begun refl
        (omega (arith, s.pairs, rank_rises x y v.sold v.bought s.proper paired m)) paired s
    says_volume Transactions s m = absurd (false≢true m)
    says_volume Grants s m = absurd (false≢true m)

  says_transaction_at : (g : Stage) (t : Transaction) (n : List ℕ) → array_vec_len d.transactions < 1024 → pairs_at g ≤ 56 → priced_at g ≡ 8
      → (flat_map heights cs ≡ d.height ∷ []) × (flat_map parents cs ≡ d.parent)
      → Says g d cs → Says Transactions (added d (transaction t n)) (cs ++ transaction t n ∷ [])
  says_transaction_at g t n l r e b s =
      let c = transaction t n in
      record {
        proper = tt;
        long = s.long;
        begun = stays c d.height d.parent refl refl b;
        priced = none prices cs c refl ∙ (s.priced ∙ ap (λ n. take n d.prices) e);
        traded = none volumes cs c refl ∙ s.traded;
        pairs = omega (arith, s.pairs, r);
        moved = joined_push transactions cs c ∙ ap (λ l. l ++ t ∷ []) s.moved;
        few = omega (arith, length_push d.transactions.items t, l);
      }

  says_transaction : (g : Stage) (t : Transaction) (n : List ℕ) → array_vec_len d.transactions < 1024 → Says g d cs → admits g (transaction t n) ≡ true
      → Says Transactions (added d (transaction t n)) (cs ++ transaction t n ∷ [])
  says_transaction Start t n l s m = absurd (false≢true m)
  says_transaction (Price x) t n l s m = absurd (false≢true m)
  says_transaction FirstVolume t n l s m = says_transaction_at FirstVolume t n l (omega arith) refl s.begun s
  says_transaction (VolumeAbove x y) t n l s m =
      says_transaction_at (VolumeAbove x y) t n l (rank_bound x y s.proper).1 refl s.begun s
  says_transaction Transactions t n l s m = says_transaction_at Transactions t n l (omega arith) refl s.begun s
  says_transaction Grants t n l s m = absurd (false≢true m)

  no_grant : (g : Stage) (x : Grant) → Proper g → admits g (found x) ≡ true → ⊥
  no_grant Start x p m = false≢true m
  no_grant (Price y) x p m = false≢true m
  no_grant FirstVolume x p m = false≢true m
  no_grant (VolumeAbove y z) x p m = false≢true m
  no_grant Transactions x p m = false≢true m
  no_grant Grants x p m = p

  -- one command more, other than the end
  pub says_more : (g : Stage) (c : Cmd) → Says g d cs → admits g c ≡ true → fit c ≡ true → (c ≡ end → ⊥)
      → array_vec_len d.transactions + length (transactions c) ≤ 1024 → Says (afterwards c) (added d c) (cs ++ c ∷ [])
  says_more g (begin h p) s m f ne r = says_begin g h p s m
  says_more g (price x p) s m f ne r = says_price g x p s m f
  says_more g (volume v) s m f ne r = says_volume v f g s m
  says_more g (transaction t n) s m f ne r = says_transaction g t n (omega arith) s m
  says_more g (found x) s m f ne r = absurd (no_grant g x s.proper m)
  says_more g end s m f ne r = absurd (ne refl)

  room_volume : (g : Stage) (v : Volume) → fit (volume v) ≡ true → Says g d cs → admits g (volume v) ≡ true → array_vec_len d.volumes < 56
  room_volume Start v f s m = absurd (false≢true m)
  room_volume (Price x) v f s m = absurd (false≢true m)
  room_volume FirstVolume v f s m = omega (arith, s.pairs)
  room_volume (VolumeAbove x y) v f s m =
      omega (arith, s.pairs, rank_rises x y v.sold v.bought s.proper (paired v f) m, (rank_bound v.sold v.bought (paired v f)).1)
  room_volume Transactions v f s m = absurd (false≢true m)
  room_volume Grants v f s m = absurd (false≢true m)

  -- there is room for a command that is in turn and in range
  pub room : (g : Stage) (c : Cmd) → Says g d cs → admits g c ≡ true → fit c ≡ true → Room d c
  room g (begin h p) s m f = tt
  room g (price x p) s m f = let l : x < 8 = grind (arith, nat_tests) in l
  room g (volume v) s m f = room_volume g v f s m
  room g (transaction t n) s m f = tt
  room g (found x) s m f = tt
  room g end s m f = tt

one : (c : Cmd) → length (transactions c) ≤ 1
one (begin h p) = omega arith
one (price x p) = omega arith
one (volume v) = omega arith
one (transaction t n) = omega arith
one (found x) = omega arith
one end = omega arith

-- a transaction that has no room comes after 1,024 others
pub full : (n : ℕ) (c : Cmd) → n ≤ 1024 → 1024 < n + length (transactions c) → (n ≡ 1024) × (length (transactions c) ≡ 1)
full n c h k = (omega (arith, one c), omega (arith, one c))
