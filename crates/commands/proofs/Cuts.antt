-- Commands that are cut from the bytes one after another. Assumes nothing.
use Rattle.std.proofs.Common.{◌≡◌, ℕ, ◌+◌, ◌<◌, ◌≤◌, Bool, true, false, cond, not, ◌&&◌, eqb, ltb, leb, List, [], ◌∷◌, ◌++◌, length, get_or, sym, refl, ap, ◌∙◌, subst, ⊎_elim, arith}
use Rattle.std.proofs.ByRecursion.{has_push_cases}
use Rattle.std.proofs.lemmas.Bool.Decides.{nat_tests}
use Rattle.commands.specs.Format.{Cmd, begin, price, volume, transaction, found, end, begin_at, price_at, volume_at, create_at, pay_at, place_at, cancel_at, found_at, upto, broken, skipped, width, command_at, width_at, lettered, whole}
use Rattle.commands.specs.Extent.{Stand, Unended, Endless}
use Rattle.commands.specs.Shown.{shown}
use Rattle.commands.specs.declared.command.Command.{Command}
use Rattle.commands.specs.declared.command.Command.TheVariants as code
use Rattle.terms.specs.declared.Fault.{Fault}
use Rattle.terms.specs.declared.Action.{Action}
use Rattle.terms.specs.declared.Action.TheVariants.{Create, Pay, Place, Cancel}

abbrev pub is_end : Cmd → Bool
is_end (begin h p) = false
is_end (price x p) = false
is_end (volume v) = false
is_end (transaction t m) = false
is_end (found g) = false
is_end end = true

pub stand_push : (bs : List ℕ) (from : ℕ) (cs : List Cmd) (at : ℕ) (c : Cmd) → Stand bs from cs at → whole bs at ≡ true → command_at bs at ≡ c
    → Stand bs from (cs ++ c ∷ []) (at + width_at bs at)
stand_push bs from [] at c s w e =
    subst (λ a. Stand bs a (c ∷ []) (at + width_at bs at)) (sym s) (w, e, refl)
stand_push bs from (d ∷ cs) at c s w e = (s.0, s.1, stand_push bs (from + width_at bs from) cs at c s.2 w e)

pub unended_push : (cs : List Cmd) (c : Cmd) → Unended cs → (c ≡ end → ⊥) → Unended (cs ++ c ∷ [])
unended_push cs c u n h = ⊎_elim u n (has_push_cases cs c end h)

-- no whole command, and the number for that
pub record Cut (bs : List ℕ) (at k i j : ℕ) : Type 0 where
  pub broken : whole bs at ≡ false
  pub numbered : k ≡ cond (ltb at (length bs) && not (lettered bs at)) 3 2
  pub first : i ≡ at
  pub second : j ≡ 0

-- a whole command has a byte at least, and ends within the bytes
pub whole_moves : (bs : List ℕ) (at : ℕ) → whole bs at ≡ true → (0 < width_at bs at) × (at + width_at bs at ≤ length bs)
whole_moves bs at h =
    let n = width_at bs at in
    let f : (l m w : ℕ) → (ltb l m && ltb 0 w && leb (l + w) m) ≡ true → (0 < w) × (l + w ≤ m) =
    λ l m w e. ((grind (arith, nat_tests)), (grind (arith, nat_tests))) in
    f at (length bs) n h

pub never : {c : Cmd} → is_end c ≡ false → c ≡ end → ⊥
never {c} f e =
    let z : ◌≡◌ {A = ℕ} 1 0 = ap (λ b. cond b 1 0) (sym (ap is_end e) ∙ f) in
    omega arith

abbrev wide_action : Action → ℕ
wide_action (Create a) = 13
wide_action (Pay r x n) = 38
wide_action (Place x y l n) = 23
wide_action (Cancel x y l o) = 19

-- the width of a command
abbrev pub wide : Cmd → ℕ
wide (begin h p) = 37
wide (price x p) = 6
wide (volume v) = 11
wide (transaction t m) = wide_action t.action
wide (found g) = 69
wide end = 1

next_wide : (b : Bool) (x y : Cmd) (v w : ℕ) → v ≡ wide x → (0 < w → w ≡ wide y) → 0 < cond b v w → cond b v w ≡ wide (cond b x y)
next_wide true x y v w e f h = e
next_wide false x y v w e f h = f h

last_wide : (b : Bool) → 0 < cond b 1 0 → cond b 1 0 ≡ wide end
last_wide true h = refl
last_wide false h = absurd (omega arith)

pub width_is : (bs : List ℕ) (at : ℕ) → whole bs at ≡ true → width_at bs at ≡ wide (command_at bs at)
width_is bs at h =
    let c = get_or bs at 0 in
    next_wide (eqb c 66) (begin_at bs at) _ 37 _ refl (next_wide (eqb c 80) (price_at bs at) _ 6 _ refl
    (next_wide (eqb c 86) (volume_at bs at) _ 11 _ refl (next_wide (eqb c 65) (create_at bs at) _ 13 _ refl
    (next_wide (eqb c 84) (pay_at bs at) _ 38 _ refl (next_wide (eqb c 79) (place_at bs at) _ 23 _ refl
    (next_wide (eqb c 67) (cancel_at bs at) _ 19 _ refl (next_wide (eqb c 71) (found_at bs at) end 69 (cond (eqb c 69) 1 0) refl
    (last_wide (eqb c 69))))))))) (whole_moves bs at h).0

-- the end command has one byte
pub end_width : (bs : List ℕ) (at : ℕ) → whole bs at ≡ true → command_at bs at ≡ end → width_at bs at ≡ 1
end_width bs at h e = width_is bs at h ∙ ap wide e

pub shown_end : (c : Command) → (c ≡ code.End → ⊥) → shown c ≡ end → ⊥
shown_end (code.Begin h p) n e = never refl e
shown_end (code.Price x p) n e = never refl e
shown_end (code.Volume x y a) n e = never refl e
shown_end (code.Create s q a) n e = never refl e
shown_end (code.Pay s q r x a m) n e = never refl e
shown_end (code.Place s q x y l a) n e = never refl e
shown_end (code.Cancel s q x y l o) n e = never refl e
shown_end (code.Found a b) n e = never refl e
shown_end code.End n e = n refl

-- what the place after a command says

when_upto : (b d : Bool) (n m i : ℕ) → upto n ≡ cond b (upto m) (cond d (broken 3 i 0) (broken 2 i 0)) → (b ≡ true) × (m ≡ n)
when_upto true d n m i e = (refl, (cc))
when_upto false true n m i e = absurd (let z : ◌≡◌ {A = ℕ} 0 1 = cc in omega arith)
when_upto false false n m i e = absurd (let z : ◌≡◌ {A = ℕ} 0 1 = cc in omega arith)

pub skip_upto : (bs : List ℕ) (at n : ℕ) → upto n ≡ skipped bs at → (whole bs at ≡ true) × (at + width_at bs at ≡ n)
skip_upto bs at n e = when_upto (whole bs at) (ltb at (length bs) && not (lettered bs at)) n (at + width_at bs at) at e

when_broken : (b d : Bool) (m at k i j : ℕ) → broken k i j ≡ cond b (upto m) (cond d (broken 3 at 0) (broken 2 at 0))
    → (b ≡ false) × (k ≡ cond d 3 2) × (i ≡ at) × (j ≡ 0)
when_broken true d m at k i j e = absurd (let z : ◌≡◌ {A = ℕ} 0 1 = cc in omega arith)
when_broken false true m at k i j e = (refl, (cc), (cc), (cc))
when_broken false false m at k i j e = (refl, (cc), (cc), (cc))

pub skip_broken : (bs : List ℕ) (at k i j : ℕ) → broken k i j ≡ skipped bs at → Cut bs at k i j
skip_broken bs at k i j e =
    let p = when_broken (whole bs at) (ltb at (length bs) && not (lettered bs at)) (at + width_at bs at) at k i j e in
    record { broken = p.0; numbered = p.1; first = p.2; second = p.3 }

one_byte : (c : ℕ) → width c ≡ 1 → c ≡ 69
one_byte c e = grind (arith, nat_tests)

pub end_letter : (bs : List ℕ) (at : ℕ) → whole bs at ≡ true → (get_or bs at 0 ≡ 69 → ⊥) → command_at bs at ≡ end → ⊥
end_letter bs at w n e = n (one_byte (get_or bs at 0) (end_width bs at w e))

-- good letters up to a place at which there is no whole command
pub endless : (bs : List ℕ) (at : ℕ) (f : Fault) (cs : List Cmd) → Stand bs 0 cs at → Unended cs
    → broken f.number f.first f.second ≡ skipped bs at → Endless bs f
endless bs at f cs s u e =
    let q = skip_broken bs at _ _ _ e in
    record {
      commands = cs;
      stand = subst (Stand bs 0 cs) (sym q.first) s;
      unended = u;
      broken = subst (λ a. whole bs a ≡ false) (sym q.first) q.broken;
      numbered = subst (λ a. f.number ≡ cond (ltb a (length bs) && not (lettered bs a)) 3 2) (sym q.first) q.numbered;
      second = q.second;
    }
