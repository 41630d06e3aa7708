-- The blocks of a stream, one by one. Assumes nothing.
use Rattle.std.proofs.Common.{◌≡◌, ℕ, ◌<◌, true, ltb, List, [], ◌∷◌, ◌++◌, length, take, drop, Some, Ok, Err, MatchBool, Result, sym, refl, ap, ◌∙◌, subst, subst₂, inl, inr, append_assoc, append-nil, arith}
use Rattle.terms.specs.declared.Fault.{Fault}
use Rattle.terms.specs.declared.Grant.{Grant}
use Rattle.commands.specs.Extent.{Ends, Endless}
use Rattle.blocks.specs.Readable.{Block}
use Rattle.blocks.proofs.Laws.{read_one_way}
use Rattle.exchange.specs.State.{State, Counts, most}
use Rattle.exchange.specs.Faults.{fault, Verdict}
use Rattle.exchange.specs.Commit.{Committed, counted, one_passed}
use Rattle.exchange.specs.Life.{RulesFounding, Reads, Rules, RulesCheck, AfterFounding, AfterCheck, AfterCommit}
use Rattle.exchange.proofs.Running.{read_founded}
use Rattle.exchange.proofs.Causes.{clean_counted}
use Rattle.replica.specs.Calls.{plainly, FoundCall, CheckCall, CommitCall}
use Rattle.replica.proofs.Rulings.{Passes, passes}
use Rattle.listing.specs.declared.line.Line.{Line}
use Rattle.listing.specs.declared.line.Line.TheVariants as line
use Rattle.listing.specs.Lines.{state_lines}
use Rattle.listing.specs.Streams.{Opened, Unopened, Settled, BlockTaken, Blocks, BlocksTaken, Listed}

-- a check that passes: the replica is founded, the bytes are readable, and the block has no fault
passed : (s : State) (bs : List ℕ) (b : Block) → RulesCheck s bs (Ok b) → Passes s bs b
passed s bs b q =
    let (t, p) = read_founded s.founded _ b (fault 24 0 0) q in
    let (_, r) = read_founded (ltb s.counts.passed most) _ b (fault 26 0 0) p in
    record { founded = t; readable = r.0; clean = r.1 }

pub never : {X : Type 0} (x : X) (f : Fault) → ◌≡◌ {A = Result X Fault} (Ok x) (Err f) → ⊥
never x f e = let z : ◌≡◌ {A = ℕ} 0 1 = cc in omega arith

-- a block that passed its check has no fault at its commit either
unfaulted : (s : State) (n : Counts) (bs : List ℕ) (b : Block) (f : Fault) → Passes s bs b → Reads (counted s n) bs (Err f) → ⊥
unfaulted s n bs b f h (inl r) = read_one_way.block_or_fault bs b f h.readable r
unfaulted s n bs b f h (inr (c, r, v)) =
    let e : c ≡ b = read_one_way.block bs c b r h.readable in
    clean_counted s n b h.clean f (subst (λ d. Verdict (counted s n) d (Some f)) e v).0

-- a check that passed and the commit of its block, by what each made of the bytes
settles : (s m t : State) (bs : List ℕ) (r v : Result Block Fault) (a : Result (Unit {0}) Fault) → RulesCheck s bs r → Ok tt ≡ plainly r → AfterCheck s r m
    → Rules m bs v → a ≡ plainly v → AfterCommit m v t → (a ≡ Ok tt) × BlockTaken s bs (line.Done t.own.height) t
settles s m t bs (Err f) v a q e w rules p z = absurd (never tt f e)
settles s m t bs (Ok b) (Ok c) a q e w rules p z =
    let same : c ≡ b = read_one_way.block bs c b (passes m bs c rules).readable (passed s bs b q).readable in (
      p,
      record { ruling = Ok b; rules = q; settled = (subst₂ (λ k d. Committed k d t) w same z, refl) },
    )
settles s m t bs (Ok b) (Err f) a q e w rules p z =
    let n = one_passed s.counts in
    let h = passed s bs b q in
    let rules' : Rules (counted s n) bs (Err f) = subst (λ k. Rules k bs (Err f)) w rules in
    let reads : Reads (counted s n) bs (Err f) = subst (λ x. MatchBool x (Reads (counted s n) bs (Err f)) (◌≡◌ {A = Result Block Fault} (Err f) (Err (fault 24 0 0)))) h.founded rules' in
    absurd (unfaulted s n bs b f h reads)

settled : (s m t : State) (bs : List ℕ) (a : Result (Unit {0}) Fault) → CheckCall s bs (Ok tt) m → CommitCall m bs a t
    → (a ≡ Ok tt) × BlockTaken s bs (line.Done t.own.height) t
settled s m t bs a p q = settles s m t bs p.ruling q.ruling a p.rules p.answer p.after q.rules q.answer q.after

-- the same at a replica, which commits the bytes that it checked
pub committed : (s m t : State) (bs cs : List ℕ) (a : Result (Unit {0}) Fault) → cs ≡ bs → CheckCall s bs (Ok tt) m → CommitCall m cs a t
    → (a ≡ Ok tt) × ((n : ℕ) → n ≡ t.own.height → BlockTaken s bs (line.Done n) t)
committed s m t bs cs a is p q =
    let z = settled s m t bs a p (subst (λ z. CommitCall m z a t) is q) in
    (z.0, λ n e. subst (λ k. BlockTaken s bs (line.Done k) t) (sym e) z.1)

-- a block that its check refuses
refuses : (s m : State) (bs : List ℕ) (r : Result Block Fault) (f : Fault) → RulesCheck s bs r → Err f ≡ plainly r → AfterCheck s r m → BlockTaken s bs (line.Refused f) m
refuses s m bs (Ok b) f q e w = absurd (never tt f (sym e))
refuses s m bs (Err g) f q e w = let same : g ≡ f = cc in record { ruling = Err g; rules = q; settled = (w, ap line.Refused (sym same)) }

pub refused : (s m : State) (bs : List ℕ) (f : Fault) → CheckCall s bs (Err f) m → BlockTaken s bs (line.Refused f) m
refused s m bs f p = refuses s m bs p.ruling f p.rules p.answer p.after

-- The founding piece of a stream.

module _ (s t : State) (bs piece : List ℕ) (n : ℕ) (ends : Ends bs n) (is : piece ≡ take n bs) where
  opens_by : (r : Result (List Grant) Fault) (rest : List ℕ) → RulesFounding s piece r → Ok tt ≡ plainly r → AfterFounding s r t → rest ≡ drop n bs → Opened s bs rest t
  opens_by (Ok gs) rest q e w l = record { width = n; grants = gs; ends = ends; rules = subst (λ p. RulesFounding s p (Ok gs)) is q; founded = w; left = l }
  opens_by (Err f) rest q e w l = absurd (never tt f e)

  unopened_by : (r : Result (List Grant) Fault) (f : Fault) → RulesFounding s piece r → Err f ≡ plainly r → AfterFounding s r t → Unopened s bs f t
  unopened_by (Ok gs) f q e w = absurd (never tt f (sym e))
  unopened_by (Err h) f q e w =
      let same : h ≡ f = cc in
      record { cause = inr (n, ends, subst (λ p. RulesFounding s p (Err f)) is (subst (λ k. RulesFounding s piece (Err k)) same q)); same = w }

pub opens : (s t : State) (bs piece rest : List ℕ) (n : ℕ) → Ends bs n → piece ≡ take n bs → rest ≡ drop n bs → FoundCall s piece (Ok tt) t → Opened s bs rest t
opens s t bs piece rest n ends is l p = opens_by s t bs piece n ends is p.ruling rest p.rules p.answer p.after l

pub unopened : (s t : State) (bs piece : List ℕ) (n : ℕ) (f : Fault) → Ends bs n → piece ≡ take n bs → FoundCall s piece (Err f) t → Unopened s bs f t
unopened s t bs piece n f ends is p = unopened_by s t bs piece n ends is p.ruling f p.rules p.answer p.after

-- A founded replica stays founded.

founded_after : (s : State) (r : Result Block Fault) (l : Line) (t : State) → Settled s r l t → s.founded ≡ true → t.founded ≡ true
founded_after s (Ok b) l t z f = z.0.founded ∙ f
founded_after s (Err g) l t z f = ap (λ x. x.founded) z.0 ∙ f

blocks_founded : (ls : List Line) (s : State) (bs : List ℕ) (t : State) → Blocks s bs ls t → s.founded ≡ true → t.founded ≡ true
blocks_founded [] s bs t (_, e) f = ap (λ x. x.founded) e ∙ f
blocks_founded (l ∷ ls) s bs t (inl (_, _, _, _, _, e)) f = ap (λ x. x.founded) e ∙ f
blocks_founded (l ∷ ls) s bs t (inr (n, m, _, b, more)) f = blocks_founded ls m (drop n bs) t more (founded_after s b.ruling l m b.settled f)

nothing : (xs : List ℕ) → length xs ≡ 0 → xs ≡ []
nothing [] e = refl
nothing (x ∷ xs) e = absurd (omega arith)

-- A run over blocks that has come to the state m, with these bytes left and these lines: whatever the bytes that are left
-- come to, the whole comes to.
abbrev pub Going : State → List ℕ → List Line → State → List ℕ → List Line → Type 0
Going s bs before m rest lines = (ls : List Line) (t : State) → Blocks m rest ls t → BlocksTaken s bs before (lines ++ ls) t

pub starts : (s : State) (bs : List ℕ) (before : List Line) → Going s bs before s bs before
starts s bs before = λ ls t b. record { lines = ls; blocks = b; added = refl }

module _ (s : State) (bs : List ℕ) (before : List Line) (m : State) (rest : List ℕ) (lines : List Line) (go : Going s bs before m rest lines) where
  -- one more block
  pub goes_on : (k : State) (n : ℕ) (piece after : List ℕ) (l : Line) (more : List Line) → Ends rest n → piece ≡ take n rest → after ≡ drop n rest
      → BlockTaken m piece l k → more ≡ lines ++ l ∷ [] → Going s bs before k after more
  goes_on k n piece after l more ends is left takes added = λ ls t b.
      let taken : BlockTaken m (take n rest) l k = subst (λ p. BlockTaken m p l k) is takes in
      let whole = go (l ∷ ls) t (inr (n, k, ends, taken, subst (λ z. Blocks k z ls t) left b)) in
      let all : lines ++ (l ∷ ls) ≡ more ++ ls = sym (append_assoc lines (l ∷ []) ls) ∙ ap (λ z. z ++ ls) (sym added) in
      subst (λ z. BlocksTaken s bs before z t) all whole

  -- the bytes are used up
  pub ends_well : length rest ≡ 0 → BlocksTaken s bs before lines m
  ends_well e = subst (λ z. BlocksTaken s bs before z m) (append-nil lines) (go [] m (nothing rest e, refl))

  -- there is no further end
  pub ends_badly : (f : Fault) (more : List Line) → 0 < length rest → Endless rest f → more ≡ lines ++ line.Refused f ∷ [] → BlocksTaken s bs before more m
  ends_badly f more h e added =
      subst (λ z. BlocksTaken s bs before z m) (sym added) (go (line.Refused f ∷ []) m (inl (f, h, e, refl, refl, refl)))

-- The whole listing of a stream whose founding is not refused.
pub lists : (s : State) (bs rest : List ℕ) (m t : State) (n : ℕ) (none one two all : List Line) → Opened s bs rest m → n ≡ m.own.height → none ≡ []
    → one ≡ none ++ line.Done n ∷ [] → BlocksTaken m rest one two t → (t.founded ≡ true → all ≡ two ++ state_lines t) → Listed s bs all t
lists s bs rest m t n none one two all o h e₀ e₁ b shows =
    let held = shows (blocks_founded b.lines m rest t b.blocks o.founded.founded) in
    let zero : n ≡ 0 = h ∙ o.founded.height in
    let first : one ≡ line.Done 0 ∷ [] = e₁ ∙ (ap (λ z. z ++ line.Done n ∷ []) e₀ ∙ ap (λ k. line.Done k ∷ []) zero) in
    let whole : all ≡ line.Done 0 ∷ (b.lines ++ state_lines t) = held ∙ ap (λ z. z ++ state_lines t) (b.added ∙ ap (λ z. z ++ b.lines) first) in
    inr (record { rest = rest; birth = m; opened = o; lines = b.lines; blocks = b.blocks; all = whole })
