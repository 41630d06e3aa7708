-- What lasts over a life. Assumes nothing.
use Rattle.std.proofs.Common.{◌≡◌, ℕ, Bool, true, false, List, [], ◌∷◌, None, Ok, Err, MatchBool, Result, sym, refl, ap, ◌∙◌, subst, subst₂, arith}
use Rattle.std.proofs.lemmas.Bool.{true≢false}
use Rattle.terms.specs.declared.Grant.{Grant}
use Rattle.terms.specs.declared.Fault.{Fault}
use Rattle.terms.specs.Holdings.{Store, Book}
use Rattle.blocks.specs.Readable.{Block, Readable, Founds}
use Rattle.exchange.specs.State.{State, Counts, newborn}
use Rattle.exchange.specs.Faults.{Verdict, FoundingVerdict}
use Rattle.exchange.specs.Commit.{Founded, Committed, counted}
use Rattle.exchange.specs.Life.{Event, Answer, Life, birth, Step, Runs, Reads, ReadsFounding, RulesFounding, Rules, AfterFounding, AfterCheck, AfterCommit, grants_after, is_empty}
use Rattle.exchange.specs.Life.Event.{found, check, fill, commit, reject, ask}

-- what is read was read by a founded replica, and a founding by one that is not
pub read_founded : {X : Type 0} (t : Bool) (P : Type 0) (x : X) (f : Fault) → MatchBool t P (◌≡◌ {A = Result X Fault} (Ok x) (Err f)) → (t ≡ true) × P
read_founded true P x f p = (refl, p)
read_founded false P x f p = absurd (let z : ◌≡◌ {A = ℕ} 0 1 = cc in omega (arith, z))

pub founded_first : {X : Type 0} (t : Bool) (P : Type 0) (x : X) (f : Fault) → MatchBool t (◌≡◌ {A = Result X Fault} (Ok x) (Err f)) P → (t ≡ false) × P
founded_first true P x f p = absurd (let z : ◌≡◌ {A = ℕ} 0 1 = cc in omega (arith, z))
founded_first false P x f p = (refl, p)

-- what each step keeps, a run keeps
pub runs_keep : (P : Life → Type 0) → ((l : Life) → P l → (e : Event) (a : Answer) (m : Life) → Step l e a m → P m)
    → (es : List Event) (l : Life) → P l → (us : List Answer) (m : Life) → Runs l es us m → P m
runs_keep P step [] l h [] m p = subst P (sym p) h
runs_keep P step [] l h (u ∷ us) m p = absurd p
runs_keep P step (e ∷ es) l h [] m p = absurd p
runs_keep P step (e ∷ es) l h (u ∷ us) m (k, p, ps) = runs_keep P step es k (step l h e u k p) us m ps

-- P holds of founded states and their grants, and Q of states before: where a founding makes P from Q, commits keep P, and
-- the counts matter to neither, P holds of every founded state of a life that begins with Q
module _ (Q : State → Type 0) (P : State → List Grant → Type 0)
    (uncounted : (s : State) (c : Counts) → Q s → Q (counted s c))
    (recounts : (s : State) (c : Counts) (gs : List Grant) → P s gs → P (counted s c) gs)
    (founds : (s : State) (bs : List ℕ) (gs : List Grant) (t : State) → Q s → Founds bs gs → FoundingVerdict s.store gs None → Founded s gs t → P t gs)
    (commits : (s : State) (bs : List ℕ) (b : Block) (t : State) (gs : List Grant) → P s gs → Readable bs b → Verdict s b None → Committed s b t → P t gs) where
  record Lasts (l : Life) : Type 0 where
    before : l.state.founded ≡ false → Q l.state
    since : l.state.founded ≡ true → P l.state l.grants

  module _ (l : Life) (h : Lasts l) where
    stays : (m : Life) → m.state ≡ l.state → m.grants ≡ l.grants → Lasts m
    stays m p q = record {
      before = λ f. subst Q (sym p) (h.before (ap (λ s. s.founded) (sym p) ∙ f));
      since = λ f. subst₂ P (sym p) (sym q) (h.since (ap (λ s. s.founded) (sym p) ∙ f));
    }

    recounted : (c : Counts) (m : Life) → m.state ≡ counted l.state c → m.grants ≡ l.grants → Lasts m
    recounted c m p q = record {
      before = λ f. subst Q (sym p) (uncounted l.state c (h.before (sym (ap (λ s. s.founded) p) ∙ f)));
      since = λ f. subst₂ P (sym p) (sym q) (recounts l.state c l.grants (h.since (sym (ap (λ s. s.founded) p) ∙ f)));
    }

    on_found : (bs : List ℕ) (r : Result (List Grant) Fault) → RulesFounding l.state bs r → (m : Life) → AfterFounding l.state r m.state
        → m.grants ≡ grants_after l r → Lasts m
    on_found bs (Ok gs) p m t q =
        let w = founded_first l.state.founded (MatchBool (is_empty l.state) (ReadsFounding l.state bs (Ok gs)) _) gs _ p in
        let v = read_founded (is_empty l.state) (ReadsFounding l.state bs (Ok gs)) gs _ w.1 in
        record {
          before = λ f. absurd (true≢false (sym t.founded ∙ f));
          since = λ f. subst (P m.state) (sym q) (founds l.state bs gs m.state (h.before w.0) v.1.0 v.1.1 t);
        }
    on_found bs (Err g) p m t q = stays m t q

    on_check : (r : Result Block Fault) (m : Life) → AfterCheck l.state r m.state → m.grants ≡ l.grants → Lasts m
    on_check (Ok b) m t q = recounted _ m t q
    on_check (Err g) m t q = stays m t q

    on_commit : (bs : List ℕ) (r : Result Block Fault) → Rules l.state bs r → (m : Life) → AfterCommit l.state r m.state
        → m.grants ≡ l.grants → Lasts m
    on_commit bs (Ok b) p m t q =
        let w = read_founded l.state.founded (Reads l.state bs (Ok b)) b _ p in
        record {
          before = λ f. absurd (true≢false (sym w.0 ∙ sym t.founded ∙ f));
          since = λ f. subst (P m.state) (sym q) (commits l.state bs b m.state l.grants (h.since w.0) w.1.0 w.1.1 t);
        }
    on_commit bs (Err g) p m t q = recounted _ m t q

    step : (e : Event) (a : Answer) (m : Life) → Step l e a m → Lasts m
    step (found bs) a m (r, p, _, t, _, q) = on_found bs r p m t q
    step (check bs) a m (r, _, _, t, _, q) = on_check r m t q
    step (fill i k) a m (bs, _, (r, p, _, e)) = subst Lasts (sym e) h
    step (commit i) a m (bs, _, (r, p, _, t, _, q)) = on_commit bs r p m t q
    step (reject i) a m (bs, _, _, e) = recounted _ m (ap (λ n. n.state) e) (ap (λ n. n.grants) e)
    step (ask k) a m (_, e) = subst Lasts (sym e) h

  pub founded_keep : (st : Store) (bk : Book) → Q (newborn st bk) → (es : List Event) (us : List Answer) (l : Life) → Runs (birth st bk) es us l
      → l.state.founded ≡ true → P l.state l.grants
  founded_keep st bk q es us l p f =
      (runs_keep Lasts step es (birth st bk) (record { before = λ _. q; since = λ e. absurd (true≢false (sym e)) }) us l p).since f
