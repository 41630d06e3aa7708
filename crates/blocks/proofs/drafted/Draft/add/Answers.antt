use Rattle.std.proofs.Common.{◌≡◌, ℕ, [], length, refl, ap, arith, Bor, List}
use Rattle.commands.specs.declared.command.Command.{Command}
use Rattle.commands.specs.declared.command.Command.TheVariants.{Begin, Price, Volume, Create, Pay, Place, Cancel, Found, End}
use Rattle.commands.specs.Shown.{shown}
use Rattle.blocks.specs.declared.drafted.Draft.{Draft}
use Rattle.blocks.specs.Readable.{transactions}
use Rattle.blocks.specs.Drafts.{added}
use Rattle.blocks.proofs.drafted.Draft.add.Goals as goal

-- what is neither a begin, a price, a volume nor a transaction adds nothing
nothing : (d : Draft) (c : Command) → ((h : ℕ) (p : Bor (List ℕ)) → c ≡ Begin h p → ⊥) → ((x p : ℕ) → c ≡ Price x p → ⊥)
    → ((x y n : ℕ) → c ≡ Volume x y n → ⊥) → [] ≡ transactions (shown c) → d ≡ added d (shown c)
nothing d (Begin h p) b q v e = absurd (b h p refl)
nothing d (Price x p) b q v e = absurd (q x p refl)
nothing d (Volume x y n) b q v e = absurd (v x y n refl)
nothing d (Create s i a) b q v e = absurd (let z : ◌≡◌ {A = ℕ} 0 1 = ap length e in omega arith)
nothing d (Pay s i r x n m) b q v e = absurd (let z : ◌≡◌ {A = ℕ} 0 1 = ap length e in omega arith)
nothing d (Place s i x y l n) b q v e = absurd (let z : ◌≡◌ {A = ℕ} 0 1 = ap length e in omega arith)
nothing d (Cancel s i x y l o) b q v e = absurd (let z : ◌≡◌ {A = ℕ} 0 1 = ap length e in omega arith)
nothing d (Found a g) b q v e = refl
nothing d End b q v e = refl

pub returns-in_default-transaction_of : goal.returns-in_default-transaction_of
returns-in_default-transaction_of c =
    let none : [] ≡ transactions (shown c.args.command) = c.in_default-transaction_of.ensures in
    (omega (arith, ap length none, c.requires.few), nothing c.args.self.now c.args.command c.in_default.not-Begin c.in_default.not-Price c.in_default.not-Volume none)
