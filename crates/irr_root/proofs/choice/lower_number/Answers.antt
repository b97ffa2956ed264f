-- The first power.
use Rattle.std.proofs.Common.{◌≡◌, sym, ◌∙◌, ap, ◌^◌, ◌*◌, ℕ}
use native.Mathlib.Nat as Nat
use Rattle.irr_root.proofs.choice.lower_number.Goals as goal

first-power : (k : ℕ) → k ≡ k ^ 1
first-power k = let one : k ^ 1 ≡ k ^ 0 * k = Nat.pow-suc k 0 in let zero : k ^ 0 ≡ 1 = Nat.pow-zero k in sym (one ∙ ap (λ x. x * k) zero
    ∙ Nat.one-mul k)

pub returns-then-q-eq1-clause-power : goal.returns-then-q-eq1-clause-power
returns-then-q-eq1-clause-power c = first-power c.args.k ∙ ap (λ q. c.args.k ^ q) (sym c.if-q-eq1.true)
