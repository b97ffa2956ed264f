use Rattle.std.proofs.Common.{arith, ◌<◌, ◌≡◌, length, ℕ, List, [], ◌∷◌}
use Rattle.irr_space.specs.Operation.{Rotation}
use Rattle.irr_seitz.specs.OperationMeaning.{operation}
use Rattle.irr_seitz.specs.declared.op.Op.{Op}
use Rattle.irr_close.specs.Closing.{HasRotation}
use Rattle.std.specs.List.{HoldsAt}
use Rattle.irr_close.proofs.closing.place.Goals as goal

none_has : (ops : List Op) (R : Rotation) (n : ℕ) → length ops ≡ n → ((j : ℕ) → j < n → HoldsAt (λ g. ¬ ((operation g).rotation ≡ R)) ops j)
    → ¬ (HasRotation ops R)
none_has [] R n e none h = let l : h.0 < 0 = h.1 in absurd (omega arith)
none_has (op ∷ ops) R n e none h = let l : h.0 < length (op ∷ ops) = h.1 in none h.0 (omega (arith, l, e)) op (h.2 op)

pub returns-clause-none : goal.returns-clause-none
returns-clause-none c = λ e. none_has _ _ c.loop-k.k (omega (arith, c.loop-k-test.false)) c.loop-k.invariant
