-- 1 is z^0.
use Rattle.std.proofs.Common.{◌∙◌, Result, IfOk, Ok, Err}
use Rattle.irr_number.proofs.RootPowers.{root_power-zero}
use Rattle.irr_cyc.proofs.coefficients.DenseScalar.one.Goals as goal

-- a fact that follows, at an Ok
if_ok-map : {T E : Type 0} (r : Result T E) (P Q : T → Type 0) → ((x : T) → P x → Q x) → IfOk r P → IfOk r Q
if_ok-map (Ok x) P Q f h = f x h
if_ok-map (Err e) P Q f h = tt

pub returns-clause-value : goal.returns-clause-value
returns-clause-value c = if_ok-map c.root.result _ _ (λ x h. h ∙ root_power-zero c.args.order.now.n) c.root.ensures.value
