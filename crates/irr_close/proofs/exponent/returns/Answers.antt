use Rattle.std.proofs.Common.{◌%◌}
use Rattle.std.proofs.lemmas.Bool.{eqb-true, eq-eqb}
use Rattle.irr_seitz.specs.OperationMeaning.{operation}
use Rattle.irr_close.proofs.Returns.{returns_exactly}
use Rattle.irr_close.proofs.exponent.returns.Goals as goal

pub returns-in-Some : goal.returns-in-Some
returns-in-Some c = let r = returns_exactly (operation c.args.op.now).rotation c.in-Some.order c.args.n c.in-Some.ensures.least in
    (λ t. r.0 (eqb-true (c.args.n % c.in-Some.order) 0 t), λ h. eq-eqb (c.args.n % c.in-Some.order) 0 (r.1 h))
