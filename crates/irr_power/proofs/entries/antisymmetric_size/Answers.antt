-- d(d - 1)/2 rows.
use Rattle.std.proofs.Common.{◌≡◌, ◌*◌, ◌+◌, arith}
use Rattle.irr_forms.specs.Square.{strict}
use Rattle.irr_forms.proofs.Triangles.{size-strict}
use Rattle.irr_power.proofs.entries.antisymmetric_size.Goals as goal

pub returns : goal.returns
returns c =
    let size : strict c.args.d + strict c.args.d + c.args.d ≡ c.args.d * c.args.d = size-strict c.args.d in
    omega (arith, size)
