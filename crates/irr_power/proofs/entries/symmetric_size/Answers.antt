-- d(d + 1)/2 rows.
use Rattle.std.proofs.Common.{◌≡◌, ◌*◌, ◌+◌, arith}
use Rattle.irr_forms.specs.Square.{upper}
use Rattle.irr_forms.proofs.Triangles.{size-upper}
use Rattle.irr_power.proofs.entries.symmetric_size.Goals as goal

pub returns : goal.returns
returns c =
    let size : upper c.args.d + upper c.args.d ≡ c.args.d * (c.args.d + 1) = size-upper c.args.d in
    omega (arith, size)
