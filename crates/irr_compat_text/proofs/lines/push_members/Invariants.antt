-- The lines of the representations so far.
use Rattle.std.proofs.Common.{◌≡◌, ◌++◌, take, map, Vec, Global}
use Rattle.irr_compat_text.specs.Printed.{members_text}
use Rattle.irr_compat_text.proofs.lines.push_members.Given as goal

abbrev pub invariant-loop-i : goal.invariant-loop-i
invariant-loop-i g l = l.text.items ≡ l.fn.text.items ++ members_text g.S.Scalar.order_of g.S.Scalar.value 1 (take l.i l.dims)
    (take l.i (map (λ (v : Vec g.row.S.Denot Global). v.items) l.chars))
