-- The lines of the representations so far.
use Rattle.std.proofs.Common.{◌≡◌, ◌++◌}
use Rattle.irr_full_text.specs.Reading.{Readings}
use Rattle.irr_full_text.proofs.FirstPieces.{first_pieces}
use Rattle.irr_full_text.proofs.representations.push_fulls.Given as goal

abbrev pub invariant-loop-i : goal.invariant-loop-i
invariant-loop-i g l = (e : Readings l.order.n l.ops l.gens l.fulls) → l.text.items ≡ l.fn.text.items
    ++ first_pieces l.i e.text
