-- The text so far is that of the terms so far.
use Rattle.std.proofs.Common.{◌≡◌, take}
use Rattle.std.specs.List.{flat_map}
use Rattle.irr_canonical.specs.Coefficient.{denominator}
use Rattle.irr_numeral.proofs.PrintedTerms.{written}
use Rattle.irr_numeral.proofs.print.print_number.Given as goal

abbrev pub invariant-loop-term : goal.invariant-loop-term
invariant-loop-term g l = let n = g.S.Scalar.order_of l.x in l.text.items ≡ flat_map (written (denominator n (g.S.Scalar.value n l.x))) (take l.term-index l.term-items)
