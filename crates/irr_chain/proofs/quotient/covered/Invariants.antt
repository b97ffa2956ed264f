-- The marks so far say which places are covered.
use Rattle.std.proofs.Common.{◌≡◌, ◌<◌, ◌↔◌, vec_len}
use Rattle.irr_algebra.specs.Fin.{Fin, to_nat}
use Rattle.irr_rep.specs.Twisted.{phase_table, place_count}
use Rattle.irr_chain.specs.Quotient.{Cover}
use Rattle.irr_chain.specs.Marks.{Marked}
use Rattle.irr_chain.proofs.quotient.covered.Given as goal

abbrev pub invariant-loop-i : goal.invariant-loop-i
invariant-loop-i l = record {
  count : vec_len l.marks ≡ l.i;
  cosets : (a j : Fin (place_count l.t)) → to_nat a ≡ l.g → to_nat j < l.i
      → Marked l.marks.items j ↔ Cover (phase_table l.t) (Marked l.inner) l.p a j;
}
