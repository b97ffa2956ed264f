-- The rows so far.
use Rattle.std.proofs.Common.{ℕ, ◌≡◌, ◌<◌, ◌≤◌, length, get_or}
use Rattle.irr_kvec.specs.WaveMeaning.{wave_vector}
use Rattle.irr_rep.specs.declared.family.Family.{Family}
use Rattle.irr_top.specs.RealFamilies.{IsTyped}
use Rattle.irr_top.specs.declared.real.TypedRep.{TypedRep}
use Rattle.irr_top.proofs.real.typed.Given as goal

abbrev pub invariant-loop-family : goal.invariant-loop-family
invariant-loop-family g l = record {
  count : length l.rows.items ≡ l.family-index;
  within : l.family-index ≤ length l.families;
  each : (n : ℕ) (x : TypedRep) → n < l.family-index → (f : Family g.row.S.Denot g.S.Scalar)
      → IsTyped l.group (wave_vector l.wave) l.arms (get_or l.families n f) (get_or l.rows.items n x);
}
