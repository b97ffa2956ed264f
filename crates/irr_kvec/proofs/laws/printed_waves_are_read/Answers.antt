use Rattle.std.proofs.Common.{arith}
use Rattle.irr_space.specs.Operation.{WaveVector}
use Rattle.irr_text.specs.WaveText.{IsWithinLimits}
use Rattle.irr_kvec.specs.Readable.{IsReadable}
use Rattle.irr_kvec.proofs.PrintedWaves.{printed_wave, printed-spelling, printed-written}
use Rattle.irr_kvec.proofs.laws.printed_waves_are_read.Goals as goal

readable : (k : WaveVector) → IsWithinLimits 100000 k → IsReadable 100000 k
readable k h = record { numerators = h.numerators; num = h.num; den = h.den; lowest = h.lowest; are = h.are; denominator = h.denominator }

pub returns : goal.returns
returns c = λ k h. record {
  wave = printed_wave k;
  spells = printed-spelling 100000 k (omega arith) (readable k h);
  written = (printed-written 100000 k (omega arith) (readable k h)).0;
  common = (printed-written 100000 k (omega arith) (readable k h)).1;
}
