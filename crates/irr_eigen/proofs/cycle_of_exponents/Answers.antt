-- The cycle of a place, from exponents.
use Rattle.irr_eigen.proofs.Cycles.{cycle_of_exponents, cycle-powers}
use Rattle.irr_eigen.proofs.cycle_of_exponents.Goals as goal

pub returns : goal.returns
returns g c = record {
  cycle = λ T order z x place n q y h n-pos q-pos split returns sum. cycle_of_exponents T order z x place n q y h n-pos q-pos split returns sum;
  powers = λ T place cycle z q y number root m i j. cycle-powers cycle z q y number root m i j;
}
