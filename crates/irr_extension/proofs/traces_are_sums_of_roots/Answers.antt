-- Traces as sums of roots.
use Rattle.irr_eigen.proofs.KeptSums.{two_or_three-pos}
use Rattle.irr_eigen.proofs.Orders.{order-multiple}
use Rattle.irr_extension.proofs.RootSums.{root_sum}
use Rattle.irr_extension.proofs.ExponentSums.{exponent_sum_of_roots}
use Rattle.irr_extension.proofs.traces_are_sums_of_roots.Goals as goal

pub returns-clause-by_index : goal.returns-clause-by_index
returns-clause-by_index g c = λ S T part d E x p top two_or_three in_s outside cycle.
    let pos = two_or_three-pos p two_or_three in
    let m = order-multiple part x p outside top in_s pos cycle.order cycle.positive cycle.returns in
    (m.0, m.1, λ l occurs. root_sum g.N.InField.field part E x p top pos in_s cycle m.0 m.1 l occurs)

pub returns-clause-by_exponent : goal.returns-clause-by_exponent
returns-clause-by_exponent g c = λ S T part d E x p top two_or_three in_s outside order z exponent n q y has n_pos q_pos split back sum es below occurs.
    exponent_sum_of_roots g.N.InField.field part E x p top (two_or_three-pos p two_or_three) in_s outside
    order z exponent n q y has n_pos q_pos split back sum es below occurs
