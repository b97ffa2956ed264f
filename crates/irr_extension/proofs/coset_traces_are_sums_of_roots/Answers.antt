-- Traces at the coset of the generator.
use Rattle.irr_extension.proofs.Cosets.{coset-generator, coset-outside}
use Rattle.irr_extension.proofs.CosetSums.{coset_character_sum, coset_multiplicity, coset_sum, coset_top}
use Rattle.irr_extension.proofs.coset_traces_are_sums_of_roots.Goals as goal

pub returns-clause-top : goal.returns-clause-top
returns-clause-top g c = λ T H Q k. coset_top Q k

pub returns-clause-outside : goal.returns-clause-outside
returns-clause-outside g c = λ T H Q k. coset-outside Q (T.product Q.generator (H.member k)) (coset-generator Q k)

pub returns-clause-by_exponent : goal.returns-clause-by_exponent
returns-clause-by_exponent g c = λ T H Q d D t extension k top in_s order z exponent n q y has n_pos q_pos split back sum es below occurs.
    coset_sum g.N.InField.field Q D t extension k top in_s order z exponent n q y has n_pos q_pos split back sum es below occurs

pub returns-clause-by_character : goal.returns-clause-by_character
returns-clause-by_character g c = λ T H Q d D t extension k top in_s order z exponent n q y has n_pos q_pos split back sum es below counts.
    coset_character_sum g.N.InField.field Q D t extension k top in_s order z exponent n q y has n_pos q_pos split back sum es below counts

pub returns-clause-multiplicity : goal.returns-clause-multiplicity
returns-clause-multiplicity g c = λ T H Q d D t extension k top in_s order z exponent n q y has n_pos q_pos split back sum i l.
    coset_multiplicity g.N.InField.field Q D t extension k top in_s order z exponent n q y has n_pos q_pos split back sum i l
