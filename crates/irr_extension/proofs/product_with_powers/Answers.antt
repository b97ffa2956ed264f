-- Products of traces by the character of the subgroup.
use Rattle.irr_extension.proofs.CosetProducts.{product_of_three, product_of_two}
use Rattle.irr_extension.proofs.product_with_powers.Goals as goal

pub returns-clause-two : goal.returns-clause-two
returns-clause-two g c = λ T H Q d D E l simple extends index position at_member n m.
    product_of_two g.N.InField.field Q D E l simple extends position at_member index n m

pub returns-clause-three : goal.returns-clause-three
returns-clause-three g c = λ T H Q d D E l simple extends index position at_member n m.
    product_of_three g.N.InField.field Q D E l simple extends position at_member index n m
