-- Products of traces.
use Rattle.irr_extension.proofs.Products.{product_at_places, product_of_traces}
use Rattle.irr_extension.proofs.product_of_traces.Goals as goal

pub returns-clause-places : goal.returns-clause-places
returns-clause-places g c = λ T H d D E l simple extends x y. product_at_places g.N.InField.field H D E l simple extends x y

pub returns-clause-numbers : goal.returns-clause-numbers
returns-clause-numbers g c = λ T H d D E l simple extends x y. product_of_traces g.N.InField.field H D E l simple extends x y
