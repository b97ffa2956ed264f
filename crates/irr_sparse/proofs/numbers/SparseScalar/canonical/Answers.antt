-- The terms are those of the canonical form.
use Rattle.std.proofs.Common.{sym, ◌∙◌}
use Rattle.irr_sparse.proofs.Forms.{form-denominator, form-terms}
use Rattle.irr_sparse.proofs.numbers.SparseScalar.canonical.Goals as goal

pub returns-clause-denominator : goal.returns-clause-denominator
returns-clause-denominator c = sym (form-denominator c.args.self.now.n c.args.self.now.some c.args.self.now.terms.items c.args.self.now.den c.args.self.now.positive c.args.self.now.canonical c.args.self.now.lowest)

pub returns-clause-terms : goal.returns-clause-terms
returns-clause-terms c = c.in_ok-terms.ensures.items ∙ c.as_slice.ensures
    ∙ form-terms c.args.self.now.n c.args.self.now.some c.args.self.now.terms.items c.args.self.now.den c.args.self.now.positive c.args.self.now.canonical c.args.self.now.lowest
