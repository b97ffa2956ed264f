-- Products of canonical forms.
use Rattle.std.proofs.Common.{rules, ◌∙◌, ◌*◌, ◌<◌, ◌≤◌, ◌^◌, [], arith}
use Rattle.irr_sparse.proofs.Arithmetic.{dens-bound, multiplied-number, product_of_slices, products-bound, small_product}
use Rattle.irr_sparse.proofs.FormsOf.{form_at, form_of}
use Rattle.irr_sparse.proofs.numbers.SparseScalar.mul.Goals as goal

pub product-requires-clause-small : goal.product-requires-clause-small
product-requires-clause-small c = small_product c.args.self.now.n c.as_slice.result.now c.as_slice-2.result.now c.args.self.now.terms.items c.args.other.now.terms.items [] c.as_slice.ensures c.as_slice-2.ensures (2 ^ 100) (products-bound c.args.self.now.n c.args.self.now.terms.items c.args.other.now.terms.items c.args.self.now.den c.args.other.now.den (form_of c.args.self.now) (form_at c.args.other.now c.args.self.now.n c.requires.orders) c.requires.sizes)

pub overflow_mul-self : goal.overflow_mul-self
overflow_mul-self c =
    let most : c.args.self.now.den * c.args.other.now.den ≤ 2 ^ 60 = dens-bound c.args.self.now.n c.args.self.now.terms.items c.args.other.now.terms.items c.args.self.now.den c.args.other.now.den (form_of c.args.self.now) (form_at c.args.other.now c.args.self.now.n c.requires.orders) c.requires.denominators in
    let below : c.args.self.now.den * c.args.other.now.den < 2 ^ 64 = omega arith in
    search rules

pub returns-clause-value : goal.returns-clause-value
returns-clause-value c = c.of_terms.ensures.value ∙ multiplied-number c.args.self.now.n c.args.self.now.terms.items c.args.other.now.terms.items c.args.self.now.den c.args.other.now.den (form_of c.args.self.now) (form_at c.args.other.now c.args.self.now.n c.requires.orders) c.in_ok-products.products.items c.in_ok-products.ensures.terms (product_of_slices c.args.self.now.n c.as_slice.result.now c.as_slice-2.result.now c.args.self.now.terms.items c.args.other.now.terms.items c.in_ok-products.products.items c.as_slice.ensures c.as_slice-2.ensures c.in_ok-products.ensures.sum)
