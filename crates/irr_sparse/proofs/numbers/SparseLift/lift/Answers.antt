-- The moved terms stand for the lift.
use Rattle.std.proofs.Common.{◌≢◌, sym, subst, ℕ, ℤ, pos, ◌*◌, ◌/◌, ◌<◌, ◌≤◌, ◌^◌, List, All}
use Rattle.std.specs.Int.{◌∣◌}
use Rattle.irr_sparse.specs.TermList.{total}
use Rattle.irr_sparse.proofs.Arithmetic.{factor-below, lift-value, size-is}
use Rattle.irr_sparse.proofs.FormsOf.{form_of}
use Rattle.irr_sparse.proofs.Products.{each-nonzero}
use Rattle.irr_sparse.proofs.numbers.SparseLift.lift.Goals as goal

pub moved-requires-clause-inside : goal.moved-requires-clause-inside
moved-requires-clause-inside c = subst (λ (ts : List (ℕ × ℤ)). All (λ t. c.n-n.result / c.args.self.now.n * t.0 < c.n-n.result) ts) (sym c.as_slice.ensures)
    (factor-below c.args.self.now.n c.n-n.result c.n-n.ensures.positive (subst (λ m. c.args.self.now.n ∣ m) (sym c.n-n.ensures.value) c.requires.divides) c.args.self.now.terms.items c.args.self.now.canonical)

pub moved-requires-clause-each : goal.moved-requires-clause-each
moved-requires-clause-each c = subst (λ (ts : List (ℕ × ℤ)). All (λ t. t.1 ≢ pos 0) ts) (sym c.as_slice.ensures) (each-nonzero c.args.self.now.n 0 c.args.self.now.terms.items c.args.self.now.canonical)

pub moved-requires-clause-small : goal.moved-requires-clause-small
moved-requires-clause-small c = subst (λ (ts : List (ℕ × ℤ)). total ts ≤ 2 ^ 100) (sym c.as_slice.ensures)
    (subst (λ m. m ≤ 2 ^ 100) (size-is c.args.self.now.n c.args.self.now.terms.items c.args.self.now.den (form_of c.args.self.now)) c.requires.size)

pub returns-clause-value : goal.returns-clause-value
returns-clause-value c = lift-value c.args.self.now.n c.args.order.now.n c.n-n.result c.as_slice.result.now c.args.self.now.terms.items c.in_ok-terms.terms.items c.of_terms.result.terms.items c.args.self.now.den c.of_terms.result.den
    (form_of c.args.self.now) c.n-n.ensures.value c.args.order.now.positive c.requires.divides c.as_slice.ensures c.in_ok-terms.ensures.terms c.in_ok-terms.ensures.sum c.of_terms.ensures.value
