-- The matrices one after another.
use Rattle.std.proofs.Common.{◌≡◌, sym, ◌∙◌, ap, slice_index, rules}
use Rattle.irr_rep.specs.Twisted.{place_count}
use Rattle.irr_climb.specs.Steps.{large}
use Rattle.irr_climb.proofs.ConjugateRows.{generator_below}
use Rattle.irr_climb.proofs.ExtensionLists.{matrices_more, matrices_none, matrices_read}
use Rattle.irr_climb.proofs.ExtensionPlaces.{generator_exponent}
use Rattle.irr_climb.proofs.extensions.first.first_extension.Goals as goal

pub coset_matrix-requires-clause-place : goal.coset_matrix-requires-clause-place
coset_matrix-requires-clause-place g c = generator_below c.requires.extension.is

pub coset_matrix-requires-clause-coset : goal.coset_matrix-requires-clause-coset
coset_matrix-requires-clause-coset g c =
    let step = c.args.step.now in
    let is = c.requires.extension.is in
    ap (slice_index step.exponents.items) is.generator ∙ is.exponents is.quotient.generator ∙ generator_exponent is.quotient is.two_or_three

pub matrix_at_place-requires-clause-extension : goal.matrix_at_place-requires-clause-extension
matrix_at_place-requires-clause-extension g c =
    let e = c.requires.extension in (c.args.traces.now, e, c.in_ok-at_generator.ensures e e.is.quotient.generator (sym e.is.generator))

pub loop-x-init : goal.loop-x-init
loop-x-init g c e = matrices_none c.args.order.now.n e.d e.E.at c.new-mats.result.items c.new-mats.ensures.items

pub loop-x-preserved : goal.loop-x-preserved
loop-x-preserved g c e = matrices_more c.args.order.now.n e.d e.E.at c.loop-x.x c.loop-x.mats.items c.push.new.self.items c.in_ok-matrix.matrix
    (c.loop-x.invariant e)
    c.in_ok-push.ensures.items (λ i q. c.in_ok-matrix.ensures c.args.traces.now e (c.in_ok-at_generator.ensures e e.is.quotient.generator
    (sym e.is.generator)) i q)

pub returns : goal.returns
returns g c e =
    let done : c.loop-x.x ≡ place_count c.args.step.now.outer = search rules in
    matrices_read c.args.order.now.n (large e.is) e.E _ e.fixed.read.size e.fixed.positive c.loop-x.x done (c.loop-x.invariant e)
