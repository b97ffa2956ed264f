use Rattle.std.proofs.Common.{◌≡◌, sym, ◌∙◌, ap, subst}
use Rattle.std.specs.Ordering.{MatchOrdering, ordering_then}
use Rattle.irr_rational.specs.Order.{IsBelow}
use Rattle.irr_space.specs.Operation.{component}
use Rattle.irr_rat.specs.VectorMeaning.{vector}
use Rattle.irr_rat.proofs.Lexicographic.{match_of_vectors}
use Rattle.irr_rat.proofs.vec3.Vec3.cmp.Goals as goal

pub returns : goal.returns
returns c = subst (λ o. MatchOrdering o (IsBelow (component (vector c.args.self.now)) (component (vector c.args.other.now))) (vector c.args.self.now ≡ vector c.args.other.now)
    (IsBelow (component (vector c.args.other.now)) (component (vector c.args.self.now))))
    (sym (c.then-2.ensures ∙ ap (λ o. ordering_then o c.cmp_at-3.result) c.then.ensures))
    (match_of_vectors c.args.self.now.num c.args.other.now.num c.args.self.now.den c.args.other.now.den c.cmp_at.result c.cmp_at-2.result c.cmp_at-3.result
    c.args.self.now.lowest.positive c.args.other.now.lowest.positive c.cmp_at.ensures c.cmp_at-2.ensures c.cmp_at-3.ensures)
