-- The exponents of the members.
use Rattle.std.proofs.Common.{◌≡◌, ◌+◌, ◌*◌, sym, ◌∙◌, ap, subst, [], ◌∷◌, length, length-append, arith}
use Rattle.irr_rep.specs.Twisted.{IsMemberExponent}
use Rattle.irr_rep.proofs.Members.{exponent_of_members}
use Rattle.irr_rep.proofs.Rows.{FilledRows, filled-push, filled-entries}
use Rattle.irr_rep.proofs.table.Twisted.exponents_on.Goals as goal

pub loop-j-preserved : goal.loop-j-preserved
loop-j-preserved c =
    let members = c.args.members.now in
    let x = c.phase.result in
    let longer : length c.push.new.self.items ≡ length c.loop-j.exponents.items + 1 = ap length c.in_ok-push.ensures.items
    ∙ length-append c.loop-j.exponents.items (x ∷ []) in
    record {
      count = omega (arith, longer, c.loop-j.invariant.count);
      rows = subst (FilledRows (length members) (IsMemberExponent c.args.self.now members)) (sym c.in_ok-push.ensures.items)
          (filled-push (length members) (IsMemberExponent c.args.self.now members) c.loop-j.exponents.items c.loop-i.i-index c.loop-j.j-index x
          c.loop-j.invariant.rows c.loop-j.invariant.count c.loop-j-test.true
          (exponent_of_members c.args.self.now members c.requires c.loop-i.i-index c.loop-j.j-index x c.loop-i-test.true c.loop-j-test.true
          c.phase.ensures.exponent));
    }

pub returns-clause-entries : goal.returns-clause-entries
returns-clause-entries c =
    let members = c.args.members.now in
    let done : c.loop-i.i-index ≡ length members = omega arith in
    filled-entries (length members) (IsMemberExponent c.args.self.now members) c.loop-i.exponents.items c.loop-i.invariant.rows
    (c.loop-i.invariant.count ∙ ap (λ k. k * length members) done)
