-- The products of the members.
use Rattle.std.proofs.Common.{◌≡◌, ◌+◌, ◌*◌, Contains, sym, ◌∙◌, ap, subst, [], ◌∷◌, length, length-append, arith}
use Rattle.irr_rep.specs.Twisted.{IsMemberProduct}
use Rattle.irr_rep.proofs.Members.{members-le, product_inside, product_of_members}
use Rattle.irr_rep.proofs.Rows.{FilledRows, filled-push, filled-entries}
use Rattle.irr_rep.proofs.table.Twisted.products_on.Goals as goal

pub position-requires-clause-short : goal.position-requires-clause-short
position-requires-clause-short c = omega (arith, members-le c.args.self.now c.args.members.now c.requires, c.args.self.now.places_within)

pub position-requires-clause-inside : goal.position-requires-clause-inside
position-requires-clause-inside c =
    let members = c.args.members.now in
    let i = c.loop-i.i-index in
    let j = c.loop-j.j-index in
    subst (λ k. Contains members k)
    (sym (product_of_members c.args.self.now members c.requires i j c.table.result c.loop-i-test.true c.loop-j-test.true c.table.ensures.product))
    (product_inside c.args.self.now members c.requires i j c.loop-i-test.true c.loop-j-test.true)

pub loop-j-preserved : goal.loop-j-preserved
loop-j-preserved c =
    let members = c.args.members.now in
    let x = c.position.result in
    let longer : length c.push.new.self.items ≡ length c.loop-j.products.items + 1 = ap length c.in_ok-push.ensures.items
    ∙ length-append c.loop-j.products.items (x ∷ []) in
    record {
      count = omega (arith, longer, c.loop-j.invariant.count);
      rows = subst (FilledRows (length members) (IsMemberProduct c.args.self.now members)) (sym c.in_ok-push.ensures.items)
          (filled-push (length members) (IsMemberProduct c.args.self.now members) c.loop-j.products.items c.loop-i.i-index c.loop-j.j-index x
          c.loop-j.invariant.rows c.loop-j.invariant.count c.loop-j-test.true (
            c.position.ensures.within,
            c.position.ensures.value
                ∙ product_of_members c.args.self.now members c.requires c.loop-i.i-index c.loop-j.j-index c.table.result c.loop-i-test.true
                c.loop-j-test.true c.table.ensures.product,
          ));
    }

pub returns-clause-entries : goal.returns-clause-entries
returns-clause-entries c =
    let members = c.args.members.now in
    let done : c.loop-i.i-index ≡ length members = omega arith in
    filled-entries (length members) (IsMemberProduct c.args.self.now members) c.loop-i.products.items c.loop-i.invariant.rows
    (c.loop-i.invariant.count ∙ ap (λ k. k * length members) done)
