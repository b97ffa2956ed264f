-- The copies, one after another.
use Rattle.std.proofs.Common.{◌≡◌, ◌∙◌, subst, refl, length, rules}
use Rattle.irr_star.proofs.FamilyItems.{MatricesSoFar, family_item, matrices_more, matrices_none, small_family}
use Rattle.irr_star.proofs.copies.family.Goals as goal

pub loop-k-init : goal.loop-k-init
loop-k-init g c M h d D is = matrices_none M d D c.new-mats.result.items c.new-mats.ensures.items

pub loop-k-preserved : goal.loop-k-preserved
loop-k-preserved g c M h d D is = matrices_more M d D c.loop-k.k c.loop-k.mats.items c.push.new.self.items
    c.in_ok-mat.mat (c.loop-k.invariant M h d D is)
    c.in_ok-push.ensures.items
    (λ p e. c.in_ok-mat.ensures M d (D p) (family_item M D c.args.f.now is c.loop-k.k c.index.result.now
    (let t = c.loop-k-test.true in let e = c.len-k-end.ensures in search rules) c.index.ensures p e))

pub returns : goal.returns
returns g c M h d D is =
    let whole : c.loop-k.k ≡ length c.args.f.now.mats.items =
    (let t = c.loop-k-test.false in let u = c.loop-k.auto.k-end in
    let e = c.len-k-end.ensures in search rules) in
    let all = whole ∙ is.shape.count in
    small_family M D c.args.f.now _ is refl (subst (λ n. MatricesSoFar M d D n c.loop-k.mats.items) all
    (c.loop-k.invariant M h d D is))
