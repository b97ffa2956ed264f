-- One operation more.
use Rattle.std.proofs.Common.{◌≡◌, sym, ◌∙◌, ap, subst, ℕ, ◌+◌, ◌<◌, length, get_or, rules, arith}
use Rattle.irr_seitz.specs.declared.op.Op.{Op}
use Rattle.irr_site.proofs.Cosets.{product_of_together, together_of_product}
use Rattle.irr_site.proofs.SiteGroups.{all_below}
use Rattle.irr_site.proofs.SiteSearch.{SearchSoFar, search_all, search_none, search_push, search_skip}
use Rattle.irr_site.proofs.orbits.site_numbers.Goals as goal
use Rattle.irr_site.proofs.orbits.site_numbers.Goals.{then-is_first+in_ok-push, else-is_first}

pub loop-j-init : goal.loop-j-init
loop-j-init c x places = subst (SearchSoFar c.args.group.now x 0) (sym c.new-sites.ensures.items) (search_none c.args.group.now x)

pub is_first-requires-clause-places : goal.is_first-requires-clause-places
is_first-requires-clause-places c = all_below c.args.group.now c.requires.places.0 c.args.places.now c.requires.places.1

pub loop-j-preserved : goal.loop-j-preserved
loop-j-preserved c =
    let group = c.args.group.now in
    let j = c.loop-j.j in
    let xs = c.args.places.now in
    let inside : j < length group.ops.items = search rules in
    elim c.if-is_first.branch [
      | then-is_first+in_ok-push w ↦ λ x places. subst (SearchSoFar group x (j + 1))
          (sym (ap (λ v. v.items) w.sites-is ∙ w.in_ok-push.ensures.items))
          (search_push group x j c.loop-j.sites.items (c.loop-j.invariant x places)
          (λ d i l t.
          let b = product_of_together group x xs places d i (omega (arith, l, inside)) j inside t in
          c.is_first.ensures.first w.if-is_first.true i b.0 l b.1 b.2))
      | else-is_first w ↦ λ x places. subst (SearchSoFar group x (j + 1)) (sym (ap (λ v. v.items) w.sites-is))
          (search_skip group x j c.loop-j.sites.items (c.loop-j.invariant x places)
          (let back = c.is_first.ensures.later w.if-is_first.false in (
            back.0,
            back.2,
            λ d. together_of_product group x xs places d back.0 (let l = back.2 in omega (arith, l, inside)) back.1 j back.3 back.4,
          )))
    ]

pub returns : goal.returns
returns c x places =
    let l : length c.ops-j-end.result.now ≡ length c.args.group.now.ops.items = ap length c.ops-j-end.ensures.list in
    let e : c.loop-j.j ≡ length c.args.group.now.ops.items = omega (arith, c.loop-j.auto.j-end) in
    search_all c.args.group.now x c.loop-j.sites.items
    (subst (λ n. SearchSoFar c.args.group.now x n c.loop-j.sites.items) e (c.loop-j.invariant x places))
