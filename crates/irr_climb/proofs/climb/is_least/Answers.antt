-- The turn of the place, and for the index 3 the turn of this.
use Rattle.std.proofs.Common.{◌≡◌, sym, ◌∙◌, ap, subst, refl, IsTrue, true, false, ◌⊎◌, ◌<◌, ◌≤◌, inl, inr, slice_index, arith, rules}
use Rattle.irr_climb.proofs.LeastTurns.{least_three, least_two, not_least, three_of}
use Rattle.irr_climb.proofs.climb.is_least.Goals as goal

not_true : IsTrue false → ⊥
not_true h = let e : false ≡ true = h in cc

pub returns-then-next-l : goal.returns-then-next-l
returns-then-next-l c n turn count listed k e =
    let turns = c.args.turns.now in
    let l = c.args.l in
    let le : slice_index turns l ≤ l = c.if-next-l.true in (
      λ t. absurd (not_true t),
      λ least. absurd (not_least turns n turn listed c.args.index l (slice_index turns l) k e refl
          c.requires.two_or_three le least),
    )

pub returns-then-index-eq2 : goal.returns-then-index-eq2
returns-then-index-eq2 c n turn count listed k e =
    let turns = c.args.turns.now in
    let l = c.args.l in
    let above : l < slice_index turns l = c.if-next-l.false in
    (λ _. least_two turns n turn listed c.args.index l (slice_index turns l) k e refl c.if-index-eq2.true above, λ _. refl)

pub returns-then-turns-next : goal.returns-then-turns-next
returns-then-turns-next c n turn count listed k e =
    let turns = c.args.turns.now in
    let l = c.args.l in
    let next = slice_index turns l in
    let above : l < next = c.if-next-l.false in
    let le : slice_index turns next ≤ l = c.if-turns-next.true in
    let three = three_of c.args.index c.requires.two_or_three c.if-index-eq2.false in (
      λ t. absurd (not_true t),
      λ least. absurd (let m = (least_three turns n turn listed c.args.index l next k e refl three above
          (slice_index turns next) refl).1 least in omega (arith, m, le)),
    )

pub returns : goal.returns
returns c n turn count listed k e =
    let turns = c.args.turns.now in
    let l = c.args.l in
    let next = slice_index turns l in
    let above : l < next = c.if-next-l.false in
    let after : l < slice_index turns next = c.if-turns-next.false in
    let three = three_of c.args.index c.requires.two_or_three c.if-index-eq2.false in
    (λ _. (least_three turns n turn listed c.args.index l next k e refl three above (slice_index turns next) refl).0 after, λ _. refl)
