-- One turn more.
use Rattle.std.proofs.Common.{◌≡◌, ◌<◌, sym, ◌∙◌, ap, subst, refl, ℕ, length, slice_index, Fits, w32, arith, rules}
use Rattle.irr_algebra.specs.Fin.{Fin, to_nat}
use Rattle.irr_algebra.specs.Action.{Equivalent}
use Rattle.irr_algebra.proofs.Indices.{to_nat-lt}
use Rattle.irr_clifford.specs.Cyclic.{conjugate}
use Rattle.irr_climb.proofs.ListRows.{rows_count, rows_within}
use Rattle.irr_climb.proofs.Pushed.{each_pushed, one_longer}
use Rattle.irr_climb.proofs.TurnsListed.{turns_listed}
use Rattle.irr_climb.proofs.step.Step.turns.Goals as goal

fits_small : (n : ℕ) → n < 1000 → Fits w32 n
fits_small n l = search rules

pub overflow_cast-l-end : goal.overflow_cast-l-end
overflow_cast-l-end g c =
    let r = c.requires in
    let few = rows_within g.S.Scalar.order_of g.S.Scalar.value (λ v. v.items) r.1 r.2 r.3 c.args.rows.now r.4 in
    fits_small (length c.args.rows.now) (omega (arith, few))

pub loop-l-preserved : goal.loop-l-preserved
loop-l-preserved g c =
    let turns = c.loop-l.turns.items in
    let k = c.loop-l.l in
    let turn = c.in_ok-turn.turn in
    let invariant = c.loop-l.invariant in
    let items = c.in_ok-push.ensures.items in
    record {
      count = one_longer turns c.push.new.self.items turn k invariant.count items;
      within = each_pushed (λ a x. x < length c.args.rows.now) turns c.push.new.self.items turn k invariant.count items invariant.within
          c.in_ok-turn.ensures.within;
      turns = λ M is L full listed a b l e.
          each_pushed (λ j x. (a b : Fin L.count) → to_nat a ≡ j → to_nat b ≡ x → Equivalent (conjugate is.quotient (L.member a)) (L.member b).at)
          turns c.push.new.self.items turn k invariant.count items
          (λ j m a b d e. invariant.turns M is L full listed a b (subst (λ i. i < k) (sym d) m) (e ∙ ap (slice_index turns) (sym d)))
          (λ a b d e. c.in_ok-turn.ensures.turn M is L full listed a b d e)
          (to_nat a) l a b refl e;
    }

pub returns-clause-turns : goal.returns-clause-turns
returns-clause-turns g c M is L full listed =
    let turns = c.loop-l.turns.items in
    let invariant = c.loop-l.invariant in
    let count = rows_count g.S.Scalar.order_of g.S.Scalar.value (λ v. v.items) is L full c.args.rows.now listed in
    let done : c.loop-l.l ≡ length c.args.rows.now = search rules in
    let all : c.loop-l.l ≡ L.count = done ∙ count in
    turns_listed is L turns (invariant.count ∙ all)
    (λ k l. subst (λ n. slice_index turns k < n) count (invariant.within k (subst (λ n. k < n) (sym all) l)))
    (λ a b e. invariant.turns M is L full listed a b (subst (λ n. to_nat a < n) (sym all) (to_nat-lt a)) e)
