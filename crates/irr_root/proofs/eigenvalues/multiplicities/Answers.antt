-- One number after the other.
use Rattle.std.proofs.Common.{◌≡◌, sym, ◌∙◌, ap, subst, ℕ, suc, ◌+◌, ◌*◌, ◌/◌, ◌<◌, ◌≤◌, ◌^◌, ◌++◌, ◌∷◌, [], length, get_or, slice_index, Fits, w32, arith, rules}
use native.Mathlib.Nat as Nat
use native.Mathlib.Decide.{dec_le}
use Rattle.std.proofs.Math.ListN.{get_or-append, length-append}
use Rattle.std.proofs.Math.Seq.{get_or-append_seam}
use Rattle.irr_number.specs.Number.{numbers, root_power}
use Rattle.irr_eigen.specs.Eigenspace.{Occurs}
use Rattle.irr_eigen.specs.Power.{power}
use Rattle.irr_rep.specs.Twisted.{phase_table}
use Rattle.irr_root.proofs.Spacing.{spaced-lt, spaced-power}
use Rattle.irr_root.proofs.Walks.{powers-length, table-order-le}
use Rattle.irr_root.proofs.eigenvalues.multiplicities.Goals as goal

fits_small : (a : ℕ) → a < 2 ^ 32 → Fits w32 a
fits_small a l = search rules

pub overflow_cast-a-end : goal.overflow_cast-a-end
overflow_cast-a-end g c =
    let few : length c.args.powers.now.places.items ≤ 12000 = Nat.le_trans (powers-length (phase_table c.args.t.now) c.requires.powers.0 c.requires.powers.1) (table-order-le c.args.t.now) in
    let is : c.len-a-end.result ≡ length c.args.powers.now.places.items = search rules in
    fits_small c.len-a-end.result (omega (arith, few, is))

pub overflow_mul-a : goal.overflow_mul-a
overflow_mul-a g c =
    let T = phase_table c.args.t.now in
    let l : c.loop-a.a < length c.args.powers.now.places.items = search rules in
    let below : c.args.first + c.loop-a.a * c.args.step < T.order = spaced-lt T.order (length c.args.powers.now.places.items) c.args.step c.args.first c.loop-a.a c.requires.first c.requires.step l in
    let few : T.order ≤ 12000 = table-order-le c.args.t.now in
    fits_small (c.loop-a.a * c.args.step) (omega (arith, below, few))

pub overflow_add-first : goal.overflow_add-first
overflow_add-first g c =
    let T = phase_table c.args.t.now in
    let l : c.loop-a.a < length c.args.powers.now.places.items = search rules in
    let below : c.args.first + c.loop-a.a * c.args.step < T.order = spaced-lt T.order (length c.args.powers.now.places.items) c.args.step c.args.first c.loop-a.a c.requires.first c.requires.step l in
    let few : T.order ≤ 12000 = table-order-le c.args.t.now in
    fits_small (c.args.first + c.loop-a.a * c.args.step) (omega (arith, below, few))

pub multiplicity-requires-clause-same_power : goal.multiplicity-requires-clause-same_power
multiplicity-requires-clause-same_power g c =
    let T = phase_table c.args.t.now in
    spaced-power T.order (length c.args.powers.now.places.items) c.args.step c.args.first c.loop-a.a c.requires.step ∙ c.requires.same_power

pub loop-a-preserved : goal.loop-a-preserved
loop-a-preserved g c = (
  ap length c.in_ok-push.ensures.items ∙ length-append c.loop-a.times.items (c.in_ok-often.often ∷ []) ∙ ap (λ k. k + 1) c.loop-a.invariant.0,
  λ d p w b l.
      let T = phase_table c.args.t.now in
      let Often = λ (e k : ℕ). Occurs (d.representation.at p) (power (numbers d.n) (root_power d.n (d.n / T.order)) (c.args.first + e * c.args.step)) k in
      let all = c.loop-a.invariant.0 in
      subst (λ xs. Often b (slice_index xs b)) (sym c.in_ok-push.ensures.items)
      (elim (dec_le (suc b) c.loop-a.a) [
        | yes s ↦ subst (Often b) (sym (get_or-append c.loop-a.times.items (c.in_ok-often.often ∷ []) 0 b (subst (λ k. b < k) (sym all) s))) (c.loop-a.invariant.1 d p w b s)
        | no s ↦ let is : b ≡ c.loop-a.a = omega (arith, l, s) in
            subst (λ e. Often e (get_or (c.loop-a.times.items ++ c.in_ok-often.often ∷ []) e 0)) (sym is)
            (subst (Often c.loop-a.a) (sym (ap (λ k. get_or (c.loop-a.times.items ++ c.in_ok-often.often ∷ []) k 0) (sym all) ∙ get_or-append_seam c.loop-a.times.items c.in_ok-often.often [] 0))
            (c.in_ok-often.ensures d p w))
      ]),
)

pub returns-clause-occurs : goal.returns-clause-occurs
returns-clause-occurs g c d p w a l =
    let done : c.loop-a.a ≡ length c.args.powers.now.places.items = search rules in
    c.loop-a.invariant.1 d p w a (subst (λ k. a < k) (sym done) l)
