-- The trace in canonical form.
use Rattle.std.proofs.Common.{◌≡◌, sym, ◌∙◌, ap, subst, ℕ, ℤ, pos, ◌*◌, ◌<◌, ◌≤◌, ◌^◌, ◌⊎◌, inl, inr, arith, to_z, of_z, Fits, rules}
use Rattle.std.specs.Prelude.{slice_get}
use native.Mathlib.Nat as Nat
use Rattle.std.proofs.lemmas.Bool.{cases_lt}
use Rattle.std.proofs.lemmas.Int.{fits_signed_from_abs, to_z-of_z}
use Rattle.std.specs.Int.RustNames.{unsigned_abs}
use lib.Dec.{T}
use lib.Signed.{non_neg}
use mir.Syntax.{w32, w128}
use Rattle.irr_canonical.specs.Coefficient.{canonical}
use Rattle.irr_cyc.specs.Terms.{nonzero_terms}
use Rattle.irr_mat.specs.Entries.{first_order, matrix_of}
use Rattle.irr_mat.specs.Rank.{HasRank}
use Rattle.irr_mat.proofs.Projections.{rank_of_term, rank_of_no_term}
use Rattle.irr_mat.proofs.ranks.projection_rank.Goals as goal

-- a square matrix that fits memory has rows that fit 32 bits
rows-lt : (r len cap : ℕ) → len ≡ r * r → len ≤ cap → cap < 2 ^ 63 → r < 2 ^ 32
rows-lt r len cap e l h = go (cases_lt r (2 ^ 32))
  where
    go : (r < 2 ^ 32) ⊎ (2 ^ 32 ≤ r) → r < 2 ^ 32
    go (inl p) = p
    go (inr p) = let q : 2 ^ 32 * 2 ^ 32 ≤ r * r = Nat.mul-le-mul p p in absurd (omega arith)

-- a small number is read as it was written
read_back : (z : ℤ) (k : ℕ) → z ≡ pos k → k < 2 ^ 32 → to_z w128 (of_z w128 z) ≡ pos k
read_back z k e l = ap (λ x. to_z w128 (of_z w128 x)) e ∙ to_z-of_z w128 (pos k) (fits_signed_from_abs w128 (pos k) (omega arith))

fits_pos : (k : ℕ) → k < 2 ^ 32 → T (non_neg (pos k)) × Fits w32 k
fits_pos k l = search rules

pub overflow_cast-result : goal.overflow_cast-result
overflow_cast-result g c =
    let value = g.S.Scalar.value in
    let m = c.args.m.now in
    let n = first_order g.S.Scalar.order_of m.entries.items in
    let x = c.in_ok-trace.trace in
    let positive : 0 < n = subst (λ u. 0 < u) c.in_ok-trace.ensures.order (g.met.S.Scalar.admitted_positive (g.S.Scalar.order_of x) (g.met.S.Scalar.order_admitted x)) in
    let k = rank_of_term n positive m.rows (matrix_of value n m.rows m.rows m.entries.items) c.requires.projection (value n x) c.in_ok-trace.ensures.value c.in_ok-form.form.terms.items
    (subst (λ u. c.in_ok-form.form.terms.items ≡ nonzero_terms u (canonical u (value u x)).num.at) c.in_ok-trace.ensures.order c.in_ok-form.ensures.terms)
    c.in-Some.term.now (ap (λ ts. slice_get ts 0) (sym c.deref.ensures.value) ∙ sym c.in-Some.ensures.value) in
    let small : m.rows < 2 ^ 32 = rows-lt m.rows m.entries.len m.entries.cap (m.entries.ok.0 ∙ m.filled ∙ ap (λ u. m.rows * u) c.requires.square) m.entries.ok.1 m.entries.small in
    subst (λ z. T (non_neg z) × Fits w32 (unsigned_abs z)) (sym (read_back c.in-Some.term.now.1 k.0 k.1.0 (omega (arith, k.1.2)))) (fits_pos k.0 (omega (arith, k.1.2)))

pub returns-in-Some : goal.returns-in-Some
returns-in-Some g c =
    let value = g.S.Scalar.value in
    let m = c.args.m.now in
    let n = first_order g.S.Scalar.order_of m.entries.items in
    let x = c.in_ok-trace.trace in
    let positive : 0 < n = subst (λ u. 0 < u) c.in_ok-trace.ensures.order (g.met.S.Scalar.admitted_positive (g.S.Scalar.order_of x) (g.met.S.Scalar.order_admitted x)) in
    let k = rank_of_term n positive m.rows (matrix_of value n m.rows m.rows m.entries.items) c.requires.projection (value n x) c.in_ok-trace.ensures.value c.in_ok-form.form.terms.items
    (subst (λ u. c.in_ok-form.form.terms.items ≡ nonzero_terms u (canonical u (value u x)).num.at) c.in_ok-trace.ensures.order c.in_ok-form.ensures.terms)
    c.in-Some.term.now (ap (λ ts. slice_get ts 0) (sym c.deref.ensures.value) ∙ sym c.in-Some.ensures.value) in
    let small : m.rows < 2 ^ 32 = rows-lt m.rows m.entries.len m.entries.cap (m.entries.ok.0 ∙ m.filled ∙ ap (λ u. m.rows * u) c.requires.square) m.entries.ok.1 m.entries.small in
    subst (λ z. HasRank (matrix_of value n m.rows m.rows m.entries.items) (unsigned_abs z)) (sym (read_back c.in-Some.term.now.1 k.0 k.1.0 (omega (arith, k.1.2)))) k.1.1

pub returns : goal.returns
returns g c =
    let value = g.S.Scalar.value in
    let m = c.args.m.now in
    let n = first_order g.S.Scalar.order_of m.entries.items in
    let x = c.in_ok-trace.trace in
    let positive : 0 < n = subst (λ u. 0 < u) c.in_ok-trace.ensures.order (g.met.S.Scalar.admitted_positive (g.S.Scalar.order_of x) (g.met.S.Scalar.order_admitted x)) in
    rank_of_no_term n positive m.rows (matrix_of value n m.rows m.rows m.entries.items) c.requires.projection (value n x) c.in_ok-trace.ensures.value c.in_ok-form.form.terms.items
    (subst (λ u. c.in_ok-form.form.terms.items ≡ nonzero_terms u (canonical u (value u x)).num.at) c.in_ok-trace.ensures.order c.in_ok-form.ensures.terms)
    (ap (λ ts. slice_get ts 0) (sym c.deref.ensures.value) ∙ sym c.in-None.ensures.value)
