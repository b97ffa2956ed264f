-- A whole number, read off its canonical form.
use Rattle.std.proofs.Common.{◌≡◌, sym, ◌∙◌, ap, subst, ℕ, ℤ, pos, ◌<◌, ◌^◌, arith, to_z, of_z, Fits, rules}
use Rattle.std.specs.Prelude.{slice_get}
use Rattle.std.proofs.lemmas.Int.{fits_signed_from_abs, to_z-of_z}
use Rattle.std.specs.Int.RustNames.{unsigned_abs}
use lib.Dec.{T}
use lib.Signed.{non_neg}
use mir.Syntax.{w32, w128}
use Rattle.irr_mat.proofs.Projections.{first_term, no_term, terms_of_whole}
use Rattle.irr_char.proofs.characters.whole_number.Goals as goal

-- a small number is read as it was written
read_back : (z : ℤ) (k : ℕ) → z ≡ pos k → k < 2 ^ 31 → to_z w128 (of_z w128 z) ≡ pos k
read_back z k e l = ap (λ x. to_z w128 (of_z w128 x)) e ∙ to_z-of_z w128 (pos k) (fits_signed_from_abs w128 (pos k) (omega arith))

fits_pos : (k : ℕ) → k < 2 ^ 31 → T (non_neg (pos k)) × Fits w32 k
fits_pos k l = search rules

pub overflow_cast-result : goal.overflow_cast-result
overflow_cast-result g c =
    let x = c.args.x.now in
    let n = g.S.Scalar.order_of x in
    let k = c.requires.whole.0 in
    let first = first_term k c.in_ok-form.form.terms.items c.in-Some.term.now
    (c.in_ok-form.ensures.terms ∙ terms_of_whole n (g.met.S.Scalar.admitted_positive n (g.met.S.Scalar.order_admitted x)) k
    (g.S.Scalar.value n x) c.requires.whole.2)
    (ap (λ ts. slice_get ts 0) (sym c.deref.ensures.value) ∙ sym c.in-Some.ensures.value) in
    subst (λ z. T (non_neg z) × Fits w32 (unsigned_abs z)) (sym (read_back c.in-Some.term.now.1 k first c.requires.whole.1))
    (fits_pos k c.requires.whole.1)

pub returns-in-Some : goal.returns-in-Some
returns-in-Some g c k e =
    let x = c.args.x.now in
    let n = g.S.Scalar.order_of x in
    let positive : 0 < n = g.met.S.Scalar.admitted_positive n (g.met.S.Scalar.order_admitted x) in
    let j = c.requires.whole.0 in
    let read = ap (λ ts. slice_get ts 0) (sym c.deref.ensures.value) ∙ sym c.in-Some.ensures.value in
    let first = first_term j c.in_ok-form.form.terms.items c.in-Some.term.now
    (c.in_ok-form.ensures.terms ∙ terms_of_whole n positive j (g.S.Scalar.value n x) c.requires.whole.2) read in
    let same = first_term k c.in_ok-form.form.terms.items c.in-Some.term.now
    (c.in_ok-form.ensures.terms ∙ terms_of_whole n positive k (g.S.Scalar.value n x) e) read in
    ap unsigned_abs (read_back c.in-Some.term.now.1 j first c.requires.whole.1 ∙ sym first ∙ same)

pub returns : goal.returns
returns g c k e =
    let x = c.args.x.now in
    let n = g.S.Scalar.order_of x in
    sym (no_term k c.in_ok-form.form.terms.items
    (c.in_ok-form.ensures.terms ∙ terms_of_whole n (g.met.S.Scalar.admitted_positive n (g.met.S.Scalar.order_admitted x)) k (g.S.Scalar.value n x) e)
    (ap (λ ts. slice_get ts 0) (sym c.deref.ensures.value) ∙ sym c.in-None.ensures.value))
