-- The reduced coefficients are in the basis, and one number with those before.
use Rattle.std.proofs.Common.{◌≡◌, sym, ◌∙◌, ap, subst, ℕ, ℤ, ◌<◌, List, length, ◌++◌, take, drop}
use Rattle.irr_number.specs.Number.{number}
use Rattle.irr_canonical.specs.Coefficient.{number_of, over}
use Rattle.irr_canonical.specs.Reduction.{IsInBasis}
use Rattle.irr_cyc.specs.Form.{at}
use Rattle.irr_cyc.proofs.Values.{reduced-value, written-back}
use Rattle.irr_cyc.proofs.coefficients.Dense.of_powers.Goals as goal

-- the reduced list, in the basis of its length
in-basis : (slice new : List ℤ) → length new ≡ length slice → IsInBasis (length slice) (at new) → IsInBasis (length new) (at new)
in-basis slice new e b = subst (λ n. IsInBasis n (at new)) (sym e) b

pub in_basis-requires-clause-basis : goal.in_basis-requires-clause-basis
in_basis-requires-clause-basis c = subst (λ xs. IsInBasis (length xs) (at xs))
    (sym (written-back c.args.coefficients.items c.reduce.new.coefficients c.args.coefficients.len (c.reduce.auto.coefficients ∙ c.as_mut_slice.ensures.len)))
    (in-basis c.as_mut_slice.result.now c.reduce.new.coefficients c.reduce.auto.coefficients c.reduce.ensures.basis)

-- one number
chain : (items slice new result : List ℤ) (den low count : ℕ) → slice ≡ items → length new ≡ length slice → length slice ≡ count → 0 < den
    → ((d : ℕ) (p : 0 < d) → number (length slice) (over (length slice) (at new) d p) ≡ number (length slice) (over (length slice) (at slice) d p))
    → (let back : List ℤ = take count (new ++ drop (length new) items) in number_of (length back) result low ≡ number_of (length back) back den)
    → number_of (length items) result low ≡ number_of (length items) items den
chain items slice new result den low count e len small p same value =
    let back : take count (new ++ drop (length new) items) ≡ new = written-back items new count (len ∙ small) in
    let at_new : number_of (length new) result low ≡ number_of (length new) new den = subst (λ xs. number_of (length xs) result low ≡ number_of (length xs) xs den) back value in
    let at_items : number_of (length items) result low ≡ number_of (length items) new den = subst (λ n. number_of n result low ≡ number_of n new den) (len ∙ ap length e) at_new in
    at_items ∙ reduced-value (length items) items new den p (subst (λ (s : List ℤ). (d : ℕ) (p : 0 < d) → number (length s) (over (length s) (at new) d p) ≡ number (length s) (over (length s) (at s) d p)) e same)

pub returns-clause-value : goal.returns-clause-value
returns-clause-value c = chain c.args.coefficients.items c.as_mut_slice.result.now c.reduce.new.coefficients c.in_basis.result.coefficients.items c.args.den c.in_basis.result.den c.args.coefficients.len
    c.as_mut_slice.ensures.value c.reduce.auto.coefficients c.as_mut_slice.ensures.len c.requires.positive c.reduce.ensures.number c.in_basis.ensures.value
