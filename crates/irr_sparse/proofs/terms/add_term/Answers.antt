-- The four ways to add a term.
use Rattle.std.proofs.Common.{◌≡◌, ◌∙◌, ap, ℕ, List, ℤ, pos, ◌+◌, ◌<◌, ◌≤◌, ◌^◌, ◌+ℤ◌, ◌++◌, take, drop, length, length-set, slice_set, slice_index_or, unsigned_abs, to_z, of_z, arith}
use Rattle.std.proofs.lemmas.List.{get_or_default}
use mir.Syntax.{w128}
use Rattle.irr_cyc.proofs.Written.{kept}
use Rattle.irr_sparse.specs.TermList.{total}
use Rattle.irr_sparse.proofs.Edits.{Added, IsPlace, added-insert, added-push, added-remove, added-set, other_exponent, place_in, read_le}
use Rattle.irr_sparse.proofs.Products.{written-terms}
use Rattle.irr_sparse.proofs.Words.{sum_ne_zero, sum_read, sum_zero}
use Rattle.irr_sparse.proofs.terms.add_term.Goals as goal

coefficient : (z : ℤ) (n : ℕ) → n + unsigned_abs z < 2 ^ 126 → to_z w128 (of_z w128 z) ≡ z
coefficient z n h = kept z (omega arith)

pushed : (c : goal.In_ok-push) → Added c.args.terms.now.items c.push.new.self.items c.args.exponent c.args.coefficient
pushed c = let end : c.len.result ≡ length c.args.terms.now.items = c.len.ensures.value in
    added-push c.args.terms.now.items c.push.new.self.items c.place_of-place.result c.args.exponent c.args.coefficient _
    (place_in c.as_slice.result.now c.args.terms.now.items c.place_of-place.result c.args.exponent c.as_slice.ensures c.place_of-place.ensures.within c.place_of-place.ensures.before c.place_of-place.ensures.after)
    (coefficient c.args.coefficient (total c.args.terms.now.items) c.requires.small) c.in_ok-push.ensures.ok (c.if-place-len.true ∙ end)

pub returns-then-place-len-clause-terms : goal.returns-then-place-len-clause-terms
returns-then-place-len-clause-terms c = (pushed c).terms

pub returns-then-place-len-clause-sum : goal.returns-then-place-len-clause-sum
returns-then-place-len-clause-sum c = (pushed c).sum

-- what is read from the slice
read_here : (slice ts : List (ℕ × ℤ)) (k : ℕ) → slice ≡ ts → k < length ts → slice_index_or slice k (0, pos 0) ≡ slice_index_or ts k (slice_index_or slice k (0, pos 0))
read_here slice ts k e lt = ap (λ us. slice_index_or us k (0, pos 0)) e ∙ get_or_default ts k (0, pos 0) (slice_index_or slice k (0, pos 0)) lt

less : (k n l : ℕ) → k ≤ l → n ≡ l → (k ≡ n → ⊥) → k < l
less k n l le e ne = omega (arith, ne)

inserted : (c : goal.In_ok-insert) → Added c.args.terms.now.items c.insert.new.self.items c.args.exponent c.args.coefficient
inserted c =
    let place : IsPlace c.args.terms.now.items c.place_of-place.result c.args.exponent = place_in c.as_slice.result.now c.args.terms.now.items c.place_of-place.result c.args.exponent c.as_slice.ensures c.place_of-place.ensures.within c.place_of-place.ensures.before c.place_of-place.ensures.after in
    added-insert c.args.terms.now.items c.insert.new.self.items c.place_of-place.result c.args.exponent c.args.coefficient _ place
    (coefficient c.args.coefficient (total c.args.terms.now.items) c.requires.small) c.in_ok-insert.ensures.ok
    (λ lt. other_exponent c.args.terms.now.items c.insert.new.self.items c.place_of-place.result c.args.exponent c.args.coefficient (pos 0) place (slice_index_or c.as_slice-2.result.now c.place_of-place.result (0, pos 0)) lt (read_here c.as_slice-2.result.now c.args.terms.now.items c.place_of-place.result c.as_slice-2.ensures lt) c.if-there-exponent.true)

pub returns-then-there-exponent-clause-terms : goal.returns-then-there-exponent-clause-terms
returns-then-there-exponent-clause-terms c = (inserted c).terms

pub returns-then-there-exponent-clause-sum : goal.returns-then-there-exponent-clause-sum
returns-then-there-exponent-clause-sum c = (inserted c).sum

fits_sum : (a b : ℤ) (n : ℕ) → unsigned_abs a ≤ n → n + unsigned_abs b < 2 ^ 126 → unsigned_abs a + unsigned_abs b < 2 ^ 127
fits_sum a b n le h = omega arith

removed : (c : goal.After-remove) → Added c.args.terms.now.items c.remove.new.self.items c.args.exponent c.args.coefficient
removed c =
    let place : IsPlace c.args.terms.now.items c.place_of-place.result c.args.exponent = place_in c.as_slice.result.now c.args.terms.now.items c.place_of-place.result c.args.exponent c.as_slice.ensures c.place_of-place.ensures.within c.place_of-place.ensures.before c.place_of-place.ensures.after in
    let end : c.len.result ≡ length c.args.terms.now.items = c.len.ensures.value in
    let within : c.place_of-place.result < length c.args.terms.now.items = less c.place_of-place.result c.len.result (length c.args.terms.now.items) place.within end c.if-place-len.false in
    let le : unsigned_abs (slice_index_or c.as_slice-2.result.now c.place_of-place.result (0, pos 0)).1 ≤ total c.args.terms.now.items = read_le c.args.terms.now.items c.remove.new.self.items c.place_of-place.result c.args.exponent c.args.coefficient (pos 0) place (slice_index_or c.as_slice-2.result.now c.place_of-place.result (0, pos 0)) within (read_here c.as_slice-2.result.now c.args.terms.now.items c.place_of-place.result c.as_slice-2.ensures within) in
    added-remove c.args.terms.now.items c.remove.new.self.items c.place_of-place.result c.args.exponent c.args.coefficient (pos 0) place (slice_index_or c.as_slice-2.result.now c.place_of-place.result (0, pos 0)) within (read_here c.as_slice-2.result.now c.args.terms.now.items c.place_of-place.result c.as_slice-2.ensures within)
    c.remove.ensures.items c.if-there-exponent.false (sum_zero (slice_index_or c.as_slice-2.result.now c.place_of-place.result (0, pos 0)).1 c.args.coefficient (fits_sum (slice_index_or c.as_slice-2.result.now c.place_of-place.result (0, pos 0)).1 c.args.coefficient (total c.args.terms.now.items) le c.requires.small) c.if-sum-eq0.true)

pub returns-then-sum-eq0-clause-terms : goal.returns-then-sum-eq0-clause-terms
returns-then-sum-eq0-clause-terms c = (removed c).terms

pub returns-then-sum-eq0-clause-sum : goal.returns-then-sum-eq0-clause-sum
returns-then-sum-eq0-clause-sum c = (removed c).sum

-- what is written through the slice
written : (slice ts : List (ℕ × ℤ)) (k : ℕ) (t : ℕ × ℤ) → slice ≡ ts → take (length ts) (slice_set slice k t ++ drop (length (slice_set slice k t)) ts) ≡ slice_set ts k t
written slice ts k t e = written-terms ts (slice_set slice k t) (length ts) (length-set slice k t ∙ ap length e) ∙ ap (λ us. slice_set us k t) e

set : (c : goal.After-terms-1) → Added c.args.terms.now.items
    (take (length c.args.terms.now.items) (slice_set c.as_mut_slice.result.now c.place_of-place.result (c.args.exponent, to_z w128 (of_z w128 (to_z w128 (of_z w128 (slice_index_or c.as_slice-2.result.now c.place_of-place.result (0, pos 0)).1) +ℤ to_z w128 (of_z w128 c.args.coefficient))))
    ++ drop (length (slice_set c.as_mut_slice.result.now c.place_of-place.result (c.args.exponent, to_z w128 (of_z w128 (to_z w128 (of_z w128 (slice_index_or c.as_slice-2.result.now c.place_of-place.result (0, pos 0)).1) +ℤ to_z w128 (of_z w128 c.args.coefficient)))))) c.args.terms.now.items)) c.args.exponent c.args.coefficient
set c =
    let place : IsPlace c.args.terms.now.items c.place_of-place.result c.args.exponent = place_in c.as_slice.result.now c.args.terms.now.items c.place_of-place.result c.args.exponent c.as_slice.ensures c.place_of-place.ensures.within c.place_of-place.ensures.before c.place_of-place.ensures.after in
    let end : c.len.result ≡ length c.args.terms.now.items = c.len.ensures.value in
    let within : c.place_of-place.result < length c.args.terms.now.items = less c.place_of-place.result c.len.result (length c.args.terms.now.items) place.within end c.if-place-len.false in
    let le : unsigned_abs (slice_index_or c.as_slice-2.result.now c.place_of-place.result (0, pos 0)).1 ≤ total c.args.terms.now.items = read_le c.args.terms.now.items c.args.terms.now.items c.place_of-place.result c.args.exponent c.args.coefficient (pos 0) place (slice_index_or c.as_slice-2.result.now c.place_of-place.result (0, pos 0)) within (read_here c.as_slice-2.result.now c.args.terms.now.items c.place_of-place.result c.as_slice-2.ensures within) in
    let fits : unsigned_abs (slice_index_or c.as_slice-2.result.now c.place_of-place.result (0, pos 0)).1 + unsigned_abs c.args.coefficient < 2 ^ 127 = fits_sum (slice_index_or c.as_slice-2.result.now c.place_of-place.result (0, pos 0)).1 c.args.coefficient (total c.args.terms.now.items) le c.requires.small in
    added-set c.args.terms.now.items _ c.place_of-place.result c.args.exponent c.args.coefficient _ place (slice_index_or c.as_slice-2.result.now c.place_of-place.result (0, pos 0)) within (read_here c.as_slice-2.result.now c.args.terms.now.items c.place_of-place.result c.as_slice-2.ensures within)
    (written c.as_mut_slice.result.now c.args.terms.now.items c.place_of-place.result _ c.as_mut_slice.ensures.value) (sum_read (slice_index_or c.as_slice-2.result.now c.place_of-place.result (0, pos 0)).1 c.args.coefficient fits) c.if-there-exponent.false (sum_ne_zero (slice_index_or c.as_slice-2.result.now c.place_of-place.result (0, pos 0)).1 c.args.coefficient fits c.if-sum-eq0.false)

pub returns-clause-terms : goal.returns-clause-terms
returns-clause-terms c = (set c).terms

pub returns-clause-sum : goal.returns-clause-sum
returns-clause-sum c = (set c).sum
