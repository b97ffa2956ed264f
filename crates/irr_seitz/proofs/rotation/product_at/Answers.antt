use Rattle.std.proofs.Common.{◌≡◌, sym, ◌∙◌, ap, ap₂, subst, ◌<◌, ℕ, List, [], get_or, ℤ, pos, ◌+ℤ◌, ◌*ℤ◌, FitsSigned, to_z, of_z, lit<}
use Rattle.std.specs.Int.{w16, w64}
use Rattle.std.proofs.lemmas.Int.{to_z-of_z}
use Rattle.irr_seitz.specs.Rotation.{rotation_of, IsWithin}
use Rattle.irr_seitz.proofs.Sizes.{weighted_sum, small_fits}
use Rattle.irr_seitz.proofs.Rotations.{within_at}
use Rattle.irr_seitz.proofs.rotation.product_at.Goals as goal

-- a row of a times a column of b
at_place : (a b : List (List ℤ)) (i j : ℕ) → ℤ
at_place a b i j = ((get_or (get_or a i []) 0 (pos 0) *ℤ get_or (get_or b 0 []) j (pos 0)) +ℤ (get_or (get_or a i []) 1 (pos 0) *ℤ get_or (get_or b 1 []) j (pos 0)))
    +ℤ (get_or (get_or a i []) 2 (pos 0) *ℤ get_or (get_or b 2 []) j (pos 0))

fits_at : (a b : List (List ℤ)) (i j : ℕ) → i < 3 → j < 3 → IsWithin 9 (rotation_of a) → IsWithin 9 (rotation_of b) → FitsSigned w16 (at_place a b i j)
unfolding at_place
fits_at a b i j hi hj ha hb = small_fits (at_place a b i j) (weighted_sum (get_or (get_or a i []) 0 (pos 0)) (get_or (get_or a i []) 1 (pos 0)) (get_or (get_or a i []) 2 (pos 0)) (get_or (get_or b 0 []) j (pos 0)) (get_or (get_or b 1 []) j (pos 0)) (get_or (get_or b 2 []) j (pos 0)) 9 9 (within_at 9 a ha i 0 hi (lit< tt)) (within_at 9 a ha i 1 hi (lit< tt)) (within_at 9 a ha i 2 hi (lit< tt))
    (within_at 9 b hb 0 j (lit< tt) hj) (within_at 9 b hb 1 j (lit< tt) hj) (within_at 9 b hb 2 j (lit< tt) hj))

value : (c : goal.After-dot-sum) → to_z w64 (of_z w64 c.dot-sum.result) ≡ at_place c.args.a.now c.args.b.now c.args.i c.args.j
unfolding at_place
value c = to_z-of_z w64 c.dot-sum.result (record { sfits = c.dot-sum.type_inv }) ∙ c.dot-sum.ensures.value
    ∙ ap₂ ◌+ℤ◌ (ap₂ ◌+ℤ◌ (ap (λ x. get_or (get_or c.args.a.now c.args.i []) 0 (pos 0) *ℤ x) (to_z-of_z w64 c.entry.result (record { sfits = c.entry.type_inv }) ∙ c.entry.ensures.value))
    (ap (λ x. get_or (get_or c.args.a.now c.args.i []) 1 (pos 0) *ℤ x) (to_z-of_z w64 c.entry-2.result (record { sfits = c.entry-2.type_inv }) ∙ c.entry-2.ensures.value)))
    (ap (λ x. get_or (get_or c.args.a.now c.args.i []) 2 (pos 0) *ℤ x) (to_z-of_z w64 c.entry-3.result (record { sfits = c.entry-3.type_inv }) ∙ c.entry-3.ensures.value))

pub overflow_cast-result : goal.overflow_cast-result
overflow_cast-result c = subst (FitsSigned w16) (sym (value c)) (fits_at c.args.a.now c.args.b.now c.args.i c.args.j c.requires.row c.requires.place c.requires.left c.requires.right)

pub returns : goal.returns
unfolding at_place
returns c = ap (λ x. to_z w16 (of_z w16 x)) (value c) ∙ to_z-of_z w16 (at_place c.args.a.now c.args.b.now c.args.i c.args.j) (fits_at c.args.a.now c.args.b.now c.args.i c.args.j c.requires.row c.requires.place c.requires.left c.requires.right)
