use Rattle.std.proofs.Common.{◌≡◌, sym, ◌∙◌, ap₂, subst, subst₂, ℕ, ◌+◌, ◌%◌, ◌<◌, ◌≤◌, ◌^◌, List, [], get_or, ℤ, pos, ◌-ℤ◌, ◌*ℤ◌, unsigned_abs, FitsSigned, to_z, of_z, lit<, mod-lt, arith}
use Rattle.std.proofs.lemmas.Int.{to_z-of_z}
use Rattle.std.specs.Int.{w64}
use Rattle.irr_seitz.specs.Rotation.{IsWithin, rotation_of}
use Rattle.irr_seitz.proofs.Rotations.{within_at}
use Rattle.irr_seitz.proofs.Sizes.{abs-mul, abs-sub, difference_fits}
use Rattle.irr_seitz.proofs.rotation.cofactor.Goals as goal

-- a number of 64 bits read back
read : (a b : ℤ) → FitsSigned w64 a → a ≡ b → to_z w64 (of_z w64 a) ≡ b
read a b f e = to_z-of_z w64 a f ∙ e

wide : (x : ℤ) → unsigned_abs x ≤ 2 ^ 30 → unsigned_abs x ≤ 2 ^ 60
wide x h = omega (arith, h)

pub overflow_sub-result : goal.overflow_sub-result
overflow_sub-result c = subst₂ (λ x y. FitsSigned w64 (x -ℤ y)) (sym (to_z-of_z w64 c.pair-main.result (record { sfits = c.pair-main.type_inv })))
    (sym (to_z-of_z w64 c.pair-other.result (record { sfits = c.pair-other.type_inv })))
    (difference_fits c.pair-main.result c.pair-other.result (wide c.pair-main.result c.pair-main.ensures.small) (wide c.pair-other.result c.pair-other.ensures.small))

pub returns-clause-value : goal.returns-clause-value
returns-clause-value c = to_z-of_z w64 _ (overflow_sub-result c)
    ∙ ap₂ ◌-ℤ◌ (read c.pair-main.result _ (record { sfits = c.pair-main.type_inv }) (c.pair-main.ensures.value ∙ ap₂ ◌*ℤ◌ (read c.entry.result _ (record { sfits = c.entry.type_inv }) c.entry.ensures.value) (read c.entry-2.result _ (record { sfits = c.entry-2.type_inv }) c.entry-2.ensures.value)))
    (read c.pair-other.result _ (record { sfits = c.pair-other.type_inv }) (c.pair-other.ensures.value ∙ ap₂ ◌*ℤ◌ (read c.entry-3.result _ (record { sfits = c.entry-3.type_inv }) c.entry-3.ensures.value) (read c.entry-4.result _ (record { sfits = c.entry-4.type_inv }) c.entry-4.ensures.value)))

-- two by two entries of at most 9
small_minor : (rot : List (List ℤ)) (i j k l : ℕ) → IsWithin 9 (rotation_of rot) → i < 3 → j < 3 → k < 3 → l < 3
    → unsigned_abs ((get_or (get_or rot i []) k (pos 0) *ℤ get_or (get_or rot j []) l (pos 0)) -ℤ (get_or (get_or rot i []) l (pos 0) *ℤ get_or (get_or rot j []) k (pos 0))) ≤ 162
small_minor rot i j k l h hi hj hk hl = abs-sub (get_or (get_or rot i []) k (pos 0) *ℤ get_or (get_or rot j []) l (pos 0)) (get_or (get_or rot i []) l (pos 0) *ℤ get_or (get_or rot j []) k (pos 0)) 81 81
    (abs-mul (get_or (get_or rot i []) k (pos 0)) (get_or (get_or rot j []) l (pos 0)) 9 9 (within_at 9 rot h i k hi hk) (within_at 9 rot h j l hj hl))
    (abs-mul (get_or (get_or rot i []) l (pos 0)) (get_or (get_or rot j []) k (pos 0)) 9 9 (within_at 9 rot h i l hi hl) (within_at 9 rot h j k hj hk))

pub returns-clause-small : goal.returns-clause-small
returns-clause-small c = subst (λ a. unsigned_abs a ≤ 162) (sym (returns-clause-value c))
    (small_minor c.args.rot.now ((c.args.i + 1) % 3) ((c.args.i + 2) % 3) ((c.args.j + 1) % 3) ((c.args.j + 2) % 3) c.requires.within (mod-lt (c.args.i + 1) (lit< tt)) (mod-lt (c.args.i + 2) (lit< tt)) (mod-lt (c.args.j + 1) (lit< tt)) (mod-lt (c.args.j + 2) (lit< tt)))
