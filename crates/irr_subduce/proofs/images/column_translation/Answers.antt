use Rattle.std.proofs.Common.{◌≡◌, sym, ◌∙◌, ap, rules, ℕ, ℤ, pos, [], ◌∷◌, get_or, to_z, of_z}
use Rattle.std.specs.Int.{w64}
use Rattle.std.proofs.lemmas.Int.{to_z-of_z}
use Rattle.irr_algebra.specs.Fin.{Fin, to_nat}
use Rattle.irr_algebra.specs.Matrix.{column}
use Rattle.irr_rational.specs.Ratio.{entry}
use Rattle.irr_space.specs.Operation.{translation}
use Rattle.irr_rat.proofs.Vectors.{each_of_three}
use Rattle.irr_seitz.specs.Rotation.{rotation_of}
use Rattle.irr_seitz.proofs.Vectors.{operation-ext}
use Rattle.irr_seitz.proofs.Orders.{unit_rotation}
use Rattle.irr_setting.specs.Setting.{basis}
use Rattle.irr_subduce.proofs.Columns.{column_vector}
use Rattle.irr_subduce.proofs.images.column_translation.Goals as goal

entries : (c : goal.After-result-1) (p : Fin 3) → to_nat p ≡ c.args.j → (i : Fin 3)
    → entry (to_z w64 (of_z w64 (get_or (get_or c.args.setting.now.num 0 []) c.args.j (pos 0))) ∷ to_z w64 (of_z w64 (get_or (get_or c.args.setting.now.num 1 []) c.args.j (pos 0))) ∷ to_z w64 (of_z w64 (get_or (get_or c.args.setting.now.num 2 []) c.args.j (pos 0))) ∷ []) i
    ≡ (rotation_of c.args.setting.now.num).at i p
unfolding rotation_of to_nat
entries c p e = each_of_three (λ i. entry (to_z w64 (of_z w64 (get_or (get_or c.args.setting.now.num 0 []) c.args.j (pos 0))) ∷ to_z w64 (of_z w64 (get_or (get_or c.args.setting.now.num 1 []) c.args.j (pos 0))) ∷ to_z w64 (of_z w64 (get_or (get_or c.args.setting.now.num 2 []) c.args.j (pos 0))) ∷ []) i
    ≡ (rotation_of c.args.setting.now.num).at i p)
    (to_z-of_z w64 (get_or (get_or c.args.setting.now.num 0 []) c.args.j (pos 0)) (search rules) ∙ ap (λ n. get_or (get_or c.args.setting.now.num 0 []) n (pos 0)) (sym e))
    (to_z-of_z w64 (get_or (get_or c.args.setting.now.num 1 []) c.args.j (pos 0)) (search rules) ∙ ap (λ n. get_or (get_or c.args.setting.now.num 1 []) n (pos 0)) (sym e))
    (to_z-of_z w64 (get_or (get_or c.args.setting.now.num 2 []) c.args.j (pos 0)) (search rules) ∙ ap (λ n. get_or (get_or c.args.setting.now.num 2 []) n (pos 0)) (sym e))

pub returns : goal.returns
unfolding translation
returns c = λ p e. operation-ext _ (translation (column (basis c.args.setting.now) p)) unit_rotation
    (c.new-shift.ensures ∙ column_vector c.args.setting.now.num c.args.setting.now.den p _ (λ i. entries c p e i))
