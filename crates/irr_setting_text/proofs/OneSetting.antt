-- A line writes one basis, or one origin.
--   basis_once, origin_once
use Rattle.std.proofs.Common.{◌≡◌, ◌∙◌, ap, ℕ, List, [], codes, slice_index_or, ℤ, pos}
use mathlib.Core.Path.{fun_ext}
use Rattle.irr_algebra.specs.Fin.{Fin, to_nat}
use Rattle.irr_algebra.specs.Fin.Fin.{first, next}
use Rattle.irr_algebra.proofs.Matrices.{matrix-ext}
use Rattle.irr_rational.specs.Ratio.{entry}
use Rattle.irr_rat.specs.declared.vec3.Vec3.{Vec3}
use Rattle.irr_rat.specs.VectorMeaning.{vector, vector_of}
use Rattle.irr_rat.proofs.Vectors.{each_of_three, vector_of-entries}
use Rattle.irr_seitz.specs.Rotation.{rotation_of}
use Rattle.irr_token.specs.declared.kind.Kind.TheVariants.{Blank, Mark}
use Rattle.irr_setting_text.specs.LineFront.{IsWord}
use Rattle.irr_setting_text.specs.SettingFault.{row_by_row, IsBasisText, IsOriginText}
use Rattle.irr_setting_text.proofs.SpelledOnce.{text_once}

basis_is_word : IsWord (codes "basis")
basis_is_word e = let f : Mark ≡ Blank = e in cc

origin_is_word : IsWord (codes "origin")
origin_is_word e = let f : Mark ≡ Blank = e in cc

pub basis_once : (line : List ℕ) (num low : List (List ℤ)) (den least : ℕ) → IsBasisText line num den → IsBasisText line low least
    → (rotation_of num ≡ rotation_of low) × (den ≡ least)
unfolding rotation_of to_nat
basis_once line num low den least a b =
    let t = text_once (codes "basis") 9 100 line basis_is_word (row_by_row num) (row_by_row low) den least a b in
    let e = t.1 in
    let P = λ (i j : Fin 3). slice_index_or (slice_index_or num (to_nat i) []) (to_nat j) (pos 0) ≡ slice_index_or (slice_index_or low (to_nat i) []) (to_nat j) (pos 0) in (
      matrix-ext (each_of_three (λ i. (j : Fin 3) → P i j)
          (each_of_three (P first) (e first) (e (next first)) (e (next (next first))))
          (each_of_three (P (next first)) (e (next (next (next first)))) (e (next (next (next (next first))))) (e (next (next (next (next (next first)))))))
          (each_of_three (P (next (next first))) (e (next (next (next (next (next (next first))))))) (e (next (next (next (next (next (next (next first))))))))
          (e (next (next (next (next (next (next (next (next first))))))))))),
      t.0,
    )

pub origin_once : (line : List ℕ) (p q : Vec3) → IsOriginText line p → IsOriginText line q → vector p ≡ vector q
origin_once line p q a b =
    let t = text_once (codes "origin") 3 1000 line origin_is_word (entry p.num) (entry q.num) p.den q.den a b in
    vector_of-entries p.num q.num p.den (fun_ext t.1) ∙ ap (vector_of q.num) t.0
