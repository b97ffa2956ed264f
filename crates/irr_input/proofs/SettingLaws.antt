-- A line writes one basis or one origin at most, or has one fault at most, and never both.
--   basis_unique, origin_unique                 one basis, and one origin
--   basis_fault_unique, origin_fault_unique     one fault
--   basis_or_fault, origin_or_fault             never both
use Rattle.std.proofs.Common.{◌≡◌, ap₂, ℕ, ℤ, List, codes}
use Rattle.irr_rational.specs.Rational.{ratio}
use Rattle.irr_rational.specs.Ratio.{entry}
use Rattle.irr_space.specs.Operation.{Rotation}
use Rattle.irr_rat.specs.declared.vec3.Vec3.{Vec3}
use Rattle.irr_rat.specs.VectorMeaning.{vector}
use Rattle.irr_setting.specs.Setting.{basis_of}
use Rattle.irr_setting_text.specs.SettingFault.{row_by_row, IsBasisText, IsBasisFault, IsOriginText, IsOriginFault}
use Rattle.irr_setting_text.specs.declared.read.SettingError.{SettingError}
use Rattle.irr_setting_text.proofs.SpelledOnce.{fault_once, text_or_fault}
use Rattle.irr_setting_text.proofs.OneSetting.{basis_once, origin_once}

pub basis_unique : (line : List ℕ) (num low : List (List ℤ)) (den least : ℕ) → IsBasisText line num den → IsBasisText line low least → basis_of num den ≡ basis_of low least
unfolding basis_of
basis_unique line num low den least f g =
    let both = basis_once line num low den least f g in
    ap₂ (λ (R : Rotation) (d : ℕ). record { at = λ i j. ratio (R.at i j) d }) both.0 both.1

pub origin_unique : (line : List ℕ) (p q : Vec3) → IsOriginText line p → IsOriginText line q → vector p ≡ vector q
origin_unique line p q f g = origin_once line p q f g

pub basis_fault_unique : (line : List ℕ) (e f : SettingError) → IsBasisFault line e → IsBasisFault line f → e ≡ f
basis_fault_unique line e f a b = fault_once (codes "basis") 9 100 line e f a b

pub origin_fault_unique : (line : List ℕ) (e f : SettingError) → IsOriginFault line e → IsOriginFault line f → e ≡ f
origin_fault_unique line e f a b = fault_once (codes "origin") 3 1000 line e f a b

pub basis_or_fault : (line : List ℕ) (num : List (List ℤ)) (den : ℕ) (e : SettingError) → IsBasisText line num den → ¬ (IsBasisFault line e)
basis_or_fault line num den e a b = text_or_fault (codes "basis") 9 100 line (row_by_row num) den e a b

pub origin_or_fault : (line : List ℕ) (p : Vec3) (e : SettingError) → IsOriginText line p → ¬ (IsOriginFault line e)
origin_or_fault line p e a b = text_or_fault (codes "origin") 3 1000 line (entry p.num) p.den e a b
