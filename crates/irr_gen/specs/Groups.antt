-- The groups of made inputs (International Tables A): their generators, and the wave vectors at which they are looked at.
--   group_of b            the group with the number b, from 0: P2_12_12_1, I2_13, Pm-3m, Fd-3m
--   generators G          its generators
--   zone_boundary G       a wave vector on the boundary of the Brillouin zone
--   zone_inside G         a wave vector of the first axis inside it
--   wave_at G w           the wave vector with the number w, from 0: zero, on the boundary, inside
use Rattle.std.specs.Prelude.{ℕ, zero, suc, pos, List, [], ◌∷◌}
use Rattle.irr_space.specs.Operation.{Operation, WaveVector}
use Rattle.irr_kvec.specs.WaveMeaning.{wave_of}
use Rattle.irr_gen.specs.declared.symmetry.Axis.TheVariants.{X, Y, Z, MinusX, MinusY, MinusZ}
use Rattle.irr_gen.specs.declared.group.SpaceGroup.{SpaceGroup}
use Rattle.irr_gen.specs.declared.group.SpaceGroup.TheVariants.{Orthorhombic, BodyCentred, Cubic, Diamond}
use Rattle.irr_gen.specs.Symmetry.{symmetry}

abbrev pub group_of : ℕ → SpaceGroup
group_of zero = Orthorhombic
group_of (suc zero) = BodyCentred
group_of (suc (suc zero)) = Cubic
group_of (suc (suc (suc b))) = Diamond

abbrev pub generators : SpaceGroup → List Operation
generators Orthorhombic = symmetry X MinusY MinusZ (pos 2 ∷ pos 2 ∷ pos 0 ∷ [])
    ∷ symmetry MinusX Y MinusZ (pos 0 ∷ pos 2 ∷ pos 2 ∷ []) ∷ []
generators BodyCentred = symmetry X Y Z (pos 2 ∷ pos 2 ∷ pos 2 ∷ [])
    ∷ symmetry MinusX MinusY Z (pos 2 ∷ pos 0 ∷ pos 2 ∷ [])
    ∷ symmetry MinusX Y MinusZ (pos 0 ∷ pos 2 ∷ pos 2 ∷ [])
    ∷ symmetry Z X Y (pos 0 ∷ pos 0 ∷ pos 0 ∷ []) ∷ []
generators Cubic = symmetry MinusY X Z (pos 0 ∷ pos 0 ∷ pos 0 ∷ [])
    ∷ symmetry Z X Y (pos 0 ∷ pos 0 ∷ pos 0 ∷ [])
    ∷ symmetry MinusX MinusY MinusZ (pos 0 ∷ pos 0 ∷ pos 0 ∷ []) ∷ []
generators Diamond = symmetry X Y Z (pos 0 ∷ pos 2 ∷ pos 2 ∷ [])
    ∷ symmetry X Y Z (pos 2 ∷ pos 0 ∷ pos 2 ∷ [])
    ∷ symmetry MinusX MinusY Z (pos 3 ∷ pos 1 ∷ pos 2 ∷ [])
    ∷ symmetry MinusX Y MinusZ (pos 1 ∷ pos 2 ∷ pos 3 ∷ [])
    ∷ symmetry Z X Y (pos 0 ∷ pos 0 ∷ pos 0 ∷ [])
    ∷ symmetry Y X MinusZ (pos 3 ∷ pos 1 ∷ pos 2 ∷ [])
    ∷ symmetry MinusX MinusY MinusZ (pos 0 ∷ pos 0 ∷ pos 0 ∷ []) ∷ []

abbrev pub zone_boundary : SpaceGroup → WaveVector
zone_boundary Orthorhombic = wave_of (pos 1 ∷ pos 1 ∷ pos 1 ∷ []) 2
zone_boundary BodyCentred = wave_of (pos 1 ∷ pos 1 ∷ pos 1 ∷ []) 2
zone_boundary Cubic = wave_of (pos 1 ∷ pos 1 ∷ pos 0 ∷ []) 2
zone_boundary Diamond = wave_of (pos 0 ∷ pos 1 ∷ pos 0 ∷ []) 1

abbrev pub zone_inside : SpaceGroup → WaveVector
zone_inside Orthorhombic = wave_of (pos 1 ∷ pos 0 ∷ pos 0 ∷ []) 20
zone_inside BodyCentred = wave_of (pos 1 ∷ pos 0 ∷ pos 0 ∷ []) 10
zone_inside Cubic = wave_of (pos 1 ∷ pos 0 ∷ pos 0 ∷ []) 20
zone_inside Diamond = wave_of (pos 1 ∷ pos 0 ∷ pos 0 ∷ []) 10

abbrev pub wave_at : SpaceGroup → ℕ → WaveVector
wave_at G zero = wave_of (pos 0 ∷ pos 0 ∷ pos 0 ∷ []) 1
wave_at G (suc zero) = zone_boundary G
wave_at G (suc (suc w)) = zone_inside G
