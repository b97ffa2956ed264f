-- The same components, as a row.
use Rattle.std.proofs.Common.{◌≡◌, ◌∙◌, ap, ap₂, ℕ, ℤ, pos, List, [], ◌∷◌, arith}
use Rattle.std.specs.Int.{w64}
use Rattle.std.proofs.lemmas.Int.{to_z-of_z}
use Rattle.irr_algebra.specs.Fin.Fin.{first}
use Rattle.irr_space.specs.Operation.{Vector, WaveVector}
use Rattle.irr_rat.specs.VectorMeaning.{vector_of}
use Rattle.irr_kvec.specs.WaveMeaning.{wave_of}
use Rattle.irr_gen.proofs.SmallWaves.{lowest_limits, three_small}
use Rattle.irr_gen.proofs.waves.wave.Goals as goal

-- a column as a row
row_of_column : Vector → WaveVector
row_of_column v = record { at = λ i j. v.at j first }

three : {a b c x y z : ℤ} → a ≡ x → b ≡ y → c ≡ z → a ∷ b ∷ c ∷ [] ≡ x ∷ y ∷ z ∷ []
three p q r = ap₂ (λ a l. a ∷ l) p (ap₂ (λ b l. b ∷ l) q (ap (λ c. c ∷ []) r))

pub returns-clause-value : goal.returns-clause-value
unfolding row_of_column wave_of vector_of
returns-clause-value c =
    let x = to_z-of_z w64 c.from.result (record { sfits = c.from.type_inv }) ∙ c.from.ensures in
    let y = to_z-of_z w64 c.from-2.result (record { sfits = c.from-2.type_inv }) ∙ c.from-2.ensures in
    let z = to_z-of_z w64 c.from-3.result (record { sfits = c.from-3.type_inv }) ∙ c.from-3.ensures in
    ap row_of_column (c.new-lowest.ensures ∙ ap₂ vector_of (three x y z) c.from-4.ensures)

pub returns-clause-limits : goal.returns-clause-limits
returns-clause-limits c =
    let x = to_z-of_z w64 c.from.result (record { sfits = c.from.type_inv }) ∙ c.from.ensures in
    let y = to_z-of_z w64 c.from-2.result (record { sfits = c.from-2.type_inv }) ∙ c.from-2.ensures in
    let z = to_z-of_z w64 c.from-3.result (record { sfits = c.from-3.type_inv }) ∙ c.from-3.ensures in
    let small = lowest_limits c.new-lowest.result.num (pos c.args.x ∷ pos c.args.y ∷ pos c.args.z ∷ []) c.new-lowest.result.den c.args.den
    c.new-lowest.result.lowest c.requires (c.new-lowest.ensures ∙ ap₂ vector_of (three x y z) c.from-4.ensures)
    (three_small c.args.x c.args.y c.args.z c.ranges.x.fits c.ranges.y.fits c.ranges.z.fits)
    (let d = c.ranges.den.fits in omega arith) in
    record { numerators = small.0; denominator = small.1 }
