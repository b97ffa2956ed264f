-- What a command asks of a group of operations, with all that the words and the input say of it.
--   Question                 the star of a wave vector, the small or the full representations at one, the direct
--                            products of the full ones at two, the parts of the full
--                            ones under the subgroup of a section, the compatibility relations of a first point and others,
--                            the types of the full ones, their squares, the tensors of a form, the sites of a point and what
--                            they bring to a wave vector, the verdict on a report, or the summary of the small
--                            representations at a wave vector, with a number and a number of lines
--   question_of r sub report n   what a request asks, on an input of n lines with this report or none; nothing where the
--                            input lacks the section that the command needs
--   IsNeededOrder q G i n    the i-th order of numbers that the answer needs, in the group G, is n: i counts from 0
use Rattle.std.specs.Prelude.{ℕ, ◌≡◌, ◌≤◌, ◌⊎◌, Option, None, Some, List, length, map}
use Rattle.irr_space.specs.Operation.{Operation, Vector, WaveVector}
use Rattle.irr_space.specs.Reciprocal.{IsOrder}
use Rattle.irr_text.specs.ReportText.{ReportContent}
use Rattle.irr_rat.specs.VectorMeaning.{vector}
use Rattle.irr_kvec.specs.WaveMeaning.{wave_vector}
use Rattle.irr_input.specs.Stages.{SubContent}
use Rattle.irr_input.specs.declared.form.Form.{Form}
use Rattle.irr_gen.specs.MadeInput.{made_wave}
use Rattle.irr_line.specs.LineGroup.{IsLineOrder}
use Rattle.irr_product.specs.Products.{IsPairOrder}
use Rattle.irr_power.specs.Tensors.{origin}
use Rattle.irr_top.specs.CompatCommand.{other_points, point_of}
use Rattle.irr_top.specs.SubgroupOf.{GivesSubgroup}
use Rattle.irr_top.specs.declared.request.Request.{Request}
use Rattle.irr_top.specs.declared.request.Request.TheVariants.{Star, Small, Full, Product, Subduce, Compat, Real, Square, Tensor, Site, Check, Gen}

pub data Question : Type 0 where
  star : WaveVector → Question
  small : WaveVector → Question
  full : WaveVector → Question
  product : WaveVector → WaveVector → Question
  subduce : WaveVector → SubContent → Question
  compat : WaveVector → List WaveVector → Question
  real : WaveVector → Question
  square : WaveVector → Question
  tensor : Form → Question
  site : Vector → WaveVector → Question
  check : ReportContent → Question
  summary : ℕ → ℕ → WaveVector → Question

abbrev pub question_of : Request → Option SubContent → Option ReportContent → ℕ → Option Question
question_of (Star k) sub report n = Some (star (wave_vector k))
question_of (Small k) sub report n = Some (small (wave_vector k))
question_of (Full k) sub report n = Some (full (wave_vector k))
question_of (Product k l) sub report n = Some (product (wave_vector k) (wave_vector l))
question_of (Subduce k) None report n = None
question_of (Subduce k) (Some S) report n = Some (subduce (wave_vector k) S)
question_of (Compat k l m) sub report n = Some (compat (wave_vector k) (map wave_vector (other_points l m)))
question_of (Real k) sub report n = Some (real (wave_vector k))
question_of (Square k) sub report n = Some (square (wave_vector k))
question_of (Tensor f) sub report n = Some (tensor f)
question_of (Site x k) sub report n = Some (site (vector x) (wave_vector k))
question_of Check sub None n = None
question_of Check sub (Some r) n = Some (check r)
question_of (Gen number) sub report n = Some (summary number n (made_wave number))

abbrev pub IsNeededOrder : Question → (Operation → Type 0) → ℕ → ℕ → Type 0
IsNeededOrder (star k) G i n = (i ≡ 0) × IsOrder G k n
IsNeededOrder (small k) G i n = (i ≡ 0) × IsOrder G k n
IsNeededOrder (full k) G i n = (i ≡ 0) × IsOrder G k n
IsNeededOrder (product k l) G i n = ((i ≡ 0) × IsOrder G k n) ⊎ ((i ≡ 1) × IsPairOrder G k l n)
IsNeededOrder (subduce k S) G i n = (i ≡ 0) × GivesSubgroup G S × IsOrder G k n
IsNeededOrder (compat k others) G i n = (i ≤ length others) × IsLineOrder G (point_of i k others) n
IsNeededOrder (real k) G i n = (i ≡ 0) × IsOrder G k n
IsNeededOrder (square k) G i n = (i ≡ 0) × IsOrder G k n
IsNeededOrder (tensor f) G i n = (i ≡ 0) × IsOrder G origin n
IsNeededOrder (site x k) G i n = (i ≡ 0) × IsOrder G k n
IsNeededOrder (check r) G i n = (i ≡ 0) × IsOrder G r.wave n
IsNeededOrder (summary number lines k) G i n = (i ≡ 0) × IsOrder G k n
