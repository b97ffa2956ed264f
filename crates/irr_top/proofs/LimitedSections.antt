-- The section of an input that was read.
--   limited_section     it is within the limits of the calls that take it
--   small_generators, unimodular_generators, few_generators     so are the operations on its lines
use Rattle.std.proofs.Common.{◌≡◌, sym, ◌∙◌, ap, subst, ℕ, ◌<◌, ◌≤◌, ◌^◌, Option, None, Some, List, length, unsigned_abs, arith}
use Rattle.std.specs.Prelude.{IfSome}
use Rattle.std.specs.List.{All}
use Rattle.std.proofs.lemmas.List.{length-map}
use Rattle.std.proofs.lemmas.List.Elements.{All-map}
use Rattle.irr_space.specs.Operation.{component}
use Rattle.irr_rat.proofs.Vectors.{component-vector_of}
use Rattle.irr_seitz.specs.OperationMeaning.{operation}
use Rattle.irr_seitz.specs.Rotation.{determinant}
use Rattle.irr_seitz.specs.declared.op.Op.{Op}
use Rattle.irr_triplet.specs.Readable.{IsReadable}
use Rattle.irr_setting.specs.Setting.{IsSmall, IsSmallSetting}
use Rattle.irr_input.specs.declared.input.GenLine.{GenLine}
use Rattle.irr_input.specs.declared.input.SubSpec.{SubSpec}
use Rattle.irr_top.specs.Asked.{input_limit, operations_of}
use Rattle.irr_top.specs.Sections.{IsLimitedSection}
use Rattle.irr_top.proofs.Numerators.{readable_unimodular, small_denominator, small_numbers}

few : (m n : ℕ) → n ≤ input_limit → m ≤ n → m < 2 ^ 32
few m n l h = omega (arith, l, h)

pub limited_section : (sub : Option SubSpec) (n : ℕ) → n ≤ input_limit → IfSome sub (λ s. IsSmallSetting s.setting)
    → IfSome sub (λ s. All (λ g. IsReadable (operation g.op)) s.gens.items) → IfSome sub (λ s. length s.gens.items ≤ n)
    → IfSome sub IsLimitedSection
limited_section None n l setting readable lines = tt
limited_section (Some s) n l setting readable lines = record {
  setting = setting;
  readable = readable;
  few = few (length s.gens.items) n l lines;
}

small_generator : (g : Op) → IsReadable (operation g) → IsSmall g
small_generator g h = record {
  within = h.coefficients;
  numerators = small_numbers g.num g.den (component (operation g).vector) g.lowest (component-vector_of g.num g.den) h.numerators h.num h.den
      h.lowest h.are h.denominator;
  denominator = small_denominator g.num g.den (component (operation g).vector) g.lowest (component-vector_of g.num g.den) h.numerators h.num h.den
      h.lowest h.are h.denominator;
}

readable_lines : (lines : List GenLine) → All (λ g. IsReadable (operation g.op)) lines → All (λ g. IsReadable (operation g)) (operations_of lines)
readable_lines lines h = All-map (λ g. IsReadable (operation g)) (λ (g : GenLine). g.op) lines h

pub small_generators : (lines : List GenLine) (gens : List Op) → gens ≡ operations_of lines → All (λ g. IsReadable (operation g.op)) lines
    → All IsSmall gens
small_generators lines gens e h = subst (All IsSmall) (sym e) (λ k d l. small_generator _ (readable_lines lines h k d l))

pub unimodular_generators : (lines : List GenLine) (gens : List Op) → gens ≡ operations_of lines → All (λ g. IsReadable (operation g.op)) lines
    → All (λ s. unsigned_abs (determinant (operation s).rotation) ≡ 1) gens
unimodular_generators lines gens e h = subst (All (λ (s : Op). unsigned_abs (determinant (operation s).rotation) ≡ 1)) (sym e)
    (readable_unimodular (operations_of lines) (readable_lines lines h))

pub few_generators : (lines : List GenLine) (gens : List Op) → gens ≡ operations_of lines → length lines < 2 ^ 32 → length gens < 2 ^ 32
few_generators lines gens e l = subst (λ n. n < 2 ^ 32) (sym (ap length e ∙ length-map lines (λ (g : GenLine). g.op))) l
