-- The text of squares.
--   SquareContent               what stands in it: a wave vector, an order, and the entries of labels
--   square_lines                the lines of an entry
--   square_text n s c           the text in version n, with the sign s of the phase
--   IsSquareContent s G k c     the squares of the full representations at k
use Rattle.std.specs.Prelude.{ℕ, List, ◌++◌, codes}
use Rattle.std.specs.List.{flat_map}
use Rattle.std.specs.Fmt.{decimal}
use Rattle.irr_space.specs.Operation.{Operation, WaveVector}
use Rattle.irr_space.specs.Reciprocal.{Sign, IsOrder, IsReduced}
use Rattle.irr_text.specs.WaveText.{wave_text}
use Rattle.irr_text.specs.ReportText.{line, next_word}
use Rattle.irr_heading.specs.Heading.{heading}
use Rattle.irr_product.specs.ProductText.{label_word, part_line}
use Rattle.irr_power.specs.Squares.{AreSquares, SquareEntry}

pub record SquareContent : Type 0 where
  pub wave : WaveVector
  pub order : ℕ
  pub squares : List SquareEntry

abbrev pub square_lines : SquareEntry → List ℕ
square_lines p = line (codes "sym" ++ label_word p.label ++ next_word (codes "dim") ++ next_word (decimal p.symmetric_size))
    ++ flat_map part_line p.symmetric
    ++ line (codes "anti" ++ label_word p.label ++ next_word (codes "dim") ++ next_word (decimal p.antisymmetric_size))
    ++ flat_map part_line p.antisymmetric

abbrev pub square_text : ℕ → Sign → SquareContent → List ℕ
square_text n s c = heading (codes "square") n s
    ++ line (codes "order" ++ next_word (decimal c.order))
    ++ line (codes "wave" ++ next_word (wave_text c.wave))
    ++ flat_map square_lines c.squares
    ++ line (codes "end")

pub record IsSquareContent (s : Sign) (G : Operation → Type 0) (k : WaveVector) (c : SquareContent) : Type 0 where
  pub wave : IsReduced G k c.wave
  pub is_order : IsOrder G c.wave c.order
  pub squares : AreSquares s G c.wave c.order c.squares
