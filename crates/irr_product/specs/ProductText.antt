-- The text of direct products.
--   ProductContent              what stands in it: two wave vectors, an order, and the entries of pairs
--   part_line, pair_lines       the line of a part, the lines of an entry
--   product_text n s c          the text in version n, with the sign s of the phase
--   IsProductContent s G k l c  the direct products of the full representations at k and at l
use Rattle.std.specs.Prelude.{ℕ, ◌≡◌, List, ◌∷◌, ◌++◌, codes}
use Rattle.std.specs.List.{flat_map}
use Rattle.std.specs.Fmt.{decimal}
use Rattle.irr_space.specs.Operation.{Operation, WaveVector}
use Rattle.irr_space.specs.Reciprocal.{Sign, IsReduced}
use Rattle.irr_text.specs.WaveText.{wave_text}
use Rattle.irr_text.specs.ReportText.{line, next_word}
use Rattle.irr_heading.specs.Heading.{heading}
use Rattle.irr_full.specs.Parts.{Part}
use Rattle.irr_product.specs.Products.{AreProducts, IsPairOrder, PairContent}

pub record ProductContent : Type 0 where
  pub left : WaveVector
  pub right : WaveVector
  pub order : ℕ
  pub pairs : List PairContent

-- labels are printed behind an S
abbrev pub label_word : ℕ → List ℕ
label_word n = next_word (83 ∷ decimal n)

abbrev pub part_line : Part → List ℕ
part_line p = line (codes "part" ++ next_word (wave_text p.wave) ++ label_word p.label ++ next_word (decimal p.mult)
    ++ next_word (decimal p.dim))

abbrev pub pair_lines : PairContent → List ℕ
pair_lines p = line (codes "pair" ++ label_word p.first ++ label_word p.second ++ next_word (codes "dim")
    ++ next_word (decimal p.dim)) ++ flat_map part_line p.parts

abbrev pub product_text : ℕ → Sign → ProductContent → List ℕ
product_text n s c = heading (codes "product") n s
    ++ line (codes "order" ++ next_word (decimal c.order))
    ++ line (codes "waves" ++ next_word (wave_text c.left) ++ next_word (wave_text c.right))
    ++ flat_map pair_lines c.pairs
    ++ line (codes "end")

pub record IsProductContent (s : Sign) (G : Operation → Type 0) (k l : WaveVector) (c : ProductContent) : Type 0 where
  pub left : IsReduced G k c.left
  pub right : IsReduced G l c.right
  pub is_order : IsPairOrder G c.left c.right c.order
  pub products : AreProducts s G c.left c.right c.order c.pairs
