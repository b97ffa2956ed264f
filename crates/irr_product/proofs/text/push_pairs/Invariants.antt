-- The lines so far.
use Rattle.std.proofs.Common.{◌≡◌, ◌++◌, map, take}
use Rattle.std.specs.List.{flat_map}
use Rattle.irr_product.specs.Products.{pair_content}
use Rattle.irr_product.specs.ProductText.{pair_lines}
use Rattle.irr_product.proofs.text.push_pairs.Given as goal

abbrev pub invariant-loop-pair : goal.invariant-loop-pair
invariant-loop-pair l = l.text.items ≡ l.fn.text.items ++ flat_map pair_lines (map pair_content (take l.pair-index l.pairs))
