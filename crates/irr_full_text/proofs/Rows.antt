-- The blocks of a full representation as the rows that are printed.
--   piece_at, block_piece     one block of the rows of blocks
--   blocks_of                 the rows of blocks at an operation
use Rattle.std.proofs.Common.{◌≡◌, sym, ◌∙◌, ap, subst, ℕ, List, get_or}
use Rattle.irr_algebra.specs.Fin.{Fin, to_nat}
use Rattle.irr_algebra.specs.Matrix.{scale}
use Rattle.irr_algebra.proofs.Indices.{to_nat_inj}
use Rattle.irr_number.specs.Number.{numbers, root_power}
use Rattle.irr_seitz.specs.OperationMeaning.{operation}
use Rattle.irr_seitz.specs.declared.op.Op.{Op}
use Rattle.irr_cyc.specs.declared.scalars.Scalar.{Ghosts}
use Rattle.irr_rep.specs.declared.family.Family.{Family}
use Rattle.irr_close.specs.StandsFor.{stands_for}
use Rattle.irr_close.proofs.SpaceGroups.{space_group}
use Rattle.irr_little.proofs.Spaces.{has_canonical}
use Rattle.irr_full.specs.Full.{block}
use Rattle.irr_star.specs.Blocks.{AreBlocksAt}
use Rattle.irr_star.specs.declared.full.Full.{Full}
use Rattle.irr_star.specs.declared.lists.Block.{Block}
use Rattle.irr_star.proofs.BlockLaws.{block_here, block_else}
use Rattle.irr_star.proofs.MemberSizes.{same_member}
use Rattle.irr_full_text.specs.Reading.{Reading, IsPrintable, IsPieceOf, Piece, BlockRows}

pub is_piece_at : {X : Type 0} {V : Ghosts X} {order : ℕ} {family : Family X V} {bs : List Block}
    (e : BlockRows order family bs) (p j : Fin e.arms)
    (b : Block) (i k : ℕ) → to_nat p ≡ i → to_nat j ≡ k → IsPieceOf e.number e.small i (get_or bs k b) (e.block p j)
is_piece_at {bs = bs} e p j b i k ei ek = subst (λ n. IsPieceOf e.number e.small i (get_or bs n b) (e.block p j)) ek
    (subst (λ n. IsPieceOf e.number e.small n (get_or bs (to_nat j) b) (e.block p j)) ei (e.are_pieces p j b))

-- what stands past the end of a list
abbrev pub no_block : Block
no_block = record { row = 0; place = 0; exponent = 0 }

-- the block in the column k of the row i
abbrev pub piece_at : {X : Type 0} {V : Ghosts X} {order : ℕ} {family : Family X V} {bs : List Block}
    (e : BlockRows order family bs) (p j : Fin e.arms)
    (i k : ℕ) → to_nat p ≡ i → to_nat j ≡ k → Piece order family i (get_or bs k no_block)
piece_at e p j i k ei ek = record {
  number = e.number;
  is_order = e.is_order;
  places = e.places;
  size = e.size;
  small = e.small;
  is_small = e.is_small;
  matrix = e.block p j;
  is_piece = is_piece_at e p j no_block i k ei ek;
}

module _ {X : Type 0} {V : Ghosts X} (full : Full X V) (e : Reading full) (op : Op) (p : IsPrintable full.group op)
    (bs : List Block)
    (are : AreBlocksAt e.star e.number (operation op) bs) where
  is_member : stands_for e.group (operation op)
  is_member = same_member e.group full.group e.induced.same (operation op) p.0

  pub block_piece : (i j : Fin e.star.arms) (b : Block)
      → IsPieceOf e.number e.small.at (to_nat i) (get_or bs (to_nat j) b) (block e.size (e.matrix (operation op)) i j)
  block_piece i j b =
      let G = stands_for e.group in
      let group = (space_group e.group).is_group in
      let chosen = has_canonical e.group in
      let c = get_or bs (to_nat j) b in
      let at = are.each j b in
      record {
        place = at.inner;
        number = at.inner-number;
        below = at.is_phase.below;
        here = λ row. subst (λ x. block e.size (e.matrix (operation op)) x j ≡ scale (numbers e.number)
            (root_power e.number c.exponent) (e.small.at at.inner))
            (to_nat_inj at.to i (at.row-number ∙ row))
            (block_here G group chosen e.star e.number e.divides e.small e.matrix e.is_full (operation op) is_member j
            c at);
        elsewhere = λ other. block_else G group chosen e.star e.number e.divides e.small e.matrix e.is_full
            (operation op) is_member j c at i
            (λ same. other (sym at.row-number ∙ ap to_nat (sym same)));
      }

  abbrev pub blocks_of : (order : ℕ) → order ≡ full.order.n → BlockRows order full.family bs
  blocks_of order o = record {
    number = e.number;
    is_order = o ∙ e.induced.order;
    places = e.star.places;
    size = e.size;
    small = e.small.at;
    is_small = e.induced.family;
    arms = e.star.arms;
    count = are.count;
    block = λ i j. block e.size (e.matrix (operation op)) i j;
    are_pieces = block_piece;
  }
