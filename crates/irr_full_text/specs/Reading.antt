-- What the values of the program stand for.
--   Reading full             a star, a small representation and the full one that it induces, for which a value stands
--   ArePrintable group ops   operations of the group with small vectors
--   Readings order ops gens fulls   such for each of a list, with the lines that are printed of it
--   IsPieceOf M D i b B      B is the block in row i of the column of blocks of which b tells
--   Piece .. i b             such a block of a small family
--   BlockRows .. bs          all blocks, in rows and columns, of a small family
use Rattle.std.specs.Prelude.{ℕ, suc, ◌≡◌, ◌<◌, List, length, slice_index_or}
use Rattle.std.specs.List.{All}
use Rattle.std.specs.Int.{◌∣◌}
use Rattle.irr_algebra.specs.Fin.{Fin, to_nat}
use Rattle.irr_algebra.specs.Matrix.{Matrix, scale, null}
use Rattle.irr_algebra.specs.Pair.{times}
use Rattle.irr_number.specs.Number.{numbers, root_power}
use Rattle.irr_theory.specs.FactorSystem.{Representation}
use Rattle.irr_space.specs.Operation.{Operation, WaveVector}
use Rattle.irr_space.specs.PhaseTable.{phases_over}
use Rattle.irr_seitz.specs.OperationMeaning.{operation}
use Rattle.irr_seitz.specs.PhaseMeaning.{sign_of}
use Rattle.irr_seitz.specs.declared.op.Op.{Op}
use Rattle.irr_cyc.specs.declared.scalars.Scalar.{Ghosts}
use Rattle.irr_rep.specs.declared.family.Family.{Family}
use Rattle.irr_close.specs.StandsFor.{stands_for}
use Rattle.irr_close.specs.declared.group.Group.{Group}
use Rattle.irr_full.specs.Star.{Star}
use Rattle.irr_full.specs.Full.{IsFullOf}
use Rattle.irr_star.specs.Sizes.{IsSmallFamily, HasSmallVector}
use Rattle.irr_star.specs.Induced.{IsInduced}
use Rattle.irr_star.specs.declared.full.Full.{Full}
use Rattle.irr_star.specs.declared.lists.Block.{Block}
use Rattle.irr_full_text.specs.Lines.{representation_text}

pub record Reading {X : Type 0} {V : Ghosts X} (full : Full X V) : Type 0 where
  pub group : Group
  pub wave : WaveVector
  pub star : Star (sign_of group.phase) (stands_for group) wave
  pub number : ℕ
  pub divides : star.table.order ∣ number
  pub size : ℕ
  pub small : Representation (phases_over star.table number divides) size
  pub induced : IsInduced group star number divides small full
  pub matrix : Operation → Matrix (numbers number) (times star.arms size) (times star.arms size)
  pub is_full : IsFullOf star number divides small matrix

abbrev pub IsPrintable : Group → Op → Type 0
IsPrintable group g = stands_for group (operation g) × HasSmallVector g

abbrev pub ArePrintable : Group → List Op → Type 0
ArePrintable group ops = All (IsPrintable group) ops

pub record Readings {X : Type 0} {V : Ghosts X} (order : ℕ) (ops gens : List Op)
    (fulls : List (Full X V)) : Type 0 where
  pub count : ℕ
  pub is_count : length fulls ≡ count
  pub reading : (m : Fin count) (f : Full X V) → Reading (slice_index_or fulls (to_nat m) f)
  pub is_order : (m : Fin count) (f : Full X V) → order ≡ (slice_index_or fulls (to_nat m) f).order.n
  pub operations : (m : Fin count) (f : Full X V) → ArePrintable (slice_index_or fulls (to_nat m) f).group ops
  pub generators : (m : Fin count) (f : Full X V) → ArePrintable (slice_index_or fulls (to_nat m) f).group gens
  pub text : Fin count → List ℕ
  pub is_text : (m : Fin count) (f : Full X V) → text m
      ≡ representation_text (reading m f).number (reading m f).matrix ops gens (suc (to_nat m))

-- z^x D(p) in the row that b names, and 0 in the others
pub record IsPieceOf (M : ℕ) {h d : ℕ} (D : Fin h → Matrix (numbers M) d d) (i : ℕ) (b : Block)
    (B : Matrix (numbers M) d d) : Type 0 where
  pub place : Fin h
  pub number : to_nat place ≡ b.place
  pub below : b.exponent < M
  pub here : b.row ≡ i → B ≡ scale (numbers M) (root_power M b.exponent) (D place)
  pub elsewhere : ¬ (b.row ≡ i) → B ≡ null

pub record Piece {X : Type 0} {V : Ghosts X} (order : ℕ) (family : Family X V) (i : ℕ) (b : Block) : Type 0 where
  pub number : ℕ
  pub is_order : order ≡ number
  pub places : ℕ
  pub size : ℕ
  pub small : Fin places → Matrix (numbers number) size size
  pub is_small : IsSmallFamily number small family
  pub matrix : Matrix (numbers number) size size
  pub is_piece : IsPieceOf number small i b matrix

pub record BlockRows {X : Type 0} {V : Ghosts X} (order : ℕ) (family : Family X V) (bs : List Block) : Type 0 where
  pub number : ℕ
  pub is_order : order ≡ number
  pub places : ℕ
  pub size : ℕ
  pub small : Fin places → Matrix (numbers number) size size
  pub is_small : IsSmallFamily number small family
  pub arms : ℕ
  pub count : length bs ≡ arms
  pub block : Fin arms → Fin arms → Matrix (numbers number) size size
  pub are_pieces : (i j : Fin arms) (b : Block) → IsPieceOf number small (to_nat i) (slice_index_or bs (to_nat j) b)
      (block i j)
