-- The text of a star (a form of this project's own): the arms of the star of a wave vector, its little group and the factor system.
--   StarContent             a wave vector, an order, arms with the operations that carry to them, operations, and for each two of these
--                           the number of their product and the exponent of its phase
--   star_text c             its text
--   star_content            the content with the products and the exponents of a table of phases
--   IsStarOf s G k c        the star of k in the group G: the reduced wave vector, the order, the arms, each with the first canonical
--                           operation that carries k to it, the canonical operations of the little group, and their table of phases
use Rattle.std.specs.Prelude.{ℕ, ◌≡◌, List, ◌∷◌, ◌++◌, codes}
use Rattle.std.specs.Fmt.{decimal}
use Rattle.irr_algebra.specs.Fin.{Fin}
use Rattle.irr_space.specs.Operation.{Operation, WaveVector}
use Rattle.irr_space.specs.Reciprocal.{Sign, IsReduced}
use Rattle.irr_space.specs.CanonicalOperation.{IsNumbering}
use Rattle.irr_space.specs.Star.{IsInLittleGroup, IsArms}
use Rattle.irr_space.specs.PhaseTable.{PhaseTable, IsTableOf}
use Rattle.irr_text.specs.WaveText.{wave_text}
use Rattle.irr_text.specs.TripletText.{triplet_text}
use Rattle.irr_text.specs.ReportText.{pieces, line, place_text, next_word}

pub record StarContent : Type 0 where
  pub wave : WaveVector
  pub order : ℕ
  pub arms : ℕ
  pub arm : Fin arms → WaveVector
  pub carrier : Fin arms → Operation
  pub places : ℕ
  pub operation : Fin places → Operation
  pub product : Fin places → Fin places → Fin places
  pub exponent : Fin places → Fin places → ℕ

unfoldable pub arm_line : {n : ℕ} → Fin n → WaveVector → Operation → List ℕ
arm_line i wave carrier = line (codes "arm" ++ next_word (place_text i) ++ next_word (wave_text wave) ++ next_word (triplet_text carrier))

unfoldable pub little_line : {n : ℕ} → Fin n → Operation → List ℕ
little_line i g = line (codes "op" ++ next_word (place_text i) ++ next_word (triplet_text g))

-- the number of a product, and the exponent of its phase
unfoldable pub factor_word : {n : ℕ} → Fin n → ℕ → List ℕ
factor_word l x = next_word (place_text l ++ 58 ∷ decimal x)

unfoldable pub factor_line : {n : ℕ} (product : Fin n → Fin n → Fin n) (exponent : Fin n → Fin n → ℕ) → Fin n → List ℕ
factor_line {n} product exponent i = line (codes "factor" ++ next_word (place_text i) ++ pieces n (λ j. factor_word (product i j) (exponent i j)))

unfoldable pub star_text : StarContent → List ℕ
star_text c = line (codes "star 1")
    ++ line (codes "wave" ++ next_word (wave_text c.wave))
    ++ line (codes "order" ++ next_word (decimal c.order))
    ++ line (codes "arms" ++ next_word (decimal c.arms))
    ++ pieces c.arms (λ i. arm_line i (c.arm i) (c.carrier i))
    ++ line (codes "ops" ++ next_word (decimal c.places))
    ++ pieces c.places (λ i. little_line i (c.operation i))
    ++ pieces c.places (λ i. factor_line c.product c.exponent i)
    ++ line (codes "end")

abbrev pub star_content : WaveVector → {a : ℕ} (arm : Fin a → WaveVector) (carrier : Fin a → Operation)
    {h : ℕ} (ops : Fin h → Operation) (T : PhaseTable h) → StarContent
star_content wave {a} arm carrier {h} ops T = record {
  wave = wave;
  order = T.order;
  arms = a;
  arm = arm;
  carrier = carrier;
  places = h;
  operation = ops;
  product = T.product;
  exponent = T.exponent;
}

pub record IsStarOf (s : Sign) (G : Operation → Type 0) (k : WaveVector) (c : StarContent) : Type 0 where
  pub wave : WaveVector
  pub reduced : IsReduced G k wave
  -- the canonical operations of G
  pub count : ℕ
  pub canonical : Fin count → Operation
  pub canonical_numbering : IsNumbering G (λ _. Unit {0}) canonical
  pub arms : ℕ
  pub arm : Fin arms → WaveVector
  pub number : Fin arms → Fin count
  pub are_arms : IsArms G k canonical arm number
  -- those of the little group
  pub places : ℕ
  pub operation : Fin places → Operation
  pub numbering : IsNumbering G (IsInLittleGroup G k) operation
  pub table : PhaseTable places
  pub is_table : IsTableOf s G k operation table
  pub content : c ≡ star_content wave arm (λ i. canonical (number i)) operation table
