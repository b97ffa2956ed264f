-- The text of the full representations at a wave vector (a form of this project's own): the arms of its star, the
-- canonical operations of the group, generators of the group, and for each full representation its characters at the
-- operations and its matrices at the generators.
--   FullContent             what stands in one: a wave vector, an order, arms with the operations that carry to them,
--                           operations, generators, and representations of the group
--   full_text c             its text
--   AreGeneratorsOf G ops gs    gs are the unit translations, the other translations of G in the unit cell in
--                           lexicographic order, and the operations ops but the first
--   IsFullContent s G k c   the full representations at k of the group G: those that a complete list of small
--                           representations in canonical order induces, each irreducible on G over every order that the
--                           order of k divides
use Rattle.std.specs.Prelude.{ℕ, zero, suc, ◌≡◌, ◌<◌, List, [], ◌∷◌, ◌++◌, codes, drop, length, map}
use Rattle.std.specs.Int.{◌∣◌}
use Rattle.std.specs.Fmt.{decimal}
use Rattle.irr_algebra.specs.Fin.{Fin}
use Rattle.irr_algebra.specs.Fin.Fin.{first, next}
use Rattle.irr_algebra.specs.Matrix.{Matrix, column, trace, unit}
use Rattle.irr_algebra.specs.Pair.{times}
use Rattle.irr_algebra.specs.Action.{IsIrreducible}
use Rattle.irr_number.specs.Number.{numbers}
use Rattle.irr_rational.specs.Rational.{rationals}
use Rattle.irr_theory.specs.Representations.{Representations}
use Rattle.irr_space.specs.Operation.{Operation, WaveVector, translation}
use Rattle.irr_space.specs.Reciprocal.{Sign, IsReduced}
use Rattle.irr_space.specs.PhaseTable.{phases_at}
use Rattle.irr_space.specs.CompleteList.{IsCompleteList, IsInOrder, over}
use Rattle.irr_text.specs.NumberText.{number_text}
use Rattle.irr_text.specs.WaveText.{wave_text}
use Rattle.irr_text.specs.TripletText.{triplet_text}
use Rattle.irr_text.specs.ReportText.{pieces, line, place_text, next_word}
use Rattle.irr_text.specs.StarText.{arm_line, little_line}
use Rattle.irr_rat.specs.declared.vec3.Vec3.{Vec3}
use Rattle.irr_rat.specs.VectorMeaning.{vector}
use Rattle.irr_kvec.specs.Centrings.{AreCentrings}
use Rattle.irr_full.specs.GroupRepresentation.{family, raised}
use Rattle.irr_full.specs.Star.{Star, carrier}
use Rattle.irr_full.specs.Full.{IsFullOf}
use Rattle.irr_report.specs.Printed.{numbered}

pub record FullContent : Type 0 where
  pub wave : WaveVector
  pub order : ℕ
  pub arms : ℕ
  pub arm : Fin arms → WaveVector
  pub carrier : Fin arms → Operation
  pub places : ℕ
  pub operation : Fin places → Operation
  pub generators : List Operation
  pub count : ℕ
  pub size : Fin count → ℕ
  pub matrix : (m : Fin count) → Operation → Matrix (numbers order) (size m) (size m)

unfoldable pub generator_line : ℕ → Operation → List ℕ
generator_line k g = line (codes "gen" ++ next_word (decimal k) ++ next_word (triplet_text g))

-- the traces at the operations
unfoldable pub trace_line : (c : FullContent) → Fin c.count → List ℕ
trace_line c m = line (codes "char"
    ++ pieces c.places (λ i. next_word (number_text c.order (trace (c.matrix m (c.operation i))))))

-- the matrix at a generator, row by row
unfoldable pub generator_matrix : (c : FullContent) → Fin c.count → ℕ → Operation → List ℕ
generator_matrix c m k g = line (codes "mat" ++ next_word (decimal k)
    ++ pieces (c.size m) (λ a. pieces (c.size m) (λ b. next_word (number_text c.order ((c.matrix m g).at a b)))))

unfoldable pub full_lines : (c : FullContent) → Fin c.count → List ℕ
full_lines c m = line (codes "rep" ++ next_word (83 ∷ place_text m) ++ next_word (codes "dim")
    ++ next_word (decimal (c.size m)))
    ++ trace_line c m ++ numbered (generator_matrix c m) 1 c.generators

unfoldable pub full_text : FullContent → List ℕ
full_text c = line (codes "full 1")
    ++ line (codes "wave" ++ next_word (wave_text c.wave))
    ++ line (codes "order" ++ next_word (decimal c.order))
    ++ line (codes "arms" ++ next_word (decimal c.arms))
    ++ pieces c.arms (λ i. arm_line i (c.arm i) (c.carrier i))
    ++ line (codes "ops" ++ next_word (decimal c.places))
    ++ pieces c.places (λ i. little_line i (c.operation i))
    ++ line (codes "gens" ++ next_word (decimal (length c.generators)))
    ++ numbered generator_line 1 c.generators
    ++ line (codes "reps" ++ next_word (decimal c.count))
    ++ pieces c.count (λ m. full_lines c m)
    ++ line (codes "end")

abbrev pub unit_translations : List Operation
unit_translations = map (λ i. translation (column (unit rationals 3) i)) (first ∷ next first ∷ next (next first) ∷ [])

-- f at the places, in order
unfoldable pub listed : {A : Type 0} (n : ℕ) → (Fin n → A) → List A
listed zero f = []
listed (suc n) f = f first ∷ listed n (λ i. f (next i))

pub record AreGeneratorsOf (G : Operation → Type 0) {n : ℕ} (ops : Fin n → Operation)
    (gs : List Operation) : Type 0 where
  -- the translations of G in the unit cell, of which 0 is the first
  pub centrings : List Vec3
  pub are_centrings : AreCentrings G centrings
  pub are : gs ≡ unit_translations ++ map (λ c. translation (vector c)) (drop 1 centrings) ++ drop 1 (listed n ops)

abbrev pub full_content : {s : Sign} {G : Operation → Type 0} (k : WaveVector) (S : Star s G k) (gs : List Operation)
    {count : ℕ}
    (size : Fin count → ℕ) → ((m : Fin count) → Operation → Matrix (numbers S.table.order) (size m) (size m))
    → FullContent
full_content k S gs {count} size A = record {
  wave = k;
  order = S.table.order;
  arms = S.arms;
  arm = S.arm;
  carrier = λ i. carrier S i;
  places = S.count;
  operation = S.canonical;
  generators = gs;
  count = count;
  size = size;
  matrix = A;
}

pub record IsFullContent (s : Sign) (G : Operation → Type 0) (k : WaveVector) (c : FullContent) : Type 0 where
  pub wave : WaveVector
  pub reduced : IsReduced G k wave
  pub star : Star s G wave
  pub list : Representations (phases_at star.table)
  pub complete : IsCompleteList star.table list
  pub in_order : IsInOrder star.table list
  -- the full representations
  pub full : (m : Fin list.count) → Operation → Matrix (numbers star.table.order) (times star.arms (list.size m))
      (times star.arms (list.size m))
  pub is_full : (v : star.table.order ∣ star.table.order) (m : Fin list.count) → IsFullOf star star.table.order v
      (over star.table star.table.order v (list.member m)) (full m)
  pub irreducible : (K : ℕ) (v : star.table.order ∣ K) (positive : 0 < star.table.order) → 0 < K → (m : Fin list.count)
      → IsIrreducible (family G (raised star.table.order K positive v (full m)))
  pub generators : List Operation
  pub are_generators : AreGeneratorsOf G star.canonical generators
  pub content : c ≡ full_content wave star generators (λ m. times star.arms (list.size m)) full
