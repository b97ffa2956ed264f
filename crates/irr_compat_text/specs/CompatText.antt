-- The text of compatibility relations (a form of this project's own): the points, the operations of the line group, its small
-- representations with their characters, and for each small representation at each point those on the line that stand in it.
--   CompatContent            what stands in one: an order, points, operations, representations of the line, and how often each of
--                            them stands in each representation at each point
--   compat_text n s c        its text, for the version n and the sign s of the phase
--   compat_content r         the content of relations
--   IsCompatContent s G point c    the relations of the points in the group G
use Rattle.std.specs.Prelude.{ℕ, zero, suc, ◌≡◌, List, [], ◌∷◌, ◌++◌, codes}
use Rattle.std.specs.Fmt.{decimal}
use Rattle.irr_algebra.specs.Fin.{Fin, to_nat}
use Rattle.irr_algebra.specs.Matrix.{trace}
use Rattle.irr_number.specs.Number.{Number}
use Rattle.irr_space.specs.Operation.{Operation, WaveVector}
use Rattle.irr_space.specs.Reciprocal.{Sign}
use Rattle.irr_space.specs.PhaseTable.{PhaseTable}
use Rattle.irr_text.specs.NumberText.{number_text}
use Rattle.irr_text.specs.WaveText.{wave_text}
use Rattle.irr_text.specs.ReportText.{pieces, line, place_text, next_word}
use Rattle.irr_text.specs.StarText.{little_line}
use Rattle.irr_heading.specs.Heading.{heading}
use Rattle.irr_compat.specs.Relations.{LineRelations}

pub record CompatContent : Type 0 where
  pub order : ℕ
  pub points : ℕ
  pub point : Fin points → WaveVector
  pub places : ℕ
  pub operation : Fin places → Operation
  -- on the line
  pub count : ℕ
  pub size : Fin count → ℕ
  pub character : Fin count → Fin places → Number order
  -- at each point
  pub members : Fin points → ℕ
  pub dim : (i : Fin points) → Fin (members i) → ℕ
  pub mult : (i : Fin points) → Fin (members i) → Fin count → ℕ

-- points count from 0
unfoldable pub point_line : {n : ℕ} → Fin n → WaveVector → List ℕ
point_line i k = line (codes "point" ++ next_word (decimal (to_nat i)) ++ next_word (wave_text k))

unfoldable pub member_lines : (c : CompatContent) → Fin c.count → List ℕ
member_lines c m = line (codes "rep" ++ next_word (76 ∷ place_text m) ++ next_word (codes "dim") ++ next_word (decimal (c.size m)))
    ++ line (codes "char" ++ pieces c.places (λ i. next_word (number_text c.order (c.character m i))))

-- what does not stand there has no line
unfoldable pub part_line : {n : ℕ} → Fin n → ℕ → ℕ → List ℕ
part_line j zero d = []
part_line j (suc q) d = line (codes "part" ++ next_word (76 ∷ place_text j) ++ next_word (decimal (suc q)) ++ next_word (decimal d))

unfoldable pub from_lines : (c : CompatContent) (i : Fin c.points) → Fin (c.members i) → List ℕ
from_lines c i m = line (codes "from" ++ next_word (decimal (to_nat i)) ++ next_word (83 ∷ place_text m) ++ next_word (codes "dim")
    ++ next_word (decimal (c.dim i m)))
    ++ pieces c.count (λ j. part_line j (c.mult i m j) (c.size j))

unfoldable pub compat_text : ℕ → Sign → CompatContent → List ℕ
compat_text n s c = heading (codes "compat") n s
    ++ line (codes "order" ++ next_word (decimal c.order))
    ++ pieces c.points (λ i. point_line i (c.point i))
    ++ line (codes "ops" ++ next_word (decimal c.places))
    ++ pieces c.places (λ i. little_line i (c.operation i))
    ++ line (codes "reps" ++ next_word (decimal c.count))
    ++ pieces c.count (λ m. member_lines c m)
    ++ pieces c.points (λ i. pieces (c.members i) (λ m. from_lines c i m))
    ++ line (codes "end")

abbrev pub compat_content : {s : Sign} {G : Operation → Type 0} {n : ℕ} {point : Fin (suc n) → WaveVector} {h : ℕ} {T : PhaseTable h}
    → LineRelations s G point T → CompatContent
compat_content {n = n} {point = point} {h = h} {T = T} r = record {
  order = T.order;
  points = suc n;
  point = point;
  places = h;
  operation = r.operation;
  count = r.list.count;
  size = r.list.size;
  character = λ m i. trace ((r.list.member m).at i);
  members = λ i. (r.at_point i).members.count;
  dim = λ i m. (r.at_point i).members.size m;
  mult = λ i m j. (r.at_point i).mult m j;
}

pub record IsCompatContent (s : Sign) (G : Operation → Type 0) {n : ℕ} (point : Fin (suc n) → WaveVector) (c : CompatContent) : Type 0 where
  pub places : ℕ
  pub table : PhaseTable places
  pub relations : LineRelations s G point table
  pub content : c ≡ compat_content relations
