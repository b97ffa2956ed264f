-- The parts of a representation on one star, in the program.
--   part_of p                      the part that the program's value stands for
--   IsCharacterOf .. T M v D x     x has the size and, over the numbers of order M, the character of the small representation D
--   HasCharacters .. M c           c has the characters of a list of small representations on its table
--   IsPartRow h traces             the traces are the character of a small representation of at most 2304 rows
--   listed_part h mult m           the part of the member m, which stands mult m times
--   ArePushed .. c traces old new  behind the parts `old` come those of the members that stand in the representation with
--                                  these traces, by label
use Rattle.std.specs.Prelude.{ℕ, suc, ◌≡◌, ◌<◌, ◌≤◌, ◌++◌, List, length, map, slice_index_or}
use Rattle.std.specs.Int.{◌∣◌}
use Rattle.irr_algebra.specs.Fin.{Fin, to_nat}
use Rattle.irr_algebra.specs.Matrix.{trace}
use Rattle.irr_algebra.specs.Pair.{times}
use Rattle.irr_algebra.specs.Action.{HasDimension}
use Rattle.irr_number.specs.Number.{Number}
use Rattle.irr_theory.specs.FactorSystem.{Representation}
use Rattle.irr_theory.specs.Representations.{Representations}
use Rattle.irr_space.specs.PhaseTable.{PhaseTable, phases_at, phases_over}
use Rattle.irr_space.specs.CompleteList.{over}
use Rattle.irr_rep.specs.Twisted.{phase_table}
use Rattle.irr_kvec.specs.WaveMeaning.{wave_vector}
use Rattle.irr_char.specs.Characters.{IsRowOf}
use Rattle.irr_full.specs.Parts.{Part as FullPart}
use Rattle.irr_mult.specs.declared.part.Part.{Part}
use Rattle.irr_mult.specs.declared.star.SmallCharacter.{SmallCharacter}
use Rattle.irr_mult.specs.declared.star.StarCharacters.{StarCharacters}
use Rattle.irr_mult.specs.Listing.{IsListing}

abbrev pub part_of : Part → FullPart
part_of p = record { wave = wave_vector p.wave; label = p.label; mult = p.mult; dim = p.dim }

pub record IsCharacterOf {S : Type 0} (order : S → ℕ) (value : (n : ℕ) → S → Number n) {h : ℕ} (T : PhaseTable h)
    (M : ℕ) (v : T.order ∣ M)
    {d : ℕ} (D : Representation (phases_at T) d) (x : SmallCharacter S) : Type 0 where
  pub size : x.dim ≡ d
  pub row : IsRowOf {h = h} order value M (λ i. trace ((over T M v D).at i)) x.row.items

pub record HasCharacters {S : Type 0} (order : S → ℕ) (value : (n : ℕ) → S → Number n) (M : ℕ)
    (c : StarCharacters S) : Type 0 where
  pub positive : 0 < M
  pub divides : (phase_table c.table).order ∣ M
  pub list : Representations (phases_at (phase_table c.table))
  pub few : list.count ≤ 48
  pub small : (m : Fin list.count) → list.size m ≤ 48
  pub few_arms : c.arms ≤ 48
  pub count : length c.characters.items ≡ list.count
  pub character : (m : Fin list.count) (e : SmallCharacter S)
      → IsCharacterOf order value (phase_table c.table) M divides (list.member m)
      (slice_index_or c.characters.items (to_nat m) e)

pub record IsPartRow {S : Type 0} {order : S → ℕ} {value : (n : ℕ) → S → Number n} {M : ℕ} {c : StarCharacters S}
    (h : HasCharacters order value M c) (traces : List S) : Type 0 where
  pub count : ℕ
  pub few : count ≤ 2304
  pub part : Representation (phases_over (phase_table c.table) M h.divides) count
  pub row : IsRowOf order value M (λ i. trace (part.at i)) traces

-- labels count from 1; the size is that of the full representation
abbrev pub listed_part : {S : Type 0} {order : S → ℕ} {value : (n : ℕ) → S → Number n} {M : ℕ} {c : StarCharacters S}
    (h : HasCharacters order value M c)
    (mult : Fin h.list.count → ℕ) → Fin h.list.count → FullPart
listed_part {c = c} h mult m = record {
  wave = wave_vector c.wave;
  label = suc (to_nat m);
  mult = mult m;
  dim = times c.arms (h.list.size m);
}

-- mult m is the dimension of the space of intertwiners from the member m to the part
abbrev pub ArePushed : {S : Type 0} (order : S → ℕ) (value : (n : ℕ) → S → Number n) (c : StarCharacters S) → List S
    → List Part → List Part → Type 0
ArePushed order value c traces old new = (M : ℕ) (h : HasCharacters order value M c) (r : IsPartRow h traces)
    (mult : Fin h.list.count → ℕ)
    → ((m : Fin h.list.count) → HasDimension (over (phase_table c.table) M h.divides (h.list.member m)).at r.part.at
    (mult m))
    → (pushed : List Part) × (new ≡ old ++ pushed)
    × IsListing (listed_part h mult) (λ m. 0 < mult m) (λ m n. to_nat m < to_nat n) (map part_of pushed)
