-- The report of a list of small representations is within the limits of reports.
--   small_over            a number of a family, as a number of the report
--   modest_list           the counts of the report and its numbers are small
use Rattle.std.proofs.Common.{sym, subst, ℕ, ◌<◌, ◌≤◌, List, length, get_or, arith}
use Rattle.std.specs.List.{All}
use Rattle.std.proofs.lemmas.Nat.Gcd.{le_of_dvd}
use Rattle.irr_algebra.specs.Fin.{Fin, to_nat}
use Rattle.irr_algebra.specs.Matrix.{trace}
use Rattle.irr_algebra.proofs.Indices.{to_nat-lt}
use Rattle.irr_number.specs.Number.{Number}
use Rattle.irr_space.specs.Operation.{Operation, WaveVector}
use Rattle.irr_space.specs.PhaseTable.{PhaseTable, phases_at}
use Rattle.irr_space.specs.CompleteList.{row}
use Rattle.irr_text.specs.ReportText.{list_report}
use Rattle.irr_cyc.specs.declared.orders.TheConstants.{ORDER_LIMIT}
use Rattle.irr_cyc.specs.declared.scalars.Scalar.{Ghosts}
use Rattle.irr_rep.specs.declared.family.Family.{Family}
use Rattle.irr_rep.specs.Family.{matrix_at}
use Rattle.irr_climb.specs.Families.{IsRead}
use Rattle.irr_climb.specs.Lists.{IsSmallList}
use Rattle.irr_climb.specs.Sizes.{HasSmallNumbers, IsSmallNumber}
use Rattle.irr_climb.proofs.ClimbedLevel.{few_members}
use Rattle.irr_report.specs.ReportLimits.{count_limit}
use Rattle.irr_report.specs.ModestReport.{IsSmallOver, AreSmallTogether, IsModest}
use Rattle.irr_top.proofs.Members.{some_item}

small_over : (n e : ℕ) (x : Number n) → IsSmallNumber n e x → IsSmallOver n e x
small_over n e x h = record { divides = h.divides; size_over = h.size_over }

module _ {S : Type 0} {G : Ghosts S} {h : ℕ} (wave : WaveVector) (ops : Fin h → Operation) (T : PhaseTable h) (fs : List (Family S G))
    (s : IsSmallList T fs) (numbers : All (HasSmallNumbers T.order h) fs) where
  module _ (m : Fin s.list.count) where
    inside : to_nat m < length fs
    inside = subst (λ n. to_nat m < n) (sym s.read.count) (to_nat-lt m)

    other : Family S G
    other = some_item fs (to_nat m) inside

    abbrev family : Family S G
    family = get_or fs (to_nat m) other

    is_read : IsRead T.order (phases_at T) (s.list.member m) family
    is_read = s.read.read m other

    small : HasSmallNumbers T.order h family
    small = numbers (to_nat m) other inside

    size_within : s.list.size m ≤ h
    size_within = subst (λ d. d ≤ h) is_read.size (le_of_dvd some_places (s.sized (to_nat m) other inside).sharp.divides)
      where
        some_places : 0 < h
        some_places = let l = to_nat-lt T.start in omega arith

    trace_small : (i : Fin h) → IsSmallOver T.order small.common (row T (s.list.member m) i)
    unfolding row
    trace_small i = small_over T.order small.common (trace ((s.list.member m).at i))
        (subst (λ a. IsSmallNumber T.order small.common (trace a)) (is_read.matrices i)
        (subst (λ d. IsSmallNumber T.order small.common (trace (matrix_at T.order d family.mats.items i))) is_read.size (small.traces i)))

    entry_small : (i : Fin h) (a b : Fin (s.list.size m)) → IsSmallOver T.order small.common (((s.list.member m).at i).at a b)
    entry_small i a b = small_over T.order small.common (((s.list.member m).at i).at a b)
        (subst (λ x. IsSmallNumber T.order small.common (x.at a b)) (is_read.matrices i)
        (subst (λ d. (j k : Fin d) → IsSmallNumber T.order small.common ((matrix_at T.order d family.mats.items i).at j k)) is_read.size (small.entries i) a b))

    numbers_small : AreSmallTogether (list_report wave ops T s.list) m
    numbers_small = record { common = small.common; positive = small.positive; small = small.small; characters = trace_small; entries = entry_small }

  few : s.list.count ≤ h
  few = few_members s.list (record { positive = s.complete.positive; simple = s.simple; inequivalent = s.complete.inequivalent; squares = s.squares })

  pub modest_list : h ≤ count_limit → T.order ≤ ORDER_LIMIT → IsModest (list_report wave ops T s.list)
  modest_list places within = record {
    order = T.order_positive;
    order_within = within;
    places_within = places;
    count_within = (let l : s.list.count ≤ h = few in omega arith);
    sizes_within = λ m. (let l : s.list.size m ≤ h = size_within m in omega arith);
    numbers = numbers_small;
  }
