-- An extension from its traces.
--   few_members              the members of a step on at most 48 places
--   has_extension            the extension of a family with given traces
use Rattle.std.specs.Prelude.{ℕ, ◌≤◌, ◌*◌, List}
use Rattle.std.proofs.Common.{sym, ◌∙◌, arith}
use native.Mathlib.Nat as Nat
use Rattle.irr_algebra.specs.Fin.{Fin}
use Rattle.irr_number.specs.Number.{Number}
use Rattle.irr_theory.specs.FactorSystem.{Representation}
use Rattle.irr_clifford.specs.FromTraces.{AreExtensionTraces}
use Rattle.irr_cyc.specs.declared.scalars.Scalar.{Ghosts}
use Rattle.irr_rep.specs.declared.family.Family.{Family}
use Rattle.irr_rep.specs.Twisted.{place_count}
use Rattle.irr_char.specs.Characters.{IsRowOf}
use Rattle.irr_climb.specs.declared.step.Step.{Step}
use Rattle.irr_climb.specs.Extensions.{HasExtension}
use Rattle.irr_climb.specs.Steps.{IsFixedFamily, IsStep, small}
use Rattle.irr_climb.proofs.ExtensionFits.{le_four}
use Rattle.irr_climb.proofs.ExtensionTerms.{twice_members}

pub few_members : {M : ℕ} {step : Step} (is : IsStep M step) → place_count step.outer ≤ 48 → place_count step.inner ≤ 24
few_members is few = let l = twice_members is in omega (arith, l, few)

pub few_rows : (d h : ℕ) → d * d ≤ h → h ≤ 24 → d ≤ 48
few_rows d h l few = let k = le_four d (Nat.le_trans l few) in omega (arith, k)

abbrev pub has_extension : {S : Type 0} {G : Ghosts S} {M : ℕ} {step : Step} (is : IsStep M step) {d : ℕ} (D : Representation (small is) d)
    (f : Family S G)
    (traces : List S) → place_count step.outer ≤ 48 → IsFixedFamily is D f → (t : Fin (place_count step.inner) → Number M)
    → AreExtensionTraces is.quotient D t → IsRowOf G.order_of G.value M t traces → HasExtension M step f traces
has_extension {step = step} is {d = d} D f traces few fixed t a row = record {
  is = is;
  d = d;
  D = D;
  E = a.family;
  fixed = fixed;
  few_members = few_members is few;
  at-member = a.at-member;
  has_traces = record {
    few = few_rows d (place_count step.inner) fixed.few (few_members is few);
    row = record { count = row.count; orders = row.orders; numbers_at = λ n. row.numbers_at n ∙ sym (a.trace-coset n) };
  };
}
