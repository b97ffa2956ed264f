-- The size of a text's terms over a multiple of their common denominator.
--   size-multiple         the size over a multiple of a denominator
--   IsOver e s text       terms spell the text, e is a denominator of each, and their size over e is s
--   printed-over          so it is for the text of a number, with s from its canonical form
use Rattle.std.proofs.Common.{◌≡◌, sym, ◌∙◌, ap, ap₂, ℕ, suc, ◌<◌, ◌≤◌, ◌+◌, ◌*◌, ◌/◌, ◌^◌, List, [], ◌∷◌, get_or, arith, All}
use Rattle.std.specs.Int.{◌∣◌}
use Rattle.std.specs.Str.Parse.{digits_value}
use Rattle.std.proofs.lemmas.List.Elements.{All-map}
use Rattle.std.proofs.lemmas.List.Sums.{sum_by-cons}
use Rattle.std.proofs.lemmas.Nat.Gcd.{dvd_trans}
use native.Mathlib.Nat as Nat
use Rattle.irr_number.specs.Number.{Number}
use Rattle.irr_canonical.specs.Coefficient.{canonical, denominator, size}
use Rattle.irr_text.specs.NumberText.{number_text}
use Rattle.irr_numeral.specs.declared.limits.TheConstants.{COEFFICIENT_LIMIT, DENOMINATOR_LIMIT}
use Rattle.irr_numeral.specs.WrittenNumber.{WrittenTerm, AreTerms, spelled}
use Rattle.irr_numeral.specs.WrittenValue.{denominator_of, numerator_over, written_size}
use Rattle.irr_numeral.proofs.PrintedTermFacts.{IsPrintedAs}
use Rattle.irr_numeral.proofs.PrintedWriting.{printed, number-spelled}
use Rattle.irr_numeral.proofs.PrintedReadings.{each-nonzero, are-printed, size-printed, nonzero-size, nonzero, as_read, facts-of}

-- the quotient of e by a divisor of its divisor d
quotients : (b d e : ℕ) → 0 < b → b ∣ d → d ∣ e → e / b ≡ (d / b) * (e / d)
quotients b d e some v w = sym (ap (λ x. x / b) back) ∙ Nat.mul-div_cancel ((d / b) * (e / d)) some
  where
    sorted : (p q b : ℕ) → (p * q) * b ≡ (b * p) * q
    sorted p q b = omega arith

    back : ((d / b) * (e / d)) * b ≡ e
    back = sorted (d / b) (e / d) b ∙ ap (λ x. x * (e / d)) (Nat.mul-div_cancel' b v) ∙ Nat.mul-div_cancel' d w

size-multiple : (d e : ℕ) (ts : List WrittenTerm) → All (λ t. 0 < denominator_of t) ts → All (λ t. denominator_of t ∣ d) ts → d ∣ e
    → written_size e ts ≡ written_size d ts * (e / d)
size-multiple d e [] some v w = sym (Nat.zero-mul (e / d))
size-multiple d e (t ∷ ts) some v w =
    sum_by-cons (numerator_over e) t ts
    ∙ ap₂ (λ a b. a + b) (one t (some 0 t (omega arith)) (v 0 t (omega arith)))
    (size-multiple d e ts (λ k x lt. some (suc k) x (omega arith)) (λ k x lt. v (suc k) x (omega arith)) w)
    ∙ sym (Nat.add-mul (numerator_over d t) (written_size d ts) (e / d))
    ∙ ap (λ a. a * (e / d)) (sym (sum_by-cons (numerator_over d) t ts))
  where
    one : (t : WrittenTerm) → 0 < denominator_of t → denominator_of t ∣ d → numerator_over e t ≡ numerator_over d t * (e / d)
    one t p u = ap (λ q. digits t * q) (quotients (denominator_of t) d e p u w) ∙ sym (Nat.mul_assoc (digits t) (d / denominator_of t) (e / d))
      where
        digits : WrittenTerm → ℕ
        digits t = digits_value 10 t.numerator

-- terms of a text over a denominator
pub record IsOver (e s : ℕ) (text : List ℕ) : Type 0 where
  pub terms : List WrittenTerm
  pub are_terms : AreTerms terms
  pub spells : spelled terms ≡ text
  pub divides : All (λ t. denominator_of t ∣ e) terms
  pub size : written_size e terms ≡ s

pub printed-over : (n : ℕ) → n < 2 ^ 64 → (x : Number n) → denominator n x ≤ DENOMINATOR_LIMIT → size n x ≤ COEFFICIENT_LIMIT
    → (e : ℕ) → denominator n x ∣ e → IsOver e (size n x * (e / denominator n x)) (number_text n x)
unfolding size
printed-over n top x d s e v =
    let facts : All (IsPrintedAs n (denominator n x)) (nonzero n x) = facts-of n x top d s in
    let divides : All (λ t. denominator_of t ∣ denominator n x) (as_read n x) =
    All-map (λ t. denominator_of t ∣ denominator n x) (printed (denominator n x)) (nonzero n x) (λ k t lt. (facts k t lt).divides) in
    let positive : All (λ t. 0 < denominator_of t) (as_read n x) =
    All-map (λ t. 0 < denominator_of t) (printed (denominator n x)) (nonzero n x) (λ k t lt. (facts k t lt).positive) in
    record {
      terms = as_read n x;
      are_terms = are-printed (denominator n x) n (canonical n x).num.at (λ j lt some.
          (each-nonzero (IsPrintedAs n (denominator n x)) n (canonical n x).num.at facts j lt some).is_term);
      spells = number-spelled n x;
      divides = λ k t lt. dvd_trans (denominator_of (get_or (as_read n x) k t)) (divides k t lt) v;
      size = size-multiple (denominator n x) e (as_read n x) positive divides v
          ∙ ap (λ y. y * (e / denominator n x)) (size-printed (denominator n x) (nonzero n x) (λ k t lt. (facts k t lt).absolute)
          ∙ nonzero-size n (canonical n x).num.at);
    }
