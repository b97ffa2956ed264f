-- Fractions as they print are fractions as they are written.
--   printed_quotient at a b     a over b as it prints, from the place at on, with the places of its numbers
--   printed_end at a b          the place behind it
--   printed-spelled             its text spells it
--   printed-value               its value is a over b
--   printed-unsigned, printed-numerator, printed-denominator     the parts of a fraction that is not negative
--   printed-zero, printed-within     its numbers
--   NoBlanks cs                 no byte of cs is a blank
use Rattle.std.proofs.Common.{◌≡◌, ◌≢◌, refl, sym, ◌∙◌, ap, ap₂, subst, ℕ, suc, ◌<◌, ◌≤◌, ◌+◌, ◌^◌, ℤ, pos, negsuc, neg_ℤ, Bool, true, false, List, [], ◌∷◌, ◌++◌, length, append_assoc, append-nil, Option, None, Some, nat_eq, if◌then◌else◌, arith}
use Rattle.std.proofs.lemmas.Bool.Decides.{nat_tests}
use Rattle.std.specs.Int.RustNames.{unsigned_abs}
use Rattle.std.specs.Fmt.{decimal, signed_decimal}
use Rattle.std.specs.Str.Parse.{AllDigits, digits_value}
use Rattle.std.proofs.lemmas.Fmt.{decimal_is_IsNumeral}
use Rattle.irr_rational.specs.Rational.{ratio}
use Rattle.irr_text.specs.NumberText.{fraction_text}
use Rattle.irr_token.specs.declared.kind.Kind.TheVariants.{Blank, Digit, Mark}
use Rattle.irr_token.specs.Kinds.{kind_of}
use Rattle.irr_token.specs.Token.{PlacedNumber, Token, value_of}
use Rattle.irr_token.specs.Token.Token.{number}
use Rattle.irr_token.specs.Spelling.{AreSpelled, EndsInNoBlank}
use Rattle.irr_token.specs.Quotient.{WrittenQuotient, over_tokens, quotient_tokens, quotient_value, denominator_value}
use Rattle.irr_token.specs.Fault.{AreNotZero, AreWithin, present, present_limited, denominators, limited}
use Rattle.irr_token.proofs.Lexing.{digit_kind}

-- the denominator is not printed where it is 1

over_of : Bool → ℕ → ℕ → Option PlacedNumber
over_of true p b = None
over_of false p b = Some (record { place = p + 1 + 0; digits = decimal b })

over_end : Bool → ℕ → ℕ → ℕ
over_end true p b = p
over_end false p b = p + 1 + 0 + length (decimal b) + 0

over_text : Bool → ℕ → List ℕ
over_text true b = []
over_text false b = 47 ∷ decimal b

over-spelled : (t : Bool) (p b : ℕ) (ts : List Token) (rest : List ℕ) → b < 2 ^ 64 → AreSpelled (over_end t p b) ts rest → AreSpelled p (over_tokens (over_of t p b) ++ ts) (over_text t b ++ rest)
unfolding over_of over_end over_text
over-spelled true p b ts rest h sp = sp
over-spelled false p b ts rest h sp = (
  refl,
  record {
    blanks = [];
    rest = decimal b ++ rest;
    are_blanks = tt;
    joins = refl;
    is_rest = ((decimal_is_IsNumeral b h).0, refl, record { blanks = []; rest = rest; are_blanks = tt; joins = refl; is_rest = sp });
  },
)

is_one : ℕ → Bool
is_one b = nat_eq b 1

pub printed_quotient : ℕ → ℤ → ℕ → WrittenQuotient
printed_quotient at (pos n) b = record { sign = None; numerator = record { place = at; digits = decimal n }; denominator = over_of (is_one b) (at + length (decimal n) + 0) b }
printed_quotient at (negsuc n) b = record {
  sign = Some true;
  numerator = record { place = at + 1 + 0; digits = decimal (suc n) };
  denominator = over_of (is_one b) (at + 1 + 0 + length (decimal (suc n)) + 0) b;
}

pub printed_end : ℕ → ℤ → ℕ → ℕ
printed_end at (pos n) b = over_end (is_one b) (at + length (decimal n) + 0) b
printed_end at (negsuc n) b = over_end (is_one b) (at + 1 + 0 + length (decimal (suc n)) + 0) b

fraction-parts : (a : ℤ) (b : ℕ) → fraction_text a b ≡ signed_decimal a ++ over_text (is_one b) b
unfolding over_text is_one
fraction-parts a b = by_test (nat_eq b 1)
  where
    by_test : (t : Bool) → (if t then signed_decimal a else (signed_decimal a ++ 47 ∷ decimal b)) ≡ signed_decimal a ++ over_text t b
    by_test true = sym (append-nil (signed_decimal a))
    by_test false = refl

number-spelled : (p n : ℕ) (ts : List Token) (rest : List ℕ) → n < 2 ^ 64 → AreSpelled (p + length (decimal n) + 0) ts rest
    → AreSpelled p (number (record { place = p; digits = decimal n }) ∷ ts) (decimal n ++ rest)
number-spelled p n ts rest h sp = ((decimal_is_IsNumeral n h).0, refl, record { blanks = []; rest = rest; are_blanks = tt; joins = refl; is_rest = sp })

pub printed-spelled : (at : ℕ) (a : ℤ) (b : ℕ) (ts : List Token) (rest : List ℕ) → unsigned_abs a < 2 ^ 64 → b ≤ 100000 → AreSpelled (printed_end at a b) ts rest
    → AreSpelled at (quotient_tokens (printed_quotient at a b) ++ ts) (fraction_text a b ++ rest)
unfolding printed_quotient printed_end
printed-spelled at (pos n) b ts rest ha hb sp = subst (AreSpelled at (quotient_tokens (printed_quotient at (pos n) b) ++ ts))
    (sym (ap (λ l. l ++ rest) (fraction-parts (pos n) b) ∙ append_assoc (decimal n) (over_text (is_one b) b) rest))
    (number-spelled at n (over_tokens (over_of (is_one b) (at + length (decimal n) + 0) b) ++ ts) (over_text (is_one b) b ++ rest) (omega arith)
    (over-spelled (is_one b) (at + length (decimal n) + 0) b ts rest (omega arith) sp))
printed-spelled at (negsuc n) b ts rest ha hb sp = subst (AreSpelled at (quotient_tokens (printed_quotient at (negsuc n) b) ++ ts))
    (sym (ap (λ l. l ++ rest) (fraction-parts (negsuc n) b) ∙ append_assoc (45 ∷ decimal (suc n)) (over_text (is_one b) b) rest)) (
      refl,
      record {
        blanks = [];
        rest = decimal (suc n) ++ (over_text (is_one b) b ++ rest);
        are_blanks = tt;
        joins = refl;
        is_rest = number-spelled (at + 1 + 0) (suc n) (over_tokens (over_of (is_one b) (at + 1 + 0 + length (decimal (suc n)) + 0) b) ++ ts) (over_text (is_one b) b ++ rest) (omega arith)
            (over-spelled (is_one b) (at + 1 + 0 + length (decimal (suc n)) + 0) b ts rest (omega arith) sp);
      },
    )

number-value : (n : ℕ) → n < 2 ^ 64 → digits_value 10 (decimal n) ≡ n
number-value n h = (decimal_is_IsNumeral n h).1

over-value : (t : Bool) (p b : ℕ) → is_one b ≡ t → b < 2 ^ 64 → denominator_value (over_of t p b) ≡ b
unfolding over_of is_one
over-value true p b e h = let one : b ≡ 1 = grind (arith, nat_tests) in sym one
over-value false p b e h = number-value b h

pub printed-value : (at : ℕ) (a : ℤ) (b : ℕ) → unsigned_abs a < 2 ^ 64 → b ≤ 100000 → quotient_value (printed_quotient at a b) ≡ ratio a b
unfolding printed_quotient
printed-value at (pos n) b ha hb = ap₂ (λ (m d : ℕ). ratio (pos m) d) (number-value n (omega arith)) (over-value (is_one b) (at + length (decimal n) + 0) b refl (omega arith))
printed-value at (negsuc n) b ha hb = ap₂ (λ (m d : ℕ). ratio (neg_of m) d) (number-value (suc n) (omega arith)) (over-value (is_one b) (at + 1 + 0 + length (decimal (suc n)) + 0) b refl (omega arith))
  where
    neg_of : ℕ → ℤ
    neg_of m = neg_ℤ (pos m)

-- without a sign

pub printed-unsigned : (at a b : ℕ) → (printed_quotient at (pos a) b).sign ≡ None
unfolding printed_quotient
printed-unsigned at a b = refl

pub printed-numerator : (at a b : ℕ) → a ≤ 100000 → value_of (printed_quotient at (pos a) b).numerator ≡ a
unfolding printed_quotient
printed-numerator at a b h = number-value a (omega arith)

pub printed-denominator : (at a b : ℕ) → b ≤ 100000 → denominator_value (printed_quotient at (pos a) b).denominator ≡ b
unfolding printed_quotient
printed-denominator at a b h = over-value (is_one b) (at + length (decimal a) + 0) b refl (omega arith)

over-zero : (t : Bool) (p b : ℕ) → 0 < b → b < 2 ^ 64 → AreNotZero (present (over_of t p b))
unfolding over_of
over-zero true p b h l = tt
over-zero false p b h l = (subst (λ n. 0 < n) (sym (number-value b l)) h, tt)

pub printed-zero : (at : ℕ) (a : ℤ) (b : ℕ) → 0 < b → b ≤ 100000 → AreNotZero (denominators (printed_quotient at a b))
unfolding printed_quotient
printed-zero at (pos n) b h l = over-zero (is_one b) (at + length (decimal n) + 0) b h (omega arith)
printed-zero at (negsuc n) b h l = over-zero (is_one b) (at + 1 + 0 + length (decimal (suc n)) + 0) b h (omega arith)

over-within : (t : Bool) (p b : ℕ) → b ≤ 100000 → AreWithin (present_limited (over_of t p b))
unfolding over_of
over-within true p b h = tt
over-within false p b h = (subst (λ n. n ≤ 100000) (sym (number-value b (omega arith))) h, tt)

pub printed-within : (m at : ℕ) (a : ℤ) (b : ℕ) → m < 2 ^ 64 → unsigned_abs a ≤ m → b ≤ 100000 → AreWithin (limited m (printed_quotient at a b))
unfolding printed_quotient
printed-within m at (pos n) b top ha hb = (subst (λ k. k ≤ m) (sym (number-value n (omega arith))) ha, over-within (is_one b) (at + length (decimal n) + 0) b hb)
printed-within m at (negsuc n) b top ha hb = (subst (λ k. k ≤ m) (sym (number-value (suc n) (omega arith))) ha, over-within (is_one b) (at + 1 + 0 + length (decimal (suc n)) + 0) b hb)

-- No blanks.

pub NoBlanks : List ℕ → Type 0
NoBlanks [] = Unit {0}
NoBlanks (c ∷ cs) = (kind_of c ≢ Blank) × NoBlanks cs

pub no_blanks-append : (xs ys : List ℕ) → NoBlanks xs → NoBlanks ys → NoBlanks (xs ++ ys)
unfolding NoBlanks
no_blanks-append [] ys h g = g
no_blanks-append (x ∷ xs) ys h g = (h.0, no_blanks-append xs ys h.1 g)

digits-no_blanks : (ds : List ℕ) → AllDigits 10 ds → NoBlanks ds
unfolding NoBlanks
digits-no_blanks [] all = tt
digits-no_blanks (d ∷ ds) all = ((λ e. let f : Digit ≡ Blank = sym (digit_kind d all.0) ∙ e in cc), digits-no_blanks ds all.1)

decimal-no_blanks : (n : ℕ) → n < 2 ^ 64 → NoBlanks (decimal n)
decimal-no_blanks n h = digits-no_blanks (decimal n) (decimal_is_IsNumeral n h).0.1

pub mark-no_blanks : (c : ℕ) (xs : List ℕ) → kind_of c ≡ Mark → NoBlanks xs → NoBlanks (c ∷ xs)
unfolding NoBlanks
mark-no_blanks c xs e h = ((λ f. let g : Mark ≡ Blank = sym e ∙ f in cc), h)

over-no_blanks : (t : Bool) (b : ℕ) → b < 2 ^ 64 → NoBlanks (over_text t b)
unfolding over_text NoBlanks
over-no_blanks true b h = tt
over-no_blanks false b h = mark-no_blanks 47 (decimal b) refl (decimal-no_blanks b h)

pub fraction-no_blanks : (a : ℤ) (b : ℕ) → unsigned_abs a < 2 ^ 64 → b ≤ 100000 → NoBlanks (fraction_text a b)
fraction-no_blanks a b ha hb = subst NoBlanks (sym (fraction-parts a b)) (no_blanks-append (signed_decimal a) (over_text (is_one b) b) (signed a ha) (over-no_blanks (is_one b) b (omega arith)))
  where
    signed : (k : ℤ) → unsigned_abs k < 2 ^ 64 → NoBlanks (signed_decimal k)
    signed (pos n) h = decimal-no_blanks n (omega arith)
    signed (negsuc n) h = mark-no_blanks 45 (decimal (suc n)) refl (decimal-no_blanks (suc n) (omega arith))

pub ends-no_blanks : (xs : List ℕ) → NoBlanks xs → EndsInNoBlank xs
unfolding NoBlanks
ends-no_blanks [] h = tt
ends-no_blanks (c ∷ []) h = h.0
ends-no_blanks (c ∷ d ∷ cs) h = ends-no_blanks (d ∷ cs) h.1
