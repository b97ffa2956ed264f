-- The texts of numbers, the rule on exponents aside, are recognised from left to right.
--   number_recogniser        the fronts as its states
--   number_recognises        it recognises the texts of numbers
use Rattle.std.proofs.Common.{◌≡◌, refl, sym, ◌∙◌, ap, subst, ℕ, ◌<◌, ◌≤◌, Bool, true, false, List, [], ◌∷◌, ◌++◌, append_assoc, Option, None, Some, IfSome, IsSome, IsTrue, IsFalse, option_and_then, ◌⊎◌, inl, inr}
use Rattle.std.specs.Char.{digit_value}
use Rattle.std.specs.Str.Parse.{AllDigits}
use Rattle.irr_grammar.proofs.Recognisers.{Recogniser, Ends, Recognises, state_after, state_after-none, ends-then, ends-step, ends-described, state_after-digits}
use Rattle.irr_numeral.specs.declared.shape.Kind.{Kind}
use Rattle.irr_numeral.specs.declared.shape.Kind.TheVariants.{Minus, Plus, Slash, Star, Letter, Caret, Nought, Digit}
use Rattle.irr_numeral.specs.declared.shape.Front.{Front}
use Rattle.irr_numeral.specs.declared.shape.Front.TheVariants.{Start, Zero, Sign, Numerator, Over, OverZero, Denominator, Times, Root, Power, Exponent}
use Rattle.irr_numeral.specs.Front.{kind_of, next_front, behind_coefficient, ends_text}
use Rattle.irr_numeral.specs.WrittenNumber.{WrittenTerm, IsWhole, IsDenominator, IsTerm, AreLater, AreTerms, quotient_text, exponent_text, unsigned_text, first_sign, later_sign, spelled_later, spelled, IsNumber}
use Rattle.irr_numeral.proofs.ByteKinds.{IsOfKind, kind-is, kind-digit, kind-of_digit, digit-nought, digit-range}

abbrev pub number_recogniser : Recogniser ℕ
number_recogniser = record { State = Front; start = Start; step = λ f c. next_front f (kind_of c); IsEnd = λ f. IsTrue (ends_text f) }

-- What may follow a front.

-- texts of two parts
record Joined (P Q : List ℕ → Type 0) (xs : List ℕ) : Type 0 where
  pub front : List ℕ
  pub back : List ℕ
  pub is_front : P front
  pub is_back : Q back
  pub joins : xs ≡ front ++ back

record After (c : ℕ) (P : List ℕ → Type 0) (xs : List ℕ) : Type 0 where
  pub back : List ℕ
  pub is_back : P back
  pub joins : xs ≡ c ∷ back

AreDigits : List ℕ → Type 0
AreDigits ds = AllDigits 10 ds

record IsTail (xs : List ℕ) : Type 0 where
  pub terms : List WrittenTerm
  pub later : AreLater terms
  pub spells : xs ≡ spelled_later terms

abbrev IsBehindPower : List ℕ → Type 0
IsBehindPower = Joined IsWhole IsTail

abbrev IsBehindRoot : List ℕ → Type 0
IsBehindRoot = After 94 IsBehindPower

abbrev IsBehindTimes : List ℕ → Type 0
IsBehindTimes = After 122 IsBehindRoot

abbrev IsBehindCoefficient : Bool → List ℕ → Type 0
IsBehindCoefficient true xs = After 42 IsBehindTimes xs
IsBehindCoefficient false xs = After 42 IsBehindTimes xs ⊎ IsTail xs

abbrev IsBehindOver : Bool → List ℕ → Type 0
IsBehindOver later = Joined IsDenominator (IsBehindCoefficient later)

abbrev IsBehindNumerator : Bool → List ℕ → Type 0
IsBehindNumerator later xs = After 47 (IsBehindOver later) xs ⊎ IsBehindCoefficient later xs

abbrev IsBehindSign : Bool → List ℕ → Type 0
IsBehindSign later = Joined IsWhole (IsBehindNumerator later)

abbrev Follows : Front → List ℕ → Type 0
Follows Start xs = IsNumber xs
Follows Zero xs = xs ≡ []
Follows (Sign later) xs = IsBehindSign later xs
Follows (Numerator later) xs = Joined AreDigits (IsBehindNumerator later) xs
Follows (Over later) xs = IsBehindOver later xs
Follows (OverZero later) xs = IsBehindCoefficient later xs
Follows (Denominator later) xs = Joined AreDigits (IsBehindCoefficient later) xs
Follows Times xs = IsBehindTimes xs
Follows Root xs = IsBehindRoot xs
Follows Power xs = IsBehindPower xs
Follows Exponent xs = Joined AreDigits IsTail xs

-- from the parts of a text behind a sign to its terms
record IsTermTail (later : Bool) (xs : List ℕ) : Type 0 where
  pub numerator : List ℕ
  pub denominator : Option (List ℕ)
  pub exponent : Option (List ℕ)
  pub terms : List WrittenTerm
  pub is_numerator : IsWhole numerator
  pub is_denominator : IfSome denominator IsDenominator
  pub is_exponent : IfSome exponent IsWhole
  pub has_exponent : IsTrue later → IsSome exponent
  pub are_later : AreLater terms
  pub spells : xs ≡ (numerator ++ (quotient_text denominator ++ exponent_text exponent)) ++ spelled_later terms

-- the exponent and the terms
record IsPowerTail (later : Bool) (xs : List ℕ) : Type 0 where
  pub exponent : Option (List ℕ)
  pub terms : List WrittenTerm
  pub is_exponent : IfSome exponent IsWhole
  pub has_exponent : IsTrue later → IsSome exponent
  pub are_later : AreLater terms
  pub spells : xs ≡ exponent_text exponent ++ spelled_later terms

power_tail-times : (later : Bool) (xs : List ℕ) → After 42 IsBehindTimes xs → IsPowerTail later xs
power_tail-times later xs h = let digits = h.is_back.is_back.is_back in record {
  exponent = Some digits.front;
  terms = digits.is_back.terms;
  is_exponent = digits.is_front;
  has_exponent = λ t. refl;
  are_later = digits.is_back.later;
  spells = h.joins ∙ ap (λ ys. 42 ∷ ys) (h.is_back.joins ∙ ap (λ ys. 122 ∷ ys) (h.is_back.is_back.joins ∙ ap (λ ys. 94 ∷ ys) (digits.joins ∙ ap (λ ys. digits.front ++ ys) digits.is_back.spells)));
}

power_tail : (later : Bool) (xs : List ℕ) → IsBehindCoefficient later xs → IsPowerTail later xs
power_tail true xs h = power_tail-times true xs h
power_tail false xs (inl h) = power_tail-times false xs h
power_tail false xs (inr h) = record { exponent = None; terms = h.terms; is_exponent = tt; has_exponent = λ t. absurd (cc); are_later = h.later; spells = h.spells }

regroup : (a b c d : List ℕ) → a ++ (b ++ (c ++ d)) ≡ (a ++ (b ++ c)) ++ d
regroup a b c d = simp append_assoc

term_tail-of : (later : Bool) (ds ys xs zs : List ℕ) (den : Option (List ℕ)) → IsWhole ds → IfSome den IsDenominator → (t : IsPowerTail later ys) → zs ≡ quotient_text den ++ ys → xs ≡ ds ++ zs → IsTermTail later xs
term_tail-of later ds ys xs zs den whole is t e f = record {
  numerator = ds;
  denominator = den;
  exponent = t.exponent;
  terms = t.terms;
  is_numerator = whole;
  is_denominator = is;
  is_exponent = t.is_exponent;
  has_exponent = t.has_exponent;
  are_later = t.are_later;
  spells = f ∙ ap (λ l. ds ++ l) (e ∙ ap (λ l. quotient_text den ++ l) t.spells) ∙ regroup ds (quotient_text den) (exponent_text t.exponent) (spelled_later t.terms);
}

term_tail : (later : Bool) (xs : List ℕ) → IsBehindSign later xs → IsTermTail later xs
term_tail later xs h = elim h.is_back [
  | inl q ↦ term_tail-of later h.front q.is_back.back xs h.back (Some q.is_back.front) h.is_front q.is_back.is_front (power_tail later q.is_back.back q.is_back.is_back) (q.joins ∙ ap (λ l. 47 ∷ l) q.is_back.joins) h.joins
  | inr p ↦ term_tail-of later h.front h.back xs h.back None h.is_front tt (power_tail later h.back p) refl h.joins
]

-- a sign and a later term
tail-sign : (negative : Bool) (xs : List ℕ) → IsBehindSign true xs → IsTail (later_sign negative ∷ xs)
tail-sign negative xs h = let t = term_tail true xs h in record {
  terms = (record { negative = negative; numerator = t.numerator; denominator = t.denominator; exponent = t.exponent }) ∷ t.terms;
  later = (record { numerator = t.is_numerator; denominator = t.is_denominator; exponent = t.is_exponent }, t.has_exponent refl, t.are_later);
  spells = ap (λ l. later_sign negative ∷ l) t.spells;
}

number-sign : (negative : Bool) (xs : List ℕ) → IsBehindSign false xs → IsNumber (first_sign negative ++ xs)
number-sign negative xs h = let t = term_tail false xs h in record {
  terms = (record { negative = negative; numerator = t.numerator; denominator = t.denominator; exponent = t.exponent }) ∷ t.terms;
  are_terms = (record { numerator = t.is_numerator; denominator = t.is_denominator; exponent = t.is_exponent }, t.are_later);
  spells = ap (λ l. first_sign negative ++ l) (sym t.spells);
}

-- One byte more.

digits-one : (Q : List ℕ → Type 0) (c : ℕ) (xs : List ℕ) → digit_value c < 10 → Joined AreDigits Q xs → Joined AreDigits Q (c ∷ xs)
unfolding AreDigits
digits-one Q c xs digit h = record { front = c ∷ h.front; back = h.back; is_front = (digit, h.is_front); is_back = h.is_back; joins = ap (λ l. c ∷ l) h.joins }

whole-one : (Q : List ℕ → Type 0) (c : ℕ) (xs : List ℕ) → (49 ≤ c) × (c ≤ 57) → Joined AreDigits Q xs → Joined IsWhole Q (c ∷ xs)
unfolding AreDigits
whole-one Q c xs r h = record { front = c ∷ h.front; back = h.back; is_front = (r.0, r.1, h.is_front); is_back = h.is_back; joins = ap (λ l. c ∷ l) h.joins }

denominator-one : (Q : List ℕ → Type 0) (c : ℕ) (xs : List ℕ) → (49 ≤ c) × (c ≤ 57) → Joined AreDigits Q xs → Joined IsDenominator Q (c ∷ xs)
denominator-one Q c xs r h = let w = whole-one Q c xs r h in record { front = w.front; back = w.back; is_front = inr w.is_front; is_back = w.is_back; joins = w.joins }

denominator-zero : (Q : List ℕ → Type 0) (c : ℕ) (xs : List ℕ) → c ≡ 48 → Q xs → Joined IsDenominator Q (c ∷ xs)
denominator-zero Q c xs e q = record { front = 48 ∷ []; back = xs; is_front = inl refl; is_back = q; joins = ap (λ d. d ∷ xs) e }

after-one : (b c : ℕ) (P : List ℕ → Type 0) (xs : List ℕ) → c ≡ b → P xs → After b P (c ∷ xs)
after-one b c P xs e p = record { back = xs; is_back = p; joins = ap (λ d. d ∷ xs) e }

none-behind : (Q : List ℕ → Type 0) (xs : List ℕ) → Q xs → Joined AreDigits Q xs
unfolding AreDigits
none-behind Q xs q = record { front = []; back = xs; is_front = tt; is_back = q; joins = refl }

tail-one : (negative : Bool) (c : ℕ) (xs : List ℕ) → c ≡ later_sign negative → IsBehindSign true xs → IsTail (c ∷ xs)
tail-one negative c xs e h = subst (λ d. IsTail (d ∷ xs)) (sym e) (tail-sign negative xs h)

coefficient-one : (later : Bool) (k : Kind) (c : ℕ) (xs : List ℕ) → IsOfKind k c → IfSome (behind_coefficient later k) (λ f. Follows f xs → IsBehindCoefficient later (c ∷ xs))
coefficient-one true Star c xs h = after-one 42 c IsBehindTimes xs h
coefficient-one false Star c xs h = λ l. inl (after-one 42 c IsBehindTimes xs h l)
coefficient-one false Plus c xs h = λ l. inr (tail-one false c xs h l)
coefficient-one false Minus c xs h = λ l. inr (tail-one true c xs h l)
coefficient-one later k c xs h = tt

-- from a description of what follows the next front to another
described : (o : Option Front) (xs : List ℕ) (A B : Type 0) → (A → B) → IfSome o (λ g. Follows g xs → A) → IfSome o (λ g. Follows g xs → B)
described None xs A B f h = tt
described (Some g) xs A B f h = λ l. f (h l)

if_some-at : (o : Option Front) (P : Front → Type 0) (f : Front) → o ≡ Some f → IfSome o P → P f
if_some-at o P f e h = let Q : Option Front → Type 0 = λ u. IfSome u P in subst Q e h

follows-one : (f : Front) (k : Kind) (c : ℕ) (xs : List ℕ) → IsOfKind k c → IfSome (next_front f k) (λ g. Follows g xs → Follows f (c ∷ xs))
follows-one Start Minus c xs h = λ l. subst (λ d. IsNumber (d ∷ xs)) (sym h) (number-sign true xs l)
follows-one Start Nought c xs h = λ l. record { terms = []; are_terms = tt; spells = cc }
follows-one Start Digit c xs h = λ l. number-sign false (c ∷ xs) (whole-one (IsBehindNumerator false) c xs h l)
follows-one (Sign later) Digit c xs h = whole-one (IsBehindNumerator later) c xs h
follows-one (Numerator later) Nought c xs h = digits-one (IsBehindNumerator later) c xs (digit-nought c h)
follows-one (Numerator later) Digit c xs h = digits-one (IsBehindNumerator later) c xs (digit-range c h)
follows-one (Numerator later) Slash c xs h = λ l. none-behind (IsBehindNumerator later) (c ∷ xs) (inl (after-one 47 c (IsBehindOver later) xs h l))
follows-one (Numerator later) k c xs h = described (behind_coefficient later k) xs (IsBehindCoefficient later (c ∷ xs)) (Joined AreDigits (IsBehindNumerator later) (c ∷ xs)) (λ p. none-behind (IsBehindNumerator later) (c ∷ xs) (inr p)) (coefficient-one later k c xs h)
follows-one (Over later) Nought c xs h = denominator-zero (IsBehindCoefficient later) c xs h
follows-one (Over later) Digit c xs h = denominator-one (IsBehindCoefficient later) c xs h
follows-one (OverZero later) k c xs h = coefficient-one later k c xs h
follows-one (Denominator later) Nought c xs h = digits-one (IsBehindCoefficient later) c xs (digit-nought c h)
follows-one (Denominator later) Digit c xs h = digits-one (IsBehindCoefficient later) c xs (digit-range c h)
follows-one (Denominator later) k c xs h = described (behind_coefficient later k) xs (IsBehindCoefficient later (c ∷ xs)) (Joined AreDigits (IsBehindCoefficient later) (c ∷ xs)) (λ p. none-behind (IsBehindCoefficient later) (c ∷ xs) (p)) (coefficient-one later k c xs h)
follows-one Times Letter c xs h = after-one 122 c IsBehindRoot xs h
follows-one Root Caret c xs h = after-one 94 c IsBehindPower xs h
follows-one Power Digit c xs h = whole-one IsTail c xs h
follows-one Exponent Nought c xs h = digits-one IsTail c xs (digit-nought c h)
follows-one Exponent Digit c xs h = digits-one IsTail c xs (digit-range c h)
follows-one Exponent Plus c xs h = λ l. none-behind IsTail (c ∷ xs) (tail-one false c xs h l)
follows-one Exponent Minus c xs h = λ l. none-behind IsTail (c ∷ xs) (tail-one true c xs h l)
follows-one f k c xs h = tt

follows-end : (f : Front) → IsTrue (ends_text f) → Follows f []
unfolding AreDigits
follows-end Zero h = refl
follows-end (Numerator true) h = absurd (cc)
follows-end (Numerator false) h = none-behind (IsBehindNumerator false) [] (inr (inr none))
  where
    none : IsTail []
    none = record { terms = []; later = tt; spells = refl }
follows-end (OverZero true) h = absurd (cc)
follows-end (OverZero false) h = inr (record { terms = []; later = tt; spells = refl })
follows-end (Denominator true) h = absurd (cc)
follows-end (Denominator false) h = none-behind (IsBehindCoefficient false) [] (inr none)
  where
    none : IsTail []
    none = record { terms = []; later = tt; spells = refl }
follows-end Exponent h = none-behind IsTail [] (record { terms = []; later = tt; spells = refl })
follows-end f h = absurd (cc)

number-only : (xs : List ℕ) → Ends number_recogniser Start xs → IsNumber xs
number-only xs h = ends-described number_recogniser Follows follows-end (λ f g c ys e. if_some-at (next_front f (kind_of c)) (λ u. Follows u ys → Follows f (c ∷ ys)) g e (follows-one f (kind_of c) c ys (kind-is c))) xs Start h

-- The texts that are spelled lead to an end.

abbrev EndsFrom : Front → List ℕ → Type 0
EndsFrom f xs = Ends number_recogniser f xs

digits-keep : (f : Front) → next_front f Nought ≡ Some f → next_front f Digit ≡ Some f → (ds : List ℕ) → AllDigits 10 ds → state_after number_recogniser f ds ≡ Some f
digits-keep f h g ds all = state_after-digits number_recogniser f (λ c d. elim (kind-of_digit c d) [ inl e ↦ ap (next_front f) e ∙ h | inr e ↦ ap (next_front f) e ∙ g ]) ds all

whole-leads : (f g : Front) → next_front f Digit ≡ Some g → next_front g Nought ≡ Some g → next_front g Digit ≡ Some g → (ds : List ℕ) → IsWhole ds → state_after number_recogniser f ds ≡ Some g
unfolding state_after
whole-leads f g first n d [] w = absurd w
whole-leads f g first n d (c ∷ ds) w =
    let next : next_front f (kind_of c) ≡ Some g = ap (next_front f) (kind-digit c w.0 w.1) ∙ first in
    ap (option_and_then (λ u. state_after number_recogniser u ds)) next ∙ digits-keep g n d ds w.2

-- behind a coefficient
exponent-ends : (f : Front) (later : Bool) (e : Option (List ℕ)) (rest : List ℕ) → next_front f Star ≡ Some Times → IfSome e IsWhole → (IsTrue later → IsSome e)
    → EndsFrom Exponent rest → (IsFalse later → EndsFrom f rest) → EndsFrom f (exponent_text e ++ rest)
exponent-ends f true None rest star w has ends first = let no : IsSome {T = List ℕ} None = has refl in absurd (cc)
exponent-ends f false None rest star w has ends first = first refl
exponent-ends f later (Some ds) rest star w has ends first =
    ends-step number_recogniser 42 (122 ∷ 94 ∷ (ds ++ rest)) f Times star (ends-step number_recogniser 122 (94 ∷ (ds ++ rest)) Times Root refl (ends-step number_recogniser 94 (ds ++ rest) Root Power refl
    (ends-then number_recogniser ds rest Power Exponent (whole-leads Power Exponent refl refl refl ds w) ends)))

-- a front of a first term at which the term may end
abbrev EndsBehind : List ℕ → Type 0
EndsBehind rest = (f : Front) → IsTrue (ends_text f) → next_front f Plus ≡ Some (Sign true) → next_front f Minus ≡ Some (Sign true) → EndsFrom f rest

first-ends : (F : Bool → Front) (later : Bool) (rest : List ℕ) → EndsBehind rest → IsTrue (ends_text (F false)) → next_front (F false) Plus ≡ Some (Sign true) → next_front (F false) Minus ≡ Some (Sign true)
    → IsFalse later → EndsFrom (F later) rest
first-ends F true rest behind a b c h = absurd (cc)
first-ends F false rest behind a b c h = behind (F false) a b c

quotient-ends : (later : Bool) (d e : Option (List ℕ)) (rest : List ℕ) → IfSome d IsDenominator → IfSome e IsWhole → (IsTrue later → IsSome e) → EndsBehind rest
    → EndsFrom (Numerator later) (quotient_text d ++ (exponent_text e ++ rest))
quotient-ends later None e rest is w has behind = exponent-ends (Numerator later) later e rest refl w has (behind Exponent refl refl refl) (first-ends Numerator later rest behind refl refl refl)
quotient-ends later (Some ds) e rest is w has behind = ends-step number_recogniser 47 (ds ++ (exponent_text e ++ rest)) (Numerator later) (Over later) refl (elim is [
  | inl z ↦ subst (λ l. EndsFrom (Over later) (l ++ (exponent_text e ++ rest))) (sym z) (ends-step number_recogniser 48 (exponent_text e ++ rest) (Over later) (OverZero later) refl
      (exponent-ends (OverZero later) later e rest refl w has (behind Exponent refl refl refl) (first-ends OverZero later rest behind refl refl refl)))
  | inr v ↦ ends-then number_recogniser ds (exponent_text e ++ rest) (Over later) (Denominator later) (whole-leads (Over later) (Denominator later) refl refl refl ds v)
      (exponent-ends (Denominator later) later e rest refl w has (behind Exponent refl refl refl) (first-ends Denominator later rest behind refl refl refl))
])

term-ends : (f : Front) (later : Bool) (t : WrittenTerm) (rest : List ℕ) → next_front f Digit ≡ Some (Numerator later) → IsTerm t → (IsTrue later → IsSome t.exponent) → EndsBehind rest → EndsFrom f (unsigned_text t ++ rest)
term-ends f later t rest first is has behind = subst (EndsFrom f) (regroup t.numerator (quotient_text t.denominator) (exponent_text t.exponent) rest)
    (ends-then number_recogniser t.numerator (quotient_text t.denominator ++ (exponent_text t.exponent ++ rest)) f (Numerator later) (whole-leads f (Numerator later) first refl refl t.numerator is.numerator)
    (quotient-ends later t.denominator t.exponent rest is.denominator is.exponent has behind))

tail-ends : (ts : List WrittenTerm) → AreLater ts → EndsBehind (spelled_later ts)
unfolding state_after
tail-ends [] are f e plus minus = record { last = f; leads = refl; is_end = e }
tail-ends (t ∷ ts) are f e plus minus = ends-step number_recogniser (later_sign t.negative) (unsigned_text t ++ spelled_later ts) f (Sign true) (sign t.negative)
    (term-ends (Sign true) true t (spelled_later ts) refl are.0 (λ h. are.1) (tail-ends ts are.2))
  where
    sign : (negative : Bool) → next_front f (kind_of (later_sign negative)) ≡ Some (Sign true)
    sign true = minus
    sign false = plus

number-ends : (xs : List ℕ) → IsNumber xs → EndsFrom Start xs
number-ends xs h = subst (EndsFrom Start) h.spells (of_terms h.terms h.are_terms)
  where
    signed : (negative : Bool) (t : WrittenTerm) (ts : List WrittenTerm) → IsTerm t → AreLater ts → EndsFrom Start (first_sign negative ++ (unsigned_text t ++ spelled_later ts))
    signed true t ts is are = ends-step number_recogniser 45 (unsigned_text t ++ spelled_later ts) Start (Sign false) refl (term-ends (Sign false) false t (spelled_later ts) refl is (λ e. absurd (cc)) (tail-ends ts are))
    signed false t ts is are = term-ends Start false t (spelled_later ts) refl is (λ e. absurd (cc)) (tail-ends ts are)

    of_terms : (ts : List WrittenTerm) → AreTerms ts → EndsFrom Start (spelled ts)
    of_terms [] are = ends-step number_recogniser 48 [] Start Zero refl (record { last = Zero; leads = state_after-none number_recogniser Zero; is_end = refl })
    of_terms (t ∷ ts) are = signed t.negative t ts are.0 are.1

-- what completes a front
ending : Front → List ℕ
ending Start = 49 ∷ []
ending Zero = []
ending (Sign later) = 49 ∷ 42 ∷ 122 ∷ 94 ∷ 49 ∷ []
ending (Numerator later) = 42 ∷ 122 ∷ 94 ∷ 49 ∷ []
ending (Over later) = 49 ∷ 42 ∷ 122 ∷ 94 ∷ 49 ∷ []
ending (OverZero later) = 42 ∷ 122 ∷ 94 ∷ 49 ∷ []
ending (Denominator later) = 42 ∷ 122 ∷ 94 ∷ 49 ∷ []
ending Times = 122 ∷ 94 ∷ 49 ∷ []
ending Root = 94 ∷ 49 ∷ []
ending Power = 49 ∷ []
ending Exponent = []

ending-ends : (f : Front) → EndsFrom f (ending f)
unfolding state_after ending
ending-ends Start = record { last = Numerator false; leads = refl; is_end = refl }
ending-ends Zero = record { last = Zero; leads = refl; is_end = refl }
ending-ends (Sign later) = record { last = Exponent; leads = refl; is_end = refl }
ending-ends (Numerator later) = record { last = Exponent; leads = refl; is_end = refl }
ending-ends (Over later) = record { last = Exponent; leads = refl; is_end = refl }
ending-ends (OverZero later) = record { last = Exponent; leads = refl; is_end = refl }
ending-ends (Denominator later) = record { last = Exponent; leads = refl; is_end = refl }
ending-ends Times = record { last = Exponent; leads = refl; is_end = refl }
ending-ends Root = record { last = Exponent; leads = refl; is_end = refl }
ending-ends Power = record { last = Exponent; leads = refl; is_end = refl }
ending-ends Exponent = record { last = Exponent; leads = refl; is_end = refl }

pub number_recognises : Recognises number_recogniser IsNumber
number_recognises = record { ends = number-ends; only = number-only; rest = ending; completes = ending-ends }
