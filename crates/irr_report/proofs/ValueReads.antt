-- The numbers of texts, one after another.
--   reads-none       no numbers
--   reads-more       one number more
--   beyond-more      one text more that passes a limit by itself
--   passes-in-more   what passes a limit does with one text more
--   so-far-unchanged, so-far-passes-at, so-far-joined-at      one number more, where there is no scale, and where there is one
--   shape-outside, zero-outside       texts that leave the grammar
--   within-limits    texts whose numbers are read, and that have a scale, pass no limit
use Rattle.std.proofs.Common.{◌≡◌, refl, sym, ◌∙◌, ap, subst, ℕ, ◌<◌, ◌≤◌, List, [], ◌∷◌, ◌++◌, length, length-append, append_assoc, get_or, All, arith, ◌⊎◌, inl, inr, Option, None, Some}
use Rattle.std.proofs.lemmas.Bool.{cases_lt}
use Rattle.std.proofs.lemmas.List.{get_or_append_left}
use Rattle.std.proofs.lemmas.List.Elements.{All-append}
use Rattle.std.proofs.Math.Seq.{get_or-append_seam}
use Rattle.irr_number.specs.Number.{Number}
use Rattle.irr_numeral.specs.NumberFault.{IsShapeFault, IsZeroFault, IsRangeFault, IsTotalFault}
use Rattle.irr_numeral.specs.TermPlaces.{HasZero}
use Rattle.irr_numeral.specs.WrittenNumber.{IsNumber, AreIncreasing}
use Rattle.irr_numeral.specs.WrittenValue.{IsReadAs, IsMeasured}
use Rattle.irr_numeral.specs.declared.read.NumberError.TheVariants.{Range as number_range, Memory as number_memory}
use Rattle.irr_numeral.proofs.OneReading.{no-fault, not-each, not-unordered, spelled-unique}
use Rattle.irr_report.specs.ReportGrammar.{IsValueText}
use Rattle.irr_report.specs.ReportLimits.{IsBeyond, PassesTogether, PassesIn}
use Rattle.irr_report.specs.ValueTexts.{AreReadAs, AreReadSoFar, IsScaleOf, IsJoined, CannotJoin}
use Rattle.irr_report.specs.declared.scale.Scale.{Scale}
use Rattle.irr_report.proofs.CommonScales.{all-one}
use Rattle.irr_report.proofs.Scales.{scale-joined, passes-joined, passes-more, scale-within}

pub beyond-more : (n : ℕ) (earlier texts : List (List ℕ)) (word : List ℕ) → IsBeyond n word → PassesIn n earlier (texts ++ word ∷ [])
beyond-more n earlier texts word b = inl (length texts, omega (arith, length-append texts (word ∷ [])), subst (IsBeyond n) (sym (get_or-append_seam texts word [] [])) b)

pub passes-in-more : (n : ℕ) (earlier texts : List (List ℕ)) (word : List ℕ) → IsValueText word → PassesIn n earlier texts → PassesIn n earlier (texts ++ word ∷ [])
passes-in-more n earlier texts word v (inl r) = inl (
  r.0,
  omega (arith, r.1, length-append texts (word ∷ [])),
  subst (IsBeyond n) (sym (get_or_append_left texts (word ∷ []) [] r.0 r.1)) r.2,
)
passes-in-more n earlier texts word v (inr p) = inr (subst PassesTogether (append_assoc earlier texts (word ∷ [])) (passes-more (earlier ++ texts) word p v))

not_memory : (p : ℕ) → number_range p ≡ number_memory → ⊥
not_memory p e = cc

module _ {S : Type 0} (order : S → ℕ) (value : (n : ℕ) → S → Number n) (n : ℕ) where
  pub reads-none : AreReadAs order value n [] []
  reads-none = record { count = refl; orders = λ k d lt. absurd (omega arith); numbers = λ i x lt. absurd (omega arith) }

  module _ (texts : List (List ℕ)) (xs : List S) (h : AreReadAs order value n texts xs) where
    pub reads-more : (word : List ℕ) (x : S) → order x ≡ n → IsReadAs n word (value n x) → AreReadAs order value n (texts ++ word ∷ []) (xs ++ x ∷ [])
    reads-more word x o r = record {
      count = omega (arith, h.count, length-append xs (x ∷ []), length-append texts (word ∷ []));
      orders = All-append (λ y. order y ≡ n) xs (x ∷ []) h.orders (all-one (λ y. order y ≡ n) x o);
      numbers = λ i y lt. number_at i y lt (cases_lt i (length xs));
    }
      where
        number_at : (i : ℕ) (y : S) → i < length (xs ++ x ∷ []) → (i < length xs) ⊎ (length xs ≤ i)
            → IsReadAs n (get_or (texts ++ word ∷ []) i []) (value n (get_or (xs ++ x ∷ []) i y))
        number_at i y lt (inl less) =
            subst (λ t. IsReadAs n t (value n (get_or (xs ++ x ∷ []) i y))) (sym (get_or_append_left texts (word ∷ []) [] i (omega (arith, less, h.count))))
            (subst (λ z. IsReadAs n (get_or texts i []) (value n z)) (sym (get_or_append_left xs (x ∷ []) y i less)) (h.numbers i y less))
        number_at i y lt (inr most) =
            let last : length xs ≡ i = omega (arith, lt, most, length-append xs (x ∷ [])) in
            let at : length texts ≡ i = omega (arith, last, h.count) in
            subst (λ t. IsReadAs n t (value n (get_or (xs ++ x ∷ []) i y))) (sym (ap (λ k. get_or (texts ++ word ∷ []) k []) (sym at) ∙ get_or-append_seam texts word [] []))
            (subst (λ z. IsReadAs n word (value n z)) (sym (ap (λ k. get_or (xs ++ x ∷ []) k y) (sym last) ∙ get_or-append_seam xs x [] y)) r)

    first_of : (ys : List S) → 0 < length ys → S
    first_of [] lt = absurd (omega arith)
    first_of (y ∷ ys) lt = y

    not-beyond : (i : ℕ) → i < length texts → IsBeyond n (get_or texts i []) → ⊥
    not-beyond i lt b =
        let x = first_of xs (omega (arith, lt, h.count)) in
        not_memory b.0 (no-fault n (get_or texts i []) (value n (get_or xs i x)) (number_range b.0) (h.numbers i x (omega (arith, lt, h.count))) b.1)

    pub within-limits : (earlier : List (List ℕ)) (scale : Scale) → IsScaleOf scale (earlier ++ texts) → ¬ (PassesIn n earlier texts)
    within-limits earlier scale s (inl r) = not-beyond r.0 r.1 r.2
    within-limits earlier scale s (inr p) = scale-within scale (earlier ++ texts) s p

pub so-far-passes : (n : ℕ) (earlier texts : List (List ℕ)) (word : List ℕ) (d s : ℕ) → IsMeasured word d s → (scale : Scale)
    → CannotJoin scale.denominator scale.size d s → IsScaleOf scale (earlier ++ texts) → PassesIn n earlier (texts ++ word ∷ [])
so-far-passes n earlier texts word d s m scale c h =
    inr (subst PassesTogether (append_assoc earlier texts (word ∷ [])) (passes-joined scale (earlier ++ texts) word d s h m c))

pub value-of-read : (n : ℕ) (word : List ℕ) (x : Number n) → IsReadAs n word x → IsValueText word
value-of-read n word x h = record {
  number = record { terms = h.terms; are_terms = h.are_terms; spells = h.spells };
  increasing = h.increasing;
  not_zero = h.not_zero;
}

pub value-of-beyond : (n : ℕ) (word : List ℕ) (p : ℕ) → IsRangeFault n word p ⊎ IsTotalFault n word p → IsValueText word
value-of-beyond n word p (inl f) = record { number = f.0; increasing = f.1; not_zero = f.2 }
value-of-beyond n word p (inr f) = record { number = f.0; increasing = f.1; not_zero = f.2 }

-- what is known of one number more, by whether there is a scale
module _ {S : Type 0} (order : S → ℕ) (value : (n : ℕ) → S → Number n) (n : ℕ) (earlier texts : List (List ℕ)) (word : List ℕ) (xs : List S) where
  pub so-far-unchanged : (scale : Option Scale) → IsValueText word → scale ≡ None → AreReadSoFar order value n earlier texts xs scale
      → AreReadSoFar order value n earlier (texts ++ word ∷ []) xs scale
  so-far-unchanged None v e h = passes-in-more n earlier texts word v h
  so-far-unchanged (Some scale) v e h = absurd (cc)

  pub so-far-passes-at : (given : Option Scale) (d s : ℕ) → IsMeasured word d s → (scale : Scale) → given ≡ Some scale
      → CannotJoin scale.denominator scale.size d s → AreReadSoFar order value n earlier texts xs given → PassesIn n earlier (texts ++ word ∷ [])
  so-far-passes-at given d s m scale e c h =
      so-far-passes n earlier texts word d s m scale c (subst (AreReadSoFar order value n earlier texts xs) e h).1

  pub so-far-joined-at : (ys : List S) (given : Option Scale) (x : S) (d s : ℕ) → order x ≡ n → IsReadAs n word (value n x) → IsMeasured word d s
      → (scale next : Scale) → given ≡ Some scale → IsJoined scale.denominator scale.size d s next → ys ≡ xs ++ x ∷ []
      → AreReadSoFar order value n earlier texts xs given
      → AreReadAs order value n (texts ++ word ∷ []) ys × IsScaleOf next (earlier ++ (texts ++ word ∷ []))
  so-far-joined-at ys given x d s o r m scale next e j i h =
      let state : AreReadAs order value n texts xs × IsScaleOf scale (earlier ++ texts) = subst (AreReadSoFar order value n earlier texts xs) e h in (
        subst (AreReadAs order value n (texts ++ word ∷ [])) (sym i) (reads-more order value n texts xs state.0 word x o r),
        subst (IsScaleOf next) (append_assoc earlier texts (word ∷ [])) (scale-joined scale (earlier ++ texts) word d s state.1 m next j),
      )

-- a text that leaves the grammar
same-form : (text : List ℕ) (v : IsValueText text) (form : IsNumber text) → v.number.terms ≡ form.terms
same-form text v form = spelled-unique v.number.terms form.terms v.number.are_terms form.are_terms (v.number.spells ∙ sym form.spells)

pub shape-outside : (text : List ℕ) (p : ℕ) → IsShapeFault text p → ¬ (IsValueText text)
shape-outside text p (inl f) v = f.0 v.number
shape-outside text p (inr f) v = not-unordered f.0.terms p (subst AreIncreasing (same-form text v f.0) v.increasing) f.1

pub zero-outside : (text : List ℕ) (p : ℕ) → IsZeroFault text p → ¬ (IsValueText text)
zero-outside text p f v = not-each (λ t. ¬ (HasZero t)) f.2.before f.2.term f.2.after f.0.terms f.2.parts
    (subst (All (λ t. ¬ (HasZero t))) (same-form text v f.0) v.not_zero) f.2.zero
